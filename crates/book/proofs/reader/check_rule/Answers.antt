use Rattle.std.proofs.Common.{⊎_elim, arith, rules}
use Rattle.std.proofs.lemmas.Result.{err_from_is_err_and}
use Rattle.book.proofs.NextRule.{LengthRead, left_missing, left_wrong, length_missing, length_wrong, symbol_fault, items_wrong, rule_sound}
use Rattle.book.proofs.reader.check_rule.Given as given
use Rattle.book.proofs.reader.check_rule.Goals.{After-check_symbols}
use Rattle.book.proofs.reader.check_rule.Goals as goal

pub returns-in_err-left : goal.returns-in_err-left
returns-in_err-left g c b s =
    let p = err_from_is_err_and c.from_residual.result c.from_residual.ensures.1 in
    let m = c.in_err-left.ensures in
    rw (p.1, p.2, m.1) (left_missing b _ _ s m.0)

pub returns-then-left-so_far : goal.returns-then-left-so_far
returns-then-left-so_far g c b s =
    let l = c.in_ok-left.ensures in
    left_wrong b _ _ s l.0 (λ x y. ⊎_elim (λ z. omega arith) (λ z. omega arith) c.then-left-so_far.either)

pub returns-in_err-length : goal.returns-in_err-length
returns-in_err-length g c b s =
    let p = err_from_is_err_and c.from_residual-in_err-length.result c.from_residual-in_err-length.ensures.1 in
    let l = c.in_ok-left.ensures in
    let m = c.in_err-length.ensures in
    rw (p.1, p.2, m.1) (length_missing b _ _ s l.0 (omega arith) (omega arith) m.0)

pub returns-then-length-gt16 : goal.returns-then-length-gt16
returns-then-length-gt16 g c b s =
    let l = c.in_ok-left.ensures in
    let n = c.in_ok-length.ensures in
    length_wrong b _ _ s l.0 (omega arith) (omega arith) n.0 (omega arith)

-- once the symbols are checked, the left side and the length are known to be right
length_read : (g : given.Over) (c : After-check_symbols g) → LengthRead c.args.so_far (g.E.Entries.entries c.args.book.now) c.in_ok-length.length
length_read g c =
    let l = c.in_ok-left.ensures in
    let n = c.in_ok-length.ensures in
    record { present = l.0; least = omega arith; below = omega arith; next = n.0; is = n.1; short = omega arith }

pub returns-in_err-check_symbols : goal.returns-in_err-check_symbols
returns-in_err-check_symbols g c b s =
    let p = err_from_is_err_and c.from_residual-in_err-check_symbols.result c.from_residual-in_err-check_symbols.ensures.1 in
    rw (p.1, p.2) (symbol_fault b _ _ s (length_read g (goal.at.returns-in_err-check_symbols g c).After-check_symbols) c.in_err-check_symbols.ensures)

pub returns-then-items-gt4096 : goal.returns-then-items-gt4096
returns-then-items-gt4096 g c b s =
    items_wrong b _ _ s (length_read g (goal.at.returns-then-items-gt4096 g c).After-check_symbols) c.in_ok-check_symbols.ensures (omega arith)

pub returns : goal.returns
returns g c b s = rule_sound b _ _ s (length_read g (goal.at.returns g c).After-check_symbols) c.in_ok-check_symbols.ensures (search rules) (omega arith)
