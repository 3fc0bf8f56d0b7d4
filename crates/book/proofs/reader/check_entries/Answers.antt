use Rattle.std.proofs.Common.{ap, ◌∙◌, refl, arith}
use Rattle.std.proofs.lemmas.Result.{err_from_is_err_and}
use Rattle.book.specs.declared.reader.Summary.{Summary}
use Rattle.book.specs.Flaws.TableFault.{header, rule}
use Rattle.book.proofs.Held.{read_none, read_more, read_bound}
use Rattle.book.proofs.reader.check_entries.Goals as goal

pub returns-in_err-header : goal.returns-in_err-header
returns-in_err-header g c =
    let p = err_from_is_err_and c.from_residual.result c.from_residual.ensures.1 in
    rw (p.1, p.2) (header c.in_err-header.ensures)

pub loop-i-init : goal.loop-i-init
loop-i-init g c = record { read = read_none (g.E.Entries.entries c.args.book.now) _ c.in_ok-header.ensures; rules = refl }

pub check_rule-requires : goal.check_rule-requires
check_rule-requires g c =
    let b = read_bound _ _ _ c.loop-i.invariant.read in
    (omega (arith, b.0), b.1, b.2, b.3)

pub returns-in_err-so_far : goal.returns-in_err-so_far
returns-in_err-so_far g c =
    let p = err_from_is_err_and c.from_residual-in_err-so_far.result c.from_residual-in_err-so_far.ensures.1 in
    let i = c.loop-i.invariant.read in
    let r = c.loop-i.invariant.rules in
    rw (p.1, p.2) (rule _ i.grammar _ i.begins (let n = i.number in omega arith) (c.in_err-so_far.ensures i.grammar i.stands))

pub loop-i-preserved : goal.loop-i-preserved
loop-i-preserved g c =
    let i = c.loop-i.invariant.read in
    let r = c.loop-i.invariant.rules in
    let k = c.in_ok-so_far.ensures i.grammar i.stands in
    record { read = read_more _ _ _ _ i (omega arith) k; rules = ap (λ (s : Summary). s.rules) k.0 ∙ r }
