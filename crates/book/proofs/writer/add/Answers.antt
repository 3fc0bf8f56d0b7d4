use Rattle.std.proofs.Common.{refl, subst, inl, inr, ⊎_elim, arith}
use Rattle.std.proofs.lemmas.List.{length-set}
use Rattle.std.proofs.lemmas.Result.{err_from_is_err_and}
use Rattle.book.specs.Grammar.{rule}
use Rattle.book.specs.Refusals.{refusal}
use Rattle.book.specs.Flaws.{RuleFault}
use Rattle.book.specs.Checks.{Stands}
use Rattle.book.specs.Edits.AddFault.{book, rule as bad_rule}
use Rattle.book.specs.declared.reader.Summary.{Summary}
use Rattle.book.proofs.Held.{Known, known, known_bounds}
use Rattle.book.proofs.Writes.{Next, next, next_entries, crowded, added}
use Rattle.book.proofs.writer.add.Goals.{In_ok-end}
use Rattle.book.proofs.writer.add.Goals as goal

stands : {es : _} {s : Summary} (k : Known es s) → Stands k.grammar s
stands k = record { words = k.words; names = k.names; takes = k.takes; has = k.has }

-- the book and the rule passed the check
checked : (c : In_ok-end) → Next c.args.table.now (rule c.args.left c.args.right.now) c.in_ok-book.book c.in_ok-end.field-0
checked c =
    let k = known _ _ c.in_ok-book.ensures.checked in
    next (rule c.args.left c.args.right.now) k (c.in_ok-end.ensures k.grammar (stands k))

pub returns-in_err-book : goal.returns-in_err-book
returns-in_err-book c =
    let p = err_from_is_err_and c.from_residual.result c.from_residual.ensures.1 in
    rw (p.1, p.2) (book c.in_err-book.ensures.checked, refl)

pub check_rule-requires : goal.check_rule-requires
check_rule-requires c =
    let b = known_bounds (known _ _ c.in_ok-book.ensures.checked) in
    (omega (arith, b.0), b.1, b.2, b.3)

pub returns-in_err-end : goal.returns-in_err-end
returns-in_err-end c =
    let p = err_from_is_err_and c.from_residual-in_err-end.result c.from_residual-in_err-end.ensures.1 in
    let k = known _ _ c.in_ok-book.ensures.checked in
    let new = rule c.args.left c.args.right.now in
    let f = refusal c.in_err-end.field-0.0 in
    rw (p.1, p.2) (bad_rule k.grammar k.holds (subst (λ l. RuleFault k.grammar l f) (next_entries k new) (c.in_err-end.ensures k.grammar (stands k))), refl)

pub returns-then-book-eq-MOST_RULES : goal.returns-then-book-eq-MOST_RULES
returns-then-book-eq-MOST_RULES c =
    (crowded (checked (goal.at.returns-then-book-eq-MOST_RULES c).In_ok-end) (⊎_elim (λ e. inl (omega arith)) (λ e. inr (omega arith)) c.then-book-eq-MOST_RULES.either), refl)

pub write_rule-requires : goal.write_rule-requires
write_rule-requires c =
    let n = checked (goal.at.write_rule-requires c).In_ok-end in
    let end = n.end in
    (rw c.count_rule.ensures (simp length-set (omega arith)), n.fit.short)

pub returns : goal.returns
returns c =
    let n = checked (goal.at.returns c).In_ok-end in
    added n (omega (arith, (known_bounds n.book).4)) c.count_rule.ensures c.write_rule.ensures
