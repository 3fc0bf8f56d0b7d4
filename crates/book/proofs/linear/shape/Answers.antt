use Rattle.std.proofs.Common.{sym, ap, ◌∙◌, arith}
use Rattle.std.proofs.lemmas.Bool.{not-true, true≢false}
use Rattle.book.specs.declared.rules.Rules.{Rules}
use Rattle.book.specs.Reading.{rules_in}
use Rattle.book.proofs.Held.{known}
use Rattle.book.proofs.EachRule.{looked_none, looked_more, looked_short, looked_all}
use Rattle.book.proofs.linear.shape.Goals as goal

pub loop-rule-init : goal.loop-rule-init
loop-rule-init c =
    let k = known _ _ c.in_ok-book.ensures.checked in
    looked_none k
    (ap (λ (r : Rules). rules_in r.count r.entries.now) c.into_iter-rule-iterator.ensures.into_iter_gives ∙ c.of-rule-items.ensures k.grammar k.holds)

pub returns-then-not-shape-2 : goal.returns-then-not-shape-2
returns-then-not-shape-2 c =
    looked_all
    (looked_more c.loop-rule.invariant c.in-Some.ensures.steps c.with-shape.ensures.left c.with-shape.ensures.right)
    (λ e. absurd (true≢false (sym e ∙ not-true _ c.if-not-shape.true)))
    (λ e. absurd (true≢false (sym e ∙ not-true _ c.if-not-shape-2.true)))

pub loop-rule-preserved-then-rule-lt2 : goal.loop-rule-preserved-then-rule-lt2
loop-rule-preserved-then-rule-lt2 c = looked_short c.loop-rule.invariant c.in-Some.ensures.steps (omega arith)

pub loop-rule-preserved : goal.loop-rule-preserved
loop-rule-preserved c =
    looked_more c.loop-rule.invariant c.in-Some.ensures.steps c.with-shape.ensures.left c.with-shape.ensures.right

pub returns : goal.returns
returns c = looked_all c.loop-rule.invariant (λ _. c.in-None.ensures.steps.0) (λ _. c.in-None.ensures.steps.0)
