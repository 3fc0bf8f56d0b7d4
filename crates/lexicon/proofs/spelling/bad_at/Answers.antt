use Rattle.std.proofs.Common.{rules, take, Some, None, arith}
use borrow.Author.Tests.{tests}
use Rattle.std.proofs.lemmas.Iterator.{YieldsList-from_slice, IsFirst-from_position}
use Rattle.lexicon.specs.Spellings.{IsLetter}
use Rattle.lexicon.proofs.Reading.{other_bad, unfit_bad}
use Rattle.lexicon.proofs.spelling.bad_at.Goals as goal

pub returns-in-Some : goal.returns-in-Some
returns-in-Some c =
    let found = IsFirst-from_position _ _ (Some c.in-Some.i) (λ x. IsLetter x → ⊥) IsLetter c.in-Some.ensures.ran
    (YieldsList-from_slice (take c.min.result c.args.bytes.now) c.iter.ensures.rest) (λ x q k. search (rules, tests)) (λ x q k. search (rules, tests)) in
    other_bad c.args.bytes.now c.min.result (omega (arith, c.min.ensures)) c.in-Some.i found

pub returns-else-contains : goal.returns-else-contains
returns-else-contains c =
    let found = IsFirst-from_position _ _ None (λ x. IsLetter x → ⊥) IsLetter c.in_default.ensures.ran
    (YieldsList-from_slice (take c.min.result c.args.bytes.now) c.iter.ensures.rest) (λ x q k. search (rules, tests)) (λ x q k. search (rules, tests)) in
    unfit_bad c.args.bytes.now c.min.result (omega (arith, c.min.ensures)) found (λ l h. grind arith)
