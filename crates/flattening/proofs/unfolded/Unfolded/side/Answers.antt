use Rattle.std.proofs.Common.{◌≡◌, ◌-◌, length, take, drop, ap, sym, ◌∙◌, subst, arith, rules}
use borrow.Author.Tests.{tests}
use Rattle.std.specs.List.{before_first}
use Rattle.std.proofs.lemmas.Iterator.{IsFirst-from_position, YieldsList-from_slice}
use Rattle.std.proofs.lemmas.List.{take_all, length-drop}
use Rattle.flattening.specs.Walks.{Spells}
use Rattle.flattening.proofs.Walking.{ends, first_end, side_is}
use Rattle.flattening.proofs.unfolded.Unfolded.side.Goals as goal

pub returns : goal.returns
returns c =
    let after = c.args.self.now.items.now.after in
    let rest = take (length after - c.args.first) (drop c.args.first after) in
    let whole : take (length after - c.args.first) (drop c.args.first after) ≡ drop c.args.first after = take_all _ _ (omega (arith, length-drop c.args.first after)) in
    let at = IsFirst-from_position _ _ _ (λ x. x ≡ 65535) (λ x. x ≡ 65535 → ⊥) c.position.ensures.ran (YieldsList-from_slice _ c.iter.ensures.rest) (λ x q k. search (rules, tests)) (λ x q k. search (rules, tests)) in
    let is = first_end rest c.position.result c.unwrap_or-end.result at c.unwrap_or-end.ensures in
    subst (Spells after c.args.first) (sym (is ∙ ap (before_first ends) whole ∙ side_is c.requires.1)) c.requires.1
