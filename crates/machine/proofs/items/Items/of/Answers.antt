use Rattle.std.proofs.Common.{◌≡◌, ℕ, ◌+◌, ◌-◌, ◌<◌, List, length, get_or, set, sym, refl, ap, ◌∙◌, subst, arith}
use Rattle.book.specs.declared.rules.Rules.{Rules}
use Rattle.book.specs.Reading.{rules_in}
use Rattle.book.proofs.Held.{known}
use Rattle.table.proofs.Rows.{zeros_at}
use Rattle.machine.proofs.IndexWalk.{fill_start, named, room, fill_more, fill_all}
use Rattle.machine.proofs.Links.{set_below, set_falls}
use Rattle.machine.specs.Index.{Falls}
use Rattle.machine.proofs.items.Items.of.Goals as goal

pub loop-rule-init : goal.loop-rule-init
loop-rule-init c =
    let k = known _ _ c.requires in (
      refl,
      fill_start k _ (ap (λ (r : Rules). rules_in r.count r.entries.now) c.into_iter-rule-iterator.ensures.into_iter_gives ∙ c.of-rule-items.ensures k.grammar k.holds),
      (λ n. omega (arith, zeros_at 1024 n)),
      (λ n. omega (arith, zeros_at 1024 n)),
      (λ k p. omega (arith, zeros_at 4096 k)),
    )

pub overflow_sub-name : goal.overflow_sub-name
overflow_sub-name c =
    let n = named c.loop-rule.invariant.1 c.in-Some.ensures.steps in
    let e = c.from.ensures in omega (arith, n.0)

pub add_rule-requires : goal.add_rule-requires
add_rule-requires c =
    let n = named c.loop-rule.invariant.1 c.in-Some.ensures.steps in
    let e = c.from.ensures in (omega (arith, n.1), room c.loop-rule.invariant.1 c.in-Some.ensures.steps)

pub overflow_add-first-in-loop-rule : goal.overflow_add-first-in-loop-rule
overflow_add-first-in-loop-rule c =
    omega (arith, room c.loop-rule.invariant.1 c.in-Some.ensures.steps)

pub loop-rule-preserved : goal.loop-rule-preserved
loop-rule-preserved c =
    let i = c.loop-rule.invariant in
    let now = c.add_rule.ensures in
    let left = c.in-Some.rule.left in
    let right = c.in-Some.rule.right.now in
    let first = c.loop-rule.first in
    let words = c.args.book.words in
    let head = c.loop-rule.items.head in
    let name = left - words in
    let n = named i.1 c.in-Some.ensures.steps in
    let fits = room i.1 c.in-Some.ensures.steps in
    let heads = i.1.heads in
    let nexts = i.1.nexts in
    let next-is : c.add_rule.new.self.next ≡ set c.loop-rule.items.next first (get_or head name 0) = now.next ∙ ap (λ l. set c.loop-rule.items.next first (get_or head l 0)) (ap (λ l. l - words) c.from.ensures) in
    let head-is : c.add_rule.new.self.head ≡ set head name first = now.head ∙ ap (λ l. set head (l - words) first) c.from.ensures in (
      now.words ∙ i.0,
      fill_more i.1 c.in-Some.ensures.steps _ _ _ now.after next-is head-is,
      (λ k. subst (λ (h : List ℕ). get_or h k 0 < first + (length right + 1)) (sym head-is) (set_below head name first _ (omega (arith, n.1)) (omega arith) (λ m. let h = i.2 m in omega arith) k)),
      (λ k. subst (λ (h : List ℕ). get_or h k 0 < 4096) (sym head-is) (set_below head name first 4096 (omega (arith, n.1)) (omega arith) i.3 k)),
      subst Falls (sym next-is) (set_falls c.loop-rule.items.next first (get_or head name 0) (omega arith) (i.2 name) i.4),
    )

pub returns-clause-indexed : goal.returns-clause-indexed
returns-clause-indexed c = fill_all c.loop-rule.invariant.1 c.in-None.ensures.steps.0

pub returns-clause-falls : goal.returns-clause-falls
returns-clause-falls c = c.loop-rule.invariant.4

pub returns-clause-heads : goal.returns-clause-heads
returns-clause-heads c = c.loop-rule.invariant.3
