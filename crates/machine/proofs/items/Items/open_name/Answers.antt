use Rattle.std.proofs.Common.{◌≡◌, get_or, refl, sym, subst}
use mathlib.Core.List.{Memᴰ}
use Rattle.machine.specs.Index.{links}
use Rattle.machine.proofs.Links.{links_small}
use Rattle.machine.proofs.Opening.{grown_none, grown_more, open_start, open_closed, open_more}
use Rattle.machine.proofs.items.Items.open_name.Goals as goal

pub loop-item-init : goal.loop-item-init
loop-item-init c =
    let items = c.args.self.now in
    let is : c.into_iter-item-iterator.result ≡ links items.next (get_or items.head c.args.name 0) = cc in (
      grown_none c.args.at.now,
      (λ j m. links_small items.next (get_or items.head c.args.name 0) j (subst (Memᴰ j) is m)),
      (λ g of n. open_start g items c.args.name _ _ of n is),
      (λ g K of n a w. w),
    )

pub take_item-requires : goal.take_item-requires
take_item-requires c = c.loop-item.invariant.1 _ (subst (Memᴰ c.in-Some.item.0) (sym c.in-Some.ensures.steps) (Memᴰ.head refl))

pub loop-item-preserved : goal.loop-item-preserved
loop-item-preserved c =
    let i = c.loop-item.invariant in
    let e = c.take_item.ensures in (
      grown_more _ _ _ i.0 e.grown,
      (λ j m. i.1 j (subst (Memᴰ j) (sym c.in-Some.ensures.steps) (Memᴰ.tail m))),
      (λ g of n. open_more g _ _ _ _ _ (i.2 g of n) c.in-Some.ensures.steps _ e.grown.still e.here),
      (λ g K of n a w. e.within g K of (open_closed g _ _ _ _ _ (i.2 g of n) c.in-Some.ensures.steps K a) (i.3 g K of n a w)),
    )
