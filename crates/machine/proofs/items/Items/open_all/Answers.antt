use Rattle.std.proofs.Common.{◌≡◌, length, subst, ap, arith}
use Rattle.std.proofs.lemmas.List.{length-append}
use Rattle.machine.specs.Closing.{OpenedTo}
use Rattle.machine.proofs.Opening.{grown_more}
use Rattle.machine.proofs.Seeding.{noted_at, noted_all, opened_more}
use Rattle.machine.proofs.items.Items.open_all.Goals as goal

pub open_name-requires : goal.open_name-requires
open_name-requires c =
    let (_, here, _) = noted_at c.loop-name.at.names c.loop-name.i c.in-Some.name c.in-Some.ensures.at in c.get.ensures.small _ here

pub loop-name-smaller : goal.loop-name-smaller
loop-name-smaller c =
    let (h, _, _) = noted_at c.loop-name.at.names c.loop-name.i c.in-Some.name c.in-Some.ensures.at in
    let few = c.get.ensures.few in omega arith

pub loop-name-preserved : goal.loop-name-preserved
loop-name-preserved c =
    let i = c.loop-name.invariant in
    let e = c.open_name.ensures in
    let (h, here, _) = noted_at c.loop-name.at.names c.loop-name.i c.in-Some.name c.in-Some.ensures.at in (
      grown_more _ _ _ i.0 e.grown,
      omega (arith, ap length e.grown.names, length-append c.loop-name.at.names e.grown.more),
      (λ g K of w.
          let (now, done) = i.2 g K of w in
          let (name, reason) = now.reasons _ here in
          (e.within g K of name reason now, opened_more g c.loop-name.i _ c.loop-name.at _ c.in-Some.ensures.at e.grown done (λ k f. e.opened g k of name f))),
    )

pub returns-clause-opened : goal.returns-clause-opened
returns-clause-opened c g K of w =
    let i = c.loop-name.invariant in
    let most = noted_all c.loop-name.at.names c.loop-name.i c.in_default.ensures.at in
    let end : c.loop-name.i ≡ length c.loop-name.at.names = (let a = i.1 in omega arith) in
    ((i.2 g K of w).0, subst (λ n. OpenedTo g n c.loop-name.at) end (i.2 g K of w).1)
