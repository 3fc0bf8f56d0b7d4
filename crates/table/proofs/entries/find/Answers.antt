use Rattle.std.proofs.Common.{rules, ◌≡◌, true, false}
use borrow.Author.Tests.{tests}
use Rattle.std.proofs.lemmas.Iterator.{YieldsList-from_slice, IsFirst-from_position}
use Rattle.table.proofs.Found.{looked}
use Rattle.table.proofs.entries.find.Goals as goal

pub returns : goal.returns
returns g c =
    looked g.E.PartialEq.eq c.requires c.args.rows.now c.args.e.now c.position.result
    (IsFirst-from_position _ _ c.position.result (λ x. true ≡ g.E.PartialEq.eq x c.args.e.now) (λ x. false ≡ g.E.PartialEq.eq x c.args.e.now) c.position.ensures.ran (YieldsList-from_slice c.args.rows.now c.iter.ensures.rest) (λ x q k. search (rules, tests)) (λ x q k. search (rules, tests)))
