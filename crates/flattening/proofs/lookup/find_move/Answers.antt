use Rattle.std.proofs.Common.{◌≡◌, arith}
use Rattle.std.proofs.lemmas.Bool.Decides.{nat_tests}
use Rattle.std.proofs.lemmas.List.{length-map}
use Rattle.finding.specs.Finding.{arrow}
use Rattle.finding.proofs.Seeking.{arrow_read}
use Rattle.flattening.proofs.Targets.{none_past, none_else, one_here}
use Rattle.flattening.proofs.lookup.find_move.Goals as goal

pub returns-in_err-found : goal.returns-in_err-found
returns-in_err-found g c =
    rw c.from_residual.ensures
    (none_past _ c.args.rising.now.rising _ _ _ c.seek.ensures (omega (arith, c.in_err-found.ensures.lookup.3, length-map c.args.rising.now.moves.now (arrow g.N.Number.value))))

pub returns-then-eq : goal.returns-then-eq
returns-then-eq g c =
    let v = g.N.Number.value in
    let m = c.in_ok-found.found.now in
    let found = c.in_ok-found.ensures.lookup in
    let is : (v m.from ≡ v c.args.from) × (m.symbol ≡ c.args.symbol) = grind (arith, nat_tests) in
    one_here _ c.args.rising.now.rising _ _ _ c.seek.ensures (arrow v m) (arrow_read v c.args.rising.now.moves.now c.seek.result m found.3.0 found.1) is.0 is.1

pub returns-else-eq : goal.returns-else-eq
returns-else-eq g c =
    let v = g.N.Number.value in
    let m = c.in_ok-found.found.now in
    let found = c.in_ok-found.ensures.lookup in
    none_else _ c.args.rising.now.rising _ _ _ c.seek.ensures (arrow v m) (arrow_read v c.args.rising.now.moves.now c.seek.result m found.3.0 found.1) (λ e f. grind (arith, nat_tests))
