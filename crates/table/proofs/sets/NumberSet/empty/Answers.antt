use Rattle.std.proofs.Common.{replicate, refl, arith}
use Rattle.table.proofs.Rows.{zeros_at, zeros_lack}
use Rattle.table.proofs.sets.NumberSet.empty.Goals as goal

pub invariant_of-result : goal.invariant_of-result
invariant_of-result g c = record { row = (refl, λ i. omega (arith, zeros_at 64 i)) }

pub returns : goal.returns
returns g c = zeros_lack (replicate 64 0) (zeros_at 64)
