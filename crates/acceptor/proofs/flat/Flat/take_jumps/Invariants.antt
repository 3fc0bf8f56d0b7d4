use mathlib.Core.List.{Memᴰ}
use Rattle.std.proofs.Common.{ℕ, ◌<◌}
use Rattle.table.specs.Lists.{StandsAt, InOrder}
use Rattle.table.specs.Sets.{In}
use Rattle.theory.specs.Flattening.{JumpLess}
use Rattle.acceptor.specs.Rows.{jumps_of}
use Rattle.acceptor.specs.Steps.{Grown}
use Rattle.acceptor.proofs.flat.Flat.take_jumps.Given as goal

-- the node's jumps in the rows so far are taken
abbrev pub invariant-loop-row : goal.invariant-loop-row
invariant-loop-row l =
    Grown (λ k. Memᴰ (l.node.0, k) (jumps_of l.self.jumps.bytes.now)) l.initial.reached.set.words l.initial.reached.fresh.words l.reached.set.words l.reached.fresh.words
    × (InOrder JumpLess (jumps_of l.self.jumps.bytes.now) → (j k : ℕ) → StandsAt (jumps_of l.self.jumps.bytes.now) j (l.node.0, k) → j < l.row
    → k < 4096 → In l.reached.set.words k)
