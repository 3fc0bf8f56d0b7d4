use Rattle.std.proofs.Common.{◌≡◌, ℕ, ◌<◌}
use mathlib.Core.List.{Memᴰ}
use Rattle.table.specs.Lists.{InOrder}
use Rattle.table.specs.Sets.{In}
use Rattle.theory.specs.Flattening.{JumpLess}
use Rattle.acceptor.specs.Rows.{jumps_of}
use Rattle.acceptor.specs.Steps.{Grown, FromAny}
use Rattle.acceptor.proofs.flat.Flat.take_wave.Given as goal

-- the jumps of the fresh nodes so far are taken
abbrev pub invariant-loop-node : goal.invariant-loop-node
invariant-loop-node l =
    (l.node-iterator.words ≡ l.initial.node-iterator.words)
    × Grown (FromAny (jumps_of l.self.jumps.bytes.now) l.initial.node-iterator.words) l.initial.reached.set.words l.initial.reached.fresh.words l.reached.set.words l.reached.fresh.words
    × (InOrder JumpLess (jumps_of l.self.jumps.bytes.now) → (q k : ℕ) → q < l.node-iterator.from → In l.initial.node-iterator.words q
    → Memᴰ (q, k) (jumps_of l.self.jumps.bytes.now) → k < 4096 → In l.reached.set.words k)
