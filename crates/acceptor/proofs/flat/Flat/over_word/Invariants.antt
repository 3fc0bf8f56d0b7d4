use Rattle.std.proofs.Common.{◌≡◌, ℕ, ◌<◌, ◌↔◌}
use mathlib.Core.List.{Memᴰ}
use Rattle.table.specs.Sets.{In}
use Rattle.pga.specs.Files.{Fit}
use Rattle.acceptor.specs.Rows.{arcs_of}
use Rattle.acceptor.specs.Flats.{acceptor_of}
use Rattle.acceptor.proofs.flat.Flat.over_word.Given as goal

-- the targets of the nodes so far
abbrev pub invariant-loop-node : goal.invariant-loop-node
invariant-loop-node l =
    (l.node-iterator.words ≡ l.set.words)
    × (Fit (acceptor_of l.self) → (k : ℕ) → In l.targets.words k
    ↔ ((q : ℕ) × (q < l.node-iterator.from) × In l.set.words q × Memᴰ (q, l.word, k) (arcs_of l.self.arcs.bytes.now)))
