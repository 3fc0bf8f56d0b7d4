use Rattle.std.proofs.Common.{ℕ, drop}
use Rattle.theory.specs.Flattening.{Leads}
use Rattle.flattening.specs.Walks.{arrows}
use Rattle.flattening.proofs.unfolded.Unfolded.walk.Given as goal

-- wherever the whole way ends, the rest of it ends too
abbrev pub invariant-loop-symbol : goal.invariant-loop-symbol
invariant-loop-symbol l =
    (p : ℕ) → Leads (arrows l.self.moves.now) l.initial.at.0 l.symbol-items p → Leads (arrows l.self.moves.now) l.at.0 (drop l.symbol-index l.symbol-items) p
