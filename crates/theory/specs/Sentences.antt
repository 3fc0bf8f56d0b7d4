-- The sentences of an acceptor: what is read along arcs and jumps from node 0 to the final node.
use Rattle.std.specs.Prelude.{ℕ, List, [], ◌∷◌}
use mathlib.Core.List.{Memᴰ}
use Rattle.theory.specs.Flattening.{Acceptor}

-- from one node to another, reading one word for each arc
pub data Reads (f : Acceptor) : ℕ → List ℕ → ℕ → Type 0 where
  stop : {p : ℕ} → Reads f p [] p
  arc : {q r p x : ℕ} {w : List ℕ} → Memᴰ (q, x, r) f.arcs → Reads f r w p → Reads f q (x ∷ w) p
  jump : {q r p : ℕ} {w : List ℕ} → Memᴰ (q, r) f.jumps → Reads f r w p → Reads f q w p

-- the acceptor passes w
abbrev pub Passes : Acceptor → List ℕ → Type 0
Passes f w = Reads f 0 w f.final
