-- Where the moves of an entry begin, in a list of moves.
use Rattle.std.specs.Prelude.{◌≡◌, ℕ, ◌<◌, ◌≤◌, ◌⊎◌, List, length}
use Rattle.table.specs.Lists.{StandsAt}
use Rattle.finding.specs.Numbered.{Arrow}

-- the move comes before the moves of entry q on symbol x or more
abbrev pub Before : Arrow → ℕ → ℕ → Type 0
Before m q x = (m.0 < q) ⊎ ((m.0 ≡ q) × (m.1 < x))

-- just the first n moves come before the moves of entry q on symbol x or more
pub record Parted (moves : List Arrow) (q x n : ℕ) : Type 0 where
  pub fits : n ≤ length moves
  pub front : (k : ℕ) (m : Arrow) → StandsAt moves k m → k < n → Before m q x
  pub rest : (k : ℕ) (m : Arrow) → StandsAt moves k m → n ≤ k → Before m q x → ⊥
