-- The place of a thing among rows in order, and the move of an entry on a symbol.
use Rattle.std.specs.Prelude.{◌≡◌, ℕ, ◌<◌, ◌≤◌, List, length, Some, None, Option}
use mathlib.Core.List.{Memᴰ}
use Rattle.table.specs.Lists.{StandsAt}
use Rattle.finding.specs.Numbered.{Arrow}

-- the first i rows come before e, and the others do not
pub record PlaceOf {E : Type 0} (before : E → E → Type 0) (rows : List E) (e : E) (i : ℕ) : Type 0 where
  pub within : i ≤ length rows
  pub front : (k : ℕ) (t : E) → k < i → StandsAt rows k t → before t e
  pub rest : (k : ℕ) (t : E) → i ≤ k → StandsAt rows k t → before t e → ⊥

-- where q moves on x: to the target of its one move, or nowhere
abbrev pub MoveOn : List Arrow → ℕ → ℕ → Option ℕ → Type 0
MoveOn moves q x None = (p : ℕ) → Memᴰ (q, x, p) moves → ⊥
MoveOn moves q x (Some p) = Memᴰ (q, x, p) moves × ((t : ℕ) → Memᴰ (q, x, t) moves → t ≡ p)
