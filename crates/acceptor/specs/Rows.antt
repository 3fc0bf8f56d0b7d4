-- The arcs and jumps that stand in bytes, one after the other.
use Rattle.std.specs.Prelude.{ℕ, ◌+◌, ◌*◌, ◌/◌, ◌<◌, ◌≤◌, List, map, length, Some, None, Option}
use Rattle.std.specs.List.{range_with_len}
use mathlib.Core.List.{Memᴰ}
use Rattle.finding.specs.Numbered.{Arrow}
use Rattle.fields.specs.Reading.{arcs_from}
use Rattle.pga.specs.Reading.{jump_in, jumps_from}

-- the arcs of six bytes each
abbrev pub arcs_of : List ℕ → List Arrow
arcs_of bytes = arcs_from bytes 0 (length bytes / 6)

-- the jumps of four bytes each
abbrev pub jumps_of : List ℕ → List (ℕ × ℕ)
jumps_of bytes = jumps_from bytes 0 (length bytes / 4)

-- what rows of so many bytes each are found by: the two numbers that each begins with
abbrev pub keys_of : ℕ → List ℕ → List (ℕ × ℕ)
keys_of size bytes = map (λ k. jump_in bytes (0 + size * k)) (range_with_len 0 (length bytes / size))

-- what an arc is found by: the node or state left, and the word
abbrev pub arc_key : Arrow → ℕ × ℕ
arc_key a = (a.0, a.1)

-- the least number that is x or more of which P holds
abbrev pub LeastOf : (ℕ → Type 0) → ℕ → Option ℕ → Type 0
LeastOf P x None = (y : ℕ) → x ≤ y → P y → ⊥
LeastOf P x (Some y) = (x ≤ y) × P y × ((z : ℕ) → x ≤ z → z < y → P z → ⊥)

-- an arc on x leaves q
abbrev pub Leaves : List Arrow → ℕ → ℕ → Type 0
Leaves arcs q x = (p : ℕ) × Memᴰ (q, x, p) arcs

-- the least word that is x or more on which an arc leaves q
abbrev pub LeastWord : List Arrow → ℕ → ℕ → Option ℕ → Type 0
LeastWord arcs q x r = LeastOf (Leaves arcs q) x r
