-- The numbers of an arc in a file, and their ranges.
use Rattle.std.specs.Prelude.{ℕ, ◌<◌, List, [], ◌∷◌}
use Rattle.finding.specs.Numbered.{Arrow}

-- from, word, to
abbrev pub arc_numbers : Arrow → List ℕ
arc_numbers m = m.0 ∷ (m.1 ∷ (m.2 ∷ []))

-- an arc on one of so many words, between two of so many positions
abbrev pub ArcWithin : ℕ → ℕ → Arrow → Type 0
ArcWithin words positions m = (m.0 < positions) × (m.1 < words) × (m.2 < positions)
