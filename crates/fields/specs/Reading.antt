-- Reading a file: the numbers and arcs that stand in its bytes.
use Rattle.std.specs.Prelude.{ℕ, ◌+◌, ◌*◌, List, map, slice_index}
use Rattle.std.specs.List.{range_with_len}
use Rattle.finding.specs.Numbered.{Arrow}

-- the number in the two bytes at `at`, the low one first
abbrev pub number_at : List ℕ → ℕ → ℕ
number_at bytes at = slice_index bytes at + 256 * slice_index bytes (at + 1)

-- the arc at `at`
abbrev pub arc_in : List ℕ → ℕ → Arrow
arc_in bytes at = (number_at bytes at, number_at bytes (at + 2), number_at bytes (at + 4))

-- the first n arcs from `start` on
abbrev pub arcs_from : List ℕ → ℕ → ℕ → List Arrow
arcs_from bytes start n = map (λ k. arc_in bytes (start + 6 * k)) (range_with_len 0 n)
