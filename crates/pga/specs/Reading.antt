-- Reading a file: the acceptor that its numbers describe.
use Rattle.std.specs.Prelude.{ℕ, ◌+◌, ◌*◌, List, map}
use Rattle.std.specs.List.{range_with_len}
use Rattle.fields.specs.Reading.{number_at, arcs_from}
use Rattle.theory.specs.Flattening.{Acceptor}

-- the jump at `at`
abbrev pub jump_in : List ℕ → ℕ → ℕ × ℕ
jump_in bytes at = (number_at bytes at, number_at bytes (at + 2))

-- the first n jumps from `start` on
abbrev pub jumps_from : List ℕ → ℕ → ℕ → List (ℕ × ℕ)
jumps_from bytes start n = map (λ k. jump_in bytes (start + 4 * k)) (range_with_len 0 n)

-- the n numbers from `at` on
abbrev pub row_numbers : List ℕ → ℕ → ℕ → List ℕ
row_numbers bytes at n = map (λ i. number_at bytes (at + 2 * i)) (range_with_len 0 n)

-- the first rows from `start` on, of so many numbers each
abbrev pub rows_from : List ℕ → ℕ → ℕ → ℕ → List (List ℕ)
rows_from bytes start size count = map (λ k. row_numbers bytes (start + 2 * size * k) size) (range_with_len 0 count)

-- the acceptor of a file, read off its bytes: arcs stand after the header, jumps after the arcs
abbrev pub decoded : List ℕ → Acceptor
decoded bytes =
    record {
      words = number_at bytes 5;
      nodes = number_at bytes 7;
      final = number_at bytes 9;
      arcs = arcs_from bytes 15 (number_at bytes 11);
      jumps = jumps_from bytes (15 + 6 * number_at bytes 11) (number_at bytes 13);
    }
