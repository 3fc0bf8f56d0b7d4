-- Reading a file: the determinised acceptor that its bytes describe.
use Rattle.std.specs.Prelude.{ℕ, ◌+◌, Bool, List, map, ◌==◌, slice_index}
use Rattle.std.specs.List.{range_with_len}
use Rattle.theory.specs.Subsets.{Determined}
use Rattle.fields.specs.Reading.{number_at, arcs_from}

-- whether the byte at `at` is that of a final state
abbrev pub final_flag_at : List ℕ → ℕ → Bool
final_flag_at bytes at = slice_index bytes at == 1

-- the first n states from `start` on
abbrev pub finals_from : List ℕ → ℕ → ℕ → List Bool
finals_from bytes start n = map (λ k. final_flag_at bytes (start + k)) (range_with_len 0 n)

-- the determinised acceptor of a file, read off its bytes: states stand after the header, arcs after the states
abbrev pub decoded : List ℕ → Determined
decoded bytes =
    record {
      words = number_at bytes 5;
      states = number_at bytes 7;
      finals = finals_from bytes 11 (number_at bytes 7);
      arcs = arcs_from bytes (11 + number_at bytes 7) (number_at bytes 9);
    }
