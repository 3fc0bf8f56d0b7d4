-- Putting bytes into an output.
use Rattle.std.specs.Prelude.{◌≡◌, ℕ, ◌+◌, ◌≤◌, Bool, List, ◌++◌, map, length, take, drop}
use Rattle.std.specs.List.{filter, flat_map}
use Rattle.book.specs.Files.{bytes_of}
use Rattle.finding.specs.declared.moves.Move.{Move}
use Rattle.finding.specs.Finding.{arrow}
use Rattle.fields.specs.Arcs.{arc_numbers}
use Rattle.fields.specs.declared.output.Output.{Output}

-- bytes are put at `at`, and `end` is the place after them; where there is no room for all of them the output is left open
pub record Put (out : List ℕ) (at : ℕ) (bytes out' : List ℕ) (end : ℕ) : Type 0 where
  pub ends : end ≡ at + length bytes
  pub is : end ≤ length out → out' ≡ take at out ++ (bytes ++ drop end out)

-- bytes are put at the place of an output, which moves past them; what was lent to it and its room stay the same
pub record Puts (before : Output) (bytes : List ℕ) (after : Output) : Type 0 where
  pub lent : after.bytes.ghost_name ≡ before.bytes.ghost_name
  pub room : length after.bytes.now ≡ length before.bytes.now
  pub put : Put before.bytes.now before.at bytes after.bytes.now after.at

-- those moves are put as arcs that a test wants, whichever it is, if `tells` is what the test answers
abbrev pub PutsArcs : {N : Type 0} → (N → ℕ) → (Move N → Bool → Type 0) → List (Move N) → Output → Output → Type 0
PutsArcs {N} value tells moves before after =
    (wants : Move N → Bool) → ((m : Move N) (r : Bool) → tells m r → r ≡ wants m)
    → Puts before (flat_map bytes_of (flat_map arc_numbers (map (arrow value) (filter wants moves)))) after
