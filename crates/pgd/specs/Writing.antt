-- The determinised acceptor that write takes, and what write answers and leaves.
use Rattle.std.specs.Prelude.{ℕ, Bool, List, map, length, Result, nat_eq}
use Rattle.table.specs.declared.numbers.NodeNo.{NodeNo}
use Rattle.table.specs.declared.numbers.StateNo.{StateNo}
use Rattle.table.specs.declared.sets.NumberSet.{NumberSet}
use Rattle.table.specs.Sets.{members}
use Rattle.finding.specs.declared.moves.Move.{Move}
use Rattle.finding.specs.Numbered.{Arrow}
use Rattle.finding.specs.Finding.{arrow}
use Rattle.theory.specs.Lists.{any}
use Rattle.theory.specs.Subsets.{Determined, determined_length}
use Rattle.fields.specs.declared.fault.OutputShort.{OutputShort}
use Rattle.fields.specs.Files.{FileWritten as WrittenFile, Written as WrittenBy}
use Rattle.pgd.specs.Files.{file_of, Fit}

-- the sets of nodes of the states as plain numbers
abbrev pub sets : List (NumberSet NodeNo) → List (List ℕ)
sets rows = map (λ e. members e.words) rows

-- the moves of a table as plain numbers
abbrev pub plain : Move StateNo → Arrow
plain m = arrow (λ s. s.0) m

abbrev pub arrows : List (Move StateNo) → List Arrow
arrows moves = map plain moves

-- whether the final node is in a set
abbrev pub is_final : NodeNo → List ℕ → Bool
is_final final set = any (nat_eq final.0) set

-- the determinised acceptor whose states are these sets of nodes: final where the final node is a member
abbrev pub determined : ℕ → List (NumberSet NodeNo) → NodeNo → List (Move StateNo) → Determined
determined words rows final moves =
    record { words = words; states = length rows; finals = map (is_final final) (sets rows); arcs = arrows moves }

-- the output begins with the n bytes of the file of d, and all after them is as it was
abbrev pub FileWritten : Determined → List ℕ → List ℕ → ℕ → Type 0
FileWritten d out out' n = WrittenFile Fit file_of determined_length d out out' n

-- what write answers and leaves
abbrev pub Written : Determined → List ℕ → Result ℕ OutputShort → List ℕ → Type 0
Written d out r out' = WrittenBy Fit file_of determined_length d out r out'
