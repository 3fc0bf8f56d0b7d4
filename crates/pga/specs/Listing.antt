-- The text of an acceptor, and what list answers and leaves.
--
-- The counts of a compile stand on the first line, then each arc and each jump on a line of its own; numbers in decimal, parted by one blank.
use Rattle.std.specs.Prelude.{◌≡◌, ℕ, zero, suc, ◌<◌, List, [], ◌∷◌, ◌++◌, length, drop, Ok, Err, decimal, Result}
use Rattle.std.specs.List.{flat_map}
use Rattle.book.specs.declared.fault.Refusal.{Refusal}
use Rattle.finding.specs.Numbered.{Arrow}
use Rattle.theory.specs.Flattening.{Acceptor}
use Rattle.fields.specs.Arcs.{arc_numbers}
use Rattle.fields.specs.Refusals.{told}
use Rattle.pga.specs.declared.fault.ListFault.{ListFault}
use Rattle.pga.specs.declared.listing.Counts.{Counts}
use Rattle.pga.specs.Files.{jump_numbers, IsFile}
use Rattle.pga.specs.Refusals.{list_refusal}
use Rattle.pga.specs.Flaws.{FileFault}

-- a blank and a number
abbrev pub next_number : ℕ → List ℕ
next_number n = 32 ∷ decimal n

-- the number of a line that stands after so many others
abbrev pub part : ℕ → ℕ → List ℕ
part zero n = decimal n
part (suc k) n = next_number n

-- a line of numbers, ended by byte 10
abbrev pub line : List ℕ → List ℕ
line [] = 10 ∷ []
line (n ∷ ns) = (decimal n ++ flat_map next_number ns) ++ (10 ∷ [])

abbrev pub counts_line : Counts → List ℕ
counts_line c = line (c.states ∷ (c.moves ∷ (c.nodes ∷ (c.unfolded ∷ (c.arcs ∷ (c.jumps ∷ []))))))

abbrev pub arc_line : Arrow → List ℕ
arc_line m = line (arc_numbers m)

abbrev pub jump_line : ℕ × ℕ → List ℕ
jump_line j = line (jump_numbers j)

-- the text of an acceptor under these counts
abbrev pub lines : Counts → Acceptor → List ℕ
lines c a = counts_line c ++ (flat_map arc_line a.arcs ++ flat_map jump_line a.jumps)

-- the output begins with the n bytes of the text of the file's acceptor, and all after them is as it was
pub record TextWritten (c : Counts) (file out out' : List ℕ) (n : ℕ) : Type 0 where
  pub acceptor : Acceptor
  pub is_file : IsFile file acceptor
  pub length_used : n ≡ length (lines c acceptor)
  pub is : out' ≡ lines c acceptor ++ drop n out

-- why list refuses: the first fault of what is no file, then an output too short
pub data ListRefused (c : Counts) (file : List ℕ) (room : ℕ) : Refusal → Type 0 where
  no_file : {f : Refusal} → FileFault file f → ListRefused c file room f
  short : (a : Acceptor) → IsFile file a → room < length (lines c a) → ListRefused c file room (told 16 (length (lines c a)))

-- what list answers and leaves
abbrev pub Listed : Counts → List ℕ → List ℕ → Result ℕ ListFault → List ℕ → Type 0
Listed c file out (Ok n) out' = TextWritten c file out out' n
Listed c file out (Err f) out' = ListRefused c file (length out) (list_refusal f) × (out' ≡ out)
