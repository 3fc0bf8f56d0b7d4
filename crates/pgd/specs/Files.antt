-- Files of determinised acceptors: the bytes of one, and which bytes are the file of one.
--
-- The file is the three bytes PGD and then numbers, each in two bytes, the low one first: the version 1, how many words, states and arcs there are.
-- Then stands a byte for each state, 1 where it is final and 0 where it is not, and then each arc (from, word, to), in numbers again.
use Rattle.std.specs.Prelude.{◌≡◌, ℕ, ◌≤◌, Bool, true, false, List, [], ◌∷◌, ◌++◌, map, length, codes}
use Rattle.std.specs.List.{flat_map, AllByRecursion}
use Rattle.book.specs.Files.{bytes_of}
use Rattle.table.specs.Lists.{InOrder}
use Rattle.finding.specs.Numbered.{Arrow}
use Rattle.finding.specs.Laws.{Rises}
use Rattle.theory.specs.Subsets.{Determined}
use Rattle.fields.specs.Arcs.{arc_numbers, ArcWithin}
use Rattle.fields.specs.Files.{FileOf}

-- the numbers in front of the states
abbrev pub header_numbers : Determined → List ℕ
header_numbers d = 1 ∷ (d.words ∷ (d.states ∷ (length d.arcs ∷ [])))

-- a state's byte
abbrev pub final_byte : Bool → ℕ
final_byte true = 1
final_byte false = 0

-- the file of a determinised acceptor
abbrev pub file_of : Determined → List ℕ
file_of d = codes "PGD" ++ (flat_map bytes_of (header_numbers d) ++ (map final_byte d.finals ++ flat_map bytes_of (flat_map arc_numbers d.arcs)))

abbrev pub ArcFits : Determined → Arrow → Type 0
ArcFits d = ArcWithin d.words d.states

-- every number is in its range, each state is final or not, and arcs rise by from, then word
pub record Fit (d : Determined) : Type 0 where
  pub words : (1 ≤ d.words) × (d.words ≤ 1024)
  pub states : (1 ≤ d.states) × (d.states ≤ 1024)
  pub finals : length d.finals ≡ d.states
  pub few_arcs : length d.arcs ≤ 16384
  pub arcs : AllByRecursion (ArcFits d) d.arcs
  pub arcs_rise : InOrder Rises d.arcs

-- the bytes are the file of a determinised acceptor that fits
abbrev pub IsFile : List ℕ → Determined → Type 0
IsFile bytes d = FileOf Fit file_of bytes d
