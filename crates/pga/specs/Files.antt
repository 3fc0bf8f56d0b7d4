-- Acceptor files: the bytes of an acceptor, and which bytes are the file of one.
--
-- The file is the three bytes PGA and then numbers, each in two bytes, the low one first: the version 1, how many words
-- and nodes there are, the final node, how many arcs and jumps there are, each arc (from, word, to), each jump (from, to).
use Rattle.std.specs.Prelude.{ℕ, ◌<◌, ◌≤◌, List, [], ◌∷◌, ◌++◌, length, codes}
use Rattle.std.specs.List.{flat_map, AllByRecursion}
use Rattle.book.specs.Files.{bytes_of}
use Rattle.table.specs.Lists.{InOrder}
use Rattle.finding.specs.Numbered.{Arrow}
use Rattle.finding.specs.Laws.{Rises}
use Rattle.fields.specs.Arcs.{arc_numbers, ArcWithin}
use Rattle.fields.specs.Files.{FileOf}
use Rattle.theory.specs.Flattening.{Acceptor, JumpLess}

abbrev pub jump_numbers : ℕ × ℕ → List ℕ
jump_numbers j = j.0 ∷ (j.1 ∷ [])

-- the numbers in front of the arcs
abbrev pub header_numbers : Acceptor → List ℕ
header_numbers a = 1 ∷ (a.words ∷ (a.nodes ∷ (a.final ∷ (length a.arcs ∷ (length a.jumps ∷ [])))))

-- all numbers of a file
abbrev pub file_numbers : Acceptor → List ℕ
file_numbers a = header_numbers a ++ (flat_map arc_numbers a.arcs ++ flat_map jump_numbers a.jumps)

-- the file of an acceptor
abbrev pub file_of : Acceptor → List ℕ
file_of a = codes "PGA" ++ flat_map bytes_of (file_numbers a)

abbrev pub ArcFits : Acceptor → Arrow → Type 0
ArcFits a = ArcWithin a.words a.nodes

abbrev pub JumpFits : Acceptor → ℕ × ℕ → Type 0
JumpFits a j = (j.0 < a.nodes) × (j.1 < a.nodes)

-- every number of the acceptor is in its range; arcs rise by from, then word, and jumps by from, then to
pub record Fit (a : Acceptor) : Type 0 where
  pub words : (1 ≤ a.words) × (a.words ≤ 1024)
  pub nodes : (1 ≤ a.nodes) × (a.nodes ≤ 4096)
  pub final : a.final < a.nodes
  pub few_arcs : length a.arcs ≤ 16384
  pub few_jumps : length a.jumps ≤ 16384
  pub arcs : AllByRecursion (ArcFits a) a.arcs
  pub jumps : AllByRecursion (JumpFits a) a.jumps
  pub arcs_rise : InOrder Rises a.arcs
  pub jumps_rise : InOrder JumpLess a.jumps

-- the bytes are the file of an acceptor that fits
abbrev pub IsFile : List ℕ → Acceptor → Type 0
IsFile bytes a = FileOf Fit file_of bytes a
