-- What a file is checked for, in byte order, and its first fault: the header, each arc, each jump, and the length last.
use Rattle.std.specs.Prelude.{ℕ, ◌+◌, ◌*◌, List, [], ◌∷◌, ◌++◌, codes}
use Rattle.book.specs.declared.fault.Refusal.{Refusal}
use Rattle.fields.specs.Reading.{number_at}
use Rattle.fields.specs.Flaws.{Check, marked, ranged, ends, First, rows}

-- mark, version, words, nodes, final node, count of arcs, count of jumps
abbrev pub header_checks : List ℕ → List Check
header_checks bytes =
    marked (codes "PGA")
    ∷ (ranged 3 1 2 ∷ (ranged 5 1 1025 ∷ (ranged 7 1 4097 ∷ (ranged 9 0 (number_at bytes 7) ∷ (ranged 11 0 16385 ∷ (ranged 13 0 16385 ∷ []))))))

-- arcs are rows of node, word, node
abbrev pub arc_checks : List ℕ → List Check
arc_checks bytes = rows 15 (number_at bytes 7 ∷ (number_at bytes 5 ∷ (number_at bytes 7 ∷ []))) (number_at bytes 11)

-- jumps are rows of node, node
abbrev pub jump_checks : List ℕ → List Check
jump_checks bytes = rows (15 + 6 * number_at bytes 11) (number_at bytes 7 ∷ (number_at bytes 7 ∷ [])) (number_at bytes 13)

-- all that a file is checked for
abbrev pub file_checks : List ℕ → List Check
file_checks bytes =
    header_checks bytes ++ (arc_checks bytes ++ (jump_checks bytes ++ (ends (15 + 6 * number_at bytes 11 + 4 * number_at bytes 13) ∷ [])))

-- the first fault of bytes that are no acceptor's file
abbrev pub FileFault : List ℕ → Refusal → Type 0
FileFault bytes f = First bytes (file_checks bytes) f
