-- What a file is checked for, in byte order, and its first fault: the header, each state, each arc, and the length last.
use Rattle.std.specs.Prelude.{ℕ, ◌+◌, ◌*◌, List, [], ◌∷◌, ◌++◌, codes}
use Rattle.book.specs.declared.fault.Refusal.{Refusal}
use Rattle.fields.specs.Reading.{number_at}
use Rattle.fields.specs.Flaws.{Check, marked, ranged, ends, First, flags, rows}

-- mark, version, words, states, count of arcs
abbrev pub header_checks : List Check
header_checks = marked (codes "PGD") ∷ (ranged 3 1 2 ∷ (ranged 5 1 1025 ∷ (ranged 7 1 1025 ∷ (ranged 9 0 16385 ∷ []))))

-- a state is final or not
abbrev pub state_checks : List ℕ → List Check
state_checks bytes = flags 11 (number_at bytes 7)

-- arcs are rows of state, word, state
abbrev pub arc_checks : List ℕ → List Check
arc_checks bytes = rows (11 + number_at bytes 7) (number_at bytes 7 ∷ (number_at bytes 5 ∷ (number_at bytes 7 ∷ []))) (number_at bytes 9)

-- all that a file is checked for
abbrev pub file_checks : List ℕ → List Check
file_checks bytes = header_checks ++ (state_checks bytes ++ (arc_checks bytes ++ (ends (11 + number_at bytes 7 + 6 * number_at bytes 9) ∷ [])))

-- the first fault of bytes that are no determinised acceptor's file
abbrev pub FileFault : List ℕ → Refusal → Type 0
FileFault bytes f = First bytes (file_checks bytes) f
