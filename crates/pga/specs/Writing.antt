-- The acceptor that write takes, and what write answers and leaves.
use Rattle.std.specs.Prelude.{ℕ, List, map, Result}
use Rattle.table.specs.declared.numbers.NodeNo.{NodeNo}
use Rattle.finding.specs.declared.moves.Move.{Move}
use Rattle.theory.specs.Flattening.{Acceptor, file_length, word_moves}
use Rattle.flattening.specs.declared.jump.Jump.{Jump}
use Rattle.flattening.specs.Orders.{pair}
use Rattle.flattening.specs.Walks.{arrows}
use Rattle.fields.specs.declared.fault.OutputShort.{OutputShort}
use Rattle.fields.specs.Files.{Written as WrittenBy}
use Rattle.pga.specs.Files.{Fit, file_of}

-- the jumps of a table as plain numbers
abbrev pub pairs : List Jump → List (ℕ × ℕ)
pairs js = map pair js

-- the acceptor whose arcs are the moves on words
abbrev pub acceptor : ℕ → ℕ → NodeNo → List (Move NodeNo) → List Jump → Acceptor
acceptor words nodes final moves jumps =
    record { words = words; nodes = nodes; final = final.0; arcs = word_moves words (arrows moves); jumps = pairs jumps }

-- what write answers and leaves
abbrev pub Written : Acceptor → List ℕ → Result ℕ OutputShort → List ℕ → Type 0
Written a out r out' = WrittenBy Fit file_of file_length a out r out'
