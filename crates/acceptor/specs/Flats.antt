-- What an opened acceptor file is.
use Rattle.std.specs.Prelude.{◌≡◌, ℕ, List, [], ◌∷◌, Ok, Err, Result}
use mathlib.Core.List.{Memᴰ}
use Rattle.table.specs.Sets.{In}
use Rattle.theory.specs.Flattening.{Acceptor}
use Rattle.theory.specs.Sentences.{Reads}
use Rattle.fields.specs.declared.fault.AcceptorFault.{AcceptorFault}
use Rattle.fields.specs.Refusals.{refusal}
use Rattle.pga.specs.Files.{IsFile}
use Rattle.pga.specs.Flaws.{FileFault}
use Rattle.acceptor.specs.declared.flat.Flat.{Flat}
use Rattle.acceptor.specs.Rows.{arcs_of, jumps_of}

-- the acceptor that is read
abbrev pub acceptor_of : Flat → Acceptor
acceptor_of f =
    record { words = f.words; nodes = f.nodes; final = f.final_node.0; arcs = arcs_of f.arcs.bytes.now; jumps = jumps_of f.jumps.bytes.now }

-- the bytes are the file of the acceptor that is read, or this is their first fault
abbrev pub Opened : List ℕ → Result Flat AcceptorFault → Type 0
Opened bytes (Ok f) = IsFile bytes (acceptor_of f)
Opened bytes (Err x) = FileFault bytes (refusal x)

-- s is read from q to the final node, and jumps come only after its first arc
abbrev pub Onward : Acceptor → ℕ → List ℕ → Type 0
Onward f q [] = q ≡ f.final
Onward f q (x ∷ w) = (r : ℕ) × Memᴰ (q, x, r) f.arcs × Reads f r w f.final

-- s leads from some member of a row of nodes to the final node; the jumps into the row's nodes were taken when it was made
abbrev pub RestsOf : Acceptor → List ℕ → List ℕ → Type 0
RestsOf f row s = (q : ℕ) × In row q × Onward f q s
