-- What an opened file of a determinised acceptor is, and its positions.
use Rattle.std.specs.Prelude.{◌≡◌, ℕ, Bool, true, List, length, Some, None, Ok, Err, Option, Result}
use Rattle.std.proofs.Math.Option.{none, some}
use Rattle.std.proofs.Math.ListN.{get_elem?}
use Rattle.table.specs.Numbers.{value_in}
use Rattle.table.specs.declared.numbers.StateNo.{StateNo}
use Rattle.theory.specs.Flattening.{Leads}
use Rattle.theory.specs.Subsets.{Determined}
use Rattle.theory.specs.Unfolding.{along}
use Rattle.fields.specs.declared.fault.AcceptorFault.{AcceptorFault}
use Rattle.fields.specs.Refusals.{refusal}
use Rattle.pgd.specs.Files.{IsFile}
use Rattle.pgd.specs.Flaws.{FileFault}
use Rattle.pgd.specs.Reading.{finals_from}
use Rattle.acceptor.specs.declared.subset.Subset.{Subset}
use Rattle.acceptor.specs.Rows.{arcs_of}

-- which states are final, a byte each
abbrev pub finals_of : List ℕ → List Bool
finals_of bytes = finals_from bytes 0 (length bytes)

-- the determinised acceptor that is read
abbrev pub determined_of : Subset → Determined
determined_of d = record { words = d.words; states = length d.finals.now; finals = finals_of d.finals.now; arcs = arcs_of d.arcs.bytes.now }

-- the bytes are the file of the determinised acceptor that is read, or this is their first fault
abbrev pub Opened : List ℕ → Result Subset AcceptorFault → Type 0
Opened bytes (Ok d) = IsFile bytes (determined_of d)
Opened bytes (Err x) = FileFault bytes (refusal x)

-- the number of a state, if there is one
abbrev pub number_of : Option StateNo → Option ℕ
number_of p = value_in (λ s. s.0) p

-- the arc on x leads from one position to the other; from none, and where there is no arc, it leads to none
abbrev pub Goes : Determined → Option ℕ → ℕ → Option ℕ → Type 0
Goes d None x q = q ≡ None
Goes d (Some s) x None = along d.arcs s x ≡ none
Goes d (Some s) x (Some t) = along d.arcs s x ≡ some t

-- arcs lead over s from the state to a final one
abbrev pub RestsAt : Determined → Option ℕ → List ℕ → Type 0
RestsAt d None s = ⊥
RestsAt d (Some q) s = (last : ℕ) × Leads d.arcs q s last × (get_elem? d.finals last ≡ some true)
