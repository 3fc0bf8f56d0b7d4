-- What a fault of determinising tells: the number of its cause, its layer, and its place.
use Rattle.book.specs.declared.fault.Refusal.{Refusal}
use Rattle.finding.specs.declared.moves.Stop.{Stop}
use Rattle.finding.specs.declared.moves.Stop.TheVariants.{Room, Entry, Arrow}
use Rattle.fields.specs.Refusals.{told, refusal as file_refusal}
use Rattle.determinising.specs.declared.fault.DeterminiseFault.{DeterminiseFault}
use Rattle.determinising.specs.declared.fault.DeterminiseFault.TheVariants.{File, SetLimit, ArcLimit, OutputShort}

-- the refusal that a fault stands for
abbrev pub refusal : DeterminiseFault → Refusal
refusal (File f) = file_refusal f
refusal (SetLimit n) = told 18 n
refusal (ArcLimit n) = told 19 n
refusal (OutputShort n) = told 16 n

-- the fault of what stops the search; every set has a place, so it is never for want of room
abbrev pub fault_of : Stop → DeterminiseFault
fault_of (Room n) = SetLimit n
fault_of (Entry n) = SetLimit n
fault_of (Arrow left n) = ArcLimit left
