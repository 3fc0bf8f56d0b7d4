-- What a fault of list tells: the number of the cause, the layer, and the place.
use Rattle.book.specs.declared.fault.Refusal.{Refusal}
use Rattle.fields.specs.Refusals.{told, refusal}
use Rattle.pga.specs.declared.fault.ListFault.{ListFault}
use Rattle.pga.specs.declared.fault.ListFault.TheVariants.{File, OutputShort}

-- the refusal of a list
abbrev pub list_refusal : ListFault → Refusal
list_refusal (File f) = refusal f
list_refusal (OutputShort n) = told 16 n
