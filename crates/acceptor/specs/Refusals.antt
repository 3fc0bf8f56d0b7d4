-- What the faults of turns tell: the number of the cause, the layer, and the place.
use Rattle.book.specs.declared.fault.Refusal.{Refusal}
use Rattle.acceptor.specs.declared.fault.TurnFault.{TurnFault}
use Rattle.acceptor.specs.declared.fault.TurnFault.TheVariants.{Unbegun, UnknownWord}

-- the refusal of a turn
abbrev pub refusal : TurnFault → Refusal
refusal Unbegun = record { number = 20; layer = 6; place = 0 }
refusal (UnknownWord x) = record { number = 21; layer = 6; place = x }
