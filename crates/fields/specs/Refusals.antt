-- What a fault of an acceptor file tells: the number of the cause, the layer, and the place.
use Rattle.std.specs.Prelude.{ℕ}
use Rattle.book.specs.declared.fault.Refusal.{Refusal}
use Rattle.fields.specs.declared.fault.AcceptorFault.{AcceptorFault}

-- a refusal of the acceptor's layer, by number and place
abbrev pub told : ℕ → ℕ → Refusal
told n p = record { number = n; layer = 5; place = p }

-- the refusal of what is no acceptor file
abbrev pub refusal : AcceptorFault → Refusal
refusal f = told 17 f.place
