-- What a fault of the unfolding tells: the number of its cause, its layer, and its place.
use Rattle.std.specs.Prelude.{ℕ}
use Rattle.book.specs.declared.fault.Refusal.{Refusal}
use Rattle.finding.specs.declared.moves.Stop.{Stop}
use Rattle.finding.specs.declared.moves.Stop.TheVariants.{Room, Entry, Arrow}
use Rattle.unfolding.specs.declared.fault.UnfoldingFault.{UnfoldingFault}
use Rattle.unfolding.specs.declared.fault.UnfoldingFault.TheVariants.{ClassUnfit, NodeLimit, MoveLimit}

-- a refusal of the unfolding's layer, by number and place
abbrev pub told : ℕ → ℕ → Refusal
told n p = record { number = n; layer = 3; place = p }

-- the refusal that a fault stands for
abbrev pub refusal : UnfoldingFault → Refusal
refusal (ClassUnfit n) = told 12 n
refusal (NodeLimit n) = told 13 n
refusal (MoveLimit n) = told 14 n

-- the fault of what stops the search
abbrev pub fault_of : Stop → UnfoldingFault
fault_of (Room n) = ClassUnfit n
fault_of (Entry n) = NodeLimit n
fault_of (Arrow q n) = MoveLimit n
