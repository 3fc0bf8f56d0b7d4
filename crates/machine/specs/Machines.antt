-- What the call for the characteristic machine answers and leaves.
use Rattle.std.specs.Prelude.{ℕ, ◌≤◌, min, List, map, length, take, Some, None, Ok, Err, Option, Result}
use Rattle.book.specs.declared.fault.Refusal.{Refusal}
use Rattle.book.specs.Grammar.{Grammar}
use Rattle.book.specs.Refusals.{refusal as book_refusal}
use Rattle.book.specs.Tables.{Holds}
use Rattle.book.specs.Flaws.{TableFault}
use Rattle.table.specs.declared.sets.NumberSet.{NumberSet}
use Rattle.table.specs.declared.numbers.ItemNo.{ItemNo}
use Rattle.table.specs.declared.numbers.StateNo.{StateNo}
use Rattle.table.specs.Lists.{StandsAt}
use Rattle.table.specs.Sets.{In, members}
use Rattle.finding.specs.declared.moves.Move.{Move}
use Rattle.finding.specs.declared.moves.Stop.{Stop}
use Rattle.finding.specs.declared.moves.Stop.TheVariants.{Room, Entry, Arrow}
use Rattle.finding.specs.Numbered.{Arrow as Arrow₃}
use Rattle.finding.specs.Finding.{arrow, Bounded, within, Refused}
use Rattle.theory.specs.Closure.{initial}
use Rattle.theory.specs.Machine.{Machine, MachineLaws, FinalState}
use Rattle.machine.specs.declared.fault.MachineFault.{MachineFault}
use Rattle.machine.specs.declared.fault.MachineFault.TheVariants.{Book, StateLimit, MoveLimit}
use Rattle.machine.specs.declared.machine.MachineSummary.{MachineSummary}
use Rattle.machine.specs.Reading.{machine_search}

-- a refusal of the machine's layer, by number and place
abbrev pub told : ℕ → ℕ → Refusal
told n p = record { number = n; layer = 2; place = p }

-- the refusal that a fault stands for
abbrev pub refusal : MachineFault → Refusal
refusal (Book f) = book_refusal f
refusal (StateLimit n) = told 10 n
refusal (MoveLimit n) = told 11 n

-- the states as sets of item numbers, and the moves, as the tables show them
abbrev pub sets : ℕ → List (NumberSet ItemNo) → List (List ℕ)
sets n rows = map (λ e. members e.words) (take n rows)

abbrev pub arrows : ℕ → List (Move StateNo) → List Arrow₃
arrows n moves = map (arrow (λ s. s.0)) (take n moves)

-- at most 1,024 states and 16,384 moves; a shorter table is the limit instead
unfoldable pub limits : Grammar → ℕ → ℕ → Bounded (List ℕ)
limits g states moves = within (machine_search g) (min states 1024) (min moves 16384)

-- why there is no machine: the book's own fault, or the first obstacle in finding order
pub data MachineRefusal (t : List ℕ) (states moves : ℕ) : Refusal → Type 0 where
  book : {f : Refusal} → TableFault t f → MachineRefusal t states moves f
  state_limit : (g : Grammar) (n : ℕ) → Holds t g → Refused (limits g states moves) (initial g) (Entry n) → MachineRefusal t states moves (told 10 n)
  move_limit : (g : Grammar) (q n : ℕ) → Holds t g → Refused (limits g states moves) (initial g) (Arrow q n) → MachineRefusal t states moves (told 11 n)

-- the tables hold the machine of the grammar that the book holds
pub record MachineIn (t : List ℕ) (rows : List (NumberSet ItemNo)) (moves : List (Move StateNo)) (m : MachineSummary) : Type 0 where
  pub grammar : Grammar
  pub held : Holds t grammar
  pub states_fit : m.states ≤ min (length rows) 1024
  pub moves_fit : m.moves ≤ min (length moves) 16384
  pub machine : Machine grammar (sets m.states rows) (arrows m.moves moves)
  pub laws : MachineLaws grammar (sets m.states rows) (arrows m.moves moves)
  pub final : FinalState (sets m.states rows) m.final_state.0

abbrev pub Found : List ℕ → ℕ → ℕ → Result MachineSummary MachineFault → List (NumberSet ItemNo) → List (Move StateNo) → Type 0
Found t states moves (Ok m) rows arrows = MachineIn t rows arrows m
Found t states moves (Err f) rows arrows = MachineRefusal t states moves (refusal f)

-- the state that has the item S' → start ·
abbrev pub FoundFinal : List (NumberSet ItemNo) → Option StateNo → Type 0
FoundFinal rows None = (k : ℕ) (e : NumberSet ItemNo) → StandsAt rows k e → In e.words 1 → ⊥
FoundFinal rows (Some s) = (e : NumberSet ItemNo) × StandsAt rows s.0 e × In e.words 1

-- the fault of what stops the search; every set has a place, so it is never for want of room
abbrev pub fault_of : Stop → MachineFault
fault_of (Room n) = StateLimit n
fault_of (Entry n) = StateLimit n
fault_of (Arrow q n) = MoveLimit n
