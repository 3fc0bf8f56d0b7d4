-- A session as the state that its calls work on, and what starts one.
use Rattle.std.specs.Prelude.{◌≡◌, ℕ, Bool, List, [], map, length, take, Some, None, Ok, Err, Option as Maybe, Result}
use Rattle.std.proofs.Math.Option.{Option, none, some}
use Rattle.book.specs.declared.fault.BookFault.{BookFault}
use Rattle.book.specs.Edits.{bare, BlankFault}
use Rattle.book.specs.Refusals.{refusal}
use Rattle.book.specs.Tables.{used}
use Rattle.table.specs.declared.numbers.NodeNo.{NodeNo}
use Rattle.table.specs.declared.numbers.StateNo.{StateNo}
use Rattle.table.specs.declared.sets.NumberSet.{NumberSet}
use Rattle.table.specs.Sets.{members}
use Rattle.acceptor.specs.declared.turn.Condition.{Condition}
use Rattle.acceptor.specs.declared.turn.Condition.TheVariants.{Unbegun, Open}
use Rattle.promise.specs.Acceptors.{Kind, pick}
use Rattle.promise.specs.Acceptors.Kind.{pga, pgd}
use Rattle.promise.specs.Positions.{Position}
use Rattle.promise.specs.Positions.Position.{nodes, state}
use Rattle.promise.specs.States.{Slot, Turn, State, slot_of, taken}
use Rattle.promise.specs.Histories.{Start, empty_slot, Reached}
use Rattle.session.specs.declared.record.Kind.{Kind as OwnKind}
use Rattle.session.specs.declared.record.Kind.TheVariants.{Pga, Pgd}
use Rattle.session.specs.declared.record.Standing.{Standing}
use Rattle.session.specs.declared.record.Standing.TheVariants.{Flat, Subset}
use Rattle.session.specs.declared.record.Turn.{Turn as Record}
use Rattle.session.specs.declared.buffer.Buffer.{Buffer}
use Rattle.session.specs.declared.session.Session.{Session}
use Rattle.session.specs.declared.turns.Turns.{Turns}

abbrev pub kind_of : OwnKind → Kind
kind_of Pga = pga
kind_of Pgd = pgd

-- the file that a turn stands on
abbrev pub stands_on : Standing → Kind
stands_on (Flat c) = pga
stands_on (Subset c) = pgd

abbrev pub state_in : Maybe StateNo → Option ℕ
state_in None = none
state_in (Some s) = some s.0

-- the positions of the two kinds
abbrev pub set_position : NumberSet NodeNo → Position
set_position p = nodes (members p.words)

abbrev pub state_position : Maybe StateNo → Position
state_position p = state (state_in p)

-- the position of a turn that has begun
abbrev pub position_in : {P : Type 0} → (P → Position) → Condition P → Option Position
position_in place Unbegun = none
position_in place (Open p) = some (place p)

-- where it stands, once it has begun
abbrev pub stands_at : Standing → Option Position
stands_at (Flat c) = position_in set_position c
stands_at (Subset c) = position_in state_position c

abbrev pub turn_of : Record → Turn
turn_of t = record { kind = stands_on t.at; live = t.live; at = stands_at t.at }

-- the turns of a lent table: only its counted rows are turns
abbrev pub turns_in : Turns → List Turn
turns_in t = map turn_of (take t.count t.rows.now)

-- a lent buffer with its file
abbrev pub slot_in : Buffer → Slot
slot_in b = record { bytes = b.bytes.now; used = b.used; opened = b.open }

-- the session as a state
abbrev pub view : Session → State
view s =
    record {
      book = s.book.now;
      pga = slot_in s.pga;
      pgd = slot_in s.pgd;
      turns = turns_in s.turns;
      places = length s.turns.rows.now;
    }

-- a session that no blank has started
abbrev pub unstarted : List ℕ → List ℕ → List ℕ → ℕ → State
unstarted book a d places = record { book = book; pga = empty_slot a; pgd = empty_slot d; turns = []; places = places }

-- a buffer whose file is open, or not
abbrev pub with_mark : Bool → Slot → Slot
with_mark b s = record { bytes = s.bytes; used = s.used; opened = b }

-- the file of a kind is now open, or no longer
abbrev pub with_opening : Kind → Bool → State → State
with_opening k b s =
    record { book = s.book; pga = pick (with_mark b s.pga) s.pga k; pgd = pick s.pgd (with_mark b s.pgd) k; turns = s.turns; places = s.places }

-- the file of a kind is taken for writing, and its bytes are as they were
abbrev pub TakenFor : Kind → State → State → Type 0
TakenFor k s s' = s' ≡ taken k (slot_of s k).bytes (slot_of s k).used s

-- what a session starts from, over the tables of a state
abbrev pub start_from : ℕ → ℕ → ℕ → State → Start
start_from words names start s =
    record { words = words; names = names; start = start; table = s.book; pga = s.pga.bytes; pgd = s.pgd.bytes; places = s.places }

-- the session is where every list of calls starts; or its numbers are refused as blank refuses them, and it is as it was
abbrev pub Started : ℕ → ℕ → ℕ → State → Result ℕ BookFault → State → Type 0
Started words names start s (Ok n) s' = Reached (start_from words names start s) [] s' × (n ≡ used (bare words names start))
Started words names start s (Err f) s' = BlankFault (bare words names start) (length s.book) (refusal f) × (s' ≡ s)
