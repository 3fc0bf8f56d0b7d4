-- What is told of an event to a turn, and where the turn stands then.
use Rattle.std.specs.Prelude.{◌≡◌, ℕ, ◌<◌, ◌≤◌, Bool, Ok, Err, Result}
use Rattle.std.proofs.Math.Option.{Option, none, some}
use Rattle.acceptor.specs.declared.fault.TurnFault.{TurnFault}
use Rattle.acceptor.specs.declared.fault.TurnFault.TheVariants.{Unbegun, UnknownWord}
use Rattle.acceptor.specs.declared.turn.Event.{Event}
use Rattle.acceptor.specs.declared.turn.Event.TheVariants.{Begin, Word, End}
use Rattle.acceptor.specs.declared.turn.Told.{Told}
use Rattle.acceptor.specs.declared.turn.Told.TheVariants.{Begun, Taken, Judged}
use Rattle.promise.specs.Acceptors.{Automaton, words_of, IsFileOf}
use Rattle.promise.specs.Positions.{Position, first_position, next_position, says_yes}
use Rattle.promise.specs.States.{State, file, slot_of}
use Rattle.promise.specs.Calls.{Call, Answer}
use Rattle.promise.specs.Calls.Call.{begin, word, end}
use Rattle.promise.specs.Calls.Answer.{done, told}
use Rattle.session.specs.declared.fault.SessionFault.{SessionFault}
use Rattle.session.specs.declared.record.Standing.{Standing}
use Rattle.session.specs.View.{stands_on, stands_at}
use Rattle.session.specs.Opening.{fault_answer}

-- on the acceptor a: from a position, or unbegun, the event is told of so, and leads here
pub data Hears (a : Automaton) : Option Position → Event → Told → Option Position → Type 0 where
  begins : {o : Option Position} → Hears a o Begin Begun (some (first_position a))
  takes : {p : Position} {x : ℕ} → x < words_of a → Hears a (some p) (Word x) Taken (some (next_position a p x))
  judges : {p : Position} → Hears a (some p) End (Judged (says_yes a p)) (some (first_position a))

-- the event is refused: an unbegun turn takes no word and no end, and an open one no word that the acceptor does not have
pub data Refuses (a : Automaton) : Option Position → Event → TurnFault → Type 0 where
  no_word : {x : ℕ} → Refuses a none (Word x) Unbegun
  no_end : Refuses a none End Unbegun
  unknown : {p : Position} {x : ℕ} → words_of a ≤ x → Refuses a (some p) (Word x) (UnknownWord x)

-- what the event's answer says of the event
abbrev pub OfEvent : Event → Told → Type 0
OfEvent Begin t = t ≡ Begun
OfEvent (Word x) t = t ≡ Taken
OfEvent End t = (b : Bool) × (t ≡ Judged b)

-- what is told of an event to a turn that stands here, where its file is that of an acceptor
pub record HeardSo (s : State) (at : Standing) (e : Event) (t : Told) (after : Standing) : Type 0 where
  pub kind : stands_on after ≡ stands_on at
  pub of_event : OfEvent e t
  pub hears : (a : Automaton) → IsFileOf (stands_on at) (file (slot_of s (stands_on at))) a → Hears a (stands_at at) e t (stands_at after)

abbrev pub Heard : State → Standing → Event → Result (Told × Standing) TurnFault → Type 0
Heard s at e (Ok r) = HeardSo s at e r.0 r.1
Heard s at e (Err f) = (a : Automaton) → IsFileOf (stands_on at) (file (slot_of s (stands_on at))) a → Refuses a (stands_at at) e f

-- the call that an event to turn i is, and its answers
abbrev pub call_of : ℕ → Event → Call
call_of i Begin = begin i
call_of i (Word x) = word i x
call_of i End = end i

abbrev pub told_answer : Told → Answer
told_answer Begun = done
told_answer Taken = done
told_answer (Judged b) = told b

abbrev pub event_answer : Result Told SessionFault → Answer
event_answer (Ok t) = told_answer t
event_answer (Err f) = fault_answer f

abbrev pub done_answer : {T : Type 0} → Result T SessionFault → Answer
done_answer (Ok v) = done
done_answer (Err f) = fault_answer f

abbrev pub end_answer : Result Bool SessionFault → Answer
end_answer (Ok b) = told b
end_answer (Err f) = fault_answer f
