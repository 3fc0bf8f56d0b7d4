-- What opening and determinising answer, and what they check.
use Rattle.std.specs.Prelude.{ℕ, Ok, Err, Result}
use Rattle.fields.specs.declared.fault.AcceptorFault.{AcceptorFault}
use Rattle.fields.specs.Refusals.{refusal as file_refusal}
use Rattle.acceptor.specs.Refusals.{refusal as turn_refusal}
use Rattle.determinising.specs.declared.fault.SubsetCounts.{SubsetCounts}
use Rattle.determinising.specs.Refusals.{refusal as determinise_refusal}
use Rattle.promise.specs.Acceptors.{Kind, Automaton, IsFileOf, NoFile}
use Rattle.promise.specs.States.{State, file, slot_of}
use Rattle.promise.specs.Calls.{Answer}
use Rattle.promise.specs.Calls.Answer.{turn_number, subset_counts, refused, unusable, turns_full}
use Rattle.session.specs.declared.fault.SessionFault.{SessionFault}
use Rattle.session.specs.declared.fault.SessionFault.TheVariants.{File, Determinise, Turn, Unusable, TurnsFull}

-- the answer that a fault stands for
abbrev pub fault_answer : SessionFault → Answer
fault_answer (File f) = refused (file_refusal f)
fault_answer (Determinise f) = refused (determinise_refusal f)
fault_answer (Turn f) = refused (turn_refusal f)
fault_answer Unusable = unusable
fault_answer TurnsFull = turns_full

abbrev pub open_answer : Result ℕ SessionFault → Answer
open_answer (Ok n) = turn_number n
open_answer (Err f) = fault_answer f

abbrev pub determinised_answer : Result SubsetCounts SessionFault → Answer
determinised_answer (Ok c) = subset_counts c
determinised_answer (Err f) = fault_answer f

-- the file of the kind is one, or this is its first fault
abbrev pub CheckedFile : {T : Type 0} → Kind → State → Result T AcceptorFault → Type 0
CheckedFile k s (Ok v) = (a : Automaton) × IsFileOf k (file (slot_of s k)) a
CheckedFile k s (Err f) = NoFile k (file (slot_of s k)) (file_refusal f)
