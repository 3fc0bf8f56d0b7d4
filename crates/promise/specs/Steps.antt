-- What one call answers and leaves, by the relations that the calls' own contracts use.
use Rattle.std.specs.Prelude.{◌≡◌, ℕ, ◌<◌, ◌≤◌, Bool, true, false, List, length, Result}
use Rattle.std.proofs.Math.Option.{none, some}
use Rattle.std.proofs.Math.ListN.{get_elem?}
use Rattle.book.specs.declared.fault.Refusal.{Refusal}
use Rattle.book.specs.declared.fault.BookFault.{BookFault}
use Rattle.book.specs.Grammar.{rule}
use Rattle.book.specs.Edits.{AddedOr}
use Rattle.theory.specs.Policies.{Meaning}
use Rattle.policy.specs.Classes.{Room}
use Rattle.pga.specs.declared.listing.Counts.{Counts}
use Rattle.compiler.specs.declared.fault.CompileFault.{CompileFault}
use Rattle.compiler.specs.Compiling.{CompiledOr}
use Rattle.determinising.specs.declared.fault.SubsetCounts.{SubsetCounts}
use Rattle.determinising.specs.declared.fault.DeterminiseFault.{DeterminiseFault}
use Rattle.determinising.specs.Determinising.{DeterminisedOr}
use Rattle.promise.specs.Acceptors.{Kind, Automaton, words_of, IsFileOf, NoFile}
use Rattle.promise.specs.Acceptors.Kind.{pga, pgd}
use Rattle.promise.specs.Positions.{Position, first_position, next_position, says_yes}
use Rattle.promise.specs.States.{file, Turn, State, slot_of, with_book, taken, with_turn, standing}
use Rattle.promise.specs.Calls.{CompileTables, SubsetTables, compile_lengths, subset_lengths, compiled_length, determinised_length}
use Rattle.promise.specs.Calls.{Call, Answer, add_answer, compile_answer, determinise_answer, turn_refusal}
use Rattle.promise.specs.Calls.Call.{add, compile, open_file, determinise, begin, word, end}
use Rattle.promise.specs.Calls.Answer.{turn_number, done, told, refused, unusable, turns_full}

-- what compile answers and leaves in its output, which keeps its length
pub record Compiles (book : List ℕ) (m : Meaning) (room : Room) (t : CompileTables)
    (out : List ℕ) (r : Result Counts CompileFault) (out' : List ℕ) : Type 0 where
  pub is : CompiledOr book m room (compile_lengths t (length out)) out r out'
  pub length_kept : length out' ≡ length out

-- what determinise answers and leaves in its output, which keeps its length
pub record Determinises (bytes : List ℕ) (t : SubsetTables) (out : List ℕ) (r : Result SubsetCounts DeterminiseFault) (out' : List ℕ) : Type 0 where
  pub is : DeterminisedOr bytes (subset_lengths t (length out)) out r out'
  pub length_kept : length out' ≡ length out

-- turn i is u, which is in use, and its file is that of a
pub record InUse (s : State) (i : ℕ) (u : Turn) (a : Automaton) : Type 0 where
  pub there : get_elem? s.turns i ≡ some u
  pub live : u.live ≡ true
  pub over : IsFileOf u.kind (file (slot_of s u.kind)) a

-- turn i is not there, or no longer in use
abbrev pub OutOfUse : State → ℕ → Type 0
OutOfUse s i = (u : Turn) → get_elem? s.turns i ≡ some u → u.live ≡ false

-- the call is made on turn i
pub data OnTurn (i : ℕ) : Call → Type 0 where
  on_begin : OnTurn i (begin i)
  on_word : {x : ℕ} → OnTurn i (word i x)
  on_end : OnTurn i (end i)

-- from the state s a call gets an answer and leaves the state s'
pub data Step (s : State) : Call → Answer → State → Type 0 where
  -- add appends its rule, or is refused and leaves the table as it was
  added : {left : ℕ} {right : List ℕ} {s' : State} (r : Result ℕ BookFault) (table : List ℕ)
      → AddedOr s.book (rule left right) r table → s' ≡ with_book table s → Step s (add left right) (add_answer r) s'
  -- compile takes the PGA for writing, whatever it answers
  compiled : {m : Meaning} {room : Room} {t : CompileTables} {s' : State} (r : Result Counts CompileFault) (bytes : List ℕ)
      → Compiles s.book m room t s.pga.bytes r bytes → s' ≡ taken pga bytes (compiled_length r s.pga.used) s
      → Step s (compile m room t) (compile_answer r) s'
  -- determinise takes the PGD for writing, if there is an open PGA to read
  determinised : {t : SubsetTables} {s' : State} (r : Result SubsetCounts DeterminiseFault) (bytes : List ℕ)
      → s.pga.opened ≡ true → Determinises (file s.pga) t s.pgd.bytes r bytes → s' ≡ taken pgd bytes (determinised_length r s.pgd.used) s
      → Step s (determinise t) (determinise_answer r) s'
  none_open : {t : SubsetTables} {s' : State} → s.pga.opened ≡ false → s' ≡ s → Step s (determinise t) unusable s'
  -- open checks the file, then looks for a place
  opened : {k : Kind} {s' : State} (a : Automaton) → IsFileOf k (file (slot_of s k)) a → length s.turns < s.places
      → s' ≡ with_turn k s → Step s (open_file k) (turn_number (length s.turns)) s'
  no_file : {k : Kind} {r : Refusal} {s' : State} → NoFile k (file (slot_of s k)) r → s' ≡ s → Step s (open_file k) (refused r) s'
  no_place : {k : Kind} {s' : State} (a : Automaton) → IsFileOf k (file (slot_of s k)) a → s.places ≤ length s.turns
      → s' ≡ s → Step s (open_file k) turns_full s'
  -- begin puts a turn at the first position, a word leads it on, and end asks and puts it back
  begun : {i : ℕ} {s' : State} (u : Turn) (a : Automaton) → InUse s i u a → s' ≡ standing i u (first_position a) s → Step s (begin i) done s'
  heard : {i x : ℕ} {s' : State} (u : Turn) (a : Automaton) (p : Position) → InUse s i u a → u.at ≡ some p → x < words_of a
      → s' ≡ standing i u (next_position a p x) s → Step s (word i x) done s'
  ended : {i : ℕ} {says : Bool} {s' : State} (u : Turn) (a : Automaton) (p : Position) → InUse s i u a → u.at ≡ some p → says ≡ says_yes a p
      → s' ≡ standing i u (first_position a) s → Step s (end i) (told says) s'
  -- an unbegun turn refuses any word, and end
  word_unbegun : {i x : ℕ} {s' : State} (u : Turn) (a : Automaton) → InUse s i u a → u.at ≡ none → s' ≡ s
      → Step s (word i x) (refused (turn_refusal 20 0)) s'
  end_unbegun : {i : ℕ} {s' : State} (u : Turn) (a : Automaton) → InUse s i u a → u.at ≡ none → s' ≡ s
      → Step s (end i) (refused (turn_refusal 20 0)) s'
  -- a word that the acceptor does not have is refused
  word_unknown : {i x : ℕ} {s' : State} (u : Turn) (a : Automaton) (p : Position) → InUse s i u a → u.at ≡ some p → words_of a ≤ x
      → s' ≡ s → Step s (word i x) (refused (turn_refusal 21 x)) s'
  -- a call on a turn that is not in use changes nothing
  turn_unusable : {i : ℕ} {c : Call} {s' : State} → OnTurn i c → OutOfUse s i → s' ≡ s → Step s c unusable s'
