-- The answer that the tally calls for.
use Rattle.std.specs.Prelude.{◌≡◌, ℕ, ◌<◌, ◌≤◌, Bool, true, false, ◌↔◌, List, length, Result}
use Rattle.std.proofs.Math.Option.{none, some}
use Rattle.std.proofs.Math.ListN.{get_elem?}
use Rattle.book.specs.declared.fault.BookFault.{BookFault}
use Rattle.book.specs.Grammar.{rule}
use Rattle.book.specs.Edits.{AddedOr}
use Rattle.theory.specs.Policies.{Meaning}
use Rattle.theory.specs.Flattening.{Acceptor, Flattened}
use Rattle.policy.specs.Classes.{Room}
use Rattle.fields.specs.Refusals.{told as file_refusal}
use Rattle.pga.specs.declared.listing.Counts.{Counts}
use Rattle.pga.specs.Files.{file_of}
use Rattle.compiler.specs.declared.fault.CompileFault.{CompileFault}
use Rattle.determinising.specs.declared.fault.SubsetCounts.{SubsetCounts}
use Rattle.determinising.specs.declared.fault.DeterminiseFault.{DeterminiseFault}
use Rattle.promise.specs.Acceptors.{Kind, Automaton, Passed}
use Rattle.promise.specs.Calls.{CompileTables, SubsetTables, Call, Answer, add_answer, compile_answer, determinise_answer, turn_refusal}
use Rattle.promise.specs.Calls.Call.{add, compile, open_file, determinise, begin, word, end}
use Rattle.promise.specs.Calls.Answer.{turn_number, done, told, refused, unusable, turns_full}
use Rattle.promise.specs.Steps.{Compiles, Determinises, OnTurn}
use Rattle.promise.specs.Histories.{Start}
use Rattle.promise.specs.Tallies.{Note, TurnTally, Tally, note_of}
use Rattle.promise.specs.Leaving.{book_table, MadeOf}

-- turn i is t, which is in use, and its file has this note
pub record OnNote (y : Tally) (i : ℕ) (t : TurnTally) (n : Note) : Type 0 where
  pub there : get_elem? y.turns i ≡ some t
  pub live : t.live ≡ true
  pub note : note_of y t.kind ≡ some n

-- by the tally, turn i is not there or no longer in use
abbrev pub NoTurn : Tally → ℕ → Type 0
NoTurn y i = (t : TurnTally) → get_elem? y.turns i ≡ some t → t.live ≡ false

-- after the calls that the tally counts, the call gets this answer
pub data Due (o : Start) (y : Tally) : Call → Answer → Type 0 where
  -- add and compile answer as they do on the table of the tally's grammar
  added : {left : ℕ} {right : List ℕ} (r : Result ℕ BookFault) (table : List ℕ) → AddedOr (book_table o y) (rule left right) r table
      → Due o y (add left right) (add_answer r)
  compiled : {m : Meaning} {room : Room} {t : CompileTables} (r : Result Counts CompileFault) (out out' : List ℕ) → length out ≡ length o.pga
      → Compiles (book_table o y) m room t out r out' → Due o y (compile m room t) (compile_answer r)
  -- determinise answers as it does on the file of the noted grammar's acceptor
  determinised : {t : SubsetTables} (r : Result SubsetCounts DeterminiseFault) (n : Note) (f : Acceptor) (out out' : List ℕ) → y.pga.opened ≡ true
      → y.pga.note ≡ some n → Flattened n.grammar n.meaning f → length out ≡ length o.pgd → Determinises (file_of f) t out r out'
      → Due o y (determinise t) (determinise_answer r)
  none_open : {t : SubsetTables} → y.pga.opened ≡ false → Due o y (determinise t) unusable
  -- a file can be opened when it has a note, as long as one more turn has a place
  opened : {k : Kind} (n : Note) → note_of y k ≡ some n → length y.turns < o.places → Due o y (open_file k) (turn_number (length y.turns))
  no_file : {k : Kind} → note_of y k ≡ none → Due o y (open_file k) (refused (file_refusal 17 0))
  no_place : {k : Kind} (n : Note) → note_of y k ≡ some n → o.places ≤ length y.turns → Due o y (open_file k) turns_full
  -- a turn in use can begin at any time, and once it has begun takes the words of its grammar
  begun : {i : ℕ} (t : TurnTally) (n : Note) → OnNote y i t n → Due o y (begin i) done
  heard : {i x : ℕ} (t : TurnTally) (n : Note) (w : List ℕ) → OnNote y i t n → t.words ≡ some w → x < n.grammar.words → Due o y (word i x) done
  -- end tells whether the words are a sentence of what is made of the note
  ended : {i : ℕ} {says : Bool} (t : TurnTally) (n : Note) (w : List ℕ) (a : Automaton) → OnNote y i t n → t.words ≡ some w → MadeOf n t.kind a
      → (says ≡ true) ↔ Passed a w → Due o y (end i) (told says)
  word_unbegun : {i x : ℕ} (t : TurnTally) (n : Note) → OnNote y i t n → t.words ≡ none → Due o y (word i x) (refused (turn_refusal 20 0))
  end_unbegun : {i : ℕ} (t : TurnTally) (n : Note) → OnNote y i t n → t.words ≡ none → Due o y (end i) (refused (turn_refusal 20 0))
  word_unknown : {i x : ℕ} (t : TurnTally) (n : Note) (w : List ℕ) → OnNote y i t n → t.words ≡ some w → n.grammar.words ≤ x
      → Due o y (word i x) (refused (turn_refusal 21 x))
  turn_unusable : {i : ℕ} {c : Call} → OnTurn i c → NoTurn y i → Due o y c unusable
