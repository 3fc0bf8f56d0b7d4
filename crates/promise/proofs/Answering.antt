-- Each call gets the answer that the tally before it calls for.
use Rattle.std.proofs.Common.{◌≡◌, ℕ, ◌<◌, Bool, true, ◌↔◌, List, length, Result, sym, refl, ap, ◌∙◌, subst, arith}
use mathlib.Core.Option.{Option, none, some}
use Rattle.book.specs.declared.fault.Refusal.{Refusal}
use Rattle.book.specs.Grammar.{rule}
use Rattle.book.specs.Edits.{AddedOr}
use Rattle.theory.specs.Flattening.{Acceptor}
use Rattle.fields.specs.Refusals.{told as file_refusal}
use Rattle.pga.specs.Files.{file_of}
use Rattle.determinising.specs.declared.fault.SubsetCounts.{SubsetCounts}
use Rattle.determinising.specs.declared.fault.DeterminiseFault.{DeterminiseFault}
use Rattle.promise.specs.Acceptors.{Kind, Automaton, words_of, Passed, IsFileOf, NoFile}
use Rattle.promise.specs.Acceptors.Kind.{pga}
use Rattle.promise.specs.Acceptors.Automaton.{flat}
use Rattle.promise.specs.Acceptors.IsFileOf.{is_pga}
use Rattle.promise.specs.Positions.{Position, says_yes}
use Rattle.promise.specs.States.{file, Turn, State, slot_of}
use Rattle.promise.specs.Calls.{SubsetTables, Call, Answer, determinise_answer}
use Rattle.promise.specs.Calls.Call.{open_file, determinise}
use Rattle.promise.specs.Calls.Answer.{turn_number, refused}
use Rattle.promise.specs.Steps.{Compiles, Determinises, OutOfUse, Step}
use Rattle.promise.specs.Steps.Step.{added, compiled, determinised, none_open, opened, no_file, no_place, begun, heard as took, ended}
use Rattle.promise.specs.Steps.Step.{word_unbegun, end_unbegun, word_unknown, turn_unusable}
use Rattle.promise.specs.Histories.{Start, InOrder}
use Rattle.promise.specs.Tallies.{Note, Tally}
use Rattle.promise.specs.Leaving.{MadeOf, Filled, LeftAs}
use Rattle.promise.specs.Leaving.Filled.{no_byte, holds}
use Rattle.promise.specs.Dues.{NoTurn, Due}
use Rattle.promise.specs.Dues.Due.{added as due_added, compiled as due_compiled, determinised as due_determinised, none_open as due_none_open}
use Rattle.promise.specs.Dues.Due.{opened as due_opened, no_file as due_no_file, no_place as due_no_place}
use Rattle.promise.specs.Dues.Due.{begun as due_begun, heard as due_heard, ended as due_ended, word_unbegun as due_word_unbegun}
use Rattle.promise.specs.Dues.Due.{end_unbegun as due_end_unbegun, word_unknown as due_word_unknown, turn_unusable as due_turn_unusable}
use Rattle.promise.proofs.Lists.{mate, each_length}
use Rattle.promise.proofs.Faults.{empty_fault, file_no_fault}
use Rattle.promise.proofs.Verdicts.{source, says_passed}
use Rattle.promise.proofs.Turns.{known, filled_of, Seen, seen, Heard, heard, unheard}
use Rattle.promise.proofs.Leaving.{made_flat}

-- bytes that are no file have no note, and are told at place 0
none_noted : {k : Kind} {n : Option Note} {bytes : List ℕ} → Filled k n bytes → (r : Refusal) → NoFile k bytes r → (n ≡ none) × (r ≡ file_refusal 17 0)
none_noted {k} no_byte r f = (refl, empty_fault k f)
none_noted (holds a fit made h) r f = absurd (file_no_fault h r f)

-- the file of a kind is that of a flattened acceptor
record FlatFile (bytes : List ℕ) (a : Automaton) : Type 0 where
  acceptor : Acceptor
  is_flat : a ≡ flat acceptor
  is_file : bytes ≡ file_of acceptor

flat_file : {bytes : List ℕ} {a : Automaton} → IsFileOf pga bytes a → FlatFile bytes a
flat_file (is_pga {f = f} h) = record { acceptor = f; is_flat = refl; is_file = h.is }

module _ (o : Start) (y : Tally) {s : State} (l : LeftAs o y s) where
  -- ── files ──

  due_determinise : {t : SubsetTables} (r : Result SubsetCounts DeterminiseFault) (bytes : List ℕ) → InOrder s → s.pga.opened ≡ true
      → Determinises (file s.pga) t s.pgd.bytes r bytes → Due o y (determinise t) (determinise_answer r)
  due_determinise {t} r bytes io is_open h =
      let (a, f) = io.pga.is_file is_open in
      let k = known l.pga.filled f in
      let e = flat_file f in
      due_determinised r k.note e.acceptor s.pgd.bytes bytes (sym l.pga.opened ∙ is_open) k.noted
      (made_flat (subst (MadeOf k.note pga) e.is_flat k.made)) l.pgd.as_long
      (subst (λ b. Determinises b t s.pgd.bytes r bytes) e.is_file h)

  as_many : length y.turns ≡ length s.turns
  as_many = each_length l.turns

  due_open : (k : Kind) {a : Automaton} → IsFileOf k (file (slot_of s k)) a → length s.turns < s.places
      → Due o y (open_file k) (turn_number (length s.turns))
  due_open k f h =
      let n = known (filled_of l k) f in
      let p = l.places in let e = as_many in
      subst (λ i. Due o y (open_file k) (turn_number i)) as_many (due_opened n.note n.noted (omega arith))

  due_none : (k : Kind) (r : Refusal) → NoFile k (file (slot_of s k)) r → Due o y (open_file k) (refused r)
  due_none k r f = let (e, p) = none_noted (filled_of l k) r f in subst (λ x. Due o y (open_file k) (refused x)) (sym p) (due_no_file e)

  -- ── turns ──

  no_turn : (i : ℕ) → OutOfUse s i → NoTurn y i
  no_turn i h t there = let (u, at, r) = mate l.turns i there in sym r.live ∙ h u at

  -- the words of a turn in use that has begun
  pub words_of_turn : {i : ℕ} {u : Turn} {a : Automaton} {p : Position} (k : Seen y i u a) → u.at ≡ some p → Heard k.turn a p
  words_of_turn k e =
      heard (record { note = k.note; noted = k.on.note; fit = k.fit; made = k.made }) k.as_told k.on.live e

  known_words : {i : ℕ} {u : Turn} {a : Automaton} (k : Seen y i u a) → words_of a ≡ k.note.grammar.words
  known_words k = (source k.note.grammar k.note.meaning k.made).words

  -- the answer is yes exactly for a sentence of what was made
  pub answer_is : {i : ℕ} {u : Turn} {a : Automaton} {p : Position} {says : Bool} (k : Seen y i u a) (w : Heard k.turn a p) → says ≡ says_yes a p
      → (says ≡ true) ↔ Passed a w.words
  answer_is {a = a} k w e =
      let h = says_passed k.note.grammar k.note.meaning k.made w.words in
      let q = e ∙ ap (says_yes a) w.leads in
      ((λ z. h.0 (sym q ∙ z)), (λ z. q ∙ h.1 z))

  -- ── every call ──

  pub due_step : {c : Call} {a : Answer} {s' : State} → InOrder s → Step s c a s' → Due o y c a
  due_step io (added {left = left} {right = right} r table h e) = due_added r table (subst (λ b. AddedOr b (rule left right) r table) l.book h)
  due_step io (compiled {m = m} {room = room} {t = t} r bytes h e) =
      due_compiled r s.pga.bytes bytes l.pga.as_long (subst (λ b. Compiles b m room t s.pga.bytes r bytes) l.book h)
  due_step io (determinised r bytes is_open h e) = due_determinise r bytes io is_open h
  due_step io (none_open h e) = due_none_open (sym l.pga.opened ∙ h)
  due_step io (opened {k = k} a f h e) = due_open k f h
  due_step io (no_file {k = k} {r = r} f e) = due_none k r f
  due_step io (no_place {k = k} a f h e) =
      let n = known (filled_of l k) f in let p = l.places in let q = as_many in due_no_place n.note n.noted (omega arith)
  due_step io (begun u a h e) = let k = seen l h in due_begun k.turn k.note k.on
  due_step io (took u a p h at_p x e) =
      let k = seen l h in let w = words_of_turn k at_p in let n = known_words k in due_heard k.turn k.note w.words k.on w.are (omega arith)
  due_step io (ended u a p h at_p is e) =
      let k = seen l h in let w = words_of_turn k at_p in due_ended k.turn k.note w.words a k.on w.are k.made (answer_is k w is)
  due_step io (word_unbegun u a h at_none e) = let k = seen l h in due_word_unbegun k.turn k.note k.on (unheard k at_none)
  due_step io (end_unbegun u a h at_none e) = let k = seen l h in due_end_unbegun k.turn k.note k.on (unheard k at_none)
  due_step io (word_unknown u a p h at_p x e) =
      let k = seen l h in let w = words_of_turn k at_p in let n = known_words k in due_word_unknown k.turn k.note w.words k.on w.are (omega arith)
  due_step io (turn_unusable {i = i} on h e) = due_turn_unusable on (no_turn i h)
