-- Each call leaves the state as the tally with it says.
use Rattle.std.proofs.Common.{◌≡◌, ℕ, true, false, List, map, length, take, Ok, Err, Result, sym, refl, ap, ◌∙◌, subst}
use mathlib.Core.Option.{Option, some}
use Rattle.book.specs.declared.fault.BookFault.{BookFault}
use Rattle.book.specs.Grammar.{rule, Grammar}
use Rattle.book.specs.Edits.{AddedOr}
use Rattle.theory.specs.Policies.{Meaning}
use Rattle.theory.specs.Flattening.{Acceptor, Flattened}
use Rattle.policy.specs.Classes.{Room}
use Rattle.pga.specs.declared.listing.Counts.{Counts}
use Rattle.compiler.specs.declared.fault.CompileFault.{CompileFault}
use Rattle.determinising.specs.declared.fault.SubsetCounts.{SubsetCounts}
use Rattle.determinising.specs.declared.fault.DeterminiseFault.{DeterminiseFault}
use Rattle.promise.specs.Acceptors.{Kind, Automaton, Made}
use Rattle.promise.specs.Acceptors.Kind.{pga, pgd}
use Rattle.promise.specs.Acceptors.Automaton.{flat}
use Rattle.promise.specs.Acceptors.IsFileOf.{is_pga}
use Rattle.promise.specs.Acceptors.Made.{compiled as made_pga}
use Rattle.promise.specs.Positions.{Position, first_position, next_position}
use Rattle.promise.specs.States.{Slot, file, Turn, State, slot_of, with_book, taken, retired, open_slot, with_turn, standing}
use Rattle.promise.specs.Calls.{CompileTables, SubsetTables, Call, Answer, add_answer, compile_answer, determinise_answer, compiled_length, determinised_length}
use Rattle.promise.specs.Calls.Call.{add, compile, determinise}
use Rattle.promise.specs.Steps.{Compiles, Determinises, InUse, Step}
use Rattle.promise.specs.Steps.Step.{added, compiled, determinised, none_open, opened, no_file, no_place, begun, heard as took, ended}
use Rattle.promise.specs.Steps.Step.{word_unbegun, end_unbegun, word_unknown, turn_unusable}
use Rattle.promise.specs.Histories.{Start}
use Rattle.promise.specs.Tallies.{Note, FileTally, TurnTally, Tally, note_of, noted, open_note, turn_added, change_words, with_turns, no_words, one_more, tallied}
use Rattle.promise.specs.Leaving.{book_table, Filled, SlotAs, Stands, TurnAs, Each, LeftAs}
use Rattle.promise.specs.Leaving.Stands.{unbegun, at}
use Rattle.promise.proofs.Lists.{each_map, each_weaker, each_push}
use Rattle.promise.proofs.Positions.{one_further}
use Rattle.promise.proofs.Books.{table_holds, added_fit, added_table}
use Rattle.promise.proofs.Filling.{compiled_filled, determinised_filled}
use Rattle.promise.proofs.Turns.{filled_of, Known, known, known_under, heard, same_turn, same_notes, retired_tally, retired_turn, each_change}

-- what is made as a PGA is flattened
pub made_flat : {g : Grammar} {m : Meaning} {f : Acceptor} → Made g m pga (flat f) → Flattened g m f
made_flat (made_pga h) = h

module _ (o : Start) (y : Tally) {s : State} (l : LeftAs o y s) where
  -- ── add ──

  left_add : (left : ℕ) (right : List ℕ) (r : Result ℕ BookFault) (table : List ℕ) → AddedOr (book_table o y) (rule left right) r table
      → LeftAs o (tallied (add_answer r) (add left right) y) (with_book table s)
  left_add left right (Ok n) table h =
      record {
        book = added_table o.table y.grammar l.fit (rule left right) h;
        fit = added_fit o.table y.grammar l.fit (rule left right) h;
        pga = l.pga;
        pgd = l.pgd;
        places = l.places;
        turns = each_weaker (same_turn (λ k. refl)) l.turns;
      }
  left_add left right (Err f) table (h, e) = record { book = e; fit = l.fit; pga = l.pga; pgd = l.pgd; places = l.places; turns = l.turns }

  -- ── a file is written ──

  slot_written : {k : Kind} {lent bytes : List ℕ} {used : ℕ} {n : Option Note} {t : FileTally} {c : Slot} → SlotAs k lent t c → length bytes ≡ length c.bytes
      → Filled k n (take used bytes) → SlotAs k lent (record { note = n; opened = false }) (record { bytes = bytes; used = used; opened = false })
  slot_written h long f = record { as_long = long ∙ h.as_long; opened = refl; filled = f }

  turns_retired : (k : Kind) (n : Option Note) → Each (TurnAs (noted k n y)) (noted k n y).turns (map (retired k) s.turns)
  turns_retired k n = each_map (retired_tally k) (retired k) (retired_turn k n y) l.turns

  left_taken : (k : Kind) (n : Option Note) (bytes : List ℕ) (used : ℕ) → length bytes ≡ length (slot_of s k).bytes → Filled k n (take used bytes)
      → LeftAs o (noted k n y) (taken k bytes used s)
  left_taken pga n bytes used long f =
      record { book = l.book; fit = l.fit; pga = slot_written l.pga long f; pgd = l.pgd; turns = turns_retired pga n; places = l.places }
  left_taken pgd n bytes used long f =
      record { book = l.book; fit = l.fit; pga = l.pga; pgd = slot_written l.pgd long f; turns = turns_retired pgd n; places = l.places }

  -- a refused call took the file and left its bytes
  left_refused : (k : Kind) {bytes : List ℕ} → bytes ≡ (slot_of s k).bytes → LeftAs o (noted k (note_of y k) y) (taken k bytes (slot_of s k).used s)
  left_refused k e = left_taken k _ _ _ (ap length e) (subst (λ b. Filled k (note_of y k) (take (slot_of s k).used b)) (sym e) (filled_of l k))

  left_compile : {m : Meaning} {room : Room} {t : CompileTables} (r : Result Counts CompileFault) {bytes : List ℕ}
      → Compiles (book_table o y) m room t s.pga.bytes r bytes
      → LeftAs o (tallied (compile_answer r) (compile m room t) y) (taken pga bytes (compiled_length r s.pga.used) s)
  left_compile (Ok c) h = left_taken pga _ _ _ h.length_kept (compiled_filled y.grammar (table_holds o.table y.grammar l.fit) h.is)
  left_compile (Err f) h = left_refused pga h.is.1

  left_determinise : {t : SubsetTables} (r : Result SubsetCounts DeterminiseFault) {bytes : List ℕ} → Determinises (file s.pga) t s.pgd.bytes r bytes
      → LeftAs o (tallied (determinise_answer r) (determinise t) y) (taken pgd bytes (determinised_length r s.pgd.used) s)
  left_determinise (Ok c) {bytes} h =
      let (f, is, d) = h.is in
      let k = known l.pga.filled (is_pga is) in
      left_taken pgd _ _ _ h.length_kept
      (subst (λ n. Filled pgd n (take (determinised_length (Ok c) s.pgd.used) bytes)) (sym k.noted) (determinised_filled d k.note k.fit (made_flat k.made)))
  left_determinise (Err f) h = left_refused pgd h.is.1

  -- ── a turn more ──

  open_as : (k : Kind) {lent : List ℕ} {t : FileTally} {c : Slot} → SlotAs k lent t c → SlotAs k lent (open_note t) (open_slot c)
  open_as k h = record { as_long = h.as_long; opened = refl; filled = h.filled }

  new_turns : (k : Kind) → Each (TurnAs (turn_added k y)) (turn_added k y).turns (with_turn k s).turns
  new_turns k = each_push (each_weaker (same_turn (same_notes k y)) l.turns) (record { kind = refl; live = refl; stands = λ e. unbegun })

  left_open : (k : Kind) → LeftAs o (turn_added k y) (with_turn k s)
  left_open pga = record { book = l.book; fit = l.fit; pga = open_as pga l.pga; pgd = l.pgd; turns = new_turns pga; places = l.places }
  left_open pgd = record { book = l.book; fit = l.fit; pga = l.pga; pgd = open_as pgd l.pgd; turns = new_turns pgd; places = l.places }

  -- ── a turn moves ──

  left_standing : {i : ℕ} {u : Turn} {a : Automaton} (change : Option (List ℕ) → Option (List ℕ)) (p : Position) → InUse s i u a
      → ((t : TurnTally) → Known t.kind (note_of y t.kind) a → TurnAs y t u → t.live ≡ true
      → Stands (with_turns (change_words i change y.turns) y) t.kind (change t.words) (some p))
      → LeftAs o (with_turns (change_words i change y.turns) y) (standing i u p s)
  left_standing {i} {u} {a} change p h stands =
      record {
        book = l.book;
        fit = l.fit;
        pga = l.pga;
        pgd = l.pgd;
        places = l.places;
        turns = each_change change _ (same_turn (λ k. refl)) l.turns i h.there
            (λ t there r. record { kind = r.kind; live = r.live; stands = λ e. stands t (known_under l r h.over) r e });
      }

  left_first : {i : ℕ} {u : Turn} {a : Automaton} → InUse s i u a → LeftAs o (with_turns (change_words i no_words y.turns) y) (standing i u (first_position a) s)
  left_first {a = a} h = left_standing no_words (first_position a) h (λ t k r live. at k.note a k.noted k.made refl)

  left_word : {i : ℕ} {u : Turn} {a : Automaton} {p : Position} (x : ℕ) → InUse s i u a → u.at ≡ some p
      → LeftAs o (with_turns (change_words i (one_more x) y.turns) y) (standing i u (next_position a p x) s)
  left_word {i} {a = a} {p} x h e =
      left_standing (one_more x) (next_position a p x) h
      (λ t k r live.
      let w = heard k r live e in
      subst (λ v. Stands (with_turns (change_words i (one_more x) y.turns) y) t.kind v (some (next_position a p x))) (sym (ap (one_more x) w.are))
      (at k.note a k.noted k.made (ap (λ q. next_position a q x) w.leads ∙ sym (one_further a (first_position a) w.words x))))

  -- ── every call ──

  there : {z : Tally} {t u : State} → u ≡ t → LeftAs o z t → LeftAs o z u
  there {z} e k = subst (LeftAs o z) (sym e) k

  pub left_step : {c : Call} {a : Answer} {s' : State} → Step s c a s' → LeftAs o (tallied a c y) s'
  left_step (added {left = left} {right = right} r table h e) = there e (left_add left right r table (subst (λ b. AddedOr b (rule left right) r table) l.book h))
  left_step (compiled {m = m} {room = room} {t = t} r bytes h e) = there e (left_compile r (subst (λ b. Compiles b m room t s.pga.bytes r bytes) l.book h))
  left_step (determinised r bytes is_open h e) = there e (left_determinise r h)
  left_step (none_open h e) = there e l
  left_step (opened {k = k} a h room e) = there e (left_open k)
  left_step (no_file h e) = there e l
  left_step (no_place a h room e) = there e l
  left_step (begun u a h e) = there e (left_first h)
  left_step (took {x = x} u a p h at_p known-word e) = there e (left_word x h at_p)
  left_step (ended u a p h at_p is e) = there e (left_first h)
  left_step (word_unbegun u a h at_none e) = there e l
  left_step (end_unbegun u a h at_none e) = there e l
  left_step (word_unknown u a p h at_p high e) = there e l
  left_step (turn_unusable on h e) = there e l
