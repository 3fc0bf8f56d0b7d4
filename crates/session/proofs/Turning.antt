-- The steps of a turn's events.
use Rattle.std.proofs.Common.{◌≡◌, ℕ, ◌<◌, ◌≤◌, min, true, false, List, map, length, get_or, take, set, Some, None, sym, refl, ap, ◌∙◌, subst}
use mathlib.Core.Option.{Option, some}
use lib.ListN.{get_elem?}
use Rattle.theory.proofs.Lists.{some_one}
use Rattle.acceptor.specs.declared.fault.TurnFault.{TurnFault}
use Rattle.acceptor.specs.declared.turn.Event.{Event}
use Rattle.acceptor.specs.declared.turn.Event.TheVariants.{Begin, Word, End}
use Rattle.acceptor.specs.declared.turn.Told.{Told}
use Rattle.promise.specs.Acceptors.{Kind, Automaton, IsFileOf}
use Rattle.promise.specs.Acceptors.Kind.{pga, pgd}
use Rattle.promise.specs.Positions.{Position}
use Rattle.promise.specs.States.{Turn, State, file, slot_of}
use Rattle.promise.specs.Histories.{InOrder}
use Rattle.promise.specs.Steps.{InUse, OutOfUse, Step}
use Rattle.promise.specs.Steps.OnTurn.{on_begin, on_word, on_end}
use Rattle.promise.specs.Steps.Step.{begun, heard, ended, word_unbegun, end_unbegun, word_unknown, turn_unusable}
use Rattle.acceptor.specs.Refusals.{refusal as turn_refusal}
use Rattle.promise.specs.Calls.Answer.{refused, unusable}
use Rattle.session.specs.declared.record.Standing.{Standing}
use Rattle.session.specs.declared.record.Turn.{Turn as Record}
use Rattle.session.specs.View.{stands_on, stands_at, turn_of}
use Rattle.session.specs.Answering.{Answered}
use Rattle.session.specs.Turns.{in_use, Found}
use Rattle.session.specs.Hearing.{Hears, Refuses, HeardSo, call_of, told_answer}
use Rattle.session.specs.Hearing.Hears.{begins, takes, judges}
use Rattle.session.specs.Hearing.Refuses.{no_word, no_end, unknown}
use Rattle.session.proofs.Answering.{answers}
use Rattle.session.proofs.Lists.{set_taken, got, none_past}

-- ── a turn by its number ──

module _ (n : ℕ) (rows : List Record) (i : ℕ) where
  -- no row is counted there
  pub past_turns : min n (length rows) ≤ i → Found (map turn_of (take n rows)) i None
  past_turns l u h = let e = none_past turn_of n rows i l in absurd cc

  -- the row is that of a turn out of use
  pub out_of_use : {row : Record} → i < n → i < length rows → row ≡ get_or rows i row → (turn_of row).live ≡ false → Found (map turn_of (take n rows)) i None
  out_of_use {row} l k e out u h = subst (λ (v : Turn). v.live ≡ false) (some_one (got turn_of n rows i l k e) h) out

  -- the row is that of a turn in use
  pub still_in_use : {row : Record} (at : Standing) → i < n → i < length rows → row ≡ get_or rows i row → (turn_of row).live ≡ true → stands_on at ≡ (turn_of row).kind
      → stands_at at ≡ (turn_of row).at → Found (map turn_of (take n rows)) i (Some at)
  still_in_use at l k e live kind place = got turn_of n rows i l k e ∙ λ j. some (record { kind = sym kind j; live = live j; at = sym place j })

-- ── the file of a turn in use ──

abbrev OpenFile : State → Kind → Type 0
OpenFile s k = (a : Automaton) × IsFileOf k (file (slot_of s k)) a

open_file : (s : State) → InOrder s → (k : Kind) → (slot_of s k).opened ≡ true → OpenFile s k
open_file s i pga e = i.pga.is_file e
open_file s i pgd e = i.pgd.is_file e

pub its_file : (s : State) → InOrder s → (i : ℕ) (u : Turn) → get_elem? s.turns i ≡ some u → u.live ≡ true → OpenFile s u.kind
its_file s o i u e l = open_file s o u.kind (o.turns i u e l)

-- ── events ──

module _ (s : State) (i : ℕ) (u : Turn) (a : Automaton) (in-it : InUse s i u a) where
  -- the state with turn i standing here
  abbrev moved : Option Position → State
  moved o = record { book = s.book; pga = s.pga; pgd = s.pgd; turns = set s.turns i (record { kind = u.kind; live = u.live; at = o }); places = s.places }

  pub heard_step : {o o' : Option Position} {e : Event} {t : Told} → u.at ≡ o → Hears a o e t o' → {s' : State} → s' ≡ moved o' → Step s (call_of i e) (told_answer t) s'
  heard_step p begins q = begun u a in-it q
  heard_step p (takes {p = at} l) q = heard u a at in-it p l q
  heard_step p (judges {p = at}) q = ended u a at in-it p refl q

  pub refused_step : {o : Option Position} {e : Event} {f : TurnFault} → u.at ≡ o → Refuses a o e f → {s' : State} → s' ≡ s → Step s (call_of i e) (refused (turn_refusal f)) s'
  refused_step p no_word q = word_unbegun u a in-it p q
  refused_step p no_end q = end_unbegun u a in-it p q
  refused_step p (unknown {p = at} l) q = word_unknown u a at in-it p l q

-- a turn in use is told of an event, and stands where the event leads
pub told_step : {s s' : State} (i : ℕ) {at after : Standing} {e : Event} {t : Told} → get_elem? s.turns i ≡ some (in_use at) → HeardSo s at e t after
    → s' ≡ record { book = s.book; pga = s.pga; pgd = s.pgd; turns = set s.turns i (in_use after); places = s.places } → Answered s (call_of i e) (told_answer t) s'
told_step {s} {s'} i {at} {after} {e} {t} there h q = answers step
  where
    step : InOrder s → Step s (call_of i e) (told_answer t) s'
    step o =
        let (a, f) = its_file s o i (in_use at) there refl in
        heard_step s i (in_use at) a (record { there = there; live = refl; over = f }) refl (h.hears a f)
        (q ∙ λ j. record { book = s.book; pga = s.pga; pgd = s.pgd; places = s.places; turns = set s.turns i (record { kind = h.kind j; live = true; at = stands_at after }) })

pub fault_step : (s : State) (i : ℕ) (at : Standing) (e : Event) (f : TurnFault) → get_elem? s.turns i ≡ some (in_use at)
    → ((a : Automaton) → IsFileOf (stands_on at) (file (slot_of s (stands_on at))) a → Refuses a (stands_at at) e f) → Answered s (call_of i e) (refused (turn_refusal f)) s
fault_step s i at e f there h = answers step
  where
    step : InOrder s → Step s (call_of i e) (refused (turn_refusal f)) s
    step o =
        let (a, k) = its_file s o i (in_use at) there refl in
        refused_step s i (in_use at) a (record { there = there; live = refl; over = k }) refl (h a k) refl

pub unusable_step : (s : State) (i : ℕ) (e : Event) → OutOfUse s i → Answered s (call_of i e) unusable s
unusable_step s i Begin h = answers (λ o. turn_unusable on_begin h refl)
unusable_step s i (Word x) h = answers (λ o. turn_unusable on_word h refl)
unusable_step s i End h = answers (λ o. turn_unusable on_end h refl)

-- the row of turn i is set
pub row_set : (n : ℕ) (rows : List Record) (i : ℕ) (t : Record) (u : Turn) → turn_of t ≡ u → map turn_of (take n (set rows i t)) ≡ set (map turn_of (take n rows)) i u
row_set n rows i t u e = set_taken turn_of n rows i t ∙ ap (set (map turn_of (take n rows)) i) e

pub moved_to : (s : State) {before after : List Turn} {places : ℕ} → before ≡ after → places ≡ s.places
    → ◌≡◌ {A = State} (record { book = s.book; pga = s.pga; pgd = s.pgd; turns = before; places = places })
    (record { book = s.book; pga = s.pga; pgd = s.pgd; turns = after; places = s.places })
moved_to s e p i = record { book = s.book; pga = s.pga; pgd = s.pgd; turns = e i; places = p i }
