-- A session is in order at its start, and every call leaves it so.
use Rattle.std.proofs.Common.{◌≡◌, ℕ, zero, suc, ◌<◌, ◌≤◌, Bool, true, false, ◌⊎◌, List, [], ◌∷◌, length, set, Ok, Err, Result, sym, refl, ap, ◌∙◌, subst, inl, inr, ⊎_elim, arith}
use mathlib.Core.Option.{some}
use lib.ListN.{get_elem?, length-map}
use Rattle.std.proofs.lemmas.List.{length-set, length_push}
use Rattle.table.proofs.Lists.{stands_unmap, stands_push}
use Rattle.theory.specs.Policies.{Meaning}
use Rattle.theory.proofs.Lists.{some_one, none_some}
use Rattle.policy.specs.Classes.{Room}
use Rattle.pga.specs.declared.listing.Counts.{Counts}
use Rattle.compiler.specs.declared.fault.CompileFault.{CompileFault}
use Rattle.determinising.specs.declared.fault.SubsetCounts.{SubsetCounts}
use Rattle.determinising.specs.declared.fault.DeterminiseFault.{DeterminiseFault}
use Rattle.promise.specs.Acceptors.{Kind, Automaton, IsFileOf}
use Rattle.promise.specs.Acceptors.Kind.{pga, pgd}
use Rattle.promise.specs.Positions.{Position}
use Rattle.promise.specs.States.{Slot, file, Turn, State, slot_of, stays_live, retired, taken, open_slot, unbegun, with_turn, standing}
use Rattle.promise.specs.Calls.{CompileTables, SubsetTables, Call, Answer, compiled_length, determinised_length}
use Rattle.promise.specs.Steps.{Compiles, Determinises, InUse, Step}
use Rattle.promise.specs.Steps.Step.{added, compiled, determinised, none_open, opened, no_file, no_place, begun, heard, ended}
use Rattle.promise.specs.Steps.Step.{word_unbegun, end_unbegun, word_unknown, turn_unusable}
use Rattle.promise.specs.Histories.{Start, empty_slot, Fresh, SlotInOrder, InOrder}
use Rattle.promise.proofs.Filling.{compiled_fits, determinised_fits}
use Rattle.promise.proofs.Turns.{was_live}

-- what stands in a list after one place was set
set_stands : {A : Type 0} (ts : List A) (i j : ℕ) (v u : A) → get_elem? (set ts i v) j ≡ some u → (get_elem? ts j ≡ some u) ⊎ ((j ≡ i) × (v ≡ u))
set_stands [] i j v u e = inl e
set_stands (t ∷ ts) zero zero v u e = inr (refl, some_one refl e)
set_stands (t ∷ ts) zero (suc j) v u e = inl e
set_stands (t ∷ ts) (suc i) zero v u e = inl e
set_stands (t ∷ ts) (suc i) (suc j) v u e = ⊎_elim inl (λ h. inr (ap suc h.0, h.1)) (set_stands ts i j v u e)

-- ── the start ──

empty_in_order : (k : Kind) (bytes : List ℕ) → SlotInOrder k (empty_slot bytes)
empty_in_order k bytes = record { within = omega arith; is_file = λ e. absurd cc }

pub start_in_order : (o : Start) (s : State) → Fresh o s → InOrder s
start_in_order o s f =
    record {
      pga = subst (SlotInOrder pga) (sym f.pga) (empty_in_order pga o.pga);
      pgd = subst (SlotInOrder pgd) (sym f.pgd) (empty_in_order pgd o.pgd);
      turns = λ i u at live. absurd (none_some (ap (λ l. get_elem? l i) f.turns) at);
      few = subst (λ l. length l ≤ s.places) (sym f.turns) (omega arith);
    }

module _ {s : State} (io : InOrder s) where
  -- ── a file is written ──

  closed : (k : Kind) {bytes : List ℕ} {used : ℕ} → used ≤ length bytes → SlotInOrder k (record { bytes = bytes; used = used; opened = false })
  closed k h = record { within = h; is_file = λ e. absurd cc }

  -- the turns that stay in use are on the other file
  other_open : (k j : Kind) (bytes : List ℕ) (used : ℕ) (b : Bool) → stays_live k j b ≡ true → (slot_of s j).opened ≡ true
      → (slot_of (taken k bytes used s) j).opened ≡ true
  other_open pga pga bytes used b e h = absurd cc
  other_open pga pgd bytes used b e h = h
  other_open pgd pga bytes used b e h = h
  other_open pgd pgd bytes used b e h = absurd cc

  turns_taken : (k : Kind) (bytes : List ℕ) (used : ℕ) (i : ℕ) (u : Turn) → get_elem? (taken k bytes used s).turns i ≡ some u → u.live ≡ true
      → (slot_of (taken k bytes used s) u.kind).opened ≡ true
  turns_taken k bytes used i u at live =
      let (v, there, e) = stands_unmap (retired k) s.turns i u at in
      let stays : stays_live k v.kind v.live ≡ true = ap (λ (t : Turn). t.live) e ∙ live in
      subst (λ (t : Turn). (slot_of (taken k bytes used s) t.kind).opened ≡ true) e
      (other_open k v.kind bytes used v.live stays (io.turns i v there (was_live k v.kind v.live stays)))

  few_taken : (k : Kind) (bytes : List ℕ) (used : ℕ) → length (taken k bytes used s).turns ≤ s.places
  few_taken k bytes used = let h = io.few in omega (arith, length-map s.turns (retired k))

  taken_in_order : (k : Kind) (bytes : List ℕ) (used : ℕ) → used ≤ length bytes → InOrder (taken k bytes used s)
  taken_in_order pga bytes used h = record { pga = closed pga h; pgd = io.pgd; turns = turns_taken pga bytes used; few = few_taken pga bytes used }
  taken_in_order pgd bytes used h = record { pga = io.pga; pgd = closed pgd h; turns = turns_taken pgd bytes used; few = few_taken pgd bytes used }

  compile_fits : {book : List ℕ} {m : Meaning} {room : Room} {t : CompileTables} (r : Result Counts CompileFault) {bytes : List ℕ}
      → Compiles book m room t s.pga.bytes r bytes → compiled_length r s.pga.used ≤ length bytes
  compile_fits (Ok c) h = compiled_fits h.is.grammar h.is.built.held h.is
  compile_fits (Err f) h = let k = io.pga.within in omega (arith, h.length_kept)

  determinise_fits : {bytes : List ℕ} {t : SubsetTables} (r : Result SubsetCounts DeterminiseFault) {out : List ℕ} → Determinises bytes t s.pgd.bytes r out
      → determinised_length r s.pgd.used ≤ length out
  determinise_fits (Ok c) h = determinised_fits h.is.2
  determinise_fits (Err f) h = let k = io.pgd.within in omega (arith, h.length_kept)

  -- ── a turn more ──

  open_in_order : (k : Kind) {c : Slot} {a : Automaton} → SlotInOrder k c → IsFileOf k (file c) a → SlotInOrder k (open_slot c)
  open_in_order k {a = a} h f = record { within = h.within; is_file = λ e. (a, f) }

  still_open : (k j : Kind) → (slot_of s j).opened ≡ true → (slot_of (with_turn k s) j).opened ≡ true
  still_open pga pga h = refl
  still_open pga pgd h = h
  still_open pgd pga h = h
  still_open pgd pgd h = refl

  now_open : (k : Kind) → (slot_of (with_turn k s) k).opened ≡ true
  now_open pga = refl
  now_open pgd = refl

  turns_more : (k : Kind) (i : ℕ) (u : Turn) → get_elem? (with_turn k s).turns i ≡ some u → u.live ≡ true
      → (slot_of (with_turn k s) u.kind).opened ≡ true
  turns_more k i u at live =
      ⊎_elim (λ h. still_open k u.kind (io.turns i u h live))
      (λ h. subst (λ (t : Turn). (slot_of (with_turn k s) t.kind).opened ≡ true) h.1 (now_open k))
      (stands_push s.turns (unbegun k) u i at)

  few_more : (k : Kind) → length s.turns < s.places → length (with_turn k s).turns ≤ s.places
  few_more k h = omega (arith, length_push s.turns (unbegun k))

  open_turn : (k : Kind) {a : Automaton} → IsFileOf k (file (slot_of s k)) a → length s.turns < s.places → InOrder (with_turn k s)
  open_turn pga f h = record { pga = open_in_order pga io.pga f; pgd = io.pgd; turns = turns_more pga; few = few_more pga h }
  open_turn pgd f h = record { pga = io.pga; pgd = open_in_order pgd io.pgd f; turns = turns_more pgd; few = few_more pgd h }

  -- ── a turn moves ──

  stand_turn : {i : ℕ} {u : Turn} {a : Automaton} (p : Position) → InUse s i u a → InOrder (standing i u p s)
  stand_turn {i} {u} p h =
      let moved : Turn = record { kind = u.kind; live = u.live; at = some p } in
      record {
        pga = io.pga;
        pgd = io.pgd;
        turns = λ j v at live.
            ⊎_elim (λ e. io.turns j v e live)
            (λ e. subst (λ (t : Turn). (slot_of s t.kind).opened ≡ true) e.1 (io.turns i u h.there h.live))
            (set_stands s.turns i j moved v at);
        few = (let k = io.few in omega (arith, length-set s.turns i moved));
      }

  -- ── every call ──

  pub step_in_order : {c : Call} {a : Answer} {s' : State} → Step s c a s' → InOrder s'
  step_in_order (added r table h e) = subst InOrder (sym e) (record { pga = io.pga; pgd = io.pgd; turns = io.turns; few = io.few })
  step_in_order (compiled r bytes h e) = subst InOrder (sym e) (taken_in_order pga bytes _ (compile_fits r h))
  step_in_order (determinised r bytes is_open h e) = subst InOrder (sym e) (taken_in_order pgd bytes _ (determinise_fits r h))
  step_in_order (none_open h e) = subst InOrder (sym e) io
  step_in_order (opened {k = k} a h room e) = subst InOrder (sym e) (open_turn k h room)
  step_in_order (no_file h e) = subst InOrder (sym e) io
  step_in_order (no_place a h room e) = subst InOrder (sym e) io
  step_in_order (begun u a h e) = subst InOrder (sym e) (stand_turn _ h)
  step_in_order (heard u a p h at_p known e) = subst InOrder (sym e) (stand_turn _ h)
  step_in_order (ended u a p h at_p is e) = subst InOrder (sym e) (stand_turn _ h)
  step_in_order (word_unbegun u a h at_none e) = subst InOrder (sym e) io
  step_in_order (end_unbegun u a h at_none e) = subst InOrder (sym e) io
  step_in_order (word_unknown u a p h at_p high e) = subst InOrder (sym e) io
  step_in_order (turn_unusable on h e) = subst InOrder (sym e) io
