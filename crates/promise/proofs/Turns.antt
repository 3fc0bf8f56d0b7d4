-- Turns by the tally: what is known of a turn in use, and how each call leaves the turns.
use Rattle.std.proofs.Common.{◌≡◌, ℕ, zero, suc, Bool, true, List, set, sym, refl, ap, ◌∙◌, subst}
use mathlib.Core.Option.{Option, none, some}
use lib.ListN.{get_elem?}
use Rattle.book.specs.Tables.{Fit}
use Rattle.theory.proofs.Lists.{some_one}
use Rattle.promise.specs.Acceptors.{Kind, Automaton, IsFileOf}
use Rattle.promise.specs.Acceptors.Kind.{pga, pgd}
use Rattle.promise.specs.Positions.{Position, position_after}
use Rattle.promise.specs.States.{file, Turn, State, slot_of, stays_live, retired}
use Rattle.promise.specs.Steps.{InUse}
use Rattle.promise.specs.Histories.{Start}
use Rattle.promise.specs.Tallies.{Note, TurnTally, Tally, note_of, noted, turn_added, with_words, change_words}
use Rattle.promise.specs.Leaving.{MadeOf, Filled, Stands, TurnAs, Each, LeftAs}
use Rattle.promise.specs.Leaving.Filled.{no_byte, holds}
use Rattle.promise.specs.Leaving.Stands.{unbegun, at}
use Rattle.promise.specs.Leaving.Each.{no_more, more}
use Rattle.promise.specs.Dues.{OnNote}
use Rattle.promise.proofs.Lists.{partner, each_weaker}
use Rattle.promise.proofs.Files.{no_bytes, same_file}
use Rattle.promise.proofs.Verdicts.{made_one}

-- ── what is known of a file and of a turn in use ──

-- the note of a file, and what it was made to be
pub record Known (k : Kind) (o : Option Note) (a : Automaton) : Type 0 where
  pub note : Note
  pub noted : o ≡ some note
  pub fit : Fit note.grammar
  pub made : MadeOf note k a

pub known : {k : Kind} {o : Option Note} {bytes : List ℕ} {a : Automaton} → Filled k o bytes → IsFileOf k bytes a → Known k o a
known no_byte h = absurd (no_bytes h refl)
known {k} (holds {n = n} b fit made f) h = record { note = n; noted = refl; fit = fit; made = subst (MadeOf n k) (same_file f h) made }

pub filled_of : {o : Start} {y : Tally} {s : State} → LeftAs o y s → (k : Kind) → Filled k (note_of y k) (file (slot_of s k))
filled_of l pga = l.pga.filled
filled_of l pgd = l.pgd.filled

-- what is known of the file that a turn is on
pub known_under : {o : Start} {y : Tally} {s : State} → LeftAs o y s → {t : TurnTally} {u : Turn} {a : Automaton} → TurnAs y t u
    → IsFileOf u.kind (file (slot_of s u.kind)) a → Known t.kind (note_of y t.kind) a
known_under {s = s} l {t} {a = a} r over = known (filled_of l t.kind) (subst (λ k. IsFileOf k (file (slot_of s k)) a) r.kind over)

-- the tally's turn, its note, and what was made of it
pub record Seen (y : Tally) (i : ℕ) (u : Turn) (a : Automaton) : Type 0 where
  pub turn : TurnTally
  pub note : Note
  pub on : OnNote y i turn note
  pub fit : Fit note.grammar
  pub made : MadeOf note turn.kind a
  pub as_told : TurnAs y turn u

pub seen : {o : Start} {y : Tally} {s : State} → LeftAs o y s → {i : ℕ} {u : Turn} {a : Automaton} → InUse s i u a → Seen y i u a
seen l {i} h =
    let (t, there, r) = partner l.turns i h.there in
    let k = known_under l r h.over in
    record {
      turn = t;
      note = k.note;
      fit = k.fit;
      made = k.made;
      as_told = r;
      on = record { there = there; live = sym r.live ∙ h.live; note = k.noted };
    }

-- the words of a turn that has begun, which lead to where it stands
pub record Heard (t : TurnTally) (a : Automaton) (p : Position) : Type 0 where
  pub words : List ℕ
  pub are : t.words ≡ some words
  pub leads : p ≡ position_after a words

stands_words : {y : Tally} (n : Note) {k : Kind} {a : Automaton} → Fit n.grammar → note_of y k ≡ some n → MadeOf n k a
    → {v : Option (List ℕ)} {q : Option Position} {p : Position} → Stands y k v q → q ≡ some p → (w : List ℕ) × (v ≡ some w) × (p ≡ position_after a w)
stands_words n fit here made unbegun e = absurd cc
stands_words n {k} {a} fit here made (at {w = w} m b there other is) e =
    let same : m ≡ n = some_one there here in
    let one : b ≡ a = made_one n.grammar n.meaning fit (subst (λ x. MadeOf x k b) same other) made in
    (w, refl, sym (some_one refl e) ∙ is ∙ ap (λ c. position_after c w) one)

pub heard : {y : Tally} {t : TurnTally} {u : Turn} {a : Automaton} {p : Position} → Known t.kind (note_of y t.kind) a → TurnAs y t u → t.live ≡ true
    → u.at ≡ some p → Heard t a p
heard k r live e =
    let (w, v, q) = stands_words k.note k.fit k.noted k.made (r.stands live) e in
    record { words = w; are = v; leads = q }

stands_none : {y : Tally} {k : Kind} {v : Option (List ℕ)} {q : Option Position} → Stands y k v q → q ≡ none → v ≡ none
stands_none unbegun e = refl
stands_none (at n a there made is) e = absurd cc

pub unheard : {y : Tally} {i : ℕ} {u : Turn} {a : Automaton} → (k : Seen y i u a) → u.at ≡ none → k.turn.words ≡ none
unheard k e = stands_none (k.as_told.stands k.on.live) e

-- ── how calls leave the turns ──

stands_same : {y z : Tally} {k : Kind} → note_of y k ≡ note_of z k → {w : Option (List ℕ)} {p : Option Position} → Stands y k w p → Stands z k w p
stands_same e unbegun = unbegun
stands_same e (at n a there made is) = at n a (sym e ∙ there) made is

-- a turn stands as before where its file has the same note
pub same_turn : {y z : Tally} → ((k : Kind) → note_of y k ≡ note_of z k) → (t : TurnTally) (u : Turn) → TurnAs y t u → TurnAs z t u
same_turn e t u h = record { kind = h.kind; live = h.live; stands = λ l. stands_same (e t.kind) (h.stands l) }

pub was_live : (k j : Kind) (b : Bool) → stays_live k j b ≡ true → b ≡ true
was_live pga pga b e = absurd cc
was_live pga pgd b e = e
was_live pgd pga b e = e
was_live pgd pgd b e = absurd cc

-- the note of a file whose turns stay in use is the same
other_note : (k j : Kind) (o : Option Note) (y : Tally) (b : Bool) → stays_live k j b ≡ true → note_of y j ≡ note_of (noted k o y) j
other_note pga pga o y b e = absurd cc
other_note pga pgd o y b e = refl
other_note pgd pga o y b e = refl
other_note pgd pgd o y b e = absurd cc

abbrev pub retired_tally : Kind → TurnTally → TurnTally
retired_tally k t = record { kind = t.kind; live = stays_live k t.kind t.live; words = t.words }

pub retired_turn : (k : Kind) (o : Option Note) (y : Tally) (t : TurnTally) (u : Turn) → TurnAs y t u → TurnAs (noted k o y) (retired_tally k t) (retired k u)
retired_turn k o y t u h =
    record {
      kind = h.kind;
      live = ap (λ j. stays_live k j u.live) h.kind ∙ ap (stays_live k t.kind) h.live;
      stands = λ e. stands_same (other_note k t.kind o y t.live e) (h.stands (was_live k t.kind t.live e));
    }

pub same_notes : (k : Kind) (y : Tally) (j : Kind) → note_of y j ≡ note_of (turn_added k y) j
same_notes pga y pga = refl
same_notes pga y pgd = refl
same_notes pgd y pga = refl
same_notes pgd y pgd = refl

-- turn i has other words and stands elsewhere, and the others are as they were
pub each_change : {R S : TurnTally → Turn → Type 0} {ts : List TurnTally} {us : List Turn} (change : Option (List ℕ) → Option (List ℕ)) (v : Turn)
    → ((t : TurnTally) (u : Turn) → R t u → S t u) → Each R ts us → (i : ℕ) {u : Turn} → get_elem? us i ≡ some u
    → ((t : TurnTally) → get_elem? ts i ≡ some t → R t u → S (with_words (change t.words) t) v) → Each S (change_words i change ts) (set us i v)
each_change change v weaker no_more i e h = no_more
each_change {R} change v weaker (more {a = t} r k) zero e h = more (h t refl (subst (R t) (some_one refl e) r)) (each_weaker weaker k)
each_change change v weaker (more {a = t} {b = b} r k) (suc i) e h = more (weaker t b r) (each_change change v weaker k i e h)
