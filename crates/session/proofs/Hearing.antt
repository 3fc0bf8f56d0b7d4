-- A turn told of an event by its acceptor, in the words of positions.
use Rattle.std.proofs.Common.{◌≡◌, ℕ, ◌<◌, ◌≤◌, Bool, true, false, eqb, List, [], get_or, Some, None, Ok, Err, Decides, Option as Maybe, Result, sym, refl, ap, subst, eq-eqb, eqb-true}
use mathlib.Core.Option.{Option, some}
use lib.ListN.{get_elem?}
use Rattle.std.proofs.lemmas.Bool.Decides.{same_from_decides}
use Rattle.table.specs.declared.numbers.NodeNo.{NodeNo}
use Rattle.table.specs.declared.numbers.StateNo.{StateNo}
use Rattle.table.specs.declared.sets.NumberSet.{NumberSet}
use Rattle.table.specs.Sets.{members}
use Rattle.table.proofs.Lists.{stands_is}
use Rattle.table.proofs.Rows.{members_in, in_members}
use Rattle.theory.specs.Lists.{any}
use Rattle.theory.specs.Flattening.{Acceptor, Leads}
use Rattle.theory.specs.Flattening.Leads.{here, on}
use Rattle.theory.specs.Subsets.{Determined}
use Rattle.theory.proofs.Lists.{any_mem, mem_any}
use Rattle.pga.specs.Files.{IsFile as IsPga, Fit as FitPga}
use Rattle.pgd.specs.Files.{IsFile as IsPgd, Fit as FitPgd}
use Rattle.acceptor.specs.declared.running.Acceptor.{Ghosts as Running}
use Rattle.acceptor.specs.declared.fault.TurnFault.{TurnFault}
use Rattle.acceptor.specs.declared.turn.Condition.{Condition}
use Rattle.acceptor.specs.declared.turn.Event.{Event}
use Rattle.acceptor.specs.declared.turn.Event.TheVariants.{Begin, Word, End}
use Rattle.acceptor.specs.declared.turn.Told.{Told}
use Rattle.acceptor.specs.declared.turn.Told.TheVariants.{Begun, Taken, Judged}
use Rattle.acceptor.specs.Turns.{Tells}
use Rattle.acceptor.specs.Turns.Tells.{begins as t_begins, no_word as t_no_word, no_end as t_no_end, unknown as t_unknown, takes as t_takes, judges as t_judges}
use Rattle.acceptor.specs.contracts.flat.running.FlatAcceptor.TheImpl.{ghosts as flat_runs}
use Rattle.acceptor.specs.contracts.subset.running.SubsetAcceptor.TheImpl.{ghosts as subset_runs}
use Rattle.acceptor.specs.declared.flat.Flat.{Flat}
use Rattle.acceptor.specs.declared.subset.Subset.{Subset}
use Rattle.acceptor.specs.Flats.{acceptor_of, RestsOf}
use Rattle.acceptor.specs.Subsets.{determined_of, number_of, Goes, RestsAt}
use Rattle.promise.specs.Acceptors.{Automaton, words_of, IsFileOf}
use Rattle.promise.specs.Acceptors.Kind.{pga, pgd}
use Rattle.promise.specs.Acceptors.Automaton.{flat, subset}
use Rattle.promise.specs.Acceptors.IsFileOf.{is_pga, is_pgd}
use Rattle.promise.specs.Positions.Position.{nodes, state}
use Rattle.promise.specs.Positions.{Position, first_position, next_position, next_state, is_final, says_yes}
use Rattle.promise.proofs.Positions.{true_stands}
use Rattle.session.specs.View.{set_position, state_in, state_position, position_in}
use Rattle.session.specs.Hearing.{Hears, Refuses, OfEvent}
use Rattle.session.specs.Hearing.Hears.{begins, takes, judges}
use Rattle.session.specs.Hearing.Refuses.{no_word, no_end, unknown}

-- ── the end question ──

pub set_end : (f : Acceptor) (p : NumberSet NodeNo) (b : Bool) → Decides b (RestsOf f p.words []) → b ≡ any (eqb f.final) (members p.words)
set_end f p b d =
    same_from_decides b (any (eqb f.final) (members p.words)) d (
      (λ e. let (k, m, t) = any_mem (eqb f.final) (members p.words) e in (k, members_in p.words k m, sym (eqb-true f.final k t))),
      (λ r. mem_any (eqb f.final) (members p.words) (in_members p.words p.row r.0 r.1) (eq-eqb f.final r.0 (sym r.2))),
    )

stays : {arcs : List (ℕ × ℕ × ℕ)} {q p : ℕ} {w : List ℕ} → Leads arcs q w p → w ≡ [] → q ≡ p
stays here e = refl
stays (on m k) e = absurd cc

pub state_end : (d : Determined) (p : Maybe StateNo) (b : Bool) → Decides b (RestsAt d (number_of p) []) → b ≡ is_final d (state_in p)
state_end d None b h = same_from_decides b false h ((λ e. absurd cc), (λ r. absurd r))
state_end d (Some s) b h =
    same_from_decides b (get_or d.finals s.0 false) h (
      (λ e. (s.0, here, true_stands d.finals s.0 e)),
      (λ r. stands_is d.finals s.0 true false (subst (λ n. get_elem? d.finals n ≡ some true) (sym (stays r.1 refl)) r.2)),
    )

-- ── states ──

pub state_first : (p : Maybe StateNo) → number_of p ≡ Some 0 → state_in p ≡ some 0
state_first None e = absurd cc
state_first (Some s) e = let z : s.0 ≡ 0 = cc in ap some z

pub state_next : (d : Determined) (p q : Maybe StateNo) (x : ℕ) → Goes d (number_of p) x (number_of q) → state_in q ≡ next_state d (state_in p) x
state_next d None None x g = refl
state_next d None (Some t) x g = absurd cc
state_next d (Some s) None x g = sym g
state_next d (Some s) (Some t) x g = sym g

-- ── what is told ──

-- an answer that is told, or a refusal
abbrev pub HearsOr : Automaton → Option Position → Event → Result Told TurnFault → Option Position → Type 0
HearsOr a o e (Ok t) o' = Hears a o e t o'
HearsOr a o e (Err f) o' = Refuses a o e f

-- an acceptor whose positions are those of the automaton tells what the automaton tells
pub hears_by : {A P : Type 0} (runs : Running A P) (v : A) (a : Automaton) (place : P → Position) → runs.sound v → runs.words v ≡ words_of a
    → ((p : P) → runs.starts v p → place p ≡ first_position a) → ((p q : P) (x : ℕ) → runs.goes v p x q → place q ≡ next_position a (place p) x)
    → ((p : P) (b : Bool) → Decides b (runs.rests v p []) → b ≡ says_yes a (place p))
    → {c c' : Condition P} {e : Event} {r : Result Told TurnFault} → Tells runs v c e r c' → HearsOr a (position_in place c) e r (position_in place c')
hears_by runs v a place sound words first next says {c} (t_begins {first = p} h) =
    subst (λ z. Hears a (position_in place c) Begin Begun (some z)) (sym (first p (h sound).0)) begins
hears_by runs v a place sound words first next says t_no_word = no_word
hears_by runs v a place sound words first next says t_no_end = no_end
hears_by runs v a place sound words first next says (t_unknown {x = x} l) = unknown (subst (λ n. n ≤ x) words l)
hears_by runs v a place sound words first next says (t_takes {at = p} {next = q} {x = x} l g) =
    subst (λ z. Hears a (some (place p)) (Word x) Taken (some z)) (sym (next p q x (g sound).0)) (takes (subst (λ n. x < n) words l))
hears_by runs v a place sound words first next says (t_judges {at = p} {first = q} {verdict = b} d h) =
    subst (λ z. Hears a (some (place p)) End (Judged b) (some z)) (sym (first q (h sound).0))
    (subst (λ t. Hears a (some (place p)) End (Judged t) (some (first_position a))) (sym (says p b (d sound))) judges)

abbrev OfEventOr : Event → Result Told TurnFault → Type 0
OfEventOr e (Ok t) = OfEvent e t
OfEventOr e (Err f) = Unit {0}

pub of_event_by : {A P : Type 0} (runs : Running A P) (v : A) {c c' : Condition P} {e : Event} {r : Result Told TurnFault} → Tells runs v c e r c' → OfEventOr e r
of_event_by runs v (t_begins h) = refl
of_event_by runs v t_no_word = tt
of_event_by runs v t_no_end = tt
of_event_by runs v (t_unknown l) = tt
of_event_by runs v (t_takes l g) = refl
of_event_by runs v (t_judges {verdict = b} d h) = (b, refl)

-- ── the acceptor of a file ──

-- what is told on a view of the file's bytes is what the file's acceptor tells
module _ {bytes read : List ℕ} (same : read ≡ bytes) where
  pub pga_hears : {v : Flat} → ((f : Acceptor) → IsPga read f → acceptor_of v ≡ f) → {c c' : Condition (NumberSet NodeNo)} {e : Event} {r : Result Told TurnFault}
      → Tells flat_runs v c e r c' → (a : Automaton) → IsFileOf pga bytes a → HearsOr a (position_in set_position c) e r (position_in set_position c')
  pga_hears {v} reads {c} {c'} {e} {r} t a (is_pga {f = f} k) =
      let is = reads f (subst (λ b. IsPga b f) (sym same) k) in
      subst (λ z. HearsOr (flat z) (position_in set_position c) e r (position_in set_position c')) is
      (hears_by flat_runs v (flat (acceptor_of v)) set_position (subst FitPga (sym is) k.fit) refl (λ p h. ap nodes h) (λ p q x h. ap nodes h)
      (λ p b d. set_end (acceptor_of v) p b d) t)

  pub pgd_hears : {v : Subset} → ((d : Determined) → IsPgd read d → determined_of v ≡ d) → {c c' : Condition (Maybe StateNo)} {e : Event} {r : Result Told TurnFault}
      → Tells subset_runs v c e r c' → (a : Automaton) → IsFileOf pgd bytes a → HearsOr a (position_in state_position c) e r (position_in state_position c')
  pgd_hears {v} reads {c} {c'} {e} {r} t a (is_pgd {d = d} k) =
      let is = reads d (subst (λ b. IsPgd b d) (sym same) k) in
      subst (λ z. HearsOr (subset z) (position_in state_position c) e r (position_in state_position c')) is
      (hears_by subset_runs v (subset (determined_of v)) state_position (subst FitPgd (sym is) k.fit) refl (λ p h. ap state (state_first p h))
      (λ p q x h. ap state (state_next (determined_of v) p q x h)) (λ p b h. state_end (determined_of v) p b h) t)
