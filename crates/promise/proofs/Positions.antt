-- Where words lead, and what the end question says there.
use Rattle.std.proofs.Common.{◌≡◌, ℕ, zero, suc, Bool, true, false, ◌↔◌, List, [], ◌∷◌, ◌++◌, get_or, sym, refl, ap, ◌∙◌, subst}
use mathlib.Core.Option.{Option, none, some}
use mathlib.Core.List.{Memᴰ}
use lib.ListN.{get_elem?}
use Rattle.table.proofs.Lists.{stands_is}
use Rattle.theory.specs.Unfolding.{along}
use Rattle.theory.specs.Flattening.{Acceptor, Leads}
use Rattle.theory.specs.Flattening.Leads.{here, on}
use Rattle.theory.specs.Sentences.{Passes}
use Rattle.theory.specs.Subsets.{InRange, first_set, word_set, words_set, passes, Determined, Determinised, DeterminedPasses}
use Rattle.theory.proofs.Lists.{none_some, some_one}
use Rattle.theory.proofs.Numbering.{move_one}
use Rattle.theory.proofs.Unfolding.{along_mem, along_is}
use Rattle.theory.proofs.Subsets.{passes_is}
use Rattle.promise.specs.Acceptors.{Automaton}
use Rattle.promise.specs.Acceptors.Automaton.{flat, subset}
use Rattle.promise.specs.Positions.{Position, next_state, next_position, is_final, says_yes, position_from, position_after}
use Rattle.promise.specs.Positions.Position.{nodes, state}

-- one word more leads one step further
pub one_further : (a : Automaton) (p : Position) (w : List ℕ) (x : ℕ) → position_from a p (w ++ (x ∷ [])) ≡ next_position a (position_from a p w) x
one_further a p [] x = refl
one_further a p (y ∷ w) x = one_further a (next_position a p y) w x

-- ── sets of nodes ──

set_after : (f : Acceptor) (set w : List ℕ) → position_from (flat f) (nodes set) w ≡ nodes (words_set f set w)
set_after f set [] = refl
set_after f set (x ∷ w) = set_after f (word_set f set x) w

pub flat_says : (f : Acceptor) → InRange f → (w : List ℕ) → (says_yes (flat f) (position_after (flat f) w) ≡ true) ↔ Passes f w
flat_says f fit w =
    let e : says_yes (flat f) (position_after (flat f) w) ≡ passes f w = ap (says_yes (flat f)) (set_after f (first_set f) w) in
    let h = passes_is f fit w in
    ((λ q. h.0 (sym e ∙ q)), (λ q. e ∙ h.1 q))

-- ── states ──

-- the state after some words
abbrev run : Determined → Option ℕ → List ℕ → Option ℕ
run d o [] = o
run d o (x ∷ w) = run d (next_state d o x) w

state_after : (d : Determined) (o : Option ℕ) (w : List ℕ) → position_from (subset d) (state o) w ≡ state (run d o w)
state_after d o [] = refl
state_after d o (x ∷ w) = state_after d (next_state d o x) w

run_none : (d : Determined) (w : List ℕ) → run d none w ≡ none
run_none d [] = refl
run_none d (x ∷ w) = run_none d w

-- arcs lead where the run goes
run_leads : (d : Determined) (w : List ℕ) (q : ℕ) {p : ℕ} → run d (some q) w ≡ some p → Leads d.arcs q w p
run_leads d [] q {p} e = subst (Leads d.arcs q []) (some_one refl e) here
run_leads d (x ∷ w) q {p} e = cases (λ t h. run_leads d w t h) (along d.arcs q x) refl
  where
    cases : ((t : ℕ) → run d (some t) w ≡ some p → Leads d.arcs t w p) → (o : Option ℕ) → along d.arcs q x ≡ o → Leads d.arcs q (x ∷ w) p
    cases again none h = absurd (none_some (run_none d w) (sym (ap (λ o. run d o w) h) ∙ e))
    cases again (some t) h = on (along_mem d.arcs h) (again t (sym (ap (λ o. run d o w) h) ∙ e))

-- and the run goes where they lead, if there is one arc for a state and a word
leads_run : (d : Determined) → ((q x p r : ℕ) → Memᴰ (q, x, p) d.arcs → Memᴰ (q, x, r) d.arcs → p ≡ r)
    → {w : List ℕ} {q p : ℕ} → Leads d.arcs q w p → run d (some q) w ≡ some p
leads_run d one here = refl
leads_run d one (on {xs = w} m l) = ap (λ o. run d o w) (along_is d.arcs one m) ∙ leads_run d one l

-- what reads as true stands there
pub true_stands : (bs : List Bool) (i : ℕ) → get_or bs i false ≡ true → get_elem? bs i ≡ some true
true_stands [] i e = absurd cc
true_stands (b ∷ bs) zero e = ap some e
true_stands (b ∷ bs) (suc i) e = true_stands bs i e

final_state : (d : Determined) (w : List ℕ) (o : Option ℕ) → run d (some 0) w ≡ o → is_final d o ≡ true → DeterminedPasses d w
final_state d w none e h = absurd cc
final_state d w (some p) e h = record { last = p; leads = run_leads d w 0 e; final = true_stands d.finals p h }

pub subset_says : {f : Acceptor} (d : Determined) → Determinised f d → (w : List ℕ)
    → (says_yes (subset d) (position_after (subset d) w) ≡ true) ↔ DeterminedPasses d w
subset_says {f} d t w =
    let e : says_yes (subset d) (position_after (subset d) w) ≡ is_final d (run d (some 0) w) = ap (says_yes (subset d)) (state_after d (some 0) w) in (
      (λ q. final_state d w (run d (some 0) w) refl (sym e ∙ q)),
      (λ p. let r = leads_run d (λ i x j k m n. move_one f.words t.numbered m n) p.leads in
          e ∙ ap (is_final d) r ∙ stands_is d.finals p.last true false p.final),
    )
