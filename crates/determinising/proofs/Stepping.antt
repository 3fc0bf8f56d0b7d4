-- Sets of nodes as a space: what a set moves on, and the set that it moves to.
use Rattle.std.proofs.Common.{◌≡◌, ℕ, List, [], ◌∷◌, ◌++◌, Some, None, Option, sym, ◌∙◌, arith}
use mathlib.Core.Option.{some}
use Rattle.table.specs.Sets.{members}
use Rattle.table.specs.declared.sets.NumberSet.{NumberSet}
use Rattle.table.specs.declared.numbers.NodeNo.{NodeNo}
use Rattle.table.proofs.Same.{set_same_members}
use Rattle.finding.specs.Spaces.{LeastMove, Reached}
use Rattle.finding.proofs.Plain.{plain}
use Rattle.theory.specs.Flattening.{Acceptor}
use Rattle.theory.specs.Subsets.{word_set, subset_step}
use Rattle.theory.proofs.Subsets.{step_only}
use Rattle.pga.specs.Files.{Fit}
use Rattle.acceptor.specs.Steps.{NextWord}
use Rattle.acceptor.proofs.Fitting.{fit_range}
use Rattle.determinising.specs.Determinising.{subset_search}

-- words are few, so the next word on which a set moves is a symbol of the search
pub least_move : (f : Acceptor) → Fit f → (set : List ℕ) (from : ℕ) (r : Option ℕ) → NextWord f set from r → LeastMove (subset_search f) set from r
least_move f fit set from None rests = λ x l u. rests x l
least_move f fit set from (Some y) (l, below, rests, goes) = (l, omega (arith, fit.words.1), rests, (below, goes))

abbrev thing : NumberSet NodeNo → List ℕ
thing e = members e.words

-- a set that has the members of the set after x is what the search is to reach
pub reaches : (f : Acceptor) → Fit f → (ready : List (NumberSet NodeNo) → Type 0) (es : List (NumberSet NodeNo)) (set : List ℕ) (x : ℕ) (to : List ℕ)
    → subset_step f set x ≡ some to → (a : NumberSet NodeNo) → members a.words ≡ word_set f set x → ready es → ready (es ++ (a ∷ []))
    → Reached thing thing ready (subset_search f).room es to (Some a)
reaches f fit ready es set x to e a is now grown =
    plain thing ready (subset_search f).room es to a (λ k y s h. set_same_members y a h) (is ∙ sym (step_only f (fit_range f fit) set x e)) now grown tt
