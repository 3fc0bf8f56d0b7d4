-- What is made of a note: there is one of each kind, both have the same sentences, and what an answer means for the grammar.
use Rattle.std.proofs.Common.{◌≡◌, ℕ, Bool, true, ◌↔◌, List, ap, ◌∙◌, subst}
use Rattle.book.specs.Grammar.{Grammar, Derives}
use Rattle.book.specs.Tables.{Fit}
use Rattle.theory.specs.Policies.{Meaning}
use Rattle.theory.specs.Flattening.{Acceptor, Flattened}
use Rattle.theory.specs.Sentences.{Passes}
use Rattle.theory.specs.Subsets.{Determinised}
use Rattle.theory.specs.Laws.{Laws}
use Rattle.theory.proofs.Items.{fit_sound}
use Rattle.theory.proofs.Ranges.{in_range}
use Rattle.theory.proofs.Subsets.{same_sentences, one_determined}
use Rattle.theory.proofs.Theorems.{all_laws}
use Rattle.promise.specs.Acceptors.{Kind, Automaton, words_of, Passed, Made}
use Rattle.promise.specs.Acceptors.Automaton.{flat, subset}
use Rattle.promise.specs.Acceptors.Made.{compiled, determinised}
use Rattle.promise.specs.Positions.{says_yes, position_after}
use Rattle.promise.specs.Tallies.{Note}
use Rattle.promise.specs.Leaving.{MadeOf}
use Rattle.promise.specs.Promises.{Verdict}
use Rattle.promise.proofs.Positions.{flat_says, subset_says}

laws : (g : Grammar) → Fit g → Laws g
laws g fit = all_laws g (fit_sound g fit)

-- what is made comes from a flattened acceptor, and has its sentences and words
pub record Source (g : Grammar) (m : Meaning) (a : Automaton) : Type 0 where
  pub acceptor : Acceptor
  pub flattened : Flattened g m acceptor
  pub same : (w : List ℕ) → Passed a w ↔ Passes acceptor w
  pub words : words_of a ≡ g.words

pub source : (g : Grammar) (m : Meaning) {k : Kind} {a : Automaton} → Made g m k a → Source g m a
source g m (compiled {f = f} h) = record { acceptor = f; flattened = h; same = λ w. ((λ p. p), (λ p. p)); words = h.flat.words_are }
source g m (determinised {f = f} h t) =
    record { acceptor = f; flattened = h; same = same_sentences f (in_range g m h) t; words = t.words_are ∙ h.flat.words_are }

-- the end question, where words lead, says whether they are a sentence
pub says_passed : (g : Grammar) (m : Meaning) {k : Kind} {a : Automaton} → Made g m k a → (w : List ℕ) → (says_yes a (position_after a w) ≡ true) ↔ Passed a w
says_passed g m (compiled {f = f} h) w = flat_says f (in_range g m h) w
says_passed g m (determinised {d = d} h t) w = subset_says d t w

-- one acceptor of each kind is made
pub made_one : (g : Grammar) (m : Meaning) → Fit g → {k : Kind} {a b : Automaton} → Made g m k a → Made g m k b → a ≡ b
made_one g m fit (compiled {f = e} h) (compiled {f = f} i) = ap flat ((laws g fit).one m e f h i)
made_one g m fit (determinised {f = e} {d = d} h t) (determinised {f = f} {d = c} i u) =
    let same : f ≡ e = (laws g fit).one m f e i h in
    ap subset (one_determined e (in_range g m h) d c t (subst (λ (x : Acceptor). Determinised x c) same u))

-- an answer that is yes exactly for the sentences of what was made has the verdict
pub verdict : (n : Note) → Fit n.grammar → {k : Kind} {a : Automaton} → MadeOf n k a → (w : List ℕ) (says : Bool) → (says ≡ true) ↔ Passed a w
    → Verdict n k w says
verdict n fit {k} {a} made w says is =
    let g = n.grammar in let m = n.meaning in let l = laws g fit in
    let s = source g m made in let f = s.acceptor in
    let yes-for : Passes f w → says ≡ true = λ p. is.1 ((s.same w).1 p) in
    let lost-none : Derives g w → says ≡ true = λ d. yes-for (l.nothing_lost m f s.flattened w d) in
    record {
      passed = λ b other. subst (λ c. (says ≡ true) ↔ Passed c w) (made_one g m fit made other) is;
      nothing_lost = lost-none;
      exact = λ linear. ((λ e. l.exact linear m f s.flattened w ((s.same w).0 (is.0 e))), lost-none);
      finer = λ o finer j b other p. (let t = source g o other in yes-for (l.finer o m finer t.acceptor f t.flattened s.flattened w ((t.same w).0 p)));
    }
