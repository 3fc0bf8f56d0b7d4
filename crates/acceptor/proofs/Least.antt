-- The least word over which a set of nodes leads anywhere.
use Rattle.std.proofs.Common.{◌≡◌, ℕ, ◌≤◌, min, Bool, true, false, cond, ◌&&◌, eqb, leb, List, [], ◌∷◌, Some, None, Option, sym, refl, ap, subst, ⊎_elim, arith, eq-eqb, eqb-true, le-leb, leb-true}
use mathlib.Core.Option.{none}
use mathlib.Core.List.Memᴰ
use mathlib.Core.List.{Memᴰ}
use Rattle.std.specs.List.{reduce, filter_map}
use Rattle.std.proofs.lemmas.Bool.{cases_lt, and_parts, and_from}
use Rattle.table.specs.Lists.{InOrder}
use Rattle.table.proofs.Least.{IsLeast, least_is, given_from, given_in}
use Rattle.finding.specs.Laws.{Rises}
use Rattle.finding.specs.Numbered.{Arrow}
use Rattle.theory.specs.Flattening.{Acceptor}
use Rattle.theory.specs.Sentences.Reads.{stop}
use Rattle.theory.specs.Subsets.{word_set, subset_step}
use Rattle.theory.proofs.Subsets.{word_members, step_made}
use Rattle.pga.specs.Files.{Fit}
use Rattle.acceptor.specs.Rows.{LeastOf, Leaves, LeastWord}
use Rattle.acceptor.specs.Steps.{NextWord}
use Rattle.acceptor.proofs.Fitting.{fit_range}

-- the least that a function gives of a list is the least of which the predicate of some element holds
module _ {A : Type 0} (P : A → ℕ → Type 0) (x : ℕ) (g : A → Option ℕ) (is : (a : A) → LeastOf (P a) x (g a)) where
  -- what holds of a number is given a number that is no greater
  given_below : (a : A) (y : ℕ) → x ≤ y → P a y → (z : ℕ) × (g a ≡ Some z) × (z ≤ y)
  given_below a y l p = at (g a) refl (is a)
    where
      at : (o : Option ℕ) → g a ≡ o → LeastOf (P a) x o → (z : ℕ) × (g a ≡ Some z) × (z ≤ y)
      at None e h = absurd (h y l p)
      at (Some z) e h = (z, e, ⊎_elim (λ s. absurd (h.2 y l s p)) (λ s. omega arith) (cases_lt y z))

  pub least_given : (l : List A) → LeastOf (λ y. (a : A) × Memᴰ a l × P a y) x (reduce min (filter_map g l))
  least_given l = at (reduce min (filter_map g l)) (least_is (filter_map g l))
    where
      at : (r : Option ℕ) → IsLeast (filter_map g l) r → LeastOf (λ y. (a : A) × Memᴰ a l × P a y) x r
      at None e = λ y b (a, m, p). let z = given_below a y b p in Memᴰ.not-nil (subst (Memᴰ z.0) e (given_in g l a z.0 m z.1))
      at (Some n) (among, below) =
          let f = given_from g l n among in
          let h = subst (LeastOf (P f.0) x) f.2 (is f.0) in
          (h.0, (f.0, f.1, h.1), λ y b s (a, m, p). let z = given_below a y b p in let i = below z.0 (given_in g l a z.0 m z.1) in let j = z.2 in absurd (omega arith))

-- the least number is one
least_one : (P : ℕ → Type 0) (x : ℕ) (a b : Option ℕ) → LeastOf P x a → LeastOf P x b → a ≡ b
least_one P x None None h k = refl
least_one P x None (Some z) h k = absurd (h z k.0 k.1)
least_one P x (Some z) None h k = absurd (k z h.0 h.1)
least_one P x (Some z) (Some w) h k =
    ap Some (⊎_elim (λ s. absurd (k.2 z h.0 s h.1)) (λ s. ⊎_elim (λ t. absurd (h.2 w k.0 t k.1)) (λ t. omega arith) (cases_lt w z)) (cases_lt z w))

least_same : (P Q : ℕ → Type 0) (x : ℕ) (r : Option ℕ) → ((y : ℕ) → P y → Q y) → ((y : ℕ) → Q y → P y) → LeastOf P x r → LeastOf Q x r
least_same P Q x None to back h = λ y l q. h y l (back y q)
least_same P Q x (Some z) to back h = (h.0, to z h.1, λ y l s q. h.2 y l s (back y q))

module _ (arcs : List Arrow) (x : ℕ) where
  -- an arc's word, if the arc leaves q on a word that is x or more
  abbrev word_of : ℕ → Arrow → Option ℕ
  word_of q a = cond (eqb a.0 q && leb x a.1) (Some a.1) None

  abbrev On : ℕ → Arrow → ℕ → Type 0
  On q a y = (a.0 ≡ q) × (a.1 ≡ y)

  word_least : (q : ℕ) (a : Arrow) → LeastOf (On q a) x (word_of q a)
  word_least q a = at (eqb a.0 q && leb x a.1) refl
    where
      at : (b : Bool) → (eqb a.0 q && leb x a.1) ≡ b → LeastOf (On q a) x (cond b (Some a.1) None)
      at true e = let p = and_parts (eqb a.0 q) (leb x a.1) e in (leb-true x a.1 p.1, (eqb-true a.0 q p.0, refl), λ z l s o. let i = o.1 in absurd (omega arith))
      at false e = λ y l o. let t : (eqb a.0 q && leb x a.1) ≡ true = and_from (eqb a.0 q) (leb x a.1) (eq-eqb a.0 q o.0) (le-leb x a.1 (let i = o.1 in omega arith)) in absurd (cc)

  -- the least word that is x or more on which an arc leaves q
  pub least_word : ℕ → Option ℕ
  least_word q = reduce min (filter_map (word_of q) arcs)

  least_leaves : (q : ℕ) → LeastWord arcs q x (least_word q)
  unfolding least_word
  least_leaves q =
      least_same (λ y. (a : Arrow) × Memᴰ a arcs × On q a y) (Leaves arcs q) x (least_word q)
      (λ y (a, m, (e, f)). (a.2, subst (λ j. Memᴰ (j, y, a.2) arcs) e (subst (λ i. Memᴰ (a.0, i, a.2) arcs) f m)))
      (λ y (p, m). ((q, y, p), m, (refl, refl)))
      (least_given (On q) x (word_of q) (word_least q) arcs)

  pub word_is : InOrder Rises arcs → (q : ℕ) (r : Option ℕ) → (InOrder Rises arcs → LeastWord arcs q x r) → r ≡ least_word q
  word_is o q r h = least_one (Leaves arcs q) x r (least_word q) (h o) (least_leaves q)

-- an empty set is no state
step_none : (f : Acceptor) (set : List ℕ) (x : ℕ) → ((n : ℕ) → Memᴰ n (word_set f set x) → ⊥) → subset_step f set x ≡ none
step_none f set x none_in = cases (word_set f set x) refl
  where
    cases : (l : List ℕ) → word_set f set x ≡ l → subset_step f set x ≡ none
    cases [] e = rw (e, subset_step)
    cases (n ∷ ns) e = absurd (none_in n (subst (Memᴰ n) (sym e) (Memᴰ.head refl)))

module _ (f : Acceptor) (fit : Fit f) (set : List ℕ) where
  abbrev AnyLeaves : ℕ → Type 0
  AnyLeaves y = (q : ℕ) × Memᴰ q set × Leaves f.arcs q y

  -- the set does not move where no arc leaves a node of it
  stays : (x : ℕ) → (AnyLeaves x → ⊥) → subset_step f set x ≡ none
  stays x no-arc = step_none f set x
      (λ k m. let o = (word_members f (fit_range f fit) set x k).0 m in no-arc (o.by.from, o.by.member, (o.middle, o.by.over)))

  next_of : (x : ℕ) (r : Option ℕ) → LeastOf AnyLeaves x r → NextWord f set x r
  next_of x None h = λ y l. stays y (h y l)
  next_of x (Some y) (l, (q, m, (p, a)), none-less) =
      let range = fit_range f fit in (
        l,
        (range.arcs_within q y p a).1,
        (λ z i j. stays z (none-less z i j)),
        (
          word_set f set y,
          step_made f range set y ((word_members f range set y p).1 (record { middle = p; by = record { from = q; member = m; over = a }; reads = stop })),
        ),
      )

  pub next_word : (x : ℕ) (r : Option ℕ) → r ≡ reduce min (filter_map (least_word f.arcs x) set) → NextWord f set x r
  next_word x r e = next_of x r (subst (LeastOf AnyLeaves x) (sym e) (least_given (Leaves f.arcs) x (least_word f.arcs x) (least_leaves f.arcs x) set))
