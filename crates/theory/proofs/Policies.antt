-- How the meanings of policies compare.
use Rattle.std.proofs.Common.{◌≡◌, ℕ, zero, suc, ◌+◌, List, [], ◌∷◌, map, take, sym, refl, ap, ◌∙◌, subst, arith}
use Rattle.std.proofs.lemmas.List.{take-take}
use Rattle.finding.specs.Numbered.{Arrow}
use Rattle.theory.specs.Policies.{Class, Meaning, one_class, last, both, left_class, right_class, listed, Stacked, PolicyLaws}
use Rattle.theory.specs.Policies.Class.{states}
use Rattle.theory.specs.Policies.Stacked.{empty, push}

module _ (moves : List Arrow) where
  -- a stack has one class
  pub class_one : {m : Meaning} {σ : List (ℕ × ℕ)} {s : ℕ} {c : Class} → Stacked moves m σ s c → {d : Class} → Stacked moves m σ s d → c ≡ d
  class_one empty empty = refl
  class_one {m} (push {s = s} {x = x} {t = t} h v) (push k w) = ap (λ c. m.next c s x t) (class_one h k)

  -- a stack has a class under every meaning
  pub class_of : {m : Meaning} {σ : List (ℕ × ℕ)} {s : ℕ} {c : Class} → Stacked moves m σ s c → (n : Meaning) → (d : Class) × Stacked moves n σ s d
  class_of empty n = (n.first, empty)
  class_of (push {s = s} {x = x} {t = t} h v) n = let (d, k) = class_of h n in (n.next d s x t, push k v)

  one_class_only : {σ : List (ℕ × ℕ)} {s : ℕ} {c : Class} → Stacked moves one_class σ s c → c ≡ states []
  one_class_only empty = refl
  one_class_only (push h v) = refl

  -- each half of a pair is a class of its own
  halves : (m n : Meaning) {σ : List (ℕ × ℕ)} {s : ℕ} {c : Class} → Stacked moves (both m n) σ s c → Stacked moves m σ s (left_class c) × Stacked moves n σ s (right_class c)
  halves m n empty = (empty, empty)
  halves m n (push h v) = let (l, r) = halves m n h in (push l v, push r v)

  -- the states left, the newest first
  abbrev lefts : List (ℕ × ℕ) → List ℕ
  lefts σ = map (λ (p : ℕ × ℕ). p.0) σ

  take_nil : (k : ℕ) → take {A = ℕ} k [] ≡ []
  take_nil zero = refl
  take_nil (suc k) = refl

  take_again : (k s : ℕ) (l : List ℕ) → take k (s ∷ take k l) ≡ take k (s ∷ l)
  take_again zero s l = refl
  take_again (suc k) s l = ap (λ m. s ∷ m) (take-take k (suc k) l (omega arith))

  last_only : (k : ℕ) {σ : List (ℕ × ℕ)} {s : ℕ} {c : Class} → Stacked moves (last k) σ s c → c ≡ states (take k (lefts σ))
  last_only k empty = ap states (sym (take_nil k))
  last_only k (push {stack = σ} {s = s} h v) = ap (λ c. states (take k (s ∷ listed c))) (last_only k h) ∙ ap states (take_again k s (lefts σ))

  pub policy_laws : PolicyLaws moves
  policy_laws =
      record {
        itself = λ m σ τ s c d e h k i j. sym (class_one h i) ∙ class_one k j;
        chain = λ l m n f g σ τ s c d e h k i j.
            let (a, p) = class_of h m in
            let (b, q) = class_of k m in
            let w : a ≡ b = f σ τ s c a b h k p q in
            g σ τ s b d e (subst (Stacked moves m σ s) w p) q i j;
        one_class_coarsest = λ m σ τ s c d e h k i j. one_class_only i ∙ sym (one_class_only j);
        both_left = λ m n σ τ s c d e h k i j. sym (class_one (halves m n h).0 i) ∙ class_one (halves m n k).0 j;
        both_right = λ m n σ τ s c d e h k i j. sym (class_one (halves m n h).1 i) ∙ class_one (halves m n k).1 j;
        last_longer = λ k σ τ s c d e h l i j. longer k σ τ c d e (last_only (k + 1) h) (last_only (k + 1) l) (last_only k i) (last_only k j);
      }
    where
      longer : (k : ℕ) (σ τ : List (ℕ × ℕ)) (c d e : Class) → c ≡ states (take (k + 1) (lefts σ)) → c ≡ states (take (k + 1) (lefts τ)) → d ≡ states (take k (lefts σ)) → e ≡ states (take k (lefts τ)) → d ≡ e
      longer k σ τ c d e p q r s =
          let a : take (k + 1) (lefts σ) ≡ take (k + 1) (lefts τ) = ap listed (sym p ∙ q) in
          r ∙ ap states (sym (take-take k (k + 1) (lefts σ) (omega arith)) ∙ ap (take k) a ∙ take-take k (k + 1) (lefts τ) (omega arith)) ∙ sym s
