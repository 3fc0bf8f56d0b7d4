-- Lists whose elements are related place by place.
use Rattle.std.proofs.Common.{◌≡◌, ℕ, zero, suc, List, [], ◌∷◌, ◌++◌, map, length, refl, ap, subst}
use mathlib.Core.Option.{some}
use lib.ListN.{get_elem?}
use Rattle.theory.proofs.Lists.{some_one}
use Rattle.promise.specs.Leaving.{Each}
use Rattle.promise.specs.Leaving.Each.{no_more, more}

-- what stands at a place of the second list has its partner in the first
pub partner : {A B : Type 0} {R : A → B → Type 0} {xs : List A} {ys : List B} → Each R xs ys → (i : ℕ) {b : B} → get_elem? ys i ≡ some b
    → (a : A) × (get_elem? xs i ≡ some a) × R a b
partner no_more i e = absurd cc
partner {R = R} (more {a = a} r k) zero e = (a, refl, subst (R a) (some_one refl e) r)
partner (more r k) (suc i) e = partner k i e

-- and the other way round
pub mate : {A B : Type 0} {R : A → B → Type 0} {xs : List A} {ys : List B} → Each R xs ys → (i : ℕ) {a : A} → get_elem? xs i ≡ some a
    → (b : B) × (get_elem? ys i ≡ some b) × R a b
mate no_more i e = absurd cc
mate {R = R} (more {b = b} r k) zero e = (b, refl, subst (λ x. R x b) (some_one refl e) r)
mate (more r k) (suc i) e = mate k i e

pub each_length : {A B : Type 0} {R : A → B → Type 0} {xs : List A} {ys : List B} → Each R xs ys → length xs ≡ length ys
each_length no_more = refl
each_length (more r k) = ap suc (each_length k)

pub each_map : {A B : Type 0} {R S : A → B → Type 0} (f : A → A) (g : B → B) → ((a : A) (b : B) → R a b → S (f a) (g b))
    → {xs : List A} {ys : List B} → Each R xs ys → Each S (map f xs) (map g ys)
each_map f g h no_more = no_more
each_map f g h (more {a = a} {b = b} r k) = more (h a b r) (each_map f g h k)

pub each_weaker : {A B : Type 0} {R S : A → B → Type 0} → ((a : A) (b : B) → R a b → S a b) → {xs : List A} {ys : List B} → Each R xs ys
    → Each S xs ys
each_weaker h no_more = no_more
each_weaker h (more {a = a} {b = b} r k) = more (h a b r) (each_weaker h k)

pub each_push : {A B : Type 0} {R : A → B → Type 0} {xs : List A} {ys : List B} {a : A} {b : B} → Each R xs ys → R a b
    → Each R (xs ++ (a ∷ [])) (ys ++ (b ∷ []))
each_push no_more r = more r no_more
each_push (more q k) r = more q (each_push k r)
