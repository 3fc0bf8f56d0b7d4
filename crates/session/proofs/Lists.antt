-- Lists that are changed place by place, seen through a function.
use Rattle.std.proofs.Common.{◌≡◌, ℕ, zero, suc, ◌<◌, ◌≤◌, min, List, [], ◌∷◌, ◌++◌, map, length, get_or, take, drop, set, sym, refl, ap, ◌∙◌, arith}
use mathlib.Core.Option.{none, some}
use lib.ListN.{get_elem?}

-- one element more is changed
pub map_on : {A B : Type 0} (f : A → B) (change : B → B) (xs ys : List A) (i : ℕ) (r d : A) → i < length xs → map f xs ≡ map change (map f (take i ys)) ++ map f (drop i ys)
    → f r ≡ change (f (get_or xs i d)) → map f (set xs i r) ≡ map change (map f (take (suc i) ys)) ++ map f (drop (suc i) ys)
map_on f change [] ys i r d l e g = absurd (omega arith)
map_on f change (x ∷ xs) [] zero r d l e g = absurd cc
map_on f change (x ∷ xs) [] (suc i) r d l e g = absurd cc
map_on f change (x ∷ xs) (y ∷ ys) zero r d l e g =
    let a : f x ≡ f y = cc in let b : map f xs ≡ map f ys = cc in let c : f r ≡ change (f y) = g ∙ ap change a in cc
map_on f change (x ∷ xs) (y ∷ ys) (suc i) r d l e g =
    let a : f x ≡ change (f y) = cc in
    let b : map f xs ≡ map change (map f (take i ys)) ++ map f (drop i ys) = cc in
    let k = map_on f change xs ys i r d (omega arith) b g in cc

-- an element among the first n is set
pub set_taken : {A B : Type 0} (f : A → B) (n : ℕ) (xs : List A) (i : ℕ) (v : A) → map f (take n (set xs i v)) ≡ set (map f (take n xs)) i (f v)
set_taken f zero xs i v = refl
set_taken f (suc n) [] i v = refl
set_taken f (suc n) (x ∷ xs) zero v = refl
set_taken f (suc n) (x ∷ xs) (suc i) v = ap (λ ys. f x ∷ ys) (set_taken f n xs i v)

-- what stands among the first n, and that nothing stands past them
pub got : {A B : Type 0} (f : A → B) (n : ℕ) (xs : List A) (i : ℕ) {v : A} → i < n → i < length xs → v ≡ get_or xs i v → get_elem? (map f (take n xs)) i ≡ some (f v)
got f zero xs i l k e = absurd (omega arith)
got f (suc n) [] i l k e = absurd (omega arith)
got f (suc n) (x ∷ xs) zero l k e = ap (λ w. some (f w)) (sym e)
got f (suc n) (x ∷ xs) (suc i) l k e = got f n xs i (omega arith) (omega arith) e

pub none_past : {A B : Type 0} (f : A → B) (n : ℕ) (xs : List A) (i : ℕ) → min n (length xs) ≤ i → get_elem? (map f (take n xs)) i ≡ none
none_past f zero xs i l = refl
none_past f (suc n) [] i l = refl
none_past f (suc n) (x ∷ xs) zero l = absurd (omega arith)
none_past f (suc n) (x ∷ xs) (suc i) l = none_past f n xs i (omega arith)
