-- Facts of lists by place.
use Rattle.std.proofs.Common.{◌≡◌, ℕ, zero, suc, ◌+◌, ◌<◌, ◌≤◌, ◌⊎◌, List, [], ◌∷◌, ◌++◌, map, length, get_or, take, set, sym, refl, ap, ◌∙◌, subst, inl, inr, ⊎_elim, arith, length-take-le, get_or-take}
use mathlib.Core.Option.{none, some}
use mathlib.Core.List.Memᴰ
use mathlib.Core.List.{Memᴰ}
use lib.ListN.{get_elem?}
use Rattle.std.proofs.lemmas.List.{take_more_set}
use Rattle.table.specs.Lists.{StandsAt, Lacks, Distinct}

-- ---- what stands where

pub stands_below : {A : Type 0} (ts : List A) (k : ℕ) (t : A) → StandsAt ts k t → k < length ts
stands_below [] k t h = absurd cc
stands_below (u ∷ ts) zero t h = omega arith
stands_below (u ∷ ts) (suc k) t h = let r = stands_below ts k t h in omega arith

pub stands_some : {A : Type 0} (ts : List A) (k : ℕ) → k < length ts → (t : A) × StandsAt ts k t
stands_some [] k h = absurd (omega arith)
stands_some (t ∷ ts) zero h = (t, refl)
stands_some (t ∷ ts) (suc k) h = stands_some ts k (omega arith)

pub stands_getD : {A : Type 0} (ts : List A) (k : ℕ) (d : A) → k < length ts → StandsAt ts k (get_or ts k d)
stands_getD [] k d h = absurd (omega arith)
stands_getD (t ∷ ts) zero d h = refl
stands_getD (t ∷ ts) (suc k) d h = stands_getD ts k d (omega arith)

pub stands_is : {A : Type 0} (ts : List A) (k : ℕ) (t d : A) → StandsAt ts k t → get_or ts k d ≡ t
stands_is [] k t d h = absurd cc
stands_is (u ∷ ts) zero t d h = cc
stands_is (u ∷ ts) (suc k) t d h = stands_is ts k t d h

pub stands_same : {A : Type 0} (ts : List A) (k : ℕ) (t u : A) → StandsAt ts k t → StandsAt ts k u → t ≡ u
stands_same ts k t u p q = cc

pub stands_past : {A : Type 0} (ts : List A) → get_elem? ts (length ts) ≡ none
stands_past [] = refl
stands_past (t ∷ ts) = stands_past ts

pub stands_map : {A B : Type 0} (f : A → B) (ts : List A) (k : ℕ) (t : A) → StandsAt ts k t → StandsAt (map f ts) k (f t)
stands_map f [] k t h = absurd cc
stands_map f (u ∷ ts) zero t h = let e : u ≡ t = cc in ap (λ v. some (f v)) e
stands_map f (u ∷ ts) (suc k) t h = stands_map f ts k t h

pub stands_unmap : {A B : Type 0} (f : A → B) (ts : List A) (k : ℕ) (u : B) → StandsAt (map f ts) k u → (t : A) × StandsAt ts k t × (f t ≡ u)
stands_unmap f [] k u h = absurd cc
stands_unmap f (t ∷ ts) zero u h = (t, refl, cc)
stands_unmap f (t ∷ ts) (suc k) u h = stands_unmap f ts k u h

pub stands_left : {A : Type 0} (ts us : List A) (t : A) (k : ℕ) → StandsAt ts k t → StandsAt (ts ++ us) k t
stands_left [] us t k h = absurd cc
stands_left (v ∷ ts) us t zero h = h
stands_left (v ∷ ts) us t (suc k) h = stands_left ts us t k h

pub stands_last : {A : Type 0} (ts us : List A) (t : A) → StandsAt (ts ++ (t ∷ us)) (length ts) t
stands_last [] us t = refl
stands_last (v ∷ ts) us t = stands_last ts us t

pub stands_push : {A : Type 0} (ts : List A) (u t : A) (k : ℕ) → StandsAt (ts ++ (u ∷ [])) k t → StandsAt ts k t ⊎ ((k ≡ length ts) × (u ≡ t))
stands_push [] u t zero h = inr (refl, cc)
stands_push [] u t (suc k) h = absurd cc
stands_push (v ∷ ts) u t zero h = inl h
stands_push (v ∷ ts) u t (suc k) h = ⊎_elim inl (λ p. inr (ap suc p.0, p.1)) (stands_push ts u t k h)

-- a row that was read, among the first n
pub stands_read : {A : Type 0} (rows : List A) (n k : ℕ) (x : A) → k < n → n ≤ length rows → x ≡ get_or rows k x → StandsAt (take n rows) k x
stands_read rows n k x h l e =
    let s = stands_getD (take n rows) k x (omega (arith, length-take-le n rows l)) in
    s ∙ ap some (get_or-take n rows k x h ∙ sym e)

-- ---- membership and place

pub mem_at : {A : Type 0} (ts : List A) (k : ℕ) (t : A) → StandsAt ts k t → Memᴰ t ts
mem_at [] k t h = absurd cc
mem_at (u ∷ ts) zero t h = Memᴰ.head (let e : t ≡ u = cc in e)
mem_at (u ∷ ts) (suc k) t h = Memᴰ.tail (mem_at ts k t h)

pub at_mem : {A : Type 0} (ts : List A) (t : A) → Memᴰ t ts → (k : ℕ) × StandsAt ts k t
at_mem [] t m = absurd (Memᴰ.not-nil m)
at_mem (u ∷ ts) t m =
    ⊎_elim (λ e. (0, ap some (sym e))) (λ n. let r = at_mem ts t n in (suc r.0, r.1)) (Memᴰ.cases_cons m)

-- ---- what stands nowhere

-- rows read one by one, and none of them was e
pub lacks_read : {A : Type 0} (rows : List A) (i : ℕ) (e : A) → length rows ≤ i → ((k : ℕ) (d : A) → k < i → get_or rows k d ≡ e → ⊥) → Lacks rows e
lacks_read rows i e l passed k s =
    let b = stands_below rows k e s in passed k e (omega arith) (stands_is rows k e e s)

-- ---- distinct

pub distinct_one : {A : Type 0} (t : A) → Distinct (t ∷ [])
distinct_one t zero zero v p q = refl
distinct_one t zero (suc k) v p q = absurd cc
distinct_one t (suc j) k v p q = absurd cc

pub distinct_push : {A : Type 0} (ts : List A) (u : A) → Distinct ts → Lacks ts u → Distinct (ts ++ (u ∷ []))
distinct_push ts u d l j k t p q =
    ⊎_elim
    (λ p'. ⊎_elim (λ q'. d j k t p' q') (λ q'. absurd (l j (subst (λ v. StandsAt ts j v) (sym q'.1) p'))) (stands_push ts u t k q))
    (λ p'. ⊎_elim (λ q'. absurd (l k (subst (λ v. StandsAt ts k v) (sym p'.1) q'))) (λ q'. p'.0 ∙ sym q'.0) (stands_push ts u t k q))
    (stands_push ts u t j p)

pub distinct_added : {A : Type 0} (rows : List A) (n : ℕ) (e : A) → n < length rows → Distinct (take n rows) → Lacks (take n rows) e → Distinct (take (n + 1) (set rows n e))
distinct_added rows n e h d l = subst Distinct (sym (take_more_set rows n e h)) (distinct_push (take n rows) e d l)
