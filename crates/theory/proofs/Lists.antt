-- Lists of any element: tests, places, strictly ascending lists.
use Rattle.std.proofs.Common.{◌≡◌, ℕ, zero, suc, ◌+◌, ◌≤◌, Bool, true, false, eqb, ◌⊎◌, List, [], ◌∷◌, ◌++◌, length, sym, refl, ap, ◌∙◌, subst, inl, inr, ⊎_elim, arith, eqb-true}
use mathlib.Core.Option.{Option, none, some}
use mathlib.Core.List.Memᴰ
use mathlib.Core.List.{Memᴰ}
use lib.ListN.{get_elem?}
use Rattle.std.specs.List.{AllByRecursion}
use Rattle.std.proofs.lemmas.Bool.{cases_Bool}
use Rattle.table.proofs.Orders.{in_order_none, in_order_cons, in_order_head, in_order_tail}
use Rattle.table.specs.Lists.{InOrder}
use Rattle.theory.specs.Lists.{and, or, keep, any, every, same}

-- ── tests ──

pub and_is : (a b : Bool) → a ≡ true → b ≡ true → and a b ≡ true
and_is true b e f = f
and_is false b e f = absurd (cc)

pub and_only : (a b : Bool) → and a b ≡ true → (a ≡ true) × (b ≡ true)
and_only true b e = (refl, e)
and_only false b e = absurd (cc)

pub or_left : (a b : Bool) → a ≡ true → or a b ≡ true
or_left true b e = refl
or_left false b e = absurd (cc)

pub or_right : (a b : Bool) → b ≡ true → or a b ≡ true
or_right true b e = refl
or_right false b e = e

pub or_cases : (a b : Bool) → or a b ≡ true → (a ≡ true) ⊎ (b ≡ true)
or_cases true b e = inl refl
or_cases false b e = inr e

pub some_one : {A : Type 0} {a c : A} {o : Option A} → o ≡ some a → o ≡ some c → a ≡ c
some_one p q = cc

pub none_some : {A : Type 0} {a : A} {o : Option A} → o ≡ none → o ≡ some a → ⊥
none_some p q = cc

-- ── what a test keeps ──

module _ {A : Type 0} (p : A → Bool) where
  pub keep_take : (x : A) (xs : List A) → p x ≡ true → keep p (x ∷ xs) ≡ x ∷ keep p xs
  keep_take x xs e = rw (e, keep)

  pub keep_leave : (x : A) (xs : List A) → p x ≡ false → keep p (x ∷ xs) ≡ keep p xs
  keep_leave x xs e = rw (e, keep)

  pub keep_mem : (xs : List A) {k : A} → Memᴰ k (keep p xs) → Memᴰ k xs × (p k ≡ true)
  keep_mem [] m = absurd (Memᴰ.not-nil m)
  keep_mem (x ∷ xs) {k} m =
      ⊎_elim
      (λ e. ⊎_elim (λ q. (Memᴰ.head q, ap p q ∙ e)) (λ t. let (a, b) = keep_mem xs t in (Memᴰ.tail a, b)) (Memᴰ.cases_cons (subst (Memᴰ k) (keep_take x xs e) m)))
      (λ e. let (a, b) = keep_mem xs (subst (Memᴰ k) (keep_leave x xs e) m) in (Memᴰ.tail a, b))
      (cases_Bool (p x))

  pub mem_keep : (xs : List A) {k : A} → Memᴰ k xs → p k ≡ true → Memᴰ k (keep p xs)
  mem_keep [] m e = absurd (Memᴰ.not-nil m)
  mem_keep (x ∷ xs) {k} m e =
      ⊎_elim (λ q. subst (Memᴰ k) (sym (keep_take x xs (ap p (sym q) ∙ e))) (Memᴰ.head q))
      (λ t. let r = mem_keep xs t e in
      ⊎_elim (λ f. subst (Memᴰ k) (sym (keep_take x xs f)) (Memᴰ.tail r)) (λ f. subst (Memᴰ k) (sym (keep_leave x xs f)) r) (cases_Bool (p x)))
      (Memᴰ.cases_cons m)

  pub any_mem : (xs : List A) → any p xs ≡ true → (k : A) × Memᴰ k xs × (p k ≡ true)
  any_mem [] e = absurd (cc)
  any_mem (x ∷ xs) e =
      ⊎_elim (λ q. (x, Memᴰ.head refl, q))
      (λ (q : p x ≡ false). let (k, m, t) = any_mem xs (rw (q, any) at e) in (k, Memᴰ.tail m, t)) (cases_Bool (p x))

  pub mem_any : (xs : List A) {k : A} → Memᴰ k xs → p k ≡ true → any p xs ≡ true
  mem_any [] m e = absurd (Memᴰ.not-nil m)
  mem_any (x ∷ xs) m e =
      ⊎_elim (λ q. let f : p x ≡ true = ap p (sym q) ∙ e in rw (f, any))
      (λ t. let r = mem_any xs t e in ⊎_elim (λ (f : p x ≡ true). rw (f, any)) (λ (f : p x ≡ false). rw (f, any) r) (cases_Bool (p x)))
      (Memᴰ.cases_cons m)

  pub every_all : (xs : List A) → every p xs ≡ true → AllByRecursion (λ x. p x ≡ true) xs
  every_all [] e = tt
  every_all (x ∷ xs) e =
      ⊎_elim (λ (q : p x ≡ true). (q, every_all xs (rw (q, every) at e)))
      (λ (q : p x ≡ false). let k : every p (x ∷ xs) ≡ false = rw (q, every) in absurd (cc))
      (cases_Bool (p x))

  pub keep_length : (xs : List A) → length (keep p xs) ≤ length xs
  keep_length [] = omega arith
  keep_length (x ∷ xs) =
      let h = keep_length xs in
      ⊎_elim (λ e. rw (keep_take x xs e) (omega arith)) (λ e. rw (keep_leave x xs e) (omega arith)) (cases_Bool (p x))

  pub in_order_keep : (R : A → A → Type 0) (xs : List A) → InOrder R xs → InOrder R (keep p xs)
  in_order_keep R [] h = in_order_none R
  in_order_keep R (x ∷ xs) h =
      ⊎_elim
      (λ e. subst (InOrder R) (sym (keep_take x xs e)) (in_order_cons R x (keep p xs) (λ u m. in_order_head R x xs h u (keep_mem xs m).0) (in_order_keep R xs (in_order_tail R x xs h))))
      (λ e. subst (InOrder R) (sym (keep_leave x xs e)) (in_order_keep R xs (in_order_tail R x xs h)))
      (cases_Bool (p x))

pub same_equal : (xs ys : List ℕ) → same xs ys ≡ true → xs ≡ ys
same_equal [] [] e = refl
same_equal [] (y ∷ ys) e = absurd (cc)
same_equal (x ∷ xs) [] e = absurd (cc)
same_equal (x ∷ xs) (y ∷ ys) e =
    ⊎_elim (λ (q : eqb x y ≡ true). let r = same_equal xs ys (rw (q, same) at e) in let s = eqb-true x y q in cc)
    (λ (q : eqb x y ≡ false). let k : same (x ∷ xs) (y ∷ ys) ≡ false = rw (q, same) in absurd (cc))
    (cases_Bool (eqb x y))

-- ── elements ──

pub all_mem : {A : Type 0} (P : A → Type 0) (xs : List A) → AllByRecursion P xs → {x : A} → Memᴰ x xs → P x
all_mem P [] h m = absurd (Memᴰ.not-nil m)
all_mem P (y ∷ ys) h m = ⊎_elim (λ e. subst P (sym e) h.0) (λ t. all_mem P ys h.1 t) (Memᴰ.cases_cons m)

pub all_from_mem : {A : Type 0} (P : A → Type 0) (xs : List A) → ((x : A) → Memᴰ x xs → P x) → AllByRecursion P xs
all_from_mem P [] h = tt
all_from_mem P (y ∷ ys) h = (h y (Memᴰ.head refl), all_from_mem P ys (λ x m. h x (Memᴰ.tail m)))

-- a list with a last element is not empty
pub snoc_not_nil : {A : Type 0} (xs : List A) (x : A) → xs ++ (x ∷ []) ≡ [] → ⊥
snoc_not_nil [] x e = cc
snoc_not_nil (y ∷ ys) x e = cc

-- ── places ──

module _ {A : Type 0} where
  pub at_right : (xs ys : List A) (k : ℕ) → get_elem? (xs ++ ys) (length xs + k) ≡ get_elem? ys k
  at_right [] ys k = let e : 0 + k ≡ k = omega arith in ap (get_elem? ys) e
  at_right (x ∷ xs) ys k = let e : suc (length xs) + k ≡ suc (length xs + k) = omega arith in ap (get_elem? (x ∷ (xs ++ ys))) e ∙ at_right xs ys k

  -- an element of two lists in a row stands in the first, or at a place of the second
  pub record Later (xs ys : List A) (k : ℕ) (a : A) : Type 0 where
    pub place : ℕ
    pub number : k ≡ length xs + place
    pub at : get_elem? ys place ≡ some a

  pub at_split : (xs ys : List A) (k : ℕ) {a : A} → get_elem? (xs ++ ys) k ≡ some a → (get_elem? xs k ≡ some a) ⊎ Later xs ys k a
  at_split [] ys k e = inr (record { place = k; number = omega arith; at = e })
  at_split (x ∷ xs) ys zero e = inl e
  at_split (x ∷ xs) ys (suc k) e =
      ⊎_elim inl (λ l. inr (record { place = l.place; number = (let n = l.number in omega arith); at = l.at })) (at_split xs ys k e)
