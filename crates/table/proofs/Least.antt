-- The least of some numbers, and what a function and a test leave of a list.
use Rattle.std.proofs.Common.{◌≡◌, ℕ, ◌≤◌, min, Bool, true, false, cond, ◌⊎◌, List, [], ◌∷◌, Some, None, Option, MatchOption, sym, refl, ap, ◌∙◌, subst, inl, inr, ⊎_elim, arith}
use mathlib.Core.List.Memᴰ
use mathlib.Core.List.{Memᴰ}
use Rattle.std.specs.List.{fold, reduce, filter, filter_map, cons_option}
use Rattle.std.proofs.lemmas.Bool.{cases_lt}

-- the least of some numbers
least : (x : ℕ) (xs : List ℕ) → Memᴰ (fold min x xs) (x ∷ xs) × ((y : ℕ) → Memᴰ y (x ∷ xs) → fold min x xs ≤ y)
least x [] = (Memᴰ.head refl, (λ y m. ⊎_elim (λ e. omega arith) (λ z. absurd (Memᴰ.not-nil z)) (Memᴰ.cases_cons m)))
least x (z ∷ xs) =
    let (i, l) = least (min x z) xs in
    let first = l (min x z) (Memᴰ.head refl) in (
      ⊎_elim (λ e. ⊎_elim (λ h. Memᴰ.head (omega arith)) (λ h. Memᴰ.tail (Memᴰ.head (omega arith))) (cases_lt x z)) (λ m. Memᴰ.tail (Memᴰ.tail m)) (Memᴰ.cases_cons i),
      (λ y m. ⊎_elim (λ e. omega arith) (λ n. ⊎_elim (λ e. omega arith) (λ o. l y (Memᴰ.tail o)) (Memᴰ.cases_cons n)) (Memᴰ.cases_cons m)),
    )

abbrev pub IsLeast : List ℕ → Option ℕ → Type 0
IsLeast xs r = MatchOption r (xs ≡ []) (λ m. Memᴰ m xs × ((y : ℕ) → Memᴰ y xs → m ≤ y))

pub least_is : (xs : List ℕ) → IsLeast xs (reduce min xs)
least_is [] = refl
least_is (x ∷ xs) = least x xs

-- what a function gives of a list

module _ {A B : Type 0} (g : A → Option B) where
  given_cases : (o : Option B) (y : B) (ys : List B) → Memᴰ y (cons_option o ys) → (o ≡ Some y) ⊎ Memᴰ y ys
  given_cases None y ys m = inr m
  given_cases (Some z) y ys m = ⊎_elim (λ q. inl (ap Some (sym q))) inr (Memᴰ.cases_cons m)

  pub given_from : (l : List A) (y : B) → Memᴰ y (filter_map g l) → (a : A) × Memᴰ a l × (g a ≡ Some y)
  given_from [] y m = absurd (Memᴰ.not-nil m)
  given_from (a ∷ l) y m =
      ⊎_elim (λ q. (a, Memᴰ.head refl, q)) (λ r. let f = given_from l y r in (f.0, Memᴰ.tail f.1, f.2)) (given_cases (g a) y (filter_map g l) m)

  given_later : (o : Option B) (y : B) (ys : List B) → Memᴰ y ys → Memᴰ y (cons_option o ys)
  given_later None y ys m = m
  given_later (Some z) y ys m = Memᴰ.tail m

  pub given_in : (l : List A) (a : A) (y : B) → Memᴰ a l → g a ≡ Some y → Memᴰ y (filter_map g l)
  given_in [] a y m e = absurd (Memᴰ.not-nil m)
  given_in (b ∷ l) a y m e =
      ⊎_elim (λ q. subst (λ o. Memᴰ y (cons_option o (filter_map g l))) (sym (ap g (sym q) ∙ e)) (Memᴰ.head refl))
      (λ r. given_later (g b) y (filter_map g l) (given_in l a y r e))
      (Memᴰ.cases_cons m)

-- what a test keeps of a list

module _ {A : Type 0} (t : A → Bool) where
  passed_cases : (x y : A) (b : Bool) (ys : List A) → t x ≡ b → Memᴰ y (cond b (x ∷ ys) ys) → ((y ≡ x) × (t y ≡ true)) ⊎ Memᴰ y ys
  passed_cases x y true ys e m = ⊎_elim (λ q. inl (q, ap t q ∙ e)) inr (Memᴰ.cases_cons m)
  passed_cases x y false ys e m = inr m

  pub kept_from : (l : List A) (y : A) → Memᴰ y (filter t l) → Memᴰ y l × (t y ≡ true)
  kept_from [] y m = absurd (Memᴰ.not-nil m)
  kept_from (x ∷ l) y m =
      ⊎_elim (λ q. (Memᴰ.head q.0, q.1)) (λ r. let f = kept_from l y r in (Memᴰ.tail f.0, f.1)) (passed_cases x y (t x) (filter t l) refl m)

  passed_later : (x y : A) (b : Bool) (ys : List A) → Memᴰ y ys → Memᴰ y (cond b (x ∷ ys) ys)
  passed_later x y true ys m = Memᴰ.tail m
  passed_later x y false ys m = m

  pub kept_in : (l : List A) (y : A) → Memᴰ y l → t y ≡ true → Memᴰ y (filter t l)
  kept_in [] y m p = absurd (Memᴰ.not-nil m)
  kept_in (x ∷ l) y m p =
      ⊎_elim (λ q. subst (λ b. Memᴰ y (cond b (x ∷ filter t l) (filter t l))) (sym (ap t (sym q) ∙ p)) (Memᴰ.head q))
      (λ r. passed_later x y (t x) (filter t l) (kept_in l y r p))
      (Memᴰ.cases_cons m)
