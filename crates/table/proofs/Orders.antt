-- Lists in order: one more at the end, and that their members tell them.
use Rattle.std.proofs.Common.{◌≡◌, ℕ, zero, suc, ◌+◌, ◌<◌, Bool, true, false, cond, List, [], ◌∷◌, ◌++◌, length, sym, refl, ap, ◌∙◌, subst, ⊎_elim, append-nil, add-zero, add-suc, arith, length-append}
use mathlib.Core.List.Memᴰ
use mathlib.Core.List.{Memᴰ}
use Rattle.std.proofs.lemmas.Bool.{cases_lt}
use Rattle.table.specs.Lists.{StandsAt, InOrder, Ascending, Distinct}
use Rattle.table.specs.Sets.{passing}
use Rattle.table.proofs.Lists.{stands_below, stands_push, at_mem, mem_at}

module _ {A : Type 0} (R : A → A → Type 0) where
  pub in_order_none : InOrder R []
  in_order_none j k t u h p q = absurd cc

  pub in_order_push : (ts : List A) (u : A) → InOrder R ts → ((k : ℕ) (t : A) → StandsAt ts k t → R t u) → InOrder R (ts ++ (u ∷ []))
  in_order_push ts u o before j k t v h p q =
      ⊎_elim
      (λ p'. ⊎_elim (λ q'. o j k t v h p' q') (λ q'. subst (λ w. R t w) q'.1 (before j t p')) (stands_push ts u v k q))
      (λ p'. ⊎_elim (λ q'. let b = stands_below ts k v q' in absurd (omega arith)) (λ q'. absurd (omega arith)) (stands_push ts u v k q))
      (stands_push ts u t j p)

  pub in_order_cons : (t : A) (ts : List A) → ((u : A) → Memᴰ u ts → R t u) → InOrder R ts → InOrder R (t ∷ ts)
  in_order_cons t ts h o j zero u v l p q = absurd (omega arith)
  in_order_cons t ts h o zero (suc k) u v l p q = let e : t ≡ u = cc in subst (λ w. R w v) e (h v (mem_at ts k v q))
  in_order_cons t ts h o (suc j) (suc k) u v l p q = o j k u v (omega arith) p q

  pub in_order_tail : (t : A) (ts : List A) → InOrder R (t ∷ ts) → InOrder R ts
  in_order_tail t ts o j k u v h p q = o (suc j) (suc k) u v (omega arith) p q

  pub in_order_head : (t : A) (ts : List A) → InOrder R (t ∷ ts) → (u : A) → Memᴰ u ts → R t u
  in_order_head t ts o u m = let r = at_mem ts u m in o 0 (suc r.0) t u (omega arith) refl r.1

  pub in_order_append : (ts us : List A) → InOrder R ts → InOrder R us → ((t u : A) → Memᴰ t ts → Memᴰ u us → R t u) → InOrder R (ts ++ us)
  in_order_append [] us o p h = p
  in_order_append (t ∷ ts) us o p h =
      in_order_cons t (ts ++ us)
      (λ u m. ⊎_elim (in_order_head t ts o u) (h t u (Memᴰ.head refl)) (Memᴰ.append_cases ts m))
      (in_order_append ts us (in_order_tail t ts o) p (λ v u m. h v u (Memᴰ.tail m)))

  -- two lists in order with the same members are one
  module _ (apart : (x y : A) → R x y → R y x → ⊥) where
    first_same : (t u : A) (ts us : List A) → InOrder R (t ∷ ts) → InOrder R (u ∷ us) → Memᴰ t (u ∷ us) → Memᴰ u (t ∷ ts) → t ≡ u
    first_same t u ts us o p m n =
        ⊎_elim (λ e. e) (λ m'. ⊎_elim sym (λ n'. absurd (apart t u (in_order_head t ts o u n') (in_order_head u us p t m'))) (Memᴰ.cases_cons n)) (Memᴰ.cases_cons m)

    later : (t : A) (ts us : List A) → InOrder R (t ∷ ts) → ((x : A) → Memᴰ x (t ∷ ts) → Memᴰ x (t ∷ us)) → (x : A) → Memᴰ x ts → Memᴰ x us
    later t ts us o f x m =
        ⊎_elim
        (λ e. let r = in_order_head t ts o x m in let s : R x x = subst (λ v. R v x) (sym e) r in absurd (apart x x s s))
        (λ n. n)
        (Memᴰ.cases_cons (f x (Memᴰ.tail m)))

    pub in_order_same : (ts us : List A) → InOrder R ts → InOrder R us → ((x : A) → Memᴰ x ts → Memᴰ x us) → ((x : A) → Memᴰ x us → Memᴰ x ts) → ts ≡ us
    in_order_same [] [] o p f g = refl
    in_order_same [] (u ∷ us) o p f g = absurd (Memᴰ.not-nil (g u (Memᴰ.head refl)))
    in_order_same (t ∷ ts) [] o p f g = absurd (Memᴰ.not-nil (f t (Memᴰ.head refl)))
    in_order_same (t ∷ ts) (u ∷ us) o p f g =
        let e = first_same t u ts us o p (f t (Memᴰ.head refl)) (g u (Memᴰ.head refl)) in
        let p' : InOrder R (t ∷ us) = subst (λ v. InOrder R (v ∷ us)) (sym e) p in
        let f' : (x : A) → Memᴰ x (t ∷ ts) → Memᴰ x (t ∷ us) = subst (λ v. (x : A) → Memᴰ x (t ∷ ts) → Memᴰ x (v ∷ us)) (sym e) f in
        let g' : (x : A) → Memᴰ x (t ∷ us) → Memᴰ x (t ∷ ts) = subst (λ v. (x : A) → Memᴰ x (v ∷ us) → Memᴰ x (t ∷ ts)) (sym e) g in
        let rest = in_order_same ts us (in_order_tail t ts o) (in_order_tail t us p') (later t ts us o f') (later t us ts p' g') in
        cc

-- two ascending lists with the same members are one
pub ascending_same : (ks ls : List ℕ) → Ascending ks → Ascending ls → ((x : ℕ) → Memᴰ x ks → Memᴰ x ls) → ((x : ℕ) → Memᴰ x ls → Memᴰ x ks) → ks ≡ ls
ascending_same = in_order_same ◌<◌ (λ x y h l. omega arith)

-- a list in an order without loops has nothing twice
pub ascending_distinct : (ks : List ℕ) → Ascending ks → Distinct ks
ascending_distinct ks o j k t p q =
    ⊎_elim (λ h. let r = o j k t t h p q in absurd (omega arith))
    (λ h. ⊎_elim (λ l. let r = o k j t t l q p in absurd (omega arith)) (λ l. omega arith) (cases_lt k j))
    (cases_lt j k)

-- ---- the numbers below n that pass a test

module _ (test : ℕ → Bool) where
  picked : (k n : ℕ) (b : Bool) → Memᴰ k (cond b (n ∷ []) []) → (k ≡ n) × (b ≡ true)
  picked k n true m = (⊎_elim (λ e. e) (λ r. absurd (Memᴰ.not-nil r)) (Memᴰ.cases_cons m), refl)
  picked k n false m = absurd (Memᴰ.not-nil m)

  pub passing_only : (n k : ℕ) → Memᴰ k (passing test n) → (k < n) × (test k ≡ true)
  unfolding passing
  passing_only zero k m = absurd (Memᴰ.not-nil m)
  passing_only (suc n) k m =
      ⊎_elim (λ l. let r = passing_only n k l in (omega (arith, r.0), r.1))
      (λ l. let r = picked k n (test n) l in (omega (arith, r.0), ap test r.0 ∙ r.1))
      (Memᴰ.append_cases (passing test n) m)

  pub passing_has : (n k : ℕ) → k < n → test k ≡ true → Memᴰ k (passing test n)
  unfolding passing
  passing_has zero k h e = absurd (omega arith)
  passing_has (suc n) k h e =
      ⊎_elim (λ l. Memᴰ.append_left _ (passing_has n k l e))
      (λ l. let q : k ≡ n = omega arith in
      Memᴰ.append_right (passing test n) (subst (λ (b : Bool). Memᴰ k (cond b (n ∷ []) [])) (sym (ap test (sym q) ∙ e)) (Memᴰ.head q)))
      (cases_lt k n)

  one_more : (n : ℕ) (b : Bool) → Ascending (passing test n) → Ascending (passing test n ++ cond b (n ∷ []) [])
  unfolding passing
  one_more n true o = in_order_push ◌<◌ (passing test n) n o (λ k t s. (passing_only n t (mem_at (passing test n) k t s)).0)
  one_more n false o = subst Ascending (sym (append-nil (passing test n))) o

  pub passing_ascending : (n : ℕ) → Ascending (passing test n)
  unfolding passing
  passing_ascending zero = in_order_none ◌<◌
  passing_ascending (suc n) = one_more n (test n) (passing_ascending n)

cond_length : (b : Bool) (m n : ℕ) → length (cond b (m ∷ []) []) ≡ length (cond b (n ∷ []) [])
cond_length true m n = refl
cond_length false m n = refl

pub passing_same : (p q : ℕ → Bool) (n : ℕ) → ((k : ℕ) → k < n → p k ≡ q k) → passing p n ≡ passing q n
unfolding passing
passing_same p q zero same = refl
passing_same p q (suc n) same =
    let e = passing_same p q n (λ k h. same k (omega arith)) in
    let f = same n (omega arith) in
    cc

-- those below m, and those from m on
pub passing_length : (p : ℕ → Bool) (m n : ℕ) → length (passing p (m + n)) ≡ length (passing p m) + length (passing (λ k. p (m + k)) n)
unfolding passing
passing_length p m zero = ap (λ (x : ℕ). length (passing p x)) (add-zero m) ∙ omega arith
passing_length p m (suc n) =
    ap (λ (x : ℕ). length (passing p x)) (add-suc m n)
    ∙ length-append (passing p (m + n)) (cond (p (m + n)) ((m + n) ∷ []) [])
    ∙ (let a = passing_length p m n in
    let b = cond_length (p (m + n)) (m + n) n in
    let c = length-append (passing (λ k. p (m + k)) n) (cond (p (m + n)) (n ∷ []) []) in
    omega (arith, a, b, c))
