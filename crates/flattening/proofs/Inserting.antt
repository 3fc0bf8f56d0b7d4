-- One element more in a list in order.
use Rattle.std.proofs.Common.{◌≡◌, ℕ, zero, suc, ◌+◌, ◌-◌, ◌<◌, ◌≤◌, ◌⊎◌, ◌↔◌, List, [], ◌∷◌, ◌++◌, length, take, drop, set, Some, None, Option, sym, refl, ap, ◌∙◌, subst, inl, inr, ⊎_elim, append_assoc, arith}
use mathlib.Core.Option.{some}
use mathlib.Core.List.Memᴰ
use mathlib.Core.List.{Memᴰ}
use lib.Seq.{paste}
use Rattle.std.specs.List.{insert}
use Rattle.std.proofs.lemmas.List.{set_split, take-append-le, take-take, take_at, drop_at, drop-take, drop_all, drop_more, length-append, length-take-le, length-drop}
use Rattle.table.specs.Lists.{StandsAt, InOrder}
use Rattle.flattening.specs.Keeping.{At}
use Rattle.table.proofs.Lists.{stands_below, stands_is, stands_last}
use Rattle.table.proofs.Orders.{in_order_none, in_order_cons, in_order_tail, in_order_head}

-- ── at a place ──

pub stands_take : {A : Type 0} (n : ℕ) (xs : List A) (k : ℕ) (t : A) → StandsAt (take n xs) k t → StandsAt xs k t × (k < n)
stands_take zero xs k t s = absurd cc
stands_take (suc n) [] k t s = absurd cc
stands_take (suc n) (x ∷ xs) zero t s = (s, omega arith)
stands_take (suc n) (x ∷ xs) (suc k) t s = let (r, h) = stands_take n xs k t s in (r, omega arith)

pub take_stands : {A : Type 0} (n : ℕ) (xs : List A) (k : ℕ) (t : A) → StandsAt xs k t → k < n → StandsAt (take n xs) k t
take_stands zero xs k t s h = absurd (omega arith)
take_stands (suc n) [] k t s h = s
take_stands (suc n) (x ∷ xs) zero t s h = s
take_stands (suc n) (x ∷ xs) (suc k) t s h = take_stands n xs k t s (omega arith)

pub drop_head : {A : Type 0} (xs : List A) (i : ℕ) (x : A) (rest : List A) → drop i xs ≡ x ∷ rest → StandsAt xs i x
drop_head [] zero x rest e = absurd cc
drop_head [] (suc i) x rest e = absurd cc
drop_head (y ∷ xs) zero x rest e = let q : y ≡ x = cc in ap some q
drop_head (y ∷ xs) (suc i) x rest e = drop_head xs i x rest e

pub take_inserted : {A : Type 0} (xs : List A) (i k : ℕ) (x : A) → i ≤ k → take (suc k) (insert xs i x) ≡ insert (take k xs) i x
take_inserted xs zero k x h = refl
take_inserted xs (suc i) zero x h = absurd (omega arith)
take_inserted [] (suc i) (suc k) x h = refl
take_inserted (y ∷ xs) (suc i) (suc k) x h = ap (λ l. y ∷ l) (take_inserted xs i k x (omega arith))

pub stands_inserted : {A : Type 0} (xs : List A) (i k : ℕ) (x t : A) → i ≤ k → StandsAt xs k t → StandsAt (insert xs i x) (suc k) t
stands_inserted xs zero k x t h s = s
stands_inserted xs (suc i) zero x t h s = absurd (omega arith)
stands_inserted [] (suc i) (suc k) x t h s = absurd cc
stands_inserted (y ∷ xs) (suc i) (suc k) x t h s = stands_inserted xs i k x t (omega arith) s

-- rows that were shifted up from a place, and the new row there
module _ {A : Type 0} (rows : List A) (i n : ℕ) (x : A) (room : i + n < length rows) where
  shifted : set (paste rows (i + 1) (drop i rows) n) i x ≡ (take i rows ++ (x ∷ take n (drop i rows))) ++ drop (i + 1 + n) rows
  shifted =
      let is : paste rows (i + 1) (drop i rows) n ≡ take (i + 1) rows ++ (take n (drop i rows) ++ drop (i + 1 + n) rows) =
      append_assoc (take (i + 1) rows) (take n (drop i rows)) (drop (i + 1 + n) rows) in
      let front : length (take (i + 1) rows) ≡ i + 1 = length-take-le (i + 1) rows (omega arith) in
      let long : i < length (take (i + 1) rows ++ (take n (drop i rows) ++ drop (i + 1 + n) rows)) =
      omega (arith, length-append (take (i + 1) rows) (take n (drop i rows) ++ drop (i + 1 + n) rows)) in
      let low : take i (take (i + 1) rows ++ (take n (drop i rows) ++ drop (i + 1 + n) rows)) ≡ take i rows =
      take-append-le i (take (i + 1) rows) (take n (drop i rows) ++ drop (i + 1 + n) rows) (omega arith) ∙ take-take i (i + 1) rows (omega arith) in
      let high : drop (suc i) (take (i + 1) rows ++ (take n (drop i rows) ++ drop (i + 1 + n) rows)) ≡ take n (drop i rows) ++ drop (i + 1 + n) rows =
      drop_at (take (i + 1) rows) (take n (drop i rows) ++ drop (i + 1 + n) rows) (suc i) (omega arith) in
      ap (λ l. set l i x) is
      ∙ set_split (take (i + 1) rows ++ (take n (drop i rows) ++ drop (i + 1 + n) rows)) i x long
      ∙ ap (λ l. l ++ (x ∷ drop (suc i) (take (i + 1) rows ++ (take n (drop i rows) ++ drop (i + 1 + n) rows)))) low
      ∙ ap (λ l. take i rows ++ (x ∷ l)) high
      ∙ sym (append_assoc (take i rows) (x ∷ take n (drop i rows)) (drop (i + 1 + n) rows))

  take_shifted : take (i + n + 1) (set (paste rows (i + 1) (drop i rows) n) i x) ≡ insert (take (i + n) rows) i x
  take_shifted =
      let front : length (take i rows) ≡ i = length-take-le i rows (omega arith) in
      let back : length (take n (drop i rows)) ≡ n = length-take-le n (drop i rows) (omega (arith, length-drop i rows)) in
      ap (take (i + n + 1)) shifted
      ∙ take_at (take i rows ++ (x ∷ take n (drop i rows))) (drop (i + 1 + n) rows) (i + n + 1) (omega (arith, length-append (take i rows) (x ∷ take n (drop i rows))))
      ∙ ap (λ l. l ++ (x ∷ take n (drop i rows))) (sym (take-take i (i + n) rows (omega arith)))
      ∙ ap (λ l. take i (take (i + n) rows) ++ (x ∷ l)) (sym (drop-take i n rows))

pub shifted_in : {A : Type 0} (rows rows' : List A) (i m : ℕ) (x : A) → i ≤ m → m < length rows → rows' ≡ paste rows (i + 1) (drop i rows) (m - i) → take (m + 1) (set rows' i x) ≡ insert (take m rows) i x
shifted_in rows rows' i m x l h e =
    let z : m ≡ i + (m - i) = omega arith in
    ap (λ k. take (k + 1) (set rows' i x)) z ∙ ap (λ xs. take (i + (m - i) + 1) (set xs i x)) e
    ∙ take_shifted rows i (m - i) x (omega arith) ∙ ap (λ k. insert (take k rows) i x) (sym z)

-- ── in order ──

-- ys is xs with j put in where it belongs, unless it is there
pub data Put {A : Type 0} (R : A → A → Type 0) (j : A) : List A → List A → Type 0 where
  end : Put R j [] (j ∷ [])
  here : {x : A} {xs : List A} → R j x → Put R j (x ∷ xs) (j ∷ (x ∷ xs))
  held : {x : A} {xs : List A} → x ≡ j → Put R j (x ∷ xs) (x ∷ xs)
  later : {x : A} {xs ys : List A} → R x j → Put R j xs ys → Put R j (x ∷ xs) (x ∷ ys)

-- one element comes before another, is it, or comes after it
abbrev pub Compared : {A : Type 0} → (A → A → Type 0) → A → A → Type 0
Compared R x y = R x y ⊎ ((x ≡ y) ⊎ R y x)

module _ {A : Type 0} (R : A → A → Type 0) where
  pub put_some : ((x y : A) → Compared R x y) → (j : A) (xs : List A) → (ys : List A) × Put R j xs ys
  put_some compare j [] = (j ∷ [], end)
  put_some compare j (x ∷ xs) =
      ⊎_elim (λ h. (j ∷ (x ∷ xs), here h))
      (λ h. ⊎_elim (λ e. (x ∷ xs, held (sym e))) (λ l. let (ys, p) = put_some compare j xs in (x ∷ ys, later l p)) h)
      (compare j x)

  pub put_after : {j : A} (front : List A) {back ys : List A} → ((t : A) → Memᴰ t front → R t j) → Put R j back ys → Put R j (front ++ back) (front ++ ys)
  put_after [] h p = p
  put_after (x ∷ front) h p = later (h x (Memᴰ.head refl)) (put_after front (λ t m. h t (Memᴰ.tail m)) p)

  put_only : {j : A} {xs ys : List A} → Put R j xs ys → (a : A) → Memᴰ a ys → (a ≡ j) ⊎ Memᴰ a xs
  put_only end a m = Memᴰ.cases_cons m
  put_only (here h) a m = Memᴰ.cases_cons m
  put_only (held e) a m = inr m
  put_only (later h p) a m = ⊎_elim (λ e. inr (Memᴰ.head e)) (λ n. ⊎_elim inl (λ k. inr (Memᴰ.tail k)) (put_only p a n)) (Memᴰ.cases_cons m)

  put_kept : {j : A} {xs ys : List A} → Put R j xs ys → (a : A) → Memᴰ a xs → Memᴰ a ys
  put_kept end a m = absurd (Memᴰ.not-nil m)
  put_kept (here h) a m = Memᴰ.tail m
  put_kept (held e) a m = m
  put_kept (later h p) a m = ⊎_elim Memᴰ.head (λ n. Memᴰ.tail (put_kept p a n)) (Memᴰ.cases_cons m)

  put_in : {j : A} {xs ys : List A} → Put R j xs ys → Memᴰ j ys
  put_in end = Memᴰ.head refl
  put_in (here h) = Memᴰ.head refl
  put_in (held e) = Memᴰ.head (sym e)
  put_in (later h p) = Memᴰ.tail (put_in p)

  -- the members are those before, and j
  pub put_are : {j : A} {xs ys : List A} → Put R j xs ys → (a : A) → Memᴰ a ys ↔ Memᴰ a (j ∷ xs)
  put_are {j} {xs} {ys} p a = (
    (λ m. ⊎_elim Memᴰ.head Memᴰ.tail (put_only p a m)),
    (λ m. ⊎_elim (λ e. subst (λ b. Memᴰ b ys) (sym e) (put_in p)) (put_kept p a) (Memᴰ.cases_cons m)),
  )

  pub put_rises : ((x y z : A) → R x y → R y z → R x z) → {j : A} {xs ys : List A} → Put R j xs ys → InOrder R xs → InOrder R ys
  put_rises onward {j} end o = in_order_cons R j [] (λ u m. absurd (Memᴰ.not-nil m)) (in_order_none R)
  put_rises onward {j} (here {x = x} {xs = xs} h) o =
      in_order_cons R j (x ∷ xs)
      (λ u m. ⊎_elim (λ e. subst (R j) (sym e) h) (λ n. onward j x u h (in_order_head R x xs o u n)) (Memᴰ.cases_cons m)) o
  put_rises onward (held e) o = o
  put_rises onward {j} (later {x = x} {xs = xs} {ys = ys} h p) o =
      in_order_cons R x ys
      (λ u m. ⊎_elim (λ e. subst (R x) (sym e) h) (λ n. in_order_head R x xs o u n) (put_only p u m))
      (put_rises onward p (in_order_tail R x xs o))

-- ── the first element past a place ──

-- the sooner of j and what was remembered is remembered
abbrev pub Sooner : {A : Type 0} → (A → A → Type 0) → Option A → A → Option A → Type 0
Sooner R None j o = o ≡ Some j
Sooner R (Some b) j o = (R j b × (o ≡ Some j)) ⊎ ((R j b → ⊥) × (o ≡ Some b))

-- the list begins with this, if with anything
abbrev Begins : {A : Type 0} → List A → Option A → Type 0
Begins back None = back ≡ []
Begins {A} back (Some b) = (rest : List A) × (back ≡ b ∷ rest)

begins : {A : Type 0} (all : List A) (k : ℕ) (o : Option A) → At all k o → Begins (drop k all) o
begins all k None h = drop_all k all h
begins all k (Some b) h = (drop (k + 1) all, drop_more all k b (stands_below all k b h) ∙ ap (λ x. x ∷ drop (k + 1) all) (stands_is all k b b h))

module _ {A : Type 0} (R : A → A → Type 0) (apart : (x y : A) → R x y → R y x → ⊥) where
  put_begins : {j : A} {back ys : List A} → Put R j back ys → (o p : Option A) → Begins back o → Sooner R o j p → (h : A) × (rest : List A) × (ys ≡ h ∷ rest) × (p ≡ Some h)
  put_begins {j} end None p b s = (j, [], refl, s)
  put_begins end (Some c) p b s = let e = b.1 in absurd cc
  put_begins (here h) None p b s = absurd cc
  put_begins (held h) None p b s = absurd cc
  put_begins (later h q) None p b s = absurd cc
  put_begins {j} (here {x = x} {xs = xs} h) (Some c) p b s =
      let e = b.1 in let q : c ≡ x = cc in
      ⊎_elim (λ l. (j, x ∷ xs, refl, l.1)) (λ n. absurd (n.0 (subst (R j) (sym q) h))) s
  put_begins {j} (held {x = x} {xs = xs} h) (Some c) p b s =
      let e = b.1 in let q : c ≡ x = cc in
      ⊎_elim (λ l. let r : R j j = subst (R j) (q ∙ h) l.0 in absurd (apart j j r r)) (λ n. (x, xs, refl, n.1 ∙ ap Some q)) s
  put_begins {j} (later {x = x} {ys = ys} h t) (Some c) p b s =
      let e = b.1 in let q : c ≡ x = cc in
      ⊎_elim (λ l. absurd (apart j x (subst (R j) q l.0) h)) (λ n. (x, ys, refl, n.1 ∙ ap Some q)) s

  -- where j belongs past the first k, the sooner one stands at k
  pub put_next : {j : A} (all : List A) (k : ℕ) {ys : List A} → Put R j (drop k all) ys → length (take k all) ≡ k → (o p : Option A) → At all k o → Sooner R o j p → At (take k all ++ ys) k p
  put_next all k {ys} q l o p a s =
      let (h, rest, e, is) = put_begins q o p (begins all k o a) s in
      let st : StandsAt (take k all ++ (h ∷ rest)) (length (take k all)) h = stands_last (take k all) rest h in
      subst (At (take k all ++ ys) k) (sym is) (subst (λ m. StandsAt (take k all ++ ys) m h) l (subst (λ zs. StandsAt (take k all ++ zs) (length (take k all)) h) (sym e) st))
