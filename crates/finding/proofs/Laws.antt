-- The laws of a numbering, from its definition.
use Rattle.std.proofs.Common.{◌≡◌, ℕ, zero, suc, ◌+◌, ◌<◌, ◌≢◌, ◌⊎◌, List, [], ◌∷◌, ◌++◌, length, sym, refl, ap, ◌∙◌, subst, inl, inr, ⊎_elim, arith}
use mathlib.Core.Option.{Option, none, some}
use mathlib.Core.List.Memᴰ
use mathlib.Core.List.{Memᴰ}
use lib.ListN.{get_elem?}
use Rattle.std.proofs.lemmas.Bool.{cases_lt}
use Rattle.table.specs.Lists.{StandsAt, Distinct, InOrder, Ascending}
use Rattle.table.proofs.Lists.{stands_below, stands_left, mem_at, at_mem}
use Rattle.table.proofs.Orders.{in_order_none, in_order_cons, in_order_push, in_order_append, in_order_head, in_order_tail}
use Rattle.finding.specs.Numbered.{Arrow, Found, all, Row, Rows, targets, upto, Numbered}
use Rattle.finding.specs.Numbered.Row.{end as row_end, pass, go}
use Rattle.finding.specs.Numbered.Rows.{end as rows_end, row}
use Rattle.finding.specs.Laws.{Along, Rises, Laws}
use Rattle.finding.specs.Laws.Along.{here, on}
use Rattle.finding.proofs.Unique.{begins, firsts_mem, firsts_unseen, found_unique}

-- ---- entries

-- a list parted where t stands at place j
parted : {A : Type 0} {t : A} (es : List A) (j : ℕ) → StandsAt es j t → (before : List A) × (after : List A) × (es ≡ before ++ (t ∷ after)) × (length before ≡ j)
parted [] j h = absurd cc
parted {t = t} (e ∷ es) zero h = ([], es, (let k : e ≡ t = cc in ap (λ x. x ∷ es) k), refl)
parted (e ∷ es) (suc j) h = let (b, a, q, l) = parted es j h in (e ∷ b, a, ap (λ x. e ∷ x) q, ap suc l)

-- nothing stands twice, by what stands before
abbrev Apart : {A : Type 0} → List A → Type 0
Apart {A} es = (e : A) (before after : List A) → es ≡ before ++ (e ∷ after) → Memᴰ e before → ⊥

apart_tail : {A : Type 0} (e : A) (es : List A) → Apart (e ∷ es) → Apart es
apart_tail e es d x before after q m = d x (e ∷ before) after (ap (λ l. e ∷ l) q) (Memᴰ.tail m)

apart_distinct : {A : Type 0} (es : List A) → Apart es → Distinct es
apart_distinct [] d j k t p q = absurd cc
apart_distinct (e ∷ es) d zero zero t p q = refl
apart_distinct (e ∷ es) d zero (suc k) t p q =
    let (b, a, w, l) = parted es k q in let s : t ≡ e = cc in absurd (d t (e ∷ b) a (ap (λ l. e ∷ l) w) (Memᴰ.head s))
apart_distinct (e ∷ es) d (suc j) zero t p q =
    let (b, a, w, l) = parted es j p in let s : t ≡ e = cc in absurd (d t (e ∷ b) a (ap (λ l. e ∷ l) w) (Memᴰ.head s))
apart_distinct (e ∷ es) d (suc j) (suc k) t p q = ap suc (apart_distinct es (apart_tail e es d) j k t p q)

pub found_distinct : {A : Type 0} {targets : A → List A} {start : A} {es : List A} → Found targets start es → Distinct es
found_distinct {es = es} f = apart_distinct es (λ e before after q m. firsts_unseen f.in_order e before after q m)

-- ---- where an entry leads

abbrev pub pick : {A : Type 0} → Option A → List A → List A
pick o l = elim o [ none ↦ l | some t ↦ t ∷ l ]

pick_cases : {A : Type 0} (o : Option A) (l : List A) (t : A) → Memᴰ t (pick o l) → (o ≡ some t) ⊎ Memᴰ t l
pick_cases none l t m = inr m
pick_cases (some u) l t m = ⊎_elim (λ e. inl (ap some (sym e))) inr (Memᴰ.cases_cons m)

pick_some : {A : Type 0} (o : Option A) (l : List A) (t : A) → o ≡ some t → Memᴰ t (pick o l)
pick_some none l t e = absurd cc
pick_some (some u) l t e = Memᴰ.head (let k : t ≡ u = cc in k)

pick_rest : {A : Type 0} (o : Option A) (l : List A) (t : A) → Memᴰ t l → Memᴰ t (pick o l)
pick_rest none l t m = m
pick_rest (some u) l t m = Memᴰ.tail m

module _ {A : Type 0} (step : A → ℕ → Option A) where
  targets_only : (xs : List ℕ) (a t : A) → Memᴰ t (targets step xs a) → (x : ℕ) × Memᴰ x xs × (step a x ≡ some t)
  targets_only [] a t m = absurd (Memᴰ.not-nil m)
  targets_only (x ∷ xs) a t m =
      ⊎_elim (λ e. (x, Memᴰ.head refl, e)) (λ k. let (y, i, e) = targets_only xs a t k in (y, Memᴰ.tail i, e)) (pick_cases (step a x) (targets step xs a) t m)

  pub targets_has : (xs : List ℕ) (a t : A) (x : ℕ) → Memᴰ x xs → step a x ≡ some t → Memᴰ t (targets step xs a)
  targets_has [] a t x m e = absurd (Memᴰ.not-nil m)
  targets_has (y ∷ xs) a t x m e =
      ⊎_elim (λ q. pick_some (step a y) (targets step xs a) t (ap (step a) (sym q) ∙ e)) (λ k. pick_rest (step a y) (targets step xs a) t (targets_has xs a t x k e)) (Memᴰ.cases_cons m)

all_only : {A B : Type 0} (f : A → List B) (es : List A) (t : B) → Memᴰ t (all f es) → (a : A) × Memᴰ a es × Memᴰ t (f a)
all_only f [] t m = absurd (Memᴰ.not-nil m)
all_only f (e ∷ es) t m =
    ⊎_elim (λ k. (e, Memᴰ.head refl, k)) (λ k. let (a, i, l) = all_only f es t k in (a, Memᴰ.tail i, l)) (Memᴰ.append_cases (f e) m)

pub all_has : {A B : Type 0} (f : A → List B) (es : List A) (a : A) (t : B) → Memᴰ a es → Memᴰ t (f a) → Memᴰ t (all f es)
all_has f [] a t m k = absurd (Memᴰ.not-nil m)
all_has f (e ∷ es) a t m k =
    ⊎_elim (λ q. Memᴰ.append_left (all f es) (subst (λ v. Memᴰ t (f v)) q k)) (λ n. Memᴰ.append_right (f e) (all_has f es a t n k)) (Memᴰ.cases_cons m)

-- ---- moves

-- a row's moves: the entry left, a symbol of the row, and the step
row_only : {A : Type 0} {es : List A} {st : ℕ → Option A} {i : ℕ} {xs : List ℕ} {ms : List Arrow} → Row es st i xs ms → (m : Arrow) → Memᴰ m ms → (m.0 ≡ i) × Memᴰ m.1 xs × ((t : A) × (st m.1 ≡ some t) × StandsAt es m.2 t)
row_only row_end m k = absurd (Memᴰ.not-nil k)
row_only (pass h r) m k = let (a, b, c) = row_only r m k in (a, Memᴰ.tail b, c)
row_only {es = es} {st} {i} (go {x = y} {j = j} u h l r) m k =
    ⊎_elim
    (λ w.
    let p : m.0 ≡ i = ap (λ (t : Arrow). t.0) w in
    let q : m.1 ≡ y = ap (λ (t : Arrow). t.1) w in
    let s : m.2 ≡ j = ap (λ (t : Arrow). t.2) w in
    (p, Memᴰ.head q, (u, ap st q ∙ h, ap (get_elem? es) s ∙ l)))
    (λ n. let (a, b, c) = row_only r m n in (a, Memᴰ.tail b, c))
    (Memᴰ.cases_cons k)

row_has : {A : Type 0} {es : List A} {st : ℕ → Option A} {i : ℕ} {xs : List ℕ} {ms : List Arrow} {x : ℕ} {t : A} → Row es st i xs ms → Memᴰ x xs → st x ≡ some t → (j : ℕ) × Memᴰ (i, x, j) ms × StandsAt es j t
row_has row_end m e = absurd (Memᴰ.not-nil m)
row_has {st = st} {x = x} (pass h r) m e =
    ⊎_elim (λ q. let k = ap st q in absurd cc) (λ k. row_has r k e) (Memᴰ.cases_cons m)
row_has {es = es} {st} {i} {x = x} {t} (go {x = y} {j = j} u h l r) m e =
    ⊎_elim (λ q. let k : t ≡ u = (let k = ap st q in cc) in (j, Memᴰ.head (let k : x ≡ y = q in cc), l ∙ ap some (sym k)))
    (λ k. let (n, w, z) = row_has r k e in (n, Memᴰ.tail w, z))
    (Memᴰ.cases_cons m)

-- the place among the entries from i on that a move leaves
record Left {A : Type 0} (step : A → ℕ → Option A) (symbols : List ℕ) (es bs : List A) (i : ℕ) (m : Arrow) : Type 0 where
  place : ℕ
  number : m.0 ≡ i + place
  entry : A
  at : StandsAt bs place entry
  symbol : Memᴰ m.1 symbols
  to : A
  steps : step entry m.1 ≡ some to
  to_at : StandsAt es m.2 to

rows_only : {A : Type 0} {es : List A} {step : A → ℕ → Option A} {symbols : List ℕ} {i : ℕ} {bs : List A} {ms : List Arrow} → Rows es step symbols i bs ms → (m : Arrow) → Memᴰ m ms → Left step symbols es bs i m
rows_only rows_end m k = absurd (Memᴰ.not-nil k)
rows_only {i = i} (row {a = a} {ms = ms} r rs) m k =
    ⊎_elim
    (λ n. let (e, s, (t, g, p)) = row_only r m n in record { place = 0; number = (omega arith); entry = a; at = refl; symbol = s; to = t; steps = g; to_at = p })
    (λ n. let o = rows_only rs m n in record { place = suc o.place; number = (let q = o.number in omega arith); entry = o.entry; at = o.at; symbol = o.symbol; to = o.to; steps = o.steps; to_at = o.to_at })
    (Memᴰ.append_cases ms k)

rows_has : {A : Type 0} {es : List A} {step : A → ℕ → Option A} {symbols : List ℕ} {i : ℕ} {bs : List A} {ms : List Arrow} → Rows es step symbols i bs ms → {x : ℕ} {a t : A} (k : ℕ) → StandsAt bs k a → Memᴰ x symbols → step a x ≡ some t → (j : ℕ) × Memᴰ (i + k, x, j) ms × StandsAt es j t
rows_has rows_end k g m e = absurd cc
rows_has {step = step} {i = i} (row {a = c} {ms = ms} {ns = ns} r rs) {x} {a} {t} zero g m e =
    let ca : c ≡ a = cc in
    let (j, w, z) = row_has r m (ap (λ y. step y x) ca ∙ e) in
    (j, Memᴰ.append_left ns (let q : i + 0 ≡ i = omega arith in subst (λ y. Memᴰ (y, x, j) ms) (sym q) w), z)
rows_has {i = i} (row {ms = ms} {ns = ns} r rs) {x} (suc k) g m e =
    let (j, w, z) = rows_has rs k g m e in
    (j, Memᴰ.append_right ms (let q : i + suc k ≡ (i + 1) + k = omega arith in subst (λ y. Memᴰ (y, x, j) ns) (sym q) w), z)

row_rising : {A : Type 0} {es : List A} {st : ℕ → Option A} {i : ℕ} {xs : List ℕ} {ms : List Arrow} → Row es st i xs ms → Ascending xs → InOrder Rises ms
row_rising row_end o = in_order_none Rises
row_rising (pass {x = x} {xs = xs} h r) o = row_rising r (in_order_tail ◌<◌ x xs o)
row_rising {i = i} (go {x = x} {j = j} {xs = xs} {ms = ms} u h l r) o =
    in_order_cons Rises (i, x, j) ms
    (λ m k. let (a, b, c) = row_only r m k in inr (sym a, in_order_head ◌<◌ x xs o m.1 b))
    (row_rising r (in_order_tail ◌<◌ x xs o))

rows_rising : {A : Type 0} {es : List A} {step : A → ℕ → Option A} {symbols : List ℕ} {i : ℕ} {bs : List A} {ms : List Arrow} → Ascending symbols → Rows es step symbols i bs ms → InOrder Rises ms
rows_rising o rows_end = in_order_none Rises
rows_rising o (row {ms = ms} {ns = ns} r rs) =
    in_order_append Rises ms ns (row_rising r o) (rows_rising o rs)
    (λ m n k l. let (a, b, c) = row_only r m k in let w = rows_only rs n l in inl (omega (arith, a, w.number)))

-- ---- one numbering

row_same : {A : Type 0} {es : List A} {st : ℕ → Option A} {i : ℕ} → Distinct es → {xs : List ℕ} {ms : List Arrow} → Row es st i xs ms → {ns : List Arrow} → Row es st i xs ns → ms ≡ ns
row_same d row_end row_end = refl
row_same d (pass h r) (pass k s) = row_same d r s
row_same d (pass h r) (go t k l s) = absurd cc
row_same d (go t k l s) (pass h r) = absurd cc
row_same {es = es} d (go {j = j} t h l r) (go {j = k} u g m s) =
    let w = row_same d r s in
    let tu : t ≡ u = cc in
    let jk = d j k t l (m ∙ ap some (sym tu)) in
    cc

rows_same : {A : Type 0} {es : List A} {step : A → ℕ → Option A} {symbols : List ℕ} → Distinct es → {i : ℕ} {bs : List A} {ms : List Arrow} → Rows es step symbols i bs ms → {ns : List Arrow} → Rows es step symbols i bs ns → ms ≡ ns
rows_same d rows_end rows_end = refl
rows_same d (row r rs) (row s ss) = let p = row_same d r s in let q = rows_same d rs ss in cc

pub numbered_unique : {A : Type 0} {step : A → ℕ → Option A} {symbols : List ℕ} {start : A} {es fs : List A} {ms ns : List Arrow} → Numbered step symbols start es ms → Numbered step symbols start fs ns → (es ≡ fs) × (ms ≡ ns)
numbered_unique {step = step} {symbols} {start} {es} {fs} {ms} {ns} m n =
    let e : es ≡ fs = found_unique (targets step symbols) start m.found n.found in
    let r : Rows es step symbols 0 es ns = subst (λ l. Rows l step symbols 0 l ns) (sym e) n.rows in
    (e, rows_same (found_distinct m.found) m.rows r)

-- ---- the laws

pub upto_below : (n x : ℕ) → Memᴰ x (upto n) → x < n
upto_below zero x m = absurd (Memᴰ.not-nil m)
upto_below (suc n) x m =
    ⊎_elim (λ k. let r = upto_below n x k in omega arith) (λ k. ⊎_elim (λ e. omega arith) (λ z. absurd (Memᴰ.not-nil z)) (Memᴰ.cases_cons k)) (Memᴰ.append_cases (upto n) m)

pub upto_has : (n x : ℕ) → x < n → Memᴰ x (upto n)
upto_has zero x h = absurd (omega arith)
upto_has (suc n) x h = ⊎_elim (λ l. Memᴰ.append_left (n ∷ []) (upto_has n x l)) (λ l. Memᴰ.append_right (upto n) (Memᴰ.head (let e : x ≡ n = omega arith in e))) (cases_lt x n)

pub upto_ascending : (n : ℕ) → Ascending (upto n)
upto_ascending zero = in_order_none ◌<◌
upto_ascending (suc n) = in_order_push ◌<◌ (upto n) n (upto_ascending n) (λ k t s. upto_below n t (mem_at (upto n) k t s))

module _ {A : Type 0} {step : A → ℕ → Option A} {symbols : List ℕ} {start : A} {es : List A} {ms : List Arrow} (n : Numbered step symbols start es ms) where
  pub first_entry : StandsAt es 0 start
  first_entry = let (r, e) = begins (targets step symbols) start n.found.in_order in ap (λ l. get_elem? l 0) e

  -- what an entry leads to is an entry
  entry_on : (a t : A) (x : ℕ) → Memᴰ a es → Memᴰ x symbols → step a x ≡ some t → Memᴰ t es
  entry_on a t x m s e =
      ⊎_elim (λ z. absurd (Memᴰ.not-nil z)) (λ z. z)
      (firsts_mem n.found.in_order (Memᴰ.tail (all_has (targets step symbols) es a t m (targets_has step symbols a t x s e))))

  along_entry : (xs : List ℕ) (e : A) → Along step symbols start xs e → Memᴰ e es
  along_entry xs e here = mem_at es 0 start first_entry
  along_entry xs e (on {x = x} {b = b} w s g) = entry_on b e x (along_entry _ b w) s g

  -- an entry but the first is led to by one that stands before it
  nonempty : (before : List A) (k : ℕ) → length before ≡ suc k → before ≢ []
  nonempty before k l e = let z : ◌≡◌ {A = ℕ} 0 (suc k) = ap length (sym e) ∙ l in omega arith

  entry_along : (bound k : ℕ) → k < bound → (e : A) → StandsAt es k e → (xs : List ℕ) × Along step symbols start xs e
  entry_along zero k h e s = absurd (omega arith)
  entry_along (suc bound) zero h e s = ([], let q : start ≡ e = (let f = first_entry in cc) in subst (λ v. Along step symbols start [] v) q here)
  entry_along (suc bound) (suc k) h e s =
      let (before, after, q, l) = parted es (suc k) s in
      let (a, m, t) = all_only (targets step symbols) before e (n.found.earlier before after e q (nonempty before k l)) in
      let (x, i, g) = targets_only step symbols a e t in
      let (j, p) = at_mem before a m in
      let (xs, w) = entry_along bound j (let b = stands_below before j a p in omega arith) a (subst (λ r. StandsAt r j a) (sym q) (stands_left before (e ∷ after) a j p)) in
      (xs ++ (x ∷ []), on {xs = xs} w i g)

  pub numbered_laws : Ascending symbols → Laws step symbols start es ms
  numbered_laws o =
      record {
        first = first_entry;
        distinct = found_distinct n.found;
        reached = λ k e s. entry_along (suc k) k (omega arith) e s;
        complete = λ xs e w. at_mem es e (along_entry xs e w);
        has = λ i x a t s m g. (let (j, w, z) = rows_has n.rows i s m g in let q : 0 + i ≡ i = omega arith in (j, subst (λ y. Memᴰ (y, x, j) ms) q w, z));
        only = λ m k. (let w = rows_only n.rows m k in record { from = w.entry; to = w.to; from_at = ap (get_elem? es) (let q = w.number in let r : m.0 ≡ w.place = omega arith in r) ∙ w.at; symbol = w.symbol; steps = w.steps; to_at = w.to_at });
        rising = rows_rising o n.rows;
        unique = λ es' ms' m. numbered_unique n m;
      }
