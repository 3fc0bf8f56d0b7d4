-- Checks one after the other.
use Rattle.std.proofs.Common.{◌≡◌, ℕ, zero, suc, ◌+◌, ◌-◌, ◌*◌, ◌<◌, ◌≤◌, List, [], ◌∷◌, ◌++◌, length, get_or, take, drop, Ok, Err, Result, IsErrAnd, sym, ap, ◌∙◌, subst, ⊎_elim, mul-add, add-one, arith}
use Rattle.std.specs.List.{AllByRecursion}
use Rattle.std.proofs.lemmas.List.{take-append-drop, drop_more, length-take-le}
use Rattle.std.proofs.ByRecursion.{All-append}
use Rattle.std.proofs.lemmas.Bool.{cases_lt}
use Rattle.std.proofs.lemmas.Result.{err_from_is_err_and}
use Rattle.book.specs.declared.fault.Refusal.{Refusal}
use Rattle.fields.specs.declared.fault.AcceptorFault.{AcceptorFault}
use Rattle.fields.specs.Flaws.{Check, marked, ranged, flagged, Passes, Fault, First, fields, parts, flags, row, rows}
use Rattle.fields.specs.Judged.{NumberJudged, FrontJudged}
use Rattle.fields.specs.Flaws.First.{here, later}

-- a fault that `?` passes on as it is
pub passed_on : {T E : Type 0} {r : Result T E} {e : E} → IsErrAnd r (λ y. y ≡ e) → r ≡ Err e
passed_on {r = r} h = let p = err_from_is_err_and r h in p.1 ∙ ap Err p.2

module _ (bytes : List ℕ) where
  pub first_left : {cs : List Check} {f : Refusal} → First bytes cs f → (ds : List Check) → First bytes (cs ++ ds) f
  first_left (here x) ds = here x
  first_left (later p x) ds = later p (first_left x ds)

  pub first_right : (cs : List Check) {ds : List Check} {f : Refusal} → AllByRecursion (Passes bytes) cs → First bytes ds f → First bytes (cs ++ ds) f
  first_right [] a x = x
  first_right (c ∷ cs) (p, a) x = later p (first_right cs a x)

  pub all_left : (cs ds : List Check) → AllByRecursion (Passes bytes) (cs ++ ds) → AllByRecursion (Passes bytes) cs
  all_left [] ds a = tt
  all_left (c ∷ cs) ds (p, a) = (p, all_left cs ds a)

  pub all_right : (cs ds : List Check) → AllByRecursion (Passes bytes) (cs ++ ds) → AllByRecursion (Passes bytes) ds
  all_right [] ds a = a
  all_right (c ∷ cs) ds (p, a) = all_right cs ds a

  -- fields

  fields_append : (at : ℕ) (xs ys : List ℕ) → fields at (xs ++ ys) ≡ fields at xs ++ fields (at + 2 * length xs) ys
  fields_append at [] ys = ap (λ n. fields n ys) (omega arith)
  fields_append at (x ∷ xs) ys =
      ap (λ l. ranged at 0 x ∷ l) (fields_append (at + 2) xs ys ∙ ap (λ n. fields (at + 2) xs ++ fields n ys) (omega arith))

  pub fields_fault : (at : ℕ) (limits : List ℕ) (i : ℕ) {f : Refusal} → i < length limits → AllByRecursion (Passes bytes) (fields at (take i limits))
      → Fault bytes (ranged (at + 2 * i) 0 (get_or limits i 0)) f → First bytes (fields at limits) f
  fields_fault at limits i {f} h a x =
      let here-at : at + 2 * length (take i limits) ≡ at + 2 * i = omega (arith, length-take-le i limits (omega arith)) in
      let e : fields at limits
      ≡ fields at (take i limits) ++ (ranged (at + 2 * i) 0 (get_or limits i 0) ∷ fields (at + 2 * i + 2) (drop (i + 1) limits)) =
      ap (fields at) (sym (take-append-drop i limits) ∙ ap (λ l. take i limits ++ l) (drop_more limits i 0 h))
      ∙ fields_append at (take i limits) (get_or limits i 0 ∷ drop (i + 1) limits)
      ∙ ap (λ n. fields at (take i limits) ++ (ranged n 0 (get_or limits i 0) ∷ fields (n + 2) (drop (i + 1) limits))) here-at in
      subst (λ cs. First bytes cs f) (sym e) (first_right (fields at (take i limits)) a (here x))

  pub fields_there : (at : ℕ) (limits : List ℕ) (i : ℕ) → i < length limits → AllByRecursion (Passes bytes) (fields at limits) → at + 2 * i + 2 ≤ length bytes
  fields_there at [] i h a = absurd (omega arith)
  fields_there at (l ∷ limits) zero h (p, a) = omega (arith, p.0)
  fields_there at (l ∷ limits) (suc i) h (p, a) = omega (arith, fields_there (at + 2) limits i (omega arith) a)

  -- parts, one after the other

  module _ (part : ℕ → List Check) where
    parts_fault : (k n : ℕ) {f : Refusal} → k ≤ n → First bytes (parts part k) f → First bytes (parts part n) f
    parts_fault k zero {f} h x = let e : k ≡ 0 = omega arith in subst (λ m. First bytes (parts part m) f) e x
    parts_fault k (suc n) {f} h x =
        ⊎_elim (λ l. first_left (parts_fault k n (omega arith) x) _)
        (λ l. let e : k ≡ suc n = omega arith in subst (λ m. First bytes (parts part m) f) e x)
        (cases_lt k (suc n))

    pub part_fault : (k n : ℕ) {f : Refusal} → k < n → AllByRecursion (Passes bytes) (parts part k) → First bytes (part k) f → First bytes (parts part n) f
    part_fault k n h a x = parts_fault (suc k) n (omega arith) (first_right (parts part k) a x)

    pub parts_more : (k : ℕ) → AllByRecursion (Passes bytes) (parts part k) → AllByRecursion (Passes bytes) (part k) → AllByRecursion (Passes bytes) (parts part (k + 1))
    parts_more k a x =
        subst (λ m. AllByRecursion (Passes bytes) (parts part m)) (sym (add-one k)) (All-append (Passes bytes) (parts part k) (part k) a x)

    pub each_part : (n : ℕ) → AllByRecursion (Passes bytes) (parts part n) → (k : ℕ) → k < n → AllByRecursion (Passes bytes) (part k)
    each_part zero a k h = absurd (omega arith)
    each_part (suc n) a k h =
        ⊎_elim (λ l. each_part n (all_left (parts part n) _ a) k l)
        (λ l. let e : n ≡ k = omega arith in subst (λ m. AllByRecursion (Passes bytes) (part m)) e (all_right (parts part n) _ a))
        (cases_lt k n)

    pub every_part : (n : ℕ) → ((k : ℕ) → k < n → AllByRecursion (Passes bytes) (part k)) → AllByRecursion (Passes bytes) (parts part n)
    every_part zero each = tt
    every_part (suc n) each =
        All-append (Passes bytes) (parts part n) (part n) (every_part n (λ k h. each k (omega arith))) (each n (omega arith))

  -- what every file begins with
  pub front_told : (mark : List ℕ) → Passes bytes (marked mark) → Passes bytes (ranged 3 1 2) → (r : Result ℕ AcceptorFault)
      → NumberJudged bytes 5 1 1025 r → FrontJudged bytes mark r
  front_told mark p q (Ok v) (a, e) = ((p, (q, (a, tt))), e)
  front_told mark p q (Err f) x = later p (later q (here x))

  -- one flag more, at its place
  module _ (start at : ℕ) (h : start ≤ at) where
    place_is : at ≡ start + (at - start)
    place_is = omega arith

    pub flags_more : AllByRecursion (Passes bytes) (flags start (at - start)) → Passes bytes (flagged at) → AllByRecursion (Passes bytes) (flags start (at + 1 - start))
    flags_more a p =
        let e : at - start + 1 ≡ at + 1 - start = omega arith in
        subst (λ n. AllByRecursion (Passes bytes) (flags start n)) e
        (parts_more (λ k. flagged (start + k) ∷ []) (at - start) a (subst (λ n. Passes bytes (flagged n)) place_is p, tt))

    pub flags_fault : (count : ℕ) {f : Refusal} → at < start + count → AllByRecursion (Passes bytes) (flags start (at - start)) → Fault bytes (flagged at) f
        → First bytes (flags start count) f
    flags_fault count {f} l a x =
        part_fault (λ k. flagged (start + k) ∷ []) (at - start) count (omega arith) a (here (subst (λ n. Fault bytes (flagged n) f) place_is x))

  -- flags that pass are all there
  pub flags_there : (start n : ℕ) → start ≤ length bytes → AllByRecursion (Passes bytes) (flags start n) → start + n ≤ length bytes
  flags_there start zero h a = omega arith
  flags_there start (suc n) h a = let last = (all_right (flags start n) _ a).0.0 in omega arith

  -- rows

  module _ (start : ℕ) (limits : List ℕ) where
    pub row_fault : (k n at : ℕ) {f : Refusal} → k < n → at ≡ start + 2 * length limits * k → AllByRecursion (Passes bytes) (rows start limits k)
        → First bytes (row start limits at) f → First bytes (rows start limits n) f
    row_fault k n at {f} h e a x =
        part_fault (λ m. row start limits (start + 2 * length limits * m)) k n h a (subst (λ m. First bytes (row start limits m) f) e x)

    -- rows that pass are all there
    pub rows_there : (k : ℕ) → start ≤ length bytes → 1 ≤ length limits → AllByRecursion (Passes bytes) (rows start limits k)
        → start + 2 * length limits * k ≤ length bytes
    rows_there zero h l a = omega arith
    rows_there (suc k) h l a =
        let at = start + 2 * length limits * k in
        let last = all_left (fields at limits) _ (all_right (rows start limits k) _ a) in
        let there = fields_there at limits (length limits - 1) (omega arith) last in
        omega (arith, there, mul-add (2 * length limits) k 1, ap (λ n. 2 * length limits * n) (add-one k))
