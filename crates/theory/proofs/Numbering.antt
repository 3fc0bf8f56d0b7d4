-- The finding order: what the moves and entries of a numbering on the symbols below a number say of each other.
use Rattle.std.proofs.Common.{◌≡◌, ℕ, zero, suc, ◌<◌, ◌≢◌, List, [], ◌∷◌, ◌++◌, length, sym, refl, ap, ◌∙◌, subst, ⊎_elim, arith}
use mathlib.Core.Option.{Option, none, some}
use mathlib.Core.List.Memᴰ
use mathlib.Core.List.{Memᴰ}
use lib.ListN.{get_elem?}
use Rattle.table.specs.Lists.{InOrder}
use Rattle.table.proofs.Lists.{stands_left, stands_below, at_mem}
use Rattle.finding.specs.Numbered.{Arrow, upto, all, targets, Numbered}
use Rattle.finding.specs.Laws.{Laws, Rises}
use Rattle.finding.proofs.Laws.{numbered_laws, upto_ascending}
use Rattle.theory.proofs.Lists.{some_one, none_some}

-- a move goes where the step says
pub record Made {A : Type 0} (es : List A) (step : ℕ → Option A) (x p : ℕ) : Type 0 where
  pub to : A
  pub steps : step x ≡ some to
  pub place : get_elem? es p ≡ some to

module _ (bound : ℕ) {A : Type 0} {step : A → ℕ → Option A} {start : A} {es : List A} {ms : List Arrow} (n : Numbered step (upto bound) start es ms) where
  laws : Laws step (upto bound) start es ms
  laws = numbered_laws n (upto_ascending bound)

  pub place_one : {j k : ℕ} {t : A} → get_elem? es j ≡ some t → get_elem? es k ≡ some t → j ≡ k
  place_one {j} {k} {t} p q = laws.distinct j k t p q

  -- the entry that a move leaves
  pub entry_left : {q x p : ℕ} → Memᴰ (q, x, p) ms → (a : A) × (get_elem? es q ≡ some a)
  entry_left {q} {x} {p} m = let o = laws.only (q, x, p) m in (o.from, o.from_at)

  -- a move goes where the step of its entry says
  pub move_made : {q x p : ℕ} {a : A} → get_elem? es q ≡ some a → Memᴰ (q, x, p) ms → Made es (step a) x p
  move_made {q} {x} {p} {a} g m =
      let o = laws.only (q, x, p) m in
      record { to = o.to; steps = ap (λ y. step y x) (some_one g o.from_at) ∙ o.steps; place = o.to_at }

  -- each step is a move
  pub step_made : {q x : ℕ} {a t : A} → get_elem? es q ≡ some a → Memᴰ x (upto bound) → step a x ≡ some t → (j : ℕ) × Memᴰ (q, x, j) ms × (get_elem? es j ≡ some t)
  step_made {q} {x} {a} {t} g m e = laws.has q x a t g m e

  pub move_symbol : {q x p : ℕ} → Memᴰ (q, x, p) ms → Memᴰ x (upto bound)
  move_symbol {q} {x} {p} m = (laws.only (q, x, p) m).symbol

  -- one move for an entry and a symbol
  pub move_one : {q x p r : ℕ} → Memᴰ (q, x, p) ms → Memᴰ (q, x, r) ms → p ≡ r
  move_one {q} {x} {p} {r} m k =
      let (a, g) = entry_left m in
      let d = move_made g m in
      let e = move_made g k in
      place_one d.place (e.place ∙ ap some (some_one e.steps d.steps))

  -- the moves rise by the entry left, then the symbol
  pub moves_rise : InOrder Rises ms
  moves_rise = laws.rising

  -- each entry but the first is reached by a move from an earlier one
  pub record FromEarlier (j : ℕ) : Type 0 where
    pub from : ℕ
    pub symbol : ℕ
    pub earlier : from < j
    pub move : Memᴰ (from, symbol, j) ms

  targets_only : (xs : List ℕ) (a : A) {e : A} → Memᴰ e (targets step xs a) → (x : ℕ) × Memᴰ x xs × (step a x ≡ some e)
  targets_only [] a m = absurd (Memᴰ.not-nil m)
  targets_only (x ∷ xs) a {e} m = cases (λ k. targets_only xs a k) (step a x) refl
    where
      cases : (Memᴰ e (targets step xs a) → (y : ℕ) × Memᴰ y xs × (step a y ≡ some e)) → (o : Option A) → step a x ≡ o → (y : ℕ) × Memᴰ y (x ∷ xs) × (step a y ≡ some e)
      cases rest none q =
          let h : targets step (x ∷ xs) a ≡ targets step xs a = rw (q, targets) in
          let (y, w, s) = rest (subst (Memᴰ e) h m) in (y, Memᴰ.tail w, s)
      cases rest (some t) q =
          let h : targets step (x ∷ xs) a ≡ t ∷ targets step xs a = rw (q, targets) in
          ⊎_elim (λ f. (x, Memᴰ.head refl, q ∙ ap some (sym f))) (λ k. let (y, w, s) = rest k in (y, Memᴰ.tail w, s)) (Memᴰ.cases_cons (subst (Memᴰ e) h m))

  all_only : (f : A → List A) (xs : List A) {e : A} → Memᴰ e (all f xs) → (a : A) × Memᴰ a xs × Memᴰ e (f a)
  all_only f [] m = absurd (Memᴰ.not-nil m)
  all_only f (a ∷ xs) m =
      ⊎_elim (λ k. (a, Memᴰ.head refl, k)) (λ k. let (b, w, i) = all_only f xs k in (b, Memᴰ.tail w, i)) (Memᴰ.append_cases (f a) m)

  cut_at : (xs : List A) (j : ℕ) {e : A} → get_elem? xs j ≡ some e → (before : List A) × (after : List A) × (xs ≡ before ++ (e ∷ after)) × (length before ≡ j)
  cut_at [] j h = absurd (none_some refl h)
  cut_at (x ∷ xs) zero {e} h = ([], xs, ap (λ y. y ∷ xs) (some_one refl h), refl)
  cut_at (x ∷ xs) (suc j) h = let (b, a, q, l) = cut_at xs j h in (x ∷ b, a, ap (λ k. x ∷ k) q, ap suc l)

  pub from_earlier : (j : ℕ) → 0 < j → {e : A} → get_elem? es j ≡ some e → FromEarlier j
  from_earlier j h {e} g =
      let (before, after, q, l) = cut_at es j g in
      let ne : before ≢ [] = (λ z. let k = ap length z in omega arith) in
      let (a, w, t) = all_only (targets step (upto bound)) before (n.found.earlier before after e q ne) in
      let (x, m, s) = targets_only (upto bound) a t in
      let (i, p) = at_mem before a w in
      let p' : get_elem? es i ≡ some a = ap (λ k. get_elem? k i) q ∙ stands_left before (e ∷ after) a i p in
      let (k, v, z) = step_made p' m s in
      let kj : k ≡ j = place_one {j = k} {k = j} z g in
      record { from = i; symbol = x; earlier = (let b = stands_below before i a p in omega arith); move = subst (λ y. Memᴰ (i, x, y) ms) {x = k} kj v }
