-- Rows that pass their checks are arcs within their ranges, rising, and back.
use Rattle.std.proofs.Common.{◌≡◌, ℕ, zero, suc, ◌+◌, ◌-◌, ◌*◌, ◌<◌, ◌≤◌, ◌⊎◌, List, [], ◌∷◌, map, length, sym, refl, ap, ◌∙◌, subst, inl, inr, mul-add, add-one, arith}
use Rattle.std.specs.List.{AllByRecursion, range_with_len}
use Rattle.table.specs.Lists.{InOrder}
use Rattle.finding.specs.Numbered.{Arrow}
use Rattle.finding.specs.Laws.{Rises}
use Rattle.fields.specs.Arcs.{ArcWithin}
use Rattle.fields.specs.Reading.{number_at, arc_in, arcs_from}
use Rattle.fields.specs.Flaws.{Check, RowRises, Passes, row, rows}
use Rattle.fields.proofs.Judging.{each_part, every_part}
use Rattle.fields.proofs.Counted.{all_made, each_made, order_next, made_in_order}

-- first by the first number, then by the second
pub lex_chain : (a b c d e f : ℕ) → (a < c) ⊎ ((a ≡ c) × (b < d)) → (c < e) ⊎ ((c ≡ e) × (d < f)) → (a < e) ⊎ ((a ≡ e) × (b < f))
lex_chain a b c d e f (inl p) (inl q) = inl (omega arith)
lex_chain a b c d e f (inl p) (inr q) = inl (omega (arith, q.0))
lex_chain a b c d e f (inr p) (inl q) = inl (omega (arith, p.0))
lex_chain a b c d e f (inr p) (inr q) = inr (p.0 ∙ q.0, omega (arith, p.1, q.1))

rises_chain : (x y z : Arrow) → Rises x y → Rises y z → Rises x z
rises_chain x y z = lex_chain x.0 x.1 y.0 y.1 z.0 z.1

-- what is checked of the rising of row k, where rows have this width
module _ (bytes : List ℕ) (start width : ℕ) where
  next_place : (k : ℕ) → start + width * suc k ≡ start + width * k + width
  next_place k = omega (arith, mul-add width k 1, ap (λ n. width * n) (add-one k))

  abbrev pub RisesAt : ℕ → Type 0
  RisesAt k = start < start + width * k → RowRises bytes (start + width * k - width) (start + width * k)

  pub row_rises_next : (k : ℕ) → 0 < width → RisesAt (suc k) → RowRises bytes (start + width * k) (start + width * suc k)
  row_rises_next k w up =
      let n = next_place k in
      let e : start + width * suc k - width ≡ start + width * k = omega arith in
      subst (λ m. RowRises bytes m (start + width * suc k)) e (up (omega arith))

  pub rises_at : (k : ℕ) → ((j : ℕ) → k ≡ suc j → RowRises bytes (start + width * j) (start + width * k)) → RisesAt k
  rises_at zero up l = absurd (omega arith)
  rises_at (suc j) up l =
      let n = next_place j in
      let e : start + width * j ≡ start + width * suc j - width = omega arith in
      subst (λ m. RowRises bytes m (start + width * suc j)) e (up j refl)

-- rows, of each of which something is made
module _ (bytes : List ℕ) (start : ℕ) (limits : List ℕ) (n : ℕ) {A : Type 0} (made : ℕ → A) where
  abbrev row_at : ℕ → List Check
  row_at k = row start limits (start + 2 * length limits * k)

  abbrev pub PassesRow : ℕ → Type 0
  PassesRow k = AllByRecursion (Passes bytes) (row_at k)

  -- where they pass, so much holds of each, and of each and the next
  module _ (a : AllByRecursion (Passes bytes) (rows start limits n)) where
    pub rows_within : (P : A → Type 0) → ((k : ℕ) → PassesRow k → P (made k)) → AllByRecursion P (map made (range_with_len 0 n))
    rows_within P within = all_made made n P (λ k h. within k (each_part bytes row_at n a k h))

    pub rows_rise : (R : A → A → Type 0) → ((x y z : A) → R x y → R y z → R x z) → ((k : ℕ) → PassesRow (suc k) → R (made k) (made (suc k)))
        → InOrder R (map made (range_with_len 0 n))
    rows_rise R chain rise = made_in_order made n R chain (λ k h. rise k (each_part bytes row_at n a (suc k) h))

  -- and back
  pub rows_pass : (P : A → Type 0) (R : A → A → Type 0) → ((k : ℕ) → k < n → P (made k) → ((j : ℕ) → k ≡ suc j → R (made j) (made k)) → PassesRow k)
      → AllByRecursion P (map made (range_with_len 0 n)) → InOrder R (map made (range_with_len 0 n)) → AllByRecursion (Passes bytes) (rows start limits n)
  rows_pass P R passes within up =
      every_part bytes row_at n
      (λ k h. passes k h (each_made made n P within k h)
      (λ j e. subst (λ m. R (made j) (made m)) (sym e) (order_next made n R up j (omega arith))))

module _ (bytes : List ℕ) (start words positions n : ℕ) where
  abbrev limits : List ℕ
  limits = positions ∷ (words ∷ (positions ∷ []))

  abbrev arc : ℕ → Arrow
  arc k = arc_in bytes (start + 6 * k)

  abbrev PassesArc : ℕ → Type 0
  PassesArc k = PassesRow bytes start limits n arc k

  arc_within : (k : ℕ) → PassesArc k → ArcWithin words positions (arc k)
  arc_within k (p, (q, (r, s))) =
      let e : start + 6 * k + 2 + 2 ≡ start + 6 * k + 4 = omega arith in
      (p.1.1, q.1.1, subst (λ m. number_at bytes m < positions) e r.1.1)

  arc_passes : (k : ℕ) → start + 6 * k + 6 ≤ length bytes → ArcWithin words positions (arc k)
      → ((j : ℕ) → k ≡ suc j → Rises (arc j) (arc k)) → PassesArc k
  arc_passes k h (f, w, t) up =
      let e : start + 6 * k + 4 ≡ start + 6 * k + 2 + 2 = omega arith in
      let third = subst (λ m. number_at bytes m < positions) e t in (
        (omega arith, (omega arith, f)),
        (
          (omega arith, (omega arith, w)),
          (
            (omega arith, (omega arith, third)),
            ((omega arith, rises_at bytes start 6 k up), tt),
          ),
        ),
      )

  module _ (a : AllByRecursion (Passes bytes) (rows start limits n)) where
    pub arcs_within : AllByRecursion (ArcWithin words positions) (arcs_from bytes start n)
    arcs_within = rows_within bytes start limits n arc a (ArcWithin words positions) arc_within

    pub arcs_rise : InOrder Rises (arcs_from bytes start n)
    arcs_rise =
        rows_rise bytes start limits n arc a Rises rises_chain
        (λ k p. row_rises_next bytes start 6 k (omega arith) p.1.1.1.0.1)

  pub arcs_pass : start + 6 * n ≤ length bytes → AllByRecursion (ArcWithin words positions) (arcs_from bytes start n) → InOrder Rises (arcs_from bytes start n)
      → AllByRecursion (Passes bytes) (rows start limits n)
  arcs_pass long = rows_pass bytes start limits n arc (ArcWithin words positions) Rises (λ k h. arc_passes k (omega arith))
