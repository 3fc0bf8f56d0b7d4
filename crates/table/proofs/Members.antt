-- The members that are left: none, or the next one and those after it.
use Rattle.std.proofs.Common.{◌≡◌, ℕ, ◌+◌, ◌*◌, ◌<◌, ◌≤◌, Bool, ◌&&◌, eqb, leb, List, [], ◌∷◌, length, Some, None, Option, sym, ap, ◌∙◌, subst, ⊎_elim, arith, eq-eqb, eqb-true, le-leb, leb-true}
use mathlib.Core.List.Memᴰ
use mathlib.Core.List.{Memᴰ}
use Rattle.std.proofs.lemmas.Bool.{cases_lt, and_parts, and_from}
use Rattle.std.proofs.lemmas.Iterator.{YieldsList}
use Rattle.std.proofs.lemmas.Iterator.Consumers.{YieldsList-from_shown}
use Rattle.table.specs.Lists.{Ascending}
use Rattle.table.specs.Sets.{Row, bit_of, In, members, members_from, NextMember, Walk, members_left, WalkStep}
use Rattle.table.proofs.Orders.{in_order_none, in_order_cons, ascending_same, passing_only, passing_has, passing_ascending, passing_same}
use Rattle.table.proofs.Rows.{in_below}

module _ (words : List ℕ) where
  abbrev test_from : ℕ → ℕ → Bool
  test_from from k = leb from k && eqb (bit_of words k) 1

  pub from_all : members_from words 0 ≡ members words
  unfolding members_from members
  from_all = passing_same (test_from 0) (λ k. eqb (bit_of words k) 1) (64 * length words) (λ k h. ap (λ b. b && eqb (bit_of words k) 1) (le-leb 0 k (omega arith)))

  pub from_in : (from k : ℕ) → Memᴰ k (members_from words from) → (from ≤ k) × In words k
  unfolding members_from In
  from_in from k m =
      let p = and_parts (leb from k) (eqb (bit_of words k) 1) (passing_only (test_from from) (64 * length words) k m).1 in
      (leb-true from k p.0, eqb-true (bit_of words k) 1 p.1)

  pub in_from : Row words → (from k : ℕ) → from ≤ k → In words k → Memᴰ k (members_from words from)
  unfolding members_from In
  in_from row from k l h =
      passing_has (test_from from) (64 * length words) k (let b = in_below words row k h in omega (arith, row.0)) (and_from (leb from k) (eqb (bit_of words k) 1) (le-leb from k l) (eq-eqb (bit_of words k) 1 h))

  pub from_ascending : (from : ℕ) → Ascending (members_from words from)
  unfolding members_from
  from_ascending from = passing_ascending (test_from from) (64 * length words)

  -- the next member, and those after it
  pub from_next : Row words → (from k : ℕ) → NextMember words from (Some k) → members_from words from ≡ k ∷ members_from words (k + 1)
  from_next row from k next =
      ascending_same (members_from words from) (k ∷ members_from words (k + 1))
      (from_ascending from)
      (in_order_cons ◌<◌ k (members_from words (k + 1)) (λ u m. let b = (from_in (k + 1) u m).0 in omega arith) (from_ascending (k + 1)))
      (λ j m.
      let f = from_in from j m in
      ⊎_elim (λ l. absurd (next.3 j f.0 l f.1)) (λ l. ⊎_elim (λ h. Memᴰ.tail (in_from row (k + 1) j (omega arith) f.1)) (λ h. Memᴰ.head (omega arith)) (cases_lt k j)) (cases_lt j k))
      (λ j m. ⊎_elim (λ e. subst (λ (i : ℕ). Memᴰ i (members_from words from)) (sym e) (in_from row from k next.0 next.2)) (λ t. let f = from_in (k + 1) j t in in_from row from j (let n = next.0 in let g = f.0 in omega arith) f.1) (Memᴰ.cases_cons m))

  -- no member is left
  pub from_none : (from : ℕ) → NextMember words from None → members_from words from ≡ []
  from_none from next =
      ascending_same (members_from words from) [] (from_ascending from) (in_order_none ◌<◌) (λ j m. let f = from_in from j m in absurd (next j f.0 f.1)) (λ j m. absurd (Memᴰ.not-nil m))

-- ---- a step of a walk

abbrev pub walk : List ℕ → ℕ → Walk
walk words from = record { words = words; from = from }

module _ {N : Type 0} (value : N → ℕ) where
  pub step_on : (words : List ℕ) → Row words → (from k : ℕ) (n : N) (w : Walk) → walk words from ≡ w → NextMember words from (Some (value n)) → k ≡ value n → WalkStep value w (Some n) (walk words (k + 1))
  step_on words row from k n w at next e =
      subst (λ v. WalkStep value v (Some n) (walk words (k + 1))) at
      (record {
        words = λ i. words;
        from = ap (λ (j : ℕ). j + 1) e;
        least = next;
        first = from_next words row from (value n) next ∙ ap (λ (j : ℕ). value n ∷ members_from words (j + 1)) (sym e);
      })

  pub step_end : (w : Walk) (r : Option N) → NextMember w.words w.from None → r ≡ None → WalkStep value w r w
  step_end w r next e =
      let none_left = from_none w.words w.from next in
      subst (λ r. WalkStep value w r w) (sym e) (record { words = λ i. w.words; from = λ i. w.from; least = next; first = (none_left, none_left) })

  -- a chain over a walk gives the members that are left
  pub walk_road : (w : Walk) → YieldsList (WalkStep value) value w (members_left w)
  walk_road w = YieldsList-from_shown (WalkStep value) value members_left (λ v u s. ap length s.first.0) (λ v n u s. s.first) w
