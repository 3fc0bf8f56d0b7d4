-- What stands where the moves of a state begin.
use Rattle.std.proofs.Common.{◌≡◌, ℕ, ◌<◌, ◌≤◌, List, length, get_or, Some, None, refl, ap, ◌∙◌, subst, inl, inr, ⊎_elim, arith}
use mathlib.Core.Option.{some}
use mathlib.Core.List.{Memᴰ}
use Rattle.std.proofs.lemmas.List.{length-map}
use Rattle.std.proofs.lemmas.Bool.{cases_lt}
use Rattle.table.specs.Lists.{StandsAt, InOrder}
use Rattle.table.specs.declared.numbers.StateNo.{StateNo}
use Rattle.table.proofs.Lists.{stands_below, stands_same, stands_getD, stands_map, stands_some, mem_at, at_mem}
use Rattle.finding.specs.declared.moves.Move.{Move}
use Rattle.finding.specs.Laws.{Rises}
use Rattle.finding.specs.Numbered.{Arrow}
use Rattle.finding.proofs.Seeking.{move_here}
use Rattle.theory.specs.Unfolding.{along}
use Rattle.theory.proofs.Unfolding.{along_is, along_mem, along_none}
use Rattle.finding.specs.Lookup.{Before, Parted}
use Rattle.unfolding.specs.Moves.{state_arrow, state_arrows, LeastSymbol}

-- ── what stands where the moves part ──

module _ (ms : List Arrow) (rising : InOrder Rises ms) where
  -- a state has one move on a symbol
  pub one_move : (q x p r : ℕ) → Memᴰ (q, x, p) ms → Memᴰ (q, x, r) ms → p ≡ r
  one_move q x p r m n =
      let (j, s) = at_mem ms (q, x, p) m in
      let (k, t) = at_mem ms (q, x, r) n in
      ⊎_elim (λ h. absurd (never p r (rising j k (q, x, p) (q, x, r) h s t)))
      (λ h. ⊎_elim (λ l. absurd (never r p (rising k j (q, x, r) (q, x, p) l t s)))
      (λ l. let e : j ≡ k = omega arith in ap (λ (m : Arrow). m.2) (stands_same ms k (q, x, p) (q, x, r) (subst (λ (y : ℕ). StandsAt ms y (q, x, p)) e s) t))
      (cases_lt k j))
      (cases_lt j k)
    where
      never : (p r : ℕ) → Rises (q, x, p) (q, x, r) → ⊥
      never p r (inl a) = omega arith
      never p r (inr a) = omega (arith, a.1)

  module _ (s x n : ℕ) (parted : Parted ms s x n) where
    -- where the state moves on y, and y is not below x, the first move of the rest is that of the state, on y or less
    first_move : (y p : ℕ) → x ≤ y → Memᴰ (s, y, p) ms → (m : Arrow) × StandsAt ms n m × (m.0 ≡ s) × (m.1 ≤ y)
    first_move y p l w =
        let (k, t) = at_mem ms (s, y, p) w in
        let b = stands_below ms k (s, y, p) t in
        let (m, at) = stands_some ms n (⊎_elim (λ u. absurd (front (parted.front k (s, y, p) t u))) (λ u. omega arith) (cases_lt k n)) in
        ⊎_elim (λ u. absurd (front (parted.front k (s, y, p) t u)))
        (λ u. ⊎_elim (λ v. let (d, g) = past m at (rising n k m (s, y, p) v at t) in (m, at, d, g))
        (λ v. let z : k ≡ n = omega arith in ((s, y, p), subst (λ (i : ℕ). StandsAt ms i (s, y, p)) z t, refl, omega arith))
        (cases_lt n k))
        (cases_lt k n)
      where
        front : Before (s, y, p) s x → ⊥
        front (inl a) = omega arith
        front (inr a) = omega (arith, a.1)

        past : (m : Arrow) → StandsAt ms n m → Rises m (s, y, p) → (m.0 ≡ s) × (m.1 ≤ y)
        past m at (inl a) = absurd (parted.rest n m at (omega arith) (inl a))
        past m at (inr a) = (a.0, omega (arith, a.1))

    -- where the rest begins with a move of the state, it is that on the least symbol
    pub least_found : (m : Arrow) → StandsAt ms n m → m.0 ≡ s → LeastSymbol ms s x (Some m.1)
    least_found m at e =
        let l : x ≤ m.1 = ⊎_elim (λ h. absurd (parted.rest n m at (omega arith) (inr (e, h)))) (λ h. h) (cases_lt m.1 x) in
        let q : m ≡ (s, m.1, m.2) = ap (λ (y : ℕ). (y, m.1, m.2)) e in (
          l,
          (λ y f h. along_none ms s y (λ p w. let (k, there, d, g) = first_move y p f w in
              let z = ap (λ (a : Arrow). a.1) (stands_same ms n k m there at) in omega arith)),
          (m.2, along_is ms one_move (subst (λ (y : Arrow). Memᴰ y ms) q (mem_at ms n m at))),
        )

    -- where it begins with another state, or there is no rest, the state does not move from x on
    pub none_found : ((m : Arrow) → StandsAt ms n m → m.0 ≡ s → ⊥) → LeastSymbol ms s x None
    none_found other y l = along_none ms s y (λ p w. let (m, at, e, g) = first_move y p l w in other m at e)

-- a move that the state has on x is read where the rest begins
module _ (ms : List (Move StateNo)) (rising : InOrder Rises (state_arrows ms)) (s x n : ℕ) (parted : Parted (state_arrows ms) s x n)
    (moves : (t : ℕ) × (along (state_arrows ms) s x ≡ some t)) where
  there : StandsAt (state_arrows ms) n (s, x, moves.0)
  there = move_here (state_arrows ms) rising s x n parted moves.0 (along_mem (state_arrows ms) moves.1)

  pub target_below : n < length ms
  target_below = omega (arith, stands_below (state_arrows ms) n (s, x, moves.0) there, length-map ms state_arrow)

  pub target_is : (d : Move StateNo) → along (state_arrows ms) s x ≡ some (get_or ms n d).to.0
  target_is d =
      moves.1
      ∙ ap (λ (a : Arrow). some a.2)
      (stands_same (state_arrows ms) n (s, x, moves.0) (state_arrow (get_or ms n d)) there
      (stands_map state_arrow ms n (get_or ms n d) (stands_getD ms n d target_below)))
