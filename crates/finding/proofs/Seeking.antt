-- Where a test stops to hold in a list in order, and where the moves of an entry begin.
use Rattle.std.proofs.Common.{◌≡◌, ℕ, ◌<◌, ◌≤◌, Bool, true, false, ltb, eqb, ◌&&◌, ◌||◌, List, map, length, get_or, Decides, sym, ◌∙◌, subst, inl, inr, ⊎_elim, arith}
use mathlib.Core.List.{Memᴰ}
use Rattle.std.specs.List.Sorted.{IsPartitionedBy, IsPartitionPoint}
use Rattle.std.proofs.lemmas.Bool.{cases_lt, false≢true}
use Rattle.std.proofs.lemmas.Bool.Decides.{Decides-or, Decides-and, Decides-ltb, Decides-eqb}
use Rattle.std.proofs.lemmas.List.{length-map}
use Rattle.table.specs.Lists.{StandsAt, InOrder}
use Rattle.table.proofs.Lists.{stands_below, stands_some, stands_getD, stands_is, stands_map, stands_unmap, at_mem}
use Rattle.finding.specs.declared.moves.Move.{Move}
use Rattle.finding.specs.Finding.{arrow}
use Rattle.finding.specs.Laws.{Rises}
use Rattle.finding.specs.Lookup.{Before, Parted}
use Rattle.finding.specs.Numbered.{Arrow}

module _ {A : Type 0} (test : A → Bool) (P : A → Type 0) (decides : (a : A) → Decides (test a) (P a)) (xs : List A) where
  -- where P of one gives P of what stands earlier, the test parts the list
  pub test_parts : (R : A → A → Type 0) → InOrder R xs → ((a b : A) → R a b → P b → P a) → IsPartitionedBy test xs
  test_parts R rising earlier i j d l h e =
      ⊎_elim
      (λ s. (decides (get_or xs i d)).1 (earlier (get_or xs i d) (get_or xs j d) (rising i j _ _ s (stands_getD xs i d (omega arith)) (stands_getD xs j d h)) ((decides (get_or xs j d)).0 e)))
      (λ s. let q : i ≡ j = omega arith in subst (λ k. test (get_or xs k d) ≡ true) (sym q) e)
      (cases_lt i j)

  module _ (n : ℕ) (point : IsPartitionPoint (λ a. test a ≡ true) (λ a. test a ≡ false) xs n) where
    pub in_front : (k : ℕ) (a : A) → StandsAt xs k a → k < n → P a
    in_front k a s h = (decides a).0 (subst (λ b. test b ≡ true) (stands_is xs k a a s) (point.0 k a (omega arith) h))

    pub in_rest : (k : ℕ) (a : A) → StandsAt xs k a → n ≤ k → P a → ⊥
    in_rest k a s h p = false≢true (sym (subst (λ b. test b ≡ false) (stands_is xs k a a s) (point.1 k a h (stands_below xs k a s))) ∙ (decides a).1 p)

-- what comes earlier is before too
pub before_earlier : (m n : Arrow) {q x : ℕ} → Rises m n → Before n q x → Before m q x
before_earlier m n (inl a) (inl b) = inl (omega arith)
before_earlier m n (inl a) (inr b) = inl (omega (arith, b.0))
before_earlier m n (inr a) (inl b) = inl (omega (arith, a.0))
before_earlier m n (inr a) (inr b) = inr (a.0 ∙ b.0, omega (arith, a.1, b.1))

module _ {N : Type 0} (v : N → ℕ) (q x : ℕ) where
  -- the test for what comes before the moves of q on x or more
  abbrev pub is_before : Move N → Bool
  is_before m = ltb (v m.from) q || (eqb (v m.from) q && ltb m.symbol x)

  before_decided : (m : Move N) → Decides (ltb (v m.from) q || (eqb (v m.from) q && ltb m.symbol x)) (Before (arrow v m) q x)
  before_decided m = Decides-or _ _ (Decides-ltb (v m.from) q) (Decides-and _ _ (Decides-eqb (v m.from) q) (Decides-ltb m.symbol x))

  module _ (moves : List (Move N)) where
    pub moves_part : InOrder Rises (map (arrow v) moves) → IsPartitionedBy is_before moves
    moves_part rising =
        test_parts is_before (λ m. Before (arrow v m) q x) before_decided moves (λ m n. Rises (arrow v m) (arrow v n))
        (λ j k m n h s r. rising j k (arrow v m) (arrow v n) h (stands_map (arrow v) moves j m s) (stands_map (arrow v) moves k n r))
        (λ m n. before_earlier (arrow v m) (arrow v n))

    pub parted : (n : ℕ) → n ≤ length moves → IsPartitionPoint (λ m. is_before m ≡ true) (λ m. is_before m ≡ false) moves n → Parted (map (arrow v) moves) q x n
    parted n h point =
        record {
          fits = omega (arith, length-map moves (arrow v));
          front = λ k m s l. let (t, at, e) = stands_unmap (arrow v) moves k m s in
              subst (λ (a : Arrow). Before a q x) e (in_front is_before (λ m. Before (arrow v m) q x) before_decided moves n point k t at l);
          rest = λ k m s l b. let (t, at, e) = stands_unmap (arrow v) moves k m s in
              in_rest is_before (λ m. Before (arrow v m) q x) before_decided moves n point k t at l (subst (λ (a : Arrow). Before a q x) (sym e) b);
        }

-- ── what stands where the moves of an entry begin ──

-- the move at a place, as it is read there
pub arrow_read : {N : Type 0} (v : N → ℕ) (moves : List (Move N)) (k : ℕ) (m : Move N) → k < length moves → m ≡ get_or moves k m → StandsAt (map (arrow v) moves) k (arrow v m)
arrow_read v moves k m h e = stands_map (arrow v) moves k m (subst (StandsAt moves k) (sym e) (stands_getD moves k m h))

module _ (ms : List Arrow) (rising : InOrder Rises ms) (q x n : ℕ) (at : Parted ms q x n) where
  -- a move of the entry on x itself
  pub move_here : (p : ℕ) → Memᴰ (q, x, p) ms → StandsAt ms n (q, x, p)
  move_here p m =
      let (k, s) = at_mem ms (q, x, p) m in
      ⊎_elim (λ l. absurd (front (at.front k (q, x, p) s l)))
      (λ l. ⊎_elim (λ h. absurd (first k s h)) (λ h. let e : k ≡ n = omega arith in subst (λ i. StandsAt ms i (q, x, p)) e s) (cases_lt n k))
      (cases_lt k n)
    where
      front : Before (q, x, p) q x → ⊥
      front (inl a) = omega arith
      front (inr a) = omega (arith, a.1)

      first : (k : ℕ) → StandsAt ms k (q, x, p) → n < k → ⊥
      first k s h =
          let b = stands_below ms k (q, x, p) s in
          let (a, here) = stands_some ms n (omega arith) in
          at.rest n a here (omega arith) (back a (rising n k a (q, x, p) h here s))
        where
          back : (a : Arrow) → Rises a (q, x, p) → Before a q x
          back a (inl h) = inl h
          back a (inr h) = inr (h.0, h.1)
