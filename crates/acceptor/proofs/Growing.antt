-- Sets that grow by jumps.
use Rattle.std.proofs.Common.{◌≡◌, ℕ, ◌+◌, ◌<◌, ◌≤◌, List, sym, ap, subst, inl, inr, ⊎_elim, arith}
use mathlib.Core.List.{Memᴰ}
use Rattle.std.proofs.lemmas.Bool.{cases_lt}
use Rattle.table.specs.Lists.{StandsAt, InOrder}
use Rattle.table.specs.Sets.{In}
use Rattle.table.proofs.Lists.{stands_same, mem_at, at_mem}
use Rattle.acceptor.specs.Rising.{Less, Parted}
use Rattle.acceptor.specs.Steps.{Grown}

pub grown_more : {To : ℕ → Type 0} {a f b g c h : List ℕ} → Grown To a f b g → Grown To b g c h → Grown To a f c h
grown_more x y =
    record {
      kept = λ k m. y.kept k (x.kept k m);
      only = λ k m. ⊎_elim (x.only k) inr (y.only k m);
      still_fresh = λ k m. y.still_fresh k (x.still_fresh k m);
      new_fresh = λ k m. ⊎_elim (λ o. ⊎_elim inl (λ n. inr (y.still_fresh k n)) (x.new_fresh k o)) inr (y.new_fresh k m);
      fresh_new = λ k m. ⊎_elim (λ o. ⊎_elim inl (λ n. inr (y.kept k n.0, n.1)) (x.fresh_new k o)) (λ n. inr (n.0, λ o. n.1 (x.kept k o))) (y.fresh_new k m);
    }

-- the same, by what holds of more
pub grown_as : {To Of : ℕ → Type 0} {a f b g : List ℕ} → ((k : ℕ) → To k → Of k) → Grown To a f b g → Grown Of a f b g
grown_as w x =
    record { kept = x.kept; only = λ k m. ⊎_elim inl (λ t. inr (w k t)) (x.only k m); still_fresh = x.still_fresh; new_fresh = x.new_fresh; fresh_new = x.fresh_new }

-- ── the jumps of one node ──

module _ (jumps : List (ℕ × ℕ)) (rising : InOrder Less jumps) {q n : ℕ} (parted : Parted jumps (q, 0) n) where
  -- all of them stand before the first jump of another node
  pub all_before : (k : ℕ) (t : ℕ × ℕ) → n ≤ k → StandsAt jumps k t → (t.0 ≡ q → ⊥) → (j to : ℕ) → StandsAt jumps j (q, to) → j < k
  all_before k t h at ne j to s =
      ⊎_elim (λ l. l)
      (λ l. ⊎_elim (λ o. absurd (past (rising k j t (q, to) o at s)))
      (λ o. let e : j ≡ k = omega arith in
      absurd (ne (ap (λ (x : ℕ × ℕ). x.0) (stands_same jumps k t (q, to) at (subst (λ i. StandsAt jumps i (q, to)) e s)))))
      (cases_lt k j))
      (cases_lt j k)
    where
      past : Less t (q, to) → ⊥
      past (inl l) = parted.rest k t h at (inl l)
      past (inr l) = ne l.0

module _ (jumps : List (ℕ × ℕ)) (q : ℕ) where
  -- those that stand below a row are taken
  abbrev TakenBelow : ℕ → List ℕ → Type 0
  TakenBelow row set = (j k : ℕ) → StandsAt jumps j (q, k) → j < row → k < 4096 → In set k

  -- one jump more is taken
  pub jump_taken : (row from to : ℕ) {a f b g c h : List ℕ} → StandsAt jumps row (from, to) → from ≡ q → Grown (λ k. Memᴰ (q, k) jumps) a f b g
      → Grown (λ k. k ≡ to) b g c h → Grown (λ k. Memᴰ (q, k) jumps) a f c h
  jump_taken row from to at e x y =
      let m = subst (λ z. Memᴰ (z, to) jumps) e (mem_at jumps row (from, to) at) in
      grown_more x (grown_as (λ k d. subst (λ z. Memᴰ (q, z) jumps) (sym d) m) y)

  pub taken_more : (row from to : ℕ) {b g c h : List ℕ} → StandsAt jumps row (from, to) → Grown (λ k. k ≡ to) b g c h → (to < 4096 → In c to) → TakenBelow row b → TakenBelow (row + 1) c
  taken_more row from to {b} {g} {c} {h} at y here t j k s l small =
      ⊎_elim (λ o. y.kept k (t j k s o small))
      (λ o. let e : j ≡ row = omega arith in
      let d = ap (λ (x : ℕ × ℕ). x.1) (stands_same jumps row (q, k) (from, to) (subst (λ i. StandsAt jumps i (q, k)) e s) at) in
      subst (In c) (sym d) (here (subst (λ z. z < 4096) d small)))
      (cases_lt j row)

  -- all are taken where all stand below the row
  pub taken_all : (row : ℕ) (set : List ℕ) → TakenBelow row set → ((j to : ℕ) → StandsAt jumps j (q, to) → j < row) → (k : ℕ) → Memᴰ (q, k) jumps → k < 4096 → In set k
  taken_all row set t below k m small = let (j, s) = at_mem jumps (q, k) m in t j k s (below j k s) small
