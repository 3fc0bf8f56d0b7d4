-- What stands where rows that rise part.
use Rattle.std.proofs.Common.{◌≡◌, ℕ, ◌≤◌, List, ⊎_elim, arith}
use Rattle.std.proofs.lemmas.Bool.{cases_lt}
use Rattle.table.specs.Lists.{StandsAt, InOrder}
use Rattle.table.proofs.Lists.{stands_below, stands_some}
use Rattle.acceptor.specs.Rising.{Less, Parted}

pub less_trans : (a b c : ℕ × ℕ) → Less a b → Less b c → Less a c
less_trans a b c h k = grind arith

less_never : (a : ℕ × ℕ) → Less a a → ⊥
less_never a h = grind arith

module _ (keys : List (ℕ × ℕ)) (rising : InOrder Less keys) {key : ℕ × ℕ} {n : ℕ} (parted : Parted keys key n) where
  -- a row whose numbers are the key, or come after it, is not among the first n
  pub not_front : (k : ℕ) (t : ℕ × ℕ) → StandsAt keys k t → (Less t key → ⊥) → n ≤ k
  not_front k t s no_less = ⊎_elim (λ l. absurd (no_less (parted.front k t l s))) (λ l. l) (cases_lt k n)

  -- the row of the key stands where the rows part
  pub key_at : (k : ℕ) → StandsAt keys k key → k ≡ n
  key_at k s =
      ⊎_elim (λ l. absurd (less_never key (parted.front k key l s)))
      (λ l. ⊎_elim (λ h. let (t, st) = stands_some keys n (let b = stands_below keys k key s in omega arith) in
      absurd (parted.rest n t (omega arith) st (rising n k t key h st s))) (λ h. omega arith) (cases_lt n k))
      (cases_lt k n)
