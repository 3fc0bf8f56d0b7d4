-- That moves rise has one proof at most.
use Rattle.std.specs.Prelude.{◌≡◌, ◌<◌, List}
use Rattle.std.specs.Coded.{×_prop, le_prop}
use Rattle.std.specs.Cmp.{below_irrefl}
use Rattle.std.proofs.Math.Nat.{ℕ_set}
use Rattle.std.proofs.Common.{ap, subst, inl, inr}
use Rattle.table.specs.Lists.{InOrder}
use Rattle.finding.specs.Laws.{Rises}
use Rattle.finding.specs.Numbered.{Arrow}

later_one : (m n : Arrow) → (p q : Rises m n) → p ≡ q
later_one m n (inl a) (inl b) = ap inl (le_prop a b)
later_one m n (inl a) (inr b) = absurd (below_irrefl n.0 (subst (λ k. k < n.0) b.0 a))
later_one m n (inr a) (inl b) = absurd (below_irrefl n.0 (subst (λ k. k < n.0) a.0 b))
later_one m n (inr a) (inr b) = ap inr (×_prop (ℕ_set m.0 n.0) le_prop a b)

pub rising_one : (moves : List Arrow) → (p q : InOrder Rises moves) → p ≡ q
rising_one moves p q = λ i j k m n h s r. later_one m n (p j k m n h s r) (q j k m n h s r) i
