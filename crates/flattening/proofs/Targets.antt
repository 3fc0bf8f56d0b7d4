-- The move of an entry on a symbol stands where its moves from that symbol on begin.
use Rattle.std.proofs.Common.{◌≡◌, ℕ, ◌≤◌, List, length, Some, None, sym, ap, subst, arith}
use mathlib.Core.List.{Memᴰ}
use Rattle.table.specs.Lists.{StandsAt, InOrder}
use Rattle.table.proofs.Lists.{stands_below, stands_same, mem_at}
use Rattle.finding.specs.Laws.{Rises}
use Rattle.finding.specs.Lookup.{Parted}
use Rattle.finding.specs.Numbered.{Arrow}
use Rattle.finding.proofs.Seeking.{move_here}
use Rattle.flattening.specs.Places.{MoveOn}

module _ (ms : List Arrow) (rising : InOrder Rises ms) (q x i : ℕ) (at : Parted ms q x i) where
  pub none_past : length ms ≤ i → MoveOn ms q x None
  none_past l p m = let b = stands_below ms i (q, x, p) (move_here ms rising q x i at p m) in omega arith

  module _ (a : Arrow) (here : StandsAt ms i a) where
    is : (p : ℕ) → Memᴰ (q, x, p) ms → a ≡ (q, x, p)
    is p m = stands_same ms i a (q, x, p) here (move_here ms rising q x i at p m)

    pub none_else : ((a.0 ≡ q) → (a.1 ≡ x) → ⊥) → MoveOn ms q x None
    none_else apart p m = apart (ap (λ (b : Arrow). b.0) (is p m)) (ap (λ (b : Arrow). b.1) (is p m))

    pub one_here : a.0 ≡ q → a.1 ≡ x → MoveOn ms q x (Some a.2)
    one_here e f = (
      subst (λ b. Memᴰ b ms) (λ j. (e j, f j, a.2)) (mem_at ms i a here),
      (λ t m. sym (ap (λ (b : Arrow). b.2) (is t m))),
    )
