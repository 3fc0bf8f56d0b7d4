-- Rows that rise by two numbers, and the place of a pair among them.
use Rattle.std.specs.Prelude.{◌≡◌, ℕ, ◌<◌, ◌≤◌, Bool, ◌&&◌, ◌||◌, nat_eq, nat_lt, ◌⊎◌, List}
use Rattle.table.specs.Lists.{StandsAt}

-- by the first number, then by the second
abbrev pub Less : ℕ × ℕ → ℕ × ℕ → Type 0
Less a b = (a.0 < b.0) ⊎ ((a.0 ≡ b.0) × (a.1 < b.1))

-- the test of that order
abbrev pub less : ℕ × ℕ → ℕ × ℕ → Bool
less a b = nat_lt a.0 b.0 || (nat_eq a.0 b.0 && nat_lt a.1 b.1)

-- just the first n keys come before this one
pub record Parted (keys : List (ℕ × ℕ)) (key : ℕ × ℕ) (n : ℕ) : Type 0 where
  pub front : (k : ℕ) (t : ℕ × ℕ) → k < n → StandsAt keys k t → Less t key
  pub rest : (k : ℕ) (t : ℕ × ℕ) → n ≤ k → StandsAt keys k t → Less t key → ⊥
