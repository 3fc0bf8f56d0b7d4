-- Sets of numbers below 4096 as rows of 64 words of 64 bits.
use Rattle.std.specs.Prelude.{◌≡◌, ℕ, zero, suc, ◌+◌, ◌*◌, ◌/◌, ◌%◌, ◌^◌, ◌<◌, ◌≤◌, Bool, cond, ◌&&◌, ◌⊎◌, List, [], ◌∷◌, ◌++◌, length, Some, None, Option, MatchOption, nat_eq, nat_le, slice_index}
use Rattle.std.specs.Iterator.{YieldsFirstBy}
use mathlib.Core.List.{Memᴰ}
use Rattle.table.specs.Lists.{Ascending}
use Rattle.table.specs.Numbers.{value_in}

-- a row has 64 words, each of 64 bits
abbrev pub Row : List ℕ → Type 0
Row words = (length words ≡ 64) × ((i : ℕ) → slice_index words i < 2 ^ 64)

-- bit b of the number n, 0 or 1
abbrev pub bit : ℕ → ℕ → ℕ
bit n b = n / 2 ^ b % 2

-- bit k of a row: bit k % 64 of word k / 64
abbrev pub bit_of : List ℕ → ℕ → ℕ
bit_of words k = bit (slice_index words (k / 64)) (k % 64)

-- k is a member
unfoldable pub In : List ℕ → ℕ → Type 0
In words k = bit_of words k ≡ 1

-- the numbers below n that pass a test, ascending
unfoldable pub passing : (ℕ → Bool) → ℕ → List ℕ
passing test zero = []
passing test (suc n) = passing test n ++ cond (test n) (n ∷ []) []

-- the members, ascending
unfoldable pub members : List ℕ → List ℕ
members words = passing (λ k. nat_eq (bit_of words k) 1) (64 * length words)

-- the members that are `from` or more, ascending
unfoldable pub members_from : List ℕ → ℕ → List ℕ
members_from words from = passing (λ k. nat_le from k && nat_eq (bit_of words k) 1) (64 * length words)

-- ks lists the members of the row, ascending
pub record Listed (words : List ℕ) (ks : List ℕ) : Type 0 where
  pub ascending : Ascending ks
  pub just : (k : ℕ) → Memᴰ k ks → In words k
  pub every : (k : ℕ) → In words k → Memᴰ k ks

-- words' has the members of words, and k if it is below 4096
pub record Inserted (words : List ℕ) (k : ℕ) (words' : List ℕ) : Type 0 where
  pub added : k < 4096 → In words' k
  pub kept : (j : ℕ) → In words j → In words' j
  pub only : (j : ℕ) → In words' j → In words j ⊎ ((j ≡ k) × (k < 4096))

-- the least member that is `from` or more
abbrev pub NextMember : List ℕ → ℕ → Option ℕ → Type 0
NextMember words from None = (k : ℕ) → from ≤ k → In words k → ⊥
NextMember words from (Some k) = (from ≤ k) × (k < 4096) × In words k × ((j : ℕ) → from ≤ j → j < k → In words j → ⊥)

-- where a walk over the members of a row stands: the members that are `from` or more are left
pub record Walk : Type 0 where
  pub words : List ℕ
  pub from : ℕ

abbrev pub members_left : Walk → List ℕ
members_left w = members_from w.words w.from

-- a step of a walk gives the least member that is left and leaves those after it, or gives none where none is left
pub record WalkStep {N : Type 0} (value : N → ℕ) (w : Walk) (r : Option N) (v : Walk) : Type 0 where
  pub words : v.words ≡ w.words
  pub from : MatchOption r (v.from ≡ w.from) (λ n. v.from ≡ value n + 1)
  pub least : NextMember w.words w.from (value_in value r)
  pub first : YieldsFirstBy value members_left w r v
