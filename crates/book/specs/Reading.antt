-- Reading one entry of a list, and the rules that stand in it.
use Rattle.std.specs.Prelude.{◌≡◌, ℕ, zero, suc, ◌+◌, ◌*◌, ◌<◌, ◌≤◌, List, [], ◌∷◌, length, take, drop, Some, None, Option, slice_index, cond, nat_le}
use Rattle.book.specs.Grammar.{Rule, rule}

-- entry i of a list, or none past its end
abbrev pub EntryAt : List ℕ → ℕ → Option ℕ → Type 0
EntryAt xs i None = length xs ≤ i
EntryAt xs i (Some v) = (i < length xs) × (v ≡ slice_index xs i)

-- the 16-bit numbers of a list of bytes, low byte first; half a number at the end is left out
abbrev pub numbers : List ℕ → List ℕ
numbers [] = []
numbers (low ∷ []) = []
numbers (low ∷ (high ∷ rest)) = (low + 256 * high) ∷ numbers rest

-- the first n rules of a list of entries, as far as it has all entries of each
abbrev pub rules_in : ℕ → List ℕ → List Rule
rules_in zero es = []
rules_in (suc n) [] = []
rules_in (suc n) (left ∷ []) = []
rules_in (suc n) (left ∷ (size ∷ es)) = cond (nat_le size (length es)) (rule left (take size es) ∷ rules_in n (drop size es)) []
