-- The first fault of a table that holds no grammar.
--
-- Entries are judged as they stand, each for presence before its value; the count of items follows a rule's last symbol.
use Rattle.std.specs.Prelude.{ℕ, zero, suc, ◌+◌, ◌<◌, ◌≤◌, List, length, slice_index}
use Rattle.book.specs.declared.fault.Refusal.{Refusal}
use Rattle.book.specs.Grammar.{Grammar, symbols}
use Rattle.book.specs.Refusals.{told}
use Rattle.book.specs.Tables.{Name, items, used, Begins}

-- each entry before i is there and right
abbrev pub SoundTo : (ℕ → Type 0) → List ℕ → ℕ → Type 0
SoundTo Right xs i = (j : ℕ) → j < i → (j < length xs) × Right j

-- entry i, one of the first n, is the first that is missing
pub record Missing (Right : ℕ → Type 0) (xs : List ℕ) (n i : ℕ) : Type 0 where
  pub within : i < n
  pub before : SoundTo Right xs i
  pub absent : length xs ≤ i

-- entry i, one of the first n, is the first that is wrong
pub record Wrong (Right : ℕ → Type 0) (xs : List ℕ) (n i : ℕ) : Type 0 where
  pub within : i < n
  pub before : SoundTo Right xs i
  pub present : i < length xs
  pub wrong : Right i → ⊥

-- entry i of the header lies in its range: words, names, start name, count of rules
abbrev pub InRange : List ℕ → ℕ → Type 0
InRange t zero = (1 ≤ slice_index t 0) × (slice_index t 0 ≤ 1024)
InRange t (suc zero) = (1 ≤ slice_index t 1) × (slice_index t 1 ≤ 1024)
InRange t (suc (suc zero)) = (slice_index t 0 ≤ slice_index t 2) × (slice_index t 2 < slice_index t 0 + slice_index t 1)
InRange t (suc (suc (suc i))) = slice_index t 3 ≤ 2048

pub data HeaderFault (t : List ℕ) : Refusal → Type 0 where
  missing : (i : ℕ) → Missing (InRange t) t 4 i → HeaderFault t (told 1 i)
  range : (i : ℕ) → Wrong (InRange t) t 4 i → HeaderFault t (told 2 i)

-- entry i of a rule is right: its left is a name, its length at most 16, each symbol known
abbrev pub Right : Grammar → List ℕ → ℕ → Type 0
Right g xs zero = Name g (slice_index xs 0)
Right g xs (suc zero) = slice_index xs 1 ≤ 16
Right g xs (suc (suc i)) = slice_index xs (suc (suc i)) < symbols g

-- how many entries the rule has with which a list begins
abbrev pub size : List ℕ → ℕ
size xs = 2 + slice_index xs 1

-- the number of the fault of a rule's entry i
abbrev pub cause : ℕ → ℕ
cause zero = 3
cause (suc zero) = 4
cause (suc (suc i)) = 5

-- the fault of the rule with which xs begins, as the next rule of g
pub data RuleFault (g : Grammar) (xs : List ℕ) : Refusal → Type 0 where
  missing : (i : ℕ) → Missing (Right g xs) xs (size xs) i → RuleFault g xs (told 1 (used g + i))
  wrong : (i : ℕ) → Wrong (Right g xs) xs (size xs) i → RuleFault g xs (told (cause i) (used g + i))
  too_many : SoundTo (Right g xs) xs (size xs) → 4096 < items g + (slice_index xs 1 + 1) → RuleFault g xs (told 6 (used g))

-- the first fault of a table: in its header, or in the rule after the sound rules of g
pub data TableFault (t : List ℕ) : Refusal → Type 0 where
  header : {f : Refusal} → HeaderFault t f → TableFault t f
  rule : {f : Refusal} (n : ℕ) (g : Grammar) (rest : List ℕ) → Begins t n g rest → length g.rules < n → RuleFault g rest f → TableFault t f
