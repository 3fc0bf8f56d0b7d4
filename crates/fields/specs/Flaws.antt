-- What a file is checked for, in byte order, and its first fault.
--
-- A field is judged for presence before its value, and a row for rising once its own fields are sound.
use Rattle.std.specs.Prelude.{◌≡◌, ℕ, zero, suc, ◌+◌, ◌-◌, ◌*◌, ◌<◌, ◌≤◌, ◌⊎◌, List, [], ◌∷◌, ◌++◌, length, take, slice_index}
use Rattle.book.specs.declared.fault.Refusal.{Refusal}
use Rattle.fields.specs.Reading.{number_at}
use Rattle.fields.specs.Refusals.{told}

-- one thing that a file is checked for
pub data Check : Type 0 where
  -- these bytes stand in front
  marked : (mark : List ℕ) → Check
  -- the number at `at` is `least` or more, and below `limit`
  ranged : (at least limit : ℕ) → Check
  -- the byte at `at` is 0 or 1
  flagged : (at : ℕ) → Check
  -- the row at `at` is the first, at `start`, or rises over the row `width` bytes before it
  rises : (start width at : ℕ) → Check
  -- the file ends at `at`
  ends : (at : ℕ) → Check

-- how many bytes there are where the field is all there
abbrev pub reach : Check → ℕ
reach (marked mark) = length mark
reach (ranged at least limit) = at + 2
reach (flagged at) = at + 1
reach (rises start width at) = at + 4
reach (ends at) = at

-- where the fault of a check lies
abbrev pub origin : Check → ℕ
origin (marked mark) = 0
origin (ranged at least limit) = at
origin (flagged at) = at
origin (rises start width at) = at
origin (ends at) = at

-- the row at `at` rises over that at `before`: by its first number, then its second
abbrev pub RowRises : List ℕ → ℕ → ℕ → Type 0
RowRises bytes before at =
    (number_at bytes before < number_at bytes at)
    ⊎ ((number_at bytes before ≡ number_at bytes at) × (number_at bytes (before + 2) < number_at bytes (at + 2)))

abbrev pub Right : List ℕ → Check → Type 0
Right bytes (marked mark) = take (length mark) bytes ≡ mark
Right bytes (ranged at least limit) = (least ≤ number_at bytes at) × (number_at bytes at < limit)
Right bytes (flagged at) = slice_index bytes at ≤ 1
Right bytes (rises start width at) = start < at → RowRises bytes (at - width) at
Right bytes (ends at) = length bytes ≡ at

abbrev pub Passes : List ℕ → Check → Type 0
Passes bytes c = (reach c ≤ length bytes) × Right bytes c

-- the fault of a check that does not pass
pub data Fault (bytes : List ℕ) (c : Check) : Refusal → Type 0 where
  early : length bytes < reach c → Fault bytes c (told 17 (length bytes))
  wrong : reach c ≤ length bytes → (Right bytes c → ⊥) → Fault bytes c (told 17 (origin c))

-- the fault of the first check of a list that does not pass
pub data First (bytes : List ℕ) : List Check → Refusal → Type 0 where
  here : {c : Check} {cs : List Check} {f : Refusal} → Fault bytes c f → First bytes (c ∷ cs) f
  later : {c : Check} {cs : List Check} {f : Refusal} → Passes bytes c → First bytes cs f → First bytes (c ∷ cs) f

-- what every file begins with: mark, version and count of words
abbrev pub front : List ℕ → List Check
front mark = marked mark ∷ (ranged 3 1 2 ∷ (ranged 5 1 1025 ∷ []))

-- numbers from `at` on, each below its limit
abbrev pub fields : ℕ → List ℕ → List Check
fields at [] = []
fields at (limit ∷ limits) = ranged at 0 limit ∷ fields (at + 2) limits

-- the checks of the first n parts, one part after the other
abbrev pub parts : (ℕ → List Check) → ℕ → List Check
parts part zero = []
parts part (suc k) = parts part k ++ part k

-- the first n of the flags that stand from `start` on
abbrev pub flags : ℕ → ℕ → List Check
flags start n = parts (λ k. flagged (start + k) ∷ []) n

-- a row: its fields, then its rising
abbrev pub row : ℕ → List ℕ → ℕ → List Check
row start limits at = fields at limits ++ (rises start (2 * length limits) at ∷ [])

-- the first n of the rows that stand from `start` on
abbrev pub rows : ℕ → List ℕ → ℕ → List Check
rows start limits n = parts (λ k. row start limits (start + 2 * length limits * k)) n
