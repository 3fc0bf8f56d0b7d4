-- What the checks of a file answer.
use Rattle.std.specs.Prelude.{◌≡◌, ℕ, ◌+◌, ◌*◌, List, length, Ok, Err, Result}
use Rattle.std.specs.List.{AllByRecursion}
use Rattle.fields.specs.declared.fault.AcceptorFault.{AcceptorFault}
use Rattle.fields.specs.Reading.{number_at}
use Rattle.fields.specs.Refusals.{refusal}
use Rattle.fields.specs.Flaws.{Check, ranged, Passes, Fault, First, front, flags, rows}

-- these checks pass, or this is the first fault among them
abbrev pub Judged : {T : Type 0} → List ℕ → List Check → Result T AcceptorFault → Type 0
Judged bytes cs (Ok v) = AllByRecursion (Passes bytes) cs
Judged bytes cs (Err f) = First bytes cs (refusal f)

-- this check passes, or this is its fault
abbrev pub OneJudged : {T : Type 0} → List ℕ → Check → Result T AcceptorFault → Type 0
OneJudged bytes c (Ok v) = Passes bytes c
OneJudged bytes c (Err f) = Fault bytes c (refusal f)

-- the number at `at`, in its range, or its fault
abbrev pub NumberJudged : List ℕ → ℕ → ℕ → ℕ → Result ℕ AcceptorFault → Type 0
NumberJudged bytes at least limit (Ok v) = Passes bytes (ranged at least limit) × (v ≡ number_at bytes at)
NumberJudged bytes at least limit (Err f) = Fault bytes (ranged at least limit) (refusal f)

-- these checks pass and tell this number, or this is the first fault among them
abbrev pub JudgedAs : List ℕ → List Check → ℕ → Result ℕ AcceptorFault → Type 0
JudgedAs bytes cs n (Ok v) = AllByRecursion (Passes bytes) cs × (v ≡ n)
JudgedAs bytes cs n (Err f) = First bytes cs (refusal f)

-- what every file begins with is sound, and tells the count of words
abbrev pub FrontJudged : List ℕ → List ℕ → Result ℕ AcceptorFault → Type 0
FrontJudged bytes mark = JudgedAs bytes (front mark) (number_at bytes 5)

-- so many flags pass, and tell the place after them
abbrev pub FlagsJudged : List ℕ → ℕ → ℕ → Result ℕ AcceptorFault → Type 0
FlagsJudged bytes start count = JudgedAs bytes (flags start count) (start + count)

-- so many rows pass, and tell the place after them
abbrev pub RowsJudged : List ℕ → ℕ → List ℕ → ℕ → Result ℕ AcceptorFault → Type 0
RowsJudged bytes start limits count = JudgedAs bytes (rows start limits count) (start + 2 * length limits * count)
