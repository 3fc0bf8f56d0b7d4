-- Words on lists: tests over lists, and the least set that a test closes.
use Rattle.std.specs.Prelude.{◌≡◌, ℕ, zero, suc, Bool, true, false, List, [], ◌∷◌, length, ◌==◌, nat_eq}
use mathlib.Core.List.{Memᴰ}

abbrev pub and : Bool → Bool → Bool
and true b = b
and false b = false

abbrev pub or : Bool → Bool → Bool
or true b = true
or false b = b

-- the elements that pass a test, in their order
abbrev pub keep : {A : Type 0} → (A → Bool) → List A → List A
keep test [] = []
keep test (x ∷ xs) = let rest = keep test xs in elim (test x) [ true ↦ x ∷ rest | false ↦ rest ]

-- whether some element passes a test
abbrev pub any : {A : Type 0} → (A → Bool) → List A → Bool
any test [] = false
any test (x ∷ xs) = elim (test x) [ true ↦ true | false ↦ any test xs ]

-- whether every element passes a test
abbrev pub every : {A : Type 0} → (A → Bool) → List A → Bool
every test [] = true
every test (x ∷ xs) = elim (test x) [ true ↦ every test xs | false ↦ false ]

-- whether two lists of numbers are equal
abbrev pub same : List ℕ → List ℕ → Bool
same [] [] = true
same [] (y ∷ ys) = false
same (x ∷ xs) [] = false
same (x ∷ xs) (y ∷ ys) = elim (x == y) [ true ↦ same xs ys | false ↦ false ]

-- a test `leads j k` on the numbers of a universe, and the sets that it closes
module _ (universe : List ℕ) (leads : ℕ → ℕ → Bool) where
  -- the number is in the set, or some member leads to it
  abbrev pub joins : List ℕ → ℕ → Bool
  joins set k = or (any (nat_eq k) set) (any (λ j. leads j k) set)

  -- the set and all that its members lead to
  abbrev pub grow : List ℕ → List ℕ
  grow set = keep (joins set) universe

  -- grow until nothing is new
  abbrev pub rounds : ℕ → List ℕ → List ℕ
  rounds zero set = set
  rounds (suc n) set = let more = grow set in elim (same set more) [ true ↦ set | false ↦ rounds n more ]

  -- the least set that holds the given numbers of the universe and all that its members lead to
  abbrev pub saturate : List ℕ → List ℕ
  saturate set = rounds (length universe) (grow set)

-- what a test leads to from a set, inside the universe
pub data Reach (universe : List ℕ) (leads : ℕ → ℕ → Bool) (set : List ℕ) : ℕ → Type 0 where
  base : {k : ℕ} → Memᴰ k universe → Memᴰ k set → Reach universe leads set k
  step : {j k : ℕ} → Reach universe leads set j → Memᴰ k universe → leads j k ≡ true → Reach universe leads set k
