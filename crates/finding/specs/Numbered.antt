-- The finding order: how states, nodes and subset states are numbered.
--
-- The start is number 0. Entries are taken by number and symbols upward; where the step from an entry on a symbol
-- leads to an entry that was not found before, that entry gets the next number.
use Rattle.std.specs.Prelude.{◌≡◌, ℕ, zero, suc, ◌+◌, ◌≢◌, List, [], ◌∷◌, ◌++◌}
use Rattle.std.proofs.Math.Option.{Option, none, some}
use mathlib.Core.List.{Memᴰ}
use Rattle.std.proofs.Math.ListN.{get_elem?}

-- a move: the number of the entry left, the symbol, the number of the entry reached
abbrev pub Arrow : Type 0
Arrow = ℕ × ℕ × ℕ

-- the symbols below n, upward
abbrev pub upto : ℕ → List ℕ
upto zero = []
upto (suc n) = upto n ++ (n ∷ [])

-- the elements of a list that were not seen before, each where it first stands
pub data Firsts {A : Type 0} : List A → List A → List A → Type 0 where
  nil : {seen : List A} → Firsts seen [] []
  old : {t : A} {seen ts ns : List A} → Memᴰ t seen → Firsts seen ts ns → Firsts seen (t ∷ ts) ns
  new : {t : A} {seen ts ns : List A} → (Memᴰ t seen → ⊥) → Firsts (seen ++ (t ∷ [])) ts ns → Firsts seen (t ∷ ts) (t ∷ ns)

abbrev pub all : {A B : Type 0} → (A → List B) → List A → List B
all f [] = []
all f (x ∷ xs) = f x ++ all f xs

-- where an entry leads, symbols upward
abbrev pub targets : {A : Type 0} → (A → ℕ → Option A) → List ℕ → A → List A
targets step [] a = []
targets step (x ∷ xs) a = elim (step a x) [ none ↦ targets step xs a | some t ↦ t ∷ targets step xs a ]

-- `entries` lists what is found from `start`: first occurrences in the order of finding, and each but the start is
-- found from an earlier one
pub record Found {A : Type 0} (targets : A → List A) (start : A) (entries : List A) : Type 0 where
  pub in_order : Firsts [] (start ∷ all targets entries) entries
  pub earlier : (before after : List A) (e : A) → entries ≡ before ++ (e ∷ after) → before ≢ [] → Memᴰ e (all targets before)

-- the moves of entry i, symbols upward: each target by its number among the entries
pub data Row {A : Type 0} (entries : List A) (step : ℕ → Option A) (i : ℕ) : List ℕ → List Arrow → Type 0 where
  end : Row entries step i [] []
  pass : {x : ℕ} {xs : List ℕ} {ms : List Arrow} → step x ≡ none → Row entries step i xs ms → Row entries step i (x ∷ xs) ms
  go : {x j : ℕ} {xs : List ℕ} {ms : List Arrow} (t : A) → step x ≡ some t → get_elem? entries j ≡ some t → Row entries step i xs ms → Row entries step i (x ∷ xs) ((i, x, j) ∷ ms)

-- entries by number, from i on, and for each its moves
pub data Rows {A : Type 0} (entries : List A) (step : A → ℕ → Option A) (symbols : List ℕ) : ℕ → List A → List Arrow → Type 0 where
  end : {i : ℕ} → Rows entries step symbols i [] []
  row : {i : ℕ} {a : A} {bs : List A} {ms ns : List Arrow} → Row entries (step a) i symbols ms → Rows entries step symbols (i + 1) bs ns → Rows entries step symbols i (a ∷ bs) (ms ++ ns)

-- the entries found from `start` by `step`, as numbered, with their moves
pub record Numbered {A : Type 0} (step : A → ℕ → Option A) (symbols : List ℕ) (start : A) (entries : List A) (moves : List Arrow) : Type 0 where
  pub found : Found (targets step symbols) start entries
  pub rows : Rows entries step symbols 0 entries moves
