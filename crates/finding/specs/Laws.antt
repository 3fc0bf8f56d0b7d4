-- What holds of every numbering in finding order.
use Rattle.std.specs.Prelude.{◌≡◌, ℕ, ◌<◌, ◌⊎◌, List, [], ◌∷◌, ◌++◌}
use Rattle.std.proofs.Math.Option.{Option, some}
use mathlib.Core.List.{Memᴰ}
use Rattle.table.specs.Lists.{StandsAt, Distinct, InOrder}
use Rattle.finding.specs.Numbered.{Arrow, Numbered}

-- steps on these symbols, one after the other, lead from a to here
pub data Along {A : Type 0} (step : A → ℕ → Option A) (symbols : List ℕ) (a : A) : List ℕ → A → Type 0 where
  here : Along step symbols a [] a
  on : {xs : List ℕ} {x : ℕ} {b c : A} → Along step symbols a xs b → Memᴰ x symbols → step b x ≡ some c → Along step symbols a (xs ++ (x ∷ [])) c

-- the move stands for a step from an entry to an entry
pub record MoveOf {A : Type 0} (step : A → ℕ → Option A) (symbols : List ℕ) (es : List A) (m : Arrow) : Type 0 where
  pub from : A
  pub to : A
  pub from_at : StandsAt es m.0 from
  pub symbol : Memᴰ m.1 symbols
  pub steps : step from m.1 ≡ some to
  pub to_at : StandsAt es m.2 to

-- by the entry left, then by the symbol
abbrev pub Rises : Arrow → Arrow → Type 0
Rises m n = (m.0 < n.0) ⊎ ((m.0 ≡ n.0) × (m.1 < n.1))

pub record Laws {A : Type 0} (step : A → ℕ → Option A) (symbols : List ℕ) (start : A) (es : List A) (ms : List Arrow) : Type 0 where
  -- entry 0 is the start, and no entry stands twice
  pub first : StandsAt es 0 start
  pub distinct : Distinct es
  -- the entries are just what steps reach from the start
  pub reached : (k : ℕ) (e : A) → StandsAt es k e → (xs : List ℕ) × Along step symbols start xs e
  pub complete : (xs : List ℕ) (e : A) → Along step symbols start xs e → (k : ℕ) × StandsAt es k e
  -- there is a move for each step of an entry, and no other, in rising order
  pub has : (i x : ℕ) (a t : A) → StandsAt es i a → Memᴰ x symbols → step a x ≡ some t → (j : ℕ) × Memᴰ (i, x, j) ms × StandsAt es j t
  pub only : (m : Arrow) → Memᴰ m ms → MoveOf step symbols es m
  pub rising : InOrder Rises ms
  -- there is no other numbering
  pub unique : (es' : List A) (ms' : List Arrow) → Numbered step symbols start es' ms' → (es ≡ es') × (ms ≡ ms')
