-- How sets of nodes grow by jumps.
use Rattle.std.specs.Prelude.{◌≡◌, ℕ, ◌<◌, ◌≤◌, ◌⊎◌, List, [], Some, None, Option}
use mathlib.Core.List.{Memᴰ}
use Rattle.std.proofs.Math.Option.{none, some}
use Rattle.table.specs.Lists.{InOrder}
use Rattle.table.specs.Sets.{In}
use Rattle.finding.specs.Numbered.{Arrow}
use Rattle.theory.specs.Flattening.{Acceptor, JumpLess}
use Rattle.theory.specs.Sentences.{Reads}
use Rattle.theory.specs.Subsets.{subset_step}

-- a set, and the members that are fresh, grew by some of what To holds of: what is new to the set is fresh
pub record Grown (To : ℕ → Type 0) (set fresh set' fresh' : List ℕ) : Type 0 where
  pub kept : (k : ℕ) → In set k → In set' k
  pub only : (k : ℕ) → In set' k → In set k ⊎ To k
  pub still_fresh : (k : ℕ) → In fresh k → In fresh' k
  pub new_fresh : (k : ℕ) → In set' k → In set k ⊎ In fresh' k
  pub fresh_new : (k : ℕ) → In fresh' k → In fresh k ⊎ (In set' k × (In set k → ⊥))

-- a jump leads to k from some node of the row
abbrev pub FromAny : List (ℕ × ℕ) → List ℕ → ℕ → Type 0
FromAny jumps row k = (q : ℕ) × In row q × Memᴰ (q, k) jumps

-- the jumps of the nodes that were fresh are taken; those are fresh that are new to the set
pub record Wave (jumps : List (ℕ × ℕ)) (set fresh set' fresh' : List ℕ) : Type 0 where
  pub kept : (k : ℕ) → In set k → In set' k
  pub only : (k : ℕ) → In set' k → In set k ⊎ FromAny jumps fresh k
  pub new_fresh : (k : ℕ) → In set' k → In set k ⊎ In fresh' k
  pub fresh_new : (k : ℕ) → In fresh' k → In set' k × (In set k → ⊥)
  pub taken : InOrder JumpLess jumps → (k : ℕ) → FromAny jumps fresh k → k < 4096 → In set' k

-- jumps lead to k from some node of the row
pub record JumpedFrom (f : Acceptor) (row : List ℕ) (k : ℕ) : Type 0 where
  pub from : ℕ
  pub member : In row from
  pub reads : Reads f from [] k

-- an arc on x leads to k from some node of the row
abbrev pub OverWord : List Arrow → List ℕ → ℕ → ℕ → Type 0
OverWord arcs row x k = (q : ℕ) × In row q × Memᴰ (q, x, k) arcs

-- the least word that is `from` or more on which a set of nodes moves
abbrev pub NextWord : Acceptor → List ℕ → ℕ → Option ℕ → Type 0
NextWord f set from None = (x : ℕ) → from ≤ x → subset_step f set x ≡ none
NextWord f set from (Some y) =
    (from ≤ y) × (y < f.words) × ((x : ℕ) → from ≤ x → x < y → subset_step f set x ≡ none) × ((to : List ℕ) × (subset_step f set y ≡ some to))
