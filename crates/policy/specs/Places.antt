-- Entries in 4,096 places: what is found among them, and what is added.
use Rattle.std.specs.Prelude.{◌≡◌, ℕ, ◌<◌, ◌≤◌, List, [], ◌∷◌, ◌++◌, length, Some, None, Option}
use Rattle.table.specs.Lists.{StandsAt, Lacks}
use Rattle.table.specs.declared.numbers.ClassNo.{ClassNo}

-- 4,096 rows, of which the first n are in use
abbrev pub Fixed : {E : Type 0} → List E → ℕ → Type 0
Fixed rows n = (length rows ≡ 4096) × (n ≤ 4096)

-- find-or-add of e among the entries es: its number, if it has one or a place is free, and the entries then
pub data Placed {E : Type 0} (es : List E) (e : E) : Option ClassNo → List E → Type 0 where
  old : {j : ClassNo} → StandsAt es j.0 e → Placed es e (Some j) es
  new : {j : ClassNo} → j.0 ≡ length es → Lacks es e → length es < 4096 → Placed es e (Some j) (es ++ (e ∷ []))
  full : Lacks es e → 4096 ≤ length es → Placed es e None es

-- the number that find-or-add would give
abbrev pub Placeable : {E : Type 0} → List E → E → Option ClassNo → Type 0
Placeable {E} es e r = (es' : List E) × Placed es e r es'

-- the entry of number i, if there is one
abbrev pub EntryAt : {E : Type 0} → List E → ℕ → Option E → Type 0
EntryAt es i None = length es ≤ i
EntryAt es i (Some e) = StandsAt es i e
