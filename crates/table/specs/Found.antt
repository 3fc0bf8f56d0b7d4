-- What the find-or-add table answers.
use Rattle.std.specs.Prelude.{ℕ, ◌+◌, ◌<◌, ◌≤◌, List, length, take, Some, None, Option, slice_set}
use Rattle.table.specs.Lists.{StandsAt, Lacks}

-- the place of e among the rows, or none where it stands nowhere
abbrev pub Looked : {E : Type 0} → List E → E → Option ℕ → Type 0
Looked rows e None = Lacks rows e
Looked rows e (Some i) = StandsAt rows i e

-- find-or-add of e in a table whose entries are the first n rows: the answer, and the rows and the count of entries after it
pub data FoundOrAdded {E : Type 0} (rows : List E) (n : ℕ) (e : E) : Option ℕ → List E → ℕ → Type 0 where
  old : {i : ℕ} → StandsAt (take n rows) i e → FoundOrAdded rows n e (Some i) rows n
  new : Lacks (take n rows) e → n < length rows → FoundOrAdded rows n e (Some n) (slice_set rows n e) (n + 1)
  full : Lacks (take n rows) e → length rows ≤ n → FoundOrAdded rows n e None rows n
