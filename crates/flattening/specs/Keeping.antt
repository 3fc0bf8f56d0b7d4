-- What the table of jumps keeps.
use Rattle.std.specs.Prelude.{◌≡◌, ℕ, ◌≤◌, ◌↔◌, List, length, take, Some, None, Ok, Err, Option, Result}
use mathlib.Core.List.{Memᴰ}
use Rattle.table.specs.Lists.{StandsAt, Lacks, InOrder}
use Rattle.flattening.specs.declared.fault.JumpFault.{JumpFault}
use Rattle.flattening.specs.declared.jump.Jump.{Jump}
use Rattle.flattening.specs.declared.kept.JumpTable.{JumpTable}
use Rattle.flattening.specs.Orders.{Before}
use Rattle.flattening.specs.Places.{PlaceOf}

-- what stands in the list at place k, if it is so long
abbrev pub At : {A : Type 0} → List A → ℕ → Option A → Type 0
At ts k None = length ts ≤ k
At ts k (Some t) = StandsAt ts k t

-- `all` lists the jumps found, each once, in order; the table has the first of them, as many as it may, and knows the next
pub record Keeps (found : List Jump) (t : JumpTable) : Type 0 where
  pub all : List Jump
  pub rising : InOrder Before all
  pub are : (j : Jump) → Memᴰ j all ↔ Memᴰ j found
  pub rows_are : take t.len t.rows.now ≡ take t.limit all
  pub next : At all t.limit t.beyond

-- every row that may be used holds a jump that comes before j
abbrev pub PastRows : JumpTable → Jump → Type 0
PastRows t j = (t.len ≡ t.limit) × ((k : ℕ) (r : Jump) → StandsAt (take t.len t.rows.now) k r → Before r j)

-- j stands in no row, and its place is i
abbrev pub New : JumpTable → Jump → ℕ → Type 0
New t j i = PlaceOf Before (take t.len t.rows.now) j i × Lacks (take t.len t.rows.now) j

-- how many rows are in use, or where the jump comes from that has no row
abbrev pub Counted : JumpTable → Result ℕ JumpFault → Type 0
Counted t (Ok n) = (t.beyond ≡ None) × (n ≡ t.len)
Counted t (Err f) = (j : Jump) × (t.beyond ≡ Some j) × (f.from ≡ j.from)
