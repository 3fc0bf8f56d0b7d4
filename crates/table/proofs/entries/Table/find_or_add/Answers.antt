use Rattle.std.proofs.Common.{arith}
use native.Mathlib.Nat.{sub-zero}
use Rattle.table.specs.Found.FoundOrAdded.{old, new, full}
use Rattle.table.proofs.Found.{distinct_after}
use Rattle.table.proofs.entries.Table.find_or_add.Goals as goal

pub returns-in-Some-clause-found : goal.returns-in-Some-clause-found
returns-in-Some-clause-found g c = old (simp sub-zero at c.in-Some.ensures)

pub returns-then-len-rows-clause-found : goal.returns-then-len-rows-clause-found
returns-then-len-rows-clause-found g c = full (simp sub-zero at c.in_default.ensures) (omega arith)

pub returns-clause-found : goal.returns-clause-found
returns-clause-found g c = new (simp sub-zero at c.in_default.ensures) (omega arith)

pub returns-clause-distinct : goal.returns-clause-distinct
returns-clause-distinct g c = distinct_after (returns-clause-found g c)
