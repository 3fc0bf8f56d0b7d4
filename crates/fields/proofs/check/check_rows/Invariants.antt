use Rattle.std.specs.List.{AllByRecursion}
use Rattle.fields.specs.Flaws.{Passes, rows}
use Rattle.fields.proofs.check.check_rows.Given as goal

abbrev pub invariant-loop-k : goal.invariant-loop-k
invariant-loop-k l = AllByRecursion (Passes l.file) (rows l.start l.limits l.k)
