use Rattle.std.proofs.Common.{◌<◌, ◌≤◌, length, Option}
use Rattle.table.specs.declared.numbers.ClassNo.{ClassNo}
use Rattle.policy.specs.Entries.{entries}
use Rattle.policy.specs.Paths.{paths, Met}
use Rattle.policy.proofs.path.Path.class_after.Given as goal

-- what is held and met from here is held and met from the class
abbrev pub invariant-loop-link : goal.invariant-loop-link
invariant-loop-link l =
    let ls = entries l.self.links in
    (l.at.0 < length ls → l.class.0 < length ls)
    × (length ls ≤ l.at.0 → length ls ≤ l.class.0)
    × ((r : Option ClassNo) → Met (paths ls) l.at.0 l.reached.0 r → Met (paths ls) l.class.0 l.reached.0 r)

abbrev pub decreases-loop-link : goal.decreases-loop-link
decreases-loop-link l = l.at.0
