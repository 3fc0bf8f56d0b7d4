use Rattle.std.proofs.Common.{ℕ, ◌-◌, ◌≤◌, List, length}
use Rattle.book.specs.Grammar.{Grammar}
use Rattle.machine.specs.Closing.{ItemsOf, Within, Grown, OpenedTo}
use Rattle.machine.proofs.items.Items.open_all.Given as goal

abbrev pub invariant-loop-name : goal.invariant-loop-name
invariant-loop-name l =
    Grown l.initial.at l.at × (l.i ≤ length l.at.names)
    × ((g : Grammar) (K : List ℕ) → ItemsOf g l.self → Within g K l.initial.at → Within g K l.at × OpenedTo g l.i l.at)

abbrev pub decreases-loop-name : goal.decreases-loop-name
decreases-loop-name l = 1024 - l.i
