use Rattle.std.proofs.Common.{ℕ, ◌+◌, ◌<◌, List}
use mathlib.Core.List.{Memᴰ}
use Rattle.book.specs.Grammar.{Grammar}
use Rattle.book.specs.Tables.{Name}
use Rattle.machine.specs.Closing.{ItemsOf, AfterDot, Within, Grown, ToOpen}
use Rattle.machine.proofs.items.Items.open_name.Given as goal

abbrev pub invariant-loop-item : goal.invariant-loop-item
invariant-loop-item l =
    Grown l.initial.at l.at × ((j : ℕ) → Memᴰ j l.item-iterator → j < 4096)
    × ((g : Grammar) → ItemsOf g l.self → Name g (g.words + l.name) → ToOpen g (g.words + l.name) l.item-iterator l.at.set.words)
    × ((g : Grammar) (K : List ℕ) → ItemsOf g l.self → Name g (g.words + l.name) → AfterDot g K (g.words + l.name) → Within g K l.initial.at → Within g K l.at)
