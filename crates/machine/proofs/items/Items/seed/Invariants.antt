use Rattle.std.proofs.Common.{◌≡◌, ℕ, ◌<◌, List}
use Rattle.book.specs.Grammar.{Grammar}
use Rattle.table.specs.Sets.{In}
use Rattle.theory.specs.Closure.{Closed}
use Rattle.machine.specs.Closing.{ItemsOf, Within}
use Rattle.machine.proofs.items.Items.seed.Given as goal

abbrev pub invariant-loop-item : goal.invariant-loop-item
invariant-loop-item l =
    (l.item-iterator.words ≡ l.kernel.words)
    × ((k : ℕ) → k < l.item-iterator.from → In l.kernel.words k → In l.at.set.words k)
    × ((g : Grammar) (K : List ℕ) → ItemsOf g l.self → ((k : ℕ) → In l.kernel.words k → Closed g K k) → Within g K l.at)
