use Rattle.std.proofs.Common.{◌≡◌, ℕ, ◌<◌, get_or}
use Rattle.book.specs.Reading.{rules_in}
use Rattle.machine.specs.Index.{Falls}
use Rattle.machine.proofs.IndexWalk.{Filled}
use Rattle.machine.proofs.items.Items.of.Given as goal

abbrev pub invariant-loop-rule : goal.invariant-loop-rule
invariant-loop-rule l =
    (l.items.words ≡ l.book.words)
    × Filled l.table l.book (rules_in l.rule-iterator.count l.rule-iterator.entries.now) l.first l.items.after l.items.head l.items.next
    × ((n : ℕ) → get_or l.items.head n 0 < l.first)
    × ((n : ℕ) → get_or l.items.head n 0 < 4096)
    × Falls l.items.next
