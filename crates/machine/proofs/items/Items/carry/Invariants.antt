use Rattle.std.proofs.Common.{◌≡◌, ℕ, suc, ◌<◌, get_or}
use Rattle.table.specs.Sets.{In}
use Rattle.machine.proofs.items.Items.carry.Given as goal

abbrev pub invariant-loop-item : goal.invariant-loop-item
invariant-loop-item l =
    (l.item-iterator.words ≡ l.set.words)
    × ((j : ℕ) → In l.carried.words j → (i : ℕ) × In l.set.words i × (get_or l.self.after i 0 ≡ l.symbol) × (j ≡ suc i))
    × ((i : ℕ) → i < l.item-iterator.from → In l.set.words i → get_or l.self.after i 0 ≡ l.symbol → suc i < 4096 → In l.carried.words (suc i))
