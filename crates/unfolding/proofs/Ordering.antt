-- The moves of a machine stand as the unfolding wants them.
use Rattle.std.proofs.Common.{ℕ, ◌≤◌, List}
use Rattle.book.specs.Grammar.{Grammar, symbols}
use Rattle.finding.specs.Numbered.{Arrow}
use Rattle.finding.proofs.Laws.{numbered_laws, upto_ascending, upto_below}
use Rattle.theory.specs.Machine.{Machine}
use Rattle.unfolding.specs.Moves.{Ordered}

pub machine_ordered : (g : Grammar) {states : List (List ℕ)} {moves : List Arrow} → Machine g states moves → symbols g ≤ 2048 → Ordered moves (symbols g)
machine_ordered g mt few =
    let laws = numbered_laws mt (upto_ascending (symbols g)) in
    record { rising = laws.rising; below = λ m h. upto_below (symbols g) m.1 (laws.only m h).symbol; few = few }
