-- The moves of a machine as they are listed, and where those of a state begin.
use Rattle.std.specs.Prelude.{◌≡◌, ℕ, ◌<◌, ◌≤◌, List, map, Some, None, Option}
use Rattle.std.proofs.Math.Option.{none, some}
use mathlib.Core.List.{Memᴰ}
use Rattle.table.specs.Lists.{InOrder}
use Rattle.table.specs.declared.numbers.StateNo.{StateNo}
use Rattle.finding.specs.declared.moves.Move.{Move}
use Rattle.finding.specs.Finding.{arrow}
use Rattle.finding.specs.Laws.{Rises}
use Rattle.finding.specs.Numbered.{Arrow}
use Rattle.theory.specs.Unfolding.{along}

-- the machine's moves as plain numbers
abbrev pub state_arrow : Move StateNo → Arrow
state_arrow m = arrow (λ s. s.0) m

abbrev pub state_arrows : List (Move StateNo) → List Arrow
state_arrows ms = map state_arrow ms

-- moves as a machine lists them: rising by the state left, then by the symbol, on symbols below a number
pub record Ordered (moves : List Arrow) (symbols : ℕ) : Type 0 where
  pub rising : InOrder Rises moves
  pub below : (m : Arrow) → Memᴰ m moves → m.1 < symbols
  pub few : symbols ≤ 2048

-- the least symbol that is `from` or more on which state s moves
abbrev pub LeastSymbol : List Arrow → ℕ → ℕ → Option ℕ → Type 0
LeastSymbol moves s from None = (x : ℕ) → from ≤ x → along moves s x ≡ none
LeastSymbol moves s from (Some y) =
    (from ≤ y) × ((x : ℕ) → from ≤ x → x < y → along moves s x ≡ none) × ((t : ℕ) × (along moves s y ≡ some t))
