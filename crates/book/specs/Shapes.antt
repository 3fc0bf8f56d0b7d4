-- What shape tells.
use Rattle.std.specs.Prelude.{◌≡◌, ℕ, ◌<◌, List, [], ◌∷◌, ◌++◌, Ok, Err, Decides, Result}
use Rattle.std.specs.List.{AllByRecursion}
use Rattle.book.specs.declared.fault.BookFault.{BookFault}
use Rattle.book.specs.declared.linear.Linearity.{Linearity}
use Rattle.book.specs.Grammar.{Grammar, LeftLinear, RightLinear}
use Rattle.book.specs.Refusals.{refusal}
use Rattle.book.specs.Tables.{Holds}
use Rattle.book.specs.Flaws.{TableFault}

-- only the first symbol of a right side may be a name
abbrev pub LeftSide : ℕ → List ℕ → Type 0
LeftSide words side = (x : ℕ) (rest : List ℕ) → side ≡ x ∷ rest → AllByRecursion (λ y. y < words) rest

-- only the last symbol of a right side may be a name
abbrev pub RightSide : ℕ → List ℕ → Type 0
RightSide words side = (x : ℕ) (beginning : List ℕ) → side ≡ beginning ++ (x ∷ []) → AllByRecursion (λ y. y < words) beginning

-- both facts of the grammar that the table holds, or the table's first fault
abbrev pub Shaped : List ℕ → Result Linearity BookFault → Type 0
Shaped t (Ok s) = (g : Grammar) × Holds t g × Decides s.left (LeftLinear g) × Decides s.right (RightLinear g)
Shaped t (Err f) = TableFault t (refusal f)
