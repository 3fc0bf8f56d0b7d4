-- The right sides of rules as the items spell them, and the jumps that they give.
use Rattle.std.specs.Prelude.{◌≡◌, ℕ, ◌+◌, ◌-◌, ◌<◌, ◌≤◌, ◌⊎◌, ◌↔◌, List, [], ◌∷◌, map, slice_index}
use mathlib.Core.List.{Memᴰ}
use Rattle.table.specs.declared.numbers.NodeNo.{NodeNo}
use Rattle.finding.specs.declared.moves.Move.{Move}
use Rattle.finding.specs.Numbered.{Arrow}
use Rattle.finding.specs.Finding.{arrow}
use Rattle.theory.specs.Flattening.{Leads}
use Rattle.machine.specs.declared.items.Items.{Items}
use Rattle.machine.specs.Index.{Chain}
use Rattle.flattening.specs.declared.jump.Jump.{Jump}
use Rattle.flattening.specs.declared.kept.JumpTable.{JumpTable}
use Rattle.flattening.specs.Orders.{pair}
use Rattle.flattening.specs.Keeping.{Keeps}

-- moves between nodes as plain numbers
abbrev pub plain : Move NodeNo → Arrow
plain m = arrow (λ n. n.0) m

abbrev pub arrows : List (Move NodeNo) → List Arrow
arrows moves = map (arrow (λ n. n.0)) moves

-- the symbols after the dots from item k on are xs, and then none follows
pub data Spells (after : List ℕ) : ℕ → List ℕ → Type 0 where
  end : {k : ℕ} → k < 4096 → slice_index after k ≡ 65535 → Spells after k []
  more : {k x : ℕ} {xs : List ℕ} → k < 4096 → slice_index after k ≡ x → x < 65535 → Spells after (k + 1) xs → Spells after k (x ∷ xs)

-- the moves lead from q to p over the right side of the rule whose first item is n
pub record Ends (after : List ℕ) (moves : List Arrow) (q n p : ℕ) : Type 0 where
  pub side : List ℕ
  pub spells : Spells after n side
  pub leads : Leads moves q side p

-- the rules of the name of the move m, by their first items, and where the node left leads over each of them
pub record Opened (items : Items) (moves : List Arrow) (m : Arrow) : Type 0 where
  pub numbers : List ℕ
  pub known : m.1 - items.words < 1024
  pub chain : Chain items.next (slice_index items.head (m.1 - items.words)) numbers
  pub ends : (n : ℕ) → Memᴰ n numbers → (p : ℕ) × Ends items.after moves m.0 n p

-- a rule of these gives the jump j: from where the node left leads over it, to where m leads
pub record Gives (after : List ℕ) (moves : List Arrow) (m : Arrow) (numbers : List ℕ) (j : ℕ × ℕ) : Type 0 where
  pub first : ℕ
  pub among : Memᴰ first numbers
  pub ends : Ends after moves m.0 first j.0
  pub to : j.1 ≡ m.2

-- the table keeps what was found, and the jumps that P names
pub record PutMore (found : List Jump) (P : ℕ × ℕ → Type 0) (t : JumpTable) : Type 0 where
  pub jumps : List Jump
  pub keeps : Keeps jumps t
  pub are : (j : Jump) → Memᴰ j jumps ↔ (Memᴰ j found ⊎ P (pair j))

-- one of the moves `some` is over a name, and a rule of that name gives the jump j
pub record Given (items : Items) (moves some : List Arrow) (j : ℕ × ℕ) : Type 0 where
  pub move : Arrow
  pub among : Memᴰ move some
  pub named : items.words ≤ move.1
  pub numbers : List ℕ
  pub chain : Chain items.next (slice_index items.head (move.1 - items.words)) numbers
  pub gives : Gives items.after moves move numbers j

-- each move over a name has the rules of the name, and ways over them
abbrev pub AllOpened : Items → List Arrow → Type 0
AllOpened items moves = (m : Arrow) → Memᴰ m moves → items.words ≤ m.1 → Opened items moves m
