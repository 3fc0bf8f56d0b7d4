-- What unfolding answers and leaves.
use Rattle.std.specs.Prelude.{ℕ, ◌<◌, ◌≤◌, min, List, map, length, take, Ok, Err, Result}
use Rattle.book.specs.declared.fault.Refusal.{Refusal}
use Rattle.table.specs.declared.numbers.NodeNo.{NodeNo}
use Rattle.finding.specs.declared.moves.Count.{Count}
use Rattle.finding.specs.declared.moves.Move.{Move}
use Rattle.finding.specs.declared.moves.Stop.TheVariants.{Room as NoRoom, Entry as NoEntry, Arrow as NoArrow}
use Rattle.finding.specs.Finding.{arrow, Bounded, within, Whole, Refused}
use Rattle.finding.specs.Numbered.{Arrow}
use Rattle.theory.specs.Policies.{Class, Meaning}
use Rattle.theory.specs.Unfolding.{Node as MeantNode, node, Unfolded, StackOf}
use Rattle.policy.specs.Classes.{Room, Tracks}
use Rattle.unfolding.specs.declared.fault.UnfoldingFault.{UnfoldingFault}
use Rattle.unfolding.specs.declared.node.Node.{Node}
use Rattle.unfolding.specs.Nodes.{class_number, nodes_of, node_search}
use Rattle.unfolding.specs.Refusals.{told, refusal}

-- the unfolded moves as plain numbers
abbrev pub node_arrows : List (Move NodeNo) → List Arrow
node_arrows ms = map (arrow (λ n. n.0)) ms

-- state 0 with the empty stack's class
abbrev pub first_node : Meaning → MeantNode
first_node m = node 0 m.first

-- at most 4,096 nodes and 16,384 unfolded moves; a shorter table is the limit instead
unfoldable pub limits : Meaning → Room → List Arrow → ℕ → ℕ → ℕ → Bounded MeantNode
limits m room moves symbols nodes arrows = within (node_search m room moves symbols) (min nodes 4096) (min arrows 16384)

-- why there is no unfolded machine: the first obstacle in finding order, at one move the class before the node before the move
pub data UnfoldingRefusal (m : Meaning) (room : Room) (moves : List Arrow) (symbols nodes arrows : ℕ) : Refusal → Type 0 where
  class_unfit : (n : ℕ) → Refused (limits m room moves symbols nodes arrows) (first_node m) (NoRoom n) → UnfoldingRefusal m room moves symbols nodes arrows (told 12 n)
  node_limit : (n : ℕ) → Refused (limits m room moves symbols nodes arrows) (first_node m) (NoEntry n) → UnfoldingRefusal m room moves symbols nodes arrows (told 13 n)
  move_limit : (q n : ℕ) → Refused (limits m room moves symbols nodes arrows) (first_node m) (NoArrow q n) → UnfoldingRefusal m room moves symbols nodes arrows (told 14 n)

-- the tables hold the unfolded machine, by the classes that the policy holds
pub record UnfoldedIn (m : Meaning) (room : Room) (moves : List Arrow) (symbols : ℕ) (held : List Class) (rows : List Node) (arrows : List (Move NodeNo)) (c : Count) : Type 0 where
  pub nodes_fit : c.entries ≤ min (length rows) 4096
  pub moves_fit : c.moves ≤ min (length arrows) 16384
  pub unfolded : Unfolded m moves symbols (nodes_of held (take c.entries rows)) (node_arrows (take c.moves arrows))
  -- every class, node and move had a place
  pub placed : Whole (limits m room moves symbols (length rows) (length arrows)) (first_node m) (nodes_of held (take c.entries rows)) (node_arrows (take c.moves arrows))
  -- the policy holds the nodes' classes and no other
  pub classes : Tracks class_number held (take c.entries rows)
  -- each node is reached by a stack with its class
  pub stacks : (p : ℕ) → p < c.entries → StackOf m moves (nodes_of held (take c.entries rows)) p

abbrev pub Unfolds : Meaning → Room → List Arrow → ℕ → ℕ → ℕ → Result Count UnfoldingFault → List Class → List Node → List (Move NodeNo) → Type 0
Unfolds m room moves symbols nodes arrows (Ok c) held rows unfolded = UnfoldedIn m room moves symbols held rows unfolded c
Unfolds m room moves symbols nodes arrows (Err f) held rows unfolded = UnfoldingRefusal m room moves symbols nodes arrows (refusal f)
