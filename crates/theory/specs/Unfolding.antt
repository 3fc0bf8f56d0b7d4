-- The unfolded machine: a node is a state with a class of stacks, numbered in finding order.
use Rattle.std.specs.Prelude.{◌≡◌, ℕ, ◌<◌, true, false, List, [], ◌∷◌, length, ◌==◌}
use Rattle.std.proofs.Math.Option.{Option, none, some}
use mathlib.Core.List.{Memᴰ}
use Rattle.std.proofs.Math.ListN.{get_elem?}
use Rattle.book.specs.Grammar.{Grammar, symbols}
use Rattle.finding.specs.Numbered.{Arrow, upto, Numbered}
use Rattle.theory.specs.Lists.{and}
use Rattle.theory.specs.Machine.{Holds, FinalState}
use Rattle.theory.specs.Policies.{Class, Meaning, Stacked}

-- where a state moves on a symbol
abbrev pub along : List Arrow → ℕ → ℕ → Option ℕ
along [] s x = none
along ((q, y, p) ∷ moves) s x = elim (and (q == s) (y == x)) [ true ↦ some p | false ↦ along moves s x ]

-- a state and the class of the stacks that lead to the node
pub record Node : Type 0 where
  pub state : ℕ
  pub class : Class

abbrev pub node : ℕ → Class → Node
node s c = record { state = s; class = c }

-- a node moves where its state moves, to the next class
abbrev pub onward : Meaning → List Arrow → Node → ℕ → Option Node
onward m moves n x = elim (along moves n.state x) [ none ↦ none | some t ↦ some (node t (m.next n.class n.state x t)) ]

-- the nodes are all that are found from state 0 with the empty stack's class, on the symbols below a number
abbrev pub Unfolded : Meaning → List Arrow → ℕ → List Node → List Arrow → Type 0
Unfolded m moves symbols nodes unfolded_moves = Numbered (onward m moves) (upto symbols) (node 0 m.first) nodes unfolded_moves

-- the state of node number p holds the item a → l · r
pub record NodeHolds (g : Grammar) (states : List (List ℕ)) (nodes : List Node) (p a : ℕ) (l r : List ℕ) : Type 0 where
  pub its : Node
  pub at : get_elem? nodes p ≡ some its
  pub holds : Holds g states its.state a l r

-- node number p is a node of the final state
pub record FinalNode (states : List (List ℕ)) (nodes : List Node) (p : ℕ) : Type 0 where
  pub its : Node
  pub at : get_elem? nodes p ≡ some its
  pub final : FinalState states its.state

-- a stack leads to node number p, with its class
pub record StackOf (m : Meaning) (moves : List Arrow) (nodes : List Node) (p : ℕ) : Type 0 where
  pub its : Node
  pub at : get_elem? nodes p ≡ some its
  pub stack : List (ℕ × ℕ)
  pub stacked : Stacked moves m stack its.state its.class

-- what the flattening relies on
pub record UnfoldingLaws (g : Grammar) (m : Meaning) (states : List (List ℕ)) (moves : List Arrow) (nodes : List Node) (unfolded_moves : List Arrow) : Type 0 where
  -- node 0 is state 0 with the empty stack's class, and no other node has state 0
  pub zeroth : get_elem? nodes 0 ≡ some (node 0 m.first)
  pub zero_alone : (p : ℕ) (n : Node) → get_elem? nodes p ≡ some n → n.state ≡ 0 → p ≡ 0
  -- each node is reached by a stack with its class
  pub stacks : (p : ℕ) → p < length nodes → StackOf m moves nodes p
  -- the final state has one node
  pub final : (p : ℕ) × Memᴰ (0, g.start, p) unfolded_moves × FinalNode states nodes p
  pub final_one : (p q : ℕ) → FinalNode states nodes p → FinalNode states nodes q → p ≡ q
  -- a machine has one unfolding under a policy
  pub one : (others : List Node) (arrows : List Arrow) → Unfolded m moves (symbols g) others arrows → (nodes ≡ others) × (unfolded_moves ≡ arrows)
