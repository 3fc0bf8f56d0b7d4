-- The flattened acceptor of a grammar under a policy.
use Rattle.std.specs.Prelude.{◌≡◌, ℕ, ◌+◌, ◌*◌, ◌<◌, ◌⊎◌, ◌↔◌, List, [], ◌∷◌, length, nat_lt}
use mathlib.Core.List.{Memᴰ}
use Rattle.book.specs.Grammar.{Grammar, symbols, Rewrites}
use Rattle.finding.specs.Numbered.{Arrow}
use Rattle.finding.specs.Laws.{Rises}
use Rattle.table.specs.Lists.{InOrder}
use Rattle.theory.specs.Lists.{keep}
use Rattle.theory.specs.Machine.{Machine}
use Rattle.theory.specs.Policies.{Meaning}
use Rattle.theory.specs.Unfolding.{Node, Unfolded, NodeHolds, FinalNode}

-- how many words and nodes there are, the final node, the arcs (from, word, to) and the jumps (from, to)
pub record Acceptor : Type 0 where
  pub words : ℕ
  pub nodes : ℕ
  pub final : ℕ
  pub arcs : List Arrow
  pub jumps : List (ℕ × ℕ)

-- how many bytes the acceptor's file has
abbrev pub file_length : Acceptor → ℕ
file_length f = 15 + 6 * length f.arcs + 4 * length f.jumps

-- the moves on words, in their order
abbrev pub word_moves : ℕ → List Arrow → List Arrow
word_moves words moves = keep (λ a. nat_lt a.1 words) moves

-- moves lead from one number to another over a list of symbols
pub data Leads (moves : List Arrow) : ℕ → List ℕ → ℕ → Type 0 where
  here : {p : ℕ} → Leads moves p [] p
  on : {q r p x : ℕ} {xs : List ℕ} → Memᴰ (q, x, r) moves → Leads moves r xs p → Leads moves q (x ∷ xs) p

-- p holds a completed rule, some node leads over its right side to p, and that node moves over its left to `to`
pub record Jump (g : Grammar) (states : List (List ℕ)) (nodes : List Node) (moves : List Arrow) (p to : ℕ) : Type 0 where
  pub left : ℕ
  pub side : List ℕ
  pub from : ℕ
  pub rewrites : Rewrites g left side
  pub item : NodeHolds g states nodes p left side []
  pub leads : Leads moves from side p
  pub over : Memᴰ (from, left, to) moves

-- the same found going forward: a node holds a rule with its dot in front, leads over its right side, and moves over its left
pub record ForwardJump (g : Grammar) (states : List (List ℕ)) (nodes : List Node) (moves : List Arrow) (p to : ℕ) : Type 0 where
  pub left : ℕ
  pub side : List ℕ
  pub from : ℕ
  pub rewrites : Rewrites g left side
  pub item : NodeHolds g states nodes from left [] side
  pub leads : Leads moves from side p
  pub over : Memᴰ (from, left, to) moves

-- jumps can be found going forward from the nodes that hold a rule with its dot in front
pub record JumpLaws (g : Grammar) (states : List (List ℕ)) (nodes : List Node) (moves : List Arrow) : Type 0 where
  pub forward : (p to : ℕ) → Jump g states nodes moves p to ↔ ForwardJump g states nodes moves p to
  -- such a node always moves over the rule's name
  pub moves_over : (q a : ℕ) (side : List ℕ) → NodeHolds g states nodes q a [] side → Rewrites g a side → (to : ℕ) × Memᴰ (q, a, to) moves
  -- and leads over the rule's right side to nodes that hold the completed rule
  pub completes : (q p a : ℕ) (side : List ℕ) → NodeHolds g states nodes q a [] side → Leads moves q side p → NodeHolds g states nodes p a side []
  -- a node that moves over a name leads over the right side of each of its rules, to the completed rule
  pub leads_over : (q a to : ℕ) (side : List ℕ) → Rewrites g a side → Memᴰ (q, a, to) moves → (p : ℕ) × Leads moves q side p
  pub over_completes : (q p a to : ℕ) (side : List ℕ) → Rewrites g a side → Leads moves q side p → Memᴰ (q, a, to) moves → NodeHolds g states nodes p a side []

-- by the node left, then the node reached
abbrev pub JumpLess : ℕ × ℕ → ℕ × ℕ → Type 0
JumpLess a b = (a.0 < b.0) ⊎ ((a.0 ≡ b.0) × (a.1 < b.1))

-- the acceptor of an unfolded machine: its arcs are the moves on words, its jumps stand for the completed rules
pub record FlattenedFrom (g : Grammar) (states : List (List ℕ)) (nodes : List Node) (moves : List Arrow) (f : Acceptor) : Type 0 where
  pub words_are : f.words ≡ g.words
  pub nodes_are : f.nodes ≡ length nodes
  pub final_is : FinalNode states nodes f.final
  pub arcs_are : (q x p : ℕ) → Memᴰ (q, x, p) f.arcs ↔ (Memᴰ (q, x, p) moves × (x < g.words))
  pub arcs_rise : InOrder Rises f.arcs
  pub jumps_are : (p to : ℕ) → Memᴰ (p, to) f.jumps ↔ Jump g states nodes moves p to
  pub jumps_rise : InOrder JumpLess f.jumps

-- f is the flattened acceptor of the grammar g under a policy that means m
pub record Flattened (g : Grammar) (m : Meaning) (f : Acceptor) : Type 0 where
  pub states : List (List ℕ)
  pub moves : List Arrow
  pub nodes : List Node
  pub unfolded_moves : List Arrow
  pub machine : Machine g states moves
  pub unfolded : Unfolded m moves (symbols g) nodes unfolded_moves
  pub flat : FlattenedFrom g states nodes unfolded_moves f
