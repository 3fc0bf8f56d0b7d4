-- What flattening answers of an unfolded machine.
use Rattle.std.specs.Prelude.{◌≡◌, ℕ, ◌≤◌, ◌↔◌, List, map, length, take, Ok, Err, Result}
use mathlib.Core.List.{Memᴰ}
use Rattle.book.specs.declared.fault.Refusal.{Refusal}
use Rattle.book.specs.Grammar.{Grammar, symbols}
use Rattle.table.specs.Lists.{StandsAt, InOrder}
use Rattle.finding.specs.Numbered.{Arrow}
use Rattle.theory.specs.Machine.{Machine}
use Rattle.theory.specs.Policies.{Meaning}
use Rattle.theory.specs.Unfolding.{Node, Unfolded}
use Rattle.theory.specs.Flattening.{Acceptor, Jump as JumpFrom, JumpLess, word_moves, FlattenedFrom}
use Rattle.machine.specs.declared.items.Items.{Items}
use Rattle.machine.specs.Closing.{ItemsOf}
use Rattle.flattening.specs.declared.jump.Jump.{Jump}
use Rattle.flattening.specs.declared.fault.JumpFault.{JumpFault}
use Rattle.flattening.specs.declared.flat.FlatSummary.{FlatSummary}
use Rattle.flattening.specs.Orders.{pair}

-- the items are those of a grammar, and the moves those of its machine, unfolded under a policy
pub record Unfolding (items : Items) (moves : List Arrow) : Type 0 where
  pub grammar : Grammar
  pub items_of : ItemsOf grammar items
  pub states : List (List ℕ)
  pub state_moves : List Arrow
  pub machine : Machine grammar states state_moves
  pub meaning : Meaning
  pub nodes : List Node
  pub unfolded : Unfolded meaning state_moves (symbols grammar) nodes moves

-- `all` lists the jumps between the nodes, each once, in order
pub record JumpsOf (g : Grammar) (states : List (List ℕ)) (nodes : List Node) (moves : List Arrow) (all : List (ℕ × ℕ)) : Type 0 where
  pub rising : InOrder JumpLess all
  pub are : (p to : ℕ) → Memᴰ (p, to) all ↔ JumpFrom g states nodes moves p to

-- a refusal of the flattening's layer, by number and place
abbrev pub told : ℕ → ℕ → Refusal
told n p = record { number = n; layer = 4; place = p }

-- the refusal that a fault stands for
abbrev pub refusal : JumpFault → Refusal
refusal f = told 15 f.from.0

-- the rows hold all jumps, at most as many as the limit; or there are more, and the fault is at the first too many
abbrev pub Told : ℕ → List (ℕ × ℕ) → Result ℕ JumpFault → List Jump → Type 0
Told limit all (Ok n) rows = (n ≡ length all) × (n ≤ limit) × (map pair (take n rows) ≡ all)
Told limit all (Err f) rows = (j : ℕ × ℕ) × StandsAt all limit j × (refusal f ≡ told 15 j.0)

-- what is answered of the jumps, with the rows as they then are
pub record JumpsFound (g : Grammar) (states : List (List ℕ)) (nodes : List Node) (moves : List Arrow) (limit : ℕ) (r : Result ℕ JumpFault) (rows : List Jump) : Type 0 where
  pub all : List (ℕ × ℕ)
  pub of : JumpsOf g states nodes moves all
  pub answer : Told limit all r rows

-- the acceptor of moves between nodes, with its final node and the jumps of the first rows
abbrev pub acceptor : Grammar → List Node → List Arrow → FlatSummary → List Jump → Acceptor
acceptor g nodes moves s rows =
    record { words = g.words; nodes = length nodes; final = s.final_node.0; arcs = word_moves g.words moves; jumps = map pair (take s.jumps rows) }

-- the rows hold the jumps of the flattened acceptor, and the summary counts its arcs and jumps
pub record FlatIn (g : Grammar) (states : List (List ℕ)) (nodes : List Node) (moves : List Arrow) (limit : ℕ) (s : FlatSummary) (rows : List Jump) : Type 0 where
  pub flat : FlattenedFrom g states nodes moves (acceptor g nodes moves s rows)
  pub arcs_counted : s.arcs ≡ length (word_moves g.words moves)
  pub jumps_counted : s.jumps ≡ length (map pair (take s.jumps rows))
  pub few : s.jumps ≤ limit

-- what is answered of the acceptor; it is refused only for its jumps
abbrev pub FlatFound : Grammar → List (List ℕ) → List Node → List Arrow → ℕ → Result FlatSummary JumpFault → List Jump → Type 0
FlatFound g states nodes moves limit (Ok s) rows = FlatIn g states nodes moves limit s rows
FlatFound g states nodes moves limit (Err f) rows = JumpsFound g states nodes moves limit (Err f) rows
