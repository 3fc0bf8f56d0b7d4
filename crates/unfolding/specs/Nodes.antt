-- Rows of the node table and the nodes that they stand for, and where nodes lead.
use Rattle.std.specs.Prelude.{ℕ, List, map}
use Rattle.finding.specs.Finding.{Search}
use Rattle.finding.specs.Numbered.{Arrow}
use Rattle.theory.specs.Policies.{Class, Meaning}
use Rattle.theory.specs.Unfolding.{Node as MeantNode, node, onward}
use Rattle.policy.specs.Classes.{Room, class_at, HasPlace}
use Rattle.unfolding.specs.declared.node.Node.{Node}

abbrev pub class_number : Node → ℕ
class_number e = e.class.0

-- the node that a row stands for: its state, and the class of its number among the classes held
abbrev pub node_of : List Class → Node → MeantNode
node_of held e = node e.state.0 (class_at held (class_number e))

abbrev pub nodes_of : List Class → List Node → List MeantNode
nodes_of held es = map (node_of held) es

-- nodes lead where their states lead, to the next class; a new node has a place where its class is one of the nodes' or a new one with a place
abbrev pub node_search : Meaning → Room → List Arrow → ℕ → Search MeantNode
node_search m room moves symbols =
    record { step = onward m moves; room = λ found new. HasPlace room (map (λ n. n.class) found) new.class; symbols = symbols }
