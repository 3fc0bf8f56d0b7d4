use Rattle.fields.specs.Flaws.{front}
use Rattle.fields.specs.Flaws.First.{here, later}
use Rattle.fields.proofs.Judging.{passed_on, first_left, first_right}
use Rattle.pga.proofs.check.check_header.Goals as goal

pub returns-in_err-words : goal.returns-in_err-words
returns-in_err-words c =
    rw (passed_on c.from_residual.ensures.1) (first_left _ c.in_err-words.ensures _)

pub returns-in_err-nodes : goal.returns-in_err-nodes
returns-in_err-nodes c =
    rw (passed_on c.from_residual-in_err-nodes.ensures.1)
    (first_right _ (front _) c.in_ok-words.ensures.0 (here c.in_err-nodes.ensures))

pub returns-in_err-final_node : goal.returns-in_err-final_node
returns-in_err-final_node c =
    let nodes = c.in_ok-nodes.ensures in
    let final = rw nodes.1 at c.in_err-final_node.ensures in
    rw (passed_on c.from_residual-in_err-final_node.ensures.1)
    (first_right _ (front _) c.in_ok-words.ensures.0 (later nodes.0 (here final)))

pub returns-in_err-arcs : goal.returns-in_err-arcs
returns-in_err-arcs c =
    let nodes = c.in_ok-nodes.ensures in
    let final = rw nodes.1 at c.in_ok-final_node.ensures.0 in
    rw (passed_on c.from_residual-in_err-arcs.ensures.1)
    (first_right _ (front _) c.in_ok-words.ensures.0 (later nodes.0 (later final (here c.in_err-arcs.ensures))))

pub returns-in_err-jumps : goal.returns-in_err-jumps
returns-in_err-jumps c =
    let nodes = c.in_ok-nodes.ensures in
    let final = rw nodes.1 at c.in_ok-final_node.ensures.0 in
    let arcs = c.in_ok-arcs.ensures.0 in
    rw (passed_on c.from_residual-in_err-jumps.ensures.1)
    (first_right _ (front _) c.in_ok-words.ensures.0 (later nodes.0 (later final (later arcs (here c.in_err-jumps.ensures)))))
