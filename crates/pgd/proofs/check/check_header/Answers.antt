use Rattle.fields.specs.Flaws.{front}
use Rattle.fields.specs.Flaws.First.{here, later}
use Rattle.fields.proofs.Judging.{passed_on, first_left, first_right}
use Rattle.pgd.proofs.check.check_header.Goals as goal

pub returns-in_err-words : goal.returns-in_err-words
returns-in_err-words c =
    rw (passed_on c.from_residual.ensures.1) (first_left _ c.in_err-words.ensures _)

pub returns-in_err-states : goal.returns-in_err-states
returns-in_err-states c =
    rw (passed_on c.from_residual-in_err-states.ensures.1)
    (first_right _ (front _) c.in_ok-words.ensures.0 (here c.in_err-states.ensures))

pub returns-in_err-arcs : goal.returns-in_err-arcs
returns-in_err-arcs c =
    rw (passed_on c.from_residual-in_err-arcs.ensures.1)
    (first_right _ (front _) c.in_ok-words.ensures.0 (later c.in_ok-states.ensures.0 (here c.in_err-arcs.ensures)))
