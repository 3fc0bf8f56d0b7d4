use Rattle.std.proofs.Common.{add-one, arith}
use Rattle.promise.specs.States.{retired}
use Rattle.session.specs.View.{turn_of, kind_of}
use Rattle.session.proofs.Lists.{map_on}
use Rattle.session.proofs.record.retire.Goals as goal

pub loop-turn-preserved : goal.loop-turn-preserved
loop-turn-preserved c =
    rw add-one
    (map_on turn_of (retired (kind_of c.args.kind)) c.loop-turn.turns c.args.turns.now c.loop-turn.turn-index c.retired.result _ (omega arith)
    c.loop-turn.invariant c.retired.ensures)
