use Rattle.std.proofs.Common.{◌≡◌, ◌++◌, map, take, drop}
use Rattle.promise.specs.States.{retired}
use Rattle.session.specs.View.{turn_of, kind_of}
use Rattle.session.proofs.record.retire.Given as goal

abbrev pub invariant-loop-turn : goal.invariant-loop-turn
invariant-loop-turn l =
    map turn_of l.turns ≡ map (retired (kind_of l.kind)) (map turn_of (take l.turn-index l.initial.turns)) ++ map turn_of (drop l.turn-index l.initial.turns)
