use Rattle.std.proofs.Common.{◌+◌, ◌-◌, min, length}
use Rattle.table.specs.Sets.{members}
use Rattle.pga.specs.Files.{Fit}
use Rattle.acceptor.specs.Flats.{acceptor_of}
use Rattle.acceptor.proofs.Spreading.{Spreading}
use Rattle.acceptor.proofs.flat.Flat.spread.Given as goal

abbrev pub invariant-loop-reached : goal.invariant-loop-reached
invariant-loop-reached l = Fit (acceptor_of l.self) → Spreading (acceptor_of l.self) l.initial.reached.set.words l.reached.set.words l.reached.fresh.words

-- each wave finds a node that is new, or is the last
abbrev pub decreases-loop-reached : goal.decreases-loop-reached
decreases-loop-reached l = (4096 - length (members l.reached.set.words)) + min 1 (length (members l.reached.fresh.words))
