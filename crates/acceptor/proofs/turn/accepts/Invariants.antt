use Rattle.std.proofs.Common.{take}
use Rattle.acceptor.specs.Turns.{StandsAfter}
use Rattle.acceptor.proofs.turn.accepts.Given as goal

-- the turn stands after the words so far
abbrev pub invariant-loop-word : goal.invariant-loop-word
invariant-loop-word g l = StandsAfter g.A.Acceptor l.acceptor (take l.word-index l.sentence) l.turn
