use Rattle.std.proofs.Common.{refl, arith}
use Rattle.acceptor.specs.Turns.Tells.{begins, no_word, no_end, unknown, takes, judges}
use Rattle.acceptor.proofs.Telling.{tells_as, tells_kept}
use Rattle.acceptor.proofs.turn.tell.Goals as goal

pub returns-in_default-Begin : goal.returns-in_default-Begin
returns-in_default-Begin g c = tells_as refl c.in_default-Begin.is-1 (begins (λ k. (c.first.ensures.starts k, c.first.ensures.begins k)))

pub returns-in-Unbegun-Word : goal.returns-in-Unbegun-Word
returns-in-Unbegun-Word g c = tells_kept c.in-Unbegun-Word.is-0 c.in-Unbegun-Word.is-1 no_word

pub returns-in-Unbegun-End : goal.returns-in-Unbegun-End
returns-in-Unbegun-End g c = tells_kept c.in-Unbegun-End.is-0 c.in-Unbegun-End.is-1 no_end

pub returns-then-word-words : goal.returns-then-word-words
returns-then-word-words g c =
    tells_kept c.in-Open-Word.is-0 c.in-Open-Word.is-1 (unknown (omega arith))

pub returns-else-word-words : goal.returns-else-word-words
returns-else-word-words g c =
    tells_as c.in-Open-Word.is-0 c.in-Open-Word.is-1 (takes (omega arith) (λ k. (c.step.ensures.goes k, c.step.ensures.steps k)))

pub returns-in-Open-End : goal.returns-in-Open-End
returns-in-Open-End g c =
    tells_as c.in-Open-End.is-0 c.in-Open-End.is-1
    (judges c.end-verdict.ensures (λ k. (c.first-in-Open-End.ensures.starts k, c.first-in-Open-End.ensures.begins k)))
