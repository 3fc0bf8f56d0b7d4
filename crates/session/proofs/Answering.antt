-- From a call's step to what the call promises.
use Rattle.std.proofs.Common.{◌∷◌}
use Rattle.promise.specs.States.{State}
use Rattle.promise.specs.Calls.{Call, Answer}
use Rattle.promise.specs.Steps.{Step}
use Rattle.promise.specs.Histories.{Start, History, Reached, InOrder}
use Rattle.promise.specs.Histories.Reached.{after}
use Rattle.promise.proofs.Keeping.{kept}
use Rattle.session.specs.Answering.{Answered}

pub answers : {s s' : State} {c : Call} {a : Answer} → (InOrder s → Step s c a s') → Answered s c a s'
answers {s} {s'} {c} {a} step =
    record { step = step; reached = on; promise = λ o h r. kept o ((c, a) ∷ h) s' (on o h r) }
  where
    on : (o : Start) (h : History) → Reached o h s → Reached o ((c, a) ∷ h) s'
    on o h r = after r (step (kept o h s r).in_order)
