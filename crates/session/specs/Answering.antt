-- What every call of a session promises.
use Rattle.std.specs.Prelude.{◌∷◌}
use Rattle.promise.specs.States.{State}
use Rattle.promise.specs.Calls.{Call, Answer}
use Rattle.promise.specs.Steps.{Step}
use Rattle.promise.specs.Histories.{Start, History, Reached, InOrder}
use Rattle.promise.specs.Promises.{Promise}

-- the call gets this answer and leaves this state
pub record Answered (s : State) (c : Call) (a : Answer) (s' : State) : Type 0 where
  -- as its step says, where all is in order, as it is from blank on
  pub step : InOrder s → Step s c a s'
  -- after any list of calls from a blank book it is one more of them, and the promise is kept with it
  pub reached : (o : Start) (h : History) → Reached o h s → Reached o ((c, a) ∷ h) s'
  pub promise : (o : Start) (h : History) → Reached o h s → Promise o ((c, a) ∷ h) s'
