-- The promise is kept in every state that calls lead to.
use Rattle.std.proofs.Common.{◌≡◌, ℕ, false, List, [], sym, refl, subst, ◌∷◌}
use mathlib.Core.Option.{none}
use Rattle.promise.specs.Acceptors.{Kind}
use Rattle.promise.specs.Acceptors.Kind.{pga, pgd}
use Rattle.promise.specs.States.{Slot, State}
use Rattle.promise.specs.Histories.{Start, Fresh, empty_slot, History, Reached, InOrder}
use Rattle.promise.specs.Histories.Reached.{fresh, after}
use Rattle.promise.specs.Tallies.{tally}
use Rattle.promise.specs.Leaving.{SlotAs, TurnAs, Each, LeftAs}
use Rattle.promise.specs.Leaving.Filled.{no_byte}
use Rattle.promise.specs.Leaving.Each.{no_more}
use Rattle.promise.specs.Promises.{Kept, Promise}
use Rattle.promise.proofs.Ordering.{start_in_order, step_in_order}
use Rattle.promise.proofs.Leaving.{left_step}
use Rattle.promise.proofs.Answering.{due_step}
use Rattle.promise.proofs.Judging.{judged_step}
use Rattle.promise.specs.Calls.{Call, Answer}
use Rattle.promise.specs.Steps.{Step}

-- a buffer without a byte of a file is as the first tally says
empty_as : (k : Kind) (lent : List ℕ) {s : Slot} → s ≡ empty_slot lent → SlotAs k lent (record { note = none; opened = false }) s
empty_as k lent e = subst (SlotAs k lent (record { note = none; opened = false })) (sym e) (record { as_long = refl; opened = refl; filled = no_byte })

pub start_left : (o : Start) (s : State) → Fresh o s → LeftAs o (tally o []) s
start_left o s f =
    record {
      book = f.blanked.is;
      fit = f.blanked.holds.fit;
      pga = empty_as pga o.pga f.pga;
      pgd = empty_as pgd o.pgd f.pgd;
      turns = subst (Each (TurnAs (tally o [])) []) (sym f.turns) no_more;
      places = f.places;
    }

pub kept : Kept
kept o h s (fresh f) = record { answers = tt; leaves = start_left o s f; in_order = start_in_order o s f }
kept o h s (after {h = before} {s = was} reached step) =
    let p = kept o before was reached in
    record {
      answers = (record { due = due_step o (tally o before) p.leaves p.in_order step; judged = judged_step o (tally o before) p.leaves step }, p.answers);
      leaves = left_step o (tally o before) p.leaves step;
      in_order = step_in_order p.in_order step;
    }

-- what holds of the state before a call, and of the one after it
pub in_order : {o : Start} {h : History} {s : State} → Reached o h s → InOrder s
in_order {o} {h} {s} r = (kept o h s r).in_order

pub kept_on : {o : Start} {h : History} {s s' : State} {c : Call} {a : Answer} → Reached o h s → Step s c a s' → Promise o ((c, a) ∷ h) s'
kept_on {o} {h} {s' = s'} {c} {a} r t = kept o ((c, a) ∷ h) s' (after r t)
