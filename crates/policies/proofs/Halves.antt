-- The two policies under both, as a push asks them.
use Rattle.std.proofs.Common.{◌≡◌, ℕ, false, List, Some, Option, arith}
use Rattle.std.specs.Option.{is_some}
use Rattle.table.specs.Lists.{StandsAt, Distinct}
use Rattle.table.specs.declared.numbers.ClassNo.{ClassNo}
use Rattle.theory.specs.Policies.{Class, left_class, right_class}
use Rattle.theory.specs.Policies.Class.{pair}
use Rattle.policy.specs.declared.stacks.Policy.{Ghosts as Policy}
use Rattle.policy.specs.declared.stacks.Push.{Push}
use Rattle.policy.specs.Classes.{class_at, Taken}
use Rattle.policy.specs.Places.{EntryAt}
use Rattle.policy.proofs.Placing.{entry_past}
use Rattle.policy.proofs.Tracking.{Step, step}
use Rattle.policies.specs.declared.both.Pair.{Pair}
use Rattle.policies.specs.Pairs.{first_number, second_number, pair_classes, pair_room, Paired}
use Rattle.policies.specs.Pairing.{Below, below, pairs_length, at_left, at_right, Fresh, fresh}

-- a policy with what it holds
abbrev pub half : {S : Type 0} (p : Policy S) → Push → (s : S) → Distinct (p.held s) → Below
half p push s distinct = below (p.room (p.kind s)) (p.meaning (p.kind s)) push (p.held s) distinct

module _ (P Q : Below) (rs : List Pair) (p : Paired P.held Q.held rs) (i : ℕ) (r : Pair) (at : StandsAt rs i r) where
  -- each half takes its class
  pub left_step : (a : ClassNo) {cs : List Class} → Taken P.room P.held P.onward (first_number r) (Some a) cs
      → Step P.room P.held (P.onward (class_at P.held (first_number r))) a.0 cs
  left_step = step P.room P.held P.onward (first_number r) P.distinct (at_left P Q rs p i r at)

  pub right_step : (b : ClassNo) {ds : List Class} → Taken Q.room Q.held Q.onward (second_number r) (Some b) ds
      → Step Q.room Q.held (Q.onward (class_at Q.held (second_number r))) b.0 ds
  right_step = step Q.room Q.held Q.onward (second_number r) Q.distinct (at_right P Q rs p i r at)

  -- a pair whose number is that of no row is new, and has a place
  pub new_pair : {j : ClassNo} {h : List Class} (row : Option Pair)
      → Taken (pair_room P.room Q.room) (pair_classes P.held Q.held rs) (λ x. pair (P.onward (left_class x)) (Q.onward (right_class x))) i (Some j) h
      → EntryAt rs j.0 row → is_some row ≡ false → Fresh P Q rs p i r at
  new_pair {j} row t e none = fresh P Q rs p i r at t (omega (arith, pairs_length P.held Q.held rs, entry_past rs j.0 row e none))
