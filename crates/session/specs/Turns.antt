-- The turns of a session by number.
use Rattle.std.specs.Prelude.{◌≡◌, ℕ, ◌<◌, ◌≤◌, true, false, List, [], ◌∷◌, ◌++◌, length, Some, None, Option as Maybe}
use Rattle.std.proofs.Math.Option.{some}
use Rattle.std.proofs.Math.ListN.{get_elem?}
use Rattle.promise.specs.States.{Turn}
use Rattle.session.specs.declared.record.Standing.{Standing}
use Rattle.session.specs.View.{stands_on, stands_at}

-- a turn that stands here, in use
abbrev pub in_use : Standing → Turn
in_use at = record { kind = stands_on at; live = true; at = stands_at at }

-- the turn of number i is in use and stands here, or it is not there or no longer in use
abbrev pub Found : List Turn → ℕ → Maybe Standing → Type 0
Found turns i None = (u : Turn) → get_elem? turns i ≡ some u → u.live ≡ false
Found turns i (Some at) = get_elem? turns i ≡ some (in_use at)

-- one turn more, whose number is that of the turns before it; or as many turns as have a place are there, and stay as they are
abbrev pub Added : List Turn → ℕ → Turn → Maybe ℕ → List Turn → Type 0
Added turns places u None turns' = (places ≤ length turns) × (turns' ≡ turns)
Added turns places u (Some n) turns' = (n ≡ length turns) × (length turns < places) × (turns' ≡ turns ++ (u ∷ []))
