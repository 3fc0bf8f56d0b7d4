-- The session's view after its parts have changed.
use Rattle.std.proofs.Common.{◌≡◌, ℕ, true, List, [], ◌∷◌, ◌++◌, map, take, sym, ap, ◌∙◌}
use Rattle.std.proofs.lemmas.List.{take-map}
use Rattle.promise.specs.Acceptors.{Kind}
use Rattle.promise.specs.Acceptors.Kind.{pga, pgd}
use Rattle.promise.specs.States.{Slot, Turn, State, retired, open_slot, unbegun, with_turn}
use Rattle.session.specs.View.{turn_of, with_opening}
use Rattle.session.specs.declared.record.Turn.{Turn as Record}

-- the turns of a table whose records were all retired are retired, and as many have a place
pub retired_turns : (k : Kind) (n : ℕ) (xs ys : List Record) → map turn_of xs ≡ map (retired k) (map turn_of ys) → map turn_of (take n xs) ≡ map (retired k) (map turn_of (take n ys))
retired_turns k n xs ys e =
    sym (take-map turn_of n xs) ∙ ap (take n) e ∙ take-map (retired k) n (map turn_of ys) ∙ ap (map (retired k)) (take-map turn_of n ys)

-- a state by its parts
abbrev state_of : List ℕ → Slot → Slot → List Turn → ℕ → State
state_of book a d turns places = record { book = book; pga = a; pgd = d; turns = turns; places = places }

-- one more turn, and the file of its kind is open
pub added_by : (k : Kind) (s : State) (turns : List Turn) (places : ℕ) → turns ≡ s.turns ++ (unbegun k ∷ []) → places ≡ s.places
    → with_opening k true (state_of s.book s.pga s.pgd turns places) ≡ with_turn k s
added_by pga s turns places e p i = state_of s.book (open_slot s.pga) s.pgd (e i) (p i)
added_by pgd s turns places e p i = state_of s.book s.pga (open_slot s.pgd) (e i) (p i)
