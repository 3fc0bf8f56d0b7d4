-- What a space answers of its entries, and what a search answers with its tables.
use Rattle.std.specs.Prelude.{◌≡◌, ℕ, ◌<◌, ◌≤◌, List, [], ◌∷◌, ◌++◌, map, length, take, Some, None, Option, Result, MatchResult}
use Rattle.std.proofs.Math.Option.{none, some}
use Rattle.table.specs.Lists.{StandsAt, Lacks}
use Rattle.finding.specs.declared.moves.Count.{Count}
use Rattle.finding.specs.declared.moves.Move.{Move}
use Rattle.finding.specs.declared.moves.Stop.{Stop}
use Rattle.finding.specs.Finding.{Search, Bounded, arrow, Whole, Refused, Fits}
use Rattle.finding.specs.Laws.{Laws}
use Rattle.finding.specs.Numbered.{Arrow, upto}

-- the thing a moves on x
abbrev pub Moves : {A : Type 0} → Search A → A → ℕ → Type 0
Moves {A} s a x = (x < s.symbols) × ((t : A) × (s.step a x ≡ some t))

-- a does not move on the symbols from `from` on and below `to`
abbrev pub Rests : {A : Type 0} → Search A → A → ℕ → ℕ → Type 0
Rests s a from to = (x : ℕ) → from ≤ x → x < to → s.step a x ≡ none

-- the least symbol that is `from` or more on which a moves
abbrev pub LeastMove : {A : Type 0} → Search A → A → ℕ → Option ℕ → Type 0
LeastMove s a from None = Rests s a from s.symbols
LeastMove s a from (Some y) = (from ≤ y) × (y < 65535) × Rests s a from y × Moves s a y

-- the space answers by an entry a for the thing t, or has no place for it; `before` and `after` tell what an entry
-- stands for, and `ready` what the space then stands ready for
abbrev pub Reached : {E A : Type 0} → (E → A) → (E → A) → (List E → Type 0) → (List A → A → Type 0) → List E → A → Option E → Type 0
Reached before after ready room es t None = Lacks (map before es) t × (room (map before es) t → ⊥)
Reached before after ready room es t (Some a) =
    (after a ≡ t) × (map after es ≡ map before es) × ((j : ℕ) → StandsAt es j a → ready es)
    × (Lacks es a → Lacks (map before es) t × room (map before es) t × ready (es ++ (a ∷ [])))

-- the tables hold as many entries and moves as counted, and the space stands ready for those entries
pub record Held {E N : Type 0} (ready : List E → Type 0) (rows : List E) (moves : List (Move N)) (c : Count) : Type 0 where
  pub entries_fit : c.entries ≤ length rows
  pub moves_fit : c.moves ≤ length moves
  pub is_ready : ready (take c.entries rows)

-- what a search from `start` answers: the whole numbering, as the tables then show it, or what refuses it; and nothing else is possible
pub record Answered {E A N : Type 0} (b : Bounded A) (start : A) (thing : E → A) (value : N → ℕ) (rows : List E) (moves : List (Move N)) (r : Result Count Stop) : Type 0 where
  pub found : MatchResult r (λ c. Whole b start (map thing (take c.entries rows)) (map (arrow value) (take c.moves moves))) (λ stop. Refused b start stop)
  -- the numbering fits; or it is refused, and then no numbering fits
  pub fits : MatchResult r
      (λ c. Fits b start (map thing (take c.entries rows)) (map (arrow value) (take c.moves moves)))
      (λ _. (es : List A) (ms : List Arrow) → Fits b start es ms → ⊥)
  pub laws : MatchResult r
      (λ c. Laws b.sought.step (upto b.sought.symbols) start (map thing (take c.entries rows)) (map (arrow value) (take c.moves moves)))
      (λ _. Unit {0})
  pub only : MatchResult r (λ _. (stop : Stop) → Refused b start stop → ⊥) (λ s. (stop : Stop) → Refused b start stop → stop ≡ s)
