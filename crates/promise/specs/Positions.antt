-- Positions of a turn: a set of nodes of a flattened acceptor, or a state of a determinised one, or none.
use Rattle.std.specs.Prelude.{ℕ, Bool, false, List, [], ◌∷◌, nat_eq, slice_index_or}
use Rattle.std.proofs.Math.Option.{Option, none, some}
use Rattle.theory.specs.Lists.{any}
use Rattle.theory.specs.Unfolding.{along}
use Rattle.theory.specs.Subsets.{first_set, word_set, Determined}
use Rattle.promise.specs.Acceptors.{Automaton}
use Rattle.promise.specs.Acceptors.Automaton.{flat, subset}

-- a set is the ascending list of its members
pub data Position : Type 0 where
  nodes : List ℕ → Position
  state : Option ℕ → Position

abbrev pub first_position : Automaton → Position
first_position (flat f) = nodes (first_set f)
first_position (subset d) = state (some 0)

-- where a state leads on a word
abbrev pub next_state : Determined → Option ℕ → ℕ → Option ℕ
next_state d none x = none
next_state d (some i) x = along d.arcs i x

-- where a position leads on a word; a position of the other kind leads nowhere
abbrev pub next_position : Automaton → Position → ℕ → Position
next_position (flat f) (nodes set) x = nodes (word_set f set x)
next_position (flat f) (state o) x = nodes []
next_position (subset d) (nodes set) x = state none
next_position (subset d) (state o) x = state (next_state d o x)

abbrev pub is_final : Determined → Option ℕ → Bool
is_final d none = false
is_final d (some i) = slice_index_or d.finals i false

-- whether a sentence that ends here is passed
abbrev pub says_yes : Automaton → Position → Bool
says_yes (flat f) (nodes set) = any (nat_eq f.final) set
says_yes (flat f) (state o) = false
says_yes (subset d) (nodes set) = false
says_yes (subset d) (state o) = is_final d o

-- where words lead from a position
abbrev pub position_from : Automaton → Position → List ℕ → Position
position_from a p [] = p
position_from a p (x ∷ w) = position_from a (next_position a p x) w

-- where words lead from the first position
abbrev pub position_after : Automaton → List ℕ → Position
position_after a w = position_from a (first_position a) w
