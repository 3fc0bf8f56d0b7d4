-- Pairs of classes by pairs of numbers.
use Rattle.std.specs.Prelude.{ℕ, Bool, true, false, List, [], ◌∷◌, ◌++◌, map, length, nat_lt}
use Rattle.table.specs.Lists.{Distinct}
use Rattle.finding.specs.Numbered.{Arrow}
use Rattle.theory.specs.Executable.{same_class}
use Rattle.theory.specs.Lists.{and, or, any}
use Rattle.theory.specs.Policies.{Class, Meaning, left_class, right_class, both, Finer}
use Rattle.theory.specs.Policies.Class.{pair}
use Rattle.policy.specs.Classes.{Room, class_at, Tracks}
use Rattle.policies.specs.declared.both.Pair.{Pair}

abbrev pub pair_of : ℕ → ℕ → Pair
pair_of a b = record { first = record { 0 = a }; second = record { 0 = b } }

-- the numbers of a pair
abbrev pub first_number : Pair → ℕ
first_number r = r.first.0

abbrev pub second_number : Pair → ℕ
second_number r = r.second.0

-- the pair of classes that a pair of numbers stands for
abbrev pub pair_class : List Class → List Class → Pair → Class
pair_class cs ds r = pair (class_at cs (first_number r)) (class_at ds (second_number r))

abbrev pub pair_classes : List Class → List Class → List Pair → List Class
pair_classes cs ds rs = map (pair_class cs ds) rs

-- the classes of a list that were not seen before, each where it first stands
abbrev pub first_classes : List Class → List Class → List Class
first_classes seen [] = []
first_classes seen (c ∷ cs) = elim (any (same_class c) seen) [ true ↦ first_classes seen cs | false ↦ c ∷ first_classes (seen ++ (c ∷ [])) cs ]

-- whether c is held or has a place, where just the classes of some things are held, in the order of the things
abbrev pub has_place : Room → List Class → Class → Bool
has_place room classes c = or (any (same_class c) (first_classes [] classes)) (room (first_classes [] classes) c)

-- a new pair has a place where one is free and each half is held below or has a place there
abbrev pub pair_room : Room → Room → Room
pair_room first second held c =
    and (nat_lt (length held) 4096) (and (has_place first (map left_class held) (left_class c)) (has_place second (map right_class held) (right_class c)))

-- the pairs of numbers are distinct, and below just their halves are held
pub record Paired (cs ds : List Class) (rs : List Pair) : Type 0 where
  pub left : Tracks first_number cs rs
  pub right : Tracks second_number ds rs
  pub distinct : Distinct rs

-- over any moves, the pair is finer than each half
pub record FinerThanHalves (m n : Meaning) : Type 0 where
  pub left : (moves : List Arrow) → Finer moves (both m n) m
  pub right : (moves : List Arrow) → Finer moves (both m n) n
