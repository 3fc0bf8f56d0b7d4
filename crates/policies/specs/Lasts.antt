-- The last states left, as lists.
use Rattle.std.specs.Prelude.{ℕ, List, [], ◌∷◌, map}
use Rattle.theory.specs.Policies.{Class}
use Rattle.theory.specs.Policies.Class.{states}
use Rattle.policies.specs.declared.last.Depth.{Depth}
use Rattle.policies.specs.declared.last.Depth.TheVariants.{One, Two, Three, Four}
use Rattle.policies.specs.declared.last.Lefts.{Lefts}
use Rattle.policies.specs.declared.last.Lefts.TheVariants.{Zero as none, One as one, Two as two, Three as three, Four as four}

abbrev pub depth_of : Depth → ℕ
depth_of One = 1
depth_of Two = 2
depth_of Three = 3
depth_of Four = 4

-- the states, the newest first
abbrev pub lefts : Lefts → List ℕ
lefts none = []
lefts (one a) = a.0 ∷ []
lefts (two a b) = a.0 ∷ (b.0 ∷ [])
lefts (three a b c) = a.0 ∷ (b.0 ∷ (c.0 ∷ []))
lefts (four a b c d) = a.0 ∷ (b.0 ∷ (c.0 ∷ (d.0 ∷ [])))

abbrev pub last_class : Lefts → Class
last_class e = states (lefts e)

abbrev pub last_classes : List Lefts → List Class
last_classes es = map last_class es
