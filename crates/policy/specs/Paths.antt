-- Lists of states by links: each link adds a state to the list of the link behind it.
use Rattle.std.specs.Prelude.{ℕ, ◌<◌, ◌≤◌, List, [], ◌∷◌, ◌++◌, map, length, Some, None, Option, slice_index_or}
use mathlib.Core.List.{Memᴰ}
use Rattle.table.specs.Lists.{StandsAt, Distinct}
use Rattle.table.specs.declared.numbers.ClassNo.{ClassNo}
use Rattle.theory.specs.Policies.{Class, cut_after}
use Rattle.theory.specs.Policies.Class.{states}
use Rattle.policy.specs.declared.path.Link.{Link}
use Rattle.policy.specs.declared.path.After.{After}
use Rattle.policy.specs.declared.path.After.TheVariants.{Held, New}

abbrev pub link : ℕ → ℕ → Link
link b s = record { back = record { 0 = b }; state = record { 0 = s } }

-- the list that a link stands for, after the lists of the links before it
abbrev pub along : List (List ℕ) → Link → List ℕ
along before l = slice_index_or before l.back.0 [] ++ (l.state.0 ∷ [])

abbrev pub grown : List (List ℕ) → List Link → List (List ℕ)
grown before [] = before
grown before (l ∷ ls) = grown (before ++ (along before l ∷ [])) ls

-- the lists of states that links stand for, one for each
abbrev pub paths : List Link → List (List ℕ)
paths ls = grown [] ls

-- and as classes
abbrev pub path_classes : List Link → List Class
path_classes ls = map states (paths ls)

-- links as a policy keeps them: a root of state 0, each other behind a later one, and no state twice on the way
pub record Chained (ls : List Link) : Type 0 where
  pub root : StandsAt ls 0 (link 0 0)
  pub behind : (k : ℕ) (l : Link) → StandsAt ls k l → 0 < k → l.back.0 < k
  pub simple : (k : ℕ) (ss : List ℕ) → StandsAt (paths ls) k ss → Distinct ss
  pub distinct : Distinct (paths ls)

-- where the list of number i meets the state t, the number of the list cut after t
abbrev pub Met : List (List ℕ) → ℕ → ℕ → Option ClassNo → Type 0
Met ps i t None = (ss : List ℕ) → StandsAt ps i ss → Memᴰ t ss → ⊥
Met ps i t (Some j) = (ss : List ℕ) → StandsAt ps i ss → Memᴰ t ss × StandsAt ps j.0 (cut_after ss t)

-- the class after the one numbered i, as the state t is reached: the one held where the way meets t, or that of a new link; none where i is no class
pub data NextClass (ls : List Link) (i t : ℕ) : Option After → Type 0 where
  held : {j : ClassNo} → i < length ls → Met (paths ls) i t (Some j) → NextClass ls i t (Some (Held j))
  new : i < length ls → Met (paths ls) i t None → NextClass ls i t (Some (New (link i t)))
  unheld : length ls ≤ i → NextClass ls i t None
