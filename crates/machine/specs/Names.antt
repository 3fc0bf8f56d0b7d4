-- The names that a closure opens: a list in which each stands once.
use Rattle.std.specs.Prelude.{◌≡◌, ℕ, suc, ◌<◌, ◌≤◌, Bool, true, false, List, [], ◌∷◌, ◌++◌, length, take, Decides, slice_index_or}
use mathlib.Core.List.{Memᴰ}

-- how many marks are set
abbrev pub marks : List Bool → ℕ
marks [] = 0
marks (true ∷ bs) = suc (marks bs)
marks (false ∷ bs) = marks bs

-- each name of the first `count` in the list is marked, and no other
pub record Marked (list : List ℕ) (count : ℕ) (seen : List Bool) : Type 0 where
  pub marked : (n : ℕ) → n < 1024 → Decides (slice_index_or seen n false) (Memᴰ n (take count list))
  pub counted : marks seen ≡ count
  pub below : (n : ℕ) → Memᴰ n (take count list) → n < 1024
  pub few : count ≤ 1024
  pub long : length list ≡ 1024

-- what a list of names is once the name n is noted: n stands at its end, or where it stood
pub data Noted (names : List ℕ) (n : ℕ) : List ℕ → Type 0 where
  old : Memᴰ n names → Noted names n names
  new : (Memᴰ n names → ⊥) → Noted names n (names ++ (n ∷ []))
