-- What a policy answers: the classes held, by number, and the class that follows.
use Rattle.std.specs.Prelude.{◌≡◌, ℕ, ◌<◌, ◌≤◌, Bool, true, false, ◌⊎◌, List, [], ◌∷◌, ◌++◌, map, length, Some, None, Option, nat_lt, slice_index_or}
use mathlib.Core.List.{Memᴰ}
use Rattle.table.specs.Lists.{StandsAt, Lacks}
use Rattle.table.specs.declared.numbers.ClassNo.{ClassNo}
use Rattle.finding.specs.Numbered.{Firsts}
use Rattle.theory.specs.Policies.{Class, Meaning}
use Rattle.theory.specs.Policies.Class.{states}
use Rattle.policy.specs.declared.stacks.Push.{Push}

-- whether a new class has a place beside the classes held
abbrev pub Room : Type 0
Room = List Class → Class → Bool

-- the new class has a place beside the classes held
abbrev pub HasRoom : Room → List Class → Class → Type 0
HasRoom room held c = room held c ≡ true

-- there is a place as long as fewer than 4,096 classes are held
abbrev pub free_place : Room
free_place held c = nat_lt (length held) 4096

-- no new class has a place
abbrev pub no_room : Room
no_room held c = false

-- the class after a pair is pushed: the state left and the symbol, on the way to the state reached
abbrev pub pushed : Meaning → ℕ → ℕ → ℕ → Class → Class
pushed m left symbol reached c = m.next c left symbol reached

-- the class after a push
abbrev pub after_push : Meaning → Push → Class → Class
after_push m push = pushed m push.left.0 push.symbol push.reached.0

-- the class after the class numbered i: its number, if it is held or has a place, and the classes held then
pub data Taken (room : Room) (held : List Class) (onward : Class → Class) (i : ℕ) : Option ClassNo → List Class → Type 0 where
  old : {j : ClassNo} (c : Class) → StandsAt held i c → StandsAt held j.0 (onward c) → Taken room held onward i (Some j) held
  new : {j : ClassNo} (c : Class) → StandsAt held i c → Lacks held (onward c) → HasRoom room held (onward c) → j.0 ≡ length held → Taken room held onward i (Some j) (held ++ (onward c ∷ []))
  unheld : length held ≤ i → Taken room held onward i None held
  no_place : (c : Class) → StandsAt held i c → Lacks held (onward c) → (HasRoom room held (onward c) → ⊥) → Taken room held onward i None held

-- the number that taking the class would give
abbrev pub Fitting : Room → List Class → (Class → Class) → ℕ → Option ClassNo → Type 0
Fitting room held onward i r = (held' : List Class) × Taken room held onward i r held'

-- whatever class follows: what fits answers is what next gives, and where that is none the classes held stay as they are
pub record Foretold (room : Room) (held : List Class) : Type 0 where
  pub same : (onward : Class → Class) (i : ℕ) (r r' : Option ClassNo) (held' : List Class) → Fitting room held onward i r → Taken room held onward i r' held' → r ≡ r'
  pub kept : (onward : Class → Class) (i : ℕ) (held' : List Class) → Taken room held onward i None held' → held' ≡ held

-- the class of number i
abbrev pub class_at : List Class → ℕ → Class
class_at held i = slice_index_or held i (states [])

-- the classes held are just those of some entries, in the order of the entries; `number` is the class number of an entry
pub record Tracks {E : Type 0} (number : E → ℕ) (held : List Class) (es : List E) : Type 0 where
  pub firsts : Firsts [] (map (λ e. class_at held (number e)) es) held
  pub below : (k : ℕ) (e : E) → StandsAt es k e → number e < length held

-- where just the classes of some things are held, in the order of the things, c is held or has a place
abbrev pub HasPlace : Room → List Class → Class → Type 0
HasPlace room classes c = (held : List Class) → Firsts [] classes held → Memᴰ c held ⊎ HasRoom room held c
