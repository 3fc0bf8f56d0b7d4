-- A closure in the making: the items so far, and the names that stand after their dots.
use Rattle.std.specs.Prelude.{◌≡◌, ℕ, ◌+◌, ◌-◌, ◌<◌, ◌⊎◌, List, ◌∷◌, ◌++◌, take}
use mathlib.Core.List.{Memᴰ}
use Rattle.book.specs.Grammar.{Grammar}
use Rattle.book.specs.Tables.{Name, Fit}
use Rattle.table.specs.Sets.{In}
use Rattle.theory.specs.Items.{Dotted, item_count}
use Rattle.theory.specs.Closure.{Closed}
use Rattle.machine.specs.declared.items.Items.{Items}
use Rattle.machine.specs.declared.closure.Closing.{Closing}
use Rattle.machine.specs.Index.{FirstOf, Indexed}

-- the items are those of the grammar g
pub record ItemsOf (g : Grammar) (items : Items) : Type 0 where
  pub fit : Fit g
  pub words : items.words ≡ g.words
  pub indexed : Indexed g items.after items.head items.next

-- the name c stands after the dot of an item of the closure of K
pub record AfterDot (g : Grammar) (K : List ℕ) (c : ℕ) : Type 0 where
  pub number : ℕ
  pub left : ℕ
  pub before : List ℕ
  pub after : List ℕ
  pub closed : Closed g K number
  pub item : Dotted g number left before (c ∷ after)

-- all items so far belong to the closure of K, and the names after their dots are noted
pub record Within (g : Grammar) (K : List ℕ) (c : Closing) : Type 0 where
  pub sound : (k : ℕ) → In c.set.words k → Closed g K k
  pub reasons : (n : ℕ) → Memᴰ n c.names → Name g (g.words + n) × AfterDot g K (g.words + n)
  pub names : (k a x : ℕ) (l r : List ℕ) → In c.set.words k → Dotted g k a l (x ∷ r) → Name g x → Memᴰ (x - g.words) c.names

-- c became c': nothing was taken back, and names were noted at the end
pub record Grown (c c' : Closing) : Type 0 where
  pub more : List ℕ
  pub names : c'.names ≡ c.names ++ more
  pub still : (k : ℕ) → In c.set.words k → In c'.set.words k

-- the rules of the first i names that were noted are in the set
abbrev pub OpenedTo : Grammar → ℕ → Closing → Type 0
OpenedTo g i c = (n k : ℕ) → Memᴰ n (take i c.names) → FirstOf g (g.words + n) k → In c.set.words k

-- of the first items of the name c, all but the rest are in the set
pub record ToOpen (g : Grammar) (c : ℕ) (rest : List ℕ) (set : List ℕ) : Type 0 where
  pub firsts : (j : ℕ) → Memᴰ j rest → FirstOf g c j
  pub done : (j : ℕ) → FirstOf g c j → In set j ⊎ Memᴰ j rest

-- the members of a kernel are items of the grammar
abbrev pub KernelOf : Grammar → List ℕ → Type 0
KernelOf g words = (k : ℕ) → In words k → k < item_count g
