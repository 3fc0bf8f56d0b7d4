-- Closure and goto over sets of items. A set of items is the ascending list of their numbers.
use Rattle.std.specs.Prelude.{◌≡◌, ℕ, suc, ◌<◌, Bool, true, false, List, [], ◌∷◌, map, length, ◌==◌}
use Rattle.std.proofs.Math.Option.{Option, none, some}
use mathlib.Core.List.{Memᴰ}
use Rattle.std.proofs.Math.ListN.{get_elem?}
use Rattle.book.specs.Grammar.{Grammar}
use Rattle.finding.specs.Numbered.{upto}
use Rattle.theory.specs.Lists.{and, keep, saturate}
use Rattle.theory.specs.Items.{Item, items, item_count, Dotted}

-- the least set of items that holds the kernel and, for a name after the dot of a member, the first item of each of its rules
pub data Closed (g : Grammar) (kernel-items : List ℕ) : ℕ → Type 0 where
  kernel : {k : ℕ} → Memᴰ k kernel-items → k < item_count g → Closed g kernel-items k
  opened : {j k a c : ℕ} {l r s : List ℕ} → Closed g kernel-items j → Dotted g j a l (c ∷ r) → Dotted g k c [] s → Closed g kernel-items k

-- whether a list of symbols begins with x
abbrev pub begins_with : ℕ → List ℕ → Bool
begins_with x [] = false
begins_with x (y ∷ ys) = x == y

abbrev pub is_empty : List ℕ → Bool
is_empty [] = true
is_empty (x ∷ xs) = false

-- whether x stands after the dot of item number k of a list
abbrev pub follows : List Item → ℕ → ℕ → Bool
follows all x k = elim (get_elem? all k) [ none ↦ false | some i ↦ begins_with x i.after ]

-- whether item number k of a list is a first item, and its left stands after the dot of item number j
abbrev pub opens : List Item → ℕ → ℕ → Bool
opens all j k = elim (get_elem? all k) [ none ↦ false | some i ↦ and (is_empty i.before) (follows all i.left j) ]

-- the closure over a list of items
abbrev pub close : List Item → List ℕ → List ℕ
close all set = saturate (upto (length all)) (opens all) set

-- the closure of a set of items, as a list
abbrev pub closure : Grammar → List ℕ → List ℕ
closure g set = close (items g) set

-- the items of a set that have x after the dot, with the dot carried over x
abbrev pub carried : List Item → List ℕ → ℕ → List ℕ
carried all set x = map suc (keep (follows all x) set)

-- where a set of items moves on x: nowhere if x follows no dot, else to the closure of the carried items
abbrev pub goto : Grammar → List ℕ → ℕ → Option (List ℕ)
goto g set x = let all = items g in elim (carried all set x) [ [] ↦ none | k ∷ ks ↦ some (close all (k ∷ ks)) ]

-- the closure of S' → · start
abbrev pub initial : Grammar → List ℕ
initial g = closure g (0 ∷ [])

-- item number k is the carried form of an item of the set that has x after its dot
pub record Carried (g : Grammar) (set : List ℕ) (x k : ℕ) : Type 0 where
  pub from : ℕ
  pub member : Memᴰ from set
  pub left : ℕ
  pub before : List ℕ
  pub after : List ℕ
  pub item : Dotted g from left before (x ∷ after)
  pub number : k ≡ suc from
