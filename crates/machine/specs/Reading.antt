-- The grammar of a table, read off, and what the machine's space searches.
use Rattle.std.specs.Prelude.{◌≡◌, ℕ, suc, ◌<◌, ◌≤◌, List, drop, Some, None, Option, slice_index}
use Rattle.book.specs.Grammar.{Grammar, symbols}
use Rattle.book.specs.Reading.{rules_in}
use Rattle.book.specs.Tables.{Holds}
use Rattle.table.specs.Lists.{StandsAt}
use Rattle.table.specs.Sets.{In}
use Rattle.table.specs.declared.sets.NumberSet.{NumberSet}
use Rattle.table.specs.declared.numbers.ItemNo.{ItemNo}
use Rattle.finding.specs.Finding.{Search}
use Rattle.theory.specs.Closure.{goto}
use Rattle.machine.specs.declared.items.Items.{Items}
use Rattle.machine.specs.Closing.{ItemsOf, KernelOf}

-- the grammar of a table that holds one
abbrev pub grammar_of : List ℕ → Grammar
grammar_of t = record { words = slice_index t 0; names = slice_index t 1; start = slice_index t 2; rules = rules_in (slice_index t 3) (drop 4 t) }

-- sets of items, each leading on a symbol where goto says; every set has a place
unfoldable pub machine_search : Grammar → Search (List ℕ)
machine_search g = record { step = goto g; room = λ found new. Unit {0}; symbols = symbols g }

abbrev pub item_search : List ℕ → Search (List ℕ)
item_search t = machine_search (grammar_of t)

-- the table holds the grammar of these items, and the entries found are sets of its items
pub record Readied (t : List ℕ) (items : Items) (es : List (NumberSet ItemNo)) : Type 0 where
  pub grammar : Grammar
  pub holds : Holds t grammar
  pub of : ItemsOf grammar items
  pub each : (k : ℕ) (e : NumberSet ItemNo) → StandsAt es k e → KernelOf grammar e.words

-- the least symbol that is `from` or more and stands after a dot of the set, or none; where 65535 stands for the symbol, none follows
abbrev pub LeastAfter : List ℕ → List ℕ → ℕ → Option ℕ → Type 0
LeastAfter after set from None = (k : ℕ) → In set k → from ≤ slice_index after k → slice_index after k < 65535 → ⊥
LeastAfter after set from (Some r) =
    (from ≤ r) × (r < 65535) × ((k : ℕ) × In set k × (slice_index after k ≡ r)) × ((k : ℕ) → In set k → from ≤ slice_index after k → r ≤ slice_index after k)

-- the items of the set with this symbol after their dots, each with the dot carried over it
pub record CarriedOver (after set : List ℕ) (x : ℕ) (r : List ℕ) : Type 0 where
  pub only : (j : ℕ) → In r j → (k : ℕ) × In set k × (slice_index after k ≡ x) × (j ≡ suc k)
  pub all : (k : ℕ) → In set k → slice_index after k ≡ x → suc k < 4096 → In r (suc k)
