-- The items of a grammar: its dotted rules, by number.
--
-- Item 0 is S' → · start and item 1 is S' → start ·, where S' is an added name with the number `symbols g`. Then come
-- the rules in their order, each with its dot moving right: a rule of length n has n + 1 items.
use Rattle.std.specs.Prelude.{◌≡◌, ℕ, ◌+◌, ◌<◌, ◌≤◌, List, [], ◌∷◌, ◌++◌, length, take}
use Rattle.std.proofs.Math.Option.{some, Option, none}
use mathlib.Core.List.{Memᴰ}
use Rattle.std.proofs.Math.ListN.{get_elem?}
use Rattle.std.specs.List.{flat_map, AllByRecursion}
use Rattle.book.specs.Grammar.{Rule, Grammar, symbols}
use Rattle.book.specs.Tables.{dots as rules_count, items as count}

-- left → before · after
pub record Item : Type 0 where
  pub left : ℕ
  pub before : List ℕ
  pub after : List ℕ

abbrev pub item : ℕ → List ℕ → List ℕ → Item
item a l r = record { left = a; before = l; after = r }

-- a → before · after, and then the dot moving right
abbrev pub dots : ℕ → List ℕ → List ℕ → List Item
dots a before [] = item a before [] ∷ []
dots a before (x ∷ after) = item a before (x ∷ after) ∷ dots a (before ++ (x ∷ [])) after

-- the items of a rule
abbrev pub rule_items : Rule → List Item
rule_items r = dots r.left [] r.right

-- the items of a grammar, by number
abbrev pub items : Grammar → List Item
items g = dots (symbols g) [] (g.start ∷ []) ++ flat_map rule_items g.rules

-- item number k is a → l · r
abbrev pub Dotted : Grammar → ℕ → ℕ → List ℕ → List ℕ → Type 0
Dotted g k a l r = get_elem? (items g) k ≡ some (item a l r)

-- how many items there are: two for the added rule, and n + 1 for a rule of length n
abbrev pub item_count : Grammar → ℕ
item_count g = count g

-- the number of the first item of the rule at a place
abbrev pub first_item : Grammar → ℕ → ℕ
first_item g i = 2 + rules_count (take i g.rules)

-- the first symbol of a list
abbrev pub first_symbol : List ℕ → Option ℕ
first_symbol [] = none
first_symbol (x ∷ xs) = some x

-- the symbol after the dot of item number k
abbrev pub symbol_after : Grammar → ℕ → Option ℕ
symbol_after g k = elim (get_elem? (items g) k) [ none ↦ none | some i ↦ first_symbol i.after ]

-- what the laws ask of a grammar: the start and each left are names, and each symbol is a word or a name
pub record Sound (g : Grammar) : Type 0 where
  pub start_named : g.words ≤ g.start
  pub start_known : g.start < symbols g
  pub lefts_named : (r : Rule) → Memᴰ r g.rules → g.words ≤ r.left
  pub lefts_known : (r : Rule) → Memᴰ r g.rules → r.left < symbols g
  pub rights_known : (r : Rule) → Memᴰ r g.rules → AllByRecursion (λ x. x < symbols g) r.right

-- which item stands at number k: S' → m · s, or the rule at place i with its dot after m
pub data Numbers (g : Grammar) (k a : ℕ) (m s : List ℕ) : Type 0 where
  added : k ≡ length m → a ≡ symbols g → m ++ s ≡ g.start ∷ [] → Numbers g k a m s
  ruled : (i : ℕ) (r : Rule) → get_elem? g.rules i ≡ some r → k ≡ first_item g i + length m → a ≡ r.left → m ++ s ≡ r.right → Numbers g k a m s
