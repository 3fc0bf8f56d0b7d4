-- How a table of numbers holds a grammar.
use Rattle.std.specs.Prelude.{◌≡◌, ℕ, suc, ◌+◌, ◌<◌, ◌≤◌, List, [], ◌∷◌, ◌++◌, length}
use Rattle.std.specs.List.{flat_map, AllByRecursion}
use Rattle.book.specs.Grammar.{Rule, Grammar, symbols}

-- the names come after the words
abbrev pub Name : Grammar → ℕ → Type 0
Name g x = (g.words ≤ x) × (x < symbols g)

-- how many items, that is dotted rules, the rules have: one for each place of the dot
abbrev pub dots : List Rule → ℕ
dots [] = 0
dots (r ∷ rs) = suc (length r.right) + dots rs

-- the items of a grammar, with the two of the added rule that leads to the start name
abbrev pub items : Grammar → ℕ
items g = 2 + dots g.rules

pub record FitRule (g : Grammar) (r : Rule) : Type 0 where
  pub left : Name g r.left
  pub short : length r.right ≤ 16
  pub right : AllByRecursion (λ x. x < symbols g) r.right

-- the bounds that every grammar of a book keeps
pub record Fit (g : Grammar) : Type 0 where
  pub words : (1 ≤ g.words) × (g.words ≤ 1024)
  pub names : (1 ≤ g.names) × (g.names ≤ 1024)
  pub start : Name g g.start
  pub few : length g.rules ≤ 2048
  pub each : AllByRecursion (FitRule g) g.rules
  pub small : items g ≤ 4096

-- a rule's entries: its left name, the length of its right side, and the right side
abbrev pub rule_entries : Rule → List ℕ
rule_entries r = r.left ∷ (length r.right ∷ r.right)

-- the four entries in front, which count n rules
abbrev pub header : Grammar → ℕ → List ℕ
header g n = g.words ∷ (g.names ∷ (g.start ∷ (n ∷ [])))

-- all entries of a grammar
abbrev pub entries : Grammar → List ℕ
entries g = header g (length g.rules) ++ flat_map rule_entries g.rules

-- how many entries a grammar takes
abbrev pub used : Grammar → ℕ
used g = 4 + length (flat_map rule_entries g.rules)

-- the table's header counts n rules, its first rules are those of g, and `rest` stands after them
pub record Begins (t : List ℕ) (n : ℕ) (g : Grammar) (rest : List ℕ) : Type 0 where
  pub fit : Fit g
  pub most : n ≤ 2048
  pub so_far : length g.rules ≤ n
  pub is : t ≡ header g n ++ (flat_map rule_entries g.rules ++ rest)

-- the table holds the grammar g: it begins with g's entries, and what stands after them is ignored
pub record Holds (t : List ℕ) (g : Grammar) : Type 0 where
  pub fit : Fit g
  pub rest : List ℕ
  pub is : t ≡ entries g ++ rest
