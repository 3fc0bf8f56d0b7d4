-- A phrase grammar, and the sentences that it derives.
use Rattle.std.specs.Prelude.{◌≡◌, ℕ, ◌+◌, ◌<◌, ◌≤◌, List, [], ◌∷◌, ◌++◌}
use mathlib.Core.List.{Memᴰ}
use Rattle.std.specs.List.{AllByRecursion}

-- a rule rewrites the name `left` to the symbols `right`
pub record Rule : Type 0 where
  pub left : ℕ
  pub right : List ℕ

abbrev pub rule : ℕ → List ℕ → Rule
rule a s = record { left = a; right = s }

-- the symbols below `words` are words, and the next `names` of them are names; `start` is a name
pub record Grammar : Type 0 where
  pub words : ℕ
  pub names : ℕ
  pub start : ℕ
  pub rules : List Rule

-- the grammar with one rule more
abbrev pub with_rule : Grammar → Rule → Grammar
with_rule g r = record { words = g.words; names = g.names; start = g.start; rules = g.rules ++ (r ∷ []) }

-- how many symbols there are: each symbol lies below it
abbrev pub symbols : Grammar → ℕ
symbols g = g.words + g.names

-- a is a name that may be rewritten to s
abbrev pub Rewrites : Grammar → ℕ → List ℕ → Type 0
Rewrites g a s = (g.words ≤ a) × Memᴰ (rule a s) g.rules

-- a step replaces one name by the right side of one of its rules
pub record Step (g : Grammar) (xs ys : List ℕ) : Type 0 where
  pub before : List ℕ
  pub name : ℕ
  pub side : List ℕ
  pub after : List ℕ
  pub rewrites : Rewrites g name side
  pub from : xs ≡ before ++ (name ∷ after)
  pub to : ys ≡ before ++ (side ++ after)

-- finitely many steps lead to zs from a list
pub data DerivedFrom (g : Grammar) (zs : List ℕ) : List ℕ → Type 0 where
  done : DerivedFrom g zs zs
  more : {xs ys : List ℕ} → Step g xs ys → DerivedFrom g zs ys → DerivedFrom g zs xs

-- a list of words, which may be empty
abbrev pub Sentence : Grammar → List ℕ → Type 0
Sentence g w = AllByRecursion (λ x. x < g.words) w

-- the grammar derives the sentence w: finitely many steps lead to it from the start name alone
pub record Derives (g : Grammar) (w : List ℕ) : Type 0 where
  pub sentence : Sentence g w
  pub steps : DerivedFrom g w (g.start ∷ [])

-- only the first symbol of a right side may be a name
abbrev pub LeftLinear : Grammar → Type 0
LeftLinear g = (a x : ℕ) (rest : List ℕ) → Memᴰ (rule a (x ∷ rest)) g.rules → Sentence g rest

-- only the last symbol of a right side may be a name
abbrev pub RightLinear : Grammar → Type 0
RightLinear g = (a x : ℕ) (beginning : List ℕ) → Memᴰ (rule a (beginning ++ (x ∷ []))) g.rules → Sentence g beginning
