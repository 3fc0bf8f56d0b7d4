-- What the closure looks up: the symbol after each item's dot, and the first items of each name's rules.
use Rattle.std.specs.Prelude.{◌≡◌, ℕ, zero, suc, ◌+◌, ◌-◌, ◌<◌, ◌↔◌, Bool, true, false, nat_lt, List, [], ◌∷◌, ◌++◌, map, take, Some, None, Option, slice_index}
use Rattle.std.proofs.Math.Option.{some}
use mathlib.Core.List.{Memᴰ}
use Rattle.std.proofs.Math.ListN.{get_elem?}
use Rattle.std.specs.List.{flat_map}
use Rattle.book.specs.Grammar.{Rule, Grammar, symbols}
use Rattle.book.specs.Tables.{Name}
use Rattle.theory.specs.Items.{Item, items, rule_items, dots, item_count, first_item, Dotted}

-- the symbol after an item's dot, or 65535 where none follows
abbrev pub follower : Item → ℕ
follower i = elim i.after [ [] ↦ 65535 | x ∷ xs ↦ x ]

-- following `next` from k passes the numbers ks, which fall, and ends at 0
pub data Chain (next : List ℕ) : ℕ → List ℕ → Type 0 where
  end : Chain next 0 []
  link : {k : ℕ} {ks : List ℕ} → 0 < k → slice_index next k < k → Chain next (slice_index next k) ks → Chain next k (k ∷ ks)

-- each number leads to a smaller one
abbrev pub Falls : List ℕ → Type 0
Falls next = (k : ℕ) → 0 < k → slice_index next k < k

abbrev pub only_if : Bool → ℕ → ℕ
only_if true n = n
only_if false n = 0

-- n where it is below b, or else 0, at which a chain ends
abbrev pub falling : ℕ → ℕ → ℕ
falling b n = only_if (nat_lt n b) n

-- the numbers that following `next` from k passes, at most n of them, as far as they fall
abbrev pub passed : ℕ → List ℕ → ℕ → List ℕ
passed zero next k = []
passed (suc n) next zero = []
passed (suc n) next (suc k) = suc k ∷ passed n next (falling (suc k) (slice_index next (suc k)))

-- the numbers of the chain from k, as far as they fall: k of them are all
abbrev pub passed_from : List ℕ → ℕ → List ℕ
passed_from next k = passed k next k

-- the numbers of the chain from k, where k is an item's number; else none
unfoldable pub links : List ℕ → ℕ → List ℕ
links next k = passed_from next (falling 4096 k)

-- the symbol after the dot of item k, or none where 65535 stands for it
abbrev pub SymbolAfter : List ℕ → ℕ → Option ℕ → Type 0
SymbolAfter after k None = slice_index after k ≡ 65535
SymbolAfter after k (Some x) = (slice_index after k ≡ x) × (x < 65535)

-- the name after the dot of item k by its index, where the names begin at `words`; or none where a word stands there, or nothing
abbrev pub NameAfter : ℕ → List ℕ → ℕ → Option ℕ → Type 0
NameAfter words after k None = (n : ℕ) → n < 1024 → slice_index after k ≡ words + n → slice_index after k < 65535 → ⊥
NameAfter words after k (Some n) = (slice_index after k ≡ words + n) × (n < 1024) × (slice_index after k < 65535)

-- a chain from k passes just the numbers that P names
pub record Passes (next : List ℕ) (k : ℕ) (P : ℕ → Type 0) : Type 0 where
  pub numbers : List ℕ
  pub chain : Chain next k numbers
  pub are : (j : ℕ) → Memᴰ j numbers ↔ P j

-- j is the first item of a rule of c, one of the first i rules
pub record FirstAmong (g : Grammar) (i c j : ℕ) : Type 0 where
  pub place : ℕ
  pub below : place < i
  pub rule : Rule
  pub at : get_elem? g.rules place ≡ some rule
  pub left : rule.left ≡ c
  pub number : j ≡ first_item g place

-- the added rule and the first i rules are in the index
pub record IndexedTo (g : Grammar) (i : ℕ) (after head next : List ℕ) : Type 0 where
  pub followers : take (first_item g i) after ≡ map follower (dots (symbols g) [] (g.start ∷ []) ++ flat_map rule_items (take i g.rules))
  pub opens : (c : ℕ) → Name g c → Passes next (slice_index head (c - g.words)) (FirstAmong g i c)

-- j is an item of c with its dot in front
abbrev pub FirstOf : Grammar → ℕ → ℕ → Type 0
FirstOf g c j = (s : List ℕ) × Dotted g j c [] s

-- the whole grammar is in the index
pub record Indexed (g : Grammar) (after head next : List ℕ) : Type 0 where
  pub followers : take (item_count g) after ≡ map follower (items g)
  pub opens : (c : ℕ) → Name g c → Passes next (slice_index head (c - g.words)) (FirstOf g c)
