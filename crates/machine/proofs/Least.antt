-- The least symbol after the dots of a set, as a chain over its members finds it.
use Rattle.std.proofs.Common.{◌≡◌, ℕ, ◌<◌, ◌≤◌, min, cond, ltb, leb, List, get_or, Some, None, Option, sym, ap, subst, ⊎_elim, arith, tests, le-leb, leb-true}
use mathlib.Core.List.Memᴰ
use mathlib.Core.List.{Memᴰ}
use Rattle.std.specs.List.{reduce, filter, filter_map}
use Rattle.std.proofs.lemmas.Bool.{cases_lt, lt-ltb}
use Rattle.table.specs.Sets.{Row, In, members}
use Rattle.table.proofs.Least.{IsLeast, least_is, given_from, given_in, kept_from, kept_in}
use Rattle.table.proofs.Rows.{members_in, in_members}
use Rattle.machine.specs.Index.{SymbolAfter}
use Rattle.machine.specs.Reading.{LeastAfter}

-- the symbol after an item's dot
abbrev pub symbol_at : List ℕ → ℕ → Option ℕ
symbol_at after k = cond (ltb (get_or after k 0) 65535) (Some (get_or after k 0)) None

pub symbol_is : (after : List ℕ) (k : ℕ) (r : Option ℕ) → SymbolAfter after k r → r ≡ symbol_at after k
symbol_is after k None e = grind (arith, tests)
symbol_is after k (Some x) (e, l) = grind (arith, tests)

symbol_given : (after : List ℕ) (k y : ℕ) → symbol_at after k ≡ Some y → (get_or after k 0 ≡ y) × (y < 65535)
symbol_given after k y e = grind (arith, tests)

-- the symbols after the dots of the set that are `from` or more

module _ (after words : List ℕ) (from : ℕ) (row : Row words) where
  abbrev symbols : List ℕ
  symbols = filter (leb from) (filter_map (symbol_at after) (members words))

  symbols_from : (y : ℕ) → Memᴰ y symbols → (from ≤ y) × (y < 65535) × ((k : ℕ) × In words k × (get_or after k 0 ≡ y))
  symbols_from y m =
      let (given, passed) = kept_from (leb from) (filter_map (symbol_at after) (members words)) y m in
      let (k, among, is) = given_from (symbol_at after) (members words) y given in
      let (same, small) = symbol_given after k y is in (leb-true from y passed, small, (k, members_in words k among, same))

  symbols_in : (k : ℕ) → In words k → from ≤ get_or after k 0 → get_or after k 0 < 65535 → Memᴰ (get_or after k 0) symbols
  symbols_in k i l s =
      let is : symbol_at after k ≡ Some (get_or after k 0) = ap (λ b. cond b (Some (get_or after k 0)) None) (lt-ltb (get_or after k 0) 65535 s) in
      kept_in (leb from) (filter_map (symbol_at after) (members words)) _ (given_in (symbol_at after) (members words) k _ (in_members words row k i) is) (le-leb from _ l)

  least_among : (r : Option ℕ) → IsLeast symbols r → LeastAfter after words from r
  least_among None none = λ k i l s. Memᴰ.not-nil (subst (Memᴰ (get_or after k 0)) none (symbols_in k i l s))
  least_among (Some m) (among, below) =
      let (enough, small, stands) = symbols_from m among in (
        enough,
        small,
        stands,
        λ k i l. ⊎_elim (λ s. below _ (symbols_in k i l s)) (λ s. omega arith) (cases_lt (get_or after k 0) 65535),
      )

  pub least_after : (r : Option ℕ) → r ≡ reduce min symbols → LeastAfter after words from r
  least_after r e = least_among r (subst (IsLeast symbols) (sym e) (least_is symbols))
