-- Sets with one row are one set, and so are sets with the same members.
use Rattle.std.proofs.Common.{◌≡◌, ℕ, Bool, List, length, Decides, sym, ◌∙◌, ap}
use mathlib.Core.HLevel.{Π_prop, ×_prop, is_prop→PathP}
use native.Mathlib.Nat.{ℕ_set}
use native.Mathlib.Bridge.{le_prop}
use lib.Dec.{eqb}
use lib.Pointwise.{pointwise, bytes_decides}
use Rattle.table.specs.Sets.{Row, In, members}
use Rattle.table.specs.declared.sets.NumberSet.{NumberSet}
use Rattle.table.proofs.Rows.{words_same, members_same}

row_prop : (words : List ℕ) → IsProp (Row words)
row_prop words = ×_prop (ℕ_set (length words) 64) (Π_prop (λ i. le_prop))

pub set_same : {N : Type 0} (x y : NumberSet N) → x.words ≡ y.words → x ≡ y
set_same x y e =
    λ i. record { words = e i; sort = x.sort; row = is_prop→PathP (λ j. Row (e j)) (λ j. row_prop (e j)) x.row y.row i }

pub set_same_in : {N : Type 0} (x y : NumberSet N) → ((k : ℕ) → In x.words k → In y.words k) → ((k : ℕ) → In y.words k → In x.words k) → x ≡ y
set_same_in x y f g = set_same x y (words_same x.words y.words x.row y.row f g)

pub set_same_members : {N : Type 0} (x y : NumberSet N) → members x.words ≡ members y.words → x ≡ y
set_same_members x y e = set_same x y (members_same x.words y.words x.row y.row e)

-- the test of rows word by word decides whether the sets are one
pub set_exact : {N : Type 0} (x y : NumberSet N) (r : Bool) → r ≡ pointwise eqb x.words y.words → Decides r (x ≡ y)
set_exact {N} x y r e =
    let d = bytes_decides x.words y.words in
    (λ t. set_same x y (d.0 (sym e ∙ t)), λ s. e ∙ d.1 (ap (λ (z : NumberSet N). z.words) s))
