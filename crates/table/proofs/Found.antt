-- Find-or-add keeps entries distinct, and answers numbers of rows.
use Rattle.std.proofs.Common.{◌≡◌, ℕ, ◌<◌, ◌≤◌, Bool, true, false, List, length, get_or, take, Some, None, Option, MatchOption, ap, ◌∙◌, subst, arith, length-take-le}
use Rattle.table.specs.Lists.{Exact, Distinct}
use mathlib.Core.Option.{some}
use Rattle.std.specs.List.{AllWithin, HoldsAt}
use Rattle.table.specs.Found.{Looked, FoundOrAdded}
use Rattle.table.specs.Found.FoundOrAdded.{old, new, full}
use Rattle.table.proofs.Lists.{stands_below, stands_getD, lacks_read, distinct_added}

module _ {E : Type 0} {rows : List E} {n : ℕ} {e : E} where
  pub distinct_after : {r : Option ℕ} {rows' : List E} {n' : ℕ} → FoundOrAdded rows n e r rows' n' → Distinct (take n rows) → Distinct (take n' rows')
  distinct_after (old s) d = d
  distinct_after (new l h) d = distinct_added rows n e h d l
  distinct_after (full l h) d = d

  -- a number given is that of a row
  pub number_below : {i : ℕ} {rows' : List E} {n' : ℕ} → n ≤ length rows → FoundOrAdded rows n e (Some i) rows' n' → i < length rows
  number_below {i} fit (old s) = let b = stands_below (take n rows) i e s in omega (arith, length-take-le n rows fit)
  number_below fit (new l h) = h

-- a search for the first row that equals e
pub looked : {E : Type 0} (equals : E → E → Bool) → Exact (λ x y r. r ≡ equals x y) → (rows : List E) (e : E) (r : Option ℕ)
    → MatchOption r (AllWithin (λ x. false ≡ equals x e) rows 0 (length rows)) (λ i. (i < length rows) × HoldsAt (λ x. true ≡ equals x e) rows i × AllWithin (λ x. false ≡ equals x e) rows 0 i)
    → Looked rows e r
looked equals exact rows e None all =
    lacks_read rows (length rows) e (omega arith) (λ k d l s. let q : false ≡ true = (exact (get_or rows k d) e false (all k d (omega arith) l)).1 s in cc)
looked equals exact rows e (Some i) found =
    stands_getD rows i e found.0 ∙ ap some ((exact (get_or rows i e) e true (found.1 e)).0 (λ i. true))

-- the same of a table with these rows and this count
pub found_in : {E : Type 0} {rows rows' ends : List E} {n n' k : ℕ} {e : E} {r : Option ℕ} → rows ≡ rows' → n ≡ n' → FoundOrAdded rows n e r ends k → FoundOrAdded rows' n' e r ends k
found_in {rows' = rows'} {ends} {n} {k = k} {e} {r} p q h =
    subst (λ m. FoundOrAdded rows' m e r ends k) q (subst (λ l. FoundOrAdded l n e r ends k) p h)
