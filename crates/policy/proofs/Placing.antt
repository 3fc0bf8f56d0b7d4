-- Find-or-add among the first rows of a fixed table, as the list of its entries shows it.
use Rattle.std.proofs.Common.{◌≡◌, ℕ, ◌<◌, ◌≤◌, true, false, List, length, take, Some, None, Option, Bor, sym, subst, arith, length-take-le}
use Rattle.std.proofs.lemmas.Bool.{false≢true}
use Rattle.std.proofs.lemmas.List.{take_more_set}
use Rattle.std.specs.Option.{is_some, option_copied}
use Rattle.std.specs.Slice.{IsItemAt}
use Rattle.table.specs.Found.{FoundOrAdded}
use Rattle.table.specs.Found.FoundOrAdded.{old, new, full}
use Rattle.table.specs.Lists.{StandsAt}
use Rattle.table.proofs.Lists.{stands_below, stands_getD}
use Rattle.policy.specs.Places.{Fixed, Placed, EntryAt}
use Rattle.policy.specs.Places.Placed.{old as p_old, new as p_new, full as p_full}

-- the entries are as many as counted
pub size : {E : Type 0} (rows : List E) (n : ℕ) → Fixed rows n → length (take n rows) ≡ n
size rows n f = length-take-le n rows (omega (arith, f.0, f.1))

-- an entry that was read
pub entry_read : {E : Type 0} (es : List E) (i : ℕ) (r : Option (Bor E)) → IsItemAt es i r → EntryAt es i (option_copied r)
entry_read es i None h = h.3
entry_read es i (Some x) h = subst (StandsAt es i) (sym h.1) (stands_getD es i x.now h.3.0)

module _ {E : Type 0} (rows : List E) (n : ℕ) (e : E) (f : Fixed rows n) where
  pub added : {i : ℕ} {rows' : List E} {n' : ℕ} → FoundOrAdded rows n e (Some i) rows' n' → Placed (take n rows) e (Some (record { 0 = i })) (take n' rows')
  added (old s) = p_old s
  added (new l h) =
      subst (Placed (take n rows) e (Some (record { 0 = n }))) (sym (take_more_set rows n e h)) (p_new (sym (size rows n f)) l (omega (arith, size rows n f, f.0)))

  pub none_free : {rows' : List E} {n' : ℕ} → FoundOrAdded rows n e None rows' n' → Placed (take n rows) e None (take n' rows')
  none_free (full l h) = p_full l (omega (arith, size rows n f, f.0))

-- whether there is an entry tells whether the number is below
module _ {E : Type 0} (es : List E) (i : ℕ) where
  pub entry_below : (r : Option E) → EntryAt es i r → is_some r ≡ true → i < length es
  entry_below None h t = absurd (false≢true t)
  entry_below (Some e) h t = stands_below es i e h

  pub entry_past : (r : Option E) → EntryAt es i r → is_some r ≡ false → length es ≤ i
  entry_past None h t = h
  entry_past (Some e) h t = absurd (false≢true (sym t))
