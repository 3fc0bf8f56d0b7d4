-- Sizes of sets: a set that has more members is larger.
use Rattle.std.proofs.Common.{◌≡◌, ℕ, ◌<◌, ◌≤◌, ◌≢◌, List, ◌∷◌, length, sym, ap, ◌∙◌, subst, ⊎_elim, arith}
use mathlib.Core.Option.{some}
use mathlib.Core.List.Memᴰ
use mathlib.Core.List.{Memᴰ}
use Rattle.std.specs.Cmp.{nat_eq_equiv}
use Rattle.std.specs.List.{AllPairs, Contains}
use Rattle.std.proofs.lemmas.Bool.Decides.{Decides-eqb}
use Rattle.std.proofs.lemmas.List.Kept.{AllPairs-cons}
use Rattle.std.proofs.lemmas.Map.Made.{IsDistinct-from_AllPairs, is_member-Decides, length-le_from_is_member}
use Rattle.std.proofs.lemmas.Map.Steps.{length-le_from_distinct_below}
use Rattle.table.specs.Lists.{Ascending}
use Rattle.table.specs.Sets.{Row, In, members}
use Rattle.table.proofs.Lists.{stands_below, stands_some, stands_getD, stands_is, mem_at, at_mem}
use Rattle.table.proofs.Rows.{in_members, members_in, members_ascending, in_below}

-- members, as the library speaks of them
contains_mem : (xs : List ℕ) (x : ℕ) → Contains xs x → Memᴰ x xs
contains_mem xs x (k, h, e) = mem_at xs k x (stands_getD xs k x h ∙ ap some e)

mem_contains : (xs : List ℕ) (x : ℕ) → Memᴰ x xs → Contains xs x
mem_contains xs x m = let (k, s) = at_mem xs x m in (k, stands_below xs k x s, stands_is xs k x x s)

-- no two members of an ascending list are one
ascending_apart : (xs : List ℕ) → Ascending xs → AllPairs (λ x y. x ≢ y) xs
ascending_apart xs o i j d l h e = let r = o i j _ _ l (stands_getD xs i d (omega arith)) (stands_getD xs j d h) in omega arith

-- a list whose members are apart and among those of another is no longer
fewer : (xs ys : List ℕ) → AllPairs (λ x y. x ≢ y) xs → ((k : ℕ) → Memᴰ k xs → Memᴰ k ys) → length xs ≤ length ys
fewer xs ys apart more =
    length-le_from_is_member nat_eq_equiv xs ys (IsDistinct-from_AllPairs Decides-eqb xs apart)
    (λ q t. (is_member-Decides Decides-eqb ys q).1 (mem_contains ys q (more q (contains_mem xs q ((is_member-Decides Decides-eqb xs q).0 t)))))

module _ (ws vs : List ℕ) (row : Row ws) (row' : Row vs) (more : (k : ℕ) → In ws k → In vs k) where
  apart : AllPairs (λ x y. x ≢ y) (members ws)
  apart = ascending_apart (members ws) (members_ascending ws)

  among : (k : ℕ) → Memᴰ k (members ws) → Memᴰ k (members vs)
  among k m = in_members vs row' k (more k (members_in ws k m))

  pub size_grows : length (members ws) ≤ length (members vs)
  size_grows = fewer (members ws) (members vs) apart among

  pub size_rises : (k : ℕ) → In vs k → (In ws k → ⊥) → length (members ws) < length (members vs)
  size_rises k m n =
      fewer (k ∷ members ws) (members vs)
      (AllPairs-cons (λ x y. x ≢ y) k (members ws) (λ i d h e. n (members_in ws k (mem_at (members ws) i k (stands_getD (members ws) i d h ∙ ap some (sym e))))) apart)
      (λ j i. ⊎_elim (λ e. subst (λ z. Memᴰ z (members vs)) (sym e) (in_members vs row' k m)) (among j) (Memᴰ.cases_cons i))

pub size_most : (ws : List ℕ) → Row ws → length (members ws) ≤ 4096
size_most ws row =
    length-le_from_distinct_below (members ws) 4096 (IsDistinct-from_AllPairs Decides-eqb (members ws) (ascending_apart (members ws) (members_ascending ws)))
    (λ q t. in_below ws row q (members_in ws q (contains_mem (members ws) q ((is_member-Decides Decides-eqb (members ws) q).0 t))))

-- a set of size 0 has no member, and another has one
pub no_member : (ws : List ℕ) → Row ws → length (members ws) ≡ 0 → (k : ℕ) → In ws k → ⊥
no_member ws row e k m = let (i, s) = at_mem (members ws) k (in_members ws row k m) in omega (arith, stands_below (members ws) i k s)

pub some_member : (ws : List ℕ) → 0 < length (members ws) → (k : ℕ) × In ws k
some_member ws h = let (k, s) = stands_some (members ws) 0 h in (k, members_in ws k (mem_at (members ws) 0 k s))
