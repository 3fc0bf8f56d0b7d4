-- The first state.
use Rattle.std.proofs.Common.{◌≡◌, ℕ, ◌<◌, List, [], ◌∷◌, sym, subst, ⊎_elim, arith}
use mathlib.Core.List.Memᴰ
use mathlib.Core.List.{Memᴰ}
use Rattle.book.specs.Grammar.{Grammar}
use Rattle.table.specs.Sets.{Row, In, members, Inserted}
use Rattle.table.proofs.Rows.{members_in, in_members}
use Rattle.theory.specs.Items.{item_count}
use Rattle.theory.specs.Closure.{closure, initial}
use Rattle.theory.proofs.Items.{dotted_below, item_zero}
use Rattle.theory.proofs.Closure.{closure_same}
use Rattle.machine.specs.Closing.{KernelOf}

module _ (none one : List ℕ) (empty : (k : ℕ) → In none k → ⊥) (ins : Inserted none 0 one) where
  only_zero : (k : ℕ) → In one k → k ≡ 0
  only_zero k h = ⊎_elim (λ o. absurd (empty k o)) (λ e. e.0) (ins.only k h)

  pub zero_kernel : (g : Grammar) → KernelOf g one
  zero_kernel g k h = subst (λ z. z < item_count g) (sym (only_zero k h)) (dotted_below g 0 (item_zero g))

  pub zero_closure : Row one → (g : Grammar) → closure g (members one) ≡ initial g
  zero_closure row g =
      closure_same g (members one) (0 ∷ [])
      (λ k. (
        (λ m. Memᴰ.head (only_zero k (members_in one k m))),
        (λ m. ⊎_elim (λ e. subst (λ z. Memᴰ z (members one)) (sym e) (in_members one row 0 (ins.added (omega arith)))) (λ z. absurd (Memᴰ.not-nil z)) (Memᴰ.cases_cons m)),
      ))
