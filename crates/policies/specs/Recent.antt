-- The last states left: each list has one entry.
use Rattle.std.specs.Prelude.{◌≡◌, ℕ, List, [], ◌∷◌, refl}
use Rattle.std.proofs.Common.{sym, ap, ◌∙◌}
use Rattle.table.specs.declared.numbers.StateNo.{StateNo}
use Rattle.theory.specs.Policies.{listed}
use Rattle.policies.specs.declared.last.Lefts.{Lefts}
use Rattle.policies.specs.declared.last.Lefts.TheVariants.{Zero, One, Two, Three, Four}
use Rattle.policies.specs.Lasts.{lefts, last_class}

abbrev state : ℕ → StateNo
state n = record { 0 = n }

-- the entry of a list
entry : List ℕ → Lefts
entry [] = Zero
entry (a ∷ []) = One (state a)
entry (a ∷ (b ∷ [])) = Two (state a) (state b)
entry (a ∷ (b ∷ (c ∷ []))) = Three (state a) (state b) (state c)
entry (a ∷ (b ∷ (c ∷ (d ∷ l)))) = Four (state a) (state b) (state c) (state d)

entry_lefts : (e : Lefts) → entry (lefts e) ≡ e
unfolding entry
entry_lefts Zero = refl
entry_lefts (One a) = refl
entry_lefts (Two a b) = refl
entry_lefts (Three a b c) = refl
entry_lefts (Four a b c d) = refl

pub one_entry : (x y : Lefts) → last_class x ≡ last_class y → x ≡ y
one_entry x y e = sym (entry_lefts x) ∙ ap entry (ap listed e) ∙ entry_lefts y
