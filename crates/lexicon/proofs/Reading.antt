-- How bytes are read: where the first that is no letter stands, and how a spelling lies in its array.
use Rattle.std.proofs.Common.{◌≡◌, ℕ, ◌<◌, ◌≤◌, min, List, length, take, Some, None, Option, MatchOption, sym, ◌∙◌, subst, ⊎_elim, arith, length-take-le, get_or-take}
use Rattle.std.specs.List.{AllWithin, HoldsAt}
use Rattle.std.proofs.lemmas.Bool.{cases_lt}
use Rattle.lexicon.specs.Spellings.{IsLetter, LettersTo, IsSpelling, BadAt}
use Rattle.lexicon.specs.Spellings.BadAt.{none, other, long}

-- what a search of the first bytes tells: the first byte that is no letter, or that all are letters
abbrev pub Searched : List ℕ → Option ℕ → Type 0
Searched front r = MatchOption r (AllWithin IsLetter front 0 (length front))
    (λ i. (i < length front) × HoldsAt (λ x. IsLetter x → ⊥) front i × AllWithin IsLetter front 0 i)

module _ (bytes : List ℕ) (m : ℕ) (is : m ≡ min (length bytes) 16) where
  front_long : length (take m bytes) ≡ m
  front_long = length-take-le m bytes (omega arith)

  letters : (n : ℕ) → n ≤ m → AllWithin IsLetter (take m bytes) 0 n → LettersTo bytes n
  letters n l all k h = subst IsLetter (get_or-take m bytes k 0 (omega arith)) (all k 0 (omega arith) h)

  pub other_bad : (i : ℕ) → Searched (take m bytes) (Some i) → BadAt bytes i
  other_bad i (l, not, before) =
      let b : i < m = omega (arith, l, front_long) in
      other (omega arith) (omega arith) (letters i (omega arith) before) (λ y. not 0 (subst IsLetter (sym (get_or-take m bytes i 0 b)) y))

  all_letters : Searched (take m bytes) None → LettersTo bytes m
  all_letters all = letters m (omega arith) (subst (AllWithin IsLetter (take m bytes) 0) front_long all)

  pub fit_good : Searched (take m bytes) None → 1 ≤ length bytes → length bytes ≤ 16 → IsSpelling bytes
  fit_good all l h =
      record { some = omega arith; few = h; letters = let e : m ≡ length bytes = omega arith in subst (LettersTo bytes) e (all_letters all) }

  pub unfit_bad : Searched (take m bytes) None → (1 ≤ length bytes → length bytes ≤ 16 → ⊥) → BadAt bytes (length (take m bytes))
  unfit_bad all unfit =
      ⊎_elim
      (λ e. let z : 0 ≡ length (take m bytes) = omega (arith, front_long) in subst (BadAt bytes) z (none (omega arith)))
      (λ h. ⊎_elim
      (λ l. let s : 16 ≡ m = omega arith in subst (BadAt bytes) (s ∙ sym front_long) (long (omega arith) (subst (LettersTo bytes) (sym s) (all_letters all))))
      (λ l. absurd (unfit h l))
      (cases_lt 16 (length bytes)))
      (cases_lt (length bytes) 1)
