-- Entries that are judged one after the other.
use Rattle.std.proofs.Common.{◌≡◌, ℕ, suc, ◌+◌, ◌-◌, ◌<◌, ◌≤◌, List, length, get_or, Ok, Err, sym, subst, ⊎_elim, arith}
use Rattle.std.proofs.lemmas.Bool.{cases_lt}
use Rattle.book.specs.declared.fault.BookFault.{BookFault}
use Rattle.book.specs.Refusals.{refusal}
use Rattle.book.specs.Flaws.{SoundTo, InRange, HeaderFault}
use Rattle.book.specs.Flaws.HeaderFault.{missing, range}
use Rattle.book.specs.Checks.{Between}

pub sound_none : (Right : ℕ → Type 0) (es : List ℕ) → SoundTo Right es 0
sound_none Right es j h = absurd (omega arith)

pub sound_more : (Right : ℕ → Type 0) (es : List ℕ) (i : ℕ) → SoundTo Right es i → i < length es → Right i → SoundTo Right es (suc i)
sound_more Right es i s p r j h =
    ⊎_elim (λ l. s j l) (λ l. let e : i ≡ j = omega arith in (omega arith, subst Right e r)) (cases_lt j i)

pub header_fault : (es : List ℕ) (i least most : ℕ) {f : BookFault} → i < 4 → SoundTo (InRange es) es i → (InRange es i → (least ≤ get_or es i 0) × (get_or es i 0 ≤ most))
    → Between es i least most (Err f) → HeaderFault es (refusal f)
header_fault es i least most below before bounds b =
    ⊎_elim
    (λ m. subst (λ y. HeaderFault es (refusal y)) (sym m.1) (missing i (record { within = below; before = before; absent = m.0 })))
    (λ w. subst (λ y. HeaderFault es (refusal y)) (sym w.2)
    (range i (record { within = below; before = before; present = w.0; wrong = λ r. w.1 (bounds r).0 (bounds r).1 })))
    b

-- the header's entries, one after the other: the fault of each where those before it are in their ranges
module _ (es : List ℕ) where
  pub words_fault : {f : BookFault} → Between es 0 1 1024 (Err f) → HeaderFault es (refusal f)
  words_fault b = header_fault es 0 1 1024 (omega arith) (sound_none (InRange es) es) (λ r. r) b

  module _ (w : ℕ) (words : Between es 0 1 1024 (Ok w)) where
    sound_one : SoundTo (InRange es) es 1
    sound_one = sound_more (InRange es) es 0 (sound_none (InRange es) es) words.0 (omega arith, omega arith)

    pub names_fault : {f : BookFault} → Between es 1 1 1024 (Err f) → HeaderFault es (refusal f)
    names_fault b = header_fault es 1 1 1024 (omega arith) sound_one (λ r. r) b

    module _ (n : ℕ) (names : Between es 1 1 1024 (Ok n)) where
      sound_two : SoundTo (InRange es) es 2
      sound_two = sound_more (InRange es) es 1 sound_one names.0 (omega arith, omega arith)

      pub start_fault : {f : BookFault} → Between es 2 w (w + n - 1) (Err f) → HeaderFault es (refusal f)
      start_fault b = header_fault es 2 w (w + n - 1) (omega arith) sound_two (λ r. (omega arith, omega arith)) b

      pub rules_fault : (s : ℕ) → Between es 2 w (w + n - 1) (Ok s) → {f : BookFault} → Between es 3 0 2048 (Err f) → HeaderFault es (refusal f)
      rules_fault s start b =
          header_fault es 3 0 2048 (omega arith) (sound_more (InRange es) es 2 sound_two start.0 (omega arith, omega arith)) (λ r. (omega arith, r)) b
