-- Checks all pass, or have one first fault, and never both.
use Rattle.std.proofs.Common.{◌≡◌, ℕ, List, refl, arith}
use Rattle.std.specs.List.{AllByRecursion}
use Rattle.book.specs.declared.fault.Refusal.{Refusal}
use Rattle.fields.specs.Flaws.{Check, Passes, Fault, First}
use Rattle.fields.specs.Flaws.Fault.{early, wrong}
use Rattle.fields.specs.Flaws.First.{here, later}

module _ {bytes : List ℕ} where
  fault_not : {c : Check} {f : Refusal} → Passes bytes c → Fault bytes c f → ⊥
  fault_not (p, r) (early l) = omega arith
  fault_not (p, r) (wrong l w) = w r

  fault_one : {c : Check} {f g : Refusal} → Fault bytes c f → Fault bytes c g → f ≡ g
  fault_one (early l) (early m) = refl
  fault_one (early l) (wrong m w) = absurd (omega arith)
  fault_one (wrong l w) (early m) = absurd (omega arith)
  fault_one (wrong l w) (wrong m v) = refl

  pub first_not : {cs : List Check} {f : Refusal} → First bytes cs f → AllByRecursion (Passes bytes) cs → ⊥
  first_not (here x) (p, a) = fault_not p x
  first_not (later q x) (p, a) = first_not x a

  pub first_one : {cs : List Check} {f g : Refusal} → First bytes cs f → First bytes cs g → f ≡ g
  first_one (here x) (here y) = fault_one x y
  first_one (here x) (later q y) = absurd (fault_not q x)
  first_one (later q x) (here y) = absurd (fault_not q y)
  first_one (later q x) (later r y) = first_one x y
