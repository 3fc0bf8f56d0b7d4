-- Lists by place: what stands where, lists without repetition, lists in order.
use Rattle.std.specs.Prelude.{◌≡◌, ℕ, ◌<◌, Bool, List, Decides}
use Rattle.std.proofs.Math.Option.{some}
use Rattle.std.proofs.Math.ListN.{get_elem?}

-- an equality test that decides ≡
abbrev pub Exact : {E : Type 0} → (E → E → Bool → Type 0) → Type 0
Exact {E} equals = (x y : E) (r : Bool) → equals x y r → Decides r (x ≡ y)

-- t stands in the list at place k
abbrev pub StandsAt : {A : Type 0} → List A → ℕ → A → Type 0
StandsAt ts k t = get_elem? ts k ≡ some t

-- t stands nowhere in the list
abbrev pub Lacks : {A : Type 0} → List A → A → Type 0
Lacks ts t = (k : ℕ) → StandsAt ts k t → ⊥

-- nothing stands in the list twice
abbrev pub Distinct : {A : Type 0} → List A → Type 0
Distinct {A} ts = (j k : ℕ) (t : A) → StandsAt ts j t → StandsAt ts k t → j ≡ k

-- what stands earlier comes first in the order R
abbrev pub InOrder : {A : Type 0} → (A → A → Type 0) → List A → Type 0
InOrder {A} R ts = (j k : ℕ) (t u : A) → j < k → StandsAt ts j t → StandsAt ts k u → R t u

-- numbers that strictly rise
abbrev pub Ascending : List ℕ → Type 0
Ascending ks = InOrder ◌<◌ ks
