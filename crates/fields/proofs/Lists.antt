-- Facts of lists that know nothing of files.
use Rattle.std.proofs.Common.{◌≡◌, List, [], ◌∷◌, ◌++◌, length, sym, refl, ap, ◌∙◌, append_assoc, arith}
use Rattle.std.specs.List.{flat_map}
use Rattle.std.proofs.lemmas.Grind.{flat_map-append}

pub joined_joined : {X Y A : Type 0} (f : X → List A) (g : Y → List X) (ys : List Y) → flat_map (λ y. flat_map f (g y)) ys ≡ flat_map f (flat_map g ys)
joined_joined f g [] = refl
joined_joined f g (y ∷ ys) = ap (λ l. flat_map f (g y) ++ l) (joined_joined f g ys) ∙ sym (flat_map-append f (g y) (flat_map g ys))

-- as many elements, and then the rest, are equal where their texts are
module _ {X A : Type 0} (text : X → List A) (first_same : (x y : X) (us vs : List A) → text x ++ us ≡ text y ++ vs → (x ≡ y) × (us ≡ vs)) where
  pub all_same : (xs ys : List X) (us vs : List A) → length xs ≡ length ys → flat_map text xs ++ us ≡ flat_map text ys ++ vs → (xs ≡ ys) × (us ≡ vs)
  all_same [] [] us vs l e = (refl, e)
  all_same [] (y ∷ ys) us vs l e = absurd (omega arith)
  all_same (x ∷ xs) [] us vs l e = absurd (omega arith)
  all_same (x ∷ xs) (y ∷ ys) us vs l e =
      let (p, more) = first_same x y _ _ (sym (append_assoc (text x) (flat_map text xs) us) ∙ e ∙ append_assoc (text y) (flat_map text ys) vs) in
      let (q, rest) = all_same xs ys us vs (omega arith) more in
      ((λ i. p i ∷ q i), rest)
