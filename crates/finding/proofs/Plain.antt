-- What a space answers that keeps nothing of its own.
use Rattle.std.proofs.Common.{◌≡◌, ℕ, List, [], ◌∷◌, ◌++◌, map, Some, sym, refl, ◌∙◌, subst}
use Rattle.table.specs.Lists.{StandsAt}
use Rattle.table.proofs.Lists.{stands_unmap}
use Rattle.finding.specs.Spaces.{Reached}

-- no entry found stands for the same thing as a unless it is a
pub plain : {E A : Type 0} (f : E → A) (ready : List E → Type 0) (room : List A → A → Type 0) (es : List E) (t : A) (a : E) → ((k : ℕ) (x : E) → StandsAt es k x → f x ≡ f a → x ≡ a) → f a ≡ t → ready es → ready (es ++ (a ∷ [])) → room (map f es) t → Reached f f ready room es t (Some a)
plain f ready room es t a one is now grown free = (
  is,
  refl,
  (λ _ _. now),
  (λ lacks.
      ((λ k s. let u = stands_unmap f es k t s in lacks k (subst (λ v. StandsAt es k v) (one k u.0 u.1 (u.2 ∙ sym is)) u.1)), free, grown)),
)
