-- What is found of each rule, said of the grammar.
use Rattle.std.proofs.Common.{◌≡◌, ℕ, ◌<◌, Bool, true, List, [], ◌∷◌, ◌++◌, length, Decides, Ok, sym, refl, subst, ⊎_elim}
use mathlib.Core.List.Memᴰ
use mathlib.Core.List.{Memᴰ}
use Rattle.std.specs.List.{AllByRecursion}
use Rattle.std.proofs.lemmas.Bool.Decides.{Decides-like}
use Rattle.book.specs.declared.linear.Linearity.{Linearity}
use Rattle.book.specs.declared.reader.Summary.{Summary}
use Rattle.book.specs.Grammar.{Rule, rule, Grammar, LeftLinear, RightLinear}
use Rattle.book.specs.Shapes.{LeftSide, RightSide, Shaped}
use Rattle.book.proofs.Held.{Known}
use Rattle.book.proofs.Sides.{left_short, right_short}

all_member : (P : Rule → Type 0) (rs : List Rule) (r : Rule) → AllByRecursion P rs → Memᴰ r rs → P r
all_member P [] r a m = absurd (Memᴰ.not-nil m)
all_member P (s ∷ rs) r (p, a) m = ⊎_elim (λ e. subst P (sym e) p) (λ k. all_member P rs r a k) (Memᴰ.cases_cons m)

all_each : (P : Rule → Type 0) (rs : List Rule) → ((r : Rule) → Memᴰ r rs → P r) → AllByRecursion P rs
all_each P [] f = tt
all_each P (r ∷ rs) f = (f r (Memᴰ.head refl), all_each P rs (λ s m. f s (Memᴰ.tail m)))

pub left_decided : (g : Grammar) (w : ℕ) (l : Bool) → g.words ≡ w → Decides l (AllByRecursion (λ r. LeftSide w r.right) g.rules) → Decides l (LeftLinear g)
left_decided g w l e d =
    Decides-like l
    (λ a b x rest m. all_member (λ k. LeftSide g.words k.right) g.rules (rule b (x ∷ rest)) a m x rest refl)
    (λ f. all_each (λ k. LeftSide g.words k.right) g.rules (λ k m x rest e. f k.left x rest (subst (λ z. Memᴰ (rule k.left z) g.rules) e m)))
    (subst (λ n. Decides l (AllByRecursion (λ r. LeftSide n r.right) g.rules)) (sym e) d)

pub right_decided : (g : Grammar) (w : ℕ) (l : Bool) → g.words ≡ w → Decides l (AllByRecursion (λ r. RightSide w r.right) g.rules) → Decides l (RightLinear g)
right_decided g w l e d =
    Decides-like l
    (λ a b x beginning m. all_member (λ k. RightSide g.words k.right) g.rules (rule b (beginning ++ (x ∷ []))) a m x beginning refl)
    (λ f. all_each (λ k. RightSide g.words k.right) g.rules (λ k m x beginning e. f k.left x beginning (subst (λ z. Memᴰ (rule k.left z) g.rules) e m)))
    (subst (λ n. Decides l (AllByRecursion (λ r. RightSide n r.right) g.rules)) (sym e) d)

-- what is found so far, and a property of each rule of a rest, tell the property of all rules
abbrev SoFar : (Rule → Type 0) → List Rule → List Rule → Bool → Type 0
SoFar P all rest r = (r ≡ true → AllByRecursion P rest → AllByRecursion P all) × (AllByRecursion P all → (r ≡ true) × AllByRecursion P rest)

so_far_more : (P : Rule → Type 0) (all rest new : List Rule) (x : Rule) (r t : Bool)
    → SoFar P all rest r → rest ≡ x ∷ new → Decides t ((r ≡ true) × P x) → SoFar P all new t
so_far_more P all rest new x r t s e d = (
  (λ h a. let (g, p) = d.0 h in s.0 g (subst (AllByRecursion P) (sym e) (p, a))),
  (λ w. let (g, a) = s.1 w in let (p, b) = subst (AllByRecursion P) e a in (d.1 (g, p), b)),
)

so_far_all : (P : Rule → Type 0) (all rest : List Rule) (r : Bool) → SoFar P all rest r → (r ≡ true → rest ≡ []) → Decides r (AllByRecursion P all)
so_far_all P all rest r s h = ((λ e. s.0 e (subst (AllByRecursion P) (sym (h e)) tt)), (λ w. (s.1 w).0))

abbrev IsLeft : Summary → Rule → Type 0
IsLeft book r = LeftSide book.words r.right

abbrev IsRight : Summary → Rule → Type 0
IsRight book r = RightSide book.words r.right

-- what is found so far of both facts, where these rules are still to be looked at
pub record Looked (t : List ℕ) (book : Summary) (rest : List Rule) (shape : Linearity) : Type 0 where
  pub known : Known t book
  pub left : SoFar (IsLeft book) known.grammar.rules rest shape.left
  pub right : SoFar (IsRight book) known.grammar.rules rest shape.right

module _ {t : List ℕ} {book : Summary} where
  pub looked_none : {rest : List Rule} (k : Known t book) → rest ≡ k.grammar.rules → Looked t book rest (record { left = true; right = true })
  looked_none k e =
      record {
        known = k;
        left = ((λ _ a. subst (AllByRecursion (IsLeft book)) e a), (λ a. (refl, subst (AllByRecursion (IsLeft book)) (sym e) a)));
        right = ((λ _ a. subst (AllByRecursion (IsRight book)) e a), (λ a. (refl, subst (AllByRecursion (IsRight book)) (sym e) a)));
      }

  pub looked_more : {rest new : List Rule} {x : Rule} {shape next : Linearity} → Looked t book rest shape → rest ≡ x ∷ new
      → Decides next.left ((shape.left ≡ true) × IsLeft book x) → Decides next.right ((shape.right ≡ true) × IsRight book x) → Looked t book new next
  looked_more {rest} {new} {x} {shape} {next} k e l r =
      let all = k.known.grammar.rules in
      record {
        known = k.known;
        left = so_far_more (IsLeft book) all rest new x shape.left next.left k.left e l;
        right = so_far_more (IsRight book) all rest new x shape.right next.right k.right e r;
      }

  -- a right side of one symbol at most changes nothing
  pub looked_short : {rest new : List Rule} {x : Rule} {shape : Linearity} → Looked t book rest shape → rest ≡ x ∷ new → length x.right < 2 → Looked t book new shape
  looked_short {x = x} k e h = looked_more k e ((λ f. (f, left_short book.words x.right h)), (λ p. p.0)) ((λ f. (f, right_short book.words x.right h)), (λ p. p.0))

  -- a fact that is lost is told at once, and one that is not lost once no rules are left
  pub looked_all : {rest : List Rule} {shape : Linearity} → Looked t book rest shape → (shape.left ≡ true → rest ≡ []) → (shape.right ≡ true → rest ≡ []) → Shaped t (Ok shape)
  looked_all {rest} {shape} k l r =
      let g = k.known.grammar in (
        g,
        k.known.holds,
        left_decided g book.words shape.left k.known.words (so_far_all (IsLeft book) g.rules rest shape.left k.left l),
        right_decided g book.words shape.right k.known.words (so_far_all (IsRight book) g.rules rest shape.right k.right r),
      )
