-- Where the items on a way come from: the rule of each item, and the place where it began.
use Rattle.std.proofs.Common.{◌≡◌, ℕ, ◌⊎◌, List, [], ◌∷◌, ◌++◌, sym, refl, ap, ◌∙◌, subst, inl, inr, ⊎_elim, append_assoc, append-nil}
use Rattle.book.specs.Grammar.{Grammar, symbols, Rewrites}
use Rattle.theory.proofs.Graphs.{Graph, Lawful, Closes, Over, Way}
use Rattle.theory.proofs.Graphs.Closes.{kernel, opened}
use Rattle.theory.proofs.Graphs.Way.{from, over}

pub closes_cases : {g : Grammar} {K : ℕ → List ℕ → List ℕ → Type 0} {a : ℕ} {l r : List ℕ} → Closes g K a l r → K a l r ⊎ ((l ≡ []) × Rewrites g a r)
closes_cases (kernel k) = inl k
closes_cases (opened i r) = inr (refl, r)

-- every rule of an item is a rule of the grammar or the added one
pub data Ruled (g : Grammar) (a : ℕ) (l r : List ℕ) : Type 0 where
  added : a ≡ symbols g → l ++ r ≡ g.start ∷ [] → Ruled g a l r
  given : Rewrites g a (l ++ r) → Ruled g a l r

ruled_[] : {g : Grammar} {a : ℕ} (l r : List ℕ) → (l ≡ []) × Rewrites g a r → Ruled g a l r
ruled_[] {g} {a} l r (e, h) = given (subst (λ k. Rewrites g a (k ++ r)) (sym e) h)

module _ {g : Grammar} {G : Graph} (m : Lawful g G) where
  pub ruled : {p : ℕ} {γ : List ℕ} → Way G.moves p γ → {a : ℕ} {l r : List ℕ} → G.Item p a l r → Ruled g a l r
  ruled from {a} {l} {r} i =
      ⊎_elim (λ f. added f.left (ap (λ k. k ++ r) f.none ∙ f.whole)) (ruled_[] l r) (closes_cases (m.zeroth_items.0 i))
  ruled (over {q = q} {x = x} w v) {a} {l} {r} i = ⊎_elim (λ f. again f (ruled w f.was)) (ruled_[] l r) (closes_cases ((m.move_items v).0 i))
    where
      again : (f : Over (G.Item q) x a l r) → Ruled g a f.rest (x ∷ r) → Ruled g a l r
      again f (added e h) = added e (ap (λ k. k ++ r) f.is ∙ append_assoc f.rest (x ∷ []) r ∙ h)
      again f (given h) = given (subst (Rewrites g a) (sym (ap (λ k. k ++ r) f.is ∙ append_assoc f.rest (x ∷ []) r)) h)

  -- an item a → l · r on the way γ: γ ends in l, and a → · l r stood where l began
  pub record Begun (γ : List ℕ) (a : ℕ) (l r : List ℕ) : Type 0 where
    pub place : ℕ
    pub before : List ℕ
    pub way : Way G.moves place before
    pub item : G.Item place a [] (l ++ r)
    pub joins : γ ≡ before ++ l

  begun_[] : {p : ℕ} {γ : List ℕ} → Way G.moves p γ → {a : ℕ} {l r : List ℕ} → G.Item p a l r → l ≡ [] → Begun γ a l r
  begun_[] {p} {γ} w {a} {l} {r} i e =
      record {
        place = p;
        before = γ;
        way = w;
        item = subst (G.Item p a []) (ap (λ k. k ++ r) (sym e)) (subst (λ k. G.Item p a k r) e i);
        joins = sym (ap (λ k. γ ++ k) e ∙ append-nil γ);
      }

  pub begun : {p : ℕ} {γ : List ℕ} → Way G.moves p γ → {a : ℕ} {l r : List ℕ} → G.Item p a l r → Begun γ a l r
  begun from i = ⊎_elim (λ f. begun_[] from i f.none) (λ h. begun_[] from i h.0) (closes_cases (m.zeroth_items.0 i))
  begun (over {q = q} {x = x} {xs = xs} w v) {a} {l} {r} i =
      ⊎_elim (λ f. again f (begun w f.was)) (λ h. begun_[] (over w v) i h.0) (closes_cases ((m.move_items v).0 i))
    where
      again : (f : Over (G.Item q) x a l r) → Begun xs a f.rest (x ∷ r) → Begun (xs ++ (x ∷ [])) a l r
      again f u =
          record {
            place = u.place;
            before = u.before;
            way = u.way;
            item = subst (G.Item u.place a []) (sym (ap (λ k. k ++ r) f.is ∙ append_assoc f.rest (x ∷ []) r)) u.item;
            joins = ap (λ k. k ++ (x ∷ [])) u.joins ∙ append_assoc u.before f.rest (x ∷ []) ∙ ap (λ k. u.before ++ k) (sym f.is);
          }
