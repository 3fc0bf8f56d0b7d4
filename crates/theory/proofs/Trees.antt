-- Derivation trees: what a list of symbols derives, symbol by symbol.
use Rattle.std.proofs.Common.{◌≡◌, ℕ, ◌<◌, List, [], ◌∷◌, ◌++◌, sym, refl, ap, ◌∙◌, subst, append_assoc}
use Rattle.book.specs.Grammar.{Grammar, Rewrites, Step, DerivedFrom, Sentence}
use Rattle.book.specs.Grammar.DerivedFrom.{done, more}

-- derivation trees of the symbols of a list, side by side
pub data Yields (g : Grammar) : List ℕ → List ℕ → Type 0 where
  nil : Yields g [] []
  word : {x : ℕ} {xs w : List ℕ} → x < g.words → Yields g xs w → Yields g (x ∷ xs) (x ∷ w)
  name : {a : ℕ} {side xs u v : List ℕ} → Rewrites g a side → Yields g side u → Yields g xs v → Yields g (a ∷ xs) (u ++ v)

pub record Split (g : Grammar) (xs ys w : List ℕ) : Type 0 where
  pub front : List ℕ
  pub back : List ℕ
  pub first : Yields g xs front
  pub second : Yields g ys back
  pub joins : w ≡ front ++ back

pub split : {g : Grammar} (xs : List ℕ) {ys w : List ℕ} → Yields g (xs ++ ys) w → Split g xs ys w
split [] y = record { front = []; back = _; first = nil; second = y; joins = refl }
split (x ∷ xs) (word h y) =
    let s = split xs y in
    record { front = x ∷ s.front; back = s.back; first = word h s.first; second = s.second; joins = ap (λ l. x ∷ l) s.joins }
split (x ∷ xs) (name {u = u} r t y) =
    let s = split xs y in
    record { front = u ++ s.front; back = s.back; first = name r t s.first; second = s.second; joins = ap (λ l. u ++ l) s.joins ∙ sym (append_assoc u s.front s.back) }

pub join : {g : Grammar} {xs ys u v : List ℕ} → Yields g xs u → Yields g ys v → Yields g (xs ++ ys) (u ++ v)
join nil z = z
join (word h y) z = word h (join y z)
join {g} {v = w} (name {u = u} {v = v} r t y) z = subst (Yields g _) (sym (append_assoc u v w)) (name r t (join y z))

pub flat : (g : Grammar) (w : List ℕ) → Sentence g w → Yields g w w
flat g [] s = nil
flat g (x ∷ w) s = word s.0 (flat g w s.1)

pub unstep : {g : Grammar} {xs ys w : List ℕ} → Step g xs ys → Yields g ys w → Yields g xs w
unstep {g} {w = w} s y =
    let p = split s.before (subst (λ l. Yields g l w) s.to y) in
    let q = split s.side p.second in
    subst (λ l. Yields g l w) (sym s.from)
    (subst (Yields g _) (sym (p.joins ∙ ap (λ l. p.front ++ l) q.joins)) (join p.first (name s.rewrites q.first q.second)))

pub tree : {g : Grammar} (w : List ℕ) {xs : List ℕ} → Sentence g w → DerivedFrom g w xs → Yields g xs w
tree {g} w s done = flat g w s
tree w s (more h d) = unstep h (tree w s d)
