-- Left-linear grammars: what is read is derived.
use Rattle.std.proofs.Common.{◌≡◌, ℕ, ◌≤◌, List, [], ◌∷◌, ◌++◌, sym, refl, ap, ◌∙◌, subst, append_assoc, append-nil, arith}
use Rattle.book.specs.Grammar.{Grammar, symbols, DerivedFrom, LeftLinear}
use Rattle.book.specs.Grammar.DerivedFrom.{done, more}
use Rattle.theory.specs.Flattening.{Acceptor}
use Rattle.theory.specs.Sentences.{Reads}
use Rattle.theory.specs.Sentences.Reads.{stop, arc, jump}
use Rattle.theory.proofs.Graphs.{Graph, Move, Lawful, Flat, Closes, Over, Way, way_to}
use Rattle.theory.proofs.Graphs.Closes.{kernel, opened}
use Rattle.theory.proofs.Graphs.Way.{from, over}
use Rattle.theory.proofs.Begun.{Ruled, ruled, begun}
use Rattle.theory.proofs.Begun.Ruled.{added, given}
use Rattle.theory.proofs.Lists.{snoc_not_nil}
use Rattle.theory.proofs.Steps.{step_last, derives_front, sentence_at}

module _ {g : Grammar} {G : Graph} (m : Lawful g G) (linear : LeftLinear g) where
  -- past the first symbol of a right side stands no name
  no_name : {a c y : ℕ} (l r : List ℕ) → Ruled g a (y ∷ l) (c ∷ r) → g.words ≤ c → ⊥
  no_name {c = c} l r (given h) n = let k = sentence_at g l c r (linear _ _ (l ++ (c ∷ r)) h.1) in omega arith
  no_name [] r (added e h) n = cc
  no_name (z ∷ l) r (added e h) n = cc

  begun_only : {q p x : ℕ} {γ : List ℕ} → Way G.moves q γ → Move G q x p → {a : ℕ} {l r : List ℕ} → Closes g (Over (G.Item q) x) a l r → l ≡ [] → ⊥
  begun_only w v (kernel f) e = snoc_not_nil f.rest _ (sym f.is ∙ e)
  begun_only w v (opened {l = []} {r = r} i h) e = begun_only w v i refl
  begun_only w v (opened {l = y ∷ l} {r = r} i h) e = no_name l r (ruled m (over w v) ((m.move_items v).1 i)) h.0

  -- only place 0 has items with the dot in front
  zero_only : {p : ℕ} {γ : List ℕ} → Way G.moves p γ → {a : ℕ} {r : List ℕ} → G.Item p a [] r → (p ≡ 0) × (γ ≡ [])
  zero_only from i = (refl, refl)
  zero_only (over w v) i = absurd (begun_only w v ((m.move_items v).0 i) refl)

  -- what leads to an item is its own left part
  own : {p : ℕ} {γ : List ℕ} → Way G.moves p γ → {a : ℕ} {l r : List ℕ} → G.Item p a l r → γ ≡ l
  own w {l = l} i = let u = begun m w i in u.joins ∙ ap (λ k. k ++ l) (zero_only u.way u.item).1

  -- only place 0 moves on a name
  from_zero : {q p a : ℕ} {γ : List ℕ} → Way G.moves q γ → Move G q a p → g.words ≤ a → q ≡ 0
  from_zero {q} {a = c} w v n = go (m.move_only v).1 (m.move_only v).3
    where
      go : (l : List ℕ) → G.Item q (m.move_only v).0 l (c ∷ (m.move_only v).2) → q ≡ 0
      go [] i = (zero_only w i).0
      go (y ∷ l) i = absurd (no_name l _ (ruled m w i) n)

  left_reads : {f : Acceptor} (fl : Flat g G f) {q p : ℕ} {w : List ℕ} → Reads f q w p → G.Item p (symbols g) (g.start ∷ []) [] → {γ u : List ℕ} → Way G.moves q γ → DerivedFrom g u γ → DerivedFrom g (u ++ w) (g.start ∷ [])
  left_reads fl stop i {γ} {u} y d = subst (λ k. DerivedFrom g k (g.start ∷ [])) (sym (append-nil u)) (subst (DerivedFrom g u) (own y i) d)
  left_reads fl (arc {q = q} {r = r} {x = x} {w = w} e t) i {γ} {u} y d =
      let (v, h) = (fl.arcs q x r).0 e in
      subst (λ k. DerivedFrom g k (g.start ∷ [])) (append_assoc u (x ∷ []) w) (left_reads fl t i (over y v) (derives_front (x ∷ []) d))
  left_reads fl (jump {q = q} {r = r} e t) i {γ} {u} y d =
      let j = (fl.jumps q r).0 e in
      left_reads fl t i
      (over from (subst (λ q. Move G q j.left r) (from_zero (way_to (m.reached j.over).1) j.over j.rewrites.0) j.over))
      (more (step_last [] j.rewrites) (subst (DerivedFrom g u) (own y j.item) d))

  pub left_exact : {f : Acceptor} → Flat g G f → {p : ℕ} {w : List ℕ} → Reads f 0 w p → G.Item p (symbols g) (g.start ∷ []) [] → DerivedFrom g w (g.start ∷ [])
  left_exact fl t i = left_reads fl t i from done
