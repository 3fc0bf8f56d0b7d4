-- Right-linear grammars: what is read is derived.
use Rattle.std.proofs.Common.{◌≡◌, ℕ, ◌≤◌, List, [], ◌∷◌, ◌++◌, sym, refl, ap, ◌∙◌, subst, append_assoc, append-nil, arith}
use Rattle.book.specs.Grammar.{Grammar, symbols, Rewrites, DerivedFrom, Sentence, RightLinear}
use Rattle.book.specs.Grammar.DerivedFrom.{done}
use Rattle.theory.specs.Flattening.{Acceptor}
use Rattle.theory.specs.Sentences.{Reads}
use Rattle.theory.specs.Sentences.Reads.{stop, arc, jump}
use Rattle.theory.proofs.Graphs.{Graph, Lawful, Flat, Returns, Closes, Over, Way, way_to}
use Rattle.theory.proofs.Graphs.Closes.{kernel, opened}
use Rattle.theory.proofs.Graphs.Way.{from, over}
use Rattle.theory.proofs.Begun.{Ruled, ruled}
use Rattle.theory.proofs.Begun.Ruled.{added, given}
use Rattle.theory.proofs.Steps.{step_last, derives_more, sentence_at, sentence_push}

one_last : (l : List ℕ) (c : ℕ) (r : List ℕ) {y : ℕ} → l ++ (c ∷ r) ≡ y ∷ [] → (l ≡ []) × (c ≡ y) × (r ≡ [])
one_last [] c r e = (refl, cc, cc)
one_last (x ∷ []) c r e = absurd (cc)
one_last (x ∷ (y ∷ l)) c r e = absurd (cc)

-- a list that is not empty has a last element
record Ended (xs : List ℕ) : Type 0 where
  beginning : List ℕ
  final : ℕ
  joins : xs ≡ beginning ++ (final ∷ [])

ended : (x : ℕ) (xs : List ℕ) → Ended (x ∷ xs)
ended x [] = record { beginning = []; final = x; joins = refl }
ended x (y ∷ xs) = let e = ended y xs in record { beginning = x ∷ e.beginning; final = e.final; joins = ap (λ l. x ∷ l) e.joins }

-- after a name in a right side stands nothing
rest_none : (g : Grammar) → RightLinear g → (a c : ℕ) (l r : List ℕ) → Rewrites g a (l ++ (c ∷ r)) → g.words ≤ c → r ≡ []
rest_none g linear a c l [] h n = refl
rest_none g linear a c l (x ∷ r) h n =
    let e = ended x r in
    let joins : l ++ (c ∷ (x ∷ r)) ≡ (l ++ (c ∷ e.beginning)) ++ (e.final ∷ []) =
    ap (λ k. l ++ (c ∷ k)) e.joins ∙ sym (append_assoc l (c ∷ e.beginning) (e.final ∷ [])) in
    let s = linear a e.final (l ++ (c ∷ e.beginning)) (subst (Rewrites g a) joins h).1 in
    let k = sentence_at g l c e.beginning s in absurd (omega arith)

module _ {g : Grammar} {G : Graph} (m : Lawful g G) (linear : RightLinear g) (named : g.words ≤ g.start) where
  name_last : (l : List ℕ) (c : ℕ) (r : List ℕ) {a : ℕ} → Ruled g a l (c ∷ r) → g.words ≤ c → r ≡ []
  name_last l c r (added e h) n = (one_last l c r h).2
  name_last l c r {a} (given h) n = rest_none g linear a c l r h n

  -- the words so far with the name of the item's left side are derived
  data Viable (γ : List ℕ) (a : ℕ) (l r : List ℕ) : Type 0 where
    outer : γ ≡ l → l ++ r ≡ g.start ∷ [] → Viable γ a l r
    inner : (d : List ℕ) → γ ≡ d ++ l → Rewrites g a (l ++ r) → DerivedFrom g (d ++ (a ∷ [])) (g.start ∷ []) → Viable γ a l r

  viable_push : (x : ℕ) {γ : List ℕ} {a : ℕ} (rest l r : List ℕ) → l ≡ rest ++ (x ∷ []) → Viable γ a rest (x ∷ r) → Viable (γ ++ (x ∷ [])) a l r
  viable_push x rest l r e (outer h k) = outer (ap (λ u. u ++ (x ∷ [])) h ∙ sym e) (ap (λ u. u ++ r) e ∙ append_assoc rest (x ∷ []) r ∙ k)
  viable_push x {a = a} rest l r e (inner d k h t) =
      inner d (ap (λ u. u ++ (x ∷ [])) k ∙ append_assoc d rest (x ∷ []) ∙ ap (λ u. d ++ u) (sym e))
      (subst (Rewrites g a) (sym (ap (λ u. u ++ r) e ∙ append_assoc rest (x ∷ []) r)) h) t

  open_name : {γ : List ℕ} {a : ℕ} (l : List ℕ) (c : ℕ) (r : List ℕ) → g.words ≤ c → Viable γ a l (c ∷ r) → DerivedFrom g (γ ++ (c ∷ [])) (g.start ∷ [])
  open_name {γ} l c r n (outer h k) =
      let o = one_last l c r k in
      subst (λ u. DerivedFrom g u (g.start ∷ [])) (ap (λ u. u ∷ []) (sym o.1) ∙ ap (λ u. u ++ (c ∷ [])) (sym (h ∙ o.0))) done
  open_name {γ} {a} l c r n (inner d k h t) =
      subst (λ u. DerivedFrom g u (g.start ∷ []))
      (ap (λ u. d ++ (l ++ (c ∷ u))) (rest_none g linear a c l r h n) ∙ sym (append_assoc d l (c ∷ [])) ∙ ap (λ u. u ++ (c ∷ [])) (sym k))
      (derives_more t (step_last d h))

  closed_viable : {K : ℕ → List ℕ → List ℕ → Type 0} {γ : List ℕ} → ((a : ℕ) (l r : List ℕ) → K a l r → Viable γ a l r) → {a : ℕ} {l r : List ℕ} → Closes g K a l r → Viable γ a l r
  closed_viable f (kernel k) = f _ _ _ k
  closed_viable {γ = γ} f (opened {c = c} {l = l} {r = r} i h) = inner γ (sym (append-nil γ)) h (open_name l c r h.0 (closed_viable f i))

  viable : {p : ℕ} {γ : List ℕ} → Way G.moves p γ → {a : ℕ} {l r : List ℕ} → G.Item p a l r → Viable γ a l r
  viable from i = closed_viable (λ a l r f. outer (sym f.none) (ap (λ u. u ++ r) f.none ∙ f.whole)) (m.zeroth_items.0 i)
  viable (over {x = x} w v) i = closed_viable (λ a l r f. viable_push x f.rest l r f.is (viable w f.was)) ((m.move_items v).0 i)

  -- after a name only completed rules are left
  dead_closed : {q c : ℕ} {γ : List ℕ} → Way G.moves q γ → g.words ≤ c → {a : ℕ} {l r : List ℕ} → Closes g (Over (G.Item q) c) a l r → r ≡ []
  dead_closed {q} {c} w n (kernel {r = r} f) = name_last f.rest c r (ruled m w f.was) n
  dead_closed w n (opened i h) = let e = dead_closed w n i in absurd (cc)

  abbrev Dead : ℕ → Type 0
  Dead q = (a : ℕ) (l r : List ℕ) → G.Item q a l r → r ≡ []

  jump_dead : {q p : ℕ} → Returns g G q p → Dead p
  jump_dead j a l r i = dead_closed (way_to (m.reached j.over).1) j.rewrites.0 ((m.move_items j.over).0 i)

  not_start : (d : List ℕ) {γ : List ℕ} → Sentence g γ → γ ≡ d ++ (g.start ∷ []) → ⊥
  not_start d s e = let h = sentence_at g d g.start [] (subst (Sentence g) e s) in omega arith

  reduced : {γ : List ℕ} {a : ℕ} {l : List ℕ} → Sentence g γ → Viable γ a l [] → DerivedFrom g γ (g.start ∷ [])
  reduced {l = l} s (outer h k) = absurd (not_start [] s (h ∙ sym (append-nil l) ∙ k))
  reduced {l = l} s (inner d k h t) =
      subst (λ u. DerivedFrom g u (g.start ∷ [])) (ap (λ u. d ++ u) (append-nil l) ∙ sym k) (derives_more t (step_last d h))

  not_final : {γ : List ℕ} {a : ℕ} → Sentence g γ → Viable γ a (g.start ∷ []) [] → ⊥
  not_final s (outer h k) = not_start [] s h
  not_final s (inner d k h t) = not_start d s k

  module _ {f : Acceptor} (fl : Flat g G f) where
    dead_reads : {q p : ℕ} {w : List ℕ} → Reads f q w p → Dead q → w ≡ []
    dead_reads stop d = refl
    dead_reads (arc {q = q} {r = r} {x = x} e t) d =
        let o = m.move_only ((fl.arcs q x r).0 e).0 in
        let e = d o.0 o.1 (x ∷ o.2) o.3 in
        absurd (cc)
    dead_reads (jump {q = q} {r = r} e t) d = dead_reads t (jump_dead ((fl.jumps q r).0 e))

    right_reads : {q p : ℕ} {w : List ℕ} → Reads f q w p → G.Item p (symbols g) (g.start ∷ []) [] → {γ : List ℕ} → Way G.moves q γ → Sentence g γ → DerivedFrom g (γ ++ w) (g.start ∷ [])
    right_reads stop i y s = absurd (not_final s (viable y i))
    right_reads (arc {q = q} {r = r} {x = x} {w = w} e t) i {γ} y s =
        let (v, h) = (fl.arcs q x r).0 e in
        subst (λ k. DerivedFrom g k (g.start ∷ [])) (append_assoc γ (x ∷ []) w) (right_reads t i (over y v) (sentence_push g γ x s h))
    right_reads (jump {q = q} {r = r} e t) i {γ} y s =
        let j = (fl.jumps q r).0 e in
        subst (λ k. DerivedFrom g k (g.start ∷ [])) (sym (ap (λ u. γ ++ u) (dead_reads t (jump_dead j)) ∙ append-nil γ)) (reduced s (viable y j.item))

    pub right_exact : {p : ℕ} {w : List ℕ} → Reads f 0 w p → G.Item p (symbols g) (g.start ∷ []) [] → DerivedFrom g w (g.start ∷ [])
    right_exact t i = right_reads t i from tt
