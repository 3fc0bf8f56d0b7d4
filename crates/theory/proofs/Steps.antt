-- Derivation by steps: one more step, steps in a context.
use Rattle.std.proofs.Common.{ℕ, ◌<◌, List, [], ◌∷◌, ◌++◌, sym, refl, ap, ◌∙◌, append_assoc, append-nil}
use Rattle.book.specs.Grammar.{Grammar, Rewrites, Step, DerivedFrom, Sentence}
use Rattle.book.specs.Grammar.DerivedFrom.{done, more}

pub step_last : {g : Grammar} (d : List ℕ) {a : ℕ} {s : List ℕ} → Rewrites g a s → Step g (d ++ (a ∷ [])) (d ++ s)
step_last {g} d {a} {s} r =
    record { before = d; name = a; side = s; after = []; rewrites = r; from = refl; to = ap (λ l. d ++ l) (sym (append-nil s)) }

pub derives_trans : {g : Grammar} {zs ys : List ℕ} → DerivedFrom g zs ys → {xs : List ℕ} → DerivedFrom g ys xs → DerivedFrom g zs xs
derives_trans d done = d
derives_trans d (more s e) = more s (derives_trans d e)

pub derives_more : {g : Grammar} {zs ys xs : List ℕ} → DerivedFrom g ys xs → Step g ys zs → DerivedFrom g zs xs
derives_more d s = derives_trans (more s done) d

pub step_front : {g : Grammar} {xs ys : List ℕ} (u : List ℕ) → Step g xs ys → Step g (xs ++ u) (ys ++ u)
step_front u s =
    record {
      before = s.before;
      name = s.name;
      side = s.side;
      after = s.after ++ u;
      rewrites = s.rewrites;
      from = ap (λ l. l ++ u) s.from ∙ append_assoc s.before (s.name ∷ s.after) u;
      to = ap (λ l. l ++ u) s.to ∙ append_assoc s.before (s.side ++ s.after) u ∙ ap (λ l. s.before ++ l) (append_assoc s.side s.after u);
    }

pub derives_front : {g : Grammar} {ys : List ℕ} (u : List ℕ) {xs : List ℕ} → DerivedFrom g ys xs → DerivedFrom g (ys ++ u) (xs ++ u)
derives_front u done = done
derives_front u (more s d) = more (step_front u s) (derives_front u d)

pub sentence_at : (g : Grammar) (xs : List ℕ) (x : ℕ) (ys : List ℕ) → Sentence g (xs ++ (x ∷ ys)) → x < g.words
sentence_at g [] x ys s = s.0
sentence_at g (y ∷ xs) x ys s = sentence_at g xs x ys s.1

pub sentence_push : (g : Grammar) (xs : List ℕ) (x : ℕ) → Sentence g xs → x < g.words → Sentence g (xs ++ (x ∷ []))
sentence_push g [] x s h = (h, tt)
sentence_push g (y ∷ xs) x s h = (s.0, sentence_push g xs x s.1 h)
