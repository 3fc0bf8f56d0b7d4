-- A rule more costs no sentence.
use Rattle.std.proofs.Common.{ℕ, List, [], ◌∷◌}
use mathlib.Core.List.Memᴰ
use Rattle.book.specs.Grammar.{Rule, Grammar, with_rule, Step, DerivedFrom, Derives}
use Rattle.book.specs.Grammar.DerivedFrom.{done, more}

module _ (g : Grammar) (r : Rule) where
  step_kept : {xs ys : List ℕ} → Step g xs ys → Step (with_rule g r) xs ys
  step_kept s =
      record {
        before = s.before;
        name = s.name;
        side = s.side;
        after = s.after;
        rewrites = (s.rewrites.0, Memᴰ.append_left (r ∷ []) s.rewrites.1);
        from = s.from;
        to = s.to;
      }

  steps_kept : {zs xs : List ℕ} → DerivedFrom g zs xs → DerivedFrom (with_rule g r) zs xs
  steps_kept done = done
  steps_kept (more s d) = more (step_kept s) (steps_kept d)

  pub derives_kept : (w : List ℕ) → Derives g w → Derives (with_rule g r) w
  derives_kept w d = record { sentence = d.sentence; steps = steps_kept d.steps }
