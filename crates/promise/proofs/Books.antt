-- The book table that add leaves: the entries of the grammar with the rule, and after them the table as it was lent.
use Rattle.std.proofs.Common.{◌≡◌, ℕ, List, ◌++◌, drop, refl, ap, ◌∙◌, subst, arith}
use Rattle.std.proofs.lemmas.Slice.{drop-append-drop}
use Rattle.book.specs.Grammar.{Rule, Grammar, with_rule}
use Rattle.book.specs.Tables.{Fit, entries, used, Holds}
use Rattle.book.specs.Edits.{Added}
use Rattle.book.proofs.Held.{used_push}
use Rattle.book.proofs.Filed.{length_all}
use Rattle.book.proofs.Unique.{holds_one}

module _ (lent : List ℕ) (g : Grammar) (fit : Fit g) where
  -- the table of a grammar that was written over the lent one
  abbrev table : List ℕ
  table = entries g ++ drop (used g) lent

  pub table_holds : Holds (entries g ++ drop (used g) lent) g
  table_holds = record { fit = fit; rest = drop (used g) lent; is = refl }

  -- the grammar that add found is the one that was written
  same : {r : Rule} {t : List ℕ} {n : ℕ} (h : Added table r t n) → h.before ≡ g
  same h = holds_one h.held table_holds

  pub added_fit : (r : Rule) {t : List ℕ} {n : ℕ} → Added (entries g ++ drop (used g) lent) r t n → Fit (with_rule g r)
  added_fit r h = subst (λ b. Fit (with_rule b r)) (same h) h.written.holds.fit

  pub added_table : (r : Rule) {t : List ℕ} {n : ℕ} → Added (entries g ++ drop (used g) lent) r t n
      → t ≡ entries (with_rule g r) ++ drop (used (with_rule g r)) lent
  added_table r h =
      h.written.is
      ∙ ap (λ b. entries (with_rule b r) ++ drop (used (with_rule b r)) table) (same h)
      ∙ ap (λ l. entries (with_rule g r) ++ l) (drop-append-drop (used g) lent (entries g) (used (with_rule g r)) (omega (arith, used_push g r)) (length_all g))
