-- A book is made step by step: each step is taken, or the table is too short for it.
use Rattle.std.proofs.Common.{◌≡◌, ℕ, ◌+◌, ◌<◌, ◌≤◌, List, [], ◌++◌, length, drop, Ok, Err, Result, sym, refl, ap, ◌∙◌, subst, ◌⊎◌, inl, inr, append-nil, arith}
use Rattle.std.proofs.lemmas.List.{drop-drop, drop_at, length-append, length-drop}
use Rattle.book.specs.declared.fault.Refusal.{Refusal}
use Rattle.book.specs.declared.fault.BookFault.{BookFault}
use Rattle.book.specs.Grammar.{Rule, Grammar, with_rule}
use Rattle.book.specs.Refusals.{told}
use Rattle.book.specs.Tables.{Name, items, FitRule, Fit, rule_entries, entries, used}
use Rattle.book.specs.Flaws.{RuleFault}
use Rattle.book.specs.Flaws.TableFault.{header as in_header}
use Rattle.book.specs.Edits.{Written, BlankFault, AddFault, Added, AddedOr}
use Rattle.book.specs.Edits.BlankFault.{header as header_fault, no_room as no_header_room}
use Rattle.book.specs.Edits.AddFault.{book as book_fault, rule as rule_fault, no_room as no_rule_room}
use Rattle.book.proofs.Held.{dots_push, used_push}
use Rattle.book.proofs.Unique.{holds_one, holds_no_fault, fit_no_fault}
use Rattle.samples.specs.Making.{first, Stopped, Made}
use Rattle.samples.specs.Making.Stopped.{header, rule as at_rule}

-- what stands after a book's entries is as it was, so it is after the entries of a longer one, too
after : (t : List ℕ) (g : Grammar) (k : ℕ) → drop (used g + k) (entries g ++ drop (used g) t) ≡ drop (used g + k) t
after t g k =
    sym (drop-drop k (used g) (entries g ++ drop (used g) t)) ∙ ap (drop k) (drop_at (entries g) (drop (used g) t) (used g) (omega arith)) ∙ drop-drop k (used g) t

-- a rule that was added to a book just made
pub added : {t t1 t2 : List ℕ} {g : Grammar} {r : Rule} {n n' : ℕ} → Written t g t1 n → Added t1 r t2 n' → Written t (with_rule g r) t2 n'
added {t} {t1} {t2} {g} {r} {n} {n'} w a =
    let z = subst (λ x. Written t1 (with_rule x r) t2 n') (holds_one a.held w.holds) a.written in
    record {
      holds = z.holds;
      length_used = z.length_used;
      is = z.is ∙ ap (λ l. entries (with_rule g r) ++ l) (subst (λ u. drop u t1 ≡ drop u t) (sym (used_push g r)) (ap (drop (used g + (2 + length r.right))) w.is ∙ after t g (2 + length r.right)));
    }

-- a rule that fits is refused only where it has no room
pub not_added : {t t1 : List ℕ} {g : Grammar} {r : Rule} {n : ℕ} {f : Refusal} → Written t g t1 n → FitRule g r → items (with_rule g r) ≤ 4096 → length g.rules < 2048
    → AddFault t1 r f → (f ≡ told 7 (used g)) × (length t < used (with_rule g r))
not_added w fit small few (book_fault x) = absurd (holds_no_fault w.holds x)
not_added {t} {t1} {g} {r} {n} {f} w fit small few (rule_fault g' h x) =
    let x' = subst (λ k. RuleFault k (rule_entries r) f) (holds_one h w.holds) x in
    absurd (fit_no_fault g r [] {f = f} fit (omega (arith, dots_push g.rules r)) (subst (λ es. RuleFault g es f) (sym (append-nil (rule_entries r))) x'))
not_added {t} {t1} {g} {r} {n} {f} w fit small few (no_rule_room g' h fit' small' why) = let e : g' ≡ g = holds_one h w.holds in (ap (λ k. told 7 (used k)) e, short e why)
  where
    short : g' ≡ g → (length g'.rules ≡ 2048) ⊎ (length t1 < used (with_rule g' r)) → length t < used (with_rule g r)
    short e (inl full) = absurd (omega (arith, ap (λ k. length k.rules) e))
    short e (inr less) = omega (arith, ap (λ k. used (with_rule k r)) e, ap length w.is, length-append (entries g) (drop (used g) t), length-drop (used g) t)

-- a header within its ranges is refused only where it has no room
pub no_header : {t t' : List ℕ} {g : Grammar} {f : Refusal} → Fit (first 0 g) → BlankFault (first 0 g) (length t) f → t' ≡ t → Stopped t g t' f
no_header fit (no_header_room _ short) e = header short e
no_header {t} {t'} {g} {f} fit (header_fault h) e =
    absurd (holds_no_fault (record { fit = fit; rest = []; is = sym (append-nil (entries (first 0 g))) }) (in_header h))

-- the rule after the first k is refused only where it has no room
pub no_rule : {t t1 t2 : List ℕ} (k : ℕ) (g : Grammar) (r : Rule) {n : ℕ} {f : Refusal} → k < length g.rules → first (k + 1) g ≡ with_rule (first k g) r → FitRule (first k g) r
    → items (first (k + 1) g) ≤ 4096 → length (first k g).rules < 2048 → Written t (first k g) t1 n → AddFault t1 r f → t2 ≡ t1 → Stopped t g t2 f
no_rule {t} {t1} {t2} k g r {n} {f} l e fits small few w x same =
    let z = not_added w fits (subst (λ h. items h ≤ 4096) e small) few x in
    let left : Written t (first k g) t1 (used (first k g)) = record { holds = w.holds; length_used = refl; is = w.is } in
    subst (λ y. Stopped t g t2 y) (sym z.0)
    (at_rule k l (subst (λ h. length t < used h) (sym e) z.1) (subst (λ u. Written t (first k g) u (used (first k g))) (sym same) left))

-- the last rule is appended, or has no room
pub last_rule : {t t1 : List ℕ} (k : ℕ) (g : Grammar) (r : Rule) {n : ℕ} (x : Result ℕ BookFault) (t2 : List ℕ) → k < length g.rules → first (k + 1) g ≡ with_rule (first k g) r → FitRule (first k g) r
    → items (first (k + 1) g) ≤ 4096 → length (first k g).rules < 2048 → with_rule (first k g) r ≡ g → Written t (first k g) t1 n → AddedOr t1 r x t2 → Made t g x t2
last_rule {t} {t1} k g r (Ok n) t2 l e fits small few whole w a = subst (λ h. Written t h t2 n) whole (added w a)
last_rule k g r (Err f) t2 l e fits small few whole w (x, same) = no_rule k g r l e fits small few w x same

-- the header alone is a book's
pub bare_fits : (g : Grammar) → (1 ≤ g.words) × (g.words ≤ 1024) → (1 ≤ g.names) × (g.names ≤ 1024) → Name g g.start → Fit (first 0 g)
bare_fits g words names start = record { words = words; names = names; start = start; few = omega arith; each = tt; small = omega arith }
