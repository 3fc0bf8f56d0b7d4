-- What the writes of blank and add leave.
use Rattle.std.proofs.Common.{◌≡◌, ℕ, suc, ◌+◌, ◌<◌, ◌≤◌, ◌⊎◌, List, [], ◌∷◌, ◌++◌, length, take, drop, set, Ok, sym, refl, ap, ◌∙◌, subst, inl, inr, ⊎_elim, append_assoc, arith}
use Rattle.std.specs.List.{flat_map}
use Rattle.std.proofs.lemmas.List.{length-append, length-take-le, drop-set-lt, drop_at, take_at, length_push}
use Rattle.std.proofs.ByRecursion.{All-from_get_or}
use Rattle.book.specs.declared.reader.Summary.{Summary}
use Rattle.book.specs.Grammar.{Rule, rule, Grammar, symbols, with_rule}
use Rattle.book.specs.Tables.{items, FitRule, Fit, rule_entries, header, entries, used, Holds}
use Rattle.book.specs.Flaws.{SoundTo, InRange, Right}
use Rattle.book.specs.Refusals.{told}
use Rattle.book.specs.Checks.{RuleChecked}
use Rattle.book.specs.Edits.{bare, Written, AddFault, Added}
use Rattle.book.specs.Edits.AddFault.{no_room}
use Rattle.book.proofs.Held.{Known, known_bounds, dots_push, entries_push, used_push, fit_push}
use Rattle.book.proofs.Derivations.{derives_kept}

pub bare_fit : (words names start : ℕ) → SoundTo (InRange (entries (bare words names start))) (entries (bare words names start)) 4 → Fit (bare words names start)
bare_fit words names start s =
    record {
      words = (s 0 (omega arith)).1;
      names = (s 1 (omega arith)).1;
      start = (s 2 (omega arith)).1;
      few = omega arith;
      each = tt;
      small = omega arith;
    }

-- the table begins with the grammar's entries, and the rest is as it was
pub written : (t : List ℕ) (g : Grammar) → Fit g → Written t g (entries g ++ drop (used g) t) (used g)
written t g f = record { holds = record { fit = f; rest = drop (used g) t; is = refl }; length_used = refl; is = refl }

-- the entries that add leaves: the count one higher, and the rule after the last
pub added_entries : (t : List ℕ) (g : Grammar) (r : Rule) → Holds t g
    → take (used g) (set t 3 (length g.rules + 1)) ++ (rule_entries r ++ drop (used g + (2 + length r.right)) (set t 3 (length g.rules + 1)))
    ≡ entries (with_rule g r) ++ drop (used (with_rule g r)) t
added_entries t g r h =
    let J : List ℕ = flat_map rule_entries g.rules in
    let R : ℕ = length g.rules + 1 in
    let k : ℕ = used g + (2 + length r.right) in
    let now : set t 3 R ≡ (header g R ++ J) ++ h.rest = ap (λ l. set l 3 R) h.is in
    let front : take (used g) (set t 3 R) ≡ header g R ++ J = ap (take (used g)) now ∙ take_at (header g R ++ J) h.rest (used g) (omega (arith, length-append (header g R) J)) in
    let back : drop k (set t 3 R) ≡ drop (used (with_rule g r)) t = drop-set-lt k t 3 R (omega arith) ∙ ap (λ i. drop i t) (sym (used_push g r)) in
    let all : entries (with_rule g r) ≡ header g R ++ (J ++ rule_entries r) =
    ap (λ n. header g n ++ flat_map rule_entries (g.rules ++ (r ∷ []))) (length_push g.rules r) ∙ ap (λ l. header g R ++ l) (entries_push g.rules r) in
    ap (λ l. l ++ (rule_entries r ++ drop k (set t 3 R))) front
    ∙ ap (λ l. (header g R ++ J) ++ (rule_entries r ++ l)) back
    ∙ sym (append_assoc (header g R ++ J) (rule_entries r) (drop (used (with_rule g r)) t))
    ∙ ap (λ l. l ++ drop (used (with_rule g r)) t) (append_assoc (header g R) J (rule_entries r) ∙ sym all)

pub rule_fit : (g : Grammar) (a : ℕ) (xs : List ℕ) → SoundTo (Right g (rule_entries (rule a xs))) (rule_entries (rule a xs)) (2 + length xs) → FitRule g (rule a xs)
rule_fit g a xs s =
    record {
      left = (s 0 (omega arith)).1;
      short = (s 1 (omega arith)).1;
      right = All-from_get_or (λ x. x < symbols g) xs 0 (λ i h. (s (suc (suc i)) (omega arith)).1);
    }

-- what is known of a book and of a rule that passed the check as its next: the summary s of the book, and u with the rule
pub record Next (t : List ℕ) (r : Rule) (s u : Summary) : Type 0 where
  pub book : Known t s
  pub fit : FitRule book.grammar r
  pub small : items (with_rule book.grammar r) ≤ 4096
  pub end : u.used ≡ s.used + (2 + length r.right)

-- after the entries used stands the new rule
pub next_entries : {t : List ℕ} {s : Summary} → Known t s → (r : Rule) → drop s.used (take s.used t ++ rule_entries r) ≡ rule_entries r
next_entries {t} {s} k r = drop_at (take s.used t) (rule_entries r) s.used (length-take-le s.used t (known_bounds k).5)

pub next : {t : List ℕ} {s u : Summary} (r : Rule) (k : Known t s) → RuleChecked k.grammar s (drop s.used (take s.used t ++ rule_entries r)) (Ok u) → Next t r s u
next {t} {s} {u} r k c =
    let (e, sound, m) = subst (λ l. RuleChecked k.grammar s l (Ok u)) (next_entries k r) c in
    record { book = k; fit = rule_fit k.grammar r.left r.right sound; small = omega (arith, dots_push k.grammar.rules r); end = ap (λ (v : Summary). v.used) e }

module _ {t : List ℕ} {r : Rule} {s u : Summary} (n : Next t r s u) where
  abbrev g : Grammar
  g = n.book.grammar

  -- there is no room for it
  pub crowded : (s.rules ≡ 2048) ⊎ (length t < u.used) → AddFault t r (told 7 s.used)
  crowded full =
      let takes = n.book.takes in let counts = n.book.rules in let end = n.end in
      subst (λ p. AddFault t r (told 7 p)) takes
      (no_room g n.book.holds n.fit n.small (⊎_elim (λ e. inl (omega arith)) (λ e. inr (omega (arith, used_push g r))) full))

  -- what add leaves, where t₁ counts one rule more
  pub added : {t₁ t' : List ℕ} → s.rules < 2048 → t₁ ≡ set t 3 (s.rules + 1) → t' ≡ take s.used t₁ ++ (rule_entries r ++ drop (s.used + (2 + length r.right)) t₁)
      → Added t r t' u.used
  added {t₁} {t'} few counted is =
      let takes = n.book.takes in let counts = n.book.rules in
      let tail : ℕ → List ℕ → List ℕ = λ k l. take k l ++ (rule_entries r ++ drop (k + (2 + length r.right)) l) in
      let as_read : t' ≡ tail (used g) (set t 3 (length g.rules + 1)) =
      is ∙ ap (tail s.used) counted ∙ ap (λ k. tail k (set t 3 (s.rules + 1))) (sym takes) ∙ ap (λ k. tail (used g) (set t 3 (k + 1))) (sym counts) in
      let fit = fit_push g r n.book.holds.fit n.fit (omega arith) (let m = n.small in omega (arith, dots_push g.rules r)) in
      record {
        before = g;
        held = n.book.holds;
        written = subst (λ k. Written t (with_rule g r) t' k) (let e = n.end in omega (arith, used_push g r))
            (subst (λ l. Written t (with_rule g r) l (used (with_rule g r))) (sym (as_read ∙ added_entries t g r n.book.holds)) (written t (with_rule g r) fit));
        keeps = derives_kept g r;
      }
