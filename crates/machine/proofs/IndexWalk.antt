-- The walk over a table's rules that fills the index.
use Rattle.std.proofs.Common.{◌≡◌, ℕ, zero, suc, ◌+◌, ◌-◌, ◌<◌, ◌≤◌, List, [], ◌∷◌, ◌++◌, length, get_or, take, set, replicate, sym, refl, ap, ◌∙◌, subst, append_assoc, append-nil, arith}
use mathlib.Core.Option.{some}
use lib.ListN.{get_elem?}
use Rattle.std.proofs.ByRecursion.{All-get_or}
use Rattle.std.proofs.lemmas.List.{length-append, length-set, length-replicate}
use Rattle.book.specs.declared.reader.Summary.{Summary}
use Rattle.book.specs.Grammar.{Rule, rule, Grammar}
use Rattle.book.specs.Tables.{FitRule, Holds, dots as rules_count}
use Rattle.book.proofs.Held.{Known}
use Rattle.book.proofs.Unique.{holds_one}
use Rattle.table.proofs.Lists.{stands_below, stands_is, stands_last}
use Rattle.theory.specs.Items.{first_item}
use Rattle.machine.specs.Index.{IndexedTo, Indexed}
use Rattle.machine.proofs.Indexing.{index_start, index_more, index_all, first_next}

-- the index holds all rules but the rest
pub record Filled (t : List ℕ) (s : Summary) (rest : List Rule) (first : ℕ) (after head next : List ℕ) : Type 0 where
  pub known : Known t s
  pub done : List Rule
  pub rules : known.grammar.rules ≡ done ++ rest
  pub number : first ≡ first_item known.grammar (length done)
  pub indexed : IndexedTo known.grammar (length done) after head next
  pub heads : length head ≡ 1024
  pub nexts : length next ≡ 4096

pub fill_start : {t : List ℕ} {s : Summary} (k : Known t s) (rest : List Rule) → rest ≡ k.grammar.rules
    → Filled t s rest 2 (set (replicate 4096 65535) 0 s.start) (replicate 1024 0) (replicate 4096 0)
fill_start {t} {s} k rest is =
    record {
      known = k;
      done = [];
      rules = sym is;
      number = refl;
      heads = length-replicate {A = ℕ} 1024 0;
      nexts = length-replicate {A = ℕ} 4096 0;
      indexed = subst (λ x. IndexedTo k.grammar 0 (set (replicate 4096 65535) 0 x) (replicate 1024 0) (replicate 4096 0)) k.start (index_start k.grammar);
    }

rules_rise : (rs : List Rule) (n : ℕ) → rules_count (take n rs) ≤ rules_count rs
rules_rise rs zero = omega arith
rules_rise [] (suc n) = omega arith
rules_rise (r ∷ rs) (suc n) = omega (arith, rules_rise rs n)

module _ {t : List ℕ} {s : Summary} {rest : List Rule} {first : ℕ} {after head next : List ℕ} (w : Filled t s rest first after head next)
    {left : ℕ} {right : List ℕ} {rest' : List Rule} (is : rest ≡ rule left right ∷ rest') where
  abbrev g : Grammar
  g = w.known.grammar

  abbrev i : ℕ
  i = length w.done

  abbrev it : Rule
  it = rule left right

  at_it : get_elem? g.rules i ≡ some it
  at_it = ap (λ l. get_elem? l i) (w.rules ∙ ap (λ l. w.done ++ l) is) ∙ stands_last w.done rest' it

  fit : FitRule g it
  fit = subst (FitRule g) (stands_is g.rules i it it at_it) (All-get_or (FitRule g) g.rules i it (stands_below g.rules i it at_it) w.known.holds.fit.each)

  pub named : (s.words ≤ left) × (left - s.words < 1024)
  named = let a = w.known.words in let f = fit.left in let k = w.known.holds.fit.names.1 in (omega arith, omega arith)

  next_first : first_item g (i + 1) ≡ first + (length right + 1)
  next_first = let n = w.number in omega (arith, first_next g i it at_it)

  pub room : first + (length right + 1) ≤ 4096
  room = let u = w.known.holds.fit.small in let v = rules_rise g.rules (i + 1) in omega (arith, next_first)

  -- what was written for the rule
  pub fill_more : (after' head' next' : List ℕ)
      → take (first + (length right + 1)) after' ≡ take first after ++ (right ++ (65535 ∷ []))
      → next' ≡ set next first (get_or head (left - s.words) 0) → head' ≡ set head (left - s.words) first
      → Filled t s rest' (first + (length right + 1)) after' head' next'
  fill_more after' head' next' now x y =
      let hl = w.heads in let nl = w.nexts in
      let few = w.known.holds.fit.names.1 in
      let name : left - s.words ≡ left - g.words = ap (λ k. left - k) (sym w.known.words) in
      let now' : take (first_item g i + (length right + 1)) after' ≡ take (first_item g i) after ++ (right ++ (65535 ∷ [])) =
      subst (λ m. take (m + (length right + 1)) after' ≡ take m after ++ (right ++ (65535 ∷ []))) w.number now in
      let head-is : head' ≡ set head (left - g.words) (first_item g i) = y ∙ ap (λ k. set head k first) name ∙ ap (λ m. set head (left - g.words) m) w.number in
      let next-is : next' ≡ set next (first_item g i) (get_or head (left - g.words) 0) =
      x ∙ ap (λ k. set next first (get_or head k 0)) name ∙ ap (λ m. set next m (get_or head (left - g.words) 0)) w.number in
      let more : IndexedTo g (i + 1) after' head' next' =
      subst (λ l. IndexedTo g (i + 1) after' l next') (sym head-is)
      (subst (IndexedTo g (i + 1) after' (set head (left - g.words) (first_item g i))) (sym next-is)
      (index_more g i after head next after' w.indexed it at_it fit.left (omega arith) (omega (arith, next_first, room)) now')) in
      let long : length (w.done ++ (it ∷ [])) ≡ i + 1 = omega (arith, length-append w.done (it ∷ [])) in
      record {
        known = w.known;
        done = w.done ++ (it ∷ []);
        rules = w.rules ∙ ap (λ l. w.done ++ l) is ∙ sym (append_assoc w.done (it ∷ []) rest');
        number = sym next_first ∙ ap (first_item g) (sym long);
        heads = ap length y ∙ length-set head (left - s.words) first ∙ hl;
        nexts = ap length x ∙ length-set next first (get_or head (left - s.words) 0) ∙ nl;
        indexed = subst (λ k. IndexedTo g k after' head' next') (sym long) more;
      }

pub fill_all : {t : List ℕ} {s : Summary} {rest : List Rule} {first : ℕ} {after head next : List ℕ} → Filled t s rest first after head next → rest ≡ []
    → (g : Grammar) → Holds t g → Indexed g after head next
fill_all {after = after} {head} {next} w e g h =
    let all : w.known.grammar.rules ≡ w.done = w.rules ∙ ap (λ l. w.done ++ l) e ∙ append-nil w.done in
    let x : Indexed w.known.grammar after head next = index_all w.known.grammar after head next (subst (λ l. IndexedTo w.known.grammar (length l) after head next) (sym all) w.indexed) in
    subst (λ k. Indexed k after head next) (holds_one w.known.holds h) x
