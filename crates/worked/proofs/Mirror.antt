-- The mirror book fits its tables, so compile takes it; its acceptor is the worked one.
use Rattle.std.proofs.Common.{◌≡◌, ℕ, ◌<◌, ◌≤◌, true, false, List, [], ◌∷◌, ◌++◌, map, length, drop, sym, refl, ap, ◌∙◌, subst, inr, append-nil, arith, length-append, lt-ltb}
use lib.ListN.{length-map}
use Rattle.std.proofs.lemmas.List.{drop_all}
use Rattle.book.specs.Grammar.{rule, Derives}
use Rattle.book.specs.Tables.{Holds, FitRule, Fit}
use Rattle.book.proofs.Unique.{holds_one}
use Rattle.finding.specs.Numbered.{Firsts}
use Rattle.finding.specs.Numbered.Firsts.{nil, old, new}
use Rattle.theory.specs.Policies.{Class, path}
use Rattle.theory.specs.Unfolding.{Node}
use Rattle.theory.specs.Flattening.{file_length}
use Rattle.theory.specs.Sentences.{Passes}
use Rattle.theory.specs.Rows.{mirror, FlatRow, FlatHolds}
use Rattle.theory.proofs.Worked.{all_rows, witness}
use Rattle.policy.specs.Classes.{free_place, HasPlace}
use Rattle.pga.specs.Files.{file_of}
use Rattle.pga.specs.declared.listing.Counts.{Counts}
use Rattle.compiler.specs.Compiling.{FitsTables, Compiled}
use Rattle.compiler.proofs.Accepting.{same_acceptor}
use Rattle.worked.specs.Mirror.{mirror_book, just_enough, aca, acb, MirrorCompiled}

-- S → x X x, and X → c
long_rule : (x : ℕ) → x < 3 → FitRule mirror (rule 3 (x ∷ (4 ∷ (x ∷ []))))
long_rule x h = record { left = (omega arith, omega arith); short = omega arith; right = (omega arith, (omega arith, (omega arith, tt))) }

short_rule : FitRule mirror (rule 4 (2 ∷ []))
short_rule = record { left = (omega arith, omega arith); short = omega arith; right = (omega arith, tt) }

mirror_fit : Fit mirror
mirror_fit =
    record {
      words = (omega arith, omega arith);
      names = (omega arith, omega arith);
      start = (omega arith, omega arith);
      few = omega arith;
      each = (long_rule 0 (omega arith), (long_rule 1 (omega arith), (short_rule, tt)));
      small = omega arith;
    }

mirror_held : Holds mirror_book mirror
mirror_held = record { fit = mirror_fit; rest = []; is = refl }

-- no more first occurrences than elements
firsts_fewer : {A : Type 0} {seen ts ns : List A} → Firsts seen ts ns → length ns ≤ length ts
firsts_fewer nil = omega arith
firsts_fewer (old h f) = let l = firsts_fewer f in omega arith
firsts_fewer (new h f) = let l = firsts_fewer f in omega arith

-- fewer than 4,096 nodes have a place for each class
few_placed : (classes : List Class) (c : Class) → length classes < 4096 → HasPlace free_place classes c
few_placed classes c few held f = let l = firsts_fewer f in inr (lt-ltb (length held) 4096 (omega arith))

-- what is worked out of the mirror grammar under the path policy
abbrev example : FlatRow
example =
    record {
      grammar = mirror;
      meaning = path;
      states = 9;
      moves = 9;
      nodes = 10;
      unfolded = 9;
      arcs = 6;
      jumps = 4;
      bytes = 67;
      asked = (acb, false) ∷ ((aca, true) ∷ []);
    }

row : FlatHolds example
row = all_rows.1.0

pub mirror_fits : FitsTables mirror_book path free_place just_enough
mirror_fits =
    record {
      grammar = mirror;
      states = row.sets;
      moves = row.arrows;
      nodes = row.nodes;
      arrows = row.unfolded_arrows;
      acceptor = row.acceptor;
      built = record { held = mirror_held; machine = row.machine; states_fit = omega (arith, row.states_are); moves_fit = omega (arith, row.moves_are) };
      unfolded = row.unfolds;
      flat = row.flattens;
      nodes_fit = omega (arith, row.nodes_are);
      arrows_fit = omega (arith, row.unfolded_are);
      jumps_fit = omega (arith, row.jumps_are);
      output_fits = omega (arith, row.bytes_are);
      placed = λ front rest n e ne.
          let l = ap length e in let k = length-append front (n ∷ rest) in
          few_placed (map (λ (k : Node). k.class) front) n.class (let m = length-map front (λ (k : Node). k.class) in omega (arith, row.nodes_are));
    }

-- a compile of the mirror book is one of the worked acceptor
pub mirror_compiled : (out out' : List ℕ) (c : Counts) → length out ≡ 67 → Compiled mirror_book path free_place just_enough out out' c → MirrorCompiled out'
unfolding mirror_fits
mirror_compiled out out' c size k =
    let same : k.grammar ≡ mirror = holds_one k.built.held mirror_held in
    let worked : k.acceptor ≡ row.acceptor = same_acceptor mirror_fits k.grammar k.acceptor k.built k.opened.unfolded k.flat in
    let all-bytes : file_length k.acceptor ≡ 67 = ap file_length worked ∙ row.bytes_are in
    let nothing-after : drop (file_length k.acceptor) out ≡ [] = drop_all (file_length k.acceptor) out (omega arith) in
    let passed = λ (w : List ℕ) (p : Passes k.acceptor w). subst (λ a. Passes a w) worked p in
    let lost = λ (w : List ℕ) (d : Derives mirror w). k.laws.nothing_lost w (subst (λ g. Derives g w) (sym same) d) in
    record {
      before = out;
      counts = c;
      compiled = k;
      of_mirror = same;
      is_file = record { fit = k.fit; is = k.out_is ∙ ap (λ l. file_of k.acceptor ++ l) nothing-after ∙ append-nil (file_of k.acceptor) };
      derived = witness.derived;
      passed = lost aca witness.derived;
      not_derived = λ d. row.answered.0 (passed acb (lost acb d));
      not_passed = λ p. row.answered.0 (passed acb p);
    }
