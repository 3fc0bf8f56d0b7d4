-- The worked examples hold: a test that computes, and what it says of each row.
use Rattle.std.proofs.Common.{◌≡◌, ℕ, ◌<◌, Bool, true, false, eqb, ltb, leb, List, [], ◌∷◌, map, length, sym, refl, subst, arith, ltb-true, eqb-true, leb-true}
use mathlib.Core.Option.{Option, none, some}
use mathlib.Core.List.Memᴰ
use borrow.Author.Tests.{both_ways}
use Rattle.std.proofs.ByRecursion.{All-weaker}
use Rattle.book.specs.Grammar.{Rule, Grammar, symbols, Step, Derives}
use Rattle.book.specs.Grammar.DerivedFrom.{done, more}
use Rattle.finding.specs.Numbered.{upto}
use Rattle.theory.specs.Lists.{and, every, any, same}
use Rattle.theory.specs.Items.{Sound}
use Rattle.theory.specs.Policies.{path, arrivals}
use Rattle.theory.specs.Flattening.{Acceptor, file_length}
use Rattle.theory.specs.Subsets.{InRange, passes, first_set, subset_step, Determined, determined_length, Determinised}
use Rattle.theory.specs.Executable.{Search, numbered, Built, build, determine, sound_test}
use Rattle.theory.specs.Rows.{FlatRow, SubsetRow, Row, Answered, FlatHolds, true_places, SubsetHolds, Holds, mirror, rows, AllRows, Witness, agree, enough, flat_test, subset_test, on_some, row_test}
use Rattle.theory.specs.Rows.Row.{flat, subset, class}
use Rattle.theory.proofs.Lists.{and_only, some_one, none_some, same_equal, every_all, all_mem}
use Rattle.theory.proofs.Searching.{computed}
use Rattle.theory.proofs.Building.{same_tells, class_equal}
use Rattle.theory.proofs.Built.{built, built_flattened}
use Rattle.theory.proofs.Ranges.{in_range}
use Rattle.theory.proofs.Subsets.{passes_is}
use Rattle.theory.proofs.Theorems.{nothing_lost}

-- ── the tests' meaning ──

pub test_sound : (g : Grammar) → sound_test g ≡ true → Sound g
test_sound g e =
    let rule-test : Rule → Bool = λ r. and (leb g.words r.left) (and (ltb r.left (symbols g)) (every (λ x. ltb x (symbols g)) r.right)) in
    let (a, b) = and_only (leb g.words g.start) (and (ltb g.start (symbols g)) (every rule-test g.rules)) e in
    let (c, d) = and_only (ltb g.start (symbols g)) (every rule-test g.rules) b in
    let each = every_all rule-test g.rules d in
    record {
      start_named = leb-true g.words g.start a;
      start_known = ltb-true g.start (symbols g) c;
      lefts_named = λ r m. leb-true g.words r.left (parts r (all_mem (λ r. rule-test r ≡ true) g.rules each m)).0;
      lefts_known = λ r m. ltb-true r.left (symbols g) (parts r (all_mem (λ r. rule-test r ≡ true) g.rules each m)).1;
      rights_known = λ r m.
          All-weaker (λ x. ltb x (symbols g) ≡ true) (λ x. x < symbols g) (λ x t. ltb-true x (symbols g) t) r.right
          (every_all (λ x. ltb x (symbols g)) r.right (parts r (all_mem (λ r. rule-test r ≡ true) g.rules each m)).2);
    }
  where
    parts : (r : Rule) → and (leb g.words r.left) (and (ltb r.left (symbols g)) (every (λ x. ltb x (symbols g)) r.right)) ≡ true
        → (leb g.words r.left ≡ true) × (ltb r.left (symbols g) ≡ true) × (every (λ x. ltb x (symbols g)) r.right ≡ true)
    parts r t =
        let (p, q) = and_only (leb g.words r.left) (and (ltb r.left (symbols g)) (every (λ x. ltb x (symbols g)) r.right)) t in
        let (s, u) = and_only (ltb r.left (symbols g)) (every (λ x. ltb x (symbols g)) r.right) q in (p, s, u)

agree_equal : (a b : Bool) → agree a b ≡ true → a ≡ b
agree_equal true b e = sym e
agree_equal false true e = e
agree_equal false false e = refl

answered : (f : Acceptor) → InRange f → (a : List ℕ × Bool) → agree (passes f a.0) a.1 ≡ true → Answered f a
answered f h (w, true) e = (passes_is f h w).0 (agree_equal (passes f w) true e)
answered f h (w, false) e = λ p. both_ways (passes f w) (agree_equal (passes f w) false e) ((passes_is f h w).1 p)

determine_is : (f : Acceptor) (rounds : ℕ) {d : Determined} → determine f rounds ≡ some d → Determinised f d
determine_is f rounds {d} h = cases (numbered same (subset_step f) (upto f.words) rounds (first_set f)) refl
  where
    cases : (o : Option (Search (List ℕ))) → numbered same (subset_step f) (upto f.words) rounds (first_set f) ≡ o → Determinised f d
    cases none e = absurd (none_some (let k : determine f rounds ≡ none = rw (e, determine) in k) h)
    cases (some s) e =
        let r : Determined = record { words = f.words; states = length s.entries; finals = map (λ set. any (eqb f.final) set) s.entries; arcs = s.moves } in
        let k : determine f rounds ≡ some r = rw (e, determine) in
        subst (Determinised f) (some_one k h)
        (record { sets = s.entries; numbered = computed same_tells (subset_step f) (upto f.words) rounds (first_set f) e; words_are = refl; states_are = refl; finals_are = refl })

-- ── the rows ──

flat_holds : (r : FlatRow) (b : Built) → Sound r.grammar → build r.grammar r.meaning enough ≡ some b → flat_test r b ≡ true → FlatHolds r
flat_holds r b u e t =
    let s = built r.grammar u r.meaning enough e in
    let f = b.acceptor in
    let (t₁, r₁) = and_only (eqb (length b.sets) r.states) _ t in
    let (t₂, r₂) = and_only (eqb (length b.moves) r.moves) _ r₁ in
    let (t₃, r₃) = and_only (eqb (length b.nodes) r.nodes) _ r₂ in
    let (t₄, r₄) = and_only (eqb (length b.unfolded_moves) r.unfolded) _ r₃ in
    let (t₅, r₅) = and_only (eqb (length f.arcs) r.arcs) _ r₄ in
    let (t₆, r₆) = and_only (eqb (length f.jumps) r.jumps) _ r₅ in
    let (t₇, r₇) = and_only (eqb (file_length f) r.bytes) _ r₆ in
    record {
      sets = b.sets;
      arrows = b.moves;
      nodes = b.nodes;
      unfolded_arrows = b.unfolded_moves;
      acceptor = f;
      machine = s.machine;
      unfolds = s.unfolded;
      flattens = s.flat;
      states_are = eqb-true (length b.sets) r.states t₁;
      moves_are = eqb-true (length b.moves) r.moves t₂;
      nodes_are = eqb-true (length b.nodes) r.nodes t₃;
      unfolded_are = eqb-true (length b.unfolded_moves) r.unfolded t₄;
      arcs_are = eqb-true (length f.arcs) r.arcs t₅;
      jumps_are = eqb-true (length f.jumps) r.jumps t₆;
      bytes_are = eqb-true (file_length f) r.bytes t₇;
      answered =
          All-weaker (λ a. agree (passes f a.0) a.1 ≡ true) (Answered f)
          (answered f (in_range r.grammar r.meaning (built_flattened r.grammar u r.meaning enough e))) r.asked
          (every_all (λ (a : List ℕ × Bool). agree (passes f a.0) a.1) r.asked r₇);
    }

subset_holds : (r : SubsetRow) (b : Built) (d : Determined) → Sound r.grammar → build r.grammar r.meaning enough ≡ some b → determine b.acceptor enough ≡ some d → subset_test r d ≡ true → SubsetHolds r
subset_holds r b d u e h t =
    let (t₁, r₁) = and_only (eqb d.states r.states) _ t in
    let (t₂, r₂) = and_only (eqb (length d.arcs) r.arcs) _ r₁ in
    let (t₃, r₃) = and_only (same (true_places 0 d.finals) r.finals) _ r₂ in
    record {
      acceptor = b.acceptor;
      flattens = built_flattened r.grammar u r.meaning enough e;
      determined = d;
      determinises = determine_is b.acceptor enough h;
      states_are = eqb-true d.states r.states t₁;
      arcs_are = eqb-true (length d.arcs) r.arcs t₂;
      finals_are = same_equal (true_places 0 d.finals) r.finals t₃;
      bytes_are = eqb-true (determined_length d) r.bytes r₃;
    }

some_passes : {A : Type 0} (test : A → Bool) (o : Option A) → on_some test o ≡ true → (a : A) × (o ≡ some a) × (test a ≡ true)
some_passes test none e = absurd (cc)
some_passes test (some a) e = (a, refl, e)

-- a row that passes its test holds
pub row_holds : (r : Row) → row_test r ≡ true → Holds r
row_holds (flat r) t =
    let (u, e) = and_only (sound_test r.grammar) _ t in
    let (b, h, k) = some_passes (flat_test r) (build r.grammar r.meaning enough) e in
    flat_holds r b (test_sound r.grammar u) h k
row_holds (subset r) t =
    let (u, e) = and_only (sound_test r.grammar) _ t in
    let (b, h, k) = some_passes (λ (b : Built). on_some (subset_test r) (determine b.acceptor enough)) (build r.grammar r.meaning enough) e in
    let (d, i, j) = some_passes (subset_test r) (determine b.acceptor enough) k in
    subset_holds r b d (test_sound r.grammar u) h i j
row_holds (class r) t = class_equal (arrivals r.meaning r.meaning.first r.reached) r.class t

tested : every row_test rows ≡ true
tested = refl

pub all_rows : AllRows
all_rows = All-weaker (λ r. row_test r ≡ true) Holds row_holds rows (every_all row_test rows tested)

-- ── the witness ──

begun : Step mirror (3 ∷ []) (0 ∷ (4 ∷ (0 ∷ [])))
begun = record { before = []; name = 3; side = 0 ∷ (4 ∷ (0 ∷ [])); after = []; rewrites = (omega arith, Memᴰ.head refl); from = refl; to = refl }

ended : Step mirror (0 ∷ (4 ∷ (0 ∷ []))) (0 ∷ (2 ∷ (0 ∷ [])))
ended = record { before = 0 ∷ []; name = 4; side = 2 ∷ []; after = 0 ∷ []; rewrites = (omega arith, Memᴰ.tail (Memᴰ.tail (Memᴰ.head refl))); from = refl; to = refl }

mirrored : Derives mirror (0 ∷ (2 ∷ (0 ∷ [])))
mirrored = record { sentence = (omega arith, (omega arith, (omega arith, tt))); steps = more begun (more ended done) }

pub witness : Witness
witness =
    let (b, h, t) = some_passes (λ (b : Built). agree (passes b.acceptor (0 ∷ (2 ∷ (1 ∷ [])))) false) (build mirror path enough) refl in
    let u = test_sound mirror refl in
    let f = built_flattened mirror u path enough h in
    record {
      acceptor = b.acceptor;
      flattens = f;
      derived = mirrored;
      passed = nothing_lost mirror u path b.acceptor f (0 ∷ (2 ∷ (0 ∷ []))) mirrored;
      not_passed = answered b.acceptor (in_range mirror path f) (0 ∷ (2 ∷ (1 ∷ [])), false) t;
    }
