-- The calls of the example lead to a yes.
use Rattle.std.proofs.Common.{◌≡◌, ℕ, zero, suc, Bool, true, ◌⊎◌, List, [], ◌∷◌, ◌++◌, replicate, Ok, sym, refl, ap, subst₂, inl, arith}
use mathlib.Core.Option.{some}
use mathlib.Core.List.Memᴰ
use mathlib.Core.List.{Memᴰ}
use lib.ListN.{get_elem?}
use Rattle.book.specs.Grammar.{rule, Grammar, with_rule, Derives, Step as GrammarStep}
use Rattle.book.specs.Grammar.DerivedFrom.{done as all_done, more as rewrite}
use Rattle.book.specs.Tables.{Fit, entries}
use Rattle.book.specs.Edits.{bare, Added}
use Rattle.book.proofs.Derivations.{derives_kept}
use Rattle.book.proofs.Writes.{written}
use Rattle.finding.specs.Finding.{Whole}
use Rattle.finding.specs.Numbered.{Firsts}
use Rattle.finding.specs.Numbered.Firsts.{old, new}
use Rattle.finding.specs.Finding.Turn.{pass, new as found_new, next}
use Rattle.finding.specs.Finding.Turns.{stay, more}
use Rattle.theory.specs.Items.{Sound}
use Rattle.theory.specs.Policies.{Class, one_class}
use Rattle.theory.specs.Policies.Class.{states}
use Rattle.theory.specs.Unfolding.{Node, node}
use Rattle.theory.specs.Flattening.{Flattened}
use Rattle.theory.specs.Executable.{Built, build}
use Rattle.theory.proofs.Lists.{some_one}
use Rattle.theory.proofs.Items.{fit_sound}
use Rattle.theory.proofs.Built.{built, built_flattened}
use Rattle.policy.specs.Classes.{no_room, HasRoom}
use Rattle.unfolding.specs.Unfoldings.{limits, first_node}
use Rattle.pga.specs.declared.listing.Counts.{Counts}
use Rattle.pga.specs.Files.{file_of, Fit as PgaFit}
use Rattle.compiler.specs.Compiling.{Built as BuiltFrom, Opened}
use Rattle.compiler.proofs.Composing.{file_laws}
use Rattle.compiler.proofs.Fitting.{fits}
use Rattle.promise.specs.Acceptors.{IsFileOf}
use Rattle.promise.specs.Acceptors.Kind.{pga}
use Rattle.promise.specs.Acceptors.Automaton.{flat}
use Rattle.promise.specs.Acceptors.IsFileOf.{is_pga}
use Rattle.promise.specs.Positions.{first_position}
use Rattle.promise.specs.States.{Turn, State, with_book, taken, unbegun, with_turn, standing}
use Rattle.promise.specs.Calls.{CompileTables, compile_lengths}
use Rattle.promise.specs.Calls.Call.{add, end}
use Rattle.promise.specs.Calls.Answer.{length_used, told}
use Rattle.promise.specs.Steps.{Compiles}
use Rattle.promise.specs.Steps.Step.{added, compiled, opened, begun, ended}
use Rattle.promise.specs.Histories.{empty_slot, Fresh, Reached}
use Rattle.promise.specs.Histories.Reached.{fresh, after}
use Rattle.promise.specs.Tallies.{Note, TurnTally, Tally, note_of, tally}
use Rattle.promise.specs.Promises.{Judged}
use Rattle.promise.specs.Example.{example_start, example_calls, ExampleTells}
use Rattle.promise.proofs.Keeping.{kept}

-- ── the book ──

abbrev one_rule : Grammar
one_rule = with_rule (bare 1 1 1) (rule 1 [])

bare_fits : Fit (bare 1 1 1)
bare_fits =
    record { words = (omega arith, omega arith); names = (omega arith, omega arith); start = (omega arith, omega arith); few = omega arith; each = tt; small = omega arith }

rule_fits : Fit (with_rule (bare 1 1 1) (rule 1 []))
rule_fits =
    record {
      words = (omega arith, omega arith);
      names = (omega arith, omega arith);
      start = (omega arith, omega arith);
      few = omega arith;
      each = (record { left = (omega arith, omega arith); short = omega arith; right = tt }, tt);
      small = omega arith;
    }

abbrev first : State
first =
    record { book = entries (bare 1 1 1) ++ (0 ∷ (0 ∷ [])); pga = empty_slot (replicate 19 0); pgd = empty_slot []; turns = []; places = 1 }

first_fresh : Fresh example_start first
first_fresh = record { used = 4; blanked = written (replicate 6 0) (bare 1 1 1) bare_fits; pga = refl; pgd = refl; turns = refl; places = refl }

with_rule_added : Added first.book (rule 1 []) (entries (with_rule (bare 1 1 1) (rule 1 [])) ++ []) 6
with_rule_added =
    record {
      before = bare 1 1 1;
      held = record { fit = bare_fits; rest = 0 ∷ (0 ∷ []); is = refl };
      written = written first.book one_rule rule_fits;
      keeps = derives_kept _ _;
    }

-- ── the acceptor ──

abbrev all_built : Built
all_built =
    record {
      sets = (0 ∷ (2 ∷ [])) ∷ ((1 ∷ []) ∷ []);
      moves = (0, 1, 1) ∷ [];
      nodes = node 0 (states []) ∷ (node 1 (states []) ∷ []);
      unfolded_moves = (0, 1, 1) ∷ [];
      acceptor = record { words = 1; nodes = 2; final = 1; arcs = []; jumps = (0, 1) ∷ [] };
    }

build_is : build one_rule one_class 9 ≡ some all_built
build_is = refl

sound : Sound one_rule
sound = fit_sound one_rule rule_fits

flattened : Flattened one_rule one_class all_built.acceptor
flattened = built_flattened one_rule sound one_class 9 build_is

-- the one class is held from the start, so it has a place
one_held : (held : List Class) → Firsts [] (states [] ∷ []) held → Memᴰ (states []) held ⊎ HasRoom no_room held (states [])
one_held held (old m f) = absurd (Memᴰ.not-nil m)
one_held held (new m f) = inl (Memᴰ.head refl)

-- node 0 moves on the name, to node 1, which does not move
all_found : Whole (limits one_class no_room all_built.moves 2 2 1) (first_node one_class) all_built.nodes all_built.unfolded_moves
unfolding limits
all_found =
    let zeroth : Node = node 0 (states []) in let other : Node = node 1 (states []) in (
      omega arith,
      more (more (more (more (more (more stay (pass zeroth refl (omega arith) refl))
          (found_new other (record { at = zeroth; stands = refl; below = omega arith; goes = refl }) lacks one_held (omega arith) (omega arith)))
          (next (omega arith) refl)) (pass other refl (omega arith) refl)) (pass other refl (omega arith) refl)) (next (omega arith) refl),
    )
  where
    lacks : (k : ℕ) → get_elem? (node 0 (states []) ∷ []) k ≡ some (node 1 (states [])) → ⊥
    lacks zero e = let z = ap (λ (n : Node). n.state) (some_one refl e) in cc
    lacks (suc k) e = cc

-- ── the calls ──

abbrev tables : CompileTables
tables = record { states = 2; moves = 1; nodes = 2; unfolded = 1; jumps = 1 }

abbrev its_counts : Counts
its_counts = record { states = 2; moves = 1; nodes = 2; unfolded = 1; arcs = 0; jumps = 1 }

abbrev table : List ℕ
table = 1 ∷ (1 ∷ (1 ∷ (1 ∷ (1 ∷ (0 ∷ [])))))

is_built : BuiltFrom table (compile_lengths tables 19) one_rule all_built.sets all_built.moves
is_built =
    record { held = record { fit = rule_fits; rest = []; is = refl }; machine = (built one_rule sound one_class 9 build_is).machine; states_fit = omega arith; moves_fit = omega arith }

is_opened : Opened one_class no_room (compile_lengths tables 19) one_rule all_built.moves all_built.nodes all_built.unfolded_moves
is_opened = record { unfolded = (built one_rule sound one_class 9 build_is).unfolded; placed = all_found }

its_fit : PgaFit all_built.acceptor
its_fit = fits is_built is_opened all_built.acceptor flattened refl refl refl (omega arith)

is_compiled : Compiles table one_class no_room tables (replicate 19 0) (Ok its_counts) (file_of all_built.acceptor)
is_compiled =
    record {
      is =
          record {
            grammar = one_rule;
            states = all_built.sets;
            moves = all_built.moves;
            nodes = all_built.nodes;
            arrows = all_built.unfolded_moves;
            acceptor = all_built.acceptor;
            built = is_built;
            opened = is_opened;
            flat = (built one_rule sound one_class 9 build_is).flat;
            jumps_fit = omega arith;
            fit = its_fit;
            out_is = refl;
            state_count = refl;
            move_count = refl;
            node_count = refl;
            unfolded_count = refl;
            arc_count = refl;
            jump_count = refl;
            laws = file_laws one_rule one_class all_built.acceptor sound flattened;
          };
      length_kept = refl;
    }

abbrev ruled : State
ruled = with_book table first

abbrev written_file : State
written_file = taken pga (file_of all_built.acceptor) 19 ruled

abbrev turned : State
turned = with_turn pga written_file

abbrev its_turn : Turn
its_turn = unbegun pga

abbrev started : Turn
started = record { kind = pga; live = true; at = some (first_position (flat all_built.acceptor)) }

abbrev standing_first : State
standing_first = standing 0 its_turn (first_position (flat all_built.acceptor)) turned

abbrev last_state : State
last_state = standing 0 started (first_position (flat all_built.acceptor)) standing_first

pub example_tells : ExampleTells true
example_tells =
    let is_file : IsFileOf pga (file_of all_built.acceptor) (flat all_built.acceptor) = is_pga (record { fit = its_fit; is = refl }) in
    let r₁ : Reached example_start ((add 1 [], length_used 6) ∷ []) ruled = after (fresh first_fresh) (added (Ok 6) table with_rule_added refl) in
    let r₂ = after r₁ (compiled {m = one_class} {room = no_room} {t = tables} (Ok its_counts) (file_of all_built.acceptor) is_compiled refl) in
    let r₃ = after r₂ (opened {k = pga} (flat all_built.acceptor) is_file (omega arith) refl) in
    let r₄ = after r₃ (begun {i = 0} its_turn (flat all_built.acceptor) (record { there = refl; live = refl; over = is_file }) refl) in
    (last_state, after r₄ (ended {i = 0} {says = true} started (flat all_built.acceptor) _ (record { there = refl; live = refl; over = is_file }) refl refl refl))

-- ── no other answer ──

rewritten : GrammarStep (with_rule (bare 1 1 1) (rule 1 [])) (1 ∷ []) []
rewritten = record { before = []; name = 1; side = []; after = []; rewrites = (omega arith, Memᴰ.head refl); from = refl; to = refl }

derived : Derives (with_rule (bare 1 1 1) (rule 1 [])) []
derived = record { sentence = tt; steps = rewrite rewritten all_done }

abbrev its_tally : Tally
its_tally = tally example_start example_calls

-- the tally has the empty sentence and the grammar for the turn that is judged
judged_only : {says : Bool} → Judged its_tally 0 says → says ≡ true
judged_only j =
    let turn : j.turn ≡ record { kind = pga; live = true; words = some [] } = some_one j.on.there refl in
    let sentence : j.sentence ≡ [] = some_one j.words (ap (λ (t : TurnTally). t.words) turn) in
    let note : j.note ≡ record { grammar = one_rule; meaning = one_class } = some_one j.on.note (ap (λ (t : TurnTally). note_of its_tally t.kind) turn) in
    j.verdict.nothing_lost (subst₂ Derives (sym (ap (λ (n : Note). n.grammar) note)) (sym sentence) derived)

pub example_only : (says : Bool) → ExampleTells says → says ≡ true
example_only says (s, r) = judged_only ((kept example_start ((end 0, told says) ∷ example_calls) s r).answers.0.judged 0 says refl refl)
