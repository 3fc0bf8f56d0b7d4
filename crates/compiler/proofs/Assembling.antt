-- From what each layer answers to what compile answers.
use Rattle.std.proofs.Common.{◌≡◌, refl, ℕ, ◌+◌, ◌-◌, ◌<◌, ◌≤◌, min, List, ◌++◌, map, length, take, drop, Ok, Err, sym, ap, ◌∙◌, subst, arith, length-take-le}
use native.Mathlib.Nat.{sub-zero}
use lib.ListN.{length-map}
use Rattle.std.proofs.lemmas.List.{length-take}
use Rattle.flattening.specs.Orders.{pair}
use Rattle.book.specs.declared.reader.Summary.{Summary}
use Rattle.book.specs.Grammar.{Grammar, symbols}
use Rattle.book.specs.Tables.{Holds}
use Rattle.book.proofs.Held.{Known}
use Rattle.book.proofs.Unique.{holds_one}
use Rattle.table.specs.declared.numbers.NodeNo.{NodeNo}
use Rattle.table.specs.declared.numbers.StateNo.{StateNo}
use Rattle.table.specs.declared.numbers.ItemNo.{ItemNo}
use Rattle.table.specs.declared.sets.NumberSet.{NumberSet}
use Rattle.finding.specs.declared.moves.Move.{Move}
use Rattle.finding.specs.declared.moves.Count.{Count}
use Rattle.finding.specs.Numbered.{Arrow}
use Rattle.finding.proofs.Laws.{numbered_laws, upto_ascending, upto_below}
use Rattle.theory.specs.Policies.{Class, Meaning}
use Rattle.theory.specs.Unfolding.{Node as MeantNode, Unfolded, FinalNode}
use Rattle.theory.specs.Flattening.{Acceptor, file_length, word_moves, FlattenedFrom, Flattened}
use Rattle.theory.proofs.Items.{fit_sound}
use Rattle.theory.proofs.Numbering.{moves_rise}
use Rattle.machine.specs.declared.items.Items.{Items}
use Rattle.machine.specs.declared.machine.MachineSummary.{MachineSummary}
use Rattle.machine.specs.Index.{Indexed}
use Rattle.machine.specs.Machines.{sets, arrows as state_table, MachineIn}
use Rattle.policy.specs.Classes.{Room}
use Rattle.unfolding.specs.declared.node.Node.{Node}
use Rattle.unfolding.specs.Moves.{Ordered, state_arrows}
use Rattle.unfolding.specs.Nodes.{nodes_of}
use Rattle.finding.specs.Finding.{Whole}
use Rattle.book.specs.declared.fault.Refusal.{Refusal}
use Rattle.unfolding.specs.Unfoldings.{limits, first_node, node_arrows, UnfoldedIn, UnfoldingRefusal}
use Rattle.flattening.specs.declared.jump.Jump.{Jump}
use Rattle.flattening.specs.Flat.{Unfolding, JumpsOf, told}
use Rattle.pga.specs.declared.listing.Counts.{Counts}
use Rattle.pga.specs.Files.{file_of}
use Rattle.pga.specs.Writing.{acceptor, pairs, Written}
use Rattle.machine.specs.declared.fault.MachineFault.{MachineFault}
use Rattle.machine.specs.Machines.{MachineRefusal, refusal as machine_refusal}
use Rattle.flattening.specs.declared.fault.JumpFault.{JumpFault}
use Rattle.flattening.specs.Flat.{JumpsFound, refusal as jump_refusal}
use Rattle.compiler.specs.declared.fault.CompileFault.{CompileFault}
use Rattle.compiler.specs.Compiling.{refusal, Lengths, Built, Opened, CompileRefusal, Compiled}
use Rattle.compiler.specs.Compiling.CompileRefusal.{output, nodes as in_nodes, machine as in_machine, jumps as in_jumps}
use Rattle.compiler.proofs.Composing.{composed, file_laws}
use Rattle.compiler.proofs.Fitting.{fits}

-- the machine that was written, over the lent tables

module _ {book : List ℕ} {s : Summary} (k : Known book s) {rows : List (NumberSet ItemNo)} {moves : List (Move StateNo)} {ms : MachineSummary} (mi : MachineIn book rows moves ms) where
  abbrev g : Grammar
  g = mi.grammar

  same : k.grammar ≡ mi.grammar
  same = holds_one k.holds mi.held

  pub words_is : mi.grammar.words ≡ s.words
  words_is = ap (λ (z : Grammar). z.words) (sym same) ∙ k.words

  pub symbols_is : symbols mi.grammar ≡ s.words + s.names
  symbols_is = ap symbols (sym same) ∙ (let a = k.words in let b = k.names in omega arith)

  moves_in : ms.moves ≤ length moves
  moves_in = let f = mi.moves_fit in omega arith

  states_in : ms.states ≤ length rows
  states_in = let f = mi.states_fit in omega arith

  pub ordered : Ordered (state_arrows (take (ms.moves - 0) moves)) (s.words + s.names)
  ordered =
      subst (λ n. Ordered (state_arrows (take n moves)) (s.words + s.names)) (sym (sub-zero ms.moves))
      (record {
        rising = moves_rise (symbols g) mi.machine;
        below = λ m h. (let b = upto_below (symbols g) m.1 ((numbered_laws mi.machine (upto_ascending (symbols g))).only m h).symbol in omega (arith, symbols_is));
        few = (let f = mi.held.fit in let w = f.words.1 in let n = f.names.1 in omega (arith, symbols_is));
      })

  pub built : (l : Lengths) → length rows ≡ l.states → length moves ≡ l.moves → Built book l mi.grammar (sets ms.states rows) (state_table ms.moves moves)
  built l a b =
      let f = mi.states_fit in let h = mi.moves_fit in
      let n : length (sets ms.states rows) ≡ ms.states = length-map (take ms.states rows) _ ∙ length-take-le ms.states rows states_in in
      let m : length (state_table ms.moves moves) ≡ ms.moves = length-map (take ms.moves moves) _ ∙ length-take-le ms.moves moves moves_in in
      record { held = mi.held; machine = mi.machine; states_fit = omega arith; moves_fit = omega arith }

  pub sizes : (ms.states ≡ length (sets ms.states rows)) × (ms.moves ≡ length (state_table ms.moves moves))
  sizes = (
    sym (length-map (take ms.states rows) _ ∙ length-take-le ms.states rows states_in),
    sym (length-map (take ms.moves moves) _ ∙ length-take-le ms.moves moves moves_in),
  )

  module _ {m : Meaning} {room : Room} {held : List Class} {nodes : List Node} {unfolded : List (Move NodeNo)} {c : Count}
      (u : UnfoldedIn m room (state_table ms.moves moves) (s.words + s.names) held nodes unfolded c) where
    pub is_unfolded : Unfolded m (state_table ms.moves moves) (symbols mi.grammar) (nodes_of held (take c.entries nodes)) (node_arrows (take c.moves unfolded))
    is_unfolded = subst (λ n. Unfolded m (state_table ms.moves moves) n (nodes_of held (take c.entries nodes)) (node_arrows (take c.moves unfolded))) (sym symbols_is) u.unfolded

    pub opened : (l : Lengths) → length nodes ≡ l.nodes → length unfolded ≡ l.unfolded
        → Opened m room l mi.grammar (state_table ms.moves moves) (nodes_of held (take c.entries nodes)) (node_arrows (take c.moves unfolded))
    opened l a b =
        let w = u.placed in
        let x = subst (λ n. Whole (limits m room (state_table ms.moves moves) n (length nodes) (length unfolded)) (first_node m) (nodes_of held (take c.entries nodes)) (node_arrows (take c.moves unfolded))) (sym symbols_is) w in
        let y = subst (λ n. Whole (limits m room (state_table ms.moves moves) (symbols mi.grammar) n (length unfolded)) (first_node m) (nodes_of held (take c.entries nodes)) (node_arrows (take c.moves unfolded))) a x in
        record {
          unfolded = is_unfolded;
          placed = subst (λ n. Whole (limits m room (state_table ms.moves moves) (symbols mi.grammar) l.nodes n) (first_node m) (nodes_of held (take c.entries nodes)) (node_arrows (take c.moves unfolded))) b y;
        }

    pub node_count : length (nodes_of held (take c.entries nodes)) ≡ c.entries
    node_count = let f = u.nodes_fit in length-map (take c.entries nodes) _ ∙ length-take-le c.entries nodes (omega arith)

    pub unfolded_count : length (node_arrows (take c.moves unfolded)) ≡ c.moves
    unfolded_count = let f = u.moves_fit in length-map (take c.moves unfolded) _ ∙ length-take-le c.moves unfolded (omega arith)

    -- what the flattening asks, of the part of the table that the code hands it
    unfoldable pub to_flatten : (items : Items) → items.words ≡ s.words → ((h : Grammar) → Holds book h → Indexed h items.after items.head items.next)
        → Unfolding items (node_arrows (take (c.moves - 0) unfolded))
    to_flatten items w x =
        record {
          grammar = mi.grammar;
          items_of = record { fit = mi.held.fit; words = w ∙ sym words_is; indexed = x mi.grammar mi.held };
          states = sets ms.states rows;
          state_moves = state_table ms.moves moves;
          machine = mi.machine;
          meaning = m;
          nodes = nodes_of held (take c.entries nodes);
          unfolded = subst (λ n. Unfolded m (state_table ms.moves moves) (symbols mi.grammar) (nodes_of held (take c.entries nodes)) (node_arrows (take n unfolded))) (sym (sub-zero c.moves)) is_unfolded;
        }

    pub opened_part : (l : Lengths) → length nodes ≡ l.nodes → length unfolded ≡ l.unfolded
        → Opened m room l mi.grammar (state_table ms.moves moves) (nodes_of held (take c.entries nodes)) (node_arrows (take (c.moves - 0) unfolded))
    opened_part l a b =
        subst (λ n. Opened m room l mi.grammar (state_table ms.moves moves) (nodes_of held (take c.entries nodes)) (node_arrows (take n unfolded))) (sym (sub-zero c.moves)) (opened l a b)

    pub part_count : length (node_arrows (take (c.moves - 0) unfolded)) ≡ c.moves
    part_count = ap (λ n. length (node_arrows (take n unfolded))) (sub-zero c.moves) ∙ unfolded_count

    pub part_short : length (take (c.moves - 0) unfolded) ≤ 16384
    part_short =
        let f = u.moves_fit in
        let n : length (node_arrows (take (c.moves - 0) unfolded)) ≡ length (take (c.moves - 0) unfolded) = length-map (take (c.moves - 0) unfolded) _ in
        omega (arith, part_count)

  -- the unfolding's answer, as the code hands it the part of the table
  pub as_machine : {m : Meaning} {room : Room} {held : List Class} {nodes : List Node} {unfolded : List (Move NodeNo)} {c : Count}
      → UnfoldedIn m room (state_arrows (take (ms.moves - 0) moves)) (s.words + s.names) held nodes unfolded c
      → UnfoldedIn m room (state_table ms.moves moves) (s.words + s.names) held nodes unfolded c
  as_machine {m} {room} {held} {nodes} {unfolded} {c} u =
      subst (λ n. UnfoldedIn m room (state_arrows (take n moves)) (s.words + s.names) held nodes unfolded c) (sub-zero ms.moves) u

  pub refuses_nodes : (m : Meaning) (room : Room) (l : Lengths) → length rows ≡ l.states → length moves ≡ l.moves → (f : Refusal)
      → UnfoldingRefusal m room (state_arrows (take (ms.moves - 0) moves)) (s.words + s.names) l.nodes l.unfolded f → CompileRefusal book m room l f
  refuses_nodes m room l a b f r =
      in_nodes mi.grammar _ _ (built l a b)
      (subst (λ n. UnfoldingRefusal m room (state_table ms.moves moves) n l.nodes l.unfolded f) (sym symbols_is)
      (subst (λ n. UnfoldingRefusal m room (state_arrows (take n moves)) (s.words + s.names) l.nodes l.unfolded f) (sub-zero ms.moves) r))

-- the acceptor that is written is the flattened one

module _ {book : List ℕ} {m : Meaning} {room : Room} {l : Lengths} {g : Grammar} {states : List (List ℕ)} {moves : List Arrow} {nodes : List MeantNode} (arrows : List (Move NodeNo))
    (b : Built book l g states moves) (o : Opened m room l g moves nodes (node_arrows arrows)) (last : NodeNo) (final : FinalNode states nodes last.0)
    (all : List (ℕ × ℕ)) (of : JumpsOf g states nodes (node_arrows arrows) all) (few : length all ≤ min l.jumps 16384)
    (words count : ℕ) (rows : List Jump) (words_are : g.words ≡ words) (count-is : length nodes ≡ count) (rows_are : pairs rows ≡ all) where
  abbrev flat : Acceptor
  flat = record { words = g.words; nodes = length nodes; final = last.0; arcs = word_moves g.words (node_arrows arrows); jumps = all }

  flat_is : FlattenedFrom g states nodes (node_arrows arrows) (record { words = g.words; nodes = length nodes; final = last.0; arcs = word_moves g.words (node_arrows arrows); jumps = all })
  flat_is = composed g m states moves nodes (node_arrows arrows) o.unfolded last.0 final all of.rising of.are

  is_flat : Flattened g m (record { words = g.words; nodes = length nodes; final = last.0; arcs = word_moves g.words (node_arrows arrows); jumps = all })
  is_flat = record { states = states; moves = moves; nodes = nodes; unfolded_moves = node_arrows arrows; machine = b.machine; unfolded = o.unfolded; flat = flat_is }

  written_is : acceptor words count last arrows rows ≡ record { words = g.words; nodes = length nodes; final = last.0; arcs = word_moves g.words (node_arrows arrows); jumps = all }
  written_is i = record { words = sym words_are i; nodes = sym count-is i; final = last.0; arcs = word_moves (sym words_are i) (node_arrows arrows); jumps = rows_are i }

  pub refuses_output : (out : List ℕ) → l.out ≡ length out → (needed : ℕ) → needed ≡ file_length (acceptor words count last arrows rows) → length out < file_length (acceptor words count last arrows rows)
      → CompileRefusal book m room l (told 16 needed)
  refuses_output out e needed is short =
      subst (λ n. CompileRefusal book m room l (told 16 n)) (sym (is ∙ ap file_length written_is))
      (output g states moves nodes (node_arrows arrows) b o flat flat_is few (subst (λ n. l.out < file_length n) written_is (omega arith)))

  pub compiles : (out out' : List ℕ) (n : ℕ) → Written (acceptor words count last arrows rows) out (Ok n) out' → (c : Counts) → c.states ≡ length states → c.moves ≡ length moves
      → c.nodes ≡ length nodes → c.unfolded ≡ length (node_arrows arrows) → c.arcs ≡ length (word_moves words (node_arrows arrows)) → c.jumps ≡ length all → Compiled book m room l out out' c
  compiles out out' n w c s₁ s₂ s₃ s₄ s₅ s₆ =
      let used : n ≡ file_length flat = w.length_used ∙ ap file_length written_is in
      record {
        grammar = g;
        states = states;
        moves = moves;
        nodes = nodes;
        arrows = node_arrows arrows;
        acceptor = flat;
        built = b;
        opened = o;
        flat = flat_is;
        jumps_fit = few;
        fit = fits b o flat is_flat refl refl refl (omega arith);
        out_is = w.is ∙ ap (λ z. file_of z ++ drop n out) written_is ∙ ap (λ z. file_of flat ++ drop z out) used;
        state_count = s₁;
        move_count = s₂;
        node_count = s₃;
        unfolded_count = s₄;
        arc_count = s₅ ∙ ap (λ z. length (word_moves z (node_arrows arrows))) (sym words_are);
        jump_count = s₆;
        laws = file_laws g m flat (fit_sound g b.held.fit) is_flat;
      }

-- refusals of the machine and of the jumps

pub refuses_machine : (book : List ℕ) (m : Meaning) (room : Room) (l : Lengths) (f : MachineFault) (y : CompileFault) → refusal y ≡ machine_refusal f
    → MachineRefusal book l.states l.moves (machine_refusal f) → CompileRefusal book m room l (refusal y)
refuses_machine book m room l f y e r = subst (λ z. CompileRefusal book m room l z) (sym e) (in_machine r)

pub refuses_jumps : {book : List ℕ} {m : Meaning} {room : Room} {l : Lengths} {g : Grammar} {states : List (List ℕ)} {moves : List Arrow} {nodes : List MeantNode} {arrows : List Arrow}
    → Built book l g states moves → Opened m room l g moves nodes arrows → (f : JumpFault) (rows : List Jump) → JumpsFound g states nodes arrows (min l.jumps 16384) (Err f) rows
    → CompileRefusal book m room l (jump_refusal f)
refuses_jumps {book} {m} {room} {l} {g} {states} {moves} {nodes} {arrows} b o f rows j =
    let (x, at, e) = j.answer in
    subst (λ z. CompileRefusal book m room l z) (sym e) (in_jumps g states moves nodes arrows b o j.all j.of x at)

-- the jumps of a flattened acceptor are those between its nodes
pub jumps_of : {g : Grammar} {states : List (List ℕ)} {nodes : List MeantNode} {arrows : List Arrow} {f : Acceptor} → FlattenedFrom g states nodes arrows f → JumpsOf g states nodes arrows f.jumps
jumps_of f = record { rising = f.jumps_rise; are = f.jumps_are }

-- a part of a table is no longer than asked
pub part_few : (rows : List Jump) (n most : ℕ) → n ≤ most → length (take (n - 0) rows) ≤ most
part_few rows n most h = simp length-take (omega arith)

pub part_pairs : (rows : List Jump) (n : ℕ) (all : List (ℕ × ℕ)) → map pair (take n rows) ≡ all → pairs (take (n - 0) rows) ≡ all
part_pairs rows n all e = ap (λ k. pairs (take k rows)) (sub-zero n) ∙ e
