-- What is handed on once the book's machine was unfolded: to the flattening, and with its answer to the file.
use Rattle.std.proofs.Common.{◌≡◌, ℕ, ◌+◌, ◌-◌, ◌<◌, ◌≤◌, min, List, length, take, Ok, Err, sym, refl, ap, ◌∙◌, arith}
use Rattle.book.specs.declared.reader.Summary.{Summary}
use Rattle.book.specs.Grammar.{Grammar}
use Rattle.book.specs.Tables.{Holds}
use Rattle.book.proofs.Held.{Known}
use Rattle.table.specs.declared.numbers.NodeNo.{NodeNo}
use Rattle.table.specs.declared.numbers.StateNo.{StateNo}
use Rattle.table.specs.declared.numbers.ItemNo.{ItemNo}
use Rattle.table.specs.declared.sets.NumberSet.{NumberSet}
use Rattle.finding.specs.declared.moves.Move.{Move}
use Rattle.finding.specs.declared.moves.Count.{Count}
use Rattle.theory.specs.Policies.{Class, Meaning}
use Rattle.theory.specs.Flattening.{file_length, word_moves}
use Rattle.machine.specs.declared.items.Items.{Items}
use Rattle.machine.specs.declared.machine.MachineSummary.{MachineSummary}
use Rattle.machine.specs.Index.{Indexed}
use Rattle.machine.specs.Machines.{MachineIn}
use Rattle.policy.specs.Classes.{Room}
use Rattle.unfolding.specs.declared.node.Node.{Node}
use Rattle.unfolding.specs.Moves.{state_arrows}
use Rattle.unfolding.specs.Unfoldings.{node_arrows, UnfoldedIn}
use Rattle.flattening.specs.declared.jump.Jump.{Jump}
use Rattle.flattening.specs.declared.fault.JumpFault.{JumpFault}
use Rattle.flattening.specs.declared.flat.FlatSummary.{FlatSummary}
use Rattle.flattening.specs.Flat.{Unfolding, told, JumpsFound, refusal as jump_refusal, FlatIn}
use Rattle.pga.specs.Writing.{acceptor, Written}
use Rattle.compiler.specs.Compiling.{Lengths, Built, Opened, CompileRefusal, Compiled}
use Rattle.compiler.proofs.Assembling.{words_is, built, sizes, as_machine, node_count, opened_part, part_count, part_short, part_pairs, jumps_of, to_flatten, refuses_jumps, refuses_output, compiles}

-- the part of the table that is handed on has the moves of an unfolding of the book's machine, which has its place in the tables; and how many there are of each
pub record Handed (book : List ℕ) (m : Meaning) (room : Room) (l : Lengths) (items : Items) (arrows : List (Move NodeNo)) (s : Summary) (ms : MachineSummary) (c : Count) : Type 0 where
  pub unfolded : Unfolding items (node_arrows arrows)
  pub is_built : Built book l unfolded.grammar unfolded.states unfolded.state_moves
  pub is_opened : Opened m room l unfolded.grammar unfolded.state_moves unfolded.nodes (node_arrows arrows)
  pub words_are : unfolded.grammar.words ≡ s.words
  pub states_are : ms.states ≡ length unfolded.states
  pub moves_are : ms.moves ≡ length unfolded.state_moves
  pub nodes_are : length unfolded.nodes ≡ c.entries
  pub arrows_are : length (node_arrows arrows) ≡ c.moves
  pub few : length arrows ≤ 16384

pub handed : {book : List ℕ} {s : Summary} {rows : List (NumberSet ItemNo)} {moves : List (Move StateNo)} {ms : MachineSummary} {m : Meaning} {room : Room} {held : List Class}
    {nodes : List Node} {unfolded : List (Move NodeNo)} {c : Count} {items : Items} → Known book s → MachineIn book rows moves ms
    → UnfoldedIn m room (state_arrows (take (ms.moves - 0) moves)) (s.words + s.names) held nodes unfolded c → items.words ≡ s.words
    → ((h : Grammar) → Holds book h → Indexed h items.after items.head items.next)
    → (l : Lengths) → length rows ≡ l.states → length moves ≡ l.moves → length nodes ≡ l.nodes → length unfolded ≡ l.unfolded
    → Handed book m room l items (take (c.moves - 0) unfolded) s ms c
unfolding to_flatten
handed {items = items} k mi raw words indexed l a b d e =
    let u = as_machine k mi raw in
    record {
      unfolded = to_flatten k mi u items words indexed;
      is_built = built k mi l a b;
      is_opened = opened_part k mi u l d e;
      words_are = words_is k mi;
      states_are = (sizes k mi).0;
      moves_are = (sizes k mi).1;
      nodes_are = node_count k mi u;
      arrows_are = part_count k mi u;
      few = part_short k mi u;
    }

module _ {book : List ℕ} {m : Meaning} {room : Room} {l : Lengths} {items : Items} {arrows : List (Move NodeNo)} {s : Summary} {ms : MachineSummary} {c : Count}
    (h : Handed book m room l items arrows s ms c) where
  pub not_flattened : {f : JumpFault} {rows : List Jump}
      → JumpsFound h.unfolded.grammar h.unfolded.states h.unfolded.nodes (node_arrows arrows) (min l.jumps 16384) (Err f) rows → CompileRefusal book m room l (jump_refusal f)
  not_flattened {f} {rows} j = refuses_jumps h.is_built h.is_opened f rows j

  module _ {flat : FlatSummary} {rows : List Jump} (f : FlatIn h.unfolded.grammar h.unfolded.states h.unfolded.nodes (node_arrows arrows) (min l.jumps 16384) flat rows) where
    pub not_written : (out : List ℕ) {needed : ℕ} → l.out ≡ length out → needed ≡ file_length (acceptor s.words c.entries flat.final_node arrows (take (flat.jumps - 0) rows))
        → length out < file_length (acceptor s.words c.entries flat.final_node arrows (take (flat.jumps - 0) rows)) → CompileRefusal book m room l (told 16 needed)
    not_written out {needed} e is short =
        refuses_output arrows h.is_built h.is_opened flat.final_node f.flat.final_is _ (jumps_of f.flat) (omega (arith, f.jumps_counted, f.few))
        _ _ _ h.words_are h.nodes_are (part_pairs rows flat.jumps _ refl) out e needed is short

    pub written : {out out' : List ℕ} {n : ℕ} → Written (acceptor s.words c.entries flat.final_node arrows (take (flat.jumps - 0) rows)) out (Ok n) out'
        → Compiled book m room l out out' (record { states = ms.states; moves = ms.moves; nodes = c.entries; unfolded = c.moves; arcs = flat.arcs; jumps = flat.jumps })
    written {out} {out'} {n} w =
        compiles arrows h.is_built h.is_opened flat.final_node f.flat.final_is _ (jumps_of f.flat) (omega (arith, f.jumps_counted, f.few))
        _ _ _ h.words_are h.nodes_are (part_pairs rows flat.jumps _ refl) out out' n w _ h.states_are h.moves_are (sym h.nodes_are) (sym h.arrows_are)
        (f.arcs_counted ∙ ap (λ z. length (word_moves z (node_arrows arrows))) h.words_are) f.jumps_counted
