-- Compile is not refused where everything fits.
use Rattle.std.proofs.Common.{◌≡◌, ℕ, ◌≤◌, min, List, length, sym, subst, arith}
use Rattle.book.specs.declared.fault.Refusal.{Refusal}
use Rattle.book.specs.Grammar.{Grammar, symbols}
use Rattle.book.proofs.Unique.{holds_one, holds_no_fault}
use Rattle.table.proofs.Lists.{stands_below}
use Rattle.finding.specs.declared.moves.Stop.{Stop}
use Rattle.finding.specs.declared.moves.Stop.TheVariants.{Entry, Arrow as Beyond}
use Rattle.finding.specs.Numbered.{Arrow}
use Rattle.finding.specs.Finding.{Refused}
use Rattle.finding.proofs.Fitting.{fits_whole}
use Rattle.finding.proofs.Functional.{whole_or_refused}
use Rattle.finding.proofs.Laws.{numbered_unique}
use Rattle.theory.specs.Closure.{initial}
use Rattle.theory.specs.Machine.{Machine}
use Rattle.theory.specs.Policies.{Meaning}
use Rattle.theory.specs.Unfolding.{Node, Unfolded}
use Rattle.theory.specs.Flattening.{Acceptor, file_length, word_moves, FlattenedFrom, Flattened}
use Rattle.theory.proofs.Items.{fit_sound}
use Rattle.theory.proofs.Theorems.{one_acceptor}
use Rattle.theory.proofs.Unfolding.{final_node}
use Rattle.machine.specs.Machines.{MachineRefusal, limits as machine_limits}
use Rattle.machine.specs.Machines.MachineRefusal.{book as no_book, state_limit, move_limit}
use Rattle.machine.specs.Reading.{machine_search}
use Rattle.policy.specs.Classes.{Room}
use Rattle.unfolding.specs.Unfoldings.{UnfoldingRefusal, limits as unfolding_limits, first_node}
use Rattle.unfolding.specs.Unfoldings.UnfoldingRefusal.{class_unfit, node_limit, move_limit as unfolded_limit}
use Rattle.flattening.specs.Flat.{JumpsOf}
use Rattle.compiler.specs.Compiling.{Lengths, Built, CompileRefusal, FitsTables}
use Rattle.compiler.specs.Compiling.CompileRefusal.{machine as in_machine, nodes as in_nodes, jumps as in_jumps, output}
use Rattle.compiler.proofs.Composing.{composed}

module _ {table : List ℕ} {m : Meaning} {room : Room} {l : Lengths} (h : FitsTables table m room l) where
  -- the machine

  no_machine_stop : (s : Stop) → Refused (machine_limits h.grammar l.states l.moves) (initial h.grammar) s → ⊥
  unfolding machine_limits machine_search
  no_machine_stop s r =
      let b = h.built in
      whole_or_refused (fits_whole (record { numbered = b.machine; few = b.states_fit; few_moves = b.moves_fit; placed = λ front rest t e n. tt })) r

  machine_accepted : {f : Refusal} → MachineRefusal table l.states l.moves f → ⊥
  machine_accepted (no_book f) = holds_no_fault h.built.held f
  machine_accepted (state_limit g n k r) =
      no_machine_stop (Entry n) (subst (λ z. Refused (machine_limits z l.states l.moves) (initial z) (Entry n)) (holds_one k h.built.held) r)
  machine_accepted (move_limit g q n k r) =
      no_machine_stop (Beyond q n) (subst (λ z. Refused (machine_limits z l.states l.moves) (initial z) (Beyond q n)) (holds_one k h.built.held) r)

  -- another account of the same book has the same moves
  same_moves : (g : Grammar) {states : List (List ℕ)} {moves : List Arrow} → Built table l g states moves → (g ≡ h.grammar) × (moves ≡ h.moves)
  same_moves g {states} {moves} b =
      let e = holds_one b.held h.built.held in
      (e, (numbered_unique (subst (λ z. Machine z states moves) e b.machine) h.built.machine).1)

  -- the unfolding

  no_unfolding_stop : (s : Stop) → Refused (unfolding_limits m room h.moves (symbols h.grammar) l.nodes l.unfolded) (first_node m) s → ⊥
  unfolding unfolding_limits
  no_unfolding_stop s r =
      whole_or_refused (fits_whole (record { numbered = h.unfolded; few = h.nodes_fit; few_moves = h.arrows_fit; placed = h.placed })) r

  unfolding_accepted : {f : Refusal} → UnfoldingRefusal m room h.moves (symbols h.grammar) l.nodes l.unfolded f → ⊥
  unfolding_accepted (class_unfit n r) = no_unfolding_stop _ r
  unfolding_accepted (node_limit n r) = no_unfolding_stop _ r
  unfolding_accepted (unfolded_limit q n r) = no_unfolding_stop _ r

  -- the acceptor: every account of it is the same one

  pub same_acceptor : (g : Grammar) {states : List (List ℕ)} {moves : List Arrow} {nodes : List Node} {arrows : List Arrow} (f : Acceptor)
      → Built table l g states moves → Unfolded m moves (symbols g) nodes arrows → FlattenedFrom g states nodes arrows f → f ≡ h.acceptor
  same_acceptor g {states} {moves} {nodes} {arrows} f b u flat =
      let e = holds_one b.held h.built.held in
      let one : Flattened g m f = record { states = states; moves = moves; nodes = nodes; unfolded_moves = arrows; machine = b.machine; unfolded = u; flat = flat } in
      let other : Flattened h.grammar m h.acceptor =
      record { states = h.states; moves = h.moves; nodes = h.nodes; unfolded_moves = h.arrows; machine = h.built.machine; unfolded = h.unfolded; flat = h.flat } in
      one_acceptor h.grammar (fit_sound h.grammar h.built.held.fit) m f h.acceptor (subst (λ z. Flattened z m f) e one) other

  jumps_accepted : (g : Grammar) {states : List (List ℕ)} {moves : List Arrow} {nodes : List Node} {arrows : List Arrow} → Built table l g states moves
      → Unfolded m moves (symbols g) nodes arrows → (all : List (ℕ × ℕ)) → JumpsOf g states nodes arrows all → length all ≤ min l.jumps 16384
  jumps_accepted g {states} {moves} {nodes} {arrows} b u all of =
      let sound = fit_sound g b.held.fit in
      let (p, over, final) = final_node g sound b.machine m u in
      let f : Acceptor = record { words = g.words; nodes = length nodes; final = p; arcs = word_moves g.words arrows; jumps = all } in
      let e = same_acceptor g f b u (composed g m states moves nodes arrows u p final all of.rising of.are) in
      subst (λ z. length z.jumps ≤ min l.jumps 16384) (sym e) h.jumps_fit

  pub never_refused : {f : Refusal} → CompileRefusal table m room l f → ⊥
  never_refused (in_machine r) = machine_accepted r
  never_refused {f} (in_nodes g states moves b r) =
      let (e, k) = same_moves g b in
      unfolding_accepted (subst (λ z. UnfoldingRefusal m room h.moves (symbols z) l.nodes l.unfolded f) e (subst (λ z. UnfoldingRefusal m room z (symbols g) l.nodes l.unfolded f) k r))
  never_refused (in_jumps g states moves nodes arrows b o all of j s) =
      let few = jumps_accepted g b o.unfolded all of in let at = stands_below all (min l.jumps 16384) j s in omega arith
  never_refused (output g states moves nodes arrows b o f flat few short) =
      let fits : file_length f ≤ l.out = subst (λ z. file_length z ≤ l.out) (sym (same_acceptor g f b o.unfolded flat)) h.output_fits in omega arith

-- what a refusal says in full
pub turned_down : {table : List ℕ} {m : Meaning} {room : Room} {l : Lengths} {out out' : List ℕ} {f : Refusal} → CompileRefusal table m room l f → out' ≡ out
    → CompileRefusal table m room l f × (out' ≡ out) × (FitsTables table m room l → ⊥)
turned_down r e = (r, e, λ h. never_refused h r)
