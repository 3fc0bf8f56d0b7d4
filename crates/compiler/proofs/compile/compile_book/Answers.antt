use Rattle.std.proofs.Common.{◌-◌, length, take, refl, arith}
use Rattle.std.proofs.lemmas.Result.{err_from_is_err_and}
use Rattle.book.proofs.Held.{known}
use Rattle.machine.specs.Machines.MachineRefusal.{book as bad_book}
use Rattle.compiler.specs.Compiling.CompileRefusal.{machine}
use Rattle.flattening.proofs.Linking.{moves_rise}
use Rattle.compiler.proofs.Accepting.{turned_down}
use Rattle.compiler.proofs.Assembling.{ordered, part_few, refuses_nodes, refuses_machine}
use Rattle.compiler.proofs.Handing.{Handed, handed, not_flattened, not_written, written}
use Rattle.compiler.proofs.compile.compile_book.Given as given
use Rattle.compiler.proofs.compile.compile_book.Goals as goal
use Rattle.compiler.proofs.compile.compile_book.Goals.{After-of-items}

pub returns-in_err-summary : goal.returns-in_err-summary
returns-in_err-summary g c =
    let p = err_from_is_err_and c.from_residual.result c.from_residual.ensures.1 in
    rw (p.1, p.2) (turned_down (machine (bad_book c.in_err-summary.ensures.checked)) refl)

pub returns-in_err-machine : goal.returns-in_err-machine
returns-in_err-machine g c =
    let p = err_from_is_err_and c.from_residual-in_err-machine.result c.from_residual-in_err-machine.ensures.1 in
    rw p.1 (turned_down (refuses_machine _ _ _ _ c.in_err-machine.field-0.0 p.0 p.2 c.in_err-machine.ensures) refl)

pub unfold-requires : goal.unfold-requires
unfold-requires g c = ordered (known _ _ c.in_ok-summary.ensures.checked) c.in_ok-machine.ensures

pub returns-in_err-found : goal.returns-in_err-found
returns-in_err-found g c =
    let p = err_from_is_err_and c.from_residual-in_err-found.result c.from_residual-in_err-found.ensures.1 in
    rw (p.1, p.2)
    (turned_down (refuses_nodes (known _ _ c.in_ok-summary.ensures.checked) c.in_ok-machine.ensures _ _ _ c.characteristic.auto.states c.characteristic.auto.moves _
    c.in_err-found.ensures.unfolds) refl)

-- what is handed on once the items of the book were read
handed_on : (g : given.Over) (c : goal.After-of-items g)
    → Handed c.args.book.now (g.P.Policy.meaning (g.P.Policy.kind c.args.policy.now)) (g.P.Policy.room (g.P.Policy.kind c.args.policy.now)) (record {
      states = length c.args.work.states.now;
      moves = length c.args.work.moves.now;
      nodes = length c.args.work.nodes.now;
      unfolded = length c.args.work.unfolded.now;
      jumps = length c.args.work.jumps.now;
      out = length c.args.out.now;
    }) c.of-items.result (take (c.in_ok-found.found.moves - 0) c.unfold.new.unfolded) c.in_ok-summary.summary c.in_ok-machine.machine c.in_ok-found.found
handed_on g c =
    handed (known _ _ c.in_ok-summary.ensures.checked) c.in_ok-machine.ensures c.in_ok-found.ensures.unfolds c.of-items.ensures.words c.of-items.ensures.indexed _
    c.characteristic.auto.states c.characteristic.auto.moves c.unfold.auto.nodes c.unfold.auto.unfolded

pub invariant_of-unfolded_machine : goal.invariant_of-unfolded_machine
invariant_of-unfolded_machine g c = record { rising = moves_rise _ _ (handed_on g (goal.at.invariant_of-unfolded_machine g c).After-of-items).unfolded }

pub flatten-requires : goal.flatten-requires
flatten-requires g c = (handed_on g (goal.at.flatten-requires g c).After-of-items).unfolded

pub returns-in_err-flat : goal.returns-in_err-flat
returns-in_err-flat g c =
    let p = err_from_is_err_and c.from_residual-in_err-flat.result c.from_residual-in_err-flat.ensures.1 in
    let h = handed_on g (goal.at.returns-in_err-flat g c).After-of-items in
    rw (p.1, p.2) (turned_down (not_flattened h (c.in_err-flat.ensures h.unfolded)) refl)

pub slice_bounds-parts-end : goal.slice_bounds-parts-end
slice_bounds-parts-end g c =
    let h = handed_on g (goal.at.slice_bounds-parts-end g c).After-of-items in omega (arith, (c.in_ok-flat.ensures h.unfolded).few, c.flatten.auto.rows)

pub invariant_of-parts : goal.invariant_of-parts
invariant_of-parts g c =
    let h = handed_on g (goal.at.invariant_of-parts g c).After-of-items in
    record { few = (h.few, part_few c.flatten.new.rows c.in_ok-flat.flat.jumps 16384 (omega (arith, (c.in_ok-flat.ensures h.unfolded).few))) }

pub returns-in_err-write : goal.returns-in_err-write
returns-in_err-write g c =
    let p = err_from_is_err_and c.from_residual-in_err-write.result c.from_residual-in_err-write.ensures.1 in
    let h = handed_on g (goal.at.returns-in_err-write g c).After-of-items in
    let w = c.in_err-write.ensures in
    rw (p.1, p.2) (turned_down (not_written h (c.in_ok-flat.ensures h.unfolded) _ refl w.0 w.1) w.2)

pub returns : goal.returns
returns g c = let h = handed_on g (goal.at.returns g c).After-of-items in written h (c.in_ok-flat.ensures h.unfolded) c.in_ok-write.ensures
