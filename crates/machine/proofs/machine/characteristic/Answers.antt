use Rattle.std.proofs.Common.{◌≡◌, length, take, Some, None, Result, subst}
use native.Mathlib.Nat.{sub-zero}
use Rattle.std.proofs.lemmas.Result.{err_from_is_err_and}
use Rattle.book.proofs.Held.{known}
use Rattle.finding.specs.declared.moves.Count.{Count}
use Rattle.finding.specs.declared.moves.Stop.{Stop}
use Rattle.machine.specs.Machines.{FoundFinal}
use Rattle.machine.specs.Machines.MachineRefusal.{book}
use Rattle.machine.proofs.Building.{items_of, ready_start, Searched, searched, refuses, has_final, built}
use Rattle.machine.proofs.machine.characteristic.Goals as goal
use Rattle.machine.proofs.machine.characteristic.Goals.{After-number}

pub returns-in_err-book : goal.returns-in_err-book
returns-in_err-book c =
    let p = err_from_is_err_and c.from_residual.result c.from_residual.ensures.1 in
    rw (p.1, p.2) (book c.in_err-book.ensures.checked)

pub number-requires-clause-ready : goal.number-requires-clause-ready
number-requires-clause-ready c =
    let k = known _ _ c.in_ok-book.ensures.checked in
    let of = items_of k c.of-items.result c.of-items.ensures.words c.of-items.ensures.indexed in
    ready_start k.grammar c.of-items.result c.initial_set-start.result k.holds of (c.initial_set-start.ensures k.grammar of)

-- what the search answered, for the grammar that the table holds
found : (c : After-number) (r : Result Count Stop) → c.number.result ≡ r
    → Searched c.args.table.now (length c.args.states.now) (length c.args.moves.now) c.number.new.rows c.number.new.moves r
found c r e =
    subst (Searched c.args.table.now (length c.args.states.now) (length c.args.moves.now) c.number.new.rows c.number.new.moves) e
    (searched (known _ _ c.in_ok-book.ensures.checked) c.of-items.result c.of-items.ensures.words c.of-items.ensures.indexed c.initial_set-start.result c.initial_set-start.ensures _
    c.number.ensures.answer)

pub returns-in_err-found : goal.returns-in_err-found
returns-in_err-found c =
    let p = err_from_is_err_and c.from_residual-in_err-found.result c.from_residual-in_err-found.ensures.1 in
    rw (p.1, p.2) (refuses _ (found (goal.at.returns-in_err-found c).After-number _ c.in_err-found.was))

pub unreachable-requires : goal.unreachable-requires
unreachable-requires c =
    let count = c.in_ok-found.found in
    let held = c.in_ok-found.ensures.held in
    has_final count (found (goal.at.unreachable-requires c).After-number _ c.in_ok-found.was) held.entries_fit held.moves_fit
    (subst (λ m. FoundFinal (take m c.number.new.rows) None) (sub-zero count.entries) c.in_default.ensures)

pub returns : goal.returns
returns c =
    let count = c.in_ok-found.found in
    let held = c.in_ok-found.ensures.held in
    built count (found (goal.at.returns c).After-number _ c.in_ok-found.was) held.entries_fit held.moves_fit c.in-Some.final_state
    (subst (λ m. FoundFinal (take m c.number.new.rows) (Some c.in-Some.final_state)) (sub-zero count.entries) c.in-Some.ensures)
    c.number.auto.rows c.number.auto.moves
