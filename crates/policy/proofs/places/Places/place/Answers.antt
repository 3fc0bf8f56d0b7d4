use Rattle.std.proofs.Common.{◌<◌, length, arith, rules}
use Rattle.table.proofs.Found.{number_below}
use Rattle.policy.proofs.Placing.{added, none_free}
use Rattle.policy.proofs.places.Places.place.Goals as goal

pub returns-in_err-i : goal.returns-in_err-i
returns-in_err-i g c =
    let s = c.args.self.now in
    rw c.from_residual.ensures (none_free s.rows s.len c.args.e s.fixed c.in_err-i.ensures)

pub overflow_cast-result : goal.overflow_cast-result
overflow_cast-result g c =
    let s = c.args.self.now in
    let b : c.in_ok-i.i < length s.rows = number_below (omega (arith, s.fixed)) c.in_ok-i.ensures in
    let k : c.in_ok-i.i < 4096 = omega (arith, s.fixed) in
    search rules

pub returns : goal.returns
returns g c =
    let s = c.args.self.now in
    added s.rows s.len c.args.e s.fixed c.in_ok-i.ensures
