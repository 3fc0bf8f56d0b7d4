use Rattle.std.proofs.Common.{◌<◌, take, sym, arith, rules}
use Rattle.table.proofs.Lists.{stands_below}
use Rattle.policy.specs.Places.Placed.{old, new, full}
use Rattle.policy.proofs.Placing.{size}
use Rattle.policy.proofs.places.Places.look.Goals as goal

pub overflow_cast-result : goal.overflow_cast-result
overflow_cast-result g c =
    let s = c.args.self.now in
    let i = c.in-Some.i in
    let b : i < 4096 = omega (arith, stands_below (take s.len s.rows) i c.args.e c.in-Some.ensures, size s.rows s.len s.fixed, s.fixed.1) in
    search rules

pub returns-in-Some : goal.returns-in-Some
returns-in-Some g c = (_, old c.in-Some.ensures)

pub returns-then-self-lt4096 : goal.returns-then-self-lt4096
returns-then-self-lt4096 g c =
    let n = size c.args.self.now.rows c.args.self.now.len c.args.self.now.fixed in
    (_, new (sym n) c.in_default.ensures (omega (arith, n, c.if-self-lt4096.true)))

pub returns-else-self-lt4096 : goal.returns-else-self-lt4096
returns-else-self-lt4096 g c =
    let n = size c.args.self.now.rows c.args.self.now.len c.args.self.now.fixed in
    (_, full c.in_default.ensures (omega (arith, n, c.if-self-lt4096.false)))
