use Rattle.policy.specs.Entries.{entries}
use Rattle.policies.specs.Pairing.{past, left_refused, right_refused, fitting}
use Rattle.policies.proofs.Halves.{half, left_step, right_step}
use Rattle.policies.proofs.both.BothPolicy.fits.Goals as goal

pub returns-in_err-pair : goal.returns-in_err-pair
returns-in_err-pair g c =
    let s = c.args.self.now in
    let P = half g.P.Policy c.args.push s.first (g.met.P.Policy.distinct s.first c.requires.0) in
    let Q = half g.Q.Policy c.args.push s.second (g.met.Q.Policy.distinct s.second c.requires.1) in
    rw c.from_residual.ensures (_, past P Q (entries s.pairs) c.requires.2 c.args.class.0 c.in_err-pair.ensures)

pub returns-in_err-first : goal.returns-in_err-first
returns-in_err-first g c =
    let s = c.args.self.now in
    let P = half g.P.Policy c.args.push s.first (g.met.P.Policy.distinct s.first c.requires.0) in
    let Q = half g.Q.Policy c.args.push s.second (g.met.Q.Policy.distinct s.second c.requires.1) in
    rw c.from_residual-in_err-first.ensures (_, left_refused P Q (entries s.pairs) c.requires.2 c.args.class.0 c.in_ok-pair.pair c.in_ok-pair.ensures c.in_err-first.ensures.1)

pub returns-in_err-second : goal.returns-in_err-second
returns-in_err-second g c =
    let s = c.args.self.now in
    let P = half g.P.Policy c.args.push s.first (g.met.P.Policy.distinct s.first c.requires.0) in
    let Q = half g.Q.Policy c.args.push s.second (g.met.Q.Policy.distinct s.second c.requires.1) in
    rw c.from_residual-in_err-second.ensures (_, right_refused P Q (entries s.pairs) c.requires.2 c.args.class.0 c.in_ok-pair.pair c.in_ok-pair.ensures c.in_err-second.ensures.1)

pub returns : goal.returns
returns g c =
    let s = c.args.self.now in
    let P = half g.P.Policy c.args.push s.first (g.met.P.Policy.distinct s.first c.requires.0) in
    let Q = half g.Q.Policy c.args.push s.second (g.met.Q.Policy.distinct s.second c.requires.1) in
    let rs = entries s.pairs in
    let i = c.args.class.0 in
    let r = c.in_ok-pair.pair in
    let at = c.in_ok-pair.ensures in
    let left = left_step P Q rs c.requires.2 i r at c.in_ok-first.first c.in_ok-first.ensures.1 in
    let right = right_step P Q rs c.requires.2 i r at c.in_ok-second.second c.in_ok-second.ensures.1 in
    fitting P Q rs c.requires.2 i r at c.in_ok-first.first c.in_ok-second.second left right c.look.ensures.1
