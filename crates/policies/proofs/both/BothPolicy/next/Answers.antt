use Rattle.std.proofs.Common.{◌≡◌, List, None, sym, ◌∙◌, subst, arith}
use Rattle.policy.specs.Entries.{entries}
use Rattle.theory.specs.Policies.{Class, both}
use Rattle.policy.specs.Classes.{after_push, Taken}
use Rattle.policy.proofs.Placing.{entry_below}
use Rattle.policy.proofs.Tracking.{refused, old_taken}
use Rattle.policies.specs.Pairs.{pair_classes, pair_room}
use Rattle.policies.specs.Pairing.{pairs_length, past, at_left, left_refused, right_fits, taken, paired}
use Rattle.policies.proofs.Halves.{half, left_step, right_step, new_pair}
use Rattle.policies.proofs.both.BothPolicy.next.Goals as goal

pub returns-then-is_some-clause-taken : goal.returns-then-is_some-clause-taken
returns-then-is_some-clause-taken g c =
    let s = c.args.self.now in
    let b = entry_below (entries s.pairs) c.in_ok-number.number.0 c.get.result c.get.ensures (sym c.is_some.ensures ∙ c.if-is_some.true) in
    old_taken c.in_ok-number.ensures.1 (omega (arith, b, pairs_length (g.P.Policy.held s.first) (g.Q.Policy.held s.second) (entries s.pairs)))

pub returns-in_err-pair-clause-taken : goal.returns-in_err-pair-clause-taken
returns-in_err-pair-clause-taken g c =
    let s = c.args.self.now in
    let P = half g.P.Policy c.args.push s.first (g.met.P.Policy.distinct s.first c.requires.0) in
    let Q = half g.Q.Policy c.args.push s.second (g.met.Q.Policy.distinct s.second c.requires.1) in
    rw c.from_residual-in_err-pair.ensures (past P Q (entries s.pairs) c.requires.2 c.args.class.0 c.in_err-pair.ensures)

-- the first half took nothing
pub returns-in_err-first-clause-taken : goal.returns-in_err-first-clause-taken
returns-in_err-first-clause-taken g c =
    let s = c.args.self.now in
    let m = g.P.Policy.meaning (g.P.Policy.kind s.first) in
    let n = g.Q.Policy.meaning (g.Q.Policy.kind s.second) in
    let P = half g.P.Policy c.args.push s.first (g.met.P.Policy.distinct s.first c.requires.0) in
    let Q = half g.Q.Policy c.args.push s.second (g.met.Q.Policy.distinct s.second c.requires.1) in
    let rs = entries s.pairs in
    let i = c.args.class.0 in
    let r = c.in_ok-pair.pair in
    let at = c.in_ok-pair.ensures in
    let same : g.P.Policy.held c.next.new.self ≡ P.held = (refused P.room P.held P.onward r.first.0 P.distinct (at_left P Q rs c.requires.2 i r at) c.in_err-first.ensures.taken).2 in
    rw c.from_residual-in_err-first.ensures
    (subst (λ (l : List Class). Taken (pair_room P.room Q.room) (pair_classes P.held Q.held rs) (after_push (both m n) c.args.push) i None (pair_classes l Q.held rs)) (sym same)
    (left_refused P Q rs c.requires.2 i r at c.in_err-first.ensures.taken))

-- the second half does not refuse where the pair fits
pub returns-in_err-second : goal.returns-in_err-second
returns-in_err-second g c =
    let s = c.args.self.now in
    let P = half g.P.Policy c.args.push s.first (g.met.P.Policy.distinct s.first c.requires.0) in
    let Q = half g.Q.Policy c.args.push s.second (g.met.Q.Policy.distinct s.second c.requires.1) in
    let rs = entries s.pairs in
    let i = c.args.class.0 in
    let r = c.in_ok-pair.pair in
    let at = c.in_ok-pair.ensures in
    let new = new_pair P Q rs c.requires.2 i r at c.get.result c.in_ok-number.ensures.1 c.get.ensures (sym c.is_some.ensures ∙ c.if-is_some.false) in
    absurd (right_fits P Q rs c.requires.2 i r at new c.in_err-second.ensures.taken)

pub returns : goal.returns
returns g c =
    let s = c.args.self.now in
    let P = half g.P.Policy c.args.push s.first (g.met.P.Policy.distinct s.first c.requires.0) in
    let Q = half g.Q.Policy c.args.push s.second (g.met.Q.Policy.distinct s.second c.requires.1) in
    let rs = entries s.pairs in
    let i = c.args.class.0 in
    let r = c.in_ok-pair.pair in
    let at = c.in_ok-pair.ensures in
    let new = new_pair P Q rs c.requires.2 i r at c.get.result c.in_ok-number.ensures.1 c.get.ensures (sym c.is_some.ensures ∙ c.if-is_some.false) in
    let left = left_step P Q rs c.requires.2 i r at c.in_ok-first.first c.in_ok-first.ensures.taken in
    let right = right_step P Q rs c.requires.2 i r at c.in_ok-second.second c.in_ok-second.ensures.taken in
    record {
      kind = λ j. (c.next.ensures.kind j, c.next-2.ensures.kind j);
      ready = (c.next.ensures.ready, c.next-2.ensures.ready, paired P Q rs c.requires.2 i r at c.in_ok-first.first c.in_ok-second.second left right new c.place.ensures);
      taken = taken P Q rs c.requires.2 i r at c.in_ok-first.first c.in_ok-second.second left right new c.place.ensures;
    }
