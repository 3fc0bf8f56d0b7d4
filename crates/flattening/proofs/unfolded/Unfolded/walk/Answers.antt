use Rattle.std.proofs.Common.{ℕ, ◌≡◌}
use Rattle.flattening.specs.Walks.{arrows, Ends}
use Rattle.flattening.proofs.Walking.{spells_one, walk_moves, walk_on, walk_ends}
use Rattle.flattening.proofs.unfolded.Unfolded.walk.Goals as goal

pub unwrap-at-requires : goal.unwrap-at-requires
unwrap-at-requires c =
    let (p, e) = c.requires in
    let l = rw (spells_one e.spells c.side-symbol-items.ensures) at e.leads in
    walk_moves _ _ _ _ c.loop-symbol-test.true _ _ c.find_move.ensures (c.loop-symbol.invariant p l)

pub loop-symbol-preserved : goal.loop-symbol-preserved
loop-symbol-preserved c p l =
    walk_on _ _ _ _ c.loop-symbol-test.true _ _ c.find_move.ensures (c.loop-symbol.invariant p l) c.unwrap-at.result c.unwrap-at.ensures

pub returns : goal.returns
returns c =
    let one : (p : ℕ) → Ends c.args.self.now.items.now.after (arrows c.args.self.now.moves.now) c.args.from.0 c.args.first p → p ≡ c.loop-symbol.at.0 = λ p e.
    let l = rw (spells_one e.spells c.side-symbol-items.ensures) at e.leads in
    walk_ends _ _ _ _ c.loop-symbol-test.false (c.loop-symbol.invariant p l) in
    let (p, e) = c.requires in
    record { ends = rw (← one p e) e; one = one }
