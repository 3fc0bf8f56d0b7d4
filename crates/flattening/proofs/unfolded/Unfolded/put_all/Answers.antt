use Rattle.std.proofs.Common.{get_or, take, ap, ◌∙◌}
use Rattle.flattening.specs.declared.kept.JumpTable.{JumpTable}
use Rattle.flattening.specs.Walks.{plain, arrows}
use Rattle.flattening.proofs.Gathering.{no_move, gather_word, gather_name, arrows_more, arrow_among}
use Rattle.flattening.proofs.unfolded.Unfolded.put_all.Goals as goal
use Rattle.flattening.proofs.unfolded.Unfolded.put_all.Goals.{then-over-self, else-over-self}

pub put_over-requires-clause-opened : goal.put_over-requires-clause-opened
put_over-requires-clause-opened c =
    c.requires.opened _ (arrow_among c.args.self.now.moves.now c.loop-over.over-index _ c.loop-over-test.true) c.if-over-self.true

pub loop-over-preserved : goal.loop-over-preserved
loop-over-preserved c =
    let items = c.args.self.now.items.now in
    let table = c.args.self.now.moves.now in
    let moves = arrows table in
    let n = c.loop-over.over-index in
    let m = plain (get_or table n no_move) in
    let (lent, limit, so) = c.loop-over.invariant in
    let more = arrows_more table n no_move c.loop-over-test.true in
    elim c.if-over-self.branch [
      | then-over-self w ↦
          let o = c.requires.opened m (arrow_among table n no_move c.loop-over-test.true) w.if-over-self.true in
          let after = gather_name items moves m (take n moves) so w.put_over.new.table o w.if-over-self.true (λ found k. w.put_over.ensures.more found o k) in (
            ap (λ (t : JumpTable). t.rows.ghost_name) w.table-is ∙ w.put_over.ensures.lent ∙ lent,
            ap (λ (t : JumpTable). t.limit) w.table-is ∙ w.put_over.ensures.limit ∙ limit,
            rw (more, w.table-is) after,
          )
      | else-over-self w ↦ (
        ap (λ (t : JumpTable). t.rows.ghost_name) w.table-is ∙ lent,
        ap (λ (t : JumpTable). t.limit) w.table-is ∙ limit,
        rw (more, w.table-is) (gather_word items moves m (take n moves) so w.if-over-self.false),
      )
    ]
