use Rattle.std.proofs.Common.{◌≡◌, [], take}
use Rattle.flattening.specs.Walks.{arrows, Given, PutMore}
use Rattle.flattening.proofs.unfolded.Unfolded.put_all.Given as goal

abbrev pub invariant-loop-over : goal.invariant-loop-over
invariant-loop-over l =
    (l.table.rows.ghost_name ≡ l.initial.table.rows.ghost_name)
    × (l.table.limit ≡ l.initial.table.limit)
    × PutMore [] (Given l.self.items.now (arrows l.self.moves.now) (take l.over-index (arrows l.self.moves.now))) l.table
