use Rattle.std.proofs.Common.{◌≡◌, ◌-◌, ◌≤◌, length}
use Rattle.finding.specs.Finding.{within, stands, Finding}
use Rattle.finding.specs.Spaces.{Held}
use Rattle.finding.proofs.order.number_all.Given as goal

abbrev pub invariant-loop-i : goal.invariant-loop-i
invariant-loop-i g l = record {
  source : g.S.Space.source l.space ≡ g.S.Space.source l.fn.space;
  held : Held (g.S.Space.ready l.space) l.rows l.moves l.found;
  in_range : l.i ≤ l.found.entries;
  finding : Finding (within (g.S.Space.sought (g.S.Space.source l.fn.space)) (length l.fn.rows) (length l.fn.moves)) (g.S.Space.thing l.fn.space l.fn.start)
      (stands (g.S.Space.thing l.space) g.N.Number.value l.rows l.found.entries l.moves l.found.moves l.i 0);
}

abbrev pub decreases-loop-i : goal.decreases-loop-i
decreases-loop-i g l = length l.initial.rows - l.i
