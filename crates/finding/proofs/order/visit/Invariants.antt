use Rattle.std.proofs.Common.{◌≡◌, ◌-◌, ◌≤◌, length}
use Rattle.finding.specs.Finding.{within, stands, Turns}
use Rattle.finding.specs.Spaces.{Held}
use Rattle.finding.proofs.order.visit.Given as goal

abbrev pub invariant-loop-y : goal.invariant-loop-y
invariant-loop-y g l = record {
  source : g.S.Space.source l.space ≡ g.S.Space.source l.initial.space;
  held : Held (g.S.Space.ready l.space) l.rows l.moves l.found;
  more : l.initial.found.entries ≤ l.found.entries;
  in_symbols : l.x ≤ (g.S.Space.sought (g.S.Space.source l.space)).symbols;
  turns : Turns (within (g.S.Space.sought (g.S.Space.source l.initial.space)) (length l.initial.rows) (length l.initial.moves))
      (stands (g.S.Space.thing l.initial.space) g.N.Number.value l.initial.rows l.initial.found.entries l.initial.moves l.initial.found.moves l.i 0)
      (stands (g.S.Space.thing l.space) g.N.Number.value l.rows l.found.entries l.moves l.found.moves l.i l.x);
}

abbrev pub decreases-loop-y : goal.decreases-loop-y
decreases-loop-y g l = 65536 - l.x
