use Rattle.std.proofs.Common.{◌+◌, ◌*◌, ◌≤◌, take}
use Rattle.std.specs.Fn.{FnReturnsAt}
use Rattle.fields.specs.Putting.{PutsArcs}
use Rattle.fields.proofs.output.Output.arcs.Given as goal

abbrev pub invariant-loop-m : goal.invariant-loop-m
invariant-loop-m g l =
    record {
      room : l.self.at ≤ l.initial.self.at + 6 * l.m-index;
      puts : PutsArcs g.N.Number.value (FnReturnsAt g.F.Fn l.wanted) (take l.m-index l.moves) l.initial.self l.self;
    }
