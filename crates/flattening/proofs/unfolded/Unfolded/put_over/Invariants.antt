use Rattle.std.proofs.Common.{◌≡◌, List}
use Rattle.flattening.specs.declared.jump.Jump.{Jump}
use Rattle.flattening.specs.Keeping.{Keeps}
use Rattle.flattening.specs.Walks.{plain, arrows, Opened}
use Rattle.flattening.proofs.Chains.{PutTo}
use Rattle.flattening.proofs.unfolded.Unfolded.put_over.Given as goal

abbrev pub invariant-loop-first : goal.invariant-loop-first
invariant-loop-first l =
    record {
      lent : l.table.rows.ghost_name ≡ l.initial.table.rows.ghost_name;
      limit : l.table.limit ≡ l.initial.table.limit;
      put : (found : List Jump) (o : Opened l.self.items.now (arrows l.self.moves.now) (plain l.over)) → Keeps found l.initial.table
          → PutTo l.self.items.now (arrows l.self.moves.now) (plain l.over) found o.numbers l.first-iterator l.table;
    }
