use Rattle.std.proofs.Common.{Some, arith, rules}
use Rattle.table.specs.Found.{FoundOrAdded}
use Rattle.table.proofs.Lists.{stands_read}
use Rattle.table.proofs.Found.{number_below, found_in}
use Rattle.finding.proofs.Taking.{AtMove, room_stops, entry_stops, move_stops, moves_on}
use Rattle.finding.proofs.order.take_move.Given as given
use Rattle.finding.proofs.order.take_move.Goals.{After-reach, In-Some-find_or_add}
use Rattle.finding.proofs.order.take_move.Goals as goal

pub reach-requires : goal.reach-requires
reach-requires g c =
    let s = stands_read c.args.rows.now _ _ _ c.requires.here c.requires.held.entries_fit c.index-rows-i.is in
    record { held = (_, _, c.requires.held.is_ready, s); moves = c.requires.moves _ s }

pub find_or_add-requires : goal.find_or_add-requires
find_or_add-requires g c = record { exact = g.met.S.Space.exact _ _ c.requires.held.is_ready }

-- the entry that was read stands among those found, and the space was asked where it leads
at_move : (g : given.Over) (c : After-reach g)
    → AtMove (g.S.Space.sought (g.S.Space.source c.args.space.now)) (g.S.Space.thing c.args.space.now) (g.S.Space.thing c.reach.new.self) (g.S.Space.ready c.reach.new.self)
    c.args.rows.now c.args.moves.now c.args.found c.args.i c.args.x c.reach.result
at_move g c =
    let s = stands_read c.args.rows.now _ _ _ c.requires.here c.requires.held.entries_fit c.index-rows-i.is in
    let v = c.requires.moves _ s in
    record {
      entries_fit = c.requires.held.entries_fit;
      moves_fit = c.requires.held.moves_fit;
      e = c.index-rows-i.result;
      here = s;
      t = v.1.0;
      below = v.0;
      goes = v.1.1;
      says = c.reach.ensures.answer _ _ _ c.requires.held.is_ready s v.1.1;
    }

-- the table answered of the rows and the count that the search had
added : (g : given.Over) (c : In-Some-find_or_add g)
    → FoundOrAdded c.args.rows.now c.args.found.entries c.in-Some.t (Some c.in-Some-find_or_add.to)
    c.find_or_add.new.self.rows.now c.find_or_add.new.self.len
added g c = found_in c.new-table.ensures.rows c.new-table.ensures.len c.in-Some-find_or_add.ensures.found

pub returns-in_default-clause-turn : goal.returns-in_default-clause-turn
returns-in_default-clause-turn g c = room_stops g.N.Number.value (at_move g (goal.at.returns-in_default-clause-turn g c).After-reach) c.in_default.is

pub returns-in_default-find_or_add-clause-turn : goal.returns-in_default-find_or_add-clause-turn
returns-in_default-find_or_add-clause-turn g c =
    entry_stops g.N.Number.value (at_move g (goal.at.returns-in_default-find_or_add-clause-turn g c).After-reach) c.in-Some.is
    (found_in c.new-table.ensures.rows c.new-table.ensures.len c.in_default-find_or_add.ensures.found)

pub returns-then-found-moves-clause-turn : goal.returns-then-found-moves-clause-turn
returns-then-found-moves-clause-turn g c =
    let p = goal.at.returns-then-found-moves-clause-turn g c in
    move_stops g.N.Number.value (at_move g p.After-reach) c.in-Some.is (added g p.In-Some-find_or_add) c.if-found-moves.true

pub from_index-requires-2 : goal.from_index-requires-2
from_index-requires-2 g c =
    omega (arith, number_below c.requires.held.entries_fit (added g (goal.at.from_index-requires-2 g c).In-Some-find_or_add), c.requires.short)

pub returns : goal.returns
returns g c =
    let p = goal.at.returns g c in
    let k =
    moves_on g.N.Number.value (at_move g p.After-reach) c.in-Some.is _ _ (added g p.In-Some-find_or_add) c.if-found-moves.false
    c.from_index.ensures c.from_index-2.ensures c.len-entries.ensures (search rules) in
    record { source = c.reach.ensures.source; held = k.held; more = k.more; turn = k.turn }
