use Rattle.std.proofs.Common.{leb, sym, ap, ◌∙◌, min, rules, tests}
use Rattle.std.specs.List.{reduce, filter, filter_map}
use Rattle.std.proofs.lemmas.Iterator.Adapters.{option_map_id}
use Rattle.std.proofs.lemmas.Iterator.Consumers.{YieldsList-at, YieldsList-from_filter, YieldsList-from_filter_map, min_from_yields_List}
use Rattle.table.specs.declared.numbers.ItemNo.{ItemNo}
use Rattle.table.proofs.Members.{walk_road}
use Rattle.machine.proofs.Least.{symbol_at, symbol_is, least_after}
use Rattle.machine.proofs.items.Items.least_after.Goals as goal

pub returns : goal.returns
returns c =
    let after = c.args.self.now.after in
    least_after after c.args.set.now.words c.args.from c.args.set.now.row c.min.result
    (sym (option_map_id c.min.result)
    ∙ min_from_yields_List _ _ c.min.ensures.ran
    (YieldsList-from_filter _ (leb c.args.from)
    (YieldsList-at c.filter.ensures.source
    (YieldsList-from_filter_map _ (symbol_at after) (YieldsList-at c.filter_map.ensures.source (walk_road (λ (n : ItemNo). n.0) c.iter.result)) c.filter_map.ensures.closure
    (λ x r q k. search (rules, tests, symbol_is))))
    c.filter.ensures.closure (λ x r q k. search (rules, tests)))
    ∙ ap (λ l. reduce min (filter (leb c.args.from) (filter_map (symbol_at after) l))) c.iter.ensures.all)
