use Rattle.std.proofs.Common.{min, sym, ap, ◌∙◌, rules, tests}
use Rattle.std.specs.List.{reduce, filter_map}
use Rattle.std.proofs.lemmas.Iterator.Adapters.{option_map_id}
use Rattle.std.proofs.lemmas.Iterator.Consumers.{YieldsList-at, YieldsList-from_filter_map, min_from_yields_List}
use Rattle.table.specs.declared.numbers.NodeNo.{NodeNo}
use Rattle.table.proofs.Members.{walk_road}
use Rattle.acceptor.specs.Rows.{arcs_of}
use Rattle.acceptor.specs.Flats.{acceptor_of}
use Rattle.acceptor.proofs.Least.{least_word, word_is, next_word}
use Rattle.acceptor.proofs.flat.Flat.next_word.Goals as goal

pub returns : goal.returns
returns c = λ fit.
    let word = least_word (arcs_of c.args.self.now.arcs.bytes.now) c.args.from in
    let is = word_is (arcs_of c.args.self.now.arcs.bytes.now) c.args.from fit.arcs_rise in
    next_word (acceptor_of c.args.self.now) fit _ c.args.from c.min.result
    (sym (option_map_id c.min.result)
    ∙ min_from_yields_List _ _ c.min.ensures.ran
    (YieldsList-from_filter_map _ word (YieldsList-at c.filter_map.ensures.source (walk_road (λ (n : NodeNo). n.0) c.iter.result)) c.filter_map.ensures.closure
    (λ x r q k. search (rules, tests, is)))
    ∙ ap (λ l. reduce min (filter_map word l)) c.iter.ensures.all)
