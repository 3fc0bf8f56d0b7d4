use Rattle.std.proofs.Common.{◌≡◌, ltb, sym, ◌∙◌, rules}
use Rattle.std.specs.List.{count_by}
use Rattle.flattening.proofs.Counting.{words_counted}
use Rattle.flattening.proofs.flat.count_arcs.Goals as goal

pub returns : goal.returns
returns c =
    let counted : c.count.result ≡ count_by (λ m. ltb m.symbol c.args.words) c.args.moves.now = search rules in
    counted ∙ sym (words_counted c.args.words c.args.moves.now)
