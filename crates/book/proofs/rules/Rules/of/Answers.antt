use Rattle.std.proofs.Common.{◌≡◌, ◌++◌, length, drop, sym, ap, ◌∙◌}
use Rattle.std.specs.List.{flat_map}
use Rattle.std.proofs.lemmas.List.{take_rest}
use Rattle.book.specs.Grammar.{Grammar}
use Rattle.book.specs.Reading.{rules_in}
use Rattle.book.specs.Tables.{rule_entries}
use Rattle.book.proofs.Held.{known}
use Rattle.book.proofs.Places.{rules_read}
use Rattle.book.proofs.Unique.{holds_one}
use Rattle.book.proofs.rules.Rules.of.Goals as goal

pub returns : goal.returns
returns c g h =
    let t = c.args.table.now in
    let k = known t c.args.book c.requires in
    let n : c.args.book.rules ≡ length g.rules = sym k.rules ∙ ap (λ (x : Grammar). length x.rules) (holds_one k.holds h) in
    ap (rules_in c.args.book.rules) (take_rest t 4 ∙ ap (drop 4) h.is)
    ∙ ap (λ m. rules_in m (flat_map rule_entries g.rules ++ h.rest)) n ∙ rules_read g.rules h.rest
