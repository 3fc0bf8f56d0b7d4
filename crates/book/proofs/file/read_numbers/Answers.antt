use Rattle.std.proofs.Common.{map, sym, ap, ◌∙◌, arith}
use Rattle.std.specs.Int.{w16, from_le_bytes}
use Rattle.std.proofs.lemmas.List.{take_all}
use Rattle.book.proofs.Numbers.{numbers_pairs}
use Rattle.book.proofs.file.read_numbers.Goals as goal

pub returns : goal.returns
returns c =
    let pairs = c.as_chunks.result.0.now in
    sym (take_all c.loop-i.i c.loop-i.out (omega arith)) ∙ c.loop-i.invariant
    ∙ ap (map (from_le_bytes w16)) (take_all c.loop-i.i pairs (omega arith) ∙ c.as_chunks.ensures.front)
    ∙ sym (numbers_pairs c.args.bytes.now)
