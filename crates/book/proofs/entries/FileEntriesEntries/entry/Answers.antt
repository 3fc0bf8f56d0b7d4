use Rattle.std.proofs.Common.{map, sym, ap, ◌∙◌, subst, [], arith}
use Rattle.std.specs.Int.{w16, from_le_bytes}
use Rattle.std.proofs.lemmas.List.{length-map, get_or-map}
use Rattle.std.proofs.lemmas.Grind.{common_steps}
use Rattle.book.specs.Reading.{EntryAt}
use Rattle.book.proofs.Numbers.{numbers_pairs}
use Rattle.book.proofs.entries.FileEntriesEntries.entry.Goals as goal

pub returns : goal.returns
returns c =
    let pairs = c.as_chunks.result.0.now in
    subst (λ l. EntryAt l c.args.i c.map.result) (ap (map (from_le_bytes w16)) c.as_chunks.ensures.front ∙ sym (numbers_pairs c.args.self.now.0.now))
    (grind (arith, common_steps, length-map pairs (from_le_bytes w16), get_or-map (from_le_bytes w16) pairs c.args.i [] 0))
