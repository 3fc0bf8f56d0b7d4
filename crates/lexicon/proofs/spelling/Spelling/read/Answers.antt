use Rattle.std.proofs.Common.{◌≡◌, ◌++◌, length, take, drop, Ok, sym, ap, ◌∙◌, subst}
use Rattle.std.proofs.Math.Seq.{take-append_seam}
use Rattle.lexicon.specs.Padding.{zeros}
use Rattle.lexicon.specs.Spellings.{Read}
use Rattle.lexicon.specs.Spellings.Read.{good, bad}
use Rattle.lexicon.proofs.spelling.Spelling.read.Goals as goal

pub returns-in-Some : goal.returns-in-Some
returns-in-Some c = bad c.in-Some.ensures

pub returns : goal.returns
returns c =
    let bytes = c.args.bytes.now in
    let whole : take (length bytes) (c.copy_from_slice.new.self ++ drop (length bytes) zeros) ≡ bytes =
    ap (λ l. take (length bytes) (l ++ drop (length bytes) zeros)) c.copy_from_slice.ensures.after ∙ take-append_seam bytes (drop (length bytes) zeros) in
    subst (λ b. Read bytes (Ok b)) (sym whole) (good c.in_default.ensures)
