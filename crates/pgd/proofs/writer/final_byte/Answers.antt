use Rattle.std.proofs.Common.{◌≡◌, ◌∙◌, Bool, true, false, refl, ap}
use Rattle.std.specs.Int.{from_bool}
use Rattle.pgd.specs.Files.{final_byte}
use Rattle.pgd.proofs.Finals.{tells_member}
use Rattle.pgd.proofs.writer.final_byte.Goals as goal

same_byte : (b : Bool) → from_bool b ≡ final_byte b
same_byte true = refl
same_byte false = refl

pub returns : goal.returns
returns c =
    let row = c.args.row.now in
    c.from.ensures ∙ same_byte c.has.result ∙ ap final_byte (tells_member row.words row.row c.args.final_node.0 c.has.result c.has.ensures)
