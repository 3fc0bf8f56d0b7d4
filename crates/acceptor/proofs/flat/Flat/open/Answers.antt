use Rattle.std.proofs.Common.{sym, subst}
use Rattle.pga.specs.Files.{IsFile}
use Rattle.pga.specs.Reading.{decoded}
use Rattle.acceptor.proofs.flat.Flat.open.Goals as goal

pub returns : goal.returns
returns c =
    let bytes = c.args.file.now in
    let f = c.in_ok-check_file.ensures.checked.0 in
    subst (IsFile bytes) (sym (c.read.ensures (decoded bytes) f)) f
