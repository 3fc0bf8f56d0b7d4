use Rattle.std.proofs.Common.{⊎_elim, arith}
use Rattle.acceptor.specs.Flats.{acceptor_of}
use Rattle.acceptor.proofs.Leading.{is_first}
use Rattle.acceptor.proofs.flat.Flat.first_set.Goals as goal

pub returns : goal.returns
returns c = λ fit.
    let seed = c.insert.new.self.words in
    is_first (acceptor_of c.args.self.now) fit c.spread.result.words c.spread.result.row seed
    (λ k m. ⊎_elim (λ n. absurd (c.empty-set.ensures k n)) (λ n. n.0) (c.insert.ensures.only k m)) (c.insert.ensures.added (omega arith))
    (c.spread.ensures fit)
