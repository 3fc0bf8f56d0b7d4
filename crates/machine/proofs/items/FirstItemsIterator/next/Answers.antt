use Rattle.std.proofs.Common.{◌≡◌, [], ◌∷◌, length, get_or, sym, ap, ◌∙◌, arith}
use Rattle.machine.specs.Index.{falling, links}
use Rattle.machine.proofs.Links.{links_none, links_on}
use Rattle.machine.proofs.items.FirstItemsIterator.next.Goals as goal

pub returns-then-self-eq0-clause-steps : goal.returns-then-self-eq0-clause-steps
returns-then-self-eq0-clause-steps c =
    let next = c.self.inside.items.now.next in
    let e : c.args.self.now ≡ [] = sym c.self.view_is ∙ ap (links next) c.if-self-eq0.true ∙ links_none next in (e, e)

pub returns-clause-steps : goal.returns-clause-steps
returns-clause-steps c =
    let next = c.self.inside.items.now.next in
    rw c.link_below-self-inside.ensures (sym c.self.view_is ∙ links_on next c.self.inside.at (omega arith) (omega arith))

pub returns-clause-goes : goal.returns-clause-goes
returns-clause-goes c =
    let next = c.self.inside.items.now.next in
    let e : c.args.self.now ≡ c.self.inside.at ∷ links next (falling c.self.inside.at (get_or next c.self.inside.at 0)) =
    sym c.self.view_is ∙ links_on next c.self.inside.at (omega arith) (omega arith) in
    record { on = λ _. (tt, tt, rw c.link_below-self-inside.ensures (omega (arith, ap length e))); keeps = tt; rests = λ _. tt }
