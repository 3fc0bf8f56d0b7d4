use Rattle.std.proofs.Common.{ℕ, [], ◌∷◌, sym, refl, subst, arith}
use Rattle.table.specs.Lists.{StandsAt}
use Rattle.theory.specs.Policies.Class.{states}
use Rattle.policy.specs.Classes.Taken.{old, unheld}
use Rattle.policy.proofs.one_class.OneClassPolicy.fits.Goals as goal

pub returns-then-class-eq0 : goal.returns-then-class-eq0
returns-then-class-eq0 c =
    let at : StandsAt (states [] ∷ []) c.args.class.0 (states []) = subst (λ (n : ℕ). StandsAt (states [] ∷ []) n (states [])) (sym c.if-class-eq0.true) refl in
    (_, old (states []) at at)

pub returns-else-class-eq0 : goal.returns-else-class-eq0
returns-else-class-eq0 c = (_, unheld (omega (arith, c.if-class-eq0.false)))
