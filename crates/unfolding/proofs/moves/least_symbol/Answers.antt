use Rattle.std.proofs.Common.{ap, sym, ◌∙◌, arith, eqb-true, eq-eqb}
use Rattle.std.proofs.lemmas.Bool.{false≢true}
use Rattle.std.proofs.lemmas.List.{length-map}
use Rattle.table.proofs.Lists.{stands_below, stands_same}
use Rattle.finding.specs.Numbered.{Arrow}
use Rattle.finding.proofs.Seeking.{arrow_read}
use Rattle.unfolding.specs.Moves.{state_arrow, state_arrows}
use Rattle.unfolding.proofs.Seeking.{least_found, none_found}
use Rattle.unfolding.proofs.moves.least_symbol.Goals as goal

pub returns-in_err-first : goal.returns-in_err-first
returns-in_err-first c =
    let ms = state_arrows c.args.rising.now.moves.now in
    rw c.from_residual.ensures
    (none_found _ c.args.rising.now.rising _ _ _ c.seek.ensures
    (λ m s e. let b = stands_below ms c.seek.result m s in omega (arith, c.in_err-first.ensures.lookup.3, length-map c.args.rising.now.moves.now state_arrow)))

pub returns-then-eq : goal.returns-then-eq
returns-then-eq c =
    let found = c.in_ok-first.ensures.lookup in
    let at = arrow_read (λ s. s.0) c.args.rising.now.moves.now c.seek.result c.in_ok-first.first.now found.3.0 found.1 in
    least_found _ c.args.rising.now.rising _ _ _ c.seek.ensures _ at (eqb-true _ _ (sym c.eq.ensures ∙ c.if-eq.true))

pub returns-else-eq : goal.returns-else-eq
returns-else-eq c =
    let ms = state_arrows c.args.rising.now.moves.now in
    let found = c.in_ok-first.ensures.lookup in
    let at = arrow_read (λ s. s.0) c.args.rising.now.moves.now c.seek.result c.in_ok-first.first.now found.3.0 found.1 in
    none_found _ c.args.rising.now.rising _ _ _ c.seek.ensures
    (λ m s e. false≢true (sym c.if-eq.false ∙ c.eq.ensures ∙ eq-eqb _ _ (ap (λ (a : Arrow). a.0) (stands_same ms c.seek.result _ m at s) ∙ e)))
