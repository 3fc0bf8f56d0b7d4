use Rattle.std.proofs.Common.{◌<◌, Some, None, sym, ◌∙◌, arith, eq-eqb, eqb-true}
use Rattle.std.proofs.lemmas.Bool.{false≢true}
use Rattle.table.proofs.Lists.{stands_below}
use Rattle.policy.specs.Entries.{entries}
use Rattle.policy.specs.Linked.{meets_here, meets_none, meets_behind}
use Rattle.policy.specs.Paths.NextClass.{held, new, unheld}
use Rattle.policy.proofs.path.Path.class_after.Goals as goal

pub returns-in_err-link : goal.returns-in_err-link
returns-in_err-link c = rw c.from_residual.ensures (unheld (c.loop-link.invariant.1 c.in_err-link.ensures))

pub returns-then-eq : goal.returns-then-eq
returns-then-eq c =
    let ls = entries c.args.self.now.links in
    let at = c.in_ok-link.ensures in
    held (c.loop-link.invariant.0 (stands_below ls c.loop-link.at.0 c.in_ok-link.link at))
    (c.loop-link.invariant.2 (Some c.loop-link.at)
    (meets_here ls c.requires c.loop-link.at c.in_ok-link.link c.args.reached.0 at (eqb-true _ _ (sym c.eq.ensures ∙ c.if-eq.true))))

pub returns-then-at-eq0 : goal.returns-then-at-eq0
returns-then-at-eq0 c =
    let ls = entries c.args.self.now.links in
    let at = c.in_ok-link.ensures in
    new (c.loop-link.invariant.0 (stands_below ls c.loop-link.at.0 c.in_ok-link.link at))
    (c.loop-link.invariant.2 None
    (meets_none ls c.requires c.in_ok-link.link c.args.reached.0 c.loop-link.at.0 c.if-at-eq0.true at
    (λ e. false≢true (sym c.if-eq.false ∙ (c.eq.ensures ∙ eq-eqb _ _ e)))))

pub loop-link-preserved : goal.loop-link-preserved
loop-link-preserved c =
    let ls = entries c.args.self.now.links in
    let i = c.loop-link.at.0 in
    let l = c.in_ok-link.link in
    let at = c.in_ok-link.ensures in
    let below = stands_below ls i l at in
    let up : 0 < i = omega (arith, c.if-at-eq0.false) in
    let behind = c.requires.behind i l at up in (
      (λ h. c.loop-link.invariant.0 below),
      (λ h. omega (arith, below, behind, h)),
      (λ r m. c.loop-link.invariant.2 r
          (meets_behind ls c.requires i l c.args.reached.0 at up (λ e. false≢true (sym c.if-eq.false ∙ (c.eq.ensures ∙ eq-eqb _ _ e))) r m)),
    )
