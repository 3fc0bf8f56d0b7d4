use Rattle.std.proofs.Common.{◌≡◌, ℕ, ◌+◌, List, sym, ap, subst}
use Rattle.finding.specs.Numbered.{Arrow}
use Rattle.theory.specs.Policies.{Finer, last}
use Rattle.theory.proofs.Policies.{policy_laws}
use Rattle.policies.specs.Lasts.{depth_of}
use Rattle.policies.proofs.comparing.deeper.Goals as goal

finer : (m k : ℕ) → k ≡ m → (moves : List Arrow) → Finer moves (last (m + 1)) (last k)
finer m k e moves = subst (λ (n : ℕ). Finer moves (last (m + 1)) (last n)) (sym e) ((policy_laws moves).last_longer m)

pub returns-in-One-clause-finer : goal.returns-in-One-clause-finer
returns-in-One-clause-finer c = finer 1 _ (ap depth_of c.in-One.is)

pub returns-in-Two-clause-finer : goal.returns-in-Two-clause-finer
returns-in-Two-clause-finer c = finer 2 _ (ap depth_of c.in-Two.is)

pub returns-in-Three-clause-finer : goal.returns-in-Three-clause-finer
returns-in-Three-clause-finer c = finer 3 _ (ap depth_of c.in-Three.is)
