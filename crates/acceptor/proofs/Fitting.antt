-- An acceptor that fits has all its numbers in range.
use Rattle.std.proofs.Common.{ℕ, ◌<◌, arith}
use mathlib.Core.List.{Memᴰ}
use Rattle.theory.specs.Flattening.{Acceptor}
use Rattle.theory.specs.Subsets.{InRange}
use Rattle.theory.proofs.Lists.{all_mem}
use Rattle.fields.specs.Arcs.{ArcWithin}
use Rattle.pga.specs.Files.{Fit, JumpFits}

pub fit_range : (f : Acceptor) → Fit f → InRange f
fit_range f fit =
    record {
      some_node = fit.nodes.0;
      final_node = fit.final;
      arcs_within = λ q x p m. all_mem (ArcWithin f.words f.nodes) f.arcs fit.arcs m;
      jumps_within = λ p to m. all_mem (JumpFits f) f.jumps fit.jumps m;
    }

-- so jumps lead to numbers that a set can have
pub small_jumps : (f : Acceptor) → Fit f → (q k : ℕ) → Memᴰ (q, k) f.jumps → k < 4096
small_jumps f fit q k m = omega (arith, ((fit_range f fit).jumps_within q k m).1, fit.nodes.1)

-- and arcs
pub small_arcs : (f : Acceptor) → Fit f → (q x k : ℕ) → Memᴰ (q, x, k) f.arcs → k < 4096
small_arcs f fit q x k m = omega (arith, ((fit_range f fit).arcs_within q x k m).2, fit.nodes.1)
