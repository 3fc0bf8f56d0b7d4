-- The determinised acceptor of an acceptor that fits its file fits its own.
use Rattle.std.proofs.Common.{◌≤◌, length, sym, ap, ◌∙◌, arith}
use mathlib.Core.List.{Memᴰ}
use Rattle.std.proofs.lemmas.List.{length-map}
use Rattle.table.proofs.Lists.{stands_below}
use Rattle.finding.specs.Numbered.{Arrow, upto}
use Rattle.finding.specs.Laws.{Laws}
use Rattle.finding.proofs.Laws.{numbered_laws, upto_ascending, upto_below}
use Rattle.theory.specs.Flattening.{Acceptor}
use Rattle.theory.specs.Subsets.{first_set, subset_step, Determined, Determinised}
use Rattle.theory.proofs.Lists.{all_from_mem}
use Rattle.fields.specs.Arcs.{ArcWithin}
use Rattle.pga.specs.Files.{Fit}
use Rattle.pgd.specs.Files.{Fit as SubsetFit}

pub fits : (f : Acceptor) → Fit f → {d : Determined} → Determinised f d → d.states ≤ 1024 → length d.arcs ≤ 16384 → SubsetFit d
fits f fit {d} t few-states few_arcs =
    record {
      words = (omega (arith, t.words_are, fit.words.0), omega (arith, t.words_are, fit.words.1));
      states = (omega (arith, t.states_are, stands_below t.sets 0 (first_set f) laws.first), few-states);
      finals = ap length t.finals_are ∙ length-map t.sets _ ∙ sym t.states_are;
      few_arcs = few_arcs;
      arcs = all_from_mem (ArcWithin d.words d.states) d.arcs arc_fits;
      arcs_rise = laws.rising;
    }
  where
    laws : Laws (subset_step f) (upto f.words) (first_set f) t.sets d.arcs
    laws = numbered_laws t.numbered (upto_ascending f.words)

    arc_fits : (m : Arrow) → Memᴰ m d.arcs → ArcWithin d.words d.states m
    arc_fits m h =
        let o = laws.only m h in (
          omega (arith, t.states_are, stands_below t.sets m.0 o.from o.from_at),
          omega (arith, t.words_are, upto_below f.words m.1 o.symbol),
          omega (arith, t.states_are, stands_below t.sets m.2 o.to o.to_at),
        )
