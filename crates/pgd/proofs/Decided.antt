-- All checks of a file pass exactly where it is framed and the determinised acceptor that is read off it fits.
use Rattle.std.proofs.Common.{ℕ, ◌+◌, ◌*◌, List, [], ◌∷◌, arith, rules}
use Rattle.std.specs.List.{AllByRecursion}
use Rattle.std.proofs.lemmas.List.FromFn.{length-map-range_with_len}
use Rattle.finding.specs.Numbered.{Arrow}
use Rattle.fields.specs.Reading.{number_at, arc_in}
use Rattle.fields.specs.Flaws.{flagged, Passes}
use Rattle.fields.proofs.Judging.{each_part, every_part}
use Rattle.fields.proofs.Parts.{EachPasses, all_pass, each_passes}
use Rattle.fields.proofs.Rising.{arcs_within, arcs_rise, arcs_pass}
use Rattle.pgd.specs.Files.{Fit}
use Rattle.pgd.specs.Reading.{final_flag_at, decoded}
use Rattle.pgd.specs.Flaws.{header_checks, state_checks, arc_checks, file_checks}
use Rattle.pgd.proofs.Parts.{parts_of}
use Rattle.pgd.proofs.Decoding.{Framed}

module _ (bytes : List ℕ) where
  abbrev words : ℕ
  words = number_at bytes 5

  abbrev states : ℕ
  states = number_at bytes 7

  abbrev arcs : ℕ
  arcs = number_at bytes 9

  abbrev arc_of : ℕ → Arrow
  arc_of k = arc_in bytes (11 + number_at bytes 7 + 6 * k)

  module _ (a : AllByRecursion (Passes bytes) (file_checks bytes)) where
    each : EachPasses bytes header_checks (state_checks bytes) (arc_checks bytes) (11 + states + 6 * arcs)
    each = each_passes bytes (parts_of bytes) a

    pub passes_framed : Framed bytes
    passes_framed =
        let (m, (v, rest)) = each.sound_header in
        record {
          mark = m.1;
          version = omega (arith, v.1.0, v.1.1);
          flags = λ k h. (each_part bytes (λ j. flagged (11 + j) ∷ []) states each.sound_one k h).0.1;
          long = each.long;
        }

    pub passes_fit : Fit (decoded bytes)
    passes_fit =
        let (m, (v, (w, (n, (x, z))))) = each.sound_header in
        let n-arcs = length-map-range_with_len arc_of 0 arcs in
        record {
          words = (w.1.0, omega (arith, w.1.1));
          states = (n.1.0, omega (arith, n.1.1));
          finals = length-map-range_with_len (λ k. final_flag_at bytes (11 + k)) 0 states;
          few_arcs = omega (arith, x.1.1);
          arcs = arcs_within bytes (11 + states) words states arcs each.sound_two;
          arcs_rise = arcs_rise bytes (11 + states) words states arcs each.sound_two;
        }

  pub fit_passes : Framed bytes → Fit (decoded bytes) → AllByRecursion (Passes bytes) (file_checks bytes)
  fit_passes g f =
      let long = g.long in let v = g.version in
      let n-arcs = length-map-range_with_len arc_of 0 arcs in
      let (w₁, w₂) = f.words in let (n₁, n₂) = f.states in let x = f.few_arcs in
      let m = g.mark in
      all_pass bytes (parts_of bytes)
      (record {
        sound_header = search rules;
        sound_one = every_part bytes (λ j. flagged (11 + j) ∷ []) states (λ k h. ((omega arith, g.flags k h), tt));
        sound_two = arcs_pass bytes (11 + states) words states arcs (omega arith) f.arcs f.arcs_rise;
        long = long;
      })
