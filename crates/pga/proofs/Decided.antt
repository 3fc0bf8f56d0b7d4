-- All checks of a file pass exactly where it is framed and the acceptor that is read off it fits.
use Rattle.std.proofs.Common.{◌≡◌, ℕ, suc, ◌+◌, ◌*◌, ◌≤◌, List, [], ◌∷◌, length, arith, rules}
use Rattle.std.specs.List.{AllByRecursion}
use Rattle.std.proofs.lemmas.List.FromFn.{length-map-range_with_len}
use Rattle.theory.specs.Flattening.{JumpLess}
use Rattle.fields.specs.Reading.{number_at}
use Rattle.fields.specs.Flaws.{Passes}
use Rattle.fields.proofs.Parts.{EachPasses, all_pass, each_passes}
use Rattle.fields.proofs.Rising.{lex_chain, row_rises_next, rises_at, PassesRow, rows_within, rows_rise, rows_pass, arcs_within, arcs_rise, arcs_pass}
use Rattle.pga.specs.Files.{JumpFits, Fit}
use Rattle.pga.specs.Reading.{decoded}
use Rattle.pga.specs.Flaws.{header_checks, arc_checks, jump_checks, file_checks}
use Rattle.pga.proofs.Parts.{parts_of}
use Rattle.pga.proofs.Decoding.{Framed, arc_of, jump_of}

jumps_chain : (x y z : ℕ × ℕ) → JumpLess x y → JumpLess y z → JumpLess x z
jumps_chain x y z = lex_chain x.0 x.1 y.0 y.1 z.0 z.1

module _ (bytes : List ℕ) where
  abbrev words : ℕ
  words = number_at bytes 5

  abbrev nodes : ℕ
  nodes = number_at bytes 7

  abbrev arcs : ℕ
  arcs = number_at bytes 11

  abbrev jumps : ℕ
  jumps = number_at bytes 13

  abbrev jumps_start : ℕ
  jumps_start = 15 + 6 * number_at bytes 11

  -- what the row of a jump says of it, and back

  abbrev PassesJump : ℕ → Type 0
  PassesJump k = PassesRow bytes jumps_start (nodes ∷ (nodes ∷ [])) jumps (jump_of bytes) k

  jump_fits : (k : ℕ) → PassesJump k → JumpFits (decoded bytes) (jump_of bytes k)
  jump_fits k (p, (q, s)) = (p.1.1, q.1.1)

  jump_rises : (k : ℕ) → PassesJump (suc k) → JumpLess (jump_of bytes k) (jump_of bytes (suc k))
  jump_rises k (p, (q, (s, u))) = row_rises_next bytes jumps_start 4 k (omega arith) s.1

  jump_passes : (k : ℕ) → jumps_start + 4 * k + 4 ≤ length bytes → JumpFits (decoded bytes) (jump_of bytes k)
      → ((j : ℕ) → k ≡ suc j → JumpLess (jump_of bytes j) (jump_of bytes k)) → PassesJump k
  jump_passes k h f up =
      ((omega arith, (omega arith, f.0)), ((omega arith, (omega arith, f.1)), ((omega arith, rises_at bytes jumps_start 4 k up), tt)))

  -- all checks

  module _ (a : AllByRecursion (Passes bytes) (file_checks bytes)) where
    each : EachPasses bytes (header_checks bytes) (arc_checks bytes) (jump_checks bytes) (15 + 6 * arcs + 4 * jumps)
    each = each_passes bytes (parts_of bytes) a

    pub passes_framed : Framed bytes
    passes_framed =
        let (m, (v, rest)) = each.sound_header in
        record { mark = m.1; version = omega (arith, v.1.0, v.1.1); long = each.long }

    pub passes_fit : Fit (decoded bytes)
    passes_fit =
        let (m, (v, (w, (n, (l, (x, (y, z))))))) = each.sound_header in
        let n-arcs = length-map-range_with_len (arc_of bytes) 0 arcs in
        let n-jumps = length-map-range_with_len (jump_of bytes) 0 jumps in
        record {
          words = (w.1.0, omega (arith, w.1.1));
          nodes = (n.1.0, omega (arith, n.1.1));
          final = l.1.1;
          few_arcs = omega (arith, x.1.1);
          few_jumps = omega (arith, y.1.1);
          arcs = arcs_within bytes 15 words nodes arcs each.sound_one;
          jumps = rows_within bytes jumps_start (nodes ∷ (nodes ∷ [])) jumps (jump_of bytes) each.sound_two (JumpFits (decoded bytes)) jump_fits;
          arcs_rise = arcs_rise bytes 15 words nodes arcs each.sound_one;
          jumps_rise = rows_rise bytes jumps_start (nodes ∷ (nodes ∷ [])) jumps (jump_of bytes) each.sound_two JumpLess jumps_chain jump_rises;
        }

  pub fit_passes : Framed bytes → Fit (decoded bytes) → AllByRecursion (Passes bytes) (file_checks bytes)
  fit_passes g f =
      let long = g.long in
      let n-arcs = length-map-range_with_len (arc_of bytes) 0 arcs in
      let n-jumps = length-map-range_with_len (jump_of bytes) 0 jumps in
      let (w₁, w₂) = f.words in let (n₁, n₂) = f.nodes in let l = f.final in
      let x = f.few_arcs in let y = f.few_jumps in let v = g.version in let m = g.mark in
      all_pass bytes (parts_of bytes)
      (record {
        sound_header = search rules;
        sound_one = arcs_pass bytes 15 words nodes arcs (omega arith) f.arcs f.arcs_rise;
        sound_two =
            rows_pass bytes jumps_start (nodes ∷ (nodes ∷ [])) jumps (jump_of bytes) (JumpFits (decoded bytes)) JumpLess
            (λ k h. jump_passes k (omega arith)) f.jumps f.jumps_rise;
        long = long;
      })
