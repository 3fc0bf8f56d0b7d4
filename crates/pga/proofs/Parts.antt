-- The parts of a file, as the header's numbers ask for them: header, arcs, jumps, length.
use Rattle.std.proofs.Common.{◌≡◌, ℕ, ◌+◌, ◌*◌, ◌≤◌, List, [], ◌∷◌, ◌++◌, length, refl, arith}
use Rattle.std.specs.List.{AllByRecursion}
use Rattle.fields.specs.Reading.{number_at}
use Rattle.fields.specs.Flaws.{Check, ends, Passes, rows}
use Rattle.fields.proofs.Judging.{rows_there}
use Rattle.fields.proofs.Parts.{Parted}
use Rattle.pga.specs.declared.check.Header.{Header}
use Rattle.pga.specs.Flaws.{header_checks, arc_checks, jump_checks, file_checks}
use Rattle.pga.specs.Checks.{Headed}

-- the parts of what is checked
pub parts_of : (bytes : List ℕ)
    → Parted (header_checks bytes) (arc_checks bytes) (jump_checks bytes) (15 + 6 * number_at bytes 11 + 4 * number_at bytes 13) (file_checks bytes)
parts_of bytes = record { is = refl }

module _ (bytes : List ℕ) (h : Header) (head : Headed bytes h) {at end : ℕ} (e : at ≡ 15 + 6 * h.arcs) (e' : end ≡ at + 4 * h.jumps) where
  -- the rows that the header's numbers ask for
  abbrev arcs_of : List Check
  arcs_of = rows 15 (h.nodes ∷ (h.words ∷ (h.nodes ∷ []))) h.arcs

  abbrev jumps_of : List Check
  jumps_of = rows at (h.nodes ∷ (h.nodes ∷ [])) h.jumps

  -- are those of the file
  pub asked : Parted (header_checks bytes) arcs_of jumps_of end (file_checks bytes)
  asked =
      let start : at ≡ 15 + 6 * number_at bytes 11 = omega (arith, e, head.arcs) in
      let last : end ≡ 15 + 6 * number_at bytes 11 + 4 * number_at bytes 13 = omega (arith, e, e', head.arcs, head.jumps) in
      record {
        is = λ i. header_checks bytes ++ (rows 15 (head.nodes i ∷ (head.words i ∷ (head.nodes i ∷ []))) (head.arcs i)
            ++ (rows (start i) (head.nodes i ∷ (head.nodes i ∷ [])) (head.jumps i) ++ (ends (last i) ∷ [])));
      }

  -- and where they pass they are all there
  pub long_enough : AllByRecursion (Passes bytes) arcs_of → AllByRecursion (Passes bytes) jumps_of → end ≤ length bytes
  long_enough a b =
      let front = head.sound.1.1.1.1.1.1.0.0 in
      let one = rows_there bytes 15 (h.nodes ∷ (h.words ∷ (h.nodes ∷ []))) h.arcs front (omega arith) a in
      let two = rows_there bytes at (h.nodes ∷ (h.nodes ∷ [])) h.jumps (omega arith) (omega arith) b in
      omega arith
