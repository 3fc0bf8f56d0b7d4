-- The parts of a file, as the header's numbers ask for them: header, states, arcs, length.
use Rattle.std.proofs.Common.{◌≡◌, ℕ, ◌+◌, ◌*◌, ◌≤◌, List, [], ◌∷◌, ◌++◌, length, refl, arith}
use Rattle.std.specs.List.{AllByRecursion}
use Rattle.fields.specs.Reading.{number_at}
use Rattle.fields.specs.Flaws.{Check, ends, Passes, flags, rows}
use Rattle.fields.proofs.Judging.{flags_there, rows_there}
use Rattle.fields.proofs.Parts.{Parted}
use Rattle.pgd.specs.declared.check.Header.{Header}
use Rattle.pgd.specs.Flaws.{header_checks, state_checks, arc_checks, file_checks}
use Rattle.pgd.specs.Checks.{Headed}

-- the parts of what is checked
pub parts_of : (bytes : List ℕ)
    → Parted header_checks (state_checks bytes) (arc_checks bytes) (11 + number_at bytes 7 + 6 * number_at bytes 9) (file_checks bytes)
parts_of bytes = record { is = refl }

module _ (bytes : List ℕ) (h : Header) (head : Headed bytes h) {at end : ℕ} (e : at ≡ 11 + h.states) (e' : end ≡ at + 6 * h.arcs) where
  -- the states and the rows that the header's numbers ask for
  abbrev states_of : List Check
  states_of = flags 11 h.states

  abbrev arcs_of : List Check
  arcs_of = rows at (h.states ∷ (h.words ∷ (h.states ∷ []))) h.arcs

  -- are those of the file
  pub asked : Parted header_checks states_of arcs_of end (file_checks bytes)
  asked =
      let start : at ≡ 11 + number_at bytes 7 = omega (arith, e, head.states) in
      let last : end ≡ 11 + number_at bytes 7 + 6 * number_at bytes 9 = omega (arith, e, e', head.states, head.arcs) in
      record {
        is = λ i. header_checks ++ (flags 11 (head.states i)
            ++ (rows (start i) (head.states i ∷ (head.words i ∷ (head.states i ∷ []))) (head.arcs i) ++ (ends (last i) ∷ [])));
      }

  -- and where they pass they are all there
  pub long_enough : AllByRecursion (Passes bytes) states_of → AllByRecursion (Passes bytes) arcs_of → end ≤ length bytes
  long_enough a b =
      let front = head.sound.1.1.1.1.0.0 in
      let one = flags_there bytes 11 h.states front a in
      let two = rows_there bytes at (h.states ∷ (h.words ∷ (h.states ∷ []))) h.arcs (omega arith) (omega arith) b in
      omega arith
