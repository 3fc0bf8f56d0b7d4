-- Bytes are the file of one acceptor, or have one first fault, and never both.
use Rattle.std.proofs.Common.{◌≡◌, ℕ, ◌<◌, List, get_or, Result, Fits, w8, sym, ◌∙◌, subst}
use Rattle.std.specs.List.{AllByRecursion}
use Rattle.std.proofs.lemmas.List.FromFn.{length-map-range_with_len}
use Rattle.theory.specs.Flattening.{Acceptor}
use Rattle.fields.specs.declared.fault.AcceptorFault.{AcceptorFault}
use Rattle.fields.specs.Reading.{number_at}
use Rattle.fields.specs.Flaws.{Passes}
use Rattle.fields.proofs.Files.{small_bytes, checked as checked_file, only_checked as only_file}
use Rattle.pga.specs.declared.check.Header.{Header}
use Rattle.pga.specs.Files.{file_of, Fit, IsFile}
use Rattle.pga.specs.Reading.{decoded}
use Rattle.pga.specs.Flaws.{file_checks}
use Rattle.pga.specs.Checks.{Headed, WholeJudged, header, Checked, OnlyChecked}
use Rattle.pga.proofs.Decoding.{Framed, arc_of, jump_of, framed_file, file_framed, file_decoded}
use Rattle.pga.proofs.Decided.{passes_framed, passes_fit, fit_passes}

module _ (bytes : List ℕ) (small : AllByRecursion (λ b. b < 256) bytes) where
  -- a file passes all checks
  pub file_passes : (a : Acceptor) → IsFile bytes a → AllByRecursion (Passes bytes) (file_checks bytes)
  file_passes a f =
      fit_passes bytes (subst Framed (sym f.is) (file_framed a)) (subst Fit (file_decoded bytes a small f.is) f.fit)

  -- and what passes all checks is a file
  pub passes_file : AllByRecursion (Passes bytes) (file_checks bytes) → IsFile bytes (decoded bytes)
  passes_file a = record { fit = passes_fit bytes a; is = framed_file bytes small (passes_framed bytes a) }

  is_decoded : (a : Acceptor) → IsFile bytes a → a ≡ decoded bytes
  is_decoded a f = file_decoded bytes a small f.is

  header_is : (h : Header) → Headed bytes h → h ≡ header (decoded bytes)
  header_is h k =
      let arcs = k.arcs ∙ sym (length-map-range_with_len (arc_of bytes) 0 (number_at bytes 11)) in
      let jumps = k.jumps ∙ sym (length-map-range_with_len (jump_of bytes) 0 (number_at bytes 13)) in
      λ i. record { words = k.words i; nodes = k.nodes i; final_node = k.final i; arcs = arcs i; jumps = jumps i }

  pub only_checked : (r : Result Header AcceptorFault) → WholeJudged bytes r → OnlyChecked bytes r
  only_checked r j = only_file Fit file_of decoded header file_checks Headed bytes passes_file is_decoded file_passes r j

-- what is judged of all checks is the answer, and no other is right
pub answered : (bytes : List ℕ) → ((i : ℕ) → Fits w8 (get_or bytes i 0)) → (r : Result Header AcceptorFault) → WholeJudged bytes r
    → record { checked : Checked bytes r; only : OnlyChecked bytes r }
answered bytes fits r j =
    let small = small_bytes bytes fits in
    record {
      checked = checked_file Fit file_of decoded header file_checks Headed bytes (passes_file bytes small) (header_is bytes small) r j;
      only = only_checked bytes small r j;
    }
