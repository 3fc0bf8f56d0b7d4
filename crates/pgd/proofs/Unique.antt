-- Bytes are the file of one determinised acceptor, or have one first fault, and never both.
use Rattle.std.proofs.Common.{◌≡◌, ℕ, ◌+◌, ◌*◌, ◌<◌, List, get_or, Result, Fits, w8, sym, ◌∙◌, subst}
use Rattle.std.specs.List.{AllByRecursion}
use Rattle.std.proofs.lemmas.List.FromFn.{length-map-range_with_len}
use Rattle.theory.specs.Subsets.{Determined}
use Rattle.fields.specs.declared.fault.AcceptorFault.{AcceptorFault}
use Rattle.fields.specs.Reading.{number_at, arc_in}
use Rattle.fields.specs.Flaws.{Passes}
use Rattle.fields.proofs.Files.{small_bytes, checked as checked_file, only_checked as only_file}
use Rattle.pgd.specs.declared.check.Header.{Header}
use Rattle.pgd.specs.Files.{file_of, Fit, IsFile}
use Rattle.pgd.specs.Reading.{decoded}
use Rattle.pgd.specs.Flaws.{file_checks}
use Rattle.pgd.specs.Checks.{Headed, WholeJudged, header, Checked, OnlyChecked}
use Rattle.pgd.proofs.Decoding.{Framed, framed_file, file_framed, file_decoded}
use Rattle.pgd.proofs.Decided.{passes_framed, passes_fit, fit_passes}

module _ (bytes : List ℕ) (small : AllByRecursion (λ b. b < 256) bytes) where
  -- a file is that of the determinised acceptor that is read off it
  is_decoded : (d : Determined) → IsFile bytes d → d ≡ decoded bytes
  is_decoded d f = file_decoded d f.fit.finals bytes small f.is

  -- a file passes all checks
  file_passes : (d : Determined) → IsFile bytes d → AllByRecursion (Passes bytes) (file_checks bytes)
  file_passes d f =
      fit_passes bytes (subst Framed (sym f.is) (file_framed d f.fit.finals)) (subst Fit (is_decoded d f) f.fit)

  -- and what passes all checks is a file
  passes_file : AllByRecursion (Passes bytes) (file_checks bytes) → IsFile bytes (decoded bytes)
  passes_file a = record { fit = passes_fit bytes a; is = framed_file bytes small (passes_framed bytes a) }

  header_is : (h : Header) → Headed bytes h → h ≡ header (decoded bytes)
  header_is h k =
      let arcs = k.arcs ∙ sym (length-map-range_with_len (λ j. arc_in bytes (11 + number_at bytes 7 + 6 * j)) 0 (number_at bytes 9)) in
      λ i. record { words = k.words i; states = k.states i; arcs = arcs i }

  pub only_checked : (r : Result Header AcceptorFault) → WholeJudged bytes r → OnlyChecked bytes r
  only_checked r j = only_file Fit file_of decoded header file_checks Headed bytes passes_file is_decoded file_passes r j

-- what is judged of all checks is the answer, and no other is right
pub answered : (bytes : List ℕ) → ((i : ℕ) → Fits w8 (get_or bytes i 0)) → (r : Result Header AcceptorFault) → WholeJudged bytes r
    → record { checked : Checked bytes r; only : OnlyChecked bytes r }
answered bytes fits r j =
    let small = small_bytes bytes fits in
    record {
      checked = checked_file Fit file_of decoded header file_checks Headed bytes (passes_file bytes small) (header_is bytes small) r j;
      only = only_checked bytes small r j;
    }
