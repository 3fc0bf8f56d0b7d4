-- What the check of a file answers.
use Rattle.std.specs.Prelude.{◌≡◌, ℕ, List, length, Ok, Err, Result}
use Rattle.std.specs.List.{AllByRecursion}
use Rattle.theory.specs.Subsets.{Determined}
use Rattle.fields.specs.declared.fault.AcceptorFault.{AcceptorFault}
use Rattle.fields.specs.Reading.{number_at}
use Rattle.fields.specs.Refusals.{refusal}
use Rattle.fields.specs.Flaws.{Passes, First}
use Rattle.fields.specs.Files.{Checked as CheckedFile, OnlyChecked as OnlyFile, WholeJudged as JudgedWhole}
use Rattle.pgd.specs.declared.check.Header.{Header}
use Rattle.pgd.specs.Files.{file_of, Fit}
use Rattle.pgd.specs.Reading.{decoded}
use Rattle.pgd.specs.Flaws.{header_checks, file_checks}

-- the header's checks pass, and these are its numbers
pub record Headed (bytes : List ℕ) (h : Header) : Type 0 where
  pub sound : AllByRecursion (Passes bytes) header_checks
  pub words : h.words ≡ number_at bytes 5
  pub states : h.states ≡ number_at bytes 7
  pub arcs : h.arcs ≡ number_at bytes 9

abbrev pub HeaderJudged : List ℕ → Result Header AcceptorFault → Type 0
HeaderJudged bytes (Ok h) = Headed bytes h
HeaderJudged bytes (Err f) = First bytes header_checks (refusal f)

-- the same of all checks of a file
abbrev pub WholeJudged : List ℕ → Result Header AcceptorFault → Type 0
WholeJudged bytes r = JudgedWhole Headed file_checks bytes r

-- the numbers in front of a determinised acceptor's states
abbrev pub header : Determined → Header
header d = record { words = d.words; states = d.states; arcs = length d.arcs }

-- the bytes are the file of the determinised acceptor that is read off them, with these numbers, or this is their first fault
abbrev pub Checked : List ℕ → Result Header AcceptorFault → Type 0
Checked bytes r = CheckedFile Fit file_of decoded header file_checks bytes r

-- no other answer would be right: the determinised acceptor is the only one, and the fault the only first one
abbrev pub OnlyChecked : List ℕ → Result Header AcceptorFault → Type 0
OnlyChecked bytes r = OnlyFile Fit file_of decoded header file_checks bytes r
