-- Files of whichever kind: what was put is the file, and no answer of a check but the right one is right.
use Rattle.std.proofs.Common.{◌≡◌, ℕ, ◌<◌, ◌≤◌, List, ◌++◌, length, get_or, take, drop, Ok, Err, Result, Fits, w8, sym, ap, ◌∙◌, subst, arith}
use Rattle.std.specs.List.{AllByRecursion}
use Rattle.std.proofs.lemmas.List.{take_at}
use Rattle.std.proofs.ByRecursion.{All-from_get_or}
use Rattle.fields.specs.declared.fault.AcceptorFault.{AcceptorFault}
use Rattle.fields.specs.Flaws.{Check, Passes}
use Rattle.fields.specs.Files.{FileOf, FileWritten, Checked, OnlyChecked, WholeJudged}
use Rattle.fields.specs.declared.output.Output.{Output}
use Rattle.fields.specs.Putting.{Puts}
use Rattle.fields.proofs.Faults.{first_not, first_one}
use Rattle.fields.proofs.Putting.{puts_then}

-- the bytes of a slice are below 256
pub small_bytes : (bytes : List ℕ) → ((i : ℕ) → Fits w8 (get_or bytes i 0)) → AllByRecursion (λ b. b < 256) bytes
small_bytes bytes fits = All-from_get_or (λ b. b < 256) bytes 0 (λ i h. omega (arith, fits i))

module _ {T : Type 0} (Fit : T → Type 0) (file_of : T → List ℕ) where
  -- what is written into an output from its first byte on, in four parts
  pub file_written : (size : T → ℕ) (a : T) {out out' : List ℕ} {n : ℕ} {mark header one two : List ℕ} {o p q r s : Output}
      → file_of a ≡ mark ++ (header ++ (one ++ two)) → length (file_of a) ≡ size a → size a ≤ length out → o.bytes.now ≡ out → o.at ≡ 0
      → Puts o mark p → Puts p header q → Puts q one r → Puts r two s → (s.bytes.ghost_name ≡ o.bytes.ghost_name → out' ≡ s.bytes.now) → n ≡ s.at
      → FileWritten Fit file_of size a out out' n
  file_written size a {out} {out'} {n} {o = o} {p} {q} {r} {s} is long room b z w x y v last e =
      let whole = subst (λ t. Puts o t s) (sym is) (puts_then o p s _ _ w (puts_then p q s _ _ x (puts_then q r s _ _ y v))) in
      let used : n ≡ length (file_of a) = e ∙ whole.put.ends ∙ omega arith in
      let same = ap length b in
      let that : out' ≡ file_of a ++ drop n out =
      last whole.lent ∙ whole.put.is (omega arith) ∙ (λ i. take (z i) (b i) ++ (file_of a ++ drop (sym e i) (b i))) in
      record {
        length_used = used ∙ long;
        is = that;
        is_file = λ fit. record { fit = fit; is = ap (take n) that ∙ take_at (file_of a) (drop n out) n (sym used) };
      }

  module _ {H : Type 0} (decoded : List ℕ → T) (header : T → H) (checks : List ℕ → List Check) (Headed : List ℕ → H → Type 0) (bytes : List ℕ)
      (is_file : AllByRecursion (Passes bytes) (checks bytes) → FileOf Fit file_of bytes (decoded bytes)) where
    pub checked : ((h : H) → Headed bytes h → h ≡ header (decoded bytes)) → (r : Result H AcceptorFault) → WholeJudged Headed checks bytes r
        → Checked Fit file_of decoded header checks bytes r
    checked headed (Ok h) (a, k) = (is_file a, headed h k)
    checked headed (Err f) x = x

    pub only_checked : ((a : T) → FileOf Fit file_of bytes a → a ≡ decoded bytes)
        → ((a : T) → FileOf Fit file_of bytes a → AllByRecursion (Passes bytes) (checks bytes))
        → (r : Result H AcceptorFault) → WholeJudged Headed checks bytes r → OnlyChecked Fit file_of decoded header checks bytes r
    only_checked one passes (Ok h) (a, k) = (one, (λ f x. first_not x a))
    only_checked one passes (Err f) x = ((λ a k. first_not x (passes a k)), (λ f' y. first_one y x))
