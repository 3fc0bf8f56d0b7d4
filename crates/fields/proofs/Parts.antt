-- A file is checked part by part: a header, two parts, and the length.
use Rattle.std.proofs.Common.{◌≡◌, ℕ, ◌<◌, List, [], ◌∷◌, ◌++◌, length, sym, subst, arith}
use Rattle.std.specs.List.{AllByRecursion}
use Rattle.std.proofs.ByRecursion.{All-append}
use Rattle.book.specs.declared.fault.Refusal.{Refusal}
use Rattle.fields.specs.Refusals.{told}
use Rattle.fields.specs.Flaws.{Check, ends, Passes, First}
use Rattle.fields.specs.Flaws.Fault.{wrong}
use Rattle.fields.specs.Flaws.First.{here}
use Rattle.fields.proofs.Judging.{first_left, first_right, all_left, all_right}

-- what a file is checked for is these parts, one after the other, and that it ends there
pub record Parted (header one two : List Check) (end : ℕ) (checks : List Check) : Type 0 where
  pub is : header ++ (one ++ (two ++ (ends end ∷ []))) ≡ checks

-- every part passes, and nothing is left
pub record EachPasses (bytes : List ℕ) (header one two : List Check) (end : ℕ) : Type 0 where
  pub sound_header : AllByRecursion (Passes bytes) header
  pub sound_one : AllByRecursion (Passes bytes) one
  pub sound_two : AllByRecursion (Passes bytes) two
  pub long : length bytes ≡ end

module _ (bytes : List ℕ) {header one two checks : List Check} {end : ℕ} (parted : Parted header one two end checks) where
  -- all checks pass where every part does, and back
  pub all_pass : EachPasses bytes header one two end → AllByRecursion (Passes bytes) checks
  all_pass e =
      let long = e.long in
      subst (AllByRecursion (Passes bytes)) parted.is
      (All-append (Passes bytes) header _ e.sound_header
      (All-append (Passes bytes) one _ e.sound_one (All-append (Passes bytes) two _ e.sound_two ((omega arith, long), tt))))

  pub each_passes : AllByRecursion (Passes bytes) checks → EachPasses bytes header one two end
  each_passes a =
      let all = subst (AllByRecursion (Passes bytes)) (sym parted.is) a in
      let rest = all_right bytes header _ all in
      let last = all_right bytes one _ rest in
      record {
        sound_header = all_left bytes header _ all;
        sound_one = all_left bytes one _ rest;
        sound_two = all_left bytes two _ last;
        long = (all_right bytes two _ last).0.1;
      }

  -- the first fault, where all in front of it passes
  module _ (h : AllByRecursion (Passes bytes) header) where
    after_header : {f : Refusal} → First bytes (one ++ (two ++ (ends end ∷ []))) f → First bytes checks f
    after_header {f} x = subst (λ cs. First bytes cs f) parted.is (first_right bytes header h x)

    pub one_fault : {f : Refusal} → First bytes one f → First bytes checks f
    one_fault x = after_header (first_left bytes x _)

    module _ (a : AllByRecursion (Passes bytes) one) where
      pub two_fault : {f : Refusal} → First bytes two f → First bytes checks f
      two_fault x = after_header (first_right bytes one a (first_left bytes x _))

      -- a byte too many
      pub end_fault : AllByRecursion (Passes bytes) two → end < length bytes → First bytes checks (told 17 end)
      end_fault b l = after_header (first_right bytes one a (first_right bytes two b (here (wrong (omega arith) (λ q. omega arith)))))
