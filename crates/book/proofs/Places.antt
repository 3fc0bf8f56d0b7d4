-- Reading back the rules whose entries stand in a list.
use Rattle.std.proofs.Common.{◌≡◌, ℕ, suc, true, nat_le, List, [], ◌∷◌, ◌++◌, length, take, drop, refl, ap, ◌∙◌, append_assoc, arith}
use Rattle.std.specs.List.{flat_map}
use Rattle.std.proofs.lemmas.List.{length-append, drop_at, take_at}
use Rattle.std.proofs.lemmas.Bool.Decides.{nat_tests}
use Rattle.book.specs.Grammar.{Rule}
use Rattle.book.specs.Reading.{rules_in}
use Rattle.book.specs.Tables.{rule_entries}

-- read back, the entries of rules are those rules
pub rules_read : (rs : List Rule) (rest : List ℕ) → rules_in (length rs) (flat_map rule_entries rs ++ rest) ≡ rs
rules_read [] rest = refl
rules_read (r ∷ rs) rest = split (rules_read rs rest) ((r.right ++ flat_map rule_entries rs) ++ rest) (append_assoc r.right (flat_map rule_entries rs) rest)
  where
    split : rules_in (length rs) (flat_map rule_entries rs ++ rest) ≡ rs → (es : List ℕ) → es ≡ r.right ++ (flat_map rule_entries rs ++ rest) → rules_in (suc (length rs)) (r.left ∷ (length r.right ∷ es)) ≡ r ∷ rs
    split more es e =
        let room : nat_le (length r.right) (length es) ≡ true = grind (arith, nat_tests, ap length e, length-append r.right (flat_map rule_entries rs ++ rest)) in
        let front : take (length r.right) es ≡ r.right = ap (take (length r.right)) e ∙ take_at r.right (flat_map rule_entries rs ++ rest) (length r.right) refl in
        let back : drop (length r.right) es ≡ flat_map rule_entries rs ++ rest = ap (drop (length r.right)) e ∙ drop_at r.right (flat_map rule_entries rs ++ rest) (length r.right) refl in
        rw (room, front, back) (ap (λ l. r ∷ l) more)
