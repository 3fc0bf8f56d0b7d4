-- Bytes are a spelling or have one first bad place, so a lexicon has one answer for them.
use Rattle.std.proofs.Common.{◌≡◌, ℕ, List, Ok, Err, Result, refl, ap, ⊎_elim, arith}
use Rattle.std.proofs.lemmas.Bool.{cases_lt}
use Rattle.table.specs.Lists.{Distinct}
use Rattle.lexicon.specs.declared.fault.LexiconFault.{LexiconFault}
use Rattle.lexicon.specs.declared.fault.LexiconFault.TheVariants.{BadSpelling}
use Rattle.lexicon.specs.Spellings.{IsSpelling, BadAt}
use Rattle.lexicon.specs.Spellings.BadAt.{none, other, long}
use Rattle.lexicon.specs.Lexicons.{Numbered}
use Rattle.lexicon.specs.Lexicons.Numbered.{old, new, full, bad}

-- a spelling has no bad place
good_bad : {bytes : List ℕ} {k : ℕ} → IsSpelling bytes → BadAt bytes k → ⊥
good_bad s (none e) = let l = s.some in omega arith
good_bad {k = k} s (other l m before not) = not (s.letters k l)
good_bad s (long l before) = let f = s.few in omega arith

-- the first bad place is one
bad_one : {bytes : List ℕ} {j k : ℕ} → BadAt bytes j → BadAt bytes k → j ≡ k
bad_one (none e) (none f) = refl
bad_one (none e) (other l m before not) = absurd (omega arith)
bad_one (none e) (long l before) = absurd (omega arith)
bad_one (other l m before not) (none e) = absurd (omega arith)
bad_one {j = j} {k} (other l m before not) (other l' m' before' not') =
    ⊎_elim (λ b. absurd (not (before' j b))) (λ b. ⊎_elim (λ b'. absurd (not' (before k b'))) (λ b'. omega arith) (cases_lt k j)) (cases_lt j k)
bad_one {j = j} (other l m before not) (long l' before') = absurd (not (before' j m))
bad_one (long l before) (none e) = absurd (omega arith)
bad_one {k = k} (long l before) (other l' m' before' not') = absurd (not' (before k m'))
bad_one (long l before) (long l' before') = refl

pub numbered_one : {held after after' : List (List ℕ)} {most : ℕ} {bytes : List ℕ} {r r' : Result ℕ LexiconFault}
    → Distinct held → Numbered held most bytes r after → Numbered held most bytes r' after' → (r' ≡ r) × (after' ≡ after)
numbered_one {bytes = bytes} d (old {n = n} s a) (old {n = m} t b) = (ap Ok (d m n bytes b a), refl)
numbered_one d (old {n = n} s a) (new t lacks room) = absurd (lacks n a)
numbered_one d (old {n = n} s a) (full t lacks room) = absurd (lacks n a)
numbered_one d (old s a) (bad k) = absurd (good_bad s k)
numbered_one d (new s lacks room) (old {n = n} t a) = absurd (lacks n a)
numbered_one d (new s lacks room) (new t lacks' room') = (refl, refl)
numbered_one d (new s lacks room) (full t lacks' room') = absurd (omega arith)
numbered_one d (new s lacks room) (bad k) = absurd (good_bad s k)
numbered_one d (full s lacks room) (old {n = n} t a) = absurd (lacks n a)
numbered_one d (full s lacks room) (new t lacks' room') = absurd (omega arith)
numbered_one d (full s lacks room) (full t lacks' room') = (refl, refl)
numbered_one d (full s lacks room) (bad k) = absurd (good_bad s k)
numbered_one d (bad k) (old s a) = absurd (good_bad s k)
numbered_one d (bad k) (new s lacks room) = absurd (good_bad s k)
numbered_one d (bad k) (full s lacks room) = absurd (good_bad s k)
numbered_one d (bad j) (bad k) = (ap (λ n. Err (BadSpelling n)) (bad_one k j), refl)
