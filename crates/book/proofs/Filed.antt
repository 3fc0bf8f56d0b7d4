-- The bytes of a book file.
use Rattle.std.proofs.Common.{◌≡◌, ℕ, ◌+◌, ◌-◌, ◌*◌, ◌/◌, ◌<◌, ◌≤◌, List, [], ◌∷◌, ◌++◌, length, take, drop, sym, ap, ◌∙◌, subst, append-nil, arith}
use Rattle.std.specs.List.{flat_map, AllByRecursion}
use Rattle.std.proofs.lemmas.List.{length-append, length-drop, take_at, take_rest, nil_from_length}
use Rattle.book.specs.declared.reader.Summary.{Summary}
use Rattle.book.specs.Grammar.{Grammar}
use Rattle.book.specs.Reading.{numbers}
use Rattle.book.specs.Tables.{rule_entries, header, entries, used, Holds}
use Rattle.book.specs.Edits.{Written}
use Rattle.book.specs.Files.{bytes_of, file_of, Marked, FromFile, ToFile}
use Rattle.book.proofs.Held.{Known, known_bounds}
use Rattle.book.proofs.Numbers.{length_numbers, bytes_numbers, numbers_bytes, length_bytes}
use Rattle.book.proofs.Writes.{written}

pub length_all : (g : Grammar) → length (entries g) ≡ used g
length_all g = omega (arith, length-append (header g (length g.rules)) (flat_map rule_entries g.rules))

pub take_entries : {t : List ℕ} {g : Grammar} → Holds t g → take (used g) t ≡ entries g
take_entries {t} {g} h = ap (take (used g)) h.is ∙ take_at (entries g) h.rest (used g) (length_all g)

-- a marked file is that of its numbers
pub file_is : (file : List ℕ) → Marked file → AllByRecursion (λ b. b < 256) file → file ≡ file_of (numbers (drop 5 file))
file_is [] m a = absurd (let l = m.long in omega arith)
file_is (p ∷ []) m a = absurd (let l = m.long in omega arith)
file_is (p ∷ (q ∷ [])) m a = absurd (let l = m.long in omega arith)
file_is (p ∷ (q ∷ (r ∷ []))) m a = absurd (let l = m.long in omega arith)
file_is (p ∷ (q ∷ (r ∷ (s ∷ [])))) m a = absurd (let l = m.long in omega arith)
file_is (p ∷ (q ∷ (r ∷ (s ∷ (t ∷ bs))))) m (a, (b, (c, (d, (e, rest))))) =
    let k = m.mark in
    let k₁ : p ≡ 80 = cc in let k₂ : q ≡ 71 = cc in let k₃ : r ≡ 66 = cc in
    let v = m.version in
    let v₁ : s ≡ 1 = omega arith in let v₂ : t ≡ 0 = omega arith in
    let w = m.whole in
    let n : flat_map bytes_of (numbers bs) ≡ bs = bytes_numbers bs rest (omega arith) in
    λ i. k₁ i ∷ (k₂ i ∷ (k₃ i ∷ (v₁ i ∷ (v₂ i ∷ sym n i))))

-- the rest of a file after its mark, and the numbers of that

pub rest_length : (file : List ℕ) → length (take (length file - 5) (drop 5 file)) ≡ length file - 5
rest_length file = ap length (take_rest file 5) ∙ length-drop 5 file

pub numbers_length : (file : List ℕ) → length (numbers (drop 5 file)) ≡ (length file - 5) / 2
numbers_length file = length_numbers (drop 5 file) ∙ ap (λ n. n / 2) (length-drop 5 file)

-- where no byte of a whole file is left over, its grammar takes all of its numbers
pub takes_all : {file : List ℕ} {s : Summary} (k : Known (numbers (drop 5 file)) s) → Marked file → length file - 5 ≤ 2 * s.used → used k.grammar ≡ length (numbers (drop 5 file))
takes_all {file} k m l = let w = m.whole in let u = k.takes in omega (arith, numbers_length file, (known_bounds k).5)

-- what load leaves
pub loaded : {file t bs : List ℕ} {s : Summary} (k : Known (numbers (drop 5 file)) s) → Marked file → AllByRecursion (λ b. b < 256) file
    → length file - 5 ≤ 2 * s.used → bs ≡ numbers (drop 5 file) → FromFile file t (bs ++ drop s.used t) s.used
loaded {file} {t} {bs} {s} k m a all same =
    let g = k.grammar in
    let h = k.holds in
    let n = s.used in
    let is = k.takes in
    let full = takes_all k m all in
    let left : h.rest ≡ [] = nil_from_length h.rest (omega (arith, ap length h.is, length-append (entries g) h.rest, length_all g)) in
    let whole : numbers (drop 5 file) ≡ entries g = h.is ∙ ap (λ l. entries g ++ l) left ∙ append-nil (entries g) in
    let that : bs ++ drop n t ≡ entries g ++ drop (used g) t = ap (λ l. l ++ drop n t) (same ∙ whole) ∙ ap (λ k. entries g ++ drop k t) (sym is) in
    record {
      grammar = g;
      file_is = file_is file m a ∙ ap file_of whole;
      written = subst (λ k. Written t g (bs ++ drop n t) k) is (subst (λ l. Written t g l (used g)) (sym that) (written t g h.fit));
      back = ap file_of (ap (take n) that ∙ take_at (entries g) (drop (used g) t) n (length_all g ∙ is)) ∙ sym (file_is file m a ∙ ap file_of whole);
    }

-- what save leaves
pub saved : {t out file : List ℕ} {s : Summary} (k : Known t s) → file ≡ file_of (take s.used t) → ToFile t out (file ++ drop (5 + 2 * s.used) out) (5 + 2 * s.used)
saved {t} {out} {file} {s} k f =
    let g = k.grammar in
    let h = k.holds in
    let is = k.takes in
    let n = 5 + 2 * s.used in
    let all : take s.used t ≡ entries g = ap (λ k. take k t) (sym is) ∙ take_entries h in
    let that : file ≡ file_of (entries g) = f ∙ ap file_of all in
    let size : length file ≡ n = ap length that ∙ (let b = length_bytes (entries g) in let l = length_all g in omega arith) in
    record {
      grammar = g;
      held = h;
      length_used = omega arith;
      file_is = ap (λ l. l ++ drop n out) that;
      back = ap (λ l. numbers (drop 5 l)) (take_at file (drop n out) n size ∙ that) ∙ numbers_bytes (entries g) ∙ sym (take_entries h);
    }
