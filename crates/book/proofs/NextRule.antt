-- The entries of the rule that stands next in a list.
use Rattle.std.proofs.Common.{◌≡◌, ℕ, zero, suc, ◌+◌, ◌-◌, ◌<◌, ◌≤◌, List, length, get_or, drop, Ok, sym, refl, ap, ◌∙◌, subst, ⊎_elim, arith}
use Rattle.std.proofs.lemmas.List.{length-drop, get_or-drop}
use Rattle.book.specs.declared.fault.BookFault.{BookFault}
use Rattle.book.specs.declared.reader.Summary.{Summary}
use Rattle.book.specs.Grammar.{Grammar}
use Rattle.book.specs.Refusals.{refusal, told}
use Rattle.book.specs.Tables.{Name}
use Rattle.book.specs.Flaws.{SoundTo, Right, size, cause, RuleFault}
use Rattle.book.specs.Flaws.RuleFault.{missing, wrong, too_many}
use Rattle.book.specs.Checks.{SymbolsTo, SymbolFault, Stands, one_more, RuleChecked}
use Rattle.book.proofs.Headers.{sound_none, sound_more}

-- the left side and the length n of the next rule are read, and right
pub record LengthRead (sum : Summary) (es : List ℕ) (n : ℕ) : Type 0 where
  pub present : sum.used < length es
  pub least : sum.words ≤ get_or es sum.used 0
  pub below : get_or es sum.used 0 < sum.words + sum.names
  pub next : sum.used + 1 < length es
  pub is : n ≡ get_or es (sum.used + 1) 0
  pub short : n ≤ 16

module _ (g : Grammar) (sum : Summary) (es : List ℕ) (stands : Stands g sum) where
  abbrev at : ℕ
  at = sum.used

  abbrev xs : List ℕ
  xs = drop at es

  present_at : (i : ℕ) → at + i < length es → i < length xs
  present_at i l = omega (arith, length-drop at es)

  entry_at : (i : ℕ) → get_or xs i 0 ≡ get_or es (at + i) 0
  entry_at i = get_or-drop at es i 0

  missing_at : (i p : ℕ) → i < size xs → SoundTo (Right g xs) xs i → length es ≤ p → at + i ≡ p → RuleFault g xs (told 1 p)
  missing_at i p within before absent e =
      subst (λ q. RuleFault g xs (told 1 q)) (let u = stands.takes in omega arith)
      (missing i (record { within = within; before = before; absent = omega (arith, length-drop at es) }))

  wrong_at : (i p : ℕ) → i < size xs → SoundTo (Right g xs) xs i → p < length es → (Right g xs i → ⊥) → at + i ≡ p → RuleFault g xs (told (cause i) p)
  wrong_at i p within before present w e =
      subst (λ q. RuleFault g xs (told (cause i) q)) (let u = stands.takes in omega arith)
      (wrong i (record { within = within; before = before; present = present_at i (omega arith); wrong = w }))

  name_of : (x : ℕ) → sum.words ≤ x → x < sum.words + sum.names → Name g x
  name_of x l u = let a = stands.words in let b = stands.names in (omega arith, omega arith)

  name_is : (x : ℕ) → Name g x → (sum.words ≤ x) × (x < sum.words + sum.names)
  name_is x n = let a = stands.words in let b = stands.names in (omega arith, omega arith)

  sound_left : at < length es → sum.words ≤ get_or es at 0 → get_or es at 0 < sum.words + sum.names → SoundTo (Right g xs) xs 1
  sound_left p l u =
      let z : at + 0 ≡ at = omega arith in
      let e : get_or xs 0 0 ≡ get_or es at 0 = entry_at 0 ∙ ap (λ i. get_or es i 0) z in
      sound_more (Right g xs) xs 0 (sound_none (Right g xs) xs) (omega (arith, length-drop at es)) (subst (Name g) (sym e) (name_of (get_or es at 0) l u))

  pub left_missing : length es ≤ at → RuleFault g xs (told 1 at)
  left_missing absent = missing_at 0 at (omega arith) (sound_none (Right g xs) xs) absent (omega arith)

  pub left_wrong : at < length es → (sum.words ≤ get_or es at 0 → get_or es at 0 < sum.words + sum.names → ⊥) → RuleFault g xs (told 3 at)
  left_wrong p w =
      let z : at + 0 ≡ at = omega arith in
      let e : get_or xs 0 0 ≡ get_or es at 0 = entry_at 0 ∙ ap (λ i. get_or es i 0) z in
      wrong_at 0 at (omega arith) (sound_none (Right g xs) xs) p
      (λ n. let b = name_is (get_or es at 0) (subst (Name g) e n) in w b.0 b.1) (omega arith)

  module _ (p : at < length es) (l : sum.words ≤ get_or es at 0) (u : get_or es at 0 < sum.words + sum.names) where
    pub length_missing : length es ≤ at + 1 → RuleFault g xs (told 1 (at + 1))
    length_missing absent = missing_at 1 (at + 1) (omega arith) (sound_left p l u) absent refl

    pub length_wrong : at + 1 < length es → 16 < get_or es (at + 1) 0 → RuleFault g xs (told 4 (at + 1))
    length_wrong q w = wrong_at 1 (at + 1) (omega arith) (sound_left p l u) q (λ r. omega (arith, entry_at 1)) refl

  module _ {n : ℕ} (read : LengthRead sum es n) where
    sound_two : SoundTo (Right g xs) xs 2
    sound_two = sound_more (Right g xs) xs 1 (sound_left read.present read.least read.below) (present_at 1 read.next) (omega (arith, entry_at 1))

    sound_symbols : (k : ℕ) → SymbolsTo es (at + 2) (sum.words + sum.names) (at + k) → SoundTo (Right g xs) xs k
    sound_symbols k s zero b = sound_two 0 (omega arith)
    sound_symbols k s (suc zero) b = sound_two 1 (omega arith)
    sound_symbols k s (suc (suc j)) b =
        let (r, v) = s (at + suc (suc j)) (omega arith) (omega arith) in
        let w = stands.words in let u = stands.names in
        (present_at (suc (suc j)) r, omega (arith, entry_at (suc (suc j))))

    pub symbol_fault : {f : BookFault} → SymbolFault es (at + 2) (sum.words + sum.names) (at + 2 + n) f → RuleFault g xs (refusal f)
    symbol_fault s =
        let j : ℕ = s.index - (at + 2) in
        let within = s.within in
        let i : s.index ≡ at + suc (suc j) = omega arith in
        let before : SoundTo (Right g xs) xs (suc (suc j)) = sound_symbols (suc (suc j)) (subst (SymbolsTo es (at + 2) (sum.words + sum.names)) i s.before) in
        let inside : suc (suc j) < size xs = omega (arith, entry_at 1) in
        ⊎_elim
        (λ m. subst (λ y. RuleFault g xs (refusal y)) (sym m.1) (missing_at (suc (suc j)) s.index inside before m.0 (sym i)))
        (λ m. subst (λ y. RuleFault g xs (refusal y)) (sym m.2)
        (wrong_at (suc (suc j)) s.index inside before m.0
        (λ r. let w = stands.words in let u = stands.names in omega (arith, m.1, entry_at (suc (suc j)), ap (λ k. get_or es k 0) i)) (sym i)))
        s.fault

    module _ (s : SymbolsTo es (at + 2) (sum.words + sum.names) (at + 2 + n)) where
      sound_all : SoundTo (Right g xs) xs (size xs)
      sound_all =
          let e : at + 2 + n ≡ at + size xs = omega (arith, entry_at 1) in
          sound_symbols (size xs) (subst (SymbolsTo es (at + 2) (sum.words + sum.names)) e s)

      pub items_wrong : 4096 < sum.items + n + 1 → RuleFault g xs (told 6 at)
      items_wrong w =
          subst (λ q. RuleFault g xs (told 6 q)) stands.takes
          (too_many sound_all (let k = stands.has in omega (arith, entry_at 1)))

      pub rule_sound : {s : Summary} → s ≡ one_more n sum → sum.items + n + 1 ≤ 4096 → RuleChecked g sum xs (Ok s)
      rule_sound e w =
          let l : n ≡ get_or xs 1 0 = omega (arith, entry_at 1) in
          (e ∙ ap (λ k. one_more k sum) l, sound_all, (let k = stands.has in omega arith))
