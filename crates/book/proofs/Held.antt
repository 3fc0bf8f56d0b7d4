-- A table that is read rule by rule holds a grammar.
use Rattle.std.proofs.Common.{◌≡◌, ℕ, zero, suc, ◌+◌, ◌<◌, ◌≤◌, List, [], ◌∷◌, ◌++◌, length, get_or, take, drop, Ok, sym, refl, ap, ◌∙◌, subst, append_assoc, arith}
use Rattle.std.specs.List.{flat_map}
use Rattle.std.proofs.lemmas.List.{get_or-take, length-take-le, take-append-drop, length-append, length_push, drop-drop, flat_map_more}
use Rattle.std.proofs.ByRecursion.{All-from_get_or, All-push, All-weaker}
use Rattle.book.specs.declared.reader.Summary.{Summary}
use Rattle.book.specs.Grammar.{Rule, rule, Grammar, symbols, with_rule}
use Rattle.book.specs.Tables.{dots, items, FitRule, Fit, rule_entries, header, entries, used, Holds}
use Rattle.book.specs.Flaws.{SoundTo, Right, size}
use Rattle.book.specs.Checks.{Headed, RuleChecked, ReadTo, Checked}

-- the rule with which a list begins
abbrev pub first_rule : List ℕ → Rule
first_rule xs = rule (get_or xs 0 0) (take (get_or xs 1 0) (drop 2 xs))

-- one more rule

pub dots_push : (rs : List Rule) (r : Rule) → dots (rs ++ (r ∷ [])) ≡ dots rs + (length r.right + 1)
dots_push [] r = omega arith
dots_push (s ∷ rs) r = omega (arith, dots_push rs r)

pub length_entries : (rs : List Rule) → length (flat_map rule_entries rs) ≡ length rs + dots rs
length_entries [] = refl
length_entries (r ∷ rs) = omega (arith, length-append (rule_entries r) (flat_map rule_entries rs), length_entries rs)

pub entries_push : (rs : List Rule) (r : Rule) → flat_map rule_entries (rs ++ (r ∷ [])) ≡ flat_map rule_entries rs ++ rule_entries r
entries_push rs r = sym (flat_map_more rule_entries [] rs r)

pub used_push : (g : Grammar) (r : Rule) → used (with_rule g r) ≡ used g + (2 + length r.right)
used_push g r = omega (arith, ap length (entries_push g.rules r), length-append (flat_map rule_entries g.rules) (rule_entries r))

pub used_bound : (g : Grammar) → Fit g → used g ≤ 8192
used_bound g f = let l = f.few in let s = f.small in omega (arith, length_entries g.rules)

pub fit_push : (g : Grammar) (r : Rule) → Fit g → FitRule g r → length g.rules < 2048 → items g + (length r.right + 1) ≤ 4096 → Fit (with_rule g r)
fit_push g r f h few small =
    record {
      words = f.words;
      names = f.names;
      start = f.start;
      few = omega (arith, length_push g.rules r);
      each = All-push (FitRule (with_rule g r)) g.rules r (All-weaker (FitRule g) (FitRule (with_rule g r)) (λ s k. same s k) g.rules f.each) (same r h);
      small = omega (arith, dots_push g.rules r);
    }
  where
    same : (s : Rule) → FitRule g s → FitRule (with_rule g r) s
    same s k = record { left = k.left; short = k.short; right = k.right }

-- a list whose first entries are sound begins with a rule

module _ (g : Grammar) where
  rule_parts : (a k : ℕ) (ys : List ℕ) → k ≤ length ys → a ∷ (k ∷ ys) ≡ rule_entries (rule a (take k ys)) ++ drop k ys
  rule_parts a k ys h =
      ap (λ l. a ∷ (k ∷ l)) (sym (take-append-drop k ys)) ∙ ap (λ m. a ∷ (m ∷ (take k ys ++ drop k ys))) (sym (length-take-le k ys h))

  pub sound_rule : (xs : List ℕ) → SoundTo (Right g xs) xs (size xs) → FitRule g (first_rule xs) × (xs ≡ rule_entries (first_rule xs) ++ drop (size xs) xs) × (length (first_rule xs).right ≡ get_or xs 1 0)
  sound_rule [] s = absurd (let h = (s 0 (omega arith)).0 in omega arith)
  sound_rule (a ∷ []) s = absurd (let h = (s 1 (omega arith)).0 in omega arith)
  sound_rule (a ∷ (k ∷ ys)) s =
      let room : k ≤ length ys = all_there k (λ j h. s j h) in
      let e : 2 + k ≡ suc (suc k) = omega arith in (
        record {
          left = (s 0 (omega arith)).1;
          short = let b = (s 1 (omega arith)).1 in omega (arith, length-take-le k ys room);
          right = All-from_get_or (λ x. x < symbols g) (take k ys) 0 (λ i h. let l : i < k = omega (arith, length-take-le k ys room) in
              subst (λ x. x < symbols g) (sym (get_or-take k ys i 0 l)) (s (suc (suc i)) (omega arith)).1);
        },
        rule_parts a k ys room ∙ ap (λ n. rule_entries (rule a (take k ys)) ++ drop n (a ∷ (k ∷ ys))) (sym e),
        length-take-le k ys room,
      )
    where
      all_there : (n : ℕ) → ((j : ℕ) → j < 2 + n → (j < length (a ∷ (k ∷ ys))) × Right g (a ∷ (k ∷ ys)) j) → n ≤ length ys
      all_there zero t = omega arith
      all_there (suc n) t = let h = (t (suc (suc n)) (omega arith)).0 in omega arith

-- the header

pub header_parts : (es : List ℕ) (h : Summary) → Headed es h → es ≡ header (record { words = h.words; names = h.names; start = h.start; rules = [] }) h.rules ++ drop 4 es
header_parts [] h s = absurd (let k = (s.sound 0 (omega arith)).0 in omega arith)
header_parts (a ∷ []) h s = absurd (let k = (s.sound 1 (omega arith)).0 in omega arith)
header_parts (a ∷ (b ∷ [])) h s = absurd (let k = (s.sound 2 (omega arith)).0 in omega arith)
header_parts (a ∷ (b ∷ (c ∷ []))) h s = absurd (let k = (s.sound 3 (omega arith)).0 in omega arith)
header_parts (a ∷ (b ∷ (c ∷ (d ∷ es)))) h s =
    let p : h.words ≡ a = s.words in let q : h.names ≡ b = s.names in let r : h.start ≡ c = s.start in let t : h.rules ≡ d = s.rules in cc

pub read_none : (es : List ℕ) (h : Summary) → Headed es h → ReadTo es h 0
read_none es h s =
    let g : Grammar = record { words = h.words; names = h.names; start = h.start; rules = [] } in
    let a = (s.sound 0 (omega arith)).1 in let b = (s.sound 1 (omega arith)).1 in let c = (s.sound 2 (omega arith)).1 in let d = (s.sound 3 (omega arith)).1 in
    let p = s.words in let q = s.names in let r = s.start in let t = s.rules in
    record {
      grammar = g;
      begins = record {
        fit = record { words = (omega arith, omega arith); names = (omega arith, omega arith); start = (omega arith, omega arith); few = omega arith; each = tt; small = omega arith };
        most = omega arith;
        so_far = omega arith;
        is = header_parts es h s ∙ ap (λ n. header g h.rules ++ drop n es) (sym s.takes);
      };
      number = refl;
      start = refl;
      stands = record { words = refl; names = refl; takes = sym s.takes; has = sym s.has };
    }

-- one rule more

pub read_more : (es : List ℕ) (s t : Summary) (i : ℕ) (r : ReadTo es s i) → i < s.rules → RuleChecked r.grammar s (drop s.used es) (Ok t) → ReadTo es t (i + 1)
read_more es s t i r below (is, sound, room) =
    let g = r.grammar in
    let at : ℕ = s.used in
    let xs : List ℕ = drop at es in
    let n : ℕ = get_or xs 1 0 in
    let new : Rule = first_rule xs in
    let (fit, parts, long) = sound_rule g xs sound in
    let b = r.begins in
    let m = r.number in
    let most = b.most in
    let rest-is : drop (size xs) xs ≡ drop (at + (2 + n)) es = drop-drop (size xs) at es in
    subst (λ u. ReadTo es u (i + 1)) (sym is)
    (record {
      grammar = with_rule g new;
      begins = record {
        fit = fit_push g new b.fit fit (omega arith) (omega arith);
        most = b.most;
        so_far = omega (arith, length_push g.rules new);
        is = b.is ∙ ap (λ l. header g s.rules ++ l)
            (ap (λ l. flat_map rule_entries g.rules ++ l) (parts ∙ ap (λ l. rule_entries new ++ l) rest-is)
            ∙ sym (append_assoc (flat_map rule_entries g.rules) (rule_entries new) (drop (at + (2 + n)) es))
            ∙ ap (λ l. l ++ drop (at + (2 + n)) es) (sym (entries_push g.rules new)));
      };
      number = omega (arith, length_push g.rules new);
      start = r.start;
      stands = record {
        words = r.stands.words;
        names = r.stands.names;
        takes = let u = r.stands.takes in omega (arith, used_push g new);
        has = let u = r.stands.has in omega (arith, dots_push g.rules new);
      };
    })

pub read_bound : (es : List ℕ) (s : Summary) (i : ℕ) → ReadTo es s i → (s.used ≤ 8192) × (s.items ≤ 4096) × (s.words ≤ 1024) × (s.names ≤ 1024)
read_bound es s i r =
    let k = r.stands in let t = k.takes in let u = k.has in let w = k.words in let n = k.names in
    let f = r.begins.fit in let m = f.small in
    (omega (arith, used_bound r.grammar f), omega arith, omega (arith, f.words.1), omega (arith, f.names.1))

-- what a reader knows of a book whose check passed
pub record Known (es : List ℕ) (s : Summary) : Type 0 where
  pub grammar : Grammar
  pub holds : Holds es grammar
  pub words : grammar.words ≡ s.words
  pub names : grammar.names ≡ s.names
  pub start : grammar.start ≡ s.start
  pub rules : length grammar.rules ≡ s.rules
  pub takes : used grammar ≡ s.used
  pub has : items grammar ≡ s.items

pub known : (es : List ℕ) (s : Summary) → Checked es (Ok s) → Known es s
known es s (g, h, e) =
    record {
      grammar = g;
      holds = h;
      words = sym (ap (λ (k : Summary). k.words) e);
      names = sym (ap (λ (k : Summary). k.names) e);
      start = sym (ap (λ (k : Summary). k.start) e);
      rules = sym (ap (λ (k : Summary). k.rules) e);
      takes = sym (ap (λ (k : Summary). k.used) e);
      has = sym (ap (λ (k : Summary). k.items) e);
    }

pub known_bounds : {es : List ℕ} {s : Summary} → Known es s → (s.used ≤ 8192) × (s.items ≤ 4096) × (s.words ≤ 1024) × (s.names ≤ 1024) × (s.rules ≤ 2048) × (s.used ≤ length es)
known_bounds {es} k =
    let f = k.holds.fit in let g = k.grammar in
    let a = k.takes in let b = k.has in let c = k.words in let d = k.names in let e = k.rules in
    let m = f.small in let n = f.few in let w = f.words.1 in let v = f.names.1 in (
      omega (arith, used_bound g f),
      omega arith,
      omega arith,
      omega arith,
      omega arith,
      omega (arith, ap length k.holds.is, length-append (entries g) k.holds.rest, length-append (header g (length g.rules)) (flat_map rule_entries g.rules)),
    )
