-- A table holds one grammar, or has one first fault, and never both.
use Rattle.std.proofs.Common.{◌≡◌, ℕ, zero, suc, ◌+◌, ◌<◌, ◌≤◌, List, [], ◌∷◌, ◌++◌, length, Ok, Err, Result, sym, refl, ap, ◌∙◌, subst, ⊎_elim, append_assoc, append-nil, arith}
use Rattle.std.specs.List.{flat_map, AllByRecursion}
use Rattle.std.proofs.lemmas.List.{length-append, get_or_append_left}
use Rattle.std.proofs.ByRecursion.{All-get_or}
use Rattle.std.proofs.lemmas.Bool.{cases_lt}
use Rattle.book.specs.declared.fault.Refusal.{Refusal}
use Rattle.book.specs.Grammar.{Rule, Grammar, symbols}
use Rattle.book.specs.Refusals.{told}
use Rattle.book.specs.Tables.{dots, items, FitRule, rule_entries, header, used, Begins, Holds}
use Rattle.book.specs.Flaws.{SoundTo, Missing, Wrong, InRange, HeaderFault, Right, cause, RuleFault, TableFault}
use Rattle.book.specs.declared.fault.BookFault.{BookFault}
use Rattle.book.specs.declared.reader.Summary.{Summary}
use Rattle.book.specs.Checks.{Checked, OnlyChecked}
use Rattle.book.specs.Flaws.HeaderFault.{missing as header_missing, range as header_range}
use Rattle.book.specs.Flaws.RuleFault.{missing as entry_missing, wrong as entry_wrong, too_many}
use Rattle.book.specs.Flaws.TableFault.{header as in_header, rule as in_rule}

-- the first entry that is not there and right is one

-- entry i is not both there and right
abbrev Bad : (ℕ → Type 0) → List ℕ → ℕ → Type 0
Bad Right xs i = i < length xs → Right i → ⊥

module _ {Right : ℕ → Type 0} {xs : List ℕ} where
  missing_bad : {n i : ℕ} → Missing Right xs n i → Bad Right xs i
  missing_bad m p r = let a = m.absent in omega arith

  wrong_bad : {n i : ℕ} → Wrong Right xs n i → Bad Right xs i
  wrong_bad w p r = w.wrong r

module _ (Right : ℕ → Type 0) (xs : List ℕ) where
  not_before : (i j : ℕ) → SoundTo Right xs i → Bad Right xs j → j < i → ⊥
  not_before i j s b l = let (p, r) = s j l in b p r

  same_place : (i j : ℕ) → SoundTo Right xs i → Bad Right xs i → SoundTo Right xs j → Bad Right xs j → i ≡ j
  same_place i j s b t d =
      ⊎_elim (λ l. absurd (not_before j i t b l)) (λ h. ⊎_elim (λ l. absurd (not_before i j s d l)) (λ k. omega arith) (cases_lt j i)) (cases_lt i j)

module _ {Right : ℕ → Type 0} {xs : List ℕ} where
  missing_one : {n i j : ℕ} → Missing Right xs n i → Missing Right xs n j → i ≡ j
  missing_one {n} {i} {j} m k = same_place Right xs i j m.before (missing_bad m) k.before (missing_bad k)

  wrong_one : {n i j : ℕ} → Wrong Right xs n i → Wrong Right xs n j → i ≡ j
  wrong_one {n} {i} {j} m k = same_place Right xs i j m.before (wrong_bad m) k.before (wrong_bad k)

  not_both : {n i j : ℕ} → Missing Right xs n i → Wrong Right xs n j → ⊥
  not_both {n} {i} {j} m w =
      let e = same_place Right xs i j m.before (missing_bad m) w.before (wrong_bad w) in
      let a = m.absent in let p = w.present in omega arith

  missing_not : {n i : ℕ} → SoundTo Right xs n → Missing Right xs n i → ⊥
  missing_not {n} {i} s m = not_before Right xs n i s (missing_bad m) m.within

  wrong_not : {n i : ℕ} → SoundTo Right xs n → Wrong Right xs n i → ⊥
  wrong_not {n} {i} s w = not_before Right xs n i s (wrong_bad w) w.within

-- a rule's fault is one, and a fit rule has none

pub rule_fault_one : {g : Grammar} {xs : List ℕ} {f f' : Refusal} → RuleFault g xs f → RuleFault g xs f' → f ≡ f'
rule_fault_one {g} (entry_missing i m) (entry_missing j k) = ap (λ q. told 1 (used g + q)) (missing_one m k)
rule_fault_one (entry_missing i m) (entry_wrong j k) = absurd (not_both m k)
rule_fault_one (entry_missing i m) (too_many s k) = absurd (missing_not s m)
rule_fault_one (entry_wrong i m) (entry_missing j k) = absurd (not_both k m)
rule_fault_one {g} (entry_wrong i m) (entry_wrong j k) = ap (λ q. told (cause q) (used g + q)) (wrong_one m k)
rule_fault_one (entry_wrong i m) (too_many s k) = absurd (wrong_not s m)
rule_fault_one (too_many s m) (entry_missing j k) = absurd (missing_not s k)
rule_fault_one (too_many s m) (entry_wrong j k) = absurd (wrong_not s k)
rule_fault_one (too_many s m) (too_many t k) = refl

pub fit_sound : (g : Grammar) (r : Rule) (ys : List ℕ) → FitRule g r → SoundTo (Right g (rule_entries r ++ ys)) (rule_entries r ++ ys) (2 + length r.right)
fit_sound g r ys f zero h = (omega arith, f.left)
fit_sound g r ys f (suc zero) h = (omega arith, f.short)
fit_sound g r ys f (suc (suc j)) h =
    let l : j < length r.right = omega arith in (
      omega (arith, length-append r.right ys),
      subst (λ x. x < symbols g) (sym (get_or_append_left r.right ys 0 j l)) (All-get_or (λ x. x < symbols g) r.right j 0 l f.right),
    )

pub fit_no_fault : (g : Grammar) (r : Rule) (ys : List ℕ) {f : Refusal} → FitRule g r → items g + (length r.right + 1) ≤ 4096 → RuleFault g (rule_entries r ++ ys) f → ⊥
fit_no_fault g r ys f k (entry_missing i m) = missing_not (fit_sound g r ys f) m
fit_no_fault g r ys f k (entry_wrong i m) = wrong_not (fit_sound g r ys f) m
fit_no_fault g r ys f k (too_many s m) = omega arith

-- two readings of one table

same_front : (ps qs xs ys : List ℕ) → length ps ≡ length qs → ps ++ xs ≡ qs ++ ys → (ps ≡ qs) × (xs ≡ ys)
same_front [] [] xs ys l e = (refl, e)
same_front [] (q ∷ qs) xs ys l e = absurd (omega arith)
same_front (p ∷ ps) [] xs ys l e = absurd (omega arith)
same_front (p ∷ ps) (q ∷ qs) xs ys l e =
    let t : ps ++ xs ≡ qs ++ ys = cc in
    let (k, m) = same_front ps qs xs ys (omega arith) t in
    let h : p ≡ q = cc in (cc, m)

-- the rules rs are the first of the rules rs'
record Front (rs rs' : List Rule) (xs ys : List ℕ) : Type 0 where
  more : List Rule
  rules : rs' ≡ rs ++ more
  rest : xs ≡ flat_map rule_entries more ++ ys

same_rule : (r s : Rule) → r.left ≡ s.left → r.right ≡ s.right → r ≡ s
same_rule r s p q i = record { left = p i; right = q i }

front : (rs rs' : List Rule) (xs ys : List ℕ) → length rs ≤ length rs' → flat_map rule_entries rs ++ xs ≡ flat_map rule_entries rs' ++ ys → Front rs rs' xs ys
front [] rs' xs ys l e = record { more = rs'; rules = refl; rest = e }
front (r ∷ rs) [] xs ys l e = absurd (omega arith)
front (r ∷ rs) (s ∷ rs') xs ys l e =
    let e' : rule_entries r ++ (flat_map rule_entries rs ++ xs) ≡ rule_entries s ++ (flat_map rule_entries rs' ++ ys) =
    sym (append_assoc (rule_entries r) (flat_map rule_entries rs) xs) ∙ e ∙ append_assoc (rule_entries s) (flat_map rule_entries rs') ys in
    let left : r.left ≡ s.left = cc in
    let long : length r.right ≡ length s.right = cc in
    let tails : r.right ++ (flat_map rule_entries rs ++ xs) ≡ s.right ++ (flat_map rule_entries rs' ++ ys) = cc in
    let (right, rest) = same_front r.right s.right _ _ long tails in
    let f = front rs rs' xs ys (omega arith) rest in
    let h : r ≡ s = same_rule r s left right in
    let k : rs' ≡ rs ++ f.more = f.rules in
    record { more = f.more; rules = cc; rest = f.rest }

record Later (n n' : ℕ) (g g' : Grammar) (rest rest' : List ℕ) : Type 0 where
  count : n ≡ n'
  words : g.words ≡ g'.words
  names : g.names ≡ g'.names
  start : g.start ≡ g'.start
  rules : Front g.rules g'.rules rest rest'

later : {t : List ℕ} {n n' : ℕ} {g g' : Grammar} {rest rest' : List ℕ} → Begins t n g rest → Begins t n' g' rest' → length g.rules ≤ length g'.rules → Later n n' g g' rest rest'
later {t} {n} {n'} {g} {g'} {rest} {rest'} b b' l =
    let p = b.is in let q = b'.is in
    let a : g.words ≡ g'.words = cc in let c : g.names ≡ g'.names = cc in let s : g.start ≡ g'.start = cc in let k : n ≡ n' = cc in
    let e : flat_map rule_entries g.rules ++ rest ≡ flat_map rule_entries g'.rules ++ rest' = cc in
    record { count = k; words = a; names = c; start = s; rules = front g.rules g'.rules rest rest' l e }

holds_begins : {t : List ℕ} {g : Grammar} (h : Holds t g) → Begins t (length g.rules) g h.rest
holds_begins {t} {g} h =
    record { fit = h.fit; most = h.fit.few; so_far = omega arith; is = h.is }

begins_sound : {t : List ℕ} {n : ℕ} {g : Grammar} {rest : List ℕ} → Begins t n g rest → SoundTo (InRange t) t 4
begins_sound {t} {n} {g} {rest} b =
    let f = b.fit in
    subst (λ l. SoundTo (InRange l) l 4) (sym b.is) (each (header g n ++ (flat_map rule_entries g.rules ++ rest)) refl)
  where
    each : (l : List ℕ) → l ≡ header g n ++ (flat_map rule_entries g.rules ++ rest) → SoundTo (InRange (header g n ++ (flat_map rule_entries g.rules ++ rest))) (header g n ++ (flat_map rule_entries g.rules ++ rest)) 4
    each l e zero h = (omega arith, b.fit.words)
    each l e (suc zero) h = (omega arith, b.fit.names)
    each l e (suc (suc zero)) h = (omega arith, b.fit.start)
    each l e (suc (suc (suc j))) h = (omega arith, b.most)

header_no_fault : {t : List ℕ} {f : Refusal} → SoundTo (InRange t) t 4 → HeaderFault t f → ⊥
header_no_fault s (header_missing i m) = missing_not s m
header_no_fault s (header_range i m) = wrong_not s m

header_fault_one : {t : List ℕ} {f f' : Refusal} → HeaderFault t f → HeaderFault t f' → f ≡ f'
header_fault_one (header_missing i m) (header_missing j k) = ap (told 1) (missing_one m k)
header_fault_one (header_missing i m) (header_range j k) = absurd (not_both m k)
header_fault_one (header_range i m) (header_missing j k) = absurd (not_both k m)
header_fault_one (header_range i m) (header_range j k) = ap (told 2) (wrong_one m k)

-- where one reading goes on, the rule it goes on with is fit

dots_append : (rs ss : List Rule) → dots (rs ++ ss) ≡ dots rs + dots ss
dots_append [] ss = omega arith
dots_append (r ∷ rs) ss = omega (arith, dots_append rs ss)

all_right : (P : Rule → Type 0) (rs ss : List Rule) → AllByRecursion P (rs ++ ss) → AllByRecursion P ss
all_right P [] ss a = a
all_right P (r ∷ rs) ss (p, a) = all_right P rs ss a

goes_on : {t : List ℕ} {n n' : ℕ} {g g' : Grammar} {rest rest' : List ℕ} {f : Refusal} → Begins t n g rest → Begins t n' g' rest' → length g.rules < length g'.rules → RuleFault g rest f → ⊥
goes_on {t} {n} {n'} {g} {g'} {rest} {rest'} {f} b b' l r =
    let z = later b b' (omega arith) in
    next z.rules.more z.rules.rules z.rules.rest z.words z.names
  where
    next : (more : List Rule) → g'.rules ≡ g.rules ++ more → rest ≡ flat_map rule_entries more ++ rest' → g.words ≡ g'.words → g.names ≡ g'.names → ⊥
    next [] e q w m = omega (arith, ap length (e ∙ append-nil g.rules))
    next (s ∷ more) e q w m =
        let fit : FitRule g' s = (all_right (FitRule g') g.rules (s ∷ more) (subst (AllByRecursion (FitRule g')) e b'.fit.each)).0 in
        let fit' : FitRule g s = (let k = fit.left in record { left = (omega arith, omega arith); short = fit.short; right = subst (λ (k : ℕ). AllByRecursion (λ x. x < k) s.right) (omega arith) fit.right }) in
        let small = b'.fit.small in
        let q' : rest ≡ rule_entries s ++ (flat_map rule_entries more ++ rest') = q ∙ append_assoc (rule_entries s) (flat_map rule_entries more) rest' in
        fit_no_fault g s (flat_map rule_entries more ++ rest') {f = f} fit' (omega (arith, ap dots e, dots_append g.rules (s ∷ more))) (subst (λ k. RuleFault g k f) q' r)

same_grammar : {t : List ℕ} {n n' : ℕ} {g g' : Grammar} {rest rest' : List ℕ} → Begins t n g rest → Begins t n' g' rest' → length g.rules ≡ length g'.rules → (g ≡ g') × (rest ≡ rest')
same_grammar {t} {n} {n'} {g} {g'} {rest} {rest'} b b' l =
    let z = later b b' (omega arith) in
    next z.rules.more z.rules.rules z.rules.rest z.words z.names z.start
  where
    next : (more : List Rule) → g'.rules ≡ g.rules ++ more → rest ≡ flat_map rule_entries more ++ rest' → g.words ≡ g'.words → g.names ≡ g'.names → g.start ≡ g'.start → (g ≡ g') × (rest ≡ rest')
    next [] e q w m s = let k : g.rules ≡ g'.rules = sym (e ∙ append-nil g.rules) in
        ((λ i. record { words = w i; names = m i; start = s i; rules = k i }), q)
    next (r ∷ more) e q w m s = absurd (omega (arith, ap length e, length-append g.rules (r ∷ more)))

-- a table holds one grammar
pub holds_one : {t : List ℕ} {g g' : Grammar} → Holds t g → Holds t g' → g ≡ g'
holds_one {t} {g} {g'} h h' =
    let b = holds_begins h in let b' = holds_begins h' in
    let n = counts b b' in
    (same_grammar b b' n).0
  where
    counts : {rest rest' : List ℕ} → Begins t (length g.rules) g rest → Begins t (length g'.rules) g' rest' → length g.rules ≡ length g'.rules
    counts b b' = let p = b.is in let q = b'.is in cc

-- a table that holds a grammar has no fault
pub holds_no_fault : {t : List ℕ} {g : Grammar} {f : Refusal} → Holds t g → TableFault t f → ⊥
holds_no_fault h (in_header f) = header_no_fault (begins_sound (holds_begins h)) f
holds_no_fault {t} {g} h (in_rule n g' rest b l r) =
    let c = holds_begins h in
    let p = b.is in let q = c.is in
    let e : n ≡ length g.rules = cc in
    goes_on b c (omega arith) r

-- the first fault of a table is one
pub fault_one : {t : List ℕ} {f f' : Refusal} → TableFault t f → TableFault t f' → f ≡ f'
fault_one (in_header f) (in_header f') = header_fault_one f f'
fault_one (in_header f) (in_rule n g rest b l r) = absurd (header_no_fault (begins_sound b) f)
fault_one (in_rule n g rest b l r) (in_header f') = absurd (header_no_fault (begins_sound b) f')
fault_one {t} {f} {f'} (in_rule n g rest b l r) (in_rule n' g' rest' b' l' r') =
    ⊎_elim (λ k. absurd (goes_on b b' k r))
    (λ k. ⊎_elim (λ m. absurd (goes_on b' b m r'))
    (λ m. let e : length g.rules ≡ length g'.rules = omega arith in
    let (p, q) = same_grammar b b' e in
    rule_fault_one r (subst (λ x. RuleFault x rest f') (sym p) (subst (λ x. RuleFault g' x f') (sym q) r')))
    (cases_lt (length g'.rules) (length g.rules)))
    (cases_lt (length g.rules) (length g'.rules))

pub only_checked : (es : List ℕ) (r : Result Summary BookFault) → Checked es r → OnlyChecked es r
only_checked es (Ok s) (g, h, e) = ((λ a b p q. holds_one p q), (λ f. holds_no_fault h))
only_checked es (Err f) t = ((λ g h. holds_no_fault h t), (λ f' u. fault_one u t))
