-- The items of a grammar: how they are numbered, and what stands at a number.
use Rattle.std.proofs.Common.{◌≡◌, ℕ, zero, suc, ◌+◌, ◌<◌, List, [], ◌∷◌, ◌++◌, length, take, sym, refl, ap, ◌∙◌, subst, ⊎_elim, append_assoc, append-nil, arith}
use mathlib.Core.Option.{some, Option, none}
use mathlib.Core.List.Memᴰ
use mathlib.Core.List.{Memᴰ}
use lib.ListN.{get_elem?}
use Rattle.std.specs.List.{flat_map}
use Rattle.std.proofs.lemmas.List.{length-append, length_push}
use Rattle.book.specs.Grammar.{Rule, rule, Grammar, symbols, Rewrites}
use Rattle.book.specs.Tables.{Fit, FitRule, dots as rules_count}
use Rattle.table.proofs.Lists.{stands_below, stands_some, stands_left, mem_at, at_mem}
use Rattle.theory.specs.Items.{Item, item, dots, rule_items, items, Dotted, item_count, first_item, Sound, Numbers, symbol_after}
use Rattle.theory.specs.Items.Numbers.{added, ruled}
use Rattle.theory.proofs.Lists.{some_one, none_some, all_mem, at_right, Later, at_split}

-- ── one rule ──

pub dots_length : (a : ℕ) (l r : List ℕ) → length (dots a l r) ≡ length r + 1
dots_length a l [] = omega arith
dots_length a l (x ∷ r) = let h = dots_length a (l ++ (x ∷ [])) r in omega arith

dots_head : (a : ℕ) (l r : List ℕ) → get_elem? (dots a l r) 0 ≡ some (item a l r)
dots_head a l [] = refl
dots_head a l (x ∷ r) = refl

-- the dot stands after `l` and as many symbols as the place says
record Dot (a : ℕ) (l r : List ℕ) (j b : ℕ) (m s : List ℕ) : Type 0 where
  left : b ≡ a
  whole : m ++ s ≡ l ++ r
  place : length m ≡ length l + j

item_parts : {i : Item} {a : ℕ} {l r : List ℕ} → some i ≡ some (item a l r) → (i.left ≡ a) × (i.before ≡ l) × (i.after ≡ r)
item_parts {i} {a} {l} {r} e = let h : i ≡ item a l r = some_one refl e in (ap (λ (k : Item). k.left) h, ap (λ (k : Item). k.before) h, ap (λ (k : Item). k.after) h)

dots_dot : (a : ℕ) (l r : List ℕ) (j : ℕ) {b : ℕ} {m s : List ℕ} → get_elem? (dots a l r) j ≡ some (item b m s) → Dot a l r j b m s
dots_dot a l [] zero e =
    let (p, q, t) = item_parts e in
    record { left = sym p; whole = (let u = ap (λ k. k ++ []) q in cc); place = (let n = ap length q in omega arith) }
dots_dot a l [] (suc j) e = absurd (none_some refl e)
dots_dot a l (x ∷ r) zero e =
    let (p, q, t) = item_parts e in
    record { left = sym p; whole = cc; place = (let n = ap length q in omega arith) }
dots_dot a l (x ∷ r) (suc j) e =
    let d = dots_dot a (l ++ (x ∷ [])) r j e in
    record { left = d.left; whole = d.whole ∙ append_assoc l (x ∷ []) r; place = (let h = d.place in let n = length_push l x in omega arith) }

-- each place of the dot has its item
dots_at : (a : ℕ) (l m s : List ℕ) → get_elem? (dots a l (m ++ s)) (length m) ≡ some (item a (l ++ m) s)
dots_at a l [] s = dots_head a l s ∙ ap (λ k. some (item a k s)) (sym (append-nil l))
dots_at a l (x ∷ m) s = dots_at a (l ++ (x ∷ [])) m s ∙ ap (λ k. some (item a k s)) (append_assoc l (x ∷ []) m)

rule_at : (r : Rule) (m s : List ℕ) → m ++ s ≡ r.right → get_elem? (rule_items r) (length m) ≡ some (item r.left m s)
rule_at r m s e = ap (λ k. get_elem? (dots r.left [] k) (length m)) (sym e) ∙ dots_at r.left [] m s

-- ── all rules ──

record InRule (rs : List Rule) (k a : ℕ) (m s : List ℕ) : Type 0 where
  place : ℕ
  its : Rule
  at : get_elem? rs place ≡ some its
  number : k ≡ rules_count (take place rs) + length m
  left : a ≡ its.left
  whole : m ++ s ≡ its.right

joined_length : (rs : List Rule) → length (flat_map rule_items rs) ≡ rules_count rs
joined_length [] = refl
joined_length (r ∷ rs) =
    let h = joined_length rs in
    let k = dots_length r.left [] r.right in
    let n = length-append (rule_items r) (flat_map rule_items rs) in omega arith

joined_only : (rs : List Rule) (k : ℕ) {a : ℕ} {m s : List ℕ} → get_elem? (flat_map rule_items rs) k ≡ some (item a m s) → InRule rs k a m s
joined_only [] k e = absurd (none_some refl e)
joined_only (r ∷ rs) k {a} {m} {s} e =
    ⊎_elim
    (λ h. let d = dots_dot r.left [] r.right k h in
    record { place = 0; its = r; at = refl; number = (let n = d.place in omega arith); left = d.left; whole = d.whole })
    (λ (l : Later (rule_items r) (flat_map rule_items rs) k (item a m s)).
    let i = joined_only rs l.place l.at in
    let n = l.number in let h = i.number in
    let d = dots_length r.left [] r.right in
    record { place = suc i.place; its = i.its; at = i.at; number = omega arith; left = i.left; whole = i.whole })
    (at_split (rule_items r) (flat_map rule_items rs) k e)

joined_at : (rs : List Rule) (i : ℕ) (r : Rule) (m s : List ℕ) → get_elem? rs i ≡ some r → m ++ s ≡ r.right → get_elem? (flat_map rule_items rs) (rules_count (take i rs) + length m) ≡ some (item r.left m s)
joined_at [] i r m s h e = absurd (none_some refl h)
joined_at (q ∷ rs) zero r m s h e =
    let p : q ≡ r = some_one refl h in
    let n : rules_count [] + length m ≡ length m = omega arith in
    ap (get_elem? (flat_map rule_items (q ∷ rs))) n ∙ stands_left (rule_items q) (flat_map rule_items rs) _ (length m) (ap (λ k. get_elem? (rule_items k) (length m)) p ∙ rule_at r m s e)
joined_at (q ∷ rs) (suc i) r m s h e =
    let d = dots_length q.left [] q.right in
    let n : rules_count (take (suc i) (q ∷ rs)) + length m ≡ length (rule_items q) + (rules_count (take i rs) + length m) = omega arith in
    ap (get_elem? (flat_map rule_items (q ∷ rs))) n ∙ at_right (rule_items q) (flat_map rule_items rs) (rules_count (take i rs) + length m) ∙ joined_at rs i r m s h e

-- ── the grammar's items ──

-- there are as many items as the count says
pub items_length : (g : Grammar) → length (items g) ≡ item_count g
items_length g =
    let h = joined_length g.rules in
    let n = length-append (dots (symbols g) [] (g.start ∷ [])) (flat_map rule_items g.rules) in omega arith

pub dotted_only : (g : Grammar) (k : ℕ) {a : ℕ} {m s : List ℕ} → Dotted g k a m s → Numbers g k a m s
dotted_only g k {a} {m} {s} e =
    ⊎_elim
    (λ h. let d = dots_dot (symbols g) [] (g.start ∷ []) k h in added (let n = d.place in omega arith) d.left d.whole)
    (λ (l : Later (dots (symbols g) [] (g.start ∷ [])) (flat_map rule_items g.rules) k (item a m s)).
    let i = joined_only g.rules l.place l.at in
    let n = l.number in let h = i.number in
    ruled i.place i.its i.at (omega arith) i.left i.whole)
    (at_split (dots (symbols g) [] (g.start ∷ [])) (flat_map rule_items g.rules) k e)

pub dotted_at : (g : Grammar) (k : ℕ) {a : ℕ} {m s : List ℕ} → Numbers g k a m s → Dotted g k a m s
dotted_at g k {a} {m} {s} (added n e h) =
    let added-items = dots (symbols g) [] (g.start ∷ []) in
    ap (get_elem? (items g)) n
    ∙ stands_left added-items (flat_map rule_items g.rules) _ (length m)
    (ap (λ r. get_elem? (dots (symbols g) [] r) (length m)) (sym h) ∙ dots_at (symbols g) [] m s ∙ ap (λ b. some (item b m s)) (sym e))
dotted_at g k {a} {m} {s} (ruled i r p n e h) =
    let added-items = dots (symbols g) [] (g.start ∷ []) in
    let q : k ≡ length added-items + (rules_count (take i g.rules) + length m) = omega arith in
    ap (get_elem? (items g)) q ∙ at_right added-items (flat_map rule_items g.rules) (rules_count (take i g.rules) + length m)
    ∙ joined_at g.rules i r m s p h ∙ ap (λ b. some (item b m s)) (sym e)

pub dotted_below : (g : Grammar) (k : ℕ) {a : ℕ} {m s : List ℕ} → Dotted g k a m s → k < item_count g
dotted_below g k e = let h = stands_below (items g) k _ e in let n = items_length g in omega arith

pub below_dotted : (g : Grammar) (k : ℕ) → k < item_count g → (a : ℕ) × (m : List ℕ) × (s : List ℕ) × Dotted g k a m s
below_dotted g k h = let (i, e) = stands_some (items g) k (let n = items_length g in omega arith) in (i.left, i.before, i.after, e)

-- the next item has the dot carried over
pub dotted_next : (g : Grammar) (k : ℕ) {a x : ℕ} {l r : List ℕ} → Dotted g k a l (x ∷ r) → Dotted g (suc k) a (l ++ (x ∷ [])) r
dotted_next g k {a} {x} {l} {r} e = dotted_at g (suc k) (next (dotted_only g k e))
  where
    next : Numbers g k a l (x ∷ r) → Numbers g (suc k) a (l ++ (x ∷ [])) r
    next (added n p h) = added (let s = length_push l x in omega arith) p (append_assoc l (x ∷ []) r ∙ h)
    next (ruled i q p n f h) = ruled i q p (let s = length_push l x in omega arith) f (append_assoc l (x ∷ []) r ∙ h)

-- the first item of a rule
pub rule_first : (g : Grammar) {a : ℕ} {s : List ℕ} → Memᴰ (rule a s) g.rules → (k : ℕ) × Dotted g k a [] s
rule_first g {a} {s} m = let (i, e) = at_mem g.rules _ m in (first_item g i + length {A = ℕ} [], dotted_at g _ (ruled i (rule a s) e refl refl refl))

-- an item belongs to the added rule or to a rule of the grammar
pub data Belongs (g : Grammar) (a : ℕ) (m s : List ℕ) : Type 0 where
  to_added : a ≡ symbols g → m ++ s ≡ g.start ∷ [] → Belongs g a m s
  to_rule : Memᴰ (rule a (m ++ s)) g.rules → Belongs g a m s

pub belongs : (g : Grammar) (k : ℕ) {a : ℕ} {m s : List ℕ} → Dotted g k a m s → Belongs g a m s
belongs g k {a} {m} {s} e = cases (dotted_only g k e)
  where
    cases : Numbers g k a m s → Belongs g a m s
    cases (added n p h) = to_added p h
    cases (ruled i r p n f h) = to_rule (subst (λ (q : Rule). Memᴰ q g.rules) (λ j. rule (sym f j) (sym h j)) (mem_at g.rules i _ p))

-- every symbol after a dot is a symbol of the grammar
pub after_known : (g : Grammar) → Sound g → (k : ℕ) {a c : ℕ} {l r : List ℕ} → Dotted g k a l (c ∷ r) → c < symbols g
after_known g u k {a} {c} {l} {r} e = cases (belongs g k e)
  where
    in_start : (l : List ℕ) → l ++ (c ∷ r) ≡ g.start ∷ [] → c < symbols g
    in_start [] h = let p : c ≡ g.start = cc in let n = u.start_known in omega arith
    in_start (x ∷ []) h = absurd (cc)
    in_start (x ∷ (y ∷ l)) h = absurd (cc)

    cases : Belongs g a l (c ∷ r) → c < symbols g
    cases (to_added p h) = in_start l h
    cases (to_rule m) = all_mem (λ x. x < symbols g) (l ++ (c ∷ r)) (u.rights_known (rule a (l ++ (c ∷ r))) m) (Memᴰ.append_right l (Memᴰ.head refl))

-- a first item whose left stands after a dot is that of a rule of a name
pub first_rewrites : (g : Grammar) → Sound g → (j k : ℕ) {a c : ℕ} {l r s : List ℕ} → Dotted g j a l (c ∷ r) → Dotted g k c [] s → Rewrites g c s
first_rewrites g u j k {a} {c} {l} {r} {s} d e = cases (belongs g k e)
  where
    cases : Belongs g c [] s → Rewrites g c s
    cases (to_added p h) = let n = after_known g u j d in absurd (omega arith)
    cases (to_rule m) = (u.lefts_named (rule c s) m, m)

-- S' → · start is item 0 and S' → start · is item 1
pub item_zero : (g : Grammar) → Dotted g 0 (symbols g) [] (g.start ∷ [])
item_zero g = refl

pub item_one : (g : Grammar) → Dotted g 1 (symbols g) (g.start ∷ []) []
item_one g = refl

-- every grammar of a book is sound
pub fit_sound : (g : Grammar) → Fit g → Sound g
fit_sound g f =
    record {
      start_named = f.start.0;
      start_known = f.start.1;
      lefts_named = λ r m. (all_mem (FitRule g) g.rules f.each m).left.0;
      lefts_known = λ r m. (all_mem (FitRule g) g.rules f.each m).left.1;
      rights_known = λ r m. (all_mem (FitRule g) g.rules f.each m).right;
    }

-- ── the symbol after the dot ──

pub symbol_after_is : (g : Grammar) (k : ℕ) {a c : ℕ} {l r : List ℕ} → Dotted g k a l (c ∷ r) → symbol_after g k ≡ some c
symbol_after_is g k e = rw (e, symbol_after)

pub symbol_after_end : (g : Grammar) (k : ℕ) {a : ℕ} {l : List ℕ} → Dotted g k a l [] → symbol_after g k ≡ none
symbol_after_end g k e = rw (e, symbol_after)

-- an item with c after its dot
pub record HasAfter (g : Grammar) (k c : ℕ) : Type 0 where
  pub left : ℕ
  pub before : List ℕ
  pub after : List ℕ
  pub is : Dotted g k left before (c ∷ after)

pub symbol_after_only : (g : Grammar) (k : ℕ) {c : ℕ} → symbol_after g k ≡ some c → HasAfter g k c
symbol_after_only g k {c} h = cases (get_elem? (items g) k) refl
  where
    ends : (i : Item) (r : List ℕ) → i.after ≡ r → get_elem? (items g) k ≡ some i → HasAfter g k c
    ends i [] q e = absurd (none_some (symbol_after_end g k (e ∙ ap (λ r. some (item i.left i.before r)) q)) h)
    ends i (x ∷ r) q e =
        let d : Dotted g k i.left i.before (x ∷ r) = e ∙ ap (λ r. some (item i.left i.before r)) q in
        let p : x ≡ c = some_one (symbol_after_is g k d) h in
        record { left = i.left; before = i.before; after = r; is = d ∙ ap (λ y. some (item i.left i.before (y ∷ r))) p }

    cases : (o : Option Item) → get_elem? (items g) k ≡ o → HasAfter g k c
    cases none e = absurd (none_some (let q : symbol_after g k ≡ none = rw (e, symbol_after) in q) h)
    cases (some i) e = ends i i.after refl e

-- the first item of the rule at a place
pub first_dotted : (g : Grammar) (i : ℕ) {a : ℕ} {s : List ℕ} → get_elem? g.rules i ≡ some (rule a s) → Dotted g (first_item g i) a [] s
first_dotted g i {a} {s} e = dotted_at g (first_item g i) (ruled i (rule a s) e (omega arith) refl refl)

-- an item that a name after a dot opens is the first item of one of the name's rules
pub record FirstOf (g : Grammar) (k c : ℕ) (s : List ℕ) : Type 0 where
  pub place : ℕ
  pub at : get_elem? g.rules place ≡ some (rule c s)
  pub number : k ≡ first_item g place

pub first_placed : (g : Grammar) → (k c : ℕ) (s : List ℕ) → c < symbols g → Dotted g k c [] s → FirstOf g k c s
first_placed g k c s h e = cases (dotted_only g k e)
  where
    cases : Numbers g k c [] s → FirstOf g k c s
    cases (added n p q) = absurd (omega arith)
    cases (ruled i r p n a w) = record { place = i; at = p ∙ ap some (λ j. rule (sym a j) (sym w j)); number = omega arith }
