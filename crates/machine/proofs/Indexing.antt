-- The index of a grammar's items, one rule after the other.
use Rattle.std.proofs.Common.{◌≡◌, ℕ, zero, suc, ◌+◌, ◌-◌, ◌<◌, ◌≤◌, ◌≢◌, ◌⊎◌, ◌↔◌, List, [], ◌∷◌, ◌++◌, map, length, get_or, take, set, replicate, sym, refl, ap, ◌∙◌, add-one, subst, inl, inr, ⊎_elim, append_assoc, arith}
use mathlib.Core.Option.{some}
use mathlib.Core.List.Memᴰ
use mathlib.Core.List.{Memᴰ}
use lib.ListN.{get_elem?}
use Rattle.std.specs.List.{flat_map}
use Rattle.std.proofs.lemmas.List.{map-append, get_or-take, get_or-set_same, get_or-set_other, take_more, take_all, flat_map_more, length-append, length-take, length-drop, take_more_set}
use Rattle.std.proofs.lemmas.Slice.{take-put_mid}
use borrow.Rule.Slice.PartMut.{put_mid}
use Rattle.std.proofs.lemmas.Bool.{cases_lt}
use Rattle.std.proofs.lemmas.Bool.Decides.{eqb_tells}
use Rattle.book.specs.Grammar.{Rule, Grammar, symbols}
use Rattle.book.specs.Tables.{Name, dots as rules_count}
use Rattle.book.proofs.Held.{dots_push}
use Rattle.table.proofs.Lists.{stands_below, stands_is, stands_map, stands_some, stands_same}
use Rattle.table.proofs.Rows.{zeros_at}
use Rattle.theory.specs.Items.{Item, item, items, rule_items, dots, item_count, first_item, Dotted, Numbers}
use Rattle.theory.specs.Items.Numbers.{added, ruled}
use Rattle.theory.proofs.Items.{dotted_only, dotted_at, dotted_below, below_dotted}
use Rattle.machine.specs.Index.{follower, Chain, Passes, FirstAmong, IndexedTo, FirstOf, Indexed}
use Rattle.machine.specs.Index.Chain.{end, link}
use Rattle.machine.proofs.Links.{chain_head}

-- a rule's items, by what follows their dots

pub followers_rule : (a : ℕ) (l r : List ℕ) → map follower (dots a l r) ≡ r ++ (65535 ∷ [])
followers_rule a l [] = refl
followers_rule a l (x ∷ r) = ap (λ k. x ∷ k) (followers_rule a (l ++ (x ∷ [])) r)

-- first items rise from rule to rule

pub first_next : (g : Grammar) (i : ℕ) (r : Rule) → get_elem? g.rules i ≡ some r → first_item g (i + 1) ≡ first_item g i + (length r.right + 1)
first_next g i r at =
    let here : get_or g.rules i r ≡ r = stands_is g.rules i r r at in
    let more : take (i + 1) g.rules ≡ take i g.rules ++ (r ∷ []) = take_more g.rules i r (stands_below g.rules i r at) ∙ ap (λ k. take i g.rules ++ (k ∷ [])) here in
    omega (arith, ap rules_count more, dots_push (take i g.rules) r)

first_below : (g : Grammar) (p i : ℕ) → p < i → i ≤ length g.rules → first_item g p < first_item g i
first_below g p zero h l = absurd (omega arith)
first_below g p (suc i) h l =
    let (r, at) = stands_some g.rules i (omega arith) in
    rw (← add-one i) (⊎_elim (λ b. omega (arith, first_next g i r at, first_below g p i b (omega arith)))
    (λ b. let e : p ≡ i = omega arith in omega (arith, first_next g i r at, ap (first_item g) e)) (cases_lt p i))

-- an entry that no chain passes may change

chain_keeps : (next : List ℕ) (at v : ℕ) {k : ℕ} {ks : List ℕ} → Chain next k ks → ((j : ℕ) → Memᴰ j ks → j ≢ at) → Chain (set next at v) k ks
chain_keeps next at v end apart = end
chain_keeps next at v (link {k = k} {ks = ks} h f c) apart =
    let e : get_or (set next at v) k 0 ≡ get_or next k 0 = get_or-set_other next at k v 0 (apart k (Memᴰ.head refl)) in
    link h (omega (arith, e)) (subst (λ j. Chain (set next at v) j ks) (sym e) (chain_keeps next at v c (λ j m. apart j (Memᴰ.tail m))))

-- where a chain begins

-- nothing but the added rule

pub index_start : (g : Grammar) → IndexedTo g 0 (set (replicate 4096 65535) 0 g.start) (replicate 1024 0) (replicate 4096 0)
index_start g =
    record {
      followers = refl;
      opens = λ c n. record {
        numbers = [];
        chain = subst (λ k. Chain (replicate 4096 0) k []) (sym (zeros_at 1024 (c - g.words))) end;
        are = λ j. ((λ m. absurd (Memᴰ.not-nil m)), (λ f. absurd (let b = f.below in omega arith)));
      };
    }

-- one rule more

module _ (g : Grammar) (i : ℕ) (after head next after' : List ℕ) (x : IndexedTo g i after head next) (r : Rule) (at : get_elem? g.rules i ≡ some r) (named : Name g r.left)
    (few : g.names ≤ length head) (room : first_item g (i + 1) ≤ length next)
    (now : take (first_item g i + (length r.right + 1)) after' ≡ take (first_item g i) after ++ (r.right ++ (65535 ∷ []))) where
  abbrev first : ℕ
  first = first_item g i

  abbrev name : ℕ
  name = r.left - g.words

  abbrev head' : List ℕ
  head' = set head (r.left - g.words) (first_item g i)

  abbrev next' : List ℕ
  next' = set next (first_item g i) (get_or head (r.left - g.words) 0)

  in_rules : i < length g.rules
  in_rules = stands_below g.rules i r at

  among_below : (c j : ℕ) → FirstAmong g i c j → j < first
  among_below c j f =
      let n = f.number in let b = f.below in
      omega (arith, first_below g f.place i b (omega (arith, in_rules)))

  among_more : {c j : ℕ} → FirstAmong g i c j → FirstAmong g (i + 1) c j
  among_more f = record { place = f.place; below = (let b = f.below in omega arith); rule = f.rule; at = f.at; left = f.left; number = f.number }

  among_last : {c j : ℕ} → FirstAmong g (i + 1) c j → FirstAmong g i c j ⊎ ((r.left ≡ c) × (j ≡ first))
  among_last {c} {j} f =
      ⊎_elim (λ h. inl (record { place = f.place; below = h; rule = f.rule; at = f.at; left = f.left; number = f.number }))
      (λ h. let e : f.place ≡ i = (let b = f.below in omega arith) in
      let same : f.rule ≡ r = stands_same g.rules i f.rule r (ap (get_elem? g.rules) (sym e) ∙ f.at) at in
      inr (ap (λ (s : Rule). s.left) (sym same) ∙ f.left, f.number ∙ ap (first_item g) e))
      (cases_lt f.place i)

  followers_more : take (first_item g (i + 1)) after' ≡ map follower (dots (symbols g) [] (g.start ∷ []) ++ flat_map rule_items (take (i + 1) g.rules))
  followers_more =
      let here : get_or g.rules i r ≡ r = stands_is g.rules i r r at in
      let more : take (i + 1) g.rules ≡ take i g.rules ++ (r ∷ []) = take_more g.rules i r in_rules ∙ ap (λ k. take i g.rules ++ (k ∷ [])) here in
      let front : List Item = dots (symbols g) [] (g.start ∷ []) in
      let old : List Item = dots (symbols g) [] (g.start ∷ []) ++ flat_map rule_items (take i g.rules) in
      let all : dots (symbols g) [] (g.start ∷ []) ++ flat_map rule_items (take (i + 1) g.rules) ≡ (dots (symbols g) [] (g.start ∷ []) ++ flat_map rule_items (take i g.rules)) ++ rule_items r =
      ap (λ l. dots (symbols g) [] (g.start ∷ []) ++ flat_map rule_items l) more ∙ sym (flat_map_more rule_items (dots (symbols g) [] (g.start ∷ [])) (take i g.rules) r) in
      ap (λ n. take n after') (first_next g i r at) ∙ now
      ∙ ap (λ l. l ++ (r.right ++ (65535 ∷ []))) x.followers
      ∙ ap (λ l. map follower (dots (symbols g) [] (g.start ∷ []) ++ flat_map rule_items (take i g.rules)) ++ l) (sym (followers_rule r.left [] r.right))
      ∙ sym (map-append follower (dots (symbols g) [] (g.start ∷ []) ++ flat_map rule_items (take i g.rules)) (rule_items r))
      ∙ ap (map follower) (sym all)

  kept : (c : ℕ) (p : Passes next (get_or head (c - g.words) 0) (FirstAmong g i c)) → Chain next' (get_or head (c - g.words) 0) p.numbers
  kept c p = chain_keeps next first (get_or head name 0) p.chain (λ j m e. let b = among_below c j ((p.are j).0 m) in omega arith)

  opens_more : (c : ℕ) → Name g c → Passes next' (get_or head' (c - g.words) 0) (FirstAmong g (i + 1) c)
  opens_more c n =
      ⊎_elim (λ e. own e.1) (λ e. other e.1) (eqb_tells (c - g.words) name)
    where
      p : Passes next (get_or head (c - g.words) 0) (FirstAmong g i c)
      p = x.opens c n

      own : c - g.words ≡ name → Passes next' (get_or head' (c - g.words) 0) (FirstAmong g (i + 1) c)
      own e =
          let c-is : c ≡ r.left = omega arith in
          let begins : get_or head' (c - g.words) 0 ≡ first = ap (λ k. get_or head' k 0) e ∙ get_or-set_same head name first 0 (omega arith) in
          let to : get_or next' first 0 ≡ get_or head (c - g.words) 0 =
          get_or-set_same next first (get_or head name 0) 0 (omega (arith, first_next g i r at)) ∙ ap (λ k. get_or head k 0) (sym e) in
          let falls : get_or head (c - g.words) 0 < first =
          ⊎_elim (λ z. omega (arith, z)) (λ m. among_below c _ ((p.are _).0 m)) (chain_head p.chain) in
          record {
            numbers = first ∷ p.numbers;
            chain = subst (λ k. Chain next' k (first ∷ p.numbers)) (sym begins)
                (link (omega arith) (omega (arith, to, falls)) (subst (λ k. Chain next' k p.numbers) (sym to) (kept c p)));
            are = λ j. (
              (λ m. ⊎_elim (λ q. record { place = i; below = omega arith; rule = r; at = at; left = sym c-is; number = q }) (λ t. among_more ((p.are j).0 t)) (Memᴰ.cases_cons m)),
              (λ f. ⊎_elim (λ k. Memᴰ.tail ((p.are j).1 k)) (λ k. Memᴰ.head k.1) (among_last f)),
            );
          }

      other : (c - g.words ≡ name → ⊥) → Passes next' (get_or head' (c - g.words) 0) (FirstAmong g (i + 1) c)
      other ne =
          let begins : get_or head' (c - g.words) 0 ≡ get_or head (c - g.words) 0 = get_or-set_other head name (c - g.words) first 0 ne in
          record {
            numbers = p.numbers;
            chain = subst (λ k. Chain next' k p.numbers) (sym begins) (kept c p);
            are = λ j. (
              (λ m. among_more ((p.are j).0 m)),
              (λ f. ⊎_elim (λ k. (p.are j).1 k) (λ k. absurd (ne (ap (λ z. z - g.words) (sym k.0)))) (among_last f)),
            );
          }

  pub index_more : IndexedTo g (i + 1) after' head' next'
  index_more = record { followers = followers_more; opens = opens_more }

-- all rules

first_among : (g : Grammar) (c j : ℕ) → Name g c → FirstAmong g (length g.rules) c j ↔ FirstOf g c j
first_among g c j n = (
  (λ f. (f.rule.right, dotted_at g j (ruled f.place f.rule f.at (let e = f.number in omega arith) (sym f.left) refl))),
  (λ (s, d). back s (dotted_only g j d)),
)
  where
    back : (s : List ℕ) → Numbers g j c [] s → FirstAmong g (length g.rules) c j
    back s (added e a w) = absurd (omega arith)
    back s (ruled i r at e a w) = record { place = i; below = stands_below g.rules i r at; rule = r; at = at; left = sym a; number = omega arith }

pub index_all : (g : Grammar) (after head next : List ℕ) → IndexedTo g (length g.rules) after head next → Indexed g after head next
index_all g after head next x =
    let whole : take (length g.rules) g.rules ≡ g.rules = take_all (length g.rules) g.rules (omega arith) in
    record {
      followers = ap (λ l. take (2 + rules_count l) after) (sym whole) ∙ x.followers ∙ ap (λ l. map follower (dots (symbols g) [] (g.start ∷ []) ++ flat_map rule_items l)) whole;
      opens = λ c n. let p = x.opens c n in
          record {
            numbers = p.numbers;
            chain = p.chain;
            are = λ j. ((λ m. (first_among g c j n).0 ((p.are j).0 m)), (λ f. (p.are j).1 ((first_among g c j n).1 f)));
          };
    }

-- what follows a dot
pub follower_at : {g : Grammar} {after head next : List ℕ} → Indexed g after head next → (k a : ℕ) (l r : List ℕ) → Dotted g k a l r → get_or after k 0 ≡ follower (item a l r)
follower_at {g} {after} x k a l r d =
    let below = dotted_below g k d in
    sym (get_or-take (item_count g) after k 0 below) ∙ ap (λ s. get_or s k 0) x.followers
    ∙ stands_is (map follower (items g)) k (follower (item a l r)) 0 (stands_map follower (items g) k (item a l r) d)

-- the symbol after a dot
pub after_symbol : {g : Grammar} {after head next : List ℕ} → Indexed g after head next → (k a x : ℕ) (l r : List ℕ) → Dotted g k a l (x ∷ r) → get_or after k 0 ≡ x
after_symbol i k a x l r d = follower_at i k a l (x ∷ r) d

-- an item that has the symbol x after its dot
pub record Has (g : Grammar) (k x : ℕ) : Type 0 where
  pub left : ℕ
  pub before : List ℕ
  pub after : List ℕ
  pub item : Dotted g k left before (x ∷ after)

pub has_after : {g : Grammar} {after head next : List ℕ} → Indexed g after head next → (k x : ℕ) → k < item_count g → get_or after k 0 ≡ x → x < 65535 → Has g k x
has_after {g} i k x b e s =
    let (a, l, r, d) = below_dotted g k b in with_item a l r d
  where
    with_item : (a : ℕ) (l r : List ℕ) → Dotted g k a l r → Has g k x
    with_item a l [] d = absurd (let f = follower_at i k a l [] d in omega arith)
    with_item a l (y ∷ r) d =
        let f : y ≡ x = sym (after_symbol i k a y l r d) ∙ e in
        record { left = a; before = l; after = r; item = subst (λ z. Dotted g k a l (z ∷ r)) f d }

-- the writes of one rule
pub rule_followers : (after right ys : List ℕ) (first k : ℕ) → first + (length right + 1) ≤ length after → k ≡ length right → ys ≡ right
    → take (first + (length right + 1)) (set (put_mid first k after ys) (first + length right) 65535) ≡ take first after ++ (right ++ (65535 ∷ []))
rule_followers after right ys first k room e same =
    let end : first + (length right + 1) ≡ (first + length right) + 1 = omega arith in
    let mid : List ℕ = put_mid first k after ys in
    let long : first + length right < length (put_mid first k after ys) =
    subst (λ l. first + length right < length (put_mid first k after l)) (sym same)
    (simp (length-append, length-take, length-drop) (omega arith)) in
    ap (λ n. take n (set (put_mid first k after ys) (first + length right) 65535)) end
    ∙ take_more_set (put_mid first k after ys) (first + length right) 65535 long
    ∙ ap (λ l. l ++ (65535 ∷ [])) (take-put_mid first k after ys (first + length right) (omega (arith, ap length same)) (omega arith) ∙ ap (λ l. take first after ++ l) same)
    ∙ append_assoc (take first after) right (65535 ∷ [])
