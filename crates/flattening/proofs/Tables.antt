-- The table of jumps keeps one jump more.
use Rattle.std.proofs.Common.{◌≡◌, cond, Ok, Err, Result, MatchResult, ℕ, suc, ◌+◌, ◌-◌, ◌<◌, ◌≤◌, ◌↔◌, List, [], ◌∷◌, ◌++◌, length, get_or, take, drop, Some, None, Option, sym, refl, ap, ◌∙◌, subst, inl, inr, ⊎_elim, arith}
use mathlib.Core.List.Memᴰ
use mathlib.Core.List.{Memᴰ}
use Rattle.std.specs.List.{insert}
use Rattle.std.proofs.lemmas.List.{take-take, take_all, take_at, take-append-drop, length-take, length-take-le}
use Rattle.std.proofs.lemmas.List.Edits.{length-insert}
use Rattle.std.proofs.lemmas.Bool.{cases_lt}
use Rattle.std.specs.Cmp.{ranks}
use Rattle.std.specs.List.Sorted.{IsNonDecreasingBy, IsSearchInRange, IsBinarySearchResult}
use Rattle.std.specs.Ordering.{MatchOrdering, nat_cmp, ord_min, ordering_index, ordering_then, is_lt}
use Rattle.std.specs.declared.cmp.Ordering.{Ordering}
use Rattle.std.specs.declared.cmp.Ordering.TheVariants.{Less, Equal, Greater}
use Rattle.table.specs.Lists.{StandsAt, Lacks, InOrder}
use Rattle.table.proofs.Lists.{mem_at, at_mem, stands_below, stands_getD, stands_is}
use Rattle.flattening.specs.declared.jump.Jump.{Jump}
use Rattle.flattening.specs.declared.kept.JumpTable.{JumpTable}
use Rattle.flattening.specs.Orders.{Before}
use Rattle.flattening.specs.Places.{PlaceOf}
use Rattle.flattening.specs.Keeping.{At, Keeps, PastRows, New}
use Rattle.flattening.proofs.Inserting.{stands_take, take_stands, drop_head, take_inserted, stands_inserted, Put, Compared, put_some, put_after, put_are, put_rises, Sooner, put_next}
use Rattle.flattening.proofs.Inserting.Put.{end, here}

-- ── the order of jumps ──

pub before_onward : (x y z : Jump) → Before x y → Before y z → Before x z
before_onward x y z h k =
    ⊎_elim (λ a. ⊎_elim (λ b. inl (omega arith)) (λ b. inl (let e = b.0 in omega arith)) k)
    (λ a. let p = a.0 in let q = a.1 in ⊎_elim (λ b. inl (omega arith)) (λ b. inr (p ∙ b.0, (let r = b.1 in omega arith))) k) h

pub before_apart : (x y : Jump) → Before x y → Before y x → ⊥
before_apart x y h k = omega arith

pub jump_same : (x y : Jump) → x.from.0 ≡ y.from.0 → x.to.0 ≡ y.to.0 → x ≡ y
jump_same x y p q = λ i. record { from = record { 0 = p i }; to = record { 0 = q i } }

-- the order that `cmp` gives
abbrev pub jump_cmp : Jump → Jump → Ordering
jump_cmp x y = ordering_then (nat_cmp x.from.0 y.from.0) (nat_cmp x.to.0 y.to.0)

-- what it tells
pub ranked : (x y : Jump) → MatchOrdering (jump_cmp x y) (Before x y) (x ≡ y) (Before y x)
ranked x y = both (nat_cmp x.from.0 y.from.0) (nat_cmp x.to.0 y.to.0) (ranks x.from.0 y.from.0) (ranks x.to.0 y.to.0)
  where
    both : (a b : Ordering) → MatchOrdering a (x.from.0 < y.from.0) (x.from.0 ≡ y.from.0) (y.from.0 < x.from.0) → MatchOrdering b (x.to.0 < y.to.0) (x.to.0 ≡ y.to.0) (y.to.0 < x.to.0)
        → MatchOrdering (ordering_then a b) (Before x y) (x ≡ y) (Before y x)
    both Less b h k = inl h
    both Greater b h k = inl h
    both Equal Less h k = inr (h, k)
    both Equal Equal h k = jump_same x y h k
    both Equal Greater h k = inr (sym h, k)

pub before_less : (x y : Jump) → Before x y → jump_cmp x y ≡ Less
before_less x y b = case (jump_cmp x y) (ranked x y)
  where
    case : (o : Ordering) → MatchOrdering o (Before x y) (x ≡ y) (Before y x) → o ≡ Less
    case Less h = refl
    case Equal h = (let c : Before y y = subst (λ z. Before z y) h b in absurd (before_apart y y c c))
    case Greater h = absurd (before_apart x y b h)

pub before_compare : (x y : Jump) → Compared Before x y
before_compare x y = case (jump_cmp x y) (ranked x y)
  where
    case : (o : Ordering) → MatchOrdering o (Before x y) (x ≡ y) (Before y x) → Compared Before x y
    case Less h = inl h
    case Equal h = inr (inl h)
    case Greater h = inr (inr h)

-- the lesser of two is the sooner
pub sooner_min : (j b : Jump) → Sooner Before (Some b) j (Some (ord_min jump_cmp b j))
sooner_min j b = case (jump_cmp j b) (ranked j b)
  where
    case : (o : Ordering) → MatchOrdering o (Before j b) (j ≡ b) (Before b j) → Sooner Before (Some b) j (Some (cond (is_lt o) j b))
    case Less h = inl (h, refl)
    case Equal h = inr ((λ k. let c : Before b b = subst (λ z. Before z b) h k in before_apart b b c c), refl)
    case Greater h = inr ((λ k. before_apart j b k h), refl)

-- ── where a jump stands or belongs among rows in order ──

module _ (rows : List Jump) (j : Jump) (rising : InOrder Before rows) where
  cmp_rises : IsNonDecreasingBy (λ y. ordering_index (jump_cmp y j)) rows
  cmp_rises i k d l h =
      ⊎_elim
      (λ s. later (get_or rows i d) (get_or rows k d) (jump_cmp (get_or rows k d) j) (ranked (get_or rows k d) j) (rising i k _ _ s (stands_getD rows i d (omega arith)) (stands_getD rows k d h)))
      (λ s. let e : i ≡ k = omega arith in subst (λ n. ordering_index (jump_cmp (get_or rows i d) j) ≤ ordering_index (jump_cmp (get_or rows n d) j)) e (omega arith))
      (cases_lt i k)
    where
      most : (o : Ordering) → ordering_index o ≤ 2
      most Less = omega arith
      most Equal = omega arith
      most Greater = omega arith

      later : (x y : Jump) (o : Ordering) → MatchOrdering o (Before y j) (y ≡ j) (Before j y) → Before x y → ordering_index (jump_cmp x j) ≤ ordering_index o
      later x y Less h b = let e = ap ordering_index (before_less x j (before_onward x y j b h)) in omega arith
      later x y Equal h b = let e = ap ordering_index (before_less x j (subst (Before x) h b)) in omega arith
      later x y Greater h b = most (jump_cmp x j)

  is_it : (t : Jump) → jump_cmp t j ≡ Equal → t ≡ j
  is_it t e = subst (λ o. MatchOrdering o (Before t j) (t ≡ j) (Before j t)) e (ranked t j)

  less : (t : Jump) → jump_cmp t j ≡ Less → Before t j
  less t e = subst (λ o. MatchOrdering o (Before t j) (t ≡ j) (Before j t)) e (ranked t j)

  greater : (t : Jump) → jump_cmp t j ≡ Greater → Before j t
  greater t e = subst (λ o. MatchOrdering o (Before t j) (t ≡ j) (Before j t)) e (ranked t j)

  pub found_or_belongs : (r : Result ℕ ℕ) → IsSearchInRange r (length rows) → IsBinarySearchResult (λ y. jump_cmp y j) rows r
      → MatchResult r (λ i. StandsAt rows i j) (λ i. PlaceOf Before rows j i × Lacks rows j)
  found_or_belongs (Ok i) b p = subst (StandsAt rows i) (is_it (get_or rows i j) (p j)) (stands_getD rows i j b)
  found_or_belongs (Err i) b p =
      let (front, rest) = p cmp_rises in
      let low : (k : ℕ) (t : Jump) → k < i → StandsAt rows k t → Before t j = λ k t h s. less t (subst (λ z. jump_cmp z j ≡ Less) (stands_is rows k t t s) (front k t (omega arith) h)) in
      let high : (k : ℕ) (t : Jump) → i ≤ k → StandsAt rows k t → Before j t = λ k t h s. greater t (subst (λ z. jump_cmp z j ≡ Greater) (stands_is rows k t t s) (rest k t h (stands_below rows k t s))) in (
        record { within = b; front = low; rest = λ k t h s c. before_apart t j c (high k t h s) },
        (λ k s. let own : Before j j → ⊥ = λ c. before_apart j j c c in ⊎_elim (λ h. own (low k j h s)) (λ h. own (high k j h s)) (cases_lt k i)),
      )

-- ── a jump more ──

are_more : {j : Jump} {all all' found : List Jump} → ((a : Jump) → Memᴰ a all' ↔ Memᴰ a (j ∷ all)) → ((a : Jump) → Memᴰ a all ↔ Memᴰ a found) → (a : Jump) → Memᴰ a all' ↔ Memᴰ a (j ∷ found)
are_more p q a = (
  (λ m. ⊎_elim Memᴰ.head (λ n. Memᴰ.tail ((q a).0 n)) (Memᴰ.cases_cons ((p a).0 m))),
  (λ m. (p a).1 (⊎_elim Memᴰ.head (λ n. Memᴰ.tail ((q a).1 n)) (Memᴰ.cases_cons m))),
)

module _ (found : List Jump) (t : JumpTable) (j : Jump) (k : Keeps found t) where
  abbrev rows : List Jump
  rows = take t.len t.rows.now

  rows_long : length (take t.len t.rows.now) ≡ t.len
  rows_long = length-take-le t.len t.rows.now (let f = t.few in let l = t.limited in omega arith)

  all_split : take t.limit k.all ++ drop t.limit k.all ≡ k.all
  all_split = take-append-drop t.limit k.all

  row_mem : (i : ℕ) (r : Jump) → StandsAt (take t.len t.rows.now) i r → Memᴰ r k.all
  row_mem i r s =
      subst (Memᴰ r) all_split (Memᴰ.append_left _ (mem_at (take t.limit k.all) i r (subst (λ l. StandsAt l i r) k.rows_are s)))

  -- it is there already
  pub keeps_held : (i : ℕ) → StandsAt (take t.len t.rows.now) i j → Keeps (j ∷ found) t
  keeps_held i s =
      record {
        all = k.all;
        rising = k.rising;
        rows_are = k.rows_are;
        next = k.next;
        are = are_more (λ a. ((λ m. Memᴰ.tail m), (λ m. ⊎_elim (λ e. subst (λ b. Memᴰ b k.all) (sym e) (row_mem i j s)) (λ n. n) (Memᴰ.cases_cons m)))) k.are;
      }

  -- it belongs past the rows
  pub keeps_past : (t' : JumpTable) → t'.limit ≡ t.limit → t'.len ≡ t.len → t'.rows.now ≡ t.rows.now → PastRows t j → Sooner Before t.beyond j t'.beyond → Keeps (j ∷ found) t'
  keeps_past t' l n r past s =
      let front : List Jump = take t.limit k.all in
      let (ys, p) = put_some Before before_compare j (drop t.limit k.all) in
      let whole : Put Before j k.all (take t.limit k.all ++ ys) =
      subst (λ xs. Put Before j xs (take t.limit k.all ++ ys)) all_split
      (put_after Before (take t.limit k.all)
      (λ a m. let (i, st) = at_mem (take t.limit k.all) a m in past.1 i a (subst (λ xs. StandsAt xs i a) (sym k.rows_are) st)) p) in
      let long : length (take t.limit k.all) ≡ t.limit = sym (ap length k.rows_are) ∙ rows_long ∙ past.0 in
      record {
        all = take t.limit k.all ++ ys;
        rising = put_rises Before before_onward whole k.rising;
        are = are_more (put_are Before whole) k.are;
        rows_are = ap (λ m. take m t'.rows.now) n ∙ ap (take t.len) r ∙ k.rows_are
            ∙ sym (ap (λ m. take m (take t.limit k.all ++ ys)) l ∙ take_at (take t.limit k.all) ys t.limit long);
        next = subst (λ m. At (take t.limit k.all ++ ys) m t'.beyond) (sym l) (put_next Before before_apart k.all t.limit p long t.beyond t'.beyond k.next s);
      }

  -- it belongs among the rows: where there is a row more, or where the last one gives way
  module _ (i : ℕ) (new : New t j i) where
    abbrev all' : List Jump
    all' = insert k.all i j

    place_low : i ≤ t.len
    place_low = let w = new.0.within in omega (arith, rows_long)

    front_is : take i k.all ≡ take i (take t.len t.rows.now)
    front_is = let h = place_low in let f = t.few in sym (take-take i t.limit k.all (omega arith)) ∙ ap (take i) (sym k.rows_are)

    belongs : i < t.limit → (back : List Jump) → drop i k.all ≡ back → Put Before j back (j ∷ back)
    belongs h [] e = end
    belongs h (x ∷ back) e =
        let at : StandsAt (take t.len t.rows.now) i x =
        subst (λ xs. StandsAt xs i x) (sym k.rows_are) (take_stands t.limit k.all i x (drop_head k.all i x back e) h) in
        ⊎_elim here
        (λ c. ⊎_elim (λ q. absurd (new.1 i (subst (StandsAt (take t.len t.rows.now) i) (sym q) at))) (λ b. absurd (new.0.rest i x (omega arith) at b)) c)
        (before_compare j x)

    whole : i < t.limit → Put Before j k.all (insert k.all i j)
    whole h =
        subst (λ xs. Put Before j xs (insert k.all i j)) (take-append-drop i k.all)
        (put_after Before (take i k.all)
        (λ a m. let (n, st) = at_mem (take i (take t.len t.rows.now)) a (subst (Memᴰ a) front_is m) in
        let (r, b) = stands_take i (take t.len t.rows.now) n a st in
        new.0.front n a b r) (belongs h (drop i k.all) refl))

    keeps_inserted : i < t.limit → (t' : JumpTable) → t'.limit ≡ t.limit
        → take t'.len t'.rows.now ≡ take t.limit (insert k.all i j) → At (insert k.all i j) t.limit t'.beyond → Keeps (j ∷ found) t'
    keeps_inserted h t' l rows_are next =
        record {
          all = insert k.all i j;
          rising = put_rises Before before_onward (whole h) k.rising;
          are = are_more (put_are Before (whole h)) k.are;
          rows_are = rows_are ∙ ap (λ m. take m (insert k.all i j)) (sym l);
          next = subst (λ m. At (insert k.all i j) m t'.beyond) (sym l) next;
        }

    -- a row more
    pub keeps_row : (t' : JumpTable) → t.len < t.limit → t'.limit ≡ t.limit → t'.len ≡ t.len + 1
        → length t'.rows.now ≡ length t.rows.now → take (t.len + 1) t'.rows.now ≡ insert (take t.len t.rows.now) i j → t'.beyond ≡ t.beyond → Keeps (j ∷ found) t'
    keeps_row t' room l n same r b =
        let low = place_low in let lim = t.limited in
        let short : length k.all ≡ t.len = (let a = ap length k.rows_are in let c = length-take t.limit k.all in let d = rows_long in omega arith) in
        let all-is : k.all ≡ take t.len t.rows.now = sym (k.rows_are ∙ take_all t.limit k.all (omega arith)) in
        let one_more : length (insert k.all i j) ≡ length k.all + 1 = length-insert k.all i j (omega arith) in
        keeps_inserted (omega arith) t' l
        (ap (λ m. take m t'.rows.now) n ∙ r
        ∙ ap (λ xs. insert xs i j) (sym all-is) ∙ sym (take_all t.limit (insert k.all i j) (omega arith)))
        (subst (At (insert k.all i j) t.limit) (sym b) (still_past t.beyond k.next (omega arith) (omega arith)))
      where
        still_past : (o : Option Jump) → At k.all t.limit o → length k.all < t.limit → length (insert k.all i j) ≤ t.limit → At (insert k.all i j) t.limit o
        still_past None a h m = m
        still_past (Some x) a h m = let q = stands_below k.all t.limit x a in absurd (omega arith)

    -- the last row gives way
    pub keeps_full : (t' : JumpTable) (last : Jump) → t.len ≡ t.limit → i < t.limit → t'.limit ≡ t.limit → t'.len ≡ t.len
        → length t'.rows.now ≡ length t.rows.now → take ((t.len - 1) + 1) t'.rows.now ≡ insert (take (t.len - 1) t.rows.now) i j
        → StandsAt t.rows.now (t.len - 1) last → t'.beyond ≡ Some last → Keeps (j ∷ found) t'
    keeps_full t' last full h l n same r at b =
        let lim = t.limited in
        let size : t.limit ≡ suc (t.len - 1) = omega arith in
        let low-all : take (t.len - 1) k.all ≡ take (t.len - 1) t.rows.now =
        sym (take-take (t.len - 1) t.limit k.all (omega arith)) ∙ ap (take (t.len - 1)) (sym k.rows_are) ∙ take-take (t.len - 1) t.len t.rows.now (omega arith) in
        let last-all : StandsAt k.all (t.len - 1) last =
        (stands_take t.limit k.all (t.len - 1) last (subst (λ xs. StandsAt xs (t.len - 1) last) k.rows_are (take_stands t.len t.rows.now (t.len - 1) last at (omega arith)))).0 in
        let count : t'.len ≡ (t.len - 1) + 1 = omega arith in
        keeps_inserted h t' l
        (ap (λ m. take m t'.rows.now) count ∙ r
        ∙ ap (λ xs. insert xs i j) (sym low-all) ∙ sym (take_inserted k.all i (t.len - 1) j (omega arith)) ∙ ap (λ m. take m (insert k.all i j)) (sym size))
        (subst (At (insert k.all i j) t.limit) (sym b) (subst (λ m. StandsAt (insert k.all i j) m last) (sym size) (stands_inserted k.all i (t.len - 1) j last (omega arith) last-all)))

-- ── the rows in use are in order ──

pub rows_in_order : (t : JumpTable) (n : ℕ) → n ≡ t.len → ((found : List Jump) × Keeps found t) → InOrder Before (take n t.rows.now)
rows_in_order t n e (found, k) a b x y h p q =
    let row : (i : ℕ) (z : Jump) → StandsAt (take n t.rows.now) i z → StandsAt k.all i z = λ i z s.
    (stands_take t.limit k.all i z (subst (λ l. StandsAt l i z) (ap (λ m. take m t.rows.now) e ∙ k.rows_are) s)).0 in
    k.rising a b x y h (row a x p) (row b y q)

-- ── where a jump belongs ──

module _ (t : JumpTable) (j : Jump) (i : ℕ) (place : PlaceOf Before (take t.len t.rows.now) j i) where
  long : length (take t.len t.rows.now) ≡ t.len
  long = let f = t.few in let l = t.limited in length-take-le t.len t.rows.now (omega arith)

  -- at the limit, all rows come before it
  pub past_rows : i ≡ t.limit → PastRows t j
  past_rows e =
      let f = t.few in let w = place.within in
      (omega (arith, long), (λ n r s. place.front n r (let l = stands_below (take t.len t.rows.now) n r s in omega (arith, long)) s))
