-- The closure and goto, as lists, have just the members that their definitions say.
use Rattle.std.proofs.Common.{◌≡◌, ℕ, suc, ◌<◌, true, false, ◌↔◌, List, [], ◌∷◌, length, sym, refl, ap, ◌∙◌, subst, arith, eq-eqb, eqb-true}
use mathlib.Core.Option.{Option, none, some}
use mathlib.Core.List.Memᴰ
use mathlib.Core.List.{Memᴰ}
use lib.ListN.{get_elem?}
use Rattle.book.specs.Grammar.{Grammar}
use Rattle.finding.specs.Numbered.{upto}
use Rattle.finding.proofs.Laws.{upto_has, upto_below, upto_ascending}
use Rattle.table.proofs.Lists.{stands_below}
use Rattle.table.proofs.Orders.{ascending_same}
use Rattle.table.specs.Lists.{Ascending}
use Rattle.theory.specs.Lists.{and, keep, Reach}
use Rattle.theory.specs.Lists.Reach.{base, step}
use Rattle.theory.specs.Items.{Item, item, items, item_count, Dotted}
use Rattle.theory.specs.Closure.{Closed, begins_with, is_empty, follows, opens, closure, carried, goto, Carried}
use Rattle.theory.specs.Closure.Closed.{kernel, opened}
use Rattle.theory.proofs.Lists.{and_only, some_one, none_some, keep_mem, mem_keep}
use Rattle.theory.proofs.Saturated.{saturated, saturate_ascending}
use Rattle.theory.proofs.Items.{items_length, dotted_below}

-- ── the tests ──

module _ (all : List Item) where
  follows_at : (x k : ℕ) {i : Item} → get_elem? all k ≡ some i → follows all x k ≡ begins_with x i.after
  follows_at x k e = rw (e, follows)

  follows_none : (x k : ℕ) → get_elem? all k ≡ none → follows all x k ≡ false
  follows_none x k e = rw (e, follows)

  opens_at : (j k : ℕ) {i : Item} → get_elem? all k ≡ some i → opens all j k ≡ and (is_empty i.before) (follows all i.left j)
  opens_at j k e = rw (e, opens)

  opens_none : (j k : ℕ) → get_elem? all k ≡ none → opens all j k ≡ false
  opens_none j k e = rw (e, opens)

  pub follows_is : (x k a : ℕ) (l r : List ℕ) → get_elem? all k ≡ some (item a l (x ∷ r)) → follows all x k ≡ true
  follows_is x k a l r e = follows_at x k e ∙ eq-eqb x x refl

  pub record Follows (x k : ℕ) : Type 0 where
    pub left : ℕ
    pub before : List ℕ
    pub after : List ℕ
    pub at : get_elem? all k ≡ some (item left before (x ∷ after))

  pub follows_only : (x k : ℕ) → follows all x k ≡ true → Follows x k
  follows_only x k h = cases (get_elem? all k) refl
    where
      starts : (i : Item) (r : List ℕ) → i.after ≡ r → get_elem? all k ≡ some i → begins_with x r ≡ true → Follows x k
      starts i [] q e b = absurd (cc)
      starts i (y ∷ r) q e b =
          let p : x ≡ y = eqb-true x y b in
          record { left = i.left; before = i.before; after = r; at = e ∙ ap (λ s. some (item i.left i.before s)) (q ∙ ap (λ z. z ∷ r) (sym p)) }

      cases : (o : Option Item) → get_elem? all k ≡ o → Follows x k
      cases none e = let f = follows_none x k e in absurd (cc)
      cases (some i) e = starts i i.after refl e (sym (follows_at x k e) ∙ h)

  opens_is : (j k a c : ℕ) (l r s : List ℕ) → get_elem? all j ≡ some (item a l (c ∷ r)) → get_elem? all k ≡ some (item c [] s) → opens all j k ≡ true
  opens_is j k a c l r s d e = opens_at j k e ∙ follows_is c j a l r d

  record Opens (j k : ℕ) : Type 0 where
    name : ℕ
    side : List ℕ
    first : get_elem? all k ≡ some (item name [] side)
    after : Follows name j

  opens_only : (j k : ℕ) → opens all j k ≡ true → Opens j k
  opens_only j k h = cases (get_elem? all k) refl
    where
      starts : (i : Item) (l : List ℕ) → i.before ≡ l → get_elem? all k ≡ some i → is_empty l ≡ true → follows all i.left j ≡ true → Opens j k
      starts i [] q e b f = record { name = i.left; side = i.after; first = e ∙ ap (λ l. some (item i.left l i.after)) q; after = follows_only i.left j f }
      starts i (y ∷ l) q e b f = absurd (cc)

      cases : (o : Option Item) → get_elem? all k ≡ o → Opens j k
      cases none e = let f = opens_none j k e in absurd (cc)
      cases (some i) e = let (b, f) = and_only (is_empty i.before) (follows all i.left j) (sym (opens_at j k e) ∙ h) in starts i i.before refl e b f

-- ── the closure ──

module _ (g : Grammar) where
  below_upto : (k : ℕ) → k < item_count g → Memᴰ k (upto (length (items g)))
  below_upto k h = upto_has (length (items g)) _ (let n = items_length g in omega arith)

  reach_closed : {K : List ℕ} {k : ℕ} → Reach (upto (length (items g))) (opens (items g)) K k → Closed g K k
  reach_closed (base u m) = kernel m (let h = upto_below (length (items g)) _ u in let n = items_length g in omega arith)
  reach_closed (step {j = j} {k = k} r u e) = let o = opens_only (items g) j k e in opened (reach_closed r) o.after.at o.first

  closed_reach : {K : List ℕ} {k : ℕ} → Closed g K k → Reach (upto (length (items g))) (opens (items g)) K k
  closed_reach (kernel {k = k} m h) = base (below_upto k h) m
  closed_reach (opened {j = j} {k = k} {a = a} {c = c} {l = l} {r = r} {s = s} i d e) =
      step (closed_reach i) (below_upto k (dotted_below g k e)) (opens_is (items g) j k a c l r s d e)

  inside : (j k : ℕ) → opens (items g) j k ≡ true → Memᴰ j (upto (length (items g)))
  inside j k e = let o = opens_only (items g) j k e in upto_has (length (items g)) _ (stands_below (items g) j _ o.after.at)

  -- the closure has just the closed items
  pub closure_members : (K : List ℕ) (k : ℕ) → Memᴰ k (closure g K) ↔ Closed g K k
  closure_members K k =
      let s = saturated (upto (length (items g))) (opens (items g)) inside K k in
      ((λ m. reach_closed (s.0 m)), (λ c. s.1 (closed_reach c)))

  pub closure_ascending : (K : List ℕ) → Ascending (closure g K)
  closure_ascending K = saturate_ascending (upto (length (items g))) (opens (items g)) K (upto_ascending (length (items g)))

  -- an ascending list of just the closed items is the closure
  pub closure_unique : (K set : List ℕ) → Ascending set → ((k : ℕ) → Memᴰ k set ↔ Closed g K k) → set ≡ closure g K
  closure_unique K set h m =
      ascending_same set (closure g K) h (closure_ascending K) (λ k i. (closure_members K k).1 ((m k).0 i)) (λ k i. (m k).1 ((closure_members K k).0 i))

  pub closed_map : {K L : List ℕ} → ((k : ℕ) → Memᴰ k K → Memᴰ k L) → {k : ℕ} → Closed g K k → Closed g L k
  closed_map f (kernel m h) = kernel (f _ m) h
  closed_map f (opened c d e) = opened (closed_map f c) d e

  -- the same kernel has the same closure
  pub closure_same : (K L : List ℕ) → ((k : ℕ) → Memᴰ k K ↔ Memᴰ k L) → closure g K ≡ closure g L
  closure_same K L s =
      closure_unique L (closure g K) (closure_ascending K)
      (λ k. ((λ m. closed_map (λ j i. (s j).0 i) ((closure_members K k).0 m)), (λ c. (closure_members K k).1 (closed_map (λ j i. (s j).1 i) c))))

  -- a set between the kernel and the closure that nothing opens further is the closure
  pub closure_from_closed : (K set : List ℕ) → Ascending set → ((k : ℕ) → Memᴰ k K → k < item_count g → Memᴰ k set) → ((k : ℕ) → Memᴰ k set → Closed g K k)
      → ((j k a c : ℕ) (l r s : List ℕ) → Memᴰ j set → Dotted g j a l (c ∷ r) → Dotted g k c [] s → Memᴰ k set) → set ≡ closure g K
  closure_from_closed K set h start within open_in = closure_unique K set h (λ k. (within k, holds))
    where
      holds : {k : ℕ} → Closed g K k → Memᴰ k set
      holds (kernel {k = k} m b) = start k m b
      holds (opened {j = j} {k = k} {a = a} {c = c} {l = l} {r = r} {s = s} i d e) = open_in j k a c l r s (holds i) d e

  -- ── goto ──

  pub carried_members : (set : List ℕ) (x k : ℕ) → Memᴰ k (carried (items g) set x) ↔ Carried g set x k
  carried_members set x k = (
    (λ m. let (j, i, e) = Memᴰ.of_map suc (keep (follows (items g) x) set) m in
        let (w, t) = keep_mem (follows (items g) x) set i in
        let f = follows_only (items g) x j t in
        record { from = j; member = w; left = f.left; before = f.before; after = f.after; item = f.at; number = sym e }),
    (λ (c : Carried g set x k).
        subst (λ n. Memᴰ n (carried (items g) set x)) (sym c.number)
        (Memᴰ.map suc (mem_keep (follows (items g) x) set c.member (follows_is (items g) x c.from c.left c.before c.after c.item)))),
  )

  goto_nil : (set : List ℕ) (x : ℕ) → carried (items g) set x ≡ [] → goto g set x ≡ none
  goto_nil set x e = rw (e, goto)

  goto_cons : (set : List ℕ) (x k : ℕ) (ks : List ℕ) → carried (items g) set x ≡ k ∷ ks → goto g set x ≡ some (closure g (k ∷ ks))
  goto_cons set x k ks e = rw (e, goto)

  -- where an item moves on x, the set moves to the closure of the carried items
  pub goto_carried : (set : List ℕ) (x : ℕ) {k : ℕ} → Carried g set x k → goto g set x ≡ some (closure g (carried (items g) set x))
  goto_carried set x {k} c = cases (carried (items g) set x) refl
    where
      cases : (ks : List ℕ) → carried (items g) set x ≡ ks → goto g set x ≡ some (closure g (carried (items g) set x))
      cases [] e = absurd (Memᴰ.not-nil (subst (Memᴰ k) e ((carried_members set x k).1 c)))
      cases (j ∷ ks) e = goto_cons set x j ks e ∙ ap (λ l. some (closure g l)) (sym e)

  pub goto_none : (set : List ℕ) (x : ℕ) → ((k : ℕ) → Carried g set x k → ⊥) → goto g set x ≡ none
  goto_none set x h = cases (carried (items g) set x) refl
    where
      cases : (ks : List ℕ) → carried (items g) set x ≡ ks → goto g set x ≡ none
      cases [] e = goto_nil set x e
      cases (j ∷ ks) e = absurd (h j ((carried_members set x j).0 (subst (Memᴰ j) (sym e) (Memᴰ.head refl))))

  pub record Reached (set : List ℕ) (x : ℕ) (to : List ℕ) : Type 0 where
    pub number : ℕ
    pub by : Carried g set x number
    pub is : to ≡ closure g (carried (items g) set x)

  pub goto_only : (set : List ℕ) (x : ℕ) {to : List ℕ} → goto g set x ≡ some to → Reached set x to
  goto_only set x {to} h = cases (carried (items g) set x) refl
    where
      cases : (ks : List ℕ) → carried (items g) set x ≡ ks → Reached set x to
      cases [] e = absurd (none_some (goto_nil set x e) h)
      cases (j ∷ ks) e =
          record {
            number = j;
            by = (carried_members set x j).0 (subst (Memᴰ j) (sym e) (Memᴰ.head refl));
            is = some_one h (goto_cons set x j ks e) ∙ ap (closure g) (sym e);
          }

  -- any list of just the carried items has the closure that the set moves to
  pub goto_is : (set : List ℕ) (x : ℕ) (K : List ℕ) {k : ℕ} → Memᴰ k K → ((j : ℕ) → Memᴰ j K ↔ Carried g set x j) → goto g set x ≡ some (closure g K)
  goto_is set x K {k} m s =
      goto_carried set x ((s k).0 m)
      ∙ ap some (closure_same (carried (items g) set x) K (λ j. ((λ i. (s j).1 ((carried_members set x j).0 i)), (λ i. (carried_members set x j).1 ((s j).0 i)))))
