-- What both takes: pairs of classes, and their halves below.
use Rattle.std.proofs.Common.{◌≡◌, ℕ, ◌≤◌, List, [], ◌∷◌, ◌++◌, map, length, Some, None, Option, sym, refl, ap, ◌∙◌, subst, arith}
use Rattle.std.proofs.lemmas.List.{length-map, map_push}
use Rattle.table.specs.Lists.{StandsAt, Lacks, Distinct}
use Rattle.table.specs.declared.numbers.ClassNo.{ClassNo}
use Rattle.table.proofs.Lists.{stands_below, stands_same, stands_is, stands_map, stands_unmap, distinct_one, distinct_push}
use Rattle.theory.specs.Policies.{Class, Meaning, left_class, right_class}
use Rattle.theory.specs.Policies.Class.{states, pair}
use Rattle.policy.specs.declared.stacks.Push.{Push}
use Rattle.policy.specs.Classes.{Room, HasRoom, after_push, Taken, class_at, HasPlace}
use Rattle.policy.specs.Classes.Taken.{old, new, unheld, no_place}
use Rattle.policy.specs.Places.{Placed}
use Rattle.policy.specs.Places.Placed.{old as p_old, new as p_new, full as p_full}
use Rattle.policy.proofs.Tracking.{Step, refused, entry_at, place_is, no_place_is, same_classes, tracks_more, tracks_first}
use Rattle.policies.specs.declared.both.Pair.{Pair}
use Rattle.policies.specs.Pairs.{pair_of, first_number, second_number, pair_class, pair_classes, pair_room, Paired}
use Rattle.policies.specs.Rooms.{PairFits, pair_fits, fits_pair}

pair_same : (r : Pair) (a b : ℕ) → first_number r ≡ a → second_number r ≡ b → r ≡ pair_of a b
pair_same r a b p q = ap (λ (x : ℕ). pair_of x (second_number r)) p ∙ ap (pair_of a) q

left_classes : (cs ds : List Class) (rs : List Pair) → map left_class (pair_classes cs ds rs) ≡ map (λ (r : Pair). class_at cs (first_number r)) rs
left_classes cs ds [] = refl
left_classes cs ds (r ∷ rs) = ap (λ (l : List Class). class_at cs (first_number r) ∷ l) (left_classes cs ds rs)

right_classes : (cs ds : List Class) (rs : List Pair) → map right_class (pair_classes cs ds rs) ≡ map (λ (r : Pair). class_at ds (second_number r)) rs
right_classes cs ds [] = refl
right_classes cs ds (r ∷ rs) = ap (λ (l : List Class). class_at ds (second_number r) ∷ l) (right_classes cs ds rs)

pub pairs_length : (cs ds : List Class) (rs : List Pair) → length (pair_classes cs ds rs) ≡ length rs
pairs_length cs ds rs = length-map rs (pair_class cs ds)

-- ── pairs held ──

module _ (cs ds : List Class) (rs : List Pair) (p : Paired cs ds rs) where
  -- the numbers of a pair of classes
  pub record Halves (k : ℕ) (c d : Class) : Type 0 where
    pub row : Pair
    pub row_at : StandsAt rs k row
    pub left_at : StandsAt cs (first_number row) c
    pub right_at : StandsAt ds (second_number row) d

  pub halves : (k : ℕ) (c d : Class) → StandsAt (pair_classes cs ds rs) k (pair c d) → Halves k c d
  halves k c d s =
      let (r, t, e) = stands_unmap (pair_class cs ds) rs k (pair c d) s in
      record {
        row = r;
        row_at = t;
        left_at = subst (StandsAt cs (first_number r)) (ap left_class e) (entry_at first_number cs rs p.left k r t);
        right_at = subst (StandsAt ds (second_number r)) (ap right_class e) (entry_at second_number ds rs p.right k r t);
      }

  pub pairs_distinct : Distinct cs → Distinct ds → Distinct (pair_classes cs ds rs)
  pairs_distinct dc dd j k x s t =
      let (r, u, e) = stands_unmap (pair_class cs ds) rs j x s in
      let (q, v, f) = stands_unmap (pair_class cs ds) rs k x t in
      let a : first_number r ≡ first_number q = dc (first_number r) (first_number q) (left_class x) (one_left j r u e) (one_left k q v f) in
      let b : second_number r ≡ second_number q = dd (second_number r) (second_number q) (right_class x) (one_right j r u e) (one_right k q v f) in
      p.distinct j k q (subst (StandsAt rs j) (pair_same r (first_number q) (second_number q) a b) u) v
    where
      one_left : (k : ℕ) (r : Pair) → StandsAt rs k r → {x : Class} → pair_class cs ds r ≡ x → StandsAt cs (first_number r) (left_class x)
      one_left k r u e = subst (StandsAt cs (first_number r)) (ap left_class e) (entry_at first_number cs rs p.left k r u)

      one_right : (k : ℕ) (r : Pair) → StandsAt rs k r → {x : Class} → pair_class cs ds r ≡ x → StandsAt ds (second_number r) (right_class x)
      one_right k r u e = subst (StandsAt ds (second_number r)) (ap right_class e) (entry_at second_number ds rs p.right k r u)

-- ── the pair after the one at hand ──

-- a policy below: which class has a place, the class after, and the classes held
pub record Below : Type 0 where
  pub room : Room
  pub onward : Class → Class
  pub held : List Class
  pub distinct : Distinct held

-- the one that a push asks of a policy
abbrev pub below : Room → Meaning → Push → (held : List Class) → Distinct held → Below
below room meaning push held distinct = record { room = room; onward = after_push meaning push; held = held; distinct = distinct }

module _ (P Q : Below) (rs : List Pair) (p : Paired P.held Q.held rs) (i : ℕ) where
  abbrev cs : List Class
  cs = P.held

  abbrev ds : List Class
  ds = Q.held

  abbrev next_left : Class → Class
  next_left = P.onward

  abbrev next_right : Class → Class
  next_right = Q.onward

  abbrev room : Room
  room = pair_room P.room Q.room

  abbrev held : List Class
  held = pair_classes cs ds rs

  abbrev onward : Class → Class
  onward x = pair (next_left (left_class x)) (next_right (right_class x))

  pub past : length rs ≤ i → Taken room held onward i None held
  past h = unheld (omega (arith, pairs_length cs ds rs))

  module _ (r : Pair) (at : StandsAt rs i r) where
    abbrev c : Class
    c = class_at cs (first_number r)

    abbrev d : Class
    d = class_at ds (second_number r)

    here : StandsAt held i (pair c d)
    here = stands_map (pair_class cs ds) rs i r at

    pub at_left : StandsAt cs (first_number r) c
    at_left = entry_at first_number cs rs p.left i r at

    pub at_right : StandsAt ds (second_number r) d
    at_right = entry_at second_number ds rs p.right i r at

    -- what it takes that the pair has a place
    fits : HasRoom room held (pair (next_left c) (next_right d)) → PairFits P.room Q.room held (pair (next_left c) (next_right d))
    fits = pair_fits P.room Q.room held (pair (next_left c) (next_right d))

    -- a half that does not fit
    pub left_refused : {cs' : List Class} → Taken P.room cs next_left (first_number r) None cs' → Taken room held onward i None held
    left_refused t =
        let (l, f, e) = refused P.room cs next_left (first_number r) P.distinct at_left t in
        no_place (pair c d) here (λ k s. let h = halves cs ds rs p k (next_left c) (next_right d) s in l (first_number h.row) h.left_at)
        (λ m. no_place_is first_number cs rs p.left P.room l f (subst (λ (x : List Class). HasPlace P.room x (next_left c)) (left_classes cs ds rs) (fits m).1))

    pub right_refused : {ds' : List Class} → Taken Q.room ds next_right (second_number r) None ds' → Taken room held onward i None held
    right_refused t =
        let (l, f, e) = refused Q.room ds next_right (second_number r) Q.distinct at_right t in
        no_place (pair c d) here (λ k s. let h = halves cs ds rs p k (next_left c) (next_right d) s in l (second_number h.row) h.right_at)
        (λ m. no_place_is second_number ds rs p.right Q.room l f (subst (λ (x : List Class). HasPlace Q.room x (next_right d)) (right_classes cs ds rs) (fits m).2))

    -- the pair is new and has a place
    abbrev pub Fresh : Type 0
    Fresh = Lacks held (pair (next_left c) (next_right d)) × HasRoom room held (pair (next_left c) (next_right d))

    pub fresh : {j : ClassNo} {h : List Class} → Taken room held onward i (Some j) h → length held ≤ j.0 → Fresh
    fresh {j = j} (old x s t) b = let l = stands_below held j.0 (onward x) t in absurd (omega arith)
    fresh (new x s l f e) b =
        let q : onward x ≡ onward (pair c d) = ap onward (stands_same held i x (pair c d) s here) in
        (subst (Lacks held) q l, subst (HasRoom room held) q f)

    -- then the second half does not refuse
    pub right_fits : Fresh → {ds' : List Class} → Taken Q.room ds next_right (second_number r) None ds' → ⊥
    right_fits f t =
        let (l, n, e) = refused Q.room ds next_right (second_number r) Q.distinct at_right t in
        no_place_is second_number ds rs p.right Q.room l n (subst (λ (x : List Class). HasPlace Q.room x (next_right d)) (right_classes cs ds rs) (fits f.1).2)

    module _ (a b : ClassNo) {cs' ds' : List Class} (s : Step P.room cs (next_left c) a.0 cs') (t : Step Q.room ds (next_right d) b.0 ds') where
      abbrev made : Pair
      made = pair_of a.0 b.0

      -- the row of the pair is only this
      lacks : Lacks rs made → Lacks held (pair (next_left c) (next_right d))
      lacks l k u =
          let h = halves cs ds rs p k (next_left c) (next_right d) u in
          l k (subst (StandsAt rs k) (pair_same h.row a.0 b.0 (s.only (first_number h.row) h.left_at) (t.only (second_number h.row) h.right_at)) h.row_at)

      -- a row of these numbers stands for the pair
      stands : (j : ℕ) → StandsAt rs j made → StandsAt held j (pair (next_left c) (next_right d))
      stands j u =
          let x : class_at cs a.0 ≡ next_left c = stands_is cs a.0 (next_left c) (states []) (s.was (p.left.below j made u)) in
          let y : class_at ds b.0 ≡ next_right d = stands_is ds b.0 (next_right d) (states []) (t.was (p.right.below j made u)) in
          subst (StandsAt held j) (ap (λ (z : Class). pair z (class_at ds b.0)) x ∙ ap (pair (next_left c)) y) (stands_map (pair_class cs ds) rs j made u)

      pub fitting : {no : Option ClassNo} {rs' : List Pair} → Placed rs made no rs' → (h : List Class) × Taken room held onward i no h
      fitting (p_old {j = j} u) = (_, old (pair c d) here (stands j.0 u))
      fitting (p_new e l f) =
          let n = pairs_length cs ds rs in
          let free : PairFits P.room Q.room held (pair (next_left c) (next_right d)) = (
            omega arith,
            subst (λ (x : List Class). HasPlace P.room x (next_left c)) (sym (left_classes cs ds rs)) (place_is first_number cs rs p.left P.room s.fits),
            subst (λ (x : List Class). HasPlace Q.room x (next_right d)) (sym (right_classes cs ds rs)) (place_is second_number ds rs p.right Q.room t.fits),
          ) in
          (_, new (pair c d) here (lacks l) (fits_pair P.room Q.room held (pair (next_left c) (next_right d)) free) (e ∙ sym n))
      fitting (p_full l f) = (_, no_place (pair c d) here (lacks l) (λ m. omega (arith, (fits m).0, pairs_length cs ds rs)))

      -- the pairs held keep their classes as the halves are taken
      same_pairs : pair_classes cs' ds' rs ≡ held
      same_pairs = both_same rs (same_classes first_number cs rs p.left s) (same_classes second_number ds rs p.right t)
        where
          both_same : (rs : List Pair) → map (λ (r : Pair). class_at cs' (first_number r)) rs ≡ map (λ (r : Pair). class_at cs (first_number r)) rs
              → map (λ (r : Pair). class_at ds' (second_number r)) rs ≡ map (λ (r : Pair). class_at ds (second_number r)) rs → pair_classes cs' ds' rs ≡ pair_classes cs ds rs
          both_same [] f g = refl
          both_same (r ∷ rs) f g =
              let x : class_at cs' (first_number r) ≡ class_at cs (first_number r) = cc in
              let y : class_at ds' (second_number r) ≡ class_at ds (second_number r) = cc in
              let u : map (λ (r : Pair). class_at cs' (first_number r)) rs ≡ map (λ (r : Pair). class_at cs (first_number r)) rs = cc in
              let v : map (λ (r : Pair). class_at ds' (second_number r)) rs ≡ map (λ (r : Pair). class_at ds (second_number r)) rs = cc in
              let w = both_same rs u v in
              cc

      more_pairs : pair_classes cs' ds' (rs ++ (made ∷ [])) ≡ held ++ (pair (next_left c) (next_right d) ∷ [])
      more_pairs =
          let x : class_at cs' a.0 ≡ next_left c = stands_is cs' a.0 (next_left c) (states []) s.now_at in
          let y : class_at ds' b.0 ≡ next_right d = stands_is ds' b.0 (next_right d) (states []) t.now_at in
          map_push (pair_class cs' ds') rs made ∙ ap (λ (l : List Class). l ++ (pair_class cs' ds' made ∷ [])) same_pairs
          ∙ ap (λ (z : Class). held ++ (pair z (class_at ds' b.0) ∷ [])) x ∙ ap (λ (z : Class). held ++ (pair (next_left c) z ∷ [])) y

      module _ (f : Fresh) where
        pub taken : {no : Option ClassNo} {rs' : List Pair} → Placed rs made no rs' → Taken room held onward i no (pair_classes cs' ds' rs')
        taken (p_old {j = j} u) = absurd (f.0 j.0 (stands j.0 u))
        taken (p_new {j = j} e l h) =
            subst (Taken room held onward i (Some j)) (sym more_pairs)
            (new (pair c d) here f.0 f.1 (e ∙ sym (pairs_length cs ds rs)))
        taken (p_full l h) = absurd (omega (arith, (fits f.1).0, pairs_length cs ds rs))

        pub paired : {no : Option ClassNo} {rs' : List Pair} → Placed rs made no rs' → Paired cs' ds' rs'
        paired (p_old {j = j} u) = absurd (f.0 j.0 (stands j.0 u))
        paired (p_new e l h) =
            record {
              left = tracks_more first_number cs rs p.left s made refl;
              right = tracks_more second_number ds rs p.right t made refl;
              distinct = distinct_push rs made p.distinct l;
            }
        paired (p_full l h) = absurd (omega (arith, (fits f.1).0, pairs_length cs ds rs))

-- the empty stack's pair
paired_first : (c d : Class) → Paired (c ∷ []) (d ∷ []) (pair_of 0 0 ∷ [])
paired_first c d =
    record { left = tracks_first first_number c (pair_of 0 0) refl; right = tracks_first second_number d (pair_of 0 0) refl; distinct = distinct_one (pair_of 0 0) }

module _ {cs ds : List Class} {rs : List Pair} {c d : Class} (e : cs ≡ c ∷ []) (f : ds ≡ d ∷ []) (g : rs ≡ pair_of 0 0 ∷ []) where
  pub paired_at_first : Paired cs ds rs
  paired_at_first =
      subst (λ (l : List Class). Paired l ds rs) (sym e) (subst (λ (l : List Class). Paired (c ∷ []) l rs) (sym f) (subst (Paired (c ∷ []) (d ∷ [])) (sym g) (paired_first c d)))

  pub pairs_at_first : pair_classes cs ds rs ≡ pair c d ∷ []
  pairs_at_first = ap (λ (l : List Class). pair_classes l ds rs) e ∙ ap (λ (l : List Class). pair_classes (c ∷ []) l rs) f ∙ ap (pair_classes (c ∷ []) (d ∷ [])) g
