-- The finding order, computed, is the finding order as a relation.
use Rattle.std.proofs.Common.{◌≡◌, ℕ, zero, suc, ◌+◌, Bool, true, false, ◌≢◌, ◌⊎◌, List, [], ◌∷◌, ◌++◌, length, sym, refl, ap, ◌∙◌, subst, inl, inr, ⊎_elim, append_assoc, append-nil, arith}
use Rattle.std.proofs.lemmas.Bool.{cases_Bool}
use mathlib.Core.Option.{Option, none, some}
use mathlib.Core.List.Memᴰ
use mathlib.Core.List.{Memᴰ}
use lib.ListN.{get_elem?}
use Rattle.finding.specs.Numbered.{Arrow, Firsts, all, targets, Row, Rows, Numbered}
use Rattle.finding.specs.Numbered.Firsts.{nil, old, new}
use Rattle.finding.specs.Numbered.Row.{end as row_end, pass, go}
use Rattle.finding.specs.Numbered.Rows.{end as rows_end, row}
use Rattle.table.proofs.Lists.{stands_left}
use Rattle.theory.specs.Executable.{Search, search_of, Placed, placed, place, scan, visit, numbered}
use Rattle.std.proofs.lemmas.List.{length_push}
use Rattle.theory.proofs.Lists.{some_one, none_some, at_right}

firsts_append : {A : Type 0} {seen xs ns : List A} → Firsts seen xs ns → {ys ms : List A} → Firsts (seen ++ ns) ys ms → Firsts seen (xs ++ ys) (ns ++ ms)
firsts_append {seen = seen} nil {ys} {ms} f = subst (λ l. Firsts l ys ms) (append-nil seen) f
firsts_append (old h g) f = old h (firsts_append g f)
firsts_append {seen = seen} (new {t = t} {ns = ns} h g) {ys} {ms} f = new h (firsts_append g (subst (λ l. Firsts l ys ms) (sym (append_assoc seen (t ∷ []) ns)) f))

row_more : {A : Type 0} {es : List A} {step : ℕ → Option A} {i : ℕ} {xs : List ℕ} {ms : List Arrow} → Row es step i xs ms → (more : List A) → Row (es ++ more) step i xs ms
row_more row_end more = row_end
row_more (pass h r) more = pass h (row_more r more)
row_more {es = es} (go {j = j} t h l r) more = go t h (stands_left es more _ j l) (row_more r more)

-- each entry but the first is a target of an earlier one
abbrev Earlier : {A : Type 0} → (A → List A) → List A → Type 0
Earlier {A} f es = (before after : List A) (e : A) → es ≡ before ++ (e ∷ after) → before ≢ [] → Memᴰ e (all f before)

all_mem : {A B : Type 0} (f : A → List B) (xs : List A) {a : A} {b : B} → Memᴰ a xs → Memᴰ b (f a) → Memᴰ b (all f xs)
all_mem f [] m i = absurd (Memᴰ.not-nil m)
all_mem f (x ∷ xs) {a} {b} m i =
    ⊎_elim (λ e. Memᴰ.append_left (all f xs) (subst (λ y. Memᴰ b (f y)) e i)) (λ k. Memᴰ.append_right (f x) (all_mem f xs k i)) (Memᴰ.cases_cons m)

-- where a cut of a longer list lies: inside the front, or past all of it
data Cut {A : Type 0} (front back before after : List A) (e : A) : Type 0 where
  inside : (rest : List A) → front ≡ before ++ (e ∷ rest) → Cut front back before after e
  beyond : (Some-of : List A) → before ≡ front ++ Some-of → Memᴰ e back → Cut front back before after e

cut : {A : Type 0} (front back before after : List A) (e : A) → front ++ back ≡ before ++ (e ∷ after) → Cut front back before after e
cut [] back before after e q = beyond before refl (subst (Memᴰ e) (sym q) (Memᴰ.append_right before (Memᴰ.head refl)))
cut (f ∷ front) back [] after e q = let h : f ≡ e = cc in inside front (ap (λ x. x ∷ front) h)
cut (f ∷ front) back (b ∷ before) after e q =
    let h : f ≡ b = cc in
    let r : front ++ back ≡ before ++ (e ∷ after) = cc in
    push h (cut front back before after e r)
  where
    push : f ≡ b → Cut front back before after e → Cut (f ∷ front) back (b ∷ before) after e
    push h (inside rest k) = inside rest (λ i. h i ∷ k i)
    push h (beyond more k m) = beyond more (λ i. sym h i ∷ k i) m

earlier_more : {A : Type 0} (f : A → List A) (es more : List A) (a : A) → Memᴰ a es → ((e : A) → Memᴰ e more → Memᴰ e (f a)) → Earlier f es → Earlier f (es ++ more)
earlier_more f es more a m h k before after e q ne = cases (cut es more before after e q)
  where
    cases : Cut es more before after e → Memᴰ e (all f before)
    cases (inside rest r) = k before rest e r ne
    cases (beyond front r i) = all_mem f before (subst (Memᴰ a) (sym r) (Memᴰ.append_left front m)) (h e i)

firsts_from : {A : Type 0} {seen ts ns : List A} → Firsts seen ts ns → {e : A} → Memᴰ e ns → Memᴰ e ts
firsts_from nil m = absurd (Memᴰ.not-nil m)
firsts_from (old h f) m = Memᴰ.tail (firsts_from f m)
firsts_from (new h f) m = ⊎_elim Memᴰ.head (λ k. Memᴰ.tail (firsts_from f k)) (Memᴰ.cases_cons m)

-- a test that tells equal entries from others
pub record Tells {A : Type 0} (equal : A → A → Bool) : Type 0 where
  pub yes_if : (x y : A) → equal x y ≡ true → x ≡ y
  pub no_if : (x y : A) → equal x y ≡ false → x ≡ y → ⊥

module _ {A : Type 0} {equal : A → A → Bool} (tells : Tells equal) (step : A → ℕ → Option A) (on : List ℕ) where
  abbrev at : A → ℕ → List A → Placed A
  at = place equal step on

  -- ── placing one entry ──

  data Put (t : A) (j : ℕ) (es : List A) (p : Placed A) : Type 0 where
    held : Memᴰ t es → p.entries ≡ es → (k : ℕ) → p.number ≡ j + k → get_elem? es k ≡ some t → Put t j es p
    added : (Memᴰ t es → ⊥) → p.entries ≡ es ++ (t ∷ []) → p.number ≡ j + length es → Put t j es p

  put : (t : A) (j : ℕ) (es : List A) → Put t j es (at t j es)
  put t j [] = added Memᴰ.not-nil refl (omega arith)
  put t j (e ∷ es) = cases (put t (j + 1) es) (cases_Bool (equal t e))
    where
      hit : equal t e ≡ true → at t j (e ∷ es) ≡ placed j (e ∷ es)
      hit h = rw (h, place)

      miss : equal t e ≡ false → at t j (e ∷ es) ≡ placed (at t (j + 1) es).number (e ∷ (at t (j + 1) es).entries)
      miss h = rw (h, place)

      later : equal t e ≡ false → Put t (j + 1) es (at t (j + 1) es) → Put t j (e ∷ es) (placed (at t (j + 1) es).number (e ∷ (at t (j + 1) es).entries))
      later h (held m q k n g) = held (Memᴰ.tail m) (ap (λ l. e ∷ l) q) (suc k) (omega arith) g
      later h (added m q n) =
          added (λ i. ⊎_elim (λ d. tells.no_if t e h d) m (Memᴰ.cases_cons i)) (ap (λ l. e ∷ l) q) (omega arith)

      cases : Put t (j + 1) es (at t (j + 1) es) → (equal t e ≡ true) ⊎ (equal t e ≡ false) → Put t j (e ∷ es) (at t j (e ∷ es))
      cases p (inl h) =
          let d : t ≡ e = tells.yes_if t e h in
          subst (Put t j (e ∷ es)) (sym (hit h)) (held (Memᴰ.head d) refl 0 (omega arith) (ap some (sym d)))
      cases p (inr h) = subst (Put t j (e ∷ es)) (sym (miss h)) (later h p)

  -- ── the moves of one entry ──

  record Scanned (i : ℕ) (a : A) (xs : List ℕ) (es : List A) (r : Search A) : Type 0 where
    found : List A
    entries : r.entries ≡ es ++ found
    firsts : Firsts es (targets step xs a) found
    moves : Row r.entries (step a) i xs r.moves

  abbrev scans : ℕ → A → List ℕ → List A → Search A
  scans = scan equal step on

  -- on through the symbols, once t is placed
  scan_on : (i : ℕ) (a : A) (x : ℕ) (xs : List ℕ) (es : List A) (t : A) → step a x ≡ some t → Put t 0 es (at t 0 es) → {r : Search A} → Scanned i a xs (at t 0 es).entries r → Scanned i a (x ∷ xs) es (search_of r.entries ((i, x, (at t 0 es).number) ∷ r.moves))
  scan_on i a x xs es t h (held m q k n g) {r} s =
      let e : r.entries ≡ es ++ s.found = s.entries ∙ ap (λ l. l ++ s.found) q in
      let aim : targets step (x ∷ xs) a ≡ t ∷ targets step xs a = rw (h, targets) in
      let kn : (at t 0 es).number ≡ k = omega arith in
      record {
        found = s.found;
        entries = e;
        firsts = subst (λ l. Firsts es l s.found) (sym aim) (old m (subst (λ l. Firsts l (targets step xs a) s.found) q s.firsts));
        moves = go t h (ap (get_elem? r.entries) kn ∙ ap (λ l. get_elem? l k) e ∙ stands_left es s.found _ k g) s.moves;
      }
  scan_on i a x xs es t h (added m q n) {r} s =
      let e : r.entries ≡ es ++ (t ∷ s.found) = s.entries ∙ ap (λ l. l ++ s.found) q ∙ append_assoc es (t ∷ []) s.found in
      let aim : targets step (x ∷ xs) a ≡ t ∷ targets step xs a = rw (h, targets) in
      let kn : (at t 0 es).number ≡ length es + 0 = omega arith in
      record {
        found = t ∷ s.found;
        entries = e;
        firsts = subst (λ l. Firsts es l (t ∷ s.found)) (sym aim) (new m (subst (λ l. Firsts l (targets step xs a) s.found) q s.firsts));
        moves = go t h (ap (get_elem? r.entries) kn ∙ ap (λ l. get_elem? l (length es + 0)) e ∙ at_right es (t ∷ s.found) 0) s.moves;
      }

  scanned : (i : ℕ) (a : A) (xs : List ℕ) (es : List A) → Scanned i a xs es (scans i a xs es)
  scanned i a [] es = record { found = []; entries = sym (append-nil es); firsts = nil; moves = row_end }
  scanned i a (x ∷ xs) es = cases (λ l. scanned i a xs l) (step a x) refl
    where
      cases : ((l : List A) → Scanned i a xs l (scans i a xs l)) → (o : Option A) → step a x ≡ o → Scanned i a (x ∷ xs) es (scans i a (x ∷ xs) es)
      cases rest none h =
          let s = rest es in
          let aim : targets step (x ∷ xs) a ≡ targets step xs a = rw (h, targets) in
          let is : scans i a (x ∷ xs) es ≡ scans i a xs es = rw (h, scan) in
          subst (Scanned i a (x ∷ xs) es) (sym is)
          (record { found = s.found; entries = s.entries; firsts = subst (λ l. Firsts es l s.found) (sym aim) s.firsts; moves = pass h s.moves })
      cases rest (some t) h =
          let r : Search A = scans i a xs (at t 0 es).entries in
          let is : scans i a (x ∷ xs) es ≡ search_of r.entries ((i, x, (at t 0 es).number) ∷ r.moves) = rw (h, scan) in
          subst (Scanned i a (x ∷ xs) es) (sym is) (scan_on i a x xs es t h (put t 0 es) (rest (at t 0 es).entries))

  -- ── the entries one after another ──

  abbrev aims : A → List A
  aims = targets step on

  record Visited (i : ℕ) (done rest : List A) (r : Search A) : Type 0 where
    last : List A
    found : List A
    entries : r.entries ≡ done ++ last
    grown : last ≡ rest ++ found
    firsts : Firsts (done ++ rest) (all aims last) found
    moves : Rows r.entries step on i last r.moves
    earlier : Earlier aims r.entries

  abbrev visits : ℕ → ℕ → List A → Option (Search A)
  visits = visit equal step on

  visit_end : (n i : ℕ) (es : List A) → get_elem? es i ≡ none → visits (suc n) i es ≡ some (search_of es [])
  visit_end n i es h = rw (h, visit)

  visit_more : (n i : ℕ) (es : List A) (a : A) {t : Search A} → get_elem? es i ≡ some a → visits n (i + 1) (scans i a on es).entries ≡ some t → visits (suc n) i es ≡ some (search_of t.entries ((scans i a on es).moves ++ t.moves))
  visit_more n i es a h k = rw (h, visit) (rw k)

  visit_short : (n i : ℕ) (es : List A) (a : A) → get_elem? es i ≡ some a → visits n (i + 1) (scans i a on es).entries ≡ none → visits (suc n) i es ≡ none
  visit_short n i es a h k = rw (h, visit) (rw k)

  -- one entry, then the others
  visit_on : (i : ℕ) (a : A) (done rest : List A) (s : Search A) → Scanned i a on (done ++ (a ∷ rest)) s → (found : List A) → (t : Search A) → s.entries ≡ (done ++ (a ∷ rest)) ++ found
      → Firsts (done ++ (a ∷ rest)) (aims a) found → Visited (i + 1) (done ++ (a ∷ [])) (rest ++ found) t → Visited i done (a ∷ rest) (search_of t.entries (s.moves ++ t.moves))
  visit_on i a done rest s k found t e f v =
      let joins : (done ++ (a ∷ [])) ++ (rest ++ found) ≡ (done ++ (a ∷ rest)) ++ found =
      append_assoc done (a ∷ []) (rest ++ found) ∙ sym (append_assoc done (a ∷ rest) found) in
      let whole : t.entries ≡ s.entries ++ v.found =
      v.entries ∙ ap (λ l. (done ++ (a ∷ [])) ++ l) v.grown ∙ sym (append_assoc (done ++ (a ∷ [])) (rest ++ found) v.found) ∙ ap (λ l. l ++ v.found) (joins ∙ sym e) in
      record {
        last = a ∷ v.last;
        found = found ++ v.found;
        entries = v.entries ∙ append_assoc done (a ∷ []) v.last;
        grown = ap (λ l. a ∷ l) (v.grown ∙ append_assoc rest found v.found);
        firsts = firsts_append f (subst (λ l. Firsts l (all aims v.last) v.found) joins v.firsts);
        moves = row (subst (λ l. Row l (step a) i on s.moves) (sym whole) (row_more k.moves v.found)) v.moves;
        earlier = v.earlier;
      }

  visited : (n i : ℕ) (done rest : List A) → length done ≡ i → {r : Search A} → visits n i (done ++ rest) ≡ some r → Earlier aims (done ++ rest) → Visited i done rest r
  visited zero i done rest l h b = absurd (none_some refl h)
  visited (suc n) i done [] l {r} h b =
      let g : get_elem? (done ++ []) i ≡ none = ap (get_elem? (done ++ [])) (let z : i ≡ length done + 0 = omega arith in z) ∙ at_right done [] 0 in
      let q : search_of (done ++ []) [] ≡ r = some_one (visit_end n i (done ++ []) g) h in
      subst (Visited i done []) q (record { last = []; found = []; entries = refl; grown = refl; firsts = nil; moves = rows_end; earlier = b })
  visited (suc n) i done (a ∷ rest) l {r} h b = cases (λ found t w c. visited n (i + 1) (done ++ (a ∷ [])) (rest ++ found) longer {r = t} w c) (visits n (i + 1) (scans i a on es).entries) refl
    where
      es : List A
      es = done ++ (a ∷ rest)

      longer : length (done ++ (a ∷ [])) ≡ i + 1
      longer = let z = length_push done a in omega arith

      here : get_elem? (done ++ (a ∷ rest)) i ≡ some a
      here = ap (get_elem? (done ++ (a ∷ rest))) (let z : i ≡ length done + 0 = omega arith in z) ∙ at_right done (a ∷ rest) 0

      cases : ((found : List A) (t : Search A) → visits n (i + 1) ((done ++ (a ∷ [])) ++ (rest ++ found)) ≡ some t → Earlier aims ((done ++ (a ∷ [])) ++ (rest ++ found)) → Visited (i + 1) (done ++ (a ∷ [])) (rest ++ found) t)
          → (o : Option (Search A)) → visits n (i + 1) (scans i a on (done ++ (a ∷ rest))).entries ≡ o → Visited i done (a ∷ rest) r
      cases again none k = absurd (none_some (visit_short n i (done ++ (a ∷ rest)) a here k) h)
      cases again (some t) k =
          let s = scanned i a on (done ++ (a ∷ rest)) in
          let joins : (done ++ (a ∷ [])) ++ (rest ++ s.found) ≡ (done ++ (a ∷ rest)) ++ s.found =
          append_assoc done (a ∷ []) (rest ++ s.found) ∙ sym (append_assoc done (a ∷ rest) s.found) in
          let w : visits n (i + 1) ((done ++ (a ∷ [])) ++ (rest ++ s.found)) ≡ some t = ap (visits n (i + 1)) (joins ∙ sym s.entries) ∙ k in
          let c : Earlier aims ((done ++ (a ∷ rest)) ++ s.found) =
          earlier_more aims (done ++ (a ∷ rest)) s.found a (Memᴰ.append_right done (Memᴰ.head refl)) (λ e m. firsts_from s.firsts m) b in
          let v = again s.found t w (subst (Earlier aims) (sym joins) c) in
          let q : search_of t.entries ((scans i a on (done ++ (a ∷ rest))).moves ++ t.moves) ≡ r = some_one (visit_more n i (done ++ (a ∷ rest)) a here k) h in
          subst (Visited i done (a ∷ rest)) q (visit_on i a done rest (scans i a on (done ++ (a ∷ rest))) s s.found t s.entries s.firsts v)

  one_earlier : (start : A) → Earlier aims (start ∷ [])
  one_earlier start [] after e q ne = absurd (ne refl)
  one_earlier start (b ∷ []) after e q ne = absurd (cc)
  one_earlier start (b ∷ (c ∷ before)) after e q ne = absurd (cc)

  -- what is computed is numbered in finding order
  pub computed : (n : ℕ) (start : A) {r : Search A} → numbered equal step on n start ≡ some r → Numbered step on start r.entries r.moves
  computed n start {r} h =
      let v = visited n 0 [] (start ∷ []) refl h (one_earlier start) in
      let e : r.entries ≡ start ∷ v.found = v.entries ∙ v.grown in
      record {
        found = record {
          in_order = subst (λ l. Firsts [] (start ∷ all aims l) l) (sym e)
              (new Memᴰ.not-nil (subst (λ l. Firsts (start ∷ []) (all aims l) v.found) v.grown v.firsts));
          earlier = v.earlier;
        };
        rows = subst (λ l. Rows r.entries step on 0 l r.moves) (sym v.entries) v.moves;
      }
