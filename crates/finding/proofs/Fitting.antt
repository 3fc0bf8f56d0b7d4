-- A search ends with a numbering just where that numbering fits.
use Rattle.std.proofs.Common.{◌≡◌, ℕ, zero, suc, ◌+◌, ◌<◌, ◌≤◌, ◌≢◌, List, [], ◌∷◌, ◌++◌, length, sym, refl, ap, ◌∙◌, subst, ⊎_elim, append_assoc, append-nil, add-one, arith, length-append}
use mathlib.Core.Option.{Option, some}
use mathlib.Core.List.Memᴰ
use mathlib.Core.List.{Memᴰ}
use Rattle.std.proofs.lemmas.List.{length_push}
use Rattle.table.specs.Lists.{StandsAt, Distinct}
use Rattle.table.proofs.Lists.{stands_below, stands_left, stands_last, mem_at, at_mem}
use Rattle.finding.specs.Finding.{Bounded, Place, place, Leads, Turn, Turns, Whole, Fits}
use Rattle.finding.specs.Finding.Turn.{pass, old, new, next}
use Rattle.finding.specs.Finding.Turns.{stay, more}
use Rattle.finding.specs.Numbered.{Arrow, Firsts, Row, Rows, all, targets, upto}
use Rattle.finding.specs.Numbered.Firsts.{nil as f_nil, old as f_old, new as f_new}
use Rattle.finding.specs.Numbered.Row.{end as r_end, pass as r_pass, go as r_go}
use Rattle.finding.specs.Numbered.Rows.{end as rs_end, row as rs_row}
use Rattle.finding.proofs.Bounds.{whole_fits}
use Rattle.finding.proofs.Laws.{found_distinct}
use Rattle.finding.proofs.Lawful.{parts_push, whole_numbered}
use Rattle.finding.proofs.Visiting.{joins}

-- the symbols from x on and below n, upward
data Upward (n : ℕ) : ℕ → List ℕ → Type 0 where
  ended : Upward n n []
  then : {x : ℕ} {xs : List ℕ} → x < n → Upward n (x + 1) xs → Upward n x (x ∷ xs)

upward_push : {n x : ℕ} {xs : List ℕ} → Upward n x xs → Upward (suc n) x (xs ++ (n ∷ []))
upward_push {n} ended = then (omega arith) (subst (λ k. Upward (suc n) k []) (sym (add-one n)) ended)
upward_push (then h u) = then (omega arith) (upward_push u)

upward : (n : ℕ) → Upward n 0 (upto n)
upward zero = ended
upward (suc n) = upward_push (upward n)

-- what is left of a list is shorter than the list
shorter : {A : Type 0} (all front rest : List A) (t : A) → all ≡ front ++ (t ∷ rest) → length front < length all
shorter all front rest t e = let l = ap length e in let k = length-append front (t ∷ rest) in omega arith

stands_inside : {A : Type 0} (ts : List A) (k : ℕ) (t : A) → StandsAt ts k t → ts ≢ []
stands_inside [] k t s e = cc
stands_inside (u ∷ ts) k t s e = cc

module _ {A : Type 0} (w : Bounded A) (es : List A) (ms : List Arrow) (apart : Distinct es) (few : length es ≤ w.most) (few_moves : length ms ≤ w.most_moves)
    (rooms : (front rest : List A) (t : A) → es ≡ front ++ (t ∷ rest) → front ≢ [] → w.sought.room front t) where
  abbrev step : A → ℕ → Option A
  step = w.sought.step

  -- all moves of entry i on the symbols xs are taken: the entries and moves then, and the entries still to come
  record Taken (i : ℕ) (a : A) (cur : List A) (got : List Arrow) (x : ℕ) (xs : List ℕ) (row : List Arrow) (later : List A) : Type 0 where
    to : List A
    moves : List Arrow
    coming : List A
    turns : Turns w (place cur got i x) (place to moves i w.sought.symbols)
    moves_are : moves ≡ got ++ row
    firsts : Firsts to later coming
    whole : es ≡ to ++ coming
    longer : length cur ≤ length to
    kept : (t : A) → Memᴰ t cur → Memᴰ t to
    covers : (t : A) → Memᴰ t (targets step xs a) → Memᴰ t to

  -- what stands in the front of the entries, and among the entries at j, stands in the front at j
  in_front : (cur coming : List A) (t : A) (j : ℕ) → es ≡ cur ++ coming → Memᴰ t cur → StandsAt es j t → StandsAt cur j t
  in_front cur coming t j whole m s =
      let (k, at) = at_mem cur t m in
      let e : k ≡ j = apart k j t (subst (λ l. StandsAt l k t) (sym whole) (stands_left cur coming t k at)) s in
      subst (λ n. StandsAt cur n t) e at

  module _ (i : ℕ) (a : A) (later : List A) where
    abbrev Rest : ℕ → List ℕ → List Arrow → List Arrow → Type 0
    Rest x xs row rest =
        (cur coming : List A) (got : List Arrow) → StandsAt cur i a → Firsts cur (targets step xs a ++ later) coming → es ≡ cur ++ coming → ms ≡ got ++ (row ++ rest)
        → Taken i a cur got x xs row later

    -- one turn, and then the others
    after : {x x' : ℕ} {xs xs' : List ℕ} {row row' : List Arrow} {cur cur' : List A} {got got' : List Arrow}
        → Turn w (place cur got i x) (place cur' got' i x') → Taken i a cur' got' x' xs' row' later → got' ++ row' ≡ got ++ row → length cur ≤ length cur'
        → ((t : A) → Memᴰ t cur → Memᴰ t cur') → ((t : A) → Memᴰ t (targets step xs a) → (to : List A) → ((u : A) → Memᴰ u cur' → Memᴰ u to) → ((u : A) → Memᴰ u (targets step xs' a) → Memᴰ u to) → Memᴰ t to)
        → Taken i a cur got x xs row later
    after turn k e longer kept covers =
        record {
          to = k.to;
          moves = k.moves;
          coming = k.coming;
          turns = joins (more stay turn) k.turns;
          moves_are = k.moves_are ∙ e;
          firsts = k.firsts;
          whole = k.whole;
          longer = omega (arith, k.longer);
          kept = λ t m. k.kept t (kept t m);
          covers = λ t m. covers t m k.to k.kept k.covers;
        }

    -- a move to t, which was found before or is the next to be found
    onto : (x : ℕ) (xs : List ℕ) (t : A) (j : ℕ) (row rest : List Arrow) → x < w.sought.symbols → step a x ≡ some t → StandsAt es j t → Rest (x + 1) xs row rest
        → (cur coming : List A) (got : List Arrow) → StandsAt cur i a → Firsts cur (t ∷ (targets step xs a ++ later)) coming → es ≡ cur ++ coming → ms ≡ got ++ (((i, x, j) ∷ row) ++ rest)
        → targets step (x ∷ xs) a ≡ t ∷ targets step xs a → Taken i a cur got x (x ∷ xs) ((i, x, j) ∷ row) later
    onto x xs t j row rest below goes at again cur coming got here (f_old m f) whole moves aim =
        let leads : Leads w (place cur got i x) t = record { at = a; stands = here; below = below; goes = goes } in
        let room = shorter ms got (row ++ rest) (i, x, j) moves in
        after (old t j leads (in_front cur coming t j whole m at) (omega arith))
        (again cur coming (got ++ ((i, x, j) ∷ [])) here f whole (moves ∙ sym (append_assoc got ((i, x, j) ∷ []) (row ++ rest))))
        (append_assoc got ((i, x, j) ∷ []) row) (omega arith) (λ u k. k)
        (λ u k to sub more. ⊎_elim (λ e. sub u (subst (λ v. Memᴰ v cur) (sym e) m)) (more u) (Memᴰ.cases_cons (subst (Memᴰ u) aim k)))
    onto x xs t j row rest below goes at again cur coming got here (f_new {ns = ns} m f) whole moves aim =
        let leads : Leads w (place cur got i x) t = record { at = a; stands = here; below = below; goes = goes } in
        let room = shorter ms got (row ++ rest) (i, x, j) moves in
        let place_of : j ≡ length cur = apart j (length cur) t at (subst (λ l. StandsAt l (length cur) t) (sym whole) (stands_last cur ns t)) in
        let few-entries = shorter es cur ns t whole in
        let turn = new t leads (λ k s. m (mem_at cur k t s)) (rooms cur ns t whole (stands_inside cur i a here)) (omega arith) (omega arith) in
        after (subst (λ n. Turn w (place cur got i x) (place (cur ++ (t ∷ [])) (got ++ ((i, x, n) ∷ [])) i (x + 1))) (sym place_of) turn)
        (again (cur ++ (t ∷ [])) ns (got ++ ((i, x, j) ∷ [])) (stands_left cur (t ∷ []) a i here) f (whole ∙ sym (append_assoc cur (t ∷ []) ns))
        (moves ∙ sym (append_assoc got ((i, x, j) ∷ []) (row ++ rest))))
        (append_assoc got ((i, x, j) ∷ []) row) (let l = length_push cur t in omega arith) (λ u k. Memᴰ.append_left (t ∷ []) k)
        (λ u k to sub more. ⊎_elim (λ e. sub u (Memᴰ.append_right cur (Memᴰ.head e))) (more u) (Memᴰ.cases_cons (subst (Memᴰ u) aim k)))

    row_taken : {xs : List ℕ} {row : List Arrow} → Row es (step a) i xs row → {x : ℕ} → Upward w.sought.symbols x xs → (rest : List Arrow) → Rest x xs row rest
    row_taken r_end ended rest cur coming got here f whole moves =
        record {
          to = cur;
          moves = got;
          coming = coming;
          turns = stay;
          moves_are = sym (append-nil got);
          firsts = f;
          whole = whole;
          longer = omega arith;
          kept = λ t m. m;
          covers = λ t m. absurd (Memᴰ.not-nil m);
        }
    row_taken (r_pass {x = x} {xs = xs} h r) (then l u) rest cur coming got here f whole moves =
        let aim : targets step (x ∷ xs) a ≡ targets step xs a = rw (h, targets) in
        after (pass a here l h) (row_taken r u rest cur coming got here (subst (λ ts. Firsts cur (ts ++ later) coming) aim f) whole moves)
        refl (omega arith) (λ t m. m) (λ t m to sub more. more t (subst (Memᴰ t) aim m))
    row_taken (r_go {x = x} {j = j} {xs = xs} {ms = row} t h s r) (then l u) rest cur coming got here f whole moves =
        let aim : targets step (x ∷ xs) a ≡ t ∷ targets step xs a = rw (h, targets) in
        onto x xs t j row rest l h s (row_taken r u rest) cur coming got here (subst (λ ts. Firsts cur (ts ++ later) coming) aim f) whole moves aim

  abbrev aims : A → List A
  aims = targets step (upto w.sought.symbols)

  -- the entry of number i is found before its moves are taken
  found_before : (done bs cur coming : List A) (a : A) (i : ℕ) → es ≡ done ++ (a ∷ bs) → length done ≡ i → es ≡ cur ++ coming → 0 < length cur
      → ((t : A) → Memᴰ t (all aims done) → Memᴰ t cur)
      → ((before after : List A) (e : A) → es ≡ before ++ (e ∷ after) → before ≢ [] → Memᴰ e (all aims before)) → StandsAt cur i a
  found_before done bs cur coming a i e l whole has covers earlier =
      in_front cur coming a i whole (cases done cur e whole has covers) (subst (λ n. StandsAt es n a) l (subst (λ k. StandsAt k (length done) a) (sym e) (stands_last done bs a)))
    where
      cases : (done cur : List A) → es ≡ done ++ (a ∷ bs) → es ≡ cur ++ coming → 0 < length cur → ((t : A) → Memᴰ t (all aims done) → Memᴰ t cur) → Memᴰ a cur
      cases [] [] e whole has covers = absurd (omega arith)
      cases [] (c ∷ cs) e whole has covers = Memᴰ.head (let h : a ∷ bs ≡ c ∷ (cs ++ coming) = sym e ∙ whole in let k : a ≡ c = cc in k)
      cases (d ∷ ds) cur e whole has covers = covers a (earlier (d ∷ ds) bs a e (λ z. cc))

  all_push : (f : A → List A) (done : List A) (a t : A) → Memᴰ t (all f (done ++ (a ∷ []))) → (t-in : List A) → (Memᴰ t (all f done) → Memᴰ t t-in) → (Memᴰ t (f a) → Memᴰ t t-in) → Memᴰ t t-in
  all_push f [] a t m in_List h k = k (subst (Memᴰ t) (append-nil (f a)) m)
  all_push f (d ∷ done) a t m in_List h k =
      ⊎_elim (λ q. h (Memᴰ.append_left (all f done) q)) (λ q. all_push f done a t q in_List (λ r. h (Memᴰ.append_right (f d) r)) k) (Memᴰ.append_cases (f d) m)

  rows_taken : {i : ℕ} {bs : List A} {row : List Arrow} → Rows es step (upto w.sought.symbols) i bs row
      → ((before after : List A) (e : A) → es ≡ before ++ (e ∷ after) → before ≢ [] → Memᴰ e (all aims before))
      → (done cur coming : List A) (got : List Arrow) → es ≡ done ++ bs → length done ≡ i → Firsts cur (all aims bs) coming → es ≡ cur ++ coming → 0 < length cur
      → ((t : A) → Memᴰ t (all aims done) → Memᴰ t cur) → ms ≡ got ++ row → Turns w (place cur got i 0) (place es ms (length es) 0)
  rows_taken {i} rs_end earlier done cur coming got e l f_nil whole has covers moves =
      let i-is : i ≡ length es = let k = ap length (e ∙ append-nil done) in omega arith in
      let cur-is : es ≡ cur = whole ∙ append-nil cur in
      let got-is : ms ≡ got = moves ∙ append-nil got in
      subst (λ n. Turns w (place cur got i 0) (place es ms n 0)) i-is
      (subst (λ l. Turns w (place cur got i 0) (place l ms i 0)) (sym cur-is) (subst (λ l. Turns w (place cur got i 0) (place cur l i 0)) (sym got-is) stay))
  rows_taken {i} (rs_row {a = a} {bs = bs} {ms = row} {ns = rows} r rs) earlier done cur coming got e l f whole has covers moves =
      let here = found_before done bs cur coming a i e l whole has covers earlier in
      let k = row_taken i a (all aims bs) r (upward w.sought.symbols) rows cur coming got here f whole moves in
      let in_range = stands_below cur i a here in
      let turned = more k.turns (next (omega (arith, k.longer)) refl) in
      joins turned
      (rows_taken rs earlier (done ++ (a ∷ [])) k.to k.coming k.moves (e ∙ sym (append_assoc done (a ∷ []) bs)) (let p = length_push done a in omega arith) k.firsts k.whole
      (omega (arith, k.longer)) (λ t m. all_push aims done a t m k.to (λ q. k.kept t (covers t q)) (k.covers t))
      (moves ∙ sym (append_assoc got row rows) ∙ ap (λ m. m ++ rows) (sym k.moves_are)))

-- the search finds a numbering that fits
pub fits_whole : {A : Type 0} {w : Bounded A} {start : A} {es : List A} {ms : List Arrow} → Fits w start es ms → Whole w start es ms
fits_whole {A} {w} {start} {es} {ms} n = begun es refl n.numbered.found.in_order
  where
    begun : (fs : List A) → es ≡ fs → Firsts [] (start ∷ all (targets w.sought.step (upto w.sought.symbols)) es) fs → Whole w start es ms
    begun fs e (f_old m f) = absurd (Memᴰ.not-nil m)
    begun fs e (f_new {ns = ns} m f) =
        let size = ap length e in (
          omega (arith, n.few),
          rows_taken w es ms (found_distinct n.numbered.found) n.few n.few_moves n.placed n.numbered.rows n.numbered.found.earlier [] (start ∷ []) ns [] refl refl f e
              (omega arith) (λ t k. absurd (Memᴰ.not-nil k)) refl,
        )

-- what a search has found fits

abbrev Placed : {A : Type 0} → Bounded A → List A → Type 0
Placed {A} w es = (front rest : List A) (t : A) → es ≡ front ++ (t ∷ rest) → front ≢ [] → w.sought.room front t

module _ {A : Type 0} {w : Bounded A} where
  placed_turn : {p q : Place A} → Turn w p q → Placed w p.entries → Placed w q.entries
  placed_turn (pass a s l g) f = f
  placed_turn (old t j l s m) f = f
  placed_turn {p} (new t l s r e m) f = λ front rest u q ne.
      ⊎_elim (λ k. subst (λ v. w.sought.room front v) k.1 (subst (λ es. w.sought.room es t) k.0 r)) (λ k. f front k.0 u k.1 ne) (parts_push p.entries t u front rest q)
  placed_turn (next h e) f = f

  placed_turns : {p q : Place A} → Turns w p q → Placed w p.entries → Placed w q.entries
  placed_turns stay f = f
  placed_turns (more t u) f = placed_turn u (placed_turns t f)

  pub found_fits : {start : A} {es : List A} {ms : List Arrow} → Whole w start es ms → Fits w start es ms
  found_fits {start} {es} {ms} k =
      let within = whole_fits w start es ms k in
      record { numbered = whole_numbered start k; few = within.0; few_moves = within.1; placed = placed_turns k.1 only }
    where
      only : Placed w (start ∷ [])
      only [] rest t e ne = absurd (ne refl)
      only (f ∷ []) rest t e ne = absurd cc
      only (f ∷ (g ∷ front)) rest t e ne = absurd cc
