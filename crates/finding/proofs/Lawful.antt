-- What a search has found when it ends is the numbering of the finding order.
use Rattle.std.proofs.Common.{◌≡◌, ℕ, ◌+◌, ◌<◌, ◌≤◌, ◌≢◌, ◌⊎◌, List, [], ◌∷◌, ◌++◌, length, take, sym, refl, ap, ◌∙◌, subst, inl, inr, ⊎_elim, append_assoc, append-nil, add-one, arith, length-take-le}
use mathlib.Core.Option.{Option, none, some}
use mathlib.Core.List.Memᴰ
use mathlib.Core.List.{Memᴰ}
use lib.ListN.{get_elem?}
use Rattle.std.proofs.lemmas.List.{take_more, take_all, take-append-le, length_push}
use Rattle.table.specs.Lists.{StandsAt, Lacks}
use Rattle.finding.specs.Finding.{Bounded, Place, Turn, Turns, Whole}
use Rattle.finding.specs.Finding.Turn.{pass, old, new, next}
use Rattle.finding.specs.Finding.Turns.{stay, more}
use Rattle.finding.specs.Numbered.{Arrow, Firsts, Row, Rows, Numbered, all, targets, upto}
use Rattle.finding.specs.Numbered.Firsts.{nil as f_nil, old as f_old, new as f_new}
use Rattle.finding.specs.Numbered.Row.{end as r_end, pass as r_pass, go as r_go}
use Rattle.finding.specs.Numbered.Rows.{end as rs_end, row as rs_row}
use Rattle.finding.proofs.Laws.{pick, targets_has, all_has, upto_has}
use Rattle.finding.proofs.Unique.{all_++}
use Rattle.table.proofs.Lists.{stands_is, stands_left, stands_last, stands_some, stands_past, mem_at, at_mem}

-- first occurrences, one more

pub firsts_old : {A : Type 0} {seen ts ns : List A} (t : A) → Firsts seen ts ns → Memᴰ t (seen ++ ns) → Firsts seen (ts ++ (t ∷ [])) ns
firsts_old {seen = seen} t f_nil m = f_old (rw append-nil at m) f_nil
firsts_old t (f_old h f) m = f_old h (firsts_old t f m)
firsts_old {seen = seen} t (f_new {t = u} {ns = ns} h f) m =
    f_new h (firsts_old t f (subst (Memᴰ t) (sym (append_assoc seen (u ∷ []) ns)) m))

pub firsts_new : {A : Type 0} {seen ts ns : List A} (t : A) → Firsts seen ts ns → (Memᴰ t (seen ++ ns) → ⊥) → Firsts seen (ts ++ (t ∷ [])) (ns ++ (t ∷ []))
firsts_new {seen = seen} t f_nil m = f_new (λ h. m (rw append-nil h)) f_nil
firsts_new t (f_old h f) m = f_old h (firsts_new t f m)
firsts_new {seen = seen} t (f_new {t = u} {ns = ns} h f) m =
    f_new h (firsts_new t f (λ k. m (subst (Memᴰ t) (append_assoc seen (u ∷ []) ns) k)))

-- rows, one more

row_pass : {A : Type 0} {es : List A} {st : ℕ → Option A} {i : ℕ} {xs : List ℕ} {ms : List Arrow} (x : ℕ) → Row es st i xs ms → st x ≡ none → Row es st i (xs ++ (x ∷ [])) ms
row_pass x r_end n = r_pass n r_end
row_pass x (r_pass m r) n = r_pass m (row_pass x r n)
row_pass x (r_go t g s r) n = r_go t g s (row_pass x r n)

row_go : {A : Type 0} {es : List A} {st : ℕ → Option A} {i : ℕ} {xs : List ℕ} {ms : List Arrow} (x : ℕ) (t : A) (j : ℕ) → Row es st i xs ms → st x ≡ some t → StandsAt es j t → Row es st i (xs ++ (x ∷ [])) (ms ++ ((i, x, j) ∷ []))
row_go x t j r_end g s = r_go t g s r_end
row_go x t j (r_pass m r) g s = r_pass m (row_go x t j r g s)
row_go x t j (r_go u h k r) g s = r_go u h k (row_go x t j r g s)

row_grows : {A : Type 0} {es : List A} {st : ℕ → Option A} {i : ℕ} {xs : List ℕ} {ms : List Arrow} (ns : List A) → Row es st i xs ms → Row (es ++ ns) st i xs ms
row_grows ns r_end = r_end
row_grows ns (r_pass m r) = r_pass m (row_grows ns r)
row_grows {es = es} ns (r_go {j = j} t g s r) = r_go t g (stands_left es ns t j s) (row_grows ns r)

rows_grow : {A : Type 0} {es : List A} {step : A → ℕ → Option A} {xs : List ℕ} {i : ℕ} {bs : List A} {ms : List Arrow} (ns : List A) → Rows es step xs i bs ms → Rows (es ++ ns) step xs i bs ms
rows_grow ns rs_end = rs_end
rows_grow ns (rs_row r rs) = rs_row (row_grows ns r) (rows_grow ns rs)

rows_more : {A : Type 0} {es : List A} {step : A → ℕ → Option A} {xs : List ℕ} {i : ℕ} {bs : List A} {ms : List Arrow} (a : A) {k : ℕ} {ns : List Arrow} → Rows es step xs i bs ms → i + length bs ≡ k → Row es (step a) k xs ns → Rows es step xs i (bs ++ (a ∷ [])) (ms ++ ns)
rows_more {es = es} {step} {xs} {i} a {k} {ns} rs_end e r =
    let f : k ≡ i = omega arith in
    subst (λ l. Rows es step xs i (a ∷ []) l) (append-nil ns) (rs_row (subst (λ y. Row es (step a) y xs ns) f r) rs_end)
rows_more {es = es} {step} {xs} {i} a {k} {ns} (rs_row {a = b} {bs = bs} {ms = ms} {ns = ms'} q rs) e r =
    subst (λ l. Rows es step xs i (b ∷ (bs ++ (a ∷ []))) l) (sym (append_assoc ms ms' ns)) (rs_row q (rows_more a rs (omega arith) r))

-- targets, one more

pick_++ : {A : Type 0} (o : Option A) (l m n : List A) → l ≡ m ++ n → pick o l ≡ pick o m ++ n
pick_++ none l m n e = e
pick_++ (some t) l m n e = ap (λ k. t ∷ k) e

targets_++ : {A : Type 0} (step : A → ℕ → Option A) (xs ys : List ℕ) (a : A) → targets step (xs ++ ys) a ≡ targets step xs a ++ targets step ys a
targets_++ step [] ys a = refl
targets_++ step (x ∷ xs) ys a = pick_++ (step a x) _ _ _ (targets_++ step xs ys a)

targets_none : {A : Type 0} (step : A → ℕ → Option A) (x : ℕ) (a : A) → step a x ≡ none → targets step (upto (x + 1)) a ≡ targets step (upto x) a
targets_none {A} step x a h = rw add-one (targets_++ step (upto x) (x ∷ []) a ∙ ap (λ (o : Option A). targets step (upto x) a ++ pick o []) h ∙ append-nil (targets step (upto x) a))

targets_some : {A : Type 0} (step : A → ℕ → Option A) (x : ℕ) (a t : A) → step a x ≡ some t → targets step (upto (x + 1)) a ≡ targets step (upto x) a ++ (t ∷ [])
targets_some {A} step x a t h = rw add-one (targets_++ step (upto x) (x ∷ []) a ∙ ap (λ (o : Option A). targets step (upto x) a ++ pick o []) h)

-- a list that ends in u, parted before e: either e is that u, or the parting stands before it
pub parts_push : {A : Type 0} (es : List A) (u e : A) (before after : List A) → es ++ (u ∷ []) ≡ before ++ (e ∷ after) → ((es ≡ before) × (u ≡ e)) ⊎ ((rest : List A) × (es ≡ before ++ (e ∷ rest)))
parts_push [] u e [] after q = inl (refl, cc)
parts_push [] u e (b ∷ []) after q = absurd cc
parts_push [] u e (b ∷ (d ∷ before)) after q = absurd cc
parts_push (x ∷ es) u e [] after q = inr (es, let k : x ≡ e = cc in ap (λ v. v ∷ es) k)
parts_push (x ∷ es) u e (b ∷ before) after q =
    let k : x ≡ b = cc in
    let r : es ++ (u ∷ []) ≡ before ++ (e ∷ after) = cc in
    ⊎_elim (λ p. inl (let h : es ≡ before = p.0 in cc, p.1)) (λ p. inr (p.0, let h : es ≡ before ++ (e ∷ p.0) = p.1 in cc)) (parts_push es u e before after r)

module _ {A : Type 0} (step : A → ℕ → Option A) (n : ℕ) (start : A) where
  abbrev T : A → List A
  T = targets step (upto n)

  -- what the entry at hand led to so far, and its moves so far
  abbrev led : Option A → ℕ → List A
  led none x = []
  led (some a) x = targets step (upto x) a

  abbrev RowOf : List A → ℕ → ℕ → List Arrow → Option A → Type 0
  RowOf es i x ms none = ms ≡ []
  RowOf es i x ms (some a) = Row es (step a) i (upto x) ms

  abbrev Earlier : List A → Type 0
  Earlier es = (before after : List A) (e : A) → es ≡ before ++ (e ∷ after) → before ≢ [] → Memᴰ e (all T before)

  record Known (es : List A) (ms : List Arrow) (i x : ℕ) : Type 0 where
    in_entries : i ≤ length es
    done : List Arrow
    begun : List Arrow
    rows : Rows es step (upto n) 0 (take i es) done
    row : RowOf es i x begun (get_elem? es i)
    joined : ms ≡ done ++ begun
    firsts : Firsts [] (start ∷ (all T (take i es) ++ led (get_elem? es i) x)) es
    earlier : Earlier es

  led_zero : (o : Option A) → led o 0 ≡ []
  led_zero none = refl
  led_zero (some a) = refl

  row_zero : (es : List A) (i : ℕ) (o : Option A) → RowOf es i 0 [] o
  row_zero es i none = refl
  row_zero es i (some a) = r_end

  -- the row of the entry at hand, with the symbol x looked at
  row_on : {es : List A} {i : ℕ} {ms : List Arrow} (x : ℕ) (a : A) → StandsAt es i a → Row es (step a) i (upto x ++ (x ∷ [])) ms → RowOf es i (x + 1) ms (get_elem? es i)
  row_on {es} {i} {ms} x a s r =
      subst (λ o. RowOf es i (x + 1) ms o) (sym s) (subst (λ l. Row es (step a) i l ms) (let e : upto x ++ (x ∷ []) ≡ upto (x + 1) = rw add-one refl in e) r)

  -- the row of the entry at hand so far
  row_here : {es : List A} {ms : List Arrow} {i x : ℕ} (a : A) → StandsAt es i a → (k : Known es ms i x) → Row es (step a) i (upto x) k.begun
  row_here {es} {i = i} {x} a s k = subst (λ o. RowOf es i x k.begun o) s k.row

  known_pass : {es : List A} {ms : List Arrow} {i x : ℕ} (a : A) → StandsAt es i a → step a x ≡ none → Known es ms i x → Known es ms i (x + 1)
  known_pass {es} {ms} {i} {x} a s g k =
      let e : led (get_elem? es i) x ≡ led (get_elem? es i) (x + 1) =
      ap (λ (o : Option A). led o x) s ∙ sym (targets_none step x a g) ∙ sym (ap (λ (o : Option A). led o (x + 1)) s) in
      record {
        in_entries = k.in_entries;
        done = k.done;
        begun = k.begun;
        rows = k.rows;
        row = row_on x a s (row_pass x (row_here a s k) g);
        joined = k.joined;
        firsts = subst (λ l. Firsts [] (start ∷ (all T (take i es) ++ l)) es) e k.firsts;
        earlier = k.earlier;
      }

  grown : (es : List A) (i x : ℕ) (a t : A) → StandsAt es i a → step a x ≡ some t
      → (start ∷ (all T (take i es) ++ led (get_elem? es i) x)) ++ (t ∷ []) ≡ start ∷ (all T (take i es) ++ led (get_elem? es i) (x + 1))
  grown es i x a t s g =
      let e : led (get_elem? es i) x ++ (t ∷ []) ≡ led (get_elem? es i) (x + 1) =
      ap (λ (o : Option A). led o x ++ (t ∷ [])) s ∙ sym (targets_some step x a t g) ∙ sym (ap (λ (o : Option A). led o (x + 1)) s) in
      ap (λ l. start ∷ l) (append_assoc (all T (take i es)) (led (get_elem? es i) x) (t ∷ []) ∙ ap (λ l. all T (take i es) ++ l) e)

  known_old : {es : List A} {ms : List Arrow} {i x : ℕ} (a t : A) (j : ℕ) → StandsAt es i a → step a x ≡ some t → StandsAt es j t → Known es ms i x
      → Known es (ms ++ ((i, x, j) ∷ [])) i (x + 1)
  known_old {es} {ms} {i} {x} a t j s g h k =
      record {
        in_entries = k.in_entries;
        done = k.done;
        begun = k.begun ++ ((i, x, j) ∷ []);
        rows = k.rows;
        row = row_on x a s (row_go x t j (row_here a s k) g h);
        joined = ap (λ l. l ++ ((i, x, j) ∷ [])) k.joined ∙ append_assoc k.done k.begun _;
        firsts = subst (λ l. Firsts [] l es) (grown es i x a t s g) (firsts_old t k.firsts (mem_at es j t h));
        earlier = k.earlier;
      }

  known_new : {es : List A} {ms : List Arrow} {i x : ℕ} (a t : A) → StandsAt es i a → x < n → step a x ≡ some t → Lacks es t → Known es ms i x
      → Known (es ++ (t ∷ [])) (ms ++ ((i, x, length es) ∷ [])) i (x + 1)
  known_new {es} {ms} {i} {x} a t s b g h k =
      let more : List A = es ++ (t ∷ []) in
      let here : StandsAt more i a = stands_left es (t ∷ []) a i s in
      let same : take i more ≡ take i es = take-append-le i es (t ∷ []) k.in_entries in
      let first : Firsts [] (start ∷ (all T (take i es) ++ led (get_elem? es i) (x + 1))) more =
      subst (λ l. Firsts [] l more) (grown es i x a t s g) (firsts_new t k.firsts (λ q. let r = at_mem es t q in h r.0 r.1)) in
      record {
        in_entries = omega (arith, length_push es t, k.in_entries);
        done = k.done;
        begun = k.begun ++ ((i, x, length es) ∷ []);
        rows = subst (λ l. Rows more step (upto n) 0 l k.done) (sym same) (rows_grow (t ∷ []) k.rows);
        row = row_on x a here (row_go x t (length es) (row_grows (t ∷ []) (row_here a s k)) g (stands_last es [] t));
        joined = ap (λ l. l ++ ((i, x, length es) ∷ [])) k.joined ∙ append_assoc k.done k.begun _;
        firsts = subst (λ l. Firsts [] (start ∷ (all T l ++ led (get_elem? more i) (x + 1))) more) (sym same)
            (subst (λ (o : Option A). Firsts [] (start ∷ (all T (take i es) ++ led o (x + 1))) more) (s ∙ sym here) first);
        earlier = λ before after e q ne.
            ⊎_elim
            (λ p. subst (λ v. Memᴰ v (all T before)) p.1 (subst (λ l. Memᴰ t (all T l)) p.0 (all_has T es a t (mem_at es i a s) (targets_has step (upto n) a t x (upto_has n x b) g))))
            (λ p. k.earlier before p.0 e p.1 ne)
            (parts_push es t e before after q);
      }

  known_next : {es : List A} {ms : List Arrow} {i : ℕ} → i < length es → Known es ms i n → Known es ms (i + 1) 0
  known_next {es} {ms} {i} h k =
      let (a, s) = stands_some es i h in
      let longer : take i es ++ (a ∷ []) ≡ take (i + 1) es = ap (λ v. take i es ++ (v ∷ [])) (sym (stands_is es i a a s)) ∙ sym (take_more es i a h) in
      let e : all T (take i es) ++ led (get_elem? es i) n ≡ all T (take (i + 1) es) ++ led (get_elem? es (i + 1)) 0 =
      ap (λ l. all T (take i es) ++ l) (ap (λ (o : Option A). led o n) s ∙ sym (append-nil (T a)))
      ∙ sym (all_++ T (take i es) (a ∷ []))
      ∙ ap (all T) longer
      ∙ sym (append-nil (all T (take (i + 1) es)))
      ∙ ap (λ l. all T (take (i + 1) es) ++ l) (sym (led_zero (get_elem? es (i + 1)))) in
      let r : Rows es step (upto n) 0 (take i es ++ (a ∷ [])) (k.done ++ k.begun) =
      rows_more a k.rows (let z : 0 + length (take i es) ≡ i = omega (arith, length-take-le i es k.in_entries) in z) (row_here a s k) in
      record {
        in_entries = omega arith;
        done = k.done ++ k.begun;
        begun = [];
        rows = subst (λ l. Rows es step (upto n) 0 l (k.done ++ k.begun)) longer r;
        row = row_zero es (i + 1) (get_elem? es (i + 1));
        joined = k.joined ∙ sym (append-nil (k.done ++ k.begun));
        firsts = subst (λ l. Firsts [] (start ∷ l) es) e k.firsts;
        earlier = k.earlier;
      }

  known_start : Known (start ∷ []) [] 0 0
  known_start =
      record { in_entries = omega arith; done = []; begun = []; rows = rs_end; row = r_end; joined = refl; firsts = f_new Memᴰ.not-nil f_nil; earlier = λ before after e q ne. only before after e q ne }
    where
      only : (before after : List A) (e : A) → start ∷ [] ≡ before ++ (e ∷ after) → before ≢ [] → Memᴰ e (all T before)
      only [] after e q ne = absurd (ne refl)
      only (b ∷ []) after e q ne = absurd cc
      only (b ∷ (d ∷ before)) after e q ne = absurd cc

abbrev KnownAt : {A : Type 0} (w : Bounded A) (start : A) → Place A → Type 0
KnownAt w start p = Known w.sought.step w.sought.symbols start p.entries p.moves p.entry p.symbol

module _ {A : Type 0} {w : Bounded A} (start : A) where
  known_turn : {p q : Place A} → KnownAt w start p → Turn w p q → KnownAt w start q
  known_turn k (pass a s b g) = known_pass _ _ _ a s g k
  known_turn k (old t j l h m) = known_old _ _ _ l.at t j l.stands l.goes h k
  known_turn k (new t l h r e m) = known_new _ _ _ l.at t l.stands l.below l.goes h k
  known_turn {p} k (next i x) = known_next _ _ _ i (subst (λ y. Known w.sought.step w.sought.symbols start p.entries p.moves p.entry y) x k)

  known : {p q : Place A} → KnownAt w start p → Turns w p q → KnownAt w start q
  known k stay = k
  known k (more f t) = known_turn (known k f) t

  pub whole_numbered : {es : List A} {ms : List Arrow} → Whole w start es ms → Numbered w.sought.step (upto w.sought.symbols) start es ms
  whole_numbered {es} {ms} f =
      let k = known (known_start w.sought.step w.sought.symbols start) f.1 in
      let all_of : take (length es) es ≡ es = take_all (length es) es (omega arith) in
      let none_left : k.begun ≡ [] = subst (λ (o : Option A). RowOf w.sought.step w.sought.symbols start es (length es) 0 k.begun o) (stands_past es) k.row in
      let done-is : k.done ≡ ms = sym (append-nil k.done) ∙ ap (λ l. k.done ++ l) (sym none_left) ∙ sym k.joined in
      let aims = targets w.sought.step (upto w.sought.symbols) in
      let e : all aims (take (length es) es) ++ led w.sought.step w.sought.symbols start (get_elem? es (length es)) 0 ≡ all aims es =
      ap (λ l. all aims (take (length es) es) ++ l) (led_zero w.sought.step w.sought.symbols start (get_elem? es (length es))) ∙ append-nil _ ∙ ap (all aims) all_of in
      record {
        found = record { in_order = subst (λ l. Firsts [] (start ∷ l) es) e k.firsts; earlier = k.earlier };
        rows = subst (λ l. Rows es w.sought.step (upto w.sought.symbols) 0 es l) done-is (subst (λ (l : List A). Rows es w.sought.step (upto w.sought.symbols) 0 l k.done) all_of k.rows);
      }
