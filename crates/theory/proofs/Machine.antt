-- The characteristic machine: its states hold just the items that the construction says.
use Rattle.std.proofs.Common.{◌≡◌, ℕ, suc, ◌↔◌, List, [], ◌∷◌, ◌++◌, sym, refl, ap, ◌∙◌, subst, ⊎_elim}
use mathlib.Core.Option.{some}
use mathlib.Core.List.Memᴰ
use mathlib.Core.List.{Memᴰ}
use lib.ListN.{get_elem?}
use Rattle.book.specs.Grammar.{Grammar, symbols}
use Rattle.finding.specs.Numbered.{Arrow}
use Rattle.finding.proofs.Laws.{first_entry, upto_has}
use Rattle.theory.specs.Items.{Item, item, items, Dotted, Sound}
use Rattle.theory.specs.Closure.{Closed, closure, carried, initial, Carried}
use Rattle.theory.specs.Closure.Closed.{kernel, opened}
use Rattle.theory.specs.Machine.{Machine, HasItem, Holds}
use Rattle.theory.proofs.Lists.{some_one}
use Rattle.theory.proofs.Items.{dotted_below, dotted_next, rule_first, first_rewrites, after_known, item_zero}
use Rattle.theory.proofs.Closure.{closure_members, carried_members, goto_carried, goto_only}
use Rattle.theory.proofs.Numbering.{entry_left, move_made, step_made}
use Rattle.theory.proofs.Graphs.{Closes, Outset, Over}
use Rattle.theory.proofs.Graphs.Closes.{kernel as c_kernel, opened as c_opened}

pub same_item : (g : Grammar) (k : ℕ) {a b : ℕ} {l m r s : List ℕ} → Dotted g k a l r → Dotted g k b m s → item a l r ≡ item b m s
same_item g k d e = some_one d e

-- ── closure by number and by content ──

module _ (g : Grammar) (u : Sound g) where
  pub closed_content : {K : List ℕ} (P : ℕ → List ℕ → List ℕ → Type 0) → ((k a : ℕ) (l r : List ℕ) → Memᴰ k K → Dotted g k a l r → P a l r) → {k : ℕ} → Closed g K k → {a : ℕ} {l r : List ℕ} → Dotted g k a l r → Closes g P a l r
  closed_content P f (kernel {k = k} m h) {a} {l} {r} d = c_kernel (f k a l r m d)
  closed_content P f (opened {j = j} {k = k} {c = c} {s = s} i d e) {a} {l} {r} t =
      let q : item c [] s ≡ item a l r = same_item g k e t in
      subst (λ (w : Item). Closes g P w.left w.before w.after) q (c_opened (closed_content P f i d) (first_rewrites g u j k d e))

  pub content_closed : {K : List ℕ} {P : ℕ → List ℕ → List ℕ → Type 0} → ((a : ℕ) (l r : List ℕ) → P a l r → (k : ℕ) × Memᴰ k K × Dotted g k a l r) → {a : ℕ} {l r : List ℕ} → Closes g P a l r → (k : ℕ) × Closed g K k × Dotted g k a l r
  content_closed f (c_kernel {a = a} {l = l} {r = r} p) = let (k, m, d) = f a l r p in (k, kernel m (dotted_below g k d), d)
  content_closed f (c_opened i h) =
      let (j, c, d) = content_closed f i in
      let (k, e) = rule_first g h.1 in (k, opened c d e, e)

  one_zero : {k a : ℕ} {l r : List ℕ} → Memᴰ k (0 ∷ []) → Dotted g k a l r → Outset g a l r
  one_zero {k} {a} {l} {r} m d =
      let z : k ≡ 0 = ⊎_elim (λ e. e) (λ n. absurd (Memᴰ.not-nil n)) (Memᴰ.cases_cons m) in
      let q : item a l r ≡ item (symbols g) [] (g.start ∷ []) = same_item g 0 (subst (λ n. Dotted g n a l r) z d) (item_zero g) in
      record { left = ap (λ (w : Item). w.left) q; none = ap (λ (w : Item). w.before) q; whole = ap (λ (w : Item). w.after) q }

  module _ {states : List (List ℕ)} {moves : List Arrow} (n : Machine g states moves) where
    pub state_zero : get_elem? states 0 ≡ some (initial g)
    state_zero = first_entry n

    has_in : {s k : ℕ} {set : List ℕ} → get_elem? states s ≡ some set → HasItem states s k → Memᴰ k set
    has_in {k = k} e h = subst (Memᴰ k) (some_one h.at e) h.member

    pub zero_closed : {k : ℕ} → HasItem states 0 k ↔ Closed g (0 ∷ []) k
    zero_closed {k} = (
      (λ h. (closure_members g (0 ∷ []) k).0 (has_in state_zero h)),
      (λ c. record { set = initial g; at = state_zero; member = (closure_members g (0 ∷ []) k).1 c }),
    )

    pub zeroth : (a : ℕ) (l r : List ℕ) → Holds g states 0 a l r ↔ Closes g (Outset g) a l r
    zeroth a l r = (
      (λ i. closed_content (Outset g) (λ k a l r m d. one_zero m d) (zero_closed.0 i.has) i.is),
      (λ c. let (k, h, d) = content_closed (λ a l r (o : Outset g a l r). (0, Memᴰ.head refl, (λ i. some (item (sym o.left i) (sym o.none i) (sym o.whole i))))) c in
          record { number = k; has = zero_closed.1 h; is = d }),
    )

    -- a move's ends: the set left, and the closure reached
    pub record Ends (q x p : ℕ) : Type 0 where
      pub from : List ℕ
      pub at : get_elem? states q ≡ some from
      pub number : ℕ
      pub by : Carried g from x number
      pub to : get_elem? states p ≡ some (closure g (carried (items g) from x))

    pub ends : {q x p : ℕ} → Memᴰ (q, x, p) moves → Ends q x p
    ends {q} {x} {p} v =
        let (set, e) = entry_left (symbols g) n v in
        let d = move_made (symbols g) n e v in
        let r = goto_only g set x d.steps in
        record { from = set; at = e; number = r.number; by = r.by; to = d.place ∙ ap some r.is }

    pub move_closed : {q x p : ℕ} (e : Ends q x p) {k : ℕ} → HasItem states p k ↔ Closed g (carried (items g) e.from x) k
    move_closed {x = x} e {k} = (
      (λ h. (closure_members g (carried (items g) e.from x) k).0 (has_in e.to h)),
      (λ c. record { set = closure g (carried (items g) e.from x); at = e.to; member = (closure_members g (carried (items g) e.from x) k).1 c }),
    )

    over_content : (q x : ℕ) {p : ℕ} (e : Ends q x p) (k a : ℕ) (l r : List ℕ) → Memᴰ k (carried (items g) e.from x) → Dotted g k a l r → Over (Holds g states q) x a l r
    over_content q x e k a l r m d =
        let c = (carried_members g e.from x k).0 m in
        let t : Dotted g k c.left (c.before ++ (x ∷ [])) c.after = subst (λ j. Dotted g j c.left (c.before ++ (x ∷ [])) c.after) (sym c.number) (dotted_next g c.from c.item) in
        let w : item c.left (c.before ++ (x ∷ [])) c.after ≡ item a l r = same_item g k t d in
        let la : c.left ≡ a = ap (λ (i : Item). i.left) w in
        let ra : c.after ≡ r = ap (λ (i : Item). i.after) w in
        record {
          rest = c.before;
          was = record {
            number = c.from;
            has = record { set = e.from; at = e.at; member = c.member };
            is = c.item ∙ (λ i. some (item (la i) c.before (x ∷ ra i)));
          };
          is = sym (ap (λ (i : Item). i.before) w);
        }

    content_over : (q x : ℕ) {p : ℕ} (e : Ends q x p) (a : ℕ) (l r : List ℕ) → Over (Holds g states q) x a l r → (k : ℕ) × Memᴰ k (carried (items g) e.from x) × Dotted g k a l r
    content_over q x e a l r o =
        let h = o.was in (
          suc h.number,
          (carried_members g e.from x (suc h.number)).1
              (record { from = h.number; member = has_in e.at h.has; left = a; before = o.rest; after = r; item = h.is; number = refl }),
          dotted_next g h.number h.is ∙ ap (λ m. some (item a m r)) (sym o.is),
        )

    pub moved : (q x p : ℕ) → Memᴰ (q, x, p) moves → (a : ℕ) (l r : List ℕ) → Holds g states p a l r ↔ Closes g (Over (Holds g states q) x) a l r
    moved q x p v a l r =
        let e = ends v in (
          (λ i. closed_content (Over (Holds g states q) x) (over_content q x e) ((move_closed e).0 i.has) i.is),
          (λ c. let (k, h, d) = content_closed (content_over q x e) c in record { number = k; has = (move_closed e).1 h; is = d }),
        )

    pub moves_when : (q x a : ℕ) (l r : List ℕ) → Holds g states q a l (x ∷ r) → (p : ℕ) × Memᴰ (q, x, p) moves
    moves_when q x a l r i =
        let h = i.has in
        let c : Carried g h.set x (suc i.number) = record { from = i.number; member = h.member; left = a; before = l; after = r; item = i.is; number = refl } in
        let (p, v, z) = step_made (symbols g) n h.at (upto_has (symbols g) _ (after_known g u i.number i.is)) (goto_carried g h.set x c) in
        (p, v)

    pub moves_only : (q x p : ℕ) → Memᴰ (q, x, p) moves → (a : ℕ) × (l : List ℕ) × (r : List ℕ) × Holds g states q a l (x ∷ r)
    moves_only q x p v =
        let e = ends v in let c = e.by in
        (c.left, c.before, c.after, record { number = c.from; has = record { set = e.from; at = e.at; member = c.member }; is = c.item })
