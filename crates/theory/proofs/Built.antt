-- What is built is the flattened acceptor.
use Rattle.std.proofs.Common.{◌≡◌, ℕ, ◌<◌, ◌↔◌, List, [], ◌∷◌, length, sym, refl, ap, ◌∙◌, subst, ⊎_elim}
use mathlib.Core.Option.{Option, none, some}
use mathlib.Core.List.Memᴰ
use mathlib.Core.List.{Memᴰ}
use Rattle.std.specs.List.{flat_map}
use Rattle.book.specs.Grammar.{Rule, rule, Grammar, symbols, Rewrites}
use Rattle.finding.specs.Numbered.{Arrow, upto}
use Rattle.finding.proofs.Laws.{upto_has}
use Rattle.table.proofs.Lists.{stands_below}
use Rattle.theory.specs.Lists.{same}
use Rattle.theory.specs.Items.{Sound}
use Rattle.theory.specs.Closure.{goto, initial}
use Rattle.theory.specs.Machine.{Machine}
use Rattle.theory.specs.Policies.{Meaning}
use Rattle.theory.specs.Unfolding.{along, Node, node, onward, Unfolded, FinalNode}
use Rattle.theory.specs.Flattening.{Acceptor, word_moves, Leads, Jump, FlattenedFrom, Flattened}
use Rattle.theory.specs.Flattening.Leads.{here, on}
use Rattle.theory.specs.Executable.{Search, numbered, same_node, walk, leap, leaps, jumps_among, Built, finish, unfold_from, build}
use Rattle.theory.proofs.Lists.{some_one, none_some}
use Rattle.theory.proofs.Numbering.{entry_left, move_made, move_one, moves_rise}
use Rattle.theory.proofs.Unfolding.{along_mem, along_is, final_node}
use Rattle.theory.proofs.Flattening.{over_completes}
use Rattle.theory.proofs.Arcs.{word_moves_are, word_moves_rise}
use Rattle.theory.proofs.Searching.{computed}
use Rattle.theory.proofs.Building.{same_tells, node_tells, joined_mem, joined_only, jumps_among_rise, jumps_among_only, jumps_among_mem}

-- ── walks ──

walk_on : (moves : List Arrow) (q x : ℕ) (xs : List ℕ) {p : ℕ} → along moves q x ≡ some p → walk moves q (x ∷ xs) ≡ walk moves p xs
walk_on moves q x xs e = rw (e, walk)

walk_none : (moves : List Arrow) (q x : ℕ) (xs : List ℕ) → along moves q x ≡ none → walk moves q (x ∷ xs) ≡ none
walk_none moves q x xs e = rw (e, walk)

walk_leads : (moves : List Arrow) (xs : List ℕ) (q : ℕ) {p : ℕ} → walk moves q xs ≡ some p → Leads moves q xs p
walk_leads moves [] q e = subst (Leads moves q []) (some_one refl e) here
walk_leads moves (x ∷ xs) q {p} e = cases (λ t h. walk_leads moves xs t h) (along moves q x) refl
  where
    cases : ((t : ℕ) → walk moves t xs ≡ some p → Leads moves t xs p) → (o : Option ℕ) → along moves q x ≡ o → Leads moves q (x ∷ xs) p
    cases again none h = absurd (none_some (walk_none moves q x xs h) e)
    cases again (some t) h = on (along_mem moves h) (again t (sym (walk_on moves q x xs h) ∙ e))

-- where an entry has one move on a symbol
module _ (moves : List Arrow) (one : (q x p r : ℕ) → Memᴰ (q, x, p) moves → Memᴰ (q, x, r) moves → p ≡ r) where
  leads_walk : {q p : ℕ} {xs : List ℕ} → Leads moves q xs p → walk moves q xs ≡ some p
  leads_walk here = refl
  leads_walk (on {q = q} {x = x} {xs = xs} v l) = walk_on moves q x xs (along_is moves one v) ∙ leads_walk l

  -- ── jumps ──

  leap_is : (q : ℕ) (r : Rule) {p to : ℕ} → walk moves q r.right ≡ some p → along moves q r.left ≡ some to → leap moves q r ≡ (p, to) ∷ []
  leap_is q r h k = rw (h, leap) (rw k)

  leap_short : (q : ℕ) (r : Rule) → walk moves q r.right ≡ none → leap moves q r ≡ []
  leap_short q r h = rw (h, leap)

  leap_none : (q : ℕ) (r : Rule) {p : ℕ} → walk moves q r.right ≡ some p → along moves q r.left ≡ none → leap moves q r ≡ []
  leap_none q r h k = rw (h, leap) (rw k)

  record Leapt (q : ℕ) (r : Rule) (p to : ℕ) : Type 0 where
    walks : walk moves q r.right ≡ some p
    moves_on : along moves q r.left ≡ some to

  leap_only : (q : ℕ) (r : Rule) {p to : ℕ} → Memᴰ (p, to) (leap moves q r) → Leapt q r p to
  leap_only q r {p} {to} m = cases (walk moves q r.right) refl (along moves q r.left) refl
    where
      cases : (o : Option ℕ) → walk moves q r.right ≡ o → (u : Option ℕ) → along moves q r.left ≡ u → Leapt q r p to
      cases none h u k = absurd (Memᴰ.not-nil (subst (Memᴰ (p, to)) (leap_short q r h) m))
      cases (some a) h none k = absurd (Memᴰ.not-nil (subst (Memᴰ (p, to)) (leap_none q r h k) m))
      cases (some a) h (some b) k =
          ⊎_elim
          (λ e. record { walks = h ∙ ap some (sym (ap (λ (w : ℕ × ℕ). w.0) e)); moves_on = k ∙ ap some (sym (ap (λ (w : ℕ × ℕ). w.1) e)) })
          (λ z. absurd (Memᴰ.not-nil z))
          (Memᴰ.cases_cons (subst (Memᴰ (p, to)) (leap_is q r h k) m))

  leaps_mem : (rules : List Rule) (n q : ℕ) (r : Rule) {p to : ℕ} → q < n → Memᴰ r rules → Leads moves q r.right p → Memᴰ (q, r.left, to) moves → Memᴰ (p, to) (leaps moves rules n)
  leaps_mem rules n q r {p} {to} b m l v =
      joined_mem (λ q. flat_map (leap moves q) rules) (upto n) (upto_has n _ b)
      (joined_mem (leap moves q) rules m (subst (Memᴰ (p, to)) (sym (leap_is q r (leads_walk l) (along_is moves one v))) (Memᴰ.head refl)))

module _ (g : Grammar) (u : Sound g) {sets : List (List ℕ)} {moves : List Arrow} (mt : Machine g sets moves) (m : Meaning)
    {nodes : List Node} {arrows : List Arrow} (un : Unfolded m moves (symbols g) nodes arrows) where
  one : (q x p r : ℕ) → Memᴰ (q, x, p) arrows → Memᴰ (q, x, r) arrows → p ≡ r
  one q x p r v w = move_one (symbols g) un v w

  left_below : {q x p : ℕ} → Memᴰ (q, x, p) arrows → q < length nodes
  left_below {q} v = let (n, e) = entry_left (symbols g) un v in stands_below nodes q _ e

  right_below : {q x p : ℕ} → Memᴰ (q, x, p) arrows → p < length nodes
  right_below {q} {x} {p} v = let (n, e) = entry_left (symbols g) un v in stands_below nodes p _ (move_made (symbols g) un e v).place

  pub jumps_are : (p to : ℕ) → Memᴰ (p, to) (jumps_among (leaps arrows g.rules (length nodes)) (length nodes)) ↔ Jump g sets nodes arrows p to
  jumps_are p to = (
    (λ k. let (q, i, j) = joined_only (λ q. flat_map (leap arrows q) g.rules) (upto (length nodes)) (jumps_among_only (leaps arrows g.rules (length nodes)) (length nodes) k) in
        let (r, w, z) = joined_only (leap arrows q) g.rules j in
        let t = leap_only arrows one q r z in
        let l = walk_leads arrows r.right q t.walks in
        let v = along_mem arrows t.moves_on in
        let h : Rewrites g r.left r.right = (u.lefts_named r w, w) in
        record { left = r.left; side = r.right; from = q; rewrites = h; item = over_completes g u mt m un h l v; leads = l; over = v }),
    (λ (j : Jump g sets nodes arrows p to).
        jumps_among_mem (leaps arrows g.rules (length nodes)) (length nodes) (stands_below nodes p _ j.item.at) (right_below j.over)
        (leaps_mem arrows one g.rules (length nodes) j.from (rule j.left j.side) (left_below j.over) j.rewrites.1 j.leads j.over)),
  )

  pub final_along : {p : ℕ} → along arrows 0 g.start ≡ some p → FinalNode sets nodes p
  final_along {p} e =
      let (q, v, h) = final_node g u mt m un in
      subst (FinalNode sets nodes) (one 0 g.start q p v (along_mem arrows e)) h

-- ── building ──

-- the parts of what is built are the machine, its unfolding and the acceptor
pub record Sure (g : Grammar) (m : Meaning) (b : Built) : Type 0 where
  pub machine : Machine g b.sets b.moves
  pub unfolded : Unfolded m b.moves (symbols g) b.nodes b.unfolded_moves
  pub flat : FlattenedFrom g b.sets b.nodes b.unfolded_moves b.acceptor

finish_is : (g : Grammar) → Sound g → (m : Meaning) (s : Search (List ℕ)) (t : Search Node) → Machine g s.entries s.moves → Unfolded m s.moves (symbols g) t.entries t.moves
    → {b : Built} → finish g s t ≡ some b → Sure g m b
finish_is g u m s t mt un {b} h = cases (along t.moves 0 g.start) refl
  where
    cases : (o : Option ℕ) → along t.moves 0 g.start ≡ o → Sure g m b
    cases none e = absurd (none_some (let k : finish g s t ≡ none = rw (e, finish) in k) h)
    cases (some final) e =
        let f : Acceptor =
        record {
          words = g.words;
          nodes = length t.entries;
          final = final;
          arcs = word_moves g.words t.moves;
          jumps = jumps_among (leaps t.moves g.rules (length t.entries)) (length t.entries);
        } in
        let k : finish g s t ≡ some (record { sets = s.entries; moves = s.moves; nodes = t.entries; unfolded_moves = t.moves; acceptor = f }) = rw (e, finish) in
        subst (Sure g m) (some_one k h)
        (record {
          machine = mt;
          unfolded = un;
          flat = record {
            words_are = refl;
            nodes_are = refl;
            final_is = final_along g u mt m un e;
            arcs_are = word_moves_are g.words t.moves;
            arcs_rise = word_moves_rise g.words t.moves (moves_rise (symbols g) un);
            jumps_are = jumps_are g u mt m un;
            jumps_rise = jumps_among_rise (leaps t.moves g.rules (length t.entries)) (length t.entries);
          };
        })

unfold_is : (g : Grammar) → Sound g → (m : Meaning) (rounds : ℕ) (s : Search (List ℕ)) → Machine g s.entries s.moves → {b : Built} → unfold_from g m rounds s ≡ some b → Sure g m b
unfold_is g u m rounds s mt {b} h = cases (numbered same_node (onward m s.moves) (upto (symbols g)) rounds (node 0 m.first)) refl
  where
    cases : (o : Option (Search Node)) → numbered same_node (onward m s.moves) (upto (symbols g)) rounds (node 0 m.first) ≡ o → Sure g m b
    cases none e = absurd (none_some (let k : unfold_from g m rounds s ≡ none = rw (e, unfold_from) in k) h)
    cases (some t) e =
        let k : unfold_from g m rounds s ≡ finish g s t = rw (e, unfold_from) in
        finish_is g u m s t mt (computed node_tells (onward m s.moves) (upto (symbols g)) rounds (node 0 m.first) e) (sym k ∙ h)

pub built : (g : Grammar) → Sound g → (m : Meaning) (rounds : ℕ) {b : Built} → build g m rounds ≡ some b → Sure g m b
built g u m rounds {b} h = cases (numbered same (goto g) (upto (symbols g)) rounds (initial g)) refl
  where
    cases : (o : Option (Search (List ℕ))) → numbered same (goto g) (upto (symbols g)) rounds (initial g) ≡ o → Sure g m b
    cases none e = absurd (none_some (let k : build g m rounds ≡ none = rw (e, build) in k) h)
    cases (some s) e =
        let k : build g m rounds ≡ unfold_from g m rounds s = rw (e, build) in
        unfold_is g u m rounds s (computed same_tells (goto g) (upto (symbols g)) rounds (initial g) e) (sym k ∙ h)

pub built_flattened : (g : Grammar) → Sound g → (m : Meaning) (rounds : ℕ) {b : Built} → build g m rounds ≡ some b → Flattened g m b.acceptor
built_flattened g u m rounds {b} h =
    let s = built g u m rounds h in
    record { states = b.sets; moves = b.moves; nodes = b.nodes; unfolded_moves = b.unfolded_moves; machine = s.machine; unfolded = s.unfolded; flat = s.flat }
