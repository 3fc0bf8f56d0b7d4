-- Sets of nodes have just the nodes to which words lead, and the determinised acceptor has the same sentences.
use Rattle.std.proofs.Common.{◌≡◌, ℕ, ◌<◌, true, eqb, ◌↔◌, List, [], ◌∷◌, ◌++◌, map, length, sym, refl, ap, ◌∙◌, subst, ⊎_elim, append_assoc, append-nil, arith, eq-eqb, eqb-true}
use mathlib.Core.Option.{none, some}
use mathlib.Core.List.Memᴰ
use mathlib.Core.List.{Memᴰ}
use lib.ListN.{get_elem?}
use Rattle.finding.specs.Numbered.{Arrow, upto}
use Rattle.finding.proofs.Laws.{first_entry, upto_has, upto_below, upto_ascending, numbered_unique}
use Rattle.table.proofs.Lists.{stands_map}
use Rattle.table.proofs.Orders.{ascending_same}
use Rattle.table.specs.Lists.{Ascending}
use Rattle.theory.specs.Lists.{and, keep, any, Reach}
use Rattle.theory.specs.Lists.Reach.{base, step}
use Rattle.theory.specs.Flattening.{Acceptor, Leads}
use Rattle.theory.specs.Flattening.Leads.{here, on}
use Rattle.theory.specs.Sentences.{Reads, Passes}
use Rattle.theory.specs.Sentences.Reads.{stop, arc, jump}
use Rattle.theory.specs.Subsets.{InRange, jumps_to, arcs_to, spread, first_set, word_set, words_set, passes, subset_step, Determined, Determinised, DeterminedPasses, SubsetLaws}
use Rattle.theory.proofs.Lists.{and_is, and_only, some_one, none_some, keep_mem, mem_keep, any_mem, mem_any}
use Rattle.theory.proofs.Saturated.{saturated, saturate_ascending}
use Rattle.theory.proofs.Numbering.{move_made, step_made as step_on}

-- ── readings ──

pub reads_++ : {f : Acceptor} {q r p : ℕ} {u v : List ℕ} → Reads f q u r → Reads f r v p → Reads f q (u ++ v) p
reads_++ stop k = k
reads_++ (arc a y) k = arc a (reads_++ y k)
reads_++ (jump j y) k = jump j (reads_++ y k)

-- a reading of one word more: up to its arc, over it, and jumps
record LastWord (f : Acceptor) (q : ℕ) (w : List ℕ) (x p : ℕ) : Type 0 where
  left : ℕ
  right : ℕ
  front : Reads f q w left
  over : Memᴰ (left, x, right) f.arcs
  back : Reads f right [] p

last_word : {f : Acceptor} {q p : ℕ} {v : List ℕ} → Reads f q v p → (w : List ℕ) (x : ℕ) → v ≡ w ++ (x ∷ []) → LastWord f q w x p
last_word stop [] x e = absurd (cc)
last_word stop (y ∷ w) x e = absurd (cc)
last_word {f} {q} {p} (arc {r = r} {x = y} {w = u} a k) [] x e =
    let d : y ≡ x = cc in let g : u ≡ [] = cc in
    record { left = q; right = r; front = stop; over = subst (λ i. Memᴰ (q, i, r) f.arcs) d a; back = subst (λ l. Reads f r l p) g k }
last_word {f} {q} (arc {r = r} {x = y} {w = u} a k) (z ∷ w) x e =
    let d : y ≡ z = cc in let g : u ≡ w ++ (x ∷ []) = cc in
    let c = last_word k w x g in
    record { left = c.left; right = c.right; front = arc (subst (λ i. Memᴰ (q, i, r) f.arcs) d a) c.front; over = c.over; back = c.back }
last_word (jump j k) w x e = let c = last_word k w x e in record { left = c.left; right = c.right; front = jump j c.front; over = c.over; back = c.back }

-- a reading of two lists in a row stops between them
record Parted (f : Acceptor) (q : ℕ) (u v : List ℕ) (p : ℕ) : Type 0 where
  middle : ℕ
  front : Reads f q u middle
  back : Reads f middle v p

parted : {f : Acceptor} {q p : ℕ} {w : List ℕ} → Reads f q w p → (u v : List ℕ) → w ≡ u ++ v → Parted f q u v p
parted {f} {q} {p} stop [] v e = record { middle = q; front = stop; back = subst (λ l. Reads f q l p) e stop }
parted stop (y ∷ u) v e = absurd (cc)
parted {f} {q} {p} (arc a k) [] v e = record { middle = q; front = stop; back = subst (λ l. Reads f q l p) e (arc a k) }
parted {f} {q} (arc {r = r} {x = x} {w = w} a k) (y ∷ u) v e =
    let d : x ≡ y = cc in let g : w ≡ u ++ v = cc in
    let s = parted k u v g in
    record { middle = s.middle; front = arc (subst (λ i. Memᴰ (q, i, r) f.arcs) d a) s.front; back = s.back }
parted (jump j k) u v e = let s = parted k u v e in record { middle = s.middle; front = jump j s.front; back = s.back }

-- ── sets ──

jumps_to_only : (f : Acceptor) (j k : ℕ) → jumps_to f j k ≡ true → Memᴰ (j, k) f.jumps
jumps_to_only f j k e =
    let (a, m, h) = any_mem (λ (a : ℕ × ℕ). and (eqb a.0 j) (eqb a.1 k)) f.jumps e in
    let (p, q) = and_only (eqb a.0 j) (eqb a.1 k) h in
    let s = eqb-true a.0 j p in let t = eqb-true a.1 k q in
    subst (λ (w : ℕ × ℕ). Memᴰ w f.jumps) (λ i. (s i, t i)) m

jumps_to_is : (f : Acceptor) (j k : ℕ) → Memᴰ (j, k) f.jumps → jumps_to f j k ≡ true
jumps_to_is f j k m = mem_any (λ (a : ℕ × ℕ). and (eqb a.0 j) (eqb a.1 k)) f.jumps m (and_is (eqb j j) (eqb k k) (eq-eqb j j refl) (eq-eqb k k refl))

-- an arc on x leads from a member of the set to n
pub record FromSet (f : Acceptor) (set : List ℕ) (x n : ℕ) : Type 0 where
  pub from : ℕ
  pub member : Memᴰ from set
  pub over : Memᴰ (from, x, n) f.arcs

arcs_to_only : (f : Acceptor) (set : List ℕ) (x n : ℕ) → arcs_to f set x n ≡ true → FromSet f set x n
arcs_to_only f set x n e =
    let (a, m, h) = any_mem (λ (a : Arrow). and (eqb a.2 n) (and (eqb a.1 x) (any (eqb a.0) set))) f.arcs e in
    let (p, r) = and_only (eqb a.2 n) (and (eqb a.1 x) (any (eqb a.0) set)) h in
    let (q, s) = and_only (eqb a.1 x) (any (eqb a.0) set) r in
    let (k, w, t) = any_mem (eqb a.0) set s in
    let c = eqb-true a.2 n p in let b = eqb-true a.1 x q in let d = eqb-true a.0 k t in
    record { from = a.0; member = subst (λ i. Memᴰ i set) (sym d) w; over = subst (λ (w : Arrow). Memᴰ w f.arcs) (λ i. (a.0, b i, c i)) m }

arcs_to_is : (f : Acceptor) (set : List ℕ) (x n : ℕ) → FromSet f set x n → arcs_to f set x n ≡ true
arcs_to_is f set x n s =
    mem_any (λ (a : Arrow). and (eqb a.2 n) (and (eqb a.1 x) (any (eqb a.0) set))) f.arcs s.over
    (and_is (eqb n n) (and (eqb x x) (any (eqb s.from) set)) (eq-eqb n n refl)
    (and_is (eqb x x) (any (eqb s.from) set) (eq-eqb x x refl) (mem_any (eqb s.from) set s.member (eq-eqb s.from s.from refl))))

module _ (f : Acceptor) (fit : InRange f) where
  inside : (j k : ℕ) → jumps_to f j k ≡ true → Memᴰ j (upto f.nodes)
  inside j k e = upto_has f.nodes _ (fit.jumps_within j k (jumps_to_only f j k e)).0

  pub record Jumped (set : List ℕ) (n : ℕ) : Type 0 where
    pub from : ℕ
    pub member : Memᴰ from set
    pub reads : Reads f from [] n

  reach_jumped : {set : List ℕ} {n : ℕ} → Reach (upto f.nodes) (jumps_to f) set n → Jumped set n
  reach_jumped (base {k = k} u m) = record { from = k; member = m; reads = stop }
  reach_jumped (step {j = j} {k = k} r u e) =
      let s = reach_jumped r in record { from = s.from; member = s.member; reads = reads_++ s.reads (jump (jumps_to_only f j k e) stop) }

  jumped_reach : {q n : ℕ} {v : List ℕ} → Reads f q v n → v ≡ [] → {set : List ℕ} → Reach (upto f.nodes) (jumps_to f) set q → Reach (upto f.nodes) (jumps_to f) set n
  jumped_reach stop e r = r
  jumped_reach (arc a k) e r = absurd (cc)
  jumped_reach (jump {q = q} {r = t} j k) e r = jumped_reach k e (step r (upto_has f.nodes _ (fit.jumps_within q t j).1) (jumps_to_is f q t j))

  pub spread_members : (set : List ℕ) → ((k : ℕ) → Memᴰ k set → k < f.nodes) → (n : ℕ) → Memᴰ n (spread f set) ↔ Jumped set n
  spread_members set within n =
      let s = saturated (upto f.nodes) (jumps_to f) inside set n in (
        (λ m. reach_jumped (s.0 m)),
        (λ (j : Jumped set n). s.1 (jumped_reach j.reads refl (base (upto_has f.nodes _ (within j.from j.member)) j.member))),
      )

  pub spread_ascending : (set : List ℕ) → Ascending (spread f set)
  spread_ascending set = saturate_ascending (upto f.nodes) (jumps_to f) set (upto_ascending f.nodes)

  -- an ascending list of just those nodes is the spread set
  pub spread_unique : (set to : List ℕ) → ((k : ℕ) → Memᴰ k set → k < f.nodes) → Ascending to → ((n : ℕ) → Memᴰ n to ↔ Jumped set n) → to ≡ spread f set
  spread_unique set to within h m =
      ascending_same to (spread f set) h (spread_ascending set) (λ n i. (spread_members set within n).1 ((m n).0 i)) (λ n i. (m n).1 ((spread_members set within n).0 i))

  -- a member of the set, over an arc on x, and jumps
  pub record Onto (set : List ℕ) (x n : ℕ) : Type 0 where
    pub middle : ℕ
    pub by : FromSet f set x middle
    pub reads : Reads f middle [] n

  pub word_members : (set : List ℕ) (x n : ℕ) → Memᴰ n (word_set f set x) ↔ Onto set x n
  word_members set x n =
      let s = spread_members (keep (arcs_to f set x) (upto f.nodes)) (λ k m. upto_below f.nodes _ (keep_mem (arcs_to f set x) (upto f.nodes) m).0) n in (
        (λ m. let j = s.0 m in
            let (b, e) = keep_mem (arcs_to f set x) (upto f.nodes) j.member in
            record { middle = j.from; by = arcs_to_only f set x j.from e; reads = j.reads }),
        (λ (o : Onto set x n).
            let c = o.by in
            s.1 (record {
              from = o.middle;
              member = mem_keep (arcs_to f set x) (upto f.nodes) (upto_has f.nodes _ (fit.arcs_within c.from x o.middle c.over).2) (arcs_to_is f set x o.middle c);
              reads = o.reads;
            })),
      )

  -- an ascending list of just those nodes is the set after the word
  pub word_set_unique : (set : List ℕ) (x : ℕ) (to : List ℕ) → Ascending to → ((n : ℕ) → Memᴰ n to ↔ Onto set x n) → to ≡ word_set f set x
  word_set_unique set x to h m =
      ascending_same to (word_set f set x) h (spread_ascending (keep (arcs_to f set x) (upto f.nodes))) (λ n i. (word_members set x n).1 ((m n).0 i)) (λ n i. (m n).1 ((word_members set x n).0 i))

  -- the set has just the nodes to which w leads
  abbrev pub After : List ℕ → List ℕ → Type 0
  After w set = (n : ℕ) → Memᴰ n set ↔ Reads f 0 w n

  pub first_after : After [] (first_set f)
  first_after n =
      let s = spread_members (0 ∷ []) (λ k m. ⊎_elim (λ e. let h = fit.some_node in omega arith) (λ z. absurd (Memᴰ.not-nil z)) (Memᴰ.cases_cons m)) n in (
        (λ m. let j = s.0 m in
            let z : j.from ≡ 0 = ⊎_elim (λ e. e) (λ z. absurd (Memᴰ.not-nil z)) (Memᴰ.cases_cons j.member) in
            subst (λ q. Reads f q [] n) z j.reads),
        (λ r. s.1 (record { from = 0; member = Memᴰ.head refl; reads = r })),
      )

  -- an ascending list of just the nodes that jumps reach from node 0 is the first set
  pub first_set_unique : (to : List ℕ) → Ascending to → ((n : ℕ) → Memᴰ n to ↔ Reads f 0 [] n) → to ≡ first_set f
  first_set_unique to h m =
      ascending_same to (first_set f) h (spread_ascending (0 ∷ [])) (λ n i. (first_after n).1 ((m n).0 i)) (λ n i. (m n).1 ((first_after n).0 i))

  pub word_after : {w set : List ℕ} → After w set → (x : ℕ) → After (w ++ (x ∷ [])) (word_set f set x)
  word_after {w} {set} h x n =
      let s = word_members set x n in (
        (λ m. let o = s.0 m in reads_++ ((h o.by.from).0 o.by.member) (arc o.by.over o.reads)),
        (λ r. let c = last_word r w x refl in s.1 (record { middle = c.right; by = record { from = c.left; member = (h c.left).1 c.front; over = c.over }; reads = c.back })),
      )

  pub words_after : (v : List ℕ) {w set : List ℕ} → After w set → After (w ++ v) (words_set f set v)
  words_after [] {w} {set} h = subst (λ l. After l set) (sym (append-nil w)) h
  words_after (x ∷ v) {w} {set} h = subst (λ l. After l (words_set f (word_set f set x) v)) (append_assoc w (x ∷ []) v) (words_after v (word_after h x))

  pub set_is : (w : List ℕ) → After w (words_set f (first_set f) w)
  set_is w = words_after w first_after

  any_final : {w set : List ℕ} → After w set → (any (eqb f.final) set ≡ true) ↔ Passes f w
  any_final {w} {set} h = (
    (λ e. let (k, m, t) = any_mem (eqb f.final) set e in subst (Reads f 0 w) (sym (eqb-true f.final k t)) ((h k).0 m)),
    (λ r. mem_any (eqb f.final) set ((h f.final).1 r) (eq-eqb f.final f.final refl)),
  )

  pub passes_is : (w : List ℕ) → (passes f w ≡ true) ↔ Passes f w
  passes_is w = any_final (set_is w)

  -- ── the determinised acceptor ──

  step_empty : (set : List ℕ) (x : ℕ) → word_set f set x ≡ [] → subset_step f set x ≡ none
  step_empty set x e = rw (e, subset_step)

  step_some : (set : List ℕ) (x n : ℕ) (ns : List ℕ) → word_set f set x ≡ n ∷ ns → subset_step f set x ≡ some (n ∷ ns)
  step_some set x n ns e = rw (e, subset_step)

  pub step_only : (set : List ℕ) (x : ℕ) {to : List ℕ} → subset_step f set x ≡ some to → to ≡ word_set f set x
  step_only set x {to} h = cases (word_set f set x) refl
    where
      cases : (l : List ℕ) → word_set f set x ≡ l → to ≡ word_set f set x
      cases [] e = absurd (none_some (step_empty set x e) h)
      cases (n ∷ ns) e = some_one h (step_some set x n ns e) ∙ sym e

  pub step_made : (set : List ℕ) (x : ℕ) {n : ℕ} → Memᴰ n (word_set f set x) → subset_step f set x ≡ some (word_set f set x)
  step_made set x {n} m = cases (word_set f set x) refl
    where
      cases : (l : List ℕ) → word_set f set x ≡ l → subset_step f set x ≡ some (word_set f set x)
      cases [] e = absurd (Memᴰ.not-nil (subst (Memᴰ n) e m))
      cases (k ∷ ks) e = step_some set x k ks e ∙ ap some (sym e)

  module _ {d : Determined} (t : Determinised f d) where
    -- the set at a state, where some words lead to just its nodes
    record At (i : ℕ) (w : List ℕ) : Type 0 where
      set : List ℕ
      at : get_elem? t.sets i ≡ some set
      after : After w set

    leads_at : {i j : ℕ} {w : List ℕ} → Leads d.arcs i w j → {v : List ℕ} → At i v → At j (v ++ w)
    leads_at {i} here {v} a = subst (At i) (sym (append-nil v)) a
    leads_at {i} {j} (on {r = r} {x = x} {xs = xs} m l) {v} a =
        let k = move_made f.words t.numbered a.at m in
        let e = step_only a.set x k.steps in
        let b : At r (v ++ (x ∷ [])) = record { set = word_set f a.set x; at = k.place ∙ ap some e; after = word_after a.after x } in
        subst (At j) (append_assoc v (x ∷ []) xs) (leads_at l b)

    record Led (i : ℕ) (v w : List ℕ) : Type 0 where
      last : ℕ
      leads : Leads d.arcs i w last
      its : At last (v ++ w)

    -- words that are read lead through states
    at_leads : (w v : List ℕ) {i n : ℕ} → At i v → Reads f 0 (v ++ w) n → Led i v w
    at_leads [] v {i} a r = record { last = i; leads = here; its = subst (At i) (sym (append-nil v)) a }
    at_leads (x ∷ w) v {i} {n} a r =
        let shift : v ++ (x ∷ w) ≡ (v ++ (x ∷ [])) ++ w = sym (append_assoc v (x ∷ []) w) in
        let s = parted r (v ++ (x ∷ [])) w shift in
        let c = last_word s.front v x refl in
        let e = step_made a.set x ((word_after a.after x s.middle).1 s.front) in
        let (j, m, z) = step_on f.words t.numbered a.at (upto_has f.words _ (fit.arcs_within c.left x c.right c.over).1) e in
        let b : At j (v ++ (x ∷ [])) = record { set = word_set f a.set x; at = z; after = word_after a.after x } in
        let q = at_leads w (v ++ (x ∷ [])) b (subst (λ l. Reads f 0 l n) shift r) in
        record { last = q.last; leads = on m q.leads; its = subst (At q.last) (sym shift) q.its }

    at_first : At 0 []
    at_first = record { set = first_set f; at = first_entry t.numbered; after = first_after }

    final_at : {i : ℕ} {w : List ℕ} → (a : At i w) → get_elem? d.finals i ≡ some (any (eqb f.final) a.set)
    final_at {i} a = ap (λ l. get_elem? l i) t.finals_are ∙ stands_map (λ set. any (eqb f.final) set) t.sets i _ a.at

    pub same_sentences : (w : List ℕ) → DeterminedPasses d w ↔ Passes f w
    same_sentences w = (
      (λ p. let a = leads_at p.leads at_first in (any_final a.after).0 (some_one (final_at a) p.final)),
      (λ r. let q = at_leads w [] at_first r in
          record { last = q.last; leads = q.leads; final = final_at q.its ∙ ap some ((any_final q.its.after).1 r) }),
    )

  pub one_determined : (d e : Determined) → Determinised f d → Determinised f e → d ≡ e
  one_determined d e h k =
      let (s, a) = numbered_unique h.numbered k.numbered in
      let w : d.words ≡ e.words = h.words_are ∙ sym k.words_are in
      let n : d.states ≡ e.states = h.states_are ∙ ap length s ∙ sym k.states_are in
      let l : d.finals ≡ e.finals = h.finals_are ∙ ap (map (λ set. any (eqb f.final) set)) s ∙ sym k.finals_are in
      λ i. record { words = w i; states = n i; finals = l i; arcs = a i }

  pub subset_laws : SubsetLaws f
  subset_laws = record { set_is = set_is; passes_is = passes_is; same_sentences = λ d t w. same_sentences t w; one = one_determined }
