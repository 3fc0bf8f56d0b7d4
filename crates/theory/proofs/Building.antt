-- What is built is the flattened acceptor.
use Rattle.std.proofs.Common.{◌≡◌, ℕ, ◌<◌, Bool, true, eqb, List, [], ◌∷◌, map, sym, refl, ap, ◌∙◌, subst, ap₂, inl, inr, ⊎_elim, arith, eq-eqb, eqb-true}
use mathlib.Core.List.Memᴰ
use mathlib.Core.List.{Memᴰ}
use borrow.Author.Tests.{both_ways}
use Rattle.std.specs.List.{flat_map}
use Rattle.finding.specs.Numbered.{upto}
use Rattle.finding.proofs.Laws.{upto_has, upto_ascending}
use Rattle.table.proofs.Orders.{in_order_none, in_order_cons, in_order_head, in_order_tail, in_order_append}
use Rattle.table.specs.Lists.{InOrder, Ascending}
use Rattle.theory.specs.Lists.{any, same}
use Rattle.theory.specs.Policies.{Class}
use Rattle.theory.specs.Policies.Class.{states, pair}
use Rattle.theory.specs.Unfolding.{Node, node}
use Rattle.theory.specs.Flattening.{JumpLess}
use Rattle.theory.specs.Executable.{same_class, same_node, same_pair, pairs, jumps_among}
use Rattle.theory.proofs.Lists.{and_is, and_only, keep_mem, mem_keep, any_mem, mem_any, same_equal, in_order_keep}
use Rattle.theory.proofs.Searching.{Tells}

-- ── tests of equality ──

same_refl : (xs : List ℕ) → same xs xs ≡ true
same_refl [] = refl
same_refl (x ∷ xs) = let h : eqb x x ≡ true = eq-eqb x x refl in rw (h, same) (same_refl xs)

-- a test that never says yes to different entries, nor no to an entry and itself
tells_by : {A : Type 0} (equal : A → A → Bool) → ((x y : A) → equal x y ≡ true → x ≡ y) → ((x : A) → equal x x ≡ true) → Tells equal
tells_by equal f h = record { yes_if = f; no_if = λ x y e q. both_ways (equal x y) e (ap (equal x) (sym q) ∙ h x) }

pub same_tells : Tells same
same_tells = tells_by same same_equal same_refl

pub class_equal : (a b : Class) → same_class a b ≡ true → a ≡ b
class_equal (states a) (states b) e = ap states (same_equal a b e)
class_equal (states a) (pair c d) e = absurd (cc)
class_equal (pair a b) (states c) e = absurd (cc)
class_equal (pair a b) (pair c d) e = let (l, r) = and_only (same_class a c) (same_class b d) e in ap₂ pair (class_equal a c l) (class_equal b d r)

class_refl : (a : Class) → same_class a a ≡ true
class_refl (states a) = same_refl a
class_refl (pair a b) = and_is (same_class a a) (same_class b b) (class_refl a) (class_refl b)

node_equal : (a b : Node) → same_node a b ≡ true → a ≡ b
node_equal a b e =
    let (s, c) = and_only (eqb a.state b.state) (same_class a.class b.class) e in
    let p = eqb-true a.state b.state s in
    let q = class_equal a.class b.class c in λ i. node (p i) (q i)

pub node_tells : Tells same_node
node_tells =
    tells_by same_node node_equal (λ a. and_is (eqb a.state a.state) (same_class a.class a.class) (eq-eqb a.state a.state refl) (class_refl a.class))

pair_equal : (a b : ℕ × ℕ) → same_pair a b ≡ true → a ≡ b
pair_equal a b e =
    let (s, c) = and_only (eqb a.0 b.0) (eqb a.1 b.1) e in
    let p = eqb-true a.0 b.0 s in
    let q = eqb-true a.1 b.1 c in λ i. (p i, q i)

pair_refl : (a : ℕ × ℕ) → same_pair a a ≡ true
pair_refl a = and_is (eqb a.0 a.0) (eqb a.1 a.1) (eq-eqb a.0 a.0 refl) (eq-eqb a.1 a.1 refl)

-- ── joined lists and pairs ──

pub joined_mem : {A B : Type 0} (f : A → List B) (xs : List A) {a : A} {b : B} → Memᴰ a xs → Memᴰ b (f a) → Memᴰ b (flat_map f xs)
joined_mem f [] m i = absurd (Memᴰ.not-nil m)
joined_mem f (x ∷ xs) {a} {b} m i =
    ⊎_elim (λ e. Memᴰ.append_left (flat_map f xs) (subst (λ y. Memᴰ b (f y)) e i)) (λ k. Memᴰ.append_right (f x) (joined_mem f xs k i)) (Memᴰ.cases_cons m)

pub joined_only : {A B : Type 0} (f : A → List B) (xs : List A) {b : B} → Memᴰ b (flat_map f xs) → (a : A) × Memᴰ a xs × Memᴰ b (f a)
joined_only f [] m = absurd (Memᴰ.not-nil m)
joined_only f (x ∷ xs) m =
    ⊎_elim (λ k. (x, Memᴰ.head refl, k)) (λ k. let (a, i, j) = joined_only f xs k in (a, Memᴰ.tail i, j)) (Memᴰ.append_cases (f x) m)

pairs_mem : (ps ts : List ℕ) {p t : ℕ} → Memᴰ p ps → Memᴰ t ts → Memᴰ (p, t) (pairs ps ts)
pairs_mem ps ts {p} {t} m k = joined_mem (λ p. map (λ t. (p, t)) ts) ps m (Memᴰ.map (λ t. (p, t)) k)

row_in_order : (p : ℕ) (ts : List ℕ) → Ascending ts → InOrder JumpLess (map (λ t. (p, t)) ts)
row_in_order p [] h = in_order_none JumpLess
row_in_order p (t ∷ ts) h =
    in_order_cons JumpLess (p, t) (map (λ t. (p, t)) ts)
    (λ j m.
    let (s, k, e) = Memᴰ.of_map (λ (t : ℕ). (p, t)) ts m in
    inr (ap (λ (w : ℕ × ℕ). w.0) e, (let l = in_order_head ◌<◌ t ts h s k in let q : s ≡ j.1 = ap (λ (w : ℕ × ℕ). w.1) e in omega arith)))
    (row_in_order p ts (in_order_tail ◌<◌ t ts h))

pairs_in_order : (ps ts : List ℕ) → Ascending ps → Ascending ts → InOrder JumpLess (pairs ps ts)
pairs_in_order [] ts h k = in_order_none JumpLess
pairs_in_order (p ∷ ps) ts h k =
    in_order_append JumpLess (map (λ t. (p, t)) ts) (pairs ps ts) (row_in_order p ts k) (pairs_in_order ps ts (in_order_tail ◌<◌ p ps h) k)
    (λ a b m n.
    let (s, i, e) = Memᴰ.of_map (λ (t : ℕ). (p, t)) ts m in
    let (q, j, w) = joined_only (λ p. map (λ t. (p, t)) ts) ps n in
    let (r, o, f) = Memᴰ.of_map (λ (t : ℕ). (q, t)) ts w in
    let l = in_order_head ◌<◌ p ps h q j in
    let x : p ≡ a.0 = ap (λ (w : ℕ × ℕ). w.0) e in
    let y : q ≡ b.0 = ap (λ (w : ℕ × ℕ). w.0) f in
    inl (omega arith))

pub jumps_among_rise : (given : List (ℕ × ℕ)) (n : ℕ) → InOrder JumpLess (jumps_among given n)
jumps_among_rise given n =
    in_order_keep (λ (j : ℕ × ℕ). any (same_pair j) given) JumpLess (pairs (upto n) (upto n)) (pairs_in_order (upto n) (upto n) (upto_ascending n) (upto_ascending n))

pub jumps_among_only : (given : List (ℕ × ℕ)) (n : ℕ) {j : ℕ × ℕ} → Memᴰ j (jumps_among given n) → Memᴰ j given
jumps_among_only given n {j} m =
    let (k, e) = keep_mem (λ (j : ℕ × ℕ). any (same_pair j) given) (pairs (upto n) (upto n)) m in
    let (i, w, q) = any_mem (same_pair j) given e in
    subst (λ (t : ℕ × ℕ). Memᴰ t given) (sym (pair_equal j i q)) w

pub jumps_among_mem : (given : List (ℕ × ℕ)) (n : ℕ) {p t : ℕ} → p < n → t < n → Memᴰ (p, t) given → Memᴰ (p, t) (jumps_among given n)
jumps_among_mem given n {p} {t} h k m =
    mem_keep (λ (j : ℕ × ℕ). any (same_pair j) given) (pairs (upto n) (upto n)) (pairs_mem (upto n) (upto n) (upto_has n _ h) (upto_has n _ k)) (mem_any (same_pair (p, t)) given m (pair_refl (p, t)))
