-- Where the arcs and jumps of bytes stand.
use Rattle.std.proofs.Common.{◌≡◌, ℕ, ◌+◌, ◌*◌, ◌/◌, ◌<◌, ◌≤◌, List, map, length, Some, None, sym, ap, ◌∙◌, subst, inl, inr, ⊎_elim, zero-add, arith}
use mathlib.Core.List.{Memᴰ}
use Rattle.std.specs.List.{range_with_len}
use Rattle.std.proofs.lemmas.List.FromFn.{length-map-range_with_len, get_or-map-range_with_len}
use Rattle.std.proofs.lemmas.Bool.{cases_lt}
use Rattle.table.specs.Lists.{StandsAt, InOrder}
use Rattle.table.proofs.Lists.{stands_getD, stands_below, stands_same, stands_map, stands_unmap, mem_at, at_mem}
use Rattle.finding.specs.Laws.{Rises}
use Rattle.finding.specs.Numbered.{Arrow}
use Rattle.flattening.specs.Places.{MoveOn}
use Rattle.fields.specs.Reading.{arc_in}
use Rattle.acceptor.specs.Rising.{Less, Parted}
use Rattle.acceptor.proofs.Halving.{key_at, not_front}
use Rattle.acceptor.specs.Rows.{arcs_of, arc_key, LeastWord}

-- what a function of the index makes stands at its index
pub made_stands : {A : Type 0} (f : ℕ → A) (n k : ℕ) → k < n → StandsAt (map f (range_with_len 0 n)) k (f k)
made_stands f n k h =
    let l = length-map-range_with_len f 0 n in
    subst (StandsAt (map f (range_with_len 0 n)) k) (get_or-map-range_with_len f 0 n k k (f k) h (omega arith)) (stands_getD (map f (range_with_len 0 n)) k (f k) (omega arith))

module _ (bytes : List ℕ) where
  pub arcs_length : length (arcs_of bytes) ≡ length bytes / 6
  arcs_length = length-map-range_with_len (λ k. arc_in bytes (0 + 6 * k)) 0 (length bytes / 6)

  pub arc_stands : (k : ℕ) → k < length bytes / 6 → StandsAt (arcs_of bytes) k (arc_in bytes (6 * k))
  arc_stands k h = subst (λ at. StandsAt (arcs_of bytes) k (arc_in bytes at)) (zero-add (6 * k)) (made_stands (λ k. arc_in bytes (0 + 6 * k)) (length bytes / 6) k h)

-- ── arcs that rise, by the node or state left and the word ──

module _ (arcs : List Arrow) (rising : InOrder Rises arcs) where
  -- so do what they are found by
  pub keys_rise : InOrder Less (map arc_key arcs)
  keys_rise j k t u h s v =
      let (a, at, e) = stands_unmap arc_key arcs j t s in
      let (b, bt, d) = stands_unmap arc_key arcs k u v in
      subst (λ x. Less x u) e (subst (λ y. Less (arc_key a) y) d (rising j k a b h at bt))

  module _ {q x n : ℕ} (parted : Parted (map arc_key arcs) (q, x) n) where
    keyed : (y p : ℕ) → Memᴰ (q, y, p) arcs → (k : ℕ) × StandsAt arcs k (q, y, p) × StandsAt (map arc_key arcs) k (q, y)
    keyed y p m = let (k, s) = at_mem arcs (q, y, p) m in (k, s, stands_map arc_key arcs k (q, y, p) s)

    -- the arc on x stands where the arcs part
    pub arc_at : (p : ℕ) → Memᴰ (q, x, p) arcs → StandsAt arcs n (q, x, p)
    arc_at p m =
        let (k, s, t) = keyed x p m in
        subst (λ j. StandsAt arcs j (q, x, p)) (key_at (map arc_key arcs) keys_rise parted k t) s

    -- what leaves q on x or more stands there or later
    later : (y p k : ℕ) → x ≤ y → StandsAt (map arc_key arcs) k (q, y) → n ≤ k
    later y p k h t = not_front (map arc_key arcs) keys_rise parted k (q, y) t (λ (l : Less (q, y) (q, x)). grind arith)

    pub no_arcs : length arcs ≤ n → LeastWord arcs q x None
    no_arcs few y h (p, m) = let (k, s, t) = keyed y p m in omega (arith, later y p k h t, stands_below arcs k (q, y, p) s)

    module _ (a : Arrow) (at : StandsAt arcs n a) where
      -- the arc where they part leaves another
      pub other_left : (a.0 ≡ q → ⊥) → (y p : ℕ) → x ≤ y → Memᴰ (q, y, p) arcs → ⊥
      other_left ne y p h m =
          let (k, s, t) = keyed y p m in
          ⊎_elim (λ l. past (rising n k a (q, y, p) l at s))
          (λ l. let e : k ≡ n = omega (arith, later y p k h t) in
          ne (ap (λ (b : Arrow). b.0) (stands_same arcs n a (q, y, p) at (subst (λ j. StandsAt arcs j (q, y, p)) e s))))
          (cases_lt n k)
        where
          past : Rises a (q, y, p) → ⊥
          past (inl l) = parted.rest n (arc_key a) (omega arith) (stands_map arc_key arcs n a at) (inl l)
          past (inr l) = ne l.0

      -- it leaves q: on the least word
      pub least_word : a.0 ≡ q → (x ≤ a.1) × ((z p : ℕ) → x ≤ z → z < a.1 → Memᴰ (q, z, p) arcs → ⊥)
      least_word e = (
        ⊎_elim (λ l. absurd (parted.rest n (arc_key a) (omega arith) (stands_map arc_key arcs n a at) (inr (e, l)))) (λ l. l) (cases_lt a.1 x),
        λ z p h less m.
            let (k, s, t) = keyed z p m in
            ⊎_elim (λ l. let r : Rises a (q, z, p) = rising n k a (q, z, p) l at s in grind arith)
            (λ l. let d : k ≡ n = omega (arith, later z p k h t) in
            let w = ap (λ (b : Arrow). b.1) (stands_same arcs n a (q, z, p) at (subst (λ j. StandsAt arcs j (q, z, p)) d s)) in omega arith)
            (cases_lt n k),
      )

    -- ── what is answered ──

    -- no arc stands there
    pub past_target : length arcs ≤ n → MoveOn arcs q x None
    past_target few p m = omega (arith, stands_below arcs n (q, x, p) (arc_at p m))

    module _ (a : Arrow) (at : StandsAt arcs n a) (key : ℕ × ℕ) (its : key ≡ arc_key a) where
      left : key.0 ≡ a.0
      left = ap (λ (k : ℕ × ℕ). k.0) its

      word : key.1 ≡ a.1
      word = ap (λ (k : ℕ × ℕ). k.1) its

      -- the arc there is another
      pub other_target : (key.0 ≡ q → key.1 ≡ x → ⊥) → MoveOn arcs q x None
      other_target o p m =
          let e = stands_same arcs n a (q, x, p) at (arc_at p m) in
          o (left ∙ ap (λ (b : Arrow). b.0) e) (word ∙ ap (λ (b : Arrow). b.1) e)

      -- it is the arc on x
      pub is_target : (to : ℕ) → to ≡ a.2 → key.0 ≡ q → key.1 ≡ x → MoveOn arcs q x (Some to)
      is_target to there e d =
          let p = sym left ∙ e in let r = sym word ∙ d in
          let is : a ≡ (q, x, to) = λ i. (p i, r i, sym there i) in (
            subst (λ (b : Arrow). Memᴰ b arcs) is (mem_at arcs n a at),
            λ u m. ap (λ (b : Arrow). b.2) (stands_same arcs n (q, x, u) a (arc_at u m) at) ∙ sym there,
          )

      -- the least word is that of the arc there, if it leaves q
      pub no_least : (key.0 ≡ q → ⊥) → LeastWord arcs q x None
      no_least ne y h (p, m) = other_left a at (λ e. ne (left ∙ e)) y p h m

      pub is_least : key.0 ≡ q → LeastWord arcs q x (Some key.1)
      is_least h =
          let p = sym left ∙ h in
          let (l, least) = least_word a at p in
          let is : a ≡ (q, a.1, a.2) = λ i. (p i, a.1, a.2) in
          subst (λ y. LeastWord arcs q x (Some y)) (sym word) (l, (a.2, subst (λ (b : Arrow). Memᴰ b arcs) is (mem_at arcs n a at)), λ z h d (p, m). least z p h d m)
