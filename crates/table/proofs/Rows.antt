-- Rows of words as sets: members, equality, one more member, how many, and the next one.
use Rattle.std.proofs.Common.{◌≡◌, ℕ, zero, suc, ◌+◌, ◌-◌, ◌*◌, ◌/◌, ◌%◌, ◌^◌, ◌<◌, ◌≤◌, Bool, eqb, List, length, get_or, set, replicate, sum_by, take, Some, None, Option, sym, refl, ap, ◌∙◌, subst, inl, inr, ⊎_elim, add-one, arith, length-set, get_or-set_other, get_or-set_same, eq-eqb, eqb-true}
use mathlib.Core.List.{Memᴰ}
use lib.Bits.{bit_or}
use lib.Count.{ones, ones-le, count_trailing_zeros}
use Rattle.std.proofs.lemmas.Nat.{one_shl, or_lt, pow_below}
use Rattle.std.proofs.lemmas.Nat.Bits.{bit_at-lt, bit_at-zero, bit_at_above, bit_at_set_same, bit_at_set_other, bit_at-trailing_zeros, same_from_bits_below}
use Rattle.std.proofs.Math.Seq.{take-length}
use Rattle.std.specs.Int.{w64}
use Rattle.std.proofs.lemmas.List.{get_or_default, get_or_past, ext_get_or}
use Rattle.std.proofs.lemmas.List.Sums.{sum_by_more, sum_by-le}
use Rattle.std.proofs.lemmas.Bool.{cases_lt}
use Rattle.std.proofs.lemmas.Bool.Decides.{eqb_tells}
use Rattle.table.specs.Lists.{Ascending}
use Rattle.table.specs.Sets.{Row, bit, bit_of, In, passing, members, Listed, Inserted, NextMember}
use Rattle.table.proofs.Bits.{Lowest, bit_shr, passing_ones}
use Rattle.table.proofs.Orders.{passing_only, passing_has, passing_ascending, passing_same, passing_length}

-- ---- members

pub in_below : (words : List ℕ) → Row words → (k : ℕ) → In words k → k < 4096
unfolding In
in_below words row k h =
    ⊎_elim (λ l. l)
    (λ l.
    let past : get_or words (k / 64) 0 ≡ 0 = get_or_past words (k / 64) 0 (omega (arith, row.0)) in
    let off : bit (get_or words (k / 64) 0) (k % 64) ≡ 0 = ap (λ (w : ℕ). bit w (k % 64)) past ∙ bit_at-zero (k % 64) in
    absurd (omega (arith, off, h)))
    (cases_lt k 4096)

pub members_in : (words : List ℕ) (k : ℕ) → Memᴰ k (members words) → In words k
unfolding In members
members_in words k m = eqb-true (bit_of words k) 1 (passing_only (λ j. eqb (bit_of words j) 1) (64 * length words) k m).1

pub in_members : (words : List ℕ) → Row words → (k : ℕ) → In words k → Memᴰ k (members words)
unfolding In members
in_members words row k h =
    passing_has (λ j. eqb (bit_of words j) 1) (64 * length words) k (let b = in_below words row k h in omega (arith, row.0)) (eq-eqb (bit_of words k) 1 h)

pub members_ascending : (words : List ℕ) → Ascending (members words)
unfolding members
members_ascending words = passing_ascending (λ j. eqb (bit_of words j) 1) (64 * length words)

pub members_below : (words : List ℕ) → Row words → (k : ℕ) → Memᴰ k (members words) → k < 4096
members_below words row k m = in_below words row k (members_in words k m)

pub members_listed : (words : List ℕ) → Row words → Listed words (members words)
members_listed words row = record { ascending = members_ascending words; just = members_in words; every = in_members words row }

-- ---- equality

same_bit : (m n : ℕ) → m < 2 → n < 2 → (m ≡ 1 → n ≡ 1) → (n ≡ 1 → m ≡ 1) → m ≡ n
same_bit m n h l f g = grind arith

-- rows with the same members are one
pub words_same : (ws vs : List ℕ) → Row ws → Row vs → ((k : ℕ) → In ws k → In vs k) → ((k : ℕ) → In vs k → In ws k) → ws ≡ vs
unfolding In
words_same ws vs r s f g =
    ext_get_or 0 ws vs (r.0 ∙ sym s.0) (λ i h.
    same_from_bits_below 64 (get_or ws i 0) (get_or vs i 0) (r.1 i) (s.1 i) (λ b l.
    let q : (64 * i + b) / 64 ≡ i = omega arith in
    let m : (64 * i + b) % 64 ≡ b = omega arith in
    let here : (us : List ℕ) → bit_of us (64 * i + b) ≡ bit (get_or us i 0) b = λ us. rw (q, m) refl in
    sym (here ws) ∙ same_bit (bit_of ws (64 * i + b)) (bit_of vs (64 * i + b)) (bit_at-lt _ _) (bit_at-lt _ _) (f (64 * i + b)) (g (64 * i + b)) ∙ here vs))

-- and so are rows with one list of members
pub members_same : (ws vs : List ℕ) → Row ws → Row vs → members ws ≡ members vs → ws ≡ vs
members_same ws vs r s e =
    words_same ws vs r s
    (λ k h. members_in vs k (subst (λ (l : List ℕ). Memᴰ k l) e (in_members ws r k h)))
    (λ k h. members_in ws k (subst (λ (l : List ℕ). Memᴰ k l) (sym e) (in_members vs s k h)))

-- ---- the empty row

pub zeros_at : (n i : ℕ) → ◌≡◌ {A = ℕ} (get_or (replicate n 0) i 0) 0
zeros_at zero i = refl
zeros_at (suc n) zero = refl
zeros_at (suc n) (suc i) = zeros_at n i

pub zeros_lack : (words : List ℕ) → ((i : ℕ) → get_or words i 0 ≡ 0) → (k : ℕ) → In words k → ⊥
unfolding In
zeros_lack words zeros k h =
    let off : bit_of words k ≡ 0 = ap (λ (w : ℕ). bit w (k % 64)) (zeros (k / 64)) ∙ bit_at-zero (k % 64) in
    omega (arith, off, h)

-- ---- one more member

-- the row with bit k set
abbrev with_bit : List ℕ → ℕ → List ℕ
with_bit ws k = set ws (k / 64) (bit_or (get_or ws (k / 64) 0) ((1 * 2 ^ (k % 64)) % 2 ^ 64))

module _ (ws : List ℕ) (row : Row ws) (k : ℕ) (small : k < 4096) where
  place : k / 64 < length ws
  place = omega (arith, row.0)

  mask : (1 * 2 ^ (k % 64)) % 2 ^ 64 ≡ 2 ^ (k % 64)
  mask = one_shl (k % 64) 64 (omega arith)

  word_fits : bit_or (get_or ws (k / 64) 0) ((1 * 2 ^ (k % 64)) % 2 ^ 64) < 2 ^ 64
  word_fits = or_lt 64 (get_or ws (k / 64) 0) ((1 * 2 ^ (k % 64)) % 2 ^ 64) (row.1 (k / 64)) (subst (λ (x : ℕ). x < 2 ^ 64) (sym mask) (pow_below (k % 64) 64 (omega arith)))

  pub with_bit_row : Row (with_bit ws k)
  with_bit_row = (
    length-set ws (k / 64) _ ∙ row.0,
    λ i. ⊎_elim
        (λ e. subst (λ (x : ℕ). x < 2 ^ 64) (sym (ap (λ (j : ℕ). get_or (with_bit ws k) j 0) e.1 ∙ get_or-set_same ws (k / 64) _ 0 place)) word_fits)
        (λ e. subst (λ (x : ℕ). x < 2 ^ 64) (sym (get_or-set_other ws (k / 64) i _ 0 e.1)) (row.1 i))
        (eqb_tells i (k / 64)),
  )

  bit_here : bit_of (with_bit ws k) k ≡ 1
  bit_here = ap (λ (x : ℕ). bit x (k % 64)) (get_or-set_same ws (k / 64) _ 0 place) ∙ bit_at_set_same w64 (get_or ws (k / 64) 0) (k % 64) (omega arith)

  bit_elsewhere : (j : ℕ) → (j ≡ k → ⊥) → bit_of (with_bit ws k) j ≡ bit_of ws j
  bit_elsewhere j ne =
      ⊎_elim
      (λ e. let q : j / 64 ≡ k / 64 = e.1 in
      rw q (ap (λ (x : ℕ). bit x (j % 64)) (get_or-set_same ws (k / 64) _ 0 place) ∙ bit_at_set_other w64 (get_or ws (k / 64) 0) (k % 64) (omega arith) (j % 64) (λ x. ne (omega arith))))
      (λ e. ap (λ (x : ℕ). bit x (j % 64)) (get_or-set_other ws (k / 64) (j / 64) _ 0 e.1))
      (eqb_tells (j / 64) (k / 64))

  pub with_bit_inserted : Inserted ws k (with_bit ws k)
  unfolding In
  with_bit_inserted =
      record {
        added = λ _. bit_here;
        kept = λ j h. ⊎_elim (λ e. ap (bit_of (with_bit ws k)) e.1 ∙ bit_here) (λ e. bit_elsewhere j e.1 ∙ h) (eqb_tells j k);
        only = λ j h. ⊎_elim (λ e. inr (e.1, small)) (λ e. inl (sym (bit_elsewhere j e.1) ∙ h)) (eqb_tells j k);
      }

-- ---- how many members

abbrev pub count_below : List ℕ → ℕ → ℕ
count_below words n = length (passing (λ k. eqb (bit_of words k) 1) n)

pub count_none : (words : List ℕ) → count_below words 0 ≡ 0
unfolding passing
count_none words = refl

-- one word more
pub count_more : (words : List ℕ) → Row words → (i : ℕ) → count_below words (64 * (i + 1)) ≡ count_below words (64 * i) + ones (get_or words i 0)
count_more words row i =
    let test : ℕ → Bool = λ (k : ℕ). eqb (bit_of words k) 1 in
    let whole : get_or words i 0 % 2 ^ 64 ≡ get_or words i 0 = (let f = row.1 i in omega arith) in
    let here : (b : ℕ) → b < 64 → eqb (bit_of words (64 * i + b)) 1 ≡ eqb (bit (get_or words i 0) b) 1 =
    λ (b : ℕ) (h : b < 64). (let q : (64 * i + b) / 64 ≡ i = omega arith in let m : (64 * i + b) % 64 ≡ b = omega arith in rw (q, m) refl) in
    ap (count_below words) (let e : 64 * (i + 1) ≡ 64 * i + 64 = omega arith in e)
    ∙ passing_length (λ (k : ℕ). eqb (bit_of words k) 1) (64 * i) 64
    ∙ ap (λ (x : ℕ). count_below words (64 * i) + x) (ap length (passing_same (λ b. eqb (bit_of words (64 * i + b)) 1) (λ b. eqb (bit (get_or words i 0) b) 1) 64 here) ∙ passing_ones (get_or words i 0) 64 ∙ ap ones whole)

pub count_members : (words : List ℕ) → Row words → count_below words (64 * 64) ≡ length (members words)
unfolding members
count_members words row = ap (λ (n : ℕ). count_below words (64 * n)) (sym row.0)

-- the ones of the first i words
sum_ones : (words : List ℕ) → Row words → (i : ℕ) → i ≤ length words → sum_by ones (take i words) ≡ count_below words (64 * i)
sum_ones words row zero h = sym (count_none words)
sum_ones words row (suc i) h =
    rw (← add-one i) (sum_by_more ones words i 0 (omega arith) ∙ ap (λ (n : ℕ). n + ones (get_or words i 0)) (sum_ones words row i (omega arith)) ∙ sym (count_more words row i))

pub ones_members : (words : List ℕ) → Row words → sum_by ones words ≡ length (members words)
ones_members words row =
    ap (sum_by ones) (sym (ap (λ (n : ℕ). take n words) (sym row.0) ∙ take-length words)) ∙ sum_ones words row 64 (omega (arith, row.0)) ∙ count_members words row

pub few_ones : (words : List ℕ) → Row words → sum_by ones words < 2 ^ 64
few_ones words row =
    let all = sum_by-le ones 64 words (λ k d h. rw (get_or_default words k d 0 h) (ones-le 64 (get_or words k 0) (row.1 k))) in
    omega (arith, all, row.0)

-- ---- the next member

-- no member from a on and below b
pub next_down : (words : List ℕ) (a b : ℕ) → a ≤ b → ((k : ℕ) → a ≤ k → k < b → In words k → ⊥) → (r : Option ℕ) → NextMember words b r → NextMember words a r
next_down words a b h off None next = λ k l m. ⊎_elim (λ u. off k l u m) (λ u. next k u m) (cases_lt k b)
next_down words a b h off (Some k) next =
    (omega (arith, next.0), next.1, next.2, λ j l u m. ⊎_elim (λ v. off j l v m) (λ v. next.3 j v u m) (cases_lt j b))

module _ (words : List ℕ) (row : Row words) (from : ℕ) where
  -- a bit of what is left of the word, where it stands in the row
  bit_rest : (d : ℕ) → from % 64 + d < 64 → bit_of words (from + d) ≡ bit (get_or words (from / 64) 0 / 2 ^ (from % 64)) d
  bit_rest d h =
      let q : (from + d) / 64 ≡ from / 64 = omega arith in
      let m : (from + d) % 64 ≡ from % 64 + d = omega arith in
      rw (q, m) (sym (bit_shr (get_or words (from / 64) 0) (from % 64) d))

  in_word : (t : ℕ) → bit (get_or words (from / 64) 0 / 2 ^ (from % 64)) t ≡ 1 → from % 64 + t < 64
  in_word t one =
      ⊎_elim (λ l. l)
      (λ l. let off : bit (get_or words (from / 64) 0) (from % 64 + t) ≡ 0 = bit_at_above (get_or words (from / 64) 0) 64 (from % 64 + t) (row.1 (from / 64)) l in
      let e = bit_shr (get_or words (from / 64) 0) (from % 64) t in
      absurd (omega (arith, e, off, one)))
      (cases_lt (from % 64 + t) 64)

  -- the lowest bit of what is left of its word is the next member
  pub next_here : from < 4096 → (t : ℕ) → Lowest 64 (get_or words (from / 64) 0 / 2 ^ (from % 64)) t → NextMember words from (Some (from + t))
  unfolding In
  next_here small t low =
      let room = in_word t low.1 in (
        omega arith,
        omega arith,
        bit_rest t room ∙ low.1,
        λ j l u m.
            let e : from + (j - from) ≡ j = omega arith in
            let z : bit_of words j ≡ 0 = ap (bit_of words) (sym e) ∙ bit_rest (j - from) (omega arith) ∙ low.2 (j - from) (omega arith) in
            omega (arith, z, m),
      )

  -- nothing is left of its word
  pub next_later : get_or words (from / 64) 0 / 2 ^ (from % 64) ≡ 0 → (r : Option ℕ) → NextMember words (64 * (from / 64 + 1)) r → NextMember words from r
  unfolding In
  next_later none_left r next =
      next_down words from (64 * (from / 64 + 1)) (omega arith)
      (λ k l u m.
      let e : from + (k - from) ≡ k = omega arith in
      let z : bit_of words k ≡ 0 = ap (bit_of words) (sym e) ∙ bit_rest (k - from) (omega arith) ∙ ap (λ (x : ℕ). bit x (k - from)) none_left ∙ bit_at-zero (k - from) in
      omega (arith, z, m))
      r next

-- the lowest bit of a whole word
pub next_in_word : (words : List ℕ) → Row words → (i : ℕ) → i < 64 → (t : ℕ) → Lowest 64 (get_or words i 0) t → NextMember words (64 * i) (Some (64 * i + t))
next_in_word words row i h t low =
    let q : 64 * i / 64 ≡ i = omega arith in
    let m : 64 * i % 64 ≡ 0 = omega arith in
    let w : get_or words (64 * i / 64) 0 / 2 ^ (64 * i % 64) ≡ get_or words i 0 = rw (q, m) (omega arith) in
    next_here words row (64 * i) (omega arith) t (subst (λ (x : ℕ). Lowest 64 x t) (sym w) low)

-- a word without a bit
pub none_in_word : (words : List ℕ) (i : ℕ) → get_or words i 0 ≡ 0 → (k : ℕ) → 64 * i ≤ k → k < 64 * (i + 1) → In words k → ⊥
unfolding In
none_in_word words i none k l u m =
    let q : k / 64 ≡ i = omega arith in
    let z : bit_of words k ≡ 0 = ap (λ (j : ℕ). bit (get_or words j 0) (k % 64)) q ∙ ap (λ (x : ℕ). bit x (k % 64)) none ∙ bit_at-zero (k % 64) in
    omega (arith, z, m)

-- no word from number `first` on has a bit
pub no_words : (words : List ℕ) → Row words → (first : ℕ) → ((i : ℕ) → first ≤ i → i < 64 → get_or words i 0 ≡ 0) → NextMember words (64 * first) None
no_words words row first none k l m =
    let b = in_below words row k m in
    none_in_word words (k / 64) (none (k / 64) (omega arith) (omega arith)) k (omega arith) (omega arith) m

-- word i is the first that has a bit
pub first_word : (words : List ℕ) → Row words → (first i : ℕ) → first ≤ i → i < 64 → (get_or words i 0 ≡ 0 → ⊥) → ((k : ℕ) → first ≤ k → k < i → get_or words k 0 ≡ 0)
    → NextMember words (64 * first) (Some (64 * i + count_trailing_zeros 64 (get_or words i 0)))
first_word words row first i l h some none =
    next_down words (64 * first) (64 * i) (omega arith)
    (λ k a b m. none_in_word words (k / 64) (none (k / 64) (omega arith) (omega arith)) k (omega arith) (omega arith) m)
    (Some (64 * i + count_trailing_zeros 64 (get_or words i 0)))
    (next_in_word words row i h _ (bit_at-trailing_zeros w64 (get_or words i 0) (omega (arith, some)) (row.1 i)))
