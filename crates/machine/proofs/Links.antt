-- The numbers of a chain, as a list.
use Rattle.std.proofs.Common.{◌≡◌, ℕ, zero, suc, ◌<◌, ◌≤◌, Bool, nat_lt, ◌⊎◌, List, [], ◌∷◌, length, get_or, set, sym, refl, ap, ◌∙◌, subst, inl, inr, ⊎_elim, arith}
use mathlib.Core.List.Memᴰ
use mathlib.Core.List.{Memᴰ}
use Rattle.std.proofs.lemmas.Bool.{cases_Bool, lt-ltb, ltb-true}
use Rattle.std.proofs.lemmas.Bool.Decides.{eqb_tells}
use Rattle.std.proofs.lemmas.List.{get_or-set_same, get_or-set_other}
use Rattle.machine.specs.Index.{Falls, Chain, only_if, falling, passed, passed_from, links}
use Rattle.machine.specs.Index.Chain.{end, link}

-- where a chain goes on, it falls
pub falling_less : (b n : ℕ) → 0 < b → falling b n < b
falling_less b n h =
    ⊎_elim (λ e. subst (λ (t : Bool). only_if t n < b) (sym e) (ltb-true n b e)) (λ e. subst (λ (t : Bool). only_if t n < b) (sym e) h) (cases_Bool (nat_lt n b))

pub falling_is : (b n : ℕ) → n < b → falling b n ≡ n
falling_is b n h = ap (λ (t : Bool). only_if t n) (lt-ltb n b h)

passed_same : (next : List ℕ) (m n k : ℕ) → k ≤ m → k ≤ n → passed m next k ≡ passed n next k
passed_same next zero zero k a b = refl
passed_same next zero (suc n) zero a b = refl
passed_same next zero (suc n) (suc k) a b = absurd (omega arith)
passed_same next (suc m) zero zero a b = refl
passed_same next (suc m) zero (suc k) a b = absurd (omega arith)
passed_same next (suc m) (suc n) zero a b = refl
passed_same next (suc m) (suc n) (suc k) a b =
    let f = falling_less (suc k) (get_or next (suc k) 0) (omega arith) in
    ap (λ ks. suc k ∷ ks) (passed_same next m n (falling (suc k) (get_or next (suc k) 0)) (omega arith) (omega arith))

passed_on : (next : List ℕ) (k : ℕ) → 0 < k → passed_from next k ≡ k ∷ passed_from next (falling k (get_or next k 0))
passed_on next zero h = absurd (omega arith)
passed_on next (suc k) h =
    let to = falling (suc k) (get_or next (suc k) 0) in
    let f = falling_less (suc k) (get_or next (suc k) 0) (omega arith) in
    ap (λ ks. suc k ∷ ks) (passed_same next k to to (omega arith) (omega arith))

links_from : (next : List ℕ) (k : ℕ) → k < 4096 → links next k ≡ passed_from next k
unfolding links
links_from next k h = ap (passed_from next) (falling_is 4096 k h)

pub links_on : (next : List ℕ) (k : ℕ) → 0 < k → k < 4096 → links next k ≡ k ∷ links next (falling k (get_or next k 0))
links_on next k h l =
    let f = falling_less k (get_or next k 0) h in
    links_from next k l ∙ passed_on next k h ∙ ap (λ ks. k ∷ ks) (sym (links_from next (falling k (get_or next k 0)) (omega arith)))

pub links_none : (next : List ℕ) → links next 0 ≡ []
links_none next = links_from next 0 (omega arith)

-- what is no item's number begins no chain
pub links_within : (next : List ℕ) (k : ℕ) → links next (falling 4096 k) ≡ links next k
unfolding links
links_within next k = ap (passed_from next) (falling_is 4096 (falling 4096 k) (falling_less 4096 k (omega arith)))

passed_chain : {next : List ℕ} {k : ℕ} {ks : List ℕ} (n : ℕ) → Chain next k ks → k ≤ n → passed n next k ≡ ks
passed_chain zero end l = refl
passed_chain (suc n) end l = refl
passed_chain zero (link h f c) l = absurd (omega arith)
passed_chain (suc n) (link {k = zero} h f c) l = absurd (omega arith)
passed_chain {next = next} (suc n) (link {k = suc k} h f c) l =
    ap (λ j. suc k ∷ passed n next j) (falling_is (suc k) (get_or next (suc k) 0) f) ∙ ap (λ ks. suc k ∷ ks) (passed_chain n c (omega arith))

-- a chain from an item's number is the list of its links
pub links_chain : {next : List ℕ} {k : ℕ} {ks : List ℕ} → k < 4096 → Chain next k ks → links next k ≡ ks
links_chain {next = next} {k = k} h c = links_from next k h ∙ passed_chain k c (omega arith)

-- a chain begins with its first number, if it has one
pub chain_head : {next : List ℕ} {k : ℕ} {ks : List ℕ} → Chain next k ks → (k ≡ 0) ⊎ Memᴰ k ks
chain_head end = inl refl
chain_head (link h f c) = inr (Memᴰ.head refl)

passed_small : (next : List ℕ) (n k j : ℕ) → Memᴰ j (passed n next k) → j ≤ k
passed_small next zero k j m = absurd (Memᴰ.not-nil m)
passed_small next (suc n) zero j m = absurd (Memᴰ.not-nil m)
passed_small next (suc n) (suc k) j m =
    let f = falling_less (suc k) (get_or next (suc k) 0) (omega arith) in
    ⊎_elim (λ e. omega arith) (λ t. omega (arith, passed_small next n (falling (suc k) (get_or next (suc k) 0)) j t)) (Memᴰ.cases_cons m)

-- the numbers of a chain are items'
pub links_small : (next : List ℕ) (k j : ℕ) → Memᴰ j (links next k) → j < 4096
unfolding links
links_small next k j m =
    let s = passed_small next (falling 4096 k) (falling 4096 k) j m in
    let f = falling_less 4096 k (omega arith) in omega arith

-- what stands in a list after one write
pub set_below : (xs : List ℕ) (i v b : ℕ) → i < length xs → v < b → ((n : ℕ) → get_or xs n 0 < b) → (n : ℕ) → get_or (set xs i v) n 0 < b
set_below xs i v b l h all n =
    ⊎_elim (λ e. omega (arith, ap (λ k. get_or (set xs i v) k 0) e.1, get_or-set_same xs i v 0 l)) (λ e. omega (arith, get_or-set_other xs i n v 0 e.1, all n)) (eqb_tells n i)

-- a write that falls keeps a list that falls
pub set_falls : (xs : List ℕ) (i v : ℕ) → i < length xs → v < i → Falls xs → Falls (set xs i v)
set_falls xs i v l h all n p =
    ⊎_elim (λ e. omega (arith, e.1, ap (λ k. get_or (set xs i v) k 0) e.1, get_or-set_same xs i v 0 l)) (λ e. omega (arith, get_or-set_other xs i n v 0 e.1, all n p)) (eqb_tells n i)
