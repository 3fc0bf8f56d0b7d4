-- The bits of a number: of a part of it, the lowest that is set, and how many are set.
use Rattle.std.proofs.Common.{◌≡◌, ℕ, zero, suc, ◌+◌, ◌*◌, ◌/◌, ◌%◌, ◌^◌, ◌<◌, cond, eqb, [], ◌∷◌, length, sym, refl, ap, ◌∙◌, one-add, arith, length-append, pow_pos}
use lib.Count.{ones, ones_cat}
use Rattle.std.proofs.lemmas.Nat.{shr-shr, mod-pow-add, mod_below}
use Rattle.std.proofs.lemmas.Nat.Bits.{bit_at-lt}
use Rattle.table.specs.Sets.{bit, passing}

pub bit_suc : (n b : ℕ) → bit n (suc b) ≡ bit (n / 2) b
bit_suc n b = ap (λ (x : ℕ). x % 2) (sym (shr-shr n 1 b ∙ ap (λ (e : ℕ). n / 2 ^ e) (one-add b)))

pub bit_shr : (n j b : ℕ) → bit (n / 2 ^ j) b ≡ bit n (j + b)
bit_shr n j b = ap (λ (x : ℕ). x % 2) (shr-shr n j b)

-- bit t of n is set, below k, and no lower one
abbrev pub Lowest : ℕ → ℕ → ℕ → Type 0
Lowest k n t = (t < k) × (bit n t ≡ 1) × ((j : ℕ) → j < t → bit n j ≡ 0)

bit_ones : (d : ℕ) → d < 2 → (b : ℕ) → length (cond (eqb d 1) (b ∷ []) []) ≡ ones d
unfolding ones
bit_ones zero h b = refl
bit_ones (suc zero) h b = refl
bit_ones (suc (suc d)) h b = absurd (omega arith)

pub passing_ones : (n k : ℕ) → length (passing (λ b. eqb (bit n b) 1) k) ≡ ones (n % 2 ^ k)
unfolding ones passing
passing_ones n zero = ap ones (let e : 0 ≡ n % 2 ^ 0 = omega arith in e)
passing_ones n (suc k) =
    let low : n % 2 ^ (1 + k) ≡ bit n k * 2 ^ k + n % 2 ^ k = mod-pow-add n 1 k in
    length-append (passing (λ b. eqb (bit n b) 1) k) (cond (eqb (bit n k) 1) (k ∷ []) [])
    ∙ ap (λ (x : ℕ). x + length (cond (eqb (bit n k) 1) (k ∷ []) [])) (passing_ones n k)
    ∙ ap (λ (x : ℕ). ones (n % 2 ^ k) + x) (bit_ones (bit n k) (bit_at-lt n k) k)
    ∙ (let c = ones_cat k (bit n k) (n % 2 ^ k) (mod_below n (2 ^ k) (pow_pos k)) in omega (arith, c))
    ∙ ap ones (sym low ∙ ap (λ (e : ℕ). n % 2 ^ e) (one-add k))
