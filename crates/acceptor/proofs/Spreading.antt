-- A set that grows by waves of jumps comes to have all that jumps reach.
use Rattle.std.proofs.Common.{◌≡◌, ℕ, ◌+◌, ◌-◌, ◌<◌, min, ◌⊎◌, ◌↔◌, List, [], length, refl, inl, inr, ⊎_elim, arith}
use mathlib.Core.List.{Memᴰ}
use Rattle.std.proofs.lemmas.Bool.{cases_lt}
use Rattle.table.specs.Lists.{InOrder}
use Rattle.table.specs.Sets.{Row, In, members}
use Rattle.theory.specs.Flattening.{Acceptor, JumpLess}
use Rattle.theory.specs.Sentences.{Reads}
use Rattle.theory.specs.Sentences.Reads.{stop, arc, jump}
use Rattle.theory.proofs.Subsets.{reads_++}
use Rattle.acceptor.specs.Steps.{Wave, JumpedFrom}
use Rattle.acceptor.proofs.Sizes.{size_grows, size_rises, size_most, some_member}

-- the set so far: it has the seeds, jumps lead to each member from a seed, and the jumps of a member are taken unless it is fresh
pub record Spreading (f : Acceptor) (seeds set fresh : List ℕ) : Type 0 where
  pub seeded : (k : ℕ) → In seeds k → In set k
  pub within : (k : ℕ) → In set k → JumpedFrom f seeds k
  pub fresh_in : (k : ℕ) → In fresh k → In set k
  pub closed : (q k : ℕ) → In set q → Memᴰ (q, k) f.jumps → In fresh q ⊎ In set k

pub spreading_none : (f : Acceptor) (seeds : List ℕ) → Spreading f seeds seeds seeds
spreading_none f seeds =
    record { seeded = λ k m. m; within = λ k m. record { from = k; member = m; reads = stop }; fresh_in = λ k m. m; closed = λ q k m j. inl m }

-- each wave finds a node that is new, or is the last
pub wave_falls : {jumps : List (ℕ × ℕ)} {set fresh set' fresh' : List ℕ} → Wave jumps set fresh set' fresh' → Row set → Row set' → 0 < length (members fresh)
    → (4096 - length (members set')) + min 1 (length (members fresh')) < (4096 - length (members set)) + min 1 (length (members fresh))
wave_falls {set = set} {fresh} {set'} {fresh'} w row row' h =
    let grows = size_grows set set' row row' w.kept in
    let most = size_most set' row' in
    ⊎_elim (λ z. omega arith)
    (λ z. let (k, m) = some_member fresh' z in
    let (i, n) = w.fresh_new k m in
    let rises = size_rises set set' row row' w.kept k i n in omega arith)
    (none_or_some (length (members fresh')))
  where
    none_or_some : (n : ℕ) → (n ≡ 0) ⊎ (0 < n)
    none_or_some n = ⊎_elim (λ l. inr l) (λ l. inl (omega arith)) (cases_lt 0 n)

module _ {f : Acceptor} {seeds set fresh : List ℕ} (s : Spreading f seeds set fresh) where
  pub spreading_more : {set' fresh' : List ℕ} → Wave f.jumps set fresh set' fresh' → InOrder JumpLess f.jumps → ((q k : ℕ) → Memᴰ (q, k) f.jumps → k < 4096)
      → Spreading f seeds set' fresh'
  spreading_more w rising small =
      record {
        seeded = λ k m. w.kept k (s.seeded k m);
        within = λ k m. ⊎_elim (s.within k) (λ (q, h, j). let r = s.within q (s.fresh_in q h) in
            record { from = r.from; member = r.member; reads = reads_++ r.reads (jump j stop) }) (w.only k m);
        fresh_in = λ k m. (w.fresh_new k m).0;
        closed = λ q k m j. ⊎_elim (λ o. ⊎_elim (λ h. inr (w.taken rising k (q, h, j) (small q k j))) (λ h. inr (w.kept k h)) (s.closed q k o j)) inl (w.new_fresh q m);
      }

  -- with none fresh the set has all
  pub spread_all : ((k : ℕ) → In fresh k → ⊥) → (k : ℕ) → In set k ↔ JumpedFrom f seeds k
  spread_all none k = (s.within k, λ (j : JumpedFrom f seeds k). reached j.reads refl (s.seeded j.from j.member))
    where
      reached : {q n : ℕ} {v : List ℕ} → Reads f q v n → v ≡ [] → In set q → In set n
      reached stop e m = m
      reached (arc a r) e m = absurd cc
      reached (jump {q = q} {r = t} j r) e m = reached r e (⊎_elim (λ h. absurd (none q h)) (λ h. h) (s.closed q t m j))
