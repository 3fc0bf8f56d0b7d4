-- Positions that are states: a step keeps the rests after its word.
use Rattle.std.proofs.Common.{◌≡◌, ℕ, ◌+◌, ◌-◌, ◌*◌, ◌<◌, ◌≤◌, Bool, true, false, eqb, ◌↔◌, List, [], ◌∷◌, length, get_or, take, drop, Some, None, Decides, Option, sym, refl, ap, ◌∙◌, subst, zero-add, arith}
use mathlib.Core.Option.{some}
use mathlib.Core.List.{Memᴰ}
use lib.ListN.{get_elem?}
use Rattle.std.proofs.ByRecursion.{All-from_get_or}
use Rattle.std.proofs.lemmas.List.FromFn.{length-map-range_with_len}
use Rattle.table.proofs.Lists.{stands_below, stands_same}
use Rattle.finding.specs.Numbered.{Arrow}
use Rattle.theory.specs.Flattening.{Leads}
use Rattle.theory.specs.Flattening.Leads.{here, on}
use Rattle.theory.specs.Subsets.{Determined}
use Rattle.theory.proofs.Unfolding.{along_mem, along_has, along_none}
use Rattle.flattening.specs.Places.{MoveOn}
use Rattle.fields.specs.Reading.{number_at, arcs_from}
use Rattle.pgd.specs.Files.{IsFile}
use Rattle.pgd.specs.Reading.{final_flag_at, finals_from}
use Rattle.pgd.proofs.Decoding.{file_decoded, file_framed}
use Rattle.acceptor.specs.Rows.{arcs_of}
use Rattle.acceptor.specs.Subsets.{finals_of, Goes, RestsAt}
use Rattle.acceptor.proofs.Standing.{made_stands}
use Rattle.acceptor.proofs.Opening.{made_same, Number, Part, part_length, byte_in, arcs_in}

-- ── steps ──

-- the first arc of a way over x and s
record FirstArc (arcs : List Arrow) (q x : ℕ) (s : List ℕ) (last : ℕ) : Type 0 where
  to : ℕ
  over : Memᴰ (q, x, to) arcs
  rest : Leads arcs to s last

first_arc : {arcs : List Arrow} {q last : ℕ} {v : List ℕ} → Leads arcs q v last → (x : ℕ) (s : List ℕ) → v ≡ x ∷ s → FirstArc arcs q x s last
first_arc here x s e = absurd cc
first_arc {arcs} {q} {last} (on {r = r} {x = y} {xs = w} m l) x s e =
    let i : y ≡ x = cc in let j : w ≡ s = cc in
    record { to = r; over = subst (λ z. Memᴰ (q, z, r) arcs) i m; rest = subst (λ z. Leads arcs r z last) j l }

module _ (d : Determined) (q x : ℕ) where
  -- the one arc on x is the way along which the state goes
  state_goes : (r : Option ℕ) → MoveOn d.arcs q x r → Goes d (Some q) x r
  state_goes None no-arc = along_none d.arcs q x no-arc
  state_goes (Some p) (m, one) = let (t, e) = along_has d.arcs m in e ∙ ap some (one t (along_mem d.arcs e))

  state_rests : (r : Option ℕ) → MoveOn d.arcs q x r → (s : List ℕ) → RestsAt d r s ↔ RestsAt d (Some q) (x ∷ s)
  state_rests None no-arc s = ((λ h. absurd h), λ (last, l, f). let a = first_arc l x s refl in no-arc a.to a.over)
  state_rests (Some p) (m, one) s = (
    (λ (last, l, f). (last, on m l, f)),
    λ (last, l, f). let a = first_arc l x s refl in (last, subst (λ z. Leads d.arcs z s last) (one a.to a.over) a.rest, f),
  )

-- the same of a position that is the state
module _ (d : Determined) (x : ℕ) {p : Option ℕ} {q : ℕ} (e : p ≡ Some q) (r : Option ℕ) (m : MoveOn d.arcs q x r) where
  pub goes_by : Goes d p x r
  goes_by = subst (λ z. Goes d z x r) (sym e) (state_goes d q x r m)

  pub rests_by : (s : List ℕ) → RestsAt d r s ↔ RestsAt d p (x ∷ s)
  rests_by s = subst (λ z. RestsAt d r s ↔ RestsAt d z (x ∷ s)) (sym e) (state_rests d q x r m s)

-- the empty sentence leads from a state to a final one where it is final itself
pub end_by : (d : Determined) (p : Option ℕ) (q : ℕ) (b : Bool) → p ≡ Some q → Decides b (get_elem? d.finals q ≡ some true) → Decides b (RestsAt d p [])
end_by d p q b e (yes-is, is-yes) =
    subst (λ z. Decides b (RestsAt d z [])) (sym e)
    ((λ t. (q, here, yes-is t)), λ (last, l, f). is-yes (subst (λ z. get_elem? d.finals z ≡ some true) (sym (stays l refl)) f))
  where
    stays : {q last : ℕ} {v : List ℕ} → Leads d.arcs q v last → v ≡ [] → q ≡ last
    stays here e = refl
    stays (on m l) e = absurd cc

-- ── the bytes of the states ──

module _ (bytes : List ℕ) where
  pub finals_length : length (finals_of bytes) ≡ length bytes
  finals_length = length-map-range_with_len (λ k. final_flag_at bytes (0 + k)) 0 (length bytes)

  final_stands : (k : ℕ) → k < length bytes → get_elem? (finals_of bytes) k ≡ some (final_flag_at bytes k)
  final_stands k h = made_stands (λ k. final_flag_at bytes (0 + k)) (length bytes) k h ∙ ap (λ i. some (final_flag_at bytes i)) (zero-add k)

  pub final_decided : (k : ℕ) → k < length bytes → Decides (final_flag_at bytes k) (get_elem? (finals_of bytes) k ≡ some true)
  final_decided k h =
      let s = final_stands k h in
      ((λ e. s ∙ ap some e), λ e. stands_same (finals_of bytes) k (final_flag_at bytes k) true s e)

  pub not_final : (k : ℕ) → length bytes ≤ k → Decides false (get_elem? (finals_of bytes) k ≡ some true)
  not_final k h = (
    (λ e. absurd cc),
    λ e. absurd (let b = stands_below (finals_of bytes) k true e in let l = finals_length in omega arith),
  )

-- those of a part of the bytes
pub part_finals : (bytes part : List ℕ) (start m : ℕ) → part ≡ take m (drop start bytes) → start + m ≤ length bytes → finals_of part ≡ finals_from bytes start m
part_finals bytes part start m is h =
    ap (finals_from part 0) (part_length bytes part start m is h)
    ∙ made_same (λ k. final_flag_at part (0 + k)) (λ k. final_flag_at bytes (start + k)) m
    (λ k b. ap (final_flag_at part) (zero-add k) ∙ ap (λ v. eqb v 1) (byte_in bytes part start m is k b))

-- what is read from the file of a determinised acceptor: how many words it has, its states and its arcs
pub file_read : (bytes finals arcs : List ℕ) (words n m : ℕ) → ((i : ℕ) → get_or bytes i 0 < 256) → Number bytes 5 words → Number bytes 7 n → Number bytes 9 m
    → Part bytes 11 (11 + n) finals → Part bytes (11 + n) (11 + n + 6 * m) arcs → (d : Determined) → IsFile bytes d
    → ◌≡◌ {A = Determined} (record { words = words; states = length finals; finals = finals_of finals; arcs = arcs_of arcs }) d
file_read bytes finals arcs words n m bounded w e o p q d f =
    let long : length bytes ≡ 11 + number_at bytes 7 + 6 * number_at bytes 9 =
    subst (λ b. length b ≡ 11 + number_at b 7 + 6 * number_at b 9) (sym f.is) (file_framed d f.fit.finals).long in
    let n-is : n ≡ number_at bytes 7 = e (omega arith) in
    let m-is : m ≡ number_at bytes 9 = o (omega arith) in
    let u = w (omega arith) in
    let same : (11 + n) - 11 ≡ number_at bytes 7 = omega arith in
    let is = p (omega arith) (omega arith) in
    let states : length finals ≡ number_at bytes 7 = part_length bytes finals 11 _ is (omega arith) ∙ same in
    let x : finals_of finals ≡ finals_from bytes 11 (number_at bytes 7) = part_finals bytes finals 11 _ is (omega arith) ∙ ap (finals_from bytes 11) same in
    let y : arcs_of arcs ≡ arcs_from bytes (11 + number_at bytes 7) (number_at bytes 9) =
    arcs_in bytes arcs (11 + n) _ (q (omega arith) (omega arith)) (number_at bytes 9) (omega arith) (omega arith) ∙ ap (λ k. arcs_from bytes (11 + k) (number_at bytes 9)) n-is in
    (λ i. record { words = u i; states = states i; finals = x i; arcs = y i })
    ∙ sym (file_decoded d f.fit.finals bytes (All-from_get_or (λ b. b < 256) bytes 0 (λ i h. bounded i)) f.is)
