-- Walking over a right side, symbol by symbol.
use Rattle.std.proofs.Common.{◌≡◌, ℕ, ◌+◌, ◌<◌, ◌≤◌, Bool, true, false, cond, not, suc, eqb, List, [], ◌∷◌, length, get_or, take, drop, is_some, Some, None, Option, sym, refl, ap, ◌∙◌, subst, ⊎_elim, arith, eqb-true, eq-eqb}
use Rattle.std.specs.List.{AllWithin, HoldsAt, position_or_len, before_first}
use Rattle.std.specs.Option.{MatchOption, unwrap_or}
use Rattle.std.proofs.lemmas.Bool.{cases_lt, false≢true}
use Rattle.std.proofs.lemmas.List.{drop_all, drop_more, get_or_past}
use Rattle.std.proofs.lemmas.List.Sums.{position_or_len_is}
use Rattle.table.specs.Numbers.{value_in}
use Rattle.table.specs.declared.numbers.NodeNo.{NodeNo}
use Rattle.finding.specs.Numbered.{Arrow}
use Rattle.theory.specs.Flattening.{Leads}
use Rattle.theory.specs.Flattening.Leads.{here, on}
use Rattle.flattening.specs.Places.{MoveOn}
use Rattle.flattening.specs.Walks.{Spells}
use Rattle.flattening.specs.Walks.Spells.{end, more}

-- one list is spelled from a number on
pub spells_one : {after : List ℕ} {k : ℕ} {xs ys : List ℕ} → Spells after k xs → Spells after k ys → xs ≡ ys
spells_one (end b e) (end c f) = refl
spells_one (end b e) (more c f s r) = absurd (omega arith)
spells_one (more b e s r) (end c f) = absurd (omega arith)
spells_one (more {x = x} {xs = xs} b e s r) (more {x = y} {xs = ys} c f t u) =
    let p : x ≡ y = sym e ∙ f in let q = spells_one r u in cc

-- ── the right side as it is cut out of the items ──

abbrev pub ends : ℕ → Bool
ends x = eqb x 65535

fails : (x : ℕ) → (x ≡ 65535 → ⊥) → ends x ≡ false
fails x ne = case (ends x) refl
  where
    case : (b : Bool) → ends x ≡ b → b ≡ false
    case true t = absurd (ne (eqb-true _ _ t))
    case false f = refl

-- the part in front of the first 65535
pub first_end : (ys : List ℕ) (o : Option ℕ) (n : ℕ)
    → MatchOption o (AllWithin (λ x. x ≡ 65535 → ⊥) ys 0 (length ys)) (λ i. (i < length ys) × HoldsAt (λ x. x ≡ 65535) ys i × AllWithin (λ x. x ≡ 65535 → ⊥) ys 0 i)
    → n ≡ unwrap_or o (length ys) → take n ys ≡ before_first ends ys
first_end ys None n h e =
    ap (λ i. take i ys) (e ∙ sym (position_or_len_is ends ys (length ys) 0 (omega arith) (λ k l. fails _ (h k 0 (omega arith) l)) (λ l. absurd (omega arith))))
first_end ys (Some i) n (l, stands, before) e =
    ap (λ i. take i ys) (e ∙ sym (position_or_len_is ends ys i 0 (omega arith) (λ k h. fails _ (before k 0 (omega arith) h)) (λ h. eq-eqb _ _ (stands 0))))

cut : (b : Bool) (m x : ℕ) (ys : List ℕ) → b ≡ false → take (cond (not b) (1 + m) 0) (x ∷ ys) ≡ x ∷ take m ys
cut true m x ys e = absurd (false≢true (sym e))
cut false m x ys e = let one : 1 + m ≡ suc m = omega arith in ap (λ n. take n (x ∷ ys)) one

spells_inside : {after : List ℕ} {k : ℕ} {xs : List ℕ} → Spells after k xs → k < length after
spells_inside {after} {k} (end b e) = ⊎_elim (λ h. h) (λ h. let z = get_or_past after k 0 h in absurd (omega arith)) (cases_lt k (length after))
spells_inside (more b e s r) = let h = spells_inside r in omega arith

-- is what is spelled
pub side_is : {after : List ℕ} {k : ℕ} {xs : List ℕ} → Spells after k xs → before_first ends (drop k after) ≡ xs
side_is {after} {k} (end b e) =
    ap (before_first ends) (drop_more after k 0 (spells_inside (end b e)) ∙ ap (λ x. x ∷ drop (k + 1) after) e)
side_is {after} {k} (more {x = x} {xs = xs} b e s r) =
    ap (before_first ends) (drop_more after k 0 (spells_inside (more b e s r)) ∙ ap (λ x. x ∷ drop (k + 1) after) e)
    ∙ one (ends x) refl ∙ ap (λ l. x ∷ l) (side_is r)
  where
    one : (b : Bool) → ends x ≡ b → before_first ends (x ∷ drop (k + 1) after) ≡ x ∷ before_first ends (drop (k + 1) after)
    one true t = let z = eqb-true _ _ t in absurd (omega arith)
    one false f = cut (ends x) (position_or_len ends (drop (k + 1) after)) x (drop (k + 1) after) f

-- ── over the symbols ──

module _ (moves : List Arrow) (xs : List ℕ) (i d : ℕ) (h : i < length xs) (q : ℕ) (o : Option NodeNo) (move : MoveOn moves q (get_or xs i d) (value_in (λ n. n.0) o)) {p : ℕ} (l : Leads moves q (drop i xs) p) where
  first : Leads moves q (get_or xs i d ∷ drop (i + 1) xs) p
  first = subst (λ ys. Leads moves q ys p) (drop_more xs i d h) l

  -- the next symbol has its move
  pub walk_moves : is_some o ≡ true
  walk_moves = go o move first
    where
      go : {x : ℕ} {ys : List ℕ} (o : Option NodeNo) → MoveOn moves q x (value_in (λ n. n.0) o) → Leads moves q (x ∷ ys) p → is_some o ≡ true
      go (Some r) m l = refl
      go None m (on {r = t} v l) = absurd (m t v)

  -- and the rest of the way begins where it leads
  pub walk_on : (r : NodeNo) → o ≡ Some r → Leads moves r.0 (drop (i + 1) xs) p
  walk_on r is = go (subst (λ z. MoveOn moves q (get_or xs i d) (value_in (λ n. n.0) z)) is move) first
    where
      go : {x : ℕ} {ys : List ℕ} → MoveOn moves q x (Some r.0) → Leads moves q (x ∷ ys) p → Leads moves r.0 ys p
      go {ys = ys} m (on {r = t} v l) = subst (λ z. Leads moves z ys p) (m.1 t v) l

pub walk_ends : (moves : List Arrow) (xs : List ℕ) (i q : ℕ) {p : ℕ} → length xs ≤ i → Leads moves q (drop i xs) p → p ≡ q
walk_ends moves xs i q {p} h l = go (subst (λ ys. Leads moves q ys p) (drop_all i xs h) l)
  where
    go : {a b : ℕ} → Leads moves a [] b → b ≡ a
    go here = refl
