-- Links and the lists of states that they stand for.
use Rattle.std.specs.Prelude.{◌≡◌, ℕ, zero, suc, ◌+◌, ◌<◌, true, false, ◌≢◌, List, [], ◌∷◌, ◌++◌, length, get_or, Some, None, Option, ◌==◌, nat_eq, slice_index_or, refl}
use Rattle.std.proofs.Common.{sym, ap, subst, ◌∙◌, ⊎_elim, zero-add, arith, eq-eqb, eqb-true}
use Rattle.std.proofs.Math.Option.{some}
use mathlib.Core.List.Memᴰ
use mathlib.Core.List.{Memᴰ}
use Rattle.std.proofs.lemmas.List.{length_push}
use Rattle.std.proofs.lemmas.Bool.{cases_Bool}
use Rattle.table.specs.Lists.{StandsAt, Distinct}
use Rattle.table.specs.declared.numbers.ClassNo.{ClassNo}
use Rattle.table.proofs.Lists.{stands_below, stands_same, stands_is, stands_getD, stands_left, stands_last, at_mem}
use Rattle.theory.specs.Policies.{cut_after}
use Rattle.policy.specs.declared.path.Link.{Link}
use Rattle.policy.specs.Paths.{link, along, grown, paths, Chained, Met}

-- ── lists cut after a state ──

cut_hit : (s t : ℕ) (ss : List ℕ) → (s == t) ≡ true → cut_after (s ∷ ss) t ≡ s ∷ []
cut_hit s t ss e = rw (e, cut_after)

cut_miss : (s t : ℕ) (ss : List ℕ) → (s == t) ≡ false → cut_after (s ∷ ss) t ≡ s ∷ cut_after ss t
cut_miss s t ss e = rw (e, cut_after)

-- a state that is not on the list is appended
pub cut_new : (ss : List ℕ) (t : ℕ) → (Memᴰ t ss → ⊥) → cut_after ss t ≡ ss ++ (t ∷ [])
cut_new [] t n = refl
cut_new (s ∷ ss) t n =
    ⊎_elim (λ e. absurd (n (Memᴰ.head (sym (eqb-true s t e)))))
    (λ e. cut_miss s t ss e ∙ ap (λ l. s ∷ l) (cut_new ss t (λ m. n (Memᴰ.tail m))))
    (cases_Bool (s == t))

-- at the end of the list nothing is cut
pub cut_end : (ss : List ℕ) (t : ℕ) → (Memᴰ t ss → ⊥) → cut_after (ss ++ (t ∷ [])) t ≡ ss ++ (t ∷ [])
cut_end [] t n = cut_hit t t [] (eq-eqb t t refl)
cut_end (s ∷ ss) t n =
    ⊎_elim (λ e. absurd (n (Memᴰ.head (sym (eqb-true s t e)))))
    (λ e. cut_miss s t (ss ++ (t ∷ [])) e ∙ ap (λ l. s ∷ l) (cut_end ss t (λ m. n (Memᴰ.tail m))))
    (cases_Bool (s == t))

-- what stands after the state is cut
pub cut_early : (ss : List ℕ) (s t : ℕ) → Memᴰ t ss → cut_after (ss ++ (s ∷ [])) t ≡ cut_after ss t
cut_early [] s t m = absurd (Memᴰ.not-nil m)
cut_early (u ∷ ss) s t m =
    ⊎_elim (λ e. cut_hit u t (ss ++ (s ∷ [])) e ∙ sym (cut_hit u t ss e))
    (λ e. cut_miss u t (ss ++ (s ∷ [])) e ∙ ap (λ l. u ∷ l) (cut_early ss s t (later e)) ∙ sym (cut_miss u t ss e))
    (cases_Bool (u == t))
  where
    later : nat_eq u t ≡ false → Memᴰ t ss
    later e =
        ⊎_elim (λ q. absurd (let z : ◌≡◌ {A = ℕ} 0 1 = clash (sym e ∙ eq-eqb u t (sym q)) in omega arith)) (λ k. k) (Memᴰ.cases_cons m)
      where
        clash : false ≡ true → ◌≡◌ {A = ℕ} 0 1
        clash h = cc

-- a list without repetition ends in a state that is not before
pub end_fresh : (ss : List ℕ) (t : ℕ) → Distinct (ss ++ (t ∷ [])) → Memᴰ t ss → ⊥
end_fresh ss t d m =
    let (k, s) = at_mem ss t m in
    let e : k ≡ length ss = d k (length ss) t (stands_left ss (t ∷ []) t k s) (stands_last ss [] t) in
    let b = stands_below ss k t s in
    omega arith

-- ── the lists that links stand for ──

pub grown_push : (before : List (List ℕ)) (ls : List Link) (l : Link) → grown before (ls ++ (l ∷ [])) ≡ grown before ls ++ (along (grown before ls) l ∷ [])
grown_push before [] l = refl
grown_push before (k ∷ ls) l = grown_push (before ++ (along before k ∷ [])) ls l

grown_length : (before : List (List ℕ)) (ls : List Link) → length (grown before ls) ≡ length before + length ls
grown_length before [] = omega arith
grown_length before (l ∷ ls) =
    let r = grown_length (before ++ (along before l ∷ [])) ls in
    let n = length_push before (along before l) in
    omega arith

pub paths_length : (ls : List Link) → length (paths ls) ≡ length ls
paths_length ls = grown_length [] ls ∙ zero-add (length ls)

grown_keeps : (before : List (List ℕ)) (ls : List Link) (k : ℕ) (ss : List ℕ) → StandsAt before k ss → StandsAt (grown before ls) k ss
grown_keeps before [] k ss s = s
grown_keeps before (l ∷ ls) k ss s = grown_keeps (before ++ (along before l ∷ [])) ls k ss (stands_left before (along before l ∷ []) ss k s)

grown_at : (before : List (List ℕ)) (ls : List Link) (k n : ℕ) (l : Link) → StandsAt ls k l → n ≡ length before + k → l.back.0 < n → StandsAt (grown before ls) n (along (grown before ls) l)
grown_at before [] k n l s e b = absurd cc
grown_at before (h ∷ ls) zero n l s e b =
    let q : h ≡ l = cc in
    let m : n ≡ length before = omega arith in
    let after = grown (before ++ (along before h ∷ [])) ls in
    let at : StandsAt after (length before) (along before h) = grown_keeps (before ++ (along before h ∷ [])) ls (length before) (along before h) (stands_last before [] (along before h)) in
    let i = l.back.0 in
    let was : StandsAt before i (slice_index_or before i []) = stands_getD before i [] (omega arith) in
    let is : get_or after i [] ≡ get_or before i [] =
    stands_is after i (slice_index_or before i []) [] (grown_keeps (before ++ (along before h ∷ [])) ls i (slice_index_or before i []) (stands_left before (along before h ∷ []) (slice_index_or before i []) i was)) in
    let same : along before h ≡ along after l = ap (along before) q ∙ ap (λ (ss : List ℕ). ss ++ (l.state.0 ∷ [])) (sym is) in
    subst (λ (x : ℕ). StandsAt after x (along after l)) (sym m) (subst (StandsAt after (length before)) same at)
grown_at before (h ∷ ls) (suc k) n l s e b =
    let p = length_push before (along before h) in
    grown_at (before ++ (along before h ∷ [])) ls k n l s (omega arith) b

module _ (ls : List Link) (c : Chained ls) where
  -- the list of a link ends in its state, after the list of the link behind
  pub record Ends (k : ℕ) (l : Link) (ss : List ℕ) : Type 0 where
    pub before : List ℕ
    pub is : ss ≡ before ++ (l.state.0 ∷ [])
    pub behind : 0 < k → StandsAt (paths ls) l.back.0 before

  pub root_path : StandsAt (paths ls) 0 (0 ∷ [])
  root_path = go ls c.root
    where
      go : (ls : List Link) → StandsAt ls 0 (link 0 0) → StandsAt (paths ls) 0 (0 ∷ [])
      go [] h = absurd cc
      go (l ∷ ls) h =
          let q : l ≡ link 0 0 = cc in
          let e : along [] l ≡ 0 ∷ [] = ap (along []) q in
          grown_keeps (along [] l ∷ []) ls 0 (0 ∷ []) (ap some e)

  pub link_path : (k : ℕ) (l : Link) → StandsAt ls k l → 0 < k → StandsAt (paths ls) k (along (paths ls) l)
  link_path k l s h = grown_at [] ls k k l s (sym (zero-add k)) (c.behind k l s h)

  pub ends : (k : ℕ) (l : Link) (ss : List ℕ) → StandsAt ls k l → StandsAt (paths ls) k ss → Ends k l ss
  ends zero l ss s p =
      let q : link 0 0 ≡ l = stands_same ls 0 (link 0 0) l c.root s in
      let e : 0 ∷ [] ≡ ss = stands_same (paths ls) 0 (0 ∷ []) ss root_path p in
      record { before = []; is = sym e ∙ ap (λ (k : Link). k.state.0 ∷ []) q; behind = λ h. absurd (omega arith) }
  ends (suc k) l ss s p =
      let at = link_path (suc k) l s (omega arith) in
      let n = paths_length ls in
      let b = c.behind (suc k) l s (omega arith) in
      let m = stands_below ls (suc k) l s in
      record {
        before = slice_index_or (paths ls) l.back.0 [];
        is = stands_same (paths ls) (suc k) ss (along (paths ls) l) p at;
        behind = λ h. stands_getD (paths ls) l.back.0 [] (omega arith);
      }

  -- the link at hand has the state
  pub meets_here : (i : ClassNo) (l : Link) (t : ℕ) → StandsAt ls i.0 l → l.state.0 ≡ t → Met (paths ls) i.0 t (Some i)
  meets_here i l t s e ss p =
      let n = ends i.0 l ss s p in
      let q : ss ≡ n.before ++ (t ∷ []) = n.is ∙ ap (λ (x : ℕ). n.before ++ (x ∷ [])) e in
      let d : Distinct (n.before ++ (t ∷ [])) = subst Distinct q (c.simple i.0 ss p) in
      let cut : cut_after ss t ≡ ss = ap (λ (l : List ℕ). cut_after l t) q ∙ cut_end n.before t (end_fresh n.before t d) ∙ sym q in
      (subst (Memᴰ t) (sym q) (Memᴰ.append_right n.before (Memᴰ.head refl)), subst (StandsAt (paths ls) i.0) (sym cut) p)

  -- no link is left behind it
  pub meets_none : (l : Link) (t : ℕ) (i : ℕ) → i ≡ 0 → StandsAt ls i l → (l.state.0 ≢ t) → Met (paths ls) i t None
  meets_none l t i z s n ss p m =
      let e = ends i l ss s p in
      let q : ss ≡ 0 ∷ [] = stands_same (paths ls) i ss (0 ∷ []) p (subst (λ (x : ℕ). StandsAt (paths ls) x (0 ∷ [])) (sym z) root_path) in
      let w : link 0 0 ≡ l = stands_same ls i (link 0 0) l (subst (λ (x : ℕ). StandsAt ls x (link 0 0)) (sym z) c.root) s in
      ⊎_elim (λ h. n (sym (ap (λ (k : Link). k.state.0) w) ∙ sym h)) Memᴰ.not-nil (Memᴰ.cases_cons (subst (Memᴰ t) q m))

  -- what the link behind meets
  pub meets_behind : (i : ℕ) (l : Link) (t : ℕ) → StandsAt ls i l → 0 < i → (l.state.0 ≢ t) → (r : Option ClassNo) → Met (paths ls) l.back.0 t r → Met (paths ls) i t r
  meets_behind i l t s h n None met =
      λ ss p m.
      let e = ends i l ss s p in
      ⊎_elim (λ k. met e.before (e.behind h) k)
      (λ k. ⊎_elim (λ q. n (sym q)) Memᴰ.not-nil (Memᴰ.cases_cons k))
      (Memᴰ.append_cases e.before (subst (Memᴰ t) e.is m))
  meets_behind i l t s h n (Some j) met =
      λ ss p.
      let e = ends i l ss s p in
      let (m, at) = met e.before (e.behind h) in
      let cut : cut_after ss t ≡ cut_after e.before t = ap (λ (l : List ℕ). cut_after l t) e.is ∙ cut_early e.before l.state.0 t m in
      (subst (Memᴰ t) (sym e.is) (Memᴰ.append_left (l.state.0 ∷ []) m), subst (StandsAt (paths ls) j.0) (sym cut) at)
