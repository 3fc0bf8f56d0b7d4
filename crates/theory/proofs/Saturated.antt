-- Growing a set until nothing is new gives just what its members lead to.
use Rattle.std.proofs.Common.{◌≡◌, ℕ, zero, suc, ◌+◌, ◌<◌, ◌≤◌, Bool, true, false, eqb, ◌⊎◌, ◌↔◌, List, [], ◌∷◌, length, sym, refl, ap, ◌∙◌, subst, inl, inr, ⊎_elim, arith, eq-eqb, eqb-true}
use Rattle.std.proofs.lemmas.Bool.{cases_Bool}
use mathlib.Core.List.{Memᴰ}
use Rattle.table.specs.Lists.{Ascending}
use Rattle.theory.specs.Lists.{keep, same, joins, grow, rounds, saturate, Reach}
use Rattle.theory.specs.Lists.Reach.{base, step}
use Rattle.theory.proofs.Lists.{or_left, or_right, or_cases, keep_take, keep_leave, keep_mem, mem_keep, any_mem, mem_any, keep_length, same_equal, in_order_keep}

-- a weaker test keeps the same, or more
keep_more : (p q : ℕ → Bool) (xs : List ℕ) → ((k : ℕ) → Memᴰ k xs → p k ≡ true → q k ≡ true) → (keep q xs ≡ keep p xs) ⊎ (length (keep p xs) < length (keep q xs))
keep_more p q [] h = inl refl
keep_more p q (x ∷ xs) h =
    let r = keep_more p q xs (λ k m. h k (Memᴰ.tail m)) in
    let le : length (keep p xs) ≤ length (keep q xs) = ⊎_elim (λ e. let f = ap length e in omega arith) (λ l. omega arith) r in
    ⊎_elim
    (λ pt. let qt = h x (Memᴰ.head refl) pt in
    rw (keep_take p x xs pt, keep_take q x xs qt) (⊎_elim (λ e. inl (ap (λ l. x ∷ l) e)) (λ l. inr (omega arith)) r))
    (λ pf. ⊎_elim
    (λ qt. rw (keep_leave p x xs pf, keep_take q x xs qt) (inr (omega arith)))
    (λ qf. rw (keep_leave p x xs pf, keep_leave q x xs qf) r)
    (cases_Bool (q x)))
    (cases_Bool (p x))

module _ (U : List ℕ) (leads : ℕ → ℕ → Bool) where
  abbrev Stable : List ℕ → Type 0
  Stable s = grow U leads s ≡ s

  rounds_stop : (n : ℕ) (s : List ℕ) → same s (grow U leads s) ≡ true → rounds U leads (suc n) s ≡ s
  rounds_stop n s e = rw (e, rounds)

  rounds_go : (n : ℕ) (s : List ℕ) → same s (grow U leads s) ≡ false → rounds U leads (suc n) s ≡ rounds U leads n (grow U leads s)
  rounds_go n s e = rw (e, rounds)

  stable_rounds : (n : ℕ) (s : List ℕ) → Stable s → rounds U leads n s ≡ s
  stable_rounds zero s e = refl
  stable_rounds (suc n) s e =
      ⊎_elim (λ q. rounds_stop n s q) (λ q. rounds_go n s q ∙ ap (rounds U leads n) e ∙ stable_rounds n s e) (cases_Bool (same s (grow U leads s)))

  kept_joins : (p : ℕ → Bool) (k : ℕ) → Memᴰ k U → p k ≡ true → joins U leads (keep p U) k ≡ true
  kept_joins p k m e = or_left _ _ (mem_any (eqb k) (keep p U) (mem_keep p U m e) (eq-eqb k k refl))

  -- as many rounds as there are places left
  settles : (n : ℕ) (p : ℕ → Bool) → length U ≤ n + length (keep p U) → Stable (rounds U leads n (keep p U))
  settles zero p h =
      ⊎_elim (λ e. e) (λ l. let k = keep_length (joins U leads (keep p U)) U in absurd (omega arith)) (keep_more p (joins U leads (keep p U)) U (kept_joins p))
  settles (suc n) p h =
      ⊎_elim (λ q. let e = same_equal _ _ q in subst Stable (sym (rounds_stop n (keep p U) q)) (sym e))
      (λ q. subst Stable (sym (rounds_go n (keep p U) q))
      (⊎_elim (λ e. subst Stable (sym (stable_rounds n (grow U leads (keep p U)) (ap (grow U leads) e))) (ap (grow U leads) e))
      (λ l. settles n (joins U leads (keep p U)) (omega arith))
      (keep_more p (joins U leads (keep p U)) U (kept_joins p))))
      (cases_Bool (same (keep p U) (grow U leads (keep p U))))

  -- what is kept is reached
  grow_sound : (s t : List ℕ) → ((j k : ℕ) → Memᴰ j t → leads j k ≡ true → Reach U leads s j) → ((k : ℕ) → Memᴰ k t → Memᴰ k U → Reach U leads s k) → (k : ℕ) → Memᴰ k (grow U leads t) → Reach U leads s k
  grow_sound s t f h k d =
      let (u, e) = keep_mem (joins U leads t) U d in
      ⊎_elim (λ z. let (i, w, q) = any_mem (eqb k) t z in h k (subst (λ y. Memᴰ y t) (sym (eqb-true k i q)) w) u)
      (λ z. let (i, w, q) = any_mem (λ y. leads y k) t z in step (f i k w q) u q)
      (or_cases _ _ e)

  sound : (s : List ℕ) (n : ℕ) (t : List ℕ) → ((k : ℕ) → Memᴰ k t → Reach U leads s k) → (k : ℕ) → Memᴰ k (rounds U leads n t) → Reach U leads s k
  sound s zero t h k m = h k m
  sound s (suc n) t h k m =
      ⊎_elim (λ q. h k (subst (Memᴰ k) (rounds_stop n t q) m))
      (λ q. sound s n (grow U leads t) (grow_sound s t (λ i j w e. h i w) (λ i w u. h i w)) k (subst (Memᴰ k) (rounds_go n t q) m))
      (cases_Bool (same t (grow U leads t)))

  grown : (s : List ℕ) (k : ℕ) → Memᴰ k U → Memᴰ k s → Memᴰ k (grow U leads s)
  grown s k u m = mem_keep (joins U leads s) U u (or_left _ _ (mem_any (eqb k) s m (eq-eqb k k refl)))

  stays : (n : ℕ) (s : List ℕ) (k : ℕ) → Memᴰ k U → Memᴰ k s → Memᴰ k (rounds U leads n s)
  stays zero s k u m = m
  stays (suc n) s k u m =
      ⊎_elim (λ q. subst (Memᴰ k) (sym (rounds_stop n s q)) m) (λ q. subst (Memᴰ k) (sym (rounds_go n s q)) (stays n (grow U leads s) k u (grown s k u m)))
      (cases_Bool (same s (grow U leads s)))

  complete : (s : List ℕ) (k : ℕ) → Reach U leads s k → Memᴰ k (saturate U leads s)
  complete s k (base u m) = stays (length U) (grow U leads s) k u (grown s k u m)
  complete s k (step {j = j} r u e) =
      let st : Stable (saturate U leads s) = settles (length U) (joins U leads s) (omega arith) in
      subst (Memᴰ k) st (mem_keep (joins U leads (saturate U leads s)) U u (or_right _ _ (mem_any (λ y. leads y k) (saturate U leads s) (complete s j r) e)))

  -- where what leads on lies in the universe, the members are just what is reached
  pub saturated : ((j k : ℕ) → leads j k ≡ true → Memᴰ j U) → (s : List ℕ) (k : ℕ) → Memᴰ k (saturate U leads s) ↔ Reach U leads s k
  saturated inside s k = (
    sound s (length U) (grow U leads s) (grow_sound s s (λ i j w e. base (inside i j e) w) (λ i w u. base u w)) k,
    complete s k,
  )

  rounds_ascending : (n : ℕ) (s : List ℕ) → Ascending U → Ascending s → Ascending (rounds U leads n s)
  rounds_ascending zero s u h = h
  rounds_ascending (suc n) s u h =
      ⊎_elim (λ q. subst Ascending (sym (rounds_stop n s q)) h)
      (λ q. subst Ascending (sym (rounds_go n s q)) (rounds_ascending n (grow U leads s) u (in_order_keep (joins U leads s) ◌<◌ U u)))
      (cases_Bool (same s (grow U leads s)))

  pub saturate_ascending : (s : List ℕ) → Ascending U → Ascending (saturate U leads s)
  saturate_ascending s u = rounds_ascending (length U) (grow U leads s) u (in_order_keep (joins U leads s) ◌<◌ U u)
