-- The classes held are those of the entries: one more entry, and which class has a place.
use Rattle.std.proofs.Common.{◌≡◌, ℕ, zero, suc, ◌<◌, ◌⊎◌, List, [], ◌∷◌, ◌++◌, map, length, Some, None, sym, refl, ap, ◌∙◌, subst, inl, inr, ⊎_elim, arith}
use mathlib.Core.List.Memᴰ
use mathlib.Core.List.{Memᴰ}
use Rattle.std.proofs.lemmas.List.{map_push}
use Rattle.table.specs.Lists.{StandsAt, Lacks, Distinct}
use Rattle.table.specs.declared.numbers.ClassNo.{ClassNo}
use Rattle.table.proofs.Lists.{stands_below, stands_same, stands_is, stands_getD, stands_left, stands_last, stands_push, mem_at, at_mem}
use Rattle.finding.specs.Numbered.{Firsts}
use Rattle.finding.specs.Numbered.Firsts.{nil as f_nil, new as f_new}
use Rattle.finding.proofs.Unique.{firsts_same, firsts_mem}
use Rattle.finding.proofs.Lawful.{firsts_old, firsts_new}
use Rattle.theory.specs.Policies.{Class}
use Rattle.theory.specs.Policies.Class.{states}
use Rattle.policy.specs.Classes.{Room, HasRoom, Taken, class_at, Tracks, HasPlace}
use Rattle.policy.specs.Classes.Taken.{old, new, unheld, no_place}

lacks_mem : {c : Class} (held : List Class) → Lacks held c → Memᴰ c held → ⊥
lacks_mem {c} held l m = let (k, s) = at_mem held c m in l k s

-- ── a class taken ──

-- from the classes cs to cs' the class d was taken, or stood there, as number a
pub record Step (room : Room) (cs : List Class) (d : Class) (a : ℕ) (cs' : List Class) : Type 0 where
  pub now_at : StandsAt cs' a d
  pub keeps : (k : ℕ) (x : Class) → StandsAt cs k x → StandsAt cs' k x
  pub fits : Memᴰ d cs ⊎ HasRoom room cs d
  pub only : (k : ℕ) → StandsAt cs k d → k ≡ a
  pub was : a < length cs → StandsAt cs a d
  pub grown : (cs' ≡ cs) ⊎ ((a ≡ length cs) × Lacks cs d × (cs' ≡ cs ++ (d ∷ [])))

module _ (room : Room) (cs : List Class) (onward : Class → Class) (i : ℕ) (distinct : Distinct cs) {c : Class} (at : StandsAt cs i c) where
  one_at : {x : Class} → StandsAt cs i x → onward x ≡ onward c
  one_at {x} s = ap onward (stands_same cs i x c s at)

  pub step : (a : ClassNo) {cs' : List Class} → Taken room cs onward i (Some a) cs' → Step room cs (onward c) a.0 cs'
  step a (old x s t) =
      let u : StandsAt cs a.0 (onward c) = subst (StandsAt cs a.0) (one_at s) t in
      record { now_at = u; keeps = λ k x s. s; fits = inl (mem_at cs a.0 (onward c) u); only = λ k s. distinct k a.0 (onward c) s u; was = λ h. u; grown = inl refl }
  step a (new x s l f e) =
      let q = one_at s in
      let l' : Lacks cs (onward c) = subst (Lacks cs) q l in
      let g : cs ++ (onward x ∷ []) ≡ cs ++ (onward c ∷ []) = ap (λ (d : Class). cs ++ (d ∷ [])) q in
      record {
        now_at = subst (λ (k : ℕ). StandsAt (cs ++ (onward x ∷ [])) k (onward c)) (sym e) (subst (λ (l : List Class). StandsAt l (length cs) (onward c)) (sym g) (stands_last cs [] (onward c)));
        keeps = λ k y s. stands_left cs (onward x ∷ []) y k s;
        fits = inr (subst (HasRoom room cs) q f);
        only = λ k s. absurd (l' k s);
        was = λ h. absurd (omega arith);
        grown = inr (e, l', g);
      }

  -- where nothing is taken the class is not held and has no place
  pub refused : {cs' : List Class} → Taken room cs onward i None cs' → Lacks cs (onward c) × (HasRoom room cs (onward c) → ⊥) × (cs' ≡ cs)
  refused (unheld h) = let b = stands_below cs i c at in absurd (omega arith)
  refused (no_place x s l f) = (subst (Lacks cs) (one_at s) l, (λ g. f (subst (HasRoom room cs) (sym (one_at s)) g)), refl)

pub old_taken : {room : Room} {cs : List Class} {onward : Class → Class} {i : ℕ} {j : ClassNo} {cs' : List Class} → Taken room cs onward i (Some j) cs' → j.0 < length cs → Taken room cs onward i (Some j) cs
old_taken (old x s t) h = old x s t
old_taken (new x s l f e) h = absurd (omega arith)

-- ── the classes of entries ──

pub map_same : {A B : Type 0} (f g : A → B) (es : List A) → ((k : ℕ) (e : A) → StandsAt es k e → f e ≡ g e) → map f es ≡ map g es
map_same f g [] h = refl
map_same f g (e ∷ es) h =
    let a : f e ≡ g e = h 0 e refl in
    let b : map f es ≡ map g es = map_same f g es (λ k u s. h (suc k) u s) in
    cc

module _ {E : Type 0} (number : E → ℕ) (held : List Class) (es : List E) (t : Tracks number held es) where
  abbrev pub of : List Class → E → Class
  of hs e = class_at hs (number e)

  -- an entry's class is held under its number
  pub entry_at : (k : ℕ) (e : E) → StandsAt es k e → StandsAt held (number e) (of held e)
  entry_at k e s = stands_getD held (number e) (states []) (t.below k e s)

  -- a class that is not held is no entry's
  pub no_entry : (c : Class) → Lacks held c → Lacks (map (of held) es) c
  no_entry c l k s =
      ⊎_elim (λ z. Memᴰ.not-nil z) (lacks_mem held l) (firsts_mem t.firsts (mem_at (map (of held) es) k c s))

  pub place_is : (room : Room) {c : Class} → Memᴰ c held ⊎ HasRoom room held c → HasPlace room (map (of held) es) c
  place_is room {c} h hs f = subst (λ (l : List Class). Memᴰ c l ⊎ HasRoom room l c) (firsts_same t.firsts f) h

  pub place_was : (room : Room) {c : Class} → HasPlace room (map (of held) es) c → Memᴰ c held ⊎ HasRoom room held c
  place_was room h = h held t.firsts

  pub no_place_is : (room : Room) {c : Class} → Lacks held c → (HasRoom room held c → ⊥) → HasPlace room (map (of held) es) c → ⊥
  no_place_is room l n h = ⊎_elim (lacks_mem held l) n (h held t.firsts)

  module _ {room : Room} {d : Class} {a : ℕ} {held' : List Class} (s : Step room held d a held') where
    -- entries keep their classes
    pub same_classes : map (of held') es ≡ map (of held) es
    same_classes = map_same (of held') (of held) es (λ k e p. stands_is held' (number e) (of held e) (states []) (s.keeps (number e) (of held e) (entry_at k e p)))

    -- one more entry, with the class taken
    pub tracks_more : (e : E) → number e ≡ a → Tracks number held' (es ++ (e ∷ []))
    tracks_more e q =
        let b : a < length held' = stands_below held' a d s.now_at in
        let is : of held' e ≡ d = ap (class_at held') q ∙ stands_is held' a d (states []) s.now_at in
        let all : map (of held') (es ++ (e ∷ [])) ≡ map (of held) es ++ (d ∷ []) =
        map_push (of held') es e ∙ ap (λ (l : List Class). l ++ (of held' e ∷ [])) same_classes ∙ ap (λ (c : Class). map (of held) es ++ (c ∷ [])) is in
        record {
          firsts = subst (λ (l : List Class). Firsts [] l held') (sym all) (⊎_elim
              (λ g. subst (Firsts [] (map (of held) es ++ (d ∷ []))) (sym g) (firsts_old d t.firsts (mem_at held a d (subst (λ (l : List Class). StandsAt l a d) g s.now_at))))
              (λ g. subst (Firsts [] (map (of held) es ++ (d ∷ []))) (sym g.2) (firsts_new d t.firsts (lacks_mem held g.1)))
              s.grown);
          below = λ k u p. ⊎_elim
              (λ w. stands_below held' (number u) (of held u) (s.keeps (number u) (of held u) (entry_at k u w)))
              (λ w. subst (λ (x : E). number x < length held') w.1 (omega arith))
              (stands_push es e u k p);
        }

-- one entry, of class number 0
pub tracks_first : {E : Type 0} (number : E → ℕ) (c : Class) (e : E) → number e ≡ 0 → Tracks number (c ∷ []) (e ∷ [])
tracks_first {E} number c e q =
    record {
      firsts = subst (λ (l : List Class). Firsts [] l (c ∷ [])) (ap (λ (n : ℕ). class_at (c ∷ []) n ∷ []) (sym q)) (f_new Memᴰ.not-nil f_nil);
      below = λ k u s. below k u s;
    }
  where
    below : (k : ℕ) (u : E) → StandsAt (e ∷ []) k u → number u < 1
    below zero u s = let w : e ≡ u = cc in subst (λ (x : E). number x < 1) w (omega arith)
    below (suc k) u s = absurd cc
