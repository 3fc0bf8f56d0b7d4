-- What is found from a start in finding order is one list.
use Rattle.std.proofs.Common.{◌≡◌, ◌≢◌, ◌⊎◌, List, [], ◌∷◌, ◌++◌, sym, refl, ap, ◌∙◌, subst, inl, inr, ⊎_elim, append_assoc, append-nil}
use mathlib.Core.List.Memᴰ
use mathlib.Core.List.{Memᴰ, append_cancel_left}
use Rattle.finding.specs.Numbered.{Firsts, Found, all}
use Rattle.finding.specs.Numbered.Firsts.{nil, old, new}

pub all_++ : {A B : Type 0} (f : A → List B) (xs ys : List A) → all f (xs ++ ys) ≡ all f xs ++ all f ys
all_++ f [] ys = refl
all_++ f (x ∷ xs) ys = ap (λ l. f x ++ l) (all_++ f xs ys) ∙ sym (append_assoc (f x) (all f xs) (all f ys))

pub firsts_same : {A : Type 0} {seen ts ns : List A} → Firsts seen ts ns → {ms : List A} → Firsts seen ts ms → ns ≡ ms
firsts_same nil nil = refl
firsts_same (old h f) (old k g) = firsts_same f g
firsts_same (old h f) (new k g) = absurd (k h)
firsts_same (new h f) (old k g) = absurd (h k)
firsts_same (new {t = t} h f) (new k g) = ap (λ l. t ∷ l) (firsts_same f g)

record Parts {A : Type 0} (seen ts us ns : List A) : Type 0 where
  front : List A
  back : List A
  first : Firsts seen ts front
  joins : ns ≡ front ++ back

firsts_split : {A : Type 0} (ts us : List A) {seen ns : List A} → Firsts seen (ts ++ us) ns → Parts seen ts us ns
firsts_split [] us {ns = ns} f = record { front = []; back = ns; first = nil; joins = refl }
firsts_split (t ∷ ts) us (old h f) =
    let p = firsts_split ts us f in record { front = p.front; back = p.back; first = old h p.first; joins = p.joins }
firsts_split (t ∷ ts) us (new h f) =
    let p = firsts_split ts us f in
    record { front = t ∷ p.front; back = p.back; first = new h p.first; joins = ap (λ l. t ∷ l) p.joins }

-- whatever stands in the list was seen or is listed
pub firsts_mem : {A : Type 0} {e : A} {seen ts ns : List A} → Firsts seen ts ns → Memᴰ e ts → Memᴰ e seen ⊎ Memᴰ e ns
firsts_mem nil m = absurd (Memᴰ.not-nil m)
firsts_mem {e = e} {seen} (old h f) m = ⊎_elim (λ q. inl (subst (λ x. Memᴰ x seen) (sym q) h)) (firsts_mem f) (Memᴰ.cases_cons m)
firsts_mem {e = e} {seen} (new {t = t} {ns = ns} h f) m =
    ⊎_elim (λ q. inr (Memᴰ.head q)) (λ k. ⊎_elim (λ z. ⊎_elim inl (λ y. inr (one y)) (Memᴰ.append_cases seen z)) (λ z. inr (Memᴰ.tail z)) (firsts_mem f k)) (Memᴰ.cases_cons m)
  where
    one : Memᴰ e (t ∷ []) → Memᴰ e (t ∷ ns)
    one y = ⊎_elim Memᴰ.head (λ z. absurd (Memᴰ.not-nil z)) (Memᴰ.cases_cons y)

-- nothing is listed that was seen, and nothing twice
pub firsts_unseen : {A : Type 0} {seen ts ns : List A} → Firsts seen ts ns → (e : A) (before after : List A) → ns ≡ before ++ (e ∷ after) → Memᴰ e (seen ++ before) → ⊥
firsts_unseen nil e [] after q m = cc
firsts_unseen nil e (x ∷ before) after q m = cc
firsts_unseen (old h f) e before after q m = firsts_unseen f e before after q m
firsts_unseen {seen = seen} (new {t = t} h f) e [] after q m =
    let k : e ≡ t = cc in h (subst (λ x. Memᴰ x seen) k (rw append-nil at m))
firsts_unseen {seen = seen} (new {t = t} h f) e (x ∷ before) after q m =
    let k : x ≡ t = cc in let r : _ ≡ before ++ (e ∷ after) = cc in
    firsts_unseen f e before after r (subst (Memᴰ e) (ap (λ y. seen ++ (y ∷ before)) k ∙ sym (append_assoc seen (t ∷ []) before)) m)

-- a list that begins with `before` or is a part of it: where it holds the next element, it goes on past `before`
past : {A : Type 0} (e : A) (before after front back : List A) → before ++ (e ∷ after) ≡ front ++ back → Memᴰ e front → (Memᴰ e before → ⊥) → (m : List A) × (front ≡ before ++ (e ∷ m))
past e [] after [] back q i n = absurd (Memᴰ.not-nil i)
past e [] after (f ∷ front) back q i n = (front, let k : f ≡ e = cc in ap (λ x. x ∷ front) k)
past e (b ∷ before) after [] back q i n = absurd (Memᴰ.not-nil i)
past {A} e (b ∷ before) after (f ∷ front) back q i n =
    let k : f ≡ b = cc in
    let r : before ++ (e ∷ after) ≡ front ++ back = cc in
    let j : Memᴰ e front = ⊎_elim (λ z. absurd (n (Memᴰ.head (z ∙ k)))) (λ z. z) (Memᴰ.cases_cons i) in
    let (m, w) = past e before after front back r j (λ z. n (Memᴰ.tail z)) in
    (m, ap (λ x. x ∷ front) k ∙ ap (λ l. b ∷ l) w)

module _ {A : Type 0} (targets : A → List A) (start : A) where
  -- what the entries listed so far lead to is a front of each list of entries
  record Lead (before entries : List A) : Type 0 where
    front : List A
    back : List A
    firsts : Firsts [] (start ∷ all targets before) front
    joins : entries ≡ front ++ back

  lead : {entries : List A} → Found targets start entries → (before rest : List A) → entries ≡ before ++ rest → Lead before entries
  lead {entries} f before rest q =
      let p = firsts_split (start ∷ all targets before) (all targets rest) (subst (λ l. Firsts [] (start ∷ l) entries) (ap (all targets) q ∙ all_++ targets before rest) f.in_order) in
      record { front = p.front; back = p.back; firsts = p.first; joins = p.joins }

  goes_on : {es fs : List A} → Found targets start es → Found targets start fs → (before : List A) → before ≢ [] → (e : A) (after rest : List A) → es ≡ before ++ (e ∷ after) → fs ≡ before ++ rest → (m : List A) × (rest ≡ e ∷ m)
  goes_on {es} {fs} f g before ne e after rest p q =
      let a = lead f before (e ∷ after) p in
      let b = lead g before rest q in
      let same : a.front ≡ b.front = firsts_same a.firsts b.firsts in
      let here : Memᴰ e a.front = ⊎_elim (λ z. absurd (Memᴰ.not-nil z)) (λ z. z) (firsts_mem a.firsts (Memᴰ.tail (f.earlier before after e p ne))) in
      let (m, w) = past e before after a.front a.back (sym p ∙ a.joins) here (λ z. firsts_unseen f.in_order e before after p z) in
      (m ++ b.back, append_cancel_left before rest (e ∷ (m ++ b.back)) (sym q ∙ b.joins ∙ ap (λ l. l ++ b.back) (sym same ∙ w) ∙ append_assoc before (e ∷ m) b.back))

  snoc_ne : (xs : List A) (x : A) → xs ++ (x ∷ []) ≢ []
  snoc_ne [] x e = cc
  snoc_ne (y ∷ ys) x e = cc

  rest_same : {es fs : List A} → Found targets start es → Found targets start fs → (rest other before : List A) → before ≢ [] → es ≡ before ++ rest → fs ≡ before ++ other → rest ≡ other
  rest_same f g [] [] before ne p q = refl
  rest_same f g [] (o ∷ other) before ne p q =
      let (m, w) = goes_on g f before ne o other [] q p in absurd cc
  rest_same f g (e ∷ rest) [] before ne p q =
      let (m, w) = goes_on f g before ne e rest [] p q in absurd cc
  rest_same f g (e ∷ rest) (o ∷ other) before ne p q =
      let (m, w) = goes_on f g before ne e rest (o ∷ other) p q in
      let k : o ≡ e = cc in
      let t = rest_same f g rest other (before ++ (e ∷ [])) (snoc_ne before e) (p ∙ sym (append_assoc before (e ∷ []) rest)) (q ∙ ap (λ x. before ++ (x ∷ other)) k ∙ sym (append_assoc before (e ∷ []) other)) in
      cc

  pub begins : {ts es : List A} → Firsts [] (start ∷ ts) es → (rest : List A) × (es ≡ start ∷ rest)
  begins (old h f) = absurd (Memᴰ.not-nil h)
  begins (new {ns = ns} h f) = (ns, refl)

  pub found_unique : {es fs : List A} → Found targets start es → Found targets start fs → es ≡ fs
  found_unique f g =
      let (r, p) = begins f.in_order in
      let (s, q) = begins g.in_order in
      let ne : (start ∷ []) ≢ [] = (λ e. cc) in
      let t = rest_same f g r s (start ∷ []) ne p q in
      cc
