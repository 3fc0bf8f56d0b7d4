-- Noting a name that is not noted yet.
use Rattle.std.proofs.Common.{◌≡◌, ℕ, zero, suc, ◌+◌, ◌<◌, ◌≤◌, Bool, true, false, ◌⊎◌, ◌↔◌, List, [], ◌∷◌, ◌++◌, length, get_or, take, set, replicate, sym, refl, ap, ◌∙◌, subst, inl, inr, ⊎_elim, arith}
use mathlib.Core.List.Memᴰ
use mathlib.Core.List.{Memᴰ}
use Rattle.std.proofs.lemmas.List.{append-nil, length-set, length-replicate, take_more_set, get_or-replicate, get_or-set_same, get_or-set_other}
use Rattle.std.proofs.lemmas.Bool.Decides.{eqb_tells}
use Rattle.machine.specs.Names.{marks, Marked, Noted}
use Rattle.machine.specs.Names.Noted.{old, new}

marks_set : (bs : List Bool) (n : ℕ) → n < length bs → get_or bs n false ≡ false → marks (set bs n true) ≡ suc (marks bs)
marks_set [] n h e = absurd (omega arith)
marks_set (false ∷ bs) zero h e = refl
marks_set (true ∷ bs) zero h e = absurd (cc)
marks_set (true ∷ bs) (suc n) h e = ap suc (marks_set bs n (omega arith) e)
marks_set (false ∷ bs) (suc n) h e = marks_set bs n (omega arith) e

pub marks_below : (bs : List Bool) → marks bs ≤ length bs
marks_below [] = omega arith
marks_below (true ∷ bs) = omega (arith, marks_below bs)
marks_below (false ∷ bs) = omega (arith, marks_below bs)

push_cases : (xs : List ℕ) (n m : ℕ) → Memᴰ m (xs ++ (n ∷ [])) ↔ (Memᴰ m xs ⊎ (m ≡ n))
push_cases xs n m = (
  (λ k. ⊎_elim inl (λ h. ⊎_elim inr (λ z. absurd (Memᴰ.not-nil z)) (Memᴰ.cases_cons h)) (Memᴰ.append_cases xs k)),
  (λ k. ⊎_elim (λ h. Memᴰ.append_left (n ∷ []) h) (λ e. Memᴰ.append_right xs (Memᴰ.head e)) k),
)

-- nothing is noted

marks_none : (n : ℕ) → marks (replicate n false) ≡ 0
marks_none zero = refl
marks_none (suc n) = marks_none n

pub none_marked : Marked (replicate 1024 0) 0 (replicate 1024 false)
none_marked =
    record {
      marked = λ n h. ((λ t. absurd (let f = get_or-replicate {A = Bool} 1024 n false false h in cc)), (λ m. absurd (Memᴰ.not-nil m)));
      counted = marks_none 1024;
      below = λ n m. absurd (Memᴰ.not-nil m);
      few = omega arith;
      long = length-replicate {A = ℕ} 1024 0;
    }

-- one name more

module _ {list : List ℕ} {count : ℕ} {seen : List Bool} (k : Marked list count seen) (n : ℕ) (small : n < 1024) (wide : length seen ≡ 1024) (e : get_or seen n false ≡ false) where
  pub note_room : count < 1024
  note_room = let a = k.counted in omega (arith, marks_set seen n (omega arith) e, marks_below (set seen n true), length-set seen n true)

  more : take (count + 1) (set list count n) ≡ take count list ++ (n ∷ [])
  more = let long = k.long in take_more_set list count n (omega (arith, note_room))

  pub note_marked : Marked (set list count n) (count + 1) (set seen n true)
  note_marked =
      let members : (m : ℕ) → Memᴰ m (take (count + 1) (set list count n)) ↔ (Memᴰ m (take count list) ⊎ (m ≡ n)) =
      λ m. subst (λ l. Memᴰ m l ↔ (Memᴰ m (take count list) ⊎ (m ≡ n))) (sym more) (push_cases (take count list) n m) in
      record {
        marked = λ m b. ⊎_elim
            (λ q. (
              (λ t. (members m).1 (inr q.1)),
              (λ t. ap (λ i. get_or (set seen n true) i false) q.1 ∙ get_or-set_same seen n true false (omega arith)),
            ))
            (λ q. let same : get_or (set seen n true) m false ≡ get_or seen m false = get_or-set_other seen n m true false q.1 in (
              (λ t. (members m).1 (inl ((k.marked m b).0 (sym same ∙ t)))),
              (λ t. same ∙ ⊎_elim (λ h. (k.marked m b).1 h) (λ h. absurd (q.1 h)) ((members m).0 t)),
            ))
            (eqb_tells m n);
        counted = marks_set seen n (omega arith) e ∙ (let a = k.counted in omega arith);
        below = λ m h. ⊎_elim (λ q. k.below m q) (λ q. omega arith) ((members m).0 h);
        few = omega (arith, note_room);
        long = length-set list count n ∙ k.long;
      }

  pub note_new : (names : List ℕ) → take count list ≡ names → Noted names n (take (count + 1) (set list count n))
  note_new names is =
      subst (λ l. Noted names n l) (sym (more ∙ ap (λ l. l ++ (n ∷ [])) is))
      (new (λ m. let t = (k.marked n small).1 (subst (Memᴰ n) (sym is) m) in cc))

-- what a noted name adds to a list: nothing, or itself
pub record Added (names : List ℕ) (n : ℕ) (names' : List ℕ) : Type 0 where
  pub more : List ℕ
  pub is : names' ≡ names ++ more
  pub are : (m : ℕ) → Memᴰ m names' ↔ (Memᴰ m names ⊎ (m ≡ n))

pub added : {names names' : List ℕ} {n : ℕ} → Noted names n names' → Added names n names'
added {names} {n = n} (old m) =
    record { more = []; is = simp append-nil; are = λ k. (inl, (λ h. ⊎_elim (λ i. i) (λ e. subst (λ z. Memᴰ z names) (sym e) m) h)) }
added {names} {n = n} (new f) = record { more = n ∷ []; is = refl; are = push_cases names n }
