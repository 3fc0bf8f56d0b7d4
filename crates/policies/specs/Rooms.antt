-- The room of a pair: what its test says.
use Rattle.std.proofs.Common.{◌≡◌, ◌<◌, Bool, true, false, ltb, ◌⊎◌, List, [], ◌∷◌, ◌++◌, map, length, sym, refl, subst, inl, inr, ⊎_elim}
use mathlib.Core.List.{Memᴰ}
use Rattle.std.proofs.lemmas.Bool.{cases_Bool, lt-ltb, ltb-true, both_ways}
use Rattle.finding.specs.Numbered.{Firsts}
use Rattle.finding.specs.Numbered.Firsts.{nil, old, new}
use Rattle.finding.proofs.Unique.{firsts_same}
use Rattle.theory.specs.Executable.{same_class}
use Rattle.theory.specs.Lists.{and, any}
use Rattle.theory.specs.Policies.{Class, left_class, right_class}
use Rattle.theory.specs.Unfolding.{node}
use Rattle.theory.proofs.Building.{class_equal, node_tells}
use Rattle.theory.proofs.Lists.{and_is, and_only, or_left, or_right, or_cases, any_mem, mem_any}
use Rattle.policy.specs.Classes.{Room, HasRoom, HasPlace}
use Rattle.policies.specs.Pairs.{first_classes, has_place, pair_room}

class_itself : (c : Class) → same_class c c ≡ true
class_itself c = ⊎_elim (λ e. e) (λ e. absurd (node_tells.no_if (node 0 c) (node 0 c) e refl)) (cases_Bool (same_class c c))

seen_mem : (c : Class) (seen : List Class) → any (same_class c) seen ≡ true → Memᴰ c seen
seen_mem c seen e = let (d, m, q) = any_mem (same_class c) seen e in subst (λ (x : Class). Memᴰ x seen) (sym (class_equal c d q)) m

mem_seen : (c : Class) (seen : List Class) → Memᴰ c seen → any (same_class c) seen ≡ true
mem_seen c seen m = mem_any (same_class c) seen m (class_itself c)

-- the first classes are the first occurrences
firsts_of : (classes : List Class) (seen : List Class) → Firsts seen classes (first_classes seen classes)
firsts_of [] seen = nil
firsts_of (c ∷ cs) seen =
    ⊎_elim
    (λ (e : any (same_class c) seen ≡ true). rw (e, first_classes) (old (seen_mem c seen e) (firsts_of cs seen)))
    (λ (e : any (same_class c) seen ≡ false). rw (e, first_classes) (new (λ m. both_ways (any (same_class c) seen) e (mem_seen c seen m)) (firsts_of cs (seen ++ (c ∷ [])))))
    (cases_Bool (any (same_class c) seen))

module _ (room : Room) (classes : List Class) (c : Class) where
  abbrev held : List Class
  held = first_classes [] classes

  place_told : has_place room classes c ≡ true → HasPlace room classes c
  place_told e hs f =
      subst (λ (l : List Class). Memᴰ c l ⊎ HasRoom room l c) (firsts_same (firsts_of classes []) f)
      (⊎_elim (λ m. inl (seen_mem c held m)) inr (or_cases (any (same_class c) held) (room held c) e))

  place_tells : HasPlace room classes c → has_place room classes c ≡ true
  place_tells h =
      ⊎_elim (λ m. or_left (any (same_class c) held) (room held c) (mem_seen c held m)) (λ r. or_right (any (same_class c) held) (room held c) r)
      (h held (firsts_of classes []))

-- a place is free, and each half is held below or has a place there
abbrev pub PairFits : Room → Room → List Class → Class → Type 0
PairFits P Q held c = (length held < 4096) × HasPlace P (map left_class held) (left_class c) × HasPlace Q (map right_class held) (right_class c)

module _ (P Q : Room) (held : List Class) (c : Class) where
  abbrev left : Bool
  left = has_place P (map left_class held) (left_class c)

  abbrev right : Bool
  right = has_place Q (map right_class held) (right_class c)

  pub pair_fits : HasRoom (pair_room P Q) held c → PairFits P Q held c
  pair_fits e =
      let (a, b) = and_only (ltb (length held) 4096) (and left right) e in
      let (l, r) = and_only left right b in
      (ltb-true (length held) 4096 a, place_told P (map left_class held) (left_class c) l, place_told Q (map right_class held) (right_class c) r)

  pub fits_pair : PairFits P Q held c → HasRoom (pair_room P Q) held c
  fits_pair (a, l, r) =
      and_is (ltb (length held) 4096) (and left right) (lt-ltb (length held) 4096 a)
      (and_is left right (place_tells P (map left_class held) (left_class c) l) (place_tells Q (map right_class held) (right_class c) r))
