-- From a kernel to its closure.
use Rattle.std.proofs.Common.{◌≡◌, ℕ, ◌+◌, ◌-◌, ◌<◌, ◌≤◌, List, [], ◌∷◌, ◌++◌, length, take, slice_get, Some, None, sym, ap, ◌∙◌, subst, ⊎_elim, arith}
use mathlib.Core.List.Memᴰ
use mathlib.Core.List.{Memᴰ}
use Rattle.std.proofs.lemmas.Bool.{cases_lt}
use Rattle.std.proofs.lemmas.List.{take_all, take_more, take-append-le}
use Rattle.std.proofs.lemmas.Option.{slice_get_within, slice_get-get_or, get_or_from_slice_get}
use Rattle.book.specs.Grammar.{Grammar}
use Rattle.book.specs.Tables.{Name}
use Rattle.table.specs.Sets.{Row, In, members}
use Rattle.table.proofs.Lists.{mem_at, stands_getD}
use Rattle.table.proofs.Rows.{members_in, in_members, members_ascending}
use Rattle.theory.specs.Closure.{Closed, closure}
use Rattle.theory.specs.Closure.Closed.{kernel, opened}
use Rattle.theory.proofs.Items.{after_known, first_rewrites, fit_sound}
use Rattle.theory.proofs.Closure.{closure_unique}
use Rattle.machine.specs.declared.items.Items.{Items}
use Rattle.machine.specs.declared.closure.Closing.{Closing}
use Rattle.machine.specs.Index.{FirstOf}
use Rattle.machine.specs.Closing.{ItemsOf, Within, Grown, OpenedTo}

-- the name at hand is noted

pub noted_at : (names : List ℕ) (i n : ℕ) → Some n ≡ slice_get names i → (i < length names) × Memᴰ n names × (take (i + 1) names ≡ take i names ++ (n ∷ []))
noted_at names i n e =
    let l = slice_get_within names i n (sym e) in
    let is = get_or_from_slice_get names i n n (sym e) in
    (l, subst (λ m. Memᴰ m names) is (mem_at names i _ (stands_getD names i n l)), take_more names i n l ∙ ap (λ m. take i names ++ (m ∷ [])) is)

pub noted_all : (names : List ℕ) (i : ℕ) → None ≡ slice_get names i → length names ≤ i
noted_all names i e = ⊎_elim (λ l. let s = slice_get-get_or names i 0 l in absurd cc) (λ l. l) (cases_lt i (length names))

-- one name more is open
pub opened_more : (g : Grammar) (i n : ℕ) (c c' : Closing) → Some n ≡ slice_get c.names i → Grown c c' → OpenedTo g i c
    → ((k : ℕ) → FirstOf g (g.words + n) k → In c'.set.words k) → OpenedTo g (i + 1) c'
opened_more g i n c c' at grown before here m k among f =
    let (h, _, t) = noted_at c.names i n at in
    let same : take (i + 1) c'.names ≡ take i c.names ++ (n ∷ []) =
    ap (take (i + 1)) grown.names ∙ take-append-le (i + 1) c.names grown.more (omega arith) ∙ t in
    ⊎_elim (λ o. grown.still k (before m k o f))
    (λ o. ⊎_elim (λ e. here k (subst (λ z. FirstOf g (g.words + z) k) e f)) (λ z. absurd (Memᴰ.not-nil z)) (Memᴰ.cases_cons o))
    (Memᴰ.append_cases (take i c.names) (subst (Memᴰ m) same among))

-- with every noted name open, the set is the closure

module _ (g : Grammar) (items : Items) (of : ItemsOf g items) (K : List ℕ) (c : Closing) (w : Within g K c) (all : OpenedTo g (length c.names) c) (K-in : (k : ℕ) → Memᴰ k K → In c.set.words k) where
  complete : {k : ℕ} → Closed g K k → In c.set.words k
  complete (kernel m h) = K-in _ m
  complete (opened {j = j} {k = k} {a = a} {c = x} {l = l} {r = r} {s = s} d i f) =
      let sound = fit_sound g of.fit in
      let name : Name g x = ((first_rewrites g sound j k i f).0, after_known g sound j i) in
      let noted-x = w.names j a x l r (complete d) i name in
      let back : g.words + (x - g.words) ≡ x = omega arith in
      all (x - g.words) k (subst (Memᴰ (x - g.words)) (sym (take_all (length c.names) c.names (omega arith))) noted-x) (subst (λ z. FirstOf g z k) (sym back) (s, f))

  pub closes : Row c.set.words → members c.set.words ≡ closure g K
  closes row =
      closure_unique g K (members c.set.words) (members_ascending c.set.words)
      (λ k. ((λ m. w.sound k (members_in c.set.words k m)), (λ d. in_members c.set.words row k (complete d))))
