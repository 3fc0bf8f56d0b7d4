-- The sets that are found are the first set, and the set after a word.
use Rattle.std.proofs.Common.{◌≡◌, ℕ, ◌<◌, ◌⊎◌, ◌↔◌, List, [], sym, subst, inl, inr, ⊎_elim}
use mathlib.Core.List.{Memᴰ}
use Rattle.table.specs.Sets.{Row, In, members, Inserted}
use Rattle.table.proofs.Rows.{members_in, in_members, members_ascending}
use Rattle.finding.specs.Numbered.{Arrow}
use Rattle.theory.specs.Flattening.{Acceptor}
use Rattle.theory.specs.Sentences.{Reads}
use Rattle.theory.specs.Subsets.{first_set, word_set}
use Rattle.theory.proofs.Subsets.{Onto, first_set_unique, word_set_unique}
use Rattle.pga.specs.Files.{Fit}
use Rattle.acceptor.specs.Steps.{JumpedFrom, OverWord}
use Rattle.acceptor.proofs.Fitting.{fit_range}

-- the target of a node's one arc on a word
pub target_added : {arcs : List Arrow} {ws vs : List ℕ} {q x t : ℕ} → Inserted ws t vs → Memᴰ (q, x, t) arcs → ((u : ℕ) → Memᴰ (q, x, u) arcs → u ≡ t) → t < 4096
    → (k : ℕ) → In vs k ↔ (In ws k ⊎ Memᴰ (q, x, k) arcs)
target_added {arcs} {ws} {vs} {q} {x} {t} i m one small k = (
  (λ h. ⊎_elim inl (λ n. inr (subst (λ z. Memᴰ (q, x, z) arcs) (sym n.0) m)) (i.only k h)),
  λ o. ⊎_elim (λ h. i.kept k h) (λ h. subst (In vs) (sym (one k h)) (i.added small)) o,
)

module _ (f : Acceptor) (fit : Fit f) (row : List ℕ) (rowed : Row row) where
  -- the row has what jumps reach from node 0
  pub is_first : (seed : List ℕ) → ((k : ℕ) → In seed k → k ≡ 0) → In seed 0 → ((k : ℕ) → In row k ↔ JumpedFrom f seed k) → members row ≡ first_set f
  is_first seed only zeroth h =
      first_set_unique f (fit_range f fit) (members row) (members_ascending row)
      (λ n. (
        (λ m. let j = (h n).0 (members_in row n m) in subst (λ q. Reads f q [] n) (only j.from j.member) j.reads),
        λ r. in_members row rowed n ((h n).1 (record { from = 0; member = zeroth; reads = r })),
      ))

  -- the row has what jumps reach from the targets of the arcs on x
  pub is_after : (set targets : List ℕ) (x : ℕ) → Row set → ((k : ℕ) → In targets k ↔ OverWord f.arcs set x k) → ((k : ℕ) → In row k ↔ JumpedFrom f targets k)
      → members row ≡ word_set f (members set) x
  is_after set targets x setted over h =
      word_set_unique f (fit_range f fit) (members set) x (members row) (members_ascending row)
      (λ n. (
        (λ m. let j = (h n).0 (members_in row n m) in
            let (q, i, a) = (over j.from).0 j.member in
            record { middle = j.from; by = record { from = q; member = in_members set setted q i; over = a }; reads = j.reads }),
        λ (o : Onto f (fit_range f fit) (members set) x n).
            in_members row rowed n ((h n).1 (record {
              from = o.middle;
              member = (over o.middle).1 (o.by.from, members_in set o.by.from o.by.member, o.by.over);
              reads = o.reads;
            })),
      ))
