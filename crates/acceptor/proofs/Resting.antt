-- Positions that are sets of nodes: the first has the sentences of the file, and a step keeps the rests after its word.
use Rattle.std.proofs.Common.{◌≡◌, ℕ, ◌↔◌, List, [], ◌∷◌, sym, refl, subst}
use mathlib.Core.List.{Memᴰ}
use Rattle.table.specs.Sets.{Row, members}
use Rattle.table.proofs.Rows.{members_in, in_members}
use Rattle.theory.specs.Flattening.{Acceptor}
use Rattle.theory.specs.Sentences.{Reads, Passes}
use Rattle.theory.specs.Sentences.Reads.{stop, arc, jump}
use Rattle.theory.specs.Subsets.{first_set, word_set}
use Rattle.theory.proofs.Subsets.{reads_++, first_after, word_members}
use Rattle.pga.specs.Files.{Fit}
use Rattle.acceptor.specs.Flats.{Onward, RestsOf}
use Rattle.acceptor.proofs.Fitting.{fit_range}

-- a reading that begins with an arc is a reading
onward_reads : (f : Acceptor) (q : ℕ) (s : List ℕ) → Onward f q s → Reads f q s f.final
onward_reads f q [] e = subst (λ p. Reads f q [] p) e stop
onward_reads f q (x ∷ w) (r, a, k) = arc a k

-- a reading is jumps, and then one that begins with an arc or is empty
record JumpsFirst (f : Acceptor) (q : ℕ) (s : List ℕ) : Type 0 where
  middle : ℕ
  jumps : Reads f q [] middle
  onward : Onward f middle s

jumps_first : {f : Acceptor} {q p : ℕ} {s : List ℕ} → Reads f q s p → p ≡ f.final → JumpsFirst f q s
jumps_first {f} {q} stop e = record { middle = q; jumps = stop; onward = e }
jumps_first {f} {q} (arc {r = r} {w = w} a k) e = record { middle = q; jumps = stop; onward = (r, a, subst (Reads f r w) e k) }
jumps_first (jump j k) e = let b = jumps_first k e in record { middle = b.middle; jumps = jump j b.jumps; onward = b.onward }

module _ (f : Acceptor) (fit : Fit f) (row : List ℕ) (rowed : Row row) where
  -- the rests of the first set are the sentences
  pub first_rests : members row ≡ first_set f → (s : List ℕ) → RestsOf f row s ↔ Passes f s
  first_rests e s = (
    (λ (q, m, o). reads_++ ((first_after f (fit_range f fit) q).0 (subst (Memᴰ q) e (in_members row rowed q m))) (onward_reads f q s o)),
    λ r. let b = jumps_first r refl in
        (b.middle, members_in row b.middle (subst (Memᴰ b.middle) (sym e) ((first_after f (fit_range f fit) b.middle).1 b.jumps)), b.onward),
  )

  -- the rests of the set after a word are the rests after that word
  pub next_rests : (next : List ℕ) (x : ℕ) → Row next → members next ≡ word_set f (members row) x → (s : List ℕ) → RestsOf f next s ↔ RestsOf f row (x ∷ s)
  next_rests next x nexted e s = (
    (λ (q, m, o). let w = (word_members f (fit_range f fit) (members row) x q).0 (subst (Memᴰ q) e (in_members next nexted q m)) in
        (w.by.from, members_in row w.by.from w.by.member, (w.middle, w.by.over, reads_++ w.reads (onward_reads f q s o)))),
    λ (q, m, (r, a, k)). let b = jumps_first k refl in (
      b.middle,
      members_in next b.middle (subst (Memᴰ b.middle) (sym e)
          ((word_members f (fit_range f fit) (members row) x b.middle).1
          (record { middle = r; by = record { from = q; member = in_members row rowed q m; over = a }; reads = b.jumps }))),
      b.onward,
    ),
  )
