use Rattle.std.proofs.Common.{◌≡◌, ℕ, List, sym, refl, subst}
use Rattle.theory.specs.Policies.{path}
use Rattle.policy.specs.Classes.{free_place}
use Rattle.pga.specs.declared.listing.Counts.{Counts}
use Rattle.compiler.specs.Compiling.{Lengths, FitsTables, Compiled}
use Rattle.worked.specs.Mirror.{mirror_book, just_enough}
use Rattle.worked.proofs.Mirror.{mirror_fits, mirror_compiled}
use Rattle.worked.proofs.mirror_file.Goals as goal

lent : {s m n u j : ℕ} → s ≡ 9 → m ≡ 9 → n ≡ 10 → u ≡ 9 → j ≡ 4 → record { states = s; moves = m; nodes = n; unfolded = u; jumps = j; out = 67 } ≡ just_enough
lent s m n u j i = record { states = s i; moves = m i; nodes = n i; unfolded = u i; jumps = j i; out = 67 }

on_lent : {l : Lengths} {out out' : List ℕ} {counts : Counts} → l ≡ just_enough → Compiled mirror_book path free_place l out out' counts → Compiled mirror_book path free_place just_enough out out' counts
on_lent {l} {out} {out'} {counts} e k = subst (λ x. Compiled mirror_book path free_place x out out' counts) e k

pub returns-in_err-compile_book : goal.returns-in_err-compile_book
returns-in_err-compile_book c =
    let l = c.lend.ensures in
    let e = lent l.states.1 l.moves.1 l.nodes.1 l.unfolded.1 l.jumps.1 in
    absurd (c.in_err-compile_book.ensures.2 (subst (FitsTables mirror_book path free_place) (sym e) mirror_fits))

pub returns : goal.returns
returns c =
    let l = c.lend.ensures in
    let e = lent l.states.1 l.moves.1 l.nodes.1 l.unfolded.1 l.jumps.1 in
    mirror_compiled _ _ _ refl (on_lent e c.in_ok-compile_book.ensures)
