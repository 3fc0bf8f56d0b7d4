-- What a search answers over the front of its tables, as the whole tables show it.
use Rattle.std.proofs.Common.{◌≡◌, ℕ, ◌-◌, ◌≤◌, min, List, ◌++◌, length, take, IfOk, Ok, Err, Result, subst, arith, length-take}
use Rattle.std.proofs.lemmas.List.{take-append-le}
use Rattle.finding.specs.declared.moves.Count.{Count}
use Rattle.finding.specs.declared.moves.Move.{Move}
use Rattle.finding.specs.declared.moves.Stop.{Stop}
use Rattle.finding.specs.Finding.{Bounded}
use Rattle.finding.specs.Spaces.{Held, Answered}

-- how long the front of a table up to a limit is
pub limited : {A : Type 0} (xs : List A) (k : ℕ) {n : ℕ} → n ≡ min (length xs) k → length (take (n - 0) xs) ≡ min (length xs) k
limited xs k {n} e = omega (arith, length-take (n - 0) xs)

-- an answer for the first rows of the tables holds for the tables
pub answered_whole : {E A N : Type 0} (ready : List E → Type 0) {b d : Bounded A} {start : A} {f : E → A} {v : N → ℕ}
    {rows : List E} {moves : List (Move N)} {r : Result Count Stop} (rest : List E) (later : List (Move N))
    → IfOk r (λ c. Held ready rows moves c) → b ≡ d → Answered b start f v rows moves r → Answered d start f v (rows ++ rest) (moves ++ later) r
answered_whole ready {start = start} {f} {v} {rows} {moves} {r = Ok c} rest later held same a =
    let fit : c.entries ≤ length rows = held.entries_fit in
    let moves-fit : c.moves ≤ length moves = held.moves_fit in
    subst (λ y. Answered y start f v (rows ++ rest) (moves ++ later) (Ok c)) same
    (record { found = simp take-append-le a.found; fits = simp take-append-le a.fits; laws = simp take-append-le a.laws; only = a.only })
answered_whole ready {start = start} {f} {v} {rows} {moves} {r = Err s} rest later held same a =
    subst (λ y. Answered y start f v (rows ++ rest) (moves ++ later) (Err s)) same (record { found = a.found; fits = a.fits; laws = a.laws; only = a.only })
