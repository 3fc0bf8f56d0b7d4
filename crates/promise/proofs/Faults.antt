-- What is no file of a kind: no bytes at all, told at place 0, and never the file of an acceptor.
use Rattle.std.proofs.Common.{◌≡◌, ℕ, ◌<◌, ◌≤◌, Bool, true, false, List, [], ◌∷◌, map, length, Err, sym, refl, subst, arith}
use Rattle.std.specs.List.{flat_map, AllByRecursion}
use Rattle.std.proofs.ByRecursion.{All-append}
use Rattle.book.specs.declared.fault.Refusal.{Refusal}
use Rattle.book.specs.Files.{bytes_of}
use Rattle.finding.specs.Numbered.{Arrow}
use Rattle.theory.specs.Flattening.{Acceptor}
use Rattle.theory.specs.Subsets.{Determined}
use Rattle.fields.specs.Refusals.{told}
use Rattle.fields.specs.Arcs.{arc_numbers, ArcWithin}
use Rattle.fields.specs.Flaws.{Check, First}
use Rattle.fields.specs.Flaws.Fault.{early, wrong}
use Rattle.fields.specs.Flaws.First.{here, later}
use Rattle.pga.specs.Files.{jump_numbers, header_numbers, file_numbers, file_of, JumpFits, Fit}
use Rattle.pga.proofs.Unique.{only_checked as only_pga}
use Rattle.pgd.specs.Files.{final_byte, header_numbers as subset_header, file_of as subset_file, Fit as SubsetFit}
use Rattle.pgd.proofs.Unique.{only_checked as only_pgd}
use Rattle.promise.specs.Acceptors.{Kind, Automaton, IsFileOf, NoFile}
use Rattle.promise.specs.Acceptors.Kind.{pga, pgd}
use Rattle.promise.specs.Acceptors.IsFileOf.{is_pga, is_pgd}

-- ── the numbers of a file are bytes ──

abbrev Byte : ℕ → Type 0
Byte n = n < 256

-- a number that two bytes hold
abbrev Small : ℕ → Type 0
Small n = n < 65536

small_bytes : (ns : List ℕ) → AllByRecursion Small ns → AllByRecursion Byte (flat_map bytes_of ns)
small_bytes [] h = tt
small_bytes (n ∷ ns) (h, hs) = (omega arith, (omega arith, small_bytes ns hs))

small_arcs : (words positions : ℕ) → words ≤ 4096 → positions ≤ 4096 → (ms : List Arrow) → AllByRecursion (ArcWithin words positions) ms → AllByRecursion Small (flat_map arc_numbers ms)
small_arcs w n p q [] h = tt
small_arcs w n p q (m ∷ ms) ((a, b, c), hs) = (omega arith, (omega arith, (omega arith, small_arcs w n p q ms hs)))

small_jumps : (f : Acceptor) → Fit f → (js : List (ℕ × ℕ)) → AllByRecursion (JumpFits f) js → AllByRecursion Small (flat_map jump_numbers js)
small_jumps f fit [] h = tt
small_jumps f fit (j ∷ js) ((p, q), hs) = let n = fit.nodes in (omega arith, (omega arith, small_jumps f fit js hs))

small_header : (f : Acceptor) → Fit f → AllByRecursion Small (header_numbers f)
small_header f fit =
    let w = fit.words in let n = fit.nodes in let l = fit.final in let c = fit.few_arcs in let j = fit.few_jumps in
    (omega arith, (omega arith, (omega arith, (omega arith, (omega arith, (omega arith, tt))))))

small_pga : (f : Acceptor) → Fit f → AllByRecursion Byte (file_of f)
small_pga f fit =
    let w = fit.words in let n = fit.nodes in
    let arcs = small_arcs f.words f.nodes (omega arith) (omega arith) f.arcs fit.arcs in
    let rest = All-append Small (flat_map arc_numbers f.arcs) _ arcs (small_jumps f fit f.jumps fit.jumps) in
    (omega arith, (omega arith, (omega arith, small_bytes (file_numbers f) (All-append Small (header_numbers f) _ (small_header f fit) rest))))

small_finals : (fs : List Bool) → AllByRecursion Byte (map final_byte fs)
small_finals [] = tt
small_finals (true ∷ fs) = (omega arith, small_finals fs)
small_finals (false ∷ fs) = (omega arith, small_finals fs)

small_pgd : (d : Determined) → SubsetFit d → AllByRecursion Byte (subset_file d)
small_pgd d fit =
    let w = fit.words in let n = fit.states in let c = fit.few_arcs in
    let header : AllByRecursion Small (subset_header d) = (omega arith, (omega arith, (omega arith, (omega arith, tt)))) in
    let arcs = small_bytes _ (small_arcs d.words d.states (omega arith) (omega arith) d.arcs fit.arcs) in
    let rest = All-append Byte (map final_byte d.finals) _ (small_finals d.finals) arcs in
    (omega arith, (omega arith, (omega arith, All-append Byte (flat_map bytes_of (subset_header d)) _ (small_bytes (subset_header d) header) rest)))

-- ── faults ──

pub empty_fault : (k : Kind) {r : Refusal} → NoFile k [] r → r ≡ told 17 0
empty_fault pga (here (early h)) = refl
empty_fault pga (here (wrong h w)) = absurd (omega arith)
empty_fault pga (later (h, w) f) = absurd (omega arith)
empty_fault pgd (here (early h)) = refl
empty_fault pgd (here (wrong h w)) = absurd (omega arith)
empty_fault pgd (later (h, w) f) = absurd (omega arith)

-- a fault of a file tells 17 and a place
told_at : {bytes : List ℕ} {cs : List Check} {r : Refusal} → First bytes cs r → (p : ℕ) × (r ≡ told 17 p)
told_at {bytes} (here (early h)) = (length bytes, refl)
told_at (here (wrong h w)) = (_, refl)
told_at (later p f) = told_at f

pub file_no_fault : {k : Kind} {bytes : List ℕ} {a : Automaton} → IsFileOf k bytes a → (r : Refusal) → NoFile k bytes r → ⊥
file_no_fault {bytes = bytes} (is_pga {f = f} h) r x =
    let (p, e) = told_at x in
    (only_pga bytes (subst (AllByRecursion Byte) (sym h.is) (small_pga f h.fit)) (Err (record { place = p })) (subst (NoFile pga bytes) e x)).0 f h
file_no_fault {bytes = bytes} (is_pgd {d = d} h) r x =
    let (p, e) = told_at x in
    (only_pgd bytes (subst (AllByRecursion Byte) (sym h.is) (small_pgd d h.fit)) (Err (record { place = p })) (subst (NoFile pgd bytes) e x)).0 d h
