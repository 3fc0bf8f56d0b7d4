-- Bytes are the file of one acceptor of a kind at most, and no bytes are the file of none.
use Rattle.std.proofs.Common.{◌≡◌, ℕ, List, [], sym, ap, ◌∙◌}
use Rattle.pga.proofs.Decoding.{file_one as pga_one}
use Rattle.pgd.proofs.Decoding.{file_one as pgd_one}
use Rattle.promise.specs.Acceptors.{Kind, Automaton, IsFileOf}
use Rattle.promise.specs.Acceptors.Automaton.{flat, subset}
use Rattle.promise.specs.Acceptors.IsFileOf.{is_pga, is_pgd}

-- no bytes are no file
pub no_bytes : {k : Kind} {bytes : List ℕ} {a : Automaton} → IsFileOf k bytes a → bytes ≡ [] → ⊥
no_bytes (is_pga h) e = let z = sym h.is ∙ e in cc
no_bytes (is_pgd h) e = let z = sym h.is ∙ e in cc

-- bytes are the file of one acceptor of a kind
pub same_file : {k : Kind} {bytes : List ℕ} {a b : Automaton} → IsFileOf k bytes a → IsFileOf k bytes b → a ≡ b
same_file (is_pga {f = f} h) (is_pga {f = g} k) = ap flat (pga_one f g (sym h.is ∙ k.is))
same_file (is_pgd {d = d} h) (is_pgd {d = e} k) = ap subset (pgd_one d e h.fit.finals k.fit.finals (sym h.is ∙ k.is))
