-- The construction as functions that compute: the finding order within a number of rounds, and the flattened acceptor.
use Rattle.std.specs.Prelude.{ℕ, zero, suc, ◌+◌, Bool, true, false, ltb, List, [], ◌∷◌, ◌++◌, map, length, ◌==◌, nat_eq, nat_le, nat_lt}
use Rattle.std.proofs.Math.Option.{Option, none, some}
use Rattle.std.proofs.Math.ListN.{get_elem?}
use Rattle.std.specs.List.{flat_map}
use Rattle.book.specs.Grammar.{Rule, Grammar, symbols}
use Rattle.finding.specs.Numbered.{Arrow, upto}
use Rattle.theory.specs.Lists.{and, keep, any, every, same}
use Rattle.theory.specs.Closure.{goto, initial}
use Rattle.theory.specs.Policies.{Class, Meaning}
use Rattle.theory.specs.Policies.Class.{states, pair}
use Rattle.theory.specs.Unfolding.{along, Node, node, onward}
use Rattle.theory.specs.Flattening.{Acceptor, word_moves}
use Rattle.theory.specs.Subsets.{first_set, subset_step, Determined}

-- ── the finding order ──

-- entries and their moves
pub record Search (A : Type 0) : Type 0 where
  pub entries : List A
  pub moves : List Arrow

abbrev pub search_of : {A : Type 0} → List A → List Arrow → Search A
search_of es ms = record { entries = es; moves = ms }

-- a number, and the entries among which it counts
pub record Placed (A : Type 0) : Type 0 where
  pub number : ℕ
  pub entries : List A

abbrev pub placed : {A : Type 0} → ℕ → List A → Placed A
placed n es = record { number = n; entries = es }

module _ {A : Type 0} (equal : A → A → Bool) (step : A → ℕ → Option A) (on : List ℕ) where
  -- the number of an entry, counted from j, with the entry added at the end where it is new
  abbrev pub place : A → ℕ → List A → Placed A
  place t j [] = placed j (t ∷ [])
  place t j (e ∷ es) = elim (equal t e) [ true ↦ placed j (e ∷ es) | false ↦ (let r = place t (j + 1) es in placed r.number (e ∷ r.entries)) ]

  -- the moves of entry number i, and the entries with those that it found
  abbrev pub scan : ℕ → A → List ℕ → List A → Search A
  scan i a [] es = search_of es []
  scan i a (x ∷ xs) es =
      elim (step a x) [
        | none ↦ scan i a xs es
        | some t ↦ (let p = place t 0 es in let r = scan i a xs p.entries in search_of r.entries ((i, x, p.number) ∷ r.moves))
      ]

  -- entries from number i on; nothing where the rounds do not suffice
  abbrev pub visit : ℕ → ℕ → List A → Option (Search A)
  visit zero i es = none
  visit (suc rounds) i es =
      elim (get_elem? es i) [
        | none ↦ some (search_of es [])
        | some a ↦
            (let r = scan i a on es in
            elim (visit rounds (i + 1) r.entries) [ none ↦ none | some t ↦ some (search_of t.entries (r.moves ++ t.moves)) ])
      ]

  -- all that is found from a start
  abbrev pub numbered : ℕ → A → Option (Search A)
  numbered rounds start = visit rounds 0 (start ∷ [])

-- ── the flattened acceptor ──

abbrev pub same_class : Class → Class → Bool
same_class (states a) (states b) = same a b
same_class (states a) (pair c d) = false
same_class (pair a b) (states c) = false
same_class (pair a b) (pair c d) = and (same_class a c) (same_class b d)

abbrev pub same_node : Node → Node → Bool
same_node a b = and (a.state == b.state) (same_class a.class b.class)

abbrev pub same_pair : ℕ × ℕ → ℕ × ℕ → Bool
same_pair a b = and (a.0 == b.0) (a.1 == b.1)

-- where moves lead over a list of symbols
abbrev pub walk : List Arrow → ℕ → List ℕ → Option ℕ
walk moves q [] = some q
walk moves q (x ∷ xs) = elim (along moves q x) [ none ↦ none | some p ↦ walk moves p xs ]

-- the jump that a node gives rise to by a rule: from where it leads over the right side to where it moves over the left
abbrev pub leap : List Arrow → ℕ → Rule → List (ℕ × ℕ)
leap moves q r = elim (walk moves q r.right) [ none ↦ [] | some p ↦ elim (along moves q r.left) [ none ↦ [] | some to ↦ (p, to) ∷ [] ] ]

-- all jumps as the nodes below n give rise to them
abbrev pub leaps : List Arrow → List Rule → ℕ → List (ℕ × ℕ)
leaps moves rules n = flat_map (λ q. flat_map (leap moves q) rules) (upto n)

-- all pairs of some numbers, rising
abbrev pub pairs : List ℕ → List ℕ → List (ℕ × ℕ)
pairs ps ts = flat_map (λ p. map (λ t. (p, t)) ts) ps

-- the jumps, rising
abbrev pub jumps_among : List (ℕ × ℕ) → ℕ → List (ℕ × ℕ)
jumps_among given n = keep (λ j. any (same_pair j) given) (pairs (upto n) (upto n))

-- all that compile works out
pub record Built : Type 0 where
  pub sets : List (List ℕ)
  pub moves : List Arrow
  pub nodes : List Node
  pub unfolded_moves : List Arrow
  pub acceptor : Acceptor

abbrev pub finish : Grammar → Search (List ℕ) → Search Node → Option Built
finish g s t =
    elim (along t.moves 0 g.start) [
      | none ↦ none
      | some final ↦
          some (record {
            sets = s.entries;
            moves = s.moves;
            nodes = t.entries;
            unfolded_moves = t.moves;
            acceptor =
                record {
                  words = g.words;
                  nodes = length t.entries;
                  final = final;
                  arcs = word_moves g.words t.moves;
                  jumps = jumps_among (leaps t.moves g.rules (length t.entries)) (length t.entries);
                };
          })
    ]

abbrev pub unfold_from : Grammar → Meaning → ℕ → Search (List ℕ) → Option Built
unfold_from g m rounds s =
    elim (numbered same_node (onward m s.moves) (upto (symbols g)) rounds (node 0 m.first)) [ none ↦ none | some t ↦ finish g s t ]

-- the machine, its unfolding and the acceptor; nothing where the rounds do not suffice
abbrev pub build : Grammar → Meaning → ℕ → Option Built
build g m rounds = elim (numbered same (goto g) (upto (symbols g)) rounds (initial g)) [ none ↦ none | some s ↦ unfold_from g m rounds s ]

-- the determinised acceptor; nothing where the rounds do not suffice
abbrev pub determine : Acceptor → ℕ → Option Determined
determine f rounds =
    elim (numbered same (subset_step f) (upto f.words) rounds (first_set f)) [
      | none ↦ none
      | some s ↦ some (record { words = f.words; states = length s.entries; finals = map (λ set. any (nat_eq f.final) set) s.entries; arcs = s.moves })
    ]

-- whether a grammar is sound
abbrev pub sound_test : Grammar → Bool
sound_test g =
    and (nat_le g.words g.start)
    (and (nat_lt g.start (symbols g))
    (every (λ r. and (nat_le g.words r.left) (and (nat_lt r.left (symbols g)) (every (λ x. ltb x (symbols g)) r.right))) g.rules))
