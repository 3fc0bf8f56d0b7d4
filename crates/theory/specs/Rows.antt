-- Worked examples: what some small grammars come to under some policies.
use Rattle.std.specs.Prelude.{◌≡◌, ℕ, ◌+◌, Bool, true, false, List, [], ◌∷◌, length, ◌==◌}
use Rattle.std.proofs.Math.Option.{Option, none, some}
use Rattle.std.specs.List.{AllByRecursion}
use Rattle.book.specs.Grammar.{Rule, rule, Grammar, symbols, Derives}
use Rattle.finding.specs.Numbered.{Arrow}
use Rattle.theory.specs.Lists.{and, every, same}
use Rattle.theory.specs.Machine.{Machine}
use Rattle.theory.specs.Policies.{Class, Meaning, one_class, path, last, arrivals}
use Rattle.theory.specs.Policies.Class.{states}
use Rattle.theory.specs.Unfolding.{Node, Unfolded}
use Rattle.theory.specs.Flattening.{Acceptor, file_length, FlattenedFrom, Flattened}
use Rattle.theory.specs.Sentences.{Passes}
use Rattle.theory.specs.Subsets.{passes, Determined, determined_length, Determinised}
use Rattle.theory.specs.Executable.{Built, build, determine, sound_test, same_class}

-- ── the grammars ──

-- S → a X a | b X b, X → c, with a = 0, b = 1, c = 2, S = 3, X = 4
abbrev pub mirror : Grammar
mirror = record { words = 3; names = 2; start = 3; rules = rule 3 (0 ∷ (4 ∷ (0 ∷ []))) ∷ (rule 3 (1 ∷ (4 ∷ (1 ∷ []))) ∷ (rule 4 (2 ∷ []) ∷ [])) }

-- S → A b, A → A a | ε, with a = 0, b = 1, S = 2, A = 3
abbrev pub left_linear : Grammar
left_linear = record { words = 2; names = 2; start = 2; rules = rule 2 (3 ∷ (1 ∷ [])) ∷ (rule 3 (3 ∷ (0 ∷ [])) ∷ (rule 3 [] ∷ [])) }

-- S → a S b | ε, with a = 0, b = 1, S = 2
abbrev pub nested : Grammar
nested = record { words = 2; names = 1; start = 2; rules = rule 2 (0 ∷ (2 ∷ (1 ∷ []))) ∷ (rule 2 [] ∷ []) }

-- one word and one name, with these rules
abbrev pub smallest : List Rule → Grammar
smallest rules = record { words = 1; names = 1; start = 1; rules = rules }

-- ── the rows ──

-- a flattened acceptor by its counts and some sentences, each with the answer
pub record FlatRow : Type 0 where
  pub grammar : Grammar
  pub meaning : Meaning
  pub states : ℕ
  pub moves : ℕ
  pub nodes : ℕ
  pub unfolded : ℕ
  pub arcs : ℕ
  pub jumps : ℕ
  pub bytes : ℕ
  pub asked : List (List ℕ × Bool)

-- a determinised acceptor by its counts and its final states
pub record SubsetRow : Type 0 where
  pub grammar : Grammar
  pub meaning : Meaning
  pub states : ℕ
  pub arcs : ℕ
  pub finals : List ℕ
  pub bytes : ℕ

-- a class by the states reached one after another
pub record ClassRow : Type 0 where
  pub meaning : Meaning
  pub reached : List ℕ
  pub class : Class

pub data Row : Type 0 where
  flat : FlatRow → Row
  subset : SubsetRow → Row
  class : ClassRow → Row

-- the answer for a sentence is right
abbrev pub Answered : Acceptor → List ℕ × Bool → Type 0
Answered f (w, true) = Passes f w
Answered f (w, false) = Passes f w → ⊥

-- the machine, its unfolding and the acceptor are as the row says
pub record FlatHolds (r : FlatRow) : Type 0 where
  pub sets : List (List ℕ)
  pub arrows : List Arrow
  pub nodes : List Node
  pub unfolded_arrows : List Arrow
  pub acceptor : Acceptor
  pub machine : Machine r.grammar sets arrows
  pub unfolds : Unfolded r.meaning arrows (symbols r.grammar) nodes unfolded_arrows
  pub flattens : FlattenedFrom r.grammar sets nodes unfolded_arrows acceptor
  pub states_are : length sets ≡ r.states
  pub moves_are : length arrows ≡ r.moves
  pub nodes_are : length nodes ≡ r.nodes
  pub unfolded_are : length unfolded_arrows ≡ r.unfolded
  pub arcs_are : length acceptor.arcs ≡ r.arcs
  pub jumps_are : length acceptor.jumps ≡ r.jumps
  pub bytes_are : file_length acceptor ≡ r.bytes
  pub answered : AllByRecursion (Answered acceptor) r.asked

-- the places of `true`, counted from i
abbrev pub true_places : ℕ → List Bool → List ℕ
true_places i [] = []
true_places i (true ∷ bs) = i ∷ true_places (i + 1) bs
true_places i (false ∷ bs) = true_places (i + 1) bs

-- the determinised acceptor is as the row says
pub record SubsetHolds (r : SubsetRow) : Type 0 where
  pub acceptor : Acceptor
  pub flattens : Flattened r.grammar r.meaning acceptor
  pub determined : Determined
  pub determinises : Determinised acceptor determined
  pub states_are : determined.states ≡ r.states
  pub arcs_are : length determined.arcs ≡ r.arcs
  pub finals_are : true_places 0 determined.finals ≡ r.finals
  pub bytes_are : determined_length determined ≡ r.bytes

abbrev pub Holds : Row → Type 0
Holds (flat r) = FlatHolds r
Holds (subset r) = SubsetHolds r
Holds (class r) = arrivals r.meaning r.meaning.first r.reached ≡ r.class

abbrev pub rows : List Row
rows =
    flat (record { grammar = mirror; meaning = one_class; states = 9; moves = 9; nodes = 9; unfolded = 9; arcs = 6; jumps = 4; bytes = 67; asked = (0 ∷ (2 ∷ (1 ∷ [])), true) ∷ [] })
    ∷ (flat (record { grammar = mirror; meaning = path; states = 9; moves = 9; nodes = 10; unfolded = 9; arcs = 6; jumps = 4; bytes = 67; asked = (0 ∷ (2 ∷ (1 ∷ [])), false) ∷ ((0 ∷ (2 ∷ (0 ∷ [])), true) ∷ []) })
    ∷ (flat (record { grammar = mirror; meaning = last 1; states = 9; moves = 9; nodes = 10; unfolded = 9; arcs = 6; jumps = 4; bytes = 67; asked = (0 ∷ (2 ∷ (1 ∷ [])), false) ∷ [] })
    ∷ (flat (record { grammar = nested; meaning = path; states = 5; moves = 5; nodes = 5; unfolded = 5; arcs = 3; jumps = 4; bytes = 49; asked = ([], true) ∷ ((0 ∷ [], false) ∷ ((0 ∷ (0 ∷ (1 ∷ [])), true) ∷ [])) })
    ∷ (flat (record { grammar = left_linear; meaning = one_class; states = 5; moves = 4; nodes = 5; unfolded = 4; arcs = 2; jumps = 3; bytes = 39; asked = (0 ∷ (0 ∷ (1 ∷ [])), true) ∷ ((0 ∷ (0 ∷ []), false) ∷ []) })
    ∷ (flat (record { grammar = smallest []; meaning = one_class; states = 2; moves = 1; nodes = 2; unfolded = 1; arcs = 0; jumps = 0; bytes = 15; asked = ([], false) ∷ [] })
    ∷ (flat (record { grammar = smallest (rule 1 (1 ∷ []) ∷ []); meaning = one_class; states = 2; moves = 1; nodes = 2; unfolded = 1; arcs = 0; jumps = 1; bytes = 19; asked = ([], false) ∷ [] })
    ∷ (flat (record { grammar = smallest (rule 1 [] ∷ []); meaning = one_class; states = 2; moves = 1; nodes = 2; unfolded = 1; arcs = 0; jumps = 1; bytes = 19; asked = ([], true) ∷ [] })
    ∷ (subset (record { grammar = mirror; meaning = path; states = 7; arcs = 6; finals = 5 ∷ (6 ∷ []); bytes = 54 })
    ∷ (subset (record { grammar = nested; meaning = path; states = 3; arcs = 4; finals = 0 ∷ (2 ∷ []); bytes = 38 })
    ∷ (class (record { meaning = path; reached = 1 ∷ (2 ∷ (3 ∷ (1 ∷ (4 ∷ (2 ∷ []))))); class = states (0 ∷ (1 ∷ (4 ∷ (2 ∷ [])))) })
    ∷ []))))))))))

-- every row holds
abbrev pub AllRows : Type 0
AllRows = AllByRecursion Holds rows

-- the laws speak of something: an acceptor, a sentence that is derived and passes, and one that does not pass
pub record Witness : Type 0 where
  pub acceptor : Acceptor
  pub flattens : Flattened mirror path acceptor
  pub derived : Derives mirror (0 ∷ (2 ∷ (0 ∷ [])))
  pub passed : Passes acceptor (0 ∷ (2 ∷ (0 ∷ [])))
  pub not_passed : Passes acceptor (0 ∷ (2 ∷ (1 ∷ []))) → ⊥

-- ── the rows as tests ──

abbrev pub agree : Bool → Bool → Bool
agree true b = b
agree false true = false
agree false false = true

-- enough rounds for every row
abbrev pub enough : ℕ
enough = 40

abbrev pub flat_test : FlatRow → Built → Bool
flat_test r b =
    and (length b.sets == r.states)
    (and (length b.moves == r.moves)
    (and (length b.nodes == r.nodes)
    (and (length b.unfolded_moves == r.unfolded)
    (and (length b.acceptor.arcs == r.arcs)
    (and (length b.acceptor.jumps == r.jumps)
    (and (file_length b.acceptor == r.bytes)
    (every (λ a. agree (passes b.acceptor a.0) a.1) r.asked)))))))

abbrev pub subset_test : SubsetRow → Determined → Bool
subset_test r d =
    and (d.states == r.states) (and (length d.arcs == r.arcs) (and (same (true_places 0 d.finals) r.finals) (determined_length d == r.bytes)))

-- whether there is a value, and it passes a test
abbrev pub on_some : {A : Type 0} → (A → Bool) → Option A → Bool
on_some test none = false
on_some test (some a) = test a

abbrev pub row_test : Row → Bool
row_test (flat r) = and (sound_test r.grammar) (on_some (flat_test r) (build r.grammar r.meaning enough))
row_test (subset r) = and (sound_test r.grammar) (on_some (λ b. on_some (subset_test r) (determine b.acceptor enough)) (build r.grammar r.meaning enough))
row_test (class r) = same_class (arrivals r.meaning r.meaning.first r.reached) r.class
