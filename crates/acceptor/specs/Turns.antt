-- What a turn answers and leaves.
use Rattle.std.specs.Prelude.{◌≡◌, ℕ, ◌<◌, ◌≤◌, Bool, ◌↔◌, List, [], ◌∷◌, ◌++◌, Ok, Err, Decides, Result}
use Rattle.std.specs.List.{AllByRecursion}
use Rattle.acceptor.specs.declared.fault.TurnFault.{TurnFault}
use Rattle.acceptor.specs.declared.fault.TurnFault.TheVariants.{UnknownWord, Unbegun as NotBegun}
use Rattle.acceptor.specs.declared.running.Acceptor.{Ghosts as Running}
use Rattle.acceptor.specs.declared.turn.Condition.{Condition}
use Rattle.acceptor.specs.declared.turn.Condition.TheVariants.{Unbegun, Open}
use Rattle.acceptor.specs.declared.turn.Event.{Event}
use Rattle.acceptor.specs.declared.turn.Event.TheVariants.{Begin, Word, End}
use Rattle.acceptor.specs.declared.turn.Told.{Told}
use Rattle.acceptor.specs.declared.turn.Told.TheVariants.{Begun, Taken, Judged}

-- p is the first position of the acceptor a, and just the sentences of the file lead from it to yes
abbrev pub First : {A P : Type 0} → Running A P → A → P → Type 0
First runs a p = runs.sound a → runs.starts a p × ((s : List ℕ) → runs.rests a p s ↔ runs.sentences a s)

-- the word x leads from p to q, and just what leads to yes from p after x leads to yes from q
abbrev pub Next : {A P : Type 0} → Running A P → A → P → ℕ → P → Type 0
Next runs a p x q = runs.sound a → runs.goes a p x q × ((s : List ℕ) → runs.rests a q s ↔ runs.rests a p (x ∷ s))

-- a turn on the acceptor a, by its condition and the event together: what is told, and the condition after it
pub data Tells {A P : Type 0} (runs : Running A P) (a : A) : Condition P → Event → Result Told TurnFault → Condition P → Type 0 where
  -- begin opens the turn, or starts it over, at the first position
  begins : {c : Condition P} {first : P} → First runs a first → Tells runs a c Begin (Ok Begun) (Open first)
  -- an unbegun turn refuses any word, and end
  no_word : {x : ℕ} → Tells runs a Unbegun (Word x) (Err NotBegun) Unbegun
  no_end : Tells runs a Unbegun End (Err NotBegun) Unbegun
  -- a word that the acceptor does not know is refused
  unknown : {at : P} {x : ℕ} → runs.words a ≤ x → Tells runs a (Open at) (Word x) (Err (UnknownWord x)) (Open at)
  -- another leads on
  takes : {at next : P} {x : ℕ} → x < runs.words a → Next runs a at x next → Tells runs a (Open at) (Word x) (Ok Taken) (Open next)
  -- end judges, and the turn is back at the first position
  judges : {at first : P} {verdict : Bool} → (runs.sound a → Decides verdict (runs.rests a at [])) → First runs a first
      → Tells runs a (Open at) End (Ok (Judged verdict)) (Open first)

-- the turn is open where the words w led: the acceptor knows each, and just what makes a sentence after w leads from there to yes
pub record StandsAfter {A P : Type 0} (runs : Running A P) (a : A) (w : List ℕ) (c : Condition P) : Type 0 where
  pub at : P
  pub is : c ≡ Open at
  pub known : AllByRecursion (λ x. x < runs.words a) w
  pub rests : runs.sound a → (s : List ℕ) → runs.rests a at s ↔ runs.sentences a (w ++ s)

-- x is the first word of w that is not below the number of words
pub record FirstUnknown (words : ℕ) (w : List ℕ) (x : ℕ) : Type 0 where
  pub before : List ℕ
  pub after : List ℕ
  pub is : w ≡ before ++ (x ∷ after)
  pub known : AllByRecursion (λ y. y < words) before
  pub unknown : words ≤ x

-- what is told of a whole sentence: whether it is one of the acceptor's, or its first word that the acceptor does not know
abbrev pub Accepted : {A P : Type 0} → Running A P → A → List ℕ → Result Bool TurnFault → Type 0
Accepted runs a w (Ok verdict) = AllByRecursion (λ x. x < runs.words a) w × (runs.sound a → Decides verdict (runs.sentences a w))
Accepted runs a w (Err f) = (x : ℕ) × (f ≡ UnknownWord x) × FirstUnknown (runs.words a) w x
