-- The cases of a turn, by what its condition and the event were found to be.
use Rattle.std.proofs.Common.{◌≡◌, ℕ, ◌<◌, ◌≤◌, Bool, ◌⊎◌, [], Ok, Err, Decides, Result, sym, refl, subst, inl, inr}
use Rattle.acceptor.specs.declared.fault.TurnFault.{TurnFault}
use Rattle.acceptor.specs.declared.fault.TurnFault.TheVariants.{UnknownWord, Unbegun as NotBegun}
use Rattle.acceptor.specs.declared.running.Acceptor.{Ghosts as Running}
use Rattle.acceptor.specs.declared.turn.Condition.{Condition}
use Rattle.acceptor.specs.declared.turn.Condition.TheVariants.{Unbegun, Open}
use Rattle.acceptor.specs.declared.turn.Event.{Event}
use Rattle.acceptor.specs.declared.turn.Event.TheVariants.{Begin, Word, End}
use Rattle.acceptor.specs.declared.turn.Told.{Told}
use Rattle.acceptor.specs.declared.turn.Told.TheVariants.{Begun, Taken, Judged}
use Rattle.acceptor.specs.Turns.{First, Next, Tells}
use Rattle.acceptor.specs.Turns.Tells.{begins, no_word, no_end, unknown, takes, judges}

module _ {A P : Type 0} (runs : Running A P) (a : A) where
  -- ── what was told, by the condition and the event ──

  -- begin is told
  pub record Beginning (r : Result Told TurnFault) (after : Condition P) : Type 0 where
    pub first : P
    pub told : r ≡ Ok Begun
    pub is : after ≡ Open first
    pub starts : First runs a first

  -- an open turn refused a word
  pub record Refusing (at : P) (x : ℕ) (r : Result Told TurnFault) (after : Condition P) : Type 0 where
    pub told : r ≡ Err (UnknownWord x)
    pub is : after ≡ Open at
    pub unknown : runs.words a ≤ x

  -- an open turn took a word
  pub record Taking (at : P) (x : ℕ) (r : Result Told TurnFault) (after : Condition P) : Type 0 where
    pub next : P
    pub told : r ≡ Ok Taken
    pub is : after ≡ Open next
    pub known : x < runs.words a
    pub goes : Next runs a at x next

  -- an open turn judged
  pub record Judging (at : P) (r : Result Told TurnFault) (after : Condition P) : Type 0 where
    pub verdict : Bool
    pub first : P
    pub told : r ≡ Ok (Judged verdict)
    pub is : after ≡ Open first
    pub decides : runs.sound a → Decides verdict (runs.rests a at [])
    pub starts : First runs a first

  abbrev pub ToldBy : Condition P → Event → Result Told TurnFault → Condition P → Type 0
  ToldBy c Begin r after = Beginning r after
  ToldBy Unbegun (Word x) r after = (r ≡ Err NotBegun) × (after ≡ Unbegun)
  ToldBy Unbegun End r after = (r ≡ Err NotBegun) × (after ≡ Unbegun)
  ToldBy (Open at) (Word x) r after = Refusing at x r after ⊎ Taking at x r after
  ToldBy (Open at) End r after = Judging at r after

module _ {A P : Type 0} {runs : Running A P} {a : A} where
  -- the condition and the event under other names
  pub tells_as : {c d after : Condition P} {e f : Event} {r : Result Told TurnFault} → c ≡ d → e ≡ f → Tells runs a d f r after → Tells runs a c e r after
  tells_as {c} {d} {after} {e} {f} {r} p q t = subst (λ x. Tells runs a x e r after) (sym p) (subst (λ y. Tells runs a d y r after) (sym q) t)

  -- and where the turn stays as it was
  pub tells_kept : {c d : Condition P} {e f : Event} {r : Result Told TurnFault} → c ≡ d → e ≡ f → Tells runs a d f r d → Tells runs a c e r c
  tells_kept {c} {d} {e} {f} {r} p q t = subst (λ x. Tells runs a x e r x) (sym p) (subst (λ y. Tells runs a d y r d) (sym q) t)

  pub told_by : {c after : Condition P} {e : Event} {r : Result Told TurnFault} → Tells runs a c e r after → ToldBy runs a c e r after
  told_by {c} (begins {first = first} h) = record { first = first; told = refl; is = refl; starts = h }
  told_by no_word = (refl, refl)
  told_by no_end = (refl, refl)
  told_by (unknown h) = inl (record { told = refl; is = refl; unknown = h })
  told_by (takes {next = next} k h) = inr (record { next = next; told = refl; is = refl; known = k; goes = h })
  told_by (judges {first = first} {verdict = v} d h) = record { verdict = v; first = first; told = refl; is = refl; decides = d; starts = h }
