-- The first turn and the last of a search.
use Rattle.std.proofs.Common.{◌≡◌, ℕ, ◌<◌, ◌≤◌, List, [], ◌∷◌, map, length, take, set, Ok, Err, sym, ap, ◌∙◌, subst, length-take-le}
use lib.ListN.{length-map}
use Rattle.std.proofs.lemmas.List.{take_more_set}
use Rattle.finding.specs.declared.moves.Stop.{Stop}
use Rattle.finding.specs.declared.moves.Move.{Move}
use Rattle.finding.specs.Finding.{Search, Bounded, Place, within, stands, place, arrow, Turns, TurnedTo, Finding, Whole, Refused}
use Rattle.finding.specs.Finding.Turns.{stay}
use Rattle.finding.specs.Finding.Refused.{met}
use Rattle.finding.specs.declared.moves.Count.{Count}
use Rattle.finding.specs.Spaces.{Answered}
use Rattle.finding.proofs.Functional.{whole_or_refused, refused_same}
use Rattle.finding.proofs.Fitting.{fits_whole, found_fits}
use Rattle.finding.proofs.Lawful.{whole_numbered}
use Rattle.finding.proofs.Laws.{numbered_laws, upto_ascending}
use Rattle.finding.proofs.Visiting.{joins}

module _ {A : Type 0} {w w₀ : Bounded A} {start : A} {p : Place A} (finding : Finding w₀ start p) (same : w ≡ w₀) where
  pub goes_on : {q : Place A} → Turns w p q → Finding w₀ start q
  goes_on {q} t = (finding.0, joins finding.1 (subst (λ u. Turns u p q) same t))

  pub refuses : {s : Stop} → TurnedTo w p s → Refused w₀ start s
  refuses {s} t = let u = subst (λ y. TurnedTo y p s) same t in met u.0 (finding.0, joins finding.1 u.1) u.2

module _ {E : Type 0} (rows : List E) (start : E) (room : 0 < length rows) where
  first : take 1 (set rows 0 start) ≡ start ∷ []
  first = take_more_set rows 0 start room

  pub begins : {A N : Type 0} (f : E → A) (v : N → ℕ) (moves : List (Move N)) (s : Search A) (k : ℕ)
      → Finding (within s (length rows) k) (f start) (stands f v (set rows 0 start) 1 moves 0 0 0)
  begins {A} f v moves s k = (room, subst (λ l. Turns (within s (length rows) k) (place (f start ∷ []) [] 0 0) (place l [] 0 0)) (sym (ap (map f) first)) stay)

  pub ready_first : (ready : List E → Type 0) → ready (start ∷ []) → ready (take 1 (set rows 0 start))
  ready_first ready h = subst ready (sym first) h

-- ---- what a search answers, from how it ended

module _ {E A N : Type 0} {b : Bounded A} {start : A} {f : E → A} {v : N → ℕ} {rows : List E} {moves : List (Move N)} where
  -- the moves of every entry found are taken
  pub whole_answers : {c : Count} {i : ℕ} → Finding b start (stands f v rows c.entries moves c.moves i 0) → c.entries ≤ length rows → i ≡ c.entries
      → Answered b start f v rows moves (Ok c)
  whole_answers {c} finding fit e =
      let size = e ∙ sym (length-map (take c.entries rows) f ∙ length-take-le c.entries rows fit) in
      let w : Whole b start (map f (take c.entries rows)) (map (arrow v) (take c.moves moves)) =
      subst (λ k. Finding b start (stands f v rows c.entries moves c.moves k 0)) size finding in
      let n = whole_numbered start w in
      record { found = w; fits = found_fits w; laws = numbered_laws n (upto_ascending b.sought.symbols); only = λ stop r. whole_or_refused w r }

  pub refused_answers : {s : Stop} → Refused b start s → Answered b start f v rows moves (Err s)
  refused_answers r = record { found = r; fits = λ es ms f. whole_or_refused (fits_whole f) r; laws = tt; only = λ stop q. refused_same q r }
