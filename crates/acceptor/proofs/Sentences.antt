-- A turn from word to word: where it stands, and what it tells of the whole sentence.
use Rattle.std.proofs.Common.{◌≡◌, ℕ, ◌+◌, ◌<◌, ◌≤◌, Bool, List, [], ◌∷◌, ◌++◌, length, get_or, take, drop, Ok, Err, Decides, Result, sym, ap, ◌∙◌, subst, ⊎_elim, append_assoc, append-nil}
use Rattle.std.specs.List.{AllByRecursion}
use Rattle.std.proofs.lemmas.List.{drop_more, take_all, take-append-drop}
use Rattle.std.proofs.ByRecursion.{All-push}
use Rattle.acceptor.specs.declared.fault.TurnFault.{TurnFault}
use Rattle.acceptor.specs.declared.fault.TurnFault.TheVariants.{UnknownWord}
use Rattle.acceptor.specs.declared.running.Acceptor.{Ghosts as Running}
use Rattle.acceptor.specs.declared.turn.Condition.{Condition}
use Rattle.acceptor.specs.declared.turn.Event.TheVariants.{Word, End}
use Rattle.acceptor.specs.declared.turn.Told.{Told}
use Rattle.acceptor.specs.declared.turn.Told.TheVariants.{Judged}
use Rattle.acceptor.specs.Turns.{Tells, StandsAfter, FirstUnknown, Accepted}
use Rattle.acceptor.proofs.Telling.{Refusing, Taking, told_by}

-- the first word that is not known, where a walk over the words stops
pub first_unknown : (words : ℕ) (w : List ℕ) (i : ℕ) → i < length w → AllByRecursion (λ y. y < words) (take i w) → words ≤ get_or w i 0 → FirstUnknown words w (get_or w i 0)
first_unknown words w i l k u =
    record {
      before = take i w;
      after = drop (i + 1) w;
      is = sym (take-append-drop i w) ∙ ap (λ d. take i w ++ d) (drop_more w i 0 l);
      known = k;
      unknown = u;
    }

module _ {A P : Type 0} {runs : Running A P} {a : A} where
  -- an open turn refuses a word only where it is not known
  pub refused_word : {w : List ℕ} {c after : Condition P} {x : ℕ} {f : TurnFault} → StandsAfter runs a w c → Tells runs a c (Word x) (Err f) after
      → (f ≡ UnknownWord x) × (runs.words a ≤ x)
  refused_word {w} {c} {after} {x} {f} s t =
      ⊎_elim (λ (b : Refusing runs a s.at x (Err f) after). let h = b.told in let e : f ≡ UnknownWord x = cc in (e, b.unknown))
      (λ (b : Taking runs a s.at x (Err f) after). let h = b.told in absurd cc)
      (told_by (subst (λ d. Tells runs a d (Word x) (Err f) after) s.is t))

  -- a word taken is one word more
  pub taken_stands : {w : List ℕ} {c after : Condition P} {x : ℕ} {told : Told} → StandsAfter runs a w c → Tells runs a c (Word x) (Ok told) after
      → StandsAfter runs a (w ++ (x ∷ [])) after
  taken_stands {w} {c} {after} {x} {told} s t =
      ⊎_elim (λ (b : Refusing runs a s.at x (Ok told) after). let h = b.told in absurd cc)
      (λ (b : Taking runs a s.at x (Ok told) after). record {
        at = b.next;
        is = b.is;
        known = All-push (λ y. y < runs.words a) w x s.known b.known;
        rests = λ k r.
            let q = (b.goes k).1 r in
            let d = s.rests k (x ∷ r) in
            let e : w ++ (x ∷ r) ≡ (w ++ (x ∷ [])) ++ r = sym (append_assoc w (x ∷ []) r) in
            ((λ h. subst (runs.sentences a) e (d.0 (q.0 h))), (λ h. q.1 (d.1 (subst (runs.sentences a) (sym e) h))));
      })
      (told_by (subst (λ d. Tells runs a d (Word x) (Ok told) after) s.is t))

  -- end judges the words so far as the sentence
  judged : {w : List ℕ} {c after : Condition P} {r : Result Told TurnFault} → StandsAfter runs a w c → Tells runs a c End r after
      → (v : Bool) × (r ≡ Ok (Judged v)) × (runs.sound a → Decides v (runs.sentences a w))
  judged {w} {c} {after} {r} s t =
      let b = told_by (subst (λ d. Tells runs a d End r after) s.is t) in (
        b.verdict,
        b.told,
        λ k.
            let d = b.decides k in let q = s.rests k [] in
            let e = append-nil w in
            ((λ h. subst (runs.sentences a) e (q.0 (d.0 h))), (λ h. d.1 (q.1 (subst (runs.sentences a) (sym e) h)))),
      )

  -- so the whole sentence is judged
  pub judged_whole : (w : List ℕ) (i : ℕ) {c after : Condition P} {told : Told} (v : Bool) → length w ≤ i → StandsAfter runs a (take i w) c
      → Tells runs a c End (Ok told) after → told ≡ Judged v → Accepted runs a w (Ok v)
  judged_whole w i {c} {after} {told} v l s t e =
      let whole = take_all i w l in
      let (u, is, h) = judged s t in
      let same : u ≡ v = cc in (
        subst (AllByRecursion (λ x. x < runs.words a)) whole s.known,
        λ k. subst (λ b. Decides b (runs.sentences a w)) same (subst (λ y. Decides u (runs.sentences a y)) whole (h k)),
      )
