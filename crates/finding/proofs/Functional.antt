-- One outcome at most: a search that ends is not refused, and one that is refused is so by one cause.
use Rattle.std.proofs.Common.{◌≡◌, ℕ, ◌+◌, List, [], ◌∷◌, ◌++◌, length, sym, refl, ap, subst, inl, inr, arith}
use mathlib.Core.Option.{none}
use Rattle.finding.specs.declared.moves.Stop.{Stop}
use Rattle.table.specs.Lists.{StandsAt, Lacks, Distinct}
use Rattle.finding.specs.Numbered.{Arrow as Arrow₃}
use Rattle.finding.specs.Finding.{Bounded, Place, place, Leads, Turn, Turns, Stopped, Whole, Refused}
use Rattle.finding.specs.Finding.Turn.{pass, old, new, next}
use Rattle.finding.specs.Finding.Turns.{stay, more}
use Rattle.finding.specs.Finding.Stopped.{no_room, no_entry, no_move}
use Rattle.finding.specs.Finding.Refused.{empty, met}
use Rattle.table.proofs.Lists.{stands_below, distinct_one, distinct_push}

-- turns counted from the front
data Ahead {A : Type 0} (w : Bounded A) : Place A → Place A → Type 0 where
  here : {p : Place A} → Ahead w p p
  on : {p q r : Place A} → Turn w p q → Ahead w q r → Ahead w p r

module _ {A : Type 0} {w : Bounded A} where
  leads_same : {p : Place A} {t u : A} → Leads w p t → Leads w p u → t ≡ u
  leads_same {p} {t} {u} a b =
      let e : a.at ≡ b.at = cc in
      let step-same = ap (λ v. w.sought.step v p.symbol) e in cc

  leads_rests : {p : Place A} {t a : A} → Leads w p t → StandsAt p.entries p.entry a → w.sought.step a p.symbol ≡ none → ⊥
  leads_rests {p} {t} {a} l s n =
      let e : a ≡ l.at = cc in
      let step-same = ap (λ v. w.sought.step v p.symbol) e in cc

  room_same : {p : Place A} {t u : A} → Leads w p t → Leads w p u → w.sought.room p.entries t → w.sought.room p.entries u
  room_same {p} a b r = subst (λ v. w.sought.room p.entries v) (leads_same a b) r

  moves_on : {p : Place A} {t u : A} → Leads w p t → Leads w p u → Lacks p.entries t → (j : ℕ) → StandsAt p.entries j u → ⊥
  moves_on {p} a b l j s = l j (subst (λ v. StandsAt p.entries j v) (leads_same b a) s)

  turn_same : {p q r : Place A} → Distinct p.entries → Turn w p q → Turn w p r → q ≡ r
  turn_same d (pass a s b n) (pass a' s' b' n') = refl
  turn_same d (pass a s b n) (old t j l h m) = absurd (leads_rests l s n)
  turn_same d (pass a s b n) (new t l h r e m) = absurd (leads_rests l s n)
  turn_same d (pass a s b n) (next i x) = absurd (omega arith)
  turn_same d (old t j l h m) (pass a s b n) = absurd (leads_rests l s n)
  turn_same {p} d (old t j l h m) (old t' j' l' h' m') =
      ap (λ k. place p.entries (p.moves ++ ((p.entry, p.symbol, k) ∷ [])) p.entry (p.symbol + 1)) (d j j' t h (subst (λ v. StandsAt p.entries j' v) (leads_same l' l) h'))
  turn_same d (old t j l h m) (new t' l' h' r e m') = absurd (moves_on l' l h' j h)
  turn_same d (old t j l h m) (next i x) = absurd (omega (arith, l.below))
  turn_same d (new t l h r e m) (pass a s b n) = absurd (leads_rests l s n)
  turn_same d (new t l h r e m) (old t' j' l' h' m') = absurd (moves_on l l' h j' h')
  turn_same {p} d (new t l h r e m) (new t' l' h' r' e' m') =
      ap (λ v. place (p.entries ++ (v ∷ [])) (p.moves ++ ((p.entry, p.symbol, length p.entries) ∷ [])) p.entry (p.symbol + 1)) (leads_same l l')
  turn_same d (new t l h r e m) (next i x) = absurd (omega (arith, l.below))
  turn_same d (next i x) (pass a s b n) = absurd (omega arith)
  turn_same d (next i x) (old t j l h m) = absurd (omega (arith, l.below))
  turn_same d (next i x) (new t l h r e m) = absurd (omega (arith, l.below))
  turn_same d (next i x) (next i' x') = refl

  turn_distinct : {p q : Place A} → Distinct p.entries → Turn w p q → Distinct q.entries
  turn_distinct d (pass a s b n) = d
  turn_distinct d (old t j l h m) = d
  turn_distinct {p} d (new t l h r e m) = distinct_push p.entries t d h
  turn_distinct d (next i x) = d

  pub turns_distinct : {p q : Place A} → Distinct p.entries → Turns w p q → Distinct q.entries
  turns_distinct d stay = d
  turns_distinct d (more f t) = turn_distinct (turns_distinct d f) t

  stopped_stuck : {p : Place A} {s : Stop} → Stopped w p s → (q : Place A) → Turn w p q → ⊥
  stopped_stuck (no_room t l h n) q (pass a s b g) = leads_rests l s g
  stopped_stuck (no_room t l h n) q (old t' j l' h' m) = moves_on l l' h j h'
  stopped_stuck {p} (no_room t l h n) q (new t' l' h' r e m) = n (room_same l' l r)
  stopped_stuck (no_room t l h n) q (next i x) = omega (arith, l.below)
  stopped_stuck (no_entry t l h r n) q (pass a s b g) = leads_rests l s g
  stopped_stuck (no_entry t l h r n) q (old t' j l' h' m) = moves_on l l' h j h'
  stopped_stuck (no_entry t l h r n) q (new t' l' h' r' e m) = omega arith
  stopped_stuck (no_entry t l h r n) q (next i x) = omega (arith, l.below)
  stopped_stuck (no_move t l h n) q (pass a s b g) = leads_rests l s g
  stopped_stuck (no_move t l h n) q (old t' j l' h' m) = omega arith
  stopped_stuck (no_move t l h n) q (new t' l' h' r' e m) = omega arith
  stopped_stuck (no_move t l h n) q (next i x) = omega (arith, l.below)

  -- where every entry found has its moves taken, none is at hand
  none_leads : (es : List A) (ms : List Arrow₃) {t : A} → Leads w (place es ms (length es) 0) t → ⊥
  none_leads es ms l = omega (arith, stands_below es (length es) l.at l.stands)

  ended_stuck : (es : List A) (ms : List Arrow₃) (q : Place A) → Turn w (place es ms (length es) 0) q → ⊥
  ended_stuck es ms q (pass a s b g) = omega (arith, stands_below es (length es) a s)
  ended_stuck es ms q (old t j l h m) = none_leads es ms l
  ended_stuck es ms q (new t l h r e m) = none_leads es ms l
  ended_stuck es ms q (next i x) = omega arith

  ahead : {p q r : Place A} → Turns w p q → Ahead w q r → Ahead w p r
  ahead stay a = a
  ahead (more f t) a = ahead f (on t a)

  ahead_same : {p q r : Place A} → Distinct p.entries → Ahead w p q → ((s : Place A) → Turn w q s → ⊥) → Ahead w p r → ((s : Place A) → Turn w r s → ⊥) → q ≡ r
  ahead_same d here x here y = refl
  ahead_same d here x (on t a) y = absurd (x _ t)
  ahead_same d (on t a) x here y = absurd (y _ t)
  ahead_same {r = r} d (on {q = q} t a) x (on {q = q'} u b) y =
      ahead_same (turn_distinct d t) a x (subst (λ z. Ahead w z r) (sym (turn_same d t u)) b) y

  both : {start : A} {p q : Place A} → Turns w (place (start ∷ []) [] 0 0) p → ((s : Place A) → Turn w p s → ⊥) → Turns w (place (start ∷ []) [] 0 0) q → ((s : Place A) → Turn w q s → ⊥) → p ≡ q
  both {start} f x g y = ahead_same (distinct_one start) (ahead f here) x (ahead g here) y

  pub whole_distinct : {start : A} {es : List A} {ms : List Arrow₃} → Whole w start es ms → Distinct es
  whole_distinct {start} f = turns_distinct (distinct_one start) f.1

  -- one numbering at most
  pub whole_same : {start : A} {es es' : List A} {ms ms' : List Arrow₃} → Whole w start es ms → Whole w start es' ms' → (es ≡ es') × (ms ≡ ms')
  whole_same {es = es} {es'} {ms} {ms'} f g =
      let e = both f.1 (ended_stuck es ms) g.1 (ended_stuck es' ms') in
      (ap (λ (p : Place A). p.entries) e, ap (λ (p : Place A). p.moves) e)

  stopped_same : {p : Place A} {s s' : Stop} → Stopped w p s → Stopped w p s' → s ≡ s'
  stopped_same (no_room t l h n) (no_room t' l' h' n') = refl
  stopped_same {p} (no_room t l h n) (no_entry t' l' h' r' n') = absurd (n (room_same l' l r'))
  stopped_same (no_room t l h n) (no_move t' l' (inl a) n') = absurd (moves_on l l' h a.0 a.1)
  stopped_same {p} (no_room t l h n) (no_move t' l' (inr a) n') = absurd (n (room_same l' l a.1))
  stopped_same {p} (no_entry t l h r n) (no_room t' l' h' n') = absurd (n' (room_same l l' r))
  stopped_same (no_entry t l h r n) (no_entry t' l' h' r' n') = refl
  stopped_same (no_entry t l h r n) (no_move t' l' (inl a) n') = absurd (moves_on l l' h a.0 a.1)
  stopped_same (no_entry t l h r n) (no_move t' l' (inr a) n') = absurd (omega (arith, a.2))
  stopped_same (no_move t l (inl a) n) (no_room t' l' h' n') = absurd (moves_on l' l h' a.0 a.1)
  stopped_same {p} (no_move t l (inr a) n) (no_room t' l' h' n') = absurd (n' (room_same l l' a.1))
  stopped_same (no_move t l (inl a) n) (no_entry t' l' h' r' n') = absurd (moves_on l' l h' a.0 a.1)
  stopped_same (no_move t l (inr a) n) (no_entry t' l' h' r' n') = absurd (omega (arith, a.2))
  stopped_same (no_move t l a n) (no_move t' l' a' n') = refl

  -- one refusal at most
  pub refused_same : {start : A} {s s' : Stop} → Refused w start s → Refused w start s' → s ≡ s'
  refused_same (empty a) (empty b) = refl
  refused_same (empty a) (met q g y) = absurd (omega (arith, g.0))
  refused_same (met p f x) (empty b) = absurd (omega (arith, f.0))
  refused_same {s = s} (met p f x) (met q g y) =
      stopped_same (subst (λ v. Stopped w v s) (both f.1 (stopped_stuck x) g.1 (stopped_stuck y)) x) y

  -- and none where the search ends
  pub whole_or_refused : {start : A} {es : List A} {ms : List Arrow₃} {s : Stop} → Whole w start es ms → Refused w start s → ⊥
  whole_or_refused f (empty b) = omega (arith, f.0)
  whole_or_refused {es = es} {ms} {s} f (met q g y) =
      ended_leads es ms (subst (λ v. Stopped w v s) (both g.1 (stopped_stuck y) f.1 (ended_stuck es ms)) y)
    where
      ended_leads : (es : List A) (ms : List Arrow₃) → {s : Stop} → Stopped w (place es ms (length es) 0) s → ⊥
      ended_leads es ms (no_room t l h n) = none_leads es ms l
      ended_leads es ms (no_entry t l h r n) = none_leads es ms l
      ended_leads es ms (no_move t l h n) = none_leads es ms l
