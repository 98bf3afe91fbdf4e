-- What a settle or a view line of a vat leads to, at the place of that vat.
use Rattle.std.proofs.Common.{◌≡◌, ℕ, ◌+◌, List, [], ◌∷◌, ◌++◌, refl, sym, ap, ◌∙◌, subst, inl, inr}
use Rattle.def_event.specs.declared.event.Event.{Event as ShownEvent}
use Rattle.def_event.specs.declared.event.Event.TheVariants as event
use Rattle.def_machine.specs.Values.{Value, Name}
use Rattle.def_machine.specs.State.{Happened, Settles, Views}
use Rattle.def_run.specs.World.{Event, Here}
use Rattle.def_run.specs.Shown as show
use Rattle.def_run.specs.Text.{shown_events}
use Rattle.law_uses.specs.Connectivity.Known as known
use Rattle.def_event.specs.Uses.{Line, and_lines, place_of, place_after, IsAmong, Lead, leads, IsLead, Settled, Thing, AName}
use Rattle.law_uses.proofs.Uses.Lines.{lines_join, among_map, lead_stays}
use Rattle.law_uses.proofs.Uses.Shown.{lines, shown_join}
use Rattle.law_uses.specs.KnownUses.Told.{things_at}

-- where something stands among others
pub place_among : {A : Type 0} (x : A) (xs : List A) → known.IsAmong x xs → (h : List A) × (k : List A) × (xs ≡ h ++ x ∷ k)
place_among x [] i = absurd i
place_among x (y ∷ xs) (inl e) = ([], xs, ap (λ z. z ∷ xs) (sym e))
place_among x (y ∷ xs) (inr i) = let r = place_among x xs i in (y ∷ r.0, r.1, ap (λ zs. y ∷ zs) r.2)

module _ (draws : List ℕ) where
  pub lines_at : (h k : List Event) (e : Event) → lines draws (h ++ e ∷ k) ≡ and_lines (and_lines (lines draws h) (show.shown_event draws e)) (shown_events draws k)
  unfolding shown_events
  lines_at h k e = ap (and_lines []) (shown_join draws h (e ∷ k)) ∙ lines_join [] (shown_events draws h) (show.shown_event draws e ++ shown_events draws k)
      ∙ lines_join (and_lines [] (shown_events draws h)) (show.shown_event draws e) (shown_events draws k)

  abbrev At : ℕ → Name → Thing → Lead
  At v n t = record { way = Settled (v + 1); from = AName (show.shown_name draws n); to = t }

  -- the line of one event leads on from where it stands
  one_leads : (h k : List Event) (e : Event) (f : ShownEvent) (d : Lead) → show.shown_event draws e ≡ f ∷ [] → IsAmong d (leads (place_after (place_of (lines draws h)) f) f) → IsLead (lines draws (h ++ e ∷ k)) d
  unfolding IsLead
  one_leads h k e f d s i = let past : List Line = lines draws h in subst (λ ls. IsLead ls d) (sym (lines_at h k e)) (lead_stays (and_lines past (show.shown_event draws e)) (shown_events draws k) d
      (subst (λ fs. IsLead (and_lines past fs) d) (sym s) (inr i)))

  settle_leads : (h k : List Event) (v : ℕ) (n : Name) (y : Value Name) (t : Thing) → place_of (lines draws h) ≡ v + 1 → IsAmong t (things_at draws v y) → IsLead (lines draws (h ++ Here v (Settles n y) ∷ k)) (At v n t)
  unfolding show.shown_event show.shown_happened leads place_after
  settle_leads h k v n y t p i = one_leads h k (Here v (Settles n y)) (event.Settle (show.shown_name draws n) (show.shown_value draws v y)) (At v n t) refl
      (subst (λ at. IsAmong (At v n t) (leads at (event.Settle (show.shown_name draws n) (show.shown_value draws v y)))) (sym p) (among_map (λ to. At v n to) t (things_at draws v y) i))

  view_leads : (h k : List Event) (v : ℕ) (n q : Name) → place_of (lines draws h) ≡ v + 1 → IsLead (lines draws (h ++ Here v (Views n q) ∷ k)) (At v n (AName (show.shown_name draws q)))
  unfolding show.shown_event show.shown_happened leads place_after
  view_leads h k v n q p = let f : ShownEvent = event.View (show.shown_name draws n) (show.shown_name draws q) in let d : Lead = At v n (AName (show.shown_name draws q)) in
      one_leads h k (Here v (Views n q)) f d refl (subst (λ at. IsAmong d (leads at f)) (sym p) (inl refl))

  module _ (es : List Event) (v : ℕ) (placed : (h k : List Event) (e : Happened Name) → es ≡ h ++ Here v e ∷ k → place_of (lines draws h) ≡ v + 1) where
    -- a line of the vat that says that a name settled leads to that at its vat
    pub settled_at : (n : Name) (y : Value Name) (t : Thing) → known.IsAmong (Here v (Settles n y)) es → IsAmong t (things_at draws v y) → IsLead (lines draws es) (At v n t)
    settled_at n y t m i = let r = place_among (Here v (Settles n y)) es m in subst (λ xs. IsLead (lines draws xs) (At v n t)) (sym r.2) (settle_leads r.0 r.1 v n y t (placed r.0 r.1 (Settles n y) r.2) i)

    pub viewed_at : (n q : Name) → known.IsAmong (Here v (Views n q)) es → IsLead (lines draws es) (At v n (AName (show.shown_name draws q)))
    viewed_at n q m = let r = place_among (Here v (Views n q)) es m in subst (λ xs. IsLead (lines draws xs) (At v n (AName (show.shown_name draws q)))) (sym r.2) (view_leads r.0 r.1 v n q (placed r.0 r.1 (Views n q) r.2))
