-- From what a run's history has to the lines that show it.
use Rattle.std.proofs.Common.{◌≡◌, ℕ, List, [], ◌∷◌, ◌++◌, Option, Some, None, refl, sym, ap, ◌∙◌, subst, ◌⊎◌, inl, inr}
use Rattle.def_event.specs.declared.event.Event.{Event as ShownEvent}
use Rattle.def_event.specs.declared.event.Event.TheVariants as event
use Rattle.def_machine.specs.Values.{Value, Name}
use Rattle.def_machine.specs.State.{Message, Happened, ListMade, ListCame, Sends, Reacts, Settles, Views, Posted}
use Rattle.def_run.specs.World.{Event, Here, Carried}
use Rattle.def_run.specs.Shown as show
use Rattle.def_run.specs.Text.{shown_events}
use Rattle.def_event.specs.Uses.{Line, and_lines, IsAmong, Lead, Way, Listed, Settled, Thing, AName, AList, leads, led, IsLead, things_of, things}
use Rattle.law_uses.proofs.Uses.Lines.{among_map, map_among, lead_told, lead_from, no_lead}

append_joined : {A : Type 0} (xs ys zs : List A) → (xs ++ ys) ++ zs ≡ xs ++ (ys ++ zs)
append_joined [] ys zs = refl
append_joined (x ∷ xs) ys zs = ap (λ r. x ∷ r) (append_joined xs ys zs)

pub among_left : {A : Type 0} (x : A) (xs ys : List A) → IsAmong x xs → IsAmong x (xs ++ ys)
among_left x [] ys i = absurd i
among_left x (y ∷ xs) ys (inl e) = inl e
among_left x (y ∷ xs) ys (inr i) = inr (among_left x xs ys i)

pub among_right : {A : Type 0} (x : A) (xs ys : List A) → IsAmong x ys → IsAmong x (xs ++ ys)
among_right x [] ys i = i
among_right x (y ∷ xs) ys i = inr (among_right x xs ys i)

pub among_either : {A : Type 0} (x : A) (xs ys : List A) → IsAmong x (xs ++ ys) → IsAmong x xs ⊎ IsAmong x ys
among_either x [] ys i = inr i
among_either x (z ∷ xs) ys (inl e) = inl (inl e)
among_either x (z ∷ xs) ys (inr i) = later (among_either x xs ys i)
  where
    later : IsAmong x xs ⊎ IsAmong x ys → IsAmong x (z ∷ xs) ⊎ IsAmong x ys
    later (inl j) = inl (inr j)
    later (inr j) = inr j

module _ (draws : List ℕ) where
  -- the lines that show a history
  abbrev pub lines : List Event → List Line
  lines es = and_lines [] (shown_events draws es)

  pub shown_join : (es fs : List Event) → shown_events draws (es ++ fs) ≡ shown_events draws es ++ shown_events draws fs
  unfolding shown_events
  shown_join [] fs = refl
  shown_join (e ∷ es) fs = ap (λ r. show.shown_event draws e ++ r) (shown_join es fs) ∙ sym (append_joined (show.shown_event draws e) (shown_events draws es) (shown_events draws fs))

  pub shown_among : (f : ShownEvent) (e : Event) (es : List Event) → IsAmong f (show.shown_event draws e) → IsAmong e es → IsAmong f (shown_events draws es)
  unfolding shown_events
  shown_among f e [] i j = absurd j
  shown_among f e (x ∷ es) i (inl q) = among_left f (show.shown_event draws x) (shown_events draws es) (subst (λ y. IsAmong f (show.shown_event draws y)) (sym q) i)
  shown_among f e (x ∷ es) i (inr j) = among_right f (show.shown_event draws x) (shown_events draws es) (shown_among f e es i j)

  pub among_shown : (f : ShownEvent) (es : List Event) → IsAmong f (shown_events draws es) → (e : Event) × IsAmong e es × IsAmong f (show.shown_event draws e)
  unfolding shown_events
  among_shown f [] i = absurd i
  among_shown f (x ∷ es) i = either (among_either f (show.shown_event draws x) (shown_events draws es) i) (among_shown f es)
    where
      either : IsAmong f (show.shown_event draws x) ⊎ IsAmong f (shown_events draws es) → (IsAmong f (shown_events draws es) → (e : Event) × IsAmong e es × IsAmong f (show.shown_event draws e)) → (e : Event) × IsAmong e (x ∷ es) × IsAmong f (show.shown_event draws e)
      either (inl j) g = (x, inl refl, j)
      either (inr j) g = let r = g j in (r.0, inr r.1, r.2)

  -- ---- what settling, viewing and lists lead to

  abbrev lead_to : Way → Thing → Thing → Lead
  lead_to way from to = record { way = way; from = from; to = to }

  -- at some place
  abbrev pub LeadsOn : List Event → (ℕ → Way) → Thing → Thing → Type 0
  LeadsOn es way from to = (at : ℕ) × IsLead (lines es) (lead_to (way at) from to)

  pub settles_lead : (es : List Event) (v : ℕ) (n : Name) (y : Value Name) (t : Thing) → IsAmong (Here v (Settles n y)) es → IsAmong t (things_of (show.shown_value draws v y)) → LeadsOn es Settled (AName (show.shown_name draws n)) t
  unfolding leads show.shown_event show.shown_happened
  settles_lead es v n y t i j = lead_told [] (shown_events draws es) (event.Settle (show.shown_name draws n) (show.shown_value draws v y)) (λ at. lead_to (Settled at) (AName (show.shown_name draws n)) t)
      (λ at. among_map (λ to. lead_to (Settled at) (AName (show.shown_name draws n)) to) t (things_of (show.shown_value draws v y)) j) (shown_among _ (Here v (Settles n y)) es (inl refl) i)

  pub views_lead : (es : List Event) (v : ℕ) (n q : Name) → IsAmong (Here v (Views n q)) es → LeadsOn es Settled (AName (show.shown_name draws n)) (AName (show.shown_name draws q))
  unfolding leads show.shown_event show.shown_happened
  views_lead es v n q i = lead_told [] (shown_events draws es) (event.View (show.shown_name draws n) (show.shown_name draws q)) (λ at. lead_to (Settled at) (AName (show.shown_name draws n)) (AName (show.shown_name draws q)))
      (λ at. inl refl) (shown_among _ (Here v (Views n q)) es (inl refl) i)

  -- a line of a list with these members, made or come
  abbrev pub ListTold : List Event → ℕ → ℕ → List (Value Name) → Type 0
  ListTold es v k vs = ((a : ℕ) × IsAmong (Here v (ListMade a k vs)) es) ⊎ IsAmong (Here v (ListCame k vs)) es

  pub list_leads : (es : List Event) (v k : ℕ) (vs : List (Value Name)) (t : Thing) → ListTold es v k vs → IsAmong t (things (show.shown_values draws v vs)) → IsLead (lines es) (lead_to Listed (AList v k) t)
  unfolding leads show.shown_event show.shown_happened show.shown_slot
  list_leads es v k vs t (inl h) j = (lead_told [] (shown_events draws es) (event.List h.0 (v, k) (show.shown_values draws v vs)) (λ at. lead_to Listed (AList v k) t)
      (λ at. among_map (λ to. lead_to Listed (AList v k) to) t (things (show.shown_values draws v vs)) j) (shown_among _ (Here v (ListMade h.0 k vs)) es (inl refl) h.1)).1
  list_leads es v k vs t (inr h) j = (lead_told [] (shown_events draws es) (event.Arrived (v, k) (show.shown_values draws v vs)) (λ at. lead_to Listed (AList v k) t)
      (λ at. among_map (λ to. lead_to Listed (AList v k) to) t (things (show.shown_values draws v vs)) j) (shown_among _ (Here v (ListCame k vs)) es (inl refl) h)).1

  -- ---- what leads on from a list

  -- the event tells of the list from which the lead goes on, and to which member
  abbrev OfList : Event → Lead → Type 0
  OfList e d = (v : ℕ) × (k : ℕ) × (vs : List (Value Name)) × (((a : ℕ) × (Here v (ListMade a k vs) ≡ e)) ⊎ (Here v (ListCame k vs) ≡ e)) × (d.from ≡ AList v k) × IsAmong d.to (things (show.shown_values draws v vs))

  -- so is each lead by a list that one of these has
  abbrev ListedBy : (Lead → Type 0) → ℕ → List ShownEvent → Type 0
  ListedBy R at [] = Unit {0}
  ListedBy R at (f ∷ fs) = ((d : Lead) → d.way ≡ Listed → IsAmong d (leads at f) → R d) × ListedBy R at fs

  listed_at : (R : Lead → Type 0) (at : ℕ) (fs : List ShownEvent) (f : ShownEvent) → ListedBy R at fs → IsAmong f fs → (d : Lead) → d.way ≡ Listed → IsAmong d (leads at f) → R d
  listed_at R at [] f h i = absurd i
  listed_at R at (g ∷ fs) f h (inl e) = subst (λ g. (d : Lead) → d.way ≡ Listed → IsAmong d (leads at g) → R d) e h.0
  listed_at R at (g ∷ fs) f h (inr i) = listed_at R at fs f h.1 i

  not_settled : (at : ℕ) (from to : Thing) (d : Lead) → lead_to (Settled at) from to ≡ d → d.way ≡ Listed → ⊥
  not_settled at from to d e w = cc

  settled_none : (R : Lead → Type 0) (at : ℕ) (from : Thing) (ts : List Thing) (d : Lead) → d.way ≡ Listed → IsAmong d (led (Settled at) from ts) → R d
  settled_none R at from ts d w i = let r = map_among (λ to. lead_to (Settled at) from to) d ts i in absurd (not_settled at from r.0 d r.2 w)

  members_of : (e : Event) (v k : ℕ) (vs : List (Value Name)) → ((a : ℕ) × (Here v (ListMade a k vs) ≡ e)) ⊎ (Here v (ListCame k vs) ≡ e) → (d : Lead) → IsAmong d (led Listed (AList v k) (things (show.shown_values draws v vs))) → OfList e d
  members_of e v k vs o d i = let r = map_among (λ to. lead_to Listed (AList v k) to) d (things (show.shown_values draws v vs)) i in
      (v, k, vs, o, ap (λ (x : Lead). x.from) (sym r.2), subst (λ (x : Lead). IsAmong x.to (things (show.shown_values draws v vs))) r.2 r.1)

  send_listed : (R : Lead → Type 0) (at v a : ℕ) (m : Message Name) (o : Option Name) → ListedBy R at (show.shown_send draws v a m o ∷ [])
  unfolding leads show.shown_send
  send_listed R at v a m (Some n) = (λ d w i. absurd i, tt)
  send_listed R at v a m None = (λ d w i. absurd i, tt)

  reaction_listed : (R : Lead → Type 0) (at v a : ℕ) (x o : Value Name) (m : Message Name) (n : Option Name) → ListedBy R at (show.shown_reaction draws v a x o m n)
  unfolding leads show.shown_reaction
  reaction_listed R at v a x o m (Some n) = (λ d w i. absurd i, tt)
  reaction_listed R at v a x o m None = tt

  happened_listed : (v at : ℕ) (e : Happened Name) → ListedBy (OfList (Here v e)) at (show.shown_happened draws v e)
  unfolding leads show.shown_happened show.shown_slot
  happened_listed v at (ListMade a k vs) = (λ d w i. members_of (Here v (ListMade a k vs)) v k vs (inl (a, refl)) d i, tt)
  happened_listed v at (ListCame k vs) = (λ d w i. members_of (Here v (ListCame k vs)) v k vs (inr refl) d i, tt)
  happened_listed v at (Settles n y) = (λ d w i. settled_none (OfList (Here v (Settles n y))) at (AName (show.shown_name draws n)) (things_of (show.shown_value draws v y)) d w i, tt)
  happened_listed v at (Views n q) = (λ d w i. settled_none (OfList (Here v (Views n q))) at (AName (show.shown_name draws n)) (AName (show.shown_name draws q) ∷ []) d w i, tt)
  happened_listed v at (Sends a m) = send_listed (OfList (Here v (Sends a m))) at v a m m.answer
  happened_listed v at (Reacts a x o m) = reaction_listed (OfList (Here v (Reacts a x o m))) at v a x o m m.answer
  happened_listed v at (Posted w m) = tt
  happened_listed v at _ = (λ d w i. absurd i, tt)

  event_listed : (at : ℕ) (e : Event) → ListedBy (OfList e) at (show.shown_event draws e)
  unfolding leads show.shown_event
  event_listed at (Here v e) = happened_listed v at e
  event_listed at (Carried k v w n bytes) = (λ d w i. absurd i, (λ d w i. absurd i, tt))
  event_listed at _ = (λ d w i. absurd i, tt)

  -- a lead by a list goes from the list of a line to a member that the line tells of
  pub leads_listed : (es : List Event) (d : Lead) → d.way ≡ Listed → IsLead (lines es) d → (v : ℕ) × (k : ℕ) × (vs : List (Value Name)) × ListTold es v k vs × (d.from ≡ AList v k) × IsAmong d.to (things (show.shown_values draws v vs))
  leads_listed es d w h = either (lead_from [] (shown_events draws es) d h)
    where
      of_event : (e : Event) → IsAmong e es → OfList e d → (v : ℕ) × (k : ℕ) × (vs : List (Value Name)) × ListTold es v k vs × (d.from ≡ AList v k) × IsAmong d.to (things (show.shown_values draws v vs))
      of_event e i r = (r.0, r.1, r.2, told e i r.0 r.1 r.2 r.3, r.4, r.5)
        where
          told : (e : Event) → IsAmong e es → (v k : ℕ) (vs : List (Value Name)) → ((a : ℕ) × (Here v (ListMade a k vs) ≡ e)) ⊎ (Here v (ListCame k vs) ≡ e) → ListTold es v k vs
          told e i v k vs (inl q) = inl (q.0, subst (λ x. IsAmong x es) (sym q.1) i)
          told e i v k vs (inr q) = inr (subst (λ x. IsAmong x es) (sym q) i)

      either : IsLead [] d ⊎ ((at : ℕ) × (f : ShownEvent) × IsAmong f (shown_events draws es) × IsAmong d (leads at f)) → (v : ℕ) × (k : ℕ) × (vs : List (Value Name)) × ListTold es v k vs × (d.from ≡ AList v k) × IsAmong d.to (things (show.shown_values draws v vs))
      either (inl i) = absurd (no_lead d i)
      either (inr r) = let e = among_shown r.1 es r.2 in of_event e.0 e.1 (listed_at (OfList e.0) r.0 (show.shown_event draws e.0) r.1 (event_listed r.0 e.0) e.2 d w r.3)
