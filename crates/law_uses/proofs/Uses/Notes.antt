-- A note that brings a message has what the line before of the message had.
use Rattle.std.proofs.Common.{◌≡◌, ℕ, Bool, true, false, List, [], ◌∷◌, ◌++◌, Option, Some, None, refl, sym, ap, ◌∙◌, subst, ◌⊎◌, inl, inr}
use Rattle.std.specs.Prelude.{slice_get, unwrap_or, ◌↔◌}
use Rattle.ev_base.specs.declared.names.Name.{Name as ShownName}
use Rattle.ev_base.specs.declared.names.Msg.{Msg as ShownMsg}
use Rattle.def_event.specs.declared.shown.Shown.{Shown}
use Rattle.def_event.specs.declared.event.Event.TheVariants as event
use Rattle.def_machine.specs.Values.{Words, Value, Ref, Name}
use Rattle.def_machine.specs.State.{Message, Passeds, Delivery, Note, Deliver, Happened, Vat}
use Rattle.def_run.specs.World.{Event, Here, World}
use Rattle.def_run.specs.Shown as show
use Rattle.def_run.specs.Text.{shown_events}
use Rattle.law_uses.specs.Connectivity.Stems.{HasLine, HasList, HasOpened}
use Rattle.def_event.specs.Uses as uses
use Rattle.def_event.specs.Uses.{Thing, AName, Reaches, start, parts, all_parts, things_of, is_gift, had, carried_with, sent_with, StandsIn, arguments_in, CarriesThese, CarriesSent, delivered, line_before, first_of, last_of, or_else}
use Rattle.law_uses.proofs.Uses.Lines.{first_lines, first_join}
use Rattle.law_uses.proofs.Uses.Shown.{among_left as left, among_right as right, lines, ListTold, shown_join}
use Rattle.law_uses.proofs.Uses.Comes.{stands_same, value_parts}
use Rattle.law_uses.proofs.Uses.Carried.{Reached, Covered, alone, leads_covered, name_covered, names_came, all_pass}
use Rattle.law_uses.proofs.Uses.Sources.{turned, Source, sent, came, Reacting, Queued, NoteWell, Silent, LastHas, last_more}

some_is : {A : Type 0} (x y : A) → Some x ≡ Some y → x ≡ y
some_is x y e = cc

-- a vat has a list once
pub list_same : (w : World) (u k : ℕ) (vs ws : List (Value Name)) → HasList w u k vs → HasList w u k ws → vs ≡ ws
list_same w u k vs ws h i = let s = some_is h.0 i.0 (sym h.1 ∙ i.1) in some_is vs ws (sym h.2 ∙ subst (λ (z : Vat Name). slice_get z.lists k ≡ Some ws) (sym s) i.2)

no_more : {A : Type 0} (xs : List A) → xs ++ [] ≡ xs
no_more [] = refl
no_more (x ∷ xs) = ap (λ ys. x ∷ ys) (no_more xs)

or_none : {A : Type 0} (x : Option A) → or_else x None ≡ x
or_none (Some a) = refl
or_none None = refl

module _ (draws : List ℕ) where
  before_is : (es : List Event) (x : Name) (ts : List Thing) → LastHas draws es x ts → line_before (lines draws es) (show.shown_msg draws x) ≡ ts
  before_is es x ts e = ap (λ o. unwrap_or o []) (first_lines (had (show.shown_msg draws x)) [] (shown_events draws es) ∙ ap (λ (o : Option (List Thing)). or_else o None) e)

  -- ---- what is carried

  module _ (w : World) (u : ℕ) (told : (k : ℕ) (vs : List (Value Name)) → HasList w u k vs → ListTold draws w.history u k vs) where
    abbrev Cov : List Thing → Value Name → Type 0
    Cov ts x = Covered draws w.history u (λ t. uses.IsAmong t ts) (HasList w u) told (list_same w u) x

    value_starts : (ts : List Thing) (x : Value Name) → ((t : Thing) → uses.IsAmong t (parts (show.shown_value draws u x)) → uses.IsAmong t ts) → Cov ts x
    value_starts ts x f = alone (λ t i. start (f t (subst (λ us. uses.IsAmong t us) (sym (value_parts draws u x)) i)))

    values_start : (ts : List Thing) (xs : List (Value Name)) → ((t : Thing) → uses.IsAmong t (all_parts (show.shown_values draws u xs)) → uses.IsAmong t ts) → (x : Value Name) → uses.IsAmong x xs → Cov ts x
    unfolding show.shown_values
    values_start ts [] f x i = absurd i
    values_start ts (z ∷ xs) f x (inl e) = subst (Cov ts) e (value_starts ts z (λ t i. f t (left t (parts (show.shown_value draws u z)) (all_parts (show.shown_values draws u xs)) i)))
    values_start ts (z ∷ xs) f x (inr i) = values_start ts xs (λ t j. f t (right t (parts (show.shown_value draws u z)) (all_parts (show.shown_values draws u xs)) j)) x i

    target_in : (z : Name) (us : List Thing) (t : Thing) → uses.IsAmong t (things_of (show.shown_value draws u (Ref z))) → uses.IsAmong t (AName (show.shown_name draws z) ∷ us)
    unfolding show.shown_value things_of
    target_in z us t (inl e) = inl e
    target_in z us t (inr i) = absurd i

    shows : (e : Happened Name) → HasLine w u e → uses.IsAmong (Here u e) w.history
    shows e h = turned (Here u e) w.history h

    -- the last line that has the message has its target and its arguments, or what leads to them
    source_covers : (m : Message Name) → Source draws w u m → (ts : List Thing) × LastHas draws w.history m.id ts × Cov ts m.target × ((x : Value Name) → uses.IsAmong x m.args → Cov ts x)
    source_covers m (sent x ts l last sub none first) = (
      ts,
      last,
      leads_covered draws w.history u (λ t. uses.IsAmong t ts) (HasList w u) told (list_same w u) (HasLine w u) shows x m.target l
          (value_starts ts x (λ t i. sub t (left t (parts (show.shown_value draws u x)) (all_parts (show.shown_values draws u m.args)) i))),
      values_start ts m.args (λ t i. sub t (right t (parts (show.shown_value draws u x)) (all_parts (show.shown_values draws u m.args)) i)),
    )
    source_covers m (came z ys l c n last had_args) = let ts : List Thing = AName (show.shown_name draws z) ∷ all_parts (show.shown_all draws ys) in (
      ts,
      last,
      leads_covered draws w.history u (λ t. uses.IsAmong t ts) (HasList w u) told (list_same w u) (HasLine w u) shows (Ref z) m.target l (alone (λ t i. start (target_in z (all_parts (show.shown_all draws ys)) t i))),
      names_came draws w.history u (λ t. uses.IsAmong t ts) (HasList w u) told (list_same w u) ys m.args c n (λ nm i. start (inr i)),
    )

    note_may : (d : Delivery Name) (n : Name) (verb : Words) (ys : Passeds Name) → NoteWell draws w u (Deliver d n verb ys) → (nm : ShownName) → uses.IsAmong (AName nm) (AName (show.shown_name draws n) ∷ all_parts (show.shown_all draws ys))
        → (is_gift nm ≡ true) ⊎ Reaches (lines draws w.history) (λ t. uses.IsAmong t (line_before (lines draws w.history) (show.shown_msg draws d.message))) (λ way. Unit {0}) (AName nm)
    note_may d n verb ys h nm i = let c = source_covers h.0 h.1 in
        subst (λ us. (is_gift nm ≡ true) ⊎ Reaches (lines draws w.history) (λ t. uses.IsAmong t us) (λ way. Unit {0}) (AName nm))
        (sym (before_is w.history d.message c.0 (subst (λ z. LastHas draws w.history z c.0) h.2 c.1))) (may c.0 c.2 c.3 i)
      where
        may : (ts : List Thing) → Cov ts h.0.target → ((x : Value Name) → uses.IsAmong x h.0.args → Cov ts x) → uses.IsAmong (AName nm) (AName (show.shown_name draws n) ∷ all_parts (show.shown_all draws ys))
            → (is_gift nm ≡ true) ⊎ Reaches (lines draws w.history) (λ t. uses.IsAmong t ts) (λ way. Unit {0}) (AName nm)
        may ts c f (inl q) = inr (subst (Reached draws w.history u (λ t. uses.IsAmong t ts)) q (name_covered draws w.history u (λ t. uses.IsAmong t ts) (HasList w u) told (list_same w u) n
            (leads_covered draws w.history u (λ t. uses.IsAmong t ts) (HasList w u) told (list_same w u) (HasLine w u) shows h.0.target (Ref n) h.3 c)))
        may ts c f (inr j) = all_pass draws w.history u (λ t. uses.IsAmong t ts) (HasList w u) told (list_same w u) (HasLine w u) shows (HasOpened w u) (λ n. Unit {0}) h.0.args ys h.4 f nm j

    delivery_carries : (past : List _) (b : Bool) (i : ShownMsg) (n : ShownName) (verb : Words) (xs : List Shown) → ((nm : ShownName) → uses.IsAmong (AName nm) (AName n ∷ all_parts xs) → (is_gift nm ≡ true) ⊎ Reaches past (λ t. uses.IsAmong t (line_before past i)) (λ way. Unit {0}) (AName nm))
        → CarriesThese past (delivered (show.shown_delivery draws b i n verb xs))
    unfolding show.shown_delivery delivered
    delivery_carries past true i n verb xs f = f
    delivery_carries past false i n verb xs f = f

    -- the line that carries it
    pub carry_sent : (k v : ℕ) (n : Note Name) → NoteWell draws w u n → CarriesSent (lines draws w.history) (event.Carry k u v (show.shown_note draws v n))
    unfolding CarriesSent delivered show.shown_note
    carry_sent k v (Deliver d n verb ys) h = delivery_carries (lines draws w.history) d.asks (show.shown_msg draws d.message) (show.shown_name draws n) verb (show.shown_all draws ys) (note_may d n verb ys h)
    carry_sent k v other h = tt

  -- ---- what is taken

  pub arguments_more : (h k es : List Event) → k ≡ h ++ es → (x : Name) → Silent draws es x → arguments_in (shown_events draws k) (show.shown_msg draws x) ≡ arguments_in (shown_events draws h) (show.shown_msg draws x)
  arguments_more h k es more x q = let f = sent_with (show.shown_msg draws x) in let g = carried_with (show.shown_msg draws x) in
      let c = last_more draws h k es more g q.1 in
      let s : first_of f (shown_events draws k) ≡ first_of f (shown_events draws h) = ap (λ z. first_of f (shown_events draws z)) more ∙ ap (first_of f) (shown_join draws h es) ∙ first_join f (shown_events draws h) (shown_events draws es)
      ∙ ap (or_else (first_of f (shown_events draws h))) q.2 ∙ or_none (first_of f (shown_events draws h)) in
      ap (λ o. unwrap_or (or_else o (first_of f (shown_events draws k))) []) c ∙ ap (λ o. unwrap_or (or_else (last_of g (shown_events draws h)) o) []) s

  arguments_by : (es : List Event) (x : Name) (a b : Option (List Thing)) (ts : List Thing) → last_of (carried_with (show.shown_msg draws x)) (shown_events draws es) ≡ a → first_of (sent_with (show.shown_msg draws x)) (shown_events draws es) ≡ b
      → unwrap_or (or_else a b) [] ≡ ts → arguments_in (shown_events draws es) (show.shown_msg draws x) ≡ ts
  arguments_by es x a b ts e f g = ap (λ o. unwrap_or (or_else o (first_of (sent_with (show.shown_msg draws x)) (shown_events draws es))) []) e ∙ ap (λ o. unwrap_or (or_else a o) []) f ∙ g

  module _ (w : World) (v : ℕ) (h : List Event) (told : (k : ℕ) (vs : List (Value Name)) → HasList w v k vs → ListTold draws h v k vs)
      (same : (k : ℕ) (vs ws : List (Value Name)) → ListTold draws h v k vs → HasList w v k ws → vs ≡ ws) where
    -- what the message has behind these lines stands in what the world's lines say that it was sent or carried with
    abbrev pub TakenAs : Message Name → Type 0
    TakenAs m = (n : ShownName) → StandsIn (lines draws h) (all_parts (show.shown_values draws v m.args)) n ↔ StandsIn (lines draws h) (arguments_in (shown_events draws w.history) (show.shown_msg draws m.id)) n

    as_equal : (m : Message Name) → arguments_in (shown_events draws w.history) (show.shown_msg draws m.id) ≡ all_parts (show.shown_values draws v m.args) → TakenAs m
    as_equal m e n = subst (λ ts. StandsIn (lines draws h) (all_parts (show.shown_values draws v m.args)) n ↔ StandsIn (lines draws h) ts n) (sym e) (λ i. i, λ i. i)

    source_taken : (m : Message Name) → Source draws w v m → TakenAs m
    source_taken m (sent x ts l last sub none first) n = as_equal m (arguments_by w.history m.id None (Some (all_parts (show.shown_values draws v m.args))) _ none first refl) n
    source_taken m (came z ys l c k last had_args) n = subst (λ ts. StandsIn (lines draws h) (all_parts (show.shown_values draws v m.args)) n ↔ StandsIn (lines draws h) ts n)
        (sym (arguments_by w.history m.id (Some (all_parts (show.shown_all draws ys))) (first_of (sent_with (show.shown_msg draws m.id)) (shown_events draws w.history)) (all_parts (show.shown_all draws ys)) had_args refl refl))
        (stands_same draws h v (HasList w v) told same ys m.args c k n)

    one_part : (x : Value Name) (xs : List (Value Name)) → xs ≡ x ∷ [] → all_parts (show.shown_values draws v xs) ≡ parts (show.shown_value draws v x)
    unfolding show.shown_values
    one_part x xs e = ap (λ us. all_parts (show.shown_values draws v us)) e ∙ no_more (parts (show.shown_value draws v x))

    reacting_taken : (m : Message Name) → Reacting draws w v m → TakenAs m
    reacting_taken m r = as_equal m (arguments_by w.history m.id None (Some (parts (show.shown_value draws v r.0))) (all_parts (show.shown_values draws v m.args)) r.2 r.3 (sym (one_part r.0 m.args r.1)))

    pub queued_taken : (m : Message Name) → Queued draws w v m → TakenAs m
    queued_taken m (inl s) = source_taken m s
    queued_taken m (inr r) = reacting_taken m r
