-- What was there when a line of a step was told, and what the lines before it tell of that.
use Rattle.std.proofs.Common.{◌≡◌, ℕ, zero, true, List, [], ◌∷◌, ◌++◌, Some, refl, sym, ap, ◌∙◌, subst, map, ◌⊎◌, inl, inr, append_assoc}
use Rattle.std.specs.Prelude.{slice_get}
use Rattle.def_machine.specs.Values.{Value, Ref, Name, Root, Object, naming}
use Rattle.def_machine.specs.State.{Bound, Fixed, Slot, Binding, Made, Known, Happened, ListMade, ListCame, ObjectMade, Settles, Views, Posted, Vat}
use Rattle.def_machine.specs.Scopes.{any_guard}
use Rattle.law_machine.specs.Machine.Steps.{Step, Opens as Starts}
use Rattle.def_run.specs.World as world
use Rattle.def_run.specs.World.{Script, Event, Opens, Here, World, Run, Goes, Stopped, names, readied, events_of, event_of}
use Rattle.def_run.specs.Shown as show
use Rattle.def_run.specs.Text.{shown_events, history_of}
use Rattle.law_fate.specs.Fates.FateRuns.{Reached}
use Rattle.law_uses.specs.Connectivity.Known as known
use Rattle.law_uses.specs.Connectivity.Known.{Item, AValue, IsAmong, AllOf, Holdings, Runs, called, took, parts_of, parts_of_all, by, tells}
use Rattle.law_uses.specs.Connectivity.Connected.{given_to, held_from}
use Rattle.law_uses.specs.Connectivity.InTime.{held_then, Moment}
use Rattle.law_uses.specs.Connectivity.News.{list_made}
use Rattle.law_uses.specs.Connectivity.Told.{HeldTold}
use Rattle.law_uses.specs.Connectivity.Begotten.{AreRoots, IsTaken}
use Rattle.law_uses.specs.Connectivity.MessageLaws.{AllStem, IsToldStanding}
use Rattle.law_uses.specs.Connectivity.Stems.{HasLine}
use Rattle.law_uses.proofs.Connectivity.Passing.{kept_all, all_map}
use Rattle.law_uses.proofs.Connectivity.Moments.{stand_map}
use Rattle.law_uses.proofs.Connectivity.Events.{here_event}
use Rattle.law_uses.proofs.Connectivity.FineSteps.{among_left, among_right}
use Rattle.law_uses.proofs.Connectivity.RunsTell.{opened_tell, run_tell}
use Rattle.law_uses.proofs.Connectivity.RunStems.{messages_stem}
use Rattle.def_event.specs.Uses as text
use Rattle.def_event.specs.Uses.{and_lines, Thing, Opened, Given, Captured, IsTold, is_root, things_of, things}
use Rattle.law_uses.specs.Uses.Messages.{ListsAreTold, SaysList}
use Rattle.law_uses.proofs.Uses.Lines.{lines_join}
use Rattle.law_uses.proofs.Uses.Shown.{lines, ListTold, shown_join, among_left as left, among_right as right}
use Rattle.law_uses.proofs.Uses.Sources.{turned}
use Rattle.law_uses.proofs.Uses.Steps.{adds_told, made_line}
use Rattle.law_uses.proofs.Uses.Texts.{lines_stand, lists_are_told}
use Rattle.law_uses.specs.Running.Facts.{activation}
use Rattle.law_uses.proofs.Running.Facts.{told_stays, lines_tell, openings_told}
use Rattle.law_uses.specs.KnownUses.Told.{IsPassed, IsShownApart, lines_so, first_of, things_at}
use Rattle.law_uses.proofs.KnownUses.Lines.{place_among}
use Rattle.law_uses.proofs.KnownUses.Walk.{FirstIs}
use Rattle.law_uses.proofs.KnownUses.Stood.{in_run, is_run, Stood}
use Rattle.law_uses.proofs.KnownUses.Known.{FactsTold}
use Rattle.law_uses.proofs.KnownUses.Captured.{captures_told}
use Rattle.law_uses.proofs.KnownUses.Ran.{runs_told}

-- ---- what holds of the worlds of runs

goes_at : (P : World → Type 0) (o : Run) (x : World) → o ≡ Goes x → Reached P o → P x
goes_at P (Goes y) x e h = let same : y ≡ x = cc in subst P same h
goes_at P (Stopped c n y) x e h = cc

pub stem_at : (script : Script) (w : World) → IsPassed script w → AllStem w
stem_at script w (inl r) = goes_at AllStem (world.open_from script zero r.0 (world.begins script)) w r.3 ((messages_stem script).0 r.0)
stem_at script w (inr r) = goes_at AllStem (world.steps_from script r.1 r.3 r.0) w r.6 ((messages_stem script).1 r.0 r.1 r.3 r.5)

held_at : (script : Script) (w : World) → IsPassed script w → HeldTold w
held_at script w r = in_run (λ s x. HeldTold x) (λ s. (λ ps rest x e i. opened_tell s ps x i, λ y x es k e i. run_tell s y x es k e i)) script w r

-- ---- what is told stays so

-- what is told once a line is told, is told by it and those behind it
pub told_then : (draws : List ℕ) (es g m : List Event) (x : Event) (f : text.Fact) → es ≡ g ++ x ∷ m → IsTold (lines draws (g ++ x ∷ [])) f → IsTold (lines draws es) f
told_then draws es g m x f q t = subst (λ ls. IsTold ls f) (sym (ap (lines draws) (q ∙ sym (append_assoc g (x ∷ []) m)) ∙ lines_more)) (told_stays (lines draws (g ++ x ∷ [])) (shown_events draws m) f t)
  where
    lines_more : lines draws ((g ++ x ∷ []) ++ m) ≡ and_lines (lines draws (g ++ x ∷ [])) (shown_events draws m)
    lines_more = ap (and_lines []) (shown_join draws (g ++ x ∷ []) m) ∙ lines_join [] (shown_events draws (g ++ x ∷ [])) (shown_events draws m)

-- ---- the names of captures

captured_things : (draws : List ℕ) (v : ℕ) (bs : List (Bound Name)) (x : Value Name) (t : Thing) → IsAmong (AValue x) (parts_of_all bs) → text.IsAmong t (things_at draws v x) → text.IsAmong t (things (map (show.shown_capture draws v) bs))
unfolding parts_of_all parts_of show.shown_capture
captured_things draws v [] x t i j = absurd i
captured_things draws v (Fixed y g ∷ bs) x t (inl e) j = let same : x ≡ y = cc in left t (things_at draws v y) (things (map (show.shown_capture draws v) bs)) (subst (λ z. text.IsAmong t (things_at draws v z)) same j)
captured_things draws v (Fixed y g ∷ bs) x t (inr (inl e)) j = cc
captured_things draws v (Fixed y g ∷ bs) x t (inr (inr i)) j = right t (things_at draws v y) (things (map (show.shown_capture draws v) bs)) (captured_things draws v bs x t i j)
captured_things draws v (Slot k ∷ bs) x t (inl e) j = cc
captured_things draws v (Slot k ∷ bs) x t (inr i) j = right t (things_of (show.shown_capture draws v (Slot k))) (things (map (show.shown_capture draws v) bs)) (captured_things draws v bs x t i j)

-- ---- what a line makes known

event_is : (ls : List world.Link) (v a : ℕ) (i : Item Name) (e : Happened Name) → IsAmong (a, i) (tells e) → event_of ls v e ≡ Here v e ∷ []
unfolding event_of tells
event_is ls v a i (Posted w m) j = absurd j
event_is ls v a i _ j = refl

-- a code runs whatever else is there
runs_by : (script : Script) (v : ℕ) (h g : Holdings Name Name) (so : List (Happened Name)) (b i : ℕ) → h.before ≡ g.before → Runs (names script v) h so b i → Runs (names script v) g so b i
runs_by script v h g so b i e (called a x verb args m t) = called a x verb args m (subst (λ ks. known.IsThing (names script v) ks so x i) e t)
runs_by script v h g so b i e (took m j t) = took m j (subst (λ ks. known.IsThing (names script v) ks so m.target i) e t)

module _ (script : Script) (v : ℕ) (e : Happened Name) (h : List Event) (s : Stood script v e h) where
  abbrev pub first : Holdings Name Name
  first = first_of s.line

  -- what there was at a moment
  abbrev pub held : Vat Name → Holdings Name Name
  held r = held_then (names script v) first r

  -- ---- the lines before it

  abbrev pub Before : Happened Name → Type 0
  Before f = IsAmong (Here v f) (lines_so s.line)

  from_before : (f : Happened Name) → HasLine s.line.from v f → Before f
  from_before f m = among_left (Here v f) (s.line.from.history ++ s.line.head) (events_of s.line.links v s.line.so) (among_left (Here v f) s.line.from.history s.line.head m)

  in_step : (f : Happened Name) → event_of s.line.links v f ≡ Here v f ∷ [] → IsAmong f s.line.so → Before f
  in_step f q m = among_right (Here v f) (s.line.from.history ++ s.line.head) (events_of s.line.links v s.line.so) (here_event s.line.links v s.line.so f q m)

  known_before : s.line.before.known ≡ s.line.vat.known
  unfolding readied
  known_before = ap (λ (z : Vat Name). z.known) s.line.ready

  lists_before : s.line.before.lists ≡ s.line.vat.lists
  unfolding readied
  lists_before = ap (λ (z : Vat Name). z.lists) s.line.ready

  things_before : s.line.before.things ≡ s.line.vat.things
  unfolding readied
  things_before = ap (λ (z : Vat Name). z.things) s.line.ready

  acts_before : s.line.before.activations ≡ s.line.vat.activations
  unfolding readied
  acts_before = ap (λ (z : Vat Name). z.activations) s.line.ready

  stood_before : AllOf (λ (k : Known Name). IsToldStanding Before k.name k.standing) s.line.before.known
  stood_before = let stands = (stem_at script s.line.from (is_run script s.line.from s.begun)).standings v s.line.vat s.line.here in subst (AllOf (λ (k : Known Name). IsToldStanding Before k.name k.standing)) (sym known_before)
      (all_map (λ (k : Known Name). IsToldStanding (HasLine s.line.from v) k.name k.standing) (λ (k : Known Name). IsToldStanding Before k.name k.standing) (λ k t. stand_map (HasLine s.line.from v) Before (kept_all (HasLine s.line.from v) Before from_before) k.name k.standing t) s.line.vat.known stands)

  settling : (n : Name) (y : Value Name) → IsAmong (Settles n y) s.line.so → Before (Settles n y)
  unfolding event_of
  settling n y m = in_step (Settles n y) refl m

  viewing : (n q : Name) → IsAmong (Views n q) s.line.so → Before (Views n q)
  unfolding event_of
  viewing n q m = in_step (Views n q) refl m

  module _ (draws : List ℕ) (apart : IsShownApart script draws) (k : List Event) (is : history_of (world.run script) ≡ h ++ Here v e ∷ k) where
    abbrev So : List Event
    So = lines_so s.line

    whole : history_of (world.run script) ≡ So ++ Here v e ∷ k
    whole = is ∙ ap (λ z. z ++ Here v e ∷ k) s.place

    -- a line before it is one of the run
    earlier : (g m : List Event) (x : Event) → So ≡ g ++ x ∷ m → history_of (world.run script) ≡ g ++ x ∷ (m ++ Here v e ∷ k)
    earlier g m x q = whole ∙ ap (λ z. z ++ Here v e ∷ k) q ∙ append_assoc g (x ∷ m) (Here v e ∷ k)

    given_told : (a : ℕ) (x : Value Name) (f : Happened Name) → IsAmong f s.line.so → IsAmong (a, AValue x) (tells f) → (t : Thing) → text.IsAmong t (things_at draws v x) → IsTold (lines draws So) (Given (activation v a) t)
    given_told a x f m j t i = let p = place_among (Here v f) So (in_step f (event_is s.line.links v a (AValue x) f j) m) in
        told_then draws So p.0 p.1 (Here v f) (Given (activation v a) t) p.2 (lines_tell script draws p.0 (p.1 ++ Here v e ∷ k) v f (earlier p.0 p.1 (Here v f) p.2) a x j t i)

    -- ---- lists

    list_says : (n : ℕ) (vs : List (Value Name)) → SaysList s.line.from v n vs → ListTold draws So v n vs
    list_says n vs (inl i) = inl (i.0, turned (Here v (ListMade i.0 n vs)) So (from_before (ListMade i.0 n vs) i.1))
    list_says n vs (inr i) = inr (turned (Here v (ListCame n vs)) So (from_before (ListCame n vs) i))

    list_line : (n : ℕ) (vs : List (Value Name)) (f : Happened Name) → IsAmong f s.line.so → ((a : ℕ) × (ListMade a n vs ≡ f)) ⊎ (ListCame n vs ≡ f) → ListTold draws So v n vs
    unfolding event_of
    list_line n vs f m (inl i) = inl (i.0, turned (Here v (ListMade i.0 n vs)) So (in_step (ListMade i.0 n vs) refl (subst (λ z. IsAmong z s.line.so) (sym i.1) m)))
    list_line n vs f m (inr i) = inr (turned (Here v (ListCame n vs)) So (in_step (ListCame n vs) refl (subst (λ z. IsAmong z s.line.so) (sym i) m)))

    -- ---- the moment

    module _ (r : Vat Name) (moment : Moment (names script v) first s.line.so r) where
      listed : (n : ℕ) (vs : List (Value Name)) → slice_get r.lists n ≡ Some vs → ListTold draws So v n vs
      unfolding held_from
      listed n vs f = either (adds_told list_made s.line.so s.line.before.lists r.lists moment.lists n vs f)
        where
          either : (slice_get s.line.before.lists n ≡ Some vs) ⊎ ((f : Happened Name) × IsAmong f s.line.so × (list_made f ≡ Some (n, vs))) → ListTold draws So v n vs
          either (inl i) = list_says n vs ((in_run ListsAreTold lists_are_told script s.line.from (is_run script s.line.from s.begun) v s.line.vat s.line.here).0 n vs (subst (λ ls. slice_get ls n ≡ Some vs) lists_before i))
          either (inr i) = list_line n vs i.0 i.1 (made_line i.0 n vs i.2)

      object_line : (i node : ℕ) (caught : List (Binding Name)) (stamps : List (Value Name)) → slice_get r.things i ≡ Some (Made node caught stamps) → (a : ℕ) × (x : List ℕ) × Before (ObjectMade a (Object v i) x (map (λ b. b.bound) caught) stamps)
      unfolding held_from names naming event_of
      object_line i node caught stamps f = either (moment.objects i node caught stamps f)
        where
          either : (slice_get s.line.before.things i ≡ Some (Made node caught stamps)) ⊎ ((a : ℕ) × (x : List ℕ) × IsAmong (ObjectMade a (Object v i) x (map (λ b. b.bound) caught) stamps) s.line.so)
              → (a : ℕ) × (x : List ℕ) × Before (ObjectMade a (Object v i) x (map (λ b. b.bound) caught) stamps)
          either (inl q) = let m = (held_at script s.line.from (is_run script s.line.from s.begun) v s.line.vat s.line.here).0 i node caught stamps (subst (λ ts. slice_get ts i ≡ Some (Made node caught stamps)) things_before q) in (m.0, m.1, from_before _ m.2)
          either (inr q) = (q.0, q.1, in_step _ refl q.2)

      endowed : (i node : ℕ) (caught : List (Binding Name)) (stamps : List (Value Name)) → slice_get r.things i ≡ Some (Made node caught stamps) → (x : Value Name) → IsAmong (AValue x) (parts_of_all (map (λ b. b.bound) caught))
          → (t : Thing) → text.IsAmong t (things_at draws v x) → IsTold (lines draws So) (Captured (show.shown_name draws (Object v i)) t)
      endowed i node caught stamps f x m t j = let l = object_line i node caught stamps f in let line : Event = Here v (ObjectMade l.0 (Object v i) l.1 (map (λ b. b.bound) caught) stamps) in let p = place_among line So l.2 in
          told_then draws So p.0 p.1 line (Captured (show.shown_name draws (Object v i)) t) p.2
          (captures_told script draws p.0 (p.1 ++ Here v e ∷ k) v l.0 i l.1 (map (λ b. b.bound) caught) stamps (earlier p.0 p.1 line p.2) t (captured_things draws v (map (λ b. b.bound) caught) x t m j))

      ran : (b i : ℕ) → Runs (names script v) (held r) s.line.so b i → text.Runs (lines draws So) (activation v b) (show.shown_name draws (Object v i))
      unfolding held_from
      ran b i q = runs_told script v e h s draws apart k whole b i (runs_by script v (held r) (held_from s.line.step s.line.before s.line.after) s.line.so b i refl q)

      -- ---- an opening turn

      root_part : (ws : List ℕ) (bs : List (Binding Name)) → AreRoots script.vats ws bs → (x : Value Name) → IsAmong (AValue x) (parts_of_all (map (λ b. b.bound) bs)) → (u : ℕ) × (x ≡ Ref (Root u))
      unfolding parts_of_all parts_of
      root_part [] [] g x i = absurd i
      root_part (u ∷ ws) (b ∷ bs) g x i = one (subst (λ (c : Binding Name). IsAmong (AValue x) (parts_of c.bound ++ parts_of_all (map (λ b. b.bound) bs))) g.0 i) (root_part ws bs g.1 x)
        where
          one : IsAmong (AValue x) (parts_of (Fixed (Ref (Root u)) any_guard) ++ parts_of_all (map (λ b. b.bound) bs)) → (IsAmong (AValue x) (parts_of_all (map (λ b. b.bound) bs)) → (u : ℕ) × (x ≡ Ref (Root u))) → (u : ℕ) × (x ≡ Ref (Root u))
          one (inl q) f = (u, cc)
          one (inr (inl q)) f = cc
          one (inr (inr j)) f = f j
      root_part [] (b ∷ bs) g x i = absurd g
      root_part (u ∷ ws) [] g x i = absurd g

      by_either : (n a : ℕ) (is : List (Item Name)) (i : Item Name) → IsAmong (a, i) (by n is) → (a ≡ n) × IsAmong i is
      unfolding by
      by_either n a [] i m = absurd m
      by_either n a (j ∷ is) i (inl q) = (ap (λ (p : ℕ × Item Name). p.0) q, inl (ap (λ (p : ℕ × Item Name). p.1) q))
      by_either n a (j ∷ is) i (inr m) = let q = by_either n a is i m in (q.0, inr q.1)

      root_thing : (u : ℕ) (t : Thing) → text.IsAmong t (things_at draws v (Ref (Root u))) → is_root t ≡ true
      unfolding show.shown_value show.shown_name things_of is_root
      root_thing u t (inl q) = subst (λ z. is_root z ≡ true) q refl
      root_thing u t (inr i) = absurd i

      opened_by : (step : Step Name Name) → s.line.step ≡ step → (a : ℕ) (x : Value Name) → IsAmong (a, AValue x) (given_to s.line.before step) → (t : Thing) → text.IsAmong t (things_at draws v x) → text.Has (lines draws So) (activation v a) t
      unfolding given_to
      opened_by (Starts tree depth root bs) q a x m t i = let b = by_either s.line.before.activations a (parts_of_all (map (λ b. b.bound) bs)) (AValue x) m in
          let new : s.line.vat.activations ≡ zero = subst (λ z. FirstIs z s.line.vat) q s.new in
          let taken : IsTaken script s.line.from v s.line.vat s.line.queue s.line.head (Starts tree depth root bs) = subst (λ z. IsTaken script s.line.from v s.line.vat s.line.queue s.line.head z) q s.line.taken in
          let root : (u : ℕ) × (x ≡ Ref (Root u)) = root_part taken.0.knows bs taken.7 x b.1 in
          let act : zero ≡ a = sym (b.0 ∙ acts_before ∙ new) in
          let place : So ≡ s.line.from.history ++ Opens v ∷ events_of s.line.links v s.line.so = ap (λ z. (s.line.from.history ++ z) ++ events_of s.line.links v s.line.so) taken.1 ∙ append_assoc s.line.from.history (Opens v ∷ []) (events_of s.line.links v s.line.so) in
          inl (
            root_thing root.0 t (subst (λ z. text.IsAmong t (things_at draws v z)) root.1 i),
            told_then draws So s.line.from.history (events_of s.line.links v s.line.so) (Opens v) (Opened (activation v a)) place
                (subst (λ n. IsTold (lines draws (s.line.from.history ++ Opens v ∷ [])) (Opened (activation v n))) act ((openings_told script draws s.line.from.history (events_of s.line.links v s.line.so ++ Here v e ∷ k) v).0 (earlier s.line.from.history (events_of s.line.links v s.line.so) (Opens v) place))),
          )
      opened_by other q a x j t i = absurd j

      pub facts : FactsTold draws script v So (held r) s.line.so
      unfolding held_from
      facts = record {
        ran = ran;
        endowed = endowed;
        told = given_told;
        given = λ a x m t i. opened_by s.line.step refl a x m t i;
        placed = λ g m f q. lines_stand script draws g (m ++ Here v e ∷ k) v f (earlier g m (Here v f) q);
        stood = stood_before;
        settling = settling;
        viewing = viewing;
        listed = listed;
      }
