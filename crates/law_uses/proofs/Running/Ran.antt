-- Whose code an activation runs: its target leads by settlings to one object, and the lines before it began tell of them.
use Rattle.std.proofs.Common.{◌≡◌, ℕ, ◌+◌, Bool, true, false, List, [], ◌∷◌, ◌++◌, Some, refl, sym, ap, ◌∙◌, subst, inl, inr, ◌==◌, eqb-true}
use Rattle.ev_base.specs.declared.names.Name.{Name as ShownName}
use Rattle.def_event.specs.declared.event.Event.{Event as ShownEvent}
use Rattle.def_event.specs.declared.event.Event.TheVariants as event
use Rattle.def_machine.specs.Values.{Words, Value, Ref, Name, Object, Spot, Own, Foreign, NoObject, naming, spot_of}
use Rattle.def_machine.specs.State.{Message, Known, Settled, Happened, Took, Called, Settles}
use Rattle.def_machine.specs.Refs.{standing_of}
use Rattle.def_run.specs.World as world
use Rattle.def_run.specs.World.{Script, Event, Here, Link, World, names, run}
use Rattle.def_run.specs.Shown as show
use Rattle.def_run.specs.Text.{shown_events, history_of}
use Rattle.law_fate.proofs.Name.SameNames.{reference_is}
use Rattle.law_uses.specs.Connectivity.Known as machine
use Rattle.law_uses.specs.Connectivity.Known.{IsAmong, AreOne, Reaches, IsThing, called, took}
use Rattle.law_uses.specs.Connectivity.Activations.{begun_by}
use Rattle.law_uses.specs.Connectivity.Connected.{held_from}
use Rattle.law_uses.specs.Connectivity.Begotten.{LineOf}
use Rattle.law_uses.proofs.Connectivity.Events.{here_event}
use Rattle.law_uses.proofs.Connectivity.FineSteps.{among_left, among_right}
use Rattle.def_event.specs.Uses as uses
use Rattle.def_event.specs.Uses.{Line, line_after, and_lines, place_after, place_of, Activation, Begun, IsTold, IsFollowed, there, further}
use Rattle.law_uses.proofs.Uses.Shown.{lines}
use Rattle.law_uses.proofs.Uses.Texts.{lines_stand}
use Rattle.law_uses.specs.Running.Facts.{activation}
use Rattle.law_uses.specs.Running.Running.{SettledWay, itself, settled, settles, SettledApart, ObjectsSettleNot, WaysAreSettled, CallsAreOnObjects, TakesAreOnObjects, events_before, StandingsAreTold, LinesTellWhatRuns}
use Rattle.law_uses.proofs.Running.Course.{end_none, joined}
use Rattle.law_uses.proofs.Running.Facts.{lines_on, lines_more, activations_begin}
use Rattle.law_uses.proofs.Running.Given.{next_told}
use Rattle.law_uses.proofs.Running.Stood.{one_value}

among_split : (es : List (Happened Name)) (e : Happened Name) → IsAmong e es → (front : List (Happened Name)) × (rest : List (Happened Name)) × (es ≡ front ++ e ∷ rest)
among_split [] e i = absurd i
among_split (x ∷ es) e (inl q) = ([], es, ap (λ z. z ∷ es) (sym q))
among_split (x ∷ es) e (inr i) = let r = among_split es e i in (x ∷ r.0, r.1, ap (λ z. x ∷ z) r.2)

-- ---- the numbers of things

own_else : (v w n i : ℕ) (b : Bool) → (v == w) ≡ b → ◌≡◌ {A = Spot} (elim b [ true ↦ Own n | false ↦ Foreign w ]) (Own i) → Object w n ≡ Object v i
own_else v w n i true e q = let same : n ≡ i = cc in ap (λ u. Object u n) (sym (eqb-true v w e)) ∙ ap (Object v) same
own_else v w n i false e q = absurd (apart w i q)
  where
    apart : (w i : ℕ) → ◌≡◌ {A = Spot} (Foreign w) (Own i) → ⊥
    apart w i q = cc

own_none : (i : ℕ) → ◌≡◌ {A = Spot} NoObject (Own i) → ⊥
own_none i q = cc

pub own_object : (v : ℕ) (n : Name) (i : ℕ) → spot_of v n ≡ Own i → n ≡ Object v i
unfolding spot_of
own_object v (Object w n) i q = own_else v w n i (v == w) refl q
own_object v other i q = absurd (own_none i q)

-- ---- ways by the lines of a history

module _ (v : ℕ) where
  -- a name leads to another by what lines of the vat say that names settled to
  data Way (es : List Event) : Name → Name → Type 0 where
    at_end : {o : Name} → Way es o o
    on : {n o : Name} (m : Name) → IsAmong (Here v (Settles n (Ref m))) es → Way es m o → Way es n o

  way_more : (es fs : List Event) → ((e : Event) → IsAmong e es → IsAmong e fs) → (n o : Name) → Way es n o → Way fs n o
  way_more es fs f n o at_end = at_end
  way_more es fs f n o (on m i w) = on m (f (Here v (Settles n (Ref m))) i) (way_more es fs f m o w)

module _ (script : Script) (v : ℕ) (before : List (Known Name)) (so : List (Happened Name)) (es : List Event)
    (first : (n : Name) (y : Value Name) → standing_of (names script v) before n ≡ Settled y → IsAmong (Here v (Settles n y)) es) (then' : (n : Name) (y : Value Name) → IsAmong (Settles n y) so → IsAmong (Here v (Settles n y)) es) where
  one_name : (p n : Name) → AreOne (names script v) before p n → p ≡ n
  unfolding names naming
  one_name p n (m, a, b) = sym (reference_is m p a) ∙ reference_is m n b

  -- what settlings lead to a name is a name, and the lines lead it there
  way_of : (x z : Value Name) → SettledWay (names script v) before so x z → (o : Name) → z ≡ Ref o → (n : Name) × (x ≡ Ref n) × Way v es n o
  way_of x z itself o q = (o, q, at_end)
  way_of (Ref n) z (settled y e w) o q = let r = way_of y z w o q in (n, refl, on r.0 (subst (λ x. IsAmong (Here v (Settles n x)) es) r.1 (first n y e)) r.2)
  way_of (Ref n) z (settles p y i one w) o q = let r = way_of y z w o q in (n, refl, on r.0 (subst (λ m. IsAmong (Here v (Settles m (Ref r.0))) es) (one_name p n one) (subst (λ x. IsAmong (Here v (Settles p x)) es) r.1 (then' p y i))) r.2)

module _ (script : Script) (draws : List ℕ) (apart : SettledApart script draws) (plain : ObjectsSettleNot script) (v : ℕ) where
  abbrev whole : List Event
  whole = history_of (run script)

  not_object : (n : Name) (y : Value Name) → IsAmong (Here v (Settles n y)) whole → uses.is_object (show.shown_name draws n) ≡ false
  unfolding uses.is_object show.shown_name show.shown_gift
  not_object (Object u i) y j = absurd (plain v u i y j)
  not_object other y j = refl

  in_whole : (h k : List Event) → whole ≡ h ++ k → (e : Event) → IsAmong e h → IsAmong e whole
  in_whole h k q e i = subst (λ es. IsAmong e es) (sym q) (among_left e h k i)

  -- it is followed so in the text
  way_followed : (h k : List Event) → whole ≡ h ++ k → (n o : Name) → Way v h n o → uses.is_object (show.shown_name draws o) ≡ true → IsFollowed (lines draws h) (v + 1) (show.shown_name draws n) (show.shown_name draws o)
  way_followed h k q n o at_end e = there e
  way_followed h k q n o (on m i w) e = further (show.shown_name draws m) (not_object n (Ref m) (in_whole h k q (Here v (Settles n (Ref m))) i))
      (next_told script draws apart v n m (λ y j. one_value script v n y (Ref m) j (in_whole h k q (Here v (Settles n (Ref m))) i)) h k (Ref m) q i) (way_followed h k q m o w e)

  ref_is : (m n : Name) → ◌≡◌ {A = Value Name} (Ref m) (Ref n) → m ≡ n
  ref_is m n e = cc

  -- a name leads to one object
  one_end : (n : Name) (i j : ℕ) (o p : Name) → o ≡ Object v i → p ≡ Object v j → Way v whole n o → Way v whole n p → o ≡ p
  one_end n i j o p a b at_end at_end = refl
  one_end n i j o p a b at_end (on m k w) = absurd (plain v v i (Ref m) (subst (λ z. IsAmong (Here v (Settles z (Ref m))) whole) a k))
  one_end n i j o p a b (on m k w) at_end = absurd (plain v v j (Ref m) (subst (λ z. IsAmong (Here v (Settles z (Ref m))) whole) b k))
  one_end n i j o p a b (on m k w) (on q l x) = one_end m i j o p a b w (subst (λ z. Way v whole z p) (ref_is q m (one_value script v n (Ref q) (Ref m) l k)) x)

  -- ---- in the text

  runs_stay : (past : List Line) (es : List ShownEvent) (a : Activation) (o : ShownName) → uses.Runs past a o → uses.Runs (and_lines past es) a o
  runs_stay past [] a o h = h
  runs_stay past (e ∷ es) a o h = runs_stay (line_after past e ∷ past) es a o (inl h)

  abbrev RunsBy : List Event → ℕ → Name → Type 0
  RunsBy es b o = uses.Runs (lines draws es) (activation v b) (show.shown_name draws o)

  runs_more : (h es : List Event) (b : ℕ) (o : Name) → RunsBy h b o → RunsBy (h ++ es) b o
  runs_more h es b o r = subst (λ ls. uses.Runs ls (activation v b) (show.shown_name draws o)) (sym (lines_more draws h es)) (runs_stay (lines draws h) (shown_events draws es) (activation v b) (show.shown_name draws o) r)

  -- an activation that begins with a line of vat v behind these
  module _ (h k : List Event) (e : Happened Name) (b : ℕ) (at : whole ≡ h ++ Here v e ∷ k) (begun : begun_by e ≡ Some b) (n o : Name) (followed : IsFollowed (lines draws h) (v + 1) (show.shown_name draws n) (show.shown_name draws o)) where
    abbrev past : List Line
    past = lines draws h

    new : IsTold past (Begun (activation v b)) → ⊥
    new = ((activations_begin script draws h k v).0 e b at begun).0

    shown_runs : (f : ShownEvent) → place_after (place_of past) f ≡ place_of past → uses.runs f ≡ Some (record { activation = b; target = Some (show.shown_name draws n) }) → uses.Runs (line_after past f ∷ past) (activation v b) (show.shown_name draws o)
    shown_runs f keeps r = let place : place_after (place_of past) f ≡ v + 1 = keeps ∙ lines_stand script draws h k v e at in
        inr (place, new, show.shown_name draws n, r, subst (λ m. IsFollowed past m (show.shown_name draws n) (show.shown_name draws o)) (sym place) followed)

  call_runs : (h k : List Event) (a b : ℕ) (verb : Words) (args : List (Value Name)) (n o : Name) → whole ≡ h ++ Here v (Called a (Ref n) verb args (Some b)) ∷ k → IsFollowed (lines draws h) (v + 1) (show.shown_name draws n) (show.shown_name draws o)
      → RunsBy (h ++ Here v (Called a (Ref n) verb args (Some b)) ∷ []) b o
  unfolding begun_by show.shown_event show.shown_happened show.shown_value uses.runs uses.name_of place_after
  call_runs h k a b verb args n o at followed = subst (λ ls. uses.Runs ls (activation v b) (show.shown_name draws o)) (sym (lines_on draws h (Here v (Called a (Ref n) verb args (Some b)))))
      (shown_runs h k (Called a (Ref n) verb args (Some b)) b at refl n o followed (event.Call (record { activation = a; target = show.shown_value draws v (Ref n); verb = verb; args = show.shown_values draws v args; begun = Some b })) refl refl)

  take_runs : (h k : List Event) (a : ℕ) (m : Message Name) (n o : Name) → m.target ≡ Ref n → whole ≡ h ++ Here v (Took a m) ∷ k → IsFollowed (lines draws h) (v + 1) (show.shown_name draws n) (show.shown_name draws o)
      → RunsBy (h ++ Here v (Took a m) ∷ []) a o
  unfolding begun_by show.shown_event show.shown_happened show.shown_value uses.runs uses.name_of place_after
  take_runs h k a m n o target at followed = subst (λ ls. uses.Runs ls (activation v a) (show.shown_name draws o)) (sym (lines_on draws h (Here v (Took a m))))
      (shown_runs h k (Took a m) a at refl n o followed (event.Take (record { activation = a; message = show.shown_msg draws m.id; target = show.shown_value draws v m.target; verb = m.verb; args = show.shown_values draws v m.args })) refl
      (ap (λ y. Some (record { activation = a; target = uses.name_of (show.shown_value draws v y) })) target))

-- ---- the events of a step

events_join : (ls : List Link) (v : ℕ) (xs ys : List (Happened Name)) → world.events_of ls v (xs ++ ys) ≡ world.events_of ls v xs ++ world.events_of ls v ys
unfolding world.events_of
events_join ls v [] ys = refl
events_join ls v (x ∷ xs) ys = ap (λ r. world.event_of ls v x ++ r) (events_join ls v xs ys) ∙ sym (joined (world.event_of ls v x) (world.events_of ls v xs) (world.events_of ls v ys))

module _ (script : Script) (draws : List ℕ) (apart : SettledApart script draws) (plain : ObjectsSettleNot script) (w : World) (v : ℕ) (e : Happened Name) (l : LineOf script w v e) (k : List Event) (at : history_of (run script) ≡ events_before l ++ Here v e ∷ k)
    (standings : StandingsAreTold l) (ways : WaysAreSettled l) (calls : CallsAreOnObjects l) (takes : TakesAreOnObjects l) where
  abbrev base : List Event
  base = l.from.history ++ l.head

  abbrev ending : List Event
  ending = Here v e ∷ k

  settle_event : (front : List (Happened Name)) (n : Name) (y : Value Name) → IsAmong (Settles n y) front → IsAmong (Here v (Settles n y)) (world.events_of l.links v front)
  unfolding world.event_of
  settle_event front n y i = here_event l.links v front (Settles n y) refl i

  -- the lines up to some of the step tell of what settled
  module _ (front : List (Happened Name)) where
    first_told : (n : Name) (y : Value Name) → standing_of (names script v) l.before.known n ≡ Settled y → IsAmong (Here v (Settles n y)) (base ++ world.events_of l.links v front)
    first_told n y q = among_left _ base (world.events_of l.links v front) (among_left _ l.from.history l.head (standings n y q))

    then_told : (n : Name) (y : Value Name) → IsAmong (Settles n y) front → IsAmong (Here v (Settles n y)) (base ++ world.events_of l.links v front)
    then_told n y i = among_right _ base (world.events_of l.links v front) (settle_event front n y i)

    way_in : (rest : List (Happened Name)) → l.so ≡ front ++ rest → (x : Value Name) (o : Name) (i : ℕ) → Reaches (names script v) l.before.known front x (Ref o) → spot_of v o ≡ Own i → (n : Name) × (x ≡ Ref n) × Way v (base ++ world.events_of l.links v front) n o
    way_in rest q x o i r s = way_of script v l.before.known front (base ++ world.events_of l.links v front) first_told then_told x (Ref o) (ways front rest q x o i r s) o refl

    -- the history is these events and what comes behind them
    behind : (rest : List (Happened Name)) → l.so ≡ front ++ rest → history_of (run script) ≡ (base ++ world.events_of l.links v front) ++ (world.events_of l.links v rest ++ ending)
    behind rest q = at ∙ ap (λ es. (base ++ es) ++ ending) (ap (world.events_of l.links v) q ∙ events_join l.links v front rest)
        ∙ ap (λ es. es ++ ending) (sym (joined base (world.events_of l.links v front) (world.events_of l.links v rest))) ∙ joined (base ++ world.events_of l.links v front) (world.events_of l.links v rest) ending

    to_whole : (rest : List (Happened Name)) → l.so ≡ front ++ rest → (n o : Name) → Way v (base ++ world.events_of l.links v front) n o → Way v (history_of (run script)) n o
    to_whole rest q n o x = way_more v (base ++ world.events_of l.links v front) (history_of (run script)) (in_whole script draws apart plain v (base ++ world.events_of l.links v front) (world.events_of l.links v rest ++ ending) (behind rest q)) n o x

  -- what the machine follows a value to, by the lines so far
  found : (x : Value Name) (i : ℕ) → IsThing (names script v) l.before.known l.so x i → (n : Name) × (x ≡ Ref n) × Way v (history_of (run script)) n (Object v i)
  unfolding names naming
  found x i (o, r, s) = let q : l.so ≡ l.so ++ [] = sym (end_none l.so) in let f = way_in l.so [] q x o i r s in
      (f.0, f.1, subst (λ p. Way v (history_of (run script)) f.0 p) (own_object v o i s) (to_whole l.so [] q f.0 o f.2))

  object_shown : (i : ℕ) → uses.is_object (show.shown_name draws (Object v i)) ≡ true
  unfolding uses.is_object show.shown_name
  object_shown i = refl

  -- what the machine follows a value to by some of the lines so far, the text follows it to by the same
  pub way_told : (front rest : List (Happened Name)) → l.so ≡ front ++ rest → (x : Value Name) (i : ℕ) → IsThing (names script v) l.before.known front x i
      → (n : Name) × (x ≡ Ref n) × IsFollowed (lines draws ((l.from.history ++ l.head) ++ world.events_of l.links v front)) (v + 1) (show.shown_name draws n) (show.shown_name draws (Object v i))
  unfolding names naming
  way_told front rest q x i (o, r, t) = let f = way_in front rest q x o i r t in
      (f.0, f.1, way_followed script draws apart plain v (base ++ world.events_of l.links v front) (world.events_of l.links v rest ++ ending) (behind front rest q) f.0 (Object v i) (subst (λ p. Way v (base ++ world.events_of l.links v front) f.0 p) (own_object v o i t) f.2) (object_shown i))

  ref_same : (m n : Name) → ◌≡◌ {A = Value Name} (Ref m) (Ref n) → m ≡ n
  ref_same m n q = cc

  abbrev Runs : ℕ → ℕ → Type 0
  Runs b i = uses.Runs (lines draws (events_before l)) (activation v b) (show.shown_name draws (Object v i))

  -- with the line that begins it, and those behind it
  later : (front rest : List (Happened Name)) (f : Happened Name) (b i : ℕ) → l.so ≡ front ++ f ∷ rest → world.event_of l.links v f ≡ Here v f ∷ [] → uses.Runs (lines draws ((base ++ world.events_of l.links v front) ++ Here v f ∷ [])) (activation v b) (show.shown_name draws (Object v i)) → Runs b i
  unfolding world.events_of
  later front rest f b i q shape r = subst (λ es. uses.Runs (lines draws es) (activation v b) (show.shown_name draws (Object v i))) (sym all) (runs_more script draws apart plain v ((base ++ world.events_of l.links v front) ++ Here v f ∷ []) (world.events_of l.links v rest) b (Object v i) r)
    where
      step : world.events_of l.links v l.so ≡ world.events_of l.links v front ++ (Here v f ∷ world.events_of l.links v rest)
      step = ap (world.events_of l.links v) q ∙ events_join l.links v front (f ∷ rest) ∙ ap (λ es. world.events_of l.links v front ++ (es ++ world.events_of l.links v rest)) shape

      all : events_before l ≡ ((base ++ world.events_of l.links v front) ++ Here v f ∷ []) ++ world.events_of l.links v rest
      all = ap (λ es. base ++ es) step ∙ sym (joined base (world.events_of l.links v front) (Here v f ∷ world.events_of l.links v rest)) ∙ sym (joined (base ++ world.events_of l.links v front) (Here v f ∷ []) (world.events_of l.links v rest))

  -- the history is what comes before a line of the step, that line, and what comes behind it
  at_line : (front rest : List (Happened Name)) (f : Happened Name) → l.so ≡ front ++ f ∷ rest → world.event_of l.links v f ≡ Here v f ∷ [] → history_of (run script) ≡ (base ++ world.events_of l.links v front) ++ Here v f ∷ (world.events_of l.links v rest ++ ending)
  unfolding world.events_of
  at_line front rest f q shape = behind front (f ∷ rest) q ∙ ap (λ es. (base ++ world.events_of l.links v front) ++ ((es ++ world.events_of l.links v rest) ++ ending)) shape

  called_runs : (a b i : ℕ) (x : Value Name) (verb : Words) (args : List (Value Name)) → IsAmong (Called a x verb args (Some b)) l.so → IsThing (names script v) l.before.known l.so x i → Runs b i
  unfolding world.event_of
  called_runs a b i x verb args m thing = let f = found x i thing in let s = among_split l.so (Called a x verb args (Some b)) m in let c = calls s.0 s.1 a b x verb args s.2 in let g = way_in s.0 (Called a x verb args (Some b) ∷ s.1) s.2 x c.0 c.1 c.2 c.3 in
      by f.0 f.1 f.2 s.0 s.1 s.2 c.0 c.1 c.3 g.0 g.1 g.2
    where
      by : (n : Name) → x ≡ Ref n → Way v (history_of (run script)) n (Object v i) → (front rest : List (Happened Name)) → l.so ≡ front ++ Called a x verb args (Some b) ∷ rest → (o : Name) (j : ℕ) → spot_of v o ≡ Own j → (p : Name) → x ≡ Ref p → Way v (base ++ world.events_of l.links v front) p o → Runs b i
      by n y way front rest q o j spot p z now = let same : p ≡ n = ref_same p n (sym z ∙ y) in let now' : Way v (base ++ world.events_of l.links v front) n o = subst (λ r. Way v (base ++ world.events_of l.links v front) r o) same now in
          let end : o ≡ Object v i = one_end script draws apart plain v n j i o (Object v i) (own_object v o j spot) refl (to_whole front (Called a x verb args (Some b) ∷ rest) q n o now') way in
          let here : Way v (base ++ world.events_of l.links v front) n (Object v i) = subst (λ r. Way v (base ++ world.events_of l.links v front) n r) end now' in
          let line : l.so ≡ front ++ Called a (Ref n) verb args (Some b) ∷ rest = subst (λ r. l.so ≡ front ++ Called a r verb args (Some b) ∷ rest) y q in
          let placed = at_line front rest (Called a (Ref n) verb args (Some b)) line refl in
          later front rest (Called a (Ref n) verb args (Some b)) b i line refl
          (call_runs script draws apart plain v (base ++ world.events_of l.links v front) (world.events_of l.links v rest ++ ending) a b verb args n (Object v i) placed
          (way_followed script draws apart plain v (base ++ world.events_of l.links v front) (Here v (Called a (Ref n) verb args (Some b)) ∷ (world.events_of l.links v rest ++ ending)) placed n (Object v i) here (object_shown i)))

  -- from an object no way leads on
  ends_there : (i : ℕ) (n o : Name) → n ≡ Object v i → Way v (history_of (run script)) n o → n ≡ o
  ends_there i n o q at_end = refl
  ends_there i n o q (on m j x) = absurd (plain v v i (Ref m) (subst (λ z. IsAmong (Here v (Settles z (Ref m))) (history_of (run script))) q j))

  took_runs : (a i : ℕ) (m : Message Name) → IsAmong (Took a m) l.so → IsThing (names script v) l.before.known l.so m.target i → Runs a i
  unfolding world.event_of
  took_runs a i m among thing = let f = found m.target i thing in let s = among_split l.so (Took a m) among in let o = takes a m f.0 among f.1 in
      by f.0 f.1 s.0 s.1 s.2 (ends_there o.0 f.0 (Object v i) (own_object v f.0 o.0 o.1) f.2)
    where
      by : (n : Name) → m.target ≡ Ref n → (front rest : List (Happened Name)) → l.so ≡ front ++ Took a m ∷ rest → n ≡ Object v i → Runs a i
      by n y front rest q same = let placed = at_line front rest (Took a m) q refl in
          later front rest (Took a m) a i q refl (take_runs script draws apart plain v (base ++ world.events_of l.links v front) (world.events_of l.links v rest ++ ending) a m n (Object v i) y placed
          (subst (λ r. IsFollowed (lines draws (base ++ world.events_of l.links v front)) (v + 1) (show.shown_name draws r) (show.shown_name draws (Object v i))) (sym same) (there (object_shown i))))

  all_run : (b i : ℕ) → machine.Runs (names script v) (held_from l.step l.before l.after) l.so b i → Runs b i
  unfolding held_from
  all_run b i (called a x verb args m thing) = called_runs a b i x verb args m thing
  all_run b i (took m among thing) = took_runs b i m among thing

pub lines_tell_what_runs : LinesTellWhatRuns
lines_tell_what_runs script draws apart plain w v e l k at standings ways calls takes b i r = all_run script draws apart plain w v e l k at standings ways calls takes b i r
