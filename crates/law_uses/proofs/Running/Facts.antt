-- From the lines of a run's steps to what its text tells of activations.
use Rattle.std.proofs.Common.{◌≡◌, ℕ, zero, ◌+◌, arith, List, [], ◌∷◌, ◌++◌, Option, Some, None, refl, sym, ap, ◌∙◌, subst, map, ◌⊎◌, inl, inr}
use Rattle.def_event.specs.declared.shown.Shown.{Shown, Name as Named}
use Rattle.def_event.specs.declared.event.Event.{Event as ShownEvent}
use Rattle.def_event.specs.declared.event.Event.TheVariants as event
use Rattle.def_machine.specs.Values.{Words, Value, Null, Flag, Number, Letter, Text, Prim, Broken, Items, Ref, Name}
use Rattle.def_machine.specs.State.{Message, Happened, Took, Called, Back, Got, SlotMade, SlotRead, ListMade, EjectorMade, AuditionMade, PromiseMade, ObjectMade, Sends, Reacts, Posted}
use Rattle.def_run.specs.World.{Script, Event, Opens, Carried, Here, run}
use Rattle.def_run.specs.Shown as show
use Rattle.def_run.specs.Text.{shown_events, history_of}
use Rattle.law_uses.specs.Connectivity.Known as machine
use Rattle.law_uses.specs.Connectivity.Known.{Item, AValue, ASlot, AllOf, by, values, answers, data_of, tells}
use Rattle.law_uses.specs.Connectivity.Activations.{begun_by}
use Rattle.def_event.specs.Uses.{Line, line_after, and_lines, place_after, place_of, Activation, Thing, AName, AList, Fact, Begun, Opened, Given, Captured, Audition, begun_call, captured, begins, makes, gains, given, TellsAnew, IsTold, IsAmong, things_of, things, lists_of}
use Rattle.law_uses.proofs.Uses.Lines.{lines_join, among_map}
use Rattle.law_uses.proofs.Uses.Shown.{lines, shown_join, among_left, among_right}
use Rattle.law_uses.proofs.Uses.Texts.{lines_stand}
use Rattle.law_uses.specs.Running.Facts.{activation, BeginsHere, ActivationsBeginOnce, LinesTellWhatIsGiven, OpeningsAreTold}
use Rattle.law_uses.proofs.Running.Course.{end_none, joined, IsNeutral}
use Rattle.law_uses.proofs.Running.Begun.{after_at, IsOther, Other, Anew, AnewAt, run_anew}

-- ---- what is told stays told

told_before : (l : Line) (past : List Line) (f : Fact) → IsTold past f → IsTold (l ∷ past) f
unfolding IsTold
told_before l past f h = inl h

pub told_stays : (past : List Line) (es : List ShownEvent) (f : Fact) → IsTold past f → IsTold (and_lines past es) f
told_stays past [] f h = h
told_stays past (e ∷ es) f h = told_stays (line_after past e ∷ past) es f (told_before (line_after past e) past f h)

told_gained : (past : List Line) (e : ShownEvent) (f : Fact) → IsAmong f (gains (place_after (place_of past) e) e) → IsTold (line_after past e ∷ past) f
unfolding IsTold
told_gained past e f i = inr (inl i)

told_begun : (past : List Line) (e : ShownEvent) (f : Fact) → TellsAnew (IsTold past) (begins (place_after (place_of past) e) e) f → IsTold (line_after past e ∷ past) f
unfolding IsTold
told_begun past e f i = inr (inr (inl i))

told_either : (past : List Line) (e : ShownEvent) (f : Fact) → IsTold (line_after past e ∷ past) f
    → IsTold past f ⊎ (IsAmong f (gains (place_after (place_of past) e) e) ⊎ (TellsAnew (IsTold past) (begins (place_after (place_of past) e) e) f ⊎ TellsAnew (IsTold past) (makes e) f))
unfolding IsTold
told_either past e f h = h

told_none : (f : Fact) → IsTold [] f → ⊥
unfolding IsTold
told_none f h = h

-- ---- which lines begin an activation

-- the number of the activation that a line begins
abbrev number_begun : ShownEvent → Option ℕ
number_begun (event.Open v) = Some zero
number_begun (event.Take t) = Some t.activation
number_begun (event.Call c) = c.begun
number_begun _ = None

module _ (c : Activation) where
  given_no : (at a : ℕ) (ts : List Thing) → IsAmong (Begun c) (given at a ts) → ⊥
  given_no at a [] i = i
  given_no at a (t ∷ ts) (inl q) = cc
  given_no at a (t ∷ ts) (inr i) = given_no at a ts i

  audition_no : (at a : ℕ) (o : Shown) → IsAmong (Begun c) (gains at (event.Audition a o)) → ⊥
  unfolding gains
  audition_no at a (Named n) (inl q) = cc
  audition_no at a (Named n) (inr i) = given_no at a (AName n ∷ []) i
  audition_no at a o i = given_no at a (things_of o) i

  gains_no : (at : ℕ) (e : ShownEvent) → IsAmong (Begun c) (gains at e) → ⊥
  unfolding gains
  gains_no at (event.Back a x) i = given_no at a (things_of x) i
  gains_no at (event.Got a x) i = given_no at a (things_of x) i
  gains_no at (event.Read a s x) i = given_no at a (things_of x) i
  gains_no at (event.List a l members) i = given_no at a (AList l.0 l.1 ∷ []) i
  gains_no at (event.Ejector a o) i = given_no at a (things_of o) i
  gains_no at (event.Audition a o) i = audition_no at a o i
  gains_no at (event.Promise a p o) i = given_no at a (AName p ∷ things_of o) i
  gains_no at (event.Made o) i = given_no at o.activation (things_of o.object) i
  gains_no at (event.Send m) i = given_no at m.activation (AName m.answer ∷ []) i
  gains_no at (event.When w) i = given_no at w.activation (AName w.answer ∷ []) i
  gains_no at _ i = i

  module _ (T : Fact → Type 0) where
    captures_no : (n : _) (ts : List Thing) → IsAmong (Begun c) (map (λ t. Captured n t) ts) → ⊥
    captures_no n [] i = i
    captures_no n (t ∷ ts) (inl q) = cc
    captures_no n (t ∷ ts) (inr i) = captures_no n ts i

    captured_no : (o : Shown) (caps : List Shown) → TellsAnew T (captured o caps) (Begun c) → ⊥
    captured_no (Named n) caps (f, inl q) = cc
    captured_no (Named n) caps (f, inr i) = captures_no n (things caps) i
    captured_no _ caps i = i

    makes_no : (e : ShownEvent) → TellsAnew T (makes e) (Begun c) → ⊥
    unfolding makes
    makes_no (event.Made o) i = captured_no o.object o.caps i
    makes_no _ i = i

    -- what begins by a line is the activation of its place and number
    abbrev IsMarked : ℕ → Option ℕ → Type 0
    IsMarked at o = (b : ℕ) × (o ≡ Some b) × (record { at = at; number = b } ≡ c)

    marked : (at b : ℕ) (ts : List Thing) → IsAmong (Begun c) (Begun (record { at = at; number = b }) ∷ given at b ts) → IsMarked at (Some b)
    marked at b ts (inl q) = (b, refl, cc)
    marked at b ts (inr i) = absurd (given_no at b ts i)

    opening_marked : (at : ℕ) → IsAmong (Begun c) (Begun (record { at = at; number = zero }) ∷ Opened (record { at = at; number = zero }) ∷ []) → IsMarked at (Some zero)
    opening_marked at (inl q) = (zero, refl, cc)
    opening_marked at (inr (inl q)) = cc
    opening_marked at (inr (inr i)) = absurd i

    call_marked : (at : ℕ) (d : _) (o : Option ℕ) → TellsAnew T (begun_call at d o) (Begun c) → IsMarked at o
    call_marked at d None i = absurd i
    call_marked at d (Some b) i = marked at b (things d.args) i.1

    begins_marked : (at : ℕ) (e : ShownEvent) → TellsAnew T (begins at e) (Begun c) → IsMarked at (number_begun e)
    unfolding begins
    begins_marked at (event.Open v) i = opening_marked at i.1
    begins_marked at (event.Take t) i = marked at t.activation (lists_of t.target ++ things t.args) i.1
    begins_marked at (event.Call d) i = call_marked at d d.begun i
    begins_marked at _ i = absurd i

  -- a line tells that the activation has begun only as one that begins it
  line_silent : (past : List Line) (e : ShownEvent) → ((b : ℕ) → number_begun e ≡ Some b → record { at = place_after (place_of past) e; number = b } ≡ c → ⊥) → (IsTold past (Begun c) → ⊥) → IsTold (line_after past e ∷ past) (Begun c) → ⊥
  line_silent past e f h i = either (told_either past e (Begun c) i)
    where
      either : IsTold past (Begun c) ⊎ (IsAmong (Begun c) (gains (place_after (place_of past) e) e) ⊎ (TellsAnew (IsTold past) (begins (place_after (place_of past) e) e) (Begun c) ⊎ TellsAnew (IsTold past) (makes e) (Begun c))) → ⊥
      either (inl j) = h j
      either (inr (inl j)) = gains_no (place_after (place_of past) e) e j
      either (inr (inr (inl j))) = let m = begins_marked (IsTold past) (place_after (place_of past) e) e j in f m.0 m.1 m.2
      either (inr (inr (inr j))) = makes_no (IsTold past) e j

  lines_silent : (past : List Line) (es : List ShownEvent) → AllOf (λ e. number_begun e ≡ None) es → (IsTold past (Begun c) → ⊥) → IsTold (and_lines past es) (Begun c) → ⊥
  lines_silent past [] n h i = h i
  lines_silent past (e ∷ es) n h i = lines_silent (line_after past e ∷ past) es n.1 (line_silent past e (λ b q r. none b (sym n.0 ∙ q)) h) i
    where
      none : (b : ℕ) → None ≡ Some b → ⊥
      none b q = cc

module _ (draws : List ℕ) where
  -- ---- how a line of a vat is shown

  -- by no line, or by one that begins what it begins, and keeps the place
  abbrev IsShownOnce : Option ℕ → List ShownEvent → Type 0
  IsShownOnce o es = (es ≡ []) ⊎ ((e : ShownEvent) × (es ≡ e ∷ []) × (number_begun e ≡ o) × ((at : ℕ) → place_after at e ≡ at))

  send_once : (v a : ℕ) (m : Message Name) (o : Option Name) → IsShownOnce None (show.shown_send draws v a m o ∷ [])
  unfolding show.shown_send place_after
  send_once v a m (Some n) = inr (_, refl, refl, λ at. refl)
  send_once v a m None = inr (_, refl, refl, λ at. refl)

  reaction_once : (v a : ℕ) (x y : Value Name) (m : Message Name) (o : Option Name) → IsShownOnce None (show.shown_reaction draws v a x y m o)
  unfolding show.shown_reaction place_after
  reaction_once v a x y m (Some n) = inr (_, refl, refl, λ at. refl)
  reaction_once v a x y m None = inl refl

  happened_once : (v : ℕ) (e : Happened Name) → IsShownOnce (begun_by e) (show.shown_happened draws v e)
  unfolding show.shown_happened place_after begun_by
  happened_once v (Sends a m) = send_once v a m m.answer
  happened_once v (Reacts a x o m) = reaction_once v a x o m m.answer
  happened_once v (Posted w m) = inl refl
  happened_once v _ = inr (_, refl, refl, λ at. refl)

  neutral_silent : (e : Event) → IsNeutral e → AllOf (λ f. number_begun f ≡ None) (show.shown_event draws e)
  unfolding show.shown_event
  neutral_silent (Here v e) n = absurd n
  neutral_silent (Opens v) n = absurd n
  neutral_silent (Carried k v w n bytes) h = (refl, (refl, tt))
  neutral_silent _ n = (refl, tt)

  pub lines_more : (hs es : List Event) → lines draws (hs ++ es) ≡ and_lines (lines draws hs) (shown_events draws es)
  lines_more hs es = ap (and_lines []) (shown_join draws hs es) ∙ lines_join [] (shown_events draws hs) (shown_events draws es)

  pub lines_on : (hs : List Event) (e : Event) → lines draws (hs ++ e ∷ []) ≡ and_lines (lines draws hs) (show.shown_event draws e)
  unfolding shown_events
  lines_on hs e = ap (and_lines []) (shown_join draws hs (e ∷ []) ∙ ap (λ r. shown_events draws hs ++ r) (end_none (show.shown_event draws e))) ∙ lines_join [] (shown_events draws hs) (show.shown_event draws e)

  -- ---- an activation that no event begins has not begun

  -- lines of vats stand at their places
  abbrev Placed : List Event → Type 0
  Placed es = (h k : List Event) (u : ℕ) (e : Happened Name) → es ≡ h ++ Here u e ∷ k → place_of (lines draws h) ≡ u + 1

  module _ (v b : ℕ) where
    abbrev B : Fact
    B = Begun (activation v b)

    place_same : (u : ℕ) → record { at = u + 1; number = b } ≡ activation v b → u ≡ v
    place_same u q = let at : u + 1 ≡ v + 1 = ap (λ (a : Activation). a.at) q in omega arith

    here_silent : (past : List Line) (u : ℕ) (e : Happened Name) → place_of past ≡ u + 1 → (u ≡ v → IsOther b (begun_by e)) → (IsTold past B → ⊥) → IsTold (and_lines past (show.shown_happened draws u e)) B → ⊥
    here_silent past u e at other h i = either (happened_once u e)
      where
        differs : (c : ℕ) (o : Option ℕ) → o ≡ Some c → IsOther b o → c ≡ b → ⊥
        differs c None q k r = cc
        differs c (Some d) q k r = let same : d ≡ c = cc in k (same ∙ r)

        either : IsShownOnce (begun_by e) (show.shown_happened draws u e) → ⊥
        either (inl q) = h (subst (λ es. IsTold (and_lines past es) B) q i)
        either (inr r) = line_silent (activation v b) past r.0 (λ c q s. differs c (begun_by e) (sym r.2 ∙ q) (other (place_same u (sym (ap (λ n. record { at = n; number = b }) (r.3 (place_of past) ∙ at)) ∙ ap (λ (a : Activation). record { at = place_after (place_of past) r.0; number = a.number }) (sym s) ∙ s))) (ap (λ (a : Activation). a.number) s))
            h (subst (λ es. IsTold (and_lines past es) B) r.1 i)

    open_silent : (past : List Line) (u : ℕ) → (u ≡ v → zero ≡ b → ⊥) → (IsTold past B → ⊥) → IsTold (and_lines past (show.shown_event draws (Opens u))) B → ⊥
    unfolding show.shown_event place_after
    open_silent past u other h i = line_silent (activation v b) past (event.Open u) (λ c q s. apart c q s) h i
      where
        apart : (c : ℕ) → Some zero ≡ Some c → record { at = u + 1; number = c } ≡ activation v b → ⊥
        apart c q s = let first : zero ≡ c = cc in let at : u + 1 ≡ v + 1 = ap (λ (a : Activation). a.at) s in other (omega arith) (first ∙ ap (λ (a : Activation). a.number) s)

    event_silent : (hs : List Event) (e : Event) → ((u : ℕ) (f : Happened Name) → e ≡ Here u f → place_of (lines draws hs) ≡ u + 1) → Other v b e → (IsTold (lines draws hs) B → ⊥) → IsTold (and_lines (lines draws hs) (show.shown_event draws e)) B → ⊥
    unfolding show.shown_event
    event_silent hs (Here u f) at other h i = here_silent (lines draws hs) u f (at u f refl) other h i
    event_silent hs (Opens u) at other h i = open_silent (lines draws hs) u other h i
    event_silent hs e at other h i = lines_silent (activation v b) (lines draws hs) (show.shown_event draws e) (neutral_silent e tt) h i

    silent : (whole hs es k : List Event) → Placed whole → whole ≡ hs ++ (es ++ k) → AllOf (Other v b) es → (IsTold (lines draws hs) B → ⊥) → IsTold (lines draws (hs ++ es)) B → ⊥
    silent whole hs [] k placed q other h i = h (subst (λ es. IsTold (lines draws es) B) (end_none hs) i)
    silent whole hs (e ∷ es) k placed q other h i = silent whole (hs ++ e ∷ []) es k placed (q ∙ sym (joined hs (e ∷ []) (es ++ k))) other.1
        (λ j. event_silent hs e (λ u f r. placed hs (es ++ k) u f (q ∙ ap (λ z. hs ++ z ∷ (es ++ k)) r)) other.0 h (subst (λ ls. IsTold ls B) (lines_on hs e) j))
        (subst (λ es. IsTold (lines draws es) B) (sym (joined hs (e ∷ []) es)) i)

    not_begun : (whole h k : List Event) → Placed whole → whole ≡ h ++ k → AllOf (Other v b) h → IsTold (lines draws h) B → ⊥
    unfolding shown_events
    not_begun whole h k placed q other = silent whole [] h k placed q other (told_none B)

  -- ---- what a line gives

  value_given : (v : ℕ) (x : Value Name) (vs : List (Value Name)) (t : Thing) → machine.IsAmong x vs → IsAmong t (things_of (show.shown_value draws v x)) → IsAmong t (things (show.shown_values draws v vs))
  unfolding show.shown_values
  value_given v x [] t i j = absurd i
  value_given v x (y ∷ vs) t (inl q) j = among_left t (things_of (show.shown_value draws v y)) (things (show.shown_values draws v vs)) (subst (λ z. IsAmong t (things_of (show.shown_value draws v z))) q j)
  value_given v x (y ∷ vs) t (inr i) j = among_right t (things_of (show.shown_value draws v y)) (things (show.shown_values draws v vs)) (value_given v x vs t i j)

  items_by : (a b : ℕ) (i : Item Name) (is : List (Item Name)) → machine.IsAmong (a, i) (by b is) → (a ≡ b) × machine.IsAmong i is
  unfolding by
  items_by a b i [] m = absurd m
  items_by a b i (j ∷ is) (inl q) = (ap (λ (p : ℕ × Item Name). p.0) q, inl (ap (λ (p : ℕ × Item Name). p.1) q))
  items_by a b i (j ∷ is) (inr m) = let r = items_by a b i is m in (r.0, inr r.1)

  value_item : (x : Value Name) (vs : List (Value Name)) → machine.IsAmong (AValue x) (values vs) → machine.IsAmong x vs
  unfolding values
  value_item x [] m = m
  value_item x (y ∷ vs) (inl q) = inl cc
  value_item x (y ∷ vs) (inr m) = inr (value_item x vs m)

  value_is : (x y : Value Name) → ◌≡◌ {A = Item Name} (AValue x) (AValue y) → x ≡ y
  value_is x y q = cc

  either_item : (i : Item Name) (is js : List (Item Name)) → machine.IsAmong i (is ++ js) → machine.IsAmong i is ⊎ machine.IsAmong i js
  either_item i [] js m = inr m
  either_item i (j ∷ is) js (inl q) = inl (inl q)
  either_item i (j ∷ is) js (inr m) = later (either_item i is js m)
    where
      later : machine.IsAmong i is ⊎ machine.IsAmong i js → machine.IsAmong i (j ∷ is) ⊎ machine.IsAmong i js
      later (inl k) = inl (inr k)
      later (inr k) = inr k

  -- data that takes a message is a list, where it is a thing
  data_listed : (v : ℕ) (x y : Value Name) (t : Thing) → machine.IsAmong (AValue x) (data_of y) → IsAmong t (things_of (show.shown_value draws v x)) → IsAmong t (lists_of (show.shown_value draws v y))
  unfolding data_of things_of lists_of show.shown_value
  data_listed v x (Ref n) t m j = absurd m
  data_listed v x y t (inr m) j = absurd m
  data_listed v x (Items k) t (inl q) j = subst (λ z. IsAmong t (things_of (show.shown_value draws v z))) (value_is x (Items k) q) j
  data_listed v x Null t (inl q) j = absurd (subst (λ z. IsAmong t (things_of (show.shown_value draws v z))) (value_is x Null q) j)
  data_listed v x (Flag b) t (inl q) j = absurd (subst (λ z. IsAmong t (things_of (show.shown_value draws v z))) (value_is x (Flag b) q) j)
  data_listed v x (Number z) t (inl q) j = absurd (subst (λ y. IsAmong t (things_of (show.shown_value draws v y))) (value_is x (Number z) q) j)
  data_listed v x (Letter c) t (inl q) j = absurd (subst (λ z. IsAmong t (things_of (show.shown_value draws v z))) (value_is x (Letter c) q) j)
  data_listed v x (Text w) t (inl q) j = absurd (subst (λ z. IsAmong t (things_of (show.shown_value draws v z))) (value_is x (Text w) q) j)
  data_listed v x (Prim p) t (inl q) j = absurd (subst (λ z. IsAmong t (things_of (show.shown_value draws v z))) (value_is x (Prim p) q) j)
  data_listed v x (Broken p) t (inl q) j = absurd (subst (λ z. IsAmong t (things_of (show.shown_value draws v z))) (value_is x (Broken p) q) j)

  module _ (v : ℕ) (past : List Line) where
    abbrev pub Now : ℕ → Thing → Fact
    Now a t = Given (record { at = place_of past; number = a }) t

    -- each value among these items is given by a line
    abbrev GivesAll : ℕ → List (Item Name) → List Line → Type 0
    GivesAll a is ls = (x : Value Name) → machine.IsAmong (AValue x) is → (t : Thing) → IsAmong t (things_of (show.shown_value draws v x)) → IsTold ls (Now a t)

    one_given : (a : ℕ) (y : Value Name) (e : ShownEvent) → ((t : Thing) → IsAmong t (things_of (show.shown_value draws v y)) → IsTold (line_after past e ∷ past) (Now a t)) → GivesAll a (AValue y ∷ []) (line_after past e ∷ past)
    one_given a y e f x (inl q) t j = f t (subst (λ z. IsAmong t (things_of (show.shown_value draws v z))) (value_is x y q) j)
    one_given a y e f x (inr m) t j = absurd m

    now_given : (a : ℕ) (ts : List Thing) (t : Thing) → IsAmong t ts → IsAmong (Now a t) (given (place_of past) a ts)
    now_given a ts t j = among_map (λ u. Now a u) t ts j

    -- an answer
    send_gives : (a : ℕ) (m : Message Name) (o : Option Name) → GivesAll a (answers o) (and_lines past (show.shown_send draws v a m o ∷ []))
    unfolding answers show.shown_send show.shown_value things_of gains place_after
    send_gives a m None x i t j = absurd i
    send_gives a m (Some n) x i t j = one_given a (Ref n) (show.shown_send draws v a m (Some n)) (λ t j. told_gained past (show.shown_send draws v a m (Some n)) (Now a t) (now_given a (AName (show.shown_name draws n) ∷ []) t j)) x i t j

    reaction_gives : (a : ℕ) (y z : Value Name) (m : Message Name) (o : Option Name) → GivesAll a (answers o) (and_lines past (show.shown_reaction draws v a y z m o))
    unfolding answers show.shown_reaction show.shown_value things_of gains place_after
    reaction_gives a y z m None x i t j = absurd i
    reaction_gives a y z m (Some n) x i t j = one_given a (Ref n) (event.When (record { activation = a; message = show.shown_msg draws m.id; value = show.shown_value draws v y; reaction = show.shown_value draws v z; answer = show.shown_name draws n }))
        (λ t j. told_gained past (event.When (record { activation = a; message = show.shown_msg draws m.id; value = show.shown_value draws v y; reaction = show.shown_value draws v z; answer = show.shown_name draws n })) (Now a t) (now_given a (AName (show.shown_name draws n) ∷ []) t j)) x i t j

    -- the two names of a promise
    promise_gives : (a : ℕ) (p r : Name) → GivesAll a (AValue (Ref p) ∷ AValue (Ref r) ∷ []) (and_lines past (show.shown_happened draws v (PromiseMade a p r)))
    unfolding show.shown_happened show.shown_value things_of gains place_after
    promise_gives a p r x (inl q) t j = told_gained past (event.Promise a (show.shown_name draws p) (Named (show.shown_name draws r))) (Now a t)
        (now_given a (AName (show.shown_name draws p) ∷ AName (show.shown_name draws r) ∷ []) t (among_left t (AName (show.shown_name draws p) ∷ []) (AName (show.shown_name draws r) ∷ []) (subst (λ z. IsAmong t (things_of (show.shown_value draws v z))) (value_is x (Ref p) q) j)))
    promise_gives a p r x (inr (inl q)) t j = told_gained past (event.Promise a (show.shown_name draws p) (Named (show.shown_name draws r))) (Now a t)
        (now_given a (AName (show.shown_name draws p) ∷ AName (show.shown_name draws r) ∷ []) t (among_right t (AName (show.shown_name draws p) ∷ []) (AName (show.shown_name draws r) ∷ []) (subst (λ z. IsAmong t (things_of (show.shown_value draws v z))) (value_is x (Ref r) q) j)))
    promise_gives a p r x (inr (inr m)) t j = absurd m

    -- the activation that begins has not begun before
    abbrev IsNew : Option ℕ → Type 0
    IsNew o = (b : ℕ) → o ≡ Some b → IsTold past (Begun (record { at = place_of past; number = b })) → ⊥

    take_gives : (a : ℕ) (m : Message Name) → IsNew (Some a) → GivesAll a (values m.args ++ data_of m.target) (and_lines past (show.shown_happened draws v (Took a m)))
    unfolding show.shown_happened begins place_after
    take_gives a m new x i t j = told_begun past (event.Take (record { activation = a; message = show.shown_msg draws m.id; target = show.shown_value draws v m.target; verb = m.verb; args = show.shown_values draws v m.args })) (Now a t)
        (new a refl, inr (now_given a (lists_of (show.shown_value draws v m.target) ++ things (show.shown_values draws v m.args)) t (either (either_item (AValue x) (values m.args) (data_of m.target) i))))
      where
        either : machine.IsAmong (AValue x) (values m.args) ⊎ machine.IsAmong (AValue x) (data_of m.target) → IsAmong t (lists_of (show.shown_value draws v m.target) ++ things (show.shown_values draws v m.args))
        either (inl k) = among_right t (lists_of (show.shown_value draws v m.target)) (things (show.shown_values draws v m.args)) (value_given v x m.args t (value_item x m.args k) j)
        either (inr k) = among_left t (lists_of (show.shown_value draws v m.target)) (things (show.shown_values draws v m.args)) (data_listed v x m.target t k j)

    call_gives : (a b : ℕ) (y : Value Name) (verb : Words) (args : List (Value Name)) → IsNew (Some b) → GivesAll b (values args) (and_lines past (show.shown_happened draws v (Called a y verb args (Some b))))
    unfolding show.shown_happened begins place_after
    call_gives a b y verb args new x i t j = told_begun past (event.Call (record { activation = a; target = show.shown_value draws v y; verb = verb; args = show.shown_values draws v args; begun = Some b })) (Now b t)
        (new b refl, inr (now_given b (things (show.shown_values draws v args)) t (value_given v x args t (value_item x args i) j)))

    -- what was made, read or got, or was given back
    gain_gives : (a : ℕ) (y : Value Name) (e : ShownEvent) → ((t : Thing) → IsAmong t (things_of (show.shown_value draws v y)) → IsAmong (Now a t) (gains (place_after (place_of past) e) e)) → GivesAll a (AValue y ∷ []) (line_after past e ∷ past)
    gain_gives a y e f = one_given a y e (λ t j. told_gained past e (Now a t) (f t j))

    -- of any line
    abbrev Gives : Happened Name → Type 0
    Gives e = (a : ℕ) (x : Value Name) → machine.IsAmong (a, AValue x) (tells e) → (t : Thing) → IsAmong t (things_of (show.shown_value draws v x)) → IsTold (and_lines past (show.shown_happened draws v e)) (Now a t)

    by_items : (b : ℕ) (is : List (Item Name)) (ls : List Line) → GivesAll b is ls → (a : ℕ) (x : Value Name) → machine.IsAmong (a, AValue x) (by b is) → (t : Thing) → IsAmong t (things_of (show.shown_value draws v x)) → IsTold ls (Now a t)
    by_items b is ls f a x i t j = let r = items_by a b (AValue x) is i in subst (λ c. IsTold ls (Now c t)) (sym r.0) (f x r.1 t j)

    no_slot : (x : Value Name) (k : ℕ) → ◌≡◌ {A = Item Name} (AValue x) (ASlot k) → ⊥
    no_slot x k q = cc

    slot_gives : (a k : ℕ) (ls : List Line) → GivesAll a (ASlot k ∷ []) ls
    slot_gives a k ls x (inl q) t j = absurd (no_slot x k q)
    slot_gives a k ls x (inr i) t j = absurd i

    happened_gives : (e : Happened Name) → IsNew (begun_by e) → Gives e
    unfolding tells begun_by show.shown_happened show.shown_value show.shown_slot things_of gains place_after
    happened_gives (Took b m) new = by_items b (values m.args ++ data_of m.target) _ (take_gives b m new)
    happened_gives (Called c y verb args (Some b)) new = by_items b (values args) _ (call_gives c b y verb args new)
    happened_gives (Called c y verb args None) new = λ a x i t j. absurd i
    happened_gives (Back b y) new = by_items b (AValue y ∷ []) _ (gain_gives b y (event.Back b (show.shown_value draws v y)) (now_given b (things_of (show.shown_value draws v y))))
    happened_gives (Got b y) new = by_items b (AValue y ∷ []) _ (gain_gives b y (event.Got b (show.shown_value draws v y)) (now_given b (things_of (show.shown_value draws v y))))
    happened_gives (SlotRead b k y) new = by_items b (AValue y ∷ []) _ (gain_gives b y (event.Read b (show.shown_slot draws v k) (show.shown_value draws v y)) (now_given b (things_of (show.shown_value draws v y))))
    happened_gives (SlotMade b k y) new = by_items b (ASlot k ∷ []) _ (slot_gives b k _)
    happened_gives (ListMade b k ys) new = by_items b (AValue (Items k) ∷ []) _ (gain_gives b (Items k) (event.List b (show.shown_slot draws v k) (show.shown_values draws v ys)) (now_given b (AList v k ∷ [])))
    happened_gives (EjectorMade b n) new = by_items b (AValue (Ref n) ∷ []) _ (gain_gives b (Ref n) (event.Ejector b (Named (show.shown_name draws n))) (now_given b (AName (show.shown_name draws n) ∷ [])))
    happened_gives (AuditionMade b n) new = by_items b (AValue (Ref n) ∷ []) _ (gain_gives b (Ref n) (event.Audition b (Named (show.shown_name draws n))) (λ t j. inr (now_given b (AName (show.shown_name draws n) ∷ []) t j)))
    happened_gives (PromiseMade b p r) new = by_items b (AValue (Ref p) ∷ AValue (Ref r) ∷ []) _ (promise_gives b p r)
    happened_gives (ObjectMade b n w caps stamps) new = by_items b (AValue (Ref n) ∷ []) _
        (gain_gives b (Ref n) (event.Made (record { activation = b; object = Named (show.shown_name draws n); name = w; caps = map (show.shown_capture draws v) caps; stamps = show.shown_values draws v stamps })) (now_given b (AName (show.shown_name draws n) ∷ [])))
    happened_gives (Sends b m) new = by_items b (answers m.answer) _ (send_gives b m m.answer)
    happened_gives (Reacts b y o m) new = by_items b (answers m.answer) _ (reaction_gives b y o m m.answer)
    happened_gives _ new = λ a x i t j. absurd i

    some_is : (c b : ℕ) → Some c ≡ Some b → c ≡ b
    some_is c b q = cc

    none_is : (b : ℕ) → ◌≡◌ {A = Option ℕ} None (Some b) → ⊥
    none_is b q = cc

    -- an activation that begins, once its line is told
    begun_now : (e : Happened Name) (b : ℕ) → begun_by e ≡ Some b → IsNew (begun_by e) → IsTold (and_lines past (show.shown_happened draws v e)) (Begun (record { at = place_of past; number = b }))
    unfolding begun_by show.shown_happened begins place_after
    begun_now (Took c m) b q new = subst (λ n. IsTold (and_lines past (show.shown_happened draws v (Took c m))) (Begun (record { at = place_of past; number = n }))) (some_is c b q)
        (told_begun past (event.Take (record { activation = c; message = show.shown_msg draws m.id; target = show.shown_value draws v m.target; verb = m.verb; args = show.shown_values draws v m.args })) (Begun (record { at = place_of past; number = c })) (new c refl, inl refl))
    begun_now (Called a y verb args (Some c)) b q new = subst (λ n. IsTold (and_lines past (show.shown_happened draws v (Called a y verb args (Some c)))) (Begun (record { at = place_of past; number = n }))) (some_is c b q)
        (told_begun past (event.Call (record { activation = a; target = show.shown_value draws v y; verb = verb; args = show.shown_values draws v args; begun = Some c })) (Begun (record { at = place_of past; number = c })) (new c refl, inl refl))
    begun_now (Called a y verb args None) b q new = absurd (none_is b q)
    begun_now _ b q new = absurd (none_is b q)

    audition_now : (a : ℕ) (n : Name) → IsTold (and_lines past (show.shown_happened draws v (AuditionMade a n))) (Audition (show.shown_name draws n))
    unfolding show.shown_happened gains place_after
    audition_now a n = told_gained past (event.Audition a (Named (show.shown_name draws n))) (Audition (show.shown_name draws n)) (inl refl)

    opening_now : (IsTold past (Begun (activation v zero)) → ⊥) → (f : Fact) → IsAmong f (Begun (activation v zero) ∷ Opened (activation v zero) ∷ []) → IsTold (and_lines past (show.shown_event draws (Opens v))) f
    unfolding show.shown_event begins place_after
    opening_now new f i = told_begun past (event.Open v) f (new, i)

-- ---- of each run

module _ (script : Script) (draws : List ℕ) (h k : List Event) (v : ℕ) where
  abbrev whole : List Event
  whole = history_of (run script)

  placed : Placed draws whole
  placed g n u e q = lines_stand script draws g n u e q

  module _ (e : Happened Name) (at : whole ≡ h ++ Here v e ∷ k) where
    place : place_of (lines draws h) ≡ v + 1
    place = placed h k v e at

    anew_at : (b : ℕ) (o : Option ℕ) → o ≡ Some b → AnewAt v h o → AllOf (Other v b) h
    anew_at b None q n = cc
    anew_at b (Some c) q n = let same : c ≡ b = cc in subst (λ d. AllOf (Other v d) h) same n

    line_new : (b : ℕ) → begun_by e ≡ Some b → IsTold (lines draws h) (Begun (activation v b)) → ⊥
    line_new b q = not_begun draws v b whole h (Here v e ∷ k) placed at (anew_at b (begun_by e) q (after_at Anew [] whole h k (Here v e) (run_anew script) at))

    is_new : (b : ℕ) → begun_by e ≡ Some b → IsTold (lines draws h) (Begun (record { at = place_of (lines draws h); number = b })) → ⊥
    is_new b q i = line_new b q (subst (λ n. IsTold (lines draws h) (Begun (record { at = n; number = b }))) place i)

    -- with the line behind the others
    now_told : (F : ℕ → Fact) → IsTold (and_lines (lines draws h) (show.shown_happened draws v e)) (F (place_of (lines draws h))) → IsTold (lines draws (h ++ Here v e ∷ [])) (F (v + 1))
    unfolding show.shown_event
    now_told F i = subst (λ ls. IsTold ls (F (v + 1))) (sym (lines_on draws h (Here v e))) (subst (λ n. IsTold (and_lines (lines draws h) (show.shown_happened draws v e)) (F n)) place i)

    line_begins : (b : ℕ) → begun_by e ≡ Some b → BeginsHere draws h (Here v e) v b
    line_begins b q = (line_new b q, now_told (λ n. Begun (record { at = n; number = b })) (begun_now draws v (lines draws h) e b q is_new))

    line_gives : (a : ℕ) (x : Value Name) → machine.IsAmong (a, AValue x) (tells e) → (t : Thing) → IsAmong t (things_of (show.shown_value draws v x)) → IsTold (lines draws (h ++ Here v e ∷ [])) (Given (activation v a) t)
    line_gives a x i t j = now_told (λ n. Given (record { at = n; number = a }) t) (happened_gives draws v (lines draws h) e is_new a x i t j)

  module _ (at : whole ≡ h ++ Opens v ∷ k) where
    opening_new : IsTold (lines draws h) (Begun (activation v zero)) → ⊥
    opening_new = not_begun draws v zero whole h (Opens v ∷ k) placed at (after_at Anew [] whole h k (Opens v) (run_anew script) at)

    opening_tells : (f : Fact) → IsAmong f (Begun (activation v zero) ∷ Opened (activation v zero) ∷ []) → IsTold (lines draws (h ++ Opens v ∷ [])) f
    opening_tells f i = subst (λ ls. IsTold ls f) (sym (lines_on draws h (Opens v))) (opening_now draws v (lines draws h) opening_new f i)

  audition_told : (a : ℕ) (n : Name) → whole ≡ h ++ Here v (AuditionMade a n) ∷ k → IsTold (lines draws (h ++ Here v (AuditionMade a n) ∷ [])) (Audition (show.shown_name draws n))
  audition_told a n at = now_told (AuditionMade a n) at (λ m. Audition (show.shown_name draws n)) (audition_now draws v (lines draws h) a n)

pub activations_begin : ActivationsBeginOnce
activations_begin script draws h k v = (
  λ e b at q. line_begins script draws h k v e at b q,
  λ at. (opening_new script draws h k v at, opening_tells script draws h k v at (Begun (activation v zero)) (inl refl)),
)

pub lines_tell : LinesTellWhatIsGiven
lines_tell script draws h k v e at a x i t j = line_gives script draws h k v e at a x i t j

pub openings_told : OpeningsAreTold
openings_told script draws h k v = (
  λ at. opening_tells script draws h k v at (Opened (activation v zero)) (inr (inl refl)),
  λ a n at. audition_told script draws h k v a n at,
)
