-- With which captures an object was made, the line tells that made it: no line before it makes an object of that name.
use Rattle.std.proofs.Common.{◌≡◌, ℕ, ◌≤◌, ◌==◌, arith, Bool, true, false, List, [], ◌∷◌, ◌++◌, Option, Some, None, refl, sym, ap, ◌∙◌, subst, map, ◌⊎◌, inl, inr, append_assoc}
use Rattle.std.proofs.lemmas.Bool.{eq-eqb}
use Rattle.ev_base.specs.declared.names.Name.{Name as ShownName}
use Rattle.ev_base.specs.declared.names.Name.TheVariants as name
use Rattle.def_event.specs.declared.shown.Shown.{Shown, Name as Named}
use Rattle.def_event.specs.declared.event.Event.{Event as ShownEvent}
use Rattle.def_event.specs.declared.event.Event.TheVariants as event
use Rattle.def_machine.specs.Values.{Words, Value, Name, Object, Spot, Own, Foreign, naming, spot_of}
use Rattle.def_machine.specs.State.{Bound, Message, Happened, ObjectMade, Sends, Reacts, Posted}
use Rattle.def_run.specs.World as world
use Rattle.def_run.specs.World.{Script, Event, Here, names, events_of}
use Rattle.def_run.specs.Shown as show
use Rattle.def_run.specs.Text.{shown_events, history_of}
use Rattle.law_fate.specs.Fates.Fate.{once, total}
use Rattle.law_fate.proofs.Fates.RunCounts.{total_append}
use Rattle.law_uses.specs.Connectivity.News.{own_number}
use Rattle.def_event.specs.Uses.{Line, line_after, and_lines, place_of, place_after, IsAmong, Thing, AName, AList, Fact, Made, Captured, IsTold, given, gains, begins, begun_call, makes, captured, TellsAnew, things, things_of, lists_of}
use Rattle.law_uses.specs.Uses.Made.{ThingsAreMadeOnce, makes as counts, where_so, made_one}
use Rattle.law_uses.proofs.Uses.Lines.{among_map}
use Rattle.law_uses.proofs.Uses.Shown.{lines, among_shown}
use Rattle.law_uses.proofs.Uses.Kept.{unturned}
use Rattle.law_uses.proofs.Uses.Texts.{things_are_made_once}
use Rattle.law_uses.proofs.KnownUses.Lines.{place_among, lines_at}
use Rattle.law_uses.proofs.KnownUses.Stood.{in_run, Stood, stood_at}
use Rattle.law_uses.proofs.KnownUses.Opened.{events_end}
use Rattle.law_uses.proofs.KnownUses.InTime.{line_in_time}

-- ---- which lines tell that an object was made

-- the line makes an object of that name
abbrev IsMaking : ShownName → ShownEvent → Type 0
IsMaking n (event.Made o) = o.object ≡ Named n
IsMaking n _ = ⊥

module _ (n : ShownName) where
  given_no : (at a : ℕ) (ts : List Thing) → IsAmong (Made n) (given at a ts) → ⊥
  given_no at a [] i = i
  given_no at a (t ∷ ts) (inl q) = cc
  given_no at a (t ∷ ts) (inr i) = given_no at a ts i

  audition_no : (at a : ℕ) (o : Shown) → IsAmong (Made n) (gains at (event.Audition a o)) → ⊥
  unfolding gains
  audition_no at a (Named m) (inl q) = cc
  audition_no at a (Named m) (inr i) = given_no at a (AName m ∷ []) i
  audition_no at a o i = given_no at a (things_of o) i

  gains_no : (at : ℕ) (e : ShownEvent) → IsAmong (Made n) (gains at e) → ⊥
  unfolding gains
  gains_no at (event.Back a x) i = given_no at a (things_of x) i
  gains_no at (event.Got a x) i = given_no at a (things_of x) i
  gains_no at (event.Read a s x) i = given_no at a (things_of x) i
  gains_no at (event.List a l members) i = given_no at a (AList l.0 l.1 ∷ []) i
  gains_no at (event.Ejector a o) i = given_no at a (things_of o) i
  gains_no at (event.Audition a o) i = audition_no at a o i
  gains_no at (event.Promise a p o) i = given_no at a (AName p ∷ things_of o) i
  gains_no at (event.Made o) i = given_no at o.activation (things_of o.object) i
  gains_no at (event.Send m) i = given_no at m.activation (AName m.answer ∷ []) i
  gains_no at (event.When w) i = given_no at w.activation (AName w.answer ∷ []) i
  gains_no at _ i = i

  module _ (T : Fact → Type 0) where
    call_no : (at : ℕ) (d : _) (o : Option ℕ) → TellsAnew T (begun_call at d o) (Made n) → ⊥
    call_no at d None i = i
    call_no at d (Some b) (f, inl q) = cc
    call_no at d (Some b) (f, inr i) = given_no at b (things d.args) i

    begins_no : (at : ℕ) (e : ShownEvent) → TellsAnew T (begins at e) (Made n) → ⊥
    unfolding begins
    begins_no at (event.Open v) (f, inl q) = cc
    begins_no at (event.Open v) (f, inr (inl q)) = cc
    begins_no at (event.Open v) (f, inr (inr i)) = i
    begins_no at (event.Take t) (f, inl q) = cc
    begins_no at (event.Take t) (f, inr i) = given_no at t.activation (lists_of t.target ++ things t.args) i
    begins_no at (event.Call d) i = call_no at d d.begun i
    begins_no at _ i = i

    captures_no : (m : ShownName) (ts : List Thing) → IsAmong (Made n) (map (λ t. Captured m t) ts) → ⊥
    captures_no m [] i = i
    captures_no m (t ∷ ts) (inl q) = cc
    captures_no m (t ∷ ts) (inr i) = captures_no m ts i

    captured_is : (o : Shown) (caps : List Shown) → TellsAnew T (captured o caps) (Made n) → o ≡ Named n
    captured_is (Named m) caps (f, inl q) = let same : m ≡ n = cc in ap Named same
    captured_is (Named m) caps (f, inr i) = absurd (captures_no m (things caps) i)
    captured_is _ caps i = absurd i

    makes_is : (e : ShownEvent) → TellsAnew T (makes e) (Made n) → IsMaking n e
    unfolding makes
    makes_is (event.Made o) i = captured_is o.object o.caps i
    makes_is _ i = i

  line_made : (past : List Line) (e : ShownEvent) → IsTold (line_after past e ∷ past) (Made n) → IsTold past (Made n) ⊎ IsMaking n e
  unfolding IsTold
  line_made past e (inl i) = inl i
  line_made past e (inr (inl i)) = absurd (gains_no (place_after (place_of past) e) e i)
  line_made past e (inr (inr (inl i))) = absurd (begins_no (IsTold past) (place_after (place_of past) e) e i)
  line_made past e (inr (inr (inr i))) = inr (makes_is (IsTold past) e i)

  -- one of the lines makes it
  lines_made : (past : List Line) (es : List ShownEvent) → IsTold (and_lines past es) (Made n) → IsTold past (Made n) ⊎ ((e : ShownEvent) × IsAmong e es × IsMaking n e)
  lines_made past [] i = inl i
  lines_made past (e ∷ es) i = either (lines_made (line_after past e ∷ past) es i)
    where
      now : IsTold past (Made n) ⊎ IsMaking n e → IsTold past (Made n) ⊎ ((f : ShownEvent) × IsAmong f (e ∷ es) × IsMaking n f)
      now (inl j) = inl j
      now (inr m) = inr (e, inl refl, m)

      either : IsTold (line_after past e ∷ past) (Made n) ⊎ ((f : ShownEvent) × IsAmong f es × IsMaking n f) → IsTold past (Made n) ⊎ ((f : ShownEvent) × IsAmong f (e ∷ es) × IsMaking n f)
      either (inl j) = now (line_made past e j)
      either (inr r) = inr (r.0, inr r.1, r.2)

none_made : (n : ShownName) → IsTold [] (Made n) → ⊥
unfolding IsTold
none_made n i = i

-- ---- as the history shows it

module _ (draws : List ℕ) where
  -- a line of a vat that makes an object of that name
  abbrev MadeBy : Event → ShownName → Type 0
  MadeBy e n = (u a : ℕ) × (me : Name) × (x : Words) × (caught : List (Bound Name)) × (stamps : List (Value Name)) × (e ≡ Here u (ObjectMade a me x caught stamps)) × (show.shown_name draws me ≡ n)

  only : (n : ShownName) (f g : ShownEvent) → (IsMaking n f → ⊥) → IsAmong g (f ∷ []) → IsMaking n g → ⊥
  only n f g not (inl q) m = not (subst (IsMaking n) (sym q) m)
  only n f g not (inr i) m = i

  send_no : (v a : ℕ) (m : Message Name) (o : Option Name) (n : ShownName) (f : ShownEvent) → IsAmong f (show.shown_send draws v a m o ∷ []) → IsMaking n f → ⊥
  unfolding show.shown_send
  send_no v a m (Some p) n f i k = only n (event.Send _) f (λ z. z) i k
  send_no v a m None n f i k = only n (event.SendOnly _) f (λ z. z) i k

  reaction_no : (v a : ℕ) (x y : Value Name) (m : Message Name) (o : Option Name) (n : ShownName) (f : ShownEvent) → IsAmong f (show.shown_reaction draws v a x y m o) → IsMaking n f → ⊥
  unfolding show.shown_reaction
  reaction_no v a x y m (Some p) n f i k = only n (event.When _) f (λ z. z) i k
  reaction_no v a x y m None n f i k = i

  named_is : (m n : ShownName) → Named m ≡ Named n → m ≡ n
  named_is m n q = cc

  made_line : (u a : ℕ) (me : Name) (x : Words) (caught : List (Bound Name)) (stamps : List (Value Name)) (n : ShownName) (f : ShownEvent) → IsAmong f (show.shown_happened draws u (ObjectMade a me x caught stamps)) → IsMaking n f → show.shown_name draws me ≡ n
  unfolding show.shown_happened
  made_line u a me x caught stamps n f (inl q) m = named_is (show.shown_name draws me) n (subst (IsMaking n) (sym q) m)
  made_line u a me x caught stamps n f (inr i) m = absurd i

  happened_made : (u : ℕ) (e : Happened Name) (n : ShownName) (f : ShownEvent) → IsAmong f (show.shown_happened draws u e) → IsMaking n f → MadeBy (Here u e) n
  unfolding show.shown_happened
  happened_made u (ObjectMade a me x caught stamps) n f i m = (u, a, me, x, caught, stamps, refl, made_line u a me x caught stamps n f i m)
  happened_made u (Sends a m) n f i k = absurd (send_no u a m m.answer n f i k)
  happened_made u (Reacts a x o m) n f i k = absurd (reaction_no u a x o m m.answer n f i k)
  happened_made u (Posted w m) n f i k = absurd i
  happened_made u e n f (inl q) m = absurd (subst (IsMaking n) (sym q) m)
  happened_made u e n f (inr i) m = absurd i

  event_made : (e : Event) (n : ShownName) (f : ShownEvent) → IsAmong f (show.shown_event draws e) → IsMaking n f → MadeBy e n
  unfolding show.shown_event
  event_made (Here u e) n f i m = happened_made u e n f i m
  event_made (world.Carried k u v note bytes) n f (inl q) m = absurd (subst (IsMaking n) (sym q) m)
  event_made (world.Carried k u v note bytes) n f (inr (inl q)) m = absurd (subst (IsMaking n) (sym q) m)
  event_made (world.Carried k u v note bytes) n f (inr (inr i)) m = absurd i
  event_made e n f (inl q) m = absurd (subst (IsMaking n) (sym q) m)
  event_made e n f (inr i) m = absurd i

  -- only an object is shown as one
  object_is : (me : Name) (v i : ℕ) → show.shown_name draws me ≡ name.Object v i → me ≡ Object v i
  unfolding show.shown_name show.shown_gift
  object_is (Object u j) v i q = let a : u ≡ v = cc in let b : j ≡ i = cc in ap (λ z. Object z j) a ∙ ap (Object v) b
  object_is other v i q = cc

-- ---- that it is made once

module _ (script : Script) where
  made_counts : (v i : ℕ) (b : Bool) → b ≡ true → where_so b (made_one i (own_number (elim b as (λ _. Spot) [ true ↦ Own i | false ↦ Foreign v ]))) ≡ once (i == i)
  unfolding where_so made_one
  made_counts v i true q = refl
  made_counts v i false q = cc

  -- a line of vat v that makes the object of that number counts one
  counts_one : (v a i : ℕ) (x : Words) (caught : List (Bound Name)) (stamps : List (Value Name)) → counts script v i (Here v (ObjectMade a (Object v i) x caught stamps)) ≡ 1
  unfolding counts once names naming spot_of
  counts_one v a i x caught stamps = made_counts v i (v == v) (eq-eqb v v refl) ∙ ap once (eq-eqb i i refl)

  -- two lines count two
  counts_two : (f : Event → ℕ) (g m k : List Event) (x y : Event) → f x ≡ 1 → f y ≡ 1 → 2 ≤ total f ((g ++ x ∷ m) ++ y ∷ k)
  unfolding total
  counts_two f g m k x y p q = let a = total_append f (g ++ x ∷ m) (y ∷ k) in let b = total_append f g (x ∷ m) in omega arith

  -- the history in which a line stands goes on behind it
  goes_on : (v : ℕ) (e : Happened Name) (h : List Event) (s : Stood script v e h) → world.event_of s.line.links v e ≡ Here v e ∷ [] → (k : List Event) × (s.next.history ≡ h ++ Here v e ∷ k)
  unfolding events_of
  goes_on v e h s own = let l = s.line in let front : List Event = l.from.history ++ l.head in let so : List Event = events_of l.links v l.so in let rest : List Event = events_of l.links v l.rest in
      let events : events_of l.links v l.after.happened ≡ so ++ (Here v e ∷ rest) = ap (events_of l.links v) l.told ∙ events_end l.links v l.so (e ∷ l.rest) ∙ ap (λ z. so ++ (z ++ rest)) own in
      (rest ++ l.later, l.together ∙ ap (λ z. (front ++ z) ++ l.later) events ∙ ap (λ z. z ++ l.later) (sym (append_assoc front so (Here v e ∷ rest))) ∙ append_assoc (front ++ so) (Here v e ∷ rest) l.later ∙ ap (λ z. z ++ Here v e ∷ (rest ++ l.later)) (sym s.place))

  own_name : (u j v i : ℕ) → Object v i ≡ Object u j → u ≡ v
  own_name u j v i q = cc

  module _ (draws : List ℕ) (h k : List Event) (v a i : ℕ) (x : Words) (caught : List (Bound Name)) (stamps : List (Value Name)) (is : history_of (world.run script) ≡ h ++ Here v (ObjectMade a (Object v i) x caught stamps) ∷ k) where
    abbrev E : Happened Name
    E = ObjectMade a (Object v i) x caught stamps

    -- no line before makes it
    twice : (g m : List Event) (b : ℕ) (y : Words) (bs : List (Bound Name)) (ys : List (Value Name)) → h ≡ g ++ Here v (ObjectMade b (Object v i) y bs ys) ∷ m → ⊥
    unfolding world.event_of
    twice g m b y bs ys q = let s = stood_at script h k v E is in let n = goes_on v E h s refl in let few = in_run ThingsAreMadeOnce things_are_made_once script s.next s.run v s.line.after s.after i in
        let many = counts_two (counts script v i) g m n.0 (Here v (ObjectMade b (Object v i) y bs ys)) (Here v E) (counts_one v b i y bs ys) (counts_one v a i x caught stamps) in
        let same : total (counts script v i) s.next.history ≡ total (counts script v i) ((g ++ Here v (ObjectMade b (Object v i) y bs ys) ∷ m) ++ Here v E ∷ n.0) = ap (total (counts script v i)) (n.1 ∙ ap (λ z. z ++ Here v E ∷ n.0) q) in omega arith

    -- a line of any vat makes only what is its own
    made_here : (g m : List Event) (u b : ℕ) (y : Words) (bs : List (Bound Name)) (ys : List (Value Name)) → h ≡ g ++ Here u (ObjectMade b (Object v i) y bs ys) ∷ m → ⊥
    unfolding names naming
    made_here g m u b y bs ys q = let l : Happened Name = ObjectMade b (Object v i) y bs ys in let s = stood_at script g (m ++ Here v E ∷ k) u l (is ∙ ap (λ z. z ++ Here v E ∷ k) q ∙ append_assoc g (Here u l ∷ m) (Here v E ∷ k)) in
        let own = (line_in_time script u l g s).5 in twice g m b y bs ys (subst (λ z. h ≡ g ++ Here z l ∷ m) (own_name u own.0 v i own.1) q)

    before_made : (e : Event) → IsAmong e h → MadeBy draws e (name.Object v i) → ⊥
    before_made e j m = let me : m.2 ≡ Object v i = object_is draws m.2 v i m.7 in let p = place_among e h (unturned e h j) in
        made_here p.0 p.1 m.0 m.1 m.3 m.4 m.5 (p.2 ∙ ap (λ z. p.0 ++ z ∷ p.1) (m.6 ∙ ap (λ z. Here m.0 (ObjectMade m.1 z m.3 m.4 m.5)) me))

    not_made : IsTold (lines draws h) (Made (name.Object v i)) → ⊥
    not_made t = either (lines_made (name.Object v i) [] (shown_events draws h) t)
      where
        either : IsTold [] (Made (name.Object v i)) ⊎ ((f : ShownEvent) × IsAmong f (shown_events draws h) × IsMaking (name.Object v i) f) → ⊥
        either (inl j) = none_made (name.Object v i) j
        either (inr r) = let e = among_shown draws r.0 h r.1 in before_made e.0 e.1 (event_made draws e.0 (name.Object v i) r.0 e.2 r.2)

    pub captures_told : (t : Thing) → IsAmong t (things (map (show.shown_capture draws v) caught)) → IsTold (lines draws (h ++ Here v E ∷ [])) (Captured (show.shown_name draws (Object v i)) t)
    unfolding shown_events show.shown_event show.shown_happened show.shown_name makes IsTold
    captures_told t j = subst (λ ls. IsTold ls (Captured (name.Object v i) t)) (sym (lines_at draws h [] (Here v E))) (inr (inr (inr (not_made, inr (among_map (λ t. Captured (name.Object v i) t) t (things (map (show.shown_capture draws v) caught)) j)))))
