-- A connected history so far: what is known in it stays known, and how it grows by one line.
use Rattle.std.proofs.Common.{◌≡◌, ◌≤◌, ℕ, suc, arith, true, List, [], ◌∷◌, ◌++◌, Option, Some, None, refl, sym, ap, ◌∙◌, subst, length, map, ◌⊎◌, inl, inr}
use Rattle.std.specs.Prelude.{slice_get}
use Rattle.def_machine.specs.Values.{Words, Value, Ref, Naming, Own, IsOwn}
use Rattle.def_machine.specs.State.{Thing, Made, Resolver, Binding, Cell, Freedom, IsFinal, View, Audition, Happened, Called, Back, Got, SlotMade, SlotWrote, ListCame, AuditionMade, PromiseMade, ObjectMade, Reacts, Settles, Waits, Views, Lost, Posted, Vat}
use Rattle.law_uses.specs.Connectivity.Known.{Item, AValue, AGuard, IsAmong, AllOf, Start, Holdings, Reaches, IsThing, Knows}
use Rattle.law_uses.specs.Connectivity.Connected.{Open, open_after, open_from, Judges, evaluates, asks, AskedThen, GivenBack, BackWell, ComesWell, LineWell, ConnectedAfter, Connected, uses, itself}
use Rattle.law_uses.specs.Connectivity.ConnectedLaws as laws
use Rattle.law_uses.proofs.Connectivity.Knowing.{among_mid, among_more, reaches_more, thing_more, knows_more, knows_later}
use Rattle.law_uses.specs.Connectivity.Settlings.{IsResolver, IsCaused, Follows}
use Rattle.law_uses.proofs.Connectivity.Causes.{Causes, CausedAfter, caused_rest, resolver_more, SameNames, causes_same, causes_block}
use Rattle.law_uses.specs.Connectivity.Activations.{Rises}
use Rattle.law_uses.specs.Connectivity.Told.{ReadTold, ReadsTold}
use Rattle.law_uses.specs.Connectivity.InTime.{UsesThen, GivesThen, CallsThen, MakesOwn, WellThen, InTime, AllInTime}
use Rattle.law_uses.specs.Connectivity.News.{thing_made, slot_made, list_made, Adds}
use Rattle.law_uses.proofs.Connectivity.Rising.{rises_line}
use Rattle.law_uses.proofs.Connectivity.Adding.{adds_line}
use Rattle.law_uses.proofs.Connectivity.News.{rises_idle}
use Rattle.law_uses.proofs.Connectivity.Idle.{joined, no_more, IsIdle, Idles}

-- what the vat had before the step, and what the step is given
pub record Ground (N W : Type 0) : Type 0 where
  pub things : List (Thing N)
  pub slots : List (Cell N)
  pub given : List (ℕ × Item N)
  -- the step, and the vat as it was
  pub start : Start N W

pub all_map : {A : Type 0} (P Q : A → Type 0) → ((x : A) → P x → Q x) → (xs : List A) → AllOf P xs → AllOf Q xs
all_map P Q f [] h = tt
all_map P Q f (x ∷ xs) h = (f x h.0, all_map P Q f xs h.1)

module _ {N : Type 0} (slots : List (Cell N)) where
  reads_end : (so es : List (Happened N)) (e : Happened N) → ReadsTold slots so es → ReadTold slots (so ++ es) e → ReadsTold slots so (es ++ e ∷ [])
  reads_end so [] e k l = (subst (λ xs. ReadTold slots xs e) (sym (no_more so)) l, tt)
  reads_end so (x ∷ es) e k l = (k.0, reads_end (so ++ x ∷ []) es e k.1 (subst (λ xs. ReadTold slots xs e) (sym (joined so (x ∷ []) es)) l))

  reads_join : (so es more : List (Happened N)) → ReadsTold slots so es → ReadsTold slots (so ++ es) more → ReadsTold slots so (es ++ more)
  reads_join so [] more k l = subst (λ xs. ReadsTold slots xs more) (sym (no_more so)) l
  reads_join so (x ∷ es) more k l = (k.0, reads_join (so ++ x ∷ []) es more k.1 (subst (λ xs. ReadsTold slots xs more) (sym (joined so (x ∷ []) es)) l))

  idle_read : (so : List (Happened N)) (e : Happened N) → IsIdle e → ReadTold slots so e
  idle_read so (Settles p y) k = tt
  idle_read so (Waits p q) k = tt
  idle_read so (Views p q) k = tt
  idle_read so (Lost m) k = tt
  idle_read so (Posted w m) k = tt
  idle_read so (ListCame n vs) k = tt
  idle_read so other k = elim k [ ]

  idles_read : (so es : List (Happened N)) → AllOf IsIdle es → ReadsTold slots so es
  idles_read so [] k = tt
  idles_read so (e ∷ es) k = (idle_read so e k.0, idles_read (so ++ e ∷ []) es k.1)

module _ {N W : Type 0} (K : Naming N W) (h later : Holdings N W) (grown : laws.Grown h later) where
  thing_later : (so : List (Happened N)) (x : Value N) (i : ℕ) → IsThing K h.before so x i → IsThing K later.before so x i
  thing_later so x i t = subst (λ ks. IsThing K ks so x i) grown.before t

  judges_later : (so : List (Happened N)) (a i : ℕ) → Judges K h so a i → Judges K later so a i
  judges_later so a i (evaluates n front rest e f g) = evaluates n front rest e f g
  judges_later so a i (asks b j x n front rest e f g t k) = asks b j x n front rest e f g (thing_later so x j t) (judges_later so a j k)

  asked_later : (so : List (Happened N)) (a : ℕ) (x : Value N) (verb : Words) (i : ℕ) → AskedThen K h so a x verb i → AskedThen K later so a x verb i
  asked_later so a x verb i k = (k.0, k.1, k.2, k.3, k.4, thing_later k.1 x i k.5, k.6, k.7, k.8, k.9)

  given_later : (so : List (Happened N)) (a : ℕ) (x : Value N) (verb : Words) (o : Option ℕ) (v : Value N) → GivenBack K h so a x verb o v → GivenBack K later so a x verb o v
  given_later so a x verb (Some b) v k = knows_later K h later grown so b (AValue v) k
  given_later so a x verb None v (inl k) = inl (knows_later K h later grown so a (AValue v) k)
  given_later so a x verb None v (inr k) = inr (k.0, k.1, k.2, asked_later so a x verb k.2 k.3, judges_later so k.1 k.2 k.4, knows_later K h later grown so k.1 (AGuard v) k.5)

  back_later : (so : List (Happened N)) (a : ℕ) (v : Value N) (cs : List (Open N)) → BackWell K h so a v cs → BackWell K later so a v cs
  back_later so a v [] k = k
  back_later so a v (c ∷ cs) k = (k.0, given_later so c.caller c.receiver c.verb c.begun v k.1)

  comes_later : h.start ≡ later.start → (so : List (Happened N)) (e : Happened N) → ComesWell K h so e → ComesWell K later so e
  comes_later same so (Back a v) k = back_later so a v (open_from [] so) k
  comes_later same so (Got a v) k = (k.0, k.1, k.2, k.3, k.4, k.5, k.6, thing_later so k.2 k.1 k.7, k.8, k.9, k.10)
  comes_later same so (SlotMade a n v) k = let d = grown.guards n k.0 k.1 in (d.0, d.1, subst (λ g. Knows K later so a (AValue g)) d.2 (knows_later K h later grown so a (AValue k.0.guard) k.2))
  comes_later same so (Reacts a x o m) k = subst (λ z. Follows K z so o m.target) same k
  comes_later same so (PromiseMade a p r) k = subst (λ (z : Start N W). (i n : ℕ) × (p ≡ K.made (IsOwn i) n) × (z.vat.promises ≤ i) × (length z.vat.known ≤ n)) same k
  comes_later same so (Settles p y) k = subst (λ x. IsCaused K x so (Settles p y)) same k
  comes_later same so (Waits p q) k = subst (λ x. IsCaused K x so (Waits p q)) same k
  comes_later same so (Views p q) k = subst (λ x. IsCaused K x so (Views p q)) same k
  comes_later same so other k = tt

  uses_later : (so : List (Happened N)) (Q : List (Item N)) (us : List (ℕ × Item N)) → AllOf (λ u. Knows K h so u.0 u.1 ⊎ IsAmong u.1 Q) us → AllOf (λ u. Knows K later so u.0 u.1 ⊎ IsAmong u.1 Q) us
  uses_later so Q us k = all_map _ _ one us k
    where
      one : (u : ℕ × Item N) → Knows K h so u.0 u.1 ⊎ IsAmong u.1 Q → Knows K later so u.0 u.1 ⊎ IsAmong u.1 Q
      one u (inl i) = inl (knows_later K h later grown so u.0 u.1 i)
      one u (inr i) = inr i

  pub connected_later : h.start ≡ later.start → (so es : List (Happened N)) → ConnectedAfter K h so es → ConnectedAfter K later so es
  connected_later same so [] k = tt
  connected_later same so (e ∷ es) k = ((uses_later so (itself e) (uses e) k.0.0, comes_later same so e k.0.1), connected_later same (so ++ e ∷ []) es k.1)

module _ {N W : Type 0} (K : Naming N W) (h : Holdings N W) where
  pub connected_end : (so es : List (Happened N)) (e : Happened N) → ConnectedAfter K h so es → LineWell K h (so ++ es) e → ConnectedAfter K h so (es ++ e ∷ [])
  connected_end so [] e k l = (subst (λ xs. LineWell K h xs e) (sym (no_more so)) l, tt)
  connected_end so (x ∷ es) e k l = (k.0, connected_end (so ++ x ∷ []) es e k.1 (subst (λ xs. LineWell K h xs e) (sym (joined so (x ∷ []) es)) l))

  judges_more : (so more : List (Happened N)) (a i : ℕ) → Judges K h so a i → Judges K h (so ++ more) a i
  judges_more so more a i (evaluates n front rest e f g) = evaluates n front (rest ++ more) (ap (λ xs. xs ++ more) e ∙ joined front (AuditionMade a n ∷ rest) more) f g
  judges_more so more a i (asks b j x n front rest e f g t k) = asks b j x n front (rest ++ more) (ap (λ xs. xs ++ more) e ∙ joined front (AuditionMade b n ∷ rest) more) f g (thing_more K h.before so more x j t) (judges_more so more a j k)

  -- who judges does so by an audition that lines tell of
  pub judges_told : (so : List (Happened N)) (a i : ℕ) → Judges K h so a i → (b : ℕ) × (n : N) × IsAmong (AuditionMade b n) so × (K.spot n ≡ Own i)
  judges_told so a i (evaluates n front rest e f g) = (a, n, subst (λ xs. IsAmong (AuditionMade a n) xs) (sym e) (among_mid (AuditionMade a n) front rest), f)
  judges_told so a i (asks b j x n front rest e f g t k) = (b, n, subst (λ xs. IsAmong (AuditionMade b n) xs) (sym e) (among_mid (AuditionMade b n) front rest), f)

  -- a line of no activation
  idle_well : (so : List (Happened N)) (e : Happened N) → IsIdle e → IsCaused K h.start so e → LineWell K h so e
  unfolding uses
  idle_well so (Settles p y) k c = (tt, c)
  idle_well so (Waits p q) k c = (tt, c)
  idle_well so (Views p q) k c = (tt, c)
  idle_well so (Lost m) k c = (tt, tt)
  idle_well so (Posted w m) k c = (tt, tt)
  idle_well so (ListCame n vs) k c = (tt, tt)
  idle_well so other k c = elim k [ ]

  idles_connected : (so es : List (Happened N)) → AllOf IsIdle es → CausedAfter K h.start so es → ConnectedAfter K h so es
  idles_connected so [] k c = tt
  idles_connected so (e ∷ es) k c = (idle_well so e k.0 c.0, idles_connected (so ++ e ∷ []) es k.1 c.1)

  connected_join : (so es more : List (Happened N)) → ConnectedAfter K h so es → ConnectedAfter K h (so ++ es) more → ConnectedAfter K h so (es ++ more)
  connected_join so [] more k l = subst (λ xs. ConnectedAfter K h xs more) (sym (no_more so)) l
  connected_join so (x ∷ es) more k l = (k.0, connected_join (so ++ x ∷ []) es more k.1 (subst (λ xs. ConnectedAfter K h xs more) (sym (joined so (x ∷ []) es)) l))

abbrev pub opens : {N : Type 0} → Vat N → List (Open N)
opens s = open_from [] s.happened

module _ {N : Type 0} where
  -- the state with one more line
  abbrev pub with_line : Vat N → Happened N → Vat N
  with_line s e = record s { happened = s.happened ++ e ∷ [] }

  open_last : (cs : List (Open N)) (es : List (Happened N)) (e : Happened N) → open_from cs (es ++ e ∷ []) ≡ open_after (open_from cs es) e
  unfolding open_from
  open_last cs [] e = refl
  open_last cs (x ∷ es) e = open_last (open_after cs x) es e

  pub opens_last : (s : Vat N) (e : Happened N) → opens (with_line s e) ≡ open_after (opens s) e
  opens_last s e = open_last [] s.happened e

  idle_open : (cs : List (Open N)) (e : Happened N) → IsIdle e → open_after cs e ≡ cs
  unfolding open_after
  idle_open cs (Settles p y) k = refl
  idle_open cs (Waits p q) k = refl
  idle_open cs (Views p q) k = refl
  idle_open cs (Lost m) k = refl
  idle_open cs (Posted w m) k = refl
  idle_open cs (ListCame n vs) k = refl
  idle_open cs other k = elim k [ ]

  idles_open : (cs : List (Open N)) (es more : List (Happened N)) → AllOf IsIdle more → open_from cs (es ++ more) ≡ open_from cs es
  unfolding open_from
  idles_open cs (x ∷ es) more k = idles_open (open_after cs x) es more k
  idles_open cs [] [] k = refl
  idles_open cs [] (e ∷ more) k = ap (λ ds. open_from ds more) (idle_open cs e k.0) ∙ idles_open cs [] more k.1

  pub idles_opens : (s t : Vat N) → Idles s t → opens t ≡ opens s
  idles_opens s t i = ap (λ es. open_from [] es) i.lines ∙ idles_open [] s.happened i.more i.idle

module _ {N W : Type 0} (K : Naming N W) (E : Ground N W) where
  abbrev pub held : Vat N → Holdings N W
  held s = record { things = s.things; lists = s.lists; slots = s.slots; before = E.start.vat.known; given = E.given; start = E.start }

  -- an activation knows that now
  abbrev pub Has : Vat N → ℕ → Item N → Type 0
  Has s a i = Knows K (held s) s.happened a i

  abbrev pub Knew : Vat N → ℕ → Value N → Type 0
  Knew s a v = Has s a (AValue v)

  -- the guard that an audition tells, where there is one
  abbrev pub FreedomKnown : Vat N → ℕ → Freedom N → Type 0
  FreedomKnown s a (IsFinal g) = Has s a (AGuard g)
  FreedomKnown s a other = Unit {0}

  abbrev pub ViewKnown : Vat N → ℕ → View N → Type 0
  ViewKnown s a view = AllOf (λ f. FreedomKnown s a f.freedom) view.free

  -- some activation evaluates what is judged by that audition, and knows as guards those that the audition tells
  abbrev pub Judged : Vat N → ℕ → View N → Type 0
  Judged s i view = (b : ℕ) × Judges K (held s) s.happened b i × ViewKnown s b view

  pub record Grows (s t : Vat N) : Type 0 where
    pub more : List (Happened N)
    pub lines : t.happened ≡ s.happened ++ more
    pub grown : laws.Grown (held s) (held t)

  -- an object was there before the step, or a line tells with what it was made
  abbrev pub ObjectTold : Vat N → ℕ → ℕ → List (Binding N) → List (Value N) → Type 0
  ObjectTold s i node caught stamps = (slice_get E.things i ≡ Some (Made node caught stamps)) ⊎ ((b : ℕ) × (x : Words) × IsAmong (ObjectMade b (K.object i) x (map (λ c. c.bound) caught) stamps) s.happened)

  -- what is in a slot was there before the step, or a line tells that it was put there
  abbrev pub PutTold : Vat N → ℕ → Value N → Type 0
  PutTold s k v = ((d : Cell N) × (slice_get E.slots k ≡ Some d) × (d.value ≡ v)) ⊎ ((b : ℕ) × (IsAmong (SlotMade b k v) s.happened ⊎ IsAmong (SlotWrote b k v) s.happened))

  abbrev pub CellTold : Vat N → ℕ → Cell N → Type 0
  CellTold s k c = PutTold s k c.value

  -- what there was before the step
  abbrev pub first : Holdings N W
  first = record { things = E.things; lists = E.start.vat.lists; slots = E.slots; before = E.start.vat.known; given = E.given; start = E.start }

  -- what holds so far
  pub record Good (s : Vat N) : Type 0 where
    pub causes : Causes K E.start s
    pub lines : Connected K (held s) s.happened
    pub timely : AllInTime K first [] s.happened
    pub judged : (i : ℕ) (view : View N) → slice_get s.things i ≡ Some (Audition true view) → Judged s i view
    pub resolvers : (i : ℕ) (p : N) → slice_get s.things i ≡ Some (Resolver p) → IsResolver K E.start s.happened i p
    pub made : (i node : ℕ) (caught : List (Binding N)) (stamps : List (Value N)) → slice_get s.things i ≡ Some (Made node caught stamps) → ObjectTold s i node caught stamps
    pub cells : (k : ℕ) (c : Cell N) → slice_get s.slots k ≡ Some c → CellTold s k c
    pub reads : ReadsTold E.slots [] s.happened
    pub things_rise : Rises (length E.things) (map (thing_made K) s.happened) (length s.things)
    pub slots_rise : Rises (length E.slots) (map slot_made s.happened) (length s.slots)
    pub lists_told : Adds E.start.vat.lists (map list_made s.happened) s.lists

  -- what a line uses, gives back and calls, was there in this state
  abbrev pub Then : Vat N → Happened N → Type 0
  Then s e = UsesThen K first s.happened s e × GivesThen K first s.happened s e × CallsThen K first s.happened s e × MakesOwn K first e

  well_then : (so : List (Happened N)) (e : Happened N) → WellThen K first so e → InTime K first so e
  well_then so (Settles p y) w = tt
  well_then so (Waits p q) w = tt
  well_then so (Views p q) w = tt
  well_then so (Lost m) w = tt
  well_then so (Posted u m) w = tt
  well_then so (ListCame n vs) w = tt
  well_then so _ w = w

  in_time : (s : Vat N) (e : Happened N) → Good s → Then s e → InTime K first s.happened e
  in_time s e g w = well_then s.happened e (s, record { lines = refl; lists = g.lists_told; objects = g.made }, w.0, w.1, w.2, w.3)

  timely_end : (so es : List (Happened N)) (e : Happened N) → AllInTime K first so es → InTime K first (so ++ es) e → AllInTime K first so (es ++ e ∷ [])
  timely_end so [] e k l = (subst (λ xs. InTime K first xs e) (sym (no_more so)) l, tt)
  timely_end so (x ∷ es) e k l = (k.0, timely_end (so ++ x ∷ []) es e k.1 (subst (λ xs. InTime K first xs e) (sym (joined so (x ∷ []) es)) l))

  timely_join : (so es more : List (Happened N)) → AllInTime K first so es → AllInTime K first (so ++ es) more → AllInTime K first so (es ++ more)
  timely_join so [] more k l = subst (λ xs. AllInTime K first xs more) (sym (no_more so)) l
  timely_join so (x ∷ es) more k l = (k.0, timely_join (so ++ x ∷ []) es more k.1 (subst (λ xs. AllInTime K first xs more) (sym (joined so (x ∷ []) es)) l))

  idle_timely : (so : List (Happened N)) (e : Happened N) → IsIdle e → InTime K first so e
  idle_timely so (Settles p y) k = tt
  idle_timely so (Waits p q) k = tt
  idle_timely so (Views p q) k = tt
  idle_timely so (Lost m) k = tt
  idle_timely so (Posted w m) k = tt
  idle_timely so (ListCame n vs) k = tt
  idle_timely so _ k = absurd k

  idles_timely : (so es : List (Happened N)) → AllOf IsIdle es → AllInTime K first so es
  idles_timely so [] k = tt
  idles_timely so (e ∷ es) k = (idle_timely so e k.0, idles_timely (so ++ e ∷ []) es k.1)

  -- what a line that is connected gives back
  gives_then : (s : Vat N) (e : Happened N) → ComesWell K (held s) s.happened e → GivesThen K first s.happened s e
  gives_then s (Back a v) w = w
  gives_then s _ w = tt

  longer_not : {A : Type 0} (x : A) (xs : List A) → x ∷ xs ≡ xs → ⊥
  longer_not x xs e = let n = ap length e in more (length xs) n
    where
      more : (n : ℕ) → suc n ≡ n → ⊥
      more n q = omega arith

  -- a line that begins no call
  calls_none : (s : Vat N) (e : Happened N) → open_after (opens s) e ≡ opens s → CallsThen K first s.happened s e
  unfolding open_after
  calls_none s (Called a x verb args b) q = absurd (longer_not _ (opens s) q)
  calls_none s _ q = tt

  -- a line that is connected and begins no call
  pub then_of : (s : Vat N) (e : Happened N) → MakesOwn K first e → open_after (opens s) e ≡ opens s → LineWell K (held s) s.happened e → Then s e
  then_of s e m q w = (w.0, gives_then s e w.1, calls_none s e q, m)

  pub then_line : (s : Vat N) (e : Happened N) → MakesOwn K first e → CallsThen K first s.happened s e → LineWell K (held s) s.happened e → Then s e
  then_line s e m c w = (w.0, gives_then s e w.1, c, m)

  -- no audition is made live, no object is made, and nothing is put in a slot
  pub record MakesNone (s t : Vat N) : Type 0 where
    pub auditions : (i : ℕ) (view : View N) → slice_get t.things i ≡ Some (Audition true view) → slice_get s.things i ≡ Some (Audition true view)
    pub objects : (i node : ℕ) (caught : List (Binding N)) (stamps : List (Value N)) → slice_get t.things i ≡ Some (Made node caught stamps) → slice_get s.things i ≡ Some (Made node caught stamps)
    pub resolvers : (i : ℕ) (p : N) → slice_get t.things i ≡ Some (Resolver p) → slice_get s.things i ≡ Some (Resolver p)
    pub cells : (k : ℕ) (c : Cell N) → slice_get t.slots k ≡ Some c → slice_get s.slots k ≡ Some c
    pub things : length t.things ≡ length s.things
    pub slots : length t.slots ≡ length s.slots

  pub makes_none : (s t : Vat N) → t.things ≡ s.things → t.slots ≡ s.slots → MakesNone s t
  makes_none s t e f = record {
    auditions = λ i view g. sym (ap (λ ts. slice_get ts i) e) ∙ g;
    objects = λ i node caught stamps g. sym (ap (λ ts. slice_get ts i) e) ∙ g;
    resolvers = λ i p g. sym (ap (λ ts. slice_get ts i) e) ∙ g;
    cells = λ k c g. sym (ap (λ cs. slice_get cs k) f) ∙ g;
    things = ap length e;
    slots = ap length f;
  }

  module _ (s t : Vat N) (g : Grows s t) where
    pub has_up : (a : ℕ) (i : Item N) → Has s a i → Has t a i
    has_up a i k = subst (λ so. Knows K (held t) so a i) (sym g.lines) (knows_more K (held t) s.happened g.more a i (knows_later K (held s) (held t) g.grown s.happened a i k))

    pub reaches_up : (x y : Value N) → Reaches K E.start.vat.known s.happened x y → Reaches K E.start.vat.known t.happened x y
    reaches_up x y k = subst (λ so. Reaches K E.start.vat.known so x y) (sym g.lines) (reaches_more K E.start.vat.known s.happened g.more x y k)

    pub thing_up : (x : Value N) (i : ℕ) → IsThing K E.start.vat.known s.happened x i → IsThing K E.start.vat.known t.happened x i
    thing_up x i k = (k.0, reaches_up x (Ref k.0) k.1, k.2)

    pub among_up : (e : Happened N) → IsAmong e s.happened → IsAmong e t.happened
    among_up e k = subst (λ so. IsAmong e so) (sym g.lines) (among_more e s.happened g.more k)

    pub resolver_up : (i : ℕ) (p : N) → IsResolver K E.start s.happened i p → IsResolver K E.start t.happened i p
    resolver_up i p k = subst (λ so. IsResolver K E.start so i p) (sym g.lines) (resolver_more K E.start s.happened g.more i p k)

    pub judges_up : (a i : ℕ) → Judges K (held s) s.happened a i → Judges K (held t) t.happened a i
    judges_up a i k = subst (λ so. Judges K (held t) so a i) (sym g.lines) (judges_more K (held t) s.happened g.more a i (judges_later K (held s) (held t) g.grown s.happened a i k))

    freedom_up : (a : ℕ) (f : Freedom N) → FreedomKnown s a f → FreedomKnown t a f
    freedom_up a (IsFinal v) k = has_up a (AGuard v) k
    freedom_up a other k = tt

    pub view_up : (a : ℕ) (view : View N) → ViewKnown s a view → ViewKnown t a view
    view_up a view k = all_map _ _ (λ f i. freedom_up a f.freedom i) view.free k

    pub judged_up : (i : ℕ) (view : View N) → Judged s i view → Judged t i view
    judged_up i view k = (k.0, judges_up k.0 i k.1, view_up k.0 view k.2)

    pub object_up : (i node : ℕ) (caught : List (Binding N)) (stamps : List (Value N)) → ObjectTold s i node caught stamps → ObjectTold t i node caught stamps
    object_up i node caught stamps (inl e) = inl e
    object_up i node caught stamps (inr k) = inr (k.0, k.1, among_up (ObjectMade k.0 (K.object i) k.1 (map (λ c. c.bound) caught) stamps) k.2)

    either_up : (b k : ℕ) (v : Value N) → IsAmong (SlotMade b k v) s.happened ⊎ IsAmong (SlotWrote b k v) s.happened → IsAmong (SlotMade b k v) t.happened ⊎ IsAmong (SlotWrote b k v) t.happened
    either_up b k v (inl i) = inl (among_up (SlotMade b k v) i)
    either_up b k v (inr i) = inr (among_up (SlotWrote b k v) i)

    pub put_up : (k : ℕ) (v : Value N) → PutTold s k v → PutTold t k v
    put_up k v (inl h) = inl h
    put_up k v (inr h) = inr (h.0, either_up h.0 k v h.1)

    pub cell_up : (k : ℕ) (c : Cell N) → CellTold s k c → CellTold t k c
    cell_up k c h = put_up k c.value h

    pub asked_of_up : (a : ℕ) (x : Value N) (verb : Words) (i : ℕ) → opens t ≡ opens s → AskedThen K (held s) s.happened a x verb i → AskedThen K (held t) t.happened a x verb i
    asked_of_up a x verb i e k = (k.0, k.1, k.2 ++ g.more, g.lines ∙ (ap (λ xs. xs ++ g.more) k.3 ∙ joined k.1 (Called a x verb k.0 None ∷ k.2) g.more), e ∙ k.4, k.5, k.6, k.7, k.8, k.9)

    pub given_up : (a : ℕ) (x : Value N) (verb : Words) (o : Option ℕ) (v : Value N) → opens t ≡ opens s → GivenBack K (held s) s.happened a x verb o v → GivenBack K (held t) t.happened a x verb o v
    given_up a x verb (Some b) v e k = has_up b (AValue v) k
    given_up a x verb None v e (inl k) = inl (has_up a (AValue v) k)
    given_up a x verb None v e (inr k) = inr (k.0, k.1, k.2, asked_of_up a x verb k.2 e k.3, judges_up k.1 k.2 k.4, has_up k.1 (AGuard v) k.5)

  same_grown : (h : Holdings N W) → laws.Grown h h
  same_grown h = record { objects = λ i node caught stamps e. e; lists = λ k vs e. e; guards = λ k c e. (c, e, refl); before = refl; given = refl }

  pub grows_same : (s : Vat N) → Grows s s
  grows_same s = record { more = []; lines = no_more s.happened; grown = same_grown (held s) }

  pub grows_line : (s : Vat N) (e : Happened N) → Grows s (with_line s e)
  grows_line s e = record { more = e ∷ []; lines = refl; grown = same_grown (held s) }

  grown_trans : (f g h : Holdings N W) → laws.Grown f g → laws.Grown g h → laws.Grown f h
  grown_trans f g h k l = record {
    objects = λ i node caught stamps e. l.objects i node caught stamps (k.objects i node caught stamps e);
    lists = λ i vs e. l.lists i vs (k.lists i vs e);
    guards = λ i c e. let d = k.guards i c e in let x = l.guards i d.0 d.1 in (x.0, x.1, d.2 ∙ x.2);
    before = k.before ∙ l.before;
    given = k.given ∙ l.given;
  }

  pub grows_trans : (s t u : Vat N) → Grows s t → Grows t u → Grows s u
  grows_trans s t u g k = record {
    more = g.more ++ k.more;
    lines = k.lines ∙ ap (λ es. es ++ k.more) g.lines ∙ joined s.happened g.more k.more;
    grown = grown_trans (held s) (held t) (held u) g.grown k.grown;
  }

  -- a change of things, lists and slots
  pub grows_by : (s t : Vat N) → t.happened ≡ s.happened → laws.Grown (held s) (held t) → Grows s t
  grows_by s t e g = record { more = []; lines = e ∙ no_more s.happened; grown = g }

  -- one more line, and what is made with it
  pub good_block : (s t : Vat N) (e : Happened N) → t.happened ≡ s.happened ++ e ∷ [] → SameNames K E.start s t → IsCaused K E.start s.happened e → laws.Grown (held s) (held t) → LineWell K (held t) s.happened e → ReadTold E.slots s.happened e → Then s e
      → ((i : ℕ) (view : View N) → slice_get t.things i ≡ Some (Audition true view) → (slice_get s.things i ≡ Some (Audition true view)) ⊎ Judged t i view)
      → ((i : ℕ) (p : N) → slice_get t.things i ≡ Some (Resolver p) → (slice_get s.things i ≡ Some (Resolver p)) ⊎ IsResolver K E.start t.happened i p)
      → ((i node : ℕ) (caught : List (Binding N)) (stamps : List (Value N)) → slice_get t.things i ≡ Some (Made node caught stamps) → (slice_get s.things i ≡ Some (Made node caught stamps)) ⊎ ObjectTold t i node caught stamps)
      → ((k : ℕ) (c : Cell N) → slice_get t.slots k ≡ Some c → (slice_get s.slots k ≡ Some c) ⊎ CellTold t k c)
      → (Rises (length E.things) (map (thing_made K) s.happened) (length s.things) → Rises (length E.things) (map (thing_made K) (s.happened ++ e ∷ [])) (length t.things))
      → (Rises (length E.slots) (map slot_made s.happened) (length s.slots) → Rises (length E.slots) (map slot_made (s.happened ++ e ∷ [])) (length t.slots))
      → (Adds E.start.vat.lists (map list_made s.happened) s.lists → Adds E.start.vat.lists (map list_made (s.happened ++ e ∷ [])) t.lists) → Good s → Good t
  good_block s t e f n r g l rd tw au re ob ce tr sr lr h = let grows : Grows s t = record { more = e ∷ []; lines = f; grown = g } in record {
    causes = causes_block K E.start s t e f n r (subst (λ es. Adds E.start.vat.lists (map list_made es) t.lists) (sym f) (lr h.lists_told)) h.causes;
    lines = subst (λ es. Connected K (held t) es) (sym f) (connected_end K (held t) [] s.happened e (connected_later K (held s) (held t) g refl [] s.happened h.lines) l);
    timely = subst (λ es. AllInTime K first [] es) (sym f) (timely_end [] s.happened e h.timely (in_time s e h tw));
    resolvers = λ i p k. by_resolver grows i p (re i p k);
    judged = λ i view k. by_audition grows i view (au i view k);
    made = λ i node caught stamps k. by_object grows i node caught stamps (ob i node caught stamps k);
    cells = λ i c k. by_cell grows i c (ce i c k);
    reads = subst (λ es. ReadsTold E.slots [] es) (sym f) (reads_end E.slots [] s.happened e h.reads rd);
    things_rise = subst (λ es. Rises (length E.things) (map (thing_made K) es) (length t.things)) (sym f) (tr h.things_rise);
    slots_rise = subst (λ es. Rises (length E.slots) (map slot_made es) (length t.slots)) (sym f) (sr h.slots_rise);
    lists_told = subst (λ es. Adds E.start.vat.lists (map list_made es) t.lists) (sym f) (lr h.lists_told);
  }
    where
      by_audition : Grows s t → (i : ℕ) (view : View N) → (slice_get s.things i ≡ Some (Audition true view)) ⊎ Judged t i view → Judged t i view
      by_audition w i view (inl k) = judged_up s t w i view (h.judged i view k)
      by_audition w i view (inr k) = k

      by_resolver : Grows s t → (i : ℕ) (p : N) → (slice_get s.things i ≡ Some (Resolver p)) ⊎ IsResolver K E.start t.happened i p → IsResolver K E.start t.happened i p
      by_resolver w i p (inl k) = resolver_up s t w i p (h.resolvers i p k)
      by_resolver w i p (inr k) = k

      by_object : Grows s t → (i node : ℕ) (caught : List (Binding N)) (stamps : List (Value N)) → (slice_get s.things i ≡ Some (Made node caught stamps)) ⊎ ObjectTold t i node caught stamps → ObjectTold t i node caught stamps
      by_object w i node caught stamps (inl k) = object_up s t w i node caught stamps (h.made i node caught stamps k)
      by_object w i node caught stamps (inr k) = k

      by_cell : Grows s t → (k : ℕ) (c : Cell N) → (slice_get s.slots k ≡ Some c) ⊎ CellTold t k c → CellTold t k c
      by_cell w k c (inl n) = cell_up s t w k c (h.cells k c n)
      by_cell w k c (inr n) = n

  -- a line that is connected
  pub good_line : (s : Vat N) (e : Happened N) → thing_made K e ≡ None → slot_made e ≡ None → list_made e ≡ None → IsCaused K E.start s.happened e → Good s → LineWell K (held s) s.happened e → ReadTold E.slots s.happened e → MakesOwn K first e → CallsThen K first s.happened s e → Good (with_line s e)
  good_line s e nil none new r g l rd mk cw = good_block s (with_line s e) e refl (refl, refl, refl, refl, refl, refl) r (same_grown (held s)) l rd (then_line s e mk cw l) (λ i view k. inl k) (λ i p k. inl k) (λ i node caught stamps k. inl k) (λ i c k. inl k)
      (rises_line (thing_made K) (length E.things) (length s.things) s.happened e nil) (rises_line slot_made (length E.slots) (length s.slots) s.happened e none) (adds_line list_made E.start.vat.lists s.lists s.happened e new) g

  -- a change that tells nothing, and makes none of these
  pub good_by : (s t : Vat N) → t.happened ≡ s.happened → SameNames K E.start s t → laws.Grown (held s) (held t) → MakesNone s t → t.lists ≡ s.lists → Good s → Good t
  good_by s t e f g m q k = let grows : Grows s t = grows_by s t e g in record {
    causes = causes_same K E.start s t e f (subst (λ es. Adds E.start.vat.lists (map list_made es) t.lists) (sym e) (subst (λ ls. Adds E.start.vat.lists (map list_made s.happened) ls) (sym q) k.lists_told)) k.causes;
    lines = subst (λ es. Connected K (held t) es) (sym e) (connected_later K (held s) (held t) g refl [] s.happened k.lines);
    timely = subst (λ es. AllInTime K first [] es) (sym e) k.timely;
    resolvers = λ i p j. resolver_up s t grows i p (k.resolvers i p (m.resolvers i p j));
    judged = λ i view j. judged_up s t grows i view (k.judged i view (m.auditions i view j));
    made = λ i node caught stamps j. object_up s t grows i node caught stamps (k.made i node caught stamps (m.objects i node caught stamps j));
    cells = λ i c j. cell_up s t grows i c (k.cells i c (m.cells i c j));
    reads = subst (λ es. ReadsTold E.slots [] es) (sym e) k.reads;
    things_rise = subst (λ es. Rises (length E.things) (map (thing_made K) es) (length t.things)) (sym e) (subst (λ n. Rises (length E.things) (map (thing_made K) s.happened) n) (sym m.things) k.things_rise);
    slots_rise = subst (λ es. Rises (length E.slots) (map slot_made es) (length t.slots)) (sym e) (subst (λ n. Rises (length E.slots) (map slot_made s.happened) n) (sym m.slots) k.slots_rise);
    lists_told = subst (λ es. Adds E.start.vat.lists (map list_made es) t.lists) (sym e) (subst (λ ls. Adds E.start.vat.lists (map list_made s.happened) ls) (sym q) k.lists_told);
  }

  idle_thing : (e : Happened N) → IsIdle e → thing_made K e ≡ None
  idle_thing (Settles p y) k = refl
  idle_thing (Waits p q) k = refl
  idle_thing (Views p q) k = refl
  idle_thing (Lost m) k = refl
  idle_thing (Posted w m) k = refl
  idle_thing (ListCame n vs) k = refl
  idle_thing other k = elim k [ ]

  idle_slot : (e : Happened N) → IsIdle e → slot_made e ≡ None
  idle_slot (Settles p y) k = refl
  idle_slot (Waits p q) k = refl
  idle_slot (Views p q) k = refl
  idle_slot (Lost m) k = refl
  idle_slot (Posted w m) k = refl
  idle_slot (ListCame n vs) k = refl
  idle_slot other k = elim k [ ]

  idles_grown : (s t : Vat N) → Idles s t → laws.Grown (held s) (held t)
  idles_grown s t i = record {
    objects = λ n node caught stamps e. ap (λ ts. slice_get ts n) i.things ∙ e;
    lists = i.lists;
    guards = λ n c e. (c, ap (λ cs. slice_get cs n) i.slots ∙ e, refl);
    before = refl;
    given = refl;
  }

  pub idles_grows : (s t : Vat N) → Idles s t → Grows s t
  idles_grows s t i = record { more = i.more; lines = i.lines; grown = idles_grown s t i }

  pub idles_good : (s t : Vat N) → Idles s t → Causes K E.start t → Good s → Good t
  idles_good s t i r g = record {
    causes = r;
    lines = subst (λ es. Connected K (held t) es) (sym i.lines) (connected_join K (held t) [] s.happened i.more (connected_later K (held s) (held t) (idles_grown s t i) refl [] s.happened g.lines)
        (idles_connected K (held t) s.happened i.more i.idle (caused_rest K E.start [] s.happened i.more (subst (λ es. CausedAfter K E.start [] es) i.lines r.lines))));
    timely = subst (λ es. AllInTime K first [] es) (sym i.lines) (timely_join [] s.happened i.more g.timely (idles_timely s.happened i.more i.idle));
    resolvers = λ n p e. resolver_up s t (idles_grows s t i) n p (g.resolvers n p ((makes_none s t i.things i.slots).resolvers n p e));
    judged = λ n view e. judged_up s t (idles_grows s t i) n view (g.judged n view ((makes_none s t i.things i.slots).auditions n view e));
    made = λ n node caught stamps e. object_up s t (idles_grows s t i) n node caught stamps (g.made n node caught stamps ((makes_none s t i.things i.slots).objects n node caught stamps e));
    cells = λ n c e. cell_up s t (idles_grows s t i) n c (g.cells n c ((makes_none s t i.things i.slots).cells n c e));
    reads = subst (λ es. ReadsTold E.slots [] es) (sym i.lines) (reads_join E.slots [] s.happened i.more g.reads (idles_read E.slots s.happened i.more i.idle));
    things_rise = subst (λ es. Rises (length E.things) (map (thing_made K) es) (length t.things)) (sym i.lines) (rises_idle (thing_made K) idle_thing (length E.things) (length t.things) s.happened i.more i.idle (subst (λ n. Rises (length E.things) (map (thing_made K) s.happened) n) (sym (ap length i.things)) g.things_rise));
    slots_rise = subst (λ es. Rises (length E.slots) (map slot_made es) (length t.slots)) (sym i.lines) (rises_idle slot_made idle_slot (length E.slots) (length t.slots) s.happened i.more i.idle (subst (λ n. Rises (length E.slots) (map slot_made s.happened) n) (sym (ap length i.slots)) g.slots_rise));
    lists_told = i.lists_told E.start.vat.lists g.lists_told;
  }
