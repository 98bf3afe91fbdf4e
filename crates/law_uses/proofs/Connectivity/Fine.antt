-- What an activation does from a connected history, under facts on what it knows, ends in a connected history with facts on what it gives.
use Rattle.std.proofs.Common.{◌≡◌, ℕ, zero, suc, ◌-◌, ◌⊎◌, inl, inr, Bool, true, false, List, [], ◌∷◌, ◌++◌, Option, Some, None, if◌then◌else◌, refl, sym, ap, ◌∙◌, subst, length, map}
use Rattle.std.specs.Prelude.{slice_get, nat_le, codes}
use Rattle.def_machine.specs.Values.{Words, Value, Null, Items, Naming}
use Rattle.def_machine.specs.State.{Bound, Fixed, Slot, Binding, Scope, Cell, View, Thing, Made, Ejector, Audition, Resolver, Happened, Called, SlotMade, SlotRead, SlotWrote, ListMade, EjectorMade, Vat, Stop, Done, Gives, Throws, Ejects, Stops, Act, ◌>>=◌, ◌>>◌, and_then, for_some, end_by, ending, give, throw, stop, eject, look, tell, spend, spent, new_thing, kill, change, dead, new_slot, holding, write_slot, new_list}
use Rattle.def_machine.specs.Refs.{Place}
use Rattle.def_machine.specs.Free.{same_words}
use Rattle.def_machine.specs.Native.{Reply, Says, Lists as Listed, Iterates, Asked, MakesList, Loops, SendsTo, CallsTo, Breaks, Tells, Whens, Coerces, AddsNull}
use Rattle.def_machine.specs.Scopes.{Answer, Answers, AuditionAsk, GetsGuard, Asks, ResolverAsk, Resolves, Smashes, NoResolverAsk}
use Rattle.law_machine.proofs.Machine.StepLaws.{get_append}
use Rattle.law_uses.specs.Connectivity.Known.{Item, AValue, AGuard, ASlot, IsAmong, AllOf, IsThing, Knows, told as told_by, tells, by, values}
use Rattle.law_machine.specs.Natives.Natives.{ReplyHas, AskedHas}
use Rattle.law_uses.specs.Connectivity.Connected.{served, open_after, Judges, AskedThen, GivenBack, LineWell, callee, uses, itself}
use Rattle.law_uses.specs.Connectivity.ConnectedLaws as laws
use Rattle.law_uses.proofs.Connectivity.Traces.{among_last}
use Rattle.law_uses.specs.Connectivity.Settlings.{IsCaused, IsResolver, IsHanded, IsGiven, SettlesWell, Follows}
use Rattle.law_uses.proofs.Connectivity.Causes.{Causes, Ends as CausesEnds, Any, Steady, handed_more, follows_more, given_more, settles_more}
use Rattle.law_uses.proofs.Connectivity.RefsCauses.{IsAt as PlacedAt}
use Rattle.law_uses.specs.Connectivity.Activations.{Rises}
use Rattle.law_uses.specs.Connectivity.Told.{ReadTold}
use Rattle.law_uses.specs.Connectivity.InTime.{MakesOwn}
use Rattle.law_uses.specs.Connectivity.News.{thing_made, slot_made, list_made}
use Rattle.law_uses.proofs.Connectivity.Rising.{rises_line, rises_new, length_end}
use Rattle.law_uses.proofs.Connectivity.Adding.{adds_line, adds_new}
use Rattle.law_uses.proofs.Connectivity.Idle.{Idle, IdleEnds}
use Rattle.law_uses.proofs.Connectivity.Ground.{Ground, all_map, opens, with_line, opens_last, idles_opens, held, first, Has, Knew, ViewKnown, Judged, Grows, Good, has_up, resolver_up, thing_up, among_up, judges_up, view_up, judged_up, asked_of_up, given_up, grows_same, grows_line, grows_trans, grows_by, PutTold, put_up, CellTold, makes_none, good_block, good_line, then_of, good_by, idles_grows, idles_good}

abbrev pub MayBe : {A : Type 0} → (A → Type 0) → Option A → Type 0
MayBe P (Some x) = P x
MayBe P None = Unit {0}

-- what may be known of what an activation has in hand
pub data Fact (N : Type 0) : Type 0 where
  Nothing : Fact N
  Also : Fact N → Fact N → Fact N
  -- the activation is that
  IsAct : ℕ → Fact N
  IsValue : Value N → Fact N
  -- it is known as a guard
  IsGuard : Value N → Fact N
  -- it may be called so
  IsCallee : Value N → Words → List (Value N) → Fact N
  AreValues : List (Value N) → Fact N
  AreLists : List (List (Value N)) → Fact N
  IsSlot : ℕ → Fact N
  IsBound : Bound N → Fact N
  -- its own environment, in which it evaluates
  IsScope : Scope N → Fact N
  MayValue : Option (Value N) → Fact N
  MayBound : Option (Bound N) → Fact N
  MayCell : ℕ → Option (Cell N) → Fact N
  -- that was put in that slot
  WasPut : ℕ → Value N → Fact N
  -- the first is followed to the second
  Leads : Value N → Value N → Fact N
  IsReply : Reply N → Fact N
  IsAsked : Asked N → Fact N
  -- what is asked of an audition under that verb
  IsAuditionAsk : Words → AuditionAsk N → Fact N
  -- it made that ejector
  MadeEjector : ℕ → Fact N
  -- what was handed to an ejector
  WasHanded : ℕ → Value N → Fact N
  MayHand : ℕ → Option (Value N) → Fact N
  -- the innermost open call is of that receiver, verb and arguments, and began no activation
  WasCalled : Value N → Words → List (Value N) → Fact N
  -- a value is followed to what bears that number
  IsAt : Value N → ℕ → Fact N
  -- before the innermost open call, of that receiver and verb, the receiver was followed to an audition of that number
  AskedOf : Value N → Words → ℕ → Fact N
  -- what an audition with that view may be made for
  IsJudging : View N → Fact N
  IsJudged : ℕ → View N → Fact N
  -- what a receiver that begins no activation may give back under that verb
  MayGive : Value N → Words → Value N → Fact N
  MayThing : ℕ → Option (Thing N) → Fact N
  -- where a followed value is
  IsPlaced : Value N → Place N → Fact N
  -- a line was told
  IsLine : Happened N → Fact N
  -- what bears that number is the resolver of that promise, and what it was handed
  ResolverOf : ℕ → N → Fact N
  HandedTo : ℕ → Words → Value N → Fact N
  MayAsk : ℕ → ResolverAsk N → Fact N
  -- a name is given that value, and may settle to it
  GivenTo : N → Value N → Fact N
  MaySettle : N → Value N → Fact N

-- what each kind of outcome is known to be
abbrev pub answer : {N : Type 0} → Answer N → Fact N
answer x = Also (IsValue x.value) (IsScope x.scope)

abbrev pub answers : {N : Type 0} → Answers N → Fact N
answers x = Also (AreValues x.values) (IsScope x.scope)

abbrev pub nothing : {N A : Type 0} → A → Fact N
nothing a = Nothing

pub get_end : {A : Type 0} (xs : List A) (x : A) → slice_get (xs ++ x ∷ []) (length xs) ≡ Some x
get_end [] x = refl
get_end (y ∷ xs) x = get_end xs x

no_some : {A : Type 0} (x : A) → None ≡ Some x → ⊥
no_some x e = cc

some_is : {A : Type 0} (x y : A) → Some x ≡ Some y → x ≡ y
some_is x y e = cc

-- a member of a list with one more is a member, or the last
pub get_or_last : {A : Type 0} (xs : List A) (x y : A) (i : ℕ) → slice_get (xs ++ x ∷ []) i ≡ Some y → (slice_get xs i ≡ Some y) ⊎ ((i ≡ length xs) × (x ≡ y))
get_or_last [] x y zero e = inr (refl, some_is x y e)
get_or_last [] x y (suc i) e = absurd (no_some y e)
get_or_last (z ∷ xs) x y zero e = inl e
get_or_last (z ∷ xs) x y (suc i) e = next (get_or_last xs x y i e)
  where
    next : (slice_get xs i ≡ Some y) ⊎ ((i ≡ length xs) × (x ≡ y)) → (slice_get xs i ≡ Some y) ⊎ ((suc i ≡ suc (length xs)) × (x ≡ y))
    next (inl f) = inl f
    next (inr f) = inr (ap suc f.0, f.1)

dead_objects : {N : Type 0} (ts : List (Thing N)) (k i : ℕ) (node : ℕ) (caught : List (Binding N)) (stamps : List (Value N)) → slice_get ts i ≡ Some (Made node caught stamps) → slice_get (change dead k ts) i ≡ Some (Made node caught stamps)
unfolding change dead
dead_objects [] k i node caught stamps e = e
dead_objects (Made a b c ∷ ts) zero zero node caught stamps e = cc
dead_objects (t ∷ ts) zero (suc i) node caught stamps e = e
dead_objects (t ∷ ts) (suc k) zero node caught stamps e = e
dead_objects (t ∷ ts) (suc k) (suc i) node caught stamps e = dead_objects ts k i node caught stamps e
dead_objects other zero zero node caught stamps e = cc

dead_auditions : {N : Type 0} (ts : List (Thing N)) (k i : ℕ) (view : View N) → slice_get (change dead k ts) i ≡ Some (Audition true view) → slice_get ts i ≡ Some (Audition true view)
unfolding change dead
dead_auditions [] k i view e = e
dead_auditions (Made a b c ∷ ts) zero zero view e = cc
dead_auditions (t ∷ ts) zero (suc i) view e = e
dead_auditions (t ∷ ts) (suc k) zero view e = e
dead_auditions (t ∷ ts) (suc k) (suc i) view e = dead_auditions ts k i view e
dead_auditions other zero zero view e = cc

were_objects : {N : Type 0} (ts : List (Thing N)) (k i : ℕ) (node : ℕ) (caught : List (Binding N)) (stamps : List (Value N)) → slice_get (change dead k ts) i ≡ Some (Made node caught stamps) → slice_get ts i ≡ Some (Made node caught stamps)
unfolding change dead
were_objects [] k i node caught stamps e = e
were_objects (Made a b c ∷ ts) zero zero node caught stamps e = cc
were_objects (t ∷ ts) zero (suc i) node caught stamps e = e
were_objects (t ∷ ts) (suc k) zero node caught stamps e = e
were_objects (t ∷ ts) (suc k) (suc i) node caught stamps e = were_objects ts k i node caught stamps e
were_objects other zero zero node caught stamps e = cc

dead_length : {N : Type 0} (ts : List (Thing N)) (k : ℕ) → length (change dead k ts) ≡ length ts
unfolding change
dead_length [] k = refl
dead_length (t ∷ ts) zero = refl
dead_length (t ∷ ts) (suc k) = ap suc (dead_length ts k)

written_length : {N : Type 0} (cs : List (Cell N)) (k : ℕ) (v : Value N) → length (change (holding v) k cs) ≡ length cs
unfolding change
written_length [] k v = refl
written_length (c ∷ cs) zero v = refl
written_length (c ∷ cs) (suc k) v = ap suc (written_length cs k v)

-- a slot after a write has what it had, or what was written to it
written_cells : {N : Type 0} (cs : List (Cell N)) (n k : ℕ) (v : Value N) (c : Cell N) → slice_get (change (holding v) n cs) k ≡ Some c → (slice_get cs k ≡ Some c) ⊎ ((n ≡ k) × (v ≡ c.value))
unfolding change holding
written_cells [] n k v c e = inl e
written_cells (x ∷ cs) zero zero v c e = inr (refl, ap (λ (y : Cell _). y.value) (some_is (record x { value = v }) c e))
written_cells (x ∷ cs) zero (suc k) v c e = inl e
written_cells (x ∷ cs) (suc n) zero v c e = inl e
written_cells (x ∷ cs) (suc n) (suc k) v c e = next (written_cells cs n k v c e)
  where
    next : (slice_get cs k ≡ Some c) ⊎ ((n ≡ k) × (v ≡ c.value)) → (slice_get cs k ≡ Some c) ⊎ ((suc n ≡ suc k) × (v ≡ c.value))
    next (inl f) = inl f
    next (inr f) = inr (ap suc f.0, f.1)

-- writing to a slot leaves its guard
written_guards : {N : Type 0} (cs : List (Cell N)) (n k : ℕ) (v : Value N) (c : Cell N) → slice_get cs k ≡ Some c → (d : Cell N) × (slice_get (change (holding v) n cs) k ≡ Some d) × (c.guard ≡ d.guard)
unfolding change holding
written_guards [] n k v c e = absurd (no_some c e)
written_guards (x ∷ cs) zero zero v c e = (record x { value = v }, refl, sym (ap (λ (y : Cell _). y.guard) (some_is x c e)))
written_guards (x ∷ cs) zero (suc k) v c e = (c, e, refl)
written_guards (x ∷ cs) (suc n) zero v c e = (c, e, refl)
written_guards (x ∷ cs) (suc n) (suc k) v c e = written_guards cs n k v c e

module _ {N W : Type 0} (K : Naming N W) (E : Ground N W) (a : ℕ) where
  abbrev pub BoundKnown : Vat N → Bound N → Type 0
  BoundKnown s (Fixed v g) = Knew K E s a v × Has K E s a (AGuard g)
  BoundKnown s (Slot k) = Has K E s a (ASlot k)

  abbrev pub NounKnown : Vat N → Binding N → Type 0
  NounKnown s b = BoundKnown s b.bound

  abbrev pub AskedKnown : Vat N → Asked N → Type 0
  AskedKnown s q = AskedHas (Knew K E s a) q

  abbrev pub AuditionAskKnown : Vat N → Words → AuditionAsk N → Type 0
  AuditionAskKnown s verb (GetsGuard x) = same_words (codes "getGuard") verb ≡ true
  AuditionAskKnown s verb (Asks x) = Knew K E s a x
  AuditionAskKnown s verb other = Unit {0}

  abbrev pub Handed : Vat N → ℕ → Value N → Type 0
  Handed s n v = (b : ℕ) × (x : Value N) × (verb : Words) × (args : List (Value N)) × IsAmong (Called b x verb args None) s.happened × IsThing K E.start.vat.known s.happened x n × IsAmong v (Null ∷ args)

  abbrev pub Serving : Vat N → Value N → Words → List (Value N) → Type 0
  Serving s x verb args = (b : ℕ) × IsAmong (Called b x verb args None) s.happened × (served (opens s) ≡ Some x)

  abbrev pub Judging : Vat N → View N → Type 0
  Judging s view = ((served (opens s) ≡ None) × ViewKnown K E s a view) ⊎ ((x : Value N) × (j b : ℕ) × (served (opens s) ≡ Some x) × IsThing K E.start.vat.known s.happened x j × Judges K (held K E s) s.happened b j × ViewKnown K E s b view)

  -- the captures of an object are there, and what a live audition tells is known to who judges
  abbrev pub ThingThere : Vat N → ℕ → Thing N → Type 0
  ThingThere s i (Made node caught stamps) = slice_get s.things i ≡ Some (Made node caught stamps)
  ThingThere s i (Audition true view) = Judged K E s i view
  ThingThere s i (Resolver p) = IsResolver K E.start s.happened i p
  ThingThere s i other = Unit {0}

  abbrev pub AskHas : Vat N → ℕ → ResolverAsk N → Type 0
  AskHas s i (Resolves v) = IsHanded K E.start s.happened i (codes "resolve") v
  AskHas s i (Smashes v) = IsHanded K E.start s.happened i (codes "smash") v
  AskHas s i NoResolverAsk = Unit {0}

  abbrev pub Holds : Vat N → Fact N → Type 0
  Holds s Nothing = Unit {0}
  Holds s (Also A B) = Holds s A × Holds s B
  Holds s (IsAct b) = b ≡ a
  Holds s (IsValue v) = Knew K E s a v
  Holds s (IsGuard v) = Has K E s a (AGuard v)
  Holds s (IsCallee x verb args) = Has K E s a (callee x verb args)
  Holds s (AreValues vs) = AllOf (Knew K E s a) vs
  Holds s (AreLists vss) = AllOf (AllOf (Knew K E s a)) vss
  Holds s (IsSlot k) = Has K E s a (ASlot k)
  Holds s (IsBound b) = BoundKnown s b
  Holds s (IsScope here) = (here.act ≡ a) × AllOf (NounKnown s) here.nouns × (served (opens s) ≡ None)
  Holds s (MayValue o) = MayBe (Knew K E s a) o
  Holds s (MayBound o) = MayBe (BoundKnown s) o
  Holds s (MayCell k o) = MayBe (λ c. Has K E s a (AGuard c.guard) × PutTold K E s k c.value) o
  Holds s (WasPut k v) = PutTold K E s k v
  Holds s (Leads x y) = Follows K E.start s.happened x y
  Holds s (IsReply r) = ReplyHas (Knew K E s a) r
  Holds s (IsAsked q) = AskedKnown s q
  Holds s (IsAuditionAsk verb q) = AuditionAskKnown s verb q
  Holds s (MadeEjector j) = IsAmong (EjectorMade a (K.object j)) s.happened
  Holds s (WasHanded n v) = Handed s n v
  Holds s (MayHand n o) = MayBe (Handed s n) o
  Holds s (WasCalled x verb args) = Serving s x verb args
  Holds s (IsAt x i) = IsThing K E.start.vat.known s.happened x i
  Holds s (AskedOf x verb i) = AskedThen K (held K E s) s.happened a x verb i
  Holds s (IsJudging view) = Judging s view
  Holds s (IsJudged i view) = Judged K E s i view
  Holds s (MayGive x verb v) = GivenBack K (held K E s) s.happened a x verb None v
  Holds s (MayThing i o) = MayBe (ThingThere s i) o
  Holds s (IsPlaced y p) = PlacedAt K E.start y p
  Holds s (IsLine e) = IsAmong e s.happened
  Holds s (ResolverOf i p) = IsResolver K E.start s.happened i p
  Holds s (HandedTo i name v) = IsHanded K E.start s.happened i name v
  Holds s (MayAsk i q) = AskHas s i q
  Holds s (GivenTo p x) = IsGiven K E.start s.happened p x
  Holds s (MaySettle p y) = SettlesWell K E.start s.happened p y

  -- what follows from a fact
  pub record Gets (C F : Fact N) : Type 0 where
    pub at : (s : Vat N) → Holds s C → Holds s F

  -- what keeps a fact: of some, that the same calls are open
  abbrev pub Keeps : Vat N → Vat N → Fact N → Type 0
  Keeps s t (Also A B) = Keeps s t A × Keeps s t B
  Keeps s t (IsScope here) = opens t ≡ opens s
  Keeps s t (WasCalled x verb args) = opens t ≡ opens s
  Keeps s t (AskedOf x verb i) = opens t ≡ opens s
  Keeps s t (IsJudging view) = opens t ≡ opens s
  Keeps s t (MayGive x verb v) = opens t ≡ opens s
  Keeps s t _ = Unit {0}

  abbrev pub Passes : Vat N → Vat N → Type 0
  Passes s t = Grows K E s t × (opens t ≡ opens s)

  -- how it ends
  abbrev pub Ends : {A : Type 0} → (A → Fact N) → Vat N → Done N A → Type 0
  Ends G s (Gives x t) = Passes s t × Good K E t × Holds t (G x)
  Ends G s (Throws p t) = Passes s t × Good K E t
  Ends G s (Ejects n v t) = Passes s t × Good K E t × Handed t n v
  Ends G s (Stops c t) = Good K E t

  pub record Fine {A : Type 0} (C : Fact N) (m : Act N A) (G : A → Fact N) : Type 0 where
    pub after : (s : Vat N) → Good K E s → Holds s C → Ends G s (m s)

  -- ---- facts stay

  may_up : {A : Type 0} (P Q : A → Type 0) → ((x : A) → P x → Q x) → (o : Option A) → MayBe P o → MayBe Q o
  may_up P Q f (Some x) h = f x h
  may_up P Q f None h = tt

  module _ (s t : Vat N) (g : Grows K E s t) where
    knew_up : (v : Value N) → Knew K E s a v → Knew K E t a v
    knew_up v h = has_up K E s t g a (AValue v) h

    bound_up : (b : Bound N) → BoundKnown s b → BoundKnown t b
    bound_up (Fixed v k) h = (knew_up v h.0, has_up K E s t g a (AGuard k) h.1)
    bound_up (Slot k) h = has_up K E s t g a (ASlot k) h

    reply_up : (r : Reply N) → ReplyHas (Knew K E s a) r → ReplyHas (Knew K E t a) r
    reply_up (Says v) h = knew_up v h
    reply_up (Listed vs) h = all_map _ _ knew_up vs h
    reply_up (Iterates o vs) h = (knew_up o h.0, all_map _ _ knew_up vs h.1)
    reply_up other h = tt

    asked_up : (q : Asked N) → AskedKnown s q → AskedKnown t q
    asked_up (MakesList vs) h = all_map _ _ knew_up vs h
    asked_up (Loops o) h = knew_up o h
    asked_up (SendsTo only x v l) h = (knew_up x h.0, knew_up v h.1, knew_up l h.2)
    asked_up (CallsTo x v l) h = (knew_up x h.0, knew_up v h.1, knew_up l h.2)
    asked_up (Breaks x) h = knew_up x h
    asked_up (Tells c x) h = knew_up x h
    asked_up (Whens x o) h = (knew_up x h.0, knew_up o h.1)
    asked_up (Coerces k x j) h = (knew_up x h.0, knew_up j h.1)
    asked_up (AddsNull x) h = knew_up x h
    asked_up other h = tt

    ask_up : (verb : Words) (q : AuditionAsk N) → AuditionAskKnown s verb q → AuditionAskKnown t verb q
    ask_up verb (GetsGuard x) h = h
    ask_up verb (Asks x) h = knew_up x h
    ask_up verb other h = tt

    pub handed_up : (n : ℕ) (v : Value N) → Handed s n v → Handed t n v
    handed_up n v h = (h.0, h.1, h.2, h.3, among_up K E s t g (Called h.0 h.1 h.2 h.3 None) h.4, thing_up K E s t g h.1 n h.5, h.6)

    judging_up : (view : View N) → opens t ≡ opens s → Judging s view → Judging t view
    judging_up view e (inl h) = inl (ap served e ∙ h.0, view_up K E s t g a view h.1)
    judging_up view e (inr h) = inr (h.0, h.1, h.2, ap served e ∙ h.3, thing_up K E s t g h.0 h.1 h.4, judges_up K E s t g h.2 h.1 h.5, view_up K E s t g h.2 view h.6)

    there_up : (i : ℕ) (x : Thing N) → ThingThere s i x → ThingThere t i x
    there_up i (Made node caught stamps) h = g.grown.objects i node caught stamps h
    there_up i (Audition true view) h = judged_up K E s t g i view h
    there_up i (Resolver p) h = resolver_up K E s t g i p h
    there_up i other h = tt

    told_up : (F : List (Happened N) → Type 0) → ((so more : List (Happened N)) → F so → F (so ++ more)) → F s.happened → F t.happened
    told_up F f h = subst F (sym g.lines) (f s.happened g.more h)

    handed_to_up : (i : ℕ) (name : Words) (v : Value N) → IsHanded K E.start s.happened i name v → IsHanded K E.start t.happened i name v
    handed_to_up i name v h = told_up (λ so. IsHanded K E.start so i name v) (λ so more k. handed_more K E.start so more i name v k) h

    ask_has_up : (i : ℕ) (q : ResolverAsk N) → AskHas s i q → AskHas t i q
    ask_has_up i (Resolves v) h = handed_to_up i (codes "resolve") v h
    ask_has_up i (Smashes v) h = handed_to_up i (codes "smash") v h
    ask_has_up i NoResolverAsk h = tt

    leads_up : (x y : Value N) → Follows K E.start s.happened x y → Follows K E.start t.happened x y
    leads_up x y h = told_up (λ so. Follows K E.start so x y) (λ so more k. follows_more K E.start so more x y k) h

    pub holds_up : (F : Fact N) → Keeps s t F → Holds s F → Holds t F
    holds_up Nothing e h = tt
    holds_up (Also A B) e h = (holds_up A e.0 h.0, holds_up B e.1 h.1)
    holds_up (IsValue v) e h = knew_up v h
    holds_up (IsGuard v) e h = has_up K E s t g a (AGuard v) h
    holds_up (IsCallee x verb args) e h = has_up K E s t g a (callee x verb args) h
    holds_up (AreValues vs) e h = all_map _ _ knew_up vs h
    holds_up (AreLists vss) e h = all_map _ _ (λ vs k. all_map _ _ knew_up vs k) vss h
    holds_up (IsSlot k) e h = has_up K E s t g a (ASlot k) h
    holds_up (IsBound b) e h = bound_up b h
    holds_up (IsScope here) e h = (h.0, all_map _ _ (λ b k. bound_up b.bound k) here.nouns h.1, ap served e ∙ h.2)
    holds_up (MayValue o) e h = may_up _ _ knew_up o h
    holds_up (MayBound o) e h = may_up _ _ bound_up o h
    holds_up (MayCell k o) e h = may_up _ _ (λ c m. (has_up K E s t g a (AGuard c.guard) m.0, put_up K E s t g k c.value m.1)) o h
    holds_up (WasPut k v) e h = put_up K E s t g k v h
    holds_up (Leads x y) e h = leads_up x y h
    holds_up (IsReply r) e h = reply_up r h
    holds_up (IsAsked q) e h = asked_up q h
    holds_up (IsAuditionAsk verb q) e h = ask_up verb q h
    holds_up (MadeEjector j) e h = among_up K E s t g (EjectorMade a (K.object j)) h
    holds_up (WasHanded n v) e h = handed_up n v h
    holds_up (MayHand n o) e h = may_up _ _ (handed_up n) o h
    holds_up (WasCalled x verb args) e h = (h.0, among_up K E s t g (Called h.0 x verb args None) h.1, ap served e ∙ h.2)
    holds_up (IsAt x i) e h = thing_up K E s t g x i h
    holds_up (AskedOf x verb i) e h = asked_of_up K E s t g a x verb i e h
    holds_up (IsJudging view) e h = judging_up view e h
    holds_up (IsJudged i view) e h = judged_up K E s t g i view h
    holds_up (MayGive x verb v) e h = given_up K E s t g a x verb None v e h
    holds_up (MayThing i o) e h = may_up _ _ (there_up i) o h
    holds_up (IsLine l) e h = among_up K E s t g l h
    holds_up (ResolverOf i p) e h = resolver_up K E s t g i p h
    holds_up (HandedTo i name v) e h = handed_to_up i name v h
    holds_up (MayAsk i q) e h = ask_has_up i q h
    holds_up (GivenTo p x) e h = told_up (λ so. IsGiven K E.start so p x) (λ so more k. given_more K E.start so more p x k) h
    holds_up (MaySettle p y) e h = told_up (λ so. SettlesWell K E.start so p y) (λ so more k. settles_more K E.start so more p y k) h
    holds_up other e h = h

  all_keep : (s t : Vat N) → opens t ≡ opens s → (F : Fact N) → Keeps s t F
  all_keep s t e (Also A B) = (all_keep s t e A, all_keep s t e B)
  all_keep s t e (IsScope here) = e
  all_keep s t e (WasCalled x verb args) = e
  all_keep s t e (AskedOf x verb i) = e
  all_keep s t e (IsJudging view) = e
  all_keep s t e (MayGive x verb v) = e
  all_keep s t e other = tt

  pub still_holds : (s t : Vat N) → Passes s t → (F : Fact N) → Holds s F → Holds t F
  still_holds s t p F h = holds_up s t p.0 F (all_keep s t p.1 F) h

  pub passes_same : (s : Vat N) → Passes s s
  passes_same s = (grows_same K E s, refl)

  pub passes_trans : (s t u : Vat N) → Passes s t → Passes t u → Passes s u
  passes_trans s t u p q = (grows_trans K E s t u p.0 q.0, q.1 ∙ p.1)

  -- ---- one thing after another

  pub widen : {A : Type 0} (G : A → Fact N) (s t : Vat N) (d : Done N A) → Passes s t → Ends G t d → Ends G s d
  widen G s t (Gives x u) g h = (passes_trans s t u g h.0, h.1, h.2)
  widen G s t (Throws p u) g h = (passes_trans s t u g h.0, h.1)
  widen G s t (Ejects n v u) g h = (passes_trans s t u g h.0, h.1, h.2)
  widen G s t (Stops c u) g h = h

  bind_ends : {A B : Type 0} (C : Fact N) (P : A → Fact N) (H : B → Fact N) (s : Vat N) (d : Done N A) (f : A → Act N B) → Holds s C → Ends P s d
      → ((x : A) → Fine (Also C (P x)) (f x) H) → Ends H s (and_then d f)
  unfolding and_then
  bind_ends C P H s (Gives x t) f c h k = widen H s t (f x t) h.0 ((k x).after t h.1 (still_holds s t h.0 C c, h.2))
  bind_ends C P H s other f c h k = h

  pub fine_bind : {A B : Type 0} {C : Fact N} {m : Act N A} {f : A → Act N B} {H : B → Fact N} (P : A → Fact N) → Fine C m P → ((x : A) → Fine (Also C (P x)) (f x) H) → Fine C (m >>= f) H
  unfolding ◌>>=◌
  fine_bind {C = C} {m = m} {f = f} {H = H} P h k = record { after = λ s g c. bind_ends C P H s (m s) f c (h.after s g c) k }

  less_ends : {A B : Type 0} (C : Fact N) (P : A → Fact N) (H : B → Fact N) (s : Vat N) (d : Done N A) (f : A → Act N B) → Holds s C → Ends P s d
      → ((x : A) → Fine C (f x) H) → Ends H s (and_then d f)
  unfolding and_then
  less_ends C P H s (Gives x t) f c h k = widen H s t (f x t) h.0 ((k x).after t h.1 (still_holds s t h.0 C c))
  less_ends C P H s other f c h k = h

  pub fine_less : {A B : Type 0} {C : Fact N} {m : Act N A} {f : A → Act N B} {H : B → Fact N} (P : A → Fact N) → Fine C m P → ((x : A) → Fine C (f x) H) → Fine C (m >>= f) H
  unfolding ◌>>=◌
  fine_less {C = C} {m = m} {f = f} {H = H} P h k = record { after = λ s g c. less_ends C P H s (m s) f c (h.after s g c) k }

  pub fine_then : {A B : Type 0} {C : Fact N} {m : Act N A} {n : Act N B} {H : B → Fact N} (P : A → Fact N) → Fine C m P → Fine C n H → Fine C (m >> n) H
  unfolding ◌>>◌
  fine_then {C = C} {m = m} {n = n} {H = H} P h k = record { after = λ s g c. less_ends C P H s (m s) (λ _. n) c (h.after s g c) (λ _. k) }

  end_ends : {A B : Type 0} (C : Fact N) (P : A → Fact N) (H : B → Fact N) (s : Vat N) (d : Done N A) (f : A → Act N B) (k : Words → Act N B) (l : ℕ → Value N → Act N B) → Holds s C → Ends P s d
      → ((x : A) → Fine (Also C (P x)) (f x) H) → ((p : Words) → Fine C (k p) H) → ((n : ℕ) (v : Value N) → Fine (Also C (WasHanded n v)) (l n v) H) → Ends H s (end_by f k l d)
  unfolding end_by
  end_ends C P H s (Gives x t) f k l c h i j m = widen H s t (f x t) h.0 ((i x).after t h.1 (still_holds s t h.0 C c, h.2))
  end_ends C P H s (Throws p t) f k l c h i j m = widen H s t (k p t) h.0 ((j p).after t h.1 (still_holds s t h.0 C c))
  end_ends C P H s (Ejects n v t) f k l c h i j m = widen H s t (l n v t) h.0 ((m n v).after t h.1 (still_holds s t h.0 C c, h.2))
  end_ends C P H s (Stops r t) f k l c h i j m = h

  pub fine_ending : {A B : Type 0} {C : Fact N} {m : Act N A} {f : A → Act N B} {k : Words → Act N B} {l : ℕ → Value N → Act N B} {H : B → Fact N} (P : A → Fact N) → Fine C m P
      → ((x : A) → Fine (Also C (P x)) (f x) H) → ((p : Words) → Fine C (k p) H) → ((n : ℕ) (v : Value N) → Fine (Also C (WasHanded n v)) (l n v) H) → Fine C (ending f k l m) H
  unfolding ending
  fine_ending {C = C} {m = m} {f = f} {k = k} {l = l} {H = H} P h x y z = record { after = λ s g c. end_ends C P H s (m s) f k l c (h.after s g c) x y z }

  pub fine_some : {B : Type 0} {C : Fact N} (o : Option (Value N)) {f : Value N → Act N B} {m : Act N B} {H : B → Fact N} → Gets C (MayValue o) → ((x : Value N) → Fine (Also C (IsValue x)) (f x) H) → Fine C m H → Fine C (for_some o f m) H
  unfolding for_some
  fine_some (Some x) g h k = record { after = λ s i c. (h x).after s i (c, g.at s c) }
  fine_some None g h k = k

  pub fine_some_name : {B : Type 0} {C : Fact N} (o : Option N) {f : N → Act N B} {m : Act N B} {H : B → Fact N} → ((x : N) → Fine C (f x) H) → Fine C m H → Fine C (for_some o f m) H
  unfolding for_some
  fine_some_name (Some x) h k = h x
  fine_some_name None h k = k

  pub fine_if : {A : Type 0} {C : Fact N} (b : Bool) {m n : Act N A} {H : A → Fact N} → Fine C m H → Fine C n H → Fine C (if b then m else n) H
  fine_if true h k = h
  fine_if false h k = k

  pub fine_give : {A : Type 0} {C : Fact N} (x : A) {H : A → Fact N} → Gets C (H x) → Fine C (give x) H
  unfolding give
  fine_give x g = record { after = λ s h c. (passes_same s, h, g.at s c) }

  pub fine_throw : {A : Type 0} {C : Fact N} (p : Words) {H : A → Fact N} → Fine C (throw {A = A} p) H
  unfolding throw
  fine_throw p = record { after = λ s h c. (passes_same s, h) }

  pub fine_eject : {A : Type 0} {C : Fact N} (n : ℕ) (v : Value N) {H : A → Fact N} → Gets C (WasHanded n v) → Fine C (eject {A = A} n v) H
  unfolding eject
  fine_eject n v g = record { after = λ s h c. (passes_same s, h, g.at s c) }

  pub fine_stop : {A : Type 0} {C : Fact N} (c : Stop) {H : A → Fact N} → Fine C (stop {A = A} c) H
  unfolding stop
  fine_stop r = record { after = λ s h c. h }

  more_ends : {A : Type 0} (P H : A → Fact N) (s : Vat N) (d : Done N A) → ((x : A) → Gets (P x) (H x)) → Ends P s d → Ends H s d
  more_ends P H s (Gives x t) g h = (h.0, h.1, (g x).at t h.2)
  more_ends P H s other g h = h

  pub fine_more : {A : Type 0} {C : Fact N} {m : Act N A} (P H : A → Fact N) → Fine C m P → ((x : A) → Gets (P x) (H x)) → Fine C m H
  fine_more {m = m} P H h g = record { after = λ s i c. more_ends P H s (m s) g (h.after s i c) }

  -- under a fact that follows
  pub fine_under : {A : Type 0} {C D : Fact N} {m : Act N A} {H : A → Fact N} → Gets C D → Fine D m H → Fine C m H
  fine_under g h = record { after = λ s i c. h.after s i (g.at s c) }

  pub fine_left : {A : Type 0} {C D : Fact N} {m : Act N A} {H : A → Fact N} → Fine C m H → Fine (Also C D) m H
  fine_left h = record { after = λ s i c. h.after s i c.0 }

  pub fine_look : {A : Type 0} {C : Fact N} (f : Vat N → A) → Fine C (look f) nothing
  unfolding look
  fine_look f = record { after = λ s h c. (passes_same s, h, tt) }

  -- a fact on what is looked at
  pub fine_sees : {A : Type 0} {C : Fact N} (f : Vat N → A) (H : A → Fact N) → ((s : Vat N) → Good K E s → Holds s C → Holds s (H (f s))) → Fine C (look f) H
  unfolding look
  fine_sees f H g = record { after = λ s h c. (passes_same s, h, g s h c) }

  -- what is done by the activation
  pub act_is : {B : Type 0} {C : Fact N} (act : ℕ) (m : ℕ → Act N B) {H : B → Fact N} → Gets C (IsAct act) → Fine C (m a) H → Fine C (m act) H
  act_is act m {H = H} i h = record { after = λ s g c. subst (λ b. Ends H s (m b s)) (sym (i.at s c)) (h.after s g c) }

  -- ---- lines

  -- a line that is connected and ends no call, with what it tells
  pub then_line : {B : Type 0} {C D : Fact N} (e : Happened N) {m : Act N B} {H : B → Fact N} → thing_made K e ≡ None → slot_made e ≡ None → list_made e ≡ None → ((so : List (Happened N)) → IsCaused K E.start so e) → MakesOwn K (first K E) e → ((s : Vat N) → open_after (opens s) e ≡ opens s) → ((s : Vat N) → Good K E s → Holds s C → LineWell K (held K E s) s.happened e)
      → ((s : Vat N) → Holds s C → ReadTold E.slots s.happened e) → ((s : Vat N) → Holds s C → Holds (with_line s e) D) → Fine (Also C D) m H → Fine C (tell e >> m) H
  unfolding tell ◌>>◌ and_then
  then_line {C = C} {D = D} e {m = m} {H = H} nil none new cz mk o l rd d h = record {
    after = λ s g c. let t : Vat N = with_line s e in let p : Passes s t = (grows_line K E s e, opens_last s e ∙ o s) in
        widen H s t (m t) p (h.after t (good_line K E s e nil none new (cz s.happened) g (l s g c) (rd s c) mk (then_of K E s e mk (o s) (l s g c)).2) (still_holds s t p C c, d s c));
  }

  pub uses_values : (s : Vat N) (Q : List (Item N)) (vs : List (Value N)) → AllOf (Knew K E s a) vs → AllOf (λ u. Knows K (held K E s) s.happened u.0 u.1 ⊎ IsAmong u.1 Q) (by a (values vs))
  unfolding by values
  uses_values s Q [] h = tt
  uses_values s Q (v ∷ vs) h = (inl h.0, uses_values s Q vs h.1)

  -- what a line tells the activation
  pub is_told : (s : Vat N) (e : Happened N) (i : Item N) → IsAmong (a, i) (tells e) → Has K E (with_line s e) a i
  is_told s e i m = told_by e (among_last s.happened e) m

  read_now : {B : Type 0} {C : Fact N} (k : ℕ) (v : Value N) {m : Act N B} {H : B → Fact N} → Gets C (IsSlot k) → Gets C (WasPut k v) → Fine (Also C (IsValue v)) m H → Fine C (tell (SlotRead a k v) >> m) H
  unfolding uses by tells open_after itself
  read_now k v g p h = then_line (SlotRead a k v) refl refl refl (λ so. tt) tt (λ s. refl) (λ s i c. ((inl (g.at s c), tt), tt)) (λ s c. p.at s c) (λ s c. is_told s (SlotRead a k v) (AValue v) (inl refl)) h

  pub then_read : {B : Type 0} {C : Fact N} (act : ℕ) (k : ℕ) (v : Value N) {m : Act N B} {H : B → Fact N} → Gets C (IsAct act) → Gets C (IsSlot k) → Gets C (WasPut k v) → Fine (Also C (IsValue v)) m H → Fine C (tell (SlotRead act k v) >> m) H
  then_read act k v {m = m} i g p h = act_is act (λ b. tell (SlotRead b k v) >> m) i (read_now k v g p h)

  -- ---- the single changes

  spend_ends : (s : Vat N) (n : ℕ) (b : Bool) → Good K E s → Ends nothing s (spent n b s)
  unfolding spent
  spend_ends s n true h = ((grows_by K E s (record s { fuel = s.fuel - n }) refl (grows_same K E s).grown, refl), good_by K E s (record s { fuel = s.fuel - n }) refl (refl, refl, refl, refl, refl, refl) (grows_same K E s).grown (makes_none K E s (record s { fuel = s.fuel - n }) refl refl) refl h, tt)
  spend_ends s n false h = h

  pub fine_spend : {C : Fact N} (n : ℕ) → Fine C (spend n) nothing
  unfolding spend
  fine_spend n = record { after = λ s h c. spend_ends s n (nat_le n s.fuel) h }

  -- what is no object and no audition
  abbrev pub IsInert : Thing N → Type 0
  IsInert (Ejector b) = Unit {0}
  IsInert (Resolver p) = Unit {0}
  IsInert other = ⊥

  grown_thing : (s : Vat N) (x : Thing N) → laws.Grown (held K E s) (held K E (record s { things = s.things ++ x ∷ [] }))
  grown_thing s x = record { objects = λ i node caught stamps e. get_append s.things (x ∷ []) i (Made node caught stamps) e; lists = λ k vs e. e; guards = λ k c e. (c, e, refl); before = refl; given = refl }

  pub grows_thing : (s : Vat N) (x : Thing N) → Grows K E s (record s { things = s.things ++ x ∷ [] })
  grows_thing s x = grows_by K E s (record s { things = s.things ++ x ∷ [] }) refl (grown_thing s x)

  no_audition : (x : Thing N) (view : View N) → IsInert x → x ≡ Audition true view → ⊥
  no_audition (Ejector b) view n e = cc
  no_audition (Resolver p) view n e = cc
  no_audition other view n e = elim n [ ]

  no_object : (x : Thing N) (node : ℕ) (caught : List (Binding N)) (stamps : List (Value N)) → IsInert x → x ≡ Made node caught stamps → ⊥
  no_object (Ejector b) node caught stamps n e = cc
  no_object (Resolver p) node caught stamps n e = cc
  no_object other node caught stamps n e = elim n [ ]

  pub old_thing : (ts : List (Thing N)) (x y : Thing N) (i : ℕ) → (x ≡ y → ⊥) → (slice_get ts i ≡ Some y) ⊎ ((i ≡ length ts) × (x ≡ y)) → slice_get ts i ≡ Some y
  old_thing ts x y i n (inl e) = e
  old_thing ts x y i n (inr e) = absurd (n e.1)

  -- a resolver was there, or is the one that is made
  new_resolver : (s : Vat N) (x : Thing N) (e : Happened N) → ((p : N) → x ≡ Resolver p → IsResolver K E.start (s.happened ++ e ∷ []) (length s.things) p) → (i : ℕ) (p : N) → (slice_get s.things i ≡ Some (Resolver p)) ⊎ ((i ≡ length s.things) × (x ≡ Resolver p))
      → (slice_get s.things i ≡ Some (Resolver p)) ⊎ IsResolver K E.start (s.happened ++ e ∷ []) i p
  new_resolver s x e f i p (inl q) = inl q
  new_resolver s x e f i p (inr q) = inr (subst (λ k. IsResolver K E.start (s.happened ++ e ∷ []) k p) (sym q.0) (f p q.1))

  -- a thing is made, and its line told
  pub thing_block : {B : Type 0} {C : Fact N} (x : Thing N) → IsInert x → (e : ℕ → Happened N) → ((n : ℕ) → thing_made K (e n) ≡ Some n) → ((n : ℕ) → slot_made (e n) ≡ None) → ((n : ℕ) → list_made (e n) ≡ None) → ((n : ℕ) → MakesOwn K (first K E) (e n)) → ((so : List (Happened N)) (n : ℕ) → ReadTold E.slots so (e n)) → ((so : List (Happened N)) (n : ℕ) → IsCaused K E.start so (e n)) → ((so : List (Happened N)) (n : ℕ) (p : N) → x ≡ Resolver p → IsResolver K E.start (so ++ e n ∷ []) n p) → (D : ℕ → Fact N) → {f : ℕ → Act N B} {H : B → Fact N}
      → ((s : Vat N) (n : ℕ) → open_after (opens s) (e n) ≡ opens s) → ((s : Vat N) (n : ℕ) → LineWell K (held K E s) s.happened (e n)) → ((s : Vat N) (n : ℕ) → Holds (with_line s (e n)) (D n))
      → ((n : ℕ) → Fine (Also C (D n)) (f n) H) → Fine C (new_thing x >>= (λ n. tell (e n) >> f n)) H
  unfolding new_thing ◌>>=◌ tell ◌>>◌ and_then
  thing_block {C = C} x inert e some none new mk rd cz rt D {f = f} {H = H} o l d h = record {
    after = λ s g c. let n = length s.things in let u : Vat N = record s { things = s.things ++ x ∷ [] } in let t : Vat N = with_line u (e n) in
        let r : Grows K E s t = grows_trans K E s u t (grows_thing s x) (grows_line K E u (e n)) in
        let p : Passes s t = (r, opens_last u (e n) ∙ o u n) in
        let good : Good K E t = good_block K E s t (e n) refl (refl, refl, refl, refl, refl, refl) (cz s.happened n) (grown_thing s x) (l u n) (rd s.happened n) (then_of K E s (e n) (mk n) (o s n) (l s n))
        (λ i view q. inl (old_thing s.things x (Audition true view) i (no_audition x view inert) (get_or_last s.things x (Audition true view) i q)))
        (λ i p q. new_resolver s x (e n) (rt s.happened n) i p (get_or_last s.things x (Resolver p) i q))
        (λ i node caught stamps q. inl (old_thing s.things x (Made node caught stamps) i (no_object x node caught stamps inert) (get_or_last s.things x (Made node caught stamps) i q)))
        (λ i y q. inl q)
        (λ q. subst (λ m. Rises (length E.things) (map (thing_made K) (s.happened ++ e n ∷ [])) m) (sym (length_end s.things x)) (rises_new (thing_made K) (length E.things) n s.happened (e n) (some n) q))
        (rises_line slot_made (length E.slots) (length s.slots) s.happened (e n) (none n)) (adds_line list_made E.start.vat.lists s.lists s.happened (e n) (new n)) g in
        widen H s t (f n t) p ((h n).after t good (still_holds s t p C c, d u n));
  }

  dead_resolvers : (ts : List (Thing N)) (k i : ℕ) (p : N) → slice_get (change dead k ts) i ≡ Some (Resolver p) → slice_get ts i ≡ Some (Resolver p)
  unfolding change dead
  dead_resolvers [] k i p e = e
  dead_resolvers (Made m c ys ∷ ts) zero zero p e = cc
  dead_resolvers (t ∷ ts) zero (suc i) p e = e
  dead_resolvers (t ∷ ts) (suc k) zero p e = e
  dead_resolvers (t ∷ ts) (suc k) (suc i) p e = dead_resolvers ts k i p e
  dead_resolvers other zero zero p e = cc

  grown_dead : (s : Vat N) (n : ℕ) → laws.Grown (held K E s) (held K E (record s { things = change dead n s.things }))
  grown_dead s n = record { objects = λ i node caught stamps e. dead_objects s.things n i node caught stamps e; lists = λ k vs e. e; guards = λ k c e. (c, e, refl); before = refl; given = refl }

  pub fine_kill : {C : Fact N} (n : ℕ) → Fine C (kill n) nothing
  unfolding kill
  fine_kill n = record { after = λ s h c. let t : Vat N = record s { things = change dead n s.things } in ((grows_by K E s t refl (grown_dead s n), refl), good_by K E s t refl (refl, refl, refl, refl, refl, refl) (grown_dead s n) (record { auditions = λ i view e. dead_auditions s.things n i view e; resolvers = λ i p e. dead_resolvers s.things n i p e; objects = λ i node caught stamps e. were_objects s.things n i node caught stamps e; cells = λ k c e. e; things = dead_length s.things n; slots = refl }) refl h, tt) }

  grown_slot : (s : Vat N) (c : Cell N) → laws.Grown (held K E s) (held K E (record s { slots = s.slots ++ c ∷ [] }))
  grown_slot s x = record { objects = λ i node caught stamps e. e; lists = λ k vs e. e; guards = λ k c e. (c, get_append s.slots (x ∷ []) k c e, refl); before = refl; given = refl }

  slot_told : (s : Vat N) (v g : Value N) (n : ℕ) (c : Cell N) → (slice_get s.slots n ≡ Some c) ⊎ ((n ≡ length s.slots) × (record { guard = g; value = v } ≡ c))
      → (slice_get s.slots n ≡ Some c) ⊎ CellTold K E (with_line (record s { slots = s.slots ++ record { guard = g; value = v } ∷ [] }) (SlotMade a (length s.slots) v)) n c
  slot_told s v g n c (inl e) = inl e
  slot_told s v g n c (inr e) = inr (inr (
    a,
    inl (subst (λ k. IsAmong (SlotMade a k c.value) (s.happened ++ SlotMade a (length s.slots) v ∷ [])) (sym e.0)
        (subst (λ (d : Cell N). IsAmong (SlotMade a (length s.slots) d.value) (s.happened ++ SlotMade a (length s.slots) v ∷ [])) e.1 (among_last s.happened (SlotMade a (length s.slots) v)))),
  ))

  slot_now : {B : Type 0} {C : Fact N} (g v : Value N) {m : ℕ → Act N B} {H : B → Fact N} → Gets C (IsValue g) → Gets C (IsValue v) → ((k : ℕ) → Fine (Also C (IsSlot k)) (m k) H) → Fine C (new_slot g v >>= (λ k. tell (SlotMade a k v) >> m k)) H
  unfolding new_slot ◌>>=◌ tell ◌>>◌ and_then uses by tells open_after
  slot_now {C = C} g v {m = m} {H = H} i j h = record {
    after = λ s q c. let k = length s.slots in let x : Cell N = record { guard = g; value = v } in let u : Vat N = record s { slots = s.slots ++ x ∷ [] } in let e : Happened N = SlotMade a k v in let t : Vat N = with_line u e in
        let w : Grows K E s u = grows_by K E s u refl (grown_slot s x) in
        let r : Grows K E s t = grows_trans K E s u t w (grows_line K E u e) in
        let p : Passes s t = (r, opens_last u e) in
        let good : Good K E t = good_block K E s t e refl (refl, refl, refl, refl, refl, refl) tt (grown_slot s x) ((inl (has_up K E s u w a (AValue v) (j.at s c)), tt), (x, get_end s.slots x, has_up K E s u w a (AValue g) (i.at s c)))
        tt ((inl (j.at s c), tt), tt, tt, tt) (λ n view f. inl f) (λ n p f. inl f) (λ n node caught stamps f. inl f) (λ n y f. slot_told s v g n y (get_or_last s.slots x y n f))
        (rises_line (thing_made K) (length E.things) (length s.things) s.happened e refl)
        (λ y. subst (λ m. Rises (length E.slots) (map slot_made (s.happened ++ e ∷ [])) m) (sym (length_end s.slots x)) (rises_new slot_made (length E.slots) k s.happened e refl y)) (adds_line list_made E.start.vat.lists s.lists s.happened e refl) q in
        widen H s t (m k t) p ((h k).after t good (still_holds s t p C c, is_told u e (ASlot k) (inl refl)));
  }

  -- a slot is made, and its line told
  pub bind_slot : {B : Type 0} {C : Fact N} (act : ℕ) (g v : Value N) {m : ℕ → Act N B} {H : B → Fact N} → Gets C (IsAct act) → Gets C (IsValue g) → Gets C (IsValue v) → ((k : ℕ) → Fine (Also C (IsSlot k)) (m k) H) → Fine C (new_slot g v >>= (λ k. tell (SlotMade act k v) >> m k)) H
  bind_slot act g v {m = m} k i j h = act_is act (λ b. new_slot g v >>= (λ n. tell (SlotMade b n v) >> m n)) k (slot_now g v i j h)

  grown_write : (s : Vat N) (n : ℕ) (v : Value N) → laws.Grown (held K E s) (held K E (record s { slots = change (holding v) n s.slots }))
  grown_write s n v = record { objects = λ i node caught stamps e. e; lists = λ k vs e. e; guards = λ k c e. written_guards s.slots n k v c e; before = refl; given = refl }

  write_told : (s : Vat N) (n : ℕ) (v : Value N) (k : ℕ) (c : Cell N) → (slice_get s.slots k ≡ Some c) ⊎ ((n ≡ k) × (v ≡ c.value)) → (slice_get s.slots k ≡ Some c) ⊎ CellTold K E (with_line (record s { slots = change (holding v) n s.slots }) (SlotWrote a n v)) k c
  write_told s n v k c (inl e) = inl e
  write_told s n v k c (inr e) = inr (inr (a, inr (subst (λ m. IsAmong (SlotWrote a m c.value) (s.happened ++ SlotWrote a n v ∷ [])) e.0 (subst (λ w. IsAmong (SlotWrote a n w) (s.happened ++ SlotWrote a n v ∷ [])) e.1 (among_last s.happened (SlotWrote a n v))))))

  wrote_now : {B : Type 0} {C : Fact N} (n : ℕ) (v : Value N) {m : Act N B} {H : B → Fact N} → Gets C (IsSlot n) → Gets C (IsValue v) → Fine C m H → Fine C (write_slot n v >> (tell (SlotWrote a n v) >> m)) H
  unfolding write_slot tell ◌>>◌ and_then uses by open_after
  wrote_now {C = C} n v {m = m} {H = H} i j h = record {
    after = λ s q c. let u : Vat N = record s { slots = change (holding v) n s.slots } in let e : Happened N = SlotWrote a n v in let t : Vat N = with_line u e in
        let w : Grows K E s u = grows_by K E s u refl (grown_write s n v) in
        let r : Grows K E s t = grows_trans K E s u t w (grows_line K E u e) in
        let p : Passes s t = (r, opens_last u e) in
        let good : Good K E t = good_block K E s t e refl (refl, refl, refl, refl, refl, refl) tt (grown_write s n v) ((inl (has_up K E s u w a (ASlot n) (i.at s c)), (inl (has_up K E s u w a (AValue v) (j.at s c)), tt)), tt)
        tt ((inl (i.at s c), (inl (j.at s c), tt)), tt, tt, tt) (λ l view f. inl f) (λ l p f. inl f) (λ l node caught stamps f. inl f) (λ l y f. write_told s n v l y (written_cells s.slots n l v y f))
        (rises_line (thing_made K) (length E.things) (length s.things) s.happened e refl)
        (λ y. subst (λ m. Rises (length E.slots) (map slot_made (s.happened ++ e ∷ [])) m) (sym (written_length s.slots n v)) (rises_line slot_made (length E.slots) (length s.slots) s.happened e refl y)) (adds_line list_made E.start.vat.lists s.lists s.happened e refl) q in
        widen H s t (m t) p (h.after t good (still_holds s t p C c));
  }

  -- a slot is written to, and its line told
  pub then_wrote : {B : Type 0} {C : Fact N} (act n : ℕ) (v : Value N) {m : Act N B} {H : B → Fact N} → Gets C (IsAct act) → Gets C (IsSlot n) → Gets C (IsValue v) → Fine C m H → Fine C (write_slot n v >> (tell (SlotWrote act n v) >> m)) H
  then_wrote act n v {m = m} k i j h = act_is act (λ b. write_slot n v >> (tell (SlotWrote b n v) >> m)) k (wrote_now n v i j h)

  grown_list : (s : Vat N) (xs : List (Value N)) → laws.Grown (held K E s) (held K E (record s { lists = s.lists ++ xs ∷ [] }))
  grown_list s xs = record { objects = λ i node caught stamps e. e; lists = λ k vs e. get_append s.lists (xs ∷ []) k vs e; guards = λ k c e. (c, e, refl); before = refl; given = refl }

  list_now : {B : Type 0} {C : Fact N} (vs : List (Value N)) {m : ℕ → Act N B} {H : B → Fact N} → Gets C (AreValues vs) → ((k : ℕ) → Fine (Also C (IsValue (Items k))) (m k) H) → Fine C (new_list vs >>= (λ k. tell (ListMade a k vs) >> m k)) H
  unfolding new_list ◌>>=◌ tell ◌>>◌ and_then uses by tells open_after itself
  list_now {C = C} vs {m = m} {H = H} i h = record {
    after = λ s q c. let k = length s.lists in let u : Vat N = record s { lists = s.lists ++ vs ∷ [] } in let e : Happened N = ListMade a k vs in let t : Vat N = with_line u e in
        let w : Grows K E s u = grows_by K E s u refl (grown_list s vs) in
        let r : Grows K E s t = grows_trans K E s u t w (grows_line K E u e) in
        let p : Passes s t = (r, opens_last u e) in
        let good : Good K E t = good_block K E s t e refl (refl, refl, refl, refl, refl, refl) tt (grown_list s vs) (uses_values u [] vs (holds_up s u w (AreValues vs) tt (i.at s c)), tt)
        tt (uses_values s [] vs (i.at s c), tt, tt, tt) (λ n view f. inl f) (λ n p f. inl f) (λ n node caught stamps f. inl f) (λ n y f. inl f)
        (rises_line (thing_made K) (length E.things) (length s.things) s.happened e refl)
        (rises_line slot_made (length E.slots) (length s.slots) s.happened e refl)
        (adds_new list_made E.start.vat.lists s.lists vs s.happened e refl) q in
        widen H s t (m k t) p ((h k).after t good (still_holds s t p C c, is_told u e (AValue (Items k)) (inl refl)));
  }

  -- a list is made, and its line told
  pub bind_list : {B : Type 0} {C : Fact N} (act : ℕ) (vs : List (Value N)) {m : ℕ → Act N B} {H : B → Fact N} → Gets C (IsAct act) → Gets C (AreValues vs) → ((k : ℕ) → Fine (Also C (IsValue (Items k))) (m k) H) → Fine C (new_list vs >>= (λ k. tell (ListMade act k vs) >> m k)) H
  bind_list act vs {m = m} k i h = act_is act (λ b. new_list vs >>= (λ n. tell (ListMade b n vs) >> m n)) k (list_now vs i h)

  pub idle_ends : {A : Type 0} (s : Vat N) (d : Done N A) → Good K E s → IdleEnds s d → CausesEnds K E.start s (Any K E.start) d → Ends nothing s d
  idle_ends s (Gives x t) h i r = ((idles_grows K E s t i, idles_opens s t i), idles_good K E s t i r.1 h, tt)
  idle_ends s (Throws p t) h i r = ((idles_grows K E s t i, idles_opens s t i), idles_good K E s t i r.1 h)
  idle_ends s (Stops c t) h i r = idles_good K E s t i r.1 h
  idle_ends s (Ejects n v t) h i r = absurd i

  -- what is idle, and in which each settling has its cause
  pub fine_idle : {A : Type 0} {C : Fact N} {m : Act N A} → Idle m → ((s : Vat N) → Causes K E.start s → Holds s C → CausesEnds K E.start s (Any K E.start) (m s)) → Fine C m nothing
  fine_idle {m = m} i r = record { after = λ s h c. idle_ends s (m s) h (i.after s) (r s h.causes c) }

  -- that by itself
  pub fine_steady : {A : Type 0} {C : Fact N} {m : Act N A} → Idle m → Steady K E.start m → Fine C m nothing
  fine_steady {m = m} i r = fine_idle i (λ s h c. r.after s h)
