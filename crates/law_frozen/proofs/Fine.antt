-- What a vat does from a sound state, under facts on what it has in hand, ends in a sound state with facts on what it gives.
use Rattle.std.proofs.Common.{◌≡◌, ℕ, zero, suc, ◌+◌, ◌-◌, ◌<◌, ◌⊎◌, inl, inr, Bool, true, false, List, [], ◌∷◌, ◌++◌, Option, Some, None, if◌then◌else◌, refl, length, arith}
use Rattle.std.specs.Prelude.{slice_get, nat_le}
use Rattle.def_machine.specs.Values.{Words, Value, Null, Flag, Number, Text, Prim, Broken, Items, Ref, Naming, Coming, Mailing, IsOwn, IsAnswer, IsSent}
use Rattle.def_machine.specs.State.{Bound, Binding, Scope, Cell, FreeName, View, Thing, Made, Ejector, Audition, Resolver, Message, Standing, Settled, Known, Change, Hold, Wait, WaitOn, See, React, ToTell, Settle, Passed, Passeds, Note, Put, GiftEntry, Happened, Vat, Stop, Done, Gives, Throws, Ejects, Stops, Act, ◌>>=◌, ◌>>◌, and_then, for_some, end_by, ending, each, give, throw, stop, eject, look, tell, spend, spent, new_activation, new_thing, kill, change, dead, new_slot, holding, write_slot, new_list, enqueue, send_out, new_gift, with_opened, open_gift, mark, draws, with_change, changed, changed_to, unless_settled, alter, come, mail, new_promise, new_message, draw, begun, new_lone_message}
use Rattle.def_machine.specs.Refs.{Place, Parcel}
use Rattle.def_machine.specs.Native.{Reply, Says, Lists as Listed, Iterates, DeepFrozen, Asked, MakesList, Loops, SendsTo, CallsTo, Breaks, Tells, Whens, Coerces, AddsNull}
use Rattle.def_machine.specs.Scopes.{meets, Answer, Answers, AuditionAsk, GetsGuard, Asks, ResolverAsk, Resolves, Smashes, NoResolverAsk}
use Rattle.law_machine.proofs.Machine.StepLaws.{get_append}
use Rattle.law_machine.specs.Natives.Natives.{ReplyHas, AskedHas}
use Rattle.law_frozen.specs.Frozen.{AllOf, IsAmong, Lists, IsThere, AreThere, IsBelow, AreStacked, MessageThere, KnownThere, CellThere, ViewThere, Passes, AllPass, NotePasses, BoundWell, NounWell, ThingWell, SoundParts, Sound, deep_frozen}
use Rattle.law_frozen.proofs.Facts.{Grows, all_map, all_end, there_up, message_up, known_up, cell_up, view_up, bound_up, noun_up, thing_up}

abbrev pub MayBe : {A : Type 0} → (A → Type 0) → Option A → Type 0
MayBe P (Some x) = P x
MayBe P None = Unit {0}

abbrev pub ReplyThere : {N : Type 0} → Lists N → Reply N → Type 0
ReplyThere ls = ReplyHas (IsThere ls)

abbrev pub ChangeThere : {N : Type 0} → Lists N → Change N → Type 0
ChangeThere ls (Hold m) = MessageThere ls m
ChangeThere ls (React m) = MessageThere ls m
ChangeThere ls (Settle y) = IsThere ls y
ChangeThere ls other = Unit {0}

abbrev pub AskedThere : {N : Type 0} → Lists N → Asked N → Type 0
AskedThere ls = AskedHas (IsThere ls)

abbrev pub AuditionAskThere : {N : Type 0} → Lists N → AuditionAsk N → Type 0
AuditionAskThere ls (GetsGuard x) = IsThere ls x
AuditionAskThere ls (Asks x) = IsThere ls x
AuditionAskThere ls other = Unit {0}

abbrev pub ResolverAskThere : {N : Type 0} → Lists N → ResolverAsk N → Type 0
ResolverAskThere ls (Resolves x) = IsThere ls x
ResolverAskThere ls (Smashes x) = IsThere ls x
ResolverAskThere ls NoResolverAsk = Unit {0}

-- what may be known of what a vat has in hand
pub data Fact (N : Type 0) : Type 0 where
  Nothing : Fact N
  Also : Fact N → Fact N → Fact N
  IsValue : Value N → Fact N
  AreValues : List (Value N) → Fact N
  AreLists : List (List (Value N)) → Fact N
  IsBound : Bound N → Fact N
  AreNouns : List (Binding N) → Fact N
  IsMessage : Message N → Fact N
  AreMessages : List (Message N) → Fact N
  IsKnown : Known N → Fact N
  IsThing : Thing N → Fact N
  IsView : View N → Fact N
  IsCell : Cell N → Fact N
  IsChange : Change N → Fact N
  MayValue : Option (Value N) → Fact N
  MayBound : Option (Bound N) → Fact N
  MayCell : Option (Cell N) → Fact N
  MayThing : Option (Thing N) → Fact N
  MayKnown : Option (Known N) → Fact N
  IsReply : Reply N → Fact N
  IsAsked : Asked N → Fact N
  IsAuditionAsk : AuditionAsk N → Fact N
  IsResolverAsk : ResolverAsk N → Fact N
  DoesPass : Passed N → Fact N
  DoAllPass : Passeds N → Fact N
  NoteDoes : Note N → Fact N
  -- stamps among which DeepFrozen's stands only where these free names meet it
  StampsMeet : List (FreeName N) → List (Value N) → Fact N
  -- the verdict of a followed auditor, which is DeepFrozen's only where these free names meet it
  Approves : List (FreeName N) → Value N → Bool → Fact N

-- what each kind of outcome is known to be
abbrev pub scope : {N : Type 0} → Scope N → Fact N
scope here = AreNouns here.nouns

abbrev pub answer : {N : Type 0} → Answer N → Fact N
answer x = Also (IsValue x.value) (AreNouns x.scope.nouns)

abbrev pub answers : {N : Type 0} → Answers N → Fact N
answers x = Also (AreValues x.values) (AreNouns x.scope.nouns)

abbrev pub parcel : {N : Type 0} → Parcel N → Fact N
parcel x = DoesPass x.value

abbrev pub nothing : {N A : Type 0} → A → Fact N
nothing a = Nothing

-- a promise of which a resolver may be
abbrev pub resolvable : {N : Type 0} → N → Fact N
resolvable p = IsThing (Resolver p)

no_list : {N : Type 0} (vs : List (Value N)) → None ≡ Some vs → ⊥
no_list vs e = cc

get_below : {N : Type 0} (ls : Lists N) (k : ℕ) (vs : List (Value N)) → slice_get ls k ≡ Some vs → k < length ls
get_below [] k vs e = absurd (no_list vs e)
get_below (xs ∷ ls) zero vs e = omega arith
get_below (xs ∷ ls) (suc k) vs e = let l : k < length ls = get_below ls k vs e in omega arith

-- what is there is below the count of lists
pub there_below : {N : Type 0} (ls : Lists N) (n : ℕ) → n ≡ zero + length ls → (v : Value N) → IsThere ls v → IsBelow n v
there_below ls n e (Items k) h = let l : k < length ls = get_below ls k h.0 h.1 in omega arith
there_below ls n e other h = tt

pub get_end : {A : Type 0} (xs : List A) (x : A) → slice_get (xs ++ x ∷ []) (length xs) ≡ Some x
get_end [] x = refl
get_end (y ∷ xs) x = get_end xs x

dead_objects : {N : Type 0} (ts : List (Thing N)) (k i : ℕ) (node : ℕ) (caught : List (Binding N)) (stamps : List (Value N)) → slice_get ts i ≡ Some (Made node caught stamps) → slice_get (change dead k ts) i ≡ Some (Made node caught stamps)
unfolding change dead
dead_objects [] k i node caught stamps e = e
dead_objects (Made a b c ∷ ts) zero zero node caught stamps e = cc
dead_objects (t ∷ ts) zero (suc i) node caught stamps e = e
dead_objects (t ∷ ts) (suc k) zero node caught stamps e = e
dead_objects (t ∷ ts) (suc k) (suc i) node caught stamps e = dead_objects ts k i node caught stamps e
dead_objects other zero zero node caught stamps e = cc

module _ {N W : Type 0} (K : Naming N W) where
  abbrev pub Holds : List (Thing N) → Lists N → Fact N → Type 0
  Holds ts ls Nothing = Unit {0}
  Holds ts ls (Also A B) = Holds ts ls A × Holds ts ls B
  Holds ts ls (IsValue v) = IsThere ls v
  Holds ts ls (AreValues vs) = AreThere ls vs
  Holds ts ls (AreLists vss) = AllOf (AreThere ls) vss
  Holds ts ls (IsBound b) = BoundWell K ts ls b
  Holds ts ls (AreNouns bs) = AllOf (NounWell K ts ls) bs
  Holds ts ls (IsMessage m) = MessageThere ls m
  Holds ts ls (AreMessages ms) = AllOf (MessageThere ls) ms
  Holds ts ls (IsKnown k) = KnownThere ls k
  Holds ts ls (IsThing x) = ThingWell K ts ls x
  Holds ts ls (IsView x) = ViewThere ls x
  Holds ts ls (IsCell c) = CellThere ls c
  Holds ts ls (IsChange c) = ChangeThere ls c
  Holds ts ls (MayValue o) = MayBe (IsThere ls) o
  Holds ts ls (MayBound o) = MayBe (BoundWell K ts ls) o
  Holds ts ls (MayCell o) = MayBe (CellThere ls) o
  Holds ts ls (MayThing o) = MayBe (ThingWell K ts ls) o
  Holds ts ls (MayKnown o) = MayBe (KnownThere ls) o
  Holds ts ls (IsReply r) = ReplyThere ls r
  Holds ts ls (IsAsked a) = AskedThere ls a
  Holds ts ls (IsAuditionAsk a) = AuditionAskThere ls a
  Holds ts ls (IsResolverAsk a) = ResolverAskThere ls a
  Holds ts ls (DoesPass y) = Passes y
  Holds ts ls (DoAllPass ys) = AllPass ys
  Holds ts ls (NoteDoes n) = NotePasses n
  Holds ts ls (StampsMeet fs ys) = IsAmong deep_frozen ys → meets DeepFrozen fs ≡ true
  Holds ts ls (Approves fs y b) = y ≡ deep_frozen → b ≡ true → meets DeepFrozen fs ≡ true

  -- what follows from a fact
  pub record Gets (C F : Fact N) : Type 0 where
    pub at : (ts : List (Thing N)) (ls : Lists N) → Holds ts ls C → Holds ts ls F

-- no list but one of what is there comes to be
abbrev pub ListsGrow : {N : Type 0} → Lists N → Lists N → Type 0
ListsGrow {N} ls ms = (ms ≡ ls) ⊎ ((vs : List (Value N)) × AreThere ls vs × (ms ≡ ls ++ vs ∷ []))

-- a change by which nothing changes of what is known, queued, put, drawn or hosted as a gift, and of lists no more than that
abbrev pub Quiet : {N : Type 0} → Vat N → Vat N → Type 0
Quiet s t = (t.number ≡ s.number) × (t.known ≡ s.known) × (t.noticed ≡ s.noticed) × ListsGrow s.lists t.lists × (t.queue ≡ s.queue) × (t.outbox ≡ s.outbox) × (t.drawn ≡ s.drawn) × (t.gifts ≡ s.gifts)

-- What is kept of a vat: that it is sound, and what each change that is quiet keeps in a sound state.
pub record Keeper {N W : Type 0} (K : Naming N W) : Type 1 where
  pub holds : Vat N → Type 0
  pub sound : (s : Vat N) → holds s → Sound K s
  pub quiet : (s t : Vat N) → Quiet s t → holds s → Sound K t → holds t

-- where every change keeps it in a sound state
pub record Loose {N W : Type 0} (K : Naming N W) (M : Keeper K) : Type 0 where
  pub any : (s t : Vat N) → M.holds s → Sound K t → M.holds t

module _ {N W : Type 0} (K : Naming N W) (M : Keeper K) where
  -- how it ends
  abbrev pub Ends : {A : Type 0} → (A → Fact N) → Vat N → Done N A → Type 0
  Ends G s (Gives a t) = Grows s.things s.lists t.things t.lists × M.holds t × Holds K t.things t.lists (G a)
  Ends G s (Throws p t) = Grows s.things s.lists t.things t.lists × M.holds t
  Ends G s (Ejects n v t) = Grows s.things s.lists t.things t.lists × M.holds t × IsThere t.lists v
  Ends G s (Stops c t) = Grows s.things s.lists t.things t.lists × M.holds t

  pub record Fine {A : Type 0} (C : Fact N) (m : Act N A) (G : A → Fact N) : Type 0 where
    pub after : (s : Vat N) → M.holds s → Holds K s.things s.lists C → Ends G s (m s)

module _ {N : Type 0} where
  pub grows_same : (ts : List (Thing N)) (ls : Lists N) → Grows ts ls ts ls
  grows_same ts ls = record { objects = λ i node caught stamps e. e; lists = λ k vs e. e }

  pub grows_trans : (ts : List (Thing N)) (ls : Lists N) (us : List (Thing N)) (ms : Lists N) (vs : List (Thing N)) (ns : Lists N) → Grows ts ls us ms → Grows us ms vs ns → Grows ts ls vs ns
  grows_trans ts ls us ms vs ns g h = record { objects = λ i node caught stamps e. h.objects i node caught stamps (g.objects i node caught stamps e); lists = λ k xs e. h.lists k xs (g.lists k xs e) }

  pub grows_things : (ts : List (Thing N)) (ls : Lists N) (x : Thing N) → Grows ts ls (ts ++ x ∷ []) ls
  grows_things ts ls x = record { objects = λ i node caught stamps e. get_append ts (x ∷ []) i (Made node caught stamps) e; lists = λ k vs e. e }

  grows_dead : (ts : List (Thing N)) (ls : Lists N) (n : ℕ) → Grows ts ls (change dead n ts) ls
  grows_dead ts ls n = record { objects = λ i node caught stamps e. dead_objects ts n i node caught stamps e; lists = λ k vs e. e }

  grows_lists : (ts : List (Thing N)) (ls : Lists N) (xs : List (Value N)) → Grows ts ls ts (ls ++ xs ∷ [])
  grows_lists ts ls xs = record { objects = λ i node caught stamps e. e; lists = λ k vs e. get_append ls (xs ∷ []) k vs e }

module _ {N W : Type 0} (K : Naming N W) where
  may_up : {A : Type 0} (P Q : A → Type 0) → ((x : A) → P x → Q x) → (o : Option A) → MayBe P o → MayBe Q o
  may_up P Q f (Some x) h = f x h
  may_up P Q f None h = tt

  module _ (ts : List (Thing N)) (ls : Lists N) (us : List (Thing N)) (ms : Lists N) (g : Grows ts ls us ms) where
    reply_up : (r : Reply N) → ReplyThere ls r → ReplyThere ms r
    reply_up (Says v) h = there_up ts ls us ms g v h
    reply_up (Listed vs) h = all_map (there_up ts ls us ms g) vs h
    reply_up (Iterates o vs) h = (there_up ts ls us ms g o h.0, all_map (there_up ts ls us ms g) vs h.1)
    reply_up other h = tt

    change_up : (c : Change N) → ChangeThere ls c → ChangeThere ms c
    change_up (Hold m) h = message_up ts ls us ms g m h
    change_up (React m) h = message_up ts ls us ms g m h
    change_up (Settle y) h = there_up ts ls us ms g y h
    change_up other h = tt

    asked_up : (a : Asked N) → AskedThere ls a → AskedThere ms a
    asked_up (MakesList vs) h = all_map (there_up ts ls us ms g) vs h
    asked_up (Loops o) h = there_up ts ls us ms g o h
    asked_up (SendsTo only x v l) h = (there_up ts ls us ms g x h.0, there_up ts ls us ms g v h.1, there_up ts ls us ms g l h.2)
    asked_up (CallsTo x v l) h = (there_up ts ls us ms g x h.0, there_up ts ls us ms g v h.1, there_up ts ls us ms g l h.2)
    asked_up (Breaks x) h = there_up ts ls us ms g x h
    asked_up (Tells t x) h = there_up ts ls us ms g x h
    asked_up (Whens x o) h = (there_up ts ls us ms g x h.0, there_up ts ls us ms g o h.1)
    asked_up (Coerces k x j) h = (there_up ts ls us ms g x h.0, there_up ts ls us ms g j h.1)
    asked_up (AddsNull x) h = there_up ts ls us ms g x h
    asked_up other h = tt

    audition_up : (a : AuditionAsk N) → AuditionAskThere ls a → AuditionAskThere ms a
    audition_up (GetsGuard x) h = there_up ts ls us ms g x h
    audition_up (Asks x) h = there_up ts ls us ms g x h
    audition_up other h = tt

    resolver_up : (a : ResolverAsk N) → ResolverAskThere ls a → ResolverAskThere ms a
    resolver_up (Resolves x) h = there_up ts ls us ms g x h
    resolver_up (Smashes x) h = there_up ts ls us ms g x h
    resolver_up NoResolverAsk h = tt

    pub holds_up : (F : Fact N) → Holds K ts ls F → Holds K us ms F
    holds_up Nothing h = tt
    holds_up (Also A B) h = (holds_up A h.0, holds_up B h.1)
    holds_up (IsValue v) h = there_up ts ls us ms g v h
    holds_up (AreValues vs) h = all_map (there_up ts ls us ms g) vs h
    holds_up (AreLists vss) h = all_map (λ vs k. all_map (there_up ts ls us ms g) vs k) vss h
    holds_up (IsBound b) h = bound_up ts ls us ms g K b h
    holds_up (AreNouns bs) h = all_map (noun_up ts ls us ms g K) bs h
    holds_up (IsMessage m) h = message_up ts ls us ms g m h
    holds_up (AreMessages xs) h = all_map (message_up ts ls us ms g) xs h
    holds_up (IsKnown k) h = known_up ts ls us ms g k h
    holds_up (IsThing x) h = thing_up ts ls us ms g K x h
    holds_up (IsView x) h = view_up ts ls us ms g x h
    holds_up (IsCell c) h = cell_up ts ls us ms g c h
    holds_up (IsChange c) h = change_up c h
    holds_up (MayValue o) h = may_up _ _ (there_up ts ls us ms g) o h
    holds_up (MayBound o) h = may_up _ _ (bound_up ts ls us ms g K) o h
    holds_up (MayCell o) h = may_up _ _ (cell_up ts ls us ms g) o h
    holds_up (MayThing o) h = may_up _ _ (thing_up ts ls us ms g K) o h
    holds_up (MayKnown o) h = may_up _ _ (known_up ts ls us ms g) o h
    holds_up (IsReply r) h = reply_up r h
    holds_up (IsAsked a) h = asked_up a h
    holds_up (IsAuditionAsk a) h = audition_up a h
    holds_up (IsResolverAsk a) h = resolver_up a h
    holds_up other h = h

    -- a sound state, with more things and lists
    pub sound_up : (xs : List (Thing N)) (cells : List (Cell N)) (vss : Lists N) (qs : List (Message N)) (ks : List (Known N)) (ps : List (Put N))
        → AllOf (ThingWell K ts ls) xs → AllOf (CellThere ls) cells → AllOf (AreThere ls) vss → AllOf (MessageThere ls) qs → AllOf (KnownThere ls) ks
        → AllOf (ThingWell K us ms) xs × AllOf (CellThere ms) cells × AllOf (AreThere ms) vss × AllOf (MessageThere ms) qs × AllOf (KnownThere ms) ks
    sound_up xs cells vss qs ks ps a b c d e = (all_map (thing_up ts ls us ms g K) xs a, all_map (cell_up ts ls us ms g) cells b, all_map (λ vs k. all_map (there_up ts ls us ms g) vs k) vss c, all_map (message_up ts ls us ms g) qs d, all_map (known_up ts ls us ms g) ks e)

  -- ---- what follows from facts

  pub got : (C D : Fact N) → Gets K (Also C D) D
  got C D = record { at = λ ts ls h. h.1 }

  pub got_left : (C D F : Fact N) → Gets K C F → Gets K (Also C D) F
  got_left C D F g = record { at = λ ts ls h. g.at ts ls h.0 }

  pub got_right : (C D F : Fact N) → Gets K D F → Gets K (Also C D) F
  got_right C D F g = record { at = λ ts ls h. g.at ts ls h.1 }

  pub got_itself : (C : Fact N) → Gets K C C
  got_itself C = record { at = λ ts ls h. h }

  pub got_both : (C D F : Fact N) → Gets K C D → Gets K C F → Gets K C (Also D F)
  got_both C D F g k = record { at = λ ts ls h. (g.at ts ls h, k.at ts ls h) }

  pub got_nothing : (C : Fact N) → Gets K C Nothing
  got_nothing C = record { at = λ ts ls h. tt }

  pub got_null : (C : Fact N) → Gets K C (IsValue Null)
  got_null C = record { at = λ ts ls h. tt }

  pub got_flag : (C : Fact N) (b : Bool) → Gets K C (IsValue (Flag b))
  got_flag C b = record { at = λ ts ls h. tt }

  pub got_number : (C : Fact N) (z : _) → Gets K C (IsValue (Number z))
  got_number C z = record { at = λ ts ls h. tt }

  pub got_text : (C : Fact N) (t : Words) → Gets K C (IsValue (Text t))
  got_text C t = record { at = λ ts ls h. tt }

  pub got_prim : (C : Fact N) (n : ℕ) → Gets K C (IsValue (Prim n))
  got_prim C n = record { at = λ ts ls h. tt }

  pub got_broken : (C : Fact N) (t : Words) → Gets K C (IsValue (Broken t))
  got_broken C t = record { at = λ ts ls h. tt }

  pub got_ref : (C : Fact N) (n : N) → Gets K C (IsValue (Ref n))
  got_ref C n = record { at = λ ts ls h. tt }

  pub got_none : (C : Fact N) → Gets K C (AreValues [])
  got_none C = record { at = λ ts ls h. tt }

  pub got_more : (C : Fact N) (v : Value N) (vs : List (Value N)) → Gets K C (IsValue v) → Gets K C (AreValues vs) → Gets K C (AreValues (v ∷ vs))
  got_more C v vs g k = record { at = λ ts ls h. (g.at ts ls h, k.at ts ls h) }

  pub got_message : (C : Fact N) (m : Message N) → Gets K C (IsValue m.target) → Gets K C (AreValues m.args) → Gets K C (IsMessage m)
  got_message C m g k = record { at = λ ts ls h. (g.at ts ls h, k.at ts ls h) }

  pub got_hold : (C : Fact N) (m : Message N) → Gets K C (IsMessage m) → Gets K C (IsChange (Hold m))
  got_hold C m g = record { at = λ ts ls h. g.at ts ls h }

  pub got_react : (C : Fact N) (m : Message N) → Gets K C (IsMessage m) → Gets K C (IsChange (React m))
  got_react C m g = record { at = λ ts ls h. g.at ts ls h }

  pub got_settle : (C : Fact N) (y : Value N) → Gets K C (IsValue y) → Gets K C (IsChange (Settle y))
  got_settle C y g = record { at = λ ts ls h. g.at ts ls h }

  pub got_wait : (C : Fact N) (q : N) → Gets K C (IsChange (Wait q))
  got_wait C q = record { at = λ ts ls h. tt }

  pub got_wait_on : (C : Fact N) (q : N) → Gets K C (IsChange (WaitOn q))
  got_wait_on C q = record { at = λ ts ls h. tt }

  pub got_see : (C : Fact N) (q : N) → Gets K C (IsChange (See q))
  got_see C q = record { at = λ ts ls h. tt }

  pub got_to_tell : (C : Fact N) (w : ℕ) → Gets K C (IsChange (ToTell w))
  got_to_tell C w = record { at = λ ts ls h. tt }

  pub got_ejector : (C : Fact N) (b : Bool) → Gets K C (IsThing (Ejector b))
  got_ejector C b = record { at = λ ts ls h. tt }

  pub got_audition : (C : Fact N) (b : Bool) (x : View N) → Gets K C (IsView x) → Gets K C (IsThing (Audition b x))
  got_audition C b x g = record { at = λ ts ls h. g.at ts ls h }

module _ {N W : Type 0} (K : Naming N W) (M : Keeper K) where
  -- ---- one thing after another

  pub widen : {A : Type 0} (G : A → Fact N) (s t : Vat N) (d : Done N A) → Grows s.things s.lists t.things t.lists → Ends K M G t d → Ends K M G s d
  widen G s t (Throws p u) g h = (grows_trans _ _ _ _ _ _ g h.0, h.1)
  widen G s t (Stops c u) g h = (grows_trans _ _ _ _ _ _ g h.0, h.1)
  widen G s t other g h = (grows_trans _ _ _ _ _ _ g h.0, h.1, h.2)

  bind_ends : {A B : Type 0} (C : Fact N) (P : A → Fact N) (H : B → Fact N) (s : Vat N) (d : Done N A) (f : A → Act N B) → Holds K s.things s.lists C → Ends K M P s d
      → ((a : A) → Fine K M (Also C (P a)) (f a) H) → Ends K M H s (and_then d f)
  unfolding and_then
  bind_ends C P H s (Gives a t) f c h k = widen H s t (f a t) h.0 ((k a).after t h.1 (holds_up K s.things s.lists t.things t.lists h.0 C c, h.2))
  bind_ends C P H s other f c h k = h

  pub fine_bind : {A B : Type 0} {C : Fact N} {m : Act N A} {f : A → Act N B} {H : B → Fact N} (P : A → Fact N) → Fine K M C m P → ((a : A) → Fine K M (Also C (P a)) (f a) H) → Fine K M C (m >>= f) H
  unfolding ◌>>=◌
  fine_bind {C = C} {m = m} {f = f} {H = H} P h k = record { after = λ s g c. bind_ends C P H s (m s) f c (h.after s g c) k }

  less_ends : {A B : Type 0} (C : Fact N) (P : A → Fact N) (H : B → Fact N) (s : Vat N) (d : Done N A) (f : A → Act N B) → Holds K s.things s.lists C → Ends K M P s d
      → ((a : A) → Fine K M C (f a) H) → Ends K M H s (and_then d f)
  unfolding and_then
  less_ends C P H s (Gives a t) f c h k = widen H s t (f a t) h.0 ((k a).after t h.1 (holds_up K s.things s.lists t.things t.lists h.0 C c))
  less_ends C P H s other f c h k = h

  pub fine_less : {A B : Type 0} {C : Fact N} {m : Act N A} {f : A → Act N B} {H : B → Fact N} (P : A → Fact N) → Fine K M C m P → ((a : A) → Fine K M C (f a) H) → Fine K M C (m >>= f) H
  unfolding ◌>>=◌
  fine_less {C = C} {m = m} {f = f} {H = H} P h k = record { after = λ s g c. less_ends C P H s (m s) f c (h.after s g c) k }

  pub fine_then : {A B : Type 0} {C : Fact N} {m : Act N A} {n : Act N B} {H : B → Fact N} (P : A → Fact N) → Fine K M C m P → Fine K M C n H → Fine K M C (m >> n) H
  unfolding ◌>>◌
  fine_then {C = C} {m = m} {n = n} {H = H} P h k = record { after = λ s g c. less_ends C P H s (m s) (λ _. n) c (h.after s g c) (λ _. k) }

  end_ends : {A B : Type 0} (C : Fact N) (P : A → Fact N) (H : B → Fact N) (s : Vat N) (d : Done N A) (f : A → Act N B) (k : Words → Act N B) (l : ℕ → Value N → Act N B) → Holds K s.things s.lists C → Ends K M P s d
      → ((a : A) → Fine K M (Also C (P a)) (f a) H) → ((p : Words) → Fine K M C (k p) H) → ((n : ℕ) (v : Value N) → Fine K M (Also C (IsValue v)) (l n v) H) → Ends K M H s (end_by f k l d)
  unfolding end_by
  end_ends C P H s (Gives a t) f k l c h x y z = widen H s t (f a t) h.0 ((x a).after t h.1 (holds_up K s.things s.lists t.things t.lists h.0 C c, h.2))
  end_ends C P H s (Throws p t) f k l c h x y z = widen H s t (k p t) h.0 ((y p).after t h.1 (holds_up K s.things s.lists t.things t.lists h.0 C c))
  end_ends C P H s (Ejects n v t) f k l c h x y z = widen H s t (l n v t) h.0 ((z n v).after t h.1 (holds_up K s.things s.lists t.things t.lists h.0 C c, h.2))
  end_ends C P H s (Stops r t) f k l c h x y z = h

  pub fine_ending : {A B : Type 0} {C : Fact N} {m : Act N A} {f : A → Act N B} {k : Words → Act N B} {l : ℕ → Value N → Act N B} {H : B → Fact N} (P : A → Fact N) → Fine K M C m P
      → ((a : A) → Fine K M (Also C (P a)) (f a) H) → ((p : Words) → Fine K M C (k p) H) → ((n : ℕ) (v : Value N) → Fine K M (Also C (IsValue v)) (l n v) H) → Fine K M C (ending f k l m) H
  unfolding ending
  fine_ending {C = C} {m = m} {f = f} {k = k} {l = l} {H = H} P h x y z = record { after = λ s g c. end_ends C P H s (m s) f k l c (h.after s g c) x y z }

  pub fine_some : {B : Type 0} {C : Fact N} (o : Option (Value N)) {f : Value N → Act N B} {m : Act N B} {H : B → Fact N} → Gets K C (MayValue o) → ((a : Value N) → Fine K M (Also C (IsValue a)) (f a) H) → Fine K M C m H → Fine K M C (for_some o f m) H
  unfolding for_some
  fine_some (Some a) g h k = record { after = λ s i c. (h a).after s i (c, g.at s.things s.lists c) }
  fine_some None g h k = k

  pub fine_some_name : {B : Type 0} {C : Fact N} (o : Option N) {f : N → Act N B} {m : Act N B} {H : B → Fact N} → ((a : N) → Fine K M C (f a) H) → Fine K M C m H → Fine K M C (for_some o f m) H
  unfolding for_some
  fine_some_name (Some a) h k = h a
  fine_some_name None h k = k

  pub fine_if : {A : Type 0} {C : Fact N} (b : Bool) {m n : Act N A} {H : A → Fact N} → Fine K M C m H → Fine K M C n H → Fine K M C (if b then m else n) H
  fine_if true h k = h
  fine_if false h k = k

  pub fine_give : {A : Type 0} {C : Fact N} (a : A) {H : A → Fact N} → Gets K C (H a) → Fine K M C (give a) H
  unfolding give
  fine_give a g = record { after = λ s h c. (grows_same s.things s.lists, h, g.at s.things s.lists c) }

  pub fine_throw : {A : Type 0} {C : Fact N} (p : Words) {H : A → Fact N} → Fine K M C (throw {A = A} p) H
  unfolding throw
  fine_throw p = record { after = λ s h c. (grows_same s.things s.lists, h) }

  pub fine_eject : {A : Type 0} {C : Fact N} (n : ℕ) (v : Value N) {H : A → Fact N} → Gets K C (IsValue v) → Fine K M C (eject {A = A} n v) H
  unfolding eject
  fine_eject n v g = record { after = λ s h c. (grows_same s.things s.lists, h, g.at s.things s.lists c) }

  pub fine_stop : {A : Type 0} {C : Fact N} (c : Stop) {H : A → Fact N} → Fine K M C (stop {A = A} c) H
  unfolding stop
  fine_stop r = record { after = λ s h c. (grows_same s.things s.lists, h) }

  more_ends : {A : Type 0} (P H : A → Fact N) (s : Vat N) (d : Done N A) → ((a : A) → Gets K (P a) (H a)) → Ends K M P s d → Ends K M H s d
  more_ends P H s (Gives a t) g h = (h.0, h.1, (g a).at t.things t.lists h.2)
  more_ends P H s other g h = h

  pub fine_more : {A : Type 0} {C : Fact N} {m : Act N A} (P H : A → Fact N) → Fine K M C m P → ((a : A) → Gets K (P a) (H a)) → Fine K M C m H
  fine_more {m = m} P H h g = record { after = λ s i c. more_ends P H s (m s) g (h.after s i c) }

  pub fine_left : {A : Type 0} {C D : Fact N} {m : Act N A} {H : A → Fact N} → Fine K M C m H → Fine K M (Also C D) m H
  fine_left h = record { after = λ s i c. h.after s i c.0 }

  pub fine_look : {A : Type 0} {C : Fact N} (f : Vat N → A) → Fine K M C (look f) nothing
  unfolding look
  fine_look f = record { after = λ s h c. (grows_same s.things s.lists, h, tt) }

  -- a fact on what is looked at
  -- a change by which nothing known changes, and no list
  stays : (s t : Vat N) → Quiet s t → M.holds s → (Sound K s → Sound K t) → M.holds t
  stays s t q h f = M.quiet s t q h (f (M.sound s h))

  pub fine_sees : {A : Type 0} {C : Fact N} (f : Vat N → A) (H : A → Fact N) → ((s : Vat N) → Sound K s → Holds K s.things s.lists C → Holds K s.things s.lists (H (f s))) → Fine K M C (look f) H
  unfolding look
  fine_sees f H g = record { after = λ s h c. (grows_same s.things s.lists, h, g s (M.sound s h) c) }

  pub fine_tell : {C : Fact N} (e : Happened N) → Fine K M C (tell e) nothing
  unfolding tell
  fine_tell e = record { after = λ s h c. (grows_same s.things s.lists, stays s (record s { happened = s.happened ++ e ∷ [] }) (refl, refl, refl, inl refl, refl, refl, refl, refl) h (λ g. g), tt) }

  spend_ends : (s : Vat N) (n : ℕ) (b : Bool) → M.holds s → Ends K M nothing s (spent n b s)
  unfolding spent
  spend_ends s n true h = (grows_same s.things s.lists, stays s (record s { fuel = s.fuel - n }) (refl, refl, refl, inl refl, refl, refl, refl, refl) h (λ g. g), tt)
  spend_ends s n false h = (grows_same s.things s.lists, h)

  pub fine_spend : {C : Fact N} (n : ℕ) → Fine K M C (spend n) nothing
  unfolding spend
  fine_spend n = record { after = λ s h c. spend_ends s n (nat_le n s.fuel) h }

  pub fine_activation : {C : Fact N} → Fine K M C new_activation nothing
  unfolding new_activation
  fine_activation = record { after = λ s h c. (grows_same s.things s.lists, stays s (record s { activations = suc s.activations }) (refl, refl, refl, inl refl, refl, refl, refl, refl) h (λ g. g), tt) }

  sound_thing : (s : Vat N) (us : List (Thing N)) → Grows s.things s.lists us s.lists → Sound K s → AllOf (ThingWell K us s.lists) us → SoundParts K us s.slots s.lists s.queue s.known s.outbox
  sound_thing s us g h a = record { things = a; slots = h.slots; lists = h.lists; stacked = h.stacked; queue = h.queue; known = h.known; outbox = h.outbox }

  pub fine_thing : {C : Fact N} (x : Thing N) → Gets K C (IsThing x) → Fine K M C (new_thing x) nothing
  unfolding new_thing
  fine_thing x i = record {
    after = λ s h c. let grown = grows_things s.things s.lists x in
        (grown, stays s (record s { things = s.things ++ x ∷ [] }) (refl, refl, refl, inl refl, refl, refl, refl, refl) h (λ g. sound_thing s (s.things ++ x ∷ []) grown g (all_end _ s.things x (all_map (thing_up s.things s.lists (s.things ++ x ∷ []) s.lists grown K) s.things g.things) (thing_up s.things s.lists (s.things ++ x ∷ []) s.lists grown K x (i.at s.things s.lists c)))), tt);
  }

  dead_well : (ts : List (Thing N)) (ls : Lists N) (x : Thing N) → ThingWell K ts ls x → ThingWell K ts ls (dead x)
  unfolding dead
  dead_well ts ls (Ejector live) h = tt
  dead_well ts ls other h = h

  change_well : {A : Type 0} (P : A → Type 0) (f : A → A) → ((x : A) → P x → P (f x)) → (n : ℕ) (xs : List A) → AllOf P xs → AllOf P (change f n xs)
  unfolding change
  change_well P f k n [] h = tt
  change_well P f k zero (x ∷ xs) h = (k x h.0, h.1)
  change_well P f k (suc n) (x ∷ xs) h = (h.0, change_well P f k n xs h.1)

  pub fine_kill : {C : Fact N} (n : ℕ) → Fine K M C (kill n) nothing
  unfolding kill
  fine_kill n = record {
    after = λ s h c. let grown = grows_dead s.things s.lists n in
        (grown, stays s (record s { things = change dead n s.things }) (refl, refl, refl, inl refl, refl, refl, refl, refl) h (λ g. sound_thing s (change dead n s.things) grown g (change_well _ dead (dead_well (change dead n s.things) s.lists) n s.things (all_map (thing_up s.things s.lists (change dead n s.things) s.lists grown K) s.things g.things))), tt);
  }

  pub fine_slot : {C : Fact N} (g v : Value N) → Gets K C (IsValue g) → Gets K C (IsValue v) → Fine K M C (new_slot g v) nothing
  unfolding new_slot
  fine_slot k v i j = record { after = λ s h c. (grows_same s.things s.lists, stays s (record s { slots = s.slots ++ record { guard = k; value = v } ∷ [] }) (refl, refl, refl, inl refl, refl, refl, refl, refl) h (λ g. record { things = g.things; slots = all_end _ s.slots (record { guard = k; value = v }) g.slots (i.at s.things s.lists c, j.at s.things s.lists c); lists = g.lists; stacked = g.stacked; queue = g.queue; known = g.known; outbox = g.outbox }), tt) }

  pub fine_write : {C : Fact N} (n : ℕ) (v : Value N) → Gets K C (IsValue v) → Fine K M C (write_slot n v) nothing
  unfolding write_slot holding
  fine_write n v i = record { after = λ s h c. (grows_same s.things s.lists, stays s (record s { slots = change (holding v) n s.slots }) (refl, refl, refl, inl refl, refl, refl, refl, refl) h (λ g. record { things = g.things; slots = change_well (CellThere s.lists) (holding v) (λ x k. (k.0, i.at s.things s.lists c)) n s.slots g.slots; lists = g.lists; stacked = g.stacked; queue = g.queue; known = g.known; outbox = g.outbox }), tt) }

  stacked_end : (n : ℕ) (ls : Lists N) (vs : List (Value N)) → AreStacked n ls → ((m : ℕ) → m ≡ n + length ls → AllOf (IsBelow m) vs) → AreStacked n (ls ++ vs ∷ [])
  stacked_end n [] vs h f = (f n (omega arith), tt)
  stacked_end n (xs ∷ ls) vs h f = (h.0, stacked_end (suc n) ls vs h.1 (λ m e. f m (omega arith)))

  pub fine_list : {C : Fact N} (vs : List (Value N)) → Gets K C (AreValues vs) → Fine K M C (new_list vs) (λ k. IsValue (Items k))
  unfolding new_list
  fine_list vs g = record {
    after = λ s h c. let ms : Lists N = s.lists ++ vs ∷ [] in let grown = grows_lists s.things s.lists vs in let there = there_up s.things s.lists s.things ms grown in (
      grown,
      M.quiet s (record s { lists = ms }) (refl, refl, refl, inr (vs, g.at s.things s.lists c, refl), refl, refl, refl, refl) h (record {
        things = all_map (thing_up s.things s.lists s.things ms grown K) s.things (M.sound s h).things;
        slots = all_map (cell_up s.things s.lists s.things ms grown) s.slots (M.sound s h).slots;
        lists = all_end _ s.lists vs (all_map (λ xs k. all_map there xs k) s.lists (M.sound s h).lists) (all_map there vs (g.at s.things s.lists c));
        stacked = stacked_end zero s.lists vs (M.sound s h).stacked (λ n l. all_map (there_below s.lists n l) vs (g.at s.things s.lists c));
        queue = all_map (message_up s.things s.lists s.things ms grown) s.queue (M.sound s h).queue;
        known = all_map (known_up s.things s.lists s.things ms grown) s.known (M.sound s h).known;
        outbox = (M.sound s h).outbox;
      }),
      (vs, get_end s.lists vs),
    );
  }

  pub fine_each : {A : Type 0} {C : Fact N} {f : A → Act N (Unit {0})} (xs : List A) → ((x : A) → Fine K M C (f x) nothing) → Fine K M C (each f xs) nothing
  unfolding each
  fine_each [] h = fine_give tt (got_nothing K _)
  fine_each (x ∷ xs) h = fine_then nothing (h x) (fine_each xs h)

  pub fine_mail : {C : Fact N} (c : Mailing W) → Fine K M C (mail K c) nothing
  unfolding mail
  fine_mail d = record { after = λ s h c. (grows_same s.things s.lists, stays s (record s { mails = s.mails ++ K.mailed d (length s.mails) ∷ [] }) (refl, refl, refl, inl refl, refl, refl, refl, refl) h (λ g. g), tt) }

  -- ---- by what is given

  pub then_unit : {B : Type 0} {C : Fact N} {m : Act N (Unit {0})} {n : Act N B} {H : B → Fact N} → Fine K M C m nothing → Fine K M C n H → Fine K M C (m >> n) H
  then_unit h k = fine_then nothing h k

  pub then_number : {B : Type 0} {C : Fact N} {m : Act N ℕ} {n : Act N B} {H : B → Fact N} → Fine K M C m nothing → Fine K M C n H → Fine K M C (m >> n) H
  then_number h k = fine_then nothing h k

  pub then_value : {B : Type 0} {C : Fact N} {m : Act N (Value N)} {n : Act N B} {H : B → Fact N} → Fine K M C m IsValue → Fine K M C n H → Fine K M C (m >> n) H
  then_value h k = fine_then IsValue h k

  pub then_answer : {B : Type 0} {C : Fact N} {m : Act N (Answer N)} {n : Act N B} {H : B → Fact N} → Fine K M C m answer → Fine K M C n H → Fine K M C (m >> n) H
  then_answer h k = fine_then answer h k

  pub bind_number : {B : Type 0} {C : Fact N} {m : Act N ℕ} {f : ℕ → Act N B} {H : B → Fact N} → Fine K M C m nothing → ((a : ℕ) → Fine K M C (f a) H) → Fine K M C (m >>= f) H
  bind_number h k = fine_less nothing h k

  pub bind_name : {B : Type 0} {C : Fact N} {m : Act N N} {f : N → Act N B} {H : B → Fact N} → Fine K M C m nothing → ((a : N) → Fine K M C (f a) H) → Fine K M C (m >>= f) H
  bind_name h k = fine_less nothing h k

  pub bind_names : {B : Type 0} {C : Fact N} {m : Act N (N × N)} {f : N × N → Act N B} {H : B → Fact N} → Fine K M C m nothing → ((a : N × N) → Fine K M C (f a) H) → Fine K M C (m >>= f) H
  bind_names h k = fine_less nothing h k

  pub bind_flag : {B : Type 0} {C : Fact N} {m : Act N Bool} {f : Bool → Act N B} {H : B → Fact N} → Fine K M C m nothing → ((a : Bool) → Fine K M C (f a) H) → Fine K M C (m >>= f) H
  bind_flag h k = fine_less nothing h k

  pub bind_place : {B : Type 0} {C : Fact N} {m : Act N (Place N)} {f : Place N → Act N B} {H : B → Fact N} → Fine K M C m nothing → ((a : Place N) → Fine K M C (f a) H) → Fine K M C (m >>= f) H
  bind_place h k = fine_less nothing h k

  pub bind_standing : {B : Type 0} {C : Fact N} {m : Act N (Standing N)} {f : Standing N → Act N B} {H : B → Fact N} → Fine K M C m nothing → ((a : Standing N) → Fine K M C (f a) H) → Fine K M C (m >>= f) H
  bind_standing h k = fine_less nothing h k

  pub bind_gifts : {B : Type 0} {C : Fact N} {m : Act N (List (GiftEntry N))} {f : List (GiftEntry N) → Act N B} {H : B → Fact N} → Fine K M C m nothing → ((a : List (GiftEntry N)) → Fine K M C (f a) H) → Fine K M C (m >>= f) H
  bind_gifts h k = fine_less nothing h k

  pub bind_gift : {B : Type 0} {C : Fact N} {m : Act N (Option (GiftEntry N))} {f : Option (GiftEntry N) → Act N B} {H : B → Fact N} → Fine K M C m nothing → ((a : Option (GiftEntry N)) → Fine K M C (f a) H) → Fine K M C (m >>= f) H
  bind_gift h k = fine_less nothing h k

  pub bind_knowns : {B : Type 0} {C : Fact N} {m : Act N (List (Known N))} {f : List (Known N) → Act N B} {H : B → Fact N} → Fine K M C m nothing → ((a : List (Known N)) → Fine K M C (f a) H) → Fine K M C (m >>= f) H
  bind_knowns h k = fine_less nothing h k

  pub bind_value : {B : Type 0} {C : Fact N} {m : Act N (Value N)} {f : Value N → Act N B} {H : B → Fact N} → Fine K M C m IsValue → ((a : Value N) → Fine K M (Also C (IsValue a)) (f a) H) → Fine K M C (m >>= f) H
  bind_value h k = fine_bind IsValue h k

  pub bind_values : {B : Type 0} {C : Fact N} {m : Act N (List (Value N))} {f : List (Value N) → Act N B} {H : B → Fact N} → Fine K M C m AreValues → ((a : List (Value N)) → Fine K M (Also C (AreValues a)) (f a) H) → Fine K M C (m >>= f) H
  bind_values h k = fine_bind AreValues h k

  pub bind_scope : {B : Type 0} {C : Fact N} {m : Act N (Scope N)} {f : Scope N → Act N B} {H : B → Fact N} → Fine K M C m scope → ((a : Scope N) → Fine K M (Also C (AreNouns a.nouns)) (f a) H) → Fine K M C (m >>= f) H
  bind_scope h k = fine_bind scope h k

  pub bind_answer : {B : Type 0} {C : Fact N} {m : Act N (Answer N)} {f : Answer N → Act N B} {H : B → Fact N} → Fine K M C m answer → ((a : Answer N) → Fine K M (Also C (Also (IsValue a.value) (AreNouns a.scope.nouns))) (f a) H) → Fine K M C (m >>= f) H
  bind_answer h k = fine_bind answer h k

  pub bind_answers : {B : Type 0} {C : Fact N} {m : Act N (Answers N)} {f : Answers N → Act N B} {H : B → Fact N} → Fine K M C m answers → ((a : Answers N) → Fine K M (Also C (Also (AreValues a.values) (AreNouns a.scope.nouns))) (f a) H) → Fine K M C (m >>= f) H
  bind_answers h k = fine_bind answers h k

  pub bind_may_value : {B : Type 0} {C : Fact N} {m : Act N (Option (Value N))} {f : Option (Value N) → Act N B} {H : B → Fact N} → Fine K M C m MayValue → ((a : Option (Value N)) → Fine K M (Also C (MayValue a)) (f a) H) → Fine K M C (m >>= f) H
  bind_may_value h k = fine_bind MayValue h k

  pub bind_may_cell : {B : Type 0} {C : Fact N} {m : Act N (Option (Cell N))} {f : Option (Cell N) → Act N B} {H : B → Fact N} → Fine K M C m MayCell → ((a : Option (Cell N)) → Fine K M (Also C (MayCell a)) (f a) H) → Fine K M C (m >>= f) H
  bind_may_cell h k = fine_bind MayCell h k

  pub bind_may_thing : {B : Type 0} {C : Fact N} {m : Act N (Option (Thing N))} {f : Option (Thing N) → Act N B} {H : B → Fact N} → Fine K M C m MayThing → ((a : Option (Thing N)) → Fine K M (Also C (MayThing a)) (f a) H) → Fine K M C (m >>= f) H
  bind_may_thing h k = fine_bind MayThing h k

  pub bind_may_known : {B : Type 0} {C : Fact N} {m : Act N (Option (Known N))} {f : Option (Known N) → Act N B} {H : B → Fact N} → Fine K M C m MayKnown → ((a : Option (Known N)) → Fine K M (Also C (MayKnown a)) (f a) H) → Fine K M C (m >>= f) H
  bind_may_known h k = fine_bind MayKnown h k

  pub bind_reply : {B : Type 0} {C : Fact N} {m : Act N (Reply N)} {f : Reply N → Act N B} {H : B → Fact N} → Fine K M C m IsReply → ((a : Reply N) → Fine K M (Also C (IsReply a)) (f a) H) → Fine K M C (m >>= f) H
  bind_reply h k = fine_bind IsReply h k

  pub bind_bound : {B : Type 0} {C : Fact N} {m : Act N (Bound N)} {f : Bound N → Act N B} {H : B → Fact N} → Fine K M C m IsBound → ((a : Bound N) → Fine K M (Also C (IsBound a)) (f a) H) → Fine K M C (m >>= f) H
  bind_bound h k = fine_bind IsBound h k

  pub bind_passed : {B : Type 0} {C : Fact N} {m : Act N (Passed N)} {f : Passed N → Act N B} {H : B → Fact N} → Fine K M C m DoesPass → ((a : Passed N) → Fine K M (Also C (DoesPass a)) (f a) H) → Fine K M C (m >>= f) H
  bind_passed h k = fine_bind DoesPass h k

  pub bind_passeds : {B : Type 0} {C : Fact N} {m : Act N (Passeds N)} {f : Passeds N → Act N B} {H : B → Fact N} → Fine K M C m DoAllPass → ((a : Passeds N) → Fine K M (Also C (DoAllPass a)) (f a) H) → Fine K M C (m >>= f) H
  bind_passeds h k = fine_bind DoAllPass h k

  pub bind_parcel : {B : Type 0} {C : Fact N} {m : Act N (Parcel N)} {f : Parcel N → Act N B} {H : B → Fact N} → Fine K M C m parcel → ((a : Parcel N) → Fine K M (Also C (DoesPass a.value)) (f a) H) → Fine K M C (m >>= f) H
  bind_parcel h k = fine_bind parcel h k

  pub end_value : {B : Type 0} {C : Fact N} {m : Act N (Value N)} {f : Value N → Act N B} {k : Words → Act N B} {l : ℕ → Value N → Act N B} {H : B → Fact N} → Fine K M C m IsValue
      → ((a : Value N) → Fine K M (Also C (IsValue a)) (f a) H) → ((p : Words) → Fine K M C (k p) H) → ((n : ℕ) (v : Value N) → Fine K M (Also C (IsValue v)) (l n v) H) → Fine K M C (ending f k l m) H
  end_value h x y z = fine_ending IsValue h x y z

  pub end_scope : {B : Type 0} {C : Fact N} {m : Act N (Scope N)} {f : Scope N → Act N B} {k : Words → Act N B} {l : ℕ → Value N → Act N B} {H : B → Fact N} → Fine K M C m scope
      → ((a : Scope N) → Fine K M (Also C (AreNouns a.nouns)) (f a) H) → ((p : Words) → Fine K M C (k p) H) → ((n : ℕ) (v : Value N) → Fine K M (Also C (IsValue v)) (l n v) H) → Fine K M C (ending f k l m) H
  end_scope h x y z = fine_ending scope h x y z

  pub end_answer : {B : Type 0} {C : Fact N} {m : Act N (Answer N)} {f : Answer N → Act N B} {k : Words → Act N B} {l : ℕ → Value N → Act N B} {H : B → Fact N} → Fine K M C m answer
      → ((a : Answer N) → Fine K M (Also C (Also (IsValue a.value) (AreNouns a.scope.nouns))) (f a) H) → ((p : Words) → Fine K M C (k p) H) → ((n : ℕ) (v : Value N) → Fine K M (Also C (IsValue v)) (l n v) H) → Fine K M C (ending f k l m) H
  end_answer h x y z = fine_ending answer h x y z

module _ {N W : Type 0} (K : Naming N W) where
  pub sound_known : (s : Vat N) (ks : List (Known N)) → Sound K s → AllOf (KnownThere s.lists) ks → SoundParts K s.things s.slots s.lists s.queue ks s.outbox
  sound_known s ks h a = record { things = h.things; slots = h.slots; lists = h.lists; stacked = h.stacked; queue = h.queue; known = a; outbox = h.outbox }

  pub sound_queue : (s : Vat N) (m : Message N) → Sound K s → MessageThere s.lists m → SoundParts K s.things s.slots s.lists (s.queue ++ m ∷ []) s.known s.outbox
  sound_queue s m g i = record { things = g.things; slots = g.slots; lists = g.lists; stacked = g.stacked; queue = all_end _ s.queue m g.queue i; known = g.known; outbox = g.outbox }

  pub sound_out : (s : Vat N) (to : ℕ) (n : Note N) → Sound K s → NotePasses n → SoundParts K s.things s.slots s.lists s.queue s.known (s.outbox ++ record { to = to; note = n } ∷ [])
  sound_out s to n g i = record { things = g.things; slots = g.slots; lists = g.lists; stacked = g.stacked; queue = g.queue; known = g.known; outbox = all_end _ s.outbox (record { to = to; note = n }) g.outbox i }

  to_there : (ls : Lists N) (c : Change N) (k : Known N) → ChangeThere ls c → KnownThere ls k → KnownThere ls (changed_to c k)
  unfolding changed_to
  to_there ls (Hold m) k g h = (h.0, all_end _ k.held m h.1 g, h.2)
  to_there ls (WaitOn q) k g h = (tt, h.1, h.2)
  to_there ls (See q) k g h = (tt, h.1, h.2)
  to_there ls (React m) k g h = (h.0, h.1, all_end _ k.reactions m h.2 g)
  to_there ls (Settle y) k g h = (g, tt, tt)
  to_there ls other k g h = h

  unless_there : (ls : Lists N) (x : Standing N) (k new : Known N) → KnownThere ls k → KnownThere ls new → KnownThere ls (unless_settled x k new)
  unfolding unless_settled
  unless_there ls (Settled y) k new h i = h
  unless_there ls other k new h i = i

  either_there : (ls : Lists N) (b : Bool) (k j : Known N) (ks js : List (Known N)) → KnownThere ls k → KnownThere ls j → AllOf (KnownThere ls) ks → AllOf (KnownThere ls) js
      → AllOf (KnownThere ls) (elim b [ true ↦ k ∷ ks | false ↦ j ∷ js ])
  either_there ls true k j ks js a b c d = (a, c)
  either_there ls false k j ks js a b c d = (b, d)

  pub changes_there : (ls : Lists N) (c : Change N) (n : N) (ks : List (Known N)) → ChangeThere ls c → AllOf (KnownThere ls) ks → AllOf (KnownThere ls) (with_change K c n ks)
  unfolding with_change changed
  changes_there ls c n [] g h = tt
  changes_there ls c n (k ∷ ks) g h = either_there ls (K.same k.name n) (changed c k) k ks (with_change K c n ks) (unless_there ls k.standing k (changed_to c k) h.0 (to_there ls c k g h.0)) h.0 h.1 (changes_there ls c n ks g h.1)

  begun_there : (ls : Lists N) (n : N) (h : ℕ) → KnownThere ls (begun n h)
  unfolding begun
  begun_there ls n h = (tt, tt, tt)

  pub known_begun : (s : Vat N) (n : N) (w : ℕ) → Sound K s → SoundParts K s.things s.slots s.lists s.queue (s.known ++ begun n w ∷ []) s.outbox
  known_begun s n w h = sound_known s (s.known ++ begun n w ∷ []) h (all_end _ s.known (begun n w) h.known (begun_there s.lists n w))

module _ {N W : Type 0} (K : Naming N W) (M : Keeper K) (law : Loose K M) where
  pub fine_enqueue : {C : Fact N} (m : Message N) → Gets K C (IsMessage m) → Fine K M C (enqueue m) nothing
  unfolding enqueue
  fine_enqueue m i = record { after = λ s h c. let g = M.sound s h in (grows_same s.things s.lists, law.any s (record s { queue = s.queue ++ m ∷ [] }) h (sound_queue K s m g (i.at s.things s.lists c)), tt) }

  pub fine_out : {C : Fact N} (to : ℕ) (n : Note N) → Gets K C (NoteDoes n) → Fine K M C (send_out to n) nothing
  unfolding send_out
  fine_out to n i = record { after = λ s h c. let g = M.sound s h in (grows_same s.things s.lists, law.any s (record s { outbox = s.outbox ++ record { to = to; note = n } ∷ [] }) h (sound_out K s to n g (i.at s.things s.lists c)), tt) }

  pub fine_gift : {C : Fact N} (n : N) (p i : ℕ) → Fine K M C (new_gift n p i) nothing
  unfolding new_gift
  fine_gift n p i = record { after = λ s h c. (grows_same s.things s.lists, law.any s (record s { gifts = s.gifts ++ record { name = n; provider = p; number = i; opened = false } ∷ [] }) h (M.sound s h), tt) }

  pub fine_open : {C : Fact N} (p i : ℕ) → Fine K M C (open_gift p i) nothing
  unfolding open_gift
  fine_open p i = record { after = λ s h c. (grows_same s.things s.lists, law.any s (record s { gifts = with_opened p i s.gifts }) h (M.sound s h), tt) }

  draws_ends : (s : Vat N) (w : ℕ) (o : Option ℕ) → M.holds s → Ends K M nothing s (draws w o s)
  unfolding draws
  draws_ends s w (Some i) h = (grows_same s.things s.lists, h)
  draws_ends s w None h = (grows_same s.things s.lists, law.any s (record s { drawn = s.drawn ++ w ∷ [] }) h (M.sound s h), tt)

  pub fine_draw : {C : Fact N} → Fine K M C (draw K) nothing
  unfolding draw
  fine_draw = record { after = λ s h c. draws_ends s _ _ h }

  pub fine_mark : {C : Fact N} (w : ℕ) → Fine K M C (mark w) nothing
  unfolding mark
  fine_mark w = record { after = λ s h c. (grows_same s.things s.lists, law.any s (record s { noticed = s.noticed ++ w ∷ [] }) h (M.sound s h), tt) }

  pub fine_alter : {C : Fact N} (c : Change N) (n : N) → Gets K C (IsChange c) → Fine K M C (alter K c n) nothing
  unfolding alter
  fine_alter d n g = record { after = λ s h c. let i = M.sound s h in (grows_same s.things s.lists, law.any s (record s { known = with_change K d n s.known }) h (sound_known K s (with_change K d n s.known) i (changes_there K s.lists d n s.known (g.at s.things s.lists c) i.known)), tt) }

  pub fine_come : {C : Fact N} (c : Coming N W) (h : ℕ) → Fine K M C (come K c h) nothing
  unfolding come
  fine_come d w = record { after = λ s h c. (grows_same s.things s.lists, law.any s (record s { known = s.known ++ begun (K.made d (length s.known)) w ∷ [] }) h (known_begun K s (K.made d (length s.known)) w (M.sound s h)), tt) }

  pub fine_promise : {C : Fact N} → Fine K M C (new_promise K) resolvable
  unfolding new_promise
  fine_promise = record { after = λ s h c. (grows_same s.things s.lists, law.any s (record s { promises = suc s.promises; known = s.known ++ begun (K.made (IsOwn s.promises) (length s.known)) s.number ∷ [] }) h (known_begun K s (K.made (IsOwn s.promises) (length s.known)) s.number (M.sound s h)), (s.promises, length s.known, refl)) }

  pub fine_new_message : {C : Fact N} (h : ℕ) → Fine K M C (new_message K h) nothing
  unfolding new_message
  fine_new_message w = record { after = λ s h c. let id = K.mailed (IsSent s.messages) (length s.mails) in let a = K.made (IsAnswer w id) (length s.known) in (grows_same s.things s.lists, law.any s (record s { messages = suc s.messages; mails = s.mails ++ id ∷ []; known = s.known ++ begun a w ∷ [] }) h (known_begun K s a w (M.sound s h)), tt) }

  pub fine_lone_message : {C : Fact N} → Fine K M C (new_lone_message K) nothing
  unfolding new_lone_message
  fine_lone_message = record { after = λ s h c. (grows_same s.things s.lists, law.any s (record s { messages = suc s.messages; mails = s.mails ++ K.mailed (IsSent s.messages) (length s.mails) ∷ [] }) h (M.sound s h), tt) }

pub ruleset gets = (got, got_left, got_right, got_itself, got_both, got_nothing, got_null, got_flag, got_number, got_text, got_prim, got_broken, got_ref, got_none, got_more, got_message, got_hold, got_react, got_settle, got_wait, got_wait_on, got_see, got_to_tell, got_ejector, got_audition)

pub ruleset fine = (gets, then_unit, then_number, then_value, then_answer, bind_number, bind_name, bind_names, bind_flag, bind_place, bind_standing, bind_gifts, bind_gift, bind_knowns, bind_value, bind_values, bind_scope, bind_answer, bind_answers, bind_may_value, bind_may_cell, bind_may_thing, bind_may_known, bind_reply, bind_bound, bind_passed, bind_passeds, bind_parcel, end_value, end_scope, end_answer, fine_some, fine_some_name, fine_if, fine_give, fine_throw, fine_eject, fine_stop, fine_look, fine_tell, fine_spend, fine_activation, fine_thing, fine_kill, fine_slot, fine_write, fine_list, fine_enqueue, fine_out, fine_gift, fine_open, fine_mark, fine_each, fine_draw, fine_alter, fine_come, fine_mail, fine_promise, fine_new_message, fine_lone_message)
