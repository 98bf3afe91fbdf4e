-- What a vat does from a sound state, under facts on what it has in hand, ends in a sound state with facts on what it gives.
use Rattle.std.proofs.Common.{◌≡◌, ℕ, zero, suc, ◌-◌, ◌<◌, Bool, true, false, List, [], ◌∷◌, ◌++◌, Option, Some, None, if◌then◌else◌, length, refl, sym, subst}
use Rattle.std.specs.Prelude.{nat_le}
use Rattle.def_machine.specs.Values.{Words, Value, Null, Flag, Number, Text, Prim, Broken, Items, Ref, Naming, IsOwn, IsAnswer, IsGift, IsSent, key}
use Rattle.def_machine.specs.State.{Bound, Scope, Cell, View, Thing, Ejector, Audition, Resolver, Message, Standing, Settled, Known, Change, Hold, Wait, WaitOn, See, React, ToTell, Settle, Passed, Passeds, Note, Put, GiftEntry, Happened, Took, Called, Back, Thrown, Left, Got, SlotMade, SlotRead, SlotWrote, ListMade, EjectorMade, AuditionMade, PromiseMade, ObjectMade, Sends, Reacts, Finished, Threw, Lost, Posted, Vat, Stop, Done, Gives, Throws, Ejects, Stops, Act, ◌>>=◌, ◌>>◌, and_then, for_some, end_by, ending, each, give, throw, stop, eject, look, tell, spend, spent, new_activation, new_thing, kill, change, dead, new_slot, holding, write_slot, new_list, enqueue, send_out, new_gift, with_opened, open_gift, is_gift, mark, draws, with_change, changed, changed_to, unless_settled, with_vat, is_in, alter, come, new_promise, new_message, draw, begun, new_lone_message}
use Rattle.def_machine.specs.Refs.{Place, Parcel, spotted}
use Rattle.def_machine.specs.Native.{Reply}
use Rattle.def_machine.specs.Scopes.{Answer, Answers}
use Rattle.law_fate.specs.Name.Names.{Bit, Named, Mail, Drew, At, Off, Entered, Owns, Gave, AllOf, ValueOk, ValuesOk, EntryOk, MessageOk, KnownOk, CellOk, ThingOk, PutOk, GiftOk, Parts}
use Rattle.law_fate.proofs.Name.Facts.{all_map, all_end, ChangeOk, OnOk, on_up, PlaceOk, put_up, values_up, message_up, known_up, cell_up, thing_up, gift_up, Fact, Nothing, Also, IsName, IsMail, IsDraw, IsVat, IsOff, IsEntry, IsOwned, IsGiven, NoteGoes, IsValue, AreValues, IsBound, AreNouns, IsMessage, AreKnown, IsGiftEntry, AreGifts, IsPlace, IsThing, IsView, IsChange, MayValue, MayCell, MayThing, MayGift, IsReply, DoesPass, DoAllPass, NoteDoes, scope, answer, answers, parcel, new_names, nothing, Holds, holds_up, MayName}

-- a line that tells of no message
abbrev pub TellsOfNone : {N : Type 0} → Happened N → Type 0
TellsOfNone (Took act m) = ⊥
TellsOfNone (Sends act m) = ⊥
TellsOfNone (Reacts act y o m) = ⊥
TellsOfNone (Lost m) = ⊥
TellsOfNone (Posted w m) = ⊥
TellsOfNone _ = Unit {0}

-- What is cared for: when a name is good in a state, what more a state keeps, how states may follow each other; and that each single change that touches no message and nothing that is known is so.
pub record Care (N : Type 0) : Type 1 where
  pub ok : Vat N → Bit N → Type 0
  pub more : Vat N → Type 0
  pub rel : Vat N → Vat N → Type 0
  pub same : (s : Vat N) → rel s s
  pub trans : (s t u : Vat N) → rel s t → rel t u → rel s u
  pub up : (s t : Vat N) → rel s t → (b : Bit N) → ok s b → ok t b
  -- the vat itself is one, and another one is one
  pub here : (s : Vat N) → more s → ok s (At s.number)
  pub near : (s : Vat N) (h : ℕ) → ok s (Off h) → ok s (At h)
  -- a name in hand may be entered; so may that of a gift at its host, which is in hand where its draw is that of a gift in hand
  pub entered : (s : Vat N) (n : N) → ok s (Named n) → ok s (Entered n)
  pub owned : (s : Vat N) (n : N) (i : ℕ) → ok s (Owns n i) → ok s (Entered n)
  pub owner : (s : Vat N) (n : N) (i : ℕ) → ok s (Owns n i) → ok s (Gave i) → ok s (Named n)
  pub drew : (s : Vat N) (i : ℕ) → ok s (Gave i) → ok s (Drew i)
  pub fuel : (s : Vat N) (n : ℕ) → rel s (record s { fuel = s.fuel - n }) × (more s → more (record s { fuel = s.fuel - n }))
  pub told : (s : Vat N) (e : Happened N) → TellsOfNone e → rel s (record s { happened = s.happened ++ e ∷ [] }) × (more s → more (record s { happened = s.happened ++ e ∷ [] }))
  pub activations : (s : Vat N) → rel s (record s { activations = suc s.activations }) × (more s → more (record s { activations = suc s.activations }))
  pub thing : (s : Vat N) (t : Thing N) → rel s (record s { things = s.things ++ t ∷ [] }) × (more s → more (record s { things = s.things ++ t ∷ [] }))
  pub killed : (s : Vat N) (n : ℕ) → rel s (record s { things = change dead n s.things }) × (more s → more (record s { things = change dead n s.things }))
  pub slot : (s : Vat N) (c : Cell N) → rel s (record s { slots = s.slots ++ c ∷ [] }) × (more s → more (record s { slots = s.slots ++ c ∷ [] }))
  pub written : (s : Vat N) (n : ℕ) (v : Value N) → rel s (record s { slots = change (holding v) n s.slots }) × (more s → more (record s { slots = change (holding v) n s.slots }))
  pub list : (s : Vat N) (vs : List (Value N)) → rel s (record s { lists = s.lists ++ vs ∷ [] }) × (more s → more (record s { lists = s.lists ++ vs ∷ [] }))

-- a change by which no name comes to be viewed
abbrev pub ViewsNone : {N : Type 0} → Change N → Type 0
ViewsNone (See q) = ⊥
ViewsNone _ = Unit {0}

-- a care to which it is all one whether a name is in hand
pub record Alike {N : Type 0} (S : Care N) : Type 0 where
  pub named : (s : Vat N) (n : N) → S.ok s (Entered n) → S.ok s (Named n)
  pub owns : (s : Vat N) (n : N) (i : ℕ) → S.ok s (Named n) → S.ok s (Owns n i)
  pub gave : (s : Vat N) (i : ℕ) → S.ok s (Drew i) → S.ok s (Gave i)

-- A name in hand that is of another host is of another vat; and what is the same name is one.
pub record Spots {N W : Type 0} (K : Naming N W) (S : Care N) : Type 0 where
  pub alike : (a b : N) → K.same a b ≡ true → a ≡ b
  pub placed : (s : Vat N) → S.more s → (n : N) → S.ok s (Named n) → PlaceOk (S.ok s) (spotted K s n (K.spot n))

-- and that each other change is so, but views and gifts
pub record Under {N W : Type 0} (K : Naming N W) (S : Care N) : Type 0 where
  pub spots : Spots K S
  pub object : (s : Vat N) (i : ℕ) → i < length s.things → S.ok s (Named (K.object i))
  pub happened : (s : Vat N) (e : Happened N) → S.rel s (record s { happened = s.happened ++ e ∷ [] }) × (S.more s → S.more (record s { happened = s.happened ++ e ∷ [] }))
  pub queue : (s : Vat N) (m : Message N) → S.rel s (record s { queue = s.queue ++ m ∷ [] }) × (S.more s → S.more (record s { queue = s.queue ++ m ∷ [] }))
  pub outbox : (s : Vat N) (p : Put N) → PutOk (S.ok s) p → S.rel s (record s { outbox = s.outbox ++ p ∷ [] }) × (S.more s → S.more (record s { outbox = s.outbox ++ p ∷ [] }))
  pub opened : (s : Vat N) (p i : ℕ) → S.rel s (record s { gifts = with_opened p i s.gifts }) × (S.more s → S.more (record s { gifts = with_opened p i s.gifts }))
  pub noticed : (s : Vat N) (w : ℕ) → S.rel s (record s { noticed = s.noticed ++ w ∷ [] }) × (S.more s → S.more (record s { noticed = s.noticed ++ w ∷ [] }))
  pub drawn : (s : Vat N) (w : ℕ) → S.rel s (record s { drawn = s.drawn ++ w ∷ [] }) × (S.more s → S.more (record s { drawn = s.drawn ++ w ∷ [] })) × S.ok (record s { drawn = s.drawn ++ w ∷ [] }) (Drew (key s.number w))
  pub altered : (s : Vat N) (c : Change N) (n : N) → ViewsNone c → ChangeOk (S.ok s) c → S.rel s (record s { known = with_change K c n s.known }) × (S.more s → S.more (record s { known = with_change K c n s.known }))
  pub answered : (s : Vat N) (h : ℕ) (m : N) → S.ok s (Mail m) → S.ok s (At h)
      → S.rel s (record s { known = s.known ++ begun (K.made (IsAnswer h m) (length s.known)) h ∷ [] }) × (S.more s → S.more (record s { known = s.known ++ begun (K.made (IsAnswer h m) (length s.known)) h ∷ [] }))
      × S.ok (record s { known = s.known ++ begun (K.made (IsAnswer h m) (length s.known)) h ∷ [] }) (Named (K.made (IsAnswer h m) (length s.known)))

-- and of gifts: that come to be entered, that are in hand, and that come to be at their host
pub record Giving {N W : Type 0} (K : Naming N W) (S : Care N) : Type 0 where
  pub gift : (s : Vat N) (g : GiftEntry N) → GiftOk (S.ok s) g → S.rel s (record s { gifts = s.gifts ++ g ∷ [] }) × (S.more s → S.more (record s { gifts = s.gifts ++ g ∷ [] }))
  pub given : (s : Vat N) (h i : ℕ) → S.ok s (Gave i) → S.ok s (At h)
      → S.rel s (record s { known = s.known ++ begun (K.made (IsGift h i) (length s.known)) h ∷ [] }) × (S.more s → S.more (record s { known = s.known ++ begun (K.made (IsGift h i) (length s.known)) h ∷ [] }))
      × S.ok (record s { known = s.known ++ begun (K.made (IsGift h i) (length s.known)) h ∷ [] }) (Named (K.made (IsGift h i) (length s.known)))
  pub hosted : (s : Vat N) (i : ℕ) → S.more s → S.ok s (Drew i) → let n = K.made (IsGift s.number i) (length s.known) in let t = record s { known = s.known ++ begun n s.number ∷ [] } in
      S.rel s t × (S.more s → S.more t) × S.ok t (Owns n i)

-- and of a new promise, and of a new message with its answer
pub record Makes {N W : Type 0} (K : Naming N W) (S : Care N) : Type 0 where
  pub promised : (s : Vat N) → let t = record s { promises = suc s.promises; known = s.known ++ begun (K.made (IsOwn s.promises) (length s.known)) s.number ∷ [] } in
      S.rel s t × (S.more s → S.more t) × S.ok t (Named (K.made (IsOwn s.promises) (length s.known)))
  pub messaged : (s : Vat N) (h : ℕ) → S.ok s (At h) → let id = K.mailed (IsSent s.messages) (length s.mails) in let a = K.made (IsAnswer h id) (length s.known) in let t = record s { messages = suc s.messages; mails = s.mails ++ id ∷ []; known = s.known ++ begun a h ∷ [] } in
      S.rel s t × (S.more s → S.more t) × S.ok t (Mail id) × S.ok t (Named a)
  pub lone : (s : Vat N) → let id = K.mailed (IsSent s.messages) (length s.mails) in let t = record s { messages = suc s.messages; mails = s.mails ++ id ∷ [] } in
      S.rel s t × (S.more s → S.more t) × S.ok t (Mail id)

pub parts_up : {N : Type 0} (P Q : Bit N → Type 0) → ((b : Bit N) → P b → Q b) → (ts : List (Thing N)) (cs : List (Cell N)) (ls : List (List (Value N))) (ms : List (Message N)) (ks : List (Known N)) (gs : List (GiftEntry N)) (ps : List (Put N))
    → Parts P ts cs ls ms ks gs ps → Parts Q ts cs ls ms ks gs ps
parts_up P Q up ts cs ls ms ks gs ps h = record {
  things = all_map (thing_up P Q up) ts h.things;
  slots = all_map (cell_up P Q up) cs h.slots;
  lists = all_map (values_up P Q up) ls h.lists;
  queue = all_map (message_up P Q up) ms h.queue;
  known = all_map (known_up P Q up) ks h.known;
  gifts = all_map (gift_up P Q up) gs h.gifts;
  outbox = all_map (put_up P Q up) ps h.outbox;
}

pub record Sound {N : Type 0} (S : Care N) (s : Vat N) : Type 0 where
  pub parts : Parts (S.ok s) s.things s.slots s.lists s.queue s.known s.gifts s.outbox
  pub more : S.more s

module _ {N : Type 0} (S : Care N) where
  -- what follows from a fact
  pub record Gets (C F : Fact N) : Type 0 where
    pub at : (s : Vat N) → Holds (S.ok s) C → Holds (S.ok s) F

  -- how it ends; of a stop nothing is said
  abbrev pub Ends : {A : Type 0} → (A → Fact N) → Vat N → Done N A → Type 0
  Ends G s (Gives a t) = S.rel s t × Sound S t × Holds (S.ok t) (G a)
  Ends G s (Throws p t) = S.rel s t × Sound S t
  Ends G s (Ejects n v t) = S.rel s t × Sound S t × ValueOk (S.ok t) v
  Ends G s (Stops c t) = Unit {0}

  pub record Fine {A : Type 0} (C : Fact N) (m : Act N A) (G : A → Fact N) : Type 0 where
    pub after : (s : Vat N) → Sound S s → Holds (S.ok s) C → Ends G s (m s)

  -- all that a state has, in the next
  pub still : (s t : Vat N) → S.rel s t → Sound S s → Parts (S.ok t) s.things s.slots s.lists s.queue s.known s.gifts s.outbox
  still s t r h = parts_up (S.ok s) (S.ok t) (S.up s t r) s.things s.slots s.lists s.queue s.known s.gifts s.outbox h.parts

  -- ---- what follows from facts

  pub got : (C D : Fact N) → Gets (Also C D) D
  got C D = record { at = λ s h. h.1 }

  pub got_left : (C D F : Fact N) → Gets C F → Gets (Also C D) F
  got_left C D F g = record { at = λ s h. g.at s h.0 }

  pub got_right : (C D F : Fact N) → Gets D F → Gets (Also C D) F
  got_right C D F g = record { at = λ s h. g.at s h.1 }

  pub got_itself : (C : Fact N) → Gets C C
  got_itself C = record { at = λ s h. h }

  pub got_both : (C D F : Fact N) → Gets C D → Gets C F → Gets C (Also D F)
  got_both C D F g k = record { at = λ s h. (g.at s h, k.at s h) }

  pub got_nothing : (C : Fact N) → Gets C Nothing
  got_nothing C = record { at = λ s h. tt }

  pub got_null : (C : Fact N) → Gets C (IsValue Null)
  got_null C = record { at = λ s h. tt }

  pub got_flag : (C : Fact N) (b : Bool) → Gets C (IsValue (Flag b))
  got_flag C b = record { at = λ s h. tt }

  pub got_number : (C : Fact N) (z : _) → Gets C (IsValue (Number z))
  got_number C z = record { at = λ s h. tt }

  pub got_text : (C : Fact N) (t : Words) → Gets C (IsValue (Text t))
  got_text C t = record { at = λ s h. tt }

  pub got_prim : (C : Fact N) (n : ℕ) → Gets C (IsValue (Prim n))
  got_prim C n = record { at = λ s h. tt }

  pub got_broken : (C : Fact N) (t : Words) → Gets C (IsValue (Broken t))
  got_broken C t = record { at = λ s h. tt }

  pub got_items : (C : Fact N) (k : ℕ) → Gets C (IsValue (Items k))
  got_items C k = record { at = λ s h. tt }

  pub got_ref : (C : Fact N) (n : N) → Gets C (IsName n) → Gets C (IsValue (Ref n))
  got_ref C n g = record { at = λ s h. g.at s h }

  pub got_none : (C : Fact N) → Gets C (AreValues [])
  got_none C = record { at = λ s h. tt }

  pub got_more : (C : Fact N) (v : Value N) (vs : List (Value N)) → Gets C (IsValue v) → Gets C (AreValues vs) → Gets C (AreValues (v ∷ vs))
  got_more C v vs g k = record { at = λ s h. (g.at s h, k.at s h) }

  pub got_message : (C : Fact N) (m : Message N) → Gets C (IsMail m.id) → Gets C (IsValue m.target) → Gets C (AreValues m.args) → Gets C (MayName m.answer) → Gets C (IsMessage m)
  got_message C m i g k a = record { at = λ s h. (i.at s h, g.at s h, k.at s h, a.at s h) }

  pub got_some : (C : Fact N) (n : N) → Gets C (IsName n) → Gets C (MayName (Some n))
  got_some C n g = record { at = λ s h. g.at s h }

  pub got_lone : (C : Fact N) → Gets C (MayName None)
  got_lone C = record { at = λ s h. tt }

  pub got_hold : (C : Fact N) (m : Message N) → Gets C (IsMessage m) → Gets C (IsChange (Hold m))
  got_hold C m g = record { at = λ s h. g.at s h }

  pub got_react : (C : Fact N) (m : Message N) → Gets C (IsMessage m) → Gets C (IsChange (React m))
  got_react C m g = record { at = λ s h. g.at s h }

  pub got_settle : (C : Fact N) (y : Value N) → Gets C (IsValue y) → Gets C (IsChange (Settle y))
  got_settle C y g = record { at = λ s h. g.at s h }

  pub got_entry : (C : Fact N) (n : N) → Gets C (IsName n) → Gets C (IsEntry n)
  got_entry C n g = record { at = λ s h. S.entered s n (g.at s h) }

  pub got_drew : (C : Fact N) (i : ℕ) → Gets C (IsGiven i) → Gets C (IsDraw i)
  got_drew C i g = record { at = λ s h. S.drew s i (g.at s h) }

  pub got_wait : (C : Fact N) (q : N) → Gets C (IsEntry q) → Gets C (IsChange (Wait q))
  got_wait C q g = record { at = λ s h. g.at s h }

  pub got_wait_on : (C : Fact N) (q : N) → Gets C (IsName q) → Gets C (IsChange (WaitOn q))
  got_wait_on C q g = record { at = λ s h. g.at s h }

  pub got_ejector : (C : Fact N) (b : Bool) → Gets C (IsThing (Ejector b))
  got_ejector C b = record { at = λ s h. tt }

  pub got_resolver : (C : Fact N) (p : N) → Gets C (IsName p) → Gets C (IsThing (Resolver p))
  got_resolver C p g = record { at = λ s h. g.at s h }

  pub got_audition : (C : Fact N) (b : Bool) (x : View N) → Gets C (IsView x) → Gets C (IsThing (Audition b x))
  got_audition C b x g = record { at = λ s h. g.at s h }

  pub got_vat : (C : Fact N) (h : ℕ) → Gets C (IsOff h) → Gets C (IsVat h)
  got_vat C h g = record { at = λ s c. S.near s h (g.at s c) }

  -- ---- one thing after another

  pub widen : {A : Type 0} (G : A → Fact N) (s t : Vat N) (d : Done N A) → S.rel s t → Ends G t d → Ends G s d
  widen G s t (Gives a u) g h = (S.trans s t u g h.0, h.1, h.2)
  widen G s t (Throws p u) g h = (S.trans s t u g h.0, h.1)
  widen G s t (Ejects n v u) g h = (S.trans s t u g h.0, h.1, h.2)
  widen G s t (Stops c u) g h = tt

  pub rise : (s t : Vat N) → S.rel s t → (C : Fact N) → Holds (S.ok s) C → Holds (S.ok t) C
  rise s t r C c = holds_up (S.ok s) (S.ok t) (S.up s t r) C c

  bind_ends : {A B : Type 0} (C : Fact N) (P : A → Fact N) (H : B → Fact N) (s : Vat N) (d : Done N A) (f : A → Act N B) → Holds (S.ok s) C → Ends P s d
      → ((a : A) → Fine (Also C (P a)) (f a) H) → Ends H s (and_then d f)
  unfolding and_then
  bind_ends C P H s (Gives a t) f c h k = widen H s t (f a t) h.0 ((k a).after t h.1 (rise s t h.0 C c, h.2))
  bind_ends C P H s (Stops r t) f c h k = tt
  bind_ends C P H s other f c h k = h

  pub fine_bind : {A B : Type 0} {C : Fact N} {m : Act N A} {f : A → Act N B} {H : B → Fact N} (P : A → Fact N) → Fine C m P → ((a : A) → Fine (Also C (P a)) (f a) H) → Fine C (m >>= f) H
  unfolding ◌>>=◌
  fine_bind {C = C} {m = m} {f = f} {H = H} P h k = record { after = λ s g c. bind_ends C P H s (m s) f c (h.after s g c) k }

  -- one thing after another, from one state: what follows asks nothing of what is given
  pub less_ends : {A B : Type 0} (C : Fact N) (P : A → Fact N) (H : B → Fact N) (s : Vat N) (d : Done N A) (f : A → Act N B) → Holds (S.ok s) C → Ends P s d
      → ((a : A) → Fine C (f a) H) → Ends H s (and_then d f)
  unfolding and_then
  less_ends C P H s (Gives a t) f c h k = widen H s t (f a t) h.0 ((k a).after t h.1 (rise s t h.0 C c))
  less_ends C P H s (Stops r t) f c h k = tt
  less_ends C P H s other f c h k = h

  pub fine_less : {A B : Type 0} {C : Fact N} {m : Act N A} {f : A → Act N B} {H : B → Fact N} (P : A → Fact N) → Fine C m P → ((a : A) → Fine C (f a) H) → Fine C (m >>= f) H
  unfolding ◌>>=◌
  fine_less {C = C} {m = m} {f = f} {H = H} P h k = record { after = λ s g c. less_ends C P H s (m s) f c (h.after s g c) k }

  pub fine_then : {A B : Type 0} {C : Fact N} {m : Act N A} {n : Act N B} {H : B → Fact N} (P : A → Fact N) → Fine C m P → Fine C n H → Fine C (m >> n) H
  unfolding ◌>>◌
  fine_then {C = C} {m = m} {n = n} {H = H} P h k = record { after = λ s g c. less_ends C P H s (m s) (λ _. n) c (h.after s g c) (λ _. k) }

  pub end_ends : {A B : Type 0} (C : Fact N) (P : A → Fact N) (H : B → Fact N) (s : Vat N) (d : Done N A) (f : A → Act N B) (k : Words → Act N B) (l : ℕ → Value N → Act N B) → Holds (S.ok s) C → Ends P s d
      → ((a : A) → Fine (Also C (P a)) (f a) H) → ((p : Words) → Fine C (k p) H) → ((n : ℕ) (v : Value N) → Fine (Also C (IsValue v)) (l n v) H) → Ends H s (end_by f k l d)
  unfolding end_by
  end_ends C P H s (Gives a t) f k l c h x y z = widen H s t (f a t) h.0 ((x a).after t h.1 (rise s t h.0 C c, h.2))
  end_ends C P H s (Throws p t) f k l c h x y z = widen H s t (k p t) h.0 ((y p).after t h.1 (rise s t h.0 C c))
  end_ends C P H s (Ejects n v t) f k l c h x y z = widen H s t (l n v t) h.0 ((z n v).after t h.1 (rise s t h.0 C c, h.2))
  end_ends C P H s (Stops r t) f k l c h x y z = tt

  pub fine_ending : {A B : Type 0} {C : Fact N} {m : Act N A} {f : A → Act N B} {k : Words → Act N B} {l : ℕ → Value N → Act N B} {H : B → Fact N} (P : A → Fact N) → Fine C m P
      → ((a : A) → Fine (Also C (P a)) (f a) H) → ((p : Words) → Fine C (k p) H) → ((n : ℕ) (v : Value N) → Fine (Also C (IsValue v)) (l n v) H) → Fine C (ending f k l m) H
  unfolding ending
  fine_ending {C = C} {m = m} {f = f} {k = k} {l = l} {H = H} P h x y z = record { after = λ s g c. end_ends C P H s (m s) f k l c (h.after s g c) x y z }

  pub fine_some : {B : Type 0} {C : Fact N} (o : Option (Value N)) {f : Value N → Act N B} {m : Act N B} {H : B → Fact N} → Gets C (MayValue o) → ((a : Value N) → Fine (Also C (IsValue a)) (f a) H) → Fine C m H → Fine C (for_some o f m) H
  unfolding for_some
  fine_some (Some a) g h k = record { after = λ s i c. (h a).after s i (c, g.at s c) }
  fine_some None g h k = k

  pub fine_some_name : {B : Type 0} {C : Fact N} (o : Option N) {f : N → Act N B} {m : Act N B} {H : B → Fact N} → Gets C (MayName o) → ((a : N) → Fine (Also C (IsName a)) (f a) H) → Fine C m H → Fine C (for_some o f m) H
  unfolding for_some
  fine_some_name (Some a) g h k = record { after = λ s i c. (h a).after s i (c, g.at s c) }
  fine_some_name None g h k = k

  pub fine_if : {A : Type 0} {C : Fact N} (b : Bool) {m n : Act N A} {H : A → Fact N} → Fine C m H → Fine C n H → Fine C (if b then m else n) H
  fine_if true h k = h
  fine_if false h k = k

  pub fine_give : {A : Type 0} {C : Fact N} (a : A) {H : A → Fact N} → Gets C (H a) → Fine C (give a) H
  unfolding give
  fine_give a g = record { after = λ s h c. (S.same s, h, g.at s c) }

  pub fine_throw : {A : Type 0} {C : Fact N} (p : Words) {H : A → Fact N} → Fine C (throw {A = A} p) H
  unfolding throw
  fine_throw p = record { after = λ s h c. (S.same s, h) }

  pub fine_eject : {A : Type 0} {C : Fact N} (n : ℕ) (v : Value N) {H : A → Fact N} → Gets C (IsValue v) → Fine C (eject {A = A} n v) H
  unfolding eject
  fine_eject n v g = record { after = λ s h c. (S.same s, h, g.at s c) }

  pub fine_stop : {A : Type 0} {C : Fact N} (c : Stop) {H : A → Fact N} → Fine C (stop {A = A} c) H
  unfolding stop
  fine_stop r = record { after = λ s h c. tt }

  more_ends : {A : Type 0} (P H : A → Fact N) (s : Vat N) (d : Done N A) → ((a : A) → Gets (P a) (H a)) → Ends P s d → Ends H s d
  more_ends P H s (Gives a t) g h = (h.0, h.1, (g a).at t h.2)
  more_ends P H s (Stops r t) g h = tt
  more_ends P H s other g h = h

  pub fine_more : {A : Type 0} {C : Fact N} {m : Act N A} (P H : A → Fact N) → Fine C m P → ((a : A) → Gets (P a) (H a)) → Fine C m H
  fine_more {m = m} P H h g = record { after = λ s i c. more_ends P H s (m s) g (h.after s i c) }

  with_ends : {A : Type 0} (C F : Fact N) (P : A → Fact N) (s : Vat N) (d : Done N A) → Gets C F → Holds (S.ok s) C → Ends P s d → Ends (λ a. Also (P a) F) s d
  with_ends C F P s (Gives a t) g c h = (h.0, h.1, (h.2, g.at t (rise s t h.0 C c)))
  with_ends C F P s (Stops r t) g c h = tt
  with_ends C F P s other g c h = h

  -- with a fact that held before
  pub fine_with : {A : Type 0} {C : Fact N} {m : Act N A} {P : A → Fact N} (F : Fact N) → Gets C F → Fine C m P → Fine C m (λ a. Also (P a) F)
  fine_with {C = C} {m = m} {P = P} F g h = record { after = λ s i c. with_ends C F P s (m s) g c (h.after s i c) }

  pub fine_left : {A : Type 0} {C D : Fact N} {m : Act N A} {H : A → Fact N} → Fine C m H → Fine (Also C D) m H
  fine_left h = record { after = λ s i c. h.after s i c.0 }

  pub fine_under : {A : Type 0} {C D : Fact N} {m : Act N A} {H : A → Fact N} → Gets C D → Fine D m H → Fine C m H
  fine_under g h = record { after = λ s i c. h.after s i (g.at s c) }

  pub fine_look : {A : Type 0} {C : Fact N} (f : Vat N → A) → Fine C (look f) nothing
  unfolding look
  fine_look f = record { after = λ s h c. (S.same s, h, tt) }

  -- a fact on what is looked at
  pub fine_sees : {A : Type 0} {C : Fact N} (f : Vat N → A) (H : A → Fact N) → ((s : Vat N) → Sound S s → Holds (S.ok s) C → Holds (S.ok s) (H (f s))) → Fine C (look f) H
  unfolding look
  fine_sees f H g = record { after = λ s h c. (S.same s, h, g s h c) }

  fine_told : {C : Fact N} (e : Happened N) → TellsOfNone e → Fine C (tell e) nothing
  unfolding tell
  fine_told e n = record { after = λ s h c. let r = S.told s e n in (r.0, record { parts = still s _ r.0 h; more = r.1 h.more }, tt) }

  pub told_called : {C : Fact N} (act : ℕ) (y : Value N) (verb : Words) (args : List (Value N)) (begins : Option ℕ) → Fine C (tell (Called act y verb args begins)) nothing
  told_called act y verb args begins = fine_told (Called act y verb args begins) tt

  pub told_back : {C : Fact N} (act : ℕ) (y : Value N) → Fine C (tell (Back act y)) nothing
  told_back act y = fine_told (Back act y) tt

  pub told_thrown : {C : Fact N} (act : ℕ) (p : Words) → Fine C (tell (Thrown act p)) nothing
  told_thrown act p = fine_told (Thrown act p) tt

  pub told_left : {C : Fact N} (act : ℕ) → Fine C (tell (Left act)) nothing
  told_left act = fine_told (Left act) tt

  pub told_got : {C : Fact N} (act : ℕ) (y : Value N) → Fine C (tell (Got act y)) nothing
  told_got act y = fine_told (Got act y) tt

  pub told_slot_made : {C : Fact N} (act k : ℕ) (y : Value N) → Fine C (tell (SlotMade act k y)) nothing
  told_slot_made act k y = fine_told (SlotMade act k y) tt

  pub told_slot_read : {C : Fact N} (act k : ℕ) (y : Value N) → Fine C (tell (SlotRead act k y)) nothing
  told_slot_read act k y = fine_told (SlotRead act k y) tt

  pub told_slot_wrote : {C : Fact N} (act k : ℕ) (y : Value N) → Fine C (tell (SlotWrote act k y)) nothing
  told_slot_wrote act k y = fine_told (SlotWrote act k y) tt

  pub told_list_made : {C : Fact N} (act k : ℕ) (vs : List (Value N)) → Fine C (tell (ListMade act k vs)) nothing
  told_list_made act k vs = fine_told (ListMade act k vs) tt

  pub told_ejector_made : {C : Fact N} (act : ℕ) (n : N) → Fine C (tell (EjectorMade act n)) nothing
  told_ejector_made act n = fine_told (EjectorMade act n) tt

  pub told_audition_made : {C : Fact N} (act : ℕ) (n : N) → Fine C (tell (AuditionMade act n)) nothing
  told_audition_made act n = fine_told (AuditionMade act n) tt

  pub told_promise_made : {C : Fact N} (act : ℕ) (p n : N) → Fine C (tell (PromiseMade act p n)) nothing
  told_promise_made act p n = fine_told (PromiseMade act p n) tt

  pub told_object_made : {C : Fact N} (act : ℕ) (n : N) (x : Words) (bs : List (Bound N)) (stamps : List (Value N)) → Fine C (tell (ObjectMade act n x bs stamps)) nothing
  told_object_made act n x bs stamps = fine_told (ObjectMade act n x bs stamps) tt

  pub told_finished : {C : Fact N} (act : ℕ) (y : Value N) → Fine C (tell (Finished act y)) nothing
  told_finished act y = fine_told (Finished act y) tt

  pub told_threw : {C : Fact N} (act : ℕ) (p : Words) → Fine C (tell (Threw act p)) nothing
  told_threw act p = fine_told (Threw act p) tt

  spend_ends : (s : Vat N) (n : ℕ) (b : Bool) → Sound S s → Ends nothing s (spent n b s)
  unfolding spent
  spend_ends s n true h = let r = S.fuel s n in (r.0, record { parts = still s _ r.0 h; more = r.1 h.more }, tt)
  spend_ends s n false h = tt

  pub fine_spend : {C : Fact N} (n : ℕ) → Fine C (spend n) nothing
  unfolding spend
  fine_spend n = record { after = λ s h c. spend_ends s n (nat_le n s.fuel) h }

  pub fine_activation : {C : Fact N} → Fine C new_activation nothing
  unfolding new_activation
  fine_activation = record { after = λ s h c. let r = S.activations s in (r.0, record { parts = still s _ r.0 h; more = r.1 h.more }, tt) }

  -- What is good of a thing may rest on that it is there: an object may be among its own captures.
  pub thing_comes : (s : Vat N) (x : Thing N) → Sound S s → ThingOk (S.ok (record s { things = s.things ++ x ∷ [] })) x → S.rel s (record s { things = s.things ++ x ∷ [] }) × Sound S (record s { things = s.things ++ x ∷ [] })
  thing_comes s x h g = let r = S.thing s x in let t = record s { things = s.things ++ x ∷ [] } in let p = still s t r.0 h in
      (r.0, record { parts = record { things = all_end (ThingOk (S.ok t)) s.things x p.things g; slots = p.slots; lists = p.lists; queue = p.queue; known = p.known; gifts = p.gifts; outbox = p.outbox }; more = r.1 h.more })

  pub fine_thing : {C : Fact N} (x : Thing N) → Gets C (IsThing x) → Fine C (new_thing x) nothing
  unfolding new_thing
  fine_thing x g = record { after = λ s h c. let t = record s { things = s.things ++ x ∷ [] } in let e = thing_comes s x h (thing_up (S.ok s) (S.ok t) (S.up s t (S.thing s x).0) x (g.at s c)) in (e.0, e.1, tt) }

  dead_ok : (P : Bit N → Type 0) (x : Thing N) → ThingOk P x → ThingOk P (dead x)
  unfolding dead
  dead_ok P (Ejector live) h = tt
  dead_ok P other h = h

  change_ok : {A : Type 0} (P : A → Type 0) (f : A → A) → ((x : A) → P x → P (f x)) → (n : ℕ) (xs : List A) → AllOf P xs → AllOf P (change f n xs)
  unfolding change
  change_ok P f k n [] h = tt
  change_ok P f k zero (x ∷ xs) h = (k x h.0, h.1)
  change_ok P f k (suc n) (x ∷ xs) h = (h.0, change_ok P f k n xs h.1)

  pub fine_kill : {C : Fact N} (n : ℕ) → Fine C (kill n) nothing
  unfolding kill
  fine_kill n = record {
    after = λ s h c. let r = S.killed s n in let t = record s { things = change dead n s.things } in let p = still s t r.0 h in
        (r.0, record { parts = record { things = change_ok (ThingOk (S.ok t)) dead (dead_ok (S.ok t)) n s.things p.things; slots = p.slots; lists = p.lists; queue = p.queue; known = p.known; gifts = p.gifts; outbox = p.outbox }; more = r.1 h.more }, tt);
  }

  pub fine_slot : {C : Fact N} (g v : Value N) → Gets C (IsValue g) → Gets C (IsValue v) → Fine C (new_slot g v) nothing
  unfolding new_slot
  fine_slot g v i j = record {
    after = λ s h c. let x : Cell N = record { guard = g; value = v } in let r = S.slot s x in let t = record s { slots = s.slots ++ x ∷ [] } in let p = still s t r.0 h in
        (r.0, record { parts = record { things = p.things; slots = all_end (CellOk (S.ok t)) s.slots x p.slots (cell_up (S.ok s) (S.ok t) (S.up s t r.0) x (i.at s c, j.at s c)); lists = p.lists; queue = p.queue; known = p.known; gifts = p.gifts; outbox = p.outbox }; more = r.1 h.more }, tt);
  }

  pub fine_write : {C : Fact N} (n : ℕ) (v : Value N) → Gets C (IsValue v) → Fine C (write_slot n v) nothing
  unfolding write_slot holding
  fine_write {C = C} n v g = record {
    after = λ s h c. let r = S.written s n v in let t = record s { slots = change (holding v) n s.slots } in let p = still s t r.0 h in
        let w : ValueOk (S.ok t) v = rise s t r.0 (IsValue v) (g.at s c) in
        (r.0, record { parts = record { things = p.things; slots = change_ok (CellOk (S.ok t)) (holding v) (λ x k. (k.0, w)) n s.slots p.slots; lists = p.lists; queue = p.queue; known = p.known; gifts = p.gifts; outbox = p.outbox }; more = r.1 h.more }, tt);
  }

  pub fine_list : {C : Fact N} (vs : List (Value N)) → Gets C (AreValues vs) → Fine C (new_list vs) nothing
  unfolding new_list
  fine_list vs g = record {
    after = λ s h c. let r = S.list s vs in let t = record s { lists = s.lists ++ vs ∷ [] } in let p = still s t r.0 h in
        (r.0, record { parts = record { things = p.things; slots = p.slots; lists = all_end (ValuesOk (S.ok t)) s.lists vs p.lists (rise s t r.0 (AreValues vs) (g.at s c)); queue = p.queue; known = p.known; gifts = p.gifts; outbox = p.outbox }; more = r.1 h.more }, tt);
  }

  pub fine_each : {A : Type 0} {C : Fact N} {f : A → Act N (Unit {0})} (xs : List A) → ((x : A) → Fine C (f x) nothing) → Fine C (each f xs) nothing
  unfolding each
  fine_each [] h = fine_give tt (got_nothing _)
  fine_each (x ∷ xs) h = fine_then nothing (h x) (fine_each xs h)

  -- ---- by what is given

  pub then_unit : {B : Type 0} {C : Fact N} {m : Act N (Unit {0})} {n : Act N B} {H : B → Fact N} → Fine C m nothing → Fine C n H → Fine C (m >> n) H
  then_unit h k = fine_then nothing h k

  pub then_number : {B : Type 0} {C : Fact N} {m : Act N ℕ} {n : Act N B} {H : B → Fact N} → Fine C m nothing → Fine C n H → Fine C (m >> n) H
  then_number h k = fine_then nothing h k

  pub then_value : {B : Type 0} {C : Fact N} {m : Act N (Value N)} {n : Act N B} {H : B → Fact N} → Fine C m IsValue → Fine C n H → Fine C (m >> n) H
  then_value h k = fine_then IsValue h k

  pub then_answer : {B : Type 0} {C : Fact N} {m : Act N (Answer N)} {n : Act N B} {H : B → Fact N} → Fine C m answer → Fine C n H → Fine C (m >> n) H
  then_answer h k = fine_then answer h k

  pub bind_vat : {B : Type 0} {C : Fact N} {m : Act N ℕ} {f : ℕ → Act N B} {H : B → Fact N} → Fine C m IsVat → ((a : ℕ) → Fine (Also C (IsVat a)) (f a) H) → Fine C (m >>= f) H
  bind_vat h k = fine_bind IsVat h k

  pub bind_number : {B : Type 0} {C : Fact N} {m : Act N ℕ} {f : ℕ → Act N B} {H : B → Fact N} → Fine C m nothing → ((a : ℕ) → Fine C (f a) H) → Fine C (m >>= f) H
  bind_number h k = fine_less nothing h k

  pub bind_draw : {B : Type 0} {C : Fact N} {m : Act N ℕ} {f : ℕ → Act N B} {H : B → Fact N} → Fine C m IsDraw → ((a : ℕ) → Fine (Also C (IsDraw a)) (f a) H) → Fine C (m >>= f) H
  bind_draw h k = fine_bind IsDraw h k

  pub bind_name : {B : Type 0} {C : Fact N} {m : Act N N} {f : N → Act N B} {H : B → Fact N} → Fine C m IsName → ((a : N) → Fine (Also C (IsName a)) (f a) H) → Fine C (m >>= f) H
  bind_name h k = fine_bind IsName h k

  pub bind_entry : {B : Type 0} {C : Fact N} {m : Act N N} {f : N → Act N B} {H : B → Fact N} → Fine C m IsEntry → ((a : N) → Fine (Also C (IsEntry a)) (f a) H) → Fine C (m >>= f) H
  bind_entry h k = fine_bind IsEntry h k

  pub bind_names : {B : Type 0} {C : Fact N} {m : Act N (N × N)} {f : N × N → Act N B} {H : B → Fact N} → Fine C m new_names → ((a : N × N) → Fine (Also C (Also (IsMail a.0) (IsName a.1))) (f a) H) → Fine C (m >>= f) H
  bind_names h k = fine_bind new_names h k

  pub bind_flag : {B : Type 0} {C : Fact N} {m : Act N Bool} {f : Bool → Act N B} {H : B → Fact N} → Fine C m nothing → ((a : Bool) → Fine C (f a) H) → Fine C (m >>= f) H
  bind_flag h k = fine_less nothing h k

  pub bind_place : {B : Type 0} {C : Fact N} {m : Act N (Place N)} {f : Place N → Act N B} {H : B → Fact N} → Fine C m IsPlace → ((a : Place N) → Fine (Also C (IsPlace a)) (f a) H) → Fine C (m >>= f) H
  bind_place h k = fine_bind IsPlace h k

  pub bind_standing : {B : Type 0} {C : Fact N} {m : Act N (Standing N)} {f : Standing N → Act N B} {H : B → Fact N} → Fine C m nothing → ((a : Standing N) → Fine C (f a) H) → Fine C (m >>= f) H
  bind_standing h k = fine_less nothing h k

  pub bind_gifts : {B : Type 0} {C : Fact N} {m : Act N (List (GiftEntry N))} {f : List (GiftEntry N) → Act N B} {H : B → Fact N} → Fine C m AreGifts → ((a : List (GiftEntry N)) → Fine (Also C (AreGifts a)) (f a) H) → Fine C (m >>= f) H
  bind_gifts h k = fine_bind AreGifts h k

  pub bind_gift : {B : Type 0} {C : Fact N} {m : Act N (Option (GiftEntry N))} {f : Option (GiftEntry N) → Act N B} {H : B → Fact N} → Fine C m MayGift → ((a : Option (GiftEntry N)) → Fine (Also C (MayGift a)) (f a) H) → Fine C (m >>= f) H
  bind_gift h k = fine_bind MayGift h k

  pub bind_knowns : {B : Type 0} {C : Fact N} {m : Act N (List (Known N))} {f : List (Known N) → Act N B} {H : B → Fact N} → Fine C m AreKnown → ((a : List (Known N)) → Fine (Also C (AreKnown a)) (f a) H) → Fine C (m >>= f) H
  bind_knowns h k = fine_bind AreKnown h k

  pub bind_value : {B : Type 0} {C : Fact N} {m : Act N (Value N)} {f : Value N → Act N B} {H : B → Fact N} → Fine C m IsValue → ((a : Value N) → Fine (Also C (IsValue a)) (f a) H) → Fine C (m >>= f) H
  bind_value h k = fine_bind IsValue h k

  pub bind_values : {B : Type 0} {C : Fact N} {m : Act N (List (Value N))} {f : List (Value N) → Act N B} {H : B → Fact N} → Fine C m AreValues → ((a : List (Value N)) → Fine (Also C (AreValues a)) (f a) H) → Fine C (m >>= f) H
  bind_values h k = fine_bind AreValues h k

  pub bind_scope : {B : Type 0} {C : Fact N} {m : Act N (Scope N)} {f : Scope N → Act N B} {H : B → Fact N} → Fine C m scope → ((a : Scope N) → Fine (Also C (AreNouns a.nouns)) (f a) H) → Fine C (m >>= f) H
  bind_scope h k = fine_bind scope h k

  pub bind_answer : {B : Type 0} {C : Fact N} {m : Act N (Answer N)} {f : Answer N → Act N B} {H : B → Fact N} → Fine C m answer → ((a : Answer N) → Fine (Also C (Also (IsValue a.value) (AreNouns a.scope.nouns))) (f a) H) → Fine C (m >>= f) H
  bind_answer h k = fine_bind answer h k

  pub bind_answers : {B : Type 0} {C : Fact N} {m : Act N (Answers N)} {f : Answers N → Act N B} {H : B → Fact N} → Fine C m answers → ((a : Answers N) → Fine (Also C (Also (AreValues a.values) (AreNouns a.scope.nouns))) (f a) H) → Fine C (m >>= f) H
  bind_answers h k = fine_bind answers h k

  pub bind_may_value : {B : Type 0} {C : Fact N} {m : Act N (Option (Value N))} {f : Option (Value N) → Act N B} {H : B → Fact N} → Fine C m MayValue → ((a : Option (Value N)) → Fine (Also C (MayValue a)) (f a) H) → Fine C (m >>= f) H
  bind_may_value h k = fine_bind MayValue h k

  pub bind_may_cell : {B : Type 0} {C : Fact N} {m : Act N (Option (Cell N))} {f : Option (Cell N) → Act N B} {H : B → Fact N} → Fine C m MayCell → ((a : Option (Cell N)) → Fine (Also C (MayCell a)) (f a) H) → Fine C (m >>= f) H
  bind_may_cell h k = fine_bind MayCell h k

  pub bind_may_thing : {B : Type 0} {C : Fact N} {m : Act N (Option (Thing N))} {f : Option (Thing N) → Act N B} {H : B → Fact N} → Fine C m MayThing → ((a : Option (Thing N)) → Fine (Also C (MayThing a)) (f a) H) → Fine C (m >>= f) H
  bind_may_thing h k = fine_bind MayThing h k

  pub bind_reply : {B : Type 0} {C : Fact N} {m : Act N (Reply N)} {f : Reply N → Act N B} {H : B → Fact N} → Fine C m IsReply → ((a : Reply N) → Fine (Also C (IsReply a)) (f a) H) → Fine C (m >>= f) H
  bind_reply h k = fine_bind IsReply h k

  pub bind_bound : {B : Type 0} {C : Fact N} {m : Act N (Bound N)} {f : Bound N → Act N B} {H : B → Fact N} → Fine C m IsBound → ((a : Bound N) → Fine (Also C (IsBound a)) (f a) H) → Fine C (m >>= f) H
  bind_bound h k = fine_bind IsBound h k

  pub bind_passed : {B : Type 0} {C : Fact N} {m : Act N (Passed N)} {f : Passed N → Act N B} {H : B → Fact N} → Fine C m DoesPass → ((a : Passed N) → Fine (Also C (DoesPass a)) (f a) H) → Fine C (m >>= f) H
  bind_passed h k = fine_bind DoesPass h k

  pub bind_passeds : {B : Type 0} {C : Fact N} {m : Act N (Passeds N)} {f : Passeds N → Act N B} {H : B → Fact N} → Fine C m DoAllPass → ((a : Passeds N) → Fine (Also C (DoAllPass a)) (f a) H) → Fine C (m >>= f) H
  bind_passeds h k = fine_bind DoAllPass h k

  pub bind_parcel : {B : Type 0} {C : Fact N} {m : Act N (Parcel N)} {f : Parcel N → Act N B} {H : B → Fact N} → Fine C m parcel → ((a : Parcel N) → Fine (Also C (DoesPass a.value)) (f a) H) → Fine C (m >>= f) H
  bind_parcel h k = fine_bind parcel h k

  pub end_value : {B : Type 0} {C : Fact N} {m : Act N (Value N)} {f : Value N → Act N B} {k : Words → Act N B} {l : ℕ → Value N → Act N B} {H : B → Fact N} → Fine C m IsValue
      → ((a : Value N) → Fine (Also C (IsValue a)) (f a) H) → ((p : Words) → Fine C (k p) H) → ((n : ℕ) (v : Value N) → Fine (Also C (IsValue v)) (l n v) H) → Fine C (ending f k l m) H
  end_value h x y z = fine_ending IsValue h x y z

  pub end_scope : {B : Type 0} {C : Fact N} {m : Act N (Scope N)} {f : Scope N → Act N B} {k : Words → Act N B} {l : ℕ → Value N → Act N B} {H : B → Fact N} → Fine C m scope
      → ((a : Scope N) → Fine (Also C (AreNouns a.nouns)) (f a) H) → ((p : Words) → Fine C (k p) H) → ((n : ℕ) (v : Value N) → Fine (Also C (IsValue v)) (l n v) H) → Fine C (ending f k l m) H
  end_scope h x y z = fine_ending scope h x y z

  pub end_answer : {B : Type 0} {C : Fact N} {m : Act N (Answer N)} {f : Answer N → Act N B} {k : Words → Act N B} {l : ℕ → Value N → Act N B} {H : B → Fact N} → Fine C m answer
      → ((a : Answer N) → Fine (Also C (Also (IsValue a.value) (AreNouns a.scope.nouns))) (f a) H) → ((p : Words) → Fine C (k p) H) → ((n : ℕ) (v : Value N) → Fine (Also C (IsValue v)) (l n v) H) → Fine C (ending f k l m) H
  end_answer h x y z = fine_ending answer h x y z

module _ {N W : Type 0} (K : Naming N W) (S : Care N) (law : Under K S) where
  pub fine_tell : {C : Fact N} (e : Happened N) → Fine S C (tell e) nothing
  unfolding tell
  fine_tell e = record { after = λ s h c. let r = law.happened s e in (r.0, record { parts = still S s _ r.0 h; more = r.1 h.more }, tt) }

  pub fine_enqueue : {C : Fact N} (m : Message N) → Gets S C (IsMessage m) → Fine S C (enqueue m) nothing
  unfolding enqueue
  fine_enqueue m g = record {
    after = λ s h c. let r = law.queue s m in let t = record s { queue = s.queue ++ m ∷ [] } in let p = still S s t r.0 h in
        (r.0, record { parts = record { things = p.things; slots = p.slots; lists = p.lists; queue = all_end (MessageOk (S.ok t)) s.queue m p.queue (rise S s t r.0 (IsMessage m) (g.at s c)); known = p.known; gifts = p.gifts; outbox = p.outbox }; more = r.1 h.more }, tt);
  }

  pub fine_out : {C : Fact N} (to : ℕ) (n : Note N) → Gets S C (NoteDoes n) → Gets S C (NoteGoes to n) → Fine S C (send_out to n) nothing
  unfolding send_out
  fine_out to n g k = record {
    after = λ s h c. let q : Put N = record { to = to; note = n } in let r = law.outbox s q (g.at s c, k.at s c) in let t = record s { outbox = s.outbox ++ q ∷ [] } in let p = still S s t r.0 h in
        (r.0, record { parts = record { things = p.things; slots = p.slots; lists = p.lists; queue = p.queue; known = p.known; gifts = p.gifts; outbox = all_end (PutOk (S.ok t)) s.outbox q p.outbox (rise S s t r.0 (NoteDoes n) (g.at s c), rise S s t r.0 (NoteGoes to n) (k.at s c)) }; more = r.1 h.more }, tt);
  }

  opened_either : (P : Bit N → Type 0) (b : Bool) (g k : GiftEntry N) (gs ks : List (GiftEntry N)) → GiftOk P g → GiftOk P k → AllOf (GiftOk P) gs → AllOf (GiftOk P) ks → AllOf (GiftOk P) (elim b [ true ↦ g ∷ gs | false ↦ k ∷ ks ])
  opened_either P true g k gs ks a b c d = (a, c)
  opened_either P false g k gs ks a b c d = (b, d)

  opened_ok : (P : Bit N → Type 0) (p i : ℕ) (gs : List (GiftEntry N)) → AllOf (GiftOk P) gs → AllOf (GiftOk P) (with_opened p i gs)
  unfolding with_opened
  opened_ok P p i [] h = tt
  opened_ok P p i (g ∷ gs) h = opened_either P (is_gift p i g) (record g { opened = true }) g gs (with_opened p i gs) h.0 h.0 h.1 (opened_ok P p i gs h.1)

  pub fine_open : {C : Fact N} (p i : ℕ) → Fine S C (open_gift p i) nothing
  unfolding open_gift
  fine_open w i = record {
    after = λ s h c. let r = law.opened s w i in let t = record s { gifts = with_opened w i s.gifts } in let p = still S s t r.0 h in
        (r.0, record { parts = record { things = p.things; slots = p.slots; lists = p.lists; queue = p.queue; known = p.known; gifts = opened_ok (S.ok t) w i s.gifts p.gifts; outbox = p.outbox }; more = r.1 h.more }, tt);
  }

  pub fine_mark : {C : Fact N} (w : ℕ) → Fine S C (mark w) nothing
  unfolding mark
  fine_mark w = record { after = λ s h c. let r = law.noticed s w in (r.0, record { parts = still S s _ r.0 h; more = r.1 h.more }, tt) }

  draws_ends : (s : Vat N) (w : ℕ) (o : Option ℕ) → Sound S s → Ends S IsDraw s (draws w o s)
  unfolding draws
  draws_ends s w (Some i) h = tt
  draws_ends s w None h = let r = law.drawn s w in (r.0, record { parts = still S s _ r.0 h; more = r.1 h.more }, r.2)

  pub fine_draw : {C : Fact N} → Fine S C (draw K) IsDraw
  unfolding draw
  fine_draw = record { after = λ s h c. draws_ends s _ _ h }

  told_either : (Q : Type 0) (w : ℕ) (ws : List ℕ) (b : Bool) → Q → AllOf (λ (x : ℕ). Q) ws → AllOf (λ (x : ℕ). Q) (elim b [ true ↦ ws | false ↦ ws ++ w ∷ [] ])
  told_either Q w ws true g h = h
  told_either Q w ws false g h = all_end (λ (x : ℕ). Q) ws w h g

  told_with : (Q : Type 0) (w : ℕ) (ws : List ℕ) → Q → AllOf (λ (x : ℕ). Q) ws → AllOf (λ (x : ℕ). Q) (with_vat w ws)
  unfolding with_vat
  told_with Q w ws g h = told_either Q w ws (is_in w ws) g h

  to_ok : (P : Bit N → Type 0) (c : Change N) (k : Known N) → ChangeOk P c → OnOk P c k.name → KnownOk P k → KnownOk P (changed_to c k)
  unfolding changed_to
  to_ok P (Hold m) k g on h = (h.0, h.1, all_end (MessageOk P) k.held m h.2 g, h.3, h.4, h.5)
  to_ok P (Wait q) k g on h = (h.0, h.1, h.2, all_end (EntryOk P) k.waiting q h.3 g, h.4, h.5)
  to_ok P (React m) k g on h = (h.0, h.1, h.2, h.3, all_end (MessageOk P) k.reactions m h.4 g, h.5)
  to_ok P (ToTell w) k g on h = (h.0, h.1, h.2, h.3, h.4, told_with (P (Named k.name)) w k.told on h.5)
  to_ok P (Settle y) k g on h = (h.0, g, tt, tt, tt, tt)
  to_ok P other k g on h = (h.0, g, h.2, h.3, h.4, h.5)

  unless_ok : (P : Bit N → Type 0) (x : Standing N) (k new : Known N) → KnownOk P k → KnownOk P new → KnownOk P (unless_settled x k new)
  unfolding unless_settled
  unless_ok P (Settled y) k new h i = h
  unless_ok P other k new h i = i

  changed_or : (P : Bit N → Type 0) (c : Change N) (n : N) (k : Known N) (ks js : List (Known N)) (b : Bool) → K.same k.name n ≡ b → ChangeOk P c → ((a : N) → K.same a n ≡ true → OnOk P c a) → KnownOk P k → AllOf (KnownOk P) ks → AllOf (KnownOk P) js
      → AllOf (KnownOk P) (elim b [ true ↦ changed c k ∷ ks | false ↦ k ∷ js ])
  unfolding changed
  changed_or P c n k ks js true e g on h i j = (unless_ok P k.standing k (changed_to c k) h (to_ok P c k g (on k.name e) h), i)
  changed_or P c n k ks js false e g on h i j = (h, j)

  pub changes_ok : (P : Bit N → Type 0) (c : Change N) (n : N) (ks : List (Known N)) → ChangeOk P c → ((a : N) → K.same a n ≡ true → OnOk P c a) → AllOf (KnownOk P) ks → AllOf (KnownOk P) (with_change K c n ks)
  unfolding with_change
  changes_ok P c n [] g on h = tt
  changes_ok P c n (k ∷ ks) g on h = changed_or P c n k ks (with_change K c n ks) (K.same k.name n) refl g on h.0 h.1 (changes_ok P c n ks g on h.1)

  fine_alter : {C : Fact N} (c : Change N) (n : N) → ViewsNone c → Gets S C (IsChange c) → ((s : Vat N) → Holds (S.ok s) C → OnOk (S.ok s) c n) → Fine S C (alter K c n) nothing
  unfolding alter
  fine_alter d n none g on = record {
    after = λ s h c. let r = law.altered s d n none (g.at s c) in let t = record s { known = with_change K d n s.known } in let p = still S s t r.0 h in
        let e : ChangeOk (S.ok t) d = holds_up (S.ok s) (S.ok t) (S.up s t r.0) (IsChange d) (g.at s c) in
        let o : OnOk (S.ok t) d n = on_up (S.ok s) (S.ok t) (S.up s t r.0) d n (on s c) in
        let all : (a : N) → K.same a n ≡ true → OnOk (S.ok t) d a = λ a i. subst (λ z. OnOk (S.ok t) d z) (sym (law.spots.alike a n i)) o in
        (r.0, record { parts = record { things = p.things; slots = p.slots; lists = p.lists; queue = p.queue; known = changes_ok (S.ok t) d n s.known e all p.known; gifts = p.gifts; outbox = p.outbox }; more = r.1 h.more }, tt);
  }

  pub fine_hold : {C : Fact N} (m : Message N) (n : N) → Gets S C (IsChange (Hold m)) → Fine S C (alter K (Hold m) n) nothing
  fine_hold m n g = fine_alter (Hold m) n tt g (λ s c. tt)

  pub fine_wait : {C : Fact N} (q n : N) → Gets S C (IsChange (Wait q)) → Fine S C (alter K (Wait q) n) nothing
  fine_wait q n g = fine_alter (Wait q) n tt g (λ s c. tt)

  pub fine_waits_on : {C : Fact N} (q n : N) → Gets S C (IsChange (WaitOn q)) → Fine S C (alter K (WaitOn q) n) nothing
  fine_waits_on q n g = fine_alter (WaitOn q) n tt g (λ s c. tt)

  pub fine_reacts : {C : Fact N} (m : Message N) (n : N) → Gets S C (IsChange (React m)) → Fine S C (alter K (React m) n) nothing
  fine_reacts m n g = fine_alter (React m) n tt g (λ s c. tt)

  pub fine_to_tell : {C : Fact N} (w : ℕ) (n : N) → Gets S C (IsName n) → Fine S C (alter K (ToTell w) n) nothing
  fine_to_tell w n g = fine_alter (ToTell w) n tt (record { at = λ s c. tt }) (λ s c. g.at s c)

  pub fine_settles : {C : Fact N} (y : Value N) (n : N) → Gets S C (IsChange (Settle y)) → Fine S C (alter K (Settle y) n) nothing
  fine_settles y n g = fine_alter (Settle y) n tt g (λ s c. tt)

  pub begun_ok : (P : Bit N → Type 0) (n : N) (h : ℕ) → P (Entered n) → KnownOk P (begun n h)
  unfolding begun
  begun_ok P n h g = (g, tt, tt, tt, tt, tt)

  pub with_entry : (s t : Vat N) (n : N) (h : ℕ) → S.rel s t → S.ok t (Entered n) → Sound S s → Parts (S.ok t) s.things s.slots s.lists s.queue (s.known ++ begun n h ∷ []) s.gifts s.outbox
  with_entry s t n w r g h = let p = still S s t r h in
      record { things = p.things; slots = p.slots; lists = p.lists; queue = p.queue; known = all_end (KnownOk (S.ok t)) s.known (begun n w) p.known (begun_ok (S.ok t) n w g); gifts = p.gifts; outbox = p.outbox }

  pub with_known : (s t : Vat N) (n : N) (h : ℕ) → S.rel s t → S.ok t (Named n) → Sound S s → Parts (S.ok t) s.things s.slots s.lists s.queue (s.known ++ begun n h ∷ []) s.gifts s.outbox
  with_known s t n w r g h = with_entry s t n w r (S.entered t n g) h

  pub come_answer : {C : Fact N} (h : ℕ) (m : N) → Gets S C (IsMail m) → Gets S C (IsVat h) → Fine S C (come K (IsAnswer h m) h) IsName
  unfolding come
  come_answer w m g k = record { after = λ s h c. let r = law.answered s w m (g.at s c) (k.at s c) in (r.0, record { parts = with_known s _ _ w r.0 r.2 h; more = r.1 h.more }, r.2) }

module _ {N W : Type 0} (K : Naming N W) (S : Care N) (law : Under K S) (gives : Giving K S) where
  pub fine_gift : {C : Fact N} (n : N) (p i : ℕ) → Gets S C (IsOwned n i) → Gets S C (IsDraw i) → Fine S C (new_gift n p i) nothing
  unfolding new_gift
  fine_gift n w i g k = record {
    after = λ s h c. let x : GiftEntry N = record { name = n; provider = w; number = i; opened = false } in let r = gives.gift s x (g.at s c, k.at s c) in let t = record s { gifts = s.gifts ++ x ∷ [] } in let p = still S s t r.0 h in
        (r.0, record { parts = record { things = p.things; slots = p.slots; lists = p.lists; queue = p.queue; known = p.known; gifts = all_end (GiftOk (S.ok t)) s.gifts x p.gifts (rise S s t r.0 (IsGiftEntry x) (g.at s c, k.at s c)); outbox = p.outbox }; more = r.1 h.more }, tt);
  }

  pub come_gift : {C : Fact N} (h i : ℕ) → Gets S C (IsGiven i) → Gets S C (IsVat h) → Fine S C (come K (IsGift h i) h) IsName
  unfolding come
  come_gift w i g k = record { after = λ s h c. let r = gives.given s w i (g.at s c) (k.at s c) in (r.0, record { parts = with_known K S law s _ _ w r.0 r.2 h; more = r.1 h.more }, r.2) }

module _ {N W : Type 0} (K : Naming N W) (S : Care N) (law : Under K S) (makes : Makes K S) where
  pub fine_promise : {C : Fact N} → Fine S C (new_promise K) IsName
  unfolding new_promise
  fine_promise = record { after = λ s h c. let r = makes.promised s in (r.0, record { parts = with_known K S law s _ _ s.number r.0 r.2 h; more = r.1 h.more }, r.2) }

  pub fine_new_message : {C : Fact N} (h : ℕ) → Gets S C (IsVat h) → Fine S C (new_message K h) new_names
  unfolding new_message
  fine_new_message w g = record { after = λ s h c. let r = makes.messaged s w (g.at s c) in (r.0, record { parts = with_known K S law s _ _ w r.0 r.3 h; more = r.1 h.more }, (r.2, r.3)) }

  pub fine_lone_message : {C : Fact N} → Fine S C (new_lone_message K) IsMail
  unfolding new_lone_message
  fine_lone_message = record {
    after = λ s h c. let r = makes.lone s in let p = still S s _ r.0 h in
        (r.0, record { parts = record { things = p.things; slots = p.slots; lists = p.lists; queue = p.queue; known = p.known; gifts = p.gifts; outbox = p.outbox }; more = r.1 h.more }, r.2);
  }

pub ruleset gets = (got, got_vat, got_left, got_right, got_itself, got_both, got_nothing, got_null, got_flag, got_number, got_text, got_prim, got_broken, got_items, got_ref, got_none, got_more, got_some, got_lone, got_message, got_hold, got_react, got_settle, got_entry, got_drew, got_wait, got_wait_on, got_ejector, got_resolver, got_audition)

-- what touches no message and nothing that is known
pub ruleset quiet = (gets, then_unit, then_number, then_value, then_answer, bind_vat, bind_number, bind_draw, bind_name, bind_names, bind_flag, bind_place, bind_standing, bind_gifts, bind_gift, bind_knowns, bind_value, bind_values, bind_scope, bind_answer, bind_answers, bind_may_value, bind_may_cell, bind_may_thing, bind_reply, bind_bound, bind_passed, bind_passeds, bind_parcel, end_value, end_scope, end_answer, fine_some, fine_some_name, fine_if, fine_give, fine_throw, fine_eject, fine_stop, fine_look, fine_spend, fine_activation, fine_thing, fine_kill, fine_slot, fine_write, fine_list, fine_each)

-- and lines that tell of no message
pub ruleset quiet_told = (quiet, told_called, told_back, told_thrown, told_left, told_got, told_slot_made, told_slot_read, told_slot_wrote, told_list_made, told_ejector_made, told_audition_made, told_promise_made, told_object_made, told_finished, told_threw)

pub ruleset fine = (quiet, fine_tell, fine_enqueue, fine_out, fine_open, fine_mark, fine_draw, fine_hold, fine_wait, fine_waits_on, fine_reacts, fine_to_tell, fine_settles, come_answer)
