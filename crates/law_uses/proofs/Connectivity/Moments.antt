-- What a vat has to show of its messages in a step, and that it has it whatever it does.
use Rattle.std.proofs.Common.{◌≡◌, ℕ, Bool, true, false, List, [], ◌∷◌, Option, Some, None, if◌then◌else◌, refl, ◌∙◌, ◌⊎◌, inl, inr}
use Rattle.std.specs.Prelude.{slice_get}
use Rattle.def_machine.specs.Values.{Words, Value, Null, Flag, Number, Letter, Text, Prim, Broken, Items, Ref, Name, Object, Gift, Foreign, spot_of}
use Rattle.def_machine.specs.State.{Message, Standing, Viewed, Settled, Known, Passed, Passeds, Plain, AGift, Many, NoMore, More, Note, Deliver, Open, SettledTo, Elsewhere, Put, Happened, Took, Sends, Reacts, Vat, Stop, Done, Gives, Throws, Ejects, Stops, Act, ◌>>=◌, ◌>>◌, and_then, for_some, end_by, ending, each, give, throw, stop, eject, look, is_in}
use Rattle.def_machine.specs.Arrive.{Incoming, Old, New}
use Rattle.law_machine.proofs.Machine.Walks.{Property, Holds}
use Rattle.law_machine.specs.Machine.Steps.{Step, Takes, Receives}
use Rattle.law_uses.specs.Connectivity.Known.{IsAmong, AllOf}
use Rattle.law_uses.specs.Connectivity.Stems.{LeadsTo, HostIn, IsOf, PassesAs, PassAll}
use Rattle.law_uses.specs.Connectivity.MessageLaws.{IsToldStanding}
use Rattle.law_uses.proofs.Connectivity.Passing.{Kept, kept_all, leads_map, all_map, pass_all_map, passes_map}

-- A step of a vat, and what is shown of what was there before it: the lines of the vat, and each message that it has.
pub record Past : Type 1 where
  pub line : Happened Name → Type 0
  -- of a message that is no reaction, and of one that is
  pub was : Message Name → Type 0
  pub reacted : Message Name → Type 0
  pub step : Step Name Name
  -- whose cuts are noticed, and the vat itself
  pub cut : ℕ → Type 0
  pub home : ℕ

-- ---- a note that is read

abbrev pub name_in : Incoming Name Name → Name
name_in (Old n) = n
name_in (New n h) = n

abbrev pub value_in : Value (Incoming Name Name) → Value Name
value_in Null = Null
value_in (Flag b) = Flag b
value_in (Number z) = Number z
value_in (Letter c) = Letter c
value_in (Text t) = Text t
value_in (Prim n) = Prim n
value_in (Broken p) = Broken p
value_in (Items k) = Items k
value_in (Ref x) = Ref (name_in x)

module _ (list : ℕ → List (Value Name) → Type 0) where
  abbrev mutual
    pub LearntAs : Passed (Incoming Name Name) → Value Name → Type 0
    LearntAs (Plain y) v = v ≡ value_in y
    LearntAs (AGift h i) v = v ≡ Ref (Gift h i)
    LearntAs (Many ys) v = (k : ℕ) × (vs : List (Value Name)) × (v ≡ Items k) × list k vs × LearntAll ys vs

    pub LearntAll : Passeds (Incoming Name Name) → List (Value Name) → Type 0
    LearntAll NoMore [] = Unit {0}
    LearntAll (More y ys) (v ∷ vs) = LearntAs y v × LearntAll ys vs
    LearntAll NoMore (v ∷ vs) = ⊥
    LearntAll (More y ys) [] = ⊥

module _ (list lists : ℕ → List (Value Name) → Type 0) (g : (k : ℕ) (vs : List (Value Name)) → list k vs → lists k vs) where
  mutual
    pub learnt_map : (y : Passed (Incoming Name Name)) (v : Value Name) → LearntAs list y v → LearntAs lists y v
    learnt_map (Many ys) v h = (h.0, h.1, h.2, g h.0 h.1 h.3, learnt_all_map ys h.1 h.4)
    learnt_map other v h = h

    pub learnt_all_map : (ys : Passeds (Incoming Name Name)) (vs : List (Value Name)) → LearntAll list ys vs → LearntAll lists ys vs
    learnt_all_map NoMore [] h = tt
    learnt_all_map (More y ys) (v ∷ vs) h = (learnt_map y v h.0, learnt_all_map ys vs h.1)
    learnt_all_map NoMore (v ∷ vs) h = absurd h
    learnt_all_map (More y ys) [] h = absurd h

-- ---- in a step

abbrev pub StandTold : (Happened Name → Type 0) → Name → Standing Name → Type 0
StandTold = IsToldStanding

pub stand_map : (line more : Happened Name → Type 0) → Kept line more → (n : Name) (x : Standing Name) → StandTold line n x → StandTold more n x
stand_map line more f n (Viewed q) h = f.1 n q h
stand_map line more f n (Settled y) h = f.0 n y h
stand_map line more f n other h = tt

abbrev pub IsTaken : Step Name Name → Message Name → Type 0
IsTaken (Takes tree depth m) n = n ≡ m
IsTaken other n = ⊥

-- a line that says which message is taken says it of that with which the step begins
abbrev pub TookFine : Step Name Name → Happened Name → Type 0
TookFine step (Took a m) = IsTaken step m
TookFine step other = Unit {0}

abbrev pub Members : Vat Name → ℕ → List (Value Name) → Type 0
Members s k vs = slice_get s.lists k ≡ Some vs

-- a note puts the gift, to another vat than that one
abbrev pub Offers : ℕ → Vat Name → ℕ → ℕ → Name → Type 0
Offers v s h i n = IsAmong (record { to = h; note = Open i n }) s.outbox × ((spot_of v n ≡ Foreign h) ⊎ (h ≡ s.number → ⊥))

-- a message that the note of this step brought
abbrev pub CameBy : Vat Name → Note (Incoming Name Name) → Message Name → Type 0
CameBy s (Deliver x z verb ys) m = (name_in x.message ≡ m.id) × (verb ≡ m.verb) × (m.target ≡ Ref (name_in z)) × LearntAll (Members s) ys m.args
CameBy s other m = ⊥

abbrev pub Came : Vat Name → Step Name Name → Message Name → Type 0
Came s (Receives from n) m = CameBy s n m
Came s other m = ⊥

-- a message that a line of this step sent
abbrev pub SentIn : Vat Name → Message Name → Type 0
SentIn s m = (a : ℕ) × IsAmong (Sends a m) s.happened

-- a reaction that a line of this step tells
abbrev pub ReactsIn : Vat Name → Message Name → Type 0
ReactsIn s m = (a : ℕ) × (x : Value Name) × (o : Value Name) × (n : Name) × (m.args ≡ x ∷ []) × (m.answer ≡ Some n) × IsAmong (Reacts a x o m) s.happened

-- the state t has all that s has to show
abbrev pub Later : Vat Name → Vat Name → Type 0
Later s t = ((e : Happened Name) → IsAmong e s.happened → IsAmong e t.happened)
    × ((k : ℕ) (vs : List (Value Name)) → slice_get s.lists k ≡ Some vs → slice_get t.lists k ≡ Some vs)
    × ((q : Put Name) → IsAmong q s.outbox → IsAmong q t.outbox)
    × (t.number ≡ s.number)
    × ((n : Name) (u : ℕ) → HostIn s.known n u → HostIn t.known n u)

pub later_same : (s : Vat Name) → Later s s
later_same s = (λ e h. h, λ k vs h. h, λ q h. h, refl, λ n u h. h)

pub later_on : (s t u : Vat Name) → Later s t → Later t u → Later s u
later_on s t u h k = (λ e i. k.0 e (h.0 e i), λ n vs i. k.1 n vs (h.1 n vs i), λ q i. k.2 q (h.2 q i), k.3 ∙ h.3, λ n w i. k.4 n w (h.4 n w i))

pub of_later : (s t : Vat Name) → Later s t → (u : ℕ) (n : Name) → IsOf s u n → IsOf t u n
of_later s t l u n (inl h) = inl h
of_later s t l u n (inr (inl h)) = inr (inl (l.4 n u h))
of_later s t l u n (inr (inr h)) = inr (inr (l.3 ∙ h))

came_later : (s t : Vat Name) → Later s t → (step : Step Name Name) (m : Message Name) → Came s step m → Came t step m
came_later s t l (Receives from (Deliver x z verb ys)) m h = (h.0, h.1, h.2, learnt_all_map (Members s) (Members t) l.1 ys m.args h.3)
came_later s t l other m h = h

sent_later : (s t : Vat Name) → Later s t → (m : Message Name) → SentIn s m → SentIn t m
sent_later s t l m h = (h.0, l.0 _ h.1)

reacts_later : (s t : Vat Name) → Later s t → (m : Message Name) → ReactsIn s m → ReactsIn t m
reacts_later s t l m h = (h.0, h.1, h.2, h.3, h.4, h.5, l.0 _ h.6)

module _ (p : Past) where
  abbrev pub Line : Vat Name → Happened Name → Type 0
  Line s e = p.line e ⊎ IsAmong e s.happened

  -- a message that stems from what was sent, before this step or in it
  abbrev pub Source : Vat Name → Message Name → Type 0
  Source s m = SentIn s m ⊎ (Came s p.step m ⊎ p.was m)

  abbrev pub Fine : Vat Name → Message Name → Type 0
  Fine s m = (x : Value Name) × LeadsTo (Line s) x m.target × Source s (record m { target = x })

  -- a reaction, before this step or in it
  abbrev pub ReactionFine : Vat Name → Message Name → Type 0
  ReactionFine s m = ReactsIn s m ⊎ p.reacted m

  -- what a vat takes
  abbrev pub QueuedFine : Vat Name → Message Name → Type 0
  QueuedFine s m = Fine s m ⊎ ReactionFine s m

  -- a name of a vat whose cut is noticed
  abbrev pub IsGone : Vat Name → Name → Type 0
  IsGone s n = (u : ℕ) × p.cut u × IsOf s u n

  abbrev pub Passing : Vat Name → Value Name → Passed Name → Type 0
  Passing s x y = PassesAs (Line s) (Members s) (Offers p.home s) (IsGone s) x y

  abbrev pub PassingAll : Vat Name → List (Value Name) → Passeds Name → Type 0
  PassingAll s xs ys = PassAll (Line s) (Members s) (Offers p.home s) (IsGone s) xs ys

  abbrev pub NoteFine : Vat Name → Note Name → Type 0
  NoteFine s (Deliver i n verb ys) = (m : Message Name) × Fine s m × (m.id ≡ i.message) × (m.verb ≡ verb) × LeadsTo (Line s) m.target (Ref n) × PassingAll s m.args ys
  NoteFine s (SettledTo n y) = Passing s (Ref n) y
  NoteFine s (Elsewhere n c) = (i : ℕ) × LeadsTo (Line s) (Ref n) (Ref (Object c i))
  NoteFine s other = Unit {0}

  abbrev pub KnownFine : Vat Name → Known Name → Type 0
  KnownFine s k = AllOf (Fine s) k.held × AllOf (ReactionFine s) k.reactions × StandTold (Line s) k.name k.standing

  -- what t has is fine by what s has to show
  abbrev pub FineIn : Vat Name → Vat Name → Type 0
  FineIn s t = AllOf (QueuedFine s) t.queue × AllOf (KnownFine s) t.known × AllOf (λ (q : Put Name). NoteFine s q.note) t.outbox × AllOf (TookFine p.step) t.happened × ((u : ℕ) → is_in u t.noticed ≡ true → p.cut u)

  abbrev pub Good : Vat Name → Type 0
  Good s = FineIn s s

  pub line_later : (s t : Vat Name) → Later s t → (e : Happened Name) → Line s e → Line t e
  line_later s t l e (inl h) = inl h
  line_later s t l e (inr h) = inr (l.0 e h)

  source_later : (s t : Vat Name) → Later s t → (m : Message Name) → Source s m → Source t m
  source_later s t l m (inl h) = inl (sent_later s t l m h)
  source_later s t l m (inr (inl h)) = inr (inl (came_later s t l p.step m h))
  source_later s t l m (inr (inr h)) = inr (inr h)

  pub lead_later : (s t : Vat Name) → Later s t → (x y : Value Name) → LeadsTo (Line s) x y → LeadsTo (Line t) x y
  lead_later s t l x y h = leads_map (Line s) (Line t) (kept_all (Line s) (Line t) (line_later s t l)) x y h

  pub fine_later : (s t : Vat Name) → Later s t → (m : Message Name) → Fine s m → Fine t m
  fine_later s t l m h = (h.0, lead_later s t l h.0 m.target h.1, source_later s t l (record m { target = h.0 }) h.2)

  pub reaction_later : (s t : Vat Name) → Later s t → (m : Message Name) → ReactionFine s m → ReactionFine t m
  reaction_later s t l m (inl h) = inl (reacts_later s t l m h)
  reaction_later s t l m (inr h) = inr h

  queued_later : (s t : Vat Name) → Later s t → (m : Message Name) → QueuedFine s m → QueuedFine t m
  queued_later s t l m (inl h) = inl (fine_later s t l m h)
  queued_later s t l m (inr h) = inr (reaction_later s t l m h)

  pub gone_later : (s t : Vat Name) → Later s t → (n : Name) → IsGone s n → IsGone t n
  gone_later s t l n h = (h.0, h.1, of_later s t l h.0 n h.2)

  offers_later : (s t : Vat Name) → Later s t → (w i : ℕ) (n : Name) → Offers p.home s w i n → Offers p.home t w i n
  offers_later s t l w i n h = (l.2 _ h.0, either h.1)
    where
      either : (spot_of p.home n ≡ Foreign w) ⊎ (w ≡ s.number → ⊥) → (spot_of p.home n ≡ Foreign w) ⊎ (w ≡ t.number → ⊥)
      either (inl e) = inl e
      either (inr f) = inr (λ e. f (e ∙ l.3))

  pub passing_later : (s t : Vat Name) → Later s t → (x : Value Name) (y : Passed Name) → Passing s x y → Passing t x y
  passing_later s t l x y h = passes_map (Line s) (Line t) (kept_all (Line s) (Line t) (line_later s t l)) (Members s) (Members t) l.1 (Offers p.home s) (Offers p.home t) (offers_later s t l) (IsGone s) (IsGone t) (gone_later s t l) x y h

  pub passing_all_later : (s t : Vat Name) → Later s t → (xs : List (Value Name)) (ys : Passeds Name) → PassingAll s xs ys → PassingAll t xs ys
  passing_all_later s t l xs ys h = pass_all_map (Line s) (Line t) (kept_all (Line s) (Line t) (line_later s t l)) (Members s) (Members t) l.1 (Offers p.home s) (Offers p.home t) (offers_later s t l) (IsGone s) (IsGone t) (gone_later s t l) xs ys h

  note_later : (s t : Vat Name) → Later s t → (n : Note Name) → NoteFine s n → NoteFine t n
  note_later s t l (Deliver i n verb ys) h = (h.0, fine_later s t l h.0 h.1, h.2, h.3, lead_later s t l h.0.target (Ref n) h.4, passing_all_later s t l h.0.args ys h.5)
  note_later s t l (SettledTo n y) h = passing_later s t l (Ref n) y h
  note_later s t l (Elsewhere n c) h = (h.0, lead_later s t l (Ref n) (Ref (Object c h.0)) h.1)
  note_later s t l other h = tt

  pub known_later : (s t : Vat Name) → Later s t → (k : Known Name) → KnownFine s k → KnownFine t k
  known_later s t l k h = (all_map (Fine s) (Fine t) (fine_later s t l) k.held h.0, all_map (ReactionFine s) (ReactionFine t) (reaction_later s t l) k.reactions h.1, stand_map (Line s) (Line t) (kept_all (Line s) (Line t) (line_later s t l)) k.name k.standing h.2)

  pub good_later : (s t u : Vat Name) → Later s t → FineIn s u → FineIn t u
  good_later s t u l g = (
    all_map (QueuedFine s) (QueuedFine t) (queued_later s t l) u.queue g.0,
    all_map (KnownFine s) (KnownFine t) (known_later s t l) u.known g.1,
    all_map (λ (q : Put Name). NoteFine s q.note) (λ (q : Put Name). NoteFine t q.note) (λ q h. note_later s t l q.note h) u.outbox g.2,
    g.3,
    g.4,
  )

  -- however it ends, unless it stops; and that of what it gave
  abbrev pub Ends : {A : Type 0} → Vat Name → (A → Vat Name → Type 0) → Done Name A → Type 0
  Ends s Q (Gives a t) = Later s t × Good t × Q a t
  Ends s Q (Throws x t) = Later s t × Good t
  Ends s Q (Ejects n v t) = Later s t × Good t
  Ends s Q (Stops c t) = Unit {0}

  pub ends_from : {A : Type 0} (s t : Vat Name) (Q : A → Vat Name → Type 0) (d : Done Name A) → Later s t → Ends t Q d → Ends s Q d
  ends_from s t Q (Gives a u) l h = (later_on s t u l h.0, h.1, h.2)
  ends_from s t Q (Throws x u) l h = (later_on s t u l h.0, h.1)
  ends_from s t Q (Ejects n v u) l h = (later_on s t u l h.0, h.1)
  ends_from s t Q (Stops c u) l h = tt

  abbrev pub Any : {A : Type 0} → A → Vat Name → Type 0
  Any a t = Unit {0}

  abbrev pub BringsBy : Property Name
  BringsBy A m = (s : Vat Name) → Good s → Ends s Any (m s)

  abbrev pub Brings : {A : Type 0} → Act Name A → Type 0
  Brings m = Holds BringsBy m

  bind_after : {A B : Type 0} (s : Vat Name) (d : Done Name A) (f : A → Act Name B) (Q : A → Vat Name → Type 0) (R : B → Vat Name → Type 0) → Ends s Q d → ((a : A) (t : Vat Name) → Later s t → Good t → Q a t → Ends t R (f a t)) → Ends s R (and_then d f)
  unfolding and_then
  bind_after s (Gives a t) f Q R h k = ends_from s t R (f a t) h.0 (k a t h.0 h.1 h.2)
  bind_after s other f Q R h k = h

  pub brings_bind : {A B : Type 0} {m : Act Name A} {f : A → Act Name B} → Brings m → ((a : A) → Brings (f a)) → Brings (m >>= f)
  unfolding ◌>>=◌
  brings_bind {m = m} {f = f} h k = record { after = λ s g. bind_after s (m s) f Any Any (h.after s g) (λ a t l i _. (k a).after t i) }

  pub brings_then : {A B : Type 0} {m : Act Name A} {n : Act Name B} → Brings m → Brings n → Brings (m >> n)
  unfolding ◌>>◌
  brings_then {m = m} {n = n} h k = record { after = λ s g. bind_after s (m s) (λ _. n) Any Any (h.after s g) (λ a t l i _. k.after t i) }

  end_after : {A B : Type 0} (s : Vat Name) (f : A → Act Name B) (g : Words → Act Name B) (h : ℕ → Value Name → Act Name B) (d : Done Name A) → Ends s Any d
      → ((a : A) → Brings (f a)) → ((x : Words) → Brings (g x)) → ((n : ℕ) (v : Value Name) → Brings (h n v)) → Ends s Any (end_by f g h d)
  unfolding end_by
  end_after s f g h (Gives a t) r i j k = ends_from s t Any (f a t) r.0 ((i a).after t r.1)
  end_after s f g h (Throws x t) r i j k = ends_from s t Any (g x t) r.0 ((j x).after t r.1)
  end_after s f g h (Ejects n v t) r i j k = ends_from s t Any (h n v t) r.0 ((k n v).after t r.1)
  end_after s f g h (Stops c t) r i j k = r

  pub brings_ending : {A B : Type 0} {f : A → Act Name B} {g : Words → Act Name B} {h : ℕ → Value Name → Act Name B} {m : Act Name A}
      → ((a : A) → Brings (f a)) → ((x : Words) → Brings (g x)) → ((n : ℕ) (v : Value Name) → Brings (h n v)) → Brings m → Brings (ending f g h m)
  unfolding ending
  brings_ending {f = f} {g = g} {h = h} {m = m} i j k r = record { after = λ s q. end_after s f g h (m s) (r.after s q) i j k }

  pub brings_some : {A B : Type 0} (o : Option A) {f : A → Act Name B} {m : Act Name B} → ((a : A) → Brings (f a)) → Brings m → Brings (for_some o f m)
  unfolding for_some
  brings_some (Some a) h k = h a
  brings_some None h k = k

  pub brings_if : {A : Type 0} (b : Bool) {m n : Act Name A} → Brings m → Brings n → Brings (if b then m else n)
  brings_if true h k = h
  brings_if false h k = k

  pub brings_give : {A : Type 0} (a : A) → Brings (give a)
  unfolding give
  brings_give a = record { after = λ s g. (later_same s, g, tt) }

  pub brings_throw : {A : Type 0} (x : Words) → Brings (throw {A = A} x)
  unfolding throw
  brings_throw x = record { after = λ s g. (later_same s, g) }

  pub brings_eject : {A : Type 0} (n : ℕ) (v : Value Name) → Brings (eject {A = A} n v)
  unfolding eject
  brings_eject n v = record { after = λ s g. (later_same s, g) }

  pub brings_stop : {A : Type 0} (c : Stop) → Brings (stop {A = A} c)
  unfolding stop
  brings_stop c = record { after = λ s g. tt }

  pub brings_look : {A : Type 0} (f : Vat Name → A) → Brings (look f)
  unfolding look
  brings_look f = record { after = λ s g. (later_same s, g, tt) }

  pub brings_each : {A : Type 0} {f : A → Act Name (Unit {0})} (xs : List A) → ((x : A) → Brings (f x)) → Brings (each f xs)
  unfolding each
  brings_each [] h = brings_give tt
  brings_each (x ∷ xs) h = brings_then (h x) (brings_each xs h)

  -- ---- with what is known before, and of what it gave

  pub record Does {A : Type 0} (P : Vat Name → Type 0) (Q : A → Vat Name → Type 0) (m : Act Name A) : Type 0 where
    pub after : (s : Vat Name) → P s → Good s → Ends s Q (m s)

  -- what stays so
  abbrev pub Lasting : (Vat Name → Type 0) → Type 0
  Lasting F = (s t : Vat Name) → Later s t → F s → F t

  pub does_bind : {A B : Type 0} {P : Vat Name → Type 0} {M : A → Vat Name → Type 0} {Q : B → Vat Name → Type 0} {m : Act Name A} {f : A → Act Name B} → Does P M m → ((a : A) → Does (M a) Q (f a)) → Does P Q (m >>= f)
  unfolding ◌>>=◌
  does_bind {M = M} {Q = Q} {m = m} {f = f} h k = record { after = λ s i g. bind_after s (m s) f M Q (h.after s i g) (λ a t l j r. (k a).after t r j) }

  pub does_then : {A B : Type 0} {P : Vat Name → Type 0} {M : A → Vat Name → Type 0} {Q : B → Vat Name → Type 0} {m : Act Name A} {n : Act Name B} → Does P M m → ((a : A) → Does (M a) Q n) → Does P Q (m >> n)
  unfolding ◌>>◌
  does_then {M = M} {Q = Q} {m = m} {n = n} h k = record { after = λ s i g. bind_after s (m s) (λ _. n) M Q (h.after s i g) (λ a t l j r. (k a).after t r j) }

  pub does_if : {A : Type 0} {P : Vat Name → Type 0} {Q : A → Vat Name → Type 0} (b : Bool) {m n : Act Name A} → Does P Q m → Does P Q n → Does P Q (if b then m else n)
  does_if true h k = h
  does_if false h k = k

  pub does_for_some : {A B : Type 0} {P : Vat Name → Type 0} {Q : B → Vat Name → Type 0} (o : Option A) {f : A → Act Name B} {m : Act Name B} → ((a : A) → Does P Q (f a)) → Does P Q m → Does P Q (for_some o f m)
  unfolding for_some
  does_for_some (Some a) h k = h a
  does_for_some None h k = k

  keep_ends : {A : Type 0} (s : Vat Name) (F : Vat Name → Type 0) (Q : A → Vat Name → Type 0) (d : Done Name A) → Lasting F → F s → Ends s Q d → Ends s (λ a t. F t × Q a t) d
  keep_ends s F Q (Gives a t) l f h = (h.0, h.1, (l s t h.0 f, h.2))
  keep_ends s F Q other l f h = h

  -- beside it, what stays so
  pub does_also : {A : Type 0} (F : Vat Name → Type 0) {P : Vat Name → Type 0} {Q : A → Vat Name → Type 0} {m : Act Name A} → Lasting F → Does P Q m → Does (λ s. F s × P s) (λ a t. F t × Q a t) m
  does_also F {Q = Q} {m = m} l h = record { after = λ s i g. keep_ends s F Q (m s) l i.0 (h.after s i.1 g) }

  pub does_any : {A : Type 0} {m : Act Name A} → Brings m → Does (λ s. Unit {0}) Any m
  does_any h = record { after = λ s i g. h.after s g }

  pub does_from : {A : Type 0} {P R : Vat Name → Type 0} {Q : A → Vat Name → Type 0} {m : Act Name A} → ((s : Vat Name) → P s → R s) → Does R Q m → Does P Q m
  does_from f h = record { after = λ s i g. h.after s (f s i) g }

  map_ends : {A : Type 0} (s : Vat Name) (Q R : A → Vat Name → Type 0) (d : Done Name A) → ((a : A) (t : Vat Name) → Q a t → R a t) → Ends s Q d → Ends s R d
  map_ends s Q R (Gives a t) f h = (h.0, h.1, f a t h.2)
  map_ends s Q R other f h = h

  pub does_to : {A : Type 0} {P : Vat Name → Type 0} {Q R : A → Vat Name → Type 0} {m : Act Name A} → ((a : A) (t : Vat Name) → Q a t → R a t) → Does P Q m → Does P R m
  does_to {Q = Q} {R = R} {m = m} f h = record { after = λ s i g. map_ends s Q R (m s) f (h.after s i g) }

  -- beside what brings nothing wrong, what stays so
  pub does_keep : {A : Type 0} (F : Vat Name → Type 0) {m : Act Name A} → Lasting F → Brings m → Does F (λ a t. F t) m
  does_keep F {m = m} l h = record { after = λ s f g. map_ends s (λ a t. F t × Any a t) (λ a t. F t) (m s) (λ a t i. i.0) (keep_ends s F Any (m s) l f (h.after s g)) }

  pub does_give : {A : Type 0} {Q : A → Vat Name → Type 0} (a : A) → Does (Q a) Q (give a)
  unfolding give
  does_give a = record { after = λ s q g. (later_same s, g, q) }

  pub does_look : {A B : Type 0} {P : Vat Name → Type 0} {Q : B → Vat Name → Type 0} (f : Vat Name → A) (k : A → Act Name B) → ((s : Vat Name) → P s → Good s → Ends s Q (k (f s) s)) → Does P Q (look f >>= k)
  unfolding look ◌>>=◌ and_then
  does_look f k h = record { after = λ s i g. h s i g }

  -- whatever it is of which it is known
  pub does_some : {A B : Type 0} {P : B → Vat Name → Type 0} {Q : A → Vat Name → Type 0} {m : Act Name A} → ((b : B) → Does (P b) Q m) → Does (λ s. (b : B) × P b s) Q m
  does_some h = record { after = λ s i g. (h i.0).after s i.1 g }

  pub brings_does : {A : Type 0} {Q : A → Vat Name → Type 0} {m : Act Name A} → Does (λ s. Unit {0}) Q m → Brings m
  brings_does {Q = Q} {m = m} h = record { after = λ s g. map_ends s Q Any (m s) (λ a t i. tt) (h.after s tt g) }
