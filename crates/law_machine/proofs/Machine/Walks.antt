-- What is to be shown of a predicate of acts, that it holds of all that a vat does.
use Rattle.std.proofs.Common.{ℕ, Bool, true, false, List, [], ◌∷◌, Option, Some, None, if◌then◌else◌}
use Rattle.def_machine.specs.Values.{Words, Value, Broken, Naming, Coming, Mailing}
use Rattle.def_machine.specs.State.{Thing, Made, Resolver, Binding, Ejector, Audition, View, Message, Note, Ask, Shorten, Happened, Called, Got, SlotMade, SlotRead, SlotWrote, ListMade, EjectorMade, AuditionMade, PromiseMade, ObjectMade, Sends, Reacts, Finished, Threw, Waits, Views, Lost, Posted, Change, See, Settle, Vat, Stop, Act, ◌>>=◌, ◌>>◌, WhereSome, for_some, ending, each, give, throw, stop, eject, look, tell, spend, new_activation, new_thing, new_slot, write_slot, new_list, enqueue, send_out, new_gift, open_gift, mark, alter, come, mail, new_promise, new_message, new_lone_message, draw}
use Rattle.def_machine.specs.Refs.{settle_at, settle_one, settle, resolve, send, send_only, react, standing_of}
use Rattle.def_machine.specs.Arrive.{make_list}
use Rattle.def_machine.specs.Scopes.{ended}
use Rattle.std.specs.Prelude.{slice_get}
use Rattle.def_machine.specs.Calls.{leave, leaving, new_ejector, where_unresolved}
use Rattle.def_kernel.specs.declared.node.Node.{Node}

abbrev pub Property : Type 0 → Type 1
Property N = (A : Type 0) → Act N A → Type 0

pub record Holds {N : Type 0} (P : Property N) {A : Type 0} (m : Act N A) : Type 0 where
  pub after : P A m

-- ---- one thing after another

pub record IsClosed {N : Type 0} (P : Property N) : Type 1 where
  pub gives : {A : Type 0} (a : A) → Holds P (give a)
  pub stops : {A : Type 0} (c : Stop) → Holds P (stop {A = A} c)
  pub looks : {A : Type 0} (f : Vat N → A) → Holds P (look f)
  pub binds : {A B : Type 0} {m : Act N A} {f : A → Act N B} → Holds P m → ((a : A) → Holds P (f a)) → Holds P (m >>= f)

module _ {N : Type 0} (P : Property N) (base : IsClosed P) where
  pub walk_give : {A : Type 0} (a : A) → Holds P (give a)
  walk_give a = base.gives a

  pub walk_stop : {A : Type 0} (c : Stop) → Holds P (stop {A = A} c)
  walk_stop c = base.stops c

  pub walk_look : {A : Type 0} (f : Vat N → A) → Holds P (look f)
  walk_look f = base.looks f

  pub walk_bind : {A B : Type 0} {m : Act N A} {f : A → Act N B} → Holds P m → ((a : A) → Holds P (f a)) → Holds P (m >>= f)
  walk_bind h k = base.binds h k

  pub walk_then : {A B : Type 0} {m : Act N A} {n : Act N B} → Holds P m → Holds P n → Holds P (m >> n)
  unfolding ◌>>=◌ ◌>>◌
  walk_then {n = n} h k = base.binds {f = λ _. n} h (λ _. k)

  pub walk_some : {A B : Type 0} (o : Option A) {f : A → Act N B} {m : Act N B} → ((a : A) → Holds P (f a)) → Holds P m → Holds P (for_some o f m)
  unfolding for_some
  walk_some (Some a) h k = h a
  walk_some None h k = k

  pub walk_if : {A : Type 0} (b : Bool) {m n : Act N A} → Holds P m → Holds P n → Holds P (if b then m else n)
  walk_if true h k = h
  walk_if false h k = k

  pub walk_each : {A : Type 0} {f : A → Act N (Unit {0})} (xs : List A) → ((x : A) → Holds P (f x)) → Holds P (each f xs)
  unfolding each
  walk_each [] h = walk_give tt
  walk_each (x ∷ xs) h = walk_then (h x) (walk_each xs h)

pub ruleset walk = (walk_bind, walk_then, walk_some, walk_if, walk_give, walk_stop, walk_look, walk_each)

-- what holds of all holds where there is something
pub where_some : {A : Type 0} (F : A → Type 0) → ((a : A) → F a) → (o : Option A) → WhereSome F o
where_some F h (Some a) = h a
where_some F h None = tt

-- ---- references

-- a line of settling and of sending on, but for those of standings
abbrev pub IsOfRefs : {N : Type 0} → Happened N → Type 0
IsOfRefs (Waits _ _) = Unit {0}
IsOfRefs (Lost _) = Unit {0}
IsOfRefs (Posted _ _) = Unit {0}
IsOfRefs other = ⊥

-- a note that passes a message, or tells of a name
abbrev pub IsOfName : {N : Type 0} → Note N → Type 0
IsOfName (Ask p i n) = ⊥
IsOfName (Shorten n c i) = ⊥
IsOfName other = Unit {0}

-- a change of a name that leaves its standing, or has it wait
abbrev pub IsMild : {N : Type 0} → Change N → Type 0
IsMild (See q) = ⊥
IsMild (Settle y) = ⊥
IsMild other = Unit {0}

pub record InRefs {N : Type 0} (P : Property N) : Type 1 where
  pub tells : (e : Happened N) → IsOfRefs e → Holds P (tell e)
  pub spends : (n : ℕ) → Holds P (spend n)
  pub queues : (m : Message N) → Holds P (enqueue m)
  pub puts : (to : ℕ) (n : Note N) → IsOfName n → Holds P (send_out to n)

pub record InRefsUnder {N W : Type 0} (P : Property N) (K : Naming N W) : Type 1 where
  pub alters : (c : Change N) (n : N) → IsMild c → Holds P (alter K c n)
  pub comes : (c : Coming N W) (h : ℕ) → Holds P (come K c h)
  pub draws : Holds P (draw K)

-- settling at one depth, where settling one less deep has it
pub record InSettling {N W : Type 0} (P : Property N) (K : Naming N W) : Type 1 where
  pub settles : (d : ℕ) → ((q : N) (z : Value N) → Holds P (settle_at K d q z)) → (p : N) (y : Value N) → Holds P (settle_one K (λ q z. settle_at K d q z) p y)

-- a send and a reaction, which are new messages
pub record InSending {N W : Type 0} (P : Property N) (K : Naming N W) : Type 1 where
  pub messages : (h : ℕ) → Holds P (new_message K h)
  pub lone_messages : Holds P (new_lone_message K)
  pub sends : (a : ℕ) (m : Message N) → Holds P (tell (Sends a m))
  pub reacts : (a : ℕ) (x o : Value N) (m : Message N) → Holds P (tell (Reacts a x o m))

-- what arrives and what is noticed
pub record InArrive {N : Type 0} (P : Property N) : Type 1 where
  pub asks : (to p i : ℕ) (n : N) → Holds P (send_out to (Ask p i n))
  pub shortens : (to : ℕ) (n : N) (c i : ℕ) → Holds P (send_out to (Shorten n c i))
  pub gifts : (n : N) (p i : ℕ) → Holds P (new_gift n p i)
  pub opens : (p i : ℕ) → Holds P (open_gift p i)
  pub marks : (w : ℕ) → Holds P (mark w)

pub record InArriveUnder {N W : Type 0} (P : Property N) (K : Naming N W) : Type 1 where
  pub mails : (c : Mailing W) → Holds P (mail K c)
  -- a list that comes, with its line
  pub lists : (vs : List (Value N)) → Holds P (make_list K vs)
  pub views : (p q : N) (m : Act N (Unit {0})) → Holds P m → Holds P (tell (Views p q) >> (alter K (See q) p >> m))

-- ---- evaluation

-- a line that evaluation tells, but for those of calls and of the message that is taken
abbrev pub IsOfEval : {N : Type 0} → Happened N → Type 0
IsOfEval (Got _ _) = Unit {0}
IsOfEval (SlotMade _ _ _) = Unit {0}
IsOfEval (SlotRead _ _ _) = Unit {0}
IsOfEval (SlotWrote _ _ _) = Unit {0}
IsOfEval (ListMade _ _ _) = Unit {0}
IsOfEval (EjectorMade _ _) = Unit {0}
IsOfEval (AuditionMade _ _) = Unit {0}
IsOfEval (PromiseMade _ _ _) = Unit {0}
IsOfEval (ObjectMade _ _ _ _ _) = Unit {0}
IsOfEval (Finished _ _) = Unit {0}
IsOfEval (Threw _ _) = Unit {0}
IsOfEval other = ⊥

-- nothing that is live
abbrev pub IsDull : {N : Type 0} → Thing N → Type 0
IsDull (Ejector live) = ⊥
IsDull (Audition live view) = ⊥
IsDull other = Unit {0}

-- throwing, leaving by an ejector, and what follows by how something ended
pub record IsEnding {N : Type 0} (P : Property N) : Type 1 where
  pub throws : {A : Type 0} (p : Words) → Holds P (throw {A = A} p)
  pub ejects : {A : Type 0} (n : ℕ) (v : Value N) → Holds P (eject {A = A} n v)
  pub ends : {A B : Type 0} {f : A → Act N B} {g : Words → Act N B} {h : ℕ → Value N → Act N B} {m : Act N A}
      → ((a : A) → Holds P (f a)) → ((p : Words) → Holds P (g p)) → ((n : ℕ) (v : Value N) → Holds P (h n v)) → Holds P m → Holds P (ending f g h m)

pub record InEval {N : Type 0} (P : Property N) : Type 1 where
  pub tells : (e : Happened N) → IsOfEval e → Holds P (tell e)
  pub spends : (n : ℕ) → Holds P (spend n)
  pub activates : Holds P new_activation
  pub objects : (node : ℕ) (caught : List (Binding N)) (stamps : List (Value N)) → Holds P (new_thing (Made node caught stamps))
  pub slots : (g v : Value N) → Holds P (new_slot g v)
  pub writes : (n : ℕ) (v : Value N) → Holds P (write_slot n v)
  pub lists : (vs : List (Value N)) → Holds P (new_list vs)
  -- a call with its lines: that begins no activation, and that begins one
  pub calls : (act : ℕ) (x : Value N) (verb : Words) (args : List (Value N)) {m : Act N (Value N)} → Holds P m → Holds P (tell (Called act x verb args None) >> ended act m)
  pub begins : (act : ℕ) (x : Value N) (verb : Words) (args : List (Value N)) {m : ℕ → Act N (Value N)} → ((b : ℕ) → Holds P (m b))
      → Holds P (new_activation >>= λ b. tell (Called act x verb args (Some b)) >> ended act (m b))

pub record InEvalUnder {N W : Type 0} (P : Property N) (K : Naming N W) (tree : List Node) : Type 1 where
  pub promises : Holds P (new_promise K)
  pub resolvers : (p : N) → Holds P (new_thing (Resolver p))
  -- an audition, and what is done while it is live
  pub audits : {A B : Type 0} (act : ℕ) (view : View N) {m : ℕ → Act N A} {f : A → Act N B} → ((n : ℕ) → Holds P (m n)) → ((a : A) → Holds P (f a))
      → Holds P (new_thing (Audition true view) >>= λ n. tell (AuditionMade act (K.object n)) >> (leaving K tree n (m n) >>= f))
  -- an ejector, and what is done while it is live and by how that ended
  pub escapes : {A B : Type 0} (act : ℕ) {f : ℕ → A → Act N B} {g : ℕ → Words → Act N B} {h : ℕ → ℕ → Value N → Act N B} {m : ℕ → Act N A}
      → ((j : ℕ) (a : A) → Holds P (f j a)) → ((j : ℕ) (p : Words) → Holds P (g j p)) → ((j n : ℕ) (v : Value N) → Holds P (h j n v)) → ((j : ℕ) → Holds P (m j))
      → Holds P (new_ejector K tree act >>= λ j. ending (λ a. leave K tree j (f j a)) (λ p. leave K tree j (g j p)) (λ n v. leave K tree j (h j n v)) (m j))
  -- what is done with references
  pub breaks : (p : N) (t : Words) → Holds P (settle K p (Broken t))
  pub resolves : (p : N) (y : Value N) → Holds P (look (λ s. standing_of K s.known p) >>= λ w. where_unresolved K tree w (resolve K p y))
  pub sends : (act : ℕ) (x : Value N) (verb : Words) (args : List (Value N)) → Holds P (send K act x verb args)
  pub sends_only : (act : ℕ) (x : Value N) (verb : Words) (args : List (Value N)) → Holds P (send_only K act x verb args)
  pub reacts : (act : ℕ) (x o near : Value N) → Holds P (react K act x o near)

-- all but a resolver
abbrev pub IsNoResolver : {N : Type 0} → Option (Thing N) → Type 0
IsNoResolver (Some (Resolver p)) = ⊥
IsNoResolver other = Unit {0}

-- The same where what a resolver does may ask for a state that has it: no promise is resolved or broken in evaluation but by one.
pub record InNodes {N W : Type 0} (P : Property N) (K : Naming N W) (tree : List Node) : Type 1 where
  -- what holds of an act that has P from each state with a resolver of p
  pub by_resolver : N → Property N
  pub closed : (p : N) → IsClosed (by_resolver p)
  pub ends : (p : N) → IsEnding (by_resolver p)
  pub calls : (p : N) (act : ℕ) (x : Value N) (verb : Words) (args : List (Value N)) {m : Act N (Value N)} → Holds (by_resolver p) m → Holds (by_resolver p) (tell (Called act x verb args None) >> ended act m)
  -- a promise, and its resolver
  pub promises : {f : N → ℕ → Act N (Value N)} → ((p : N) (r : ℕ) → Holds P (f p r)) → Holds P (new_promise K >>= λ p. new_thing (Resolver p) >>= λ r. f p r)
  -- what is done with a thing
  pub things : (i : ℕ) {f : Option (Thing N) → Act N (Value N)} → ((p : N) → Holds (by_resolver p) (f (Some (Resolver p)))) → ((o : Option (Thing N)) → IsNoResolver o → Holds P (f o)) → Holds P (look (λ s. slice_get s.things i) >>= f)
  -- an audition, and what is done while it is live
  pub audits : {A B : Type 0} (act : ℕ) (view : View N) {m : ℕ → Act N A} {f : A → Act N B} → ((n : ℕ) → Holds P (m n)) → ((a : A) → Holds P (f a))
      → Holds P (new_thing (Audition true view) >>= λ n. tell (AuditionMade act (K.object n)) >> (leaving K tree n (m n) >>= f))
  -- an ejector, and what is done while it is live and by how that ended
  pub escapes : {A B : Type 0} (act : ℕ) {f : ℕ → A → Act N B} {g : ℕ → Words → Act N B} {h : ℕ → ℕ → Value N → Act N B} {m : ℕ → Act N A}
      → ((j : ℕ) (a : A) → Holds P (f j a)) → ((j : ℕ) (p : Words) → Holds P (g j p)) → ((j n : ℕ) (v : Value N) → Holds P (h j n v)) → ((j : ℕ) → Holds P (m j))
      → Holds P (new_ejector K tree act >>= λ j. ending (λ a. leave K tree j (f j a)) (λ p. leave K tree j (g j p)) (λ n v. leave K tree j (h j n v)) (m j))
  -- what is done with references
  pub breaks : (p : N) (t : Words) → Holds (by_resolver p) (look (λ s. standing_of K s.known p) >>= λ w. where_unresolved K tree w (settle K p (Broken t)))
  pub resolves : (p : N) (y : Value N) → Holds (by_resolver p) (look (λ s. standing_of K s.known p) >>= λ w. where_unresolved K tree w (resolve K p y))
  pub sends : (act : ℕ) (x : Value N) (verb : Words) (args : List (Value N)) → Holds P (send K act x verb args)
  pub sends_only : (act : ℕ) (x : Value N) (verb : Words) (args : List (Value N)) → Holds P (send_only K act x verb args)
  pub reacts : (act : ℕ) (x o near : Value N) → Holds P (react K act x o near)
