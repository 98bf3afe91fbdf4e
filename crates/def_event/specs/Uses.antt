-- When the lines of a history use only what is known to who uses it, by these lines alone.
-- A line stands with those before it, the last of them first.
use Rattle.std.specs.Prelude.{◌≡◌, ℕ, ◌+◌, ◌<◌, ◌==◌, bytes_eq, Bool, true, false, ◌&&◌, ◌||◌, if◌then◌else◌, ◌⊎◌, ◌↔◌, List, [], ◌∷◌, ◌++◌, map, take, drop, length, slice_get, codes, Option, Some, None, unwrap_or}
use Rattle.ev_base.specs.declared.names.Name.{Name}
use Rattle.ev_base.specs.declared.names.Name.TheVariants.{Object, Gift, Root, Claimed}
use Rattle.ev_base.specs.declared.names.Msg.{Msg}
use Rattle.def_event.specs.declared.shown.Shown.{Shown, Null, Bool as Flag, Int, Char, Text, Broken, Prim, List as ListOf, Slot, Name as Named, Members', Row_of-Shown, end_of-Shown, more_of-Shown}
use Rattle.def_event.specs.declared.note.ShownNote.{ShownNote}
use Rattle.def_event.specs.declared.note.ShownNote.TheVariants.{Deliver, DeliverOnly}
use Rattle.def_event.specs.declared.event.Event.{Event}
use Rattle.def_event.specs.declared.event.Called.{Called}
use Rattle.def_event.specs.declared.event.Event.TheVariants.{Open, Turn, Idle, Carry, Cut, Notice, Take, Call, Back, Thrown, Gone, Got, Read, Wrote, List as ListMade, Arrived, Ejector, Audition as AuditionMade, Promise, Made as ObjectMade, Send, SendOnly, When, Done, Settle, View, Raw}
use Rattle.def_event.specs.declared.raw.RawLine.{RawLine}
use Rattle.def_event.specs.declared.raw.RawLine.TheVariants.{Inject, InjectCut, Malformed, Bytes, LeftBytes}

-- ---- what is known, and by whom

-- what can be known: a name, or a list, by the vat that made it and its number there
pub data Thing : Type 0 where
  AName : Name → Thing
  AList : ℕ → ℕ → Thing

-- an activation, by the place of its lines and its number there
pub record Activation : Type 0 where
  pub at : ℕ
  pub number : ℕ

-- what a line tells by itself of who knows what
pub data Fact : Type 0 where
  -- the activation has begun; it began as the opening of its vat; it made the thing or was given it
  Begun : Activation → Fact
  Opened : Activation → Fact
  Given : Activation → Thing → Fact
  -- the object was made; it captured the thing when it was made; it is an audition
  Made : Name → Fact
  Captured : Name → Thing → Fact
  Audition : Name → Fact

-- a list leads to its members at every vat, a name to what it settled to or to its view at the place of that line
pub data Way : Type 0 where
  Listed : Way
  Settled : ℕ → Way

pub record Lead : Type 0 where
  pub way : Way
  pub from : Thing
  pub to : Thing

-- ---- lines and their places

-- A line, and its place: the number of the vat of its step from 1 on, or 0 for none, before the first step and after an idle or a cut entry.
pub record Line : Type 0 where
  pub at : ℕ
  pub event : Event

-- the place of a line about a frame: that of the vat to which it comes, and 0 where it is put on a link
unfoldable pub raw_place : ℕ → RawLine → ℕ
raw_place at (Inject k v w bytes) = 0
raw_place at (InjectCut k v w) = 0
raw_place at (Malformed k v w place) = w + 1
raw_place at (Bytes k v w bytes) = w + 1
raw_place at (LeftBytes v w bytes) = at

-- the place of a line, by that of the line before it
unfoldable pub place_after : ℕ → Event → ℕ
place_after at (Open v) = v + 1
place_after at (Turn k v) = v + 1
place_after at (Notice k v w) = v + 1
place_after at (Carry k v w note) = w + 1
place_after at (Idle k) = 0
place_after at (Cut k v w) = 0
place_after at (Raw line) = raw_place at line
place_after at _ = at

abbrev pub place_of : List Line → ℕ
place_of [] = 0
place_of (l ∷ past) = l.at

abbrev pub line_after : List Line → Event → Line
line_after past e = record { at = place_after (place_of past) e; event = e }

-- these lines with those of more events
abbrev pub and_lines : List Line → List Event → List Line
and_lines past [] = past
and_lines past (e ∷ es) = and_lines (line_after past e ∷ past) es

-- ---- things

abbrev pub IsAmong : {A : Type 0} → A → List A → Type 0
IsAmong x [] = ⊥
IsAmong x (y ∷ ys) = (y ≡ x) ⊎ IsAmong x ys

-- the name or the list that a value is
unfoldable pub things_of : Shown → List Thing
things_of (Named n) = AName n ∷ []
things_of (ListOf v n) = AList v n ∷ []
things_of _ = []

abbrev pub things : List Shown → List Thing
things [] = []
things (x ∷ xs) = things_of x ++ things xs

-- the list that a value is
unfoldable pub lists_of : Shown → List Thing
lists_of (ListOf v n) = AList v n ∷ []
lists_of _ = []

-- ---- what lines tell

abbrev pub given : ℕ → ℕ → List Thing → List Fact
given at a ts = map (λ t. Given (record { at = at; number = a }) t) ts

-- What the activation of a line made, got, read or was given back, and the answers of its sends and reactions; and that an object is an audition.
unfoldable pub gains : ℕ → Event → List Fact
gains at (Back a x) = given at a (things_of x)
gains at (Got a x) = given at a (things_of x)
gains at (Read a s x) = given at a (things_of x)
gains at (ListMade a l members) = given at a (AList l.0 l.1 ∷ [])
gains at (Ejector a o) = given at a (things_of o)
gains at (AuditionMade a (Named n)) = Audition n ∷ given at a (AName n ∷ [])
gains at (AuditionMade a o) = given at a (things_of o)
gains at (Promise a p o) = given at a (AName p ∷ things_of o)
gains at (ObjectMade o) = given at o.activation (things_of o.object)
gains at (Send m) = given at m.activation (AName m.answer ∷ [])
gains at (When w) = given at w.activation (AName w.answer ∷ [])
gains at _ = []

-- what is told where a first fact was not told before
pub record Anew : Type 0 where
  pub mark : Fact
  pub facts : List Fact

abbrev pub begun : ℕ → ℕ → List Fact → Option Anew
begun at a facts = Some (record { mark = Begun (record { at = at; number = a }); facts = facts })

abbrev pub begun_call : ℕ → Called → Option ℕ → Option Anew
begun_call at c None = None
begun_call at c (Some b) = begun at b (given at b (things c.args))

-- An activation begins with the first of its lines: the opening of a vat, a message taken, or a call. It is given the arguments, and a list that takes the message.
unfoldable pub begins : ℕ → Event → Option Anew
begins at (Open v) = begun at 0 (Opened (record { at = at; number = 0 }) ∷ [])
begins at (Take t) = begun at t.activation (given at t.activation (lists_of t.target ++ things t.args))
begins at (Call c) = begun_call at c c.begun
begins at _ = None

abbrev pub captured : Shown → List Shown → Option Anew
captured (Named n) caps = Some (record { mark = Made n; facts = map (λ t. Captured n t) (things caps) })
captured _ caps = None

-- an object is made by the first line that makes it
unfoldable pub makes : Event → Option Anew
makes (ObjectMade o) = captured o.object o.caps
makes _ = None

-- what is told anew after what was told
abbrev pub TellsAnew : (Fact → Type 0) → Option Anew → Fact → Type 0
TellsAnew Told None f = ⊥
TellsAnew Told (Some n) f = (Told n.mark → ⊥) × IsAmong f (n.mark ∷ n.facts)

-- one of the lines tells the fact
unfoldable pub IsTold : List Line → Fact → Type 0
IsTold [] f = ⊥
IsTold (l ∷ past) f =
    IsTold past f ⊎ (IsAmong f (gains l.at l.event) ⊎ (TellsAnew (IsTold past) (begins l.at l.event) f ⊎ TellsAnew (IsTold past) (makes l.event) f))

-- ---- what leads to what

abbrev pub led : Way → Thing → List Thing → List Lead
led way from ts = map (λ t. record { way = way; from = from; to = t }) ts

-- a list line leads to the members, a settle or view line of a vat from the name to what it gives there
unfoldable pub leads : ℕ → Event → List Lead
leads at (Settle p x) = led (Settled at) (AName p) (things_of x)
leads at (View p q) = led (Settled at) (AName p) (AName q ∷ [])
leads at (ListMade a l members) = led Listed (AList l.0 l.1) (things members)
leads at (Arrived l members) = led Listed (AList l.0 l.1) (things members)
leads at _ = []

unfoldable pub IsLead : List Line → Lead → Type 0
IsLead [] d = ⊥
IsLead (l ∷ past) d = IsLead past d ⊎ IsAmong d (leads l.at l.event)

-- what things that start lead to by the ways that are open
pub data Reaches (past : List Line) (Starts : Thing → Type 0) (IsOpen : Way → Type 0) : Thing → Type 0 where
  start : {t : Thing} → Starts t → Reaches past Starts IsOpen t
  onward : (d : Lead) → IsLead past d → IsOpen d.way → Reaches past Starts IsOpen d.from → Reaches past Starts IsOpen d.to

-- ---- the object whose code an activation runs

-- the name that a value is
unfoldable pub names_of : Shown → List Name
names_of (Named n) = n ∷ []
names_of _ = []

unfoldable pub name_of : Shown → Option Name
name_of (Named n) = Some n
name_of _ = None

-- a name and what a line gives for it: a name, or none
pub record Given_for : Type 0 where
  pub name : Name
  pub value : Option Name

unfoldable pub settles : Event → Option Given_for
settles (Settle p x) = Some (record { name = p; value = name_of x })
settles _ = None

unfoldable pub views : Event → Option Given_for
views (View p q) = Some (record { name = p; value = Some q })
views _ = None

-- a line of the vat gives something for the name
abbrev pub IsGivenBy : (Event → Option Given_for) → List Line → ℕ → Name → Type 0
IsGivenBy by [] at n = ⊥
IsGivenBy by (l ∷ past) at n = IsGivenBy by past at n ⊎ ((l.at ≡ at) × (value : Option Name) × (by l.event ≡ Some (record { name = n; value = value })))

-- the first such line gives this
abbrev pub IsFirstGivenBy : (Event → Option Given_for) → List Line → ℕ → Name → Option Name → Type 0
IsFirstGivenBy by [] at n value = ⊥
IsFirstGivenBy by (l ∷ past) at n value =
    IsFirstGivenBy by past at n value ⊎ ((IsGivenBy by past at n → ⊥) × (l.at ≡ at) × (by l.event ≡ Some (record { name = n; value = value })))

-- what a name leads to: by its first settle line, else by its first view line
abbrev pub IsNext : List Line → ℕ → Name → Name → Type 0
IsNext past at n m =
    IsFirstGivenBy settles past at n (Some m) ⊎ ((IsGivenBy settles past at n → ⊥) × IsFirstGivenBy views past at n (Some m))

unfoldable pub is_object : Name → Bool
is_object (Object v n) = true
is_object _ = false

-- a name is followed at a vat up to an object
pub data IsFollowed (past : List Line) (at : ℕ) : Name → Name → Type 0 where
  there : {o : Name} → is_object o ≡ true → IsFollowed past at o o
  further : {n o : Name} (m : Name) → is_object n ≡ false → IsNext past at n m → IsFollowed past at m o → IsFollowed past at n o

-- what begins an activation, and the target that it has
pub record Running : Type 0 where
  pub activation : ℕ
  pub target : Option Name

abbrev pub running_call : Called → Option ℕ → Option Running
running_call c None = None
running_call c (Some b) = Some (record { activation = b; target = name_of c.target })

unfoldable pub runs : Event → Option Running
runs (Take t) = Some (record { activation = t.activation; target = name_of t.target })
runs (Call c) = running_call c c.begun
runs _ = None

-- the activation runs the code of the object, which its target was followed to before the line that began it
abbrev pub Runs : List Line → Activation → Name → Type 0
Runs [] a o = ⊥
Runs (l ∷ past) a o =
    Runs past a o
    ⊎ ((l.at ≡ a.at) × (IsTold past (Begun a) → ⊥) × (target : Name) × (runs l.event ≡ Some (record { activation = a.number; target = Some target })) × IsFollowed past l.at target o)

-- ---- what an activation knows

unfoldable pub is_root : Thing → Bool
is_root (AName (Root v)) = true
is_root _ = false

-- what an activation has by itself: as an opening one each root, what it made or was given, and what the object whose code it runs captured
abbrev pub Has : List Line → Activation → Thing → Type 0
Has past a t =
    ((is_root t ≡ true) × IsTold past (Opened a)) ⊎ (IsTold past (Given a t) ⊎ ((o : Name) × Runs past a o × IsTold past (Captured o t)))

-- lists lead on everywhere, settle and view lines at their vat
abbrev pub IsOpenAt : ℕ → Way → Type 0
IsOpenAt at Listed = Unit {0}
IsOpenAt at (Settled v) = v ≡ at

abbrev pub Knows : List Line → Activation → Thing → Type 0
Knows past a t = Reaches past (Has past a) (IsOpenAt a.at) t

abbrev pub KnowsName : List Line → ℕ → ℕ → Name → Type 0
KnowsName past at a n = Knows past (record { at = at; number = a }) (AName n)

-- ---- 1. What a line uses is known to its activation, or made by the line.

abbrev pub names : List Shown → List Name
names [] = []
names (x ∷ xs) = names_of x ++ names xs

-- of a coerce call with two arguments and of an audit call with one the receiver does not count
abbrev pub is_guarding : Called → Bool
is_guarding c =
    (bytes_eq c.verb (codes "coerce") && (length c.args == 2)) || (bytes_eq c.verb (codes "audit") && (length c.args == 1))

abbrev pub receivers : Called → List Name
receivers c = if is_guarding c then [] else names_of c.target

-- the names that a line uses
unfoldable pub names_used : Event → List Name
names_used (Call c) = receivers c ++ names c.args
names_used (ListMade a l members) = names members
names_used (ObjectMade o) = names o.caps ++ names o.stamps
names_used (Send m) = names_of m.target ++ names m.args
names_used (SendOnly m) = names_of m.target ++ names m.args
names_used (When w) = names_of w.value ++ names_of w.reaction
names_used (Wrote a s x) = names_of x
names_used (Done a x) = names_of x
names_used _ = []

-- the activation that uses them, and 0 where the line uses none
unfoldable pub user : Event → ℕ
user (Call c) = c.activation
user (ListMade a l members) = a
user (ObjectMade o) = o.activation
user (Send m) = m.activation
user (SendOnly m) = m.activation
user (When w) = w.activation
user (Wrote a s x) = a
user (Done a x) = a
user _ = 0

-- the name that the line makes
unfoldable pub made_by : Event → Option Name
made_by (ObjectMade o) = name_of o.object
made_by (Send m) = Some m.answer
made_by (When w) = Some w.answer
made_by _ = None

abbrev pub UsesKnown : List Line → Line → Type 0
UsesKnown past l = (n : Name) → IsAmong n (names_used l.event) → (made_by l.event ≡ Some n) ⊎ KnowsName past l.at (user l.event) n

-- ---- 2. What a call gives back is known to the activation that it began, else to the caller, or an audition gave it as a guard.

-- a call that has not ended, with the lines before it
pub record OpenCall : Type 0 where
  pub call : Called
  pub before : List Line

-- the open calls of an activation after a line of its vat
unfoldable pub calls_after : List Line → Event → ℕ → List OpenCall → List OpenCall
calls_after past (Call c) a calls = if c.activation == a then record { call = c; before = past } ∷ calls else calls
calls_after past (Back b x) a calls = if b == a then drop 1 calls else calls
calls_after past (Thrown b x) a calls = if b == a then drop 1 calls else calls
calls_after past (Gone b) a calls = if b == a then drop 1 calls else calls
calls_after past _ a calls = calls

-- the innermost first
abbrev pub open_calls : List Line → ℕ → ℕ → List OpenCall
open_calls [] at a = []
open_calls (l ∷ past) at a =
    if l.at == at then calls_after past l.event a (open_calls past at a) else open_calls past at a

-- it asks for a guard what was followed to an audition
abbrev pub AsksAudition : ℕ → OpenCall → Type 0
AsksAudition at c =
    (c.call.verb ≡ codes "getGuard") × (n o : Name) × (name_of c.call.target ≡ Some n) × IsFollowed c.before at n o × IsTold c.before (Audition o)

abbrev pub GivesBack : List Line → ℕ → ℕ → Name → List OpenCall → Type 0
GivesBack past at a n [] = KnowsName past at a n
GivesBack past at a n (c ∷ calls) = KnowsName past at (unwrap_or c.call.begun a) n ⊎ AsksAudition at c

abbrev pub BackKnown : List Line → Line → Type 0
BackKnown past l =
    (a : ℕ) (x : Shown) (n : Name) → l.event ≡ Back a x → name_of x ≡ Some n → GivesBack past l.at a n (open_calls past l.at a)

-- ---- 3. A message is taken with the arguments that it was sent with.

abbrev mutual
  -- the names and lists in a value of a note
  pub parts : Shown → List Thing
  parts (Members' shape members) = member_parts members
  parts (Named n) = AName n ∷ []
  parts (ListOf v n) = AList v n ∷ []
  parts Null = []
  parts (Flag b) = []
  parts (Int z) = []
  parts (Char c) = []
  parts (Text t) = []
  parts (Broken problem) = []
  parts (Prim p) = []
  parts (Slot v n) = []

  pub member_parts : {n : _} → Row_of-Shown n → List Thing
  member_parts end_of-Shown = []
  member_parts (more_of-Shown x rest) = parts x ++ member_parts rest

abbrev pub all_parts : List Shown → List Thing
all_parts [] = []
all_parts (x ∷ xs) = parts x ++ all_parts xs

abbrev pub same_message : Msg → Msg → Bool
same_message m n = (m.sender == n.sender) && (m.number == n.number)

abbrev pub of_message : {A : Type 0} → Msg → Msg → A → Option A
of_message m n x = if same_message m n then Some x else None

-- what a line sends with a message: its arguments, or what a reaction waits for
unfoldable pub sent_with : Msg → Event → Option (List Thing)
sent_with m (Send s) = of_message m s.message (all_parts s.args)
sent_with m (SendOnly s) = of_message m s.message (all_parts s.args)
sent_with m (When w) = of_message m w.message (parts w.value)
sent_with m _ = None

unfoldable pub delivered_with : Msg → ShownNote → Option (List Thing)
delivered_with m (Deliver n target verb args) = of_message m n (all_parts args)
delivered_with m (DeliverOnly n target verb args) = of_message m n (all_parts args)
delivered_with m _ = None

unfoldable pub carried_with : Msg → Event → Option (List Thing)
carried_with m (Carry k v w note) = delivered_with m note
carried_with m _ = None

abbrev pub or_else : {A : Type 0} → Option A → Option A → Option A
or_else (Some x) o = Some x
or_else None o = o

abbrev pub first_of : {A : Type 0} → (Event → Option A) → List Event → Option A
first_of f [] = None
first_of f (e ∷ es) = or_else (f e) (first_of f es)

abbrev pub last_of : {A : Type 0} → (Event → Option A) → List Event → Option A
last_of f [] = None
last_of f (e ∷ es) = or_else (last_of f es) (f e)

-- in a whole history: what the last carry line of the message has, else the first line that sends it
abbrev pub arguments_in : List Event → Msg → List Thing
arguments_in whole m = unwrap_or (or_else (last_of (carried_with m) whole) (first_of (sent_with m) whole)) []

abbrev pub IsListed : Way → Type 0
IsListed way = way ≡ Listed

-- the name stands in these, lists taken apart
abbrev pub StandsIn : List Line → List Thing → Name → Type 0
StandsIn past ts n = Reaches past (λ t. IsAmong t ts) IsListed (AName n)

unfoldable pub TakesSent : List Event → List Line → Event → Type 0
TakesSent whole past (Take t) = (n : Name) → StandsIn past (all_parts t.args) n ↔ StandsIn past (arguments_in whole t.message) n
TakesSent whole past _ = Unit {0}

-- ---- 4. What is carried was there in the line before of the message, or is what that leads to, or a gift.

unfoldable pub delivered : ShownNote → Option (Msg × List Thing)
delivered (Deliver m target verb args) = Some (m, AName target ∷ all_parts args)
delivered (DeliverOnly m target verb args) = Some (m, AName target ∷ all_parts args)
delivered _ = None

abbrev pub of_delivered : {A : Type 0} → Msg → Option (Msg × A) → Option A
of_delivered m None = None
of_delivered m (Some d) = of_message m d.0 d.1

-- what a line of a message has: its target, its arguments and its answer
unfoldable pub had : Msg → Event → Option (List Thing)
had m (Send s) = of_message m s.message (parts s.target ++ all_parts s.args ++ AName s.answer ∷ [])
had m (SendOnly s) = of_message m s.message (parts s.target ++ all_parts s.args)
had m (Carry k v w note) = of_delivered m (delivered note)
had m _ = None

abbrev pub line_before : List Line → Msg → List Thing
line_before past m = unwrap_or (first_of (had m) (map (λ l. l.event) past)) []

unfoldable pub is_gift : Name → Bool
is_gift (Gift v n) = true
is_gift (Claimed h p word) = true
is_gift _ = false

abbrev pub CarriesThese : List Line → Option (Msg × List Thing) → Type 0
CarriesThese past None = Unit {0}
CarriesThese past (Some d) =
    (n : Name) → IsAmong (AName n) d.1 → (is_gift n ≡ true) ⊎ Reaches past (λ t. IsAmong t (line_before past d.0)) (λ _. Unit {0}) (AName n)

unfoldable pub CarriesSent : List Line → Event → Type 0
CarriesSent past (Carry k v w note) = CarriesThese past (delivered note)
CarriesSent past _ = Unit {0}

-- ---- the whole

-- of a line of a whole history, after those before it
abbrev pub LineHolds : List Event → List Line → Line → Type 0
LineHolds whole past l = UsesKnown past l × BackKnown past l × TakesSent whole past l.event × CarriesSent past l.event

-- the lines before an event of that number, from 0
abbrev pub lines_before : List Event → ℕ → List Line
lines_before es k = and_lines [] (take k es)

-- what is said of lines holds of that one, if there is one
abbrev pub HoldsAt : (List Line → Line → Type 0) → List Event → ℕ → Type 0
HoldsAt Holds es k = (e : Event) → slice_get es k ≡ Some e → Holds (lines_before es k) (line_after (lines_before es k) e)

-- the first line of which it does not hold, counted from 1, or none
abbrev pub IsFirstFailing : (List Line → Line → Type 0) → List Event → Option ℕ → Type 0
IsFirstFailing Holds es None = (k : ℕ) → HoldsAt Holds es k
IsFirstFailing Holds es (Some n) = (k : ℕ) × (n ≡ k + 1) × (HoldsAt Holds es k → ⊥) × ((j : ℕ) → j < k → HoldsAt Holds es j)

-- the history holds uses, or this is the first line that fails
abbrev pub JudgesUses : List Event → Option ℕ → Type 0
JudgesUses es answer = IsFirstFailing (LineHolds es) es answer
