-- E-order: which message is before which, as the history of a run tells it.
use Rattle.std.specs.Prelude.{◌≡◌, ℕ, suc, Bool, true, false, not, List, [], ◌∷◌, ◌++◌, Option, Some, None, length, nat_le, ◌==◌, ◌&&◌, ◌||◌}
use Rattle.def_machine.specs.Values.{Value, Items, Ref, Name, Gift, same_name}
use Rattle.def_machine.specs.State.{Passed, Passeds, Plain, AGift, Many, NoMore, More, Deliver, Took, Sends, ListMade, ListCame, Settles}
use Rattle.def_run.specs.World.{Event, Here, Carried}
use Rattle.def_run.specs.World.{opened_world}

-- Lines are numbered from 0. Of a history that grows at its end, the lines so far are called done.

-- ---- what passes for an argument

-- the members of list k of vat v, where that line tells of it
unfoldable pub listed : ℕ → ℕ → Event → Option (List (Value Name))
listed v k (Here w (ListMade act i ys)) = elim ((w == v) && (i == k)) [ true ↦ Some ys | false ↦ None ]
listed v k (Here w (ListCame i ys)) = elim ((w == v) && (i == k)) [ true ↦ Some ys | false ↦ None ]
listed v k _ = None

unfoldable pub list_in : ℕ → ℕ → List Event → List (Value Name)
list_in v k [] = []
list_in v k (e ∷ es) = elim (listed v k e) [ Some ys ↦ ys | None ↦ list_in v k es ]

unfoldable pub plains : List (Value Name) → Passeds Name
plains [] = NoMore
plains (y ∷ ys) = More (Plain y) (plains ys)

-- the members of the list to which a name settled at vat v, none where it settled to no list
unfoldable pub settled_members : ℕ → Name → List Event → List Event → Passeds Name
settled_members v n done [] = NoMore
settled_members v n done (Here w (Settles m (Items k)) ∷ es) = elim ((w == v) && same_name m n) [ true ↦ plains (list_in v k done) | false ↦ settled_members v n done es ]
settled_members v n done (e ∷ es) = settled_members v n done es

-- the members of an argument as vat v has it: of a list, or of the list to which its name settled
unfoldable pub members : ℕ → List Event → Passed Name → Passeds Name
members v done (Plain (Items k)) = plains (list_in v k done)
members v done (Plain (Ref n)) = settled_members v n done done
members v done (AGift h i) = settled_members v (Gift h i) done done
members v done (Many ys) = ys
members v done (Plain y) = NoMore

-- whether it is that name
unfoldable pub names : Name → Passed Name → Bool
names n (Plain (Ref m)) = same_name m n
names n (AGift h i) = same_name (Gift h i) n
names n _ = false

-- the name that passes in its place, if any does
unfoldable pub passes : Passed Name → List Name
passes (Plain (Ref m)) = m ∷ []
passes (AGift h i) = Gift h i ∷ []
passes _ = []

-- As what the name n passes from vat v, in an argument that stands in the note as the first and was had by v as the second: as an argument, or as a member of one at any depth.
unfoldable mutual
  pub passes_as : ℕ → List Event → Name → Passed Name → Passed Name → List Name
  passes_as v done n (Plain y) z = elim (names n z) [ true ↦ passes (Plain y) | false ↦ [] ]
  passes_as v done n (AGift h i) z = elim (names n z) [ true ↦ Gift h i ∷ [] | false ↦ [] ]
  passes_as v done n (Many ys) z = all_pass_as v done n ys (members v done z)

  pub all_pass_as : ℕ → List Event → Name → Passeds Name → Passeds Name → List Name
  all_pass_as v done n NoMore zs = []
  all_pass_as v done n (More y ys) NoMore = []
  all_pass_as v done n (More y ys) (More z zs) = passes_as v done n y z ++ all_pass_as v done n ys zs

-- ---- when a message came to a vat

-- in which line, and with which arguments
pub record Coming : Type 0 where
  pub line : ℕ
  pub args : Passeds Name

unfoldable pub comes_in : ℕ → Name → ℕ → Event → Option Coming
comes_in v m i (Here w (Sends act x)) = elim ((w == v) && same_name x.id m) [ true ↦ Some (record { line = i; args = plains x.args }) | false ↦ None ]
comes_in v m i (Carried k u w (Deliver x n verb ys) bytes) = elim ((w == v) && same_name x.message m) [ true ↦ Some (record { line = i; args = ys }) | false ↦ None ]
comes_in v m i _ = None

-- It was sent there, or its note arrived there; the first time counts. Lines are numbered from i on.
unfoldable pub comes : ℕ → Name → ℕ → List Event → Option Coming
comes v m i [] = None
comes v m i (e ∷ es) = elim (comes_in v m i e) [ Some c ↦ Some c | None ↦ comes v m (suc i) es ]

-- ---- which references a message is before

-- A reference, a vat and a name held there; messages that come to the vat in the line since or later may take it on.
pub record Reach : Type 0 where
  pub vat : ℕ
  pub name : Name
  pub since : ℕ

unfoldable pub reaching : ℕ → ℕ → List Name → List Reach
reaching v since [] = []
reaching v since (n ∷ ns) = record { vat = v; name = n; since = since } ∷ reaching v since ns

unfoldable pub sent_on : Value Name → List Name
sent_on (Ref n) = n ∷ []
sent_on _ = []

-- A message that came to vat v then, with those arguments, arrives at w by this line: references of v that were reached before it came lead on to what they pass as.
unfoldable pub taken_on : List Event → ℕ → ℕ → Passeds Name → Option Coming → List Reach → List Reach
taken_on done v w ys c [] = []
taken_on done v w ys None (r ∷ rs) = []
taken_on done v w ys (Some c) (r ∷ rs) = elim ((r.vat == v) && nat_le r.since c.line) [
  | true ↦ reaching w (length done) (all_pass_as v done r.name ys c.args) ++ taken_on done v w ys (Some c) rs
  | false ↦ taken_on done v w ys (Some c) rs
]

-- what one more line adds for the message m
unfoldable pub reaches_on : Name → List Event → List Reach → Event → List Reach
reaches_on m done rs (Here v (Sends act x)) = elim (same_name x.id m) [ true ↦ reaching v (suc (length done)) (sent_on x.target) | false ↦ [] ]
reaches_on m done rs (Carried k v w (Deliver x n verb ys) bytes) = taken_on done v w ys (comes v x.message 0 done) rs
reaches_on m done rs _ = []

-- The references that m is before: that on which it was sent, and each to which a chain of passings leads from there.
unfoldable pub reached_by : Name → List Event → List Reach → List Event → List Reach
reached_by m done rs [] = rs
reached_by m done rs (e ∷ es) = reached_by m (done ++ e ∷ []) (rs ++ reaches_on m done rs e) es

unfoldable pub reached : Name → List Event → List Reach
reached m es = reached_by m [] [] es

-- ---- which messages it is before

unfoldable pub is_reach : ℕ → Name → Reach → Bool
is_reach v n r = (r.vat == v) && same_name r.name n

unfoldable pub any_reach : ℕ → List Name → List Reach → Bool
any_reach v [] rs = false
any_reach v (n ∷ ns) [] = false
any_reach v (n ∷ ns) (r ∷ rs) = is_reach v n r || any_reach v (n ∷ ns) rs

-- whether m was sent on a reference that is reached
unfoldable pub sends_behind : Name → List Reach → Event → Bool
sends_behind m rs (Here v (Sends act x)) = same_name x.id m && any_reach v (sent_on x.target) rs
sends_behind m rs _ = false

unfoldable pub before_from : Name → Name → List Event → List Reach → List Event → Bool
before_from a b done rs [] = false
before_from a b done rs (e ∷ es) = sends_behind b rs e || before_from a b (done ++ e ∷ []) (rs ++ reaches_on a done rs e) es

-- The message a is before b: b was sent on a reference that a was before by then.
unfoldable pub is_before : Name → Name → List Event → Bool
is_before a b es = before_from a b [] [] es

-- ---- order

unfoldable pub is_object : Value Name → Bool
is_object (Ref n) = true
is_object _ = false

-- it is taken in that line, and whether by an object
unfoldable pub takes_it : Name → Event → Bool
takes_it m (Here v (Took act x)) = same_name x.id m
takes_it m _ = false

unfoldable pub object_takes_it : Name → Event → Bool
object_takes_it m (Here v (Took act x)) = same_name x.id m && is_object x.target
object_takes_it m _ = false

-- no object takes b but after a was taken
unfoldable pub taken_after : Name → Name → List Event → Bool
taken_after a b [] = true
taken_after a b (e ∷ es) = elim (takes_it a e) [ true ↦ true | false ↦ not (object_takes_it b e) && taken_after a b es ]

-- in the order of these two no wrong is done
unfoldable pub keeps_order : List Event → Name → Name → Bool
keeps_order es a b = not (is_before a b es) || taken_after a b es

-- An object takes no message before each that is before it was taken. So after a lost message none behind it is taken by an object.
abbrev pub Ordered : List Event → Type 0
Ordered es = (a b : Name) → keeps_order es a b ≡ true

-- opens each definition of this file, and of those below
unfoldable pub opened_order : Unit {0}
unfolding listed list_in plains settled_members members names passes passes_as comes_in comes reaching sent_on taken_on reaches_on reached_by reached is_reach any_reach sends_behind before_from is_before is_object takes_it object_takes_it taken_after keeps_order opened_world
opened_order = tt
