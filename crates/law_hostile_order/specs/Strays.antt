-- E-order where some vats are hostile. A message stays before a reference as long as the reference's vat follows it to no name of a hostile vat: from the line on in which it does, the reference strays, and the message is before it no more.
use Rattle.std.specs.Prelude.{◌≡◌, ℕ, zero, suc, Bool, true, false, not, List, [], ◌∷◌, ◌++◌, Option, Some, None, length, ◌==◌, ◌&&◌, ◌||◌}
use Rattle.def_machine.specs.Values.{Value, Null, Flag, Number, Letter, Text, Prim, Broken, Items, Ref, Name, Root, Object, Answer, Gift, Sent, Msg, same_name, host_of}
use Rattle.def_machine.specs.State.{Message, NoMore, Deliver, Took, Sends, Settles, Views, is_in}
use Rattle.def_run.specs.World.{Event, Here, Carried}
use Rattle.law_order.specs.Ordering.Order as old
use Rattle.law_order.specs.Ordering.Order.{Reach, comes, taken_on, reaching, sent_on, sends_behind, taken_after}
use Rattle.law_order.specs.Ordering.Order.{opened_order}

-- ---- where a reference leads

-- to what a line of vat v says that a name leads
unfoldable pub told_value : ℕ → Name → Event → Option (Value Name)
told_value v n (Here w (Settles m y)) = elim ((w == v) && same_name m n) [ true ↦ Some y | false ↦ None ]
told_value v n (Here w (Views m q)) = elim ((w == v) && same_name m n) [ true ↦ Some (Ref q) | false ↦ None ]
told_value v n _ = None

-- the last of these lines counts: a name that is viewed may settle
unfoldable pub last_told : ℕ → Name → List Event → Option (Value Name)
last_told v n [] = None
last_told v n (e ∷ es) = elim (last_told v n es) [ Some y ↦ Some y | None ↦ told_value v n e ]

-- where a value leads at vat v by these lines, in at most so many steps
unfoldable pub led_by : ℕ → ℕ → List Event → Value Name → Value Name
led_by zero v done x = x
led_by (suc d) v done (Ref n) = elim (last_told v n done) [ Some y ↦ led_by d v done y | None ↦ Ref n ]
led_by (suc d) v done x = x

-- a name of one of these vats
unfoldable pub is_of : List ℕ → Value Name → Bool
is_of hs (Ref n) = is_in (host_of n) hs
is_of hs _ = false

-- the vat follows its name to a name of one of these vats
unfoldable pub strays : List ℕ → List Event → Reach → Bool
strays hs done r = is_of hs (led_by (suc (length done)) r.vat done (Ref r.name))

unfoldable pub unless : Bool → Reach → List Reach → List Reach
unless true r rs = rs
unless false r rs = r ∷ rs

-- the reaches that stay
unfoldable pub staying : List ℕ → List Event → List Reach → List Reach
staying hs done [] = []
staying hs done (r ∷ rs) = unless (strays hs done r) r (staying hs done rs)

-- ---- what a message is before

unfoldable pub passed_by : Bool → List Reach → List Reach
passed_by true rs = []
passed_by false rs = rs

-- What one more line adds for the message m: a passing from one of these vats, or to one, leads no reference on.
unfoldable pub reaches_on : List ℕ → Name → List Event → List Reach → Event → List Reach
reaches_on hs m done rs (Carried k v w n bytes) = passed_by (is_in v hs || is_in w hs) (old.reaches_on m done rs (Carried k v w n bytes))
reaches_on hs m done rs e = old.reaches_on m done rs e

-- the references that m is before behind one more line
unfoldable pub on : List ℕ → Name → List Event → List Reach → Event → List Reach
on hs m done rs e = staying hs (done ++ e ∷ []) (rs ++ reaches_on hs m done rs e)

unfoldable pub before_from : List ℕ → Name → Name → List Event → List Reach → List Event → Bool
before_from hs a b done rs [] = false
before_from hs a b done rs (e ∷ es) = sends_behind b rs e || before_from hs a b (done ++ e ∷ []) (on hs a done rs e) es

unfoldable pub is_before : List ℕ → Name → Name → List Event → Bool
is_before hs a b es = before_from hs a b [] [] es

unfoldable pub keeps_order : List ℕ → List Event → Name → Name → Bool
keeps_order hs es a b = not (is_before hs a b es) || taken_after a b es

-- each message that an object takes is taken behind all that are before it, where these vats are hostile
abbrev pub Ordered : List ℕ → List Event → Type 0
Ordered hs es = (a b : Name) → keeps_order hs es a b ≡ true

-- Law: where none is hostile, that is the order of the runs of honest vats, history by history.
abbrev pub StrayingsNeedHostileVats : Type 0
StrayingsNeedHostileVats = (es : List Event) (a b : Name) → keeps_order [] es a b ≡ old.keeps_order es a b

-- ---- the smallest history: what vat 0 sends on a name of vat 1 that vat 2 leads on to vat 3

abbrev pub f : Name
f = Sent (record { sender = 0; number = 1 })

abbrev pub g : Name
g = Sent (record { sender = 0; number = 3 })

-- the answer of the first message of vat 0, at vat 1
abbrev pub x : Name
x = Answer 1 (record { sender = 0; number = 0 })

abbrev pub sent : Name → Value Name → Message Name
sent m y = record { id = m; target = y; verb = []; args = []; answer = None }

unfoldable pub history : List Event
history =
    Here 0 (Sends 0 (sent f (Ref x))) ∷
    Here 0 (Views x (Gift 2 1)) ∷
    Here 0 (Views (Gift 2 1) (Gift 3 2)) ∷
    Here 3 (Settles (Gift 3 2) (Ref (Object 3 0))) ∷
    Here 0 (Sends 1 (sent g (Ref x))) ∷
    Here 3 (Took 1 (sent g (Ref (Object 3 0)))) ∷
    []

-- Law, by computing: of f and g it is in order where vat 2 is hostile, and else not.
abbrev pub HostileVatsLeadAstray : Type 0
HostileVatsLeadAstray = (keeps_order (2 ∷ []) history f g ≡ true) × (keeps_order [] history f g ≡ false)

-- opens each definition of this file, and of those below
unfoldable pub opened_strays : Unit {0}
unfolding told_value last_told led_by is_of strays unless staying passed_by reaches_on on before_from is_before keeps_order history opened_order
opened_strays = tt
