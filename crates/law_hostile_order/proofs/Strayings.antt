-- Where no vat is hostile no reach strays.
use Rattle.std.proofs.Common.{◌≡◌, ℕ, zero, suc, Bool, true, false, not, ◌||◌, List, [], ◌∷◌, ◌++◌, refl, sym, ap, ◌∙◌, length}
use Rattle.def_machine.specs.Values.{Value, Null, Flag, Number, Letter, Text, Prim, Broken, Items, Ref, Name}
use Rattle.def_machine.specs.State.{is_in}
use Rattle.def_run.specs.World.{Event, Opens, Turned, Idle, Carried, CutAt, NoticedAt, Here, LostCut, LeftQueue, LeftHeld, LeftWait, LeftLink, Ends}
use Rattle.law_order.specs.Ordering.Order as old
use Rattle.law_order.specs.Ordering.Order.{Reach, sends_behind, taken_after}
use Rattle.law_hostile_order.specs.Strays as new
use Rattle.law_hostile_order.specs.Strays.{is_of, strays, unless, staying, passed_by, led_by, StrayingsNeedHostileVats, HostileVatsLeadAstray, opened_strays}

of_none : (x : Value Name) → is_of [] x ≡ false
unfolding is_of is_in
of_none (Ref n) = refl
of_none Null = refl
of_none (Flag b) = refl
of_none (Number z) = refl
of_none (Letter c) = refl
of_none (Text t) = refl
of_none (Prim i) = refl
of_none (Broken p) = refl
of_none (Items k) = refl

none_strays : (done : List Event) (r : Reach) → strays [] done r ≡ false
unfolding strays
none_strays done r = of_none (led_by (suc (length done)) r.vat done (Ref r.name))

all_stay : (done : List Event) (rs : List Reach) → staying [] done rs ≡ rs
unfolding staying unless
all_stay done [] = refl
all_stay done (r ∷ rs) = ap (λ b. unless b r (staying [] done rs)) (none_strays done r) ∙ ap (λ qs. r ∷ qs) (all_stay done rs)

reaches_alike : (m : Name) (done : List Event) (rs : List Reach) (e : Event) → new.reaches_on [] m done rs e ≡ old.reaches_on m done rs e
unfolding new.reaches_on passed_by is_in
reaches_alike m done rs (Carried k v w n bytes) = refl
reaches_alike m done rs (Opens v) = refl
reaches_alike m done rs (Turned k v) = refl
reaches_alike m done rs (Idle k) = refl
reaches_alike m done rs (CutAt k v w) = refl
reaches_alike m done rs (NoticedAt k v w) = refl
reaches_alike m done rs (Here v e) = refl
reaches_alike m done rs (LostCut n) = refl
reaches_alike m done rs (LeftQueue v n) = refl
reaches_alike m done rs (LeftHeld v p n) = refl
reaches_alike m done rs (LeftWait v p n) = refl
reaches_alike m done rs (LeftLink v w n) = refl
reaches_alike m done rs Ends = refl

on_alike : (m : Name) (done : List Event) (rs : List Reach) (e : Event) → new.on [] m done rs e ≡ rs ++ old.reaches_on m done rs e
unfolding new.on
on_alike m done rs e = all_stay (done ++ e ∷ []) (rs ++ new.reaches_on [] m done rs e) ∙ ap (λ qs. rs ++ qs) (reaches_alike m done rs e)

before_alike : (a b : Name) (done : List Event) (rs : List Reach) (es : List Event) → new.before_from [] a b done rs es ≡ old.before_from a b done rs es
unfolding new.before_from old.before_from
before_alike a b done rs [] = refl
before_alike a b done rs (e ∷ es) = ap (λ qs. sends_behind b rs e || new.before_from [] a b (done ++ e ∷ []) qs es) (on_alike a done rs e)
    ∙ ap (λ c. sends_behind b rs e || c) (before_alike a b (done ++ e ∷ []) (rs ++ old.reaches_on a done rs e) es)

pub strayings_need_hostile_vats : StrayingsNeedHostileVats
unfolding new.keeps_order old.keeps_order new.is_before old.is_before
strayings_need_hostile_vats es a b = ap (λ c. not c || taken_after a b es) (before_alike a b [] [] es)

pub hostile_vats_lead_astray : HostileVatsLeadAstray
unfolding opened_strays
hostile_vats_lead_astray = (refl, refl)
