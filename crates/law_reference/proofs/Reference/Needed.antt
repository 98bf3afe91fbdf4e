-- Two states in which a name that settles behind the test makes a list lead back to itself: a name whose host was noticed, and a name that is viewed.
use Rattle.std.proofs.Common.{◌≡◌, ℕ, zero, suc, List, [], ◌∷◌, refl, sym, ap, ◌∙◌, inl, inr}
use Rattle.def_machine.specs.Values.{Value, Items, Ref, Name, Promise, Gift, Naming, naming, opened_values}
use Rattle.def_machine.specs.State.{Standing, Unsettled, Viewed, Known, Vat}
use Rattle.def_machine.specs.Native.{list_at}
use Rattle.def_machine.specs.Refs.{follow, opened_refs}
use Rattle.law_machine.specs.Machine.Breaks.{still_waits}
use Rattle.law_frozen.specs.Frozen.{IsAmong}
use Rattle.law_reference.specs.Reference.Lists.{NoListLeadsBack, ConditionsAreNeeded}
use Rattle.law_reference.proofs.Reference.Following.{name_list, broken_list}
use Rattle.law_reference.proofs.Reference.ListRings.{list_only}

abbrev Names : Naming Name Name
Names = naming (λ i. i) zero

known_as : Name → ℕ → Standing Name → Known Name
known_as n h t = record { name = n; host = h; standing = t; held = []; waiting = []; reactions = []; told = [] }

-- a vat whose one list has the promise of vat 1 as its one member
with_list : List (Known Name) → List ℕ → Vat Name
with_list ks hs = record { number = zero; fuel = 100; drawn = []; things = []; slots = []; lists = (Ref (Promise 1 zero) ∷ []) ∷ []; activations = zero; messages = zero; promises = zero; queue = []; known = ks; mails = []; gifts = []; noticed = hs; outbox = []; happened = [] }

noticed_host : Vat Name
noticed_host = with_list (known_as (Promise 1 zero) 1 Unsettled ∷ []) (1 ∷ [])

viewed_name : Vat Name
viewed_name = with_list (known_as (Promise 1 zero) 1 (Viewed (Gift 2 zero)) ∷ known_as (Gift 2 zero) 2 Unsettled ∷ []) []

only_member : (ks : List (Known Name)) (hs : List ℕ) (k : ℕ) (v : Value Name) → IsAmong v (list_at (with_list ks hs).lists k) → v ≡ Ref (Promise 1 zero)
unfolding list_at with_list
only_member ks hs zero v (inl e) = e
only_member ks hs zero v (inr a) = absurd a
only_member ks hs (suc k) v a = absurd a

none_back : (ks : List (Known Name)) (hs : List ℕ) → ((c : ℕ) → follow Names (with_list ks hs) (Ref (Promise 1 zero)) ≡ Items c → ⊥) → NoListLeadsBack Names (with_list ks hs)
none_back ks hs f k d h = let s : Vat Name = with_list ks hs in let c = list_only Names d s h.0 k h.2 in
    f c.0 (ap (follow Names s) (sym (only_member ks hs k h.1.0 h.1.1)) ∙ h.1.2 ∙ c.1)

host_breaks : (c : ℕ) → follow Names noticed_host (Ref (Promise 1 zero)) ≡ Items c → ⊥
unfolding opened_refs opened_values noticed_host with_list known_as
host_breaks c e = broken_list _ c e

view_leads : (c : ℕ) → follow Names viewed_name (Ref (Promise 1 zero)) ≡ Items c → ⊥
unfolding opened_refs opened_values viewed_name with_list known_as
view_leads c e = name_list (Gift 2 zero) c e

none_noticed : NoListLeadsBack Names noticed_host
unfolding noticed_host
none_noticed = none_back (known_as (Promise 1 zero) 1 Unsettled ∷ []) (1 ∷ []) host_breaks

none_viewed : NoListLeadsBack Names viewed_name
unfolding viewed_name
none_viewed = none_back (known_as (Promise 1 zero) 1 (Viewed (Gift 2 zero)) ∷ known_as (Gift 2 zero) 2 Unsettled ∷ []) [] view_leads

pub conditions_needed : ConditionsAreNeeded
unfolding opened_refs opened_values noticed_host viewed_name with_list known_as still_waits
conditions_needed = (
  (noticed_host, Promise 1 zero, none_noticed, refl, (Items zero, (Ref (Promise 1 zero), inl refl, refl), refl)),
  (viewed_name, Promise 1 zero, Gift 2 zero, none_viewed, refl, (Items zero, (Ref (Promise 1 zero), inl refl, refl), refl)),
)
