-- That a vat is to be told of a name changes no way that a value leads.
use Rattle.std.proofs.Common.{◌≡◌, ℕ, zero, suc, List, [], ◌∷◌, Option, Some, None, length, refl, sym, ap, ◌∙◌}
use Rattle.std.specs.Prelude.{slice_get, slice_set}
use mathlib.Core.Path.{fun_ext}
use Rattle.std.proofs.lemmas.List.{length-set}
use Rattle.ev_base.specs.declared.values.Value.{Value}
use Rattle.ev_base.specs.declared.values.Value.TheVariants as held
use Rattle.def_machine.specs.State.{with_vat}
use Rattle.ev_refs.specs.Changes.{unless_settled, with_told}
use Rattle.ev_refs.specs.Follow.{step_of, step_found, step_from, led_by, led_on, led, host_found, host_of, severed_by, severed, followed}
use Rattle.ev_refs.specs.References.{References}
use Rattle.ev_refs.specs.declared.known.Known.{Known}
use Rattle.ev_refs.specs.declared.known.Standing.{Standing}
use Rattle.ev_refs.specs.declared.known.Standing.TheVariants.{Unsettled, WaitsOn, Viewed, Settled}
use Rattle.ev_pass.specs.Acts.{told_in}

-- what is told of one member stays where that has changed to what tells the same
same_there : {A : Type 0} (f : Option Known → A) (ks : List Known) (n m : ℕ) (k new : Known) → slice_get ks n ≡ Some k → f (Some new) ≡ f (Some k) → f (slice_get (slice_set ks n new) m) ≡ f (slice_get ks m)
same_there f [] n m k new h e = refl
same_there f (x ∷ ks) zero zero k new h e = e ∙ ap f (sym h)
same_there f (x ∷ ks) zero (suc m) k new h e = refl
same_there f (x ∷ ks) (suc n) zero k new h e = refl
same_there f (x ∷ ks) (suc n) (suc m) k new h e = same_there f ks n m k new h e

guarded : {A : Type 0} (f : Known → A) (st : Standing) (k new : Known) → f new ≡ f k → f (unless_settled st k new) ≡ f k
unfolding unless_settled
guarded f Unsettled k new e = e
guarded f (WaitsOn q) k new e = e
guarded f (Viewed q) k new e = e
guarded f (Settled v) k new e = refl

leads_same : (d : ℕ) (ks js : List Known) → ((m : ℕ) → step_of js m ≡ step_of ks m) → (n : ℕ) → led_on d js n ≡ led_on d ks n
unfolding led_on
leads_same zero ks js h n = refl
leads_same (suc d) ks js h n =
    ap (led_by (λ m. led_on d js m) n) (h n) ∙ ap (λ (f : ℕ → Value). led_by f n (step_of ks n)) (fun_ext (leads_same d ks js h))

all_led : (ks js : List Known) → length js ≡ length ks → ((m : ℕ) → step_of js m ≡ step_of ks m) → (v : Value) → led js v ≡ led ks v
unfolding led
all_led ks js l h (held.Prom n) = ap (λ (d : ℕ). led_on (suc d) js n) l ∙ leads_same (suc (length ks)) ks js h n
all_led ks js l h v = refl

severed_same : (r : References) (js : List Known) → ((m : ℕ) → host_of (record r { known = js }) m ≡ host_of r m) → (v : Value) → severed (record r { known = js }) v ≡ severed r v
unfolding severed severed_by
severed_same r js h (held.Prom n) = ap (λ (a : ℕ). severed_by r a (held.Prom n)) (h n)
severed_same r js h v = refl

told_ways : (w n : ℕ) (r : References) (k : Known) → slice_get r.known n ≡ Some k → (v : Value) → followed (record r { known = slice_set r.known n (with_told w k) }) v ≡ followed r v
unfolding followed step_of host_of step_found host_found
told_ways w n r k h v =
    let steps : (m : ℕ) → step_of (slice_set r.known n (with_told w k)) m ≡ step_of r.known m =
    λ m. same_there step_found r.known n m k (with_told w k) h (guarded (λ (x : Known). step_from x.standing) k.standing k (record k { told = with_vat w k.told }) refl) in
    let hosts : (m : ℕ) → host_of (record r { known = slice_set r.known n (with_told w k) }) m ≡ host_of r m =
    λ m. same_there (host_found r.me) r.known n m k (with_told w k) h (guarded (λ (x : Known). x.host) k.standing k (record k { told = with_vat w k.told }) refl) in
    ap (λ (x : Value). severed (record r { known = slice_set r.known n (with_told w k) }) x) (all_led r.known (slice_set r.known n (with_told w k)) (length-set r.known n (with_told w k)) steps v)
    ∙ severed_same r (slice_set r.known n (with_told w k)) hosts (led r.known v)

pub same_ways : (w n : ℕ) (r : References) (o : Option Known) → slice_get r.known n ≡ o → (v : Value) → followed (told_in w n o r) v ≡ followed r v
unfolding told_in
same_ways w n r None h v = refl
same_ways w n r (Some k) h v = told_ways w n r k h v

pub same_partition : (w n : ℕ) (r : References) (o : Option Known) → (told_in w n o r).partition ≡ r.partition
unfolding told_in
same_partition w n r None = refl
same_partition w n r (Some k) = refl

pub same_cycle : (w n : ℕ) (r : References) (o : Option Known) → (told_in w n o r).cycle ≡ r.cycle
unfolding told_in
same_cycle w n r None = refl
same_cycle w n r (Some k) = refl
