-- What a value of a kind is followed to is of that kind, where names are and the references hold such values alone.
use Rattle.std.proofs.Common.{◌≡◌, ℕ, zero, suc, Bool, true, false, List, [], ◌∷◌, Option, Some, None, length, map, refl}
use Rattle.std.specs.Prelude.{if◌then◌else◌, slice_get}
use Rattle.ev_base.specs.declared.values.Value.{Value}
use Rattle.ev_base.specs.declared.values.Value.TheVariants as held
use Rattle.def_machine.specs.State.{is_in}
use Rattle.ev_refs.specs.Follow.{onward, step_from, step_found, step_of, led_by, led_on, led, host_of, severed_by, severed, followed}
use Rattle.ev_refs.specs.References.{References}
use Rattle.ev_refs.specs.declared.known.Known.{Known}
use Rattle.ev_refs.specs.declared.known.Standing.{Standing}
use Rattle.ev_refs.specs.declared.known.Standing.TheVariants.{Unsettled, WaitsOn, Viewed, Settled}
use Rattle.ev_pass.specs.declared.interior.Interior.{Interior}
use Rattle.ev_room.specs.Holding.{Every, IfThere, IsOf, StandingOf, KnownOf, ReferencesOf}
use Rattle.ev_room.specs.Sound.{IsSound, is_there, are_there}
use Rattle.ev_room.proofs.There.{both}
use Rattle.law_evaluation.proofs.Acts.Sounds.{all_and}

pub every_got : {A : Type 0} (P : A → Type 0) (xs : List A) (n : ℕ) → Every P xs → IfThere P (slice_get xs n)
every_got P [] n a = tt
every_got P (x ∷ xs) zero a = a.0
every_got P (x ∷ xs) (suc n) a = every_got P xs n a.1

module _ (kind : Value → Bool) (names : (n : ℕ) → IsOf kind (held.Prom n)) where
  -- where a value that a name settled to leads
  onward_of : (on : ℕ → Value) (n : ℕ) (v : Value) → ((m : ℕ) → IsOf kind (on m)) → IsOf kind v → IsOf kind (led_by on n (onward v))
  unfolding led_by
  onward_of on n (held.Prom m) each a = each m
  onward_of on n other each a = a

  from_of : (on : ℕ → Value) (n : ℕ) (st : Standing) → ((m : ℕ) → IsOf kind (on m)) → StandingOf kind st → IsOf kind (led_by on n (step_from st))
  unfolding led_by
  from_of on n (Viewed q) each a = each q
  from_of on n (Settled v) each a = onward_of on n v each a
  from_of on n other each a = names n

  found_of : (on : ℕ → Value) (n : ℕ) (o : Option Known) → ((m : ℕ) → IsOf kind (on m)) → IfThere (KnownOf kind) o → IsOf kind (led_by on n (step_found o))
  unfolding step_found led_by
  found_of on n None each a = names n
  found_of on n (Some k) each a = from_of on n k.standing each a.0

  led_on_of : (d : ℕ) (ks : List Known) (n : ℕ) → Every (KnownOf kind) ks → IsOf kind (led_on d ks n)
  unfolding led_on step_of
  led_on_of zero ks n a = names n
  led_on_of (suc d) ks n a = found_of (λ m. led_on d ks m) n (slice_get ks n) (λ m. led_on_of d ks m a) (every_got (KnownOf kind) ks n a)

  led_of : (ks : List Known) (v : Value) → Every (KnownOf kind) ks → IsOf kind v → IsOf kind (led ks v)
  unfolding led
  led_of ks (held.Prom n) a b = led_on_of (suc (length ks)) ks n a
  led_of ks other a b = b

  cut_of : (b : Bool) (x y : Value) → IsOf kind x → IsOf kind y → IsOf kind (if b then x else y)
  cut_of true x y p q = p
  cut_of false x y p q = q

  severed_of : (r : References) (v : Value) → ReferencesOf kind r → IsOf kind v → IsOf kind (severed r v)
  unfolding severed severed_by
  severed_of r (held.Prom n) a b = cut_of (is_in (host_of r n) r.noticed) (held.Broken r.partition) (held.Prom n) a.partition b
  severed_of r (held.Far w p) a b = cut_of (is_in w r.noticed) (held.Broken r.partition) (held.Far w p) a.partition b
  severed_of r other a b = b

  pub followed_of : (r : References) (v : Value) → ReferencesOf kind r → IsOf kind v → IsOf kind (followed r v)
  unfolding followed
  followed_of r v a b = severed_of r (led r.known v) a (led_of r.known v a.known b)

-- what stands in the heap is followed to what stands there
pub followed_there : (s : Interior) → IsSound s → (x : Value) → is_there s.heap x ≡ true → is_there s.heap (followed s.refs x) ≡ true
followed_there s sound x i = followed_of (is_there s.heap) (λ n. refl) s.refs x sound.refs i

pub all_followed_there : (s : Interior) → IsSound s → (xs : List Value) → are_there s.heap xs ≡ true → are_there s.heap (map (followed s.refs) xs) ≡ true
all_followed_there s sound [] i = refl
all_followed_there s sound (x ∷ xs) i =
    let b = both (is_there s.heap x) (are_there s.heap xs) i in
    all_and (is_there s.heap (followed s.refs x)) (are_there s.heap (map (followed s.refs) xs)) (followed_there s sound x b.0) (all_followed_there s sound xs b.1)
