-- Following in the code's terms is the machine's following in local numbers.
use Rattle.std.proofs.Common.{◌≡◌, ℕ, zero, suc, ◌+◌, ◌<◌, Bool, true, false, List, [], ◌∷◌, Option, Some, None, length, refl, sym, ap, ◌∙◌, subst, arith}
use Rattle.std.specs.Prelude.{◌==◌, if◌then◌else◌, codes, option_map, slice_get}
use Rattle.std.proofs.lemmas.Cmp.{nat_eq_equiv}
use Rattle.ev_base.specs.declared.values.Value.{Value as Held}
use Rattle.ev_base.specs.declared.values.Value.TheVariants as held
use Rattle.def_machine.specs.Values.{Words, Value, Ref, Broken, Naming, Local, Obj, Prom, Far, numbering, same_local, local_spot}
use Rattle.def_machine.specs.State as machine
use Rattle.def_machine.specs.State.{Vat, is_in}
use Rattle.def_machine.specs.Refs as refs
use Rattle.def_machine.specs.Refs.{entry_of, standing_in, standing_of, host_in, host_at, follow, follow_at, severed_at, place, hosted, spotted}
use Rattle.ev_refs.specs.References.{References}
use Rattle.ev_refs.specs.Follow.{step_from, onward, step_of, step_found, led_by, led_on, led, host_found, host_of, severed_by, severed, followed, place_of}
use Rattle.ev_refs.specs.Follow as code
use Rattle.ev_refs.specs.Reading.{text_by, value_by, known_by, knowns_by, standing_by, vat_by, place_by}
use Rattle.ev_refs.specs.Statements.{KnowsTexts}
use Rattle.ev_refs.specs.declared.follow.Place.{Place}
use Rattle.ev_refs.specs.declared.follow.Place.TheVariants.{Mine, FarPromise}
use Rattle.ev_refs.specs.declared.known.Known.{Known}
use Rattle.ev_refs.specs.declared.known.Standing.{Standing}
use Rattle.ev_refs.specs.declared.known.Standing.TheVariants.{Unsettled, WaitsOn, Viewed, Settled}

abbrev pub names : (ℕ → ℕ) → Naming Local Local
names word = numbering word

pub unlike : (m n : ℕ) → m < n → (m == n) ≡ false
unlike m n h = grind (arith)

module _ (word : ℕ → ℕ) (ts : List Words) where
  -- ---- what is known of a name stands at its number

  skipped : (k : machine.Known Local) (ks : List (machine.Known Local)) (n : Local) → same_local k.name n ≡ false → entry_of (names word) (k ∷ ks) n ≡ entry_of (names word) ks n
  unfolding entry_of numbering
  skipped k ks n h = rw (h, entry_of) refl

  met : (k : machine.Known Local) (ks : List (machine.Known Local)) (n : Local) → same_local k.name n ≡ true → entry_of (names word) (k ∷ ks) n ≡ Some k
  unfolding entry_of numbering
  met k ks n h = rw (h, entry_of) refl

  pub entry_from : (ks : List Known) (m i n : ℕ) → m + i ≡ n → entry_of (names word) (knowns_by ts m ks) (Prom n) ≡ option_map (known_by ts n) (slice_get ks i)
  unfolding knowns_by same_local entry_of
  entry_from [] m i n e = refl
  entry_from (k ∷ ks) m zero n e =
      let same : m ≡ n = omega arith in
      subst (λ (x : ℕ). entry_of (names word) (known_by ts m k ∷ knowns_by ts (suc m) ks) (Prom x) ≡ Some (known_by ts x k)) same
      (met (known_by ts m k) (knowns_by ts (suc m) ks) (Prom m) (nat_eq_equiv.refl m))
  entry_from (k ∷ ks) m (suc i) n e =
      let less : m < n = omega arith in
      let more : suc m + i ≡ n = omega arith in
      skipped (known_by ts m k) (knowns_by ts (suc m) ks) (Prom n) (unlike m n less) ∙ entry_from ks (suc m) i n more

  pub entry_is : (ks : List Known) (n : ℕ) → entry_of (names word) (knowns_by ts 0 ks) (Prom n) ≡ option_map (known_by ts n) (slice_get ks n)
  entry_is ks n = entry_from ks 0 n n (omega arith)

  pub object_unknown : (ks : List Known) (m i : ℕ) → entry_of (names word) (knowns_by ts m ks) (Obj i) ≡ None
  unfolding entry_of knowns_by numbering same_local
  object_unknown [] m i = refl
  object_unknown (k ∷ ks) m i = object_unknown ks (suc m) i

  far_unknown : (ks : List Known) (m h p : ℕ) → entry_of (names word) (knowns_by ts m ks) (Far h p) ≡ None
  unfolding entry_of knowns_by numbering same_local
  far_unknown [] m h p = refl
  far_unknown (k ∷ ks) m h p = far_unknown ks (suc m) h p

  host_met : (me n : ℕ) (o : Option Known) → host_in me (option_map (known_by ts n) o) ≡ host_found me o
  unfolding host_in host_found
  host_met me n None = refl
  host_met me n (Some k) = refl

  pub as_many : (ts' : List Words) (m : ℕ) (ks : List Known) → length (knowns_by ts' m ks) ≡ length ks
  unfolding knowns_by
  as_many ts' m [] = refl
  as_many ts' m (k ∷ ks) = ap suc (as_many ts' (suc m) ks)

  -- ---- choices

  chosen : (b : Bool) (p q : Place) → elim b [ true ↦ place_by ts p | false ↦ place_by ts q ] ≡ place_by ts (if b then p else q)
  chosen true p q = refl
  chosen false p q = refl

  abbrev broken_ref : Words → Value Local
  broken_ref u = Broken u

  broken_or : (b : Bool) (t : Words) (t' : ℕ) (v : Held) (x : Value Local) → t ≡ text_by ts t' → x ≡ value_by ts v → elim b [ true ↦ Broken t | false ↦ x ] ≡ value_by ts (if b then held.Broken t' else v)
  broken_or true t t' v x h e = ap (λ (u : Words). broken_ref u) h
  broken_or false t t' v x h e = e

  cut_is : (r : References) (s : Vat Local) (h : ℕ) (v : Held) (n : Local) → Ref n ≡ value_by ts v → KnowsTexts ts r → refs.severed_by (names word) h (vat_by ts r s) n ≡ value_by ts (severed_by r h v)
  unfolding refs.severed_by severed_by
  cut_is r s h v n e k = broken_or (is_in h r.noticed) (codes "partition") r.partition v (Ref n) (sym k.0) e

  -- ---- steps

  unknown_stays : (d : ℕ) (ks : List (machine.Known Local)) (n : Local) → entry_of (names word) ks n ≡ None → follow_at (names word) d ks (Ref n) ≡ Ref n
  unfolding follow_at refs.led standing_of standing_in
  unknown_stays zero ks n h = refl
  unknown_stays (suc d) ks n h = rw h refl

  data_stays : (d : ℕ) (ks : List (machine.Known Local)) (x : Value Local) → ((n : Local) → x ≡ Ref n → ⊥) → follow_at (names word) d ks x ≡ x
  unfolding follow_at
  data_stays zero ks x h = refl
  data_stays (suc d) ks (Ref n) h = absurd (h n refl)
  data_stays (suc d) ks x h = refl

  module _ (ks : List Known) (d : ℕ) (ih : (m : ℕ) → follow_at (names word) d (knowns_by ts 0 ks) (Ref (Prom m)) ≡ value_by ts (led_on d ks m)) where
    settled_leads : (n : ℕ) (v : Held) → follow_at (names word) d (knowns_by ts 0 ks) (value_by ts v) ≡ value_by ts (led_by (λ m. led_on d ks m) n (onward v))
    unfolding led_by
    settled_leads n (held.Prom m) = ih m
    settled_leads n (held.Obj i) = unknown_stays d (knowns_by ts 0 ks) (Obj i) (object_unknown ks 0 i)
    settled_leads n (held.Far h p) = unknown_stays d (knowns_by ts 0 ks) (Far h p) (far_unknown ks 0 h p)
    settled_leads n v = data_stays d (knowns_by ts 0 ks) (value_by ts v) (λ n e. cc)

    standing_leads : (n : ℕ) (st : Standing) → refs.led (names word) (λ y. follow_at (names word) d (knowns_by ts 0 ks) y) (Prom n) (standing_by ts st) ≡ value_by ts (led_by (λ m. led_on d ks m) n (step_from st))
    unfolding led_by refs.led
    standing_leads n Unsettled = refl
    standing_leads n (WaitsOn q) = refl
    standing_leads n (Viewed q) = ih q
    standing_leads n (Settled v) = settled_leads n v

    found_leads : (n : ℕ) (o : Option Known) → refs.led (names word) (λ y. follow_at (names word) d (knowns_by ts 0 ks) y) (Prom n) (standing_in (option_map (known_by ts n) o)) ≡ value_by ts (led_by (λ m. led_on d ks m) n (step_found o))
    unfolding led_by refs.led step_found standing_in
    found_leads n None = refl
    found_leads n (Some k) = standing_leads n k.standing

  pub name_leads : (ks : List Known) (d n : ℕ) → follow_at (names word) d (knowns_by ts 0 ks) (Ref (Prom n)) ≡ value_by ts (led_on d ks n)
  unfolding follow_at led_on step_of standing_of
  name_leads ks zero n = refl
  name_leads ks (suc d) n =
      ap (λ (o : Option (machine.Known Local)). refs.led (names word) (λ y. follow_at (names word) d (knowns_by ts 0 ks) y) (Prom n) (standing_in o)) (entry_is ks n)
      ∙ found_leads ks d (name_leads ks d) n (slice_get ks n)

  pub led_is : (ks : List Known) (v : Held) → follow_at (names word) (suc (length (knowns_by ts 0 ks))) (knowns_by ts 0 ks) (value_by ts v) ≡ value_by ts (led ks v)
  unfolding led
  led_is ks (held.Prom n) = ap (λ (d : ℕ). follow_at (names word) (suc d) (knowns_by ts 0 ks) (Ref (Prom n))) (as_many ts 0 ks) ∙ name_leads ks (suc (length ks)) n
  led_is ks (held.Obj i) = unknown_stays (suc (length (knowns_by ts 0 ks))) (knowns_by ts 0 ks) (Obj i) (object_unknown ks 0 i)
  led_is ks (held.Far h p) = unknown_stays (suc (length (knowns_by ts 0 ks))) (knowns_by ts 0 ks) (Far h p) (far_unknown ks 0 h p)
  led_is ks v = data_stays (suc (length (knowns_by ts 0 ks))) (knowns_by ts 0 ks) (value_by ts v) (λ n e. cc)

  -- ---- hosts

  host_is : (r : References) (n : ℕ) → host_at (names word) r.me (knowns_by ts 0 r.known) (Prom n) ≡ host_of r n
  unfolding host_at host_of
  host_is r n = ap (λ (o : Option (machine.Known Local)). host_in r.me o) (entry_is r.known n) ∙ host_met r.me n (slice_get r.known n)

  severed_is : (r : References) (s : Vat Local) (v : Held) → KnowsTexts ts r → refs.severed (names word) (vat_by ts r s) (value_by ts v) ≡ value_by ts (severed r v)
  unfolding refs.severed severed_at severed numbering local_spot
  severed_is r s (held.Prom n) h =
      ap (λ (a : ℕ). refs.severed_by (names word) a (vat_by ts r s) (Prom n)) (host_is r n) ∙ cut_is r s (host_of r n) (held.Prom n) (Prom n) refl h
  severed_is r s (held.Far a p) h = cut_is r s a (held.Far a p) (Far a p) refl h
  severed_is r s v h = refl

  pub follow_is : (r : References) (s : Vat Local) (v : Held) → KnowsTexts ts r → follow (names word) (vat_by ts r s) (value_by ts v) ≡ value_by ts (followed r v)
  unfolding follow followed
  follow_is r s v h = ap (λ (x : Value Local). refs.severed (names word) (vat_by ts r s) x) (led_is r.known v) ∙ severed_is r s (led r.known v) h

  hosted_is : (r : References) (n h : ℕ) → hosted (names word) r.me (Prom n) h ≡ place_by ts (code.hosted r n h)
  unfolding hosted code.hosted
  hosted_is r n h = chosen (r.me == h) (Mine n) (FarPromise h n)

  pub place_is : (r : References) (s : Vat Local) (v : Held) → place (names word) (vat_by ts r s) (value_by ts v) ≡ place_by ts (place_of r v)
  unfolding place place_of spotted numbering local_spot
  place_is r s (held.Prom n) = ap (λ (a : ℕ). hosted (names word) r.me (Prom n) a) (host_is r n) ∙ hosted_is r n (host_of r n)
  place_is r s v = refl
