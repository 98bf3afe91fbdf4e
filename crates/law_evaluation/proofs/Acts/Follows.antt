-- What is followed is of the kind, and where it is.
use Rattle.std.proofs.Common.{ℕ, Bool, true, false, subst, sym}
use Rattle.std.specs.Prelude.{◌==◌, if◌then◌else◌}
use Rattle.ev_base.specs.declared.values.Value.{Value}
use Rattle.ev_base.specs.declared.values.Value.TheVariants as held
use Rattle.ev_refs.specs.Follow.{host_of, followed, hosted, place_of}
use Rattle.ev_refs.specs.References.{References}
use Rattle.ev_refs.specs.declared.follow.Place.{Place}
use Rattle.ev_refs.specs.declared.follow.Place.TheVariants.{Near, Mine, FarPromise, FarObject, Gone}
use Rattle.ev_pass.specs.declared.interior.Interior.{Interior}
use Rattle.ev_room.specs.Holding.{IsOf, ReferencesOf}
use Rattle.law_evaluation.specs.Acts.Kinds.{Base, ReferencesIn, GroundOf, InsideOf}
use Rattle.law_evaluation.proofs.Acts.Following as led

module _ (kind : Value → Bool) (base : Base) (ground : GroundOf kind base) where
  -- what references break values with is of the kind
  parted : (r : References) → ReferencesIn kind base r → IsOf kind (held.Broken r.partition)
  parted r a = subst (λ (t : ℕ). IsOf kind (held.Broken t)) (sym a.partition) ground.partition

  pub turned : (r : References) → ReferencesIn kind base r → IsOf kind (held.Broken r.cycle)
  turned r a = subst (λ (t : ℕ). IsOf kind (held.Broken t)) (sym a.cycle) ground.cycle

  held_in : (r : References) → ReferencesIn kind base r → ReferencesOf kind r
  held_in r a = record { known = a.known; queue = a.queue; partition = parted r a; cycle = turned r a }

  pub followed_of : (r : References) (v : Value) → ReferencesIn kind base r → IsOf kind v → IsOf kind (followed r v)
  followed_of r v a b = led.followed_of kind ground.names r v (held_in r a) b

  -- what is gone there is gone with a problem of the kind
  abbrev pub PlaceOf : Place → Type 0
  PlaceOf (Gone t) = IsOf kind (held.Broken t)
  PlaceOf other = Unit {0}

  mine_or_far : (b : Bool) (n w : ℕ) → PlaceOf (if b then Mine n else FarPromise w n)
  mine_or_far true n w = tt
  mine_or_far false n w = tt

  pub placed_of : (r : References) (v : Value) → IsOf kind v → PlaceOf (place_of r v)
  unfolding place_of hosted
  placed_of r (held.Prom n) a = mine_or_far (r.me == host_of r n) n (host_of r n)
  placed_of r (held.Broken t) a = a
  placed_of r other a = tt

pub follows : (kind : Value → Bool) (base : Base) (i : Interior) → GroundOf kind base → InsideOf kind base i → (v : Value) → IsOf kind v → IsOf kind (followed i.refs v)
follows kind base i ground good v a = followed_of kind base ground i.refs v good.refs a
