-- What a name held goes out one by one, read so: what one message needs, from what is asked of the vat so read.
use Rattle.std.proofs.Common.{◌≡◌, ℕ, Bool, true, List, [], ◌∷◌, ◌++◌, Some, None, refl, inl}
use Rattle.std.specs.Prelude.{slice_get}
use Rattle.def_machine.specs.Values.{Ref, Name, Naming, Foreign, host_of}
use Rattle.def_machine.specs.State.{Message, Unsettled, WaitsOn, Known, Vat, Done, Gives, begun, and_then}
use Rattle.def_machine.specs.Refs as refs
use Rattle.def_machine.specs.Refs.{entry_of}
use Rattle.def_run.specs.World as world
use Rattle.def_run.specs.World.{Script, Event, Link, World, names}
use Rattle.law_order.specs.Ordering.Settlings.{IsLoose}
use Rattle.law_order.specs.Ordering.Steps.{Ready, LeadsAmid}
use Rattle.law_order.specs.Ordering.Ways.{Way, End}
use Rattle.law_order.specs.Ordering.Worlds.{IfGives, IsObject}
use Rattle.law_order.specs.Settling.Holding.{Came, HeldCame, Holds}
use Rattle.law_order.proofs.Settling.Acts.{Told}
use Rattle.law_order.proofs.Settling.Begun.{later_came, real_came}
use Rattle.law_order.proofs.Settling.Later.{Later, later_then, holds_on, came_on, held_came}
use Rattle.law_order.proofs.Settling.OneOut as one
use Rattle.law_order.proofs.Settling.Pass.{Can}
use Rattle.law_order.proofs.Settling.Put.{put_known}
use Rattle.law_order.proofs.Settling.Read.{Real, seen}
use Rattle.law_order.proofs.Settling.Reading.{real_later}

module _ (script : Script) (honest : ℕ → Bool) (w : World) (v h : ℕ) (head : List Event) (r : Vat Name) (at : slice_get w.vats v ≡ Some r) (p n : Name) (k : Known Name) (far : (names script v).spot n ≡ Foreign h) (object : IsObject n) (plain : IsObject p → ⊥) (named : k.name ≡ p) (hosted : k.host ≡ v)
    (rh : Vat Name) (everyone : (u : ℕ) → honest u ≡ true) (there : slice_get w.vats h ≡ Some rh) (number : rh.number ≡ h) (other : h ≡ v → ⊥) (objects : (o : Name) → IsObject o → entry_of (names script h) rh.known o ≡ None)
    (link : (l : Link) × (world.link_at v h w.links ≡ Some l)) where
  abbrev K : Naming Name Name
  K = names script v

  abbrev R : Vat Name → Type 0
  R u = Real script honest w v h r at p n k far object plain named hosted u

  abbrev pub Read : List (Message Name) → Vat Name → Vat Name
  Read ms u = record u { known = put_known K p (record k { standing = WaitsOn n; held = ms }) u.known }

  -- The vat settled so, and what is asked of it holds of it as it is read.
  pub record Fit (ms : List (Message Name)) (u : Vat Name) : Type 0 where
    pub real : R u
    pub holds : Holds script honest w v head (Read ms u)
    pub came : HeldCame script honest w v head (Read ms u)

  pub fit_on : (ms ns : List (Message Name)) (u t : Vat Name) → Fit ms u → R t → Later script honest w v head ⊥ (Read ms u) (Read ns t) → Fit ns t
  fit_on ms ns u t f g l = record { real = g; holds = holds_on script honest w v head ⊥ (Read ms u) (Read ns t) l f.holds; came = held_came script honest w v head ⊥ (Read ms u) (Read ns t) l (λ i. i) f.came }

  module _ (m : Message Name) (ms : List (Message Name)) (u : Vat Name) (f : Fit (m ∷ ms) u) where
    to_real : Later script honest w v head ⊥ (Read (m ∷ ms) u) u
    to_real = real_later script honest w v h head ⊥ r at p n k far object plain named hosted (m ∷ ms) u f.real

    can : Can script honest w v h r at p n k far object plain named hosted rh everyone there number other objects m.id (m ∷ ms) u
    can = record { can = (holds_on script honest w v head ⊥ (Read (m ∷ ms) u) u to_real f.holds).passes h rh other there; seen = f.holds.passes h rh other there; real = f.real }

    first_came : Came script honest w v head (Read (m ∷ ms) u) m
    first_came = f.came p (record k { standing = WaitsOn n; held = m ∷ ms }) (seen script honest w v h r at p n k far object plain named hosted (m ∷ ms) u f.real) m (inl refl)

    came_real : Came script honest w v head u m
    came_real = came_on script honest w v head ⊥ (Read (m ∷ ms) u) u to_real (λ i. i) m first_came

    abbrev pub To : Vat Name → Type 0
    To t = Fit ms t × Told script honest w v head ⊥ (Read (m ∷ ms) u) (Read ms t)

    fit_to : (t : Vat Name) → R t → Told script honest w v head ⊥ (Read (m ∷ ms) u) (Read ms t) → To t
    fit_to t g d = (fit_on (m ∷ ms) ms u t f g d.later, d)

    if_to : {A : Type 0} (d : Done Name A) → IfGives (λ t. R t × Told script honest w v head ⊥ (Read (m ∷ ms) u) (Read ms t)) d → IfGives To d
    if_to (Gives a t) i = fit_to t i.0 i.1
    if_to other i = tt

    -- The first goes out, which asks for no answer; what is asked holds of the vat then, read so.
    pub first_out : IfGives To (refs.deliver K m h n u)
    first_out = if_to (refs.deliver K m h n u) (one.lone_out script honest w v h head r at p n k far object plain named hosted rh everyone there number other objects link m ms u f.real came_real.coming came_real.came can (λ d done i. came_real.args h d done i))

    -- Or it goes out with a new answer.
    module _ (a : Name) (eventual : IsObject a → ⊥) (unknown : entry_of K u.known a ≡ None) (ready : Ready script honest w v (record u { known = u.known ++ begun a (host_of a) ∷ [] })) (leads : LeadsAmid script honest w v (Read (m ∷ ms) u) v (Ref a) ≡ End (Way v (host_of a)) a) (here : host_of a ≡ h) where
      abbrev Next : Vat Name
      Next = record u { known = u.known ++ begun a (host_of a) ∷ [] }

      abbrev Anew : Message Name
      Anew = record m { answer = Some a }

      to_next : Later script honest w v head ⊥ (Read (m ∷ ms) u) (Read (m ∷ ms) Next)
      to_next = later_came script honest w v h head r at p n k far object plain named hosted rh everyone there number other objects link m ms a eventual u f.real unknown ready leads here

      real_next : R Next
      real_next = real_came script honest w v h head r at p n k far object plain named hosted rh everyone there number other objects link m ms a eventual u f.real unknown ready

      fit_next : Fit (m ∷ ms) Next
      fit_next = fit_on (m ∷ ms) (m ∷ ms) u Next f real_next to_next

      to_real_next : Later script honest w v head ⊥ (Read (m ∷ ms) u) Next
      to_real_next = later_then script honest w v head ⊥ (Read (m ∷ ms) u) (Read (m ∷ ms) Next) Next to_next (real_later script honest w v h head ⊥ r at p n k far object plain named hosted (m ∷ ms) Next real_next)

      can_next : Can script honest w v h r at p n k far object plain named hosted rh everyone there number other objects m.id (m ∷ ms) Next
      can_next = record { can = (holds_on script honest w v head ⊥ (Read (m ∷ ms) u) Next to_real_next f.holds).passes h rh other there; seen = fit_next.holds.passes h rh other there; real = real_next }

      came_next : Came script honest w v head Next m
      came_next = came_on script honest w v head ⊥ (Read (m ∷ ms) u) Next to_real_next (λ i. i) m first_came

      -- the answer here may come to wait
      abbrev pub MayWait : Name → Vat Name → Type 0
      MayWait b t = (kb : Known Name) × (entry_of K t.known b ≡ Some kb) × (kb.standing ≡ Unsettled) × IsLoose script honest w v b t

      pub asked_out : (b : Name) → IfGives (λ t. MayWait b t) (refs.deliver K Anew h n Next) → IfGives To (and_then (refs.deliver K Anew h n Next) (λ z. refs.wait_on K b a))
      asked_out b may = if_to (and_then (refs.deliver K Anew h n Next) (λ z. refs.wait_on K b a))
          (one.asked_out script honest w v h head r at p n k far object plain named hosted rh everyone there number other objects link m ms u f.real came_next.coming came_next.came a eventual unknown ready leads here can_next (λ d done i. came_next.args h d done i) b may)
