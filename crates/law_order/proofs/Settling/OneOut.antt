-- One message that the name held goes out to the other vat, with its answer: a tale, read as though the name still held the rest.
use Rattle.std.proofs.Common.{◌≡◌, ℕ, zero, Bool, true, List, [], ◌∷◌, ◌++◌, Some, None, refl, sym, subst}
use Rattle.std.specs.Prelude.{slice_get}
use Rattle.def_machine.specs.Values.{Ref, Name, Naming, Foreign, host_of}
use Rattle.def_machine.specs.State.{Message, Unsettled, WaitsOn, Known, Vat, begun, ◌>>◌, and_then, tell, alter}
use Rattle.def_machine.specs.Refs as refs
use Rattle.def_machine.specs.Refs.{entry_of}
use Rattle.def_run.specs.World as world
use Rattle.def_run.specs.World.{Script, Event, Link, World, names}
use Rattle.law_order.specs.Ordering.Order.{Coming, comes}
use Rattle.law_order.specs.Ordering.Settlings.{IsLoose}
use Rattle.law_order.specs.Ordering.Steps.{Ready, LeadsAmid}
use Rattle.law_order.specs.Ordering.Ways.{Way, End}
use Rattle.law_order.specs.Ordering.Worlds.{IfGives, IsObject, IsWaiting}
use Rattle.law_order.proofs.Ordering.News.{stays_self}
use Rattle.law_order.proofs.Ordering.Sends.{if_both, chain, if_map}
use Rattle.law_order.specs.History.Passings.{AllCame, CameAs}
use Rattle.law_order.specs.History.Tells.{SmallStep, over, then_on}
use Rattle.law_order.specs.History.Told.{IsTold}
use Rattle.law_order.specs.Tales.Middle.{middle}
use Rattle.law_order.proofs.Settling.Acts.{Told, told_then}
use Rattle.law_order.proofs.Settling.Awaits as awaits
use Rattle.law_order.proofs.Settling.Begun as begins_at
use Rattle.law_order.proofs.Settling.Deliver.{Begins, delivered_small}
use Rattle.law_order.proofs.Settling.Later.{Later, later_then}
use Rattle.law_order.proofs.Settling.Pass.{Can}
use Rattle.law_order.proofs.Settling.Put.{put_known}
use Rattle.law_order.proofs.Settling.Read.{Real, waits_apart, ready_read}

module _ (script : Script) (honest : ℕ → Bool) (w : World) (v h : ℕ) (head : List Event) (r : Vat Name) (at : slice_get w.vats v ≡ Some r) (p n : Name) (k : Known Name) (far : (names script v).spot n ≡ Foreign h) (object : IsObject n) (plain : IsObject p → ⊥) (named : k.name ≡ p) (hosted : k.host ≡ v)
    (rh : Vat Name) (everyone : (u : ℕ) → honest u ≡ true) (there : slice_get w.vats h ≡ Some rh) (number : rh.number ≡ h) (other : h ≡ v → ⊥) (objects : (o : Name) → IsObject o → entry_of (names script h) rh.known o ≡ None)
    (link : (l : Link) × (world.link_at v h w.links ≡ Some l)) (m : Message Name) (ms : List (Message Name)) (s : Vat Name) (gs : Real script honest w v h r at p n k far object plain named hosted s) (coming : Coming) (came : comes v m.id zero (middle w v head s).history ≡ Some coming) where
  abbrev K : Naming Name Name
  K = names script v

  abbrev R : Vat Name → Type 0
  R u = Real script honest w v h r at p n k far object plain named hosted u

  abbrev C : Vat Name → Type 0
  C u = Can script honest w v h r at p n k far object plain named hosted rh everyone there number other objects m.id (m ∷ ms) u

  abbrev Full : Vat Name → Vat Name
  Full u = record u { known = put_known K p (record k { standing = WaitsOn n; held = m ∷ ms }) u.known }

  abbrev Rest : Vat Name → Vat Name
  Rest u = record u { known = put_known K p (record k { standing = WaitsOn n; held = ms }) u.known }

  abbrev Goes : Vat Name → Type 0
  Goes t = Told script honest w v head ⊥ (Full s) (Rest t)

  abbrev pub To : Vat Name → Type 0
  To t = R t × Goes t

  abbrev Args : Vat Name → Message Name → Type 0
  Args q x = (d : ℕ) (done : List Event) → IsTold script done → AllCame (λ z y. CameAs script honest w v h d q done z y) coming.args x.args

  abbrev Out : Vat Name → Vat Name → Type 0
  Out q t = R t × (SmallStep script honest (middle w v head (Full s)) (middle w v head (Rest t)) × Later script honest w v head ⊥ (Full q) (Rest t))

  self : Begins script honest w v h head r at p n k far object plain named hosted rh everyone there number other objects link m ms s s
  self = record { grown = (stays_self script honest w v (Full s) (ready_read script honest w v h r at p n k far object plain named hosted (m ∷ ms) s gs)).1; queue = refl; held = λ a. refl; happened = refl; outbox = refl }

  -- without an answer
  pub lone_out : C s → Args s m → IfGives (λ t. To t) (refs.deliver K m h n s)
  lone_out can args = if_map (λ t. Out s t) (λ t. To t) (λ t d. (d.0, record { tale = then_on d.1.0 over; later = d.1.1 })) (refs.deliver K m h n s)
      (delivered_small script honest w v h head r at p n k far object plain named hosted rh everyone there number other objects link m ms s s gs self can m refl coming came args)

  -- with a new answer, on which the one here waits
  module _ (a : Name) (eventual : IsObject a → ⊥) (unknown : entry_of K s.known a ≡ None) (ready : Ready script honest w v (record s { known = s.known ++ begun a (host_of a) ∷ [] })) (leads : LeadsAmid script honest w v (Full s) v (Ref a) ≡ End (Way v (host_of a)) a) (here : host_of a ≡ h) where
    abbrev Came : Vat Name
    Came = record s { known = s.known ++ begun a (host_of a) ∷ [] }

    abbrev Anew : Message Name
    Anew = record m { answer = Some a }

    apart : a ≡ p → ⊥
    apart = begins_at.apart script honest w v h head r at p n k far object plain named hosted rh everyone there number other objects link m ms a eventual s gs unknown ready

    to_came : Later script honest w v head ⊥ (Full s) (Full Came)
    to_came = begins_at.later_came script honest w v h head r at p n k far object plain named hosted rh everyone there number other objects link m ms a eventual s gs unknown ready leads here

    module _ (can : C Came) (args : Args Came Anew) (b : Name) where
      -- the answer here may come to wait
      abbrev pub MayWait : Vat Name → Type 0
      MayWait t = (kb : Known Name) × (entry_of K t.known b ≡ Some kb) × (kb.standing ≡ Unsettled) × IsLoose script honest w v b t

      out : IfGives (λ t. Out Came t) (refs.deliver K Anew h n Came)
      out = delivered_small script honest w v h head r at p n k far object plain named hosted rh everyone there number other objects link m ms s Came gs
          (begins_at.begins_came script honest w v h head r at p n k far object plain named hosted rh everyone there number other objects link m ms a eventual s gs unknown ready) can Anew refl coming came args

      told_out : (t : Vat Name) → Out Came t → Goes t
      told_out t d = record { tale = then_on d.1.0 over; later = later_then script honest w v head ⊥ (Full s) (Full Came) (Rest t) to_came d.1.1 }

      -- it is not the name that settled
      b_apart : (t : Vat Name) → R t → MayWait t → b ≡ p → ⊥
      b_apart t g i = waits_apart script honest w v h r at p n k far object plain named hosted ms t g b i.0 i.1 (subst IsWaiting (sym i.2) tt)

      waits : (t : Vat Name) → Out Came t → MayWait t → IfGives (λ u. To u) (refs.wait_on K b a t)
      unfolding refs.wait_on ◌>>◌ and_then tell alter
      waits t d i = let f : (b ≡ p → ⊥) = b_apart t d.0 i in (
        awaits.real_waits script honest w v h head ⊥ r at p n k far object plain named hosted ms t d.0 b a i.0 i.1 i.2 f apart i.3,
        told_then script honest w v head ⊥ (Full s) (Rest t) (Rest (awaits.Then script honest w v h head ⊥ r at p n k far object plain named hosted ms t d.0 b a i.0 i.1 i.2 f apart)) (told_out t d)
            (awaits.waits_read script honest w v h head ⊥ r at p n k far object plain named hosted ms t d.0 b a i.0 i.1 i.2 f apart (awaits.loose_read script honest w v h head ⊥ r at p n k far object plain named hosted ms t d.0 b a i.0 i.1 i.2 f apart i.3)),
      )

      pub asked_out : IfGives (λ t. MayWait t) (refs.deliver K Anew h n Came) → IfGives (λ u. To u) (and_then (refs.deliver K Anew h n Came) (λ z. refs.wait_on K b a))
      asked_out may = chain (λ t. Out Came t × MayWait t) (λ u. To u) (refs.deliver K Anew h n Came) (refs.wait_on K b a) (if_both (λ t. Out Came t) (λ t. MayWait t) (refs.deliver K Anew h n Came) out may) (λ t f. waits t f.0 f.1)
