-- A new answer at the other vat comes to be known, read as though the name held what is to go out: what is asked of the vat so read is kept.
use Rattle.std.proofs.Common.{◌≡◌, ℕ, Bool, true, List, [], ◌∷◌, ◌++◌, Option, Some, None, refl, sym, ap, subst, ◌∙◌}
use Rattle.std.specs.Prelude.{slice_get}
use Rattle.def_machine.specs.Values.{Ref, Name, Naming, Foreign, host_of}
use Rattle.def_machine.specs.State.{Message, WaitsOn, Known, Vat, begun}
use Rattle.def_machine.specs.Refs.{entry_of}
use Rattle.def_run.specs.World as world
use Rattle.def_run.specs.World.{Script, Event, Link, World, names}
use Rattle.law_order.specs.Ordering.Places.{held_in}
use Rattle.law_order.specs.Ordering.Steps.{Ready, Grown, LeadsAmid}
use Rattle.law_order.specs.Ordering.Ways.{Way, End}
use Rattle.law_order.specs.Ordering.Worlds.{IsObject}
use Rattle.law_order.proofs.Ordering.Coming.{old_entry}
use Rattle.law_order.proofs.Ordering.News.{came_grown}
use Rattle.law_order.proofs.History.SendLaws.{begun_held}
use Rattle.law_order.proofs.Settling.Comes.{came_later}
use Rattle.law_order.proofs.Settling.Deliver.{Begins}
use Rattle.law_order.proofs.Settling.Later.{Later}
use Rattle.law_order.proofs.Settling.Put.{put_known, put_append}
use Rattle.law_order.proofs.Settling.Read.{Real, others, ready_read, object_leads}

none_some : (k : Known Name) → ◌≡◌ {A = Option (Known Name)} None (Some k) → ⊥
none_some k e = cc

module _ (script : Script) (honest : ℕ → Bool) (w : World) (v h : ℕ) (head : List Event) (r : Vat Name) (at : slice_get w.vats v ≡ Some r) (p n : Name) (k : Known Name) (far : (names script v).spot n ≡ Foreign h) (object : IsObject n) (plain : IsObject p → ⊥) (named : k.name ≡ p) (hosted : k.host ≡ v)
    (rh : Vat Name) (everyone : (u : ℕ) → honest u ≡ true) (there : slice_get w.vats h ≡ Some rh) (number : rh.number ≡ h) (other : h ≡ v → ⊥) (objects : (o : Name) → IsObject o → entry_of (names script h) rh.known o ≡ None)
    (link : (l : Link) × (world.link_at v h w.links ≡ Some l)) (m : Message Name) (ms : List (Message Name)) (a : Name) (eventual : IsObject a → ⊥) (s : Vat Name) where
  abbrev K : Naming Name Name
  K = names script v

  abbrev R : Vat Name → Type 0
  R u = Real script honest w v h r at p n k far object plain named hosted u

  abbrev Full : Vat Name → Vat Name
  Full u = record u { known = put_known K p (record k { standing = WaitsOn n; held = m ∷ ms }) u.known }

  abbrev Came : Vat Name
  Came = record s { known = s.known ++ begun a (host_of a) ∷ [] }

  module _ (gs : R s) (unknown : entry_of K s.known a ≡ None) (ready : Ready script honest w v Came) where
    pub apart : a ≡ p → ⊥
    apart e = none_some gs.known (sym unknown ∙ ap (entry_of K s.known) e ∙ gs.found)

    unknown_read : entry_of K (Full s).known a ≡ None
    unknown_read = others script honest w v h r at p n k far object plain named hosted (m ∷ ms) s gs a apart ∙ unknown

    -- the vat that is settled so
    pub real_came : R Came
    real_came = record { ready = ready; known = gs.known; found = old_entry K s.known (begun a (host_of a)) gs.known p gs.found; settled = gs.settled; host = gs.host; nothing = gs.nothing; calm = gs.calm; itself = gs.itself; clear = gs.clear }

    ready_full : Ready script honest w v (Full s)
    ready_full = ready_read script honest w v h r at p n k far object plain named hosted (m ∷ ms) s gs

    read_last : (Full Came).known ≡ (Full s).known ++ begun a (host_of a) ∷ []
    read_last = put_append script v p (record k { standing = WaitsOn n; held = m ∷ ms }) named s.known gs.known (begun a (host_of a)) gs.found

    abbrev Next : Vat Name
    Next = record s { known = (Full s).known ++ begun a (host_of a) ∷ [] }

    grown_next : Grown script honest w v (Full s) Next
    grown_next = came_grown script honest w v (Full s) a eventual ready_full unknown_read

    ready_next : Ready script honest w v Next
    ready_next = subst (λ ks. Ready script honest w v (record s { known = ks })) read_last (ready_read script honest w v h r at p n k far object plain named hosted (m ∷ ms) Came real_came)

    pub grown_came : Grown script honest w v (Full s) (Full Came)
    grown_came = subst (λ ks. Grown script honest w v (Full s) (record s { known = ks })) (sym read_last) grown_next

    -- The message begins to go out.
    pub begins_came : Begins script honest w v h head r at p n k far object plain named hosted rh everyone there number other objects link m ms s Came
    begins_came = record {
      grown = grown_came;
      queue = refl;
      held = λ b. ap (λ ks. held_in b (entry_of K ks b)) read_last ∙ begun_held script honest w v 0 head s (Ref n) [] [] a (host_of a) (Full s).known b;
      happened = refl;
      outbox = refl;
    }

    pub later_came : LeadsAmid script honest w v (Full s) v (Ref a) ≡ End (Way v (host_of a)) a → host_of a ≡ h → Later script honest w v head ⊥ (Full s) (Full Came)
    later_came leads here = subst (λ ks. Later script honest w v head ⊥ (Full s) (record s { known = ks })) (sym read_last)
        (came_later script honest w v (host_of a) head ⊥ (Full s) ready_full a n object ready_next grown_next leads (subst (λ g. LeadsAmid script honest w v (Full s) v (Ref n) ≡ End (Way v g) n) (sym here) (object_leads script honest w v h r at p n k far object plain named hosted (m ∷ ms) s gs)))
