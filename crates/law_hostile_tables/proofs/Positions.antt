-- What stands in connections: exports grow, are of their hosts, and no message has a number.
use Rattle.std.proofs.Common.{◌≡◌, ℕ, true, List, [], ◌∷◌, ◌++◌, refl, sym, ap, subst, ◌∙◌, append_assoc, append-nil, ◌⊎◌, inl, inr}
use Rattle.def_op.specs.Frames.{Operation}
use Rattle.def_machine.specs.Values.{Name, Sent, host_of}
use Rattle.def_machine.specs.State.{Note, Vat}
use Rattle.def_run.specs.Entered.{import_placed, imports_placed}
use Rattle.def_run.specs.Wire.{Connected, connected_at, with_connected, unconnected, hear_at, received, write_all}
use Rattle.def_run.specs.World as world
use Rattle.def_run.specs.World.{CutLink, Event, Carried, World, Goes, with_link, with_notes}
use Rattle.def_hostile.specs.Hostile.{Play, said_on}
use Rattle.law_machine.specs.Run.Moves.{Moved, Still, Severs, Drops, Steps, Arrives, Hears, Tells, AnyNotice, went, without}
use Rattle.law_machine.proofs.Run.Told.{moves_told}
use Rattle.law_adversary.specs.Moves.{Usual, Recorded, Framed, Received, entered_at}
use Rattle.law_fate.specs.Name.Names.{AllOf}
use Rattle.law_fate.proofs.Name.Facts.{all_map}
use Rattle.law_frame.specs.Frame.Growing.{IsFront}
use Rattle.law_frame.specs.Frame.OwnFrames.{refers}
use Rattle.law_frame.specs.Frame.Together.{TablesMay}
use Rattle.law_frame.proofs.Frame.Grows.{after_grows}
use Rattle.law_frame.proofs.Frame.Places.{same_or, connected_same, connected_other}
use Rattle.law_injected.specs.HostileRuns.{AnyDeed, NothingSaid, IsHostile}
use Rattle.law_injected.proofs.HostileReached.{Moves, all_reached}
use Rattle.law_lawful.specs.Claims.{WasMade}
use Rattle.law_lawful.specs.Lawful.{AnyWord}
use Rattle.law_lawful.specs.Tables.{IsOf, TablesFit}
use Rattle.law_lawful.proofs.Reached.{reached_fits, in_scenes}
use Rattle.law_lawful.proofs.Tables.{connected_holds}
use Rattle.law_hostile_tables.specs.Positions.{ExportsGrow, PositionsAreKept, ExportsAreOfTheirHosts, NoMessageHasANumber}

-- ---- fronts

front_same : {A : Type 0} (xs : List A) → IsFront xs xs
front_same xs = ([], sym (append-nil xs))

front_on : {A : Type 0} (xs ys zs : List A) → IsFront xs ys → IsFront ys zs → IsFront xs zs
front_on xs ys zs h k = (h.0 ++ k.0, k.1 ∙ ap (λ us. us ++ k.0) h.1 ∙ append_assoc xs h.0 k.0)

abbrev Exports : ℕ → ℕ → List Connected → List Name
Exports h v cs = (connected_at h v cs).tables.exports

-- a change of one connection by which what was exported stays
with_exports : (f : Connected → Connected) → ((c : Connected) → (f c).from ≡ c.from) → ((c : Connected) → (f c).to ≡ c.to) → ((c : Connected) → IsFront c.tables.exports (f c).tables.exports) → (a b h v : ℕ) (cs : List Connected) → IsFront (Exports h v cs) (Exports h v (with_connected f a b cs))
with_exports f from to grows a b h v cs = go (same_or a b h v)
  where
    go : ((a ≡ h) × (b ≡ v)) ⊎ (a ≡ h → b ≡ v → ⊥) → IsFront (Exports h v cs) (Exports h v (with_connected f a b cs))
    go (inl e) = let one : connected_at h v (with_connected f a b cs) ≡ f (connected_at h v cs) = subst (λ x. connected_at h v (with_connected f x b cs) ≡ f (connected_at h v cs)) (sym e.0) (subst (λ y. connected_at h v (with_connected f h y cs) ≡ f (connected_at h v cs)) (sym e.1) (connected_same f from to h v cs)) in
        subst (λ (c : Connected). IsFront (Exports h v cs) c.tables.exports) (sym one) (grows (connected_at h v cs))
    go (inr n) = subst (λ (c : Connected). IsFront (Exports h v cs) c.tables.exports) (sym (connected_other f from to a b h v cs n)) (front_same (Exports h v cs))

placed_exports : (u a h v : ℕ) (cs : List Connected) → IsFront (Exports h v cs) (Exports h v (imports_placed u a cs))
unfolding imports_placed import_placed
placed_exports u a h v cs = with_exports import_placed (λ c. refl) (λ c. refl) (λ c. front_same c.tables.exports) u a h v cs

heard_exports : (a u h v : ℕ) (n : Note Name) (cs : List Connected) → IsFront (Exports h v cs) (Exports h v (hear_at a u n cs))
unfolding hear_at received
heard_exports a u h v n cs = with_exports (received (connected_at a u cs) n) (λ c. refl) (λ c. refl) (λ c. front_same c.tables.exports) u a h v cs

said_exports : (u : ℕ) (o : Operation) (n : Note Name) (new : List Name) (a b h v : ℕ) (cs : List Connected) → IsFront (Exports h v cs) (Exports h v (with_connected (said_on u o n new) a b cs))
unfolding said_on
said_exports u o n new a b h v cs = with_exports (said_on u o n new) (λ c. refl) (λ c. refl) (λ c. (new, refl)) a b h v cs

-- ---- moves

went_exports : (u : ℕ) (w : World) (head : List Event) (t : Vat Name) → ExportsGrow w (went u w head t)
unfolding went
went_exports u w head t h v = let g = after_grows u t head h v w.connections in let k = g.tables in k.exports

-- what vat u put is written behind what it heard and imported
placed_grows : (a u h v : ℕ) (n : Note Name) (t : Vat Name) (cs : List Connected) → IsFront (Exports h v cs) (Exports h v (write_all u t.outbox (imports_placed u a (hear_at a u n cs))))
unfolding world.connections_after world.heard_by
placed_grows a u h v n t cs = let heard : List Connected = hear_at a u n cs in let placed : List Connected = imports_placed u a heard in
    front_on (Exports h v cs) (Exports h v heard) _ (heard_exports a u h v n cs) (front_on (Exports h v heard) (Exports h v placed) _ (placed_exports u a h v heard) (let g = after_grows u t [] h v placed in let k = g.tables in k.exports))

grow_on : (w x y : World) → ExportsGrow w x → ExportsGrow x y → ExportsGrow w y
grow_on w x y f g h v = front_on (Exports h v w.connections) (Exports h v x.connections) (Exports h v y.connections) (f h v) (g h v)

-- the connections are the same
grow_same : (w x y : World) → x.connections ≡ w.connections → ExportsGrow x y → ExportsGrow w y
grow_same w x y e g h v = subst (λ cs. IsFront (Exports h v cs) (Exports h v y.connections)) e (g h v)

is_so : (w x y : World) → ExportsGrow w x → y ≡ x → ExportsGrow w y
is_so w x y h e = subst (λ z. ExportsGrow w z) (sym e) h

still : (w : World) (y : World) → y.connections ≡ w.connections → ExportsGrow w y
still w y e h v = subst (λ cs. IsFront (Exports h v w.connections) (Exports h v cs)) (sym e) (front_same (Exports h v w.connections))

going_is : (x y : World) → Goes x ≡ Goes y → y.connections ≡ x.connections
going_is x y e = cc

connections_is : (x y : World) → y ≡ x → y.connections ≡ x.connections
connections_is x y e = cc

left_grows : (a v : ℕ) (ns : List (Note Name)) (w y : World) → ExportsGrow (without a v ns w) y → ExportsGrow w y
unfolding without
left_grows a v ns w y h = h

module _ (play : Play) where
  cut_is : (k a b : ℕ) (w y : World) → world.step play.script (CutLink a b) k w ≡ Goes y → y.connections ≡ w.connections
  unfolding world.step world.cut
  cut_is k a b w y e = going_is _ y e

  usual_grows : (w y : World) → Moved play.script w (IsHostile play) AnyNotice AnyDeed NothingSaid y → ExportsGrow w y
  usual_grows w y (Still es e) = still w y (connections_is _ y e)
  usual_grows w y (Severs k a b e) = still w y (cut_is k a b w y e)
  usual_grows w y (Drops a v n ns l es i c j none e) = still w y (connections_is _ y e)
  usual_grows w y (Steps v s q t what head o alone may quiet d e) = is_so w _ y (went_exports v w head t) e
  usual_grows w y (Arrives a v s t n ns l k frame o i c j d e) = let x : World = record w { links = with_link (with_notes ns) a v w.links } in is_so w (went v x (Carried k a v n frame ∷ []) t) y (grow_same w x (went v x (Carried k a v n frame ∷ []) t) refl (went_exports v x (Carried k a v n frame ∷ []) t)) e
  usual_grows w y (Hears a v s t n ns l k frame bad i c j q f e) = let z : World = went v (without a v ns w) (Carried k a v n frame ∷ []) t in is_so w z y (left_grows a v ns w z (went_exports v (without a v ns w) (Carried k a v n frame ∷ []) t)) e
  usual_grows w y (Tells v u s t z ds n bad i p l f e) = absurd l

  move_grows : (w y : World) → Moves play w y → ExportsGrow w y
  move_grows w y (Usual m) = usual_grows w y (moves_told play.script (IsHostile play) AnyNotice AnyDeed NothingSaid w y m)
  move_grows w y (Recorded b bad es e) = still w y (connections_is _ y e)
  move_grows w y (Framed v u s t z ds n op new bad i p x f e) = is_so w _ y (λ h c. said_exports u op n new v u h c w.connections) e
  move_grows w y (Received b bad k a v l n ns s t o i c j q f e) = is_so w _ y (λ h c. placed_grows a v h c (entered_at w a v s n) t w.connections) e

pub positions_kept : PositionsAreKept
positions_kept play h bad ds k s t e = all_reached play h bad (λ y. ExportsGrow s.world y) (λ w y g m. grow_on s.world w y g (move_grows play w y m)) ds k s t (still s.world s.world refl) e

-- ---- whose it is

abbrev Fits : World → Connected → Type 0
Fits w = TablesFit (WasMade AnyWord w.vats w.drawn)

module _ (w : World) where
  none_fits : (h v : ℕ) → Fits w (unconnected h v)
  unfolding unconnected
  none_fits h v = record { exports = tt; imports = tt; questions = tt; answers = tt }

  name_refers : (n : Name) → WasMade AnyWord w.vats w.drawn n → refers n ≡ true
  unfolding refers
  name_refers (Sent m) h = absurd h
  name_refers other h = refl

  all_refer : (h : ℕ) (ns : List Name) → AllOf (IsOf (WasMade AnyWord w.vats w.drawn) h) ns → AllOf (λ n. refers n ≡ true) ns
  all_refer h ns k = all_map (λ n i. name_refers n i.1) ns k

  module _ (h v : ℕ) (fits : AllOf (Fits w) w.connections) where
    found : Fits w (connected_at h v w.connections)
    found = (connected_holds (Fits w) h v (none_fits h v) w.connections fits).0

    from_is : (connected_at h v w.connections).from ≡ h
    from_is = (connected_holds (Fits w) h v (none_fits h v) w.connections fits).1

    pub exports_own : AllOf (λ n. host_of n ≡ h) (connected_at h v w.connections).tables.exports
    exports_own = let f = found in let at = from_is in all_map (λ n i. i.0 ∙ at) (connected_at h v w.connections).tables.exports f.exports

    pub tables_refer : TablesMay refers (connected_at h v w.connections).tables
    tables_refer = let f = found in let c : Connected = connected_at h v w.connections in record {
      exports = all_refer c.from c.tables.exports f.exports;
      imports = all_refer c.to c.tables.imports f.imports;
      questions = all_refer c.to c.tables.questions f.questions;
      answers = all_refer c.from c.tables.answers f.answers;
    }

pub of_hosts : ExportsAreOfTheirHosts
of_hosts = in_scenes (λ play w. (h v : ℕ) → AllOf (λ n. host_of n ≡ h) (connected_at h v w.connections).tables.exports) (λ play w r h v. let f = reached_fits play w r in exports_own w h v f.connections)

pub no_message : NoMessageHasANumber
no_message = in_scenes (λ play w. (h v : ℕ) → TablesMay refers (connected_at h v w.connections).tables) (λ play w r h v. let f = reached_fits play w r in tables_refer w h v f.connections)
