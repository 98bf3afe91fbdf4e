-- Every world of a run with hostile vats is reached.
use Rattle.std.proofs.Common.{◌≡◌, ℕ, zero, suc, Bool, true, false, List, [], ◌∷◌, ◌++◌, Option, Some, None, refl, sym, ◌∙◌, ap, length, append_assoc, append-nil}
use Rattle.std.specs.Prelude.{slice_get}
use Rattle.def_op.specs.Frames.{Operation}
use Rattle.def_machine.specs.Values.{Name, Sent}
use Rattle.def_machine.specs.State as state
use Rattle.def_machine.specs.State.{Note, Vat, Done, Gives, Throws, Ejects, Stops, Act, send_out, ◌>>◌, is_in}
use Rattle.def_machine.specs.Arrive.{Incoming}
use Rattle.def_run.specs.Connections.{Heard}
use Rattle.def_run.specs.Entered.{imports_placed}
use Rattle.def_run.specs.Wire.{connected_at, hear_at}
use Rattle.def_run.specs.World as world
use Rattle.def_run.specs.World.{Program, Entry, Turn, Carry, CutLink, NoticeLink, Event, Carried, Idle, NoticedAt, Link, World, Run, Goes as Going, Stopped, names, names_of, read_note, readied}
use Rattle.law_machine.specs.Run.Moves.{Move, Performs, Opened, Stepped, Swallowed, AnyNotice, went, without}
use Rattle.law_adversary.specs.Moves.{FrameMove, Usual, Recorded, Framed, Received, entered_at, framed_on, placed_from}
use Rattle.def_run.specs.Deeds as deeds
use Rattle.def_run.specs.Deeds.{Deed, perform_all}
use Rattle.def_hostile.specs.Judge as judge
use Rattle.def_hostile.specs.Judge.{Verdict, verdict}
use Rattle.def_hostile.specs.Hostile as hostile
use Rattle.def_hostile.specs.Hostile.{Play, Scene, Acted, Plays, Breaks, Doing, Does, Injects, Line, is_hostile, new_names, counts, completed, name_in}
use Rattle.law_injected.specs.HostileRuns.{AnyDeed, NothingSaid, IsHostile, IsSpoken, IsReached, HostileRunsAreReached}

plays_is : (s t : Scene) → Plays s ≡ Plays t → s ≡ t
plays_is s t e = cc

going_is : (w x : World) → Going w ≡ Going x → w ≡ x
going_is w x e = cc

honest_is : (b : Bool) → b ≡ false → b ≡ true → ⊥
honest_is b e f = cc

length_end : (ds : List Program) (p : Program) → length (ds ++ p ∷ []) ≡ suc (length ds)
length_end [] p = refl
length_end (d ∷ ds) p = cc (length_end ds p)

-- ---- a step of one vat

put_went : (u : ℕ) (w y : World) (head : List Event) (d : Done Name (Unit {0})) → world.put_back u w head zero d ≡ Going y → (t : Vat Name) × (d ≡ Gives tt t) × (y ≡ went u w head t)
unfolding world.put_back went
put_went u w y head (Gives a t) e = (t, refl, sym (going_is _ y e))
put_went u w y head other e = cc

within_went : (u : ℕ) (w y : World) (head : List Event) (act : Act Name (Unit {0})) (s : Vat Name) → world.within u w head zero act (Some s) ≡ Going y → (t : Vat Name) × (act (readied w s) ≡ Gives tt t) × (y ≡ went u w head t)
unfolding world.within
within_went u w y head act s e = put_went u w y head (act (readied w s)) e

then_gives : (d : Done Name (Unit {0})) (f : Act Name (Unit {0})) (t : Vat Name) → state.and_then d (λ _. f) ≡ Gives tt t → (r : Vat Name) × (d ≡ Gives tt r) × (f r ≡ Gives tt t)
unfolding state.and_then
then_gives (Gives a r) f t e = (r, refl, e)
then_gives (Throws p r) f t e = cc
then_gives (Ejects i x r) f t e = cc
then_gives (Stops c r) f t e = cc

put_there : (vats : List (Vat Name)) (u : ℕ) (s t : Vat Name) → slice_get vats u ≡ Some s → slice_get (world.put_at u t vats) u ≡ Some t
unfolding world.put_at
put_there [] u s t e = cc
put_there (x ∷ xs) zero s t e = refl
put_there (x ∷ xs) (suc u) s t e = put_there xs u s t e

-- a world in which what vat u put, if it is there, is written behind what it heard and imported
abbrev written_from : Play → ℕ → ℕ → Note Name → World → Option (Vat Name) → World → World
written_from play v u n w o y = record y { connections = hostile.written_behind play u (imports_placed u v (hear_at v u n w.connections)) o }

-- what the vat of that step put is what it put by it
written_so : (play : Play) (v u : ℕ) (ns : List (Note Name)) (n : Note Name) (w : World) (s t : Vat Name) (head : List Event) → slice_get w.vats u ≡ Some s
    → written_from play v u n (without v u ns w) (slice_get (went u (without v u ns w) head t).vats u) (went u (without v u ns w) head t) ≡ placed_from v u n w t (went u (without v u ns w) head t)
unfolding without went hostile.written_behind
written_so play v u ns n w s t head q = ap (λ o. written_from play v u n (without v u ns w) o (went u (without v u ns w) head t)) (put_there w.vats u s t q)

-- a move of a play
abbrev pub Moves : Play → World → World → Type 0
Moves play w y = FrameMove play.script (IsHostile play) AnyNotice AnyDeed NothingSaid (IsSpoken play) w y

-- a move of a play without frames
abbrev pub Usually : Play → World → World → Type 0
Usually play w y = Move play.script (IsHostile play) AnyNotice AnyDeed NothingSaid w y

-- what each move keeps, each doing keeps
module _ (play : Play) (who : ℕ) (bad : IsHostile play who) (R : World → Type 0) (on : (w y : World) → R w → Moves play w y → R y) where
  abbrev H : ℕ → Type 0
  H = IsHostile play

  abbrev M : World → World → Type 0
  M w y = Moves play w y

  is_reached : (w y : World) → w ≡ y → R w → R y
  is_reached w y e r = rw e at r

  -- ---- what is told

  happens_reached : (e : Event) (s t : Scene) → R s.world → hostile.happens e s ≡ Plays t → R t.world
  unfolding hostile.happens
  happens_reached e s t r i = is_reached _ t.world (ap (λ (x : Scene). x.world) (plays_is _ t i)) (on s.world (record s.world { history = s.world.history ++ e ∷ [] }) r (Recorded who bad (e ∷ []) refl))

  tells_reached : (l : Line) (s t : Scene) → R s.world → hostile.tells l s ≡ Plays t → R t.world
  unfolding hostile.tells
  tells_reached l s t r i = is_reached s.world t.world (ap (λ (x : Scene). x.world) (plays_is _ t i)) r

  acted_reached : (n : ℕ) (s t : Scene) (front : List Line) (run : Run) → ((y : World) → run ≡ Going y → R y) → hostile.acted n s front run ≡ Plays t → R t.world
  unfolding hostile.acted
  acted_reached n s t front (Going y) f i = is_reached y t.world (ap (λ (x : Scene). x.world) (plays_is _ t i)) (f y refl)
  acted_reached n s t front (Stopped c k y) f i = cc

  -- ---- deeds

  performed : (w : World) (v : ℕ) (ds : List Deed) (s t : Vat Name) → perform_all play.script v ds s ≡ Gives tt t → Performs play.script (IsHostile play) AnyNotice AnyDeed NothingSaid w v ds s t
  unfolding deeds.perform_all state.give ◌>>◌
  performed w v [] s t e = cc
  performed w v (d ∷ ds) s t e = let a = then_gives (deeds.perform play.script v d s) (perform_all play.script v ds) t e in (a.0, tt, a.1, performed w v ds a.0 t a.2)

  said_parts : (v u : ℕ) (n : Note Name) (ds : List Deed) (s t : Vat Name) → (perform_all play.script v ds >> send_out u n) s ≡ Gives tt t → (r : Vat Name) × (perform_all play.script v ds s ≡ Gives tt r) × (send_out u n r ≡ Gives tt t)
  unfolding ◌>>◌
  said_parts v u n ds s t e = then_gives (perform_all play.script v ds s) (send_out u n) t e

  -- ---- a note comes

  some_hostile : (hs : List ℕ) (v : ℕ) → is_in v hs ≡ true → hostile.is_empty hs ≡ false
  unfolding is_in hostile.is_empty
  some_hostile [] v e = cc
  some_hostile (h ∷ hs) v e = refl

  not_empty : hostile.is_empty play.hostile ≡ false
  unfolding hostile.is_hostile
  not_empty = some_hostile play.hostile who bad

  enters_so : (b : Bool) → b ≡ false → (v u : ℕ) (w : World) (ns : List (Note Name)) (s : Vat Name) (n : Note Name) → hostile.entered_note play b v u (without v u ns w) s n ≡ entered_at w v u s n
  unfolding hostile.entered_note without
  enters_so true e v u w ns s n = cc
  enters_so false e v u w ns s n = refl

  placed_so : (b : Bool) → b ≡ false → (v u : ℕ) (n : Note Name) (w z : World) → hostile.placed_imports play b v u n w z ≡ written_from play v u n w (slice_get z.vats u) z
  unfolding hostile.placed_imports
  placed_so true e v u n w z = cc
  placed_so false e v u n w z = refl

  placed_goes : (v u : ℕ) (n : Note Name) (w : World) (run : Run) (y : World) → hostile.then_places play v u n w run ≡ Going y → (z : World) × (run ≡ Going z) × (y ≡ written_from play v u n w (slice_get z.vats u) z)
  unfolding hostile.then_places
  placed_goes v u n w (Going z) y e = (z, refl, sym (going_is _ y e) ∙ placed_so (hostile.is_empty play.hostile) not_empty v u n w z)
  placed_goes v u n w (Stopped c k z) y e = cc

  receives_reached : (k v u : ℕ) (w y : World) (l : Link) (n : Note Name) (ns : List (Note Name)) (s : Vat Name) → R w → (H u → ⊥) → world.link_at v u w.links ≡ Some l → l.cut ≡ false → l.notes ≡ n ∷ ns → slice_get w.vats u ≡ Some s
      → hostile.receives play k v u (without v u ns w) (entered_at w v u s n) s ≡ Going y → R y
  unfolding hostile.receives without readied
  receives_reached k v u w y l n ns s x h i c j q e =
      let m : Note Name = entered_at w v u s n in let p = placed_goes v u m (without v u ns w) _ y e in let g = within_went u (without v u ns w) p.0 _ _ s p.1 in
      on w y x (Received who bad k v u l n ns s g.0 h i c j q g.1 (p.2 ∙ ap (λ (z : World). written_from play v u m (without v u ns w) (slice_get z.vats u) z) g.2 ∙ written_so play v u ns m w s g.0 _ q))

  receives_at_reached : (k v u : ℕ) (w y : World) (l : Link) (n : Note Name) (ns : List (Note Name)) → R w → (H u → ⊥) → world.link_at v u w.links ≡ Some l → l.cut ≡ false → l.notes ≡ n ∷ ns → (o : Option (Vat Name)) → slice_get w.vats u ≡ o
      → hostile.receives_at play k v u (without v u ns w) n o ≡ Going y → R y
  unfolding hostile.receives_at
  receives_at_reached k v u w y l n ns x h i c j None q e = cc
  receives_at_reached k v u w y l n ns x h i c j (Some s) q e = receives_reached k v u w y l n ns s x h i c j q (rw (enters_so (hostile.is_empty play.hostile) not_empty v u w ns s n) at e)

  swallows_moves : (k v u : ℕ) (w y : World) (l : Link) (n : Note Name) (ns : List (Note Name)) → H u → world.link_at v u w.links ≡ Some l → l.cut ≡ false → l.notes ≡ n ∷ ns → (o : Option (Vat Name)) → slice_get w.vats u ≡ o
      → hostile.swallows play k v u (without v u ns w) n o ≡ Going y → M w y
  unfolding hostile.swallows without world.within readied
  swallows_moves k v u w y l n ns h i c j None q e = cc
  swallows_moves k v u w y l n ns h i c j (Some s) q e = let g = put_went u (without v u ns w) y _ _ e in Usual (Swallowed k v u l n ns s g.0 h i c j q g.1 g.2)

  comes_reached : (b : Bool) (k v u : ℕ) (w y : World) (l : Link) (n : Note Name) (ns : List (Note Name)) → R w → is_hostile play u ≡ b → world.link_at v u w.links ≡ Some l → l.cut ≡ false → l.notes ≡ n ∷ ns → hostile.comes play b k v u (without v u ns w) n ≡ Going y → R y
  unfolding hostile.comes without
  comes_reached true k v u w y l n ns x h i c j e = on w y x (swallows_moves k v u w y l n ns h i c j (slice_get w.vats u) refl e)
  comes_reached false k v u w y l n ns x h i c j e = receives_at_reached k v u w y l n ns x (honest_is (is_hostile play u) h) i c j (slice_get w.vats u) refl e

  notes_reached : (k v u : ℕ) (s t : Scene) (l : Link) → R s.world → world.link_at v u s.world.links ≡ Some l → l.cut ≡ false → (ns : List (Note Name)) → l.notes ≡ ns → hostile.carry_notes play k v u s ns ≡ Plays t → R t.world
  unfolding hostile.carry_notes without
  notes_reached k v u s t l r i c [] j e = happens_reached (Idle k) s t r e
  notes_reached k v u s t l r i c (n ∷ ns) j e = acted_reached _ s t [] _ (λ y g. comes_reached (is_hostile play u) k v u s.world y l n ns r refl i c j g) e

  cut_reached : (k v u : ℕ) (s t : Scene) (l : Link) → R s.world → world.link_at v u s.world.links ≡ Some l → (b : Bool) → l.cut ≡ b → elim b [ true ↦ hostile.happens (Idle k) s | false ↦ hostile.carry_notes play k v u s l.notes ] ≡ Plays t → R t.world
  cut_reached k v u s t l r i true c e = happens_reached (Idle k) s t r e
  cut_reached k v u s t l r i false c e = notes_reached k v u s t l r i c l.notes refl e

  link_reached : (k v u : ℕ) (s t : Scene) → R s.world → (o : Option Link) → world.link_at v u s.world.links ≡ o → hostile.carry_link play k v u s o ≡ Plays t → R t.world
  unfolding hostile.carry_link
  link_reached k v u s t r None i e = happens_reached (Idle k) s t r e
  link_reached k v u s t r (Some l) i e = cut_reached k v u s t l r i l.cut refl e

  -- ---- a frame comes

  severed_reached : (k h u place : ℕ) (s t : Scene) (halfway run : Run) → ((z : World) → run ≡ Going z → R z) → hostile.severed_by play k h u place s halfway run ≡ Plays t → R t.world
  unfolding hostile.severed_by
  severed_reached k h u place s t halfway (Going z) f e = is_reached z t.world (ap (λ (x : Scene). x.world) (plays_is _ t e)) (f z refl)
  severed_reached k h u place s t halfway (Stopped c n z) f e = cc

  cut_moves : (k h u : ℕ) (w y : World) → world.cut play.script k h u w ≡ Going y → M w y
  unfolding world.step
  cut_moves k h u w y e = Usual (Stepped (CutLink h u) k tt e)

  noticed_reached : (k h u : ℕ) (z : World) (run : Run) → (H u → ⊥) → ((y : World) → run ≡ Going y → R y) → hostile.noticed_after play k h u run ≡ Going z → R z
  unfolding hostile.noticed_after
  noticed_reached k h u z (Going y) a f e = on y z (f y refl) (Usual (Stepped (NoticeLink u h) k (a, tt) e))
  noticed_reached k h u z (Stopped c n y) a f e = cc

  malformed_reached : (k h u place : ℕ) (s t : Scene) → (H u → ⊥) → R s.world → hostile.malformed play k h u place s ≡ Plays t → R t.world
  unfolding hostile.malformed
  malformed_reached k h u place s t a r e = severed_reached k h u place s t _ _ (λ z i. noticed_reached k h u z (world.cut play.script k h u s.world) a (λ y j. on s.world y r (cut_moves k h u s.world y j)) i) e

  said_goes : (h u : ℕ) (op : Operation) (new : List Name) (n : Note Name) (w y : World) (run : Run) → hostile.said_beside play h u op new n w run ≡ Going y → (z : World) × (run ≡ Going z) × (y ≡ framed_on w h u op n new z)
  unfolding hostile.said_beside
  said_goes h u op new n w y (Going z) e = (z, refl, sym (going_is _ y e))
  said_goes h u op new n w y (Stopped c k z) e = cc

  said_reached : (h u : ℕ) (op : Operation) (kinds : List Bool) (new : List Name) (n : Note Name) (w y : World) (q : Vat Name) → R w → H h → slice_get w.vats h ≡ Some q → ((t : Vat Name) → perform_all play.script h (hostile.deeds_for u kinds n) (readied w q) ≡ Gives tt t → IsSpoken play w h u t n op new) → hostile.said play h u op kinds new n w q ≡ Going y → R y
  unfolding hostile.said
  said_reached h u op kinds new n w y q x i j spoken e =
      let p = said_goes h u op new n w y _ e in let g = within_went h w p.0 [] (perform_all play.script h (hostile.deeds_for u kinds n) >> send_out u n) q p.1 in
      let d = said_parts h u n (hostile.deeds_for u kinds n) (readied w q) g.0 g.1 in
      on w y x (Framed h u q d.0 g.0 (hostile.deeds_for u kinds n) n op new i j (performed w h (hostile.deeds_for u kinds n) (readied w q) d.0 d.1) (spoken d.0 d.1) d.2 (p.2 ∙ ap (λ (z : World). framed_on w h u op n new z) g.2))

  carries_reached : (k h u : ℕ) (s t : Scene) (run : Run) → ((y : World) → run ≡ Going y → R y) → hostile.carries_said play k h u s run ≡ Plays t → R t.world
  unfolding hostile.carries_said
  carries_reached k h u s t (Going y) f e = link_reached k h u (record s { world = y }) t (f y refl) (world.link_at h u y.links) refl e
  carries_reached k h u s t (Stopped c n y) f e = cc

  spoken_reached : (k h u : ℕ) (op : Operation) (bytes : List ℕ) (kinds : List Bool) (new : List Name) (n : Note Name) (s t : Scene) (q : Vat Name) → H h → slice_get s.world.vats h ≡ Some q → ((x : Vat Name) → perform_all play.script h (hostile.deeds_for u kinds n) (readied s.world q) ≡ Gives tt x → IsSpoken play s.world h u x n op new) → R s.world → (b : Bool) → hostile.spoken play k h u op bytes kinds new n s q b ≡ Plays t → R t.world
  unfolding hostile.spoken
  spoken_reached k h u op bytes kinds new n s t q i j spoken r true e = happens_reached _ s t r e
  spoken_reached k h u op bytes kinds new n s t q i j spoken r false e = carries_reached k h u _ t (hostile.said play h u op kinds new n s.world q) (λ y g. said_reached h u op kinds new n s.world y q r i j spoken g) e

  heard_reached : (k h u : ℕ) (op : Operation) (bytes : List ℕ) (kinds : List Bool) (s t : Scene) (q p : Vat Name) → H h → (H u → ⊥) → verdict (length play.script.vats) u h (counts (connected_at u h s.world.connections).tables) bytes ≡ judge.Lawful op kinds → slice_get s.world.vats h ≡ Some q → slice_get s.world.vats u ≡ Some p → R s.world
      → (o : Option (Heard Name (Note (Incoming Name Name)))) → hostile.read_op play h u (connected_at u h s.world.connections).tables (new_names h (length q.things) q.promises kinds) (Sent (record { sender = h; number = q.messages })) op ≡ o
      → hostile.heard_note play k h u op bytes kinds (new_names h (length q.things) q.promises kinds) s q p o ≡ Plays t → R t.world
  unfolding hostile.heard_note
  heard_reached k h u op bytes kinds s t q p i a v j l r None o e = cc
  heard_reached k h u op bytes kinds s t q p i a v j l r (Some x) o e = spoken_reached k h u op bytes kinds _ _ s t q i j (λ y f. record { bytes = bytes; kinds = kinds; record_of = q; reader = p; heard = x; honest = a; lawful = v; speaks = j; hears = l; makes = refl; reads = o; says = refl; prepares = f }) r _ e

  lawful_reached : (k h u : ℕ) (op : Operation) (bytes : List ℕ) (kinds : List Bool) (s t : Scene) → H h → (H u → ⊥) → verdict (length play.script.vats) u h (counts (connected_at u h s.world.connections).tables) bytes ≡ judge.Lawful op kinds → R s.world
      → (a b : Option (Vat Name)) → slice_get s.world.vats h ≡ a → slice_get s.world.vats u ≡ b → hostile.lawful play k h u op bytes kinds s a b ≡ Plays t → R t.world
  unfolding hostile.lawful
  lawful_reached k h u op bytes kinds s t i x v r None b j l e = cc
  lawful_reached k h u op bytes kinds s t i x v r (Some q) None j l e = cc
  lawful_reached k h u op bytes kinds s t i x v r (Some q) (Some p) j l e = heard_reached k h u op bytes kinds s t q p i x v j l r _ refl e

  judged_reached : (k h u : ℕ) (bytes : List ℕ) (s t : Scene) → H h → (H u → ⊥) → R s.world → (x : Verdict) → verdict (length play.script.vats) u h (counts (connected_at u h s.world.connections).tables) bytes ≡ x → hostile.judged_frame play k h u bytes s x ≡ Plays t → R t.world
  unfolding hostile.judged_frame
  judged_reached k h u bytes s t i a r (judge.Malformed place) v e = malformed_reached k h u place s t a r e
  judged_reached k h u bytes s t i a r (judge.Lawful op kinds) v e = lawful_reached k h u op bytes kinds s t i a v r (slice_get s.world.vats h) (slice_get s.world.vats u) refl refl e

  frame_reached : (k h u : ℕ) (bytes : List ℕ) (s t : Scene) → H h → R s.world → (b : Bool) → is_hostile play u ≡ b → hostile.frame_comes play b k h u bytes s ≡ Plays t → R t.world
  unfolding hostile.frame_comes
  frame_reached k h u bytes s t i r true c e = tells_reached _ s t r e
  frame_reached k h u bytes s t i r false c e = judged_reached k h u bytes s t i (honest_is (is_hostile play u) c) r _ refl e

  carry_reached : (k v u : ℕ) (s t : Scene) → H v → R s.world → (fs : List (List ℕ)) → hostile.carry play k v u s fs ≡ Plays t → R t.world
  unfolding hostile.carry
  carry_reached k v u s t i r [] e = link_reached k v u s t r (world.link_at v u s.world.links) refl e
  carry_reached k v u s t i r (f ∷ fs) e = frame_reached k v u f _ t i r (is_hostile play u) refl e

  does_carry_reached : (k v u : ℕ) (s t : Scene) → R s.world → (b : Bool) → is_hostile play v ≡ b → hostile.does_carry play b k v u s ≡ Plays t → R t.world
  unfolding hostile.does_carry
  does_carry_reached k v u s t r true h e = carry_reached k v u s t h r _ e
  does_carry_reached k v u s t r false h e = link_reached k v u s t r (world.link_at v u s.world.links) refl e

  -- ---- the entries

  turn_reached : (k v : ℕ) (s t : Scene) → R s.world → (b : Bool) → is_hostile play v ≡ b → hostile.does_turn play b k v s ≡ Plays t → R t.world
  unfolding hostile.does_turn
  turn_reached k v s t r true h e = happens_reached _ s t r e
  turn_reached k v s t r false h e = acted_reached _ s t [] _ (λ y i. on s.world y r (Usual (Stepped (Turn v) k (honest_is (is_hostile play v) h) i))) e

  notice_reached : (k v w : ℕ) (s t : Scene) → R s.world → (b : Bool) → is_hostile play v ≡ b → hostile.does_notice play b k v w s ≡ Plays t → R t.world
  unfolding hostile.does_notice
  notice_reached k v w s t r true h e = happens_reached _ s t r e
  notice_reached k v w s t r false h e = acted_reached _ s t [] _ (λ y i. on s.world y r (Usual (Stepped (NoticeLink v w) k (honest_is (is_hostile play v) h, tt) i))) e

  injects_reached : (k h w : ℕ) (bytes : List ℕ) (s t : Scene) → R s.world → (b : Bool) → hostile.injects play b k h w bytes s ≡ Plays t → R t.world
  unfolding hostile.injects
  injects_reached k h w bytes s t r true e = tells_reached _ s t r e
  injects_reached k h w bytes s t r false e = tells_reached _ _ t r e

  tried_reached : (d : Doing) (k : ℕ) (s t : Scene) → R s.world → hostile.tries play d k s ≡ Plays t → R t.world
  unfolding hostile.tries
  tried_reached (Does (Turn v)) k s t r e = turn_reached k v s t r (is_hostile play v) refl e
  tried_reached (Does (Carry v u)) k s t r e = does_carry_reached k v u s t r (is_hostile play v) refl e
  tried_reached (Does (CutLink v u)) k s t r e = acted_reached _ _ t [] _ (λ y i. on s.world y r (Usual (Stepped (CutLink v u) k tt i))) e
  tried_reached (Does (NoticeLink v u)) k s t r e = notice_reached k v u s t r (is_hostile play v) refl e
  tried_reached (Injects h u bytes) k s t r e = injects_reached k h u bytes s t r (world.is_cut h u s.world.links) e

  -- what does not stop
  plays_on : (s t : Scene) (a : Acted) → hostile.or_leaves s a ≡ Plays t → a ≡ Plays t
  unfolding hostile.or_leaves
  plays_on s t (Plays x) e = e
  plays_on s t (Breaks c k x) e = cc

  doing_reached : (d : Doing) (k : ℕ) (s t : Scene) → R s.world → hostile.does play d k s ≡ Plays t → R t.world
  unfolding hostile.does
  doing_reached d k s t r e = tried_reached d k s t r (plays_on s t (hostile.tries play d k s) e)

  then_reached : (t : Scene) (a : Acted) (f : Scene → Acted) → ((s : Scene) → a ≡ Plays s → R s.world) → ((s : Scene) → R s.world → f s ≡ Plays t → R t.world) → hostile.then_plays a f ≡ Plays t → R t.world
  unfolding hostile.then_plays
  then_reached t (Plays s) f a b e = b s (a s refl) e
  then_reached t (Breaks c k s) f a b e = cc

  pub all_reached : (ds : List Doing) (k : ℕ) (s t : Scene) → R s.world → hostile.does_all play ds k s ≡ Plays t → R t.world
  unfolding hostile.does_all
  all_reached [] k s t r e = is_reached s.world t.world (ap (λ (x : Scene). x.world) (plays_is s t e)) r
  all_reached (d ∷ ds) k s t r e = then_reached t (hostile.does play d k s) (hostile.does_all play ds (suc k)) (λ x i. doing_reached d k s x r i) (λ x a i. all_reached ds (suc k) x t a i) e

  -- ---- the opening turns

  opens_one : (front rest : List Program) (p : Program) (s t : Scene) → play.script.vats ≡ front ++ p ∷ rest → R s.world → (b : Bool) → is_hostile play (length front) ≡ b → hostile.opens play b (length front) p s ≡ Plays t → R t.world
  unfolding hostile.opens
  opens_one front rest p s t i r true h e = is_reached s.world t.world (ap (λ (x : Scene). x.world) (plays_is s t e)) r
  opens_one front rest p s t i r false h e = acted_reached _ s t [] _ (λ y j. on s.world y r (Usual (Opened front rest p (honest_is (is_hostile play (length front)) h) i j))) e

  pub opens_reached : (front ps rest : List Program) (s t : Scene) → play.script.vats ≡ front ++ (ps ++ rest) → R s.world → hostile.opens_from play (length front) ps s ≡ Plays t → R t.world
  unfolding hostile.opens_from
  opens_reached front [] rest s t i r e = is_reached s.world t.world (ap (λ (x : Scene). x.world) (plays_is s t e)) r
  opens_reached front (p ∷ ps) rest s t i r e = then_reached t (hostile.opens play (is_hostile play (length front)) (length front) p s) (hostile.opens_from play (suc (length front)) ps) (λ x j. opens_one front (ps ++ rest) p s x i r (is_hostile play (length front)) refl j)
      (λ x a j. opens_reached (front ++ p ∷ []) ps rest x t (i ∙ sym (append_assoc front (p ∷ []) (ps ++ rest))) a (rw (sym (length_end front p)) at j)) e

on_reached : (play : Play) (w y : World) → IsReached play w → Moves play w y → IsReached play y
on_reached play w y r m = (w ∷ r.0, (m, r.1))

started : (play : Play) → IsReached play (hostile.starts play).world
unfolding hostile.starts
started play = ([], refl)

pub hostile_reached : HostileRunsAreReached
hostile_reached play who bad = (
  λ ps rest s i e. opens_reached play who bad (IsReached play) (on_reached play) [] ps rest (hostile.starts play) s i (started play) e,
  λ s t ds k e i. all_reached play who bad (IsReached play) (on_reached play) ds k s t (opens_reached play who bad (IsReached play) (on_reached play) [] play.script.vats [] (hostile.starts play) s (sym (append-nil play.script.vats)) (started play) e) i,
)
