-- In each world of a run in which frames are injected what each move keeps holds.
use Rattle.std.proofs.Common.{◌≡◌, ℕ, ◌≤◌, zero, suc, ◌+◌, Bool, true, false, List, [], ◌∷◌, ◌++◌, Some, refl, sym, subst, arith}
use Rattle.std.specs.Prelude.{slice_get, ◌==◌, map}
use Rattle.def_op.specs.Frames.{Operation}
use Rattle.def_machine.specs.Values.{Name, Root, host_of}
use Rattle.def_machine.specs.State.{Note, Put, Vat, Gives, send_out, begun, is_in}
use Rattle.def_run.specs.Deeds.{hear}
use Rattle.def_run.specs.Wire.{Connected, connected_at, with_connected}
use Rattle.def_run.specs.World as world
use Rattle.def_run.specs.World.{Script, Program, Event, Carried, Link, World, put_at, readied, names, names_of, read_note, link_at, next_frame, with_link, with_notes}
use Rattle.def_hostile.specs.Hostile.{Play, said_on}
use Rattle.law_machine.specs.Machine.Steps.{Receives, does}
use Rattle.law_machine.specs.Run.Moves.{AnyNotice, Moved, Still, Severs, Drops, Steps, Arrives, Hears, Tells, Does, went, without}
use Rattle.law_machine.proofs.Run.Told.{moves_told}
use Rattle.law_adversary.specs.Moves.{FrameMove, Usual, Recorded, Framed, Received, entered_at, sight_at, framed_on}
use Rattle.law_adversary.proofs.Lift.{frames_lifted}
use Rattle.law_fate.specs.Name.Names.{Bit, Named, AllOf, IsAmong, NoteOk, Parts, KnownOk, Everywhere}
use Rattle.law_fate.proofs.Name.Facts.{all_end, all_append, all_map, all_so, note_up}
use Rattle.law_fate.proofs.Name.Run.{fresh_at}
use Rattle.law_reference.specs.Reference.Notes.{IsBetween, LinkFits as BetweenEnds}
use Rattle.law_reference.specs.Reference.Own.{Own}
use Rattle.law_reference.proofs.Reference.NotesLift.{links_from_fit}
use Rattle.law_reference.proofs.Reference.OwnRuns.{begins_own}
use Rattle.law_hostile.proofs.Comes.{comes}
use Rattle.law_injected.proofs.HostileReached.{hostile_reached}
use Rattle.law_injected.specs.HostileRuns.{AnyDeed, NothingSaid, IsHostile, IsSpoken, IsReached}
use Rattle.law_lawful.specs.Claims.{WasMade, IsMade}
use Rattle.law_lawful.specs.Lawful.{AnyWord, IsMadeIn, InScenes, NamesWereMade, WhatAnHonestVatHasIsItsOwn, NotesNameWhatWasMade, NotesNameTheirEnds, TablesNameTheirEnds, WhatIsSpokenIsBetween}
use Rattle.law_lawful.specs.Tables.{IsOf, TablesFit}
use Rattle.law_lawful.proofs.Claimed.{ok_up, grows_same}
use Rattle.law_lawful.proofs.Heard.{OpClaims}
use Rattle.law_lawful.proofs.Moved.{left_fits, cut_fits, alone_fits, arrived_fits, received_fits, heard_quiet, heard_fits, sent_is}
use Rattle.law_lawful.proofs.Spoken.{Fine, counts, news_fit, spoken_fine}
use Rattle.law_lawful.proofs.Steps.{MadeIn, NoteFits, LinkFits, Fits, beside_fits, went_fits, made_next, tables_next}
use Rattle.law_lawful.proofs.Tables.{any_op, framed_fits}

module _ (play : Play) (Claim : ℕ → Type 0) (claims : (w : World) (h u : ℕ) (t : Vat Name) (n : Note Name) (o : Operation) (new : List Name) → IsSpoken play w h u t n o new → OpClaims Claim o) where
  abbrev F : World → Type 0
  F = Fits play Claim

  is_so : (x y : World) → F x → y ≡ x → F y
  is_so x y h e = subst (λ z. F z) (sym e) h

  -- ---- a note comes to a hostile vat

  no_puts : (P : Put Name → Type 0) (t : Vat Name) → t.outbox ≡ [] → AllOf P t.outbox
  no_puts P t e = subst (λ z. AllOf P z) (sym e) tt

  swallowed_fits : (w : World) (a v k : ℕ) (l : Link) (n : Note Name) (ns : List (Note Name)) (s t : Vat Name) (frame : List ℕ) → F w → IsHostile play v → link_at a v w.links ≡ Some l → l.notes ≡ n ∷ ns → slice_get w.vats v ≡ Some s → hear play.script v n (readied w s) ≡ Gives tt t → F (went v (without a v ns w) (Carried k a v n frame ∷ []) t)
  unfolding readied without
  swallowed_fits w a v k l n ns s t frame h bad i j q f = let left = left_fits play Claim a v l n ns w i j h in let x : World = without a v ns w in let p = heard_quiet play.script v n (readied w s) t f in
      let promises : s.promises ≤ t.promises = let z : s.promises + 0 ≤ t.promises = p.promises in omega arith in let messages : s.messages ≤ t.messages = let z : s.messages + 0 ≤ t.messages = p.messages in omega arith in
      let draws : (y : ℕ) → IsAmong y x.drawn → IsAmong y t.drawn = λ y b. subst (λ z. IsAmong y z) (sym p.drawn) b in
      went_fits play Claim x v s q left.0 t promises messages draws (Carried k a v n frame ∷ []) (λ o. absurd (o bad)) (no_puts _ t p.outbox)
      (heard_fits play Claim x a v n k frame left.1 _ _ (made_next play Claim x v s q left.0 t promises messages draws) x.connections (tables_next play Claim x v s q left.0 t promises messages draws))

  -- ---- a hostile vat says something in a frame

  module _ (w : World) (v u : ℕ) (t : Vat Name) (n : Note Name) (o : Operation) (new : List Name) (h : F w) (bad : IsHostile play v) (x : IsSpoken play w v u t n o new) where
    abbrev s : Vat Name
    s = x.record_of

    abbrev Sent : Vat Name
    Sent = record t { outbox = t.outbox ++ record { to = u; note = n } ∷ [] }

    promises : s.promises ≤ t.promises
    unfolding readied
    promises = let p = counts play Claim w v u t n o new x in let z = p.promises in omega (arith, z)

    messages : s.messages ≤ t.messages
    unfolding readied
    messages = let p = counts play Claim w v u t n o new x in let z = p.messages in omega (arith, z)

    draws : (y : ℕ) → IsAmong y w.drawn → IsAmong y t.drawn
    unfolding readied
    draws y b = let p = counts play Claim w v u t n o new x in subst (λ z. IsAmong y z) (sym p.drawn) b

    quiet : t.outbox ≡ []
    unfolding readied
    quiet = let p = counts play Claim w v u t n o new x in p.outbox

    pub said : Fine play Claim (put_at v t w.vats) t.drawn v u n
    said = spoken_fine play Claim w v u t n o new x (tables_next play Claim w v s x.speaks h t promises messages draws) (claims w v u t n o new x)

    on : (b : Bit Name) → IsMade Claim (put_at v t w.vats) t.drawn b → IsMade Claim (put_at v Sent w.vats) t.drawn b
    on b i = ok_up Claim w.vats v s x.speaks t Sent (grows_same t) b i

    note : NoteOk (IsMade Claim (put_at v Sent w.vats) t.drawn) n × IsBetween v u n
    note = let f = said in (note_up (IsMade Claim (put_at v t w.vats) t.drawn) (IsMade Claim (put_at v Sent w.vats) t.drawn) on n f.0, f.1)

    tables : AllOf (TablesFit (WasMade Claim (put_at v Sent w.vats) t.drawn)) w.connections
    tables = tables_next play Claim w v s x.speaks h Sent promises messages draws

    news : AllOf (IsOf (WasMade Claim (put_at v Sent w.vats) t.drawn) v) new
    news = all_map (λ m k. (k.0, on (Named m) k.1)) new (news_fit play Claim w v u t n o new x)

    gone : F (went v w [] Sent)
    unfolding world.heard_by
    gone = went_fits play Claim w v s x.speaks h Sent promises messages draws [] (λ a. absurd (a bad)) (all_end _ t.outbox _ (no_puts _ t quiet) note) tables

    framed_tables : AllOf (TablesFit (WasMade Claim (went v w [] Sent).vats (went v w [] Sent).drawn)) (with_connected (said_on u o n new) v u w.connections)
    unfolding went
    framed_tables = framed_fits Claim (put_at v Sent w.vats) t.drawn v u o n new w.connections note.0 note.1 news tables

    pub framed : F (framed_on w v u o n new (went v w [] Sent))
    framed = let y : World = went v w [] Sent in beside_fits play Claim y y.history (with_connected (said_on u o n new) v u w.connections) framed_tables gone

  framed_at : (w : World) (v u : ℕ) (t r : Vat Name) (n : Note Name) (o : Operation) (new : List Name) → F w → IsHostile play v → IsSpoken play w v u t n o new → send_out u n t ≡ Gives tt r → F (framed_on w v u o n new (went v w [] r))
  framed_at w v u t r n o new h bad x e = subst (λ z. F (framed_on w v u o n new (went v w [] z))) (sym (sent_is u n t r e)) (framed w v u t n o new h bad x)

  -- ---- each move

  abbrev Usually : World → World → Type 0
  Usually w y = Moved play.script w (IsHostile play) AnyNotice AnyDeed NothingSaid y

  dropped : (w : World) (a v : ℕ) (ns : List (Note Name)) (es : List Event) → F w → F (without a v ns w) → F (record w { links = with_link (with_notes ns) a v w.links; history = w.history ++ es })
  unfolding without
  dropped w a v ns es h g = beside_fits play Claim (without a v ns w) (w.history ++ es) w.connections g.connections g

  arrives_so : (w : World) (a v : ℕ) (s t : Vat Name) (n : Note Name) (ns : List (Note Name)) (k : ℕ) (frame : List ℕ) (l : Link) → F w → (IsHostile play v → ⊥) → link_at a v w.links ≡ Some l → l.notes ≡ n ∷ ns → Does play.script w v s s t (Receives a (read_note (names_of s) n)) → F (went v (without a v ns w) (Carried k a v n frame ∷ []) t)
  unfolding does without readied
  arrives_so w a v s t n ns k frame l h o i j d = let left = left_fits play Claim a v l n ns w i j h in arrived_fits play Claim (without a v ns w) left.0 a v s t d.there o n k frame left.1 n left.1.0 d.gives

  without_is : (w : World) (a v : ℕ) (s t : Vat Name) (ns : List (Note Name)) (head : List Event) → F (went v (without a v ns w) head t) → F (went v (record w { links = with_link (with_notes ns) a v w.links }) head t)
  unfolding without
  without_is w a v s t ns head h = h

  usual_fits : (w y : World) → F w → Usually w y → F y
  usual_fits w y h (Still es e) = is_so _ y (beside_fits play Claim w (w.history ++ es) w.connections h.connections h) e
  usual_fits w y h (Severs k a b e) = cut_fits play Claim k a b w y h e
  usual_fits w y h (Drops a v n ns l es i c j none e) = is_so _ y (dropped w a v ns es h (left_fits play Claim a v l n ns w i j h).0) e
  usual_fits w y h (Steps v s q t what head o alone may quiet d e) = is_so _ y (alone_fits play Claim w v s t head d.there h o quiet q what alone d) e
  usual_fits w y h (Arrives a v s t n ns l k frame o i c j d e) = is_so _ y (without_is w a v s t ns _ (arrives_so w a v s t n ns k frame l h o i j d)) e
  usual_fits w y h (Hears a v s t n ns l k frame bad i c j q f e) = is_so _ y (swallowed_fits w a v k l n ns s t frame h bad i j q f) e
  usual_fits w y h (Tells v u s t r ds n bad i p l f e) = absurd l

  pub move_fits : (w y : World) → F w → FrameMove play.script (IsHostile play) AnyNotice AnyDeed NothingSaid (IsSpoken play) w y → F y
  move_fits w y h (Usual m) = usual_fits w y h (moves_told play.script (IsHostile play) AnyNotice AnyDeed NothingSaid w y m)
  move_fits w y h (Recorded b bad es e) = is_so _ y (beside_fits play Claim w (w.history ++ es) w.connections h.connections h) e
  move_fits w y h (Framed v u s t r ds n o new bad i p x f e) = is_so _ y (framed_at w v u t r n o new h bad x f) e
  move_fits w y h (Received b bad k a v l n ns s t o i c j q f e) = is_so _ y (received_fits play Claim w a v l n ns s t (Carried k a v (entered_at w a v s n) (next_frame a v w.connections) ∷ []) (connected_at a v w.connections).tables.exports (names_of s) h o i j q
      (comes play.script w a v s t n (connected_at a v w.connections).tables.exports (sight_at w a v s) f)) e

-- ---- the start

module _ (play : Play) (Claim : ℕ → Type 0) where
  abbrev Begun : World
  Begun = world.begins play.script

  roots_made : (us : List ℕ) → AllOf (KnownOk (MadeIn play Claim Begun)) (map world.known_root us)
  unfolding world.known_root begun
  roots_made [] = tt
  roots_made (u ∷ us) = ((tt, tt, tt, tt, tt, tt), roots_made us)

  fresh_made : (v : ℕ) (p : Program) → let s : Vat Name = world.fresh play.script v p in Parts (MadeIn play Claim Begun) s.things s.slots s.lists s.queue s.known s.gifts s.outbox
  unfolding world.fresh world.known_root begun
  fresh_made v p = record { things = tt; slots = tt; lists = tt; queue = tt; known = ((tt, tt, tt, tt, tt, all_so (Unit {0}) (world.knowers v zero play.script.vats) tt), roots_made p.knows); gifts = tt; outbox = tt }

  begun_made : (v : ℕ) (s : Vat Name) → slice_get Begun.vats v ≡ Some s → Parts (MadeIn play Claim Begun) s.things s.slots s.lists s.queue s.known s.gifts s.outbox
  unfolding world.begins
  begun_made v s e = let r = fresh_at play.script zero play.script.vats v s e in subst (λ (z : Vat Name). Parts (MadeIn play Claim Begun) z.things z.slots z.lists z.queue z.known z.gifts z.outbox) r.4 (fresh_made r.1 r.0)

  abbrev Tables : Connected → Type 0
  Tables = TablesFit (WasMade Claim Begun.vats Begun.drawn)

  root_if : (v : ℕ) (b : Bool) → AllOf (IsOf (WasMade Claim Begun.vats Begun.drawn) v) (elim b as (λ _. List Name) [ true ↦ Root v ∷ [] | false ↦ [] ])
  unfolding host_of
  root_if v true = ((refl, tt), tt)
  root_if v false = tt

  roots_fit : (v : ℕ) (p : Program) → AllOf (IsOf (WasMade Claim Begun.vats Begun.drawn) v) (world.roots_for v p)
  unfolding world.roots_for
  roots_fit v p = root_if v (is_in v p.knows)

  first_fits : (v w : ℕ) (p q : Program) → Tables (world.first_connection v w p q)
  unfolding world.first_connection
  first_fits v w p q = record { exports = roots_fit v q; imports = roots_fit w p; questions = tt; answers = tt }

  either_fits : (b : Bool) (c : Connected) (cs : List Connected) → Tables c → AllOf Tables cs → AllOf Tables (elim b [ true ↦ cs | false ↦ c ∷ cs ])
  either_fits true c cs h k = k
  either_fits false c cs h k = (h, k)

  to_fit : (v : ℕ) (p : Program) (w : ℕ) (qs : List Program) → AllOf Tables (world.connections_to v p w qs)
  unfolding world.connections_to
  to_fit v p w [] = tt
  to_fit v p w (q ∷ qs) = either_fits (v == w) (world.first_connection v w p q) (world.connections_to v p (suc w) qs) (first_fits v w p q) (to_fit v p (suc w) qs)

  from_fit : (all : List Program) (v : ℕ) (ps : List Program) → AllOf Tables (world.connections_from all v ps)
  unfolding world.connections_from
  from_fit all v [] = tt
  from_fit all v (p ∷ ps) = all_append Tables (world.connections_to v p zero all) (world.connections_from all (suc v) ps) (to_fit v p zero all) (from_fit all (suc v) ps)

  begun_links : AllOf (LinkFits play Claim Begun) Begun.links
  unfolding world.begins
  begun_links = links_from_fit (NoteFits play Claim Begun) play.script.vats zero play.script.vats

  begun_connections : AllOf Tables Begun.connections
  unfolding world.begins
  begun_connections = from_fit play.script.vats zero play.script.vats

  pub begun_fits : Fits play Claim Begun
  begun_fits = record { vats = λ v s e o. record { parts = begun_made v s e; own = begins_own play.script v s e }; links = begun_links; connections = begun_connections }

pub reached_fits : (play : Play) (w : World) → IsReached play w → Fits play AnyWord w
reached_fits play w r = frames_lifted play.script (IsHostile play) AnyNotice AnyDeed NothingSaid (IsSpoken play) (Fits play AnyWord) (begun_fits play AnyWord) (λ x y q h m. move_fits play AnyWord (λ z h u t n o new i. any_op AnyWord z.vats z.drawn o) x y h m) w r

-- what follows in each world that is reached holds in each scene
pub in_scenes : (P : Play → World → Type 0) → ((play : Play) (w : World) → IsReached play w → P play w) → InScenes P
in_scenes P f play h bad = let both = hostile_reached play h bad in (λ ps rest s i e. f play s.world (both.0 ps rest s i e), λ s t ds k i e. f play t.world (both.1 s t ds k i e))

pub names_made : NamesWereMade
names_made = in_scenes (λ play w. (v : ℕ) (s : Vat Name) → slice_get w.vats v ≡ Some s → (IsHostile play v → ⊥) → Everywhere (IsMadeIn w) s) (λ play w r v s e o. ((reached_fits play w r).vats v s e o).parts)

pub own_things : WhatAnHonestVatHasIsItsOwn
own_things = in_scenes (λ play w. (v : ℕ) (s : Vat Name) → slice_get w.vats v ≡ Some s → (IsHostile play v → ⊥) → Own v s) (λ play w r v s e o. let g = ((reached_fits play w r).vats v s e o).own in (g.0, g.1, g.2, g.3))

pub notes_made : NotesNameWhatWasMade
notes_made = in_scenes (λ play w. AllOf (λ l. AllOf (NoteOk (IsMadeIn w)) l.log × AllOf (NoteOk (IsMadeIn w)) l.notes) w.links) (λ play w r. all_map (λ l k. (all_map (λ n i. i.0) l.log k.0, all_map (λ n i. i.0) l.notes k.1)) w.links (reached_fits play w r).links)

pub notes_ends : NotesNameTheirEnds
notes_ends = in_scenes (λ play w. AllOf BetweenEnds w.links) (λ play w r. all_map (λ l k. (all_map (λ n i. i.1) l.log k.0, all_map (λ n i. i.1) l.notes k.1)) w.links (reached_fits play w r).links)

pub tables_ends : TablesNameTheirEnds
tables_ends = in_scenes (λ play w. AllOf (TablesFit (WasMade AnyWord w.vats w.drawn)) w.connections) (λ play w r. (reached_fits play w r).connections)

pub spoken_between : WhatIsSpokenIsBetween
spoken_between play w r h u t n o new bad x = said play AnyWord (λ z h u t n o new i. any_op AnyWord z.vats z.drawn o) w h u t n o new (reached_fits play w r) bad x
