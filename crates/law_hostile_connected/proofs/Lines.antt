-- Each world of a run with hostile vats has nothing live, and each line of its history is connected.
use Rattle.std.proofs.Common.{◌≡◌, ℕ, zero, suc, Bool, true, false, List, [], ◌∷◌, ◌++◌, Option, Some, None, refl, sym, ap, ◌∙◌, subst, length, inl, inr, ◌⊎◌}
use Rattle.std.specs.Prelude.{slice_get}
use Rattle.def_machine.specs.Values.{Name, Root, host_of, naming, name_of, answer_of, mail_of}
use Rattle.def_machine.specs.State.{Message, Thing, Made, Note, Deliver, Happened, Vat, Done, Gives, ◌>>=◌, ◌>>◌, and_then, give, new_thing, new_promise, new_message, new_lone_message, come, mail, send_out}
use Rattle.def_machine.specs.Arrive as arrive
use Rattle.def_machine.specs.Arrive.{Old, New}
use Rattle.law_machine.specs.Machine.Steps.{Step, Opens as Starts, Takes, Receives, Notices, does, After}
use Rattle.law_machine.specs.Run.Moves.{went, without}
use Rattle.law_adversary.specs.Moves.{entered_at, sight_at}
use Rattle.def_run.specs.Deeds.{Deed, NewObject, NewPromise, NewMessage, NewLone, Learns, perform, perform_all, hear, hear_message}
use Rattle.def_run.specs.World as world
use Rattle.def_run.specs.World.{Script, Program, Opens, Entry, Turn, Carry, CutLink, NoticeLink, Event, Here, Turned, Carried, NoticedAt, CutAt, Idle, Link, World, Goes, names, names_of, readied, read_note}
use Rattle.def_hostile.specs.Hostile.{Play}
use Rattle.law_uses.specs.Connectivity.Known.{IsAmong, Holdings}
use Rattle.law_uses.specs.Connectivity.Connected.{LineWell, ConnectedAfter, Connected, held_from}
use Rattle.law_uses.specs.Connectivity.Liveness.{live_at, is_live, WasLive, LeavesDead}
use Rattle.law_uses.specs.Connectivity.Runs.{NothingLive}
use Rattle.law_uses.specs.Connectivity.Begotten.{AreRoots}
use Rattle.law_uses.proofs.Connectivity.StepDies.{steps_leave_dead}
use Rattle.law_uses.proofs.Connectivity.RunDies.{opened_still}
use Rattle.law_uses.proofs.Connectivity.FineSteps.{steps_connect}
use Rattle.law_uses.proofs.Connectivity.FineRuns.{own_spots}
use Rattle.law_uses.proofs.Connectivity.Events.{among_either, events_here, IsNobodys, nobodys_join, lost_on_nobodys}
use Rattle.law_uses.proofs.Connectivity.RunStems.{put_each, one_line}
use Rattle.law_reference.proofs.Reference.Moves.{get_mid}
use Rattle.law_injected.specs.HostileRuns.{IsHostile}
use Rattle.law_scenes.specs.Doings.{IsQuiet, IsOwn, Swallowing, Receiving, Saying, IsReal, start, opened, entered, happened, swallowed, received, said}
use Rattle.law_scenes.proofs.Said.{hear_inert}
use Rattle.law_scenes.proofs.Scenes.{put_went, said_history}
use Rattle.law_scenes.proofs.Received.{Came, came}
use Rattle.law_hostile_connected.specs.Connected.{IsTaken, IsConnected, LinesConnected}

-- ---- lists

joined : {A : Type 0} (xs ys zs : List A) → (xs ++ ys) ++ zs ≡ xs ++ (ys ++ zs)
joined [] ys zs = refl
joined (x ∷ xs) ys zs = ap (λ r. x ∷ r) (joined xs ys zs)

end_none : {A : Type 0} (xs : List A) → xs ++ [] ≡ xs
end_none [] = refl
end_none (x ∷ xs) = ap (λ r. x ∷ r) (end_none xs)

-- where a line stands among connected lines, and that it is well there
module _ (play : Play) (v : ℕ) (h : Holdings Name Name) where
  abbrev StandsIn : List (Happened Name) → List (Happened Name) → Happened Name → Type 0
  StandsIn so es e = (s : List (Happened Name)) × (rest : List (Happened Name)) × (es ≡ s ++ e ∷ rest) × LineWell (names play.script v) h (so ++ s) e

  stands : (so es : List (Happened Name)) (e : Happened Name) → ConnectedAfter (names play.script v) h so es → IsAmong e es → StandsIn so es e
  stands so [] e c i = absurd i
  stands so (x ∷ es) e c (inl i) = ([], es, ap (λ z. z ∷ es) (sym i), subst (λ z. LineWell (names play.script v) h (so ++ []) z) (sym i) (subst (λ z. LineWell (names play.script v) h z x) (sym (end_none so)) c.0))
  stands so (x ∷ es) e c (inr i) = let r = stands (so ++ x ∷ []) es e c.1 i in (x ∷ r.0, r.1, ap (λ z. x ∷ z) r.2, subst (λ z. LineWell (names play.script v) h z e) (joined so (x ∷ []) r.0) r.3)

-- ---- what is live

not_true : (b : Bool) → (b ≡ true → ⊥) → b ≡ false
not_true true f = absurd (f refl)
not_true false f = refl

false_true : (b : Bool) → b ≡ false → b ≡ true → ⊥
false_true b e f = cc

still_after : (s t : Vat Name) → WasLive s t → ((i : ℕ) → live_at s.things i ≡ false) → (i : ℕ) → live_at t.things i ≡ false
still_after s t r h i = not_true (live_at t.things i) (λ e. false_true (live_at s.things i) (h i) (r i e))

-- an object that is made is not live
no_more_live : (ts : List (Thing Name)) (i : ℕ) → live_at (ts ++ Made zero [] [] ∷ []) i ≡ true → live_at ts i ≡ true
unfolding live_at is_live
no_more_live [] zero e = cc
no_more_live [] (suc i) e = e
no_more_live (t ∷ ts) zero e = e
no_more_live (t ∷ ts) (suc i) e = no_more_live ts i e

module _ (script : Script) (v : ℕ) where
  given : (a x b : Vat Name) → Gives (tt {0}) x ≡ Gives (tt {0}) b → WasLive a x → WasLive a b
  given a x b e h = let same : x ≡ b = cc in rw same at h

  learnt_live : (n : Name) (a b : Vat Name) (c : Bool) → and_then {B = Unit {0}} (arrive.learn_name (names script v) (elim c [ true ↦ Old n | false ↦ New n (host_of n) ]) a) (λ _. give (tt {0})) ≡ Gives (tt {0}) b → WasLive a b
  unfolding and_then give arrive.learn_name come names naming name_of
  learnt_live n a b true e = given a a b e (λ i h. h)
  learnt_live n a b false e = given a _ b e (λ i h. h)

  deed_live : (d : Deed) (a b : Vat Name) → perform script v d a ≡ Gives tt b → WasLive a b
  unfolding perform names names_of ◌>>◌ world.read_name and_then new_thing new_promise new_message new_lone_message give naming name_of mail_of answer_of
  deed_live NewObject a b e = given a _ b e (λ i h. no_more_live a.things i h)
  deed_live NewPromise a b e = given a _ b e (λ i h. h)
  deed_live (NewMessage u) a b e = given a _ b e (λ i h. h)
  deed_live NewLone a b e = given a _ b e (λ i h. h)
  deed_live (Learns n) a b e = learnt_live n a b _ e

  then_gives : (d : Done Name (Unit {0})) (f : Vat Name → Done Name (Unit {0})) (t : Vat Name) → and_then d (λ _. f) ≡ Gives tt t → (r : Vat Name) × (d ≡ Gives tt r) × (f r ≡ Gives tt t)
  unfolding and_then
  then_gives (Gives a r) f t e = (r, refl, e)
  then_gives other f t e = cc

  deeds_live : (ds : List Deed) (a b : Vat Name) → perform_all script v ds a ≡ Gives tt b → WasLive a b
  unfolding perform_all ◌>>◌ give
  deeds_live [] a b e = given a a b e (λ i h. h)
  deeds_live (d ∷ ds) a b e = let r = then_gives (perform script v d a) (perform_all script v ds) b e in λ i h. deed_live d a r.0 r.1 i (deeds_live ds r.0 b r.2 i h)

  mailed : (a b : Vat Name) (m : Name) → WasLive (record a { mails = a.mails ++ m ∷ [] }) b → WasLive a b
  mailed a b m h = h

  message_live : (m : Name) (asks : Bool) (a b : Vat Name) → hear_message script v m asks a ≡ Gives (tt {0}) b → WasLive a b
  unfolding hear_message ◌>>=◌ ◌>>◌ and_then give arrive.learn_message mail names naming mail_of
  message_live m true a b e = mailed a b m (deed_live (Learns (answer_of v m)) (record a { mails = a.mails ++ m ∷ [] }) b e)
  message_live m false a b e = let c : Vat Name = record a { mails = a.mails ++ m ∷ [] } in mailed a b m (given c c b e (λ i h. h))

  hear_live : (n : Note Name) (a b : Vat Name) → hear script v n a ≡ Gives tt b → WasLive a b
  unfolding hear give
  hear_live (Deliver d y verb ys) a b e = message_live d.message d.asks a b e
  hear_live other a b e = given a a b e (λ i h. h)

  sent_live : (u : ℕ) (n : Note Name) (t r : Vat Name) → send_out u n t ≡ Gives tt r → WasLive t r
  unfolding send_out
  sent_live u n t r e = given t _ r e (λ i h. h)

  ready_live : (w : World) (s t : Vat Name) → WasLive (readied w s) t → WasLive s t
  unfolding readied
  ready_live w s t h = h

-- ---- in a world

module _ (play : Play) where
  abbrev script : Script
  script = play.script

  -- nothing is live, and each line is connected
  pub record WorldKnows (w : World) : Type 0 where
    pub still : NothingLive w
    pub lines : LinesConnected play w

  longer : (w x : World) (more : List Event) → x.history ≡ w.history ++ more → (v : ℕ) (e : Happened Name) → IsConnected play w v e → IsConnected play x v e
  longer w x more i v e c = let l = c.0 in (
    record {
      step = l.step;
      from = l.from;
      vat = l.vat;
      queue = l.queue;
      drawn = l.drawn;
      before = l.before;
      after = l.after;
      so = l.so;
      rest = l.rest;
      links = l.links;
      head = l.head;
      later = l.later ++ more;
      honest = l.honest;
      real = l.real;
      here = l.here;
      taken = l.taken;
      ready = l.ready;
      stepped = l.stepped;
      together = i ∙ ap (λ z. z ++ more) l.together ∙ joined (l.from.history ++ l.head ++ world.events_of l.links v l.after.happened) l.later more;
      told = l.told;
    },
    c.1,
  )

  old_line : (w x : World) (more : List Event) → x.history ≡ w.history ++ more → LinesConnected play w → ((u : ℕ) (e : Happened Name) → IsAmong (Here u e) more → IsConnected play x u e) → LinesConnected play x
  old_line w x more i h new u e m = either (among_either (Here u e) w.history more (subst (λ z. IsAmong (Here u e) z) i m))
    where
      either : IsAmong (Here u e) w.history ⊎ IsAmong (Here u e) more → IsConnected play x u e
      either (inl n) = longer w x more i u e (h u e n)
      either (inr n) = new u e n

  -- lines of no vat, where at most one vat changes, in which nothing comes to be live
  moved_knows : (w x : World) (more : List Event) → x.history ≡ w.history ++ more → NothingLive x → IsNobodys more → WorldKnows w → WorldKnows x
  moved_knows w x more i still none h = record { still = still; lines = old_line w x more i h.lines (λ u e m. absurd (none u e m)) }

  put_still : (w x : World) (v : ℕ) (s t : Vat Name) → slice_get w.vats v ≡ Some s → x.vats ≡ world.put_at v t w.vats → WasLive s t → NothingLive w → NothingLive x
  put_still w x v s t at e dies h u q f = put_each (λ n z. (i : ℕ) → live_at z.things i ≡ false) v t w.vats (still_after s t dies (h v s at)) h u q (subst (λ vs. slice_get vs u ≡ Some q) e f)

  same_still : (w x : World) → x.vats ≡ w.vats → NothingLive w → NothingLive x
  same_still w x e h u q f = h u q (subst (λ vs. slice_get vs u ≡ Some q) e f)

  -- a step of an honest vat
  module _ (w x z : World) (v : ℕ) (s t : Vat Name) (queue : List (Message Name)) (head : List Event) (links : List Link) (step : Step Name Name) (real : IsReal play w) (honest : IsHostile play v → ⊥) (at : slice_get w.vats v ≡ Some s)
      (taken : IsTaken play w v s queue t head x step) (gives : does (names script v) step (readied x (record s { queue = queue })) ≡ Gives tt t) where
    abbrev Ready : Vat Name
    Ready = readied x (record s { queue = queue })

    quiet : Ready.happened ≡ []
    unfolding readied
    quiet = refl

    ready_still : NothingLive w → (i : ℕ) → live_at Ready.things i ≡ false
    unfolding readied
    ready_still h i = h v s at i

    dies : WasLive s t
    unfolding readied
    dies = subst (λ d. LeavesDead Ready d) gives (steps_leave_dead (names script v) step Ready)

    pub connected : NothingLive w → Connected (names script v) (held_from step Ready t) t.happened
    connected h = subst (λ d. After (λ a b. Connected (names script v) (held_from step a b) b.happened) Ready d) gives (steps_connect (names script v) (own_spots script v) step Ready quiet (ready_still h))

    -- the world behind its lines
    stepped_knows : z.history ≡ w.history ++ head ++ world.events_of links v t.happened → z.vats ≡ world.put_at v t w.vats → IsNobodys head → WorldKnows w → WorldKnows z
    stepped_knows i j none h = record { still = put_still w z v s t at j dies h.still; lines = old_line w z (head ++ world.events_of links v t.happened) (i ∙ joined w.history head (world.events_of links v t.happened)) h.lines (λ u e m. new u e (among_either (Here u e) head (world.events_of links v t.happened) m)) }
      where
        here : (e : Happened Name) → IsAmong e t.happened → IsConnected play z v e
        here e m = let p = stands play v (held_from step Ready t) [] t.happened e (connected h.still) m in (
          record {
            step = step;
            from = w;
            vat = s;
            queue = queue;
            drawn = x;
            before = Ready;
            after = t;
            so = p.0;
            rest = p.1;
            links = links;
            head = head;
            later = [];
            honest = honest;
            real = real;
            here = at;
            taken = taken;
            ready = refl;
            stepped = gives;
            together = i ∙ sym (end_none _);
            told = p.2;
          },
          p.3,
        )

        new : (u : ℕ) (e : Happened Name) → IsAmong (Here u e) head ⊎ IsAmong (Here u e) (world.events_of links v t.happened) → IsConnected play z u e
        new u e (inl m) = absurd (none u e m)
        new u e (inr m) = let g = events_here links v u e t.happened m in subst (λ k. IsConnected play z k e) (sym g.0) (here e g.1)

  -- ---- what the moves are

  went_is : (v : ℕ) (w : World) (head : List Event) (t : Vat Name) → ((went v w head t).history ≡ w.history ++ head ++ world.events_of w.links v t.happened) × ((went v w head t).vats ≡ world.put_at v t w.vats)
  unfolding went
  went_is v w head t = (refl, refl)

  alone_knows : (v : ℕ) (w y : World) (head : List Event) (n : ℕ) (step : Step Name Name) (s : Vat Name) (queue : List (Message Name)) → IsReal play w → (IsHostile play v → ⊥) → slice_get w.vats v ≡ Some s → ((t : Vat Name) → IsTaken play w v s queue t head w step) → IsNobodys head
      → world.within v w head n (does (names script v) step) (Some (record s { queue = queue })) ≡ Goes y → WorldKnows w → WorldKnows y
  unfolding world.within
  alone_knows v w y head n step s queue real o at taken none i h = let g = put_went v w y head n _ i in let k = went_is v w head g.0 in
      stepped_knows w w y v s g.0 queue head w.links step real o at (taken g.0) g.1 (ap (λ (z : World). z.history) g.2 ∙ k.0) (ap (λ (z : World). z.vats) g.2 ∙ k.1) none h

  going_is : (w y : World) → Goes w ≡ Goes y → y ≡ w
  going_is w y e = cc

  -- a vat is given the roots of those that it knows
  roots_given : (ps : List Program) (ws : List ℕ) → AreRoots ps ws (world.given ps ws)
  unfolding world.given
  roots_given ps [] = tt
  roots_given ps (w ∷ ws) = (refl, roots_given ps ws)

  open_at : (v : ℕ) (p : Program) (w y : World) (o : Option (Vat Name)) → IsReal play w → (IsHostile play v → ⊥) → slice_get script.vats v ≡ Some p → slice_get w.vats v ≡ o → world.within v w (Opens v ∷ []) v (does (names script v) (Starts p.tree script.depth (Root v) (world.given script.vats p.knows))) o ≡ Goes y → WorldKnows w → WorldKnows y
  unfolding world.within
  open_at v p w y None real o q at i h = cc
  open_at v p w y (Some s) real o q at i h = alone_knows v w y (Opens v ∷ []) v (Starts p.tree script.depth (Root v) (world.given script.vats p.knows)) s s.queue real o at (λ t. (p, refl, refl, q, refl, refl, refl, refl, roots_given script.vats p.knows)) (one_line (Opens v) (λ u f e. cc)) i h

  opened_knows : (v : ℕ) (p : Program) (w y : World) → IsReal play w → (IsHostile play v → ⊥) → slice_get script.vats v ≡ Some p → world.open_vat script v p w ≡ Goes y → WorldKnows w → WorldKnows y
  unfolding world.open_vat does
  opened_knows v p w y real o q i h = open_at v p w y (slice_get w.vats v) real o q refl i h

  idle_knows : (k : ℕ) (w y : World) → world.idle script k w ≡ Goes y → WorldKnows w → WorldKnows y
  unfolding world.idle
  idle_knows k w y i h = let e = going_is _ y i in moved_knows w y (Idle k ∷ []) (ap (λ (z : World). z.history) e) (same_still w y (ap (λ (z : World). z.vats) e) h.still) (one_line (Idle k) (λ u f e. cc)) h

  queue_knows : (k v : ℕ) (w y : World) (s : Vat Name) (ms : List (Message Name)) → IsReal play w → (IsHostile play v → ⊥) → slice_get w.vats v ≡ Some s → s.queue ≡ ms → world.turn_queue script k v w s ms ≡ Goes y → WorldKnows w → WorldKnows y
  unfolding world.turn_queue does
  queue_knows k v w y s [] real o at q i h = idle_knows k w y i h
  queue_knows k v w y s (m ∷ ms) real o at q i h = alone_knows v w y (Turned k v ∷ []) (world.step_number script k) (Takes (world.tree_at script.vats v) script.depth m) s ms real o at (λ t. (k, refl, refl, q, refl, refl)) (one_line (Turned k v) (λ u f e. cc)) i h

  turn_knows : (k v : ℕ) (w y : World) (o : Option (Vat Name)) → IsReal play w → (IsHostile play v → ⊥) → slice_get w.vats v ≡ o → world.turn script k v w o ≡ Goes y → WorldKnows w → WorldKnows y
  unfolding world.turn
  turn_knows k v w y None real o at i h = idle_knows k w y i h
  turn_knows k v w y (Some s) real o at i h = queue_knows k v w y s s.queue real o at refl i h

  notice_knows : (k v u : ℕ) (w y : World) (o : Option (Vat Name)) → IsReal play w → (IsHostile play v → ⊥) → slice_get w.vats v ≡ o → world.within v w (NoticedAt k v u ∷ []) (world.step_number script k) (does (names script v) (Notices u)) o ≡ Goes y → WorldKnows w → WorldKnows y
  unfolding world.within
  notice_knows k v u w y None real o at i h = cc
  notice_knows k v u w y (Some s) real o at i h = alone_knows v w y (NoticedAt k v u ∷ []) (world.step_number script k) (Notices u) s s.queue real o at (λ t. (k, refl, refl, refl)) (one_line (NoticedAt k v u) (λ z f e. cc)) i h

  cut_knows : (k v u : ℕ) (w y : World) → world.cut script k v u w ≡ Goes y → WorldKnows w → WorldKnows y
  unfolding world.cut
  cut_knows k v u w y i h = let e = going_is _ y i in
      moved_knows w y (CutAt k v u ∷ (world.lost_on script (world.link_at v u w.links) ++ world.lost_on script (world.link_at u v w.links))) (ap (λ (z : World). z.history) e) (same_still w y (ap (λ (z : World). z.vats) e) h.still)
      (nobodys_join (CutAt k v u ∷ []) (world.lost_on script (world.link_at v u w.links) ++ world.lost_on script (world.link_at u v w.links)) (one_line (CutAt k v u) (λ z f e. cc))
      (nobodys_join (world.lost_on script (world.link_at v u w.links)) (world.lost_on script (world.link_at u v w.links)) (lost_on_nobodys script (world.link_at v u w.links)) (lost_on_nobodys script (world.link_at u v w.links)))) h

  entered_knows : (entry : Entry) (k : ℕ) (w y : World) → IsReal play w → IsOwn play entry → world.step script entry k w ≡ Goes y → WorldKnows w → WorldKnows y
  unfolding world.step does
  entered_knows (Turn v) k w y real o i h = turn_knows k v w y (slice_get w.vats v) real o refl i h
  entered_knows (Carry v u) k w y real o i h = absurd o
  entered_knows (CutLink v u) k w y real o i h = cut_knows k v u w y i h
  entered_knows (NoticeLink v u) k w y real o i h = notice_knows k v u w y (slice_get w.vats v) real o refl i h

  -- ---- lines that tell of no message, and what hostile vats do

  quiet_nobodys : (e : Event) → IsQuiet e → IsNobodys (e ∷ [])
  quiet_nobodys (Idle k) q = one_line (Idle k) (λ u f e. cc)
  quiet_nobodys (NoticedAt k v u) q = one_line (NoticedAt k v u) (λ z f e. cc)
  quiet_nobodys (Carried k v u n bytes) q = one_line (Carried k v u n bytes) (λ z f e. cc)
  quiet_nobodys other q = absurd q

  happened_knows : (e : Event) (w : World) → IsQuiet e → WorldKnows w → WorldKnows (record w { history = w.history ++ e ∷ [] })
  happened_knows e w q h = let y : World = record w { history = w.history ++ e ∷ [] } in moved_knows w y (e ∷ []) refl (same_still w y refl h.still) (quiet_nobodys e q) h

  without_is : (v u : ℕ) (ns : List (Note Name)) (w : World) → ((without v u ns w).history ≡ w.history) × ((without v u ns w).vats ≡ w.vats)
  unfolding without
  without_is v u ns w = (refl, refl)

  -- a vat that tells nothing, behind the line that a note came to it
  silent_history : (u : ℕ) (w z y : World) (head : List Event) (t : Vat Name) → z.history ≡ w.history → t.happened ≡ [] → y.history ≡ (went u z head t).history → y.history ≡ w.history ++ head
  unfolding world.events_of
  silent_history u w z y head t i none e = e ∙ (went_is u z head t).0 ∙ ap (λ hs. hs ++ head ++ world.events_of z.links u t.happened) i ∙ ap (λ es. w.history ++ head ++ world.events_of z.links u es) none ∙ end_none (w.history ++ head)

  ready_quiet : (w : World) (s t : Vat Name) → t.happened ≡ (readied w s).happened → t.happened ≡ []
  unfolding readied
  ready_quiet w s t e = e

  swallowed_knows : (k v u : ℕ) (w y : World) (n : Note Name) (ns : List (Note Name)) → Swallowing play k v u w y n ns → WorldKnows w → WorldKnows y
  swallowed_knows k v u w y n ns s h = let z : World = without v u ns w in let head : List Event = Carried k v u n (world.next_frame v u w.connections) ∷ [] in let t : Vat Name = s.after in let out = without_is v u ns w in
      let quiet = ready_quiet w s.before t (hear_inert script u (Root 0) n (readied w s.before) t s.hears).happened in
      moved_knows w y head (silent_history u w z y head t out.0 quiet (ap (λ (x : World). x.history) s.is))
      (put_still w y u s.before t s.there (ap (λ (x : World). x.vats) s.is ∙ (went_is u z head t).1 ∙ ap (world.put_at u t) out.1) (ready_live script u w s.before t (hear_live script u n (readied w s.before) t s.hears)) h.still)
      (one_line _ (λ z f e. cc)) h

  said_knows : (h u : ℕ) (w y : World) → Saying play h u w y → WorldKnows w → WorldKnows y
  said_knows h u w y s g = let q : Vat Name = (s.spoken).record_of in
      moved_knows w y [] (said_history play h u w y s ∙ sym (end_none w.history))
      (put_still w y h q s.after (s.spoken).speaks (ap (λ (x : World). x.vats) s.is ∙ (went_is h w [] s.after).1)
      (ready_live script h w q s.after (λ i e. deeds_live script h _ (readied w q) s.ready (s.spoken).prepares i (sent_live script h u s.note s.ready s.after s.sends i e))) g.still)
      (λ z f e. e) g

  -- ---- a note comes to an honest vat

  same_live : (w : World) (s t : Vat Name) → t ≡ readied w s → WasLive s t
  unfolding readied
  same_live w s t e i a = subst (λ (q : Vat Name). live_at q.things i ≡ true) e a

  received_knows : (k v u : ℕ) (w y : World) (l : Link) (n : Note Name) (ns : List (Note Name)) → world.link_at v u w.links ≡ Some l → l.cut ≡ false → l.notes ≡ n ∷ ns → IsReal play w → Receiving play k v u w y n ns → WorldKnows w → WorldKnows y
  received_knows k v u w y l n ns i c j real r h = either (came play w u s v (sight_at w v u s) t m r.receives)
    where
      s : Vat Name
      s = r.before

      t : Vat Name
      t = r.after

      m : Note Name
      m = entered_at w v u s n

      z : World
      z = without v u ns w

      head : List Event
      head = Carried k v u m (world.next_frame v u w.connections) ∷ []

      told : y.history ≡ (went u z head t).history
      told = ap (λ (x : World). x.history) r.is

      vats : y.vats ≡ world.put_at u t w.vats
      vats = ap (λ (x : World). x.vats) r.is ∙ (went_is u z head t).1 ∙ ap (world.put_at u t) (without_is v u ns w).1

      none : IsNobodys head
      none = one_line _ (λ z f e. cc)

      either : Came play w u s v (sight_at w v u s) t m → WorldKnows y
      either (inl e) = moved_knows w y head (silent_history u w z y head t (without_is v u ns w).0 (ready_quiet w s t (ap (λ (q : Vat Name). q.happened) e)) told) (put_still w y u s t r.there vats (same_live w s t e) h.still) none h
      either (inr (x, a, how, gives)) = stepped_knows w x y u s t s.queue head z.links (Receives v (read_note (names_of s) a)) real r.honest r.there
          (k, l, n, ns, a, refl, refl, i, c, j, r.receives, how, refl) gives
          (told ∙ (went_is u z head t).0 ∙ ap (λ hs. hs ++ head ++ world.events_of z.links u t.happened) (without_is v u ns w).0) vats none h

  -- ---- each world of a run

  begins_knows : WorldKnows (world.begins script)
  unfolding world.open_from world.begins
  begins_knows = record { still = opened_still script [] (world.begins script) refl; lines = λ v e m. absurd m }

  program_at : (front rest : List Program) (p : Program) → script.vats ≡ front ++ p ∷ rest → slice_get script.vats (length front) ≡ Some p
  program_at front rest p i = subst (λ ps. slice_get ps (length front) ≡ Some p) (sym i) (get_mid front p rest)

  pub real_knows : {w : World} → IsReal play w → WorldKnows w
  real_knows start = begins_knows
  real_knows (opened {w = w} {x = x} front rest p o i r e) = opened_knows (length front) p w x r o (program_at front rest p i) e (real_knows r)
  real_knows (entered {w = w} {x = x} entry k o r e) = entered_knows entry k w x r o e (real_knows r)
  real_knows (happened {w = w} e q r) = happened_knows e w q (real_knows r)
  real_knows (swallowed {w = w} {x = x} k v u l n ns i c j r s) = swallowed_knows k v u w x n ns s (real_knows r)
  real_knows (received {w = w} {x = x} k v u l n ns i c j r s) = received_knows k v u w x l n ns i c j r s (real_knows r)
  real_knows (said {w = w} {x = x} h u r s) = said_knows h u w x s (real_knows r)
