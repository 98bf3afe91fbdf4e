-- Each line of the history of a run is connected in its step, and each message that is taken is begotten by what its sender knew.
use Rattle.std.proofs.Common.{◌+◌, arith, ◌≡◌, ℕ, zero, suc, Bool, true, false, List, [], ◌∷◌, ◌++◌, Option, Some, None, refl, sym, ap, ◌∙◌, subst, ◌⊎◌, inl, inr}
use Rattle.std.specs.Prelude.{slice_get}
use Rattle.def_machine.specs.Values.{Value, Name, Root}
use Rattle.def_machine.specs.State.{Message, Note, Happened, Sends, Reacts, Vat, Done, Gives}
use Rattle.def_machine.specs.Arrive.{notice}
use Rattle.def_machine.specs.Eval.{opening}
use Rattle.law_machine.specs.Machine.Steps.{Step, Opens as Starts, Takes, Receives, Notices, does, After}
use Rattle.def_run.specs.World as world
use Rattle.def_run.specs.World.{Script, Program, Opens, Entry, Turn, Carry, CutLink, NoticeLink, Event, Here, Turned, Idle, Carried, CutAt, NoticedAt, Ends, Link, World, Run, Goes, Stopped, names, names_of, read_note, begins}
use Rattle.law_uses.specs.Connectivity.Known.{Item, AValue, IsAmong, AllOf, Holdings, Knows, by, values}
use Rattle.law_uses.specs.Connectivity.Connected.{uses, itself, LineWell, ConnectedAfter, Connected, held_from}
use Rattle.law_uses.specs.Connectivity.Liveness.{live_at, LeavesDead}
use Rattle.law_uses.specs.Connectivity.Runs.{NothingLive}
use Rattle.law_uses.proofs.Connectivity.StepDies.{steps_leave_dead}
use Rattle.law_uses.proofs.Connectivity.RunDies.{opened_still}
use Rattle.law_uses.proofs.Connectivity.FineSteps.{steps_connect}
use Rattle.law_uses.proofs.Connectivity.FineRuns.{own_spots}
use Rattle.law_fate.specs.Fates.FateRuns.{Reached}
use Rattle.law_fate.proofs.Fates.RunCounts.{pick}
use Rattle.law_uses.specs.Connectivity.Stems as stems
use Rattle.law_uses.specs.Connectivity.Stems.{HasLine, Stems, StemsOrReacts}
use Rattle.law_uses.specs.Connectivity.MessageLaws.{AllStem}
use Rattle.law_uses.specs.Connectivity.Begotten.{AreRoots, IsTaken, IsReached, start, opened, entered, IsConnected, Knew, Begotten, sent, carried, Reacted, LinesConnected, TakenBegotten}
use Rattle.law_uses.proofs.Connectivity.Events.{among_either, events_here, IsNobodys, nobodys_join, lost_on_nobodys, vats_nobodys, links_nobodys}
use Rattle.law_uses.proofs.Connectivity.RunStems.{put_each, one_line, messages_stem, ended_stem}

-- ---- one more line

joined : {A : Type 0} (xs ys zs : List A) → (xs ++ ys) ++ zs ≡ xs ++ (ys ++ zs)
joined [] ys zs = refl
joined (x ∷ xs) ys zs = ap (λ r. x ∷ r) (joined xs ys zs)

end_none : {A : Type 0} (xs : List A) → xs ++ [] ≡ xs
end_none [] = refl
end_none (x ∷ xs) = ap (λ r. x ∷ r) (end_none xs)

-- where a line stands among connected lines, and that it is well there
module _ (script : Script) (v : ℕ) (h : Holdings Name Name) where
  abbrev pub StandsIn : List (Happened Name) → List (Happened Name) → Happened Name → Type 0
  StandsIn so es e = (s : List (Happened Name)) × (rest : List (Happened Name)) × (es ≡ s ++ e ∷ rest) × LineWell (names script v) h (so ++ s) e

  stands : (so es : List (Happened Name)) (e : Happened Name) → ConnectedAfter (names script v) h so es → IsAmong e es → StandsIn so es e
  stands so [] e c i = absurd i
  stands so (x ∷ es) e c (inl i) = ([], es, ap (λ z. z ∷ es) (sym i), subst (λ z. LineWell (names script v) h (so ++ []) z) (sym i) (subst (λ z. LineWell (names script v) h z x) (sym (end_none so)) c.0))
  stands so (x ∷ es) e c (inr i) = let r = stands (so ++ x ∷ []) es e c.1 i in (x ∷ r.0, r.1, ap (λ z. x ∷ z) r.2, subst (λ z. LineWell (names script v) h z e) (joined so (x ∷ []) r.0) r.3)

-- ---- in a world

module _ (script : Script) where
  -- nothing is live, and each line is connected
  pub record WorldKnows (w : World) : Type 0 where
    pub still : NothingLive w
    pub lines : LinesConnected script w

  longer : (w x : World) (more : List Event) → x.history ≡ w.history ++ more → (v : ℕ) (e : Happened Name) → IsConnected script w v e → IsConnected script x v e
  longer w x more i v e c = let l = c.0 in (
    record {
      step = l.step;
      before = l.before;
      after = l.after;
      so = l.so;
      rest = l.rest;
      links = l.links;
      from = l.from;
      vat = l.vat;
      queue = l.queue;
      head = l.head;
      real = l.real;
      here = l.here;
      ready = l.ready;
      taken = l.taken;
      later = l.later ++ more;
      stepped = l.stepped;
      together = i ∙ ap (λ z. z ++ more) l.together ∙ joined (l.from.history ++ l.head ++ world.events_of l.links v l.after.happened) l.later more;
      told = l.told;
    },
    c.1,
  )

  -- lines of no vat
  moved_knows : (w x : World) (more : List Event) → x.history ≡ w.history ++ more → x.vats ≡ w.vats → IsNobodys more → WorldKnows w → WorldKnows x
  moved_knows w x more i j none h = record {
    still = subst (λ vs. (v : ℕ) (s : Vat Name) → slice_get vs v ≡ Some s → (n : ℕ) → live_at s.things n ≡ false) (sym j) h.still;
    lines = λ v e m. longer w x more i v e (h.lines v e (old v e (among_either (Here v e) w.history more (subst (λ z. IsAmong (Here v e) z) i m))));
  }
    where
      old : (v : ℕ) (e : Happened Name) → IsAmong (Here v e) w.history ⊎ IsAmong (Here v e) more → IsAmong (Here v e) w.history
      old v e (inl m) = m
      old v e (inr m) = absurd (none v e m)

  not_true : (b : Bool) → (b ≡ true → ⊥) → b ≡ false
  not_true true f = absurd (f refl)
  not_true false f = refl

  false_true : (b : Bool) → b ≡ false → b ≡ true → ⊥
  false_true b e f = cc

  abbrev Next : ℕ → World → List Event → Vat Name → World
  Next v w head t = record { fuel = t.fuel; drawn = t.drawn; vats = world.put_at v t w.vats; links = world.push_all v t.outbox w.links; connections = world.connections_after v t head w.connections; history = w.history ++ head ++ world.events_of w.links v t.happened }

  -- a vat that is made ready for a step in a world of the run, in which this has happened
  abbrev Real : List Event → ℕ → Vat Name → List Event → Step Name Name → Type 0
  Real es v r head step = (y : World) × (s : Vat Name) × (ms : List (Message Name)) × IsReached script y × (slice_get y.vats v ≡ Some s) × (r ≡ world.readied y (record s { queue = ms })) × (y.history ≡ es) × IsTaken script y v s ms head step

  -- a step whose lines are connected
  next_knows : (v : ℕ) (w : World) (head : List Event) (r t : Vat Name) (step : Step Name Name) → does (names script v) step r ≡ Gives tt t → IsNobodys head → ((n : ℕ) → live_at r.things n ≡ false)
      → ((n : ℕ) → live_at t.things n ≡ true → live_at r.things n ≡ true) → Connected (names script v) (held_from step r t) t.happened → Real w.history v r head step → WorldKnows w
      → WorldKnows (Next v w head t)
  next_knows v w head r t step d none still dies c real h = record {
    still = λ u s e. put_each (λ n z. (i : ℕ) → live_at z.things i ≡ false) v t w.vats (λ n. not_true (live_at t.things n) (λ e. false_true (live_at r.things n) (still n) (dies n e))) h.still u s e;
    lines = λ u e m. either u e (among_either (Here u e) (w.history ++ head) (world.events_of w.links v t.happened) m);
  }
    where
      old : (u : ℕ) (e : Happened Name) → IsAmong (Here u e) w.history ⊎ IsAmong (Here u e) head → IsConnected script (Next v w head t) u e
      old u e (inl m) = longer w (Next v w head t) (head ++ world.events_of w.links v t.happened) (joined w.history head (world.events_of w.links v t.happened)) u e (h.lines u e m)
      old u e (inr m) = absurd (none u e m)

      here : (e : Happened Name) → IsAmong e t.happened → IsConnected script (Next v w head t) v e
      here e m = let s = stands script v (held_from step r t) [] t.happened e c m in (
        record {
          step = step;
          before = r;
          after = t;
          so = s.0;
          rest = s.1;
          links = w.links;
          from = real.0;
          vat = real.1;
          queue = real.2;
          head = head;
          real = real.3;
          here = real.4;
          ready = real.5;
          taken = real.7;
          later = [];
          stepped = d;
          together = sym (end_none _) ∙ ap (λ z. z ++ head ++ world.events_of w.links v t.happened ++ []) (sym real.6);
          told = s.2;
        },
        s.3,
      )

      either : (u : ℕ) (e : Happened Name) → IsAmong (Here u e) (w.history ++ head) ⊎ IsAmong (Here u e) (world.events_of w.links v t.happened) → IsConnected script (Next v w head t) u e
      either u e (inl m) = old u e (among_either (Here u e) w.history head m)
      either u e (inr m) = let i = events_here w.links v u e t.happened m in subst (λ z. IsConnected script (Next v w head t) z e) (sym i.0) (here e i.1)

  put_back_knows : (v : ℕ) (w : World) (head : List Event) (n : ℕ) (r : Vat Name) (step : Step Name Name) (d : Done Name (Unit {0})) → does (names script v) step r ≡ d → IsNobodys head → ((i : ℕ) → live_at r.things i ≡ false)
      → LeavesDead r d → After (λ s t. Connected (names script v) (held_from step s t) t.happened) r d → Real w.history v r head step → WorldKnows w → Reached WorldKnows (world.put_back v w head n d)
  unfolding world.put_back
  put_back_knows v w head n r step (Gives u t) e none still dies c real h = next_knows v w head r t step e none still dies c real h
  put_back_knows v w head n r step other e none still dies c real h = h

  within_knows : (v : ℕ) (w : World) (head : List Event) (n : ℕ) (step : Step Name Name) (s : Vat Name) (ms : List (Message Name)) → slice_get w.vats v ≡ Some s → IsNobodys head → Real w.history v (world.readied w (record s { queue = ms })) head step → WorldKnows w
      → Reached WorldKnows (world.within v w head n (does (names script v) step) (Some (record s { queue = ms })))
  unfolding world.within world.readied
  within_knows v w head n step s ms at none real h = let r : Vat Name = world.readied w (record s { queue = ms }) in
      put_back_knows v w head n r step (does (names script v) step r) refl none (h.still v s at) (steps_leave_dead (names script v) step r) (steps_connect (names script v) (own_spots script v) step r refl (h.still v s at)) real h

  idle_knows : (k : ℕ) (w : World) → WorldKnows w → Reached WorldKnows (world.idle script k w)
  unfolding world.idle
  idle_knows k w h = moved_knows w _ (Idle k ∷ []) refl refl (one_line (Idle k) (λ u f e. cc)) h

  turn_queue_knows : (k v : ℕ) (w : World) (s : Vat Name) (ms : List (Message Name)) → s.queue ≡ ms → slice_get w.vats v ≡ Some s → IsReached script w → WorldKnows w → Reached WorldKnows (world.turn_queue script k v w s ms)
  unfolding world.turn_queue does
  turn_queue_knows k v w s [] q at real h = idle_knows k w h
  turn_queue_knows k v w s (m ∷ ms) q at real h = within_knows v w (Turned k v ∷ []) (world.step_number script k) (Takes (world.tree_at script.vats v) script.depth m) s ms at (one_line (Turned k v) (λ u f i. cc)) (w, s, ms, real, at, refl, refl, (k, refl, q, refl, refl)) h

  turn_knows : (k v : ℕ) (w : World) (o : Option (Vat Name)) → slice_get w.vats v ≡ o → IsReached script w → WorldKnows w → Reached WorldKnows (world.turn script k v w o)
  unfolding world.turn
  turn_knows k v w None e real h = idle_knows k w h
  turn_knows k v w (Some s) e real h = turn_queue_knows k v w s s.queue refl e real h

  arrives_knows : (k v to : ℕ) (w : World) (n : Note Name) (o : Option (Vat Name)) → slice_get w.vats to ≡ o → ((s : Vat Name) (bytes : List ℕ) → slice_get w.vats to ≡ Some s → Real w.history to (world.readied w (record s { queue = s.queue })) (Carried k v to n bytes ∷ []) (Receives v (read_note (names_of s) n))) → WorldKnows w → Reached WorldKnows (world.arrives script k v to w n o)
  unfolding world.arrives does
  arrives_knows k v to w n None e real h = idle_knows k w h
  arrives_knows k v to w n (Some s) e real h = within_knows to w (Carried k v to n (world.next_frame v to w.connections) ∷ []) (world.step_number script k) (Receives v (read_note (names_of s) n)) s s.queue e (one_line (Carried k v to n (world.next_frame v to w.connections)) (λ u f i. cc)) (real s (world.next_frame v to w.connections) e) h

  carry_notes_knows : (k v to : ℕ) (w : World) (l : Link) → world.link_at v to w.links ≡ Some l → l.cut ≡ false → (ns : List (Note Name)) → l.notes ≡ ns → IsReached script w → WorldKnows w → Reached WorldKnows (world.carry_notes script k v to w ns)
  unfolding world.carry_notes world.readied
  carry_notes_knows k v to w l at whole [] q real h = idle_knows k w h
  carry_notes_knows k v to w l at whole (n ∷ ns) q real h = let x : World = record w { links = world.with_link (world.with_notes ns) v to w.links } in
      arrives_knows k v to x n (slice_get w.vats to) refl (λ s bytes f. (w, s, s.queue, real, f, refl, refl, (k, bytes, l, n, ns, refl, refl, at, whole, q, refl))) (moved_knows w x [] (sym (end_none w.history)) refl (λ u f i. i) h)

  carry_cut_knows : (k v to : ℕ) (w : World) (l : Link) → world.link_at v to w.links ≡ Some l → (b : Bool) → l.cut ≡ b → IsReached script w → WorldKnows w → Reached WorldKnows (pick b (world.idle script k w) (world.carry_notes script k v to w l.notes))
  carry_cut_knows k v to w l at true e real h = idle_knows k w h
  carry_cut_knows k v to w l at false e real h = carry_notes_knows k v to w l at e l.notes refl real h

  carry_link_knows : (k v to : ℕ) (w : World) (o : Option Link) → world.link_at v to w.links ≡ o → IsReached script w → WorldKnows w → Reached WorldKnows (world.carry_link script k v to w o)
  unfolding world.carry_link
  carry_link_knows k v to w None at real h = idle_knows k w h
  carry_link_knows k v to w (Some l) at real h = carry_cut_knows k v to w l at l.cut refl real h

  cut_knows : (k v to : ℕ) (w : World) → WorldKnows w → Reached WorldKnows (world.cut script k v to w)
  unfolding world.cut
  cut_knows k v to w h = moved_knows w _ (CutAt k v to ∷ (world.lost_on script (world.link_at v to w.links) ++ world.lost_on script (world.link_at to v w.links))) refl refl
      (nobodys_join (CutAt k v to ∷ []) (world.lost_on script (world.link_at v to w.links) ++ world.lost_on script (world.link_at to v w.links)) (one_line (CutAt k v to) (λ u f e. cc))
      (nobodys_join (world.lost_on script (world.link_at v to w.links)) (world.lost_on script (world.link_at to v w.links)) (lost_on_nobodys script (world.link_at v to w.links)) (lost_on_nobodys script (world.link_at to v w.links)))) h

  notice_knows : (k v to : ℕ) (w : World) (o : Option (Vat Name)) → slice_get w.vats v ≡ o → IsReached script w → WorldKnows w → Reached WorldKnows (world.within v w (NoticedAt k v to ∷ []) (world.step_number script k) (notice (names script v) to) o)
  unfolding does world.within
  notice_knows k v to w None e real h = h
  notice_knows k v to w (Some s) e real h = within_knows v w (NoticedAt k v to ∷ []) (world.step_number script k) (Notices to) s s.queue e (one_line (NoticedAt k v to) (λ u f i. cc)) (w, s, s.queue, real, e, refl, refl, (k, refl, refl)) h

  -- a vat is given the roots of those that it knows
  roots_given : (ps : List Program) (ws : List ℕ) → AreRoots ps ws (world.given ps ws)
  unfolding world.given
  roots_given ps [] = tt
  roots_given ps (w ∷ ws) = (refl, roots_given ps ws)

  open_knows : (v : ℕ) (p : Program) → slice_get script.vats v ≡ Some p → (w : World) (o : Option (Vat Name)) → slice_get w.vats v ≡ o → IsReached script w → WorldKnows w → Reached WorldKnows (world.within v w (Opens v ∷ []) v (opening (names script v) p.tree script.depth (Root v) (world.given script.vats p.knows)) o)
  unfolding does world.within
  open_knows v p at w None e real h = h
  open_knows v p at w (Some s) e real h = within_knows v w (Opens v ∷ []) v (Starts p.tree script.depth (Root v) (world.given script.vats p.knows)) s s.queue e (one_line (Opens v) (λ u f i. cc)) (w, s, s.queue, real, e, refl, refl, (p, refl, at, refl, refl, refl, refl, roots_given script.vats p.knows)) h

  opening_knows : (v : ℕ) (p : Program) → slice_get script.vats v ≡ Some p → (w : World) → IsReached script w → WorldKnows w → Reached WorldKnows (world.open_vat script v p w)
  unfolding world.open_vat
  opening_knows v p at w real h = open_knows v p at w (slice_get w.vats v) refl real h

  step_knows : (entry : Entry) (k : ℕ) (w : World) → IsReached script w → WorldKnows w → Reached WorldKnows (world.step script entry k w)
  unfolding world.step
  step_knows (Turn v) k w real h = turn_knows k v w (slice_get w.vats v) refl real h
  step_knows (Carry v to) k w real h = carry_link_knows k v to w (world.link_at v to w.links) refl real h
  step_knows (CutLink v to) k w real h = cut_knows k v to w h
  step_knows (NoticeLink v to) k w real h = notice_knows k v to w (slice_get w.vats v) refl real h

  then_knows : (r : Run) (f : World → Run) → Reached WorldKnows r → ((w : World) → r ≡ Goes w → WorldKnows w → Reached WorldKnows (f w)) → Reached WorldKnows (world.then_goes r f)
  unfolding world.then_goes
  then_knows (Goes w) f h g = g w refl h
  then_knows (Stopped c k w) f h g = h

  steps_know : (es : List Entry) (k : ℕ) (w : World) → IsReached script w → WorldKnows w → Reached WorldKnows (world.steps_from script es k w)
  unfolding world.steps_from
  steps_know [] k w real h = h
  steps_know (e ∷ es) k w real h = then_knows (world.step script e k w) (world.steps_from script es (suc k)) (step_knows e k w real h) (λ y i j. steps_know es (suc k) y (entered e k real i) j)

  -- these programs are those of the script from vat v on
  abbrev StandAt : ℕ → List Program → Type 0
  StandAt v ps = (i : ℕ) (p : Program) → slice_get ps i ≡ Some p → slice_get script.vats (v + i) ≡ Some p

  first_at : (v : ℕ) (p : Program) (ps : List Program) → StandAt v (p ∷ ps) → slice_get script.vats v ≡ Some p
  first_at v p ps s = let e : v + zero ≡ v = omega arith in subst (λ n. slice_get script.vats n ≡ Some p) e (s zero p refl)

  rest_at : (v : ℕ) (p : Program) (ps : List Program) → StandAt v (p ∷ ps) → StandAt (suc v) ps
  rest_at v p ps s i q f = let e : v + suc i ≡ suc v + i = omega arith in subst (λ n. slice_get script.vats n ≡ Some q) e (s (suc i) q f)

  slice_front : (ps rest : List Program) (i : ℕ) (p : Program) → slice_get ps i ≡ Some p → slice_get (ps ++ rest) i ≡ Some p
  slice_front [] rest i p e = cc
  slice_front (q ∷ ps) rest zero p e = e
  slice_front (q ∷ ps) rest (suc i) p e = slice_front ps rest i p e

  stand_all : (ps rest : List Program) → script.vats ≡ ps ++ rest → StandAt zero ps
  stand_all ps rest e i p f = let g : i ≡ zero + i = omega arith in subst (λ n. slice_get script.vats n ≡ Some p) g (subst (λ qs. slice_get qs i ≡ Some p) (sym e) (slice_front ps rest i p f))

  opens_know : (v : ℕ) (ps : List Program) (w : World) → StandAt v ps → IsReached script w → WorldKnows w → Reached WorldKnows (world.open_from script v ps w)
  unfolding world.open_from
  opens_know v [] w s real h = h
  opens_know v (p ∷ ps) w s real h = then_knows (world.open_vat script v p w) (world.open_from script (suc v) ps) (opening_knows v p (first_at v p ps s) w real h) (λ y i j. opens_know (suc v) ps y (rest_at v p ps s) (opened v p (first_at v p ps s) real i) j)

  then_real : (x : World) (r : Run) (f : World → Run) → ((w : World) → r ≡ Goes w → f w ≡ Goes x → IsReached script x) → world.then_goes r f ≡ Goes x → IsReached script x
  unfolding world.then_goes
  then_real x (Goes w) f g e = g w refl e
  then_real x (Stopped c k w) f g e = cc

  opens_real : (v : ℕ) (ps : List Program) (w x : World) → StandAt v ps → IsReached script w → world.open_from script v ps w ≡ Goes x → IsReached script x
  unfolding world.open_from
  opens_real v [] w x s real e = let same : w ≡ x = cc in subst (IsReached script) same real
  opens_real v (p ∷ ps) w x s real e = then_real x (world.open_vat script v p w) (world.open_from script (suc v) ps) (λ y i j. opens_real (suc v) ps y x (rest_at v p ps s) (opened v p (first_at v p ps s) real i) j) e

  begins_knows : WorldKnows (begins script)
  unfolding world.open_from begins
  begins_knows = record { still = opened_still script [] (begins script) opened_none; lines = λ v e m. begins_none v e m }
    where
      opened_none : world.open_from script zero [] (begins script) ≡ Goes (begins script)
      opened_none = refl

      begins_none : (v : ℕ) (e : Happened Name) → HasLine (begins script) v e → IsConnected script (begins script) v e
      begins_none v e m = absurd m

  goes_at : (P : World → Type 0) (r : Run) (w : World) → r ≡ Goes w → Reached P r → P w
  goes_at P (Goes y) w e h = let same : y ≡ w = cc in rw same at h
  goes_at P (Stopped c k y) w e h = cc

  opened_knows : (ps rest : List Program) (w : World) → script.vats ≡ ps ++ rest → world.open_from script zero ps (begins script) ≡ Goes w → WorldKnows w
  opened_knows ps rest w s e = goes_at WorldKnows _ w e (opens_know zero ps (begins script) (stand_all ps rest s) start begins_knows)

  run_knows : (w x : World) (es : List Entry) (k : ℕ) → world.open_from script zero script.vats (begins script) ≡ Goes w → world.steps_from script es k w ≡ Goes x → WorldKnows x
  run_knows w x es k e i = let s = stand_all script.vats [] (sym (end_none script.vats)) in
      goes_at WorldKnows _ x i (steps_know es k w (opens_real zero script.vats (begins script) w s start e) (opened_knows script.vats [] w (sym (end_none script.vats)) e))

  -- the closing list behind it
  close_knows : (w : World) → WorldKnows w → Reached WorldKnows (world.close script w)
  unfolding world.close
  close_knows w h = let vats : List Event = world.left_vats script w.vats in let links : List Event = world.left_links script w.links in
      moved_knows w _ (vats ++ (links ++ Ends ∷ [])) (joined (w.history ++ vats) links (Ends ∷ []) ∙ joined w.history vats (links ++ Ends ∷ [])) refl
      (nobodys_join vats (links ++ Ends ∷ []) (vats_nobodys script w.vats) (nobodys_join links (Ends ∷ []) (links_nobodys script w.links) (one_line Ends (λ u e i. cc)))) h

  pub ended_connected : (w : World) → world.run script ≡ Goes w → LinesConnected script w
  unfolding world.run
  ended_connected w e = let s = stand_all script.vats [] (sym (end_none script.vats)) in
      (goes_at WorldKnows _ w e (then_knows (world.open_from script zero script.vats (begins script)) (λ y. world.then_goes (world.steps_from script script.schedule 1 y) (world.close script)) (opens_know zero script.vats (begins script) s start begins_knows)
      (λ y i h. then_knows (world.steps_from script script.schedule 1 y) (world.close script) (steps_know script.schedule 1 y (opens_real zero script.vats (begins script) y s start i) h) (λ z j k. close_knows z k)))).lines

  -- ---- what a sender knew

  all_known : (v : ℕ) (h : Holdings Name Name) (so : List (Happened Name)) (a : ℕ) (none : List (Item Name)) → none ≡ [] → (xs : List (Value Name))
      → AllOf (λ u. Knows (names script v) h so u.0 u.1 ⊎ IsAmong u.1 none) (by a (values xs)) → AllOf (λ x. Knows (names script v) h so a (AValue x)) xs
  unfolding by values
  all_known v h so a none e [] c = tt
  all_known v h so a none e (x ∷ xs) c = (either c.0, all_known v h so a none e xs c.1)
    where
      either : Knows (names script v) h so a (AValue x) ⊎ IsAmong (AValue x) none → Knows (names script v) h so a (AValue x)
      either (inl k) = k
      either (inr i) = absurd (subst (λ z. IsAmong (AValue x) z) e i)

  sender_knew : (w : World) (v a : ℕ) (m : Message Name) → IsConnected script w v (Sends a m) → Knew script w v a (Sends a m) (m.target ∷ m.args)
  unfolding uses itself
  sender_knew w v a m c = (c.0, (all_known v (held_from c.0.step c.0.before c.0.after) c.0.so a [] refl (m.target ∷ m.args) c.1.0))

  reactor_knew : (w : World) (v a : ℕ) (x o : Value Name) (m : Message Name) → IsConnected script w v (Reacts a x o m) → m.args ≡ x ∷ [] → Knew script w v a (Reacts a x o m) m.args
  unfolding uses itself
  reactor_knew w v a x o m c e = let k = all_known v (held_from c.0.step c.0.before c.0.after) c.0.so a [] refl (x ∷ o ∷ []) c.1.0 in
      (c.0, subst (λ xs. AllOf (λ y. Knows (names script v) (held_from c.0.step c.0.before c.0.after) c.0.so a (AValue y)) xs) (sym e) (k.0, tt))

  begotten : (w : World) → LinesConnected script w → (v : ℕ) (m : Message Name) → Stems w v m → Begotten script w v m
  begotten w c v m (stems.sent a x h l) = sent a x h l (sender_knew w v a (record m { target = x }) (c v _ h))
  begotten w c v m (stems.carried u n z ys b s i j k l p q) = carried u n z ys b (begotten w c u n s) i j k l p q

  -- what is taken
  taken_begotten : (w : World) → LinesConnected script w → (v : ℕ) (m : Message Name) → StemsOrReacts w v m → Begotten script w v m ⊎ Reacted script w v m
  unfolding held_from
  taken_begotten w c v m (inl h) = inl (begotten w c v m h)
  taken_begotten w c v m (inr h) = let k = c v _ h.6 in inr (h.0, h.1, h.2, h.6, (k.0, k.1.1), reactor_knew w v h.0 h.1 h.2 m k h.4)

  pub opened_connected : (ps rest : List Program) (w : World) → script.vats ≡ ps ++ rest → world.open_from script zero ps (begins script) ≡ Goes w → LinesConnected script w
  opened_connected ps rest w s e = (opened_knows ps rest w s e).lines

  pub run_connected : (w x : World) (es : List Entry) (k : ℕ) → world.open_from script zero script.vats (begins script) ≡ Goes w → world.steps_from script es k w ≡ Goes x → LinesConnected script x
  run_connected w x es k e i = (run_knows w x es k e i).lines

  pub opened_begotten : (ps rest : List Program) (w : World) → script.vats ≡ ps ++ rest → world.open_from script zero ps (begins script) ≡ Goes w → TakenBegotten script w
  opened_begotten ps rest w s e v a m i = taken_begotten w (opened_connected ps rest w s e) v m ((goes_at AllStem _ w e ((messages_stem script).0 ps)).taken v a m i)

  pub ended_begotten : (w : World) → world.run script ≡ Goes w → TakenBegotten script w
  ended_begotten w e v a m i = taken_begotten w (ended_connected w e) v m ((ended_stem script w e).taken v a m i)

  pub run_begotten : (w x : World) (es : List Entry) (k : ℕ) → world.open_from script zero script.vats (begins script) ≡ Goes w → world.steps_from script es k w ≡ Goes x → TakenBegotten script x
  run_begotten w x es k e i v a m j = taken_begotten x (run_connected w x es k e i) v m ((goes_at AllStem _ x i ((messages_stem script).1 w es k e)).taken v a m j)
