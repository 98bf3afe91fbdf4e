-- A run as a course of steps: the opening turns of its vats in order, and then steps of one vat each, and lines of no vat between.
use Rattle.std.proofs.Common.{◌≡◌, ℕ, zero, suc, ◌+◌, arith, Bool, true, false, List, [], ◌∷◌, ◌++◌, Option, Some, None, refl, sym, ap, ◌∙◌, subst, map}
use Rattle.std.specs.Prelude.{slice_get}
use Rattle.def_machine.specs.Values.{Name, Root}
use Rattle.def_machine.specs.State.{Message, Known, Note, Deliver, Open, Ask, SettledTo, Elsewhere, Shorten, Vat, Done, Gives}
use Rattle.def_machine.specs.Arrive.{notice}
use Rattle.def_machine.specs.Eval.{opening}
use Rattle.law_machine.specs.Machine.Steps.{Step, Takes, Receives, Notices, does}
use Rattle.def_run.specs.World as world
use Rattle.def_run.specs.World.{Script, Program, Entry, Turn, Carry, CutLink, NoticeLink, Event, Opens, Turned, Idle, Carried, CutAt, NoticedAt, Here, LeftQueue, LeftHeld, LeftWait, LeftLink, Ends, Link, World, Run, Goes, Stopped, names, names_of, read_note, begins}
use Rattle.law_machine.proofs.Machine.StepLaws.{get_append}
use Rattle.law_fate.specs.Fates.FateRuns.{Reached}
use Rattle.law_uses.specs.Connectivity.Known.{AllOf}
use Rattle.law_uses.specs.Connectivity.Begotten.{IsTaken}

-- a line of no vat's step that opens none
abbrev pub IsNeutral : Event → Type 0
IsNeutral (Opens v) = ⊥
IsNeutral (Here v e) = ⊥
IsNeutral _ = Unit {0}

module _ (script : Script) where
  -- so many vats have been opened, the first ones
  pub data Opening : ℕ → World → Type 0 where
    first : Opening zero (begins script)
    next : {n : ℕ} {w x : World} (p : Program) (s t : Vat Name) → Opening n w → slice_get script.vats n ≡ Some p → slice_get w.vats n ≡ Some s
        → opening (names script n) p.tree script.depth (Root n) (world.given script.vats p.knows) (world.readied w s) ≡ Gives tt t
        → x.vats ≡ world.put_at n t w.vats → x.history ≡ (w.history ++ Opens n ∷ []) ++ world.events_of w.links n t.happened → Opening (suc n) x

  pub data Course : World → Type 0 where
    opened : {w : World} (n : ℕ) → Opening n w → Course w
    quiet : {w x : World} (es : List Event) → Course w → x.vats ≡ w.vats → x.history ≡ w.history ++ es → AllOf IsNeutral es → Course x
    -- a step of vat v behind its line, from s, but for its queue, to t
    stepped : {w x : World} (v : ℕ) (s t : Vat Name) (ms : List (Message Name)) (head : Event) (step : Step Name Name) (ls : List Link) → Course w → slice_get w.vats v ≡ Some s → IsTaken script w v s ms (head ∷ []) step → IsNeutral head
        → does (names script v) step (world.readied w (record s { queue = ms })) ≡ Gives tt t → x.vats ≡ world.put_at v t w.vats → x.history ≡ (w.history ++ head ∷ []) ++ world.events_of ls v t.happened → Course x

pub end_none : {A : Type 0} (xs : List A) → xs ++ [] ≡ xs
end_none [] = refl
end_none (x ∷ xs) = ap (λ r. x ∷ r) (end_none xs)

pub joined : {A : Type 0} (xs ys zs : List A) → (xs ++ ys) ++ zs ≡ xs ++ (ys ++ zs)
joined [] ys zs = refl
joined (x ∷ xs) ys zs = ap (λ r. x ∷ r) (joined xs ys zs)

-- ---- lines of no vat

neutral_join : (es fs : List Event) → AllOf IsNeutral es → AllOf IsNeutral fs → AllOf IsNeutral (es ++ fs)
neutral_join [] fs h k = k
neutral_join (e ∷ es) fs h k = (h.0, neutral_join es fs h.1 k)

neutral_map : {A : Type 0} (f : A → Event) → ((x : A) → IsNeutral (f x)) → (xs : List A) → AllOf IsNeutral (map f xs)
neutral_map f h [] = tt
neutral_map f h (x ∷ xs) = (h x, neutral_map f h xs)

module _ (script : Script) where
  lost_neutral : (ns : List (Note Name)) → AllOf IsNeutral (world.lost_by script ns)
  unfolding world.lost_by
  lost_neutral [] = tt
  lost_neutral (Deliver d n verb ys ∷ ns) = (tt, lost_neutral ns)
  lost_neutral (Open i n ∷ ns) = lost_neutral ns
  lost_neutral (Ask p i n ∷ ns) = lost_neutral ns
  lost_neutral (SettledTo n y ∷ ns) = lost_neutral ns
  lost_neutral (Elsewhere n c ∷ ns) = lost_neutral ns
  lost_neutral (Shorten n c i ∷ ns) = lost_neutral ns

  lost_on_neutral : (o : Option Link) → AllOf IsNeutral (world.lost_on script o)
  unfolding world.lost_on
  lost_on_neutral None = tt
  lost_on_neutral (Some l) = lost_neutral l.notes

  held_neutral : (v : ℕ) (ks : List (Known Name)) → AllOf IsNeutral (world.left_held script v ks)
  unfolding world.left_held
  held_neutral v [] = tt
  held_neutral v (k ∷ ks) = neutral_join (map (λ (m : Message Name). LeftHeld v k.name m.id) k.held) (world.left_held script v ks) (neutral_map (λ (m : Message Name). LeftHeld v k.name m.id) (λ m. tt) k.held) (held_neutral v ks)

  wait_neutral : (v : ℕ) (ks : List (Known Name)) → AllOf IsNeutral (world.left_wait script v ks)
  unfolding world.left_wait
  wait_neutral v [] = tt
  wait_neutral v (k ∷ ks) = neutral_join (map (λ (m : Message Name). LeftWait v k.name m.id) k.reactions) (world.left_wait script v ks) (neutral_map (λ (m : Message Name). LeftWait v k.name m.id) (λ m. tt) k.reactions) (wait_neutral v ks)

  vat_neutral : (s : Vat Name) → AllOf IsNeutral (world.left_vat script s)
  unfolding world.left_vat
  vat_neutral s = let q : List Event = map (λ (m : Message Name). LeftQueue s.number m.id) s.queue in let h : List Event = world.left_held script s.number s.known in
      neutral_join (q ++ h) (world.left_wait script s.number s.known) (neutral_join q h (neutral_map (λ (m : Message Name). LeftQueue s.number m.id) (λ m. tt) s.queue) (held_neutral s.number s.known)) (wait_neutral s.number s.known)

  vats_neutral : (ss : List (Vat Name)) → AllOf IsNeutral (world.left_vats script ss)
  unfolding world.left_vats
  vats_neutral [] = tt
  vats_neutral (s ∷ ss) = neutral_join (world.left_vat script s) (world.left_vats script ss) (vat_neutral s) (vats_neutral ss)

  links_neutral : (ls : List Link) → AllOf IsNeutral (world.left_links script ls)
  unfolding world.left_links
  links_neutral [] = tt
  links_neutral (l ∷ ls) = neutral_join (map (λ n. LeftLink l.from l.to n) l.notes) (world.left_links script ls) (neutral_map (λ n. LeftLink l.from l.to n) (λ n. tt) l.notes) (links_neutral ls)

  -- ---- a step

  -- World y is w, but for its links.
  back_course : (v : ℕ) (w y : World) (n : ℕ) (s : Vat Name) (ms : List (Message Name)) (head : Event) (step : Step Name Name) (d : Done Name (Unit {0})) → Course script w → y.vats ≡ w.vats → y.history ≡ w.history → slice_get w.vats v ≡ Some s
      → IsTaken script w v s ms (head ∷ []) step → IsNeutral head → does (names script v) step (world.readied w (record s { queue = ms })) ≡ d → Reached (Course script) (world.put_back v y (head ∷ []) n d)
  unfolding world.put_back
  back_course v w y n s ms head step (Gives u t) h vats same at taken plain q = stepped v s t ms head step y.links h at taken plain q (ap (world.put_at v t) vats) (ap (λ es. (es ++ head ∷ []) ++ world.events_of y.links v t.happened) same)
  back_course v w y n s ms head step other h vats same at taken plain q = quiet [] h vats (same ∙ sym (end_none w.history)) tt

  within_course : (v : ℕ) (w : World) (n : ℕ) (s : Vat Name) (ms : List (Message Name)) (head : Event) (step : Step Name Name) → Course script w → slice_get w.vats v ≡ Some s → IsTaken script w v s ms (head ∷ []) step → IsNeutral head
      → Reached (Course script) (world.within v w (head ∷ []) n (does (names script v) step) (Some (record s { queue = ms })))
  unfolding world.within
  within_course v w n s ms head step h at taken plain = back_course v w w n s ms head step (does (names script v) step (world.readied w (record s { queue = ms }))) h refl refl at taken plain refl

  idle_course : (k : ℕ) (w : World) → Course script w → Reached (Course script) (world.idle script k w)
  unfolding world.idle
  idle_course k w h = quiet (Idle k ∷ []) h refl refl (tt, tt)

  turn_queue_course : (k v : ℕ) (w : World) (s : Vat Name) (ms : List (Message Name)) → s.queue ≡ ms → slice_get w.vats v ≡ Some s → Course script w → Reached (Course script) (world.turn_queue script k v w s ms)
  unfolding world.turn_queue does
  turn_queue_course k v w s [] q at h = idle_course k w h
  turn_queue_course k v w s (m ∷ ms) q at h = within_course v w (world.step_number script k) s ms (Turned k v) (Takes (world.tree_at script.vats v) script.depth m) h at (k, refl, q, refl, refl) tt

  turn_course : (k v : ℕ) (w : World) (o : Option (Vat Name)) → slice_get w.vats v ≡ o → Course script w → Reached (Course script) (world.turn script k v w o)
  unfolding world.turn
  turn_course k v w None e h = idle_course k w h
  turn_course k v w (Some s) e h = turn_queue_course k v w s s.queue refl e h

  -- a note has left its link, and arrives
  module _ (k v to : ℕ) (w : World) (l : Link) (at : world.link_at v to w.links ≡ Some l) (whole : l.cut ≡ false) (n : Note Name) (ns : List (Note Name)) (notes : l.notes ≡ n ∷ ns) (h : Course script w) where
    abbrev Less : World
    Less = record w { links = world.with_link (world.with_notes ns) v to w.links }

    less_course : Course script Less
    less_course = quiet [] h refl (sym (end_none w.history)) tt

    arrives_course : (o : Option (Vat Name)) → slice_get w.vats to ≡ o → Reached (Course script) (world.arrives script k v to Less n o)
    unfolding world.arrives world.within world.readied does
    arrives_course None e = idle_course k Less less_course
    arrives_course (Some s) e = let bytes = world.next_frame v to w.connections in
        back_course to w Less (world.step_number script k) s s.queue (Carried k v to n bytes) (Receives v (read_note (names_of s) n)) (does (names script to) (Receives v (read_note (names_of s) n)) (world.readied w (record s { queue = s.queue }))) h refl refl e (k, bytes, l, n, ns, refl, refl, at, whole, notes, refl) tt refl

  carry_notes_course : (k v to : ℕ) (w : World) (l : Link) → world.link_at v to w.links ≡ Some l → l.cut ≡ false → (ns : List (Note Name)) → l.notes ≡ ns → Course script w → Reached (Course script) (world.carry_notes script k v to w ns)
  unfolding world.carry_notes
  carry_notes_course k v to w l at whole [] q h = idle_course k w h
  carry_notes_course k v to w l at whole (n ∷ ns) q h = arrives_course k v to w l at whole n ns q h (slice_get w.vats to) refl

  carry_cut_course : (k v to : ℕ) (w : World) (l : Link) → world.link_at v to w.links ≡ Some l → (b : Bool) → l.cut ≡ b → Course script w
      → Reached (Course script) (elim b [ true ↦ world.idle script k w | false ↦ world.carry_notes script k v to w l.notes ])
  carry_cut_course k v to w l at true e h = idle_course k w h
  carry_cut_course k v to w l at false e h = carry_notes_course k v to w l at e l.notes refl h

  carry_course : (k v to : ℕ) (w : World) (o : Option Link) → world.link_at v to w.links ≡ o → Course script w → Reached (Course script) (world.carry_link script k v to w o)
  unfolding world.carry_link
  carry_course k v to w None at h = idle_course k w h
  carry_course k v to w (Some l) at h = carry_cut_course k v to w l at l.cut refl h

  cut_course : (k v to : ℕ) (w : World) → Course script w → Reached (Course script) (world.cut script k v to w)
  unfolding world.cut
  cut_course k v to w h = quiet (CutAt k v to ∷ (world.lost_on script (world.link_at v to w.links) ++ world.lost_on script (world.link_at to v w.links))) h refl refl
      (tt, neutral_join (world.lost_on script (world.link_at v to w.links)) (world.lost_on script (world.link_at to v w.links)) (lost_on_neutral (world.link_at v to w.links)) (lost_on_neutral (world.link_at to v w.links)))

  notice_course : (k v to : ℕ) (w : World) (o : Option (Vat Name)) → slice_get w.vats v ≡ o → Course script w → Reached (Course script) (world.within v w (NoticedAt k v to ∷ []) (world.step_number script k) (notice (names script v) to) o)
  unfolding world.within does
  notice_course k v to w None e h = h
  notice_course k v to w (Some s) e h = within_course v w (world.step_number script k) s s.queue (NoticedAt k v to) (Notices to) h e (k, refl, refl) tt

  step_course : (entry : Entry) (k : ℕ) (w : World) → Course script w → Reached (Course script) (world.step script entry k w)
  unfolding world.step
  step_course (Turn v) k w h = turn_course k v w (slice_get w.vats v) refl h
  step_course (Carry v to) k w h = carry_course k v to w (world.link_at v to w.links) refl h
  step_course (CutLink v to) k w h = cut_course k v to w h
  step_course (NoticeLink v to) k w h = notice_course k v to w (slice_get w.vats v) refl h

  -- ---- a run

  then_course : (r : Run) (f : World → Run) → Reached (Course script) r → ((w : World) → r ≡ Goes w → Course script w → Reached (Course script) (f w)) → Reached (Course script) (world.then_goes r f)
  unfolding world.then_goes
  then_course (Goes w) f h g = g w refl h
  then_course (Stopped c k w) f h g = h

  steps_course : (es : List Entry) (k : ℕ) (w : World) → Course script w → Reached (Course script) (world.steps_from script es k w)
  unfolding world.steps_from
  steps_course [] k w h = h
  steps_course (e ∷ es) k w h = then_course (world.step script e k w) (world.steps_from script es (suc k)) (step_course e k w h) (λ y i j. steps_course es (suc k) y j)

  -- the vats from number v on have these programs
  abbrev StandAt : ℕ → List Program → Type 0
  StandAt v ps = (i : ℕ) (p : Program) → slice_get ps i ≡ Some p → slice_get script.vats (v + i) ≡ Some p

  first_at : (v : ℕ) (p : Program) (ps : List Program) → StandAt v (p ∷ ps) → slice_get script.vats v ≡ Some p
  first_at v p ps s = let e : v + zero ≡ v = omega arith in subst (λ n. slice_get script.vats n ≡ Some p) e (s zero p refl)

  rest_at : (v : ℕ) (p : Program) (ps : List Program) → StandAt v (p ∷ ps) → StandAt (suc v) ps
  rest_at v p ps s i q f = let e : v + suc i ≡ suc v + i = omega arith in subst (λ n. slice_get script.vats n ≡ Some q) e (s (suc i) q f)

  -- what an opening turn leads to, and where it stopped
  abbrev IsOpening : ℕ → Run → Type 0
  IsOpening v (Goes w) = Opening script v w
  IsOpening v (Stopped c k w) = Course script w

  open_back : (v : ℕ) (p : Program) (w : World) (s : Vat Name) → slice_get script.vats v ≡ Some p → slice_get w.vats v ≡ Some s → Opening script v w → (d : Done Name (Unit {0}))
      → opening (names script v) p.tree script.depth (Root v) (world.given script.vats p.knows) (world.readied w s) ≡ d → IsOpening (suc v) (world.put_back v w (Opens v ∷ []) v d)
  unfolding world.put_back
  open_back v p w s at e h (Gives u t) q = next p s t h at e q refl refl
  open_back v p w s at e h other q = opened v h

  open_course : (v : ℕ) (p : Program) (w : World) (o : Option (Vat Name)) → slice_get script.vats v ≡ Some p → slice_get w.vats v ≡ o → Opening script v w
      → IsOpening (suc v) (world.within v w (Opens v ∷ []) v (opening (names script v) p.tree script.depth (Root v) (world.given script.vats p.knows)) o)
  unfolding world.within
  open_course v p w None at e h = opened v h
  open_course v p w (Some s) at e h = open_back v p w s at e h (opening (names script v) p.tree script.depth (Root v) (world.given script.vats p.knows) (world.readied w s)) refl

  then_opens : (v : ℕ) (r : Run) (f : World → Run) → IsOpening v r → ((w : World) → Opening script v w → Reached (Course script) (f w)) → Reached (Course script) (world.then_goes r f)
  unfolding world.then_goes
  then_opens v (Goes w) f h g = g w h
  then_opens v (Stopped c k w) f h g = h

  opens_course : (v : ℕ) (ps : List Program) (w : World) → StandAt v ps → Opening script v w → Reached (Course script) (world.open_from script v ps w)
  unfolding world.open_from world.open_vat
  opens_course v [] w s h = opened v h
  opens_course v (p ∷ ps) w s h = then_opens (suc v) (world.open_vat script v p w) (world.open_from script (suc v) ps) (open_course v p w (slice_get w.vats v) (first_at v p ps s) refl h) (λ y i. opens_course (suc v) ps y (rest_at v p ps s) i)

  close_course : (w : World) → Course script w → Reached (Course script) (world.close script w)
  unfolding world.close
  close_course w h = let vs : List Event = world.left_vats script w.vats in let ls : List Event = world.left_links script w.links in
      quiet (vs ++ (ls ++ Ends ∷ [])) h refl (joined (w.history ++ vs) ls (Ends ∷ []) ∙ joined w.history vs (ls ++ Ends ∷ [])) (neutral_join vs (ls ++ Ends ∷ []) (vats_neutral w.vats) (neutral_join ls (Ends ∷ []) (links_neutral w.links) (tt, tt)))

  stand_front : (ps rest : List Program) → script.vats ≡ ps ++ rest → StandAt zero ps
  stand_front ps rest e i p f = let g : i ≡ zero + i = omega arith in subst (λ n. slice_get script.vats n ≡ Some p) g (subst (λ qs. slice_get qs i ≡ Some p) (sym e) (get_append ps rest i p f))

  stand_all : StandAt zero script.vats
  stand_all = stand_front script.vats [] (sym (end_none script.vats))

  goes_course : (r : Run) (w : World) → r ≡ Goes w → Reached (Course script) r → Course script w
  goes_course (Goes y) w e h = let same : y ≡ w = cc in subst (Course script) same h
  goes_course (Stopped c k y) w e h = cc

  -- the world after any of the opening turns
  pub opened_course : (ps rest : List Program) (w : World) → script.vats ≡ ps ++ rest → world.open_from script zero ps (begins script) ≡ Goes w → Course script w
  opened_course ps rest w s e = goes_course (world.open_from script zero ps (begins script)) w e (opens_course zero ps (begins script) (stand_front ps rest s) first)

  -- and after all of them and any entries
  pub entered_course : (w x : World) (es : List Entry) (k : ℕ) → world.open_from script zero script.vats (begins script) ≡ Goes w → world.steps_from script es k w ≡ Goes x → Course script x
  entered_course w x es k e i = goes_course (world.steps_from script es k w) x i (steps_course es k w (opened_course script.vats [] w (sym (end_none script.vats)) e))

  -- every run is such a course, up to its end or to where it stopped
  pub run_course : Reached (Course script) (world.run script)
  unfolding world.run
  run_course = then_course (world.open_from script zero script.vats (begins script)) _ (opens_course zero script.vats (begins script) stand_all first)
      (λ w i h. then_course (world.steps_from script script.schedule 1 w) (world.close script) (steps_course script.schedule 1 w h) (λ x j k. close_course x k))

  pub ended_course : (w : World) → world.run script ≡ Goes w → Course script w
  ended_course w e = goes_course (world.run script) w e run_course
