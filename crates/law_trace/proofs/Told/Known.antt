-- Each name that a line of a run sends or carries is an object, or known to a vat at the end; and messages are named as such.
use Rattle.std.proofs.Common.{◌≡◌, ℕ, Bool, true, false, List, [], ◌∷◌, ◌++◌, Some, refl, sym, ap, ◌∙◌, subst, ◌⊎◌, inl, inr, arith}
use Rattle.std.specs.Prelude.{slice_get}
use Rattle.def_machine.specs.Values.{Ref, Name}
use Rattle.def_machine.specs.State.{Message, Note, Passed, Deliver, Happened, Sends, Reacts, Posted, Vat, Gives}
use Rattle.law_machine.specs.Machine.Laws.{SameNames}
use Rattle.law_machine.specs.Machine.Steps.{Step, Opens as Starts, Takes, Receives, Notices, does}
use Rattle.law_machine.proofs.Machine.StepLaws.{names_stays}
use Rattle.def_run.specs.World as world
use Rattle.def_run.specs.World.{Script, Event, Here, Carried, LostCut, Link, World, Run, Goes, Stopped, names, names_of, read_note, readied, events_of, event_of, begins}
use Rattle.law_fate.specs.Fates.Fate.{total}
use Rattle.law_fate.specs.Fates.FateRuns.{Reached}
use Rattle.law_fate.proofs.Fates.RunCounts.{pick}
use Rattle.law_fate.specs.Name.Names.{Bit, Named, AllOf, IsAmong, IsHad, IsKnownIn, IsMessageName, ValueOk, NoteOk, names_in}
use Rattle.law_fate.specs.Name.Runs.{KnowsOnce}
use Rattle.law_fate.proofs.Name.Among.{get_put}
use Rattle.law_fate.proofs.Name.Facts.{MayBe, all_map, all_append}
use Rattle.law_fate.proofs.Name.Looks.{get_all}
use Rattle.law_fate.proofs.Name.Run.{Stands, Told}
use Rattle.law_reference.proofs.Reference.Follow.{eq_dec}
use Rattle.law_reference.proofs.Reference.FollowRuns.{after_gives}
use Rattle.law_reference.proofs.Reference.OnceLaws.{among_at}
use Rattle.law_uses.specs.Connectivity.Begotten.{IsTaken}
use Rattle.law_uses.proofs.Connectivity.Events.{IsNobodys}
use Rattle.law_frame.specs.Frame.Alike.{names_heard}
use Rattle.law_frame.specs.Frame.Lines.{LineFits}
use Rattle.law_frame.proofs.Frame.ArriveAsking.{Has}
use Rattle.law_frame.proofs.Frame.LinksKnown.{at_link}
use Rattle.law_frame.proofs.Frame.OrderRuns.{among_get}
use Rattle.law_frame.proofs.Frame.Own.{known_on}
use Rattle.law_frame.proofs.Frame.Told.{known_up}
use Rattle.law_frame.proofs.Frame.WireRuns.{Wire, mail_fits, opened_both, stepped_both}
use Rattle.law_frame.proofs.Local.Steps.{put_beside}
use Rattle.law_uses.proofs.Uses.Kept.{is_carry}
use Rattle.law_uses.specs.KnownUses.Told.{IsPassed}
use Rattle.law_uses.proofs.KnownUses.Walk.{Leads, quiet, steps}
use Rattle.law_uses.proofs.KnownUses.Stood.{Came, first, onward, is_run, Ended, run_ended}
use Rattle.law_order.specs.Ordering.Order.{passes}
use Rattle.law_trace.specs.Shown.Shown.{IsNamed, target, argument, passed, passed_at}
use Rattle.law_trace.proofs.Told.Passes.{note_heard}
use Rattle.law_trace.proofs.Told.Sends.{SendOk, send_up}
use Rattle.law_trace.proofs.Told.Steps.{step_known, arrival_heard}

-- it is an object, or a vat knows it
abbrev pub IsSeen : World → Name → Type 0
IsSeen w n = (v : ℕ) × (s : Vat Name) × (slice_get w.vats v ≡ Some s) × IsKnownIn (names_in s.known) n

abbrev Seen : World → Bit Name → Type 0
Seen w (Named n) = IsSeen w n
Seen w other = Unit {0}

-- so are the names that a line sends, on which it sends, and that stand for the arguments of what it carries
abbrev pub LineSeen : World → Event → Type 0
LineSeen w (Here v e) = SendOk (Seen w) e
LineSeen w (Carried k u v (Deliver d z verb ys) bytes) = (place : ℕ) (y : Passed Name) → passed_at ys place ≡ Some y → (n : Name) → IsAmong n (passes y) → IsSeen w n
LineSeen w _ = Unit {0}

-- what a line sends, what reacts by it and what it carries is named as a message
abbrev pub IsNamedSo : Event → Type 0
IsNamedSo (Here v (Sends act m)) = IsMessageName m.id
IsNamedSo (Here v (Reacts act x o m)) = IsMessageName m.id
IsNamedSo (Carried k u v (Deliver d n verb ys) bytes) = IsMessageName d.message
IsNamedSo _ = Unit {0}

abbrev pub LineWell : World → Event → Type 0
LineWell w e = LineSeen w e × IsNamedSo e

-- ---- what is known stays known

abbrev Grows : World → World → Type 0
Grows w x = (n : Name) → IsSeen w n → IsSeen x n

seen_up : (w x : World) → Grows w x → (b : Bit Name) → Seen w b → Seen x b
seen_up w x g (Named n) h = g n h
seen_up w x g other h = tt

line_up : (w x : World) → Grows w x → (e : Event) → LineSeen w e → LineSeen x e
line_up w x g (Here v e) h = send_up (Seen w) (Seen x) (seen_up w x g) e h
line_up w x g (Carried k u v (Deliver d z verb ys) bytes) h = λ place y e n a. g n (h place y e n a)
line_up w x g other h = tt

lines_up : (w x : World) → Grows w x → (es : List Event) → AllOf (LineWell w) es → AllOf (LineWell x) es
lines_up w x g es h = all_map (λ e l. (line_up w x g e l.0, l.1)) es h

names_grow : (s t : Vat Name) → SameNames s t → (n : Name) → IsAmong n (names_in s.known) → IsAmong n (names_in t.known)
names_grow s t same n a = let at = among_get n (names_in s.known) a in among_at n (names_in t.known) at.0 (known_on s t same at.0 n at.1)

same_grow : (w x : World) → x.vats ≡ w.vats → Grows w x
same_grow w x e n (v, s, at, k) = (v, s, subst (λ us. slice_get us v ≡ Some s) (sym e) at, k)

some_vat : (s t : Vat Name) → Some s ≡ Some t → s ≡ t
some_vat s t e = cc

put_grow : (w x : World) (v : ℕ) (s t : Vat Name) → slice_get w.vats v ≡ Some s → SameNames s t → x.vats ≡ world.put_at v t w.vats → Grows w x
put_grow w x v s t at same e n (u, q, there, k) = either (eq_dec v u)
  where
    either : (v ≡ u) ⊎ (v ≡ u → ⊥) → IsSeen x n
    either (inl i) = let is : q ≡ s = some_vat q s (sym there ∙ ap (slice_get w.vats) (sym i) ∙ at) in
        (v, t, subst (λ us. slice_get us v ≡ Some t) (sym e) (get_put w.vats v s t at), known_up (names_in s.known) (names_in t.known) (names_grow s t same) n (subst (λ (z : Vat Name). IsKnownIn (names_in z.known) n) is k))
    either (inr i) = (u, q, subst (λ us. slice_get us u ≡ Some q) (sym e) (put_beside w.vats v u t i ∙ there), k)

names_stay : (script : Script) (w : World) (v : ℕ) (s t : Vat Name) (ms : List (Message Name)) (step : Step Name Name) → does (names script v) step (readied w (record s { queue = ms })) ≡ Gives tt t → SameNames s t
unfolding readied
names_stay script w v s t ms step d = let r : Vat Name = readied w (record s { queue = ms }) in after_gives SameNames r t (does (names script v) step r) (names_stays (names script v) step r) d

-- ---- lines of no vat

quiet_well : (x : World) (es : List Event) → IsNobodys es → total is_carry es ≡ 0 → AllOf (LineWell x) es
unfolding total is_carry
quiet_well x [] none few = tt
quiet_well x (Here v e ∷ es) none few = absurd (none v e (inl refl))
quiet_well x (Carried k u v n bytes ∷ es) none few = absurd (omega arith)
quiet_well x (e ∷ es) none few = let less : total is_carry es ≡ 0 = omega arith in ((tt, tt), quiet_well x es (λ u f i. none u f (inr i)) less)

-- ---- lines of a step

-- the line of a send, as what the vat knows then
had_seen : (x : World) (v : ℕ) (t : Vat Name) → slice_get x.vats v ≡ Some t → (b : Bit Name) → IsHad (names_in t.known) t.mails b → Seen x b
had_seen x v t there (Named n) h = (v, t, there, h)
had_seen x v t there other h = tt

fits_named : (ns ms : List Name) (v : ℕ) (e : Happened Name) → LineFits ns ms e → IsNamedSo (Here v e)
fits_named ns ms v (Sends act m) h = h.0
fits_named ns ms v (Reacts act x o m) h = h.0
fits_named ns ms v other h = tt

module _ (x : World) (ls : List Link) (v : ℕ) where
  lost_well : (b : Bool) (m : Name) (rest : List Event) → AllOf (LineWell x) rest → AllOf (LineWell x) (pick b (LostCut m ∷ []) [] ++ rest)
  lost_well true m rest h = ((tt, tt), h)
  lost_well false m rest h = h

  events_well : (es : List (Happened Name)) → AllOf (SendOk (Seen x)) es → AllOf (λ e. IsNamedSo (Here v e)) es → AllOf (LineWell x) (events_of ls v es)
  unfolding events_of event_of
  events_well [] h k = tt
  events_well (Posted u m ∷ es) h k = lost_well (world.is_cut v u ls) m (events_of ls v es) (events_well es h.1 k.1)
  events_well (e ∷ es) h k = ((h.0, k.0), events_well es h.1 k.1)

module _ (script : Script) (once : KnowsOnce script) where
  record Both (w : World) : Type 0 where
    pub stands : Stands script w
    pub wire : Wire script w

  both_at : (w : World) → IsPassed script w → Both w
  both_at w (inl r) = let b = opened_both script once r.0 r.1 w r.2 r.3 in record { stands = b.0; wire = b.1 }
  both_at w (inr r) = let b = stepped_both script once r.0 w r.1 r.3 r.5 r.6 in record { stands = b.0; wire = b.1 }

  -- the line that tells of a step
  module _ (w x : World) (b : Both w) (v : ℕ) (s t : Vat Name) (at : slice_get w.vats v ≡ Some s) (there : slice_get x.vats v ≡ Some t) where
    carried_well : (k from : ℕ) (n : Note Name) (bytes : List ℕ) → NoteOk (Told script w) n → Has (names_heard (names_in s.known) n) t → LineWell x (Carried k from v n bytes)
    carried_well k from (Deliver d z verb ys) bytes ok has = (λ place y e m a. (v, t, there, known_up (names_heard (names_in s.known) (Deliver d z verb ys)) (names_in t.known) has m (note_heard (names_in s.known) d z verb ys place y e m a)), mail_fits script w.vats (Told script w) (λ m i. i.0) (Deliver d z verb ys) ok)
    carried_well k from other bytes ok has = (tt, tt)

    head_well : (ms : List (Message Name)) (head : List Event) (step : Step Name Name) → IsTaken script w v s ms head step → does (names script v) step (readied w (record s { queue = ms })) ≡ Gives tt t → AllOf (LineWell x) head
    head_well ms head (Receives from m) (k, bytes, l, n, ns, is, queue, link, whole, notes, read) gives =
        let all = at_link (λ (l : Link). AllOf (NoteOk (Told script w)) l.notes) from v l w.links b.stands.links link in
        let ok : AllOf (NoteOk (Told script w)) (n ∷ ns) = subst (λ zs. AllOf (NoteOk (Told script w)) zs) notes all.0 in
        subst (λ es. AllOf (LineWell x) es) (sym is) (carried_well k from n bytes ok.0 (arrival_heard script w v s at b.stands b.wire from n t ok.0 (rw (queue, read) at gives)), tt)
    head_well ms head (Starts tree depth root bs) taken gives = subst (λ es. AllOf (LineWell x) es) (sym taken.1) ((tt, tt), tt)
    head_well ms head (Takes tree depth m) taken gives = subst (λ es. AllOf (LineWell x) es) (sym taken.1) ((tt, tt), tt)
    head_well ms head (Notices u) taken gives = subst (λ es. AllOf (LineWell x) es) (sym taken.1) ((tt, tt), tt)

  -- ---- a run

  abbrev pub AllWell : World → Type 0
  AllWell w = AllOf (LineWell w) w.history

  quiet_on : (w x : World) (es : List Event) → AllWell w → IsNobodys es → total is_carry es ≡ 0 → x.vats ≡ w.vats → x.history ≡ w.history ++ es → AllWell x
  quiet_on w x es h none few vats more = subst (λ all. AllOf (LineWell x) all) (sym more) (all_append (LineWell x) w.history es (lines_up w x (same_grow w x vats) w.history h) (quiet_well x es none few))

  well_on : (w x : World) → Came script w → IsPassed script x → AllWell w → Leads script w x → AllWell x
  well_on w x c r h (quiet es none few vats more) = quiet_on w x es h none few vats more
  well_on w x c r h (steps v s t ms head step links at taken none d new vats more) =
      let b = both_at w (is_run script w c) in let next = both_at x r in
      let there : slice_get x.vats v ≡ Some t = subst (λ us. slice_get us v ≡ Some t) (sym vats) (get_put w.vats v s t at) in
      let grows : Grows w x = put_grow w x v s t at (names_stay script w v s t ms step d) vats in
      let fits = (next.wire.told v t there).1 in
      subst (λ all. AllOf (LineWell x) all) (sym more) (all_append (LineWell x) (w.history ++ head) (events_of links v t.happened)
      (all_append (LineWell x) w.history head (lines_up w x grows w.history h) (head_well w x b v s t at there ms head step taken d))
      (events_well x links v t.happened (all_map (send_up (IsHad (names_in t.known) t.mails) (Seen x) (had_seen x v t there)) t.happened (step_known script w v s at b.stands ms head step t taken d))
      (all_map (λ e f. fits_named (names_in t.known) t.mails v e f) t.happened fits)))

  pub came_well : (w : World) → Came script w → AllWell w
  unfolding begins
  came_well w first = tt
  came_well x (onward {w = w} c r real l) = well_on w x c r (came_well w c) l

  ended_well : (x : World) → Ended script x → AllWell x
  ended_well x (w, es, c, none, more, few, vats) = quiet_on w x es (came_well w c) none few vats more

  pub run_well : Reached AllWell (world.run script)
  run_well = by (world.run script) (run_ended script)
    where
      by : (r : Run) → Reached (Ended script) r → Reached AllWell r
      by (Goes x) e = ended_well x e
      by (Stopped i j x) e = ended_well x e

-- ---- one line

pub line_at : (P : Event → Type 0) (es : List Event) (i : ℕ) (e : Event) → AllOf P es → slice_get es i ≡ Some e → P e
line_at P es i e h q = let one : MayBe P (Some e) = rw q at (get_all P es i h) in one

pub named_seen : (x : World) (n : Name) → AllOf (LineWell x) x.history → IsNamed x.history n → IsSeen x n
named_seen x n h (target i v act m q e) = let l = line_at (LineWell x) x.history i (Here v (Sends act m)) h q in let f : ValueOk (Seen x) (Ref n) = subst (λ y. ValueOk (Seen x) y) e l.0.0 in f
named_seen x n h (argument i v act place m q e) = let l = line_at (LineWell x) x.history i (Here v (Sends act m)) h q in let f : MayBe (ValueOk (Seen x)) (Some (Ref n)) = rw e at (get_all (ValueOk (Seen x)) m.args place l.0.1) in f
named_seen x n h (passed i k u v place d z verb ys bytes y q e a) = let l = line_at (LineWell x) x.history i (Carried k u v (Deliver d z verb ys) bytes) h q in l.0 place y e n a
