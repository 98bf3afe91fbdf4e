-- What each single change of a vat keeps, each move of a world with hostile vats keeps.
use Rattle.std.proofs.Common.{◌≡◌, ℕ, zero, suc, ◌+◌, Bool, true, false, List, [], ◌∷◌, ◌++◌, Some, refl, sym, subst, length, arith}
use Rattle.std.specs.Prelude.{slice_get}
use Rattle.def_machine.specs.Values.{Name, Sent, IsLearnt, IsCarried, host_of, naming, name_of, answer_of, mail_of}
use Rattle.def_machine.specs.State.{Made, Note, Deliver, Vat, Done, Gives, ◌>>=◌, ◌>>◌, and_then, give, new_thing, new_promise, new_message, new_lone_message, draw, send_out, come, mail}
use Rattle.def_machine.specs.Arrive as arrive
use Rattle.def_machine.specs.Arrive.{Incoming, Old, New}
use Rattle.def_machine.specs.Receive.{Sight, receive}
use Rattle.law_machine.specs.Machine.Steps.{After}
use Rattle.law_machine.specs.Machine.Laws.{SameObjects, SameLists, SettledStays, NoticedStays}
use Rattle.law_machine.proofs.Machine.Keeps.{IsKept, IsKeptUnder}
use Rattle.law_machine.proofs.Machine.ArriveKeeps.{keeps_receive}
use Rattle.law_machine.proofs.Machine.StepLaws.{objects_law, objects_names, objects_stays, lists_law, lists_names, lists_stays, noticed_law, noticed_names, noticed_stays, settled_law, settled_names, settled_stays}
use Rattle.def_run.specs.Wire.{Connected}
use Rattle.def_run.specs.World as world
use Rattle.def_run.specs.World.{Script, Program, Entry, Event, Carried, World, Run, Goes as Going, put_at, readied, names, names_of}
use Rattle.law_machine.specs.Run.Runs.{EachVat}
use Rattle.law_machine.specs.Run.Moves.{Performs, Opened, Stepped, Swallowed, Says, AnyNotice, went, without}
use Rattle.law_adversary.specs.Moves.{Usual, Recorded, Framed, Received, entered_at, sight_at, framed_on, placed_from}
use Rattle.law_machine.proofs.Run.RunKeeps.{IsKeptInRuns, each_kept, run_keeps, opens_keep}
use Rattle.def_run.specs.Deeds.{Deed, NewObject, NewPromise, NewMessage, NewLone, Learns, perform, hear, hear_message}
use Rattle.def_hostile.specs.Hostile as hostile
use Rattle.def_hostile.specs.Hostile.{Play, Scene, Plays, Doing}
use Rattle.law_injected.specs.HostileRuns as runs
use Rattle.law_injected.specs.HostileRuns.{AnyDeed, NothingSaid, IsHostile}
use Rattle.law_injected.proofs.HostileReached.{Moves, Usually, all_reached}

module _ (play : Play) where
  abbrev script : Script
  script = play.script

  module _ (v : ℕ) (R : Vat Name → Vat Name → Type 0) (law : IsKept R) (under : IsKeptUnder (names play.script v) R) where
    given : (a x b : Vat Name) → R a x → Gives (tt {0}) x ≡ Gives (tt {0}) b → R a b
    given a x b c e = let same : x ≡ b = cc in rw same at c

    learnt_keeps : (n : Name) (a b : Vat Name) (c : Bool) → and_then {B = Unit {0}} (arrive.learn_name (names script v) (elim c [ true ↦ Old n | false ↦ New n (host_of n) ]) a) (λ _. give (tt {0})) ≡ Gives (tt {0}) b → R a b
    unfolding and_then give arrive.learn_name come names naming name_of
    learnt_keeps n a b true e = given a a b (law.same a) e
    learnt_keeps n a b false e = given a _ b (under.came a (IsLearnt n) (host_of n)) e

    deed_keeps : (d : Deed) (a b : Vat Name) → perform script v d a ≡ Gives tt b → R a b
    unfolding perform names names_of ◌>>◌ world.read_name and_then new_thing new_promise new_message new_lone_message give draw naming name_of mail_of answer_of
    deed_keeps NewObject a b e = given a _ b (law.thing a (Made zero [] [])) e
    deed_keeps NewPromise a b e = given a _ b (under.promised a) e
    deed_keeps (NewMessage u) a b e = given a _ b (under.messaged a u (Sent (record { sender = v; number = a.messages }))) e
    deed_keeps NewLone a b e = given a _ b (under.lone a (Sent (record { sender = v; number = a.messages }))) e
    deed_keeps (Learns n) a b e = learnt_keeps n a b _ e

    deeds_keep : (w : World) (ds : List Deed) (a t : Vat Name) → Performs script (IsHostile play) AnyNotice AnyDeed NothingSaid w v ds a t → R a t
    deeds_keep w [] a t e = subst (λ x. R a x) e (law.same a)
    deeds_keep w (d ∷ ds) a t p = law.trans (deed_keeps d a p.0 p.2) (deeds_keep w ds p.0 t p.3)

    message_keeps : (m : Name) (a b : Vat Name) → hear_message script v m true a ≡ Gives (tt {0}) b → R a b
    unfolding hear_message ◌>>=◌ and_then arrive.learn_message mail names naming mail_of
    message_keeps m a b e = let c : Vat Name = record a { mails = a.mails ++ m ∷ [] } in law.trans {t = c} (under.mailed a (IsCarried m)) (deed_keeps (Learns (answer_of v m)) c b e)

    lone_keeps : (m : Name) (a b : Vat Name) → (arrive.learn_message (names script v) (New m (host_of m)) >> give (tt {0})) a ≡ Gives (tt {0}) b → R a b
    unfolding ◌>>◌ and_then give arrive.learn_message mail names naming mail_of
    lone_keeps m a b e = given a _ b (under.mailed a (IsCarried m)) e

    hears_keep : (m : Name) (asks : Bool) (a b : Vat Name) → hear_message script v m asks a ≡ Gives tt b → R a b
    unfolding hear_message
    hears_keep m true a b e = message_keeps m a b e
    hears_keep m false a b e = lone_keeps m a b e

    hear_keeps : (n : Note Name) (a b : Vat Name) → hear script v n a ≡ Gives tt b → R a b
    unfolding hear give
    hear_keeps (Deliver d x verb ys) a b e = hears_keep d.message d.asks a b e
    hear_keeps other a b e = given a a b (law.same a) e

    says_keeps : (w : World) (u : ℕ) (n : Note Name) (ds : List Deed) (a t r : Vat Name) → Performs script (IsHostile play) AnyNotice AnyDeed NothingSaid w v ds a t → send_out u n t ≡ Gives tt r → R a r
    unfolding send_out
    says_keeps w u n ds a t r p e = law.trans (deeds_keep w ds a t p) (given t _ r (law.outbox t (record { to = u; note = n })) e)

    received_by : (a t : Vat Name) (d : Done Name (Unit {0})) → After R a d → d ≡ Gives tt t → R a t
    received_by a t (Gives x b) h e = given a b t h e
    received_by a t other h e = cc

    receive_keeps : (sight : Sight Name) (from : ℕ) (n : Note (Incoming Name Name)) (a t : Vat Name) → receive (names script v) sight from n a ≡ Gives tt t → R a t
    receive_keeps sight from n a t e = received_by a t (receive (names script v) sight from n a) ((keeps_receive (names script v) R law under sight from n).after a) e

  then_once : (r : Run) (f : World → Run) (y : World) → r ≡ Going y → f y ≡ Going y → world.then_goes r f ≡ Going y
  unfolding world.then_goes
  then_once r f y e g = rw e g

  one_open : (v : ℕ) (p : Program) (w y : World) → world.open_vat script v p w ≡ Going y → world.open_from script v (p ∷ []) w ≡ Going y
  unfolding world.open_from
  one_open v p w y e = then_once (world.open_vat script v p w) (λ z. Going z) y e refl

  one_step : (entry : Entry) (k : ℕ) (w y : World) → world.step script entry k w ≡ Going y → world.steps_from script (entry ∷ []) k w ≡ Going y
  unfolding world.steps_from
  one_step entry k w y e = then_once (world.step script entry k w) (λ z. Going z) y e refl

  module _ (R : ℕ → Vat Name → Vat Name → Type 0) (keeps : IsKeptInRuns play.script R) (law : (v : ℕ) → IsKept (R v)) (under : (v : ℕ) → IsKeptUnder (names play.script v) (R v)) where
    put_leads : (d v : ℕ) (xs : List (Vat Name)) (x y : Vat Name) → slice_get xs v ≡ Some x → R (d + v) x y → (u : ℕ) (s : Vat Name) → slice_get xs u ≡ Some s → (t : Vat Name) × (slice_get (put_at v y xs) u ≡ Some t) × R (d + u) s t
    unfolding put_at
    put_leads d v [] x y e r u s h = (s, h, keeps.same (d + u) s)
    put_leads d zero (z ∷ xs) x y e r zero s h = let e1 : x ≡ s = cc in (y, refl, rw e1 at r)
    put_leads d zero (z ∷ xs) x y e r (suc u) s h = (s, h, keeps.same (d + suc u) s)
    put_leads d (suc v) (z ∷ xs) x y e r zero s h = (s, h, keeps.same (d + zero) s)
    put_leads d (suc v) (z ∷ xs) x y e r (suc u) s h = let i : d + suc v ≡ suc d + v = omega arith in let j : suc d + u ≡ d + suc u = omega arith in let rest = put_leads (suc d) v xs x y e (rw i at r) u s h in (rest.0, rest.1, rw j at rest.2)

    went_alone : (w : World) (v : ℕ) (head : List Event) (s r : Vat Name) → slice_get w.vats v ≡ Some s → R v s r → EachVat R w (went v w head r)
    unfolding went
    went_alone w v head s r e h u q f = let i : v ≡ zero + v = omega arith in let j : zero + u ≡ u = omega arith in let rest = put_leads zero v w.vats s r e (rw i at h) u q f in (rest.0, rest.1, rw j at rest.2)

    left_each : (a v : ℕ) (ns : List (Note Name)) (w y : World) → EachVat R (without a v ns w) y → EachVat R w y
    unfolding without
    left_each a v ns w y h = h

    without_there : (a v : ℕ) (ns : List (Note Name)) (w : World) (u : ℕ) (s : Vat Name) → slice_get w.vats u ≡ Some s → slice_get (without a v ns w).vats u ≡ Some s
    unfolding without
    without_there a v ns w u s e = e

    each_is : (w x y : World) → EachVat R w x → y ≡ x → EachVat R w y
    each_is w x y h e = subst (λ z. EachVat R w z) (sym e) h

    -- what stands in frames, and the lines, do not matter
    beside_each : (w x : World) (es : List Event) (cs : List Connected) → EachVat R w x → EachVat R w (record x { connections = cs; history = es })
    beside_each w x es cs h = h

    usual_each : (w y : World) → Usually play w y → EachVat R w y
    usual_each w y (Opened front rest p o i e) = opens_keep script (EachVat R) (each_kept script R keeps) (length front) (p ∷ []) w y (one_open (length front) p w y e)
    usual_each w y (Stepped entry k o e) = run_keeps script (EachVat R) (each_kept script R keeps) (entry ∷ []) k w y (one_step entry k w y e)
    usual_each w y (Swallowed k a v l n ns s t o i c j q f e) = let z : World = went v (without a v ns w) (Carried k a v n (world.next_frame a v w.connections) ∷ []) t in each_is w z y (left_each a v ns w z (went_alone (without a v ns w) v _ s t (without_there a v ns w v s q) (keeps.trans v s (readied w s) t (keeps.ready v w s) (hear_keeps v (R v) (law v) (under v) n (readied w s) t f)))) e
    usual_each w y (Says v u s t r ds n o i p l f e) = absurd l

    said_each : (w : World) (v u : ℕ) (s t r : Vat Name) (ds : List Deed) (n : Note Name) → slice_get w.vats v ≡ Some s → Performs script (IsHostile play) AnyNotice AnyDeed NothingSaid w v ds (readied w s) t → send_out u n t ≡ Gives tt r → EachVat R w (went v w [] r)
    said_each w v u s t r ds n i p f = went_alone w v [] s r i (keeps.trans v s (readied w s) r (keeps.ready v w s) (says_keeps v (R v) (law v) (under v) w u n ds (readied w s) t r p f))

    move_each : (w y : World) → Moves play w y → EachVat R w y
    move_each w y (Usual m) = usual_each w y m
    move_each w y (Recorded h b es e) = each_is w _ y (beside_each w w (w.history ++ es) w.connections ((each_kept script R keeps).same w)) e
    move_each w y (Framed v u s t r ds n op new o i p l f e) = let x : World = went v w [] r in each_is w (framed_on w v u op n new x) y (beside_each w x x.history (framed_on w v u op n new x).connections (said_each w v u s t r ds n i p f)) e
    move_each w y (Received h b k a v l n ns s t o i c j q f e) = let head : List Event = Carried k a v (entered_at w a v s n) (world.next_frame a v w.connections) ∷ [] in let z : World = went v (without a v ns w) head t in
        each_is w (placed_from a v (entered_at w a v s n) w t z) y (beside_each w z z.history (placed_from a v (entered_at w a v s n) w t z).connections (left_each a v ns w z (went_alone (without a v ns w) v _ s t (without_there a v ns w v s q) (keeps.trans v s (readied w s) t (keeps.ready v w s) (receive_keeps v (R v) (law v) (under v) (sight_at w a v s) a _ (readied w s) t f))))) e

    pub doings_keep : (who : ℕ) → IsHostile play who → (ds : List Doing) (k : ℕ) (s t : Scene) → hostile.does_all play ds k s ≡ Plays t → EachVat R s.world t.world
    doings_keep who bad ds k s t e = all_reached play who bad (EachVat R s.world) (λ w y h m. (each_kept script R keeps).trans s.world w y h (move_each w y m)) ds k s t ((each_kept script R keeps).same s.world) e

module _ (script : Script) where
  objects : IsKeptInRuns script (λ v. SameObjects)
  unfolding readied
  objects = record { same = λ v s. objects_law.same s; trans = λ v s t u h k. objects_law.trans {s = s} {t = t} {u = u} h k; steps = λ v what s. objects_stays (names script v) what s; ready = λ v w s. objects_law.same s; taken = λ v s ms. objects_law.same s }

  lists : IsKeptInRuns script (λ v. SameLists)
  unfolding readied
  lists = record { same = λ v s. lists_law.same s; trans = λ v s t u h k. lists_law.trans {s = s} {t = t} {u = u} h k; steps = λ v what s. lists_stays (names script v) what s; ready = λ v w s. lists_law.same s; taken = λ v s ms. lists_law.same s }

  notices : IsKeptInRuns script (λ v. NoticedStays)
  unfolding readied
  notices = record { same = λ v s i e. e; trans = λ v s t u h k i e. k i (h i e); steps = λ v what s. noticed_stays (names script v) what s; ready = λ v w s i e. e; taken = λ v s ms i e. e }

  settlings : IsKeptInRuns script (λ v. SettledStays (names script v))
  unfolding readied
  settlings = record { same = λ v s. (settled_law (names script v)).same s; trans = λ v s t u h k. (settled_law (names script v)).trans {s = s} {t = t} {u = u} h k; steps = λ v what s. settled_stays (names script v) what s; ready = λ v w s. (settled_law (names script v)).same s; taken = λ v s ms. (settled_law (names script v)).same s }

pub undone : runs.HostileRunsUndoNothing
undone = (
  λ play who bad ds k s t e. doings_keep play (λ v. SameObjects) (objects play.script) (λ v. objects_law) (λ v. objects_names (names play.script v)) who bad ds k s t e,
  λ play who bad ds k s t e. doings_keep play (λ v. SameLists) (lists play.script) (λ v. lists_law) (λ v. lists_names (names play.script v)) who bad ds k s t e,
  λ play who bad ds k s t e. doings_keep play (λ v. NoticedStays) (notices play.script) (λ v. noticed_law) (λ v. noticed_names (names play.script v)) who bad ds k s t e,
  λ play who bad ds k s t e. doings_keep play (λ v. SettledStays (names play.script v)) (settlings play.script) (λ v. settled_law (names play.script v)) (λ v. settled_names (names play.script v)) who bad ds k s t e,
)
