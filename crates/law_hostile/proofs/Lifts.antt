-- What each single change of a vat keeps, each move keeps; and what each step keeps of the state of a vat, and what is said keeps, holds of each vat that is reached.
use Rattle.std.proofs.Common.{◌≡◌, ℕ, zero, suc, ◌+◌, Bool, true, false, List, [], ◌∷◌, ◌++◌, Some, refl, sym, subst, ◌⊎◌, inl, inr, length, arith}
use Rattle.std.specs.Prelude.{slice_get}
use Rattle.def_machine.specs.Values.{Name, Promise, Answer, Sent, Msg, IsLearnt, IsCarried, host_of, naming, name_of, answer_of, mail_of}
use Rattle.def_machine.specs.State.{Thing, Made, Note, Deliver, Put, Vat, Done, Gives, ◌>>=◌, ◌>>◌, and_then, give, new_thing, new_promise, new_message, new_lone_message, draw, send_out, begun, come, mail}
use Rattle.def_machine.specs.Arrive as arrive
use Rattle.def_machine.specs.Arrive.{Incoming, Old, New}
use Rattle.def_machine.specs.Receive.{Sight, receive}
use Rattle.law_machine.specs.Machine.Steps.{After}
use Rattle.def_run.specs.Wire.{Connected}
use Rattle.law_machine.proofs.Machine.Keeps.{IsKept, IsKeptUnder}
use Rattle.def_run.specs.World as world
use Rattle.def_run.specs.World.{Script, Program, Entry, Event, Carried, World, Run, Goes as Going, put_at, readied, names, names_of, read_note}
use Rattle.law_machine.specs.Run.Runs.{EachVat}
use Rattle.law_machine.proofs.Run.RunKeeps.{IsKeptInRuns, each_kept, run_keeps, opens_keep}
use Rattle.law_fate.specs.Name.Names.{Once, NoteOk, IsMade}
use Rattle.law_fate.proofs.Name.Facts.{note_up}
use Rattle.law_fate.proofs.Name.Run.{Stands, Told}
use Rattle.law_reference.proofs.Reference.RunLift.{StepsKeep, InVats, put_at_or, step_keeps, opened_keeps, all_allowed}
use Rattle.law_reference.proofs.Reference.Gentle.{IsGentle, AfterGives}
use Rattle.law_machine.specs.Run.Moves.{Deed, NewObject, NewPromise, NewMessage, NewLone, Learns, Performs, perform, Opened, Stepped, Swallowed, Says, AnyNotice, went, without, hear, hear_message}
use Rattle.law_adversary.specs.Moves.{Usual, Recorded, Framed, Received, entered_at, sight_at, framed_on, placed_from}
use Rattle.law_adversary.proofs.Lift.{frames_lifted}
use Rattle.law_hostile.specs.Hostile.{May, Lawful, IsHostile, IsReached, Leads}
use Rattle.law_hostile.proofs.Comes.{TellsAs, as_before, one_more, Coming, Passes, Lands, comes}
use Rattle.law_hostile.proofs.EnteredNames.{made_entries}
use Rattle.law_hostile.proofs.Known.{Moves, Usually, left_stands, drew_stands, drew_told, reached_stands}

-- what is to be shown of a relation, for what a hostile record does
pub record IsKeptByDeeds (v : ℕ) (R : Vat Name → Vat Name → Type 0) : Type 0 where
  pub same : (s : Vat Name) → R s s
  pub trans : (s t u : Vat Name) → R s t → R t u → R s u
  pub thing : (s : Vat Name) (x : Thing Name) → R s (record s { things = s.things ++ x ∷ [] })
  pub drawn : (s : Vat Name) (i : ℕ) → R s (record s { drawn = s.drawn ++ i ∷ [] })
  pub came : (s : Vat Name) (n : Name) (h : ℕ) → R s (record s { known = s.known ++ begun n h ∷ [] })
  pub promised : (s : Vat Name) → R s (record s { promises = suc s.promises; known = s.known ++ begun (Promise v s.promises) s.number ∷ [] })
  pub messaged : (s : Vat Name) (h : ℕ) → let m : Msg = record { sender = v; number = s.messages } in R s (record s { messages = suc s.messages; mails = s.mails ++ Sent m ∷ []; known = s.known ++ begun (Answer h m) h ∷ [] })
  pub lone : (s : Vat Name) → R s (record s { messages = suc s.messages; mails = s.mails ++ Sent (record { sender = v; number = s.messages }) ∷ [] })
  pub mailed : (s : Vat Name) (m : Name) → R s (record s { mails = s.mails ++ m ∷ [] })
  pub out : (s : Vat Name) (p : Put Name) → R s (record s { outbox = s.outbox ++ p ∷ [] })

-- so is what each single change keeps
pub single_deeds : (word : ℕ → ℕ) (v : ℕ) (R : Vat Name → Vat Name → Type 0) → IsKept R → IsKeptUnder (naming word v) R → IsKeptByDeeds v R
unfolding naming name_of answer_of mail_of
single_deeds word v R law under = record {
  same = law.same;
  trans = λ s t u h k. law.trans h k;
  thing = law.thing;
  drawn = law.drawn;
  came = λ s n h. under.came s (IsLearnt n) h;
  promised = under.promised;
  messaged = λ s h. under.messaged s h (Sent (record { sender = v; number = s.messages }));
  lone = λ s. under.lone s (Sent (record { sender = v; number = s.messages }));
  mailed = λ s m. under.mailed s (IsCarried m);
  out = law.outbox;
}

-- and what each change but settling and views keeps, where it does not look at things
pub gentle_deeds : (word : ℕ → ℕ) (v : ℕ) (R : Vat Name → Vat Name → Type 0) → IsGentle (naming word v) R → ((s : Vat Name) (x : Thing Name) → R s (record s { things = s.things ++ x ∷ [] })) → IsKeptByDeeds v R
unfolding naming name_of answer_of mail_of
gentle_deeds word v R law things = record {
  same = law.same;
  trans = λ s t u h k. law.trans h k;
  thing = things;
  drawn = law.drawn;
  came = λ s n h. law.came s (IsLearnt n) h;
  promised = law.promised;
  messaged = λ s h. law.messaged s h (Sent (record { sender = v; number = s.messages }));
  lone = λ s. law.lone s (Sent (record { sender = v; number = s.messages }));
  mailed = λ s m. law.mailed s (IsCarried m);
  out = law.outbox;
}

module _ (script : Script) (hs : List ℕ) where
  module _ (v : ℕ) (R : Vat Name → Vat Name → Type 0) (law : IsKeptByDeeds v R) where
    given : (a x b : Vat Name) → R a x → Gives (tt {0}) x ≡ Gives (tt {0}) b → R a b
    given a x b c e = let same : x ≡ b = cc in rw same at c

    learnt_keeps : (n : Name) (a b : Vat Name) (c : Bool) → and_then {B = Unit {0}} (arrive.learn_name (names script v) (elim c [ true ↦ Old n | false ↦ New n (host_of n) ]) a) (λ _. give (tt {0})) ≡ Gives (tt {0}) b → R a b
    unfolding and_then give arrive.learn_name come names naming name_of
    learnt_keeps n a b true e = given a a b (law.same a) e
    learnt_keeps n a b false e = given a _ b (law.came a n (host_of n)) e

    pub deed_keeps : (d : Deed) (a b : Vat Name) → perform script v d a ≡ Gives tt b → R a b
    unfolding perform names names_of ◌>>◌ world.read_name and_then new_thing new_promise new_message new_lone_message give draw naming name_of mail_of answer_of
    deed_keeps NewObject a b e = given a _ b (law.thing a (Made zero [] [])) e
    deed_keeps NewPromise a b e = given a _ b (law.promised a) e
    deed_keeps (NewMessage u) a b e = given a _ b (law.messaged a u) e
    deed_keeps NewLone a b e = given a _ b (law.lone a) e
    deed_keeps (Learns n) a b e = learnt_keeps n a b _ e

    deeds_keep : (w : World) (ds : List Deed) (a t : Vat Name) → Performs script (IsHostile hs) AnyNotice (λ w v s d. May script w v s d) (λ w v u s n. Lawful script w v u s n) w v ds a t → R a t
    deeds_keep w [] a t e = subst (λ x. R a x) e (law.same a)
    deeds_keep w (d ∷ ds) a t p = law.trans a p.0 t (deed_keeps d a p.0 p.2) (deeds_keep w ds p.0 t p.3)

    message_keeps : (m : Name) (a b : Vat Name) → hear_message script v m true a ≡ Gives (tt {0}) b → R a b
    unfolding hear_message ◌>>=◌ and_then arrive.learn_message mail names naming mail_of
    message_keeps m a b e = let c : Vat Name = record a { mails = a.mails ++ m ∷ [] } in law.trans a c b (law.mailed a m) (deed_keeps (Learns (answer_of v m)) c b e)

    lone_keeps : (m : Name) (a b : Vat Name) → (arrive.learn_message (names script v) (New m (host_of m)) >> give (tt {0})) a ≡ Gives (tt {0}) b → R a b
    unfolding ◌>>◌ and_then give arrive.learn_message mail names naming mail_of
    lone_keeps m a b e = given a _ b (law.mailed a m) e

    hears_keep : (m : Name) (asks : Bool) (a b : Vat Name) → hear_message script v m asks a ≡ Gives tt b → R a b
    unfolding hear_message
    hears_keep m true a b e = message_keeps m a b e
    hears_keep m false a b e = lone_keeps m a b e

    pub hear_keeps : (n : Note Name) (a b : Vat Name) → hear script v n a ≡ Gives tt b → R a b
    unfolding hear give
    hear_keeps (Deliver d x verb ys) a b e = hears_keep d.message d.asks a b e
    hear_keeps other a b e = given a a b (law.same a) e

    pub says_keeps : (w : World) (u : ℕ) (n : Note Name) (ds : List Deed) (a t r : Vat Name) → Performs script (IsHostile hs) AnyNotice (λ w v s d. May script w v s d) (λ w v u s n. Lawful script w v u s n) w v ds a t → send_out u n t ≡ Gives tt r → R a r
    unfolding send_out
    says_keeps w u n ds a t r p e = law.trans a t r (deeds_keep w ds a t p) (given t _ r (law.out t (record { to = u; note = n })) e)

  then_once : (r : Run) (f : World → Run) (y : World) → r ≡ Going y → f y ≡ Going y → world.then_goes r f ≡ Going y
  unfolding world.then_goes
  then_once r f y e g = rw e g

  one_open : (v : ℕ) (p : Program) (w y : World) → world.open_vat script v p w ≡ Going y → world.open_from script v (p ∷ []) w ≡ Going y
  unfolding world.open_from
  one_open v p w y e = then_once (world.open_vat script v p w) (λ z. Going z) y e refl

  one_step : (entry : Entry) (k : ℕ) (w y : World) → world.step script entry k w ≡ Going y → world.steps_from script (entry ∷ []) k w ≡ Going y
  unfolding world.steps_from
  one_step entry k w y e = then_once (world.step script entry k w) (λ z. Going z) y e refl

  -- ---- from one world to another

  module _ (R : ℕ → Vat Name → Vat Name → Type 0) (runs : IsKeptInRuns script R) (deeds : (v : ℕ) → IsKeptByDeeds v (R v)) (receives : (v from : ℕ) (sight : Sight Name) (n : Note (Incoming Name Name)) (s : Vat Name) → After (R v) s (receive (names script v) sight from n s)) where
    put_leads : (d v : ℕ) (xs : List (Vat Name)) (x y : Vat Name) → slice_get xs v ≡ Some x → R (d + v) x y → (u : ℕ) (s : Vat Name) → slice_get xs u ≡ Some s → (t : Vat Name) × (slice_get (put_at v y xs) u ≡ Some t) × R (d + u) s t
    unfolding put_at
    put_leads d v [] x y e r u s h = (s, h, runs.same (d + u) s)
    put_leads d zero (z ∷ xs) x y e r zero s h = let e1 : x ≡ s = cc in (y, refl, rw e1 at r)
    put_leads d zero (z ∷ xs) x y e r (suc u) s h = (s, h, runs.same (d + suc u) s)
    put_leads d (suc v) (z ∷ xs) x y e r zero s h = (s, h, runs.same (d + zero) s)
    put_leads d (suc v) (z ∷ xs) x y e r (suc u) s h = let i : d + suc v ≡ suc d + v = omega arith in let j : suc d + u ≡ d + suc u = omega arith in let rest = put_leads (suc d) v xs x y e (rw i at r) u s h in (rest.0, rest.1, rw j at rest.2)

    went_each : (w : World) (v : ℕ) (head : List Event) (s r : Vat Name) → slice_get w.vats v ≡ Some s → R v s r → EachVat R w (went v w head r)
    unfolding went
    went_each w v head s r e h u q f = let i : v ≡ zero + v = omega arith in let j : zero + u ≡ u = omega arith in let rest = put_leads zero v w.vats s r e (rw i at h) u q f in (rest.0, rest.1, rw j at rest.2)

    left_each : (a v : ℕ) (ns : List (Note Name)) (w y : World) → EachVat R (without a v ns w) y → EachVat R w y
    unfolding without
    left_each a v ns w y h = h

    without_there : (a v : ℕ) (ns : List (Note Name)) (w : World) (u : ℕ) (s : Vat Name) → slice_get w.vats u ≡ Some s → slice_get (without a v ns w).vats u ≡ Some s
    unfolding without
    without_there a v ns w u s e = e

    each_is : (w x y : World) → EachVat R w x → y ≡ x → EachVat R w y
    each_is w x y h e = subst (λ z. EachVat R w z) (sym e) h

    -- what stands in frames, and the lines, do not matter
    beside_each : (w x : World) (es : List Event) (cs : List Connected) → EachVat R w x → EachVat R w (record x { connections = cs; history = es })
    beside_each w x es cs h = h

    gave_is : (x t : Vat Name) → Gives (tt {0}) x ≡ Gives (tt {0}) t → x ≡ t
    gave_is x t e = cc

    received : (v : ℕ) (s t : Vat Name) (d : Done Name (Unit {0})) → After (R v) s d → d ≡ Gives tt t → R v s t
    received v s t (Gives u x) h e = subst (λ z. R v s z) (gave_is x t e) h
    received v s t other h e = cc

    usual_each : (w y : World) → Usually script hs w y → EachVat R w y
    usual_each w y (Opened front rest p o i e) = opens_keep script (EachVat R) (each_kept script R runs) (length front) (p ∷ []) w y (one_open (length front) p w y e)
    usual_each w y (Stepped entry k o e) = run_keeps script (EachVat R) (each_kept script R runs) (entry ∷ []) k w y (one_step entry k w y e)
    usual_each w y (Swallowed k a v l n ns s t o i c j q f e) = let head : List Event = Carried k a v n (world.next_frame a v w.connections) ∷ [] in each_is w (went v (without a v ns w) head t) y (left_each a v ns w (went v (without a v ns w) head t) (went_each (without a v ns w) v head s t (without_there a v ns w v s q) (runs.trans v s (readied w s) t (runs.ready v w s) (hear_keeps v (R v) (deeds v) n (readied w s) t f)))) e
    usual_each w y (Says v u s t r ds n o i p l f e) = each_is w (went v w [] r) y (went_each w v [] s r i (runs.trans v s (readied w s) r (runs.ready v w s) (says_keeps v (R v) (deeds v) w u n ds (readied w s) t r p f))) e

    move_each : (w y : World) → Moves script hs w y → EachVat R w y
    move_each w y (Usual m) = usual_each w y m
    move_each w y (Recorded h b es e) = each_is w _ y (beside_each w w (w.history ++ es) w.connections ((each_kept script R runs).same w)) e
    move_each w y (Framed v u s t r ds n op new o i p l f e) = let x : World = went v w [] r in each_is w (framed_on w v u op n new x) y (beside_each w x x.history (framed_on w v u op n new x).connections (usual_each w x (Says v u s t r ds n o i p l f refl))) e
    move_each w y (Received h b k a v l n ns s t o i c j q f e) = let head : List Event = Carried k a v (entered_at w a v s n) (world.next_frame a v w.connections) ∷ [] in let z : World = went v (without a v ns w) head t in
        each_is w (placed_from a v (entered_at w a v s n) w t z) y (beside_each w z z.history (placed_from a v (entered_at w a v s n) w t z).connections (left_each a v ns w z (went_each (without a v ns w) v head s t (without_there a v ns w v s q) (runs.trans v s (readied w s) t (runs.ready v w s) (received v (readied w s) t _ (receives v a (sight_at w a v s) _ (readied w s)) f))))) e

    pub leads_each : (w : World) (ys : List World) (x : World) → Leads script hs w ys x → EachVat R w x
    leads_each w [] x e = each_is w w x ((each_kept script R runs).same w) (sym e)
    leads_each w (y ∷ ys) x p = (each_kept script R runs).trans w y x (leads_each w ys y p.1) (move_each y x p.0)

  -- ---- what holds of each vat that is reached

  abbrev pub AnyOf : ℕ → ℕ → Type 0
  AnyOf v to = Unit {0}

  module _ (P : ℕ → Vat Name → Type 0) (law : StepsKeep script P AnyOf)
      (says : (w : World) (v u : ℕ) (s t r : Vat Name) (ds : List Deed) (n : Note Name) → Stands script w → slice_get w.vats v ≡ Some s → Performs script (IsHostile hs) AnyNotice (λ w v s d. May script w v s d) (λ w v u s n. Lawful script w v u s n) w v ds (readied w s) t → Lawful script w v u t n → send_out u n t ≡ Gives tt r → P v s → P v r)
      (hears : (w : World) (v : ℕ) (s t : Vat Name) (n : Note Name) → Stands script w → NoteOk (Told script w) n → slice_get w.vats v ≡ Some s → hear script v n (readied w s) ≡ Gives tt t → P v s → P v t)
      (passes : (w : World) (v : ℕ) (s : Vat Name) → P v s → P v (readied w s)) where
    abbrev All : World → Type 0
    All w = InVats script P AnyOf w

    is_so : (x y : World) → All x → y ≡ x → All y
    is_so x y h e = rw (sym e) at h

    put_one : (w : World) (v : ℕ) (r : Vat Name) → All w → P v r → (u : ℕ) (q : Vat Name) → ((u ≡ v) × (r ≡ q)) ⊎ (slice_get w.vats u ≡ Some q) → P u q
    put_one w v r h k u q (inl e) = let one : P u r = rw (sym e.0) at k in rw e.1 at one
    put_one w v r h k u q (inr e) = h u q e

    went_all : (w : World) (v : ℕ) (head : List Event) (r : Vat Name) → All w → P v r → All (went v w head r)
    unfolding went
    went_all w v head r h k u q e = put_one w v r h k u q (put_at_or v r w.vats u q e)

    left_all : (a v : ℕ) (ns : List (Note Name)) (w : World) → All w → All (without a v ns w)
    unfolding without
    left_all a v ns w h = h

    -- ---- a note is received

    after_is : (v : ℕ) (t : Vat Name) (d : Done Name (Unit {0})) → AfterGives (P v) d → d ≡ Gives tt t → P v t
    after_is v t d h e = rw e at h

    landed_all : (x : World) (a v : ℕ) (s t : Vat Name) (n m : Note Name) → Stands script x → NoteOk (Told script x) n → slice_get x.vats v ≡ Some s → P v s → TellsAs v n m → arrive.arrive (names script v) a (read_note (names_of s) m) (readied x s) ≡ Gives tt t → P v t
    landed_all x a v s t n m g o q h alike f = after_is v t _ (law.note x a v s m g q (alike.names (IsMade x.vats x.drawn) (made_entries x.vats x.drawn) (note_up (Told script x) (IsMade x.vats x.drawn) (λ b k. k.0) n o)) h) f

    received_all : (w : World) (a v : ℕ) (s t : Vat Name) (n : Note Name) → Stands script w → NoteOk (Told script w) n → slice_get w.vats v ≡ Some s → P v s → Coming script w a v s t n → P v t
    received_all w a v s t n g o q h (Passes none same) = subst (λ z. P v z) same (passes w v s h)
    received_all w a v s t n g o q h (Lands _ m as_before alike f) = landed_all w a v s t n m g o q h alike f
    received_all w a v s t n g o q h (Lands _ m (one_more i) alike f) = let x : World = record w { drawn = w.drawn ++ i ∷ [] } in landed_all x a v s t n m (drew_stands script w x (one_more i) g) (drew_told script w x n (one_more i) o) q h alike f

    beside_all : (x : World) (es : List Event) (cs : List Connected) → All x → All (record x { connections = cs; history = es })
    beside_all x es cs h = h

    usual_all : (w y : World) → Stands script w → All w → Usually script hs w y → All y
    usual_all w y g h (Opened front rest p o i e) = opened_keeps script P AnyOf law (length front) p w y g h e
    usual_all w y g h (Stepped entry k o e) = step_keeps script P AnyOf law entry k w y g (all_allowed AnyOf (λ v to. tt) (entry ∷ [])).0 h e
    usual_all w y g h (Swallowed k a v l n ns s t o i c j q f e) = is_so _ y (went_all (without a v ns w) v _ t (left_all a v ns w h) (hears w v s t n g (left_stands script a v l n ns w i j g).1 q f (h v s q))) e
    usual_all w y g h (Says v u s t r ds n o i p l f e) = is_so (went v w [] r) y (went_all w v [] r h (says w v u s t r ds n g i p l f (h v s i))) e

    move_all : (w y : World) → Stands script w → All w → Moves script hs w y → All y
    move_all w y g h (Usual m) = usual_all w y g h m
    move_all w y g h (Recorded b o es e) = is_so _ y (beside_all w (w.history ++ es) w.connections h) e
    move_all w y g h (Framed v u s t r ds n op new o i p l f e) = let x : World = went v w [] r in is_so (framed_on w v u op n new x) y (beside_all x x.history (framed_on w v u op n new x).connections (usual_all w x g h (Says v u s t r ds n o i p l f refl))) e
    move_all w y g h (Received b p k a v l n ns s t o i c j q f e) = let head : List Event = Carried k a v (entered_at w a v s n) (world.next_frame a v w.connections) ∷ [] in let x : World = went v (without a v ns w) head t in
        let one : All x = went_all (without a v ns w) v head t (left_all a v ns w h) (received_all w a v s t n g (left_stands script a v l n ns w i j g).1 q (h v s q) (comes script w a v s t n _ (sight_at w a v s) f)) in is_so (placed_from a v (entered_at w a v s n) w t x) y (beside_all x x.history (placed_from a v (entered_at w a v s n) w t x).connections one) e

    pub reached_all : ((v : ℕ) (p : Program) → slice_get script.vats v ≡ Some p → Once (v ∷ p.knows)) → All (world.begins script) → (w : World) → IsReached script hs w → All w
    reached_all once begun w r = frames_lifted script (IsHostile hs) AnyNotice (λ w v s d. May script w v s d) (λ w v u s n. Lawful script w v u s n) (λ w v u s n op new. Lawful script w v u s n) All begun (λ w y q h m. move_all w y (reached_stands script hs once w q) h m) w r
