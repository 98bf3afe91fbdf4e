-- Answers follow their messages, in each world that is reached with hostile vats.
use Rattle.std.proofs.Common.{◌≡◌, ℕ, List, [], ◌∷◌, ◌++◌, Some, refl, sym, subst, ap, ◌∙◌, ◌⊎◌, inl, inr, length, arith, Bool, true, false}
use Rattle.std.specs.Prelude.{slice_get}
use Rattle.def_machine.specs.Values.{Name, Promise, Answer, Sent, Msg, host_of, naming, name_of, answer_of, mail_of}
use Rattle.def_machine.specs.State.{Known, Note, Deliver, Put, Vat, Done, Gives, ◌>>=◌, ◌>>◌, and_then, give, come, mail, send_out, begun}
use Rattle.def_machine.specs.Arrive as arrive
use Rattle.def_machine.specs.Arrive.{Old, New}
use Rattle.def_run.specs.Wire.{Connected}
use Rattle.def_run.specs.World as world
use Rattle.def_run.specs.World.{is_old, next_frame, Script, Program, Event, Carried, Link, World, link_at, put_at, push_all, with_link, with_notes, readied, names, names_of, read_note}
use Rattle.law_machine.specs.Machine.Steps.{Receives, does}
use Rattle.law_fate.specs.Name.Names.{AllOf, IsAmong, IsMessageMade, NoteOk, names_in, Once}
use Rattle.law_fate.proofs.Name.Among.{among_more, among_last, among_or, names_end}
use Rattle.law_fate.proofs.Name.Run.{Stands, Told}
use Rattle.law_fate.proofs.Name.SameNames.{old_known}
use Rattle.law_reference.proofs.Reference.OwnRuns.{InScript}
use Rattle.law_reference.proofs.Reference.NotesRuns.{links_of}
use Rattle.law_reference.specs.Reference.Behind.{Avoids, Bears, IsKnownTo}
use Rattle.law_reference.proofs.Reference.Gentle.{AfterGives}
use Rattle.law_reference.proofs.Reference.Arrived.{Stays, steps_stay}
use Rattle.law_reference.proofs.Reference.FirstSteps.{FirstOut, note_first}
use Rattle.law_reference.proofs.Reference.First.{PutsFirst}
use Rattle.law_reference.proofs.Reference.Follow.{put_cases, goes_known, goes_follow}
use Rattle.law_reference.proofs.Reference.FollowRuns.{Past, Holds, after_gives, taken_known, taken_follow, stepped_follow, outs_known, there_next, bearer_known, arrives_first, holds_on, begins_holds}
use Rattle.law_reference.proofs.Reference.Moves.{Does, waiting, entry_moves, opening_moves, get_mid}
use Rattle.law_machine.specs.Run.Moves.{Deed, Move, Opened, Stepped, Swallowed, Says, AnyNotice, Performs, went, without, perform, hear, hear_message}
use Rattle.law_adversary.specs.Moves.{FrameMove, Usual, Recorded, Framed, Received, FramesFollow, entered_at, sight_at, framed_on, placed_from}
use Rattle.law_adversary.proofs.Lift.{frames_lifted}
use Rattle.law_hostile.specs.Hostile as hostile
use Rattle.law_hostile.specs.Hostile.{May, Lawful, AnswersFirst, IsHostile, IsReached, IsReachedInOrder}
use Rattle.law_hostile.proofs.Comes.{TellsAs, avoids_entries, as_before, one_more, Coming, Passes, Lands, comes}
use Rattle.law_hostile.proofs.Known.{beside_stands, left_stands, told_entries, drew_stands, drew_told}
use Rattle.law_hostile.proofs.Ends.{ready_clean, heard_own, deeds_own, reached_fits}
use Rattle.law_hostile.proofs.Lifts.{IsKeptByDeeds, says_keeps, hear_keeps}

abbrev Grows : Vat Name → Vat Name → Type 0
Grows s t = (n : Name) → IsAmong n (names_in s.known) → IsAmong n (names_in t.known)

more_known : (ks : List (Known Name)) (k : Known Name) (n : Name) → IsAmong n (names_in ks) → IsAmong n (names_in (ks ++ k ∷ []))
more_known ks k n a = rw (sym (names_end ks k)) at (among_more n (names_in ks) k.name a)

deeds_grow : (v : ℕ) → IsKeptByDeeds v Grows
deeds_grow v = record {
  same = λ s n a. a;
  trans = λ s t u h k n a. k n (h n a);
  thing = λ s x n a. a;
  drawn = λ s i n a. a;
  came = λ s x h n a. more_known s.known (begun x h) n a;
  promised = λ s n a. more_known s.known (begun (Promise v s.promises) s.number) n a;
  messaged = λ s h n a. more_known s.known (begun (Answer h (record { sender = v; number = s.messages })) h) n a;
  lone = λ s n a. a;
  mailed = λ s m n a. a;
  out = λ s p n a. a;
}

module _ (script : Script) (hs : List ℕ) where
  abbrev Ordered : World → World → Type 0
  Ordered w y = FrameMove script (IsHostile hs) AnyNotice (λ w v s d. May script w v s d) (λ w v u s n. Lawful script w v u s n × AnswersFirst w v u s n) (λ w v u s n op new. Lawful script w v u s n × AnswersFirst w v u s n) w y

  abbrev Usually : World → World → Type 0
  Usually w y = Move script (IsHostile hs) AnyNotice (λ w v s d. May script w v s d) (λ w v u s n. Lawful script w v u s n × AnswersFirst w v u s n) w y

  performs : (w : World) (v : ℕ) (ds : List Deed) (a t : Vat Name) → Performs script (IsHostile hs) AnyNotice (λ w v s d. May script w v s d) (λ w v u s n. Lawful script w v u s n × AnswersFirst w v u s n) w v ds a t → Performs script (IsHostile hs) AnyNotice (λ w v s d. May script w v s d) (λ w v u s n. Lawful script w v u s n) w v ds a t
  performs w v [] a t h = h
  performs w v (d ∷ ds) a t h = (h.0, h.1, h.2, performs w v ds h.0 t h.3)

  -- ---- what is so reached is reached

  weaker : (w y : World) → Ordered w y → FrameMove script (IsHostile hs) AnyNotice (λ w v s d. May script w v s d) (λ w v u s n. Lawful script w v u s n) (λ w v u s n op new. Lawful script w v u s n) w y
  weaker w y (Usual (Opened front rest p o i e)) = Usual (Opened front rest p o i e)
  weaker w y (Usual (Stepped entry k o e)) = Usual (Stepped entry k o e)
  weaker w y (Recorded h o es e) = Recorded h o es e
  weaker w y (Framed v u s t r ds n op new o i p l f e) = Framed v u s t r ds n op new o i (performs w v ds (readied w s) t p) l.0 f e
  weaker w y (Received h o k a v l n ns s t i c j q r f e) = Received h o k a v l n ns s t i c j q r f e
  weaker w y (Usual (Swallowed k a v l n ns s t o i c j q f e)) = Usual (Swallowed k a v l n ns s t o i c j q f e)
  weaker w y (Usual (Says v u s t r ds n o i p l f e)) = Usual (Says v u s t r ds n o i (performs w v ds (readied w s) t p) l.0 f e)

  follows : (ws : List World) (y : World) → FramesFollow script (IsHostile hs) AnyNotice (λ w v s d. May script w v s d) (λ w v u s n. Lawful script w v u s n × AnswersFirst w v u s n) (λ w v u s n op new. Lawful script w v u s n × AnswersFirst w v u s n) ws y → FramesFollow script (IsHostile hs) AnyNotice (λ w v s d. May script w v s d) (λ w v u s n. Lawful script w v u s n) (λ w v u s n op new. Lawful script w v u s n) ws y
  follows [] y h = h
  follows (w ∷ ws) y h = (weaker w y h.0, follows ws w h.1)

  reached : (w : World) → IsReachedInOrder script hs w → IsReached script hs w
  reached w r = (r.0, follows r.0 w r.1)

  -- ---- what comes

  given_known : (v g : ℕ) (n : Name) (a x b : Vat Name) → x.known ≡ a.known ++ begun n g ∷ [] → host_of n ≡ v → Gives (tt {0}) x ≡ Gives (tt {0}) b → (z : Name) → IsAmong z (names_in b.known) → IsAmong z (names_in a.known) ⊎ (host_of z ≡ v)
  unfolding begun
  given_known v g n a x b i h e z k = let same : x ≡ b = cc in let one : IsAmong z (names_in x.known) = rw (sym same) at k in let two : IsAmong z (names_in (a.known ++ begun n g ∷ [])) = rw (ap names_in i) at one in
      either (among_or z (names_in a.known) n (three two))
    where
      three : IsAmong z (names_in (a.known ++ begun n g ∷ [])) → IsAmong z (names_in a.known ++ n ∷ [])
      three m = rw (names_end a.known (begun n g)) at m

      either : IsAmong z (names_in a.known) ⊎ (z ≡ n) → IsAmong z (names_in a.known) ⊎ (host_of z ≡ v)
      either (inl m) = inl m
      either (inr f) = inr (ap host_of f ∙ h)

  given_same : (v : ℕ) (a b : Vat Name) → Gives (tt {0}) a ≡ Gives (tt {0}) b → (z : Name) → IsAmong z (names_in b.known) → IsAmong z (names_in a.known) ⊎ (host_of z ≡ v)
  given_same v a b e z k = let same : a ≡ b = cc in inl (rw (sym same) at k)

  -- a name of the vat's own that is learnt, be it known or not
  learnt_known : (v : ℕ) (n : Name) (a b : Vat Name) (c : Bool) → host_of n ≡ v → and_then {B = Unit {0}} (arrive.learn_name (names script v) (elim c [ true ↦ Old n | false ↦ New n (host_of n) ]) a) (λ _. give (tt {0})) ≡ Gives (tt {0}) b → (z : Name) → IsAmong z (names_in b.known) → IsAmong z (names_in a.known) ⊎ (host_of z ≡ v)
  unfolding and_then give arrive.learn_name come names naming name_of
  learnt_known v n a b true h e = given_same v a b e
  learnt_known v n a b false h e = given_known v (host_of n) n a _ b refl h e

  message_known : (v : ℕ) (vats : List (Vat Name)) (m : Name) (a b : Vat Name) → IsMessageMade vats m → hear_message script v m true a ≡ Gives (tt {0}) b → (z : Name) → IsAmong z (names_in b.known) → IsAmong z (names_in a.known) ⊎ (host_of z ≡ v)
  unfolding hear_message perform names names_of ◌>>=◌ ◌>>◌ world.read_name and_then give arrive.learn_message mail naming mail_of answer_of host_of
  message_known v vats (Sent x) a b m e = learnt_known v (Answer v x) (record a { mails = a.mails ++ Sent x ∷ [] }) b _ refl e
  message_known v vats other a b m e = absurd m

  lone_known : (v : ℕ) (m : Name) (a b : Vat Name) → (arrive.learn_message (names script v) (New m (host_of m)) >> give (tt {0})) a ≡ Gives (tt {0}) b → (z : Name) → IsAmong z (names_in b.known) → IsAmong z (names_in a.known) ⊎ (host_of z ≡ v)
  unfolding ◌>>◌ and_then give arrive.learn_message mail names naming mail_of
  lone_known v m a b e = given_same v (record a { mails = a.mails ++ m ∷ [] }) b e

  hears_known : (v : ℕ) (vats : List (Vat Name)) (m : Name) (asks : Bool) (a b : Vat Name) → IsMessageMade vats m → hear_message script v m asks a ≡ Gives tt b → (z : Name) → IsAmong z (names_in b.known) → IsAmong z (names_in a.known) ⊎ (host_of z ≡ v)
  unfolding hear_message
  hears_known v vats m true a b i e = message_known v vats m a b i e
  hears_known v vats m false a b i e = lone_known v m a b e

  heard_known : (v : ℕ) (w : World) (n : Note Name) (a b : Vat Name) → NoteOk (Told script w) n → hear script v n a ≡ Gives tt b → (z : Name) → IsAmong z (names_in b.known) → IsAmong z (names_in a.known) ⊎ (host_of z ≡ v)
  unfolding hear give
  heard_known v w (Deliver d x verb ys) a b o e = hears_known v w.vats d.message d.asks a b o.0.0 e
  heard_known v w other a b o e = given_same v a b e

  -- an answer that is learnt is known, be it for the first time or not
  learnt_among : (v : ℕ) (m : Msg) (a b : Vat Name) (c : Bool) → is_old (names_in a.known) (Answer v m) ≡ c → and_then {B = Unit {0}} (arrive.learn_name (names script v) (elim c [ true ↦ Old (Answer v m) | false ↦ New (Answer v m) v ]) a) (λ _. give (tt {0})) ≡ Gives (tt {0}) b → IsAmong (Answer v m) (names_in b.known)
  unfolding and_then give arrive.learn_name come names naming name_of begun
  learnt_among v m a b true i e = let same : a ≡ b = cc in let one : IsAmong (Answer v m) (names_in a.known) = old_known (names_in a.known) (Answer v m) i in rw same at one
  learnt_among v m a b false i e = at_end _ b refl e
    where
      at_end : (x b : Vat Name) → x.known ≡ a.known ++ begun (Answer v m) v ∷ [] → Gives (tt {0}) x ≡ Gives (tt {0}) b → IsAmong (Answer v m) (names_in b.known)
      at_end x b i e = let same : x ≡ b = cc in let last : IsAmong (Answer v m) (names_in (a.known ++ begun (Answer v m) v ∷ [])) = rw (sym (names_end a.known (begun (Answer v m) v))) at (among_last (names_in a.known) (Answer v m)) in
          let one : IsAmong (Answer v m) (names_in x.known) = rw (sym (ap names_in i)) at last in rw same at one

  answer_comes : (v : ℕ) (m : Msg) (a b : Vat Name) → hear_message script v (Sent m) true a ≡ Gives (tt {0}) b → IsAmong (Answer v m) (names_in b.known)
  unfolding hear_message perform names names_of ◌>>=◌ ◌>>◌ world.read_name and_then give arrive.learn_message mail naming mail_of answer_of host_of
  answer_comes v m a b e = learnt_among v m (record a { mails = a.mails ++ Sent m ∷ [] }) b _ refl e

  bearer_heard : (v : ℕ) (m : Msg) (n : Note Name) (a b : Vat Name) → hear script v n a ≡ Gives tt b → Bears m (Answer v m) n → IsAmong (Answer v m) (names_in b.known)
  unfolding hear hear_message
  bearer_heard v m (Deliver d x verb ys) a b e f = answer_comes v m a b (bearing e)
    where
      bearing : hear_message script v d.message d.asks a ≡ Gives tt b → hear_message script v (Sent m) true a ≡ Gives tt b
      bearing e = subst (λ c. hear_message script v (Sent m) c a ≡ Gives tt b) f.1 (subst (λ i. hear_message script v i d.asks a ≡ Gives tt b) f.0 e)
  bearer_heard v m other a b e f = absurd f

  -- ---- moves

  no_host : (g v : ℕ) (m : Msg) → (g ≡ v → ⊥) → host_of (Answer g m) ≡ v → ⊥
  unfolding host_of
  no_host g v m f e = f e

  is_so : (x y : World) → Holds script x → y ≡ x → Holds script y
  is_so x y h e = rw (sym e) at h

  holds_went : (w : World) (v : ℕ) (head : List Event) (t : Vat Name) → Holds script (record w { vats = put_at v t w.vats; links = push_all v t.outbox w.links }) → Holds script (went v w head t)
  unfolding went
  holds_went w v head t h = h

  went_vats : (w : World) (v : ℕ) (head : List Event) (t : Vat Name) → (went v w head t).vats ≡ put_at v t w.vats
  unfolding went
  went_vats w v head t = refl

  readied_known : (w : World) (s t : Vat Name) → Grows (readied w s) t → Grows s t
  unfolding readied
  readied_known w s t h = h

  known_readied : (w : World) (s : Vat Name) (n : Name) → IsAmong n (names_in (readied w s).known) → IsAmong n (names_in s.known)
  unfolding readied
  known_readied w s n a = a

  holds_without : (a v : ℕ) (ns : List (Note Name)) (w : World) (head : List Event) (t : Vat Name) → Holds script (record w { vats = put_at v t w.vats; links = push_all v t.outbox (with_link (with_notes ns) a v w.links) }) → Holds script (went v (without a v ns w) head t)
  unfolding went without
  holds_without a v ns w head t h = h

  sent_known : (u : ℕ) (n : Note Name) (t r : Vat Name) → send_out u n t ≡ Gives tt r → (r.known ≡ t.known) × (r.outbox ≡ t.outbox ++ record { to = u; note = n } ∷ [])
  unfolding send_out
  sent_known u n t r e = is _ r e (refl, refl)
    where
      is : (x r : Vat Name) → Gives (tt {0}) x ≡ Gives (tt {0}) r → (x.known ≡ t.known) × (x.outbox ≡ t.outbox ++ record { to = u; note = n } ∷ []) → (r.known ≡ t.known) × (r.outbox ≡ t.outbox ++ record { to = u; note = n } ∷ [])
      is x r e h = let same : x ≡ r = cc in rw same at h

  puts_first : (g u : ℕ) (m : Msg) (n : Note Name) (ps qs : List (Put Name)) → u ≡ g → Bears m (Answer g m) n → ps ≡ [] → qs ≡ ps ++ record { to = u; note = n } ∷ [] → PutsFirst g m qs
  puts_first g u m n ps qs e b i j = let one : PutsFirst g m (record { to = u; note = n } ∷ []) = inl (e, b) in subst (λ (z : List (Put Name)). PutsFirst g m z) (sym (j ∙ ap (λ (z : List (Put Name)). z ++ record { to = u; note = n } ∷ []) i)) one

  -- ---- a note is received

  after_is : (Q : Vat Name → Type 0) (t : Vat Name) (d : Done Name (Unit {0})) → AfterGives Q d → d ≡ Gives tt t → Q t
  after_is Q t d h e = rw e at h

  does_receive : (x : World) (a v : ℕ) (s t : Vat Name) (m : Note Name) → slice_get x.vats v ≡ Some s → arrive.arrive (names script v) a (read_note (names_of s) m) (readied x s) ≡ Gives tt t → Does script x v s s t (Receives a (read_note (names_of s) m))
  unfolding does waiting
  does_receive x a v s t m q f = record { there = q; number = refl; known = refl; promises = refl; messages = refl; gifts = refl; waits = λ n. omega arith; begins = refl; gives = f }

  arrival_grows : (x : World) (a v : ℕ) (s t : Vat Name) (m : Note Name) → arrive.arrive (names script v) a (read_note (names_of s) m) (readied x s) ≡ Gives tt t → Grows s t
  unfolding does readied
  arrival_grows x a v s t m f n k = let r = after_gives Stays (readied x s) t (does (names script v) (Receives a (read_note (names_of s) m)) (readied x s)) (steps_stay (names script v) (Receives a (read_note (names_of s) m)) (readied x s)) f in r.1 n k

  module _ (w y : World) (p : Past script w) (r : Past script y) (a v : ℕ) (l : Link) (n : Note Name) (ns : List (Note Name)) (s t : Vat Name) (head : List Event) (at : link_at a v w.links ≡ Some l) (notes : l.notes ≡ n ∷ ns) (there : slice_get w.vats v ≡ Some s)
      (e : y ≡ went v (without a v ns w) head t) (h : Holds script w) where
    vats_are : y.vats ≡ put_at v t w.vats
    unfolding went without
    vats_are = ap (λ (z : World). z.vats) e

    ends_holding : (known : Grows s t) → ((m : Msg) → Bears m (Answer v m) n → IsAmong (Answer v m) (names_in t.known))
        → ((g : ℕ) (m : Msg) (q : Vat Name) → (g ≡ v → ⊥) → slice_get (put_at v t w.vats) g ≡ Some q → IsAmong (Answer g m) (names_in t.known) → (IsAmong (Answer g m) (names_in s.known) ⊎ PutsFirst g m t.outbox) ⊎ IsAmong (Answer g m) (names_in q.known)) → Holds script y
    ends_holding grows bears news = let outs = outs_known script y v t r.0 (there_next script w y v s t there vats_are) in let old = taken_follow script w.vats w.links a v n ns l at notes s t there grows bears h.1 in let known = taken_known script w.vats w.links a v n ns l at notes h.0 in
        is_so _ y (holds_without a v ns w head t (goes_known w.vats v s t there grows outs (with_link (with_notes ns) a v w.links) known old news, goes_follow w.vats v s t there grows outs (with_link (with_notes ns) a v w.links) known old news)) e

    landed_holds : (x : World) (m : Note Name) → Stands script x → slice_get x.vats v ≡ Some s → NoteOk (Told script x) n → TellsAs v n m → arrive.arrive (names script v) a (read_note (names_of s) m) (readied x s) ≡ Gives tt t → Holds script y
    landed_holds x m g q o alike f = let ok : NoteOk (Told script x) m = alike.names (Told script x) (told_entries script x) o in let stands = g.vats v s q in let kept = stands.kept in
        ends_holding (arrival_grows x a v s t m f) (λ z b. bearer_known script x a v s t m z kept.number (does_receive x a v s t m q f) (alike.bears z b))
        (arrives_first script w a v s t n ns l p h.0 at notes (λ g' z abroad spares. after_is (FirstOut g' z s) t _ (note_first script g' z v abroad x s q g a m ok (alike.names (Avoids (Answer g' z)) (avoids_entries g' z) spares)) f))

    ready_grows : Grows s (readied w s)
    unfolding readied
    ready_grows z k = k

    passed_holds : ((m : Msg) → Bears m (Answer v m) n → ⊥) → readied w s ≡ t → Holds script y
    passed_holds none same = ends_holding (subst (λ z. Grows s z) same ready_grows) (λ m b. absurd (none m b)) (λ g m q far i j. inl (inl (known_readied w s (Answer g m) (rw (sym same) at j))))

    received_holds : Coming script w a v s t n → Holds script y
    received_holds (Passes none same) = passed_holds none same
    received_holds (Lands _ m as_before alike f) = landed_holds w m p.0 there (left_stands script a v l n ns w at notes p.0).1 alike f
    received_holds (Lands _ m (one_more i) alike f) = let x : World = record w { drawn = w.drawn ++ i ∷ [] } in landed_holds x m (drew_stands script w x (one_more i) p.0) there (drew_told script w x n (one_more i) (left_stands script a v l n ns w at notes p.0).1) alike f

  -- what stands in frames, and the lines, do not matter
  beside_holds : (w : World) (es : List Event) (cs : List Connected) → Holds script w → Holds script (record w { connections = cs; history = es })
  beside_holds w es cs h = h

  before_frames : (x y : World) (cs : List Connected) → Past script y → y ≡ record x { connections = cs } → Past script x
  before_frames x y cs g e = let one : Past script (record x { connections = cs }) = rw e at g in (beside_stands script hs (record x { connections = cs }) x.history x.connections one.0, one.1)

  usual_holds : (w y : World) → Past script w → Past script y → ((v : ℕ) (s : Vat Name) → slice_get w.vats v ≡ Some s → InScript script v s) → Usually w y → Holds script w → Holds script y
  usual_holds w y p r own (Opened front rest q o i e) h = holds_on script w y p r (opening_moves script (length front) q w y p.0 (rw (sym i) at (get_mid front q rest)) e) h
  usual_holds w y p r own (Stepped entry k o e) h = holds_on script w y p r (entry_moves script entry k w y p.0 e) h
  usual_holds w y p r own (Swallowed k a v l n ns s t o at c notes there f e) h =
      let left = left_stands script a v l n ns w at notes p.0 in let grows : Grows s t = readied_known w s t (hear_keeps script hs v Grows (deeds_grow v) n (readied w s) t f) in
      let quiet : t.outbox ≡ [] = silent v n s t there f in
      let outs : AllOf (λ (x : Put Name). NoteOk (IsKnownTo t) x.note) t.outbox = rw quiet tt in
      let old = taken_follow script w.vats w.links a v n ns l at notes s t there grows (λ m b. bearer_heard v m n (readied w s) t f b) h.1 in let known = taken_known script w.vats w.links a v n ns l at notes h.0 in
      let news : (g : ℕ) (m : Msg) (q : Vat Name) → (g ≡ v → ⊥) → slice_get (put_at v t w.vats) g ≡ Some q → IsAmong (Answer g m) (names_in t.known) → (IsAmong (Answer g m) (names_in s.known) ⊎ PutsFirst g m t.outbox) ⊎ IsAmong (Answer g m) (names_in q.known) =
      λ g m q far i j. inl (inl (either g m far (heard_known v w n (readied w s) t left.1 f (Answer g m) j))) in
      is_so _ y (holds_without a v ns w (Carried k a v n (next_frame a v w.connections) ∷ []) t (goes_known w.vats v s t there grows outs (with_link (with_notes ns) a v w.links) known old news, goes_follow w.vats v s t there grows outs (with_link (with_notes ns) a v w.links) known old news)) e
    where
      silent : (v : ℕ) (n : Note Name) (s t : Vat Name) → slice_get w.vats v ≡ Some s → hear script v n (readied w s) ≡ Gives tt t → t.outbox ≡ []
      silent v n s t there f = (heard_own script v n (readied w s) t (ready_clean script hs w v s (own v s there)) f).1

      either : (g : ℕ) (m : Msg) → (g ≡ v → ⊥) → IsAmong (Answer g m) (names_in (readied w s).known) ⊎ (host_of (Answer g m) ≡ v) → IsAmong (Answer g m) (names_in s.known)
      either g m far (inl a) = known_readied w s (Answer g m) a
      either g m far (inr x) = absurd (no_host g v m far x)
  usual_holds w y p r own (Says v u s t z ds n o there q l f e) h =
      let grown : Grows (readied w s) z = says_keeps script hs v Grows (deeds_grow v) w u n ds (readied w s) t z (performs w v ds (readied w s) t q) f in let grows : Grows s z = readied_known w s z grown in
      let sent = sent_known u n t z f in let clean = deeds_own script hs w v ds (readied w s) t (ready_clean script hs w v s (own v s there)) (performs w v ds (readied w s) t q) in
      let stood : Stands script (went v w [] z) = rw e at r.0 in let there' : slice_get (went v w [] z).vats v ≡ Some z = there_next script w (went v w [] z) v s z there (went_vats w v [] z) in
      let outs = outs_known script (went v w [] z) v z stood there' in
      let old = stepped_follow script w.vats w.links v s z there grows h.1 in
      let news : (g : ℕ) (m : Msg) (x : Vat Name) → (g ≡ v → ⊥) → slice_get (put_at v z w.vats) g ≡ Some x → IsAmong (Answer g m) (names_in z.known) → (IsAmong (Answer g m) (names_in s.known) ⊎ PutsFirst g m z.outbox) ⊎ IsAmong (Answer g m) (names_in x.known) =
      λ g m x far i j. either g m x clean.1 sent.1 (other (put_cases v z w.vats g x i) far) (l.1 s there g m far (rw (ap names_in sent.0) at j)) in
      is_so _ y (holds_went w v [] z (goes_known w.vats v s z there grows outs w.links h.0 old news, goes_follow w.vats v s z there grows outs w.links h.0 old news)) e
    where
      other : {g : ℕ} {x : Vat Name} → ((g ≡ v) × (z ≡ x)) ⊎ ((g ≡ v → ⊥) × (slice_get w.vats g ≡ Some x)) → (g ≡ v → ⊥) → slice_get w.vats g ≡ Some x
      other (inl k) far = absurd (far k.0)
      other (inr k) far = k.1

      either : (g : ℕ) (m : Msg) (x : Vat Name) → t.outbox ≡ [] → z.outbox ≡ t.outbox ++ record { to = u; note = n } ∷ [] → slice_get w.vats g ≡ Some x → (IsAmong (Answer g m) (names_in s.known) ⊎ ((u ≡ g) × Bears m (Answer g m) n)) ⊎ ((q : Vat Name) → slice_get w.vats g ≡ Some q → IsAmong (Answer g m) (names_in q.known))
          → (IsAmong (Answer g m) (names_in s.known) ⊎ PutsFirst g m z.outbox) ⊎ IsAmong (Answer g m) (names_in x.known)
      either g m x i j k (inl (inl a)) = inl (inl a)
      either g m x i j k (inl (inr b)) = inl (inr (puts_first g u m n t.outbox z.outbox b.0 b.1 i j))
      either g m x i j k (inr f) = inr (f x k)

  move_holds : (w y : World) → Past script w → Past script y → ((v : ℕ) (s : Vat Name) → slice_get w.vats v ≡ Some s → InScript script v s) → Ordered w y → Holds script w → Holds script y
  move_holds w y p r own (Usual m) h = usual_holds w y p r own m h
  move_holds w y p r own (Recorded b o es e) h = is_so _ y (beside_holds w (w.history ++ es) w.connections h) e
  move_holds w y p r own (Framed v u s t z ds n op new o i q l f e) h = let x : World = went v w [] z in
      is_so (framed_on w v u op n new x) y (beside_holds x x.history (framed_on w v u op n new x).connections (usual_holds w x p (before_frames x y _ r e) own (Says v u s t z ds n o i q l f refl) h)) e
  move_holds w y p r own (Received b z k a v l n ns s t o i c j q f e) h = let head : List Event = Carried k a v (entered_at w a v s n) (next_frame a v w.connections) ∷ [] in let x : World = went v (without a v ns w) head t in
      is_so (placed_from a v (entered_at w a v s n) w t x) y (beside_holds x x.history (placed_from a v (entered_at w a v s n) w t x).connections (received_holds w x p (before_frames x y _ r e) a v l n ns s t head i j q refl h (comes script w a v s t n _ (sight_at w a v s) f))) e

  module _ (once : (v : ℕ) (p : Program) → slice_get script.vats v ≡ Some p → Once (v ∷ p.knows)) where
    past : (w : World) → IsReachedInOrder script hs w → Past script w
    past w r = let all = reached_fits script hs once w (reached w r) in (all.0, links_of script w all)

    own_at : (w : World) → IsReachedInOrder script hs w → (v : ℕ) (s : Vat Name) → slice_get w.vats v ≡ Some s → InScript script v s
    own_at w r v s i = let all = reached_fits script hs once w (reached w r) in let b = all.2 in (b.0 v s i).0

    reached_holds : (w : World) → IsReachedInOrder script hs w → Holds script w
    reached_holds w r = frames_lifted script (IsHostile hs) AnyNotice (λ w v s d. May script w v s d) (λ w v u s n. Lawful script w v u s n × AnswersFirst w v u s n) (λ w v u s n op new. Lawful script w v u s n × AnswersFirst w v u s n) (Holds script) (begins_holds script)
        (λ x y q h m. move_holds x y (past x q) (past y (x ∷ q.0, (m, q.1))) (own_at x q) m h) w r

pub answers_follow_messages : hostile.AnswersFollowMessages
answers_follow_messages script once hs w r u g m s t l a b c k = (reached_holds script hs once w r).1 u g m s t a b k l c
