-- Every world that is reached with hostile vats is sound: a fact of each vat and of each note under way, kept by each move.
use Rattle.std.proofs.Common.{◌≡◌, ℕ, zero, suc, Bool, true, false, List, [], ◌∷◌, ◌++◌, Option, Some, refl, sym, subst, length}
use Rattle.std.specs.Prelude.{slice_get}
use Rattle.def_machine.specs.Values.{Name, IsOwn, IsSent, IsLearnt, IsAnswer, IsCarried, answer_of}
use Rattle.def_machine.specs.State.{Made, Note, Deliver, Put, Vat, Done, Gives, Act, and_then, ◌>>=◌, ◌>>◌, give, new_thing, new_promise, new_message, new_lone_message, draw, come, mail, send_out, begun, is_in}
use Rattle.def_machine.specs.Arrive.{Incoming, Old, New, learn_name, learn_message}
use Rattle.def_run.specs.World as world
use Rattle.def_run.specs.World.{read_note, Script, Event, Carried, Link, World, names, names_of, read_name, readied, with_notes, link_at, next_frame}
use Rattle.law_machine.proofs.Machine.StepLaws.{get_append}
use Rattle.law_adversary.proofs.Lift.{frames_lifted}
use Rattle.law_adversary.specs.Moves.{FrameMove, Usual, Recorded, Framed, Received, FramesReached, sight_at, entered_at, placed_from, framed_on}
use Rattle.law_machine.specs.Run.Moves.{Deed, NewObject, NewPromise, NewMessage, NewLone, Learns, Move, Opened, Stepped, Swallowed, Says, Performs, AnyNotice, went, without, perform, hear, hear_message}
use Rattle.law_frozen.specs.Runs.{ReachIsFrozenIn}
use Rattle.law_frozen.specs.Frozen.{AllOf, NotePasses, KnownThere, ThingWell, Sound}
use Rattle.law_hostile_frozen.specs.Moves.{AnyDeed, SaysPassing, FramesPassing, ReachIsFrozenInReached}
use Rattle.law_hostile_frozen.proofs.Passing.{entered_passes}
use Rattle.law_frozen.proofs.Facts.{Grows, all_map, all_end, thing_up}
use Rattle.law_frozen.proofs.Fine.{MayBe}
use Rattle.law_frozen.proofs.RunSound.{LinkPasses, WorldSound, with_link_passes, push_all_passes, link_passes, put_at_or, put_one, note_read, step_sound, open_sound, begins_sound, reach_in}
use Rattle.law_frozen.proofs.FineReceive.{receiving_stays_sound}
use Rattle.def_machine.specs.Receive.{Sight, receive}
use Rattle.def_run.specs.Draws.{draw_word}
use Rattle.def_op.specs.Frames.{Operation}
use Rattle.law_machine.specs.Machine.Steps.{After}

abbrev given : Vat Name → Done Name (Unit {0})
given s = Gives tt s

abbrev done : Act Name (Unit {0})
done = give tt

gives_is : (s t : Vat Name) → given s ≡ given t → s ≡ t
gives_is s t e = cc

module _ (script : Script) (Hostile : ℕ → Type 0) (v : ℕ) where
  abbrev S : Vat Name → Type 0
  S s = Sound (names script v) s

  grown : (s : Vat Name) → Grows s.things s.lists (s.things ++ Made zero [] [] ∷ []) s.lists
  grown s = record { objects = λ i node caught stamps e. get_append s.things (Made zero [] [] ∷ []) i (Made node caught stamps) e; lists = λ k vs e. e }

  thing_added : (s : Vat Name) → S s → S (record s { things = s.things ++ Made zero [] [] ∷ [] })
  thing_added s h = record {
    things = all_end (ThingWell (names script v) (s.things ++ Made zero [] [] ∷ []) s.lists) s.things (Made zero [] [])
        (all_map (thing_up s.things s.lists (s.things ++ Made zero [] [] ∷ []) s.lists (grown s) (names script v)) s.things h.things) (tt, tt, λ e. absurd e);
    slots = h.slots;
    lists = h.lists;
    stacked = h.stacked;
    queue = h.queue;
    known = h.known;
    outbox = h.outbox;
  }

  begun_there : (s : Vat Name) (n : Name) (h : ℕ) → KnownThere s.lists (begun n h)
  unfolding begun
  begun_there s n h = (tt, tt, tt)

  known_added : (s : Vat Name) (n : Name) (h : ℕ) → S s → S (record s { known = s.known ++ begun n h ∷ [] })
  known_added s n h i = record { things = i.things; slots = i.slots; lists = i.lists; stacked = i.stacked; queue = i.queue; known = all_end (KnownThere s.lists) s.known (begun n h) i.known (begun_there s n h); outbox = i.outbox }

  mail_added : (s : Vat Name) (n : Name) → S s → S (record s { mails = s.mails ++ n ∷ [] })
  mail_added s n h = record { things = h.things; slots = h.slots; lists = h.lists; stacked = h.stacked; queue = h.queue; known = h.known; outbox = h.outbox }

  out_added : (s : Vat Name) (p : Put Name) → NotePasses p.note → S s → S (record s { outbox = s.outbox ++ p ∷ [] })
  out_added s p i h = record { things = h.things; slots = h.slots; lists = h.lists; stacked = h.stacked; queue = h.queue; known = h.known; outbox = all_end (λ (q : Put Name). NotePasses q.note) s.outbox p h.outbox i }

  promised : (s : Vat Name) (n : Name) → S s → S (record s { promises = suc s.promises; known = s.known ++ begun n s.number ∷ [] })
  promised s n h = record { things = h.things; slots = h.slots; lists = h.lists; stacked = h.stacked; queue = h.queue; known = all_end (KnownThere s.lists) s.known (begun n s.number) h.known (begun_there s n s.number); outbox = h.outbox }

  messaged : (s : Vat Name) (m n : Name) (g : ℕ) → S s → S (record s { messages = suc s.messages; mails = s.mails ++ m ∷ []; known = s.known ++ begun n g ∷ [] })
  messaged s m n g h = record { things = h.things; slots = h.slots; lists = h.lists; stacked = h.stacked; queue = h.queue; known = all_end (KnownThere s.lists) s.known (begun n g) h.known (begun_there s n g); outbox = h.outbox }

  lone : (s : Vat Name) (m : Name) → S s → S (record s { messages = suc s.messages; mails = s.mails ++ m ∷ [] })
  lone s m h = record { things = h.things; slots = h.slots; lists = h.lists; stacked = h.stacked; queue = h.queue; known = h.known; outbox = h.outbox }

  learnt_sound : (x : Incoming Name Name) (s t : Vat Name) → S s → (learn_name (names script v) x >> done) s ≡ given t → S t
  unfolding learn_name come ◌>>◌ and_then give
  learnt_sound (Old n) s t h e = subst (λ x. S x) (gives_is _ t e) h
  learnt_sound (New x g) s t h e = subst (λ x. S x) (gives_is _ t e) (known_added s ((names script v).made (IsLearnt x) (length s.known)) g h)

  deed_sound : (d : Deed) (s t : Vat Name) → S s → perform script v d s ≡ given t → S t
  unfolding perform new_thing new_promise new_message new_lone_message draw ◌>>◌ and_then give
  deed_sound NewObject s t h e = subst (λ x. S x) (gives_is _ t e) (thing_added s h)
  deed_sound NewPromise s t h e = subst (λ x. S x) (gives_is _ t e) (promised s ((names script v).made (IsOwn s.promises) (length s.known)) h)
  deed_sound (NewMessage g) s t h e = subst (λ x. S x) (gives_is _ t e) (messaged s ((names script v).mailed (IsSent s.messages) (length s.mails)) ((names script v).made (IsAnswer g ((names script v).mailed (IsSent s.messages) (length s.mails))) (length s.known)) g h)
  deed_sound NewLone s t h e = subst (λ x. S x) (gives_is _ t e) (lone s ((names script v).mailed (IsSent s.messages) (length s.mails)) h)
  deed_sound (Learns n) s t h e = learnt_sound (read_name (names_of s) n) s t h e

  performed : (May : World → ℕ → Vat Name → Deed → Type 0) (Lawful : World → ℕ → ℕ → Vat Name → Note Name → Type 0) (w : World) (ds : List Deed) (s t : Vat Name) → S s → Performs script Hostile AnyNotice May Lawful w v ds s t → S t
  performed May Lawful w [] s t h p = rw p at h
  performed May Lawful w (d ∷ ds) s t h p = performed May Lawful w ds p.0 t (deed_sound d s p.0 h p.2) p.3

  -- what a note that comes to a hostile vat makes known
  heard : (m : Name) (asks : Bool) (s t : Vat Name) → S s → hear_message script v m asks s ≡ given t → S t
  unfolding hear_message learn_message mail ◌>>=◌ ◌>>◌ and_then give
  heard m true s t h e = let id : Name = (names script v).mailed (IsCarried m) (length s.mails) in deed_sound (Learns (answer_of v id)) (record s { mails = s.mails ++ id ∷ [] }) t (mail_added s id h) e
  heard m false s t h e = subst (λ x. S x) (gives_is _ t e) (mail_added s ((names script v).mailed (IsCarried m) (length s.mails)) h)

  note_heard : (n : Note Name) (s t : Vat Name) → S s → hear script v n s ≡ given t → S t
  unfolding hear give
  note_heard (Deliver d x verb ys) s t h e = heard d.message d.asks s t h e
  note_heard other s t h e = subst (λ x. S x) (gives_is s t e) h

  said : (u : ℕ) (n : Note Name) (t r : Vat Name) → NotePasses n → S t → send_out u n t ≡ given r → S r
  unfolding send_out
  said u n t r i h e = subst (λ x. S x) (gives_is _ r e) (out_added t (record { to = u; note = n }) i h)

  ready : (w : World) (s : Vat Name) → S s → S (readied w s)
  unfolding readied
  ready w s k = record { things = k.things; slots = k.slots; lists = k.lists; stacked = k.stacked; queue = k.queue; known = k.known; outbox = tt }

  went_sound : (w : World) (head : List Event) (t : Vat Name) → WorldSound script w → S t → WorldSound script (went v w head t)
  unfolding went
  went_sound w head t h k = record { vats = λ u r i. put_one script v t w h k u r (put_at_or v t w.vats u r i); links = push_all_passes v t.outbox w.links k.outbox h.links }

-- ---- a note that leaves its link

its_link : (o : Option Link) (l : Link) → o ≡ Some l → MayBe LinkPasses o → LinkPasses l
its_link o l e h = rw e at h

behind : (n : Note Name) (ns : List (Note Name)) (l : Link) → l.notes ≡ n ∷ ns → LinkPasses l → AllOf NotePasses ns
behind n ns l e h = let all : AllOf NotePasses (n ∷ ns) = rw e at h in all.1

left : (script : Script) (w : World) (a v : ℕ) (l : Link) (n : Note Name) (ns : List (Note Name)) → link_at a v w.links ≡ Some l → l.notes ≡ n ∷ ns → WorldSound script w → WorldSound script (without a v ns w)
unfolding without with_notes
left script w a v l n ns i j h = record { vats = h.vats; links = with_link_passes (with_notes ns) (λ k p. behind n ns l j (its_link (link_at a v w.links) l i (link_passes a v w.links h.links))) a v w.links h.links }

-- ---- moves

module _ (script : Script) (Hostile : ℕ → Type 0) (May : World → ℕ → Vat Name → Deed → Type 0) (Lawful : World → ℕ → ℕ → Vat Name → Note Name → Type 0)
    (Frames : World → ℕ → ℕ → Vat Name → Note Name → Operation → List Name → Type 0) (passing : (w : World) (v u : ℕ) (s : Vat Name) (n : Note Name) → Lawful w v u s n → NotePasses n)
    (framing : (w : World) (v u : ℕ) (s : Vat Name) (n : Note Name) (op : Operation) (new : List Name) → Frames w v u s n op new → NotePasses n) where
  usual_moved : (w y : World) → WorldSound script w → Move script Hostile AnyNotice May Lawful w y → WorldSound script y
  unfolding world.open_vat
  usual_moved w y h (Opened front rest p i e f) = open_sound script (length front) p w y h (slice_get w.vats (length front)) refl f
  usual_moved w y h (Stepped entry k i e) = step_sound script entry k w y h e
  usual_moved w y h (Swallowed k a v l n ns s t i j c m q f e) = rw (sym e) at (went_sound script Hostile v (without a v ns w) (Carried k a v n (next_frame a v w.connections) ∷ []) t (left script w a v l n ns j m h)
      (note_heard script Hostile v n (readied w s) t (ready script Hostile v w s (h.vats v s q)) f))
  usual_moved w y h (Says v u s t r ds n i q p l o e) = rw (sym e) at (went_sound script Hostile v w [] r h (said script Hostile v u n t r (passing w v u t n l) (performed script Hostile v May Lawful w ds (readied w s) t (ready script Hostile v w s (h.vats v s q)) p) o))

  -- the vat in which a received note leaves a sound vat
  given_sound : (v : ℕ) (s t : Vat Name) (d : Done Name (Unit {0})) → d ≡ given t → After (λ _. Sound (names script v)) s d → Sound (names script v) t
  given_sound v s t d e h = subst (λ x. After (λ _. Sound (names script v)) s x) e h

  received : (v a : ℕ) (w : World) (s t : Vat Name) (m : Note Name) (sight : Sight Name) → Sound (names script v) s → NotePasses m
      → receive (names script v) sight a (read_note (names_of s) m) (readied w s) ≡ Gives tt t → Sound (names script v) t
  unfolding names
  received v a w s t m sight h i e = given_sound v (readied w s) t _ e (receiving_stays_sound.0 (draw_word script.key) v sight a (read_note (names_of s) m) (readied w s) (ready script Hostile v w s h) (note_read (names_of s) m i))

  -- the first of the notes under way
  first_of : (ms : List (Note Name)) (n : Note Name) (ns : List (Note Name)) → ms ≡ n ∷ ns → AllOf NotePasses ms → NotePasses n
  first_of ms n ns e h = let all : AllOf NotePasses (n ∷ ns) = rw e at h in all.0

  first_passes : (w : World) (a v : ℕ) (l : Link) (n : Note Name) (ns : List (Note Name)) → link_at a v w.links ≡ Some l → l.notes ≡ n ∷ ns → WorldSound script w → NotePasses n
  first_passes w a v l n ns i j h = first_of l.notes n ns j (its_link (link_at a v w.links) l i (link_passes a v w.links h.links))

  -- what stands in frames is no part of the fact
  framed : (v u : ℕ) (op : Operation) (n : Note Name) (new : List Name) (w y : World) → WorldSound script y → WorldSound script (framed_on w v u op n new y)
  framed v u op n new w y h = record { vats = h.vats; links = h.links }

  recorded : (es : List Event) (w : World) → WorldSound script w → WorldSound script (record w { history = w.history ++ es })
  recorded es w h = record { vats = h.vats; links = h.links }

  placed : (a v : ℕ) (n : Note Name) (w : World) (t : Vat Name) (y : World) → WorldSound script y → WorldSound script (placed_from a v n w t y)
  placed a v n w t y h = record { vats = h.vats; links = h.links }

  moved : (w y : World) → WorldSound script w → FrameMove script Hostile AnyNotice May Lawful Frames w y → WorldSound script y
  moved w y h (Usual m) = usual_moved w y h m
  moved w y h (Recorded b bad es e) = subst (λ x. WorldSound script x) (sym e) (recorded es w h)
  moved w y h (Framed v u s t r ds n op new i q p l o e) = subst (λ x. WorldSound script x) (sym e) (framed v u op n new w (went v w [] r) (went_sound script Hostile v w [] r h (said script Hostile v u n t r (framing w v u t n op new l) (performed script Hostile v May Lawful w ds (readied w s) t (ready script Hostile v w s (h.vats v s q)) p) o)))
  moved w y h (Received b bad k a v l n ns s t o i c j q f e) = subst (λ x. WorldSound script x) (sym e) (placed a v (entered_at w a v s n) w t (went v (without a v ns w) (Carried k a v (entered_at w a v s n) (next_frame a v w.connections) ∷ []) t) (went_sound script Hostile v (without a v ns w) (Carried k a v (entered_at w a v s n) (next_frame a v w.connections) ∷ []) t (left script w a v l n ns i j h)
      (received v a w s t (entered_at w a v s n) (sight_at w a v s) (h.vats v s q) (entered_passes v a _ (names_of s) n (first_passes w a v l n ns i j h)) f)))

  -- a fact of each world that is so reached
  pub all_frozen : (w : World) → FramesReached script Hostile AnyNotice May Lawful Frames w → ReachIsFrozenIn script w
  all_frozen w r = reach_in script w (frames_lifted script Hostile AnyNotice May Lawful Frames (WorldSound script) (begins_sound script) (λ x y i h m. moved x y h m) w r)

  pub kept_sound : (x y : World) → WorldSound script x → FrameMove script Hostile AnyNotice May Lawful Frames x y → WorldSound script y
  kept_sound x y h m = moved x y h m

pub reached_frozen : ReachIsFrozenInReached
reached_frozen script hs w r = all_frozen script (λ v. is_in v hs ≡ true) AnyDeed SaysPassing FramesPassing (λ x v u s n i. i) (λ x v u s n op new i. i) w r
