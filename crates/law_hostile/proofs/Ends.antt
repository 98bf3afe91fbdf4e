-- The notes between two vats name only the two, in each world that is reached with hostile vats.
use Rattle.std.proofs.Common.{◌≡◌, ℕ, zero, Bool, true, false, List, [], ◌∷◌, ◌++◌, Some, refl, sym, subst, ◌∙◌, ◌⊎◌, inl, inr, length}
use Rattle.std.specs.Prelude.{slice_get}
use Rattle.def_machine.specs.Values.{Name, host_of, Naming, naming, name_of, answer_of, mail_of}
use Rattle.def_machine.specs.State.{Made, Note, Deliver, Put, Vat, Done, Gives, ◌>>=◌, ◌>>◌, and_then, give, new_thing, new_promise, new_message, new_lone_message, send_out, begun, come, mail, is_in}
use Rattle.def_machine.specs.Arrive as arrive
use Rattle.def_machine.specs.Arrive.{Old, New}
use Rattle.def_machine.specs.Receive.{receive}
use Rattle.def_run.specs.Wire.{Connected}
use Rattle.def_run.specs.Draws.{draw_word}
use Rattle.def_run.specs.World as world
use Rattle.def_run.specs.World.{Script, Program, Entry, Event, Carried, Link, World, Run, Goes as Going, readied, names, names_of, read_note}
use Rattle.law_fate.specs.Name.Names.{AllOf, Once, IsMade, NoteOk}
use Rattle.law_fate.proofs.Name.Facts.{all_end, all_map, note_up}
use Rattle.law_fate.proofs.Name.Run.{Stands, Told}
use Rattle.law_reference.specs.Reference.Own.{IsOwnKnown}
use Rattle.law_reference.specs.Reference.Notes.{IsBetween, Carries}
use Rattle.law_reference.proofs.Reference.OwnKeeps.{Whole, came_own}
use Rattle.law_reference.proofs.Reference.Gentle.{AfterGives}
use Rattle.law_reference.proofs.Reference.OwnRuns.{Any, InScript, Each, own_keep}
use Rattle.law_reference.proofs.Reference.RunLift.{put_at_or, all_allowed}
use Rattle.law_reference.proofs.Reference.NotesLift as lift
use Rattle.law_reference.proofs.Reference.NotesRuns.{CarriesOut, Its, OfNotes, Ever, its_keep, note_carries, begins_all}
use Rattle.law_machine.specs.Run.Moves.{Deed, NewObject, NewPromise, NewMessage, NewLone, Learns, Performs, perform, Move, Opened, Stepped, Swallowed, Says, AnyNotice, Nobody, went, without, hear, hear_message, Follows, IsHonest}
use Rattle.law_adversary.specs.Moves.{Usual, Recorded, Framed, Received, entered_at, sight_at, framed_on, placed_from}
use Rattle.law_adversary.proofs.Lift.{usual_reached, frames_lifted}
use Rattle.law_hostile.specs.Hostile as hostile
use Rattle.law_hostile.specs.Hostile.{May, Lawful, IsHostile, IsReached}
use Rattle.law_hostile.proofs.Links.{with_link_holds, found_holds, push_all_holds}
use Rattle.law_hostile.proofs.Comes.{TellsAs, as_before, one_more, Coming, Passes, Lands, comes}
use Rattle.law_hostile.proofs.Known.{Moves, Usually, beside_stands, move_stands, left_stands, told_entries, drew_stands, drew_told}

-- each half of what the notes are
half_links : (B C : ℕ → ℕ → Note Name → Type 0) → ((v w : ℕ) (n : Note Name) → B v w n → C v w n) → (ls : List Link) → AllOf (lift.Fits B) ls → AllOf (lift.Fits C) ls
half_links B C f [] h = tt
half_links B C f (l ∷ ls) h = let one = h.0 in ((all_map (f l.from l.to) l.log one.0, all_map (f l.from l.to) l.notes one.1), half_links B C f ls h.1)

other_ends : (B : ℕ → ℕ → Note Name → Type 0) (a b c d : ℕ) (ns : List (Note Name)) → a ≡ c → b ≡ d → AllOf (B a b) ns → AllOf (B c d) ns
other_ends B a b c d ns e f h = subst (λ x. AllOf (B x d) ns) e (subst (λ x. AllOf (B a x) ns) f h)

module _ (script : Script) where
  -- what the vat has is its own, and it put nothing in this step
  abbrev pub Clean : ℕ → Vat Name → Type 0
  Clean v s = Whole (draw_word script.key) v Each s × (s.outbox ≡ [])

  abbrev Names : ℕ → Naming Name Name
  Names v = naming (draw_word script.key) v

  -- ---- deeds

  thing_own : (v : ℕ) (a b : Vat Name) → Clean v a → (new_thing {N = Name} (Made zero [] []) >> give (tt {0})) a ≡ Gives (tt {0}) b → Clean v b
  unfolding ◌>>◌ and_then new_thing give
  thing_own v a b h e = let c : Clean v (record a { things = a.things ++ Made zero [] [] ∷ [] }) = h in given v _ b c e
    where
      given : (v : ℕ) (x b : Vat Name) → Clean v x → Gives (tt {0}) x ≡ Gives (tt {0}) b → Clean v b
      given v x b c e = let same : x ≡ b = cc in rw same at c

  given : (v : ℕ) (x b : Vat Name) → Clean v x → Gives (tt {0}) x ≡ Gives (tt {0}) b → Clean v b
  given v x b c e = let same : x ≡ b = cc in rw same at c

  came : (v : ℕ) (a : Vat Name) (n : Name) (h : ℕ) → h ≡ host_of n → Clean v a → AllOf (IsOwnKnown v) (a.known ++ begun n h ∷ [])
  came v a n h e c = came_own (draw_word script.key) v Each a n h e c.0

  promise_own : (v : ℕ) (a b : Vat Name) → Clean v a → (new_promise (Names v) >> give (tt {0})) a ≡ Gives (tt {0}) b → Clean v b
  unfolding ◌>>◌ and_then new_promise give naming name_of host_of
  promise_own v a b h e = let o = h.0 in given v _ b ((o.0, o.1, came v a _ a.number o.0 h, o.3, o.4, o.5), h.1) e

  message_own : (v u : ℕ) (a b : Vat Name) → Clean v a → (new_message (Names v) u >> give (tt {0})) a ≡ Gives (tt {0}) b → Clean v b
  unfolding ◌>>◌ and_then new_message give naming name_of mail_of answer_of host_of
  message_own v u a b h e = let o = h.0 in given v _ b ((o.0, o.1, came v a _ u refl h, o.3, o.4, o.5), h.1) e

  lone_own : (v : ℕ) (a b : Vat Name) → Clean v a → (new_lone_message (Names v) >> give (tt {0})) a ≡ Gives (tt {0}) b → Clean v b
  unfolding ◌>>◌ and_then new_lone_message give naming name_of mail_of answer_of host_of
  lone_own v a b h e = let o = h.0 in given v _ b ((o.0, o.1, o.2, o.3, o.4, o.5), h.1) e

  learnt_own : (v : ℕ) (n : Name) (a b : Vat Name) (c : Bool) → Clean v a → and_then {B = Unit {0}} (arrive.learn_name (Names v) (elim c [ true ↦ Old n | false ↦ New n (host_of n) ]) a) (λ _. give (tt {0})) ≡ Gives (tt {0}) b → Clean v b
  unfolding and_then give arrive.learn_name come naming name_of
  learnt_own v n a b true h e = given v a b h e
  learnt_own v n a b false h e = let o = h.0 in given v _ b ((o.0, o.1, came v a n (host_of n) refl h, o.3, o.4, o.5), h.1) e

  deed_own : (v : ℕ) (d : Deed) (a b : Vat Name) → Clean v a → perform script v d a ≡ Gives tt b → Clean v b
  unfolding perform names names_of ◌>>◌ world.read_name
  deed_own v NewObject a b h e = thing_own v a b h e
  deed_own v NewPromise a b h e = promise_own v a b h e
  deed_own v (NewMessage u) a b h e = message_own v u a b h e
  deed_own v NewLone a b h e = lone_own v a b h e
  deed_own v (Learns n) a b h e = learnt_own v n a b _ h e

  -- ---- what comes

  message_heard : (v : ℕ) (m : Name) (a b : Vat Name) → Clean v a → hear_message script v m true a ≡ Gives (tt {0}) b → Clean v b
  unfolding hear_message ◌>>=◌ and_then arrive.learn_message mail names naming mail_of
  message_heard v m a b h e = let o = h.0 in deed_own v (Learns (answer_of v m)) (record a { mails = a.mails ++ m ∷ [] }) b ((o.0, o.1, o.2, o.3, o.4, o.5), h.1) e

  lone_heard : (v : ℕ) (m : Name) (a b : Vat Name) → Clean v a → (arrive.learn_message (Names v) (New m (host_of m)) >> give (tt {0})) a ≡ Gives (tt {0}) b → Clean v b
  unfolding ◌>>◌ and_then give arrive.learn_message mail naming name_of mail_of
  lone_heard v m a b h e = let o = h.0 in given v _ b ((o.0, o.1, o.2, o.3, o.4, o.5), h.1) e

  heard_by : (v : ℕ) (m : Name) (asks : Bool) (a b : Vat Name) → Clean v a → hear_message script v m asks a ≡ Gives tt b → Clean v b
  unfolding hear_message names
  heard_by v m true a b h e = message_heard v m a b h e
  heard_by v m false a b h e = lone_heard v m a b h e

  pub heard_own : (v : ℕ) (n : Note Name) (a b : Vat Name) → Clean v a → hear script v n a ≡ Gives tt b → Clean v b
  unfolding hear names give
  heard_own v (Deliver d x verb ys) a b h e = heard_by v d.message d.asks a b h e
  heard_own v other a b h e = given v a b h e

  silent : (v : ℕ) (t : Vat Name) → Clean v t → Its script v t × AllOf (λ (p : Put Name). OfNotes script v p.to p.note) t.outbox
  silent v t h = let e : t.outbox ≡ [] = h.1 in ((h.0, rw e tt), rw e tt)

  module _ (hs : List ℕ) where
    pub deeds_own : (w : World) (v : ℕ) (ds : List Deed) (a t : Vat Name) → Clean v a → Performs script (IsHostile hs) AnyNotice (λ w v s d. May script w v s d) (λ w v u s n. Lawful script w v u s n) w v ds a t → Clean v t
    deeds_own w v [] a t h e = rw e at h
    deeds_own w v (d ∷ ds) a t h p = deeds_own w v ds p.0 t (deed_own v d a p.0 h p.2) p.3

    -- ---- what is said

    pub ready_clean : (w : World) (v : ℕ) (s : Vat Name) → InScript script v s → Clean v (readied w s)
    unfolding readied
    ready_clean w v s o = ((o.0, o.1, o.2, o.3, tt, λ u e. tt), refl)

    out_its : (v u : ℕ) (n : Note Name) (t : Vat Name) → Clean v t → IsBetween v u n → Carries v u n → (ps : List (Put Name)) → t.outbox ≡ ps → Its script v (record t { outbox = ps ++ record { to = u; note = n } ∷ [] }) × AllOf (λ (p : Put Name). OfNotes script v p.to p.note) (ps ++ record { to = u; note = n } ∷ [])
    out_its v u n t h b c [] e = let o = h.0 in (((o.0, o.1, o.2, o.3, (b, tt), λ x y. tt), (c, tt)), ((b, c), tt))
    out_its v u n t h b c (p ∷ ps) e = absurd (nothing (p ∷ ps) (sym h.1 ∙ e))
      where
        nothing : (qs : List (Put Name)) → [] ≡ p ∷ ps → ⊥
        nothing qs f = cc

    said_is : (v : ℕ) (x r : Vat Name) → Its script v x × AllOf (λ (p : Put Name). OfNotes script v p.to p.note) x.outbox → Gives (tt {0}) x ≡ Gives (tt {0}) r → Its script v r × AllOf (λ (p : Put Name). OfNotes script v p.to p.note) r.outbox
    said_is v x r h e = let same : x ≡ r = cc in rw same at h

    pub said_its : (v u : ℕ) (n : Note Name) (t r : Vat Name) → Clean v t → IsBetween v u n → Carries v u n → send_out u n t ≡ Gives tt r → Its script v r × AllOf (λ (p : Put Name). OfNotes script v p.to p.note) r.outbox
    unfolding send_out
    said_its v u n t r h b c e = said_is v _ r (out_its v u n t h b c t.outbox refl) e

    -- ---- what is received

    after_is : (Q : Vat Name → Type 0) (t : Vat Name) (d : Done Name (Unit {0})) → AfterGives Q d → d ≡ Gives tt t → Q t
    after_is Q t d h e = rw e at h

    landed_its : (x : World) (a v : ℕ) (s t : Vat Name) (n m : Note Name) → Stands script x → NoteOk (Told script x) n → slice_get x.vats v ≡ Some s → InScript script v s → TellsAs v n m → arrive.arrive (names script v) a (read_note (names_of s) m) (readied x s) ≡ Gives tt t
        → Its script v t × AllOf (λ (p : Put Name). OfNotes script v p.to p.note) t.outbox
    landed_its x a v s t n m g o q h alike f = let ok : NoteOk (Told script x) m = alike.names (Told script x) (told_entries script x) o in
        let its : Its script v t = (after_is (InScript script v) t _ ((own_keep script).note x a v s m g q (note_up (Told script x) (IsMade x.vats x.drawn) (λ b k. k.0) m ok) h) f, after_is (CarriesOut script v) t _ (note_carries script x v s g q a m ok) f) in
        (its, (its_keep script).outs v t its)

    pub received_its : (w : World) (a v : ℕ) (s t : Vat Name) (n : Note Name) → Stands script w → NoteOk (Told script w) n → slice_get w.vats v ≡ Some s → InScript script v s → Coming script w a v s t n → Its script v t × AllOf (λ (p : Put Name). OfNotes script v p.to p.note) t.outbox
    received_its w a v s t n g o q h (Passes none same) = silent v t (subst (λ z. Clean v z) same (ready_clean w v s h))
    received_its w a v s t n g o q h (Lands _ m as_before alike f) = landed_its w a v s t n m g o q h alike f
    received_its w a v s t n g o q h (Lands _ m (one_more i) alike f) = let x : World = record w { drawn = w.drawn ++ i ∷ [] } in landed_its x a v s t n m (drew_stands script w x (one_more i) g) (drew_told script w x n (one_more i) o) q h alike f

    -- ---- moves

    abbrev pub All : World → Type 0
    All = lift.All script (Its script) (OfNotes script) (Ever script) (Any script)

    abbrev Fits : Link → Type 0
    Fits = lift.Fits (OfNotes script)

    is_so : (x y : World) → All x → y ≡ x → All y
    is_so x y h e = rw (sym e) at h

    pushed_either : (b : Bool) (n : Note Name) (l : Link) → OfNotes script l.from l.to n → Fits l → Fits (elim b [ true ↦ record l { log = l.log ++ n ∷ [] } | false ↦ record l { notes = l.notes ++ n ∷ []; log = l.log ++ n ∷ [] } ])
    pushed_either true n l i h = (all_end (OfNotes script l.from l.to) l.log n h.0 i, h.1)
    pushed_either false n l i h = (all_end (OfNotes script l.from l.to) l.log n h.0 i, all_end (OfNotes script l.from l.to) l.notes n h.1 i)

    pushing : (n : Note Name) (v u : ℕ) → OfNotes script v u n → (l : Link) → l.from ≡ v → l.to ≡ u → Fits l → Fits (world.pushed n l)
    unfolding world.pushed
    pushing n v u i l e f h = pushed_either l.cut n l (rw (sym e, sym f) at i) h

    each_next : (w : World) (v : ℕ) (r : Vat Name) → All w → Its script v r → (u : ℕ) (q : Vat Name) → ((u ≡ v) × (r ≡ q)) ⊎ (slice_get w.vats u ≡ Some q) → Its script u q
    each_next w v r h k u q (inl e) = let one : Its script u r = rw (sym e.0) at k in rw e.1 at one
    each_next w v r h k u q (inr e) = let b = h.2 in b.0 u q e

    went_all : (w : World) (v : ℕ) (head : List Event) (r : Vat Name) → Stands script (went v w head r) → All w → Its script v r → AllOf (λ (p : Put Name). OfNotes script v p.to p.note) r.outbox → All (went v w head r)
    unfolding went
    went_all w v head r g h k o = let b = h.2 in (g, tt, ((λ u q e. each_next w v r h k u q (put_at_or v r w.vats u q e)), push_all_holds Fits v r.outbox w.links (all_map (λ p i. pushing p.note v p.to i) r.outbox o) b.1))

    left_all : (a v : ℕ) (l : Link) (n : Note Name) (ns : List (Note Name)) (w : World) → world.link_at a v w.links ≡ Some l → l.notes ≡ n ∷ ns → Stands script (without a v ns w) → All w → All (without a v ns w)
    unfolding without world.with_notes
    left_all a v l n ns w i e g h = let b = h.2 in let found = found_holds Fits a v w.links l b.1 i in let here : AllOf (OfNotes script l.from l.to) (n ∷ ns) = rw e at found.0.1 in let rest : AllOf (OfNotes script a v) ns = other_ends (OfNotes script) l.from l.to a v ns found.1 found.2 here.1 in
        (g, tt, (b.0, with_link_holds Fits (world.with_notes ns) a v (λ j f x y. (y.0, other_ends (OfNotes script) a v j.from j.to ns (sym f) (sym x) rest)) w.links b.1))

    then_once : (r : Run) (f : World → Run) (y : World) → r ≡ Going y → f y ≡ Going y → world.then_goes r f ≡ Going y
    unfolding world.then_goes
    then_once r f y e g = rw e g

    one_open : (v : ℕ) (p : Program) (w y : World) → world.open_vat script v p w ≡ Going y → world.open_from script v (p ∷ []) w ≡ Going y
    unfolding world.open_from
    one_open v p w y e = then_once (world.open_vat script v p w) (λ z. Going z) y e refl

    -- what stands in frames, and the lines, do not matter
    beside_all : (x : World) (es : List Event) (cs : List Connected) → Stands script (record x { connections = cs; history = es }) → All x → All (record x { connections = cs; history = es })
    beside_all x es cs g h = let b = h.2 in (g, tt, b)

    before_frames : (x y : World) (cs : List Connected) → Stands script y → y ≡ record x { connections = cs } → Stands script x
    before_frames x y cs g e = let one : Stands script (record x { connections = cs }) = rw e at g in beside_stands script hs (record x { connections = cs }) x.history x.connections one

    usual_fits : (w y : World) → Stands script y → All w → Usually script hs w y → All y
    usual_fits w y g h (Opened front rest p o i e) = lift.opens_all script (Its script) (OfNotes script) (Ever script) (Any script) (its_keep script) front (p ∷ []) rest w y i h (one_open (length front) p w y e)
    usual_fits w y g h (Stepped entry k o e) = lift.step_all script (Its script) (OfNotes script) (Ever script) (Any script) (its_keep script) entry k w y (all_allowed (Any script) (λ v to. tt) (entry ∷ [])).0 h e
    usual_fits w y g h (Swallowed k a v l n ns s t o i c j q f e) = let left = left_stands script a v l n ns w i j h.0 in let b = h.2 in let out = silent v t (heard_own v n (readied w s) t (ready_clean w v s (b.0 v s q).0) f) in
        is_so _ y (went_all (without a v ns w) v _ t (rw e at g) (left_all a v l n ns w i j left.0 h) out.0 out.1) e
    usual_fits w y g h (Says v u s t r ds n o i p l f e) = let b = h.2 in let out = said_its v u n t r (deeds_own w v ds (readied w s) t (ready_clean w v s (b.0 v s i).0) p) l.2 l.3 f in is_so (went v w [] r) y (went_all w v [] r (rw e at g) h out.0 out.1) e

    came_fits : (w : World) (a v : ℕ) (l : Link) (n : Note Name) (ns : List (Note Name)) (s t : Vat Name) (head : List Event) → world.link_at a v w.links ≡ Some l → l.notes ≡ n ∷ ns → slice_get w.vats v ≡ Some s → All w
        → receive (names script v) (sight_at w a v s) a (read_note (names_of s) (entered_at w a v s n)) (readied w s) ≡ Gives tt t → Stands script (went v (without a v ns w) head t) → All (went v (without a v ns w) head t)
    came_fits w a v l n ns s t head i j q h f g = let left = left_stands script a v l n ns w i j h.0 in let b = h.2 in let out = received_its w a v s t n h.0 left.1 q (b.0 v s q).0 (comes script w a v s t n _ (sight_at w a v s) f) in
        went_all (without a v ns w) v head t g (left_all a v l n ns w i j left.0 h) out.0 out.1

    move_fits : (w y : World) → Stands script y → All w → Moves script hs w y → All y
    move_fits w y g h (Usual m) = usual_fits w y g h m
    move_fits w y g h (Recorded b o es e) = is_so _ y (beside_all w (w.history ++ es) w.connections (rw e at g) h) e
    move_fits w y g h (Framed v u s t r ds n op new o i p l f e) = let x : World = went v w [] r in
        is_so (framed_on w v u op n new x) y (beside_all x x.history _ (rw e at g) (usual_fits w x (before_frames x y _ g e) h (Says v u s t r ds n o i p l f refl))) e
    move_fits w y g h (Received u z k a v l n ns s t o i c j q f e) = let x : World = went v (without a v ns w) (Carried k a v (entered_at w a v s n) (world.next_frame a v w.connections) ∷ []) t in
        is_so (placed_from a v (entered_at w a v s n) w t x) y (beside_all x x.history _ (rw e at g) (came_fits w a v l n ns s t _ i j q h f (before_frames x y _ g e))) e

    pub reached_fits : ((v : ℕ) (p : Program) → slice_get script.vats v ≡ Some p → Once (v ∷ p.knows)) → (w : World) → IsReached script hs w → All w
    reached_fits once w r = frames_lifted script (IsHostile hs) AnyNotice (λ w v s d. May script w v s d) (λ w v u s n. Lawful script w v u s n) (λ w v u s n op new. Lawful script w v u s n) All (begins_all script once) (λ w y q h m. move_fits w y (move_stands script hs w y h.0 m) h m) w r

pub notes_name_their_ends : hostile.NotesNameTheirEnds
notes_name_their_ends script once hs w r = let h = reached_fits script hs once w r in let b = h.2 in half_links (OfNotes script) IsBetween (λ v u n k. k.0) w.links b.1

pub notes_carry_their_ends : hostile.NotesCarryTheirEnds
notes_carry_their_ends script once hs w r = let h = reached_fits script hs once w r in let b = h.2 in half_links (OfNotes script) Carries (λ v u n k. k.1) w.links b.1

-- ---- with no hostile vat

module _ (script : Script) where
  not_in : (v : ℕ) → IsHostile [] v → ⊥
  unfolding is_in
  not_in v h = cc

  abbrev Honest : World → World → Type 0
  Honest w y = Move script Nobody AnyNotice (λ w v s d. ⊥) (λ w v u s n. ⊥) w y

  honest_entry : (w : World) (entry : Entry) → IsHonest script (IsHostile []) AnyNotice (λ w v s d. May script w v s d) (λ w v u s n. Lawful script w v u s n) w entry
  honest_entry w (world.Turn v) = not_in v
  honest_entry w (world.Carry a v) = not_in v
  honest_entry w (world.CutLink a b) = tt
  honest_entry w (world.NoticeLink v to) = (not_in v, tt)

  honest_move : (w y : World) → Honest w y → Move script (IsHostile []) AnyNotice (λ w v s d. May script w v s d) (λ w v u s n. Lawful script w v u s n) w y
  honest_move w y (Opened front rest p o i e) = Opened front rest p (not_in (length front)) i e
  honest_move w y (Stepped entry k o e) = Stepped entry k (honest_entry w entry) e
  honest_move w y (Swallowed k a v l n ns s t o i c j q f e) = absurd o
  honest_move w y (Says v u s t r ds n o i p l f e) = absurd o

  follows : (ws : List World) (y : World) → Follows script Nobody AnyNotice (λ w v s d. ⊥) (λ w v u s n. ⊥) ws y → Follows script (IsHostile []) AnyNotice (λ w v s d. May script w v s d) (λ w v u s n. Lawful script w v u s n) ws y
  follows [] y h = h
  follows (w ∷ ws) y h = (honest_move w y h.0, follows ws w h.1)

pub runs_are_reached : hostile.RunsAreReached
runs_are_reached script w r = usual_reached script (IsHostile []) AnyNotice (λ w v s d. May script w v s d) (λ w v u s n. Lawful script w v u s n) (λ w v u s n op new. Lawful script w v u s n) w (r.0, follows script r.0 w r.1)
