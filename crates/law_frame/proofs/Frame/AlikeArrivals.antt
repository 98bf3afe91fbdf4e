-- The arrival of a note by the receiver's own numbers, by what is read alike and by the theorem on numbers.
use Rattle.std.proofs.Common.{◌≡◌, ℕ, suc, ◌+◌, Bool, true, false, List, [], ◌∷◌, ◌++◌, Option, Some, refl, sym, ap, subst, ◌∙◌, length, zero}
use Rattle.std.specs.Prelude.{slice_get}
use Rattle.def_machine.specs.Values.{Name, Local, Naming, naming, numbering}
use Rattle.def_machine.specs.State.{Passeds, Note, Deliver, Vat, Done, Gives, Act}
use Rattle.def_machine.specs.Arrive as arrive
use Rattle.def_machine.specs.Arrive.{Incoming, Old, New}
use Rattle.def_run.specs.Draws.{draw_word}
use Rattle.def_run.specs.World as world
use Rattle.def_run.specs.World.{Script, Entry, Carry, Carried, Event, Link, World, Run, Goes as Going, Stopped, names, names_of, read_note, readied, put_at, link_at}
use Rattle.law_fate.specs.Name.Names.{Once, names_in}
use Rattle.law_fate.proofs.Name.Among.{get_put}
use Rattle.def_machine.specs.Maps as maps
use Rattle.def_machine.specs.Maps.{incoming}
use Rattle.law_machine.specs.Renamed.Renaming.{Wire as Wired, EndsWith}
use Rattle.law_machine.specs.Renamed.Stands.{Is, IsTable, StandsFor, found}
use Rattle.law_machine.proofs.Renamed.Steps.{arrivals_stand}
use Rattle.law_reference.specs.Reference.NameTableRuns.{BringsNew, EntryBringsNew, NotesBringNew}
use Rattle.law_reference.specs.Reference.Tables.{table_of}
use Rattle.law_reference.proofs.Reference.KnownRuns.{names_are_known_once}
use Rattle.law_reference.proofs.Reference.VatTables.{tables_tell_things_apart}
use Rattle.law_reference.proofs.Reference.Moves.{steps_end}
use Rattle.law_frame.specs.Frame.Tables.{import_numbers}
use Rattle.law_frame.specs.Frame.Hearing.{Heard}
use Rattle.law_frame.specs.Frame.Alike.{names_heard, as_told, from_peer, wire_name}
use Rattle.law_frame.proofs.Frame.Ranks.{Starts}
use Rattle.law_frame.specs.Frame.AlikeArrivals.{frame_heard, table_across, ArrivalsByNumbersStand}
use Rattle.law_frame.specs.Frame.Positions.{exported_with, PositionsAreKeptAlike}
use Rattle.law_frame.proofs.Frame.Grow.{starts_same}
use Rattle.law_frame.proofs.Frame.OrderRuns.{differ_once, new_front}
use Rattle.law_frame.proofs.Frame.Learning.{Begins, note_begins}
use Rattle.law_frame.proofs.Frame.Reading.{NoteAlike}
use Rattle.law_frame.proofs.Frame.Worlds.{asked_stands, asked_for}
use Rattle.law_frame.proofs.Frame.AlikeLaws.{note_read}

-- ---- what the frame does not tell is not looked at

by_message : (v : ℕ) (x : Incoming Name Name) (b : Bool) (c : Option (Incoming Name Name)) (n : Incoming Name Name) (verb : List ℕ) (ys : Passeds (Incoming Name Name)) → as_told v (maps.note (incoming Is (λ x. x)) (Deliver (record { message = x; asks = b; answer = c }) n verb ys)) ≡ maps.note (incoming Is (λ x. x)) (as_told v (Deliver (record { message = x; asks = b; answer = c }) n verb ys))
unfolding as_told from_peer
by_message v (Old m) b c n verb ys = refl
by_message v (New m h) b c n verb ys = refl

mail_arrives : (K : Naming Name Name) (v from : ℕ) (x : Incoming Name Name) (b : Bool) (c : Option (Incoming Name Name)) (n : Incoming Name Name) (verb : List ℕ) (ys : Passeds (Incoming Name Name)) → arrive.arrive K from (as_told v (Deliver (record { message = x; asks = b; answer = c }) n verb ys)) ≡ arrive.arrive K from (Deliver (record { message = x; asks = b; answer = c }) n verb ys)
unfolding as_told from_peer arrive.arrive arrive.arrive_deliver arrive.learn_message
mail_arrives K v from (Old m) b c n verb ys = refl
mail_arrives K v from (New m h) b c n verb ys = refl

pub told_note : (v : ℕ) (n : Note (Incoming Name Name)) → as_told v (maps.note (incoming Is (λ x. x)) n) ≡ maps.note (incoming Is (λ x. x)) (as_told v n)
unfolding as_told from_peer
told_note v (Deliver d n verb ys) = by_message v d.message d.asks d.answer n verb ys
told_note v other = refl

pub told_arrives : (K : Naming Name Name) (v from : ℕ) (n : Note (Incoming Name Name)) → arrive.arrive K from (as_told v n) ≡ arrive.arrive K from n
unfolding as_told from_peer arrive.arrive arrive.arrive_deliver arrive.learn_message
told_arrives K v from (Deliver d n verb ys) = mail_arrives K v from d.message d.asks d.answer n verb ys
told_arrives K v from other = refl

-- ---- the entry that carries the note

pub put_given : (script : Script) (u : ℕ) (w y : World) (head : List Event) (k : ℕ) (d : Done Name (Unit {0})) → world.put_back u w head k d ≡ Going y → (t : Vat Name) × (d ≡ Gives tt t) × (y.vats ≡ put_at u t w.vats)
unfolding world.put_back
put_given script u w y head k (Gives a t) e = (t, refl, vats_is (record { fuel = t.fuel; drawn = t.drawn; vats = put_at u t w.vats; links = world.push_all u t.outbox w.links; connections = world.connections_after u t head w.connections; history = w.history ++ head ++ world.events_of w.links u t.happened }) y e)
  where
    vats_is : (z y : World) → Going z ≡ Going y → y.vats ≡ z.vats
    vats_is z y e = ap (λ (x : World). x.vats) (let same : y ≡ z = cc in same)
put_given script u w y head k other e = cc

module _ (script : Script) (k v u : ℕ) (x : World) (l : Link) (n : Note Name) (ns : List (Note Name)) (s : Vat Name) where
  abbrev Taken : World
  Taken = record x { links = world.with_link (world.with_notes ns) v u x.links }

  abbrev Outcome : Done Name (Unit {0})
  Outcome = arrive.arrive (naming (draw_word script.key) u) v (read_note (names_of s) n) (readied x s)

  abbrev Put : Run
  Put = world.put_back u Taken (Carried k v u n (world.next_frame v u Taken.connections) ∷ []) (world.step_number script k) Outcome

  some_arrives : (o : Option (Vat Name)) → o ≡ Some s → world.arrives script k v u Taken n o ≡ Put
  unfolding world.arrives world.within names readied
  some_arrives o e = rw e refl

  notes_arrive : (ms : List (Note Name)) → ms ≡ n ∷ ns → slice_get x.vats u ≡ Some s → world.carry_notes script k v u x ms ≡ Put
  unfolding world.carry_notes
  notes_arrive ms e f = rw e (some_arrives (slice_get x.vats u) f)

  uncut_or : (b : Bool) (p q : Run) → b ≡ false → ◌≡◌ {A = Run} (elim b [ true ↦ p | false ↦ q ]) q
  uncut_or true p q e = cc
  uncut_or false p q e = refl

  pub link_arrives : (o : Option Link) → o ≡ Some l → l.cut ≡ false → l.notes ≡ n ∷ ns → slice_get x.vats u ≡ Some s → world.carry_link script k v u x o ≡ Put
  unfolding world.carry_link
  link_arrives o e c h f = rw e (uncut_or l.cut (world.idle script k x) (world.carry_notes script k v u x l.notes) c ∙ notes_arrive l.notes h f)

  pub carried : (y : World) → link_at v u x.links ≡ Some l → l.cut ≡ false → l.notes ≡ n ∷ ns → slice_get x.vats u ≡ Some s → world.step script (Carry v u) k x ≡ Going y → (t : Vat Name) × (Outcome ≡ Gives tt t) × (y.vats ≡ put_at u t x.vats)
  unfolding world.step
  carried y at c h f e = put_given script u Taken y (Carried k v u n (world.next_frame v u Taken.connections) ∷ []) (world.step_number script k) Outcome (sym (link_arrives (link_at v u x.links) at c h f) ∙ e)

-- ---- the last entry brings what is new

then_last : (x : World) (e : Entry) (r : Run) (f : World → Run) → ((y : World) → r ≡ Going y → f y ≡ Going x → EntryBringsNew x e) → world.then_goes r f ≡ Going x → EntryBringsNew x e
unfolding world.then_goes
then_last x e (Going y) f g i = g y refl i
then_last x e (Stopped c j y) f g i = cc

pub new_last : (script : Script) (es : List Entry) (e : Entry) (k : ℕ) (w x : World) → NotesBringNew script (es ++ e ∷ []) k w → world.steps_from script es k w ≡ Going x → EntryBringsNew x e
unfolding world.steps_from
new_last script [] e k w x h f = subst (λ z. EntryBringsNew z e) (let same : w ≡ x = cc in same) h.0
new_last script (d ∷ es) e k w x h f = then_last x e (world.step script d k w) (world.steps_from script es (suc k)) (λ y g i. new_last script es e (suc k) y x (h.1 y g) i) f

-- ---- the table

pub tables_join : (x y : World) (u : ℕ) (s r : Vat Name) → IsTable u (table_of x u s) → IsTable u (table_of y u r) → IsTable u (table_across x u r)
unfolding table_of table_across
tables_join x y u s r f g = record { promises = g.promises; distinct = g.distinct; messages = g.messages; abroad = f.abroad; exports_distinct = f.exports_distinct }

pub some_same : (t r : Vat Name) → Some t ≡ Some r → t ≡ r
some_same t r e = cc

-- where the note is read alike, and the outcome is known
stands : (script : Script) (x : World) (v u : ℕ) (s r : Vat Name) (other : v ≡ u → ⊥) (n : Note Name) → NoteAlike script x v u s n (names_in r.known) r.mails other n → IsTable u (table_across x u r) → arrive.arrive (naming (draw_word script.key) u) v (read_note (names_of s) n) (readied x s) ≡ Gives tt r
    → (h : Heard (Note (Incoming Local Wired))) × (frame_heard script x v u s n ≡ Some h) × ((q : Vat Local) → StandsFor u (table_across x u r) q (readied x s) → maps.done (found u (table_across x u r)) (λ a. a) (arrive.arrive (numbering (draw_word script.key)) v h.read q) ≡ Gives tt (maps.vat Is r))
unfolding frame_heard table_across
stands script x v u s r other n a table e = (a.0, a.1, λ q f. arrivals_stand word u (table_across x u r) table (wire_name x v u n) v a.0.read note same q (readied x s) f (subst (λ d. EndsWith (table_across x u r) d) (sym ends) (refl, refl)) ∙ ap (λ d. maps.done Is (λ z. z) d) ends)
  where
    word : ℕ → ℕ
    word = draw_word script.key

    note : Note (Incoming Name Name)
    note = as_told v (read_note (names_of s) n)

    same : maps.note (incoming (found u (table_across x u r)) (wire_name x v u n)) a.0.read ≡ maps.note (incoming Is (λ z. z)) note
    same = a.2 ∙ told_note v (read_note (names_of s) n)

    ends : arrive.arrive (naming word u) v note (readied x s) ≡ Gives tt r
    ends = ap (λ (m : Act Name (Unit {0})). m (readied x s)) (told_arrives (naming word u) v v (read_note (names_of s) n)) ∙ e

pub arrivals_by_numbers : ArrivalsByNumbersStand
unfolding readied names_of
arrivals_by_numbers script once w x y es k v u follow new opened stepped carries s r there after other l at uncut n ns head =
    stands script x v u s r other n (note_read script once w x es k follow opened stepped v u s there other l at uncut ns n head (names_in r.known) r.mails heard (asked_stands x v u n s brings) (asked_for script once w x es k follow opened stepped v u s there other l at uncut n ns head before)) table outcome
  where
    done : world.steps_from script (es ++ Carry v u ∷ []) k w ≡ Going y
    done = steps_end script es (Carry v u) k w x y stepped carries

    before : NotesBringNew script es k w
    before = new_front script once es (Carry v u ∷ []) k w new

    brings : BringsNew x v u n s
    brings = new_last script es (Carry v u) k w x new stepped l n ns s at head there

    moved : (t : Vat Name) × (arrive.arrive (naming (draw_word script.key) u) v (read_note (names_of s) n) (readied x s) ≡ Gives tt t) × (y.vats ≡ put_at u t x.vats)
    moved = carried script (k + length es) v u x l n ns s y at uncut head there carries

    outcome : arrive.arrive (naming (draw_word script.key) u) v (read_note (names_of s) n) (readied x s) ≡ Gives tt r
    outcome = moved.1 ∙ ap (λ z. Gives tt z) (some_same moved.0 r (sym (get_put x.vats u s moved.0 there) ∙ sym (ap (λ us. slice_get us u) moved.2) ∙ after))

    once_known : Once (names_in r.known)
    once_known = differ_once y ((names_are_known_once script once).1 w y (es ++ Carry v u ∷ []) k opened new done) u r after

    heard : Starts (names_heard (names_in s.known) n) (names_in r.known)
    heard = subst (λ d. Begins (draw_word script.key) u (names_heard (names_in s.known) n) d) outcome (note_begins (draw_word script.key) u v (names_in s.known) n (readied x s) (same_names x s)) once_known
      where
        same_names : (x : World) (s : Vat Name) → names_in (readied x s).known ≡ names_in s.known
        same_names x s = refl

    table : IsTable u (table_across x u r)
    table = tables_join x y u s r ((tables_tell_things_apart script once).1 w x es k opened before stepped u s there) ((tables_tell_things_apart script once).1 w y (es ++ Carry v u ∷ []) k opened new done u r after)

-- ---- positions

kept_alike : (script : Script) (x : World) (v u : ℕ) (s : Vat Name) (other : v ≡ u → ⊥) (n : Note Name) → NoteAlike script x v u s n (names_heard (names_in s.known) n) s.mails other n
    → (h : Heard (Note (Incoming Local Wired))) × (frame_heard script x v u s n ≡ Some h) × (h.imports ≡ import_numbers v (names_heard (names_in s.known) n) zero (exported_with x v u n)) × (h.known ≡ length (names_heard (names_in s.known) n))
unfolding frame_heard exported_with
kept_alike script x v u s other n a = (a.0, a.1, a.3, a.4)

pub positions_kept_alike : PositionsAreKeptAlike
positions_kept_alike script once w x es k follow new opened stepped v u s there other l at uncut n ns head brings = let names = names_heard (names_in s.known) n in
    kept_alike script x v u s other n (note_read script once w x es k follow opened stepped v u s there other l at uncut ns n head names s.mails (starts_same names) (asked_stands x v u n s brings) (asked_for script once w x es k follow opened stepped v u s there other l at uncut n ns head new))
