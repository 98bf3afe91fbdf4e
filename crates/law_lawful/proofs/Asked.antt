-- In each scene what a vat asked its peer for, by their tables, is what its notes ask for.
use Rattle.std.proofs.Common.{◌≡◌, ℕ, zero, suc, Bool, true, false, List, [], ◌∷◌, ◌++◌, Some, refl, sym, subst, ap, ◌∙◌}
use Rattle.std.specs.Prelude.{◌==◌}
use Rattle.def_op.specs.Frames.{Operation}
use Rattle.def_machine.specs.Values.{Name}
use Rattle.def_machine.specs.State.{Note, Put, Vat, Gives, send_out}
use Rattle.def_run.specs.Connections as reading
use Rattle.def_run.specs.Entered as entering
use Rattle.def_run.specs.Wire as wire
use Rattle.def_run.specs.Wire.{Connected, connected_at, unconnected, with_connected}
use Rattle.def_run.specs.World as world
use Rattle.def_run.specs.World.{Program, CutLink, Event, Carried, Link, World, Goes, link_at, with_link, with_notes, readied}
use Rattle.def_hostile.specs.Hostile.{Play, said_on}
use Rattle.law_machine.specs.Run.Moves.{AnyNotice, Moved, Still, Severs, Drops, Steps, Arrives, Hears, Tells, TellsOfNoNote, went, without}
use Rattle.law_machine.proofs.Run.Told.{moves_told}
use Rattle.law_adversary.specs.Moves.{FrameMove, Usual, Recorded, Framed, Received, entered_at, framed_on, placed_from}
use Rattle.law_adversary.proofs.Lift.{frames_lifted}
use Rattle.law_fate.specs.Name.Names.{AllOf}
use Rattle.law_fate.proofs.Name.Facts.{all_append}
use Rattle.law_reference.specs.Reference.Logs.{questions_in}
use Rattle.law_injected.specs.HostileRuns.{AnyDeed, NothingSaid, IsHostile, IsSpoken}
use Rattle.law_lawful.specs.Lawful.{AnyWord, QuestionsAreAsLogged}
use Rattle.law_lawful.proofs.Logged.{Agree, asked_first, framed_first, links_agree, connections_agree, put_agree}
use Rattle.law_lawful.proofs.Moved.{sent_is}
use Rattle.law_lawful.proofs.Reached.{in_scenes}
use Rattle.law_lawful.proofs.Spoken.{counts}
use Rattle.law_lawful.proofs.Tables.{connected_holds}
use Rattle.law_hostile.proofs.Links.{found_holds}

-- ---- each change

pushed_from : (n : Note Name) (l : Link) → (world.pushed n l).from ≡ l.from
unfolding world.pushed
pushed_from n l = either l.cut
  where
    either : (b : Bool) → (elim b as (λ _. Link) [ true ↦ record l { log = l.log ++ n ∷ [] } | false ↦ record l { notes = l.notes ++ n ∷ []; log = l.log ++ n ∷ [] } ]).from ≡ l.from
    either true = refl
    either false = refl

pushed_to : (n : Note Name) (l : Link) → (world.pushed n l).to ≡ l.to
unfolding world.pushed
pushed_to n l = either l.cut
  where
    either : (b : Bool) → (elim b as (λ _. Link) [ true ↦ record l { log = l.log ++ n ∷ [] } | false ↦ record l { notes = l.notes ++ n ∷ []; log = l.log ++ n ∷ [] } ]).to ≡ l.to
    either true = refl
    either false = refl

pushed_log : (n : Note Name) (l : Link) → (world.pushed n l).log ≡ l.log ++ n ∷ []
unfolding world.pushed
pushed_log n l = either l.cut
  where
    either : (b : Bool) → (elim b as (λ _. Link) [ true ↦ record l { log = l.log ++ n ∷ [] } | false ↦ record l { notes = l.notes ++ n ∷ []; log = l.log ++ n ∷ [] } ]).log ≡ l.log ++ n ∷ []
    either true = refl
    either false = refl

wrote_from : (n : Note Name) (c : Connected) → (wire.wrote n c).from ≡ c.from
unfolding wire.wrote
wrote_from n c = refl

wrote_to : (n : Note Name) (c : Connected) → (wire.wrote n c).to ≡ c.to
unfolding wire.wrote
wrote_to n c = refl

wrote_asks : (b : ℕ) (n : Note Name) (c : Connected) → c.to ≡ b → (wire.wrote n c).tables.questions ≡ c.tables.questions ++ questions_in b (n ∷ [])
unfolding wire.wrote reading.put_on
wrote_asks b n c e = ap (λ xs. c.tables.questions ++ xs) (asked_first c.from c.to n ∙ ap (λ x. questions_in x (n ∷ [])) e)

said_asks : (o : Operation) (u : ℕ) (n : Note Name) (new : List Name) (c : Connected) → (said_on u o n new c).tables.questions ≡ c.tables.questions ++ questions_in u (n ∷ [])
unfolding said_on
said_asks o u n new c = ap (λ xs. c.tables.questions ++ xs) (framed_first u n)

said_from : (o : Operation) (u : ℕ) (n : Note Name) (new : List Name) (c : Connected) → (said_on u o n new c).from ≡ c.from
unfolding said_on
said_from o u n new c = refl

said_to : (o : Operation) (u : ℕ) (n : Note Name) (new : List Name) (c : Connected) → (said_on u o n new c).to ≡ c.to
unfolding said_on
said_to o u n new c = refl

puts_agree : (v : ℕ) (ps : List (Put Name)) (ls : List Link) (cs : List Connected) → Agree ls cs → Agree (world.push_all v ps ls) (wire.write_all v ps cs)
unfolding world.push_all wire.write_all
puts_agree v [] ls cs h = h
puts_agree v (p ∷ ps) ls cs h = puts_agree v ps (with_link (world.pushed p.note) v p.to ls) (with_connected (wire.wrote p.note) v p.to cs)
    (put_agree p.note (world.pushed p.note) (wire.wrote p.note) (pushed_from p.note) (pushed_to p.note) (pushed_log p.note) (wrote_from p.note) (wrote_to p.note) v p.to (wrote_asks p.to p.note) ls cs h)

hear_agrees : (a v k : ℕ) (n : Note Name) (frame : List ℕ) (ls : List Link) (cs : List Connected) → Agree ls cs → Agree ls (world.heard_by (Carried k a v n frame ∷ []) cs)
unfolding world.heard_by wire.hear_at wire.received
hear_agrees a v k n frame ls cs h = connections_agree (wire.received (connected_at a v cs) n) (λ c. refl) (λ c. refl) (λ c. refl) v a ls cs h

placed_agrees : (v a : ℕ) (ls : List Link) (cs : List Connected) → Agree ls cs → Agree ls (entering.imports_placed v a cs)
unfolding entering.imports_placed entering.import_placed
placed_agrees v a ls cs h = connections_agree entering.import_placed (λ c. refl) (λ c. refl) (λ c. refl) v a ls cs h

notes_agree : (a v : ℕ) (ns : List (Note Name)) (ls : List Link) (cs : List Connected) → Agree ls cs → Agree (with_link (with_notes ns) a v ls) cs
unfolding with_notes
notes_agree a v ns ls cs h = links_agree (with_notes ns) (λ l. refl) (λ l. refl) (λ l. refl) a v ls cs h

severed_agree : (a v : ℕ) (ls : List Link) (cs : List Connected) → Agree ls cs → Agree (with_link world.severed_link a v ls) cs
unfolding world.severed_link
severed_agree a v ls cs h = links_agree world.severed_link (λ l. refl) (λ l. refl) (λ l. refl) a v ls cs h

-- ---- each move

abbrev AsLogged : World → Type 0
AsLogged w = Agree w.links w.connections

is_so : (x y : World) → AsLogged x → y ≡ x → AsLogged y
is_so x y h e = subst AsLogged (sym e) h

went_agrees : (v : ℕ) (w : World) (head : List Event) (r : Vat Name) → Agree w.links (world.heard_by head w.connections) → AsLogged (went v w head r)
unfolding went world.connections_after
went_agrees v w head r h = puts_agree v r.outbox w.links (world.heard_by head w.connections) h

without_agrees : (a v : ℕ) (ns : List (Note Name)) (w : World) → AsLogged w → AsLogged (without a v ns w)
unfolding without
without_agrees a v ns w h = notes_agree a v ns w.links w.connections h

going_is : (x y : World) → Goes x ≡ Goes y → y ≡ x
going_is x y e = cc

cut_agrees : (k a b : ℕ) (w y : World) → AsLogged w → (p : _) → world.cut p k a b w ≡ Goes y → AsLogged y
unfolding world.cut
cut_agrees k a b w y h p e = is_so _ y (severed_agree b a (with_link world.severed_link a b w.links) w.connections (severed_agree a b w.links w.connections h)) (going_is _ y e)

module _ (play : Play) where
  severs : (k a b : ℕ) (w y : World) → AsLogged w → world.step play.script (CutLink a b) k w ≡ Goes y → AsLogged y
  unfolding world.step
  severs k a b w y h e = cut_agrees k a b w y h play.script e

  dropped : (w : World) (a v : ℕ) (ns : List (Note Name)) (es : List Event) → AsLogged w → AsLogged (record w { links = with_link (with_notes ns) a v w.links; history = w.history ++ es })
  dropped w a v ns es h = notes_agree a v ns w.links w.connections h

  linked : (w : World) (a v : ℕ) (ns : List (Note Name)) → AsLogged w → AsLogged (record w { links = with_link (with_notes ns) a v w.links })
  linked w a v ns h = notes_agree a v ns w.links w.connections h

  carried : (w : World) (a v k : ℕ) (n : Note Name) (frame : List ℕ) (t : Vat Name) → AsLogged w → AsLogged (went v w (Carried k a v n frame ∷ []) t)
  carried w a v k n frame t h = went_agrees v w (Carried k a v n frame ∷ []) t (hear_agrees a v k n frame w.links w.connections h)

  quiet_agrees : (w : World) (head : List Event) → TellsOfNoNote head → AsLogged w → Agree w.links (world.heard_by head w.connections)
  quiet_agrees w head q h = subst (λ cs. Agree w.links cs) (sym (q w.connections)) h

  usual_agrees : (w y : World) → AsLogged w → Moved play.script w (IsHostile play) AnyNotice AnyDeed NothingSaid y → AsLogged y
  usual_agrees w y h (Still es e) = is_so (record w { history = w.history ++ es }) y h e
  usual_agrees w y h (Severs k a b e) = severs k a b w y h e
  usual_agrees w y h (Drops a v n ns l es i c j none e) = is_so _ y (dropped w a v ns es h) e
  usual_agrees w y h (Steps v s q t what head o alone may quiet d e) = is_so _ y (went_agrees v w head t (quiet_agrees w head quiet h)) e
  usual_agrees w y h (Arrives a v s t n ns l k frame o i c j d e) = is_so _ y (carried (record w { links = with_link (with_notes ns) a v w.links }) a v k n frame t (linked w a v ns h)) e
  usual_agrees w y h (Hears a v s t n ns l k frame bad i c j q f e) = is_so _ y (carried (without a v ns w) a v k n frame t (without_agrees a v ns w h)) e
  usual_agrees w y h (Tells v u s t r ds n bad i p l f e) = absurd l

  -- what is put is that one note
  one_put : (w : World) (v u : ℕ) (t r : Vat Name) (n : Note Name) (o : Operation) (new : List Name) → IsSpoken play w v u t n o new → send_out u n t ≡ Gives tt r → r.outbox ≡ record { to = u; note = n } ∷ []
  unfolding readied
  one_put w v u t r n o new x e = let p = counts play AnyWord w v u t n o new x in ap (λ (z : Vat Name). z.outbox) (sent_is u n t r e) ∙ ap (λ ps. ps ++ record { to = u; note = n } ∷ []) p.outbox

  framed_agrees : (w : World) (v u : ℕ) (r : Vat Name) (n : Note Name) (o : Operation) (new : List Name) → r.outbox ≡ record { to = u; note = n } ∷ [] → AsLogged w → AsLogged (framed_on w v u o n new (went v w [] r))
  unfolding went world.push_all
  framed_agrees w v u r n o new e h = subst (λ ps. Agree (world.push_all v ps w.links) (with_connected (said_on u o n new) v u w.connections)) (sym e)
      (put_agree n (world.pushed n) (said_on u o n new) (pushed_from n) (pushed_to n) (pushed_log n) (said_from o u n new) (said_to o u n new) v u (λ c i. said_asks o u n new c) w.links w.connections h)

  placed : (w : World) (a v k : ℕ) (ns : List (Note Name)) (n : Note Name) (head : List Event) (frame : List ℕ) (t : Vat Name) → AsLogged w → AsLogged (placed_from a v n w t (went v (without a v ns w) head t))
  unfolding went without world.heard_by
  placed w a v k ns n head frame t h = let ls : List Link = with_link (with_notes ns) a v w.links in
      puts_agree v t.outbox ls (entering.imports_placed v a (wire.hear_at a v n w.connections)) (placed_agrees v a ls (wire.hear_at a v n w.connections) (hear_agrees a v k n frame ls w.connections (notes_agree a v ns w.links w.connections h)))

  move_agrees : (w y : World) → AsLogged w → FrameMove play.script (IsHostile play) AnyNotice AnyDeed NothingSaid (IsSpoken play) w y → AsLogged y
  move_agrees w y h (Usual m) = usual_agrees w y h (moves_told play.script (IsHostile play) AnyNotice AnyDeed NothingSaid w y m)
  move_agrees w y h (Recorded b bad es e) = is_so (record w { history = w.history ++ es }) y h e
  move_agrees w y h (Framed v u s t r ds n o new bad i p x f e) = is_so _ y (framed_agrees w v u r n o new (one_put w v u t r n o new x f) h) e
  move_agrees w y h (Received b bad k a v l n ns s t o i c j q f e) = is_so _ y (placed w a v k ns (entered_at w a v s n) (Carried k a v (entered_at w a v s n) (world.next_frame a v w.connections) ∷ []) (world.next_frame a v w.connections) t h) e

-- ---- the start

abbrev NoLog : Link → Type 0
NoLog l = l.log ≡ []

abbrev NoQuestion : Connected → Type 0
NoQuestion c = c.tables.questions ≡ []

either_all : {A : Type 0} (P : A → Type 0) (b : Bool) (x : A) (xs : List A) → P x → AllOf P xs → AllOf P (elim b [ true ↦ xs | false ↦ x ∷ xs ])
either_all P true x xs h k = k
either_all P false x xs h k = (h, k)

links_to : (v w : ℕ) (ps : List Program) → AllOf NoLog (world.links_to v w ps)
unfolding world.links_to
links_to v w [] = tt
links_to v w (p ∷ ps) = either_all NoLog (v == w) _ (world.links_to v (suc w) ps) refl (links_to v (suc w) ps)

links_from : (all : List Program) (v : ℕ) (ps : List Program) → AllOf NoLog (world.links_from all v ps)
unfolding world.links_from
links_from all v [] = tt
links_from all v (p ∷ ps) = all_append NoLog (world.links_to v zero all) (world.links_from all (suc v) ps) (links_to v zero all) (links_from all (suc v) ps)

connections_to : (v : ℕ) (p : Program) (w : ℕ) (qs : List Program) → AllOf NoQuestion (world.connections_to v p w qs)
unfolding world.connections_to world.first_connection
connections_to v p w [] = tt
connections_to v p w (q ∷ qs) = either_all NoQuestion (v == w) _ (world.connections_to v p (suc w) qs) refl (connections_to v p (suc w) qs)

connections_from : (all : List Program) (v : ℕ) (ps : List Program) → AllOf NoQuestion (world.connections_from all v ps)
unfolding world.connections_from
connections_from all v [] = tt
connections_from all v (p ∷ ps) = all_append NoQuestion (world.connections_to v p zero all) (world.connections_from all (suc v) ps) (connections_to v p zero all) (connections_from all (suc v) ps)

nothing_asked : (v u : ℕ) → NoQuestion (unconnected v u)
unfolding unconnected
nothing_asked v u = refl

none_in : (u : ℕ) → questions_in u [] ≡ []
unfolding questions_in
none_in u = refl

start_agrees : (ls : List Link) (cs : List Connected) → AllOf NoLog ls → AllOf NoQuestion cs → Agree ls cs
start_agrees ls cs h k v u l i = (connected_holds NoQuestion v u (nothing_asked v u) cs k).0 ∙ sym (ap (questions_in u) (found_holds NoLog v u ls l h i).0 ∙ none_in u)

begun_agrees : (play : Play) → AsLogged (world.begins play.script)
unfolding world.begins
begun_agrees play = start_agrees (world.links_from play.script.vats zero play.script.vats) (world.connections_from play.script.vats zero play.script.vats) (links_from play.script.vats zero play.script.vats) (connections_from play.script.vats zero play.script.vats)

pub questions_logged : QuestionsAreAsLogged
questions_logged = in_scenes (λ play w. (v u : ℕ) (l : Link) → link_at v u w.links ≡ Some l → (connected_at v u w.connections).tables.questions ≡ questions_in u l.log)
    (λ play w r. frames_lifted play.script (IsHostile play) AnyNotice AnyDeed NothingSaid (IsSpoken play) AsLogged (begun_agrees play) (λ x y q h m. move_agrees play x y h m) w r)
