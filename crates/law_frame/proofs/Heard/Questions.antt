-- What a vat has of its questions to another is what it ever asked it for, in every world that is reached.
use Rattle.std.proofs.Common.{◌≡◌, ℕ, zero, Bool, true, false, List, [], ◌∷◌, ◌++◌, refl, sym, ap, subst, ◌∙◌, ◌⊎◌, inl, inr}
use Rattle.def_machine.specs.Values.{Name}
use Rattle.def_machine.specs.State.{Note, Put, Vat}
use Rattle.def_run.specs.Connections as tables
use Rattle.def_run.specs.Connections.{asked_in}
use Rattle.def_run.specs.Wire as conn
use Rattle.def_run.specs.Wire.{Connected, connected_at, with_connected, sight}
use Rattle.def_run.specs.World as world
use Rattle.def_run.specs.World.{Script, Event, CutLink, Carried, Link, World, Goes, link_at, with_link, with_notes, pushed, severed_link}
use Rattle.law_machine.specs.Run.Moves.{Deed, Moved, Still, Severs, Drops, Steps, Arrives, Hears, Tells, went, without}
use Rattle.law_machine.proofs.Run.Told.{moves_told}
use Rattle.law_machine.proofs.Run.Honest.{lifted}
use Rattle.law_reference.specs.Reference.Logs as wire
use Rattle.law_reference.proofs.Reference.LinksCut.{fits_pushed, fits_notes, fits_severed}
use Rattle.law_reference.proofs.Reference.AnswerLinks.{AtLink, with_any}
use Rattle.law_frame.proofs.Frame.LinksGo.{Stays, with_link_here}
use Rattle.law_frame.proofs.Frame.Places.{same_or, link_other, connected_same, connected_other, connected_ends}
use Rattle.law_frame.proofs.Frame.SourceLaws.{log_is}
use Rattle.law_frame.proofs.Frame.Written.{pushed_from, pushed_to, wrote_from, wrote_to, received_from, received_to, carried_heard}
use Rattle.law_frame.specs.Heard.Questions.{QuestionsAreAsLogged}
use Rattle.law_frame.proofs.Heard.Kept.{asked_more}
use Rattle.law_frame.proofs.Heard.Start.{from_match, found}

-- of the link from v to u
abbrev AsLogged : ℕ → ℕ → List Connected → Link → Type 0
AsLogged v u cs l = (connected_at v u cs).tables.questions ≡ wire.questions_in u l.log

abbrev AllLogged : List Link → List Connected → Type 0
AllLogged ls cs = (v u : ℕ) → AtLink v u (AsLogged v u cs) ls

pushed_or : (n : Note Name) (l : Link) (b : Bool) → (let j : Link = elim b [ true ↦ record l { log = l.log ++ n ∷ [] } | false ↦ record l { notes = l.notes ++ n ∷ []; log = l.log ++ n ∷ [] } ] in j.log) ≡ l.log ++ n ∷ []
pushed_or n l true = refl
pushed_or n l false = refl

pub pushed_log : (n : Note Name) (l : Link) → (let j : Link = pushed n l in j.log) ≡ l.log ++ n ∷ []
unfolding pushed
pushed_log n l = pushed_or n l l.cut

pub pushed_stays : (n : Note Name) → Stays (pushed n)
pushed_stays n a b l = let fits = fits_pushed a b n in fits.place a b l

wrote_asks : (v u : ℕ) (m : Note Name) (c : Connected) → c.from ≡ v → c.to ≡ u → (let e : Connected = conn.wrote m c in e.tables.questions) ≡ c.tables.questions ++ asked_in (sight v u) m
unfolding conn.wrote tables.put_on
wrote_asks v u m c from to = ap (λ (a : ℕ). c.tables.questions ++ asked_in (sight a c.to) m) from ∙ ap (λ (b : ℕ). c.tables.questions ++ asked_in (sight v b) m) to

put_logged : (a b : ℕ) (m : Note Name) (ls : List Link) (cs : List Connected) → AllLogged ls cs → AllLogged (with_link (pushed m) a b ls) (with_connected (conn.wrote m) a b cs)
put_logged a b m ls cs h v u = either (same_or a b v u)
  where
    here : AtLink a b (AsLogged a b (with_connected (conn.wrote m) a b cs)) (with_link (pushed m) a b ls)
    here l at = let was = with_link_here (pushed m) (pushed_stays m) a b ls l at in let ends = connected_ends a b cs in
        ap (λ (c : Connected). c.tables.questions) (connected_same (conn.wrote m) (wrote_from m) (wrote_to m) a b cs) ∙ wrote_asks a b m (connected_at a b cs) ends.0 ends.1
        ∙ ap (λ (qs : List Name). qs ++ asked_in (sight a b) m) (h a b was.0 was.1) ∙ asked_more a b was.0.log m ∙ ap (wire.questions_in b) (sym (pushed_log m was.0) ∙ ap (λ (z : Link). z.log) (sym was.2))

    either : ((a ≡ v) × (b ≡ u)) ⊎ (a ≡ v → b ≡ u → ⊥) → AtLink v u (AsLogged v u (with_connected (conn.wrote m) a b cs)) (with_link (pushed m) a b ls)
    either (inl e) = subst (λ (y : ℕ). AtLink v y (AsLogged v y (with_connected (conn.wrote m) a b cs)) (with_link (pushed m) a b ls)) e.1 (subst (λ (x : ℕ). AtLink x b (AsLogged x b (with_connected (conn.wrote m) a b cs)) (with_link (pushed m) a b ls)) e.0 here)
    either (inr n) = λ l at. ap (λ (c : Connected). c.tables.questions) (connected_other (conn.wrote m) (wrote_from m) (wrote_to m) a b v u cs n) ∙ h v u l (sym (link_other (pushed m) (pushed_from m) (pushed_to m) a b v u ls n) ∙ at)

puts_logged : (a : ℕ) (ps : List (Put Name)) (ls : List Link) (cs : List Connected) → AllLogged ls cs → AllLogged (world.push_all a ps ls) (conn.write_all a ps cs)
unfolding world.push_all conn.write_all
puts_logged a [] ls cs h = h
puts_logged a (p ∷ ps) ls cs h = puts_logged a ps (with_link (pushed p.note) a p.to ls) (with_connected (conn.wrote p.note) a p.to cs) (put_logged a p.to p.note ls cs h)

taken_logged : (a b : ℕ) (ns : List (Note Name)) (ls : List Link) (cs : List Connected) → AllLogged ls cs → AllLogged (with_link (with_notes ns) a b ls) cs
unfolding with_notes
taken_logged a b ns ls cs h v u = with_any v u a b (AsLogged v u cs) (with_notes ns) (fits_notes v u ns) ls (λ l e i j. h v u l e) (λ l e f. h v u l e)

cut_logged : (a b : ℕ) (ls : List Link) (cs : List Connected) → AllLogged ls cs → AllLogged (with_link severed_link a b ls) cs
unfolding severed_link
cut_logged a b ls cs h v u = with_any v u a b (AsLogged v u cs) severed_link (fits_severed v u) ls (λ l e i j. h v u l e) (λ l e f. h v u l e)

received_asks : (p : Connected) (m : Note Name) (c : Connected) → (let e : Connected = conn.received p m c in e.tables.questions) ≡ c.tables.questions
unfolding conn.received
received_asks p m c = refl

read_logged : (a b : ℕ) (p : Connected) (m : Note Name) (ls : List Link) (cs : List Connected) → AllLogged ls cs → AllLogged ls (with_connected (conn.received p m) b a cs)
read_logged a b p m ls cs h v u l at = either (same_or b a v u) ∙ h v u l at
  where
    either : ((b ≡ v) × (a ≡ u)) ⊎ (b ≡ v → a ≡ u → ⊥) → (connected_at v u (with_connected (conn.received p m) b a cs)).tables.questions ≡ (connected_at v u cs).tables.questions
    either (inr n) = ap (λ (c : Connected). c.tables.questions) (connected_other (conn.received p m) (received_from p m) (received_to p m) b a v u cs n)
    either (inl e) = subst (λ (y : ℕ). (connected_at v y (with_connected (conn.received p m) b a cs)).tables.questions ≡ (connected_at v y cs).tables.questions) e.1 (subst (λ (x : ℕ). (connected_at x a (with_connected (conn.received p m) b a cs)).tables.questions ≡ (connected_at x a cs).tables.questions) e.0
        (ap (λ (c : Connected). c.tables.questions) (connected_same (conn.received p m) (received_from p m) (received_to p m) b a cs) ∙ received_asks p m (connected_at b a cs)))

module _ (script : Script) where
  abbrev LoggedIn : World → Type 0
  LoggedIn w = AllLogged w.links w.connections

  went_logged : (w : World) (v : ℕ) (head : List Event) (t : Vat Name) (ls : List Link) (cs : List Connected) → world.heard_by head w.connections ≡ cs → AllLogged ls cs → AllLogged (world.push_all v t.outbox ls) (world.connections_after v t head w.connections)
  unfolding world.connections_after
  went_logged w v head t ls cs e h = subst (λ ds. AllLogged (world.push_all v t.outbox ls) (conn.write_all v t.outbox ds)) (sym e) (puts_logged v t.outbox ls cs h)

  going : {x z : World} → Goes x ≡ Goes z → x ≡ z
  going e = cc

  cuts : (w y : World) (k a b : ℕ) → LoggedIn w → world.step script (CutLink a b) k w ≡ Goes y → LoggedIn y
  unfolding world.step world.cut
  cuts w y k a b h e = subst LoggedIn (going e) (cut_logged b a (with_link severed_link a b w.links) w.connections (cut_logged a b w.links w.connections h))

  quiet_none : (cs : List Connected) → world.heard_by [] cs ≡ cs
  unfolding world.heard_by
  quiet_none cs = refl

  module _ (Hostile : ℕ → Type 0) (MayNotice : World → ℕ → ℕ → Type 0) (May : World → ℕ → Vat Name → Deed → Type 0) (Lawful : World → ℕ → ℕ → Vat Name → Note Name → Type 0) where
    read_first : (w : World) (a v : ℕ) (n : Note Name) (ns : List (Note Name)) → LoggedIn w → AllLogged (with_link (with_notes ns) a v w.links) (with_connected (conn.received (connected_at a v w.connections) n) v a w.connections)
    read_first w a v n ns h = read_logged a v (connected_at a v w.connections) n (with_link (with_notes ns) a v w.links) w.connections (taken_logged a v ns w.links w.connections h)

    moved_logged : (w y : World) → LoggedIn w → Moved script w Hostile MayNotice May Lawful y → LoggedIn y
    unfolding went without
    moved_logged w y h (Still es e) = subst LoggedIn (sym e) h
    moved_logged w y h (Severs k a b e) = cuts w y k a b h e
    moved_logged w y h (Drops a v n ns l es at uncut notes none e) = subst LoggedIn (sym e) (taken_logged a v ns w.links w.connections h)
    moved_logged w y h (Steps v s q t what head honest alone may quiet d e) = subst LoggedIn (sym e) (went_logged w v head t w.links w.connections (quiet w.connections) h)
    moved_logged w y h (Arrives a v s t n ns l k frame honest at uncut notes d e) = subst LoggedIn (sym e) (went_logged w v (Carried k a v n frame ∷ []) t (with_link (with_notes ns) a v w.links) _ (carried_heard script k a v n frame w.connections) (read_first w a v n ns h))
    moved_logged w y h (Hears a v s t n ns l k frame hostile at uncut notes there g e) = subst LoggedIn (sym e) (went_logged w v (Carried k a v n frame ∷ []) t (with_link (with_notes ns) a v w.links) _ (carried_heard script k a v n frame w.connections) (read_first w a v n ns h))
    moved_logged w y h (Tells v u s t r ds n hostile there p l o e) = subst LoggedIn (sym e) (went_logged w v [] r w.links w.connections (quiet_none w.connections) h)

  begins_logged : LoggedIn (world.begins script)
  unfolding world.begins wire.questions_in
  begins_logged v u l at = let all = script.vats in let f = found all v u (world.links_from all zero all) (world.connections_from all zero all) l (from_match all [] all zero refl refl) at in let q = f.quiet in q.4 ∙ sym (ap (wire.questions_in u) q.1)

pub questions_logged : QuestionsAreAsLogged
unfolding wire.questions
questions_logged script hs w r v u l at = lifted script _ _ _ _ (LoggedIn script) (begins_logged script) (λ x y q h m. moved_logged script _ _ _ _ x y h (moves_told script _ _ _ _ x y m)) w r v u l at ∙ ap (wire.questions_in u) (sym (log_is l (link_at v u w.links) at))
