-- A vat asks for nothing by the steps of others.
use Rattle.std.proofs.Common.{◌≡◌, ℕ, Bool, true, false, List, [], ◌∷◌, ◌++◌, Option, Some, None, refl, sym, subst, ◌∙◌}
use Rattle.std.specs.Prelude.{slice_get}
use Rattle.def_machine.specs.Values.{Name, Root}
use Rattle.def_machine.specs.State.{Message, Note, Put, Vat, Done, Gives}
use Rattle.def_machine.specs.Arrive as arrive
use Rattle.def_machine.specs.Eval.{opening, taking}
use Rattle.def_run.specs.World as world
use Rattle.def_run.specs.World.{Script, Opens, Entry, Turn, Carry, CutLink, NoticeLink, Event, Turned, Idle, Carried, NoticedAt, Link, World, Goes as Going, readied, names_of, read_note, link_at, put_at, push_all, with_link, with_notes, severed_link}
use Rattle.law_reference.specs.Reference.Logs as wire
use Rattle.law_fate.specs.Name.Names.{IsAmong}
use Rattle.law_reference.proofs.Reference.LinksCut.{fits_notes, fits_severed}
use Rattle.law_reference.proofs.Reference.AnswerLinks.{AtLink, with_any, push_others}
use Rattle.law_frame.proofs.Frame.SourceLaws.{log_is}
use Rattle.law_frame.specs.Frame.Exports.{AsksForNothingTold, IsStepOf, OnlyOwnStepsAsk}

-- ---- what was put on a link stays what it was

abbrev SameLog : List Link → ℕ → ℕ → Link → Type 0
SameLog ls a b k = (l : Link) × (link_at a b ls ≡ Some l) × (k.log ≡ l.log)

abbrev Still : World → ℕ → List Link → Type 0
Still x u ks = (h : ℕ) → AtLink u h (SameLog x.links u h) ks

at_first : (x : World) (u : ℕ) → Still x u x.links
at_first x u = λ h l e. (l, e, refl)

at_taken : (x : World) (u c v : ℕ) (ns : List (Note Name)) → Still x u (with_link (with_notes ns) c v x.links)
unfolding with_notes
at_taken x u c v ns = λ h. with_any u h c v (SameLog x.links u h) (with_notes ns) (fits_notes u h ns) x.links (λ l e i j. (l, e, refl)) (λ l e f. (l, e, refl))

at_cut : (x : World) (u c v : ℕ) (ks : List Link) → Still x u ks → Still x u (with_link severed_link c v ks)
unfolding severed_link
at_cut x u c v ks g = λ h. with_any u h c v (SameLog x.links u h) severed_link (fits_severed u h) ks (λ l e i j. g h l e) (λ l e f. g h l e)

-- by what another vat puts too
at_put : (x : World) (u v : ℕ) → (v ≡ u → ⊥) → (ps : List (Put Name)) (ks : List Link) → Still x u ks → Still x u (push_all v ps ks)
at_put x u v o ps ks g = λ h. push_others u h v (SameLog x.links u h) ps ks (λ e. o (sym e)) (g h)

-- ---- each entry

module _ (script : Script) (x y : World) (u : ℕ) where
  links_are : (z : World) → Going z ≡ Going y → Still x u z.links → Still x u y.links
  links_are z e g = subst (λ (w : World). Still x u w.links) (let same : z ≡ y = cc in same) g

  put_still : (v : ℕ) → (v ≡ u → ⊥) → (w : World) (head : List Event) (k : ℕ) (d : Done Name (Unit {0})) → Still x u w.links → world.put_back v w head k d ≡ Going y → Still x u y.links
  unfolding world.put_back
  put_still v o w head k (Gives a t) g e = links_are (record { fuel = t.fuel; drawn = t.drawn; vats = put_at v t w.vats; links = push_all v t.outbox w.links; connections = world.connections_after v t head w.connections; history = w.history ++ head ++ world.events_of w.links v t.happened }) e (at_put x u v o t.outbox w.links g)
  put_still v o w head k other g e = cc

  idle_still : (k : ℕ) (w : World) → Still x u w.links → world.idle script k w ≡ Going y → Still x u y.links
  unfolding world.idle
  idle_still k w g e = links_are (record w { history = w.history ++ Idle k ∷ [] }) e g

  queue_still : (k v : ℕ) → (v ≡ u → ⊥) → (s : Vat Name) (ms : List (Message Name)) → world.turn_queue script k v x s ms ≡ Going y → Still x u y.links
  unfolding world.turn_queue world.within
  queue_still k v o s [] e = idle_still k x (at_first x u) e
  queue_still k v o s (m ∷ ms) e = put_still v o x (Turned k v ∷ []) (world.step_number script k) (taking (world.names script v) (world.tree_at script.vats v) script.depth m (readied x (record s { queue = ms }))) (at_first x u) e

  turn_still : (k v : ℕ) → (v ≡ u → ⊥) → (r : Option (Vat Name)) → world.turn script k v x r ≡ Going y → Still x u y.links
  unfolding world.turn
  turn_still k v o None e = idle_still k x (at_first x u) e
  turn_still k v o (Some s) e = queue_still k v o s s.queue e

  arrives_still : (k a v : ℕ) → (v ≡ u → ⊥) → (taken : World) (n : Note Name) (r : Option (Vat Name)) → Still x u taken.links → world.arrives script k a v taken n r ≡ Going y → Still x u y.links
  unfolding world.arrives world.within
  arrives_still k a v o taken n None g e = idle_still k taken g e
  arrives_still k a v o taken n (Some s) g e = put_still v o taken (Carried k a v n (world.next_frame a v taken.connections) ∷ []) (world.step_number script k) (arrive.arrive (world.names script v) a (read_note (names_of s) n) (readied taken s)) g e

  notes_still : (k a v : ℕ) → (v ≡ u → ⊥) → (ns : List (Note Name)) → world.carry_notes script k a v x ns ≡ Going y → Still x u y.links
  unfolding world.carry_notes
  notes_still k a v o [] e = idle_still k x (at_first x u) e
  notes_still k a v o (n ∷ ns) e = arrives_still k a v o (record x { links = with_link (with_notes ns) a v x.links }) n (slice_get x.vats v) (at_taken x u a v ns) e

  cut_still : (k a v : ℕ) → (v ≡ u → ⊥) → (ns : List (Note Name)) (b : Bool) → elim b [ true ↦ world.idle script k x | false ↦ world.carry_notes script k a v x ns ] ≡ Going y → Still x u y.links
  cut_still k a v o ns true e = idle_still k x (at_first x u) e
  cut_still k a v o ns false e = notes_still k a v o ns e

  link_still : (k a v : ℕ) → (v ≡ u → ⊥) → (r : Option Link) → world.carry_link script k a v x r ≡ Going y → Still x u y.links
  unfolding world.carry_link
  link_still k a v o None e = idle_still k x (at_first x u) e
  link_still k a v o (Some l) e = cut_still k a v o l.notes l.cut e

  within_still : (v k : ℕ) → (v ≡ u → ⊥) → (head : List Event) (act : Vat Name → Done Name (Unit {0})) (r : Option (Vat Name)) → world.within v x head k act r ≡ Going y → Still x u y.links
  unfolding world.within
  within_still v k o head act None e = cc
  within_still v k o head act (Some s) e = put_still v o x head k (act (readied x s)) (at_first x u) e

  severs_still : (k a b : ℕ) → world.cut script k a b x ≡ Going y → Still x u y.links
  unfolding world.cut
  severs_still k a b e = links_are _ e (at_cut x u b a (with_link severed_link a b x.links) (at_cut x u a b x.links (at_first x u)))

  entry_still : (e : Entry) (k : ℕ) → (IsStepOf e u → ⊥) → world.step script e k x ≡ Going y → Still x u y.links
  unfolding world.step
  entry_still (Turn v) k o e = turn_still k v o (slice_get x.vats v) e
  entry_still (Carry a v) k o e = link_still k a v o (link_at a v x.links) e
  entry_still (CutLink a b) k o e = severs_still k a b e
  entry_still (NoticeLink v c) k o e = within_still v (world.step_number script k) o (NoticedAt k v c ∷ []) (arrive.notice (world.names script v) c) (slice_get x.vats v) e

  -- ---- what was asked for

  asked_before : (h : ℕ) (z : Name) (o : Option Link) → link_at u h y.links ≡ o → Still x u y.links → IsAmong z (wire.questions_in h (wire.log_of o)) → IsAmong z (wire.questions (λ i. i) x.links u h)
  unfolding wire.log_of wire.questions_in wire.questions
  asked_before h z None e g a = absurd a
  asked_before h z (Some k) e g a = let was = g h k e in subst (λ ns. IsAmong z (wire.questions_in h ns)) (was.2 ∙ sym (log_is was.0 (link_at u h x.links) was.1)) a

  asks_nothing : Still x u y.links → AsksForNothingTold x y u
  unfolding wire.questions
  asks_nothing g h l e n z a b c = asked_before h z (link_at u h y.links) refl g c

pub own_steps_ask : OnlyOwnStepsAsk
unfolding world.open_vat
own_steps_ask script = (
  λ v p x y e u o. asks_nothing script x y u (within_still script x y u v v o (Opens v ∷ []) (opening (world.names script v) p.tree script.depth (Root v) (world.given script.vats p.knows)) (slice_get x.vats v) e),
  λ e k x y steps u o. asks_nothing script x y u (entry_still script x y u e k o steps),
)
