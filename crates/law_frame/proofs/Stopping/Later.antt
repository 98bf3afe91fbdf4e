-- Draws and events only grow, at the end: in each step, and also where one stops.
use Rattle.std.proofs.Common.{◌≡◌, ℕ, zero, suc, Bool, true, false, List, [], ◌∷◌, ◌++◌, Option, Some, None, refl, sym, ap, ◌∙◌, append_assoc, append-nil}
use Rattle.std.specs.Prelude.{slice_get}
use Rattle.def_machine.specs.Values.{Name, Root, Naming}
use Rattle.def_machine.specs.State.{Message, Note, Vat, Done, Gives, Stops}
use Rattle.law_machine.specs.Machine.Steps.{Step, Opens as Starts, Takes, Receives, Notices, After, does}
use Rattle.law_machine.specs.Machine.Laws.{SameDraws}
use Rattle.law_machine.proofs.Machine.StepLaws.{draws_stays}
use Rattle.def_run.specs.Text.{draws_of, history_of}
use Rattle.def_run.specs.World as world
use Rattle.def_run.specs.World.{Script, Program, Opens, Entry, Turn, Carry, CutLink, NoticeLink, Event, Turned, Idle, Carried, NoticedAt, Ends, Link, World, Run, Goes as Going, Stopped, names, names_of, read_note, events_of}

-- a list that keeps each member at its place begins the other
pub stays_front : (xs ys : List ℕ) → ((i x : ℕ) → slice_get xs i ≡ Some x → slice_get ys i ≡ Some x) → (zs : List ℕ) × (ys ≡ xs ++ zs)
stays_front [] ys h = (ys, refl)
stays_front (x ∷ xs) [] h = absurd (none_some (h zero x refl))
  where
    none_some : None ≡ Some x → ⊥
    none_some e = cc
stays_front (x ∷ xs) (y ∷ ys) h = let rest = stays_front xs ys (λ i z e. h (suc i) z e) in let same : y ≡ x = some_is (h zero x refl) in (rest.0, cc (rest.1, same))
  where
    some_is : Some y ≡ Some x → y ≡ x
    some_is e = cc

-- from those draws and events a run went on
pub record Later (d : List ℕ) (es : List Event) (r : Run) : Type 0 where
  pub draws : (l : List ℕ) × (draws_of r ≡ d ++ l)
  pub events : (fs : List Event) × (history_of r ≡ es ++ fs)

pub no_more : (d : List ℕ) (es : List Event) (r : Run) → draws_of r ≡ d → history_of r ≡ es → Later d es r
no_more d es r e f = record { draws = ([], e ∙ sym (append-nil d)); events = ([], f ∙ sym (append-nil es)) }

more_events : (d : List ℕ) (es fs : List Event) (r : Run) → draws_of r ≡ d → history_of r ≡ es ++ fs → Later d es r
more_events d es fs r e f = record { draws = ([], e ∙ sym (append-nil d)); events = (fs, f) }

later_on : (d : List ℕ) (es : List Event) (y : World) (r : Run) → Later d es (Going y) → Later y.drawn y.history r → Later d es r
unfolding draws_of history_of
later_on d es y r h k = record {
  draws = (h.draws.0 ++ k.draws.0, k.draws.1 ∙ ap (λ z. z ++ k.draws.0) h.draws.1 ∙ append_assoc d h.draws.0 k.draws.0);
  events = (h.events.0 ++ k.events.0, k.events.1 ∙ ap (λ z. z ++ k.events.0) h.events.1 ∙ append_assoc es h.events.0 k.events.0);
}

pub later_then : (d : List ℕ) (es : List Event) (r : Run) (f : World → Run) → Later d es r → ((y : World) → Later y.drawn y.history (f y)) → Later d es (world.then_goes r f)
unfolding world.then_goes
later_then d es (Going y) f h g = later_on d es y (f y) h (g y)
later_then d es (Stopped c k y) f h g = later_stopped
  where
    later_stopped : Later d es (Stopped c k y)
    later_stopped = h

put_later : (v : ℕ) (w : World) (head : List Event) (k : ℕ) (s : Vat Name) (o : Done Name (Unit {0})) → s.drawn ≡ w.drawn → After SameDraws s o → Later w.drawn w.history (world.put_back v w head k o)
unfolding world.put_back draws_of history_of
put_later v w head k s (Gives a t) e h = let f = stays_front s.drawn t.drawn h in record { draws = (f.0, f.1 ∙ ap (λ z. z ++ f.0) e); events = (head ++ events_of w.links v t.happened, append_assoc w.history head (events_of w.links v t.happened)) }
put_later v w head k s (Stops c t) e h = no_more w.drawn w.history (Stopped c k w) refl refl
put_later v w head k s other e h = no_more w.drawn w.history (Stopped _ k w) refl refl

within_later : (K : Naming Name Name) (what : Step Name Name) (v : ℕ) (w : World) (head : List Event) (k : ℕ) (o : Option (Vat Name)) → Later w.drawn w.history (world.within v w head k (does K what) o)
unfolding world.within draws_of history_of world.readied
within_later K what v w head k None = no_more w.drawn w.history (Stopped _ k w) refl refl
within_later K what v w head k (Some s) = put_later v w head k (world.readied w s) (does K what (world.readied w s)) refl (draws_stays K what (world.readied w s))

module _ (script : Script) where
  idle_later : (k : ℕ) (x : World) → Later x.drawn x.history (world.idle script k x)
  unfolding world.idle draws_of history_of
  idle_later k x = more_events x.drawn x.history (Idle k ∷ []) (Going (record x { history = x.history ++ Idle k ∷ [] })) refl refl

  queue_later : (k v : ℕ) (x : World) (s : Vat Name) (ms : List (Message Name)) → Later x.drawn x.history (world.turn_queue script k v x s ms)
  unfolding world.turn_queue does
  queue_later k v x s [] = idle_later k x
  queue_later k v x s (m ∷ ms) = within_later (names script v) (Takes (world.tree_at script.vats v) script.depth m) v x (Turned k v ∷ []) (world.step_number script k) (Some (record s { queue = ms }))

  turn_later : (k v : ℕ) (x : World) (o : Option (Vat Name)) → Later x.drawn x.history (world.turn script k v x o)
  unfolding world.turn
  turn_later k v x None = idle_later k x
  turn_later k v x (Some s) = queue_later k v x s s.queue

  arrives_later : (k v u : ℕ) (x : World) (ls : List Link) (n : Note Name) (o : Option (Vat Name)) → Later x.drawn x.history (world.arrives script k v u (record x { links = ls }) n o)
  unfolding world.arrives does
  arrives_later k v u x ls n None = idle_later k (record x { links = ls })
  arrives_later k v u x ls n (Some s) = within_later (names script u) (Receives v (read_note (names_of s) n)) u (record x { links = ls }) (Carried k v u n (world.next_frame v u x.connections) ∷ []) (world.step_number script k) (Some s)

  notes_later : (k v u : ℕ) (x : World) (ns : List (Note Name)) → Later x.drawn x.history (world.carry_notes script k v u x ns)
  unfolding world.carry_notes
  notes_later k v u x [] = idle_later k x
  notes_later k v u x (n ∷ ns) = arrives_later k v u x (world.with_link (world.with_notes ns) v u x.links) n (slice_get x.vats u)

  uncut_later : (k v u : ℕ) (x : World) (l : Link) (b : Bool) → Later x.drawn x.history (elim b [ true ↦ world.idle script k x | false ↦ world.carry_notes script k v u x l.notes ])
  uncut_later k v u x l true = idle_later k x
  uncut_later k v u x l false = notes_later k v u x l.notes

  link_later : (k v u : ℕ) (x : World) (o : Option Link) → Later x.drawn x.history (world.carry_link script k v u x o)
  unfolding world.carry_link
  link_later k v u x None = idle_later k x
  link_later k v u x (Some l) = uncut_later k v u x l l.cut

  cut_later : (k v u : ℕ) (x : World) → Later x.drawn x.history (world.cut script k v u x)
  unfolding world.cut draws_of history_of
  cut_later k v u x = record { draws = ([], sym (append-nil x.drawn)); events = (_, refl) }

  pub step_later : (e : Entry) (k : ℕ) (x : World) → Later x.drawn x.history (world.step script e k x)
  unfolding world.step does
  step_later (Turn v) k x = turn_later k v x (slice_get x.vats v)
  step_later (Carry v u) k x = link_later k v u x (world.link_at v u x.links)
  step_later (CutLink v u) k x = cut_later k v u x
  step_later (NoticeLink v u) k x = within_later (names script v) (Notices u) v x (NoticedAt k v u ∷ []) (world.step_number script k) (slice_get x.vats v)

  pub steps_later : (es : List Entry) (k : ℕ) (x : World) → Later x.drawn x.history (world.steps_from script es k x)
  unfolding world.steps_from draws_of history_of
  steps_later [] k x = no_more x.drawn x.history (Going x) refl refl
  steps_later (e ∷ es) k x = later_then x.drawn x.history (world.step script e k x) (world.steps_from script es (suc k)) (step_later e k x) (λ y. steps_later es (suc k) y)

  open_later : (v : ℕ) (p : Program) (x : World) → Later x.drawn x.history (world.open_vat script v p x)
  unfolding world.open_vat does
  open_later v p x = within_later (names script v) (Starts p.tree script.depth (Root v) (world.given script.vats p.knows)) v x (Opens v ∷ []) v (slice_get x.vats v)

  pub opens_later : (v : ℕ) (ps : List Program) (x : World) → Later x.drawn x.history (world.open_from script v ps x)
  unfolding world.open_from draws_of history_of
  opens_later v [] x = no_more x.drawn x.history (Going x) refl refl
  opens_later v (p ∷ ps) x = later_then x.drawn x.history (world.open_vat script v p x) (world.open_from script (suc v) ps) (open_later v p x) (λ y. opens_later (suc v) ps y)

  pub close_later : (x : World) → Later x.drawn x.history (world.close script x)
  unfolding world.close draws_of history_of
  close_later x = let a = world.left_vats script x.vats in let b = world.left_links script x.links in let c = Ends ∷ [] in
      record { draws = ([], sym (append-nil x.drawn)); events = ((a ++ b) ++ c, ap (λ z. z ++ c) (append_assoc x.history a b) ∙ append_assoc x.history (a ++ b) c) }
