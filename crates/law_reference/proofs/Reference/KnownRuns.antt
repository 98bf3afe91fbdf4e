-- In every world of a run whose notes bring what is new, the claims on each name at each vat are within what is allowed.
use Rattle.std.proofs.Common.{◌≡◌, ℕ, ◌+◌, ◌≤◌, zero, suc, Bool, true, false, List, [], ◌∷◌, ◌++◌, Option, Some, None, refl, sym, ap, ◌∙◌, arith}
use Rattle.std.specs.Prelude.{slice_get}
use Rattle.def_machine.specs.Values.{Name, Root}
use Rattle.def_machine.specs.State.{Message, Note, Vat, Done, Gives, begun}
use Rattle.def_machine.specs.Eval.{opening}
use Rattle.def_machine.specs.Arrive.{arrive, notice}
use Rattle.law_machine.specs.Machine.Steps.{Step, Opens, Takes, Receives, Notices, does, After}
use Rattle.law_machine.specs.Machine.Laws.{SameDraws}
use Rattle.law_machine.proofs.Machine.StepLaws.{draws_stays}
use Rattle.def_run.specs.Draws.{draw_word}
use Rattle.def_run.specs.World as world
use Rattle.def_run.specs.World.{Script, Program, Entry, Turn, Carry, CutLink, NoticeLink, Event, Idle, Link, World, Run, Goes as Going, Stopped, names, names_of, read_note, put_at}
use Rattle.law_fate.specs.Name.Names.{Once, names_in}
use Rattle.law_fate.specs.Name.Runs.{KnowsOnce}
use Rattle.law_reference.specs.Reference.Knowing.{claims, Knowing, brought}
use Rattle.def_machine.specs.Arrive.{Incoming}
use Rattle.law_reference.specs.Reference.NameTableRuns.{allowed, brings_here, BringsNew, EntryBringsNew, NotesBringNew, NamesDiffer, NamesAreKnownOnce}
use Rattle.law_reference.proofs.Reference.Puts.{AllStay}
use Rattle.law_reference.proofs.Reference.RunLift.{put_at_or, put_one, going_is}
use Rattle.law_reference.proofs.Reference.Bounds.{Bounded, bounded_more, step_bounded, stays_all, allowed_once, claims_once, differ, roots_allowed}
use Rattle.law_reference.proofs.Reference.NameTableSteps.{steps_know_once}
use Rattle.law_reference.proofs.Reference.OwnTargets.{news_after}

abbrev pub AllBounded : World → Type 0
AllBounded w = (v : ℕ) (s : Vat Name) → slice_get w.vats v ≡ Some s → Bounded w.drawn v s

moved : (w x : World) → AllBounded w → Going w ≡ Going x → AllBounded x
moved w x h e = rw (going_is w x e) at h

-- what a step of vat v makes of the world
put_back_bounded : (v : ℕ) (w x : World) (head : List Event) (n : ℕ) (q : Vat Name) (came : Name → ℕ) (d : Done Name (Unit {0})) → AllBounded w → q.number ≡ v → q.drawn ≡ w.drawn
    → ((z : Name) → After (λ s t. Knowing v z (came z) s t) q d) → After SameDraws q d → ((z : Name) → claims v z q.known + came z ≤ allowed v z q q.drawn) → world.put_back v w head n d ≡ Going x → AllBounded x
unfolding world.put_back
put_back_bounded v w x head n q came (Gives a t) h e same k draws b i =
    let all : AllStay q.drawn t.drawn = stays_all q.drawn t.drawn draws in let l : AllStay w.drawn t.drawn = rw same at all in
    moved (record { fuel = t.fuel; drawn = t.drawn; vats = put_at v t w.vats; links = world.push_all v t.outbox w.links; connections = world.connections_after v t head w.connections; history = w.history ++ head ++ world.events_of w.links v t.happened }) x
    (λ u r j. put_one (λ (x : ℕ) (y : Vat Name). Bounded t.drawn x y) v w.vats t (step_bounded v q t came e k b) (λ x y i. bounded_more w.drawn t.drawn x y l (h x y i)) u r (put_at_or v t w.vats u r j)) i
put_back_bounded v w x head n q came other h e same k draws b i = cc

module _ (script : Script) where
  idle_bounded : (k : ℕ) (w x : World) → AllBounded w → world.idle script k w ≡ Going x → AllBounded x
  unfolding world.idle
  idle_bounded k w x h e = moved (record w { history = w.history ++ Idle k ∷ [] }) x h e

  -- a step of vat v in a state like one of the world
  does_bounded : (v : ℕ) (w x : World) (head : List Event) (n : ℕ) (s q : Vat Name) (step : Step Name Name) → AllBounded w → Bounded w.drawn v s → q.number ≡ s.number → q.known ≡ s.known → q.promises ≡ s.promises → q.messages ≡ s.messages
      → ((z : Name) → claims v z s.known + brought v z q.gifts step ≤ allowed v z s w.drawn) → world.put_back v w head n (does (names script v) step (world.readied w q)) ≡ Going x → AllBounded x
  unfolding world.readied names allowed
  does_bounded v w x head n s q step h b e f g m c i = put_back_bounded v w x head n (world.readied w q) (λ z. brought v z q.gifts step) _ h (e ∙ b.0) refl
      (λ z. steps_know_once (draw_word script.key) v step (world.readied w q) z) (draws_stays (names script v) step (world.readied w q)) (λ z. rw (f, g, m) (c z)) i

  -- a note that arrives
  receives_bounded : (v from : ℕ) (w x : World) (head : List Event) (n : ℕ) (s : Vat Name) (m : Note (Incoming Name Name)) → AllBounded w → Bounded w.drawn v s
      → ((z : Name) → claims v z s.known + brings_here v z from s.gifts m ≤ allowed v z s w.drawn) → world.put_back v w head n (arrive (names script v) from m (world.readied w s)) ≡ Going x → AllBounded x
  unfolding world.readied names allowed does
  receives_bounded v from w x head n s m h b c i = put_back_bounded v w x head n (world.readied w s) (λ z. brings_here v z from s.gifts m) _ h b.0 refl
      (λ z. news_after v (draw_word script.key) z from m (world.readied w s) b.0 c) (draws_stays (names script v) (Receives from m) (world.readied w s)) c i

  -- where nothing is brought
  alone : (v : ℕ) (w : World) (s : Vat Name) → Bounded w.drawn v s → (z : Name) → claims v z s.known + 0 ≤ allowed v z s w.drawn
  alone v w s b z = let a = b.1 z in omega arith

  turn_queue_bounded : (k v : ℕ) (w x : World) (s : Vat Name) (ms : List (Message Name)) → AllBounded w → Bounded w.drawn v s → world.turn_queue script k v w s ms ≡ Going x → AllBounded x
  unfolding world.turn_queue world.within does brought
  turn_queue_bounded k v w x s [] h b e = idle_bounded k w x h e
  turn_queue_bounded k v w x s (m ∷ ms) h b e = does_bounded v w x _ _ s (record s { queue = ms }) (Takes (world.tree_at script.vats v) script.depth m) h b refl refl refl refl (alone v w s b) e

  turn_bounded : (k v : ℕ) (w x : World) (o : Option (Vat Name)) → slice_get w.vats v ≡ o → AllBounded w → world.turn script k v w o ≡ Going x → AllBounded x
  unfolding world.turn
  turn_bounded k v w x None i h e = idle_bounded k w x h e
  turn_bounded k v w x (Some s) i h e = turn_queue_bounded k v w x s s.queue h (h v s i) e

  arrives_bounded : (k v to : ℕ) (w x : World) (ls : List Link) (n : Note Name) (o : Option (Vat Name)) → slice_get w.vats to ≡ o → AllBounded w → ((s : Vat Name) → slice_get w.vats to ≡ Some s → BringsNew w v to n s) → world.arrives script k v to (record w { links = ls }) n o ≡ Going x → AllBounded x
  unfolding world.arrives world.within
  arrives_bounded k v to w x ls n None i h b e = idle_bounded k (record w { links = ls }) x h e
  arrives_bounded k v to w x ls n (Some s) i h b e = receives_bounded to v (record w { links = ls }) x _ _ s (read_note (names_of s) n) h (h to s i) (b s i) e

  carry_notes_bounded : (k v to : ℕ) (w x : World) (ns : List (Note Name)) → AllBounded w → ((n : Note Name) (rest : List (Note Name)) (s : Vat Name) → ns ≡ n ∷ rest → slice_get w.vats to ≡ Some s → BringsNew w v to n s) → world.carry_notes script k v to w ns ≡ Going x → AllBounded x
  unfolding world.carry_notes
  carry_notes_bounded k v to w x [] h b e = idle_bounded k w x h e
  carry_notes_bounded k v to w x (n ∷ ns) h b e = arrives_bounded k v to w x (world.with_link (world.with_notes ns) v to w.links) n (slice_get w.vats to) refl h (λ s i. b n ns s refl i) e

  carry_cut_bounded : (k v to : ℕ) (w x : World) (l : Link) (c : Bool) → AllBounded w → ((n : Note Name) (rest : List (Note Name)) (s : Vat Name) → l.notes ≡ n ∷ rest → slice_get w.vats to ≡ Some s → BringsNew w v to n s)
      → elim c [ true ↦ world.idle script k w | false ↦ world.carry_notes script k v to w l.notes ] ≡ Going x → AllBounded x
  carry_cut_bounded k v to w x l true h b e = idle_bounded k w x h e
  carry_cut_bounded k v to w x l false h b e = carry_notes_bounded k v to w x l.notes h b e

  carry_link_bounded : (k v to : ℕ) (w x : World) (o : Option Link) → world.link_at v to w.links ≡ o → AllBounded w → EntryBringsNew w (Carry v to) → world.carry_link script k v to w o ≡ Going x → AllBounded x
  unfolding world.carry_link
  carry_link_bounded k v to w x None i h b e = idle_bounded k w x h e
  carry_link_bounded k v to w x (Some l) i h b e = carry_cut_bounded k v to w x l l.cut h (λ n rest s j q. b l n rest s i j q) e

  cut_bounded : (k v to : ℕ) (w x : World) → AllBounded w → world.cut script k v to w ≡ Going x → AllBounded x
  unfolding world.cut
  cut_bounded k v to w x h e = moved _ x h e

  notice_bounded : (k v to : ℕ) (w x : World) (o : Option (Vat Name)) → slice_get w.vats v ≡ o → AllBounded w → world.within v w (world.NoticedAt k v to ∷ []) (world.step_number script k) (notice (names script v) to) o ≡ Going x → AllBounded x
  unfolding world.within does brought
  notice_bounded k v to w x None i h e = cc
  notice_bounded k v to w x (Some s) i h e = does_bounded v w x _ _ s s (Notices to) h (h v s i) refl refl refl refl (alone v w s (h v s i)) e

  step_holds : (entry : Entry) (k : ℕ) (w x : World) → AllBounded w → EntryBringsNew w entry → world.step script entry k w ≡ Going x → AllBounded x
  unfolding world.step
  step_holds (Turn v) k w x h b e = turn_bounded k v w x (slice_get w.vats v) refl h e
  step_holds (Carry v to) k w x h b e = carry_link_bounded k v to w x (world.link_at v to w.links) refl h b e
  step_holds (CutLink v to) k w x h b e = cut_bounded k v to w x h e
  step_holds (NoticeLink v to) k w x h b e = notice_bounded k v to w x (slice_get w.vats v) refl h e

  then_holds : (P : World → Type 0) (x : World) (r : Run) (f : World → Run) → ((y : World) → r ≡ Going y → P y) → ((y : World) → P y → f y ≡ Going x → AllBounded x) → world.then_goes r f ≡ Going x → AllBounded x
  unfolding world.then_goes
  then_holds P x (Going y) f a b e = b y (a y refl) e
  then_holds P x (Stopped c n y) f a b e = cc

  pub steps_hold : (es : List Entry) (k : ℕ) (w x : World) → AllBounded w → NotesBringNew script es k w → world.steps_from script es k w ≡ Going x → AllBounded x
  unfolding world.steps_from
  steps_hold [] k w x h b e = moved w x h e
  steps_hold (entry ∷ es) k w x h b e = then_holds (λ y. AllBounded y × NotesBringNew script es (suc k) y) x (world.step script entry k w) (world.steps_from script es (suc k))
      (λ y i. (step_holds entry k w y h b.0 i, b.1 y i)) (λ y i j. steps_hold es (suc k) y x i.0 i.1 j) e

  open_bounded : (v : ℕ) (p : Program) (w x : World) (o : Option (Vat Name)) → slice_get w.vats v ≡ o → AllBounded w
      → world.within v w (world.Opens v ∷ []) v (opening (names script v) p.tree script.depth (Root v) (world.given script.vats p.knows)) o ≡ Going x → AllBounded x
  unfolding world.within does brought
  open_bounded v p w x None i h e = cc
  open_bounded v p w x (Some s) i h e = does_bounded v w x _ _ s s (Opens p.tree script.depth (Root v) (world.given script.vats p.knows)) h (h v s i) refl refl refl refl (alone v w s (h v s i)) e

  pub opens_hold : (v : ℕ) (ps : List Program) (w x : World) → AllBounded w → world.open_from script v ps w ≡ Going x → AllBounded x
  unfolding world.open_from world.open_vat
  opens_hold v [] w x h e = moved w x h e
  opens_hold v (p ∷ ps) w x h e = then_holds AllBounded x (world.open_vat script v p w) (world.open_from script (suc v) ps) (λ y i. open_bounded v p w y (slice_get w.vats v) refl h i) (λ y i j. opens_hold (suc v) ps y x i j) e

  -- ---- the start

  some_is : (s t : Vat Name) → Some s ≡ Some t → s ≡ t
  some_is s t e = cc

  nothing_is : (s : Vat Name) → None ≡ Some s → ⊥
  nothing_is s e = cc

  fresh_at : (v : ℕ) (ps : List Program) (n : ℕ) (s : Vat Name) → slice_get (world.fresh_from script v ps) n ≡ Some s → (p : Program) × (u : ℕ) × (slice_get ps n ≡ Some p) × (u ≡ v + n) × (world.fresh script u p ≡ s)
  unfolding world.fresh_from
  fresh_at v [] n s e = absurd (nothing_is s e)
  fresh_at v (p ∷ ps) zero s e = (p, v, refl, (omega arith), some_is (world.fresh script v p) s e)
  fresh_at v (p ∷ ps) (suc n) s e = let r = fresh_at (suc v) ps n s e in let f = r.3 in (r.0, r.1, r.2, (omega arith), r.4)

  fresh_bounded : (v : ℕ) (p : Program) → Once (v ∷ p.knows) → Bounded [] v (world.fresh script v p)
  unfolding world.fresh world.known_root begun claims
  fresh_bounded v p once = (refl, λ x. roots_allowed v (v ∷ p.knows) (world.fresh script v p) [] once x)

  pub begins_bounded : KnowsOnce script → AllBounded (world.begins script)
  unfolding world.begins
  begins_bounded once v s e = at (fresh_at zero script.vats v s e)
    where
      at : (p : Program) × (u : ℕ) × (slice_get script.vats v ≡ Some p) × (u ≡ zero + v) × (world.fresh script u p ≡ s) → Bounded [] v s
      at r = let f : r.1 ≡ v = let g = r.3 in omega arith in let same : world.fresh script v r.0 ≡ s = ap (λ u. world.fresh script u r.0) (sym f) ∙ r.4 in rw same at (fresh_bounded v r.0 (once v r.0 r.2))

  all_differ : (w : World) → AllBounded w → NamesDiffer w
  all_differ w h v s e = differ (names_in s.known) (claims_once v s.known (λ x. let a = (h v s e).1 x in let b = allowed_once v x s w.drawn in omega arith))

pub names_are_known_once : NamesAreKnownOnce
names_are_known_once script once = (
  λ ps rest w e opened. all_differ script w (opens_hold script zero ps (world.begins script) w (begins_bounded script once) opened),
  λ w x es k opened news stepped. all_differ script x (steps_hold script es k w x (opens_hold script zero script.vats (world.begins script) w (begins_bounded script once) opened) news stepped),
)
