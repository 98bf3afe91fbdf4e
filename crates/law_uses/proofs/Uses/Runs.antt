-- In every world of a run each message that was taken or carried is as the lines before say.
use Rattle.std.proofs.Common.{◌≡◌, ℕ, zero, suc, ◌+◌, ◌≤◌, arith, Bool, true, false, List, [], ◌∷◌, ◌++◌, ◌==◌, Option, Some, None, refl, sym, ap, ◌∙◌, subst, map, ◌⊎◌, inl, inr}
use Rattle.std.specs.Prelude.{slice_get}
use Rattle.def_machine.specs.Values.{Words, Value, Ref, Name, Root}
use Rattle.def_machine.specs.State.{Message, Passeds, Delivery, Note, Deliver, Vat, Done, Gives, Throws, begun}
use Rattle.def_machine.specs.Arrive.{notice}
use Rattle.def_machine.specs.Eval.{opening}
use Rattle.def_run.specs.World as world
use Rattle.def_run.specs.World.{Script, Program, Opens, Entry, Turn, Carry, CutLink, NoticeLink, Event, Turned, Idle, Carried, CutAt, NoticedAt, LeftQueue, LeftHeld, LeftWait, LeftLink, Ends as IsEnd, Link, World, Run, Goes, Stopped, names, names_of, read_note, begins}
use Rattle.def_run.specs.Shown as show
use Rattle.def_run.specs.Text.{shown_events}
use Rattle.law_machine.specs.Machine.Steps.{Step, Opens as Starts, Takes, Receives, Notices, does, After}
use Rattle.law_fate.specs.Fates.Fate.{total, places, takes, sent as sendings, sent_by, of_note, on_link}
use Rattle.law_fate.specs.Fates.Carry.{carried_by}
use Rattle.law_fate.specs.Fates.FateRuns.{Reached}
use Rattle.law_fate.proofs.Fates.RunCounts.{pick, total_append, with_link_changes, with_link_apart}
use Rattle.law_fate.proofs.Fates.RunAccount.{Fated, step_fated, open_fated, no_cut_line}
use Rattle.law_fate.proofs.Fates.RunFates.{begins_fated, none_vats, none_links}
use Rattle.law_uses.specs.Connectivity.Known.{IsAmong, AllOf}
use Rattle.law_uses.specs.Connectivity.News.{list_made, Adds, MadeNew}
use Rattle.law_uses.specs.Connectivity.Liveness.{live_at, LeavesDead}
use Rattle.law_uses.specs.Connectivity.Runs.{NothingLive}
use Rattle.law_uses.specs.Connectivity.Stems.{LeadsTo, itself, HasLine, HasList, HasOpened, ComeAll}
use Rattle.law_uses.proofs.Connectivity.StepDies.{steps_leave_dead}
use Rattle.law_uses.proofs.Connectivity.RunDies.{opened_still}
use Rattle.law_uses.proofs.Connectivity.FineSteps.{steps_make_new, among_left}
use Rattle.law_uses.proofs.Connectivity.FineRuns.{own_spots}
use Rattle.law_uses.proofs.Connectivity.Passing.{kept_all, all_map, come_all_map}
use Rattle.law_uses.proofs.Connectivity.Moments.{Past, Line, Later, Members, Came, Fine, ReactionFine, QueuedFine, KnownFine, Good, Ends, Any, IsTaken, stand_map}
use Rattle.law_uses.proofs.Connectivity.Events.{IsNobodys, all_at, lost_on_nobodys, nobodys_join, vats_nobodys, links_nobodys}
use Rattle.law_uses.proofs.Connectivity.Links.{opened_with, with_link_all, found_link, link_from}
use Rattle.law_uses.proofs.Connectivity.RunStems.{Grows, step_brings, next_grows, kept_lines, next_list, next_opened, put_each, all_read, value_read, was_queued, one_line, less_grows, moved_grows}
use Rattle.law_uses.proofs.Uses.Shown.{ListTold}
use Rattle.law_uses.proofs.Uses.Comes.{NoLists, pass_no_lists}
use Rattle.law_uses.proofs.Uses.Sources.{all_in, Alive, queued_alive, held_alive, reacts_alive, Source, Reacting, Queued, KnownWell, NoteWell, LinkWell, Silent, note_grow}
use Rattle.def_event.specs.Uses.{Line as TextLine, and_lines, place_of}
use Rattle.law_uses.specs.Uses.Made.{makes}
use Rattle.law_uses.proofs.Uses.Made.{MadeOnce, made_still, made_next, opens_make, turned_makes, carried_makes, noticed_makes}
use Rattle.law_uses.proofs.Uses.Places.{opens_place, turned_place, noticed_place, carried_place}
use Rattle.law_uses.proofs.Uses.Notes.{carry_sent}
use Rattle.law_uses.proofs.Uses.Kept.{Stands, TakesWell, CarriesWell, PlacedWell, stands_next, came_here, is_carry, still_link, still_stands}

not_true : (b : Bool) → (b ≡ true → ⊥) → b ≡ false
not_true true f = absurd (f refl)
not_true false f = refl

false_true : (b : Bool) → b ≡ false → b ≡ true → ⊥
false_true b e f = cc

end_none : {A : Type 0} (xs : List A) → xs ++ [] ≡ xs
end_none [] = refl
end_none (x ∷ xs) = ap (λ r. x ∷ r) (end_none xs)

-- what a step that gives has
ends_gives : (p : Past) (r t : Vat Name) (d : Done Name (Unit {0})) → Ends p r (Any p) d → d ≡ Gives tt t → Later r t × Good p t
ends_gives p r t (Gives u x) h q = let same : x ≡ t = cc in subst (λ z. Later r z × Good p z) same (h.0, h.1)
ends_gives p r t other h q = cc

after_gives : (P : Vat Name → Vat Name → Type 0) (r t : Vat Name) (d : Done Name (Unit {0})) → After P r d → d ≡ Gives tt t → P r t
after_gives P r t (Gives u x) h q = let same : x ≡ t = cc in subst (λ z. P r z) same h
after_gives P r t other h q = cc

dies_after : (r t : Vat Name) (d : Done Name (Unit {0})) → LeavesDead r d → d ≡ Gives tt t → (i : ℕ) → live_at t.things i ≡ true → live_at r.things i ≡ true
dies_after r t (Gives u x) h q = let same : x ≡ t = cc in subst (λ (z : Vat Name). (i : ℕ) → live_at z.things i ≡ true → live_at r.things i ≡ true) same h
dies_after r t other h q = cc

module _ (draws : List ℕ) (script : Script) where
  -- what holds of a world
  pub record Whole (w : World) : Type 0 where
    pub still : NothingLive w
    pub fated : (x : Name) → Fated x w
    pub stands : Stands draws w
    pub made : MadeOnce script w

  abbrev AllFated : Run → Type 0
  AllFated r = (x : Name) → Reached (Fated x) r

  -- what a note that a step reads brings
  abbrev Comes : ℕ → Event → Vat Name → Message Name → Type 0
  Comes v e t m = (j : ℕ) × (u : ℕ) × (d : Delivery Name) × (z : Name) × (verb : Words) × (ys : Passeds Name) × (bytes : List ℕ) × (e ≡ Carried j u v (Deliver d z verb ys) bytes) × (m.id ≡ d.message) × (m.target ≡ Ref z) × ComeAll (Members t) ys m.args × NoLists ys

  -- ---- one step of a vat

  module _ (v : ℕ) (w : World) (e : Event) (n : ℕ) (s : Vat Name) (ms : List (Message Name)) (step : Step Name Name) (at : slice_get w.vats v ≡ Some s)
      (none : IsNobodys (e ∷ [])) (plain : (x : Name) → sent_by x e ≡ 0) (still : NothingLive w) (h : Stands draws w)
      (hand : (x : Name) → places x w + takes x w.history + carried_by x e ≤ sendings x w.history) (fewer : (m : Message Name) → IsAmong m ms → IsAmong m s.queue)
      (taking : (m : Message Name) → IsTaken step m → IsAmong m s.queue) (comes : (t : Vat Name) (m : Message Name) → Came t step m → Comes v e t m)
      (carry : (j a b : ℕ) (m : Note Name) (bytes : List ℕ) → e ≡ Carried j a b m bytes → NoteWell draws w a m)
      (own : (past : List TextLine) → place_of (and_lines past (show.shown_event draws e)) ≡ v + 1) (makes_none : (u i : ℕ) → makes script u i e ≡ 0) (made : MadeOnce script w) where
    abbrev R : Vat Name
    R = world.readied w (record s { queue = ms })

    abbrev Q : Past
    Q = record { line = HasLine w v; was = λ m. Source draws w v m × Alive w m.id; reacted = λ m. Reacting draws w v m × Alive w m.id; step = step; cut = λ u. Unit {0}; home = v }

    queued_of : (m : Message Name) → Alive w m.id → Queued draws w v m → (Source draws w v m × Alive w m.id) ⊎ (Reacting draws w v m × Alive w m.id)
    queued_of m a (inl q) = inl (q, a)
    queued_of m a (inr q) = inr (q, a)

    queue_good : (qs : List (Message Name)) → ((m : Message Name) → IsAmong m qs → IsAmong m s.queue) → AllOf (QueuedFine Q R) qs
    queue_good [] f = tt
    queue_good (m ∷ qs) f = let i = f m (inl refl) in (was_queued Q R m (queued_of m (queued_alive w v s at m i) (all_at (Queued draws w v) s.queue m (h.queues v s at) i)), queue_good qs (λ x j. f x (inr j)))

    known_good : AllOf (KnownFine Q R) s.known
    known_good = all_in (KnownWell draws w v) (KnownFine Q R) s.known (λ k i f. (
      all_in (Source draws w v) (Fine Q R) k.held (λ m j q. (m.target, itself, inr (inr (q, held_alive w v s at k i m j)))) f.0,
      all_in (Reacting draws w v) (ReactionFine Q R) k.reactions (λ m j q. inr (q, reacts_alive w v s at k i m j)) f.1,
      stand_map (HasLine w v) (Line Q R) (kept_all (HasLine w v) (Line Q R) (λ l j. inl j)) k.name k.standing f.2,
    )) (h.names v s at)

    begins_good : Good Q R
    unfolding world.readied
    begins_good = (queue_good ms fewer, known_good, tt, tt, λ u i. tt)

    abbrev NextOf : Vat Name → World
    NextOf t = record { fuel = t.fuel; drawn = t.drawn; vats = world.put_at v t w.vats; links = world.push_all v t.outbox w.links; connections = world.connections_after v t (e ∷ []) w.connections; history = w.history ++ (e ∷ []) ++ world.events_of w.links v t.happened }

    module _ (t : Vat Name) (q : does (names script v) step R ≡ Gives tt t) where
      good_of : Later R t × Good Q t
      good_of = ends_gives Q R t (does (names script v) step R) ((step_brings script v (HasLine w v) (λ m. Source draws w v m × Alive w m.id) (λ m. Reacting draws w v m × Alive w m.id) (λ u. Unit {0}) step (λ u i. tt)).after R begins_good) q

      adds_of : Adds s.lists (map list_made t.happened) t.lists
      unfolding world.readied
      adds_of = (after_gives (MadeNew (names script v)) R t (does (names script v) step R) (steps_make_new (names script v) (own_spots script v) step R refl (still v s at)) q).2

      still_of : NothingLive (NextOf t)
      unfolding world.readied
      still_of u r f = put_each (λ n z. (i : ℕ) → live_at z.things i ≡ false) v t w.vats
          (λ i. not_true (live_at t.things i) (λ a. false_true (live_at R.things i) (still v s at i) (dies_after R t (does (names script v) step R) (steps_leave_dead (names script v) step R) q i a))) still u r f

      grows_of : Grows w (NextOf t)
      unfolding world.readied
      grows_of = next_grows v w (e ∷ []) s R t step at (refl, refl, refl) good_of.0

      stands_of : ((x : Name) → Fated x (NextOf t)) → Stands draws (NextOf t)
      unfolding world.readied
      stands_of fated = stands_next draws v w (NextOf t) e s t step at refl refl refl none plain h hand fated grows_of adds_of own
          (kept_lines v w (e ∷ []) s R t step at (refl, refl, refl) good_of.0) (next_list v w (e ∷ []) s R t step at (refl, refl, refl) good_of.0) (next_opened v w (e ∷ []) s R t step at (refl, refl, refl) good_of.0) good_of.1
          (λ m c. let k = comes t m c in came_here draws v w (NextOf t) e s t step at refl refl refl none plain h hand fated grows_of adds_of own k.0 k.1 k.2 k.3 k.4 k.5 k.6 k.7 m k.8
          (subst (λ z. LeadsTo (HasLine (NextOf t) v) (Ref k.3) z) (sym k.9) itself) (come_all_map (Members t) (HasList (NextOf t) v) (next_list v w (e ∷ []) s R t step at (refl, refl, refl) good_of.0) k.5 m.args k.10) k.11)
          taking (λ j a b m bytes r. carry_sent draws w a (λ k vs l. (h.lists a l.0 l.1).0 k vs l.2) j b m (carry j a b m bytes r))

      made_of : MadeOnce script (NextOf t)
      unfolding world.readied
      made_of = made_next script v w (NextOf t) e s t at refl refl makes_none (after_gives (MadeNew (names script v)) R t (does (names script v) step R) (steps_make_new (names script v) (own_spots script v) step R refl (still v s at)) q).0 made

    back_whole : (d : Done Name (Unit {0})) → does (names script v) step R ≡ d → AllFated (world.put_back v w (e ∷ []) n d) → Reached Whole (world.put_back v w (e ∷ []) n d)
    unfolding world.put_back
    back_whole (Gives u t) q f = record { still = still_of t q; fated = λ x. f x; stands = stands_of t q (λ x. f x); made = made_of t q }
    back_whole (Throws x t) q f = record { still = still; fated = λ y. f y; stands = h; made = made }
    back_whole other q f = record { still = still; fated = λ x. f x; stands = h; made = made }

    within_whole : AllFated (world.within v w (e ∷ []) n (does (names script v) step) (Some (record s { queue = ms }))) → Reached Whole (world.within v w (e ∷ []) n (does (names script v) step) (Some (record s { queue = ms })))
    unfolding world.within
    within_whole f = back_whole (does (names script v) step R) refl f

  -- ---- the steps of a run

  idle_whole : (k : ℕ) (w : World) → Whole w → AllFated (world.idle script k w) → Reached Whole (world.idle script k w)
  unfolding world.idle total sent_by carried_by is_carry makes
  idle_whole k w h f = let y : World = record w { history = w.history ++ Idle k ∷ [] } in let g : Grows w y = moved_grows w w.links (Idle k ∷ []) (λ v a i n o. o) in
      let none = one_line (Idle k) (λ u f i. cc) in
      record {
        still = h.still;
        fated = λ x. f x;
        stands = still_stands draws w y (Idle k ∷ []) refl refl none (λ x. refl) (λ x. refl) refl g h.fated h.stands
            (all_in (LinkWell draws w) (LinkWell draws y) w.links (still_link draws w y (Idle k ∷ []) refl refl none (λ x. refl) (λ x. refl) refl g h.fated h.stands) h.stands.links);
        made = made_still script w y (Idle k ∷ []) refl refl (λ v i. refl) h.made;
      }

  -- a line that carries nothing
  hand_by : (w : World) (e : Event) → ((x : Name) → carried_by x e ≡ 0) → Whole w → (x : Name) → places x w + takes x w.history + carried_by x e ≤ sendings x w.history
  hand_by w e z h x = let k = (h.fated x).kept in let c = z x in omega arith

  turned_plain : (k v : ℕ) (x : Name) → (sent_by x (Turned k v) ≡ 0) × (carried_by x (Turned k v) ≡ 0)
  unfolding sent_by carried_by
  turned_plain k v x = (refl, refl)

  noticed_plain : (k v u : ℕ) (x : Name) → (sent_by x (NoticedAt k v u) ≡ 0) × (carried_by x (NoticedAt k v u) ≡ 0)
  unfolding sent_by carried_by
  noticed_plain k v u x = (refl, refl)

  opens_plain : (v : ℕ) (x : Name) → (sent_by x (Opens v) ≡ 0) × (carried_by x (Opens v) ≡ 0)
  unfolding sent_by carried_by
  opens_plain v x = (refl, refl)

  carried_plain : (k v u : ℕ) (n : Note Name) (bytes : List ℕ) (x : Name) → (sent_by x (Carried k v u n bytes) ≡ 0) × (carried_by x (Carried k v u n bytes) ≡ of_note x n)
  unfolding sent_by carried_by
  carried_plain k v u n bytes x = (refl, refl)

  turn_queue_whole : (k v : ℕ) (w : World) (s : Vat Name) (ms : List (Message Name)) → s.queue ≡ ms → slice_get w.vats v ≡ Some s → Whole w → AllFated (world.turn_queue script k v w s ms) → Reached Whole (world.turn_queue script k v w s ms)
  unfolding world.turn_queue does
  turn_queue_whole k v w s [] q at h f = idle_whole k w h f
  turn_queue_whole k v w s (m ∷ ms) q at h f = within_whole v w (Turned k v) (world.step_number script k) s ms (Takes (world.tree_at script.vats v) script.depth m) at (one_line (Turned k v) (λ u f i. cc)) (λ x. (turned_plain k v x).0) h.still h.stands
      (hand_by w (Turned k v) (λ x. (turned_plain k v x).1) h) (λ x i. subst (λ qs. IsAmong x qs) (sym q) (inr i)) (λ x i. subst (λ qs. IsAmong x qs) (sym q) (inl i)) (λ t x c. absurd c) (λ j a b x bytes i. cc) (turned_place draws k v) (turned_makes script k v) h.made f

  turn_whole : (k v : ℕ) (w : World) (o : Option (Vat Name)) → slice_get w.vats v ≡ o → Whole w → AllFated (world.turn script k v w o) → Reached Whole (world.turn script k v w o)
  unfolding world.turn
  turn_whole k v w None e h f = idle_whole k w h f
  turn_whole k v w (Some s) e h f = turn_queue_whole k v w s s.queue refl e h f

  -- ---- a note that arrives

  came_comes : (w : World) (k v to : ℕ) (ks : List Name) (n : Note Name) (bytes : List ℕ) → NoteWell draws w v n → (t : Vat Name) (m : Message Name) → Came t (Receives v (read_note ks n)) m → Comes to (Carried k v to n bytes) t m
  unfolding read_note world.read_value
  came_comes w k v to ks (Deliver d z verb ys) bytes h t m c = (k, v, d, z, verb, ys, bytes, refl, sym c.0, c.2 ∙ value_read (world.read_all ys ks).known (Ref z), all_read (Members t) ys ks m.args c.3, pass_no_lists (HasLine w v) (HasList w v) (HasOpened w v) (λ n. Unit {0}) h.0.args ys h.4)
  came_comes w k v to ks other bytes h t m c = absurd c

  carried_is : (k v to j a b : ℕ) (n m : Note Name) (bytes more : List ℕ) → Carried k v to n bytes ≡ Carried j a b m more → (v ≡ a) × (n ≡ m)
  carried_is k v to j a b n m bytes more e = (cc, cc)

  arrives_whole : (k v to : ℕ) (w : World) (n : Note Name) (o : Option (Vat Name)) → slice_get w.vats to ≡ o → NoteWell draws w v n → ((x : Name) → places x w + takes x w.history + of_note x n ≤ sendings x w.history) → Whole w → AllFated (world.arrives script k v to w n o) → Reached Whole (world.arrives script k v to w n o)
  unfolding world.arrives does
  arrives_whole k v to w n None e i c h f = idle_whole k w h f
  arrives_whole k v to w n (Some s) e i c h f = let bytes = world.next_frame v to w.connections in
      within_whole to w (Carried k v to n bytes) (world.step_number script k) s s.queue (Receives v (read_note (names_of s) n)) e (one_line (Carried k v to n bytes) (λ u f j. cc)) (λ x. (carried_plain k v to n bytes x).0) h.still h.stands
      (λ x. let a = c x in let b = (carried_plain k v to n bytes x).1 in omega arith) (λ m j. j) (λ m j. absurd j) (came_comes w k v to (names_of s) n bytes i)
      (λ j a b m more q. let r = carried_is k v to j a b n m bytes more q in subst (λ z. NoteWell draws w z m) r.0 (subst (λ z. NoteWell draws w v z) r.1 i)) (carried_place draws k v to n bytes) (carried_makes script k v to n bytes) h.made f

  silent_none : (x : Name) → Silent draws [] x
  unfolding shown_events
  silent_none x = (refl, refl, refl)

  -- the notes of a link go on without the first
  module _ (v to : ℕ) (w : World) (l : Link) (n : Note Name) (ns : List (Note Name)) (at : world.link_at v to w.links ≡ Some l) (notes : l.notes ≡ n ∷ ns) where
    abbrev Less : World
    Less = record w { links = world.with_link (world.with_notes ns) v to w.links }

    less_places : (x : Name) → places x Less + of_note x n ≡ places x w
    unfolding places world.with_notes on_link total
    less_places x = let a = with_link_changes x (world.with_notes ns) v to w.links l at in let b : total (of_note x) l.notes ≡ of_note x n + total (of_note x) ns = ap (total (of_note x)) notes in omega arith

    less_fated : (x : Name) → Fated x w → Fated x Less
    unfolding world.with_notes
    less_fated x h = let k = h.kept in let p = less_places x in record { kept = omega arith; unlisted = h.unlisted; fresh = h.fresh; apart = with_link_apart (world.with_notes ns) (λ l j. j) v to w.links h.apart }

    less_hand : Whole w → (x : Name) → places x Less + takes x Less.history + of_note x n ≤ sendings x Less.history
    less_hand h x = let k = (h.fated x).kept in let p = less_places x in omega arith

    no_lines : IsNobodys []
    no_lines u f i = i

    less_whole : AllOf (NoteWell draws w v) ns → Whole w → Whole Less
    unfolding world.with_notes total is_carry
    less_whole rest h = let g : Grows w Less = less_grows script v to w ns in let more : Less.history ≡ w.history ++ [] = sym (end_none w.history) in record {
      still = h.still;
      fated = λ x. less_fated x (h.fated x);
      stands = still_stands draws w Less [] refl more no_lines (λ x. refl) (λ x. refl) refl g h.fated h.stands
          (with_link_all (LinkWell draws Less) (world.with_notes ns) v to w.links
          (λ k e j. subst (λ u. AllOf (NoteWell draws Less u) ns) (sym (link_from v to k e)) (all_map (NoteWell draws w v) (NoteWell draws Less v) (λ m i. note_grow draws w Less g [] more v m (λ d z verb ys q. silent_none d.message) i) ns rest))
          (all_in (LinkWell draws w) (LinkWell draws Less) w.links (still_link draws w Less [] refl more no_lines (λ x. refl) (λ x. refl) refl g h.fated h.stands) h.stands.links));
      made = made_still script w Less [] refl more (λ u i. refl) h.made;
    }

  carry_notes_whole : (k v to : ℕ) (w : World) (l : Link) → world.link_at v to w.links ≡ Some l → (ns : List (Note Name)) → l.notes ≡ ns → AllOf (NoteWell draws w v) ns → Whole w → AllFated (world.carry_notes script k v to w ns) → Reached Whole (world.carry_notes script k v to w ns)
  unfolding world.carry_notes
  carry_notes_whole k v to w l at [] q i h f = idle_whole k w h f
  carry_notes_whole k v to w l at (n ∷ ns) q i h f = arrives_whole k v to (Less v to w l n ns at q) n (slice_get w.vats to) refl
      (note_grow draws w (Less v to w l n ns at q) (less_grows script v to w ns) [] (sym (end_none w.history)) v n (λ d z verb ys r. silent_none d.message) i.0) (less_hand v to w l n ns at q h) (less_whole v to w l n ns at q i.1 h) f

  carry_cut_whole : (k v to : ℕ) (w : World) (l : Link) → world.link_at v to w.links ≡ Some l → (b : Bool) → AllOf (NoteWell draws w v) l.notes → Whole w → AllFated (pick b (world.idle script k w) (world.carry_notes script k v to w l.notes)) → Reached Whole (pick b (world.idle script k w) (world.carry_notes script k v to w l.notes))
  carry_cut_whole k v to w l at true i h f = idle_whole k w h f
  carry_cut_whole k v to w l at false i h f = carry_notes_whole k v to w l at l.notes refl i h f

  carry_link_whole : (k v to : ℕ) (w : World) (o : Option Link) → world.link_at v to w.links ≡ o → Whole w → AllFated (world.carry_link script k v to w o) → Reached Whole (world.carry_link script k v to w o)
  unfolding world.carry_link
  carry_link_whole k v to w None at h f = idle_whole k w h f
  carry_link_whole k v to w (Some l) at h f = let i = found_link (LinkWell draws w) v to w.links l at h.stands.links in carry_cut_whole k v to w l at l.cut (subst (λ u. AllOf (NoteWell draws w u) l.notes) i.1 i.0) h f

  -- ---- cuts

  cut_whole : (k v to : ℕ) (w : World) → Whole w → AllFated (world.cut script k v to w) → Reached Whole (world.cut script k v to w)
  unfolding world.cut world.severed_link sent_by carried_by is_carry makes
  cut_whole k v to w h f = let one : List Link = world.with_link world.severed_link v to w.links in let ls : List Link = world.with_link world.severed_link to v one in
      let es : List Event = CutAt k v to ∷ (world.lost_on script (world.link_at v to w.links) ++ world.lost_on script (world.link_at to v w.links)) in let y : World = record w { links = ls; history = w.history ++ es } in
      let g : Grows w y = moved_grows w ls es (λ u a i n o. opened_with world.severed_link (λ l. (refl, refl, λ m j. j)) to v one u a i n (opened_with world.severed_link (λ l. (refl, refl, λ m j. j)) v to w.links u a i n o)) in
      let none : IsNobodys es = nobodys_join (CutAt k v to ∷ []) (world.lost_on script (world.link_at v to w.links) ++ world.lost_on script (world.link_at to v w.links)) (one_line (CutAt k v to) (λ u f e. cc))
      (nobodys_join (world.lost_on script (world.link_at v to w.links)) (world.lost_on script (world.link_at to v w.links)) (lost_on_nobodys script (world.link_at v to w.links)) (lost_on_nobodys script (world.link_at to v w.links))) in
      let s : (x : Name) → total (sent_by x) es ≡ 0 = λ x. no_cut_line x script v to k w.links (sent_by x) refl (λ m. refl) in let c : (x : Name) → total (carried_by x) es ≡ 0 = λ x. no_cut_line x script v to k w.links (carried_by x) refl (λ m. refl) in
      let u : total is_carry es ≡ 0 = no_cut_line (Root 0) script v to k w.links is_carry refl (λ m. refl) in
      record {
        still = h.still;
        fated = λ x. f x;
        stands = still_stands draws w y es refl refl none s c u g h.fated h.stands
            (with_link_all (LinkWell draws y) world.severed_link to v one (λ l e j. tt) (with_link_all (LinkWell draws y) world.severed_link v to w.links (λ l e j. tt)
            (all_in (LinkWell draws w) (LinkWell draws y) w.links (still_link draws w y es refl refl none s c u g h.fated h.stands) h.stands.links)));
        made = made_still script w y es refl refl (λ n i. no_cut_line (Root 0) script v to k w.links (makes script n i) refl (λ m. refl)) h.made;
      }

  notice_whole : (k v to : ℕ) (w : World) (o : Option (Vat Name)) → slice_get w.vats v ≡ o → Whole w → AllFated (world.within v w (NoticedAt k v to ∷ []) (world.step_number script k) (notice (names script v) to) o)
      → Reached Whole (world.within v w (NoticedAt k v to ∷ []) (world.step_number script k) (notice (names script v) to) o)
  unfolding does world.within
  notice_whole k v to w None e h f = h
  notice_whole k v to w (Some s) e h f = within_whole v w (NoticedAt k v to) (world.step_number script k) s s.queue (Notices to) e (one_line (NoticedAt k v to) (λ u f i. cc)) (λ x. (noticed_plain k v to x).0) h.still h.stands
      (hand_by w (NoticedAt k v to) (λ x. (noticed_plain k v to x).1) h) (λ m i. i) (λ m i. absurd i) (λ t x c. absurd c) (λ j a b x bytes i. cc) (noticed_place draws k v to) (noticed_makes script k v to) h.made f

  open_whole : (v : ℕ) (p : Program) (w : World) (o : Option (Vat Name)) → slice_get w.vats v ≡ o → Whole w → AllFated (world.within v w (Opens v ∷ []) v (opening (names script v) p.tree script.depth (Root v) (world.given script.vats p.knows)) o)
      → Reached Whole (world.within v w (Opens v ∷ []) v (opening (names script v) p.tree script.depth (Root v) (world.given script.vats p.knows)) o)
  unfolding does world.within
  open_whole v p w None e h f = h
  open_whole v p w (Some s) e h f = within_whole v w (Opens v) v s s.queue (Starts p.tree script.depth (Root v) (world.given script.vats p.knows)) e (one_line (Opens v) (λ u f i. cc)) (λ x. (opens_plain v x).0) h.still h.stands
      (hand_by w (Opens v) (λ x. (opens_plain v x).1) h) (λ m i. i) (λ m i. absurd i) (λ t x c. absurd c) (λ j a b x bytes i. cc) (opens_place draws v) (opens_make script v) h.made f

  step_whole : (entry : Entry) (k : ℕ) (w : World) → Whole w → AllFated (world.step script entry k w) → Reached Whole (world.step script entry k w)
  unfolding world.step
  step_whole (Turn v) k w h f = turn_whole k v w (slice_get w.vats v) refl h f
  step_whole (Carry v to) k w h f = carry_link_whole k v to w (world.link_at v to w.links) refl h f
  step_whole (CutLink v to) k w h f = cut_whole k v to w h f
  step_whole (NoticeLink v to) k w h f = notice_whole k v to w (slice_get w.vats v) refl h f

  then_whole : (P : World → Type 0) → ((w : World) → Whole w → P w) → (r : Run) (f : World → Run) → Reached Whole r → ((w : World) → Whole w → Reached P (f w)) → Reached P (world.then_goes r f)
  unfolding world.then_goes
  then_whole P i (Goes w) f h g = g w h
  then_whole P i (Stopped c k w) f h g = i w h

  pub steps_whole : (es : List Entry) (k : ℕ) (w : World) → Whole w → Reached Whole (world.steps_from script es k w)
  unfolding world.steps_from
  steps_whole [] k w h = h
  steps_whole (e ∷ es) k w h = then_whole Whole (λ y i. i) (world.step script e k w) (world.steps_from script es (suc k)) (step_whole e k w h (λ x. step_fated x script e k w (h.fated x))) (λ y i. steps_whole es (suc k) y i)

  pub opens_whole : (v : ℕ) (ps : List Program) (w : World) → Whole w → Reached Whole (world.open_from script v ps w)
  unfolding world.open_from world.open_vat
  opens_whole v [] w h = h
  opens_whole v (p ∷ ps) w h = then_whole Whole (λ y i. i) (world.open_vat script v p w) (world.open_from script (suc v) ps) (open_whole v p w (slice_get w.vats v) refl h (λ x. open_fated x script v p w (slice_get w.vats v) refl (h.fated x))) (λ y i. opens_whole (suc v) ps y i)

  -- ---- the start

  roots_well : (w : World) (v : ℕ) (ws : List ℕ) → AllOf (KnownWell draws w v) (map world.known_root ws)
  unfolding world.known_root begun
  roots_well w v [] = tt
  roots_well w v (u ∷ us) = ((tt, tt, tt), roots_well w v us)

  abbrev FreshWell : World → ℕ → Vat Name → Type 0
  FreshWell w u s = AllOf (Queued draws w u) s.queue × AllOf (KnownWell draws w u) s.known × (s.lists ≡ [])

  some_vat : (a b : Vat Name) → Some a ≡ Some b → a ≡ b
  some_vat a b e = cc

  fresh_well : (w : World) (u v : ℕ) (ps : List Program) (i : ℕ) (s : Vat Name) → slice_get (world.fresh_from script v ps) i ≡ Some s → FreshWell w u s
  unfolding world.fresh_from world.fresh world.known_root begun
  fresh_well w u v [] i s e = cc
  fresh_well w u v (p ∷ ps) zero s e = subst (λ (r : Vat Name). FreshWell w u r) (some_vat (world.fresh script v p) s e) (tt, ((tt, tt, tt), roots_well w u p.knows), refl)
  fresh_well w u v (p ∷ ps) (suc i) s e = fresh_well w u (suc v) ps i s e

  all_join : (P : Link → Type 0) (xs ys : List Link) → AllOf P xs → AllOf P ys → AllOf P (xs ++ ys)
  all_join P [] ys h k = k
  all_join P (x ∷ xs) ys h k = (h.0, all_join P xs ys h.1 k)

  links_to_well : (x : World) (v w : ℕ) (ps : List Program) → AllOf (LinkWell draws x) (world.links_to v w ps)
  unfolding world.links_to
  links_to_well x v w [] = tt
  links_to_well x v w (p ∷ ps) = either (v == w) (links_to_well x v (suc w) ps)
    where
      either : (b : Bool) → AllOf (LinkWell draws x) (world.links_to v (suc w) ps) → AllOf (LinkWell draws x) (pick b (world.links_to v (suc w) ps) (record { from = v; to = w; cut = false; notes = []; roots = world.roots_for v p; log = [] } ∷ world.links_to v (suc w) ps))
      either true h = h
      either false h = (tt, h)

  links_from_well : (x : World) (all : List Program) (v : ℕ) (ps : List Program) → AllOf (LinkWell draws x) (world.links_from all v ps)
  unfolding world.links_from
  links_from_well x all v [] = tt
  links_from_well x all v (p ∷ ps) = all_join (LinkWell draws x) (world.links_to v zero all) (world.links_from all (suc v) ps) (links_to_well x v zero all) (links_from_well x all (suc v) ps)

  no_line : (h k : List Event) (e : Event) → [] ≡ h ++ e ∷ k → ⊥
  no_line [] k e q = cc
  no_line (x ∷ h) k e q = cc

  no_list : (s : Vat Name) (k : ℕ) (vs : List (Value Name)) → s.lists ≡ [] → slice_get s.lists k ≡ Some vs → ⊥
  no_list s k vs e q = none k vs (subst (λ ls. slice_get ls k ≡ Some vs) e q)
    where
      none : (k : ℕ) (vs : List (Value Name)) → slice_get [] k ≡ Some vs → ⊥
      none k vs q = cc

  told_none : (u k : ℕ) (vs : List (Value Name)) → ListTold draws [] u k vs → ⊥
  told_none u k vs (inl i) = i.1
  told_none u k vs (inr i) = i

  pub begins_whole : Whole (begins script)
  unfolding begins total world.open_from
  begins_whole = record {
    still = opened_still script [] (begins script) opened_none;
    fated = λ x. begins_fated x script;
    made = λ v s e i. (omega arith, λ k. refl);
    stands = record {
      lists = λ u s e. (λ k vs i. absurd (no_list s k vs (fresh_well (begins script) u zero script.vats u s e).2 i), λ k vs i. absurd (told_none u k vs i));
      carries = λ x i. refl;
      queues = λ u s e. (fresh_well (begins script) u zero script.vats u s e).0;
      names = λ u s e. (fresh_well (begins script) u zero script.vats u s e).1;
      links = links_from_well (begins script) script.vats zero script.vats;
      took = λ h k u a m q. absurd (no_line h k _ q);
      carried = λ h k j a b n bytes q. absurd (no_line h k _ q);
      placed = λ h k u l q. absurd (no_line h k _ q);
    };
  }
    where
      opened_none : world.open_from script zero [] (begins script) ≡ Goes (begins script)
      opened_none = refl

  -- ---- the end

  abbrev pub MessagesWell : World → Type 0
  MessagesWell w = TakesWell draws w.history × CarriesWell draws w.history × PlacedWell draws w.history

  joined : {A : Type 0} (xs ys zs : List A) → (xs ++ ys) ++ zs ≡ xs ++ (ys ++ zs)
  joined [] ys zs = refl
  joined (x ∷ xs) ys zs = ap (λ r. x ∷ r) (joined xs ys zs)

  closing_none : (f : Event → ℕ) → ((v : ℕ) (m : Name) → f (LeftQueue v m) ≡ 0) → ((v : ℕ) (n m : Name) → f (LeftHeld v n m) ≡ 0) → ((v : ℕ) (n m : Name) → f (LeftWait v n m) ≡ 0) → ((v u : ℕ) (n : Note Name) → f (LeftLink v u n) ≡ 0) → f IsEnd ≡ 0
      → (w : World) → total f (world.left_vats script w.vats ++ (world.left_links script w.links ++ IsEnd ∷ [])) ≡ 0
  unfolding total
  closing_none f q h i l e w = let a = none_vats (Root 0) script f q h i l w.vats in let b = none_links (Root 0) script f q h i l w.links in
      let c = total_append f (world.left_vats script w.vats) (world.left_links script w.links ++ IsEnd ∷ []) in let d = total_append f (world.left_links script w.links) (IsEnd ∷ []) in omega arith

  close_well : (w : World) → Whole w → Reached MessagesWell (world.close script w)
  unfolding world.close sent_by carried_by is_carry
  close_well w h = let vs : List Event = world.left_vats script w.vats in let ls : List Event = world.left_links script w.links in let es : List Event = vs ++ (ls ++ IsEnd ∷ []) in
      let y : World = record w { history = w.history ++ vs ++ ls ++ IsEnd ∷ [] } in let more : y.history ≡ w.history ++ es = joined (w.history ++ vs) ls (IsEnd ∷ []) ∙ joined w.history vs (ls ++ IsEnd ∷ []) in
      let g : Grows w y = (λ e i. subst (λ hs. IsAmong e hs) (sym more) (among_left e w.history es i), λ v k us i. i, λ v a i n o. o, λ v n i. (i.0, (i.1.0, subst (λ hs. IsAmong (NoticedAt i.1.0 v i.0) hs) (sym more) (among_left _ w.history es i.1.1)), i.2, i.3, i.4)) in
      let none : IsNobodys es = nobodys_join vs (ls ++ IsEnd ∷ []) (vats_nobodys script w.vats) (nobodys_join ls (IsEnd ∷ []) (links_nobodys script w.links) (one_line IsEnd (λ u e i. cc))) in
      let s : (x : Name) → total (sent_by x) es ≡ 0 = λ x. closing_none (sent_by x) (λ v m. refl) (λ v n m. refl) (λ v n m. refl) (λ v u n. refl) refl w in
      let c : (x : Name) → total (carried_by x) es ≡ 0 = λ x. closing_none (carried_by x) (λ v m. refl) (λ v n m. refl) (λ v n m. refl) (λ v u n. refl) refl w in
      let u : total is_carry es ≡ 0 = closing_none is_carry (λ v m. refl) (λ v n m. refl) (λ v n m. refl) (λ v u n. refl) refl w in
      let r = still_stands draws w y es refl more none s c u g h.fated h.stands (all_in (LinkWell draws w) (LinkWell draws y) w.links (still_link draws w y es refl more none s c u g h.fated h.stands) h.stands.links) in (r.took, r.carried, r.placed)

  pub run_well : Reached MessagesWell (world.run script)
  unfolding world.run
  run_well = then_whole MessagesWell (λ w h. (h.stands.took, h.stands.carried, h.stands.placed)) (world.open_from script zero script.vats (begins script)) _ (opens_whole zero script.vats (begins script) begins_whole)
      (λ w h. then_whole MessagesWell (λ y i. (i.stands.took, i.stands.carried, i.stands.placed)) (world.steps_from script script.schedule 1 w) (world.close script) (steps_whole script.schedule 1 w h) close_well)
