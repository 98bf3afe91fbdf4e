-- In every world of a run places, takes and losses of a message are no more than its sends, and of these there is one at most.
use Rattle.std.proofs.Common.{◌≡◌, ℕ, suc, ◌+◌, ◌≤◌, Bool, true, false, List, [], ◌∷◌, ◌++◌, Option, Some, None, refl, ap, arith}
use Rattle.std.specs.Prelude.{slice_get}
use Rattle.def_machine.specs.Values.{Name, Root}
use Rattle.def_machine.specs.State.{Message, Note, Deliver, Open, Ask, SettledTo, Elsewhere, Shorten, Vat, Done, Gives}
use Rattle.def_machine.specs.Arrive.{notice}
use Rattle.def_machine.specs.Eval.{opening}
use Rattle.law_machine.specs.Machine.Steps.{Step, Opens as Starts, Takes, Receives, Notices, does, After}
use Rattle.def_run.specs.Draws.{draw_word}
use Rattle.def_run.specs.World as world
use Rattle.def_run.specs.World.{Script, Program, Opens, Entry, Turn, Carry, CutLink, NoticeLink, Event, Turned, Idle, Carried, CutAt, NoticedAt, LostCut, Link, World, Run, Goes, Stopped, names, names_of, read_note}
use Rattle.law_fate.specs.Fates.Fate.{one, total, among, at_vat, of_note, in_note, on_link, places, sent_by, sent, took_by, takes, lost_by, losses, left_by, leavings, gone, sent_in, put_out, account}
use Rattle.law_fate.specs.Fates.FateLaws.{numbered, Accounted, coming, brought}
use Rattle.law_fate.specs.Fates.FateRuns.{Reached}
use Rattle.law_fate.proofs.Fates.RunCounts.{pick, total_append, total_put, all_numbered, numbered_put, push_all_adds, AllApart, with_link_apart, push_all_apart, with_link_changes, with_link_absent, severed_back, ends_told, sends_told, none_left}
use Rattle.law_fate.proofs.Fates.TurnAccount.{steps_double_none}

-- what holds in every world of a run, with so many messages in hand
pub record Holds (x : Name) (hand : ℕ) (w : World) : Type 0 where
  pub kept : places x w + hand + takes x w.history + losses x w.history ≤ sent x w.history
  pub unlisted : leavings x w.history ≡ 0
  pub fresh : sent x w.history ≤ all_numbered x 0 w.vats
  pub apart : AllApart w.links

abbrev pub Fated : Name → World → Type 0
Fated x w = Holds x 0 w

-- lines that send no message, and tell of the end of none
record Plain (x : Name) (es : List Event) : Type 0 where
  sends : total (sent_by x) es ≡ 0
  takes : total (took_by x) es ≡ 0
  loses : total (lost_by x) es ≡ 0
  leaves : total (left_by x) es ≡ 0

module _ (x : Name) where
  -- lines added to the history
  line_added : (hand lost : ℕ) (w : World) (es : List Event) → Holds x (hand + lost) w → total (sent_by x) es ≡ 0 → total (took_by x) es ≡ 0 → total (lost_by x) es ≤ lost → total (left_by x) es ≡ 0
      → Holds x hand (record w { history = w.history ++ es })
  unfolding places sent takes losses leavings
  line_added hand lost w es h a b c d =
      let k = h.kept in let u = h.unlisted in let f = h.fresh in
      let i = total_append (sent_by x) w.history es in let j = total_append (took_by x) w.history es in let m = total_append (lost_by x) w.history es in let n = total_append (left_by x) w.history es in
      record { kept = omega arith; unlisted = omega arith; fresh = omega arith; apart = h.apart }

  more_hand : (hand less : ℕ) (w : World) → less ≤ hand → Holds x hand w → Holds x less w
  more_hand hand less w i h = let k = h.kept in record { kept = omega arith; unlisted = h.unlisted; fresh = h.fresh; apart = h.apart }

  -- what a step of vat v makes of the world
  stepped : (v : ℕ) (w : World) (head : List Event) (came : ℕ) (s q t : Vat Name) → slice_get w.vats v ≡ Some s
      → Holds x came (record w { vats = world.put_at v q w.vats }) → Fated x w → q.messages ≡ s.messages → Plain x head → Accounted (λ to. world.is_cut v to w.links) v x came (world.readied w q) t
      → Fated x (record { fuel = t.fuel; drawn = t.drawn; vats = world.put_at v t w.vats; links = world.push_all v t.outbox w.links; connections = world.connections_after v t head w.connections; history = (w.history ++ head) ++ world.events_of w.links v t.happened })
  unfolding places sent takes losses leavings account put_out gone sent_in at_vat world.readied
  stepped v w head came s q t e h k m p a =
      let es : List Event = world.events_of w.links v t.happened in
      let before = h.kept in let none = k.unlisted in let fresh = k.fresh in let spent = a.kept in let new = a.fresh in
      let same : numbered v q.messages x ≡ numbered v s.messages x = ap (λ i. numbered v i x) m in
      let at_q = total_put (at_vat x) v w.vats s q e in let at_t = total_put (at_vat x) v w.vats s t e in let numbers = numbered_put x v w.vats s t e in
      let pushed = push_all_adds x v t.outbox w.links (λ to. world.is_cut v to w.links) (λ to. refl) in
      let ends = ends_told w.links v x t.happened in let sends = sends_told w.links v x t.happened in let leaves = none_left w.links v x t.happened in
      let a1 = total_append (sent_by x) (w.history ++ head) es in let a2 = total_append (sent_by x) w.history head in let a3 = p.sends in
      let b1 = total_append (took_by x) (w.history ++ head) es in let b2 = total_append (took_by x) w.history head in let b3 = p.takes in
      let c1 = total_append (lost_by x) (w.history ++ head) es in let c2 = total_append (lost_by x) w.history head in let c3 = p.loses in
      let d1 = total_append (left_by x) (w.history ++ head) es in let d2 = total_append (left_by x) w.history head in let d3 = p.leaves in
      record { kept = omega arith; unlisted = omega arith; fresh = omega arith; apart = push_all_apart v t.outbox w.links k.apart }

  -- a step of vat v from s, or from what it leaves of s when it begins
  put_back_fated : (v : ℕ) (w : World) (head : List Event) (n came : ℕ) (s q : Vat Name) (d : Done Name (Unit {0})) → slice_get w.vats v ≡ Some s
      → Holds x came (record w { vats = world.put_at v q w.vats }) → Fated x w → q.messages ≡ s.messages → Plain x head
      → After (Accounted (λ to. world.is_cut v to w.links) v x came) (world.readied w q) d → Reached (Fated x) (world.put_back v w head n d)
  unfolding world.put_back world.readied
  put_back_fated v w head n came s q (Gives u t) e h k m p a = stepped v w head came s q t e h k m p a
  put_back_fated v w head n came s q other e h k m p a = k

  -- a vat in its own place
  in_place : (came v : ℕ) (w : World) (s : Vat Name) → slice_get w.vats v ≡ Some s → Holds x came w → Holds x came (record w { vats = world.put_at v s w.vats })
  unfolding places
  in_place came v w s e h = let k = h.kept in let f = h.fresh in let a = total_put (at_vat x) v w.vats s s e in let b = numbered_put x v w.vats s s e in record { kept = omega arith; unlisted = h.unlisted; fresh = omega arith; apart = h.apart }

  -- the first message of a queue in hand
  from_queue : (v : ℕ) (w : World) (s : Vat Name) (m : Message Name) (ms : List (Message Name)) → slice_get w.vats v ≡ Some s → s.queue ≡ m ∷ ms → Fated x w → Holds x (one m.id x) (record w { vats = world.put_at v (record s { queue = ms }) w.vats })
  unfolding places at_vat among
  from_queue v w s m ms e i h =
      let k = h.kept in let f = h.fresh in let a = total_put (at_vat x) v w.vats s (record s { queue = ms }) e in let b = numbered_put x v w.vats s (record s { queue = ms }) e in
      let c : among x s.queue ≡ one m.id x + among x ms = rw i refl in record { kept = omega arith; unlisted = h.unlisted; fresh = omega arith; apart = h.apart }

  -- the first note of a link in hand
  from_link : (v to : ℕ) (w : World) (l : Link) (n : Note Name) (ns : List (Note Name)) → world.link_at v to w.links ≡ Some l → l.notes ≡ n ∷ ns → Fated x w → Holds x (of_note x n) (record w { links = world.with_link (world.with_notes ns) v to w.links })
  unfolding places world.with_notes on_link total
  from_link v to w l n ns e i h =
      let k = h.kept in let a = with_link_changes x (world.with_notes ns) v to w.links l e in
      let c : total (of_note x) l.notes ≡ of_note x n + total (of_note x) ns = rw i refl in
      record { kept = omega arith; unlisted = h.unlisted; fresh = h.fresh; apart = with_link_apart (world.with_notes ns) (λ l j. j) v to w.links h.apart }

  pub note_brings : (ks : List Name) (n : Note Name) → in_note (coming x) (read_note ks n) ≡ of_note x n
  unfolding read_note in_note coming of_note
  note_brings ks (Deliver m n verb ys) = refl
  note_brings ks other = refl

  plain_one : (e : Event) → sent_by x e ≡ 0 → took_by x e ≡ 0 → lost_by x e ≡ 0 → left_by x e ≡ 0 → Plain x (e ∷ [])
  unfolding total
  plain_one e a b c d = record { sends = omega arith; takes = omega arith; loses = omega arith; leaves = omega arith }

  module _ (script : Script) where
    within_fated : (v : ℕ) (w : World) (head : List Event) (n : ℕ) (what : Step Name Name) (s q : Vat Name) → slice_get w.vats v ≡ Some s → Holds x (brought x what) (record w { vats = world.put_at v q w.vats }) → Fated x w → q.messages ≡ s.messages → Plain x head
        → Reached (Fated x) (world.within v w head n (does (names script v) what) (Some q))
    unfolding world.within names
    within_fated v w head n what s q e h k m p = put_back_fated v w head n (brought x what) s q _ e h k m p (steps_double_none (draw_word script.key) v what (world.readied w q) (λ to. world.is_cut v to w.links) x)

    idle_fated : (k hand : ℕ) (w : World) → Holds x hand w → Reached (Fated x) (world.idle script k w)
    unfolding world.idle total sent_by took_by lost_by left_by
    idle_fated k hand w h = line_added 0 0 w (Idle k ∷ []) (more_hand hand (0 + 0) w (omega arith) h) refl refl (omega arith) refl

    turn_queue_fated : (k v : ℕ) (w : World) (s : Vat Name) (ms : List (Message Name)) → slice_get w.vats v ≡ Some s → s.queue ≡ ms → Fated x w → Reached (Fated x) (world.turn_queue script k v w s ms)
    unfolding world.turn_queue does brought sent_by took_by lost_by left_by
    turn_queue_fated k v w s [] e i h = idle_fated k 0 w h
    turn_queue_fated k v w s (m ∷ ms) e i h = within_fated v w (Turned k v ∷ []) (world.step_number script k) (Takes (world.tree_at script.vats v) script.depth m) s (record s { queue = ms }) e (from_queue v w s m ms e i h) h refl (plain_one (Turned k v) refl refl refl refl)

    turn_fated : (k v : ℕ) (w : World) (o : Option (Vat Name)) → slice_get w.vats v ≡ o → Fated x w → Reached (Fated x) (world.turn script k v w o)
    unfolding world.turn
    turn_fated k v w None e h = idle_fated k 0 w h
    turn_fated k v w (Some s) e h = turn_queue_fated k v w s s.queue e refl h

    arrives_fated : (k v to : ℕ) (w : World) (n : Note Name) (o : Option (Vat Name)) → slice_get w.vats to ≡ o → Holds x (of_note x n) w → Reached (Fated x) (world.arrives script k v to w n o)
    unfolding world.arrives does brought sent_by took_by lost_by left_by
    arrives_fated k v to w n None e h = idle_fated k (of_note x n) w h
    arrives_fated k v to w n (Some s) e h = within_fated to w (Carried k v to n (world.next_frame v to w.connections) ∷ []) (world.step_number script k) (Receives v (read_note (names_of s) n)) s s e
        (in_place (in_note (coming x) (read_note (names_of s) n)) to w s e (rw (note_brings (names_of s) n) h)) (more_hand (of_note x n) 0 w (omega arith) h) refl (plain_one (Carried k v to n (world.next_frame v to w.connections)) refl refl refl refl)

    carry_notes_fated : (k v to : ℕ) (w : World) (l : Link) (ns : List (Note Name)) → world.link_at v to w.links ≡ Some l → l.notes ≡ ns → Fated x w → Reached (Fated x) (world.carry_notes script k v to w ns)
    unfolding world.carry_notes
    carry_notes_fated k v to w l [] e i h = idle_fated k 0 w h
    carry_notes_fated k v to w l (n ∷ ns) e i h = arrives_fated k v to (record w { links = world.with_link (world.with_notes ns) v to w.links }) n (slice_get w.vats to) refl (from_link v to w l n ns e i h)

    carry_cut_fated : (k v to : ℕ) (w : World) (l : Link) (b : Bool) → world.link_at v to w.links ≡ Some l → Fated x w → Reached (Fated x) (pick b (world.idle script k w) (world.carry_notes script k v to w l.notes))
    carry_cut_fated k v to w l true e h = idle_fated k 0 w h
    carry_cut_fated k v to w l false e h = carry_notes_fated k v to w l l.notes e refl h

    carry_link_fated : (k v to : ℕ) (w : World) (o : Option Link) → world.link_at v to w.links ≡ o → Fated x w → Reached (Fated x) (world.carry_link script k v to w o)
    unfolding world.carry_link
    carry_link_fated k v to w None e h = idle_fated k 0 w h
    carry_link_fated k v to w (Some l) e h = carry_cut_fated k v to w l l.cut e h

    notice_fated : (k v to : ℕ) (w : World) (o : Option (Vat Name)) → slice_get w.vats v ≡ o → Fated x w → Reached (Fated x) (world.within v w (NoticedAt k v to ∷ []) (world.step_number script k) (notice (names script v) to) o)
    unfolding does world.within brought sent_by took_by lost_by left_by
    notice_fated k v to w None e h = h
    notice_fated k v to w (Some s) e h = within_fated v w (NoticedAt k v to ∷ []) (world.step_number script k) (Notices to) s s e (in_place 0 v w s e h) h refl (plain_one (NoticedAt k v to) refl refl refl refl)

    pub open_fated : (v : ℕ) (p : Program) (w : World) (o : Option (Vat Name)) → slice_get w.vats v ≡ o → Fated x w → Reached (Fated x) (world.within v w (Opens v ∷ []) v (opening (names script v) p.tree script.depth (Root v) (world.given script.vats p.knows)) o)
    unfolding does world.within brought sent_by took_by lost_by left_by
    open_fated v p w None e h = h
    open_fated v p w (Some s) e h = within_fated v w (Opens v ∷ []) v (Starts p.tree script.depth (Root v) (world.given script.vats p.knows)) s s e (in_place 0 v w s e h) h refl (plain_one (Opens v) refl refl refl refl)

    -- ---- cuts

    lost_notes : (ns : List (Note Name)) → total (lost_by x) (world.lost_by script ns) ≡ total (of_note x) ns
    unfolding world.lost_by total of_note in_note lost_by
    lost_notes [] = refl
    lost_notes (Deliver m n verb ys ∷ ns) = let rest = lost_notes ns in omega arith
    lost_notes (Open i n ∷ ns) = let rest = lost_notes ns in omega arith
    lost_notes (Ask p i n ∷ ns) = let rest = lost_notes ns in omega arith
    lost_notes (SettledTo n y ∷ ns) = let rest = lost_notes ns in omega arith
    lost_notes (Elsewhere n c ∷ ns) = let rest = lost_notes ns in omega arith
    lost_notes (Shorten n c i ∷ ns) = let rest = lost_notes ns in omega arith

    only_lost : (f : Event → ℕ) → ((m : Name) → f (LostCut m) ≡ 0) → (ns : List (Note Name)) → total f (world.lost_by script ns) ≡ 0
    unfolding world.lost_by total
    only_lost f z [] = refl
    only_lost f z (Deliver d n verb ys ∷ ns) = let here = z d.message in let rest = only_lost f z ns in omega arith
    only_lost f z (Open i n ∷ ns) = only_lost f z ns
    only_lost f z (Ask p i n ∷ ns) = only_lost f z ns
    only_lost f z (SettledTo n y ∷ ns) = only_lost f z ns
    only_lost f z (Elsewhere n c ∷ ns) = only_lost f z ns
    only_lost f z (Shorten n c i ∷ ns) = only_lost f z ns

    only_lost_on : (f : Event → ℕ) → ((m : Name) → f (LostCut m) ≡ 0) → (o : Option Link) → total f (world.lost_on script o) ≡ 0
    unfolding world.lost_on total
    only_lost_on f z None = refl
    only_lost_on f z (Some l) = only_lost f z l.notes

    -- what a link that is cut had is lost
    severed_loses : (v to : ℕ) (ls : List Link) (o : Option Link) → world.link_at v to ls ≡ o → total (on_link x) (world.with_link world.severed_link v to ls) + total (lost_by x) (world.lost_on script o) ≡ total (on_link x) ls
    unfolding world.lost_on world.severed_link on_link total
    severed_loses v to ls None e = let same = ap (total (on_link x)) (with_link_absent world.severed_link v to ls e) in omega arith
    severed_loses v to ls (Some l) e = let a = with_link_changes x world.severed_link v to ls l e in let b = lost_notes l.notes in omega arith

    pub cut_links : (v to : ℕ) (ls : List Link) → AllApart ls
        → total (on_link x) (world.with_link world.severed_link to v (world.with_link world.severed_link v to ls)) + total (lost_by x) (world.lost_on script (world.link_at v to ls)) + total (lost_by x) (world.lost_on script (world.link_at to v ls)) ≡ total (on_link x) ls
    cut_links v to ls h = let a = severed_loses v to ls (world.link_at v to ls) refl in
        let b = severed_loses to v (world.with_link world.severed_link v to ls) (world.link_at to v ls) (severed_back v to ls h) in omega arith

    pub cut_line : (v to k : ℕ) (ls : List Link) (f : Event → ℕ) → f (CutAt k v to) ≡ 0
        → total f (CutAt k v to ∷ (world.lost_on script (world.link_at v to ls) ++ world.lost_on script (world.link_at to v ls))) ≡ total f (world.lost_on script (world.link_at v to ls)) + total f (world.lost_on script (world.link_at to v ls))
    unfolding total
    cut_line v to k ls f z = let a = total_append f (world.lost_on script (world.link_at v to ls)) (world.lost_on script (world.link_at to v ls)) in omega arith

    severed_apart : (v to : ℕ) (ls : List Link) → AllApart ls → AllApart (world.with_link world.severed_link v to ls)
    unfolding world.severed_link
    severed_apart v to ls h = with_link_apart world.severed_link (λ l i. i) v to ls h

    cut_hand : (v to : ℕ) (w : World) → Fated x w
        → Holds x (0 + (total (lost_by x) (world.lost_on script (world.link_at v to w.links)) + total (lost_by x) (world.lost_on script (world.link_at to v w.links)))) (record w { links = world.with_link world.severed_link to v (world.with_link world.severed_link v to w.links) })
    unfolding places
    cut_hand v to w h = let k = h.kept in let a = cut_links v to w.links h.apart in
        record { kept = omega arith; unlisted = h.unlisted; fresh = h.fresh; apart = severed_apart to v (world.with_link world.severed_link v to w.links) (severed_apart v to w.links h.apart) }

    pub no_cut_line : (v to k : ℕ) (ls : List Link) (f : Event → ℕ) → f (CutAt k v to) ≡ 0 → ((m : Name) → f (LostCut m) ≡ 0)
        → total f (CutAt k v to ∷ (world.lost_on script (world.link_at v to ls) ++ world.lost_on script (world.link_at to v ls))) ≡ 0
    no_cut_line v to k ls f z y = let a = cut_line v to k ls f z in let b = only_lost_on f y (world.link_at v to ls) in let c = only_lost_on f y (world.link_at to v ls) in omega arith

    cut_fated : (k v to : ℕ) (w : World) → Fated x w → Reached (Fated x) (world.cut script k v to w)
    unfolding world.cut sent_by took_by lost_by left_by
    cut_fated k v to w h =
        let lost : ℕ = total (lost_by x) (world.lost_on script (world.link_at v to w.links)) + total (lost_by x) (world.lost_on script (world.link_at to v w.links)) in
        let told = cut_line v to k w.links (lost_by x) refl in
        line_added 0 lost (record w { links = world.with_link world.severed_link to v (world.with_link world.severed_link v to w.links) }) (CutAt k v to ∷ (world.lost_on script (world.link_at v to w.links) ++ world.lost_on script (world.link_at to v w.links)))
        (cut_hand v to w h) (no_cut_line v to k w.links (sent_by x) refl (λ m. refl)) (no_cut_line v to k w.links (took_by x) refl (λ m. refl)) (omega arith) (no_cut_line v to k w.links (left_by x) refl (λ m. refl))

    -- ---- runs

    pub step_fated : (entry : Entry) (k : ℕ) (w : World) → Fated x w → Reached (Fated x) (world.step script entry k w)
    unfolding world.step
    step_fated (Turn v) k w h = turn_fated k v w (slice_get w.vats v) refl h
    step_fated (Carry v to) k w h = carry_link_fated k v to w (world.link_at v to w.links) refl h
    step_fated (CutLink v to) k w h = cut_fated k v to w h
    step_fated (NoticeLink v to) k w h = notice_fated k v to w (slice_get w.vats v) refl h

    then_fated : (r : Run) (f : World → Run) → Reached (Fated x) r → ((w : World) → Fated x w → Reached (Fated x) (f w)) → Reached (Fated x) (world.then_goes r f)
    unfolding world.then_goes
    then_fated (Goes w) f h g = g w h
    then_fated (Stopped c k w) f h g = h

    pub steps_fated : (es : List Entry) (k : ℕ) (w : World) → Fated x w → Reached (Fated x) (world.steps_from script es k w)
    unfolding world.steps_from
    steps_fated [] k w h = h
    steps_fated (e ∷ es) k w h = then_fated (world.step script e k w) (world.steps_from script es (suc k)) (step_fated e k w h) (λ y i. steps_fated es (suc k) y i)

    pub opens_fated : (v : ℕ) (ps : List Program) (w : World) → Fated x w → Reached (Fated x) (world.open_from script v ps w)
    unfolding world.open_from world.open_vat
    opens_fated v [] w h = h
    opens_fated v (p ∷ ps) w h = then_fated (world.open_vat script v p w) (world.open_from script (suc v) ps) (open_fated v p w (slice_get w.vats v) refl h) (λ y i. opens_fated (suc v) ps y i)
