-- In every world of a run each message that was sent has a place, or was taken or lost.
use Rattle.std.proofs.Common.{◌≡◌, ℕ, zero, suc, ◌+◌, ◌≤◌, ◌<◌, Bool, true, false, List, [], ◌∷◌, ◌++◌, Option, Some, None, refl, sym, ap, inl, length, subst, arith}
use Rattle.std.specs.Prelude.{slice_get}
use Rattle.def_machine.specs.Values.{Name, Root}
use Rattle.def_machine.specs.State.{Message, Note, Vat, Done, Gives}
use Rattle.def_machine.specs.Arrive.{notice}
use Rattle.def_machine.specs.Eval.{opening}
use Rattle.law_machine.specs.Machine.Steps.{Step, Opens as Starts, Takes, Receives, Notices, does}
use Rattle.def_run.specs.World as world
use Rattle.def_run.specs.World.{Script, Program, Opens, Entry, Turn, Carry, CutLink, NoticeLink, Event, Turned, Idle, Carried, CutAt, NoticedAt, Link, World, Goes, names, names_of, read_note, readied}
use Rattle.law_fate.specs.Name.Names.{IsAmong}
use Rattle.law_fate.specs.Fates.Fate.{one, total, among, at_vat, of_note, on_link, places, sent_by, sent, took_by, takes, lost_by, losses, gone, put_out, account}
use Rattle.law_fate.proofs.Fates.RunCounts.{pick, total_append, total_put, with_link_changes, ends_told, sends_told, AllApart}
use Rattle.law_fate.proofs.Fates.RunAccount.{cut_links, cut_line, no_cut_line}
use Rattle.law_fate.specs.Fates.Steps.{Found, OfEachStep, Finds}
use Rattle.law_fate.specs.Fates.WholeFateRuns.{PutsToVats, StepPutsToVats}
use Rattle.law_fate.proofs.Fates.Links.{AllLinked, AllLead, linked_changed, linked_pushed, push_all_finds, lead_changed, lead_pushed, found_link, begin_linked, begin_lead}

-- what holds in every world of a run, with so many messages in hand: vats and links are those of the script, and what was sent is somewhere
pub record Counted (count : ℕ) (x : Name) (hand : ℕ) (w : World) : Type 0 where
  pub kept : sent x w.history ≤ places x w + hand + takes x w.history + losses x w.history
  pub vats : length w.vats ≡ count
  pub links : AllLinked count w.links
  pub leads : AllLead count w.links

some_world : (w y : World) → Goes w ≡ Goes y → w ≡ y
some_world w y e = cc

length_put : (v : ℕ) (t : Vat Name) (ss : List (Vat Name)) → length (world.put_at v t ss) ≡ length ss
unfolding world.put_at
length_put v t [] = refl
length_put zero t (s ∷ ss) = refl
length_put (suc v) t (s ∷ ss) = ap suc (length_put v t ss)

below_length : (v : ℕ) (s : Vat Name) (ss : List (Vat Name)) → slice_get ss v ≡ Some s → v < length ss
below_length v s [] e = cc
below_length zero s (r ∷ ss) e = omega arith
below_length (suc v) s (r ∷ ss) e = let l = below_length v s ss e in omega arith

some_below : (v : ℕ) (ss : List (Vat Name)) → v < length ss → slice_get ss v ≡ None → ⊥
some_below v [] l e = omega arith
some_below zero (s ∷ ss) l e = cc
some_below (suc v) (s ∷ ss) l e = some_below v ss (omega arith) e

first_of : (n : Note Name) (ns xs : List (Note Name)) → xs ≡ n ∷ ns → IsAmong n xs
first_of n ns xs e = subst (IsAmong n) (sym e) (inl refl)

module _ (script : Script) (x : Name) where
  abbrev count : ℕ
  count = length script.vats

  abbrev pub Kept : ℕ → World → Type 0
  Kept hand w = Counted count x hand w

  moved : (w y : World) → Kept 0 w → Goes w ≡ Goes y → Kept 0 y
  moved w y h e = rw (some_world w y e) at h

  -- lines added to the history
  line_added : (hand lost : ℕ) (w : World) (es : List Event) → Kept (hand + lost) w → total (sent_by x) es ≡ 0 → total (took_by x) es ≡ 0 → lost ≤ total (lost_by x) es → Kept hand (record w { history = w.history ++ es })
  unfolding places sent takes losses
  line_added hand lost w es h a b c =
      let k = h.kept in let i = total_append (sent_by x) w.history es in let j = total_append (took_by x) w.history es in let m = total_append (lost_by x) w.history es in
      record { kept = omega arith; vats = h.vats; links = h.links; leads = h.leads }

  -- what a step of vat v makes of the world
  stepped : (v : ℕ) (w : World) (head : List Event) (came : ℕ) (s q t : Vat Name) → slice_get w.vats v ≡ Some s → Kept came (record w { vats = world.put_at v q w.vats }) → total (sent_by x) head ≡ 0
      → Found (λ to. world.is_cut v to w.links) x came (readied w q) (Gives tt t) → PutsToVats count v (Gives tt t)
      → Kept 0 (record { fuel = t.fuel; drawn = t.drawn; vats = world.put_at v t w.vats; links = world.push_all v t.outbox w.links; connections = world.connections_after v t head w.connections; history = (w.history ++ head) ++ world.events_of w.links v t.happened })
  unfolding places sent takes losses account put_out gone at_vat readied
  stepped v w head came s q t e h p f g =
      let es : List Event = world.events_of w.links v t.happened in let before = h.kept in
      let at_q = total_put (at_vat x) v w.vats s q e in let at_t = total_put (at_vat x) v w.vats s t e in
      let long : length (world.put_at v q w.vats) ≡ count = h.vats in let same = length_put v q w.vats in let same_t = length_put v t w.vats in let low = below_length v s w.vats e in
      let pushed = push_all_finds x count v t.outbox w.links (λ to. world.is_cut v to w.links) (λ to. refl) h.links (omega arith) g in
      let ends = ends_told w.links v x t.happened in let sends = sends_told w.links v x t.happened in
      let a1 = total_append (sent_by x) (w.history ++ head) es in let a2 = total_append (sent_by x) w.history head in
      let b1 = total_append (took_by x) (w.history ++ head) es in let b2 = total_append (took_by x) w.history head in
      let c1 = total_append (lost_by x) (w.history ++ head) es in let c2 = total_append (lost_by x) w.history head in
      record { kept = omega arith; vats = omega arith; links = λ a b i j k. linked_pushed a b v t.outbox w.links (h.links a b i j k); leads = lead_pushed count v t.outbox w.links h.leads }

  put_back_kept : (v : ℕ) (w y : World) (head : List Event) (n came : ℕ) (s q : Vat Name) (d : Done Name (Unit {0})) → slice_get w.vats v ≡ Some s → Kept came (record w { vats = world.put_at v q w.vats }) → total (sent_by x) head ≡ 0
      → Found (λ to. world.is_cut v to w.links) x came (readied w q) d → PutsToVats count v d → world.put_back v w head n d ≡ Goes y → Kept 0 y
  unfolding world.put_back
  put_back_kept v w y head n came s q (Gives u t) e h p f g i = moved (record { fuel = t.fuel; drawn = t.drawn; vats = world.put_at v t w.vats; links = world.push_all v t.outbox w.links; connections = world.connections_after v t head w.connections; history = (w.history ++ head) ++ world.events_of w.links v t.happened }) y (stepped v w head came s q t e h p f g) i
  put_back_kept v w y head n came s q other e h p f g i = cc

  within_kept : (v : ℕ) (w y : World) (head : List Event) (n came : ℕ) (what : Step Name Name) (s q : Vat Name) → slice_get w.vats v ≡ Some s → Kept came (record w { vats = world.put_at v q w.vats }) → total (sent_by x) head ≡ 0
      → Found (λ to. world.is_cut v to w.links) x came (readied w q) (does (names script v) what (readied w q)) → PutsToVats count v (does (names script v) what (readied w q)) → world.within v w head n (does (names script v) what) (Some q) ≡ Goes y → Kept 0 y
  unfolding world.within
  within_kept v w y head n came what s q e h p f g i = put_back_kept v w y head n came s q (does (names script v) what (readied w q)) e h p f g i

  -- a vat in its own place
  in_place : (came v : ℕ) (w : World) (s : Vat Name) → slice_get w.vats v ≡ Some s → Kept came w → Kept came (record w { vats = world.put_at v s w.vats })
  unfolding places
  in_place came v w s e h = let k = h.kept in let a = total_put (at_vat x) v w.vats s s e in let b = length_put v s w.vats in let c = h.vats in record { kept = omega arith; vats = omega arith; links = h.links; leads = h.leads }

  from_queue : (v : ℕ) (w : World) (s : Vat Name) (m : Message Name) (ms : List (Message Name)) → slice_get w.vats v ≡ Some s → s.queue ≡ m ∷ ms → Kept 0 w → Kept (one m.id x) (record w { vats = world.put_at v (record s { queue = ms }) w.vats })
  unfolding places at_vat among
  from_queue v w s m ms e i h = let k = h.kept in let a = total_put (at_vat x) v w.vats s (record s { queue = ms }) e in let b = length_put v (record s { queue = ms }) w.vats in let d = h.vats in
      let c : among x s.queue ≡ one m.id x + among x ms = rw i refl in record { kept = omega arith; vats = omega arith; links = h.links; leads = h.leads }

  from_link : (v to : ℕ) (w : World) (l : Link) (n : Note Name) (ns : List (Note Name)) → world.link_at v to w.links ≡ Some l → l.notes ≡ n ∷ ns → Kept 0 w → Kept (of_note x n) (record w { links = world.with_link (world.with_notes ns) v to w.links })
  unfolding places world.with_notes world.is_link on_link total
  from_link v to w l n ns e i h = let k = h.kept in let a = with_link_changes x (world.with_notes ns) v to w.links l e in let c : total (of_note x) l.notes ≡ of_note x n + total (of_note x) ns = rw i refl in
      record { kept = omega arith; vats = h.vats; links = λ a b i j k. linked_changed (world.with_notes ns) (λ c d m. refl) a b v to w.links (h.links a b i j k); leads = lead_changed count (world.with_notes ns) (λ m. refl) v to w.links h.leads }

  no_sends : (e : Event) → sent_by x e ≡ 0 → total (sent_by x) (e ∷ []) ≡ 0
  unfolding total
  no_sends e h = omega arith

  -- ---- the entries of a schedule

  idle_kept : (k : ℕ) (w y : World) → Kept 0 w → world.idle script k w ≡ Goes y → Kept 0 y
  unfolding world.idle total sent_by took_by lost_by
  idle_kept k w y h e = moved (record w { history = w.history ++ Idle k ∷ [] }) y (line_added 0 0 w (Idle k ∷ []) h refl refl (omega arith)) e

  module _ (w : World) (finds : OfEachStep script w (Finds script)) (puts : OfEachStep script w (StepPutsToVats script)) (h : Kept 0 w) where
    turn_queue_kept : (k v : ℕ) (y : World) (s : Vat Name) (ms : List (Message Name)) → slice_get w.vats v ≡ Some s → s.queue ≡ ms → world.turn_queue script k v w s ms ≡ Goes y → Kept 0 y
    unfolding world.turn_queue does sent_by
    turn_queue_kept k v y s [] e i g = idle_kept k w y h g
    turn_queue_kept k v y s (m ∷ ms) e i g = let f = finds v s e in let p = puts v s e in
        within_kept v w y (Turned k v ∷ []) (world.step_number script k) (one m.id x) (Takes (world.tree_at script.vats v) script.depth m) s (record s { queue = ms }) e (from_queue v w s m ms e i h) (no_sends (Turned k v) refl)
        (f.1 m ms i (λ to. world.is_cut v to w.links) x) (p.1 m ms i) g

    turn_kept : (k v : ℕ) (y : World) (o : Option (Vat Name)) → slice_get w.vats v ≡ o → world.turn script k v w o ≡ Goes y → Kept 0 y
    unfolding world.turn
    turn_kept k v y None e g = idle_kept k w y h g
    turn_kept k v y (Some s) e g = turn_queue_kept k v y s s.queue e refl g

    notice_kept : (k v to : ℕ) (y : World) (o : Option (Vat Name)) → slice_get w.vats v ≡ o → world.within v w (NoticedAt k v to ∷ []) (world.step_number script k) (notice (names script v) to) o ≡ Goes y → Kept 0 y
    unfolding does world.within sent_by
    notice_kept k v to y None e g = cc
    notice_kept k v to y (Some s) e g = let f = finds v s e in let p = puts v s e in
        within_kept v w y (NoticedAt k v to ∷ []) (world.step_number script k) 0 (Notices to) s s e (in_place 0 v w s e h) (no_sends (NoticedAt k v to) refl) (f.3 to (λ u. world.is_cut v u w.links) x) (p.3 to) g

    pub open_kept : (v : ℕ) (p : Program) (y : World) (o : Option (Vat Name)) → slice_get script.vats v ≡ Some p → slice_get w.vats v ≡ o → world.within v w (Opens v ∷ []) v (opening (names script v) p.tree script.depth (Root v) (world.given script.vats p.knows)) o ≡ Goes y → Kept 0 y
    unfolding does world.within sent_by
    open_kept v p y None i e g = cc
    open_kept v p y (Some s) i e g = let f = finds v s e in let u = puts v s e in
        within_kept v w y (Opens v ∷ []) v 0 (Starts p.tree script.depth (Root v) (world.given script.vats p.knows)) s s e (in_place 0 v w s e h) (no_sends (Opens v) refl) (f.0 p i (λ to. world.is_cut v to w.links) x) (u.0 p i) g

    -- the links as they are once the note is taken off its link
    abbrev Off : ℕ → ℕ → List (Note Name) → World
    Off v to ns = record w { links = world.with_link (world.with_notes ns) v to w.links }

    no_vat : (to : ℕ) → slice_get w.vats to ≡ None → to < count → ⊥
    no_vat to e l = let c = h.vats in some_below to w.vats (omega arith) e

    arrives_kept : (k v to : ℕ) (y : World) (l : Link) (n : Note Name) (ns : List (Note Name)) (o : Option (Vat Name)) → world.link_at v to w.links ≡ Some l → (to < count) × IsAmong l w.links → l.notes ≡ n ∷ ns → slice_get w.vats to ≡ o → world.arrives script k v to (Off v to ns) n o ≡ Goes y → Kept 0 y
    unfolding world.arrives does sent_by readied
    arrives_kept k v to y l n ns None j m i e g = absurd (no_vat to e m.0)
    arrives_kept k v to y l n ns (Some s) j m i e g = let f = finds to s e in let p = puts to s e in
        within_kept to (Off v to ns) y (Carried k v to n (world.next_frame v to (Off v to ns).connections) ∷ []) (world.step_number script k) (of_note x n) (Receives v (read_note (names_of s) n)) s s e (in_place (of_note x n) to (Off v to ns) s e (from_link v to w l n ns j i h))
        (no_sends (Carried k v to n (world.next_frame v to (Off v to ns).connections)) refl) (f.2 v l n m.1 (first_of n ns l.notes i) (λ u. world.is_cut to u (Off v to ns).links) x) (p.2 v l n m.1 (first_of n ns l.notes i)) g

    carry_notes_kept : (k v to : ℕ) (y : World) (l : Link) (ns : List (Note Name)) → world.link_at v to w.links ≡ Some l → l.notes ≡ ns → world.carry_notes script k v to w ns ≡ Goes y → Kept 0 y
    unfolding world.carry_notes
    carry_notes_kept k v to y l [] j i g = idle_kept k w y h g
    carry_notes_kept k v to y l (n ∷ ns) j i g = arrives_kept k v to y l n ns (slice_get w.vats to) j (found_link count v to w.links l j h.leads) i refl g

    carry_cut_kept : (k v to : ℕ) (y : World) (l : Link) (b : Bool) → world.link_at v to w.links ≡ Some l → pick b (world.idle script k w) (world.carry_notes script k v to w l.notes) ≡ Goes y → Kept 0 y
    carry_cut_kept k v to y l true j g = idle_kept k w y h g
    carry_cut_kept k v to y l false j g = carry_notes_kept k v to y l l.notes j refl g

    carry_link_kept : (k v to : ℕ) (y : World) (o : Option Link) → world.link_at v to w.links ≡ o → world.carry_link script k v to w o ≡ Goes y → Kept 0 y
    unfolding world.carry_link
    carry_link_kept k v to y None j g = idle_kept k w y h g
    carry_link_kept k v to y (Some l) j g = carry_cut_kept k v to y l l.cut j g

    -- the notes of a link that is cut are lost
    cut_hand : (v to : ℕ) → AllApart w.links
        → Kept (0 + (total (lost_by x) (world.lost_on script (world.link_at v to w.links)) + total (lost_by x) (world.lost_on script (world.link_at to v w.links)))) (record w { links = world.with_link world.severed_link to v (world.with_link world.severed_link v to w.links) })
    unfolding places world.severed_link world.is_link
    cut_hand v to apart = let k = h.kept in let a = cut_links x script v to w.links apart in record {
      kept = omega arith;
      vats = h.vats;
      links = λ c d i j g. linked_changed world.severed_link (λ e f l. refl) c d to v (world.with_link world.severed_link v to w.links) (linked_changed world.severed_link (λ e f l. refl) c d v to w.links (h.links c d i j g));
      leads = lead_changed count world.severed_link (λ l. refl) to v (world.with_link world.severed_link v to w.links) (lead_changed count world.severed_link (λ l. refl) v to w.links h.leads);
    }

    cut_kept : (k v to : ℕ) (y : World) → AllApart w.links → world.cut script k v to w ≡ Goes y → Kept 0 y
    unfolding world.cut sent_by took_by lost_by
    cut_kept k v to y apart g =
        let lost : ℕ = total (lost_by x) (world.lost_on script (world.link_at v to w.links)) + total (lost_by x) (world.lost_on script (world.link_at to v w.links)) in
        let told = cut_line x script v to k w.links (lost_by x) refl in
        moved _ y (line_added 0 lost (record w { links = world.with_link world.severed_link to v (world.with_link world.severed_link v to w.links) }) (CutAt k v to ∷ (world.lost_on script (world.link_at v to w.links) ++ world.lost_on script (world.link_at to v w.links)))
        (cut_hand v to apart) (no_cut_line x script v to k w.links (sent_by x) refl (λ m. refl)) (no_cut_line x script v to k w.links (took_by x) refl (λ m. refl)) (omega arith)) g

    pub step_kept : (entry : Entry) (k : ℕ) (y : World) → AllApart w.links → world.step script entry k w ≡ Goes y → Kept 0 y
    unfolding world.step
    step_kept (Turn v) k y apart g = turn_kept k v y (slice_get w.vats v) refl g
    step_kept (Carry v to) k y apart g = carry_link_kept k v to y (world.link_at v to w.links) refl g
    step_kept (CutLink v to) k y apart g = cut_kept k v to y apart g
    step_kept (NoticeLink v to) k y apart g = notice_kept k v to y (slice_get w.vats v) refl g

  -- ---- the start

  fresh_length : (v : ℕ) (ps : List Program) → length (world.fresh_from script v ps) ≡ length ps
  unfolding world.fresh_from
  fresh_length v [] = refl
  fresh_length v (p ∷ ps) = ap suc (fresh_length (suc v) ps)

  pub begins_kept : Kept 0 (world.begins script)
  unfolding world.begins sent total
  begins_kept = record { kept = omega arith; vats = fresh_length zero script.vats; links = begin_linked script.vats; leads = begin_lead script.vats }
