-- In every world of a run carries and what a message weighs are no more than twice its sends.
use Rattle.std.proofs.Common.{◌≡◌, ℕ, zero, suc, ◌+◌, ◌≤◌, Bool, true, false, List, [], ◌∷◌, ◌++◌, Option, Some, None, refl, sym, ◌∙◌, arith, subst}
use Rattle.std.specs.Prelude.{slice_get}
use Rattle.def_machine.specs.Values.{Name, Root}
use Rattle.def_machine.specs.State.{Message, Note, Vat, Done, Gives}
use Rattle.def_machine.specs.Arrive.{notice}
use Rattle.def_machine.specs.Eval.{opening}
use Rattle.law_machine.specs.Machine.Steps.{Step, Opens as Starts, Takes, Receives, Notices, does}
use Rattle.def_run.specs.Draws.{draw_word}
use Rattle.def_run.specs.World as world
use Rattle.def_run.specs.World.{Script, Program, Opens, Entry, Turn, Carry, CutLink, NoticeLink, Event, Turned, Idle, Carried, CutAt, NoticedAt, Link, World, Run, Goes, Stopped, names, names_of, read_note, begins}
use Rattle.law_fate.specs.Fates.Fate.{total, sent_by, sent, sent_in, places, fates}
use Rattle.law_fate.specs.Fates.Lasting.{Each, NoteWell, StepComes}
use Rattle.law_fate.specs.Fates.FateRuns.{Reached}
use Rattle.law_fate.specs.Fates.Wellness.{WorldWell}
use Rattle.law_fate.proofs.Fates.RunCounts.{pick, total_append, total_put, sends_told}
use Rattle.law_fate.proofs.Fates.RunAccount.{no_cut_line}
use Rattle.law_fate.proofs.Fates.RunFates.{closing, none_vats, none_links, places_and_fates, each_sent_once}
use Rattle.law_fate.proofs.Fates.RunWell.{LinkWell, found_link, note_comes, step_well, open_well, begins_well, opens_well}
use Rattle.law_fate.specs.Fates.Carry.{carried_by, carries, weight, put_weight, load, vat_weight, world_weight}
use Rattle.law_fate.specs.Fates.Sound.{NoteSound, StepArrives}
use Rattle.law_fate.specs.Fates.CarryLaws.{Lightened, leaves, AfterLightened}
use Rattle.law_fate.specs.Fates.CarryRuns.{CarriesAndWeight, TwoCarriesAtMost, WorldSound, MessagesGoToHosts}
use Rattle.law_fate.proofs.Fates.StepsLight.{steps_lighten}
use Rattle.law_fate.proofs.Fates.WorldLight.{LinkSound, VatSound, note_arrives, note_pays, with_link_sound, push_all_sound, found_sound_link, push_all_weighs, sever_weighs, first_weighs, none_carried, fresh_weighs, links_from_weigh, links_from_sound, put_at_or, put_one, fresh_sound}

-- what holds in every world of a run, with so much in hand
pub record Borne (x : Name) (hand : ℕ) (w : World) : Type 0 where
  pub kept : carries x w.history + world_weight x w + hand ≤ sent x w.history + sent x w.history
  pub vats : (v : ℕ) (s : Vat Name) → slice_get w.vats v ≡ Some s → VatSound v s
  pub links : Each LinkSound w.links

module _ (x : Name) where
  more_hand : (hand less : ℕ) (w : World) → less ≤ hand → Borne x hand w → Borne x less w
  more_hand hand less w i h = let k = h.kept in record { kept = omega arith; vats = h.vats; links = h.links }

  -- lines that carry nothing, added to the history
  line_added : (hand : ℕ) (w : World) (es : List Event) → Borne x hand w → total (carried_by x) es ≡ 0 → Borne x hand (record w { history = w.history ++ es })
  unfolding carries sent world_weight
  line_added hand w es h a = let k = h.kept in let i = total_append (carried_by x) w.history es in let j = total_append (sent_by x) w.history es in record { kept = omega arith; vats = h.vats; links = h.links }

  -- what a step of vat v makes of the world
  stepped : (v : ℕ) (w : World) (head : List Event) (c hand : ℕ) (s q t : Vat Name) → slice_get w.vats v ≡ Some s → Borne x hand w → vat_weight x q ≤ vat_weight x s → total (carried_by x) head + c ≤ hand → Lightened v x c (world.readied w q) t
      → Borne x 0 (record { fuel = t.fuel; drawn = t.drawn; vats = world.put_at v t w.vats; links = world.push_all v t.outbox w.links; connections = world.connections_after v t head w.connections; history = (w.history ++ head) ++ world.events_of w.links v t.happened })
  unfolding carries sent world_weight load vat_weight put_weight sent_in world.readied
  stepped v w head c hand s q t e h less pays a =
      let es : List Event = world.events_of w.links v t.happened in
      let before = h.kept in let after = a.kept in let sound = a.sound in
      let at_t = total_put (vat_weight x) v w.vats s t e in
      let pushed = push_all_weighs x v t.outbox w.links in
      let sends = sends_told w.links v x t.happened in let carried = none_carried x w.links v t.happened in
      let a1 = total_append (sent_by x) (w.history ++ head) es in let a2 = total_append (sent_by x) w.history head in
      let b1 = total_append (carried_by x) (w.history ++ head) es in let b2 = total_append (carried_by x) w.history head in
      record {
        kept = omega arith;
        vats = λ u r i. put_one v u t r (slice_get w.vats u) (record { same = sound.same; well = sound.well; names = sound.names; own = sound.own; notes = tt }) (h.vats u r) (put_at_or v t w.vats u r i);
        links = push_all_sound v t.outbox w.links sound.notes h.links;
      }

  put_back_borne : (v : ℕ) (w : World) (head : List Event) (n c hand : ℕ) (s q : Vat Name) (d : Done Name (Unit {0})) → slice_get w.vats v ≡ Some s → Borne x hand w → vat_weight x q ≤ vat_weight x s → total (carried_by x) head + c ≤ hand
      → AfterLightened v x c (world.readied w q) d → Reached (Borne x 0) (world.put_back v w head n d)
  unfolding world.put_back
  put_back_borne v w head n c hand s q (Gives u t) e h less pays a = stepped v w head c hand s q t e h less pays a
  put_back_borne v w head n c hand s q other e h less pays a = more_hand hand 0 w (omega arith) h

  -- the first note of a link in hand
  from_link : (v to : ℕ) (w : World) (l : Link) (n : Note Name) (ns : List (Note Name)) → world.link_at v to w.links ≡ Some l → l.notes ≡ n ∷ ns → Each (NoteSound v to) (n ∷ ns) → Borne x 0 w
      → Borne x (weight x n) (record w { links = world.with_link (world.with_notes ns) v to w.links })
  unfolding world_weight world.with_notes
  from_link v to w l n ns e i sound h =
      let k = h.kept in let a = first_weighs x v to w.links l n ns e i in
      record { kept = omega arith; vats = h.vats; links = with_link_sound (world.with_notes ns) v to (λ l f g k. (k.0, subst (λ a. Each (NoteSound a l.to) ns) (sym f) (subst (λ a. Each (NoteSound v a) ns) (sym g) sound.1))) w.links h.links }

  severed_sound : (v to : ℕ) (ls : List Link) → Each LinkSound ls → Each LinkSound (world.with_link world.severed_link v to ls)
  unfolding world.severed_link
  severed_sound v to ls h = with_link_sound world.severed_link v to (λ l f g k. (k.0, tt)) ls h

  -- two links that are cut
  cut_links : (v to : ℕ) (w : World) → Borne x 0 w → Borne x 0 (record w { links = world.with_link world.severed_link to v (world.with_link world.severed_link v to w.links) })
  unfolding world_weight
  cut_links v to w h = let k = h.kept in let a = sever_weighs x v to w.links in let b = sever_weighs x to v (world.with_link world.severed_link v to w.links) in
      record { kept = omega arith; vats = h.vats; links = severed_sound to v (world.with_link world.severed_link v to w.links) (severed_sound v to w.links h.links) }

  module _ (script : Script) where
    within_borne : (v : ℕ) (w : World) (head : List Event) (n hand : ℕ) (what : Step Name Name) (s q : Vat Name) → slice_get w.vats v ≡ Some s → Borne x hand w → VatSound v q → vat_weight x q ≤ vat_weight x s → StepComes what → StepArrives v what
        → total (carried_by x) head + leaves x what ≤ hand → Reached (Borne x 0) (world.within v w head n (does (names script v) what) (Some q))
    unfolding world.within names world.readied
    within_borne v w head n hand what s q e h sound less g a pays = put_back_borne v w head n (leaves x what) hand s q _ e h less pays (steps_lighten (draw_word script.key) v what (world.readied w q) x sound g a)

    idle_borne : (k hand : ℕ) (w : World) → Borne x hand w → Reached (Borne x 0) (world.idle script k w)
    unfolding world.idle total carried_by
    idle_borne k hand w h = line_added 0 w (Idle k ∷ []) (more_hand hand 0 w (omega arith) h) refl

    turn_queue_borne : (k v : ℕ) (w : World) (s : Vat Name) (ms : List (Message Name)) → slice_get w.vats v ≡ Some s → Borne x 0 w → Reached (Borne x 0) (world.turn_queue script k v w s ms)
    unfolding world.turn_queue does leaves carried_by total vat_weight
    turn_queue_borne k v w s [] e h = idle_borne k 0 w h
    turn_queue_borne k v w s (m ∷ ms) e h = let sound = h.vats v s e in
        within_borne v w (Turned k v ∷ []) (world.step_number script k) 0 (Takes (world.tree_at script.vats v) script.depth m) s (record s { queue = ms }) e h sound (omega arith) tt tt (omega arith)

    turn_borne : (k v : ℕ) (w : World) (o : Option (Vat Name)) → slice_get w.vats v ≡ o → Borne x 0 w → Reached (Borne x 0) (world.turn script k v w o)
    unfolding world.turn
    turn_borne k v w None e h = idle_borne k 0 w h
    turn_borne k v w (Some s) e h = turn_queue_borne k v w s s.queue e h

    arrives_borne : (k v to : ℕ) (w : World) (n : Note Name) (o : Option (Vat Name)) → slice_get w.vats to ≡ o → (v ≡ to → ⊥) → NoteSound v to n → NoteWell n → Borne x (weight x n) w → Reached (Borne x 0) (world.arrives script k v to w n o)
    unfolding world.arrives does leaves carried_by total
    arrives_borne k v to w n None e apart g well h = idle_borne k (weight x n) w h
    arrives_borne k v to w n (Some s) e apart g well h = let pays = note_pays x (names_of s) n in
        within_borne to w (Carried k v to n (world.next_frame v to w.connections) ∷ []) (world.step_number script k) (weight x n) (Receives v (read_note (names_of s) n)) s s e h (h.vats to s e) (omega arith) (note_comes (names_of s) n well) (note_arrives (names_of s) v to n apart g) (omega arith)

    carry_notes_borne : (k v to : ℕ) (w : World) (l : Link) (ns : List (Note Name)) → world.link_at v to w.links ≡ Some l → l.notes ≡ ns → (v ≡ to → ⊥) → Each (NoteSound v to) ns → Each NoteWell ns → Borne x 0 w → Reached (Borne x 0) (world.carry_notes script k v to w ns)
    unfolding world.carry_notes
    carry_notes_borne k v to w l [] e i apart g well h = idle_borne k 0 w h
    carry_notes_borne k v to w l (n ∷ ns) e i apart g well h = arrives_borne k v to (record w { links = world.with_link (world.with_notes ns) v to w.links }) n (slice_get w.vats to) refl apart g.0 well.0 (from_link v to w l n ns e i g h)

    carry_cut_borne : (k v to : ℕ) (w : World) (l : Link) (b : Bool) → world.link_at v to w.links ≡ Some l → LinkSound l × (l.from ≡ v) × (l.to ≡ to) → LinkWell l → Borne x 0 w → Reached (Borne x 0) (pick b (world.idle script k w) (world.carry_notes script k v to w l.notes))
    carry_cut_borne k v to w l true e g well h = idle_borne k 0 w h
    carry_cut_borne k v to w l false e g well h = let sound = g.0 in
        carry_notes_borne k v to w l l.notes e refl (λ i. sound.0 (g.1 ∙ i ∙ sym g.2)) (subst (λ a. Each (NoteSound v a) l.notes) g.2 (subst (λ a. Each (NoteSound a l.to) l.notes) g.1 sound.1)) well h

    carry_link_borne : (k v to : ℕ) (w : World) (o : Option Link) → world.link_at v to w.links ≡ o → WorldWell w → Borne x 0 w → Reached (Borne x 0) (world.carry_link script k v to w o)
    unfolding world.carry_link
    carry_link_borne k v to w None e well h = idle_borne k 0 w h
    carry_link_borne k v to w (Some l) e well h = carry_cut_borne k v to w l l.cut e (found_sound_link v to w.links l e h.links) (found_link v to w.links l e well.links) h

    cut_borne : (k v to : ℕ) (w : World) → Borne x 0 w → Reached (Borne x 0) (world.cut script k v to w)
    unfolding world.cut carried_by
    cut_borne k v to w h =
        line_added 0 (record w { links = world.with_link world.severed_link to v (world.with_link world.severed_link v to w.links) }) (CutAt k v to ∷ (world.lost_on script (world.link_at v to w.links) ++ world.lost_on script (world.link_at to v w.links)))
        (cut_links v to w h) (no_cut_line x script v to k w.links (carried_by x) refl (λ m. refl))

    notice_borne : (k v to : ℕ) (w : World) (o : Option (Vat Name)) → slice_get w.vats v ≡ o → Borne x 0 w → Reached (Borne x 0) (world.within v w (NoticedAt k v to ∷ []) (world.step_number script k) (notice (names script v) to) o)
    unfolding does world.within leaves carried_by total
    notice_borne k v to w None e h = h
    notice_borne k v to w (Some s) e h = within_borne v w (NoticedAt k v to ∷ []) (world.step_number script k) 0 (Notices to) s s e h (h.vats v s e) (omega arith) tt tt (omega arith)

    open_borne : (v : ℕ) (p : Program) (w : World) (o : Option (Vat Name)) → slice_get w.vats v ≡ o → Borne x 0 w → Reached (Borne x 0) (world.within v w (Opens v ∷ []) v (opening (names script v) p.tree script.depth (Root v) (world.given script.vats p.knows)) o)
    unfolding does world.within leaves carried_by total
    open_borne v p w None e h = h
    open_borne v p w (Some s) e h = within_borne v w (Opens v ∷ []) v 0 (Starts p.tree script.depth (Root v) (world.given script.vats p.knows)) s s e h (h.vats v s e) (omega arith) tt tt (omega arith)

    -- ---- runs

    step_borne : (entry : Entry) (k : ℕ) (w : World) → WorldWell w → Borne x 0 w → Reached (Borne x 0) (world.step script entry k w)
    unfolding world.step
    step_borne (Turn v) k w well h = turn_borne k v w (slice_get w.vats v) refl h
    step_borne (Carry v to) k w well h = carry_link_borne k v to w (world.link_at v to w.links) refl well h
    step_borne (CutLink v to) k w well h = cut_borne k v to w h
    step_borne (NoticeLink v to) k w well h = notice_borne k v to w (slice_get w.vats v) refl h

    then_borne : (r : Run) (f : World → Run) → Reached WorldWell r → Reached (Borne x 0) r → ((w : World) → WorldWell w → Borne x 0 w → Reached (Borne x 0) (f w)) → Reached (Borne x 0) (world.then_goes r f)
    unfolding world.then_goes
    then_borne (Goes w) f well h g = g w well h
    then_borne (Stopped c k w) f well h g = h

    steps_borne : (es : List Entry) (k : ℕ) (w : World) → WorldWell w → Borne x 0 w → Reached (Borne x 0) (world.steps_from script es k w)
    unfolding world.steps_from
    steps_borne [] k w well h = h
    steps_borne (e ∷ es) k w well h = then_borne (world.step script e k w) (world.steps_from script es (suc k)) (step_well script e k w well) (step_borne e k w well h) (λ y wy i. steps_borne es (suc k) y wy i)

    opens_borne : (v : ℕ) (ps : List Program) (w : World) → WorldWell w → Borne x 0 w → Reached (Borne x 0) (world.open_from script v ps w)
    unfolding world.open_from world.open_vat
    opens_borne v [] w well h = h
    opens_borne v (p ∷ ps) w well h = then_borne (world.open_vat script v p w) (world.open_from script (suc v) ps) (open_well script v p w (slice_get w.vats v) refl well) (open_borne v p w (slice_get w.vats v) refl h) (λ y wy i. opens_borne (suc v) ps y wy i)

    from_zero : (v : ℕ) (s : Vat Name) → VatSound (0 + v) s → VatSound v s
    from_zero v s h = let i : 0 + v ≡ v = omega arith in subst (λ a. VatSound a s) i h

    begins_borne : Borne x 0 (begins script)
    unfolding begins carries sent world_weight total
    begins_borne = let vats = fresh_weighs x script zero script.vats in let links = links_from_weigh x script.vats zero script.vats in
        record { kept = omega arith; vats = λ v s e. from_zero v s (fresh_sound script zero script.vats v s e); links = links_from_sound script.vats zero script.vats }

    -- ---- the closing list, and the whole run

    abbrev Doubled : World → Type 0
    Doubled w = carries x w.history ≤ sent x w.history + sent x w.history

    borne_doubled : (w : World) → Borne x 0 w → Doubled w
    borne_doubled w h = let k = h.kept in omega arith

    close_doubled : (w : World) → Borne x 0 w → Reached Doubled (world.close script w)
    unfolding world.close carries sent carried_by sent_by
    close_doubled w h = let k = borne_doubled w h in
        let a = closing x script (carried_by x) refl w in let b = closing x script (sent_by x) refl w in
        let c = none_vats x script (carried_by x) (λ v m. refl) (λ v n m. refl) (λ v n m. refl) (λ v u n. refl) w.vats in let d = none_links x script (carried_by x) (λ v m. refl) (λ v n m. refl) (λ v n m. refl) (λ v u n. refl) w.links in omega arith

    reached_then : (P Q : World → Type 0) → ((w : World) → P w → Q w) → (r : Run) (f : World → Run) → Reached P r → ((w : World) → P w → Reached Q (f w)) → Reached Q (world.then_goes r f)
    unfolding world.then_goes
    reached_then P Q i (Goes w) f h g = g w h
    reached_then P Q i (Stopped c k w) f h g = i w h

    both : (P Q S : World → Type 0) → ((w : World) → P w → Q w → S w) → (r : Run) → Reached P r → Reached Q r → Reached S r
    both P Q S f (Goes w) h k = f w h k
    both P Q S f (Stopped c n w) h k = f w h k

    abbrev WellBorne : World → Type 0
    WellBorne w = WorldWell w × Borne x 0 w

    opened : Reached WellBorne (world.open_from script zero script.vats (begins script))
    opened = let well = begins_well script in both WorldWell (Borne x 0) WellBorne (λ w h k. (h, k)) _ (opens_well script zero script.vats (begins script) well) (opens_borne zero script.vats (begins script) well begins_borne)

    run_doubled : Reached Doubled (world.run script)
    unfolding world.run
    run_doubled = reached_then WellBorne Doubled (λ w h. borne_doubled w h.1) (world.open_from script zero script.vats (begins script)) _ opened
        (λ w h. reached_then (Borne x 0) Doubled borne_doubled (world.steps_from script script.schedule 1 w) (world.close script) (steps_borne script.schedule 1 w h.0 h.1) close_doubled)

    goes_borne : (r : Run) (w : World) → r ≡ Goes w → Reached WellBorne r → WellBorne w
    goes_borne (Goes y) w e h = let same : y ≡ w = cc in rw same at h
    goes_borne (Stopped c k y) w e h = cc

    abbrev Counted : World → Type 0
    Counted w = (places x w + fates x w.history ≤ sent x w.history) × (sent x w.history ≤ 1)

    abbrev Bounded : World → Type 0
    Bounded w = (carries x w.history + world_weight x w ≤ sent x w.history + sent x w.history) × (sent x w.history ≤ 1)

    bounded : (w : World) → Borne x 0 w → Counted w → Bounded w
    bounded w h k = let a = h.kept in (omega arith, k.1)

    twice : (w : World) → Bounded w → carries x w.history ≤ 2
    twice w h = let a = h.0 in let b = h.1 in omega arith

    twice_once : (w : World) → Doubled w → sent x w.history ≤ 1 → carries x w.history ≤ 2
    twice_once w h k = omega arith

pub carries_and_weight : CarriesAndWeight
carries_and_weight x script = let counted = places_and_fates x script in (
  λ ps. both x script (Borne x 0) (Counted x script) (Bounded x script) (bounded x script) (world.open_from script zero ps (begins script)) (opens_borne x script zero ps (begins script) (begins_well script) (begins_borne x script)) (counted.0 ps),
  λ w es k e. let at = goes_borne x script (world.open_from script zero script.vats (begins script)) w e (opened x script) in
      both x script (Borne x 0) (Counted x script) (Bounded x script) (bounded x script) (world.steps_from script es k w) (steps_borne x script es k w at.0 at.1) (counted.1 w es k e),
)

reached_map : (P Q : World → Type 0) → ((w : World) → P w → Q w) → (r : Run) → Reached P r → Reached Q r
reached_map P Q i (Goes w) h = i w h
reached_map P Q i (Stopped c k w) h = i w h

pub two_carries_at_most : TwoCarriesAtMost
two_carries_at_most x = (
  λ script. let all = carries_and_weight x script in (
    λ ps. reached_map (Bounded x script) (λ w. carries x w.history ≤ 2) (twice x script) _ (all.0 ps),
    λ w es k e. reached_map (Bounded x script) (λ w. carries x w.history ≤ 2) (twice x script) _ (all.1 w es k e),
  ),
  λ script. both x script (Doubled x script) (λ w. sent x w.history ≤ 1) (λ w. carries x w.history ≤ 2) (twice_once x script) (world.run script) (run_doubled x script) (each_sent_once x script),
)

notes_sound : (ls : List Link) → Each LinkSound ls → Each (λ (l : Link). Each (NoteSound l.from l.to) l.notes) ls
notes_sound [] h = tt
notes_sound (l ∷ ls) h = let here = h.0 in (here.1, notes_sound ls h.1)

borne_sound : (x : Name) (w : World) → Borne x 0 w → WorldSound w
borne_sound x w h = record { vats = h.vats; links = notes_sound w.links h.links }

pub messages_go_to_hosts : MessagesGoToHosts
messages_go_to_hosts script = let x : Name = Root 0 in (
  λ ps. reached_map (Borne x 0) WorldSound (borne_sound x) (world.open_from script zero ps (begins script)) (opens_borne x script zero ps (begins script) (begins_well script) (begins_borne x script)),
  λ w es k e. let at = goes_borne x script (world.open_from script zero script.vats (begins script)) w e (opened x script) in
      reached_map (Borne x 0) WorldSound (borne_sound x) (world.steps_from script es k w) (steps_borne x script es k w at.0 at.1),
)
