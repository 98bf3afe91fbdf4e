-- In every world of a run in which notices stand behind their cuts, gifts of others follow the asking, and a vat's own stand.
use Rattle.std.proofs.Common.{◌≡◌, ℕ, zero, suc, ◌+◌, false, List, [], ◌∷◌, ◌++◌, Option, Some, None, refl, sym, ◌∙◌, length, arith, subst, append_assoc, append-nil}
use Rattle.std.specs.Prelude.{slice_get}
use Rattle.def_machine.specs.Values.{Name, Root, Gift}
use Rattle.def_machine.specs.State.{Note, Vat, Done, Gives}
use Rattle.def_machine.specs.Eval.{opening}
use Rattle.law_machine.specs.Machine.Steps.{Step, Opens as Starts, Receives, does}
use Rattle.def_run.specs.World as world
use Rattle.def_run.specs.World.{Script, Program, Opens, Entry, Turn, Carry, CutLink, NoticeLink, Event, Link, World, Run, Goes as Going, Stopped, names, names_of, read_note, put_at, push_all, with_link, with_notes, severed_link, link_at}
use Rattle.law_fate.specs.Name.Names.{IsAmong, names_in}
use Rattle.law_fate.specs.Name.Runs.{KnowsOnce}
use Rattle.law_fate.proofs.Name.Among.{length_end}
use Rattle.law_reference.specs.Reference.Cuts.{NoticesFollow, NoticesFollowCuts}
use Rattle.law_reference.proofs.Reference.NoticedRuns.{noticed_links_cut}
use Rattle.law_reference.proofs.Reference.Follow.{NotesKnown}
use Rattle.law_reference.proofs.Reference.FollowRuns.{taken_known, not_at_first}
use Rattle.law_reference.proofs.Reference.LegRuns.{Before, stands_of}
use Rattle.law_reference.proofs.Reference.LegMoves.{LegsOf, legs_on, begins_legs, opened_before, stepped_before}
use Rattle.law_reference.proofs.Reference.Moves.{Moved, Still, Severs, Drops, Steps, Arrives, IsAlone, Does, waiting, entry_moves, opens_end, steps_end, get_mid, going_is, opened_hold, stepped_hold}
use Rattle.law_reference.proofs.Reference.GiftLaws.{fits_opened, fits_stepped}
use Rattle.law_reference.proofs.Reference.AskMoves.{goes_owned, goes_follow, cut_follow, stepped_follow, none_follow, taken_follow}
use Rattle.law_reference.proofs.Reference.AskRuns.{NoticedCut, Past, Holds, alone_held, held_first, stays, noticed_stays, same_noticed, asks_stand, note_first}

module _ (script : Script) where
  -- a step that no note begins
  alone_on : (w y : World) (v : ℕ) (s q t : Vat Name) (what : Step Name Name) → Past script w → IsAlone what → Does script w v s q t what → y.vats ≡ put_at v t w.vats → y.links ≡ push_all v t.outbox w.links → Holds w → Holds y
  alone_on w y v s q t what past o d e f h = let b = past.0 in let stands = stands_of script w b in let notes = b.holds in let stay = stays script w v s q t what d in let noticed = noticed_stays script w v s q t what (same_noticed script w v s q t what d) d in
      let follow = stepped_follow w.vats w.links v s t d.there stay h.1 in
      let first : (g i : ℕ) (r : Vat Name) → slice_get (put_at v t w.vats) g ≡ Some r → IsAmong (Gift g i) (names_in t.known) → _ = λ g i r at a. held_first script w.vats v s t d.there g i r at (alone_held script w v s d.there stands q t what o d g i) a in
      rw (e, f) (goes_owned w.vats v s t d.there stay noticed w.links notes.0 h.0 follow first, goes_follow w.vats v s t d.there stay noticed w.links notes.0 h.0 follow first)

  -- a note that arrives
  arrives_on : (w y : World) (a v : ℕ) (s t : Vat Name) (n : Note Name) (ns : List (Note Name)) (l : Link) → Past script w → NoticedCut w → link_at a v w.links ≡ Some l → l.cut ≡ false → l.notes ≡ n ∷ ns → Does script w v s s t (Receives a (read_note (names_of s) n))
      → y.vats ≡ put_at v t w.vats → y.links ≡ push_all v t.outbox (with_link (with_notes ns) a v w.links) → Holds w → Holds y
  arrives_on w y a v s t n ns l past sure at cut notes d e f h = let b = past.0 in let known = b.holds in let stay = stays script w v s s t (Receives a (read_note (names_of s) n)) d in let noticed = noticed_stays script w v s s t (Receives a (read_note (names_of s) n)) refl d in
      let taken : List Link = with_link (with_notes ns) a v w.links in
      let follow = taken_follow w.vats w.links a v n ns l at notes s t d.there stay (asks_stand script w a v s t n d) h.1 in
      let first = note_first script w a v s t n ns l past at cut notes d sure h in
      let left : NotesKnown w.vats taken = taken_known script w.vats w.links a v n ns l at notes known.0 in
      rw (e, f) (goes_owned w.vats v s t d.there stay noticed taken left h.0 follow first, goes_follow w.vats v s t d.there stay noticed taken left h.0 follow first)

  holds_on : (w y : World) → Past script w → NoticedCut w → Moved script w y → Holds w → Holds y
  holds_on w y past sure (Still e f d) h = rw (e, f) h
  holds_on w y past sure (Severs a b e f d) h = rw (e, f) (h.0, cut_follow w.vats (with_link severed_link a b w.links) b a (cut_follow w.vats w.links a b h.1))
  holds_on w y past sure (Drops a v n ns l at notes none e f d) h = rw (e, f) (h.0, none_follow w.vats w.links a v n ns l at notes none h.1)
  holds_on w y past sure (Steps v s q t what o d e f g first fresh) h = alone_on w y v s q t what past o d e f h
  holds_on w y past sure (Arrives a v s t n ns l at cut notes d e f g first fresh) h = arrives_on w y a v s t n ns l past sure at cut notes d e f h

  -- ---- opening turns

  put_on : (w y : World) (v : ℕ) (head : List Event) (k : ℕ) (s : Vat Name) (what : Step Name Name) (d : Done Name (Unit {0})) → Past script w → IsAlone what → ((t : Vat Name) → d ≡ Gives tt t → Does script w v s s t what) → world.put_back v w head k d ≡ Going y → Holds w → Holds y
  unfolding world.put_back
  put_on w y v head k s what (Gives u t) past o f e h = let x : World = record { fuel = t.fuel; drawn = t.drawn; vats = put_at v t w.vats; links = push_all v t.outbox w.links; connections = world.connections_after v t head w.connections; history = w.history ++ head ++ world.events_of w.links v t.happened } in
      subst (λ (z : World). Holds z) (going_is x y e) (alone_on w x v s s t what past o (f t refl) refl refl h)
  put_on w y v head k s what other past o f e h = cc

  open_at : (v : ℕ) (p : Program) (w y : World) → Past script w → slice_get script.vats v ≡ Some p → (o : Option (Vat Name)) → slice_get w.vats v ≡ o
      → world.within v w (Opens v ∷ []) v (opening (names script v) p.tree script.depth (Root v) (world.given script.vats p.knows)) o ≡ Going y → Holds w → Holds y
  unfolding world.within does waiting
  open_at v p w y past t None q e h = cc
  open_at v p w y past t (Some s) q e h = put_on w y v (Opens v ∷ []) v s (Starts p.tree script.depth (Root v) (world.given script.vats p.knows)) _ past tt
      (λ r f. record { there = q; number = refl; known = refl; promises = refl; messages = refl; gifts = refl; waits = λ x. omega arith; begins = (p, t, refl, refl, refl); gives = f }) e h

  opening_on : (v : ℕ) (p : Program) (w y : World) → Past script w → slice_get script.vats v ≡ Some p → world.open_vat script v p w ≡ Going y → Holds w → Holds y
  unfolding world.open_vat
  opening_on v p w y past t e h = open_at v p w y past t (slice_get w.vats v) refl e h

  -- ---- the start

  not_root : (g i x : ℕ) → Gift g i ≡ Root x → ⊥
  not_root g i x e = cc

  begins_holds : Holds (world.begins script)
  unfolding world.begins
  begins_holds = (λ v i s e a. absurd (not_at_first script (Gift v i) (λ x j. not_root v i x j) zero script.vats v s e a), λ u g i s r e f k. absurd (not_at_first script (Gift g i) (λ x j. not_root g i x j) zero script.vats u s e k))

  -- ---- entries, of which those before stand

  pub notices_front : (done front es : List Entry) → NoticesFollow done (front ++ es) → NoticesFollow done front
  notices_front done [] es h = tt
  notices_front done (NoticeLink v w ∷ front) es h = (h.0, h.1, notices_front (NoticeLink v w ∷ done) front es h.2)
  notices_front done (Turn v ∷ front) es h = notices_front (Turn v ∷ done) front es h
  notices_front done (Carry v w ∷ front) es h = notices_front (Carry v w ∷ done) front es h
  notices_front done (CutLink v w ∷ front) es h = notices_front (CutLink v w ∷ done) front es h

  module _ (once : KnowsOnce script) where
    opened_legs : (ps rest : List Program) (w : World) → script.vats ≡ ps ++ rest → world.open_from script zero ps (world.begins script) ≡ Going w → LegsOf w
    opened_legs = opened_hold script (Before script) (opened_before script once) (stepped_before script once) (λ w b. stands_of script w b) LegsOf (legs_on script) (begins_legs script)

    stepped_legs : (w x : World) (es : List Entry) (k : ℕ) → world.open_from script zero script.vats (world.begins script) ≡ Going w → world.steps_from script es k w ≡ Going x → LegsOf x
    stepped_legs = stepped_hold script (Before script) (opened_before script once) (stepped_before script once) (λ w b. stands_of script w b) LegsOf (legs_on script) (begins_legs script)

    pub opened_past : (ps rest : List Program) (w : World) → script.vats ≡ ps ++ rest → world.open_from script zero ps (world.begins script) ≡ Going w → Past script w
    opened_past ps rest w i e = (opened_before script once ps rest w i e, opened_legs ps rest w i e, fits_opened script ps w e)

    pub stepped_past : (w x : World) (es : List Entry) (k : ℕ) → world.open_from script zero script.vats (world.begins script) ≡ Going w → world.steps_from script es k w ≡ Going x → Past script x
    stepped_past w x es k e i = (stepped_before script once w x es k e i, stepped_legs w x es k e i, fits_stepped script w x es k e i)

    then_holds : (x : World) (r : Run) (f : World → Run) → ((y : World) → r ≡ Going y → f y ≡ Going x → Holds x) → world.then_goes r f ≡ Going x → Holds x
    unfolding world.then_goes
    then_holds x (Going y) f b e = b y refl e
    then_holds x (Stopped c n y) f b e = cc

    opens_hold : (ds ps rest : List Program) (w x : World) → script.vats ≡ ds ++ (ps ++ rest) → world.open_from script zero ds (world.begins script) ≡ Going w → Holds w → world.open_from script (length ds) ps w ≡ Going x → Holds x
    unfolding world.open_from
    opens_hold ds [] rest w x i d h e = rw (going_is w x e) at h
    opens_hold ds (p ∷ ps) rest w x i d h e = then_holds x (world.open_vat script (length ds) p w) (world.open_from script (suc (length ds)) ps)
        (λ y j f. let n : 0 + length ds ≡ length ds = omega arith in let done : world.open_from script zero (ds ++ p ∷ []) (world.begins script) ≡ Going y = opens_end script ds p zero (world.begins script) w y d (rw (sym n) at j) in
        let split : script.vats ≡ (ds ++ p ∷ []) ++ (ps ++ rest) = i ∙ sym (append_assoc ds (p ∷ []) (ps ++ rest)) in
        opens_hold (ds ++ p ∷ []) ps rest y x split done (opening_on (length ds) p w y (opened_past ds (p ∷ (ps ++ rest)) w i d) (rw (sym i) at (get_mid ds p (ps ++ rest))) j h) (rw (sym (length_end ds p)) at f)) e

    pub opened_holds : (ps rest : List Program) (w : World) → script.vats ≡ ps ++ rest → world.open_from script zero ps (world.begins script) ≡ Going w → Holds w
    unfolding world.open_from
    opened_holds ps rest w i e = opens_hold [] ps rest (world.begins script) w i refl begins_holds e

    pub cuts_noticed : (w0 w : World) (ds : List Entry) (k0 : ℕ) → NoticesFollowCuts ds → world.open_from script zero script.vats (world.begins script) ≡ Going w0 → world.steps_from script ds k0 w0 ≡ Going w → NoticedCut w
    cuts_noticed w0 w ds k0 f o d v s e u i = (noticed_links_cut script once w0 w ds k0 f o d v s e u i).1

    steps_hold : (w0 : World) (k0 : ℕ) → world.open_from script zero script.vats (world.begins script) ≡ Going w0 → (ds es : List Entry) (k : ℕ) (w x : World) → NoticesFollowCuts (ds ++ es) → k ≡ k0 + length ds → world.steps_from script ds k0 w0 ≡ Going w → Holds w → world.steps_from script es k w ≡ Going x → Holds x
    unfolding world.steps_from
    steps_hold w0 k0 o ds [] k w x c n d h e = rw (going_is w x e) at h
    steps_hold w0 k0 o ds (entry ∷ es) k w x c n d h e = then_holds x (world.step script entry k w) (world.steps_from script es (suc k))
        (λ y j f. let done : world.steps_from script (ds ++ entry ∷ []) k0 w0 ≡ Going y = steps_end script ds entry k0 w0 w y d (rw n at j) in let past = stepped_past w0 w ds k0 o d in let l = length_end ds entry in
        let rest : NoticesFollowCuts ((ds ++ entry ∷ []) ++ es) = rw (append_assoc ds (entry ∷ []) es) c in
        steps_hold w0 k0 o (ds ++ entry ∷ []) es (suc k) y x rest (omega arith) done (holds_on w y past (cuts_noticed w0 w ds k0 (notices_front [] ds (entry ∷ es) c) o d) (entry_moves script entry k w y (stands_of script w past.0) j) h) f) e

    pub stepped_holds : (w x : World) (es : List Entry) (k : ℕ) → NoticesFollowCuts es → world.open_from script zero script.vats (world.begins script) ≡ Going w → world.steps_from script es k w ≡ Going x → Holds x
    unfolding world.steps_from
    stepped_holds w x es k c o e = let n : k ≡ k + 0 = omega arith in steps_hold w k o [] es k w x c n refl (opened_holds script.vats [] w (sym (append-nil script.vats)) o) e
