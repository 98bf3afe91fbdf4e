-- In every world of a run at most one note under way lets the gift under a key go, at most one was put that opens it, and each note under way was logged.
use Rattle.std.proofs.Common.{◌≡◌, ℕ, zero, ◌+◌, ◌≤◌, Bool, List, [], ◌∷◌, Some, refl, sym, ap, subst, ◌∙◌, arith}
use Rattle.def_machine.specs.Values.{Name}
use Rattle.def_machine.specs.State.{Note, Deliver, Vat, Gives, Done}
use Rattle.def_run.specs.World as world
use Rattle.def_run.specs.World.{Script, Event, CutLink, Link, World, Goes, names, names_of, read_note, readied}
use Rattle.law_machine.specs.Machine.Steps.{Step, Opens, Takes, Receives, Notices, does, After}
use Rattle.law_machine.specs.Run.Moves.{Moved, Still, Severs, Drops, Steps, Arrives, Hears, Tells, Nobody, AnyNotice, IsReached, Does, IsAlone, went}
use Rattle.law_machine.proofs.Run.Told.{moves_told}
use Rattle.law_machine.proofs.Run.Honest.{NoDeed, NoWord, lifted}
use Rattle.law_order.specs.Ordering.Ways.{Way, Mid, Place}
use Rattle.law_order.specs.Ordering.Places.{first_place, open_place, shorten_place, was_put, or_never, gift_place}
use Rattle.law_order.specs.Cuts.Letting.{once, letting, OneLetsGo, AllLogged, OneNoteLetsAGiftGo, NotesAreLogged, FirstOpensLetGo, FirstShortensLetGo}
use Rattle.law_order.specs.Cuts.Opening.{asks_to_open, EachGiftIsOpenedOnce}
use Rattle.law_order.specs.Cuts.Cuts.{CutsKeepInRuns}
use Rattle.law_order.proofs.Cuts.Counts.{letting_put, pushes_most, pushes_logged, severed_most, cuts_logged, taken_less, taken_logged, links_from_quiet, quiet_counts, quiet_logged}
use Rattle.law_order.proofs.Cuts.Openings.{one_of_both, opening, opening_is, pushes_open, severed_open, taken_open, quiet_open}
use Rattle.law_order.proofs.Cuts.Puts.{Pays, drawn_of, drawn_most, pays_walked}
use Rattle.law_order.proofs.Cuts.Arrivals.{pays_arrive}
use Rattle.law_order.proofs.Cuts.Walk.{walked_opening, walked_taking, walked_notice}
use Rattle.law_order.proofs.Cuts.Gifts.{first_opens, first_shortens, none_open}
use Rattle.law_order.proofs.Cuts.Severed.{cuts_keep}

-- each note under way that lets a gift go was paid by a draw, and so was each that was put to open one; and each note under way was logged
pub record Holds (w : World) : Type 0 where
  pub paid : (i : ℕ) → letting i w.links ≤ drawn_of i w.drawn
  pub opened : (i : ℕ) → opening i w.links ≤ drawn_of i w.drawn
  pub logged : AllLogged w.links

going : {x z : World} → Goes x ≡ Goes z → x ≡ z
going e = cc

gives_after : {A : Type 0} (P : Vat Name → Vat Name → Type 0) (s t : Vat Name) (d : Done Name A) (a : A) → d ≡ Gives a t → After P s d → P s t
gives_after P s t d a e h = subst (After P s) e h

read_asks : (i : ℕ) (ks : List Name) (n : Note Name) → asks_to_open i (read_note ks n) ≡ asks_to_open i n
unfolding asks_to_open read_note
read_asks i ks (Deliver d n verb ys) = refl
read_asks i ks other = refl

abbrev Anyone : Name → Vat Name → Type 0
Anyone p s = Unit {0}

module _ (script : Script) where
  -- what a step puts
  steps_pay : (i v : ℕ) (what : Step Name Name) (s : Vat Name) → IsAlone what → After (Pays i 0) s (does (names script v) what s)
  unfolding does
  steps_pay i v (Opens tree depth root given) s h = (walked_opening (names script v) (Pays i 0) Anyone (pays_walked i (names script v)) tree depth root given).after s
  steps_pay i v (Takes tree depth n) s h = (walked_taking (names script v) (Pays i 0) Anyone (pays_walked i (names script v)) tree depth n).after s
  steps_pay i v (Receives from n) s h = absurd h
  steps_pay i v (Notices w) s h = (walked_notice (names script v) (Pays i 0) Anyone (pays_walked i (names script v)) w).after s

  -- of a vat that is readied
  from_ready : (i e : ℕ) (w : World) (q t : Vat Name) → Pays i e (readied w q) t → letting_put i t.outbox + drawn_of i w.drawn ≤ drawn_of i t.drawn + e
  unfolding readied letting_put
  from_ready i e w q t h = let a = h.count in omega arith

  abbrev M : World → World → Type 0
  M w y = Moved script w Nobody AnyNotice NoDeed NoWord y

  stepped : (w : World) (v : ℕ) (s q t : Vat Name) (what : Step Name Name) (head : List Event) → Holds w → IsAlone what → Does script w v s q t what → Holds (went v w head t)
  unfolding went
  stepped w v s q t what head h alone d = record {
    paid = λ i.
        let step = from_ready i 0 w q t (gives_after (Pays i 0) (readied w q) t (does (names script v) what (readied w q)) tt d.gives (steps_pay i v what (readied w q) alone)) in
        let push = pushes_most i v t.outbox w.links in let had = h.paid i in omega arith;
    opened = λ i.
        let step = from_ready i 0 w q t (gives_after (Pays i 0) (readied w q) t (does (names script v) what (readied w q)) tt d.gives (steps_pay i v what (readied w q) alone)) in
        let push = pushes_open i v t.outbox w.links in let had = h.opened i in omega arith;
    logged = pushes_logged v t.outbox w.links h.logged;
  }

  -- what is put as a note arrives
  note_pays : (i : ℕ) (w : World) (a v : ℕ) (s t : Vat Name) (n : Note Name) → Does script w v s s t (Receives a (read_note (names_of s) n)) → letting_put i t.outbox + drawn_of i w.drawn ≤ drawn_of i t.drawn + once (asks_to_open i n)
  unfolding does
  note_pays i w a v s t n d =
      let pays : Pays i (once (asks_to_open i (read_note (names_of s) n))) (readied w s) t = gives_after (Pays i (once (asks_to_open i (read_note (names_of s) n)))) (readied w s) t _ tt d.gives (pays_arrive i (names script v) a (read_note (names_of s) n) (readied w s)) in
      let step = from_ready i (once (asks_to_open i (read_note (names_of s) n))) w s t pays in
      let same : once (asks_to_open i (read_note (names_of s) n)) ≡ once (asks_to_open i n) = ap once (read_asks i (names_of s) n) in omega arith

  arrived : (w : World) (a v : ℕ) (s t : Vat Name) (n : Note Name) (ns : List (Note Name)) (l : Link) (head : List Event) → Holds w → world.link_at a v w.links ≡ Some l → l.notes ≡ n ∷ ns → Does script w v s s t (Receives a (read_note (names_of s) n))
      → Holds (went v (record w { links = world.with_link (world.with_notes ns) a v w.links }) head t)
  unfolding went
  arrived w a v s t n ns l head h at front d = record {
    paid = λ i.
        let step = note_pays i w a v s t n d in let both = one_of_both i n in
        let less = taken_less i a v w.links l n ns at front in
        let push = pushes_most i v t.outbox (world.with_link (world.with_notes ns) a v w.links) in let had = h.paid i in omega arith;
    opened = λ i.
        let step = note_pays i w a v s t n d in
        let less = taken_open i a v w.links l n ns at front in
        let push = pushes_open i v t.outbox (world.with_link (world.with_notes ns) a v w.links) in let had = h.opened i in omega arith;
    logged = pushes_logged v t.outbox (world.with_link (world.with_notes ns) a v w.links) (taken_logged a v w.links l n ns at front h.logged);
  }

  cut_holds : (w y : World) (k a b : ℕ) → Holds w → world.step script (CutLink a b) k w ≡ Goes y → Holds y
  unfolding world.step world.cut
  cut_holds w y k a b h e = subst Holds (going e) (record {
    paid = λ i. let one = severed_most i a b w.links in let two = severed_most i b a (world.with_link world.severed_link a b w.links) in let had = h.paid i in omega arith;
    opened = λ i. let one = severed_open i a b w.links in let two = severed_open i b a (world.with_link world.severed_link a b w.links) in let had = h.opened i in omega arith;
    logged = cuts_logged b a (world.with_link world.severed_link a b w.links) (cuts_logged a b w.links h.logged);
  })

  moved_holds : (w y : World) → Holds w → M w y → Holds y
  moved_holds w y h (Still es e) = subst Holds (sym e) (record { paid = h.paid; opened = h.opened; logged = h.logged })
  moved_holds w y h (Severs k a b e) = cut_holds w y k a b h e
  moved_holds w y h (Drops a v n ns l es at uncut front none e) = subst Holds (sym e) (record {
    paid = λ i. let less = taken_less i a v w.links l n ns at front in let had = h.paid i in omega arith;
    opened = λ i. let less = taken_open i a v w.links l n ns at front in let had = h.opened i in omega arith;
    logged = taken_logged a v w.links l n ns at front h.logged;
  })
  moved_holds w y h (Steps v s q t what head honest alone may quiet d e) = subst Holds (sym e) (stepped w v s q t what head h alone d)
  moved_holds w y h (Arrives a v s t n ns l k frame honest at uncut front d e) = subst Holds (sym e) (arrived w a v s t n ns l _ h at front d)
  moved_holds w y h (Hears a v s t n ns l k frame hostile at uncut front there g e) = absurd hostile
  moved_holds w y h (Tells v u s t r ds n hostile there p l o e) = absurd hostile

  begins_holds : Holds (world.begins script)
  unfolding world.begins
  begins_holds = let quiet = links_from_quiet script.vats zero script.vats in record {
    paid = λ i. let none = quiet_counts i (world.links_from script.vats zero script.vats) quiet in omega arith;
    opened = λ i. let none = quiet_open i (world.links_from script.vats zero script.vats) quiet in omega arith;
    logged = quiet_logged (world.links_from script.vats zero script.vats) quiet;
  }

  reached_holds : (w : World) → IsReached script w → Holds w
  reached_holds w r = lifted script Nobody AnyNotice NoDeed NoWord Holds begins_holds (λ x y q h m. moved_holds x y h (moves_told script Nobody AnyNotice NoDeed NoWord x y m)) w r

  reached_most : (w : World) → IsReached script w → OneLetsGo w.links
  reached_most w r i = let had = (reached_holds w r).paid i in let most = drawn_most i w.drawn in omega arith

-- ---- the laws

pub one_note_lets_a_gift_go : OneNoteLetsAGiftGo
one_note_lets_a_gift_go = λ script w r. reached_most script w r

pub each_gift_is_opened_once : EachGiftIsOpenedOnce
each_gift_is_opened_once = λ script w r i. let had = (reached_holds script w r).opened i in let most = drawn_most i w.drawn in let is = opening_is i w.links in omega arith

pub notes_are_logged : NotesAreLogged
notes_are_logged = λ script w r. (reached_holds script w r).logged

-- what is found leads there
placed : (script : Script) (honest : ℕ → Bool) (h i : ℕ) (ls : List Link) (c : Place) → first_place (open_place script honest h i ls) (shorten_place script honest h i ls) ≡ Some c → gift_place script honest h i ls ≡ c
unfolding gift_place or_never
placed script honest h i ls c e = ap (λ o. or_never script honest (was_put script honest h i ls) o) e

pub first_opens_let_go : FirstOpensLetGo
unfolding first_place
first_opens_let_go = λ script honest w a b l i n ns r from to at front. placed script honest b i w.links (Mid (Way a b) [] n)
    (ap (λ o. first_place o (shorten_place script honest b i w.links)) (first_opens script honest a b i n ns from to w.links l (reached_most script w r i) at front))

pub first_shortens_let_go : FirstShortensLetGo
unfolding first_place
first_shortens_let_go = λ script honest w a b c l i n ns r from to at front.
    let most = reached_most script w r i in
    let none = none_open script honest a b i n ns from to c w.links l most at front in
    (none, placed script honest c i w.links (Mid (Way a b) [] n) (ap (λ o. first_place o (shorten_place script honest c i w.links)) none ∙ first_shortens script honest a b i n ns from to c w.links l most at front))

pub cuts_keep_in_runs : CutsKeepInRuns
cuts_keep_in_runs = λ script honest w y a b k r e. cuts_keep script honest w y a b k (reached_most script w r) (reached_holds script w r).logged e
