-- In every world of a run each object that is named is there.
use Rattle.std.proofs.Common.{◌≡◌, ℕ, zero, suc, ◌+◌, ◌≤◌, ◌<◌, Bool, true, false, List, [], ◌∷◌, ◌++◌, Option, Some, None, refl, sym, ap, subst, ◌∙◌, length, map, arith, ◌==◌}
use Rattle.std.specs.Prelude.{slice_get}
use Rattle.std.proofs.lemmas.Bool.{eqb-true, eq-eqb}
use Rattle.def_machine.specs.Values.{Name, Root, Object, Sent, Spot, Own, Foreign, naming, name_of, answer_of, mail_of, spot_of}
use Rattle.def_machine.specs.State.{Message, Note, Put, Vat, Done, Gives, Act, begun}
use Rattle.def_machine.specs.Scopes.{any_guard}
use Rattle.law_machine.specs.Machine.Steps.{Step, Opens as Starts, Takes, Receives, Notices, does}
use Rattle.def_run.specs.Draws.{draw_word}
use Rattle.def_run.specs.World as world
use Rattle.def_run.specs.World.{Script, Program, Event, Carried, Link, World, Goes, CutLink, put_at, names, names_of, read_note}
use Rattle.law_machine.specs.Run.Moves.{Moved, Still, Severs, Drops, Steps, Arrives, Hears, Tells, Does, Nobody, AnyNotice, IsReached, IsAlone, went}
use Rattle.law_machine.proofs.Run.Honest.{honest_reached, lifted}
use Rattle.law_machine.proofs.Run.Told.{moves_told}
use Rattle.law_fate.specs.Name.Names.{Bit, Named, Mail, Entered, Owns, AllOf, MessageOk, NoteOk, NounOk, KnownOk, Parts, Everywhere, IsMessageName}
use Rattle.law_fate.proofs.Name.Facts.{MayBe, all_map, all_so, message_up, note_up, Fact, Nothing, Also, IsName, AreNouns, IsMessage, NoteDoes, nothing, Holds}
use Rattle.law_fate.proofs.Name.Care.{Care, Sound, Ends, Fine, parts_up}
use Rattle.law_fate.proofs.Name.CareEval.{fine_opening, fine_taking}
use Rattle.law_fate.proofs.Name.CareArrive.{fine_notice}
use Rattle.law_fate.proofs.Name.Serves.{served_by, closing_by}
use Rattle.law_fate.proofs.Name.SameNames.{false_true, reference_is}
use Rattle.law_fate.proofs.Name.Among.{get_put}
use Rattle.law_fate.proofs.Name.Run.{with_link_holds, push_all_holds, link_holds, links_from_hold, fresh_at}
use Rattle.law_never_astray.specs.Things.{IsThere, AnswersApart, There, ThingsAreThere}
use Rattle.law_never_astray.specs.Objects.{IsBelow, AreBelow, things_of, ObjectsThere, ObjectsAreThere, ThingsAreThereInRuns}
use Rattle.law_never_astray.proofs.ThingsCounted.{Counted, things, things_under, things_makes}
use Rattle.law_never_astray.proofs.ThingsHeard.{arrives}

-- ---- counts

below_up : (c d : ℕ → ℕ) → ((u : ℕ) → c u ≤ d u) → (n : Name) → IsBelow c n → IsBelow d n
below_up c d f (Object w i) h = let l : c w ≤ d w = f w in let k : i < c w = h in omega arith
below_up c d f other h = tt

are_up : (c d : ℕ → ℕ) → ((u : ℕ) → c u ≤ d u) → (b : Bit Name) → AreBelow c b → AreBelow d b
are_up c d f (Named n) h = below_up c d f n h
are_up c d f (Mail n) h = h
are_up c d f (Entered n) h = below_up c d f n h
are_up c d f (Owns n i) h = below_up c d f n h
are_up c d f other h = tt

-- so many of that vat, and of each other as many as there are
abbrev count_by : Bool → ℕ → ℕ → ℕ
count_by true n m = n
count_by false n m = m

abbrev counts : ℕ → List (Vat Name) → ℕ → ℕ → ℕ
counts v vats n u = count_by (v == u) n (things_of vats u)

count_up : (b : Bool) (m n k : ℕ) → m ≤ n → count_by b m k ≤ count_by b n k
count_up true m n k l = l
count_up false m n k l = omega arith

own_count : (v : ℕ) (vats : List (Vat Name)) (n : ℕ) → counts v vats n v ≡ n
own_count v vats n = ap (λ b. count_by b n (things_of vats v)) (eq-eqb v v refl)

things_at : (vats : List (Vat Name)) (v : ℕ) (s : Vat Name) → slice_get vats v ≡ Some s → things_of vats v ≡ length s.things
unfolding things_of
things_at vats v s e = rw (e, things_of) refl

get_other : (vats : List (Vat Name)) (v u : ℕ) (t : Vat Name) → (v ≡ u → ⊥) → slice_get (put_at v t vats) u ≡ slice_get vats u
unfolding put_at
get_other [] v u t f = refl
get_other (x ∷ xs) zero zero t f = absurd (f refl)
get_other (x ∷ xs) zero (suc u) t f = refl
get_other (x ∷ xs) (suc v) zero t f = refl
get_other (x ∷ xs) (suc v) (suc u) t f = get_other xs v u t (λ e. f (ap suc e))

no_self : (v u : ℕ) → (v == u) ≡ false → v ≡ u → ⊥
no_self v u e f = false_true (sym e ∙ eq-eqb v u f)

things_other : (vats : List (Vat Name)) (v u : ℕ) (t : Vat Name) → (v ≡ u → ⊥) → things_of (put_at v t vats) u ≡ things_of vats u
unfolding things_of
things_other vats v u t f = rw (get_other vats v u t f, things_of) refl

module _ (vats : List (Vat Name)) (v : ℕ) (s : Vat Name) (there : slice_get vats v ≡ Some s) where
  -- as a step begins, from a state with as many things
  counts_begin : (n : ℕ) → n ≡ length s.things → (u : ℕ) → things_of vats u ≤ counts v vats n u
  counts_begin n e u = go (v == u) refl
    where
      go : (b : Bool) → (v == u) ≡ b → things_of vats u ≤ count_by b n (things_of vats u)
      go true f = let same : v ≡ u = eqb-true v u f in let m : things_of vats u ≡ length s.things = rw same at (things_at vats v s there) in omega arith
      go false f = omega arith

  -- and once the vat went on
  counts_end : (t : Vat Name) (u : ℕ) → counts v vats (length t.things) u ≤ things_of (put_at v t vats) u
  counts_end t u = go (v == u) refl
    where
      go : (b : Bool) → (v == u) ≡ b → count_by b (length t.things) (things_of vats u) ≤ things_of (put_at v t vats) u
      go true f = let same : v ≡ u = eqb-true v u f in let m : things_of (put_at v t vats) u ≡ length t.things = subst (λ (x : ℕ). things_of (put_at v t vats) x ≡ length t.things) same (things_at (put_at v t vats) v t (get_put vats v s t there)) in omega arith
      go false f = let m = things_other vats v u t (no_self v u f) in omega arith

-- ---- what is cared for in a step of a run

answer_below : (c : ℕ → ℕ) (h : ℕ) (m : Name) → IsMessageName m → IsBelow c (answer_of h m)
unfolding answer_of
answer_below c h (Sent m) g = tt
answer_below c h other g = absurd g

run_counted : (word : ℕ → ℕ) (v : ℕ) (vats : List (Vat Name)) → Counted (naming word v) (λ n. AreBelow (counts v vats n))
unfolding naming name_of mail_of
run_counted word v vats = record {
  up = λ m n l b h. are_up (counts v vats m) (counts v vats n) (λ u. count_up (v == u) m n (things_of vats u) l) b h;
  alike = λ a b e. reference_is a b e;
  vat = λ n h. tt;
  off = λ n h. tt;
  drew = λ n i. tt;
  gave = λ n i. tt;
  entered = λ n a h. h;
  owned = λ n a i h. h;
  owns = λ n a i h. h;
  object = λ n i l. let e : counts v vats n v ≡ n = own_count v vats n in omega arith;
  promise = λ n i k. tt;
  answer = λ n h m k g. answer_below (counts v vats n) h m g;
  gift = λ n h i k. tt;
  mail = λ n i k. tt;
}

module _ (script : Script) where
  abbrev word : ℕ → ℕ
  word = draw_word script.key

  module _ (w : World) (h : ObjectsThere w) (v : ℕ) (s q : Vat Name) (there : slice_get w.vats v ≡ Some s) (same : length q.things ≡ length s.things) where
    abbrev P : ℕ → Bit Name → Type 0
    P n = AreBelow (counts v w.vats n)

    abbrev S : Care Name
    S = things (naming word v) P (run_counted word v w.vats)

    begin_up : (b : Bit Name) → AreBelow (things_of w.vats) b → P (length q.things) b
    begin_up b i = are_up (things_of w.vats) (counts v w.vats (length q.things)) (counts_begin w.vats v s there (length q.things) same) b i

    end_up : (t : Vat Name) (b : Bit Name) → P (length t.things) b → AreBelow (things_of (put_at v t w.vats)) b
    end_up t b i = are_up (counts v w.vats (length t.things)) (things_of (put_at v t w.vats)) (counts_end w.vats v s there t) b i

    other_up : (t : Vat Name) → length q.things ≤ length t.things → (b : Bit Name) → AreBelow (things_of w.vats) b → AreBelow (things_of (put_at v t w.vats)) b
    other_up t l b i = end_up t b (are_up (counts v w.vats (length q.things)) (counts v w.vats (length t.things)) (λ u. count_up (v == u) (length q.things) (length t.things) (things_of w.vats u) l) b (begin_up b i))

    sound_ready : Parts (AreBelow (things_of w.vats)) q.things q.slots q.lists q.queue q.known q.gifts [] → Sound S (world.readied w q)
    unfolding world.readied
    sound_ready p = record { parts = parts_up (AreBelow (things_of w.vats)) (P (length q.things)) begin_up q.things q.slots q.lists q.queue q.known q.gifts [] p; more = tt }

    some_is : (a b : Vat Name) → Some a ≡ Some b → a ≡ b
    some_is a b e = cc

    went_on : (t : Vat Name) (head : List Event) → length q.things ≤ length t.things → Sound S t → ObjectsThere (went v w head t)
    unfolding went
    went_on t head l g = record {
      vats = λ u r e. go u r (v == u) refl e;
      links = push_all_holds (NoteOk (AreBelow (things_of (put_at v t w.vats)))) v t.outbox w.links (all_map (λ (p : Put Name) i. note_up (P (length t.things)) (AreBelow (things_of (put_at v t w.vats))) (end_up t) p.note i.0) t.outbox (g.parts.outbox))
          (all_map (λ (x : Link) i. all_map (λ (n : Note Name) j. note_up (AreBelow (things_of w.vats)) (AreBelow (things_of (put_at v t w.vats))) (other_up t l) n j) x.notes i) w.links h.links);
    }
      where
        go : (u : ℕ) (r : Vat Name) (b : Bool) → (v == u) ≡ b → slice_get (put_at v t w.vats) u ≡ Some r → Everywhere (AreBelow (things_of (put_at v t w.vats))) r
        go u r true f e = let one : v ≡ u = eqb-true v u f in let same_vat : t ≡ r = some_is t r (sym (get_put w.vats v s t there) ∙ (rw (sym one) at e)) in
            let now : Everywhere (AreBelow (things_of (put_at v t w.vats))) t = parts_up (P (length t.things)) (AreBelow (things_of (put_at v t w.vats))) (end_up t) t.things t.slots t.lists t.queue t.known t.gifts t.outbox g.parts in subst (λ (x : Vat Name). Everywhere (AreBelow (things_of (put_at v t w.vats))) x) same_vat now
        go u r false f e = let o : slice_get w.vats u ≡ Some r = sym (get_other w.vats v u t (no_self v u f)) ∙ e in
            parts_up (AreBelow (things_of w.vats)) (AreBelow (things_of (put_at v t w.vats))) (other_up t l) r.things r.slots r.lists r.queue r.known r.gifts r.outbox (h.vats u r o)

    gives_on : (t : Vat Name) (head : List Event) (d : Done Name (Unit {0})) → Ends S nothing (world.readied w q) d → d ≡ Gives tt t → ObjectsThere (went v w head t)
    unfolding world.readied
    gives_on t head (Gives a r) (l, g, k) e = let one : r ≡ t = cc in rw one at (went_on r head l g)
    gives_on t head other i e = cc

    does_on : (t : Vat Name) (head : List Event) (C : Fact Name) (m : Act Name (Unit {0})) → Parts (AreBelow (things_of w.vats)) q.things q.slots q.lists q.queue q.known q.gifts [] → Fine S C m nothing → Holds (P (length q.things)) C → m (world.readied w q) ≡ Gives tt t → ObjectsThere (went v w head t)
    unfolding world.readied
    does_on t head C m p f c e = gives_on t head (m (world.readied w q)) (f.after (world.readied w q) (sound_ready p) c) e

  -- ---- the moves of a run

  ready_parts : (c : ℕ → ℕ) (s : Vat Name) → Everywhere (AreBelow c) s → Parts (AreBelow c) s.things s.slots s.lists s.queue s.known s.gifts []
  ready_parts c s p = record { things = p.things; slots = p.slots; lists = p.lists; queue = p.queue; known = p.known; gifts = p.gifts; outbox = tt }

  given_below : (c : ℕ → ℕ) (us : List ℕ) → AllOf (NounOk (AreBelow c)) (world.given script.vats us)
  unfolding world.given any_guard
  given_below c [] = tt
  given_below c (u ∷ us) = ((tt, tt), given_below c us)

  module _ (w : World) (h : ObjectsThere w) (v : ℕ) (s t : Vat Name) (head : List Event) (there : slice_get w.vats v ≡ Some s) where
    opens_on : (tree : List _) (depth : ℕ) (us : List ℕ) → does (names script v) (Starts tree depth (Root v) (world.given script.vats us)) (world.readied w s) ≡ Gives tt t → ObjectsThere (went v w head t)
    unfolding does names
    opens_on tree depth us e = let C = run_counted word v w.vats in let care = things (naming word v) (λ n. AreBelow (counts v w.vats n)) C in
        does_on w h v s s there refl t head (Also (IsName (Root v)) (AreNouns (world.given script.vats us))) _ (ready_parts (things_of w.vats) s (h.vats v s there))
        (fine_opening (naming word v) care (served_by (naming word v) care (things_under (naming word v) (λ n. AreBelow (counts v w.vats n)) C) (things_makes (naming word v) (λ n. AreBelow (counts v w.vats n)) C)) tree depth (Root v) (record { at = λ x c. c.0 })
        (closing_by (naming word v) care (things_under (naming word v) (λ n. AreBelow (counts v w.vats n)) C) (Root v)) (world.given script.vats us) (record { at = λ x c. c.1 }))
        (tt, given_below (counts v w.vats (length s.things)) us) e

    takes_on : (tree : List _) (depth : ℕ) (m : Message Name) (ms : List (Message Name)) → s.queue ≡ m ∷ ms → does (names script v) (Takes tree depth m) (world.readied w (record s { queue = ms })) ≡ Gives tt t → ObjectsThere (went v w head t)
    unfolding does names
    takes_on tree depth m ms q e = let C = run_counted word v w.vats in let care = things (naming word v) (λ n. AreBelow (counts v w.vats n)) C in let p = h.vats v s there in
        let waiting : AllOf (MessageOk (AreBelow (things_of w.vats))) (m ∷ ms) = rw q at p.queue in
        let all : AllOf (MessageOk (AreBelow (counts v w.vats (length s.things)))) (m ∷ ms) = all_map (message_up (AreBelow (things_of w.vats)) (AreBelow (counts v w.vats (length s.things))) (begin_up w h v s s there refl)) (m ∷ ms) waiting in
        does_on w h v s (record s { queue = ms }) there refl t head (IsMessage m) _ (record { things = p.things; slots = p.slots; lists = p.lists; queue = waiting.1; known = p.known; gifts = p.gifts; outbox = tt })
        (fine_taking (naming word v) care (things_under (naming word v) (λ n. AreBelow (counts v w.vats n)) C) (things_makes (naming word v) (λ n. AreBelow (counts v w.vats n)) C) tree depth m (record { at = λ x c. c })) all.0 e

    notices_on : (u : ℕ) → does (names script v) (Notices u) (world.readied w s) ≡ Gives tt t → ObjectsThere (went v w head t)
    unfolding does names
    notices_on u e = let C = run_counted word v w.vats in let care = things (naming word v) (λ n. AreBelow (counts v w.vats n)) C in
        does_on w h v s s there refl t head Nothing _ (ready_parts (things_of w.vats) s (h.vats v s there)) (fine_notice (naming word v) care (things_under (naming word v) (λ n. AreBelow (counts v w.vats n)) C) u) tt e

    receives_on : (a : ℕ) (n : Note Name) → NoteOk (AreBelow (things_of w.vats)) n → does (names script v) (Receives a (read_note (names_of s) n)) (world.readied w s) ≡ Gives tt t → ObjectsThere (went v w head t)
    unfolding does names
    receives_on a n i e = does_on w h v s s there refl t head (NoteDoes n) _ (ready_parts (things_of w.vats) s (h.vats v s there)) (arrives word v (λ m. AreBelow (counts v w.vats m)) (run_counted word v w.vats) a (names_of s) n)
        (note_up (AreBelow (things_of w.vats)) (AreBelow (counts v w.vats (length s.things))) (begin_up w h v s s there refl) n i) e

  abbrev M : World → World → Type 0
  M w y = Moved script w Nobody AnyNotice (λ w v s d. ⊥) (λ w v u s n. ⊥) y

  -- the rest of a link's notes
  rest_below : (c : ℕ → ℕ) (a v : ℕ) (n : Note Name) (ns : List (Note Name)) (ls : List Link) (l : Link) → world.link_at a v ls ≡ Some l → l.notes ≡ n ∷ ns → AllOf (λ (x : Link). AllOf (NoteOk (AreBelow c)) x.notes) ls → AllOf (NoteOk (AreBelow c)) (n ∷ ns)
  rest_below c a v n ns ls l at e h = let found : MayBe (λ (x : Link). AllOf (NoteOk (AreBelow c)) x.notes) (world.link_at a v ls) = link_holds (NoteOk (AreBelow c)) a v ls h in go (world.link_at a v ls) at found
    where
      go : (o : Option Link) → o ≡ Some l → MayBe (λ (x : Link). AllOf (NoteOk (AreBelow c)) x.notes) o → AllOf (NoteOk (AreBelow c)) (n ∷ ns)
      go (Some x) f g = let one : x ≡ l = cc in let all : AllOf (NoteOk (AreBelow c)) l.notes = rw one at g in rw e at all
      go None f g = cc

  less_note : (w : World) → ObjectsThere w → (a v : ℕ) (ns : List (Note Name)) → AllOf (NoteOk (AreBelow (things_of w.vats))) ns → ObjectsThere (record w { links = world.with_link (world.with_notes ns) a v w.links })
  unfolding world.with_notes
  less_note w h a v ns i = record { vats = h.vats; links = with_link_holds (NoteOk (AreBelow (things_of w.vats))) (world.with_notes ns) (λ l j. i) a v w.links h.links }

  with_history : (w : World) (es : List Event) → ObjectsThere w → ObjectsThere (record w { history = es })
  with_history w es h = record { vats = h.vats; links = h.links }

  goes_is : (w y : World) → Goes w ≡ Goes y → w ≡ y
  goes_is w y e = cc

  severed_there : (k a b : ℕ) (w y : World) → ObjectsThere w → world.step script (CutLink a b) k w ≡ Goes y → ObjectsThere y
  unfolding world.step world.cut world.severed_link
  severed_there k a b w y h e = let N : Note Name → Type 0 = NoteOk (AreBelow (things_of w.vats)) in let x : World = record w { links = world.with_link world.severed_link b a (world.with_link world.severed_link a b w.links); history = _ } in
      let after : ObjectsThere x = record { vats = h.vats; links = with_link_holds N world.severed_link (λ l i. tt) b a (world.with_link world.severed_link a b w.links) (with_link_holds N world.severed_link (λ l i. tt) a b w.links h.links) } in
      rw (goes_is x y e) at after

  alone_on : (w y : World) → ObjectsThere w → (v : ℕ) (s q t : Vat Name) (what : Step Name Name) (head : List Event) → IsAlone what → Does script w v s q t what → ObjectsThere (went v w head t)
  alone_on w y h v s q t (Starts tree depth root bs) head alone d = let b = d.begins in opens_on w h v s t head d.there tree depth b.0.knows (rw (b.2, b.5, b.6) at d.gives)
  alone_on w y h v s q t (Takes tree depth n) head alone d = let b = d.begins in takes_on w h v s t head d.there tree depth n b.0 b.1 (rw b.2 at d.gives)
  alone_on w y h v s q t (Receives from n) head alone d = absurd alone
  alone_on w y h v s q t (Notices u) head alone d = let b = d.begins in notices_on w h v s t head d.there u (rw b at d.gives)

  moved_on : (w y : World) → ObjectsThere w → M w y → ObjectsThere y
  unfolding world.readied
  moved_on w y h (Still es e) = rw (sym e) at (with_history w (w.history ++ es) h)
  moved_on w y h (Severs k a b e) = severed_there k a b w y h e
  moved_on w y h (Drops a v n ns l es at nocut notes gone e) = let rest = rest_below (things_of w.vats) a v n ns w.links l at notes h.links in rw (sym e) at (with_history (record w { links = world.with_link (world.with_notes ns) a v w.links }) (w.history ++ es) (less_note w h a v ns rest.1))
  moved_on w y h (Steps v s q t what head honest alone may quiet d e) = rw (sym e) at (alone_on w y h v s q t what head alone d)
  moved_on w y h (Arrives a v s t n ns l k frame honest at nocut notes d e) = let rest = rest_below (things_of w.vats) a v n ns w.links l at notes h.links in
      let less = less_note w h a v ns rest.1 in rw (sym e) at (receives_on (record w { links = world.with_link (world.with_notes ns) a v w.links }) less v s t (Carried k a v n frame ∷ []) d.there a n rest.0 d.gives)
  moved_on w y h (Hears a v s t n ns l k frame hostile at nocut notes there hears e) = absurd hostile
  moved_on w y h (Tells v u s t r ds n hostile there performs lawful puts e) = absurd hostile

  -- ---- the start

  roots_below : (c : ℕ → ℕ) (us : List ℕ) → AllOf (KnownOk (AreBelow c)) (map world.known_root us)
  unfolding world.known_root begun
  roots_below c [] = tt
  roots_below c (u ∷ us) = ((tt, tt, tt, tt, tt, tt), roots_below c us)

  fresh_below : (c : ℕ → ℕ) (v : ℕ) (p : Program) → Everywhere (AreBelow c) (world.fresh script v p)
  unfolding world.fresh world.known_root begun
  fresh_below c v p = record { things = tt; slots = tt; lists = tt; queue = tt; known = ((tt, tt, tt, tt, tt, all_so (Unit {0}) (world.knowers v zero script.vats) tt), roots_below c p.knows); gifts = tt; outbox = tt }

  begins_below : ObjectsThere (world.begins script)
  unfolding world.begins
  begins_below = record { vats = λ v s e. at v s (fresh_at script zero script.vats v s e); links = links_from_hold script (NoteOk (AreBelow (things_of (world.begins script).vats))) script.vats zero script.vats }
    where
      at : (v : ℕ) (s : Vat Name) → (p : Program) × (u : ℕ) × (slice_get script.vats v ≡ Some p) × (u ≡ zero + v) × (world.fresh script u p ≡ s) → Everywhere (AreBelow (things_of (world.begins script).vats)) s
      at v s (p, u, f, g, e) = rw e at (fresh_below (things_of (world.begins script).vats) u p)

  reached_below : (y : World) → IsReached script y → ObjectsThere y
  reached_below y r = lifted script Nobody AnyNotice (λ w v s d. ⊥) (λ w v u s n. ⊥) ObjectsThere begins_below (λ w x k h m. moved_on w x h (moves_told script Nobody AnyNotice (λ w v s d. ⊥) (λ w v u s n. ⊥) w x m)) y r

pub objects_are_there : ObjectsAreThere
objects_are_there script = let r = honest_reached script in (λ ps rest w e i. reached_below script w (r.0 ps rest w e i), λ w x es k e i. reached_below script x (r.1 w x es k e i))

-- ---- and so is each of a vat's own

module _ (word : ℕ → ℕ) (vats : List (Vat Name)) (v : ℕ) (s : Vat Name) (there : slice_get vats v ≡ Some s) where
  own_below : (w i j : ℕ) → i < things_of vats w → (b : Bool) → (v == w) ≡ b → ◌≡◌ {A = Spot} (elim b [ true ↦ Own i | false ↦ Foreign w ]) (Own j) → j < length s.things
  own_below w i j l true f e = let same : v ≡ w = eqb-true v w f in let k : i ≡ j = cc in let m : things_of vats w ≡ length s.things = rw same at (things_at vats v s there) in omega arith
  own_below w i j l false f e = cc

  is_there : (n : Name) → IsBelow (things_of vats) n → IsThere (naming word v) (length s.things) n
  unfolding naming spot_of
  is_there (Object w i) h j e = own_below w i j h (v == w) refl e
  is_there other h j e = cc

  answers_apart : (m : Name) → IsMessageName m → AnswersApart (naming word v) m
  unfolding naming spot_of name_of answer_of
  answers_apart (Sent m) g h k i e = cc
  answers_apart other g h k i e = absurd g

  own_there : (b : Bit Name) → AreBelow (things_of vats) b → There (naming word v) (length s.things) b
  own_there (Named n) h = is_there n h
  own_there (Mail n) h = answers_apart n h
  own_there (Entered n) h = is_there n h
  own_there (Owns n i) h = is_there n h
  own_there other h = tt

things_in : (script : Script) (w : World) → ObjectsThere w → (v : ℕ) (s : Vat Name) → slice_get w.vats v ≡ Some s → ThingsAreThere (names script v) s
unfolding names
things_in script w h v s e = parts_up (AreBelow (things_of w.vats)) (There (naming (draw_word script.key) v) (length s.things)) (own_there (draw_word script.key) w.vats v s e) s.things s.slots s.lists s.queue s.known s.gifts s.outbox (h.vats v s e)

pub things_are_there_in_runs : ThingsAreThereInRuns
things_are_there_in_runs script = let r = objects_are_there script in (λ ps rest w e i. things_in script w (r.0 ps rest w e i), λ w x es k e i. things_in script x (r.1 w x es k e i))
