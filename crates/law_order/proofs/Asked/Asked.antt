-- In every world of a run, under each key of a word that was drawn one thing at most is there of these, and none under another key: a gift that passes, a note under way that asks for a gift, and a gift that stands unopened.
use Rattle.std.proofs.Common.{◌≡◌, ℕ, zero, ◌+◌, ◌≤◌, Bool, true, false, List, ◌∷◌, ◌++◌, Some, refl, ap, subst, ◌⊎◌, inl, inr, arith}
use Rattle.std.specs.Prelude.{slice_get}
use Rattle.def_machine.specs.Values.{Name}
use Rattle.def_machine.specs.State.{Note, Deliver, Open, Ask, SettledTo, Elsewhere, Shorten, GiftEntry, Vat, Done, Gives}
use Rattle.def_machine.specs.Arrive.{arrive}
use Rattle.def_run.specs.World as world
use Rattle.def_run.specs.World.{Script, Program, Entry, Link, World, Goes as Going, names, names_of, read_note, readied, with_link, with_notes, severed_link, push_all, link_at}
use Rattle.law_machine.specs.Machine.Steps.{Step, Opens as Starts, Takes, Receives, Notices, does, After}
use Rattle.law_fate.specs.Fates.Lasting.{Each}
use Rattle.law_fate.specs.Name.Names.{IsAmong}
use Rattle.law_fate.specs.Name.Runs.{KnowsOnce}
use Rattle.law_reference.specs.Reference.GiftPassing.{gifts_in_note, gifts_under_way, Provides}
use Rattle.law_reference.proofs.Reference.AskHolds.{opened_past, stepped_past}
use Rattle.law_reference.proofs.Reference.AskRuns.{Past}
use Rattle.law_reference.proofs.Reference.GiftLinks.{pushed_notes, push_all_gifts, with_link_less, severed_less, found_tells, links_from_none}
use Rattle.law_reference.proofs.Reference.HideMoves as hide
use Rattle.law_reference.proofs.Reference.HideMoves.{alone_out, note_out}
use Rattle.law_reference.proofs.Reference.LegRuns.{stands_of}
use Rattle.law_reference.proofs.Reference.Moves.{Moved, Still, Severs, Drops, Steps, Arrives, IsAlone, Does, opened_hold, stepped_hold}
use Rattle.law_reference.proofs.Reference.Puts.{gifts_out}
use Rattle.law_order.specs.Cuts.Letting.{once}
use Rattle.law_order.proofs.Cuts.Counts.{links_from_quiet}
use Rattle.law_order.proofs.Cuts.Puts.{drawn_of, drawn_most}
use Rattle.law_order.specs.Asked.Asked.{AskedForAreOpened}
use Rattle.law_order.proofs.Asked.Weighs.{asks_for, asks_put, shut_in, Weighs, weighs_opening, weighs_taking, weighs_notice}
use Rattle.law_order.proofs.Asked.Arrivals.{extra, note_adds}
use Rattle.law_order.proofs.Asked.Viewing.{Paid, elsewhere_after}
use Rattle.law_order.proofs.Asked.Sums.{asked_way, pushes_asked, severed_asked, taken_asked, quiet_asked, found_asked, shut_all, put_shut, found_shut, none_shut, same_drawn, note_same, asks_same}

-- none but what a draw paid for
pub record Holds (w : World) : Type 0 where
  pub count : (i : ℕ) → asked_way i w.links + gifts_under_way i w.links + shut_all i w.vats ≤ drawn_of i w.drawn

given : (P : Vat Name → Vat Name → Type 0) (s t : Vat Name) (d : Done Name (Unit {0})) → d ≡ Gives tt t → After P s d → P s t
given P s t d e h = subst (After P s) e h

module _ (script : Script) where
  -- ---- a step of a vat

  module _ (w : World) (v : ℕ) (s : Vat Name) (i : ℕ) where
    none_out : (q : Vat Name) → (asks_put i (readied w q).outbox ≡ 0) × (gifts_out i (readied w q).outbox ≡ 0) × (shut_in i (readied w q).gifts ≡ shut_in i q.gifts) × (drawn_of i (readied w q).drawn ≡ drawn_of i w.drawn)
    unfolding readied asks_put gifts_out
    none_out q = (refl, refl, refl, refl)

    -- that no note begins
    alone_weighs : (q t : Vat Name) (what : Step Name Name) → IsAlone what → Does script w v s q t what → Weighs i 0 (readied w q) t
    unfolding does
    alone_weighs q t (Starts tree depth root bs) o d = given (Weighs i 0) (readied w q) t _ d.gives ((weighs_opening i (names script v) tree depth root bs).after (readied w q))
    alone_weighs q t (Takes tree depth m) o d = given (Weighs i 0) (readied w q) t _ d.gives ((weighs_taking i (names script v) tree depth m).after (readied w q))
    alone_weighs q t (Receives from n) o d = absurd o
    alone_weighs q t (Notices u) o d = given (Weighs i 0) (readied w q) t _ d.gives ((weighs_notice i (names script v) u).after (readied w q))

    -- as a note arrives: so many as it brings, or as it draws
    abbrev By : Note Name → Vat Name → Type 0
    By n t = Weighs i (gifts_in_note i n + once (asks_for i n)) (readied w s) t ⊎ Paid i (readied w s) t

    as_read : (n : Note Name) (t : Vat Name) → Weighs i (extra i (names script v) (read_note (names_of s) n)) (readied w s) t → By n t
    as_read n t h = let brings = note_same i n (names_of s) in let asks : once (asks_for i (read_note (names_of s) n)) ≡ once (asks_for i n) = ap once (asks_same i n (names_of s)) in inl (record { count = let c = h.count in omega arith })

    note_weighs : (from : ℕ) (t : Vat Name) (n : Note Name) → Does script w v s s t (Receives from (read_note (names_of s) n)) → By n t
    unfolding does arrive read_note gifts_in_note asks_for once
    note_weighs from t (Elsewhere x c) d = go (given (λ r u. Weighs i 0 r u ⊎ Paid i r u) (readied w s) t _ d.gives (elsewhere_after i (names script v) (world.read_name (names_of s) x) c (readied w s)))
      where
        go : Weighs i 0 (readied w s) t ⊎ Paid i (readied w s) t → By (Elsewhere x c) t
        go (inl h) = inl (record { count = let k = h.count in omega arith })
        go (inr h) = inr h
    note_weighs from t (Deliver m x verb ys) d = as_read (Deliver m x verb ys) t (given (Weighs i _) (readied w s) t _ d.gives ((note_adds i (names script v) from (read_note (names_of s) (Deliver m x verb ys)) tt).after (readied w s)))
    note_weighs from t (Open j x) d = as_read (Open j x) t (given (Weighs i _) (readied w s) t _ d.gives ((note_adds i (names script v) from (read_note (names_of s) (Open j x)) tt).after (readied w s)))
    note_weighs from t (Ask p j x) d = as_read (Ask p j x) t (given (Weighs i _) (readied w s) t _ d.gives ((note_adds i (names script v) from (read_note (names_of s) (Ask p j x)) tt).after (readied w s)))
    note_weighs from t (SettledTo x y) d = as_read (SettledTo x y) t (given (Weighs i _) (readied w s) t _ d.gives ((note_adds i (names script v) from (read_note (names_of s) (SettledTo x y)) tt).after (readied w s)))
    note_weighs from t (Shorten x c j) d = as_read (Shorten x c j) t (given (Weighs i _) (readied w s) t _ d.gives ((note_adds i (names script v) from (read_note (names_of s) (Shorten x c j)) tt).after (readied w s)))

  -- ---- the moves

  same_world : (w y : World) → y.vats ≡ w.vats → y.links ≡ w.links → y.drawn ≡ w.drawn → Holds w → Holds y
  same_world w y e f g h = record {
    count = λ i. let c = h.count i in let asked : asked_way i y.links ≡ asked_way i w.links = ap (λ ls. asked_way i ls) f in let passes : gifts_under_way i y.links ≡ gifts_under_way i w.links = ap (λ ls. gifts_under_way i ls) f in
        let shut : shut_all i y.vats ≡ shut_all i w.vats = ap (λ vs. shut_all i vs) e in let drawn : drawn_of i y.drawn ≡ drawn_of i w.drawn = ap (λ ds. drawn_of i ds) g in omega arith;
  }

  less_world : (w y : World) → y.vats ≡ w.vats → y.drawn ≡ w.drawn → ((i : ℕ) → asked_way i y.links + gifts_under_way i y.links ≤ asked_way i w.links + gifts_under_way i w.links) → Holds w → Holds y
  less_world w y e g less h = record {
    count = λ i. let c = h.count i in let l = less i in let shut : shut_all i y.vats ≡ shut_all i w.vats = ap (λ vs. shut_all i vs) e in let drawn : drawn_of i y.drawn ≡ drawn_of i w.drawn = ap (λ ds. drawn_of i ds) g in omega arith;
  }

  severed : (a b i : ℕ) (ls : List Link) → asked_way i (with_link severed_link a b ls) + gifts_under_way i (with_link severed_link a b ls) ≤ asked_way i ls + gifts_under_way i ls
  severed a b i ls = let x = severed_asked i a b ls in let y = with_link_less (λ (l : Link). l.notes) i severed_link (severed_less i) a b ls in omega arith

  taken : (a b i : ℕ) (ls : List Link) (l : Link) (n : Note Name) (ns : List (Note Name)) → link_at a b ls ≡ Some l → l.notes ≡ n ∷ ns
      → asked_way i (with_link (with_notes ns) a b ls) + gifts_under_way i (with_link (with_notes ns) a b ls) + once (asks_for i n) + gifts_in_note i n ≤ asked_way i ls + gifts_under_way i ls
  taken a b i ls l n ns e f = let x = taken_asked i a b ls l n ns e f in let y = hide.taken_sum i a b n ns l f ls e in omega arith

  module _ (w y : World) (v : ℕ) (s t : Vat Name) (there : slice_get w.vats v ≡ Some s) (ls : List Link) (vats : y.vats ≡ world.put_at v t w.vats) (links : y.links ≡ push_all v t.outbox ls) (drawn : y.drawn ≡ t.drawn) (i : ℕ) where
    -- what stands after it
    goes_on : asked_way i y.links + gifts_under_way i y.links + shut_all i y.vats + shut_in i s.gifts ≤ asked_way i ls + gifts_under_way i ls + asks_put i t.outbox + gifts_out i t.outbox + shut_all i w.vats + shut_in i t.gifts
    goes_on =
        let asked : asked_way i y.links ≡ asked_way i (push_all v t.outbox ls) = ap (λ ks. asked_way i ks) links in let passes : gifts_under_way i y.links ≡ gifts_under_way i (push_all v t.outbox ls) = ap (λ ks. gifts_under_way i ks) links in
        let shut : shut_all i y.vats ≡ shut_all i (world.put_at v t w.vats) = ap (λ vs. shut_all i vs) vats in
        let more = pushes_asked i v t.outbox ls in let out = push_all_gifts (λ (l : Link). l.notes) i (pushed_notes i) v t.outbox ls in let put = put_shut i v s t w.vats there in omega arith

    drawn_is : drawn_of i y.drawn ≡ drawn_of i t.drawn
    drawn_is = ap (λ ds. drawn_of i ds) drawn

  provided : (w : World) (past : Past script w) (a v : ℕ) (n : Note Name) (ns : List (Note Name)) (l : Link) → link_at a v w.links ≡ Some l → l.notes ≡ n ∷ ns → Provides past.2.0 w.drawn a v n
  provided w past a v n ns l at notes = let fits = past.2 in let o = fits.1 in head (found_tells fits.0 w.drawn a v l w.links o.links at)
    where
      head : Each (Provides past.2.0 w.drawn a v) l.notes → Provides past.2.0 w.drawn a v n
      head k = let one : Each (Provides past.2.0 w.drawn a v) (n ∷ ns) = subst (λ ms. Each (Provides past.2.0 w.drawn a v) ms) notes k in one.0

  pub moved : (w y : World) → Past script w → Past script y → Moved script w y → Holds w → Holds y
  moved w y p r (Still vats links drawn) h = same_world w y vats links drawn h
  moved w y p r (Severs a b vats links drawn) h = less_world w y vats drawn (λ i. let one = with_link severed_link a b w.links in let x = severed a b i w.links in let z = severed b a i one in
      let asked : asked_way i y.links ≡ asked_way i (with_link severed_link b a one) = ap (λ ls. asked_way i ls) links in let passes : gifts_under_way i y.links ≡ gifts_under_way i (with_link severed_link b a one) = ap (λ ls. gifts_under_way i ls) links in omega arith) h
  moved w y p r (Drops a v n ns l at notes none vats links drawn) h = less_world w y vats drawn (λ i. let x = taken a v i w.links l n ns at notes in
      let asked : asked_way i y.links ≡ asked_way i (with_link (with_notes ns) a v w.links) = ap (λ ls. asked_way i ls) links in let passes : gifts_under_way i y.links ≡ gifts_under_way i (with_link (with_notes ns) a v w.links) = ap (λ ls. gifts_under_way i ls) links in omega arith) h
  moved w y p r (Steps v s q t what alone d vats links drawn first fresh) h = record {
    count = λ i. let had = h.count i in let on = goes_on w y v s t d.there w.links vats links drawn i in let new = drawn_is w y v s t d.there w.links vats links drawn i in
        let step = (alone_weighs w v s i q t what alone d).count in let none = none_out w v s i q in let gifts : shut_in i q.gifts ≡ shut_in i s.gifts = ap (λ gs. shut_in i gs) d.gifts in
        let out = alone_out i script w v s q t what alone d in let before = same_drawn i w.drawn in let after = same_drawn i t.drawn in let a = none.0 in let b = none.2 in omega arith;
  }
  moved w y p r (Arrives a v s t n ns l at cut notes d vats links drawn first fresh) h = record { count = λ i. arrived i (note_weighs w v s i a t n d) }
    where
      arrived : (i : ℕ) → By w v s i n t → asked_way i y.links + gifts_under_way i y.links + shut_all i y.vats ≤ drawn_of i y.drawn
      arrived i (inl k) = let had = h.count i in let on = goes_on w y v s t d.there (with_link (with_notes ns) a v w.links) vats links drawn i in let new = drawn_is w y v s t d.there (with_link (with_notes ns) a v w.links) vats links drawn i in
          let less = taken a v i w.links l n ns at notes in let step = k.count in let none = none_out w v s i s in let x = none.0 in let z = none.2 in
          let out = note_out i script w v s p.2.0 t a n (provided w p a v n ns l at notes) d in let before = same_drawn i w.drawn in let after = same_drawn i t.drawn in omega arith
      arrived i (inr k) = let had = h.count i in let on = goes_on w y v s t d.there (with_link (with_notes ns) a v w.links) vats links drawn i in let new = drawn_is w y v s t d.there (with_link (with_notes ns) a v w.links) vats links drawn i in
          let less = taken a v i w.links l n ns at notes in let step = k.count in let none = none_out w v s i s in let x = none.0 in let g = none.1 in let z = none.2 in let u = none.3 in omega arith

  begins_holds : Holds (world.begins script)
  unfolding world.begins
  begins_holds = record {
    count = λ i. let asked = quiet_asked i (world.links_from script.vats zero script.vats) (links_from_quiet script.vats zero script.vats) in
        let passes = links_from_none (λ (l : Link). l.notes) i (λ v w p. refl) script.vats zero script.vats in let shut = none_shut script i zero script.vats in omega arith;
  }

  module _ (knows : KnowsOnce script) where
    opened_holds : (ps rest : List Program) (w : World) → script.vats ≡ ps ++ rest → world.open_from script zero ps (world.begins script) ≡ Going w → Holds w
    opened_holds = opened_hold script (Past script) (opened_past script knows) (stepped_past script knows) (λ w p. stands_of script w p.0) Holds moved begins_holds

    stepped_holds : (w x : World) (es : List Entry) (k : ℕ) → world.open_from script zero script.vats (world.begins script) ≡ Going w → world.steps_from script es k w ≡ Going x → Holds x
    stepped_holds = stepped_hold script (Past script) (opened_past script knows) (stepped_past script knows) (λ w p. stands_of script w p.0) Holds moved begins_holds

-- where one is asked for, none stands unopened
opened : (w : World) → Holds w → (u v : ℕ) (l : Link) (p i : ℕ) (n : Name) → link_at u v w.links ≡ Some l → IsAmong (Ask p i n) l.notes → (b : ℕ) (s : Vat Name) (g : GiftEntry Name) → slice_get w.vats b ≡ Some s → IsAmong g s.gifts → g.number ≡ i → g.opened ≡ true
opened w h u v l p i n at asks b s g there among number = go g.opened refl
  where
    go : (c : Bool) → g.opened ≡ c → c ≡ true
    go true e = refl
    go false e = let one = found_asked i u v p n w.links l at asks in let two = found_shut i b s g w.vats there among number e in let all = h.count i in let most = drawn_most i w.drawn in absurd (omega arith)

pub asked_for_are_opened : AskedForAreOpened
asked_for_are_opened script knows = (
  λ ps rest w e i. opened w (opened_holds script knows ps rest w e i),
  λ w x es k e i. opened x (stepped_holds script knows w x es k e i),
)
