-- In every world of a run each gift passes once at most, and each word has one provider.
use Rattle.std.proofs.Common.{◌≡◌, ℕ, zero, suc, ◌+◌, ◌≤◌, Bool, true, false, List, [], ◌∷◌, Option, Some, None, refl, sym, ap, ◌∙◌, ◌⊎◌, inl, inr, ◌==◌, arith}
use Rattle.std.specs.Prelude.{slice_get}
use Rattle.std.proofs.lemmas.Bool.{eqb-true}
use Rattle.def_machine.specs.Values.{Name, Root, key, word_of, provider_of}
use Rattle.def_machine.specs.State.{Message, Passed, Passeds, Plain, AGift, Many, NoMore, More, Note, Deliver, SettledTo, GiftEntry, Vat, Done, Gives}
use Rattle.def_machine.specs.Eval.{opening}
use Rattle.def_machine.specs.Arrive.{notice}
use Rattle.law_machine.specs.Machine.Steps.{After}
use Rattle.def_machine.proofs.Keys.{key_of}
use Rattle.def_run.specs.Draws.{draw_word}
use Rattle.def_run.specs.World as world
use Rattle.def_run.specs.World.{Script, Program, Entry, Turn, Carry, CutLink, NoticeLink, Event, Link, World, Run, Goes as Going, Stopped, names, names_of}
use Rattle.law_fate.specs.Fates.Fate.{once}
use Rattle.law_fate.specs.Fates.Lasting.{Each}
use Rattle.law_fate.specs.Fates.FateRuns.{Reached, InRuns}
use Rattle.law_reference.specs.Reference.Standing.{IsEntered, DrawsDiffer, HasWord, WordsDiffer, EachDrawStandsOnce}
use Rattle.law_reference.specs.Reference.GiftPassing.{gifts_in, gifts_in_all, gifts_in_note, gifts_in_notes, gifts_on, gifts_put, gifts_under_way, drawn_of, IsProvidedBy, PassesFrom, AllPassFrom, Provides, IsProvided, GiftsPassOnce, EachDrawHasOneProvider}
use Rattle.law_reference.proofs.Reference.Puts.{AllStay, Fair, gifts_out, each_up, provides_up}
use Rattle.law_reference.proofs.Reference.ArrivePuts.{fair_notice}
use Rattle.law_reference.proofs.Reference.StepsPuts.{later, later_new, later_up, fair_taking, fair_opening, arrival_ends}
use Rattle.law_reference.proofs.Reference.RunLift.{put_at_or, put_one}
use Rattle.law_reference.proofs.Reference.GiftLinks.{LinkTells, pushed_notes, pushed_log, push_all_gifts, with_link_less, severed_less, severed_log, taken_less, taken_log, with_link_tells, push_all_tells, severed_tells, taken_tells, found_tells, links_from_tell, links_from_none}

-- with P as the provider of each word
pub record Holds (P : ℕ → ℕ) (w : World) : Type 0 where
  pub put : (i : ℕ) → gifts_put i w.links ≤ drawn_of i w.drawn
  pub count : (i : ℕ) → gifts_under_way i w.links ≤ drawn_of i w.drawn
  pub links : Each (LinkTells P w.drawn) w.links
  pub vats : (v : ℕ) (s : Vat Name) → slice_get w.vats v ≡ Some s → (s.number ≡ v) × Each (IsProvided P w.drawn) s.gifts × DrawsDiffer s.gifts

abbrev pub Fits : World → Type 0
Fits w = (P : ℕ → ℕ) × Holds P w

-- what a step of vat v makes of the world, where all words of the step have provider q
put_back_fits : (P : ℕ → ℕ) (q v : ℕ) (w : World) (head : List Event) (n : ℕ) (s : Vat Name) (d : Done Name (Unit {0})) → Holds P w → s.number ≡ v → Each (IsProvided P w.drawn) s.gifts → DrawsDiffer s.gifts
    → After (Fair v w.drawn (later P w.drawn q)) (world.readied w s) d → Reached Fits (world.put_back v w head n d)
unfolding world.put_back world.readied gifts_out
put_back_fits P q v w head n s (Gives a t) h e g f k = (
  later P w.drawn q,
  record {
    put = λ i. let pushed = push_all_gifts (λ (l : Link). l.log) i (pushed_log i) v t.outbox w.links in let puts = k.puts in let c = puts.count i in let b = h.put i in omega arith;
    count = λ i. let pushed = push_all_gifts (λ (l : Link). l.notes) i (pushed_notes i) v t.outbox w.links in let puts = k.puts in let c = puts.count i in let b = h.count i in omega arith;
    links = push_all_tells (later P w.drawn q) t.drawn v t.outbox w.links (let puts = k.puts in puts.outs e (λ x a. a) tt) (each_up (LinkTells P w.drawn) (LinkTells (later P w.drawn q) t.drawn) (λ l j. (up_all l.from l.to l.log j.0, up_all l.from l.to l.notes j.1)) w.links h.links);
    vats = λ u r i. put_one Vat_ok v w.vats t (let puts = k.puts in puts.number e, let puts = k.puts in puts.gifts (λ x a. a) (up_gifts w.drawn (λ x a. a) s.gifts g), let puts = k.puts in puts.once (λ x a. a) (up_gifts w.drawn (λ x a. a) s.gifts g) f) others u r (put_at_or v t w.vats u r i);
  },
)
  where
    more : AllStay w.drawn t.drawn
    more = let puts = k.puts in puts.drawn

    Vat_ok : ℕ → Vat Name → Type 0
    Vat_ok u r = (r.number ≡ u) × Each (IsProvided (later P w.drawn q) t.drawn) r.gifts × DrawsDiffer r.gifts

    up_all : (from to : ℕ) (ns : List (Note Name)) → Each (Provides P w.drawn from to) ns → Each (Provides (later P w.drawn q) t.drawn from to) ns
    up_all from to ns j = each_up (Provides P w.drawn from to) (Provides (later P w.drawn q) t.drawn from to) (λ m o. provides_up P (later P w.drawn q) w.drawn t.drawn (later_up P w.drawn q t.drawn more) from to m o) ns j

    up_gifts : (e : List ℕ) → AllStay w.drawn e → (gs : List (GiftEntry Name)) → Each (IsProvided P w.drawn) gs → Each (IsProvided (later P w.drawn q) e) gs
    up_gifts e l gs j = each_up (IsProvided P w.drawn) (IsProvided (later P w.drawn q) e) (λ x o. later_up P w.drawn q e l x.number x.provider o) gs j

    others : (u : ℕ) (r : Vat Name) → slice_get w.vats u ≡ Some r → Vat_ok u r
    others u r i = let o = h.vats u r i in (o.0, up_gifts t.drawn more r.gifts o.1, o.2)
put_back_fits P q v w head n s other h e g f k = (P, h)

module _ (script : Script) where
  idle_fits : (k : ℕ) (w : World) → Fits w → Reached Fits (world.idle script k w)
  unfolding world.idle
  idle_fits k w h = let o = h.1 in (h.0, record { put = o.put; count = o.count; links = o.links; vats = o.vats })

  -- what P tells of the words that were drawn, and v of all later ones
  abbrev From : (ℕ → ℕ) → World → ℕ → ℕ → ℕ
  From P w v = later P w.drawn v

  turn_queue_fits : (k v : ℕ) (w : World) (s : Vat Name) (ms : List (Message Name)) → slice_get w.vats v ≡ Some s → Fits w → Reached Fits (world.turn_queue script k v w s ms)
  unfolding world.turn_queue world.within names
  turn_queue_fits k v w s [] i h = idle_fits k w h
  turn_queue_fits k v w s (m ∷ ms) i h = let o = h.1 in let a = o.vats v s i in put_back_fits h.0 v v w _ _ (record s { queue = ms }) _ o a.0 a.1 a.2
      ((fair_taking v w.drawn (From h.0 w v) (later_new h.0 w.drawn v) (draw_word script.key) (world.tree_at script.vats v) script.depth m).after (world.readied w (record s { queue = ms })))

  turn_fits : (k v : ℕ) (w : World) (o : Option (Vat Name)) → slice_get w.vats v ≡ o → Fits w → Reached Fits (world.turn script k v w o)
  unfolding world.turn
  turn_fits k v w None i h = idle_fits k w h
  turn_fits k v w (Some s) i h = turn_queue_fits k v w s s.queue i h

  arrives_fits : (k v to : ℕ) (w : World) (n : Note Name) (P : ℕ → ℕ) → Holds P w → Provides P w.drawn v to n → (o : Option (Vat Name)) → slice_get w.vats to ≡ o → Reached Fits (world.arrives script k v to w n o)
  unfolding world.arrives world.within names
  arrives_fits k v to w n P h t None i = idle_fits k w (P, h)
  arrives_fits k v to w n P h t (Some s) i = let a = h.vats to s i in let ends = arrival_ends P w.drawn v to (draw_word script.key) (names_of s) (world.readied w s) n t in
      put_back_fits P ends.0 to w _ _ s _ h a.0 a.1 a.2 ends.1

  -- the world once a note was taken from its link
  taken_holds : (P : ℕ → ℕ) (v to : ℕ) (w : World) (l : Link) (n : Note Name) (ns : List (Note Name)) → world.link_at v to w.links ≡ Some l → l.notes ≡ n ∷ ns → Each (Provides P w.drawn v to) (n ∷ ns) → Holds P w → Holds P (record w { links = world.with_link (world.with_notes ns) v to w.links })
  taken_holds P v to w l n ns e f t h = record {
    put = λ i. let a = with_link_less (λ (j : Link). j.log) i (world.with_notes ns) (taken_log i ns) v to w.links in let b = h.put i in omega arith;
    count = λ i. let a = taken_less i v to n ns l f w.links e in let b = h.count i in omega arith;
    links = with_link_tells P w.drawn (world.with_notes ns) v to (taken_tells P w.drawn v to ns t.1) w.links h.links;
    vats = h.vats;
  }

  carry_notes_fits : (k v to : ℕ) (w : World) (l : Link) (ns : List (Note Name)) (P : ℕ → ℕ) → world.link_at v to w.links ≡ Some l → l.notes ≡ ns → Each (Provides P w.drawn v to) ns → Holds P w → Reached Fits (world.carry_notes script k v to w ns)
  unfolding world.carry_notes
  carry_notes_fits k v to w l [] P e f t h = idle_fits k w (P, h)
  carry_notes_fits k v to w l (n ∷ ns) P e f t h = arrives_fits k v to (record w { links = world.with_link (world.with_notes ns) v to w.links }) n P (taken_holds P v to w l n ns e f t h) t.0 (slice_get w.vats to) refl

  carry_cut_fits : (k v to : ℕ) (w : World) (l : Link) (b : Bool) → world.link_at v to w.links ≡ Some l → Fits w → Reached Fits (elim b [ true ↦ world.idle script k w | false ↦ world.carry_notes script k v to w l.notes ])
  carry_cut_fits k v to w l true e h = idle_fits k w h
  carry_cut_fits k v to w l false e h = let o = h.1 in carry_notes_fits k v to w l l.notes h.0 e refl (found_tells h.0 w.drawn v to l w.links o.links e) o

  carry_link_fits : (k v to : ℕ) (w : World) (o : Option Link) → world.link_at v to w.links ≡ o → Fits w → Reached Fits (world.carry_link script k v to w o)
  unfolding world.carry_link
  carry_link_fits k v to w None e h = idle_fits k w h
  carry_link_fits k v to w (Some l) e h = carry_cut_fits k v to w l l.cut e h

  cut_fits : (k v to : ℕ) (w : World) → Fits w → Reached Fits (world.cut script k v to w)
  unfolding world.cut
  cut_fits k v to w h = let o = h.1 in let d = w.drawn in (
    h.0,
    record {
      put = λ i. let a = with_link_less (λ (l : Link). l.log) i world.severed_link (severed_log i) v to w.links in let b = with_link_less (λ (l : Link). l.log) i world.severed_link (severed_log i) to v (world.with_link world.severed_link v to w.links) in let c = o.put i in omega arith;
      count = λ i. let a = with_link_less (λ (l : Link). l.notes) i world.severed_link (severed_less i) v to w.links in let b = with_link_less (λ (l : Link). l.notes) i world.severed_link (severed_less i) to v (world.with_link world.severed_link v to w.links) in let c = o.count i in omega arith;
      links = with_link_tells h.0 d world.severed_link to v (λ l a b j. severed_tells h.0 d l j) (world.with_link world.severed_link v to w.links) (with_link_tells h.0 d world.severed_link v to (λ l a b j. severed_tells h.0 d l j) w.links o.links);
      vats = o.vats;
    },
  )

  notice_fits : (k v to : ℕ) (w : World) (o : Option (Vat Name)) → slice_get w.vats v ≡ o → Fits w → Reached Fits (world.within v w (world.NoticedAt k v to ∷ []) (world.step_number script k) (notice (names script v) to) o)
  unfolding world.within names
  notice_fits k v to w None i h = h
  notice_fits k v to w (Some s) i h = let o = h.1 in let a = o.vats v s i in put_back_fits h.0 v v w _ _ s _ o a.0 a.1 a.2
      ((fair_notice v w.drawn (From h.0 w v) (later_new h.0 w.drawn v) (draw_word script.key) to).after (world.readied w s))

  step_fits : (entry : Entry) (k : ℕ) (w : World) → Fits w → Reached Fits (world.step script entry k w)
  unfolding world.step
  step_fits (Turn v) k w h = turn_fits k v w (slice_get w.vats v) refl h
  step_fits (Carry v to) k w h = carry_link_fits k v to w (world.link_at v to w.links) refl h
  step_fits (CutLink v to) k w h = cut_fits k v to w h
  step_fits (NoticeLink v to) k w h = notice_fits k v to w (slice_get w.vats v) refl h

  then_fits : (r : Run) (f : World → Run) → Reached Fits r → ((y : World) → Fits y → Reached Fits (f y)) → Reached Fits (world.then_goes r f)
  unfolding world.then_goes
  then_fits (Going y) f h g = g y h
  then_fits (Stopped c n y) f h g = h

  steps_fit : (es : List Entry) (k : ℕ) (w : World) → Fits w → Reached Fits (world.steps_from script es k w)
  unfolding world.steps_from
  steps_fit [] k w h = h
  steps_fit (entry ∷ es) k w h = then_fits (world.step script entry k w) (world.steps_from script es (suc k)) (step_fits entry k w h) (λ y i. steps_fit es (suc k) y i)

  open_fits : (v : ℕ) (p : Program) (w : World) (o : Option (Vat Name)) → slice_get w.vats v ≡ o → Fits w → Reached Fits (world.within v w (world.Opens v ∷ []) v (opening (names script v) p.tree script.depth (Root v) (world.given script.vats p.knows)) o)
  unfolding world.within names
  open_fits v p w None i h = h
  open_fits v p w (Some s) i h = let o = h.1 in let a = o.vats v s i in put_back_fits h.0 v v w _ _ s _ o a.0 a.1 a.2
      ((fair_opening v w.drawn (From h.0 w v) (later_new h.0 w.drawn v) (draw_word script.key) p.tree script.depth (Root v) (world.given script.vats p.knows)).after (world.readied w s))

  opens_fit : (v : ℕ) (ps : List Program) (w : World) → Fits w → Reached Fits (world.open_from script v ps w)
  unfolding world.open_from world.open_vat
  opens_fit v [] w h = h
  opens_fit v (p ∷ ps) w h = then_fits (world.open_vat script v p w) (world.open_from script (suc v) ps) (open_fits v p w (slice_get w.vats v) refl h) (λ y i. opens_fit (suc v) ps y i)

  -- ---- the start

  fresh_fits : (u : ℕ) (ps : List Program) (n : ℕ) (s : Vat Name) → slice_get (world.fresh_from script u ps) n ≡ Some s → (s.number ≡ u + n) × (s.gifts ≡ [])
  unfolding world.fresh_from world.fresh
  fresh_fits u [] n s e = cc
  fresh_fits u (p ∷ ps) zero s e = let same : world.fresh script u p ≡ s = cc in fresh_is u p s same
    where
      fresh_is : (u : ℕ) (p : Program) (s : Vat Name) → world.fresh script u p ≡ s → (s.number ≡ u + zero) × (s.gifts ≡ [])
      fresh_is u p s e = rw (sym e) (omega arith, refl)
  fresh_fits u (p ∷ ps) (suc n) s e = let r = fresh_fits (suc u) ps n s e in let a = r.0 in (omega arith, r.1)

  no_gifts : (P : ℕ → ℕ) (d : List ℕ) (gs : List (GiftEntry Name)) → gs ≡ [] → Each (IsProvided P d) gs
  no_gifts P d gs e = rw e tt

  no_draws : (gs : List (GiftEntry Name)) → gs ≡ [] → DrawsDiffer gs
  no_draws gs e = rw e tt

  begins_fits : Fits (world.begins script)
  unfolding world.begins
  begins_fits = (
    λ i. zero,
    record {
      put = λ i. let none = links_from_none (λ (l : Link). l.log) i (λ v w p. refl) script.vats zero script.vats in omega arith;
      count = λ i. let none = links_from_none (λ (l : Link). l.notes) i (λ v w p. refl) script.vats zero script.vats in omega arith;
      links = links_from_tell (λ i. zero) [] script.vats zero script.vats;
      vats = λ v s e. let r = fresh_fits zero script.vats v s e in let a = r.0 in (omega arith, no_gifts (λ i. zero) [] s.gifts r.1, no_draws s.gifts r.1);
    },
  )

-- ---- the laws

reached_map : (P Q : World → Type 0) → ((w : World) → P w → Q w) → (r : Run) → Reached P r → Reached Q r
reached_map P Q f (Going w) h = f w h
reached_map P Q f (Stopped c k w) h = f w h

pub reached_is : (P : World → Type 0) (r : Run) (w : World) → r ≡ Going w → Reached P r → P w
reached_is P r w e h = rw e at h

pub fits_opened : (script : Script) (ps : List Program) (w : World) → world.open_from script zero ps (world.begins script) ≡ Going w → Fits w
fits_opened script ps w e = reached_is Fits _ w e (opens_fit script zero ps (world.begins script) (begins_fits script))

pub fits_stepped : (script : Script) (w x : World) (es : List Entry) (k : ℕ) → world.open_from script zero script.vats (world.begins script) ≡ Going w → world.steps_from script es k w ≡ Going x → Fits x
fits_stepped script w x es k e i = reached_is Fits _ x i (steps_fit script es k w (fits_opened script script.vats w e))

pub in_runs : (P : World → Type 0) → ((w : World) → Fits w → P w) → InRuns P
in_runs P f script = (
  λ ps. reached_map Fits P f _ (opens_fit script zero ps (world.begins script) (begins_fits script)),
  λ w es k opened. reached_map Fits P f _ (steps_fit script es k w (fits_opened script script.vats w opened)),
)

-- ---- the gifts put under one word

-- keys of one word, of which one provider is told, are one
same_key : (P : ℕ → ℕ) (i j : ℕ) → P (word_of i) ≡ provider_of i → P (word_of j) ≡ provider_of j → word_of i ≡ word_of j → i ≡ j
same_key P i j f g e = sym (key_of (P (word_of i)) i (sym f)) ∙ ap (λ (x : ℕ). key (P x) x) e ∙ key_of (P (word_of j)) j (sym g)

some_of : (x y : ℕ) → 1 ≤ x + y → (1 ≤ x) ⊎ (1 ≤ y)
some_of zero y h = inr (omega arith)
some_of (suc x) y h = inl (omega arith)

module _ (P : ℕ → ℕ) (d : List ℕ) (i : ℕ) where
  -- its provider is that of its word
  abbrev Tells : Type 0
  Tells = P (word_of i) ≡ provider_of i

  of_some : {A B : Type 0} → A ⊎ B → (A → Tells) → (B → Tells) → Tells
  of_some (inl a) f g = f a
  of_some (inr b) f g = g b

  that_gift : (j v : ℕ) (b : Bool) → (i == j) ≡ b → IsProvidedBy P d j v → 1 ≤ once b → Tells
  unfolding once
  that_gift j v true e h l = let same : i ≡ j = eqb-true i j e in ap (λ (k : ℕ). P (word_of k)) same ∙ h.1 ∙ sym h.2 ∙ ap provider_of (sym same)
  that_gift j v false e h l = absurd (omega arith)

  mutual
    unfolding gifts_in gifts_in_all

    passed_gift : (v w : ℕ) (y : Passed Name) → PassesFrom P d v w y → 1 ≤ gifts_in i y → Tells
    passed_gift v w (Plain y) h l = absurd (omega arith)
    passed_gift v w (AGift g j) h l = that_gift j v (i == j) refl h.0 l
    passed_gift v w (Many ys) h l = all_gifts v w ys h l

    all_gifts : (v w : ℕ) (ys : Passeds Name) → AllPassFrom P d v w ys → 1 ≤ gifts_in_all i ys → Tells
    all_gifts v w NoMore h l = absurd (omega arith)
    all_gifts v w (More y ys) h l = of_some (some_of (gifts_in i y) (gifts_in_all i ys) l) (λ k. passed_gift v w y h.0 k) (λ k. all_gifts v w ys h.1 k)

  note_gift : (v w : ℕ) (n : Note Name) → Provides P d v w n → 1 ≤ gifts_in_note i n → Tells
  unfolding gifts_in_note
  note_gift v w (Deliver m n verb ys) h l = all_gifts v w ys h l
  note_gift v w (SettledTo n y) h l = passed_gift v w y h l
  note_gift v w other h l = absurd (omega arith)

  notes_gift : (v w : ℕ) (ns : List (Note Name)) → Each (Provides P d v w) ns → 1 ≤ gifts_in_notes i ns → Tells
  unfolding gifts_in_notes
  notes_gift v w [] h l = absurd (omega arith)
  notes_gift v w (n ∷ ns) h l = of_some (some_of (gifts_in_note i n) (gifts_in_notes i ns) l) (λ k. note_gift v w n h.0 k) (λ k. notes_gift v w ns h.1 k)

  links_gift : (ls : List Link) → Each (LinkTells P d) ls → 1 ≤ gifts_put i ls → Tells
  unfolding gifts_on
  links_gift [] h l = absurd (omega arith)
  links_gift (j ∷ ls) h l = of_some (some_of (gifts_in_notes i j.log) (gifts_put i ls) l) (λ k. notes_gift j.from j.to j.log h.0.0 k) (λ k. links_gift ls h.1 k)

one_key : (P : ℕ → ℕ) (d : List ℕ) (ls : List Link) → Each (LinkTells P d) ls → (i j : ℕ) → 1 ≤ gifts_put i ls → 1 ≤ gifts_put j ls → word_of i ≡ word_of j → i ≡ j
one_key P d ls h i j k l e = same_key P i j (links_gift P d i ls h k) (links_gift P d j ls h l) e

pub gifts_pass_once : GiftsPassOnce
gifts_pass_once = in_runs _ (λ w h. let o = h.1 in (λ i. (o.put i, o.count i), one_key h.0 w.drawn w.links o.links))

pub one_provider : EachDrawHasOneProvider
one_provider = in_runs _ (λ w h. let o = h.1 in (h.0, o.links, λ v s e. (o.vats v s e).1))

-- ---- the gifts at a vat

entered_key : (P : ℕ → ℕ) (d : List ℕ) (i : ℕ) (gs : List (GiftEntry Name)) → P (word_of i) ≡ provider_of i → Each (IsProvided P d) gs → HasWord (word_of i) gs → IsEntered i gs
entered_key P d i [] e h a = a
entered_key P d i (g ∷ gs) e h (inl f) = inl (same_key P g.number i (h.0.1 ∙ sym h.0.2) e f)
entered_key P d i (g ∷ gs) e h (inr a) = inr (entered_key P d i gs e h.1 a)

words_differ : (P : ℕ → ℕ) (d : List ℕ) (gs : List (GiftEntry Name)) → Each (IsProvided P d) gs → DrawsDiffer gs → WordsDiffer gs
words_differ P d [] h k = tt
words_differ P d (g ∷ gs) h k = (λ a. k.0 (entered_key P d g.number gs (h.0.1 ∙ sym h.0.2) h.1 a), words_differ P d gs h.1 k.1)

pub draws_once : EachDrawStandsOnce
draws_once = in_runs _ (λ w h v s e. let o = h.1 in let a = o.vats v s e in words_differ h.0 w.drawn s.gifts a.1 a.2)
