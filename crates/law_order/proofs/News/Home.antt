-- A vat is told that a name settled to an object of its own: it makes a gift at home, which is the name's view from then on.
use Rattle.std.proofs.Common.{◌≡◌, ℕ, zero, Bool, true, false, List, [], ◌∷◌, ◌++◌, Option, Some, None, refl, sym, ap, subst, ◌∙◌, inl, eq-eqb}
use Rattle.std.specs.Prelude.{slice_get, not, codes, ◌==◌, ◌&&◌, if◌then◌else◌}
use Rattle.def_machine.specs.Values.{Value, Broken, Ref, Name, Answer, Naming, IsGift, host_of, naming, name_of, key, word_of, under}
use Rattle.def_machine.proofs.Keys.{word_key}
use Rattle.def_machine.specs.State.{Known, Note, Ask, Shorten, Unsettled, Wait, See, Views, GiftEntry, Vat, begun, is_in, drawn_at, with_change}
use Rattle.def_machine.specs.State as state
use Rattle.def_machine.specs.Arrive as arriving
use Rattle.def_machine.specs.Arrive.{gift_at}
use Rattle.def_machine.specs.Refs as refs
use Rattle.def_machine.specs.Refs.{Mine, Away, entry_of, standing_of}
use Rattle.def_run.specs.World as world
use Rattle.def_run.specs.World.{Script, Link, World, names}
use Rattle.law_order.specs.Ordering.Ways.{Held, Way, Item, IsIn, Place, Free, End, Mid, Ways}
use Rattle.law_order.specs.Ordering.Turns.{Within, Comes, is_there, on_end}
use Rattle.law_order.specs.Ordering.Places.{delivered, opened_there, is_honest, gift_place, aimed, unsettled, released, released_at, stands_at, onward_at, ways_of, ways, amid}
use Rattle.law_order.specs.Ordering.Worlds.{IfGives}
use Rattle.law_order.specs.Ordering.Settle.{aimed_at}
use Rattle.law_order.specs.Ordering.Steps.{WaysAmid, LeadsAmid, Ready, StaysReady, still_held}
use Rattle.law_order.specs.Ordering.Arrivals.{IsOpenWay}
use Rattle.law_order.proofs.Ordering.Arrived.{IsOpen, all_open}
use Rattle.law_order.proofs.Ordering.Below.{LinksLack, links_lack, key_is_new}
use Rattle.law_order.proofs.Ordering.News.{asked, stays_then}
use Rattle.law_order.proofs.Ordering.Sends.{get_put, push_last}
use Rattle.law_order.proofs.Ordering.Standing.{Row, OnLink, row_still}
use Rattle.law_order.specs.Arrivals.Tellings.{IsTidy, IsTold, IsToldOf}
use Rattle.law_order.specs.Arrivals.Notes.{EndsOver, KeepsAll}
use Rattle.law_order.specs.Arrivals.Wholes.{KeepsOwnOrder}
use Rattle.law_order.specs.Arrivals.Views.{view_word, view_key, view_name, asked_vat, seen_vat}
use Rattle.law_order.proofs.Arrivals.Asked.{gift_asked}
use Rattle.law_order.proofs.Arrivals.Told.{spot_plain}
use Rattle.law_order.proofs.Arrivals.TrueNotes.{viewed_names_keep}
use Rattle.law_order.proofs.Carries.Learning.{come_stays, gift_is_new}
use Rattle.law_order.proofs.Asks.Gifts.{gift_stays, opened_same}
use Rattle.law_order.proofs.News.Seeing as seeing

-- what keeps all keeps that of what the receiver has
pub own_all : (script : Script) (honest : ℕ → Bool) (w : World) (v : ℕ) (s t : Vat Name) → KeepsAll script honest w v s t → KeepsOwnOrder script honest w v s t
own_all script honest w v s t g = record { references = g.0.references; passings = g.1; apart = λ m l b n i h. g.0.stands m l b n h; held = λ m p b n h. still_held (g.0.stands m (Held v p) b n h) }

module _ (script : Script) (v h : ℕ) (s : Vat Name) (n : Name) where
  abbrev K : Naming Name Name
  K = names script v

  abbrev Word : ℕ
  Word = view_word script v h v n s

  abbrev Key : ℕ
  Key = view_key script v h v n s

  abbrev pub Q : Name
  Q = view_name script v h v n s

  abbrev New : GiftEntry Name
  New = record { name = Q; provider = h; number = Key; opened = false }

  abbrev First : Vat Name
  First = record s { drawn = s.drawn ++ Word ∷ []; outbox = s.outbox ++ record { to = h; note = Shorten n v Key } ∷ [] }

  abbrev Second : Vat Name
  Second = record First { known = s.known ++ begun Q v ∷ [] }

  -- the vat once it has the gift, and once it has it as the view
  abbrev pub Had : Vat Name
  Had = record Second { gifts = s.gifts ++ New ∷ [] }

  abbrev pub Saw : Vat Name
  Saw = record Had { known = with_change K (Wait n) Q (with_change K (See Q) n Had.known); happened = s.happened ++ Views n Q ∷ [] }

  -- ---- where the arrival comes to

  module _ (k : Known Name) (known : entry_of K s.known n ≡ Some k) (host : k.host ≡ h) (own : s.number ≡ v) (none : drawn_at zero Word s.drawn ≡ None → gift_at h Key s.gifts ≡ None) where
    abbrev pub Sees : Vat Name → Type 0
    Sees t = (drawn_at zero Word s.drawn ≡ None) × (t ≡ Saw)

    true_false : {A : Type 0} → false ≡ true → A
    true_false e = cc

    some_none : {A : Type 0} (g : GiftEntry Name) → Some g ≡ None → A
    some_none g e = cc

    abbrev Drawn : Vat Name
    Drawn = record s { drawn = s.drawn ++ Word ∷ [] }

    abbrev Rest : ℕ → ℕ → state.Act Name (Unit {0})
    Rest a d = state.◌>>◌ (state.send_out a (Shorten n v d)) (state.◌>>=◌ (arriving.gift_there K s.number a v d) (λ q. arriving.see K n q))

    abbrev Given : Bool → ℕ → ℕ → state.Act Name Name
    Given b a d = if b then arriving.have_gift K a d else (state.◌>>=◌ (state.come K (IsGift v d) v) (λ q. state.◌>>◌ (state.send_out v (Ask a d q)) (state.give q)))

    by_new : drawn_at zero Word s.drawn ≡ None → IfGives Sees (state.and_then (arriving.gift_or_new K v h Key None First) (λ q. arriving.see K n q))
    unfolding arriving.gift_or_new state.◌>>=◌ state.◌>>◌ state.and_then state.come state.new_gift state.give state.tell state.alter arriving.see names naming name_of
    by_new f = (f, refl)

    by_gift : (u : ℕ) → u ≡ v → (g : Option (GiftEntry Name)) → g ≡ None → drawn_at zero Word s.drawn ≡ None → IfGives Sees (state.and_then (arriving.gift_or_new K u h Key g First) (λ q. arriving.see K n q))
    by_gift u e (Some g) i f = some_none g i
    by_gift u e None i f = subst (λ z. IfGives Sees (state.and_then (arriving.gift_or_new K z h Key None First) (λ q. arriving.see K n q))) (sym e) (by_new f)

    by_same : (b : Bool) → b ≡ true → drawn_at zero Word s.drawn ≡ None → IfGives Sees (state.◌>>◌ (state.send_out h (Shorten n v Key)) (state.◌>>=◌ (Given b h Key) (λ q. arriving.see K n q)) Drawn)
    unfolding arriving.have_gift state.◌>>=◌ state.◌>>◌ state.and_then state.send_out state.look
    by_same true e f = by_gift s.number own (gift_at h Key s.gifts) (none f) f
    by_same false e f = true_false e

    by_rest : drawn_at zero Word s.drawn ≡ None → IfGives Sees (Rest h Key Drawn)
    unfolding arriving.gift_there
    by_rest f = by_same (v == s.number) (eq-eqb v s.number (sym own)) f

    host_is : refs.host_at K s.number s.known n ≡ h
    unfolding refs.host_at refs.host_in
    host_is = ap (λ o. refs.host_in s.number o) known ∙ host

    key_is : (a : ℕ) → a ≡ h → under a (key s.number Word) ≡ Key
    unfolding under
    key_is a e = ap (λ z. key z (word_of (key s.number Word))) e ∙ ap (λ z. key h z) (word_key s.number Word)

    by_draw : (o : Option ℕ) → drawn_at zero Word s.drawn ≡ o → IfGives Sees (state.and_then (state.draws Word o s) (λ i. Rest (refs.host_at K s.number s.known n) (under (refs.host_at K s.number s.known n) i)))
    unfolding state.and_then state.draws
    by_draw (Some i) e = tt
    by_draw None e = subst (λ d. IfGives Sees (Rest (refs.host_at K s.number s.known n) d Drawn)) (sym (key_is (refs.host_at K s.number s.known n) host_is)) (subst (λ a. IfGives Sees (Rest a Key Drawn)) (sym host_is) (by_rest e))

    pub sees : IfGives Sees (arriving.view_there K n v s)
    unfolding arriving.view_there state.◌>>=◌ state.and_then state.look state.draw names naming
    sees = by_draw (drawn_at zero Word s.drawn) refl

  -- ---- what is told by that

  module _ (k : Known Name) (known : entry_of K s.known n ≡ Some k) (waits : k.standing ≡ Unsettled) (new : entry_of K s.known Q ≡ None) where
    pub seen : IsTold K Had Saw n (Ref Q)
    seen = let g : IsTold K (asked_vat script v h v n s) (seen_vat script v h v n s) n (Ref Q) = seeing.told script v h v s n k known waits new in record {
      number = refl;
      gifts = refl;
      noticed = refl;
      queue = refl;
      outbox = refl;
      names_known = g.names_known;
      before = g.before;
      found = g.found;
      waits = g.waits;
      after = g.after;
      found_then = g.found_then;
      leads = g.leads;
      host = g.host;
      held = g.held;
      others = g.others;
    }

-- ---- order is kept

module _ (script : Script) (honest : ℕ → Bool) (w : World) (v h : ℕ) (r s : Vat Name) (n : Name) (at : slice_get w.vats v ≡ Some r) (fresh : drawn_at zero (view_word script v h v n s) s.drawn ≡ None) (ready : Ready script honest w v s) where
  abbrev N : Naming Name Name
  N = names script v

  abbrev G : Name
  G = Q script v h s n

  abbrev D : ℕ
  D = view_key script v h v n s

  abbrev A : Vat Name
  A = Had script v h s n

  abbrev T : Vat Name
  T = Saw script v h s n

  comes : StaysReady script honest w v (First script v h s n) (Second script v h s n)
  unfolding host_of
  comes = come_stays script honest w v (First script v h s n) G (λ i. i) (Answer 0 (record { sender = 0; number = 0 })) (gift_is_new v (First script v h s n) 0 (record { sender = 0; number = 0 }) v D)

  pub had : StaysReady script honest w v s A
  had = stays_then script honest w v {s = s} {t = First script v h s n} {u = A} (asked script honest w v h (view_word script v h v n s) h v n s fresh)
      (stays_then script honest w v {s = First script v h s n} {t = Second script v h s n} {u = A} comes (gift_stays script honest w v (Second script v h s n) G h D))

  module _ (k : Known Name) (known : entry_of N s.known n ≡ Some k) (waits : k.standing ≡ Unsettled) (link : IsOpenWay honest v h w) (unnoticed : is_in v s.noticed ≡ false) (new : entry_of N s.known G ≡ None) (shut : opened_there G s.gifts ≡ false) (tidy : IsTidy script honest w v A) (told : IsToldOf script v h A T n (Ref G)) (so : EndsOver h v (LeadsAmid script honest w v A h (Ref n))) where
    abbrev Before : List Link
    Before = world.push_all v s.outbox w.links

    abbrev Asking : Note Name
    Asking = Shorten n v D

    abbrev Put : List Link
    Put = world.with_link (world.pushed Asking) v h Before

    abbrev Vats' : List (Vat Name)
    Vats' = world.put_at v T w.vats

    abbrev U : Ways
    U = WaysAmid script honest w v T

    links_are : world.push_all v A.outbox w.links ≡ Put
    links_are = push_last v s.outbox (record { to = h; note = Asking }) w.links

    open_there : IsOpen v h Before
    open_there = all_open v h v s.outbox w.links (link.link, link.found, link.uncut)

    abbrev Line : List Item
    Line = delivered open_there.0.notes

    lacks : LinksLack D Before
    lacks = links_lack s.drawn D (key_is_new h (view_word script v h v n s) s.drawn fresh) Before ready.draws

    gift_is : gift_place script honest v D Put ≡ Mid (Way v h) Line n
    gift_is = gift_asked v D n script honest v h link.sender link.receiver Before open_there.0 lacks open_there.1 open_there.2

    honest_in : (b : Bool) (js : List Item) → Within (elim b [ true ↦ js | false ↦ [] ]) js
    honest_in true js i x = x
    honest_in false js i x = absurd x

    row_is : Row script honest (world.link_at v h Put) ≡ OnLink script honest open_there.0
    unfolding delivered
    row_is = row_still script honest v h v h Asking refl Before ∙ ap (λ o. Row script honest o) open_there.1

    within : Within ((WaysAmid script honest w v A).stands (Way v h)) Line
    unfolding ways ways_of stands_at amid
    within i x = honest_in (is_honest script honest open_there.0) Line i (subst (λ js. IsIn i js) (ap (λ ls. Row script honest (world.link_at v h ls)) links_are ∙ row_is) x)

    -- ---- where the gift leads

    gift : (j : Known Name) × (entry_of N T.known G ≡ Some j) × (j.standing ≡ Unsettled) × (j.host ≡ v)
    gift = seeing.gift_stands script v h v s n k known waits new

    waits_then : standing_of N T.known G ≡ Unsettled
    unfolding refs.standing_of refs.standing_in
    waits_then = ap (λ o. refs.standing_in o) gift.1 ∙ gift.2

    host_then : refs.host_at N T.number T.known G ≡ v
    unfolding refs.host_at refs.host_in
    host_then = ap (λ o. refs.host_in T.number o) gift.1 ∙ gift.3

    unopened : opened_there G T.gifts ≡ false
    unopened = opened_same script honest w v (Second script v h s n) G h D G s.gifts ∙ shut

    abbrev SeveredBy : Bool → Value Name
    SeveredBy b = elim b [ true ↦ Broken (codes "partition") | false ↦ Ref G ]

    whole : refs.severed N T (Ref G) ≡ Ref G
    unfolding refs.severed refs.severed_at refs.severed_by
    whole = ap (λ q. refs.severed_at N T G q) (spot_plain script v G (λ i. i)) ∙ ap (λ d. SeveredBy (is_in d s.noticed)) host_then ∙ ap (λ b. SeveredBy b) unnoticed

    mine : refs.place N T (Ref G) ≡ Mine G
    unfolding refs.place refs.spotted refs.hosted
    mine = ap (λ q. refs.spotted N T G q) (spot_plain script v G (λ i. i))
        ∙ ap (λ d. elim (s.number == d) [ true ↦ Mine G | false ↦ Away d G false ]) host_then
        ∙ ap (λ b. elim b [ true ↦ Mine G | false ↦ Away v G false ]) (eq-eqb s.number v ready.number)

    aim : aimed_at script v T (Ref G) ≡ End (Held v G) G
    unfolding aimed_at aimed
    aim = ap (λ z. aimed v z (refs.place N T z)) whole ∙ ap (λ q. aimed v (Ref G) q) mine

    abbrev Shown : Bool → Bool → Place
    Shown a b = elim (a && not b) [ true ↦ gift_place script honest v D Put | false ↦ Free ]

    held_is : onward_at script honest Vats' Put (Held v G) G ≡ Mid (Way v h) Line n
    unfolding onward_at released_at released unsettled
    held_is =
        ap (λ o. released_at script honest Vats' Put v G o) (get_put w.vats v r T at)
        ∙ ap (λ q. released script honest Vats' Put v G T.gifts q) waits_then
        ∙ ap (λ b. Shown b (opened_there G T.gifts)) (eq-eqb v v refl)
        ∙ ap (λ b. Shown true b) unopened
        ∙ gift_is

    onward_is : U.onward (Held v G) G ≡ Mid (Way v h) Line n
    unfolding ways ways_of amid
    onward_is = ap (λ ls. onward_at script honest Vats' ls (Held v G) G) links_are ∙ held_is

    comes_there : Comes U (Mid (Way v h) Line n) (aimed_at script v T (Ref G))
    comes_there = subst (Comes U (Mid (Way v h) Line n)) (sym aim) (on_end (subst (Comes U (Mid (Way v h) Line n)) (sym onward_is) is_there))

    pub seen_keeps : KeepsOwnOrder script honest w v A T
    seen_keeps = own_all script honest w v A T (viewed_names_keep script honest w v h v r A T n (Ref G) Line at tidy told link.sender link.receiver so (λ i x. within i x) (inl comes_there))
