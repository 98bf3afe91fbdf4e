-- As a name comes to have a gift as its view, order is kept.
use Rattle.std.proofs.Common.{◌≡◌, ℕ, zero, Bool, true, false, List, [], ◌∷◌, ◌++◌, Option, Some, None, refl, sym, ap, subst, ◌∙◌, ◌⊎◌, inl, inr, eq-eqb}
use Rattle.std.proofs.lemmas.Bool.{ne_eqb}
use Rattle.std.specs.Prelude.{slice_get, not, codes, ◌==◌, ◌&&◌, if◌then◌else◌}
use Rattle.def_machine.specs.Values.{Value, Broken, Ref, Name, Naming, IsGift, host_of, naming, name_of, same_reference, key, word_of, under}
use Rattle.def_machine.proofs.Keys.{word_key}
use Rattle.def_machine.specs.State.{Known, Vat, Note, Ask, Shorten, Done, begun, is_in, drawn_at}
use Rattle.def_machine.specs.State as state
use Rattle.def_machine.specs.Arrive as arriving
use Rattle.def_machine.specs.Refs as refs
use Rattle.def_machine.specs.Refs.{Mine, Away}
use Rattle.def_run.specs.World.{Script, Link, World, names}
use Rattle.def_run.specs.World as world
use Rattle.law_order.specs.Ordering.Ways.{Lane, Held, Way, Item, Place, Nowhere, Free, End, Mid, Ways, IsIn, Doom, nowhere, by_end}
use Rattle.law_order.specs.Ordering.Turns.{Within, Comes, is_there, on_end}
use Rattle.law_order.specs.Ordering.Places.{delivered, opens, shortens, opened_there, is_honest, gift_place, aimed, by_host, of_name, leads_in, leads_at, leads, unsettled, released, released_at, stands_at, onward_at, ways_of, ways, amid}
use Rattle.law_order.specs.Ordering.Worlds.{IfGives, IsObject}
use Rattle.law_order.specs.Ordering.Settle.{aimed_at}
use Rattle.law_order.specs.Ordering.Steps.{WaysAmid, LeadsAmid, still_held, Grown}
use Rattle.law_order.proofs.Ordering.Adds.{adds_note, grown_adds}
use Rattle.law_order.proofs.Ordering.Arrived.{IsOpen, all_open}
use Rattle.law_order.proofs.Ordering.Below.{LinksLack, links_lack, key_is_new}
use Rattle.law_order.proofs.Ordering.Coming.{new_entry}
use Rattle.law_order.proofs.Ordering.Messages.{behind_then}
use Rattle.law_order.proofs.Ordering.Named.{same_self, false_true}
use Rattle.law_order.proofs.Ordering.News.{grown_then, came_grown, asked}
use Rattle.law_order.proofs.Ordering.Noted.{Spares, with_grows, gift_more}
use Rattle.law_order.proofs.Ordering.OrderPassing.{Found, here, apart, none, found}
use Rattle.law_order.proofs.Ordering.Remaining.{kept_grown}
use Rattle.law_order.proofs.Ordering.Sends.{none_some, get_put, push_last}
use Rattle.law_order.proofs.Ordering.Standing.{Row, OnLink, row_still, stands_more}
use Rattle.law_order.specs.Arrivals.Tellings.{HostsAreTold}
use Rattle.law_order.specs.Arrivals.Notes.{KeepsAll}
use Rattle.law_order.specs.Arrivals.Wholes.{KeepsOwnOrder}
use Rattle.law_order.specs.Arrivals.Views.{view_word, view_key, view_name, asked_vat, seen_vat, CanView, ElsewhereArrivalsKeep}
use Rattle.law_order.proofs.Arrivals.Asked.{gift_asked}
use Rattle.law_order.proofs.Arrivals.Homes.{link_leads}
use Rattle.law_order.proofs.Arrivals.Told.{aims_same, spot_plain}
use Rattle.law_order.proofs.Arrivals.TrueNotes.{viewed_names_keep}

-- ---- what grew, and then was told

grown_told : (script : Script) (honest : ℕ → Bool) (w : World) (v : ℕ) (s t u : Vat Name) → Grown script honest w v s t → KeepsAll script honest w v t u → KeepsOwnOrder script honest w v s u
grown_told script honest w v s t u g all =
    let W : (Vat Name → Ways) = λ q. WaysAmid script honest w v q in
    let first = kept_grown script honest w v s t g in record {
      references = λ k x. behind_then (W s) (W t) (W u) (LeadsAmid script honest w v s k x) (LeadsAmid script honest w v t k x) (LeadsAmid script honest w v u k x) (first.references k x) (all.0.references k x);
      passings = λ l b m i. behind_then (W s) (W t) (W u) (Mid l b m) (Mid l b m) (Mid l b m) (first.places l b m) (all.1 l b m i);
      apart = λ m l b n i h. all.0.stands m l b n (stands_more (W s) (W t) m l b n (g.more l) h);
      held = λ m p b n h. still_held (all.0.stands m (Held v p) b n (stands_more (W s) (W t) m (Held v p) b n (g.more (Held v p)) h));
    }

-- ---- the vat sees the gift

module _ (script : Script) (honest : ℕ → Bool) (w : World) (v h c : ℕ) (r s : Vat Name) (n : Name) (k : Known Name) (at : slice_get w.vats v ≡ Some r) (g : CanView script honest w v h c s n k) (fresh : drawn_at zero (view_word script v h c n s) s.drawn ≡ None) where
  abbrev K : Naming Name Name
  K = names script v

  abbrev D : ℕ
  D = view_key script v h c n s

  abbrev Q : Name
  Q = view_name script v h c n s

  abbrev A : Vat Name
  A = asked_vat script v h c n s

  abbrev T : Vat Name
  T = seen_vat script v h c n s

  abbrev Before : List Link
  Before = world.push_all v s.outbox w.links

  abbrev Asking : Note Name
  Asking = Shorten n c D

  abbrev Asks : Note Name
  Asks = Ask h D Q

  abbrev Put : List Link
  Put = world.with_link (world.pushed Asking) v h Before

  abbrev After : List Link
  After = world.with_link (world.pushed Asks) v c Put

  abbrev Vats' : List (Vat Name)
  Vats' = world.put_at v T w.vats

  abbrev U : Ways
  U = WaysAmid script honest w v T

  abbrev E : Place
  E = aimed_at script v T (Ref Q)

  abbrev First : Vat Name
  First = record s { drawn = s.drawn ++ view_word script v h c n s ∷ []; outbox = s.outbox ++ record { to = h; note = Asking } ∷ [] }

  abbrev Second : Vat Name
  Second = record First { known = s.known ++ begun Q c ∷ [] }

  -- ---- till then it only grew

  plain : IsObject Q → ⊥
  plain o = o

  grown_second : Grown script honest w v First Second
  unfolding host_of
  grown_second = came_grown script honest w v First Q plain (asked script honest w v h (view_word script v h c n s) h c n s fresh g.ready).0 g.new_here

  grown : Grown script honest w v s A
  grown = grown_then script honest w v s First A (asked script honest w v h (view_word script v h c n s) h c n s fresh g.ready).1
      (grown_then script honest w v First Second A grown_second (grown_adds script honest w v Second A (adds_note K Second (record { to = c; note = Asks }) tt)))

  -- ---- the note stands behind all

  links_are : world.push_all v A.outbox w.links ≡ After
  links_are = push_last v (s.outbox ++ record { to = h; note = Asking } ∷ []) (record { to = c; note = Asks }) w.links
      ∙ ap (λ ls. world.with_link (world.pushed Asks) v c ls) (push_last v s.outbox (record { to = h; note = Asking }) w.links)

  open_there : IsOpen v h Before
  open_there = all_open v h v s.outbox w.links (g.link.link, g.link.found, g.link.uncut)

  abbrev Line : List Item
  Line = delivered open_there.0.notes

  lacks : LinksLack D Before
  lacks = links_lack s.drawn D (key_is_new h (view_word script v h c n s) s.drawn fresh) Before g.ready.draws

  spared : (i : ℕ) → Spares i Asks
  unfolding opens shortens
  spared i = (refl, λ z. refl)

  gift_is : gift_place script honest c D After ≡ Mid (Way v h) Line n
  gift_is = gift_more script honest c D Put After (with_grows D Asks v c Put (spared D))
      ∙ gift_asked c D n script honest v h g.link.sender g.link.receiver Before open_there.0 lacks open_there.1 open_there.2

  honest_in : (b : Bool) (js : List Item) → Within (elim b [ true ↦ js | false ↦ [] ]) js
  honest_in true js i x = x
  honest_in false js i x = absurd x

  row_is : Row script honest (world.link_at v h After) ≡ OnLink script honest open_there.0
  unfolding delivered
  row_is = row_still script honest v h v c Asks refl Put ∙ row_still script honest v h v h Asking refl Before ∙ ap (λ o. Row script honest o) open_there.1

  within : Within ((WaysAmid script honest w v A).stands (Way v h)) Line
  unfolding ways ways_of stands_at amid
  within i x = honest_in (is_honest script honest open_there.0) Line i (subst (λ js. IsIn i js) (ap (λ ls. Row script honest (world.link_at v h ls)) links_are ∙ row_is) x)

  -- ---- where the gift leads

  entry_here : refs.entry_of K A.known Q ≡ Some (begun Q c)
  unfolding refs.entry_of names naming same_reference begun
  entry_here = new_entry K s.known (begun Q c) Q g.new_here ∙ ap (λ b. elim b [ true ↦ Some (begun Q c) | false ↦ None ]) (same_self Q)

  host_here : refs.host_at K A.number A.known Q ≡ c
  unfolding refs.host_at refs.host_in begun
  host_here = ap (λ o. refs.host_in A.number o) entry_here

  abbrev SeveredBy : Bool → Value Name
  SeveredBy b = elim b [ true ↦ Broken (codes "partition") | false ↦ Ref Q ]

  whole : refs.severed K A (Ref Q) ≡ Ref Q
  unfolding refs.severed refs.severed_at refs.severed_by
  whole = ap (λ q. refs.severed_at K A Q q) (spot_plain script v Q plain) ∙ ap (λ d. SeveredBy (is_in d s.noticed)) host_here ∙ ap (λ b. SeveredBy b) g.unnoticed

  away_there : refs.place K A (Ref Q) ≡ Away c Q false
  unfolding refs.place refs.spotted refs.hosted
  away_there = ap (λ q. refs.spotted K A Q q) (spot_plain script v Q plain)
      ∙ ap (λ d. elim (s.number == d) [ true ↦ Mine Q | false ↦ Away d Q false ]) host_here
      ∙ ap (λ b. elim b [ true ↦ Mine Q | false ↦ Away c Q false ]) (ne_eqb s.number c (λ e. g.third (sym e ∙ g.ready.number)))

  hosts_asked : HostsAreTold K A
  unfolding amid
  hosts_asked = g.tidy.hosts v A (get_put w.vats v r A at)

  aim : E ≡ End (Way v c) Q
  unfolding aimed_at aimed
  aim = aims_same script honest v h A T n (Ref Q) hosts_asked g.told (Ref Q) ∙ ap (λ z. aimed v z (refs.place K A z)) whole ∙ ap (λ q. aimed v (Ref Q) q) away_there

  third_there : slice_get Vats' c ≡ Some g.vat
  unfolding amid
  third_there = go (found v s T w.vats c)
    where
      go : Found v s T w.vats c → slice_get Vats' c ≡ Some g.vat
      go (here e i j) = absurd (g.third e)
      go (apart e i) = i ∙ g.there
      go (none i j) = none_some g.vat (sym i ∙ g.there)

  abbrev HostBy : Bool → Bool → Place
  HostBy a b = elim a [ true ↦ Nowhere | false ↦ elim b [ true ↦ End (Held c Q) Q | false ↦ End (Way c c) Q ] ]

  leads_third : (ls : List Link) → leads script honest Vats' ls c (Ref Q) ≡ HostBy (is_in c g.vat.noticed) true
  unfolding leads leads_at leads_in of_name by_host host_of
  leads_third ls = ap (λ o. leads_at script honest c o (Ref Q)) third_there ∙ ap (λ o. of_name script honest c g.vat Q o) g.new_there ∙ ap (λ b. HostBy (is_in c g.vat.noticed) b) (eq-eqb c c refl)

  abbrev Shown : Bool → Bool → Place
  Shown a b = elim (a && not b) [ true ↦ gift_place script honest c D After | false ↦ Free ]

  held_third : onward_at script honest Vats' After (Held c Q) Q ≡ Mid (Way v h) Line n
  unfolding onward_at released_at released unsettled refs.standing_of refs.standing_in
  held_third =
      ap (λ o. released_at script honest Vats' After c Q o) third_there
      ∙ ap (λ o. released script honest Vats' After c Q g.vat.gifts (refs.standing_in o)) g.new_there
      ∙ ap (λ b. Shown b (opened_there Q g.vat.gifts)) (eq-eqb c c refl)
      ∙ ap (λ b. Shown true b) g.shut
      ∙ gift_is

  onward_is : (l : Lane) (m : Name) → U.onward l m ≡ onward_at script honest Vats' After l m
  unfolding ways ways_of amid
  onward_is l m = ap (λ ls. onward_at script honest Vats' ls l m) links_are

  abbrev There : Place
  There = Mid (Way v h) Line n

  abbrev ComesOrNot : Place → Type 0
  ComesOrNot d = Comes U There d ⊎ Doom U d

  comes_held : ComesOrNot (End (Held c Q) Q)
  comes_held = inl (on_end (subst (Comes U There) (sym (onward_is (Held c Q) Q ∙ held_third)) is_there))

  comes_third : (b : Bool) → ComesOrNot (HostBy b true)
  comes_third true = inr nowhere
  comes_third false = comes_held

  step : (d : Place) → U.onward (Way v c) Q ≡ d → ComesOrNot d → ComesOrNot (End (Way v c) Q)
  step d e (inl x) = inl (on_end (subst (Comes U There) (sym e) x))
  step d e (inr x) = inr (by_end (subst (Doom U) (sym e) x))

  by_way : ((x : Name) → onward_at script honest Vats' After (Way v c) x ≡ Nowhere) ⊎ ((x : Name) → onward_at script honest Vats' After (Way v c) x ≡ leads script honest Vats' After c (Ref x)) → ComesOrNot (End (Way v c) Q)
  by_way (inl f) = step Nowhere (onward_is (Way v c) Q ∙ f Q) (inr nowhere)
  by_way (inr f) = step (HostBy (is_in c g.vat.noticed) true) (onward_is (Way v c) Q ∙ f Q ∙ leads_third After) (comes_third (is_in c g.vat.noticed))

  comes : ComesOrNot E
  comes = subst ComesOrNot (sym aim) (by_way (link_leads script honest Vats' After v c g.link.sender g.honest_there))

  pub seen : KeepsOwnOrder script honest w v s T
  seen = grown_told script honest w v s A T grown (viewed_names_keep script honest w v h c r A T n (Ref Q) Line at g.tidy g.told g.link.sender g.link.receiver g.so (λ i x. within i x) comes)

-- ---- the note arrives

module _ (script : Script) (honest : ℕ → Bool) (w : World) (v h c : ℕ) (r s : Vat Name) (n : Name) (k : Known Name) (at : slice_get w.vats v ≡ Some r) (g : CanView script honest w v h c s n k) where
  abbrev J : Naming Name Name
  J = names script v

  abbrev Word : ℕ
  Word = view_word script v h c n s

  abbrev Ordered : Vat Name → Type 0
  Ordered u = KeepsOwnOrder script honest w v s u

  -- the vat after the draw
  abbrev Drawn : Vat Name
  Drawn = record s { drawn = s.drawn ++ Word ∷ [] }

  abbrev Rest : ℕ → ℕ → Vat Name → Done Name (Unit {0})
  Rest a d = state.◌>>◌ (state.send_out a (Shorten n c d)) (state.◌>>=◌ (arriving.gift_there J s.number a c d) (λ q. arriving.see J n q))

  abbrev Gift' : Bool → ℕ → ℕ → state.Act Name Name
  Gift' b a d = if b then arriving.have_gift J a d else (state.◌>>=◌ (state.come J (IsGift c d) c) (λ q. state.◌>>◌ (state.send_out c (Ask a d q)) (state.give q)))

  by_same : (b : Bool) → b ≡ false → (drawn_at zero Word s.drawn ≡ None) → IfGives Ordered (state.◌>>◌ (state.send_out h (Shorten n c (view_key script v h c n s))) (state.◌>>=◌ (Gift' b h (view_key script v h c n s)) (λ q. arriving.see J n q)) Drawn)
  unfolding state.◌>>=◌ state.◌>>◌ state.and_then state.send_out state.come state.give state.tell state.alter arriving.see names naming name_of
  by_same true e f = false_true (sym e)
  by_same false e f = seen script honest w v h c r s n k at g f

  by_rest : (drawn_at zero Word s.drawn ≡ None) → IfGives Ordered (Rest h (view_key script v h c n s) Drawn)
  unfolding arriving.gift_there
  by_rest f = by_same (c == s.number) (ne_eqb c s.number (λ e. g.third (e ∙ g.ready.number))) f

  host_is : refs.host_at J s.number s.known n ≡ h
  unfolding refs.host_at refs.host_in
  host_is = ap (λ o. refs.host_in s.number o) g.known ∙ g.host

  key_is : (a : ℕ) → a ≡ h → under a (key s.number Word) ≡ view_key script v h c n s
  unfolding under
  key_is a e = ap (λ z. key z (word_of (key s.number Word))) e ∙ ap (λ z. key h z) (word_key s.number Word)

  by_draw : (o : Option ℕ) → drawn_at zero Word s.drawn ≡ o → IfGives Ordered (state.and_then (state.draws Word o s) (λ i. Rest (refs.host_at J s.number s.known n) (under (refs.host_at J s.number s.known n) i)))
  unfolding state.and_then state.draws
  by_draw (Some i) e = tt
  by_draw None e = subst (λ d. IfGives Ordered (Rest (refs.host_at J s.number s.known n) d Drawn)) (sym (key_is (refs.host_at J s.number s.known n) host_is)) (subst (λ a. IfGives Ordered (Rest a (view_key script v h c n s) Drawn)) (sym host_is) (by_rest e))

  viewed : IfGives Ordered (arriving.view_there J n c s)
  unfolding arriving.view_there state.◌>>=◌ state.and_then state.look state.draw names naming
  viewed = by_draw (drawn_at zero Word s.drawn) refl

  pub arrives : (from : ℕ) → IfGives Ordered (arriving.arrive J from (state.Elsewhere (arriving.Old n) c) s)
  unfolding arriving.arrive arriving.arrive_elsewhere arriving.learn_name state.◌>>=◌ state.and_then state.give state.look
  arrives from = subst (λ b. IfGives Ordered ((if b then refs.settle J n (Broken (codes "partition")) else arriving.view_there J n c) s)) (sym g.unnoticed) viewed

pub elsewhere_arrivals_keep : ElsewhereArrivalsKeep
elsewhere_arrivals_keep = λ script honest w v h c from r s n k at g. arrives script honest w v h c r s n k at g from
