-- A message that was lost, or that came to a queue on data, stands nowhere.
use Rattle.std.proofs.Common.{◌≡◌, ℕ, ◌+◌, ◌≤◌, Bool, true, false, List, [], ◌∷◌, ◌++◌, Option, Some, None, refl, sym, ap, subst, ◌∙◌, inl, inr, arith}
use Rattle.std.specs.Prelude.{slice_get, ◌==◌, ◌&&◌, not}
use Rattle.def_machine.specs.Values.{Value, Ref, Name, Gift}
use Rattle.def_machine.specs.State.{Message, Standing, Unsettled, WaitsOn, Viewed, Settled, Note, GiftEntry, Lost, Vat, WhereSome}
use Rattle.def_machine.specs.Refs as refs
use Rattle.def_run.specs.World as world
use Rattle.def_run.specs.World.{Script, Event, Here, LostCut, Link, World, names}
use Rattle.law_fate.specs.Name.Names.{IsAmong}
use Rattle.law_fate.specs.Fates.Fate as fate
use Rattle.law_fate.specs.Fates.Fate.{one, total, among, at_vat, of_note, on_link, places, fates}
use Rattle.law_order.specs.Ordering.Ways.{Lane, Queue, Held, Way, Item, Place, Nowhere, Free}
use Rattle.law_order.specs.Ordering.Changes.{Lacks}
use Rattle.law_order.specs.Ordering.Messages.{LacksAt, IsNowhere}
use Rattle.law_order.specs.Ordering.Places.{queued, held_in, delivered, opens, shortens, subject, in_lane, note_place, first_place, opened_there, is_honest, open_place, shorten_place, was_put, or_never, gift_place, leads, unsettled, released, released_at, stands_at, over, onward_at, ways_of, ways}
use Rattle.law_order.proofs.Ordering.FoundPlaces.{leads_lack}
use Rattle.law_order.specs.Carries.Carries.{IsNoName, IsLeftOut, on_data, lost_here, lost_on_way}
use Rattle.law_order.proofs.Runs.Once.{tally, itself, queued_if, name_held, delivered_most, U, Count, AtVat, queue_most, name_most, link_most, at_most, on_most, vat_vat, lane_most}

-- ---- where it is counted not once

lacks : (m : Name) (js : List Item) → tally m js ≤ 0 → Lacks m js
unfolding tally
lacks m [] h n i = absurd i
lacks m (j ∷ js) h n (inl e) = let here : one j.mail m ≡ 1 = ap (λ (x : Item). one x.mail m) (sym e) ∙ itself m in absurd (omega arith)
lacks m (j ∷ js) h n (inr i) = lacks m js (omega arith) n i

tally_both : (m : Name) (b c : List Item) → tally m (b ++ c) ≤ tally m b + tally m c
unfolding tally
tally_both m [] c = omega arith
tally_both m (j ∷ b) c = let rest = tally_both m b c in omega arith

module _ (m : Name) where
  laned : (l : Lane) (b : List Item) (o : Option Name) → tally m b ≤ 0 → WhereSome (LacksAt m) (in_lane l b o)
  unfolding in_lane
  laned l b (Some n) h = lacks m b h
  laned l b None h = tt

  noted : (f : Note Name → Bool) (l : Lane) (b : List Item) (ns : List (Note Name)) → tally m b ≤ 0 → total (of_note m) ns ≤ 0 → WhereSome (LacksAt m) (note_place f l b ns)
  unfolding note_place total
  noted f l b [] h i = tt
  noted f l b (n ∷ ns) h i =
      let both = tally_both m b (delivered (n ∷ [])) in let most = delivered_most m (n ∷ []) in
      go (f n) (laned l b (subject n) h) (noted f l (b ++ delivered (n ∷ [])) ns (omega arith) (omega arith))
    where
      go : (c : Bool) → WhereSome (LacksAt m) (in_lane l b (subject n)) → WhereSome (LacksAt m) (note_place f l (b ++ delivered (n ∷ [])) ns)
          → WhereSome (LacksAt m) (elim c [ true ↦ in_lane l b (subject n) | false ↦ note_place f l (b ++ delivered (n ∷ [])) ns ])
      go true x y = x
      go false x y = y

  firstly : (o q : Option Place) → WhereSome (LacksAt m) o → WhereSome (LacksAt m) q → WhereSome (LacksAt m) (first_place o q)
  unfolding first_place
  firstly (Some c) q x y = x
  firstly None q x y = y

  either : (c : Bool) (o q : Option Place) → WhereSome (LacksAt m) o → WhereSome (LacksAt m) q → WhereSome (LacksAt m) (elim c [ true ↦ o | false ↦ q ])
  either true o q x y = x
  either false o q x y = y

  module _ (script : Script) (honest : ℕ → Bool) where
    opening : (h i : ℕ) (ls : List Link) → total (on_link m) ls ≤ 0 → WhereSome (LacksAt m) (open_place script honest h i ls)
    unfolding open_place total on_link tally
    opening h i [] e = tt
    opening h i (l ∷ ls) e =
        let rest = opening h i ls (omega arith) in
        either (is_honest script honest l && (l.to == h)) (first_place (note_place (opens i) (Way l.from l.to) [] l.notes) (open_place script honest h i ls)) (open_place script honest h i ls)
        (firstly (note_place (opens i) (Way l.from l.to) [] l.notes) (open_place script honest h i ls) (noted (opens i) (Way l.from l.to) [] l.notes (omega arith) (omega arith)) rest) rest

    shortening : (h i : ℕ) (ls : List Link) → total (on_link m) ls ≤ 0 → WhereSome (LacksAt m) (shorten_place script honest h i ls)
    unfolding shorten_place total on_link tally
    shortening h i [] e = tt
    shortening h i (l ∷ ls) e =
        let rest = shortening h i ls (omega arith) in
        either (is_honest script honest l) (first_place (note_place (shortens h i) (Way l.from l.to) [] l.notes) (shorten_place script honest h i ls)) (shorten_place script honest h i ls)
        (firstly (note_place (shortens h i) (Way l.from l.to) [] l.notes) (shorten_place script honest h i ls) (noted (shortens h i) (Way l.from l.to) [] l.notes (omega arith) (omega arith)) rest) rest

    never : (put : Bool) (o : Option Place) → WhereSome (LacksAt m) o → LacksAt m (or_never script honest put o)
    unfolding or_never
    never put (Some c) h = h
    never true None h = tt
    never false None h = tt

    -- of a world in which no link bears it
    module _ (w : World) (none : total (on_link m) w.links ≤ 0) where
      let_go : (h i : ℕ) → LacksAt m (gift_place script honest h i w.links)
      unfolding gift_place
      let_go h i = never (was_put script honest h i w.links) (first_place (open_place script honest h i w.links) (shorten_place script honest h i w.links))
          (firstly (open_place script honest h i w.links) (shorten_place script honest h i w.links) (opening h i w.links none) (shortening h i w.links none))

      if_gift : (c : Bool) (h i : ℕ) → LacksAt m (elim c [ true ↦ gift_place script honest h i w.links | false ↦ Free ])
      if_gift true h i = let_go h i
      if_gift false h i = tt

      waits : (v : ℕ) (n : Name) (gs : List (GiftEntry Name)) → LacksAt m (unsettled script honest w.vats w.links v n gs)
      unfolding unsettled
      waits v (Gift h i) gs = if_gift ((h == v) && not (opened_there (Gift h i) gs)) h i
      waits v other gs = tt

      goes : (v : ℕ) (n : Name) (gs : List (GiftEntry Name)) (t : Standing Name) → LacksAt m (released script honest w.vats w.links v n gs t)
      unfolding released
      goes v n gs Unsettled = waits v n gs
      goes v n gs (WaitsOn q) = leads_lack m script honest w v (Ref q)
      goes v n gs (Viewed q) = leads_lack m script honest w v (Ref q)
      goes v n gs (Settled y) = leads_lack m script honest w v y

      goes_at : (v : ℕ) (n : Name) (o : Option (Vat Name)) → LacksAt m (released_at script honest w.vats w.links v n o)
      unfolding released_at
      goes_at v n (Some s) = goes v n s.gifts (refs.standing_of (names script v) s.known n)
      goes_at v n None = tt

      brings : (b : ℕ) (n : Name) (l : Link) (x y : Bool) → LacksAt m (elim x [ true ↦ elim y [ true ↦ Nowhere | false ↦ leads script honest w.vats w.links b (Ref n) ] | false ↦ Free ])
      brings b n l true false = leads_lack m script honest w b (Ref n)
      brings b n l other another = tt

      brings_at : (b : ℕ) (n : Name) (o : Option Link) → LacksAt m (elim o [ Some l ↦ over script honest w.vats w.links b n l | None ↦ Nowhere ])
      unfolding over
      brings_at b n (Some l) = brings b n l (is_honest script honest l) l.cut
      brings_at b n None = tt

      onward_lacks : (l : Lane) (n : Name) → LacksAt m ((U script honest w m).onward l n)
      unfolding ways_of onward_at
      onward_lacks (Queue v) n = tt
      onward_lacks (Held v p) n = goes_at v p (slice_get w.vats v)
      onward_lacks (Way a b) n = brings_at b n (world.link_at a b w.links)

      nowhere : ((l : Lane) → Count script honest w m l ≤ 0) → IsNowhere (ways script honest w) m
      unfolding ways
      nowhere h = record { lanes = λ l. lacks m ((U script honest w m).stands l) (h l); places = λ l n. onward_lacks l n }

-- ---- it came to a queue on data

module _ (m : Name) where
  no_name : (y : Value Name) (n : Name) → IsNoName y → tally m (elim y [ Ref x ↦ record { mail = n; aim = x } ∷ [] | _ ↦ [] ]) ≤ 0
  unfolding tally
  no_name (Ref x) n h = absurd h
  no_name other n h = omega arith

  last_data : (q : List (Message Name)) (x : Message Name) → x.id ≡ m → IsNoName x.target → tally m (queued (q ++ x ∷ [])) + 1 ≤ among m (q ++ x ∷ [])
  unfolding queued among
  last_data [] x e h = let here : one x.id m ≡ 1 = ap (λ n. one n m) e ∙ itself m in let none = no_name x.target x.id h in omega arith
  last_data (y ∷ q) x e h = let rest = last_data q x e h in let most = queued_if m y.target y.id (queued (q ++ x ∷ [])) (tally m (queued (q ++ x ∷ []))) (omega arith) in omega arith

module _ (script : Script) (honest : ℕ → Bool) (w : World) (m : Name) (b : ℕ) (t : Vat Name) (q : List (Message Name)) (x : Message Name) (there : slice_get w.vats b ≡ Some t) (queue : t.queue ≡ q ++ x ∷ []) (id : x.id ≡ m) (unnamed : IsNoName x.target) where
  last_here : tally m (queued t.queue) + 1 ≤ among m t.queue
  last_here = subst (λ ms. tally m (queued ms) + 1 ≤ among m ms) (sym queue) (last_data m q x id unnamed)

  at_here : AtVat script honest w m b ≡ at_vat m t
  at_here = ap (λ o. elim o [ Some s ↦ at_vat m s | None ↦ 0 ]) there

  here : 1 ≤ AtVat script honest w m b
  unfolding at_vat
  here = let a = last_here in let e = at_here in omega arith

  queue_here : Count script honest w m (Queue b) + 1 ≤ AtVat script honest w m b
  unfolding ways_of stands_at at_vat
  queue_here = let a = last_here in let e = at_here in let f : tally m (elim (slice_get w.vats b) [ Some s ↦ queued s.queue | None ↦ [] ]) ≡ tally m (queued t.queue) = ap (λ o. tally m (elim o [ Some s ↦ queued s.queue | None ↦ [] ])) there in omega arith

  held_here : (p : Name) → Count script honest w m (Held b p) + 1 ≤ AtVat script honest w m b
  unfolding ways_of stands_at at_vat held_in
  held_here p = let a = last_here in let e = at_here in let k = name_held script b m t.known p in
      let f : tally m (elim (slice_get w.vats b) [ Some s ↦ held_in p (refs.entry_of (names script b) s.known p) | None ↦ [] ]) ≡ tally m (held_in p (refs.entry_of (names script b) t.known p)) = ap (λ o. tally m (elim o [ Some s ↦ held_in p (refs.entry_of (names script b) s.known p) | None ↦ [] ])) there in omega arith

  with_data : (l : Lane) → Count script honest w m l + 1 ≤ places m w
  unfolding places
  with_data (Queue v) = let most = vat_vat script honest w m v b (Count script honest w m (Queue v)) 1 (queue_most script honest w m v) here (λ e. subst (λ u. Count script honest w m (Queue u) + 1 ≤ AtVat script honest w m b) (sym e) queue_here) in omega arith
  with_data (Held v p) = let most = vat_vat script honest w m v b (Count script honest w m (Held v p)) 1 (name_most script honest w m v p) here (λ e. subst (λ u. Count script honest w m (Held u p) + 1 ≤ AtVat script honest w m b) (sym e) (held_here p)) in omega arith
  with_data (Way c d) = let h = here in let y = link_most script honest w m c d in let f = at_most script honest w m b (slice_get w.vats b) refl in let g = on_most script honest w m c d (world.link_at c d w.links) refl in omega arith

  no_link : places m w ≤ 1 → total (on_link m) w.links ≤ 0
  unfolding places
  no_link most = let h = here in let f = at_most script honest w m b (slice_get w.vats b) refl in omega arith

-- ---- it was lost

module _ (m : Name) where
  lost_once : (e : Event) → fate.lost_by m e ≡ 1 → (es : List Event) → IsAmong e es → 1 ≤ total (fate.lost_by m) es
  unfolding total
  lost_once e f [] h = absurd h
  lost_once e f (x ∷ es) (inl i) = let here : fate.lost_by m x ≡ 1 = ap (fate.lost_by m) (sym i) ∙ f in omega arith
  lost_once e f (x ∷ es) (inr h) = let rest = lost_once e f es h in omega arith

  is_lost : (v : ℕ) → fate.lost_by m (Here v (Lost m)) ≡ 1
  unfolding fate.lost_by fate.lost_here
  is_lost v = itself m

  is_cut : fate.lost_by m (LostCut m) ≡ 1
  unfolding fate.lost_by
  is_cut = itself m

  no_place : (w : World) → 1 ≤ total (fate.lost_by m) w.history → places m w + fates m w.history ≤ 1 → places m w ≤ 0
  unfolding fates fate.losses
  no_place w h most = omega arith

  links_within : (w : World) → places m w ≤ 0 → total (on_link m) w.links ≤ 0
  unfolding places
  links_within w h = omega arith

lost_nowhere : (script : Script) (honest : ℕ → Bool) (w : World) (m : Name) → places m w ≤ 0 → IsNowhere (ways script honest w) m
lost_nowhere script honest w m none = nowhere m script honest w (links_within m w none) (λ l. let few = lane_most script honest w m l in omega arith)

pub left_nowhere : (script : Script) (honest : ℕ → Bool) (w : World) (b : ℕ) (m : Name) → places m w + fates m w.history ≤ 1 → IsLeftOut w b m → IsNowhere (ways script honest w) m
left_nowhere script honest w b m most (on_data t q x there queue id unnamed) = let few : places m w ≤ 1 = omega arith in
    nowhere m script honest w (no_link script honest w m b t q x there queue id unnamed few) (λ l. let one_more = with_data script honest w m b t q x there queue id unnamed l in omega arith)
left_nowhere script honest w b m most (lost_here h) = lost_nowhere script honest w m (no_place m w (lost_once m (Here b (Lost m)) (is_lost m b) w.history h) most)
left_nowhere script honest w b m most (lost_on_way h) = lost_nowhere script honest w m (no_place m w (lost_once m (LostCut m) (is_cut m) w.history h) most)
