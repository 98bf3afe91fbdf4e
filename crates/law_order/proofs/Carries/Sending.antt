-- A message that arrives goes on to where it is sent, and order is kept.
use Rattle.std.proofs.Common.{◌≡◌, ℕ, zero, suc, ◌-◌, Bool, true, false, List, [], ◌∷◌, ◌++◌, Option, Some, None, length, refl, sym, ap, subst, ◌∙◌, ◌⊎◌, inl, inr, ◌≤◌, arith}
use Rattle.std.specs.Prelude.{slice_get}
use Rattle.def_machine.specs.Values.{Words, Value, Broken, Ref, Name, Root, Promise, Answer, Sent, Msg, Naming, key, IsAnswer, naming, name_of, answer_of, host_of}
use Rattle.def_machine.specs.State.{Message, Unsettled, Known, Hold, Wait, WaitOn, Waits, ToTell, begun, come, Passed, Passeds, AGift, Delivery, Note, Deliver, Open, Put, Happened, Lost, Posted, Settles, Vat, Done, Gives, ◌>>=◌, ◌>>◌, and_then, give, look, tell, send_out, enqueue, alter, draw, draws, drawn_at, each, for_some}
use Rattle.def_machine.specs.State as state
use Rattle.def_machine.specs.Refs as refs
use Rattle.def_machine.specs.Refs.{Near, Mine, Away, Gone, Settler}
use Rattle.def_run.specs.World.{Script, Link, World, names}
use Rattle.def_run.specs.World as world
use Rattle.law_machine.specs.Machine.Steps.{After}
use Rattle.law_fate.specs.Name.Names.{IsAmong}
use Rattle.law_fate.proofs.Name.Among.{among_more, among_last}
use Rattle.law_order.specs.Ordering.Ways.{Lane, Queue, Held, Way, Item, Place, Nowhere, Free, End, Mid, Ways, IsIn, IsOneWay}
use Rattle.law_order.specs.Ordering.Changes.{stays, Grows, GoesOn}
use Rattle.law_order.specs.Ordering.Leavings.{FirstLeft}
use Rattle.law_order.specs.Ordering.Comings.{MovesLast}
use Rattle.law_order.specs.Ordering.Messages.{StandsAt, IsNowhere, LacksAt, StaysBehind}
use Rattle.law_order.specs.Ordering.Places.{item, is_honest, over, aimed, leads_in, leads_at, leads, released_at, released, unsettled, onward_at, ways_of, ways, amid}
use Rattle.law_order.specs.Ordering.Worlds.{IfGives, IsWaiting, LetsNothingGo, AddsOnly, RefersAlike}
use Rattle.law_order.specs.Ordering.Steps.{Ready, Grown, StaysReady}
use Rattle.law_order.specs.Ordering.Settlings.{with_line, IsLoose}
use Rattle.law_order.specs.Ordering.Arrivals.{keeping, IsOpenWay, IsLearnt, IsHere, GoesTo}
use Rattle.law_order.proofs.Ordering.Adds.{change_adds, adds_nothing, adds_message, adds_note, alike_same, stays_quiet, grown_adds}
use Rattle.law_order.proofs.Ordering.Arrived.{carried_messages_go_on, all_there, went, left_for, gone, self_refers, outbox_refers}
use Rattle.law_order.proofs.Ordering.Changes.{growing_keeps}
use Rattle.law_order.proofs.Ordering.Comings.{carried_come_last, note_open}
use Rattle.law_order.proofs.Ordering.FoundPlaces.{at_lacks}
use Rattle.law_order.proofs.Ordering.Leavings.{carried_is_first, carried_are_put_last}
use Rattle.law_order.proofs.Ordering.Messages.{gone_on_is_behind, behind_then}
use Rattle.law_order.proofs.Ordering.Moves.{Keeps, IsKept}
use Rattle.law_order.proofs.Ordering.News.{stays_then, opened}
use Rattle.law_order.proofs.Ordering.Passings.{keeps_pass, keeps_pass_all}
use Rattle.law_order.proofs.Ordering.Sends.{get_put, found_ends}
use Rattle.law_order.proofs.Ordering.Sent.{leads_there, mine_waits}
use Rattle.law_order.proofs.Ordering.Standing.{stands_more}
use Rattle.law_order.proofs.Ordering.Coming.{old_entry}
use Rattle.law_order.proofs.Ordering.Waiting.{waits_grown}
use Rattle.law_order.proofs.Views.Severed.{IsAlone}
use Rattle.law_order.proofs.Carries.Breaking.{IsFresh, Broke, settles_so, breaks}
use Rattle.law_order.proofs.Carries.Informing.{informs_each}
use Rattle.law_order.proofs.Carries.Learning.{come_stays}
use Rattle.law_order.specs.Carries.Carries.{IsNoName, IsNotNext, StaysBehindBut}
use Rattle.law_order.proofs.Carries.Moved.{last_in, Leading, Firm, firm_then, Carries, CarriesBut, firm_but, but_then, others_keep, leaves_carries, firm_carries, carries_then, goes_on_leaves, lost_leaves, shut_leaves}
use Rattle.law_order.proofs.Carries.Arriving.{name_or, end_nowhere, near_end, aimed_back, away_other, refers_then, some_alike}

given : (P : Vat Name → Type 0) (d : Done Name (Unit {0})) (t : Vat Name) → d ≡ Gives tt t → IfGives P d → P t
given P d t e h = subst (IfGives P) e h

-- what happened by s happened by t
abbrev Remembers : Vat Name → Vat Name → Type 0
Remembers s t = (e : Happened Name) → IsAmong e s.happened → IsAmong e t.happened

-- A link is there and has honest ends, cut or not.
record IsHonestWay (honest : ℕ → Bool) (a b : ℕ) (w : World) : Type 0 where
  pub link : Link
  pub found : world.link_at a b w.links ≡ Some link
  pub sender : honest a ≡ true
  pub receiver : honest b ≡ true

-- such a link that is cut leads nowhere, whatever the vat puts
module _ (script : Script) (honest : ℕ → Bool) (w : World) (b h : ℕ) (on : IsHonestWay honest b h w) (cut : on.link.cut ≡ true) where
  shut_over : (vs : List (Vat Name)) (ls : List Link) (o : Name) (l : Link) → is_honest script honest l ≡ true → l.cut ≡ true → over script honest vs ls h o l ≡ Nowhere
  unfolding over
  shut_over vs ls o l e f =
      ap (λ c. elim c [ true ↦ elim l.cut [ true ↦ Nowhere | false ↦ leads script honest vs ls h (Ref o) ] | false ↦ Free ]) e
      ∙ ap (λ c. elim c [ true ↦ Nowhere | false ↦ leads script honest vs ls h (Ref o) ]) f

  both_honest : (l : Link) → l.from ≡ b → l.to ≡ h → is_honest script honest l ≡ true
  unfolding is_honest
  both_honest l e f = rw e (rw f (rw on.sender on.receiver))

  shut_way : (t : Vat Name) (o : Name) → (ways script honest (amid b t w)).onward (Way b h) o ≡ Nowhere
  unfolding ways ways_of onward_at amid
  shut_way t o =
      let vs = world.put_at b t w.vats in let ls = world.push_all b t.outbox w.links in
      let k = all_there true b h b t.outbox w.links (on.link, on.found, cut) in let e = found_ends b h ls k.0 k.1 in
      ap (λ q. elim q [ Some l ↦ over script honest vs ls h o l | None ↦ Nowhere ]) k.1 ∙ shut_over vs ls o k.0 (both_honest k.0 e.0 e.1) k.2

-- w is the world without the note
module _ (script : Script) (honest : ℕ → Bool) (w : World) (a b : ℕ) (r : Vat Name) (there : slice_get w.vats b ≡ Some r) (way : IsOpenWay honest a b w) (d : Delivery Name) (n : Name) (verb : Words) (ys : Passeds Name) where
  abbrev pub K : Naming Name Name
  K = names script b

  -- in this one the note is on its link yet
  abbrev pub Full : World
  Full = keeping a b (Deliver d n verb ys) w

  abbrev pub W : Vat Name → Ways
  W s = ways script honest (amid b s Full)

  abbrev pub Y : Vat Name → Ways
  Y s = ways script honest (amid b s w)

  abbrev pub L : Vat Name → Leading
  L s = λ z x. leads_at script honest z (slice_get (world.put_at b s w.vats) z) x

  abbrev pub I : Item
  I = item d.message n

  abbrev pub From : Lane
  From = Way a b

  -- ---- growth

  pub grown_leads : (s t : Vat Name) → Grown script honest Full b s t → (z : ℕ) (x : Value Name) → L t z x ≡ L s z x
  unfolding leads amid keeping
  grown_leads s t g z x = g.leading z x

  pub firm_full : (s t : Vat Name) → Grown script honest Full b s t → Firm (W s) (W t) (L s) (L t)
  firm_full s t g = record {
    references = λ z x. subst (λ c. StaysBehind (W s) (W t) (L s z x) c) (sym (grown_leads s t g z x)) (growing_keeps (W s) (W t) g.grows (L s z x));
    places = λ l c o. growing_keeps (W s) (W t) g.grows (Mid l c o);
    more = λ l. g.more l;
  }

  bare_leads : (s t : Vat Name) → Grown script honest w b s t → (z : ℕ) (x : Value Name) → L t z x ≡ L s z x
  unfolding leads amid
  bare_leads s t g z x = g.leading z x

  pub firm_bare : (s t : Vat Name) → Grown script honest w b s t → Firm (Y s) (Y t) (L s) (L t)
  firm_bare s t g = record {
    references = λ z x. subst (λ c. StaysBehind (Y s) (Y t) (L s z x) c) (sym (bare_leads s t g z x)) (growing_keeps (Y s) (Y t) g.grows (L s z x));
    places = λ l c o. growing_keeps (Y s) (Y t) g.grows (Mid l c o);
    more = λ l. g.more l;
  }

  -- ---- how it ends

  -- it came last to the queue, on data; or a line tells that it was lost
  pub data IsOut (t : Vat Name) : Type 0 where
    came_on_data : (q : List (Message Name)) (x : Message Name) → t.queue ≡ q ++ x ∷ [] → x.id ≡ d.message → IsNoName x.target → IsOut t
    told_lost : IsAmong (Lost d.message) t.happened → IsOut t
    -- it was put on a link that is cut
    posted_cut : (h : ℕ) → world.is_cut b h w.links ≡ true → IsAmong (Posted h d.message) t.happened → IsOut t

  abbrev pub Moves : Vat Name → Vat Name → Type 0
  Moves s u = Carries (W s) (Y u) (L s) (L u) From I

  -- it stands elsewhere, behind all that was ahead of it
  abbrev pub Comes : Vat Name → Vat Name → Type 0
  Comes s u = (l : Lane) × (c : List Item) × (o : Name) × StandsAt (Y u) d.message l c o × StaysBehind (W s) (Y u) (Mid From [] n) (Mid l c o)

  -- it went on to a vat that is not honest
  abbrev pub GoesFar : Vat Name → Type 0
  GoesFar s = (h : ℕ) × (q : Name) × (L s b (Ref n) ≡ End (Way b h) q) × (honest h ≡ false)

  abbrev pub Others : Vat Name → Vat Name → Type 0
  Others s u = CarriesBut (W s) (Y u) (L s) (L u) From I

  abbrev pub Ends : Vat Name → Vat Name → Type 0
  Ends s u = (Moves s u × Comes s u) ⊎ ((IsOut u × (IsNowhere (Y u) d.message → Moves s u)) ⊎ (GoesFar s × Others s u))

  first_left : (s t : Vat Name) → AddsOnly K s t → FirstLeft (W s) (Y t) From I
  first_left s t g = carried_is_first script honest w a b s t d n verb ys way g

  quiet : (s t : Vat Name) → t.known ≡ s.known → t.number ≡ s.number → t.gifts ≡ s.gifts → t.noticed ≡ s.noticed → t.queue ≡ s.queue → t.outbox ≡ s.outbox → AddsOnly K s t
  quiet s t p q x z f g = adds_nothing K s t p q x z f g

  -- what stands first as long as the note is there
  pub stands_first : (s : Vat Name) → (js : List Item) × ((W s).stands From ≡ I ∷ js)
  stands_first s = let f = first_left s s (quiet s s refl refl refl refl refl refl) in (f.rest, f.first)

  lacks : (s : Vat Name) (z : ℕ) (x : Value Name) → LacksAt d.message (L s z x)
  lacks s z x = at_lacks d.message script honest z (slice_get (world.put_at b s w.vats) z) x

  pub ends_before : (s t u : Vat Name) → Grown script honest Full b s t → Ends t u → Ends s u
  ends_before s t u g (inl h) = let f = firm_full s t g in let q = stands_first s in let c = h.1 in
      inl (firm_carries (W s) (W t) (Y u) (L s) (L t) (L u) From I q.0 q.1 f h.0, (c.0, c.1, c.2, c.3, behind_then (W s) (W t) (Y u) (Mid From [] n) (Mid From [] n) (Mid c.0 c.1 c.2) (f.places From [] n) c.4))
  ends_before s t u g (inr (inl h)) = let f = firm_full s t g in let q = stands_first s in inr (inl (h.0, λ i. firm_carries (W s) (W t) (Y u) (L s) (L t) (L u) From I q.0 q.1 f (h.1 i)))
  ends_before s t u g (inr (inr h)) = let f = firm_full s t g in let q = stands_first s in let c = h.0 in
      inr (inr ((c.0, c.1, sym (grown_leads s t g b (Ref n)) ∙ c.2, c.3), firm_but (W s) (W t) (Y u) (L s) (L t) (L u) From I q.0 q.1 f h.1))

  ends_by : (s t : Vat Name) (c : Place) → GoesTo (W s) (Y t) From I c → MovesLast (W s) (Y t) From I c → FirstLeft (W s) (Y t) From I → ((z : ℕ) (x : Value Name) → L t z x ≡ L s z x) → (c ≡ Nowhere → IsOut t) → Ends s t
  ends_by s t (End l o) g m f same out = inl (leaves_carries (W s) (Y t) (L s) (L t) From I (goes_on_leaves (W s) (Y t) a b l I o g f) same (lacks s), (l, (W s).stands l, o, record { behind = []; found = m.0 }, m.1))
  ends_by s t Nowhere g m f same out = inr (inl (out refl, λ h. leaves_carries (W s) (Y t) (L s) (L t) From I (lost_leaves (W s) (Y t) a b I (g h) f) same (lacks s)))
  ends_by s t other g m f same out = absurd g

  -- ---- passing

  -- the vat stays ready, refers alike, and takes back no line of what happened
  abbrev Passes : Vat Name → Vat Name → Type 0
  Passes s t = StaysReady script honest Full b s t × RefersAlike K s t × Remembers s t

  passes_quiet : (s t : Vat Name) → t.known ≡ s.known → t.number ≡ s.number → t.gifts ≡ s.gifts → t.noticed ≡ s.noticed → t.queue ≡ s.queue → t.outbox ≡ s.outbox → t.messages ≡ s.messages → t.promises ≡ s.promises → t.drawn ≡ s.drawn → Remembers s t → Passes s t
  passes_quiet s t p q x z f g i j k h = (stays_quiet script honest Full b s t (adds_nothing K s t p q x z f g, i, j, k), alike_same K s t p q x z, h)

  passes : IsKept Passes
  passes = record {
    same = λ s. passes_quiet s s refl refl refl refl refl refl refl refl refl (λ e h. h);
    trans = λ {s} {t} {u} f g. (stays_then script honest Full b {s = s} {t = t} {u = u} f.0 g.0, refers_then K s t u f.1 g.1, λ e h. g.2 e (f.2 e h));
    fuel = λ s k. passes_quiet s (record s { fuel = s.fuel - k }) refl refl refl refl refl refl refl refl refl (λ e h. h);
    happened = λ s e. passes_quiet s (record s { happened = s.happened ++ e ∷ [] }) refl refl refl refl refl refl refl refl refl (λ x h. among_more x s.happened e h);
    activations = λ s. passes_quiet s (record s { activations = suc s.activations }) refl refl refl refl refl refl refl refl refl (λ e h. h);
    thing = λ s t. passes_quiet s (record s { things = s.things ++ t ∷ [] }) refl refl refl refl refl refl refl refl refl (λ e h. h);
    killed = λ s k. passes_quiet s (record s { things = state.change state.dead k s.things }) refl refl refl refl refl refl refl refl refl (λ e h. h);
    slot = λ s c. passes_quiet s (record s { slots = s.slots ++ c ∷ [] }) refl refl refl refl refl refl refl refl refl (λ e h. h);
    written = λ s k x. passes_quiet s (record s { slots = state.change (state.holding x) k s.slots }) refl refl refl refl refl refl refl refl refl (λ e h. h);
    list = λ s xs. passes_quiet s (record s { lists = s.lists ++ xs ∷ [] }) refl refl refl refl refl refl refl refl refl (λ e h. h);
  }

  passes_told : (h : ℕ) (o : Name) → Keeps Passes (alter K (ToTell h) o)
  unfolding alter
  passes_told h o = record { after = λ s. let t : Vat Name = record s { known = state.with_change K (ToTell h) o s.known } in let g = change_adds K (ToTell h) o tt s in (stays_quiet script honest Full b s t (g, refl, refl, refl), g.alike, λ e h. h) }

  passes_gift : (h : ℕ) (o : Name) → Keeps {N = Name} {A = Passed Name} Passes (draw K >>= (λ i. send_out h (Open i o) >> give (AGift h i)))
  unfolding draw ◌>>=◌ ◌>>◌ and_then send_out give draws
  passes_gift h o = record { after = λ s. go s (drawn_at zero (K.word (length s.drawn)) s.drawn) refl }
    where
      go : (s : Vat Name) (k : Option ℕ) → drawn_at zero (K.word (length s.drawn)) s.drawn ≡ k → After {N = Name} {A = Passed Name} Passes s (and_then (draws (K.word (length s.drawn)) k s) (λ i. send_out h (Open i o) >> give (AGift h i)))
      go s (Some i) e = passes.same s
      go s None e = let c = K.word (length s.drawn) in (opened script honest Full b h c o s e, alike_same K s (record s { drawn = s.drawn ++ c ∷ []; outbox = s.outbox ++ record { to = h; note = Open (key s.number c) o } ∷ [] }) refl refl refl refl, λ x h. h)

  passes_note : (h : ℕ) (o : Note Name) → LetsNothingGo o → Keeps {N = Name} {A = Unit {0}} Passes (send_out h o)
  unfolding send_out
  passes_note h o i = record { after = λ s. let p : Put Name = record { to = h; note = o } in let t : Vat Name = record s { outbox = s.outbox ++ p ∷ [] } in let g = adds_note K s p i in (stays_quiet script honest Full b s t (g, refl, refl, refl), g.alike, λ e h. h) }

  -- vats are told what a name settled to
  passes_informs : (o : Name) (hs : List ℕ) → Keeps Passes (each (refs.inform K o) hs)
  passes_informs o hs = informs_each K Passes passes (λ h x. keeps_pass K Passes passes passes_told passes_gift h x) passes_note o hs

  passes_all : (h : ℕ) (xs : List (Value Name)) → Keeps Passes (refs.pass_all K h xs)
  passes_all h xs = keeps_pass_all K Passes passes passes_told passes_gift h xs

  -- ---- what the name leads to

  pub learnt_aims : (s : Vat Name) → IsLearnt b script s n → L s b (Ref n) ≡ aimed b (refs.follow K s (Ref n)) (refs.place K s (refs.follow K s (Ref n)))
  unfolding leads amid
  learnt_aims s known = leads_there script honest w b r s there (Ref n) known

  leads_own : (s : Vat Name) → leads_in script honest b s (Ref n) ≡ L s b (Ref n)
  unfolding leads_at
  leads_own s = sym (ap (λ o. leads_at script honest b o (Ref n)) (get_put w.vats b r s there))

  pub learnt_on : (s t : Vat Name) → RefersAlike K s t → IsLearnt b script s n → IsLearnt b script t n
  learnt_on s t g (inl o) = inl o
  learnt_on s t g (inr h) = let k = some_alike n (refs.entry_of K s.known n) (refs.entry_of K t.known n) h.0 (g.entries n) h.1 in inr (k.0, k.1)

  -- ---- the message is put on

  -- that link from this vat is there
  abbrev pub IsLinked : ℕ → Type 0
  IsLinked h = (l : Link) × (world.link_at b h w.links ≡ Some l)

  module _ (h : ℕ) (q : Name) (x : Message Name) (id : x.id ≡ d.message) where
    -- it stands last on the next link, or that is cut; and the vat refers alike
    abbrev pub GoesOut : Vat Name → Vat Name → Type 0
    GoesOut s t = Ends s t × RefersAlike K s t

    module _ (s : Vat Name) (ready : Ready script honest Full b s) (known : IsLearnt b script s n) (lead : L s b (Ref n) ≡ End (Way b h) q) (zs : Passeds Name) where
      abbrev P : Put Name
      P = record { to = h; note = Deliver (refs.delivery_of K x) q x.verb zs }

      abbrev T : Vat Name
      T = record s { outbox = s.outbox ++ P ∷ [] }

      abbrev D : Put Name
      D = record { to = h; note = Deliver d q verb zs }

      abbrev S : Vat Name
      S = record s { outbox = s.outbox ++ D ∷ [] }

      at : (o : Bool) × (refs.place K s (refs.follow K s (Ref n)) ≡ Away h q o)
      at = aimed_back b h q (refs.follow K s (Ref n)) (refs.place K s (refs.follow K s (Ref n))) (sym (learnt_aims s known) ∙ lead)

      abbrev Old : Message Name
      Old = record { id = d.message; target = Ref n; verb = verb; args = []; answer = None }

      same_leads : (z : ℕ) (y : Value Name) → L T z y ≡ L s z y
      same_leads = grown_leads s T (grown_adds script honest Full b s T (adds_note K s P tt))

      first_gone : FirstLeft (W s) (Y T) From I
      first_gone = first_left s T (adds_note K s P tt)

      module _ (on : IsOpenWay honest b h w) where
        last : (Y S).stands (Way b h) ≡ (W s).stands (Way b h) ++ item d.message q ∷ []
        last = (carried_are_put_last script honest w a b h r s d n q at.0 verb ys zs there way on (away_other script b s ready.number (refs.follow K s (Ref n)) h q at.0 at.1) known at.1).0

        put_last : (Y T).stands (Way b h) ≡ (W s).stands (Way b h) ++ item d.message q ∷ []
        put_last = note_open script honest w b h on.sender on.receiver (refs.delivery_of K x) q x.verb zs s T refl (on.link, on.found, on.uncut)
            ∙ ap (λ m. (Y s).stands (Way b h) ++ item m q ∷ []) id
            ∙ sym (note_open script honest w b h on.sender on.receiver d q verb zs s S refl (on.link, on.found, on.uncut))
            ∙ last

        goes : GoesOn (W s) (Y T) From I (Way b h) q
        unfolding ways world.link_at ways_of world.push_all amid
        goes = went script honest w a b r s Old d.asks d.answer n verb ys there way T (Way b h) q (outbox_refers K s (s.outbox ++ P ∷ [])) (λ i j. j) (P ∷ []) refl (tt, tt)
            (leads_own s ∙ lead) (subst (λ js. IsIn (item d.message q) js) (sym put_last) (last_in ((W s).stands (Way b h)) (item d.message q)))

        put_open : Ends s T
        put_open = let g = goes in inl (
          leaves_carries (W s) (Y T) (L s) (L T) From I (goes_on_leaves (W s) (Y T) a b (Way b h) I q g first_gone) same_leads (lacks s),
          (Way b h, (W s).stands (Way b h), q, record { behind = []; found = put_last }, (gone_on_is_behind (W s) (Y T) From (Way b h) I q g tt).0),
        )

      module _ (on : IsHonestWay honest b h w) (cut : on.link.cut ≡ true) (posted : IsAmong (Posted h d.message) s.happened) where
        put_ends : world.is_cut b h w.links ≡ true
        unfolding world.is_cut world.cut_in
        put_ends = ap (λ o. world.cut_in o) on.found ∙ cut

        shut : (o : Name) → (Y T).onward (Way b h) o ≡ Nowhere
        shut o = shut_way script honest w b h on cut T o

        put_shut : Ends s T
        put_shut =
            let g = left_for script honest w a b r s Old d.asks d.answer n verb ys there way T (Way b h) q (outbox_refers K s (s.outbox ++ P ∷ [])) (λ i j. j) (P ∷ []) refl (tt, tt) (leads_own s ∙ lead) in
            inr (inl (posted_cut h put_ends posted, λ i. leaves_carries (W s) (Y T) (L s) (L T) From I (shut_leaves (W s) (Y T) a b I (Way b h) q g.0 (λ l o. g.1 l o) g.2 shut first_gone) same_leads (lacks s)))

      -- it goes to a vat that is not honest
      put_away : honest h ≡ false → Ends s T
      put_away e =
          let g = left_for script honest w a b r s Old d.asks d.answer n verb ys there way T (Way b h) q (outbox_refers K s (s.outbox ++ P ∷ [])) (λ i j. j) (P ∷ []) refl (tt, tt) (leads_own s ∙ lead) in
          let keep = others_keep (W s) (Y T) From I g.0 (λ l o. g.1 l o) in
          inr (inr (
            (h, q, lead, e),
            record {
              references = λ z y. subst (λ c. StaysBehindBut d.message (W s) (Y T) (L s z y) c) (sym (same_leads z y)) (keep (L s z y) (L s z y) stays);
              places = λ l c o m i. keep (Mid l c m) (Mid l o m) i;
              left = first_gone;
            },
          ))

      put_by : (on : IsHonestWay honest b h w) (c : Bool) → on.link.cut ≡ c → IsAmong (Posted h d.message) s.happened → Ends s T
      put_by on true e i = put_shut on e i
      put_by on false e i = put_open (record { link = on.link; found = on.found; uncut = e; sender = on.sender; receiver = on.receiver })

      put_so : IsLinked h → (c : Bool) → honest h ≡ c → IsAmong (Posted h d.message) s.happened → Ends s T
      put_so on false e i = put_away e
      put_so on true e i = put_by (record { link = on.0; found = on.1; sender = way.receiver; receiver = e }) on.0.cut refl i

      pub puts_out : IsLinked h → IsAmong (Posted h d.message) s.happened → GoesOut s T
      puts_out on i = (put_so on (honest h) refl i, outbox_refers K s (s.outbox ++ P ∷ []))

    -- with its arguments
    pub delivers : IsLinked h → (s : Vat Name) → Ready script honest Full b s → IsLearnt b script s n → L s b (Ref n) ≡ End (Way b h) q → IfGives (GoesOut s) (refs.deliver K x h q s)
    unfolding refs.deliver ◌>>=◌ ◌>>◌ and_then tell send_out
    delivers on s ready known lead = go (refs.pass_all K h x.args s) ((passes_all h x.args).after s)
      where
        go : (e : Done Name (Passeds Name)) → After Passes s e → IfGives (GoesOut s) (and_then e (λ zs. tell (Posted h x.id) >> send_out h (Deliver (refs.delivery_of K x) q x.verb zs)))
        go (Gives zs t) f =
            let u : Vat Name = record t { happened = t.happened ++ Posted h x.id ∷ [] } in
            let g : Passes s u = passes.trans {s = s} {t = t} {u = u} f (passes.happened t (Posted h x.id)) in
            let both = g.0 ready in
            let line : IsAmong (Posted h d.message) u.happened = subst (λ i. IsAmong (Posted h i) u.happened) id (among_last t.happened (Posted h x.id)) in
            let out = puts_out u both.0 (learnt_on s u g.1 known) (grown_leads s u both.1 b (Ref n) ∙ lead) zs on line in
            let v : Vat Name = record u { outbox = u.outbox ++ record { to = h; note = Deliver (refs.delivery_of K x) q x.verb zs } ∷ [] } in
            (ends_before s u v both.1 out.0, refers_then K s u v g.1 out.1)
        go other f = tt

  -- ---- its answer waits

  comes_then : (s t u : Vat Name) → Firm (Y t) (Y u) (L t) (L u) → Comes s t → Comes s u
  comes_then s t u f c = (c.0, c.1, c.2, stands_more (Y t) (Y u) d.message c.0 c.1 c.2 (f.more c.0) c.3, behind_then (W s) (Y t) (Y u) (Mid From [] n) (Mid c.0 c.1 c.2) (Mid c.0 c.1 c.2) c.4 (f.places c.0 c.1 c.2))

  -- of where an unsettled answer leads nothing is said
  loose_answer : (t : Vat Name) (g : ℕ) (m : Msg) (k : Known Name) → refs.entry_of K t.known (Answer g m) ≡ Some k → k.standing ≡ Unsettled → IsLoose script honest w b (Answer g m) t
  unfolding ways ways_of onward_at released_at released unsettled amid refs.standing_of refs.standing_in
  loose_answer t g m k e u o =
      let vs = world.put_at b t w.vats in
      let ls = world.push_all b t.outbox w.links in
      ap (λ x. released_at script honest vs ls b (Answer g m) x) (get_put w.vats b r t there)
      ∙ ap (λ z. released script honest vs ls b (Answer g m) t.gifts z) (ap (λ z. refs.standing_in z) e ∙ u)

  -- what stands nowhere as the ways have grown stood nowhere
  nowhere_before : (t u : Ways) → Grows t u → (m : Name) → IsNowhere u m → IsNowhere t m
  nowhere_before t u g m h = record { lanes = λ l o i. h.lanes l o (g.stands l (item m o) i); places = λ l o. led l o (g.onward l o) }
    where
      led : (l : Lane) (o : Name) → (u.onward l o ≡ t.onward l o) ⊎ (IsOneWay l × (t.onward l o ≡ Free)) → LacksAt m (t.onward l o)
      led l o (inl e) = subst (LacksAt m) e (h.places l o)
      led l o (inr e) = subst (LacksAt m) (sym e.1) tt

  ends_after : (s t u : Vat Name) → Grown script honest w b t u → (IsOut t → IsOut u) → Ends s t → Ends s u
  ends_after s t u g o (inl h) = let f = firm_bare t u g in inl (carries_then (W s) (Y t) (Y u) (L s) (L t) (L u) From I h.0 f, comes_then s t u f h.1)
  ends_after s t u g o (inr (inl h)) = let f = firm_bare t u g in inr (inl (o h.0, λ i. carries_then (W s) (Y t) (Y u) (L s) (L t) (L u) From I (h.1 (nowhere_before (Y t) (Y u) g.grows d.message i)) f))
  ends_after s t u g o (inr (inr h)) = inr (inr (h.0, but_then (W s) (Y t) (Y u) (L s) (L t) (L u) From I h.1 (firm_bare t u g)))

  out_still : (t u : Vat Name) (e : Happened Name) → u.queue ≡ t.queue → u.happened ≡ t.happened ++ e ∷ [] → IsOut t → IsOut u
  out_still t u e i j (came_on_data q x f g k) = came_on_data q x (i ∙ f) g k
  out_still t u e i j (told_lost h) = told_lost (subst (λ es. IsAmong (Lost d.message) es) (sym j) (among_more (Lost d.message) t.happened e h))
  out_still t u e i j (posted_cut c f h) = posted_cut c f (subst (λ es. IsAmong (Posted c d.message) es) (sym j) (among_more (Posted c d.message) t.happened e h))

  waits_out : (s t : Vat Name) (g : ℕ) (m : Msg) (z : Name) (k : Known Name) → refs.entry_of K t.known (Answer g m) ≡ Some k → k.standing ≡ Unsettled → Ends s t → IfGives (Ends s) (refs.wait_on K (Answer g m) z t)
  unfolding refs.wait_on ◌>>◌ and_then tell alter
  waits_out s t g m z k e i h =
      let p : Name = Answer g m in
      let v : Vat Name = record t { known = state.with_change K (Wait p) z (state.with_change K (WaitOn z) p t.known) } in
      let u : Vat Name = with_line v (Waits p z) in
      ends_after s t u (waits_grown script honest w b t p z k e i (loose_answer t g m k e i)) (out_still t u (Waits p z) refl refl) h

  pub ends_map : (s t : Vat Name) (e : Done Name (Unit {0})) → Grown script honest Full b s t → IfGives (Ends t) e → IfGives (Ends s) e
  ends_map s t (Gives x u) g h = ends_before s t u g h
  ends_map s t other g h = tt

  -- ---- a message with an answer is put on

  module _ (msg : Msg) (named : d.message ≡ Sent msg) where
    abbrev pub Own : Name
    Own = Answer b msg

    -- the message is this vat's own only by a number below its count
    abbrev pub IsBefore : Vat Name → Type 0
    IsBefore s = msg.sender ≡ b → suc msg.number ≤ s.messages

    -- its answer here is unsettled
    abbrev pub IsAsked : Vat Name → Type 0
    IsAsked s = (k : Known Name) × (refs.entry_of K s.known Own ≡ Some k) × (k.standing ≡ Unsettled)

    -- it holds nothing, nothing waits for it, and nothing else is followed to it
    abbrev pub IsLone : Vat Name → Type 0
    IsLone s = (k : Known Name) × IsFresh K b s Own k × IsAlone K s.known Own

    answer_root : (h : ℕ) → Answer h msg ≡ Root 0 → ⊥
    answer_root h e = cc

    answer_sent : (h : ℕ) (m : Msg) → Answer h msg ≡ Sent m → ⊥
    answer_sent h m e = cc

    answer_promise : (h i : ℕ) → Answer h msg ≡ Promise b i → ⊥
    answer_promise h i e = cc

    same_msg : (h g : ℕ) (m : Msg) → Answer h msg ≡ Answer g m → msg ≡ m
    same_msg h g m e = ap (λ z. elim z [ Answer x y ↦ y | _ ↦ msg ]) e

    too_late : (s : Vat Name) (h g i : ℕ) → IsBefore s → s.messages ≤ i → Answer h msg ≡ Answer g (record { sender = b; number = i }) → ⊥
    too_late s h g i before late e = let same = same_msg h g (record { sender = b; number = i }) e in
        let l : suc msg.number ≤ s.messages = before (ap (λ (m : Msg). m.sender) same) in let j : msg.number ≡ i = ap (λ (m : Msg). m.number) same in omega arith

    pub next_answer : (s : Vat Name) (h : ℕ) → IsBefore s → IsNotNext b s (Root 0) (Answer h msg)
    next_answer s h before = (λ e. answer_root h e, λ m e. answer_sent h m e, λ g i l e. too_late s h g i before l e, λ i l e. answer_promise h i e)

    pub entry_on : (s t : Vat Name) → RefersAlike K s t → IsAsked s → IsAsked t
    entry_on s t g h = let k = some_alike Own (refs.entry_of K s.known Own) (refs.entry_of K t.known Own) h.0 (g.entries Own) h.1 in (k.0, k.1, k.2 ∙ h.2)

    module _ (h : ℕ) (q : Name) (on : IsLinked h) (x : Message Name) (id : x.id ≡ d.message) where
      -- once its next answer is known
      waits_on_next : (s : Vat Name) → Ready script honest Full b s → IsLearnt b script s n → IsAsked s → L s b (Ref n) ≡ End (Way b h) q → (z : Name)
          → IfGives (Ends s) (and_then (refs.deliver K (record x { answer = Some z }) h q s) (λ _. refs.wait_on K Own z))
      unfolding and_then
      waits_on_next s ready known asked lead z = go (refs.deliver K (record x { answer = Some z }) h q s) (delivers h q (record x { answer = Some z }) id on s ready known lead)
        where
          go : (e : Done Name (Unit {0})) → IfGives (GoesOut h q (record x { answer = Some z }) id s) e → IfGives (Ends s) (and_then e (λ _. refs.wait_on K Own z))
          go (Gives y t) g = let k = entry_on s t g.1 asked in waits_out s t b msg z k.0 k.1 k.2 g.0
          go other g = tt

      next_known : (s : Vat Name) → Ready script honest Full b s → IsBefore s → IsLearnt b script s n → IsAsked s → L s b (Ref n) ≡ End (Way b h) q
          → IfGives (Ends s) (and_then (refs.deliver K (record x { answer = Some (Answer h msg) }) h q (record s { known = s.known ++ begun (Answer h msg) h ∷ [] })) (λ _. refs.wait_on K Own (Answer h msg)))
      unfolding host_of
      next_known s ready before known asked lead =
          let z : Name = Answer h msg in
          let t : Vat Name = record s { known = s.known ++ begun z h ∷ [] } in
          let grows = come_stays script honest Full b s z (λ o. o) (Root 0) (next_answer s h before) ready in
          let more : IsLearnt b script t n = learnt_more s z h known in
          let still : IsAsked t = (asked.0, old_entry K s.known (begun z h) asked.0 Own asked.1, asked.2) in
          ends_map s t (and_then (refs.deliver K (record x { answer = Some z }) h q t) (λ _. refs.wait_on K Own z)) grows.1 (waits_on_next t grows.0 more still (grown_leads s t grows.1 b (Ref n) ∙ lead) z)
        where
          learnt_more : (s : Vat Name) (z : Name) (h : ℕ) → IsLearnt b script s n → IsLearnt b script (record s { known = s.known ++ begun z h ∷ [] }) n
          learnt_more s z h (inl o) = inl o
          learnt_more s z h (inr k) = inr (k.0, old_entry K s.known (begun z h) k.0 n k.1)

      pub goes_with : (s : Vat Name) → x.answer ≡ Some Own → Ready script honest Full b s → IsBefore s → IsLearnt b script s n → IsAsked s → L s b (Ref n) ≡ End (Way b h) q → IfGives (Ends s) (refs.pass_on K x h q s)
      unfolding refs.pass_on for_some ◌>>=◌ ◌>>◌ come names naming name_of answer_of refs.deliver refs.wait_on and_then tell alter
      goes_with s asks ready before known asked lead =
          subst (λ o. IfGives (Ends s) (for_some o (λ p. come K (IsAnswer h x.id) h >>= (λ z. refs.deliver K (record x { answer = Some z }) h q >> refs.wait_on K p z)) (refs.deliver K x h q) s)) (sym asks)
          (subst (λ i. IfGives (Ends s) (and_then (refs.deliver K (record x { answer = Some (answer_of h i) }) h q (record s { known = s.known ++ begun (answer_of h i) h ∷ [] })) (λ _. refs.wait_on K Own (answer_of h i)))) (sym (id ∙ named)) (next_known s ready before known asked lead))

      pub goes_without : (s : Vat Name) → x.answer ≡ None → Ready script honest Full b s → IsLearnt b script s n → L s b (Ref n) ≡ End (Way b h) q → IfGives (Ends s) (refs.pass_on K x h q s)
      unfolding refs.pass_on for_some
      goes_without s none ready known lead =
          subst (λ o. IfGives (Ends s) (for_some o (λ p. come K (IsAnswer h x.id) h >>= (λ z. refs.deliver K (record x { answer = Some z }) h q >> refs.wait_on K p z)) (refs.deliver K x h q) s)) (sym none)
          (less (refs.deliver K x h q s) (delivers h q x id on s ready known lead))
        where
          less : (e : Done Name (Unit {0})) → IfGives (GoesOut h q x id s) e → IfGives (Ends s) e
          less (Gives y t) g = g.0
          less other g = tt

    -- ---- it is sent on

    module _ (s : Vat Name) (ready : Ready script honest Full b s) (before : IsBefore s) (known : IsLearnt b script s n) (args : List (Value Name)) (answer : Option Name) (asked : (p : Name) → answer ≡ Some p → (p ≡ Own) × IsAsked s × IsLone s)
        (onward : (h : ℕ) (q : Name) → L s b (Ref n) ≡ End (Way b h) q → IsLinked h) where
      abbrev Mail : Message Name
      Mail = record { id = d.message; target = Ref n; verb = verb; args = args; answer = answer }

      abbrev To : Value Name
      To = refs.follow K s (Ref n)

      abbrev At : refs.Place Name
      At = refs.place K s To

      abbrev settles : Settler {N = Name} {W = Name} K
      settles = refs.settle K

      waits : (q : Name) → At ≡ Mine q → (k : Known Name) × (refs.entry_of K s.known q ≡ Some k) × IsWaiting k.standing
      waits q e = mine_waits script honest Full b s ready (Ref n) q known e

      here_ends : (t : Vat Name) → IsHere At → refs.send_to K settles Mail To At s ≡ Gives tt t → AddsOnly K s t → (aimed b To At ≡ Nowhere → IsOut t) → Ends s t
      here_ends t h e adds out = ends_by s t (aimed b To At)
          (given (λ u. GoesTo (W s) (Y u) From I (aimed b To At)) (refs.send_to K settles Mail To At s) t e (carried_messages_go_on script honest w a b r s settles Mail d.asks d.answer n verb ys there way known waits h))
          (given (λ u. MovesLast (W s) (Y u) From I (aimed b To At)) (refs.send_to K settles Mail To At s) t e (carried_come_last script honest w a b r s settles Mail d.asks d.answer n verb ys there way known waits h))
          (first_left s t adds) (grown_leads s t (grown_adds script honest Full b s t adds)) out

      near_out : (t : Vat Name) → t.queue ≡ s.queue ++ record Mail { target = To } ∷ [] → aimed b To Near ≡ Nowhere → IsOut t
      near_out t e f = go (name_or To)
        where
          go : ((o : Name) × (To ≡ Ref o)) ⊎ IsNoName To → IsOut t
          go (inl h) = absurd (end_nowhere (Queue b) h.0 (sym (near_end b To h.0 h.1) ∙ f))
          go (inr h) = came_on_data s.queue (record Mail { target = To }) e refl h

      mine_end : (q : Name) → aimed b To (Mine q) ≡ End (Held b q) q
      unfolding aimed
      mine_end q = refl

      gone_nowhere : (p : Words) → aimed b To (Gone p) ≡ Nowhere
      unfolding aimed
      gone_nowhere p = refl

      away_end : (h : ℕ) (q : Name) (o : Bool) → aimed b To (Away h q o) ≡ End (Way b h) q
      unfolding aimed
      away_end h q o = refl

      abbrev Told : Vat Name
      Told = record s { happened = s.happened ++ Lost d.message ∷ [] }

      told_grown : Ready script honest Full b Told × Grown script honest Full b s Told
      told_grown = stays_quiet script honest Full b s Told (quiet s Told refl refl refl refl refl refl, refl, refl, refl) ready

      -- it leads nowhere, and what the vat does then keeps order: so the note may leave
      lost_by : (u : Vat Name) → IsOut u → Firm (W s) (W u) (L s) (L u) → L u b (Ref n) ≡ Nowhere → Ends s u
      lost_by u out f lead =
          let first = stands_first s in
          inr (inl (
            out,
            λ h. firm_carries (W s) (W u) (Y u) (L s) (L u) (L u) From I first.0 first.1 f
                (leaves_carries (W u) (Y u) (L u) (L u) From I
                (lost_leaves (W u) (Y u) a b I (gone script honest w a b r u Mail d.asks d.answer n verb ys there way u (self_refers K u) (λ i j. j) refl (leads_own u ∙ lead) h) (first_left u u (quiet u u refl refl refl refl refl refl)))
                (λ z x. refl) (lacks u)),
          ))

      lost_ends : L s b (Ref n) ≡ Nowhere → Ends s Told
      lost_ends lead = lost_by Told (told_lost (among_last s.happened (Lost d.message))) (firm_full s Told told_grown.1) (grown_leads s Told told_grown.1 b (Ref n) ∙ lead)

      -- the answer breaks with it, and the vats are told that are to be
      module _ (p : Words) (lead : L s b (Ref n) ≡ Nowhere) (entry : Known Name) (fresh : IsFresh K b s Own entry) (alone : IsAlone K s.known Own) where
        abbrev Broke0 : Vat Name
        Broke0 = Broke K Told Own p

        fresh_told : IsFresh K b Told Own entry
        fresh_told = record { found = fresh.found; unsettled = fresh.unsettled; held = fresh.held; waiting = fresh.waiting; reactions = fresh.reactions; hosted = fresh.hosted }

        there_full : slice_get Full.vats b ≡ Some r
        unfolding keeping
        there_full = there

        broken : Ready script honest Full b Broke0 × Firm (W Told) (W Broke0) (L Told) (L Broke0) × ((z : ℕ) (x : Value Name) → L Told z x ≡ Nowhere → L Broke0 z x ≡ Nowhere)
        unfolding leads amid keeping
        broken = breaks script honest Full b r there_full Told Own p fresh_told alone tt (λ o. o) told_grown.0

        lost_then : (u : Vat Name) → Passes Broke0 u → Ends s u
        lost_then u g =
            let informed = g.0 broken.0 in
            lost_by u (told_lost (g.2 (Lost d.message) (among_more (Lost d.message) Told.happened (Settles Own (Broken p)) (among_last s.happened (Lost d.message)))))
            (firm_then (W s) (W Told) (W u) (L s) (L Told) (L u) (firm_full s Told told_grown.1) (firm_then (W Told) (W Broke0) (W u) (L Told) (L Broke0) (L u) broken.1 (firm_full Broke0 u informed.1)))
            (grown_leads Broke0 u informed.1 b (Ref n) ∙ broken.2 b (Ref n) (grown_leads s Told told_grown.1 b (Ref n) ∙ lead))

        informed_ends : (e : Done Name (Unit {0})) → After Passes Broke0 e → IfGives (Ends s) e
        informed_ends (Gives x u) g = lost_then u g
        informed_ends other g = tt

        broken_ends : IfGives (Ends s) (refs.settle K Own (Broken p) Told)
        broken_ends = subst (λ e. IfGives (Ends s) e) (sym (settles_so K b Told Own p fresh_told)) (informed_ends (each (refs.inform K Own) entry.told Broke0) ((passes_informs Own entry.told).after Broke0))

      out_by : (h : ℕ) (q : Name) → L s b (Ref n) ≡ End (Way b h) q → (o : Option Name) → answer ≡ o → IfGives (Ends s) (refs.pass_on K Mail h q s)
      out_by h q lead None e = goes_without h q (onward h q lead) Mail refl s e ready known lead
      out_by h q lead (Some p) e = let k = asked p e in goes_with h q (onward h q lead) Mail refl s (e ∙ ap (λ z. Some z) k.0) ready before known k.1 lead

      sent_lost : (p : Words) → L s b (Ref n) ≡ Nowhere → (o : Option Name) → answer ≡ o → IfGives (Ends s) (refs.send_to K settles Mail To (Gone p) s)
      unfolding refs.send_to ◌>>◌ and_then tell for_some give
      sent_lost p lead None e = subst (λ o. IfGives (Ends s) (for_some o (λ z. settles z (Broken p)) (give tt) Told)) (sym e) (lost_ends lead)
      sent_lost p lead (Some z) e = let k = asked z e in subst (λ o. IfGives (Ends s) (for_some o (λ z. settles z (Broken p)) (give tt) Told)) (sym (e ∙ ap (λ z. Some z) k.0)) (broken_ends p lead k.2.0 k.2.1 k.2.2)

      sent_to : (p : refs.Place Name) → At ≡ p → IfGives (Ends s) (refs.send_to K settles Mail To p s)
      unfolding refs.send_to enqueue alter
      sent_to Near e = let t : Vat Name = record s { queue = s.queue ++ record Mail { target = To } ∷ [] } in
          here_ends t (subst IsHere (sym e) tt) (ap (λ p. refs.send_to K settles Mail To p s) e) (adds_message K s (record Mail { target = To })) (λ f. near_out t refl (ap (λ p. aimed b To p) (sym e) ∙ f))
      sent_to (Mine q) e = let t : Vat Name = record s { known = state.with_change K (Hold (record Mail { target = To })) q s.known } in
          here_ends t (subst IsHere (sym e) tt) (ap (λ p. refs.send_to K settles Mail To p s) e) (change_adds K (Hold (record Mail { target = To })) q tt s) (λ f. absurd (end_nowhere (Held b q) q (sym (ap (λ p. aimed b To p) e ∙ mine_end q) ∙ f)))
      sent_to (Away h q o) e = out_by h q (learnt_aims s known ∙ ap (λ p. aimed b To p) e ∙ away_end h q o) answer refl
      sent_to (Gone p) e = let lead = learnt_aims s known ∙ ap (λ z. aimed b To z) e ∙ gone_nowhere p in sent_lost p lead answer refl

      pub sends : IfGives (Ends s) (refs.send_on K settles Mail s)
      unfolding refs.send_on ◌>>=◌ and_then look
      sends = sent_to At refl
