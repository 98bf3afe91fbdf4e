-- A note that opens a gift arrives in a run: its name is learnt, and the gift is there or comes to be.
use Rattle.std.proofs.Common.{◌≡◌, ℕ, ◌+◌, ◌≤◌, Bool, true, false, List, [], ◌∷◌, ◌++◌, Option, Some, None, refl, sym, ap, subst, ◌∙◌, ◌⊎◌, inl, inr, arith, append_assoc, eq-eqb}
use Rattle.std.specs.Prelude.{◌==◌}
use Rattle.def_machine.specs.Values.{Name, Object, Sent, Gift, Msg, Ref, Naming, host_of, naming, name_of}
use Rattle.def_machine.specs.State.{Open, GiftEntry, Vat, Gives, WhereSome, begun, come, give, look, new_gift, open_gift, is_gift, with_opened, and_then, ◌>>=◌, ◌>>◌}
use Rattle.def_machine.specs.Arrive as arrive
use Rattle.def_machine.specs.Arrive.{Incoming, Old, New, gift_at}
use Rattle.def_machine.specs.Refs as refs
use Rattle.def_machine.specs.Refs.{entry_of}
use Rattle.def_run.specs.Draws.{draw_word}
use Rattle.def_run.specs.World as world
use Rattle.def_run.specs.World.{Script, Carry, Event, World, names, names_of, read_note, readied}
use Rattle.law_fate.specs.Name.Names.{AllOf, IsEventual, IsKnownIn, IsHad, IsMade, WasMade, GiftOk, NoteOk, names_in}
use Rattle.law_fate.specs.Name.Runs.{KnowsOnce}
use Rattle.law_fate.proofs.Name.Laws.{names_known, notes_made}
use Rattle.law_fate.specs.Fates.Lasting.{NamesNoObject}
use Rattle.law_frame.proofs.Frame.AlikeArrivals.{new_last}
use Rattle.law_reference.proofs.Gift.Kept.{found_named}
use Rattle.law_reference.proofs.OwnWaits.Runs.{waits_in_runs}
use Rattle.law_reference.specs.Reference.Cuts.{NoticesFollowCuts}
use Rattle.law_reference.specs.Reference.Knowing.{one, claims, new_name, new_gift_here, brings}
use Rattle.law_reference.specs.Reference.NameTableRuns.{allowed, brings_here, BringsNew}
use Rattle.law_reference.proofs.Reference.ApartWhole.{bring_new}
use Rattle.law_reference.proofs.Reference.AskHolds.{notices_front}
use Rattle.law_reference.proofs.Reference.VatStep.{link_all}
use Rattle.law_order.specs.Ordering.Arrivals.{IsLearnt}
use Rattle.law_order.specs.Ordering.Steps.{Ready}
use Rattle.law_order.specs.Ordering.Worlds.{IsObject, IsKnown}
use Rattle.law_order.proofs.Ordering.Coming.{new_entry}
use Rattle.law_order.specs.Asks.Asks.{Bears}
use Rattle.law_order.proofs.Carries.Carried.{learnt_in}
use Rattle.law_order.proofs.Carries.Learning.{Came, alone_self}
use Rattle.law_order.proofs.Asks.Gifts.{Given}
use Rattle.law_order.proofs.Waits.Moving.{gift_found}
use Rattle.law_order.proofs.Waits.Room.{known_among, times_least, times_found}
use Rattle.law_order.proofs.Steady.Facts as facts
use Rattle.law_order.proofs.Steady.Starts.{of_all, steady_at}
use Rattle.law_order.proofs.Steady.Steady.{Steady, less}
use Rattle.law_order.specs.Tales.Entries.{GoesBy}
use Rattle.law_order.proofs.Tales.Arriving.{head_of, Arrival}
use Rattle.law_order.proofs.OpenTales.Grown.{More, more_self, more_then, come_more, given_more}
use Rattle.law_order.proofs.OpenTales.Steadies.{come_steady, not_known, given_steady}

-- ---- names

eventual_of : (vats : List (Vat Name)) (ds : List ℕ) (n : Name) → (IsObject n → ⊥) → WasMade vats ds n → IsEventual n
eventual_of vats ds (Object u j) f m = absurd (f tt)
eventual_of vats ds (Sent m) f made = absurd made
eventual_of vats ds other f m = tt

no_object : (n : Name) → (IsObject n → ⊥) → NamesNoObject n
no_object (Object u j) f = absurd (f tt)
no_object other f = tt

new_plain : (ns : List Name) (n : Name) → world.is_old ns n ≡ false → IsObject n → ⊥
unfolding world.is_old
new_plain ns (Object u j) e o = cc
new_plain ns other e o = o

-- ---- a gift that is added is found

both_true : (c d : Bool) → c ≡ true → d ≡ true → elim c [ true ↦ d | false ↦ false ] ≡ true
both_true true d e f = f
both_true false d e f = cc

found_last : (p i : ℕ) (gs : List (GiftEntry Name)) (z : GiftEntry Name) → gift_at p i gs ≡ None → is_gift p i z ≡ true → gift_at p i (gs ++ z ∷ []) ≡ Some z
unfolding gift_at
found_last p i [] z e f = ap (λ c. elim c [ true ↦ Some z | false ↦ None ]) f
found_last p i (y ∷ gs) z e f = go (is_gift p i y) e (λ q. found_last p i gs z q f)
  where
    go : (c : Bool) → ◌≡◌ {A = Option (GiftEntry Name)} (elim c [ true ↦ Some y | false ↦ gift_at p i gs ]) None → (gift_at p i gs ≡ None → gift_at p i (gs ++ z ∷ []) ≡ Some z)
        → ◌≡◌ {A = Option (GiftEntry Name)} (elim c [ true ↦ Some y | false ↦ gift_at p i (gs ++ z ∷ []) ]) (Some z)
    go true q r = absurd (let k : ◌≡◌ {A = Option (GiftEntry Name)} (Some y) None = q in cc)
    go false q r = r q

module _ (script : Script) (once : KnowsOnce script) (follow : NoticesFollowCuts script.schedule) (honest : ℕ → Bool) (x y : World) (a b i : ℕ) (n : Name) (g : GoesBy script (Carry a b) x y) (h : Bears x a b (Open i n)) where
  abbrev K : Naming Name Name
  K = names script b

  abbrev Was : Vat Name
  Was = h.vat

  abbrev pub Start : Vat Name
  Start = readied x Was

  abbrev pub Head : List Event
  Head = head_of script honest x a b (Open i n) h g.number

  abbrev pub G : Name
  G = Gift b i

  abbrev Ns : List Name
  Ns = names_of Was

  abbrev N : Incoming Name Name
  N = world.read_name Ns n

  abbrev Gifts : Name → ℕ
  Gifts z = new_gift_here b z i (gift_at a i Was.gifts)

  -- ---- what the note brings is new

  follow_then : NoticesFollowCuts (g.es ++ Carry a b ∷ [])
  follow_then = notices_front script [] (g.es ++ Carry a b ∷ []) g.rest (subst NoticesFollowCuts (g.split ∙ sym (append_assoc g.es (Carry a b ∷ []) g.rest)) follow)

  pub follow_so : NoticesFollowCuts g.es
  follow_so = notices_front script [] g.es (Carry a b ∷ g.rest) (subst NoticesFollowCuts g.split follow)

  news : BringsNew x a b (Open i n) Was
  news = new_last script g.es (Carry a b) 1 g.opened x (bring_new script once g.opened (g.es ++ Carry a b ∷ []) 1 follow_then g.opens) g.before h.link (Open i n) h.rest Was h.found h.first h.there

  new_so : (z : Name) → claims b z Was.known + (new_name z N + Gifts z) ≤ allowed b z Was x.drawn
  unfolding brings_here brings read_note
  new_so z = news z

  starts : Steady script x b (of_all []) (λ m. 0) Start
  starts = steady_at script once g.opened x g.es 1 follow_so g.opens g.before b Was h.there ((waits_in_runs script once).1 g.opened x g.es 1 g.opens g.before b Was h.there) [] Was.queue refl

  begins : Steady script x b (of_all []) (λ z. new_name z N + Gifts z) Start
  unfolding readied allowed
  begins = record { sound = starts.sound; later = starts.later; owners = starts.owners; itself = starts.itself; draws = starts.draws; room = starts.room; single = λ z. new_so z }

  made : WasMade x.vats x.drawn n
  made = let notes : AllOf (NoteOk (IsMade x.vats x.drawn)) (Open i n ∷ h.rest) = subst (λ ns. AllOf (NoteOk (IsMade x.vats x.drawn)) ns) h.first (link_all (λ l. AllOf (NoteOk (IsMade x.vats x.drawn)) l.notes) a b x.links h.link ((notes_made script once).1 g.opened x g.es 1 g.opens g.before) h.found) in notes.0.1

  unsent : (m : Msg) → n ≡ Sent m → ⊥
  unsent m e = subst (WasMade x.vats x.drawn) e made

  ready_at : (o : Name → ℕ) (s : Vat Name) → Steady script x b (of_all []) o s → Ready script honest x b s
  ready_at o s q = facts.ready script x b honest (of_all []) o s q

  -- ---- the name is learnt

  record Learns (z : Incoming Name Name) : Type 0 where
    s : Vat Name
    comes : arrive.learn_name K z Start ≡ Gives n s
    steady : Steady script x b (of_all []) Gifts s
    more : More script honest x b Head Start s
    learnt : IsLearnt b script s n
    gifts : s.gifts ≡ Was.gifts

  learns_by : (c : Bool) → world.is_old Ns n ≡ c → Steady script x b (of_all []) (λ z. new_name z (elim c [ true ↦ Old n | false ↦ New n (host_of n) ]) + Gifts z) Start → Learns (elim c [ true ↦ Old n | false ↦ New n (host_of n) ])
  unfolding new_name arrive.learn_name give come names naming name_of readied names_of world.known_after
  learns_by true e q = record {
    s = Start;
    comes = refl;
    steady = less script x b (of_all []) (λ z. 0 + Gifts z) (of_all []) Gifts (λ z. omega arith) (λ z. omega arith) Start q;
    more = more_self script honest x b Head Start;
    learnt = learnt_in script b Was Ns n unsent (ap (λ d. elim d [ true ↦ Ns | false ↦ Ns ++ n ∷ [] ]) (sym e));
    gifts = refl;
  }
  learns_by false e q = let plain = new_plain Ns n e in let eventual = eventual_of x.vats x.drawn n plain made in let new : entry_of (naming (draw_word script.key) b) Start.known n ≡ None = not_known script x b (of_all []) Gifts n Start q in record {
    s = Came script honest x b Start n plain;
    comes = refl;
    steady = come_steady script x b (of_all []) Gifts n Start q (no_object n plain);
    more = come_more script honest x b Head Start n plain eventual new (ready_at (λ z. one n z + Gifts z) Start q);
    learnt = inr (begun n (host_of n), new_entry K Start.known (begun n (host_of n)) n new ∙ alone_self script b n (host_of n) eventual);
    gifts = refl;
  }

  learns : Learns N
  unfolding world.read_name
  learns = learns_by (world.is_old Ns n) refl begins

  -- ---- the gift is there

  abbrev Made : GiftEntry Name
  Made = record { name = G; provider = a; number = i; opened = false }

  made_is : is_gift a i Made ≡ true
  unfolding is_gift
  made_is = both_true (a == a) (i == i) (eq-eqb a a refl) (eq-eqb i i refl)

  record Finds (r : Vat Name) : Type 0 where
    s : Vat Name
    comes : arrive.have_gift K a i r ≡ Gives G s
    steady : Steady script x b (of_all []) (λ z. 0) s
    more : More script honest x b Head r s
    entry : GiftEntry Name
    kept : gift_at a i s.gifts ≡ Some entry
    named : entry.name ≡ G
    known : IsKnown K s G

  named_there : (o : Option (GiftEntry Name)) (e : GiftEntry Name) → WhereSome (λ (z : GiftEntry Name). z.name ≡ G) o → o ≡ Some e → e.name ≡ G
  named_there o e w q = subst (λ z. WhereSome (λ (z : GiftEntry Name). z.name ≡ G) z) q w

  -- what is there already was known
  known_before : (e : GiftEntry Name) → gift_at a i Was.gifts ≡ Some e → e.name ≡ G → IsKnown K Was G
  unfolding names
  known_before e q named = let had = (names_known script once).1 g.opened x g.es 1 g.opens g.before b Was h.there in
      let there : IsKnownIn (names_in Was.known) e.name = (gift_found (GiftOk (IsHad (names_in Was.known) Was.mails)) a i Was.gifts had.gifts e q).0 in
      times_found (draw_word script.key) b G tt Was.known (times_least G Was.known (known_among G tt (names_in Was.known) (subst (IsKnownIn (names_in Was.known)) named there)))

  known_on : (r s : Vat Name) → More script honest x b Head r s → IsKnown K r G → IsKnown K s G
  known_on r s m k = go (m.entries G)
    where
      go : (entry_of K s.known G ≡ entry_of K r.known G) ⊎ ((u : ℕ) × (entry_of K r.known G ≡ None) × (entry_of K s.known G ≡ Some (begun G u))) → IsKnown K s G
      go (inl e) = (k.0, e ∙ k.1)
      go (inr e) = (begun G e.0, e.2)

  have_old : (r : Vat Name) (e : GiftEntry Name) → gift_at a i r.gifts ≡ Some e → e.name ≡ G → arrive.gift_or_new K r.number a i (gift_at a i r.gifts) r ≡ Gives G r
  unfolding arrive.gift_or_new give
  have_old r e q named = ap (λ o. arrive.gift_or_new K r.number a i o r) q ∙ ap (λ z. Gives z r) named

  new_at : (u : ℕ) (r : Vat Name) → u ≡ b → arrive.gift_or_new K u a i None r ≡ Gives G (Given script honest x b (Came script honest x b r G (λ o. o)) G a i)
  unfolding arrive.gift_or_new ◌>>=◌ ◌>>◌ and_then come new_gift give names naming name_of host_of
  new_at u r e = subst (λ z. arrive.gift_or_new K z a i None r ≡ Gives G (Given script honest x b (Came script honest x b r G (λ o. o)) G a i)) (sym e) refl

  have_new : (r : Vat Name) → gift_at a i r.gifts ≡ None → r.number ≡ b → arrive.gift_or_new K r.number a i (gift_at a i r.gifts) r ≡ Gives G (Given script honest x b (Came script honest x b r G (λ o. o)) G a i)
  have_new r q own = ap (λ o. arrive.gift_or_new K r.number a i o r) q ∙ new_at r.number r own

  finds_by : (r : Vat Name) → More script honest x b Head Start r → (o : Option (GiftEntry Name)) → gift_at a i r.gifts ≡ o → gift_at a i Was.gifts ≡ o → r.number ≡ b → Steady script x b (of_all []) (λ z. new_gift_here b z i o) r → Finds r
  unfolding new_gift_here arrive.have_gift look ◌>>=◌ and_then readied
  finds_by r m (Some e) q was own st = let ok = st.room G in let named : e.name ≡ G = named_there (gift_at a i r.gifts) e (found_named b a i r.gifts ok.gifts) q in record {
    s = r;
    comes = have_old r e q named;
    steady = st;
    more = more_self script honest x b Head r;
    entry = e;
    kept = q;
    named = named;
    known = known_on Start r m (known_before e was named);
  }
  finds_by r m None q was own st = let one_more : Steady script x b (of_all []) (λ z. one G z + 0) r = less script x b (of_all []) (λ z. one G z) (of_all []) (λ z. one G z + 0) (λ z. omega arith) (λ z. omega arith) r st in
      let new : entry_of K r.known G ≡ None = not_known script x b (of_all []) (λ z. 0) G r one_more in
      let came : Vat Name = Came script honest x b r G (λ o. o) in
      let came_st : Steady script x b (of_all []) (λ z. 0) came = come_steady script x b (of_all []) (λ z. 0) G r one_more tt in record {
        s = Given script honest x b came G a i;
        comes = have_new r q own;
        steady = given_steady script x b (of_all []) (λ z. 0) came came_st a i;
        more = more_then script honest x b Head r came (Given script honest x b came G a i) (come_more script honest x b Head r G (λ o. o) tt new (ready_at (λ z. one G z) r st)) (given_more script honest x b Head came G a i (ready_at (λ z. 0) came came_st));
        entry = Made;
        kept = found_last a i r.gifts Made q made_is;
        named = refl;
        known = (begun G (host_of G), new_entry K r.known (begun G (host_of G)) G new ∙ alone_self script b G (host_of G) tt);
      }

  finds : Finds learns.s
  finds = let l = learns in finds_by l.s l.more (gift_at a i l.s.gifts) refl (ap (λ gs. gift_at a i gs) (sym l.gifts)) l.steady.sound.same
      (subst (λ gs. Steady script x b (of_all []) (λ z. new_gift_here b z i (gift_at a i gs)) l.s) (sym l.gifts) l.steady)

  -- ---- the vat as it is about to open the gift

  pub record Has : Type 0 where
    pub s : Vat Name
    pub comes : Arrival script honest x a b (Open i n) h ≡ refs.resolve K G (Ref n) (record s { gifts = with_opened a i s.gifts })
    pub steady : Steady script x b (of_all []) (λ z. 0) s
    pub more : More script honest x b Head Start s
    pub learnt : IsLearnt b script s n
    pub entry : GiftEntry Name
    pub kept : gift_at a i s.gifts ≡ Some entry
    pub named : entry.name ≡ G
    pub known : IsKnown K s G

  learnt_on : (r s : Vat Name) → More script honest x b Head r s → IsLearnt b script r n → IsLearnt b script s n
  learnt_on r s m (inl o) = inl o
  learnt_on r s m (inr k) = go (m.entries n)
    where
      go : (entry_of K s.known n ≡ entry_of K r.known n) ⊎ ((u : ℕ) × (entry_of K r.known n ≡ None) × (entry_of K s.known n ≡ Some (begun n u))) → IsLearnt b script s n
      go (inl e) = inr (k.0, e ∙ k.1)
      go (inr e) = inr (begun n e.0, e.2)

  arrival : Arrival script honest x a b (Open i n) h ≡ refs.resolve K G (Ref n) (record (finds.s) { gifts = with_opened a i finds.s.gifts })
  unfolding arrive.arrive arrive.arrive_open read_note ◌>>=◌ ◌>>◌ and_then open_gift
  arrival = ap (λ d. and_then d (λ m. arrive.have_gift K a i >>= (λ p. open_gift a i >> refs.resolve K p (Ref m)))) learns.comes
      ∙ ap (λ d. and_then d (λ p. open_gift a i >> refs.resolve K p (Ref n))) finds.comes

  pub has : Has
  has = record {
    s = finds.s;
    comes = arrival;
    steady = finds.steady;
    more = more_then script honest x b Head Start learns.s finds.s learns.more finds.more;
    learnt = learnt_on learns.s finds.s finds.more learns.learnt;
    entry = finds.entry;
    kept = finds.kept;
    named = finds.named;
    known = finds.known;
  }
