-- A vat learns the names in a note: it stays ready, and the ways only grow.
use Rattle.std.proofs.Common.{◌≡◌, ℕ, ◌≤◌, Bool, true, false, List, [], ◌∷◌, ◌++◌, Option, Some, None, length, refl, sym, ap, subst, ◌∙◌, ◌⊎◌, inl, inr, if◌then◌else◌}
use Rattle.std.specs.Prelude.{codes}
use Rattle.def_machine.specs.Values.{Value, Broken, Ref, Name, Object, Promise, Answer, Gift, Sent, Msg, Naming, host_of, spot_of, naming, name_of, mail_of, same_reference}
use Rattle.def_machine.specs.State.{Known, Settled, Settle, Passed, Passeds, Plain, AGift, Many, NoMore, More, Ask, Put, ListCame, Vat, Act, Done, Gives, ◌>>=◌, ◌>>◌, and_then, give, look, tell, each, changed, new_list, come, mail, send_out, begun, is_in}
use Rattle.def_machine.specs.Refs as refs
use Rattle.def_machine.specs.Arrive as arrive
use Rattle.def_machine.specs.Arrive.{Old, New}
use Rattle.def_run.specs.World.{Script, World, names}
use Rattle.def_run.specs.World as world
use Rattle.law_fate.specs.Name.Names.{IsAmong, IsEventual, names_in}
use Rattle.law_fate.proofs.Name.Among.{names_end}
use Rattle.law_fate.proofs.Name.SameNames.{reference_self}
use Rattle.law_fate.proofs.Name.Tracked.{names_change}
use Rattle.law_order.specs.Ordering.Places.{amid}
use Rattle.law_order.specs.Ordering.Worlds.{IsObject}
use Rattle.law_order.specs.Ordering.Steps.{Ready, Grown, StaysReady}
use Rattle.law_order.proofs.Ordering.Entries.{reference_is}
use Rattle.law_order.proofs.Ordering.Pushing.{all_same}
use Rattle.law_order.proofs.Ordering.Coming.{new_entry, coming, comes_same}
use Rattle.law_order.proofs.Ordering.Amid.{leads_same}
use Rattle.law_order.proofs.Ordering.News.{grown_then, stays_self, stays_then, came_none, came_ends, came_more}
use Rattle.law_order.proofs.Ordering.Adds.{adds_nothing, adds_note, stays_quiet}
use Rattle.law_order.specs.Views.Led.{StandsOtherwise, BreaksAsItsHost}
use Rattle.law_order.proofs.Views.Settling.{settles_alone, settled_now}
use Rattle.law_order.proofs.Views.Severed.{IsAlone, came_alone, ends_then, severed_names_break_quietly}
use Rattle.law_order.proofs.Carries.Breaking.{IsFresh, Line, Broke, settles_so}
use Rattle.law_order.specs.Carries.Carries.{IsNotNext, ValueNotNext, PassedNotNext, AllNotNext}

-- ---- what an act gives

-- what holds of what it gives and of the state then, where it gives
abbrev pub Yields : {A : Type 0} → (A → Vat Name → Type 0) → Done Name A → Type 0
Yields P (Gives a t) = P a t
Yields P other = Unit {0}

pub yields_bind : {A B : Type 0} (P : A → Vat Name → Type 0) (Q : B → Vat Name → Type 0) (d : Done Name A) (f : A → Act Name B) → Yields P d → ((a : A) (t : Vat Name) → P a t → Yields Q (f a t)) → Yields Q (and_then d f)
unfolding and_then
yields_bind P Q (Gives a t) f h k = k a t h
yields_bind P Q other f h k = tt

pub differs : (a b : Name) → (a ≡ b → ⊥) → same_reference a b ≡ false
differs a b f = go (same_reference a b) refl
  where
    go : (c : Bool) → same_reference a b ≡ c → same_reference a b ≡ false
    go true e = absurd (f (reference_is a b e))
    go false e = e

gift_answer : (h i g : ℕ) (m : Msg) → Gift h i ≡ Answer g m → ⊥
gift_answer h i g m e = cc

gift_promise : (h i g j : ℕ) → Gift h i ≡ Promise g j → ⊥
gift_promise h i g j e = cc

gift_sent : (h i : ℕ) (m : Msg) → Gift h i ≡ Sent m → ⊥
gift_sent h i m e = cc

pub gift_is_new : (v : ℕ) (s : Vat Name) (g : ℕ) (m : Msg) (h i : ℕ) → IsNotNext v s (Answer g m) (Gift h i)
gift_is_new v s g x h i = (λ e. gift_answer h i g x e, λ m e. gift_sent h i m e, λ g j l e. gift_answer h i g (record { sender = v; number = j }) e, λ j l e. gift_promise h i v j e)

-- what is not known yet is no object
unknown_plain : (ns : List Name) (n : Name) → world.is_old ns n ≡ false → IsObject n → ⊥
unfolding world.is_old
unknown_plain ns (Object w i) e o = cc
unknown_plain ns other e o = o

module _ (script : Script) (v : ℕ) where
  abbrev N : Naming Name Name
  N = names script v

  -- what is not among the names known is not found
  not_among : (ks : List (Known Name)) (n : Name) → (IsAmong n (names_in ks) → ⊥) → refs.entry_of N ks n ≡ None
  unfolding refs.entry_of names naming
  not_among [] n f = refl
  not_among (k ∷ ks) n f = go (not_among ks n (λ h. f (inr h))) (same_reference k.name n) refl
    where
      go : refs.entry_of N ks n ≡ None → (c : Bool) → same_reference k.name n ≡ c → ◌≡◌ {A = Option (Known Name)} (elim c [ true ↦ Some k | false ↦ refs.entry_of N ks n ]) None
      go h true e = absurd (f (inl (sym (reference_is k.name n e))))
      go h false e = h

  alone_by : (n : Name) (h : ℕ) (c : Bool) → same_reference n n ≡ c → c ≡ true → refs.entry_of N (begun n h ∷ []) n ≡ Some (begun n h)
  unfolding refs.entry_of begun names naming
  alone_by n h c e f = ap (λ z. elim z [ true ↦ Some (begun n h) | false ↦ None ]) (e ∙ f)

  pub alone_self : (n : Name) (h : ℕ) → IsEventual n → refs.entry_of N (begun n h ∷ []) n ≡ Some (begun n h)
  alone_self n h plain = alone_by n h (same_reference n n) refl (reference_self n plain)

module _ (script : Script) (honest : ℕ → Bool) (w : World) (v : ℕ) where
  abbrev K : Naming Name Name
  K = names script v

  abbrev R : Vat Name → Vat Name → Type 0
  R s t = StaysReady script honest w v s t

  -- ---- a name comes to be known, for the first time or once more

  module _ (s : Vat Name) (n : Name) (plain : IsObject n → ⊥) where
    abbrev pub Came : Vat Name
    Came = record s { known = s.known ++ begun n (host_of n) ∷ [] }

    pub come_grown : Ready script honest w v s → Grown script honest w v s Came
    unfolding amid
    come_grown r = let ls = world.push_all v s.outbox w.links in record {
      grows = coming script honest v s n r.ends plain r.number w;
      more = λ l. came_more script honest w v s n plain r l;
      leading = λ u x. leads_same script honest w.vats ls ls (all_same ls) v s Came (comes_same script honest v s n r.ends plain r.number) u x;
    }

    pub come_stays : (bar : Name) → IsNotNext v s bar n → R s Came
    unfolding names naming
    come_stays bar new r = (
      record {
        number = r.number;
        ends = came_ends script honest w v s n plain r;
        draws = r.draws;
        answers = λ h i j. came_none K s n (host_of n) plain r.ends (Answer h (record { sender = v; number = i })) (r.answers h i j) (differs n (Answer h (record { sender = v; number = i })) (λ e. new.2 h i j e));
        promises = λ i j. came_none K s n (host_of n) plain r.ends (Promise v i) (r.promises i j) (differs n (Promise v i) (λ e. new.3 i j e));
      },
      come_grown r,
    )

  quiet : (s t : Vat Name) → t.known ≡ s.known → t.number ≡ s.number → t.gifts ≡ s.gifts → t.noticed ≡ s.noticed → t.queue ≡ s.queue → t.outbox ≡ s.outbox → t.messages ≡ s.messages → t.promises ≡ s.promises → t.drawn ≡ s.drawn → R s t
  quiet s t a b c d e f m p q = stays_quiet script honest w v s t (adds_nothing K s t a b c d e f, m, p, q)

  -- ---- learning

  module _ (r : Vat Name) (host : ℕ) (msg : Msg) where
    -- that name is not known
    abbrev Bar : Name
    Bar = Answer host msg

    -- the vat knows these names, and has made and noticed what r had
    abbrev pub IsAt : List Name → Vat Name → Type 0
    IsAt ns s = (names_in s.known ≡ ns) × (s.messages ≡ r.messages) × (s.promises ≡ r.promises) × (s.noticed ≡ r.noticed) × (refs.entry_of K s.known Bar ≡ None)

    abbrev pub Learns : Vat Name → List Name → Vat Name → Type 0
    Learns s ns t = R s t × IsAt ns t

    new_here : (s : Vat Name) (n : Name) → s.messages ≡ r.messages → s.promises ≡ r.promises → IsNotNext v r Bar n → IsNotNext v s Bar n
    new_here s n e f new = (new.0, new.1, λ h i l q. new.2 h i (subst (λ k. k ≤ i) e l) q, λ i l q. new.3 i (subst (λ k. k ≤ i) f l) q)

    alone_not : (n : Name) (h : ℕ) (b : Bool) → K.same n Bar ≡ b → b ≡ false → refs.entry_of K (begun n h ∷ []) Bar ≡ None
    unfolding refs.entry_of begun
    alone_not n h b e f = ap (λ c. elim c [ true ↦ Some (begun n h) | false ↦ None ]) (e ∙ f)

    still_none : (s : Vat Name) (n : Name) → refs.entry_of K s.known Bar ≡ None → (n ≡ Bar → ⊥) → refs.entry_of K (s.known ++ begun n (host_of n) ∷ []) Bar ≡ None
    unfolding names naming
    still_none s n e f = new_entry K s.known (begun n (host_of n)) Bar e ∙ alone_not n (host_of n) (K.same n Bar) refl (differs n Bar f)

    learns_then : (s t : Vat Name) (ns : List Name) (u : Vat Name) → R s t → Learns t ns u → Learns s ns u
    learns_then s t ns u g h = (stays_then script honest w v {s = s} {t = t} {u = u} g h.0, h.1)

    came_at : (s : Vat Name) (ns : List Name) (n : Name) → IsAt ns s → names_in (s.known ++ begun n (host_of n) ∷ []) ≡ ns ++ n ∷ []
    unfolding begun
    came_at s ns n at = names_end s.known (begun n (host_of n)) ∙ ap (λ z. z ++ n ∷ []) at.0

    pub learn_name : (s : Vat Name) (ns : List Name) (n : Name) → IsNotNext v r Bar n → IsAt ns s → Yields (λ x t. (x ≡ n) × Learns s (world.known_after ns n) t) (arrive.learn_name K (world.read_name ns n) s)
    unfolding world.read_name world.known_after arrive.learn_name give come names naming name_of
    learn_name s ns n new at = go (world.is_old ns n) refl
      where
        go : (b : Bool) → world.is_old ns n ≡ b → Yields (λ x t. (x ≡ n) × (R s t × IsAt (elim b [ true ↦ ns | false ↦ ns ++ n ∷ [] ]) t)) (arrive.learn_name K (elim b [ true ↦ Old n | false ↦ New n (host_of n) ]) s)
        go true e = (refl, (stays_self script honest w v s, at))
        go false e = (refl, (come_stays s n (unknown_plain ns n e) Bar (new_here s n at.1 at.2 new), (came_at s ns n at, at.1, at.2, at.3, still_none s n at.4 new.0)))

    learn_value : (s : Vat Name) (ns : List Name) (y : Value Name) → ValueNotNext v r Bar y → IsAt ns s → Yields (λ x t. Learns s (world.read_value ns y).known t) (arrive.learn_value K (world.read_value ns y).read s)
    unfolding world.read_value arrive.learn_value give ◌>>=◌
    learn_value s ns (Ref n) new at = yields_bind (λ x t. (x ≡ n) × Learns s (world.known_after ns n) t) (λ x t. Learns s (world.known_after ns n) t) (arrive.learn_name K (world.read_name ns n) s) (λ m. give (Ref m)) (learn_name s ns n new at) (λ x t h. h.1)
    learn_value s ns other new at = (stays_self script honest w v s, at)

    -- a gift of a host that was not noticed is asked for
    asks_gift : (s : Vat Name) (ns : List Name) (p h i : ℕ) → is_in h r.noticed ≡ false → IsAt ns s → Yields (λ x t. Learns s (ns ++ Gift h i ∷ []) t) (arrive.learn_gift K p h i s)
    unfolding arrive.learn_gift arrive.ask_for give look come send_out ◌>>=◌ ◌>>◌ and_then names naming name_of host_of
    asks_gift s ns p h i e at =
        let n : Name = Gift h i in
        let t : Vat Name = Came s n (λ o. o) in
        let a : Put Name = record { to = h; note = Ask p i n } in
        let u : Vat Name = record t { outbox = t.outbox ++ a ∷ [] } in
        subst (λ c. Yields (λ x z. Learns s (ns ++ n ∷ []) z) (and_then ((if c then refs.settle K n (Broken (codes "partition")) else send_out h (Ask p i n)) t) (λ z. give (Ref n)))) (sym (ap (λ z. is_in h z) at.3 ∙ e))
        (stays_then script honest w v {s = s} {t = t} {u = u} (come_stays s n (λ o. o) Bar (new_here s n at.1 at.2 (gift_is_new v r host msg h i))) (stays_quiet script honest w v t u (adds_note K t a tt, refl, refl, refl)), (came_at s ns n at, at.1, at.2, at.3, still_none s n at.4 (gift_is_new v r host msg h i).0))

    -- One of a host that was noticed breaks. It comes to be known just now, so nothing changes by that.
    module _ (s : Vat Name) (ns : List Name) (h i : ℕ) (gone : is_in h r.noticed ≡ true) (other : h ≡ v → ⊥) (new : IsAmong (Gift h i) ns → ⊥) (at : IsAt ns s) where
      abbrev Given : Name
      Given = Gift h i

      abbrev Knows : Vat Name
      Knows = record s { known = s.known ++ begun Given h ∷ [] }

      unknown : refs.entry_of K s.known Given ≡ None
      unknown = not_among script v s.known Given (λ a. new (subst (λ ms. IsAmong Given ms) at.0 a))

      fresh : IsFresh K h Knows Given (begun Given h)
      unfolding begun
      fresh = record {
        found = new_entry K s.known (begun Given h) Given unknown ∙ alone_self script v Given h tt;
        unsettled = refl;
        held = refl;
        waiting = refl;
        reactions = refl;
        hosted = refl;
      }

      came : R s Knows
      unfolding host_of
      came = come_stays s Given (λ o. o) Bar (new_here s Given at.1 at.2 (gift_is_new v r host msg h i))

      abbrev Line0 : Vat Name
      Line0 = Line Knows Given (codes "partition")

      abbrev Broke0 : Vat Name
      Broke0 = Broke K Knows Given (codes "partition")

      abbrev Now : Known Name
      Now = changed (Settle (Broken (codes "partition"))) (begun Given h)

      only : StandsOtherwise K Line0 Broke0 Given (begun Given h) Now
      unfolding begun
      only = settles_alone script v Line0 Given (Broken (codes "partition")) (begun Given h) fresh.found tt refl

      broken : Now.standing ≡ Settled (Broken (codes "partition"))
      unfolding begun
      broken = settled_now script v Line0 Given (Broken (codes "partition")) (begun Given h) fresh.found tt refl

      gift_host : (j : ℕ) → Gift h i ≡ Gift v j → h ≡ v
      unfolding host_of
      gift_host j e = ap (λ n. host_of n) e

      module _ (ready : Ready script honest w v s) where
        lined : Ready script honest w v Line0 × Grown script honest w v Knows Line0
        lined = quiet Knows Line0 refl refl refl refl refl refl refl refl refl (came ready).0

        alone : IsAlone K Knows.known Given
        unfolding host_of
        alone = came_alone script honest v s Given ready.ends (λ o. o) unknown

        severed : BreaksAsItsHost K Line0 Broke0 Given (codes "partition")
        unfolding begun names naming spot_of
        severed = record {
          before = begun Given h;
          after = Now;
          only = only;
          unsettled = refl;
          noticed = ap (λ z. is_in h z) at.3 ∙ gone;
          broken = broken;
          plain = refl;
          follows = ends_then script honest v Line0 Broke0 Given (codes "partition") only refl broken lined.0.ends (λ o. o) alone;
        }

        breaks_stays : Ready script honest w v Broke0 × Grown script honest w v s Broke0
        breaks_stays =
            let broke = severed_names_break_quietly script honest w v Line0 Broke0 Given (codes "partition") severed (λ j e. other (gift_host j e)) lined.0 in
            (broke.0, grown_then script honest w v s Knows Broke0 (came ready).1 (grown_then script honest w v Knows Line0 Broke0 lined.1 broke.1))

      broke_at : IsAt (ns ++ Given ∷ []) Broke0
      unfolding host_of
      broke_at = (
        names_change K (Settle (Broken (codes "partition"))) Given Knows.known ∙ came_at s ns Given at,
        at.1,
        at.2,
        at.3,
        only.others Bar (λ e. (gift_is_new v r host msg h i).0 (sym e)) ∙ still_none s Given at.4 (gift_is_new v r host msg h i).0,
      )

      settled_then : and_then (refs.settle K Given (Broken (codes "partition")) Knows) (λ z. give (Ref Given)) ≡ Gives (Ref Given) Broke0
      unfolding begun each give and_then
      settled_then = ap (λ d. and_then d (λ z. give (Ref Given))) (settles_so K h Knows Given (codes "partition") fresh)

      breaks_gift : (p : ℕ) → Yields (λ x t. Learns s (ns ++ Given ∷ []) t) (arrive.learn_gift K p h i s)
      unfolding arrive.learn_gift arrive.ask_for give look come ◌>>=◌ ◌>>◌ and_then names naming name_of
      breaks_gift p =
          subst (λ c. Yields (λ x z. Learns s (ns ++ Given ∷ []) z) (and_then ((if c then refs.settle K Given (Broken (codes "partition")) else send_out h (Ask p i Given)) Knows) (λ z. give (Ref Given)))) (sym (ap (λ z. is_in h z) at.3 ∙ gone))
          (subst (λ d. Yields (λ x z. Learns s (ns ++ Given ∷ []) z) d) (sym settled_then) (breaks_stays, broke_at))

    abbrev IsNewGift : List Name → ℕ → ℕ → Type 0
    IsNewGift ns h i = (is_in h r.noticed ≡ false) ⊎ ((h ≡ v → ⊥) × (IsAmong (Gift h i) ns → ⊥))

    learn_gift : (s : Vat Name) (ns : List Name) (p h i : ℕ) → IsNewGift ns h i → IsAt ns s → Yields (λ x t. Learns s (ns ++ Gift h i ∷ []) t) (arrive.learn_gift K p h i s)
    learn_gift s ns p h i (inl live) at = asks_gift s ns p h i live at
    learn_gift s ns p h i (inr new) at = go (is_in h r.noticed) refl
      where
        go : (c : Bool) → is_in h r.noticed ≡ c → Yields (λ x t. Learns s (ns ++ Gift h i ∷ []) t) (arrive.learn_gift K p h i s)
        go true e = breaks_gift s ns h i e new.0 new.1 at p
        go false e = asks_gift s ns p h i e at

    yields_more : {A : Type 0} (s t : Vat Name) (ms : List Name) (d : Done Name A) → R s t → Yields (λ x u. Learns t ms u) d → Yields (λ x u. Learns s ms u) d
    yields_more s t ms (Gives a u) g h = learns_then s t ms u g h
    yields_more s t ms other g h = tt

    learn_list : (s : Vat Name) (ns : List Name) (ys : List (Value Name)) → IsAt ns s → Yields (λ x t. Learns s ns t) (arrive.make_list K ys s)
    unfolding arrive.make_list new_list tell give ◌>>=◌ ◌>>◌ and_then
    learn_list s ns ys at = let t : Vat Name = record s { lists = s.lists ++ ys ∷ []; happened = s.happened ++ ListCame (length s.lists) ys ∷ [] } in (quiet s t refl refl refl refl refl refl refl refl refl, at)

    mutual
      unfolding world.read_passed world.read_all world.plain_read world.many_read world.more_read arrive.learn arrive.learn_all give ◌>>=◌

      learn_passed : (s : Vat Name) (ns : List Name) (p : ℕ) (y : Passed Name) → PassedNotNext v r Bar ns y → IsAt ns s → Yields (λ x t. Learns s (world.read_passed y ns).known t) (arrive.learn K p (world.read_passed y ns).read s)
      learn_passed s ns p (Plain y) new at = learn_value s ns y new at
      learn_passed s ns p (AGift h i) new at = learn_gift s ns p h i new at
      learn_passed s ns p (Many ys) new at =
          let ms = (world.read_all ys ns).known in
          yields_bind (λ x t. Learns s ms t) (λ x t. Learns s ms t) (arrive.learn_all K p (world.read_all ys ns).read s) (arrive.make_list K) (learn_all s ns p ys new at)
          (λ xs t h. yields_more s t ms (arrive.make_list K xs t) h.0 (learn_list t ms xs h.1))

      pub learn_all : (s : Vat Name) (ns : List Name) (p : ℕ) (ys : Passeds Name) → AllNotNext v r Bar ns ys → IsAt ns s → Yields (λ x t. Learns s (world.read_all ys ns).known t) (arrive.learn_all K p (world.read_all ys ns).read s)
      learn_all s ns p NoMore new at = (stays_self script honest w v s, at)
      learn_all s ns p (More y ys) new at =
          let ms = (world.read_passed y ns).known in
          let ks = (world.read_all ys ms).known in
          yields_bind (λ x t. Learns s ms t) (λ x t. Learns s ks t) (arrive.learn K p (world.read_passed y ns).read s) (λ x. arrive.learn_all K p (world.read_all ys ms).read >>= (λ xs. give (x ∷ xs))) (learn_passed s ns p y new.0 at)
          (λ x t h. yields_bind (λ xs u. Learns t ks u) (λ xs u. Learns s ks u) (arrive.learn_all K p (world.read_all ys ms).read t) (λ xs. give (x ∷ xs)) (learn_all t ms p ys new.1 h.1) (λ xs u g. learns_then s t ks u h.0 g))

    -- the message itself
    pub learn_message : (s : Vat Name) (ns : List Name) (m : Name) (h : ℕ) → IsAt ns s → Yields (λ y t. (y ≡ m) × Learns s ns t) (arrive.learn_message K (New m h) s)
    unfolding arrive.learn_message mail names naming mail_of
    learn_message s ns m h at = let t : Vat Name = record s { mails = s.mails ++ m ∷ [] } in (refl, (quiet s t refl refl refl refl refl refl refl refl refl, at))
