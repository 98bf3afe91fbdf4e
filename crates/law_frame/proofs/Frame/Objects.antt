-- Each object of another vat that a vat has in hand was told to it.
use Rattle.std.proofs.Common.{◌≡◌, ℕ, Bool, true, false, List, [], ◌∷◌, refl, ◌⊎◌, inl, inr, ◌==◌}
use Rattle.def_machine.specs.Values as values
use Rattle.def_machine.specs.Values.{Value, Null, Flag, Number, Letter, Text, Prim, Broken, Items, Ref, Name, Object, Sent, Spot, Own, Foreign, NoObject, Naming, naming, name_of, mail_of, answer_of, spot_of, host_of}
use Rattle.def_machine.specs.State.{Binding, Message, See, Passed, Passeds, Plain, AGift, Many, NoMore, More, Note, Deliver, Open, Ask, SettledTo, Elsewhere, Shorten, Views, Vat, Done, Gives, give, come, mail, alter, begun}
use Rattle.def_machine.specs.Scopes.{any_guard}
use Rattle.def_machine.specs.Refs as refs
use Rattle.def_machine.specs.Refs.{Mine, Away, host_at}
use Rattle.def_machine.specs.Arrive as arrive
use Rattle.def_machine.specs.Arrive.{Old, New}
use Rattle.def_machine.specs.Eval as eval
use Rattle.def_kernel.specs.declared.node.Node.{Node}
use Rattle.def_run.specs.World as world
use Rattle.def_run.specs.World.{Program}
use Rattle.law_fate.specs.Name.Names.{Bit, Named, Mail, Entered, Owns, AllOf, IsAmong, IsMessageName, NounOk, KnownOk, Parts}
use Rattle.law_fate.proofs.Name.Facts.{all_end, PlaceOk, Fact, Nothing, Also, IsName, IsMail, IsDraw, IsVat, IsValue, AreValues, AreNouns, IsMessage, nothing}
use Rattle.law_fate.proofs.Name.Care.{Care, Under, Giving, Makes, Gets, Fine, Ends, fine_bind, fine_less, fine_then, fine_give, fine_look, fine_tell, fine_out, fine_draw, fine_wait, come_gift, changes_ok, begun_ok}
use Rattle.law_fate.proofs.Name.SameNames.{reference_is}
use Rattle.law_fate.proofs.Name.CareRefs.{fine_settle}
use Rattle.law_fate.proofs.Name.Serves.{served_by, closing_by}
use Rattle.law_fate.proofs.Name.CareEval.{fine_opening, fine_taking}
use Rattle.law_fate.proofs.Name.CareArrive.{Gifts, gifts_by, fine_gift_there, fine_ask_for, fine_make_list, fine_arrive_ask, fine_delivered, fine_opened, fine_went, fine_shortened, fine_notice}
use Rattle.law_frame.specs.Frame.Asked.{told_value, told_passed, told_all, told_in}
use Rattle.law_frame.proofs.Frame.ArriveAsking.{MailFits, among_front, among_back}

-- an object is the vat's own, or was told to it
abbrev pub OwnOrTold : ℕ → (Name → Type 0) → Name → Type 0
OwnOrTold v T (Object w i) = (w ≡ v) ⊎ T (Object w i)
OwnOrTold v T other = Unit {0}

abbrev pub Handed : ℕ → (Name → Type 0) → Bit Name → Type 0
Handed v T (Named n) = OwnOrTold v T n
Handed v T (Mail n) = IsMessageName n
Handed v T (Entered n) = OwnOrTold v T n
Handed v T (Owns n i) = OwnOrTold v T n
Handed v T other = Unit {0}

-- so is each object in all that a vat has
abbrev pub AllHanded : ℕ → (Name → Type 0) → Vat Name → Type 0
AllHanded v T s = Parts (Handed v T) s.things s.slots s.lists s.queue s.known s.gifts s.outbox

own_up : (v : ℕ) (T U : Name → Type 0) → ((n : Name) → T n → U n) → (n : Name) → OwnOrTold v T n → OwnOrTold v U n
own_up v T U f (Object w i) (inl e) = inl e
own_up v T U f (Object w i) (inr h) = inr (f (Object w i) h)
own_up v T U f other h = tt

pub handed_up : (v : ℕ) (T U : Name → Type 0) → ((n : Name) → T n → U n) → (b : Bit Name) → Handed v T b → Handed v U b
handed_up v T U f (Named n) h = own_up v T U f n h
handed_up v T U f (Mail n) h = h
handed_up v T U f (Entered n) h = own_up v T U f n h
handed_up v T U f (Owns n i) h = own_up v T U f n h
handed_up v T U f other h = tt

module _ (v : ℕ) (T : Name → Type 0) where
  abbrev pub Hands : Care Name
  Hands = record {
    ok = λ s b. Handed v T b;
    more = λ s. Unit {0};
    rel = λ s t. Unit {0};
    same = λ s. tt;
    trans = λ s t u h k. tt;
    up = λ s t r b h. h;
    here = λ s h. tt;
    near = λ s h k. tt;
    entered = λ s n h. h;
    owned = λ s n i h. h;
    owner = λ s n i h k. h;
    drew = λ s i h. tt;
    fuel = λ s n. (tt, λ h. tt);
    told = λ s e n. (tt, λ h. tt);
    activations = λ s. (tt, λ h. tt);
    thing = λ s t. (tt, λ h. tt);
    killed = λ s n. (tt, λ h. tt);
    slot = λ s c. (tt, λ h. tt);
    written = λ s n x. (tt, λ h. tt);
    list = λ s vs. (tt, λ h. tt);
  }

  module _ (word : ℕ → ℕ) where
    abbrev pub K : Naming Name Name
    K = naming word v

    hosted_ok : (s : Vat Name) (n : Name) (h : ℕ) (b : Bool) → OwnOrTold v T n → PlaceOk (Handed v T) (elim b [ true ↦ Mine n | false ↦ Away h n false ])
    hosted_ok s n h true g = g
    hosted_ok s n h false g = (g, tt)

    spot_ok : (s : Vat Name) (n : Name) (p : Spot) → OwnOrTold v T n → PlaceOk (Handed v T) (refs.spotted K s n p)
    unfolding refs.spotted refs.hosted
    spot_ok s n (Own i) g = tt
    spot_ok s n (Foreign w) g = (g, tt)
    spot_ok s n NoObject g = hosted_ok s n (host_at K s.number s.known n) (s.number == host_at K s.number s.known n) g

    answer_ok : (h : ℕ) (m : Name) → IsMessageName m → OwnOrTold v T (answer_of h m)
    unfolding answer_of
    answer_ok h (Sent m) o = tt
    answer_ok h other o = absurd o

    pub under : Under K Hands
    unfolding naming name_of
    under = record {
      spots = record { alike = λ a b e. reference_is a b e; placed = λ s m n g. spot_ok s n (spot_of v n) g };
      object = λ s i l. inl refl;
      happened = λ s e. (tt, λ h. tt);
      queue = λ s m. (tt, λ h. tt);
      outbox = λ s p h. (tt, λ k. tt);
      opened = λ s p i. (tt, λ h. tt);
      noticed = λ s w. (tt, λ h. tt);
      drawn = λ s w. (tt, λ h. tt, tt);
      altered = λ s c n none h. (tt, λ k. tt);
      answered = λ s h m o at. (tt, λ k. tt, answer_ok h m o);
    }

    gives : Giving K Hands
    unfolding naming name_of
    gives = record { gift = λ s g h. (tt, λ k. tt); given = λ s h i o at. (tt, λ k. tt, tt); hosted = λ s i k o. (tt, λ k. tt, tt) }

    gifts : Gifts K Hands
    gifts = gifts_by K Hands under gives

    pub makes : Makes K Hands
    unfolding naming name_of mail_of answer_of
    makes = record { promised = λ s. (tt, λ h. tt, tt); messaged = λ s h at. (tt, λ k. tt, tt, tt); lone = λ s. (tt, λ k. tt, tt) }

    -- ---- learning

    name_handed : {C : Fact Name} (n : Name) (b : Bool) → OwnOrTold v T n → Fine Hands C (arrive.learn_name K (elim b [ true ↦ Old n | false ↦ New n (host_of n) ])) IsName
    unfolding arrive.learn_name come give naming name_of
    name_handed n true g = record { after = λ s h c. (tt, h, g) }
    name_handed n false g = record { after = λ s h c. let p = h.parts in (tt, record { parts = record { things = p.things; slots = p.slots; lists = p.lists; queue = p.queue; known = all_end (KnownOk (Handed v T)) s.known (begun n (host_of n)) p.known (begun_ok K Hands under (Handed v T) n (host_of n) g); gifts = p.gifts; outbox = p.outbox }; more = tt }, g) }

    read_handed : {C : Fact Name} (ks : List Name) (n : Name) → OwnOrTold v T n → Fine Hands C (arrive.learn_name K (world.read_name ks n)) IsName
    unfolding world.read_name
    read_handed ks n g = name_handed n (world.is_old ks n) g

    value_handed : {C : Fact Name} (ks : List Name) (y : Value Name) → ((n : Name) → IsAmong n (told_value y) → OwnOrTold v T n) → Fine Hands C (arrive.learn_value K (world.read_value ks y).read) IsValue
    unfolding world.read_value told_value arrive.learn_value
    value_handed ks Null f = fine_give Hands Null (record { at = λ s c. tt })
    value_handed ks (Flag b) f = fine_give Hands (Flag b) (record { at = λ s c. tt })
    value_handed ks (Number z) f = fine_give Hands (Number z) (record { at = λ s c. tt })
    value_handed ks (Letter c) f = fine_give Hands (Letter c) (record { at = λ s d. tt })
    value_handed ks (Text t) f = fine_give Hands (Text t) (record { at = λ s c. tt })
    value_handed ks (Prim i) f = fine_give Hands (Prim i) (record { at = λ s c. tt })
    value_handed ks (Broken t) f = fine_give Hands (Broken t) (record { at = λ s c. tt })
    value_handed ks (Items k) f = fine_give Hands (Items k) (record { at = λ s c. tt })
    value_handed ks (Ref n) f = fine_bind Hands IsName (read_handed ks n (f n (inl refl))) (λ m. fine_give Hands (Ref m) (record { at = λ s c. c.1 }))

    gift_handed : {C : Fact Name} (from h i : ℕ) → Fine Hands C (arrive.learn_gift K from h i) IsValue
    unfolding arrive.learn_gift
    gift_handed from h i = fine_bind Hands IsName (come_gift K Hands under gives h i (record { at = λ s c. tt }) (record { at = λ s c. tt })) (λ n. fine_then Hands nothing (fine_ask_for K Hands under from h i (record { at = λ s c. tt }) n (record { at = λ s c. c.1 })) (fine_give Hands (Ref n) (record { at = λ s c. c.1 })))

    mutual
      unfolding world.read_passed world.read_all world.plain_read world.many_read world.more_read told_passed told_all arrive.learn arrive.learn_all

      passed_handed : {C : Fact Name} (from : ℕ) (ks : List Name) (y : Passed Name) → ((n : Name) → IsAmong n (told_passed y) → OwnOrTold v T n) → Fine Hands C (arrive.learn K from (world.read_passed y ks).read) IsValue
      passed_handed from ks (Plain y) f = value_handed ks y f
      passed_handed from ks (AGift h i) f = gift_handed from h i
      passed_handed from ks (Many ys) f = fine_bind Hands AreValues (all_handed from ks ys f) (λ vs. fine_make_list K Hands under vs (record { at = λ s c. c.1 }))

      all_handed : {C : Fact Name} (from : ℕ) (ks : List Name) (ys : Passeds Name) → ((n : Name) → IsAmong n (told_all ys) → OwnOrTold v T n) → Fine Hands C (arrive.learn_all K from (world.read_all ys ks).read) AreValues
      all_handed from ks NoMore f = fine_give Hands [] (record { at = λ s c. tt })
      all_handed from ks (More y ys) f = fine_bind Hands IsValue (passed_handed from ks y (λ n a. f n (among_front n (told_passed y) (told_all ys) a)))
          (λ z. fine_bind Hands AreValues (all_handed from (world.read_passed y ks).known ys (λ n a. f n (among_back n (told_passed y) (told_all ys) a))) (λ zs. fine_give Hands (z ∷ zs) (record { at = λ s c. (c.0.1, c.1) })))

    -- ---- views

    see_handed : {C : Fact Name} (n g : Name) → Gets Hands C (IsName g) → Fine Hands C (alter K (See g) n) nothing
    unfolding alter
    see_handed n g k = record { after = λ s h c. let p = h.parts in (tt, record { parts = record { things = p.things; slots = p.slots; lists = p.lists; queue = p.queue; known = changes_ok K Hands under (Handed v T) (See g) n s.known (k.at s c) (λ a e. tt) p.known; gifts = p.gifts; outbox = p.outbox }; more = tt }, tt) }

    seen_handed : {C : Fact Name} (n g : Name) → Gets Hands C (IsName n) → Gets Hands C (IsName g) → Fine Hands C (arrive.see K n g) nothing
    unfolding arrive.see
    seen_handed n g j k = fine_then Hands nothing (fine_tell K Hands under (Views n g)) (fine_then Hands nothing (see_handed n g k) (fine_wait K Hands under n g (record { at = λ s c. j.at s c })))

    view_handed : {C : Fact Name} (n : Name) → Gets Hands C (IsName n) → (c : ℕ) → Gets Hands C (IsVat c) → Fine Hands C (arrive.view_there K n c) nothing
    unfolding arrive.view_there
    view_handed n g c k = fine_less Hands nothing (fine_look Hands _) (λ u. fine_less Hands nothing (fine_look Hands _) (λ h. fine_less Hands IsDraw (fine_draw K Hands under) (λ i. fine_then Hands nothing (fine_out K Hands under h (Shorten n c (values.under h i)) (record { at = λ s d. (g.at s d, tt) }) (record { at = λ s d. tt }))
        (fine_bind Hands IsName (fine_gift_there K Hands under gives u h c (values.under h i) (record { at = λ s d. tt }) (record { at = λ s d. tt })) (λ x. seen_handed n x (record { at = λ s d. g.at s d.0 }) (record { at = λ s d. d.1 }))))))

    -- ---- arrival

    mail_handed : {C : Fact Name} (m : Name) (h : ℕ) → IsMessageName m → Fine Hands C (arrive.learn_message K (New m h)) IsMail
    unfolding arrive.learn_message mail naming mail_of
    mail_handed m h o = record { after = λ s k c. let p = k.parts in (tt, record { parts = record { things = p.things; slots = p.slots; lists = p.lists; queue = p.queue; known = p.known; gifts = p.gifts; outbox = p.outbox }; more = tt }, o) }

    pub arrive_handed : (from : ℕ) (ks : List Name) (n : Note Name) → MailFits n → ((x : Name) → IsAmong x (told_in n) → OwnOrTold v T x) → Fine Hands Nothing (arrive.arrive K from (world.read_note ks n)) nothing
    unfolding arrive.arrive world.read_note arrive.arrive_deliver arrive.arrive_open arrive.arrive_settled arrive.arrive_elsewhere arrive.arrive_shorten told_in
    arrive_handed from ks (Deliver d n verb ys) o f = fine_bind Hands IsMail (mail_handed d.message (host_of d.message) o) (λ id. fine_bind Hands AreValues (all_handed from ks ys (λ x a. f x (inr a))) (λ args. fine_bind Hands IsName (read_handed (world.read_all ys ks).known n (f n (inl refl)))
        (λ x. fine_delivered K Hands under from id (record { at = λ s c. c.0.0.1 }) x (record { at = λ s c. c.1 }) verb args (record { at = λ s c. c.0.1 }) d.asks)))
    arrive_handed from ks (Open i n) o f = fine_bind Hands IsName (read_handed ks n (f n (inl refl))) (λ y. fine_opened K Hands under gifts from i (record { at = λ s c. tt }) y (record { at = λ s c. c.1 }))
    arrive_handed from ks (Ask p i n) o f = fine_arrive_ask K Hands under gifts from p i (record { at = λ s c. tt })
    arrive_handed from ks (SettledTo n y) o f = fine_bind Hands IsName (read_handed ks n (f n (inl refl))) (λ x. fine_bind Hands IsValue (passed_handed from (world.known_after ks n) y (λ z a. f z (inr a))) (λ z. fine_settle K Hands under x (record { at = λ s c. c.0.1 }) z (record { at = λ s c. c.1 })))
    arrive_handed from ks (Elsewhere n c) o f = fine_bind Hands IsName (read_handed ks n (f n (inl refl))) (λ x. fine_went K Hands under (λ D m g w k. view_handed m g w k) x (record { at = λ s d. d.1 }) c (record { at = λ s d. tt }))
    arrive_handed from ks (Shorten n c i) o f = fine_bind Hands IsName (read_handed ks n (f n (inl refl))) (λ x. fine_shortened K Hands under x (record { at = λ s d. d.1 }) i (record { at = λ s d. tt }))

    -- ---- turns and notices

    pub notice_handed : (w : ℕ) → Fine Hands Nothing (arrive.notice K w) nothing
    notice_handed w = fine_notice K Hands under w

    pub taking_handed : (tree : List Node) (depth : ℕ) (m : Message Name) → Fine Hands (IsMessage m) (eval.taking K tree depth m) nothing
    taking_handed tree depth m = fine_taking K Hands under makes tree depth m (record { at = λ r c. c })

    pub opening_handed : (tree : List Node) (depth : ℕ) (root : Name) (given : List (Binding Name)) → Fine Hands (Also (IsName root) (AreNouns given)) (eval.opening K tree depth root given) nothing
    opening_handed tree depth root given = fine_opening K Hands (served_by K Hands under makes) tree depth root (record { at = λ r c. c.0 }) (closing_by K Hands under root) given (record { at = λ r c. c.1 })

  given_handed : (ps : List Program) (us : List ℕ) → AllOf (NounOk (Handed v T)) (world.given ps us)
  unfolding world.given any_guard
  given_handed ps [] = tt
  given_handed ps (u ∷ us) = ((tt, tt), given_handed ps us)

  -- of the state that is given
  abbrev pub GivesHanded : {A : Type 0} → Done Name A → Type 0
  GivesHanded (Gives a t) = AllHanded v T t
  GivesHanded other = Unit {0}

  pub ends_handed : {A : Type 0} (G : A → Fact Name) (s : Vat Name) (d : Done Name A) → Ends Hands G s d → GivesHanded d
  ends_handed G s (Gives a t) h = let sound = h.1 in sound.parts
  ends_handed G s other h = tt

  pub nouns_handed : (ps : List Program) (us : List ℕ) → AllOf (NounOk (Handed v T)) (world.given ps us)
  nouns_handed ps us = given_handed ps us
