-- A vat asks for no gift of a draw that was made and that does not pass in the note that arrives: a care for names.
use Rattle.std.proofs.Common.{◌≡◌, ℕ, zero, Bool, true, false, List, [], ◌∷◌, ◌++◌, Option, Some, None, ◌==◌, refl, sym, ap, subst, ◌∙◌, arith}
use Rattle.std.proofs.lemmas.Bool.{eq-eqb}
use Rattle.def_machine.specs.Values.{Value, Null, Ref, Name, Spot, Own, Foreign, NoObject, Naming, naming, name_of, mail_of, answer_of, spot_of, host_of, IsLearnt, key, word_of, under}
use Rattle.def_machine.specs.State.{Bound, Fixed, Slot, Binding, Cell, Freedom, IsFinal, FreeName, View, Thing, Made, Audition, Message, Standing, Settled, Known, See, Views, Passed, Passeds, Plain, AGift, Many, NoMore, More, Note, Deliver, Open, Ask, SettledTo, Elsewhere, Shorten, Put, GiftEntry, Vat, Done, Gives, Act, come, mail, draw, draws, drawn_at, alter, begun, WhereSome}
use Rattle.def_machine.specs.Refs as refs
use Rattle.def_machine.specs.Refs.{Mine, Away, host_at}
use Rattle.def_machine.specs.Arrive as arrive
use Rattle.def_machine.specs.Arrive.{New}
use Rattle.def_machine.proofs.Keys.{word_under_key}
use Rattle.law_machine.specs.Machine.Steps.{Step, Opens as Starts, Takes, Receives, Notices, does}
use Rattle.def_run.specs.Draws.{draw_word}
use Rattle.def_run.specs.World as world
use Rattle.def_run.specs.World.{Script, World, names, read_note, names_of, readied}
use Rattle.law_fate.specs.Name.Names.{Bit, Gave, WasDrawn, AllOf, NameOk, ValueOk, ValuesOk, MessageOk, StandingOk, EntryOk, KnownOk, CellOk, FreedomOk, ViewOk, BoundOk, NounOk, ThingOk, GiftOk, NoteOk, PutOk, Parts}
use Rattle.law_fate.proofs.Name.Facts.{PlaceOk, Fact, Nothing, Also, IsName, IsMail, IsGiven, IsVat, IsValue, nothing}
use Rattle.law_fate.proofs.Name.Care.{Care, Under, Giving, Makes, Sound, Ends, Gets, Fine, fine_bind, fine_less, fine_then, fine_more, fine_give, fine_look, fine_tell, fine_out, fine_wait, come_gift, changes_ok, with_known}
use Rattle.law_fate.proofs.Name.CareArrive.{Gifts, gifts_by, fine_ask_for, fine_gift_there}
use Rattle.law_fate.proofs.Name.Among.{among_more, key_not_drawn}
use Rattle.law_fate.proofs.Name.SameNames.{reference_is}
use Rattle.law_reference.proofs.Reference.LegRuns.{MailBits}
use Rattle.law_reference.proofs.Reference.Moves.{IsAlone, Does}
use Rattle.law_reference.proofs.Reference.Arrivals.{PassedTells, PassedsTell, NoteTells, Brings, note_read}
use Rattle.law_frame.proofs.Frame.AlikeAsking.{Any, IsNoAsk, Quiet, quiet_taking, quiet_opening, quiet_notice, quiet_arrive_ask}
use Rattle.law_fate.specs.Fates.Fate.{once}
use Rattle.law_fate.proofs.Fates.Leads.{Leads, Ends as Led}
use Rattle.law_reference.specs.Reference.GiftPassing.{gifts_in, gifts_in_all, gifts_in_note}

module _ (i : ℕ) where
  -- it is no gift of draw i that is asked for
  abbrev pub Missed : Bit Name → Type 0
  Missed (Gave j) = j ≡ i → ⊥
  Missed other = Unit {0}

  -- ---- nothing that a vat has asks for one, but in notes

  value_all : (y : Value Name) → ValueOk Missed y
  value_all Null = tt
  value_all other = tt

  every : {A : Type 0} (P : A → Type 0) → ((a : A) → P a) → (xs : List A) → AllOf P xs
  every P f [] = tt
  every P f (x ∷ xs) = (f x, every P f xs)

  values_all : (ys : List (Value Name)) → ValuesOk Missed ys
  values_all ys = every (ValueOk Missed) value_all ys

  answer_all : (o : Option Name) → WhereSome (NameOk Missed) o
  answer_all None = tt
  answer_all (Some a) = tt

  message_all : (m : Message Name) → MessageOk Missed m
  message_all m = (tt, value_all m.target, values_all m.args, answer_all m.answer)

  standing_all : (z : Standing Name) → StandingOk Missed z
  standing_all (Settled y) = value_all y
  standing_all other = tt

  known_all : (k : Known Name) → KnownOk Missed k
  known_all k = (tt, standing_all k.standing, every (MessageOk Missed) message_all k.held, every (EntryOk Missed) (λ n. tt) k.waiting, every (MessageOk Missed) message_all k.reactions, every (λ (w : ℕ). Unit {0}) (λ w. tt) k.told)

  cell_all : (c : Cell Name) → CellOk Missed c
  cell_all c = (value_all c.guard, value_all c.value)

  freedom_all : (f : Freedom Name) → FreedomOk Missed f
  freedom_all (IsFinal g) = value_all g
  freedom_all other = tt

  view_all : (view : View Name) → ViewOk Missed view
  view_all view = every (λ (f : FreeName Name). FreedomOk Missed f.freedom) (λ f. freedom_all f.freedom) view.free

  bound_all : (b : Bound Name) → BoundOk Missed b
  bound_all (Fixed y g) = (value_all y, value_all g)
  bound_all (Slot k) = tt

  noun_all : (b : Binding Name) → NounOk Missed b
  noun_all b = bound_all b.bound

  thing_all : (t : Thing Name) → ThingOk Missed t
  thing_all (Made node caught stamps) = (every (NounOk Missed) noun_all caught, values_all stamps)
  thing_all (Audition live view) = view_all view
  thing_all other = tt

  gift_all : (g : GiftEntry Name) → GiftOk Missed g
  gift_all g = (tt, tt)

  module _ (v : ℕ) where
    abbrev Misses : Care Name
    Misses = record {
      ok = λ s b. Missed b;
      more = λ s. WasDrawn s.drawn i;
      rel = λ s t. Unit {0};
      same = λ s. tt;
      trans = λ s t u h k. tt;
      up = λ s t r b h. h;
      here = λ s m. tt;
      near = λ s h k. tt;
      entered = λ s n h. tt;
      owned = λ s n j h. tt;
      owner = λ s n j h k. tt;
      drew = λ s j h. tt;
      fuel = λ s n. (tt, λ h. h);
      told = λ s e n. (tt, λ h. h);
      activations = λ s. (tt, λ h. h);
      thing = λ s t. (tt, λ h. h);
      killed = λ s n. (tt, λ h. h);
      slot = λ s c. (tt, λ h. h);
      written = λ s n x. (tt, λ h. h);
      list = λ s vs. (tt, λ h. h);
    }

    module _ (word : ℕ → ℕ) where
      abbrev K : Naming Name Name
      K = naming word v

      hosted_ok : (n : Name) (h : ℕ) (b : Bool) → PlaceOk Missed (elim b [ true ↦ Mine n | false ↦ Away h n false ])
      hosted_ok n h true = tt
      hosted_ok n h false = (tt, tt)

      spot_ok : (s : Vat Name) (n : Name) (p : Spot) → PlaceOk Missed (refs.spotted K s n p)
      unfolding refs.spotted refs.hosted
      spot_ok s n (Own j) = tt
      spot_ok s n (Foreign w) = (tt, tt)
      spot_ok s n NoObject = hosted_ok n (host_at K s.number s.known n) (s.number == host_at K s.number s.known n)

      misses_under : Under K Misses
      unfolding naming name_of
      misses_under = record {
        spots = record { alike = λ a b e. reference_is a b e; placed = λ s m n g. spot_ok s n (spot_of v n) };
        object = λ s j l. tt;
        happened = λ s e. (tt, λ h. h);
        queue = λ s m. (tt, λ h. h);
        outbox = λ s p h. (tt, λ k. k);
        opened = λ s p j. (tt, λ h. h);
        noticed = λ s w. (tt, λ h. h);
        drawn = λ s w. (tt, λ h. among_more (word_of i) s.drawn w h, tt);
        altered = λ s c n none h. (tt, λ k. k);
        answered = λ s h m o at. (tt, λ k. k, tt);
      }

      gives : Giving K Misses
      unfolding naming name_of
      gives = record {
        gift = λ s g h. (tt, λ k. k);
        given = λ s h j g at. (tt, λ k. k, tt);
        hosted = λ s j m d. (tt, λ k. k, tt);
      }

      makes : Makes K Misses
      unfolding naming name_of mail_of answer_of
      makes = record { promised = λ s. (tt, λ h. h, tt); messaged = λ s h at. (tt, λ k. k, tt, tt); lone = λ s. (tt, λ k. k, tt) }

      gifts : Gifts K Misses
      gifts = gifts_by K Misses misses_under gives

      -- ---- views, under a word that is drawn later

      -- a key of a word that was not drawn is another
      other_key : (s : Vat Name) (w : ℕ) → drawn_at zero w s.drawn ≡ None → WasDrawn s.drawn i → (j : ℕ) → word_of j ≡ w → j ≡ i → ⊥
      other_key s w new d j e f = key_not_drawn s.drawn w i new (ap word_of (sym f) ∙ e) d

      draws_other : (s : Vat Name) (w : ℕ) (o : Option ℕ) → drawn_at zero w s.drawn ≡ o → (h : ℕ) → Sound Misses s → Ends Misses (λ j. IsGiven (under h j)) s (draws w o s)
      unfolding draws
      draws_other s w (Some k) e a h = tt
      draws_other s w None e a h = let p = h.parts in let m = h.more in (tt, record { parts = record { things = p.things; slots = p.slots; lists = p.lists; queue = p.queue; known = p.known; gifts = p.gifts; outbox = p.outbox }; more = among_more (word_of i) s.drawn w m }, other_key s w e m (under a (key s.number w)) (word_under_key a s.number w))

      draw_other : {C : Fact Name} → (h : ℕ) → Fine Misses C (draw K) (λ j. IsGiven (under h j))
      unfolding draw
      draw_other a = record { after = λ s h c. draws_other s _ _ refl a h }

      see_alone : {C : Fact Name} (n g : Name) → Gets Misses C (IsName g) → Fine Misses C (alter K (See g) n) nothing
      unfolding alter
      see_alone n g k = record { after = λ s h c. let p = h.parts in (tt, record { parts = record { things = p.things; slots = p.slots; lists = p.lists; queue = p.queue; known = changes_ok K Misses misses_under Missed (See g) n s.known (k.at s c) (λ a e. tt) p.known; gifts = p.gifts; outbox = p.outbox }; more = h.more }, tt) }

      seen : {C : Fact Name} (n g : Name) → Gets Misses C (IsName n) → Gets Misses C (IsName g) → Fine Misses C (arrive.see K n g) nothing
      unfolding arrive.see
      seen n g j k = fine_then Misses nothing (fine_tell K Misses misses_under (Views n g)) (fine_then Misses nothing (see_alone n g k) (fine_wait K Misses misses_under n g (record { at = λ s c. tt })))

      viewed : {C : Fact Name} (n : Name) → Gets Misses C (IsName n) → (c : ℕ) → Gets Misses C (IsVat c) → Fine Misses C (arrive.view_there K n c) nothing
      unfolding arrive.view_there
      viewed n g c k = fine_less Misses nothing (fine_look Misses _) (λ u. fine_less Misses nothing (fine_look Misses _) (λ h. fine_bind Misses (λ j. IsGiven (under h j)) (draw_other h) (λ j. fine_then Misses nothing (fine_out K Misses misses_under h (Shorten n c (under h j)) (record { at = λ s d. (tt, tt) }) (record { at = λ s d. tt }))
          (fine_bind Misses IsName (fine_gift_there K Misses misses_under gives u h c (under h j) (record { at = λ s d. tt }) (record { at = λ s d. d.1 })) (λ x. seen n x (record { at = λ s d. tt }) (record { at = λ s d. tt }))))))

      -- ---- what arrives

      new_alone : {C : Fact Name} (n : Name) (h : ℕ) → Fine Misses C (come K (IsLearnt n) h) IsName
      unfolding come naming name_of
      new_alone n h = record { after = λ s k c. (tt, record { parts = with_known K Misses misses_under s (record s { known = s.known ++ begun n h ∷ [] }) n h tt tt k; more = k.more }, tt) }

      gift_alone : {C : Fact Name} (from h j : ℕ) → (j ≡ i → ⊥) → Fine Misses C (arrive.learn_gift K from h j) IsValue
      unfolding arrive.learn_gift
      gift_alone from h j f = fine_bind Misses IsName (come_gift K Misses misses_under gives h j (record { at = λ s c. f }) (record { at = λ s c. tt })) (λ n. fine_then Misses nothing (fine_ask_for K Misses misses_under from h j (record { at = λ s c. f }) n (record { at = λ s c. tt })) (fine_give Misses (Ref n) (record { at = λ s c. tt })))

      mail_alone : {C : Fact Name} (m : Name) (h : ℕ) → Fine Misses C (arrive.learn_message K (New m h)) IsMail
      unfolding arrive.learn_message mail naming mail_of
      mail_alone m h = record { after = λ s k c. let p = k.parts in (tt, record { parts = record { things = p.things; slots = p.slots; lists = p.lists; queue = p.queue; known = p.known; gifts = p.gifts; outbox = p.outbox }; more = k.more }, tt) }

      with_none : {A : Type 0} {C : Fact Name} {m : Act Name A} {P : A → Fact Name} → Fine Misses C m P → Fine Misses C m (λ a. Also (P a) Nothing)
      with_none {P = P} f = fine_more Misses P (λ a. Also (P a) Nothing) f (λ a. record { at = λ s h. (h, tt) })

      abbrev pub Tells : Note Name → Type 0
      Tells n = NoteTells (λ z. Unit {0}) (λ h j. j ≡ i → ⊥) (λ j. j ≡ i → ⊥) n

      brings : Brings (λ z. Unit {0}) (λ h j. j ≡ i → ⊥) (λ j. j ≡ i → ⊥) word v Misses (λ ks. Nothing)
      brings = record {
        old = λ ks n f e s c. tt;
        new = λ ks n f e. with_none (new_alone n (host_of n));
        gift = λ ks p h j f. with_none (gift_alone p h j f);
        mail = λ m h o. mail_alone m h;
        drew = λ s j. tt;
        gave = λ s j f. f;
        vat = λ s h. tt;
      }

      note_misses : (from : ℕ) (ks : List Name) (n : Note Name) → Tells n → Fine Misses Nothing (arrive.arrive K from (world.read_note ks n)) nothing
      note_misses from ks n t = note_read (λ z. Unit {0}) (λ h j. j ≡ i → ⊥) (λ j. j ≡ i → ⊥) word v Misses misses_under gifts (λ ks. Nothing) brings from ks n t (λ e D m g c k. viewed m g c k)

    -- ---- what is put then

    module _ (script : Script) (w : World) (s : Vat Name) where
      here : Parts Missed s.things s.slots s.lists s.queue s.known s.gifts []
      here = record {
        things = every (ThingOk Missed) thing_all s.things;
        slots = every (CellOk Missed) cell_all s.slots;
        lists = every (ValuesOk Missed) values_all s.lists;
        queue = every (MessageOk Missed) message_all s.queue;
        known = every (KnownOk Missed) known_all s.known;
        gifts = every (GiftOk Missed) gift_all s.gifts;
        outbox = tt;
      }

      ready : WasDrawn w.drawn i → Sound Misses (readied w s)
      unfolding readied
      ready l = record { parts = here; more = l }

      sound_out : (r t : Vat Name) (d : Done Name (Unit {0})) → Ends Misses (nothing {A = Unit {0}}) r d → d ≡ Gives tt t → AllOf (PutOk Missed) t.outbox
      sound_out r t d h e = let one : Ends Misses (nothing {A = Unit {0}}) r (Gives tt t) = rw e at h in let sound = one.1 in let parts = sound.parts in parts.outbox

      missed : (t : Vat Name) (from : ℕ) (n : Note Name) → WasDrawn w.drawn i → Tells (draw_word script.key) n → Does script w v s s t (Receives from (read_note (names_of s) n)) → AllOf (PutOk Missed) t.outbox
      unfolding does names
      missed t from n l k d = sound_out (readied w s) t _ ((note_misses (draw_word script.key) from (names_of s) n k).after (readied w s) (ready l) tt) d.gives

  -- ---- a note in which no gift of the draw passes

  once_other : (j : ℕ) (b : Bool) → (i == j) ≡ b → once b ≡ 0 → j ≡ i → ⊥
  unfolding once
  once_other j true e f x = cc
  once_other j false e f x = no (sym (eq-eqb i j (sym x)) ∙ e)
    where
      no : true ≡ false → ⊥
      no e = cc

  value_tells : (y : Value Name) → PassedTells (λ z. Unit {0}) (λ h j. j ≡ i → ⊥) (λ j. j ≡ i → ⊥) (Plain y)
  value_tells (Ref n) = tt
  value_tells other = tt

  mutual
    unfolding gifts_in gifts_in_all

    passed_tells : (y : Passed Name) → gifts_in i y ≡ 0 → PassedTells (λ z. Unit {0}) (λ h j. j ≡ i → ⊥) (λ j. j ≡ i → ⊥) y
    passed_tells (Plain y) e = value_tells y
    passed_tells (AGift c j) e = once_other j (i == j) refl e
    passed_tells (Many ys) e = passeds_tell ys e

    passeds_tell : (ys : Passeds Name) → gifts_in_all i ys ≡ 0 → PassedsTell (λ z. Unit {0}) (λ h j. j ≡ i → ⊥) (λ j. j ≡ i → ⊥) ys
    passeds_tell NoMore e = tt
    passeds_tell (More y ys) e = (passed_tells y (omega arith), passeds_tell ys (omega arith))

-- a note asks for no gift of draw i
abbrev pub AsksNoGift : ℕ → Note Name → Type 0
AsksNoGift i (Ask p j n) = j ≡ i → ⊥
AsksNoGift i other = Unit {0}

ok_asks : (i : ℕ) (n : Note Name) → (p : Put Name) → p.note ≡ n → PutOk (Missed i) p → AsksNoGift i n
ok_asks i (Ask q j n) p e h = let one : PutOk (Missed i) (record p { note = Ask q j n }) = subst (λ z. PutOk (Missed i) (record p { note = z })) e h in one.0.0
ok_asks i other p e h = tt

all_asks : (i : ℕ) (ps : List (Put Name)) → AllOf (PutOk (Missed i)) ps → AllOf (λ (p : Put Name). AsksNoGift i p.note) ps
all_asks i [] h = tt
all_asks i (p ∷ ps) h = (ok_asks i p.note p refl h.0, all_asks i ps h.1)

no_asks : (i : ℕ) (n : Note Name) → IsNoAsk n → AsksNoGift i n
no_asks i (Ask q j n) h = absurd h
no_asks i other h = tt

all_no_asks : (i : ℕ) (ps : List (Put Name)) → AllOf (λ (p : Put Name). IsNoAsk p.note) ps → AllOf (λ (p : Put Name). AsksNoGift i p.note) ps
all_no_asks i [] h = tt
all_no_asks i (p ∷ ps) h = (no_asks i p.note h.0, all_no_asks i ps h.1)

-- ---- the steps of a vat

alone_quiet : (K : Naming Name Name) (what : Step Name Name) → IsAlone what → Leads Any Quiet (does K what)
unfolding does
alone_quiet K (Starts tree depth root given) h = quiet_opening K tree depth root given
alone_quiet K (Takes tree depth m) h = quiet_taking K tree depth m
alone_quiet K (Receives from n) h = absurd h
alone_quiet K (Notices w) h = quiet_notice K w

module _ (script : Script) (w : World) (v : ℕ) (s q t : Vat Name) where
  quiet_out : Quiet (readied w q) t → AllOf (λ (p : Put Name). IsNoAsk p.note) t.outbox
  unfolding readied
  quiet_out h = subst (λ ps. AllOf (λ (p : Put Name). IsNoAsk p.note) ps) (sym h.outbox) h.none

  led_out : (d : Done Name (Unit {0})) → Led Any Quiet (readied w q) d → d ≡ Gives tt t → AllOf (λ (p : Put Name). IsNoAsk p.note) t.outbox
  led_out d h e = quiet_out (subst (λ r. Led Any Quiet (readied w q) r) e h)

  pub alone_asks : (i : ℕ) (what : Step Name Name) → IsAlone what → Does script w v s q t what → AllOf (λ (p : Put Name). AsksNoGift i p.note) t.outbox
  unfolding names
  alone_asks i what alone d = all_no_asks i t.outbox (led_out _ ((alone_quiet (naming (draw_word script.key) v) what alone).after (readied w q)) d.gives)

module _ (script : Script) (w : World) (v : ℕ) (s t : Vat Name) (i : ℕ) (made : WasDrawn w.drawn i) (from : ℕ) where
  asked_quiet : (p j : ℕ) (n : Name) → Does script w v s s t (Receives from (read_note (names_of s) (Ask p j n))) → AllOf (λ (p : Put Name). IsNoAsk p.note) t.outbox
  unfolding does names read_note arrive.arrive
  asked_quiet p j n d = led_out script w v s s t _ ((quiet_arrive_ask (naming (draw_word script.key) v) from p j).after (readied w s)) d.gives

  pub arrival_asks : (n : Note Name) → gifts_in_note i n ≡ 0 → NoteOk MailBits n → Does script w v s s t (Receives from (read_note (names_of s) n)) → AllOf (λ (p : Put Name). AsksNoGift i p.note) t.outbox
  unfolding gifts_in_note
  arrival_asks (Ask p j n) e m d = all_no_asks i t.outbox (asked_quiet p j n d)
  arrival_asks (Deliver x n verb ys) e m d = all_asks i t.outbox (missed i v script w s t from (Deliver x n verb ys) made (m.0, tt, passeds_tell i ys e) d)
  arrival_asks (Open j n) e m d = all_asks i t.outbox (missed i v script w s t from (Open j n) made tt d)
  arrival_asks (SettledTo n y) e m d = all_asks i t.outbox (missed i v script w s t from (SettledTo n y) made (tt, passed_tells i y e) d)
  arrival_asks (Elsewhere n c) e m d = all_asks i t.outbox (missed i v script w s t from (Elsewhere n c) made tt d)
  arrival_asks (Shorten n c j) e m d = all_asks i t.outbox (missed i v script w s t from (Shorten n c j) made tt d)
