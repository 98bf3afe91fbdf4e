-- Two cares at once: what both say of names holds of all that a vat does, where each does.
use Rattle.std.proofs.Common.{List, [], ◌∷◌, Option, Some, None}
use Rattle.def_machine.specs.Values.{Value, Ref, Naming}
use Rattle.def_machine.specs.State.{Bound, Fixed, Slot, Binding, Cell, Freedom, IsFinal, Thing, Made, Ejector, Audition, Resolver, Message, Standing, Unsettled, Settled, Known, GiftEntry, Vat, WhereSome}
use Rattle.def_machine.specs.Refs.{Place, Mine, Away, spotted}
use Rattle.law_fate.specs.Name.Names.{Bit, AllOf, ValueOk, ValuesOk, NameOk, MessageOk, StandingOk, KnownOk, CellOk, FreedomOk, BoundOk, NounOk, ThingOk, GiftOk, Parts}
use Rattle.law_fate.proofs.Name.Facts.{PlaceOk, IsChange, put_up, holds_up}
use Rattle.law_fate.proofs.Name.Care.{Care, Under, Makes}

-- ---- what holds of all names in two ways

all_both : {A : Type 0} {P Q R : A → Type 0} → ((x : A) → P x → Q x → R x) → (xs : List A) → AllOf P xs → AllOf Q xs → AllOf R xs
all_both f [] h k = tt
all_both f (x ∷ xs) h k = (f x h.0 k.0, all_both f xs h.1 k.1)

module _ {N : Type 0} (P Q : Bit N → Type 0) where
  abbrev pub Each : Bit N → Type 0
  Each b = P b × Q b

  pub value_both : (v : Value N) → ValueOk P v → ValueOk Q v → ValueOk Each v
  value_both (Ref n) h k = (h, k)
  value_both other h k = tt

  pub values_both : (vs : List (Value N)) → ValuesOk P vs → ValuesOk Q vs → ValuesOk Each vs
  values_both vs h k = all_both value_both vs h k

  name_both : (o : Option N) → WhereSome (NameOk P) o → WhereSome (NameOk Q) o → WhereSome (NameOk Each) o
  name_both (Some n) h k = (h, k)
  name_both None h k = tt

  pub message_both : (m : Message N) → MessageOk P m → MessageOk Q m → MessageOk Each m
  message_both m h k = ((h.0, k.0), value_both m.target h.1 k.1, values_both m.args h.2 k.2, name_both m.answer h.3 k.3)

  standing_both : (x : Standing N) → StandingOk P x → StandingOk Q x → StandingOk Each x
  standing_both Unsettled h k = tt
  standing_both (Settled y) h k = value_both y h k
  standing_both other h k = (h, k)

  known_both : (x : Known N) → KnownOk P x → KnownOk Q x → KnownOk Each x
  known_both x h k = ((h.0, k.0), standing_both x.standing h.1 k.1, all_both message_both x.held h.2 k.2, all_both (λ n i j. (i, j)) x.waiting h.3 k.3, all_both message_both x.reactions h.4 k.4, all_both (λ w i j. (i, j)) x.told h.5 k.5)

  cell_both : (c : Cell N) → CellOk P c → CellOk Q c → CellOk Each c
  cell_both c h k = (value_both c.guard h.0 k.0, value_both c.value h.1 k.1)

  freedom_both : (x : Freedom N) → FreedomOk P x → FreedomOk Q x → FreedomOk Each x
  freedom_both (IsFinal g) h k = value_both g h k
  freedom_both other h k = tt

  bound_both : (b : Bound N) → BoundOk P b → BoundOk Q b → BoundOk Each b
  bound_both (Fixed v g) h k = (value_both v h.0 k.0, value_both g h.1 k.1)
  bound_both (Slot i) h k = tt

  pub nouns_both : (bs : List (Binding N)) → AllOf (NounOk P) bs → AllOf (NounOk Q) bs → AllOf (NounOk Each) bs
  nouns_both bs h k = all_both (λ b i j. bound_both b.bound i j) bs h k

  thing_both : (t : Thing N) → ThingOk P t → ThingOk Q t → ThingOk Each t
  thing_both (Made node caught stamps) h k = (nouns_both caught h.0 k.0, values_both stamps h.1 k.1)
  thing_both (Ejector live) h k = tt
  thing_both (Audition live view) h k = all_both (λ f i j. freedom_both f.freedom i j) view.free h k
  thing_both (Resolver p) h k = (h, k)

  gift_both : (g : GiftEntry N) → GiftOk P g → GiftOk Q g → GiftOk Each g
  gift_both g h k = ((h.0, k.0), (h.1, k.1))

  place_both : (p : Place N) → PlaceOk P p → PlaceOk Q p → PlaceOk Each p
  place_both (Mine n) h k = (h, k)
  place_both (Away w n o) h k = ((h.0, k.0), (h.1, k.1))
  place_both other h k = tt

  -- where no note was put
  pub parts_both : (ts : List (Thing N)) (cs : List (Cell N)) (ls : List (List (Value N))) (ms : List (Message N)) (ks : List (Known N)) (gs : List (GiftEntry N)) → Parts P ts cs ls ms ks gs [] → Parts Q ts cs ls ms ks gs [] → Parts Each ts cs ls ms ks gs []
  parts_both ts cs ls ms ks gs h k = record {
    things = all_both thing_both ts h.things k.things;
    slots = all_both cell_both cs h.slots k.slots;
    lists = all_both values_both ls h.lists k.lists;
    queue = all_both message_both ms h.queue k.queue;
    known = all_both known_both ks h.known k.known;
    gifts = all_both gift_both gs h.gifts k.gifts;
    outbox = tt;
  }

-- ---- two cares

pub two_go : {A B C D E F : Type 0} → (A × (B → C)) → (D × (E → F)) → ((A × D) × ((B × E) → (C × F)))
two_go h k = ((h.0, k.0), λ m. (h.1 m.0, k.1 m.1))

module _ {N : Type 0} (S T : Care N) where
  abbrev pub both : Care N
  both = record {
    ok = λ s b. S.ok s b × T.ok s b;
    more = λ s. S.more s × T.more s;
    rel = λ s t. S.rel s t × T.rel s t;
    same = λ s. (S.same s, T.same s);
    trans = λ s t u h k. (S.trans s t u h.0 k.0, T.trans s t u h.1 k.1);
    up = λ s t h b k. (S.up s t h.0 b k.0, T.up s t h.1 b k.1);
    here = λ s m. (S.here s m.0, T.here s m.1);
    near = λ s h k. (S.near s h k.0, T.near s h k.1);
    entered = λ s n h. (S.entered s n h.0, T.entered s n h.1);
    owned = λ s n i h. (S.owned s n i h.0, T.owned s n i h.1);
    owner = λ s n i h k. (S.owner s n i h.0 k.0, T.owner s n i h.1 k.1);
    drew = λ s i h. (S.drew s i h.0, T.drew s i h.1);
    fuel = λ s n. two_go (S.fuel s n) (T.fuel s n);
    told = λ s e n. two_go (S.told s e n) (T.told s e n);
    activations = λ s. two_go (S.activations s) (T.activations s);
    thing = λ s t. two_go (S.thing s t) (T.thing s t);
    killed = λ s n. two_go (S.killed s n) (T.killed s n);
    slot = λ s c. two_go (S.slot s c) (T.slot s c);
    written = λ s n v. two_go (S.written s n v) (T.written s n v);
    list = λ s vs. two_go (S.list s vs) (T.list s vs);
  }

module _ {N W : Type 0} (K : Naming N W) (S T : Care N) (first : Under K S) (second : Under K T) where
  abbrev Ok : Vat N → Bit N → Type 0
  Ok s b = S.ok s b × T.ok s b

  left : (s : Vat N) (b : Bit N) → Ok s b → S.ok s b
  left s b h = h.0

  right : (s : Vat N) (b : Bit N) → Ok s b → T.ok s b
  right s b h = h.1

  pub both_under : Under K (both S T)
  both_under = record {
    spots = record { alike = first.spots.alike; placed = λ s m n g. place_both (S.ok s) (T.ok s) (spotted K s n (K.spot n)) (first.spots.placed s m.0 n g.0) (second.spots.placed s m.1 n g.1) };
    object = λ s i l. (first.object s i l, second.object s i l);
    happened = λ s e. two_go (first.happened s e) (second.happened s e);
    queue = λ s m. two_go (first.queue s m) (second.queue s m);
    outbox = λ s p g. two_go (first.outbox s p (put_up (Ok s) (S.ok s) (left s) p g)) (second.outbox s p (put_up (Ok s) (T.ok s) (right s) p g));
    opened = λ s p i. two_go (first.opened s p i) (second.opened s p i);
    noticed = λ s w. two_go (first.noticed s w) (second.noticed s w);
    drawn = λ s w. let h = first.drawn s w in let k = second.drawn s w in ((h.0, k.0), (λ m. (h.1 m.0, k.1 m.1)), (h.2, k.2));
    altered = λ s c n none g. two_go (first.altered s c n none (holds_up (Ok s) (S.ok s) (left s) (IsChange c) g)) (second.altered s c n none (holds_up (Ok s) (T.ok s) (right s) (IsChange c) g));
    answered = λ s w m g a. let h = first.answered s w m g.0 a.0 in let k = second.answered s w m g.1 a.1 in ((h.0, k.0), (λ i. (h.1 i.0, k.1 i.1)), (h.2, k.2));
  }

  pub both_makes : Makes K S → Makes K T → Makes K (both S T)
  both_makes a b = record {
    promised = λ s. let h = a.promised s in let k = b.promised s in ((h.0, k.0), (λ m. (h.1 m.0, k.1 m.1)), (h.2, k.2));
    messaged = λ s w g. let h = a.messaged s w g.0 in let k = b.messaged s w g.1 in ((h.0, k.0), (λ m. (h.1 m.0, k.1 m.1)), (h.2, k.2), (h.3, k.3));
    lone = λ s. let h = a.lone s in let k = b.lone s in ((h.0, k.0), (λ m. (h.1 m.0, k.1 m.1)), (h.2, k.2));
  }
