-- Two ways of changing names are one on a state where they are one on each name in it.
use Rattle.std.proofs.Common.{◌≡◌, ℕ, List, [], ◌∷◌, Option, Some, None, refl, ap, map, option_map}
use Rattle.def_machine.specs.Values.{Value, Ref}
use Rattle.def_machine.specs.State.{Bound, Fixed, Slot, Binding, Cell, Freedom, IsFinal, FreeName, View, Thing, Made, Ejector, Audition, Resolver, Message, Standing, Unsettled, WaitsOn, Viewed, Settled, Known, Put, GiftEntry, Vat, WhereSome}
use Rattle.law_fate.specs.Name.Names.{Bit, Named, Mail, Entered, Owns, AllOf, NameOk, ValueOk, ValuesOk, MessageOk, StandingOk, EntryOk, KnownOk, CellOk, FreedomOk, ViewOk, BoundOk, NounOk, ThingOk, GiftOk, Parts}
use Rattle.def_machine.specs.Maps as maps

pub all_same : {A B : Type 0} (h l : A → B) (Q R : A → Type 0) → ((a : A) → Q a → R a → h a ≡ l a) → (xs : List A) → AllOf Q xs → AllOf R xs → map h xs ≡ map l xs
all_same h l Q R e [] i j = refl
all_same h l Q R e (x ∷ xs) i j = cc (e x i.0 j.0, all_same h l Q R e xs i.1 j.1)

-- P and Q hold of each name in the state, and where both hold of a name the two are one on it
module _ {N M : Type 0} (f g : N → M) (P Q : Bit N → Type 0) (name : (n : N) → P (Named n) → Q (Named n) → f n ≡ g n) (mail : (n : N) → P (Mail n) → Q (Mail n) → f n ≡ g n)
    (entry : (n : N) → P (Entered n) → Q (Entered n) → f n ≡ g n) (owned : (n : N) (i : ℕ) → P (Owns n i) → Q (Owns n i) → f n ≡ g n) where
  value_same : (v : Value N) → ValueOk P v → ValueOk Q v → maps.value f v ≡ maps.value g v
  value_same (Ref n) h k = cc (name n h k)
  value_same other h k = refl

  values_same : (vs : List (Value N)) → ValuesOk P vs → ValuesOk Q vs → map (maps.value f) vs ≡ map (maps.value g) vs
  values_same vs h k = all_same (maps.value f) (maps.value g) (ValueOk P) (ValueOk Q) value_same vs h k

  answer_same : (o : Option N) → WhereSome (NameOk P) o → WhereSome (NameOk Q) o → option_map f o ≡ option_map g o
  answer_same (Some a) h k = ap Some (name a h k)
  answer_same None h k = refl

  message_same : (m : Message N) → MessageOk P m → MessageOk Q m → maps.message f m ≡ maps.message g m
  message_same m h k = cc (mail m.id h.0 k.0, value_same m.target h.1 k.1, values_same m.args h.2 k.2, answer_same m.answer h.3 k.3)

  messages_same : (ms : List (Message N)) → AllOf (MessageOk P) ms → AllOf (MessageOk Q) ms → map (maps.message f) ms ≡ map (maps.message g) ms
  messages_same ms h k = all_same (maps.message f) (maps.message g) (MessageOk P) (MessageOk Q) message_same ms h k

  standing_same : (x : Standing N) → StandingOk P x → StandingOk Q x → maps.standing f x ≡ maps.standing g x
  standing_same Unsettled h k = refl
  standing_same (WaitsOn q) h k = cc (name q h k)
  standing_same (Viewed q) h k = cc (name q h k)
  standing_same (Settled y) h k = cc (value_same y h k)

  waiting_same : (ns : List N) → AllOf (EntryOk P) ns → AllOf (EntryOk Q) ns → map f ns ≡ map g ns
  waiting_same ns h k = all_same f g (EntryOk P) (EntryOk Q) entry ns h k

  known_same : (x : Known N) → KnownOk P x → KnownOk Q x → maps.known f x ≡ maps.known g x
  known_same x h k = cc (entry x.name h.0 k.0, standing_same x.standing h.1 k.1, messages_same x.held h.2 k.2, waiting_same x.waiting h.3 k.3, messages_same x.reactions h.4 k.4)

  bound_same : (b : Bound N) → BoundOk P b → BoundOk Q b → maps.bound f b ≡ maps.bound g b
  bound_same (Fixed v w) h k = cc (value_same v h.0 k.0, value_same w h.1 k.1)
  bound_same (Slot i) h k = refl

  binding_same : (b : Binding N) → NounOk P b → NounOk Q b → maps.binding f b ≡ maps.binding g b
  binding_same b h k = cc (bound_same b.bound h k)

  bindings_same : (xs : List (Binding N)) → AllOf (NounOk P) xs → AllOf (NounOk Q) xs → map (maps.binding f) xs ≡ map (maps.binding g) xs
  bindings_same xs h k = all_same (maps.binding f) (maps.binding g) (NounOk P) (NounOk Q) binding_same xs h k

  cell_same : (c : Cell N) → CellOk P c → CellOk Q c → maps.cell f c ≡ maps.cell g c
  cell_same c h k = cc (value_same c.guard h.0 k.0, value_same c.value h.1 k.1)

  freedom_same : (x : Freedom N) → FreedomOk P x → FreedomOk Q x → maps.freedom f x ≡ maps.freedom g x
  freedom_same (IsFinal y) h k = cc (value_same y h k)
  freedom_same other h k = refl

  free_same : (x : FreeName N) → FreedomOk P x.freedom → FreedomOk Q x.freedom → maps.free_name f x ≡ maps.free_name g x
  free_same x h k = cc (freedom_same x.freedom h k)

  view_same : (x : View N) → ViewOk P x → ViewOk Q x → maps.view f x ≡ maps.view g x
  view_same x h k = cc (all_same (maps.free_name f) (maps.free_name g) (λ y. FreedomOk P y.freedom) (λ y. FreedomOk Q y.freedom) free_same x.free h k)

  thing_same : (t : Thing N) → ThingOk P t → ThingOk Q t → maps.thing f t ≡ maps.thing g t
  thing_same (Made node caught stamps) h k = cc (bindings_same caught h.0 k.0, values_same stamps h.1 k.1)
  thing_same (Ejector live) h k = refl
  thing_same (Audition live x) h k = cc (view_same x h k)
  thing_same (Resolver p) h k = cc (name p h k)

  gift_same : (x : GiftEntry N) → GiftOk P x → GiftOk Q x → maps.gift f x ≡ maps.gift g x
  gift_same x h k = cc (owned x.name x.number h.0 k.0)

  -- of a state with no note put and no line written
  pub vat_same : (s : Vat N) (ps : List (Put N)) (had : map f s.mails ≡ map g s.mails) → s.outbox ≡ [] → s.happened ≡ [] → Parts P s.things s.slots s.lists s.queue s.known s.gifts ps → Parts Q s.things s.slots s.lists s.queue s.known s.gifts ps → maps.vat f s ≡ maps.vat g s
  vat_same s ps had out none h k =
      let things = all_same (maps.thing f) (maps.thing g) (ThingOk P) (ThingOk Q) thing_same s.things h.things k.things in
      let slots = all_same (maps.cell f) (maps.cell g) (CellOk P) (CellOk Q) cell_same s.slots h.slots k.slots in
      let lists = all_same (map (maps.value f)) (map (maps.value g)) (ValuesOk P) (ValuesOk Q) values_same s.lists h.lists k.lists in
      let queue = messages_same s.queue h.queue k.queue in
      let known = all_same (maps.known f) (maps.known g) (KnownOk P) (KnownOk Q) known_same s.known h.known k.known in
      let gifts = all_same (maps.gift f) (maps.gift g) (GiftOk P) (GiftOk Q) gift_same s.gifts h.gifts k.gifts in
      let puts : map (maps.put f) s.outbox ≡ map (maps.put g) s.outbox = rw out refl in
      let lines : map (maps.line f) s.happened ≡ map (maps.line g) s.happened = rw none refl in
      cc (things, slots, lists, queue, known, had, gifts, puts, lines)
