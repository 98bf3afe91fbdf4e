-- Changing no name changes nothing.
use Rattle.std.proofs.Common.{◌≡◌, List, Option, Some, None, option_map, [], ◌∷◌, refl, map}
use Rattle.def_machine.specs.Values.{Value, Null}
use Rattle.def_machine.specs.State.{Bound, Fixed, Slot, Binding, Cell, Freedom, IsFinal, FreeName, View, Thing, Made, Audition, Message, Standing, Settled, Known, Passed, Passeds, Plain, AGift, Many, NoMore, More, Note, Deliver, SettledTo, Put, GiftEntry, Happened, Took, Called, Back, Got, SlotMade, SlotRead, SlotWrote, ListMade, ListCame, ObjectMade, Sends, Reacts, Finished, Settles, Vat}
use Rattle.def_machine.specs.Maps as maps

all_same : {A : Type 0} (g : A → A) → ((a : A) → g a ≡ a) → (xs : List A) → map g xs ≡ xs
all_same g e [] = refl
all_same g e (x ∷ xs) = cc (e x, all_same g e xs)

module _ {N : Type 0} where
  abbrev self : N → N
  self n = n

  pub value_same : (v : Value N) → maps.value self v ≡ v
  value_same Null = refl
  value_same other = refl

  values_same : (vs : List (Value N)) → map (maps.value self) vs ≡ vs
  values_same vs = all_same _ value_same vs

  may_same : (o : Option N) → option_map self o ≡ o
  may_same (Some n) = refl
  may_same None = refl

  message_same : (m : Message N) → maps.message self m ≡ m
  message_same m = rw (value_same m.target, values_same m.args, may_same m.answer) refl

  messages_same : (ms : List (Message N)) → map (maps.message self) ms ≡ ms
  messages_same ms = all_same _ message_same ms

  standing_same : (x : Standing N) → maps.standing self x ≡ x
  standing_same (Settled y) = cc (value_same y)
  standing_same other = refl

  names_same : (ns : List N) → map self ns ≡ ns
  names_same ns = all_same self (λ n. refl) ns

  known_same : (k : Known N) → maps.known self k ≡ k
  known_same k = rw (standing_same k.standing, messages_same k.held, names_same k.waiting, messages_same k.reactions) refl

  knowns_same : (xs : List (Known N)) → map (maps.known self) xs ≡ xs
  knowns_same xs = all_same _ known_same xs

  mutual
    passed_same : (x : Passed N) → maps.passed self x ≡ x
    passed_same (Plain v) = cc (value_same v)
    passed_same (AGift h i) = refl
    passed_same (Many ys) = cc (passeds_same ys)

    passeds_same : (xs : Passeds N) → maps.passeds self xs ≡ xs
    passeds_same NoMore = refl
    passeds_same (More y ys) = cc (passed_same y, passeds_same ys)

  note_same : (x : Note N) → maps.note self x ≡ x
  note_same (Deliver m y verb args) = rw (may_same m.answer, passeds_same args) refl
  note_same (SettledTo p y) = cc (passed_same y)
  note_same other = refl

  put_same : (x : Put N) → maps.put self x ≡ x
  put_same x = rw (note_same x.note) refl

  puts_same : (xs : List (Put N)) → map (maps.put self) xs ≡ xs
  puts_same xs = all_same _ put_same xs

  bound_same : (b : Bound N) → maps.bound self b ≡ b
  bound_same (Fixed v w) = cc (value_same v, value_same w)
  bound_same (Slot k) = refl

  bounds_same : (xs : List (Bound N)) → map (maps.bound self) xs ≡ xs
  bounds_same xs = all_same _ bound_same xs

  binding_same : (b : Binding N) → maps.binding self b ≡ b
  binding_same b = rw (bound_same b.bound) refl

  bindings_same : (xs : List (Binding N)) → map (maps.binding self) xs ≡ xs
  bindings_same xs = all_same _ binding_same xs

  gift_same : (x : GiftEntry N) → maps.gift self x ≡ x
  gift_same x = refl

  gifts_same : (xs : List (GiftEntry N)) → map (maps.gift self) xs ≡ xs
  gifts_same xs = all_same _ gift_same xs

  cell_same : (c : Cell N) → maps.cell self c ≡ c
  cell_same c = rw (value_same c.guard, value_same c.value) refl

  cells_same : (xs : List (Cell N)) → map (maps.cell self) xs ≡ xs
  cells_same xs = all_same _ cell_same xs

  freedom_same : (x : Freedom N) → maps.freedom self x ≡ x
  freedom_same (IsFinal y) = cc (value_same y)
  freedom_same other = refl

  free_same : (x : FreeName N) → maps.free_name self x ≡ x
  free_same x = rw (freedom_same x.freedom) refl

  frees_same : (xs : List (FreeName N)) → map (maps.free_name self) xs ≡ xs
  frees_same xs = all_same _ free_same xs

  view_same : (x : View N) → maps.view self x ≡ x
  view_same x = rw (frees_same x.free) refl

  thing_same : (t : Thing N) → maps.thing self t ≡ t
  thing_same (Made node caught stamps) = cc (bindings_same caught, values_same stamps)
  thing_same (Audition b x) = cc (view_same x)
  thing_same other = refl

  things_same : (xs : List (Thing N)) → map (maps.thing self) xs ≡ xs
  things_same xs = all_same _ thing_same xs

  line_same : (e : Happened N) → maps.line self e ≡ e
  line_same (Took a m) = cc (message_same m)
  line_same (Called a x verb args b) = cc (value_same x, values_same args)
  line_same (Back a v) = cc (value_same v)
  line_same (Got a v) = cc (value_same v)
  line_same (SlotMade a k v) = cc (value_same v)
  line_same (SlotRead a k v) = cc (value_same v)
  line_same (SlotWrote a k v) = cc (value_same v)
  line_same (ListMade a k vs) = cc (values_same vs)
  line_same (ListCame k vs) = cc (values_same vs)
  line_same (ObjectMade a n x bs vs) = cc (bounds_same bs, values_same vs)
  line_same (Sends a m) = cc (message_same m)
  line_same (Reacts a x o m) = cc (value_same x, value_same o, message_same m)
  line_same (Finished a v) = cc (value_same v)
  line_same (Settles p y) = cc (value_same y)
  line_same other = refl

  lines_same : (xs : List (Happened N)) → map (maps.line self) xs ≡ xs
  lines_same xs = all_same _ line_same xs

  lists_same : (xs : List (List (Value N))) → map (map (maps.value self)) xs ≡ xs
  lists_same xs = all_same _ values_same xs

  pub vat_same : (s : Vat N) → maps.vat self s ≡ s
  vat_same s = rw (things_same s.things, cells_same s.slots, lists_same s.lists, messages_same s.queue, knowns_same s.known, names_same s.mails, gifts_same s.gifts, puts_same s.outbox, lines_same s.happened) refl
