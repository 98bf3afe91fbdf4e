-- Changing the names twice is changing them once.
use Rattle.std.proofs.Common.{◌≡◌, List, [], ◌∷◌, refl, map, Option, option_map, Some, None}
use Rattle.def_machine.specs.Values.{Value, Null, Ref}
use Rattle.def_machine.specs.State.{Bound, Fixed, Slot, Binding, Cell, Freedom, IsFinal, FreeName, View, Thing, Made, Audition, Message, Standing, Settled, Known, Passed, Passeds, Plain, AGift, Many, NoMore, More, Note, Deliver, SettledTo, Put, GiftEntry, Happened, Took, Called, Back, Got, SlotMade, SlotRead, SlotWrote, ListMade, ListCame, ObjectMade, Sends, Reacts, Finished, Settles, Vat}
use Rattle.def_machine.specs.Maps as maps

all_twice : {A B C : Type 0} (g : A → B) (h : B → C) (l : A → C) → ((a : A) → h (g a) ≡ l a) → (xs : List A) → map h (map g xs) ≡ map l xs
all_twice g h l e [] = refl
all_twice g h l e (x ∷ xs) = cc (e x, all_twice g h l e xs)

module _ {N M P : Type 0} (f : N → M) (g : M → P) where
  abbrev both : N → P
  both n = g (f n)

  value_twice : (v : Value N) → maps.value g (maps.value f v) ≡ maps.value both v
  value_twice (Ref n) = refl
  value_twice Null = refl
  value_twice _ = refl

  values_twice : (vs : List (Value N)) → map (maps.value g) (map (maps.value f) vs) ≡ map (maps.value both) vs
  values_twice vs = all_twice _ _ _ value_twice vs

  option_twice : (o : Option N) → option_map g (option_map f o) ≡ option_map both o
  option_twice (Some n) = refl
  option_twice None = refl

  message_twice : (m : Message N) → maps.message g (maps.message f m) ≡ maps.message both m
  message_twice m = cc (value_twice m.target, values_twice m.args, option_twice m.answer)

  messages_twice : (ms : List (Message N)) → map (maps.message g) (map (maps.message f) ms) ≡ map (maps.message both) ms
  messages_twice ms = all_twice _ _ _ message_twice ms

  standing_twice : (x : Standing N) → maps.standing g (maps.standing f x) ≡ maps.standing both x
  standing_twice (Settled y) = cc (value_twice y)
  standing_twice other = refl

  names_twice : (ns : List N) → map g (map f ns) ≡ map both ns
  names_twice ns = all_twice f g both (λ n. refl) ns

  known_twice : (k : Known N) → maps.known g (maps.known f k) ≡ maps.known both k
  known_twice k = cc (standing_twice k.standing, messages_twice k.held, names_twice k.waiting, messages_twice k.reactions)

  knowns_twice : (xs : List (Known N)) → map (maps.known g) (map (maps.known f) xs) ≡ map (maps.known both) xs
  knowns_twice xs = all_twice _ _ _ known_twice xs

  mutual
    passed_twice : (x : Passed N) → maps.passed g (maps.passed f x) ≡ maps.passed both x
    passed_twice (Plain v) = cc (value_twice v)
    passed_twice (AGift h i) = refl
    passed_twice (Many ys) = cc (passeds_twice ys)

    passeds_twice : (xs : Passeds N) → maps.passeds g (maps.passeds f xs) ≡ maps.passeds both xs
    passeds_twice NoMore = refl
    passeds_twice (More y ys) = cc (passed_twice y, passeds_twice ys)

  pub note_twice : (x : Note N) → maps.note g (maps.note f x) ≡ maps.note both x
  note_twice (Deliver m y verb args) = cc (option_twice m.answer, passeds_twice args)
  note_twice (SettledTo p y) = cc (passed_twice y)
  note_twice other = refl

  put_twice : (x : Put N) → maps.put g (maps.put f x) ≡ maps.put both x
  put_twice x = cc (note_twice x.note)

  puts_twice : (xs : List (Put N)) → map (maps.put g) (map (maps.put f) xs) ≡ map (maps.put both) xs
  puts_twice xs = all_twice _ _ _ put_twice xs

  bound_twice : (b : Bound N) → maps.bound g (maps.bound f b) ≡ maps.bound both b
  bound_twice (Fixed v w) = cc (value_twice v, value_twice w)
  bound_twice (Slot k) = refl

  bounds_twice : (xs : List (Bound N)) → map (maps.bound g) (map (maps.bound f) xs) ≡ map (maps.bound both) xs
  bounds_twice xs = all_twice _ _ _ bound_twice xs

  binding_twice : (b : Binding N) → maps.binding g (maps.binding f b) ≡ maps.binding both b
  binding_twice b = cc (bound_twice b.bound)

  bindings_twice : (xs : List (Binding N)) → map (maps.binding g) (map (maps.binding f) xs) ≡ map (maps.binding both) xs
  bindings_twice xs = all_twice _ _ _ binding_twice xs

  gift_twice : (x : GiftEntry N) → maps.gift g (maps.gift f x) ≡ maps.gift both x
  gift_twice x = refl

  gifts_twice : (xs : List (GiftEntry N)) → map (maps.gift g) (map (maps.gift f) xs) ≡ map (maps.gift both) xs
  gifts_twice xs = all_twice _ _ _ gift_twice xs

  cell_twice : (c : Cell N) → maps.cell g (maps.cell f c) ≡ maps.cell both c
  cell_twice c = cc (value_twice c.guard, value_twice c.value)

  cells_twice : (xs : List (Cell N)) → map (maps.cell g) (map (maps.cell f) xs) ≡ map (maps.cell both) xs
  cells_twice xs = all_twice _ _ _ cell_twice xs

  freedom_twice : (x : Freedom N) → maps.freedom g (maps.freedom f x) ≡ maps.freedom both x
  freedom_twice (IsFinal y) = cc (value_twice y)
  freedom_twice other = refl

  free_twice : (x : FreeName N) → maps.free_name g (maps.free_name f x) ≡ maps.free_name both x
  free_twice x = cc (freedom_twice x.freedom)

  frees_twice : (xs : List (FreeName N)) → map (maps.free_name g) (map (maps.free_name f) xs) ≡ map (maps.free_name both) xs
  frees_twice xs = all_twice _ _ _ free_twice xs

  view_twice : (x : View N) → maps.view g (maps.view f x) ≡ maps.view both x
  view_twice x = cc (frees_twice x.free)

  thing_twice : (t : Thing N) → maps.thing g (maps.thing f t) ≡ maps.thing both t
  thing_twice (Made node caught stamps) = cc (bindings_twice caught, values_twice stamps)
  thing_twice (Audition b x) = cc (view_twice x)
  thing_twice other = refl

  things_twice : (xs : List (Thing N)) → map (maps.thing g) (map (maps.thing f) xs) ≡ map (maps.thing both) xs
  things_twice xs = all_twice _ _ _ thing_twice xs

  line_twice : (e : Happened N) → maps.line g (maps.line f e) ≡ maps.line both e
  line_twice (Took a m) = cc (message_twice m)
  line_twice (Called a x verb args b) = cc (value_twice x, values_twice args)
  line_twice (Back a v) = cc (value_twice v)
  line_twice (Got a v) = cc (value_twice v)
  line_twice (SlotMade a k v) = cc (value_twice v)
  line_twice (SlotRead a k v) = cc (value_twice v)
  line_twice (SlotWrote a k v) = cc (value_twice v)
  line_twice (ListMade a k vs) = cc (values_twice vs)
  line_twice (ListCame k vs) = cc (values_twice vs)
  line_twice (ObjectMade a n x bs vs) = cc (bounds_twice bs, values_twice vs)
  line_twice (Sends a m) = cc (message_twice m)
  line_twice (Reacts a x o m) = cc (value_twice x, value_twice o, message_twice m)
  line_twice (Finished a v) = cc (value_twice v)
  line_twice (Settles p y) = cc (value_twice y)
  line_twice other = refl

  lines_twice : (xs : List (Happened N)) → map (maps.line g) (map (maps.line f) xs) ≡ map (maps.line both) xs
  lines_twice xs = all_twice _ _ _ line_twice xs

  lists_twice : (xs : List (List (Value N))) → map (map (maps.value g)) (map (map (maps.value f)) xs) ≡ map (map (maps.value both)) xs
  lists_twice xs = all_twice _ _ _ values_twice xs

  pub vat_twice : (s : Vat N) → maps.vat g (maps.vat f s) ≡ maps.vat both s
  vat_twice s = cc (things_twice s.things, cells_twice s.slots, lists_twice s.lists, messages_twice s.queue, knowns_twice s.known, names_twice s.mails, gifts_twice s.gifts, puts_twice s.outbox, lines_twice s.happened)

  pub notes_twice : (ns : List (Note N)) → map (maps.note g) (map (maps.note f) ns) ≡ map (maps.note both) ns
  notes_twice ns = all_twice _ _ _ note_twice ns
