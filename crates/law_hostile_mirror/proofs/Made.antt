-- What a frame makes is made alike in names and in numbers.
use Rattle.std.proofs.Common.{◌≡◌, ℕ, zero, suc, ◌+◌, ◌<◌, Bool, true, false, List, [], ◌∷◌, ◌++◌, ◌⊎◌, inl, inr, Some, refl, sym, ap, ◌∙◌, subst, length, map, arith, append_assoc}
use Rattle.std.specs.Prelude.{slice_get, unwrap_or}
use Rattle.std.proofs.lemmas.List.{length-set, get_or-set_same, get_or-set_other, map-append}
use Rattle.def_machine.specs.Arrive as machine
use Rattle.def_machine.specs.Arrive.{Incoming, Old, New}
use Rattle.def_machine.specs.State.{Made, Note, Deliver, Vat, Done, Gives, ◌>>=◌, ◌>>◌, and_then, give, come, begun, new_thing, new_promise, new_message, new_lone_message}
use Rattle.def_machine.specs.Values.{Name, Object, Promise, Local, Obj, Prom, Far, Mess, IsOwn, IsSent, IsAnswer, IsLearnt}
use Rattle.def_run.specs.Connections.{Connection}
use Rattle.def_run.specs.Deeds.{Deed, NewObject, NewPromise, NewMessage, NewLone, Learns, perform, perform_all}
use Rattle.def_run.specs.Names.{Names, name_by}
use Rattle.def_run.specs.Numbers.{Vats, name_at_vat, left_member}
use Rattle.def_run.specs.Vats.{Member, unconnected, connection_for}
use Rattle.def_run.specs.Wire.{connected_at, is_object}
use Rattle.def_run.specs.World as world
use Rattle.def_run.specs.World.{Script, World, read_name, names_of, left_vat}
use Rattle.def_hostile.specs.Hostile.{Play, deeds_for, message_deeds, message_deed, makes_new, names_in_note, new_names}
use Rattle.def_hostile.specs.Outsiders.{Outsider, objects_in, promises_in, messages_in, counted, new_numbers, new_promises, exporting, grown}
use Rattle.law_fate.specs.Name.Names.{AllOf}
use Rattle.law_frame.proofs.Frame.Places.{same_or}
use Rattle.law_hostile_frame.specs.Mirrors.{IsPlain, OutsiderMirrors}
use Rattle.law_hostile_mirror.specs.Made.{MadeSo, DeedsAreCounted, NewNamesMirror, MadeMirror}
use Rattle.law_hostile_mirror.proofs.Steps.{front_get}
use Rattle.law_hostile_mirror.proofs.Swallows.{held_end, wait_end}

-- ---- deeds

-- how many of these deeds make an object, a promise, a message
objects_of : List Deed → ℕ
objects_of [] = zero
objects_of (NewObject ∷ ds) = suc (objects_of ds)
objects_of (d ∷ ds) = objects_of ds

promises_of : List Deed → ℕ
promises_of [] = zero
promises_of (NewPromise ∷ ds) = suc (promises_of ds)
promises_of (d ∷ ds) = promises_of ds

messages_of : List Deed → ℕ
messages_of [] = zero
messages_of (NewMessage h ∷ ds) = suc (messages_of ds)
messages_of (NewLone ∷ ds) = suc (messages_of ds)
messages_of (d ∷ ds) = messages_of ds

made_then : (script : Script) (s q r : Vat Name) (a b c d e f g i j : ℕ) → MadeSo script s q a b c → MadeSo script q r d e f → a + d ≡ g → b + e ≡ i → c + f ≡ j → MadeSo script s r g i j
made_then script s q r a b c d e f g i j x y k l m = record {
  fuel = y.fuel ∙ x.fuel;
  drawn = y.drawn ∙ x.drawn;
  outbox = y.outbox ∙ x.outbox;
  happened = y.happened ∙ x.happened;
  things = let p = x.things in let q = y.things in omega arith;
  promises = let p = x.promises in let q = y.promises in omega arith;
  messages = let p = x.messages in let q = y.messages in omega arith;
  left = y.left ∙ x.left;
}

left_one : (script : Script) (s : Vat Name) (n : Name) (h : ℕ) → left_vat script (record s { known = s.known ++ begun n h ∷ [] }) ≡ left_vat script s
unfolding left_vat
left_one script s n h = both (map (λ m. world.LeftQueue s.number m.id) s.queue) (held_end script s.number s.known n h) (wait_end script s.number s.known n h)
  where
    both : (e : List world.Event) {a b c d : List world.Event} → a ≡ b → c ≡ d → e ++ a ++ c ≡ e ++ b ++ d
    both e i j = cc

left_same : (script : Script) (s r : Vat Name) → r.number ≡ s.number → r.queue ≡ s.queue → r.known ≡ s.known → left_vat script r ≡ left_vat script s
unfolding left_vat
left_same script s r a b c = rw (a, b, c) refl

length_one : {A : Type 0} (xs : List A) (x : A) → length (xs ++ x ∷ []) ≡ length xs + 1
length_one [] x = refl
length_one (y ∷ xs) x = let e = length_one xs x in omega arith

-- a deed makes so many
abbrev Does : Script → Vat Name → Done Name (Unit {0}) → ℕ → ℕ → ℕ → Type 0
Does script s d a b c = (r : Vat Name) × (d ≡ Gives tt r) × MadeSo script s r a b c

learns_so : (script : Script) (h : ℕ) (s : Vat Name) (x : Incoming Name Name) → Does script s ((machine.learn_name (world.names script h) x >> give (tt {0})) s) zero zero zero
unfolding machine.learn_name ◌>>◌ ◌>>=◌ and_then give come
learns_so script h s (Old n) = (s, refl, record { fuel = refl; drawn = refl; outbox = refl; happened = refl; things = omega arith; promises = omega arith; messages = omega arith; left = refl })
learns_so script h s (New x g) =
    let n : Name = (world.names script h).made (IsLearnt x) (length s.known) in
    (record s { known = s.known ++ begun n g ∷ [] }, refl, record { fuel = refl; drawn = refl; outbox = refl; happened = refl; things = omega arith; promises = omega arith; messages = omega arith; left = left_one script s n g })

one_does : (script : Script) (h : ℕ) (d : Deed) (s : Vat Name) → Does script s (perform script h d s) (objects_of (d ∷ [])) (promises_of (d ∷ [])) (messages_of (d ∷ []))
unfolding objects_of promises_of messages_of perform ◌>>◌ ◌>>=◌ and_then give new_thing new_promise new_message new_lone_message
one_does script h NewObject s = (record s { things = s.things ++ Made zero [] [] ∷ [] }, refl, record { fuel = refl; drawn = refl; outbox = refl; happened = refl; things = length_one s.things (Made zero [] []); promises = omega arith; messages = omega arith; left = left_same script s (record s { things = s.things ++ Made zero [] [] ∷ [] }) refl refl refl })
one_does script h NewPromise s =
    let n : Name = (world.names script h).made (IsOwn s.promises) (length s.known) in
    let q : Vat Name = record s { promises = suc s.promises } in
    (record q { known = s.known ++ begun n s.number ∷ [] }, refl, record { fuel = refl; drawn = refl; outbox = refl; happened = refl; things = omega arith; promises = omega arith; messages = omega arith; left = left_one script q n s.number ∙ left_same script s q refl refl refl })
one_does script h (NewMessage g) s =
    let id : Name = (world.names script h).mailed (IsSent s.messages) (length s.mails) in
    let a : Name = (world.names script h).made (IsAnswer g id) (length s.known) in
    let q : Vat Name = record s { messages = suc s.messages; mails = s.mails ++ id ∷ [] } in
    (record q { known = s.known ++ begun a g ∷ [] }, refl, record { fuel = refl; drawn = refl; outbox = refl; happened = refl; things = omega arith; promises = omega arith; messages = omega arith; left = left_one script q a g ∙ left_same script s q refl refl refl })
one_does script h NewLone s =
    let id : Name = (world.names script h).mailed (IsSent s.messages) (length s.mails) in
    let q : Vat Name = record s { messages = suc s.messages; mails = s.mails ++ id ∷ [] } in
    (q, refl, record { fuel = refl; drawn = refl; outbox = refl; happened = refl; things = omega arith; promises = omega arith; messages = omega arith; left = left_same script s q refl refl refl })
one_does script h (Learns n) s = learns_so script h s (read_name (names_of s) n)

more_of : (d : Deed) (ds : List Deed) → (objects_of (d ∷ []) + objects_of ds ≡ objects_of (d ∷ ds)) × (promises_of (d ∷ []) + promises_of ds ≡ promises_of (d ∷ ds)) × (messages_of (d ∷ []) + messages_of ds ≡ messages_of (d ∷ ds))
unfolding objects_of promises_of messages_of
more_of NewObject ds = (omega arith, omega arith, omega arith)
more_of NewPromise ds = (omega arith, omega arith, omega arith)
more_of (NewMessage h) ds = (omega arith, omega arith, omega arith)
more_of NewLone ds = (omega arith, omega arith, omega arith)
more_of (Learns n) ds = (omega arith, omega arith, omega arith)

all_do : (script : Script) (h : ℕ) (ds : List Deed) (s : Vat Name) → Does script s (perform_all script h ds s) (objects_of ds) (promises_of ds) (messages_of ds)
unfolding objects_of promises_of messages_of perform_all give ◌>>◌ ◌>>=◌ and_then
all_do script h [] s = (s, refl, record { fuel = refl; drawn = refl; outbox = refl; happened = refl; things = omega arith; promises = omega arith; messages = omega arith; left = refl })
all_do script h (d ∷ ds) s =
    let one = one_does script h d s in
    let rest = all_do script h ds one.0 in
    let k = more_of d ds in
    (rest.0, goes (perform script h d s) one.0 one.1 rest.1, made_then script s one.0 rest.0 (objects_of (d ∷ [])) (promises_of (d ∷ [])) (messages_of (d ∷ [])) (objects_of ds) (promises_of ds) (messages_of ds) (objects_of (d ∷ ds)) (promises_of (d ∷ ds)) (messages_of (d ∷ ds)) one.2 rest.2 k.0 k.1 k.2)
  where
    goes : (x : Done Name (Unit {0})) (q : Vat Name) {r : Vat Name} → x ≡ Gives tt q → perform_all script h ds q ≡ Gives tt r → and_then x (λ a. perform_all script h ds) ≡ Gives tt r
    goes x q e i = ap (λ y. and_then y (λ a. perform_all script h ds)) e ∙ i

-- what the deeds for a frame make
names_make : (ns : List Name) → (objects_of (map Learns ns) ≡ zero) × (promises_of (map Learns ns) ≡ zero) × (messages_of (map Learns ns) ≡ zero)
unfolding objects_of promises_of messages_of
names_make [] = (refl, refl, refl)
names_make (n ∷ ns) = names_make ns

message_makes : (u : ℕ) (n : Note Name) (ds : List Deed) → (objects_of (message_deeds u n ++ ds) ≡ objects_of ds) × (promises_of (message_deeds u n ++ ds) ≡ promises_of ds) × (messages_of (message_deeds u n ++ ds) ≡ messages_in n + messages_of ds)
unfolding objects_of promises_of messages_of message_deeds message_deed messages_in
message_makes u (Deliver d x verb ys) ds = by d.asks
  where
    by : (b : Bool) → (objects_of (message_deed u b ∷ ds) ≡ objects_of ds) × (promises_of (message_deed u b ∷ ds) ≡ promises_of ds) × (messages_of (message_deed u b ∷ ds) ≡ 1 + messages_of ds)
    by true = (refl, refl, omega arith)
    by false = (refl, refl, omega arith)
message_makes u other ds = (refl, refl, omega arith)

kinds_make : (ks : List Bool) (ds : List Deed) → (objects_of (map makes_new ks ++ ds) ≡ objects_in ks + objects_of ds) × (promises_of (map makes_new ks ++ ds) ≡ promises_in ks + promises_of ds) × (messages_of (map makes_new ks ++ ds) ≡ messages_of ds)
unfolding objects_of promises_of messages_of makes_new objects_in promises_in
kinds_make [] ds = (omega arith, omega arith, refl)
kinds_make (true ∷ ks) ds = let k = kinds_make ks ds in let a = k.0 in (omega arith, k.1, k.2)
kinds_make (false ∷ ks) ds = let k = kinds_make ks ds in let a = k.1 in (k.0, omega arith, k.2)

pub deeds_are_counted : DeedsAreCounted
unfolding deeds_for
deeds_are_counted script h u kinds n s =
    let done = all_do script h (map makes_new kinds ++ message_deeds u n ++ map Learns (names_in_note n)) s in
    let ns = names_make (names_in_note n) in
    let ms = message_makes u n (map Learns (names_in_note n)) in
    let split : map makes_new kinds ++ message_deeds u n ++ map Learns (names_in_note n) ≡ map makes_new kinds ++ (message_deeds u n ++ map Learns (names_in_note n)) = append_assoc (map makes_new kinds) (message_deeds u n) (map Learns (names_in_note n)) in
    let ks = kinds_make kinds (message_deeds u n ++ map Learns (names_in_note n)) in
    let m = done.2 in
    let a = ap objects_of split in let b = ap promises_of split in let c = ap messages_of split in
    let o1 = ks.0 in let p1 = ks.1 in let m1 = ks.2 in let o2 = ms.0 in let p2 = ms.1 in let m2 = ms.2 in let o3 = ns.0 in let p3 = ns.1 in let m3 = ns.2 in
    let t = m.things in let p = m.promises in let g = m.messages in
    (done.0, done.1, record { fuel = m.fuel; drawn = m.drawn; outbox = m.outbox; happened = m.happened; things = omega arith; promises = omega arith; messages = omega arith; left = m.left })

-- ---- names

got_end : (xs ys : List Name) (y : Name) → slice_get (xs ++ y ∷ ys) (length xs) ≡ Some y
got_end [] ys y = refl
got_end (x ∷ xs) ys y = got_end xs ys y

one_promise : (ms : List Member) (h k : ℕ) (ns : List Name) (mails : List Name) (n : Name) → slice_get ns k ≡ Some n → name_at_vat ms h (record { known = ns; mails = mails }) (Prom k) ≡ n
unfolding name_at_vat name_by
one_promise ms h k ns mails n e = ap (λ o. unwrap_or o (Name.Root h)) e

-- behind so many names
news_at : (ms : List Member) (h : ℕ) (mails : List Name) (objects promises : ℕ) (front : List Name) (kinds : List Bool) (all : List Name) → all ≡ front ++ new_promises h promises kinds
    → (map (name_at_vat ms h (record { known = all; mails = mails })) (new_numbers objects (length front) kinds) ≡ new_names h objects promises kinds) × AllOf (IsPlain all) (new_numbers objects (length front) kinds)
unfolding new_names new_numbers new_promises name_at_vat name_by is_object
news_at ms h mails objects promises front [] all e = (refl, tt)
news_at ms h mails objects promises front (true ∷ ks) all e = let r = news_at ms h mails (suc objects) promises front ks all e in (ap (λ ns. Object h objects ∷ ns) r.0, (tt, r.1))
news_at ms h mails objects promises front (false ∷ ks) all e =
    let at : slice_get all (length front) ≡ Some (Promise h promises) = ap (λ ns. slice_get ns (length front)) e ∙ got_end front (new_promises h (suc promises) ks) (Promise h promises) in
    let size : length (front ++ Promise h promises ∷ []) ≡ suc (length front) = let e = length_one front (Promise h promises) in omega arith in
    let r = news_at ms h mails objects (suc promises) (front ++ Promise h promises ∷ []) ks all (e ∙ sym (append_assoc front (Promise h promises ∷ []) (new_promises h (suc promises) ks))) in (
      ap (λ n. n ∷ map (name_at_vat ms h (record { known = all; mails = mails })) (new_numbers objects (suc (length front)) ks)) (one_promise ms h (length front) all mails (Promise h promises) at)
          ∙ ap (λ (i : ℕ). Promise h promises ∷ map (name_at_vat ms h (record { known = all; mails = mails })) (new_numbers objects i ks)) (sym size)
          ∙ ap (λ ns. Promise h promises ∷ ns) r.0,
      ((Promise h promises, at, refl), subst (λ (i : ℕ). AllOf (IsPlain all) (new_numbers objects i ks)) size r.1),
    )

pub new_names_mirror : NewNamesMirror
new_names_mirror ms h t objects promises kinds = news_at ms h t.mails objects promises t.known kinds (t.known ++ new_promises h promises kinds) refl

-- what was exported before has the names that it had
plain_on : (ns es : List Name) (a : Local) → IsPlain ns a → IsPlain (ns ++ es) a
plain_on ns es (Obj i) k = tt
plain_on ns es (Prom j) k = (k.0, front_get ns es j k.0 k.1, k.2)
plain_on ns es (Far g p) k = absurd k
plain_on ns es (Mess j) k = absurd k

all_plain_on : (ns es : List Name) (xs : List Local) → AllOf (IsPlain ns) xs → AllOf (IsPlain (ns ++ es)) xs
all_plain_on ns es [] k = tt
all_plain_on ns es (x ∷ xs) k = (plain_on ns es x k.0, all_plain_on ns es xs k.1)

name_on : (ms ls : List Member) (h : ℕ) (t : Names) (es : List Name) (a : Local) → IsPlain t.known a → name_at_vat ms h (record t { known = t.known ++ es }) a ≡ name_at_vat ls h t a
unfolding name_at_vat name_by
name_on ms ls h t es (Obj i) k = refl
name_on ms ls h t es (Prom j) k = ap (λ o. unwrap_or o (Name.Root h)) (front_get t.known es j k.0 k.1 ∙ sym k.1)
name_on ms ls h t es (Far g p) k = absurd k
name_on ms ls h t es (Mess j) k = absurd k

all_named_on : (ms ls : List Member) (h : ℕ) (t : Names) (es : List Name) (xs : List Local) → AllOf (IsPlain t.known) xs → map (name_at_vat ms h (record t { known = t.known ++ es })) xs ≡ map (name_at_vat ls h t) xs
all_named_on ms ls h t es [] k = refl
all_named_on ms ls h t es (x ∷ xs) k = ap (λ y. y ∷ map (name_at_vat ms h (record t { known = t.known ++ es })) xs) (name_on ms ls h t es x k.0) ∙ ap (λ ys. name_at_vat ls h t x ∷ ys) (all_named_on ms ls h t es xs k.1)

all_join : {A : Type 0} (P : A → Type 0) (xs ys : List A) → AllOf P xs → AllOf P ys → AllOf P (xs ++ ys)
all_join P [] ys h k = k
all_join P (x ∷ xs) ys h k = (h.0, all_join P xs ys h.1 k)

-- ---- the place of the hostile vat

module _ (play : Play) (w y : World) (W Y : Vats) (h u : ℕ) (r p : Vat Name) (o : Outsider) (g : Member) (kinds : List Bool) (n : Note Name) (was : OutsiderMirrors w W play h r o g) (within : u < length W.members) (many : length Y.members ≡ length W.members)
    (made : MadeSo play.script r p (objects_in kinds) (promises_in kinds) (messages_in n)) (others : (z : ℕ) → (u ≡ z → ⊥) → (connected_at h z y.connections).tables.exports ≡ (connected_at h z w.connections).tables.exports)
    (more : (connected_at h u y.connections).tables.exports ≡ (connected_at h u w.connections).tables.exports ++ new_names h (length r.things) r.promises kinds) where
  abbrev G : Member
  G = grown h u kinds o g

  abbrev es : List Name
  es = new_promises h o.promises kinds

  abbrev ns : List Local
  ns = new_numbers o.objects (length g.names.known) kinds

  names_are : G.names ≡ record g.names { known = g.names.known ++ es }
  unfolding grown
  names_are = refl

  here : (connection_for u G).exports ≡ (connection_for u g).exports ++ ns
  unfolding grown connection_for exporting
  here = ap (λ (c : Connection Local). c.exports) (get_or-set_same g.connections u (exporting ns (connection_for u g)) unconnected (let e = was.peers in omega arith))

  there : (z : ℕ) → (u ≡ z → ⊥) → (connection_for z G).exports ≡ (connection_for z g).exports
  unfolding grown connection_for exporting
  there z apart = ap (λ (c : Connection Local). c.exports) (get_or-set_other g.connections u z (exporting ns (connection_for u g)) unconnected (λ e. apart (sym e)))

  new_here : map (name_at_vat Y.members h (record g.names { known = g.names.known ++ es })) ns ≡ new_names h (length r.things) r.promises kinds
  new_here = (new_names_mirror Y.members h g.names o.objects o.promises kinds).0 ∙ ap (λ i. new_names h i o.promises kinds) was.objects ∙ ap (λ i. new_names h (length r.things) i kinds) was.promises

  old_here : (z : ℕ) → z < length W.members → map (name_at_vat Y.members h (record g.names { known = g.names.known ++ es })) (connection_for z g).exports ≡ (connected_at h z w.connections).tables.exports
  old_here z i = all_named_on Y.members W.members h g.names es (connection_for z g).exports (was.plain z i) ∙ was.exports z i

  exports_so : (z : ℕ) → z < length W.members → map (name_at_vat Y.members h (record g.names { known = g.names.known ++ es })) (connection_for z G).exports ≡ (connected_at h z y.connections).tables.exports
  exports_so z i = by (same_or u u z z)
    where
      abbrev_f : Local → Name
      abbrev_f = name_at_vat Y.members h (record g.names { known = g.names.known ++ es })

      own : map abbrev_f (connection_for u G).exports ≡ (connected_at h u y.connections).tables.exports
      own = ap (map abbrev_f) here ∙ map-append abbrev_f (connection_for u g).exports ns ∙ ap (λ xs. xs ++ map abbrev_f ns) (old_here u within) ∙ ap (λ xs. (connected_at h u w.connections).tables.exports ++ xs) new_here ∙ sym more

      by : ((u ≡ z) × (u ≡ z)) ⊎ (u ≡ z → u ≡ z → ⊥) → map abbrev_f (connection_for z G).exports ≡ (connected_at h z y.connections).tables.exports
      by (inl e) = subst (λ a. map abbrev_f (connection_for a G).exports ≡ (connected_at h a y.connections).tables.exports) e.0 own
      by (inr e) = ap (map abbrev_f) (there z (λ a. e a a)) ∙ old_here z i ∙ sym (others z (λ a. e a a))

  plain_so : (z : ℕ) → z < length W.members → AllOf (IsPlain (g.names.known ++ es)) (connection_for z G).exports
  plain_so z i = by (same_or u u z z)
    where
      own : AllOf (IsPlain (g.names.known ++ es)) (connection_for u G).exports
      own = subst (AllOf (IsPlain (g.names.known ++ es))) (sym here) (all_join (IsPlain (g.names.known ++ es)) (connection_for u g).exports ns (all_plain_on g.names.known es (connection_for u g).exports (was.plain u within)) (new_names_mirror Y.members h g.names o.objects o.promises kinds).1)

      by : ((u ≡ z) × (u ≡ z)) ⊎ (u ≡ z → u ≡ z → ⊥) → AllOf (IsPlain (g.names.known ++ es)) (connection_for z G).exports
      by (inl e) = subst (λ a. AllOf (IsPlain (g.names.known ++ es)) (connection_for a G).exports) e.0 own
      by (inr e) = subst (AllOf (IsPlain (g.names.known ++ es))) (sym (there z (λ a. e a a))) (all_plain_on g.names.known es (connection_for z g).exports (was.plain z i))

  fewer : (z : ℕ) → z < length Y.members → z < length W.members
  fewer z i = let e = many in omega arith

  made_so : OutsiderMirrors y Y play h p (counted kinds n o) G
  unfolding counted grown left_member
  made_so = record {
    objects = let a = was.objects in let b = made.things in omega arith;
    promises = let a = was.promises in let b = made.promises in omega arith;
    messages = let a = was.messages in let b = made.messages in omega arith;
    exports = λ z i. exports_so z (fewer z i);
    plain = λ z i. plain_so z (fewer z i);
    peers = length-set g.connections u (exporting ns (connection_for u g)) ∙ was.peers ∙ sym many;
    idle = made.left ∙ was.idle;
    empty = was.empty;
  }

pub made_mirror : MadeMirror
made_mirror play w y W Y h u r p o g kinds n was within many made others more = made_so play w y W Y h u r p o g kinds n was within many made others more
