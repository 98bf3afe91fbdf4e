-- What the record of a hostile vat does so as to have names for a note counts its promises and messages on, and draws and puts nothing.
use Rattle.std.proofs.Common.{◌≡◌, ℕ, ◌≤◌, ◌<◌, suc, ◌+◌, Bool, true, false, List, [], ◌∷◌, ◌++◌, refl, sym, ap, ◌∙◌, map, append_assoc, arith}
use Rattle.def_machine.specs.Values.{Name, host_of, naming, name_of, mail_of, answer_of}
use Rattle.def_machine.specs.State.{Note, Deliver, Open, Ask, SettledTo, Elsewhere, Shorten, Vat, Done, Gives, Throws, Ejects, Stops, Act, ◌>>◌, give, new_thing, new_promise, new_message, new_lone_message, come, and_then}
use Rattle.def_machine.specs.Arrive as arrive
use Rattle.def_machine.specs.Arrive.{Old, New}
use Rattle.def_run.specs.World as world
use Rattle.def_run.specs.World.{Script, names, names_of}
use Rattle.def_run.specs.Deeds.{Deed, NewObject, NewPromise, NewMessage, NewLone, Learns, perform, perform_all}
use Rattle.def_hostile.specs.Hostile.{makes_new, message_deed, message_deeds, names_in_note, deeds_for}

pub record Prepared (a b : Vat Name) (p m : ℕ) : Type 0 where
  pub promises : a.promises + p ≤ b.promises
  pub messages : a.messages + m ≤ b.messages
  pub drawn : b.drawn ≡ a.drawn
  pub outbox : b.outbox ≡ a.outbox

-- how many promises, and how many messages, these make
unfoldable pub promises_in : List Deed → ℕ
promises_in [] = 0
promises_in (NewPromise ∷ ds) = suc (promises_in ds)
promises_in (d ∷ ds) = promises_in ds

unfoldable pub messages_in : List Deed → ℕ
messages_in [] = 0
messages_in (NewMessage h ∷ ds) = suc (messages_in ds)
messages_in (NewLone ∷ ds) = suc (messages_in ds)
messages_in (d ∷ ds) = messages_in ds

given : (a x b : Vat Name) (p m : ℕ) → Prepared a x p m → Gives (tt {0}) x ≡ Gives (tt {0}) b → Prepared a b p m
given a x b p m h e = let same : x ≡ b = cc in rw same at h

pub then_gives : (d : Done Name (Unit {0})) (f : Act Name (Unit {0})) (t : Vat Name) → and_then d (λ _. f) ≡ Gives tt t → (r : Vat Name) × (d ≡ Gives tt r) × (f r ≡ Gives tt t)
unfolding and_then
then_gives (Gives a r) f t e = (r, refl, e)
then_gives (Throws p r) f t e = cc
then_gives (Ejects i x r) f t e = cc
then_gives (Stops c r) f t e = cc

pub on : (a b c : Vat Name) (p m q k : ℕ) → Prepared a b p m → Prepared b c q k → Prepared a c (p + q) (m + k)
on a b c p m q k x y = let i : a.promises + p ≤ b.promises = x.promises in let j : b.promises + q ≤ c.promises = y.promises in let f : a.messages + m ≤ b.messages = x.messages in let g : b.messages + k ≤ c.messages = y.messages in
    record { promises = omega arith; messages = omega arith; drawn = y.drawn ∙ x.drawn; outbox = y.outbox ∙ x.outbox }

module _ (script : Script) (v : ℕ) where
  learnt : (n : Name) (a b : Vat Name) (c : Bool) → and_then {B = Unit {0}} (arrive.learn_name (names script v) (elim c [ true ↦ Old n | false ↦ New n (host_of n) ]) a) (λ _. give (tt {0})) ≡ Gives (tt {0}) b → Prepared a b 0 0
  unfolding and_then give arrive.learn_name come names naming name_of
  learnt n a b true e = given a a b 0 0 (record { promises = omega arith; messages = omega arith; drawn = refl; outbox = refl }) e
  learnt n a b false e = given a _ b 0 0 (record { promises = omega arith; messages = omega arith; drawn = refl; outbox = refl }) e

  pub learns : (n : Name) (a b : Vat Name) → perform script v (Learns n) a ≡ Gives tt b → Prepared a b 0 0
  unfolding perform names_of ◌>>◌ world.read_name
  learns n a b e = learnt n a b _ e

  one : (d : Deed) (a b : Vat Name) → perform script v d a ≡ Gives tt b → Prepared a b (promises_in (d ∷ [])) (messages_in (d ∷ []))
  unfolding perform names ◌>>◌ and_then new_thing new_promise new_message new_lone_message give naming name_of mail_of answer_of promises_in messages_in
  one NewObject a b e = given a _ b 0 0 (record { promises = omega arith; messages = omega arith; drawn = refl; outbox = refl }) e
  one NewPromise a b e = given a _ b 1 0 (record { promises = omega arith; messages = omega arith; drawn = refl; outbox = refl }) e
  one (NewMessage u) a b e = given a _ b 0 1 (record { promises = omega arith; messages = omega arith; drawn = refl; outbox = refl }) e
  one NewLone a b e = given a _ b 0 1 (record { promises = omega arith; messages = omega arith; drawn = refl; outbox = refl }) e
  one (Learns n) a b e = learns n a b e

  first_promises : (d : Deed) (ds : List Deed) → promises_in (d ∷ ds) ≡ promises_in (d ∷ []) + promises_in ds
  unfolding promises_in
  first_promises NewPromise ds = omega arith
  first_promises NewObject ds = omega arith
  first_promises (NewMessage h) ds = omega arith
  first_promises NewLone ds = omega arith
  first_promises (Learns n) ds = omega arith

  first_messages : (d : Deed) (ds : List Deed) → messages_in (d ∷ ds) ≡ messages_in (d ∷ []) + messages_in ds
  unfolding messages_in
  first_messages NewPromise ds = omega arith
  first_messages NewObject ds = omega arith
  first_messages (NewMessage h) ds = omega arith
  first_messages NewLone ds = omega arith
  first_messages (Learns n) ds = omega arith

  pub prepared : (ds : List Deed) (a b : Vat Name) → perform_all script v ds a ≡ Gives tt b → Prepared a b (promises_in ds) (messages_in ds)
  unfolding perform_all ◌>>◌ give promises_in messages_in
  prepared [] a b e = given a a b 0 0 (record { promises = omega arith; messages = omega arith; drawn = refl; outbox = refl }) e
  prepared (d ∷ ds) a b e = let r = then_gives (perform script v d a) (perform_all script v ds) b e in let x : Prepared a r.0 (promises_in (d ∷ [])) (messages_in (d ∷ [])) = one d a r.0 r.1 in
      rw (sym (first_promises d ds), sym (first_messages d ds)) at (on a r.0 b (promises_in (d ∷ [])) (messages_in (d ∷ [])) (promises_in ds) (messages_in ds) x (prepared ds r.0 b r.2))

-- ---- the deeds for a note

unfoldable pub promises_of_kinds : List Bool → ℕ
promises_of_kinds [] = 0
promises_of_kinds (true ∷ ks) = promises_of_kinds ks
promises_of_kinds (false ∷ ks) = suc (promises_of_kinds ks)

-- the deeds in their order
pub whole : (u : ℕ) (ks : List Bool) (n : Note Name) → deeds_for u ks n ≡ map makes_new ks ++ (message_deeds u n ++ map Learns (names_in_note n))
unfolding deeds_for
whole u ks n = append_assoc (map makes_new ks) (message_deeds u n) (map Learns (names_in_note n))

promises_behind : (ks : List Bool) (ds : List Deed) → promises_of_kinds ks ≤ promises_in (map makes_new ks ++ ds)
unfolding promises_in promises_of_kinds makes_new
promises_behind [] ds = omega arith
promises_behind (true ∷ ks) ds = promises_behind ks ds
promises_behind (false ∷ ks) ds = let l : promises_of_kinds ks ≤ promises_in (map makes_new ks ++ ds) = promises_behind ks ds in omega arith

pub promises_for : (u : ℕ) (ks : List Bool) (n : Note Name) → promises_of_kinds ks ≤ promises_in (deeds_for u ks n)
promises_for u ks n = rw (whole u ks n) (promises_behind ks _)

messages_behind : (ks : List Bool) (ds : List Deed) → messages_in ds ≤ messages_in (map makes_new ks ++ ds)
unfolding messages_in makes_new
messages_behind [] ds = omega arith
messages_behind (true ∷ ks) ds = messages_behind ks ds
messages_behind (false ∷ ks) ds = messages_behind ks ds

message_first : (u : ℕ) (b : Bool) (ds : List Deed) → 0 < messages_in (message_deed u b ∷ ds)
unfolding messages_in message_deed
message_first u true ds = omega arith
message_first u false ds = omega arith

-- a message is made for one that is sent
abbrev pub HasMessage : Note Name → ℕ → Type 0
HasMessage (Deliver d n verb ys) m = 0 < m
HasMessage other m = Unit {0}

has_message : (n : Note Name) (x y : ℕ) → x ≡ y → HasMessage n x → HasMessage n y
has_message n x y e h = rw e at h

message_behind : (u : ℕ) (ks : List Bool) (n : Note Name) → HasMessage n (messages_in (map makes_new ks ++ (message_deeds u n ++ map Learns (names_in_note n))))
unfolding message_deeds
message_behind u ks (Deliver d n verb ys) = let ds : List Deed = message_deed u d.asks ∷ map Learns (names_in_note (Deliver d n verb ys)) in let l : 0 < messages_in ds = message_first u d.asks _ in let k : messages_in ds ≤ messages_in (map makes_new ks ++ ds) = messages_behind ks ds in
    let m : 0 < messages_in (map makes_new ks ++ ds) = omega arith in m
message_behind u ks (Open i n) = tt
message_behind u ks (Ask p i n) = tt
message_behind u ks (SettledTo n y) = tt
message_behind u ks (Elsewhere n c) = tt
message_behind u ks (Shorten n c i) = tt

pub messages_for : (u : ℕ) (ks : List Bool) (n : Note Name) → HasMessage n (messages_in (deeds_for u ks n))
messages_for u ks n = has_message n _ (messages_in (deeds_for u ks n)) (sym (ap messages_in (whole u ks n))) (message_behind u ks n)
