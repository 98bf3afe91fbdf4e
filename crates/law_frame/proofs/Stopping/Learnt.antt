-- What a vat learns from a note whose names were made: no message comes to be known, and what it carries is a message.
use Rattle.std.proofs.Common.{ℕ, Bool, true, false, List, [], ◌∷◌, ◌++◌, Some, None, refl, if◌then◌else◌}
use Rattle.def_machine.specs.Values.{Words, Value, Null, Flag, Number, Letter, Text, Prim, Broken, Items, Ref, Name, Gift, Sent, Naming, IsAnswer, IsGift, IsLearnt, IsCarried, host_of, answer_of, mail_of, name_of, naming}
use Rattle.def_machine.specs.State.{Passed, Passeds, Plain, AGift, Many, NoMore, More, Note, Deliver, Open, Ask, SettledTo, Elsewhere, Shorten, Change, ToTell, ListCame, Vat, Act, ◌>>=◌, and_then, give, with_change, alter, come, mail, begun, is_in}
use Rattle.def_machine.specs.Refs as refs
use Rattle.def_machine.specs.Arrive as arrive
use Rattle.def_machine.specs.Arrive.{Old, New}
use Rattle.def_run.specs.World as world
use Rattle.law_machine.proofs.Machine.Keeps.{Keeps, keeps_bind, keeps_then, keeps_if, keeps_give, keeps_look, keeps_list, keeps_tell, keeps_out}
use Rattle.law_fate.specs.Name.Names.{Bit, Named, Mail, IsMessageName, IsMessageMade, WasMade, IsMade, ValueOk, PassedOk, PassedsOk, NoteOk}
use Rattle.law_fate.proofs.Name.Tracked.{names_change}
use Rattle.law_frame.proofs.Stopping.Parted.{IsNoMessage, Parted, stays, grown, posted, base, answered, settles, sends, arrives_closed}

-- what a name, and the name of a message, is
abbrev pub IsOfKind : Bit Name → Type 0
IsOfKind (Named n) = IsNoMessage n
IsOfKind (Mail n) = IsMessageName n
IsOfKind other = Unit {0}

no_message : (vats : List (Vat Name)) (d : List ℕ) (n : Name) → WasMade vats d n → IsNoMessage n
no_message vats d (Sent m) h = absurd h
no_message vats d other h = tt

a_message : (vats : List (Vat Name)) (n : Name) → IsMessageMade vats n → IsMessageName n
a_message vats (Sent m) h = tt
a_message vats other h = absurd h

-- what was made is of its kind
pub kind_made : (vats : List (Vat Name)) (d : List ℕ) (b : Bit Name) → IsMade vats d b → IsOfKind b
kind_made vats d (Named n) h = no_message vats d n h
kind_made vats d (Mail n) h = a_message vats n h
kind_made vats d other h = tt

after_given : {A B : Type 0} (a : A) (f : A → Act Name B) → Keeps Parted (give a >>= f) → Keeps Parted (f a)
unfolding give ◌>>=◌ and_then
after_given a f h = record { after = λ s. h.after s }

module _ (word : ℕ → ℕ) (v : ℕ) where
  abbrev K : Naming Name Name
  K = naming word v

  abbrev P : {A : Type 0} → Act Name A → Type 0
  P m = Keeps Parted m

  -- ---- single names

  come_learnt : (n : Name) (h : ℕ) → IsNoMessage n → P (come K (IsLearnt n) h)
  unfolding come naming name_of
  come_learnt n h p = record { after = λ s. grown s (record s { known = s.known ++ begun n h ∷ [] }) n h p refl refl }

  come_gift : (h i : ℕ) → P (come K (IsGift h i) h)
  unfolding come naming name_of
  come_gift h i = record { after = λ s. grown s (record s { known = s.known ++ begun (Gift h i) h ∷ [] }) (Gift h i) h tt refl refl }

  come_answer : (h : ℕ) (m : Name) → P (come K (IsAnswer h m) h)
  unfolding come naming name_of
  come_answer h m = record { after = λ s. grown s (record s { known = s.known ++ begun (answer_of h m) h ∷ [] }) (answer_of h m) h (answered h m) refl refl }

  mail_carried : (m : Name) → IsMessageName m → P (mail K (IsCarried m))
  unfolding mail naming mail_of
  mail_carried m p = record { after = λ s. posted s (record s { mails = s.mails ++ m ∷ [] }) m p refl refl }

  alters : (c : Change Name) (n : Name) → P (alter K c n)
  unfolding alter
  alters c n = record { after = λ s. stays s (record s { known = with_change K c n s.known }) (names_change K c n s.known) refl }

  -- ---- learning

  name_either : (n : Name) (b : Bool) → IsNoMessage n → P (arrive.learn_name K (elim b [ true ↦ Old n | false ↦ New n (host_of n) ]))
  unfolding arrive.learn_name
  name_either n true p = keeps_give Parted base n
  name_either n false p = come_learnt n (host_of n) p

  name_learnt : (ks : List Name) (n : Name) → IsNoMessage n → P (arrive.learn_name K (world.read_name ks n))
  unfolding world.read_name
  name_learnt ks n p = name_either n (world.is_old ks n) p

  value_learnt : (ks : List Name) (y : Value Name) → ValueOk IsOfKind y → P (arrive.learn_value K (world.read_value ks y).read)
  unfolding world.read_value arrive.learn_value
  value_learnt ks Null h = keeps_give Parted base Null
  value_learnt ks (Flag b) h = keeps_give Parted base (Flag b)
  value_learnt ks (Number z) h = keeps_give Parted base (Number z)
  value_learnt ks (Letter c) h = keeps_give Parted base (Letter c)
  value_learnt ks (Text t) h = keeps_give Parted base (Text t)
  value_learnt ks (Prim i) h = keeps_give Parted base (Prim i)
  value_learnt ks (Broken t) h = keeps_give Parted base (Broken t)
  value_learnt ks (Items i) h = keeps_give Parted base (Items i)
  value_learnt ks (Ref n) h = keeps_bind Parted base (name_learnt ks n h) (λ m. keeps_give Parted base (Ref m))

  asked : (p h i : ℕ) (n : Name) → P (arrive.ask_for K p h i n)
  unfolding arrive.ask_for
  asked p h i n = keeps_bind Parted base (keeps_look Parted base (λ s. is_in h s.noticed)) (λ b. keeps_if Parted base b (settles word v n _) (keeps_out Parted base h (Ask p i n)))

  gift_learnt : (p h i : ℕ) → P (arrive.learn_gift K p h i)
  unfolding arrive.learn_gift
  gift_learnt p h i = keeps_bind Parted base (come_gift h i) (λ n. keeps_then Parted base (asked p h i n) (keeps_give Parted base (Ref n)))

  list_made : (vs : List (Value Name)) → P (arrive.make_list K vs)
  unfolding arrive.make_list
  list_made vs = keeps_bind Parted base (keeps_list Parted base vs) (λ k. keeps_then Parted base (keeps_tell Parted base (ListCame k vs)) (keeps_give Parted base (Items k)))

  mutual
    unfolding arrive.learn arrive.learn_all world.read_passed world.read_all world.plain_read world.many_read world.more_read

    learnt : (from : ℕ) (y : Passed Name) (ks : List Name) → PassedOk IsOfKind y → P (arrive.learn K from (world.read_passed y ks).read)
    learnt from (Plain y) ks h = value_learnt ks y h
    learnt from (AGift g i) ks h = gift_learnt from g i
    learnt from (Many ys) ks h = keeps_bind Parted base (all_learnt from ys ks h) (λ vs. list_made vs)

    all_learnt : (from : ℕ) (ys : Passeds Name) (ks : List Name) → PassedsOk IsOfKind ys → P (arrive.learn_all K from (world.read_all ys ks).read)
    all_learnt from NoMore ks h = keeps_give Parted base []
    all_learnt from (More y ys) ks h = keeps_bind Parted base (learnt from y ks h.0) (λ x. keeps_bind Parted base (all_learnt from ys (world.read_passed y ks).known h.1) (λ xs. keeps_give Parted base (x ∷ xs)))

  -- ---- whole notes

  answered_on : (from : ℕ) (id n : Name) (verb : Words) (args : List (Value Name)) → P (arrive.send_on_asked K from id n verb args)
  unfolding arrive.send_on_asked
  answered_on from id n verb args = keeps_bind Parted base (keeps_look Parted base (λ s. s.number)) (λ u. keeps_bind Parted base (come_answer u id) (λ a. keeps_then Parted base (alters (ToTell from) a) (sends word v (record { id = id; target = Ref n; verb = verb; args = args; answer = Some a }))))

  sent_on : (b : Bool) (from : ℕ) (id n : Name) (verb : Words) (args : List (Value Name)) → P (if b then arrive.send_on_asked K from id n verb args else refs.send_on K (refs.settle K) (record { id = id; target = Ref n; verb = verb; args = args; answer = None }))
  sent_on b from id n verb args = keeps_if Parted base b (answered_on from id n verb args) (sends word v (record { id = id; target = Ref n; verb = verb; args = args; answer = None }))

  pub arrives : (from : ℕ) (ks : List Name) (n : Note Name) → NoteOk IsOfKind n → P (arrive.arrive K from (world.read_note ks n))
  unfolding arrive.arrive world.read_note arrive.arrive_deliver arrive.arrive_open arrive.arrive_settled arrive.arrive_elsewhere arrive.arrive_shorten arrive.learn_message arrive.learn_name
  arrives from ks (Deliver d n verb ys) h = keeps_bind Parted base (mail_carried d.message h.0) (λ id. keeps_bind Parted base (all_learnt from ys ks h.2) (λ args. keeps_bind Parted base (name_learnt (world.read_all ys ks).known n h.1) (λ x. sent_on d.asks from id x verb args)))
  arrives from ks (Open i n) h = keeps_bind Parted base (name_learnt ks n h.1) (λ y. after_given y _ (arrives_closed word v from (Open i (Old y))))
  arrives from ks (Ask p i n) h = arrives_closed word v from (Ask p i (Old n))
  arrives from ks (SettledTo n y) h = keeps_bind Parted base (name_learnt ks n h.0) (λ x. keeps_bind Parted base (learnt from y (world.known_after ks n) h.1) (λ z. settles word v x z))
  arrives from ks (Elsewhere n c) h = keeps_bind Parted base (name_learnt ks n h.0) (λ x. after_given x _ (arrives_closed word v from (Elsewhere (Old x) c)))
  arrives from ks (Shorten n c i) h = keeps_bind Parted base (name_learnt ks n h.0) (λ x. after_given x _ (arrives_closed word v from (Shorten (Old x) c i)))
