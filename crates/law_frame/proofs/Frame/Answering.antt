-- The answer that a message asks for comes to be known right behind what was read of the note.
use Rattle.std.proofs.Common.{◌≡◌, ℕ, Bool, true, false, List, [], ◌∷◌, ◌++◌, Some, None, refl, ap, ◌∙◌}
use Rattle.def_machine.specs.Values.{Words, Value, Ref, Name, Naming, naming, name_of, mail_of, answer_of, host_of}
use Rattle.def_machine.specs.State.{ToTell, Passeds, Delivery, Deliver, Vat, Done, Gives, Stops, Act, ◌>>=◌, ◌>>◌, and_then, look, come, mail, alter, begun}
use Rattle.def_machine.specs.Refs as refs
use Rattle.def_machine.specs.Arrive as arrive
use Rattle.def_machine.specs.Arrive.{New}
use Rattle.def_run.specs.World as world
use Rattle.law_machine.specs.Machine.Steps.{After}
use Rattle.law_machine.proofs.Machine.Keeps.{Keeps, IsKept, IsKeptUnder, keeps_bind, keeps_then, keeps_alter}
use Rattle.law_machine.proofs.Machine.RefsKeeps.{keeps_settle, keeps_send_on}
use Rattle.law_machine.proofs.Machine.ArriveKeeps.{keeps_learn_name, keeps_learn_all}
use Rattle.law_fate.specs.Name.Names.{names_in}
use Rattle.law_fate.proofs.Name.Among.{names_end}
use Rattle.law_frame.specs.Frame.Alike.{names_heard}
use Rattle.law_frame.proofs.Frame.Grow.{starts_same}
use Rattle.law_frame.proofs.Frame.Learning.{Grows, kept, kept_under, Learns, all_learns, name_learns, Begins, begun_by, grows_begins, Answered, SentOn, sent_keeps}

-- whose state it is stays
abbrev SameOwner : Vat Name → Vat Name → Type 0
SameOwner s t = t.number ≡ s.number

owner : IsKept SameOwner
owner = record {
  same = λ s. refl;
  trans = λ {s} {t} {u} h k. k ∙ h;
  fuel = λ s n. refl;
  happened = λ s e. refl;
  activations = λ s. refl;
  thing = λ s t. refl;
  killed = λ s n. refl;
  slot = λ s c. refl;
  written = λ s n y. refl;
  list = λ s vs. refl;
  queue = λ s m. refl;
  outbox = λ s n. refl;
  gift = λ s g. refl;
  opened = λ s p i. refl;
  noticed = λ s w. refl;
  drawn = λ s w. refl;
}

owner_under : (K : Naming Name Name) → IsKeptUnder K SameOwner
owner_under K = record {
  altered = λ s c n. refl;
  came = λ s c h. refl;
  mailed = λ s c. refl;
  promised = λ s. refl;
  messaged = λ s h id. refl;
  lone = λ s id. refl;
}

module _ (word : ℕ → ℕ) (v : ℕ) where
  abbrev K : Naming Name Name
  K = naming word v

  then_answers : {A : Type 0} (ks k1 k2 : List Name) (s : Vat Name) (d : Done Name A) (f : A → Act Name (Unit {0})) → Learns ks k1 s d → After SameOwner s d → ((a : A) → Keeps Grows (f a)) → ((a : A) (t : Vat Name) → names_in t.known ≡ k1 → t.number ≡ s.number → Begins word v k2 (f a t)) → Begins word v k2 (and_then d f)
  unfolding and_then
  then_answers ks k1 k2 s (Gives a t) f l n g h = begun_by word v ks k1 k2 s t l (f a t) ((g a).after t) (λ e. h a t e n)
  then_answers ks k1 k2 s (Stops c t) f l n g h = λ o. absurd (l (names_in t.known) (starts_same (names_in t.known)) o)
  then_answers ks k1 k2 s other f l n g h = tt

  -- the rest of the sending, once the answer is known
  abbrev Rest : ℕ → Words → Name → List (Value Name) → Name → Name → Act Name (Unit {0})
  Rest from verb id args n a = alter K (ToTell from) a >> refs.send_on K (refs.settle K) (record { id = id; target = Ref n; verb = verb; args = args; answer = Some a })

  rest_keeps : (from : ℕ) (verb : Words) (id : Name) (args : List (Value Name)) (n a : Name) → Keeps Grows (Rest from verb id args n a)
  rest_keeps from verb id args n a = let law = kept_under K in keeps_then Grows kept (keeps_alter K Grows law (ToTell from) a) (keeps_send_on K Grows kept law (refs.settle K) (keeps_settle K Grows kept law) (record { id = id; target = Ref n; verb = verb; args = args; answer = Some a }))

  answered_begins : (ks : List Name) (from : ℕ) (verb : Words) (id : Name) (args : List (Value Name)) (n : Name) (t : Vat Name) → names_in t.known ≡ ks → t.number ≡ v → Begins word v (ks ++ answer_of v id ∷ []) (Answered word v from verb id args n t)
  unfolding look come naming name_of begun ◌>>=◌ and_then
  answered_begins ks from verb id args n t e f =
      let a : Name = answer_of t.number id in
      let t1 : Vat Name = record t { known = t.known ++ begun a t.number ∷ [] } in
      grows_begins word v (ks ++ answer_of v id ∷ []) t1 (names_end t.known (begun a t.number) ∙ ap (λ ns. ns ++ a ∷ []) e ∙ ap (λ u. ks ++ answer_of u id ∷ []) f) (Rest from verb id args n a t1) ((rest_keeps from verb id args n a).after t1)

  sent_answers : (ks : List Name) (b : Bool) (from : ℕ) (verb : Words) (id : Name) (args : List (Value Name)) (n : Name) (t : Vat Name) → b ≡ true → names_in t.known ≡ ks → t.number ≡ v → Begins word v (ks ++ answer_of v id ∷ []) (SentOn word v b from verb id args n t)
  sent_answers ks true from verb id args n t b e f = answered_begins ks from verb id args n t e f
  sent_answers ks false from verb id args n t b e f = cc

  deliver_answers : (from : ℕ) (ks : List Name) (d : Delivery Name) (n : Name) (verb : Words) (ys : Passeds Name) (s : Vat Name) → names_in s.known ≡ ks → s.number ≡ v → d.asks ≡ true
      → Begins word v (world.known_after (world.read_all ys ks).known n ++ answer_of v d.message ∷ []) (arrive.arrive_deliver K from (record { message = New d.message (host_of d.message); asks = d.asks; answer = None }) (world.read_name (world.read_all ys ks).known n) verb (world.read_all ys ks).read s)
  unfolding arrive.arrive_deliver arrive.send_on_asked arrive.learn_message mail naming mail_of ◌>>=◌ and_then
  deliver_answers from ks d n verb ys s e f b = let m : Name = d.message in let k1 = (world.read_all ys ks).known in let k2 = world.known_after k1 n in let k3 = k2 ++ answer_of v m ∷ [] in let s1 : Vat Name = record s { mails = s.mails ++ m ∷ [] } in
      then_answers ks k1 k3 s1 (arrive.learn_all K from (world.read_all ys ks).read s1) (λ args. arrive.learn_name K (world.read_name k1 n) >>= (λ x. SentOn word v d.asks from verb m args x)) (all_learns word v from ks ys s1 e)
      ((keeps_learn_all K SameOwner owner (owner_under K) from (world.read_all ys ks).read).after s1)
      (λ args. keeps_bind Grows kept (keeps_learn_name K Grows kept (kept_under K) (world.read_name k1 n)) (λ x. sent_keeps word v d.asks from verb m args x))
      (λ args t g i. then_answers k1 k2 k3 t (arrive.learn_name K (world.read_name k1 n) t) (λ x. SentOn word v d.asks from verb m args x) (name_learns word v k1 n t g)
      ((keeps_learn_name K SameOwner owner (owner_under K) (world.read_name k1 n)).after t)
      (λ x. sent_keeps word v d.asks from verb m args x) (λ x t2 g2 i2. sent_answers k2 d.asks from verb m args x t2 b g2 (i2 ∙ i ∙ f)))

  -- a message that asks for an answer: what was read is known first, and then its answer here
  pub note_answers : (from : ℕ) (ks : List Name) (d : Delivery Name) (n : Name) (verb : Words) (ys : Passeds Name) (s : Vat Name) → names_in s.known ≡ ks → s.number ≡ v → d.asks ≡ true → Begins word v (names_heard ks (Deliver d n verb ys) ++ answer_of v d.message ∷ []) (arrive.arrive K from (world.read_note ks (Deliver d n verb ys)) s)
  unfolding arrive.arrive world.read_note names_heard
  note_answers from ks d n verb ys s e f b = deliver_answers from ks d n verb ys s e f b
