-- The record of a hostile vat knows each name in what it says, and has had its message.
use Rattle.std.proofs.Common.{◌≡◌, ℕ, Bool, true, false, List, [], ◌∷◌, ◌++◌, Some, refl, sym, subst, ◌∙◌, map}
use Rattle.def_machine.specs.Values.{Value, Null, Flag, Number, Letter, Text, Prim, Broken, Items, Ref, Name, Root, Object, Promise, Answer, Gift, Sent, Msg, host_of, naming, name_of, mail_of, answer_of}
use Rattle.def_machine.specs.State.{Known, Passed, Passeds, Plain, AGift, Many, NoMore, More, Note, Deliver, Open, Ask, SettledTo, Elsewhere, Shorten, Vat, Done, Gives, ◌>>◌, and_then, give, new_thing, new_promise, new_message, new_lone_message, come, begun}
use Rattle.def_machine.specs.Arrive as arrive
use Rattle.def_machine.specs.Arrive.{Incoming, Old, New}
use Rattle.def_op.specs.Frames as op
use Rattle.def_op.specs.Frames.{Operation}
use Rattle.def_run.specs.Connections.{Connection, Heard}
use Rattle.def_run.specs.Wire as wire
use Rattle.def_run.specs.World as world
use Rattle.def_run.specs.World.{Script, is_old, names, names_of, readied}
use Rattle.def_run.specs.Deeds.{Deed, NewObject, NewPromise, NewMessage, NewLone, Learns, perform, perform_all}
use Rattle.def_hostile.specs.Hostile.{Play, makes_new, message_deed, message_deeds, names_value, names_passed, names_all, names_in_note, deeds_for, completed, name_in, newcomers, read_op}
use Rattle.def_machine.specs.Maps as maps
use Rattle.law_fate.specs.Name.Names.{Bit, AllOf, IsAmong, IsHad, IsKnownIn, ValueOk, PassedOk, PassedsOk, NoteOk, names_in}
use Rattle.law_fate.proofs.Name.Among.{among_more, among_last, names_end}
use Rattle.law_fate.proofs.Name.SameNames.{old_known}
use Rattle.law_fate.proofs.Name.Tracked.{known_among}
use Rattle.law_lawful.proofs.Heard.{SaysOf, note_says}
use Rattle.law_lawful.proofs.Tables.{any_op}
use Rattle.law_lawful.specs.Lawful.{AnyWord, WhatIsSpokenIsKnown}
use Rattle.law_lawful.proofs.Prepared.{then_gives, whole}

-- what is known and what was had stays so
record Keeps (a b : Vat Name) : Type 0 where
  pub names : (n : Name) → IsAmong n (names_in a.known) → IsAmong n (names_in b.known)
  pub mails : (n : Name) → IsAmong n a.mails → IsAmong n b.mails

keeps_all : (a : Vat Name) → Keeps a a
keeps_all a = record { names = λ n i. i; mails = λ n i. i }

keeps_on : (a b c : Vat Name) → Keeps a b → Keeps b c → Keeps a c
keeps_on a b c x y = record { names = λ n i. y.names n (x.names n i); mails = λ n i. y.mails n (x.mails n i) }

keeps_to : (a x b : Vat Name) → Keeps a x → Gives (tt {0}) x ≡ Gives (tt {0}) b → Keeps a b
keeps_to a x b h e = let same : x ≡ b = cc in rw same at h

more_known : (a : Vat Name) (k : Known Name) (n : Name) → IsAmong n (names_in a.known) → IsAmong n (names_in (a.known ++ k ∷ []))
more_known a k n i = rw (sym (names_end a.known k)) at (among_more n (names_in a.known) k.name i)

last_known : (a : Vat Name) (k : Known Name) → IsAmong k.name (names_in (a.known ++ k ∷ []))
last_known a k = rw (sym (names_end a.known k)) at (among_last (names_in a.known) k.name)

known_up : (ns ms : List Name) → ((n : Name) → IsAmong n ns → IsAmong n ms) → (n : Name) → IsKnownIn ns n → IsKnownIn ms n
known_up ns ms f (Object w i) h = tt
known_up ns ms f (Root w) h = f (Root w) h
known_up ns ms f (Promise w i) h = f (Promise w i) h
known_up ns ms f (Answer w m) h = f (Answer w m) h
known_up ns ms f (Gift w i) h = f (Gift w i) h
known_up ns ms f (Sent m) h = f (Sent m) h

counted : (a x b : Vat Name) → x.messages ≡ a.messages → Gives (tt {0}) x ≡ Gives (tt {0}) b → b.messages ≡ a.messages
counted a x b h e = let same : x ≡ b = cc in subst (λ (z : Vat Name). z.messages ≡ a.messages) same h

had : (m : Name) (x b : Vat Name) → IsAmong m x.mails → Gives (tt {0}) x ≡ Gives (tt {0}) b → IsAmong m b.mails
had m x b h e = let same : x ≡ b = cc in subst (λ (z : Vat Name). IsAmong m z.mails) same h

module _ (script : Script) (v : ℕ) where
  -- new names make no message
  made_one : (k : Bool) (a b : Vat Name) → perform script v (makes_new k) a ≡ Gives tt b → b.messages ≡ a.messages
  unfolding makes_new perform names ◌>>◌ and_then new_thing new_promise give naming name_of
  made_one true a b e = counted a _ b refl e
  made_one false a b e = counted a _ b refl e

  made_all : (ks : List Bool) (a b : Vat Name) → perform_all script v (map makes_new ks) a ≡ Gives tt b → b.messages ≡ a.messages
  unfolding perform_all ◌>>◌ give
  made_all [] a b e = counted a a b refl e
  made_all (k ∷ ks) a b e = let r = then_gives (perform script v (makes_new k) a) (perform_all script v (map makes_new ks)) b e in made_all ks r.0 b r.2 ∙ made_one k a r.0 r.1

  sent_one : (u : ℕ) (k : Bool) (a b : Vat Name) → perform script v (message_deed u k) a ≡ Gives tt b → IsAmong (Sent (record { sender = v; number = a.messages })) b.mails
  unfolding message_deed perform names ◌>>◌ and_then new_message new_lone_message give naming mail_of
  sent_one u true a b e = had _ _ b (among_last a.mails (Sent (record { sender = v; number = a.messages }))) e
  sent_one u false a b e = had _ _ b (among_last a.mails (Sent (record { sender = v; number = a.messages }))) e

  learnt : (n : Name) (a b : Vat Name) (c : Bool) → is_old (names_in a.known) n ≡ c → and_then {B = Unit {0}} (arrive.learn_name (names script v) (elim c [ true ↦ Old n | false ↦ New n (host_of n) ]) a) (λ _. give (tt {0})) ≡ Gives (tt {0}) b → Keeps a b × IsKnownIn (names_in b.known) n
  unfolding and_then give arrive.learn_name come names naming name_of begun
  learnt n a b true i e = let same : a ≡ b = cc in (subst (λ z. Keeps a z) same (keeps_all a), subst (λ z. IsKnownIn (names_in z.known) n) same (old_known (names_in a.known) n i))
  learnt n a b false i e = let x : Vat Name = record a { known = a.known ++ begun n (host_of n) ∷ [] } in let same : x ≡ b = cc in
      (subst (λ z. Keeps a z) same (record { names = λ m j. more_known a (begun n (host_of n)) m j; mails = λ m j. j }), subst (λ z. IsKnownIn (names_in z.known) n) same (known_among (names_in x.known) n (last_known a (begun n (host_of n)))))

  learns : (n : Name) (a b : Vat Name) → perform script v (Learns n) a ≡ Gives tt b → Keeps a b × IsKnownIn (names_in b.known) n
  unfolding perform names_of ◌>>◌ world.read_name
  learns n a b e = learnt n a b (is_old (names_in a.known) n) refl e

  keeps : (d : Deed) (a b : Vat Name) → perform script v d a ≡ Gives tt b → Keeps a b
  unfolding perform names names_of ◌>>◌ and_then new_thing new_promise new_message new_lone_message give naming name_of mail_of answer_of
  keeps NewObject a b e = keeps_to a _ b (record { names = λ n i. i; mails = λ n i. i }) e
  keeps NewPromise a b e = keeps_to a _ b (record { names = λ n i. more_known a (begun (Promise v a.promises) a.number) n i; mails = λ n i. i }) e
  keeps (NewMessage u) a b e = let m : Msg = record { sender = v; number = a.messages } in keeps_to a _ b (record { names = λ n i. more_known a (begun (Answer u m) u) n i; mails = λ n i. among_more n a.mails (Sent m) i }) e
  keeps NewLone a b e = keeps_to a _ b (record { names = λ n i. i; mails = λ n i. among_more n a.mails (Sent (record { sender = v; number = a.messages })) i }) e
  keeps (Learns n) a b e = (learns n a b e).0

  all_keep : (ds : List Deed) (a b : Vat Name) → perform_all script v ds a ≡ Gives tt b → Keeps a b
  unfolding perform_all ◌>>◌ give
  all_keep [] a b e = keeps_to a a b (keeps_all a) e
  all_keep (d ∷ ds) a b e = let r = then_gives (perform script v d a) (perform_all script v ds) b e in keeps_on a r.0 b (keeps d a r.0 r.1) (all_keep ds r.0 b r.2)

  both : (d : Done Name (Unit {0})) (c z : Vat Name) (ds : List Deed) → d ≡ Gives (tt {0}) c → perform_all script v ds c ≡ Gives (tt {0}) z → and_then d (λ _. perform_all script v ds) ≡ Gives (tt {0}) z
  unfolding and_then
  both d c z ds e f = rw e f

  -- these deeds, and then those
  parts : (xs ys : List Deed) (a b : Vat Name) → perform_all script v (xs ++ ys) a ≡ Gives tt b → (c : Vat Name) × (perform_all script v xs a ≡ Gives tt c) × (perform_all script v ys c ≡ Gives tt b)
  unfolding perform_all ◌>>◌ give
  parts [] ys a b e = (a, refl, e)
  parts (d ∷ xs) ys a b e = let r = then_gives (perform script v d a) (perform_all script v (xs ++ ys)) b e in let p = parts xs ys r.0 b r.2 in (p.0, both (perform script v d a) r.0 p.0 xs r.1 p.1, p.2)

  all_learnt : (ns : List Name) (a b : Vat Name) → perform_all script v (map Learns ns) a ≡ Gives tt b → AllOf (IsKnownIn (names_in b.known)) ns
  unfolding perform_all ◌>>◌ give
  all_learnt [] a b e = tt
  all_learnt (n ∷ ns) a b e = let r = then_gives (perform script v (Learns n) a) (perform_all script v (map Learns ns)) b e in let k = learns n a r.0 r.1 in let later : Keeps r.0 b = all_keep (map Learns ns) r.0 b r.2 in
      (known_up (names_in r.0.known) (names_in b.known) later.names n k.1, all_learnt ns r.0 b r.2)

  -- the message of what is sent
  abbrev pub IsMail : Note Name → Name → Type 0
  IsMail (Deliver d n verb ys) m = d.message ≡ m
  IsMail other m = Unit {0}

  abbrev MailHad : List Name → Note Name → Type 0
  MailHad ms (Deliver d n verb ys) = IsAmong d.message ms
  MailHad ms other = Unit {0}

  mail_of_deeds : (u : ℕ) (n : Note Name) (a c b : Vat Name) → perform_all script v (message_deeds u n) a ≡ Gives tt c → Keeps c b → IsMail n (Sent (record { sender = v; number = a.messages })) → MailHad b.mails n
  unfolding message_deeds perform_all ◌>>◌ give
  mail_of_deeds u (Deliver d n verb ys) a c b e k i = let r = then_gives (perform script v (message_deed u d.asks) a) (λ z. Gives tt z) c e in let later : IsAmong (Sent (record { sender = v; number = a.messages })) b.mails = k.mails _ (had _ r.0 c (sent_one u d.asks a r.0 r.1) r.2) in subst (λ m. IsAmong m b.mails) (sym i) later
  mail_of_deeds u (Open i n) a c b e k j = tt
  mail_of_deeds u (Ask p i n) a c b e k j = tt
  mail_of_deeds u (SettledTo n y) a c b e k j = tt
  mail_of_deeds u (Elsewhere n h) a c b e k j = tt
  mail_of_deeds u (Shorten n h i) a c b e k j = tt

  -- ---- names in a note

  split : (P : Name → Type 0) (xs ys : List Name) → AllOf P (xs ++ ys) → AllOf P xs × AllOf P ys
  split P [] ys h = (tt, h)
  split P (x ∷ xs) ys h = let r = split P xs ys h.1 in ((h.0, r.0), r.1)

  module _ (ns ms : List Name) where
    value_had : (y : Value Name) → AllOf (IsKnownIn ns) (names_value y) → ValueOk (IsHad ns ms) y
    unfolding names_value
    value_had (Ref n) h = h.0
    value_had Null h = tt
    value_had (Flag b) h = tt
    value_had (Number z) h = tt
    value_had (Letter x) h = tt
    value_had (Text t) h = tt
    value_had (Prim n) h = tt
    value_had (Broken p) h = tt
    value_had (Items k) h = tt

    mutual
      unfolding names_passed names_all

      passed_had : (y : Passed Name) → AllOf (IsKnownIn ns) (names_passed y) → PassedOk (IsHad ns ms) y
      passed_had (Plain y) h = value_had y h
      passed_had (AGift g i) h = (tt, tt)
      passed_had (Many ys) h = all_had ys h

      all_had : (ys : Passeds Name) → AllOf (IsKnownIn ns) (names_all ys) → PassedsOk (IsHad ns ms) ys
      all_had NoMore h = tt
      all_had (More y ys) h = let r = split (IsKnownIn ns) (names_passed y) (names_all ys) h in (passed_had y r.0, all_had ys r.1)

    note_had : (n : Note Name) → AllOf (IsKnownIn ns) (names_in_note n) → MailHad ms n → NoteOk (IsHad ns ms) n
    unfolding names_in_note
    note_had (Deliver d n verb ys) h m = (m, h.0, all_had ys h.1)
    note_had (Open i n) h m = (tt, h.0)
    note_had (Ask p i n) h m = (tt, h.0)
    note_had (SettledTo n y) h m = (h.0, passed_had y h.1)
    note_had (Elsewhere n c) h m = (h.0, tt)
    note_had (Shorten n c i) h m = (h.0, tt)

  pub deeds_had : (u : ℕ) (ks : List Bool) (n : Note Name) (a b : Vat Name) → perform_all script v (deeds_for u ks n) a ≡ Gives tt b → IsMail n (Sent (record { sender = v; number = a.messages })) → NoteOk (IsHad (names_in b.known) b.mails) n
  deeds_had u ks n a b e i = let p = parts (map makes_new ks) (message_deeds u n ++ map Learns (names_in_note n)) a b (subst (λ ds. perform_all script v ds a ≡ Gives tt b) (whole u ks n) e) in let q = parts (message_deeds u n) (map Learns (names_in_note n)) p.0 b p.2 in
      let same : p.0.messages ≡ a.messages = made_all ks a p.0 p.1 in
      note_had (names_in b.known) b.mails n (all_learnt (names_in_note n) q.0 b q.2) (mail_of_deeds u n p.0 q.0 b q.1 (all_keep (map Learns (names_in_note n)) q.0 b q.2) (subst (λ k. IsMail n (Sent (record { sender = v; number = k }))) (sym same) i))

-- ---- what is spoken

-- nothing is asked of names
abbrev Any : Name → Type 0
Any n = Unit {0}

abbrev AnyBit : Bit Name → Type 0
AnyBit b = Unit {0}

all_any : (ns : List Name) → AllOf Any ns
all_any [] = tt
all_any (n ∷ ns) = (tt, all_any ns)

says_mail : (script : Script) (h u : ℕ) (message : Name) (o : Operation) (m : Note Name) → SaysOf Any Any AnyBit u h message o m → IsMail script h m message
says_mail script h u message (op.Deliver q d verb ds) (Deliver e n v ys) r = r.0
says_mail script h u message (op.DeliverOnly d verb ds) (Deliver e n v ys) r = r.0
says_mail script h u message (op.Provide d w) (Deliver e n v ys) r = absurd r
says_mail script h u message (op.Accept q p w) (Deliver e n v ys) r = absurd r
says_mail script h u message (op.Resolve d x) (Deliver e n v ys) r = absurd r
says_mail script h u message (op.Shorten d w) (Deliver e n v ys) r = absurd r
says_mail script h u message o (Open i n) r = tt
says_mail script h u message o (Ask p i n) r = tt
says_mail script h u message o (SettledTo n y) r = tt
says_mail script h u message o (Elsewhere n c) r = tt
says_mail script h u message o (Shorten n c i) r = tt

completed_mail : (play : Play) (h u : ℕ) (reader : Vat Name) (message : Name) (m : Note Name) → IsMail play.script h m message → IsMail play.script h (completed play u reader m) message
unfolding completed
completed_mail play h u reader message (Deliver e n v ys) r = r
completed_mail play h u reader message (Open i n) r = tt
completed_mail play h u reader message (Ask p i n) r = tt
completed_mail play h u reader message (SettledTo n y) r = tt
completed_mail play h u reader message (Elsewhere n c) r = tt
completed_mail play h u reader message (Shorten n c i) r = tt

reads_mail : (play : Play) (script : Script) (h u : ℕ) (c : Connection Name) (new : List Name) (message : Name) (o : Operation) (y : Heard Name (Note (Incoming Name Name))) → read_op play h u c new message o ≡ Some y → IsMail script h (maps.note name_in y.read) message
unfolding read_op newcomers
reads_mail play script h u c new message o y e = says_mail script h u message o _ (note_says AnyWord Any Any Any AnyBit wire.is_object u h (newcomers h (c.imports ++ new) message) c (all_any c.exports) (all_any c.answers) (all_any c.questions)
    (λ p. tt) (λ p k. tt) (λ p. tt) (λ g w k i. tt) (λ n i. tt) (λ n i. tt) (λ n i. tt) (λ g. tt) (λ w i. tt) o _ y (any_op AnyWord [] [] o) (all_any c.imports, tt) e)

pub spoken_known : WhatIsSpokenIsKnown
unfolding readied
spoken_known play w h u t n o new x = let message : Name = Sent (record { sender = h; number = x.record_of.messages }) in let mail = completed_mail play h u x.reader message (maps.note name_in x.heard.read) (reads_mail play play.script h u _ _ message o x.heard x.reads) in
    deeds_had play.script h u x.kinds n (readied w x.record_of) t x.prepares (subst (λ z. IsMail play.script h z message) (sym x.says) mail)
