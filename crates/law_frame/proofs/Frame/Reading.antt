-- A note is read alike in numbers and in names: each name in it at its stage of the reading, then what passes, then the whole.
use Rattle.std.proofs.Common.{◌≡◌, ℕ, zero, suc, ◌+◌, ◌<◌, Bool, true, false, List, [], ◌∷◌, ◌++◌, Option, Some, None, refl, sym, ap, subst, ◌∙◌, ◌⊎◌, inl, inr, length, map, ◌==◌, arith}
use Rattle.std.specs.Prelude.{slice_get, option_map, unwrap_or}
use Rattle.std.proofs.lemmas.Bool.{eqb-true, eq-eqb}
use Rattle.std.proofs.lemmas.Option.{slice_get-map, slice_get_past}
use Rattle.def_op.specs.Frames as op
use Rattle.def_op.specs.Frames.{Described, Members}
use Rattle.def_machine.specs.Values.{Value, Null, Flag, Number, Letter, Text, Prim, Broken, Items, Ref, Name, Root, Object, Promise, Answer, Gift, Sent, host_of, Local, Obj, Prom, Far, key, word_of}
use Rattle.def_machine.specs.State.{Known, Passed, Passeds, Plain, AGift, Many, NoMore, More, Note, Delivery, Deliver, Open, Ask, SettledTo, Elsewhere, Shorten, GiftEntry, is_gift, Vat}
use Rattle.def_machine.specs.Arrive.{Incoming, Old, New, gift_at}
use Rattle.def_run.specs.World as world
use Rattle.def_run.specs.World.{Script, World, link_at, has_name, is_old, read_name, known_after}
use Rattle.law_reference.specs.Reference.Logs as wire
use Rattle.law_fate.specs.Name.Names.{IsAmong, IsKnownIn, names_in}
use Rattle.def_machine.proofs.Keys.{key_of}
use Rattle.law_fate.proofs.Name.SameNames.{has_among, among_has}
use Rattle.law_fate.proofs.Name.Among.{among_or, length_end}
use Rattle.def_machine.specs.Maps as maps
use Rattle.def_machine.specs.Maps.{incoming}
use Rattle.law_machine.specs.Renamed.Renaming.{Wire as Wired, Mine, Carried}
use Rattle.law_machine.specs.Renamed.Stands.{Table, Found, Is, found, prom_found, far_found}
use Rattle.law_reference.specs.Reference.Exports.{object_of, exported_at}
use Rattle.law_frame.specs.Frame.Tables.{Tables, known_number, own_number, import_number, import_numbers, tables_of, arrived}
use Rattle.law_frame.specs.Frame.Hearing.{Heard, Hearing, told, told_if, next, with_position, promise_heard, name_heard, fact_heard, reference_heard, passed_heard, all_heard, gift_heard, outcome_heard, message_heard, note_heard}
use Rattle.law_frame.specs.Frame.Alike.{wire_name, numbered_gift, names_heard, as_told, from_peer, message_of}
use Rattle.law_frame.specs.Frame.Asked.{told_value, told_passed, told_all, ListlessValue, Listless, AllListless}
use Rattle.law_reference.specs.Reference.GiftPassing.{PassesFrom, AllPassFrom}
use Rattle.law_frame.proofs.Frame.Told.{known_up}
use Rattle.law_frame.proofs.Frame.Ranks.{Starts, get_rank, rank_end, rank_front}
use Rattle.law_frame.proofs.Frame.Grow.{true_false, on_bool, get_front, rank_less, starts_end, starts_on, starts_among, among_left, among_right, passed_starts, all_starts, passed_known, all_known, export_starts, export_or, export_itself, export_other, export_asked, export_again, export_new, known_old, among_known, after_old, after_new, after_starts, after_or, after_itself}

-- it describes a name of one of the two vats
abbrev IsNaming : Described → Type 0
IsNaming (op.Datum x) = ⊥
IsNaming (op.ListOf ds) = ⊥
IsNaming (op.Broken p) = ⊥
IsNaming (op.Third h s) = ⊥
IsNaming other = Unit {0}

-- what was heard, the numbers of what was exported by then, and how many names are known by then
abbrev Gets : {A : Type 0} → A → List Local → ℕ → Option (Heard A)
Gets x is k = Some (record { read = x; imports = is; known = k })

next_is : {A B : Type 0} (o : Option (Heard A)) (f : A → Hearing B) (x : A) (is : List Local) (k : ℕ) → o ≡ Gets x is k → next f o ≡ f x is k
unfolding next
next_is o f x is k e = rw e refl

gets_same : {A : Type 0} (x : A) (is js : List Local) (k j : ℕ) → is ≡ js → k ≡ j → Gets x is k ≡ Gets x js j
gets_same x is js k j e f = rw (e, f) refl

-- ---- lists of numbers

abbrev Hears : Incoming Local Wired → List Local → ℕ → Option (Heard (Incoming Local Wired))
Hears x is k = Some (record { read = x; imports = is; known = k })

hears_same : (x : Incoming Local Wired) (is js : List Local) (k j : ℕ) → is ≡ js → k ≡ j → Hears x is k ≡ Hears x js j
hears_same x is js k j e f = rw (e, f) refl

told_some : (o : Option Local) (l : Local) (is : List Local) (k : ℕ) → o ≡ Some l → told_if {B = Incoming Local Wired} Old o is k ≡ Hears (Old l) is k
unfolding told_if told
told_some o l is k e = rw e refl

import_get : (peer : ℕ) (ks : List Name) (p : ℕ) (E : List Name) (i : ℕ) (n : Name) (l : Local) → ((q : ℕ) → import_number peer ks q n ≡ l) → slice_get E i ≡ Some n → slice_get (import_numbers peer ks p E) i ≡ Some l
unfolding import_numbers
import_get peer ks p [] i n l f e = cc
import_get peer ks p (m ∷ E) zero n l f e = ap Some (ap (λ z. import_number peer ks p z) (first m n e) ∙ f p)
  where
    first : (m n : Name) → Some m ≡ Some n → m ≡ n
    first m n e = cc
import_get peer ks p (m ∷ E) (suc i) n l f e = import_get peer ks (suc p) E i n l f e

pub import_length : (peer : ℕ) (ks : List Name) (p : ℕ) (E : List Name) → length (import_numbers peer ks p E) ≡ length E
unfolding import_numbers
import_length peer ks p [] = refl
import_length peer ks p (m ∷ E) = ap suc (import_length peer ks (suc p) E)

import_end : (peer : ℕ) (ks : List Name) (p : ℕ) (E : List Name) (n : Name) → import_numbers peer ks p (E ++ n ∷ []) ≡ import_numbers peer ks p E ++ import_number peer ks (p + length E) n ∷ []
unfolding import_numbers
import_end peer ks p [] n = ap (λ q. import_number peer ks q n ∷ []) (let e : p ≡ p + 0 = omega arith in e)
import_end peer ks p (m ∷ E) n = ap (λ xs. import_number peer ks p m ∷ xs) (import_end peer ks (suc p) E n ∙ ap (λ q. import_numbers peer ks (suc p) E ++ import_number peer ks q n ∷ []) (let e : suc p + length E ≡ p + suc (length E) = omega arith in e))

placed_or : (b : Bool) (xs ys : List Local) → b ≡ false → ◌≡◌ {A = List Local} (elim b [ true ↦ xs | false ↦ ys ]) ys
placed_or true xs ys e = cc
placed_or false xs ys e = refl

placed_new : (b : Bool) (xs ys : List Local) → b ≡ true → ◌≡◌ {A = List Local} (elim b [ true ↦ xs | false ↦ ys ]) xs
placed_new true xs ys e = refl
placed_new false xs ys e = cc

position_old : (p : ℕ) (l : Local) (is : List Local) → p < length is → with_position p l is ≡ is
unfolding with_position
position_old p l is h = placed_or (p == length is) _ is (on_bool (p == length is) (λ e. let f : p ≡ length is = eqb-true p (length is) e in absurd (omega arith)) (λ e. e))

position_new : (p : ℕ) (l : Local) (is : List Local) → p ≡ length is → with_position p l is ≡ is ++ l ∷ []
unfolding with_position
position_new p l is h = placed_new (p == length is) (is ++ l ∷ []) is (eq-eqb p (length is) h)

heard_old : (peer : ℕ) (o : Option Local) (p : ℕ) (x : Local) (is : List Local) (k : ℕ) → o ≡ Some x → promise_heard peer p o is k ≡ Hears (Old x) is k
unfolding promise_heard told
heard_old peer o p x is k e = rw e refl

heard_new : (peer : ℕ) (o : Option Local) (p : ℕ) (is : List Local) (k : ℕ) → o ≡ None → promise_heard peer p o is k ≡ Hears (New (Mine false p) peer) (with_position p (Prom k) is) (suc k)
unfolding promise_heard told
heard_new peer o p is k e = rw e refl

-- ---- reading in names

old_name : (b : Bool) (n : Name) → b ≡ true → ◌≡◌ {A = Incoming Name Name} (elim b [ true ↦ Old n | false ↦ New n (host_of n) ]) (Old n)
old_name true n e = refl
old_name false n e = cc

new_name : (b : Bool) (n : Name) → b ≡ false → ◌≡◌ {A = Incoming Name Name} (elim b [ true ↦ Old n | false ↦ New n (host_of n) ]) (New n (host_of n))
new_name false n e = refl
new_name true n e = cc

pub read_old : (ks : List Name) (n : Name) → is_old ks n ≡ true → read_name ks n ≡ Old n
unfolding read_name
read_old ks n e = old_name (is_old ks n) n e

pub read_new : (ks : List Name) (n : Name) → is_old ks n ≡ false → read_name ks n ≡ New n (host_of n)
unfolding read_name
read_new ks n e = new_name (is_old ks n) n e

chosen : (a : Bool) (x y : Described) → a ≡ true → ◌≡◌ {A = Described} (elim a [ true ↦ x | false ↦ y ]) x
chosen true x y e = refl
chosen false x y e = cc

unchosen : (a : Bool) (x y : Described) → a ≡ false → ◌≡◌ {A = Described} (elim a [ true ↦ x | false ↦ y ]) y
unchosen true x y e = cc
unchosen false x y e = refl

-- ---- the two vats

-- The note N goes from v to u, whose state is s; F are the names that u knows once it was read, and maybe more, and Ms any messages.
module _ (script : Script) (w : World) (v u : ℕ) (s : Vat Name) (N : Note Name) (F Ms : List Name) (other : v ≡ u → ⊥) where
  abbrev pub Names : List Name
  Names = names_in s.known

  -- what u asked of v, and what v exported to it
  abbrev pub Asked : List Name
  Asked = wire.questions (λ i. i) w.links u v

  abbrev pub Exports : List Name
  Exports = wire.exports (λ i. i) w.links v u

  -- what v asked of u, of which some has arrived; and what u exported to it
  abbrev pub Put : List Name
  Put = wire.questions (λ i. i) w.links v u

  abbrev pub Answers : List Name
  Answers = wire.questions_in u (arrived (link_at v u w.links))

  abbrev pub Given : List Name
  Given = wire.exports (λ i. i) w.links u v

  abbrev pub T : Tables
  T = tables_of w u s v

  abbrev pub Later : Table
  Later = record { names = F; mails = Ms; exports = exported_at w.links u }

  abbrev pub Reads : Local → Found
  Reads = found u Later

  abbrev pub Wires : Wired → Name
  Wires = wire_name w v u N

  -- the numbers of what was exported
  abbrev pub I : List Name → List Local
  I E = import_numbers v F zero E

  -- what stands before the note is read
  pub record Before : Type 0 where
    pub asks : (n : Name) → IsAmong n Asked → IsAmong n Names
    pub heard : (n : Name) → IsAmong n Answers → IsAmong n Names
    pub gave : (n : Name) → IsAmong n Given → IsKnownIn Names n
    pub first : Starts Names F
    pub asked : Starts Answers Put

  -- At a stage of the reading ks are the names known by then, and E what was exported by then.
  pub record Stage (ks E : List Name) : Type 0 where
    pub names : Starts ks F
    pub exports : Starts E Exports
    pub base : (n : Name) → IsAmong n Names → IsAmong n ks
    pub known : (n : Name) → IsAmong n E → IsKnownIn ks n
    pub comes : (n : Name) → host_of n ≡ v → IsAmong n ks → IsAmong n Asked ⊎ IsAmong n E

  -- a name of the receiver: its sender asked for it before, or it was exported to the sender
  abbrev pub Yours : Name → Type 0
  Yours n = IsAmong n Answers ⊎ ((has_name Put n ≡ false) × IsAmong n Given)

  abbrev pub Ends : Name → Type 0
  Ends n = (host_of n ≡ v) ⊎ ((host_of n ≡ u) × Yours n)

  -- what is heard for that description is what is read for the name
  abbrev pub NameAlike : List Name → List Name → Name → Described → Type 0
  NameAlike ks E n d = (x : Incoming Local Wired) × (name_heard u v T d (I E) (length ks) ≡ Hears x (I (wire.with_export v Asked n E)) (length (known_after ks n))) × (incoming Reads Wires x ≡ incoming Is (λ y. y) (read_name ks n))

  -- how a name that is no object is read
  record Eventually (n : Name) : Type 0 where
    old : (ks : List Name) → is_old ks n ≡ has_name ks n
    known : (ks : List Name) → IsKnownIn ks n → IsAmong n ks
    imported : (q : ℕ) → import_number v F q n ≡ known_number F n
    owned : own_number Names n ≡ known_number Names n
    described : (p : ℕ) → wire.exported word_of w.links p n ≡ op.MyPromise p

  kind : (n : Name) → Eventually n ⊎ ((c : ℕ) × (j : ℕ) × (n ≡ Object c j))
  unfolding is_old import_number own_number wire.exported
  kind (Object c j) = inr (c, j, refl)
  kind other = inl (record { old = λ ks. refl; known = λ ks k. k; imported = λ q. refl; owned = refl; described = λ p. refl })

  -- ---- numbers and what they stand for

  promise_found : (k : ℕ) (n : Name) → slice_get F k ≡ Some n → Reads (Prom k) ≡ Is n
  unfolding found prom_found
  promise_found k n e = rw e refl

  pub number_found : (n : Name) → IsAmong n F → Reads (known_number F n) ≡ Is n
  unfolding known_number
  number_found n a = promise_found (wire.rank F n) n (get_rank F n a)

  pub name_found : Starts Names F → (n : Name) → IsAmong n Names → Reads (known_number Names n) ≡ Is n
  unfolding known_number
  name_found f n a = promise_found (wire.rank Names n) n (ap (λ ks. slice_get ks (wire.rank Names n)) f.1 ∙ get_front Names f.0 (wire.rank Names n) n (get_rank Names n a))

  object_found : (j : ℕ) → Reads (Obj j) ≡ Is (Object u j)
  unfolding found
  object_found j = refl

  far_or : (b : Bool) (o : Option Name) (p j : ℕ) → b ≡ false → o ≡ Some (Object v j) → far_found v p (elim b [ true ↦ None | false ↦ object_of o ]) ≡ Is (Object v j)
  unfolding far_found object_of
  far_or true o p j e f = cc
  far_or false o p j e f = rw f refl

  export_found : (p j : ℕ) → slice_get Exports p ≡ Some (Object v j) → Reads (Far v p) ≡ Is (Object v j)
  unfolding found exported_at
  export_found p j e = far_or (u == v) (slice_get Exports p) p j (on_bool (u == v) (λ f. absurd (other (sym (eqb-true u v f)))) (λ f. f)) e

  old_alike : (ks : List Name) (n : Name) (l : Local) → Reads l ≡ Is n → is_old ks n ≡ true → incoming Reads Wires (Old l) ≡ incoming Is (λ y. y) (read_name ks n)
  old_alike ks n l e f = ap (λ z. Old z) e ∙ sym (ap (λ z. incoming Is (λ y. y) z) (read_old ks n f))

  -- a name that is known and exported already, or of another vat
  stays : (ks E : List Name) (n : Name) (l : Local) (d : Described) → name_heard u v T d (I E) (length ks) ≡ Hears (Old l) (I E) (length ks) → Reads l ≡ Is n → is_old ks n ≡ true → wire.with_export v Asked n E ≡ E → NameAlike ks E n d
  stays ks E n l d h e f g = (Old l, h ∙ hears_same (Old l) (I E) (I (wire.with_export v Asked n E)) (length ks) (length (known_after ks n)) (ap I (sym g)) (ap length (sym (after_old ks n f))), old_alike ks n l e f)

  -- ---- a name of the receiver

  apart : (n : Name) → host_of n ≡ u → host_of n ≡ v → ⊥
  apart n e f = other (sym f ∙ e)

  owned_found : Before → (n : Name) → host_of n ≡ u → IsKnownIn Names n → Reads (own_number Names n) ≡ Is n
  unfolding own_number host_of
  owned_found b n e k = by_kind (kind n) e k
    where
      by_kind : Eventually n ⊎ ((c : ℕ) × (j : ℕ) × (n ≡ Object c j)) → host_of n ≡ u → IsKnownIn Names n → Reads (own_number Names n) ≡ Is n
      by_kind (inl ev) e k = ap Reads ev.owned ∙ name_found b.first n (ev.known Names k)
      by_kind (inr o) e k = let same : n ≡ Object u o.1 = o.2 ∙ ap (λ z. Object z o.1) (sym (ap host_of o.2) ∙ e) in subst (λ m. Reads (own_number Names m) ≡ Is m) (sym same) (object_found o.1)

  up : (ks : List Name) → ((m : Name) → IsAmong m Names → IsAmong m ks) → (n : Name) → IsKnownIn Names n → IsKnownIn ks n
  up ks f n k = known_up Names ks f n k

  exported_heard : (ks E : List Name) (n : Name) → IsAmong n Given → name_heard u v T (op.YourExport (wire.rank Given n)) (I E) (length ks) ≡ Hears (Old (own_number Names n)) (I E) (length ks)
  unfolding name_heard tables_of
  exported_heard ks E n a = told_some (slice_get (map (own_number Names) Given) (wire.rank Given n)) (own_number Names n) (I E) (length ks) (slice_get-map (own_number Names) Given (wire.rank Given n) ∙ ap (λ o. option_map (own_number Names) o) (get_rank Given n a))

  answer_heard : Before → (ks E : List Name) (n : Name) → IsAmong n Answers → name_heard u v T (op.YourAnswer (wire.rank Put n)) (I E) (length ks) ≡ Hears (Old (known_number Names n)) (I E) (length ks)
  unfolding name_heard tables_of
  answer_heard b ks E n a = let same : wire.rank Put n ≡ wire.rank Answers n = ap (λ qs. wire.rank qs n) b.asked.1 ∙ rank_front Answers b.asked.0 n a in
      told_some (slice_get (map (known_number Names) Answers) (wire.rank Put n)) (known_number Names n) (I E) (length ks) (ap (λ r. slice_get (map (known_number Names) Answers) r) same ∙ slice_get-map (known_number Names) Answers (wire.rank Answers n) ∙ ap (λ o. option_map (known_number Names) o) (get_rank Answers n a))

  yours_is : (n : Name) (b : Bool) → host_of n ≡ u → has_name Put n ≡ b → wire.described word_of w.links v u n ≡ wire.yours word_of w.links v u n b
  unfolding wire.described wire.questions
  yours_is n b e f = unchosen (host_of n == v) (wire.mine word_of w.links v u n (has_name Asked n)) (wire.yours word_of w.links v u n (has_name Put n)) (on_bool (host_of n == v) (λ g. absurd (apart n e (eqb-true (host_of n) v g))) (λ g. g)) ∙ ap (λ z. wire.yours word_of w.links v u n z) f

  yours_asked : (n : Name) → wire.yours word_of w.links v u n true ≡ op.YourAnswer (wire.rank Put n)
  unfolding wire.yours wire.questions
  yours_asked n = refl

  yours_else : (n : Name) → wire.yours word_of w.links v u n false ≡ op.YourExport (wire.rank Given n)
  unfolding wire.yours wire.exports wire.questions
  yours_else n = refl

  receiver_alike : Before → (ks E : List Name) → ((m : Name) → IsAmong m Names → IsAmong m ks) → (n : Name) → host_of n ≡ u → Yours n → NameAlike ks E n (wire.described word_of w.links v u n)
  receiver_alike b ks E f n e (inl a) = let put : has_name Put n ≡ true = among_has Put n (starts_among Answers Put b.asked n a) in let known = b.heard n a in
      subst (λ d. NameAlike ks E n d) (sym (yours_is n true e put ∙ yours_asked n)) (stays ks E n (known_number Names n) (op.YourAnswer (wire.rank Put n)) (answer_heard b ks E n a) (name_found b.first n known) (known_old ks n (up ks f n (among_known Names n known))) (export_other v Asked n E (apart n e)))
  receiver_alike b ks E f n e (inr a) = let known = b.gave n a.1 in
      subst (λ d. NameAlike ks E n d) (sym (yours_is n false e a.0 ∙ yours_else n)) (stays ks E n (own_number Names n) (op.YourExport (wire.rank Given n)) (exported_heard ks E n a.1) (owned_found b n e known) (known_old ks n (up ks f n known)) (export_other v Asked n E (apart n e)))

  -- ---- a name of the sender

  mine_is : (n : Name) (b : Bool) → host_of n ≡ v → has_name Asked n ≡ b → wire.described word_of w.links v u n ≡ wire.mine word_of w.links v u n b
  unfolding wire.described wire.questions
  mine_is n b e f = chosen (host_of n == v) (wire.mine word_of w.links v u n (has_name Asked n)) (wire.yours word_of w.links v u n (has_name Put n)) (eq-eqb (host_of n) v e) ∙ ap (λ z. wire.mine word_of w.links v u n z) f

  mine_asked : (n : Name) → wire.mine word_of w.links v u n true ≡ op.MyAnswer (wire.rank Asked n)
  unfolding wire.mine wire.questions
  mine_asked n = refl

  mine_else : (n : Name) → wire.mine word_of w.links v u n false ≡ wire.exported word_of w.links (wire.rank Exports n) n
  unfolding wire.mine wire.exports wire.questions
  mine_else n = refl

  question_heard : (ks E : List Name) (n : Name) → IsAmong n Asked → name_heard u v T (op.MyAnswer (wire.rank Asked n)) (I E) (length ks) ≡ Hears (Old (known_number Names n)) (I E) (length ks)
  unfolding name_heard tables_of
  question_heard ks E n a = told_some (slice_get (map (known_number Names) Asked) (wire.rank Asked n)) (known_number Names n) (I E) (length ks) (slice_get-map (known_number Names) Asked (wire.rank Asked n) ∙ ap (λ o. option_map (known_number Names) o) (get_rank Asked n a))

  module _ (b : Before) (ks E : List Name) (st : Stage ks E) (n : Name) (host : host_of n ≡ v) (later : Starts (known_after ks n) F) (ahead : Starts (wire.with_export v Asked n E) Exports) where
    asked_alike : IsAmong n Asked → NameAlike ks E n (op.MyAnswer (wire.rank Asked n))
    asked_alike a = let known = b.asks n a in stays ks E n (known_number Names n) (op.MyAnswer (wire.rank Asked n)) (question_heard ks E n a) (name_found b.first n known) (known_old ks n (up ks st.base n (among_known Names n known))) (export_asked v Asked n E (among_has Asked n a))

    rank_old : IsAmong n E → wire.rank Exports n ≡ wire.rank E n
    rank_old a = ap (λ es. wire.rank es n) st.exports.1 ∙ rank_front E st.exports.0 n a

    -- it is exported here for the first time
    joined : (xs ys : List Name) → (xs ++ n ∷ []) ++ ys ≡ xs ++ n ∷ ys
    joined [] ys = refl
    joined (x ∷ xs) ys = ap (λ zs. x ∷ zs) (joined xs ys)

    rank_new : has_name Asked n ≡ false → (IsAmong n E → ⊥) → wire.rank Exports n ≡ length E
    rank_new q f = ap (λ es. wire.rank es n) (ahead.1 ∙ ap (λ es. es ++ ahead.0) (export_new v Asked n E host q f) ∙ joined E ahead.0) ∙ rank_end E ahead.0 n f

    there : has_name Asked n ≡ false → slice_get Exports (wire.rank Exports n) ≡ Some n
    there q = get_rank Exports n (starts_among (wire.with_export v Asked n E) Exports ahead n (export_itself v Asked n E host q))

    -- ---- a promise

    module _ (ev : Eventually n) where
      promise_old : IsAmong n E → NameAlike ks E n (op.MyPromise (wire.rank Exports n))
      unfolding name_heard
      promise_old a = let known : IsAmong n ks = ev.known ks (st.known n a) in
          stays ks E n (known_number F n) (op.MyPromise (wire.rank Exports n)) (heard_old v (slice_get (I E) (wire.rank Exports n)) (wire.rank Exports n) (known_number F n) (I E) (length ks) (ap (λ p. slice_get (I E) p) (rank_old a) ∙ import_get v F zero E (wire.rank E n) n (known_number F n) ev.imported (get_rank E n a)))
          (number_found n (starts_among ks F st.names n known)) (known_old ks n (among_known ks n known)) (export_again v Asked n E a)

      number_new : (IsAmong n ks → ⊥) → is_old ks n ≡ false → import_number v F (zero + length E) n ≡ Prom (length ks)
      unfolding known_number
      number_new f e = ev.imported (zero + length E) ∙ ap Prom (ap (λ ns. wire.rank ns n) (later.1 ∙ ap (λ ns. ns ++ later.0) (after_new ks n e) ∙ joined ks later.0) ∙ rank_end ks later.0 n f)

      imports_new : has_name Asked n ≡ false → (IsAmong n E → ⊥) → (IsAmong n ks → ⊥) → is_old ks n ≡ false → with_position (wire.rank Exports n) (Prom (length ks)) (I E) ≡ I (wire.with_export v Asked n E)
      imports_new q f g e = position_new (wire.rank Exports n) (Prom (length ks)) (I E) (rank_new q f ∙ sym (import_length v F zero E)) ∙ ap (λ l. I E ++ l ∷ []) (sym (number_new g e)) ∙ sym (import_end v F zero E n) ∙ ap I (sym (export_new v Asked n E host q f))

      wired_new : has_name Asked n ≡ false → is_old ks n ≡ false → incoming Reads Wires (New (Mine false (wire.rank Exports n)) v) ≡ incoming Is (λ y. y) (read_name ks n)
      unfolding wire_name
      wired_new q e = ap (λ (o : Option Name). New (unwrap_or o (Root v)) v) (there q) ∙ ap (λ h. New n h) (sym host) ∙ sym (ap (λ z. incoming Is (λ y. y) z) (read_new ks n e))

      promise_new : has_name Asked n ≡ false → (IsAmong n E → ⊥) → (IsAmong n ks → ⊥) → is_old ks n ≡ false → NameAlike ks E n (op.MyPromise (wire.rank Exports n))
      unfolding name_heard
      promise_new q f g e = (
        New (Mine false (wire.rank Exports n)) v,
        heard_new v (slice_get (I E) (wire.rank Exports n)) (wire.rank Exports n) (I E) (length ks) (slice_get_past (I E) (wire.rank Exports n) (let long = import_length v F zero E in let r = rank_new q f in omega arith))
            ∙ hears_same (New (Mine false (wire.rank Exports n)) v) (with_position (wire.rank Exports n) (Prom (length ks)) (I E)) (I (wire.with_export v Asked n E)) (suc (length ks)) (length (known_after ks n)) (imports_new q f g e) (sym (ap length (after_new ks n e) ∙ length_end ks n)),
        wired_new q e,
      )

      promise_alike : has_name Asked n ≡ false → (c : Bool) → has_name E n ≡ c → NameAlike ks E n (op.MyPromise (wire.rank Exports n))
      promise_alike q true e = promise_old (has_among E n e)
      promise_alike q false e = promise_new q no_export unknown (ev.old ks ∙ on_bool (has_name ks n) (λ f. absurd (unknown (has_among ks n f))) (λ f. f))
        where
          no_export : IsAmong n E → ⊥
          no_export a = true_false (has_name E n) (among_has E n a) e

          from : IsAmong n Asked ⊎ IsAmong n E → ⊥
          from (inl a) = true_false (has_name Asked n) (among_has Asked n a) q
          from (inr a) = no_export a

          unknown : IsAmong n ks → ⊥
          unknown a = from (st.comes n host a)

    -- ---- an object

    module _ (j : ℕ) (same : n ≡ Object v j) where
      abbrev P : ℕ
      P = wire.rank Exports n

      is_object : is_old ks n ≡ true
      unfolding is_old
      is_object = rw same refl

      far_number : (q : ℕ) → import_number v F q n ≡ Far v q
      unfolding import_number
      far_number q = rw same refl

      object_imports : has_name Asked n ≡ false → (c : Bool) → has_name E n ≡ c → with_position P (Far v P) (I E) ≡ I (wire.with_export v Asked n E)
      object_imports q true e = let a = has_among E n e in position_old P (Far v P) (I E) (let r = rank_old a in let less = rank_less E n a in let long = import_length v F zero E in omega arith) ∙ ap I (sym (export_again v Asked n E a))
      object_imports q false e = let f : IsAmong n E → ⊥ = (λ a. true_false (has_name E n) (among_has E n a) e) in
          position_new P (Far v P) (I E) (rank_new q f ∙ sym (import_length v F zero E)) ∙ ap (λ l. I E ++ l ∷ []) (ap (λ p. Far v p) (let e : length E ≡ zero + length E = omega arith in rank_new q f ∙ e) ∙ sym (far_number (zero + length E))) ∙ sym (import_end v F zero E n) ∙ ap I (sym (export_new v Asked n E host q f))

      object_alike : has_name Asked n ≡ false → NameAlike ks E n (op.MyExport P)
      unfolding name_heard told
      object_alike q = (
        Old (Far v P),
        hears_same (Old (Far v P)) (with_position P (Far v P) (I E)) (I (wire.with_export v Asked n E)) (length ks) (length (known_after ks n)) (object_imports q (has_name E n) refl) (ap length (sym (after_old ks n is_object))),
        old_alike ks n (Far v P) (export_found P j (there q ∙ ap Some same) ∙ ap Is (sym same)) is_object,
      )

    exported_object : (c j p : ℕ) → n ≡ Object c j → wire.exported word_of w.links p n ≡ op.MyExport p
    unfolding wire.exported
    exported_object c j p e = rw e refl

    else_alike : Eventually n ⊎ ((c : ℕ) × (j : ℕ) × (n ≡ Object c j)) → has_name Asked n ≡ false → NameAlike ks E n (wire.exported word_of w.links (wire.rank Exports n) n)
    unfolding host_of
    else_alike (inl ev) q = subst (λ d. NameAlike ks E n d) (sym (ev.described (wire.rank Exports n))) (promise_alike ev q (has_name E n) refl)
    else_alike (inr o) q = let same : n ≡ Object v o.1 = o.2 ∙ ap (λ z. Object z o.1) (sym (ap host_of o.2) ∙ host) in subst (λ d. NameAlike ks E n d) (sym (exported_object o.0 o.1 (wire.rank Exports n) o.2)) (object_alike o.1 same q)

    sender_alike : NameAlike ks E n (wire.described word_of w.links v u n)
    sender_alike = on_bool (has_name Asked n)
        (λ e. subst (λ d. NameAlike ks E n d) (sym (mine_is n true host e ∙ mine_asked n)) (asked_alike (has_among Asked n e)))
        (λ e. subst (λ d. NameAlike ks E n d) (sym (mine_is n false host e ∙ mine_else n)) (else_alike (kind n) e))

  -- ---- a name of either

  pub name_alike : Before → (ks E : List Name) → Stage ks E → (n : Name) → Ends n → Starts (known_after ks n) F → Starts (wire.with_export v Asked n E) Exports → NameAlike ks E n (wire.described word_of w.links v u n)
  name_alike b ks E st n (inl host) later ahead = sender_alike b ks E st n host later ahead
  name_alike b ks E st n (inr h) later ahead = receiver_alike b ks E st.base n h.0 h.1

  -- and then the reading is at the next stage
  pub stage_name : (ks E : List Name) → Stage ks E → (n : Name) → Starts (known_after ks n) F → Starts (wire.with_export v Asked n E) Exports → (host_of n ≡ v) ⊎ (host_of n ≡ u) → Stage (known_after ks n) (wire.with_export v Asked n E)
  stage_name ks E st n later ahead ends = record { names = later; exports = ahead; base = λ m a. on m (st.base m a); known = λ m a. known m (export_or v Asked m n E a); comes = λ m e a. comes m e (after_or ks m n a) }
    where
      on : (m : Name) → IsAmong m ks → IsAmong m (known_after ks n)
      on m a = starts_among ks (known_after ks n) (after_starts ks n) m a

      known : (m : Name) → IsAmong m E ⊎ (m ≡ n) → IsKnownIn (known_after ks n) m
      known m (inl a) = known_up ks (known_after ks n) on m (st.known m a)
      known m (inr e) = subst (λ z. IsKnownIn (known_after ks n) z) (sym e) (after_itself ks n)

      kept : (m : Name) → IsAmong m Asked ⊎ IsAmong m E → IsAmong m Asked ⊎ IsAmong m (wire.with_export v Asked n E)
      kept m (inl a) = inl a
      kept m (inr a) = inr (starts_among E (wire.with_export v Asked n E) (export_starts v Asked n E) m a)

      comes : (m : Name) → host_of m ≡ v → IsAmong m ks ⊎ (m ≡ n) → IsAmong m Asked ⊎ IsAmong m (wire.with_export v Asked n E)
      comes m e (inl a) = kept m (st.comes m e a)
      comes m e (inr f) = subst (λ z. IsAmong z Asked ⊎ IsAmong z (wire.with_export v Asked n E)) (sym f) (on_bool (has_name Asked n) (λ q. inl (has_among Asked n q)) (λ q. inr (export_itself v Asked n E (ap host_of (sym f) ∙ e) q)))

  -- a gift of a third vat comes to be known
  pub stage_gift : (ks E : List Name) → Stage ks E → (h i : ℕ) → (h ≡ v → ⊥) → Starts (ks ++ Gift h i ∷ []) F → Stage (ks ++ Gift h i ∷ []) E
  unfolding host_of
  stage_gift ks E st h i f later = record { names = later; exports = st.exports; base = λ m a. on m (st.base m a); known = λ m a. known_up ks (ks ++ Gift h i ∷ []) on m (st.known m a); comes = λ m e a. comes m e (among_or m ks (Gift h i) a) }
    where
      on : (m : Name) → IsAmong m ks → IsAmong m (ks ++ Gift h i ∷ [])
      on m a = starts_among ks (ks ++ Gift h i ∷ []) (starts_end ks (Gift h i)) m a

      hosted : host_of (Gift h i) ≡ h
      hosted = refl

      comes : (m : Name) → host_of m ≡ v → IsAmong m ks ⊎ (m ≡ Gift h i) → IsAmong m Asked ⊎ IsAmong m E
      comes m e (inl a) = st.comes m e a
      comes m e (inr g) = absurd (f (sym hosted ∙ ap host_of (sym g) ∙ e))

  -- ---- what passes

  exported_naming : (p : ℕ) (n : Name) → IsNaming (wire.exported word_of w.links p n)
  unfolding wire.exported
  exported_naming p (Object c j) = tt
  exported_naming p other = tt

  mine_naming : (n : Name) (b : Bool) → IsNaming (wire.mine word_of w.links v u n b)
  unfolding wire.mine
  mine_naming n true = tt
  mine_naming n false = exported_naming _ n

  yours_naming : (n : Name) (b : Bool) → IsNaming (wire.yours word_of w.links v u n b)
  unfolding wire.yours
  yours_naming n true = tt
  yours_naming n false = tt

  naming_or : (a : Bool) (x y : Described) → IsNaming x → IsNaming y → IsNaming (elim a [ true ↦ x | false ↦ y ])
  naming_or true x y h k = h
  naming_or false x y h k = k

  described_naming : (n : Name) → IsNaming (wire.described word_of w.links v u n)
  unfolding wire.described
  described_naming n = naming_or (host_of n == v) _ _ (mine_naming n _) (yours_naming n _)

  passed_naming : (d : Described) (is : List Local) (k : ℕ) → IsNaming d → passed_heard u v T d is k ≡ next (λ x. told (reference_heard u v T x)) (name_heard u v T d is k)
  unfolding passed_heard all_heard
  passed_naming (op.Datum x) is k h = absurd h
  passed_naming (op.ListOf ds) is k h = absurd h
  passed_naming (op.Broken p) is k h = absurd h
  passed_naming (op.Third h s) is k f = absurd f
  passed_naming other is k h = refl

  -- what is heard for what passes is what is read for it
  abbrev PassedAlike : List Name → List Name → Passed Name → Type 0
  PassedAlike ks E y = (z : Passed (Incoming Local Wired)) × (passed_heard u v T (wire.described_passed word_of w.links v u y) (I E) (length ks) ≡ Gets z (I (wire.with_passed v Asked y E)) (length (world.read_passed y ks).known))
      × (maps.passed (incoming Reads Wires) z ≡ maps.passed (incoming Is (λ x. x)) (world.read_passed y ks).read)

  abbrev AllAlike : List Name → List Name → Passeds Name → Type 0
  AllAlike ks E ys = (zs : Passeds (Incoming Local Wired)) × (all_heard u v T (wire.described_all word_of w.links v u ys) (I E) (length ks) ≡ Gets zs (I (wire.with_all v Asked ys E)) (length (world.read_all ys ks).known))
      × (maps.passeds (incoming Reads Wires) zs ≡ maps.passeds (incoming Is (λ x. x)) (world.read_all ys ks).read)

  either_end : (n : Name) → Ends n → (host_of n ≡ v) ⊎ (host_of n ≡ u)
  either_end n (inl e) = inl e
  either_end n (inr e) = inr e.0

  ref_alike : (ks E : List Name) (n : Name) → NameAlike ks E n (wire.described word_of w.links v u n) → PassedAlike ks E (Plain (Ref n))
  unfolding wire.described_passed wire.described_all wire.described_value wire.with_passed wire.with_all wire.with_value world.read_passed world.read_all world.read_value world.plain_read reference_heard told
  ref_alike ks E n a = let d = wire.described word_of w.links v u n in (
    Plain (Ref a.0),
    passed_naming d (I E) (length ks) (described_naming n) ∙ next_is (name_heard u v T d (I E) (length ks)) (λ x. told (reference_heard u v T x)) a.0 (I (wire.with_export v Asked n E)) (length (known_after ks n)) a.1,
    ap (λ x. Plain (Ref x)) a.2,
  )

  value_alike : Before → (ks E : List Name) → Stage ks E → (y : Value Name) → ListlessValue y → ((n : Name) → IsAmong n (told_value y) → Ends n) → Starts (world.read_passed (Plain y) ks).known F → Starts (wire.with_passed v Asked (Plain y) E) Exports → PassedAlike ks E (Plain y) × Stage (world.read_passed (Plain y) ks).known (wire.with_passed v Asked (Plain y) E)
  unfolding told_value wire.described_passed wire.described_all wire.described_value wire.with_passed wire.with_all wire.with_value world.read_passed world.read_all world.read_value world.plain_read passed_heard all_heard fact_heard told
  value_alike b ks E st (Ref n) q f later ahead = let ends = f n (inl refl) in (ref_alike ks E n (name_alike b ks E st n ends later ahead), stage_name ks E st n later ahead (either_end n ends))
  value_alike b ks E st Null q f later ahead = ((Plain Null, refl, refl), st)
  value_alike b ks E st (Flag x) q f later ahead = ((Plain (Flag x), refl, refl), st)
  value_alike b ks E st (Number z) q f later ahead = ((Plain (Number z), refl, refl), st)
  value_alike b ks E st (Letter c) q f later ahead = ((Plain (Letter c), refl, refl), st)
  value_alike b ks E st (Text t) q f later ahead = ((Plain (Text t), refl, refl), st)
  value_alike b ks E st (Prim i) q f later ahead = ((Plain (Prim i), refl, refl), st)
  value_alike b ks E st (Broken p) q f later ahead = ((Plain (Broken p), refl, refl), st)
  value_alike b ks E st (Items k) q f later ahead = absurd q

  module _ (P : ℕ → ℕ) where
    gift_alike : (ks E : List Name) → Stage ks E → (h i : ℕ) → key v (word_of i) ≡ i → (h ≡ v → ⊥) → Starts (ks ++ Gift h i ∷ []) F → PassedAlike ks E (AGift h i) × Stage (ks ++ Gift h i ∷ []) E
    unfolding wire.described_passed wire.described_all wire.with_passed wire.with_all world.read_passed world.read_all passed_heard all_heard told
    gift_alike ks E st h i l f later = (
      (AGift h (key v (word_of i)), gets_same (AGift h (key v (word_of i))) (I E) (I E) (suc (length ks)) (length (ks ++ Gift h i ∷ [])) refl (sym (length_end ks (Gift h i))), ap (λ j. AGift h j) l),
      stage_gift ks E st h i f later,
    )

    more_heard : (o : Option (Heard (Passed (Incoming Local Wired)))) (ds : op.Members) (z : Passed (Incoming Local Wired)) (is : List Local) (k : ℕ) → o ≡ Gets z is k → (zs : Passeds (Incoming Local Wired)) (js : List Local) (j : ℕ) → all_heard u v T ds is k ≡ Gets zs js j
        → next (λ y is ks. next (λ ys. told (More y ys)) (all_heard u v T ds is ks)) o ≡ Gets (More z zs) js j
    unfolding told
    more_heard o ds z is k e zs js j f = next_is o (λ y is ks. next (λ ys. told (More y ys)) (all_heard u v T ds is ks)) z is k e ∙ next_is (all_heard u v T ds is k) (λ ys. told (More z ys)) zs js j f

    more_same : (x y : Passed (Incoming Found Name)) (xs ys : Passeds (Incoming Found Name)) → x ≡ y → xs ≡ ys → More x xs ≡ More y ys
    more_same x y xs ys e f = rw (e, f) refl

    mutual
      unfolding told_passed told_all wire.described_passed wire.described_all wire.with_passed wire.with_all world.read_passed world.read_all world.many_read world.more_read passed_heard all_heard told

      passed_alike : Before → (ks E : List Name) → Stage ks E → (y : Passed Name) → Listless y → PassesFrom P w.drawn v u y → ((n : Name) → IsAmong n (told_passed y) → Ends n) → Starts (world.read_passed y ks).known F → Starts (wire.with_passed v Asked y E) Exports
          → PassedAlike ks E y × Stage (world.read_passed y ks).known (wire.with_passed v Asked y E)
      passed_alike b ks E st (Plain y) q g f later ahead = value_alike b ks E st y q f later ahead
      passed_alike b ks E st (AGift h i) q g f later ahead = gift_alike ks E st h i (key_of v i g.0.2) g.1 later
      passed_alike b ks E st (Many ys) q g f later ahead = let all = all_alike b ks E st ys q g f later ahead in let a = all.0 in let ds = wire.described_all word_of w.links v u ys in
          ((Many a.0, next_is (all_heard u v T ds (I E) (length ks)) (λ zs. told (Many zs)) a.0 (I (wire.with_all v Asked ys E)) (length (world.read_all ys ks).known) a.1, ap Many a.2), all.1)

      all_alike : Before → (ks E : List Name) → Stage ks E → (ys : Passeds Name) → AllListless ys → AllPassFrom P w.drawn v u ys → ((n : Name) → IsAmong n (told_all ys) → Ends n) → Starts (world.read_all ys ks).known F → Starts (wire.with_all v Asked ys E) Exports
          → AllAlike ks E ys × Stage (world.read_all ys ks).known (wire.with_all v Asked ys E)
      all_alike b ks E st NoMore q g f later ahead = ((NoMore, refl, refl), st)
      all_alike b ks E st (More y ys) q g f later ahead = let k1 = (world.read_passed y ks).known in let E1 = wire.with_passed v Asked y E in
          let one = passed_alike b ks E st y q.0 g.0 (λ n a. f n (among_left n (told_passed y) (told_all ys) a)) (starts_on k1 (world.read_all ys k1).known F (all_known ys k1) later) (starts_on E1 (wire.with_all v Asked ys E1) Exports (all_starts v Asked ys E1) ahead) in
          let rest = all_alike b k1 E1 one.1 ys q.1 g.1 (λ n a. f n (among_right n (told_passed y) (told_all ys) a)) later ahead in
          ((More one.0.0 rest.0.0, more_heard (passed_heard u v T (wire.described_passed word_of w.links v u y) (I E) (length ks)) (wire.described_all word_of w.links v u ys) one.0.0 (I E1) (length k1) one.0.1 rest.0.0 (I (wire.with_all v Asked ys E1)) (length (world.read_all ys k1).known) rest.0.1, more_same (maps.passed (incoming Reads Wires) one.0.0) _ (maps.passeds (incoming Reads Wires) rest.0.0) _ one.0.2 rest.0.2), rest.1)

  -- ---- the whole note

  -- what had arrived before it
  abbrev pub Arrived : List Name
  Arrived = wire.exports_after v Asked (arrived (link_at v u w.links)) (wire.roots_of (link_at v u w.links))

  rank_on : Starts Names F → (n : Name) → IsAmong n Names → wire.rank Names n ≡ wire.rank F n
  rank_on f n a = sym (ap (λ ks. wire.rank ks n) f.1 ∙ rank_front Names f.0 n a)

  number_on : Starts Names F → (p : ℕ) (n : Name) → IsKnownIn Names n → import_number v Names p n ≡ import_number v F p n
  unfolding import_number known_number
  number_on f p (Object c j) a = refl
  number_on f p (Root c) a = ap Prom (rank_on f (Root c) a)
  number_on f p (Promise c i) a = ap Prom (rank_on f (Promise c i) a)
  number_on f p (Answer c m) a = ap Prom (rank_on f (Answer c m) a)
  number_on f p (Gift c i) a = ap Prom (rank_on f (Gift c i) a)
  number_on f p (Sent m) a = ap Prom (rank_on f (Sent m) a)

  numbers_on : Starts Names F → (p : ℕ) (E : List Name) → ((n : Name) → IsAmong n E → IsKnownIn Names n) → import_numbers v Names p E ≡ import_numbers v F p E
  unfolding import_numbers
  numbers_on f p [] g = refl
  numbers_on f p (n ∷ E) g = two (number_on f p n (g n (inl refl))) (numbers_on f (suc p) E (λ m a. g m (inr a)))
    where
      two : {x y : Local} {xs ys : List Local} → x ≡ y → xs ≡ ys → x ∷ xs ≡ y ∷ ys
      two e f = rw (e, f) refl

  pub imports_are : Starts Names F → ((n : Name) → IsAmong n Arrived → IsKnownIn Names n) → T.imports ≡ I Arrived
  unfolding tables_of
  imports_are f g = numbers_on f zero Arrived g

  known_length : (ks : List (Known Name)) → length ks ≡ length (names_in ks)
  known_length [] = refl
  known_length (k ∷ ks) = ap suc (known_length ks)

  abbrev Gifts : List (GiftEntry Local)
  Gifts = map (numbered_gift Names) s.gifts

  -- from the tables as they are
  abbrev Hear : Note Name → List Local → ℕ → Option (Heard (Note (Incoming Local Wired)))
  Hear M = note_heard u v T Gifts (wire.operation word_of w.links v u M)

  -- what is heard for the note is what is read for it, and what is had of exports and names then is that of the note
  abbrev pub NoteAlike : Note Name → Type 0
  NoteAlike M = (h : Heard (Note (Incoming Local Wired))) × (note_heard u v T (map (numbered_gift Names) s.gifts) (wire.operation word_of w.links v u M) T.imports (length s.known) ≡ Some h) × (maps.note (incoming Reads Wires) h.read ≡ as_told v (maps.note (incoming Is (λ x. x)) (world.read_note (world.names_of s) M))) × (h.imports ≡ I (wire.with_note v Asked M Arrived)) × (h.known ≡ length (names_heard Names M))

  -- what is known of a gift that is asked for
  pub record Asks (p i : ℕ) (n : Name) : Type 0 where
    pub host : host_of n ≡ u
    pub eventual : is_old Names n ≡ has_name Names n
    pub put : IsAmong n Put
    pub entry : (g : GiftEntry Name) → gift_at p i s.gifts ≡ Some g → (g.name ≡ n) × IsAmong n Names
    pub absent : gift_at p i s.gifts ≡ None → IsAmong n Names → ⊥

  gift_mapped : (ks : List Name) (p i : ℕ) (gs : List (GiftEntry Name)) → gift_at p i (map (numbered_gift ks) gs) ≡ option_map (numbered_gift ks) (gift_at p i gs)
  unfolding gift_at is_gift numbered_gift
  gift_mapped ks p i [] = refl
  gift_mapped ks p i (g ∷ gs) = elim (is_gift p i g) as (λ b. elim b [ true ↦ Some (numbered_gift ks g) | false ↦ gift_at p i (map (numbered_gift ks) gs) ] ≡ option_map (numbered_gift ks) (elim b [ true ↦ Some g | false ↦ gift_at p i gs ])) [ true ↦ refl | false ↦ gift_mapped ks p i gs ]

  module _ (b : Before) (st : Stage Names Arrived) (known : (n : Name) → IsAmong n Arrived → IsKnownIn Names n) where
    start : {A : Type 0} (f : List Local → ℕ → A) → f T.imports (length s.known) ≡ f (I Arrived) (length Names)
    start f = two (imports_are b.first known) (known_length s.known)
      where
        two : {is js : List Local} {k j : ℕ} → is ≡ js → k ≡ j → f is k ≡ f js j
        two e g = rw (e, g) refl

    -- a name and nothing else is heard
    about : (M : Note Name) (n : Name) (f : Incoming Local Wired → Hearing (Note (Incoming Local Wired))) (g : Incoming Local Wired → Note (Incoming Local Wired)) → ((is : List Local) (k : ℕ) → Hear M is k ≡ next f (name_heard u v T (wire.described word_of w.links v u n) is k)) → ((x : Incoming Local Wired) (is : List Local) (k : ℕ) → f x is k ≡ Gets (g x) is k)
        → ((x : Incoming Local Wired) → incoming Reads Wires x ≡ incoming Is (λ y. y) (read_name Names n) → maps.note (incoming Reads Wires) (g x) ≡ as_told v (maps.note (incoming Is (λ x. x)) (world.read_note (world.names_of s) M)))
        → NameAlike Names Arrived n (wire.described word_of w.links v u n) → wire.with_export v Asked n Arrived ≡ wire.with_note v Asked M Arrived → known_after Names n ≡ names_heard Names M → NoteAlike M
    about M n f g e h r a p q = let is = I (wire.with_export v Asked n Arrived) in let k = length (known_after Names n) in (
      record { read = g a.0; imports = is; known = k },
      start (Hear M) ∙ e (I Arrived) (length Names) ∙ next_is (name_heard u v T (wire.described word_of w.links v u n) (I Arrived) (length Names)) f a.0 is k a.1 ∙ h a.0 is k,
      r a.0 a.2,
      ap I p,
      ap length q,
    )

    module _ where
      pub open_alike : (i : ℕ) (n : Name) → key v (word_of i) ≡ i → Ends n → Starts (known_after Names n) F → Starts (wire.with_export v Asked n Arrived) Exports → NoteAlike (Open i n)
      unfolding note_heard wire.operation told as_told world.read_note world.names_of wire.with_note names_heard
      open_alike i n l ends later ahead = about (Open i n) n (λ x. told (Open (key v (word_of i)) x)) (λ x. Open (key v (word_of i)) x) (λ is k. refl) (λ x is k. refl)
          (λ x e. two l e) (name_alike b Names Arrived st n ends later ahead) refl refl
        where
          two : {j k : ℕ} {x y : Incoming Found Name} → j ≡ k → x ≡ y → Open j x ≡ Open k y
          two e f = rw (e, f) refl

      pub shorten_alike : (n : Name) (c i : ℕ) → key u (word_of i) ≡ i → Ends n → Starts (known_after Names n) F → Starts (wire.with_export v Asked n Arrived) Exports → NoteAlike (Shorten n c i)
      unfolding note_heard wire.operation told as_told world.read_note world.names_of wire.with_note names_heard
      shorten_alike n c i l ends later ahead = about (Shorten n c i) n (λ x. told (Shorten x v (key u (word_of i)))) (λ x. Shorten x v (key u (word_of i))) (λ is k. refl) (λ x is k. refl)
          (λ x e. two l e) (name_alike b Names Arrived st n ends later ahead) refl refl
        where
          two : {j k : ℕ} {x y : Incoming Found Name} → j ≡ k → x ≡ y → Shorten x v j ≡ Shorten y v k
          two e f = rw (e, f) refl

      pub elsewhere_alike : (n : Name) (c : ℕ) → Ends n → Starts (known_after Names n) F → Starts (wire.with_export v Asked n Arrived) Exports → NoteAlike (Elsewhere n c)
      unfolding note_heard outcome_heard wire.operation told as_told world.read_note world.names_of wire.with_note names_heard
      elsewhere_alike n c ends later ahead = about (Elsewhere n c) n (λ x. outcome_heard u v T x (op.Elsewhere c)) (λ x. Elsewhere x c) (λ is k. refl) (λ x is k. refl)
          (λ x e. ap (λ z. Elsewhere z c) e) (name_alike b Names Arrived st n ends later ahead) refl refl

      -- ---- a gift is asked for

      ask_some : (p i : ℕ) (n : Name) → Asks p i n → (o : Option (GiftEntry Name)) → gift_at p i s.gifts ≡ o → incoming Reads Wires (gift_heard u v T (wire.rank Put n) (option_map (numbered_gift Names) o)) ≡ incoming Is (λ y. y) (read_name Names n)
      unfolding gift_heard numbered_gift wire_name
      ask_some p i n a (Some g) e = let f = a.entry g e in ap (λ m. Old (Reads (known_number Names m))) f.0 ∙ old_alike Names n (known_number Names n) (name_found b.first n f.1) (known_old Names n (among_known Names n f.1))
      ask_some p i n a None e = ap (λ (o : Option Name). New (unwrap_or o (Root v)) u) (get_rank Put n a.put) ∙ ap (λ h. New n h) (sym a.host) ∙ sym (ap (λ z. incoming Is (λ y. y) z) (read_new Names n (a.eventual ∙ on_bool (has_name Names n) (λ f. absurd (a.absent e (has_among Names n f))) (λ f. f))))

      pub ask_alike : (p i : ℕ) (n : Name) → key p (word_of i) ≡ i → Asks p i n → NoteAlike (Ask p i n)
      unfolding note_heard wire.operation told as_told world.read_note world.names_of wire.questions wire.with_note names_heard
      ask_alike p i n l a = (
        record { read = Ask p (key p (word_of i)) (gift_heard u v T (wire.rank Put n) (gift_at p (key p (word_of i)) Gifts)); imports = T.imports; known = length s.known },
        refl,
        two l (ap (λ j. incoming Reads Wires (gift_heard u v T (wire.rank Put n) (gift_at p j Gifts))) l ∙ ap (λ o. incoming Reads Wires (gift_heard u v T (wire.rank Put n) o)) (gift_mapped Names p i s.gifts) ∙ ask_some p i n a (gift_at p i s.gifts) refl),
        imports_are b.first known,
        known_length s.known,
      )
        where
          two : {j k : ℕ} {x y : Incoming Found Name} → j ≡ k → x ≡ y → Ask p j x ≡ Ask p k y
          two e f = rw (e, f) refl

      -- ---- values pass

      module _ (P : ℕ → ℕ) where
        pub settled_alike : (n : Name) (y : Passed Name) → Listless y → PassesFrom P w.drawn v u y → ((m : Name) → IsAmong m (n ∷ told_passed y) → Ends m) → Starts (world.read_passed y (known_after Names n)).known F → Starts (wire.with_passed v Asked y (wire.with_export v Asked n Arrived)) Exports → NoteAlike (SettledTo n y)
        unfolding note_heard outcome_heard wire.operation told as_told world.read_note world.names_of wire.with_note names_heard
        settled_alike n y q g f later ahead = let d = wire.described word_of w.links v u n in let dy = wire.described_passed word_of w.links v u y in
            let k1 = known_after Names n in let E1 = wire.with_export v Asked n Arrived in let k2 = (world.read_passed y k1).known in let E2 = wire.with_passed v Asked y E1 in
            let later1 = starts_on k1 k2 F (passed_known y k1) later in let ahead1 = starts_on E1 E2 Exports (passed_starts v Asked y E1) ahead in let ends = f n (inl refl) in
            let one = name_alike b Names Arrived st n ends later1 ahead1 in let st1 = stage_name Names Arrived st n later1 ahead1 (either_end n ends) in
            let two = (passed_alike P b k1 E1 st1 y q g (λ m a. f m (inr a)) later ahead).0 in (
              record { read = SettledTo one.0 two.0; imports = I E2; known = length k2 },
              start (Hear (SettledTo n y)) ∙ next_is (name_heard u v T d (I Arrived) (length Names)) (λ x. outcome_heard u v T x (op.To dy)) one.0 (I E1) (length k1) one.1 ∙ next_is (passed_heard u v T dy (I E1) (length k1)) (λ z. told (SettledTo one.0 z)) two.0 (I E2) (length k2) two.1,
              both one.2 two.2,
              refl,
              refl,
            )
          where
            both : {x y : Incoming Found Name} {a c : Passed (Incoming Found Name)} → x ≡ y → a ≡ c → SettledTo x a ≡ SettledTo y c
            both e f = rw (e, f) refl

        by_asks : (b : Bool) (m : Name) (d : Described) (verb : List ℕ) (ds : Members) (is : List Local) (k : ℕ) → note_heard u v T Gifts (wire.delivered word_of w.links v u m b d verb ds) is k ≡ message_heard u v T b d verb ds is k
        unfolding note_heard wire.delivered
        by_asks true m d verb ds is k = refl
        by_asks false m d verb ds is k = refl

        pub deliver_alike : (m : Delivery Name) (n : Name) (verb : List ℕ) (ys : Passeds Name) → message_of N ≡ m.message → AllListless ys → AllPassFrom P w.drawn v u ys → host_of n ≡ u → ((x : Name) → IsAmong x (n ∷ told_all ys) → Ends x) → Starts (known_after (world.read_all ys Names).known n) F → Starts (wire.with_all v Asked ys Arrived) Exports → NoteAlike (Deliver m n verb ys)
        unfolding note_heard message_heard wire.operation told as_told from_peer world.read_note world.names_of wire_name wire.with_note names_heard
        deliver_alike m n verb ys message q g host f later ahead = let d = wire.described word_of w.links v u n in let ds = wire.described_all word_of w.links v u ys in
            let k1 = (world.read_all ys Names).known in let E1 = wire.with_all v Asked ys Arrived in let k2 = known_after k1 n in let E2 = wire.with_export v Asked n E1 in
            let all = all_alike P b Names Arrived st ys q g (λ x a. f x (inr a)) (starts_on k1 k2 F (after_starts k1 n) later) ahead in let one = all.0 in
            let two = name_alike b k1 E1 all.1 n (f n (inl refl)) later (subst (λ es. Starts es Exports) (sym (export_other v Asked n E1 (apart n host))) ahead) in (
              record { read = Deliver (record { message = New Carried v; asks = m.asks; answer = None }) two.0 verb one.0; imports = I E2; known = length k2 },
              start (Hear (Deliver m n verb ys)) ∙ by_asks m.asks m.message d verb ds (I Arrived) (length Names) ∙ next_is (all_heard u v T ds (I Arrived) (length Names)) (λ zs is ks. next (λ x. told (Deliver (record { message = New Carried v; asks = m.asks; answer = None }) x verb zs)) (name_heard u v T d is ks)) one.0 (I E1) (length k1) one.1 ∙ next_is (name_heard u v T d (I E1) (length k1)) (λ x. told (Deliver (record { message = New Carried v; asks = m.asks; answer = None }) x verb one.0)) two.0 (I E2) (length k2) two.1,
              three message two.2 one.2,
              ap I (export_other v Asked n E1 (apart n host) ∙ ap (λ es. wire.with_all v Asked ys es) (sym (export_other v Asked n Arrived (apart n host)))),
              refl,
            )
          where
            three : {k l : Name} {x y : Incoming Found Name} {a c : Passeds (Incoming Found Name)} → k ≡ l → x ≡ y → a ≡ c → Deliver (record { message = New k v; asks = m.asks; answer = None }) x verb a ≡ Deliver (record { message = New l v; asks = m.asks; answer = None }) y verb c
            three e f g = rw (e, f, g) refl
