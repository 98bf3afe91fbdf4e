-- The names of numbers after a step, by what it tells.
use Rattle.std.proofs.Common.{◌≡◌, ℕ, zero, suc, ◌+◌, ◌-◌, Bool, true, false, List, [], ◌∷◌, ◌++◌, ◌⊎◌, inl, inr, Option, Some, None, refl, sym, ap, ◌∙◌, subst, length, map, append_assoc, arith}
use Rattle.std.specs.Prelude.{slice_get, option_map, drop, flat_map, unwrap_or, ◌==◌}
use Rattle.std.proofs.lemmas.Bool.{eqb-true, eq-eqb}
use Rattle.std.proofs.lemmas.Option.{slice_get-map}
use Rattle.def_machine.specs.Values.{Name, Root, Object, Promise, Answer, Gift, Sent, Msg, host_of, answer_of, Local, Obj, Prom, Far, Mess}
use Rattle.def_machine.specs.State.{Known, Message, Note, Delivery, Deliver, Ask, Put, GiftEntry, Happened, Sends, Vat}
use Rattle.law_fate.specs.Name.Names.{AllOf, IsAmong, IsEventual, IsMessageName, names_in}
use Rattle.law_fate.proofs.Name.SameNames.{at_all}
use Rattle.def_machine.specs.Maps as maps
use Rattle.law_machine.specs.Renamed.Stands.{Table, Found, Is, found, IsTable, StandsFor}
use Rattle.def_run.specs.Names.{Names, Told, told_at, of_promise, of_answer, own_mails, mail_at, host_among, told_by_answer, told_by_line, told_by_note, told_by_put, told_by_gift, told_in_step, named_from, names_after}
use Rattle.law_frame.specs.Local.Naming.{SomeOf, message_of, MessageTells, NoteTells, IsItsAnswer, AsksAs, IsOwnPromise, InOrder, Tells, ToldSo, BroughtSo, NamesMirror}
use Rattle.law_frame.proofs.Local.Sights.{some_name, some_mail, some_far, hosts_of, host_or}

-- ---- lists

pub all_join : {A : Type 0} (P : A → Type 0) (xs ys : List A) → AllOf P xs → AllOf P ys → AllOf P (xs ++ ys)
all_join P [] ys h k = k
all_join P (x ∷ xs) ys h k = (h.0, all_join P xs ys h.1 k)

pub some_left : {A : Type 0} (P : A → Type 0) (xs ys : List A) → SomeOf P xs → SomeOf P (xs ++ ys)
some_left P [] ys h = absurd h
some_left P (x ∷ xs) ys (inl h) = inl h
some_left P (x ∷ xs) ys (inr h) = inr (some_left P xs ys h)

pub some_right : {A : Type 0} (P : A → Type 0) (xs ys : List A) → SomeOf P ys → SomeOf P (xs ++ ys)
some_right P [] ys h = h
some_right P (x ∷ xs) ys h = inr (some_right P xs ys h)

-- two lists that are one where they are changed
module _ {A B C : Type 0} (g : A → C) (h : B → C) (F : A → List Told) where
  walk_all : (P : Told → Type 0) (R : B → Type 0) → ((x : A) (y : B) → g x ≡ h y → R y → AllOf P (F x)) → (xs : List A) (ys : List B) → map g xs ≡ map h ys → AllOf R ys → AllOf P (flat_map F xs)
  walk_all P R each [] ys e i = tt
  walk_all P R each (x ∷ xs) (y ∷ ys) e i = let a : g x ≡ h y = cc in let b : map g xs ≡ map h ys = cc in all_join P (F x) (flat_map F xs) (each x y a i.0) (walk_all P R each xs ys b i.1)
  walk_all P R each (x ∷ xs) [] e i = cc

  walk_some : (P : Told → Type 0) (R : B → Type 0) → ((x : A) (y : B) → g x ≡ h y → R y → SomeOf P (F x)) → (xs : List A) (ys : List B) → map g xs ≡ map h ys → SomeOf R ys → SomeOf P (flat_map F xs)
  walk_some P R each (x ∷ xs) (y ∷ ys) e (inl i) = let a : g x ≡ h y = cc in some_left P (F x) (flat_map F xs) (each x y a i)
  walk_some P R each (x ∷ xs) (y ∷ ys) e (inr i) = let b : map g xs ≡ map h ys = cc in some_right P (F x) (flat_map F xs) (walk_some P R each xs ys b i)
  walk_some P R each xs [] e i = absurd i
  walk_some P R each [] (y ∷ ys) e i = cc

pub map_drop : {A B : Type 0} (f : A → B) (i : ℕ) (xs : List A) → map f (drop i xs) ≡ drop i (map f xs)
map_drop f zero xs = refl
map_drop f (suc i) [] = refl
map_drop f (suc i) (x ∷ xs) = map_drop f i xs

-- ---- what is told at a number

module _ (P : Told → Type 0) where
  at_or : (k : ℕ) (y : Name) (t : Told) (o : Option Name) (b : Bool) → (t.number == k) ≡ b → P t → (o ≡ Some y → (x : Told) × P x × (x.number ≡ k) × (x.name ≡ y)) → elim b [ true ↦ Some t.name | false ↦ o ] ≡ Some y → (x : Told) × P x × (x.number ≡ k) × (x.name ≡ y)
  at_or k y t o true e h r i = let j : t.name ≡ y = cc in (t, h, eqb-true t.number k e, j)
  at_or k y t o false e h r i = r i

  told_some : (k : ℕ) (y : Name) (ts : List Told) → AllOf P ts → told_at k ts ≡ Some y → (x : Told) × P x × (x.number ≡ k) × (x.name ≡ y)
  unfolding told_at
  told_some k y [] h e = cc
  told_some k y (t ∷ ts) h e = at_or k y t (told_at k ts) (t.number == k) refl h.0 (λ i. told_some k y ts h.1 i) e

abbrev pub At : ℕ → Told → Type 0
At k t = t.number ≡ k

none_or : (k : ℕ) (t : Told) (o : Option Name) (b : Bool) → (t.number == k) ≡ b → ◌≡◌ {A = Option Name} (elim b [ true ↦ Some t.name | false ↦ o ]) None → (t.number ≡ k → ⊥) × (o ≡ None)
none_or k t o true e i = cc
none_or k t o false e i = (λ j. clash (t.number == k) (eq-eqb t.number k j) e, i)
  where
    clash : (c : Bool) → c ≡ true → c ≡ false → ⊥
    clash c m n = cc

told_none : (k : ℕ) (ts : List Told) → told_at k ts ≡ None → SomeOf (At k) ts → ⊥
unfolding told_at
told_none k [] e h = h
told_none k (t ∷ ts) e (inl h) = (none_or k t (told_at k ts) (t.number == k) refl e).0 h
told_none k (t ∷ ts) e (inr h) = told_none k ts (none_or k t (told_at k ts) (t.number == k) refl e).1 h

-- ---- names from a number on

module _ (u : ℕ) (ns : List Name) (ts : List Told) (sound : AllOf (ToldSo u ns) ts) where
  -- a name of the vat's own, or told
  abbrev OwnOrTold : ℕ → Name → Type 0
  OwnOrTold k n = IsOwnPromise u n ⊎ SomeOf (At k) ts

  abbrev EachFrom : ℕ → List Name → Type 0
  EachFrom k [] = Unit {0}
  EachFrom k (x ∷ xs) = OwnOrTold k x × EachFrom (suc k) xs

  here_is : (front rest : List Name) (n : Name) → slice_get (front ++ n ∷ rest) (length front) ≡ Some n
  here_is [] rest n = refl
  here_is (x ∷ front) rest n = here_is front rest n

  -- what is told there is the name, and no promise of the vat
  told_is : (k : ℕ) (n y : Name) → slice_get ns k ≡ Some n → told_at k ts ≡ Some y → (y ≡ n) × (IsOwnPromise u n → ⊥)
  told_is k n y at e =
      let h = told_some (ToldSo u ns) k y ts sound e in
      let same : ◌≡◌ {A = Option Name} (Some y) (Some n) = ap Some (sym h.3) ∙ sym h.1.0 ∙ ap (slice_get ns) h.2 ∙ at in
      let i : y ≡ n = cc in
      (i, λ o. h.1.1 (o.0, h.3 ∙ i ∙ o.1))

  joined : {x y : Name} {xs ys : List Name} → x ≡ y → xs ≡ ys → x ∷ xs ≡ y ∷ ys
  joined e i = cc

  length_end : (xs : List Name) (x : Name) → length (xs ++ x ∷ []) ≡ suc (length xs)
  length_end [] x = refl
  length_end (y ∷ xs) x = ap suc (length_end xs x)

  one_named : (k p : ℕ) (n : Name) (rest : List Name) (x : Option Name) → slice_get ns k ≡ Some n → told_at k ts ≡ x → OwnOrTold k n → InOrder u p (n ∷ rest) → ((q : ℕ) → InOrder u q rest → named_from u ts (suc k) q (length rest) ≡ rest)
      → elim x [ Some y ↦ y ∷ named_from u ts (suc k) p (length rest) | None ↦ Promise u p ∷ named_from u ts (suc k) (suc p) (length rest) ] ≡ n ∷ rest
  one_named k p n rest (Some y) at t w (inl i) r = absurd ((told_is k n y at t).1 (p, i.0))
  one_named k p n rest (Some y) at t w (inr i) r = joined (told_is k n y at t).0 (r p i.1)
  one_named k p n rest None at t (inl own) (inl i) r = joined (sym i.0) (r (suc p) i.1)
  one_named k p n rest None at t (inl own) (inr i) r = absurd (i.0 own)
  one_named k p n rest None at t (inr told) i r = absurd (told_none k ts t told)

  named_so : (front rest : List Name) (k p : ℕ) → k ≡ length front → ns ≡ front ++ rest → EachFrom k rest → InOrder u p rest → named_from u ts k p (length rest) ≡ rest
  unfolding named_from
  named_so front [] k p l e h o = refl
  named_so front (n ∷ rest) k p l e h o =
      let at : slice_get ns k ≡ Some n = ap (λ xs. slice_get xs k) e ∙ ap (slice_get (front ++ n ∷ rest)) l ∙ here_is front rest n in
      one_named k p n rest (told_at k ts) at refl h.0 o (λ q i. named_so (front ++ n ∷ []) rest (suc k) q (ap suc l ∙ sym (length_end front n)) (e ∙ sym (append_assoc front (n ∷ []) rest)) h.1 i)

-- ---- what lines, notes and gifts tell

message_mapped : {N M : Type 0} (f : N → M) (e : Happened N) → message_of (maps.line f e) ≡ option_map (maps.message f) (message_of e)
unfolding message_of
message_mapped f (Sends act m) = refl
message_mapped f other = refl

module _ (u : ℕ) (s r : Vat Name) (p : Vat Local) (t : Table) (carried came : List Name) (names : t.names ≡ names_in r.known) (mails : t.mails ≡ r.mails) (good : IsTable u t) (stands : StandsFor u t p r) (tells : Tells u s r carried came) where
  abbrev ns : List Name
  ns = names_in r.known

  abbrev f : Local → Found
  f = found u t

  abbrev So : Told → Type 0
  So = ToldSo u ns

  -- numbers of names
  prom_at : (k : ℕ) (n : Name) → f (Prom k) ≡ Is n → slice_get ns k ≡ Some n
  unfolding found
  prom_at k n e = ap (λ xs. slice_get xs k) (sym names) ∙ some_name (slice_get t.names k) k n e

  not_object : (h j : ℕ) (n : Name) → n ≡ Object h j → IsEventual n → ⊥
  not_object h j n e h2 = subst IsEventual e h2

  not_sent : (m : Msg) (n : Name) → n ≡ Sent m → IsEventual n → ⊥
  not_sent m n e h = subst IsEventual e h

  same_eventual : (n : Name) → IsEventual n → (k : ℕ) → slice_get ns k ≡ Some n → (j : ℕ) → slice_get ns j ≡ Some n → j ≡ k
  same_eventual n h k e j i =
      let a = good.distinct k k n n (ap (λ xs. slice_get xs k) names ∙ e) (ap (λ xs. slice_get xs k) names ∙ e) in
      let b = good.distinct j k n n (ap (λ xs. slice_get xs j) names ∙ i) (ap (λ xs. slice_get xs k) names ∙ e) in
      eqb-true j k (sym b ∙ a ∙ eq-eqb k k refl)

  number_is : (a : Local) (n : Name) (k : ℕ) → f a ≡ Is n → slice_get ns k ≡ Some n → a ≡ Prom k
  unfolding found
  number_is (Prom j) n k e i = ap Prom (same_eventual n (at_all IsEventual ns k n tells.eventual i) k i j (prom_at j n e))
  number_is (Obj j) n k e i = let h : n ≡ Object u j = cc in absurd (not_object u j n h (at_all IsEventual ns k n tells.eventual i))
  number_is (Far g q) n k e i = let h = some_far (t.exports g q) g q n e in absurd (not_object g h.0 n h.2 (at_all IsEventual ns k n tells.eventual i))
  number_is (Mess j) n k e i = let m = good.messages j n (some_mail (slice_get t.mails j) j n e) in absurd (not_sent m.0 n m.1 (at_all IsEventual ns k n tells.eventual i))

  -- the host that the vat has for it
  host_there : (k : ℕ) (n : Name) → slice_get ns k ≡ Some n → host_among p.known (Prom k) ≡ host_of n
  unfolding host_among
  host_there k n e = found_host (slice_get p.known k) (some_host ∙ host_or r.known k n tells.hosts e)
    where
      some_host : option_map (λ (x : Known Local). x.host) (slice_get p.known k) ≡ option_map (λ (x : Known Name). x.host) (slice_get r.known k)
      some_host = sym (slice_get-map (λ (x : Known Local). x.host) p.known k) ∙ ap (λ xs. slice_get xs k) (hosts_of u t p.known r.known (ap (λ (z : Vat Found). z.known) stands)) ∙ slice_get-map (λ (x : Known Name). x.host) r.known k

      found_host : (o : Option (Known Local)) → option_map (λ (x : Known Local). x.host) o ≡ Some (host_of n) → elim o [ Some e ↦ e.host | None ↦ zero ] ≡ host_of n
      found_host (Some x) i = cc
      found_host None i = cc

  -- the message of a number
  mail_so : (a : Local) (m : Name) → f a ≡ Is m → IsMessageName m → mail_at r.mails a ≡ m
  unfolding found mail_at
  mail_so (Mess j) m e h = got_or (slice_get r.mails j) (ap (λ xs. slice_get xs j) (sym mails) ∙ some_mail (slice_get t.mails j) j m e)
    where
      got_or : (o : Option Name) → o ≡ Some m → unwrap_or o (Root zero) ≡ m
      got_or (Some n) i = cc
      got_or None i = cc
  mail_so (Obj j) m e h = let i : m ≡ Object u j = cc in absurd (subst IsMessageName i h)
  mail_so (Far g q) m e h = let i = some_far (t.exports g q) g q m e in absurd (subst IsMessageName i.2 h)
  mail_so (Prom k) m e h = absurd (no_both m (at_all IsEventual ns k m tells.eventual (prom_at k m e)) h)
    where
      no_both : (n : Name) → IsEventual n → IsMessageName n → ⊥
      no_both (Root v) i j = j
      no_both (Object v x) i j = j
      no_both (Promise v x) i j = j
      no_both (Answer g x) i j = j
      no_both (Gift g x) i j = j
      no_both (Sent x) i j = i

  -- an answer is no promise of the vat
  answer_not : (h : ℕ) (m : Name) → IsMessageName m → IsOwnPromise u (answer_of h m) → ⊥
  unfolding answer_of
  answer_not h (Sent m) i o = clash o.1
    where
      clash : {j : ℕ} → Answer h m ≡ Promise u j → ⊥
      clash e = cc
  answer_not h other i o = i

  -- a promise that is told to be that
  promise_all : (a : Local) (n y : Name) → f a ≡ Is n → ((k : ℕ) → a ≡ Prom k → y ≡ n) → (IsOwnPromise u n → ⊥) → AllOf So (of_promise a y)
  unfolding of_promise
  promise_all (Prom k) n y e h o = let i = h k refl in ((prom_at k n e ∙ ap Some (sym i), λ x. o (x.0, sym i ∙ x.1)), tt)
  promise_all other n y e h o = tt

  promise_some : (k : ℕ) (a : Local) (y : Name) → a ≡ Prom k → SomeOf (At k) (of_promise a y)
  unfolding of_promise
  promise_some k (Prom j) y e = let i : j ≡ k = cc in inl i
  promise_some k other y e = cc

  -- ---- of one line

  abbrev told_by_message : Option (Message Local) → List Told
  told_by_message None = []
  told_by_message (Some m) = told_by_answer u p.known r.mails m.id m.answer

  line_told : (e : Happened Local) → told_by_line u p.known r.mails e ≡ told_by_message (message_of e)
  unfolding told_by_line message_of
  line_told (Sends act m) = refl
  line_told other = refl

  answer_told : (id : Local) (a : Option Local) (m : Name) (o : Option Name) → f id ≡ Is m → option_map f a ≡ option_map Is o → IsMessageName m → ((n : Name) → o ≡ Some n → n ≡ answer_of (host_of n) m) → AllOf So (told_by_answer u p.known r.mails id a)
  unfolding told_by_answer
  answer_told id None m o e i h so = tt
  answer_told id (Some a) m (Some n) e i h so =
      let j : f a ≡ Is n = cc in
      promise_all a n (answer_of (host_among p.known a) (mail_at r.mails id)) j
      (λ k b. ap (λ x. answer_of (host_among p.known x) (mail_at r.mails id)) b ∙ ap (λ x. answer_of x (mail_at r.mails id)) (host_there k n (prom_at k n (ap f (sym b) ∙ j))) ∙ ap (answer_of (host_of n)) (mail_so id m e h) ∙ sym (so n refl))
      (λ o. answer_not (host_of n) m h (o.0, sym (so n refl) ∙ o.1))
  answer_told id (Some a) m None e i h so = cc

  message_told : (x : Option (Message Local)) (y : Option (Message Name)) → option_map (maps.message f) x ≡ option_map (maps.message Is) y → MessageTells y → AllOf So (told_by_message x)
  message_told None y e h = tt
  message_told (Some m) (Some n) e h =
      let same : maps.message f m ≡ maps.message Is n = cc in
      answer_told m.id m.answer n.id n.answer (ap (λ (z : Message Found). z.id) same) (ap (λ (z : Message Found). z.answer) same) h.0 h.1
  message_told (Some m) None e h = cc

  messages_same : (x : Happened Local) (y : Happened Name) → maps.line f x ≡ maps.line Is y → option_map (maps.message f) (message_of x) ≡ option_map (maps.message Is) (message_of y)
  messages_same x y e = sym (message_mapped f x) ∙ ap message_of e ∙ message_mapped Is y

  line_so : (x : Happened Local) (y : Happened Name) → maps.line f x ≡ maps.line Is y → MessageTells (message_of y) → AllOf So (told_by_line u p.known r.mails x)
  line_so x y e h = subst (AllOf So) (sym (line_told x)) (message_told (message_of x) (message_of y) (messages_same x y e) h)

  answer_at : (k : ℕ) (n : Name) → slice_get ns k ≡ Some n → (x : Option (Message Local)) (y : Option (Message Name)) → option_map (maps.message f) x ≡ option_map (maps.message Is) y → IsItsAnswer n y → SomeOf (At k) (told_by_message x)
  unfolding told_by_answer
  answer_at k n at (Some m) (Some z) e h = by m.answer (ap (λ (v : Message Found). v.answer) same ∙ ap (option_map Is) h)
    where
      same : maps.message f m ≡ maps.message Is z
      same = cc

      by : (a : Option Local) → option_map f a ≡ Some (Is n) → SomeOf (At k) (told_by_answer u p.known r.mails m.id a)
      by (Some a) i = let j : f a ≡ Is n = cc in promise_some k a (answer_of (host_among p.known a) (mail_at r.mails m.id)) (number_is a n k j at)
      by None i = cc
  answer_at k n at None (Some z) e h = cc
  answer_at k n at x None e h = absurd h

  line_at : (k : ℕ) (n : Name) → slice_get ns k ≡ Some n → (x : Happened Local) (y : Happened Name) → maps.line f x ≡ maps.line Is y → IsItsAnswer n (message_of y) → SomeOf (At k) (told_by_line u p.known r.mails x)
  line_at k n at x y e h = subst (SomeOf (At k)) (sym (line_told x)) (answer_at k n at (message_of x) (message_of y) (messages_same x y e) h)

  -- ---- of one note

  option_told : (w : ℕ) (id : Local) (a : Option Local) (m : Name) (o : Option Name) → f id ≡ Is m → option_map f a ≡ option_map Is o → IsMessageName m → ((n : Name) → o ≡ Some n → n ≡ answer_of w m) → AllOf So (of_answer a (answer_of w (mail_at r.mails id)))
  unfolding of_answer
  option_told w id None m o e i h so = tt
  option_told w id (Some a) m (Some n) e i h so =
      let j : f a ≡ Is n = cc in
      promise_all a n (answer_of w (mail_at r.mails id)) j (λ k b. ap (answer_of w) (mail_so id m e h) ∙ sym (so n refl)) (λ o. answer_not w m h (o.0, sym (so n refl) ∙ o.1))
  option_told w id (Some a) m None e i h so = cc

  gift_not : (w i : ℕ) (n : Name) → n ≡ Gift w i → IsOwnPromise u n → ⊥
  gift_not w i n e o = clash (sym e ∙ o.1)
    where
      clash : {j : ℕ} → Gift w i ≡ Promise u j → ⊥
      clash h = cc

  note_so : (w : ℕ) (x : Note Local) (y : Note Name) → maps.note f x ≡ maps.note Is y → NoteTells w y → AllOf So (told_by_note u p.known r.mails w x)
  unfolding told_by_note
  note_so w (Deliver d x verb ys) (Deliver e z v zs) i h =
      let same : maps.delivery f d ≡ maps.delivery Is e = cc in
      option_told w d.message d.answer e.message e.answer (ap (λ (k : Delivery Found). k.message) same) (ap (λ (k : Delivery Found). k.answer) same) h.0 h.1
  note_so w (Ask g j x) (Ask q k z) i h = let a : f x ≡ Is z = cc in let b : j ≡ k = cc in promise_all x z (Gift w j) a (λ c l. ap (Gift w) b ∙ sym h) (gift_not w k z h)
  note_so w (Deliver d x verb ys) other i h = cc
  note_so w (Ask g j x) other i h = cc
  note_so w other y i h = tt

  note_at : (k : ℕ) (n : Name) → slice_get ns k ≡ Some n → (w : ℕ) (x : Note Local) (y : Note Name) → maps.note f x ≡ maps.note Is y → AsksAs n y → SomeOf (At k) (told_by_note u p.known r.mails w x)
  unfolding told_by_note of_answer
  note_at k n at w (Deliver d x verb ys) (Deliver e z v zs) i h = by d.answer (ap (λ (b : Delivery Found). b.answer) same ∙ ap (option_map Is) h)
    where
      same : maps.delivery f d ≡ maps.delivery Is e
      same = cc

      by : (a : Option Local) → option_map f a ≡ Some (Is n) → SomeOf (At k) (of_answer a (answer_of w (mail_at r.mails d.message)))
      by (Some a) j = let b : f a ≡ Is n = cc in promise_some k a (answer_of w (mail_at r.mails d.message)) (number_is a n k b at)
      by None j = cc
  note_at k n at w (Ask g j x) (Ask q c z) i h = let a : f x ≡ Is z = cc in promise_some k x (Gift w j) (number_is x n k (a ∙ ap Is h) at)
  note_at k n at w other (Deliver e z v zs) i h = cc
  note_at k n at w other (Ask q c z) i h = cc
  note_at k n at w x other i h = absurd h

  put_so : (x : Put Local) (y : Put Name) → maps.put f x ≡ maps.put Is y → NoteTells y.to y.note → AllOf So (told_by_put u p.known r.mails x)
  unfolding told_by_put
  put_so x y e h = let to : x.to ≡ y.to = ap (λ (z : Put Found). z.to) e in note_so x.to x.note y.note (ap (λ (z : Put Found). z.note) e) (subst (λ w. NoteTells w y.note) (sym to) h)

  put_at : (k : ℕ) (n : Name) → slice_get ns k ≡ Some n → (x : Put Local) (y : Put Name) → maps.put f x ≡ maps.put Is y → AsksAs n y.note → SomeOf (At k) (told_by_put u p.known r.mails x)
  unfolding told_by_put
  put_at k n at x y e h = note_at k n at x.to x.note y.note (ap (λ (z : Put Found). z.note) e) h

  -- ---- of one gift

  gift_so : (x : GiftEntry Local) (y : GiftEntry Name) → maps.gift f x ≡ maps.gift Is y → y.name ≡ Gift u y.number → AllOf So (told_by_gift u p.known r.mails x)
  unfolding told_by_gift
  gift_so x y e h =
      let name : f x.name ≡ Is y.name = ap (λ (z : GiftEntry Found). z.name) e in let number : x.number ≡ y.number = ap (λ (z : GiftEntry Found). z.number) e in
      promise_all x.name y.name (Gift u x.number) name (λ c l. ap (Gift u) number ∙ sym h) (gift_not u y.number y.name h)

  gift_at : (k : ℕ) (n : Name) → slice_get ns k ≡ Some n → (x : GiftEntry Local) (y : GiftEntry Name) → maps.gift f x ≡ maps.gift Is y → y.name ≡ n → SomeOf (At k) (told_by_gift u p.known r.mails x)
  unfolding told_by_gift
  gift_at k n at x y e h = promise_some k x.name (Gift u x.number) (number_is x.name n k (ap (λ (z : GiftEntry Found). z.name) e ∙ ap Is h) at)

  -- ---- of the whole step

  module _ (gifts : ℕ) (count : gifts ≡ length s.gifts) (brought : List Told) (so : BroughtSo u ns came brought) where
    lines : map (maps.line f) p.happened ≡ map (maps.line Is) r.happened
    lines = ap (λ (z : Vat Found). z.happened) stands

    puts : map (maps.put f) p.outbox ≡ map (maps.put Is) r.outbox
    puts = ap (λ (z : Vat Found). z.outbox) stands

    hosted : map (maps.gift f) (drop gifts p.gifts) ≡ map (maps.gift Is) (drop (length s.gifts) r.gifts)
    hosted = map_drop (maps.gift f) gifts p.gifts ∙ ap (drop gifts) (ap (λ (z : Vat Found). z.gifts) stands) ∙ sym (map_drop (maps.gift Is) gifts r.gifts) ∙ ap (λ k. map (maps.gift Is) (drop k r.gifts)) count

    abbrev told : List Told
    told = brought ++ told_in_step u gifts r.mails p

    abbrev told_lines : List Told
    told_lines = flat_map (told_by_line u p.known r.mails) p.happened

    abbrev told_puts : List Told
    told_puts = flat_map (told_by_put u p.known r.mails) p.outbox

    abbrev told_gifts : List Told
    told_gifts = flat_map (told_by_gift u p.known r.mails) (drop gifts p.gifts)

    told_so : AllOf So told
    unfolding told_in_step
    told_so = all_join So brought (told_lines ++ told_puts ++ told_gifts) so.sound (all_join So (told_lines ++ told_puts) told_gifts
        (all_join So told_lines told_puts
        (walk_all (maps.line f) (maps.line Is) (told_by_line u p.known r.mails) So (λ e. MessageTells (message_of e)) line_so p.happened r.happened lines tells.lines)
        (walk_all (maps.put f) (maps.put Is) (told_by_put u p.known r.mails) So (λ e. NoteTells e.to e.note) put_so p.outbox r.outbox puts tells.notes))
        (walk_all (maps.gift f) (maps.gift Is) (told_by_gift u p.known r.mails) So (λ g. g.name ≡ Gift u g.number) gift_so (drop gifts p.gifts) (drop (length s.gifts) r.gifts) hosted tells.gifts))

    told_there : (k : ℕ) (n : Name) → slice_get ns k ≡ Some n → SomeOf (λ (e : Happened Name). IsItsAnswer n (message_of e)) r.happened ⊎ (SomeOf (λ (y : Put Name). AsksAs n y.note) r.outbox ⊎ (SomeOf (λ (g : GiftEntry Name). g.name ≡ n) (drop (length s.gifts) r.gifts) ⊎ IsAmong n came)) → SomeOf (At k) told
    unfolding told_in_step
    told_there k n at (inl h) = some_right (At k) brought (told_lines ++ told_puts ++ told_gifts) (some_left (At k) (told_lines ++ told_puts) told_gifts (some_left (At k) told_lines told_puts (walk_some (maps.line f) (maps.line Is) (told_by_line u p.known r.mails) (At k) (λ e. IsItsAnswer n (message_of e)) (line_at k n at) p.happened r.happened lines h)))
    told_there k n at (inr (inl h)) = some_right (At k) brought (told_lines ++ told_puts ++ told_gifts) (some_left (At k) (told_lines ++ told_puts) told_gifts (some_right (At k) told_lines told_puts (walk_some (maps.put f) (maps.put Is) (told_by_put u p.known r.mails) (At k) (λ y. AsksAs n y.note) (put_at k n at) p.outbox r.outbox puts h)))
    told_there k n at (inr (inr (inl h))) = some_right (At k) brought (told_lines ++ told_puts ++ told_gifts) (some_right (At k) (told_lines ++ told_puts) told_gifts (walk_some (maps.gift f) (maps.gift Is) (told_by_gift u p.known r.mails) (At k) (λ g. g.name ≡ n) (gift_at k n at) (drop gifts p.gifts) (drop (length s.gifts) r.gifts) hosted h))
    told_there k n at (inr (inr (inr h))) = some_left (At k) brought (told_lines ++ told_puts ++ told_gifts) (so.all k n at h)

    -- what is new is the vat's own, or told at its number
    abbrev Source : Name → Type 0
    Source n = IsOwnPromise u n ⊎ (SomeOf (λ (e : Happened Name). IsItsAnswer n (message_of e)) r.happened ⊎ (SomeOf (λ (y : Put Name). AsksAs n y.note) r.outbox ⊎ (SomeOf (λ (g : GiftEntry Name). g.name ≡ n) (drop (length s.gifts) r.gifts) ⊎ IsAmong n came)))

    own_or_told : (k : ℕ) (n : Name) → slice_get ns k ≡ Some n → Source n → OwnOrTold u ns told told_so k n
    own_or_told k n at (inl h) = inl h
    own_or_told k n at (inr h) = inr (told_there k n at h)

    each_from : (front rest : List Name) (k : ℕ) → k ≡ length front → ns ≡ front ++ rest → AllOf Source rest → EachFrom u ns told told_so k rest
    each_from front [] k l e h = tt
    each_from front (n ∷ rest) k l e h = (
      own_or_told k n (ap (λ xs. slice_get xs k) e ∙ ap (slice_get (front ++ n ∷ rest)) l ∙ here_is u ns told told_so front rest n) h.0,
      each_from (front ++ n ∷ []) rest (suc k) (ap suc l ∙ sym (length_end u ns told told_so front n)) (e ∙ sym (append_assoc front (n ∷ []) rest)) h.1,
    )

    all_named : named_from u told (length (names_in s.known)) s.promises (length tells.new) ≡ tells.new
    all_named = named_so u ns told told_so (names_in s.known) tells.new (length (names_in s.known)) s.promises refl tells.grows (each_from (names_in s.known) tells.new (length (names_in s.known)) refl tells.grows tells.all) tells.order

length_mapped : {A B : Type 0} (g : A → B) (xs : List A) → length (map g xs) ≡ length xs
length_mapped g [] = refl
length_mapped g (x ∷ xs) = ap suc (length_mapped g xs)

length_on : (xs ys : List Name) → length (xs ++ ys) ≡ length xs + length ys
length_on [] ys = omega arith
length_on (x ∷ xs) ys = let h = length_on xs ys in omega arith

names_same : {x y z w : List Name} → x ≡ y → z ≡ w → ◌≡◌ {A = Names} (record { known = x; mails = z }) (record { known = y; mails = w })
names_same e i = cc

pub names_mirror : NamesMirror
unfolding names_after
names_mirror u s r q p t carried came brought names known mails good stands tells known_so mails_so promises messages gifts so =
    let number : p.messages ≡ r.messages = ap (λ (z : Vat Found). z.messages) stands in
    let ms : names.mails ++ carried ++ own_mails u q.messages (p.messages - q.messages) ≡ r.mails =
    ap (λ xs. xs ++ carried ++ own_mails u q.messages (p.messages - q.messages)) mails_so ∙ ap (λ k. s.mails ++ carried ++ own_mails u k (p.messages - k)) messages ∙ ap (λ k. s.mails ++ carried ++ own_mails u s.messages (k - s.messages)) number ∙ sym tells.mails in
    let count : length p.known ≡ length (names_in s.known) + length tells.new =
    sym (length_mapped (maps.known (found u t)) p.known) ∙ ap (λ (z : Vat Found). length z.known) stands ∙ length_mapped (maps.known Is) r.known ∙ sym (length_mapped (λ (k : Known Name). k.name) r.known) ∙ ap length tells.grows ∙ length_on (names_in s.known) tells.new in
    let fewer : length p.known - length names.known ≡ length tells.new = let l : length names.known ≡ length (names_in s.known) = ap length known_so in omega arith in
    names_same
    (ap (λ xs. xs ++ named_from u (brought ++ told_in_step u (length q.gifts) (names.mails ++ carried ++ own_mails u q.messages (p.messages - q.messages)) p) (length names.known) q.promises (length p.known - length names.known)) known_so
    ∙ ap (λ zs. names_in s.known ++ named_from u (brought ++ told_in_step u (length q.gifts) zs p) (length names.known) q.promises (length p.known - length names.known)) ms
    ∙ ap (λ zs. names_in s.known ++ named_from u (brought ++ told_in_step u (length q.gifts) r.mails p) (length zs) q.promises (length p.known - length names.known)) known_so
    ∙ ap (λ k. names_in s.known ++ named_from u (brought ++ told_in_step u (length q.gifts) r.mails p) (length (names_in s.known)) k (length p.known - length names.known)) promises
    ∙ ap (λ k. names_in s.known ++ named_from u (brought ++ told_in_step u (length q.gifts) r.mails p) (length (names_in s.known)) s.promises k) fewer
    ∙ ap (λ xs. names_in s.known ++ xs) (all_named u s r p t carried came known mails good stands tells (length q.gifts) gifts brought so)
    ∙ sym tells.grows)
    ms
