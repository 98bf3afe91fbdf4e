-- What a step tells, by the laws of what steps tell.
use Rattle.std.proofs.Common.{◌≡◌, ℕ, zero, suc, ◌+◌, ◌-◌, ◌≤◌, Bool, true, false, List, [], ◌∷◌, ◌++◌, ◌⊎◌, inl, inr, Option, None, refl, sym, ap, ◌∙◌, subst, length, drop, arith}
use Rattle.std.proofs.lemmas.Bool.{eq-eqb}
use Rattle.def_machine.specs.Values.{Name, Promise, Gift}
use Rattle.def_machine.specs.State.{Note, Deliver, Ask, Put, GiftEntry, Happened, Sends, Reacts, Vat}
use Rattle.law_fate.specs.Name.Names.{AllOf, IsAmong, HostIsTrue, IsEventual, IsMessageName, names_in}
use Rattle.law_fate.proofs.Name.Among.{all_among}
use Rattle.law_fate.proofs.Name.Facts.{all_map}
use Rattle.def_run.specs.Names.{own_mails}
use Rattle.law_frame.specs.Frame.Lines.{LineFits, AnswersIn}
use Rattle.law_frame.specs.Local.Told as told
use Rattle.law_frame.specs.Local.Told.{is_own_promise, own_promises, promises_from, carried_by, AsksKnown, IsBroughtBy, IsTold}
use Rattle.law_frame.specs.Local.Naming.{SomeOf, message_of, MessageTells, NoteTells, IsItsAnswer, AsksAs, IsOwnPromise, InOrder, Tells}

-- ---- the vat's own promises, in order

own_of_two : (u : ℕ) (xs ys : List Name) → own_promises u (xs ++ ys) ≡ own_promises u xs ++ own_promises u ys
unfolding own_promises
own_of_two u [] ys = refl
own_of_two u (x ∷ xs) ys = by (is_own_promise u x) (own_of_two u xs ys)
  where
    by : (b : Bool) → own_promises u (xs ++ ys) ≡ own_promises u xs ++ own_promises u ys
        → ◌≡◌ {A = List Name} (elim b [ true ↦ x ∷ own_promises u (xs ++ ys) | false ↦ own_promises u (xs ++ ys) ]) (elim b [ true ↦ x ∷ own_promises u xs | false ↦ own_promises u xs ] ++ own_promises u ys)
    by true e = ap (λ zs. x ∷ zs) e
    by false e = e

-- what stands behind the first of them is the rest of them
rest_of : (u j a b : ℕ) (xs : List Name) → promises_from u j a ++ xs ≡ promises_from u j b → (c : ℕ) × (xs ≡ promises_from u (j + a) c)
unfolding promises_from
rest_of u j zero b xs e = let i : j ≡ j + zero = omega arith in (b, e ∙ ap (λ k. promises_from u k b) i)
rest_of u j (suc a) zero xs e = cc
rest_of u j (suc a) (suc b) xs e = let f : promises_from u (suc j) a ++ xs ≡ promises_from u (suc j) b = cc in let r = rest_of u (suc j) a b xs f in let i : suc j + a ≡ j + suc a = omega arith in (r.0, r.1 ∙ ap (λ k. promises_from u k r.0) i)

own_made : (u i : ℕ) → is_own_promise u (Promise u i) ≡ true
unfolding is_own_promise
own_made u i = eq-eqb u u refl

not_own : (u : ℕ) (n : Name) → is_own_promise u n ≡ false → IsOwnPromise u n → ⊥
not_own u n e i = clash (is_own_promise u n) e (ap (is_own_promise u) i.1 ∙ own_made u i.0)
  where
    clash : (b : Bool) → b ≡ false → b ≡ true → ⊥
    clash b f g = cc

first_made : (u p c : ℕ) (n : Name) (ns : List Name) → n ∷ ns ≡ promises_from u p c → (n ≡ Promise u p) × ((z : ℕ) × (ns ≡ promises_from u (suc p) z))
unfolding promises_from
first_made u p zero n ns e = cc
first_made u p (suc d) n ns e = let a : n ≡ Promise u p = cc in let b : ns ≡ promises_from u (suc p) d = cc in (a, (d, b))

in_order : (u p c : ℕ) (ns : List Name) → own_promises u ns ≡ promises_from u p c → InOrder u p ns
unfolding own_promises
in_order u p c [] e = tt
in_order u p c (n ∷ ns) e = by (is_own_promise u n) refl e (λ a b f. in_order u a b ns f)
  where
    by : (b : Bool) → is_own_promise u n ≡ b → elim b [ true ↦ n ∷ own_promises u ns | false ↦ own_promises u ns ] ≡ promises_from u p c → ((a d : ℕ) → own_promises u ns ≡ promises_from u a d → InOrder u a ns) → ((n ≡ Promise u p) × InOrder u (suc p) ns) ⊎ ((IsOwnPromise u n → ⊥) × InOrder u p ns)
    by true i f h = let g = first_made u p c n (own_promises u ns) f in inl (g.0, h (suc p) g.1.0 g.1.1)
    by false i f h = inr (not_own u n i, h p c f)

new_in_order : (u a b : ℕ) (xs new ys : List Name) → ys ≡ xs ++ new → own_promises u xs ≡ promises_from u zero a → own_promises u ys ≡ promises_from u zero b → InOrder u a new
new_in_order u a b xs new ys e f g = let r = rest_of u zero a b (own_promises u new) (sym (ap (λ zs. zs ++ own_promises u new) f) ∙ sym (own_of_two u xs new) ∙ sym (ap (own_promises u) e) ∙ g) in let i : zero + a ≡ a = omega arith in subst (λ k. InOrder u k new) i (in_order u (zero + a) r.0 new r.1)

-- ---- each is told

some_of : {A : Type 0} (P : A → Type 0) (xs : List A) (x : A) → IsAmong x xs → P x → SomeOf P xs
some_of P [] x a h = absurd a
some_of P (y ∷ ys) x (inl e) h = inl (subst P e h)
some_of P (y ∷ ys) x (inr a) h = inr (some_of P ys x a h)

of_drop : {A : Type 0} (P : A → Type 0) (k : ℕ) (xs : List A) → AllOf P xs → AllOf P (drop k xs)
of_drop P zero xs h = h
of_drop P (suc k) [] h = h
of_drop P (suc k) (x ∷ xs) h = of_drop P k xs h.1

answers_so : (e : Happened Name) (n : Name) → AnswersIn e n → IsItsAnswer n (message_of e)
unfolding message_of
answers_so (Sends act m) n h = h
answers_so (Reacts act x o m) n h = h
answers_so e n h = absurd h

asks_so : (x : Note Name) (n : Name) → told.AsksAs x n → AsksAs n x
asks_so (Deliver d t verb ys) n h = h
asks_so other n h = h

line_tells : (ns ms : List Name) (e : Happened Name) → LineFits ns ms e → MessageTells (message_of e)
unfolding message_of
line_tells ns ms (Sends act m) h = (h.0, λ n i. (h.2 n i).0)
line_tells ns ms (Reacts act x o m) h = (h.0, λ n i. (h.2 n i).0)
line_tells ns ms e h = tt

note_tells : (r : Vat Name) → AllOf IsMessageName r.mails → (w : ℕ) (x : Note Name) → AsksKnown r w x → NoteTells w x
note_tells r h w (Deliver d n verb ys) k = (all_among IsMessageName r.mails d.message h k.0, λ x e. (k.1 x e).0)
note_tells r h w (Ask p i n) k = k.0
note_tells r h w other k = tt

-- where what the note that arrived brought came, if one did
told_so : (u : ℕ) (s r : Vat Name) (o : Option (Note Name)) (came : List Name) (n : Name) → (IsBroughtBy u (names_in s.known) o n → IsAmong n came) → IsTold u s o r n
    → IsOwnPromise u n ⊎ (SomeOf (λ (e : Happened Name). IsItsAnswer n (message_of e)) r.happened ⊎ (SomeOf (λ (p : Put Name). AsksAs n p.note) r.outbox ⊎ (SomeOf (λ (g : GiftEntry Name). g.name ≡ n) (drop (length s.gifts) r.gifts) ⊎ IsAmong n came)))
told_so u s r o came n f (inl i) = inl i
told_so u s r o came n f (inr (inl a)) = inr (inl (some_of (λ (e : Happened Name). IsItsAnswer n (message_of e)) r.happened a.0 a.1 (answers_so a.0 n a.2)))
told_so u s r o came n f (inr (inr (inl a))) = inr (inr (inl (some_of (λ (p : Put Name). AsksAs n p.note) r.outbox a.0 a.1 (asks_so a.0.note n a.2))))
told_so u s r o came n f (inr (inr (inr (inl a)))) = inr (inr (inr (inl (some_of (λ (g : GiftEntry Name). g.name ≡ n) (drop (length s.gifts) r.gifts) a.0 a.1 a.2))))
told_so u s r o came n f (inr (inr (inr (inr a)))) = inr (inr (inr (inr (f a))))

-- what follows of each that is there
all_there : {A : Type 0} (P Q : A → Type 0) (xs ys : List A) → ((x : A) → IsAmong x ys → IsAmong x xs) → ((x : A) → IsAmong x xs → P x → Q x) → AllOf P ys → AllOf Q ys
all_there P Q xs [] f g h = tt
all_there P Q xs (y ∷ ys) f g h = (g y (f y (inl refl)) h.0, all_there P Q xs ys (λ x a. f x (inr a)) g h.1)

-- What the laws say of a step of vat u from state s to state r, which note o brought, if one did.
pub record Laws (u : ℕ) (s r : Vat Name) (o : Option (Note Name)) : Type 0 where
  pub messages : (s.messages ≤ r.messages) × (r.mails ≡ s.mails ++ carried_by o ++ own_mails u s.messages (r.messages - s.messages))
  pub apart : AllOf IsEventual (names_in r.known) × AllOf IsMessageName r.mails
  pub hosts : AllOf HostIsTrue r.known
  pub lines : AllOf (LineFits (names_in r.known) r.mails) r.happened
  pub notes : AllOf (λ (p : Put Name). AsksKnown r p.to p.note) r.outbox
  pub gifts : AllOf (λ (g : GiftEntry Name). (g.name ≡ Gift u g.number) × IsAmong g.name (names_in r.known)) r.gifts
  pub news : (ns : List Name) × (names_in r.known ≡ names_in s.known ++ ns) × AllOf (IsTold u s o r) ns
  pub own_before : own_promises u (names_in s.known) ≡ promises_from u zero s.promises
  pub own_after : own_promises u (names_in r.known) ≡ promises_from u zero r.promises

pub laws_tell_of : (u : ℕ) (s r : Vat Name) (o : Option (Note Name)) (h : Laws u s r o) (came : List Name) → ((n : Name) → IsAmong n (let t = h.news in t.0) → IsBroughtBy u (names_in s.known) o n → IsAmong n came) → Tells u s r (carried_by o) came
laws_tell_of u s r o h came f = record {
  new = h.news.0;
  grows = h.news.1;
  mails = h.messages.1;
  eventual = h.apart.0;
  hosts = h.hosts;
  lines = all_map (λ (e : Happened Name) i. line_tells (names_in r.known) r.mails e i) r.happened h.lines;
  notes = all_map (λ (p : Put Name) i. note_tells r h.apart.1 p.to p.note i) r.outbox h.notes;
  gifts = of_drop (λ (g : GiftEntry Name). g.name ≡ Gift u g.number) (length s.gifts) r.gifts (all_map (λ (g : GiftEntry Name) i. i.0) r.gifts h.gifts);
  all = all_there (IsTold u s o r) _ h.news.0 h.news.0 (λ n a. a) (λ n a i. told_so u s r o came n (f n a) i) h.news.2;
  order = new_in_order u s.promises r.promises (names_in s.known) h.news.0 (names_in r.known) h.news.1 h.own_before h.own_after;
}

-- where no note did
pub laws_tell : (u : ℕ) (s r : Vat Name) → Laws u s r None → Tells u s r [] []
unfolding carried_by
laws_tell u s r h = laws_tell_of u s r None h [] (λ n a i. i)
