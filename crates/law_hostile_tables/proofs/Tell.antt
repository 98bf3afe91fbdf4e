-- Each step of an honest vat tells the names that come to be known in it, and its own promises come in order.
use Rattle.std.proofs.Common.{◌≡◌, ℕ, zero, suc, ◌+◌, ◌-◌, Bool, true, false, List, [], ◌∷◌, ◌++◌, ◌⊎◌, inl, inr, Option, Some, None, refl, sym, ap, ◌∙◌, subst, length, drop, arith}
use Rattle.std.proofs.lemmas.Bool.{eq-eqb}
use Rattle.def_machine.specs.Values.{Name, Promise, Gift, answer_of}
use Rattle.def_machine.specs.State.{Note, Deliver, Ask, Put, GiftEntry, Happened, Sends, Reacts, Vat}
use Rattle.def_run.specs.Names.{own_mails}
use Rattle.def_run.specs.World.{Script, World, readied}
use Rattle.law_fate.specs.Name.Names.{AllOf, IsAmong, HostIsTrue, names_in}
use Rattle.law_fate.proofs.Name.Among.{all_among}
use Rattle.law_fate.proofs.Name.Facts.{all_map}
use Rattle.law_reference.specs.Reference.Notes.{answer_due, NamesItsAnswer}
use Rattle.law_frame.specs.Frame.Asked.{AsksOf, AskFits}
use Rattle.law_frame.specs.Frame.Lines.{LineFits, AnswersIn}
use Rattle.law_frame.specs.Local.Told.{is_own_promise, own_promises, promises_from, carried_by, IsBroughtBy}
use Rattle.law_frame.specs.Local.Naming.{SomeOf, message_of, MessageTells, NoteTells, IsItsAnswer, AsksAs, IsOwnPromise, InOrder, Tells}
use Rattle.law_frame.proofs.Frame.ArriveAsking.{MailFits}
use Rattle.law_frame.proofs.Frame.WireAsking.{Steady, Mailed, Comes, PutFits, gift_names}
use Rattle.law_frame.proofs.Local.ToldSteady.{HeardIn, DueBy, telling, Ready}
use Rattle.law_hostile_tables.proofs.Standing.{Standing}

-- ---- the vat's own promises, in order

own_of_two : (u : ℕ) (xs ys : List Name) → own_promises u (xs ++ ys) ≡ own_promises u xs ++ own_promises u ys
unfolding own_promises
own_of_two u [] ys = refl
own_of_two u (x ∷ xs) ys = by (is_own_promise u x) (own_of_two u xs ys)
  where
    by : (b : Bool) → own_promises u (xs ++ ys) ≡ own_promises u xs ++ own_promises u ys
        → ◌≡◌ {A = List Name} (elim b [ true ↦ x ∷ own_promises u (xs ++ ys) | false ↦ own_promises u (xs ++ ys) ]) (elim b [ true ↦ x ∷ own_promises u xs | false ↦ own_promises u xs ] ++ own_promises u ys)
    by true e = ap (λ zs. x ∷ zs) e
    by false e = e

-- what stands behind the first of them is the rest of them
rest_of : (u j a b : ℕ) (xs : List Name) → promises_from u j a ++ xs ≡ promises_from u j b → (c : ℕ) × (xs ≡ promises_from u (j + a) c)
unfolding promises_from
rest_of u j zero b xs e = let i : j ≡ j + zero = omega arith in (b, e ∙ ap (λ k. promises_from u k b) i)
rest_of u j (suc a) zero xs e = cc
rest_of u j (suc a) (suc b) xs e = let f : promises_from u (suc j) a ++ xs ≡ promises_from u (suc j) b = cc in let r = rest_of u (suc j) a b xs f in let i : suc j + a ≡ j + suc a = omega arith in (r.0, r.1 ∙ ap (λ k. promises_from u k r.0) i)

own_made : (u i : ℕ) → is_own_promise u (Promise u i) ≡ true
unfolding is_own_promise
own_made u i = eq-eqb u u refl

not_own : (u : ℕ) (n : Name) → is_own_promise u n ≡ false → IsOwnPromise u n → ⊥
not_own u n e i = clash (is_own_promise u n) e (ap (is_own_promise u) i.1 ∙ own_made u i.0)
  where
    clash : (b : Bool) → b ≡ false → b ≡ true → ⊥
    clash b f g = cc

first_made : (u p c : ℕ) (n : Name) (ns : List Name) → n ∷ ns ≡ promises_from u p c → (n ≡ Promise u p) × ((z : ℕ) × (ns ≡ promises_from u (suc p) z))
unfolding promises_from
first_made u p zero n ns e = cc
first_made u p (suc d) n ns e = let a : n ≡ Promise u p = cc in let b : ns ≡ promises_from u (suc p) d = cc in (a, (d, b))

in_order : (u p c : ℕ) (ns : List Name) → own_promises u ns ≡ promises_from u p c → InOrder u p ns
unfolding own_promises
in_order u p c [] e = tt
in_order u p c (n ∷ ns) e = by (is_own_promise u n) refl e (λ a b f. in_order u a b ns f)
  where
    by : (b : Bool) → is_own_promise u n ≡ b → elim b [ true ↦ n ∷ own_promises u ns | false ↦ own_promises u ns ] ≡ promises_from u p c → ((a d : ℕ) → own_promises u ns ≡ promises_from u a d → InOrder u a ns) → ((n ≡ Promise u p) × InOrder u (suc p) ns) ⊎ ((IsOwnPromise u n → ⊥) × InOrder u p ns)
    by true i f h = let g = first_made u p c n (own_promises u ns) f in inl (g.0, h (suc p) g.1.0 g.1.1)
    by false i f h = inr (not_own u n i, h p c f)

new_in_order : (u a b : ℕ) (xs new ys : List Name) → ys ≡ xs ++ new → own_promises u xs ≡ promises_from u zero a → own_promises u ys ≡ promises_from u zero b → InOrder u a new
new_in_order u a b xs new ys e f g = let r = rest_of u zero a b (own_promises u new) (sym (ap (λ zs. zs ++ own_promises u new) f) ∙ sym (own_of_two u xs new) ∙ sym (ap (own_promises u) e) ∙ g) in let i : zero + a ≡ a = omega arith in subst (λ k. InOrder u k new) i (in_order u (zero + a) r.0 new r.1)

-- ---- each is told

some_of : {A : Type 0} (P : A → Type 0) (xs : List A) (x : A) → IsAmong x xs → P x → SomeOf P xs
some_of P [] x a h = absurd a
some_of P (y ∷ ys) x (inl e) h = inl (subst P e h)
some_of P (y ∷ ys) x (inr a) h = inr (some_of P ys x a h)

of_drop : {A : Type 0} (P : A → Type 0) (k : ℕ) (xs : List A) → AllOf P xs → AllOf P (drop k xs)
of_drop P zero xs h = h
of_drop P (suc k) [] h = h
of_drop P (suc k) (x ∷ xs) h = of_drop P k xs h.1

answers_so : (e : Happened Name) (n : Name) → AnswersIn e n → IsItsAnswer n (message_of e)
unfolding message_of
answers_so (Sends act m) n h = h
answers_so (Reacts act x o m) n h = h
answers_so e n h = absurd h

line_tells : (ns ms : List Name) (e : Happened Name) → LineFits ns ms e → MessageTells (message_of e)
unfolding message_of
line_tells ns ms (Sends act m) h = (h.0, λ n i. (h.2 n i).0)
line_tells ns ms (Reacts act x o m) h = (h.0, λ n i. (h.2 n i).0)
line_tells ns ms e h = tt

due_is : (w : ℕ) (b : Bool) (m x : Name) → b ≡ true → answer_of w m ≡ x → answer_due w b m ≡ Some x
due_is w true m x e f = ap Some f
due_is w false m x e f = cc

due_back : (w : ℕ) (b : Bool) (m x : Name) → answer_due w b m ≡ Some x → x ≡ answer_of w m
due_back w true m x e = let f : answer_of w m ≡ x = cc in sym f
due_back w false m x e = cc

asks_as : (w : ℕ) (n : Note Name) (x : Name) → NamesItsAnswer w n → AsksOf w n x → AsksAs x n
asks_as w (Deliver d n verb ys) x e h = e ∙ due_is w d.asks d.message x h.0 h.1
asks_as w (Ask p i n) x e h = h
asks_as w other x e h = absurd h

note_tells : (ns : List Name) (w : ℕ) (n : Note Name) → MailFits n → NamesItsAnswer w n → AskFits ns w n → NoteTells w n
note_tells ns w (Deliver d n verb ys) m e f = (m, λ x i. due_back w d.asks d.message x (sym e ∙ i))
note_tells ns w (Ask p i n) m e f = f.1
note_tells ns w other m e f = tt

puts_tell : (v : ℕ) (ns : List Name) (ps : List (Put Name)) → AllOf (λ (p : Put Name). MailFits p.note) ps → AllOf (λ (p : Put Name). NamesItsAnswer p.to p.note) ps → AllOf (PutFits v ns) ps → AllOf (λ (p : Put Name). NoteTells p.to p.note) ps
puts_tell v ns [] m e f = tt
puts_tell v ns (p ∷ ps) m e f = (note_tells ns p.to p.note m.0 e.0 f.0.0, puts_tell v ns ps m.1 e.1 f.1)

named_gift : (gs : List (GiftEntry Name)) (x : Name) → IsAmong x (gift_names gs) → (g : GiftEntry Name) × IsAmong g gs × (g.name ≡ x)
named_gift [] x a = absurd a
named_gift (g ∷ gs) x (inl e) = (g, inl refl, sym e)
named_gift (g ∷ gs) x (inr a) = let r = named_gift gs x a in (r.0, inr r.1, r.2)

-- a gift that came
gift_came : (ss ts : List (GiftEntry Name)) (ns : List Name) (x : Name) → gift_names ts ≡ gift_names ss ++ ns → IsAmong x ns → (g : GiftEntry Name) × IsAmong g (drop (length ss) ts) × (g.name ≡ x)
gift_came [] ts ns x e a = named_gift ts x (rw (sym e) at a)
gift_came (s ∷ ss) [] ns x e a = cc
gift_came (s ∷ ss) (t ∷ ts) ns x e a = let f : gift_names ts ≡ gift_names ss ++ ns = cc in gift_came ss ts ns x f a

brought_heard : (v : ℕ) (ks : List Name) (o : Option (Note Name)) (x : Name) → HeardIn ks o x → IsBroughtBy v ks o x
brought_heard v ks None x h = h
brought_heard v ks (Some n) x h = inl h

brought_due : (v : ℕ) (ks : List Name) (o : Option (Note Name)) (x : Name) → DueBy v o x → IsBroughtBy v ks o x
brought_due v ks None x h = h
brought_due v ks (Some n) x h = inr h

counted : (v : ℕ) (w : World) (s t : Vat Name) (o : Option (Note Name)) → Mailed v (Ready w s o) t → t.mails ≡ s.mails ++ carried_by o ++ own_mails v s.messages (t.messages - s.messages)
unfolding readied
counted v w s t o m = let e : t.messages ≡ s.messages + m.0 = m.1 in let f : t.messages - s.messages ≡ m.0 = omega arith in rw f m.2

module _ (script : Script) (w : World) (v : ℕ) (s t : Vat Name) (o : Option (Note Name)) (after : Standing v t) (steady : Steady v (telling script v (names_in s.known) o) (Ready w s o) t) (mail : AllOf (λ (p : Put Name). MailFits p.note) t.outbox) (hosts : AllOf HostIsTrue t.known)
    (own_before : own_promises v (names_in s.known) ≡ promises_from v zero s.promises) (own_after : own_promises v (names_in t.known) ≡ promises_from v zero t.promises) (came : List Name) (brought : (x : Name) → IsBroughtBy v (names_in s.known) o x → IsAmong x came) where
  abbrev IsTold : Name → Type 0
  IsTold n = IsOwnPromise v n ⊎ (SomeOf (λ (e : Happened Name). IsItsAnswer n (message_of e)) t.happened ⊎ (SomeOf (λ (p : Put Name). AsksAs n p.note) t.outbox ⊎ (SomeOf (λ (g : GiftEntry Name). g.name ≡ n) (drop (length s.gifts) t.gifts) ⊎ IsAmong n came)))

  of_gift : (n : Name) → (g : GiftEntry Name) × IsAmong g (drop (length s.gifts) t.gifts) × (g.name ≡ n) → IsTold n
  of_gift n r = inr (inr (inr (inl (some_of (λ (g : GiftEntry Name). g.name ≡ n) (drop (length s.gifts) t.gifts) r.0 r.1 r.2))))

  told_by : (x : Name) → Comes v (telling script v (names_in s.known) o) (Ready w s o) t x → IsTold x
  unfolding readied
  told_by x (inl (host, inl i)) = inl i
  told_by x (inl (host, inr (inl a))) = inr (inl (some_of (λ (e : Happened Name). IsItsAnswer x (message_of e)) t.happened a.0 a.1 (answers_so a.0 x a.2)))
  told_by x (inl (host, inr (inr (inl a)))) = of_gift x (gift_came s.gifts t.gifts a.0 x a.1 a.2)
  told_by x (inl (host, inr (inr (inr k)))) = inr (inr (inr (inr (brought x (brought_due v (names_in s.known) o x k)))))
  told_by x (inr (inl a)) = inr (inr (inl (some_of (λ (p : Put Name). AsksAs x p.note) t.outbox a.0 a.1 (asks_as a.0.to a.0.note x (all_among (λ (p : Put Name). NamesItsAnswer p.to p.note) t.outbox a.0 after.answers a.1) a.2))))
  told_by x (inr (inr (inl k))) = inr (inr (inr (inr (brought x (brought_heard v (names_in s.known) o x k.1)))))
  told_by x (inr (inr (inr k))) = inr (inr (inr (inr (brought x (brought_heard v (names_in s.known) o x k)))))

  grown : (ns : List Name) × (names_in t.known ≡ names_in s.known ++ ns) × AllOf (Comes v (telling script v (names_in s.known) o) (Ready w s o) t) ns
  unfolding readied
  grown = steady.come

  pub tells_so : Tells v s t (carried_by o) came
  tells_so = let c = grown in record {
    new = c.0;
    grows = c.1;
    mails = counted v w s t o steady.mails;
    eventual = after.eventual;
    hosts = hosts;
    lines = all_map (λ (e : Happened Name) i. line_tells (names_in t.known) t.mails e i) t.happened after.lines;
    notes = puts_tell v (names_in t.known) t.outbox mail after.answers after.puts;
    gifts = of_drop (λ (g : GiftEntry Name). g.name ≡ Gift v g.number) (length s.gifts) t.gifts (all_map (λ (g : GiftEntry Name) i. i.0) t.gifts after.gifts);
    all = all_map told_by c.0 c.2;
    order = new_in_order v s.promises t.promises (names_in s.known) c.0 (names_in t.known) c.1 own_before own_after;
  }
