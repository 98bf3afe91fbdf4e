-- What a vat learns from a note comes to be known, and what else comes to be known as it arrives is the vat's own or asked for; so it is of a notice.
use Rattle.std.proofs.Common.{◌≡◌, ℕ, Bool, true, false, List, [], ◌∷◌, ◌++◌, Option, Some, None, refl, sym, ap, subst, ◌∙◌, ◌⊎◌, inl, inr, if◌then◌else◌, ◌==◌, append-nil, codes}
use Rattle.std.proofs.lemmas.Bool.{eqb-true}
use Rattle.def_machine.specs.Values.{Words, Value, Broken, Ref, Name, Object, Gift, Sent, same_reference, Naming, IsAnswer, naming, name_of, mail_of, answer_of, host_of, under}
use Rattle.def_machine.specs.State.{Standing, Viewed, Settled, Known, ToTell, Passed, Passeds, Plain, AGift, Many, NoMore, More, Note, Delivery, Deliver, Open, Ask, SettledTo, Elsewhere, Shorten, Put, GiftEntry, Vat, Done, Gives, Throws, Ejects, Stops, Act, ◌>>=◌, ◌>>◌, and_then, give, look, come, mail, alter, send_out, new_gift, open_gift, is_gift, is_in, begun}
use Rattle.def_machine.specs.Refs as refs
use Rattle.def_machine.specs.Refs.{Place, Away, host_at}
use Rattle.def_machine.specs.Arrive as arrive
use Rattle.def_machine.specs.Arrive.{Incoming, Old, New, gift_at}
use Rattle.def_run.specs.World as world
use Rattle.law_fate.proofs.Fates.Leads.{Leads, Ends, leads, leads_bind, leads_then, leads_give, leads_look, leads_if}
use Rattle.law_fate.specs.Name.Names.{AllOf, IsAmong, IsEventual, IsMessageName, names_in}
use Rattle.law_fate.proofs.Name.SameNames.{reference_is}
use Rattle.law_fate.proofs.Name.Among.{among_last, among_or, among_is}
use Rattle.law_frame.specs.Frame.Asked.{told_value, told_passed, told_all, told_in}
use Rattle.law_frame.specs.Frame.Lines.{DueIn, carried_in}
use Rattle.law_frame.specs.Frame.Alike.{names_heard}
use Rattle.law_frame.proofs.Frame.Told.{after_more, all_more}
use Rattle.law_frame.proofs.Frame.WireAsking.{Any, Telling, GiftFits, Asking, Steady, Or, Owed, base, here, asking, asking_open, asking_shorten, asking_alter, asking_draw, names_on, comes_since, steady_on, same_as, put_on, grown, gave, gift_end, accounted, asked_then}
use Rattle.law_frame.proofs.Frame.RefsAsking.{known_last, known_end, asking_send_on, asking_settle, asking_resolve, asking_inform}

pub among_front : {A : Type 0} (x : A) (xs ys : List A) → IsAmong x xs → IsAmong x (xs ++ ys)
among_front x [] ys h = absurd h
among_front x (z ∷ xs) ys (inl e) = inl e
among_front x (z ∷ xs) ys (inr h) = inr (among_front x xs ys h)

pub among_back : {A : Type 0} (x : A) (xs ys : List A) → IsAmong x ys → IsAmong x (xs ++ ys)
among_back x [] ys h = h
among_back x (z ∷ xs) ys h = inr (among_back x xs ys h)

-- so much was asked by the note, and is known now: the answer of its message at vat v, or its gift
abbrev pub Answered : ℕ → List Name → Note Name → Type 0
Answered v ns (Deliver d n verb ys) = d.asks ≡ true → IsAmong (answer_of v d.message) ns
Answered v ns (Ask p i n) = IsAmong (Gift v i) ns
Answered v ns other = Unit {0}

-- its message is named as one
abbrev pub MailFits : Note Name → Type 0
MailFits (Deliver d n verb ys) = IsMessageName d.message
MailFits other = Unit {0}

-- it is the name of no message
abbrev pub IsNoMessage : Name → Type 0
IsNoMessage (Sent m) = ⊥
IsNoMessage other = Unit {0}

-- it is the name of no object
abbrev pub IsNoObject : Name → Type 0
IsNoObject (Object w i) = ⊥
IsNoObject other = Unit {0}

-- what is new is no object
no_object : (ks : List Name) (n : Name) → world.is_old ks n ≡ false → IsNoObject n
unfolding world.is_old
no_object ks (Object w i) e = cc
no_object ks other e = tt

-- these are known
abbrev pub Has : List Name → Vat Name → Type 0
Has ks s = (n : Name) → IsAmong n ks → IsAmong n (names_in s.known)

module _ (v : ℕ) (P : Telling) where
  abbrev pub Reached : {A : Type 0} → (Vat Name → Type 0) → Vat Name → Done Name A → Type 0
  Reached F s (Gives a t) = Steady v P s t × F t
  Reached F s other = Unit {0}

  wide : {A : Type 0} (F : Vat Name → Type 0) (s t : Vat Name) (d : Done Name A) → Steady v P s t → Reached F t d → Reached F s d
  wide F s t (Gives a u) h k = (steady_on v P s t u h k.0, k.1)
  wide F s t other h k = tt

  then_reached : {A B : Type 0} (F G : Vat Name → Type 0) (s : Vat Name) (d : Done Name A) (f : A → Act Name B) → Reached F s d → ((a : A) (t : Vat Name) → t.number ≡ v → F t → Reached G t (f a t)) → Reached G s (and_then d f)
  unfolding and_then
  then_reached F G s (Gives a t) f h k = let r = h.0 in wide G s t (f a t) r (k a t r.number h.1)
  then_reached F G s other f h k = tt

  pub led_reached : {A : Type 0} (F : Vat Name → Type 0) (s : Vat Name) (d : Done Name A) → s.number ≡ v → ((t : Vat Name) → Steady v P s t → F t) → Ends Any (Asking v P) s d → Reached F s d
  led_reached F s (Gives a t) e f h = let r = h e in (r, f t r)
  led_reached F s other e f h = tt

  looser : {A : Type 0} (F G : Vat Name → Type 0) (s : Vat Name) (d : Done Name A) → ((t : Vat Name) → F t → G t) → Reached F s d → Reached G s d
  looser F G s (Gives a t) f h = (h.0, f t h.1)
  looser F G s other f h = tt

  still : (s : Vat Name) → s.number ≡ v → Steady v P s s
  still s e = same_as v P s s refl refl refl refl refl refl refl refl refl e

  has_on : (ks : List Name) (s t : Vat Name) → Steady v P s t → Has ks s → Has ks t
  has_on ks s t h k n a = names_on v P s t h n (k n a)

  has_end : (ks : List Name) (n : Name) (s t : Vat Name) → Steady v P s t → Has ks s → IsAmong n (names_in t.known) → Has (ks ++ n ∷ []) t
  has_end ks n s t h k l m a = go (among_or m ks n a)
    where
      go : IsAmong m ks ⊎ (m ≡ n) → IsAmong m (names_in t.known)
      go (inl b) = names_on v P s t h m (k m b)
      go (inr e) = rw (sym e) at l

  abbrev K : Naming Name Name
  K = naming P.word v

  -- ---- learning

  name_either : (ks : List Name) (n : Name) → (IsNoObject n → P.told n) → (s : Vat Name) → s.number ≡ v → Has ks s → (b : Bool) → world.is_old ks n ≡ b
      → Reached (Has (elim b [ true ↦ ks | false ↦ ks ++ n ∷ [] ])) s (arrive.learn_name K (elim b [ true ↦ Old n | false ↦ New n (host_of n) ]) s)
  unfolding arrive.learn_name give come naming name_of
  name_either ks n p s e k true o = (still s e, k)
  name_either ks n p s e k false o = let t : Vat Name = record s { known = s.known ++ begun n (host_of n) ∷ [] } in
      let h : Steady v P s t = grown v P s t n refl (known_end s.known n (host_of n)) refl refl refl refl refl refl refl (inr (inr (inr (p (no_object ks n o))))) e in (h, has_end ks n s t h k (known_last s.known n (host_of n)))

  name_hears : (ks : List Name) (n : Name) → (IsNoObject n → P.told n) → (s : Vat Name) → s.number ≡ v → Has ks s → Reached (Has (world.known_after ks n)) s (arrive.learn_name K (world.read_name ks n) s)
  unfolding world.read_name world.known_after
  name_hears ks n p s e k = name_either ks n p s e k (world.is_old ks n) refl

  value_hears : (ks : List Name) (y : Value Name) → ((n : Name) → IsAmong n (told_value y) → IsNoObject n → P.told n) → (s : Vat Name) → s.number ≡ v → Has ks s → Reached (Has (world.read_value ks y).known) s (arrive.learn_value K (world.read_value ks y).read s)
  unfolding world.read_value told_value arrive.learn_value give ◌>>=◌
  value_hears ks (Ref n) f s e k = then_reached (Has (world.known_after ks n)) (Has (world.known_after ks n)) s (arrive.learn_name K (world.read_name ks n) s) (λ m. give (Ref m)) (name_hears ks n (f n (inl refl)) s e k) (λ a t i h. (still t i, h))
  value_hears ks other f s e k = (still s e, k)

  -- a gift is asked for, or its host was noticed
  asks_either : (p h i : ℕ) (s : Vat Name) (b : Bool) → host_of (Gift h i) ≡ h → is_in h s.noticed ≡ b → IsAmong (Gift h i) (names_in s.known) → P.passed (Gift h i) → (text : Words) → Ends Any (Owed v P (Gift h i)) s ((if b then refs.settle K (Gift h i) (Broken text) else send_out h (Ask p i (Gift h i))) s)
  unfolding send_out
  asks_either p h i s true host g a z text = severed (refs.settle K (Gift h i) (Broken text) s) ((asking_settle v (Or P (Gift h i)) (Gift h i) (Broken text)).after s)
    where
      severed : (d : Done Name (Unit {0})) → Ends Any (Asking v (Or P (Gift h i))) s d → Ends Any (Owed v P (Gift h i)) s d
      severed (Gives u t) r = λ e. let b = r e in (b, inr (inr (inl (ap (λ (x : ℕ). is_in x t.noticed) host ∙ b.noticed h g, z))))
      severed (Throws q t) r = λ e. let b = r e in (b, inr (inr (inl (ap (λ (x : ℕ). is_in x t.noticed) host ∙ b.noticed h g, z))))
      severed (Ejects n y t) r = λ e. let b = r e in (b, inr (inr (inl (ap (λ (x : ℕ). is_in x t.noticed) host ∙ b.noticed h g, z))))
      severed (Stops c t) r = tt
  asks_either p h i s false host g a z text = λ e. let put : Put Name = record { to = h; note = Ask p i (Gift h i) } in
      (put_on v (Or P (Gift h i)) s (record s { outbox = s.outbox ++ put ∷ [] }) h (Ask p i (Gift h i)) refl refl refl refl refl refl refl refl refl (a, refl) tt e, inr (inl (put, among_last s.outbox put, refl)))

  asks_for : (p h i : ℕ) (s : Vat Name) → IsAmong (Gift h i) (names_in s.known) → P.passed (Gift h i) → Ends Any (Owed v P (Gift h i)) s (arrive.ask_for K p h i (Gift h i) s)
  unfolding arrive.ask_for ◌>>=◌ and_then look host_of
  asks_for p h i s a z = asks_either p h i s (is_in h s.noticed) refl refl a z _

  gift_ends : (ks : List Name) (g : Name) (s t : Vat Name) → Steady v (Or P g) s t → Has ks s → IsAmong g (names_in t.known) → (d : Done Name (Unit {0})) → Ends Any (Owed v P g) t d → Reached (Has (ks ++ g ∷ [])) s (and_then d (λ _. give (Ref g)))
  unfolding and_then give
  gift_ends ks g s t r k a (Gives u x) h = let b = h r.number in let c : Steady v P s x = accounted v P g s x (steady_on v (Or P g) s t x r b.0) (comes_since v P (Or P g) s t x r g b.1) in (c, has_end ks g s x c k (names_on v (Or P g) t x b.0 g a))
  gift_ends ks g s t r k a other h = tt

  gift_hears : (from : ℕ) (ks : List Name) (h i : ℕ) → P.passed (Gift h i) → (s : Vat Name) → s.number ≡ v → Has ks s → Reached (Has (ks ++ Gift h i ∷ [])) s (arrive.learn_gift K from h i s)
  unfolding arrive.learn_gift ◌>>=◌ ◌>>◌ and_then come naming name_of
  gift_hears from ks h i z s e k = let g : Name = Gift h i in let t : Vat Name = record s { known = s.known ++ begun g h ∷ [] } in
      gift_ends ks g s t (grown v (Or P g) s t g refl (known_end s.known g h) refl refl refl refl refl refl refl (inr (inr (inr (inr refl)))) e) k (known_last s.known g h) (arrive.ask_for K from h i g t) (asks_for from h i t (known_last s.known g h) z)

  asking_make_list : (vs : List (Value Name)) → Leads Any (Asking v P) (arrive.make_list K vs)
  unfolding arrive.make_list
  asking_make_list vs = search (leads, asking, base v P) depth 14

  mutual
    unfolding world.read_passed world.read_all world.plain_read world.many_read world.more_read told_passed told_all arrive.learn arrive.learn_all ◌>>=◌ give

    passed_hears : (from : ℕ) (ks : List Name) (y : Passed Name) → ((n : Name) → IsAmong n (told_passed y) → IsNoObject n → P.told n) → ((n : Name) → IsAmong n (world.read_passed y ks).known → P.passed n) → (s : Vat Name) → s.number ≡ v → Has ks s → Reached (Has (world.read_passed y ks).known) s (arrive.learn K from (world.read_passed y ks).read s)
    passed_hears from ks (Plain y) f p s e k = value_hears ks y f s e k
    passed_hears from ks (AGift h i) f p s e k = gift_hears from ks h i (p (Gift h i) (among_last ks (Gift h i))) s e k
    passed_hears from ks (Many ys) f p s e k = let F : Vat Name → Type 0 = Has (world.read_all ys ks).known in
        then_reached F F s (arrive.learn_all K from (world.read_all ys ks).read s) (λ vs. arrive.make_list K vs) (all_hears from ks ys f p s e k) (λ vs t i h. led_reached F t (arrive.make_list K vs t) i (λ u r. has_on (world.read_all ys ks).known t u r h) ((asking_make_list vs).after t))

    all_hears : (from : ℕ) (ks : List Name) (ys : Passeds Name) → ((n : Name) → IsAmong n (told_all ys) → IsNoObject n → P.told n) → ((n : Name) → IsAmong n (world.read_all ys ks).known → P.passed n) → (s : Vat Name) → s.number ≡ v → Has ks s → Reached (Has (world.read_all ys ks).known) s (arrive.learn_all K from (world.read_all ys ks).read s)
    all_hears from ks NoMore f p s e k = (still s e, k)
    all_hears from ks (More y ys) f p s e k = let one : List Name = (world.read_passed y ks).known in let F : Vat Name → Type 0 = Has (world.read_all ys one).known in
        then_reached (Has one) F s (arrive.learn K from (world.read_passed y ks).read s) (λ z. arrive.learn_all K from (world.read_all ys one).read >>= (λ zs. give (z ∷ zs))) (passed_hears from ks y (λ n a. f n (among_front n (told_passed y) (told_all ys) a)) (λ n a. p n (all_more one ys n a)) s e k)
        (λ z t i h. then_reached F F t (arrive.learn_all K from (world.read_all ys one).read t) (λ zs. give (z ∷ zs)) (all_hears from one ys (λ n a. f n (among_back n (told_passed y) (told_all ys) a)) p t i h) (λ zs u j l. (still u j, l)))

  -- ---- gifts at their host

  gift_or_new_ends : (p i : ℕ) (s : Vat Name) → s.number ≡ v → (o : Option (GiftEntry Name)) → Ends Any (Asking v P) s (arrive.gift_or_new K s.number p i o s)
  unfolding arrive.gift_or_new ◌>>=◌ ◌>>◌ and_then give come new_gift naming name_of host_of
  gift_or_new_ends p i s e (Some g) = same_as v P s s refl refl refl refl refl refl refl refl refl
  gift_or_new_ends p i s e None = λ d. let g : Name = Gift s.number i in let t : Vat Name = record s { known = s.known ++ begun g s.number ∷ [] } in
      let entry : GiftEntry Name = record { name = g; provider = p; number = i; opened = false } in
      let u : Vat Name = record t { gifts = t.gifts ++ entry ∷ [] } in
      let one : Steady v (Or P g) s t = grown v (Or P g) s t g refl (known_end s.known g s.number) refl refl refl refl refl refl refl (inr (inr (inr (inr refl)))) d in
      accounted v P g s u (steady_on v (Or P g) s t u one (gave v (Or P g) t u entry refl refl refl refl refl refl refl refl refl (ap (λ (u : ℕ). Gift u i) e, known_last s.known g s.number) e)) (inl (e, inr (inr (inl (g ∷ [], gift_end s.gifts entry, inl refl)))))

  asking_have_gift : (p i : ℕ) → Leads Any (Asking v P) (arrive.have_gift K p i)
  unfolding arrive.have_gift ◌>>=◌ and_then look
  asking_have_gift p i = record { after = λ s. here v P s (arrive.gift_or_new K s.number p i (gift_at p i s.gifts) s) (λ e. gift_or_new_ends p i s e (gift_at p i s.gifts)) }

  number_is : (b c : Bool) (x y : ℕ) → (x == y) ≡ c → elim b [ true ↦ c | false ↦ false ] ≡ true → x ≡ y
  number_is true true x y e f = eqb-true x y e
  number_is true false x y e f = cc
  number_is false c x y e f = cc

  found_either : (ns : List Name) (p i : ℕ) (b : Bool) (g h : GiftEntry Name) (o : Option (GiftEntry Name)) → (b ≡ true → g.number ≡ i) → GiftFits v ns g → (o ≡ Some h → IsAmong (Gift v i) ns) → ◌≡◌ {A = Option (GiftEntry Name)} (elim b [ true ↦ Some g | false ↦ o ]) (Some h) → IsAmong (Gift v i) ns
  found_either ns p i true g h o f k l e = let same : g.name ≡ Gift v i = k.0 ∙ ap (λ (j : ℕ). Gift v j) (f refl) in rw same at k.1
  found_either ns p i false g h o f k l e = l e

  gift_found : (ns : List Name) (p i : ℕ) (gs : List (GiftEntry Name)) (g : GiftEntry Name) → AllOf (GiftFits v ns) gs → gift_at p i gs ≡ Some g → IsAmong (Gift v i) ns
  unfolding gift_at is_gift
  gift_found ns p i [] g h e = cc
  gift_found ns p i (x ∷ gs) g h e = found_either ns p i (is_gift p i x) x g (gift_at p i gs) (λ f. number_is (x.provider == p) (x.number == i) x.number i refl f) h.0 (λ f. gift_found ns p i gs g h.1 f) e

  gift_or_new_known : (p i : ℕ) (s : Vat Name) → s.number ≡ v → AllOf (GiftFits v (names_in s.known)) s.gifts → (o : Option (GiftEntry Name)) → gift_at p i s.gifts ≡ o → Reached (λ t. IsAmong (Gift v i) (names_in t.known)) s (arrive.gift_or_new K s.number p i o s)
  unfolding arrive.gift_or_new ◌>>=◌ ◌>>◌ and_then give come new_gift naming name_of
  gift_or_new_known p i s e f (Some g) q = (still s e, gift_found (names_in s.known) p i s.gifts g f q)
  gift_or_new_known p i s e f None q = let r = gift_or_new_ends p i s e None in (r e, among_is (Gift v i) (Gift s.number i) _ (sym (ap (λ (u : ℕ). Gift u i) e)) (known_last s.known (Gift s.number i) s.number))

  have_gift_known : (p i : ℕ) (s : Vat Name) → s.number ≡ v → AllOf (GiftFits v (names_in s.known)) s.gifts → Reached (λ t. IsAmong (Gift v i) (names_in t.known)) s (arrive.have_gift K p i s)
  unfolding arrive.have_gift ◌>>=◌ and_then look
  have_gift_known p i s e f = gift_or_new_known p i s e f (gift_at p i s.gifts) refl

  asking_break_at : (n : Name) (p : Words) (t : Standing Name) → Leads Any (Asking v P) (arrive.break_at K n p t)
  unfolding arrive.break_at
  asking_break_at n p (Settled y) = search (leads, base v P)
  asking_break_at n p _ = asking_settle v P n _

  asking_break_unopened : (n : Name) (b : Bool) → Leads Any (Asking v P) (arrive.break_unopened K n b)
  unfolding arrive.break_unopened
  asking_break_unopened n true = search (leads, base v P)
  asking_break_unopened n false = search (leads, base v P, asking_break_at) depth 14

  asking_tell_asker : (n : Name) (w : ℕ) (t : Standing Name) → Leads Any (Asking v P) (arrive.tell_asker K n w t)
  unfolding arrive.tell_asker
  asking_tell_asker n w (Settled y) = asking_inform v P n w
  asking_tell_asker n w _ = asking_alter v P (ToTell w) n

  asking_break_orphan : (p i : ℕ) (n : Name) → Leads Any (Asking v P) (arrive.break_orphan K p i n)
  unfolding arrive.break_orphan
  asking_break_orphan p i n = search (leads, base v P, asking_break_unopened) depth 14

  -- ---- views

  asking_see : (n g : Name) → Leads Any (Asking v P) (arrive.see K n g)
  unfolding arrive.see
  asking_see n g = search (leads, asking, base v P) depth 14

  asks_there : (h c i : ℕ) (s : Vat Name) → IsAmong (Gift c i) (names_in s.known) → Ends Any (Owed v P (Gift c i)) s (send_out c (Ask h i (Gift c i)) s)
  unfolding send_out
  asks_there h c i s a = λ e. let put : Put Name = record { to = c; note = Ask h i (Gift c i) } in
      (put_on v (Or P (Gift c i)) s (record s { outbox = s.outbox ++ put ∷ [] }) c (Ask h i (Gift c i)) refl refl refl refl refl refl refl refl refl (a, refl) tt e, inr (inl (put, among_last s.outbox put, refl)))

  asking_gift_there : (u h c i : ℕ) → Leads Any (Asking v P) (arrive.gift_there K u h c i)
  unfolding arrive.gift_there ◌>>=◌ ◌>>◌ and_then come naming name_of
  asking_gift_there u h c i = leads_if Any (Asking v P) (base v P) (c == u) (asking_have_gift h i) (record {
    after = λ s. let g : Name = Gift c i in let t : Vat Name = record s { known = s.known ++ begun g c ∷ [] } in
        asked_then v P g s t (grown v (Or P g) s t g refl (known_end s.known g c) refl refl refl refl refl refl refl (inr (inr (inr (inr refl))))) (send_out c (Ask h i g) t) (asks_there h c i t (known_last s.known g c)) (λ _. give g) (λ _. leads_give Any (Asking v (Or P g)) (base v (Or P g)) g);
  })

  -- a name that is asked to be shortened at another vat is no object
  view_at : (n : Name) (c : ℕ) (s : Vat Name) → ((host_at K s.number s.known n ≡ v → ⊥) → IsEventual n) → Ends Any (Asking v P) s (arrive.view_there K n c s)
  unfolding arrive.view_there ◌>>=◌ ◌>>◌ and_then look
  view_at n c s f = let u : ℕ = s.number in let h : ℕ = host_at K s.number s.known n in
      (leads_bind Any (Asking v P) (base v P) (asking_draw v P) (λ i. leads_then Any (Asking v P) (base v P) (asking_shorten v P h n c (under h i) f)
      (leads_bind Any (Asking v P) (base v P) (asking_gift_there u h c (under h i)) (λ g. asking_see n g)))).after s

  asking_shorten_to : (i : ℕ) (p : Place Name) → Leads Any (Asking v P) (arrive.shorten_to K i p)
  unfolding arrive.shorten_to
  asking_shorten_to i (Away h n true) = search asking
  asking_shorten_to i _ = search (leads, base v P)

  -- ---- arrival

  answer_hosted : (u : ℕ) (m : Name) → IsMessageName m → u ≡ v → host_of (answer_of u m) ≡ v
  unfolding answer_of host_of
  answer_hosted u (Sent m) h e = e
  answer_hosted u other h e = absurd h

  -- the message is sent on, once its arguments and its target are learnt
  goes_on : (from : ℕ) (ks : List Name) (m n : Name) (verb : Words) (args : List (Value Name)) (s : Vat Name) → s.number ≡ v → IsMessageName m → P.due (answer_of v m) → Has ks s
      → Reached (λ t. Has ks t × IsAmong (answer_of v m) (names_in t.known)) s ((come K (IsAnswer s.number m) s.number >>= (λ a. alter K (ToTell from) a >> refs.send_on K (refs.settle K) (record { id = m; target = Ref n; verb = verb; args = args; answer = Some a }))) s)
  unfolding ◌>>=◌ and_then come naming name_of
  goes_on from ks m n verb args s e o z k = let a : Name = answer_of s.number m in let t : Vat Name = record s { known = s.known ++ begun a s.number ∷ [] } in
      let r : Steady v P s t = grown v P s t a refl (known_end s.known a s.number) refl refl refl refl refl refl refl (inl (answer_hosted s.number m o e, inr (inr (inr (subst (λ (u : ℕ). P.due (answer_of u m)) (sym e) z))))) e in
      let there : IsAmong (answer_of v m) (names_in t.known) = among_is (answer_of v m) a (names_in t.known) (sym (ap (λ (u : ℕ). answer_of u m) e)) (known_last s.known a s.number) in
      let rest : Act Name (Unit {0}) = alter K (ToTell from) a >> refs.send_on K (refs.settle K) (record { id = m; target = Ref n; verb = verb; args = args; answer = Some a }) in
      let F : Vat Name → Type 0 = λ u. Has ks u × IsAmong (answer_of v m) (names_in u.known) in
      wide F s t (rest t) r (led_reached F t (rest t) e (λ u q. (has_on ks t u q (has_on ks s t r k), names_on v P t u q (answer_of v m) there))
      ((leads_then Any (Asking v P) (base v P) (asking_alter v P (ToTell from) a) (asking_send_on v P (refs.settle K) (asking_settle v P) (record { id = m; target = Ref n; verb = verb; args = args; answer = Some a }))).after t))

  -- what is done once the arguments are learnt, and once the target is
  abbrev Answers : ℕ → Name → Words → List (Value Name) → Name → Act Name (Unit {0})
  Answers from m verb args n = look (λ q. q.number) >>= (λ u. come K (IsAnswer u m) u >>= (λ a. alter K (ToTell from) a >> refs.send_on K (refs.settle K) (record { id = m; target = Ref n; verb = verb; args = args; answer = Some a })))

  abbrev Lone : Name → Words → List (Value Name) → Name → Act Name (Unit {0})
  Lone m verb args n = refs.send_on K (refs.settle K) (record { id = m; target = Ref n; verb = verb; args = args; answer = None })

  abbrev Ends_with : Bool → ℕ → Name → Words → List (Value Name) → Name → Act Name (Unit {0})
  Ends_with b from m verb args n = if b then Answers from m verb args n else Lone m verb args n

  abbrev Targets : Bool → ℕ → Name → Words → Incoming Name Name → List (Value Name) → Act Name (Unit {0})
  Targets b from m verb z args = arrive.learn_name K z >>= (λ n. Ends_with b from m verb args n)

  answered_goes : (b : Bool) (from : ℕ) (ks : List Name) (m n : Name) (verb : Words) (args : List (Value Name)) (s : Vat Name) → s.number ≡ v → IsMessageName m → (b ≡ true → P.due (answer_of v m)) → Has ks s
      → Reached (λ t. Has ks t × (b ≡ true → IsAmong (answer_of v m) (names_in t.known))) s (Ends_with b from m verb args n s)
  unfolding ◌>>=◌ and_then look
  answered_goes true from ks m n verb args s e o z k = looser (λ t. Has ks t × IsAmong (answer_of v m) (names_in t.known)) (λ t. Has ks t × (true ≡ true → IsAmong (answer_of v m) (names_in t.known))) s _ (λ t h. (h.0, λ i. h.1)) (goes_on from ks m n verb args s e o (z refl) k)
  answered_goes false from ks m n verb args s e o z k = led_reached (λ t. Has ks t × (false ≡ true → IsAmong (answer_of v m) (names_in t.known))) s (Lone m verb args n s) e (λ u r. (has_on ks s u r k, λ i. absurd (no i))) ((asking_send_on v P (refs.settle K) (asking_settle v P) (record { id = m; target = Ref n; verb = verb; args = args; answer = None })).after s)
    where
      no : false ≡ true → ⊥
      no e = cc

  deliver_hears : (from : ℕ) (ks : List Name) (d : Delivery Name) (n : Name) (verb : Words) (ys : Passeds Name) → IsMessageName d.message → (d.asks ≡ true → P.due (answer_of v d.message)) → ((x : Name) → IsAmong x (n ∷ told_all ys) → IsNoObject x → P.told x)
      → ((x : Name) → IsAmong x (world.known_after (world.read_all ys ks).known n) → P.passed x) → (s : Vat Name) → s.number ≡ v → Has ks s
      → Reached (λ t. Has (world.known_after (world.read_all ys ks).known n) t × (d.asks ≡ true → IsAmong (answer_of v d.message) (names_in t.known))) (record s { mails = s.mails ++ d.message ∷ [] }) (arrive.arrive_deliver K from (record { message = New d.message (host_of d.message); asks = d.asks; answer = None }) (world.read_name (world.read_all ys ks).known n) verb (world.read_all ys ks).read s)
  unfolding arrive.arrive_deliver arrive.send_on_asked arrive.learn_message mail naming mail_of ◌>>=◌ and_then look
  deliver_hears from ks d n verb ys o z f p s e k = let m : Name = d.message in let one : List Name = (world.read_all ys ks).known in let two : List Name = world.known_after one n in
      let t : Vat Name = record s { mails = s.mails ++ m ∷ [] } in
      let F : Vat Name → Type 0 = λ u. Has two u × (d.asks ≡ true → IsAmong (answer_of v m) (names_in u.known)) in
      then_reached (Has one) F t (arrive.learn_all K from (world.read_all ys ks).read t) (λ args. Targets d.asks from m verb (world.read_name one n) args) (all_hears from ks ys (λ x a. f x (inr a)) (λ x a. p x (after_more one n x a)) t e k)
      (λ args u i h. then_reached (Has two) F u (arrive.learn_name K (world.read_name one n) u) (λ x. Ends_with d.asks from m verb args x) (name_hears one n (f n (inl refl)) u i h) (λ x w j l. answered_goes d.asks from two m x verb args w j o z l))

  abbrev Opened : ℕ → ℕ → Name → Act Name (Unit {0})
  Opened from i y = arrive.have_gift K from i >>= (λ g. open_gift from i >> refs.resolve K g (Ref y))

  open_hears : (from : ℕ) (ks : List Name) (i : ℕ) (n : Name) → (IsNoObject n → P.told n) → (s : Vat Name) → s.number ≡ v → Has ks s → Reached (Has (world.known_after ks n)) s (arrive.arrive_open K from i (world.read_name ks n) s)
  unfolding arrive.arrive_open ◌>>=◌
  open_hears from ks i n p s e k = let F : Vat Name → Type 0 = Has (world.known_after ks n) in
      then_reached F F s (arrive.learn_name K (world.read_name ks n) s) (λ y. Opened from i y) (name_hears ks n p s e k) (λ y t j h. led_reached F t (Opened from i y t) j (λ u r. has_on (world.known_after ks n) t u r h) ((opened y).after t))
    where
      opened : (y : Name) → Leads Any (Asking v P) (Opened from i y)
      opened y = leads_bind Any (Asking v P) (base v P) (asking_have_gift from i) (λ g. leads_then Any (Asking v P) (base v P) (asking_open v P from i) (asking_resolve v P g (Ref y)))

  abbrev Asked : ℕ → ℕ → ℕ → Name → Act Name (Unit {0})
  Asked from p i n = arrive.break_orphan K p i n >> (look (λ s. refs.standing_of K s.known n) >>= (λ t. arrive.tell_asker K n from t))

  ask_hears : (from p i : ℕ) (s : Vat Name) → s.number ≡ v → AllOf (GiftFits v (names_in s.known)) s.gifts → Reached (λ t. IsAmong (Gift v i) (names_in t.known)) s (arrive.arrive_ask K from p i s)
  unfolding arrive.arrive_ask ◌>>=◌
  ask_hears from p i s e f = let F : Vat Name → Type 0 = λ t. IsAmong (Gift v i) (names_in t.known) in
      then_reached F F s (arrive.have_gift K p i s) (λ n. Asked from p i n) (have_gift_known p i s e f) (λ n t j h. led_reached F t (Asked from p i n t) j (λ u r. names_on v P t u r (Gift v i) h) ((told n).after t))
    where
      told : (n : Name) → Leads Any (Asking v P) (Asked from p i n)
      told n = leads_then Any (Asking v P) (base v P) (asking_break_orphan p i n) (leads_bind Any (Asking v P) (base v P) (leads_look Any (Asking v P) (base v P) (λ s. refs.standing_of K s.known n)) (λ t. asking_tell_asker n from t))

  settled_hears : (from : ℕ) (ks : List Name) (n : Name) (y : Passed Name) → ((x : Name) → IsAmong x (n ∷ told_passed y) → IsNoObject x → P.told x) → ((x : Name) → IsAmong x (world.read_passed y (world.known_after ks n)).known → P.passed x) → (s : Vat Name) → s.number ≡ v → Has ks s
      → Reached (Has (world.read_passed y (world.known_after ks n)).known) s (arrive.arrive_settled K from (world.read_name ks n) (world.read_passed y (world.known_after ks n)).read s)
  unfolding arrive.arrive_settled ◌>>=◌
  settled_hears from ks n y f p s e k = let one : List Name = world.known_after ks n in let F : Vat Name → Type 0 = Has (world.read_passed y one).known in
      then_reached (Has one) F s (arrive.learn_name K (world.read_name ks n) s) (λ x. arrive.learn K from (world.read_passed y one).read >>= (λ z. refs.settle K x z)) (name_hears ks n (f n (inl refl)) s e k)
      (λ x t i h. then_reached F F t (arrive.learn K from (world.read_passed y one).read t) (λ z. refs.settle K x z) (passed_hears from one y (λ z a. f z (inr a)) p t i h) (λ z u j l. led_reached F u (refs.settle K x z u) j (λ w r. has_on (world.read_passed y one).known u w r l) ((asking_settle v P x z).after u)))

  abbrev SeenThere : ℕ → Name → Act Name (Unit {0})
  SeenThere c y = look (λ s. is_in c s.noticed) >>= (λ gone. if gone then refs.settle K y (Broken (codes "partition")) else arrive.view_there K y c)

  seen_either : (n : Name) (c : ℕ) (text : Words) (s : Vat Name) → ((host_at K s.number s.known n ≡ v → ⊥) → IsEventual n) → (b : Bool) → Ends Any (Asking v P) s ((if b then refs.settle K n (Broken text) else arrive.view_there K n c) s)
  seen_either n c text s f true = (asking_settle v P n (Broken text)).after s
  seen_either n c text s f false = view_at n c s f

  seen_at : (n : Name) (c : ℕ) (s : Vat Name) → ((host_at K s.number s.known n ≡ v → ⊥) → IsEventual n) → Ends Any (Asking v P) s (SeenThere c n s)
  unfolding ◌>>=◌ and_then look
  seen_at n c s f = seen_either n c (codes "partition") s f (is_in c s.noticed)

  no_entry : (b : Bool) (k : Known Name) (o : Option (Known Name)) → (b ≡ true → ⊥) → o ≡ None → ◌≡◌ {A = Option (Known Name)} (elim b [ true ↦ Some k | false ↦ o ]) None
  no_entry true k o f e = absurd (f refl)
  no_entry false k o f e = e

  is_object : (a : Name) (w i : ℕ) → a ≡ Object w i → IsEventual a → ⊥
  is_object a w i e h = let o : IsEventual (Object w i) = rw e at h in o

  -- no object is among the names known
  object_absent : (ks : List (Known Name)) → AllOf IsEventual (names_in ks) → (w i : ℕ) → refs.entry_of K ks (Object w i) ≡ None
  unfolding refs.entry_of naming
  object_absent [] h w i = refl
  object_absent (k ∷ ks) h w i = no_entry (same_reference k.name (Object w i)) k (refs.entry_of K ks (Object w i)) (λ e. is_object k.name w i (reference_is k.name (Object w i) e) h.0) (object_absent ks h.1 w i)

  host_absent : (u : ℕ) (o : Option (Known Name)) → o ≡ None → refs.host_in u o ≡ u
  unfolding refs.host_in
  host_absent u None e = refl
  host_absent u (Some k) e = cc

  object_here : (s : Vat Name) → s.number ≡ v → AllOf IsEventual (names_in s.known) → (w i : ℕ) → host_at K s.number s.known (Object w i) ≡ v
  unfolding host_at
  object_here s e h w i = host_absent s.number (refs.entry_of K s.known (Object w i)) (object_absent s.known h w i) ∙ e

  -- of a name that is no message
  subject_at : (n : Name) → IsNoMessage n → (s : Vat Name) → s.number ≡ v → AllOf IsEventual (names_in s.known) → (host_at K s.number s.known n ≡ v → ⊥) → IsEventual n
  subject_at (Object w i) o s e h f = absurd (f (object_here s e h w i))
  subject_at (Sent m) o s e h f = absurd o
  subject_at other o s e h f = tt

  new_subject : (ks : List Name) (n : Name) → world.is_old ks n ≡ false → IsNoMessage n → IsEventual n
  unfolding world.is_old
  new_subject ks (Object w i) e o = absurd (old_new e)
    where
      old_new : true ≡ false → ⊥
      old_new f = cc
  new_subject ks (Sent m) e o = absurd o
  new_subject ks other e o = tt

  elsewhere_either : (ks : List Name) (n : Name) (c : ℕ) → (IsNoObject n → P.told n) → IsNoMessage n → (s : Vat Name) → s.number ≡ v → AllOf IsEventual (names_in s.known) → Has ks s → (b : Bool) → world.is_old ks n ≡ b
      → Reached (Has (elim b [ true ↦ ks | false ↦ ks ++ n ∷ [] ])) s (arrive.arrive_elsewhere K (elim b [ true ↦ Old n | false ↦ New n (host_of n) ]) c s)
  unfolding arrive.arrive_elsewhere arrive.learn_name ◌>>=◌ and_then give come naming name_of
  elsewhere_either ks n c p o s e h k true i = led_reached (Has ks) s (SeenThere c n s) e (λ u r. has_on ks s u r k) (seen_at n c s (subject_at n o s e h))
  elsewhere_either ks n c p o s e h k false i = let t : Vat Name = record s { known = s.known ++ begun n (host_of n) ∷ [] } in
      let r : Steady v P s t = grown v P s t n refl (known_end s.known n (host_of n)) refl refl refl refl refl refl refl (inr (inr (inr (p (no_object ks n i))))) e in
      let F : Vat Name → Type 0 = Has (ks ++ n ∷ []) in
      wide F s t (SeenThere c n t) r (led_reached F t (SeenThere c n t) e (λ u q. has_on (ks ++ n ∷ []) t u q (has_end ks n s t r k (known_last s.known n (host_of n)))) (seen_at n c t (λ f. new_subject ks n i o)))

  elsewhere_hears : (ks : List Name) (n : Name) (c : ℕ) → (IsNoObject n → P.told n) → IsNoMessage n → (s : Vat Name) → s.number ≡ v → AllOf IsEventual (names_in s.known) → Has ks s → Reached (Has (world.known_after ks n)) s (arrive.arrive_elsewhere K (world.read_name ks n) c s)
  unfolding world.read_name world.known_after
  elsewhere_hears ks n c p o s e h k = elsewhere_either ks n c p o s e h k (world.is_old ks n) refl

  abbrev Shortened : ℕ → Name → Act Name (Unit {0})
  Shortened i y = look (λ s. refs.place K s (refs.follow K s (Ref y))) >>= (λ q. arrive.shorten_to K i q)

  shorten_hears : (ks : List Name) (n : Name) (i : ℕ) → (IsNoObject n → P.told n) → (s : Vat Name) → s.number ≡ v → Has ks s → Reached (Has (world.known_after ks n)) s (arrive.arrive_shorten K (world.read_name ks n) i s)
  unfolding arrive.arrive_shorten ◌>>=◌
  shorten_hears ks n i p s e k = let F : Vat Name → Type 0 = Has (world.known_after ks n) in
      then_reached F F s (arrive.learn_name K (world.read_name ks n) s) (λ y. Shortened i y) (name_hears ks n p s e k) (λ y t j h. led_reached F t (Shortened i y t) j (λ u r. has_on (world.known_after ks n) t u r h) ((placed y).after t))
    where
      placed : (y : Name) → Leads Any (Asking v P) (Shortened i y)
      placed y = leads_bind Any (Asking v P) (base v P) (leads_look Any (Asking v P) (base v P) (λ s. refs.place K s (refs.follow K s (Ref y)))) (λ q. asking_shorten_to i q)

  reached_more : {A : Type 0} (F G : Vat Name → Type 0) (s : Vat Name) (d : Done Name A) → ((t : Vat Name) → F t → G t) → Reached F s d → Reached G s d
  reached_more F G s (Gives a t) f h = (h.0, f t h.1)
  reached_more F G s other f h = tt

  reached_still : {A : Type 0} (F : Vat Name → Type 0) (s : Vat Name) (d : Done Name A) → Reached F s d → Reached (λ t. Has (names_in s.known) t × F t) s d
  reached_still F s (Gives a t) h = let r = h.0 in (r, (λ x b. names_on v P s t r x b, h.1))
  reached_still F s other h = tt

  -- what the note tells, and what it asks for, is known once it has arrived
  abbrev pub HasHeard : List Name → Note Name → Vat Name → Type 0
  HasHeard ks n t = Has (names_heard ks n) t × Answered v (names_in t.known) n

  -- a note that carries no message leaves those that the vat had
  as_it_was : {A : Type 0} (F : Vat Name → Type 0) (s : Vat Name) (d : Done Name A) → s.number ≡ v → Reached F s d → Reached F (record s { mails = s.mails ++ [] }) d
  as_it_was F s d e h = wide F (record s { mails = s.mails ++ [] }) s d (same_as v P (record s { mails = s.mails ++ [] }) s refl refl refl refl refl refl refl (sym (append-nil s.mails)) refl e) h

  pub arrive_hears : (from : ℕ) (n : Note Name) (s : Vat Name) → s.number ≡ v → MailFits n → ((x : Name) → DueIn v n x → P.due x) → ((x : Name) → IsAmong x (told_in n) → IsNoObject x → P.told x) → ((x : Name) → IsAmong x (names_heard (names_in s.known) n) → P.passed x)
      → ((x : Name) → IsAmong x (told_in n) → IsNoMessage x) → AllOf IsEventual (names_in s.known) → AllOf (GiftFits v (names_in s.known)) s.gifts
      → Reached (HasHeard (names_in s.known) n) (record s { mails = s.mails ++ carried_in n }) (arrive.arrive K from (world.read_note (names_in s.known) n) s)
  unfolding world.read_note arrive.arrive names_heard told_in carried_in
  arrive_hears from (Deliver x n verb ys) s e o z f p d h g = deliver_hears from (names_in s.known) x n verb ys o (λ i. z (answer_of v x.message) (i, refl)) f p s e (λ x a. a)
  arrive_hears from (Open i n) s e o z f p d h g = as_it_was (HasHeard (names_in s.known) (Open i n)) s _ e (reached_more (Has (world.known_after (names_in s.known) n)) (HasHeard (names_in s.known) (Open i n)) s (arrive.arrive_open K from i (world.read_name (names_in s.known) n) s) (λ t h. (h, tt)) (open_hears from (names_in s.known) i n (f n (inl refl)) s e (λ x a. a)))
  arrive_hears from (Ask p i n) s e o z f q d h g = as_it_was (HasHeard (names_in s.known) (Ask p i n)) s _ e (reached_still (λ t. IsAmong (Gift v i) (names_in t.known)) s (arrive.arrive_ask K from p i s) (ask_hears from p i s e g))
  arrive_hears from (SettledTo n y) s e o z f p d h g = as_it_was (HasHeard (names_in s.known) (SettledTo n y)) s _ e (reached_more (Has (world.read_passed y (world.known_after (names_in s.known) n)).known) (HasHeard (names_in s.known) (SettledTo n y)) s (arrive.arrive_settled K from (world.read_name (names_in s.known) n) (world.read_passed y (world.known_after (names_in s.known) n)).read s) (λ t h. (h, tt)) (settled_hears from (names_in s.known) n y f p s e (λ x a. a)))
  arrive_hears from (Elsewhere n c) s e o z f p d h g = as_it_was (HasHeard (names_in s.known) (Elsewhere n c)) s _ e (reached_more (Has (world.known_after (names_in s.known) n)) (HasHeard (names_in s.known) (Elsewhere n c)) s (arrive.arrive_elsewhere K (world.read_name (names_in s.known) n) c s) (λ t h. (h, tt)) (elsewhere_hears (names_in s.known) n c (f n (inl refl)) (d n (inl refl)) s e h (λ x a. a)))
  arrive_hears from (Shorten n c i) s e o z f p d h g = as_it_was (HasHeard (names_in s.known) (Shorten n c i)) s _ e (reached_more (Has (world.known_after (names_in s.known) n)) (HasHeard (names_in s.known) (Shorten n c i)) s (arrive.arrive_shorten K (world.read_name (names_in s.known) n) i s) (λ t h. (h, tt)) (shorten_hears (names_in s.known) n i (f n (inl refl)) s e (λ x a. a)))

  -- ---- notice

  asking_break_hosted : (w : ℕ) (n : Name) (p : Words) (t : Standing Name) → Leads Any (Asking v P) (arrive.break_hosted K w n p t)
  unfolding arrive.break_hosted
  asking_break_hosted w n p (Viewed q) = search (leads, base v P)
  asking_break_hosted w n p (Settled y) = search (leads, base v P)
  asking_break_hosted w n p other = asking_settle v P n _

  asking_notice_name : (w : ℕ) (k : Known Name) → Leads Any (Asking v P) (arrive.notice_name K w k)
  unfolding arrive.notice_name
  asking_notice_name w k = search (leads, base v P, asking_break_hosted) depth 14

  asking_notice_gift : (w : ℕ) (g : GiftEntry Name) → Leads Any (Asking v P) (arrive.notice_gift K w g)
  unfolding arrive.notice_gift
  asking_notice_gift w g = search (leads, base v P, asking_break_unopened) depth 14

  asking_notice_all : (w : ℕ) → Leads Any (Asking v P) (arrive.notice_all K w)
  unfolding arrive.notice_all
  asking_notice_all w = search (leads, asking, base v P, asking_notice_name, asking_notice_gift) depth 20

  pub asking_notice : (w : ℕ) → Leads Any (Asking v P) (arrive.notice K w)
  unfolding arrive.notice
  asking_notice w = search (leads, base v P, asking_notice_all) depth 14
