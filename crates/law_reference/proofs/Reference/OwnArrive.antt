-- What arrives and what is noticed leave what a vat has its own.
use Rattle.std.proofs.Common.{◌≡◌, ℕ, Bool, true, false, List, [], ◌∷◌, ◌++◌, Option, Some, None, refl, sym, ◌∙◌, if◌then◌else◌, ◌==◌, codes, ◌⊎◌, inl, inr}
use Rattle.def_machine.specs.Values.{Words, Value, Null, Flag, Number, Letter, Text, Prim, Broken, Items, Ref, Name, Gift, Sent, host_of, Naming, naming, name_of, answer_of, mail_of, IsAnswer, IsGift, under}
use Rattle.def_machine.specs.State.{Standing, Viewed, Settled, Known, ToTell, Passed, Passeds, Plain, AGift, Many, NoMore, More, Note, Deliver, Open, Ask, SettledTo, Elsewhere, Shorten, GiftEntry, Vat, Done, Gives, Act, ◌>>=◌, ◌>>◌, and_then, give, look, mail, mark, come, new_list, new_gift, open_gift, with_opened, is_gift, is_in, begun, draw, send_out, alter}
use Rattle.def_machine.specs.Refs as refs
use Rattle.def_machine.specs.Refs.{Place, Away, host_at}
use Rattle.def_machine.specs.Arrive as arrive
use Rattle.def_machine.specs.Arrive.{Old, New}
use Rattle.def_run.specs.World as world
use Rattle.law_fate.specs.Name.Names.{AllOf, IsAmong, IsMessageName, IsEventual, IsKnownIn, names_in}
use Rattle.law_fate.proofs.Name.Facts.{all_end}
use Rattle.law_fate.proofs.Name.Among.{among_last, names_end}
use Rattle.law_fate.proofs.Name.SameNames.{old_known}
use Rattle.law_fate.proofs.Name.Tracked.{known_among}
use Rattle.law_reference.specs.Reference.Own.{IsOwnGift}
use Rattle.law_reference.proofs.Reference.Gentle.{GivesBy, Gentle, by_gives}
use Rattle.law_reference.proofs.Reference.OwnKeeps.{KeepsOwn, widen, with_own, own_bind, own_then, own_if, own_give, own_look, own_tell, own_out, own_draw, own_all, own_wait, own_view, own_to_tell, came_own, own_send_on, own_inform, own_settle, own_resolve, Whole, IsFree, PlaceFits, place_fits, known_host, eventual_known}
use Rattle.law_reference.proofs.Reference.Wakes.{came_wakes, came_found, came_settled}
use Rattle.law_reference.proofs.Reference.NoticedSteps.{breakings}
use Rattle.law_reference.proofs.Reference.Arrivals.{ValueTells, PassedTells, PassedsTell}
use Rattle.law_reference.proofs.Reference.Settles.{IsSettled, settle_settles}

module _ (word : ℕ → ℕ) (v : ℕ) (Spares : ℕ → Type 0) where
  abbrev Names : Naming Name Name
  Names = naming word v

  abbrev Keeping : {A : Type 0} → Act Name A → Type 0
  Keeping m = Gentle (KeepsOwn word v Spares) m

  -- ---- learning

  -- a name that is free to wait, if it comes to be known
  abbrev pub FreeName : Name → Type 0
  FreeName n = IsFree word v Spares n

  abbrev pub FreeValue : Value Name → Type 0
  FreeValue y = ValueTells FreeName (λ h i. Unit {0}) (λ i. Unit {0}) y

  abbrev pub FreePassed : Passed Name → Type 0
  FreePassed y = PassedTells FreeName (λ h i. Unit {0}) (λ i. Unit {0}) y

  abbrev pub AllFree : Passeds Name → Type 0
  AllFree ys = PassedsTell FreeName (λ h i. Unit {0}) (λ i. Unit {0}) ys

  own_new : (n : Name) → FreeName n → Keeping (arrive.learn_name Names (New n (host_of n)))
  unfolding arrive.learn_name come naming name_of
  own_new n f = record { after = λ s o. ((o.0, o.1, came_own word v Spares s n (host_of n) refl o, o.3, o.4, o.5), came_wakes word v (IsFree word v Spares) s.known n (host_of n) f) }

  own_old : (n : Name) → Keeping (arrive.learn_name Names (Old n))
  unfolding arrive.learn_name
  own_old n = own_give word v Spares n

  own_either : (n : Name) (b : Bool) → (b ≡ false → FreeName n) → Keeping (arrive.learn_name Names (elim b [ true ↦ Old n | false ↦ New n (host_of n) ]))
  own_either n true f = own_old n
  own_either n false f = own_new n (f refl)

  own_name : (ks : List Name) (n : Name) → (world.is_old ks n ≡ false → FreeName n) → Keeping (arrive.learn_name Names (world.read_name ks n))
  unfolding world.read_name
  own_name ks n f = own_either n (world.is_old ks n) f

  own_value : (ks : List Name) (y : Value Name) → FreeValue y → Keeping (arrive.learn_value Names (world.read_value ks y).read)
  unfolding arrive.learn_value world.read_value
  own_value ks Null f = own_give word v Spares Null
  own_value ks (Flag b) f = own_give word v Spares (Flag b)
  own_value ks (Number z) f = own_give word v Spares (Number z)
  own_value ks (Letter c) f = own_give word v Spares (Letter c)
  own_value ks (Text t) f = own_give word v Spares (Text t)
  own_value ks (Prim n) f = own_give word v Spares (Prim n)
  own_value ks (Broken p) f = own_give word v Spares (Broken p)
  own_value ks (Items k) f = own_give word v Spares (Items k)
  own_value ks (Ref n) f = own_bind word v Spares (own_name ks n (λ e. f)) (λ x. own_give word v Spares (Ref x))

  own_ask_for : (p h i : ℕ) (n : Name) → host_of n ≡ h → Keeping (arrive.ask_for Names p h i n)
  unfolding arrive.ask_for
  own_ask_for p h i n e = own_bind word v Spares (own_look word v Spares _) (λ gone. own_if word v Spares gone (own_settle word v Spares n _) (own_out word v Spares h (Ask p i n) e))

  -- the gift that comes to be known, and what is done with it
  came_gift : {A : Type 0} (h i : ℕ) (f : Name → Act Name A) → (h ≡ v) ⊎ Spares h → Keeping (f (Gift h i)) → Keeping (come Names (IsGift h i) h >>= f)
  unfolding ◌>>=◌ come and_then naming name_of host_of
  came_gift h i f free k = record { after = λ s. let t : Vat Name = record s { known = s.known ++ begun (Gift h i) h ∷ [] } in widen word v Spares s t (f (Gift h i) t) (λ o. ((o.0, o.1, came_own word v Spares s (Gift h i) h refl o, o.3, o.4, o.5), came_wakes word v (IsFree word v Spares) s.known (Gift h i) h free)) (k.after t) }

  then_given : {A : Type 0} (s : Vat Name) (d : Done Name (Unit {0})) (a : A) → GivesBy (KeepsOwn word v Spares) s d → GivesBy (KeepsOwn word v Spares) s (and_then d (λ _. give a))
  unfolding and_then give
  then_given s (Gives b t) a h = h
  then_given s other a h = tt

  abbrev CameGift : ℕ → ℕ → Vat Name → Vat Name
  CameGift h i s = record s { known = s.known ++ begun (Gift h i) h ∷ [] }

  came_whole : (h i : ℕ) (s : Vat Name) → Whole word v Spares s → Whole word v Spares (CameGift h i s)
  unfolding host_of
  came_whole h i s o = (o.0, o.1, came_own word v Spares s (Gift h i) h refl o, o.3, o.4, o.5)

  -- a gift of a host that was noticed settles as it comes to be known
  gift_settles : (h i : ℕ) (t : Words) (s : Vat Name) → GivesBy (KeepsOwn word v Spares) s (refs.settle Names (Gift h i) (Broken t) (CameGift h i s))
  gift_settles h i t s = let u : Vat Name = CameGift h i s in let g : Name = Gift h i in let found = came_found word v FreeName s.known g h tt in let d : Done Name (Unit {0}) = refs.settle Names g (Broken t) u in
      by_gives (KeepsOwn word v Spares) (KeepsOwn word v Spares) (IsSettled Names g) u s d (λ x r z o. let b = r (came_whole h i s o) in (b.0, came_settled word v FreeName s.known x.known g h z.0 z.1 b.1))
      ((own_settle word v Spares g (Broken t)).after u) (settle_settles Names g (Broken t) u found)

  gone_gift : (p h i : ℕ) (s : Vat Name) (b : Bool) → b ≡ true → GivesBy (KeepsOwn word v Spares) s (and_then ((if b then refs.settle Names (Gift h i) (Broken (codes "partition")) else send_out h (Ask p i (Gift h i))) (CameGift h i s)) (λ _. give (Ref (Gift h i))))
  gone_gift p h i s true e = then_given s (refs.settle Names (Gift h i) (Broken (codes "partition")) (CameGift h i s)) (Ref (Gift h i)) (gift_settles h i (codes "partition") s)
  gone_gift p h i s false e = cc

  learn_gone : (p h i : ℕ) (s : Vat Name) → is_in h s.noticed ≡ true → GivesBy (KeepsOwn word v Spares) s (arrive.learn_gift Names p h i s)
  unfolding arrive.learn_gift arrive.ask_for ◌>>=◌ ◌>>◌ look come and_then naming name_of
  learn_gone p h i s e = gone_gift p h i s (is_in h s.noticed) e

  learn_there : (p h i : ℕ) → Spares h → Keeping (arrive.learn_gift Names p h i)
  unfolding arrive.learn_gift host_of
  learn_there p h i f = came_gift h i _ (inr f) (own_then word v Spares (own_ask_for p h i (Gift h i) refl) (own_give word v Spares (Ref (Gift h i))))

  gift_learnt : (p h i : ℕ) (s : Vat Name) (b : Bool) → is_in h s.noticed ≡ b → GivesBy (KeepsOwn word v Spares) s (arrive.learn_gift Names p h i s)
  gift_learnt p h i s true e = learn_gone p h i s e
  gift_learnt p h i s false e = with_own word v Spares s _ (λ o. (learn_there p h i (o.5 h e)).after s)

  own_learn_gift : (p h i : ℕ) → Keeping (arrive.learn_gift Names p h i)
  own_learn_gift p h i = record { after = λ s. gift_learnt p h i s (is_in h s.noticed) refl }

  own_list : (vs : List (Value Name)) → Keeping (new_list vs)
  unfolding new_list
  own_list vs = record { after = λ s o. (o, λ n w. inl w) }

  own_make_list : (vs : List (Value Name)) → Keeping (arrive.make_list Names vs)
  unfolding arrive.make_list
  own_make_list vs = own_bind word v Spares (own_list vs) (λ k. own_then word v Spares (own_tell word v Spares _) (own_give word v Spares _))

  mutual
    unfolding arrive.learn arrive.learn_all world.read_passed world.read_all world.plain_read world.many_read world.more_read

    own_learn : (p : ℕ) (y : Passed Name) (ks : List Name) → FreePassed y → Keeping (arrive.learn Names p (world.read_passed y ks).read)
    own_learn p (Plain y) ks f = own_value ks y f
    own_learn p (AGift h i) ks f = own_learn_gift p h i
    own_learn p (Many ys) ks f = own_bind word v Spares (own_learn_all p ys ks f) (λ vs. own_make_list vs)

    own_learn_all : (p : ℕ) (ys : Passeds Name) (ks : List Name) → AllFree ys → Keeping (arrive.learn_all Names p (world.read_all ys ks).read)
    own_learn_all p NoMore ks f = own_give word v Spares []
    own_learn_all p (More y ys) ks f = own_bind word v Spares (own_learn p y ks f.0) (λ x. own_bind word v Spares (own_learn_all p ys (world.read_passed y ks).known f.1) (λ xs. own_give word v Spares (x ∷ xs)))

  -- ---- gifts at their host

  found_gift : (b : Bool) (g0 g : GiftEntry Name) (o : Option (GiftEntry Name)) → IsOwnGift v g0 → ◌≡◌ {A = Option (GiftEntry Name)} (elim b [ true ↦ Some g0 | false ↦ o ]) (Some g) → (o ≡ Some g → IsOwnGift v g) → IsOwnGift v g
  found_gift true g0 g o h e f = let same : g0 ≡ g = cc in rw same at h
  found_gift false g0 g o h e f = f e

  gift_own : (p i : ℕ) (gs : List (GiftEntry Name)) (g : GiftEntry Name) → AllOf (IsOwnGift v) gs → arrive.gift_at p i gs ≡ Some g → IsOwnGift v g
  unfolding arrive.gift_at
  gift_own p i [] g h e = cc
  gift_own p i (g0 ∷ gs) g h e = found_gift (is_gift p i g0) g0 g (arrive.gift_at p i gs) h.0 e (λ j. gift_own p i gs g h.1 j)

  -- the gift, which the vat hosts, and what is done with it
  had_or_new : {A : Type 0} (p i : ℕ) (s : Vat Name) (o : Option (GiftEntry Name)) (f : Name → Act Name A) → arrive.gift_at p i s.gifts ≡ o → ((n : Name) → host_of n ≡ v → Keeping (f n)) → Whole word v Spares s → GivesBy (KeepsOwn word v Spares) s ((arrive.gift_or_new Names s.number p i o >>= f) s)
  unfolding arrive.gift_or_new ◌>>=◌ ◌>>◌ and_then come new_gift give naming name_of host_of
  had_or_new p i s (Some g) f e k h = (k g.name (gift_own p i s.gifts g h.3 e)).after s
  had_or_new p i s None f e k h = let g : GiftEntry Name = record { name = Gift s.number i; provider = p; number = i; opened = false } in let t : Vat Name = record s { known = s.known ++ begun (Gift s.number i) s.number ∷ []; gifts = s.gifts ++ g ∷ [] } in
      widen word v Spares s t (f (Gift s.number i) t) (λ o. ((o.0, o.1, came_own word v Spares s (Gift s.number i) s.number refl o, all_end (IsOwnGift v) s.gifts g o.3 o.0, o.4, o.5), came_wakes word v (IsFree word v Spares) s.known (Gift s.number i) s.number (inl o.0))) ((k (Gift s.number i) h.0).after t)

  with_gift : {A : Type 0} (p i : ℕ) (f : Name → Act Name A) → ((n : Name) → host_of n ≡ v → Keeping (f n)) → Keeping (arrive.have_gift Names p i >>= f)
  unfolding arrive.have_gift ◌>>=◌ look and_then
  with_gift p i f k = record { after = λ s. with_own word v Spares s _ (λ o. had_or_new p i s (arrive.gift_at p i s.gifts) f refl k o) }

  opened_head : (b : Bool) (g j : GiftEntry Name) (gs rest : List (GiftEntry Name)) → IsOwnGift v g → IsOwnGift v j → AllOf (IsOwnGift v) gs → AllOf (IsOwnGift v) rest → AllOf (IsOwnGift v) (elim b [ true ↦ j ∷ gs | false ↦ g ∷ rest ])
  opened_head true g j gs rest a b c d = (b, c)
  opened_head false g j gs rest a b c d = (a, d)

  opened_own : (p i : ℕ) (gs : List (GiftEntry Name)) → AllOf (IsOwnGift v) gs → AllOf (IsOwnGift v) (with_opened p i gs)
  unfolding with_opened
  opened_own p i [] h = tt
  opened_own p i (g ∷ gs) h = opened_head (is_gift p i g) g _ gs (with_opened p i gs) h.0 h.0 h.1 (opened_own p i gs h.1)

  own_open : (p i : ℕ) → Keeping (open_gift p i)
  unfolding open_gift
  own_open p i = record { after = λ s o. ((o.0, o.1, o.2, opened_own p i s.gifts o.3, o.4, o.5), λ n w. inl w) }

  own_break_at : (n : Name) (p : Words) (t : Standing Name) → Keeping (arrive.break_at Names n p t)
  unfolding arrive.break_at
  own_break_at n p (Settled y) = own_give word v Spares tt
  own_break_at n p other = own_settle word v Spares n _

  own_break_unopened : (n : Name) (b : Bool) → Keeping (arrive.break_unopened Names n b)
  unfolding arrive.break_unopened
  own_break_unopened n true = own_give word v Spares tt
  own_break_unopened n false = own_bind word v Spares (own_look word v Spares _) (λ t. own_break_at n _ t)

  own_orphan : (p i : ℕ) (n : Name) → Keeping (arrive.break_orphan Names p i n)
  unfolding arrive.break_orphan
  own_orphan p i n = own_bind word v Spares (own_look word v Spares _) (λ gone. own_bind word v Spares (own_look word v Spares _) (λ opened. own_if word v Spares gone (own_break_unopened n opened) (own_give word v Spares tt)))

  own_tell_asker : (n : Name) (w : ℕ) (t : Standing Name) → host_of n ≡ v → Keeping (arrive.tell_asker Names n w t)
  unfolding arrive.tell_asker
  own_tell_asker n w (Settled y) e = own_inform word v Spares n w e
  own_tell_asker n w other e = own_to_tell word v Spares w n e

  -- ---- the notes

  mailed : (m : Name) (h : ℕ) (f : Name → Act Name (Unit {0})) → Keeping (f m) → Keeping (arrive.learn_message Names (New m h) >>= f)
  unfolding arrive.learn_message ◌>>=◌ mail and_then naming mail_of
  mailed m h f k = record { after = λ s. let t : Vat Name = record s { mails = s.mails ++ m ∷ [] } in widen word v Spares s t (f m t) (λ o. (o, λ n w. inl w)) (k.after t) }

  answer_own : (u : ℕ) (m : Name) → IsMessageName m → host_of (answer_of u m) ≡ u
  unfolding answer_of host_of
  answer_own u (Sent m) i = refl
  answer_own u other i = absurd i

  came_answer : (u : ℕ) (m : Name) (f : Name → Act Name (Unit {0})) → IsMessageName m → host_of (answer_of u m) ≡ v → Keeping (f (answer_of u m)) → Keeping (come Names (IsAnswer u m) u >>= f)
  unfolding ◌>>=◌ come and_then naming name_of
  came_answer u m f i e k = record { after = λ s. let t : Vat Name = record s { known = s.known ++ begun (answer_of u m) u ∷ [] } in widen word v Spares s t (f (answer_of u m) t) (λ o. ((o.0, o.1, came_own word v Spares s (answer_of u m) u (sym (answer_own u m i)) o, o.3, o.4, o.5), came_wakes word v (IsFree word v Spares) s.known (answer_of u m) u (inl e))) (k.after t) }

  delivered : (from : ℕ) (m n : Name) (verb : Words) (args : List (Value Name)) (u : ℕ) → IsMessageName m → u ≡ v → Keeping (come Names (IsAnswer u m) u >>= (λ a. alter Names (ToTell from) a >> refs.send_on Names (refs.settle Names) (record { id = m; target = Ref n; verb = verb; args = args; answer = Some a })))
  delivered from m n verb args u i e = let own : host_of (answer_of u m) ≡ v = answer_own u m i ∙ e in came_answer u m _ i own (own_then word v Spares (own_to_tell word v Spares from (answer_of u m) own) (own_send_on word v Spares (refs.settle Names) (own_settle word v Spares) _ (i, own)))

  numbered : (f : ℕ → Act Name (Unit {0})) → ((u : ℕ) → u ≡ v → Keeping (f u)) → Keeping (look (λ (s : Vat Name). s.number) >>= f)
  unfolding ◌>>=◌ look and_then
  numbered f k = record { after = λ s. with_own word v Spares s _ (λ o. (k s.number o.0).after s) }

  asked_on : (from : ℕ) (m n : Name) (verb : Words) (args : List (Value Name)) → IsMessageName m → Keeping (arrive.send_on_asked Names from m n verb args)
  unfolding arrive.send_on_asked
  asked_on from m n verb args i = numbered _ (λ u e. delivered from m n verb args u i e)

  sent_here : (asks : Bool) (from : ℕ) (m n : Name) (verb : Words) (args : List (Value Name)) → IsMessageName m
      → Keeping (if asks then arrive.send_on_asked Names from m n verb args else refs.send_on Names (refs.settle Names) (record { id = m; target = Ref n; verb = verb; args = args; answer = None }))
  sent_here true from m n verb args i = asked_on from m n verb args i
  sent_here false from m n verb args i = own_send_on word v Spares (refs.settle Names) (own_settle word v Spares) _ (i, tt)

  own_see : (n g : Name) → Keeping (arrive.see Names n g)
  unfolding arrive.see
  own_see n g = own_then word v Spares (own_tell word v Spares _) (own_then word v Spares (own_view word v Spares g n) (own_wait word v Spares n g))

  asked_there : (n : Name) (h c i : ℕ) → Spares c → Keeping ((come Names (IsGift c i) c >>= (λ g. send_out c (Ask h i g) >> give g)) >>= (λ g. arrive.see Names n g))
  unfolding host_of
  asked_there n h c i f = own_bind word v Spares (came_gift c i _ (inr f) (own_then word v Spares (own_out word v Spares c (Ask h i (Gift c i)) refl) (own_give word v Spares (Gift c i)))) (λ g. own_see n g)

  own_there : (n : Name) (u h c i : ℕ) (b : Bool) → Spares c → Keeping ((if b then arrive.have_gift Names h i else (come Names (IsGift c i) c >>= (λ g. send_out c (Ask h i g) >> give g))) >>= (λ g. arrive.see Names n g))
  own_there n u h c i true f = with_gift h i _ (λ g e. own_see n g)
  own_there n u h c i false f = asked_there n h c i f

  -- where an eventual name is hosted as it says
  viewed_there : (n : Name) (c u h : ℕ) → Spares c → (IsEventual n → host_of n ≡ h) → Keeping (draw Names >>= (λ i. send_out h (Shorten n c (under h i)) >> (arrive.gift_there Names u h c (under h i) >>= (λ g. arrive.see Names n g))))
  unfolding arrive.gift_there
  viewed_there n c u h f e = own_bind word v Spares (own_draw word v Spares) (λ i. own_then word v Spares (own_out word v Spares h (Shorten n c (under h i)) e) (own_there n u h c (under h i) (c == u) f))

  -- a name that is known, or an object
  own_view_there : (n : Name) (c : ℕ) (s : Vat Name) → is_in c s.noticed ≡ false → IsKnownIn (names_in s.known) n → GivesBy (KeepsOwn word v Spares) s (arrive.view_there Names n c s)
  unfolding arrive.view_there ◌>>=◌ look and_then host_at
  own_view_there n c s g a = with_own word v Spares s _ (λ o. (viewed_there n c s.number (host_at Names s.number s.known n) (o.5 c g) (λ i. sym (known_host word v Spares s.number s.known n i o.2 (eventual_known word v Spares (names_in s.known) n i a)))).after s)

  own_shorten : (i : ℕ) (p : Place Name) → PlaceFits word v Spares p → Keeping (arrive.shorten_to Names i p)
  unfolding arrive.shorten_to
  own_shorten i (Away h n true) e = own_out word v Spares h (Open i n) e.0
  own_shorten i other e = own_give word v Spares tt

  -- a note whose message is named as one, and whose names are free to wait where they are new
  abbrev pub NoteFree : List Name → Note Name → Type 0
  NoteFree ks (Deliver d n verb ys) = IsMessageName d.message × FreeName n × AllFree ys
  NoteFree ks (Open i n) = FreeName n
  NoteFree ks (Ask p i n) = Unit {0}
  NoteFree ks (SettledTo n y) = FreeName n × FreePassed y
  NoteFree ks (Elsewhere n c) = FreeName n
  NoteFree ks (Shorten n c i) = world.is_old ks n ≡ false → FreeName n

  -- the place of what a name was followed to
  shortened : (n : Name) (i : ℕ) → Keeping (look (λ (s : Vat Name). refs.place Names s (refs.follow Names s (Ref n))) >>= (λ p. arrive.shorten_to Names i p))
  unfolding ◌>>=◌ look and_then
  shortened n i = record { after = λ s. with_own word v Spares s _ (λ o. (own_shorten i (refs.place Names s (refs.follow Names s (Ref n))) (place_fits word v Spares s (Ref n) o)).after s) }

  went_if : (n : Name) (c : ℕ) (s : Vat Name) (b : Bool) → is_in c s.noticed ≡ b → IsKnownIn (names_in s.known) n → GivesBy (KeepsOwn word v Spares) s ((if b then refs.settle Names n (Broken (codes "partition")) else arrive.view_there Names n c) s)
  went_if n c s true g a = (own_settle word v Spares n (Broken (codes "partition"))).after s
  went_if n c s false g a = own_view_there n c s g a

  abbrev Went : Name → ℕ → Act Name (Unit {0})
  Went n c = look (λ (s : Vat Name). is_in c s.noticed) >>= (λ gone. if gone then refs.settle Names n (Broken (codes "partition")) else arrive.view_there Names n c)

  went : (n : Name) (c : ℕ) (s : Vat Name) → IsKnownIn (names_in s.known) n → GivesBy (KeepsOwn word v Spares) s (Went n c s)
  unfolding ◌>>=◌ look and_then
  went n c s a = went_if n c s (is_in c s.noticed) refl a

  -- once the name is learnt it is known
  went_read : (n : Name) (c : ℕ) (s : Vat Name) (b : Bool) → world.is_old (names_in s.known) n ≡ b → FreeName n → GivesBy (KeepsOwn word v Spares) s ((arrive.learn_name Names (elim b [ true ↦ Old n | false ↦ New n (host_of n) ]) >>= (λ x. Went x c)) s)
  unfolding arrive.learn_name come give naming name_of ◌>>=◌ and_then begun
  went_read n c s true e f = went n c s (old_known (names_in s.known) n e)
  went_read n c s false e f = let t : Vat Name = record s { known = s.known ++ begun n (host_of n) ∷ [] } in
      let among : IsAmong n (names_in t.known) = rw (sym (names_end s.known (begun n (host_of n)))) at (among_last (names_in s.known) n) in
      widen word v Spares s t (Went n c t) (λ o. ((o.0, o.1, came_own word v Spares s n (host_of n) refl o, o.3, o.4, o.5), came_wakes word v (IsFree word v Spares) s.known n (host_of n) f)) (went n c t (known_among (names_in t.known) n among))

  own_elsewhere : (n : Name) (c : ℕ) (s : Vat Name) → FreeName n → GivesBy (KeepsOwn word v Spares) s (arrive.arrive_elsewhere Names (world.read_name (names_in s.known) n) c s)
  unfolding arrive.arrive_elsewhere world.read_name
  own_elsewhere n c s f = went_read n c s (world.is_old (names_in s.known) n) refl f

  -- a note that tells of no move of an object
  abbrev IsNoMove : Note Name → Type 0
  IsNoMove (Elsewhere n c) = ⊥
  IsNoMove other = Unit {0}

  arrives : (from : ℕ) (ks : List Name) (n : Note Name) → NoteFree ks n → IsNoMove n → Keeping (arrive.arrive Names from (world.read_note ks n))
  unfolding arrive.arrive world.read_note arrive.arrive_deliver arrive.arrive_open arrive.arrive_ask arrive.arrive_settled arrive.arrive_shorten
  arrives from ks (Deliver d n verb ys) i k = mailed d.message (host_of d.message) _ (own_bind word v Spares (own_learn_all from ys ks i.2) (λ args. own_bind word v Spares (own_name (world.read_all ys ks).known n (λ e. i.1)) (λ x. sent_here d.asks from d.message x verb args i.0)))
  arrives from ks (Open i n) h k = own_bind word v Spares (own_name ks n (λ e. h)) (λ y. with_gift from i _ (λ g e. own_then word v Spares (own_open from i) (own_resolve word v Spares g (Ref y) (inl e))))
  arrives from ks (Ask p i n) h k = with_gift p i _ (λ g e. own_then word v Spares (own_orphan p i g) (own_bind word v Spares (own_look word v Spares _) (λ t. own_tell_asker g from t e)))
  arrives from ks (SettledTo n y) h k = own_bind word v Spares (own_name ks n (λ e. h.0)) (λ x. own_bind word v Spares (own_learn from y (world.known_after ks n) h.1) (λ z. own_settle word v Spares x z))
  arrives from ks (Elsewhere n c) h k = absurd k
  arrives from ks (Shorten n c i) h k = own_bind word v Spares (own_name ks n h) (λ x. shortened x i)

  pub own_arrive : (from : ℕ) (s : Vat Name) (n : Note Name) → NoteFree (names_in s.known) n → GivesBy (KeepsOwn word v Spares) s (arrive.arrive Names from (world.read_note (names_in s.known) n) s)
  unfolding arrive.arrive world.read_note
  own_arrive from s (Elsewhere n c) h = own_elsewhere n c s h
  own_arrive from s (Deliver m n verb ys) h = (arrives from (names_in s.known) (Deliver m n verb ys) h tt).after s
  own_arrive from s (Open i n) h = (arrives from (names_in s.known) (Open i n) h tt).after s
  own_arrive from s (Ask p i n) h = (arrives from (names_in s.known) (Ask p i n) h tt).after s
  own_arrive from s (SettledTo n y) h = (arrives from (names_in s.known) (SettledTo n y) h tt).after s
  own_arrive from s (Shorten n c i) h = (arrives from (names_in s.known) (Shorten n c i) h tt).after s

  -- ---- the notice

  in_more : (h w : ℕ) (b : Bool) (xs ys : List ℕ) → (is_in h ys ≡ false → is_in h xs ≡ false) → elim b [ true ↦ true | false ↦ is_in h ys ] ≡ false → elim b [ true ↦ true | false ↦ is_in h xs ] ≡ false
  in_more h w true xs ys f e = e
  in_more h w false xs ys f e = f e

  less_in : (h w : ℕ) (xs : List ℕ) → is_in h (xs ++ w ∷ []) ≡ false → is_in h xs ≡ false
  unfolding is_in
  less_in h w [] e = refl
  less_in h w (x ∷ xs) e = in_more h w (h == x) xs (xs ++ w ∷ []) (less_in h w xs) e

  own_mark : (w : ℕ) → Keeping (mark w)
  unfolding mark
  own_mark w = record { after = λ s o. ((o.0, o.1, o.2, o.3, o.4, λ h e. o.5 h (less_in h w s.noticed e)), λ n i. inl i) }

  own_break_hosted : (w : ℕ) (n : Name) (p : Words) (t : Standing Name) → Keeping (arrive.break_hosted Names w n p t)
  unfolding arrive.break_hosted
  own_break_hosted w n p (Viewed q) = own_give word v Spares tt
  own_break_hosted w n p (Settled y) = own_give word v Spares tt
  own_break_hosted w n p other = own_settle word v Spares n _

  own_notice_name : (w : ℕ) (k : Known Name) → Keeping (arrive.notice_name Names w k)
  unfolding arrive.notice_name
  own_notice_name w k = own_bind word v Spares (own_look word v Spares _) (λ t. own_if word v Spares (k.host == w) (own_break_hosted w k.name _ t) (own_give word v Spares tt))

  own_notice_gift : (w : ℕ) (g : GiftEntry Name) → Keeping (arrive.notice_gift Names w g)
  unfolding arrive.notice_gift
  own_notice_gift w g = own_if word v Spares (g.provider == w) (own_break_unopened g.name g.opened) (own_give word v Spares tt)

  -- what is done once the cut is marked as noticed
  pub own_breakings : (w : ℕ) → Keeping (breakings Names w)
  unfolding breakings
  own_breakings w = own_bind word v Spares (own_look word v Spares _) (λ names. own_then word v Spares (own_all word v Spares names (λ k. own_notice_name w k)) (own_bind word v Spares (own_look word v Spares _) (λ gifts. own_all word v Spares gifts (λ g. own_notice_gift w g))))

  own_notice_all : (w : ℕ) → Keeping (arrive.notice_all Names w)
  unfolding arrive.notice_all breakings
  own_notice_all w = own_then word v Spares (own_mark w) (own_breakings w)

  pub own_notice : (w : ℕ) → Keeping (arrive.notice Names w)
  unfolding arrive.notice
  own_notice w = own_bind word v Spares (own_look word v Spares _) (λ gone. own_if word v Spares gone (own_give word v Spares tt) (own_notice_all w))
