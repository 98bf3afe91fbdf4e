-- Where a vat knows no name twice, no step of it closes a ring of waits and views.
use Rattle.std.proofs.Common.{◌≡◌, ℕ, zero, suc, Bool, true, false, List, [], ◌∷◌, ◌++◌, Option, Some, None, refl, sym, ap, ◌∙◌, length, if◌then◌else◌, ◌==◌}
use Rattle.std.specs.Prelude.{codes}
use Rattle.def_machine.specs.Values.{Value, Broken, Name, Sent, Answer, Gift, Msg, Naming, naming, name_of, answer_of, mail_of, host_of, IsAnswer, IsGift, IsLearnt, IsCarried, key, under}
use Rattle.def_machine.specs.State.{Binding, Message, Known, See, Ask, Shorten, Note, Deliver, Open, SettledTo, Elsewhere, GiftEntry, Put, Vat, Done, Gives, Act, ◌>>=◌, ◌>>◌, and_then, give, look, tell, alter, come, draw, draws, drawn_at, send_out, new_gift, new_message, mark, begun, is_in, new_lone_message}
use Rattle.def_machine.specs.Refs as refs
use Rattle.def_machine.specs.Refs.{host_at}
use Rattle.def_machine.specs.Arrive as arrive
use Rattle.def_machine.specs.Arrive.{Old, New}
use Rattle.def_machine.specs.Eval as eval
use Rattle.def_kernel.specs.declared.node.Node.{Node}
use Rattle.def_run.specs.World as world
use Rattle.def_machine.proofs.Keys.{word_under_key}
use Rattle.law_fate.specs.Name.Names.{WasDrawn, AllOf, IsAmong, IsKnownIn, IsMessageName, Once, names_in}
use Rattle.law_fate.proofs.Name.Among.{among_last, names_end, key_not_drawn}
use Rattle.law_fate.proofs.Name.SameNames.{old_known, reference_is}
use Rattle.law_fate.proofs.Name.Tracked.{known_among}
use Rattle.law_reference.proofs.Reference.Gentle.{AfterGives, GivesBy, Gentle, widen, gives_by, gives_map}
use Rattle.law_reference.proofs.Reference.Abroad.{away_apart}
use Rattle.law_reference.proofs.Reference.Calm.{IsCalm, CalmWith}
use Rattle.law_reference.proofs.Reference.Owned.{IsOwnPair, IsOther, HoldsOwn, Owned, owned_begun, found_held}
use Rattle.law_reference.proofs.Reference.RefsCalm.{Minds, PassesBy, WaitsBy, calm_settle}
use Rattle.law_reference.proofs.Reference.StepsGo.{Refers, IsFree, goes_arrive_open, goes_arrive_ask, goes_arrive_settled, goes_arrive_shorten, goes_notice, goes_taking, goes_opening}
use Rattle.law_reference.proofs.Reference.StepsCalm.{AnswersHere, calm_refers, calm_arrive_deliver}
use Rattle.law_reference.proofs.Reference.WaitRingless.{StepIn, Linked, AnswersDiffer, once_last, less_same, new_linked, owned_linked, edge_see, step_law, step_passes, step_waits}

-- what a note delivers is named as a message
abbrev pub NamesMail : Note Name → Type 0
NamesMail (Deliver d n verb ys) = IsMessageName d.message
NamesMail other = Unit {0}

module _ (word : ℕ → ℕ) (v : ℕ) where
  abbrev Names : Naming Name Name
  Names = naming word v

  pub is : (a b : Name) → Names.same a b ≡ true → a ≡ b
  unfolding naming
  is a b e = reference_is a b e

  -- from what was known to what is known
  abbrev pub On : List (Known Name) → List (Known Name) → Type 0
  On ks ls = StepIn Names is ks ls

  abbrev pub By : Vat Name → Vat Name → Type 0
  By s t = Owned v s → Owned v t × On s.known t.known

  abbrev Good : Name → Option Name → Type 0
  Good = IsOwnPair v

  law : IsCalm Names Good By
  law = step_law Names is v

  with_owned : {A : Type 0} (s : Vat Name) (d : Done Name A) → (Owned v s → GivesBy By s d) → GivesBy By s d
  with_owned s (Gives a t) f = λ o. f o o
  with_owned s other f = tt

  -- ---- new messages

  new_sent : (s : Vat Name) (f : Name × Name → Act Name (Value Name)) → ((i a : Name) → Good i (Some a) → Gentle By (f (i, a))) → GivesBy By s ((new_message Names s.number >>= f) s)
  unfolding ◌>>=◌ new_message and_then naming mail_of name_of answer_of host_of
  new_sent s f g = with_owned s _ (λ o. let m : Msg = record { sender = v; number = s.messages } in let t : Vat Name = record s { messages = suc s.messages; mails = s.mails ++ Sent m ∷ []; known = s.known ++ begun (Answer s.number m) s.number ∷ [] } in
      widen Names (CalmWith Good) By law {s = s} {t = t} (law.messaged s s.number (Sent m)) (f (Sent m, Answer s.number m) t) ((g (Sent m) (Answer s.number m) (tt, o.0)).after t))

  new_lone : (s : Vat Name) (f : Name → Act Name (Value Name)) → ((i : Name) → Good i None → Gentle By (f i)) → GivesBy By s ((new_lone_message Names >>= f) s)
  unfolding ◌>>=◌ new_lone_message and_then naming mail_of
  new_lone s f g = let m : Msg = record { sender = v; number = s.messages } in let t : Vat Name = record s { messages = suc s.messages; mails = s.mails ++ Sent m ∷ [] } in
      widen Names (CalmWith Good) By law {s = s} {t = t} (law.lone s (Sent m)) (f (Sent m) t) ((g (Sent m) (tt, tt)).after t)

  minds : Minds Names Good (IsOther v) By
  minds = record {
    found = λ s p k d e f. with_owned s d (λ o. f (found_held v Names s.known p k o.1 e));
    far = λ s y h n o d e f. with_owned s d (λ w. f (away_apart v word s y h n o w.0 e));
    sent = new_sent;
    lone = new_lone;
  }

  answer_host : (u : ℕ) (m : Name) → IsMessageName m → host_of (answer_of u m) ≡ u
  unfolding answer_of host_of
  answer_host u (Sent m) i = refl
  answer_host u other i = absurd i

  differ : AnswersDiffer Names is v
  unfolding naming name_of
  differ h k i a g f e = f (sym (answer_host h i g.0) ∙ ap host_of (sym e) ∙ g.1)

  passes : PassesBy Names Good (IsOther v) By
  passes = step_passes Names is v differ

  waits : WaitsBy Names By
  waits = step_waits Names is v minds passes

  carried : (m : Name) → IsMessageName m → AnswersHere Names Good (IsOther v) By law minds passes waits m
  unfolding ◌>>=◌ come and_then naming mail_of name_of
  carried m i s k f g = with_owned s _ (λ o. let a : Name = answer_of s.number m in let t : Vat Name = record s { known = s.known ++ begun a s.number ∷ [] } in
      widen Names (CalmWith Good) By law {s = s} {t = t} (law.came s (IsAnswer s.number m) s.number) (f a t) ((g a (i, answer_host s.number m i ∙ o.0)).after t))

  carried_lone : (m : Name) → IsMessageName m → (k : ℕ) → Good (Names.mailed (IsCarried m) k) None
  unfolding naming mail_of
  carried_lone m i k = (i, tt)

  refers : Refers Names By
  refers = calm_refers Names Good (IsOther v) By law minds passes waits

  free : IsFree By
  free = record { activations = λ s. law.same s; thing = λ s x. law.same s; killed = λ s n. law.same s; slot = λ s c. law.same s; written = λ s n x. law.same s }

  after_calm : {A : Type 0} (m : Act Name A) (s : Vat Name) → Gentle By m → AfterGives (By s) (m s)
  after_calm m s h = gives_by By (By s) s (m s) (λ t r. r) (h.after s)

  -- ---- turns and notices

  marked : (w : ℕ) → Gentle By (mark w)
  unfolding mark
  marked w = record { after = law.same }

  pub ring_taking : (tree : List Node) (depth : ℕ) (m : Message Name) (s : Vat Name) → AfterGives (By s) (eval.taking Names tree depth m s)
  ring_taking tree depth m s = after_calm (eval.taking Names tree depth m) s (goes_taking Names (CalmWith Good) By law refers free tree depth m)

  pub ring_opening : (tree : List Node) (depth : ℕ) (root : Name) (given : List (Binding Name)) (s : Vat Name) → AfterGives (By s) (eval.opening Names tree depth root given s)
  ring_opening tree depth root given s = after_calm (eval.opening Names tree depth root given) s (goes_opening Names (CalmWith Good) By law refers free tree depth root given)

  pub ring_notice : (w : ℕ) (s : Vat Name) → AfterGives (By s) (arrive.notice Names w s)
  ring_notice w s = after_calm (arrive.notice Names w) s (goes_notice Names (CalmWith Good) By law refers marked w)

  -- ---- the news that a name settled elsewhere

  -- no gift is under a word that was not drawn
  abbrev pub NoGiftNext : Vat Name → Type 0
  NoGiftNext s = (p i : ℕ) → (WasDrawn s.drawn i → ⊥) → arrive.gift_at p i s.gifts ≡ None

  -- a name that is known is not the gift that comes to be known
  seen_apart : (ks : List (Known Name)) (n : Name) (u i : ℕ) → IsKnownIn (names_in ks) n → Once (names_in ks ++ Gift u i ∷ []) → n ≡ Gift u i → ⊥
  seen_apart ks n u i a o e = let known : IsKnownIn (names_in ks) (Gift u i) = rw e at a in once_last (names_in ks) (Gift u i) o known

  seen : (ks : List (Known Name)) (n : Name) (u i h : ℕ) → IsKnownIn (names_in ks) n → On ks (Linked Names is (See (Gift u i)) n (Gift u i) (ks ++ begun (Gift u i) h ∷ []))
  seen ks n u i h a = let g : Name = Gift u i in new_linked Names is (See g) n g h (edge_see g) ks (ks ++ begun g h ∷ []) (less_same Names is (ks ++ begun g h ∷ [])) (seen_apart ks n u i a)

  seen_owned : (ks : List (Known Name)) (n g : Name) (h : ℕ) → AllOf (HoldsOwn v) ks → AllOf (HoldsOwn v) (Linked Names is (See g) n g (ks ++ begun g h ∷ []))
  seen_owned ks n g h o = owned_linked Names is v (See g) n g (ks ++ begun g h ∷ []) tt (owned_begun v ks g h o)

  -- here: it is a gift that this vat hosts
  view_own : (s : Vat Name) (n : Name) (h u i w : ℕ) (p : Put Name) (o : Option (GiftEntry Name)) → o ≡ None → IsKnownIn (names_in s.known) n
      → AfterGives (By s) ((arrive.gift_or_new Names u h i o >>= (λ g. arrive.see Names n g)) (record s { drawn = s.drawn ++ w ∷ []; outbox = s.outbox ++ p ∷ [] }))
  unfolding arrive.gift_or_new arrive.see ◌>>=◌ ◌>>◌ and_then come new_gift give tell alter naming name_of
  view_own s n h u i w p (Some g) e a = cc
  view_own s n h u i w p None e a = λ o. ((o.0, seen_owned s.known n (Gift u i) u o.1), seen s.known n u i u a)

  -- elsewhere: the gift is asked for
  view_asked : (s : Vat Name) (n : Name) (h c i w : ℕ) (p : Put Name) → IsKnownIn (names_in s.known) n
      → AfterGives (By s) (((come Names (IsGift c i) c >>= (λ g. send_out c (Ask h i g) >> give g)) >>= (λ g. arrive.see Names n g)) (record s { drawn = s.drawn ++ w ∷ []; outbox = s.outbox ++ p ∷ [] }))
  unfolding arrive.see ◌>>=◌ ◌>>◌ and_then come send_out give tell alter naming name_of
  view_asked s n h c i w p a = λ o. ((o.0, seen_owned s.known n (Gift c i) c o.1), seen s.known n c i c a)

  view_had : (s : Vat Name) (n : Name) (h i w : ℕ) (p : Put Name) → (WasDrawn s.drawn i → ⊥) → NoGiftNext s → IsKnownIn (names_in s.known) n
      → AfterGives (By s) ((arrive.have_gift Names h i >>= (λ g. arrive.see Names n g)) (record s { drawn = s.drawn ++ w ∷ []; outbox = s.outbox ++ p ∷ [] }))
  unfolding arrive.have_gift ◌>>=◌ and_then look
  view_had s n h i w p l new a = view_own s n h s.number i w p (arrive.gift_at h i s.gifts) (new h i l) a

  view_there_at : (s : Vat Name) (n : Name) (h c i w : ℕ) (p : Put Name) (b : Bool) → (WasDrawn s.drawn i → ⊥) → NoGiftNext s → IsKnownIn (names_in s.known) n
      → AfterGives (By s) (((if b then arrive.have_gift Names h i else (come Names (IsGift c i) c >>= (λ g. send_out c (Ask h i g) >> give g))) >>= (λ g. arrive.see Names n g)) (record s { drawn = s.drawn ++ w ∷ []; outbox = s.outbox ++ p ∷ [] }))
  view_there_at s n h c i w p true l new a = view_had s n h i w p l new a
  view_there_at s n h c i w p false l new a = view_asked s n h c i w p a

  view_drawn : (s : Vat Name) (n : Name) (h c w : ℕ) (o : Option ℕ) → drawn_at zero w s.drawn ≡ o → NoGiftNext s → IsKnownIn (names_in s.known) n
      → AfterGives (By s) (and_then (draws w o s) (λ i. send_out h (Shorten n c (under h i)) >> (arrive.gift_there Names s.number h c (under h i) >>= (λ g. arrive.see Names n g))))
  unfolding draws and_then ◌>>◌ send_out arrive.gift_there
  view_drawn s n h c w (Some j) e new a = tt
  view_drawn s n h c w None e new a = let i : ℕ = under h (key s.number w) in view_there_at s n h c i w (record { to = h; note = Shorten n c i }) (c == s.number) (key_not_drawn s.drawn w i e (word_under_key h s.number w)) new a

  view_there : (s : Vat Name) (n : Name) (c : ℕ) → NoGiftNext s → IsKnownIn (names_in s.known) n → AfterGives (By s) (arrive.view_there Names n c s)
  unfolding arrive.view_there ◌>>=◌ and_then look draw
  view_there s n c new a = view_drawn s n (host_at Names s.number s.known n) c (Names.word (length s.drawn)) (drawn_at zero (Names.word (length s.drawn)) s.drawn) refl new a

  went : (n : Name) (c : ℕ) (s : Vat Name) (b : Bool) → NoGiftNext s → IsKnownIn (names_in s.known) n → AfterGives (By s) ((if b then refs.settle Names n (Broken (codes "partition")) else arrive.view_there Names n c) s)
  went n c s true new a = after_calm (refs.settle Names n (Broken (codes "partition"))) s (calm_settle Names Good (IsOther v) By law minds passes n (Broken (codes "partition")))
  went n c s false new a = view_there s n c new a

  either_old : (x : Name) (c : ℕ) (s : Vat Name) (b : Bool) → world.is_old (names_in s.known) x ≡ b → NoGiftNext s → AfterGives (By s) (arrive.arrive_elsewhere Names (elim b [ true ↦ Old x | false ↦ New x (host_of x) ]) c s)
  unfolding arrive.arrive_elsewhere arrive.learn_name ◌>>=◌ and_then give look come naming name_of begun
  either_old x c s true e new = went x c s (is_in c s.noticed) new (old_known (names_in s.known) x e)
  either_old x c s false e new = let t : Vat Name = record s { known = s.known ++ begun x (host_of x) ∷ [] } in
      let among : IsAmong x (names_in t.known) = rw (sym (names_end s.known (begun x (host_of x)))) at (among_last (names_in s.known) x) in
      gives_map (By t) (By s) _ (λ u r. law.trans {s = s} {t = t} {u = u} (law.came s (IsLearnt x) (host_of x)) r) (went x c t (is_in c s.noticed) new (known_among (names_in t.known) x among))

  pub ring_arrive : (from : ℕ) (ks : List Name) (n : Note Name) (s : Vat Name) → ks ≡ names_in s.known → NamesMail n → NoGiftNext s → AfterGives (By s) (arrive.arrive Names from (world.read_note ks n) s)
  unfolding arrive.arrive world.read_note world.read_name
  ring_arrive from ks (Deliver d n verb ys) s e mail new = after_calm _ s (calm_arrive_deliver Names Good (IsOther v) By law minds passes waits from _ _ d.asks (carried d.message mail) (λ k. carried_lone d.message mail k) _ verb _)
  ring_arrive from ks (Open i n) s e mail new = after_calm _ s (goes_arrive_open Names (CalmWith Good) By law refers from i _)
  ring_arrive from ks (Ask p i n) s e mail new = after_calm _ s (goes_arrive_ask Names (CalmWith Good) By law refers from p i)
  ring_arrive from ks (SettledTo n y) s e mail new = after_calm _ s (goes_arrive_settled Names (CalmWith Good) By law refers from _ _)
  ring_arrive from ks (Elsewhere n c) s e mail new = either_old n c s (world.is_old ks n) (ap (λ ns. world.is_old ns n) (sym e)) new
  ring_arrive from ks (Shorten n c i) s e mail new = after_calm _ s (goes_arrive_shorten Names (CalmWith Good) By law refers _ i)
