-- Where names are known once, a note that arrives asks for gifts that are new, in front of all that names them.
use Rattle.std.proofs.Common.{◌≡◌, ℕ, suc, Bool, true, false, List, [], ◌∷◌, ◌++◌, Option, Some, None, refl, sym, ap, subst, ◌∙◌, ◌⊎◌, inl, inr, append_assoc, append-nil, if◌then◌else◌, length, ◌==◌, codes}
use Rattle.def_machine.specs.Values.{Words, Value, Null, Flag, Number, Letter, Text, Prim, Broken, Items, Ref, Name, Gift, same_reference, Naming, IsGift, IsAnswer, naming, name_of, mail_of, host_of, key, under}
use Rattle.def_machine.specs.State.{Stop, Known, ToTell, open_gift, Settle, Passed, Passeds, Plain, AGift, Many, NoMore, More, Note, Delivery, Deliver, Open, Ask, SettledTo, Elsewhere, Shorten, Put, Settles, ListCame, Vat, Done, Gives, Stops, Act, ◌>>=◌, ◌>>◌, and_then, give, look, tell, each, come, mail, draw, draws, new_list, send_out, alter, with_change, is_in, begun}
use Rattle.def_machine.specs.Refs as refs
use Rattle.def_machine.specs.Refs.{entry_of, host_at}
use Rattle.def_machine.specs.Arrive as arrive
use Rattle.def_machine.specs.Arrive.{Old, New}
use Rattle.def_run.specs.World as world
use Rattle.law_machine.specs.Machine.Steps.{After}
use Rattle.law_machine.proofs.Machine.Keeps.{Keeps, IsKept, IsKeptUnder, keeps_bind, keeps_then, keeps_if, keeps_give, keeps_look, keeps_come, keeps_alter, keeps_open}
use Rattle.law_machine.proofs.Machine.RefsKeeps.{keeps_settle, keeps_send_on, keeps_resolve}
use Rattle.law_machine.proofs.Machine.ArriveKeeps.{keeps_learn_name, keeps_learn, keeps_learn_all, keeps_make_list, keeps_have_gift, keeps_view_there, keeps_shorten_to, keeps_arrive_ask}
use Rattle.law_fate.proofs.Fates.Leads.{Leads, Ends, leads_bind}
use Rattle.law_fate.specs.Name.Names.{AllOf, IsAmong, IsKnownIn, IsEventual, Once, names_in}
use Rattle.law_fate.proofs.Name.Facts.{all_append, all_map}
use Rattle.law_fate.proofs.Name.SameNames.{reference_is, reference_self}
use Rattle.law_fate.proofs.Name.Among.{among_or, names_end}
use Rattle.law_fate.proofs.Name.Tracked.{names_change}
use Rattle.law_frame.specs.Frame.Asked.{told_in}
use Rattle.law_frame.specs.Frame.Alike.{names_heard}
use Rattle.law_frame.proofs.Frame.Ranks.{Starts}
use Rattle.law_frame.proofs.Frame.Grow.{on_bool, starts_same, starts_end, starts_on, starts_among, after_starts, passed_known, all_known, after_itself}
use Rattle.law_frame.proofs.Frame.AlikeAsking.{Any, IsNoAsk, Quiet, quiet_on, base, quiet_settle, quiet_have_gift, quiet_arrive_ask, quiet_arrive_open, quiet_arrive_shorten, quiet_see, quiet_sent}
use Rattle.law_frame.proofs.Frame.Order.{InOrder, IsNewAsk, Within, notes_of, order_less, quiet_order, asks_order}

-- a name that stands twice is not known once
once_not : (xs ys : List Name) (n : Name) → IsAmong n xs → Once (xs ++ n ∷ ys) → ⊥
once_not [] ys n a o = a
once_not (x ∷ xs) ys n (inl e) o = o.0 (subst (λ z. IsAmong z (xs ++ n ∷ ys)) e (there xs))
  where
    there : (xs : List Name) → IsAmong n (xs ++ n ∷ ys)
    there [] = inl refl
    there (z ∷ zs) = inr (there zs)
once_not (x ∷ xs) ys n (inr a) o = once_not xs ys n a o.1

once_new : (F ks : List Name) (n : Name) → Starts (ks ++ n ∷ []) F → Once F → IsAmong n ks → ⊥
once_new F ks n f o a = once_not ks f.0 n a (subst (λ ns. Once ns) (f.1 ∙ append_assoc ks (n ∷ []) f.0) o)

-- ---- names are added at the end

abbrev pub Grows : Vat Name → Vat Name → Type 0
Grows s t = Starts (names_in s.known) (names_in t.known)

grows_same : (s t : Vat Name) → names_in t.known ≡ names_in s.known → Grows s t
grows_same s t e = ([], e ∙ sym (append-nil (names_in s.known)))

grows_end : (ks : List (Known Name)) (n : Name) (h : ℕ) → Starts (names_in ks) (names_in (ks ++ begun n h ∷ []))
unfolding begun
grows_end ks n h = (n ∷ [], names_end ks (begun n h))

pub kept : IsKept Grows
kept = record {
  same = λ s. grows_same s s refl;
  trans = λ {s} {t} {u} h k. starts_on (names_in s.known) (names_in t.known) (names_in u.known) h k;
  fuel = λ s n. starts_same (names_in s.known);
  happened = λ s e. starts_same (names_in s.known);
  activations = λ s. starts_same (names_in s.known);
  thing = λ s t. starts_same (names_in s.known);
  killed = λ s n. starts_same (names_in s.known);
  slot = λ s c. starts_same (names_in s.known);
  written = λ s n y. starts_same (names_in s.known);
  list = λ s vs. starts_same (names_in s.known);
  queue = λ s m. starts_same (names_in s.known);
  outbox = λ s n. starts_same (names_in s.known);
  gift = λ s g. starts_same (names_in s.known);
  opened = λ s p i. starts_same (names_in s.known);
  noticed = λ s w. starts_same (names_in s.known);
  drawn = λ s w. starts_same (names_in s.known);
}

pub kept_under : (K : Naming Name Name) → IsKeptUnder K Grows
kept_under K = record {
  altered = λ s c n. grows_same s (record s { known = with_change K c n s.known }) (names_change K c n s.known);
  came = λ s c h. grows_end s.known _ h;
  mailed = λ s c. starts_same (names_in s.known);
  promised = λ s. grows_end s.known _ s.number;
  messaged = λ s h id. grows_end s.known _ h;
  lone = λ s id. starts_same (names_in s.known);
}

-- ---- what is learnt

-- the notes that were put ask for gifts that are none of these names
abbrev AskedNew : List Name → Vat Name → Vat Name → Type 0
AskedNew ks s t = (ps : List (Put Name)) × (t.outbox ≡ s.outbox ++ ps) × AllOf (λ (p : Put Name). IsNewAsk ks p.note) ps

-- Where ks are the names known before, and what is known in the end is known once: those known after are k1, each note that was put asks for a gift that is new, and nothing stops.
abbrev pub Learns : {A : Type 0} → List Name → List Name → Vat Name → Done Name A → Type 0
Learns ks k1 s (Gives a t) = (F : List Name) → Starts (names_in t.known) F → Once F → (names_in t.known ≡ k1) × AskedNew ks s t
Learns ks k1 s (Stops c t) = (F : List Name) → Starts (names_in t.known) F → Once F → ⊥
Learns ks k1 s other = Unit {0}

nothing_asked : (ks : List Name) (s t : Vat Name) → t.outbox ≡ s.outbox → AskedNew ks s t
nothing_asked ks s t e = ([], e ∙ sym (append-nil s.outbox), tt)

fewer : (ks k1 : List Name) → Starts ks k1 → (n : Note Name) → IsNewAsk k1 n → IsNewAsk ks n
fewer ks k1 f (Ask p i n) h = (h.0, λ a. h.1 (starts_among ks k1 f n a))
fewer ks k1 f other h = h

asked_on : (ks k1 : List Name) (s t u : Vat Name) → Starts ks k1 → AskedNew ks s t → AskedNew k1 t u → AskedNew ks s u
asked_on ks k1 s t u f h k = (h.0 ++ k.0, k.1 ∙ ap (λ ps. ps ++ k.0) h.1 ∙ append_assoc s.outbox h.0 k.0, all_append (λ (p : Put Name). IsNewAsk ks p.note) h.0 k.0 h.2 (all_map (λ (p : Put Name) i. fewer ks k1 f p.note i) k.0 k.2))

both_learn : {B : Type 0} (ks k1 k2 : List Name) (s t : Vat Name) (d : Done Name B) → Starts ks k1 → ((F : List Name) → Starts (names_in t.known) F → Once F → (names_in t.known ≡ k1) × AskedNew ks s t) → After Grows t d → (names_in t.known ≡ k1 → Learns k1 k2 t d) → Learns ks k2 s d
both_learn ks k1 k2 s t (Gives b u) f l g k = λ F h o. let one = l F (starts_on (names_in t.known) (names_in u.known) F g h) o in let two = k one.0 F h o in (two.0, asked_on ks k1 s t u f one.1 two.1)
both_learn ks k1 k2 s t (Stops c u) f l g k = λ F h o. let one = l F (starts_on (names_in t.known) (names_in u.known) F g h) o in k one.0 F h o
both_learn ks k1 k2 s t other f l g k = tt

then_learns : {A B : Type 0} (ks k1 k2 : List Name) (s : Vat Name) (d : Done Name A) (f : A → Act Name B) → Starts ks k1 → Learns ks k1 s d → ((a : A) → Keeps Grows (f a)) → ((a : A) (t : Vat Name) → names_in t.known ≡ k1 → Learns k1 k2 t (f a t)) → Learns ks k2 s (and_then d f)
unfolding and_then
then_learns ks k1 k2 s (Gives a t) f h l g k = both_learn ks k1 k2 s t (f a t) h l ((g a).after t) (k a t)
then_learns ks k1 k2 s (Stops c t) f h l g k = l
then_learns ks k1 k2 s other f h l g k = tt

-- ---- outcomes of a whole note

-- where what is known in the end is known once, the notes that were put are in order
abbrev pub Ordered : List Name → Done Name (Unit {0}) → Type 0
Ordered ks (Gives a t) = Once (names_in t.known) → InOrder ks (notes_of t.outbox)
Ordered ks other = Unit {0}

puts_are : (s t : Vat Name) (ps : List (Put Name)) → s.outbox ≡ [] → t.outbox ≡ s.outbox ++ ps → t.outbox ≡ ps
puts_are s t ps e f = f ∙ ap (λ qs. qs ++ ps) e

pub quiet_ordered : (ks : List Name) (s : Vat Name) → s.outbox ≡ [] → (d : Done Name (Unit {0})) → Ends Any Quiet s d → Ordered ks d
quiet_ordered ks s e (Gives a t) q = λ o. subst (λ ps. InOrder ks (notes_of ps)) (sym (puts_are s t q.puts e q.outbox)) (quiet_order ks q.puts q.none)
quiet_ordered ks s e other q = tt

learnt_ordered : (ks k1 : List Name) (s t : Vat Name) → s.outbox ≡ [] → ((F : List Name) → Starts (names_in t.known) F → Once F → (names_in t.known ≡ k1) × AskedNew ks s t) → (d : Done Name (Unit {0})) → Ends Any Quiet t d → Ordered ks d
learnt_ordered ks k1 s t e l (Gives b u) q = λ o. let one = l (names_in u.known) q.names o in let asked = one.1 in
    let same : u.outbox ≡ asked.0 ++ q.puts = q.outbox ∙ ap (λ ps. ps ++ q.puts) (puts_are s t asked.0 e asked.1) in subst (λ ps. InOrder ks (notes_of ps)) (sym same) (asks_order ks asked.0 q.puts asked.2 q.none)
learnt_ordered ks k1 s t e l other q = tt

learnt_then : {A : Type 0} (ks k1 : List Name) (s : Vat Name) (d : Done Name A) (f : A → Act Name (Unit {0})) → s.outbox ≡ [] → Learns ks k1 s d → ((a : A) → Leads Any Quiet (f a)) → Ordered ks (and_then d f)
unfolding and_then
learnt_then ks k1 s (Gives a t) f e l q = learnt_ordered ks k1 s t e l (f a t) ((q a).after t)
learnt_then ks k1 s other f e l q = tt

ordered_less : (less more : List Name) → Within less more → (d : Done Name (Unit {0})) → Ordered more d → Ordered less d
ordered_less less more f (Gives a t) h = λ o. order_less less more f (notes_of t.outbox) (h o)
ordered_less less more f other h = tt

module _ (word : ℕ → ℕ) (v : ℕ) where
  abbrev K : Naming Name Name
  K = naming word v

  -- ---- a name that comes to be known just then settles, and nothing else happens

  last_or : (b : Bool) (k : Known Name) (o : Option (Known Name)) → b ≡ true → ◌≡◌ {A = Option (Known Name)} (elim b [ true ↦ Some k | false ↦ o ]) (Some k)
  last_or true k o e = refl
  last_or false k o e = cc

  other_or : (b : Bool) (k : Known Name) (o p : Option (Known Name)) → b ≡ false → o ≡ p → ◌≡◌ {A = Option (Known Name)} (elim b [ true ↦ Some k | false ↦ o ]) p
  other_or true k o p e f = cc
  other_or false k o p e f = f

  last_entry : (ks : List (Known Name)) (n : Name) (h : ℕ) → IsEventual n → (IsAmong n (names_in ks) → ⊥) → entry_of K (ks ++ begun n h ∷ []) n ≡ Some (begun n h)
  unfolding entry_of naming begun
  last_entry [] n h e f = last_or (same_reference n n) (begun n h) None (reference_self n e)
  last_entry (k ∷ ks) n h e f = other_or (same_reference k.name n) k (entry_of K (ks ++ begun n h ∷ []) n) (Some (begun n h)) (on_bool (same_reference k.name n) (λ i. absurd (f (inl (sym (reference_is k.name n i))))) (λ i. i)) (last_entry ks n h e (λ a. f (inr a)))

  -- the state once it settled
  unfoldable SettledAlone : Vat Name → Name → Words → Vat Name
  SettledAlone s n t = record s { happened = s.happened ++ Settles n (Broken t) ∷ []; known = with_change K (Settle (Broken t)) n s.known }

  entry_settles : (settle : Name → Value Name → Act Name (Unit {0})) (s : Vat Name) (n : Name) (h : ℕ) (t : Words) (o : Option (Known Name)) → o ≡ Some (begun n h) → refs.settle_entry K settle n (Broken t) o s ≡ Gives tt (SettledAlone s n t)
  unfolding SettledAlone refs.settle_entry refs.settle_standing refs.settle_known begun tell alter each give ◌>>◌ and_then
  entry_settles settle s n h t o e = rw e refl

  settles_alone : (s : Vat Name) (n : Name) (h : ℕ) (t : Words) → entry_of K s.known n ≡ Some (begun n h) → refs.settle K n (Broken t) s ≡ Gives tt (SettledAlone s n t)
  unfolding refs.settle refs.settle_at refs.settle_one refs.target_of look ◌>>=◌ and_then
  settles_alone s n h t e = entry_settles (λ q z. refs.settle_at K (suc (length s.known)) q z) s n h t (entry_of K s.known n) e

  settled_names : (s : Vat Name) (n : Name) (t : Words) → names_in (SettledAlone s n t).known ≡ names_in s.known
  unfolding SettledAlone
  settled_names s n t = names_change K (Settle (Broken t)) n s.known

  settled_outbox : (s : Vat Name) (n : Name) (t : Words) → (SettledAlone s n t).outbox ≡ s.outbox
  unfolding SettledAlone
  settled_outbox s n t = refl

  gives_is : (a b : Unit {0}) (s t : Vat Name) → ◌≡◌ {A = Done Name (Unit {0})} (Gives a s) (Gives b t) → s ≡ t
  gives_is a b s t e = cc

  gives_no : (c : Stop) (b : Unit {0}) (s t : Vat Name) → ◌≡◌ {A = Done Name (Unit {0})} (Stops c s) (Gives b t) → ⊥
  gives_no c b s t e = cc

  -- ---- learning

  name_either : (ks : List Name) (n : Name) (s : Vat Name) → names_in s.known ≡ ks → (b : Bool) → Learns ks (elim b [ true ↦ ks | false ↦ ks ++ n ∷ [] ]) s (arrive.learn_name K (elim b [ true ↦ Old n | false ↦ New n (host_of n) ]) s)
  unfolding arrive.learn_name give come naming name_of begun
  name_either ks n s e true = λ F f o. (e, nothing_asked ks s s refl)
  name_either ks n s e false = λ F f o. (names_end s.known (begun n (host_of n)) ∙ ap (λ ns. ns ++ n ∷ []) e, nothing_asked ks s (record s { known = s.known ++ begun n (host_of n) ∷ [] }) refl)

  pub name_learns : (ks : List Name) (n : Name) (s : Vat Name) → names_in s.known ≡ ks → Learns ks (world.known_after ks n) s (arrive.learn_name K (world.read_name ks n) s)
  unfolding world.read_name world.known_after
  name_learns ks n s e = name_either ks n s e (world.is_old ks n)

  give_learns : {A : Type 0} (ks : List Name) (a : A) (s : Vat Name) → names_in s.known ≡ ks → Learns ks ks s (give a s)
  unfolding give
  give_learns ks a s e = λ F f o. (e, nothing_asked ks s s refl)

  value_learns : (ks : List Name) (y : Value Name) (s : Vat Name) → names_in s.known ≡ ks → Learns ks (world.read_value ks y).known s (arrive.learn_value K (world.read_value ks y).read s)
  unfolding world.read_value arrive.learn_value ◌>>=◌
  value_learns ks Null s e = give_learns ks Null s e
  value_learns ks (Flag b) s e = give_learns ks (Flag b) s e
  value_learns ks (Number z) s e = give_learns ks (Number z) s e
  value_learns ks (Letter c) s e = give_learns ks (Letter c) s e
  value_learns ks (Text t) s e = give_learns ks (Text t) s e
  value_learns ks (Prim i) s e = give_learns ks (Prim i) s e
  value_learns ks (Broken t) s e = give_learns ks (Broken t) s e
  value_learns ks (Items i) s e = give_learns ks (Items i) s e
  value_learns ks (Ref n) s e = then_learns ks (world.known_after ks n) (world.known_after ks n) s (arrive.learn_name K (world.read_name ks n) s) (λ m. give (Ref m)) (after_starts ks n) (name_learns ks n s e) (λ m. keeps_give Grows kept (Ref m)) (λ m t f. give_learns (world.known_after ks n) (Ref m) t f)

  -- the state once the gift is known
  unfoldable With : Vat Name → ℕ → ℕ → Vat Name
  With s h i = record s { known = s.known ++ begun (Gift h i) h ∷ [] }

  with_names : (ks : List Name) (s : Vat Name) (h i : ℕ) → names_in s.known ≡ ks → names_in (With s h i).known ≡ ks ++ Gift h i ∷ []
  unfolding With begun
  with_names ks s h i e = names_end s.known (begun (Gift h i) h) ∙ ap (λ ns. ns ++ Gift h i ∷ []) e

  gift_settles : (ks : List Name) (h i : ℕ) (s : Vat Name) (t : Words) → names_in s.known ≡ ks → (d : Done Name (Unit {0})) → refs.settle K (Gift h i) (Broken t) (With s h i) ≡ d → After Grows (With s h i) d → Learns ks (ks ++ Gift h i ∷ []) s (and_then d (λ _. give (Ref (Gift h i))))
  unfolding and_then give With
  gift_settles ks h i s t e (Gives a u) f g = λ F st o. let s1 : Vat Name = With s h i in let n = Gift h i in let names = with_names ks s h i e in
      let new : IsAmong n ks → ⊥ = once_new F ks n (subst (λ ns. Starts ns F) names (starts_on (names_in s1.known) (names_in u.known) F g st)) o in
      let same : u ≡ SettledAlone s1 n t = gives_is a tt u (SettledAlone s1 n t) (sym f ∙ settles_alone s1 n h t (last_entry s.known n h tt (λ b. new (subst (λ ns. IsAmong n ns) e b)))) in
      (ap (λ (z : Vat Name). names_in z.known) same ∙ settled_names s1 n t ∙ names, nothing_asked ks s u (ap (λ (z : Vat Name). z.outbox) same ∙ settled_outbox s1 n t))
  gift_settles ks h i s t e (Stops c u) f g = λ F st o. let s1 : Vat Name = With s h i in let n = Gift h i in
      let new : IsAmong n ks → ⊥ = once_new F ks n (subst (λ ns. Starts ns F) (with_names ks s h i e) (starts_on (names_in s1.known) (names_in u.known) F g st)) o in
      gives_no c tt u (SettledAlone s1 n t) (sym f ∙ settles_alone s1 n h t (last_entry s.known n h tt (λ b. new (subst (λ ns. IsAmong n ns) e b))))
  gift_settles ks h i s t e other f g = tt

  gift_either : (ks : List Name) (p h i : ℕ) (s : Vat Name) (t : Words) → names_in s.known ≡ ks → (b : Bool) → Learns ks (ks ++ Gift h i ∷ []) s (and_then ((if b then refs.settle K (Gift h i) (Broken t) else send_out h (Ask p i (Gift h i))) (With s h i)) (λ _. give (Ref (Gift h i))))
  unfolding and_then give send_out With
  gift_either ks p h i s t e true = gift_settles ks h i s t e (refs.settle K (Gift h i) (Broken t) (With s h i)) refl ((keeps_settle K Grows kept (kept_under K) (Gift h i) (Broken t)).after (With s h i))
  gift_either ks p h i s t e false = λ F st o. let names = with_names ks s h i e in (names, (record { to = h; note = Ask p i (Gift h i) } ∷ [], refl, ((tt, once_new F ks (Gift h i) (subst (λ ns. Starts ns F) names st) o), tt)))

  gift_learns : (ks : List Name) (p h i : ℕ) (s : Vat Name) → names_in s.known ≡ ks → Learns ks (ks ++ Gift h i ∷ []) s (arrive.learn_gift K p h i s)
  unfolding arrive.learn_gift arrive.ask_for ◌>>=◌ ◌>>◌ and_then look come naming name_of With
  gift_learns ks p h i s e = gift_either ks p h i s _ e (is_in h s.noticed)

  list_learns : (ks : List Name) (vs : List (Value Name)) (s : Vat Name) → names_in s.known ≡ ks → Learns ks ks s (arrive.make_list K vs s)
  unfolding arrive.make_list new_list tell give ◌>>=◌ ◌>>◌ and_then
  list_learns ks vs s e = λ F f o. (e, nothing_asked ks s (record s { lists = s.lists ++ vs ∷ []; happened = s.happened ++ ListCame (length s.lists) vs ∷ [] }) refl)

  mutual
    unfolding world.read_passed world.read_all world.plain_read world.many_read world.more_read arrive.learn arrive.learn_all ◌>>=◌

    passed_learns : (from : ℕ) (ks : List Name) (y : Passed Name) (s : Vat Name) → names_in s.known ≡ ks → Learns ks (world.read_passed y ks).known s (arrive.learn K from (world.read_passed y ks).read s)
    passed_learns from ks (Plain y) s e = value_learns ks y s e
    passed_learns from ks (AGift h i) s e = gift_learns ks from h i s e
    passed_learns from ks (Many ys) s e = let k1 = (world.read_all ys ks).known in then_learns ks k1 k1 s (arrive.learn_all K from (world.read_all ys ks).read s) (λ vs. arrive.make_list K vs) (all_known ys ks) (all_learns from ks ys s e) (λ vs. keeps_make_list K Grows kept (kept_under K) vs) (λ vs t f. list_learns k1 vs t f)

    pub all_learns : (from : ℕ) (ks : List Name) (ys : Passeds Name) (s : Vat Name) → names_in s.known ≡ ks → Learns ks (world.read_all ys ks).known s (arrive.learn_all K from (world.read_all ys ks).read s)
    all_learns from ks NoMore s e = give_learns ks [] s e
    all_learns from ks (More y ys) s e = let k1 = (world.read_passed y ks).known in let k2 = (world.read_all ys k1).known in
        then_learns ks k1 k2 s (arrive.learn K from (world.read_passed y ks).read s) (λ z. arrive.learn_all K from (world.read_all ys k1).read >>= (λ zs. give (z ∷ zs))) (passed_known y ks) (passed_learns from ks y s e)
        (λ z. keeps_bind Grows kept (keeps_learn_all K Grows kept (kept_under K) from (world.read_all ys k1).read) (λ zs. keeps_give Grows kept (z ∷ zs)))
        (λ z t f. then_learns k1 k2 k2 t (arrive.learn_all K from (world.read_all ys k1).read t) (λ zs. give (z ∷ zs)) (all_known ys k1) (all_learns from k1 ys t f) (λ zs. keeps_give Grows kept (z ∷ zs)) (λ zs r g. give_learns k2 (z ∷ zs) r g))

  -- ---- whole notes

  within_start : (ks k1 : List Name) → Starts ks k1 → Within ks k1
  within_start ks k1 f n e a = starts_among ks k1 f n a

  deliver_ordered : (from : ℕ) (ks : List Name) (d : Delivery Name) (n : Name) (verb : Words) (ys : Passeds Name) (s : Vat Name) → names_in s.known ≡ ks → s.outbox ≡ [] → Ordered ks (arrive.arrive_deliver K from (record { message = New d.message (host_of d.message); asks = d.asks; answer = None }) (world.read_name (world.read_all ys ks).known n) verb (world.read_all ys ks).read s)
  unfolding arrive.arrive_deliver arrive.learn_message mail naming mail_of ◌>>=◌ and_then
  deliver_ordered from ks d n verb ys s e o = let m : Name = d.message in let k1 = (world.read_all ys ks).known in let s1 : Vat Name = record s { mails = s.mails ++ m ∷ [] } in
      learnt_then ks k1 s1 (arrive.learn_all K from (world.read_all ys ks).read s1) _ o (all_learns from ks ys s1 e) (λ args. quiet_sent K d.asks from (world.read_name k1 n) verb m args)

  settled_either : (from : ℕ) (ks : List Name) (n : Name) (y : Passed Name) (s : Vat Name) → names_in s.known ≡ ks → s.outbox ≡ [] → (b : Bool)
      → Ordered ks (arrive.arrive_settled K from (elim b [ true ↦ Old n | false ↦ New n (host_of n) ]) (world.read_passed y (elim b [ true ↦ ks | false ↦ ks ++ n ∷ [] ])).read s)
  unfolding arrive.arrive_settled arrive.learn_name ◌>>=◌ and_then give come naming name_of begun
  settled_either from ks n y s e o true = let k1 = (world.read_passed y ks).known in learnt_then ks k1 s (arrive.learn K from (world.read_passed y ks).read s) (λ z. refs.settle K n z) o (passed_learns from ks y s e) (λ z. quiet_settle K n z)
  settled_either from ks n y s e o false = let k0 = ks ++ n ∷ [] in let k1 = (world.read_passed y k0).known in let s1 : Vat Name = record s { known = s.known ++ begun n (host_of n) ∷ [] } in
      ordered_less ks k0 (within_start ks k0 (starts_end ks n)) _ (learnt_then k0 k1 s1 (arrive.learn K from (world.read_passed y k0).read s1) (λ z. refs.settle K n z) o (passed_learns from k0 y s1 (names_end s.known (begun n (host_of n)) ∙ ap (λ ns. ns ++ n ∷ []) e)) (λ z. quiet_settle K n z))

  -- the view of a name is asked for behind the note that names it
  shortened : (ks : List Name) (n : Name) (h c i : ℕ) (ps : List (Put Name)) → IsKnownIn ks n → (IsAmong (Gift c i) ks → ⊥) → AllOf (λ (p : Put Name). IsNoAsk p.note) ps → InOrder ks (Shorten n c i ∷ (Ask h i (Gift c i) ∷ notes_of ps))
  unfolding told_in
  shortened ks n h c i ps k f q = (tt, ((tt, λ a. either (among_or (Gift c i) ks n a)), quiet_order ((ks ++ n ∷ []) ++ []) ps q))
    where
      known : (m : Name) → m ≡ Gift c i → IsKnownIn ks m → IsAmong (Gift c i) ks
      known m e k = subst (λ z. IsKnownIn ks z) e k

      either : IsAmong (Gift c i) ks ⊎ (Gift c i ≡ n) → ⊥
      either (inl a) = f a
      either (inr e) = f (known n (sym e) k)

  seen_ends : (ks : List Name) (n : Name) (h c i : ℕ) (s2 : Vat Name) → IsKnownIn ks n → names_in s2.known ≡ ks ++ Gift c i ∷ [] → s2.outbox ≡ record { to = h; note = Shorten n c i } ∷ (record { to = c; note = Ask h i (Gift c i) } ∷ []) → (d : Done Name (Unit {0})) → Ends Any Quiet s2 d → Ordered ks d
  unfolding notes_of
  seen_ends ks n h c i s2 k e f (Gives a t) q = λ o. subst (λ ps. InOrder ks (notes_of ps)) (sym (q.outbox ∙ ap (λ ps. ps ++ q.puts) f)) (shortened ks n h c i q.puts k (once_new (names_in t.known) ks (Gift c i) (subst (λ ns. Starts ns (names_in t.known)) e q.names) o) q.none)
  seen_ends ks n h c i s2 k e f other q = tt

  quiet_from : (ks : List Name) (s t : Vat Name) → s.outbox ≡ [] → Quiet s t → (d : Done Name (Unit {0})) → Ends Any Quiet t d → Ordered ks d
  quiet_from ks s t e q (Gives a u) r = quiet_ordered ks s e (Gives a u) (quiet_on q r)
  quiet_from ks s t e q other r = tt

  there_either : (ks : List Name) (n : Name) (h c i : ℕ) (s s1 : Vat Name) → IsKnownIn ks n → names_in s.known ≡ ks → s.outbox ≡ [] → s1.known ≡ s.known → s1.outbox ≡ s.outbox ++ record { to = h; note = Shorten n c i } ∷ [] → (b : Bool)
      → Ordered ks (and_then ((if b then arrive.have_gift K h i else (come K (IsGift c i) c >>= (λ g. send_out c (Ask h i g) >> give g))) s1) (λ g. arrive.see K n g))
  unfolding ◌>>=◌ ◌>>◌ and_then come send_out give naming name_of begun
  there_either ks n h c i s s1 k e o f g true = quiet_from ks s s1 o (record { puts = record { to = h; note = Shorten n c i } ∷ []; outbox = g; none = (tt, tt); names = ([], ap names_in f ∙ sym (append-nil (names_in s.known))) }) _ ((leads_bind Any Quiet base (quiet_have_gift K h i) (λ r. quiet_see K n r)).after s1)
  there_either ks n h c i s s1 k e o f g false = let s2 : Vat Name = record s1 { known = s1.known ++ begun (Gift c i) c ∷ []; outbox = s1.outbox ++ record { to = c; note = Ask h i (Gift c i) } ∷ [] } in
      seen_ends ks n h c i s2 k (names_end s1.known (begun (Gift c i) c) ∙ ap (λ ns. ns ++ Gift c i ∷ []) (ap names_in f ∙ e)) (ap (λ ps. ps ++ record { to = c; note = Ask h i (Gift c i) } ∷ []) (g ∙ ap (λ ps. ps ++ record { to = h; note = Shorten n c i } ∷ []) o)) _ ((quiet_see K n (Gift c i)).after s2)

  drawn_either : (ks : List Name) (n : Name) (u h c : ℕ) (s : Vat Name) (x : ℕ) → IsKnownIn ks n → names_in s.known ≡ ks → s.outbox ≡ [] → (o : Option ℕ) → Ordered ks (and_then (draws x o s) (λ i. send_out h (Shorten n c (under h i)) >> (arrive.gift_there K u h c (under h i) >>= (λ g. arrive.see K n g))))
  unfolding draws and_then send_out ◌>>=◌ ◌>>◌ arrive.gift_there
  drawn_either ks n u h c s x k e o (Some j) = tt
  drawn_either ks n u h c s x k e o None = there_either ks n h c (under h (key s.number x)) s (record s { drawn = s.drawn ++ x ∷ []; outbox = s.outbox ++ record { to = h; note = Shorten n c (under h (key s.number x)) } ∷ [] }) k e o refl refl (c == u)

  view_ordered : (ks : List Name) (n : Name) (c : ℕ) (s : Vat Name) → IsKnownIn ks n → names_in s.known ≡ ks → s.outbox ≡ [] → Ordered ks (arrive.view_there K n c s)
  unfolding arrive.view_there ◌>>=◌ and_then look draw
  view_ordered ks n c s k e o = drawn_either ks n s.number (host_at K s.number s.known n) c s _ k e o _

  seen_either : (ks : List Name) (n : Name) (c : ℕ) (t : Words) (s : Vat Name) → IsKnownIn ks n → names_in s.known ≡ ks → s.outbox ≡ [] → (b : Bool) → Ordered ks ((if b then refs.settle K n (Broken t) else arrive.view_there K n c) s)
  seen_either ks n c t s k e o true = quiet_ordered ks s o _ ((quiet_settle K n (Broken t)).after s)
  seen_either ks n c t s k e o false = view_ordered ks n c s k e o

  elsewhere_either : (ks : List Name) (n : Name) (c : ℕ) (s : Vat Name) → names_in s.known ≡ ks → s.outbox ≡ [] → (b : Bool) → IsKnownIn (elim b [ true ↦ ks | false ↦ ks ++ n ∷ [] ]) n → Ordered ks (arrive.arrive_elsewhere K (elim b [ true ↦ Old n | false ↦ New n (host_of n) ]) c s)
  unfolding arrive.arrive_elsewhere arrive.learn_name ◌>>=◌ and_then give come look naming name_of begun
  elsewhere_either ks n c s e o true k = seen_either ks n c _ s k e o (is_in c s.noticed)
  elsewhere_either ks n c s e o false k = let k1 = ks ++ n ∷ [] in ordered_less ks k1 (within_start ks k1 (starts_end ks n)) _ (seen_either k1 n c _ (record s { known = s.known ++ begun n (host_of n) ∷ [] }) k (names_end s.known (begun n (host_of n)) ∙ ap (λ ns. ns ++ n ∷ []) e) o (is_in c s.noticed))

  pub note_ordered : (from : ℕ) (ks : List Name) (n : Note Name) (s : Vat Name) → names_in s.known ≡ ks → s.outbox ≡ [] → Ordered ks (arrive.arrive K from (world.read_note ks n) s)
  unfolding arrive.arrive world.read_note world.read_name world.known_after
  note_ordered from ks (Deliver m n verb ys) s e o = deliver_ordered from ks m n verb ys s e o
  note_ordered from ks (Open i n) s e o = quiet_ordered ks s o _ ((quiet_arrive_open K from i (world.read_name ks n)).after s)
  note_ordered from ks (Ask p i n) s e o = quiet_ordered ks s o _ ((quiet_arrive_ask K from p i).after s)
  note_ordered from ks (SettledTo n y) s e o = settled_either from ks n y s e o (world.is_old ks n)
  note_ordered from ks (Elsewhere n c) s e o = elsewhere_either ks n c s e o (world.is_old ks n) (after_itself ks n)
  note_ordered from ks (Shorten n c i) s e o = quiet_ordered ks s o _ ((quiet_arrive_shorten K (world.read_name ks n) i).after s)

  -- ---- what was read is known first

  -- where what is known in the end is known once, also where it stopped, it begins with these names
  abbrev pub Begins : List Name → Done Name (Unit {0}) → Type 0
  Begins ks (Gives a t) = Once (names_in t.known) → Starts ks (names_in t.known)
  Begins ks (Stops c t) = Once (names_in t.known) → Starts ks (names_in t.known)
  Begins ks other = Unit {0}

  learnt_begins : (ks k1 : List Name) (s t : Vat Name) → ((F : List Name) → Starts (names_in t.known) F → Once F → (names_in t.known ≡ k1) × AskedNew ks s t) → (d : Done Name (Unit {0})) → After Grows t d → Begins k1 d
  learnt_begins ks k1 s t l (Gives b u) g = λ o. let one = l (names_in u.known) g o in subst (λ ns. Starts ns (names_in u.known)) one.0 g
  learnt_begins ks k1 s t l (Stops c u) g = λ o. let one = l (names_in u.known) g o in subst (λ ns. Starts ns (names_in u.known)) one.0 g
  learnt_begins ks k1 s t l other g = tt

  pub begins_with : {A : Type 0} (ks k1 : List Name) (s : Vat Name) (d : Done Name A) (f : A → Act Name (Unit {0})) → Learns ks k1 s d → ((a : A) → Keeps Grows (f a)) → Begins k1 (and_then d f)
  unfolding and_then
  begins_with ks k1 s (Gives a t) f l g = learnt_begins ks k1 s t l (f a t) ((g a).after t)
  begins_with ks k1 s (Stops c t) f l g = λ o. absurd (l (names_in t.known) (starts_same (names_in t.known)) o)
  begins_with ks k1 s other f l g = tt

  pub begun_by : (ks k1 k2 : List Name) (s t : Vat Name) → ((F : List Name) → Starts (names_in t.known) F → Once F → (names_in t.known ≡ k1) × AskedNew ks s t) → (d : Done Name (Unit {0})) → After Grows t d → (names_in t.known ≡ k1 → Begins k2 d) → Begins k2 d
  begun_by ks k1 k2 s t l (Gives b u) g f = λ o. f (l (names_in u.known) g o).0 o
  begun_by ks k1 k2 s t l (Stops c u) g f = λ o. f (l (names_in u.known) g o).0 o
  begun_by ks k1 k2 s t l other g f = tt

  then_begins : {A : Type 0} (ks k1 k2 : List Name) (s : Vat Name) (d : Done Name A) (f : A → Act Name (Unit {0})) → Learns ks k1 s d → ((a : A) → Keeps Grows (f a)) → ((a : A) (t : Vat Name) → names_in t.known ≡ k1 → Begins k2 (f a t)) → Begins k2 (and_then d f)
  unfolding and_then
  then_begins ks k1 k2 s (Gives a t) f l g h = begun_by ks k1 k2 s t l (f a t) ((g a).after t) (h a t)
  then_begins ks k1 k2 s (Stops c t) f l g h = λ o. absurd (l (names_in t.known) (starts_same (names_in t.known)) o)
  then_begins ks k1 k2 s other f l g h = tt

  pub grows_begins : (ks : List Name) (s : Vat Name) → names_in s.known ≡ ks → (d : Done Name (Unit {0})) → After Grows s d → Begins ks d
  grows_begins ks s e (Gives a t) g = λ o. subst (λ ns. Starts ns (names_in t.known)) e g
  grows_begins ks s e (Stops c t) g = λ o. subst (λ ns. Starts ns (names_in t.known)) e g
  grows_begins ks s e other g = tt

  abbrev pub Answered : ℕ → Words → Name → List (Value Name) → Name → Act Name (Unit {0})
  Answered from verb id args n = look (λ s. s.number) >>= (λ u. come K (IsAnswer u id) u >>= (λ a. alter K (ToTell from) a >> refs.send_on K (refs.settle K) (record { id = id; target = Ref n; verb = verb; args = args; answer = Some a })))

  abbrev pub SentOn : Bool → ℕ → Words → Name → List (Value Name) → Name → Act Name (Unit {0})
  SentOn b from verb id args n = if b then Answered from verb id args n else refs.send_on K (refs.settle K) (record { id = id; target = Ref n; verb = verb; args = args; answer = None })

  pub sent_keeps : (b : Bool) (from : ℕ) (verb : Words) (id : Name) (args : List (Value Name)) (n : Name) → Keeps Grows (SentOn b from verb id args n)
  sent_keeps false from verb id args n = keeps_send_on K Grows kept (kept_under K) (refs.settle K) (keeps_settle K Grows kept (kept_under K)) (record { id = id; target = Ref n; verb = verb; args = args; answer = None })
  sent_keeps true from verb id args n = let law = kept_under K in keeps_bind Grows kept (keeps_look Grows kept (λ s. s.number)) (λ u. keeps_bind Grows kept (keeps_come K Grows law (IsAnswer u id) u) (λ a. keeps_then Grows kept (keeps_alter K Grows law (ToTell from) a) (keeps_send_on K Grows kept law (refs.settle K) (keeps_settle K Grows kept law) (record { id = id; target = Ref n; verb = verb; args = args; answer = Some a }))))

  deliver_begins : (from : ℕ) (ks : List Name) (d : Delivery Name) (n : Name) (verb : Words) (ys : Passeds Name) (s : Vat Name) → names_in s.known ≡ ks → Begins (world.known_after (world.read_all ys ks).known n) (arrive.arrive_deliver K from (record { message = New d.message (host_of d.message); asks = d.asks; answer = None }) (world.read_name (world.read_all ys ks).known n) verb (world.read_all ys ks).read s)
  unfolding arrive.arrive_deliver arrive.send_on_asked arrive.learn_message mail naming mail_of ◌>>=◌ and_then
  deliver_begins from ks d n verb ys s e = let m : Name = d.message in let k1 = (world.read_all ys ks).known in let k2 = world.known_after k1 n in let s1 : Vat Name = record s { mails = s.mails ++ m ∷ [] } in
      then_begins ks k1 k2 s1 (arrive.learn_all K from (world.read_all ys ks).read s1) (λ args. arrive.learn_name K (world.read_name k1 n) >>= (λ x. SentOn d.asks from verb m args x)) (all_learns from ks ys s1 e)
      (λ args. keeps_bind Grows kept (keeps_learn_name K Grows kept (kept_under K) (world.read_name k1 n)) (λ x. sent_keeps d.asks from verb m args x))
      (λ args t f. begins_with k1 k2 t (arrive.learn_name K (world.read_name k1 n) t) (λ x. SentOn d.asks from verb m args x) (name_learns k1 n t f) (λ x. sent_keeps d.asks from verb m args x))

  settled_begins : (from : ℕ) (ks : List Name) (n : Name) (y : Passed Name) (s : Vat Name) → names_in s.known ≡ ks → Begins (world.read_passed y (world.known_after ks n)).known (arrive.arrive_settled K from (world.read_name ks n) (world.read_passed y (world.known_after ks n)).read s)
  unfolding arrive.arrive_settled ◌>>=◌
  settled_begins from ks n y s e = let k1 = world.known_after ks n in let k2 = (world.read_passed y k1).known in let law = kept_under K in
      then_begins ks k1 k2 s (arrive.learn_name K (world.read_name ks n) s) (λ x. arrive.learn K from (world.read_passed y k1).read >>= (λ z. refs.settle K x z)) (name_learns ks n s e)
      (λ x. keeps_bind Grows kept (keeps_learn K Grows kept law from (world.read_passed y k1).read) (λ z. keeps_settle K Grows kept law x z))
      (λ x t f. begins_with k1 k2 t (arrive.learn K from (world.read_passed y k1).read t) (λ z. refs.settle K x z) (passed_learns from k1 y t f) (λ z. keeps_settle K Grows kept law x z))

  abbrev OpenedAs : ℕ → ℕ → Name → Act Name (Unit {0})
  OpenedAs from i y = arrive.have_gift K from i >>= (λ g. open_gift from i >> refs.resolve K g (Ref y))

  opened_keeps : (from i : ℕ) (y : Name) → Keeps Grows (OpenedAs from i y)
  opened_keeps from i y = let law = kept_under K in keeps_bind Grows kept (keeps_have_gift K Grows kept law from i) (λ g. keeps_then Grows kept (keeps_open Grows kept from i) (keeps_resolve K Grows kept law g (Ref y)))

  open_begins : (from : ℕ) (ks : List Name) (i : ℕ) (n : Name) (s : Vat Name) → names_in s.known ≡ ks → Begins (world.known_after ks n) (arrive.arrive_open K from i (world.read_name ks n) s)
  unfolding arrive.arrive_open ◌>>=◌
  open_begins from ks i n s e = begins_with ks (world.known_after ks n) s (arrive.learn_name K (world.read_name ks n) s) (λ y. OpenedAs from i y) (name_learns ks n s e) (λ y. opened_keeps from i y)

  abbrev SeenThere : ℕ → Name → Act Name (Unit {0})
  SeenThere c y = look (λ s. is_in c s.noticed) >>= (λ gone. if gone then refs.settle K y (Broken (codes "partition")) else arrive.view_there K y c)

  seen_keeps : (c : ℕ) (y : Name) → Keeps Grows (SeenThere c y)
  seen_keeps c y = let law = kept_under K in keeps_bind Grows kept (keeps_look Grows kept (λ s. is_in c s.noticed)) (λ b. keeps_if Grows kept b (keeps_settle K Grows kept law y (Broken (codes "partition"))) (keeps_view_there K Grows kept law y c))

  elsewhere_begins : (ks : List Name) (n : Name) (c : ℕ) (s : Vat Name) → names_in s.known ≡ ks → Begins (world.known_after ks n) (arrive.arrive_elsewhere K (world.read_name ks n) c s)
  unfolding arrive.arrive_elsewhere ◌>>=◌
  elsewhere_begins ks n c s e = begins_with ks (world.known_after ks n) s (arrive.learn_name K (world.read_name ks n) s) (λ y. SeenThere c y) (name_learns ks n s e) (λ y. seen_keeps c y)

  abbrev ShortenedTo : ℕ → Name → Act Name (Unit {0})
  ShortenedTo i y = look (λ s. refs.place K s (refs.follow K s (Ref y))) >>= (λ q. arrive.shorten_to K i q)

  shortened_keeps : (i : ℕ) (y : Name) → Keeps Grows (ShortenedTo i y)
  shortened_keeps i y = keeps_bind Grows kept (keeps_look Grows kept (λ s. refs.place K s (refs.follow K s (Ref y)))) (λ q. keeps_shorten_to K Grows kept (kept_under K) i q)

  shorten_begins : (ks : List Name) (n : Name) (i : ℕ) (s : Vat Name) → names_in s.known ≡ ks → Begins (world.known_after ks n) (arrive.arrive_shorten K (world.read_name ks n) i s)
  unfolding arrive.arrive_shorten ◌>>=◌
  shorten_begins ks n i s e = begins_with ks (world.known_after ks n) s (arrive.learn_name K (world.read_name ks n) s) (λ y. ShortenedTo i y) (name_learns ks n s e) (λ y. shortened_keeps i y)

  pub note_begins : (from : ℕ) (ks : List Name) (n : Note Name) (s : Vat Name) → names_in s.known ≡ ks → Begins (names_heard ks n) (arrive.arrive K from (world.read_note ks n) s)
  unfolding arrive.arrive world.read_note names_heard
  note_begins from ks (Deliver m n verb ys) s e = deliver_begins from ks m n verb ys s e
  note_begins from ks (Open i n) s e = open_begins from ks i n s e
  note_begins from ks (Ask p i n) s e = grows_begins ks s e (arrive.arrive_ask K from p i s) ((keeps_arrive_ask K Grows kept (kept_under K) from p i).after s)
  note_begins from ks (SettledTo n y) s e = settled_begins from ks n y s e
  note_begins from ks (Elsewhere n c) s e = elsewhere_begins ks n c s e
  note_begins from ks (Shorten n c i) s e = shorten_begins ks n i s e
