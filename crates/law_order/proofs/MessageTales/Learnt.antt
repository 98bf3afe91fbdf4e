-- A vat learns what a note brings: a relation that each of its acts keeps holds from the start to the end, and what it has for an argument is what the note told.
use Rattle.std.proofs.Common.{◌≡◌, ℕ, Bool, true, false, List, [], ◌∷◌, ◌++◌, Option, Some, None, length, refl, sym, ap, subst, ◌∙◌, ◌⊎◌, inl, inr, if◌then◌else◌}
use Rattle.std.specs.Prelude.{codes, slice_get}
use Rattle.def_machine.specs.Values.{Words, Value, Null, Flag, Number, Letter, Text, Prim, Broken, Items, Ref, Name, Answer, Gift, Sent, Msg, Naming, host_of, naming, name_of, same_reference}
use Rattle.def_machine.specs.State.{Known, ToTell, Passed, Passeds, Plain, AGift, Many, NoMore, More, Ask, ListCame, Vat, Done, Gives, ◌>>=◌, ◌>>◌, and_then, give, look, tell, each, new_list, come, send_out, begun, is_in, with_change}
use Rattle.def_machine.specs.Refs as refs
use Rattle.def_machine.specs.Arrive as arrive
use Rattle.def_machine.specs.Arrive.{Old, New}
use Rattle.def_run.specs.World as world
use Rattle.def_run.specs.World.{Script, World, names}
use Rattle.law_fate.specs.Name.Names.{IsAmong, IsEventual, AllOf, names_in}
use Rattle.law_order.specs.Ordering.Worlds.{IsKnown}
use Rattle.law_order.specs.Ordering.Steps.{IsHeld}
use Rattle.law_order.proofs.Ordering.Coming.{new_entry, old_entry}
use Rattle.law_order.proofs.Ordering.Entries.{reference_is}
use Rattle.law_order.specs.Carries.Carries.{IsNotNext, ValueNotNext, PassedNotNext, AllNotNext}
use Rattle.law_order.proofs.Carries.Breaking.{IsFresh, Broke, settles_so}
use Rattle.law_order.proofs.Carries.Carried.{learnt_in}
use Rattle.law_order.proofs.Carries.Learning as learning
use Rattle.law_order.proofs.Carries.Learning.{Yields, yields_bind, alone_self, IsAt}

-- what a relation is to hold of, to hold of all that a vat does as it learns
pub record IsCalm (K : Naming Name Name) (R : Vat Name → Vat Name → Type 0) : Type 0 where
  pub same : (s : Vat Name) → R s s
  pub trans : {s t u : Vat Name} → R s t → R t u → R s u
  pub mails : (s : Vat Name) (m : Name) → R s (record s { mails = s.mails ++ m ∷ [] })
  pub comes : (s : Vat Name) (n : Name) (h : ℕ) → h ≡ host_of n → R s (record s { known = s.known ++ begun n h ∷ [] })
  pub lists : (s : Vat Name) (vs : List (Value Name)) → R s (record s { lists = s.lists ++ vs ∷ []; happened = s.happened ++ ListCame (length s.lists) vs ∷ [] })
  pub tells : (s : Vat Name) (w : ℕ) (n : Name) → R s (record s { known = with_change K (ToTell w) n s.known })
  pub asks : (s : Vat Name) (h p i : ℕ) (n : Name) → R s (record s { outbox = s.outbox ++ record { to = h; note = Ask p i n } ∷ [] })
  pub breaks : (s : Vat Name) (p : Name) (problem : Words) (host : ℕ) (k : Known Name) → IsFresh K host s p k → R s (Broke K s p problem)
  -- names that were known are, and lists come to the end
  pub knows : {s t : Vat Name} → R s t → (n : Name) → IsKnown K s n → IsKnown K t n
  pub more : {s t : Vat Name} → R s t → (ls : List (List (Value Name))) × (t.lists ≡ s.lists ++ ls)

-- what the vat has for an argument that a note told, and for all
pub record IsHaving (Had : List (List (Value Name)) → Passed Name → Value Name → Type 0) (AllHad : List (List (Value Name)) → Passeds Name → List (Value Name) → Type 0) : Type 0 where
  pub plain : (ls : List (List (Value Name))) (y : Value Name) → Had ls (Plain y) y
  pub gift : (ls : List (List (Value Name))) (h i : ℕ) → Had ls (AGift h i) (Ref (Gift h i))
  pub many : (ls : List (List (Value Name))) (ys : Passeds Name) (k : ℕ) (vs : List (Value Name)) → slice_get ls k ≡ Some vs → AllHad ls ys vs → Had ls (Many ys) (Items k)
  pub none : (ls : List (List (Value Name))) → AllHad ls NoMore []
  pub one_more : (ls : List (List (Value Name))) (y : Passed Name) (ys : Passeds Name) (x : Value Name) (xs : List (Value Name)) → Had ls y x → AllHad ls ys xs → AllHad ls (More y ys) (x ∷ xs)
  pub later : (ls ms : List (List (Value Name))) (y : Passed Name) (x : Value Name) → Had ls y x → Had (ls ++ ms) y x
  pub all_later : (ls ms : List (List (Value Name))) (ys : Passeds Name) (xs : List (Value Name)) → AllHad ls ys xs → AllHad (ls ++ ms) ys xs

gift_sent : (h i : ℕ) (m : Msg) → Gift h i ≡ Sent m → ⊥
gift_sent h i m e = cc

pub gift_host : (h i : ℕ) → h ≡ host_of (Gift h i)
unfolding host_of
gift_host h i = refl

pub answer_host : (h : ℕ) (m : Msg) → h ≡ host_of (Answer h m)
unfolding host_of
answer_host h m = refl

last_at : {A : Type 0} (xs : List A) (x : A) → slice_get (xs ++ x ∷ []) (length xs) ≡ Some x
last_at [] x = refl
last_at (y ∷ xs) x = last_at xs x

both_yield : {A : Type 0} (P Q : A → Vat Name → Type 0) (d : Done Name A) → Yields P d → Yields Q d → Yields (λ a t. P a t × Q a t) d
both_yield P Q (Gives a t) h k = (h, k)
both_yield P Q other h k = tt

pub map_yield : {A : Type 0} (P Q : A → Vat Name → Type 0) (d : Done Name A) → Yields P d → ((a : A) (t : Vat Name) → P a t → Q a t) → Yields Q d
map_yield P Q (Gives a t) h f = f a t h
map_yield P Q other h f = tt

module _ (script : Script) (honest : ℕ → Bool) (w : World) (v : ℕ) (r : Vat Name) (host : ℕ) (msg : Msg) (R : Vat Name → Vat Name → Type 0) (calm : IsCalm (names script v) R)
    (Had : List (List (Value Name)) → Passed Name → Value Name → Type 0) (AllHad : List (List (Value Name)) → Passeds Name → List (Value Name) → Type 0) (having : IsHaving Had AllHad) where
  abbrev K : Naming Name Name
  K = names script v

  abbrev Bar : Name
  Bar = Answer host msg

  abbrev At : List Name → Vat Name → Type 0
  At ns s = IsAt script honest w v r host msg ns s

  abbrev Held : Vat Name → Value Name → Type 0
  Held s x = IsHeld script honest w v s x

  pub held_on : (s t : Vat Name) → R s t → (x : Value Name) → Held s x → Held t x
  held_on s t h (Ref n) (inl o) = inl o
  held_on s t h (Ref n) (inr k) = inr (calm.knows h n k)
  held_on s t h Null i = tt
  held_on s t h (Flag b) i = tt
  held_on s t h (Number z) i = tt
  held_on s t h (Letter c) i = tt
  held_on s t h (Text p) i = tt
  held_on s t h (Prim k) i = tt
  held_on s t h (Broken p) i = tt
  held_on s t h (Items k) i = tt

  pub all_held_on : (s t : Vat Name) → R s t → (xs : List (Value Name)) → AllOf (Held s) xs → AllOf (Held t) xs
  all_held_on s t h [] i = tt
  all_held_on s t h (x ∷ xs) i = (held_on s t h x i.0, all_held_on s t h xs i.1)

  -- one value was learnt, or all
  pub record Learnt (s : Vat Name) (ns : List Name) (y : Passed Name) (x : Value Name) (t : Vat Name) : Type 0 where
    pub rel : R s t
    pub at : At ns t
    pub had : Had t.lists y x
    pub held : Held t x

  pub record AllLearnt (s : Vat Name) (ns : List Name) (ys : Passeds Name) (xs : List (Value Name)) (t : Vat Name) : Type 0 where
    pub rel : R s t
    pub at : At ns t
    pub had : AllHad t.lists ys xs
    pub held : AllOf (Held t) xs

  -- ---- names

  came_known : (ks : List (Known Name)) (n : Name) (h : ℕ) → IsEventual n → (k : Known Name) × (refs.entry_of K (ks ++ begun n h ∷ []) n ≡ Some k)
  came_known ks n h plain = go (refs.entry_of K ks n) refl
    where
      go : (o : Option (Known Name)) → refs.entry_of K ks n ≡ o → (k : Known Name) × (refs.entry_of K (ks ++ begun n h ∷ []) n ≡ Some k)
      go (Some k) e = (k, old_entry K ks (begun n h) k n e)
      go None e = (begun n h, new_entry K ks (begun n h) n e ∙ alone_self script v n h plain)

  not_found : (ks : List (Known Name)) (n : Name) → (IsAmong n (names_in ks) → ⊥) → refs.entry_of K ks n ≡ None
  unfolding refs.entry_of names naming
  not_found [] n f = refl
  not_found (k ∷ ks) n f = go (not_found ks n (λ h. f (inr h))) (same_reference k.name n) refl
    where
      go : refs.entry_of K ks n ≡ None → (c : Bool) → same_reference k.name n ≡ c → ◌≡◌ {A = Option (Known Name)} (elim c [ true ↦ Some k | false ↦ refs.entry_of K ks n ]) None
      go h true e = absurd (f (inl (sym (reference_is k.name n e))))
      go h false e = h

  name_rel : (s : Vat Name) (ns : List Name) (n : Name) → Yields (λ x t. R s t) (arrive.learn_name K (world.read_name ns n) s)
  unfolding world.read_name arrive.learn_name give come names naming name_of
  name_rel s ns n = go (world.is_old ns n)
    where
      go : (b : Bool) → Yields (λ x t. R s t) (arrive.learn_name K (elim b [ true ↦ Old n | false ↦ New n (host_of n) ]) s)
      go true = calm.same s
      go false = calm.comes s n (host_of n) refl

  pub name_learnt : (s : Vat Name) (ns : List Name) (n : Name) → IsNotNext v r Bar n → At ns s → Yields (λ x t. (x ≡ n) × R s t × At (world.known_after ns n) t × Held t (Ref n)) (arrive.learn_name K (world.read_name ns n) s)
  name_learnt s ns n new at = map_yield (λ x t. ((x ≡ n) × learning.Learns script honest w v r host msg s (world.known_after ns n) t) × R s t) (λ x t. (x ≡ n) × R s t × At (world.known_after ns n) t × Held t (Ref n)) (arrive.learn_name K (world.read_name ns n) s)
      (both_yield (λ x t. (x ≡ n) × learning.Learns script honest w v r host msg s (world.known_after ns n) t) (λ x t. R s t) (arrive.learn_name K (world.read_name ns n) s) (learning.learn_name script honest w v r host msg s ns n new at) (name_rel s ns n))
      (λ x t h. (h.0.0, h.1, h.0.1.1, learnt_in script v t ns n new.1 h.0.1.1.0))

  value_learnt : (s : Vat Name) (ns : List Name) (y : Value Name) → ValueNotNext v r Bar y → At ns s → Yields (λ x t. Learnt s (world.read_value ns y).known (Plain y) x t) (arrive.learn_value K (world.read_value ns y).read s)
  unfolding world.read_value arrive.learn_value give ◌>>=◌
  value_learnt s ns (Ref n) new at = yields_bind (λ x t. (x ≡ n) × R s t × At (world.known_after ns n) t × Held t (Ref n)) (λ x t. Learnt s (world.known_after ns n) (Plain (Ref n)) x t) (arrive.learn_name K (world.read_name ns n) s) (λ m. give (Ref m)) (name_learnt s ns n new at)
      (λ m t h. record { rel = h.1; at = h.2; had = subst (λ z. Had t.lists (Plain (Ref n)) (Ref z)) (sym h.0) (having.plain t.lists (Ref n)); held = subst (λ z. Held t (Ref z)) (sym h.0) h.3 })
  value_learnt s ns Null new at = record { rel = calm.same s; at = at; had = having.plain s.lists Null; held = tt }
  value_learnt s ns (Flag b) new at = record { rel = calm.same s; at = at; had = having.plain s.lists (Flag b); held = tt }
  value_learnt s ns (Number z) new at = record { rel = calm.same s; at = at; had = having.plain s.lists (Number z); held = tt }
  value_learnt s ns (Letter c) new at = record { rel = calm.same s; at = at; had = having.plain s.lists (Letter c); held = tt }
  value_learnt s ns (Text p) new at = record { rel = calm.same s; at = at; had = having.plain s.lists (Text p); held = tt }
  value_learnt s ns (Prim k) new at = record { rel = calm.same s; at = at; had = having.plain s.lists (Prim k); held = tt }
  value_learnt s ns (Broken p) new at = record { rel = calm.same s; at = at; had = having.plain s.lists (Broken p); held = tt }
  value_learnt s ns (Items k) new at = record { rel = calm.same s; at = at; had = having.plain s.lists (Items k); held = tt }

  -- ---- gifts

  -- what an act gives, where it is the first of a list alone
  first_alone : (p : ℕ) (ms : List Name) (d : Done Name (Value Name)) → Yields (λ xs t. At ms t) (and_then d (λ x. arrive.learn_all K p NoMore >>= (λ xs. give (x ∷ xs)))) → Yields (λ x t. At ms t) d
  unfolding and_then arrive.learn_all give ◌>>=◌
  first_alone p ms (Gives x t) h = h
  first_alone p ms other h = tt

  at_one : (s : Vat Name) (ns : List Name) (p : ℕ) (y : Passed Name) → PassedNotNext v r Bar ns y → At ns s → Yields (λ x t. At (world.read_passed y ns).known t) (arrive.learn K p (world.read_passed y ns).read s)
  unfolding world.read_all world.more_read arrive.learn_all ◌>>=◌
  at_one s ns p y new at = first_alone p (world.read_passed y ns).known (arrive.learn K p (world.read_passed y ns).read s)
      (map_yield (λ xs t. learning.Learns script honest w v r host msg s (world.read_all (More y NoMore) ns).known t) (λ xs t. At (world.read_passed y ns).known t) (arrive.learn_all K p (world.read_all (More y NoMore) ns).read s)
      (learning.learn_all script honest w v r host msg s ns p (More y NoMore) (new, tt) at) (λ xs t h. h.1))

  abbrev Given : ℕ → ℕ → Vat Name → Vat Name
  Given h i s = record s { known = s.known ++ begun (Gift h i) h ∷ [] }

  gift_new : (s : Vat Name) (ns : List Name) (h i : ℕ) → (IsAmong (Gift h i) ns → ⊥) → At ns s → IsFresh K h (Given h i s) (Gift h i) (begun (Gift h i) h)
  unfolding begun
  gift_new s ns h i new at = record {
    found = new_entry K s.known (begun (Gift h i) h) (Gift h i) (not_found s.known (Gift h i) (λ a. new (subst (λ ms. IsAmong (Gift h i) ms) at.0 a))) ∙ alone_self script v (Gift h i) h tt;
    unsettled = refl;
    held = refl;
    waiting = refl;
    reactions = refl;
    hosted = refl;
  }

  abbrev GiftLearnt : Vat Name → ℕ → ℕ → Value Name → Vat Name → Type 0
  GiftLearnt s h i x t = R s t × (x ≡ Ref (Gift h i)) × IsKnown K t (Gift h i)

  asks_gift : (s : Vat Name) (p h i : ℕ) → GiftLearnt s h i (Ref (Gift h i)) (record (Given h i s) { outbox = s.outbox ++ record { to = h; note = Ask p i (Gift h i) } ∷ [] })
  asks_gift s p h i = (calm.trans (calm.comes s (Gift h i) h (gift_host h i)) (calm.asks (Given h i s) h p i (Gift h i)), refl, came_known s.known (Gift h i) h tt)

  told_none : (s : Vat Name) (h i : ℕ) → IsFresh K h (Given h i s) (Gift h i) (begun (Gift h i) h) → Yields (λ x t. GiftLearnt s h i x t) (and_then (each (refs.inform K (Gift h i)) (begun (Gift h i) h).told (Broke K (Given h i s) (Gift h i) (codes "partition"))) (λ z. give (Ref (Gift h i))))
  unfolding begun each give and_then
  told_none s h i fresh = (calm.trans (calm.comes s (Gift h i) h (gift_host h i)) (calm.breaks (Given h i s) (Gift h i) (codes "partition") h (begun (Gift h i) h) fresh), refl, calm.knows (calm.breaks (Given h i s) (Gift h i) (codes "partition") h (begun (Gift h i) h) fresh) (Gift h i) (came_known s.known (Gift h i) h tt))

  break_gift : (s : Vat Name) (h i : ℕ) → IsFresh K h (Given h i s) (Gift h i) (begun (Gift h i) h) → Yields (λ x t. GiftLearnt s h i x t) (and_then (refs.settle K (Gift h i) (Broken (codes "partition")) (Given h i s)) (λ z. give (Ref (Gift h i))))
  break_gift s h i fresh = subst (λ d. Yields (λ x t. GiftLearnt s h i x t) (and_then d (λ z. give (Ref (Gift h i))))) (sym (settles_so K h (Given h i s) (Gift h i) (codes "partition") fresh)) (told_none s h i fresh)

  gift_learnt : (s : Vat Name) (ns : List Name) (p h i : ℕ) → (is_in h r.noticed ≡ false) ⊎ ((h ≡ v → ⊥) × (IsAmong (Gift h i) ns → ⊥)) → At ns s → Yields (λ x t. GiftLearnt s h i x t) (arrive.learn_gift K p h i s)
  unfolding arrive.learn_gift arrive.ask_for give look come send_out ◌>>=◌ ◌>>◌ and_then names naming name_of host_of
  gift_learnt s ns p h i new at = go (is_in h s.noticed) refl new
    where
      go : (c : Bool) → is_in h s.noticed ≡ c → (is_in h r.noticed ≡ false) ⊎ ((h ≡ v → ⊥) × (IsAmong (Gift h i) ns → ⊥)) → Yields (λ x t. GiftLearnt s h i x t) (and_then ((if c then refs.settle K (Gift h i) (Broken (codes "partition")) else send_out h (Ask p i (Gift h i))) (Given h i s)) (λ z. give (Ref (Gift h i))))
      go false e f = asks_gift s p h i
      go true e (inr f) = break_gift s h i (gift_new s ns h i f.1 at)
      go true e (inl f) = absurd (let g : is_in h s.noticed ≡ false = ap (is_in h) at.3 ∙ f in cc)

  -- ---- all

  list_rel : (s : Vat Name) (vs : List (Value Name)) (ns : List Name) (ys : Passeds Name) → At ns s → AllHad s.lists ys vs → Yields (λ x t. R s t × Had t.lists (Many ys) x × Held t x) (arrive.make_list K vs s)
  unfolding arrive.make_list new_list tell give ◌>>=◌ ◌>>◌ and_then
  list_rel s vs ns ys at had = (calm.lists s vs, having.many (s.lists ++ vs ∷ []) ys (length s.lists) vs (last_at s.lists vs) (having.all_later s.lists (vs ∷ []) ys vs had), tt)

  mutual
    unfolding world.read_passed world.read_all world.plain_read world.many_read world.more_read arrive.learn arrive.learn_all give ◌>>=◌

    passed_learnt : (s : Vat Name) (ns : List Name) (p : ℕ) (y : Passed Name) → PassedNotNext v r Bar ns y → At ns s → Yields (λ x t. R s t × Had t.lists y x × Held t x) (arrive.learn K p (world.read_passed y ns).read s)
    passed_learnt s ns p (Plain y) new at = map_yield (λ x t. Learnt s (world.read_value ns y).known (Plain y) x t) (λ x t. R s t × Had t.lists (Plain y) x × Held t x) (arrive.learn_value K (world.read_value ns y).read s) (value_learnt s ns y new at) (λ x t h. (h.rel, h.had, h.held))
    passed_learnt s ns p (AGift h i) new at = map_yield (λ x t. GiftLearnt s h i x t) (λ x t. R s t × Had t.lists (AGift h i) x × Held t x) (arrive.learn_gift K p h i s) (gift_learnt s ns p h i new at)
        (λ x t g. (g.0, subst (λ z. Had t.lists (AGift h i) z) (sym g.1) (having.gift t.lists h i), subst (λ z. Held t z) (sym g.1) (inr g.2)))
    passed_learnt s ns p (Many ys) new at =
        let ms = (world.read_all ys ns).known in
        yields_bind (λ xs t. AllLearnt s ms ys xs t) (λ x t. R s t × Had t.lists (Many ys) x × Held t x) (arrive.learn_all K p (world.read_all ys ns).read s) (arrive.make_list K) (all_learnt s ns p ys new at)
        (λ xs t h. map_yield (λ x u. R t u × Had u.lists (Many ys) x × Held u x) (λ x u. R s u × Had u.lists (Many ys) x × Held u x) (arrive.make_list K xs t) (list_rel t xs ms ys h.at h.had) (λ x u g. (calm.trans h.rel g.0, g.1, g.2)))

    pub all_learnt : (s : Vat Name) (ns : List Name) (p : ℕ) (ys : Passeds Name) → AllNotNext v r Bar ns ys → At ns s → Yields (λ xs t. AllLearnt s (world.read_all ys ns).known ys xs t) (arrive.learn_all K p (world.read_all ys ns).read s)
    all_learnt s ns p NoMore new at = record { rel = calm.same s; at = at; had = having.none s.lists; held = tt }
    all_learnt s ns p (More y ys) new at =
        let ms = (world.read_passed y ns).known in
        let ks = (world.read_all ys ms).known in
        yields_bind (λ x t. (R s t × Had t.lists y x × Held t x) × At ms t) (λ xs t. AllLearnt s ks (More y ys) xs t) (arrive.learn K p (world.read_passed y ns).read s) (λ x. arrive.learn_all K p (world.read_all ys ms).read >>= (λ xs. give (x ∷ xs)))
        (both_yield (λ x t. R s t × Had t.lists y x × Held t x) (λ x t. At ms t) (arrive.learn K p (world.read_passed y ns).read s) (passed_learnt s ns p y new.0 at) (at_one s ns p y new.0 at))
        (λ x t h. yields_bind (λ xs u. AllLearnt t ks ys xs u) (λ xs u. AllLearnt s ks (More y ys) xs u) (arrive.learn_all K p (world.read_all ys ms).read t) (λ xs. give (x ∷ xs)) (all_learnt t ms p ys new.1 h.1)
        (λ xs u g. record {
          rel = calm.trans h.0.0 g.rel;
          at = g.at;
          had = having.one_more u.lists y ys x xs (subst (λ ls. Had ls y x) (sym (calm.more g.rel).1) (having.later t.lists (calm.more g.rel).0 y x h.0.1)) g.had;
          held = (held_on t u g.rel x h.0.2, g.held);
        }))
