-- Where a vat knows no name twice, all that it does but making a view closes no ring of waits and views.
use Rattle.std.proofs.Common.{◌≡◌, ℕ, zero, Bool, true, false, List, [], ◌∷◌, ◌++◌, Option, Some, None, refl, sym, ap, ◌∙◌, ◌⊎◌, inl, inr, length, if◌then◌else◌, append-nil, append_assoc}
use Rattle.std.specs.Prelude.{codes}
use Rattle.def_machine.specs.Values.{Broken, Name, Naming, IsAnswer}
use Rattle.def_machine.specs.State.{Known, Change, Wait, WaitOn, See, Vat, Done, Gives, ◌>>=◌, ◌>>◌, and_then, look, tell, alter, come, with_change, changed, changed_to, begun, for_some, Message}
use Rattle.def_machine.specs.Refs as refs
use Rattle.def_machine.specs.Refs.{entry_of, standing_of, standing_in, waits_lead}
use Rattle.law_machine.proofs.Machine.StepLaws.{entry_append}
use Rattle.law_fate.specs.Name.Names.{AllOf, IsAmong, Once, names_in}
use Rattle.law_fate.proofs.Name.Among.{among_last, among_is, names_end}
use Rattle.law_fate.proofs.Name.Tracked.{names_change}
use Rattle.law_reference.proofs.Reference.Entries.{SameOr, same_or, unless_either}
use Rattle.law_reference.proofs.Reference.Gentle.{GivesBy, Gentle}
use Rattle.law_reference.proofs.Reference.ViewsGo.{entry_last}
use Rattle.law_reference.proofs.Reference.ViewsMade.{entry_name, entry_self}
use Rattle.law_reference.proofs.Reference.Calm.{next, IsCalmChange, HoldsBy, change_wait, IsCalm}
use Rattle.law_reference.proofs.Reference.Chains.{leads_within}
use Rattle.law_reference.proofs.Reference.WaitRings.{AllLoose, Fewer, Added, fewer_loose, adds_loose, lone}
use Rattle.law_reference.proofs.Reference.Owned.{IsOwnPair, IsOther, HoldsOwn, Owned, owned_begun, owned_changed}
use Rattle.law_reference.proofs.Reference.RefsCalm.{Minds, PassesBy, WaitsBy, calm_deliver, calm_settle}

-- ---- lists without repetition

among_front : (x : Name) (xs ys : List Name) → IsAmong x xs → IsAmong x (xs ++ ys)
among_front x [] ys h = absurd h
among_front x (z ∷ xs) ys (inl e) = inl e
among_front x (z ∷ xs) ys (inr h) = inr (among_front x xs ys h)

once_front : (xs ys : List Name) → Once (xs ++ ys) → Once xs
once_front [] ys h = tt
once_front (x ∷ xs) ys h = ((λ i. h.0 (among_front x xs ys i)), once_front xs ys h.1)

pub once_last : (xs : List Name) (a : Name) → Once (xs ++ a ∷ []) → IsAmong a xs → ⊥
once_last [] a h i = i
once_last (x ∷ xs) a h (inl e) = h.0 (among_is x a (xs ++ a ∷ []) (sym e) (among_last xs a))
once_last (x ∷ xs) a h (inr i) = once_last xs a h.1 i

-- a change by which a name may come to wait on q
abbrev pub IsEdge : Change Name → Name → Type 0
IsEdge c q = (k : Known Name) (r : Name) → next (changed c k).standing ≡ Some r → (r ≡ q) ⊎ (next k.standing ≡ Some r)

edge_new : (c : Change Name) (q : Name) → ((k : Known Name) (r : Name) → next (changed_to c k).standing ≡ Some r → r ≡ q) → IsEdge c q
unfolding changed
edge_new c q f k r e = unless_either (λ x. next x.standing ≡ Some r → (r ≡ q) ⊎ (next k.standing ≡ Some r)) k.standing k (changed_to c k) (λ i. inr i) (λ i. inl (f k r i)) e

pub edge_wait : (q : Name) → IsEdge (WaitOn q) q
unfolding changed_to next
edge_wait q = edge_new (WaitOn q) q (λ k r e. cc)

pub edge_see : (q : Name) → IsEdge (See q) q
unfolding changed_to next
edge_see q = edge_new (See q) q (λ k r e. cc)

module _ (K : Naming Name Name) (is : (a b : Name) → K.same a b ≡ true → a ≡ b) where
  -- ---- more names, and no new waits

  abbrev pub Grows : List (Known Name) → List (Known Name) → Type 0
  Grows ks ls = (js : List Name) × (names_in ls ≡ names_in ks ++ js)

  grows_same : (ks ls : List (Known Name)) → names_in ls ≡ names_in ks → Grows ks ls
  grows_same ks ls e = ([], e ∙ sym (append-nil (names_in ks)))

  grows_trans : (ks ls ms : List (Known Name)) → Grows ks ls → Grows ls ms → Grows ks ms
  grows_trans ks ls ms h k = (h.0 ++ k.0, k.1 ∙ ap (λ x. x ++ k.0) h.1 ∙ append_assoc (names_in ks) h.0 k.0)

  pub once_grows : (ks ls : List (Known Name)) → Grows ks ls → Once (names_in ls) → Once (names_in ks)
  once_grows ks ls g h = once_front (names_in ks) g.0 (rw g.1 at h)

  abbrev pub LessIn : List (Known Name) → List (Known Name) → Type 0
  LessIn ks ls = Grows ks ls × Fewer K is ks ls

  -- no name waits on itself or is its own view
  abbrev pub NoneOnItself : List (Known Name) → Type 0
  NoneOnItself ks = (n : Name) → next (standing_of K ks n) ≡ Some n → ⊥

  abbrev pub StepIn : List (Known Name) → List (Known Name) → Type 0
  StepIn ks ls = Grows ks ls × (Once (names_in ls) → AllLoose K is ks → AllLoose K is ls) × (Once (names_in ls) → NoneOnItself ks → NoneOnItself ls)

  pub less_step : (ks ls : List (Known Name)) → LessIn ks ls → StepIn ks ls
  less_step ks ls h = (h.0, λ o all. fewer_loose K is ks ls h.1 all, λ o none n e. none n (h.1 n n e))

  pub less_same : (ks : List (Known Name)) → LessIn ks ks
  less_same ks = (grows_same ks ks refl, λ n q e. e)

  less_trans : (ks ls ms : List (Known Name)) → LessIn ks ls → LessIn ls ms → LessIn ks ms
  less_trans ks ls ms h k = (grows_trans ks ls ms h.0 k.0, λ n q e. h.1 n q (k.1 n q e))

  pub step_trans : (ks ls ms : List (Known Name)) → StepIn ks ls → StepIn ls ms → StepIn ks ms
  step_trans ks ls ms h k = (grows_trans ks ls ms h.0 k.0, λ o all. k.1 o (h.1 (once_grows ls ms k.0 o) all), λ o none. k.2 o (h.2 (once_grows ls ms k.0 o) none))

  next_at : (ks : List (Known Name)) (n q : Name) (k : Known Name) → entry_of K ks n ≡ Some k → next k.standing ≡ Some q → next (standing_of K ks n) ≡ Some q
  unfolding standing_of standing_in
  next_at ks n q k e h = rw e h

  at_next : (ks : List (Known Name)) (n q : Name) (k : Known Name) → entry_of K ks n ≡ Some k → next (standing_of K ks n) ≡ Some q → next k.standing ≡ Some q
  unfolding standing_of standing_in
  at_next ks n q k e h = rw e at h

  same_next : (ks ls : List (Known Name)) (n q : Name) → entry_of K ls n ≡ entry_of K ks n → next (standing_of K ls n) ≡ Some q → next (standing_of K ks n) ≡ Some q
  unfolding standing_of
  same_next ks ls n q e h = rw e at h

  calm_back : (c : Change Name) → IsCalmChange c → (m n q : Name) (ks ls : List (Known Name)) → SameOr K c m ks ls n → next (standing_of K ls n) ≡ Some q → next (standing_of K ks n) ≡ Some q
  calm_back c calm m n q ks ls (inl e) h = same_next ks ls n q e h
  calm_back c calm m n q ks ls (inr x) h = next_at ks n q x.0 x.1 (calm x.0 q (at_next ls n q (changed c x.0) x.3 h))

  pub less_changed : (c : Change Name) → IsCalmChange c → (m : Name) (ks : List (Known Name)) → LessIn ks (with_change K c m ks)
  less_changed c calm m ks = (grows_same ks (with_change K c m ks) (names_change K c m ks), λ n q e. calm_back c calm m n q ks (with_change K c m ks) (same_or K c m n ks) e)

  begun_next : (b : Bool) (a : Name) (h : ℕ) (q : Name) → next (standing_in (elim b [ true ↦ Some (begun a h) | false ↦ None ])) ≡ Some q → ⊥
  unfolding standing_in next begun
  begun_next true a h q e = cc
  begun_next false a h q e = cc

  -- a name that was not known waits on nothing
  new_next : (ks : List (Known Name)) (a n : Name) (h : ℕ) (q : Name) → entry_of K ks n ≡ None → next (standing_of K (ks ++ begun a h ∷ []) n) ≡ Some q → ⊥
  unfolding standing_of
  new_next ks a n h q e i = begun_next (K.same (begun a h).name n) a h q (rw (entry_last K ks (begun a h) n e) at i)

  append_next : (ks : List (Known Name)) (a n : Name) (h : ℕ) (q : Name) (o : Option (Known Name)) → entry_of K ks n ≡ o → next (standing_of K (ks ++ begun a h ∷ []) n) ≡ Some q → next (standing_of K ks n) ≡ Some q
  append_next ks a n h q (Some k) e i = same_next ks (ks ++ begun a h ∷ []) n q (entry_append K n ks (begun a h ∷ []) k e ∙ sym e) i
  append_next ks a n h q None e i = absurd (new_next ks a n h q e i)

  begun_names : (ks : List (Known Name)) (a : Name) (h : ℕ) → names_in (ks ++ begun a h ∷ []) ≡ names_in ks ++ a ∷ []
  unfolding begun
  begun_names ks a h = names_end ks (begun a h)

  pub less_begun : (ks : List (Known Name)) (a : Name) (h : ℕ) → LessIn ks (ks ++ begun a h ∷ [])
  less_begun ks a h = ((a ∷ [], begun_names ks a h), λ n q e. append_next ks a n h q (entry_of K ks n) refl e)

  -- ---- a wait that is added

  entry_none : (ks : List (Known Name)) (a : Name) → (IsAmong a (names_in ks) → ⊥) → entry_of K ks a ≡ None
  unfolding entry_of
  entry_none [] a f = refl
  entry_none (k ∷ ks) a f = none_head (K.same k.name a) (λ e. f (inl (sym (is k.name a e)))) (entry_none ks a (λ i. f (inr i)))
    where
      none_head : (b : Bool) → (b ≡ true → ⊥) → entry_of K ks a ≡ None → ◌≡◌ {A = Option (Known Name)} (elim b [ true ↦ Some k | false ↦ entry_of K ks a ]) None
      none_head true g e = absurd (g refl)
      none_head false g e = e

  edge_or : (c : Change Name) (q : Name) → IsEdge c q → (p n r : Name) (ks ls : List (Known Name)) → SameOr K c p ks ls n → next (standing_of K ls n) ≡ Some r → (next (standing_of K ks n) ≡ Some r) ⊎ Added K is p q n r
  edge_or c q edge p n r ks ls (inl e) h = inl (same_next ks ls n r e h)
  edge_or c q edge p n r ks ls (inr x) h = pick (edge x.0 r (at_next ls n r (changed c x.0) x.3 h))
    where
      pick : (r ≡ q) ⊎ (next x.0.standing ≡ Some r) → (next (standing_of K ks n) ≡ Some r) ⊎ Added K is p q n r
      pick (inl i) = inr (sym (entry_name K is ks n x.0 x.1) ∙ entry_name K is ks p x.0 x.2, i, entry_self K is ks p x.0 x.2)
      pick (inr i) = inl (next_at ks n r x.0 x.1 i)

  pub edge_step : (c : Change Name) (q : Name) → IsEdge c q → (p : Name) (ks : List (Known Name)) → ((d : ℕ) → waits_lead K d ks p q ≡ true → q ≡ p) → AllLoose K is ks → AllLoose K is (with_change K c p ks)
  edge_step c q edge p ks back all = adds_loose K is ks (with_change K c p ks) p q (λ n r e. edge_or c q edge p n r ks (with_change K c p ks) (same_or K c p n ks) e) back all

  -- p comes to wait on a, which waits on p
  abbrev pub Linked : Change Name → Name → Name → List (Known Name) → List (Known Name)
  Linked c p a ls = with_change K (Wait p) a (with_change K c p ls)

  linked_grows : (c : Change Name) (p a : Name) (ls : List (Known Name)) → Grows ls (Linked c p a ls)
  linked_grows c p a ls = grows_same ls (Linked c p a ls) (names_change K (Wait p) a (with_change K c p ls) ∙ names_change K c p ls)

  linked_loose : (c : Change Name) (q : Name) → IsEdge c q → (p : Name) (ks : List (Known Name)) → ((d : ℕ) → waits_lead K d ks p q ≡ true → q ≡ p) → AllLoose K is ks → AllLoose K is (Linked c p q ks)
  linked_loose c q edge p ks back all = fewer_loose K is (with_change K c p ks) (Linked c p q ks) (less_changed (Wait p) (change_wait p) q (with_change K c p ks)).1 (edge_step c q edge p ks back all)

  linked_apart : (c : Change Name) (q : Name) → IsEdge c q → (p : Name) (ks : List (Known Name)) → (K.same p p ≡ true → p ≡ q → ⊥) → NoneOnItself ks → NoneOnItself (Linked c p q ks)
  linked_apart c q edge p ks apart none n e = pick (edge_or c q edge p n n ks (with_change K c p ks) (same_or K c p n ks) ((less_changed (Wait p) (change_wait p) q (with_change K c p ks)).1 n n e))
    where
      pick : (next (standing_of K ks n) ≡ Some n) ⊎ Added K is p q n n → ⊥
      pick (inl i) = none n i
      pick (inr i) = apart i.2 (sym i.0 ∙ i.1)

  -- the name a comes to be known, and later p comes to wait on it
  pub new_linked : (c : Change Name) (p a : Name) (h : ℕ) → IsEdge c a → (ks ls : List (Known Name)) → LessIn (ks ++ begun a h ∷ []) ls → (Once (names_in ks ++ a ∷ []) → p ≡ a → ⊥) → StepIn ks (Linked c p a ls)
  new_linked c p a h edge ks ls less apart = (
    grows,
    λ o all. linked_loose c a edge p ls (λ d i. lone K is ls p a (alone o) d i) (fewer_loose K is (ks ++ begun a h ∷ []) ls less.1 (fewer_loose K is ks (ks ++ begun a h ∷ []) (less_begun ks a h).1 all)),
    λ o none. linked_apart c a edge p ls (λ self. apart (ended o)) (λ n e. none n ((less_begun ks a h).1 n n (less.1 n n e))),
  )
    where
      grows : Grows ks (Linked c p a ls)
      grows = grows_trans ks ls (Linked c p a ls) (grows_trans ks (ks ++ begun a h ∷ []) ls (less_begun ks a h).0 less.0) (linked_grows c p a ls)

      ended : Once (names_in (Linked c p a ls)) → Once (names_in ks ++ a ∷ [])
      ended o = rw (begun_names ks a h) at (once_grows (ks ++ begun a h ∷ []) ls less.0 (once_grows ls (Linked c p a ls) (linked_grows c p a ls) o))

      fresh : Once (names_in (Linked c p a ls)) → entry_of K ks a ≡ None
      fresh o = entry_none ks a (once_last (names_in ks) a (ended o))

      alone : Once (names_in (Linked c p a ls)) → (q : Name) → next (standing_of K ls a) ≡ Some q → ⊥
      alone o q e = new_next ks a a h q (fresh o) (less.1 a q e)

  pub stays : (ks : List (Known Name)) → StepIn ks ks
  stays ks = less_step ks ks (less_same ks)

  tested : (p q : Name) (ks : List (Known Name)) → waits_lead K (length ks) ks p q ≡ false → StepIn ks (Linked (WaitOn q) p q ks)
  unfolding waits_lead
  tested p q ks e = (linked_grows (WaitOn q) p q ks, λ o all. linked_loose (WaitOn q) q (edge_wait q) p ks (λ d h. absurd (clash d h)) all, λ o none. linked_apart (WaitOn q) q (edge_wait q) p ks (λ self i. clash zero (rw (sym i) self)) none)
    where
      clash : (d : ℕ) → waits_lead K d ks p q ≡ true → ⊥
      clash d h = let both : false ≡ true = sym e ∙ leads_within K is ks p d q h in cc

  -- ---- the relations, at vat v

  module _ (v : ℕ) where
    abbrev pub Less : Vat Name → Vat Name → Type 0
    Less s t = LessIn s.known t.known × (Owned v s → Owned v t)

    abbrev pub Step : Vat Name → Vat Name → Type 0
    Step s t = Owned v s → Owned v t × StepIn s.known t.known

    still : (s : Vat Name) → LessIn s.known s.known × (Owned v s → Owned v s)
    still s = (less_same s.known, λ o. o)

    less_law : IsCalm K (IsOwnPair v) Less
    less_law = record {
      same = λ s. still s;
      trans = λ {s} {t} {u} h k. (less_trans s.known t.known u.known h.0 k.0, λ o. k.1 (h.1 o));
      fuel = λ s n. still s;
      happened = λ s e. still s;
      list = λ s vs. still s;
      queue = λ s m. still s;
      outbox = λ s n. still s;
      gift = λ s g. still s;
      opened = λ s p i. still s;
      drawn = λ s w. still s;
      altered = λ s c n i. (less_changed c i.0 n s.known, λ o. (o.0, owned_changed v K c n s.known i.1 o.1));
      came = λ s c h. (less_begun s.known _ h, λ o. (o.0, owned_begun v s.known _ h o.1));
      mailed = λ s c. still s;
      lone = λ s id. still s;
      promised = λ s. (less_begun s.known _ s.number, λ o. (o.0, owned_begun v s.known _ s.number o.1));
      messaged = λ s h id. (less_begun s.known _ h, λ o. (o.0, owned_begun v s.known _ h o.1));
    }

    pub step_law : IsCalm K (IsOwnPair v) Step
    step_law = record {
      same = λ s o. (o, stays s.known);
      trans = λ {s} {t} {u} h k o. let first = h o in let second = k first.0 in (second.0, step_trans s.known t.known u.known first.1 second.1);
      fuel = λ s n o. (o, stays s.known);
      happened = λ s e o. (o, stays s.known);
      list = λ s vs o. (o, stays s.known);
      queue = λ s m o. (o, stays s.known);
      outbox = λ s n o. (o, stays s.known);
      gift = λ s g o. (o, stays s.known);
      opened = λ s p i o. (o, stays s.known);
      drawn = λ s w o. (o, stays s.known);
      altered = λ s c n i o. ((o.0, owned_changed v K c n s.known i.1 o.1), less_step s.known _ (less_changed c i.0 n s.known));
      came = λ s c h o. ((o.0, owned_begun v s.known _ h o.1), less_step s.known _ (less_begun s.known _ h));
      mailed = λ s c o. (o, stays s.known);
      lone = λ s id o. (o, stays s.known);
      promised = λ s o. ((o.0, owned_begun v s.known _ s.number o.1), less_step s.known _ (less_begun s.known _ s.number));
      messaged = λ s h id o. ((o.0, owned_begun v s.known _ h o.1), less_step s.known _ (less_begun s.known _ h));
    }

    -- ---- a message that is sent on

    pub owned_linked : (c : Change Name) (p a : Name) (ks : List (Known Name)) → HoldsBy (IsOwnPair v) c → AllOf (HoldsOwn v) ks → AllOf (HoldsOwn v) (Linked c p a ks)
    owned_linked c p a ks g h = owned_changed v K (Wait p) a (with_change K c p ks) tt (owned_changed v K c p ks g h)

    waits_after : (s : Vat Name) (p a : Name) (h : ℕ) (d : Done Name (Unit {0})) → (p ≡ a → ⊥) → GivesBy Less (record s { known = s.known ++ begun a h ∷ [] }) d → GivesBy Step s (and_then d (λ u. refs.wait_on K p a))
    unfolding and_then refs.wait_on ◌>>◌ tell alter
    waits_after s p a h (Gives u t) apart l = λ o. let held : Owned v t = l.1 (o.0, owned_begun v s.known a h o.1) in ((held.0, owned_linked (WaitOn a) p a t.known tt held.1), new_linked (WaitOn a) p a h (edge_wait a) s.known t.known l.0 (λ once. apart))
    waits_after s p a h other apart l = tt

    -- an answer here is none of another vat
    abbrev pub AnswersDiffer : Type 0
    AnswersDiffer = (h k : ℕ) (i a : Name) → IsOwnPair v i (Some a) → IsOther v h → a ≡ K.made (IsAnswer h i) k → ⊥

    passes_by : AnswersDiffer → (m : Message Name) (h : ℕ) (n : Name) (o : Option Name) → IsOwnPair v m.id o → IsOther v h → Gentle Step (for_some o (λ p. come K (IsAnswer h m.id) h >>= (λ a. refs.deliver K (record m { answer = Some a }) h n >> refs.wait_on K p a)) (refs.deliver K m h n))
    unfolding for_some come ◌>>=◌ ◌>>◌ and_then
    passes_by differ m h n (Some p) g f = record { after = λ s. let a : Name = K.made (IsAnswer h m.id) (length s.known) in let t : Vat Name = record s { known = s.known ++ begun a h ∷ [] } in waits_after s p a h (refs.deliver K (record m { answer = Some a }) h n t) (differ h (length s.known) m.id p g f) ((calm_deliver K (IsOwnPair v) Less less_law (record m { answer = Some a }) h n).after t) }
    passes_by differ m h n None g f = calm_deliver K (IsOwnPair v) Step step_law m h n

    pub step_passes : AnswersDiffer → PassesBy K (IsOwnPair v) (IsOther v) Step
    unfolding refs.pass_on
    step_passes differ m h n g f = passes_by differ m h n m.answer g f

    -- ---- a wait behind the test

    by_test : Minds K (IsOwnPair v) (IsOther v) Step → PassesBy K (IsOwnPair v) (IsOther v) Step → (p q : Name) (s : Vat Name) (b : Bool) → waits_lead K (length s.known) s.known p q ≡ b → GivesBy Step s ((if b then refs.settle K p (Broken (codes "cycle")) else refs.wait_on K p q) s)
    unfolding refs.wait_on ◌>>◌ tell alter and_then
    by_test minds passes p q s true e = (calm_settle K (IsOwnPair v) (IsOther v) Step step_law minds passes p (Broken (codes "cycle"))).after s
    by_test minds passes p q s false e = λ o. ((o.0, owned_linked (WaitOn q) p q s.known tt o.1), tested p q s.known e)

    pub step_waits : Minds K (IsOwnPair v) (IsOther v) Step → PassesBy K (IsOwnPair v) (IsOther v) Step → WaitsBy K Step
    unfolding refs.wait_unless_cycle ◌>>=◌ look and_then
    step_waits minds passes p q = record { after = λ s. by_test minds passes p q s (waits_lead K (length s.known) s.known p q) refl }
