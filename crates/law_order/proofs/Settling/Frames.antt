-- What passings, sendings and settlings leave as it is: lists, names that are known, words that were drawn; and as a value passes, what is followed, held, and to react.
use Rattle.std.proofs.Common.{◌≡◌, ℕ, zero, suc, ◌-◌, Bool, true, false, List, [], ◌∷◌, ◌++◌, Option, Some, None, length, refl, sym, ap, subst, ◌∙◌, ◌==◌}
use Rattle.std.specs.Prelude.{nat_le}
use Rattle.def_machine.specs.Values.{Value, Name, Naming, key}
use Rattle.def_machine.specs.State.{Message, Known, Change, Hold, Wait, WaitOn, See, React, ToTell, Settle, Standing, Settled, Passed, AGift, Open, Vat, Done, Gives, Act, ◌>>=◌, ◌>>◌, and_then, give, stop, look, tell, spend, spent, enqueue, send_out, alter, come, draw, draws, drawn_at, begun, with_change, changed, changed_to, unless_settled, change, dead, holding}
use Rattle.def_machine.specs.Refs as refs
use Rattle.def_machine.specs.Refs.{entry_of}
use Rattle.def_run.specs.World.{Script, names}
use Rattle.law_machine.specs.Machine.Steps.{After}
use Rattle.law_machine.proofs.Machine.Walks.{Property, Holds, IsClosed, InRefs, InRefsUnder}
use Rattle.law_machine.proofs.Machine.RefsWalk.{walk_pass_all, walk_inform}
use Rattle.law_fate.specs.Name.Names.{IsAmong}
use Rattle.law_order.specs.Ordering.Worlds.{IsKnown}
use Rattle.law_order.proofs.Ordering.Adding.{follow_alike}
use Rattle.law_order.proofs.Ordering.Adds.{change_adds}
use Rattle.law_order.proofs.Ordering.Entries.{Differs, as_it_was, changes, differs}
use Rattle.law_order.proofs.Ordering.Moves.{Keeps, IsKept}
use Rattle.law_order.proofs.Ordering.Passings.{keeps_pass, keeps_pass_all}

-- ---- lists, names and draws

-- what is known of that name, as changed
known_on : (K : Naming Name Name) (c : Change Name) (p : Name) (ks : List (Known Name)) (n : Name) → (k : Known Name) × (entry_of K ks n ≡ Some k) → (k : Known Name) × (entry_of K (with_change K c p ks) n ≡ Some k)
unfolding entry_of with_change changed unless_settled changed_to
known_on K c p [] n h = h
known_on K c p (j ∷ ks) n h = go (K.same j.name p) (K.same j.name n) refl h (known_on K c p ks n)
  where
    first : (b : Bool) (j : Known Name) (o : Option (Known Name)) → b ≡ true → (k : Known Name) × (elim b [ true ↦ Some j | false ↦ o ] ≡ Some k)
    first b j o e = (j, ap (λ z. elim z [ true ↦ Some j | false ↦ o ]) e)

    same_name : (q : Standing Name) (a b : Known Name) → a.name ≡ j.name → b.name ≡ j.name → (unless_settled q a b).name ≡ j.name
    same_name (Settled y) a b e f = e
    same_name other a b e f = f

    to_name : (d : Change Name) → (changed_to d j).name ≡ j.name
    to_name (Hold m) = refl
    to_name (Wait q) = refl
    to_name (WaitOn q) = refl
    to_name (React m) = refl
    to_name (ToTell u) = refl
    to_name other = refl

    kept_name : (changed c j).name ≡ j.name
    kept_name = same_name j.standing j (changed_to c j) refl (to_name c)

    go : (a b : Bool) → K.same j.name n ≡ b → (k : Known Name) × (elim b [ true ↦ Some j | false ↦ entry_of K ks n ] ≡ Some k) → ((k : Known Name) × (entry_of K ks n ≡ Some k) → (k : Known Name) × (entry_of K (with_change K c p ks) n ≡ Some k))
        → (k : Known Name) × (entry_of K (elim a [ true ↦ changed c j ∷ ks | false ↦ j ∷ with_change K c p ks ]) n ≡ Some k)
    go true true e h f = first (K.same (changed c j).name n) (changed c j) (entry_of K ks n) (ap (λ z. K.same z n) kept_name ∙ e)
    go true false e h f = (h.0, ap (λ z. elim z [ true ↦ Some (changed c j) | false ↦ entry_of K ks n ]) (ap (λ z. K.same z n) kept_name ∙ e) ∙ h.1)
    go false true e h f = first (K.same j.name n) j (entry_of K (with_change K c p ks) n) e
    go false false e h f = let r = f h in (r.0, ap (λ z. elim z [ true ↦ Some j | false ↦ entry_of K (with_change K c p ks) n ]) e ∙ r.1)

known_more : (K : Naming Name Name) (j : Known Name) (ks : List (Known Name)) (n : Name) → (k : Known Name) × (entry_of K ks n ≡ Some k) → (k : Known Name) × (entry_of K (ks ++ j ∷ []) n ≡ Some k)
unfolding entry_of
known_more K j [] n h = absurd (none h.0 h.1)
  where
    none : (k : Known Name) → ◌≡◌ {A = Option (Known Name)} None (Some k) → ⊥
    none k e = cc
known_more K j (i ∷ ks) n h = go (K.same i.name n) h (known_more K j ks n)
  where
    go : (b : Bool) → (k : Known Name) × (elim b [ true ↦ Some i | false ↦ entry_of K ks n ] ≡ Some k) → ((k : Known Name) × (entry_of K ks n ≡ Some k) → (k : Known Name) × (entry_of K (ks ++ j ∷ []) n ≡ Some k)) → (k : Known Name) × (elim b [ true ↦ Some i | false ↦ entry_of K (ks ++ j ∷ []) n ] ≡ Some k)
    go true h f = h
    go false h f = f h

module _ (K : Naming Name Name) where
  pub record Frame (s t : Vat Name) : Type 0 where
    pub lists : t.lists ≡ s.lists
    pub undrawn : (x : ℕ) → drawn_at zero x t.drawn ≡ None → drawn_at zero x s.drawn ≡ None
    pub known : (n : Name) → IsKnown K s n → IsKnown K t n

  pub frame_self : (s : Vat Name) → Frame s s
  frame_self s = record { lists = refl; undrawn = λ x e. e; known = λ n i. i }

  pub frame_then : (s t u : Vat Name) → Frame s t → Frame t u → Frame s u
  frame_then s t u g h = record { lists = h.lists ∙ g.lists; undrawn = λ x e. g.undrawn x (h.undrawn x e); known = λ n i. h.known n (g.known n i) }

  abbrev FramesBy : Property Name
  FramesBy A m = (s : Vat Name) → After Frame s (m s)

  widen : {A : Type 0} (s t : Vat Name) → Frame s t → (d : Done Name A) → After Frame t d → After Frame s d
  widen s t r (Gives a u) h = frame_then s t u r h
  widen s t r other h = frame_then s t _ r h

  bind_after : {A B : Type 0} (s : Vat Name) (d : Done Name A) (f : A → Act Name B) → After Frame s d → ((a : A) → Holds FramesBy (f a)) → After Frame s (and_then d f)
  unfolding and_then
  bind_after s (Gives a t) f h k = widen s t h (f a t) ((k a).after t)
  bind_after s other f h k = h

  closed : IsClosed FramesBy
  unfolding give stop look ◌>>=◌
  closed = record {
    gives = λ a. record { after = λ s. frame_self s };
    stops = λ c. record { after = λ s. frame_self s };
    looks = λ f. record { after = λ s. frame_self s };
    binds = λ {m = m} {f = f} h k. record { after = λ s. bind_after s (m s) f (h.after s) k };
  }

  pub frame_same : (s t : Vat Name) → t.lists ≡ s.lists → t.drawn ≡ s.drawn → t.known ≡ s.known → Frame s t
  frame_same s t e f g = record { lists = e; undrawn = λ x i. subst (λ ds. drawn_at zero x ds ≡ None) f i; known = λ n i. (i.0, ap (λ ks. entry_of K ks n) g ∙ i.1) }

  spends : (s : Vat Name) (n : ℕ) (b : Bool) → After Frame s (spent n b s)
  unfolding spent
  spends s n true = frame_same s (record s { fuel = s.fuel - n }) refl refl refl
  spends s n false = frame_self s

  in_refs : InRefs FramesBy
  unfolding tell spend enqueue send_out
  in_refs = record {
    tells = λ e i. record { after = λ s. frame_same s (record s { happened = s.happened ++ e ∷ [] }) refl refl refl };
    spends = λ n. record { after = λ s. spends s n (nat_le n s.fuel) };
    queues = λ m. record { after = λ s. frame_same s (record s { queue = s.queue ++ m ∷ [] }) refl refl refl };
    puts = λ to n i. record { after = λ s. frame_same s (record s { outbox = s.outbox ++ record { to = to; note = n } ∷ [] }) refl refl refl };
  }

  -- what was not drawn by the next word was not drawn before it
  undrawn_before : (ds : List ℕ) (d k x : ℕ) → drawn_at k x (ds ++ d ∷ []) ≡ None → drawn_at k x ds ≡ None
  unfolding drawn_at
  undrawn_before [] d k x e = refl
  undrawn_before (c ∷ ds) d k x e = go (x == c) (undrawn_before ds d (suc k) x) e
    where
      go : (b : Bool) → (drawn_at (suc k) x (ds ++ d ∷ []) ≡ None → drawn_at (suc k) x ds ≡ None) → ◌≡◌ {A = Option ℕ} (elim b [ true ↦ Some k | false ↦ drawn_at (suc k) x (ds ++ d ∷ []) ]) None → ◌≡◌ {A = Option ℕ} (elim b [ true ↦ Some k | false ↦ drawn_at (suc k) x ds ]) None
      go true f i = cc
      go false f i = f i

  pub drawn_frame : (s t : Vat Name) (d : ℕ) → t.lists ≡ s.lists → t.drawn ≡ s.drawn ++ d ∷ [] → t.known ≡ s.known → Frame s t
  drawn_frame s t d e f g = record { lists = e; undrawn = λ x i. undrawn_before s.drawn d zero x (subst (λ ds. drawn_at zero x ds ≡ None) f i); known = λ n i. (i.0, ap (λ ks. entry_of K ks n) g ∙ i.1) }

  draws_after : (s : Vat Name) (w : ℕ) (o : Option ℕ) → After Frame s (draws w o s)
  unfolding draws
  draws_after s w (Some j) = frame_self s
  draws_after s w None = drawn_frame s (record s { drawn = s.drawn ++ w ∷ [] }) w refl refl refl

  pub changed_frame : (c : Change Name) (p : Name) (s t : Vat Name) → t.known ≡ with_change K c p s.known → t.lists ≡ s.lists → t.drawn ≡ s.drawn → Frame s t
  changed_frame c p s t e f g = record { lists = f; undrawn = λ x i. subst (λ ds. drawn_at zero x ds ≡ None) g i; known = λ n i. let k = known_on K c p s.known n i in (k.0, ap (λ ks. entry_of K ks n) e ∙ k.1) }

  in_refs_under : InRefsUnder FramesBy K
  unfolding alter come draw
  in_refs_under = record {
    alters = λ c n i. record { after = λ s. changed_frame c n s (record s { known = with_change K c n s.known }) refl refl refl };
    comes = λ c h. record { after = λ s. record { lists = refl; undrawn = λ x e. e; known = λ n i. known_more K (begun (K.made c (length s.known)) h) s.known n i } };
    draws = record { after = λ s. draws_after s (K.word (length s.drawn)) (drawn_at zero (K.word (length s.drawn)) s.drawn) };
  }

  pub frame_inform : (p : Name) (h : ℕ) (s : Vat Name) → After Frame s (refs.inform K p h s)
  frame_inform p h s = (walk_inform FramesBy K closed in_refs in_refs_under p h).after s

  pub frame_pass_all : (h : ℕ) (xs : List (Value Name)) (s : Vat Name) → After Frame s (refs.pass_all K h xs s)
  frame_pass_all h xs s = (walk_pass_all FramesBy K closed in_refs in_refs_under h xs).after s

-- ---- what is followed, held, and to react

module _ (script : Script) (v : ℕ) where
  abbrev N : Naming Name Name
  N = names script v

  -- In t no name holds more, nor is more to react on it.
  pub record Less (s t : Vat Name) : Type 0 where
    pub known : (n : Name) → IsKnown N t n → IsKnown N s n
    pub held : (n : Name) (k : Known Name) → entry_of N t.known n ≡ Some k → (m : Message Name) → IsAmong m k.held → (j : Known Name) × (entry_of N s.known n ≡ Some j) × IsAmong m j.held
    pub reacts : (n : Name) (k : Known Name) → entry_of N t.known n ≡ Some k → (m : Message Name) → IsAmong m k.reactions → (j : Known Name) × (entry_of N s.known n ≡ Some j) × IsAmong m j.reactions

  pub less_same : (s t : Vat Name) → t.known ≡ s.known → Less s t
  less_same s t e = record { known = λ n i. (i.0, sym (ap (λ ks. entry_of N ks n) e) ∙ i.1); held = λ n k f m i. (k, sym (ap (λ ks. entry_of N ks n) e) ∙ f, i); reacts = λ n k f m i. (k, sym (ap (λ ks. entry_of N ks n) e) ∙ f, i) }

  pub less_then : (s t u : Vat Name) → Less s t → Less t u → Less s u
  less_then s t u g h = record { known = λ n i. g.known n (h.known n i); held = λ n k e m i. let j = h.held n k e m i in g.held n j.0 j.1 m j.2; reacts = λ n k e m i. let j = h.reacts n k e m i in g.reacts n j.0 j.1 m j.2 }

  -- what is said of each change of a name by which no more is held there
  pub less_changed : (c : Change Name) (p : Name) (s t : Vat Name) → t.known ≡ with_change N c p s.known
      → ((k : Known Name) → entry_of N s.known p ≡ Some k → ((m : Message Name) → IsAmong m (changed c k).held → IsAmong m k.held) × ((m : Message Name) → IsAmong m (changed c k).reactions → IsAmong m k.reactions)) → Less s t
  less_changed c p s t e f = record { known = λ n i. known_by n (differs script v c p n s.known) i.0 (sym (ap (λ ks. entry_of N ks n) e) ∙ i.1); held = λ n k g m i. held_by n (differs script v c p n s.known) k (sym (ap (λ ks. entry_of N ks n) e) ∙ g) m i; reacts = λ n k g m i. reacts_by n (differs script v c p n s.known) k (sym (ap (λ ks. entry_of N ks n) e) ∙ g) m i }
    where
      some_is : (a b : Known Name) → Some a ≡ Some b → a ≡ b
      some_is a b g = cc

      known_by : (n : Name) → Differs script v c p n (entry_of N s.known n) (entry_of N (with_change N c p s.known) n) → (k : Known Name) → entry_of N (with_change N c p s.known) n ≡ Some k → IsKnown N s n
      known_by n (as_it_was g) k h = (k, sym g ∙ h)
      known_by n (changes j g a b) k h = (j, a)

      held_by : (n : Name) → Differs script v c p n (entry_of N s.known n) (entry_of N (with_change N c p s.known) n) → (k : Known Name) → entry_of N (with_change N c p s.known) n ≡ Some k → (m : Message Name) → IsAmong m k.held → (j : Known Name) × (entry_of N s.known n ≡ Some j) × IsAmong m j.held
      held_by n (as_it_was g) k h m i = (k, sym g ∙ h, i)
      held_by n (changes j g a b) k h m i = (j, a, (f j (subst (λ z. entry_of N s.known z ≡ Some j) g a)).0 m (subst (λ (z : Known Name). IsAmong m z.held) (some_is k (changed c j) (sym h ∙ b)) i))

      reacts_by : (n : Name) → Differs script v c p n (entry_of N s.known n) (entry_of N (with_change N c p s.known) n) → (k : Known Name) → entry_of N (with_change N c p s.known) n ≡ Some k → (m : Message Name) → IsAmong m k.reactions → (j : Known Name) × (entry_of N s.known n ≡ Some j) × IsAmong m j.reactions
      reacts_by n (as_it_was g) k h m i = (k, sym g ∙ h, i)
      reacts_by n (changes j g a b) k h m i = (j, a, (f j (subst (λ z. entry_of N s.known z ≡ Some j) g a)).1 m (subst (λ (z : Known Name). IsAmong m z.reactions) (some_is k (changed c j) (sym h ∙ b)) i))

  -- changes that hold no more
  abbrev pub HoldsNoMore : Change Name → Type 0
  HoldsNoMore (Hold m) = ⊥
  HoldsNoMore (React m) = ⊥
  HoldsNoMore other = Unit {0}

  abbrev Both : Known Name → Known Name → Type 0
  Both k j = ((m : Message Name) → IsAmong m j.held → IsAmong m k.held) × ((m : Message Name) → IsAmong m j.reactions → IsAmong m k.reactions)

  pub changed_less : (c : Change Name) → HoldsNoMore c → (k : Known Name) → ((m : Message Name) → IsAmong m (changed c k).held → IsAmong m k.held) × ((m : Message Name) → IsAmong m (changed c k).reactions → IsAmong m k.reactions)
  unfolding changed changed_to unless_settled
  changed_less c h k = go k.standing (changed_to c k) (to c h)
    where
      to : (c : Change Name) → HoldsNoMore c → Both k (changed_to c k)
      to (Hold m) h = absurd h
      to (React m) h = absurd h
      to (Wait q) h = (λ m i. i, λ m i. i)
      to (WaitOn q) h = (λ m i. i, λ m i. i)
      to (ToTell u) h = (λ m i. i, λ m i. i)
      to (See q) h = (λ m i. i, λ m i. i)
      to (Settle y) h = (λ m i. absurd i, λ m i. absurd i)

      go : (q : Standing Name) (j : Known Name) → Both k j → Both k (unless_settled q k j)
      go (Settled y) j b = (λ m i. i, λ m i. i)
      go other j b = b

  pub less_mild : (c : Change Name) → HoldsNoMore c → (p : Name) (s t : Vat Name) → t.known ≡ with_change N c p s.known → Less s t
  less_mild c h p s t e = less_changed c p s t e (λ k f. changed_less c h k)

  pub record Same (s t : Vat Name) : Type 0 where
    pub follow : (x : Value Name) → refs.follow N t x ≡ refs.follow N s x
    pub less : Less s t

  same_known : (s t : Vat Name) → ((x : Value Name) → refs.follow N t x ≡ refs.follow N s x) → t.known ≡ s.known → Same s t
  same_known s t f e = record { follow = f; less = less_same s t e }

  pub same_kept : IsKept Same
  unfolding refs.follow refs.severed refs.severed_at refs.severed_by
  same_kept = record {
    same = λ s. same_known s s (λ x. refl) refl;
    trans = λ {s} {t} {u} f g. record { follow = λ x. g.follow x ∙ f.follow x; less = less_then s t u f.less g.less };
    fuel = λ s n. same_known s (record s { fuel = s.fuel - n }) (λ x. refl) refl;
    happened = λ s e. same_known s (record s { happened = s.happened ++ e ∷ [] }) (λ x. refl) refl;
    activations = λ s. same_known s (record s { activations = suc s.activations }) (λ x. refl) refl;
    thing = λ s t. same_known s (record s { things = s.things ++ t ∷ [] }) (λ x. refl) refl;
    killed = λ s n. same_known s (record s { things = change dead n s.things }) (λ x. refl) refl;
    slot = λ s c. same_known s (record s { slots = s.slots ++ c ∷ [] }) (λ x. refl) refl;
    written = λ s n y. same_known s (record s { slots = change (holding y) n s.slots }) (λ x. refl) refl;
    list = λ s ys. same_known s (record s { lists = s.lists ++ ys ∷ [] }) (λ x. refl) refl;
  }

  same_told : (h : ℕ) (n : Name) → Keeps Same (alter N (ToTell h) n)
  unfolding alter
  same_told h n = record { after = λ s. record { follow = λ x. follow_alike N s (record s { known = with_change N (ToTell h) n s.known }) (change_adds N (ToTell h) n tt s).alike x; less = less_mild (ToTell h) tt n s (record s { known = with_change N (ToTell h) n s.known }) refl } }

  drawn_same : (h i word : ℕ) (n : Name) (s : Vat Name) → Same s (record s { drawn = s.drawn ++ word ∷ []; outbox = s.outbox ++ record { to = h; note = Open i n } ∷ [] })
  unfolding refs.follow refs.severed refs.severed_at refs.severed_by
  drawn_same h i word n s = same_known s (record s { drawn = s.drawn ++ word ∷ []; outbox = s.outbox ++ record { to = h; note = Open i n } ∷ [] }) (λ x. refl) refl

  same_let : (h : ℕ) (n : Name) → Keeps {N = Name} {A = Passed Name} Same (draw N >>= (λ i. send_out h (Open i n) >> give (AGift h i)))
  unfolding draw ◌>>=◌ ◌>>◌ and_then send_out give draws
  same_let h n = record { after = λ s. go s (drawn_at zero (N.word (length s.drawn)) s.drawn) }
    where
      go : (s : Vat Name) (o : Option ℕ) → After {N = Name} {A = Passed Name} Same s (and_then (draws (N.word (length s.drawn)) o s) (λ i. send_out h (Open i n) >> give (AGift h i)))
      go s (Some i) = same_kept.same s
      go s None = drawn_same h (key s.number (N.word (length s.drawn))) (N.word (length s.drawn)) n s

  pub same_pass : (h : ℕ) (x : Value Name) → Keeps Same (refs.pass N h x)
  same_pass h x = keeps_pass N Same same_kept same_told same_let h x

  pub same_pass_all : (h : ℕ) (xs : List (Value Name)) → Keeps Same (refs.pass_all N h xs)
  same_pass_all h xs = keeps_pass_all N Same same_kept same_told same_let h xs

  follow_states : (s t : Vat Name) → t.known ≡ s.known → t.number ≡ s.number → t.noticed ≡ s.noticed → (x : Value Name) → refs.follow N t x ≡ refs.follow N s x
  unfolding refs.follow refs.severed refs.severed_at refs.severed_by
  follow_states s t e f g x = subst (λ ks. refs.follow N (record t { known = ks }) x ≡ refs.follow N s x) (sym e) (subst (λ n. refs.follow N (record t { known = s.known; number = n }) x ≡ refs.follow N s x) (sym f) (subst (λ ns. refs.follow N (record t { known = s.known; number = s.number; noticed = ns }) x ≡ refs.follow N s x) (sym g) refl))

  -- where nothing of what the vat knows changed
  pub same_states : (s t : Vat Name) → t.known ≡ s.known → t.number ≡ s.number → t.noticed ≡ s.noticed → Same s t
  same_states s t e f g = same_known s t (follow_states s t e f g) e
