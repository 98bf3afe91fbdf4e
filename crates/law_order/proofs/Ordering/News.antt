-- A vat that is ready stays so, and the ways only grow, as a name comes to be known and as a gift is let go.
use Rattle.std.proofs.Common.{arith, ◌≡◌, ℕ, zero, suc, ◌≤◌, Bool, true, false, List, [], ◌∷◌, ◌++◌, Option, Some, None, length, refl, sym, ap, subst, ◌∙◌, ◌⊎◌, inl, inr}
use Rattle.std.proofs.lemmas.Bool.{ne_eqb}
use Rattle.std.specs.Prelude.{◌==◌, ◌&&◌}
use Rattle.def_machine.specs.Values.{Value, Ref, Name, Root, Object, Promise, Answer, Gift, Sent, Naming, host_of, naming, same_name, same_reference, key, word_of}
use Rattle.def_machine.specs.State.{Known, Note, Open, Shorten, Vat, begun, is_in, drawn_at}
use Rattle.def_machine.specs.Refs as refs
use Rattle.def_run.specs.World.{Script, Link, World, names}
use Rattle.def_run.specs.World as world
use Rattle.std.proofs.lemmas.List.{append-nil}
use Rattle.law_order.specs.Ordering.Ways.{Lane, Queue, Held, Way, Item, Free, IsOneWay, Ways}
use Rattle.law_order.specs.Ordering.Messages.{More}
use Rattle.law_order.specs.Ordering.Changes.{Grows}
use Rattle.law_order.specs.Ordering.Places.{queued, held_on, held_in, opens, shortens, leads, ways, ways_of, amid}
use Rattle.law_order.specs.Ordering.Worlds.{IsWaiting, IsFixed, IsObject, FollowsEnd, RefersAlike, SameWays}
use Rattle.law_order.proofs.Ordering.Sends.{none_some, some_same, push_last}
use Rattle.law_order.proofs.Ordering.Pushing.{all_same}
use Rattle.law_order.proofs.Ordering.Adding.{refers_same}
use Rattle.law_order.proofs.Ordering.Coming.{old_entry, new_entry, waits_here, followed, comes_same, coming_grows}
use Rattle.law_order.proofs.Ordering.Amid.{leads_same, same_between}
use Rattle.law_order.specs.Ordering.Steps.{LetsDrawn, AllDrawn, Ready, Grown, StaysReady}
use Rattle.law_order.proofs.Ordering.Noted.{Spares}
use Rattle.law_order.proofs.Ordering.Below.{more_draws, in_more, key_in_last, key_is_new, with_drawn, links_lack}
use Rattle.law_order.proofs.Ordering.Standing.{no_more, more_then, queue_more, held_more, way_more}
use Rattle.law_order.proofs.Ordering.Opens.{opening_grows}
use Rattle.law_order.proofs.Ordering.Adds.{grown_adds, stays_adds, adds_nothing, alike_same}

-- ---- the ways grow twice

pub grows_then : (a b c : Ways) → Grows a b → Grows b c → Grows a c
grows_then a b c g h = record {
  stands = λ l i j. h.stands l i (g.stands l i j);
  onward = λ l n. go l n (g.onward l n) (h.onward l n);
}
  where
    go : (l : Lane) (n : Name) → (b.onward l n ≡ a.onward l n) ⊎ (IsOneWay l × (a.onward l n ≡ Free)) → (c.onward l n ≡ b.onward l n) ⊎ (IsOneWay l × (b.onward l n ≡ Free)) → (c.onward l n ≡ a.onward l n) ⊎ (IsOneWay l × (a.onward l n ≡ Free))
    go l n (inl e) (inl f) = inl (f ∙ e)
    go l n (inl e) (inr f) = inr (f.0, sym e ∙ f.1)
    go l n (inr e) k = inr e

pub grows_self : (a : Ways) → Grows a a
grows_self a = record { stands = λ l i j. j; onward = λ l n. inl refl }

grows_same : (a b : Ways) → SameWays a b → Grows a b
grows_same a b e = record { stands = λ l i j. (e.0 l).0 i j; onward = λ l n. inl (e.1 l n) }

module _ (script : Script) (honest : ℕ → Bool) (w : World) (v : ℕ) where
  pub grown_then : (s t u : Vat Name) → Grown script honest w v s t → Grown script honest w v t u → Grown script honest w v s u
  grown_then s t u g h = record {
    grows = grows_then (ways script honest (amid v s w)) (ways script honest (amid v t w)) (ways script honest (amid v u w)) g.grows h.grows;
    more = λ l. more_then (ways script honest (amid v s w)) (ways script honest (amid v t w)) (ways script honest (amid v u w)) l (g.more l) (h.more l);
    leading = λ a x. h.leading a x ∙ g.leading a x;
  }

  pub stays_self : (s : Vat Name) → StaysReady script honest w v s s
  stays_self s r = (r, record { grows = grows_self (ways script honest (amid v s w)); more = λ l. no_more (ways script honest (amid v s w)) (ways script honest (amid v s w)) l refl; leading = λ a x. refl })

  pub stays_then : {s t u : Vat Name} → StaysReady script honest w v s t → StaysReady script honest w v t u → StaysReady script honest w v s u
  stays_then {s} {t} {u} f g r = let a = f r in let b = g a.0 in (b.0, grown_then s t u a.1 b.1)

-- ---- a name that comes

module _ (K : Naming Name Name) (s : Vat Name) (n : Name) (h : ℕ) (plain : IsObject n → ⊥) (f : FollowsEnd K s) where
  abbrev New : Known Name
  New = begun n h

  abbrev Ks : List (Known Name)
  Ks = s.known ++ New ∷ []

  lone : (m : Name) (b : Bool) → K.same n m ≡ b → refs.entry_of K (New ∷ []) m ≡ elim b [ true ↦ Some New | false ↦ None ]
  unfolding refs.entry_of begun
  lone m b e = ap (λ c. elim c [ true ↦ Some New | false ↦ None ]) e

  pub came_none : (m : Name) → refs.entry_of K s.known m ≡ None → K.same n m ≡ false → refs.entry_of K Ks m ≡ None
  came_none m e i = new_entry K s.known New m e ∙ lone m false i

  -- the new name holds nothing
  came_held : (m : Name) (o : Option (Known Name)) → refs.entry_of K s.known m ≡ o → held_in m (refs.entry_of K Ks m) ≡ held_in m o
  unfolding held_in held_on begun
  came_held m (Some k) e = ap (λ p. held_in m p) (old_entry K s.known New k m e)
  came_held m None e = ap (λ p. held_in m p) (new_entry K s.known New m e ∙ lone m (K.same n m) refl) ∙ go (K.same n m)
    where
      go : (b : Bool) → held_in m (elim b [ true ↦ Some New | false ↦ None ]) ≡ []
      go true = refl
      go false = refl

  pub came_holds : (m : Name) → (js : List Item) × (held_in m (refs.entry_of K Ks m) ≡ held_in m (refs.entry_of K s.known m) ++ js)
  came_holds m = ([], came_held m (refs.entry_of K s.known m) refl ∙ sym (append-nil (held_in m (refs.entry_of K s.known m))))

  fixed_ref : (m : Name) → IsFixed K s (Ref m) → IsFixed K (record s { known = Ks }) (Ref m)
  fixed_ref m (inl i) = inl i
  fixed_ref m (inr e) = inr (e.0, old_entry K s.known New e.0 m e.1, e.2)

  fixed_on : (y : Value Name) → IsFixed K s y → IsFixed K (record s { known = Ks }) y
  fixed_on (Ref m) i = fixed_ref m i
  fixed_on other i = tt

  new_waits : (m : Name) (k : Known Name) → refs.entry_of K s.known m ≡ None → refs.entry_of K Ks m ≡ Some k → IsWaiting k.standing
  unfolding begun
  new_waits m k e i = go (K.same n m) refl
    where
      go : (b : Bool) → K.same n m ≡ b → IsWaiting k.standing
      go true j = subst (λ q. IsWaiting q.standing) (some_same New k (sym (new_entry K s.known New m e ∙ lone m true j) ∙ i)) tt
      go false j = none_some k (sym (came_none m e j) ∙ i)

  known_waits : (m : Name) (k : Known Name) → refs.entry_of K Ks m ≡ Some k → IsWaiting k.standing → IsFixed K (record s { known = Ks }) (refs.follow_at K (suc (length Ks)) Ks (Ref m))
  unfolding refs.follow_at refs.standing_of refs.standing_in
  known_waits m k e i = subst (IsFixed K (record s { known = Ks })) (sym (waits_here K (λ y. refs.follow_at K (length Ks) Ks y) m (refs.standing_of K Ks m) (subst (λ o. IsWaiting (refs.standing_in o)) (sym e) i))) (inr (k, e, i))

-- an object is none of these
pub objects_apart : (n m : Name) → (IsObject n → ⊥) → IsObject m → same_reference n m ≡ false
unfolding same_reference same_name
objects_apart (Object a j) m f o = absurd (f tt)
objects_apart (Sent a) m f o = refl
objects_apart n (Root h) f o = absurd o
objects_apart n (Promise h i) f o = absurd o
objects_apart n (Answer h i) f o = absurd o
objects_apart n (Gift h i) f o = absurd o
objects_apart n (Sent i) f o = absurd o
objects_apart other (Object h i) f o = refl

module _ (script : Script) (honest : ℕ → Bool) (w : World) (v : ℕ) (s : Vat Name) (n : Name) (plain : IsObject n → ⊥) (r : Ready script honest w v s) where
  abbrev K : Naming Name Name
  K = names script v

  abbrev Came : Vat Name
  Came = record s { known = s.known ++ begun n (host_of n) ∷ [] }

  fixed_new : (m : Name) (k : Known Name) → refs.entry_of K Came.known m ≡ Some k → (o : Option (Known Name)) → refs.entry_of K s.known m ≡ o → IsFixed K Came (refs.follow_at K (suc (length Came.known)) Came.known (Ref m))
  fixed_new m k e (Some j) i = let h = r.ends.fixed m (j, i) in subst (IsFixed K Came) (sym (followed script honest v s n r.ends plain m h)) (fixed_on K s n (host_of n) plain r.ends (refs.follow_at K (suc (length s.known)) s.known (Ref m)) h)
  fixed_new m k e None i = known_waits K s n (host_of n) plain r.ends m k e (new_waits K s n (host_of n) plain r.ends m k i e)

  pub came_ends : FollowsEnd K Came
  unfolding names naming
  came_ends = record {
    objects = λ m i. came_none K s n (host_of n) plain r.ends m (r.ends.objects m i) (objects_apart n m plain i);
    fixed = λ m h. fixed_new m h.0 h.1 (refs.entry_of K s.known m) refl;
  }

  pub came_more : (l : Lane) → More (ways script honest (amid v s w)) (ways script honest (amid v Came w)) l
  came_more (Queue u) = queue_more script honest w v s Came u (λ e. ([], sym (append-nil (queued s.queue))))
  came_more (Held u m) = held_more script honest w v s Came u m (λ e. came_holds K s n (host_of n) plain r.ends m)
  came_more (Way a b) = way_more script honest w v s Came [] (sym (append-nil s.outbox)) a b

  pub came_grown : refs.entry_of K s.known n ≡ None → Grown script honest w v s Came
  unfolding amid
  came_grown e = let ls = world.push_all v s.outbox w.links in record {
    grows = coming_grows script honest w v s n r.ends r.number plain e;
    more = λ l. came_more l;
    leading = λ u x. leads_same script honest w.vats ls ls (all_same ls) v s Came (comes_same script honest v s n r.ends plain r.number) u x;
  }

-- a message, its answer at that host
module _ (script : Script) (honest : ℕ → Bool) (w : World) (v : ℕ) (s : Vat Name) (h : ℕ) where
  abbrev Mine : Name
  Mine = Sent (record { sender = v; number = s.messages })

  abbrev Ours : Name
  Ours = Answer h (record { sender = v; number = s.messages })

  abbrev Messaged : Vat Name
  Messaged = record s { messages = suc s.messages; mails = s.mails ++ Mine ∷ []; known = s.known ++ begun Ours h ∷ [] }

  and_false : (a b : Bool) → b ≡ false → (a && b) ≡ false
  and_false true b e = e
  and_false false b e = refl

  other_answer : (g i : ℕ) → suc s.messages ≤ i → same_reference Ours (Answer g (record { sender = v; number = i })) ≡ false
  unfolding same_reference same_name
  other_answer g i j = and_false (h == g) ((v == v) && (s.messages == i)) (and_false (v == v) (s.messages == i) (ne_eqb s.messages i (λ e. omega arith)))

  no_promise : (i : ℕ) → same_reference Ours (Promise v i) ≡ false
  unfolding same_reference same_name
  no_promise i = refl

  pub messaged : StaysReady script honest w v s Messaged
  unfolding names naming host_of
  messaged r =
      let plain : (IsObject Ours → ⊥) = λ o. o in
      let none = r.answers h s.messages (omega arith) in
      let old = came_ends script honest w v s Ours plain r in (
        record {
          number = r.number;
          ends = record { objects = old.objects; fixed = old.fixed };
          draws = r.draws;
          answers = λ g i j. came_none (names script v) s Ours h plain r.ends (Answer g (record { sender = v; number = i })) (r.answers g i (omega arith)) (other_answer g i j);
          promises = λ i j. came_none (names script v) s Ours h plain r.ends (Promise v i) (r.promises i j) (no_promise i);
        },
        grown_then script honest w v s (record s { known = s.known ++ begun Ours h ∷ [] }) Messaged
            (came_grown script honest w v s Ours plain r none)
            (grown_adds script honest w v (record s { known = s.known ++ begun Ours h ∷ [] }) Messaged (adds_nothing (names script v) (record s { known = s.known ++ begun Ours h ∷ [] }) Messaged refl refl refl refl refl refl)),
      )

-- a message without an answer
pub lone_messaged : (script : Script) (honest : ℕ → Bool) (w : World) (v : ℕ) (s : Vat Name) → StaysReady script honest w v s (record s { messages = suc s.messages; mails = s.mails ++ Sent (record { sender = v; number = s.messages }) ∷ [] })
lone_messaged script honest w v s =
    let t : Vat Name = record s { messages = suc s.messages; mails = s.mails ++ Sent (record { sender = v; number = s.messages }) ∷ [] } in
    stays_adds script honest w v s t (adds_nothing (names script v) s t refl refl refl refl refl refl) (omega arith) (omega arith) refl

-- a promise
module _ (script : Script) (honest : ℕ → Bool) (w : World) (v : ℕ) (s : Vat Name) where
  abbrev Own : Name
  Own = Promise v s.promises

  abbrev Promised : ℕ → Vat Name
  Promised q = record s { promises = suc s.promises; known = s.known ++ begun Own q ∷ [] }

  other_promise : (i : ℕ) → suc s.promises ≤ i → same_reference Own (Promise v i) ≡ false
  unfolding same_reference same_name
  other_promise i j = and_false script honest w v s v (v == v) (s.promises == i) (ne_eqb s.promises i (λ e. omega arith))

  no_answer : (g i : ℕ) → same_reference Own (Answer g (record { sender = v; number = i })) ≡ false
  unfolding same_reference same_name
  no_answer g i = refl

  promised_here : Ready script honest w v s → Ready script honest w v (Promised v) × Grown script honest w v s (Promised v)
  unfolding names naming host_of
  promised_here r =
      let plain : (IsObject Own → ⊥) = λ o. o in
      let none = r.promises s.promises (omega arith) in
      let old = came_ends script honest w v s Own plain r in (
        record {
          number = r.number;
          ends = record { objects = old.objects; fixed = old.fixed };
          draws = r.draws;
          answers = λ g i j. came_none (names script v) s Own v plain r.ends (Answer g (record { sender = v; number = i })) (r.answers g i j) (no_answer g i);
          promises = λ i j. came_none (names script v) s Own v plain r.ends (Promise v i) (r.promises i (omega arith)) (other_promise i j);
        },
        grown_then script honest w v s (record s { known = s.known ++ begun Own v ∷ [] }) (Promised v)
            (came_grown script honest w v s Own plain r none)
            (grown_adds script honest w v (record s { known = s.known ++ begun Own v ∷ [] }) (Promised v) (adds_nothing (names script v) (record s { known = s.known ++ begun Own v ∷ [] }) (Promised v) refl refl refl refl refl refl)),
      )

  pub promised : StaysReady script honest w v s (Promised s.number)
  promised r = subst (λ q. Ready script honest w v (Promised q) × Grown script honest w v s (Promised q)) (sym r.number) (promised_here r)

-- a note is put that lets go that gift of a new draw, and no other
module _ (script : Script) (honest : ℕ → Bool) (w : World) (v h word d : ℕ) (note : Note Name) (s : Vat Name) (spares : (i : ℕ) → (d == i) ≡ false → Spares i note) (fresh : is_in (word_of d) s.drawn ≡ false) (lets : LetsDrawn (s.drawn ++ word ∷ []) note) where
  abbrev LetGo : Vat Name
  LetGo = record s { drawn = s.drawn ++ word ∷ []; outbox = s.outbox ++ record { to = h; note = note } ∷ [] }

  abbrev Before : List Link
  Before = world.push_all v s.outbox w.links

  abbrev After : List Link
  After = world.with_link (world.pushed note) v h Before

  after_is : world.push_all v LetGo.outbox w.links ≡ After
  after_is = push_last v s.outbox (record { to = h; note = note }) w.links

  there : RefersAlike (names script v) s LetGo
  there = alike_same (names script v) s LetGo refl refl refl refl

  back : RefersAlike (names script v) LetGo s
  back = alike_same (names script v) LetGo s refl refl refl refl

  let_ready : Ready script honest w v s → Ready script honest w v LetGo
  let_ready r = record {
    number = r.number;
    ends = record { objects = r.ends.objects; fixed = r.ends.fixed };
    draws = subst (λ ls. AllDrawn LetGo.drawn ls) (sym after_is) (with_drawn LetGo.drawn note v h Before lets (more_draws s.drawn LetGo.drawn Before (in_more word s.drawn) r.draws));
    answers = r.answers;
    promises = r.promises;
  }

  let_grows : Ready script honest w v s → Grows (ways script honest (amid v s w)) (ways script honest (amid v LetGo w))
  unfolding ways amid
  let_grows r = subst (λ ls. Grows (ways_of script honest (world.put_at v s w.vats) Before) (ways_of script honest (world.put_at v LetGo w.vats) ls)) (sym after_is)
      (grows_then (ways_of script honest (world.put_at v s w.vats) Before) (ways_of script honest (world.put_at v s w.vats) After) (ways_of script honest (world.put_at v LetGo w.vats) After)
      (opening_grows script honest (world.put_at v s w.vats) Before v h d note spares (links_lack s.drawn d fresh Before r.draws))
      (grows_same (ways_of script honest (world.put_at v s w.vats) After) (ways_of script honest (world.put_at v LetGo w.vats) After)
      (same_between script honest v s LetGo w.vats After (refers_same script honest v s LetGo there) (refers_same script honest v LetGo s back) (λ i j. j) (λ i j. j))))

  let_leads : (u : ℕ) (x : Value Name) → leads script honest (amid v LetGo w).vats (amid v LetGo w).links u x ≡ leads script honest (amid v s w).vats (amid v s w).links u x
  unfolding amid leads
  let_leads u x = leads_same script honest w.vats After After (all_same After) v s LetGo (refers_same script honest v s LetGo there) u x

  let_more : (l : Lane) → More (ways script honest (amid v s w)) (ways script honest (amid v LetGo w)) l
  let_more (Queue u) = queue_more script honest w v s LetGo u (λ e. ([], sym (append-nil (queued s.queue))))
  let_more (Held u m) = held_more script honest w v s LetGo u m (λ e. ([], sym (append-nil (held_in m (refs.entry_of (names script v) s.known m)))))
  let_more (Way a b) = way_more script honest w v s LetGo (record { to = h; note = note } ∷ []) refl a b

  pub let_go : StaysReady script honest w v s LetGo
  let_go r = (let_ready r, record { grows = let_grows r; more = λ l. let_more l; leading = let_leads })

-- a gift is let go
module _ (script : Script) (honest : ℕ → Bool) (w : World) (v h word : ℕ) (n : Name) (s : Vat Name) (fresh : drawn_at zero word s.drawn ≡ None) where
  -- the key of the gift
  abbrev D : ℕ
  D = key s.number word

  abbrev Opened : Vat Name
  Opened = record s { drawn = s.drawn ++ word ∷ []; outbox = s.outbox ++ record { to = h; note = Open D n } ∷ [] }

  spares : (i : ℕ) → (D == i) ≡ false → Spares i (Open D n)
  unfolding opens shortens
  spares i e = (e, λ g. refl)

  pub opened : StaysReady script honest w v s Opened
  opened = let_go script honest w v h word D (Open D n) s spares (key_is_new s.number word s.drawn fresh) (key_in_last s.number word s.drawn)

-- a gift is asked for, under a key of that draw
module _ (script : Script) (honest : ℕ → Bool) (w : World) (v h word p c : ℕ) (n : Name) (s : Vat Name) (fresh : drawn_at zero word s.drawn ≡ None) where
  abbrev Asked : Vat Name
  Asked = record s { drawn = s.drawn ++ word ∷ []; outbox = s.outbox ++ record { to = h; note = Shorten n c (key p word) } ∷ [] }

  spares_asked : (i : ℕ) → (key p word == i) ≡ false → Spares i (Shorten n c (key p word))
  unfolding opens shortens
  spares_asked i e = (refl, λ g. second_not (c == g) (key p word == i) e)
    where
      second_not : (a b : Bool) → b ≡ false → (a && b) ≡ false
      second_not true b e = e
      second_not false b e = refl

  pub asked : StaysReady script honest w v s Asked
  asked = let_go script honest w v h word (key p word) (Shorten n c (key p word)) s spares_asked (key_is_new p word s.drawn fresh) (key_in_last p word s.drawn)
