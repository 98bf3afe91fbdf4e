-- What a vat does with references leaves its things, and what it knows stays known.
use Rattle.std.proofs.Common.{◌≡◌, ℕ, zero, Bool, true, false, List, [], ◌∷◌, ◌++◌, Option, Some, None, length, refl, ◌∙◌}
use Rattle.std.specs.Prelude.{nat_le}
use Rattle.def_machine.specs.Values.{Words, Value, Name, Naming, Coming}
use Rattle.def_machine.specs.State.{Message, Note, Known, Happened, Sends, Reacts, Settles, Change, Settle, Vat, Done, Gives, Throws, Ejects, Stops, Act, ◌>>=◌, and_then, give, stop, look, tell, spend, spent, enqueue, send_out, alter, with_change, changed, come, begun, draw, draws, drawn_at, new_message, new_lone_message}
use Rattle.def_machine.specs.Refs as refs
use Rattle.def_machine.specs.Refs.{entry_of}
use Rattle.def_run.specs.World.{Script, names}
use Rattle.law_machine.specs.Machine.Steps.{After}
use Rattle.law_machine.proofs.Machine.Walks.{Property, Holds, IsClosed, InRefs, InRefsUnder, InSettling, InSending, walk_then}
use Rattle.law_machine.proofs.Machine.RefsWalk.{settles_by_lines, walk_send, walk_send_only, walk_react}
use Rattle.law_order.proofs.Ordering.Entries.{Differs, as_it_was, changes, differs}

module _ (script : Script) (v : ℕ) where
  abbrev K : Naming Name Name
  K = names script v

  abbrev pub Has : Vat Name → Name → Type 0
  Has s n = (k : Known Name) × (entry_of K s.known n ≡ Some k)

  abbrev pub Same : Vat Name → Vat Name → Type 0
  Same s t = (t.things ≡ s.things) × ((n : Name) → Has s n → Has t n)

  abbrev P : Property Name
  P A m = (s : Vat Name) → After Same s (m s)

  still : (s : Vat Name) → Same s s
  still s = (refl, λ n k. k)

  same_then : (s t u : Vat Name) → Same s t → Same t u → Same s u
  same_then s t u g h = (h.0 ∙ g.0, λ n k. h.1 n (g.1 n k))

  widen : {A : Type 0} (s t : Vat Name) (d : Done Name A) → Same s t → After Same t d → After Same s d
  widen s t (Gives a u) g h = same_then s t u g h
  widen s t (Throws p u) g h = same_then s t u g h
  widen s t (Ejects n y u) g h = same_then s t u g h
  widen s t (Stops c u) g h = same_then s t u g h

  bound : {A B : Type 0} (s : Vat Name) (d : Done Name A) (f : A → Act Name B) → After Same s d → ((a : A) → Holds P (f a)) → After Same s (and_then d f)
  unfolding and_then
  bound s (Gives a t) f h k = widen s t (f a t) h ((k a).after t)
  bound s (Throws p t) f h k = h
  bound s (Ejects n y t) f h k = h
  bound s (Stops c t) f h k = h

  closed : IsClosed P
  unfolding give stop look ◌>>=◌
  closed = record {
    gives = λ a. record { after = λ s. still s };
    stops = λ c. record { after = λ s. still s };
    looks = λ f. record { after = λ s. still s };
    binds = λ {A} {B} {m} {f} h k. record { after = λ s. bound s (m s) f (h.after s) k };
  }

  tells : (e : Happened Name) → Holds P (tell e)
  unfolding tell
  tells e = record { after = λ s. (refl, λ n k. k) }

  spends_by : (n : ℕ) (b : Bool) (s : Vat Name) → After Same s (spent n b s)
  unfolding spent
  spends_by n true s = (refl, λ n k. k)
  spends_by n false s = (refl, λ n k. k)

  spends : (n : ℕ) → Holds P (spend n)
  unfolding spend
  spends n = record { after = λ s. spends_by n (nat_le n s.fuel) s }

  queues : (m : Message Name) → Holds P (enqueue m)
  unfolding enqueue
  queues m = record { after = λ s. (refl, λ n k. k) }

  puts : (to : ℕ) (n : Note Name) → Holds P (send_out to n)
  unfolding send_out
  puts to n = record { after = λ s. (refl, λ n k. k) }

  draws_by : (x : ℕ) (o : Option ℕ) (s : Vat Name) → After Same s (draws x o s)
  unfolding draws
  draws_by x (Some i) s = (refl, λ n k. k)
  draws_by x None s = (refl, λ n k. k)

  drawing : Holds P (draw K)
  unfolding draw
  drawing = record { after = λ s. draws_by (K.word (length s.drawn)) (drawn_at zero (K.word (length s.drawn)) s.drawn) s }

  -- ---- what is known of a name

  has_by : (c : Change Name) (p n : Name) (a b : Option (Known Name)) → Differs script v c p n a b → (k : Known Name) × (a ≡ Some k) → (k : Known Name) × (b ≡ Some k)
  has_by c p n a b (as_it_was e) k = (k.0, e ∙ k.1)
  has_by c p n a b (changes j e x y) k = (changed c j, y)

  alters : (c : Change Name) (p : Name) → Holds P (alter K c p)
  unfolding alter
  alters c p = record { after = λ s. (refl, λ n k. has_by c p n (entry_of K s.known n) (entry_of K (with_change K c p s.known) n) (differs script v c p n s.known) k) }

  -- what is known stays so, and the last is known
  pub has_more : (ks : List (Known Name)) (j : Known Name) (n : Name) (k : Known Name) → entry_of K ks n ≡ Some k → (i : Known Name) × (entry_of K (ks ++ j ∷ []) n ≡ Some i)
  unfolding entry_of
  has_more [] j n k e = cc
  has_more (i ∷ ks) j n k e = go (K.same i.name n) e (λ f. has_more ks j n k f)
    where
      go : (b : Bool) → ◌≡◌ {A = Option (Known Name)} (elim b [ true ↦ Some i | false ↦ entry_of K ks n ]) (Some k) → (entry_of K ks n ≡ Some k → (h : Known Name) × (entry_of K (ks ++ j ∷ []) n ≡ Some h)) → (h : Known Name) × (◌≡◌ {A = Option (Known Name)} (elim b [ true ↦ Some i | false ↦ entry_of K (ks ++ j ∷ []) n ]) (Some h))
      go true f g = (i, refl)
      go false f g = g f

  comes : (c : Coming Name Name) (h : ℕ) → Holds P (come K c h)
  unfolding come
  comes c h = record { after = λ s. (refl, λ n k. has_more s.known (begun (K.made c (length s.known)) h) n k.0 k.1) }

  messages : (h : ℕ) → Holds P (new_message K h)
  unfolding new_message
  messages h = record { after = λ s. (refl, λ n k. has_more s.known _ n k.0 k.1) }

  lone_messages : Holds P (new_lone_message K)
  unfolding new_lone_message
  lone_messages = record { after = λ s. (refl, λ n k. k) }

  -- ---- all that is done with references

  in_refs : InRefs P
  in_refs = record { tells = λ e h. tells e; spends = spends; queues = queues; puts = λ to n h. puts to n }

  in_refs_under : InRefsUnder P K
  in_refs_under = record { alters = λ c n h. alters c n; comes = comes; draws = drawing }

  in_settling : InSettling P K
  in_settling = settles_by_lines P K closed in_refs in_refs_under (λ p y m h. walk_then P closed (tells (Settles p y)) (walk_then P closed (alters (Settle y) p) h))

  in_sending : InSending P K
  in_sending = record { messages = messages; lone_messages = lone_messages; sends = λ a m. tells (Sends a m); reacts = λ a x o m. tells (Reacts a x o m) }

  pub same_send : (act : ℕ) (x : Value Name) (verb : Words) (args : List (Value Name)) → Holds P (refs.send K act x verb args)
  same_send = walk_send P K closed in_refs in_refs_under in_settling in_sending

  pub same_send_only : (act : ℕ) (x : Value Name) (verb : Words) (args : List (Value Name)) → Holds P (refs.send_only K act x verb args)
  same_send_only = walk_send_only P K closed in_refs in_refs_under in_settling in_sending

  pub same_react : (act : ℕ) (x o near : Value Name) → Holds P (refs.react K act x o near)
  same_react = walk_react P K closed in_refs in_refs_under in_settling in_sending
