-- What a vat does leaves the calls open that were open: each call in it ends. A traversal in which a call is one block.
use Rattle.std.proofs.Common.{◌≡◌, ℕ, Bool, true, false, List, [], ◌∷◌, ◌++◌, Option, Some, None, refl, ap, ◌∙◌, ◌==◌}
use Rattle.std.specs.Prelude.{nat_le}
use Rattle.std.proofs.lemmas.Bool.{eq-eqb}
use Rattle.def_machine.specs.Values.{Words, Value, Broken, Naming}
use Rattle.def_machine.specs.State.{ListCame, Sends, Reacts, Thing, Made, Resolver, Audition, Ejector, See, Settle, Message, Happened, Took, Called, Back, Thrown, Left, EjectorMade, AuditionMade, Settles, Views, Vat, Stop, Done, Gives, Throws, Ejects, Stops, Act, ◌>>=◌, ◌>>◌, and_then, end_by, ending, give, throw, stop, eject, look, tell, spend, spent, new_activation, new_thing, kill, new_slot, write_slot, new_list, enqueue, Change, send_out, new_gift, open_gift, mark, draws, alter, come, mail, new_promise, new_message, draw, new_lone_message}
use Rattle.def_machine.specs.Scopes.{ended}
use Rattle.def_kernel.specs.declared.node.Node.{Node}
use Rattle.law_machine.proofs.Machine.Walks.{Property, Holds, IsClosed, IsEnding, IsOfRefs, IsOfEval, InRefs, InRefsUnder, InSettling, InSending, InArrive, InArriveUnder, InEval, InEvalUnder, walk_then}
use Rattle.law_machine.proofs.Machine.RefsWalk.{settles_by_lines, walk_settle, walk_resolve, walk_send, walk_send_only, walk_react}
use Rattle.law_machine.proofs.Machine.ArriveWalk.{lists_by_line}
use Rattle.law_machine.proofs.Machine.Blocks.{audits_by_kills, escapes_by_kills, resolves_always}
use Rattle.law_uses.specs.Connectivity.Connected.{Open}
use Rattle.law_uses.specs.Connectivity.Nesting.{closed_by, nested_after, nested_on, nested_from, left_open}

-- the lines so far nest
abbrev pub Nesting : {N : Type 0} → Vat N → Type 0
Nesting {N} s = (cs : List (Open N)) × (left_open s ≡ Some cs)

abbrev pub Ends : {N A : Type 0} → Vat N → Done N A → Type 0
Ends s (Gives a t) = left_open t ≡ left_open s
Ends s (Throws p t) = left_open t ≡ left_open s
Ends s (Ejects n v t) = left_open t ≡ left_open s
Ends s (Stops c t) = Nesting s → Nesting t

abbrev pub NestsBy : {N : Type 0} → Property N
NestsBy {N} A m = (s : Vat N) → Ends s (m s)

abbrev pub Nests : {N A : Type 0} → Act N A → Type 0
Nests m = Holds NestsBy m

same_number : (n : ℕ) → (n == n) ≡ true
same_number n = eq-eqb n n refl

module _ {N : Type 0} where
  pub widen : {A : Type 0} (s t : Vat N) → left_open t ≡ left_open s → (d : Done N A) → Ends t d → Ends s d
  widen s t r (Stops c u) h = λ n. h (n.0, r ∙ n.1)
  widen s t r other h = h ∙ r

  bind_after : {A B : Type 0} (s : Vat N) (d : Done N A) (f : A → Act N B) → Ends s d → ((a : A) → Nests (f a)) → Ends s (and_then d f)
  unfolding and_then
  bind_after s (Gives a t) f h k = widen s t h (f a t) ((k a).after t)
  bind_after s other f h k = h

  pub nests_bind : {A B : Type 0} {m : Act N A} {f : A → Act N B} → Nests m → ((a : A) → Nests (f a)) → Nests (m >>= f)
  unfolding ◌>>=◌
  nests_bind {m = m} {f = f} h k = record { after = λ s. bind_after s (m s) f (h.after s) k }

  end_after : {A B : Type 0} (f : A → Act N B) (g : Words → Act N B) (h : ℕ → Value N → Act N B) (s : Vat N) (d : Done N A) → Ends s d
      → ((a : A) → Nests (f a)) → ((p : Words) → Nests (g p)) → ((n : ℕ) (v : Value N) → Nests (h n v)) → Ends s (end_by f g h d)
  unfolding end_by
  end_after f g h s (Gives a t) r i j k = widen s t r (f a t) ((i a).after t)
  end_after f g h s (Throws p t) r i j k = widen s t r (g p t) ((j p).after t)
  end_after f g h s (Ejects n v t) r i j k = widen s t r (h n v t) ((k n v).after t)
  end_after f g h s (Stops c t) r i j k = r

  pub nests_ending : {A B : Type 0} {f : A → Act N B} {g : Words → Act N B} {h : ℕ → Value N → Act N B} {m : Act N A}
      → ((a : A) → Nests (f a)) → ((p : Words) → Nests (g p)) → ((n : ℕ) (v : Value N) → Nests (h n v)) → Nests m → Nests (ending f g h m)
  unfolding ending
  nests_ending {f = f} {g = g} {h = h} {m = m} i j k r = record { after = λ s. end_after f g h s (m s) (r.after s) i j k }

  pub nests_give : {A : Type 0} (a : A) → Nests {N = N} (give a)
  unfolding give
  nests_give a = record { after = λ s. refl }

  pub nests_throw : {A : Type 0} (p : Words) → Nests {N = N} (throw {A = A} p)
  unfolding throw
  nests_throw p = record { after = λ s. refl }

  pub nests_eject : {A : Type 0} (n : ℕ) (v : Value N) → Nests (eject {A = A} n v)
  unfolding eject
  nests_eject n v = record { after = λ s. refl }

  pub nests_stop : {A : Type 0} (c : Stop) → Nests {N = N} (stop {A = A} c)
  unfolding stop
  nests_stop c = record { after = λ s h. h }

  pub nests_look : {A : Type 0} (f : Vat N → A) → Nests (look f)
  unfolding look
  nests_look f = record { after = λ s. refl }

  -- ---- lines

  on_last : (o : Option (List (Open N))) (es : List (Happened N)) (e : Happened N) → nested_from o (es ++ e ∷ []) ≡ nested_on (nested_from o es) e
  unfolding nested_from
  on_last o [] e = refl
  on_last o (x ∷ es) e = on_last (nested_on o x) es e

  pub last_line : (s : Vat N) (e : Happened N) → left_open (record s { happened = s.happened ++ e ∷ [] }) ≡ nested_on (left_open s) e
  last_line s e = on_last (Some []) s.happened e

  quiet_tell : (e : Happened N) → ((o : Option (List (Open N))) → nested_on o e ≡ o) → Nests (tell e)
  unfolding tell
  quiet_tell e q = record { after = λ s. last_line s e ∙ q (left_open s) }

  -- a line that opens no call and ends none
  abbrev IsNoCall : Happened N → Type 0
  IsNoCall (Called a x verb args b) = ⊥
  IsNoCall (Back a v) = ⊥
  IsNoCall (Thrown a p) = ⊥
  IsNoCall (Left a) = ⊥
  IsNoCall _ = Unit {0}

  of_refs : (e : Happened N) → IsOfRefs e → IsNoCall e
  of_refs (Called a x verb args b) h = h
  of_refs (Back a v) h = h
  of_refs (Thrown a p) h = h
  of_refs (Left a) h = h
  of_refs _ h = tt

  of_eval : (e : Happened N) → IsOfEval e → IsNoCall e
  of_eval (Called a x verb args b) h = h
  of_eval (Back a v) h = h
  of_eval (Thrown a p) h = h
  of_eval (Left a) h = h
  of_eval _ h = tt

  quiet : (e : Happened N) → IsNoCall e → (cs : List (Open N)) → nested_after cs e ≡ Some cs
  unfolding nested_after
  quiet (Called a x verb args b) h cs = absurd h
  quiet (Back a v) h cs = absurd h
  quiet (Thrown a p) h cs = absurd h
  quiet (Left a) h cs = absurd h
  quiet _ h cs = refl

  quiet_on : (e : Happened N) → IsNoCall e → (o : Option (List (Open N))) → nested_on o e ≡ o
  unfolding nested_on
  quiet_on e h None = refl
  quiet_on e h (Some cs) = quiet e h cs

  nests_tell : (e : Happened N) → IsNoCall e → Nests (tell e)
  unfolding tell
  nests_tell e h = record { after = λ s. last_line s e ∙ quiet_on e h (left_open s) }

  -- ---- a call, with its lines

  closes_it : (a b : Bool) (cs : List (Open N)) → a ≡ true → elim a [ true ↦ Some cs | false ↦ None ] ≡ Some cs
  closes_it true b cs e = refl
  closes_it false b cs e = cc

  -- a line of this kind ends the call
  abbrev Closes : ℕ → Happened N → Type 0
  Closes a e = (cs : List (Open N)) → nested_after cs e ≡ closed_by a cs

  call_over : (o : Option (List (Open N))) (a : ℕ) (x : Value N) (verb : Words) (args : List (Value N)) (b : Option ℕ) (e : Happened N) → Closes a e → nested_on (nested_on o (Called a x verb args b)) e ≡ o
  unfolding nested_on nested_after closed_by
  call_over None a x verb args b e c = refl
  call_over (Some cs) a x verb args b e c = c _ ∙ closes_it (a == a) true cs (same_number a)

  -- the state with one more line
  abbrev with_line : Vat N → Happened N → Vat N
  with_line s e = record s { happened = s.happened ++ e ∷ [] }

  closed : (s t : Vat N) (a : ℕ) (x : Value N) (verb : Words) (args : List (Value N)) (b : Option ℕ) (e : Happened N) → Closes a e → left_open t ≡ left_open (with_line s (Called a x verb args b)) → left_open (with_line t e) ≡ left_open s
  closed s t a x verb args b e c h = last_line t e ∙ ap (λ o. nested_on o e) (h ∙ last_line s (Called a x verb args b)) ∙ call_over (left_open s) a x verb args b e c

  opened : (s : Vat N) (a : ℕ) (x : Value N) (verb : Words) (args : List (Value N)) (b : Option ℕ) → Nesting s → Nesting (with_line s (Called a x verb args b))
  unfolding nested_on nested_after
  opened s a x verb args b n = (record { caller = a; receiver = x; verb = verb; begun = b } ∷ n.0, last_line s (Called a x verb args b) ∙ ap (λ o. nested_on o (Called a x verb args b)) n.1)

  call_ends : (s : Vat N) (a : ℕ) (x : Value N) (verb : Words) (args : List (Value N)) (b : Option ℕ) (d : Done N (Value N)) → Ends (with_line s (Called a x verb args b)) d
      → Ends s (end_by (λ v. tell (Back a v) >> give v) (λ p. tell (Thrown a p) >> throw p) (λ n v. tell (Left a) >> eject n v) d)
  unfolding end_by tell give throw eject ◌>>◌ and_then nested_after
  call_ends s a x verb args b (Gives v t) h = closed s t a x verb args b (Back a v) (λ cs. refl) h
  call_ends s a x verb args b (Throws p t) h = closed s t a x verb args b (Thrown a p) (λ cs. refl) h
  call_ends s a x verb args b (Ejects n v t) h = closed s t a x verb args b (Left a) (λ cs. refl) h
  call_ends s a x verb args b (Stops c t) h = λ n. h (opened s a x verb args b n)

  pub nests_called : (a : ℕ) (x : Value N) (verb : Words) (args : List (Value N)) (b : Option ℕ) (m : Act N (Value N)) → Nests m → Nests (tell (Called a x verb args b) >> ended a m)
  unfolding ended ending tell ◌>>◌ and_then
  nests_called a x verb args b m h = record { after = λ s. call_ends s a x verb args b (m (with_line s (Called a x verb args b))) (h.after (with_line s (Called a x verb args b))) }

  -- ---- the other changes

  spend_after : (s : Vat N) (n : ℕ) (b : Bool) → Ends s (spent n b s)
  unfolding spent
  spend_after s n true = refl
  spend_after s n false = λ h. h

  pub nests_spend : (n : ℕ) → Nests {N = N} (spend n)
  unfolding spend
  nests_spend n = record { after = λ s. spend_after s n (nat_le n s.fuel) }

  pub draws_after : (s : Vat N) (w : ℕ) (o : Option ℕ) → Ends s (draws w o s)
  unfolding draws
  draws_after s w (Some i) = λ h. h
  draws_after s w None = refl

  -- ---- the instance

  pub nests_closed : IsClosed (NestsBy {N = N})
  nests_closed = record { gives = nests_give; stops = nests_stop; looks = nests_look; binds = nests_bind }

  pub nests_ends : IsEnding (NestsBy {N = N})
  nests_ends = record { throws = nests_throw; ejects = nests_eject; ends = nests_ending }

  pub nests_in_refs : InRefs (NestsBy {N = N})
  unfolding enqueue send_out
  nests_in_refs = record { tells = λ e h. nests_tell e (of_refs e h); spends = nests_spend; queues = λ m. record { after = λ s. refl }; puts = λ to n h. record { after = λ s. refl } }

  pub nests_in_arrive : InArrive (NestsBy {N = N})
  unfolding new_list new_gift open_gift mark send_out
  nests_in_arrive = record { asks = λ to p i n. record { after = λ s. refl }; shortens = λ to n c i. record { after = λ s. refl }; gifts = λ n p i. record { after = λ s. refl }; opens = λ p i. record { after = λ s. refl }; marks = λ w. record { after = λ s. refl } }

  pub nests_in_eval : InEval (NestsBy {N = N})
  unfolding new_activation new_thing new_slot write_slot new_list
  nests_in_eval = record {
    tells = λ e h. nests_tell e (of_eval e h);
    spends = nests_spend;
    activates = record { after = λ s. refl };
    objects = λ node caught stamps. record { after = λ s. refl };
    slots = λ g v. record { after = λ s. refl };
    writes = λ n v. record { after = λ s. refl };
    lists = λ vs. record { after = λ s. refl };
    calls = λ act x verb args {m} h. nests_called act x verb args None m h;
    begins = λ act x verb args {m} h. nests_bind (record { after = λ s. refl }) (λ b. nests_called act x verb args (Some b) (m b) (h b));
  }

  pub nests_took : (m : Message N) (f : ℕ → Act N (Unit {0})) → ((a : ℕ) → Nests (f a)) → Nests (new_activation >>= λ a. tell (Took a m) >> f a)
  nests_took m f h = nests_bind nests_in_eval.activates (λ a. walk_then NestsBy nests_closed (nests_tell (Took a m) tt) (h a))

  module _ {W : Type 0} (K : Naming N W) where
    nests_alter : (c : Change N) (n : N) → Nests (alter K c n)
    unfolding alter
    nests_alter c n = record { after = λ s. refl }

    pub nests_in_refs_under : InRefsUnder NestsBy K
    unfolding come draw
    nests_in_refs_under = record { alters = λ c n h. nests_alter c n; comes = λ c h. record { after = λ s. refl }; draws = record { after = λ s. draws_after s _ _ } }

    pub nests_sending : InSending NestsBy K
    unfolding new_message new_lone_message
    nests_sending = record { messages = λ h. record { after = λ s. refl }; lone_messages = record { after = λ s. refl }; sends = λ a m. nests_tell (Sends a m) tt; reacts = λ a x o m. nests_tell (Reacts a x o m) tt }

    pub nests_settling : InSettling NestsBy K
    nests_settling = settles_by_lines NestsBy K nests_closed nests_in_refs nests_in_refs_under (λ p y m h. walk_then NestsBy nests_closed (nests_tell (Settles p y) tt) (walk_then NestsBy nests_closed (nests_alter (Settle y) p) h))

    pub nests_in_arrive_under : InArriveUnder NestsBy K
    unfolding mail
    nests_in_arrive_under = record { mails = λ c. record { after = λ s. refl }; lists = λ vs. lists_by_line NestsBy K nests_closed vs (nests_in_eval.lists vs) (λ k. nests_tell (ListCame k vs) tt); views = λ p q m h. walk_then NestsBy nests_closed (nests_tell (Views p q) tt) (walk_then NestsBy nests_closed (nests_alter (See q) p) h) }

    kills : (n : ℕ) → Nests {N = N} (kill n)
    unfolding kill
    kills n = record { after = λ s. refl }

    things : (t : Thing N) → Nests (new_thing t)
    unfolding new_thing
    things t = record { after = λ s. refl }

    promises : Nests (new_promise K)
    unfolding new_promise
    promises = record { after = λ s. refl }

    pub nests_in_eval_under : (tree : List Node) → InEvalUnder NestsBy K tree
    nests_in_eval_under tree = record {
      promises = promises;
      resolvers = λ p. things (Resolver p);
      audits = λ act view {m} {f} h k. audits_by_kills NestsBy nests_closed nests_ends K tree kills act view m f (things (Audition true view)) (λ n. nests_tell (AuditionMade act (K.object n)) tt) h k;
      escapes = λ act {f} {g} {h} {m} x y z w. escapes_by_kills NestsBy nests_closed nests_ends K tree kills act f g h m (things (Ejector true)) (λ n. nests_tell (EjectorMade act (K.object n)) tt) x y z w;
      breaks = λ p t. walk_settle NestsBy K nests_closed nests_in_refs nests_in_refs_under nests_settling p (Broken t);
      resolves = λ p y. resolves_always NestsBy nests_closed nests_ends K tree p y (walk_resolve NestsBy K nests_closed nests_in_refs nests_in_refs_under nests_settling p y);
      sends = walk_send NestsBy K nests_closed nests_in_refs nests_in_refs_under nests_settling nests_sending;
      sends_only = walk_send_only NestsBy K nests_closed nests_in_refs nests_in_refs_under nests_settling nests_sending;
      reacts = walk_react NestsBy K nests_closed nests_in_refs nests_in_refs_under nests_settling nests_sending;
    }
