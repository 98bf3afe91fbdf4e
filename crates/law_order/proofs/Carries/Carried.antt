-- A message is carried, and order is kept: the arrival of its note in a world.
use Rattle.std.proofs.Common.{◌≡◌, ℕ, suc, ◌≤◌, Bool, true, false, List, [], ◌∷◌, ◌++◌, Option, Some, None, refl, sym, ap, subst, ◌∙◌, ◌⊎◌, inl, inr, if◌then◌else◌}
use Rattle.std.specs.Prelude.{slice_get}
use Rattle.def_machine.specs.Values.{Words, Value, Ref, Name, Root, Object, Answer, Sent, Msg, Naming, host_of, naming, name_of, answer_of, same_name, same_reference}
use Rattle.def_machine.specs.State.{Message, Known, ToTell, Passeds, Delivery, Deliver, Vat, Done, Gives, Act, ◌>>=◌, ◌>>◌, and_then, look, alter, come, begun}
use Rattle.def_machine.specs.State as state
use Rattle.def_machine.specs.Refs as refs
use Rattle.def_machine.specs.Arrive as arrive
use Rattle.def_machine.specs.Arrive.{New}
use Rattle.def_run.specs.World.{Script, Link, World, names, read_note}
use Rattle.def_run.specs.World as world
use Rattle.law_fate.specs.Name.Names.{IsAmong, IsEventual, names_in}
use Rattle.law_fate.proofs.Name.Among.{among_last}
use Rattle.law_fate.proofs.Name.SameNames.{reference_self}
use Rattle.law_order.specs.Ordering.Ways.{Way, End}
use Rattle.law_order.specs.Ordering.Worlds.{IfGives, AddsOnly}
use Rattle.law_order.specs.Ordering.Steps.{Ready, Grown, StaysReady}
use Rattle.law_order.specs.Ordering.Arrivals.{IsOpenWay, IsLearnt}
use Rattle.law_order.proofs.Ordering.Adds.{change_adds, stays_quiet}
use Rattle.law_order.proofs.Ordering.Coming.{new_entry, old_entry}
use Rattle.law_order.proofs.Ordering.Named.{same_is}
use Rattle.law_order.proofs.Ordering.News.{stays_then}
use Rattle.law_order.proofs.Ordering.Sends.{entry_changed}
use Rattle.law_order.proofs.Views.Severed.{IsAlone, came_alone, still_alone}
use Rattle.law_order.specs.Carries.Carries.{IsNotNext, AllNotNext}
use Rattle.law_order.proofs.Carries.Breaking.{IsFresh}
use Rattle.law_order.proofs.Carries.Learning.{alone_self, Yields, yields_bind, IsAt, Learns, learn_name, learn_all, learn_message, come_stays}
use Rattle.law_order.proofs.Carries.Moved.{Leading}
use Rattle.law_order.proofs.Carries.Sending as sending

-- ---- a name that was learnt

module _ (script : Script) (v : ℕ) where
  abbrev N : Naming Name Name
  N = names script v

  has_among : (ns : List Name) (n : Name) → world.has_name ns n ≡ true → IsAmong n ns
  unfolding world.has_name
  has_among [] n e = cc
  has_among (m ∷ ns) n e = go (λ q. has_among ns n q) (same_name m n) refl e
    where
      go : (world.has_name ns n ≡ true → IsAmong n ns) → (c : Bool) → same_name m n ≡ c → elim c [ true ↦ true | false ↦ world.has_name ns n ] ≡ true → IsAmong n (m ∷ ns)
      go f true i q = inl (sym (same_is m n i))
      go f false i q = inr (f q)

  pub true_false : true ≡ false → ⊥
  true_false e = cc

  found_self : (ks : List (Known Name)) (n : Name) → IsEventual n → IsAmong n (names_in ks) → (k : Known Name) × (refs.entry_of N ks n ≡ Some k)
  unfolding refs.entry_of names naming
  found_self [] n plain h = absurd h
  found_self (j ∷ ks) n plain h = go (λ i. found_self ks n plain i) (same_reference j.name n) refl h
    where
      go : (IsAmong n (names_in ks) → (k : Known Name) × (refs.entry_of N ks n ≡ Some k)) → (c : Bool) → same_reference j.name n ≡ c → (n ≡ j.name) ⊎ IsAmong n (names_in ks) → (k : Known Name) × (elim c [ true ↦ Some j | false ↦ refs.entry_of N ks n ] ≡ Some k)
      go f true e q = (j, refl)
      go f false e (inl i) = absurd (true_false (sym (reference_self n plain) ∙ ap (λ z. same_reference z n) i ∙ e))
      go f false e (inr i) = f i

  known_among : (ns : List Name) (n : Name) (c : Bool) → world.has_name ns n ≡ c → IsAmong n (elim c [ true ↦ ns | false ↦ ns ++ n ∷ [] ])
  known_among ns n true e = has_among ns n e
  known_among ns n false e = among_last ns n

  learnt_by : (t : Vat Name) (ns : List Name) (n : Name) → IsEventual n → names_in t.known ≡ elim (world.has_name ns n) [ true ↦ ns | false ↦ ns ++ n ∷ [] ] → IsLearnt v script t n
  learnt_by t ns n plain e = inr (found_self t.known n plain (subst (λ ms. IsAmong n ms) (sym e) (known_among ns n (world.has_name ns n) refl)))

  pub learnt_in : (t : Vat Name) (ns : List Name) (n : Name) → ((m : Msg) → n ≡ Sent m → ⊥) → names_in t.known ≡ world.known_after ns n → IsLearnt v script t n
  unfolding world.known_after world.is_old
  learnt_in t ns (Object h i) f e = inl tt
  learnt_in t ns (Sent m) f e = absurd (f m refl)
  learnt_in t ns other f e = learnt_by t ns other tt e

-- ---- the arrival

module _ (script : Script) (honest : ℕ → Bool) (w : World) (a b : ℕ) (r : Vat Name) (there : slice_get w.vats b ≡ Some r) (way : IsOpenWay honest a b w) (d : Delivery Name) (n : Name) (verb : Words) (ys : Passeds Name) (msg : Msg) (named : d.message ≡ Sent msg)
    (s : Vat Name) (ready : Ready script honest (sending.Full script honest w a b r there way d n verb ys) b s) (start : IsAt script honest (sending.Full script honest w a b r there way d n verb ys) b r b msg (names_in r.known) s)
    (before : msg.sender ≡ b → suc msg.number ≤ r.messages) (target : IsNotNext b r (Answer b msg) n) where
  abbrev K : Naming Name Name
  K = names script b

  abbrev Full : World
  Full = sending.Full script honest w a b r there way d n verb ys

  abbrev L : Vat Name → Leading
  L t = sending.L script honest w a b r there way d n verb ys t

  abbrev Ends : Vat Name → Vat Name → Type 0
  Ends t u = sending.Ends script honest w a b r there way d n verb ys t u

  abbrev R : Vat Name → Vat Name → Type 0
  R t u = StaysReady script honest Full b t u

  abbrev Here0 : List Name → Vat Name → Type 0
  Here0 ns t = IsAt script honest Full b r b msg ns t

  ends_map : (t u : Vat Name) (e : Done Name (Unit {0})) → Grown script honest Full b t u → IfGives (Ends u) e → IfGives (Ends t) e
  ends_map t u e g h = sending.ends_map script honest w a b r there way d n verb ys t u e g h

  -- ---- it is sent on, with an answer or without

  -- where that is so in the state in which the note arrives
  module _ (onward : (h : ℕ) (q : Name) → L s b (Ref n) ≡ End (Way b h) q → (l : Link) × (world.link_at b h w.links ≡ Some l)) where
    abbrev Own : Name
    Own = Answer b msg

    abbrev Mail : List (Value Name) → Option Name → Message Name
    Mail args answer = record { id = d.message; target = Ref n; verb = verb; args = args; answer = answer }

    before_at : (ns : List Name) (t : Vat Name) → Here0 ns t → msg.sender ≡ b → suc msg.number ≤ t.messages
    before_at ns t at e = subst (λ k. suc msg.number ≤ k) (sym at.1) (before e)

    module _ (t : Vat Name) (ns : List Name) (grows : R s t) (at : Here0 ns t) (known : IsLearnt b script t n) (args : List (Value Name)) where
      abbrev both : Ready script honest Full b t × Grown script honest Full b s t
      both = grows ready

      lead_same : L t b (Ref n) ≡ L s b (Ref n)
      lead_same = sending.grown_leads script honest w a b r there way d n verb ys s t both.1 b (Ref n)

      no_answer : (p : Name) → None ≡ Some p → ⊥
      no_answer p e = cc

      some_name : (p q : Name) → Some p ≡ Some q → q ≡ p
      some_name p q e = cc

      alone : IfGives (Ends t) (refs.send_on K (refs.settle K) (Mail args None) t)
      alone = sending.sends script honest w a b r there way d n verb ys msg named t both.0 (before_at ns t at) known args None (λ p e. absurd (no_answer p e)) (λ h q e. onward h q (sym lead_same ∙ e))

      -- the answer comes to be known, and the sender is to be told of it
      abbrev Came : Vat Name
      Came = record t { known = t.known ++ begun Own b ∷ [] }

      abbrev Told : Vat Name
      Told = record Came { known = state.with_change K (ToTell a) Own Came.known }

      came_stays : R t Came
      unfolding host_of
      came_stays = come_stays script honest Full b t Own (λ o. o) (Root 0) (sending.next_answer script honest w a b r there way d n verb ys msg named t b (before_at ns t at))

      came_found : refs.entry_of K Came.known Own ≡ Some (begun Own b)
      came_found = new_entry K t.known (begun Own b) Own at.4 ∙ alone_self script b Own b tt

      came_asked : sending.IsAsked script honest w a b r there way d n verb ys msg named Came
      unfolding begun
      came_asked = (begun Own b, came_found, refl)

      abbrev tells : AddsOnly K Came Told
      tells = change_adds K (ToTell a) Own tt Came

      told_stays : R Came Told
      told_stays = stays_quiet script honest Full b Came Told (tells, refl, refl, refl)

      told_both : Ready script honest Full b Told × Grown script honest Full b t Told
      told_both = (stays_then script honest Full b {s = t} {t = Came} {u = Told} came_stays told_stays) both.0

      told_known : IsLearnt b script Told n
      told_known = sending.learnt_on script honest w a b r there way d n verb ys Came Told tells.alike (more known)
        where
          more : IsLearnt b script t n → IsLearnt b script Came n
          more (inl o) = inl o
          more (inr k) = inr (k.0, old_entry K t.known (begun Own b) k.0 n k.1)

      -- nothing is held for the answer, nothing waits for it, and nothing else is followed to it
      told_fresh : IsFresh K b Told Own (state.changed (ToTell a) (begun Own b))
      unfolding state.changed state.unless_settled state.changed_to begun
      told_fresh = record {
        found = entry_changed K Own (ToTell a) Came.known (begun Own b) came_found;
        unsettled = refl;
        held = refl;
        waiting = refl;
        reactions = refl;
        hosted = refl;
      }

      told_alone : IsAlone K Told.known Own
      unfolding host_of
      told_alone = still_alone K Came Told Own tells.alike (came_alone script honest b t Own both.0.ends (λ o. o) at.4)

      asked_ends : IfGives (Ends Told) (refs.send_on K (refs.settle K) (Mail args (Some Own)) Told)
      asked_ends =
          let lead = sending.grown_leads script honest w a b r there way d n verb ys t Told told_both.1 b (Ref n) ∙ lead_same in
          sending.sends script honest w a b r there way d n verb ys msg named Told told_both.0 (before_at ns t at) told_known args (Some Own)
          (λ p e. (some_name Own p e, sending.entry_on script honest w a b r there way d n verb ys msg named Came Told tells.alike came_asked, (state.changed (ToTell a) (begun Own b), told_fresh, told_alone))) (λ h q e. onward h q (sym lead ∙ e))

      answered : IfGives (Ends t) (arrive.send_on_asked K a d.message n verb args t)
      unfolding arrive.send_on_asked ◌>>=◌ ◌>>◌ and_then look come alter names naming name_of answer_of
      answered = subst (λ v. IfGives (Ends t) (refs.send_on K (refs.settle K) (Mail args (Some (answer_of v d.message))) (record t { known = state.with_change K (ToTell a) (answer_of v d.message) (t.known ++ begun (answer_of v d.message) v ∷ []) }))) (sym both.0.number)
          (subst (λ i. IfGives (Ends t) (refs.send_on K (refs.settle K) (Mail args (Some (answer_of b i))) (record t { known = state.with_change K (ToTell a) (answer_of b i) (t.known ++ begun (answer_of b i) b ∷ []) }))) (sym named)
          (ends_map t Told (refs.send_on K (refs.settle K) (Mail args (Some Own)) Told) told_both.1 asked_ends))

      either : (c : Bool) → d.asks ≡ c → IfGives (Ends s) ((if c then arrive.send_on_asked K a d.message n verb args else refs.send_on K (refs.settle K) (Mail args None)) t)
      either true e = ends_map s t (arrive.send_on_asked K a d.message n verb args t) both.1 answered
      either false e = ends_map s t (refs.send_on K (refs.settle K) (Mail args None) t) both.1 alone

    -- ---- the whole arrival

    abbrev Ns : List Name
    Ns = names_in r.known

    abbrev After : Name → Name → List (Value Name) → Act Name (Unit {0})
    After id m args = if d.asks then arrive.send_on_asked K a id m verb args else refs.send_on K (refs.settle K) (record { id = id; target = Ref m; verb = verb; args = args; answer = None })

    to_ends : (e : Done Name (Unit {0})) → Yields (λ x u. Ends s u) e → IfGives (Ends s) e
    to_ends (Gives x u) h = h
    to_ends other h = tt

    from_ends : (e : Done Name (Unit {0})) → IfGives (Ends s) e → Yields (λ x u. Ends s u) e
    from_ends (Gives x u) h = h
    from_ends other h = tt

    abbrev Learn : Vat Name → List Name → Vat Name → Type 0
    Learn t ns u = Learns script honest Full b r b msg t ns u

    module _ (all : AllNotNext b r (Answer b msg) Ns ys) where
      abbrev Ms : List Name
      Ms = (world.read_all ys Ns).known

      abbrev Ks : List Name
      Ks = world.known_after Ms n

      named_then : (args : List (Value Name)) (t : Vat Name) → Learn s Ms t → (id : Name) → id ≡ d.message → Yields (λ x u. Ends s u) (and_then (arrive.learn_name K (world.read_name Ms n) t) (λ m. After id m args))
      named_then args t h id e = yields_bind (λ x u. (x ≡ n) × Learn t Ks u) (λ x u. Ends s u) (arrive.learn_name K (world.read_name Ms n) t) (λ m. After id m args) (learn_name script honest Full b r b msg t Ms n target h.1)
          (λ m u g. subst (λ x. Yields (λ y v. Ends s v) (After id x args u)) (sym g.0) (subst (λ i. Yields (λ y v. Ends s v) (After i n args u)) (sym e)
          (from_ends (After d.message n args u) (either u Ks (stays_then script honest Full b {s = s} {t = t} {u = u} h.0 g.1.0) g.1.1 (learnt_in script b u Ms n target.1 g.1.1.0) args d.asks refl))))

      args_then : (t : Vat Name) → Learn s Ns t → (id : Name) → id ≡ d.message → Yields (λ x u. Ends s u) (and_then (arrive.learn_all K a (world.read_all ys Ns).read t) (λ args. arrive.learn_name K (world.read_name Ms n) >>= (λ m. After id m args)))
      unfolding ◌>>=◌
      args_then t h id e = yields_bind (λ x u. Learn t Ms u) (λ x u. Ends s u) (arrive.learn_all K a (world.read_all ys Ns).read t) (λ args. arrive.learn_name K (world.read_name Ms n) >>= (λ m. After id m args)) (learn_all script honest Full b r b msg t Ns a ys all h.1)
          (λ args u g. named_then args u (stays_then script honest Full b {s = s} {t = t} {u = u} h.0 g.0, g.1) id e)

      pub arrives : IfGives (Ends s) (arrive.arrive K a (read_note Ns (Deliver d n verb ys)) s)
      unfolding arrive.arrive arrive.arrive_deliver read_note ◌>>=◌
      arrives = to_ends _ (yields_bind (λ x u. (x ≡ d.message) × Learn s Ns u) (λ x u. Ends s u) (arrive.learn_message K (New d.message (host_of d.message)) s) (λ id. arrive.learn_all K a (world.read_all ys Ns).read >>= (λ args. arrive.learn_name K (world.read_name Ms n) >>= (λ m. After id m args)))
          (learn_message script honest Full b r b msg s Ns d.message (host_of d.message) start) (λ id u g. args_then u g.1 id g.0))
