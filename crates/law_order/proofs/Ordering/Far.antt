-- Each thing keeps its order as a name settles to an object of another vat, and what it held goes out.
use Rattle.std.proofs.Common.{arith, ◌≡◌, ℕ, ◌≤◌, Bool, true, false, List, [], ◌∷◌, ◌++◌, Option, Some, None, length, refl, sym, ap, subst, ◌∙◌, eqb-true}
use Rattle.std.proofs.lemmas.Bool.{ne_eqb}
use Rattle.std.proofs.lemmas.List.{append-nil, append_assoc}
use Rattle.std.specs.Prelude.{slice_get, codes, ◌==◌, ◌&&◌}
use Rattle.def_machine.specs.Values.{Broken, Ref, Name, Promise, Answer, Naming, Foreign, naming, name_of, answer_of, same_reference, same_name, host_of, IsAnswer}
use Rattle.def_machine.specs.State.{Message, Known, Passeds, Deliver, Posted, Waits, Vat, Done, Gives, WhereSome, ◌>>=◌, ◌>>◌, and_then, tell, send_out, give, look, each, for_some, come, alter, begun}
use Rattle.def_machine.specs.State as state
use Rattle.def_machine.specs.Refs as refs
use Rattle.def_machine.specs.Refs.{Settler, Away}
use Rattle.def_run.specs.World.{Script, World, names}
use Rattle.law_machine.specs.Machine.Steps.{After}
use Rattle.law_order.specs.Ordering.Ways.{Held, Way, Item, Free, End, Ways}
use Rattle.law_order.specs.Ordering.Settle.{aimed_at}
use Rattle.law_order.specs.Ordering.Places.{aimed, item, held_on}
use Rattle.law_order.specs.Ordering.Worlds.{IfGives}
use Rattle.law_order.specs.Ordering.Steps.{WaysAmid, Ready, Grown}
use Rattle.law_order.specs.Ordering.Settlings.{with_line, AnswersAnew, GoesFar, SendsWell}
use Rattle.law_order.proofs.Ordering.Adds.{adds_nothing, grown_adds}
use Rattle.law_order.proofs.Ordering.Arrived.{IsOpen}
use Rattle.law_order.proofs.Ordering.Comings.{Still, outbox_still, still_pass_all, note_open, after_gives}
use Rattle.law_order.proofs.Ordering.News.{grown_then, came_ends, came_grown, came_none}
use Rattle.law_order.proofs.Ordering.Sends.{if_both, chain, if_map}
use Rattle.law_order.proofs.Ordering.Sendings.{stays_deliver}
use Rattle.law_order.proofs.Ordering.SettledPlaces.{sent_to}
use Rattle.law_order.proofs.Ordering.Waiting.{waits_grown, waits_ready}

-- ---- one message goes out

module _ (script : Script) (honest : ℕ → Bool) (w : World) (v h : ℕ) (n : Name) (r : Vat Name) (at : slice_get w.vats v ≡ Some r) (here : honest v ≡ true) (there : honest h ≡ true) where
  abbrev N : Naming Name Name
  N = names script v

  abbrev U : Vat Name → Ways
  U s = WaysAmid script honest w v s

  -- The vat is ready, it only grew, and those came to the link to h, where that is there and not cut.
  pub record WentOut (js : List Item) (s t : Vat Name) : Type 0 where
    pub ready : Ready script honest w v t
    pub grown : Grown script honest w v s t
    pub last : IsOpen v h w.links → (U t).stands (Way v h) ≡ (U s).stands (Way v h) ++ js

  out_then : (js is : List Item) (s t u : Vat Name) → WentOut js s t → WentOut is t u → WentOut (js ++ is) s u
  out_then js is s t u f g = record {
    ready = g.ready;
    grown = grown_then script honest w v s t u f.grown g.grown;
    last = λ o. g.last o ∙ ap (λ z. z ++ is) (f.last o) ∙ append_assoc ((U s).stands (Way v h)) js is;
  }

  out_same : (s : Vat Name) → Ready script honest w v s → WentOut [] s s
  out_same s q = record { ready = q; grown = grown_adds script honest w v s s (adds_nothing N s s refl refl refl refl refl refl); last = λ o. sym (append-nil ((U s).stands (Way v h))) }

  abbrev Last : List Item → Vat Name → Vat Name → Type 0
  Last js s t = IsOpen v h w.links → (U t).stands (Way v h) ≡ (U s).stands (Way v h) ++ js

  delivered_last : (m : Message Name) (s : Vat Name) → IfGives (Last (item m.id n ∷ []) s) (refs.deliver N m h n s)
  unfolding refs.deliver ◌>>=◌ ◌>>◌ and_then tell send_out
  delivered_last m s = go (refs.pass_all N h m.args s) ((still_pass_all script honest w v v h h m.args).after s)
    where
      go : (d : Done Name (Passeds Name)) → After (Still script honest w v v h) s d → IfGives (Last (item m.id n ∷ []) s) (and_then d (λ ys. tell (Posted h m.id) >> send_out h (Deliver (refs.delivery_of N m) n m.verb ys)))
      go (Gives ys t) f = let u : Vat Name = record t { happened = t.happened ++ Posted h m.id ∷ []; outbox = t.outbox ++ record { to = h; note = Deliver (refs.delivery_of N m) n m.verb ys } ∷ [] } in
          λ o. note_open script honest w v h here there (refs.delivery_of N m) n m.verb ys t u refl o ∙ ap (λ z. z ++ item m.id n ∷ []) f.same
      go other f = tt

  delivered_out : (m : Message Name) (s : Vat Name) → Ready script honest w v s → IfGives (WentOut (item m.id n ∷ []) s) (refs.deliver N m h n s)
  delivered_out m s q = let d = refs.deliver N m h n s in
      if_map (λ t. (Ready script honest w v t × Grown script honest w v s t) × Last (item m.id n ∷ []) s t) (WentOut (item m.id n ∷ []) s) (λ t f. record { ready = f.0.0; grown = f.0.1; last = f.1 }) d
      (if_both (λ t. Ready script honest w v t × Grown script honest w v s t) (Last (item m.id n ∷ []) s) d
      (after_gives script honest w v r at s (λ t. Ready script honest w v t × Grown script honest w v s t) (λ t f. f q) d ((stays_deliver script honest w v m h n).after s))
      (delivered_last m s))

  -- with a new answer
  module _ (m : Message Name) (p : Name) (s : Vat Name) (q : Ready script honest w v s) (g : AnswersAnew script honest w v h n p m s) where
    abbrev A : Name
    A = Answer h g.message

    abbrev Came : Vat Name
    Came = record s { known = s.known ++ begun A h ∷ [] }

    and_false : (a b : Bool) → b ≡ false → (a && b) ≡ false
    and_false true b e = e
    and_false false b e = refl

    not_later : (i : ℕ) → s.messages ≤ i → (c : Bool) → (g.message.sender == v) ≡ c → (c && (g.message.number == i)) ≡ false
    not_later i j true e = let b = g.before (eqb-true g.message.sender v e) in ne_eqb g.message.number i (λ k. omega arith)
    not_later i j false e = refl

    other_answer : (a i : ℕ) → s.messages ≤ i → same_reference A (Answer a (record { sender = v; number = i })) ≡ false
    unfolding same_reference same_name
    other_answer a i j = and_false (h == a) ((g.message.sender == v) && (g.message.number == i)) (not_later i j (g.message.sender == v) refl)

    no_promise : (i : ℕ) → same_reference A (Promise v i) ≡ false
    unfolding same_reference same_name
    no_promise i = refl

    came_ready : Ready script honest w v Came
    unfolding names naming host_of
    came_ready = let old = came_ends script honest w v s A (λ o. o) q in record {
      number = q.number;
      ends = record { objects = old.objects; fixed = old.fixed };
      draws = q.draws;
      answers = λ a i j. came_none N s A h (λ o. o) q.ends (Answer a (record { sender = v; number = i })) (q.answers a i j) (other_answer a i j);
      promises = λ i j. came_none N s A h (λ o. o) q.ends (Promise v i) (q.promises i j) (no_promise i);
    }

    came_out : WentOut [] s Came
    unfolding host_of
    came_out = record { ready = came_ready; grown = came_grown script honest w v s A (λ o. o) q g.unknown; last = λ o. (outbox_still script honest w v v h s Came refl).same ∙ sym (append-nil ((U s).stands (Way v h))) }

    abbrev Anew : Message Name
    Anew = record m { answer = Some A }

    abbrev IsLooseAt : Vat Name → Type 0
    IsLooseAt t = (k : Known Name) × (refs.entry_of N t.known p ≡ Some k) × (k.standing ≡ state.Unsettled) × ((o : Name) → (U t).onward (Held v p) o ≡ Free)

    waits_out : (t : Vat Name) → WentOut (item m.id n ∷ []) Came t → IsLooseAt t → IfGives (WentOut (item m.id n ∷ []) s) (refs.wait_on N p A t)
    unfolding refs.wait_on ◌>>◌ and_then tell alter
    waits_out t f i =
        let u : Vat Name = with_line (record t { known = state.with_change N (state.Wait p) A (state.with_change N (state.WaitOn A) p t.known) }) (Waits p A) in
        let last : WentOut [] t u = record { ready = waits_ready script honest w v t p A i.0 i.1 i.2 i.3 f.ready; grown = waits_grown script honest w v t p A i.0 i.1 i.2 i.3; last = λ o. (outbox_still script honest w v v h t u refl).same ∙ sym (append-nil ((U t).stands (Way v h))) } in
        out_then [] (item m.id n ∷ []) s Came u came_out (out_then (item m.id n ∷ []) [] Came t u f last)

    anew_out : IfGives (WentOut (item m.id n ∷ []) s) (and_then (refs.deliver N Anew h n Came) (λ _. refs.wait_on N p A))
    anew_out = let d = refs.deliver N Anew h n Came in
        chain (λ t. WentOut (item m.id n ∷ []) Came t × IsLooseAt t) (WentOut (item m.id n ∷ []) s) d (refs.wait_on N p A)
        (if_both (WentOut (item m.id n ∷ []) Came) IsLooseAt d (delivered_out Anew Came came_ready) g.waits)
        (λ t f. waits_out t f.0 f.1)

    named : N.made (IsAnswer h m.id) (length s.known) ≡ A
    unfolding names naming name_of answer_of
    named = ap (λ z. answer_of h z) g.sent

    answered_out : IfGives (WentOut (item m.id n ∷ []) s) ((come N (IsAnswer h m.id) h >>= (λ a. refs.deliver N (record m { answer = Some a }) h n >> refs.wait_on N p a)) s)
    unfolding ◌>>=◌ ◌>>◌ and_then come
    answered_out = subst (λ a. IfGives (WentOut (item m.id n ∷ []) s) (and_then (refs.deliver N (record m { answer = Some a }) h n (record s { known = s.known ++ begun a h ∷ [] })) (λ _. refs.wait_on N p a))) (sym named) anew_out

  passed_out : (m : Message Name) (s : Vat Name) → Ready script honest w v s → WhereSome (λ p. AnswersAnew script honest w v h n p m s) m.answer → IfGives (WentOut (item m.id n ∷ []) s) (refs.pass_on N m h n s)
  unfolding refs.pass_on for_some
  passed_out m s q = go m.answer
    where
      go : (o : Option Name) → WhereSome (λ p. AnswersAnew script honest w v h n p m s) o → IfGives (WentOut (item m.id n ∷ []) s) (for_some o (λ p. come N (IsAnswer h m.id) h >>= (λ a. refs.deliver N (record m { answer = Some a }) h n >> refs.wait_on N p a)) (refs.deliver N m h n) s)
      go (Some p) g = answered_out m p s q g
      go None g = delivered_out m s q

  -- ---- all go out

  module _ (far : N.spot n ≡ Foreign h) (R : Name → Vat Name → Type 0) (settle : Settler {N = Name} {W = Name} N) where
    placed : (s : Vat Name) → refs.place N s (Ref n) ≡ Away h n true
    unfolding refs.place refs.spotted
    placed s = ap (λ q. refs.spotted N s n q) far

    one_out : (m : Message Name) (s : Vat Name) → Ready script honest w v s → GoesFar script honest w v n m s (N.spot n) → IfGives (WentOut (item m.id n ∷ []) s) (refs.send_on N settle m s)
    unfolding refs.send_on ◌>>=◌ and_then look refs.send_to
    one_out m s q g =
        let f = subst (λ z. GoesFar script honest w v n m s z) far g in
        subst (λ z. IfGives (WentOut (item m.id n ∷ []) s) (refs.send_to N settle m z (refs.place N s z) s)) (sym f.0)
        (subst (λ z. IfGives (WentOut (item m.id n ∷ []) s) (refs.send_to N settle m (Ref n) z s)) (sym (placed s)) (passed_out m s q f.1))

    pub all_out : (p : Name) (ms : List (Message Name)) (s : Vat Name) → Ready script honest w v s → SendsWell script honest w v (Ref n) R settle ms s → IfGives (WentOut (sent_to n (held_on p ms)) s) (each (refs.send_on N settle) ms s)
    unfolding each ◌>>◌ give held_on sent_to
    all_out p [] s q g = out_same s q
    all_out p (m ∷ ms) s q g = chain (λ t. WentOut (item m.id n ∷ []) s t × SendsWell script honest w v (Ref n) R settle ms t) (WentOut (item m.id n ∷ sent_to n (held_on p ms)) s) (refs.send_on N settle m s) (each (refs.send_on N settle) ms)
        (if_both (WentOut (item m.id n ∷ []) s) (λ t. SendsWell script honest w v (Ref n) R settle ms t) (refs.send_on N settle m s) (one_out m s q g.0) g.1)
        (λ t f. if_map (WentOut (sent_to n (held_on p ms)) t) (WentOut (item m.id n ∷ sent_to n (held_on p ms)) s) (λ u i. out_then (item m.id n ∷ []) (sent_to n (held_on p ms)) s t u f.0 i) (each (refs.send_on N settle) ms t) (all_out p ms t f.0.ready f.1))

  -- from a state before, in which the same stood on the link
  pub line_out : (js : List Item) (s t u : Vat Name) → t.outbox ≡ s.outbox → Grown script honest w v s t → WentOut js t u → WentOut js s u
  line_out js s t u e f g = record {
    ready = g.ready;
    grown = grown_then script honest w v s t u f g.grown;
    last = λ o. g.last o ∙ ap (λ z. z ++ js) (outbox_still script honest w v v h s t e).same;
  }

-- where a name leads that settled to such an object
module _ (script : Script) (v h : ℕ) (n : Name) (far : (names script v).spot n ≡ Foreign h) (t : Vat Name) (unnoticed : state.is_in h t.noticed ≡ false) where
  abbrev K : Naming Name Name
  K = names script v

  far_severed : refs.severed K t (Ref n) ≡ Ref n
  unfolding refs.severed refs.severed_at refs.severed_by
  far_severed = ap (λ q. refs.severed_at K t n q) far ∙ ap (λ c. elim c [ true ↦ Broken (codes "partition") | false ↦ Ref n ]) unnoticed

  far_placed : refs.place K t (Ref n) ≡ Away h n true
  unfolding refs.place refs.spotted
  far_placed = ap (λ q. refs.spotted K t n q) far

  pub far_aimed : aimed_at script v t (Ref n) ≡ End (Way v h) n
  unfolding aimed_at aimed
  far_aimed = ap (λ z. aimed v z (refs.place K t z)) far_severed ∙ ap (λ q. aimed v (Ref n) q) far_placed
