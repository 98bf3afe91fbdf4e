-- Sends and reactions take no room of a name: the answer of a new message comes to be known with it.
use Rattle.std.proofs.Common.{◌≡◌, ℕ, suc, ◌+◌, ◌*◌, ◌≤◌, Bool, true, false, List, [], ◌∷◌, ◌++◌, Some, None, refl, sym, ap, subst, arith}
use Rattle.def_machine.specs.Values.{Words, Value, Null, Ref, Name, Answer, Gift, Sent, Msg, Naming, naming, name_of, answer_of, mail_of}
use Rattle.def_machine.specs.State.{Message, Sends, Reacts, Vat, Done, Gives, Act, ◌>>=◌, ◌>>◌, and_then, give, look, tell, new_message, new_lone_message, begun}
use Rattle.def_machine.specs.Refs as refs
use Rattle.def_machine.specs.Refs.{Place, Mine, Away}
use Rattle.law_fate.specs.Name.Names.{IsEventual}
use Rattle.law_fate.specs.Fates.Fate.{one}
use Rattle.law_order.proofs.Ordering.Moves.{IsKept}
use Rattle.law_order.specs.Waits.Answers.{answered_by, answers}
use Rattle.law_order.proofs.Waits.Room.{share}
use Rattle.law_order.proofs.Waits.Costs.{Ends}
use Rattle.law_order.proofs.Waits.Costs as costs
use Rattle.law_order.proofs.Waits.Settling as settling

-- A name that is owed is no object, no promise and no gift, and each answer that vat v hosts is owed.
pub record IsFit (v : ℕ) (x : Name) (owed : Bool) : Type 0 where
  pub eventual : owed ≡ true → IsEventual x
  pub gift : owed ≡ true → (h i : ℕ) → one (Gift h i) x ≡ 0
  pub answer : owed ≡ false → (m : Msg) → one (Answer v m) x ≡ 0

module _ (word : ℕ → ℕ) (v : ℕ) (x : Name) (owed : Bool) (fit : IsFit v x owed) where
  abbrev N : Naming Name Name
  N = naming word v

  abbrev Costs : {A : Type 0} → ℕ → Act Name A → Type 0
  Costs c m = costs.Costs word v x owed c m

  abbrev At : ℕ → Vat Name → Type 0
  At c s = costs.At word v x owed c s

  abbrev Spares : Vat Name → Vat Name → Type 0
  Spares s t = costs.Spares word v x owed s t

  base : IsKept Spares
  base = costs.spares word v x owed

  share_by : (o : Bool) → owed ≡ o → (m : Msg) → one (Answer v m) x ≤ share owed (one (Answer v m) x)
  unfolding share
  share_by true e m = let same : share owed (one (Answer v m) x) ≡ one (Answer v m) x = ap (λ (b : Bool). share b (one (Answer v m) x)) e in omega arith
  share_by false e m = let none = fit.answer e m in omega arith

  -- an answer that the vat hosts makes as much room as its message takes
  pub answer_pays : (u : ℕ) → u ≡ v → (m : Msg) → one (Answer u m) x ≤ share owed (one (Answer u m) x)
  answer_pays u e m = subst (λ (z : ℕ). one (Answer z m) x ≤ share owed (one (Answer z m) x)) (sym e) (share_by owed refl m)

  pub free_first : (m : Message Name) (y : Value Name) (p : Place Name) → Costs (2 * answers x m) (refs.send_first N m y p)
  unfolding refs.send_first
  free_first m y (Away h n o) = costs.costs_free word v x owed (2 * answers x m) (settling.spare_deliver word v x owed fit.eventual m h n)
  free_first m y other = settling.costs_send_to word v x owed fit.eventual (refs.settle N) (settling.costs_settle word v x owed fit.eventual) m y other

  -- a message whose answer just came to be known, here
  here_after : (u : ℕ) → u ≡ v → (i : Msg) (m : Message Name) (y : Value Name) (p : Place Name) → m.answer ≡ Some (Answer u i) → (e : ℕ) (s : Vat Name) → At (2 * share owed (one (Answer u i) x) + e) s → Ends (At e) (refs.send_first N m y p s)
  unfolding answers answered_by
  here_after u own i m y p is e s g = let pays = answer_pays u own i in let is_one : answers x m ≡ one (Answer u i) x = ap (answered_by x) is in let first = free_first m y p in
      first.after e s (costs.less word v x owed (2 * share owed (one (Answer u i) x) + e) (2 * answers x m + e) (omega arith) s g)

  -- a message whose answer just came to be known, at the host of its target
  first_after : (u : ℕ) → u ≡ v → (i : Msg) (m : Message Name) (y : Value Name) (p : Place Name) → m.answer ≡ Some (Answer (refs.answer_host N u p) i) → (e : ℕ) (s : Vat Name) → At (2 * share owed (one (Answer (refs.answer_host N u p) i) x) + e) s
      → Ends (At e) (refs.send_first N m y p s)
  unfolding refs.send_first refs.answer_host
  first_after u own i m y (Away h n o) is e s g = let free : Costs 0 (refs.deliver N m h n) = costs.costs_free word v x owed 0 (settling.spare_deliver word v x owed fit.eventual m h n) in
      free.after e s (costs.less word v x owed (2 * share owed (one (Answer h i) x) + e) (0 + e) (omega arith) s g)
  first_after u own i m y other is e s g = here_after u own i m y other is e s g

  then_gives : {A B : Type 0} (e : ℕ) (d : Done Name A) (b : B) → Ends (At e) d → Ends {A = B} (At e) (and_then d (λ _. give b))
  unfolding and_then give
  then_gives e (Gives a t) b h = h
  then_gives e other b h = h

  pub free_send : (act : ℕ) (y : Value Name) (verb : Words) (args : List (Value Name)) → Costs 0 (refs.send N act y verb args)
  unfolding refs.send ◌>>=◌ ◌>>◌ and_then look tell new_message naming name_of answer_of mail_of
  free_send act y verb args = record {
    after = λ e s h. let g : At e s = costs.less word v x owed (0 + e) e (omega arith) s h in let z : Value Name = refs.follow N s y in let p : Place Name = refs.place N s z in let i : Msg = record { sender = v; number = s.messages } in let a : Name = Answer (refs.answer_host N s.number p) i in
        let m : Message Name = record { id = Sent i; target = z; verb = verb; args = args; answer = Some a } in
        let t : Vat Name = record s { messages = suc s.messages; mails = s.mails ++ Sent i ∷ []; known = s.known ++ begun a (refs.answer_host N s.number p) ∷ []; happened = s.happened ++ Sends act (record { id = Sent i; target = y; verb = verb; args = args; answer = Some a }) ∷ [] } in
        then_gives e (refs.send_first N m z p t) (Ref a) (first_after s.number g.number i m z p refl e t (costs.comes_good word v x owed e s a (refs.answer_host N s.number p) g));
  }

  pub free_send_only : (act : ℕ) (y : Value Name) (verb : Words) (args : List (Value Name)) → Costs 0 (refs.send_only N act y verb args)
  unfolding refs.send_only ◌>>=◌ ◌>>◌ and_then look tell new_lone_message naming mail_of answers answered_by
  free_send_only act y verb args = record {
    after = λ e s h. let g : At e s = costs.less word v x owed (0 + e) e (omega arith) s h in let z : Value Name = refs.follow N s y in let p : Place Name = refs.place N s z in let i : Msg = record { sender = v; number = s.messages } in
        let m : Message Name = record { id = Sent i; target = z; verb = verb; args = args; answer = None } in
        let t : Vat Name = record s { messages = suc s.messages; mails = s.mails ++ Sent i ∷ []; happened = s.happened ++ Sends act (record { id = Sent i; target = y; verb = verb; args = args; answer = None }) ∷ [] } in
        let first = free_first m z p in then_gives e (refs.send_first N m z p t) Null (first.after e t (costs.less word v x owed e (2 * 0 + e) (omega arith) t g));
  }

  free_react_at : (m : Message Name) (p : Place Name) → Costs (2 * answers x m) (refs.react_at N m p)
  unfolding refs.react_at
  free_react_at m (Mine n) = costs.costs_react word v x owed m n
  free_react_at m (Away h n false) = costs.costs_react word v x owed m n
  free_react_at m other = costs.costs_queue word v x owed m

  pub free_react : (act : ℕ) (y o near : Value Name) → Costs 0 (refs.react N act y o near)
  unfolding refs.react refs.reaction ◌>>=◌ ◌>>◌ and_then look tell new_message naming name_of answer_of mail_of answers answered_by
  free_react act y o near = record {
    after = λ e s h. let g : At e s = costs.less word v x owed (0 + e) e (omega arith) s h in let i : Msg = record { sender = v; number = s.messages } in let a : Name = Answer s.number i in
        let m : Message Name = refs.reaction N (Sent i) near y a in
        let t : Vat Name = record s { messages = suc s.messages; mails = s.mails ++ Sent i ∷ []; known = s.known ++ begun a s.number ∷ []; happened = s.happened ++ Reacts act y o m ∷ [] } in
        let p : Place Name = refs.place N t (refs.follow N t y) in let pays = answer_pays s.number g.number i in let at = free_react_at m p in
        then_gives e (refs.react_at N m p t) (Ref a) (at.after e t (costs.less word v x owed (2 * share owed (one a x) + e) (2 * one a x + e) (omega arith) t (costs.comes_good word v x owed e s a s.number g)));
  }
