-- What a send, a reaction, a new promise and a resolving keep of one name that is not the answer of a message which comes to be here.
use Rattle.std.proofs.Common.{◌≡◌, ℕ, suc, Bool, true, false, List, [], ◌∷◌, ◌++◌, Some, None, length, refl, sym, ap, subst, ◌∙◌, arith, if◌then◌else◌}
use Rattle.def_machine.specs.Values.{Words, Value, Null, Ref, Name, Answer, Sent, Msg, Naming, naming, name_of, answer_of, mail_of}
use Rattle.def_machine.specs.State.{Message, Standing, Settled, React, Sends, Reacts, Vat, Done, Gives, Act, ◌>>=◌, ◌>>◌, and_then, give, look, tell, new_message, new_lone_message, new_promise, begun}
use Rattle.def_machine.specs.Refs as refs
use Rattle.def_machine.specs.Refs.{Place, Mine, Away}
use Rattle.def_run.specs.Draws.{draw_word}
use Rattle.def_run.specs.World.{Script, World, names}
use Rattle.law_fate.proofs.Name.Among.{length_end}
use Rattle.law_fate.specs.Fates.Fate.{one}
use Rattle.law_reference.proofs.Reference.Entries.{mild_react}
use Rattle.law_order.proofs.Ordering.Moves.{Keeps, keeps_look}
use Rattle.law_order.specs.Waits.Answers.{answered_by, answers, askings}
use Rattle.law_order.proofs.Waits.Costs.{Ends}
use Rattle.law_order.proofs.Waits.Counts.{comes_stands}
use Rattle.law_order.proofs.Waits.Room as room
use Rattle.law_order.proofs.Steady.Ends.{later_come}
use Rattle.law_order.proofs.Steady.Staying as stays

module _ (script : Script) (w : World) (v : ℕ) (q : Name) (Stay : Standing Name → Type 0) (hosts : List ℕ) (least : ℕ) (settled : (y : Value Name) → Stay (Settled y)) (fit : (m : Msg) → one (Answer v m) q ≡ 0) where
  abbrev K : Naming Name Name
  K = names script v

  abbrev Good : Vat Name → Type 0
  Good s = stays.Good script w v q Stay hosts least s

  abbrev Does : {A : Type 0} → Act Name A → Type 0
  Does m = stays.Does script w v q Stay hosts least m

  settles : (p : Name) (y : Value Name) → Does (refs.settle K p y)
  settles p y = stays.do_settle script w v q Stay hosts least settled p y

  quiet : {A : Type 0} {m : Act Name A} → Keeps (stays.Goes script w v q Stay hosts least) m → Does m
  quiet k = stays.doing script w v q Stay hosts least k

  -- ---- a name that comes to be known, and a count that goes on

  came : (n : Name) (h : ℕ) (s : Vat Name) → Good s → Good (record s { known = s.known ++ begun n h ∷ [] })
  unfolding names askings
  came n h s g = let more = room.asked_comes (draw_word script.key) v q n h s.known in let a = g.asks in let few = g.few in let e = length_end s.known (begun n h) in
      record { noticed = g.noticed; draws = g.draws; later = later_come script v n h s.known g.later; few = omega arith; asks = omega arith; stay = subst Stay (sym (comes_stands (draw_word script.key) v n h q s.known)) g.stay }

  pub do_promise : Does (new_promise K)
  unfolding new_promise askings
  do_promise = record { after = λ s g. let n : Name = K.made _ (length s.known) in let c = came n s.number s g in record { noticed = c.noticed; draws = c.draws; later = c.later; few = c.few; asks = c.asks; stay = c.stay } }

  here_none : (u : ℕ) → u ≡ v → (i : Msg) (m : Message Name) → m.answer ≡ Some (Answer u i) → answers q m ≡ 0
  unfolding answers answered_by
  here_none u own i m is = ap (answered_by q) is ∙ (ap (λ (z : ℕ). one (Answer z i) q) own ∙ fit i)

  first : (u : ℕ) → u ≡ v → (i : Msg) (m : Message Name) (y : Value Name) (p : Place Name) → m.answer ≡ Some (Answer (refs.answer_host K u p) i) → Does (refs.send_first K m y p)
  unfolding refs.send_first refs.answer_host
  first u own i m y (Away h n o) is = quiet (stays.go_deliver script w v q Stay hosts least m h n)
  first u own i m y other is = stays.do_send_to script w v q Stay hosts least (refs.settle K) settles m y other (here_none u own i m is)

  lone : (m : Message Name) (y : Value Name) (p : Place Name) → m.answer ≡ None → Does (refs.send_first K m y p)
  unfolding refs.send_first answers answered_by
  lone m y (Away h n o) is = quiet (stays.go_deliver script w v q Stay hosts least m h n)
  lone m y other is = stays.do_send_to script w v q Stay hosts least (refs.settle K) settles m y other (ap (answered_by q) is)

  then_gives : {A B : Type 0} (d : Done Name A) (b : B) → Ends Good d → Ends {A = B} Good (and_then d (λ _. give b))
  unfolding and_then give
  then_gives (Gives a t) b h = h
  then_gives other b h = h

  pub send_good : (act : ℕ) (y : Value Name) (verb : Words) (args : List (Value Name)) (s : Vat Name) → s.number ≡ v → Good s → Ends Good (refs.send K act y verb args s)
  unfolding refs.send ◌>>=◌ ◌>>◌ and_then look tell new_message names naming name_of answer_of mail_of askings
  send_good act y verb args s own g = let z : Value Name = refs.follow K s y in let p : Place Name = refs.place K s z in let i : Msg = record { sender = v; number = s.messages } in let a : Name = Answer (refs.answer_host K s.number p) i in
      let m : Message Name = record { id = Sent i; target = z; verb = verb; args = args; answer = Some a } in
      let t : Vat Name = record s { messages = suc s.messages; mails = s.mails ++ Sent i ∷ []; known = s.known ++ begun a (refs.answer_host K s.number p) ∷ []; happened = s.happened ++ Sends act (record { id = Sent i; target = y; verb = verb; args = args; answer = Some a }) ∷ [] } in
      let c = came a (refs.answer_host K s.number p) s g in
      then_gives (refs.send_first K m z p t) (Ref a) ((first s.number own i m z p refl).after t (record { noticed = c.noticed; draws = c.draws; later = c.later; few = c.few; asks = c.asks; stay = c.stay }))

  pub send_only_good : (act : ℕ) (y : Value Name) (verb : Words) (args : List (Value Name)) (s : Vat Name) → Good s → Ends Good (refs.send_only K act y verb args s)
  unfolding refs.send_only ◌>>=◌ ◌>>◌ and_then look tell new_lone_message names naming mail_of askings
  send_only_good act y verb args s g = let z : Value Name = refs.follow K s y in let p : Place Name = refs.place K s z in let i : Msg = record { sender = v; number = s.messages } in
      let m : Message Name = record { id = Sent i; target = z; verb = verb; args = args; answer = None } in
      let t : Vat Name = record s { messages = suc s.messages; mails = s.mails ++ Sent i ∷ []; happened = s.happened ++ Sends act (record { id = Sent i; target = y; verb = verb; args = args; answer = None }) ∷ [] } in
      then_gives (refs.send_first K m z p t) Null ((lone m z p refl).after t (record { noticed = g.noticed; draws = g.draws; later = g.later; few = g.few; asks = g.asks; stay = g.stay }))

  reacts_at : (m : Message Name) (p : Place Name) → answers q m ≡ 0 → Does (refs.react_at K m p)
  unfolding refs.react_at
  reacts_at m (Mine n) z = quiet (stays.mildly script w v q Stay hosts least (React m) n tt (mild_react m) z)
  reacts_at m (Away h n false) z = quiet (stays.mildly script w v q Stay hosts least (React m) n tt (mild_react m) z)
  reacts_at m other z = quiet (stays.go_queue script w v q Stay hosts least m z)

  pub react_good : (act : ℕ) (y o near : Value Name) (s : Vat Name) → s.number ≡ v → Good s → Ends Good (refs.react K act y o near s)
  unfolding refs.react refs.reaction ◌>>=◌ ◌>>◌ and_then look tell new_message names naming name_of answer_of mail_of askings
  react_good act y o near s own g = let i : Msg = record { sender = v; number = s.messages } in let a : Name = Answer s.number i in
      let m : Message Name = refs.reaction K (Sent i) near y a in
      let t : Vat Name = record s { messages = suc s.messages; mails = s.mails ++ Sent i ∷ []; known = s.known ++ begun a s.number ∷ []; happened = s.happened ++ Reacts act y o m ∷ [] } in
      let c = came a s.number s g in let p : Place Name = refs.place K t (refs.follow K t y) in
      then_gives (refs.react_at K m p t) (Ref a) ((reacts_at m p (here_none s.number own i m refl)).after t (record { noticed = c.noticed; draws = c.draws; later = c.later; few = c.few; asks = c.asks; stay = c.stay }))

  looks : {A : Type 0} (f : Vat Name → A) → Does (look f)
  looks f = quiet (keeps_look (stays.Goes script w v q Stay hosts least) (stays.goes script w v q Stay hosts least) f)

  module _ (p : Name) (z : one p q ≡ 0) where
    waits_or : (b : Bool) (r : Name) (y : Value Name) → Does (if b then refs.settle K p y else refs.wait_on K p r)
    waits_or true r y = settles p y
    waits_or false r y = quiet (stays.go_wait_on script w v q Stay hosts least p r z)

    waits_unless : (r : Name) → Does (refs.wait_unless_cycle K p r)
    unfolding refs.wait_unless_cycle
    waits_unless r = stays.do_bind script w v q Stay hosts least (looks _) (λ b. waits_or b r _)

    resolves_to : (y : Value Name) (r : Place Name) → Does (refs.resolve_to K p y r)
    unfolding refs.resolve_to
    resolves_to y (Mine r) = waits_unless r
    resolves_to y (Away h r false) = waits_unless r
    resolves_to y other = settles p y

    -- another name is resolved
    pub do_resolve : (y : Value Name) → Does (refs.resolve K p y)
    unfolding refs.resolve
    do_resolve y = stays.do_bind script w v q Stay hosts least (looks _) (λ x. stays.do_bind script w v q Stay hosts least (looks _) (λ r. resolves_to x r))
