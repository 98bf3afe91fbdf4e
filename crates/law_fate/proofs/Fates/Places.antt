-- Evaluation cares for names and for places at once: each message that it sends finds a place.
use Rattle.std.proofs.Common.{◌≡◌, ℕ, suc, ◌+◌, ◌≤◌, ◌-◌, Bool, true, false, List, [], ◌∷◌, ◌++◌, Some, refl, ap, arith, None}
use Rattle.std.specs.Prelude.{slice_get}
use Rattle.def_machine.specs.Values.{Words, Value, Null, Broken, Ref, Name, Root, Promise, Answer, Gift, Sent, naming, name_of, mail_of, answer_of}
use Rattle.def_machine.specs.State.{Message, Thing, Cell, Happened, Sends, Reacts, Vat, Done, Gives, Stops, Act, ◌>>=◌, ◌>>◌, and_then, look, tell, give, alter, enqueue, new_message, new_promise, change, dead, holding, begun, new_lone_message}
use Rattle.def_machine.specs.Refs as refs
use Rattle.def_machine.specs.Refs.{Place, Mine, Away}
use Rattle.law_machine.specs.Machine.Steps.{After}
use Rattle.law_machine.proofs.Machine.Keeps.{Keeps}
use Rattle.law_fate.specs.Name.Names.{Named, Mail, At, ValueOk, ValuesOk, MessageOk}
use Rattle.law_fate.proofs.Name.Facts.{PlaceOk, Fact, Nothing, Also, IsName, IsValue, AreValues, IsMessage, IsPlace, nothing, value_up, values_up, holds_up}
use Rattle.law_fate.proofs.Name.Care.{TellsOfNone, Care, Under, Sound, Ends, Gets, Fine, fine_tell, with_known, fine_promise, still}
use Rattle.law_fate.proofs.Name.Looks.{follow_ok, place_ok}
use Rattle.law_fate.proofs.Name.CareRefs.{fine_settle, fine_resolve, fine_send_first, fine_send, fine_react, fine_send_only}
use Rattle.law_fate.proofs.Name.Serves.{Serves, Closing}
use Rattle.law_fate.proofs.Name.SameNames.{reference_is, reference_self}
use Rattle.law_fate.proofs.Name.Tracked.{Marked, Goes, tracked, tracked_under, tracked_makes}
use Rattle.law_fate.specs.Fates.Fate.{one, at_vat, sent_here, sent_in, account}
use Rattle.law_fate.specs.Fates.Lasting.{AllWell}
use Rattle.law_fate.specs.Fates.Finding as finding
use Rattle.law_fate.specs.Fates.Finding.{ViewsEnd, IsKnown}
use Rattle.law_fate.specs.Fates.FateLaws.{numbered, Accounted}
use Rattle.law_fate.proofs.Fates.Counts.{sent_end, gone_end, names_end}
use Rattle.law_fate.proofs.Fates.RefsAccount.{free_settle, free_resolve, costs_send_first}
use Rattle.law_fate.proofs.Fates.PlacesLast.{PaysAt, Pays, come_well}
use Rattle.law_fate.proofs.Fates.PlacesRefs.{pays_break, pays_resolve, pays_send, pays_reacts, pays_send_only}
use Rattle.law_fate.proofs.Fates.PlacesSteps.{global_names}
use Rattle.law_fate.proofs.Fates.Finding.{sends_find_places}
use Rattle.law_fate.proofs.Fates.ViewsEnd.{among_known, views_end}

-- a line that tells of no message tells of no send
none_sent : (x : Name) (e : Happened Name) → TellsOfNone e → sent_here x e ≡ 0
unfolding sent_here
none_sent x (Sends act m) h = absurd h
none_sent x (Reacts act y o m) h = absurd h
none_sent x _ h = refl

-- what of its messages a vat has numbered since
abbrev pub Unnumbered : {A : Type 0} → Vat Name → Done Name A → Type 0
Unnumbered s (Gives a t) = s.messages ≡ t.messages
Unnumbered s other = Unit {0}

-- it was sent no more often than so many times
abbrev pub SentAt : {A : Type 0} → Name → ℕ → Vat Name → Done Name A → Type 0
SentAt x c s (Gives a t) = sent_in x t.happened ≤ c + sent_in x s.happened
SentAt x c s other = Unit {0}

-- where no message was numbered none was sent
pub sent_none : {A : Type 0} (cut : ℕ → Bool) (v : ℕ) (x : Name) (c : ℕ) (s : Vat Name) (d : Done Name A) → After (Accounted cut v x c) s d → Unnumbered s d → SentAt x 0 s d
sent_none cut v x c s (Gives a t) h e = let f = h.fresh in let same : numbered v s.messages x ≡ numbered v t.messages x = ap (λ k. numbered v k x) e in omega arith
sent_none cut v x c s other h e = tt

module _ (M : Marked) (vats : List (Vat Name)) (v : ℕ) (q : Vat Name) (there : slice_get vats v ≡ Some q) (here : M.mark (At v)) (word : ℕ → ℕ) where
  -- the names, where new messages are made
  abbrev pub T : Care Name
  T = tracked true M vats v q there here

  -- and where none are
  abbrev pub F : Care Name
  F = tracked false M vats v q there here

  pub under : Under (naming word v) T
  under = tracked_under true M vats v q there here word

  pub quiet_under : Under (naming word v) F
  quiet_under = tracked_under false M vats v q there here word

  pub quiet_sound : (s : Vat Name) → Sound T s → Sound F s
  quiet_sound s h = record { parts = h.parts; more = h.more }

  pub unnumbered : {A : Type 0} (G : A → Fact Name) (s : Vat Name) (d : Done Name A) → Ends F G s d → Unnumbered s d
  unnumbered G s (Gives a t) h = let r : Goes false M vats v q there here s t = h.0 in r.messages
  unnumbered G s other h = tt

  -- what is good is known
  pub good_known : (s : Vat Name) (y : Value Name) → ValueOk (T.ok s) y → IsKnown (naming word v) s y
  unfolding naming
  good_known s (Ref (Root w)) h = among_known (naming word v) reference_is reference_self s.known (Root w) (reference_self (Root w) tt) h.1
  good_known s (Ref (Promise w i)) h = among_known (naming word v) reference_is reference_self s.known (Promise w i) (reference_self (Promise w i) tt) h.1
  good_known s (Ref (Answer w m)) h = among_known (naming word v) reference_is reference_self s.known (Answer w m) (reference_self (Answer w m) tt) h.1
  good_known s (Ref (Gift w i)) h = among_known (naming word v) reference_is reference_self s.known (Gift w i) (reference_self (Gift w i) tt) h.1
  good_known s (Ref (Sent m)) h = absurd h.0
  good_known s other h = tt

  pub good_views : (s : Vat Name) → Sound T s → ViewsEnd (naming word v) s
  good_views s h = let m = h.more in views_end word v s m.apart m.views

  module _ (cut : ℕ → Bool) (x : Name) where
    -- as many more are placed as came and were sent
    pub record Grows (c : ℕ) (s t : Vat Name) : Type 0 where
      pub kept : account cut x s + c + sent_in x t.happened ≤ account cut x t + sent_in x s.happened

    pub same_grows : (s : Vat Name) → Grows 0 s s
    same_grows s = record { kept = omega arith }

    pub trans_grows : (c d : ℕ) (s t u : Vat Name) → Grows c s t → Grows d t u → Grows (c + d) s u
    trans_grows c d s t u h k = let a = h.kept in let b = k.kept in record { kept = omega arith }

    pub none_grows : (s t u : Vat Name) → Grows 0 s t → Grows 0 t u → Grows 0 s u
    none_grows s t u h k = let a = h.kept in let b = k.kept in record { kept = omega arith }

    pub fuel_grows : (s : Vat Name) (n : ℕ) → Grows 0 s (record s { fuel = s.fuel - n })
    unfolding account at_vat
    fuel_grows s n = record { kept = omega arith }

    pub told_grows : (s : Vat Name) (e : Happened Name) → TellsOfNone e → Grows 0 s (record s { happened = s.happened ++ e ∷ [] })
    unfolding account at_vat
    told_grows s e n = let a = gone_end cut x s.happened e in let b = sent_end x s.happened e in let c = none_sent x e n in record { kept = omega arith }

    pub activation_grows : (s : Vat Name) → Grows 0 s (record s { activations = suc s.activations })
    unfolding account at_vat
    activation_grows s = record { kept = omega arith }

    pub thing_grows : (s : Vat Name) (z : Thing Name) → Grows 0 s (record s { things = s.things ++ z ∷ [] })
    unfolding account at_vat
    thing_grows s z = record { kept = omega arith }

    pub killed_grows : (s : Vat Name) (n : ℕ) → Grows 0 s (record s { things = change dead n s.things })
    unfolding account at_vat
    killed_grows s n = record { kept = omega arith }

    pub slot_grows : (s : Vat Name) (c : Cell Name) → Grows 0 s (record s { slots = s.slots ++ c ∷ [] })
    unfolding account at_vat
    slot_grows s c = record { kept = omega arith }

    pub written_grows : (s : Vat Name) (n : ℕ) (y : Value Name) → Grows 0 s (record s { slots = change (holding y) n s.slots })
    unfolding account at_vat
    written_grows s n y = record { kept = omega arith }

    pub list_grows : (s : Vat Name) (ys : List (Value Name)) → Grows 0 s (record s { lists = s.lists ++ ys ∷ [] })
    unfolding account at_vat
    list_grows s ys = record { kept = omega arith }

    -- names are known, all is well, and what is sent finds a place
    abbrev pub whole : Care Name
    whole = record {
      ok = T.ok;
      more = λ s. T.more s × AllWell s;
      rel = λ s t. T.rel s t × Grows 0 s t;
      same = λ s. (T.same s, same_grows s);
      trans = λ s t u h k. (T.trans s t u h.0 k.0, none_grows s t u h.1 k.1);
      up = λ s t r b h. T.up s t r.0 b h;
      here = λ s m. T.here s m.0;
      near = λ s h g. T.near s h g;
      entered = λ s n h. h;
      owned = λ s n i h. h;
      owner = λ s n i h k. h;
      drew = λ s i h. h;
      fuel = λ s n. let r = T.fuel s n in ((r.0, fuel_grows s n), λ m. (r.1 m.0, m.1));
      told = λ s e n. let r = T.told s e n in ((r.0, told_grows s e n), λ m. (r.1 m.0, m.1));
      activations = λ s. let r = T.activations s in ((r.0, activation_grows s), λ m. (r.1 m.0, m.1));
      thing = λ s z. let r = T.thing s z in ((r.0, thing_grows s z), λ m. (r.1 m.0, m.1));
      killed = λ s n. let r = T.killed s n in ((r.0, killed_grows s n), λ m. (r.1 m.0, m.1));
      slot = λ s c. let r = T.slot s c in ((r.0, slot_grows s c), λ m. (r.1 m.0, m.1));
      written = λ s n y. let r = T.written s n y in ((r.0, written_grows s n y), λ m. (r.1 m.0, m.1));
      list = λ s ys. let r = T.list s ys in ((r.0, list_grows s ys), λ m. (r.1 m.0, m.1));
    }

    pub whole_sound : (s : Vat Name) → Sound T s → AllWell s → Sound whole s
    whole_sound s h w = record { parts = h.parts; more = (h.more, w) }

    pub known_sound : (s : Vat Name) → Sound whole s → Sound T s
    known_sound s h = let m = h.more in record { parts = h.parts; more = m.0 }

    pub well : (s : Vat Name) → Sound whole s → AllWell s
    well s h = let m = h.more in m.1

    -- ---- what is known of names, with what is known of places

    joined : {A : Type 0} (G : A → Fact Name) (c : ℕ) (s : Vat Name) (d : Done Name A) → Ends T G s d → PaysAt cut x c s d → SentAt x c s d → Ends whole G s d
    joined G c s (Gives a t) h p n = let i = p.1 in ((h.0, record { kept = omega arith }), whole_sound t h.1 p.0, h.2)
    joined G c s (Stops e t) h p n = tt
    joined G c s other h p n = absurd p

    -- what makes no message
    both : {A : Type 0} {G : A → Fact Name} {C : Fact Name} {m : Act Name A} → Fine T C m G → Fine F C m G → Pays cut x 0 m → Keeps (Accounted cut v x 0) m → Fine whole C m G
    both {G = G} {m = m} h k p n = record {
      after = λ s g c. joined G 0 s (m s) (h.after s (known_sound s g) c) (p.after s (well s g)) (sent_none cut v x 0 s (m s) (n.after s) (unnumbered G s (m s) (k.after s (quiet_sound s (known_sound s g)) c)));
    }

    gets_known : {C G : Fact Name} → Gets whole C G → Gets T C G
    gets_known g = record { at = g.at }

    gets_quiet : {C G : Fact Name} → Gets whole C G → Gets F C G
    gets_quiet g = record { at = g.at }

    whole_breaks : (C : Fact Name) (p : Name) → Gets whole C (IsName p) → (t : Words) → Fine whole C (refs.settle (naming word v) p (Broken t)) nothing
    whole_breaks C p g t = both (fine_settle (naming word v) T under p (record { at = λ s c. g.at s c }) (Broken t) (record { at = λ s c. tt })) (fine_settle (naming word v) F quiet_under p (record { at = λ s c. g.at s c }) (Broken t) (record { at = λ s c. tt }))
        (pays_break (naming word v) v (global_names word v) cut x p t) (free_settle cut v x (naming word v) p (Broken t))

    whole_resolves : (C : Fact Name) (p : Name) → Gets whole C (IsName p) → (y : Value Name) → Gets whole C (IsValue y) → Fine whole C (refs.resolve (naming word v) p y) nothing
    whole_resolves C p g y h = both (fine_resolve (naming word v) T under p (record { at = λ s c. g.at s c }) y (gets_known h)) (fine_resolve (naming word v) F quiet_under p (record { at = λ s c. g.at s c }) y (gets_quiet h))
        (pays_resolve (naming word v) v (global_names word v) cut x p y) (free_resolve cut v x (naming word v) p y)

    promise_pays : (s : Vat Name) → AllWell s → PaysAt cut x 0 s (new_promise (naming word v) s)
    unfolding new_promise naming name_of account at_vat
    promise_pays s w = let n : Name = Promise v s.promises in let same = names_end x s.known n s.number in ((come_well cut x (naming word v) v (global_names word v) s n s.number tt w.0, w.1), omega arith)

    promise_sent : (s : Vat Name) → SentAt x 0 s (new_promise (naming word v) s)
    unfolding new_promise
    promise_sent s = omega arith

    whole_promises : (C : Fact Name) → Fine whole C (new_promise (naming word v)) IsName
    whole_promises C = record {
      after = λ s g c. joined IsName 0 s (new_promise (naming word v) s) ((fine_promise (naming word v) T under (tracked_makes M vats v q there here word) {C = C}).after s (known_sound s g) c) (promise_pays s (well s g)) (promise_sent s);
    }

    -- ---- new messages

    found_pays : (s : Vat Name) (d : Done Name (Value Name)) → PaysAt cut x 0 s d → finding.Finds cut v x s d → PaysAt cut x (one (Sent (record { sender = v; number = s.messages })) x) s d
    found_pays s (Gives a t) p f = (p.0, omega arith)
    found_pays s (Stops e t) p f = tt
    found_pays s other p f = p

    sent_then : {A B : Type 0} (c : ℕ) (s t : Vat Name) (d : Done Name A) (b : B) → sent_in x t.happened ≡ sent_in x s.happened + c → SentAt x 0 t d → SentAt x c s (and_then d (λ _. give b))
    unfolding and_then give
    sent_then c s t (Gives a u) b e h = omega arith
    sent_then c s t other b e h = tt

    -- the host of an answer is a vat that is good
    host_good : (s : Vat Name) (p : Place Name) → T.ok s (At s.number) → PlaceOk (T.ok s) p → T.ok s (At (refs.answer_host (naming word v) s.number p))
    unfolding refs.answer_host
    host_good s (Away h n o) g k = T.near s h k.1
    host_good s other g k = g

    send_sent : (s : Vat Name) → Sound T s → (act : ℕ) (y : Value Name) → ValueOk (T.ok s) y → (verb : Words) (args : List (Value Name)) → ValuesOk (T.ok s) args → SentAt x (one (Sent (record { sender = v; number = s.messages })) x) s (refs.send (naming word v) act y verb args s)
    unfolding refs.send ◌>>=◌ ◌>>◌ and_then look tell new_message naming mail_of name_of answer_of sent_here
    send_sent s h act y g verb args k = let K = naming word v in let z : Value Name = refs.follow K s y in let p : Place Name = refs.place K s z in let host : ℕ = refs.answer_host K s.number p in
        let id : Name = Sent (record { sender = v; number = s.messages }) in let a : Name = Answer host (record { sender = v; number = s.messages }) in let makes = tracked_makes M vats v q there here word in let spots = under.spots in
        let value : ValueOk (T.ok s) z = follow_ok K (T.ok s) s h.parts.known y g in let placed : PlaceOk (T.ok s) p = place_ok K (T.ok s) s (spots.placed s h.more) z value in
        let r = makes.messaged s host (host_good s p (T.here s h.more) placed) in
        let t : Vat Name = record s { messages = suc s.messages; mails = s.mails ++ id ∷ []; known = s.known ++ begun a host ∷ [] } in
        let made : Sound T t = record { parts = with_known K T under s t a host r.0 r.3 h; more = r.1 h.more } in
        let e : Happened Name = Sends act (record { id = id; target = y; verb = verb; args = args; answer = Some a }) in
        let told = (fine_tell K T under {C = Nothing} e).after t made tt in
        let u : Vat Name = record t { happened = t.happened ++ e ∷ [] } in
        let on : T.rel s u = T.trans s t u r.0 told.0 in
        let m : Message Name = record { id = id; target = z; verb = verb; args = args; answer = Some a } in
        let value_on : ValueOk (T.ok u) z = value_up (T.ok s) (T.ok u) (T.up s u on) z value in
        let place_on : PlaceOk (T.ok u) p = holds_up (T.ok s) (T.ok u) (T.up s u on) (IsPlace p) placed in
        let message_on : MessageOk (T.ok u) m = (T.up t u told.0 (Mail id) r.2, value_on, values_up (T.ok s) (T.ok u) (T.up s u on) args k, T.up t u told.0 (Named a) r.3) in
        let sent = sent_end x s.happened e in
        sent_then (one id x) s u (refs.send_first K m z p u) (Ref a) sent (sent_none cut v x (one id x) u (refs.send_first K m z p u) ((costs_send_first cut v x K m z p).after u)
        (unnumbered nothing u (refs.send_first K m z p u) ((fine_send_first K F quiet_under {C = Also (Also (IsMessage m) (IsValue z)) (IsPlace p)} m (record { at = λ s c. c.0.0 }) z (record { at = λ s c. c.0.1 }) p (record { at = λ s c. c.1 })).after u (quiet_sound u told.1) ((message_on, value_on), place_on))))

    lone_sent : (s : Vat Name) → Sound T s → (act : ℕ) (y : Value Name) → ValueOk (T.ok s) y → (verb : Words) (args : List (Value Name)) → ValuesOk (T.ok s) args → SentAt x (one (Sent (record { sender = v; number = s.messages })) x) s (refs.send_only (naming word v) act y verb args s)
    unfolding refs.send_only ◌>>=◌ ◌>>◌ and_then look tell new_lone_message naming mail_of sent_here
    lone_sent s h act y g verb args k = let K = naming word v in let z : Value Name = refs.follow K s y in let p : Place Name = refs.place K s z in
        let id : Name = Sent (record { sender = v; number = s.messages }) in let makes = tracked_makes M vats v q there here word in let spots = under.spots in
        let value : ValueOk (T.ok s) z = follow_ok K (T.ok s) s h.parts.known y g in let placed : PlaceOk (T.ok s) p = place_ok K (T.ok s) s (spots.placed s h.more) z value in
        let r = makes.lone s in
        let t : Vat Name = record s { messages = suc s.messages; mails = s.mails ++ id ∷ [] } in
        let parts = still T s t r.0 h in
        let made : Sound T t = record { parts = record { things = parts.things; slots = parts.slots; lists = parts.lists; queue = parts.queue; known = parts.known; gifts = parts.gifts; outbox = parts.outbox }; more = r.1 h.more } in
        let e : Happened Name = Sends act (record { id = id; target = y; verb = verb; args = args; answer = None }) in
        let told = (fine_tell K T under {C = Nothing} e).after t made tt in
        let u : Vat Name = record t { happened = t.happened ++ e ∷ [] } in
        let on : T.rel s u = T.trans s t u r.0 told.0 in
        let m : Message Name = record { id = id; target = z; verb = verb; args = args; answer = None } in
        let value_on : ValueOk (T.ok u) z = value_up (T.ok s) (T.ok u) (T.up s u on) z value in
        let place_on : PlaceOk (T.ok u) p = holds_up (T.ok s) (T.ok u) (T.up s u on) (IsPlace p) placed in
        let message_on : MessageOk (T.ok u) m = (T.up t u told.0 (Mail id) r.2, value_on, values_up (T.ok s) (T.ok u) (T.up s u on) args k, tt) in
        let sent = sent_end x s.happened e in
        sent_then (one id x) s u (refs.send_first K m z p u) Null sent (sent_none cut v x (one id x) u (refs.send_first K m z p u) ((costs_send_first cut v x K m z p).after u)
        (unnumbered nothing u (refs.send_first K m z p u) ((fine_send_first K F quiet_under {C = Also (Also (IsMessage m) (IsValue z)) (IsPlace p)} m (record { at = λ s c. c.0.0 }) z (record { at = λ s c. c.0.1 }) p (record { at = λ s c. c.1 })).after u (quiet_sound u told.1) ((message_on, value_on), place_on))))

    reacted : (s : Vat Name) (m : Message Name) (p : Place Name) → SentAt x 0 s (refs.react_at (naming word v) m p s)
    unfolding refs.react_at alter enqueue
    reacted s m (Mine n) = omega arith
    reacted s m (Away h n false) = omega arith
    reacted s m other = omega arith

    react_sent : (s : Vat Name) (act : ℕ) (y o near : Value Name) → SentAt x (one (Sent (record { sender = v; number = s.messages })) x) s (refs.react (naming word v) act y o near s)
    unfolding refs.react refs.reaction ◌>>=◌ ◌>>◌ and_then look tell new_message naming mail_of name_of answer_of sent_here
    react_sent s act y o near = let K = naming word v in let id : Name = Sent (record { sender = v; number = s.messages }) in let a : Name = Answer s.number (record { sender = v; number = s.messages }) in
        let m : Message Name = refs.reaction K id near y a in let e : Happened Name = Reacts act y o m in
        let u : Vat Name = record s { messages = suc s.messages; mails = s.mails ++ id ∷ []; known = s.known ++ begun a s.number ∷ []; happened = s.happened ++ e ∷ [] } in
        let sent = sent_end x s.happened e in
        sent_then (one id x) s u (refs.react_at K m (refs.place K u (refs.follow K u y)) u) (Ref a) sent (reacted u m (refs.place K u (refs.follow K u y)))

    whole_sends : (C : Fact Name) (act : ℕ) (y : Value Name) → Gets whole C (IsValue y) → (verb : Words) (args : List (Value Name)) → Gets whole C (AreValues args) → Fine whole C (refs.send (naming word v) act y verb args) IsValue
    whole_sends C act y g verb args k = record {
      after = λ s h c. let K = naming word v in let names : Sound T s = known_sound s h in let d : Done Name (Value Name) = refs.send K act y verb args s in
          let finds = (sends_find_places word v s cut x (well s h) (good_views s names)).0 act y verb args (good_known s y (g.at s c)) in
          joined IsValue (one (Sent (record { sender = v; number = s.messages })) x) s d ((fine_send K T under (tracked_makes M vats v q there here word) act y (gets_known g) verb args (gets_known k)).after s names c)
          (found_pays s d ((pays_send K v (global_names word v) cut x act y verb args).after s (well s h)) finds) (send_sent s names act y (g.at s c) verb args (k.at s c));
    }

    whole_sends_only : (C : Fact Name) (act : ℕ) (y : Value Name) → Gets whole C (IsValue y) → (verb : Words) (args : List (Value Name)) → Gets whole C (AreValues args) → Fine whole C (refs.send_only (naming word v) act y verb args) IsValue
    whole_sends_only C act y g verb args k = record {
      after = λ s h c. let K = naming word v in let names : Sound T s = known_sound s h in let d : Done Name (Value Name) = refs.send_only K act y verb args s in
          let finds = (sends_find_places word v s cut x (well s h) (good_views s names)).1 act y verb args (good_known s y (g.at s c)) in
          joined IsValue (one (Sent (record { sender = v; number = s.messages })) x) s d ((fine_send_only K T under (tracked_makes M vats v q there here word) act y (gets_known g) verb args (gets_known k)).after s names c)
          (found_pays s d ((pays_send_only K v (global_names word v) cut x act y verb args).after s (well s h)) finds) (lone_sent s names act y (g.at s c) verb args (k.at s c));
    }

    whole_reacts : (C : Fact Name) (act : ℕ) (y : Value Name) → Gets whole C (IsValue y) → (o : Value Name) → Gets whole C (IsValue o) → (near : Value Name) → Gets whole C (IsValue near) → Fine whole C (refs.react (naming word v) act y o near) IsValue
    whole_reacts C act y g o k near l = record {
      after = λ s h c. let K = naming word v in let names : Sound T s = known_sound s h in let d : Done Name (Value Name) = refs.react K act y o near s in
          let finds = (sends_find_places word v s cut x (well s h) (good_views s names)).2 act y o near (good_known s y (g.at s c)) in
          joined IsValue (one (Sent (record { sender = v; number = s.messages })) x) s d ((fine_react K T under (tracked_makes M vats v q there here word) act y (gets_known g) o (gets_known k) near (gets_known l)).after s names c)
          (found_pays s d ((pays_reacts K v (global_names word v) cut x act y o near).after s (well s h)) finds) (react_sent s act y o near);
    }

    pub whole_serves : Serves (naming word v) whole
    unfolding naming
    whole_serves = record {
      spots = record { alike = λ a b e. let spots = under.spots in spots.alike a b e; placed = λ s m n g. let spots = under.spots in spots.placed s m.0 n g };
      object = λ s i l. under.object s i l;
      promises = whole_promises;
      smashes = λ C p g t s h c r e. (whole_breaks C p g t).after s h c;
      resolves = λ C p g y k s h c r e. (whole_resolves C p g y k).after s h c;
      sends = whole_sends;
      sends_only = whole_sends_only;
      reacts = whole_reacts;
    }

    pub whole_closing : (p : Name) → Closing (naming word v) whole p
    unfolding naming
    whole_closing p = record { breaks = λ C g t. whole_breaks C p g t; closes = λ C g y k. whole_resolves C p g y k }
