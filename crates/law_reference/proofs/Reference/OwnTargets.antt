-- A message on an object of this vat is queued, so it brings no answer of another host.
use Rattle.std.proofs.Common.{if◌then◌else◌, ◌≡◌, ℕ, ◌+◌, ◌≤◌, Bool, true, false, List, [], ◌∷◌, ◌++◌, Option, Some, None, refl, sym, subst, arith, ◌==◌}
use Rattle.std.proofs.lemmas.Bool.{eqb-true, eq-eqb}
use Rattle.def_machine.specs.Values.{Words, Value, Ref, Name, Root, Object, Promise, Answer, Gift, Sent, Naming, IsAnswer, IsCarried, naming, name_of, mail_of, answer_of, Spot, Own, spot_of, same_name, same_reference}
use Rattle.def_machine.specs.State.{Message, Known, ToTell, Passeds, Note, Deliver, Open, Ask, SettledTo, Elsewhere, Shorten, Vat, Done, Gives, Throws, Ejects, Stops, ◌>>=◌, ◌>>◌, and_then, give, look, come, mail, alter, with_change, begun, Delivery}
use Rattle.def_machine.specs.Refs as refs
use Rattle.def_machine.specs.Refs.{Place, Near, settle, send_on}
use Rattle.def_machine.specs.Arrive as arrive
use Rattle.def_machine.specs.Arrive.{Incoming, Old, New}
use Rattle.law_machine.specs.Machine.Steps.{After}
use Rattle.law_reference.specs.Reference.Knowing.{once, one, claims, numbered, numbered_at, Knowing, new_in_all, brings}
use Rattle.law_reference.specs.Reference.NameTableRuns.{allowed, other, is_own_name, is_own, answer_here, brings_here}
use Rattle.law_reference.proofs.Reference.Claims.{claims_end, with_change_adds, added}
use Rattle.law_reference.proofs.Reference.Costs.{after_here, after_more, after_trans, free_enqueue, free_to_tell, free_mail, known_after}
use Rattle.law_reference.proofs.Reference.ArriveCosts.{arrive_after, costs_learn_all}

-- references that are the same have the same name
same_less : (a b : Name) → once (same_reference a b) ≤ once (same_name a b)
unfolding same_reference once
same_less (Root w) b = omega arith
same_less other b = omega arith

module _ (v : ℕ) (word : ℕ → ℕ) (i : ℕ) where
  abbrev K : Naming Name Name
  K = naming word v

  -- the object
  abbrev It : Name
  It = Object v i

  entry_where : (b : Bool) (k : Known Name) (o : Option (Known Name)) → once b ≤ 0 → o ≡ None → ◌≡◌ {A = Option (Known Name)} (elim b [ true ↦ Some k | false ↦ o ]) None
  unfolding once
  entry_where true k o h e = absurd (omega arith)
  entry_where false k o h e = e

  -- an object that is not claimed is not among the names known
  no_entry : (ks : List (Known Name)) → claims v It ks ≤ 0 → refs.entry_of K ks It ≡ None
  unfolding refs.entry_of claims naming one
  no_entry [] h = refl
  no_entry (k ∷ ks) h = entry_where (same_reference k.name It) k (refs.entry_of K ks It) (let less = same_less k.name It in omega arith) (no_entry ks (omega arith))

  spot_mine : spot_of v It ≡ Own i
  unfolding spot_of
  spot_mine = rw (eq-eqb v v refl, spot_of) refl

  severed_own : (u : Vat Name) (p : Spot) → p ≡ Own i → refs.severed_at K u It p ≡ Ref It
  unfolding refs.severed_at
  severed_own u (Own j) e = refl
  severed_own u other e = cc

  spotted_own : (u : Vat Name) (p : Spot) → p ≡ Own i → refs.spotted K u It p ≡ Near
  unfolding refs.spotted
  spotted_own u (Own j) e = refl
  spotted_own u other e = cc

  follows_itself : (u : Vat Name) → claims v It u.known ≤ 0 → refs.follow K u (Ref It) ≡ Ref It
  unfolding refs.follow refs.follow_at refs.standing_of refs.standing_in refs.led refs.severed naming
  follows_itself u h = rw (no_entry u.known h) (severed_own u (spot_of v It) spot_mine)

  place_near : (u : Vat Name) → claims v It u.known ≤ 0 → refs.place K u (refs.follow K u (Ref It)) ≡ Near
  unfolding refs.place naming
  place_near u h = rw (follows_itself u h) (spotted_own u (spot_of v It) spot_mine)

  module _ (x : Name) where
    send_near : (u : Vat Name) (id : Name) (a : Option Name) (verb : Words) (args : List (Value Name)) → claims v It u.known ≤ 0 → After (Knowing v x 0) u (send_on K (settle K) (record { id = id; target = Ref It; verb = verb; args = args; answer = a }) u)
    unfolding refs.send_on ◌>>=◌ and_then look refs.send_to
    send_near u id a verb args h = let m : Message Name = record { id = id; target = Ref It; verb = verb; args = args; answer = a } in
        subst (λ (p : Place Name). After (Knowing v x 0) u (refs.send_to K (settle K) m (refs.follow K u (Ref It)) p u)) (sym (place_near u h)) ((free_enqueue v x (record m { target = refs.follow K u (Ref It) })).after u)

    answered_near : (from : ℕ) (id : Name) (verb : Words) (args : List (Value Name)) (h : ℕ) (t : Vat Name) → h ≡ v → claims v It t.known + one (answer_of v id) It ≤ 0
        → After (Knowing v x (one (answer_of v id) x)) t ((come K (IsAnswer h id) h >>= (λ a. alter K (ToTell from) a >> send_on K (settle K) (record { id = id; target = Ref It; verb = verb; args = args; answer = Some a }))) t)
    unfolding ◌>>=◌ ◌>>◌ and_then come alter naming name_of added
    answered_near from id verb args h t e c = let n : Name = answer_of h id in let t1 : Vat Name = record t { known = t.known ++ begun n h ∷ [] } in let t2 : Vat Name = record t1 { known = with_change K (ToTell from) n t1.known } in
        let d : claims v It t.known + one n It ≤ 0 = rw e c in let f = claims_end v It t.known n h in let g = with_change_adds K v It (ToTell from) n t1.known in
        after_more v x (one n x + (0 + 0)) (one (answer_of v id) x) t (rw e (omega arith)) _
        (after_trans v x (one n x) (0 + 0) t t1 (known_after v x t n h) _ (after_trans v x 0 0 t1 t2 ((free_to_tell v x K from n).after t1) _ (send_near t2 id (Some n) verb args (omega arith))))

    looked_near : (from : ℕ) (id : Name) (asks : Bool) (verb : Words) (args : List (Value Name)) (t : Vat Name) → claims v It t.known + one (answer_of v id) It ≤ 0
        → After (Knowing v x (one (answer_of v id) x)) t ((arrive.learn_name K (Old It) >>= (λ n. if asks then arrive.send_on_asked K from id n verb args else send_on K (settle K) (record { id = id; target = Ref n; verb = verb; args = args; answer = None }))) t)
    unfolding arrive.learn_name ◌>>=◌ and_then give look arrive.send_on_asked
    looked_near from id true verb args t c = after_here v x (one (answer_of v id) x) t _ (λ e. answered_near from id verb args t.number t e c)
    looked_near from id false verb args t c = after_more v x 0 (one (answer_of v id) x) t (omega arith) _ (send_near t id None verb args (omega arith))

    -- once the arguments are learnt
    learnt_near : (from : ℕ) (id : Name) (asks : Bool) (verb : Words) (a b : ℕ) (s : Vat Name) (d : Done Name (List (Value Name))) → s.number ≡ v → After (Knowing v x a) s d → After (Knowing v It b) s d → claims v It s.known + (one (answer_of v id) It + b) ≤ 0
        → After (Knowing v x (a + one (answer_of v id) x)) s (and_then d (λ args. arrive.learn_name K (Old It) >>= (λ n. if asks then arrive.send_on_asked K from id n verb args else send_on K (settle K) (record { id = id; target = Ref n; verb = verb; args = args; answer = None }))))
    unfolding and_then numbered_at numbered
    learnt_near from id asks verb a b s (Gives args t) e h k c = let f = k.kept e in after_trans v x a (one (answer_of v id) x) s t h _ (looked_near from id asks verb args t (omega arith))
    learnt_near from id asks verb a b s (Throws p t) e h k c = after_more v x {A = Unit {0}} a (a + one (answer_of v id) x) s (omega arith) (Throws p t) h
    learnt_near from id asks verb a b s (Ejects n y t) e h k c = after_more v x {A = Unit {0}} a (a + one (answer_of v id) x) s (omega arith) (Ejects n y t) h
    learnt_near from id asks verb a b s (Stops z t) e h k c = after_more v x {A = Unit {0}} a (a + one (answer_of v id) x) s (omega arith) (Stops z t) h

    sent_near : (from : ℕ) (id : Name) (asks : Bool) (verb : Words) (ys : Passeds (Incoming Name Name)) (s : Vat Name) → s.number ≡ v → claims v It s.known + (one (answer_of v id) It + new_in_all It ys) ≤ 0
        → After (Knowing v x (one (answer_of v id) x + new_in_all x ys)) s ((arrive.learn_all K from ys >>= (λ args. arrive.learn_name K (Old It) >>= (λ n. if asks then arrive.send_on_asked K from id n verb args else send_on K (settle K) (record { id = id; target = Ref n; verb = verb; args = args; answer = None })))) s)
    unfolding ◌>>=◌
    sent_near from id asks verb ys s e c = after_more v x (new_in_all x ys + one (answer_of v id) x) (one (answer_of v id) x + new_in_all x ys) s (omega arith) _
        (learnt_near from id asks verb (new_in_all x ys) (new_in_all It ys) s (arrive.learn_all K from ys s) e ((costs_learn_all v x word from ys).after s) ((costs_learn_all v It word from ys).after s) c)

    pub deliver_near : (from : ℕ) (m : Incoming Name Name) (asks : Bool) (answer : Option (Incoming Name Name)) (verb : Words) (ys : Passeds (Incoming Name Name)) (s : Vat Name) → s.number ≡ v → claims v It s.known + (answer_here v It m + new_in_all It ys) ≤ 0
        → After (Knowing v x (answer_here v x m + new_in_all x ys)) s (arrive.arrive_deliver K from (record { message = m; asks = asks; answer = answer }) (Old It) verb ys s)
    unfolding arrive.arrive_deliver arrive.learn_message ◌>>=◌ and_then give mail naming mail_of answer_here
    deliver_near from (Old m) asks answer verb ys s e c = sent_near from m asks verb ys s e c
    deliver_near from (New m h) asks answer verb ys s e c = after_more v x (0 + (one (answer_of v m) x + new_in_all x ys)) (one (answer_of v m) x + new_in_all x ys) s (omega arith) _
        (after_trans v x 0 (one (answer_of v m) x + new_in_all x ys) s _ ((free_mail v x K (IsCarried m)).after s) _ (sent_near from m asks verb ys (record s { mails = s.mails ++ m ∷ [] }) e c))

module _ (v : ℕ) (word : ℕ → ℕ) (x : Name) where
  own_where : (b : Bool) (w i : ℕ) (from : ℕ) (m : Delivery (Incoming Name Name)) (verb : Words) (ys : Passeds (Incoming Name Name)) (s : Vat Name) (d : List ℕ) → (v == w) ≡ b → s.number ≡ v
      → (claims v (Object w i) s.known + elim b [ true ↦ answer_here v (Object w i) m.message + new_in_all (Object w i) ys | false ↦ brings v (Object w i) from s.gifts (Deliver m (Old (Object w i)) verb ys) ] ≤ 0)
      → After (Knowing v x (elim b [ true ↦ answer_here v x m.message + new_in_all x ys | false ↦ brings v x from s.gifts (Deliver m (Old (Object w i)) verb ys) ])) s (arrive.arrive (naming word v) from (Deliver m (Old (Object w i)) verb ys) s)
  unfolding arrive.arrive
  own_where true w i from m verb ys s d f e c = let g : v ≡ w = eqb-true v w f in rw (sym g) (deliver_near v word i x from m.message m.asks m.answer verb ys s e (rw (sym g) at c))
  own_where false w i from m verb ys s d f e c = arrive_after v x word from (Deliver m (Old (Object w i)) verb ys) s

  deliver_after : (from : ℕ) (m : Delivery (Incoming Name Name)) (z : Incoming Name Name) (verb : Words) (ys : Passeds (Incoming Name Name)) (s : Vat Name) (d : List ℕ) → s.number ≡ v
      → ((y : Name) → claims v y s.known + brings_here v y from s.gifts (Deliver m z verb ys) ≤ allowed v y s d) → After (Knowing v x (brings_here v x from s.gifts (Deliver m z verb ys))) s (arrive.arrive (naming word v) from (Deliver m z verb ys) s)
  unfolding brings_here is_own is_own_name allowed other numbered
  deliver_after from m (New n h) verb ys s d e c = arrive_after v x word from (Deliver m (New n h) verb ys) s
  deliver_after from m (Old (Object w i)) verb ys s d e c = own_where (v == w) w i from m verb ys s d refl e (c (Object w i))
  deliver_after from m (Old (Root w)) verb ys s d e c = arrive_after v x word from (Deliver m (Old (Root w)) verb ys) s
  deliver_after from m (Old (Promise w i)) verb ys s d e c = arrive_after v x word from (Deliver m (Old (Promise w i)) verb ys) s
  deliver_after from m (Old (Answer w a)) verb ys s d e c = arrive_after v x word from (Deliver m (Old (Answer w a)) verb ys) s
  deliver_after from m (Old (Gift w i)) verb ys s d e c = arrive_after v x word from (Deliver m (Old (Gift w i)) verb ys) s
  deliver_after from m (Old (Sent a)) verb ys s d e c = arrive_after v x word from (Deliver m (Old (Sent a)) verb ys) s

  -- a note that brings what is new
  pub news_after : (from : ℕ) (n : Note (Incoming Name Name)) (s : Vat Name) → s.number ≡ v → ((y : Name) → claims v y s.known + brings_here v y from s.gifts n ≤ allowed v y s s.drawn)
      → After (Knowing v x (brings_here v x from s.gifts n)) s (arrive.arrive (naming word v) from n s)
  unfolding brings_here
  news_after from (Deliver m z verb ys) s e c = deliver_after from m z verb ys s s.drawn e c
  news_after from (Open i z) s e c = arrive_after v x word from (Open i z) s
  news_after from (Ask p i z) s e c = arrive_after v x word from (Ask p i z) s
  news_after from (SettledTo z y) s e c = arrive_after v x word from (SettledTo z y) s
  news_after from (Elsewhere z c1) s e c = arrive_after v x word from (Elsewhere z c1) s
  news_after from (Shorten z c1 i) s e c = arrive_after v x word from (Shorten z c1 i) s
