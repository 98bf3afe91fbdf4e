-- All that a vat does with references from a state in which no list leads back to itself ends in such a state.
use Rattle.std.proofs.Common.{◌≡◌, ℕ, zero, suc, ◌-◌, Bool, true, false, List, [], ◌∷◌, ◌++◌, Option, Some, None, refl, sym, ap, subst, ◌∙◌, ◌⊎◌, inl, inr, if◌then◌else◌, length, codes, ◌==◌}
use Rattle.std.specs.Prelude.{nat_le}
use Rattle.def_machine.specs.Values.{Words, Value, Null, Flag, Number, Letter, Text, Prim, Broken, Items, Ref, Name, Object, Gift, Sent, Naming, Spot, Own, Foreign, NoObject, naming, host_of, spot_of, name_of, answer_of, mail_of, IsAnswer, IsSent, IsOwn as IsOwnPromise, key}
use Rattle.def_machine.specs.State.{Message, Passed, Plain, AGift, Many, Deliver, Open, SettledTo, Elsewhere, Standing, Unsettled, WaitsOn, Viewed, Settled, Known, Hold, React, ToTell, Settle, Settles, Sends, Reacts, Lost, Vat, Done, Throws, Stops, Act, ◌>>=◌, ◌>>◌, and_then, each, give, stop, look, tell, alter, come, draw, draws, drawn_at, spend, spent, send_out, enqueue, new_message, new_promise, with_change, changed_to, begun, is_in, for_some, WhereSome, new_lone_message}
use Rattle.def_machine.specs.Refs as refs
use Rattle.def_machine.specs.Refs.{Place, Near, Mine, Away, Gone, entry_of, standing_of, host_at, led, follow_at, follow, severed, severed_at, severed_by, place, spotted, hosted, target_of, waits_lead}
use Rattle.law_machine.proofs.Machine.BreakLaws.{nothing_of}
use Rattle.def_machine.proofs.Keys.{word_key}
use Rattle.law_fate.specs.Name.Names.{AllOf, IsAmong, IsMessageName, IsEventual}
use Rattle.law_fate.proofs.Name.Among.{key_not_drawn}
use Rattle.law_frozen.specs.Frozen.{IsThere, KnownThere, PlainPasses}
use Rattle.law_frozen.proofs.Fine.{Keeper, MayBe, Fact, Nothing, Also, IsValue, AreValues, IsMessage, AreMessages, DoesPass, nothing, resolvable, bind_passed, Holds as Knows, Gets, Ends, Fine, grows_same, widen, got, got_left, got_itself, got_ref, got_broken, fine_then, fine_give, fine_tell, fine_each, got_nothing, got_null}
use Rattle.law_frozen.proofs.Looks.{follow_there, entry_there, target_there}
use Rattle.law_frozen.proofs.FineRefs.{Tells, fine_pass, fine_deliver}
use Rattle.law_frozen.proofs.Serves.{Serves, Closing}
use Rattle.law_reference.specs.Reference.ListRingless.{IsOwn, IsOwnName, IsAnswerName, IsObjectName, IsView, NoPromise, HoldsOwn, Ringless, PassesSo}
use Rattle.law_reference.proofs.Reference.Following.{standing_found, plain_stays, waits_stays, severed_list}
use Rattle.law_reference.proofs.Reference.ViewSettles.{list_or}
use Rattle.law_reference.proofs.Reference.Kept.{heeds, heeds_spared, Mark, With, K, is, Fair, keeper, open_changed}
use Rattle.law_reference.proofs.Reference.Changes.{Holds, ListIf, ByView, own_unviewed, answer_eventual, fair_hold, fair_react, fair_tell, fair_settle, changed_holds, altered, begun_holds, queued, put_holds, puts, drawn_holds, wait_ends, found_held, end_at, target_ref, target_list, settle_behind}
use Rattle.law_reference.proofs.Reference.Entries.{changed_at}

not_true : (b : Bool) → (b ≡ true → ⊥) → b ≡ false
not_true true f = absurd (f refl)
not_true false f = refl

broken_list : (t : Words) (c : ℕ) → ◌≡◌ {A = Value Name} (Broken t) (Items c) → ⊥
broken_list t c e = cc

broken_name : (t : Words) (n : Name) → Broken t ≡ Ref n → ⊥
broken_name t n e = cc

ref_same : (m n : Name) → Ref m ≡ Ref n → m ≡ n
ref_same m n e = cc

ref_list : (n : Name) (c : ℕ) → Ref n ≡ Items c → ⊥
ref_list n c e = cc

module _ (word : ℕ → ℕ) (v : ℕ) (heed : Bool) (D : ℕ → Type 0) (Seen : Name → Type 0) where
  abbrev N : Naming Name Name
  N = K word v

  abbrev M : List Mark → Keeper N
  M ls = keeper word v heed D Seen ls

  -- what is done so is kept
  abbrev pub Does : List Mark → Fact Name → {A : Type 0} → Act Name A → (A → Fact Name) → Type 0
  Does ls C m G = Fine N (M ls) C m G

  abbrev At : List Mark → {A : Type 0} → (A → Fact Name) → Vat Name → Done Name A → Type 0
  At ls G s d = Ends N (M ls) G s d

  abbrev Kept : List Mark → Vat Name → Type 0
  Kept ls s = Holds word v heed D Seen ls s

  -- ---- what passes

  -- no view is under a new word
  next_apart : (ls : List Mark) (s : Vat Name) (w : ℕ) → drawn_at zero w s.drawn ≡ None → Kept ls s → D (key s.number w) → ⊥
  next_apart ls s w e h d = h.2.0 (key s.number w) (key_not_drawn s.drawn w (key s.number w) e (word_key s.number w)) d

  gives_gift : (ls : List Mark) (s : Vat Name) (h : ℕ) (n : Name) (w : ℕ) (o : Option ℕ) → drawn_at zero w s.drawn ≡ o → Kept ls s → At ls DoesPass s (and_then (draws w o s) (λ i. send_out h (Open i n) >> give (AGift h i)))
  unfolding draws and_then ◌>>◌ send_out give
  gives_gift ls s h n w (Some j) e k = (grows_same s.things s.lists, k)
  gives_gift ls s h n w None e k = let t : Vat Name = record s { drawn = s.drawn ++ w ∷ [] } in let i : ℕ = key s.number w in
      (grows_same s.things s.lists, put_holds word v heed D Seen ls t h (Open i n) tt (inr (next_apart ls s w e k)) (drawn_holds word v heed D Seen ls s w k), tt)

  away_ends : (ls : List Mark) (C : Fact Name) (w h : ℕ) (y : Value Name) (n : Name) (b : Bool) → Gets N C (DoesPass (Plain y)) → Does ls C (if b then give (Plain y) else (draw N >>= (λ i. send_out h (Open i n) >> give (AGift h i)))) DoesPass
  unfolding ◌>>=◌ draw
  away_ends ls C w h y n true g = fine_give N (M ls) {C = C} (Plain y) g
  away_ends ls C w h y n false g = record { after = λ s k c. gives_gift ls s h n (N.word (length s.drawn)) (drawn_at zero (N.word (length s.drawn)) s.drawn) refl k }

  aways : (ls : List Mark) (C : Fact Name) (w : ℕ) (y : Value Name) → Gets N C (DoesPass (Plain y)) → (h : ℕ) (n : Name) (o : Bool) → Does ls C (refs.address_plain N w y (Away h n o)) DoesPass
  unfolding refs.address_plain
  aways ls C w y g h n o = away_ends ls C w h y n (h == w) g

  pub tells : (ls : List Mark) → Tells N (M ls)
  tells ls = record {
    tells = λ C w n. record { after = λ s h c. altered word v heed D Seen ls s (ToTell w) n h (fair_tell word v heed D Seen s w n h.1) tt };
    aways = λ C w y g h n o. aways ls C w y g h n o;
    delivers = λ C to m n verb ys g. record { after = λ s h c. puts word v heed D Seen ls s to (Deliver m n verb ys) (g.at s.things s.lists c) tt h };
  }

  -- ---- a message that is sent on

  pub answer_view : (n : Name) → IsAnswerName n → IsView D n → ⊥
  answer_view (Gift h j) a i = absurd a
  answer_view other a i = i

  -- the answer of a message that the vat is to answer
  own_answer : (a : Name) → (host_of a ≡ v) × IsAnswerName a → IsOwnName N v D a
  own_answer a own = (own.0, λ i. answer_view a own.1 i)

  wait_own : (ls : List Mark) (C : Fact Name) (p q : Name) → IsOwnName N v D p → Does ls C (refs.wait_on N p q) nothing
  wait_own ls C p q own = record { after = λ s h c. wait_ends word v heed D Seen ls s p q h own }

  made_answer : (h k : ℕ) (i : Name) → IsMessageName i → IsEventual (N.made (IsAnswer h i) k)
  unfolding naming name_of
  made_answer h k i g = answer_eventual h i g

  pass_by : (ls : List Mark) (C : Fact Name) (m : Message Name) (h : ℕ) (n : Name) (o : Option Name) → IsMessageName m.id → WhereSome (λ a. (host_of a ≡ v) × IsAnswerName a) o → Gets N C (IsMessage m) → (s : Vat Name) → Kept ls s → Knows N s.things s.lists C → is_in h (heeds word v heed D Seen s) ≡ false
      → At ls nothing s (for_some o (λ p. come N (IsAnswer h m.id) h >>= (λ a. refs.deliver N (record m { answer = Some a }) h n >> refs.wait_on N p a)) (refs.deliver N m h n) s)
  unfolding for_some ◌>>=◌ come and_then
  pass_by ls C m h n (Some p) mail own g s i c spared = let a : Name = N.made (IsAnswer h m.id) (length s.known) in let t : Vat Name = record s { known = s.known ++ begun a h ∷ [] } in
      widen N (M ls) nothing s t _ (grows_same s.things s.lists) ((fine_then N (M ls) {C = C} nothing (fine_deliver N (M ls) (tells ls) {C = C} (record m { answer = Some a }) (record { at = g.at }) h n) (wait_own ls C p a (own_answer p own))).after t (begun_holds word v heed D Seen ls s a h i spared (made_answer h (length s.known) m.id mail)) c)
  pass_by ls C m h n None mail own g s i c spared = (fine_deliver N (M ls) (tells ls) {C = C} m g h n).after s i c

  pass_ends : (ls : List Mark) (C : Fact Name) (m : Message Name) (h : ℕ) (n : Name) → IsOwn v m → Gets N C (IsMessage m) → (s : Vat Name) → Kept ls s → Knows N s.things s.lists C → is_in h (heeds word v heed D Seen s) ≡ false → At ls nothing s (refs.pass_on N m h n s)
  unfolding refs.pass_on
  pass_ends ls C m h n own g s i c spared = pass_by ls C m h n m.answer own.0 own.1 g s i c spared

  -- a name settles to that, under what is asked of it
  abbrev pub Settler : Type 0
  Settler = Name → Value Name → Act Name (Unit {0})

  abbrev pub Good : List Mark → Settler → Type 0
  Good ls settle = (C : Fact Name) (p : Name) (x : Value Name) → Gets N C (IsValue x) → NoPromise x → ListIf word v heed D Seen x → (s : Vat Name) → Kept ls s → Knows N s.things s.lists C → ByView word v heed D Seen s p x → At ls nothing s (settle p x s)

  breaks : (ls : List Mark) (settle : Settler) → Good ls settle → (C : Fact Name) (p : Name) (t : Words) → Does ls C (settle p (Broken t)) nothing
  breaks ls settle good C p t = record { after = λ s h c. good C p (Broken t) (got_broken N C t) (λ n e i. broken_name t n e) (λ k e. absurd (broken_list t k e)) s h c (λ k e. absurd (broken_list t k e)) }

  breaks_some : (ls : List Mark) (settle : Settler) → Good ls settle → (C : Fact Name) (o : Option Name) (t : Words) → Does ls C (for_some o (λ a. settle a (Broken t)) (give tt)) nothing
  unfolding for_some
  breaks_some ls settle good C (Some p) t = breaks ls settle good C p t
  breaks_some ls settle good C None t = fine_give N (M ls) {C = C} tt (got_nothing N C)

  away_spared : (s : Vat Name) (x : Value Name) (h : ℕ) (n : Name) (o : Bool) → place N s (follow N s x) ≡ Away h n o → is_in h (heeds word v heed D Seen s) ≡ false
  away_spared s x h n o e = heeds_spared word v heed D Seen s h (not_true (is_in h s.noticed) (λ i. nothing_of N s h i x n o e))

  with_target : (C : Fact Name) (m : Message Name) (y : Value Name) → Gets N C (IsMessage m) → Gets N C (IsValue y) → Gets N C (IsMessage (record m { target = y }))
  with_target C m y g i = record { at = λ ts ls h. (i.at ts ls h, (g.at ts ls h).1) }

  sent_at : (ls : List Mark) (settle : Settler) → Good ls settle → (C : Fact Name) (m : Message Name) (y : Value Name) (p : Place Name) → IsOwn v m → Gets N C (IsMessage m) → Gets N C (IsValue y) → (s : Vat Name) → Kept ls s → Knows N s.things s.lists C
      → ((h : ℕ) (n : Name) (o : Bool) → p ≡ Away h n o → is_in h (heeds word v heed D Seen s) ≡ false) → At ls nothing s (refs.send_to N settle m y p s)
  unfolding refs.send_to
  sent_at ls settle good C m y Near own g i s h c f = queued word v heed D Seen ls s (record m { target = y }) own ((with_target C m y g i).at s.things s.lists c) h
  sent_at ls settle good C m y (Mine n) own g i s h c f = altered word v heed D Seen ls s (Hold (record m { target = y })) n h (fair_hold word v heed D Seen s (record m { target = y }) n h.1 own) ((with_target C m y g i).at s.things s.lists c)
  sent_at ls settle good C m y (Away w n o) own g i s h c f = pass_ends ls C m w n own g s h c (f w n o refl)
  sent_at ls settle good C m y (Gone t) own g i s h c f = (fine_then N (M ls) {C = C} nothing (fine_tell N (M ls) {C = C} (Lost m.id)) (breaks_some ls settle good C m.answer t)).after s h c

  pub sends_on : (ls : List Mark) (settle : Settler) → Good ls settle → (C : Fact Name) (m : Message Name) → IsOwn v m → Gets N C (IsMessage m) → Does ls C (refs.send_on N settle m) nothing
  unfolding refs.send_on ◌>>=◌ look and_then
  sends_on ls settle good C m own g = record {
    after = λ s h c. let y : Value Name = follow N s m.target in
        sent_at ls settle good (Also C (IsValue y)) m y (place N s y) own (got_left N C (IsValue y) (IsMessage m) g) (got N C (IsValue y)) s h (c, follow_there N s h.0 m.target (g.at s.things s.lists c).0) (λ w n o e. away_spared s m.target w n o e);
  }

  -- ---- a settling

  own_each : (ls : List Mark) (C : Fact Name) (f : Message Name → Act Name (Unit {0})) (ms : List (Message Name)) → AllOf (IsOwn v) ms → Gets N C (AreMessages ms) → ((m : Message Name) → IsOwn v m → Gets N C (IsMessage m) → Does ls C (f m) nothing) → Does ls C (each f ms) nothing
  unfolding each
  own_each ls C f [] own g i = fine_give N (M ls) tt (record { at = λ ts js h. tt })
  own_each ls C f (m ∷ ms) own g i = fine_then N (M ls) {C = C} nothing (i m own.0 (record { at = λ ts js h. (g.at ts js h).0 })) (own_each ls C f ms own.1 (record { at = λ ts js h. (g.at ts js h).1 }) i)

  each_among : (ls : List Mark) (C : Fact Name) (f : Name → Act Name (Unit {0})) (ns : List Name) → ((n : Name) → IsAmong n ns → Does ls C (f n) nothing) → Does ls C (each f ns) nothing
  unfolding each
  each_among ls C f [] i = fine_give N (M ls) tt (record { at = λ ts js h. tt })
  each_among ls C f (n ∷ ns) i = fine_then N (M ls) {C = C} nothing (i n (inl refl)) (each_among ls C f ns (λ m a. i m (inr a)))

  pub drop : {A : Type 0} (l : Mark) (ls : List Mark) (G : A → Fact Name) (s : Vat Name) (d : Done Name A) → At (l ∷ ls) G s d → At ls G s d
  drop l ls G s (Throws p t) h = (h.0, (h.1.0, h.1.1, h.1.2, h.1.3.1))
  drop l ls G s (Stops c t) h = (h.0, (h.1.0, h.1.1, h.1.2, h.1.3.1))
  drop l ls G s other h = (h.0, (h.1.0, h.1.1, h.1.2, h.1.3.1), h.2)

  -- ---- what a name settled to is told

  -- what is no promise is followed to itself, where nothing is cut off
  ends_stay : (s : Vat Name) (d : ℕ) (y : Value Name) → Ringless N v D Seen (heeds word v heed D Seen s) s → NoPromise y → follow_at N d s.known y ≡ y
  ends_stay s d (Ref o) h not = waits_stays N d s.known o (end_at word v heed D Seen s o (entry_of N s.known o) h (λ i. not o refl i) refl)
  ends_stay s d Null h not = plain_stays N d s.known Null tt
  ends_stay s d (Flag b) h not = plain_stays N d s.known (Flag b) tt
  ends_stay s d (Number z) h not = plain_stays N d s.known (Number z) tt
  ends_stay s d (Letter c) h not = plain_stays N d s.known (Letter c) tt
  ends_stay s d (Text t) h not = plain_stays N d s.known (Text t) tt
  ends_stay s d (Prim n) h not = plain_stays N d s.known (Prim n) tt
  ends_stay s d (Broken t) h not = plain_stays N d s.known (Broken t) tt
  ends_stay s d (Items k) h not = plain_stays N d s.known (Items k) tt

  end_followed : (s : Vat Name) (y : Value Name) → Ringless N v D Seen (heeds word v heed D Seen s) s → NoPromise y → follow N s y ≡ severed N s y
  unfolding follow
  end_followed s y h not = ap (severed N s) (ends_stay s (suc (length s.known)) y h not)

  settled_followed : (s : Vat Name) (p : Name) (y : Value Name) → Ringless N v D Seen (heeds word v heed D Seen s) s → NoPromise y → standing_of N s.known p ≡ Settled y → follow N s (Ref p) ≡ severed N s y
  unfolding follow follow_at led
  settled_followed s p y h not e = ap (severed N s) (ap (λ t. led N (λ z. follow_at N (length s.known) s.known z) p t) e ∙ ends_stay s (length s.known) y h not)

  broken_or : (b : Bool) (t : Words) (n m : Name) → ◌≡◌ {A = Value Name} (elim b [ true ↦ Broken t | false ↦ Ref n ]) (Ref m) → n ≡ m
  broken_or true t n m e = cc
  broken_or false t n m e = cc

  severed_by_name : (s : Vat Name) (h : ℕ) (n m : Name) → severed_by N h s n ≡ Ref m → n ≡ m
  unfolding severed_by
  severed_by_name s h n m e = broken_or (is_in h s.noticed) _ n m e

  spot_name : (s : Vat Name) (n m : Name) (t : Spot) → severed_at N s n t ≡ Ref m → n ≡ m
  unfolding severed_at
  spot_name s n m (Own i) e = cc
  spot_name s n m (Foreign h) e = severed_by_name s h n m e
  spot_name s n m NoObject e = severed_by_name s (host_at N s.number s.known n) n m e

  -- what is cut off is no name
  severed_name : (s : Vat Name) (y : Value Name) (m : Name) → severed N s y ≡ Ref m → y ≡ Ref m
  unfolding severed
  severed_name s (Ref n) m e = ap (λ x. Ref x) (spot_name s n m (N.spot n) e)
  severed_name s other m e = e

  placed_name : (s : Vat Name) (y : Value Name) (h : ℕ) (n : Name) (o : Bool) → place N s y ≡ Away h n o → (m : Name) × (y ≡ Ref m)
  unfolding place
  placed_name s (Ref m) h n o e = (m, refl)
  placed_name s other h n o e = cc

  -- no list, as it is followed
  no_list_followed : (s : Vat Name) (y : Value Name) → Ringless N v D Seen (heeds word v heed D Seen s) s → NoPromise y → ((c : ℕ) → y ≡ Items c → ⊥) → (c : ℕ) → follow N s y ≡ Items c → ⊥
  no_list_followed s y h not plain c e = plain c (severed_list N s y c (sym (end_followed s y h not) ∙ e))

  -- a value that is no list passes as it is, or as a gift
  abbrev Told : Name → ℕ → Passed Name → Act Name (Unit {0})
  Told p w z = send_out w (SettledTo p z)

  tells_plain : (ls : List Mark) (C : Fact Name) (p : Name) (w : ℕ) (y : Value Name) → Gets N C (DoesPass (Plain y)) → Does ls C (Told p w (Plain y)) nothing
  tells_plain ls C p w y g = record { after = λ s h c. puts word v heed D Seen ls s w (SettledTo p (Plain y)) (g.at s.things s.lists c) tt h }

  told_gift : (ls : List Mark) (s : Vat Name) (p : Name) (w h : ℕ) (n : Name) (x : ℕ) (o : Option ℕ) → drawn_at zero x s.drawn ≡ o → Kept ls s → At ls nothing s (and_then (and_then (draws x o s) (λ i. send_out h (Open i n) >> give (AGift h i))) (Told p w))
  unfolding draws and_then ◌>>◌ send_out give
  told_gift ls s p w h n x (Some j) e k = (grows_same s.things s.lists, k)
  told_gift ls s p w h n x None e k = let t : Vat Name = record s { drawn = s.drawn ++ x ∷ [] } in let i : ℕ = key s.number x in let u : Vat Name = record t { outbox = t.outbox ++ record { to = h; note = Open i n } ∷ [] } in
      (grows_same s.things s.lists, put_holds word v heed D Seen ls u w (SettledTo p (AGift h i)) tt tt (put_holds word v heed D Seen ls t h (Open i n) tt (inr (next_apart ls s x e k)) (drawn_holds word v heed D Seen ls s x k)), tt)

  told_away : (ls : List Mark) (C : Fact Name) (p : Name) (w h : ℕ) (y : Value Name) (n : Name) (b : Bool) → Gets N C (DoesPass (Plain y)) → Does ls C ((if b then give (Plain y) else (draw N >>= (λ i. send_out h (Open i n) >> give (AGift h i)))) >>= Told p w) nothing
  unfolding ◌>>=◌ draw give and_then
  told_away ls C p w h y n true g = record { after = λ s k c. (tells_plain ls C p w y g).after s k c }
  told_away ls C p w h y n false g = record { after = λ s k c. told_gift ls s p w h n (N.word (length s.drawn)) (drawn_at zero (N.word (length s.drawn)) s.drawn) refl k }

  told_mine : (ls : List Mark) (C : Fact Name) (p : Name) (w : ℕ) (y : Value Name) (n : Name) → Gets N C (DoesPass (Plain y)) → Does ls C ((alter N (ToTell w) n >> give (Plain y)) >>= Told p w) nothing
  unfolding ◌>>=◌ ◌>>◌ alter give and_then
  told_mine ls C p w y n g = record {
    after = λ s h c. let t : Vat Name = record s { known = with_change N (ToTell w) n s.known } in
        widen N (M ls) nothing s t _ (grows_same s.things s.lists) ((tells_plain ls C p w y g).after t (changed_holds word v heed D Seen ls s (ToTell w) n h (fair_tell word v heed D Seen s w n h.1) tt) c);
  }

  told_here : (ls : List Mark) (C : Fact Name) (p : Name) (w : ℕ) (y : Value Name) → Gets N C (DoesPass (Plain y)) → Does ls C (give (Plain y) >>= Told p w) nothing
  unfolding ◌>>=◌ give and_then
  told_here ls C p w y g = record { after = λ s h c. (tells_plain ls C p w y g).after s h c }

  told_placed : (ls : List Mark) (C : Fact Name) (p : Name) (w : ℕ) (y : Value Name) (q : Place Name) → Gets N C (DoesPass (Plain y)) → Does ls C (refs.address_plain N w y q >>= Told p w) nothing
  unfolding refs.address_plain
  told_placed ls C p w y (Away h n o) g = told_away ls C p w h y n (h == w) g
  told_placed ls C p w y (Mine n) g = told_mine ls C p w y n g
  told_placed ls C p w y other g = told_here ls C p w y g

  plain_parcel : (s : Vat Name) (y : Value Name) → ((c : ℕ) → y ≡ Items c → ⊥) → refs.parcel_at N s y ≡ record { weight = refs.own_weight y; value = Plain y }
  unfolding refs.parcel_at
  plain_parcel s (Items k) not = absurd (not k refl)
  plain_parcel s other not = refl

  plain_passes : (y : Value Name) → ((c : ℕ) → y ≡ Items c → ⊥) → PlainPasses y
  plain_passes (Items k) not = not k refl
  plain_passes other not = tt

  spent_told : (ls : List Mark) (p : Name) (w n : ℕ) (b : Bool) (y : Value Name) → PlainPasses y → (s : Vat Name) → Kept ls s → At ls nothing s (and_then (and_then (spent n b s) (λ u. refs.address N w (Plain y))) (Told p w))
  unfolding spent and_then refs.address ◌>>=◌ look
  spent_told ls p w n true y passes s h = let t : Vat Name = record s { fuel = s.fuel - n } in
      widen N (M ls) nothing s t _ (grows_same s.things s.lists) ((told_placed ls Nothing p w y (place N t y) (record { at = λ ts js c. passes })).after t ((M ls).quiet s t (refl, refl, refl, inl refl, refl, refl, refl, refl) h h.0) tt)
  spent_told ls p w n false y passes s h = (grows_same s.things s.lists, h)

  parcel_told : (ls : List Mark) (p : Name) (w : ℕ) (x : refs.Parcel Name) (y : Value Name) → x ≡ record { weight = refs.own_weight y; value = Plain y } → PlainPasses y → (s : Vat Name) → Kept ls s
      → At ls nothing s (and_then (and_then (spend x.weight s) (λ u. refs.address N w x.value)) (Told p w))
  unfolding spend
  parcel_told ls p w x y e passes s h = subst (λ (z : refs.Parcel Name). At ls nothing s (and_then (and_then (spend z.weight s) (λ u. refs.address N w z.value)) (Told p w))) (sym e) (spent_told ls p w (refs.own_weight y) (nat_le (refs.own_weight y) s.fuel) y passes s h)

  tells_no_list : (ls : List Mark) (p : Name) (w : ℕ) (x : Value Name) (s : Vat Name) → ((c : ℕ) → follow N s x ≡ Items c → ⊥) → Kept ls s → At ls nothing s ((refs.pass N w x >>= Told p w) s)
  unfolding refs.pass refs.parcel ◌>>=◌ ◌>>◌ look and_then
  tells_no_list ls p w x s not h = let y : Value Name = follow N s x in parcel_told ls p w (refs.parcel_at N s y) y (plain_parcel s y not) (plain_passes y not) s h

  list_told : (t : Standing Name) (c : ℕ) (z : Passed Name) → t ≡ Settled (Items c) → PassesSo N D t z
  list_told t c (Many ys) e = (c, e)
  list_told t c other e = tt

  tells_list : (ls : List Mark) (C : Fact Name) (p : Name) (w c : ℕ) (x : Value Name) → Gets N C (IsValue x) → Does (With p (Items c) ∷ ls) C (refs.pass N w x >>= Told p w) nothing
  tells_list ls C p w c x g = let js : List Mark = With p (Items c) ∷ ls in
      bind_passed N (M js) {C = C} {H = nothing} (fine_pass N (M js) (tells js) {C = C} w x g) (λ z. record { after = λ s h e. puts word v heed D Seen js s w (SettledTo p z) e.1 (list_told (standing_of N s.known p) c z h.3.0) h })

  with_settled : (ls : List Mark) (p : Name) (y : Value Name) (s : Vat Name) → standing_of N s.known p ≡ Settled y → Kept ls s → Kept (With p y ∷ ls) s
  with_settled ls p y s e h = (h.0, h.1, h.2, (e, h.3))

  module _ (ls : List Mark) (p : Name) (w : ℕ) (y : Value Name) (s : Vat Name) (settled : standing_of N s.known p ≡ Settled y) (not : NoPromise y) (h : Kept ls s) where
    abbrev z : Value Name
    z = follow N s (Ref p)

    came : z ≡ severed N s y
    came = settled_followed s p y h.1 not settled

    elsewhere : (g : ℕ) (n : Name) → place N s z ≡ Away g n true → (o : Name) × (standing_of N s.known p ≡ Settled (Ref o))
    elsewhere g n j = let m = placed_name s z g n true j in (m.0, settled ∙ ap (λ x. Settled x) (severed_name s y m.0 (sym came ∙ m.1)))

    not_here : ((c : ℕ) → y ≡ Items c → ⊥) → (c : ℕ) → follow N s z ≡ Items c → ⊥
    not_here f c j = no_list_followed s z h.1 (λ n k. not n (severed_name s y n (sym came ∙ k))) (λ d k. f d (severed_list N s y d (sym came ∙ k))) c j

    no_list : ((c : ℕ) → y ≡ Items c → ⊥) → (q : Place Name) → place N s z ≡ q → At ls nothing s (refs.inform_of N p w z q s)
    unfolding refs.inform_of
    no_list f (Away g n true) j = puts word v heed D Seen ls s w (Elsewhere p g) tt (elsewhere g n j) h
    no_list f other j = tells_no_list ls p w z s (not_here f) h

    listed : (c : ℕ) → y ≡ Items c → At ls nothing s ((refs.pass N w z >>= Told p w) s)
    listed c f = drop (With p (Items c)) ls nothing s _ ((tells_list ls (IsValue z) p w c z (got_itself N (IsValue z))).after s (with_settled ls p (Items c) s (settled ∙ ap (λ x. Settled x) f) h) (follow_there N s h.0 (Ref p) tt))

    as_list : (c : ℕ) → y ≡ Items c → (q : Place Name) → place N s z ≡ q → At ls nothing s (refs.inform_of N p w z q s)
    unfolding refs.inform_of
    as_list c f (Away g n true) j = puts word v heed D Seen ls s w (Elsewhere p g) tt (elsewhere g n j) h
    as_list c f other j = listed c f

    informs_if : (b : Bool) → At ls nothing s ((if b then give tt else refs.inform_of N p w z (place N s z)) s)
    unfolding give
    informs_if true = (grows_same s.things s.lists, h, tt)
    informs_if false = list_or N (is word v) y (λ c f. as_list c f (place N s z) refl) (λ f. no_list f (place N s z) refl)

    -- a vat is told of a name that settled
    pub informs : At ls nothing s (refs.inform N p w s)
    unfolding refs.inform ◌>>=◌ look and_then
    informs = informs_if (is_in w s.noticed)

  -- ---- a name that settles

  new_settled : (s : Vat Name) (p : Name) (y : Value Name) (k : Known Name) → entry_of N s.known p ≡ Some k → ((z : Value Name) → k.standing ≡ Settled z → ⊥) → standing_of N (with_change N (Settle y) p s.known) p ≡ Settled y
  unfolding changed_to
  new_settled s p y k e unsettled = standing_found N (with_change N (Settle y) p s.known) p _ (changed_at N (Settle y) p s.known k e) ∙ ap (λ (x : Known Name). x.standing) (open_changed (Settle y) k unsettled)

  abbrev Known3 : Value Name → Known Name → Fact Name
  Known3 y k = Also (IsValue y) (Also (AreMessages k.held) (AreMessages k.reactions))

  -- what waits on a name that settles to a list is the vat's own, and no view
  abbrev WaitsSo : Value Name → List Name → Type 0
  WaitsSo y ns = (c : ℕ) → y ≡ Items c → (q : Name) → IsAmong q ns → IsOwnName N v D q

  -- what follows once it settled
  rest_of : (ls : List Mark) (settle : Settler) (p : Name) (y : Value Name) (k : Known Name) → Good (With p y ∷ ls) settle → HoldsOwn v k → WaitsSo y k.waiting → NoPromise y → ListIf word v heed D Seen y
      → Does (With p y ∷ ls) (Known3 y k) (each (refs.send_on N settle) k.held >> (each (λ q. settle q y) k.waiting >> (each enqueue k.reactions >> each (refs.inform N p) k.told))) nothing
  rest_of ls settle p y k good own waits not lists = let js : List Mark = With p y ∷ ls in let C : Fact Name = Known3 y k in let here : Gets N C (IsValue y) = record { at = λ ts ms h. h.0 } in
      fine_then N (M js) {C = C} nothing (own_each js C (refs.send_on N settle) k.held own.0 (record { at = λ ts ms h. h.1.0 }) (λ m o g. sends_on js settle good C m o g))
      (fine_then N (M js) {C = C} nothing (each_among js C (λ q. settle q y) k.waiting (λ q a. record { after = λ s h c. good C q y here not lists s h c (λ i e. let o = waits i e q a in (own_unviewed word v heed D Seen js s q h o.0, o.1)) }))
      (fine_then N (M js) {C = C} nothing (own_each js C enqueue k.reactions own.1 (record { at = λ ts ms h. h.1.1 }) (λ m o g. record { after = λ s h c. queued word v heed D Seen js s m o (g.at s.things s.lists c) h }))
      (fine_each N (M js) {C = C} k.told (λ w. record { after = λ s h c. informs js p w y s h.3.0 not h }))))

  known_there : (ls : List Mark) (s : Vat Name) (p : Name) (k : Known Name) → Kept ls s → entry_of N s.known p ≡ Some k → KnownThere s.lists k
  known_there ls s p k h e = subst (λ o. MayBe (KnownThere s.lists) o) e (entry_there N s.lists s.known p h.0.known)

  settle_known : (ls : List Mark) (settle : Settler) → ((js : List Mark) → Good js settle) → (p : Name) (x : Value Name) (k : Known Name) (s : Vat Name) → Kept ls s → IsThere s.lists x → NoPromise x → ListIf word v heed D Seen x → ByView word v heed D Seen s p x → entry_of N s.known p ≡ Some k → ((z : Value Name) → k.standing ≡ Settled z → ⊥)
      → At ls nothing s (refs.settle_known N settle p (target_of N s p x) k s)
  unfolding refs.settle_known ◌>>◌ tell alter and_then
  settle_known ls settle good p x k s h there not lists by e unsettled = let y : Value Name = target_of N s p x in
      let y_not : NoPromise y = (λ n i j. not n (target_ref word v heed D Seen s p x n i) j) in
      let fair : Fair word v heed D Seen s (Settle y) p = fair_settle word v heed D Seen s y p h.1 (settle_behind word v heed D Seen s p x k h.1 e unsettled not lists by) (y_not, λ i f. (by i (target_list word v heed D Seen s p x i f)).1) in
      let y_there : IsThere s.lists y = target_there N s p x there in
      let t : Vat Name = record s { known = with_change N (Settle y) p s.known } in let a : Kept ls t = changed_holds word v heed D Seen ls s (Settle y) p h fair y_there in
      let u : Vat Name = record t { happened = s.happened ++ Settles p y ∷ [] } in let b : Kept ls u = (M ls).quiet t u (refl, refl, refl, inl refl, refl, refl, refl, refl) a a.0 in
      let c : Kept (With p y ∷ ls) u = with_settled ls p y u (new_settled s p y k e unsettled) b in
      let all : KnownThere s.lists k = known_there ls s p k h e in
      widen N (M ls) nothing s u _ (grows_same s.things s.lists) (drop (With p y) ls nothing u _ ((rest_of ls settle p y k (good (With p y ∷ ls)) (found_held word v heed D Seen s p k h.1 e) (λ i f q g. h.1.names.waits q p k e g (by i (target_list word v heed D Seen s p x i f)).1) y_not (λ i f. lists i (target_list word v heed D Seen s p x i f))).after u c (y_there, (all.1, all.2))))

  settle_standing : (ls : List Mark) (settle : Settler) → ((js : List Mark) → Good js settle) → (p : Name) (x : Value Name) (k : Known Name) (t : Standing Name) (s : Vat Name) → Kept ls s → IsThere s.lists x → NoPromise x → ListIf word v heed D Seen x → ByView word v heed D Seen s p x → entry_of N s.known p ≡ Some k → k.standing ≡ t
      → At ls nothing s (refs.settle_standing N settle p (target_of N s p x) k t s)
  unfolding refs.settle_standing give
  settle_standing ls settle good p x k (Settled z) s h there not lists by e i = (grows_same s.things s.lists, h, tt)
  settle_standing ls settle good p x k (Viewed g) s h there not lists by e i = settle_known ls settle good p x k s h there not lists by e (λ z j. view_not g z (sym i ∙ j))
    where
      view_not : (g : Name) (z : Value Name) → Viewed g ≡ Settled z → ⊥
      view_not g z f = cc
  settle_standing ls settle good p x k (WaitsOn q) s h there not lists by e i = settle_known ls settle good p x k s h there not lists by e (λ z j. wait_not q z (sym i ∙ j))
    where
      wait_not : (q : Name) (z : Value Name) → WaitsOn q ≡ Settled z → ⊥
      wait_not q z f = cc
  settle_standing ls settle good p x k Unsettled s h there not lists by e i = settle_known ls settle good p x k s h there not lists by e (λ z j. open_not z (sym i ∙ j))
    where
      open_not : (z : Value Name) → Unsettled ≡ Settled z → ⊥
      open_not z f = cc

  settle_entry : (ls : List Mark) (settle : Settler) → ((js : List Mark) → Good js settle) → (p : Name) (x : Value Name) (o : Option (Known Name)) (s : Vat Name) → Kept ls s → IsThere s.lists x → NoPromise x → ListIf word v heed D Seen x → ByView word v heed D Seen s p x → entry_of N s.known p ≡ o
      → At ls nothing s (refs.settle_entry N settle p (target_of N s p x) o s)
  unfolding refs.settle_entry give
  settle_entry ls settle good p x None s h there not lists by e = (grows_same s.things s.lists, h, tt)
  settle_entry ls settle good p x (Some k) s h there not lists by e = settle_standing ls settle good p x k k.standing s h there not lists by e refl

  settle_one : (ls : List Mark) (settle : Settler) → ((js : List Mark) → Good js settle) → Good ls (refs.settle_one N settle)
  unfolding refs.settle_one ◌>>=◌ look and_then
  settle_one ls settle good C p x g not lists s h c by = settle_entry ls settle good p x (entry_of N s.known p) s h (g.at s.things s.lists c) not lists by refl

  settle_at : (d : ℕ) (ls : List Mark) → Good ls (refs.settle_at N d)
  unfolding refs.settle_at stop
  settle_at zero ls C p x g not lists s h c by = (grows_same s.things s.lists, h)
  settle_at (suc d) ls C p x g not lists s h c by = settle_one ls (λ q z. refs.settle_at N d q z) (λ js D q z i n l t k e b. settle_at d js D q z i n l t k e b) C p x g not lists s h c by

  pub good_settle : (ls : List Mark) → Good ls (refs.settle N)
  unfolding refs.settle ◌>>=◌ look and_then
  good_settle ls C p x g not lists s h c by = settle_at (suc (suc (length s.known))) ls C p x g not lists s h c by

  pub settle_broken : (ls : List Mark) (C : Fact Name) (p : Name) (t : Words) → Does ls C (refs.settle N p (Broken t)) nothing
  settle_broken ls C p t = breaks ls (refs.settle N) (good_settle ls) C p t

  -- ---- resolving

  own_by : (ls : List Mark) (s : Vat Name) (p : Name) (x : Value Name) → Kept ls s → IsOwnName N v D p → ByView word v heed D Seen s p x
  own_by ls s p x h own c e = (own_unviewed word v heed D Seen ls s p h own.0, own.1)

  wait_or : (ls : List Mark) (C : Fact Name) (p q : Name) (b : Bool) (s : Vat Name) → Kept ls s → Knows N s.things s.lists C → IsOwnName N v D p → At ls nothing s ((if b then refs.settle N p (Broken (codes "cycle")) else refs.wait_on N p q) s)
  wait_or ls C p q true s h c own = (settle_broken ls C p (codes "cycle")).after s h c
  wait_or ls C p q false s h c own = wait_ends word v heed D Seen ls s p q h own

  wait_unless : (ls : List Mark) (C : Fact Name) (p q : Name) (s : Vat Name) → Kept ls s → Knows N s.things s.lists C → IsOwnName N v D p → At ls nothing s (refs.wait_unless_cycle N p q s)
  unfolding refs.wait_unless_cycle ◌>>=◌ look and_then
  wait_unless ls C p q s h c own = wait_or ls C p q (waits_lead N (length s.known) s.known p q) s h c own

  -- a followed value at a place that is no promise
  hosted_promise : (b : Bool) (n : Name) (h : ℕ) (p : Place Name) → ◌≡◌ {A = Place Name} (elim b [ true ↦ Mine n | false ↦ Away h n false ]) p → (p ≡ Mine n) ⊎ (p ≡ Away h n false)
  hosted_promise true n h p e = inl (sym e)
  hosted_promise false n h p e = inr (sym e)

  own_none : (i : ℕ) → Own i ≡ NoObject → ⊥
  own_none i e = cc

  foreign_none : (w : ℕ) → Foreign w ≡ NoObject → ⊥
  foreign_none w e = cc

  promise_spot : (s : Vat Name) (n : Name) (p : Place Name) (t : Spot) → t ≡ NoObject → spotted N s n t ≡ p → (p ≡ Mine n) ⊎ (p ≡ Away (host_at N s.number s.known n) n false)
  unfolding spotted hosted
  promise_spot s n p (Own i) e f = absurd (own_none i e)
  promise_spot s n p (Foreign w) e f = absurd (foreign_none w e)
  promise_spot s n p NoObject e f = hosted_promise (s.number == host_at N s.number s.known n) n (host_at N s.number s.known n) p f

  eventual_spot : (n : Name) → IsEventual n → N.spot n ≡ NoObject
  unfolding naming spot_of
  eventual_spot (Object w i) h = absurd h
  eventual_spot (Sent m) h = absurd h
  eventual_spot other h = refl

  promise_place : (s : Vat Name) (n : Name) (p : Place Name) → IsEventual n → place N s (Ref n) ≡ p → (p ≡ Mine n) ⊎ (p ≡ Away (host_at N s.number s.known n) n false)
  unfolding place
  promise_place s n p i e = promise_spot s n p (N.spot n) (eventual_spot n i) e

  no_promise : (s : Vat Name) (y : Value Name) (p : Place Name) → place N s y ≡ p → ((n : Name) → p ≡ Mine n → ⊥) → ((h : ℕ) (n : Name) → p ≡ Away h n false → ⊥) → NoPromise y
  no_promise s y p e f g n i j = pick (promise_place s n p j (ap (place N s) (sym i) ∙ e))
    where
      pick : (p ≡ Mine n) ⊎ (p ≡ Away (host_at N s.number s.known n) n false) → ⊥
      pick (inl k) = f n k
      pick (inr k) = g (host_at N s.number s.known n) n k

  resolve_at : heed ≡ true → (ls : List Mark) (C : Fact Name) (p : Name) (y : Value Name) (l : Place Name) → Gets N C (IsValue y) → IsOwnName N v D p → (s : Vat Name) → Kept ls s → Knows N s.things s.lists C → place N s y ≡ l → At ls nothing s (refs.resolve_to N p y l s)
  unfolding refs.resolve_to
  resolve_at on ls C p y (Mine q) g own s h c e = wait_unless ls C p q s h c own
  resolve_at on ls C p y (Away w q false) g own s h c e = wait_unless ls C p q s h c own
  resolve_at on ls C p y (Away w q true) g own s h c e = good_settle ls C p y g (no_promise s y (Away w q true) e (λ n i. cc) (λ u n i. cc)) (λ i f. on) s h c (own_by ls s p y h own)
  resolve_at on ls C p y Near g own s h c e = good_settle ls C p y g (no_promise s y Near e (λ n i. cc) (λ u n i. cc)) (λ i f. on) s h c (own_by ls s p y h own)
  resolve_at on ls C p y (Gone t) g own s h c e = good_settle ls C p y g (no_promise s y (Gone t) e (λ n i. cc) (λ u n i. cc)) (λ i f. on) s h c (own_by ls s p y h own)

  pub resolve_own : heed ≡ true → (ls : List Mark) (C : Fact Name) (p : Name) → IsOwnName N v D p → (x : Value Name) → Gets N C (IsValue x) → Does ls C (refs.resolve N p x) nothing
  unfolding refs.resolve ◌>>=◌ look and_then
  resolve_own on ls C p own x g = record { after = λ s h c. let y : Value Name = follow N s x in resolve_at on ls (Also C (IsValue y)) p y (place N s y) (got N C (IsValue y)) own s h (c, follow_there N s h.0 x (g.at s.things s.lists c)) refl }

  -- an object at which a view is resolved
  object_at : heed ≡ true → (ls : List Mark) (C : Fact Name) (p : Name) (y : Value Name) (l : Place Name) → Gets N C (IsValue y) → ((n : Name) → l ≡ Mine n → ⊥) → ((h : ℕ) (n : Name) → l ≡ Away h n false → ⊥) → ((c : ℕ) → y ≡ Items c → ⊥) → (s : Vat Name) → Kept ls s → Knows N s.things s.lists C → place N s y ≡ l → At ls nothing s (refs.resolve_to N p y l s)
  unfolding refs.resolve_to
  object_at on ls C p y (Mine q) g f k not s h c e = absurd (f q refl)
  object_at on ls C p y (Away w q false) g f k not s h c e = absurd (k w q refl)
  object_at on ls C p y (Away w q true) g f k not s h c e = good_settle ls C p y g (no_promise s y (Away w q true) e (λ n i. cc) (λ u n i. cc)) (λ i j. on) s h c (λ i j. absurd (not i j))
  object_at on ls C p y Near g f k not s h c e = good_settle ls C p y g (no_promise s y Near e (λ n i. cc) (λ u n i. cc)) (λ i j. on) s h c (λ i j. absurd (not i j))
  object_at on ls C p y (Gone t) g f k not s h c e = good_settle ls C p y g (no_promise s y (Gone t) e (λ n i. cc) (λ u n i. cc)) (λ i j. on) s h c (λ i j. absurd (not i j))

  object_end : (n : Name) → IsObjectName n → IsEventual n → ⊥
  object_end (Object w i) o e = e
  object_end other o e = o

  -- it is no promise
  abbrev NoPromisePlace : Place Name → Type 0
  NoPromisePlace l = ((m : Name) → l ≡ Mine m → ⊥) × ((h : ℕ) (m : Name) → l ≡ Away h m false → ⊥)

  near_place : NoPromisePlace Near
  near_place = (λ m f. cc, λ h m f. cc)

  gone_place : (t : Words) → NoPromisePlace (Gone t)
  gone_place t = (λ m f. cc, λ h m f. cc)

  far_place : (h : ℕ) (n : Name) → NoPromisePlace (Away h n true)
  far_place h n = (λ m f. cc, λ g m f. cc)

  object_spotted : (s : Vat Name) (b : Bool) (n : Name) (w i : ℕ) → NoPromisePlace (spotted N s n (elim b [ true ↦ Own i | false ↦ Foreign w ]))
  unfolding spotted
  object_spotted s true n w i = near_place
  object_spotted s false n w i = far_place w n

  -- an object is at no place of a promise
  object_place : (s : Vat Name) (n : Name) → IsObjectName n → NoPromisePlace (place N s (Ref n))
  unfolding place naming spot_of
  object_place s (Object w i) o = object_spotted s (v == w) (Object w i) w i
  object_place s other o = absurd o

  -- nor is what is no name
  plain_place : (s : Vat Name) (y : Value Name) → ((n : Name) → y ≡ Ref n → IsObjectName n) → NoPromisePlace (place N s y)
  unfolding place
  plain_place s (Ref n) o = object_place s n (o n refl)
  plain_place s (Broken t) o = gone_place t
  plain_place s other o = near_place

  -- a view is resolved to an object
  pub resolve_object : heed ≡ true → (ls : List Mark) (C : Fact Name) (p x : Name) → IsObjectName x → Does ls C (refs.resolve N p (Ref x)) nothing
  unfolding refs.resolve ◌>>=◌ look and_then
  resolve_object on ls C p x o = record {
    after = λ s h c. let y : Value Name = follow N s (Ref x) in
        let came : y ≡ severed N s (Ref x) = end_followed s (Ref x) h.1 (λ n e i. object_end x o (subst IsEventual (sym (ref_same x n e)) i)) in
        let apart = plain_place s y (λ n e. subst IsObjectName (ref_same x n (severed_name s (Ref x) n (sym came ∙ e))) o) in
        object_at on ls (Also C (IsValue y)) p y (place N s y) (got N C (IsValue y)) apart.0 apart.1 (λ i e. ref_list x i (severed_list N s (Ref x) i (sym came ∙ e))) s h (c, follow_there N s h.0 (Ref x) tt) refl;
  }

  -- ---- sending, reacting and promises

  own_promise : (i k : ℕ) → IsEventual (N.made (IsOwnPromise i) k)
  unfolding naming name_of
  own_promise i k = tt

  pub promised : (ls : List Mark) (C : Fact Name) → Does ls C (new_promise N) resolvable
  unfolding new_promise
  promised ls C = record {
    after = λ s h c. let t : Vat Name = record s { promises = suc s.promises } in let a : Kept ls t = (M ls).quiet s t (refl, refl, refl, inl refl, refl, refl, refl, refl) h h.0 in let n : Name = N.made (IsOwnPromise s.promises) (length s.known) in
        (grows_same s.things s.lists, begun_holds word v heed D Seen ls t n s.number a (ap (λ i. is_in i (heeds word v heed D Seen s)) h.1.number ∙ h.1.names.here) (own_promise s.promises (length s.known)), (s.promises, length s.known, refl));
  }

  -- a message that is made, its answer at that host, and the state then
  abbrev made_id : Vat Name → Name
  made_id s = N.mailed (IsSent s.messages) (length s.mails)

  abbrev made_at : Vat Name → ℕ → Name
  made_at s h = N.made (IsAnswer h (made_id s)) (length s.known)

  abbrev made : Vat Name → ℕ → Vat Name
  made s h = record s { messages = suc s.messages; mails = s.mails ++ made_id s ∷ []; known = s.known ++ begun (made_at s h) h ∷ [] }

  made_mail : (s : Vat Name) → IsMessageName (made_id s)
  unfolding naming mail_of
  made_mail s = tt

  made_host : (s : Vat Name) (h : ℕ) → host_of (made_at s h) ≡ h
  unfolding naming mail_of name_of answer_of host_of
  made_host s h = refl

  made_form : (s : Vat Name) (h : ℕ) → IsAnswerName (made_at s h)
  unfolding naming mail_of name_of answer_of
  made_form s h = tt

  made_holds : (ls : List Mark) (s : Vat Name) (h : ℕ) → Kept ls s → is_in h (heeds word v heed D Seen s) ≡ false → Kept ls (made s h)
  made_holds ls s h i spared = let t : Vat Name = record s { messages = suc s.messages; mails = s.mails ++ made_id s ∷ [] } in let a : Kept ls t = (M ls).quiet s t (refl, refl, refl, inl refl, refl, refl, refl, refl) i i.0 in
      begun_holds word v heed D Seen ls t (made_at s h) h a spared (made_answer h (length s.known) (made_id s) (made_mail s))

  pub here_spared : (ls : List Mark) (s : Vat Name) → Kept ls s → is_in s.number (heeds word v heed D Seen s) ≡ false
  here_spared ls s h = ap (λ i. is_in i (heeds word v heed D Seen s)) h.1.number ∙ h.1.names.here

  -- a new message, in a state in which it was just made
  sent_here : (ls : List Mark) (C : Fact Name) (act : ℕ) (x y : Value Name) (verb : Words) (args : List (Value Name)) (p : Place Name) (id : Name) (a : Option Name) (z : Value Name) → IsMessageName id → WhereSome (λ a. (host_of a ≡ v) × IsAnswerName a) a → Gets N C (IsValue z) → Gets N C (IsValue y) → Gets N C (AreValues args) → ((h : ℕ) (n : Name) (o : Bool) → p ≡ Away h n o → ⊥)
      → Does ls C (tell (Sends act (record { id = id; target = x; verb = verb; args = args; answer = a })) >> (refs.send_to N (refs.settle N) (record { id = id; target = y; verb = verb; args = args; answer = a }) y p >> give z)) IsValue
  sent_here ls C act x y verb args p id a z mail own gz g i not = let m : Message Name = record { id = id; target = y; verb = verb; args = args; answer = a } in
      fine_then N (M ls) {C = C} nothing (fine_tell N (M ls) {C = C} _) (fine_then N (M ls) {C = C} nothing
      (record { after = λ s h c. sent_at ls (refs.settle N) (good_settle ls) C m y p (mail, own) (record { at = λ ts js k. (g.at ts js k, i.at ts js k) }) g s h c (λ w n o e. absurd (not w n o e)) }) (fine_give N (M ls) {C = C} z gz))

  sent_away : (ls : List Mark) (C : Fact Name) (act : ℕ) (x y : Value Name) (verb : Words) (args : List (Value Name)) (h : ℕ) (n id : Name) (a : Option Name) (z : Value Name) → Gets N C (IsValue z) → Gets N C (IsValue y) → Gets N C (AreValues args)
      → Does ls C (tell (Sends act (record { id = id; target = x; verb = verb; args = args; answer = a })) >> (refs.deliver N (record { id = id; target = y; verb = verb; args = args; answer = a }) h n >> give z)) IsValue
  sent_away ls C act x y verb args h n id a z gz g i = let m : Message Name = record { id = id; target = y; verb = verb; args = args; answer = a } in
      fine_then N (M ls) {C = C} nothing (fine_tell N (M ls) {C = C} _) (fine_then N (M ls) {C = C} nothing
      (fine_deliver N (M ls) (tells ls) {C = C} m (record { at = λ ts js k. (g.at ts js k, i.at ts js k) }) h n) (fine_give N (M ls) {C = C} z gz))

  send_at : (ls : List Mark) (C : Fact Name) (act : ℕ) (x y : Value Name) (verb : Words) (args : List (Value Name)) (p : Place Name) → Gets N C (IsValue y) → Gets N C (AreValues args) → (s : Vat Name) → Kept ls s → Knows N s.things s.lists C → ((h : ℕ) (n : Name) (o : Bool) → p ≡ Away h n o → is_in h (heeds word v heed D Seen s) ≡ false)
      → At ls IsValue s ((new_message N (refs.answer_host N s.number p) >>= (λ new. tell (Sends act (record { id = new.0; target = x; verb = verb; args = args; answer = Some new.1 })) >> (refs.send_first N (record { id = new.0; target = y; verb = verb; args = args; answer = Some new.1 }) y p >> give (Ref new.1)))) s)
  unfolding ◌>>=◌ new_message and_then refs.answer_host refs.send_first
  send_at ls C act x y verb args (Away h n o) g i s k c f = widen N (M ls) IsValue s (made s h) _ (grows_same s.things s.lists) ((sent_away ls C act x y verb args h n (made_id s) (Some (made_at s h)) (Ref (made_at s h)) (got_ref N C (made_at s h)) g i).after (made s h) (made_holds ls s h k (f h n o refl)) c)
  send_at ls C act x y verb args Near g i s k c f = widen N (M ls) IsValue s (made s s.number) _ (grows_same s.things s.lists) ((sent_here ls C act x y verb args Near (made_id s) (Some (made_at s s.number)) (Ref (made_at s s.number)) (made_mail s) (made_host s s.number ∙ k.1.number, made_form s s.number) (got_ref N C (made_at s s.number)) g i (λ h n o e. cc)).after (made s s.number) (made_holds ls s s.number k (here_spared ls s k)) c)
  send_at ls C act x y verb args (Mine n) g i s k c f = widen N (M ls) IsValue s (made s s.number) _ (grows_same s.things s.lists) ((sent_here ls C act x y verb args (Mine n) (made_id s) (Some (made_at s s.number)) (Ref (made_at s s.number)) (made_mail s) (made_host s s.number ∙ k.1.number, made_form s s.number) (got_ref N C (made_at s s.number)) g i (λ h n o e. cc)).after (made s s.number) (made_holds ls s s.number k (here_spared ls s k)) c)
  send_at ls C act x y verb args (Gone t) g i s k c f = widen N (M ls) IsValue s (made s s.number) _ (grows_same s.things s.lists) ((sent_here ls C act x y verb args (Gone t) (made_id s) (Some (made_at s s.number)) (Ref (made_at s s.number)) (made_mail s) (made_host s s.number ∙ k.1.number, made_form s s.number) (got_ref N C (made_at s s.number)) g i (λ h n o e. cc)).after (made s s.number) (made_holds ls s s.number k (here_spared ls s k)) c)

  pub sends : (ls : List Mark) (C : Fact Name) (act : ℕ) (x : Value Name) → Gets N C (IsValue x) → (verb : Words) (args : List (Value Name)) → Gets N C (AreValues args) → Does ls C (refs.send N act x verb args) IsValue
  unfolding refs.send ◌>>=◌ look and_then
  sends ls C act x g verb args i = record {
    after = λ s h c. let y : Value Name = follow N s x in
        send_at ls (Also C (IsValue y)) act x y verb args (place N s y) (got N C (IsValue y)) (got_left N C (IsValue y) (AreValues args) i) s h (c, follow_there N s h.0 x (g.at s.things s.lists c)) (λ w n o e. away_spared s x w n o e);
  }

  -- a message without an answer
  abbrev lone : Vat Name → Vat Name
  lone s = record s { messages = suc s.messages; mails = s.mails ++ made_id s ∷ [] }

  lone_holds : (ls : List Mark) (s : Vat Name) → Kept ls s → Kept ls (lone s)
  lone_holds ls s i = (M ls).quiet s (lone s) (refl, refl, refl, inl refl, refl, refl, refl, refl) i i.0

  lone_at : (ls : List Mark) (C : Fact Name) (act : ℕ) (x y : Value Name) (verb : Words) (args : List (Value Name)) (p : Place Name) → Gets N C (IsValue y) → Gets N C (AreValues args) → (s : Vat Name) → Kept ls s → Knows N s.things s.lists C
      → At ls IsValue s ((new_lone_message N >>= (λ id. tell (Sends act (record { id = id; target = x; verb = verb; args = args; answer = None })) >> (refs.send_first N (record { id = id; target = y; verb = verb; args = args; answer = None }) y p >> give Null))) s)
  unfolding ◌>>=◌ new_lone_message and_then refs.send_first
  lone_at ls C act x y verb args (Away h n o) g i s k c = widen N (M ls) IsValue s (lone s) _ (grows_same s.things s.lists) ((sent_away ls C act x y verb args h n (made_id s) None Null (got_null N C) g i).after (lone s) (lone_holds ls s k) c)
  lone_at ls C act x y verb args Near g i s k c = widen N (M ls) IsValue s (lone s) _ (grows_same s.things s.lists) ((sent_here ls C act x y verb args Near (made_id s) None Null (made_mail s) tt (got_null N C) g i (λ h n o e. cc)).after (lone s) (lone_holds ls s k) c)
  lone_at ls C act x y verb args (Mine n) g i s k c = widen N (M ls) IsValue s (lone s) _ (grows_same s.things s.lists) ((sent_here ls C act x y verb args (Mine n) (made_id s) None Null (made_mail s) tt (got_null N C) g i (λ h n o e. cc)).after (lone s) (lone_holds ls s k) c)
  lone_at ls C act x y verb args (Gone t) g i s k c = widen N (M ls) IsValue s (lone s) _ (grows_same s.things s.lists) ((sent_here ls C act x y verb args (Gone t) (made_id s) None Null (made_mail s) tt (got_null N C) g i (λ h n o e. cc)).after (lone s) (lone_holds ls s k) c)

  pub sends_only : (ls : List Mark) (C : Fact Name) (act : ℕ) (x : Value Name) → Gets N C (IsValue x) → (verb : Words) (args : List (Value Name)) → Gets N C (AreValues args) → Does ls C (refs.send_only N act x verb args) IsValue
  unfolding refs.send_only ◌>>=◌ look and_then
  sends_only ls C act x g verb args i = record {
    after = λ s h c. let y : Value Name = follow N s x in
        lone_at ls (Also C (IsValue y)) act x y verb args (place N s y) (got N C (IsValue y)) (got_left N C (IsValue y) (AreValues args) i) s h (c, follow_there N s h.0 x (g.at s.things s.lists c));
  }

  reacts_at : (ls : List Mark) (C : Fact Name) (m : Message Name) (p : Place Name) → IsOwn v m → Gets N C (IsMessage m) → Does ls C (refs.react_at N m p) nothing
  unfolding refs.react_at
  reacts_at ls C m (Mine n) own g = record { after = λ s h c. altered word v heed D Seen ls s (React m) n h (fair_react word v heed D Seen s m n h.1 own) (g.at s.things s.lists c) }
  reacts_at ls C m (Away h n false) own g = record { after = λ s i c. altered word v heed D Seen ls s (React m) n i (fair_react word v heed D Seen s m n i.1 own) (g.at s.things s.lists c) }
  reacts_at ls C m other own g = record { after = λ s h c. queued word v heed D Seen ls s m own (g.at s.things s.lists c) h }

  place_then : (ls : List Mark) (C : Fact Name) (x : Value Name) (m : Message Name) (a : Name) → IsOwn v m → Gets N C (IsMessage m) → Does ls C (look (λ s. place N s (follow N s x)) >>= (λ p. refs.react_at N m p >> give (Ref a))) IsValue
  unfolding ◌>>=◌ look and_then
  place_then ls C x m a own g = record { after = λ s h c. (fine_then N (M ls) {C = C} {H = IsValue} nothing (reacts_at ls C m (place N s (follow N s x)) own g) (fine_give N (M ls) {C = C} (Ref a) (got_ref N C a))).after s h c }

  react_made : (ls : List Mark) (C : Fact Name) (act : ℕ) (x o near : Value Name) (id a : Name) → IsMessageName id → (host_of a ≡ v) × IsAnswerName a → Gets N C (IsValue x) → Gets N C (IsValue near) → Does ls C (tell (Reacts act x o (refs.reaction N id near x a)) >> (look (λ s. place N s (follow N s x)) >>= (λ p. refs.react_at N (refs.reaction N id near x a) p >> give (Ref a)))) IsValue
  unfolding refs.reaction
  react_made ls C act x o near id a mail own g i = fine_then N (M ls) {C = C} nothing (fine_tell N (M ls) {C = C} _) (place_then ls C x (refs.reaction N id near x a) a (mail, own) (record { at = λ ts js k. (i.at ts js k, (g.at ts js k, tt)) }))

  pub reacts : (ls : List Mark) (C : Fact Name) (act : ℕ) (x : Value Name) → Gets N C (IsValue x) → (o : Value Name) → Gets N C (IsValue o) → (near : Value Name) → Gets N C (IsValue near) → Does ls C (refs.react N act x o near) IsValue
  unfolding refs.react ◌>>=◌ look and_then new_message
  reacts ls C act x g o i near j = record { after = λ s h c. widen N (M ls) IsValue s (made s s.number) _ (grows_same s.things s.lists) ((react_made ls C act x o near (made_id s) (made_at s s.number) (made_mail s) (made_host s s.number ∙ h.1.number, made_form s s.number) g j).after (made s s.number) (made_holds ls s s.number h (here_spared ls s h)) c) }

  promise_own : (i k : ℕ) → IsOwnName N v D (N.made (IsOwnPromise i) k)
  unfolding naming name_of host_of
  promise_own i k = (refl, λ w. w)

  -- a resolver is of a promise of the vat's own
  resolver_own : (C : Fact Name) (p : Name) → Gets N C (resolvable p) → (s : Vat Name) → Knows N s.things s.lists C → IsOwnName N v D p
  resolver_own C p g s c = let made = g.at s.things s.lists c in subst (λ n. IsOwnName N v D n) (sym made.2) (promise_own made.0 made.1)

  pub serving : heed ≡ true → Serves N (M [])
  serving on = record {
    promises = λ C. promised [] C;
    smashes = λ C p t own s h c e. (settle_broken [] C p t).after s h c;
    resolves = λ C p y own g s h c e. (resolve_own on [] C p (resolver_own C p own s c) y g).after s h c;
    sends = λ C act x g verb args i. sends [] C act x g verb args i;
    sends_only = λ C act x g verb args i. sends_only [] C act x g verb args i;
    reacts = λ C act x g o i near j. reacts [] C act x g o i near j;
  }

  pub closing_own : heed ≡ true → (p : Name) → IsOwnName N v D p → Closing N (M []) p
  closing_own on p own = record { breaks = λ C t. settle_broken [] C p t; closes = λ C y g. resolve_own on [] C p own y g }
