-- The changes of what is known that are kept, and what each leaves.
use Rattle.std.proofs.Common.{◌≡◌, ℕ, suc, Bool, true, false, List, [], ◌∷◌, ◌++◌, Option, Some, None, refl, sym, ap, subst, ◌∙◌, ◌⊎◌, inl, inr, length}
use Rattle.def_machine.specs.Values.{Words, Value, Broken, Items, Ref, Name, Object, Sent, Naming, Spot, Own, Foreign, NoObject, naming, host_of, spot_of, answer_of, word_of}
use Rattle.def_machine.specs.State.{Message, Note, Put, GiftEntry, Standing, Unsettled, WaitsOn, Viewed, Settled, Known, Change, Hold, Wait, WaitOn, React, ToTell, Settle, Waits, Vat, ◌>>◌, and_then, tell, alter, enqueue, send_out, with_change, changed, changed_to, begun, is_in}
use Rattle.def_machine.specs.Refs as refs
use Rattle.def_machine.specs.Refs.{entry_of, standing_of, standing_in, host_at, host_in, follow, severed, severed_at, severed_by, cut_cycle, target_of}
use Rattle.law_machine.specs.Machine.Breaks.{still_waits}
use Rattle.law_fate.proofs.Name.Among.{among_more}
use Rattle.law_fate.specs.Name.Names.{AllOf, IsAmong, IsMessageName, IsEventual}
use Rattle.law_fate.proofs.Name.Facts.{all_end}
use Rattle.law_frozen.specs.Frozen.{MessageThere, NotePasses}
use Rattle.law_frozen.proofs.Fine.{nothing, Ends, ChangeThere, grows_same, sound_known, sound_queue, sound_out, changes_there, known_begun}
use Rattle.law_reference.specs.Reference.Lists.{IsEnd, IsTested, ViewSettled, IsBehind}
use Rattle.law_reference.proofs.Reference.FarEnough.{append_standing}
use Rattle.law_reference.specs.Reference.ListRingless.{IsOwn, IsOwnName, IsView, NoPromise, SettlesSo, HoldsOwn, IsNamed, NoteTells}
use Rattle.law_reference.proofs.Reference.Following.{no_true, standing_found, waits_stays}
use Rattle.law_reference.proofs.Reference.Kept.{heeds, heeds_all, Mark, HoldsBy, K, is, settled_is, changed_or, Kept, Fair, entry_name, settled_stays, puts_stay, ringless_changed, settling_changed, ringless_begun, settling_begun, ringless_same, keeper}

view_wait : (q g : Name) → WaitsOn q ≡ Viewed g → ⊥
view_wait q g e = cc

view_value : (y : Value Name) (g : Name) → Settled y ≡ Viewed g → ⊥
view_value y g e = cc

wait_value : (q : Name) (y : Value Name) → WaitsOn q ≡ Settled y → ⊥
wait_value q y e = cc

value_same : (y z : Value Name) → Settled y ≡ Settled z → y ≡ z
value_same y z e = cc

view_open : (g : Name) → Unsettled ≡ Viewed g → ⊥
view_open g e = cc

settled_waits : (y : Value Name) → still_waits (Settled y) ≡ true → ⊥
unfolding still_waits
settled_waits y e = no_true e

open_waits : still_waits {N = Name} Unsettled ≡ true
unfolding still_waits
open_waits = refl

pub among_end : (n q : Name) (xs : List Name) → IsAmong n (xs ++ q ∷ []) → (IsAmong n xs) ⊎ (n ≡ q)
among_end n q [] (inl e) = inr e
among_end n q [] (inr a) = absurd a
among_end n q (x ∷ xs) (inl e) = inl (inl e)
among_end n q (x ∷ xs) (inr a) = pick (among_end n q xs a)
  where
    pick : (IsAmong n xs) ⊎ (n ≡ q) → (IsAmong n (x ∷ xs)) ⊎ (n ≡ q)
    pick (inl i) = inl (inr i)
    pick (inr i) = inr i

pub answer_eventual : (h : ℕ) (i : Name) → IsMessageName i → IsEventual (answer_of h i)
unfolding answer_of
answer_eventual h (Sent m) g = tt
answer_eventual h other g = absurd g

module _ (word : ℕ → ℕ) (v : ℕ) (heed : Bool) (D : ℕ → Type 0) (Seen : Name → Type 0) where
  abbrev N : Naming Name Name
  N = K word v

  abbrev pub Holds : List Mark → Vat Name → Type 0
  Holds ls s = (keeper word v heed D Seen ls).holds s

  -- it is not viewed
  abbrev pub NotViewed : Vat Name → Name → Type 0
  NotViewed s p = (g : Name) → standing_of N s.known p ≡ Viewed g → ⊥

  -- ---- which changes are kept

  pub same_stands : (c : Change Name) (k : Known Name) → (changed_to c k).standing ≡ k.standing → (changed c k).standing ≡ k.standing
  same_stands c k e = pick (changed_or c k)
    where
      pick : (changed c k ≡ k) ⊎ (changed c k ≡ changed_to c k) → (changed c k).standing ≡ k.standing
      pick (inl i) = ap (λ (x : Known Name). x.standing) i
      pick (inr i) = ap (λ (x : Known Name). x.standing) i ∙ e

  pub same_waiting : (c : Change Name) (k : Known Name) → (changed_to c k).waiting ≡ k.waiting → (changed c k).waiting ≡ k.waiting
  same_waiting c k e = pick (changed_or c k)
    where
      pick : (changed c k ≡ k) ⊎ (changed c k ≡ changed_to c k) → (changed c k).waiting ≡ k.waiting
      pick (inl i) = ap (λ (x : Known Name). x.waiting) i
      pick (inr i) = ap (λ (x : Known Name). x.waiting) i ∙ e

  -- a change by which no name stands otherwise, and none waits that did not
  fair_same : (s : Vat Name) (c : Change Name) (p : Name) → Kept word v heed D Seen s → IsBehind N s c p → HoldsBy v c → ((k : Known Name) → (changed_to c k).standing ≡ k.standing) → ((k : Known Name) → (changed_to c k).waiting ≡ k.waiting) → Fair word v heed D Seen s c p
  fair_same s c p r b h stand wait = record {
    behind = b;
    holds = h;
    waits = λ k e w. r.names.spared p k e (sym (ap still_waits (same_stands c k (stand k))) ∙ w);
    views = λ k g e. sym (same_stands c k (stand k)) ∙ e;
    waiting = λ k n a. inl (subst (λ xs. IsAmong n xs) (same_waiting c k (wait k)) a);
    settled = λ k y e. inl (sym (same_stands c k (stand k)) ∙ e);
  }

  pub fair_hold : (s : Vat Name) (m : Message Name) (p : Name) → Kept word v heed D Seen s → IsOwn v m → Fair word v heed D Seen s (Hold m) p
  unfolding changed_to
  fair_hold s m p r own = fair_same s (Hold m) p r tt own (λ k. refl) (λ k. refl)

  pub fair_react : (s : Vat Name) (m : Message Name) (p : Name) → Kept word v heed D Seen s → IsOwn v m → Fair word v heed D Seen s (React m) p
  unfolding changed_to
  fair_react s m p r own = fair_same s (React m) p r tt own (λ k. refl) (λ k. refl)

  pub fair_tell : (s : Vat Name) (w : ℕ) (p : Name) → Kept word v heed D Seen s → Fair word v heed D Seen s (ToTell w) p
  unfolding changed_to
  fair_tell s w p r = fair_same s (ToTell w) p r tt tt (λ k. refl) (λ k. refl)

  waits_spared : (s : Vat Name) (q p : Name) (k : Known Name) (t : Standing Name) → Kept word v heed D Seen s → NotViewed s p → entry_of N s.known p ≡ Some k → k.standing ≡ t → still_waits (changed (WaitOn q) k).standing ≡ true → is_in k.host (heeds word v heed D Seen s) ≡ false
  unfolding still_waits
  waits_spared s q p k (Settled y) r not e i w = absurd (settled_waits y (sym (ap (λ (x : Known Name). still_waits x.standing) (settled_is (WaitOn q) k y i) ∙ ap still_waits i) ∙ w))
  waits_spared s q p k (Viewed g) r not e i w = absurd (not g (standing_found N s.known p k e ∙ i))
  waits_spared s q p k other r not e i w = r.names.spared p k e (ap still_waits i)

  view_wait_on : (q g : Name) (k : Known Name) → (changed (WaitOn q) k ≡ k) ⊎ (changed (WaitOn q) k ≡ changed_to (WaitOn q) k) → (changed (WaitOn q) k).standing ≡ Viewed g → k.standing ≡ Viewed g
  unfolding changed_to
  view_wait_on q g k (inl i) e = sym (ap (λ (x : Known Name). x.standing) i) ∙ e
  view_wait_on q g k (inr i) e = absurd (view_wait q g (sym (ap (λ (x : Known Name). x.standing) i) ∙ e))

  settled_wait_on : (q : Name) (y : Value Name) (k : Known Name) → (changed (WaitOn q) k ≡ k) ⊎ (changed (WaitOn q) k ≡ changed_to (WaitOn q) k) → (changed (WaitOn q) k).standing ≡ Settled y → k.standing ≡ Settled y
  unfolding changed_to
  settled_wait_on q y k (inl i) e = sym (ap (λ (x : Known Name). x.standing) i) ∙ e
  settled_wait_on q y k (inr i) e = absurd (wait_value q y (sym (ap (λ (x : Known Name). x.standing) i) ∙ e))

  -- a name that is not viewed comes to wait on another
  pub fair_wait_on : (s : Vat Name) (q p : Name) → Kept word v heed D Seen s → NotViewed s p → Fair word v heed D Seen s (WaitOn q) p
  unfolding changed_to
  fair_wait_on s q p r not = record {
    behind = tt;
    holds = tt;
    waits = λ k e w. waits_spared s q p k k.standing r not e refl w;
    views = λ k g e. view_wait_on q g k (changed_or (WaitOn q) k) e;
    waiting = λ k n a. inl (subst (λ xs. IsAmong n xs) (same_waiting (WaitOn q) k refl) a);
    settled = λ k y e. inl (settled_wait_on q y k (changed_or (WaitOn q) k) e);
  }

  waits_end : (p q n : Name) (k : Known Name) → ((IsView D p → ⊥) → IsOwnName N v D q) → (changed (Wait q) k ≡ k) ⊎ (changed (Wait q) k ≡ changed_to (Wait q) k) → IsAmong n (changed (Wait q) k).waiting → (IsAmong n k.waiting) ⊎ ((IsView D p → ⊥) → IsOwnName N v D n)
  unfolding changed_to
  waits_end p q n k own (inl i) a = inl (subst (λ (x : Known Name). IsAmong n x.waiting) i a)
  waits_end p q n k own (inr i) a = pick (among_end n q k.waiting (subst (λ (x : Known Name). IsAmong n x.waiting) i a))
    where
      pick : (IsAmong n k.waiting) ⊎ (n ≡ q) → (IsAmong n k.waiting) ⊎ ((IsView D p → ⊥) → IsOwnName N v D n)
      pick (inl j) = inl j
      pick (inr j) = inr (λ not. subst (λ m. IsOwnName N v D m) (sym j) (own not))

  -- and so one waits there, of the vat's own and no view where it waits on no view
  pub fair_wait : (s : Vat Name) (q p : Name) → Kept word v heed D Seen s → ((IsView D p → ⊥) → IsOwnName N v D q) → Fair word v heed D Seen s (Wait q) p
  unfolding changed_to
  fair_wait s q p r own = record {
    behind = tt;
    holds = tt;
    waits = λ k e w. r.names.spared p k e (sym (ap still_waits (same_stands (Wait q) k refl)) ∙ w);
    views = λ k g e. sym (same_stands (Wait q) k refl) ∙ e;
    waiting = λ k n a. waits_end p q n k own (changed_or (Wait q) k) a;
    settled = λ k y e. inl (sym (same_stands (Wait q) k refl) ∙ e);
  }

  settle_spared : (s : Vat Name) (y : Value Name) (p : Name) (k : Known Name) → Kept word v heed D Seen s → entry_of N s.known p ≡ Some k → (changed (Settle y) k ≡ k) ⊎ (changed (Settle y) k ≡ changed_to (Settle y) k) → still_waits (changed (Settle y) k).standing ≡ true → is_in k.host (heeds word v heed D Seen s) ≡ false
  unfolding changed_to
  settle_spared s y p k r e (inl i) w = r.names.spared p k e (sym (ap (λ (x : Known Name). still_waits x.standing) i) ∙ w)
  settle_spared s y p k r e (inr i) w = absurd (settled_waits y (sym (ap (λ (x : Known Name). still_waits x.standing) i) ∙ w))

  settle_view : (y : Value Name) (g : Name) (k : Known Name) → (changed (Settle y) k ≡ k) ⊎ (changed (Settle y) k ≡ changed_to (Settle y) k) → (changed (Settle y) k).standing ≡ Viewed g → k.standing ≡ Viewed g
  unfolding changed_to
  settle_view y g k (inl i) e = sym (ap (λ (x : Known Name). x.standing) i) ∙ e
  settle_view y g k (inr i) e = absurd (view_value y g (sym (ap (λ (x : Known Name). x.standing) i) ∙ e))

  settle_waiting : (y : Value Name) (n : Name) (k : Known Name) → (changed (Settle y) k ≡ k) ⊎ (changed (Settle y) k ≡ changed_to (Settle y) k) → IsAmong n (changed (Settle y) k).waiting → IsAmong n k.waiting
  unfolding changed_to
  settle_waiting y n k (inl i) a = subst (λ (x : Known Name). IsAmong n x.waiting) i a
  settle_waiting y n k (inr i) a = absurd (subst (λ (x : Known Name). IsAmong n x.waiting) i a)

  settle_value : (y z : Value Name) (p : Name) (k : Known Name) → SettlesSo N v D p y → (changed (Settle y) k ≡ k) ⊎ (changed (Settle y) k ≡ changed_to (Settle y) k) → (changed (Settle y) k).standing ≡ Settled z → (k.standing ≡ Settled z) ⊎ SettlesSo N v D p z
  unfolding changed_to
  settle_value y z p k so (inl i) e = inl (sym (ap (λ (x : Known Name). x.standing) i) ∙ e)
  settle_value y z p k so (inr i) e = inr (subst (λ x. SettlesSo N v D p x) (value_same y z (sym (ap (λ (x : Known Name). x.standing) i) ∙ e)) so)

  pub fair_settle : (s : Vat Name) (y : Value Name) (p : Name) → Kept word v heed D Seen s → IsBehind N s (Settle y) p → SettlesSo N v D p y → Fair word v heed D Seen s (Settle y) p
  fair_settle s y p r b so = record {
    behind = b;
    holds = tt;
    waits = λ k e w. settle_spared s y p k r e (changed_or (Settle y) k) w;
    views = λ k g e. settle_view y g k (changed_or (Settle y) k) e;
    waiting = λ k n a. inl (settle_waiting y n k (changed_or (Settle y) k) a);
    settled = λ k z e. settle_value y z p k so (changed_or (Settle y) k) e;
  }

  -- ---- the state after them

  pub changed_holds : (ls : List Mark) (s : Vat Name) (c : Change Name) (p : Name) → Holds ls s → Fair word v heed D Seen s c p → ChangeThere s.lists c → Holds ls (record s { known = with_change N c p s.known })
  changed_holds ls s c p h fair there = (sound_known N s (with_change N c p s.known) h.0 (changes_there N s.lists c p s.known there h.0.known), ringless_changed word v heed D Seen s c p fair h.1, puts_stay word v heed D Seen s.known (with_change N c p s.known) (λ n y e. settled_stays word v heed D Seen c p n y s.known e) s.outbox s.drawn h.2, settling_changed word v heed D Seen s c p fair ls h.3)

  pub altered : (ls : List Mark) (s : Vat Name) (c : Change Name) (p : Name) → Holds ls s → Fair word v heed D Seen s c p → ChangeThere s.lists c → Ends N (keeper word v heed D Seen ls) nothing s (alter N c p s)
  unfolding alter
  altered ls s c p h fair there = (grows_same s.things s.lists, changed_holds ls s c p h fair there, tt)

  pub begun_holds : (ls : List Mark) (s : Vat Name) (n : Name) (h : ℕ) → Holds ls s → is_in h (heeds word v heed D Seen s) ≡ false → IsEventual n → Holds ls (record s { known = s.known ++ begun n h ∷ [] })
  begun_holds ls s n h i spared eventual = (known_begun N s n h i.0, ringless_begun word v heed D Seen s n h spared eventual i.1, puts_stay word v heed D Seen s.known (s.known ++ begun n h ∷ []) (λ m y e. append_standing N (is word v) s.known n h m ∙ e) s.outbox s.drawn i.2, settling_begun word v heed D Seen s n h spared eventual ls i.3)

  told_holds : (ls : List Mark) (s : Vat Name) (p q : Name) → Holds ls s → Holds ls (record s { happened = s.happened ++ Waits p q ∷ [] })
  told_holds ls s p q h = (keeper word v heed D Seen ls).quiet s (record s { happened = s.happened ++ Waits p q ∷ [] }) (refl, refl, refl, inl refl, refl, refl, refl, refl) h h.0

  -- a message is queued
  pub queued : (ls : List Mark) (s : Vat Name) (m : Message Name) → IsOwn v m → MessageThere s.lists m → Holds ls s → Ends N (keeper word v heed D Seen ls) nothing s (enqueue m s)
  unfolding enqueue
  queued ls s m own there h = let t : Vat Name = record s { queue = s.queue ++ m ∷ [] } in
      (grows_same s.things s.lists, (sound_queue N s m h.0 there, ringless_same word v heed D Seen s t h.0 refl refl refl (inl refl) (all_end (IsOwn v) s.queue m h.1.queue own) h.1.gifts h.1, h.2, h.3), tt)

  -- a note is put, of which the vat tells truly
  pub put_holds : (ls : List Mark) (s : Vat Name) (to : ℕ) (n : Note Name) → NotePasses n → NoteTells N D s.known n → Holds ls s → Holds ls (record s { outbox = s.outbox ++ record { to = to; note = n } ∷ [] })
  put_holds ls s to n passes tells h = let t : Vat Name = record s { outbox = s.outbox ++ record { to = to; note = n } ∷ [] } in
      (sound_out N s to n h.0 passes, ringless_same word v heed D Seen s t h.0 refl refl refl (inl refl) h.1.queue h.1.gifts h.1, (h.2.0, all_end (λ (p : Put Name). NoteTells N D s.known p.note) s.outbox (record { to = to; note = n }) h.2.1 tells), h.3)

  pub puts : (ls : List Mark) (s : Vat Name) (to : ℕ) (n : Note Name) → NotePasses n → NoteTells N D s.known n → Holds ls s → Ends N (keeper word v heed D Seen ls) nothing s (send_out to n s)
  unfolding send_out
  puts ls s to n passes tells h = (grows_same s.things s.lists, put_holds ls s to n passes tells h, tt)

  -- a word is drawn
  pub drawn_holds : (ls : List Mark) (s : Vat Name) (w : ℕ) → Holds ls s → Holds ls (record s { drawn = s.drawn ++ w ∷ [] })
  drawn_holds ls s w h = let t : Vat Name = record s { drawn = s.drawn ++ w ∷ [] } in
      (h.0, ringless_same word v heed D Seen s t h.0 refl refl refl (inl refl) h.1.queue h.1.gifts h.1, (λ i l d. h.2.0 i (λ a. l (among_more (word_of i) s.drawn w a)) d, h.2.1), h.3)

  -- gifts come to be at the vat, named by their draws, or are opened
  pub gifts_hold : (ls : List Mark) (s : Vat Name) (gs : List (GiftEntry Name)) → AllOf (IsNamed v) gs → Holds ls s → Holds ls (record s { gifts = gs })
  gifts_hold ls s gs named h = let t : Vat Name = record s { gifts = gs } in (h.0, ringless_same word v heed D Seen s t h.0 refl refl refl (inl refl) h.1.queue named h.1, h.2, h.3)

  -- a name of the vat's own is not viewed
  pub own_unviewed : (ls : List Mark) (s : Vat Name) (p : Name) → Holds ls s → host_of p ≡ v → NotViewed s p
  own_unviewed ls s p h own g e = h.1.names.far p g e own

  -- a name of the vat's own that is no view comes to wait, as one
  pub wait_ends : (ls : List Mark) (s : Vat Name) (p q : Name) → Holds ls s → IsOwnName N v D p → Ends N (keeper word v heed D Seen ls) nothing s (refs.wait_on N p q s)
  unfolding refs.wait_on ◌>>◌ tell alter and_then
  wait_ends ls s p q h own = let t : Vat Name = record s { happened = s.happened ++ Waits p q ∷ [] } in let a : Holds ls t = told_holds ls s p q h in let fair : Fair word v heed D Seen t (WaitOn q) p = fair_wait_on t q p a.1 (own_unviewed ls s p h own.0) in
      let u : Vat Name = record t { known = with_change N (WaitOn q) p t.known } in let b : Holds ls u = changed_holds ls t (WaitOn q) p a fair tt in
      (grows_same s.things s.lists, changed_holds ls u (Wait p) q b (fair_wait u p q b.1 (λ not. own)) tt, tt)

  -- ---- a name that settles

  found_head : (P : Known Name → Type 0) (b : Bool) (k0 k : Known Name) (o : Option (Known Name)) → P k0 → ◌≡◌ {A = Option (Known Name)} (elim b [ true ↦ Some k0 | false ↦ o ]) (Some k) → (o ≡ Some k → P k) → P k
  found_head P true k0 k o h e f = let same : k0 ≡ k = cc in subst P same h
  found_head P false k0 k o h e f = f e

  found_all : (P : Known Name → Type 0) (ks : List (Known Name)) (n : Name) (k : Known Name) → AllOf P ks → entry_of N ks n ≡ Some k → P k
  unfolding entry_of
  found_all P [] n k h e = cc
  found_all P (k0 ∷ ks) n k h e = found_head P (N.same k0.name n) k0 k (entry_of N ks n) h.0 e (λ i. found_all P ks n k h.1 i)

  pub known_eventual : (s : Vat Name) (n : Name) (k : Known Name) → Kept word v heed D Seen s → entry_of N s.known n ≡ Some k → IsEventual n
  known_eventual s n k r e = subst IsEventual (entry_name word v heed D Seen s.known n k e) (found_all (λ (x : Known Name). IsEventual x.name) s.known n k r.names.eventual e)

  pub found_held : (s : Vat Name) (n : Name) (k : Known Name) → Kept word v heed D Seen s → entry_of N s.known n ≡ Some k → HoldsOwn v k
  found_held s n k r e = found_all (HoldsOwn v) s.known n k r.names.held e

  -- where it settles to a list it is not viewed, and is no view
  abbrev pub ByView : Vat Name → Name → Value Name → Type 0
  ByView s p x = (c : ℕ) → x ≡ Items c → NotViewed s p × (IsView D p → ⊥)

  pub end_at : (s : Vat Name) (n : Name) (o : Option (Known Name)) → Kept word v heed D Seen s → (IsEventual n → ⊥) → entry_of N s.known n ≡ o → still_waits (standing_of N s.known n) ≡ true
  unfolding standing_of standing_in
  end_at s n None r not e = ap (λ o. still_waits (standing_in o)) e ∙ open_waits
  end_at s n (Some k) r not e = absurd (not (known_eventual s n k r e))

  no_promise_end : (s : Vat Name) (x : Value Name) → Kept word v heed D Seen s → NoPromise x → IsEnd N s x
  no_promise_end s x r not n e = end_at s n (entry_of N s.known n) r (λ i. not n e i) refl

  cut_same : (b : Bool) (y z : Value Name) → ((t : Words) → z ≡ Broken t → ⊥) → cut_cycle N b y ≡ z → y ≡ z
  unfolding cut_cycle
  cut_same true y z f e = absurd (f _ (sym e))
  cut_same false y z f e = e

  -- what is cut is broken
  target_same : (s : Vat Name) (p : Name) (x z : Value Name) → ((t : Words) → z ≡ Broken t → ⊥) → target_of N s p x ≡ z → x ≡ z
  unfolding target_of
  target_same s p (Items k) z f e = cut_same _ (Items k) z f e
  target_same s p other z f e = e

  pub target_ref : (s : Vat Name) (p : Name) (x : Value Name) (n : Name) → target_of N s p x ≡ Ref n → x ≡ Ref n
  target_ref s p x n e = target_same s p x (Ref n) (λ t i. cc) e

  pub target_list : (s : Vat Name) (p : Name) (x : Value Name) (c : ℕ) → target_of N s p x ≡ Items c → x ≡ Items c
  target_list s p x c e = target_same s p x (Items c) (λ t i. cc) e

  spot_none : (n : Name) → IsEventual n → N.spot n ≡ NoObject
  unfolding naming spot_of
  spot_none (Object w i) h = absurd h
  spot_none (Sent m) h = absurd h
  spot_none other h = refl

  none_pick : (b : Bool) (t : List ℕ) (n : Name) → b ≡ false → ◌≡◌ {A = Value Name} (elim b [ true ↦ Broken t | false ↦ Ref n ]) (Ref n)
  none_pick true t n e = absurd (no_true (sym e))
  none_pick false t n e = refl

  severed_none : (h : ℕ) (s : Vat Name) (n : Name) → is_in h s.noticed ≡ false → severed_by N h s n ≡ Ref n
  unfolding severed_by
  severed_none h s n e = none_pick (is_in h s.noticed) _ n e

  host_found : (s : Vat Name) (n : Name) (k : Known Name) → entry_of N s.known n ≡ Some k → host_at N s.number s.known n ≡ k.host
  unfolding host_at host_in
  host_found s n k e = ap (λ o. host_in s.number o) e

  -- a name that waits, and whose host was not noticed, is followed to itself
  severed_self : (s : Vat Name) (n : Name) (k : Known Name) (p : Spot) → p ≡ NoObject → entry_of N s.known n ≡ Some k → is_in k.host s.noticed ≡ false → severed_at N s n p ≡ Ref n
  unfolding severed_at
  severed_self s n k (Own i) e f h = refl
  severed_self s n k (Foreign w) e f h = cc
  severed_self s n k NoObject e f h = severed_none (host_at N s.number s.known n) s n (ap (λ x. is_in x s.noticed) (host_found s n k f) ∙ h)

  self_followed : heed ≡ true → (s : Vat Name) (n : Name) (k : Known Name) → Kept word v heed D Seen s → entry_of N s.known n ≡ Some k → still_waits k.standing ≡ true → follow N s (Ref n) ≡ Ref n
  unfolding follow severed
  self_followed on s n k r e w = ap (severed N s) (waits_stays N (suc (length s.known)) s.known n (ap still_waits (standing_found N s.known n k e) ∙ w)) ∙ severed_self s n k (N.spot n) (spot_none n (known_eventual s n k r e)) e (subst (λ hs. is_in k.host hs ≡ false) (heeds_all word v heed D Seen s on) (r.names.spared n k e w))

  tested_or : heed ≡ true → (s : Vat Name) (p : Name) (x : Value Name) (k : Known Name) (t : Standing Name) (c : ℕ) → Kept word v heed D Seen s → entry_of N s.known p ≡ Some k → k.standing ≡ t → ((z : Value Name) → t ≡ Settled z → ⊥) → ByView s p x → target_of N s p x ≡ Items c → IsTested N s (target_of N s p x) p ⊎ ViewSettled N s (target_of N s p x) p
  unfolding still_waits
  tested_or on s p x k (Settled z) c r e i unsettled by f = absurd (unsettled z refl)
  tested_or on s p x k (Viewed g) c r e i unsettled by f = let view : standing_of N s.known p ≡ Viewed g = standing_found N s.known p k e ∙ i in absurd ((by c (target_list s p x c f)).0 g view)
  tested_or on s p x k other c r e i unsettled by f = inl (x, refl, ap still_waits (standing_found N s.known p k e ∙ i), self_followed on s p k r e (ap still_waits i))

  -- a list settles only where what was noticed is heeded
  abbrev pub ListIf : Value Name → Type 0
  ListIf x = (c : ℕ) → x ≡ Items c → heed ≡ true

  pub settle_behind : (s : Vat Name) (p : Name) (x : Value Name) (k : Known Name) → Kept word v heed D Seen s → entry_of N s.known p ≡ Some k → ((z : Value Name) → k.standing ≡ Settled z → ⊥) → NoPromise x → ListIf x → ByView s p x → IsBehind N s (Settle (target_of N s p x)) p
  settle_behind s p x k r e unsettled not lists by = (no_promise_end s (target_of N s p x) r (λ n i. not n (target_ref s p x n i)), λ c f. tested_or (lists c (target_list s p x c f)) s p x k k.standing c r e refl unsettled by f)
