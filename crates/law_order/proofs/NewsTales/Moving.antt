-- What a vat does as it is told what became of a name moves no message.
use Rattle.std.proofs.Common.{◌≡◌, ℕ, List, [], ◌∷◌, ◌++◌, Some, refl, sym, ap, subst, ◌∙◌, ◌⊎◌, inl, inr}
use Rattle.std.proofs.lemmas.List.{append-nil}
use Rattle.def_machine.specs.Values.{Value, Name, Naming, IsGift, naming, name_of}
use Rattle.def_machine.specs.State.{Known, Change, Wait, See, WaitOn, Settle, Shorten, Ask, Note, Happened, Views, Waits, Vat, Gives, begun, come, changed, changed_to, with_change}
use Rattle.def_machine.specs.Refs.{entry_of}
use Rattle.def_machine.specs.Arrive as arrive
use Rattle.def_machine.specs.Arrive.{Incoming, Old, New}
use Rattle.def_run.specs.World.{Script, names}
use Rattle.law_fate.proofs.Fates.Leads.{Leads, Ends, leads_give}
use Rattle.law_reference.proofs.Reference.Kept.{changed_or}
use Rattle.law_order.specs.Ordering.Places.{held_on, held_in}
use Rattle.law_order.specs.Ordering.Settlings.{with_line}
use Rattle.law_order.proofs.Ordering.Entries.{Differs, as_it_was, changes, differs}
use Rattle.law_order.specs.Arrivals.Views.{view_word, view_key, view_name, asked_vat, seen_vat}
use Rattle.law_order.proofs.News.Home as home
use Rattle.law_order.specs.Tales.Middle.{DeliversNothing, IsQuietLine, MovesNone}
use Rattle.law_order.proofs.Tales.Stilling.{Any, base, still, still_come}

-- a change of a name that moves nothing which it holds
abbrev pub LeavesHeld : Change Name → Type 0
LeavesHeld (Wait q) = Unit {0}
LeavesHeld (See q) = Unit {0}
LeavesHeld (WaitOn q) = Unit {0}
LeavesHeld other = ⊥

module _ (script : Script) (v : ℕ) where
  abbrev K : Naming Name Name
  K = names script v

  abbrev R : Vat Name → Vat Name → Type 0
  R = MovesNone K

  -- one after the other
  pub on : {s t u : Vat Name} → R s t → R t u → R s u
  on {s} {t} {u} h k = (base K).trans {s = s} {t = t} {u = u} h k

  held_to : (c : Change Name) (k : Known Name) → LeavesHeld c → (changed_to c k).held ≡ k.held
  unfolding changed_to
  held_to (Wait q) k h = refl
  held_to (See q) k h = refl
  held_to (WaitOn q) k h = refl
  held_to other k h = absurd h

  held_same : (c : Change Name) (k : Known Name) → LeavesHeld c → (changed c k).held ≡ k.held
  held_same c k h = go (changed_or c k)
    where
      go : (changed c k ≡ k) ⊎ (changed c k ≡ changed_to c k) → (changed c k).held ≡ k.held
      go (inl e) = ap (λ (j : Known Name). j.held) e
      go (inr e) = ap (λ (j : Known Name). j.held) e ∙ held_to c k h

  -- where what an entry holds stays, so does what the name holds
  held_by : (c : Change Name) (p n : Name) (ks : List (Known Name)) → ((k : Known Name) → entry_of K ks p ≡ Some k → (changed c k).held ≡ k.held) → held_in n (entry_of K (with_change K c p ks) n) ≡ held_in n (entry_of K ks n)
  unfolding held_in
  held_by c p n ks h = go (differs script v c p n ks)
    where
      go : Differs script v c p n (entry_of K ks n) (entry_of K (with_change K c p ks) n) → held_in n (entry_of K (with_change K c p ks) n) ≡ held_in n (entry_of K ks n)
      go (as_it_was i) = ap (λ o. held_in n o) i
      go (changes k i a b) = ap (λ o. held_in n o) b ∙ ap (λ ms. held_on n ms) (h k (subst (λ z. entry_of K ks z ≡ Some k) i a)) ∙ sym (ap (λ o. held_in n o) a)

  -- ---- single changes

  pub change_moves : (s : Vat Name) (c : Change Name) (p : Name) → LeavesHeld c → R s (record s { known = with_change K c p s.known })
  change_moves s c p h = still K s (record s { known = with_change K c p s.known }) refl (λ n. held_by c p n s.known (λ k e. held_same c k h)) refl refl

  -- a name that holds nothing settles
  pub settle_moves : (s : Vat Name) (y : Value Name) (p : Name) → ((k : Known Name) → entry_of K s.known p ≡ Some k → (changed (Settle y) k).held ≡ k.held) → R s (record s { known = with_change K (Settle y) p s.known })
  settle_moves s y p h = still K s (record s { known = with_change K (Settle y) p s.known }) refl (λ n. held_by (Settle y) p n s.known h) refl refl

  pub line_moves : (s : Vat Name) (e : Happened Name) → IsQuietLine e → R s (record s { happened = s.happened ++ e ∷ [] })
  line_moves s e q = record { queue = refl; held = λ n. refl; puts = []; outbox = sym (append-nil s.outbox); none = tt; lines = e ∷ []; happened = refl; quiet = (q, tt) }

  pub put_moves : (s : Vat Name) (to : ℕ) (n : Note Name) → DeliversNothing n → R s (record s { outbox = s.outbox ++ record { to = to; note = n } ∷ [] })
  put_moves s to n h = record { queue = refl; held = λ m. refl; puts = record { to = to; note = n } ∷ []; outbox = refl; none = (h, tt); lines = []; happened = sym (append-nil s.happened); quiet = tt }

  -- the rest of a vat tells nothing of messages
  pub rest_moves : (s t : Vat Name) → t.queue ≡ s.queue → t.known ≡ s.known → t.outbox ≡ s.outbox → t.happened ≡ s.happened → R s t
  rest_moves s t e f g h = still K s t e (λ n. ap (λ ks. held_in n (entry_of K ks n)) f) g h

  pub gift_moves : (s : Vat Name) (h i : ℕ) → let n = K.made (IsGift h i) 0 in R s (record s { known = s.known ++ begun n h ∷ [] })
  unfolding come names naming name_of
  gift_moves s h i = (still_come K (IsGift h i) h).after s

  -- ---- a name is learnt

  name_learnt : (x : Incoming Name Name) → Leads Any R (arrive.learn_name K x)
  unfolding arrive.learn_name
  name_learnt (Old n) = leads_give Any R (base K) n
  name_learnt (New x h) = still_come K _ h

  pub learnt_moves : (x : Incoming Name Name) (n : Name) (s t : Vat Name) → arrive.learn_name K x s ≡ Gives n t → R s t
  learnt_moves x n s t e = subst (λ d. Ends Any R s d) e ((name_learnt x).after s)

  -- ---- a name comes to wait, and has a gift as its view

  pub wait_moves : (s : Vat Name) (p q : Name) → R s (with_line (record s { known = with_change K (Wait p) q (with_change K (WaitOn q) p s.known) }) (Waits p q))
  wait_moves s p q = let one : Vat Name = record s { known = with_change K (WaitOn q) p s.known } in let two : Vat Name = record one { known = with_change K (Wait p) q one.known } in
      on {s = s} {t = one} (change_moves s (WaitOn q) p tt) (on {s = one} {t = two} (change_moves one (Wait p) q tt) (line_moves two (Waits p q) tt))

  module _ (s : Vat Name) (n q : Name) where
    pub see_moves : R s (record s { known = with_change K (Wait n) q (with_change K (See q) n s.known); happened = s.happened ++ Views n q ∷ [] })
    see_moves = let one : Vat Name = record s { known = with_change K (See q) n s.known } in let two : Vat Name = record one { known = with_change K (Wait n) q one.known } in
        on {s = s} {t = one} (change_moves s (See q) n tt) (on {s = one} {t = two} (change_moves one (Wait n) q tt) (line_moves two (Views n q) tt))

  pub far_moves : (h c : ℕ) (s : Vat Name) (n : Name) → R s (seen_vat script v h c n s)
  unfolding names naming name_of
  far_moves h c s n = let drawn : Vat Name = record s { drawn = s.drawn ++ view_word script v h c n s ∷ [] } in
      let first : Vat Name = record drawn { outbox = s.outbox ++ record { to = h; note = Shorten n c (view_key script v h c n s) } ∷ [] } in
      let second : Vat Name = record first { known = s.known ++ begun (view_name script v h c n s) c ∷ [] } in
      on {s = s} {t = drawn} (rest_moves s drawn refl refl refl refl) (on {s = drawn} {t = first} (put_moves drawn h (Shorten n c (view_key script v h c n s)) tt)
      (on {s = first} {t = second} (gift_moves first c (view_key script v h c n s))
      (on {s = second} {t = asked_vat script v h c n s} (put_moves second c (Ask h (view_key script v h c n s) (view_name script v h c n s)) tt)
      (see_moves (asked_vat script v h c n s) n (view_name script v h c n s)))))

  pub home_moves : (h : ℕ) (s : Vat Name) (n : Name) → R s (home.Saw script v h s n)
  unfolding names naming name_of
  home_moves h s n = let q : Name = view_name script v h v n s in
      let drawn : Vat Name = record s { drawn = s.drawn ++ view_word script v h v n s ∷ [] } in
      let first : Vat Name = record drawn { outbox = s.outbox ++ record { to = h; note = Shorten n v (view_key script v h v n s) } ∷ [] } in
      let second : Vat Name = record first { known = s.known ++ begun q v ∷ [] } in
      let had : Vat Name = home.Had script v h s n in
      on {s = s} {t = drawn} (rest_moves s drawn refl refl refl refl) (on {s = drawn} {t = first} (put_moves drawn h (Shorten n v (view_key script v h v n s)) tt)
      (on {s = first} {t = second} (gift_moves first v (view_key script v h v n s))
      (on {s = second} {t = had} (rest_moves second had refl refl refl refl) (see_moves had n q))))
