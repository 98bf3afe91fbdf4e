-- After a whole send the new message is ahead of the place to which the value led.
use Rattle.std.proofs.Common.{◌≡◌, ℕ, suc, Bool, true, false, List, [], ◌∷◌, ◌++◌, Option, Some, None, length, refl, sym, ap, subst, ◌∙◌, ◌⊎◌, inl, inr}
use Rattle.std.specs.Prelude.{slice_get, codes, ◌==◌}
use Rattle.def_machine.specs.Values.{Words, Value, Null, Broken, Ref, Name, Root, Object, Answer, Sent, Naming, Spot, Own, Foreign, NoObject, naming, name_of, mail_of, answer_of, spot_of}
use Rattle.def_machine.specs.State.{Message, Known, Passeds, Put, Deliver, Posted, Sends, Vat, Done, Gives, ◌>>=◌, ◌>>◌, and_then, give, look, tell, send_out, new_message, new_lone_message, is_in, begun}
use Rattle.def_machine.specs.State as state
use Rattle.def_machine.specs.Refs as refs
use Rattle.def_machine.specs.Refs.{Place, Mine, Away}
use Rattle.def_run.specs.World.{Script, World, names}
use Rattle.law_order.specs.Ordering.Ways.{Ahead}
use Rattle.law_order.specs.Ordering.Ways as lanes
use Rattle.law_order.specs.Ordering.Places.{aimed, by_follow, of_name, leads_in, leads_at, leads, ways, amid}
use Rattle.law_order.specs.Ordering.Worlds.{IfGives, IsWaiting, IsObject, IsFixed}
use Rattle.law_order.proofs.Ordering.Sends.{get_put, sent, away, if_map}
use Rattle.law_order.proofs.Ordering.Coming.{old_entry, waits_here}
use Rattle.law_order.specs.Ordering.Steps.{LeadsAmid, Ready, IsHeld, SendsAreAhead}

-- ---- where a value in hand leads

module _ (script : Script) (honest : ℕ → Bool) (w : World) (v : ℕ) (r s : Vat Name) (at : slice_get w.vats v ≡ Some r) where
  abbrev K : Naming Name Name
  K = names script v

  known_leads : (n : Name) (k : Known Name) → of_name script honest v s n (Some k) ≡ by_follow script honest v s (Ref n)
  unfolding of_name
  known_leads (Root h) k = refl
  known_leads other k = refl

  object_leads : (n : Name) (o : Option (Known Name)) → IsObject n → of_name script honest v s n o ≡ by_follow script honest v s (Ref n)
  unfolding of_name
  object_leads (Object h i) o e = refl
  object_leads other o e = absurd e

  held_leads : (x : Value Name) → IsHeld script honest w v s x → leads_in script honest v s x ≡ by_follow script honest v s x
  unfolding leads_in
  held_leads (Ref n) (inl i) = object_leads n (refs.entry_of K s.known n) i
  held_leads (Ref n) (inr h) = ap (λ o. of_name script honest v s n o) h.1 ∙ known_leads n h.0
  held_leads other i = refl

  pub leads_there : (x : Value Name) → IsHeld script honest w v s x → LeadsAmid script honest w v s v x ≡ aimed v (refs.follow K s x) (refs.place K s (refs.follow K s x))
  unfolding leads leads_at amid by_follow
  leads_there x i = ap (λ o. leads_at script honest v o x) (get_put w.vats v r s at) ∙ held_leads x i

-- ---- a promise of the vat is known and waits

abbrev IsNone : Spot → Type 0
IsNone NoObject = Unit {0}
IsNone other = ⊥

module _ (script : Script) (honest : ℕ → Bool) (w : World) (v : ℕ) (s : Vat Name) (ready : Ready script honest w v s) where
  abbrev At : Name → Place Name → Type 0
  At n (Mine m) = m ≡ n
  At n other = ⊥

  abbrev Waits : Name → Type 0
  Waits n = (k : Known Name) × (refs.entry_of (names script v) s.known n ≡ Some k) × IsWaiting k.standing

  waits_by : (m n : Name) → IsObject m ⊎ Waits m → (IsObject m → ⊥) → m ≡ n → Waits n
  waits_by m n (inl i) f e = absurd (f i)
  waits_by m n (inr h) f e = subst Waits e h

  severed_waits : (m n : Name) (h : ℕ) (b : Bool) → (At n (refs.place (names script v) s (Ref m)) → Waits n) → At n (refs.place (names script v) s (elim b [ true ↦ Broken (codes "partition") | false ↦ Ref m ])) → Waits n
  unfolding refs.place
  severed_waits m n h true f a = absurd a
  severed_waits m n h false f a = f a

  hosted_waits : (m n : Name) (h : ℕ) (b : Bool) → (m ≡ n → Waits n) → At n (elim b [ true ↦ Mine m | false ↦ Away h m false ]) → Waits n
  hosted_waits m n h true f a = f a
  hosted_waits m n h false f a = absurd a

  not_object : (m : Name) → (names script v).spot m ≡ NoObject → IsObject m → ⊥
  unfolding names naming spot_of
  not_object (Object h i) e o = go (v == h) e
    where
      go : (b : Bool) → elim b [ true ↦ Own i | false ↦ Foreign h ] ≡ NoObject → ⊥
      go true q = subst IsNone (sym q) tt
      go false q = subst IsNone (sym q) tt
  not_object other e o = o

  spotted_waits : (m n : Name) (q : Spot) → (names script v).spot m ≡ q → IsObject m ⊎ Waits m → At n (refs.spotted (names script v) s m q) → Waits n
  unfolding refs.spotted refs.hosted
  spotted_waits m n NoObject e h a = hosted_waits m n (refs.host_at (names script v) s.number s.known m) (s.number == refs.host_at (names script v) s.number s.known m) (λ q. waits_by m n h (not_object m e) q) a
  spotted_waits m n other e h a = absurd a

  placed_waits : (m n : Name) → IsObject m ⊎ Waits m → At n (refs.place (names script v) s (Ref m)) → Waits n
  unfolding refs.place
  placed_waits m n h a = spotted_waits m n ((names script v).spot m) refl h a

  cut_waits : (m n : Name) (q : Spot) → IsObject m ⊎ Waits m → At n (refs.place (names script v) s (refs.severed_at (names script v) s m q)) → Waits n
  unfolding refs.severed_at refs.severed_by
  cut_waits m n (Own i) h a = placed_waits m n h a
  cut_waits m n (Foreign g) h a = severed_waits m n g (is_in g s.noticed) (λ q. placed_waits m n h q) a
  cut_waits m n NoObject h a = let g = refs.host_at (names script v) s.number s.known m in severed_waits m n g (is_in g s.noticed) (λ q. placed_waits m n h q) a

  fixed_waits : (n : Name) (z : Value Name) → IsFixed (names script v) s z → At n (refs.place (names script v) s (refs.severed (names script v) s z)) → Waits n
  unfolding refs.severed refs.place
  fixed_waits n (Ref m) h a = cut_waits m n ((names script v).spot m) h a
  fixed_waits n other h a = absurd a

  object_stands : (n : Name) → IsObject n → refs.follow_at (names script v) (suc (length s.known)) s.known (Ref n) ≡ Ref n
  unfolding refs.follow_at refs.standing_of refs.standing_in
  object_stands n i = waits_here (names script v) (λ y. refs.follow_at (names script v) (length s.known) s.known y) n (refs.standing_of (names script v) s.known n) (subst (λ o. IsWaiting (refs.standing_in o)) (sym (ready.ends.objects n i)) tt)

  followed_fixed : (x : Value Name) → IsHeld script honest w v s x → IsFixed (names script v) s (refs.follow_at (names script v) (suc (length s.known)) s.known x)
  unfolding refs.follow_at
  followed_fixed (Ref n) (inl i) = subst (IsFixed (names script v) s) (sym (object_stands n i)) (inl i)
  followed_fixed (Ref n) (inr h) = ready.ends.fixed n h
  followed_fixed other i = tt

  pub mine_waits : (x : Value Name) (n : Name) → IsHeld script honest w v s x → refs.place (names script v) s (refs.follow (names script v) s x) ≡ Mine n → Waits n
  unfolding refs.follow
  mine_waits x n i e = fixed_waits n (refs.follow_at (names script v) (suc (length s.known)) s.known x) (followed_fixed x i) (subst (At n) (sym e) refl)

-- ---- the send

module _ (script : Script) (honest : ℕ → Bool) (w : World) (v act : ℕ) (x : Value Name) (verb : Words) (args : List (Value Name)) (r s : Vat Name) (at : slice_get w.vats v ≡ Some r) (here : honest v ≡ true) (ready : Ready script honest w v s) (hand : IsHeld script honest w v s x) where
  abbrev Y : Value Name
  Y = refs.follow (names script v) s x

  -- what is ahead when it is over
  abbrev Then : Place Name → Vat Name → Type 0
  Then p t = Ahead (ways script honest (amid v t w)) (Sent (record { sender = v; number = s.messages })) (aimed v Y p)

  abbrev Honest : Place Name → Type 0
  Honest p = (h : ℕ) (n : Name) (o : Bool) → p ≡ Away h n o → honest h ≡ true

  module _ (m : Message Name) (mine : m.id ≡ Sent (record { sender = v; number = s.messages })) (q : Vat Name) (waits_still : (n : Name) (k : Known Name) → refs.entry_of (names script v) s.known n ≡ Some k → refs.entry_of (names script v) q.known n ≡ Some k) where
    abbrev Waiting : Place Name → Type 0
    Waiting p = (n : Name) → p ≡ Mine n → (k : Known Name) × (refs.entry_of (names script v) q.known n ≡ Some k) × IsWaiting k.standing

    abbrev PutLast : ℕ → Name → Vat Name → Type 0
    PutLast h n t = (ps : List (Put Name)) × (ys : Passeds Name) × (t.outbox ≡ ps ++ record { to = h; note = Deliver (refs.delivery_of (names script v) m) n m.verb ys } ∷ [])

    put_last : (h : ℕ) (n : Name) → IfGives (PutLast h n) (refs.deliver (names script v) m h n q)
    unfolding refs.deliver ◌>>=◌ ◌>>◌ and_then tell send_out
    put_last h n = go (refs.pass_all (names script v) h m.args q)
      where
        go : (d : Done Name (Passeds Name)) → IfGives (PutLast h n) (and_then d (λ ys. tell (Posted h m.id) >> send_out h (Deliver (refs.delivery_of (names script v) m) n m.verb ys)))
        go (Gives ys t) = (t.outbox, ys, refl)
        go other = tt

    delivered_ahead : (h : ℕ) (n : Name) (o : Bool) → Honest (Away h n o) → IfGives (Then (Away h n o)) (refs.deliver (names script v) m h n q)
    unfolding aimed
    delivered_ahead h n o f = if_map (PutLast h n) (Then (Away h n o)) (λ t p. subst (λ i. Ahead (ways script honest (amid v t w)) i (lanes.End (lanes.Way v h) n)) mine (away script honest w v r t at h here (f h n o refl) (refs.delivery_of (names script v) m) n m.verb p.1 p.0 p.2)) (refs.deliver (names script v) m h n q) (put_last h n)

    held_ahead : (p : Place Name) → Waiting p → Honest p → IfGives (Then p) (refs.send_to (names script v) (refs.settle (names script v)) m Y p q)
    held_ahead p f g = subst (λ i. IfGives (λ t. Ahead (ways script honest (amid v t w)) i (aimed v Y p)) (refs.send_to (names script v) (refs.settle (names script v)) m Y p q)) mine (sent script honest w v r q (refs.settle (names script v)) m at here Y p f g)

    first_ahead : (p : Place Name) → Waiting p → Honest p → IfGives (Then p) (refs.send_first (names script v) m Y p q)
    unfolding refs.send_first
    first_ahead (Away h n o) f g = delivered_ahead h n o g
    first_ahead other f g = held_ahead other f g

  then_gives : {A : Type 0} (P : Vat Name → Type 0) (d : Done Name (Unit {0})) (y : A) → IfGives P d → IfGives P (and_then d (λ _. give y))
  unfolding and_then give
  then_gives P (Gives b t) y h = h
  then_gives P other y h = tt

  abbrev New : ℕ → Name
  New h = Answer h (record { sender = v; number = s.messages })

  abbrev Line : ℕ → state.Happened Name
  Line h = Sends act (record { id = Sent (record { sender = v; number = s.messages }); target = x; verb = verb; args = args; answer = Some (New h) })

  abbrev After : ℕ → Vat Name
  After h = record s { messages = suc s.messages; mails = s.mails ++ Sent (record { sender = v; number = s.messages }) ∷ []; known = s.known ++ begun (New h) h ∷ []; happened = s.happened ++ Line h ∷ [] }

  abbrev First : ℕ → Message Name
  First h = record { id = Sent (record { sender = v; number = s.messages }); target = Y; verb = verb; args = args; answer = Some (New h) }

  abbrev Place0 : Place Name
  Place0 = refs.place (names script v) s Y

  abbrev Host : ℕ
  Host = refs.answer_host (names script v) s.number Place0

  send_ahead : Honest Place0 → IfGives (Then Place0) (refs.send (names script v) act x verb args s)
  unfolding refs.send ◌>>=◌ ◌>>◌ and_then look tell new_message give names naming name_of mail_of answer_of
  send_ahead f = then_gives (Then Place0) (refs.send_first (names script v) (First Host) Y Place0 (After Host)) (Ref (New Host))
      (first_ahead (First Host) refl (After Host) (λ n k e. old_entry (names script v) s.known (begun (New Host) Host) k n e) Place0
      (λ n e. let k = mine_waits script honest w v s ready x n hand e in (k.0, old_entry (names script v) s.known (begun (New Host) Host) k.0 n k.1, k.2)) f)

  abbrev LoneAfter : Vat Name
  LoneAfter = record s { messages = suc s.messages; mails = s.mails ++ Sent (record { sender = v; number = s.messages }) ∷ []; happened = s.happened ++ Sends act (record { id = Sent (record { sender = v; number = s.messages }); target = x; verb = verb; args = args; answer = None }) ∷ [] }

  abbrev LoneFirst : Message Name
  LoneFirst = record { id = Sent (record { sender = v; number = s.messages }); target = Y; verb = verb; args = args; answer = None }

  lone_ahead : Honest Place0 → IfGives (Then Place0) (refs.send_only (names script v) act x verb args s)
  unfolding refs.send_only ◌>>=◌ ◌>>◌ and_then look tell new_lone_message give names naming name_of mail_of answer_of
  lone_ahead f = then_gives (Then Place0) (refs.send_first (names script v) LoneFirst Y Place0 LoneAfter) Null
      (first_ahead LoneFirst refl LoneAfter (λ n k e. e) Place0 (λ n e. mine_waits script honest w v s ready x n hand e) f)

pub sends_are_ahead : SendsAreAhead
sends_are_ahead = λ script honest w v act x verb args r s at here f ready hand.
    let Then : (Vat Name → Type 0) = (λ t. Ahead (ways script honest (amid v t w)) (Sent (record { sender = v; number = s.messages })) (aimed v (refs.follow (names script v) s x) (refs.place (names script v) s (refs.follow (names script v) s x)))) in
    let Goal : (Vat Name → Type 0) = (λ t. Ahead (ways script honest (amid v t w)) (Sent (record { sender = v; number = s.messages })) (LeadsAmid script honest w v s v x)) in
    let led : ((t : Vat Name) → Then t → Goal t) = (λ t a. subst (λ c. Ahead (ways script honest (amid v t w)) (Sent (record { sender = v; number = s.messages })) c) (sym (leads_there script honest w v r s at x hand)) a) in (
      if_map Then Goal led (refs.send (names script v) act x verb args s) (send_ahead script honest w v act x verb args r s at here ready hand f),
      if_map Then Goal led (refs.send_only (names script v) act x verb args s) (lone_ahead script honest w v act x verb args r s at here ready hand f),
    )
