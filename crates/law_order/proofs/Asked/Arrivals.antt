-- How many notes that ask for a gift under a key are put, and how many gifts under it come to stand unopened, as a note arrives: no more than such gifts pass in it, one for a note that asks for one, and one for a new draw.
use Rattle.std.proofs.Common.{◌≡◌, ℕ, ◌+◌, ◌≤◌, Bool, true, false, List, [], ◌∷◌, ◌++◌, Option, Some, None, refl, sym, subst, arith, if◌then◌else◌, length}
use Rattle.std.proofs.lemmas.Bool.{eq-eqb}
use Rattle.std.specs.Prelude.{◌==◌, ◌&&◌, not}
use Rattle.def_machine.specs.Values.{Words, Value, Null, Flag, Number, Letter, Text, Prim, Broken, Items, Ref, Name, Naming, IsGift}
use Rattle.def_machine.specs.State.{ToTell, ListCame, Passed, Passeds, Plain, AGift, Many, NoMore, More, Delivery, Note, Deliver, Open, Ask, SettledTo, Elsewhere, Shorten, GiftEntry, Vat, Standing, Settled, Done, Gives, Act, ◌>>=◌, ◌>>◌, and_then, give, look, send_out, come, new_gift, open_gift, is_gift, with_opened, begun}
use Rattle.def_machine.specs.Refs as refs
use Rattle.def_machine.specs.Refs.{Place, Away}
use Rattle.def_machine.specs.Arrive as arrive
use Rattle.def_machine.specs.Arrive.{Incoming, Old, New, gift_at}
use Rattle.law_machine.specs.Machine.Steps.{After}
use Rattle.law_order.proofs.Ordering.Moves.{Keeps, IsKept, keeps_bind, keeps_then, keeps_if, keeps_give, keeps_look, keeps_tell, keeps_list, widen}
use Rattle.law_order.specs.Cuts.Letting.{once}
use Rattle.law_order.proofs.Asked.Weighs.{asks_for, is_shut, shut_in, more_asked, more_shut, Weighs, base, weighs_out, weighs_alter, weighs_come, weighs_mail, weighs_settle, weighs_resolve, weighs_send_on, weighs_inform, weighs_break_unopened}

-- ---- gifts that pass in what arrives

unfoldable mutual
  pub brought : {N : Type 0} → ℕ → Passed N → ℕ
  brought i (Plain y) = 0
  brought i (AGift h j) = once (j == i)
  brought i (Many ys) = brought_all i ys

  pub brought_all : {N : Type 0} → ℕ → Passeds N → ℕ
  brought_all i NoMore = 0
  brought_all i (More y ys) = brought i y + brought_all i ys

unfoldable pub brought_in : {N : Type 0} → ℕ → Note N → ℕ
brought_in i (Deliver d n verb ys) = brought_all i ys
brought_in i (SettledTo n y) = brought i y
brought_in i other = 0

-- ---- gifts at their host

-- once a gift that was found, or is new, is opened no more stand unopened
opened_less : (i p j : ℕ) (gs : List (GiftEntry Name)) → shut_in i (with_opened p j gs) ≤ shut_in i gs
unfolding with_opened shut_in is_shut once
opened_less i p j [] = omega arith
opened_less i p j (g ∷ gs) = go (is_gift p j g) (opened_less i p j gs)
  where
    shut : (b : Bool) → once (b && false) ≡ 0
    shut true = refl
    shut false = refl

    go : (b : Bool) → shut_in i (with_opened p j gs) ≤ shut_in i gs → shut_in i (elim b [ true ↦ record g { opened = true } ∷ gs | false ↦ g ∷ with_opened p j gs ]) ≤ once ((g.number == i) && not g.opened) + shut_in i gs
    go true r = let none = shut (g.number == i) in omega arith
    go false r = omega arith

opened_new : (i p j : ℕ) (gs : List (GiftEntry Name)) (g : GiftEntry Name) → is_gift p j g ≡ true → gift_at p j gs ≡ None → shut_in i (with_opened p j (gs ++ g ∷ [])) ≤ shut_in i gs
unfolding with_opened shut_in is_shut gift_at once
opened_new i p j [] g e f = subst (λ b. shut_in i (elim b [ true ↦ record g { opened = true } ∷ [] | false ↦ g ∷ [] ]) ≤ 0) (sym e) (shut (g.number == i))
  where
    shut : (b : Bool) → once (b && false) + 0 ≤ 0
    shut true = omega arith
    shut false = omega arith
opened_new i p j (h ∷ gs) g e f = go (is_gift p j h) f (λ k. opened_new i p j gs g e k)
  where
    go : (b : Bool) → ◌≡◌ {A = Option (GiftEntry Name)} (elim b [ true ↦ Some h | false ↦ gift_at p j gs ]) None → (gift_at p j gs ≡ None → shut_in i (with_opened p j (gs ++ g ∷ [])) ≤ shut_in i gs)
        → shut_in i (elim b [ true ↦ record h { opened = true } ∷ (gs ++ g ∷ []) | false ↦ h ∷ with_opened p j (gs ++ g ∷ []) ]) ≤ once (is_shut i h) + shut_in i gs
    go true k r = cc
    go false k r = let rest = r k in omega arith

is_it : (p j : ℕ) (g : GiftEntry Name) → g.provider ≡ p → g.number ≡ j → is_gift p j g ≡ true
unfolding is_gift
is_it p j g e f = subst (λ b. elim b [ true ↦ g.number == j | false ↦ false ] ≡ true) (sym (eq-eqb g.provider p e)) (eq-eqb g.number j f)

module _ (i : ℕ) where
  abbrev R : Vat Name → Vat Name → Type 0
  R = Weighs i 0

  same : IsKept R
  same = base i

  -- ---- one after another

  extra_more : {A : Type 0} (e f : ℕ) (s : Vat Name) (d : Done Name A) → After (Weighs i e) s d → After (Weighs i (e + f)) s d
  extra_more e f s (Gives a t) h = record { count = let a = h.count in omega arith }
  extra_more e f s other h = record { count = let a = h.count in omega arith }

  extra_later : {A : Type 0} (e f : ℕ) (s t : Vat Name) → Weighs i e s t → (d : Done Name A) → After (Weighs i f) t d → After (Weighs i (e + f)) s d
  extra_later e f s t h (Gives a u) k = record { count = let x = h.count in let y = k.count in omega arith }
  extra_later e f s t h other k = record { count = let x = h.count in let y = k.count in omega arith }

  -- an act adds so many at most
  pub record Adds {A : Type 0} (e : ℕ) (m : Act Name A) : Type 0 where
    pub after : (s : Vat Name) → After (Weighs i e) s (m s)

  bind_after : {A B : Type 0} (e f : ℕ) (s : Vat Name) (d : Done Name A) (g : A → Act Name B) → After (Weighs i e) s d → ((a : A) → Adds f (g a)) → After (Weighs i (e + f)) s (and_then d g)
  unfolding and_then
  bind_after e f s (Gives a t) g h k = extra_later e f s t h (g a t) ((k a).after t)
  bind_after e f s other g h k = record { count = let a = h.count in omega arith }

  bind_adds : {A B : Type 0} (e f : ℕ) {m : Act Name A} {g : A → Act Name B} → Adds e m → ((a : A) → Adds f (g a)) → Adds (e + f) (m >>= g)
  unfolding ◌>>=◌
  bind_adds e f {m} {g} h k = record { after = λ s. bind_after e f s (m s) g (h.after s) k }

  -- where the sum is another number
  as_many : {A : Type 0} {m : Act Name A} (e f : ℕ) → e ≡ f → Adds e m → Adds f m
  as_many {m = m} e f q h = subst (λ k. Adds k m) q h

  keep_after : {A : Type 0} (s : Vat Name) (d : Done Name A) (e : ℕ) → e ≡ 0 → After R s d → After (Weighs i e) s d
  keep_after s (Gives a t) e q h = record { count = let a = h.count in omega arith }
  keep_after s other e q h = record { count = let a = h.count in omega arith }

  kept : {A : Type 0} {m : Act Name A} → Keeps R m → Adds 0 m
  kept {m = m} h = record { after = λ s. h.after s }

  -- a first act that adds nothing, and a last one
  then_adds : {A B : Type 0} (f : ℕ) {m : Act Name A} {g : A → Act Name B} → Keeps R m → ((a : A) → Adds f (g a)) → Adds f (m >>= g)
  then_adds f {m} {g} h k = as_many {m = m >>= g} (0 + f) f (omega arith) (bind_adds 0 f (kept h) k)

  adds_then : {A B : Type 0} (e : ℕ) {m : Act Name A} {g : A → Act Name B} → Adds e m → ((a : A) → Keeps R (g a)) → Adds e (m >>= g)
  adds_then e {m} {g} h k = as_many {m = m >>= g} (e + 0) e (omega arith) (bind_adds e 0 h (λ a. kept (k a)))

  if_adds : {A : Type 0} (e : ℕ) (b : Bool) {m n : Act Name A} → Adds e m → Adds e n → Adds e (if b then m else n)
  if_adds e true h k = h
  if_adds e false h k = k

  wider : {A : Type 0} {m : Act Name A} (e : ℕ) → Keeps R m → Adds e m
  wider {m = m} e h = as_many {m = m} (0 + e) e (omega arith) (record { after = λ s. extra_more 0 e s (m s) (h.after s) })

  asked_adds : (w p j : ℕ) (n : Name) → Adds (once (j == i)) (send_out w (Ask p j n))
  unfolding send_out asks_for
  asked_adds w p j n = record { after = λ s. record { count = let more = more_asked i s.outbox (record { to = w; note = Ask p j n }) in omega arith } }

  module _ (K : Naming Name Name) where
    -- ---- learning

    name_learnt : (x : Incoming Name Name) → Keeps R (arrive.learn_name K x)
    unfolding arrive.learn_name
    name_learnt (Old n) = keeps_give R same n
    name_learnt (New n h) = weighs_come i K _ h

    value_learnt : (y : Value (Incoming Name Name)) → Keeps R (arrive.learn_value K y)
    unfolding arrive.learn_value
    value_learnt (Ref x) = keeps_bind R same (name_learnt x) (λ n. keeps_give R same (Ref n))
    value_learnt Null = keeps_give R same Null
    value_learnt (Flag b) = keeps_give R same (Flag b)
    value_learnt (Number z) = keeps_give R same (Number z)
    value_learnt (Letter c) = keeps_give R same (Letter c)
    value_learnt (Text t) = keeps_give R same (Text t)
    value_learnt (Prim n) = keeps_give R same (Prim n)
    value_learnt (Broken p) = keeps_give R same (Broken p)
    value_learnt (Items k) = keeps_give R same (Items k)

    gift_learnt : (p h j : ℕ) → Adds (once (j == i)) (arrive.learn_gift K p h j)
    unfolding arrive.learn_gift arrive.ask_for ◌>>◌ ◌>>=◌
    gift_learnt p h j = then_adds (once (j == i)) (weighs_come i K _ h) (λ n. adds_then (once (j == i)) (then_adds (once (j == i)) (keeps_look R same _)
        (λ b. if_adds (once (j == i)) b (wider (once (j == i)) (weighs_settle i K n _)) (asked_adds h p j n))) (λ u. keeps_give R same (Ref n)))

    list_made : (vs : List (Value Name)) → Keeps R (arrive.make_list K vs)
    unfolding arrive.make_list
    list_made vs = keeps_bind R same (keeps_list R same vs) (λ k. keeps_then R same (keeps_tell R same (ListCame k vs)) (keeps_give R same (Items k)))

    mutual
      unfolding arrive.learn arrive.learn_all brought brought_all

      learnt : (p : ℕ) (y : Passed (Incoming Name Name)) → Adds (brought i y) (arrive.learn K p y)
      learnt p (Plain y) = kept (value_learnt y)
      learnt p (AGift h j) = gift_learnt p h j
      learnt p (Many ys) = adds_then (brought_all i ys) (all_learnt p ys) (λ vs. list_made vs)

      all_learnt : (p : ℕ) (ys : Passeds (Incoming Name Name)) → Adds (brought_all i ys) (arrive.learn_all K p ys)
      all_learnt p NoMore = kept (keeps_give R same [])
      all_learnt p (More y ys) = bind_adds (brought i y) (brought_all i ys) (learnt p y) (λ v. adds_then (brought_all i ys) (all_learnt p ys) (λ vs. keeps_give R same (v ∷ vs)))

    message_learnt : (x : Incoming Name Name) → Keeps R (arrive.learn_message K x)
    unfolding arrive.learn_message
    message_learnt (Old n) = keeps_give R same n
    message_learnt (New x h) = weighs_mail i K _

    -- ---- gifts at their host

    gift_adds : (n : Name) (p j : ℕ) → Adds (once (j == i)) (new_gift n p j)
    unfolding new_gift is_shut once
    gift_adds n p j = record { after = λ s. record { count = let more = more_shut i s.gifts (record { name = n; provider = p; number = j; opened = false }) in let one = single n p j (j == i) in omega arith } }
      where
        single : (n : Name) (p j : ℕ) (b : Bool) → once (b && true) ≡ once b
        single n p j true = refl
        single n p j false = refl

    gift_or_new : (v p j : ℕ) (o : Option (GiftEntry Name)) → Adds (once (j == i)) (arrive.gift_or_new K v p j o)
    unfolding arrive.gift_or_new ◌>>◌ ◌>>=◌
    gift_or_new v p j (Some g) = wider (once (j == i)) (keeps_give R same g.name)
    gift_or_new v p j None = then_adds (once (j == i)) (weighs_come i K _ v) (λ n. adds_then (once (j == i)) (gift_adds n p j) (λ u. keeps_give R same n))

    pub gift_had : (p j : ℕ) → Adds (once (j == i)) (arrive.have_gift K p j)
    unfolding arrive.have_gift
    gift_had p j = then_adds (once (j == i)) (keeps_look R same _) (λ v. then_adds (once (j == i)) (keeps_look R same _) (λ g. gift_or_new v p j g))

    orphan_broken : (p j : ℕ) (n : Name) → Keeps R (arrive.break_orphan K p j n)
    unfolding arrive.break_orphan
    orphan_broken p j n = keeps_bind R same (keeps_look R same _) (λ a. keeps_bind R same (keeps_look R same _) (λ b. keeps_if R same a (weighs_break_unopened i K n b) (keeps_give R same tt)))

    asker_told : (n : Name) (w : ℕ) (t : Standing Name) → Keeps R (arrive.tell_asker K n w t)
    unfolding arrive.tell_asker
    asker_told n w (Settled y) = weighs_inform i K n w
    asker_told n w other = weighs_alter i K (ToTell w) n

    ask_adds : (from p j : ℕ) → Adds (once (j == i)) (arrive.arrive_ask K from p j)
    unfolding arrive.arrive_ask ◌>>◌ ◌>>=◌
    ask_adds from p j = adds_then (once (j == i)) (gift_had p j) (λ n. keeps_bind R same (orphan_broken p j n) (λ u. keeps_bind R same (keeps_look R same _) (λ t. asker_told n from t)))

    -- a gift that is there or comes to be is opened, and resolved
    opened_after : (y : Value Name) (v p j : ℕ) (o : Option (GiftEntry Name)) (s : Vat Name) → gift_at p j s.gifts ≡ o → After R s (and_then (arrive.gift_or_new K v p j o s) (λ n. open_gift p j >> refs.resolve K n y))
    unfolding arrive.gift_or_new ◌>>=◌ ◌>>◌ and_then come new_gift open_gift give
    opened_after y v p j (Some g) s e = let t : Vat Name = record s { gifts = with_opened p j s.gifts } in
        widen R same {s = s} {t = t} (record { count = let less = opened_less i p j s.gifts in omega arith }) (refs.resolve K g.name y t) ((weighs_resolve i K g.name y).after t)
    opened_after y v p j None s e = let n : Name = K.made (IsGift v j) (length s.known) in let g : GiftEntry Name = record { name = n; provider = p; number = j; opened = false } in
        let t : Vat Name = record s { known = s.known ++ begun n v ∷ []; gifts = with_opened p j (s.gifts ++ g ∷ []) } in
        widen R same {s = s} {t = t} (record { count = let less : shut_in i (with_opened p j (s.gifts ++ g ∷ [])) ≤ shut_in i s.gifts = opened_new i p j s.gifts g (is_it p j g refl refl) e in omega arith }) (refs.resolve K n y t) ((weighs_resolve i K n y).after t)

    had_opened : (y : Value Name) (p j : ℕ) → Keeps R (arrive.have_gift K p j >>= (λ n. open_gift p j >> refs.resolve K n y))
    unfolding arrive.have_gift ◌>>=◌ and_then look
    had_opened y p j = record { after = λ s. opened_after y s.number p j (gift_at p j s.gifts) s refl }

    -- ---- notes

    answered : (from : ℕ) (id n : Name) (verb : Words) (args : List (Value Name)) → Keeps R (arrive.send_on_asked K from id n verb args)
    unfolding arrive.send_on_asked
    answered from id n verb args = keeps_bind R same (keeps_look R same _) (λ v. keeps_bind R same (weighs_come i K _ v) (λ a. keeps_then R same (weighs_alter i K (ToTell from) a) (weighs_send_on i K _)))

    deliver_adds : (from : ℕ) (d : Delivery (Incoming Name Name)) (x : Incoming Name Name) (verb : Words) (ys : Passeds (Incoming Name Name)) → Adds (brought_all i ys) (arrive.arrive_deliver K from d x verb ys)
    unfolding arrive.arrive_deliver
    deliver_adds from d x verb ys = then_adds (brought_all i ys) (message_learnt d.message) (λ id. adds_then (brought_all i ys) (all_learnt from ys) (λ args. keeps_bind R same (name_learnt x)
        (λ n. keeps_if R same d.asks (answered from id n verb args) (weighs_send_on i K _))))

    settled_adds : (from : ℕ) (x : Incoming Name Name) (y : Passed (Incoming Name Name)) → Adds (brought i y) (arrive.arrive_settled K from x y)
    unfolding arrive.arrive_settled
    settled_adds from x y = then_adds (brought i y) (name_learnt x) (λ n. adds_then (brought i y) (learnt from y) (λ z. weighs_settle i K n z))

    shorten_kept : (j : ℕ) (q : Place Name) → Keeps R (arrive.shorten_to K j q)
    unfolding arrive.shorten_to asks_for once
    shorten_kept j (Away h n true) = weighs_out i h (Open j n) refl
    shorten_kept j other = keeps_give R same tt

    shorten_keeps : (x : Incoming Name Name) (j : ℕ) → Keeps R (arrive.arrive_shorten K x j)
    unfolding arrive.arrive_shorten
    shorten_keeps x j = keeps_bind R same (name_learnt x) (λ n. keeps_bind R same (keeps_look R same _) (λ p. shorten_kept j p))

    open_keeps : (from j : ℕ) (x : Incoming Name Name) → Keeps R (arrive.arrive_open K from j x)
    unfolding arrive.arrive_open
    open_keeps from j x = keeps_bind R same (name_learnt x) (λ y. had_opened (Ref y) from j)

    -- so many as pass in the note, or are asked for
    abbrev pub extra : Note (Incoming Name Name) → ℕ
    extra n = brought_in i n + once (asks_for i n)

    abbrev pub TellsNotElsewhere : Note (Incoming Name Name) → Type 0
    TellsNotElsewhere (Elsewhere x c) = ⊥
    TellsNotElsewhere other = Unit {0}

    pub note_adds : (from : ℕ) (n : Note (Incoming Name Name)) → TellsNotElsewhere n → Adds (extra n) (arrive.arrive K from n)
    unfolding arrive.arrive brought_in asks_for once
    note_adds from (Deliver d x verb ys) h = as_many {m = arrive.arrive_deliver K from d x verb ys} (brought_all i ys) (brought_all i ys + 0) (omega arith) (deliver_adds from d x verb ys)
    note_adds from (Open j x) h = kept (open_keeps from j x)
    note_adds from (Ask p j x) h = as_many {m = arrive.arrive_ask K from p j} (once (j == i)) (0 + once (j == i)) (omega arith) (ask_adds from p j)
    note_adds from (SettledTo x y) h = as_many {m = arrive.arrive_settled K from x y} (brought i y) (brought i y + 0) (omega arith) (settled_adds from x y)
    note_adds from (Elsewhere x c) h = absurd h
    note_adds from (Shorten x c j) h = kept (shorten_keeps x j)
