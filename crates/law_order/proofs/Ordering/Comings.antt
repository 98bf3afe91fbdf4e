-- A message that is sent, and one that arrives, comes to stand last.
use Rattle.std.proofs.Common.{◌≡◌, ℕ, zero, suc, ◌-◌, Bool, true, false, List, [], ◌∷◌, ◌++◌, Option, Some, None, length, refl, sym, ap, subst, ◌∙◌, ◌⊎◌, inl, inr}
use Rattle.std.specs.Prelude.{slice_get, ◌&&◌}
use Rattle.def_machine.specs.Values.{Words, Value, Null, Ref, Name, Answer, Sent, Naming, naming, name_of, mail_of, answer_of, key}
use Rattle.def_machine.specs.State.{Message, Known, Hold, Change, Passed, Passeds, AGift, Delivery, Note, Deliver, Open, Vat, Done, Gives, Posted, Sends, ◌>>=◌, ◌>>◌, and_then, give, look, tell, send_out, new_message, new_lone_message, draw, draws, drawn_at, alter, ToTell, begun}
use Rattle.def_machine.specs.State as state
use Rattle.def_machine.specs.Refs.{Place, Near, Mine, Away, Gone, Settler}
use Rattle.def_machine.specs.Refs as refs
use Rattle.def_run.specs.World.{Script, Link, World, names}
use Rattle.def_run.specs.World as world
use Rattle.law_machine.specs.Machine.Steps.{After}
use Rattle.law_order.specs.Ordering.Ways.{Lane, Queue, Held, Way, Item, Nowhere, Free, End, Ways, Doom, nowhere, by_end}
use Rattle.law_order.specs.Ordering.Ways as lanes
use Rattle.law_order.specs.Ordering.Places as places
use Rattle.law_order.specs.Ordering.Places.{item, queued, held_on, delivered, is_honest, aimed, stands_at, over, onward_at, ways_of, ways, amid}
use Rattle.law_order.specs.Ordering.Changes.{Grows, GoesOneWay}
use Rattle.law_order.specs.Ordering.Worlds.{IfGives, IsWaiting}
use Rattle.law_order.specs.Ordering.Steps.{StaysReady, LeadsAmid, Ready, IsHeld}
use Rattle.law_order.specs.Ordering.Arrivals.{keeping, GoesTo, IsHere}
use Rattle.law_order.specs.Ordering.Comings.{ComesLast, ComesBehind, MovesLast, SendsComeLast, CarriedComeLast}
use Rattle.law_order.proofs.Ordering.Sends.{pushed_shut, pushed_open, pushed_ends, link_here, link_behind, push_last, found_ends, held_by, entry_changed, if_all, if_map, if_both}
use Rattle.law_order.proofs.Ordering.Standing.{queued_end, held_end, queue_is, held_is, delivered_append, OnLink, Row, row_still}
use Rattle.law_order.proofs.Ordering.Passings.{keeps_pass_all}
use Rattle.law_order.proofs.Ordering.Moves.{Keeps, IsKept}
use Rattle.law_order.proofs.Ordering.Messages.{comers_are_behind, gone_on_is_behind}
use Rattle.law_order.proofs.Ordering.Arrived.{IsOpen, all_open, carried_messages_go_on}
use Rattle.law_order.proofs.Ordering.Coming.{old_entry}
use Rattle.law_order.proofs.Ordering.Sent.{leads_there, mine_waits}
use Rattle.law_order.proofs.Ordering.Sendings.{stays_send, stays_send_only}

-- ---- what stands on a link

module _ (script : Script) (honest : ℕ → Bool) where
  -- the link on which a note is put
  abbrev Then : (Link → Link) → Option Link → Option Link
  Then f (Some l) = Some (f l)
  Then f None = None

  pub put_on : (f : Link → Link) (v h : ℕ) → ((l : Link) → world.is_link v h (f l) ≡ world.is_link v h l) → (ls : List Link) (o : Option Link) → world.link_at v h ls ≡ o → world.link_at v h (world.with_link f v h ls) ≡ Then f o
  unfolding world.with_link world.link_at
  put_on f v h same [] o e = ap (λ p. Then f p) e
  put_on f v h same (k ∷ ls) o e = go (λ q. put_on f v h same ls o q) (world.is_link v h k) refl e
    where
      go : (world.link_at v h ls ≡ o → world.link_at v h (world.with_link f v h ls) ≡ Then f o) → (c : Bool) → world.is_link v h k ≡ c → elim c [ true ↦ Some k | false ↦ world.link_at v h ls ] ≡ o
          → world.link_at v h (elim c [ true ↦ f k ∷ ls | false ↦ k ∷ world.with_link f v h ls ]) ≡ Then f o
      go g true i q = link_here v h (f k) ls (same k ∙ i) ∙ ap (λ p. Then f p) q
      go g false i q = link_behind v h k (world.with_link f v h ls) i ∙ g q

  -- a link that is cut, or is not there
  abbrev pub IsShut : Option Link → Type 0
  IsShut (Some l) = (l.cut ≡ true) × (is_honest script honest l ≡ true)
  IsShut None = Unit {0}

  pub shut_nowhere : (v h : ℕ) (n : Name) (vs : List (Vat Name)) (ls : List Link) (o : Option Link) → world.link_at v h ls ≡ o → IsShut o → onward_at script honest vs ls (Way v h) n ≡ Nowhere
  unfolding onward_at over
  shut_nowhere v h n vs ls None e q = ap (λ o. elim o [ Some l ↦ over script honest vs ls h n l | None ↦ Nowhere ]) e
  shut_nowhere v h n vs ls (Some l) e q =
      ap (λ o. elim o [ Some k ↦ over script honest vs ls h n k | None ↦ Nowhere ]) e
      ∙ ap (λ c. elim c [ true ↦ elim l.cut [ true ↦ Nowhere | false ↦ places.leads script honest vs ls h (Ref n) ] | false ↦ Free ]) q.1
      ∙ ap (λ c. elim c [ true ↦ Nowhere | false ↦ places.leads script honest vs ls h (Ref n) ]) q.0

  pub both_honest : (v h : ℕ) → honest v ≡ true → honest h ≡ true → (l : Link) → l.from ≡ v → l.to ≡ h → is_honest script honest l ≡ true
  unfolding is_honest
  both_honest v h here there l e f = rw e (rw f (rw here there))

  module _ (v h : ℕ) (here : honest v ≡ true) (there : honest h ≡ true) (m : Delivery Name) (n : Name) (verb : Words) (ys : Passeds Name) where
    abbrev D : Note Name
    D = Deliver m n verb ys

    abbrev I : Item
    I = item m.message n

    abbrev Next : List Link → List Link
    Next ls = world.with_link (world.pushed D) v h ls

    abbrev At : List Link → Option Link
    At ls = world.link_at v h ls

    -- it stands last there, or the link is cut or is not there
    abbrev IsLast : List Link → Type 0
    IsLast ls = (Row script honest (At (Next ls)) ≡ Row script honest (At ls) ++ I ∷ []) ⊎ ((Row script honest (At (Next ls)) ≡ Row script honest (At ls)) × IsShut (At (Next ls)))

    ends_still : (l : Link) → world.is_link v h (world.pushed D l) ≡ world.is_link v h l
    ends_still l = pushed_ends l.cut D l v h refl

    row_open : (l : Link) → l.cut ≡ false → is_honest script honest l ≡ true → OnLink script honest (world.pushed D l) ≡ OnLink script honest l ++ I ∷ []
    unfolding is_honest delivered
    row_open l c q =
        ap (λ k. OnLink script honest k) (pushed_open D l c)
        ∙ ap (λ t. elim t [ true ↦ delivered (l.notes ++ D ∷ []) | false ↦ [] ]) q
        ∙ delivered_append l.notes (D ∷ [])
        ∙ ap (λ t. (elim t [ true ↦ delivered l.notes | false ↦ [] ]) ++ I ∷ []) (sym q)

    shut_still : (l : Link) → l.cut ≡ true → is_honest script honest l ≡ true → (OnLink script honest (world.pushed D l) ≡ OnLink script honest l) × IsShut (Some (world.pushed D l))
    unfolding is_honest
    shut_still l c q = let e = pushed_shut D l c in (ap (λ k. OnLink script honest k) e, (ap (λ k. k.cut) e ∙ c, ap (λ k. honest k.from && honest k.to) e ∙ q))

    last_open : (ls : List Link) (l : Link) → At ls ≡ Some l → l.cut ≡ false → Row script honest (At (Next ls)) ≡ Row script honest (At ls) ++ I ∷ []
    last_open ls l e c = let f = found_ends v h ls l e in ap (λ o. Row script honest o) (put_on (world.pushed D) v h (λ k. ends_still k) ls (Some l) e) ∙ row_open l c (both_honest v h here there l f.0 f.1) ∙ ap (λ o. Row script honest o ++ I ∷ []) (sym e)

    last_some : (ls : List Link) (l : Link) (b : Bool) → At ls ≡ Some l → l.cut ≡ b → IsLast ls
    last_some ls l false e c = inl (last_open ls l e c)
    last_some ls l true e c = let f = found_ends v h ls l e in let p = put_on (world.pushed D) v h (λ k. ends_still k) ls (Some l) e in let q = shut_still l c (both_honest v h here there l f.0 f.1) in
        inr (ap (λ o. Row script honest o) p ∙ q.0 ∙ ap (λ o. Row script honest o) (sym e), subst IsShut (sym p) q.1)

    last_none : (ls : List Link) → At ls ≡ None → IsLast ls
    last_none ls e = let p = put_on (world.pushed D) v h (λ k. ends_still k) ls None e in
        inr (ap (λ o. Row script honest o) p ∙ ap (λ o. Row script honest o) (sym e), subst IsShut (sym p) tt)

    last_by : (ls : List Link) (o : Option Link) → At ls ≡ o → IsLast ls
    last_by ls (Some l) e = last_some ls l l.cut e refl
    last_by ls None e = last_none ls e

-- ---- in the middle of a step

module _ (script : Script) (honest : ℕ → Bool) (w : World) (v : ℕ) where
  abbrev K : Naming Name Name
  K = names script v

  abbrev W : Vat Name → Ways
  W s = ways script honest (amid v s w)

  -- what stands on that link is the same
  pub record Still (a b : ℕ) (s t : Vat Name) : Type 0 where
    pub same : (W t).stands (Way a b) ≡ (W s).stands (Way a b)

  module _ (a b : ℕ) where
    abbrev R : Vat Name → Vat Name → Type 0
    R = Still a b

    pub outbox_still : (s t : Vat Name) → t.outbox ≡ s.outbox → R s t
    unfolding ways ways_of stands_at amid
    outbox_still s t e = record { same = ap (λ ps. Row script honest (world.link_at a b (world.push_all v ps w.links))) e }

    still : IsKept R
    still = record {
      same = λ s. outbox_still s s refl;
      trans = λ {s} {t} {u} f g. record { same = g.same ∙ f.same };
      fuel = λ s n. outbox_still s (record s { fuel = s.fuel - n }) refl;
      happened = λ s e. outbox_still s (record s { happened = s.happened ++ e ∷ [] }) refl;
      activations = λ s. outbox_still s (record s { activations = suc s.activations }) refl;
      thing = λ s t. outbox_still s (record s { things = s.things ++ t ∷ [] }) refl;
      killed = λ s n. outbox_still s (record s { things = state.change state.dead n s.things }) refl;
      slot = λ s c. outbox_still s (record s { slots = s.slots ++ c ∷ [] }) refl;
      written = λ s n y. outbox_still s (record s { slots = state.change (state.holding y) n s.slots }) refl;
      list = λ s ys. outbox_still s (record s { lists = s.lists ++ ys ∷ [] }) refl;
    }

    still_tell_to : (h : ℕ) (n : Name) → Keeps R (alter K (ToTell h) n)
    unfolding alter
    still_tell_to h n = record { after = λ s. outbox_still s (record s { known = state.with_change K (ToTell h) n s.known }) refl }

    open_put : (h i : ℕ) (n : Name) (word : ℕ) (s : Vat Name) → R s (record s { drawn = s.drawn ++ word ∷ []; outbox = s.outbox ++ record { to = h; note = Open i n } ∷ [] })
    unfolding ways ways_of stands_at amid delivered
    open_put h i n word s = record { same = ap (λ ls. Row script honest (world.link_at a b ls)) (push_last v s.outbox (record { to = h; note = Open i n }) w.links) ∙ row_still script honest a b v h (Open i n) refl (world.push_all v s.outbox w.links) }

    still_gift : (h : ℕ) (n : Name) → Keeps {N = Name} {A = Passed Name} R (draw K >>= (λ i. send_out h (Open i n) >> give (AGift h i)))
    unfolding draw ◌>>=◌ ◌>>◌ and_then send_out give draws
    still_gift h n = record { after = λ s. go s (drawn_at zero (K.word (length s.drawn)) s.drawn) }
      where
        go : (s : Vat Name) (o : Option ℕ) → After {N = Name} {A = Passed Name} R s (and_then (draws (K.word (length s.drawn)) o s) (λ i. send_out h (Open i n) >> give (AGift h i)))
        go s (Some i) = outbox_still s s refl
        go s None = open_put h (key s.number (K.word (length s.drawn))) n (K.word (length s.drawn)) s

    pub still_pass_all : (h : ℕ) (xs : List (Value Name)) → Keeps R (refs.pass_all K h xs)
    still_pass_all h xs = keeps_pass_all K R still still_tell_to still_gift h xs

  -- a deliver note is put
  module _ (h : ℕ) (here : honest v ≡ true) (there : honest h ≡ true) (m : Delivery Name) (n : Name) (verb : Words) (ys : Passeds Name) (s t : Vat Name) (put : t.outbox ≡ s.outbox ++ record { to = h; note = Deliver m n verb ys } ∷ []) where
    abbrev Before : List Link
    Before = world.push_all v s.outbox w.links

    abbrev After0 : List Link
    After0 = world.push_all v t.outbox w.links

    put_last : After0 ≡ world.with_link (world.pushed (Deliver m n verb ys)) v h Before
    put_last = ap (λ ps. world.push_all v ps w.links) put ∙ push_last v s.outbox (record { to = h; note = Deliver m n verb ys }) w.links

    -- where the link is there and not cut
    pub note_open : IsOpen v h w.links → (W t).stands (Way v h) ≡ (W s).stands (Way v h) ++ item m.message n ∷ []
    unfolding ways ways_of stands_at amid
    note_open o = let f = all_open v h v s.outbox w.links o in ap (λ ls. Row script honest (world.link_at v h ls)) put_last ∙ last_open script honest v h here there m n verb ys Before f.0 f.1 f.2

    note_last : ComesLast (W s) (W t) m.message (End (Way v h) n)
    unfolding ways ways_of stands_at amid
    note_last = go (subst (λ ls. Last ls) (sym put_last) (last_by script honest v h here there m n verb ys Before (world.link_at v h Before) refl))
      where
        Last : List Link → Type 0
        Last ls = (Row script honest (world.link_at v h ls) ≡ Row script honest (world.link_at v h Before) ++ item m.message n ∷ []) ⊎ ((Row script honest (world.link_at v h ls) ≡ Row script honest (world.link_at v h Before)) × IsShut script honest (world.link_at v h ls))

        go : Last After0 → ComesLast (W s) (W t) m.message (End (Way v h) n)
        go (inl e) = inl e
        go (inr e) = inr (e.0, by_end (subst (Doom (W t)) (sym (shut_nowhere script honest v h n (world.put_at v t w.vats) After0 (world.link_at v h After0) refl e.1)) nowhere))

-- ---- a whole send

module _ (script : Script) (honest : ℕ → Bool) (w : World) (v : ℕ) (r : Vat Name) (at : slice_get w.vats v ≡ Some r) where
  abbrev N : Naming Name Name
  N = names script v

  abbrev U : Vat Name → Ways
  U s = ways script honest (amid v s w)

  module _ (s q : Vat Name) (m : Message Name) (queue : q.queue ≡ s.queue) (outbox : q.outbox ≡ s.outbox) (entries : (n : Name) (k : Known Name) → refs.entry_of N s.known n ≡ Some k → refs.entry_of N q.known n ≡ Some k) where
    abbrev Last : Value Name → Place Name → Vat Name → Type 0
    Last y p t = ComesLast (U s) (U t) m.id (aimed v y p)

    near_last : (y : Value Name) → IfGives (Last y Near) (state.enqueue (record m { target = y }) q)
    unfolding state.enqueue aimed
    near_last (Ref n) = let x : Message Name = record m { target = Ref n } in
        inl (queue_is script honest w v r at (record q { queue = q.queue ++ x ∷ [] }) ∙ queued_end q.queue x n refl ∙ ap (λ ms. queued ms ++ item m.id n ∷ []) queue ∙ ap (λ js. js ++ item m.id n ∷ []) (sym (queue_is script honest w v r at s)))
    near_last other = tt

    abbrev Waits : Name → Type 0
    Waits n = (k : Known Name) × (refs.entry_of N s.known n ≡ Some k) × IsWaiting k.standing

    mine_last : (y : Value Name) (n : Name) → Waits n → IfGives (Last y (Mine n)) (state.alter N (Hold (record m { target = y })) n q)
    unfolding state.alter aimed
    mine_last y n h =
        let k = h.0 in
        let x : Message Name = record m { target = y } in
        let c : Change Name = Hold x in
        inl (held_is script honest w v r at (record q { known = state.with_change N c n q.known }) n (state.changed c k) (entry_changed N n c q.known k (entries n k h.1))
        ∙ ap (λ ms. held_on n ms) (held_by k x h.2) ∙ held_end n k.held x ∙ ap (λ js. js ++ item m.id n ∷ []) (sym (held_is script honest w v r at s n k h.1)))

    away_last : (y : Value Name) (h : ℕ) (n : Name) (o : Bool) → honest v ≡ true → honest h ≡ true → IfGives (Last y (Away h n o)) (refs.deliver N m h n q)
    unfolding aimed refs.deliver ◌>>=◌ ◌>>◌ and_then tell send_out
    away_last y h n o here there = go (refs.pass_all N h m.args q) ((still_pass_all script honest w v v h h m.args).after q)
      where
        from_there : (t u : Vat Name) → Still script honest w v v h q t → ComesLast (U t) (U u) m.id (End (Way v h) n) → ComesLast (U s) (U u) m.id (End (Way v h) n)
        from_there t u f (inl e) = inl (e ∙ ap (λ js. js ++ item m.id n ∷ []) (f.same ∙ (outbox_still script honest w v v h s q outbox).same))
        from_there t u f (inr e) = inr (e.0 ∙ f.same ∙ (outbox_still script honest w v v h s q outbox).same, e.1)

        go : (d : Done Name (Passeds Name)) → After (Still script honest w v v h) q d → IfGives (Last y (Away h n o)) (and_then d (λ ys. tell (Posted h m.id) >> send_out h (Deliver (refs.delivery_of N m) n m.verb ys)))
        go (Gives ys t) f = let u : Vat Name = record t { happened = t.happened ++ Posted h m.id ∷ []; outbox = t.outbox ++ record { to = h; note = Deliver (refs.delivery_of N m) n m.verb ys } ∷ [] } in
            from_there t u f (note_last script honest w v h here there (refs.delivery_of N m) n m.verb ys t u refl)
        go other f = tt

    gone_last : (y : Value Name) (p : Words) (d : Done Name (Unit {0})) → IfGives (Last y (Gone p)) d
    unfolding aimed
    gone_last y p (Gives a t) = tt
    gone_last y p other = tt

    first_last : (y : Value Name) (p : Place Name) → honest v ≡ true → ((h : ℕ) (n : Name) (o : Bool) → p ≡ Away h n o → honest h ≡ true) → ((n : Name) → p ≡ Mine n → Waits n) → IfGives (Last y p) (refs.send_first N m y p q)
    unfolding refs.send_first refs.send_to
    first_last y Near here f g = near_last y
    first_last y (Mine n) here f g = mine_last y n (g n refl)
    first_last y (Away h n o) here f g = away_last y h n o here (f h n o refl)
    first_last y (Gone p) here f g = gone_last y p (refs.send_first N m y (Gone p) q)

  -- what grows leaves it behind
  module _ (s t : Vat Name) (grows : Grows (U s) (U t)) (m : Name) where
    aimed_behind : (y : Value Name) (p : Place Name) → ComesBehind (U s) (U t) m (aimed v y p)
    unfolding aimed
    aimed_behind (Ref n) Near = comers_are_behind (U s) (U t) (Queue v) n grows
    aimed_behind y (Mine n) = comers_are_behind (U s) (U t) (Held v n) n grows
    aimed_behind y (Away h n o) = comers_are_behind (U s) (U t) (Way v h) n grows
    aimed_behind y another = tt

  pub after_gives : {A : Type 0} (s : Vat Name) (P : Vat Name → Type 0) → ((t : Vat Name) → StaysReady script honest w v s t → P t) → (d : Done Name A) → After (StaysReady script honest w v) s d → IfGives P d
  after_gives s P f (Gives a t) h = f t h
  after_gives s P f other h = tt

  then_gives : {A : Type 0} (P : Vat Name → Type 0) (d : Done Name (Unit {0})) (y : A) → IfGives P d → IfGives P (and_then d (λ _. give y))
  unfolding and_then give
  then_gives P (Gives b t) y h = h
  then_gives P other y h = tt

  module _ (act : ℕ) (x : Value Name) (verb : Words) (args : List (Value Name)) (s : Vat Name) (here : honest v ≡ true) (ready : Ready script honest w v s) (hand : IsHeld script honest w v s x) where
    abbrev Y : Value Name
    Y = refs.follow N s x

    abbrev P : Place Name
    P = refs.place N s Y

    abbrev Id : Name
    Id = Sent (record { sender = v; number = s.messages })

    abbrev IsGone : Place Name → Type 0
    IsGone (Gone z) = Unit {0}
    IsGone other = ⊥

    not_gone : (p : Place Name) → P ≡ p → (IsGone p → ⊥) → (z : Words) → P ≡ Gone z → ⊥
    not_gone p e f z q = f (subst IsGone (sym q ∙ e) tt)

    abbrev Behind : Place Name → Vat Name → Type 0
    Behind p t = ComesBehind (U s) (U t) Id (aimed v Y p)

    abbrev Grew : {A : Type 0} → Done Name A → Type 0
    Grew d = ((z : Words) → P ≡ Gone z → ⊥) → After (StaysReady script honest w v) s d

    behind_other : {A : Type 0} (d : Done Name A) → Grew d → (p : Place Name) → P ≡ p → (IsGone p → ⊥) → IfGives (Behind p) d
    behind_other d f p e g = after_gives s (Behind p) (λ t h. aimed_behind s t (h ready).1.grows Id Y p) d (f (not_gone p e g))

    behind_by : {A : Type 0} (d : Done Name A) → Grew d → (p : Place Name) → P ≡ p → IfGives (Behind p) d
    unfolding aimed
    behind_by d f (Gone z) e = if_all (Behind (Gone z)) (λ t. tt) d
    behind_by d f (Away h n o) e = behind_other d f (Away h n o) e (λ i. i)
    behind_by d f other e = behind_other d f other e (λ h. h)

    abbrev Honest : Type 0
    Honest = (h : ℕ) (n : Name) (o : Bool) → P ≡ Away h n o → honest h ≡ true

    abbrev Comes : Vat Name → Type 0
    Comes t = ComesLast (U s) (U t) Id (aimed v Y P) × Behind P t

    waits : (n : Name) → P ≡ Mine n → (k : Known Name) × (refs.entry_of N s.known n ≡ Some k) × IsWaiting k.standing
    waits n e = mine_waits script honest w v s ready x n hand e

    abbrev New : Name
    New = Answer (refs.answer_host N s.number P) (record { sender = v; number = s.messages })

    abbrev Sending : Vat Name
    Sending = record s { messages = suc s.messages; mails = s.mails ++ Id ∷ []; known = s.known ++ begun New (refs.answer_host N s.number P) ∷ []; happened = s.happened ++ Sends act (record { id = Id; target = x; verb = verb; args = args; answer = Some New }) ∷ [] }

    abbrev SendingOnly : Vat Name
    SendingOnly = record s { messages = suc s.messages; mails = s.mails ++ Id ∷ []; happened = s.happened ++ Sends act (record { id = Id; target = x; verb = verb; args = args; answer = None }) ∷ [] }

    send_last : Honest → IfGives (λ t. ComesLast (U s) (U t) Id (aimed v Y P)) (refs.send N act x verb args s)
    unfolding refs.send ◌>>=◌ ◌>>◌ and_then look tell new_message give names naming name_of mail_of answer_of
    send_last f = let m : Message Name = record { id = Id; target = Y; verb = verb; args = args; answer = Some New } in
        then_gives (λ t. ComesLast (U s) (U t) Id (aimed v Y P)) (refs.send_first N m Y P Sending) (Ref New)
        (first_last s Sending m refl refl (λ n k e. old_entry N s.known (begun New (refs.answer_host N s.number P)) k n e) Y P here f (λ n e. waits n e))

    lone_last : Honest → IfGives (λ t. ComesLast (U s) (U t) Id (aimed v Y P)) (refs.send_only N act x verb args s)
    unfolding refs.send_only ◌>>=◌ ◌>>◌ and_then look tell new_lone_message give names naming name_of mail_of answer_of
    lone_last f = let m : Message Name = record { id = Id; target = Y; verb = verb; args = args; answer = None } in
        then_gives (λ t. ComesLast (U s) (U t) Id (aimed v Y P)) (refs.send_first N m Y P SendingOnly) Null
        (first_last s SendingOnly m refl refl (λ n k e. e) Y P here f (λ n e. waits n e))

    there_is : LeadsAmid script honest w v s v x ≡ aimed v Y P
    there_is = leads_there script honest w v r s at x hand

    abbrev ComesAt : lanes.Place → Vat Name → Type 0
    ComesAt c t = ComesLast (U s) (U t) Id c × ComesBehind (U s) (U t) Id c

    led : (t : Vat Name) → Comes t → ComesAt (LeadsAmid script honest w v s v x) t
    led t h = subst (λ c. ComesAt c t) (sym there_is) h

    send_comes : Honest → IfGives (ComesAt (LeadsAmid script honest w v s v x)) (refs.send N act x verb args s)
    send_comes f = let d = refs.send N act x verb args s in if_map Comes (ComesAt (LeadsAmid script honest w v s v x)) led d
        (if_both (λ t. ComesLast (U s) (U t) Id (aimed v Y P)) (Behind P) d (send_last f) (behind_by d (λ g. stays_send script honest w v act x verb args s g) P refl))

    lone_comes : Honest → IfGives (ComesAt (LeadsAmid script honest w v s v x)) (refs.send_only N act x verb args s)
    lone_comes f = let d = refs.send_only N act x verb args s in if_map Comes (ComesAt (LeadsAmid script honest w v s v x)) led d
        (if_both (λ t. ComesLast (U s) (U t) Id (aimed v Y P)) (Behind P) d (lone_last f) (behind_by d (λ g. stays_send_only script honest w v act x verb args s g) P refl))

pub sends_come_last : SendsComeLast
sends_come_last = λ script honest w v act x verb args r s at here f ready hand. (send_comes script honest w v r at act x verb args s here ready hand f, lone_comes script honest w v r at act x verb args s here ready hand f)

-- ---- an arrival

module _ (w u : Ways) (k : Lane) (i : Item) where
  abbrev IsAppended : lanes.Place → Type 0
  IsAppended (End l n) = u.stands l ≡ w.stands l ++ item i.mail n ∷ []
  IsAppended other = Unit {0}

  moves : (c : lanes.Place) → GoesOneWay u k → IsAppended c → GoesTo w u k i c → MovesLast w u k i c
  moves (End l n) one e g = let h = gone_on_is_behind w u k l i n g one in (e, h.0, h.1)
  moves Nowhere one e g = tt
  moves other one e g = absurd g

module _ (script : Script) (honest : ℕ → Bool) (w : World) (a b : ℕ) (r s : Vat Name) (settle : Settler {N = Name} {W = Name} (names script b)) (m : Message Name) (asks : Bool) (answer : Option Name) (n : Name) (verb : Words) (ys : Passeds Name) (at : slice_get w.vats b ≡ Some r) where
  abbrev Mail : Note Name
  Mail = Deliver (record { message = m.id; asks = asks; answer = answer }) n verb ys

  abbrev From : Ways
  From = ways script honest (amid b s (keeping a b Mail w))

  abbrev To : Vat Name → Ways
  To t = ways script honest (amid b t w)

  abbrev Arrives : Value Name → Place Name → Vat Name → Type 0
  Arrives y p t = IsAppended From (To t) (Way a b) (item m.id n) (aimed b y p)

  from_queue : From.stands (Queue b) ≡ queued s.queue
  unfolding keeping
  from_queue = queue_is script honest (keeping a b Mail w) b r at s

  from_held : (q : Name) (k : Known Name) → refs.entry_of (names script b) s.known q ≡ Some k → From.stands (Held b q) ≡ held_on q k.held
  unfolding keeping
  from_held q k e = held_is script honest (keeping a b Mail w) b r at s q k e

  arrives_near : (y : Value Name) → IfGives (Arrives y Near) (state.enqueue (record m { target = y }) s)
  unfolding state.enqueue aimed
  arrives_near (Ref o) = let x : Message Name = record m { target = Ref o } in
      queue_is script honest w b r at (record s { queue = s.queue ++ x ∷ [] }) ∙ queued_end s.queue x o refl ∙ ap (λ js. js ++ item m.id o ∷ []) (sym from_queue)
  arrives_near other = tt

  arrives_mine : (y : Value Name) (q : Name) → (k : Known Name) × (refs.entry_of (names script b) s.known q ≡ Some k) × IsWaiting k.standing → IfGives (Arrives y (Mine q)) (state.alter (names script b) (Hold (record m { target = y })) q s)
  unfolding state.alter aimed
  arrives_mine y q h =
      let k = h.0 in
      let x : Message Name = record m { target = y } in
      let c : Change Name = Hold x in
      held_is script honest w b r at (record s { known = state.with_change (names script b) c q s.known }) q (state.changed c k) (entry_changed (names script b) q c s.known k h.1)
      ∙ ap (λ ms. held_on q ms) (held_by k x h.2) ∙ held_end q k.held x ∙ ap (λ js. js ++ item m.id q ∷ []) (sym (from_held q k h.1))

  arrives : (y : Value Name) (p : Place Name) → IsHere p → ((q : Name) → p ≡ Mine q → (k : Known Name) × (refs.entry_of (names script b) s.known q ≡ Some k) × IsWaiting k.standing) → IfGives (Arrives y p) (refs.send_to (names script b) settle m y p s)
  unfolding refs.send_to
  arrives y Near h f = arrives_near y
  arrives y (Mine q) h f = arrives_mine y q (f q refl)
  arrives y other h f = absurd h

  abbrev Goes : lanes.Place → Vat Name → Type 0
  Goes c t = GoesTo From (To t) (Way a b) (item m.id n) c

  abbrev Moves : lanes.Place → Vat Name → Type 0
  Moves c t = MovesLast From (To t) (Way a b) (item m.id n) c

  both_arrive : {A : Type 0} (c : lanes.Place) (d : Done Name A) → IfGives (λ t. IsAppended From (To t) (Way a b) (item m.id n) c) d → IfGives (Goes c) d → IfGives (Moves c) d
  both_arrive c (Gives z t) e g = moves From (To t) (Way a b) (item m.id n) c tt e g
  both_arrive c other e g = tt

pub carried_come_last : CarriedComeLast
carried_come_last = λ script honest w a b r s settle m asks answer n verb ys at way learnt f here.
    let y = refs.follow (names script b) s (Ref n) in
    let p = refs.place (names script b) s y in
    both_arrive script honest w a b r s settle m asks answer n verb ys at (aimed b y p) (refs.send_to (names script b) settle m y p s)
    (arrives script honest w a b r s settle m asks answer n verb ys at y p here f)
    (carried_messages_go_on script honest w a b r s settle m asks answer n verb ys at way learnt f here)
