-- A history that is in order is shown in order.
use Rattle.std.proofs.Common.{◌≡◌, ◌+◌, ◌<◌, ◌≤◌, ℕ, zero, suc, Bool, true, false, not, List, [], Option, Some, None, length, take, refl, sym, ap, ◌∙◌, subst, ◌⊎◌, inl, inr, arith, ◌&&◌, ◌||◌, nat_le}
use Rattle.std.specs.Prelude.{slice_get}
use Rattle.std.proofs.lemmas.Bool.{le-leb}
use Rattle.ev_base.specs.declared.names.Msg.{Msg as ShownMsg}
use Rattle.def_event.specs.declared.event.Event.{Event as ShownEvent}
use Rattle.def_machine.specs.Values.{Words, Ref, Name, Sent, Msg, same_name}
use Rattle.def_machine.specs.State.{Message, Passeds, Delivery, Deliver, Happened, Took, Sends}
use Rattle.def_run.specs.World.{Event, Here, Carried}
use Rattle.def_run.specs.Shown.{msg_of, shown_name, shown_msg, shown_value, shown_values, shown_all}
use Rattle.def_run.specs.Text.{shown_events}
use Rattle.def_event.specs.declared.reference.Reference.{Reference}
use Rattle.def_event.specs.Order.{vat_after, vat_at, Sending, Carrying, Taking, sending, carrying, taking, is_object, DoesAt, IsSent, IsCarried, Passing, Behind, OnItself, Passed as IsPassed, IsSentOn, Before, IsOvertaken}
use Rattle.law_fate.specs.Name.Names.{IsAmong, IsMessageName}
use Rattle.law_fate.proofs.Name.SameNames.{same_self}
use Rattle.law_order.specs.Ordering.Order as order
use Rattle.law_order.specs.Ordering.Order.{plains, passes, Coming, comes, comes_in, Reach, taken_on, reaches_on, reached_by, all_pass_as, is_before, keeps_order, taken_after, object_takes_it, Ordered}
use Rattle.law_trace.specs.Shown.Shown.{AreInPlace, NameMessages, CarryWhatWasSent, NamesApart, IsNamed, target, argument, passed, HistoriesAreShownInOrder}
use Rattle.law_trace.proofs.Shown.Placing.{start, take_start, start_further, line_before, stands, there_at}
use Rattle.law_trace.proofs.Shown.Telling.{sends_line, carries_line, takes_line, sends_plain, carries_plain, takes_plain, sent_shows, carried_shows, took_shows, named_value, named_argument, named_in_note, object_named}
use Rattle.law_trace.proofs.Shown.Reaching.{get_take, take_get, take_length, reached_stays, reached_there, before_at, sent_reaches, taken_reaches, argument_passes, comes_at, none_came, sent_came, TakenBy, taken_so_far, took_it, sends_behind_it}

some_is : {A : Type 0} (x y : A) → Some x ≡ Some y → x ≡ y
some_is x y e = cc

and_true : (a b : Bool) → a ≡ true → b ≡ true → (a && b) ≡ true
and_true true b e f = f
and_true false b e f = absurd (cc)

nat_le_true : (a b : ℕ) → a ≤ b → nat_le a b ≡ true
nat_le_true a b l = le-leb a b l

msg_same : (m n : Msg) → msg_of m ≡ msg_of n → m ≡ n
unfolding msg_of
msg_same m n e = let a : m.sender ≡ n.sender = ap (λ (x : ShownMsg). x.sender) e in let b : m.number ≡ n.number = ap (λ (x : ShownMsg). x.number) e in
    ap (λ w. record { sender = w; number = m.number }) a ∙ ap (λ i. record { sender = n.sender; number = i }) b

module _ (draws : List ℕ) where
  -- messages that are shown alike are one
  message_same : (m n : Name) → IsMessageName m → IsMessageName n → shown_msg draws m ≡ shown_msg draws n → m ≡ n
  unfolding shown_msg
  message_same (Sent m) (Sent n) h k e = ap Sent (msg_same m n e)
  message_same (Sent m) other h k e = absurd k
  message_same other n h k e = absurd h

  module _ (es : List Event) (placed : AreInPlace draws es) (named : NameMessages es) (carry : CarryWhatWasSent es) (apart : NamesApart draws es) where
    abbrev lines : List ShownEvent
    lines = shown_events draws es

    -- ---- the lines of the text, as the history has them

    record SendsAt (j : ℕ) (s : Sending) : Type 0 where
      pub at : ℕ
      pub vat : ℕ
      pub act : ℕ
      pub sent : Message Name
      pub there : slice_get es at ≡ Some (Here vat (Sends act sent))
      pub line : j ≡ start draws es at
      pub message : s.message ≡ shown_msg draws sent.id
      pub target : s.target ≡ shown_value draws vat sent.target
      pub args : s.args ≡ shown_values draws vat sent.args
      pub is_message : IsMessageName sent.id

    record CarriesAt (j : ℕ) (c : Carrying) : Type 0 where
      pub at : ℕ
      pub entry : ℕ
      pub carried : Delivery Name
      pub aim : Name
      pub verb : Words
      pub args : Passeds Name
      pub bytes : List ℕ
      pub there : slice_get es at ≡ Some (Carried entry c.leaves c.reaches (Deliver carried aim verb args) bytes)
      pub line : j ≡ start draws es at
      pub message : c.message ≡ shown_msg draws carried.message
      pub shown : c.args ≡ shown_all draws args
      pub is_message : IsMessageName carried.message

    record TakesAt (j : ℕ) (t : Taking) : Type 0 where
      pub at : ℕ
      pub vat : ℕ
      pub act : ℕ
      pub took : Message Name
      pub there : slice_get es at ≡ Some (Here vat (Took act took))
      pub line : j ≡ start draws es at
      pub message : t.message ≡ shown_msg draws took.id
      pub by_object : t.by_object ≡ is_object (shown_value draws vat took.target)
      pub is_message : IsMessageName took.id

    sends_at : (j : ℕ) (s : Sending) → DoesAt sending lines j s → SendsAt j s
    sends_at j s d =
        let p = stands draws es j d.0 d.1 (sends_plain d.0 s d.2) in
        let l = sends_line draws p.event d.0 s p.shows d.2 in
        let at : slice_get es p.at ≡ Some (Here l.vat (Sends l.act l.sent)) = p.there ∙ ap Some l.line in
        record { at = p.at; vat = l.vat; act = l.act; sent = l.sent; there = at; line = p.line; message = ap (λ (x : Sending). x.message) l.is; target = ap (λ (x : Sending). x.target) l.is; args = ap (λ (x : Sending). x.args) l.is; is_message = named p.at _ at }

    carries_at : (j : ℕ) (c : Carrying) → DoesAt carrying lines j c → CarriesAt j c
    carries_at j c d =
        let p = stands draws es j d.0 d.1 (carries_plain d.0 c d.2) in
        let l = carries_line draws p.event d.0 c p.shows d.2 in
        let at : slice_get es p.at ≡ Some (Carried l.entry l.from l.to (Deliver l.carried l.aim l.verb l.args) l.bytes) = p.there ∙ ap Some l.line in
        let leaves : c.leaves ≡ l.from = ap (λ (x : Carrying). x.leaves) l.is in
        let reaches : c.reaches ≡ l.to = ap (λ (x : Carrying). x.reaches) l.is in
        record {
          at = p.at;
          entry = l.entry;
          carried = l.carried;
          aim = l.aim;
          verb = l.verb;
          args = l.args;
          bytes = l.bytes;
          there = at ∙ ap (λ u. Some (Carried l.entry u l.to (Deliver l.carried l.aim l.verb l.args) l.bytes)) (sym leaves) ∙ ap (λ u. Some (Carried l.entry c.leaves u (Deliver l.carried l.aim l.verb l.args) l.bytes)) (sym reaches);
          line = p.line;
          message = ap (λ (x : Carrying). x.message) l.is;
          shown = ap (λ (x : Carrying). x.args) l.is;
          is_message = named p.at _ at;
        }

    takes_at : (j : ℕ) (t : Taking) → DoesAt taking lines j t → TakesAt j t
    takes_at j t d =
        let p = stands draws es j d.0 d.1 (takes_plain d.0 t d.2) in
        let l = takes_line draws p.event d.0 t p.shows d.2 in
        let at : slice_get es p.at ≡ Some (Here l.vat (Took l.act l.took)) = p.there ∙ ap Some l.line in
        record { at = p.at; vat = l.vat; act = l.act; took = l.took; there = at; line = p.line; message = ap (λ (x : Taking). x.message) l.is; by_object = ap (λ (x : Taking). x.by_object) l.is; is_message = named p.at _ at }

    -- ---- the lines of the history, as the text has them

    sent_there : (i v act : ℕ) (m : Message Name) → slice_get es i ≡ Some (Here v (Sends act m)) → (s : Sending) × DoesAt sending lines (start draws es i) s × (s.message ≡ shown_msg draws m.id)
    sent_there i v act m q = let r = sent_shows draws v act m in (_, (r.0, there_at draws es i _ r.0 q r.1, r.2), refl)

    carried_there : (i k u v : ℕ) (d : Delivery Name) (z : Name) (verb : Words) (ys : Passeds Name) (bytes : List ℕ) → slice_get es i ≡ Some (Carried k u v (Deliver d z verb ys) bytes) → (c : Carrying) × DoesAt carrying lines (start draws es i) c × (c.message ≡ shown_msg draws d.message)
    carried_there i k u v d z verb ys bytes q = let r = carried_shows draws k u v d z verb ys bytes in (_, (r.0, there_at draws es i _ r.0 q r.1, r.2), refl)

    -- the line of the text is further on where that of the history is
    sent_further : (i n v act : ℕ) (m : Message Name) → slice_get es i ≡ Some (Here v (Sends act m)) → i < n → start draws es i < start draws es n
    sent_further i n v act m q l = let r = sent_shows draws v act m in start_further draws es i n _ r.0 q r.1 l

    carried_further : (i n k u v : ℕ) (d : Delivery Name) (z : Name) (verb : Words) (ys : Passeds Name) (bytes : List ℕ) → slice_get es i ≡ Some (Carried k u v (Deliver d z verb ys) bytes) → i < n → start draws es i < start draws es n
    carried_further i n k u v d z verb ys bytes q l = let r = carried_shows draws k u v d z verb ys bytes in start_further draws es i n _ r.0 q r.1 l

    -- the place of a line in its vat
    vat_there : (i v : ℕ) (e : Happened Name) → slice_get es i ≡ Some (Here v e) → vat_at lines (start draws es i) ≡ Some v
    vat_there i v e q = ap (vat_after None) (take_start draws es i) ∙ placed i v e q

    same_vat : (j v : ℕ) (o : Option ℕ) (s : Sending) (a : SendsAt j s) → vat_at lines j ≡ o → o ≡ Some v → a.vat ≡ v
    same_vat j v o s a e f = some_is a.vat v (sym (ap (vat_at lines) a.line ∙ vat_there a.at a.vat _ a.there) ∙ e ∙ f)

    -- ---- what the text says is behind is reached

    -- no line in front of the first that sends a message sends it
    first_send : (j : ℕ) (s : Sending) (f : IsSent lines j s) (a : SendsAt j s) → (i v act : ℕ) (m : Message Name) → slice_get es i ≡ Some (Here v (Sends act m)) → m.id ≡ a.sent.id → i < a.at → ⊥
    first_send j s f a i v act m q e l =
        let r = sent_there i v act m q in
        let k : start draws es i < start draws es a.at = sent_further i a.at v act m q l in
        f.first (start draws es i) r.0 (subst (λ n. start draws es i < n) (sym a.line) k) r.1 (r.2 ∙ ap (shown_msg draws) e ∙ sym a.message)

    first_carry : (j : ℕ) (c : Carrying) (f : IsCarried lines j c) (a : CarriesAt j c) → (i k u v : ℕ) (d : Delivery Name) (z : Name) (verb : Words) (ys : Passeds Name) (bytes : List ℕ) → slice_get es i ≡ Some (Carried k u v (Deliver d z verb ys) bytes)
        → d.message ≡ a.carried.message → i < a.at → ⊥
    first_carry j c f a i k u v d z verb ys bytes q e l =
        let r = carried_there i k u v d z verb ys bytes q in
        let g : start draws es i < start draws es a.at = carried_further i a.at k u v d z verb ys bytes q l in
        f.first (start draws es i) r.0 (subst (λ n. start draws es i < n) (sym a.line) g) r.1 (r.2 ∙ ap (shown_msg draws) e ∙ sym a.message)

    no_order : (m n : ℕ) → (m < n) ⊎ (n ≤ m)
    no_order m zero = inr (omega arith)
    no_order zero (suc n) = inl (omega arith)
    no_order (suc m) (suc n) = elim (no_order m n) [ inl h ↦ inl (omega arith) | inr h ↦ inr (omega arith) ]

    -- what is carried was sent in a line in front
    sent_in_front : (i : ℕ) (s : Sending) (f : IsSent lines i s) (a : SendsAt i s) (j : ℕ) (c : Carrying) (b : CarriesAt j c) → b.carried.message ≡ a.sent.id → a.at < b.at
    sent_in_front i s f a j c b e = go (carry b.at b.entry c.leaves c.reaches b.carried b.aim b.verb b.args b.bytes b.there)
      where
        go : (k v act : ℕ) × (m : Message Name) × (k < b.at) × (slice_get es k ≡ Some (Here v (Sends act m))) × (m.id ≡ b.carried.message) → a.at < b.at
        go r = elim (no_order r.0 a.at) [
          | inl l ↦ absurd (first_send i s f a r.0 r.1 r.2 r.3 r.5 (r.6 ∙ e) l)
          | inr l ↦ let h = r.4 in omega arith
        ]

    -- The message came to its sender where it was sent.
    came : (i : ℕ) (s : Sending) (f : IsSent lines i s) (a : SendsAt i s) (j : ℕ) (c : Carrying) (g : IsCarried lines j c) (b : CarriesAt j c) → b.carried.message ≡ a.sent.id → a.vat ≡ c.leaves
        → comes c.leaves b.carried.message zero (take b.at es) ≡ Some (record { line = a.at; args = plains a.sent.args })
    came i0 s f a j c g b e v =
        let front : a.at < b.at = sent_in_front i0 s f a j c b e in
        let number : zero + a.at ≡ a.at = omega arith in
        let here : comes_in c.leaves b.carried.message (zero + a.at) (Here a.vat (Sends a.act a.sent)) ≡ Some (record { line = a.at; args = plains a.sent.args }) =
        sent_came c.leaves b.carried.message (zero + a.at) a.vat a.act a.sent v (sym e) ∙ ap (λ n. Some (record { line = n; args = plains a.sent.args })) number in
        comes_at c.leaves b.carried.message zero (take b.at es) a.at (Here a.vat (Sends a.act a.sent)) (record { line = a.at; args = plains a.sent.args }) (get_take es b.at a.at _ front a.there)
        (λ k x l q n. let r = take_get es b.at k x q in none_came c.leaves b.carried.message n x
        (λ u act y i h. first_send i0 s f a k u act y (r.1 ∙ ap Some i) (h ∙ e) l)
        (λ o u w d z verb ys bytes i h. first_carry j c g b k o u w d z verb ys bytes (r.1 ∙ ap Some i) h r.0))
        here

    -- A reference that the text has behind the line in which message a was sent: the history has it as reached by a, behind the line that the text names.
    record Reached (a : Name) (i : ℕ) (q : Reference) (j : ℕ) : Type 0 where
      pub at : ℕ
      pub line : j ≡ start draws es at
      pub vat : ℕ
      pub name : Name
      pub since : ℕ
      pub there : q.vat ≡ Some vat
      pub called : q.name ≡ shown_name draws name
      pub told : IsNamed es name
      pub reach : IsAmong (record { vat = vat; name = name; since = since }) (reached_by a [] [] (take (suc at) es))
      pub early : since ≤ suc at
      pub behind : i ≤ j

    on_itself : (m : ShownMsg) (i : ℕ) (r : Reference) (o : IsSentOn lines m i r) (a : SendsAt i o.send) → Reached a.sent.id i r i
    on_itself m i r o a =
        let n = named_value draws a.vat a.sent.target r.name (sym a.target ∙ o.target) in
        let so = take a.at es in
        let long : length so ≡ a.at = take_length es a.at _ a.there in
        record {
          at = a.at;
          line = a.line;
          vat = a.vat;
          name = n.0;
          since = suc (length so);
          there = sym o.vat ∙ ap (vat_at lines) a.line ∙ vat_there a.at a.vat _ a.there;
          called = sym n.2;
          told = target a.at a.vat a.act a.sent a.there n.1;
          reach = reached_there a.sent.id es a.at (Here a.vat (Sends a.act a.sent)) _ a.there (sent_reaches a.sent.id so (reached_by a.sent.id [] [] so) a.vat a.act a.sent n.0 refl n.1);
          early = omega (arith, long);
          behind = omega arith;
        }

    -- what a carry line adds
    carry_reaches : (a : Name) (j : ℕ) (c : Carrying) (b : CarriesAt j c) (from : Coming) (r : Reach) (n : Name) → comes c.leaves b.carried.message zero (take b.at es) ≡ Some from → IsAmong r (reached_by a [] [] (take b.at es)) → r.vat ≡ c.leaves
        → nat_le r.since from.line ≡ true → IsAmong n (all_pass_as c.leaves (take b.at es) r.name b.args from.args) → IsAmong (record { vat = c.reaches; name = n; since = length (take b.at es) }) (reached_by a [] [] (take (suc b.at) es))
    unfolding reaches_on
    carry_reaches a j c b from r n e h v l p =
        let so = take b.at es in
        let rs = reached_by a [] [] so in
        reached_there a es b.at (Carried b.entry c.leaves c.reaches (Deliver b.carried b.aim b.verb b.args) b.bytes) _ b.there
        (subst (λ o. IsAmong (record { vat = c.reaches; name = n; since = length so }) (taken_on so c.leaves c.reaches b.args o rs)) (sym e) (taken_reaches so c.leaves c.reaches b.args from rs r n h v l p))

    goes_on : (a : Name) (i : ℕ) (p q : Reference) (j sent carried : ℕ) → Reached a i p j → j < sent → Passing lines p q sent carried → Reached a i q carried
    goes_on a i p q j sent carried b l h =
        let s = sends_at sent h.send h.is_sent.there in
        let c = carries_at carried h.carry h.is_carried.there in
        let same : c.carried.message ≡ s.sent.id = message_same c.carried.message s.sent.id c.is_message s.is_message (sym c.message ∙ h.same ∙ s.message) in
        let vat : s.vat ≡ b.vat = same_vat sent b.vat p.vat h.send s h.giver b.there in
        let leaves : b.vat ≡ h.carry.leaves = some_is b.vat h.carry.leaves (sym b.there ∙ h.leaves) in
        let n = named_argument draws s.vat s.sent.args h.place p.name (ap (λ xs. slice_get xs h.place) (sym s.args) ∙ h.given) in
        let one : n.0 ≡ b.name = apart n.0 b.name (argument s.at s.vat s.act h.place s.sent s.there n.1) b.told (n.2 ∙ b.called) in
        let y = named_in_note draws c.args h.place q.name (ap (λ xs. slice_get xs h.place) (sym c.shown) ∙ h.received) in
        let among : IsAmong y.1 (passes y.0) = subst (IsAmong y.1) (sym y.3) (inl refl) in
        let begins = b.line in
        let sends = s.line in
        let brings = c.line in
        let front : b.at < s.at = line_before draws es b.at s.at (omega (arith, l, begins, sends)) in
        let later : s.at < c.at = sent_in_front sent h.send h.is_sent s carried h.carry c same in
        let further : start draws es s.at < start draws es c.at = sent_further s.at c.at s.vat s.act s.sent s.there later in
        let so = take c.at es in
        let long : length so ≡ c.at = take_length es c.at _ c.there in
        let early = b.early in
        let behind = b.behind in
        let old = reached_stays a [] es [] (suc b.at) c.at _ (omega (arith, front, later)) b.reach in
        record {
          at = c.at;
          line = c.line;
          vat = h.carry.reaches;
          name = y.1;
          since = length so;
          there = h.reaches;
          called = sym y.4;
          told = passed c.at c.entry h.carry.leaves h.carry.reaches h.place c.carried c.aim c.verb c.args c.bytes y.0 c.there y.2 among;
          reach = carry_reaches a carried h.carry c _ _ y.1 (came sent h.send h.is_sent s carried h.carry h.is_carried c same (vat ∙ leaves)) old leaves (nat_le_true b.since s.at (omega (arith, early, front)))
              (argument_passes h.carry.leaves so b.name y.1 c.args s.sent.args h.place y.0 y.2 (n.1 ∙ ap (λ z. Some (Ref z)) one) among);
          early = omega (arith, long);
          behind = omega (arith, behind, l, sends, brings, further);
        }

    reached : (m : ShownMsg) (i : ℕ) (r : Reference) (o : IsSentOn lines m i r) (a : SendsAt i o.send) (q : Reference) (j : ℕ) → Behind lines r i q j → Reached a.sent.id i q j
    reached m i r o a q j (OnItself q1 j1 e f) = subst (λ z. Reached a.sent.id i z j) (sym e) (subst (λ z. Reached a.sent.id i r z) (sym f) (on_itself m i r o a))
    reached m i r o a q j (IsPassed p q1 j1 sent carried b l h) = goes_on a.sent.id i p q j1 sent carried (reached m i r o a p j1 b) l h

    -- ---- no object takes a message too early

    kept_so : (before after : Bool) → before ≡ true → (not before || after) ≡ true → after ≡ true
    kept_so true after e h = h
    kept_so false after e h = absurd (cc)

    module _ (ordered : Ordered es) (t i : ℕ) (n m : ShownMsg) (o : IsOvertaken lines t n m i) where
      abbrev b : Before lines m i n
      b = o.before

      abbrev first : SendsAt i b.sent.send
      first = sends_at i b.sent.send b.sent.is_sent.there

      abbrev second : SendsAt b.later b.sent_later.send
      second = sends_at b.later b.sent_later.send b.sent_later.is_sent.there

      abbrev taken : TakesAt t o.took
      taken = takes_at t o.took o.taken

      last : Reached first.sent.id i b.to b.last
      last = reached m i b.from b.sent first b.to b.last b.behind

      is_first : is_before first.sent.id second.sent.id es ≡ true
      unfolding is_before
      is_first =
          let r = last in
          let l = second in
          let vat : l.vat ≡ r.vat = same_vat b.later r.vat b.to.vat b.sent_later.send l b.sent_later.vat r.there in
          let name = named_value draws l.vat l.sent.target b.to.name (sym l.target ∙ b.sent_later.target) in
          let one : name.0 ≡ r.name = apart name.0 r.name (target l.at l.vat l.act l.sent l.there name.1) r.told (name.2 ∙ r.called) in
          let follows = b.follows in
          let begins = r.line in
          let sends = l.line in
          let front : r.at < l.at = line_before draws es r.at l.at (omega (arith, follows, begins, sends)) in
          let reach = reached_stays first.sent.id [] es [] (suc r.at) l.at _ (omega (arith, front)) r.reach in
          before_at first.sent.id l.sent.id [] es [] l.at _ l.there (sends_behind_it l.sent.id (reached_by first.sent.id [] [] (take l.at es)) l.vat l.act l.sent name.0 _ refl name.1 reach (sym vat) (sym one))

      after : taken_after first.sent.id second.sent.id es ≡ true
      unfolding keeps_order
      after = kept_so (is_before first.sent.id second.sent.id es) (taken_after first.sent.id second.sent.id es) is_first (ordered first.sent.id second.sent.id)

      taken_second : taken.took.id ≡ second.sent.id
      taken_second = message_same taken.took.id second.sent.id taken.is_message second.is_message (sym taken.message ∙ o.message ∙ sym b.sent_later.message ∙ second.message)

      object : object_takes_it second.sent.id (Here taken.vat (Took taken.act taken.took)) ≡ true
      unfolding object_takes_it
      object = and_true (same_name taken.took.id second.sent.id) (order.is_object taken.took.target) (ap (λ z. same_name taken.took.id z) (sym taken_second) ∙ same_self taken.took.id) (object_named draws taken.vat taken.took.target (sym taken.by_object ∙ o.by_object))

      -- they are two messages
      differ : second.sent.id ≡ first.sent.id → ⊥
      differ e =
          let r = last in
          let follows = b.follows in
          let behind = r.behind in
          let begins = first.line in
          let sends = second.line in
          let front : first.at < second.at = line_before draws es first.at second.at (omega (arith, follows, behind, begins, sends)) in
          first_send b.later b.sent_later.send b.sent_later.is_sent second first.at first.vat first.act first.sent first.there (sym e) front

      overtakes : ⊥
      overtakes = go (taken_so_far first.sent.id second.sent.id es taken.at _ after taken.there object)
        where
          go : TakenBy first.sent.id es taken.at → ⊥
          go r =
              let w = took_it first.sent.id r.1 r.4 in
              let at : slice_get es r.0 ≡ Some (Here w.vat (Took w.act w.took)) = r.3 ∙ ap Some w.line in
              let shows = took_shows draws w.vat w.act w.took in
              elim (no_order r.0 taken.at) [
                | inl l ↦
                    let further : start draws es r.0 < start draws es taken.at = start_further draws es r.0 taken.at _ shows.0 at shows.1 l in
                    o.waits (start draws es r.0, _, subst (λ n. start draws es r.0 < n) (sym taken.line) further, (shows.0, there_at draws es r.0 _ shows.0 at shows.1, shows.2), ap (shown_msg draws) w.id ∙ sym first.message ∙ b.sent.message)
                | inr l ↦
                    let before = r.2 in
                    let same : r.0 ≡ taken.at = omega (arith, before, l) in
                    let both : Some (Here w.vat (Took w.act w.took)) ≡ Some (Here taken.vat (Took taken.act taken.took)) = sym at ∙ ap (slice_get es) same ∙ taken.there in
                    let one : w.took ≡ taken.took = cc in
                    differ (sym taken_second ∙ ap (λ (x : Message Name). x.id) (sym one) ∙ w.id)
              ]

pub shown_in_order : HistoriesAreShownInOrder
shown_in_order draws es placed named carry apart ordered t i n m o = overtakes draws es placed named carry apart ordered t i n m o
