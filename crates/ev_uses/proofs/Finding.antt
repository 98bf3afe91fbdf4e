-- Tables find what lines have for each message.
use Rattle.std.proofs.Common.{◌≡◌, ℕ, zero, suc, ◌+◌, arith, Bool, true, false, cond, List, [], ◌∷◌, map, take, slice_get, Option, Some, None, refl, sym, ap, subst, ◌∙◌, rules, eq-eqb}
use Rattle.std.specs.Prelude.{◌↔◌, ◌==◌, ◌&&◌, IsTrue, is_some, if◌then◌else◌, unwrap_or}
use Rattle.std.proofs.lemmas.Bool.{eqb-true}
use Rattle.ev_base.specs.declared.names.Msg.{Msg}
use Rattle.def_event.specs.declared.note.ShownNote.TheVariants.{Deliver, DeliverOnly}
use Rattle.def_event.specs.declared.event.Event.{Event}
use Rattle.def_event.specs.declared.event.Event.TheVariants.{Carry, Send, SendOnly, When}
use Rattle.def_event.specs.Uses.{Line, Thing, arguments_in, carried_with, delivered_with, first_of, had, last_of, line_before, of_delivered, of_message, or_else, same_message, sent_with}
use Rattle.ev_base.specs.contracts.names.MsgPartialEq.TheImpl.{eq-value}
use Rattle.ev_uses.specs.declared.sources.Sources.{Sources}
use Rattle.ev_uses.specs.Places.{Notes, NotesFor, PutsFor, Table, place_in}
use Rattle.ev_uses.specs.Lines.{carries, given_by, holds, message_of, sends, things_with}
use Rattle.ev_uses.specs.Finding.{Finds, FindsBefore, Having, SourcesStand, found_at, things_at, things_by}

-- ---- messages as keys

key_is : (a b : Msg) → IsTrue (eq-value.it a b) ↔ (a ≡ b)
key_is a b = search rules

both : (a b : Bool) → (a && b) ≡ true → (a ≡ true) × (b ≡ true)
both true true h = (refl, refl)
both true false h = absurd cc
both false b h = absurd cc

both_so : (a b : Bool) → a ≡ true → b ≡ true → (a && b) ≡ true
both_so true true h k = refl
both_so true false h k = absurd cc
both_so false b h k = absurd cc

same_is : (m n : Msg) → same_message m n ≡ true → n ≡ m
same_is m n h =
    let p = both (m.sender == n.sender) (m.number == n.number) h in
    ap (λ (s : ℕ). record { sender = s; number = n.number }) (sym (eqb-true m.sender n.sender p.0)) ∙ ap (λ (k : ℕ). record { sender = m.sender; number = k }) (sym (eqb-true m.number n.number p.1))

is_same : (m n : Msg) → n ≡ m → same_message m n ≡ true
is_same m n h =
    both_so (m.sender == n.sender) (m.number == n.number)
    (eq-eqb m.sender n.sender (sym (ap (λ (k : Msg). k.sender) h)))
    (eq-eqb m.number n.number (sym (ap (λ (k : Msg). k.number) h)))

same_bools : (a b : Bool) → (a ≡ true → b ≡ true) → (b ≡ true → a ≡ true) → a ≡ b
same_bools true b f g = sym (f refl)
same_bools false true f g = g refl
same_bools false false f g = refl

-- the test of keys is the test of messages
key_test : (m n : Msg) → eq-value.it n m ≡ same_message m n
key_test m n =
    let both_ways = key_is n m in
    same_bools (eq-value.it n m) (same_message m n) (λ e. is_same m n (both_ways.0 e)) (λ e. both_ways.1 (same_is m n e))

-- ---- what lines have, by their messages

carried_is : (m : Msg) (e : Event) → carried_with m e ≡ of_delivered m (carries e)
unfolding carried_with delivered_with carries given_by
carried_is m (Carry k v w (Deliver n target verb args)) = refl
carried_is m (Carry k v w (DeliverOnly n target verb args)) = refl
carried_is m (Carry k v w _) = refl
carried_is m _ = refl

sent_is : (m : Msg) (e : Event) → sent_with m e ≡ of_delivered m (sends e)
unfolding sent_with sends
sent_is m (Send s) = refl
sent_is m (SendOnly s) = refl
sent_is m (When w) = refl
sent_is m _ = refl

had_is : (m : Msg) (e : Event) → had m e ≡ of_delivered m (holds e)
unfolding had holds
had_is m (Send s) = refl
had_is m (SendOnly s) = refl
had_is m (Carry k v w note) = refl
had_is m _ = refl

-- ---- one line more

else_none : {A : Type 0} (o : Option A) → o ≡ or_else o None
else_none None = refl
else_none (Some x) = refl

module _ (of : Having) (es : List Event) (i : ℕ) (e : Event) (at : slice_get es i ≡ Some e) where
  things_here : things_at of es i ≡ things_with (of e)
  unfolding things_at
  things_here = ap (things_by of) at

  -- the table finds it at the new place, or what it found
  put_if : (b : Bool) (m n : Msg) (ts : List Thing) (was now : Option ℕ) → of e ≡ Some (n, ts) → same_message m n ≡ b → now ≡ cond b (Some i) was
      → found_at of es now ≡ or_else (of_message m n ts) (found_at of es was)
  put_if true m n ts was now is same put =
      ap (found_at of es) put ∙ ap (λ (xs : List Thing). Some xs) (things_here ∙ ap things_with is) ∙ ap (λ (b : Bool). or_else (if b then Some ts else None) (found_at of es was)) (sym same)
  put_if false m n ts was now is same put =
      ap (found_at of es) put ∙ ap (λ (b : Bool). or_else (if b then Some ts else None) (found_at of es was)) (sym same)

  put_for : (o : Option (Msg × List Thing)) (m : Msg) (old new : Table) → of e ≡ o → PutsFor (message_of o) i old new
      → found_at of es (place_in new m) ≡ or_else (of_delivered m o) (found_at of es (place_in old m))
  put_for None m old new is put = ap (λ (t : Table). found_at of es (place_in t m)) put
  put_for (Some d) m old new is put =
      put_if (same_message m d.0) m d.0 d.1 (place_in old m) (place_in new m) is refl
      (put m ∙ ap (λ (b : Bool). cond b (Some i) (place_in old m)) (key_test m d.0))

  -- a table in which there was none
  note_if : (b : Bool) (m n : Msg) (ts : List Thing) (was now : Option ℕ) → of e ≡ Some (n, ts) → same_message m n ≡ b → now ≡ cond b (Some i) was → (b ≡ true → was ≡ None)
      → found_at of es now ≡ or_else (found_at of es was) (of_message m n ts)
  note_if true m n ts was now is same put none =
      put_if true m n ts was now is same put
      ∙ ap (λ (o : Option ℕ). or_else (of_message m n ts) (found_at of es o)) (none refl)
      ∙ sym (else_none (of_message m n ts))
      ∙ ap (λ (o : Option ℕ). or_else (found_at of es o) (of_message m n ts)) (sym (none refl))
  note_if false m n ts was now is same put none =
      ap (found_at of es) put ∙ else_none (found_at of es was) ∙ ap (λ (b : Bool). or_else (found_at of es was) (if b then Some ts else None)) (sym same)

  some_else : (o : Option ℕ) (p : Option (List Thing)) → is_some o ≡ true → found_at of es o ≡ or_else (found_at of es o) p
  some_else None p h = absurd cc
  some_else (Some k) p h = refl

  none_is : (o : Option ℕ) → is_some o ≡ false → o ≡ None
  none_is None h = refl
  none_is (Some k) h = absurd cc

  -- a message that has a place, of a line of that message or not
  noted_some : (b : Bool) (m n : Msg) (ts : List Thing) (o : Option ℕ) → same_message m n ≡ b → (b ≡ true → is_some o ≡ true)
      → found_at of es o ≡ or_else (found_at of es o) (of_message m n ts)
  noted_some true m n ts o same has = some_else o (of_message m n ts) (has refl)
  noted_some false m n ts o same has =
      else_none (found_at of es o) ∙ ap (λ (b : Bool). or_else (found_at of es o) (if b then Some ts else None)) (sym same)

  note_by : (b : Bool) (m n : Msg) (ts : List Thing) (old new : Table) → of e ≡ Some (n, ts) → is_some (place_in old n) ≡ b → Notes n i b old new
      → found_at of es (place_in new m) ≡ or_else (found_at of es (place_in old m)) (of_message m n ts)
  note_by true m n ts old new is has noted =
      ap (λ (t : Table). found_at of es (place_in t m)) noted
      ∙ noted_some (same_message m n) m n ts (place_in old m) refl
      (λ same. ap (λ (k : Msg). is_some (place_in old k)) (sym (same_is m n same)) ∙ has)
  note_by false m n ts old new is has noted =
      note_if (same_message m n) m n ts (place_in old m) (place_in new m) is refl
      (noted m ∙ ap (λ (b : Bool). cond b (Some i) (place_in old m)) (key_test m n))
      (λ same. ap (place_in old) (sym (same_is m n same)) ∙ none_is (place_in old n) has)

  note_for : (o : Option (Msg × List Thing)) (m : Msg) (old new : Table) → of e ≡ o → NotesFor (message_of o) i old new
      → found_at of es (place_in new m) ≡ or_else (found_at of es (place_in old m)) (of_delivered m o)
  note_for None m old new is noted =
      ap (λ (t : Table). found_at of es (place_in t m)) noted ∙ else_none (found_at of es (place_in old m))
  note_for (Some d) m old new is noted = note_by (is_some (place_in old d.0)) m d.0 d.1 old new is refl noted

-- ---- the last line before

pub none_before : (es : List Event) (table : Table) → table ≡ [] → FindsBefore es table []
unfolding place_in
none_before es table none = subst (λ (t : Table). FindsBefore es t []) (sym none) (record { each = λ m. refl })

pub before_step : (es : List Event) (i at : ℕ) (e : Event) (past : List Line) (old new : Table) → slice_get es i ≡ Some e → PutsFor (message_of (holds e)) i old new → FindsBefore es old past
    → FindsBefore es new (record { at = at; event = e } ∷ past)
before_step es i at e past old new get put h = record {
  each = λ m.
      put_for holds es i e get (holds e) m old new refl put
      ∙ ap (or_else (of_delivered m (holds e))) (h.each m)
      ∙ ap (λ (o : Option (List Thing)). or_else o (first_of (had m) (map (λ (l : Line). l.event) past))) (sym (had_is m e));
}

pub before_is : (es : List Event) (table : Table) (past : List Line) (m : Msg) → FindsBefore es table past → unwrap_or (found_at holds es (place_in table m)) [] ≡ line_before past m
before_is es table past m h = ap (λ (o : Option (List Thing)). unwrap_or o []) (h.each m)

-- ---- the last and the first line of a whole history

module _ {A : Type 0} (f : Event → Option A) where
  else_assoc : (a b c : Option A) → or_else (or_else a b) c ≡ or_else a (or_else b c)
  else_assoc None b c = refl
  else_assoc (Some x) b c = refl

  last_take : (es : List Event) (i : ℕ) (e : Event) → slice_get es i ≡ Some e → last_of f (take (suc i) es) ≡ or_else (f e) (last_of f (take i es))
  last_take [] i e h = absurd cc
  last_take (x ∷ es) zero e h = let same : x ≡ e = cc in ap f same ∙ else_none (f e)
  last_take (x ∷ es) (suc i) e h = ap (λ o. or_else o (f x)) (last_take es i e h) ∙ else_assoc (f e) (last_of f (take i es)) (f x)

  first_take : (es : List Event) (i : ℕ) (e : Event) → slice_get es i ≡ Some e → first_of f (take (suc i) es) ≡ or_else (first_of f (take i es)) (f e)
  first_take [] i e h = absurd cc
  first_take (x ∷ es) zero e h = let same : x ≡ e = cc in sym (else_none (f x)) ∙ ap f same
  first_take (x ∷ es) (suc i) e h = ap (or_else (f x)) (first_take es i e h) ∙ sym (else_assoc (f x) (first_of f (take i es)) (f e))

pub none_found : (es : List Event) (tables : Sources) → tables.carried ≡ [] → tables.sent ≡ [] → SourcesStand es tables []
unfolding place_in
none_found es tables c s = record {
  carried = subst (λ (t : Table). Finds carries es t (λ m. None)) (sym c) (record { each = λ m. refl });
  sent = subst (λ (t : Table). Finds sends es t (λ m. None)) (sym s) (record { each = λ m. refl });
}

pub source_step : (es : List Event) (i : ℕ) (e : Event) (old new : Sources) → slice_get es i ≡ Some e → PutsFor (message_of (carries e)) i old.carried new.carried
    → NotesFor (message_of (sends e)) i old.sent new.sent → SourcesStand es old (take i es) → SourcesStand es new (take (i + 1) es)
source_step es i e old new get put note h =
    let next : suc i ≡ i + 1 = omega arith in
    subst (λ (n : ℕ). SourcesStand es new (take n es)) next (record {
      carried = record {
        each = λ m.
            put_for carries es i e get (carries e) m old.carried new.carried refl put
            ∙ ap (or_else (of_delivered m (carries e))) (h.carried.each m)
            ∙ ap (λ (o : Option (List Thing)). or_else o (last_of (carried_with m) (take i es))) (sym (carried_is m e))
            ∙ sym (last_take (carried_with m) es i e get);
      };
      sent = record {
        each = λ m.
            note_for sends es i e get (sends e) m old.sent new.sent refl note
            ∙ ap (λ (o : Option (List Thing)). or_else o (of_delivered m (sends e))) (h.sent.each m)
            ∙ ap (or_else (first_of (sent_with m) (take i es))) (sym (sent_is m e))
            ∙ sym (first_take (sent_with m) es i e get);
      };
    })

-- ---- what a message was sent with

arguments_are : (es : List Event) (tables : Sources) (m : Msg) → SourcesStand es tables es
    → unwrap_or (or_else (found_at carries es (place_in tables.carried m)) (found_at sends es (place_in tables.sent m))) [] ≡ arguments_in es m
arguments_are es tables m h =
    ap (λ (o : Option (List Thing)). unwrap_or (or_else o (found_at sends es (place_in tables.sent m))) []) (h.carried.each m)
    ∙ ap (λ (o : Option (List Thing)). unwrap_or (or_else (last_of (carried_with m) es) o) []) (h.sent.each m)

module _ (es : List Event) (tables : Sources) (m : Msg) (h : SourcesStand es tables es) where
  pub source_carried : (i : ℕ) (o : Option ℕ) → o ≡ place_in tables.carried m → o ≡ Some i → things_at carries es i ≡ arguments_in es m
  source_carried i o find is =
      ap (λ (p : Option ℕ). unwrap_or (or_else (found_at carries es p) (found_at sends es (place_in tables.sent m))) []) (sym is ∙ find) ∙ arguments_are es tables m h

  pub source_sent : (i : ℕ) (o p : Option ℕ) → o ≡ place_in tables.carried m → o ≡ None → p ≡ place_in tables.sent m → p ≡ Some i
      → things_at sends es i ≡ arguments_in es m
  source_sent i o p find none find_sent is =
      ap (λ (q : Option ℕ). unwrap_or (or_else (found_at carries es None) (found_at sends es q)) []) (sym is ∙ find_sent)
      ∙ ap (λ (q : Option ℕ). unwrap_or (or_else (found_at carries es q) (found_at sends es (place_in tables.sent m))) []) (sym none ∙ find)
      ∙ arguments_are es tables m h

  pub source_none : (o p : Option ℕ) → o ≡ place_in tables.carried m → o ≡ None → p ≡ place_in tables.sent m → p ≡ None → [] ≡ arguments_in es m
  source_none o p find none find_sent none_sent =
      ap (λ (q : Option ℕ). unwrap_or (or_else (found_at carries es None) (found_at sends es q)) []) (sym none_sent ∙ find_sent)
      ∙ ap (λ (q : Option ℕ). unwrap_or (or_else (found_at carries es q) (found_at sends es (place_in tables.sent m))) []) (sym none ∙ find)
      ∙ arguments_are es tables m h
