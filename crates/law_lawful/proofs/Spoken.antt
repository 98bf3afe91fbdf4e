-- What a frame says that the judge accepts names what was made, and is a note between its two vats.
use Rattle.std.proofs.Common.{◌≡◌, ℕ, ◌≤◌, ◌<◌, suc, ◌+◌, Bool, true, false, List, [], ◌∷◌, ◌++◌, Some, refl, sym, subst, inl, inr, length, arith}
use Rattle.def_op.specs.Frames as op
use Rattle.def_op.specs.Frames.{Described, Operation}
use Rattle.def_machine.specs.Values.{Prim, Name, Sent, host_of, key}
use Rattle.def_machine.specs.State.{Note, Deliver, Open, Ask, SettledTo, Elsewhere, Shorten, Vat}
use Rattle.def_machine.specs.Maps as maps
use Rattle.def_machine.proofs.Keys.{word_key}
use Rattle.def_machine.specs.Arrive.{Incoming}
use Rattle.def_run.specs.Connections.{Heard}
use Rattle.def_run.specs.Wire as wire
use Rattle.def_run.specs.Wire.{Connected, connected_at}
use Rattle.def_run.specs.World.{World, put_at, readied}
use Rattle.def_hostile.specs.Hostile.{Play, name_in, new_names, newcomers, read_op, completed, answer_if, deeds_for}
use Rattle.law_fate.specs.Name.Names.{Bit, AllOf, NoteOk, IsMessageMade, messages_of, promises_of}
use Rattle.law_fate.proofs.Name.Facts.{all_append, passed_up, passeds_up}
use Rattle.law_fate.proofs.Name.Among.{get_put, promises_at, messages_at}
use Rattle.law_reference.specs.Reference.Notes.{IsBetween, answer_due}
use Rattle.law_injected.specs.HostileRuns.{IsSpoken}
use Rattle.law_lawful.specs.Claims.{WasMade, IsMade, HasWord}
use Rattle.law_lawful.specs.Tables.{IsOf, TablesFit}
use Rattle.law_lawful.specs.Lawful.{IsThird, Passing, CarriesThirds}
use Rattle.law_lawful.proofs.Heard.{OpClaims, About, Sends, Provides, Accepts, Resolves, Shortens, SaysOf, note_says}
use Rattle.law_lawful.proofs.Shapes.{IsTarget, IsSubject, IsShaped, accepted_shaped}
use Rattle.law_lawful.proofs.Tables.{numbered_fits, connected_holds, nothing_fits}
use Rattle.law_lawful.proofs.Prepared.{Prepared, prepared, promises_in, messages_in, promises_of_kinds, promises_for, messages_for, HasMessage}

-- the new names of a hostile vat are its own, and were made once its promises are counted so far
new_fit : (Claim : ℕ → Type 0) (vats : List (Vat Name)) (draws : List ℕ) (h : ℕ) (ks : List Bool) (objects promises : ℕ) → promises + promises_of_kinds ks ≤ promises_of vats h → AllOf (IsOf (WasMade Claim vats draws) h) (new_names h objects promises ks)
unfolding new_names promises_of_kinds host_of
new_fit Claim vats draws h [] objects promises l = tt
new_fit Claim vats draws h (true ∷ ks) objects promises l = ((refl, tt), new_fit Claim vats draws h ks (suc objects) promises l)
new_fit Claim vats draws h (false ∷ ks) objects promises l = ((refl, (omega arith)), new_fit Claim vats draws h ks objects (suc promises) (omega arith))

-- a note from h to u that names what was made, and is between the two
module _ (play : Play) (Claim : ℕ → Type 0) (vats : List (Vat Name)) (draws : List ℕ) (h u : ℕ) where
  abbrev Made : Name → Type 0
  Made = WasMade Claim vats draws

  abbrev Own : Name → Type 0
  Own = IsOf Made u

  abbrev Theirs : Name → Type 0
  Theirs = IsOf Made h

  -- a gift that is told in the frame
  abbrev Third : Name → Type 0
  Third n = IsThird h n × Made n

  abbrev Good : Bit Name → Type 0
  Good b = IsMade Claim vats draws b × Passing h u b

  gift_word : (p w : ℕ) → Claim w → HasWord Claim draws (key p w)
  gift_word p w c = inr (subst Claim (sym (word_key p w)) c)

  -- it names what was made, is between the two, and carries what it may
  abbrev pub Fine : Note Name → Type 0
  Fine n = NoteOk (IsMade Claim vats draws) n × IsBetween h u n × CarriesThirds h u n

  made_of : (b : Bit Name) → Good b → IsMade Claim vats draws b
  made_of b g = g.0

  passing_of : (b : Bit Name) → Good b → Passing h u b
  passing_of b g = g.1

  answer_named : (b : Bool) (m : Name) → answer_if u m b ≡ answer_due u b m
  unfolding answer_if
  answer_named true m = refl
  answer_named false m = refl

  module _ (reader : Vat Name) (message : Name) where
    abbrev Says : Operation → Note Name → Type 0
    Says = SaysOf Own Theirs Good u h message

    abbrev Of : Described → Name → Type 0
    Of = About Own Theirs Good u h message

    target_own : (d : Described) (n : Name) → IsTarget d → Of d n → Own n
    target_own (op.YourExport p) n t r = r
    target_own (op.YourAnswer p) n t r = r
    target_own other n t r = absurd t

    subject_theirs : (d : Described) (n : Name) → IsSubject d → Of d n → Theirs n
    subject_theirs (op.MyPromise p) n t r = r
    subject_theirs (op.MyAnswer p) n t r = r
    subject_theirs other n t r = absurd t

    -- of a message that is made for it
    abbrev pub MessageMade : Note Name → Type 0
    MessageMade (Deliver e n verb ys) = IsMessageMade vats message
    MessageMade other = Unit {0}

    fine_sends : (d : Described) (m : Note Name) → IsTarget d → Sends Own Theirs Good u h message d m → MessageMade (completed play u reader m) → Fine (completed play u reader m)
    unfolding completed
    fine_sends d (Deliver e n verb ys) t r k = let own = target_own d n t r.1 in ((rw (sym r.0) at k, own.1, passeds_up Good (IsMade Claim vats draws) made_of ys r.2), own.0, (passeds_up Good (Passing h u) passing_of ys r.2, answer_named e.asks e.message))
    fine_sends d other t r k = absurd r

    fine_provides : (d : Described) (w : ℕ) (m : Note Name) → IsTarget d → Claim w → Provides Own Theirs Good u h message d w m → Fine (completed play u reader m)
    unfolding completed
    fine_provides d w (Open i n) t c r = let own = target_own d n t r.1 in ((rw (sym r.0) at (gift_word h w c), own.1), own.0, tt)
    fine_provides d w other t c r = absurd r

    fine_accepts : (p w : ℕ) (m : Note Name) → Claim w → Accepts Own Theirs Good u h message p w m → Fine (completed play u reader m)
    unfolding completed host_of
    fine_accepts p w (Ask q i n) c r = let g : HasWord Claim draws i = rw (sym r) at (gift_word p w c) in ((g, g), refl, tt)
    fine_accepts p w other c r = absurd r

    fine_resolves : (d : Described) (m : Note Name) → IsSubject d → Resolves Own Theirs Good u h message d m → Fine (completed play u reader m)
    unfolding completed
    fine_resolves d (SettledTo n y) t r = let own = subject_theirs d n t r.0 in ((own.1, passed_up Good (IsMade Claim vats draws) made_of y r.1), own.0, passed_up Good (Passing h u) passing_of y r.1)
    fine_resolves d (Elsewhere n c) t r = let own = subject_theirs d n t r in ((own.1, tt), own.0, tt)
    fine_resolves d other t r = absurd r

    fine_shortens : (d : Described) (w : ℕ) (m : Note Name) → IsTarget d → Claim w → Shortens Own Theirs Good u h message d w m → Fine (completed play u reader m)
    unfolding completed
    fine_shortens d w (Shorten n c i) t k r = let own = target_own d n t r.0 in ((own.1, rw (sym r.1) at (gift_word u w k)), (λ e. own.0), tt)
    fine_shortens d w other t k r = absurd r

    pub says_fine : (o : Operation) (m : Note Name) → Says o m → IsShaped o → OpClaims Claim o → MessageMade (completed play u reader m) → Fine (completed play u reader m)
    says_fine (op.Deliver q d verb ds) m r t k l = fine_sends d m t r l
    says_fine (op.DeliverOnly d verb ds) m r t k l = fine_sends d m t r l
    says_fine (op.Provide d w) m r t k l = fine_provides d w m t k r
    says_fine (op.Accept q p w) m r t k l = fine_accepts p w m k r
    says_fine (op.Resolve d o) m r t k l = fine_resolves d m t r
    says_fine (op.Shorten d w) m r t k l = fine_shortens d w m t k r

  module _ (c : Connected) (from : c.from ≡ u) (to : c.to ≡ h) (fit : TablesFit Made c) (new : List Name) (news : AllOf Theirs new) where
    exports_own : AllOf Own c.tables.exports
    exports_own = subst (λ v. AllOf (IsOf Made v) c.tables.exports) from fit.exports

    answers_own : AllOf Own c.tables.answers
    answers_own = subst (λ v. AllOf (IsOf Made v) c.tables.answers) from fit.answers

    questions_theirs : AllOf Theirs c.tables.questions
    questions_theirs = subst (λ v. AllOf (IsOf Made v) c.tables.questions) to fit.questions

    imports_theirs : AllOf Theirs c.tables.imports
    imports_theirs = subst (λ v. AllOf (IsOf Made v) c.tables.imports) to fit.imports

    numbered_theirs : (p : ℕ) → Theirs (wire.numbered h (c.tables.imports ++ new) p)
    numbered_theirs p = numbered_fits Claim vats draws h (c.tables.imports ++ new) p (all_append Theirs c.tables.imports new imports_theirs news)

    pub frame_says : (o : Operation) (message : Name) (y : Heard Name (Note (Incoming Name Name))) → OpClaims Claim o → read_op play h u c.tables new message o ≡ Some y → SaysOf Own Theirs Good u h message o (maps.note name_in y.read)
    unfolding read_op newcomers
    frame_says o message y k e = note_says Claim Own Theirs Third Good wire.is_object u h (newcomers h (c.tables.imports ++ new) message) c.tables exports_own answers_own questions_theirs
        numbered_theirs (λ p j. numbered_theirs p) numbered_theirs (λ g w j i. ((g, w, refl), gift_word h w i))
        (λ n a. (a.1, inl (inr a.0))) (λ n b. (b.1, inl (inl b.0))) (λ n g. (g.1, inr g.0)) (λ g. (tt, tt)) (λ w i. (gift_word h w i, tt))
        o _ y k (imports_theirs, tt) e

-- ---- what is spoken

module _ (play : Play) (Claim : ℕ → Type 0) (w : World) (h u : ℕ) (t : Vat Name) (n : Note Name) (o : Operation) (new : List Name) (x : IsSpoken play w h u t n o new) where
  abbrev pub Vats : List (Vat Name)
  Vats = put_at h t w.vats

  pub counts : Prepared (readied w x.record_of) t (promises_in (deeds_for u x.kinds n)) (messages_in (deeds_for u x.kinds n))
  counts = prepared play.script h (deeds_for u x.kinds n) (readied w x.record_of) t x.prepares

  promises_now : promises_of Vats h ≡ t.promises
  promises_now = promises_at Vats h t (get_put w.vats h x.record_of t x.speaks)

  messages_now : messages_of Vats h ≡ t.messages
  messages_now = messages_at Vats h t (get_put w.vats h x.record_of t x.speaks)

  pub news_fit : AllOf (IsOf (WasMade Claim Vats t.drawn) h) new
  unfolding readied
  news_fit = let p = counts in let a : x.record_of.promises + promises_in (deeds_for u x.kinds n) ≤ t.promises = p.promises in let b : promises_of_kinds x.kinds ≤ promises_in (deeds_for u x.kinds n) = promises_for u x.kinds n in let e = promises_now in
      let l : x.record_of.promises + promises_of_kinds x.kinds ≤ promises_of Vats h = omega arith in rw x.makes (new_fit Claim Vats t.drawn h x.kinds (length x.record_of.things) x.record_of.promises l)

  message_by : (m : Note Name) (k : ℕ) → HasMessage m k → x.record_of.messages + k ≤ t.messages → MessageMade play Claim Vats t.drawn h u x.reader (Sent (record { sender = h; number = x.record_of.messages })) m
  message_by (Deliver d y verb ys) k a b = let e = messages_now in let l : x.record_of.messages < messages_of Vats h = omega arith in l
  message_by other k a b = tt

  message_made : MessageMade play Claim Vats t.drawn h u x.reader (Sent (record { sender = h; number = x.record_of.messages })) n
  unfolding readied
  message_made = let p = counts in message_by n (messages_in (deeds_for u x.kinds n)) (messages_for u x.kinds n) p.messages

  fine_is : (m : Note Name) → n ≡ m → (MessageMade play Claim Vats t.drawn h u x.reader (Sent (record { sender = h; number = x.record_of.messages })) m → Fine play Claim Vats t.drawn h u m) → Fine play Claim Vats t.drawn h u n
  fine_is m e f = subst (λ z. Fine play Claim Vats t.drawn h u z) (sym e) (f (subst (λ z. MessageMade play Claim Vats t.drawn h u x.reader (Sent (record { sender = h; number = x.record_of.messages })) z) e message_made))

  -- where the tables are of their vats, and words of frames may be claimed
  pub spoken_fine : AllOf (TablesFit (WasMade Claim Vats t.drawn)) w.connections → OpClaims Claim o → Fine play Claim Vats t.drawn h u n
  spoken_fine fits claims = let k = connected_holds (TablesFit (WasMade Claim Vats t.drawn)) u h (nothing_fits Claim Vats t.drawn u h) w.connections fits in
      let m : Note Name = maps.note name_in x.heard.read in let message : Name = Sent (record { sender = h; number = x.record_of.messages }) in
      let says = frame_says play Claim Vats t.drawn h u (connected_at u h w.connections) k.1 k.2 k.0 (new_names h (length x.record_of.things) x.record_of.promises x.kinds) (rw x.makes at news_fit) o message x.heard claims x.reads in
      fine_is (completed play u x.reader m) x.says (λ j. says_fine play Claim Vats t.drawn h u x.reader message o m says (accepted_shaped _ u h _ x.bytes o x.kinds x.lawful) claims j)
