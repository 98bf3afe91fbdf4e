-- In a step of one vat each name that it has was made, where gifts may be claimed.
use Rattle.std.proofs.Common.{◌≡◌, ℕ, ◌≤◌, ◌<◌, suc, Bool, true, false, List, [], ◌∷◌, ◌++◌, Some, inl, inr, arith}
use Rattle.std.specs.Prelude.{slice_get, ◌==◌}
use Rattle.def_machine.specs.Refs as refs
use Rattle.def_machine.specs.Refs.{Mine, Away}
use Rattle.def_machine.specs.Values.{Name, Root, Object, Promise, Answer, Gift, Sent, Msg, Own, Foreign, NoObject, spot_of, naming, name_of, answer_of, mail_of, key, word_of}
use Rattle.def_machine.specs.State.{Vat, begun}
use Rattle.def_machine.proofs.Keys.{word_key}
use Rattle.def_run.specs.World.{put_at}
use Rattle.law_fate.specs.Name.Names.{Bit, Named, Mail, Drew, Entered, Owns, Gave, IsAmong, IsMessageMade, promises_of, messages_of}
use Rattle.law_fate.proofs.Name.Among.{among_more, drawn_last, get_put, promises_grow, messages_grow, promises_at, messages_at}
use Rattle.law_fate.proofs.Name.Care.{Care, Spots, Under, Giving, Makes}
use Rattle.law_fate.proofs.Name.Facts.{PlaceOk}
use Rattle.law_fate.proofs.Name.SameNames.{reference_is}
use Rattle.law_lawful.specs.Claims.{HasWord, WasMade, IsMade}

-- how the counts of promises and messages and the draws go on
pub record Grew (p m : ℕ) (d : List ℕ) (p' m' : ℕ) (d' : List ℕ) : Type 0 where
  pub promises : p ≤ p'
  pub messages : m ≤ m'
  pub draws : (x : ℕ) → IsAmong x d → IsAmong x d'

abbrev pub Grows : Vat Name → Vat Name → Type 0
Grows s t = Grew s.promises s.messages s.drawn t.promises t.messages t.drawn

pub grows_same : (s : Vat Name) → Grows s s
grows_same s = record { promises = omega arith; messages = omega arith; draws = λ x a. a }

pub grows_on : (s t u : Vat Name) → Grows s t → Grows t u → Grows s u
grows_on s t u h k = let a : s.promises ≤ t.promises = h.promises in let b : t.promises ≤ u.promises = k.promises in let c : s.messages ≤ t.messages = h.messages in let d : t.messages ≤ u.messages = k.messages in
    record { promises = omega arith; messages = omega arith; draws = λ x i. k.draws x (h.draws x i) }

module _ (Claim : ℕ → Type 0) where
  -- what was made stays made
  module _ (us vs : List (Vat Name)) (d e : List ℕ) (promises : (w : ℕ) → promises_of us w ≤ promises_of vs w) (messages : (w : ℕ) → messages_of us w ≤ messages_of vs w) (draws : (x : ℕ) → IsAmong x d → IsAmong x e) where
    below : (i a b : ℕ) → i < a → a ≤ b → i < b
    below i a b h k = omega arith

    pub word_up : (i : ℕ) → HasWord Claim d i → HasWord Claim e i
    word_up i (inl a) = inl (draws (word_of i) a)
    word_up i (inr c) = inr c

    pub made_up : (n : Name) → WasMade Claim us d n → WasMade Claim vs e n
    made_up (Promise w i) h = below i (promises_of us w) (promises_of vs w) h (promises w)
    made_up (Answer w m) h = below m.number (messages_of us m.sender) (messages_of vs m.sender) h (messages m.sender)
    made_up (Gift w i) h = word_up i h
    made_up (Sent m) h = absurd h
    made_up other h = tt

    mail_up : (n : Name) → IsMessageMade us n → IsMessageMade vs n
    mail_up (Sent m) h = below m.number (messages_of us m.sender) (messages_of vs m.sender) h (messages m.sender)
    mail_up other h = absurd h

    pub is_made_up : (b : Bit Name) → IsMade Claim us d b → IsMade Claim vs e b
    is_made_up (Named n) h = made_up n h
    is_made_up (Mail n) h = mail_up n h
    is_made_up (Drew i) h = word_up i h
    is_made_up (Entered n) h = made_up n h
    is_made_up (Owns n i) h = made_up n h
    is_made_up (Gave i) h = word_up i h
    is_made_up other h = tt

  module _ (vats : List (Vat Name)) (v : ℕ) (q : Vat Name) (there : slice_get vats v ≡ Some q) where
    abbrev pub Ok : Vat Name → Bit Name → Type 0
    Ok s b = IsMade Claim (put_at v s vats) s.drawn b

    pub ok_up : (s t : Vat Name) → Grows s t → (b : Bit Name) → Ok s b → Ok t b
    ok_up s t r b h = is_made_up (put_at v s vats) (put_at v t vats) s.drawn t.drawn (λ w. promises_grow vats v s t w r.promises) (λ w. messages_grow vats v s t w r.messages) r.draws b h

    abbrev pub AnyMore : Vat Name → Type 0
    AnyMore s = Unit {0}

    abbrev pub claimed : Care Name
    claimed = record {
      ok = Ok;
      more = AnyMore;
      rel = Grows;
      same = grows_same;
      trans = grows_on;
      up = λ s t r b h. ok_up s t r b h;
      here = λ s h. tt;
      near = λ s w h. tt;
      entered = λ s n h. h;
      owned = λ s n i h. h;
      owner = λ s n i h k. h;
      drew = λ s i h. h;
      fuel = λ s n. (grows_same s, λ h. h);
      told = λ s e n. (grows_same s, λ h. h);
      activations = λ s. (grows_same s, λ h. h);
      thing = λ s t. (grows_same s, λ h. h);
      killed = λ s n. (grows_same s, λ h. h);
      slot = λ s c. (grows_same s, λ h. h);
      written = λ s n x. (grows_same s, λ h. h);
      list = λ s vs. (grows_same s, λ h. h);
    }

    module _ (word : ℕ → ℕ) where
      hosted_place : (s : Vat Name) (n : Name) (h : ℕ) (b : Bool) → Ok s (Named n) → PlaceOk (Ok s) (elim b [ true ↦ Mine n | false ↦ Away h n false ])
      hosted_place s n h true g = g
      hosted_place s n h false g = (g, tt)

      foreign_place : (s : Vat Name) (w i : ℕ) (b : Bool) → Ok s (Named (Object w i)) → PlaceOk (Ok s) (refs.spotted (naming word v) s (Object w i) (elim b [ true ↦ Own i | false ↦ Foreign w ]))
      unfolding refs.spotted
      foreign_place s w i true g = tt
      foreign_place s w i false g = (g, tt)

      eventual_place : (s : Vat Name) (n : Name) → Ok s (Named n) → PlaceOk (Ok s) (refs.spotted (naming word v) s n NoObject)
      unfolding refs.spotted refs.hosted refs.host_at
      eventual_place s n g = hosted_place s n (refs.host_in s.number (refs.entry_of (naming word v) s.known n)) (s.number == refs.host_in s.number (refs.entry_of (naming word v) s.known n)) g

      spots_place : (s : Vat Name) (n : Name) → Ok s (Named n) → PlaceOk (Ok s) (refs.spotted (naming word v) s n (spot_of v n))
      unfolding spot_of
      spots_place s (Object w i) g = foreign_place s w i (v == w) g
      spots_place s (Root w) g = eventual_place s (Root w) g
      spots_place s (Promise w i) g = eventual_place s (Promise w i) g
      spots_place s (Answer w m) g = eventual_place s (Answer w m) g
      spots_place s (Gift w i) g = eventual_place s (Gift w i) g
      spots_place s (Sent m) g = absurd g

      claimed_spots : Spots (naming word v) claimed
      unfolding naming
      claimed_spots = record { alike = λ a b e. reference_is a b e; placed = λ s h n g. spots_place s n g }

      drew : (s : Vat Name) (w : ℕ) → Grows s (record s { drawn = s.drawn ++ w ∷ [] })
      drew s w = record { promises = omega arith; messages = omega arith; draws = λ x a. among_more x s.drawn w a }

      answered_ok : (s : Vat Name) (h : ℕ) (n : Name) → Ok s (Mail n) → Ok s (Named (answer_of h n))
      unfolding answer_of
      answered_ok s h (Sent m) l = l
      answered_ok s h other l = absurd l

      pub claimed_under : Under (naming word v) claimed
      unfolding naming name_of answer_of mail_of
      claimed_under = record {
        spots = claimed_spots;
        object = λ s i l. tt;
        happened = λ s e. (grows_same s, λ h. h);
        queue = λ s m. (grows_same s, λ h. h);
        outbox = λ s p h. (grows_same s, λ h. h);
        opened = λ s p i. (grows_same s, λ h. h);
        noticed = λ s w. (grows_same s, λ h. h);
        drawn = λ s w. (drew s w, λ h. h, inl (drawn_last s.drawn w (key s.number w) (word_key s.number w)));
        altered = λ s c n none h. (grows_same s, λ k. k);
        answered = λ s h n l at. (grows_same s, λ k. k, ok_up s (record s { known = s.known ++ begun (answer_of h n) h ∷ [] }) (grows_same s) (Named (answer_of h n)) (answered_ok s h n l));
      }

      pub claimed_gives : Giving (naming word v) claimed
      unfolding naming name_of
      claimed_gives = record {
        gift = λ s g h. (grows_same s, λ h. h);
        given = λ s h i l at. (grows_same s, λ k. k, l);
        hosted = λ s i k l. (grows_same s, λ k. k, l);
      }

      promise_made : (s : Vat Name) → let t : Vat Name = record s { promises = suc s.promises; known = s.known ++ begun (Promise v s.promises) s.number ∷ [] } in Grows s t × (AnyMore s → AnyMore t) × Ok t (Named (Promise v s.promises))
      promise_made s = let t : Vat Name = record s { promises = suc s.promises; known = s.known ++ begun (Promise v s.promises) s.number ∷ [] } in
          let r : Grows s t = record { promises = omega arith; messages = omega arith; draws = λ x a. a } in
          let e : promises_of (put_at v t vats) v ≡ suc s.promises = promises_at (put_at v t vats) v t (get_put vats v q t there) in
          let l : s.promises < promises_of (put_at v t vats) v = omega arith in (r, λ k. k, l)

      message_made : (s : Vat Name) (h : ℕ) → let m : Msg = record { sender = v; number = s.messages } in let t : Vat Name = record s { messages = suc s.messages; mails = s.mails ++ Sent m ∷ []; known = s.known ++ begun (Answer h m) h ∷ [] } in
          Grows s t × (AnyMore s → AnyMore t) × Ok t (Mail (Sent m)) × Ok t (Named (Answer h m))
      message_made s h = let m : Msg = record { sender = v; number = s.messages } in let t : Vat Name = record s { messages = suc s.messages; mails = s.mails ++ Sent m ∷ []; known = s.known ++ begun (Answer h m) h ∷ [] } in
          let r : Grows s t = record { promises = omega arith; messages = omega arith; draws = λ x a. a } in
          let e : messages_of (put_at v t vats) v ≡ suc s.messages = messages_at (put_at v t vats) v t (get_put vats v q t there) in
          let l : s.messages < messages_of (put_at v t vats) v = omega arith in (r, λ k. k, l, l)

      lone_made : (s : Vat Name) → let m : Msg = record { sender = v; number = s.messages } in let t : Vat Name = record s { messages = suc s.messages; mails = s.mails ++ Sent m ∷ [] } in Grows s t × (AnyMore s → AnyMore t) × Ok t (Mail (Sent m))
      lone_made s = let m : Msg = record { sender = v; number = s.messages } in let t : Vat Name = record s { messages = suc s.messages; mails = s.mails ++ Sent m ∷ [] } in
          let r : Grows s t = record { promises = omega arith; messages = omega arith; draws = λ x a. a } in
          let e : messages_of (put_at v t vats) v ≡ suc s.messages = messages_at (put_at v t vats) v t (get_put vats v q t there) in
          let l : s.messages < messages_of (put_at v t vats) v = omega arith in (r, λ k. k, l)

      pub claimed_makes : Makes (naming word v) claimed
      unfolding naming name_of answer_of mail_of
      claimed_makes = record {
        promised = λ s. promise_made s;
        messaged = λ s h at. message_made s h;
        lone = lone_made;
      }
