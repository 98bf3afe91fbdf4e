-- What holds of each piece of a line, and is kept where pieces are put together, holds of each word of it.
use Rattle.std.proofs.Common.{◌≡◌, ℕ, zero, suc, ◌-◌, ltb, cond, Bool as Bools, true, false, ℤ, List, [], ◌∷◌, ◌++◌, Option, Some, None, refl}
use Rattle.std.specs.Prelude.{codes, decimal, slice_get, unwrap_or}
use Rattle.std.specs.Fmt.{signed_decimal}
use Rattle.std.specs.Str.{IsUtf8}
use Rattle.ev_base.specs.SafeScope.{primitives}
use Rattle.ev_base.specs.declared.names.Name.{Name}
use Rattle.ev_base.specs.declared.names.Name.TheVariants.{Object, Own, Answer, Gift, Root, Claimed}
use Rattle.ev_base.specs.declared.names.Msg.{Msg}
use Rattle.def_text.specs.Quoting.{shortened, quoted_character}
use Rattle.def_text.specs.Keywords.{printed_verb}
use Rattle.def_event.specs.declared.shown.Shown.{Shown, Bool, Int, Char, Text, Broken, Prim, List as ListOf, Slot, Name as Named, Members', Row_of-Shown, end_of-Shown, more_of-Shown}
use Rattle.def_event.specs.declared.note.ShownNote.{ShownNote}
use Rattle.def_event.specs.declared.note.ShownNote.TheVariants.{Deliver, DeliverOnly, Settled, Elsewhere, Open as Opens, Ask, Shorten}
use Rattle.def_event.specs.declared.event.Event.{Event}
use Rattle.def_event.specs.declared.event.Event.TheVariants.{Open, Turn, Idle, Carry, Cut, Notice, Frame, Take, Call, Back, Thrown, Gone, Got, Slot as SlotMade, Read, Wrote, List as ListMade, Arrived, Ejector, Audition, Promise, Made, Send, SendOnly, When, Done, Threw, Settle, Wait, View, LostCut, LostBroken, LeftQueue, LeftHeld, LeftWait, LeftLink, End, Raw}
use Rattle.def_event.specs.declared.raw.RawLine.TheVariants.{Inject, InjectCut, Malformed, Bytes, LeftBytes}
use Rattle.def_event.specs.Lines.{spaced, hex, low_first, primitive_name, activation, begun_words, vat, numbered, message, name, value, member_values, values, note_words, part, words}
use Rattle.law_text.specs.Text.Feeds.{AllOf, NoteFits, FitsAs}
use Rattle.law_text.specs.Text.Words.{ordinary, IsOrdinary}

-- P holds of each piece, and is kept
pub record Leaves (vats : List (List ℕ)) (P : List ℕ → Type 0) : Type 0 where
  pub literal : (w : List ℕ) → IsOrdinary w → P w
  pub append : (xs ys : List ℕ) → P xs → P ys → P (xs ++ ys)
  pub first : (c : ℕ) (cs : List ℕ) → ordinary c ≡ true → P cs → P (c ∷ cs)
  pub place : (v : ℕ) → P (vat vats v)
  pub number : (n : ℕ) → P (decimal n)
  pub signed : (z : ℤ) → P (signed_decimal z)
  pub bytes : (bs : List ℕ) → P (hex bs)
  pub character : (c : ℕ) → P (quoted_character c)
  pub text : (t : List ℕ) → P (shortened t)
  pub verb : (v : List ℕ) → IsUtf8 v → P (printed_verb v)
  pub list : (ws : List (List ℕ)) → AllOf P ws → P (91 ∷ (spaced ws ++ 93 ∷ []))

-- and there is one
abbrev pub AllSome : {A : Type 0} → (A → Type 0) → List A → Type 0
AllSome P [] = ⊥
AllSome P (x ∷ xs) = P x × AllOf P xs

module _ (vats : List (List ℕ)) (P : List ℕ → Type 0) (L : Leaves vats P) where
  -- each of these words
  abbrev Are : List (List ℕ) → Type 0
  Are ws = AllOf P ws

  are_append : (vs ws : List (List ℕ)) → Are vs → Are ws → Are (vs ++ ws)
  are_append [] ws h k = k
  are_append (v ∷ vs) ws h k = (h.0, are_append vs ws h.1 k)

  at_line : (ws : List (List ℕ)) (n : ℕ) → Are ws → P (unwrap_or (slice_get ws n) [])
  at_line [] n h = L.literal [] refl
  at_line (w ∷ ws) zero h = h.0
  at_line (w ∷ ws) (suc n) h = at_line ws n h.1

  primitives_are : Are primitives
  primitives_are = (L.literal _ refl, (L.literal _ refl, (L.literal _ refl, (L.literal _ refl, (L.literal _ refl, (L.literal _ refl, (L.literal _ refl, (L.literal _ refl, (L.literal _ refl, (L.literal _ refl, (L.literal _ refl, (L.literal _ refl, (L.literal _ refl, (L.literal _ refl, (L.literal _ refl, (L.literal _ refl, (L.literal _ refl, (L.literal _ refl, (L.literal _ refl, (L.literal _ refl, tt))))))))))))))))))))

  pick_line : (t : Bools) (xs ys : List ℕ) → P xs → P ys → P (cond t xs ys)
  pick_line true xs ys h k = h
  pick_line false xs ys h k = k

  primitive_line : (n : ℕ) → P (primitive_name n)
  primitive_line n = pick_line (ltb n 32) (unwrap_or (slice_get primitives n) []) (codes "nullOk:" ++ unwrap_or (slice_get primitives (n - 32)) []) (at_line primitives n primitives_are)
      (L.append (codes "nullOk:") (unwrap_or (slice_get primitives (n - 32)) []) (L.literal _ refl) (at_line primitives (n - 32) primitives_are))

  activation_line : (n : ℕ) → P (activation n)
  activation_line n = L.first 33 (decimal n) refl (L.number n)

  begun_are : (o : Option ℕ) → Are (begun_words o)
  begun_are None = tt
  begun_are (Some b) = (L.literal _ refl, (activation_line b, tt))

  numbered_line : (v mark n : ℕ) → ordinary mark ≡ true → P (numbered vats v mark n)
  numbered_line v mark n h = L.append (vat vats v) (mark ∷ decimal n) (L.place v) (L.first mark (decimal n) h (L.number n))

  message_line : (m : Msg) → P (message vats m)
  message_line m = numbered_line m.sender 47 m.number refl

  name_line : (n : Name) → P (name vats n)
  name_line (Object v n) = numbered_line v 46 n refl
  name_line (Own v n) = numbered_line v 126 n refl
  name_line (Answer host m) = L.append (vat vats host) (63 ∷ message vats m) (L.place host) (L.first 63 (message vats m) refl (message_line m))
  name_line (Gift host i) = numbered_line host 94 i refl
  name_line (Root v) = L.first 64 (vat vats v) refl (L.place v)
  name_line (Claimed h p word) = L.append (vat vats h) (94 ∷ (vat vats p ++ 58 ∷ hex (low_first 16 word))) (L.place h) (L.first 94 (vat vats p ++ 58 ∷ hex (low_first 16 word)) refl (L.append (vat vats p) (58 ∷ hex (low_first 16 word)) (L.place p) (L.first 58 (hex (low_first 16 word)) refl (L.bytes (low_first 16 word)))))

  mutual
    value_line : (x : Shown) → P (value vats x)
    value_line (Bool true) = L.literal _ refl
    value_line (Int z) = L.signed z
    value_line (Char c) = L.character c
    value_line (Text text) = L.text text
    value_line (Broken problem) = L.append (codes "broken:") (shortened problem) (L.literal _ refl) (L.text problem)
    value_line (Prim n) = L.first 60 (primitive_name n ++ 62 ∷ []) refl (L.append (primitive_name n) (62 ∷ []) (primitive_line n) (L.literal _ refl))
    value_line (ListOf v n) = numbered_line v 37 n refl
    value_line (Slot v n) = numbered_line v 38 n refl
    value_line (Named n) = name_line n
    value_line (Members' shape row) = L.list (member_values vats row) (row_are row)
    value_line other = L.literal _ refl

    pub row_are : {n : _} (row : Row_of-Shown n) → Are (member_values vats row)
    row_are end_of-Shown = tt
    row_are (more_of-Shown x rest) = (value_line x, row_are rest)

  values_are : (xs : List Shown) → Are (values vats xs)
  values_are [] = tt
  values_are (x ∷ xs) = (value_line x, values_are xs)

  part_are : (word : List ℕ) (xs : List Shown) → P word → Are (part vats word xs)
  part_are word [] h = tt
  part_are word (x ∷ xs) h = (h, (value_line x, values_are xs))

  note_are : (n : ShownNote) → NoteFits n → Are (note_words vats n)
  note_are (Deliver m target verb args) h = (L.literal _ refl, (message_line m, (name_line target, (L.verb verb h, values_are args))))
  note_are (DeliverOnly m target verb args) h = (L.literal _ refl, (message_line m, (name_line target, (L.verb verb h, values_are args))))
  note_are (Settled n x) h = (L.literal _ refl, (name_line n, (value_line x, tt)))
  note_are (Elsewhere n v) h = (L.literal _ refl, (name_line n, (L.place v, tt)))
  note_are (Opens gift n) h = (L.literal _ refl, (name_line gift, (name_line n, tt)))
  note_are (Ask gift provider) h = (L.literal _ refl, (name_line gift, (L.place provider, tt)))
  note_are (Shorten n gift) h = (L.literal _ refl, (name_line n, (name_line gift, tt)))

  pub words_are : (e : Event) → FitsAs P e → AllSome P (words vats e)
  words_are (Open v) h = (L.literal _ refl, (L.place v, tt))
  words_are (Turn k v) h = (L.number k, (L.literal _ refl, (L.place v, tt)))
  words_are (Idle k) h = (L.number k, (L.literal _ refl, tt))
  words_are (Carry k v w note) h = (L.number k, (L.literal _ refl, (L.place v, (L.place w, note_are note h))))
  words_are (Cut k v w) h = (L.number k, (L.literal _ refl, (L.place v, (L.place w, tt))))
  words_are (Notice k v w) h = (L.number k, (L.literal _ refl, (L.place v, (L.place w, tt))))
  words_are (Frame bytes) h = (L.literal _ refl, (L.bytes bytes, tt))
  words_are (Take t) h = (activation_line t.activation, (L.literal _ refl, (message_line t.message, (value_line t.target, (L.verb t.verb h, values_are t.args)))))
  words_are (Call c) h = (activation_line c.activation, (L.literal _ refl, (value_line c.target, (L.verb c.verb h, are_append (values vats c.args) (begun_words c.begun) (values_are c.args) (begun_are c.begun)))))
  words_are (Back a x) h = (activation_line a, (L.literal _ refl, (value_line x, tt)))
  words_are (Thrown a x) h = (activation_line a, (L.literal _ refl, (value_line x, tt)))
  words_are (Gone a) h = (activation_line a, (L.literal _ refl, tt))
  words_are (Got a x) h = (activation_line a, (L.literal _ refl, (value_line x, tt)))
  words_are (SlotMade a s x) h = (activation_line a, (L.literal _ refl, (numbered_line s.0 38 s.1 refl, (value_line x, tt))))
  words_are (Read a s x) h = (activation_line a, (L.literal _ refl, (numbered_line s.0 38 s.1 refl, (value_line x, tt))))
  words_are (Wrote a s x) h = (activation_line a, (L.literal _ refl, (numbered_line s.0 38 s.1 refl, (value_line x, tt))))
  words_are (ListMade a l members) h = (activation_line a, (L.literal _ refl, (numbered_line l.0 37 l.1 refl, values_are members)))
  words_are (Arrived l members) h = (L.literal _ refl, (numbered_line l.0 37 l.1 refl, values_are members))
  words_are (Ejector a o) h = (activation_line a, (L.literal _ refl, (value_line o, tt)))
  words_are (Audition a o) h = (activation_line a, (L.literal _ refl, (value_line o, tt)))
  words_are (Promise a p o) h = (activation_line a, (L.literal _ refl, (name_line p, (value_line o, tt))))
  words_are (Made o) h = (activation_line o.activation, (L.literal _ refl, (value_line o.object, (h, are_append (part vats (codes "caps") o.caps) (part vats (codes "stamps") o.stamps) (part_are (codes "caps") o.caps (L.literal _ refl)) (part_are (codes "stamps") o.stamps (L.literal _ refl))))))
  words_are (Send m) h = (activation_line m.activation, (L.literal _ refl, (message_line m.message, (value_line m.target, (L.verb m.verb h, are_append (values vats m.args) (codes "->" ∷ name vats m.answer ∷ []) (values_are m.args) (L.literal _ refl, (name_line m.answer, tt)))))))
  words_are (SendOnly m) h = (activation_line m.activation, (L.literal _ refl, (message_line m.message, (value_line m.target, (L.verb m.verb h, values_are m.args)))))
  words_are (When w) h = (activation_line w.activation, (L.literal _ refl, (message_line w.message, (value_line w.value, (value_line w.reaction, (L.literal _ refl, (name_line w.answer, tt)))))))
  words_are (Done a x) h = (activation_line a, (L.literal _ refl, (value_line x, tt)))
  words_are (Threw a x) h = (activation_line a, (L.literal _ refl, (value_line x, tt)))
  words_are (Settle p x) h = (L.literal _ refl, (name_line p, (value_line x, tt)))
  words_are (Wait p q) h = (L.literal _ refl, (name_line p, (name_line q, tt)))
  words_are (View p q) h = (L.literal _ refl, (name_line p, (name_line q, tt)))
  words_are (LostCut m) h = (L.literal _ refl, (message_line m, (L.literal _ refl, tt)))
  words_are (LostBroken m) h = (L.literal _ refl, (message_line m, (L.literal _ refl, tt)))
  words_are (LeftQueue v m) h = (L.literal _ refl, (L.literal _ refl, (L.place v, (message_line m, tt))))
  words_are (LeftHeld v p m) h = (L.literal _ refl, (L.literal _ refl, (L.place v, (name_line p, (message_line m, tt)))))
  words_are (LeftWait v x m) h = (L.literal _ refl, (L.literal _ refl, (L.place v, (value_line x, (message_line m, tt)))))
  words_are (LeftLink v w note) h = (L.literal _ refl, (L.literal _ refl, (L.place v, (L.place w, note_are note h))))
  words_are End h = (L.literal _ refl, tt)
  words_are (Raw (Inject k v w bytes)) h = (L.number k, (L.literal _ refl, (L.place v, (L.place w, (L.bytes bytes, tt)))))
  words_are (Raw (InjectCut k v w)) h = (L.number k, (L.literal _ refl, (L.place v, (L.place w, (L.literal _ refl, tt)))))
  words_are (Raw (Malformed k v w place)) h = (L.number k, (L.literal _ refl, (L.place v, (L.place w, (L.literal _ refl, (L.number place, tt))))))
  words_are (Raw (Bytes k v w bytes)) h = (L.number k, (L.literal _ refl, (L.place v, (L.place w, (L.literal _ refl, (L.bytes bytes, tt))))))
  words_are (Raw (LeftBytes v w bytes)) h = (L.literal _ refl, (L.literal _ refl, (L.place v, (L.place w, (L.literal _ refl, (L.bytes bytes, tt))))))
