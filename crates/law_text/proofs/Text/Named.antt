-- Names and messages are told by their texts.
use Rattle.std.proofs.Common.{◌≡◌, ℕ, true, false, List, [], ◌∷◌, ◌++◌, refl, sym, ◌∙◌, ap}
use Rattle.std.specs.Prelude.{decimal}
use Rattle.std.specs.List.{list_all}
use Rattle.std.proofs.lemmas.Fmt.{decimal_injective}
use Rattle.ev_base.specs.declared.names.Name.{Name}
use Rattle.ev_base.specs.declared.names.Name.TheVariants.{Object, Own, Answer, Gift, Root, Claimed}
use Rattle.ev_base.specs.declared.names.Msg.{Msg}
use Rattle.def_event.specs.Lines.{vat, message, name, hex, low_first}
use Rattle.law_text.proofs.Text.Front.{two_marks, apart}
use Rattle.law_text.proofs.Text.Claims.{no_colon, provided_told}
use Rattle.law_text.specs.Text.Names.{unmarked, AreNames, IsMessageOf, IsNameOf}

abbrev Unmarked : List ℕ → Type 0
Unmarked xs = list_all unmarked xs ≡ true

-- ---- messages and names

msg_is : (a b : Msg) → a.sender ≡ b.sender → a.number ≡ b.number → a ≡ b
msg_is a b e f = λ i. record { sender = e i; number = f i }

module _ (vats : List (List ℕ)) (good : AreNames vats) where
  pub message_told : (m n : Msg) → IsMessageOf vats m → IsMessageOf vats n → message vats m ≡ message vats n → m ≡ n
  message_told m n h k e =
      let same = apart unmarked (vat vats m.sender) (vat vats n.sender) (decimal m.number) (decimal n.number) 47 47 refl refl (good.unmarked m.sender) (good.unmarked n.sender) e in
      msg_is m n (good.differ m.sender n.sender h.0 k.0 same.0) (decimal_injective m.number n.number h.1 k.1 same.2)

  -- a name by what stands in front of its first mark, that mark, and what stands behind
  abbrev front : Name → List ℕ
  front (Object v n) = vat vats v
  front (Own v n) = vat vats v
  front (Answer h m) = vat vats h
  front (Gift h i) = vat vats h
  front (Root v) = []
  front (Claimed h p word) = vat vats h

  abbrev mark : Name → ℕ
  mark (Object v n) = 46
  mark (Own v n) = 126
  mark (Answer h m) = 63
  mark (Gift h i) = 94
  mark (Root v) = 64
  mark (Claimed h p word) = 94

  abbrev rest : Name → List ℕ
  rest (Object v n) = decimal n
  rest (Own v n) = decimal n
  rest (Answer h m) = message vats m
  rest (Gift h i) = decimal i
  rest (Root v) = vat vats v
  rest (Claimed h p word) = vat vats p ++ 58 ∷ hex (low_first 16 word)

  by_parts : (a : Name) → name vats a ≡ front a ++ mark a ∷ rest a
  by_parts (Object v n) = refl
  by_parts other = refl

  front_plain : (a : Name) → Unmarked (front a)
  front_plain (Object v n) = good.unmarked v
  front_plain (Own v n) = good.unmarked v
  front_plain (Answer h m) = good.unmarked h
  front_plain (Gift h i) = good.unmarked h
  front_plain (Root v) = refl
  front_plain (Claimed h p word) = good.unmarked h

  marked : (a : Name) → unmarked (mark a) ≡ false
  marked (Object v n) = refl
  marked other = refl

  parts_told : (a b : Name) → IsNameOf vats a → IsNameOf vats b → front a ≡ front b → mark a ≡ mark b → rest a ≡ rest b → a ≡ b
  parts_told (Object v n) (Object w x) h k e t f = let one : v ≡ w = good.differ v w h.0 k.0 e in let two : n ≡ x = decimal_injective n x h.1 k.1 f in λ i. Object (one i) (two i)
  parts_told (Object v n) (Own w x) h k e t f = absurd (two_marks 46 126 refl t)
  parts_told (Object v n) (Answer w x) h k e t f = absurd (two_marks 46 63 refl t)
  parts_told (Object v n) (Gift w x) h k e t f = absurd (two_marks 46 94 refl t)
  parts_told (Object v n) (Root w) h k e t f = absurd (two_marks 46 64 refl t)
  parts_told (Object v n) (Claimed w x y) h k e t f = absurd (two_marks 46 94 refl t)
  parts_told (Own v n) (Object w x) h k e t f = absurd (two_marks 126 46 refl t)
  parts_told (Own v n) (Own w x) h k e t f = let one : v ≡ w = good.differ v w h.0 k.0 e in let two : n ≡ x = decimal_injective n x h.1 k.1 f in λ i. Own (one i) (two i)
  parts_told (Own v n) (Answer w x) h k e t f = absurd (two_marks 126 63 refl t)
  parts_told (Own v n) (Gift w x) h k e t f = absurd (two_marks 126 94 refl t)
  parts_told (Own v n) (Root w) h k e t f = absurd (two_marks 126 64 refl t)
  parts_told (Own v n) (Claimed w x y) h k e t f = absurd (two_marks 126 94 refl t)
  parts_told (Answer v n) (Object w x) h k e t f = absurd (two_marks 63 46 refl t)
  parts_told (Answer v n) (Own w x) h k e t f = absurd (two_marks 63 126 refl t)
  parts_told (Answer v n) (Answer w x) h k e t f = let one : v ≡ w = good.differ v w h.0 k.0 e in let two : n ≡ x = message_told n x h.1 k.1 f in λ i. Answer (one i) (two i)
  parts_told (Answer v n) (Gift w x) h k e t f = absurd (two_marks 63 94 refl t)
  parts_told (Answer v n) (Root w) h k e t f = absurd (two_marks 63 64 refl t)
  parts_told (Answer v n) (Claimed w x y) h k e t f = absurd (two_marks 63 94 refl t)
  parts_told (Gift v n) (Object w x) h k e t f = absurd (two_marks 94 46 refl t)
  parts_told (Gift v n) (Own w x) h k e t f = absurd (two_marks 94 126 refl t)
  parts_told (Gift v n) (Answer w x) h k e t f = absurd (two_marks 94 63 refl t)
  parts_told (Gift v n) (Gift w x) h k e t f = let one : v ≡ w = good.differ v w h.0 k.0 e in let two : n ≡ x = decimal_injective n x h.1 k.1 f in λ i. Gift (one i) (two i)
  parts_told (Gift v n) (Root w) h k e t f = absurd (two_marks 94 64 refl t)
  parts_told (Gift v n) (Claimed w x y) h k e t f = absurd (no_colon n (vat vats x) (hex (low_first 16 y)) h.1 f)
  parts_told (Root v) (Object w x) h k e t f = absurd (two_marks 64 46 refl t)
  parts_told (Root v) (Own w x) h k e t f = absurd (two_marks 64 126 refl t)
  parts_told (Root v) (Answer w x) h k e t f = absurd (two_marks 64 63 refl t)
  parts_told (Root v) (Gift w x) h k e t f = absurd (two_marks 64 94 refl t)
  parts_told (Root v) (Root w) h k e t f = ap Root (good.differ v w h k f)
  parts_told (Root v) (Claimed w x y) h k e t f = absurd (two_marks 64 94 refl t)
  parts_told (Claimed w x y) (Object v n) h k e t f = absurd (two_marks 94 46 refl t)
  parts_told (Claimed w x y) (Own v n) h k e t f = absurd (two_marks 94 126 refl t)
  parts_told (Claimed w x y) (Answer v n) h k e t f = absurd (two_marks 94 63 refl t)
  parts_told (Claimed w x y) (Gift v n) h k e t f = absurd (no_colon n (vat vats x) (hex (low_first 16 y)) k.1 (sym f))
  parts_told (Claimed w x y) (Root v) h k e t f = absurd (two_marks 94 64 refl t)
  parts_told (Claimed w x y) (Claimed v u z) h k e t f =
      let one : w ≡ v = good.differ w v h.0 k.0 e in
      let both = provided_told (vat vats x) (vat vats u) y z h.2 k.2 f in
      let two : x ≡ u = good.differ x u h.1 k.1 both.0 in
      let three : y ≡ z = both.1 in
      λ i. Claimed (one i) (two i) (three i)

  pub name_told : (a b : Name) → IsNameOf vats a → IsNameOf vats b → name vats a ≡ name vats b → a ≡ b
  name_told a b h k e =
      let same = apart unmarked (front a) (front b) (rest a) (rest b) (mark a) (mark b) (marked a) (marked b) (front_plain a) (front_plain b) (sym (by_parts a) ∙ e ∙ by_parts b) in
      parts_told a b h k same.0 same.1 same.2
