-- Events with the same words tell the same, but for texts that are shown alike.
use Rattle.std.proofs.Common.{◌≡◌, ℕ, ◌/◌, ◌%◌, ◌&&◌, eqb, cond, Bool as Bools, true, false, Option, Some, None, List, [], ◌∷◌, ◌++◌, map, refl, sym, ◌∙◌, ap, subst}
use Rattle.std.specs.Prelude.{decimal, codes, bytes_eq, filter}
use Rattle.std.specs.Char.{digit_char}
use Rattle.std.proofs.lemmas.Fmt.{decimal_injective}
use Rattle.def_text.specs.Keywords.{printed_verb}
use Rattle.def_event.specs.declared.shown.Shown.{Shown}
use Rattle.def_event.specs.declared.note.ShownNote.TheVariants.{Deliver}
use Rattle.def_event.specs.declared.event.Event.{Event}
use Rattle.def_event.specs.declared.event.Event.TheVariants.{Open, Carry, LeftLink, Raw}
use Rattle.def_event.specs.declared.raw.RawLine.TheVariants.{Inject, InjectCut, Malformed, Bytes as RawBytes, LeftBytes}
use Rattle.def_event.specs.Lines.{hex, activation, begun_words, vat, numbered, message, name, value, values as value_words, part, words, is_no_frame}
use Rattle.law_text.specs.Text.Feeds.{AllOf}
use Rattle.law_text.specs.Text.Words.{WordsFit}
use Rattle.law_text.specs.Text.Kinds.{kind, kind_in}
use Rattle.law_text.specs.Text.Values.{AreVats, IsValueOf, AreAlike, none, more}
use Rattle.law_text.specs.Text.Parts.{Part, Word, Entry, Activation, Vat, Message, Name, Value, Verb, AList, ASlot, Bytes, Rest, Nothing, Values, Begins, Answered, Holds, Told, told, IsPartOf, MayBegin, IsRestOf, IsEventOf, PartAlike, same, valued, RestAlike, nothing, values, begins, answered, holds, OneForOne, EventsAlike, TextsTellHistories}
use Rattle.law_text.proofs.Text.Front.{head_is, tail_is, two_marks}
use Rattle.law_text.proofs.Text.Hexed.{hex_told}
use Rattle.law_text.proofs.Text.Kinded.{kinds_told}
use Rattle.law_text.proofs.Text.Named.{message_told, name_told}
use Rattle.law_text.proofs.Text.Told.{some_fit, texts_tell_words}
use Rattle.law_text.proofs.Text.Valued.{are_names, ordinary_vats, thing_told, value_told, no_value, arrow_is_no_value, head_word, tail_words, no_words}
use Rattle.law_text.proofs.Text.Verbs.{verb_told}

-- ---- which parts a line has, by its kind and, where it tells of a note, by the first word of that

abbrev sort : Part → ℕ
sort (Word w) = 0
sort (Entry k) = 1
sort (Activation a) = 2
sort (Vat v) = 3
sort (Message m) = 4
sort (Name n) = 5
sort (Value x) = 6
sort (Verb verb) = 7
sort (AList v n) = 8
sort (ASlot v n) = 9
sort (Bytes bytes) = 10

abbrev sort_of_rest : Rest → ℕ
sort_of_rest Nothing = 0
sort_of_rest (Values xs) = 1
sort_of_rest (Begins xs begun) = 2
sort_of_rest (Answered xs answer) = 3
sort_of_rest (Holds xs ys) = 4

record Shape : Type 0 where
  parts : List ℕ
  rest : ℕ

abbrev shape_of : Told → Shape
shape_of t = record { parts = map sort t.parts; rest = sort_of_rest t.rest }

record Row : Type 0 where
  key : List ℕ
  shape : Shape

abbrev row : List ℕ → List ℕ → ℕ → Row
row key parts rest = record { key = key; shape = record { parts = parts; rest = rest } }

abbrev found : List Row → List ℕ → Shape
found [] k = record { parts = []; rest = 0 }
found (r ∷ rs) k = cond (bytes_eq k r.key) r.shape (found rs k)

abbrev rows : List Row
rows =
    row (codes "open") (0 ∷ 3 ∷ []) 0 ∷
    row (codes "#turn") (1 ∷ 0 ∷ 3 ∷ []) 0 ∷
    row (codes "#idle") (1 ∷ 0 ∷ []) 0 ∷
    row (codes "#cut") (1 ∷ 0 ∷ 3 ∷ 3 ∷ []) 0 ∷
    row (codes "#notice") (1 ∷ 0 ∷ 3 ∷ 3 ∷ []) 0 ∷
    row (codes "frame") (0 ∷ 10 ∷ []) 0 ∷
    row (codes "!take") (2 ∷ 0 ∷ 4 ∷ 6 ∷ 7 ∷ []) 1 ∷
    row (codes "!call") (2 ∷ 0 ∷ 6 ∷ 7 ∷ []) 2 ∷
    row (codes "!back") (2 ∷ 0 ∷ 6 ∷ []) 0 ∷
    row (codes "!thrown") (2 ∷ 0 ∷ 6 ∷ []) 0 ∷
    row (codes "!gone") (2 ∷ 0 ∷ []) 0 ∷
    row (codes "!got") (2 ∷ 0 ∷ 6 ∷ []) 0 ∷
    row (codes "!slot") (2 ∷ 0 ∷ 9 ∷ 6 ∷ []) 0 ∷
    row (codes "!read") (2 ∷ 0 ∷ 9 ∷ 6 ∷ []) 0 ∷
    row (codes "!wrote") (2 ∷ 0 ∷ 9 ∷ 6 ∷ []) 0 ∷
    row (codes "!list") (2 ∷ 0 ∷ 8 ∷ []) 1 ∷
    row (codes "list") (0 ∷ 8 ∷ []) 1 ∷
    row (codes "!ejector") (2 ∷ 0 ∷ 6 ∷ []) 0 ∷
    row (codes "!audition") (2 ∷ 0 ∷ 6 ∷ []) 0 ∷
    row (codes "!promise") (2 ∷ 0 ∷ 5 ∷ 6 ∷ []) 0 ∷
    row (codes "!made") (2 ∷ 0 ∷ 6 ∷ 0 ∷ []) 4 ∷
    row (codes "!send") (2 ∷ 0 ∷ 4 ∷ 6 ∷ 7 ∷ []) 3 ∷
    row (codes "!sendonly") (2 ∷ 0 ∷ 4 ∷ 6 ∷ 7 ∷ []) 1 ∷
    row (codes "!when") (2 ∷ 0 ∷ 4 ∷ 6 ∷ 6 ∷ 0 ∷ 5 ∷ []) 0 ∷
    row (codes "!done") (2 ∷ 0 ∷ 6 ∷ []) 0 ∷
    row (codes "!threw") (2 ∷ 0 ∷ 6 ∷ []) 0 ∷
    row (codes "settle") (0 ∷ 5 ∷ 6 ∷ []) 0 ∷
    row (codes "wait") (0 ∷ 5 ∷ 5 ∷ []) 0 ∷
    row (codes "view") (0 ∷ 5 ∷ 5 ∷ []) 0 ∷
    row (codes "lost cut") (0 ∷ 4 ∷ 0 ∷ []) 0 ∷
    row (codes "lost broken") (0 ∷ 4 ∷ 0 ∷ []) 0 ∷
    row (codes "left queue") (0 ∷ 0 ∷ 3 ∷ 4 ∷ []) 0 ∷
    row (codes "left held") (0 ∷ 0 ∷ 3 ∷ 5 ∷ 4 ∷ []) 0 ∷
    row (codes "left wait") (0 ∷ 0 ∷ 3 ∷ 6 ∷ 4 ∷ []) 0 ∷
    row (codes "end") (0 ∷ []) 0 ∷ []

abbrev note_rows : List Row
note_rows =
    row (codes "deliver") (0 ∷ 4 ∷ 5 ∷ 7 ∷ []) 1 ∷
    row (codes "deliveronly") (0 ∷ 4 ∷ 5 ∷ 7 ∷ []) 1 ∷
    row (codes "settled") (0 ∷ 5 ∷ 6 ∷ []) 0 ∷
    row (codes "elsewhere") (0 ∷ 5 ∷ 3 ∷ []) 0 ∷
    row (codes "open") (0 ∷ 5 ∷ 5 ∷ []) 0 ∷
    row (codes "ask") (0 ∷ 5 ∷ 3 ∷ []) 0 ∷
    row (codes "shorten") (0 ∷ 5 ∷ 5 ∷ []) 0 ∷
    row (codes "malformed") (0 ∷ 1 ∷ []) 0 ∷
    row (codes "bytes") (0 ∷ 10 ∷ []) 0 ∷ []

abbrev in_front : List ℕ → Shape → Shape
in_front ps s = record { parts = ps ++ s.parts; rest = s.rest }

-- what stands behind the vats of an inject
abbrev injected : List ℕ → Shape
injected w = cond (bytes_eq w (codes "cut")) (record { parts = 0 ∷ []; rest = 0 }) (record { parts = 10 ∷ []; rest = 0 })

-- bytes as digits are an even number of digits
and_no : (b : Bools) → (b && false) ≡ false
and_no true = refl
and_no false = refl

no_cut : (bytes : List ℕ) → bytes_eq (hex bytes) (codes "cut") ≡ false
no_cut [] = refl
no_cut (b ∷ []) = ap (λ z. eqb (digit_char (b / 16)) 99 && z) (and_no (eqb (digit_char (b % 16)) 117)) ∙ and_no (eqb (digit_char (b / 16)) 99)
no_cut (b ∷ c ∷ bs) = ap (λ z. eqb (digit_char (b / 16)) 99 && (eqb (digit_char (b % 16)) 117 && z)) (and_no (eqb (digit_char (c / 16)) 116)) ∙ ap (λ z. eqb (digit_char (b / 16)) 99 && z) (and_no (eqb (digit_char (b % 16)) 117)) ∙ and_no (eqb (digit_char (b / 16)) 99)

injected_bytes : (bytes : List ℕ) → injected (hex bytes) ≡ record { parts = 10 ∷ []; rest = 0 }
injected_bytes bytes = ap (λ b. cond b (record { parts = 0 ∷ []; rest = 0 }) (record { parts = 10 ∷ []; rest = 0 })) (no_cut bytes)

abbrev fifth : List (List ℕ) → List ℕ
fifth (a ∷ b ∷ c ∷ d ∷ w ∷ ws) = w
fifth _ = []

abbrev shape_by : List ℕ → List ℕ → Shape
shape_by k w = cond (bytes_eq k (codes "#carry")) (in_front (1 ∷ 0 ∷ 3 ∷ 3 ∷ []) (found note_rows w)) (cond (bytes_eq k (codes "left link")) (in_front (0 ∷ 0 ∷ 3 ∷ 3 ∷ []) (found note_rows w)) (cond (bytes_eq k (codes "#inject")) (in_front (1 ∷ 0 ∷ 3 ∷ 3 ∷ []) (injected w)) (found rows k)))

module _ (vats : List (List ℕ)) where
  abbrev pub part_word : Part → List ℕ
  part_word (Word w) = w
  part_word (Entry k) = decimal k
  part_word (Activation a) = activation a
  part_word (Vat v) = vat vats v
  part_word (Message m) = message vats m
  part_word (Name n) = name vats n
  part_word (Value x) = value vats x
  part_word (Verb verb) = printed_verb verb
  part_word (AList v n) = numbered vats v 37 n
  part_word (ASlot v n) = numbered vats v 38 n
  part_word (Bytes bytes) = hex bytes

  abbrev pub rest_words : Rest → List (List ℕ)
  rest_words Nothing = []
  rest_words (Values xs) = value_words vats xs
  rest_words (Begins xs begun) = value_words vats xs ++ begun_words begun
  rest_words (Answered xs answer) = value_words vats xs ++ codes "->" ∷ name vats answer ∷ []
  rest_words (Holds xs ys) = part vats (codes "caps") xs ++ part vats (codes "stamps") ys

  abbrev pub told_words : Told → List (List ℕ)
  told_words t = map part_word t.parts ++ rest_words t.rest

  -- the words of each line are those of its parts, and its kind tells of which sorts they are
  forms : (e : Event) → (words vats e ≡ told_words (told e)) × (shape_by (kind e) (fifth (words vats e)) ≡ shape_of (told e))
  forms (Open v) = (refl, refl)
  forms (Carry k v w (Deliver m target verb args)) = (refl, refl)
  forms (LeftLink v w (Deliver m target verb args)) = (refl, refl)
  forms (Raw (Inject k v w bytes)) = (refl, ap (in_front (1 ∷ 0 ∷ 3 ∷ 3 ∷ [])) (injected_bytes bytes))
  forms (Raw (InjectCut k v w)) = (refl, refl)
  forms (Raw (Malformed k v w place)) = (refl, refl)
  forms (Raw (RawBytes k v w bytes)) = (refl, refl)
  forms (Raw (LeftBytes v w bytes)) = (refl, refl)
  forms other = (refl, refl)

  pub by_parts : (e : Event) → words vats e ≡ told_words (told e)
  by_parts e = (forms e).0

  shape_is : (e : Event) → shape_by (kind_in (words vats e)) (fifth (words vats e)) ≡ shape_of (told e)
  shape_is e = ap (λ k. shape_by k (fifth (words vats e))) (kinds_told vats e) ∙ (forms e).1

module _ (vats : List (List ℕ)) (good : AreVats vats) where
  part_told : (p q : Part) → sort p ≡ sort q → IsPartOf vats p → IsPartOf vats q → part_word vats p ≡ part_word vats q → PartAlike p q
  part_told (Word v) (Word w) s h g e = subst (λ z. PartAlike (Word v) (Word z)) e same
  part_told (Word v) (Entry l) s h g e = absurd (two_marks 0 1 refl s)
  part_told (Word v) (Activation b) s h g e = absurd (two_marks 0 2 refl s)
  part_told (Word v) (Vat w) s h g e = absurd (two_marks 0 3 refl s)
  part_told (Word v) (Message n) s h g e = absurd (two_marks 0 4 refl s)
  part_told (Word v) (Name b) s h g e = absurd (two_marks 0 5 refl s)
  part_told (Word v) (Value y) s h g e = absurd (two_marks 0 6 refl s)
  part_told (Word v) (Verb w) s h g e = absurd (two_marks 0 7 refl s)
  part_told (Word v) (AList w n) s h g e = absurd (two_marks 0 8 refl s)
  part_told (Word v) (ASlot w n) s h g e = absurd (two_marks 0 9 refl s)
  part_told (Word v) (Bytes ys) s h g e = absurd (two_marks 0 10 refl s)
  part_told (Entry k) (Word w) s h g e = absurd (two_marks 1 0 refl s)
  part_told (Entry k) (Entry l) s h g e = subst (λ z. PartAlike (Entry k) (Entry z)) (decimal_injective k l h g e) same
  part_told (Entry k) (Activation b) s h g e = absurd (two_marks 1 2 refl s)
  part_told (Entry k) (Vat w) s h g e = absurd (two_marks 1 3 refl s)
  part_told (Entry k) (Message n) s h g e = absurd (two_marks 1 4 refl s)
  part_told (Entry k) (Name b) s h g e = absurd (two_marks 1 5 refl s)
  part_told (Entry k) (Value y) s h g e = absurd (two_marks 1 6 refl s)
  part_told (Entry k) (Verb w) s h g e = absurd (two_marks 1 7 refl s)
  part_told (Entry k) (AList w n) s h g e = absurd (two_marks 1 8 refl s)
  part_told (Entry k) (ASlot w n) s h g e = absurd (two_marks 1 9 refl s)
  part_told (Entry k) (Bytes ys) s h g e = absurd (two_marks 1 10 refl s)
  part_told (Activation a) (Word w) s h g e = absurd (two_marks 2 0 refl s)
  part_told (Activation a) (Entry l) s h g e = absurd (two_marks 2 1 refl s)
  part_told (Activation a) (Activation b) s h g e = subst (λ z. PartAlike (Activation a) (Activation z)) (decimal_injective a b h g (tail_is 33 33 (decimal a) (decimal b) e)) same
  part_told (Activation a) (Vat w) s h g e = absurd (two_marks 2 3 refl s)
  part_told (Activation a) (Message n) s h g e = absurd (two_marks 2 4 refl s)
  part_told (Activation a) (Name b) s h g e = absurd (two_marks 2 5 refl s)
  part_told (Activation a) (Value y) s h g e = absurd (two_marks 2 6 refl s)
  part_told (Activation a) (Verb w) s h g e = absurd (two_marks 2 7 refl s)
  part_told (Activation a) (AList w n) s h g e = absurd (two_marks 2 8 refl s)
  part_told (Activation a) (ASlot w n) s h g e = absurd (two_marks 2 9 refl s)
  part_told (Activation a) (Bytes ys) s h g e = absurd (two_marks 2 10 refl s)
  part_told (Vat v) (Word w) s h g e = absurd (two_marks 3 0 refl s)
  part_told (Vat v) (Entry l) s h g e = absurd (two_marks 3 1 refl s)
  part_told (Vat v) (Activation b) s h g e = absurd (two_marks 3 2 refl s)
  part_told (Vat v) (Vat w) s h g e = subst (λ z. PartAlike (Vat v) (Vat z)) (good.differ v w h g e) same
  part_told (Vat v) (Message n) s h g e = absurd (two_marks 3 4 refl s)
  part_told (Vat v) (Name b) s h g e = absurd (two_marks 3 5 refl s)
  part_told (Vat v) (Value y) s h g e = absurd (two_marks 3 6 refl s)
  part_told (Vat v) (Verb w) s h g e = absurd (two_marks 3 7 refl s)
  part_told (Vat v) (AList w n) s h g e = absurd (two_marks 3 8 refl s)
  part_told (Vat v) (ASlot w n) s h g e = absurd (two_marks 3 9 refl s)
  part_told (Vat v) (Bytes ys) s h g e = absurd (two_marks 3 10 refl s)
  part_told (Message m) (Word w) s h g e = absurd (two_marks 4 0 refl s)
  part_told (Message m) (Entry l) s h g e = absurd (two_marks 4 1 refl s)
  part_told (Message m) (Activation b) s h g e = absurd (two_marks 4 2 refl s)
  part_told (Message m) (Vat w) s h g e = absurd (two_marks 4 3 refl s)
  part_told (Message m) (Message n) s h g e = subst (λ z. PartAlike (Message m) (Message z)) (message_told vats (are_names vats good) m n h g e) same
  part_told (Message m) (Name b) s h g e = absurd (two_marks 4 5 refl s)
  part_told (Message m) (Value y) s h g e = absurd (two_marks 4 6 refl s)
  part_told (Message m) (Verb w) s h g e = absurd (two_marks 4 7 refl s)
  part_told (Message m) (AList w n) s h g e = absurd (two_marks 4 8 refl s)
  part_told (Message m) (ASlot w n) s h g e = absurd (two_marks 4 9 refl s)
  part_told (Message m) (Bytes ys) s h g e = absurd (two_marks 4 10 refl s)
  part_told (Name a) (Word w) s h g e = absurd (two_marks 5 0 refl s)
  part_told (Name a) (Entry l) s h g e = absurd (two_marks 5 1 refl s)
  part_told (Name a) (Activation b) s h g e = absurd (two_marks 5 2 refl s)
  part_told (Name a) (Vat w) s h g e = absurd (two_marks 5 3 refl s)
  part_told (Name a) (Message n) s h g e = absurd (two_marks 5 4 refl s)
  part_told (Name a) (Name b) s h g e = subst (λ z. PartAlike (Name a) (Name z)) (name_told vats (are_names vats good) a b h g e) same
  part_told (Name a) (Value y) s h g e = absurd (two_marks 5 6 refl s)
  part_told (Name a) (Verb w) s h g e = absurd (two_marks 5 7 refl s)
  part_told (Name a) (AList w n) s h g e = absurd (two_marks 5 8 refl s)
  part_told (Name a) (ASlot w n) s h g e = absurd (two_marks 5 9 refl s)
  part_told (Name a) (Bytes ys) s h g e = absurd (two_marks 5 10 refl s)
  part_told (Value x) (Word w) s h g e = absurd (two_marks 6 0 refl s)
  part_told (Value x) (Entry l) s h g e = absurd (two_marks 6 1 refl s)
  part_told (Value x) (Activation b) s h g e = absurd (two_marks 6 2 refl s)
  part_told (Value x) (Vat w) s h g e = absurd (two_marks 6 3 refl s)
  part_told (Value x) (Message n) s h g e = absurd (two_marks 6 4 refl s)
  part_told (Value x) (Name b) s h g e = absurd (two_marks 6 5 refl s)
  part_told (Value x) (Value y) s h g e = valued (value_told vats good x y h g e)
  part_told (Value x) (Verb w) s h g e = absurd (two_marks 6 7 refl s)
  part_told (Value x) (AList w n) s h g e = absurd (two_marks 6 8 refl s)
  part_told (Value x) (ASlot w n) s h g e = absurd (two_marks 6 9 refl s)
  part_told (Value x) (Bytes ys) s h g e = absurd (two_marks 6 10 refl s)
  part_told (Verb v) (Word w) s h g e = absurd (two_marks 7 0 refl s)
  part_told (Verb v) (Entry l) s h g e = absurd (two_marks 7 1 refl s)
  part_told (Verb v) (Activation b) s h g e = absurd (two_marks 7 2 refl s)
  part_told (Verb v) (Vat w) s h g e = absurd (two_marks 7 3 refl s)
  part_told (Verb v) (Message n) s h g e = absurd (two_marks 7 4 refl s)
  part_told (Verb v) (Name b) s h g e = absurd (two_marks 7 5 refl s)
  part_told (Verb v) (Value y) s h g e = absurd (two_marks 7 6 refl s)
  part_told (Verb v) (Verb w) s h g e = subst (λ z. PartAlike (Verb v) (Verb z)) (verb_told v w h g e) same
  part_told (Verb v) (AList w n) s h g e = absurd (two_marks 7 8 refl s)
  part_told (Verb v) (ASlot w n) s h g e = absurd (two_marks 7 9 refl s)
  part_told (Verb v) (Bytes ys) s h g e = absurd (two_marks 7 10 refl s)
  part_told (AList v m) (Word w) s h g e = absurd (two_marks 8 0 refl s)
  part_told (AList v m) (Entry l) s h g e = absurd (two_marks 8 1 refl s)
  part_told (AList v m) (Activation b) s h g e = absurd (two_marks 8 2 refl s)
  part_told (AList v m) (Vat w) s h g e = absurd (two_marks 8 3 refl s)
  part_told (AList v m) (Message n) s h g e = absurd (two_marks 8 4 refl s)
  part_told (AList v m) (Name b) s h g e = absurd (two_marks 8 5 refl s)
  part_told (AList v m) (Value y) s h g e = absurd (two_marks 8 6 refl s)
  part_told (AList v m) (Verb w) s h g e = absurd (two_marks 8 7 refl s)
  part_told (AList v m) (AList w n) s h g e = let one = thing_told vats good 37 v w m n refl h g e in subst (λ z. PartAlike (AList v m) (AList z n)) one.0 (subst (λ z. PartAlike (AList v m) (AList v z)) one.1 same)
  part_told (AList v m) (ASlot w n) s h g e = absurd (two_marks 8 9 refl s)
  part_told (AList v m) (Bytes ys) s h g e = absurd (two_marks 8 10 refl s)
  part_told (ASlot v m) (Word w) s h g e = absurd (two_marks 9 0 refl s)
  part_told (ASlot v m) (Entry l) s h g e = absurd (two_marks 9 1 refl s)
  part_told (ASlot v m) (Activation b) s h g e = absurd (two_marks 9 2 refl s)
  part_told (ASlot v m) (Vat w) s h g e = absurd (two_marks 9 3 refl s)
  part_told (ASlot v m) (Message n) s h g e = absurd (two_marks 9 4 refl s)
  part_told (ASlot v m) (Name b) s h g e = absurd (two_marks 9 5 refl s)
  part_told (ASlot v m) (Value y) s h g e = absurd (two_marks 9 6 refl s)
  part_told (ASlot v m) (Verb w) s h g e = absurd (two_marks 9 7 refl s)
  part_told (ASlot v m) (AList w n) s h g e = absurd (two_marks 9 8 refl s)
  part_told (ASlot v m) (ASlot w n) s h g e = let one = thing_told vats good 38 v w m n refl h g e in subst (λ z. PartAlike (ASlot v m) (ASlot z n)) one.0 (subst (λ z. PartAlike (ASlot v m) (ASlot v z)) one.1 same)
  part_told (ASlot v m) (Bytes ys) s h g e = absurd (two_marks 9 10 refl s)
  part_told (Bytes xs) (Word w) s h g e = absurd (two_marks 10 0 refl s)
  part_told (Bytes xs) (Entry l) s h g e = absurd (two_marks 10 1 refl s)
  part_told (Bytes xs) (Activation b) s h g e = absurd (two_marks 10 2 refl s)
  part_told (Bytes xs) (Vat w) s h g e = absurd (two_marks 10 3 refl s)
  part_told (Bytes xs) (Message n) s h g e = absurd (two_marks 10 4 refl s)
  part_told (Bytes xs) (Name b) s h g e = absurd (two_marks 10 5 refl s)
  part_told (Bytes xs) (Value y) s h g e = absurd (two_marks 10 6 refl s)
  part_told (Bytes xs) (Verb w) s h g e = absurd (two_marks 10 7 refl s)
  part_told (Bytes xs) (AList w n) s h g e = absurd (two_marks 10 8 refl s)
  part_told (Bytes xs) (ASlot w n) s h g e = absurd (two_marks 10 9 refl s)
  part_told (Bytes xs) (Bytes ys) s h g e = subst (λ z. PartAlike (Bytes xs) (Bytes z)) (hex_told xs ys e) same

  no_sorts : (n : ℕ) (ns : List ℕ) → ◌≡◌ {A = List ℕ} [] (n ∷ ns) → ⊥
  no_sorts n ns e = cc

  parts_apart : (ps qs : List Part) (r q : List (List ℕ)) → map sort ps ≡ map sort qs → AllOf (IsPartOf vats) ps → AllOf (IsPartOf vats) qs → map (part_word vats) ps ++ r ≡ map (part_word vats) qs ++ q → OneForOne PartAlike ps qs × (r ≡ q)
  parts_apart [] [] r q s h g e = (tt, e)
  parts_apart [] (x ∷ qs) r q s h g e = absurd (no_sorts (sort x) (map sort qs) s)
  parts_apart (p ∷ ps) [] r q s h g e = absurd (no_sorts (sort p) (map sort ps) (sym s))
  parts_apart (p ∷ ps) (x ∷ qs) r q s h g e =
      let behind = parts_apart ps qs r q (tail_is (sort p) (sort x) (map sort ps) (map sort qs) s) h.1 g.1 (tail_words vats good (part_word vats p) (part_word vats x) (map (part_word vats) ps ++ r) (map (part_word vats) qs ++ q) e) in
      ((part_told p x (head_is (sort p) (sort x) (map sort ps) (map sort qs) s) h.0 g.0 (head_word vats good (part_word vats p) (part_word vats x) (map (part_word vats) ps ++ r) (map (part_word vats) qs ++ q) e), behind.0), behind.1)

  -- ---- values, and what stands behind them

  -- no value is the first of these words
  abbrev NoValue : List (List ℕ) → Type 0
  NoValue r = (x : Shown) (ws : List (List ℕ)) → r ≡ value vats x ∷ ws → ⊥

  none_behind : NoValue []
  none_behind x ws e = no_words vats good (value vats x) ws e

  values_apart : (xs ys : List Shown) (r q : List (List ℕ)) → AllOf (IsValueOf vats) xs → AllOf (IsValueOf vats) ys → NoValue r → NoValue q → value_words vats xs ++ r ≡ value_words vats ys ++ q → AreAlike xs ys × (r ≡ q)
  values_apart [] [] r q h g i j e = (none, e)
  values_apart [] (y ∷ ys) r q h g i j e = absurd (i y (value_words vats ys ++ q) e)
  values_apart (x ∷ xs) [] r q h g i j e = absurd (j x (value_words vats xs ++ r) (sym e))
  values_apart (x ∷ xs) (y ∷ ys) r q h g i j e =
      let behind = values_apart xs ys r q h.1 g.1 i j (tail_words vats good (value vats x) (value vats y) (value_words vats xs ++ r) (value_words vats ys ++ q) e) in
      (more (value_told vats good x y h.0 g.0 (head_word vats good (value vats x) (value vats y) (value_words vats xs ++ r) (value_words vats ys ++ q) e)) behind.0, behind.1)

  all_values : (xs ys : List Shown) → AllOf (IsValueOf vats) xs → AllOf (IsValueOf vats) ys → value_words vats xs ≡ value_words vats ys → AreAlike xs ys
  all_values xs ys h g e = (values_apart xs ys [] [] h g none_behind none_behind (ap (λ (ws : List (List ℕ)). ws ++ []) e)).0

  begun_no_value : (o : Option ℕ) → NoValue (begun_words o)
  begun_no_value None x ws e = none_behind x ws e
  begun_no_value (Some b) x ws e = no_value vats good (codes "as") (refl, refl, refl, refl, refl) x (head_word vats good (codes "as") (value vats x) (activation b ∷ []) ws e)

  begun_told : (o p : Option ℕ) → MayBegin vats o → MayBegin vats p → begun_words o ≡ begun_words p → o ≡ p
  begun_told None None h g e = refl
  begun_told None (Some b) h g e = absurd (no_words vats good (codes "as") (activation b ∷ []) e)
  begun_told (Some a) None h g e = absurd (no_words vats good (codes "as") (activation a ∷ []) (sym e))
  begun_told (Some a) (Some b) h g e = ap Some (decimal_injective a b h g (tail_is 33 33 (decimal a) (decimal b)
      (head_word vats good (activation a) (activation b) [] [] (tail_words vats good (codes "as") (codes "as") (activation a ∷ []) (activation b ∷ []) e))))

  arrow_no_value : (r : List (List ℕ)) → NoValue (codes "->" ∷ r)
  arrow_no_value r x ws e = arrow_is_no_value vats good x (head_word vats good (codes "->") (value vats x) r ws e)

  answer_word : (v w : List ℕ) → ◌≡◌ {A = List (List ℕ)} (codes "->" ∷ v ∷ []) (codes "->" ∷ w ∷ []) → v ≡ w
  answer_word v w e = head_word vats good v w [] [] (tail_words vats good (codes "->") (codes "->") (v ∷ []) (w ∷ []) e)

  -- ---- captures and stamps

  stamps_no_value : (zs : List Shown) → NoValue (part vats (codes "stamps") zs)
  stamps_no_value [] x ws e = none_behind x ws e
  stamps_no_value (z ∷ zs) x ws e = no_value vats good (codes "stamps") (refl, refl, refl, refl, refl) x (head_word vats good (codes "stamps") (value vats x) (value_words vats (z ∷ zs)) ws e)

  other : codes "stamps" ≡ codes "caps" → ⊥
  other e = two_marks 115 99 refl (head_is 115 99 (codes "tamps") (codes "aps") e)

  stamps_no_caps : (zs : List Shown) (ws : List (List ℕ)) → part vats (codes "stamps") zs ≡ codes "caps" ∷ ws → ⊥
  stamps_no_caps [] ws e = no_words vats good (codes "caps") ws e
  stamps_no_caps (z ∷ zs) ws e = other (head_word vats good (codes "stamps") (codes "caps") (value_words vats (z ∷ zs)) ws e)

  caps_apart : (xs ys zs us : List Shown) → AllOf (IsValueOf vats) xs → AllOf (IsValueOf vats) ys → part vats (codes "caps") xs ++ part vats (codes "stamps") zs ≡ part vats (codes "caps") ys ++ part vats (codes "stamps") us
      → AreAlike xs ys × (part vats (codes "stamps") zs ≡ part vats (codes "stamps") us)
  caps_apart [] [] zs us h g e = (none, e)
  caps_apart [] (y ∷ ys) zs us h g e = absurd (stamps_no_caps zs (value_words vats (y ∷ ys) ++ part vats (codes "stamps") us) e)
  caps_apart (x ∷ xs) [] zs us h g e = absurd (stamps_no_caps us (value_words vats (x ∷ xs) ++ part vats (codes "stamps") zs) (sym e))
  caps_apart (x ∷ xs) (y ∷ ys) zs us h g e = values_apart (x ∷ xs) (y ∷ ys) (part vats (codes "stamps") zs) (part vats (codes "stamps") us) h g (stamps_no_value zs) (stamps_no_value us)
      (tail_words vats good (codes "caps") (codes "caps") (value_words vats (x ∷ xs) ++ part vats (codes "stamps") zs) (value_words vats (y ∷ ys) ++ part vats (codes "stamps") us) e)

  stamps_apart : (zs us : List Shown) → AllOf (IsValueOf vats) zs → AllOf (IsValueOf vats) us → part vats (codes "stamps") zs ≡ part vats (codes "stamps") us → AreAlike zs us
  stamps_apart [] [] h g e = none
  stamps_apart [] (u ∷ us) h g e = absurd (no_words vats good (codes "stamps") (value_words vats (u ∷ us)) e)
  stamps_apart (z ∷ zs) [] h g e = absurd (no_words vats good (codes "stamps") (value_words vats (z ∷ zs)) (sym e))
  stamps_apart (z ∷ zs) (u ∷ us) h g e = all_values (z ∷ zs) (u ∷ us) h g (tail_words vats good (codes "stamps") (codes "stamps") (value_words vats (z ∷ zs)) (value_words vats (u ∷ us)) e)

  rest_told : (p q : Rest) → sort_of_rest p ≡ sort_of_rest q → IsRestOf vats p → IsRestOf vats q → rest_words vats p ≡ rest_words vats q → RestAlike p q
  rest_told Nothing Nothing s h g e = nothing
  rest_told Nothing (Values ys) s h g e = absurd (two_marks 0 1 refl s)
  rest_told Nothing (Begins ys p) s h g e = absurd (two_marks 0 2 refl s)
  rest_told Nothing (Answered ys b) s h g e = absurd (two_marks 0 3 refl s)
  rest_told Nothing (Holds ys us) s h g e = absurd (two_marks 0 4 refl s)
  rest_told (Values xs) Nothing s h g e = absurd (two_marks 1 0 refl s)
  rest_told (Values xs) (Values ys) s h g e = values (all_values xs ys h g e)
  rest_told (Values xs) (Begins ys p) s h g e = absurd (two_marks 1 2 refl s)
  rest_told (Values xs) (Answered ys b) s h g e = absurd (two_marks 1 3 refl s)
  rest_told (Values xs) (Holds ys us) s h g e = absurd (two_marks 1 4 refl s)
  rest_told (Begins xs o) Nothing s h g e = absurd (two_marks 2 0 refl s)
  rest_told (Begins xs o) (Values ys) s h g e = absurd (two_marks 2 1 refl s)
  rest_told (Begins xs o) (Begins ys p) s h g e = let one = values_apart xs ys (begun_words o) (begun_words p) h.0 g.0 (begun_no_value o) (begun_no_value p) e in subst (λ z. RestAlike (Begins xs o) (Begins ys z)) (begun_told o p h.1 g.1 one.1) (begins one.0)
  rest_told (Begins xs o) (Answered ys b) s h g e = absurd (two_marks 2 3 refl s)
  rest_told (Begins xs o) (Holds ys us) s h g e = absurd (two_marks 2 4 refl s)
  rest_told (Answered xs a) Nothing s h g e = absurd (two_marks 3 0 refl s)
  rest_told (Answered xs a) (Values ys) s h g e = absurd (two_marks 3 1 refl s)
  rest_told (Answered xs a) (Begins ys p) s h g e = absurd (two_marks 3 2 refl s)
  rest_told (Answered xs a) (Answered ys b) s h g e = let one = values_apart xs ys (codes "->" ∷ name vats a ∷ []) (codes "->" ∷ name vats b ∷ []) h.0 g.0 (arrow_no_value (name vats a ∷ [])) (arrow_no_value (name vats b ∷ [])) e in
      subst (λ z. RestAlike (Answered xs a) (Answered ys z)) (name_told vats (are_names vats good) a b h.1 g.1 (answer_word (name vats a) (name vats b) one.1)) (answered one.0)
  rest_told (Answered xs a) (Holds ys us) s h g e = absurd (two_marks 3 4 refl s)
  rest_told (Holds xs zs) Nothing s h g e = absurd (two_marks 4 0 refl s)
  rest_told (Holds xs zs) (Values ys) s h g e = absurd (two_marks 4 1 refl s)
  rest_told (Holds xs zs) (Begins ys p) s h g e = absurd (two_marks 4 2 refl s)
  rest_told (Holds xs zs) (Answered ys b) s h g e = absurd (two_marks 4 3 refl s)
  rest_told (Holds xs zs) (Holds ys us) s h g e = let one = caps_apart xs ys zs us h.0 g.0 e in holds one.0 (stamps_apart zs us h.1 g.1 one.1)

  -- ---- events and histories

  event_told : (e f : Event) → IsEventOf vats e → IsEventOf vats f → words vats e ≡ words vats f → EventsAlike e f
  event_told e f h g i =
      let shapes : shape_of (told e) ≡ shape_of (told f) = sym (shape_is vats e) ∙ ap (λ ws. shape_by (kind_in ws) (fifth ws)) i ∙ shape_is vats f in
      let both = parts_apart (told e).parts (told f).parts (rest_words vats (told e).rest) (rest_words vats (told f).rest) (ap (λ (s : Shape). s.parts) shapes) h.1 g.1 (sym (by_parts vats e) ∙ i ∙ by_parts vats f) in
      (both.0, rest_told (told e).rest (told f).rest (ap (λ (s : Shape). s.rest) shapes) h.2 g.2 both.1)

  pub events_told : (xs ys : List Event) → AllOf (IsEventOf vats) xs → AllOf (IsEventOf vats) ys → map (words vats) xs ≡ map (words vats) ys → OneForOne EventsAlike xs ys
  events_told [] [] h g e = tt
  events_told [] (y ∷ ys) h g e = absurd (no_lines (words vats y) (map (words vats) ys) e)
    where
      no_lines : (w : List (List ℕ)) (ws : List (List (List ℕ))) → ◌≡◌ {A = List (List (List ℕ))} [] (w ∷ ws) → ⊥
      no_lines w ws e = cc
  events_told (x ∷ xs) [] h g e = absurd (no_lines (words vats x) (map (words vats) xs) (sym e))
    where
      no_lines : (w : List (List ℕ)) (ws : List (List (List ℕ))) → ◌≡◌ {A = List (List (List ℕ))} [] (w ∷ ws) → ⊥
      no_lines w ws e = cc
  events_told (x ∷ xs) (y ∷ ys) h g e = (event_told x y h.0 g.0 (first_line (words vats x) (words vats y) (map (words vats) xs) (map (words vats) ys) e), events_told xs ys h.1 g.1 (later_lines (words vats x) (words vats y) (map (words vats) xs) (map (words vats) ys) e))
    where
      first_line : (v w : List (List ℕ)) (vs ws : List (List (List ℕ))) → ◌≡◌ {A = List (List (List ℕ))} (v ∷ vs) (w ∷ ws) → v ≡ w
      first_line v w vs ws e = cc

      later_lines : (v w : List (List ℕ)) (vs ws : List (List (List ℕ))) → ◌≡◌ {A = List (List (List ℕ))} (v ∷ vs) (w ∷ ws) → vs ≡ ws
      later_lines v w vs ws e = cc

  pub each_fits : (xs : List Event) → AllOf (IsEventOf vats) xs → AllOf WordsFit xs
  each_fits [] h = tt
  each_fits (x ∷ xs) h = (h.0.0, each_fits xs h.1)

pub texts_tell_histories : TextsTellHistories
texts_tell_histories vats good xs ys h g =
    let ordinary = ordinary_vats vats good in (
      λ e. events_told vats good xs ys h g (texts_tell_words vats ordinary xs ys (each_fits vats good xs h) (each_fits vats good ys g) e),
      λ e. let us = filter is_no_frame xs in let vs = filter is_no_frame ys in let k = some_fit (IsEventOf vats) is_no_frame xs h in let l = some_fit (IsEventOf vats) is_no_frame ys g in
          events_told vats good us vs k l (texts_tell_words vats ordinary us vs (each_fits vats good us k) (each_fits vats good vs l) e),
    )
