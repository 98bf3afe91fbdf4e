-- The words of each line tell its kind.
use Rattle.std.proofs.Common.{◌≡◌, ℕ, cond, Bool, true, false, List, [], ◌∷◌, ◌++◌, refl, sym, map, ap, ◌∙◌}
use Rattle.std.specs.Prelude.{decimal, codes, bytes_eq}
use Rattle.def_event.specs.declared.event.Event.{Event}
use Rattle.def_event.specs.declared.event.Event.TheVariants.{Turn, Idle, Carry, Cut, Notice, Raw}
use Rattle.def_event.specs.declared.raw.RawLine.TheVariants.{Inject, InjectCut, Malformed, Bytes, LeftBytes}
use Rattle.def_event.specs.Lines.{vat, hex, note_words, words}
use Rattle.law_text.specs.Text.Kinds.{kind, kind_in, first_of, second_of, is_number, is_activation, WordsTellKinds, TextsTellKinds}
use Rattle.law_text.proofs.Text.Front.{true_false, cons_is}
use Rattle.law_text.proofs.Text.Told.{texts_tell_words}
use Rattle.law_text.proofs.Text.Valued.{is_digit, digit_is, decimal_passes}

taken : (b : Bool) (xs ys : List ℕ) → b ≡ true → cond b xs ys ≡ xs
taken true xs ys e = refl
taken false xs ys e = absurd (true_false (sym e))

-- an entry's number is one
numbered_kind : (k : ℕ) (ws : List (List ℕ)) → kind_in (decimal k ∷ ws) ≡ 35 ∷ first_of ws
numbered_kind k ws = taken (is_number (decimal k)) (35 ∷ first_of ws) (cond (is_activation (decimal k)) (33 ∷ first_of ws) (cond (bytes_eq (decimal k) (codes "left")) (codes "left " ++ first_of ws) (cond (bytes_eq (decimal k) (codes "lost")) (codes "lost " ++ second_of ws) (decimal k)))) (decimal_passes is_digit digit_is k)

pub kinds_told : WordsTellKinds
kinds_told vats (Turn k v) = numbered_kind k (codes "turn" ∷ vat vats v ∷ [])
kinds_told vats (Idle k) = numbered_kind k (codes "idle" ∷ [])
kinds_told vats (Carry k v w note) = numbered_kind k (codes "carry" ∷ vat vats v ∷ vat vats w ∷ note_words vats note)
kinds_told vats (Cut k v w) = numbered_kind k (codes "cut" ∷ vat vats v ∷ vat vats w ∷ [])
kinds_told vats (Notice k v w) = numbered_kind k (codes "notice" ∷ vat vats v ∷ vat vats w ∷ [])
kinds_told vats (Raw (Inject k v w bytes)) = numbered_kind k (codes "inject" ∷ vat vats v ∷ vat vats w ∷ hex bytes ∷ [])
kinds_told vats (Raw (InjectCut k v w)) = numbered_kind k (codes "inject" ∷ vat vats v ∷ vat vats w ∷ codes "cut" ∷ [])
kinds_told vats (Raw (Malformed k v w place)) = numbered_kind k (codes "carry" ∷ vat vats v ∷ vat vats w ∷ codes "malformed" ∷ decimal place ∷ [])
kinds_told vats (Raw (Bytes k v w bytes)) = numbered_kind k (codes "carry" ∷ vat vats v ∷ vat vats w ∷ codes "bytes" ∷ hex bytes ∷ [])
kinds_told vats (Raw (LeftBytes v w bytes)) = refl
kinds_told vats other = refl

kinds_of : (vats : List (List ℕ)) (xs : List Event) → map kind_in (map (words vats) xs) ≡ map kind xs
kinds_of vats [] = refl
kinds_of vats (x ∷ xs) = cons_is (kind_in (words vats x)) (kind x) (map kind_in (map (words vats) xs)) (map kind xs) (kinds_told vats x) (kinds_of vats xs)

pub texts_tell_kinds : TextsTellKinds
texts_tell_kinds vats good xs ys h k e = sym (kinds_of vats xs) ∙ ap (map kind_in) (texts_tell_words vats good xs ys h k e) ∙ kinds_of vats ys
