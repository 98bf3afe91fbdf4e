-- The text of a word at the front of a text is what its kind says.
use Rattle.std.proofs.Common.{◌≡◌, ◌⊎◌, inl, inr, ℕ, zero, suc, ◌+◌, Bool, true, false, not, ◌&&◌, ◌||◌, cond, List, [], ◌∷◌, ◌++◌, length, take, drop, codes, Option, Some, None, option_map, refl, sym, ◌∙◌, ap, subst, arith}
use Rattle.std.specs.List.{find, list_all, prefix_len}
use Rattle.std.specs.Str.{IsUtf8, is_utf8, chars, encode_utf8_all, bytes_eq}
use Rattle.std.specs.Char.{encode_utf8}
use Rattle.std.proofs.lemmas.List.{take_at, take-append-drop}
use Rattle.std.proofs.lemmas.Slice.Eq.{bytes_eq-Decides}
use Rattle.std.proofs.lemmas.Str.{IsUtf8-from_is_utf8, chars-encodes, encodes-append, encodes-chars}
use Rattle.std.proofs.Math.Utf8.{scalars}
use Rattle.def_text.specs.Keywords.{is_identifier, is_keyword, begins_identifier, continues_identifier, has_identifier_form}
use Rattle.def_syntax.specs.declared.token.TokenKind.{TokenKind}
use Rattle.def_syntax.specs.declared.token.TokenKind.TheVariants as kinds
use Rattle.ev_lexer.specs.Words.{kind_among, reserved, word_kind}
use Rattle.ev_lexer.specs.Pieces.{front_word}
use Rattle.ev_lexer.proofs.Operators.{either, both}
use Rattle.def_kernel.specs.Trees.{IsName}
use Rattle.ev_desugar.specs.Words.{ejector}
use Rattle.law_reading.specs.Expansion.Shapes.{IsLeave}

-- a text is what a token of this kind says of its own
pub record Named (kind : TokenKind) (w : List ℕ) : Type 0 where
  pub name : kind ≡ kinds.Identifier → IsName w
  pub leave : IsLeave kind → IsName (ejector w)

-- a token of this kind says something of its text
abbrev pub is_word : TokenKind → Bool
is_word kinds.Identifier = true
is_word kinds.Return = true
is_word kinds.Break = true
is_word kinds.Continue = true
is_word _ = false

leave_word : (k : TokenKind) → IsLeave k → is_word k ≡ true
leave_word kinds.Return h = refl
leave_word kinds.Break h = refl
leave_word kinds.Continue h = refl
leave_word _ h = absurd h

not_both : (b : Bool) → b ≡ true → b ≡ false → ⊥
not_both true d e = cc
not_both false d e = cc

pub other_kind : (k : TokenKind) (w : List ℕ) → is_word k ≡ false → Named k w
other_kind k w e = record {
  name = λ h. absurd (not_both (is_word k) (ap is_word h) e);
  leave = λ h. absurd (not_both (is_word k) (leave_word k h) e);
}

-- ---- words in a table

-- this holds of each entry
abbrev pub AllEntries : (List ℕ → TokenKind → Type 0) → List (List ℕ × TokenKind) → Type 0
AllEntries P [] = Unit {0}
AllEntries P (e ∷ es) = P e.0 e.1 × AllEntries P es

among_step : (b : Bool) (e : List ℕ × TokenKind) (o : Option (List ℕ × TokenKind)) (k : TokenKind) → option_map (λ (x : List ℕ × TokenKind). x.1) (cond b (Some e) o) ≡ Some k
    → ((b ≡ true) × (e.1 ≡ k)) ⊎ (option_map (λ (x : List ℕ × TokenKind). x.1) o ≡ Some k)
among_step true e o k h = inl (refl, cc)
among_step false e o k h = inr h

-- and so of a word that is found there, with its kind
pub found : (P : List ℕ → TokenKind → Type 0) (es : List (List ℕ × TokenKind)) (w : List ℕ) (k : TokenKind) → AllEntries P es → kind_among es w ≡ Some k → P w k
found P [] w k a h = absurd (cc)
found P (e ∷ es) w k a h = elim (among_step (bytes_eq w e.0) e (find (λ (x : List ℕ × TokenKind). bytes_eq w x.0) es) k h) [
  | inl i ↦ subst (λ (x : List ℕ). P x k) (sym ((bytes_eq-Decides w e.0).0 i.0)) (subst (P e.0) i.1 a.0)
  | inr i ↦ found P es w k a.1 i
]

no_entry : (b : Bool) (e : List ℕ × TokenKind) (o : Option (List ℕ × TokenKind)) → option_map (λ (x : List ℕ × TokenKind). x.1) (cond b (Some e) o) ≡ None → (b ≡ false) × (option_map (λ (x : List ℕ × TokenKind). x.1) o ≡ None)
no_entry true e o h = absurd (cc)
no_entry false e o h = (refl, h)

abbrev any_entry : List (List ℕ × TokenKind) → List ℕ → Bool
any_entry [] w = false
any_entry (e ∷ es) w = bytes_eq w e.0 || any_entry es w

none_among : (es : List (List ℕ × TokenKind)) (w : List ℕ) → kind_among es w ≡ None → any_entry es w ≡ false
none_among [] w h = refl
none_among (e ∷ es) w h =
    let n = no_entry (bytes_eq w e.0) e (find (λ (x : List ℕ × TokenKind). bytes_eq w x.0) es) h in
    ap (λ (b : Bool). b || any_entry es w) n.0 ∙ none_among es w n.1

neither : (a b : Bool) → (a || b) ≡ false → (a ≡ false) × (b ≡ false)
neither true b e = absurd (cc)
neither false b e = (refl, e)

-- a word that is not reserved is no keyword and no lone `_`
not_reserved : (w : List ℕ) → kind_among reserved w ≡ None → (is_keyword w ≡ false) × (bytes_eq w (codes "_") ≡ false)
not_reserved w h = let n = neither (bytes_eq w (codes "_")) (is_keyword w) (none_among reserved w h) in (n.1, n.0)

-- ---- reserved words

abbrev is_leave : TokenKind → Bool
is_leave kinds.Return = true
is_leave kinds.Break = true
is_leave kinds.Continue = true
is_leave _ = false

-- a word of this kind says nothing of its text, or leaves a form and makes a name
abbrev fits : List ℕ × TokenKind → Bool
fits e = not (is_word e.1) || (is_leave e.1 && (is_utf8 (ejector e.0) && is_identifier (ejector e.0)))

fitting : (w : List ℕ) (k : TokenKind) → fits (w, k) ≡ true → Named k w
fitting w k e = elim (either (is_word k)) [
  | inr none ↦ other_kind k w none
  | inl some ↦
      let b = both (is_leave k) (is_utf8 (ejector w) && is_identifier (ejector w)) (sym (ap (λ (t : Bool). not t || (is_leave k && (is_utf8 (ejector w) && is_identifier (ejector w)))) some) ∙ e) in
      let c = both (is_utf8 (ejector w)) (is_identifier (ejector w)) b.1 in
      record {
        name = λ h. absurd (not_both (is_leave k) b.0 (ap is_leave h));
        leave = λ _. record { utf8 = IsUtf8-from_is_utf8 (ejector w) c.0; is_one = c.1 };
      }
]

abbrev IsNamed : List ℕ → TokenKind → Type 0
IsNamed w k = Named k w

all_named : (es : List (List ℕ × TokenKind)) → list_all fits es ≡ true → AllEntries IsNamed es
all_named [] h = tt
all_named (e ∷ es) h = let b = both (fits e) (list_all fits es) h in (fitting e.0 e.1 b.0, all_named es b.1)

reserved_named : AllEntries IsNamed reserved
unfolding ejector is_utf8 chars encode_utf8
reserved_named = all_named reserved refl

-- ---- words at the front of a text

front_by : (p : ℕ → Bool) (c : ℕ) (cs : List ℕ) (t : Bool) → p c ≡ t → list_all p (take (prefix_len p cs) cs) ≡ true → list_all p (take (cond t (1 + prefix_len p cs) 0) (c ∷ cs)) ≡ true
front_by p c cs true e h =
    let next : 1 + prefix_len p cs ≡ suc (prefix_len p cs) = omega arith in
    ap (λ (n : ℕ). list_all p (take n (c ∷ cs))) next ∙ ap (λ (b : Bool). b && list_all p (take (prefix_len p cs) cs)) e ∙ h
front_by p c cs false e h = refl

all_front : (p : ℕ → Bool) (cs : List ℕ) → list_all p (take (prefix_len p cs) cs) ≡ true
all_front p [] = refl
all_front p (c ∷ cs) = front_by p c cs (p c) refl (all_front p cs)

scalars_front : (k : ℕ) (cs : List ℕ) → scalars cs ≡ true → scalars (take k cs) ≡ true
scalars_front zero cs e = refl
scalars_front (suc k) [] e = refl
scalars_front (suc k) (c ∷ cs) e = let b = both _ (scalars cs) e in ap (λ (t : Bool). t && scalars (take k cs)) b.0 ∙ scalars_front k cs b.1

-- the characters of a front word of a text in UTF-8
abbrev front_chars : ℕ → List ℕ → List ℕ
front_chars c cs = c ∷ take (prefix_len continues_identifier cs) cs

is_name : (c : ℕ) (cs : List ℕ) → scalars (c ∷ cs) ≡ true → begins_identifier c ≡ true → kind_among reserved (front_word c cs) ≡ None → IsName (front_word c cs)
is_name c cs s b n =
    let sc : scalars (front_chars c cs) ≡ true = scalars_front (suc (prefix_len continues_identifier cs)) (c ∷ cs) s in
    let form : has_identifier_form (chars (front_word c cs)) ≡ true =
    ap has_identifier_form (chars-encodes (front_chars c cs) sc)
    ∙ ap (λ (t : Bool). t && list_all continues_identifier (take (prefix_len continues_identifier cs) cs)) b ∙ all_front continues_identifier cs in
    let r = not_reserved (front_word c cs) n in
    record {
      utf8 = (front_chars c cs, (sc, refl));
      is_one = ap (λ (t : Bool). (t && not (is_keyword (front_word c cs))) && not (bytes_eq (front_word c cs) (codes "_"))) form
          ∙ ap (λ (t : Bool). not t && not (bytes_eq (front_word c cs) (codes "_"))) r.0 ∙ ap not r.1;
    }

named_by : (w : List ℕ) (o : Option TokenKind) → kind_among reserved w ≡ o → (kind_among reserved w ≡ None → IsName w) → Named (elim o as (λ _. TokenKind) [ None ↦ kinds.Identifier | Some kind ↦ kind ]) w
named_by w None e h = record { name = λ _. h e; leave = λ l. absurd l }
named_by w (Some k) e h = found IsNamed reserved w k reserved_named e

pub word_named : (c : ℕ) (cs : List ℕ) → scalars (c ∷ cs) ≡ true → begins_identifier c ≡ true → Named (word_kind (front_word c cs)) (front_word c cs)
word_named c cs s b = named_by (front_word c cs) (kind_among reserved (front_word c cs)) refl (is_name c cs s b)

-- the text begins with it
pub begins_with : (text : List ℕ) (c : ℕ) (cs : List ℕ) → IsUtf8 text → chars text ≡ c ∷ cs → take (length (front_word c cs)) text ≡ front_word c cs
begins_with text c cs u e =
    let k = suc (prefix_len continues_identifier cs) in
    let whole : text ≡ front_word c cs ++ encode_utf8_all (drop k (c ∷ cs)) =
    sym (encodes-chars text u) ∙ ap encode_utf8_all (e ∙ sym (take-append-drop k (c ∷ cs))) ∙ encodes-append (take k (c ∷ cs)) (drop k (c ∷ cs)) in
    ap (take (length (front_word c cs))) whole ∙ take_at (front_word c cs) (encode_utf8_all (drop k (c ∷ cs))) (length (front_word c cs)) refl
