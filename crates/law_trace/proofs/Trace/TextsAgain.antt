-- What is printed of short texts is read again as a value.
use Rattle.std.proofs.Common.{◌≡◌, ◌≤◌, ◌+◌, ◌-◌, ◌++◌, ℕ, suc, Bool, true, false, cond, eqb, List, [], ◌∷◌, Option, Some, None, Ok, length, length-append, refl, sym, ◌∙◌, ap, arith}
use Rattle.std.specs.Prelude.{codes, slice_index}
use Rattle.std.specs.List.{list_all, flat_map}
use Rattle.std.specs.Str.{bytes_eq, chars}
use Rattle.std.proofs.lemmas.Bool.{le-leb, le-ltb}
use Rattle.std.proofs.lemmas.Bool.Decides.{nat_tests}
use Rattle.std.proofs.lemmas.Slice.Eq.{bytes_eq-Decides}
use Rattle.def_text.specs.Quoting.{quoted, escaped, shortened}
use Rattle.ev_text.proofs.RoundTrip.{reads_quoted}
use Rattle.def_event.specs.declared.shown.Shown.{Text}
use Rattle.ev_script.specs.Vats.{begins_lower, is_vat_name}
use Rattle.ev_trace_words.specs.Parts.{behind_label, behind_mark, constant, primitive, split_at}
use Rattle.ev_trace_words.specs.Parts as parts
use Rattle.ev_trace_words.specs.Texts.{cut, shown_text, text, whole}
use Rattle.ev_trace_words.specs.Values.{value}
use Rattle.ev_trace_words.proofs.Spelled.{split_is}
use Rattle.law_trace.specs.Trace.Laws.{ShortTextsAreReadAgain}
use Rattle.law_trace.proofs.Trace.ValuesAgain.{no_front, starts}
use Rattle.law_trace.proofs.Trace.IntegersAgain.{low_front, no_constant, no_vat, numbered_by}

-- ---- no name

answer_by : (names : List (List ℕ)) (word : List ℕ) (o : Option (List ℕ × List ℕ)) → split_at 63 word ≡ o → list_all is_vat_name names ≡ true → begins_lower word ≡ false → parts.answer names word ≡ None
answer_by names word None s e f = rw s refl
answer_by names word (Some p) s e f = rw s (rw (no_vat names p.0 e (low_front word p.0 p.1 63 (split_is 63 word p s) f)) refl)

claimed_by : (names : List (List ℕ)) (word : List ℕ) (o : Option (List ℕ × List ℕ)) → split_at 94 word ≡ o → list_all is_vat_name names ≡ true → begins_lower word ≡ false → parts.claimed names word ≡ None
claimed_by names word None s e f = rw s refl
claimed_by names word (Some p) s e f = rw s (rw (no_vat names p.0 e (low_front word p.0 p.1 94 (split_is 94 word p s) f)) refl)

pub no_root : (names : List (List ℕ)) (word : List ℕ) → starts 64 word ≡ false → parts.root names word ≡ None
no_root names word f = rw (no_front 64 word (behind_mark 64 word) refl f) refl

name_by : (names : List (List ℕ)) (word : List ℕ) → parts.numbered names 46 word ≡ None → parts.numbered names 126 word ≡ None → parts.numbered names 94 word ≡ None → parts.answer names word ≡ None → parts.root names word ≡ None
    → parts.claimed names word ≡ None → parts.name names word ≡ None
name_by names word a b c d e f = rw a (rw b (rw c (rw d (rw e (rw f refl)))))

pub no_name : (names : List (List ℕ)) (word : List ℕ) → list_all is_vat_name names ≡ true → begins_lower word ≡ false → starts 64 word ≡ false → parts.name names word ≡ None
no_name names word e f r =
    name_by names word (numbered_by names 46 word (split_at 46 word) refl e f) (numbered_by names 126 word (split_at 126 word) refl e f) (numbered_by names 94 word (split_at 94 word) refl e f)
    (answer_by names word (split_at 63 word) refl e f) (no_root names word r) (claimed_by names word (split_at 94 word) refl e f)

pub no_primitive : (word : List ℕ) → starts 60 word ≡ false → primitive word ≡ None
no_primitive word f = rw (no_front 60 word (behind_mark 60 word) refl f) refl

-- ---- no label

starts_front : (mark : ℕ) (word front behind : List ℕ) (colon : ℕ) → word ≡ front ++ colon ∷ behind → starts mark word ≡ false → starts mark front ≡ false
starts_front mark word [] behind colon e f = refl
starts_front mark word (b ∷ front) behind colon e f = sym (ap (starts mark) e) ∙ f

not_broken : (front : List ℕ) (t : Bool) → bytes_eq front (codes "broken") ≡ t → starts 98 front ≡ false → bytes_eq front (codes "broken") ≡ false
not_broken front false s f = s
not_broken front true s f = let one : starts 98 front ≡ true = ap (starts 98) ((bytes_eq-Decides front (codes "broken")).0 s) in absurd cc

label_by : (word : List ℕ) (o : Option (List ℕ × List ℕ)) → split_at 58 word ≡ o → starts 98 word ≡ false → behind_label (codes "broken") word ≡ None
label_by word None s f = rw s refl
label_by word (Some p) s f = rw s (rw (not_broken p.0 (bytes_eq p.0 (codes "broken")) refl (starts_front 98 word p.0 p.1 58 (split_is 58 word p s) f)) refl)

-- ---- the text

last_of : (xs : List ℕ) (b : ℕ) → slice_index (xs ++ b ∷ []) (length (xs ++ b ∷ []) - 1) ≡ b
last_of [] b = refl
last_of (x ∷ xs) b =
    let long : length (xs ++ b ∷ []) ≡ length xs + 1 = length-append xs (b ∷ []) in
    let place : length (x ∷ (xs ++ b ∷ [])) - 1 ≡ suc (length (xs ++ b ∷ []) - 1) = omega (arith, long) in
    ap (slice_index (x ∷ (xs ++ b ∷ []))) place ∙ last_of xs b

pub text_again : (t : List ℕ) → text (quoted t) ≡ Ok t
text_again t = rw (reads_quoted t) (rw ((bytes_eq-Decides (quoted t) (quoted t)).1 refl) refl)

whole_again : (t : List ℕ) → length (chars t) ≤ 32 → whole (quoted t) ≡ Ok t
whole_again t h = rw (text_again t) (rw (le-ltb 32 (length (chars t)) h) refl)

same_quote : (n : ℕ) → n ≡ 34 → eqb n 34 ≡ true
same_quote n e = grind (arith, nat_tests)

pub shown_again : (t : List ℕ) → length (chars t) ≤ 32 → shown_text (quoted t) ≡ Ok t
shown_again t h =
    ap (λ k. cond k (whole (quoted t)) (cut (quoted t))) (same_quote (slice_index (quoted t) (length (quoted t) - 1)) (last_of (34 ∷ flat_map escaped t) 34)) ∙ whole_again t h

text_by : (names : List (List ℕ)) (word t : List ℕ) → parts.numbered names 37 word ≡ None → parts.numbered names 38 word ≡ None → parts.plain names word ≡ None → behind_mark 39 word ≡ None
    → behind_label (codes "broken") word ≡ None → shown_text word ≡ Ok t → value names word ≡ Ok (Text t)
text_by names word t l s p q b e = rw l (rw s (rw p (rw q (rw b (rw e refl)))))

plain_by : (names : List (List ℕ)) (rest : List ℕ) → constant (34 ∷ rest) ≡ None → primitive (34 ∷ rest) ≡ None → parts.name names (34 ∷ rest) ≡ None → parts.plain names (34 ∷ rest) ≡ None
plain_by names rest c p n = rw c (rw p (rw n refl))

-- a text by what its spelling is read as
pub text_value_again : (names : List (List ℕ)) (rest t : List ℕ) → list_all is_vat_name names ≡ true → shown_text (34 ∷ rest) ≡ Ok t → value names (34 ∷ rest) ≡ Ok (Text t)
text_value_again names rest t lawful shown =
    let word = 34 ∷ rest in
    text_by names word t (numbered_by names 37 word (split_at 37 word) refl lawful refl) (numbered_by names 38 word (split_at 38 word) refl lawful refl)
    (plain_by names rest (no_constant word refl refl refl) (no_primitive word refl) (no_name names word lawful refl refl))
    (no_front 39 word (behind_mark 39 word) refl refl) (label_by word (split_at 58 word) refl refl) shown

pub as_printed : (t : List ℕ) → length (chars t) ≤ 32 → shortened t ≡ quoted t
as_printed t h = rw (le-leb (length (chars t)) 32 h) refl

pub short_texts_again : ShortTextsAreReadAgain
short_texts_again names t are h = ap (value names) (as_printed t h) ∙ text_value_again names (flat_map escaped t ++ 34 ∷ []) t are.lawful (shown_again t h)
