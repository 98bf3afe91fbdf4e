-- Parts of lines are read again: numbers, verbs, and what stands between values.
use Rattle.std.proofs.Common.{◌≡◌, ◌<◌, ◌+◌, ◌++◌, ◌^◌, ◌&&◌, ℕ, suc, Bool, true, false, not, cond, ltb, List, [], ◌∷◌, Option, Some, None, length, length-append, take, drop, take_at, drop_at, map, refl, sym, ◌∙◌, ap, subst, append_assoc, arith}
use Rattle.std.specs.Prelude.{codes, decimal, Result, Ok, Err}
use Rattle.std.specs.Path.{rsplit_once}
use Rattle.std.specs.Str.{IsUtf8, bytes_eq, chars}
use Rattle.std.proofs.lemmas.Bool.{lt-ltb}
use Rattle.std.proofs.lemmas.Bool.Decides.{nat_tests}
use Rattle.std.proofs.lemmas.Slice.Eq.{bytes_eq-Decides}
use Rattle.std.proofs.lemmas.Str.{IsUtf8-encode, chars-append, encode_ascii}
use Rattle.def_text.specs.Quoting.{quoted}
use Rattle.def_text.specs.Keywords.{has_identifier_form, is_identifier, is_keyword, printed_verb}
use Rattle.def_event.specs.declared.shown.Shown.{Shown}
use Rattle.def_event.specs.Lines as lines
use Rattle.ev_script.specs.Script.{◌>>=◌}
use Rattle.law_text.specs.Text.Feeds.{AllOf}
use Rattle.ev_trace_words.specs.Parts.{activation, behind_mark, count, split_at}
use Rattle.ev_trace_words.specs.Texts.{object_name, quoted_verb, text, verb}
use Rattle.ev_trace_words.specs.Values.{all_of, value}
use Rattle.ev_trace_words.proofs.Printed.{count_again, digits_lack, split_none}
use Rattle.ev_trace_lines.specs.Events.{Words, act, before_word, behind_word, entry, event_of, line_by, place_of_word, unnumbered}
use Rattle.ev_trace_lines.proofs.PlaceLemmas.{as_place, place}
use Rattle.law_trace.specs.Trace.Readable.{IsObjectName}
use Rattle.law_trace.proofs.Trace.TextsAgain.{text_again}
use Rattle.law_trace.proofs.Trace.TextsSeen.{all_more, behind_again}

-- ---- how a line begins

activation_by : (word digits : List ℕ) (n : ℕ) → behind_mark 33 word ≡ Some digits → count digits ≡ Some n → activation word ≡ Some n
activation_by word digits n e f = rw e (rw f refl)

pub activation_again : (a : ℕ) → a < 2 ^ 64 → activation (lines.activation a) ≡ Some a
activation_again a h = activation_by (lines.activation a) (decimal a) a (behind_again 33 (decimal a)) (count_again a h)

activation_none : (word : List ℕ) → split_at 33 word ≡ None → activation word ≡ None
activation_none word e = rw e refl

-- a line of an activation
pub act_line : (names : List (List ℕ)) (a : ℕ) (rest : Words) → a < 2 ^ 64 → event_of names (lines.activation a ∷ rest) ≡ act names a rest
act_line names a rest h = ap (λ o. line_by names (lines.activation a) o rest) (activation_again a h)

-- a line of an entry
pub entry_line : (names : List (List ℕ)) (k : ℕ) (rest : Words) → k < 2 ^ 64 → event_of names (decimal k ∷ rest) ≡ entry names k rest
entry_line names k rest h =
    ap (λ o. line_by names (decimal k) o rest) (activation_none (decimal k) (split_none 33 (decimal k) (digits_lack 33 k refl h)))
    ∙ ap (λ o. unnumbered names (decimal k) o rest) (count_again k h)

-- ---- verbs and names of objects

quote_utf8 : IsUtf8 (34 ∷ [])
quote_utf8 = subst IsUtf8 (encode_ascii 34 (omega arith)) (IsUtf8-encode 34 refl)

no_identifier : (rest : List ℕ) → is_identifier (34 ∷ rest) ≡ false
unfolding chars
no_identifier rest = ap (λ cs. (has_identifier_form cs && not (is_keyword (34 ∷ rest))) && not (bytes_eq (34 ∷ rest) (codes "_"))) (chars-append (34 ∷ []) rest quote_utf8)

quoted_verb_by : (word t : List ℕ) → text word ≡ Ok t → is_identifier t ≡ false → quoted_verb word ≡ Ok t
quoted_verb_by word t e f = ap (λ r. r >>= (λ u. cond {A = Result (List ℕ) ℕ} (is_identifier u) (Err 42) (Ok u))) e ∙ ap (λ b. cond {A = Result (List ℕ) ℕ} b (Err 42) (Ok t)) f

verb_by : (q : List ℕ) (t : Bool) → is_identifier q ≡ t → verb (cond t q (quoted q)) ≡ Ok q
verb_by q true e = ap (λ b. cond {A = Result (List ℕ) ℕ} b (Ok q) (quoted_verb q)) e
verb_by q false e = ap (λ b. cond {A = Result (List ℕ) ℕ} b (Ok (quoted q)) (quoted_verb (quoted q))) (no_identifier _) ∙ quoted_verb_by (quoted q) q (text_again q) e

pub verb_again : (q : List ℕ) → verb (printed_verb q) ≡ Ok q
verb_again q = verb_by q (is_identifier q) refl

pub object_again : (word : List ℕ) → IsObjectName word → object_name word ≡ Ok word
object_again word h = ap (λ b. cond {A = Result (List ℕ) ℕ} b (Ok word) (Err 42)) h.1

-- ---- one after another

pub goes : {A B : Type 0} (m : Result A ℕ) (x : A) (f : A → Result B ℕ) → m ≡ Ok x → (m >>= f) ≡ f x
goes m x f e = ap (λ r. r >>= f) e

pub all_again : {A B C : Type 0} (f : A → Result B ℕ) (print : C → A) (show : C → B) (P : C → Type 0) → ((x : C) → P x → f (print x) ≡ Ok (show x)) → (xs : List C) → AllOf P xs
    → all_of f (map print xs) ≡ Ok (map show xs)
all_again f print show P each [] h = refl
all_again f print show P each (x ∷ xs) h = all_more f (print x) (map print xs) (show x) (map show xs) (each x h.0) (all_again f print show P each xs h.1)

-- ---- a word between values

-- the word is another
abbrev pub IsOther : List ℕ → List ℕ → Type 0
IsOther word w = bytes_eq w word ≡ false

here : (word : List ℕ) (rest : Words) → place word (word ∷ rest) ≡ 0
here word rest = rw ((bytes_eq-Decides word word).1 refl) refl

later : (word x : List ℕ) (xs : Words) → IsOther word x → place word (x ∷ xs) ≡ suc (place word xs)
later word x xs e = rw e (omega arith)

place_at : (word : List ℕ) (xs rest : Words) → AllOf (IsOther word) xs → place word (xs ++ word ∷ rest) ≡ length xs
place_at word [] rest h = here word rest
place_at word (x ∷ xs) rest h = later word x (xs ++ word ∷ rest) h.0 ∙ ap suc (place_at word xs rest h.1)

place_none : (word : List ℕ) (xs : Words) → AllOf (IsOther word) xs → place word xs ≡ length xs
place_none word [] h = refl
place_none word (x ∷ xs) h = later word x xs h.0 ∙ ap suc (place_none word xs h.1)

stands_at : (word : List ℕ) (xs rest : Words) → AllOf (IsOther word) xs → place_of_word word (xs ++ word ∷ rest) ≡ length xs
stands_at word xs rest h = sym (as_place word (xs ++ word ∷ rest)) ∙ place_at word xs rest h

stands_nowhere : (word : List ℕ) (xs : Words) → AllOf (IsOther word) xs → place_of_word word xs ≡ length xs
stands_nowhere word xs h = sym (as_place word xs) ∙ place_none word xs h

behind_by : (word : List ℕ) (words : Words) (n : ℕ) (t : Bool) → place_of_word word words ≡ n → ltb n (length words) ≡ t → behind_word word words ≡ cond {A = Option Words} t (Some (drop (n + 1) words)) None
behind_by word words n t e f =
    ap (λ k. cond {A = Option Words} (ltb k (length words)) (Some (drop (k + 1) words)) None) e ∙ ap (λ b. cond {A = Option Words} b (Some (drop (n + 1) words)) None) f

not_below : (n : ℕ) → ltb n n ≡ false
not_below n = grind (arith, nat_tests)

pub before_at : (word : List ℕ) (xs rest : Words) → AllOf (IsOther word) xs → before_word word (xs ++ word ∷ rest) ≡ xs
before_at word xs rest h = ap (λ n. take n (xs ++ word ∷ rest)) (stands_at word xs rest h) ∙ take_at xs (word ∷ rest) (length xs) refl

pub behind_at : (word : List ℕ) (xs rest : Words) → AllOf (IsOther word) xs → behind_word word (xs ++ word ∷ rest) ≡ Some rest
behind_at word xs rest h =
    let long : length (xs ++ word ∷ rest) ≡ length xs + suc (length rest) = length-append xs (word ∷ rest) in
    let one : length (xs ++ word ∷ []) ≡ length xs + 1 = length-append xs (word ∷ []) in
    behind_by word (xs ++ word ∷ rest) (length xs) true (stands_at word xs rest h) (lt-ltb (length xs) (length (xs ++ word ∷ rest)) (omega (arith, long)))
    ∙ ap Some (ap (drop (length xs + 1)) (sym (append_assoc xs (word ∷ []) rest)) ∙ drop_at (xs ++ word ∷ []) rest (length xs + 1) one)

all_taken : (xs : Words) → take (length xs) xs ≡ xs
all_taken [] = refl
all_taken (x ∷ xs) = ap (λ ys. x ∷ ys) (all_taken xs)

pub before_none : (word : List ℕ) (xs : Words) → AllOf (IsOther word) xs → before_word word xs ≡ xs
before_none word xs h = ap (λ n. take n xs) (stands_nowhere word xs h) ∙ all_taken xs

pub behind_none : (word : List ℕ) (xs : Words) → AllOf (IsOther word) xs → behind_word word xs ≡ None
behind_none word xs h = behind_by word xs (length xs) false (stands_nowhere word xs h) (not_below (length xs))

-- ---- such a word is no value

-- it is read as no value
abbrev pub IsNoValue : List (List ℕ) → List ℕ → Type 0
IsNoValue names word = value names word ≡ Err 42

pub other_by : (names : List (List ℕ)) (word w : List ℕ) (x : Shown) (t : Bool) → bytes_eq w word ≡ t → IsNoValue names word → value names w ≡ Ok x → IsOther word w
other_by names word w x false s n e = s
other_by names word w x true s n e = let both_ways : ◌≡◌ {A = Result Shown ℕ} (Ok x) (Err 42) = sym e ∙ ap (value names) ((bytes_eq-Decides w word).0 s) ∙ n in absurd cc

pub no_as : (names : List (List ℕ)) → IsNoValue names (codes "as")
unfolding rsplit_once
no_as names = refl

pub no_arrow : (names : List (List ℕ)) → IsNoValue names (codes "->")
unfolding rsplit_once
no_arrow names = refl

pub no_stamps : (names : List (List ℕ)) → IsNoValue names (codes "stamps")
unfolding rsplit_once
no_stamps names = refl
