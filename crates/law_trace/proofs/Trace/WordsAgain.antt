-- The words of a line are read apart.
use Rattle.std.proofs.Common.{◌≡◌, ◌+◌, ◌++◌, ◌&&◌, ◌||◌, ℕ, zero, suc, Bool, true, false, cond, eqb, List, [], ◌∷◌, Option, Some, None, refl, sym, ◌∙◌, ap, subst, append_assoc, arith}
use Rattle.std.specs.Prelude.{codes}
use Rattle.std.specs.List.{flat_map, list_all}
use Rattle.std.specs.Str.{IsUtf8, bytes_eq}
use Rattle.std.proofs.lemmas.Bool.{eqb-true}
use Rattle.std.proofs.lemmas.Bool.Decides.{nat_tests}
use Rattle.std.proofs.lemmas.List.{append-nil}
use Rattle.std.proofs.lemmas.Slice.Eq.{bytes_eq-Decides}
use Rattle.def_text.specs.Quoting.{quoted}
use Rattle.def_text.specs.Keywords.{is_identifier, printed_verb}
use Rattle.def_event.specs.declared.note.ShownNote.{ShownNote}
use Rattle.def_event.specs.declared.note.ShownNote.TheVariants.{Deliver, DeliverOnly}
use Rattle.def_event.specs.declared.event.Event.{Event}
use Rattle.def_event.specs.declared.event.Event.TheVariants.{Carry, Take, Call, Made, Send, SendOnly, LeftLink}
use Rattle.def_event.specs.Lines.{spaced, words}
use Rattle.ev_script.specs.Vats.{is_lower_or_digit, is_vat_name}
use Rattle.law_text.specs.Text.Feeds.{AllOf, FitsAs, NoteFits}
use Rattle.law_text.specs.Text.Words.{Place, Outside, Inside, Escaping, Within, Shielding, IsOrdinary, IsWord, behind, closed_in, ordinary, reads, reads_on, spaced_in}
use Rattle.law_text.proofs.Text.Front.{both_true}
use Rattle.law_text.proofs.Text.Quotes.{verb_word}
use Rattle.law_text.proofs.Text.Reading.{Goes, differs, ordinary_word, six}
use Rattle.law_text.proofs.Text.Spelled.{AllSome}
use Rattle.law_text.proofs.Text.Told.{some_words}
use Rattle.ev_trace_words.specs.declared.words.Quote.{Quote}
use Rattle.ev_trace_words.specs.declared.words.Quote.TheVariants as quote
use Rattle.ev_trace_words.specs.Words.{behind_depth, behind_quote, ends_word, words_from, words_of}
use Rattle.ev_trace_words.proofs.Printed.{vat_letters}
use Rattle.ev_trace_words.proofs.WordLemmas as reader
use Rattle.law_trace.specs.Trace.Readable.{Below, IsNote, IsObjectName, IsRead}
use Rattle.law_trace.specs.Trace.Words.{WordsAreReadAgain}
use Rattle.law_trace.proofs.Trace.ValuesAgain.{both}

-- ---- where the two readers stand

abbrev pub quote_of : Place → Quote
quote_of (Outside d) = quote.Outside
quote_of (Inside d) = quote.InText
quote_of (Escaping d) = quote.EscapedText
quote_of (Within d) = quote.InCharacter
quote_of (Shielding d) = quote.EscapedCharacter

abbrev depth_of : Place → ℕ
depth_of (Outside d) = d
depth_of (Inside d) = d
depth_of (Escaping d) = d
depth_of (Within d) = d
depth_of (Shielding d) = d

-- behind this byte the one stands where the other does, if the word goes on
abbrev pub Steps : Place → ℕ → Option Place → Type 0
Steps p c None = Unit {0}
Steps p c (Some q) = (ends_word (quote_of p) (depth_of p) c ≡ false) × (behind_quote (quote_of p) c ≡ quote_of q) × (behind_depth (quote_of p) (depth_of p) c ≡ depth_of q)

pick : (p : Place) (c : ℕ) (b : Bool) (x y : Option Place) → (b ≡ true → Steps p c x) → (b ≡ false → Steps p c y) → Steps p c (cond b x y)
pick p c true x y h k = h refl
pick p c false x y h k = k refl

known : (p : Place) (c k : ℕ) (o : Option Place) → Steps p k o → eqb c k ≡ true → Steps p c o
known p c k o h e = subst (λ x. Steps p x o) (sym (eqb-true c k e)) h

never : (a b : Bool) → ((a && false) && b) ≡ false
never true b = refl
never false b = refl

pub one_or_more : (n : ℕ) → eqb (suc n) 0 ≡ false
one_or_more n = grind (arith, nat_tests)

inner : (d : ℕ) → Steps (Outside d) 32 (spaced_in d)
inner zero = tt
inner (suc d) = (one_or_more d, refl, refl)

closing : (d : ℕ) → Steps (Outside d) 93 (closed_in d)
closing zero = tt
closing (suc d) = (refl, refl, omega arith)

opening : (d : ℕ) → d + 1 ≡ suc d
opening d = omega arith

goes_outside : (d c : ℕ) → eqb c 32 ≡ false → eqb c 34 ≡ false → eqb c 39 ≡ false → eqb c 91 ≡ false → eqb c 93 ≡ false → Steps (Outside d) c (Some (Outside d))
goes_outside d c space double single left right = (rw space refl, rw (double, single) refl, rw (left, right) refl)

goes_inside : (d c : ℕ) → eqb c 34 ≡ false → eqb c 92 ≡ false → Steps (Inside d) c (Some (Inside d))
goes_inside d c double slash = (never (eqb c 32) (eqb d 0), rw (slash, double) refl, refl)

goes_within : (d c : ℕ) → eqb c 39 ≡ false → eqb c 92 ≡ false → Steps (Within d) c (Some (Within d))
goes_within d c single slash = (never (eqb c 32) (eqb d 0), rw (slash, single) refl, refl)

pub steps : (p : Place) (c : ℕ) → Steps p c (behind p c)
steps (Outside d) c =
    pick (Outside d) c (eqb c 10) None _ (λ e. tt) (λ feed.
    pick (Outside d) c (eqb c 32) (spaced_in d) _ (known (Outside d) c 32 (spaced_in d) (inner d)) (λ space.
    pick (Outside d) c (eqb c 34) (Some (Inside d)) _ (known (Outside d) c 34 (Some (Inside d)) (refl, refl, refl)) (λ double.
    pick (Outside d) c (eqb c 39) (Some (Within d)) _ (known (Outside d) c 39 (Some (Within d)) (refl, refl, refl)) (λ single.
    pick (Outside d) c (eqb c 91) (Some (Outside (suc d))) _ (known (Outside d) c 91 (Some (Outside (suc d))) (refl, refl, opening d)) (λ left.
    pick (Outside d) c (eqb c 93) (closed_in d) (Some (Outside d)) (known (Outside d) c 93 (closed_in d) (closing d)) (goes_outside d c space double single left))))))
steps (Inside d) c =
    pick (Inside d) c (eqb c 34) (Some (Outside d)) _ (known (Inside d) c 34 (Some (Outside d)) (refl, refl, refl)) (λ double.
    pick (Inside d) c (eqb c 92) (Some (Escaping d)) (Some (Inside d)) (known (Inside d) c 92 (Some (Escaping d)) (refl, refl, refl)) (goes_inside d c double))
steps (Escaping d) c = (never (eqb c 32) (eqb d 0), refl, refl)
steps (Within d) c =
    pick (Within d) c (eqb c 39) (Some (Outside d)) _ (known (Within d) c 39 (Some (Outside d)) (refl, refl, refl)) (λ single.
    pick (Within d) c (eqb c 92) (Some (Shielding d)) (Some (Within d)) (known (Within d) c 92 (Some (Shielding d)) (refl, refl, refl)) (goes_within d c single))
steps (Shielding d) c = (never (eqb c 32) (eqb d 0), refl, refl)

-- ---- a word is read to its end

abbrev rest_read : Place → List ℕ → List ℕ → List (List ℕ)
rest_read p word rest = words_from (quote_of p) (depth_of p) word rest

one_on : (p q : Place) (c : ℕ) (word rest : List ℕ) → Steps p c (Some q) → rest_read p word (c ∷ rest) ≡ rest_read q (word ++ c ∷ []) rest
one_on p q c word rest s =
    reader.goes_on (quote_of p) (depth_of p) c word rest s.0 ∙ ap (λ k. words_from k (behind_depth (quote_of p) (depth_of p) c) (word ++ c ∷ []) rest) s.1
    ∙ ap (λ d. words_from (quote_of q) d (word ++ c ∷ []) rest) s.2

goes_along : (p q : Place) (xs word rest : List ℕ) → Goes p xs q → rest_read p word (xs ++ rest) ≡ rest_read q (word ++ xs) rest
goes_along p q [] word rest h = let same : p ≡ q = cc in ap (λ r. rest_read r word rest) same ∙ ap (λ w. rest_read q w rest) (sym (append-nil word))
goes_along p q (x ∷ xs) word rest h = by (behind p x) (steps p x) h (λ r i. goes_along r q xs (word ++ x ∷ []) rest i)
  where
    by : (o : Option Place) → Steps p x o → reads_on (reads xs) o ≡ Some q → ((r : Place) → Goes r xs q → rest_read r (word ++ x ∷ []) (xs ++ rest) ≡ rest_read q ((word ++ x ∷ []) ++ xs) rest)
        → rest_read p word (x ∷ (xs ++ rest)) ≡ rest_read q (word ++ x ∷ xs) rest
    by None s i more = cc
    by (Some r) s i more = one_on p r x word (xs ++ rest) s ∙ more r i ∙ ap (λ w. rest_read q w rest) (append_assoc word (x ∷ []) xs)

behind_words : (ws : List (List ℕ)) (word : List ℕ) → AllOf IsWord ws → rest_read (Outside 0) word (flat_map (λ v. 32 ∷ v) ws) ≡ word ∷ ws
unfolding words_from
behind_words [] word h = refl
behind_words (w ∷ ws) word h =
    let rest = flat_map (λ v. 32 ∷ v) ws in
    reader.ends quote.Outside 0 32 word (w ++ rest) refl ∙ ap (λ vs. word ∷ vs) (goes_along (Outside 0) (Outside 0) w [] rest (h.0 0) ∙ behind_words ws w h.1)

-- words with a space between two are read apart
pub words_back : (ws : List (List ℕ)) → AllSome IsWord ws → words_of (spaced ws) ≡ ws
words_back [] h = absurd h
words_back (w ∷ ws) h = goes_along (Outside 0) (Outside 0) w [] (flat_map (λ v. 32 ∷ v) ws) (h.0 0) ∙ behind_words ws w h.1

-- ---- the words of a line

ordinary_letter : (c : ℕ) → is_lower_or_digit c ≡ true → ordinary c ≡ true
ordinary_letter c h =
    six c (differs c 10 is_lower_or_digit refl h) (differs c 32 is_lower_or_digit refl h) (differs c 34 is_lower_or_digit refl h) (differs c 39 is_lower_or_digit refl h) (differs c 91 is_lower_or_digit refl h)
    (differs c 93 is_lower_or_digit refl h)

ordinary_letters : (word : List ℕ) → list_all is_lower_or_digit word ≡ true → IsOrdinary word
ordinary_letters [] h = refl
ordinary_letters (c ∷ word) h = let t = both (is_lower_or_digit c) (list_all is_lower_or_digit word) h in both_true (ordinary c) (list_all ordinary word) (ordinary_letter c t.0) (ordinary_letters word t.1)

pub ordinary_names : (names : List (List ℕ)) → list_all is_vat_name names ≡ true → AllOf IsOrdinary names
ordinary_names [] h = tt
ordinary_names (x ∷ names) h = (ordinary_letters x (vat_letters (x ∷ names) 0 h), ordinary_names names (both (is_vat_name x) (list_all is_vat_name names) h).1)

-- what holds of each verb and of `_` holds of names of objects
object_is : (P : List ℕ → Type 0) → ((verb : List ℕ) → IsUtf8 verb → P (printed_verb verb)) → P (codes "_") → (word : List ℕ) → IsObjectName word → P word
object_is P verbs none word h = by (is_identifier word) (bytes_eq word (codes "_")) refl refl h.1
  where
    by : (a b : Bool) → is_identifier word ≡ a → bytes_eq word (codes "_") ≡ b → (a || b) ≡ true → P word
    by true b e f i = subst P (ap (λ t. cond t word (quoted word)) e) (verbs word h.0)
    by false true e f i = subst P (sym ((bytes_eq-Decides word (codes "_")).0 f)) none
    by false false e f i = cc

note_fits : (IsVat : ℕ → Type 0) (n : ShownNote) → IsNote IsVat n → NoteFits n
note_fits IsVat (Deliver m target verb args) h = h.2
note_fits IsVat (DeliverOnly m target verb args) h = h.2
note_fits IsVat other h = tt

pub fits_as : (P : List ℕ → Type 0) → ((verb : List ℕ) → IsUtf8 verb → P (printed_verb verb)) → P (codes "_") → (IsVat : ℕ → Type 0) (e : Event) → IsRead IsVat e → FitsAs P e
fits_as P verbs none IsVat (Carry k v w note) h = note_fits IsVat note h.3
fits_as P verbs none IsVat (Take t) h = h.3
fits_as P verbs none IsVat (Call c) h = h.2
fits_as P verbs none IsVat (Made o) h = object_is P verbs none o.name h.2
fits_as P verbs none IsVat (Send m) h = h.3
fits_as P verbs none IsVat (SendOnly m) h = h.3
fits_as P verbs none IsVat (LeftLink v w note) h = note_fits IsVat note h.2
fits_as P verbs none IsVat other h = tt

pub words_again : WordsAreReadAgain
words_again names e are h = words_back (words names e) (some_words names (ordinary_names names are.lawful) e (fits_as IsWord verb_word (ordinary_word (codes "_") refl) (Below names) e h))
