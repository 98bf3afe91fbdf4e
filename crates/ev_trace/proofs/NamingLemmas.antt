-- The names of vats, name by name and byte by byte.
use Rattle.std.proofs.Common.{◌&&◌, ◌||◌, ◌≡◌, ◌<◌, ◌≤◌, ◌+◌, ◌-◌, ◌++◌, ℕ, suc, Bool, true, false, eqb, List, [], ◌∷◌, length, length-drop, get_or, take, take_all, drop, refl, sym, ◌∙◌, ap, append_assoc, append-nil, inl, inr, arith}
use Rattle.std.specs.Char.{encode_utf8}
use Rattle.std.specs.List.{flat_map}
use Rattle.std.proofs.lemmas.Bool.Decides.{nat_tests}
use Rattle.std.proofs.lemmas.Str.{encode_ascii}
use Rattle.ev_script.specs.Vats.{is_lower_or_digit}
use Rattle.ev_script.proofs.EachLemmas.{next_item, nothing_behind}
use Rattle.ev_trace_words.specs.declared.words.Quote.{Quote}
use Rattle.ev_trace_words.specs.declared.words.Quote.TheVariants.{Outside}
use Rattle.ev_trace_words.specs.Words.{behind_quote, is_outside}
use Rattle.ev_trace_lines.specs.Events.{Words}
use Rattle.ev_trace.specs.Naming.{bare, ends_name, host_vats, name_then_vats, note_vats, only_if, pair_vats, scan, scanned, with_name, with_names}

pub with_names-append : (names xs ys : List (List ℕ)) → with_names names (xs ++ ys) ≡ with_names (with_names names xs) ys
unfolding with_names
with_names-append names [] ys = refl
with_names-append names (x ∷ xs) ys = with_names-append (with_name names x) xs ys

pub none : (names : List (List ℕ)) → with_names names [] ≡ names
unfolding with_names
none names = refl

pub one : (names : List (List ℕ)) (word : List ℕ) → with_names names (word ∷ []) ≡ with_name names word
unfolding with_names
one names word = refl

-- the names of one part, and then those of the next
pub both : (names middle end xs ys : List (List ℕ)) → middle ≡ with_names names xs → end ≡ with_names middle ys → end ≡ with_names names (xs ++ ys)
both names middle end xs ys m e = e ∙ ap (λ ns. with_names ns ys) m ∙ sym (with_names-append names xs ys)

-- ---- words one by one

pub next_word : {A : Type 0} (f : A → List (List ℕ)) (x : A) (names more whole : List (List ℕ)) (xs : List A) (i : ℕ) → i < length xs → x ≡ get_or xs i x
    → with_names names (flat_map f (drop i xs)) ≡ whole → more ≡ with_names names (f x) → with_names more (flat_map f (drop (i + 1) xs)) ≡ whole
next_word f x names more whole xs i lt is so_far e =
    ap (λ ns. with_names ns (flat_map f (drop (i + 1) xs))) e ∙ sym (with_names-append names (f x) (flat_map f (drop (i + 1) xs)))
    ∙ ap (λ ys. with_names names (flat_map f ys)) (sym (next_item x xs i lt is)) ∙ so_far

pub last_word : {A : Type 0} (f : A → List (List ℕ)) (names whole : List (List ℕ)) (xs : List A) (i : ℕ) → length xs ≤ i
    → with_names names (flat_map f (drop i xs)) ≡ whole → names ≡ whole
last_word f names whole xs i h so_far = sym (none names) ∙ ap (λ ys. with_names names (flat_map f ys)) (sym (nothing_behind xs i h)) ∙ so_far

-- ---- bytes one by one

run_on : (quote : Quote) (rooted provides : Bool) (run bs : List ℕ) (b : ℕ) → (is_outside quote && is_lower_or_digit b) ≡ true → scan quote rooted provides run (b ∷ bs) ≡ scan quote rooted provides (run ++ b ∷ []) bs
unfolding scan
run_on quote rooted provides run bs b e = rw e refl

run_ends : (quote : Quote) (rooted provides : Bool) (run bs : List ℕ) (b : ℕ) → (is_outside quote && is_lower_or_digit b) ≡ false
    → scan quote rooted provides run (b ∷ bs) ≡ only_if (is_outside quote && ends_name rooted provides b) run ++ scan (behind_quote quote b) (is_outside quote && eqb b 64) (is_outside quote && eqb b 94) [] bs
unfolding scan
run_ends quote rooted provides run bs b e = rw e refl

word_ends : (quote : Quote) (rooted provides : Bool) (run : List ℕ) → scan quote rooted provides run [] ≡ only_if rooted run
unfolding scan
word_ends quote rooted provides run = refl

right : (a b : Bool) → (a && b) ≡ true → b ≡ true
right true b e = e
right false b e = absurd cc

low : (b : ℕ) → is_lower_or_digit b ≡ true → b < 128
low b e = grind (arith, nat_tests)

-- a byte of a run
pub run_byte : (quote : Quote) (rooted provides : Bool) (run new : List ℕ) (b : ℕ) → (is_outside quote && is_lower_or_digit b) ≡ true → new ≡ run ++ encode_utf8 b → (names : List (List ℕ)) (bs : List ℕ)
    → with_names names (scan quote rooted provides new bs) ≡ with_names names (scan quote rooted provides run (b ∷ bs))
run_byte quote rooted provides run new b e wrote names bs =
    ap (λ r. with_names names (scan quote rooted provides r bs)) (wrote ∙ ap (λ c. run ++ c) (encode_ascii b (low b (right (is_outside quote) (is_lower_or_digit b) e))))
    ∙ ap (with_names names) (sym (run_on quote rooted provides run bs b e))

-- a byte that ends a run
pub end_byte : (quote next : Quote) (rooted provides roots gives is_name : Bool) (run fresh : List ℕ) (b : ℕ) (names more : List (List ℕ)) → (is_outside quote && is_lower_or_digit b) ≡ false
    → is_name ≡ (is_outside quote && ends_name rooted provides b) → more ≡ with_names names (only_if is_name run) → fresh ≡ [] → roots ≡ (is_outside quote && eqb b 64) → gives ≡ (is_outside quote && eqb b 94)
    → next ≡ behind_quote quote b → (bs : List ℕ) → with_names more (scan next roots gives fresh bs) ≡ with_names names (scan quote rooted provides run (b ∷ bs))
end_byte quote next rooted provides roots gives is_name run fresh b names more e named grown f a g n bs =
    rw (f, a, g, n) (ap (λ ns. with_names ns (scan (behind_quote quote b) (is_outside quote && eqb b 64) (is_outside quote && eqb b 94) [] bs)) (grown ∙ ap (λ k. with_names names (only_if k run)) named)
    ∙ sym (with_names-append names (only_if (is_outside quote && ends_name rooted provides b) run) (scan (behind_quote quote b) (is_outside quote && eqb b 64) (is_outside quote && eqb b 94) [] bs))
    ∙ ap (with_names names) (sym (run_ends quote rooted provides run bs b e)))

-- ---- a word, byte by byte

pub next_byte : (f : List ℕ → List (List ℕ)) (g : List ℕ → List (List ℕ)) (b : ℕ) (names more whole : List (List ℕ)) (word : List ℕ) (i : ℕ) → i < length word → b ≡ get_or word i b
    → ((bs : List ℕ) → with_names more (g bs) ≡ with_names names (f (b ∷ bs))) → with_names names (f (drop i word)) ≡ whole → with_names more (g (drop (i + 1) word)) ≡ whole
next_byte f g b names more whole word i lt is step so_far = step (drop (i + 1) word) ∙ ap (λ bs. with_names names (f bs)) (sym (next_item b word i lt is)) ∙ so_far

pub all_bytes : (quote : Quote) (rooted provides : Bool) (run word : List ℕ) (i : ℕ) (names more whole : List (List ℕ)) → length word ≤ i → more ≡ with_names names (only_if rooted run)
    → with_names names (scan quote rooted provides run (drop i word)) ≡ whole → more ≡ whole
all_bytes quote rooted provides run word i names more whole h grown so_far =
    grown ∙ ap (with_names names) (sym (word_ends quote rooted provides run) ∙ ap (scan quote rooted provides run) (sym (nothing_behind word i h))) ∙ so_far

-- the names of three parts
pub three : (names first second end xs ys zs : List (List ℕ)) → first ≡ with_names names xs → second ≡ with_names first ys → end ≡ with_names second zs → end ≡ with_names names (xs ++ (ys ++ zs))
three names first second end xs ys zs f s e = both names first end xs (ys ++ zs) f (both first second end ys zs s e)

-- ---- the parts of a line

whole_rest : {A : Type 0} (k : ℕ) (xs : List A) → take (length xs - k) (drop k xs) ≡ drop k xs
whole_rest k xs = take_all (length xs - k) (drop k xs) (omega (arith, length-drop k xs))

pub name_first : (names middle end words : List (List ℕ)) (x : List ℕ) → 1 ≤ length words → x ≡ get_or words 0 x → middle ≡ with_names names (scan Outside false false [] x) → end ≡ with_names middle (bare (take (length words - 1) (drop 1 words)))
    → end ≡ with_names names (name_then_vats words)
name_first names middle end [] x h is m e = absurd (omega arith)
name_first names middle end (w ∷ words) x h is m e =
    both names middle end (scan Outside false false [] w) (bare words) (m ∙ ap (λ y. with_names names (scan Outside false false [] y)) is)
    (e ∙ ap (λ r. with_names middle (bare r)) (whole_rest 1 (w ∷ words)))

pub host_first : (names middle end words : List (List ℕ)) (x : List ℕ) → 1 ≤ length words → x ≡ get_or words 0 x → middle ≡ with_names names (scan Outside true false [] x) → end ≡ with_names middle (scanned (take (length words - 1) (drop 1 words)))
    → end ≡ with_names names (host_vats words)
host_first names middle end [] x h is m e = absurd (omega arith)
host_first names middle end (w ∷ words) x h is m e =
    both names middle end (scan Outside true false [] w) (scanned words) (m ∙ ap (λ y. with_names names (scan Outside true false [] y)) is)
    (e ∙ ap (λ r. with_names middle (scanned r)) (whole_rest 1 (w ∷ words)))

pub pair_first : (names one two end words : List (List ℕ)) (x y : List ℕ) → 2 ≤ length words → x ≡ get_or words 0 x → y ≡ get_or words 1 y → one ≡ with_names names (scan Outside true false [] x) → two ≡ with_names one (scan Outside true false [] y)
    → end ≡ with_names two (note_vats (take (length words - 2) (drop 2 words))) → end ≡ with_names names (pair_vats words)
pair_first names one two end [] x y h is its m n e = absurd (omega arith)
pair_first names one two end (v ∷ []) x y h is its m n e = absurd (omega arith)
pair_first names one two end (v ∷ w ∷ words) x y h is its m n e =
    three names one two end (scan Outside true false [] v) (scan Outside true false [] w) (note_vats words) (m ∙ ap (λ z. with_names names (scan Outside true false [] z)) is)
    (n ∙ ap (λ z. with_names one (scan Outside true false [] z)) its) (e ∙ ap (λ r. with_names two (note_vats r)) (whole_rest 2 (v ∷ w ∷ words)))
