-- Each word of a line is UTF-8, and no name is found in it but those of vats.
use Rattle.std.proofs.Common.{◌≡◌, ◌++◌, ◌+◌, ◌-◌, ◌<◌, ◌&&◌, ℕ, ℤ, pos, negsuc, zero, suc, Bool as Bools, true, false, cond, eqb, leb, ltb, List, [], ◌∷◌, inl, inr, length, refl, sym, ◌∙◌, ap, subst, append_assoc, arith}
use Rattle.std.specs.Prelude.{chars, codes, decimal, slice_get, take, unwrap_or}
use Rattle.std.specs.List.{flat_map, list_all}
use Rattle.std.specs.Char.{encode_utf8}
use Rattle.std.specs.Fmt.{signed_decimal}
use Rattle.std.specs.Str.{IsUtf8, encode_utf8_all}
use Rattle.std.proofs.lemmas.Bool.{le-leb}
use Rattle.std.proofs.lemmas.Bool.Decides.{nat_tests}
use Rattle.std.proofs.lemmas.List.Folds.{list_all-append}
use Rattle.std.proofs.lemmas.Str.{IsUtf8-append, IsUtf8-nil, encodes-chars}
use Rattle.ev_base.specs.SafeScope.{primitives}
use Rattle.ev_base.specs.declared.names.Msg.{Msg}
use Rattle.ev_base.specs.declared.names.Name.{Name}
use Rattle.ev_base.specs.declared.names.Name.TheVariants.{Object, Own, Answer, Gift, Root, Claimed}
use Rattle.def_text.specs.Quoting.{quoted, quoted_character, shortened, shown_length}
use Rattle.def_text.specs.Keywords.{begins_identifier, continues_identifier, has_identifier_form, is_identifier, printed_verb}
use Rattle.def_event.specs.declared.shown.Shown.{Shown, Null, Bool, Int, Char, Text, Broken, Prim, List as ListOf, Slot, Name as Named, Members', Row_of-Shown, end_of-Shown, more_of-Shown}
use Rattle.def_event.specs.Lines.{hex, low_first, member_values, primitive_name, spaced, vat}
use Rattle.def_event.specs.Lines as lines
use Rattle.ev_script.specs.Vats.{is_lower_or_digit}
use Rattle.law_text.specs.Text.Feeds.{AllOf}
use Rattle.law_text.proofs.Text.Front.{both_true}
use Rattle.law_text.proofs.Text.Quotes.{encoded}
use Rattle.law_text.proofs.Text.Valued.{decimal_passes}
use Rattle.ev_trace_words.specs.Laws.{AreNames}
use Rattle.ev_trace_words.specs.declared.words.Quote.TheVariants.{Outside}
use Rattle.ev_trace_words.specs.Words.{behind_quote}
use Rattle.ev_trace_words.proofs.Printed.{key_letters, vat_letters}
use Rattle.ev_trace.specs.Naming.{is_mark, only_if, scan}
use Rattle.law_trace.specs.Trace.Found.{Stands}
use Rattle.law_trace.specs.Trace.Readable.{AreMembers, Below, IsMessage, IsName, IsPassed, IsSimple, IsValue}
use Rattle.law_trace.proofs.Trace.ValuesAgain.{both}
use Rattle.law_trace.proofs.Trace.ScanLemmas.{ends_on, other_on, run_on, runs_on}
use Rattle.law_read.proofs.ReadTexts.Quiet.{In, Stops, character_word, is_quiet, numbering, quiet_by, quiet_word, quoted_word, rooted}
use Rattle.law_read.proofs.ReadTexts.Utf8.{ascii, decimal_low, is_low, quoted_character_utf8, shortened_utf8, verb_utf8}

-- ---- bytes without marks

pub weaker : (p q : ℕ → Bools) → ((b : ℕ) → p b ≡ true → q b ≡ true) → (w : List ℕ) → list_all p w ≡ true → list_all q w ≡ true
weaker p q f [] h = refl
weaker p q f (b ∷ w) h = let t = both (p b) (list_all p w) h in both_true (q b) (list_all q w) (f b t.0) (weaker p q f w t.1)

pub letter_low : (b : ℕ) → is_lower_or_digit b ≡ true → is_low b ≡ true
letter_low b h = grind (arith, nat_tests)

digit_letter : (d : ℕ) → d < 10 → is_lower_or_digit (48 + d) ≡ true
digit_letter d h = grind (arith, nat_tests)

decimal_letters : (n : ℕ) → list_all is_lower_or_digit (decimal n) ≡ true
decimal_letters n = decimal_passes is_lower_or_digit digit_letter n

decimal_quiet : (n : ℕ) → list_all is_quiet (decimal n) ≡ true
decimal_quiet n = decimal_passes is_quiet (λ d h. quiet_by is_lower_or_digit (48 + d) refl (digit_letter d h)) n

wide_quiet : (b : ℕ) → 127 < b → is_quiet b ≡ true
wide_quiet b h = quiet_by (λ c. leb 128 c) b refl (le-leb 128 b (omega arith))

-- ---- identifiers and primitives

encoded_quiet : (p : ℕ → Bools) → ((b : ℕ) → p b ≡ true → is_quiet b ≡ true) → (c : ℕ) → p c ≡ true → list_all is_quiet (encode_utf8 c) ≡ true
encoded_quiet p f c h = encoded (λ bs. list_all is_quiet bs ≡ true) refl (λ b bs l k. both_true (is_quiet b) (list_all is_quiet bs) (wide_quiet b l) k) c (λ low. both_true (is_quiet c) true (f c h) refl)

joined_quiet : (xs ys : List ℕ) → list_all is_quiet xs ≡ true → list_all is_quiet ys ≡ true → list_all is_quiet (xs ++ ys) ≡ true
joined_quiet xs ys h k = list_all-append is_quiet xs ys ∙ both_true (list_all is_quiet xs) (list_all is_quiet ys) h k

rest_quiet : (cs : List ℕ) → list_all continues_identifier cs ≡ true → list_all is_quiet (encode_utf8_all cs) ≡ true
rest_quiet [] h = refl
rest_quiet (c ∷ cs) h =
    let t = both (continues_identifier c) (list_all continues_identifier cs) h in
    joined_quiet (encode_utf8 c) (encode_utf8_all cs) (encoded_quiet continues_identifier (λ b e. quiet_by continues_identifier b refl e) c t.0) (rest_quiet cs t.1)

form_quiet : (cs : List ℕ) → has_identifier_form cs ≡ true → list_all is_quiet (encode_utf8_all cs) ≡ true
form_quiet [] h = absurd cc
form_quiet (c ∷ cs) h =
    let t = both (begins_identifier c) (list_all continues_identifier cs) h in
    joined_quiet (encode_utf8 c) (encode_utf8_all cs) (encoded_quiet begins_identifier (λ b e. quiet_by begins_identifier b refl e) c t.0) (rest_quiet cs t.1)

first_of_three : (a b c : Bools) → (a && b && c) ≡ true → a ≡ true
first_of_three true b c h = refl
first_of_three false b c h = absurd cc

identifier_quiet : (word : List ℕ) → IsUtf8 word → is_identifier word ≡ true → list_all is_quiet word ≡ true
identifier_quiet word u h = subst (λ w. list_all is_quiet w ≡ true) (encodes-chars word u) (form_quiet (chars word) (first_of_three (has_identifier_form (chars word)) _ _ h))

word_at : (p : ℕ → Bools) (ws : List (List ℕ)) (n : ℕ) → list_all (λ w. list_all p w) ws ≡ true → list_all p (unwrap_or (slice_get ws n) []) ≡ true
word_at p [] n h = refl
word_at p (w ∷ ws) zero h = (both (list_all p w) (list_all (λ v. list_all p v) ws) h).0
word_at p (w ∷ ws) (suc n) h = word_at p ws n (both (list_all p w) (list_all (λ v. list_all p v) ws) h).1

pick_all : (p : ℕ → Bools) (t : Bools) (xs ys : List ℕ) → list_all p xs ≡ true → list_all p ys ≡ true → list_all p (cond t xs ys) ≡ true
pick_all p true xs ys h k = h
pick_all p false xs ys h k = k

-- what all bytes of names of primitives pass, and of `nullOk:`
primitive_all : (p : ℕ → Bools) → list_all (λ w. list_all p w) primitives ≡ true → list_all p (codes "nullOk:") ≡ true → p 60 ≡ true → p 62 ≡ true → (n : ℕ) → list_all p (60 ∷ (primitive_name n ++ 62 ∷ [])) ≡ true
primitive_all p h k less more n =
    let guard = unwrap_or (slice_get primitives (n - 32)) [] in
    let both_parts = list_all-append p (codes "nullOk:") guard ∙ both_true (list_all p (codes "nullOk:")) (list_all p guard) k (word_at p primitives (n - 32) h) in
    let named = pick_all p (ltb n 32) (unwrap_or (slice_get primitives n) []) (codes "nullOk:" ++ guard) (word_at p primitives n h) both_parts in
    both_true (p 60) (list_all p (primitive_name n ++ 62 ∷ [])) less (list_all-append p (primitive_name n) (62 ∷ []) ∙ both_true (list_all p (primitive_name n)) (p 62 && true) named (both_true (p 62) true more refl))

-- ---- texts

short_stops : (t : Bools) (text other : List ℕ) (n : ℕ) (tail : List ℕ) → Stops (cond t (quoted text) (quoted other ++ 43 ∷ decimal n) ++ tail)
short_stops true text other n tail = (refl, refl, refl)
short_stops false text other n tail = (refl, refl, refl)

short_word : (t : Bools) (text other : List ℕ) (n : ℕ) (tail : List ℕ) → Stops tail → In (cond t (quoted text) (quoted other ++ 43 ∷ decimal n) ++ tail) ≡ In tail
short_word true text other n tail e = quoted_word text tail
short_word false text other n tail e = ap In (append_assoc (quoted other) (43 ∷ decimal n) tail) ∙ quoted_word other (43 ∷ (decimal n ++ tail)) ∙ quiet_word (43 ∷ decimal n) tail (decimal_quiet n) e

text_word : (text tail : List ℕ) → Stops tail → In (shortened text ++ tail) ≡ In tail
text_word text tail e = short_word (leb (length (chars text)) shown_length) text (encode_utf8_all (take shown_length (chars text))) (length (chars text) - shown_length) tail e

problem_word : (text tail : List ℕ) → Stops tail → In ((codes "broken:" ++ shortened text) ++ tail) ≡ In tail
problem_word text tail e =
    ap In (append_assoc (codes "broken:") (shortened text) tail) ∙ quiet_word (codes "broken:") (shortened text ++ tail) refl (short_stops (leb (length (chars text)) shown_length) text (encode_utf8_all (take shown_length (chars text))) (length (chars text) - shown_length) tail) ∙ text_word text tail e

-- ---- words

-- a mark behind the name of a vat
record IsMark (mark : ℕ) : Type 0 where
  other : is_lower_or_digit mark ≡ false
  behind_name : is_mark mark ≡ true
  stays : behind_quote Outside mark ≡ Outside
  no_root : eqb mark 64 ≡ false
  no_gift : eqb mark 94 ≡ false
  low : is_low mark ≡ true

pub stands : (names : List (List ℕ)) (v : ℕ) → v < length names → Stands (vat names v) names
stands [] v h = absurd (omega arith)
stands (x ∷ names) zero h = inl refl
stands (x ∷ names) (suc v) h = inr (stands names v (omega arith))

module _ (names : List (List ℕ)) (are : AreNames names) where
  -- these are names of vats
  abbrev pub AreVats : List (List ℕ) → Type 0
  AreVats ns = AllOf (λ n. Stands n names) ns

  -- it is UTF-8, and no name is found in it but those of vats
  abbrev pub Tells : List ℕ → Type 0
  Tells w = IsUtf8 w × ((tail : List ℕ) → Stops tail → AreVats (In tail) → AreVats (In (w ++ tail)))

  -- a word in which nothing is found
  silent : (w : List ℕ) → IsUtf8 w → ((tail : List ℕ) → Stops tail → In (w ++ tail) ≡ In tail) → Tells w
  silent w u f = (u, λ tail e h. subst AreVats (sym (f tail e)) h)

  pub fixed : (w : List ℕ) → list_all is_low w ≡ true → list_all is_quiet w ≡ true → Tells w
  fixed w h k = silent w (ascii w h) (λ tail e. quiet_word w tail k e)

  pub number : (n : ℕ) → Tells (decimal n)
  number n = fixed (decimal n) (decimal_low n) (decimal_quiet n)

  pub activation : (n : ℕ) → Tells (lines.activation n)
  activation n = fixed (lines.activation n) (decimal_low n) (decimal_quiet n)

  letters : (v : ℕ) → list_all is_lower_or_digit (vat names v) ≡ true
  letters v = vat_letters names v are.lawful

  vat_utf8 : (v : ℕ) → IsUtf8 (vat names v)
  vat_utf8 v = ascii (vat names v) (weaker is_lower_or_digit is_low letter_low (vat names v) (letters v))

  pub vat_word : (v : ℕ) → Tells (vat names v)
  vat_word v = silent (vat names v) (vat_utf8 v) (λ tail e. quiet_word (vat names v) tail (weaker is_lower_or_digit is_quiet (λ b h. quiet_by is_lower_or_digit b refl h) (vat names v) (letters v)) e)

  -- a name of a vat in front of a mark
  marked : (v mark : ℕ) (rest : List ℕ) → IsMark mark → In (vat names v ++ mark ∷ rest) ≡ vat names v ∷ In rest
  marked v mark rest m =
      run_on false [] (vat names v) (mark ∷ rest) (letters v) ∙ other_on Outside false (vat names v) mark rest m.other
      ∙ ap (λ t. only_if t (vat names v) ++ scan (behind_quote Outside mark) (eqb mark 64) (eqb mark 94) [] rest) m.behind_name ∙ ap (λ q. vat names v ∷ scan q (eqb mark 64) (eqb mark 94) [] rest) m.stays
      ∙ ap (λ t. vat names v ∷ scan Outside t (eqb mark 94) [] rest) m.no_root ∙ ap (λ t. vat names v ∷ scan Outside false t [] rest) m.no_gift

  thing : (v mark n : ℕ) → IsMark mark → v < length names → Tells (lines.numbered names v mark n)
  thing v mark n m h = (
    IsUtf8-append (vat names v) (mark ∷ decimal n) (vat_utf8 v) (ascii (mark ∷ decimal n) (both_true (is_low mark) (list_all is_low (decimal n)) m.low (decimal_low n))),
    λ tail e k. subst AreVats (sym (ap In (append_assoc (vat names v) (mark ∷ decimal n) tail) ∙ marked v mark (decimal n ++ tail) m ∙ ap (λ ns. vat names v ∷ ns) (quiet_word (decimal n) tail (decimal_quiet n) e))) (stands names v h, k),
  )

  pub list_word : (v n : ℕ) → v < length names → Tells (lines.numbered names v 37 n)
  list_word v n h = thing v 37 n (record { other = refl; behind_name = refl; stays = refl; no_root = refl; no_gift = refl; low = refl }) h

  pub slot_word : (v n : ℕ) → v < length names → Tells (lines.numbered names v 38 n)
  slot_word v n h = thing v 38 n (record { other = refl; behind_name = refl; stays = refl; no_root = refl; no_gift = refl; low = refl }) h

  pub message : (m : Msg) → IsMessage (Below names) m → Tells (lines.message names m)
  message m h = thing m.sender 47 m.number (record { other = refl; behind_name = refl; stays = refl; no_root = refl; no_gift = refl; low = refl }) h.0

  answer : (host : ℕ) (m : Msg) → host < length names → IsMessage (Below names) m → Tells (lines.name names (Answer host m))
  answer host m h k =
      let rest = lines.message names m in let t = message m k in (
        IsUtf8-append (vat names host) (63 ∷ rest) (vat_utf8 host) (IsUtf8-append (63 ∷ []) rest (ascii (63 ∷ []) refl) t.0),
        λ tail e i. subst AreVats (sym (ap In (append_assoc (vat names host) (63 ∷ rest) tail) ∙ marked host 63 (rest ++ tail) (record { other = refl; behind_name = refl; stays = refl; no_root = refl; no_gift = refl; low = refl }))) (stands names host h, t.1 tail e i),
      )

  root : (v : ℕ) → v < length names → Tells (lines.name names (Root v))
  root v h = (
    IsUtf8-append (64 ∷ []) (vat names v) (ascii (64 ∷ []) refl) (vat_utf8 v),
    λ tail e k. subst AreVats (sym (other_on Outside false [] 64 (vat names v ++ tail) refl ∙ run_on true [] (vat names v) tail (letters v) ∙ rooted (vat names v) tail e)) (stands names v h, k),
  )

  -- the host of a gift
  hosts : (v : ℕ) (rest : List ℕ) → In (vat names v ++ 94 ∷ rest) ≡ vat names v ∷ scan Outside false true [] rest
  hosts v rest = run_on false [] (vat names v) (94 ∷ rest) (letters v) ∙ other_on Outside false (vat names v) 94 rest refl

  gift : (host i : ℕ) → host < length names → Tells (lines.name names (Gift host i))
  gift host i h = (
    IsUtf8-append (vat names host) (94 ∷ decimal i) (vat_utf8 host) (ascii (94 ∷ decimal i) (decimal_low i)),
    λ tail e k. subst AreVats (sym (ap In (append_assoc (vat names host) (94 ∷ decimal i) tail) ∙ hosts host (decimal i ++ tail)
        ∙ ap (λ ns. vat names host ∷ ns) (runs_on false true [] (decimal i) tail (decimal_letters i) ∙ numbering (decimal i) tail e))) (stands names host h, k),
  )

  claimed : (host p word : ℕ) → host < length names → p < length names → Tells (lines.name names (Claimed host p word))
  claimed host p word h k =
      let digits = hex (low_first 16 word) in
      let rest = vat names p ++ 58 ∷ digits in
      let low = weaker is_lower_or_digit is_low letter_low digits (key_letters word) in
      let quiet = weaker is_lower_or_digit is_quiet (λ b i. quiet_by is_lower_or_digit b refl i) digits (key_letters word) in (
        IsUtf8-append (vat names host) (94 ∷ rest) (vat_utf8 host)
            (IsUtf8-append (94 ∷ []) rest (ascii (94 ∷ []) refl) (IsUtf8-append (vat names p) (58 ∷ digits) (vat_utf8 p) (ascii (58 ∷ digits) low))),
        λ tail e i. subst AreVats (sym (ap In (append_assoc (vat names host) (94 ∷ rest) tail) ∙ hosts host (rest ++ tail)
            ∙ ap (λ r. vat names host ∷ scan Outside false true [] r) (append_assoc (vat names p) (58 ∷ digits) tail)
            ∙ ap (λ ns. vat names host ∷ ns) (runs_on false true [] (vat names p) (58 ∷ (digits ++ tail)) (letters p) ∙ ends_on Outside false true (vat names p) 58 (digits ++ tail) refl)
            ∙ ap (λ ns. vat names host ∷ vat names p ∷ ns) (quiet_word digits tail quiet e))) (stands names host h, (stands names p k, i)),
      )

  pub name : (x : Name) → IsName (Below names) x → Tells (lines.name names x)
  name (Object v n) h = thing v 46 n (record { other = refl; behind_name = refl; stays = refl; no_root = refl; no_gift = refl; low = refl }) h.0
  name (Own v n) h = thing v 126 n (record { other = refl; behind_name = refl; stays = refl; no_root = refl; no_gift = refl; low = refl }) h.0
  name (Gift host i) h = gift host i h.0
  name (Answer host m) h = answer host m h.0 h.1
  name (Root v) h = root v h
  name (Claimed host p word) h = claimed host p word h.0 h.1

  integer : (z : ℤ) → Tells (signed_decimal z)
  integer (pos n) = number n
  integer (negsuc n) = fixed (45 ∷ decimal (suc n)) (decimal_low (suc n)) (decimal_quiet (suc n))

  pub verb : (q : List ℕ) → IsUtf8 q → Tells (printed_verb q)
  verb q u = silent (printed_verb q) (verb_utf8 q u) (λ tail e. by (is_identifier q) refl tail e)
    where
      by : (t : Bools) → is_identifier q ≡ t → (tail : List ℕ) → Stops tail → In (cond t q (quoted q) ++ tail) ≡ In tail
      by true s tail e = quiet_word q tail (identifier_quiet q u s) e
      by false s tail e = quoted_word q tail

  -- ---- values

  simple : (x : Shown) → IsSimple (Below names) x → Tells (lines.value names x)
  simple Null h = fixed (codes "null") refl refl
  simple (Bool true) h = fixed (codes "true") refl refl
  simple (Bool false) h = fixed (codes "false") refl refl
  simple (Int z) h = integer z
  simple (Char c) h = silent (quoted_character c) (quoted_character_utf8 c h) (λ tail e. character_word c tail)
  simple (Text text) h = silent (shortened text) (shortened_utf8 text h.0) (text_word text)
  simple (Broken text) h = silent (codes "broken:" ++ shortened text) (IsUtf8-append (codes "broken:") (shortened text) (ascii (codes "broken:") refl) (shortened_utf8 text h.0)) (problem_word text)
  simple (Prim n) h = fixed (60 ∷ (primitive_name n ++ 62 ∷ [])) (primitive_all is_low refl refl refl refl n) (primitive_all is_quiet refl refl refl refl n)
  simple (Named x) h = name x h
  simple other h = absurd h

  pub value : (x : Shown) → IsValue (Below names) x → Tells (lines.value names x)
  value (ListOf v n) h = list_word v n h.0
  value (Slot v n) h = slot_word v n h.0
  value (Members' shape row) h = absurd h
  value Null h = simple Null h
  value (Bool b) h = simple (Bool b) h
  value (Int z) h = simple (Int z) h
  value (Char c) h = simple (Char c) h
  value (Text text) h = simple (Text text) h
  value (Broken text) h = simple (Broken text) h
  value (Prim n) h = simple (Prim n) h
  value (Named x) h = simple (Named x) h

  -- ---- lists in notes

  abbrev Behind : List (List ℕ) → List ℕ
  Behind ws = flat_map (λ v. 32 ∷ v) ws

  behind_utf8 : (ws : List (List ℕ)) → AllOf Tells ws → IsUtf8 (Behind ws)
  behind_utf8 [] h = IsUtf8-nil
  behind_utf8 (w ∷ ws) h = IsUtf8-append (32 ∷ w) (Behind ws) (IsUtf8-append (32 ∷ []) w (ascii (32 ∷ []) refl) h.0.0) (behind_utf8 ws h.1)

  pub spaced_utf8 : (ws : List (List ℕ)) → AllOf Tells ws → IsUtf8 (spaced ws)
  spaced_utf8 [] h = IsUtf8-nil
  spaced_utf8 (w ∷ ws) h = IsUtf8-append w (Behind ws) h.0.0 (behind_utf8 ws h.1)

  behind_stops : (ws : List (List ℕ)) (tail : List ℕ) → Stops (Behind ws ++ 93 ∷ tail)
  behind_stops [] tail = (refl, refl, refl)
  behind_stops (w ∷ ws) tail = (refl, refl, refl)

  behind_vats : (ws : List (List ℕ)) (tail : List ℕ) → AllOf Tells ws → AreVats (In (93 ∷ tail)) → AreVats (In (Behind ws ++ 93 ∷ tail))
  behind_vats [] tail h k = k
  behind_vats (w ∷ ws) tail h k =
      let more = Behind ws ++ 93 ∷ tail in
      subst AreVats (sym (ap In (append_assoc (32 ∷ w) (Behind ws) (93 ∷ tail)) ∙ other_on Outside false [] 32 (w ++ more) refl)) (h.0.1 more (behind_stops ws tail) (behind_vats ws tail h.1 k))

  spaced_vats : (ws : List (List ℕ)) (tail : List ℕ) → AllOf Tells ws → AreVats (In (93 ∷ tail)) → AreVats (In (spaced ws ++ 93 ∷ tail))
  spaced_vats [] tail h k = k
  spaced_vats (w ∷ ws) tail h k =
      subst AreVats (sym (ap In (append_assoc w (Behind ws) (93 ∷ tail)))) (h.0.1 (Behind ws ++ 93 ∷ tail) (behind_stops ws tail) (behind_vats ws tail h.1 k))

  members : (ws : List (List ℕ)) → AllOf Tells ws → Tells (91 ∷ (spaced ws ++ 93 ∷ []))
  members ws h = (
    IsUtf8-append (91 ∷ []) (spaced ws ++ 93 ∷ []) (ascii (91 ∷ []) refl) (IsUtf8-append (spaced ws) (93 ∷ []) (spaced_utf8 ws h) (ascii (93 ∷ []) refl)),
    λ tail e k. subst AreVats (sym (other_on Outside false [] 91 ((spaced ws ++ 93 ∷ []) ++ tail) refl ∙ ap In (append_assoc (spaced ws) (93 ∷ []) tail)))
        (spaced_vats ws tail h (subst AreVats (sym (other_on Outside false [] 93 tail refl)) k)),
  )

  mutual
    pub passed : (height : ℕ) (x : Shown) → IsPassed (Below names) height x → Tells (lines.value names x)
    passed height (Members' shape row) h = members (member_values names row) (passed_row height row h)
    passed height Null h = simple Null h
    passed height (Bool b) h = simple (Bool b) h
    passed height (Int z) h = simple (Int z) h
    passed height (Char c) h = simple (Char c) h
    passed height (Text text) h = simple (Text text) h
    passed height (Broken text) h = simple (Broken text) h
    passed height (Prim n) h = simple (Prim n) h
    passed height (Named x) h = simple (Named x) h
    passed height other h = absurd h

    passed_row : {n : _} (height : ℕ) (row : Row_of-Shown n) → AreMembers (Below names) height row → AllOf Tells (member_values names row)
    passed_row zero end_of-Shown h = absurd h
    passed_row zero (more_of-Shown x rest) h = absurd h
    passed_row (suc height) end_of-Shown h = tt
    passed_row (suc height) (more_of-Shown x rest) h = (passed height x h.0, passed_row (suc height) rest h.1)
