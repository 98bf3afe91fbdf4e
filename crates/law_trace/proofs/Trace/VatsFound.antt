-- Each vat of an event is found in its line.
use Rattle.std.proofs.Common.{◌≡◌, ◌<◌, ◌++◌, ◌^◌, ℕ, zero, suc, Bool as Bools, true, false, cond, List, [], ◌∷◌, length, map, refl, sym, ◌∙◌, ap, subst, append_assoc, arith}
use Rattle.std.specs.Prelude.{codes, decimal, is_some}
use Rattle.std.specs.List.{flat_map}
use Rattle.std.specs.Str.{bytes_eq}
use Rattle.std.proofs.lemmas.List.{append-nil}
use Rattle.ev_base.specs.declared.names.Msg.{Msg}
use Rattle.ev_base.specs.declared.names.Name.{Name}
use Rattle.ev_base.specs.declared.names.Name.TheVariants.{Object, Own, Answer, Gift, Root, Claimed}
use Rattle.def_text.specs.Keywords.{printed_verb}
use Rattle.def_event.specs.declared.shown.Shown.{Shown, List as ListOf, Slot, Name as Named, Members', Row_of-Shown, end_of-Shown, more_of-Shown}
use Rattle.def_event.specs.declared.note.ShownNote.{ShownNote}
use Rattle.def_event.specs.declared.note.ShownNote.TheVariants.{Deliver, DeliverOnly, Settled, Elsewhere, Open as Opens, Ask, Shorten}
use Rattle.def_event.specs.declared.event.Event.{Event}
use Rattle.def_event.specs.declared.event.Event.TheVariants.{Open, Turn, Carry, Cut, Notice, Frame, Take, Call, Back, Thrown, Got, Slot as SlotMade, Read, Wrote, List as ListMade, Arrived, Ejector, Audition, Promise, Made, Send, SendOnly, When, Done, Threw, Settle, Wait, View, LostCut, LostBroken, LeftQueue, LeftHeld, LeftWait, LeftLink, Raw}
use Rattle.def_event.specs.declared.raw.RawLine.{RawLine}
use Rattle.def_event.specs.declared.raw.RawLine.TheVariants.{Inject, InjectCut, Malformed, Bytes, LeftBytes}
use Rattle.def_event.specs.Lines.{begun_words, hex, low_first, member_values, note_words, part, raw_words, spaced, vat, words}
use Rattle.def_event.specs.Lines as lines
use Rattle.ev_script.specs.Vats.{is_lower_or_digit}
use Rattle.law_text.specs.Text.Feeds.{AllOf}
use Rattle.law_text.specs.Text.Words.{IsWord}
use Rattle.law_text.proofs.Text.Told.{member_words}
use Rattle.ev_trace_words.specs.Laws.{AreNames}
use Rattle.ev_trace_words.specs.Parts.{count}
use Rattle.ev_trace_words.specs.declared.words.Quote.TheVariants as quote
use Rattle.ev_trace_words.proofs.Printed.{count_again, vat_letters}
use Rattle.ev_trace_lines.specs.Events.{Words}
use Rattle.ev_trace.specs.Naming.{bare, entry_vats, is_mark, left_vats, line_vats, note_vats, pair_vats, scan, scanned}
use Rattle.law_trace.specs.Trace.Found.{Stands, VatsAreFound}
use Rattle.law_trace.specs.Trace.Readable.{AreMembers, AreValues, Below, IsMessage, IsName, IsNote, IsPassed, IsRawRead, IsRead, IsThing, IsValue}
use Rattle.law_trace.proofs.Trace.ScanLemmas.{Ends, bare_in, behind_in, in_left, in_right, later_in, mark_in, other_on, provider_in, root_in}
use Rattle.law_trace.proofs.Trace.IntegersAgain.{digits_alone, no_mark, not_word}
use Rattle.law_trace.proofs.Trace.ValuesAgain.{starts}
use Rattle.law_trace.proofs.Trace.WordsAgain.{ordinary_names}

module _ (names : List (List ℕ)) (are : AreNames names) (Q : ℕ → Type 0) where
  -- each vat whose name is one of these is as asked
  abbrev Finds : List (List ℕ) → Type 0
  Finds ns = (v : ℕ) → v < length names → Stands (vat names v) ns → Q v

  -- what is found in a word
  abbrev In : List ℕ → List (List ℕ)
  In word = scan quote.Outside false false [] word

  first : (xs ys : List (List ℕ)) → Finds (xs ++ ys) → Finds xs
  first xs ys f v l i = f v l (in_left (vat names v) xs ys i)

  rest_of : (xs ys : List (List ℕ)) → Finds (xs ++ ys) → Finds ys
  rest_of xs ys f v l i = f v l (in_right (vat names v) xs ys i)

  thing : (v mark n : ℕ) (tail : List ℕ) → is_lower_or_digit mark ≡ false → is_mark mark ≡ true → IsThing (Below names) v n → Finds (In (lines.numbered names v mark n ++ tail)) → IsThing Q v n
  thing v mark n tail e m h f = (f v h.0 (subst (λ w. Stands (vat names v) (In w)) (sym (append_assoc (vat names v) (mark ∷ decimal n) tail)) (mark_in (vat names v) (decimal n ++ tail) mark (vat_letters names v are.lawful) e m)), h.1)

  message_in : (m : Msg) (tail : List ℕ) → IsMessage (Below names) m → Finds (In (lines.message names m ++ tail)) → IsMessage Q m
  message_in m tail h f = thing m.sender 47 m.number tail refl refl h f

  name_in : (x : Name) (tail : List ℕ) → Ends tail → IsName (Below names) x → Finds (In (lines.name names x ++ tail)) → IsName Q x
  name_in (Object v n) tail e h f = thing v 46 n tail refl refl h f
  name_in (Own v n) tail e h f = thing v 126 n tail refl refl h f
  name_in (Gift host i) tail e h f = thing host 94 i tail refl refl h f
  name_in (Claimed host p word) tail e h f =
      let digits = hex (low_first 16 word) in
      let one = append_assoc (vat names host) (94 ∷ (vat names p ++ 58 ∷ digits)) tail in
      let two = ap (λ r. vat names host ++ 94 ∷ r) (append_assoc (vat names p) (58 ∷ digits) tail) in
      let g : Finds (In (vat names host ++ 94 ∷ (vat names p ++ 58 ∷ (digits ++ tail)))) = λ v l i. f v l (subst (λ w. Stands (vat names v) (In w)) (sym (one ∙ two)) i) in (
        g host h.0 (mark_in (vat names host) (vat names p ++ 58 ∷ (digits ++ tail)) 94 (vat_letters names host are.lawful) refl refl),
        g p h.1 (provider_in (vat names p) (vat names host) (digits ++ tail) (vat_letters names host are.lawful) (vat_letters names p are.lawful)),
        h.2,
      )
  name_in (Root v) tail e h f = f v h (root_in (vat names v) tail (vat_letters names v are.lawful) e)
  name_in (Answer host m) tail e h f =
      let same = append_assoc (vat names host) (63 ∷ lines.message names m) tail in
      let g : Finds (In (vat names host ++ 63 ∷ (lines.message names m ++ tail))) = λ v l i. f v l (subst (λ w. Stands (vat names v) (In w)) (sym same) i) in (
        g host h.0 (mark_in (vat names host) (lines.message names m ++ tail) 63 (vat_letters names host are.lawful) refl refl),
        message_in m tail h.1 (λ v l i. g v l (behind_in (vat names v) (vat names host) (lines.message names m ++ tail) (vat_letters names host are.lawful) i)),
      )

  value_in : (x : Shown) (tail : List ℕ) → Ends tail → IsValue (Below names) x → Finds (In (lines.value names x ++ tail)) → IsValue Q x
  value_in (ListOf v n) tail e h f = thing v 37 n tail refl refl h f
  value_in (Slot v n) tail e h f = thing v 38 n tail refl refl h f
  value_in (Named x) tail e h f = name_in x tail e h f
  value_in (Members' shape row) tail e h f = absurd h
  value_in other tail e h f = h

  -- ---- lists in notes

  row_words : {n : _} (row : Row_of-Shown n) → AllOf IsWord (member_values names row)
  row_words row = member_words names (ordinary_names names are.lawful) row

  -- words with spaces in front of them, and what stands behind
  abbrev behind_words : List (List ℕ) → List ℕ → List ℕ
  behind_words ws tail = flat_map (λ v. 32 ∷ v) ws ++ tail

  ends_so : (ws : List (List ℕ)) (tail : List ℕ) → Ends tail → Ends (behind_words ws tail)
  ends_so [] tail e = e
  ends_so (w ∷ ws) tail e = refl

  -- the word behind another and a space
  next_word : (w v : List ℕ) (ws : List (List ℕ)) (tail : List ℕ) → IsWord w → Finds (In (w ++ behind_words (v ∷ ws) tail)) → Finds (In (v ++ behind_words ws tail))
  next_word w v ws tail k f u l i =
      f u l (subst (λ r. Stands (vat names u) (In (w ++ r))) (sym (append_assoc (32 ∷ v) (flat_map (λ x. 32 ∷ x) ws) tail)) (later_in (vat names u) w (v ++ behind_words ws tail) k i))

  first_word : (w : List ℕ) (ws : List (List ℕ)) (tail : List ℕ) → Finds (In (spaced (w ∷ ws) ++ 93 ∷ tail)) → Finds (In (w ++ behind_words ws (93 ∷ tail)))
  first_word w ws tail f u l i = f u l (subst (λ r. Stands (vat names u) (In r)) (sym (append_assoc w (flat_map (λ x. 32 ∷ x) ws) (93 ∷ tail))) i)

  between : (ws : List (List ℕ)) (tail : List ℕ) → Finds (In ((91 ∷ (spaced ws ++ 93 ∷ [])) ++ tail)) → Finds (In (spaced ws ++ 93 ∷ tail))
  between ws tail f u l i =
      f u l (subst (Stands (vat names u)) (sym (other_on quote.Outside false [] 91 ((spaced ws ++ 93 ∷ []) ++ tail) refl)) (subst (λ r. Stands (vat names u) (In r)) (sym (append_assoc (spaced ws) (93 ∷ []) tail)) i))

  mutual
    passed_in : (height : ℕ) (x : Shown) (tail : List ℕ) → Ends tail → IsPassed (Below names) height x → Finds (In (lines.value names x ++ tail)) → IsPassed Q height x
    passed_in height (Members' shape row) tail e h f = row_in height row tail h (between (member_values names row) tail f)
    passed_in height (ListOf v n) tail e h f = absurd h
    passed_in height (Slot v n) tail e h f = absurd h
    passed_in height (Named x) tail e h f = name_in x tail e h f
    passed_in height other tail e h f = h

    row_in : {n : _} (height : ℕ) (row : Row_of-Shown n) (tail : List ℕ) → AreMembers (Below names) height row → Finds (In (spaced (member_values names row) ++ 93 ∷ tail)) → AreMembers Q height row
    row_in zero end_of-Shown tail h f = h
    row_in zero (more_of-Shown x rest) tail h f = h
    row_in (suc height) end_of-Shown tail h f = tt
    row_in (suc height) (more_of-Shown x rest) tail h f =
        let g = first_word (lines.value names x) (member_values names rest) tail f in (
          passed_in height x (behind_words (member_values names rest) (93 ∷ tail)) (ends_so (member_values names rest) (93 ∷ tail) refl) h.0 g,
          next_in height rest (lines.value names x) (93 ∷ tail) refl (row_words (more_of-Shown x rest)).0 h.1 g,
        )

    next_in : {n : _} (height : ℕ) (row : Row_of-Shown n) (w tail : List ℕ) → Ends tail → IsWord w → AreMembers (Below names) (suc height) row → Finds (In (w ++ behind_words (member_values names row) tail)) → AreMembers Q (suc height) row
    next_in height end_of-Shown w tail e k h f = tt
    next_in height (more_of-Shown x rest) w tail e k h f =
        let g = next_word w (lines.value names x) (member_values names rest) tail k f in (
          passed_in height x (behind_words (member_values names rest) tail) (ends_so (member_values names rest) tail e) h.0 g,
          next_in height rest (lines.value names x) tail e (row_words (more_of-Shown x rest)).0 h.1 g,
        )

  -- ---- whole words

  whole : (w : List ℕ) → Finds (In w) → Finds (In (w ++ []))
  whole w f u l i = f u l (subst (λ r. Stands (vat names u) (In r)) (append-nil w) i)

  message_word : (m : Msg) → IsMessage (Below names) m → Finds (In (lines.message names m)) → IsMessage Q m
  message_word m h f = message_in m [] h (whole (lines.message names m) f)

  name_word : (x : Name) → IsName (Below names) x → Finds (In (lines.name names x)) → IsName Q x
  name_word x h f = name_in x [] tt h (whole (lines.name names x) f)

  value_word : (x : Shown) → IsValue (Below names) x → Finds (In (lines.value names x)) → IsValue Q x
  value_word x h f = value_in x [] tt h (whole (lines.value names x) f)

  passed_word : (x : Shown) → IsPassed (Below names) 100 x → Finds (In (lines.value names x)) → IsPassed Q 100 x
  passed_word x h f = passed_in 100 x [] tt h (whole (lines.value names x) f)

  slot_word : (s : ℕ × ℕ) → IsThing (Below names) s.0 s.1 → Finds (In (lines.numbered names s.0 38 s.1)) → IsThing Q s.0 s.1
  slot_word s h f = thing s.0 38 s.1 [] refl refl h (whole (lines.numbered names s.0 38 s.1) f)

  list_word : (s : ℕ × ℕ) → IsThing (Below names) s.0 s.1 → Finds (In (lines.numbered names s.0 37 s.1)) → IsThing Q s.0 s.1
  list_word s h f = thing s.0 37 s.1 [] refl refl h (whole (lines.numbered names s.0 37 s.1) f)

  -- a vat that stands alone
  abbrev Alone : List ℕ → List (List ℕ)
  Alone word = scan quote.Outside true false [] word

  vat_word : (v : ℕ) → v < length names → Finds (Alone (vat names v)) → Q v
  vat_word v h f = f v h (subst (λ w. Stands (vat names v) (Alone w)) (append-nil (vat names v)) (bare_in (vat names v) [] (vat_letters names v are.lawful) tt))

  values_words : (xs : List Shown) → AreValues (Below names) xs → Finds (scanned (lines.values names xs)) → AreValues Q xs
  values_words [] h f = tt
  values_words (x ∷ xs) h f = (value_word x h.0 (first (In (lines.value names x)) (scanned (lines.values names xs)) f), values_words xs h.1 (rest_of (In (lines.value names x)) (scanned (lines.values names xs)) f))

  args_words : (xs : List Shown) → AllOf (IsPassed (Below names) 100) xs → Finds (scanned (lines.values names xs)) → AllOf (IsPassed Q 100) xs
  args_words [] h f = tt
  args_words (x ∷ xs) h f = (passed_word x h.0 (first (In (lines.value names x)) (scanned (lines.values names xs)) f), args_words xs h.1 (rest_of (In (lines.value names x)) (scanned (lines.values names xs)) f))

  -- what stands in front, and behind
  scanned_parts : (xs ys : Words) → scanned (xs ++ ys) ≡ scanned xs ++ scanned ys
  scanned_parts [] ys = refl
  scanned_parts (x ∷ xs) ys = ap (λ r. In x ++ r) (scanned_parts xs ys) ∙ sym (append_assoc (In x) (scanned xs) (scanned ys))

  front : (xs ys : Words) → Finds (scanned (xs ++ ys)) → Finds (scanned xs)
  front xs ys f u l i = f u l (subst (Stands (vat names u)) (sym (scanned_parts xs ys)) (in_left (vat names u) (scanned xs) (scanned ys) i))

  back : (xs ys : Words) → Finds (scanned (xs ++ ys)) → Finds (scanned ys)
  back xs ys f u l i = f u l (subst (Stands (vat names u)) (sym (scanned_parts xs ys)) (in_right (vat names u) (scanned xs) (scanned ys) i))

  head : (w : List ℕ) (ws : Words) → Finds (scanned (w ∷ ws)) → Finds (In w)
  head w ws f = first (In w) (scanned ws) f

  behind : (w : List ℕ) (ws : Words) → Finds (scanned (w ∷ ws)) → Finds (scanned ws)
  behind w ws f = rest_of (In w) (scanned ws) f

  part_words : (word : List ℕ) (xs : List Shown) → AreValues (Below names) xs → Finds (scanned (part names word xs)) → AreValues Q xs
  part_words word [] h f = tt
  part_words word (x ∷ xs) h f = values_words (x ∷ xs) h (behind word (lines.values names (x ∷ xs)) f)

  two_names : (p q : Name) → IsName (Below names) p → IsName (Below names) q → Finds (scanned (lines.name names p ∷ lines.name names q ∷ [])) → IsName Q p × IsName Q q
  two_names p q h k f = (name_word p h (head (lines.name names p) (lines.name names q ∷ []) f), name_word q k (head (lines.name names q) [] (behind (lines.name names p) (lines.name names q ∷ []) f)))

  name_then_vat : (p : Name) (v : ℕ) → IsName (Below names) p → v < length names → Finds (In (lines.name names p) ++ (Alone (vat names v) ++ [])) → IsName Q p × Q v
  name_then_vat p v h k f = (name_word p h (first (In (lines.name names p)) (Alone (vat names v) ++ []) f), vat_word v k (first (Alone (vat names v)) [] (rest_of (In (lines.name names p)) (Alone (vat names v) ++ []) f)))

  delivered : (m : Msg) (t : Name) (q : List ℕ) (xs : List Shown) → IsMessage (Below names) m → IsName (Below names) t → AllOf (IsPassed (Below names) 100) xs
      → Finds (scanned (lines.message names m ∷ lines.name names t ∷ printed_verb q ∷ lines.values names xs)) → IsMessage Q m × IsName Q t × AllOf (IsPassed Q 100) xs
  delivered m t q xs h k l f =
      let g = behind (lines.message names m) (lines.name names t ∷ printed_verb q ∷ lines.values names xs) f in (
        message_word m h (head (lines.message names m) (lines.name names t ∷ printed_verb q ∷ lines.values names xs) f),
        name_word t k (head (lines.name names t) (printed_verb q ∷ lines.values names xs) g),
        args_words xs l (behind (printed_verb q) (lines.values names xs) (behind (lines.name names t) (printed_verb q ∷ lines.values names xs) g)),
      )

  note_in : (n : ShownNote) → IsNote (Below names) n → Finds (note_vats (note_words names n)) → IsNote Q n
  note_in (Deliver m t q xs) h f = let d = delivered m t q xs h.0 h.1 h.3 f in (d.0, d.1, h.2, d.2)
  note_in (DeliverOnly m t q xs) h f = let d = delivered m t q xs h.0 h.1 h.3 f in (d.0, d.1, h.2, d.2)
  note_in (Settled n x) h f = (name_word n h.0 (head (lines.name names n) (lines.value names x ∷ []) f), passed_word x h.1 (head (lines.value names x) [] (behind (lines.name names n) (lines.value names x ∷ []) f)))
  note_in (Elsewhere n v) h f = name_then_vat n v h.0 h.1 f
  note_in (Opens p q) h f = two_names p q h.0 h.1 f
  note_in (Ask n v) h f = name_then_vat n v h.0 h.1 f
  note_in (Shorten p q) h f = two_names p q h.0 h.1 f

  pair_in : (v w : ℕ) (ns : List (List ℕ)) → v < length names → w < length names → Finds (Alone (vat names v) ++ (Alone (vat names w) ++ ns)) → Q v × Q w × Finds ns
  pair_in v w ns h k f =
      let g = rest_of (Alone (vat names v)) (Alone (vat names w) ++ ns) f in
      (vat_word v h (first (Alone (vat names v)) (Alone (vat names w) ++ ns) f), vat_word w k (first (Alone (vat names w)) ns g), rest_of (Alone (vat names w)) ns g)

  -- ---- kinds of lines

  line_by : (word : List ℕ) (rest : Words) (a b c : Bools) → bytes_eq word (codes "open") ≡ a → bytes_eq word (codes "left") ≡ b → is_some (count word) ≡ c
      → line_vats (word ∷ rest) ≡ cond {A = List (List ℕ)} a (bare rest) (cond {A = List (List ℕ)} b (left_vats rest) (cond {A = List (List ℕ)} c (entry_vats rest) (scanned rest)))
  line_by word rest a b c e f g =
      ap (λ t. cond {A = List (List ℕ)} t (bare rest) (cond {A = List (List ℕ)} (bytes_eq word (codes "left")) (left_vats rest) (cond {A = List (List ℕ)} (is_some (count word)) (entry_vats rest) (scanned rest)))) e
      ∙ ap (λ t. cond {A = List (List ℕ)} a (bare rest) (cond {A = List (List ℕ)} t (left_vats rest) (cond {A = List (List ℕ)} (is_some (count word)) (entry_vats rest) (scanned rest)))) f
      ∙ ap (λ t. cond {A = List (List ℕ)} a (bare rest) (cond {A = List (List ℕ)} b (left_vats rest) (cond {A = List (List ℕ)} t (entry_vats rest) (scanned rest)))) g

  as_word : (word other : List ℕ) (mark : ℕ) → starts mark other ≡ true → starts mark word ≡ false → bytes_eq word other ≡ false
  as_word word other mark e f = not_word word other mark (bytes_eq word other) refl e f

  wide : (k : ℕ) → k < 2 ^ 64 → k < 10 ^ 64
  wide k h = omega (arith, h)

  entry_is : (k : ℕ) (rest : Words) → k < 2 ^ 64 → line_vats (decimal k ∷ rest) ≡ entry_vats rest
  entry_is k rest h =
      line_by (decimal k) rest false false true (as_word (decimal k) (codes "open") 111 refl (no_mark 111 (decimal k) refl (digits_alone k (wide k h)))) (as_word (decimal k) (codes "left") 108 refl (no_mark 108 (decimal k) refl (digits_alone k (wide k h))))
      (ap is_some (count_again k h))

  act_is : (a : ℕ) (rest : Words) → line_vats (lines.activation a ∷ rest) ≡ scanned rest
  act_is a rest = line_by (lines.activation a) rest false false false (as_word (lines.activation a) (codes "open") 111 refl refl) (as_word (lines.activation a) (codes "left") 108 refl refl) refl

  entry_in : (k : ℕ) (word : List ℕ) (rest : Words) → k < 2 ^ 64 → Finds (line_vats (decimal k ∷ word ∷ rest)) → Finds (pair_vats rest)
  entry_in k word rest h f u l i = f u l (subst (Stands (vat names u)) (sym (entry_is k (word ∷ rest) h)) i)

  act_in : (a : ℕ) (word : List ℕ) (rest : Words) → Finds (line_vats (lines.activation a ∷ word ∷ rest)) → Finds (scanned rest)
  act_in a word rest f = behind word rest (λ u l i. f u l (subst (Stands (vat names u)) (sym (act_is a (word ∷ rest))) i))

  one_value : (a : ℕ) (word : List ℕ) (x : Shown) → IsValue (Below names) x → Finds (line_vats (lines.activation a ∷ word ∷ lines.value names x ∷ [])) → IsValue Q x
  one_value a word x h f = value_word x h (head (lines.value names x) [] (act_in a word (lines.value names x ∷ []) f))

  slot_value : (a : ℕ) (word : List ℕ) (s : ℕ × ℕ) (x : Shown) → IsThing (Below names) s.0 s.1 → IsValue (Below names) x → Finds (line_vats (lines.activation a ∷ word ∷ lines.numbered names s.0 38 s.1 ∷ lines.value names x ∷ []))
      → IsThing Q s.0 s.1 × IsValue Q x
  slot_value a word s x h k f =
      let w = lines.numbered names s.0 38 s.1 in let ws = lines.value names x ∷ [] in let g = act_in a word (w ∷ ws) f in (slot_word s h (head w ws g), value_word x k (head (lines.value names x) [] (behind w ws g)))

  addressed_in : (a : ℕ) (word : List ℕ) (m : Msg) (t : Shown) (q : List ℕ) (rest : Words) → IsMessage (Below names) m → IsValue (Below names) t
      → Finds (line_vats (lines.activation a ∷ word ∷ lines.message names m ∷ lines.value names t ∷ printed_verb q ∷ rest)) → IsMessage Q m × IsValue Q t × Finds (scanned rest)
  addressed_in a word m t q rest h k f =
      let g = act_in a word (lines.message names m ∷ lines.value names t ∷ printed_verb q ∷ rest) f in let i = behind (lines.message names m) (lines.value names t ∷ printed_verb q ∷ rest) g in
      (message_word m h (head (lines.message names m) (lines.value names t ∷ printed_verb q ∷ rest) g), value_word t k (head (lines.value names t) (printed_verb q ∷ rest) i), behind (printed_verb q) rest (behind (lines.value names t) (printed_verb q ∷ rest) i))

  -- ---- events

  raw_in : (line : RawLine) → IsRawRead (Below names) line → Finds (line_vats (raw_words names line)) → IsRawRead Q line
  raw_in (Inject k v w bytes) h f = absurd h
  raw_in (InjectCut k v w) h f = absurd h
  raw_in (Malformed k v w place) h f = absurd h
  raw_in (Bytes k v w bytes) h f =
      let note = codes "bytes" ∷ hex bytes ∷ [] in
      let p = pair_in v w (note_vats note) h.1 h.2 (entry_in k (codes "carry") (vat names v ∷ vat names w ∷ note) h.0 f) in
      (h.0, p.0, p.1, h.3)
  raw_in (LeftBytes v w bytes) h f = let p = pair_in v w (note_vats (codes "bytes" ∷ hex bytes ∷ [])) h.0 h.1 f in (p.0, p.1, h.2)

  event_in : (e : Event) → IsRead (Below names) e → Finds (line_vats (words names e)) → IsRead Q e
  event_in (Open v) h f = vat_word v h (first (Alone (vat names v)) [] f)
  event_in (Turn k v) h f = (h.0, vat_word v h.1 (first (Alone (vat names v)) [] (entry_in k (codes "turn") (vat names v ∷ []) h.0 f)))
  event_in (Carry k v w note) h f =
      let p = pair_in v w (note_vats (note_words names note)) h.1 h.2 (entry_in k (codes "carry") (vat names v ∷ vat names w ∷ note_words names note) h.0 f) in (h.0, p.0, p.1, note_in note h.3 p.2)
  event_in (Cut k v w) h f = let p = pair_in v w [] h.1 h.2 (entry_in k (codes "cut") (vat names v ∷ vat names w ∷ []) h.0 f) in (h.0, p.0, p.1)
  event_in (Notice k v w) h f = let p = pair_in v w [] h.1 h.2 (entry_in k (codes "notice") (vat names v ∷ vat names w ∷ []) h.0 f) in (h.0, p.0, p.1)
  event_in (Frame bytes) h f = absurd h
  event_in (Take t) h f = let d = addressed_in t.activation (codes "take") t.message t.target t.verb (lines.values names t.args) h.1 h.2 f in (h.0, d.0, d.1, h.3, values_words t.args h.4 d.2)
  event_in (Call c) h f =
      let args = lines.values names c.args in let more = printed_verb c.verb ∷ (args ++ begun_words c.begun) in let g = act_in c.activation (codes "call") (lines.value names c.target ∷ more) f in (
        h.0,
        value_word c.target h.1 (head (lines.value names c.target) more g),
        h.2,
        values_words c.args h.3 (front args (begun_words c.begun) (behind (printed_verb c.verb) (args ++ begun_words c.begun) (behind (lines.value names c.target) more g))),
        h.4,
      )
  event_in (Back a x) h f = (h.0, one_value a (codes "back") x h.1 f)
  event_in (Thrown a x) h f = (h.0, one_value a (codes "thrown") x h.1 f)
  event_in (Got a x) h f = (h.0, one_value a (codes "got") x h.1 f)
  event_in (SlotMade a s x) h f = let d = slot_value a (codes "slot") s x h.1 h.2 f in (h.0, d.0, d.1)
  event_in (Read a s x) h f = let d = slot_value a (codes "read") s x h.1 h.2 f in (h.0, d.0, d.1)
  event_in (Wrote a s x) h f = let d = slot_value a (codes "wrote") s x h.1 h.2 f in (h.0, d.0, d.1)
  event_in (ListMade a l xs) h f =
      let w = lines.numbered names l.0 37 l.1 in let g = act_in a (codes "list") (w ∷ lines.values names xs) f in (h.0, list_word l h.1 (head w (lines.values names xs) g), values_words xs h.2 (behind w (lines.values names xs) g))
  event_in (Arrived l xs) h f = let w = lines.numbered names l.0 37 l.1 in (list_word l h.0 (head w (lines.values names xs) f), values_words xs h.1 (behind w (lines.values names xs) f))
  event_in (Ejector a o) h f = (h.0, one_value a (codes "ejector") o h.1 f)
  event_in (Audition a o) h f = (h.0, one_value a (codes "audition") o h.1 f)
  event_in (Promise a p o) h f =
      let ws = lines.value names o ∷ [] in let g = act_in a (codes "promise") (lines.name names p ∷ ws) f in (h.0, name_word p h.1 (head (lines.name names p) ws g), value_word o h.2 (head (lines.value names o) [] (behind (lines.name names p) ws g)))
  event_in (Made o) h f =
      let caps = part names (codes "caps") o.caps in let stamps = part names (codes "stamps") o.stamps in let g = act_in o.activation (codes "made") (lines.value names o.object ∷ o.name ∷ (caps ++ stamps)) f in
      let both = behind o.name (caps ++ stamps) (behind (lines.value names o.object) (o.name ∷ (caps ++ stamps)) g) in
      (h.0, value_word o.object h.1 (head (lines.value names o.object) (o.name ∷ (caps ++ stamps)) g), h.2, part_words (codes "caps") o.caps h.3 (front caps stamps both), part_words (codes "stamps") o.stamps h.4 (back caps stamps both))
  event_in (Send m) h f =
      let args = lines.values names m.args in let answer = codes "->" ∷ lines.name names m.answer ∷ [] in let d = addressed_in m.activation (codes "send") m.message m.target m.verb (args ++ answer) h.1 h.2 f in
      (h.0, d.0, d.1, h.3, values_words m.args h.4 (front args answer d.2), name_word m.answer h.5 (head (lines.name names m.answer) [] (behind (codes "->") (lines.name names m.answer ∷ []) (back args answer d.2))))
  event_in (SendOnly t) h f = let d = addressed_in t.activation (codes "sendonly") t.message t.target t.verb (lines.values names t.args) h.1 h.2 f in (h.0, d.0, d.1, h.3, values_words t.args h.4 d.2)
  event_in (When w) h f =
      let answer = lines.name names w.answer ∷ [] in let third = lines.value names w.reaction ∷ codes "->" ∷ answer in let second = lines.value names w.value ∷ third in
      let g = act_in w.activation (codes "when") (lines.message names w.message ∷ second) f in let i = behind (lines.message names w.message) second g in let j = behind (lines.value names w.value) third i in (
        h.0,
        message_word w.message h.1 (head (lines.message names w.message) second g),
        value_word w.value h.2 (head (lines.value names w.value) third i),
        value_word w.reaction h.3 (head (lines.value names w.reaction) (codes "->" ∷ answer) j),
        name_word w.answer h.4 (head (lines.name names w.answer) [] (behind (codes "->") answer (behind (lines.value names w.reaction) (codes "->" ∷ answer) j))),
      )
  event_in (Done a x) h f = (h.0, one_value a (codes "done") x h.1 f)
  event_in (Threw a x) h f = (h.0, one_value a (codes "threw") x h.1 f)
  event_in (Settle p x) h f = let ws = lines.value names x ∷ [] in (name_word p h.0 (head (lines.name names p) ws f), value_word x h.1 (head (lines.value names x) [] (behind (lines.name names p) ws f)))
  event_in (Wait p q) h f = two_names p q h.0 h.1 f
  event_in (View p q) h f = two_names p q h.0 h.1 f
  event_in (LostCut m) h f = message_word m h (head (lines.message names m) (codes "cut" ∷ []) f)
  event_in (LostBroken m) h f = message_word m h (head (lines.message names m) (codes "broken" ∷ []) f)
  event_in (LeftQueue v m) h f =
      let ws = lines.message names m ∷ [] in (vat_word v h.0 (first (Alone (vat names v)) (scanned ws) f), message_word m h.1 (head (lines.message names m) [] (rest_of (Alone (vat names v)) (scanned ws) f)))
  event_in (LeftHeld v p m) h f =
      let ws = lines.message names m ∷ [] in let g = rest_of (Alone (vat names v)) (scanned (lines.name names p ∷ ws)) f in
      (vat_word v h.0 (first (Alone (vat names v)) (scanned (lines.name names p ∷ ws)) f), name_word p h.1 (head (lines.name names p) ws g), message_word m h.2 (head (lines.message names m) [] (behind (lines.name names p) ws g)))
  event_in (LeftWait v x m) h f =
      let ws = lines.message names m ∷ [] in let g = rest_of (Alone (vat names v)) (scanned (lines.value names x ∷ ws)) f in
      (vat_word v h.0 (first (Alone (vat names v)) (scanned (lines.value names x ∷ ws)) f), value_word x h.1 (head (lines.value names x) ws g), message_word m h.2 (head (lines.message names m) [] (behind (lines.value names x) ws g)))
  event_in (LeftLink v w note) h f = let p = pair_in v w (note_vats (note_words names note)) h.0 h.1 f in (p.0, p.1, note_in note h.2 p.2)
  event_in (Raw line) h f = raw_in line h f
  event_in other h f = h

module _ (names : List (List ℕ)) (are : AreNames names) (Q : ℕ → Type 0) where
  pub events_in : (es : List Event) → AllOf (IsRead (Below names)) es → Finds names are Q (flat_map line_vats (map (words names) es)) → AllOf (IsRead Q) es
  events_in [] h f = tt
  events_in (e ∷ es) h f = (
    event_in names are Q e h.0 (first names are Q (line_vats (words names e)) (flat_map line_vats (map (words names) es)) f),
    events_in es h.1 (rest_of names are Q (line_vats (words names e)) (flat_map line_vats (map (words names) es)) f),
  )

pub vats_found : VatsAreFound
vats_found names e are h = event_in names are (λ v. Stands (vat names v) (line_vats (words names e))) e h (λ v l i. i)
