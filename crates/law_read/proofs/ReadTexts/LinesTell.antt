-- The words of the line of an event, and the names that are found in it.
use Rattle.std.proofs.Common.{◌≡◌, ◌<◌, ◌++◌, ◌^◌, ℕ, true, false, List, [], ◌∷◌, Option, Some, None, length, refl, sym, ◌∙◌, ap, subst, arith}
use Rattle.std.specs.Prelude.{codes, decimal, is_some}
use Rattle.std.specs.Str.{IsUtf8}
use Rattle.std.proofs.lemmas.List.{append-nil}
use Rattle.ev_base.specs.declared.names.Msg.{Msg}
use Rattle.ev_base.specs.declared.names.Name.{Name}
use Rattle.def_text.specs.Keywords.{printed_verb}
use Rattle.def_event.specs.declared.shown.Shown.{Shown}
use Rattle.def_event.specs.declared.note.ShownNote.{ShownNote}
use Rattle.def_event.specs.declared.note.ShownNote.TheVariants.{Deliver, DeliverOnly, Settled, Elsewhere, Open as Opens, Ask, Shorten}
use Rattle.def_event.specs.declared.event.Event.{Event}
use Rattle.def_event.specs.declared.event.Event.TheVariants.{Open, Turn, Idle, Carry, Cut, Notice, Frame, Take, Call, Back, Thrown, Gone, Got, Slot as SlotMade, Read, Wrote, List as ListMade, Arrived, Ejector, Audition, Promise, Made, Send, SendOnly, When, Done, Threw, Settle, Wait, View, LostCut, LostBroken, LeftQueue, LeftHeld, LeftWait, LeftLink, End, Raw}
use Rattle.def_event.specs.declared.raw.RawLine.{RawLine}
use Rattle.def_event.specs.declared.raw.RawLine.TheVariants.{Inject, InjectCut, Malformed, Bytes, LeftBytes}
use Rattle.def_event.specs.Lines.{begun_words, hex, note_words, part, raw_words, vat, words}
use Rattle.ev_script.specs.Vats.{is_lower_or_digit}
use Rattle.def_event.specs.Lines as lines
use Rattle.law_text.specs.Text.Feeds.{AllOf}
use Rattle.ev_trace_words.specs.Laws.{AreNames}
use Rattle.ev_trace_words.specs.declared.words.Quote.TheVariants.{Outside}
use Rattle.ev_trace_words.proofs.Hexed.{hex_lower}
use Rattle.ev_trace_words.proofs.Printed.{count_again, letters_too, vat_letters}
use Rattle.ev_trace_lines.specs.Events.{Words}
use Rattle.ev_trace.specs.Naming.{line_vats, note_vats, pair_vats, entry_vats, scan, scanned}
use Rattle.law_trace.specs.Trace.Readable.{AreBytes, AreValues, Below, IsMessage, IsNote, IsPassed, IsRawRead, IsRead, IsThing, IsValue}
use Rattle.law_trace.proofs.Trace.BytesAgain.{each_byte}
use Rattle.law_trace.proofs.Trace.IntegersAgain.{digits_alone, no_mark, not_word}
use Rattle.law_trace.proofs.Trace.ScanLemmas.{run_on}
use Rattle.law_trace.proofs.Trace.WordsAgain.{fits_as}
use Rattle.law_read.proofs.ReadTexts.Quiet.{In, is_quiet, quiet_by, rooted}
use Rattle.law_read.proofs.ReadTexts.Utf8.{is_low}
use Rattle.law_read.proofs.ReadTexts.Tells.{AreVats, Tells, activation, fixed, letter_low, list_word, message, name, number, passed, slot_word, stands, value, vat_word, verb, weaker}

pub all_join : {A : Type 0} (P : A → Type 0) (xs ys : List A) → AllOf P xs → AllOf P ys → AllOf P (xs ++ ys)
all_join P [] ys h k = k
all_join P (x ∷ xs) ys h k = (h.0, all_join P xs ys h.1 k)

wide : (k : ℕ) → k < 2 ^ 64 → k < 10 ^ 64
wide k h = omega arith

-- a line of an activation, and of an entry
act_names : (a : ℕ) (rest : Words) → line_vats (lines.activation a ∷ rest) ≡ scanned rest
act_names a rest = rw (not_word (lines.activation a) (codes "open") 111 _ refl refl refl) (rw (not_word (lines.activation a) (codes "left") 108 _ refl refl refl) refl)

entry_names : (k : ℕ) (rest : Words) → k < 2 ^ 64 → line_vats (decimal k ∷ rest) ≡ entry_vats rest
entry_names k rest h =
    let digits = digits_alone k (wide k h) in
    rw (not_word (decimal k) (codes "open") 111 _ refl refl (no_mark 111 (decimal k) refl digits))
    (rw (not_word (decimal k) (codes "left") 108 _ refl refl (no_mark 108 (decimal k) refl digits)) (rw (ap is_some (count_again k h)) refl))

module _ (names : List (List ℕ)) (are : AreNames names) where
  -- each of these words is so
  abbrev Tell : Words → Type 0
  Tell ws = AllOf (Tells names are) ws

  abbrev Vats : List (List ℕ) → Type 0
  Vats ns = AreVats names are ns

  -- the words of a line, and what is found in it
  abbrev pub TellsLine : Words → Type 0
  TellsLine ws = Tell ws × Vats (line_vats ws)

  join : (xs ys : List (List ℕ)) → Vats xs → Vats ys → Vats (xs ++ ys)
  join xs ys h k = all_join _ xs ys h k

  none_found : Vats (In [])
  unfolding scan
  none_found = tt

  in_word : (w : List ℕ) → Tells names are w → Vats (In w)
  in_word w t = subst (λ v. Vats (In v)) (append-nil w) (t.1 [] tt none_found)

  in_words : (ws : Words) → Tell ws → Vats (scanned ws)
  in_words [] t = tt
  in_words (w ∷ ws) t = join (In w) (scanned ws) (in_word w t.0) (in_words ws t.1)

  alone : (v : ℕ) → v < length names → Vats (scan Outside true false [] (vat names v))
  alone v h =
      subst (λ w. Vats (scan Outside true false [] w)) (append-nil (vat names v)) (subst Vats (sym (run_on true [] (vat names v) [] (vat_letters names v are.lawful) ∙ rooted (vat names v) [] tt)) (stands names v h, none_found))

  -- ---- values

  values : (xs : List Shown) → AreValues (Below names) xs → Tell (lines.values names xs)
  values [] h = tt
  values (x ∷ xs) h = (value names are x h.0, values xs h.1)

  arguments : (xs : List Shown) → AllOf (IsPassed (Below names) 100) xs → Tell (lines.values names xs)
  arguments [] h = tt
  arguments (x ∷ xs) h = (passed names are 100 x h.0, arguments xs h.1)

  parts : (word : List ℕ) (xs : List Shown) → Tells names are word → AreValues (Below names) xs → Tell (part names word xs)
  parts word [] t h = tt
  parts word (x ∷ xs) t h = (t, values (x ∷ xs) h)

  begins : (b : Option ℕ) → Tell (begun_words b)
  begins None = tt
  begins (Some a) = (fixed names are (codes "as") refl refl, (activation names are a, tt))

  -- ---- notes

  abbrev TellsNote : Words → Type 0
  TellsNote ws = Tell ws × Vats (note_vats ws)

  delivered : (m : Msg) (t : Name) (q : List ℕ) (xs : List Shown) → IsNote (Below names) (Deliver m t q xs) → Tell (lines.message names m ∷ lines.name names t ∷ printed_verb q ∷ lines.values names xs)
  delivered m t q xs h = (message names are m h.0, (name names are t h.1, (verb names are q h.2, arguments xs h.3)))

  note : (n : ShownNote) → IsNote (Below names) n → TellsNote (note_words names n)
  note (Deliver m t q xs) h = let d = delivered m t q xs h in ((fixed names are (codes "deliver") refl refl, d), in_words (lines.message names m ∷ lines.name names t ∷ printed_verb q ∷ lines.values names xs) d)
  note (DeliverOnly m t q xs) h = let d = delivered m t q xs h in ((fixed names are (codes "deliveronly") refl refl, d), in_words (lines.message names m ∷ lines.name names t ∷ printed_verb q ∷ lines.values names xs) d)
  note (Settled n x) h =
      let d : Tell (lines.name names n ∷ lines.value names x ∷ []) = (name names are n h.0, (passed names are 100 x h.1, tt)) in ((fixed names are (codes "settled") refl refl, d), in_words (lines.name names n ∷ lines.value names x ∷ []) d)
  note (Elsewhere n v) h =
      let first = name names are n h.0 in
      ((fixed names are (codes "elsewhere") refl refl, (first, (vat_word names are v, tt))), join (In (lines.name names n)) (scan Outside true false [] (vat names v) ++ []) (in_word (lines.name names n) first) (join (scan Outside true false [] (vat names v)) [] (alone v h.1) tt))
  note (Opens p q) h =
      let d : Tell (lines.name names p ∷ lines.name names q ∷ []) = (name names are p h.0, (name names are q h.1, tt)) in ((fixed names are (codes "open") refl refl, d), in_words (lines.name names p ∷ lines.name names q ∷ []) d)
  note (Ask n v) h =
      let first = name names are n h.0 in
      ((fixed names are (codes "ask") refl refl, (first, (vat_word names are v, tt))), join (In (lines.name names n)) (scan Outside true false [] (vat names v) ++ []) (in_word (lines.name names n) first) (join (scan Outside true false [] (vat names v)) [] (alone v h.1) tt))
  note (Shorten p q) h =
      let d : Tell (lines.name names p ∷ lines.name names q ∷ []) = (name names are p h.0, (name names are q h.1, tt)) in ((fixed names are (codes "shorten") refl refl, d), in_words (lines.name names p ∷ lines.name names q ∷ []) d)

  -- ---- kinds of lines

  of_act : (a : ℕ) (rest : Words) → Tell rest → TellsLine (lines.activation a ∷ rest)
  of_act a rest t = ((activation names are a, t), subst Vats (sym (act_names a rest)) (in_words rest t))

  of_value : (a : ℕ) (word : List ℕ) (x : Shown) → Tells names are word → IsValue (Below names) x → TellsLine (lines.activation a ∷ word ∷ lines.value names x ∷ [])
  of_value a word x t h = of_act a (word ∷ lines.value names x ∷ []) (t, (value names are x h, tt))

  of_slot : (a : ℕ) (word : List ℕ) (s : ℕ × ℕ) (x : Shown) → Tells names are word → IsThing (Below names) s.0 s.1 → IsValue (Below names) x → TellsLine (lines.activation a ∷ word ∷ lines.numbered names s.0 38 s.1 ∷ lines.value names x ∷ [])
  of_slot a word s x t h k = of_act a (word ∷ lines.numbered names s.0 38 s.1 ∷ lines.value names x ∷ []) (t, (slot_word names are s.0 s.1 h.0, (value names are x k, tt)))

  of_message : (a : ℕ) (word : List ℕ) (m : Msg) (x : Shown) (q : List ℕ) (rest : Words) → Tells names are word → IsMessage (Below names) m → IsValue (Below names) x → IsUtf8 q → Tell rest
      → TellsLine (lines.activation a ∷ word ∷ lines.message names m ∷ lines.value names x ∷ printed_verb q ∷ rest)
  of_message a word m x q rest t h k u d = of_act a (word ∷ lines.message names m ∷ lines.value names x ∷ printed_verb q ∷ rest) (t, (message names are m h, (value names are x k, (verb names are q u, d))))

  of_entry : (k : ℕ) (word : List ℕ) (rest : Words) → k < 2 ^ 64 → Tells names are word → Tell rest → Vats (pair_vats rest) → TellsLine (decimal k ∷ word ∷ rest)
  of_entry k word rest h t d f = ((number names are k, (t, d)), subst Vats (sym (entry_names k (word ∷ rest) h)) f)

  pair : (v w : ℕ) (ns : List (List ℕ)) → v < length names → w < length names → Vats ns → Vats (scan Outside true false [] (vat names v) ++ (scan Outside true false [] (vat names w) ++ ns))
  pair v w ns h k d = join (scan Outside true false [] (vat names v)) (scan Outside true false [] (vat names w) ++ ns) (alone v h) (join (scan Outside true false [] (vat names w)) ns (alone w k) d)

  host_first : (v : ℕ) (rest : Words) → v < length names → Tell rest → Vats (scan Outside true false [] (vat names v) ++ scanned rest)
  host_first v rest h t = join (scan Outside true false [] (vat names v)) (scanned rest) (alone v h) (in_words rest t)

  -- ---- frames that no vat judged

  digits : (bytes : List ℕ) → AreBytes bytes → Tells names are (hex bytes)
  digits bytes h =
      let each = letters_too (hex bytes) (hex_lower bytes (each_byte bytes h.1)) in
      fixed names are (hex bytes) (weaker is_lower_or_digit is_low letter_low (hex bytes) each) (weaker is_lower_or_digit is_quiet (λ b i. quiet_by is_lower_or_digit b refl i) (hex bytes) each)

  raw_bytes : (v w : ℕ) (bytes : List ℕ) → v < length names → w < length names → AreBytes bytes
      → Tell (vat names v ∷ vat names w ∷ codes "bytes" ∷ hex bytes ∷ []) × Vats (pair_vats (vat names v ∷ vat names w ∷ codes "bytes" ∷ hex bytes ∷ []))
  raw_bytes v w bytes h k l =
      let d = digits bytes l in
      ((vat_word names are v, (vat_word names are w, (fixed names are (codes "bytes") refl refl, (d, tt)))), pair v w (note_vats (codes "bytes" ∷ hex bytes ∷ [])) h k (in_words (hex bytes ∷ []) (d, tt)))

  raw : (l : RawLine) → IsRawRead (Below names) l → TellsLine (raw_words names l)
  raw (Inject k v w bytes) h = absurd h
  raw (InjectCut k v w) h = absurd h
  raw (Malformed k v w place) h = absurd h
  raw (Bytes k v w bytes) h =
      let d = raw_bytes v w bytes h.1 h.2 h.3 in of_entry k (codes "carry") (vat names v ∷ vat names w ∷ codes "bytes" ∷ hex bytes ∷ []) h.0 (fixed names are (codes "carry") refl refl) d.0 d.1
  raw (LeftBytes v w bytes) h = let d = raw_bytes v w bytes h.0 h.1 h.2 in ((fixed names are (codes "left") refl refl, (fixed names are (codes "link") refl refl, d.0)), d.1)

  -- ---- events

  pub line : (e : Event) → IsRead (Below names) e → TellsLine (words names e)
  line (Open v) h = ((fixed names are (codes "open") refl refl, (vat_word names are v, tt)), join (scan Outside true false [] (vat names v)) [] (alone v h) tt)
  line (Turn k v) h = of_entry k (codes "turn") (vat names v ∷ []) h.0 (fixed names are (codes "turn") refl refl) (vat_word names are v, tt) (join (scan Outside true false [] (vat names v)) [] (alone v h.1) tt)
  line (Idle k) h = of_entry k (codes "idle") [] h (fixed names are (codes "idle") refl refl) tt tt
  line (Carry k v w n) h =
      let d = note n h.3 in
      of_entry k (codes "carry") (vat names v ∷ vat names w ∷ note_words names n) h.0 (fixed names are (codes "carry") refl refl) (vat_word names are v, (vat_word names are w, d.0)) (pair v w (note_vats (note_words names n)) h.1 h.2 d.1)
  line (Cut k v w) h = of_entry k (codes "cut") (vat names v ∷ vat names w ∷ []) h.0 (fixed names are (codes "cut") refl refl) (vat_word names are v, (vat_word names are w, tt)) (pair v w [] h.1 h.2 tt)
  line (Notice k v w) h = of_entry k (codes "notice") (vat names v ∷ vat names w ∷ []) h.0 (fixed names are (codes "notice") refl refl) (vat_word names are v, (vat_word names are w, tt)) (pair v w [] h.1 h.2 tt)
  line (Frame bytes) h = absurd h
  line (Take t) h = of_message t.activation (codes "take") t.message t.target t.verb (lines.values names t.args) (fixed names are (codes "take") refl refl) h.1 h.2 h.3 (values t.args h.4)
  line (Call c) h =
      of_act c.activation (codes "call" ∷ lines.value names c.target ∷ printed_verb c.verb ∷ (lines.values names c.args ++ begun_words c.begun))
      (fixed names are (codes "call") refl refl, (value names are c.target h.1, (verb names are c.verb h.2, all_join _ (lines.values names c.args) (begun_words c.begun) (values c.args h.3) (begins c.begun))))
  line (Back a x) h = of_value a (codes "back") x (fixed names are (codes "back") refl refl) h.1
  line (Thrown a x) h = of_value a (codes "thrown") x (fixed names are (codes "thrown") refl refl) h.1
  line (Gone a) h = of_act a (codes "gone" ∷ []) (fixed names are (codes "gone") refl refl, tt)
  line (Got a x) h = of_value a (codes "got") x (fixed names are (codes "got") refl refl) h.1
  line (SlotMade a s x) h = of_slot a (codes "slot") s x (fixed names are (codes "slot") refl refl) h.1 h.2
  line (Read a s x) h = of_slot a (codes "read") s x (fixed names are (codes "read") refl refl) h.1 h.2
  line (Wrote a s x) h = of_slot a (codes "wrote") s x (fixed names are (codes "wrote") refl refl) h.1 h.2
  line (ListMade a l xs) h = of_act a (codes "list" ∷ lines.numbered names l.0 37 l.1 ∷ lines.values names xs) (fixed names are (codes "list") refl refl, (list_word names are l.0 l.1 h.1.0, values xs h.2))
  line (Arrived l xs) h =
      let d : Tell (lines.numbered names l.0 37 l.1 ∷ lines.values names xs) = (list_word names are l.0 l.1 h.0.0, values xs h.1) in ((fixed names are (codes "list") refl refl, d), in_words (lines.numbered names l.0 37 l.1 ∷ lines.values names xs) d)
  line (Ejector a o) h = of_value a (codes "ejector") o (fixed names are (codes "ejector") refl refl) h.1
  line (Audition a o) h = of_value a (codes "audition") o (fixed names are (codes "audition") refl refl) h.1
  line (Promise a p o) h = of_act a (codes "promise" ∷ lines.name names p ∷ lines.value names o ∷ []) (fixed names are (codes "promise") refl refl, (name names are p h.1, (value names are o h.2, tt)))
  line (Made o) h =
      let caps = part names (codes "caps") o.caps in let stamps = part names (codes "stamps") o.stamps in
      let called = fits_as (Tells names are) (verb names are) (fixed names are (codes "_") refl refl) (Below names) (Made o) h in
      of_act o.activation (codes "made" ∷ lines.value names o.object ∷ o.name ∷ (caps ++ stamps))
      (fixed names are (codes "made") refl refl, (value names are o.object h.1, (called, all_join _ caps stamps (parts (codes "caps") o.caps (fixed names are (codes "caps") refl refl) h.3) (parts (codes "stamps") o.stamps (fixed names are (codes "stamps") refl refl) h.4))))
  line (Send m) h =
      let answer = codes "->" ∷ lines.name names m.answer ∷ [] in
      of_message m.activation (codes "send") m.message m.target m.verb (lines.values names m.args ++ answer) (fixed names are (codes "send") refl refl) h.1 h.2 h.3
      (all_join _ (lines.values names m.args) answer (values m.args h.4) (fixed names are (codes "->") refl refl, (name names are m.answer h.5, tt)))
  line (SendOnly m) h = of_message m.activation (codes "sendonly") m.message m.target m.verb (lines.values names m.args) (fixed names are (codes "sendonly") refl refl) h.1 h.2 h.3 (values m.args h.4)
  line (When w) h =
      of_act w.activation (codes "when" ∷ lines.message names w.message ∷ lines.value names w.value ∷ lines.value names w.reaction ∷ codes "->" ∷ lines.name names w.answer ∷ [])
      (fixed names are (codes "when") refl refl, (message names are w.message h.1, (value names are w.value h.2, (value names are w.reaction h.3, (fixed names are (codes "->") refl refl, (name names are w.answer h.4, tt))))))
  line (Done a x) h = of_value a (codes "done") x (fixed names are (codes "done") refl refl) h.1
  line (Threw a x) h = of_value a (codes "threw") x (fixed names are (codes "threw") refl refl) h.1
  line (Settle p x) h =
      let d : Tell (lines.name names p ∷ lines.value names x ∷ []) = (name names are p h.0, (value names are x h.1, tt)) in ((fixed names are (codes "settle") refl refl, d), in_words (lines.name names p ∷ lines.value names x ∷ []) d)
  line (Wait p q) h =
      let d : Tell (lines.name names p ∷ lines.name names q ∷ []) = (name names are p h.0, (name names are q h.1, tt)) in ((fixed names are (codes "wait") refl refl, d), in_words (lines.name names p ∷ lines.name names q ∷ []) d)
  line (View p q) h =
      let d : Tell (lines.name names p ∷ lines.name names q ∷ []) = (name names are p h.0, (name names are q h.1, tt)) in ((fixed names are (codes "view") refl refl, d), in_words (lines.name names p ∷ lines.name names q ∷ []) d)
  line (LostCut m) h =
      let d : Tell (lines.message names m ∷ codes "cut" ∷ []) = (message names are m h, (fixed names are (codes "cut") refl refl, tt)) in ((fixed names are (codes "lost") refl refl, d), in_words (lines.message names m ∷ codes "cut" ∷ []) d)
  line (LostBroken m) h =
      let d : Tell (lines.message names m ∷ codes "broken" ∷ []) = (message names are m h, (fixed names are (codes "broken") refl refl, tt)) in
      ((fixed names are (codes "lost") refl refl, d), in_words (lines.message names m ∷ codes "broken" ∷ []) d)
  line (LeftQueue v m) h =
      let d : Tell (lines.message names m ∷ []) = (message names are m h.1, tt) in
      ((fixed names are (codes "left") refl refl, (fixed names are (codes "queue") refl refl, (vat_word names are v, d))), host_first v (lines.message names m ∷ []) h.0 d)
  line (LeftHeld v p m) h =
      let d : Tell (lines.name names p ∷ lines.message names m ∷ []) = (name names are p h.1, (message names are m h.2, tt)) in
      ((fixed names are (codes "left") refl refl, (fixed names are (codes "held") refl refl, (vat_word names are v, d))), host_first v (lines.name names p ∷ lines.message names m ∷ []) h.0 d)
  line (LeftWait v x m) h =
      let d : Tell (lines.value names x ∷ lines.message names m ∷ []) = (value names are x h.1, (message names are m h.2, tt)) in
      ((fixed names are (codes "left") refl refl, (fixed names are (codes "wait") refl refl, (vat_word names are v, d))), host_first v (lines.value names x ∷ lines.message names m ∷ []) h.0 d)
  line (LeftLink v w n) h =
      let d = note n h.2 in
      ((fixed names are (codes "left") refl refl, (fixed names are (codes "link") refl refl, (vat_word names are v, (vat_word names are w, d.0)))), pair v w (note_vats (note_words names n)) h.0 h.1 d.1)
  line End h = ((fixed names are (codes "end") refl refl, tt), tt)
  line (Raw l) h = raw l h
