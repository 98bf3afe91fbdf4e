-- An event has the same line by other names and numbers of its vats.
use Rattle.std.proofs.Common.{◌≡◌, ◌++◌, ℕ, zero, suc, true, List, [], ◌∷◌, map, refl, ◌∙◌, ap}
use Rattle.std.specs.Prelude.{codes, decimal}
use Rattle.ev_base.specs.declared.names.Msg.{Msg}
use Rattle.ev_base.specs.declared.names.Name.{Name}
use Rattle.ev_base.specs.declared.names.Name.TheVariants.{Object, Own, Answer, Gift, Root, Claimed}
use Rattle.def_event.specs.declared.shown.Shown.{Shown, Bool, List as ListOf, Slot, Name as Named, Members', Row_of-Shown, end_of-Shown, more_of-Shown}
use Rattle.def_event.specs.declared.shown.Shown.TheViews.{roll-Shown}
use Rattle.def_event.specs.declared.shown.Shown.TheBlock.{hidden-the_row-Shown-0}
use denote.Hole.Carrier.{roll, hidden}
use Rattle.def_event.specs.declared.note.ShownNote.{ShownNote}
use Rattle.def_event.specs.declared.note.ShownNote.TheVariants.{Deliver, DeliverOnly, Settled, Elsewhere, Open as Opens, Ask, Shorten}
use Rattle.def_event.specs.declared.event.Event.{Event}
use Rattle.def_event.specs.declared.event.Event.TheVariants.{Open, Turn, Carry, Cut, Notice, Frame, Take, Call, Back, Thrown, Got, Slot as SlotMade, Read, Wrote, List as ListMade, Arrived, Ejector, Audition, Promise, Made, Send, SendOnly, When, Done, Threw, Settle, Wait, View, LostCut, LostBroken, LeftQueue, LeftHeld, LeftWait, LeftLink, Raw}
use Rattle.def_event.specs.declared.raw.RawLine.{RawLine}
use Rattle.def_event.specs.declared.raw.RawLine.TheVariants.{Inject, InjectCut, Malformed, Bytes, LeftBytes}
use Rattle.def_event.specs.Lines.{hex, low_first, member_values, members, note_words, part, raw_words, spaced, vat, words}
use Rattle.def_event.specs.Lines as lines
use Rattle.law_text.specs.Text.Feeds.{AllOf}
use Rattle.law_trace.specs.Trace.Readable.{AreMembers, AreValues, IsMessage, IsName, IsNote, IsPassed, IsRawRead, IsRead, IsThing, IsValue}
use Rattle.law_trace.specs.Trace.Renamed.{event_to, members_to, message_to, name_to, note_to, raw_to, value_to, values_to}
use Rattle.law_trace.specs.Trace.Renumbered.{WordsAreSameByOtherNumbers}

-- ---- a list by its members

-- how the members of a list are written
abbrev written : List (List ℕ) → Shown → List (List ℕ)
written vats (Members' shape row) = member_values vats row
written vats _ = []

written_are : (vats : List (List ℕ)) (xs : List Shown) → written vats (members xs) ≡ map (lines.value vats) xs
unfolding roll-Shown roll hidden-the_row-Shown-0 hidden
written_are vats [] = refl
written_are vats (x ∷ xs) = ap (λ ws. lines.value vats x ∷ ws) (written_are vats xs)

list_written : (vats : List (List ℕ)) (xs : List Shown) → lines.value vats (members xs) ≡ 91 ∷ (spaced (map (lines.value vats) xs) ++ 93 ∷ [])
unfolding roll-Shown roll hidden-the_row-Shown-0 hidden
list_written vats [] = refl
list_written vats (x ∷ xs) = ap (λ ws. 91 ∷ (spaced (lines.value vats x ∷ ws) ++ 93 ∷ [])) (written_are vats xs)

both_same : {A : Type 0} {w v : A} {ws vs : List A} → w ≡ v → ws ≡ vs → w ∷ ws ≡ v ∷ vs
both_same {A} {w} {v} {ws} {vs} e f = ap (λ x. x ∷ ws) e ∙ ap (λ xs. v ∷ xs) f

appended : (ws vs xs ys : List (List ℕ)) → ws ≡ vs → xs ≡ ys → ws ++ xs ≡ vs ++ ys
appended ws vs xs ys e f = ap (λ us. us ++ xs) e ∙ ap (λ us. vs ++ us) f

-- each such vat has its name there too
module _ (names found : List (List ℕ)) (to : ℕ → ℕ) (P : ℕ → Type 0) (same : (v : ℕ) → P v → vat found (to v) ≡ vat names v) where
  thing_same : (v mark n : ℕ) → IsThing P v n → lines.numbered found (to v) mark n ≡ lines.numbered names v mark n
  thing_same v mark n h = ap (λ w. w ++ mark ∷ decimal n) (same v h.0)

  message_same : (m : Msg) → IsMessage P m → lines.message found (message_to to m) ≡ lines.message names m
  message_same m h = thing_same m.sender 47 m.number h

  name_same : (x : Name) → IsName P x → lines.name found (name_to to x) ≡ lines.name names x
  name_same (Object v n) h = thing_same v 46 n h
  name_same (Own v n) h = thing_same v 126 n h
  name_same (Answer host m) h = ap (λ w. w ++ 63 ∷ lines.message found (message_to to m)) (same host h.0) ∙ ap (λ w. vat names host ++ 63 ∷ w) (message_same m h.1)
  name_same (Gift host i) h = thing_same host 94 i h
  name_same (Root v) h = ap (λ w. 64 ∷ w) (same v h)
  name_same (Claimed host p word) h = ap (λ w. w ++ 94 ∷ (vat found (to p) ++ 58 ∷ hex (low_first 16 word))) (same host h.0) ∙ ap (λ w. vat names host ++ 94 ∷ (w ++ 58 ∷ hex (low_first 16 word))) (same p h.1)

  value_same : (x : Shown) → IsValue P x → lines.value found (value_to to x) ≡ lines.value names x
  value_same (ListOf v n) h = thing_same v 37 n h
  value_same (Slot v n) h = thing_same v 38 n h
  value_same (Named x) h = name_same x h
  value_same (Members' shape row) h = absurd h
  value_same (Bool true) h = refl
  value_same other h = refl

  values_same : (xs : List Shown) → AreValues P xs → lines.values found (values_to to xs) ≡ lines.values names xs
  values_same [] h = refl
  values_same (x ∷ xs) h = both_same (value_same x h.0) (values_same xs h.1)

  mutual
    passed_same : (height : ℕ) (x : Shown) → IsPassed P height x → lines.value found (value_to to x) ≡ lines.value names x
    passed_same height (Members' shape row) h = list_written found (members_to to row) ∙ ap (λ ws. 91 ∷ (spaced ws ++ 93 ∷ [])) (row_same height row h)
    passed_same height (ListOf v n) h = absurd h
    passed_same height (Slot v n) h = absurd h
    passed_same height (Named x) h = name_same x h
    passed_same height (Bool true) h = refl
    passed_same height other h = refl

    row_same : {n : _} (height : ℕ) (row : Row_of-Shown n) → AreMembers P height row → map (lines.value found) (members_to to row) ≡ member_values names row
    row_same zero end_of-Shown h = absurd h
    row_same zero (more_of-Shown x rest) h = absurd h
    row_same (suc height) end_of-Shown h = refl
    row_same (suc height) (more_of-Shown x rest) h = both_same (passed_same height x h.0) (row_same (suc height) rest h.1)

  args_same : (xs : List Shown) → AllOf (IsPassed P 100) xs → lines.values found (values_to to xs) ≡ lines.values names xs
  args_same [] h = refl
  args_same (x ∷ xs) h = both_same (passed_same 100 x h.0) (args_same xs h.1)

  note_same : (n : ShownNote) → IsNote P n → note_words found (note_to to n) ≡ note_words names n
  note_same (Deliver m t q xs) h = both_same refl (both_same (message_same m h.0) (both_same (name_same t h.1) (both_same refl (args_same xs h.3))))
  note_same (DeliverOnly m t q xs) h = both_same refl (both_same (message_same m h.0) (both_same (name_same t h.1) (both_same refl (args_same xs h.3))))
  note_same (Settled n x) h = both_same refl (both_same (name_same n h.0) (both_same (passed_same 100 x h.1) refl))
  note_same (Elsewhere n v) h = both_same refl (both_same (name_same n h.0) (both_same (same v h.1) refl))
  note_same (Opens p q) h = both_same refl (both_same (name_same p h.0) (both_same (name_same q h.1) refl))
  note_same (Ask n v) h = both_same refl (both_same (name_same n h.0) (both_same (same v h.1) refl))
  note_same (Shorten p q) h = both_same refl (both_same (name_same p h.0) (both_same (name_same q h.1) refl))

  part_same : (word : List ℕ) (xs : List Shown) → AreValues P xs → part found word (values_to to xs) ≡ part names word xs
  part_same word [] h = refl
  part_same word (x ∷ xs) h = both_same refl (values_same (x ∷ xs) h)

  -- an activation, a word, and values behind these
  one_value : (a b : List ℕ) (x : Shown) → IsValue P x → a ∷ b ∷ lines.value found (value_to to x) ∷ [] ≡ a ∷ b ∷ lines.value names x ∷ []
  one_value a b x h = both_same refl (both_same refl (both_same (value_same x h) refl))

  two_vats : (a b : List ℕ) (v w : ℕ) → P v → P w → a ∷ b ∷ vat found (to v) ∷ vat found (to w) ∷ [] ≡ a ∷ b ∷ vat names v ∷ vat names w ∷ []
  two_vats a b v w h k = both_same refl (both_same refl (both_same (same v h) (both_same (same w k) refl)))

  slot_same : (a b : List ℕ) (s : ℕ × ℕ) (x : Shown) → IsThing P s.0 s.1 → IsValue P x
      → a ∷ b ∷ lines.numbered found (to s.0) 38 s.1 ∷ lines.value found (value_to to x) ∷ [] ≡ a ∷ b ∷ lines.numbered names s.0 38 s.1 ∷ lines.value names x ∷ []
  slot_same a b s x h k = both_same refl (both_same refl (both_same (thing_same s.0 38 s.1 h) (both_same (value_same x k) refl)))

  two_names : (a : List ℕ) (p q : Name) → IsName P p → IsName P q → a ∷ lines.name found (name_to to p) ∷ lines.name found (name_to to q) ∷ [] ≡ a ∷ lines.name names p ∷ lines.name names q ∷ []
  two_names a p q h k = both_same refl (both_same (name_same p h) (both_same (name_same q k) refl))

  raw_same : (line : RawLine) → IsRawRead P line → raw_words found (raw_to to line) ≡ raw_words names line
  raw_same (Inject k v w bytes) h = absurd h
  raw_same (InjectCut k v w) h = absurd h
  raw_same (Malformed k v w place) h = absurd h
  raw_same (Bytes k v w bytes) h = both_same refl (both_same refl (both_same (same v h.1) (both_same (same w h.2) refl)))
  raw_same (LeftBytes v w bytes) h = both_same refl (both_same refl (both_same (same v h.0) (both_same (same w h.1) refl)))

  pub event_same : (e : Event) → IsRead P e → words found (event_to to e) ≡ words names e
  event_same (Open v) h = both_same refl (both_same (same v h) refl)
  event_same (Turn k v) h = both_same refl (both_same refl (both_same (same v h.1) refl))
  event_same (Carry k v w note) h = both_same refl (both_same refl (both_same (same v h.1) (both_same (same w h.2) (note_same note h.3))))
  event_same (Cut k v w) h = two_vats (decimal k) (codes "cut") v w h.1 h.2
  event_same (Notice k v w) h = two_vats (decimal k) (codes "notice") v w h.1 h.2
  event_same (Frame bytes) h = absurd h
  event_same (Take t) h = both_same refl (both_same refl (both_same (message_same t.message h.1) (both_same (value_same t.target h.2) (both_same refl (values_same t.args h.4)))))
  event_same (Call c) h = both_same refl (both_same refl (both_same (value_same c.target h.1) (both_same refl (appended _ _ _ _ (values_same c.args h.3) refl))))
  event_same (Back a x) h = one_value (lines.activation a) (codes "back") x h.1
  event_same (Thrown a x) h = one_value (lines.activation a) (codes "thrown") x h.1
  event_same (Got a x) h = one_value (lines.activation a) (codes "got") x h.1
  event_same (SlotMade a s x) h = slot_same (lines.activation a) (codes "slot") s x h.1 h.2
  event_same (Read a s x) h = slot_same (lines.activation a) (codes "read") s x h.1 h.2
  event_same (Wrote a s x) h = slot_same (lines.activation a) (codes "wrote") s x h.1 h.2
  event_same (ListMade a l xs) h = both_same refl (both_same refl (both_same (thing_same l.0 37 l.1 h.1) (values_same xs h.2)))
  event_same (Arrived l xs) h = both_same refl (both_same (thing_same l.0 37 l.1 h.0) (values_same xs h.1))
  event_same (Ejector a o) h = one_value (lines.activation a) (codes "ejector") o h.1
  event_same (Audition a o) h = one_value (lines.activation a) (codes "audition") o h.1
  event_same (Promise a p o) h = both_same refl (both_same refl (both_same (name_same p h.1) (both_same (value_same o h.2) refl)))
  event_same (Made o) h = both_same refl (both_same refl (both_same (value_same o.object h.1) (both_same refl (appended _ _ _ _ (part_same (codes "caps") o.caps h.3) (part_same (codes "stamps") o.stamps h.4)))))
  event_same (Send m) h = both_same refl (both_same refl (both_same (message_same m.message h.1) (both_same (value_same m.target h.2) (both_same refl (appended _ _ _ _ (values_same m.args h.4) (both_same refl (both_same (name_same m.answer h.5) refl)))))))
  event_same (SendOnly t) h = both_same refl (both_same refl (both_same (message_same t.message h.1) (both_same (value_same t.target h.2) (both_same refl (values_same t.args h.4)))))
  event_same (When w) h =
      both_same refl (both_same refl (both_same (message_same w.message h.1) (both_same (value_same w.value h.2) (both_same (value_same w.reaction h.3) (both_same refl (both_same (name_same w.answer h.4) refl))))))
  event_same (Done a x) h = one_value (lines.activation a) (codes "done") x h.1
  event_same (Threw a x) h = one_value (lines.activation a) (codes "threw") x h.1
  event_same (Settle p x) h = both_same refl (both_same (name_same p h.0) (both_same (value_same x h.1) refl))
  event_same (Wait p q) h = two_names (codes "wait") p q h.0 h.1
  event_same (View p q) h = two_names (codes "view") p q h.0 h.1
  event_same (LostCut m) h = both_same refl (both_same (message_same m h) refl)
  event_same (LostBroken m) h = both_same refl (both_same (message_same m h) refl)
  event_same (LeftQueue v m) h = both_same refl (both_same refl (both_same (same v h.0) (both_same (message_same m h.1) refl)))
  event_same (LeftHeld v p m) h = both_same refl (both_same refl (both_same (same v h.0) (both_same (name_same p h.1) (both_same (message_same m h.2) refl))))
  event_same (LeftWait v x m) h = both_same refl (both_same refl (both_same (same v h.0) (both_same (value_same x h.1) (both_same (message_same m h.2) refl))))
  event_same (LeftLink v w note) h = both_same refl (both_same refl (both_same (same v h.0) (both_same (same w h.1) (note_same note h.2))))
  event_same (Raw line) h = raw_same line h
  event_same other h = refl

pub words_same : WordsAreSameByOtherNumbers
words_same names found to e h = event_same names found to (λ v. vat found (to v) ≡ vat names v) (λ v k. k) e h
