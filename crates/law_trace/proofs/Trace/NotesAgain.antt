-- Notes are read again.
use Rattle.std.proofs.Common.{◌≡◌, ℕ, true, false, List, [], ◌∷◌, Some, refl, ◌∙◌, ap}
use Rattle.std.specs.Prelude.{Result, Ok, codes}
use Rattle.ev_base.specs.declared.names.Msg.{Msg}
use Rattle.ev_base.specs.declared.names.Name.{Name}
use Rattle.def_text.specs.Keywords.{printed_verb}
use Rattle.def_event.specs.declared.shown.Shown.{Shown}
use Rattle.def_event.specs.declared.note.ShownNote.{ShownNote}
use Rattle.def_event.specs.declared.note.ShownNote.TheVariants.{Deliver, DeliverOnly, Settled, Elsewhere, Open as Opens, Ask, Shorten}
use Rattle.def_event.specs.Lines.{note_words}
use Rattle.def_event.specs.Lines as lines
use Rattle.ev_script.specs.Vats.{place_of}
use Rattle.law_text.specs.Text.Feeds.{AllOf}
use Rattle.ev_trace_words.specs.Laws.{AreNames}
use Rattle.ev_trace_words.specs.Parts.{message, name}
use Rattle.ev_trace_words.specs.Texts.{verb}
use Rattle.ev_trace_words.specs.Values.{note_value, note_values}
use Rattle.ev_trace_words.proofs.Printed.{message_again, name_again, place_again}
use Rattle.def_event.specs.declared.event.Event.TheVariants.{Carry, LeftLink}
use Rattle.ev_script.specs.Script.{◌>>=◌}
use Rattle.ev_trace_lines.specs.Events.{Words, carried_of, delivering, delivery, delivery_with, left_on, name_and_vat, note_of, settled_note, two_names, two_words}
use Rattle.law_trace.specs.Trace.Seen.{seen_note, seen_value, seen_values}
use Rattle.law_trace.specs.Trace.Readable.{Below, IsMessage, IsName, IsNote, IsPassed}
use Rattle.law_trace.proofs.Trace.PassedAgain.{passed_again}
use Rattle.law_trace.proofs.Trace.AnyValue.{fits}
use Rattle.law_trace.proofs.Trace.LinesAgain.{all_again, goes, verb_again}

module _ (names : List (List ℕ)) where
  delivery_by : (m t v : List ℕ) (ws : Words) (id : Msg) (target : Name) (q : List ℕ) (xs : List Shown) → message names m ≡ Some id → name names t ≡ Some target → verb v ≡ Ok q → note_values names ws ≡ Ok xs
      → delivery names (m ∷ t ∷ v ∷ ws) ≡ Ok (record { message = id; target = target; verb = q; args = xs })
  unfolding delivery_with
  delivery_by m t v ws id target q xs e f g h = rw e (rw f (rw g (rw h refl)))

  delivers : (ws : Words) (m : Msg) (t : Name) (q : List ℕ) (xs : List Shown) → delivery names ws ≡ Ok (record { message = m; target = t; verb = q; args = xs }) → delivering names false ws ≡ Ok (Deliver m t q xs)
  delivers ws m t q xs e = rw e refl

  delivers_only : (ws : Words) (m : Msg) (t : Name) (q : List ℕ) (xs : List Shown) → delivery names ws ≡ Ok (record { message = m; target = t; verb = q; args = xs }) → delivering names true ws ≡ Ok (DeliverOnly m t q xs)
  delivers_only ws m t q xs e = rw e refl

  pub two_names_by : (x y : List ℕ) (p q : Name) → name names x ≡ Some p → name names y ≡ Some q → two_names names (x ∷ y ∷ []) ≡ Ok (p, q)
  unfolding two_words
  two_names_by x y p q e f = rw e (rw f refl)

  name_and_vat_by : (x y : List ℕ) (p : Name) (v : ℕ) → name names x ≡ Some p → place_of names y ≡ Some v → name_and_vat names (x ∷ y ∷ []) ≡ Ok (p, v)
  unfolding two_words
  name_and_vat_by x y p v e f = rw e (rw f refl)

  settled_by : (x y : List ℕ) (p : Name) (s : Shown) → name names x ≡ Some p → note_value names 100 y ≡ Ok s → settled_note names (x ∷ y ∷ []) ≡ Ok (Settled p s)
  unfolding two_words
  settled_by x y p s e f = rw e (rw f refl)

module _ (names : List (List ℕ)) (are : AreNames names) where
  name_back : (n : Name) → IsName (Below names) n → name names (lines.name names n) ≡ Some n
  name_back n h = name_again names n are (fits names n h)

  args_back : (xs : List Shown) → AllOf (IsPassed (Below names) 100) xs → note_values names (lines.values names xs) ≡ Ok (seen_values xs)
  args_back xs h = all_again (note_value names 100) (lines.value names) seen_value (IsPassed (Below names) 100) (passed_again names are 100) xs h

  delivery_back : (m : Msg) (t : Name) (q : List ℕ) (xs : List Shown) → IsMessage (Below names) m → IsName (Below names) t → AllOf (IsPassed (Below names) 100) xs
      → delivery names (lines.message names m ∷ lines.name names t ∷ printed_verb q ∷ lines.values names xs) ≡ Ok (record { message = m; target = t; verb = q; args = seen_values xs })
  delivery_back m t q xs h k l = delivery_by names (lines.message names m) (lines.name names t) (printed_verb q) (lines.values names xs) m t q (seen_values xs) (message_again names m are h.0 h.1) (name_back t k) (verb_again q) (args_back xs l)

  -- the first word of a note, and the others
  abbrev pub kind_of : ShownNote → List ℕ
  kind_of (Deliver m t q xs) = codes "deliver"
  kind_of (DeliverOnly m t q xs) = codes "deliveronly"
  kind_of (Settled n x) = codes "settled"
  kind_of (Elsewhere n v) = codes "elsewhere"
  kind_of (Opens p q) = codes "open"
  kind_of (Ask n v) = codes "ask"
  kind_of (Shorten p q) = codes "shorten"

  abbrev pub rest_of : ShownNote → Words
  rest_of (Deliver m t q xs) = lines.message names m ∷ lines.name names t ∷ printed_verb q ∷ lines.values names xs
  rest_of (DeliverOnly m t q xs) = lines.message names m ∷ lines.name names t ∷ printed_verb q ∷ lines.values names xs
  rest_of (Settled n x) = lines.name names n ∷ lines.value names x ∷ []
  rest_of (Elsewhere n v) = lines.name names n ∷ lines.vat names v ∷ []
  rest_of (Opens p q) = lines.name names p ∷ lines.name names q ∷ []
  rest_of (Ask n v) = lines.name names n ∷ lines.vat names v ∷ []
  rest_of (Shorten p q) = lines.name names p ∷ lines.name names q ∷ []

  pub in_words : (n : ShownNote) → note_words names n ≡ kind_of n ∷ rest_of n
  in_words (Deliver m t q xs) = refl
  in_words other = refl

  note_again : (n : ShownNote) → IsNote (Below names) n → note_of names (kind_of n) (rest_of n) ≡ Ok (seen_note n)
  note_again (Deliver m t q xs) h = delivers names (lines.message names m ∷ lines.name names t ∷ printed_verb q ∷ lines.values names xs) m t q (seen_values xs) (delivery_back m t q xs h.0 h.1 h.3)
  note_again (DeliverOnly m t q xs) h = delivers_only names (lines.message names m ∷ lines.name names t ∷ printed_verb q ∷ lines.values names xs) m t q (seen_values xs) (delivery_back m t q xs h.0 h.1 h.3)
  note_again (Settled n x) h = settled_by names (lines.name names n) (lines.value names x) n (seen_value x) (name_back n h.0) (passed_again names are 100 x h.1)
  note_again (Elsewhere n v) h = goes _ _ (λ (p : Name × ℕ). Ok (Elsewhere p.0 p.1)) (name_and_vat_by names (lines.name names n) (lines.vat names v) n v (name_back n h.0) (place_again names v are.apart h.1))
  note_again (Opens p q) h = goes _ _ (λ (n : Name × Name). Ok (Opens n.0 n.1)) (two_names_by names (lines.name names p) (lines.name names q) p q (name_back p h.0) (name_back q h.1))
  note_again (Ask n v) h = goes _ _ (λ (p : Name × ℕ). Ok (Ask p.0 p.1)) (name_and_vat_by names (lines.name names n) (lines.vat names v) n v (name_back n h.0) (place_again names v are.apart h.1))
  note_again (Shorten p q) h = goes _ _ (λ (n : Name × Name). Ok (Shorten n.0 n.1)) (two_names_by names (lines.name names p) (lines.name names q) p q (name_back p h.0) (name_back q h.1))

  -- a note is no bytes of a frame
  as_carried : (k v w : ℕ) (n : ShownNote) → carried_of names k v w (kind_of n) (rest_of n) ≡ (note_of names (kind_of n) (rest_of n) >>= (λ m. Ok (Carry k v w m)))
  as_carried k v w (Deliver m t q xs) = refl
  as_carried k v w other = refl

  as_left : (v w : ℕ) (n : ShownNote) → left_on names v w (kind_of n) (rest_of n) ≡ (note_of names (kind_of n) (rest_of n) >>= (λ m. Ok (LeftLink v w m)))
  as_left v w (Deliver m t q xs) = refl
  as_left v w other = refl

  pub carried_again : (k v w : ℕ) (n : ShownNote) → IsNote (Below names) n → carried_of names k v w (kind_of n) (rest_of n) ≡ Ok (Carry k v w (seen_note n))
  carried_again k v w n h = as_carried k v w n ∙ ap (λ (r : Result ShownNote ℕ). r >>= (λ m. Ok (Carry k v w m))) (note_again n h)

  pub left_again : (v w : ℕ) (n : ShownNote) → IsNote (Below names) n → left_on names v w (kind_of n) (rest_of n) ≡ Ok (LeftLink v w (seen_note n))
  left_again v w n h = as_left v w n ∙ ap (λ (r : Result ShownNote ℕ). r >>= (λ m. Ok (LeftLink v w m))) (note_again n h)
