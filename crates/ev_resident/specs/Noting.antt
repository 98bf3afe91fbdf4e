-- Notes as the lines of a history print them, in the code's terms.
use Rattle.std.specs.Prelude.{ℕ, List, [], ◌∷◌, Option, Some, None}
use Rattle.ev_base.specs.declared.names.Msg.{Msg}
use Rattle.ev_base.specs.declared.names.Name.{Name}
use Rattle.ev_base.specs.declared.names.Name.TheVariants as name
use Rattle.ev_base.specs.declared.values.Value.{Value as Held}
use Rattle.ev_base.specs.declared.values.Value.TheVariants as held
use Rattle.def_event.specs.Lines.{members}
use Rattle.def_event.specs.declared.note.ShownNote.{ShownNote}
use Rattle.def_event.specs.declared.note.ShownNote.TheVariants as note
use Rattle.def_event.specs.declared.shown.Shown.{Shown}
use Rattle.def_event.specs.declared.shown.Shown as shown
use Rattle.def_machine.specs.Values.{word_of}
use Rattle.ev_intro.specs.Word.{Drawn}
use Rattle.ev_pass.specs.Notes.{Parcel, Parcels, Plain, Gift, Many, NoMore, More, Noted, Deliver, Open, Ask, Settled, Elsewhere, Shorten}
use Rattle.ev_pass.specs.declared.note.Reference.{Reference}
use Rattle.ev_pass.specs.declared.note.Reference.TheVariants as reference
use Rattle.ev_step_lines.specs.Lines.{Telling, name_at, mail_at, object_at, shown_held}
use Rattle.ev_resident.specs.Names.{gift_at}

-- the vat that puts the note, as its lines are told, and the words that were drawn
pub record Noting : Type 0 where
  pub telling : Telling
  pub drawn : Drawn

abbrev pub shown_reference : Telling → Reference → Name
shown_reference t (reference.Object i) = name.Object t.naming.vat i
shown_reference t (reference.Promise k) = name_at t.naming k
shown_reference t (reference.Far h p) = name.Object h (object_at t.naming h p)

-- A list passes by its members. The number of one would be shown as vat 0's.
abbrev pub shown_plain : Telling → Held → Shown
shown_plain t (held.List id) = shown.List 0 id
shown_plain t v = shown_held t v

unfoldable mutual
  pub shown_parcel : Noting → Parcel → Shown
  shown_parcel n (Plain v) = shown_plain n.telling v
  shown_parcel n (Gift h k) = shown.Name (gift_at n.drawn h (word_of k))
  shown_parcel n (Many ps) = members (shown_parcels n ps)

  pub shown_parcels : Noting → Parcels → List Shown
  shown_parcels n NoMore = []
  shown_parcels n (More p ps) = shown_parcel n p ∷ shown_parcels n ps

-- a message, by whether it asks for an answer
unfoldable pub delivered : Option ℕ → Msg → Name → List ℕ → List Shown → ShownNote
delivered (Some a) m x verb args = note.Deliver m x verb args
delivered None m x verb args = note.DeliverOnly m x verb args

-- a note to that vat
unfoldable pub noted_line : Noting → ℕ → Noted → ShownNote
noted_line n w (Deliver m answer x verb ps) = delivered answer (mail_at n.telling.naming m) (shown_reference n.telling x) verb (shown_parcels n ps)
noted_line n w (Open k x) = note.Open (gift_at n.drawn w (word_of k)) (shown_reference n.telling x)
noted_line n w (Ask p k a) = note.Ask (name_at n.telling.naming a) p
noted_line n w (Settled a p) = note.Settled (name_at n.telling.naming a) (shown_parcel n p)
noted_line n w (Elsewhere a c) = note.Elsewhere (name_at n.telling.naming a) c
noted_line n w (Shorten a c k) = note.Shorten (name_at n.telling.naming a) (gift_at n.drawn c (word_of k))
