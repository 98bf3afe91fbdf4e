-- Notes as the code shows them are shown as in the machine.
use Rattle.std.proofs.Common.{◌≡◌, ℕ, Bool, List, ◌∷◌, Some, None, refl, sym, ap, ◌∙◌}
use Rattle.ev_base.specs.declared.names.Name.{Name as ShownName}
use Rattle.ev_base.specs.declared.names.Name.TheVariants as name
use Rattle.ev_base.specs.declared.values.Value.{Value as Held}
use Rattle.ev_base.specs.declared.values.Value.TheVariants as held
use Rattle.def_event.specs.Lines.{members}
use Rattle.def_event.specs.declared.note.ShownNote.TheVariants as note
use Rattle.def_event.specs.declared.shown.Shown.{Shown}
use Rattle.def_event.specs.declared.shown.Shown as shown
use Rattle.def_machine.specs.Maps as maps
use Rattle.def_machine.specs.Values.{Name, Local, word_of}
use Rattle.def_run.specs.Shown as machine
use Rattle.def_run.specs.Shown.{shown_value, shown_gift, shown_name, shown_delivery}
use Rattle.ev_intro.specs.Word.{Drawn}
use Rattle.ev_pass.specs.Notes.{Parcel, Parcels, Plain, Gift, Many, NoMore, More, Noted, Deliver, Open, Ask, Settled, Elsewhere, Shorten}
use Rattle.ev_pass.specs.Reading.{note_by, reference_by, passed_by, passeds_by}
use Rattle.ev_pass.specs.declared.note.Reference.{Reference}
use Rattle.ev_pass.specs.declared.note.Reference.TheVariants as reference
use Rattle.ev_room.specs.Reading.{World, texts_of, value_of}
use Rattle.ev_step_lines.specs.Lines.{Naming, Telling}
use Rattle.ev_resident.specs.Names.{gift_at}
use Rattle.ev_resident.specs.Noting.{Noting, shown_plain, shown_parcel, shown_parcels, shown_reference, delivered, noted_line}
use Rattle.ev_resident.specs.Printing.{Agrees, NotesAreShown, telling_in}
use Rattle.ev_resident.specs.NamesStanding.{words_of}
use Rattle.ev_resident.proofs.Places.{place_is}

module _ (d : Drawn) (f : Local → Name) (n : Naming) (cut : List Bool) (w : World) (agrees : Agrees (words_of d) f n) where
  abbrev telling : Telling
  telling = telling_in n w cut

  abbrev noting : Noting
  noting = record { telling = telling; drawn = d }

  plain_shown : (v : Held) → shown_value (words_of d) 0 (maps.value f (value_of w v)) ≡ shown_plain telling v
  unfolding shown_value
  plain_shown held.Null = refl
  plain_shown (held.Bool b) = refl
  plain_shown (held.Int z) = refl
  plain_shown (held.Char c) = refl
  plain_shown (held.Text id) = refl
  plain_shown (held.List id) = refl
  plain_shown (held.Prim k) = refl
  plain_shown (held.Obj i) = ap (λ (x : ShownName). shown.Name x) (agrees.object i)
  plain_shown (held.Prom k) = ap (λ (x : ShownName). shown.Name x) (agrees.promise k)
  plain_shown (held.Far h p) = ap (λ (x : ShownName). shown.Name x) (agrees.far h p)
  plain_shown (held.Broken id) = refl

  reference_shown : (x : Reference) → shown_name (words_of d) (f (reference_by x)) ≡ shown_reference telling x
  reference_shown (reference.Object i) = agrees.object i
  reference_shown (reference.Promise k) = agrees.promise k
  reference_shown (reference.Far h p) = agrees.far h p

  key_shown : (h k : ℕ) → shown_gift (words_of d) h k ≡ gift_at d h (word_of k)
  unfolding shown_gift
  key_shown h k = ap (λ (m : ℕ). name.Gift h m) (sym (place_is d (word_of k)))

  mutual
    unfolding machine.shown_passed machine.shown_all passed_by passeds_by shown_parcel shown_parcels

    parcel_shown : (p : Parcel) → machine.shown_passed (words_of d) (maps.passed f (passed_by (texts_of w) p)) ≡ shown_parcel noting p
    parcel_shown (Plain v) = plain_shown v
    parcel_shown (Gift h k) = ap (λ (x : ShownName). shown.Name x) (key_shown h k)
    parcel_shown (Many ps) = ap members (parcels_shown ps)

    parcels_shown : (ps : Parcels) → machine.shown_all (words_of d) (maps.passeds f (passeds_by (texts_of w) ps)) ≡ shown_parcels noting ps
    parcels_shown NoMore = refl
    parcels_shown (More p ps) =
        ap (λ (x : Shown). x ∷ machine.shown_all (words_of d) (maps.passeds f (passeds_by (texts_of w) ps))) (parcel_shown p)
        ∙ ap (λ (xs : List Shown). shown_parcel noting p ∷ xs) (parcels_shown ps)

  note_shown : (to : ℕ) (m : Noted) → machine.shown_note (words_of d) to (maps.note f (note_by (texts_of w) m)) ≡ noted_line noting to m
  unfolding machine.shown_note shown_delivery delivered noted_line
  note_shown to (Deliver m None x verb ps) = rw (agrees.message m, reference_shown x, parcels_shown ps) refl
  note_shown to (Deliver m (Some a) x verb ps) = rw (agrees.message m, reference_shown x, parcels_shown ps) refl
  note_shown to (Open k x) = cc (key_shown to k, reference_shown x)
  note_shown to (Ask p k a) = ap (λ (x : ShownName). note.Ask x p) (agrees.promise a)
  note_shown to (Settled a p) = cc (agrees.promise a, parcel_shown p)
  note_shown to (Elsewhere a c) = ap (λ (x : ShownName). note.Elsewhere x c) (agrees.promise a)
  note_shown to (Shorten a c k) = cc (agrees.promise a, key_shown c k)

pub notes_shown : NotesAreShown
notes_shown d f n cut w agrees to m = note_shown d f n cut w agrees to m
