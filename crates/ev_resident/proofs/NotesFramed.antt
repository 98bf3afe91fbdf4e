-- The frame that the code makes of a note is that of the machine's note, for any names that the table has.
use Rattle.std.proofs.Common.{◌≡◌, ℕ, Bool, List, [], ◌∷◌, Some, refl, sym, ap}
use Rattle.ev_base.specs.declared.names.Msg.{Msg as ShownMsg}
use Rattle.def_run.specs.Numbers.{carried_in}
use Rattle.def_machine.specs.Maps as maps
use Rattle.def_machine.specs.Values.{Name, Local, Mess}
use Rattle.def_op.specs.Frames.{IsOp, Operation, spelling}
use Rattle.ev_intro.specs.Word.{Drawn}
use Rattle.ev_resident.specs.Noting.{Noting}
use Rattle.ev_resident.specs.Printing.{Agrees, telling_in}
use Rattle.ev_resident.specs.NamesStanding.{mail_of, words_of}
use Rattle.ev_resident.proofs.NotesShown.{notes_shown}
use Rattle.ev_pass.specs.Notes.{Noted, Deliver, Open, Ask, Settled, Elsewhere, Shorten}
use Rattle.ev_pass.specs.Reading.{note_by}
use Rattle.ev_room.specs.Reading.{World, texts_of}
use Rattle.ev_step_lines.specs.Lines.{Naming, mail_at}
use Rattle.ev_ways.specs.Standing.{IsFrame, asks_in, named_message, told_message}
use Rattle.ev_resident.specs.Notes.{asks_of, frame_by, message_of}

module _ (d : Drawn) (f : Local → Name) (n : Naming) (cut : List Bool) (w : World) (agrees : Agrees (words_of d) f n) (mails : (m : ℕ) → f (Mess m) ≡ mail_of (mail_at n m)) where
  abbrev noting : Noting
  noting = record { telling = telling_in n w cut; drawn = d }

  message_is : (x : Noted) → message_of n x ≡ told_message (words_of d) (carried_in (maps.note f (note_by (texts_of w) x)))
  unfolding told_message carried_in
  message_is (Deliver m answer x verb ps) = ap (λ (y : ShownMsg). Some y) (sym (agrees.message m))
  message_is (Open i x) = refl
  message_is (Ask p i a) = refl
  message_is (Settled a p) = refl
  message_is (Elsewhere a c) = refl
  message_is (Shorten a c i) = refl

  asks_are : (x : Noted) → asks_of x ≡ asks_in (maps.note f (note_by (texts_of w) x))
  unfolding asks_in
  asks_are (Deliver m answer x verb ps) = refl
  asks_are (Open i x) = refl
  asks_are (Ask p i a) = refl
  asks_are (Settled a p) = refl
  asks_are (Elsewhere a c) = refl
  asks_are (Shorten a c i) = refl

  named_is : (x : Noted) → carried_in (maps.note f (note_by (texts_of w) x)) ≡ named_message (message_of n x)
  unfolding carried_in
  named_is (Deliver m answer x verb ps) = ap (λ (y : Name). y ∷ []) (mails m)
  named_is (Open i x) = refl
  named_is (Ask p i a) = refl
  named_is (Settled a p) = refl
  named_is (Elsewhere a c) = refl
  named_is (Shorten a c i) = refl

  -- the frame of a note, as the code has it
  pub frame_is : (to : ℕ) (x : Noted) (op : Operation) (bytes : List ℕ) → bytes ≡ spelling op → IsOp op
      → IsFrame (words_of d) to (record { note = maps.note f (note_by (texts_of w) x); op = op }) (frame_by noting to x bytes)
  frame_is to x op bytes spelled fits = record { spelled = spelled; fits = fits; told = sym (notes_shown d f n cut w agrees to x); brought = message_is x; named = named_is x; asking = asks_are x }
