-- The frames that the code makes of what was put are those of the run.
use Rattle.std.proofs.Common.{◌≡◌, ℕ, Bool, List, [], ◌∷◌, ◌++◌, length, map, get_or, Some, sym, ap, subst, ◌+◌, arith, ◌∙◌}
use Rattle.std.specs.Prelude.{option_map, slice_get}
use Rattle.std.proofs.lemmas.List.{length-append}
use Rattle.std.proofs.lemmas.Option.{slice_get-map}
use Rattle.def_run.specs.Numbers.{Addressed as Framed, frames_of, written_on}
use Rattle.def_run.specs.Vats.{sight_for, unconnected}
use Rattle.def_machine.specs.Maps as maps
use Rattle.def_machine.specs.State.{Vat}
use Rattle.def_machine.specs.Values.{Name, Local, Mess}
use Rattle.def_op.specs.Frames.{IsOp}
use Rattle.def_run.specs.Connections.{Connection, frame_now}
use Rattle.ev_intro.specs.Word.{Drawn}
use Rattle.ev_vat.specs.Sending.{AreOps, Sent as Packed, sending_of, spelled}
use Rattle.ev_vat.specs.declared.sending.Sending.{Sending}
use Rattle.ev_resident.specs.Noting.{Noting}
use Rattle.ev_resident.specs.Printing.{Agrees, telling_in}
use Rattle.ev_resident.specs.NamesStanding.{mail_of, words_of}
use Rattle.ev_resident.specs.Notes.{frame_by}
use Rattle.ev_resident.proofs.NotesFramed.{frame_is}
use Rattle.ev_pass.specs.Notes.{Sent, sent}
use Rattle.ev_pass.specs.Reading.{note_by, put_by}
use Rattle.ev_pass.specs.declared.post.Put.{Put as Posted}
use Rattle.ev_resident.specs.Framing.{AreOutgoing, IsOutgoing, all_outgoing, outgoing_by}
use Rattle.ev_resident.specs.declared.outgoing.Outgoing.{Outgoing}
use Rattle.ev_room.specs.Reading.{World, texts_of}
use Rattle.ev_step_lines.specs.Lines.{Naming, mail_at}
use Rattle.ev_ways.specs.Standing.{IsFrame}

-- one frame more, of what was put as the next
pub all_more : (n : Noting) (xs : List Sending) (ps : List Sent) (x : Sending) (p : Sent) → slice_get ps (length xs) ≡ Some p
    → all_outgoing n (xs ++ x ∷ []) ps ≡ all_outgoing n xs ps ++ outgoing_by n p x ∷ []
unfolding all_outgoing
all_more n [] [] x p e = absurd cc
all_more n [] (q ∷ ps) x p e = let same : q ≡ p = cc in ap (λ (r : Sent). outgoing_by n r x ∷ []) same
all_more n (y ∷ xs) [] x p e = absurd cc
all_more n (y ∷ xs) (q ∷ ps) x p e = ap (λ (zs : List Outgoing). outgoing_by n q y ∷ zs) (all_more n xs ps x p e)

-- so are the frames so far, and one more
pub goes_on : (n : Noting) (xs : List Sending) (puts : List Posted) (x : Sending) (p : Posted) (index : ℕ) (so_far out : List Outgoing) (y : Outgoing)
    → slice_get puts index ≡ Some p → y ≡ outgoing_by n (sent p) x → out ≡ so_far ++ y ∷ [] → (so_far ≡ all_outgoing n xs (map sent puts)) × (index ≡ length xs)
    → (out ≡ all_outgoing n (xs ++ x ∷ []) (map sent puts)) × (index + 1 ≡ length (xs ++ x ∷ []))
goes_on n xs puts x p index so_far out y there is grown same =
    let at = same.1 in (
      grown
          ∙ ap (λ (z : Outgoing). so_far ++ z ∷ []) is
          ∙ ap (λ (zs : List Outgoing). zs ++ outgoing_by n (sent p) x ∷ []) same.0
          ∙ sym (all_more n xs (map sent puts) x (sent p) (slice_get-map sent puts (length xs) ∙ ap (λ (k : ℕ). option_map sent (slice_get puts k)) (sym at) ∙ ap (option_map sent) there)),
      omega (arith, length-append xs (x ∷ []), at),
    )

-- how the vat's notes are told
abbrev pub noting : Drawn → Naming → List Bool → World → Noting
noting d n cut w = record { telling = telling_in n w cut; drawn = d }

module _ (d : Drawn) (f : Local → Name) (n : Naming) (cut : List Bool) (w : World) (agrees : Agrees (words_of d) f n) (mails : (m : ℕ) → f (Mess m) ≡ mail_of (mail_at n m)) (s : Vat Local) where
  -- the frame of the run for what was put, with what is had then
  abbrev framed : Sent → List (Connection Local) → Framed
  framed p cs = record { to = p.to; frame = record { note = maps.note f (note_by (texts_of w) p.note); op = frame_now (sight_for s (note_by (texts_of w) p.note)) (note_by (texts_of w) p.note) (get_or cs p.to unconnected) } }

  one_outgoing : (p : Sent) (x : Sending) (cs : List (Connection Local)) → sending_of x ≡ spelled (framed p cs) → IsOp (framed p cs).frame.op → IsOutgoing (words_of d) (framed p cs) (outgoing_by (noting d n cut w) p x)
  one_outgoing p x cs e fits =
      let to : x.to ≡ p.to = ap (λ (y : Packed). y.to) e in
      record {
        to = to;
        frame = subst (λ (v : ℕ). IsFrame (words_of d) p.to (framed p cs).frame (frame_by (noting d n cut w) v p.note x.bytes)) (sym to)
            (frame_is d f n cut w agrees mails p.to p.note (framed p cs).frame.op x.bytes (ap (λ (y : Packed). y.bytes) e) fits);
      }

  pub are_outgoing : (ps : List Sent) (xs : List Sending) (cs : List (Connection Local)) → map sending_of xs ≡ map spelled (frames_of s f (map (put_by (texts_of w)) ps) cs) → AreOps (frames_of s f (map (put_by (texts_of w)) ps) cs)
      → AreOutgoing (words_of d) (frames_of s f (map (put_by (texts_of w)) ps) cs) (all_outgoing (noting d n cut w) xs ps)
  unfolding frames_of all_outgoing
  are_outgoing [] [] cs e fits = tt
  are_outgoing [] (x ∷ xs) cs e fits = absurd cc
  are_outgoing (p ∷ ps) [] cs e fits = absurd cc
  are_outgoing (p ∷ ps) (x ∷ xs) cs e fits =
      let first : sending_of x ≡ spelled (framed p cs) = cc in
      let others : map sending_of xs ≡ map spelled (frames_of s f (map (put_by (texts_of w)) ps) (written_on s (put_by (texts_of w) p) cs)) = cc in
      (one_outgoing p x cs first fits.0, are_outgoing ps xs (written_on s (put_by (texts_of w) p) cs) others fits.1)
