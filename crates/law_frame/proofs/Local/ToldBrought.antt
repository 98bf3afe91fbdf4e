-- A note brings no promise of its receiver that the receiver does not know.
use Rattle.std.proofs.Common.{◌≡◌, ℕ, Bool, true, false, List, [], ◌∷◌, ◌++◌, Option, Some, None, sym, subst, ◌⊎◌, inl, inr, arith}
use Rattle.std.specs.Prelude.{slice_get}
use Rattle.def_machine.specs.Values.{Value, Ref, Name, Promise, Gift, Sent, answer_of}
use Rattle.def_machine.specs.State.{Passed, Passeds, Plain, AGift, Many, NoMore, More, Note, Deliver, Open, Ask, SettledTo, Elsewhere, Shorten, Vat}
use Rattle.def_run.specs.World.{Script, World, is_old, known_after, read_value, read_passed, read_all, plain_read, many_read, more_read}
use Rattle.law_machine.specs.Machine.Steps.{Step, Receives}
use Rattle.law_fate.specs.Name.Names.{Bit, Named, IsAmong, IsMessageName, ValueOk, PassedOk, PassedsOk, NoteOk, names_in}
use Rattle.law_fate.proofs.Name.Among.{among_or, promises_at}
use Rattle.law_fate.proofs.Name.Run.{Told, Stands}
use Rattle.law_frame.specs.Frame.Alike.{names_heard}
use Rattle.law_frame.specs.Frame.Lines.{DueIn}
use Rattle.law_frame.proofs.Frame.ArriveAsking.{MailFits}
use Rattle.law_frame.proofs.Frame.WireRuns.{mail_fits}
use Rattle.law_frame.specs.Local.Told.{IsBroughtBy}
use Rattle.law_frame.proofs.Local.ToldEntries.{Brings}
use Rattle.law_frame.proofs.Local.ToldSteady.{note_made}

-- where a promise of vat v in a note is known
module _ (known : List Name) (v : ℕ) (P : Bit Name → Type 0) (own : (i : ℕ) → P (Named (Promise v i)) → IsAmong (Promise v i) known) where
  -- the promises of v among these names are known
  abbrev pub OldOwn : List Name → Type 0
  OldOwn ks = (i : ℕ) → IsAmong (Promise v i) ks → IsAmong (Promise v i) known

  no_gift : (h i j : ℕ) → Promise v i ≡ Gift h j → ⊥
  no_gift h i j e = cc

  after_either : (ks : List Name) (n : Name) (b : Bool) → P (Named n) → OldOwn ks → OldOwn (elim b [ true ↦ ks | false ↦ ks ++ n ∷ [] ])
  after_either ks n true p h i a = h i a
  after_either ks n false p h i a = go (among_or (Promise v i) ks n a)
    where
      go : IsAmong (Promise v i) ks ⊎ (Promise v i ≡ n) → IsAmong (Promise v i) known
      go (inl b) = h i b
      go (inr e) = own i (subst (λ (x : Name). P (Named x)) (sym e) p)

  after_old : (ks : List Name) (n : Name) → P (Named n) → OldOwn ks → OldOwn (known_after ks n)
  unfolding known_after
  after_old ks n p h = after_either ks n (is_old ks n) p h

  value_old : (ks : List Name) (y : Value Name) → ValueOk P y → OldOwn ks → OldOwn (read_value ks y).known
  unfolding read_value
  value_old ks (Ref n) p h = after_old ks n p h
  value_old ks other p h = h

  gift_old : (ks : List Name) (g j : ℕ) → OldOwn ks → OldOwn (ks ++ Gift g j ∷ [])
  gift_old ks g j h i a = go (among_or (Promise v i) ks (Gift g j) a)
    where
      go : IsAmong (Promise v i) ks ⊎ (Promise v i ≡ Gift g j) → IsAmong (Promise v i) known
      go (inl b) = h i b
      go (inr e) = absurd (no_gift g i j e)

  mutual
    unfolding read_passed read_all plain_read many_read more_read

    passed_old : (ks : List Name) (y : Passed Name) → PassedOk P y → OldOwn ks → OldOwn (read_passed y ks).known
    passed_old ks (Plain y) p h = value_old ks y p h
    passed_old ks (AGift g j) p h = gift_old ks g j h
    passed_old ks (Many ys) p h = all_old ks ys p h

    all_old : (ks : List Name) (ys : Passeds Name) → PassedsOk P ys → OldOwn ks → OldOwn (read_all ys ks).known
    all_old ks NoMore p h = h
    all_old ks (More y ys) p h = all_old (read_passed y ks).known ys p.1 (passed_old ks y p.0 h)

  pub note_old : (ks : List Name) (n : Note Name) → NoteOk P n → OldOwn ks → OldOwn (names_heard ks n)
  unfolding names_heard
  note_old ks (Deliver d n verb ys) p h = after_old (read_all ys ks).known n p.1 (all_old ks ys p.2 h)
  note_old ks (Open j n) p h = after_old ks n p.1 h
  note_old ks (Ask g j n) p h = h
  note_old ks (SettledTo n y) p h = passed_old (known_after ks n) y p.1 (after_old ks n p.0 h)
  note_old ks (Elsewhere n c) p h = after_old ks n p.0 h
  note_old ks (Shorten n c j) p h = after_old ks n p.0 h

-- an answer is no promise
no_answer : (v i : ℕ) (m : Name) → IsMessageName m → answer_of v m ≡ Promise v i → ⊥
unfolding answer_of
no_answer v i (Sent m) h e = cc
no_answer v i other h e = h

not_due : (v i : ℕ) (n : Note Name) → MailFits n → DueIn v n (Promise v i) → ⊥
not_due v i (Deliver d n verb ys) h e = no_answer v i d.message h e.1
not_due v i other h e = e

none_some : (n : Note Name) → Some n ≡ None → ⊥
none_some n e = cc

module _ (script : Script) (w : World) (g : Stands script w) (v : ℕ) (s : Vat Name) (there : slice_get w.vats v ≡ Some s) where
  own_known : (i : ℕ) → Told script w (Named (Promise v i)) → IsAmong (Promise v i) (names_in s.known)
  own_known i p = let kept = (g.vats v s there).kept in kept.own i (let e = promises_at w.vats v s there in let l = p.0 in omega arith)

  brought_by : (from : ℕ) (n : Note Name) → NoteOk (Told script w) n → (i : ℕ) → IsAmong (Promise v i) (names_heard (names_in s.known) n) ⊎ DueIn v n (Promise v i) → IsAmong (Promise v i) (names_in s.known)
  brought_by from n ok i (inl a) = note_old (names_in s.known) v (Told script w) own_known (names_in s.known) n ok (λ j b. b) i a
  brought_by from n ok i (inr k) = absurd (not_due v i n (mail_fits script w.vats (Told script w) (λ m j. j.0) n ok) k)

  pub brings_none : (what : Step Name Name) (o : Option (Note Name)) → Brings w v s what o → (i : ℕ) → IsBroughtBy v (names_in s.known) o (Promise v i) → IsAmong (Promise v i) (names_in s.known)
  brings_none what None b i a = absurd a
  brings_none (Receives from m) (Some n) b i a = brought_by from n (note_made script w g from v b.0 n b.1 b.2) i a
  brings_none other (Some n) b i a = absurd (none_some n b)
