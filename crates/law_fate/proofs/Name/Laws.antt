-- The laws of names in runs.
use Rattle.std.proofs.Common.{◌≡◌, ℕ, ◌<◌, [], Some, sym, append-nil, arith}
use Rattle.std.specs.Prelude.{slice_get}
use Rattle.def_machine.specs.Values.{Name, Promise, Answer, Gift, Foreign, spot_of, naming}
use Rattle.def_machine.specs.State.{Vat}
use Rattle.def_run.specs.World.{Script, World, names}
use Rattle.law_fate.specs.Name.Names.{IsAmong, promises_of, messages_of, WasMade, IsMade, IsHad, names_in, IsEventual, IsMessageName}
use Rattle.law_fate.specs.Name.Runs.{InRuns, InEachVat, NamesWereMade, NotesNameWhatWasMade, NamesAreKnown, HostsAreTrue, RootsAndPromisesAreKnownOnce, OwnPromisesAreKnown, NextNamesAreNew, NamesAndMessagesAreApart, TablesAreApart, SeveredObjectsStayBroken, FollowedBreaksStayBroken}
use Rattle.law_machine.specs.Machine.Breaks.{FarApart}
use Rattle.def_run.specs.Draws.{draw_word}
use Rattle.law_machine.proofs.Run.BreakRuns.{severed_objects_run, followed_breaks_run}
use Rattle.law_fate.proofs.Name.SameNames.{far_apart, at_all, eventual_spot, message_is, kinds_apart}
use Rattle.law_fate.proofs.Name.Facts.{all_map, note_up}
use Rattle.law_fate.proofs.Name.Care.{parts_up}
use Rattle.law_fate.proofs.Name.Among.{promises_at, messages_at}
use Rattle.law_fate.proofs.Name.Run.{Had, Told, VatStands, Stands, name_had, steps_stand, opened_stands}

pub in_runs : (P : World → Type 0) → ((script : Script) (w : World) → Stands script w → P w) → InRuns P
in_runs P f script once = (
  λ ps rest w e opened. f script w (opened_stands script once ps rest w e opened),
  λ w x es k opened stepped. f script x (steps_stand script es k w x (opened_stands script once script.vats [] w (sym (append-nil script.vats)) opened) stepped),
)

pub in_each : (P : World → ℕ → Vat Name → Type 0) → ((script : Script) (w : World) (v : ℕ) (s : Vat Name) → slice_get w.vats v ≡ Some s → VatStands script w v s → P w v s) → InEachVat P
in_each P f = in_runs (λ w. (v : ℕ) (s : Vat Name) → slice_get w.vats v ≡ Some s → P w v s) (λ script w h v s e. f script w v s e (h.vats v s e))

pub names_made : NamesWereMade
names_made = in_each _ (λ script w v s e h. parts_up (Had script w v s) (IsMade w.vats w.drawn) (λ b i. i.0) s.things s.slots s.lists s.queue s.known s.gifts s.outbox h.parts)

pub notes_made : NotesNameWhatWasMade
notes_made = in_runs _ (λ script w h. all_map (λ l i. all_map (λ n j. note_up (Told script w) (IsMade w.vats w.drawn) (λ b k. k.0) n j) l.notes i) w.links h.links)

pub names_known : NamesAreKnown
names_known = in_each _ (λ script w v s e h. parts_up (Had script w v s) (IsHad (names_in s.known) s.mails) (λ b i. i.1) s.things s.slots s.lists s.queue s.known s.gifts s.outbox h.parts)

pub hosts_true : HostsAreTrue
hosts_true = in_each _ (λ script w v s e h. h.kept.hosts)

pub plain_once : RootsAndPromisesAreKnownOnce
plain_once = in_each _ (λ script w v s e h. h.kept.once)

pub own_known : OwnPromisesAreKnown
own_known = in_each _ (λ script w v s e h. h.kept.own)

-- what is known was made, so what is not made yet is not known
known_made : (script : Script) (w : World) → Stands script w → (u : ℕ) (t : Vat Name) → slice_get w.vats u ≡ Some t → (n : Name) → IsAmong n (names_in t.known) → WasMade w.vats w.drawn n
known_made script w h u t e n a = (name_had (Had script w u t) t.known n (h.vats u t e).parts.known a).0

no_less : (i j : ℕ) → i < j → j ≡ i → ⊥
no_less i j h e = omega arith

pub next_new : NextNamesAreNew
next_new = in_runs _ (λ script w h v s e u t i. (
  λ a. no_less s.promises (promises_of w.vats v) (known_made script w h u t i (Promise v s.promises) a) (promises_at w.vats v s e),
  λ x a. no_less s.messages (messages_of w.vats v) (known_made script w h u t i (Answer x (record { sender = v; number = s.messages })) a) (messages_at w.vats v s e),
  λ x j fresh a. fresh (known_made script w h u t i (Gift x j) a),
))

pub names_apart : NamesAndMessagesAreApart
names_apart = in_each _ (λ script w v s e h. (h.kept.apart, h.kept.mails))

far : (script : Script) (w : World) → Stands script w → (v : ℕ) (t : Vat Name) → slice_get w.vats v ≡ Some t → FarApart (names script v) t
unfolding names naming
far script w h v t e m x i = far_apart (draw_word script.key) v t.known (h.vats v t e).kept.apart m x i

spot_is : (script : Script) (v : ℕ) (m : Name) (h : ℕ) → spot_of v m ≡ Foreign h → (names script v).spot m ≡ Foreign h
unfolding names naming
spot_is script v m h e = e

pub severed_broken : SeveredObjectsStayBroken
severed_broken script once w y x es fs k l opened stepped more v s e =
    let a = severed_objects_run script fs l y x more v s e in
    let stands : Stands script x = steps_stand script fs l y x (steps_stand script es k w y (opened_stands script once script.vats [] w (sym (append-nil script.vats)) opened) stepped) more in
    (a.0, a.1, λ z m h i j n. a.2 (far script x stands v a.0 a.1) z m h i (spot_is script v m h j) n)

pub followed_broken : FollowedBreaksStayBroken
followed_broken script once w y x es fs k l opened stepped more v s e =
    let a = followed_breaks_run script fs l y x more v s e in
    let stands : Stands script x = steps_stand script fs l y x (steps_stand script es k w y (opened_stands script once script.vats [] w (sym (append-nil script.vats)) opened) stepped) more in
    (a.0, a.1, λ rest z p i. a.2 rest (far script x stands v a.0 a.1) z p i)

pub tables_apart : TablesAreApart
tables_apart = in_each _ (λ script w v s e h. (
  λ k n i. eventual_spot v n (at_all IsEventual (names_in s.known) k n h.kept.apart i),
  λ k n i. message_is n (at_all IsMessageName s.mails k n h.kept.mails i),
  λ i j a b x y. kinds_apart a b (at_all IsEventual (names_in s.known) i a h.kept.apart x) (at_all IsMessageName s.mails j b h.kept.mails y),
))
