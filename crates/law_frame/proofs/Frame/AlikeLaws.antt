-- The next note to arrive is read alike, kind by kind.
use Rattle.std.proofs.Common.{◌≡◌, ℕ, zero, false, List, ◌∷◌, Some, refl, sym, ap, subst, ◌∙◌, inl}
use Rattle.std.specs.Prelude.{slice_get, option_map}
use Rattle.def_machine.specs.Values.{Words, Name, host_of, Local}
use Rattle.def_machine.specs.State.{Passed, Passeds, Note, Delivery, Deliver, Open, Ask, SettledTo, Elsewhere, Shorten, Vat}
use Rattle.def_machine.specs.Arrive.{Incoming}
use Rattle.def_run.specs.World as world
use Rattle.def_run.specs.World.{Script, Entry, Link, World, Goes, link_at}
use Rattle.law_reference.specs.Reference.Logs as wire
use Rattle.def_machine.proofs.Keys.{key_of}
use Rattle.law_fate.specs.Name.Names.{IsAmong, IsKnownIn, names_in}
use Rattle.law_fate.specs.Name.Runs.{KnowsOnce}
use Rattle.def_machine.specs.Maps as maps
use Rattle.def_machine.specs.Maps.{incoming}
use Rattle.law_machine.specs.Renamed.Renaming.{Wire as Wired}
use Rattle.law_machine.specs.Renamed.Stands.{found}
use Rattle.law_reference.specs.Reference.Cuts.{NoticesFollowCuts}
use Rattle.law_reference.specs.Reference.Notes.{IsBetween}
use Rattle.law_reference.specs.Reference.GiftPassing.{IsProvidedBy, Provides}
use Rattle.law_frame.specs.Frame.Asked.{told_in}
use Rattle.law_frame.specs.Frame.Tables.{arrived}
use Rattle.law_frame.specs.Frame.Hearing.{Heard}
use Rattle.law_frame.specs.Frame.Alike.{names_heard, table_heard, wire_name, message_of, by_numbers, by_names}
use Rattle.law_frame.proofs.Frame.Ranks.{Starts}
use Rattle.law_frame.proofs.Frame.WireAsking.{Proper}
use Rattle.law_frame.specs.Frame.Gifts.{AskedGiftStands, GiftsWereAskedFor}
use Rattle.law_frame.specs.Frame.Kinds.{IsReadAlike, DeliveriesAreReadAlike, OpeningsAreReadAlike, AsksAreReadAlike, SettlingsAreReadAlike, ShorteningsAreReadAlike, NotesAreReadAlike, NewNotesAreReadAlike}
use Rattle.law_frame.proofs.Frame.Grow.{starts_same, starts_on, after_starts, passed_known, all_known, export_other}
use Rattle.law_frame.proofs.Frame.Reading.{Before, Stage, Asks, NoteAlike, Ends, open_alike, shorten_alike, elsewhere_alike, ask_alike, settled_alike, deliver_alike}
use Rattle.law_frame.proofs.Frame.Worlds.{proper, between, Providers, provides, ahead, known, before, stage, ends, asks, asked_stands, asked_for}

-- the names known before a note are the first of those known after it
pub heard_starts : (ks : List Name) (n : Note Name) → Starts ks (names_heard ks n)
unfolding names_heard
heard_starts ks (Deliver m n verb ys) = let one = (world.read_all ys ks).known in starts_on ks one (world.known_after one n) (all_known ys ks) (after_starts one n)
heard_starts ks (Open i n) = after_starts ks n
heard_starts ks (Ask p i n) = starts_same ks
heard_starts ks (SettledTo n y) = let one = world.known_after ks n in starts_on ks one (world.read_passed y one).known (after_starts ks n) (passed_known y one)
heard_starts ks (Elsewhere n c) = after_starts ks n
heard_starts ks (Shorten n c i) = after_starts ks n

-- where the note is read alike by the names known once it was read, the law holds of it
alike_read : (script : Script) (x : World) (v u : ℕ) (s : Vat Name) (other : v ≡ u → ⊥) (N : Note Name) → NoteAlike script x v u s N (names_heard (names_in s.known) N) s.mails other N → IsReadAlike script x v u s N
unfolding by_numbers by_names table_heard
alike_read script x v u s other N a = ap (λ o. option_map (λ (h : Heard (Note (Incoming Local Wired))). maps.note (incoming (found u (table_heard x u s N)) (wire_name x v u N)) h.read) o) a.1 ∙ ap Some a.2

-- The first note on the link l from v to u, which is not cut; s is the state of u.
module _ (script : Script) (once : KnowsOnce script) (w x : World) (es : List Entry) (k : ℕ) (follow : NoticesFollowCuts es) (opened : world.open_from script zero script.vats (world.begins script) ≡ Goes w) (stepped : world.steps_from script es k w ≡ Goes x)
    (v u : ℕ) (s : Vat Name) (there : slice_get x.vats u ≡ Some s) (other : v ≡ u → ⊥) (l : Link) (at : link_at v u x.links ≡ Some l) (uncut : l.cut ≡ false) (ns : List (Note Name)) where
  abbrev Asked : List Name
  Asked = wire.questions (λ i. i) x.links u v

  abbrev Arrived : List Name
  Arrived = wire.exports_after v Asked (arrived (link_at v u x.links)) (wire.roots_of (link_at v u x.links))

  abbrev Exports : List Name
  Exports = wire.exports (λ i. i) x.links v u

  -- F are the names that u knows once the note was read, and maybe more
  module _ (N : Note Name) (head : l.notes ≡ N ∷ ns) (F Ms : List Name) (later : Starts (names_heard (names_in s.known) N) F) where
    first : Starts (names_in s.known) F
    first = starts_on (names_in s.known) (names_heard (names_in s.known) N) F (heard_starts (names_in s.known) N) later

    was : Before script x v u s N F Ms other
    was = before script once w x es k follow opened stepped v u s there other l at uncut N ns head F Ms first

    stood : Stage script x v u s N F Ms other (names_in s.known) Arrived
    stood = stage script once w x es k follow opened stepped v u s there other l at uncut N ns head F Ms first

    knew : (n : Name) → IsAmong n Arrived → IsKnownIn (names_in s.known) n
    knew = known script once w x es k follow opened stepped v u s there other l at uncut N ns head

    ended : GiftsWereAskedFor x v u N → (n : Name) → IsAmong n (told_in N) → Ends script x v u s N F Ms other n
    ended = ends script once w x es k follow opened stepped v u s there other l at uncut N ns head F Ms

    went : Starts (wire.with_note v Asked N Arrived) Exports
    went = ahead script once w x es k follow opened stepped v u s there other l at uncut N ns head

    abbrev P : ℕ → ℕ
    P = Providers script once w x es k follow opened stepped v u s there other l at uncut N ns head

    gave : Provides P x.drawn v u N
    gave = provides script once w x es k follow opened stepped v u s there other l at uncut N ns head

    short : Proper v u N
    short = proper script once w x es k follow opened stepped v u s there other l at uncut N ns head

    ends_between : IsBetween v u N
    ends_between = between script once w x es k follow opened stepped v u s there other l at uncut N ns head

    asked_gift : AskedGiftStands u N s → (p i : ℕ) (n : Name) → N ≡ Ask p i n → IsProvidedBy P x.drawn i p → Asks script x v u s N F Ms other p i n
    asked_gift = asks script once w x es k follow opened stepped v u s there other l at uncut N ns head F Ms

  open_read : (i : ℕ) (n : Name) (head : l.notes ≡ Open i n ∷ ns) (F Ms : List Name) → Starts (names_heard (names_in s.known) (Open i n)) F → GiftsWereAskedFor x v u (Open i n) → NoteAlike script x v u s (Open i n) F Ms other (Open i n)
  unfolding told_in wire.with_note names_heard
  open_read i n head F Ms later g = open_alike script x v u s (Open i n) F Ms other (was (Open i n) head F Ms later) (stood (Open i n) head F Ms later) (knew (Open i n) head F Ms later) i n (key_of v i (gave (Open i n) head F Ms later).2) (ended (Open i n) head F Ms later g n (inl refl)) later (went (Open i n) head F Ms later)

  shorten_read : (n : Name) (c i : ℕ) (head : l.notes ≡ Shorten n c i ∷ ns) (F Ms : List Name) → Starts (names_heard (names_in s.known) (Shorten n c i)) F → GiftsWereAskedFor x v u (Shorten n c i) → NoteAlike script x v u s (Shorten n c i) F Ms other (Shorten n c i)
  unfolding told_in wire.with_note names_heard
  shorten_read n c i head F Ms later g = let N = Shorten n c i in shorten_alike script x v u s N F Ms other (was N head F Ms later) (stood N head F Ms later) (knew N head F Ms later) n c i (key_of u i (gave N head F Ms later).2) (ended N head F Ms later g n (inl refl)) later (went N head F Ms later)

  elsewhere_read : (n : Name) (c : ℕ) (head : l.notes ≡ Elsewhere n c ∷ ns) (F Ms : List Name) → Starts (names_heard (names_in s.known) (Elsewhere n c)) F → GiftsWereAskedFor x v u (Elsewhere n c) → NoteAlike script x v u s (Elsewhere n c) F Ms other (Elsewhere n c)
  unfolding told_in wire.with_note names_heard
  elsewhere_read n c head F Ms later g = let N = Elsewhere n c in elsewhere_alike script x v u s N F Ms other (was N head F Ms later) (stood N head F Ms later) (knew N head F Ms later) n c (ended N head F Ms later g n (inl refl)) later (went N head F Ms later)

  ask_read : (p i : ℕ) (n : Name) (head : l.notes ≡ Ask p i n ∷ ns) (F Ms : List Name) → Starts (names_heard (names_in s.known) (Ask p i n)) F → AskedGiftStands u (Ask p i n) s → NoteAlike script x v u s (Ask p i n) F Ms other (Ask p i n)
  ask_read p i n head F Ms later g = let N = Ask p i n in let q = gave N head F Ms later in ask_alike script x v u s N F Ms other (was N head F Ms later) (stood N head F Ms later) (knew N head F Ms later) p i n (key_of p i q.2) (asked_gift N head F Ms later g p i n refl q)

  settled_read : (n : Name) (y : Passed Name) (head : l.notes ≡ SettledTo n y ∷ ns) (F Ms : List Name) → Starts (names_heard (names_in s.known) (SettledTo n y)) F → GiftsWereAskedFor x v u (SettledTo n y) → NoteAlike script x v u s (SettledTo n y) F Ms other (SettledTo n y)
  unfolding told_in wire.with_note names_heard
  settled_read n y head F Ms later g = let N = SettledTo n y in settled_alike script x v u s N F Ms other (was N head F Ms later) (stood N head F Ms later) (knew N head F Ms later) (P N head F Ms later) n y (short N head F Ms later) (gave N head F Ms later) (λ m a. ended N head F Ms later g m a) later (went N head F Ms later)

  deliver_read : (m : Delivery Name) (n : Name) (verb : Words) (ys : Passeds Name) (head : l.notes ≡ Deliver m n verb ys ∷ ns) (F Ms : List Name) → Starts (names_heard (names_in s.known) (Deliver m n verb ys)) F → GiftsWereAskedFor x v u (Deliver m n verb ys) → NoteAlike script x v u s (Deliver m n verb ys) F Ms other (Deliver m n verb ys)
  unfolding told_in wire.with_note names_heard message_of
  deliver_read m n verb ys head F Ms later g = let N = Deliver m n verb ys in let host : host_of n ≡ u = ends_between N head F Ms later in deliver_alike script x v u s N F Ms other (was N head F Ms later) (stood N head F Ms later) (knew N head F Ms later) (P N head F Ms later) m n verb ys refl (short N head F Ms later) (gave N head F Ms later) host (λ z a. ended N head F Ms later g z a) later
      (subst (λ es. Starts (wire.with_all v Asked ys es) Exports) (export_other v Asked n Arrived (λ e. other (sym e ∙ host))) (went N head F Ms later))

  -- ---- any note

  pub note_read : (N : Note Name) (head : l.notes ≡ N ∷ ns) (F Ms : List Name) → Starts (names_heard (names_in s.known) N) F → AskedGiftStands u N s → GiftsWereAskedFor x v u N → NoteAlike script x v u s N F Ms other N
  note_read (Deliver m n verb ys) head F Ms later o g = deliver_read m n verb ys head F Ms later g
  note_read (Open i n) head F Ms later o g = open_read i n head F Ms later g
  note_read (Ask p i n) head F Ms later o g = ask_read p i n head F Ms later o
  note_read (SettledTo n y) head F Ms later o g = settled_read n y head F Ms later g
  note_read (Elsewhere n c) head F Ms later o g = elsewhere_read n c head F Ms later g
  note_read (Shorten n c i) head F Ms later o g = shorten_read n c i head F Ms later g

  abbrev Reads : Note Name → Type 0
  Reads N = IsReadAlike script x v u s N

  abbrev Same : Note Name → List Name
  Same N = names_heard (names_in s.known) N

  head_is : (N M : Note Name) → l.notes ≡ N ∷ ns → N ≡ M → l.notes ≡ M ∷ ns
  head_is N M e f = e ∙ ap (λ z. z ∷ ns) f

  pub deliveries : (N : Note Name) → l.notes ≡ N ∷ ns → (m : Delivery Name) (n : Name) (verb : Words) (ys : Passeds Name) → N ≡ Deliver m n verb ys → GiftsWereAskedFor x v u N → Reads N
  deliveries N head m n verb ys e g = let M = Deliver m n verb ys in subst Reads (sym e) (alike_read script x v u s other M (deliver_read m n verb ys (head_is N M head e) (Same M) s.mails (starts_same (Same M)) (subst (λ z. GiftsWereAskedFor x v u z) e g)))

  pub openings : (N : Note Name) → l.notes ≡ N ∷ ns → (i : ℕ) (n : Name) → N ≡ Open i n → GiftsWereAskedFor x v u N → Reads N
  openings N head i n e g = let M = Open i n in subst Reads (sym e) (alike_read script x v u s other M (open_read i n (head_is N M head e) (Same M) s.mails (starts_same (Same M)) (subst (λ z. GiftsWereAskedFor x v u z) e g)))

  pub askings : (N : Note Name) → l.notes ≡ N ∷ ns → (p i : ℕ) (n : Name) → N ≡ Ask p i n → AskedGiftStands u N s → Reads N
  askings N head p i n e g = let M = Ask p i n in subst Reads (sym e) (alike_read script x v u s other M (ask_read p i n (head_is N M head e) (Same M) s.mails (starts_same (Same M)) (subst (λ z. AskedGiftStands u z s) e g)))

  pub settlings : (N : Note Name) → l.notes ≡ N ∷ ns → (n : Name) (y : Passed Name) → N ≡ SettledTo n y → GiftsWereAskedFor x v u N → Reads N
  settlings N head n y e g = let M = SettledTo n y in subst Reads (sym e) (alike_read script x v u s other M (settled_read n y (head_is N M head e) (Same M) s.mails (starts_same (Same M)) (subst (λ z. GiftsWereAskedFor x v u z) e g)))

  pub shortenings : (N : Note Name) → l.notes ≡ N ∷ ns → (n : Name) (c i : ℕ) → N ≡ Shorten n c i → GiftsWereAskedFor x v u N → Reads N
  shortenings N head n c i e g = let M = Shorten n c i in subst Reads (sym e) (alike_read script x v u s other M (shorten_read n c i (head_is N M head e) (Same M) s.mails (starts_same (Same M)) (subst (λ z. GiftsWereAskedFor x v u z) e g)))

  pub every : (N : Note Name) → l.notes ≡ N ∷ ns → AskedGiftStands u N s → GiftsWereAskedFor x v u N → Reads N
  every N head o g = alike_read script x v u s other N (note_read N head (Same N) s.mails (starts_same (Same N)) o g)

pub deliveries_alike : DeliveriesAreReadAlike
deliveries_alike script once w x es k follow opened stepped v u s there other l at uncut note ns head = deliveries script once w x es k follow opened stepped v u s there other l at uncut ns note head

pub openings_alike : OpeningsAreReadAlike
openings_alike script once w x es k follow opened stepped v u s there other l at uncut note ns head = openings script once w x es k follow opened stepped v u s there other l at uncut ns note head

pub asks_alike : AsksAreReadAlike
asks_alike script once w x es k follow opened stepped v u s there other l at uncut note ns head = askings script once w x es k follow opened stepped v u s there other l at uncut ns note head

pub settlings_alike : SettlingsAreReadAlike
settlings_alike script once w x es k follow opened stepped v u s there other l at uncut note ns head = settlings script once w x es k follow opened stepped v u s there other l at uncut ns note head

pub shortenings_alike : ShorteningsAreReadAlike
shortenings_alike script once w x es k follow opened stepped v u s there other l at uncut note ns head = shortenings script once w x es k follow opened stepped v u s there other l at uncut ns note head

pub notes_alike : NotesAreReadAlike
notes_alike script once w x es k follow opened stepped v u s there other l at uncut note ns head = every script once w x es k follow opened stepped v u s there other l at uncut ns note head

pub new_notes_alike : NewNotesAreReadAlike
new_notes_alike script once w x es k follow new opened stepped v u s there other l at uncut note ns head brings =
    every script once w x es k follow opened stepped v u s there other l at uncut ns note head (asked_stands x v u note s brings) (asked_for script once w x es k follow opened stepped v u s there other l at uncut note ns head new)
