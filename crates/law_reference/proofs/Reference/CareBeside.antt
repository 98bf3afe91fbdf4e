-- A care for names, and beside it for what holds of the names known and of the notes put: how each single change ends.
use Rattle.std.proofs.Common.{◌≡◌, ℕ, true, List, Some}
use Rattle.std.specs.Prelude.{slice_get}
use Rattle.def_machine.specs.Values.{Name, Promise, Answer, Gift, Sent, Naming, naming, name_of, mail_of, answer_of}
use Rattle.def_machine.specs.State.{Known, Change, Hold, Wait, WaitOn, React, ToTell, Settle, Open, Ask, Put, Vat, Act, ◌>>=◌, and_then, look, tell, enqueue, send_out, new_gift, open_gift, mark, alter, come, new_message, new_promise, new_lone_message}
use Rattle.law_fate.specs.Name.Names.{At, IsMessageMade, IsMessageName}
use Rattle.law_fate.proofs.Name.Facts.{Fact, Also, IsMail, IsVat, Holds}
use Rattle.law_fate.proofs.Name.Care.{Care, Under, Giving, Makes, Gets, Fine, fine_tell, fine_enqueue, fine_out, fine_gift, fine_open, fine_mark, fine_hold, fine_wait, fine_waits_on, fine_reacts, fine_to_tell, fine_settles, come_answer, come_gift, fine_new_message, fine_promise, fine_lone_message}
use Rattle.law_fate.proofs.Name.Looks.{note_open, note_ask, goes_open, goes_ask}
use Rattle.law_fate.proofs.Name.Tracked.{Marked, tracked, tracked_under, tracked_gives, tracked_makes}
use Rattle.law_reference.proofs.Reference.Beside.{IsFit as FitBy, MakesAlone, Stays}
use Rattle.law_reference.proofs.Reference.CareBlocks.{Changes}
use Rattle.law_reference.proofs.Reference.CareMore.{Leaves, KeptQuiet, More, lift, lift_of}

pub made_message : (us : List (Vat Name)) (n : Name) → IsMessageMade us n → IsMessageName n
made_message us (Sent m) h = tt
made_message us other h = h

-- an answer of the vat is one that it may make
answer_alone : (v h : ℕ) (m : Name) → h ≡ v → IsMessageName m → MakesAlone v (answer_of h m)
unfolding answer_of
answer_alone v h (Sent m) e i = e
answer_alone v h other e i = absurd i

module _ (M : Marked) (vats : List (Vat Name)) (v : ℕ) (q : Vat Name) (there : slice_get vats v ≡ Some q) (here : M.mark (At v)) (word : ℕ → ℕ) (Fit : List (Known Name) → List (Put Name) → Type 0) where
  abbrev pub T : Care Name
  T = tracked true M vats v q there here

  abbrev pub Names : Naming Name Name
  Names = naming word v

  pub under : Under Names T
  under = tracked_under true M vats v q there here word

  pub gives : Giving Names T
  gives = tracked_gives true M vats v q there here word

  pub makes : Makes Names T
  makes = tracked_makes M vats v q there here word

  abbrev pub IsFit : Vat Name → Type 0
  IsFit s = FitBy word v Fit s

  pub quiet : KeptQuiet IsFit
  quiet = record { fuel = λ s n o. o; told = λ s e o. o; activations = λ s o. o; thing = λ s t o. o; killed = λ s n o. o; slot = λ s c o. o; written = λ s n y o. o; list = λ s ys o. o }

  abbrev pub V : Care Name
  V = More T IsFit quiet

  lifted : {A : Type 0} {C : Fact Name} {m : Act Name A} {G : A → Fact Name} → Fine T C m G → ((s : Vat Name) → IsFit s → Leaves IsFit (m s)) → Fine V C m G
  lifted f l = lift T IsFit quiet f l

  gets_names : {C G : Fact Name} → Gets V C G → Gets T C G
  gets_names g = record { at = g.at }

  -- ---- single changes

  abbrev pub IsHere : ℕ → Type 0
  IsHere h = h ≡ v

  numbers : {A : Type 0} (C : Fact Name) (f : ℕ → Act Name A) (H : A → Fact Name) → ((u : ℕ) → IsHere u → Fine V (Also C (IsVat u)) (f u) H) → Fine V C (look (λ s. s.number) >>= f) H
  unfolding ◌>>=◌ and_then look
  numbers C f H k = record { after = λ s h c. let l = h.more in let kept = l.0 in (k s.number kept.number).after s h (c, V.here s h.more) }

  message_at : {C : Fact Name} (m : Name) → Gets V C (IsMail m) → (s : Vat Name) → Holds (T.ok s) C → IsMessageName m
  message_at m g s c = let i = g.at s c in made_message _ m i.0

  module _ (stays : Stays word v Fit) where
    altered : (c : Change Name) (n : Name) (s : Vat Name) → IsFit s → Leaves IsFit (alter Names c n s)
    unfolding alter
    altered c n s o = stays.altered c n s.known s.outbox o

    pub changes : Changes Names V IsHere
    unfolding tell enqueue come new_gift open_gift mark send_out new_message new_lone_message new_promise naming name_of mail_of answer_of
    changes = record {
      spots = record { alike = λ a b e. let spots = under.spots in spots.alike a b e; placed = λ s m n g. let spots = under.spots in spots.placed s m.0 n g };
      alike = record { named = λ s n h. h; owns = λ s n i h. h; gave = λ s i h. h };
      object = λ s i l. under.object s i l;
      tells = λ C e. lifted (fine_tell Names T under e) (λ s o. o);
      queues = λ C m g. lifted (fine_enqueue Names T under m (gets_names g)) (λ s o. o);
      holds = λ C m n g. lifted (fine_hold Names T under m n (gets_names g)) (altered (Hold m) n);
      waits = λ C p n g. lifted (fine_wait Names T under p n (gets_names g)) (altered (Wait p) n);
      waits_on = λ C p n g. lifted (fine_waits_on Names T under p n (gets_names g)) (altered (WaitOn p) n);
      reacts = λ C m n g. lifted (fine_reacts Names T under m n (gets_names g)) (altered (React m) n);
      to_tell = λ C w n g. lifted (fine_to_tell Names T under w n (gets_names g)) (altered (ToTell w) n);
      settles = λ C y n g. lifted (fine_settles Names T under y n (gets_names g)) (altered (Settle y) n);
      answers = λ C h m e g k. lift_of T IsFit quiet (come_answer Names T under h m (gets_names g) (gets_names k)) (λ s z c o. stays.knows (answer_of h m) h (answer_alone v h m e (message_at m g s c)) s.known s.outbox o);
      gifts = λ C h i g k. lifted (come_gift Names T under gives h i (record { at = λ s c. g.at s c }) (gets_names k)) (λ s o. stays.knows (Gift h i) h tt s.known s.outbox o);
      gives = λ C n p i g k. lifted (fine_gift Names T under gives n p i (record { at = λ s c. g.at s c }) (gets_names k)) (λ s o. o);
      opened = λ C p i. lifted (fine_open Names T under p i) (λ s o. o);
      marks = λ C w. lifted (fine_mark Names T under w) (λ s o. o);
      messages = λ C h e g. lifted (fine_new_message Names T under makes h (gets_names g)) (λ s o. stays.knows (Answer h (record { sender = v; number = s.messages })) h e s.known s.outbox o);
      lones = λ C. lifted (fine_lone_message Names T under makes) (λ s o. o);
      promises = λ C. lifted (fine_promise Names T under makes) (λ s o. stays.knows (Promise v s.promises) s.number tt s.known s.outbox o);
      numbers = λ C f H k. numbers C f H k;
      asks = λ C to p i n g k. lifted (fine_out Names T under to (Ask p i n) (gets_names (note_ask V C p i n (record { at = λ s c. g.at s c }) k)) (gets_names (goes_ask V C to p i n))) (λ s o. stays.puts (record { to = to; note = Ask p i n }) tt s.known s.outbox o);
      opens = λ C to i n g k. lifted (fine_out Names T under to (Open i n) (gets_names (note_open V C i n g k)) (gets_names (goes_open V C to i n))) (λ s o. stays.puts (record { to = to; note = Open i n }) tt s.known s.outbox o);
    }
