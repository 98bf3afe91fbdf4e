-- How an honest vat stands in a run with hostile vats, and that each of its steps leaves it so.
use Rattle.std.proofs.Common.{◌≡◌, ℕ, zero, suc, List, [], ◌∷◌, Option, Some, None, refl, sym, subst, ◌∙◌, ◌⊎◌, inl, inr, append-nil}
use Rattle.def_machine.specs.Values.{Name, Object, Sent, naming, answer_of, host_of}
use Rattle.def_machine.specs.State.{Message, Note, Deliver, Ask, Put, GiftEntry, Happened, Sends, Reacts, Vat, Done, Gives}
use Rattle.def_machine.specs.Arrive.{arrive}
use Rattle.def_run.specs.Draws.{draw_word}
use Rattle.def_run.specs.Names.{own_mails}
use Rattle.def_run.specs.World.{World, names, names_of, read_note, readied}
use Rattle.def_hostile.specs.Hostile.{Play}
use Rattle.law_machine.specs.Machine.Steps.{Step, Opens as Starts, Takes, Receives, Notices, does}
use Rattle.law_machine.specs.Run.Moves.{IsAlone, Does}
use Rattle.law_fate.specs.Name.Names.{Bit, AllOf, IsAmong, IsEventual, IsMessageName, IsKnownIn, IsMessageMade, NoteOk, PutOk, names_in}
use Rattle.law_fate.proofs.Name.Facts.{all_map, all_append}
use Rattle.law_fate.proofs.Name.Among.{all_among}
use Rattle.law_fate.proofs.Fates.Leads.{Ends}
use Rattle.law_reference.specs.Reference.AnswerNames.{PutsNameAnswers}
use Rattle.law_frame.specs.Frame.Alike.{names_heard}
use Rattle.law_frame.specs.Frame.Asked.{AsksOf, AskFits, told_in}
use Rattle.law_frame.specs.Frame.Lines.{MessageFits, LineFits, AnswersIn, DueIn}
use Rattle.law_frame.specs.Local.Told.{carried_by}
use Rattle.law_frame.proofs.Frame.ArriveAsking.{IsNoObject, IsNoMessage, MailFits, HasHeard, Reached, arrive_hears, asking_notice}
use Rattle.law_frame.proofs.Frame.Grow.{among_right}
use Rattle.law_frame.proofs.Frame.RefsAsking.{asking_taking, asking_openings}
use Rattle.law_frame.proofs.Frame.Told.{heard_told, note_told}
use Rattle.law_frame.proofs.Frame.WireAsking.{Any, Telling, Asking, Steady, Comes, Born, GiftFits, PutFits, gift_names, same_as, steady_on, news_of}
use Rattle.law_frame.proofs.Local.ToldSteady.{telling, Ready}
use Rattle.law_lawful.specs.Claims.{WasMade, IsMade}
use Rattle.law_lawful.specs.Lawful.{AnyWord}
use Rattle.law_lawful.proofs.Steps.{MadeIn}
use Rattle.law_hostile_tables.proofs.Heard.{heard_all}

-- What it knows are names that come to be known, what it has had are messages, its gifts have their names, and what it put and told in its last step asks for what is known.
pub record Standing (v : ℕ) (s : Vat Name) : Type 0 where
  pub number : s.number ≡ v
  pub eventual : AllOf IsEventual (names_in s.known)
  pub mails : AllOf IsMessageName s.mails
  pub gifts : AllOf (GiftFits v (names_in s.known)) s.gifts
  pub lines : AllOf (LineFits (names_in s.known) s.mails) s.happened
  pub puts : AllOf (PutFits v (names_in s.known)) s.outbox
  pub answers : PutsNameAnswers s

each_of : {A : Type 0} (P : A → Type 0) (xs : List A) → ((x : A) → IsAmong x xs → P x) → AllOf P xs
each_of P [] f = tt
each_of P (x ∷ xs) f = (f x (inl refl), each_of P xs (λ y a. f y (inr a)))

pub answer_eventual : (h : ℕ) (m x : Name) → IsMessageName m → answer_of h m ≡ x → IsEventual x
unfolding answer_of
answer_eventual h (Sent m) x k e = subst IsEventual e tt
answer_eventual h other x k e = absurd k

own_are_messages : (v j i : ℕ) → AllOf IsMessageName (own_mails v j i)
unfolding own_mails
own_are_messages v j zero = tt
own_are_messages v j (suc i) = (tt, own_are_messages v (suc j) i)

-- ---- what a steady step leaves

module _ (v : ℕ) (P : Telling) (q t : Vat Name) (steady : Steady v P q t) (told : (x : Name) → P.told x → IsEventual x) (passed : (x : Name) → P.passed x → IsEventual x) (due : (x : Name) → P.due x → IsEventual x)
    (eventual : AllOf IsEventual (names_in q.known)) (mails : AllOf IsMessageName q.mails) (gifts : AllOf (GiftFits v (names_in q.known)) q.gifts) (quiet : q.happened ≡ []) (unsaid : q.outbox ≡ []) (mail : AllOf (λ (p : Put Name). MailFits p.note) t.outbox) where
  fits : AllOf (GiftFits v (names_in t.known)) t.gifts × AllOf (PutFits v (names_in t.known)) t.outbox
  fits = steady.fits (gifts, subst (AllOf (PutFits v (names_in q.known))) (sym unsaid) tt)

  lines : AllOf (LineFits (names_in t.known) t.mails) t.happened
  lines = steady.answers (subst (AllOf (LineFits (names_in q.known) q.mails)) (sym quiet) tt)

  message_eventual : (m : Message Name) (x : Name) → MessageFits (names_in t.known) t.mails m → m.answer ≡ Some x → IsEventual x
  message_eventual m x h e = answer_eventual (host_of x) m.id x h.0 (sym (h.2 x e).0)

  line_eventual : (e : Happened Name) (x : Name) → LineFits (names_in t.known) t.mails e → AnswersIn e x → IsEventual x
  line_eventual (Sends act m) x h k = message_eventual m x h k
  line_eventual (Reacts act y o m) x h k = message_eventual m x h k
  line_eventual other x h k = absurd k

  gift_eventual : (gs : List (GiftEntry Name)) (x : Name) → AllOf (GiftFits v (names_in t.known)) gs → IsAmong x (gift_names gs) → IsEventual x
  gift_eventual [] x h a = absurd a
  gift_eventual (g ∷ gs) x h (inl e) = subst IsEventual (sym (e ∙ h.0.0)) tt
  gift_eventual (g ∷ gs) x h (inr a) = gift_eventual gs x h.1 a

  asked_eventual : (to : ℕ) (n : Note Name) (x : Name) → MailFits n → AskFits (names_in t.known) to n → AsksOf to n x → IsEventual x
  asked_eventual to (Deliver d n verb ys) x m f k = answer_eventual to d.message x m k.1
  asked_eventual to (Ask p i n) x m f k = subst IsEventual (sym f.1 ∙ k) tt
  asked_eventual to other x m f k = absurd k

  born_eventual : (x : Name) → Born v P q t x → IsEventual x
  born_eventual x (inl e) = subst IsEventual (sym e.1) tt
  born_eventual x (inr (inl a)) = line_eventual a.0 x (all_among (LineFits (names_in t.known) t.mails) t.happened a.0 lines a.1) a.2
  born_eventual x (inr (inr (inl a))) = gift_eventual t.gifts x fits.0 (subst (IsAmong x) (sym a.1) (among_right x (gift_names q.gifts) a.0 a.2))
  born_eventual x (inr (inr (inr k))) = due x k

  come_eventual : (x : Name) → Comes v P q t x → IsEventual x
  come_eventual x (inl b) = born_eventual x b.1
  come_eventual x (inr (inl a)) = asked_eventual a.0.to a.0.note x (all_among (λ (p : Put Name). MailFits p.note) t.outbox a.0 mail a.1) (all_among (PutFits v (names_in t.known)) t.outbox a.0 fits.1 a.1).0 a.2
  come_eventual x (inr (inr (inl k))) = passed x k.1
  come_eventual x (inr (inr (inr k))) = told x k

  known_eventual : (x : Name) → IsAmong x (names_in t.known) → IsEventual x
  known_eventual x a = by (news_of v P q t steady x a)
    where
      by : IsAmong x (names_in q.known) ⊎ Comes v P q t x → IsEventual x
      by (inl b) = all_among IsEventual (names_in q.known) x eventual b
      by (inr c) = come_eventual x c

  pub standing_after : PutsNameAnswers t → Standing v t
  standing_after named = let m = steady.mails in record {
    number = steady.number;
    eventual = each_of IsEventual (names_in t.known) known_eventual;
    mails = subst (AllOf IsMessageName) (sym m.2) (all_append IsMessageName q.mails (own_mails v q.messages m.0) mails (own_are_messages v q.messages m.0));
    gifts = fits.0;
    lines = lines;
    puts = fits.1;
    answers = named;
  }

-- ---- what a note tells

module _ (vats : List (Vat Name)) (draws : List ℕ) where
  abbrev Made : Bit Name → Type 0
  Made = IsMade AnyWord vats draws

  pub message_made : (m : Name) → IsMessageMade vats m → IsMessageName m
  message_made (Sent m) h = tt
  message_made other h = absurd h

  pub mail_fits : (n : Note Name) → NoteOk Made n → MailFits n
  mail_fits (Deliver d n verb ys) h = message_made d.message h.0
  mail_fits other h = tt

  pub mails_fit : (ps : List (Put Name)) → AllOf (PutOk Made) ps → AllOf (λ (p : Put Name). MailFits p.note) ps
  mails_fit ps h = all_map (λ (p : Put Name) k. mail_fits p.note k.0) ps h

  no_message : (x : Name) → WasMade AnyWord vats draws x → IsNoMessage x
  no_message (Sent m) h = absurd h
  no_message other h = tt

  made_eventual : (n : Name) → IsNoObject n → WasMade AnyWord vats draws n → IsEventual n
  made_eventual (Object w i) o h = absurd o
  made_eventual (Sent m) o h = absurd h
  made_eventual other o h = tt

  pub heard_eventual : (ks : List Name) (n : Note Name) → NoteOk Made n → AllOf IsEventual ks → AllOf IsEventual (names_heard ks n)
  heard_eventual = heard_all Made IsEventual made_eventual (λ h i p d. tt)

  pub due_eventual : (v : ℕ) (n : Note Name) (x : Name) → NoteOk Made n → DueIn v n x → IsEventual x
  due_eventual v (Deliver d n verb ys) x h k = answer_eventual v d.message x (message_made d.message h.0) k.1
  due_eventual v other x h k = absurd k

  pub no_messages_told : (n : Note Name) → NoteOk Made n → (x : Name) → IsAmong x (told_in n) → IsNoMessage x
  no_messages_told n h x a = no_message x (all_among (WasMade AnyWord vats draws) (told_in n) x (note_told Made n h) a)

-- ---- the steps of a vat that stands so

heard_among : (ns : List Name) (x : Name) → IsKnownIn ns x → IsNoObject x → IsAmong x ns
heard_among ns (Object w i) h o = absurd o
heard_among ns other h o = h

led_gives : (v : ℕ) (P : Telling) (s t : Vat Name) (d : Done Name (Unit {0})) → Ends Any (Asking v P) s d → d ≡ Gives tt t → Asking v P s t
led_gives v P s t d h e = rw e at h

reached_gives : (v : ℕ) (P : Telling) (F : Vat Name → Type 0) (s t : Vat Name) (d : Done Name (Unit {0})) → Reached v P F s d → d ≡ Gives tt t → Steady v P s t
reached_gives v P F s t d h e = let r : Steady v P s t × F t = rw e at h in r.0

module _ (play : Play) (w : World) (v : ℕ) (s t : Vat Name) (h : Standing v s) where
  abbrev P : Option (Note Name) → Telling
  P o = telling play.script v (names_in s.known) o

  -- a step that brings no note, from that state
  from_ready : (q : Vat Name) → q.number ≡ s.number → names_in q.known ≡ names_in s.known → q.gifts ≡ s.gifts → q.noticed ≡ s.noticed → q.messages ≡ s.messages → q.mails ≡ s.mails → Asking v (P None) (readied w q) t → Steady v (P None) (Ready w s None) t
  unfolding readied carried_by
  from_ready q a b c d m l k = let one : Steady v (P None) (Ready w s None) (readied w q) = same_as v (P None) (Ready w s None) (readied w q) a b c refl d refl m (l ∙ sym (append-nil s.mails)) refl h.number in
      steady_on v (P None) (Ready w s None) (readied w q) t one (k one.number)

  pub alone_steady : (q : Vat Name) (what : Step Name Name) → IsAlone what → Does play.script w v s q t what → Steady v (P None) (Ready w s None) t
  unfolding does names
  alone_steady q (Starts tree depth root given) o d = let k = d.begins in let e : q ≡ s = k.2 in
      from_ready q (rw e refl) (rw e refl) (rw e refl) (rw e refl) (rw e refl) (rw e refl) (led_gives v (P None) (readied w q) t _ ((asking_openings v (P None) tree depth root given).after (readied w q)) d.gives)
  alone_steady q (Takes tree depth m) o d = let k = d.begins in let e : q ≡ record s { queue = k.0 } = k.2 in
      from_ready q (rw e refl) (rw e refl) (rw e refl) (rw e refl) (rw e refl) (rw e refl) (led_gives v (P None) (readied w q) t _ ((asking_taking v (P None) tree depth m).after (readied w q)) d.gives)
  alone_steady q (Notices u) o d = let e : q ≡ s = d.begins in
      from_ready q (rw e refl) (rw e refl) (rw e refl) (rw e refl) (rw e refl) (rw e refl) (led_gives v (P None) (readied w q) t _ ((asking_notice v (P None) u).after (readied w q)) d.gives)
  alone_steady q (Receives from m) o d = absurd o

  pub note_steady : (from : ℕ) (n : Note Name) → NoteOk (MadeIn play AnyWord w) n → arrive (names play.script v) from (read_note (names_of s) n) (readied w s) ≡ Gives tt t → Steady v (P (Some n)) (Ready w s (Some n)) t
  unfolding readied carried_by names names_of
  note_steady from n ok e = let ks : List Name = names_in s.known in
      reached_gives v (P (Some n)) (HasHeard v (P (Some n)) ks n) (Ready w s (Some n)) t (arrive (naming (draw_word play.script.key) v) from (read_note ks n) (readied w s))
      (arrive_hears v (P (Some n)) from n (readied w s) h.number (mail_fits w.vats w.drawn n ok) (λ x b. b)
      (λ x b o. heard_among (names_heard ks n) x (all_among (IsKnownIn (names_heard ks n)) (told_in n) x (heard_told ks n) b) o) (λ x b. b) (no_messages_told w.vats w.drawn n ok) h.eventual h.gifts) e
