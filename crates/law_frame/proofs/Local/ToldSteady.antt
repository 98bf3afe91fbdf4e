-- Each step of a run is steady: what comes to be known in it comes by what it tells, and messages come in order.
use Rattle.std.proofs.Common.{◌≡◌, ℕ, List, ◌++◌, Option, Some, None, refl, sym, append-nil, subst}
use Rattle.std.specs.Prelude.{slice_get}
use Rattle.def_machine.specs.Values.{Name, Object, naming}
use Rattle.def_machine.specs.State.{Note, Vat, Done, Gives}
use Rattle.def_machine.specs.Arrive.{arrive}
use Rattle.def_run.specs.Draws.{draw_word}
use Rattle.def_run.specs.World.{Script, Link, World, link_at, names, names_of, read_note, readied}
use Rattle.law_machine.specs.Machine.Steps.{Step, Opens as Starts, Takes, Receives, Notices, does}
use Rattle.law_machine.specs.Run.Moves.{Does}
use Rattle.law_fate.specs.Name.Names.{AllOf, IsAmong, IsKnownIn, NoteOk, names_in}
use Rattle.law_fate.proofs.Name.Among.{all_among}
use Rattle.law_fate.proofs.Name.Run.{Told, Stands}
use Rattle.law_frame.specs.Frame.Alike.{names_heard}
use Rattle.law_frame.specs.Frame.Asked.{told_in}
use Rattle.law_frame.specs.Frame.Lines.{DueIn}
use Rattle.law_frame.proofs.Frame.WireAsking.{Any, Telling, Asking, Steady, same_as, steady_on}
use Rattle.law_frame.proofs.Frame.RefsAsking.{asking_taking, asking_openings}
use Rattle.law_frame.proofs.Frame.ArriveAsking.{IsNoObject, HasHeard, Reached, arrive_hears, asking_notice}
use Rattle.law_frame.proofs.Frame.Told.{heard_told}
use Rattle.law_frame.proofs.Frame.LinksKnown.{at_link}
use Rattle.law_frame.proofs.Frame.WireRuns.{Wire, number_is, mail_fits, no_messages, known_apart}
use Rattle.law_fate.proofs.Fates.Leads.{Ends}
use Rattle.law_frame.specs.Local.Told.{carried_by}
use Rattle.law_frame.proofs.Local.ToldEntries.{Brings}

-- among the names that are known once the note was read, if one was
abbrev pub HeardIn : List Name → Option (Note Name) → Name → Type 0
HeardIn ks None x = ⊥
HeardIn ks (Some n) x = IsAmong x (names_heard ks n)

-- the answer that the note asks of the vat, if one came
abbrev pub DueBy : ℕ → Option (Note Name) → Name → Type 0
DueBy v None x = ⊥
DueBy v (Some n) x = DueIn v n x

-- what is told in a step by the note that it brings
abbrev pub telling : Script → ℕ → List Name → Option (Note Name) → Telling
telling script v ks o = record { told = λ x. HeardIn ks o x; passed = λ x. HeardIn ks o x; due = λ x. DueBy v o x; word = draw_word script.key }

-- the vat once it is ready for the step and has the message that is brought
abbrev pub Ready : World → Vat Name → Option (Note Name) → Vat Name
Ready w s o = record (readied w s) { mails = s.mails ++ carried_by o }

heard_among : (ns : List Name) (x : Name) → IsKnownIn ns x → IsNoObject x → IsAmong x ns
heard_among ns (Object w i) h o = absurd o
heard_among ns other h o = h

led_gives : (v : ℕ) (P : Telling) (s t : Vat Name) (d : Done Name (Unit {0})) → Ends Any (Asking v P) s d → d ≡ Gives tt t → Asking v P s t
led_gives v P s t d h e = rw e at h

reached_gives : (v : ℕ) (P : Telling) (F : Vat Name → Type 0) (s t : Vat Name) (d : Done Name (Unit {0})) → Reached v P F s d → d ≡ Gives tt t → Steady v P s t
reached_gives v P F s t d h e = let r : Steady v P s t × F t = rw e at h in r.0

-- the names in a note that is under way were made
pub note_made : (script : Script) (w : World) → Stands script w → (from v : ℕ) (l : Link) (n : Note Name) → link_at from v w.links ≡ Some l → IsAmong n l.notes → NoteOk (Told script w) n
note_made script w g from v l n at a = all_among (NoteOk (Told script w)) l.notes n (at_link (λ (l : Link). AllOf (NoteOk (Told script w)) l.notes) from v l w.links g.links at).0 a

module _ (script : Script) (w : World) (g : Stands script w) (h : Wire script w) (v : ℕ) (s t : Vat Name) (there : slice_get w.vats v ≡ Some s) where
  abbrev P : Option (Note Name) → Telling
  P o = telling script v (names_in s.known) o

  -- a step that brings no note, from that state
  from_ready : (q : Vat Name) → q.number ≡ s.number → names_in q.known ≡ names_in s.known → q.gifts ≡ s.gifts → q.noticed ≡ s.noticed → q.messages ≡ s.messages → q.mails ≡ s.mails → Asking v (P None) (readied w q) t → Steady v (P None) (Ready w s None) t
  unfolding readied carried_by
  from_ready q a b c d m l k = let e = number_is script w v s g there in
      let one : Steady v (P None) (Ready w s None) (readied w q) = same_as v (P None) (Ready w s None) (readied w q) a b c refl d refl m (rw l (sym (append-nil s.mails))) refl e in
      steady_on v (P None) (Ready w s None) (readied w q) t one (k one.number)

  arrives : (from : ℕ) (l : Link) (n : Note Name) → link_at from v w.links ≡ Some l → IsAmong n l.notes → arrive (names script v) from (read_note (names_of s) n) (readied w s) ≡ Gives tt t → Steady v (P (Some n)) (Ready w s (Some n)) t
  unfolding readied carried_by names names_of
  arrives from l n at a e = let ok : NoteOk (Told script w) n = note_made script w g from v l n at a in
      let ks : List Name = names_in s.known in
      reached_gives v (P (Some n)) (HasHeard v (P (Some n)) ks n) (Ready w s (Some n)) t (arrive (naming (draw_word script.key) v) from (read_note ks n) (readied w s))
      (arrive_hears v (P (Some n)) from n (readied w s) (number_is script w v s g there) (mail_fits script w.vats (Told script w) (λ m i. i.0) n ok) (λ x b. b)
      (λ x b o. heard_among (names_heard ks n) x (all_among (IsKnownIn (names_heard ks n)) (told_in n) x (heard_told ks n) b) o) (λ x b. b) (no_messages script w n ok) (known_apart script w v s g there) (h.gifts v s there)) e

  pub steady_step : (q : Vat Name) (what : Step Name Name) (o : Option (Note Name)) → Brings w v s what o → Does script w v s q t what → Steady v (P o) (Ready w s o) t
  unfolding does names
  steady_step q (Starts tree depth root given) o b d = let k = d.begins in let e : q ≡ s = k.2 in
      rw b (from_ready q (rw e refl) (rw e refl) (rw e refl) (rw e refl) (rw e refl) (rw e refl) (led_gives v (P None) (readied w q) t _ ((asking_openings v (P None) tree depth root given).after (readied w q)) d.gives))
  steady_step q (Takes tree depth m) o b d = let k = d.begins in let e : q ≡ record s { queue = k.0 } = k.2 in
      rw b (from_ready q (rw e refl) (rw e refl) (rw e refl) (rw e refl) (rw e refl) (rw e refl) (led_gives v (P None) (readied w q) t _ ((asking_taking v (P None) tree depth m).after (readied w q)) d.gives))
  steady_step q (Receives from m) None b d = absurd b
  steady_step q (Receives from m) (Some n) b d = let e : q ≡ s = d.begins in
      let f : arrive (names script v) from (read_note (names_of s) n) (readied w s) ≡ Gives tt t = subst (λ (x : Vat Name). arrive (names script v) from (read_note (names_of s) n) (readied w x) ≡ Gives tt t) e (rw (sym b.3) d.gives) in
      arrives from b.0 n b.1 b.2 f
  steady_step q (Notices u) o b d = let e : q ≡ s = d.begins in
      rw b (from_ready q (rw e refl) (rw e refl) (rw e refl) (rw e refl) (rw e refl) (rw e refl) (led_gives v (P None) (readied w q) t _ ((asking_notice v (P None) u).after (readied w q)) d.gives))
