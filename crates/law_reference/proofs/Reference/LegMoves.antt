-- The two legs of each message stay apart where a note arrives, and so in every world of a run.
use Rattle.std.proofs.Common.{◌≡◌, ℕ, zero, ◌+◌, ◌≤◌, true, false, List, [], ◌∷◌, ◌++◌, Option, Some, refl, sym, ap, ◌∙◌, ◌⊎◌, inl, inr, arith}
use Rattle.std.specs.Prelude.{slice_get}
use Rattle.def_machine.specs.Values.{Name, Answer, Sent, Msg}
use Rattle.def_machine.specs.State.{Note, Vat}
use Rattle.law_machine.specs.Machine.Steps.{Step, Receives}
use Rattle.def_run.specs.World as world
use Rattle.def_run.specs.World.{Script, Program, Entry, Link, World, Goes as Going, names_of, read_note, put_at, push_all, with_link, with_notes, severed_link, link_at}
use Rattle.law_fate.specs.Fates.Fate.{total, of_note, on_link, sent_in}
use Rattle.law_fate.specs.Fates.FateLaws.{brought as fate_brought}
use Rattle.law_fate.specs.Fates.Lasting.{Each, NoteWell}
use Rattle.law_fate.proofs.Fates.RunAccount.{note_brings}
use Rattle.law_fate.proofs.Fates.RunCounts.{AllApart, with_link_apart, with_link_changes}
use Rattle.law_fate.proofs.Fates.RunWell.{note_comes, found_link}
use Rattle.law_fate.specs.Fates.Carry.{weight, link_weight}
use Rattle.law_fate.specs.Fates.Sound.{NoteSound}
use Rattle.law_fate.specs.Fates.CarryLaws.{leaves}
use Rattle.law_fate.proofs.Fates.WorldLight.{note_arrives, note_pays}
use Rattle.law_reference.specs.Reference.Knowing.{brought}
use Rattle.law_fate.specs.Name.Names.{AllOf, IsAmong, NoteOk, names_in}
use Rattle.law_fate.specs.Name.Runs.{KnowsOnce}
use Rattle.law_fate.proofs.Name.Facts.{MayBe}
use Rattle.law_fate.proofs.Name.Run.{Stands}
use Rattle.law_reference.proofs.Reference.NotesLift as lift
use Rattle.law_reference.specs.Reference.Behind.{NamesNot}
use Rattle.law_reference.proofs.Reference.First.{PutsFirst}
use Rattle.law_reference.proofs.Reference.FirstSteps.{FirstOut}
use Rattle.law_reference.proofs.Reference.FreshSteps.{FreshOut}
use Rattle.law_reference.proofs.Reference.AnswerLinks.{AtLink, found_ends}
use Rattle.law_reference.proofs.Reference.Moves.{Moved, Still, Severs, Drops, Steps, Arrives, Does, waiting}
use Rattle.law_reference.proofs.Reference.FollowRuns.{there_next, fresh_none, opened_past, stepped_past, opened_holds, stepped_holds}
use Rattle.law_reference.proofs.Reference.Places.{note_most}
use Rattle.law_reference.proofs.Reference.Counts.{Counted, world_one, opened_counted, stepped_counted}
use Rattle.law_reference.proofs.Reference.Legs.{Facts, apart_next, early_next, self_next}
use Rattle.law_reference.proofs.Reference.LegFacts.{facts}
use Rattle.law_reference.proofs.Reference.LegRuns.{MailBits, Legs, dry_next, cut_legs, taken_legs, self_none, none_next, brings_mail, Before, stands_of, first_mails, nowhere_not, unknown_not, alone_legs}

-- ---- the note that arrives

-- each note on a link goes where it should
sound_at : (a b : ℕ) (ls : List Link) → Each (λ (l : Link). Each (NoteSound l.from l.to) l.notes) ls → AtLink a b (λ l. Each (NoteSound l.from l.to) l.notes) ls
unfolding link_at
sound_at a b [] h l e = cc
sound_at a b (k ∷ ls) h l e = either (world.is_link a b k) refl e (λ i. sound_at a b ls h.1 l i)
  where
    either : (c : _) → world.is_link a b k ≡ c → ◌≡◌ {A = Option Link} (elim c [ true ↦ Some k | false ↦ link_at a b ls ]) (Some l) → (link_at a b ls ≡ Some l → Each (NoteSound l.from l.to) l.notes) → Each (NoteSound l.from l.to) l.notes
    either true f i rest = let same : k ≡ l = cc in rw same at h.0
    either false f i rest = rest i

pub head_of : (P : Note Name → Type 0) (ks : List (Note Name)) (n : Note Name) (ns : List (Note Name)) → Each P ks → ks ≡ n ∷ ns → P n
head_of P ks n ns h e = let one : Each P (n ∷ ns) = rw e at h in one.0

pub first_weight : (x : Name) (l : Link) (n : Note Name) (ns : List (Note Name)) → l.notes ≡ n ∷ ns → weight x n ≤ link_weight x l
unfolding link_weight total
first_weight x l n ns i = let e : total (weight x) l.notes ≡ weight x n + total (weight x) ns = ap (λ js. total (weight x) js) i in omega arith

pub sound_note_of : (w : World) (a v : ℕ) (n : Note Name) (ns : List (Note Name)) (l : Link) → Counted w → link_at a v w.links ≡ Some l → l.notes ≡ n ∷ ns → NoteSound a v n
sound_note_of w a v n ns l counted at notes = let sound = counted.sound in let ends = found_ends a v w.links l at in
    let one = head_of (NoteSound l.from l.to) l.notes n ns (sound_at a v w.links sound.links l at) notes in rw (ends.0, ends.1) at one

note_leaves_most : (x : Name) (from : ℕ) (ks : List Name) (n : Note Name) → of_note x n + leaves x (Receives from (read_note ks n)) ≤ weight x n
unfolding leaves
note_leaves_most x from ks n = note_pays x ks n

pub came_of : (x : Name) (from : ℕ) (ks : List Name) (n : Note Name) → fate_brought x (Receives from (read_note ks n)) ≤ waiting x (Receives from (read_note ks n)) + of_note x n
unfolding fate_brought waiting
came_of x from ks n = let e = note_brings x ks n in omega arith

module _ (script : Script) (w y : World) (a v : ℕ) (s t : Vat Name) (n : Note Name) (ns : List (Note Name)) (l : Link) (at : link_at a v w.links ≡ Some l) (cut : l.cut ≡ false) (notes : l.notes ≡ n ∷ ns)
    (d : Does script w v s s t (Receives a (read_note (names_of s) n))) (b : Before script w) (next : Stands script y) (placed : slice_get y.vats v ≡ Some t)
    (first : (g : ℕ) (m : Msg) → (g ≡ v → ⊥) → NamesNot (Answer g m) n → FirstOut g m s t) (fresh : FreshOut v s t) (h : Legs w.vats w.links) where
  abbrev Taken : List Link
  Taken = with_link (with_notes ns) a v w.links

  abbrev What : Step Name Name
  What = Receives a (read_note (names_of s) n)

  taken : Legs w.vats Taken
  taken = taken_legs w.vats w.links a v n ns l at notes h

  apart_links : AllApart w.links
  apart_links = let counted = b.counted in let fated = counted.fated (Sent (record { sender = 0; number = 0 })) in fated.apart

  apart_taken : AllApart Taken
  unfolding with_notes
  apart_taken = with_link_apart (with_notes ns) (λ k i. i) a v w.links apart_links

  not_self : a ≡ v → ⊥
  not_self i = let e : link_at v v w.links ≡ Some l = ap (λ z. link_at z v w.links) (sym i) ∙ at in self_none w.links apart_links v l e

  less_on : (x : Name) → total (on_link x) Taken + of_note x n ≤ total (on_link x) w.links
  unfolding with_notes on_link total
  less_on x = let c = with_link_changes x (with_notes ns) a v w.links l at in let e : total (of_note x) l.notes ≡ of_note x n + total (of_note x) ns = ap (λ js. total (of_note x) js) notes in omega arith

  sound_note : NoteSound a v n
  sound_note = sound_note_of w a v n ns l b.counted at notes

  well_note : NoteWell n
  well_note = let counted = b.counted in let well = counted.well in head_of NoteWell l.notes n ns (found_link a v w.links l at well.links) notes

  note_facts : (m : Msg) → Facts w.vats v s t Taken d.there m (of_note (Sent m) n) (leaves (Sent m) What) (sent_in (Sent m) t.happened)
  unfolding names_of brought
  note_facts m = let counted = b.counted in facts script w y v s s t What d Taken m (of_note (Sent m) n) (stands_of script w b) next placed counted
      (let c = world_one (Sent m) w (counted.fated (Sent m)) in let e = less_on (Sent m) in omega arith) (less_on (Sent m))
      (let c = note_leaves_most (Sent m) a (names_in s.known) n in let e = note_most (Sent m) n in omega arith)
      (came_of (Sent m) a (names_in s.known) n) (note_comes (names_in s.known) n well_note) (note_arrives (names_in s.known) a v n not_self sound_note)
      (λ g none. brings_mail v g m a s.gifts (names_in s.known) n mails (nowhere_not script w a v g m n ns l b h.none at notes none))
      (λ none. brings_mail v v m a s.gifts (names_in s.known) n mails (unknown_not script w a v m s n ns l b h.none d.there at cut notes none))
      (λ g other some. let c = note_leaves_most (Sent m) a (names_in s.known) n in let e = first_weight (Sent m) l n ns notes in let q = note_most (Sent m) n in let f = (h.apart m v g some.0 some.1 other some.2 some.3).1 a l at in omega arith)
      (λ g other k none. pick g none (first g m other (nowhere_not script w a v g m n ns l b h.none at notes none) k)) fresh (taken.apart m) (taken.early m) (taken.selfless m) (self_none Taken apart_taken)
    where
      mails : NoteOk MailBits n
      mails = first_mails script w a v n ns l b at notes

      pick : (g : ℕ) → ((z : ℕ) (r : Vat Name) → slice_get w.vats z ≡ Some r → IsAmong (Answer g m) (names_in r.known) → ⊥) → IsAmong (Answer g m) (names_in s.known) ⊎ PutsFirst g m t.outbox → PutsFirst g m t.outbox
      pick g none (inl k) = absurd (none v s d.there k)
      pick g none (inr p) = p

  pub note_legs : Legs (put_at v t w.vats) (push_all v t.outbox Taken)
  note_legs = record {
    none = none_next script w.vats v s t Taken d.there taken.none;
    dry = dry_next v t.outbox Taken taken.dry;
    apart = λ m. apart_next w.vats v s t Taken d.there m (of_note (Sent m) n) (leaves (Sent m) What) (sent_in (Sent m) t.happened) (note_facts m);
    early = λ m. early_next w.vats v s t Taken d.there m (of_note (Sent m) n) (leaves (Sent m) What) (sent_in (Sent m) t.happened) (note_facts m);
    selfless = λ m. self_next w.vats v s t Taken d.there m (of_note (Sent m) n) (leaves (Sent m) What) (sent_in (Sent m) t.happened) (note_facts m);
  }

-- ---- the worlds of a run

abbrev pub LegsOf : World → Type 0
LegsOf w = Legs w.vats w.links

module _ (script : Script) where
  pub legs_on : (w y : World) → Before script w → Before script y → Moved script w y → LegsOf w → LegsOf y
  legs_on w y p r (Still e f d) h = rw (e, f) h
  legs_on w y p r (Severs a b e f d) h = rw (e, f) (cut_legs w.vats (with_link severed_link a b w.links) b a (cut_legs w.vats w.links a b h))
  legs_on w y p r (Drops a v n ns l at notes none e f d) h = rw (e, f) (taken_legs w.vats w.links a v n ns l at notes h)
  legs_on w y p r (Steps v s q t what alone does e f d first fresh) h = rw (e, f) (alone_legs script w y v s q t what alone does p (stands_of script y r) (there_next script w y v s t does.there e) first fresh h)
  legs_on w y p r (Arrives a v s t n ns l at cut notes does e f d first fresh) h = rw (e, f) (note_legs script w y a v s t n ns l at cut notes does p (stands_of script y r) (there_next script w y v s t does.there e) first fresh h)

  -- at the start no note is under way
  empty : (ns : List (Note Name)) → AllOf (λ (n : Note Name). ⊥) ns → ns ≡ []
  empty [] h = refl
  empty (n ∷ ns) h = absurd h.0

  no_notes : (a b : ℕ) → AtLink a b (λ l. l.notes ≡ []) (world.links_from script.vats zero script.vats)
  no_notes a b l e = found (link_at a b (world.links_from script.vats zero script.vats)) e (lift.found_fits (λ v u n. ⊥) a b (world.links_from script.vats zero script.vats) (lift.links_from_fit (λ v u n. ⊥) script.vats zero script.vats))
    where
      found : (o : Option Link) → o ≡ Some l → MayBe (lift.At (λ v u n. ⊥) a b) o → l.notes ≡ []
      found o i k = let none : AllOf (λ (n : Note Name). ⊥) l.notes = rw i at k in empty l.notes none

  pub begins_legs : LegsOf (world.begins script)
  unfolding world.begins
  begins_legs = record {
    none = λ a b e. no_notes a b;
    dry = λ a b l e i. no_notes a b l e;
    apart = λ m h g z r n e k. absurd (fresh_none script g m zero script.vats z r e k);
    early = λ m a g r e k. absurd (fresh_none script g m zero script.vats g r e k);
    selfless = λ m a g l e. rw (no_notes a g l e) tt;
  }

  module _ (once : KnowsOnce script) where
    pub opened_before : (ps rest : List Program) (w : World) → script.vats ≡ ps ++ rest → world.open_from script zero ps (world.begins script) ≡ Going w → Before script w
    opened_before ps rest w i e = record { past = opened_past script once ps rest w i e; counted = opened_counted script ps w e; holds = opened_holds script once ps rest w i e }

    pub stepped_before : (w x : World) (es : List Entry) (k : ℕ) → world.open_from script zero script.vats (world.begins script) ≡ Going w → world.steps_from script es k w ≡ Going x → Before script x
    stepped_before w x es k e i = record { past = stepped_past script once w x es k e i; counted = stepped_counted script w x es k e i; holds = stepped_holds script once w x es k e i }
