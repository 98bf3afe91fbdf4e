-- In every world of a run the two legs of each message are apart.
use Rattle.std.proofs.Common.{◌≡◌, ℕ, zero, suc, ◌+◌, ◌≤◌, Bool, true, false, List, [], ◌∷◌, ◌++◌, Option, Some, None, refl, sym, ap, ◌∙◌, ◌⊎◌, inl, inr, arith}
use Rattle.std.specs.Prelude.{slice_get}
use Rattle.def_machine.specs.Values.{Name, Answer, Sent, Msg}
use Rattle.def_machine.specs.State.{Note, Deliver, Put, Vat, GiftEntry}
use Rattle.law_machine.specs.Machine.Steps.{Step, Receives}
use Rattle.def_run.specs.World.{Script, Link, World, read_note, put_at, pushed, push_all, with_link, with_notes, severed_link, link_at, is_link}
use Rattle.law_fate.specs.Fates.Fate.{total, in_note, of_note, on_link, sent_in}
use Rattle.law_fate.specs.Fates.FateLaws.{brought as fate_brought}
use Rattle.law_fate.specs.Fates.Lasting.{StepComes}
use Rattle.law_fate.proofs.Fates.RunCounts.{AllApart, ends_of}
use Rattle.law_fate.specs.Fates.Carry.{weight, link_weight}
use Rattle.law_fate.specs.Fates.Sound.{StepArrives}
use Rattle.law_fate.specs.Fates.CarryLaws.{leaves}
use Rattle.law_reference.specs.Reference.Knowing.{brings, brought, new_answer}
use Rattle.law_fate.specs.Name.Names.{Bit, Named, Mail, Drew, AllOf, IsAmong, IsMessageName, NoteOk, names_in}
use Rattle.law_fate.proofs.Name.Facts.{MayBe, note_up}
use Rattle.law_fate.proofs.Name.Among.{get_put}
use Rattle.law_fate.proofs.Name.Run.{Stands, Told}
use Rattle.law_reference.proofs.Reference.LinksCut.{fits_notes, fits_severed}
use Rattle.law_reference.proofs.Reference.RunLift.{link_ok}
use Rattle.law_reference.specs.Reference.Behind.{Avoids, NamesNot, Bears, ComesFirst, IsKnownTo as KnowsIn}
use Rattle.law_reference.proofs.Reference.First.{PutsFirst, among_dec}
use Rattle.law_reference.proofs.Reference.CareBeside.{made_message}
use Rattle.law_reference.proofs.Reference.FirstSteps.{FirstOut}
use Rattle.law_reference.proofs.Reference.FreshSteps.{FreshOut}
use Rattle.law_reference.proofs.Reference.AnswerLinks.{AtLink, with_any, push_others, push_keeps}
use Rattle.law_reference.proofs.Reference.Moves.{Does, IsAlone, waiting}
use Rattle.law_reference.proofs.Reference.Follow.{Followed}
use Rattle.law_reference.proofs.Reference.Unnamed.{not_named}
use Rattle.law_reference.proofs.Reference.FollowRuns.{Past, Holds, same_link, tail_of}
use Rattle.law_reference.proofs.Reference.Telling.{mails, note_not, brings_parts, avoids_never, NeverNew}
use Rattle.law_reference.proofs.Reference.Places.{head_link}
use Rattle.law_reference.proofs.Reference.Onward.{mail_most}
use Rattle.law_reference.proofs.Reference.Counts.{Counted, world_one}
use Rattle.law_reference.proofs.Reference.Legs.{ApartIn, EarlyIn, SelfNotIn, SelflessIn, Facts, apart_next, early_next, self_next}
use Rattle.law_reference.proofs.Reference.LegFacts.{facts}

-- ---- links

taken_at : (P : Link → Type 0) (ls : List Link) (a v : ℕ) (n : Note Name) (ns : List (Note Name)) (l : Link) → link_at a v ls ≡ Some l → l.notes ≡ n ∷ ns → ((k : Link) → k.notes ≡ n ∷ ns → P k → P (with_notes ns k)) → (c d : ℕ) → AtLink c d P ls → AtLink c d P (with_link (with_notes ns) a v ls)
taken_at P ls a v n ns l at notes law c d h = with_any c d a v P (with_notes ns) (fits_notes c d ns) ls (λ k i x y. law k (ap (λ (j : Link). j.notes) (same_link c d a v ls k l i at x y) ∙ notes) (h k i)) (λ k i f. h k i)

cut_at : (P : Link → Type 0) (ls : List Link) (c d : ℕ) → ((k : Link) → P (severed_link k)) → (a b : ℕ) → AtLink a b P ls → AtLink a b P (with_link severed_link c d ls)
cut_at P ls c d law a b h = with_any a b c d P severed_link (fits_severed a b) ls (λ l i j k. law l) (λ l i f. h l i)

pub self_none : (ls : List Link) → AllApart ls → (u : ℕ) → AtLink u u (λ l. ⊥) ls
unfolding link_at
self_none [] h u l e = cc
self_none (k ∷ ls) h u l e = either (head_link (is_link u u k) k l (link_at u u ls) e) (λ i. self_none ls h.1 u l i)
  where
    either : ((is_link u u k ≡ true) × (k ≡ l)) ⊎ ((is_link u u k ≡ false) × (link_at u u ls ≡ Some l)) → (link_at u u ls ≡ Some l → ⊥) → ⊥
    either (inl i) rest = let ends = ends_of u u k i.0 in h.0 (ends.0 ∙ sym ends.1)
    either (inr i) rest = rest i.1

put_none : (v : ℕ) (y : Vat Name) (xs : List (Vat Name)) (a : ℕ) → slice_get (put_at v y xs) a ≡ None → slice_get xs a ≡ None
unfolding put_at
put_none v y [] a e = e
put_none zero y (x ∷ xs) zero e = absurd (full e)
  where
    full : ◌≡◌ {A = Option (Vat Name)} (Some y) None → ⊥
    full i = cc
put_none zero y (x ∷ xs) (suc a) e = e
put_none (suc v) y (x ∷ xs) zero e = e
put_none (suc v) y (x ∷ xs) (suc a) e = put_none v y xs a e

-- what is no vat sends no note
abbrev pub NoneFrom : List (Vat Name) → List Link → Type 0
NoneFrom vs ls = (a b : ℕ) → slice_get vs a ≡ None → AtLink a b (λ l. l.notes ≡ []) ls

-- a link that is cut has no note
abbrev pub Dry : Link → Type 0
Dry l = l.cut ≡ true → l.notes ≡ []

false_true : false ≡ true → ⊥
false_true e = cc

dry_pushed : (l : Link) (n : Note Name) → Dry l → Dry (pushed n l)
unfolding pushed
dry_pushed l n h = either l.cut refl
  where
    either : (c : Bool) → l.cut ≡ c → Dry (elim c [ true ↦ record l { log = l.log ++ n ∷ [] } | false ↦ record l { notes = l.notes ++ n ∷ []; log = l.log ++ n ∷ [] } ])
    either true e = h
    either false e = λ i. absurd (false_true (sym e ∙ i))

pub dry_next : (v : ℕ) (ps : List (Put Name)) (ls : List Link) → ((a b : ℕ) → AtLink a b Dry ls) → (a b : ℕ) → AtLink a b Dry (push_all v ps ls)
dry_next v ps ls h a b = push_keeps a b v Dry dry_pushed ps ls (h a b)

pub record Legs (vs : List (Vat Name)) (ls : List Link) : Type 0 where
  pub none : NoneFrom vs ls
  pub dry : (a b : ℕ) → AtLink a b Dry ls
  pub apart : (m : Msg) → ApartIn m vs ls
  pub early : (m : Msg) → EarlyIn m vs ls
  pub selfless : (m : Msg) → SelflessIn m ls

pub no_more : {n : Note Name} {ns : List (Note Name)} → ◌≡◌ {A = List (Note Name)} (n ∷ ns) [] → ⊥
no_more e = cc

pub cut_legs : (vs : List (Vat Name)) (ls : List Link) (c d : ℕ) → Legs vs ls → Legs vs (with_link severed_link c d ls)
unfolding severed_link link_weight on_link total
cut_legs vs ls c d h = record {
  none = λ a b e. cut_at (λ l. l.notes ≡ []) ls c d (λ k. refl) a b (h.none a b e);
  dry = λ a b. cut_at Dry ls c d (λ k i. refl) a b (h.dry a b);
  apart = λ m x g z r n e k. let o = h.apart m x g z r n e k in (o.0, λ a. cut_at (λ l. link_weight (Sent m) l ≤ 1) ls c d (λ k. omega arith) a x (o.1 a));
  early = λ m a g r e k. cut_at (λ l. on_link (Sent m) l ≤ 0) ls c d (λ k. omega arith) a g (h.early m a g r e k);
  selfless = λ m a g. cut_at (λ l. AllOf (SelfNotIn m g) l.notes) ls c d (λ k. tt) a g (h.selfless m a g);
}

module _ (vs : List (Vat Name)) (ls : List Link) (a v : ℕ) (n : Note Name) (ns : List (Note Name)) (l : Link) (at : link_at a v ls ≡ Some l) (notes : l.notes ≡ n ∷ ns) where
  less_weight : (x : Name) (k : Link) → k.notes ≡ n ∷ ns → link_weight x k ≤ 1 → link_weight x (with_notes ns k) ≤ 1
  unfolding link_weight total with_notes
  less_weight x k i h = let e : total (weight x) k.notes ≡ weight x n + total (weight x) ns = ap (λ js. total (weight x) js) i in omega arith

  less_on : (x : Name) (k : Link) → k.notes ≡ n ∷ ns → on_link x k ≤ 0 → on_link x (with_notes ns k) ≤ 0
  unfolding on_link total with_notes
  less_on x k i h = let e : total (of_note x) k.notes ≡ of_note x n + total (of_note x) ns = ap (λ js. total (of_note x) js) i in omega arith

  less_notes : (P : Note Name → Type 0) (k : Link) → k.notes ≡ n ∷ ns → AllOf P k.notes → AllOf P (with_notes ns k).notes
  unfolding with_notes
  less_notes P k i h = (tail_of P k k n ns h refl i).1

  less_dry : (k : Link) → k.notes ≡ n ∷ ns → Dry k → Dry (with_notes ns k)
  unfolding with_notes
  less_dry k i o j = absurd (no_more (sym i ∙ o j))

  pub taken_legs : Legs vs ls → Legs vs (with_link (with_notes ns) a v ls)
  taken_legs h = record {
    none = λ c d e. taken_at (λ k. k.notes ≡ []) ls a v n ns l at notes (λ k i o. absurd (no_more (sym i ∙ o))) c d (h.none c d e);
    dry = λ c d. taken_at Dry ls a v n ns l at notes less_dry c d (h.dry c d);
    apart = λ m x g z r k e i. let o = h.apart m x g z r k e i in (o.0, λ c. taken_at (λ k. link_weight (Sent m) k ≤ 1) ls a v n ns l at notes (less_weight (Sent m)) c x (o.1 c));
    early = λ m c g r e k. taken_at (λ k. on_link (Sent m) k ≤ 0) ls a v n ns l at notes (less_on (Sent m)) c g (h.early m c g r e k);
    selfless = λ m c g. taken_at (λ k. AllOf (SelfNotIn m g) k.notes) ls a v n ns l at notes (less_notes (SelfNotIn m g)) c g (h.selfless m c g);
  }

-- ---- steps that no note begins

pub alone_leaves : (x : Name) (what : Step Name Name) → IsAlone what → leaves x what ≤ 0
unfolding leaves
alone_leaves x (Receives from n) h = absurd h
alone_leaves x other h = omega arith

pub alone_came : (x : Name) (what : Step Name Name) → IsAlone what → fate_brought x what ≤ waiting x what + 0
unfolding fate_brought waiting
alone_came x (Receives from n) h = absurd h
alone_came x other h = omega arith

pub alone_comes : (what : Step Name Name) → IsAlone what → StepComes what
alone_comes (Receives from n) h = absurd h
alone_comes other h = tt

pub alone_arrives : (v : ℕ) (what : Step Name Name) → IsAlone what → StepArrives v what
alone_arrives v (Receives from n) h = absurd h
alone_arrives v other h = tt

pub alone_brings : (v : ℕ) (x : Name) (gs : List (GiftEntry Name)) (what : Step Name Name) → IsAlone what → brought v x gs what ≤ 0
unfolding brought
alone_brings v x gs (Receives from n) h = absurd h
alone_brings v x gs other h = omega arith

bears_names : (m : Msg) (x : Name) (n : Note Name) → Bears m x n → NamesNot x n
bears_names m x (Deliver d n verb ys) b = b.2
bears_names m x other b = absurd b

-- names that messages are named by
abbrev pub MailBits : Bit Name → Type 0
MailBits (Mail n) = IsMessageName n
MailBits other = Unit {0}

-- the answers that the message of a note brings
pub mails_most : (v g : ℕ) (m : Msg) (ks : List Name) (n : Note Name) → NoteOk MailBits n → mails v (Answer g m) (read_note ks n) ≤ of_note (Sent m) n
unfolding mails read_note new_answer of_note in_note
mails_most v g m ks (Deliver d x verb ys) h = mail_most v g m d.message h.0
mails_most v g m ks other h = omega arith

-- a note that does not name an answer brings it by its message alone
pub brings_mail : (v g : ℕ) (m : Msg) (from : ℕ) (gs : List (GiftEntry Name)) (ks : List Name) (n : Note Name) → NoteOk MailBits n → NamesNot (Answer g m) n → brings v (Answer g m) from gs (read_note ks n) ≤ of_note (Sent m) n
brings_mail v g m from gs ks n h f = let a = brings_parts v (Answer g m) from gs (read_note ks n) tt in let b = mails_most v g m ks n h in let c = note_not (Answer g m) ks n tt (note_up (Avoids (Answer g m)) (NeverNew (Answer g m)) (avoids_never (Answer g m)) n f) in omega arith

-- ---- what is known of the worlds of a run

module _ (script : Script) where
  pub record Before (w : World) : Type 0 where
    pub past : Past script w
    pub counted : Counted w
    pub holds : Holds script w

  pub stands_of : (w : World) → Before w → Stands script w
  stands_of w b = let p = b.past in p.0

  told_mails : (w : World) (b : Bit Name) → Told script w b → MailBits b
  told_mails w (Named x) h = tt
  told_mails w (Mail x) h = made_message w.vats x h.0
  told_mails w (Drew i) h = tt
  told_mails w other k = tt

  -- the first note of a link
  pub first_mails : (w : World) (a v : ℕ) (n : Note Name) (ns : List (Note Name)) (l : Link) → Before w → link_at a v w.links ≡ Some l → l.notes ≡ n ∷ ns → NoteOk MailBits n
  first_mails w a v n ns l b at notes = let s = stands_of w b in note_up (Told script w) MailBits (told_mails w) n (found (link_at a v w.links) at (link_ok (λ (k : Link). AllOf (NoteOk (Told script w)) k.notes) a v w.links s.links))
    where
      found : (o : Option Link) → o ≡ Some l → MayBe (λ (k : Link). AllOf (NoteOk (Told script w)) k.notes) o → NoteOk (Told script w) n
      found o e h = let one : AllOf (NoteOk (Told script w)) l.notes = rw e at h in (tail_of (NoteOk (Told script w)) l l n ns one refl notes).0

  -- who put it
  pub sender_of : (w : World) (a v : ℕ) (n : Note Name) (ns : List (Note Name)) (l : Link) → NoneFrom w.vats w.links → link_at a v w.links ≡ Some l → l.notes ≡ n ∷ ns → (u : Vat Name) × (slice_get w.vats a ≡ Some u)
  sender_of w a v n ns l none at notes = either (slice_get w.vats a) refl
    where
      either : (o : Option (Vat Name)) → slice_get w.vats a ≡ o → (u : Vat Name) × (slice_get w.vats a ≡ Some u)
      either (Some u) e = (u, e)
      either None e = absurd (no_more (sym notes ∙ none a v e l at))

  -- what no vat knows it does not name
  pub nowhere_not : (w : World) (a v g : ℕ) (m : Msg) (n : Note Name) (ns : List (Note Name)) (l : Link) → Before w → NoneFrom w.vats w.links → link_at a v w.links ≡ Some l → l.notes ≡ n ∷ ns
      → ((z : ℕ) (r : Vat Name) → slice_get w.vats z ≡ Some r → IsAmong (Answer g m) (names_in r.known) → ⊥) → NamesNot (Answer g m) n
  nowhere_not w a v g m n ns l b none at notes f = let u = sender_of w a v n ns l none at notes in let h = b.holds in
      not_named (Answer g m) u.0 (f a u.0 u.1) n (tail_of (NoteOk (KnowsIn u.0)) l l n ns (h.0 a v u.0 u.1 l at) refl notes).0

  -- nor an answer of the receiver that it does not know
  pub unknown_not : (w : World) (a v : ℕ) (m : Msg) (s : Vat Name) (n : Note Name) (ns : List (Note Name)) (l : Link) → Before w → NoneFrom w.vats w.links → slice_get w.vats v ≡ Some s → link_at a v w.links ≡ Some l → l.cut ≡ false → l.notes ≡ n ∷ ns
      → (IsAmong (Answer v m) (names_in s.known) → ⊥) → NamesNot (Answer v m) n
  unknown_not w a v m s n ns l b none there at cut notes f = let u = sender_of w a v n ns l none at notes in either u.0 u.1 (among_dec (Answer v m) (names_in u.0.known))
    where
      not_cut : l.cut ≡ true → ⊥
      not_cut i = opposite (sym cut ∙ i)
        where
          opposite : false ≡ true → ⊥
          opposite i = cc

      in_front : ComesFirst m (Answer v m) (n ∷ ns) → NamesNot (Answer v m) n
      in_front (inl i) = bears_names m (Answer v m) n i
      in_front (inr i) = i.0

      followed : Followed v m s l → NamesNot (Answer v m) n
      followed (inl k) = absurd (f k)
      followed (inr (inl c)) = absurd (not_cut c)
      followed (inr (inr i)) = in_front (rw notes at i)

      either : (u : Vat Name) → slice_get w.vats a ≡ Some u → IsAmong (Answer v m) (names_in u.known) ⊎ (IsAmong (Answer v m) (names_in u.known) → ⊥) → NamesNot (Answer v m) n
      either u e (inl k) = let h = b.holds in followed (h.1 a v m u s e there k l at)
      either u e (inr k) = let h = b.holds in not_named (Answer v m) u k n (tail_of (NoteOk (KnowsIn u)) l l n ns (h.0 a v u e l at) refl notes).0

  -- ---- a step

  pub none_next : (vs : List (Vat Name)) (v : ℕ) (s t : Vat Name) (ls : List Link) → slice_get vs v ≡ Some s → NoneFrom vs ls → NoneFrom (put_at v t vs) (push_all v t.outbox ls)
  none_next vs v s t ls there h a b e = push_others a b v (λ l. l.notes ≡ []) t.outbox ls (λ i. full (sym e ∙ (ap (λ z. slice_get (put_at v t vs) z) i ∙ get_put vs v s t there))) (h a b (put_none v t vs a e))
    where
      full : ◌≡◌ {A = Option (Vat Name)} None (Some t) → ⊥
      full i = cc

  module _ (w y : World) (v : ℕ) (s q t : Vat Name) (what : Step Name Name) (alone : IsAlone what) (d : Does script w v s q t what) (b : Before w) (next : Stands script y) (placed : slice_get y.vats v ≡ Some t)
      (first : (g : ℕ) (m : Msg) → (g ≡ v → ⊥) → FirstOut g m s t) (fresh : FreshOut v s t) (h : Legs w.vats w.links) where
    alone_facts : (m : Msg) → Facts w.vats v s t w.links d.there m 0 (leaves (Sent m) what) (sent_in (Sent m) t.happened)
    alone_facts m = let counted = b.counted in let fated = counted.fated (Sent m) in facts script w y v s q t what d w.links m 0 (stands_of w b) next placed counted
        (let a = world_one (Sent m) w fated in omega arith) (omega arith) (alone_leaves (Sent m) what alone) (alone_came (Sent m) what alone) (alone_comes what alone) (alone_arrives v what alone)
        (λ g none. alone_brings v (Answer g m) s.gifts what alone) (λ none. alone_brings v (Answer v m) s.gifts what alone) (λ g other some. alone_leaves (Sent m) what alone)
        (λ g other k none. pick g none (first g m other k)) fresh (h.apart m) (h.early m) (h.selfless m) (self_none w.links fated.apart)
      where
        pick : (g : ℕ) → ((z : ℕ) (r : Vat Name) → slice_get w.vats z ≡ Some r → IsAmong (Answer g m) (names_in r.known) → ⊥) → IsAmong (Answer g m) (names_in s.known) ⊎ PutsFirst g m t.outbox → PutsFirst g m t.outbox
        pick g none (inl k) = absurd (none v s d.there k)
        pick g none (inr p) = p

    pub alone_legs : Legs (put_at v t w.vats) (push_all v t.outbox w.links)
    alone_legs = record {
      none = none_next w.vats v s t w.links d.there h.none;
      dry = dry_next v t.outbox w.links h.dry;
      apart = λ m. apart_next w.vats v s t w.links d.there m 0 (leaves (Sent m) what) (sent_in (Sent m) t.happened) (alone_facts m);
      early = λ m. early_next w.vats v s t w.links d.there m 0 (leaves (Sent m) what) (sent_in (Sent m) t.happened) (alone_facts m);
      selfless = λ m. self_next w.vats v s t w.links d.there m 0 (leaves (Sent m) what) (sent_in (Sent m) t.happened) (alone_facts m);
    }
