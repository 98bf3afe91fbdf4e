-- The first note on a link brings each answer once at most, and none that is claimed at the receiver, where none is claimed twice.
use Rattle.std.proofs.Common.{◌≡◌, ℕ, zero, suc, ◌+◌, ◌≤◌, ◌<◌, Bool, true, false, List, ◌∷◌, Option, Some, refl, sym, ap, ◌∙◌, ◌⊎◌, inl, inr, arith, ◌==◌, ◌&&◌}
use Rattle.std.specs.Prelude.{slice_get}
use Rattle.std.proofs.lemmas.Bool.{eqb-true, eq-eqb}
use Rattle.def_machine.specs.Values.{Name, Object, Answer, Sent, Msg, same_name, same_msg, answer_of, host_of}
use Rattle.def_machine.specs.State.{Note, Deliver, GiftEntry, Vat}
use Rattle.def_machine.specs.Arrive.{Incoming}
use Rattle.def_run.specs.World.{Script, Link, World, link_at, read_note, read_name, is_old}
use Rattle.law_fate.specs.Fates.Fate.{total, at_vat, in_note, of_note, on_link, one as same_one, once as same_once}
use Rattle.law_fate.specs.Fates.FateLaws.{numbered as fate_numbered}
use Rattle.law_fate.specs.Fates.Carry.{fare, weight}
use Rattle.law_fate.specs.Fates.Sound.{NoteSound}
use Rattle.law_reference.specs.Reference.Knowing.{once, one, claims, brings}
use Rattle.law_reference.specs.Reference.NameTableRuns.{other, is_own, is_own_name, answer_here, brings_here}
use Rattle.law_fate.specs.Name.Names.{AllOf, IsAmong, IsMessageMade, IsMessageName, NoteOk, names_in, messages_of}
use Rattle.law_fate.proofs.Name.Facts.{MayBe, note_up}
use Rattle.law_fate.proofs.Name.Among.{messages_at}
use Rattle.law_fate.proofs.Name.SameNames.{same_is}
use Rattle.law_fate.proofs.Name.Run.{Told}
use Rattle.law_reference.proofs.Reference.RunLift.{link_ok}
use Rattle.law_reference.specs.Reference.Behind.{Avoids, NamesNot, IsKnownTo as KnowsIn}
use Rattle.law_reference.proofs.Reference.First.{among_dec}
use Rattle.law_reference.proofs.Reference.Follow.{eq_dec}
use Rattle.law_reference.proofs.Reference.Unnamed.{not_named}
use Rattle.law_reference.proofs.Reference.FollowRuns.{tail_of}
use Rattle.law_reference.proofs.Reference.Telling.{has, has_true, tells, mails, note_tells, note_not, brings_parts, here_most, avoids_never, NeverNew}
use Rattle.law_reference.proofs.Reference.Places.{total_at, link_total, held_places}
use Rattle.law_reference.proofs.Reference.Onward.{claims_held, claims_own}
use Rattle.law_reference.proofs.Reference.Counts.{world_one, numbered_full}
use Rattle.law_reference.proofs.Reference.Legs.{known_dec}
use Rattle.law_reference.proofs.Reference.LegFacts.{mailed_at, known_made}
use Rattle.law_reference.proofs.Reference.LegRuns.{MailBits, Legs, no_more, brings_mail, mails_most, Before, stands_of, first_mails, sender_of, nowhere_not, unknown_not}
use Rattle.law_reference.proofs.Reference.LegMoves.{first_weight, sound_note_of}

-- how often an answer may be claimed: once, but not before its message is made
abbrev pub Most : ℕ → ℕ → Msg → Vat Name → ℕ
Most v g m s = other v (Answer g m) + fate_numbered v s.messages (Sent m)

abbrev pub Single : List (Vat Name) → Type 0
Single vs = (v : ℕ) (s : Vat Name) → slice_get vs v ≡ Some s → (g : ℕ) (m : Msg) → claims v (Answer g m) s.known ≤ Most v g m s

-- a message on an object of this vat
abbrev pub OwnTarget : ℕ → Note Name → Type 0
OwnTarget v (Deliver id (Object w i) verb ys) = v ≡ w
OwnTarget v other = ⊥

other_full : (v g : ℕ) (m : Msg) → (m.sender ≡ v → ⊥) → 1 ≤ other v (Answer g m)
unfolding other
other_full v g m f = either (v == m.sender) refl
  where
    either : (b : Bool) → (v == m.sender) ≡ b → 1 ≤ elim b [ true ↦ 0 | false ↦ 1 ]
    either true e = absurd (f (sym (eqb-true v m.sender e)))
    either false e = omega arith

-- a message that weighs one in a note is on an object
own_target : (v a : ℕ) (m : Msg) (n : Note Name) → NoteSound a v n → 1 ≤ of_note (Sent m) n → weight (Sent m) n ≤ 1 → OwnTarget v n
unfolding of_note in_note weight fare host_of
own_target v a m (Deliver id (Object w i) verb ys) h k l = sym h
own_target v a m other h k l = absurd (omega arith)

-- its answer here is none of another host
pub abroad_none : (v g : ℕ) (m : Msg) (id : Name) → (g ≡ v → ⊥) → IsMessageName id → one (answer_of v id) (Answer g m) ≤ 0
unfolding answer_of one same_name once
abroad_none v g m (Sent k) f h = either (v == g) refl
  where
    either : (b : Bool) → (v == g) ≡ b → once (b && same_msg k m) ≤ 0
    either true e = absurd (f (sym (eqb-true v g e)))
    either false e = omega arith
abroad_none v g m other f h = absurd h

-- so such a note brings an answer of another host only by telling it
pub own_brings : (v g : ℕ) (m : Msg) (from : ℕ) (gs : List (GiftEntry Name)) (ks : List Name) (n : Note Name) → (g ≡ v → ⊥) → NoteOk MailBits n → OwnTarget v n → brings_here v (Answer g m) from gs (read_note ks n) ≤ tells (Answer g m) (read_note ks n)
unfolding brings_here tells read_note read_name is_old is_own is_own_name answer_here
own_brings v g m from gs ks (Deliver d (Object w i) verb ys) f h e = rw (eq-eqb v w e, brings_here) (let a = abroad_none v g m d.message f h.0 in omega arith)
own_brings v g m from gs ks other f h e = absurd e

module _ (script : Script) (w : World) (b : Before script w) (h : Legs w.vats w.links) (single : Single w.vats) (a v : ℕ) (s : Vat Name) (n : Note Name) (ns : List (Note Name)) (l : Link)
    (there : slice_get w.vats v ≡ Some s) (at : link_at a v w.links ≡ Some l) (notes : l.notes ≡ n ∷ ns) (g : ℕ) (m : Msg) where
  abbrev X : Name
  X = Answer g m

  abbrev M : Name
  M = Sent m

  abbrev Read : Note (Incoming Name Name)
  Read = read_note (names_in s.known) n

  -- the message was made
  full : m.number < messages_of w.vats m.sender → 1 ≤ Most v g m s
  full k = either (eq_dec m.sender v)
    where
      either : (m.sender ≡ v) ⊎ (m.sender ≡ v → ⊥) → 1 ≤ Most v g m s
      either (inl e) = let c : messages_of w.vats m.sender ≡ messages_of w.vats v = ap (λ z. messages_of w.vats z) e in let d = messages_at w.vats v s there in let f = numbered_full v s.messages m e (omega arith) in omega arith
      either (inr f) = let c = other_full v g m f in omega arith

  by_same : (id : Name) → IsMessageMade w.vats id → 1 ≤ same_one id M → m.number < messages_of w.vats m.sender
  unfolding same_one same_once
  by_same id made i = either (same_name id M) refl i
    where
      either : (c : Bool) → same_name id M ≡ c → 1 ≤ same_once c → m.number < messages_of w.vats m.sender
      either true e j = rw (same_is id M e) at made
      either false e j = absurd (omega arith)

  of_told : (k : Note Name) → NoteOk (Told script w) k → 1 ≤ of_note M k → m.number < messages_of w.vats m.sender
  unfolding of_note in_note
  of_told (Deliver d x verb ys) t i = by_same d.message t.0.0 i
  of_told other t i = absurd (omega arith)

  told : NoteOk (Told script w) n
  told = let st = stands_of script w b in found (link_at a v w.links) at (link_ok (λ (k : Link). AllOf (NoteOk (Told script w)) k.notes) a v w.links st.links)
    where
      found : (o : Option Link) → o ≡ Some l → MayBe (λ (k : Link). AllOf (NoteOk (Told script w)) k.notes) o → NoteOk (Told script w) n
      found o e i = let one : AllOf (NoteOk (Told script w)) l.notes = rw e at i in (tail_of (NoteOk (Told script w)) l l n ns one refl notes).0

  named : NoteOk MailBits n
  named = first_mails script w a v n ns l b at notes

  uncut : l.cut ≡ false
  uncut = either l.cut refl
    where
      either : (c : Bool) → l.cut ≡ c → c ≡ false
      either true e = absurd (no_more (sym notes ∙ h.dry a v l at e))
      either false e = refl

  first_on : of_note M n ≤ on_link M l
  unfolding on_link total
  first_on = let e : total (of_note M) l.notes ≡ of_note M n + total (of_note M) ns = ap (λ js. total (of_note M) js) notes in omega arith

  places : at_vat M s + of_note M n ≤ 1
  places = let counted = b.counted in let c = world_one M w (counted.fated M) in let d = total_at (at_vat M) w.vats v s there in let e = link_total (on_link M) a v w.links l at in let f = first_on in omega arith

  not_told : NamesNot X n → tells X Read ≡ 0
  not_told f = note_not X (names_in s.known) n tt (note_up (Avoids X) (NeverNew X) (avoids_never X) n f)

  parts : brings v X a s.gifts Read ≡ mails v X Read + tells X Read
  parts = brings_parts v X a s.gifts Read tt

  by_mail : mails v X Read ≤ of_note M n
  by_mail = mails_most v g m (names_in s.known) n named

  once_told : tells X Read + has X (names_in s.known) ≤ 1
  once_told = note_tells X (names_in s.known) n tt

  abbrev pub Bound : Type 0
  Bound = (claims v X s.known + brings v X a s.gifts Read ≤ Most v g m s) ⊎ ((g ≡ v → ⊥) × OwnTarget v n × (claims v X s.known + tells X Read ≤ Most v g m s))

  -- an answer of this vat
  own_known : g ≡ v → IsAmong X (names_in s.known) → Bound
  own_known i k = let c = single v s there g m in let d = (h.early m a g s (ap (λ z. slice_get w.vats z) i ∙ there) k) l (ap (λ z. link_at a z w.links) i ∙ at) in let e = first_on in let f = by_mail in let o = once_told in let t = has_true X (names_in s.known) k in let p = parts in inl (omega arith)

  own_unknown : g ≡ v → (IsAmong X (names_in s.known) → ⊥) → Bound
  own_unknown i k = let c : claims v X s.known ≤ 0 = own_claims in let d : NamesNot X n = own_not in let e = brings_mail v g m a s.gifts (names_in s.known) n named d in by_note (one_or_none (of_note M n)) c e
    where
      unknown : IsAmong (Answer v m) (names_in s.known) → ⊥
      unknown j = k (rw i j)

      own_claims : claims v X s.known ≤ 0
      own_claims = rw i (claims_own v m s.known (mailed_at script w (stands_of script w b) v s there) unknown)

      own_not : NamesNot X n
      own_not = rw i (unknown_not script w a v m s n ns l b h.none there at uncut notes unknown)

      one_or_none : (c : ℕ) → (1 ≤ c) ⊎ (c ≤ 0)
      one_or_none zero = inr (omega arith)
      one_or_none (suc c) = inl (omega arith)

      by_note : (1 ≤ of_note M n) ⊎ (of_note M n ≤ 0) → claims v X s.known ≤ 0 → brings v X a s.gifts Read ≤ of_note M n → Bound
      by_note (inl j) c e = let f = full (of_told n told j) in let p = places in inl (omega arith)
      by_note (inr j) c e = inl (omega arith)

  -- an answer of another vat, where the message does not come
  module _ (far : g ≡ v → ⊥) where
    quiet_known : of_note M n ≤ 0 → IsAmong X (names_in s.known) → Bound
    quiet_known z k = let c = single v s there g m in let f = by_mail in let o = once_told in let t = has_true X (names_in s.known) k in let p = parts in inl (omega arith)

    quiet_unknown : of_note M n ≤ 0 → (IsAmong X (names_in s.known) → ⊥) → Bound
    quiet_unknown z k = let u = sender_of script w a v n ns l h.none at notes in by_sender u.0 u.1 (among_dec X (names_in u.0.known))
      where
        by_sender : (u : Vat Name) → slice_get w.vats a ≡ Some u → IsAmong X (names_in u.known) ⊎ (IsAmong X (names_in u.known) → ⊥) → Bound
        by_sender u e (inl i) = let f = full (known_made script w (stands_of script w b) m a g u e i) in let held = (h.apart m v g a u far e i).0 s there in let c = claims_held v g m s.known (mailed_at script w (stands_of script w b) v s there) k in let j = by_mail in let o = once_told in let p = parts in inl (omega arith)
        by_sender u e (inr i) = let holds = b.holds in let f = not_told (not_named X u i n (tail_of (NoteOk (KnowsIn u)) l l n ns (holds.0 a v u e l at) refl notes).0) in let c = single v s there g m in let j = by_mail in let p = parts in inl (omega arith)

    -- and where it comes
    comes_nowhere : 1 ≤ of_note M n → ((z : ℕ) (r : Vat Name) → slice_get w.vats z ≡ Some r → IsAmong X (names_in r.known) → ⊥) → Bound
    comes_nowhere i none = let f = full (of_told n told i) in let c = claims_held v g m s.known (mailed_at script w (stands_of script w b) v s there) (none v s there) in let d = held_places M s in let e = not_told (nowhere_not script w a v g m n ns l b h.none at notes none) in let j = by_mail in let p = parts in let o = places in inl (omega arith)

    comes_somewhere : 1 ≤ of_note M n → (z : ℕ) (r : Vat Name) → slice_get w.vats z ≡ Some r → IsAmong X (names_in r.known) → IsAmong X (names_in s.known) ⊎ (IsAmong X (names_in s.known) → ⊥) → Bound
    comes_somewhere i z r e k d = let light = (h.apart m v g z r far e k).1 a l at in let first = first_weight M l n ns notes in
        inr (far, own_target v a m n (sound_note_of w a v n ns l b.counted at notes) i (omega arith), by_known d)
      where
        by_known : IsAmong X (names_in s.known) ⊎ (IsAmong X (names_in s.known) → ⊥) → claims v X s.known + tells X Read ≤ Most v g m s
        by_known (inl j) = let c = single v s there g m in let o = once_told in let t = has_true X (names_in s.known) j in omega arith
        by_known (inr j) = let f = full (of_told n told i) in let c = claims_held v g m s.known (mailed_at script w (stands_of script w b) v s there) j in let q = held_places M s in let o = once_told in let p = places in omega arith

  pub bound : Bound
  bound = by_host (eq_dec g v) (among_dec X (names_in s.known)) (one_or_none (of_note M n)) (known_dec X w.vats)
    where
      one_or_none : (c : ℕ) → (1 ≤ c) ⊎ (c ≤ 0)
      one_or_none zero = inr (omega arith)
      one_or_none (suc c) = inl (omega arith)

      by_host : (g ≡ v) ⊎ (g ≡ v → ⊥) → IsAmong X (names_in s.known) ⊎ (IsAmong X (names_in s.known) → ⊥) → (1 ≤ of_note M n) ⊎ (of_note M n ≤ 0)
          → ((z : ℕ) × (r : Vat Name) × (slice_get w.vats z ≡ Some r) × IsAmong X (names_in r.known)) ⊎ ((z : ℕ) (r : Vat Name) → slice_get w.vats z ≡ Some r → IsAmong X (names_in r.known) → ⊥) → Bound
      by_host (inl i) (inl k) c d = own_known i k
      by_host (inl i) (inr k) c d = own_unknown i k
      by_host (inr f) (inl k) (inr z) d = quiet_known f z k
      by_host (inr f) (inr k) (inr z) d = quiet_unknown f z k
      by_host (inr f) k (inl i) (inl o) = comes_somewhere f i o.0 o.1 o.2 o.3 k
      by_host (inr f) k (inl i) (inr none) = comes_nowhere f i none

  -- so it is with all that a note brings
  pub brings_answer : claims v X s.known + brings_here v X a s.gifts Read ≤ Most v g m s
  brings_answer = either bound
    where
      either : Bound → claims v X s.known + brings_here v X a s.gifts Read ≤ Most v g m s
      either (inl e) = let c = here_most v X a s.gifts Read in omega arith
      either (inr e) = let c = own_brings v g m a s.gifts (names_in s.known) n e.0 named e.1 in let d = e.2 in omega arith
