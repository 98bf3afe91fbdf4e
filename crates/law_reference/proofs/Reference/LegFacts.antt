-- What the counts of a world of a run say of a step there: all that the two legs of a message ask.
use Rattle.std.proofs.Common.{◌≡◌, ℕ, ◌+◌, ◌≤◌, ◌<◌, List, [], ◌∷◌, Some, ap, ◌⊎◌, inl, inr, arith}
use Rattle.std.specs.Prelude.{slice_get}
use Rattle.def_machine.specs.Values.{Name, Answer, Sent, Msg}
use Rattle.def_machine.specs.State.{Message, Known, Put, Vat}
use Rattle.law_machine.specs.Machine.Steps.{Step}
use Rattle.def_run.specs.World.{Script, Link, World}
use Rattle.law_fate.specs.Fates.Fate.{total, at_vat, of_note, on_link, sent_in}
use Rattle.law_fate.specs.Fates.FateLaws.{brought as fate_brought}
use Rattle.law_fate.specs.Fates.Lasting.{StepComes}
use Rattle.law_fate.specs.Fates.Sound.{StepArrives}
use Rattle.law_fate.specs.Fates.CarryLaws.{leaves}
use Rattle.law_fate.proofs.Fates.WorldLight.{VatSound}
use Rattle.law_reference.specs.Reference.Knowing.{numbered_at, brought}
use Rattle.law_fate.specs.Name.Names.{AllOf, IsAmong, MessageOk, KnownOk, names_in, messages_of}
use Rattle.law_fate.proofs.Name.Facts.{all_map}
use Rattle.law_fate.proofs.Name.Among.{messages_at}
use Rattle.law_fate.proofs.Name.Run.{Had, Stands, name_had}
use Rattle.law_reference.proofs.Reference.First.{PutsFirst}
use Rattle.law_reference.proofs.Reference.CareBeside.{made_message}
use Rattle.law_reference.proofs.Reference.FreshSteps.{FreshOut}
use Rattle.law_reference.proofs.Reference.AnswerLinks.{AtLink}
use Rattle.law_reference.proofs.Reference.Moves.{Does, waiting}
use Rattle.law_reference.proofs.Reference.Unnamed.{not_named}
use Rattle.law_reference.proofs.Reference.FollowRuns.{outs_known}
use Rattle.law_reference.proofs.Reference.Places.{total_at, total_two, link_total, held_places}
use Rattle.law_reference.proofs.Reference.Onward.{Mailed, claims_own}
use Rattle.law_reference.proofs.Reference.Counts.{Counted, world_none, numbered_most, same_numbers, IsNew, step_weighs, step_sends, step_puts, step_knows, step_age}
use Rattle.law_reference.proofs.Reference.Legs.{ApartIn, EarlyIn, SelflessIn, Facts, Newer, Somewhere, Nowhere}

module _ (script : Script) (w : World) (stands : Stands script w) where
  all_held : (v : ℕ) (s : Vat Name) (ms : List (Message Name)) → AllOf (MessageOk (Had script w v s)) ms → Mailed ms
  all_held v s [] h = tt
  all_held v s (n ∷ ms) h = (made_message w.vats n.id h.0.0.0, all_held v s ms h.1)

  all_mailed : (v : ℕ) (s : Vat Name) (ks : List (Known Name)) → AllOf (KnownOk (Had script w v s)) ks → AllOf (λ (k : Known Name). Mailed k.held) ks
  all_mailed v s [] h = tt
  all_mailed v s (k ∷ ks) h = (all_held v s k.held h.0.2, all_mailed v s ks h.1)

  -- what names hold are messages
  pub mailed_at : (v : ℕ) (s : Vat Name) → slice_get w.vats v ≡ Some s → AllOf (λ (k : Known Name). Mailed k.held) s.known
  mailed_at v s e = let at_vat = stands.vats v s e in let parts = at_vat.parts in all_mailed v s s.known parts.known

  -- an answer that is known is of a message that was made
  pub known_made : (m : Msg) (z g : ℕ) (r : Vat Name) → slice_get w.vats z ≡ Some r → IsAmong (Answer g m) (names_in r.known) → m.number < messages_of w.vats m.sender
  known_made m z g r e k = let at_vat = stands.vats z r e in let parts = at_vat.parts in (name_had (Had script w z r) r.known (Answer g m) parts.known k).0

  pub new_nowhere : (m : Msg) (v : ℕ) (s : Vat Name) → slice_get w.vats v ≡ Some s → m.sender ≡ v → s.messages ≤ m.number → (z g : ℕ) (r : Vat Name) → slice_get w.vats z ≡ Some r → IsAmong (Answer g m) (names_in r.known) → ⊥
  new_nowhere m v s there mine new z g r e k = let a = known_made m z g r e k in let b = messages_at w.vats v s there in let c : messages_of w.vats m.sender ≡ messages_of w.vats v = ap (λ z. messages_of w.vats z) mine in absurd (omega arith)

module _ (script : Script) (w y : World) (v : ℕ) (s q t : Vat Name) (what : Step Name Name) (d : Does script w v s q t what) (ls : List Link) (m : Msg) (arr : ℕ)
    (stands : Stands script w) (next : Stands script y) (placed : slice_get y.vats v ≡ Some t) (counted : Counted w)
    (one : total (at_vat (Sent m)) w.vats + total (on_link (Sent m)) ls + arr ≤ 1) (less : total (on_link (Sent m)) ls + arr ≤ total (on_link (Sent m)) w.links)
    (leaving : leaves (Sent m) what ≤ arr) (came : fate_brought (Sent m) what ≤ waiting (Sent m) what + arr) (comes : StepComes what) (arrives : StepArrives v what)
    (brings : (g : ℕ) → Nowhere w.vats v s t ls d.there m g → brought v (Answer g m) s.gifts what ≤ arr)
    (brings_own : (IsAmong (Answer v m) (names_in s.known) → ⊥) → brought v (Answer v m) s.gifts what ≤ arr)
    (leg : (g : ℕ) → (g ≡ v → ⊥) → Somewhere w.vats v s t ls d.there m g → leaves (Sent m) what ≤ 0)
    (first : (g : ℕ) → (g ≡ v → ⊥) → IsAmong (Answer g m) (names_in t.known) → Nowhere w.vats v s t ls d.there m g → PutsFirst g m t.outbox)
    (fresh : FreshOut v s t) (apart : ApartIn m w.vats ls) (early : EarlyIn m w.vats ls) (selfless : SelflessIn m ls) (no_self : (u : ℕ) → AtLink u u (λ l. ⊥) ls) where
  abbrev M : Name
  M = Sent m

  abbrev Sends : ℕ
  Sends = sent_in M t.happened

  sound_here : VatSound v s
  sound_here = let sound = counted.sound in sound.vats v s d.there

  vat_at : (u : ℕ) (r : Vat Name) → slice_get w.vats u ≡ Some r → at_vat M r ≤ total (at_vat M) w.vats
  vat_at u r e = total_at (at_vat M) w.vats u r e

  new_none : IsNew script w v s q t what d sound_here m → total (at_vat M) w.vats + total (on_link M) w.links ≤ 0
  new_none n = world_none m v s w (counted.fated M) d.there n.0 n.1

  newer : (lv : ℕ) → lv ≤ arr → IsNew script w v s q t what d sound_here m → Newer w.vats v s t ls d.there m arr lv Sends
  newer lv h n = record {
    sent = let a = step_sends script w v s q t what d sound_here m in let b = numbered_most v t.messages m in omega arith;
    vats = λ u r e. let a = vat_at u r e in let b = new_none n in omega arith;
    links = λ a b l e. let c = link_total (on_link M) a b ls l e in let f = new_none n in omega arith;
    known = λ g z r e k. new_nowhere script w stands m v s d.there n.0 n.1 z g r e k;
    come = let f = new_none n in (omega arith, omega arith);
    numbered = λ g. let a = same_numbers v g m t in let b = numbered_most v t.messages m in omega arith;
    fresh = fresh m n.0 sound_here n.1 (let a = vat_at v s d.there in let b = new_none n in let c = held_places M s in omega arith)
        (claims_own v m s.known (mailed_at script w stands v s d.there) (λ k. new_nowhere script w stands m v s d.there n.0 n.1 v v s d.there k)) n.2;
  }

  puts : ((Sends ≤ 0) × ((g : ℕ) → numbered_at v (Answer g m) t ≤ numbered_at v (Answer g m) s)) ⊎ IsNew script w v s q t what d sound_here m → total (λ (p : Put Name). of_note M p.note) t.outbox ≤ 1
  puts (inl o) = let a = step_puts script w v s q t what d sound_here m in let b = d.waits M in let c = vat_at v s d.there in let e = o.0 in omega arith
  puts (inr n) = let a = step_puts script w v s q t what d sound_here m in let b = d.waits M in let c = vat_at v s d.there in let e = new_none n in let f = step_sends script w v s q t what d sound_here m in let g = numbered_most v t.messages m in omega arith

  aged : (lv : ℕ) → lv ≤ arr → ((Sends ≤ 0) × ((g : ℕ) → numbered_at v (Answer g m) t ≤ numbered_at v (Answer g m) s)) ⊎ IsNew script w v s q t what d sound_here m
      → ((Sends ≤ 0) × ((g : ℕ) → numbered_at v (Answer g m) t ≤ numbered_at v (Answer g m) s)) ⊎ Newer w.vats v s t ls d.there m arr lv Sends
  aged lv h (inl o) = inl o
  aged lv h (inr n) = inr (newer lv h n)

  pub facts : Facts w.vats v s t ls d.there m arr (leaves M what) Sends
  facts = record {
    vat_arr = λ u r e. let a = vat_at u r e in omega arith;
    two_vats = λ u z r x n e f. let a = total_two (at_vat M) w.vats u z r x e f n in omega arith;
    vat_link = λ u r a b e l i. let c = vat_at u r e in let f = link_total (on_link M) a b ls l i in omega arith;
    link_arr = λ a b l i. let f = link_total (on_link M) a b ls l i in omega arith;
    weighs = step_weighs script w v s q t what d sound_here m comes arrives;
    leaves = leaving;
    leg = leg;
    comes = λ g none. let a = step_knows script w v s q t what d sound_here m g in let b = brings g none in omega arith;
    comes_own = λ none. let a = step_knows script w v s q t what d sound_here m v in let b = brings_own none in omega arith;
    held_apart = λ h g n some x e. (apart h g some.0 some.1 n some.2 some.3).0 x e;
    link_apart = λ h g n some a. (apart h g some.0 some.1 n some.2 some.3).1 a;
    early = early;
    first = first;
    mailed = mailed_at script w stands v s d.there;
    no_self = no_self;
    selfless = selfless;
    puts_once = puts (step_age script w v s q t what d sound_here m);
    outs_not = λ g f. all_map (λ p k. not_named (Answer g m) t f p.note k) t.outbox (outs_known script y v t next placed);
    age = aged (leaves M what) leaving (step_age script w v s q t what d sound_here m);
  }
