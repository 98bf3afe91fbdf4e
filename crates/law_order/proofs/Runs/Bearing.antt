-- In every run the first note of a link that bears a message names nothing that its receiver makes as it takes it, and its receiver is ready.
use Rattle.std.proofs.Common.{◌≡◌, ℕ, zero, suc, ◌+◌, ◌≤◌, Bool, true, false, List, ◌∷◌, refl, sym, ap, subst, ◌∙◌, ◌⊎◌, inl, inr, arith}
use Rattle.def_machine.specs.Values.{Words, Value, Ref, Name, Answer, Sent, Msg}
use Rattle.def_machine.specs.State.{Passed, Passeds, Plain, AGift, Many, NoMore, More, Delivery, Note, Deliver, Vat}
use Rattle.def_run.specs.World.{Script, Entry, World, Goes, begins, open_from, steps_from, read_passed}
use Rattle.law_machine.proofs.Run.Honest.{honest_reached}
use Rattle.law_fate.specs.Name.Names.{AllOf, IsAmong, IsKnownIn, IsMade, IsMessageMade, WasMade, ValueOk, PassedOk, PassedsOk, NoteOk, KnownOk, messages_of, promises_of, names_in}
use Rattle.law_fate.specs.Name.Runs.{KnowsOnce}
use Rattle.law_fate.proofs.Name.Laws.{names_made, notes_made}
use Rattle.law_fate.specs.Fates.Fate.{one, total, in_note, of_note, on_link}
use Rattle.law_reference.specs.Reference.Behind.{Avoids, NamesNot, ComesFirst, IsKnownTo}
use Rattle.law_reference.proofs.Reference.FollowRuns.{answers_follow_messages, notes_name_what_is_known}
use Rattle.law_reference.proofs.Reference.OnceLaws.{messages_come_before_answers}
use Rattle.law_reference.proofs.Reference.VatStep.{link_all}
use Rattle.law_order.specs.Carries.Carries.{IsNotNext, ValueNotNext, PassedNotNext, AllNotNext, BearsMessage, CanCarry}
use Rattle.law_order.proofs.Runs.Beginnings.{none_found, own_messages, own_promises, vats_are_ready}
use Rattle.law_order.proofs.Runs.NewGifts.{IsNew, AllNew, gifts_are_new}
use Rattle.law_order.proofs.Runs.Once.{itself}
use Rattle.law_order.proofs.Runs.OwnRuns.{numbered}
use Rattle.law_order.proofs.Runs.ToldRuns.{NoteTrue, reached_holds, note_in}

not_both : (c : Bool) → c ≡ true → c ≡ false → ⊥
not_both c e f = cc

module _ (script : Script) (once : KnowsOnce script) (w x : World) (es : List Entry) (k : ℕ) (o : open_from script zero script.vats (begins script) ≡ Goes w) (e : steps_from script es k w ≡ Goes x)
    (honest : ℕ → Bool) (a b : ℕ) (d : Delivery Name) (n : Name) (verb : Words) (ys : Passeds Name) (c : BearsMessage script honest x a b d n verb ys) where
  abbrev D : Note Name
  D = Deliver d n verb ys

  made : NoteOk (IsMade x.vats x.drawn) D
  made = (subst (λ ns. AllOf (NoteOk (IsMade x.vats x.drawn)) ns) c.first (link_all (λ l. AllOf (NoteOk (IsMade x.vats x.drawn)) l.notes) a b x.links c.link ((notes_made script once).1 w x es k o e) c.found)).0

  known_made : AllOf (KnownOk (IsMade x.vats x.drawn)) c.vat.known
  known_made = ((names_made script once).1 w x es k o e b c.vat c.there).known

  -- whose note it is
  from : NoteTrue script x.vats a D
  from = note_in script x a b c.link D (reached_holds script x ((honest_reached script).1 w x es k o e)) c.found (subst (λ ns. IsAmong D ns) (sym c.first) (inl refl))

  abbrev Sender : Vat Name
  Sender = from.0

  known : NoteOk (IsKnownTo Sender) D
  known = (subst (λ ns. AllOf (NoteOk (IsKnownTo Sender)) ns) c.first ((notes_name_what_is_known script once).1 w x es k o e a b Sender c.link from.1 c.found)).0

  message_of : (z : Name) → d.message ≡ z → IsMessageMade x.vats z → (m : Msg) × (d.message ≡ Sent m) × IsMessageMade x.vats (Sent m)
  message_of (Sent m) f h = (m, f, h)
  message_of other f h = absurd h

  module _ (m : Msg) (named : d.message ≡ Sent m) (sent : IsMessageMade x.vats (Sent m)) where
    bears : 1 ≤ on_link (Sent m) c.link
    unfolding on_link total of_note in_note
    bears = let here : one d.message (Sent m) ≡ 1 = ap (λ z. one z (Sent m)) named ∙ itself (Sent m) in
        let whole : total (of_note (Sent m)) c.link.notes ≡ one d.message (Sent m) + total (of_note (Sent m)) c.rest = ap (λ ns. total (of_note (Sent m)) ns) c.first in omega arith

    -- the receiver does not know its answer
    not_known : IsAmong (Answer b m) (names_in c.vat.known) → ⊥
    not_known h = let few = (messages_come_before_answers script once).1 w x es k o e a b m c.vat c.link c.there c.found h in let some = bears in omega arith

    first_avoids : ComesFirst m (Answer b m) (D ∷ c.rest) → NamesNot (Answer b m) D
    first_avoids (inl h) = h.2
    first_avoids (inr h) = h.0

    -- and where the sender does, the note does not name it
    avoids : IsAmong (Answer b m) (names_in Sender.known) → NamesNot (Answer b m) D
    avoids h = go ((answers_follow_messages script once).1 w x es k o e a b m Sender c.vat c.link from.1 c.there c.found h)
      where
        go : IsAmong (Answer b m) (names_in c.vat.known) ⊎ ((c.link.cut ≡ true) ⊎ ComesFirst m (Answer b m) c.link.notes) → NamesNot (Answer b m) D
        go (inl i) = absurd (not_known i)
        go (inr (inl i)) = absurd (not_both c.link.cut i c.uncut)
        go (inr (inr i)) = first_avoids (subst (ComesFirst m (Answer b m)) c.first i)

    name_next : (z : Name) → WasMade x.vats x.drawn z → IsKnownIn (names_in Sender.known) z → (IsAmong (Answer b m) (names_in Sender.known) → z ≡ Answer b m → ⊥) → IsNotNext b c.vat (Answer b m) z
    name_next z p q f = (
      λ i. f (subst (IsKnownIn (names_in Sender.known)) i q) i,
      λ u i. subst (WasMade x.vats x.drawn) i p,
      λ h j l i. let less : suc j ≤ messages_of x.vats b = subst (WasMade x.vats x.drawn) i p in let own = own_messages script b x c.vat c.there known_made in omega arith,
      λ j l i. let less : suc j ≤ promises_of x.vats b = subst (WasMade x.vats x.drawn) i p in let own = own_promises script b x c.vat c.there known_made in omega arith,
    )

    value_next : (y : Value Name) → ValueOk (IsMade x.vats x.drawn) y → ValueOk (IsKnownTo Sender) y → (IsAmong (Answer b m) (names_in Sender.known) → ValueOk (Avoids (Answer b m)) y) → ValueNotNext b c.vat (Answer b m) y
    value_next (Ref z) p q f = name_next z p q f
    value_next other p q f = tt

    mutual
      passed_next : (y : Passed Name) (ns : List Name) → PassedOk (IsMade x.vats x.drawn) y → PassedOk (IsKnownTo Sender) y → (IsAmong (Answer b m) (names_in Sender.known) → PassedOk (Avoids (Answer b m)) y) → IsNew b ns y → PassedNotNext b c.vat (Answer b m) ns y
      passed_next (Plain y) ns p q f g = value_next y p q f
      passed_next (AGift h i) ns p q f g = inr g
      passed_next (Many zs) ns p q f g = all_next zs ns p q f g

      all_next : (zs : Passeds Name) (ns : List Name) → PassedsOk (IsMade x.vats x.drawn) zs → PassedsOk (IsKnownTo Sender) zs → (IsAmong (Answer b m) (names_in Sender.known) → PassedsOk (Avoids (Answer b m)) zs) → AllNew b ns zs → AllNotNext b c.vat (Answer b m) ns zs
      all_next NoMore ns p q f g = tt
      all_next (More y zs) ns p q f g = (passed_next y ns p.0 q.0 (λ i. (f i).0) g.0, all_next zs (read_passed y ns).known p.1 q.1 (λ i. (f i).1) g.1)

    can_with : CanCarry script honest x a b d n verb ys
    can_with = record {
      borne = c;
      ready = (vats_are_ready script once).1 w x es k o e honest b c.vat c.vat.queue c.there;
      message = m;
      named = named;
      before = λ i. numbered script x b c.vat c.there known_made m sent i;
      fresh = none_found script b c.vat.known (Answer b m) not_known;
      target = name_next n made.1 known.1 (λ h. (avoids h).1);
      args = all_next ys (names_in c.vat.known) made.2 known.2 (λ h. (avoids h).2) (gifts_are_new script once w x es k o e a b c.link c.vat c.found c.there d n verb ys c.rest c.first);
    }

  pub can_carry : CanCarry script honest x a b d n verb ys
  can_carry = let m = message_of d.message refl made.0 in can_with m.0 m.1 m.2
