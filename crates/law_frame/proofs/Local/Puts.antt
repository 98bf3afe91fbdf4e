-- What holds of each state in names, of what its vat put.
use Rattle.std.proofs.Common.{◌≡◌, ℕ, Bool, true, false, List, [], ◌∷◌, refl}
use Rattle.def_machine.specs.Values.{Value, Ref, Name, Sent, answer_of}
use Rattle.def_machine.specs.State.{Passed, Passeds, Plain, AGift, Many, NoMore, More, Note, Deliver, Open, Ask, SettledTo, Elsewhere, Shorten, Put}
use Rattle.def_run.specs.Connections.{asked_in, answer_if}
use Rattle.def_run.specs.Wire.{sight}
use Rattle.law_fate.specs.Name.Names.{Bit, AllOf, HostIsTrue, IsHad, IsKnownIn, IsEventual, IsMessageName, ValueOk, PassedOk, PassedsOk, NoteOk, PutOk, names_in}
use Rattle.law_fate.specs.Name.Runs.{InEachVat}
use Rattle.law_fate.proofs.Name.Laws.{in_each, names_known, names_apart}
use Rattle.law_fate.proofs.Name.Among.{all_among}
use Rattle.law_reference.proofs.Reference.AnswerNames.{answers_named}
use Rattle.law_frame.specs.Frame.Together.{ValueMay, PassedMay, AllMay, NoteMay}
use Rattle.law_frame.specs.Frame.OwnFrames.{refers}
use Rattle.law_frame.specs.Local.Writing.{EachPutsSo}

module _ (ns ms : List Name) (known : AllOf IsEventual ns) (mails : AllOf IsMessageName ms) where
  abbrev P : Bit Name → Type 0
  P = IsHad ns ms

  name_refers : (n : Name) → IsKnownIn ns n → refers n ≡ true
  unfolding refers
  name_refers (Sent m) h = absurd (all_among IsEventual ns (Sent m) known h)
  name_refers other h = refl

  value_refers : (y : Value Name) → ValueOk P y → ValueMay refers y
  value_refers (Ref n) h = name_refers n h
  value_refers other h = tt

  mutual
    passed_refers : (y : Passed Name) → PassedOk P y → PassedMay refers y
    passed_refers (Plain y) h = value_refers y h
    passed_refers (AGift g i) h = tt
    passed_refers (Many ys) h = all_refer ys h

    all_refer : (ys : Passeds Name) → PassedsOk P ys → AllMay refers ys
    all_refer NoMore h = tt
    all_refer (More y ys) h = (passed_refers y h.0, all_refer ys h.1)

  note_refers : (n : Note Name) → NoteOk P n → NoteMay refers n
  note_refers (Deliver d n verb ys) h = (name_refers n h.1, all_refer ys h.2)
  note_refers (Open i n) h = name_refers n h.1
  note_refers (Ask p i n) h = tt
  note_refers (SettledTo n y) h = (name_refers n h.0, passed_refers y h.1)
  note_refers (Elsewhere n c) h = name_refers n h.0
  note_refers (Shorten n c i) h = name_refers n h.0

  answer_refers : (v : ℕ) (m : Name) → IsMessageName m → refers (answer_of v m) ≡ true
  unfolding refers answer_of
  answer_refers v (Sent m) h = refl
  answer_refers v other h = absurd h

  asked_or : (u v : ℕ) (b : Bool) (m : Name) → IsMessageName m → AllOf (λ n. refers n ≡ true) (answer_if (sight u v) b m)
  unfolding answer_if sight
  asked_or u v true m h = (answer_refers v m h, tt)
  asked_or u v false m h = tt

  asks_refer : (u v : ℕ) (n : Note Name) → NoteOk P n → AllOf (λ n. refers n ≡ true) (asked_in (sight u v) n)
  unfolding asked_in
  asks_refer u v (Deliver d n verb ys) h = asked_or u v d.asks d.message (all_among IsMessageName ms d.message mails h.0)
  asks_refer u v (Ask p i n) h = (name_refers n h.1, tt)
  asks_refer u v other h = tt

  puts_refer : (u : ℕ) (ps : List (Put Name)) → AllOf (PutOk P) ps → AllOf (λ (p : Put Name). NoteMay refers p.note) ps × AllOf (λ (p : Put Name). AllOf (λ n. refers n ≡ true) (asked_in (sight u p.to) p.note)) ps
  puts_refer u [] h = (tt, tt)
  puts_refer u (p ∷ ps) h = let k = puts_refer u ps h.1 in ((note_refers p.note h.0.0, k.0), (asks_refer u p.to p.note h.0.0, k.1))

each_placed : InEachVat (λ w v s. (s.number ≡ v) × AllOf HostIsTrue s.known)
each_placed = in_each _ (λ script w v s e h. (h.kept.number, h.kept.hosts))

pub each_puts_so : EachPutsSo
each_puts_so script once = (
  λ ps rest w e opened v s at.
      let placed = (each_placed script once).0 ps rest w e opened v s at in let had = (names_known script once).0 ps rest w e opened v s at in let apart = (names_apart script once).0 ps rest w e opened v s at in
      let puts = puts_refer (names_in s.known) s.mails apart.0 apart.1 v s.outbox had.outbox in
      record { placed = placed.0; hosts = placed.1; referring = puts.0; asking = puts.1; answers = ((answers_named script once).0 ps rest w e opened).1 v s at },
  λ w x es k opened stepped v s at.
      let placed = (each_placed script once).1 w x es k opened stepped v s at in let had = (names_known script once).1 w x es k opened stepped v s at in let apart = (names_apart script once).1 w x es k opened stepped v s at in
      let puts = puts_refer (names_in s.known) s.mails apart.0 apart.1 v s.outbox had.outbox in
      record { placed = placed.0; hosts = placed.1; referring = puts.0; asking = puts.1; answers = ((answers_named script once).1 w x es k opened stepped).1 v s at },
)
