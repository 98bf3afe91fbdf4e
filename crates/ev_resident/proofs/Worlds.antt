-- A world that sees a vat which a step left.
use Rattle.std.proofs.Common.{◌≡◌, ℕ, List, [], Result, Ok, Err, refl, sym, ap, ◌∙◌, append-nil}
use Rattle.std.specs.Prelude.{OnOk}
use Rattle.def_run.specs.Vats.{Member as Theirs}
use Rattle.def_machine.specs.State.{Vat}
use Rattle.def_machine.specs.Values.{Local}
use Rattle.ev_intro.specs.Word.{Drawn}
use Rattle.ev_vat.specs.MemberSteps.{Having}
use Rattle.ev_vat.specs.declared.member.Member.{Member}
use Rattle.ev_vat.specs.declared.sending.Sending.{Sending}
use Rattle.ev_resident.specs.OutcomeStanding.{IsAfter}
use Rattle.ev_resident.specs.Standing.{IsStepped}
use Rattle.ev_room.specs.Reading.{World}
use Rattle.ev_room.specs.Sound.{IsSound}
use Rattle.ev_vat.specs.Rooted.{fresh}

-- words are drawn under the key of those that were lent
pub under : {A E : Type 0} {before lent : Drawn} (k : List ℕ) (r : Result A E) → before ≡ lent → OnOk r (k ≡ before.key) → OnOk r (k ≡ lent.key)
under k (Ok a) e h = h ∙ ap (λ (d : Drawn). d.key) e
under k (Err x) e h = tt

-- a world that has the texts of a sound vat
abbrev pub world_of : (c : Member) → IsSound c.vat.host.inside → World
world_of c sound = record { before = fresh 0 0 [] []; texts = sound.problems_first.0; key = c.vat.host.inside.words.key }

module _ (m : Theirs) (b : Having) (s : Vat Local) (xs : List Sending) (c : Member) (step : IsStepped b s xs c) where
  abbrev pub sound_then : IsSound c.vat.host.inside
  sound_then = (step.leaves.member m.names).rest.sound

  abbrev pub world_then : World
  world_then = world_of c sound_then

  pub is_after : IsAfter world_then c.vat.host s
  is_after = record {
    outbox = refl;
    happened = refl;
    texts = sym sound_then.problems_first.1;
    vat = step.vat world_then (record { outbox = refl; happened = refl; rest = []; texts = sym sound_then.problems_first.1 ∙ sym (append-nil c.vat.host.inside.heap.texts); key = refl });
  }
