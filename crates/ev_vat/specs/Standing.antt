-- A vat with what it has for its peers, as it stands in the machine's run in numbers.
use Rattle.std.specs.Prelude.{◌≡◌, ℕ, List, [], ◌++◌, None, map}
use Rattle.def_run.specs.Vats.{Member as Theirs}
use Rattle.def_machine.specs.State as machine
use Rattle.def_machine.specs.Values.{Words, Local}
use Rattle.ev_vat.specs.declared.member.Member.{Member}
use Rattle.ev_pass.specs.declared.interior.Interior.{Interior}
use Rattle.ev_wire.specs.Reading.{learnt_of}
use Rattle.ev_room.specs.Reading.{World, texts_of}
use Rattle.ev_room.specs.Sound.{IsSound}
use Rattle.law_evaluation.specs.Arrivals.Arrivals.{vat_in}
use Rattle.ev_wire.specs.Standing.{AreFor, connections_of}

-- a vat that tells and puts nothing, with so much fuel and those words drawn
abbrev pub with_draws : ℕ → List ℕ → machine.Vat Local → machine.Vat Local
with_draws fuel drawn s = record s { fuel = fuel; drawn = drawn; outbox = []; happened = [] }

-- a world in which nothing was put or happened before, where the texts of the inside are a front of those of the end
pub record Sees (w : World) (i : Interior) : Type 0 where
  pub outbox : w.before.outbox ≡ []
  pub happened : w.before.happened ≡ []
  pub rest : List Words
  pub texts : texts_of w ≡ i.heap.texts ++ rest
  pub key : i.words.key ≡ w.key

-- what it has beside its vat
pub record HasRest (m : Theirs) (c : Member) : Type 0 where
  pub sound : IsSound c.vat.host.inside
  pub going : c.vat.stopped ≡ None
  pub learnt : map learnt_of c.learnt ≡ m.learnt
  pub connections : connections_of c.connections.items ≡ m.connections
  pub tables : AreFor c.vat.host.inside.refs c.connections.items

-- It is that member of the run, between two steps: fuel and words are the run's, and what the last step told and put is not looked at.
pub record IsMember (m : Theirs) (c : Member) : Type 0 where
  pub vat : (w : World) → Sees w c.vat.host.inside → with_draws 0 [] (vat_in w c.vat.host) ≡ with_draws 0 [] m.vat
  pub rest : HasRest m c

-- It is that member, as a step finds it which has so much fuel, and those words drawn before it.
pub record IsFound (fuel : ℕ) (drawn : List ℕ) (m : Theirs) (c : Member) : Type 0 where
  pub vat : (w : World) → Sees w c.vat.host.inside → vat_in w c.vat.host ≡ with_draws fuel drawn m.vat
  pub rest : HasRest m c
