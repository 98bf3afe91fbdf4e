-- A hostile vat sends a message.
use Rattle.std.proofs.Common.{◌≡◌, ℕ, zero, suc, false, List, [], ◌∷◌, ◌++◌, Some, refl, inl, inr, arith}
use Rattle.def_machine.specs.Values.{Name, Root, Answer, Sent}
use Rattle.def_machine.specs.State.{Unsettled, Vat}
use Rattle.def_run.specs.World as world
use Rattle.def_run.specs.World.{Script, Link, World, readied, opened_world}
use Rattle.law_fate.specs.Name.Names.{opened_names}
use Rattle.law_machine.specs.Run.Moves.{NewMessage, Says, went, opened_moves}
use Rattle.law_adversary.specs.Moves.{Usual}
use Rattle.law_hostile.specs.Hostile.{a_note, IsReached, HostileVatsSpeak}

other : suc zero ≡ zero → ⊥
other e = cc

module _ (key : List ℕ) (fuel depth : ℕ) (a b : List ℕ) where
  abbrev S : Script
  S = record { key = key; fuel = fuel; depth = depth; vats = record { name = a; knows = 1 ∷ []; tree = [] } ∷ record { name = b; knows = 0 ∷ []; tree = [] } ∷ []; schedule = [] }

  abbrev W : World
  W = world.begins S

  abbrev V : Vat Name
  V = world.fresh S 1 (record { name = b; knows = 0 ∷ []; tree = [] })

  abbrev T : Vat Name
  T = let q = readied W V in record q { messages = 1; mails = Sent (record { sender = 1; number = 0 }) ∷ []; known = q.known ++ record { name = Answer 0 (record { sender = 1; number = 0 }); host = 0; standing = Unsettled; held = []; waiting = []; reactions = []; told = [] } ∷ [] }

  abbrev R : Vat Name
  R = record T { outbox = T.outbox ++ record { to = 0; note = a_note } ∷ [] }

  speaks_so : (w : World) × IsReached S (1 ∷ []) w × (l : Link) × (world.link_at 1 0 w.links ≡ Some l) × (l.notes ≡ a_note ∷ [])
  unfolding opened_world opened_moves opened_names
  speaks_so = (
    went 1 W [] R,
    (
      W ∷ [],
      (
        Usual (Says 1 0 V T R (NewMessage 0 ∷ []) a_note refl refl (T, (omega arith), refl, refl)
            (((omega arith, inl refl, tt, tt), (tt, inr (inl refl), tt, (omega arith)), tt), (tt, tt, other, (omega arith)), refl, (tt, refl)) refl refl),
        refl,
      ),
    ),
    (record { from = 1; to = 0; cut = false; notes = a_note ∷ []; roots = Root 1 ∷ []; log = a_note ∷ [] }),
    refl,
    refl,
  )

pub hostile_vats_speak : HostileVatsSpeak
hostile_vats_speak key fuel depth a b = speaks_so key fuel depth a b
