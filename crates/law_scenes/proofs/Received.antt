-- What a vat tells of a note that it receives is what the arrival of a note tells.
use Rattle.std.proofs.Common.{◌≡◌, ℕ, true, [], ◌∷◌, ◌++◌, Option, Some, None, codes, refl, sym, ◌∙◌, inl, inr, ◌⊎◌}
use Rattle.def_machine.specs.Values.{Name, Naming, Broken}
use Rattle.def_machine.specs.State.{Plain, Note, SettledTo, Elsewhere, Vat, Gives, Act, ◌>>=◌, ◌>>◌, and_then, give, come, draw, draws}
use Rattle.def_machine.specs.Refs.{settle}
use Rattle.def_machine.specs.Arrive as arrive
use Rattle.def_machine.specs.Arrive.{Incoming, Old, New}
use Rattle.def_machine.specs.Receive.{Sight, leads_back, break_back, receive}
use Rattle.def_run.specs.World as world
use Rattle.def_run.specs.World.{World, names, names_of, read_note, readied}
use Rattle.def_hostile.specs.Hostile.{Play}
use Rattle.law_machine.specs.Machine.Steps.{Receives, does}
use Rattle.law_machine.specs.Machine.Receiving.{Receiving, Ignored, BrokenBack, Arrived}
use Rattle.law_machine.proofs.Machine.ReceivingLaws.{each_receiving}
use Rattle.law_scenes.specs.Doings.{IsTakenFor, itself, broken}

-- ---- a name that leads back breaks as one that is told to be broken, once the word is drawn

module _ {N W : Type 0} (K : Naming N W) (from : ℕ) where
  abbrev told : Incoming N W → Note (Incoming N W)
  told x = SettledTo x (Plain (Broken (codes "cycle")))

  drawn_then : (w : ℕ) (o : Option ℕ) (s t : Vat N) (f : Act N (Unit {0})) → and_then (draws w o s) (λ _. f) ≡ Gives tt t → f (record s { drawn = s.drawn ++ w ∷ [] }) ≡ Gives tt t
  unfolding and_then draws
  drawn_then w None s t f e = e
  drawn_then w (Some i) s t f e = cc

  back_told : (x : Incoming N W) (c : ℕ) (s t : Vat N) → break_back K (Elsewhere x c) s ≡ Gives tt t → (i : ℕ) × (arrive.arrive K from (told x) (record s { drawn = s.drawn ++ i ∷ [] }) ≡ Gives tt t)
  unfolding break_back ◌>>=◌ ◌>>◌ and_then give come draw arrive.arrive arrive.arrive_settled arrive.learn arrive.learn_value arrive.learn_name
  back_told (Old n) c s t e = (_, drawn_then _ _ s t (settle K n (Broken (codes "cycle"))) e)
  back_told (New x h) c s t e = (_, drawn_then _ _ _ t (settle K _ (Broken (codes "cycle"))) e)

-- ---- what comes of a note

module _ (play : Play) (w : World) (v : ℕ) (s : Vat Name) (from : ℕ) (sight : Sight Name) (t : Vat Name) where
  -- the vat tells nothing, or takes the step in which that note arrives
  abbrev pub Came : Note Name → Type 0
  Came n = (t ≡ readied w s) ⊎ ((x : World) × (m : Note Name) × IsTakenFor w n x m × (does (names play.script v) (Receives from (read_note (names_of s) m)) (readied x s) ≡ Gives tt t))

  given_is : (x : Vat Name) → Gives (tt {0}) x ≡ Gives (tt {0}) t → t ≡ x
  given_is x e = cc

  back_as : (n : Note Name) → leads_back (names play.script v) sight (read_note (names_of s) n) (readied w s) ≡ true → break_back (names play.script v) (read_note (names_of s) n) (readied w s) ≡ Gives tt t → Came n
  unfolding leads_back world.read_note world.read_passed world.plain_read world.read_value readied does
  back_as (Elsewhere y c) k e = let back = back_told (names play.script v) from (world.read_name (names_of s) y) c (readied w s) t e in
      inr (record w { drawn = w.drawn ++ back.0 ∷ [] }, SettledTo y (Plain (Broken (codes "cycle"))), broken y c back.0 refl, back.1)
  back_as other k e = cc

  by_receiving : (n : Note Name) → receive (names play.script v) sight from (read_note (names_of s) n) (readied w s) ≡ Gives tt t → Receiving (names play.script v) sight from (read_note (names_of s) n) (readied w s) → Came n
  unfolding does
  by_receiving n e (Ignored x f) = inl (given_is (readied w s) (sym f ∙ e))
  by_receiving n e (BrokenBack x b f) = back_as n b (sym f ∙ e)
  by_receiving n e (Arrived x b f) = inr (w, n, itself, sym f ∙ e)

  pub came : (n : Note Name) → receive (names play.script v) sight from (read_note (names_of s) n) (readied w s) ≡ Gives tt t → Came n
  came n e = by_receiving n e (each_receiving (names play.script v) sight from (read_note (names_of s) n) (readied w s))
