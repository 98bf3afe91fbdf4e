-- What a step of one vat tells another.
use Rattle.std.proofs.Common.{◌≡◌, ℕ}
use Rattle.def_machine.specs.Values.{Name, Gift, Naming, naming}
use Rattle.def_machine.specs.State.{Note, Ask, Shorten, Vat}
use Rattle.def_machine.specs.Arrive.{arrive}
use Rattle.law_machine.specs.Machine.Steps.{Step, Opens as Starts, Takes, Receives, Notices, does}
use Rattle.def_run.specs.Draws.{draw_word}
use Rattle.def_run.specs.World.{Script, World, names, names_of, read_note, readied}
use Rattle.law_fate.specs.Name.Names.{AllOf, WasDrawn, Everywhere}
use Rattle.law_fate.proofs.Name.Care.{Sound}
use Rattle.law_reference.specs.Reference.ListRingless.{IsNamed}
use Rattle.law_reference.proofs.Reference.Moves.{IsAlone, Does}
use Rattle.law_frame.proofs.Heard.Bare.{Bare, Bares}
use Rattle.law_order.proofs.Cuts.WholeWalk.{whole_opening, whole_taking, whole_notice, whole_arrive}
use Rattle.law_order.proofs.ToldOnce.Settling as settling
use Rattle.law_order.proofs.ToldOnce.Arriving as arriving
use Rattle.law_order.proofs.ToldOnce.Arriving.{given_by, Told, tells_told}

module _ (script : Script) (w : World) (h v : ℕ) where
  abbrev word : ℕ → ℕ
  word = draw_word script.key

  abbrev K : Naming Name Name
  K = naming word h

  abbrev Tells : Vat Name → Vat Name → Type 0
  Tells = settling.Tells K v

  -- ---- that no note begins

  pub alone_tells : (s q t : Vat Name) (what : Step Name Name) → IsAlone what → Does script w h s q t what → Tells (readied w q) t
  unfolding does names
  alone_tells s q t (Starts tree depth root given) o d = given_by Tells (readied w q) t tt _ d.gives ((whole_opening K Tells (settling.walked K v) tree depth root given).after (readied w q))
  alone_tells s q t (Takes tree depth m) o d = given_by Tells (readied w q) t tt _ d.gives ((whole_taking K Tells (settling.walked K v) tree depth m).after (readied w q))
  alone_tells s q t (Receives from n) o d = absurd o
  alone_tells s q t (Notices u) o d = given_by Tells (readied w q) t tt _ d.gives ((whole_notice K Tells (settling.walked K v) u).after (readied w q))

  -- ---- as a note arrives

  -- what is told late: the gift for which the note asks, to the vat that asks for it
  abbrev pub LateBy : ℕ → Note Name → Name → Type 0
  LateBy from (Ask p i x) z = (z ≡ Gift h i) × (v ≡ from)
  LateBy from other z = ⊥

  -- that gift is not in hand
  abbrev pub IsBareOf : Vat Name → Note Name → Type 0
  IsBareOf s (Ask p i x) = WasDrawn w.drawn i × Everywhere (Bare h i h) s
  IsBareOf s other = Unit {0}

  cared : (s : Vat Name) (i : ℕ) → s.number ≡ h → WasDrawn w.drawn i → Everywhere (Bare h i h) s → Sound (Bares h i h) (readied w s)
  unfolding readied
  cared s i number drew b = record { parts = record { things = b.things; slots = b.slots; lists = b.lists; queue = b.queue; known = b.known; gifts = b.gifts; outbox = tt }; more = (number, drew) }

  named_ready : (s : Vat Name) → AllOf (IsNamed h) s.gifts → AllOf (IsNamed h) (let r : Vat Name = readied w s in r.gifts)
  unfolding readied
  named_ready s k = k

  number_ready : (s : Vat Name) → s.number ≡ h → (let r : Vat Name = readied w s in r.number) ≡ h
  unfolding readied
  number_ready s e = e

  pub note_tells : (from : ℕ) (s t : Vat Name) (n : Note Name) → s.number ≡ h → AllOf (IsNamed h) s.gifts → IsBareOf s n → Does script w h s s t (Receives from (read_note (names_of s) n)) → Told word h v (LateBy from n) (readied w s) t
  unfolding does names read_note arrive
  note_tells from s t (Ask p i x) number named b d = arriving.arriving_ask word h v i from p (readied w s) t (number_ready s number) (named_ready s named) (cared s i number b.0 b.1) d.gives
  note_tells from s t (Shorten x c i) number named b d = tells_told word h v (LateBy from (Shorten x c i)) (readied w s) t (given_by Tells (readied w s) t tt _ d.gives ((arriving.arriving_shorten word h v _ i).after (readied w s)))
  note_tells from s t other number named b d = tells_told word h v (LateBy from other) (readied w s) t (given_by Tells (readied w s) t tt _ d.gives ((whole_arrive K Tells (settling.walked K v) from (read_note (names_of s) other) tt).after (readied w s)))
