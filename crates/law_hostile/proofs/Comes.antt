-- What a note that is received does, by what notes of honest vats do: nothing, or an arrival, of the same names. A name that leads back breaks as one that is told to be broken does, once the draw is made.
use Rattle.std.proofs.Common.{◌≡◌, ℕ, true, List, [], ◌∷◌, ◌++◌, Option, Some, None, codes, sym, ◌∙◌}
use Rattle.def_machine.specs.Values.{Name, Answer, Msg, Naming, Broken}
use Rattle.def_machine.specs.State.{Plain, Note, Deliver, SettledTo, Elsewhere, Vat, Gives, Act, ◌>>=◌, ◌>>◌, and_then, give, come, draw, draws}
use Rattle.def_machine.specs.Refs.{settle}
use Rattle.def_machine.specs.Arrive as arrive
use Rattle.def_machine.specs.Arrive.{Incoming, Old, New}
use Rattle.def_machine.specs.Receive.{Sight, tells_nothing, leads_back, break_back, receive}
use Rattle.def_run.specs.Entered.{entered}
use Rattle.def_run.specs.World as world
use Rattle.def_run.specs.World.{Script, World, names, names_of, read_note, readied}
use Rattle.law_machine.specs.Machine.Receiving.{Receiving, Ignored, BrokenBack, Arrived}
use Rattle.law_machine.proofs.Machine.ReceivingLaws.{each_receiving}
use Rattle.law_fate.specs.Name.Names.{Bit, NoteOk}
use Rattle.law_reference.specs.Reference.Behind.{Avoids, Bears}
use Rattle.law_hostile.specs.Entering.{HoldsOfEntries}
use Rattle.law_hostile.proofs.EnteredNames.{keeps_names}

-- ---- a note of the same names

-- what holds of entries where it holds of gifts holds of each name in m where it does in n, and m is the message of an answer where n is
pub record TellsAs (v : ℕ) (n m : Note Name) : Type 1 where
  pub names : (P : Bit Name → Type 0) → HoldsOfEntries P → NoteOk P n → NoteOk P m
  pub bears : (x : Msg) → Bears x (Answer v x) n → Bears x (Answer v x) m

pub avoids_entries : (h : ℕ) (x : Msg) → HoldsOfEntries (Avoids (Answer h x))
avoids_entries h x = record { unmarked = λ g i p e. cc; placed_too = λ g i p e. cc; passed = λ g i p q e. cc }

bears_entered : (v a : ℕ) (exports ks : List Name) (x : Msg) (n : Note Name) → Bears x (Answer v x) n → Bears x (Answer v x) (entered v a exports ks n)
unfolding entered
bears_entered v a exports ks x (Deliver d n verb ys) b = (b.0, b.1, keeps_names (Avoids (Answer v x)) (avoids_entries v x) v a exports ks (Deliver d n verb ys) b.2)
bears_entered v a exports ks x other b = absurd b

tells_same : (v : ℕ) (n : Note Name) → TellsAs v n n
tells_same v n = record { names = λ P law h. h; bears = λ x b. b }

enters_as : (v a : ℕ) (exports ks : List Name) (n : Note Name) → TellsAs v n (entered v a exports ks n)
enters_as v a exports ks n = record { names = λ P law h. keeps_names P law v a exports ks n h; bears = λ x b. bears_entered v a exports ks x n b }

-- ---- a name that leads back

module _ {N W : Type 0} (K : Naming N W) (from : ℕ) where
  abbrev told : Incoming N W → Note (Incoming N W)
  told x = SettledTo x (Plain (Broken (codes "cycle")))

  drawn_then : (w : ℕ) (o : Option ℕ) (s t : Vat N) (f : Act N (Unit {0})) → and_then (draws w o s) (λ _. f) ≡ Gives tt t → f (record s { drawn = s.drawn ++ w ∷ [] }) ≡ Gives tt t
  unfolding and_then draws
  drawn_then w None s t f e = e
  drawn_then w (Some i) s t f e = cc

  back_told : (x : Incoming N W) (c : ℕ) (s t : Vat N) → break_back K (Elsewhere x c) s ≡ Gives tt t → (i : ℕ) × (arrive.arrive K from (told x) (record s { drawn = s.drawn ++ i ∷ [] }) ≡ Gives tt t)
  unfolding break_back ◌>>=◌ ◌>>◌ and_then give come draw arrive.arrive arrive.arrive_settled arrive.learn arrive.learn_value arrive.learn_name
  back_told (Old n) c s t e = (_, drawn_then _ _ s t (settle K n (Broken (codes "cycle"))) e)
  back_told (New x h) c s t e = (_, drawn_then _ _ _ t (settle K _ (Broken (codes "cycle"))) e)

-- ---- what comes of a note

-- the same world, or one in which a word more was drawn
pub data Drew (w : World) : World → Type 0 where
  as_before : Drew w w
  one_more : (i : ℕ) → Drew w (record w { drawn = w.drawn ++ i ∷ [] })

pub data Coming (script : Script) (w : World) (a v : ℕ) (s t : Vat Name) (n : Note Name) : Type 1 where
  Passes : ((x : Msg) → Bears x (Answer v x) n → ⊥) → readied w s ≡ t → Coming script w a v s t n
  Lands : (x : World) (m : Note Name) → Drew w x → TellsAs v n m → arrive.arrive (names script v) a (read_note (names_of s) m) (readied x s) ≡ Gives tt t → Coming script w a v s t n

module _ (script : Script) (w : World) (a v : ℕ) (s t : Vat Name) (n m : Note Name) (sight : Sight Name) (alike : TellsAs v n m) where
  given_is : (x : Vat Name) → Gives (tt {0}) x ≡ Gives (tt {0}) t → x ≡ t
  given_is x e = cc

  no_message : (z : Note Name) → TellsAs v n z → tells_nothing (names script v) sight a (read_note (names_of s) z) (readied w s) ≡ true → (x : Msg) → Bears x (Answer v x) z → ⊥
  unfolding tells_nothing world.read_note
  no_message (Deliver d y verb ys) k e x b = cc
  no_message other k e x b = b

  -- it breaks as it would be told that it is broken
  back_as : (z : Note Name) → TellsAs v n z → leads_back (names script v) sight (read_note (names_of s) z) (readied w s) ≡ true → break_back (names script v) (read_note (names_of s) z) (readied w s) ≡ Gives tt t → Coming script w a v s t n
  unfolding leads_back world.read_note world.read_passed world.plain_read world.read_value readied
  back_as (Elsewhere y c) k e f = let back = back_told (names script v) a (world.read_name (names_of s) y) c (readied w s) t f in
      Lands (record w { drawn = w.drawn ++ back.0 ∷ [] }) (SettledTo y (Plain (Broken (codes "cycle")))) (one_more back.0)
      (record { names = λ P law h. let one = k.names P law h in (one.0, tt); bears = λ x b. absurd (k.bears x b) }) back.1
  back_as other k e f = cc

  by_receiving : receive (names script v) sight a (read_note (names_of s) m) (readied w s) ≡ Gives tt t → Receiving (names script v) sight a (read_note (names_of s) m) (readied w s) → Coming script w a v s t n
  by_receiving e (Ignored x f) = Passes (λ y b. no_message m alike x y (alike.bears y b)) (given_is (readied w s) (sym f ∙ e))
  by_receiving e (BrokenBack x b f) = back_as m alike b (sym f ∙ e)
  by_receiving e (Arrived x b f) = Lands w m as_before alike (sym f ∙ e)

-- A note that is received by entries of the vat does nothing, or arrives.
pub comes : (script : Script) (w : World) (a v : ℕ) (s t : Vat Name) (n : Note Name) (exports : List Name) (sight : Sight Name) → receive (names script v) sight a (read_note (names_of s) (entered v a exports (names_of s) n)) (readied w s) ≡ Gives tt t → Coming script w a v s t n
comes script w a v s t n exports sight e = by_receiving script w a v s t n (entered v a exports (names_of s) n) sight (enters_as v a exports (names_of s) n) e (each_receiving (names script v) sight a (read_note (names_of s) (entered v a exports (names_of s) n)) (readied w s))
