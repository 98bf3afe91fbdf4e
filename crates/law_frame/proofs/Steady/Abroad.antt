-- In every world of a run each note of the last step of a vat that asks for something was put to another vat of the script.
use Rattle.std.proofs.Common.{◌≡◌, ℕ, zero, ◌<◌, List, [], ◌∷◌, ◌++◌, Some, sym, subst, length}
use Rattle.std.specs.Prelude.{slice_get}
use Rattle.def_machine.specs.Values.{Name, Gift, host_of}
use Rattle.def_machine.specs.State.{Note, Deliver, Ask, Put, Vat}
use Rattle.def_run.specs.World as machine
use Rattle.def_run.specs.World.{Script, Program, Entry, World, Goes}
use Rattle.law_fate.specs.Name.Names.{AllOf, NoteOk, GoesOk, PutOk, names_in}
use Rattle.law_fate.specs.Name.Runs.{KnowsOnce}
use Rattle.law_fate.proofs.Name.Run.{Stands, Had}
use Rattle.law_fate.specs.Fates.WholeFateRuns.{KnowsVats}
use Rattle.law_frame.specs.Frame.Asked.{AskFits}
use Rattle.law_frame.proofs.Frame.WireAsking.{PutFits}
use Rattle.law_frame.proofs.Frame.WireRuns as wires
use Rattle.law_frame.proofs.Frame.WireRuns.{Wire}
use Rattle.law_frame.proofs.Steady.Away.{AsksOther, PutAway, VatsAway, opened_away, stepped_away}

-- a note of vat u, if it asks for something, is put to another of so many vats
abbrev pub GoesAbroad : ℕ → ℕ → ℕ → Note Name → Type 0
GoesAbroad u n to (Deliver d m verb ys) = (to < n) × (to ≡ u → ⊥)
GoesAbroad u n to (Ask p i m) = (to < n) × (to ≡ u → ⊥)
GoesAbroad u n to other = Unit {0}

abbrev pub AllAbroad : ℕ → ℕ → List (Put Name) → Type 0
AllAbroad u n ps = AllOf (λ (p : Put Name). GoesAbroad u n p.to p.note) ps

module _ (script : Script) (knows : KnowsVats script) where
  abbrev many : ℕ
  many = length script.vats

  gift_low : (to i : ℕ) (m : Name) → m ≡ Gift to i → host_of m < many → to < many
  unfolding host_of
  gift_low to i m e h = let low : host_of (Gift to i) < many = subst (λ z. host_of z < many) e h in low

  one_abroad : (w : World) (u : ℕ) (r : Vat Name) (to : ℕ) (n : Note Name) → NoteOk (Had script w u r) n × GoesOk (Had script w u r) to n → AskFits (names_in r.known) to n → AsksOther u to n → GoesAbroad u many to n
  one_abroad w u r to (Deliver d m verb ys) h f a = let g = h.1 in (g.3 knows, λ e. g.2 (sym e))
  one_abroad w u r to (Ask p i m) h f a = let g = h.0 in let k = g.1 in (gift_low to i m f.1 (k.3 knows), a)
  one_abroad w u r to other h f a = tt

  all_abroad : (w : World) (u : ℕ) (r : Vat Name) (ps : List (Put Name)) → AllOf (PutOk (Had script w u r)) ps → AllOf (PutFits u (names_in r.known)) ps → AllOf (PutAway u) ps → AllAbroad u many ps
  all_abroad w u r [] h f a = tt
  all_abroad w u r (p ∷ ps) h f a = let fit = f.0 in (one_abroad w u r p.to p.note h.0 fit.0 a.0, all_abroad w u r ps h.1 f.1 a.1)

  vat_abroad : (w : World) → Stands script w → Wire script w → VatsAway w.vats → (u : ℕ) (r : Vat Name) → slice_get w.vats u ≡ Some r → AllAbroad u many r.outbox
  vat_abroad w s k a u r e =
      let stands = s.vats u r e in let parts = stands.parts in let told = k.told u r e in
      all_abroad w u r r.outbox parts.outbox told.0 (a u r e)

  module _ (once : KnowsOnce script) where
    pub opened_abroad : (ps rest : List Program) (w : World) → script.vats ≡ ps ++ rest → machine.open_from script zero ps (machine.begins script) ≡ Goes w → (u : ℕ) (r : Vat Name) → slice_get w.vats u ≡ Some r → AllAbroad u many r.outbox
    opened_abroad ps rest w split opened = let both = wires.opened_both script once ps rest w split opened in vat_abroad w both.0 both.1 (opened_away script once ps rest w split opened)

    pub stepped_abroad : (w x : World) (es : List Entry) (k : ℕ) → machine.open_from script zero script.vats (machine.begins script) ≡ Goes w → machine.steps_from script es k w ≡ Goes x → (u : ℕ) (r : Vat Name) → slice_get x.vats u ≡ Some r → AllAbroad u many r.outbox
    stepped_abroad w x es k opened stepped = let both = wires.stepped_both script once w x es k opened stepped in vat_abroad x both.0 both.1 (stepped_away script once w x es k opened stepped)
