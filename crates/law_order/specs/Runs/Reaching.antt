-- Where each vat knows only vats of the script: of whom names are, and over which links references lead, in every world of a run.
use Rattle.std.specs.Prelude.{◌≡◌, ℕ, zero, ◌<◌, Bool, true, false, List, [], ◌∷◌, ◌++◌, Some, length, slice_get}
use Rattle.def_machine.specs.Values.{Words, Ref, Name, host_of}
use Rattle.def_machine.specs.State.{Passeds, Delivery, Note, Deliver, Known, Vat}
use Rattle.def_machine.specs.Refs.{entry_of}
use Rattle.def_run.specs.World.{Script, Carry, Entry, Link, World, Goes, begins, open_from, steps_from, link_at, names}
use Rattle.law_fate.specs.Name.Names.{IsAmong}
use Rattle.law_fate.specs.Name.Runs.{KnowsOnce}
use Rattle.law_fate.specs.Fates.WholeFateRuns.{KnowsVats}
use Rattle.law_order.specs.Ordering.Ways.{Way, End}
use Rattle.law_order.specs.Ordering.Places.{item, leads}
use Rattle.law_order.specs.Carries.Carries.{OrderKept}
use Rattle.law_order.specs.Runs.Beginnings.{InRunsOf}

-- Of each script whose vats know only vats of it, and by which no vat is told twice that it knows a vat, or that it knows itself.
abbrev pub InClosedRuns : (Script → World → Type 0) → Type 0
InClosedRuns P = (script : Script) → KnowsOnce script → KnowsVats script → InRunsOf script (P script)

abbrev pub IsOfVat : Script → Name → Type 0
IsOfVat script n = host_of n < length script.vats

-- Each name that a vat knows, and the target of each message under way, is of a vat of the script.
abbrev pub NamesAreOfVats : Type 0
NamesAreOfVats = InClosedRuns (λ script w. ((v : ℕ) (s : Vat Name) (n : Name) (k : Known Name) → slice_get w.vats v ≡ Some s → entry_of (names script v) s.known n ≡ Some k → IsOfVat script n)
    × ((a b : ℕ) (l : Link) (d : Delivery Name) (n : Name) (verb : Words) (ys : Passeds Name) → link_at a b w.links ≡ Some l → IsAmong (Deliver d n verb ys) l.notes → IsOfVat script n))

-- Where a name of a vat of the script leads over a link, that link is there.
abbrev pub LinksAreThere : Type 0
LinksAreThere = InClosedRuns (λ script w. (honest : ℕ → Bool) (v h : ℕ) (s : Vat Name) (n q : Name) → slice_get w.vats v ≡ Some s → IsOfVat script n → leads script honest w.vats w.links v (Ref n) ≡ End (Way v h) q
    → (l : Link) × (link_at v h w.links ≡ Some l))

-- The first note on the link from a to b, which is not cut and has honest ends, delivers that message.
pub record BearsOn (honest : ℕ → Bool) (w : World) (a b : ℕ) (d : Delivery Name) (n : Name) (verb : Words) (ys : Passeds Name) : Type 0 where
  pub vat : Vat Name
  pub there : slice_get w.vats b ≡ Some vat
  pub link : Link
  pub found : link_at a b w.links ≡ Some link
  pub uncut : link.cut ≡ false
  pub rest : List (Note Name)
  pub first : link.notes ≡ Deliver d n verb ys ∷ rest
  pub sender : honest a ≡ true
  pub receiver : honest b ≡ true

-- In every run of such a script, as the next entry carries that message, order is kept; where the message goes on to a vat that is not honest, behind all others.
abbrev pub CarriesKeepInClosedRuns : Type 0
CarriesKeepInClosedRuns = (script : Script) → KnowsOnce script → KnowsVats script → (w x y : World) (es : List Entry) (k a b : ℕ)
    → open_from script zero script.vats (begins script) ≡ Goes w → steps_from script es k w ≡ Goes x → steps_from script (es ++ Carry a b ∷ []) k w ≡ Goes y
    → (honest : ℕ → Bool) (d : Delivery Name) (n : Name) (verb : Words) (ys : Passeds Name) → BearsOn honest x a b d n verb ys → OrderKept script honest x y a b (item d.message n)
