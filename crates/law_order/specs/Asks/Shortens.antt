-- A note by which the provider of a gift is asked to open it is carried: what is ahead of what after it.
use Rattle.std.specs.Prelude.{◌≡◌, ℕ, zero, ◌≤◌, Bool, true, List, [], ◌∷◌, ◌++◌, Some, slice_get}
use Rattle.def_machine.specs.Values.{Ref, Name, Promise, Answer, Sent, Msg, host_of}
use Rattle.def_machine.specs.State.{Settled, Shorten, Vat}
use Rattle.def_machine.specs.Refs.{standing_of}
use Rattle.def_run.specs.World.{Script, Carry, Entry, Link, World, Goes, begins, open_from, steps_from, link_at, names, step, readied}
use Rattle.law_fate.specs.Name.Names.{IsAmong}
use Rattle.law_fate.specs.Name.Runs.{KnowsOnce}
use Rattle.law_order.specs.Ordering.Ways.{Way, End}
use Rattle.law_order.specs.Ordering.Places.{leads}
use Rattle.law_order.specs.Ordering.Steps.{Ready}
use Rattle.law_order.specs.Ordering.Worlds.{IsObject}
use Rattle.law_order.specs.Cuts.Letting.{OneLetsGo, AllLogged}
use Rattle.law_order.specs.Runs.Beginnings.{InRuns}
use Rattle.law_order.specs.Asks.Asks.{StepKeeps, Bears}

-- The first note on the link from a to b, which is not cut and has honest ends, asks b to open its name n as the gift of vat c under key i.
pub record BearsShorten (script : Script) (honest : ℕ → Bool) (w : World) (a b c i : ℕ) (n : Name) : Type 0 where
  pub borne : Bears w a b (Shorten n c i)
  pub sender : honest a ≡ true
  pub receiver : honest b ≡ true
  -- Where the name leads on over a link, that is the one to c.
  pub onward : (h : ℕ) (q : Name) → leads script honest w.vats w.links b (Ref n) ≡ End (Way b h) q → h ≡ c

-- It can be carried: its receiver is ready.
pub record CanShorten (script : Script) (honest : ℕ → Bool) (w : World) (a b c i : ℕ) (n : Name) : Type 0 where
  pub bears : BearsShorten script honest w a b c i n
  pub ready : Ready script honest w b (readied w bears.borne.vat)
  -- The name is no message, no answer of the receiver's next messages, and none of its next promises.
  pub message : (m : Msg) → n ≡ Sent m → ⊥
  pub answer : (h j : ℕ) → bears.borne.vat.messages ≤ j → n ≡ Answer h (record { sender = b; number = j }) → ⊥
  pub promise : (j : ℕ) → bears.borne.vat.promises ≤ j → n ≡ Promise b j → ⊥
  -- At most one note under way lets each gift go, and each note under way was logged.
  pub most : OneLetsGo w.links
  pub logged : AllLogged w.links

-- ---- laws

-- As it is carried, order is kept.
abbrev pub ShortenCarriesKeep : Type 0
ShortenCarriesKeep = (script : Script) (honest : ℕ → Bool) (w y : World) (a b c i k : ℕ) (n : Name) → CanShorten script honest w a b c i n → step script (Carry a b) k w ≡ Goes y → StepKeeps script honest w y

-- In every world of a run, where a note under way to vat v asks v to open its name as a gift of vat c, that name settled there to an object of c.
abbrev pub ShortensAreTrue : Type 0
ShortensAreTrue = InRuns (λ script w. (u v : ℕ) (l : Link) (n : Name) (c i : ℕ) → link_at u v w.links ≡ Some l → IsAmong (Shorten n c i) l.notes
    → (s : Vat Name) × (slice_get w.vats v ≡ Some s) × (o : Name) × (standing_of (names script v) s.known n ≡ Settled (Ref o)) × IsObject o × (host_of o ≡ c))

-- So order is kept in every run, as the next entry carries such a note from an honest vat to an honest vat.
abbrev pub ShortenCarriesKeepInRuns : Type 0
ShortenCarriesKeepInRuns = (script : Script) → KnowsOnce script → (w x y : World) (es : List Entry) (k a b c i : ℕ) (n : Name)
    → open_from script zero script.vats (begins script) ≡ Goes w → steps_from script es k w ≡ Goes x → steps_from script (es ++ Carry a b ∷ []) k w ≡ Goes y
    → Bears x a b (Shorten n c i) → (honest : ℕ → Bool) → honest a ≡ true → honest b ≡ true → StepKeeps script honest x y
