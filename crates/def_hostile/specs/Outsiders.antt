-- What a run in the vats' own numbers has of a hostile vat: how many things its frames made, and what they exported, so as to name it. A hostile vat has no other state.
use Rattle.std.specs.Prelude.{ℕ, zero, suc, ◌+◌, Bool, true, false, List, [], ◌∷◌, ◌++◌, length, map, slice_set}
use Rattle.def_machine.specs.Values.{Name, Promise, Local, Obj, Prom}
use Rattle.def_machine.specs.State.{Note, Deliver, Open, Ask, SettledTo, Elsewhere, Shorten}
use Rattle.def_run.specs.Connections.{Connection}
use Rattle.def_run.specs.Vats.{Member, connection_for}
use Rattle.def_run.specs.World.{Program}
use Rattle.def_run.specs.Vats.{opened_vats}

-- of all that a hostile vat's frames made, over all its links in order of arrival
pub record Outsider : Type 0 where
  pub objects : ℕ
  pub promises : ℕ
  pub messages : ℕ

unfoldable pub nobody : Outsider
nobody = record { objects = zero; promises = zero; messages = zero }

unfoldable pub starting : List Program → List Outsider
starting ps = map (λ p. nobody) ps

-- ---- what a frame makes: new positions, by whether each is an object, and a message

unfoldable pub objects_in : List Bool → ℕ
objects_in [] = zero
objects_in (true ∷ ks) = suc (objects_in ks)
objects_in (false ∷ ks) = objects_in ks

unfoldable pub promises_in : List Bool → ℕ
promises_in [] = zero
promises_in (true ∷ ks) = promises_in ks
promises_in (false ∷ ks) = suc (promises_in ks)

unfoldable pub messages_in : Note Name → ℕ
messages_in (Deliver d n verb ys) = 1
messages_in (Open i n) = zero
messages_in (Ask p i n) = zero
messages_in (SettledTo n y) = zero
messages_in (Elsewhere n c) = zero
messages_in (Shorten n c i) = zero

unfoldable pub counted : List Bool → Note Name → Outsider → Outsider
counted kinds n o = record { objects = o.objects + objects_in kinds; promises = o.promises + promises_in kinds; messages = o.messages + messages_in n }

-- ---- and how it is named: an object by its number, a promise by its place among the vat's names

-- where so many objects were made before, and so many names stand
unfoldable pub new_numbers : ℕ → ℕ → List Bool → List Local
new_numbers objects names [] = []
new_numbers objects names (true ∷ ks) = Obj objects ∷ new_numbers (suc objects) names ks
new_numbers objects names (false ∷ ks) = Prom names ∷ new_numbers objects (suc names) ks

unfoldable pub new_promises : ℕ → ℕ → List Bool → List Name
new_promises h promises [] = []
new_promises h promises (true ∷ ks) = new_promises h promises ks
new_promises h promises (false ∷ ks) = Promise h promises ∷ new_promises h (suc promises) ks

unfoldable pub exporting : List Local → Connection Local → Connection Local
exporting ns c = record c { exports = c.exports ++ ns }

-- The place of hostile vat h among the members, which has what it exported to each vat and those names, once a frame for vat u made these.
unfoldable pub grown : ℕ → ℕ → List Bool → Outsider → Member → Member
grown h u kinds o m = record m {
  connections = slice_set m.connections u (exporting (new_numbers o.objects (length m.names.known) kinds) (connection_for u m));
  names = record m.names { known = m.names.known ++ new_promises h o.promises kinds };
}

-- opens each definition of this file, and of those below
unfoldable pub opened_outsiders : Unit {0}
unfolding nobody starting objects_in promises_in messages_in counted new_numbers new_promises exporting grown opened_vats
opened_outsiders = tt
