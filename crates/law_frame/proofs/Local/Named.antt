-- The names of the numbers of a vat are those in its state in names.
use Rattle.std.proofs.Common.{◌≡◌, ℕ, List, Option, Some, None, refl, sym, ap, ◌∙◌}
use Rattle.std.specs.Prelude.{slice_get, unwrap_or}
use Rattle.def_machine.specs.Values.{Name, Root, Object, Sent, Local, Obj, Prom, Far, Mess}
use Rattle.def_machine.specs.State.{Vat}
use Rattle.def_run.specs.World.{World, readied}
use Rattle.def_machine.specs.Maps as maps
use Rattle.law_machine.specs.Renamed.Stands.{Table, Found, Is, Nothing, found, prom_found, mess_found, far_found, StandsFor}
use Rattle.law_machine.proofs.Renamed.MapMaps.{vat_twice}
use Rattle.law_machine.proofs.Renamed.Same.{vat_same}
use Rattle.law_reference.specs.Reference.Exports.{exported_at}
use Rattle.law_reference.specs.Reference.Tables.{table_of}
use Rattle.law_fate.specs.Name.Names.{names_in}
use Rattle.def_run.specs.Names.{Names, name_by}
use Rattle.def_run.specs.Numbers.{Vats, far_name, name_at_vat, ready}
use Rattle.law_frame.specs.Local.Statements.{StatesAreNamed}

-- where g gives the name of each number that is found
module _ (u : ℕ) (t : Table) (g : Local → Name) (agree : (a : Local) (n : Name) → found u t a ≡ Is n → g a ≡ n) where
  name_or : Found → Name
  name_or (Is n) = n
  name_or (Nothing a) = g a

  -- what is not found is found as itself
  prom_or : (k : ℕ) (o : Option Name) → ((n : Name) → prom_found k o ≡ Is n → g (Prom k) ≡ n) → name_or (prom_found k o) ≡ g (Prom k)
  unfolding name_or prom_found
  prom_or k (Some n) h = sym (h n refl)
  prom_or k None h = refl

  mess_or : (j : ℕ) (o : Option Name) → ((n : Name) → mess_found j o ≡ Is n → g (Mess j) ≡ n) → name_or (mess_found j o) ≡ g (Mess j)
  unfolding name_or mess_found
  mess_or j (Some n) h = sym (h n refl)
  mess_or j None h = refl

  far_or : (h p : ℕ) (o : Option ℕ) → ((n : Name) → far_found h p o ≡ Is n → g (Far h p) ≡ n) → name_or (far_found h p o) ≡ g (Far h p)
  unfolding name_or far_found
  far_or h p (Some j) e = sym (e (Object h j) refl)
  far_or h p None e = refl

  found_or : (a : Local) → name_or (found u t a) ≡ g a
  unfolding found name_or
  found_or (Obj i) = sym (agree (Obj i) (Object u i) refl)
  found_or (Prom k) = prom_or k (slice_get t.names k) (agree (Prom k))
  found_or (Mess j) = mess_or j (slice_get t.mails j) (agree (Mess j))
  found_or (Far h p) = far_or h p (t.exports h p) (agree (Far h p))

  pub named : (q : Vat Local) (s : Vat Name) → StandsFor u t q s → maps.vat g q ≡ s
  unfolding name_or
  named q s e =
      let same : (λ (a : Local). name_or (found u t a)) ≡ g = λ i a. found_or a i in
      ap (λ (f : Local → Name). maps.vat f q) (sym same) ∙ sym (vat_twice (found u t) name_or q) ∙ ap (maps.vat name_or) e ∙ vat_twice Is name_or s ∙ vat_same s

-- ---- the names that a member of the run has

got_or : (xs : List Name) (k : ℕ) (d n : Name) (o : Option Name) → o ≡ Some n → unwrap_or o d ≡ n
got_or xs k d n (Some m) e = cc
got_or xs k d n None e = cc

prom_is : (k : ℕ) (o : Option Name) (n : Name) → prom_found k o ≡ Is n → o ≡ Some n
unfolding prom_found
prom_is k (Some m) n e = cc
prom_is k None n e = cc

mess_is : (k : ℕ) (o : Option Name) (n : Name) → mess_found k o ≡ Is n → o ≡ Some n
unfolding mess_found
mess_is k (Some m) n e = cc
mess_is k None n e = cc

far_is : (h p : ℕ) (o : Option ℕ) (n : Name) → far_found h p o ≡ Is n → (j : ℕ) × (o ≡ Some j) × (n ≡ Object h j)
unfolding far_found
far_is h p (Some j) n e = (j, refl, cc)
far_is h p None n e = cc

module _ (w : World) (W : Vats) (u : ℕ) (s : Vat Name) (t : Names) (known : t.known ≡ names_in s.known) (mails : t.mails ≡ s.mails)
    (positions : (h p j : ℕ) → exported_at w.links u h p ≡ Some j → far_name W.members u h p ≡ Object h j) where
  pub name_is : (a : Local) (n : Name) → found u (table_of w u s) a ≡ Is n → name_at_vat W.members u t a ≡ n
  unfolding found table_of name_at_vat name_by
  name_is (Obj i) n e = cc
  name_is (Prom k) n e = got_or t.known k (Root u) n (slice_get t.known k) (ap (λ xs. slice_get xs k) known ∙ prom_is k (slice_get (names_in s.known) k) n e)
  name_is (Mess j) n e = got_or t.mails j (Sent (record { sender = u; number = j })) n (slice_get t.mails j) (ap (λ xs. slice_get xs j) mails ∙ mess_is j (slice_get s.mails j) n e)
  name_is (Far h p) n e = let i = far_is h p (exported_at w.links u h p) n e in positions h p i.0 i.1 ∙ sym i.2

pub states_are_named : StatesAreNamed
states_are_named w W u s m h = named u (table_of w u s) (name_at_vat W.members u m.names) (name_is w W u s m.names h.known h.mails h.positions) (ready W m.vat) (readied w s) h.stands
