-- The tables of an honest vat tell the same in numbers and in names.
use Rattle.std.proofs.Common.{◌≡◌, ℕ, Bool, true, false, ◌||◌, List, [], ◌∷◌, refl, sym, ap, ◌∙◌, map}
use Rattle.std.proofs.lemmas.Option.{slice_get_within}
use Rattle.def_machine.specs.Values.{Name, Local, key, same_name, same_local, same_reference}
use Rattle.def_run.specs.Connections.{Connection}
use Rattle.def_run.specs.Entered.{sight_by}
use Rattle.def_run.specs.Seeing.{among}
use Rattle.def_run.specs.Vats.{connection_for}
use Rattle.def_run.specs.Wire.{connected_at}
use Rattle.def_run.specs.World.{has_name, names_of}
use Rattle.def_hostile.specs.Arrivals.{sees}
use Rattle.law_fate.specs.Name.Names.{AllOf}
use Rattle.law_machine.specs.Renamed.Stands.{Table, Found, Is, found, found_same, IsTable}
use Rattle.law_machine.proofs.Renamed.Stands.{Extends, sames}
use Rattle.law_frame.specs.Frame.OwnFrames.{refers}
use Rattle.law_frame.specs.Frame.Together.{TablesMay, changed_tables}
use Rattle.law_frame.proofs.Local.Steps.{tables_still}
use Rattle.law_hostile_frame.specs.Mirrors.{HonestMirrors}
use Rattle.law_hostile_frame.specs.Tables.{table_in}
use Rattle.law_hostile_mirror.specs.Sights.{SightsAgreeInScenes}

-- what refers is compared as a name
refers_same : (a n : Name) → refers a ≡ true → same_reference a n ≡ same_name a n
unfolding refers same_reference
refers_same (Name.Sent m) n e = cc
refers_same other n e = refl

module _ (u : ℕ) (t : Table) (good : IsTable u t) (k : Local) (n : Name) (is : found u t k ≡ Is n) where
  one_same : (x : Local) (a : Name) → found u t x ≡ Is a → refers a ≡ true → same_local x k ≡ same_name a n
  unfolding found_same
  one_same x a e r = sym (sames u t good x k) ∙ ap (λ z. found_same z (found u t k)) e ∙ ap (found_same (Is a)) is ∙ refers_same a n r

  among_same : (xs : List Local) (ns : List Name) → map (found u t) xs ≡ map Is ns → AllOf (λ a. refers a ≡ true) ns → among xs k ≡ has_name ns n
  unfolding among has_name
  among_same [] [] e r = refl
  among_same (x ∷ xs) (a ∷ ns) e r =
      let first : found u t x ≡ Is a = cc in let rest : map (found u t) xs ≡ map Is ns = cc in
      ap (λ b. either b (among xs k)) (one_same x a first r.0) ∙ ap (either (same_name a n)) (among_same xs ns rest r.1)
    where
      either : Bool → Bool → Bool
      either b c = elim b [ true ↦ true | false ↦ c ]
  among_same [] (a ∷ ns) e r = cc
  among_same (x ∷ xs) [] e r = cc

pub sights_agree : SightsAgreeInScenes
unfolding sees sight_by names_of
sights_agree play v u s c t m T h some honest within at there good on =
    let o : HonestMirrors play s.world c.vats u t m = h.honest u t m honest at there in
    let more : Extends (table_in s.world u t) T = record { names = on.0; mails = on.1; exports = on.2 } in
    let d = (connected_at u v s.world.connections).tables in
    let same : changed_tables (found u T) (connection_for v m) ≡ changed_tables Is d = tables_still u (table_in s.world u t) T more (connection_for v m) d (o.vat.connections v within) in
    let refer : TablesMay refers d = h.references u (slice_get_within c.vats.members u m there) v within in
    record {
      knows = λ g p w apart plain. sym (o.knows some g (key p w) apart plain);
      numbers = λ k n is.
          ap (λ b. b || among (connection_for v m).answers k) (among_same u T good k n is (connection_for v m).exports d.exports (ap (λ (z : Connection Found). z.exports) same) refer.exports)
          ∙ ap (λ b. has_name d.exports n || b) (among_same u T good k n is (connection_for v m).answers d.answers (ap (λ (z : Connection Found). z.answers) same) refer.answers);
    }
