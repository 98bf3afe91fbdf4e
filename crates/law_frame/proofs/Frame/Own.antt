-- What a step of one vat makes of the states of others, and what the outcome of a step in numbers says.
use Rattle.std.proofs.Common.{◌≡◌, ℕ, zero, suc, Bool, true, false, List, [], ◌∷◌, Option, Some, None, refl, sym, ap, subst, ◌∙◌, ◌==◌}
use Rattle.std.specs.Prelude.{slice_get, option_map}
use Rattle.std.proofs.lemmas.Bool.{eqb-true, eq-eqb}
use Rattle.def_machine.specs.Values.{Name, Local}
use Rattle.def_machine.specs.State.{Known, Vat, Done, Gives}
use Rattle.law_machine.specs.Machine.Steps.{After}
use Rattle.law_machine.specs.Machine.Laws.{SameNames, SameMails}
use Rattle.def_run.specs.World.{World, put_at}
use Rattle.law_fate.specs.Name.Names.{names_in}
use Rattle.law_fate.proofs.Name.Among.{get_put}
use Rattle.def_machine.specs.Maps as maps
use Rattle.law_machine.specs.Renamed.Stands.{Found, Is, Table, StandsFor, found}
use Rattle.law_machine.specs.Renamed.Renaming.{EndsWith}
use Rattle.law_machine.proofs.Renamed.Sim.{map_get}
use Rattle.law_machine.proofs.Renamed.Stands.{Extends, still}
use Rattle.law_reference.specs.Reference.Tables.{table_of}
use Rattle.law_frame.specs.Frame.AlikeArrivals.{table_across}
use Rattle.law_frame.proofs.Frame.AlikeArrivals.{some_same}
use Rattle.law_frame.specs.Frame.Steps.{OwnStep, where_own, EndsFor}

-- ---- the vats of two worlds

get_else : (xs : List (Vat Name)) (v u : ℕ) (t : Vat Name) → (v ≡ u → ⊥) → slice_get (put_at v t xs) u ≡ slice_get xs u
unfolding put_at
get_else [] v u t o = refl
get_else (x ∷ xs) zero zero t o = absurd (o refl)
get_else (x ∷ xs) zero (suc u) t o = refl
get_else (x ∷ xs) (suc v) zero t o = refl
get_else (x ∷ xs) (suc v) (suc u) t o = get_else xs v u t (λ e. o (ap suc e))

-- all vats but v are as they were
abbrev pub StayBut : ℕ → World → World → Type 0
StayBut v x y = (u : ℕ) → (v ≡ u → ⊥) → slice_get y.vats u ≡ slice_get x.vats u

pub stay_same : (v : ℕ) (x y : World) → y.vats ≡ x.vats → StayBut v x y
stay_same v x y e = λ u o. ap (λ us. slice_get us u) e

pub stay_put : (v : ℕ) (t : Vat Name) (x y : World) → y.vats ≡ put_at v t x.vats → StayBut v x y
stay_put v t x y e = λ u o. ap (λ us. slice_get us u) e ∙ get_else x.vats v u t o

-- the state of a vat in both
pub state_same : (x y : World) (u : ℕ) (s r : Vat Name) → slice_get x.vats u ≡ Some s → slice_get y.vats u ≡ Some r → slice_get y.vats u ≡ slice_get x.vats u → r ≡ s
state_same x y u s r there after e = some_same r s (sym after ∙ e ∙ there)

pub state_put : (x y : World) (u : ℕ) (s r t : Vat Name) → slice_get x.vats u ≡ Some s → slice_get y.vats u ≡ Some r → y.vats ≡ put_at u t x.vats → t ≡ r
state_put x y u s r t there after e = some_same t r (sym (get_put x.vats u s t there) ∙ sym (ap (λ us. slice_get us u) e) ∙ after)

-- ---- the outcome of a step in numbers

pub given : (f : Local → Found) (d : Done Local (Unit {0})) (z : Vat Found) → maps.done f (λ a. a) d ≡ Gives tt z → (p : Vat Local) × (d ≡ Gives tt p) × (maps.vat f p ≡ z)
given f (Gives a p) z e = (p, refl, let i : maps.vat f p ≡ z = cc in i)
given f other z e = cc

pub ends_with : (t : Table) (r : Vat Name) (d : Done Name (Unit {0})) → d ≡ Gives tt r → names_in r.known ≡ t.names → r.mails ≡ t.mails → EndsWith t d
ends_with t r d e f g = subst (λ z. EndsWith t z) (sym e) (f, g)

-- it stands for r
pub ends_for : (x : World) (u : ℕ) (s r : Vat Name) (d : Done Local (Unit {0})) → maps.done (found u (table_across x u r)) (λ a. a) d ≡ Gives tt (maps.vat Is r) → EndsFor x u s r (Some d)
ends_for x u s r d e = given (found u (table_across x u r)) d (maps.vat Is r) e

own_either : (x : World) (u : ℕ) (s r : Vat Name) (b : Bool) (d : OwnStep) → (b ≡ true → EndsFor x u s r d) → (b ≡ false → r ≡ s) → EndsFor x u s r (elim b [ true ↦ d | false ↦ None ])
own_either x u s r true d f g = f refl
own_either x u s r false d f g = g refl

true_false : (b : Bool) → b ≡ true → b ≡ false → ⊥
true_false b e f = cc

pub own_ends : (x : World) (v u : ℕ) (s r : Vat Name) (d : OwnStep) → (v ≡ u → EndsFor x u s r d) → ((v ≡ u → ⊥) → r ≡ s) → EndsFor x u s r (where_own v u d)
unfolding where_own
own_ends x v u s r d f g = own_either x u s r (v == u) d (λ e. f (eqb-true v u e)) (λ e. g (λ i. true_false (v == u) (eq-eqb v u i) e))

-- ---- the table in the end begins with the table before

known_stays : (s t : Vat Name) → SameNames s t → (k : ℕ) (n : Name) → slice_get (names_in s.known) k ≡ Some n → slice_get (names_in t.known) k ≡ Some n
known_stays s t h k n e = either (slice_get s.known k) refl (sym (map_get (λ (j : Known Name). j.name) s.known k) ∙ e)
  where
    either : (o : Option (Known Name)) → slice_get s.known k ≡ o → option_map (λ (j : Known Name). j.name) o ≡ Some n → slice_get (names_in t.known) k ≡ Some n
    either (Some j) i f = let a = h k j i in let same : j.name ≡ n = cc in map_get (λ (j : Known Name). j.name) t.known k ∙ ap (λ o. option_map (λ (j : Known Name). j.name) o) a.1 ∙ ap Some (a.2 ∙ same)
    either None i f = cc

pub known_on : (s t : Vat Name) → SameNames s t → (k : ℕ) (n : Name) → slice_get (names_in s.known) k ≡ Some n → slice_get (names_in t.known) k ≡ Some n
known_on s t h k n e = known_stays s t h k n e

extends : (x : World) (u : ℕ) (s r : Vat Name) → SameNames s r → SameMails s r → Extends (table_of x u s) (table_across x u r)
unfolding table_of table_across
extends x u s r h m = record { names = known_stays s r h; mails = λ k n e. m k n e; exports = λ h p j e. e }

-- so what stands for the state before by the one does so by the other
pub stands_on : (x : World) (u : ℕ) (s t r : Vat Name) (q : Vat Local) → SameNames s r → SameMails s r → StandsFor u (table_of x u s) q t → StandsFor u (table_across x u r) q t
stands_on x u s t r q h m e = still u (table_of x u s) (table_across x u r) (extends x u s r h m) q t e

pub after_gives : (R : Vat Name → Vat Name → Type 0) (s r : Vat Name) (d : Done Name (Unit {0})) → d ≡ Gives tt r → After R s d → R s r
after_gives R s r d e h = subst (λ z. After R s z) e h
