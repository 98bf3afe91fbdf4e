-- Everything that a vat does with references leads as the changes that settle nothing lead, and as the settling of one name leads.
use Rattle.std.proofs.Common.{◌≡◌, ℕ, List, Option, Some, None, refl}
use Rattle.def_machine.specs.Values.{Words, Value, Naming}
use Rattle.def_machine.specs.State.{Message, Standing, Settled, Known, Vat, Act, ◌>>=◌, look, and_then, give}
use Rattle.def_machine.specs.Refs as refs
use Rattle.def_machine.specs.Refs.{entry_of}
use Rattle.law_machine.proofs.Machine.RefsKeeps.{GoodSettler as LastingSettler}
use Rattle.law_machine.proofs.Machine.Walks.{InSettling}
use Rattle.law_machine.proofs.Machine.RefsWalk.{walk_send_on, walk_inform, walk_settle, walk_resolve, walk_send, walk_send_only, walk_react}
use Rattle.law_reference.proofs.Reference.Entries.{Mild}
use Rattle.law_reference.proofs.Reference.Gentle.{GivesBy, Gentle, GentleBy, IsGentle, goes_closed, gentle_in_refs, gentle_in_refs_under, gentle_sending}
use Rattle.law_reference.proofs.Reference.Settles.{Lasts, Settling, lasting, settling}

abbrev pub GoodSettler : {N : Type 0} → (Vat N → Vat N → Type 0) → (N → Value N → Act N (Unit {0})) → Type 0
GoodSettler {N} R settle = (p : N) (y : Value N) → Gentle R (settle p y)

module _ {N W : Type 0} (K : Naming N W) (R : Vat N → Vat N → Type 0) (law : IsGentle K R) where
  pub gentle_send_on : (x1 : N → Value N → Act N (Unit {0})) → GoodSettler R x1 → (x2 : Message N) → Gentle R (refs.send_on K x1 x2)
  gentle_send_on = walk_send_on (GentleBy R) K (goes_closed K Mild R law) (gentle_in_refs K R law) (gentle_in_refs_under K R law)

  pub gentle_inform : (x1 : N) → (x2 : ℕ) → Gentle R (refs.inform K x1 x2)
  gentle_inform = walk_inform (GentleBy R) K (goes_closed K Mild R law) (gentle_in_refs K R law) (gentle_in_refs_under K R law)

abbrev pub SettlesBy : {N W : Type 0} → Naming N W → (Vat N → Vat N → Type 0) → Type 0
SettlesBy {N} K R = (settle : N → Value N → Act N (Unit {0})) → GoodSettler R settle → LastingSettler (Lasts K) settle → Settling K settle
    → (p : N) (y : Value N) (k : Known N) (s : Vat N) → entry_of K s.known p ≡ Some k → GivesBy R s (refs.settle_known K settle p y k s)

module _ {N W : Type 0} (K : Naming N W) (R : Vat N → Vat N → Type 0) (law : IsGentle K R) (block : SettlesBy K R) where
  gives_standing : (settle : N → Value N → Act N (Unit {0})) → GoodSettler R settle → LastingSettler (Lasts K) settle → Settling K settle → (p : N) (y : Value N) (k : Known N) (t : Standing N) (s : Vat N) → entry_of K s.known p ≡ Some k → GivesBy R s (refs.settle_standing K settle p y k t s)
  unfolding refs.settle_standing give
  gives_standing settle good lasts settles p y k (Settled z) s e = law.same s
  gives_standing settle good lasts settles p y k other s e = block settle good lasts settles p y k s e

  gives_entry : (settle : N → Value N → Act N (Unit {0})) → GoodSettler R settle → LastingSettler (Lasts K) settle → Settling K settle → (p : N) (y : Value N) (o : Option (Known N)) (s : Vat N) → entry_of K s.known p ≡ o → GivesBy R s (refs.settle_entry K settle p y o s)
  unfolding refs.settle_entry give
  gives_entry settle good lasts settles p y None s e = law.same s
  gives_entry settle good lasts settles p y (Some k) s e = gives_standing settle good lasts settles p y k k.standing s e

  gentle_settle_one : (settle : N → Value N → Act N (Unit {0})) → GoodSettler R settle → LastingSettler (Lasts K) settle → Settling K settle → (p : N) (y : Value N) → Gentle R (refs.settle_one K settle p y)
  unfolding refs.settle_one ◌>>=◌ look and_then
  gentle_settle_one settle good lasts settles p y = record { after = λ s. gives_entry settle good lasts settles p (refs.target_of K s p y) (entry_of K s.known p) s refl }

  settles_so : InSettling (GentleBy R) K
  settles_so = record { settles = λ d h p y. gentle_settle_one (λ q z. refs.settle_at K d q z) h (lasting K d) (settling K d) p y }

  pub gentle_settle : (p : N) (y : Value N) → Gentle R (refs.settle K p y)
  gentle_settle = walk_settle (GentleBy R) K (goes_closed K Mild R law) (gentle_in_refs K R law) (gentle_in_refs_under K R law) settles_so

  pub gentle_resolve : (x1 : N) → (x2 : Value N) → Gentle R (refs.resolve K x1 x2)
  gentle_resolve = walk_resolve (GentleBy R) K (goes_closed K Mild R law) (gentle_in_refs K R law) (gentle_in_refs_under K R law) settles_so

  pub gentle_send : (x1 : ℕ) → (x2 : Value N) → (x3 : Words) → (x4 : List (Value N)) → Gentle R (refs.send K x1 x2 x3 x4)
  gentle_send = walk_send (GentleBy R) K (goes_closed K Mild R law) (gentle_in_refs K R law) (gentle_in_refs_under K R law) settles_so (gentle_sending K R law)

  pub gentle_send_only : (x1 : ℕ) → (x2 : Value N) → (x3 : Words) → (x4 : List (Value N)) → Gentle R (refs.send_only K x1 x2 x3 x4)
  gentle_send_only = walk_send_only (GentleBy R) K (goes_closed K Mild R law) (gentle_in_refs K R law) (gentle_in_refs_under K R law) settles_so (gentle_sending K R law)

  pub gentle_react : (x1 : ℕ) → (x2 : Value N) → (x3 : Value N) → (x4 : Value N) → Gentle R (refs.react K x1 x2 x3 x4)
  gentle_react = walk_react (GentleBy R) K (goes_closed K Mild R law) (gentle_in_refs K R law) (gentle_in_refs_under K R law) settles_so (gentle_sending K R law)
