-- Everything that a vat does with references keeps what each single change keeps.
use Rattle.std.proofs.Common.{ℕ, List, Option}
use Rattle.def_machine.specs.Values.{Words, Value, Naming}
use Rattle.def_machine.specs.State.{Message, Standing, Known, Passeds, Vat, Act, Settle, Settles}
use Rattle.def_machine.specs.Refs as refs
use Rattle.def_machine.specs.Refs.{Place}
use Rattle.law_machine.proofs.Machine.Walks.{InRefs, InRefsUnder, InSettling, InSending}
use Rattle.law_machine.proofs.Machine.Blocks.{refs_of, refs_under_of, settling_of, sending_of}
use Rattle.law_machine.proofs.Machine.RefsWalk.{refs_walks, walk_pass_all, walk_address_all, walk_pass_on, walk_inform_of, walk_send_on, walk_inform, walk_settle_at, walk_settle, walk_resolve, walk_send, walk_send_only, walk_react, walk_settle_known, walk_settle_standing, walk_settle_entry, walk_settle_one}
use Rattle.law_machine.proofs.Machine.Keeps.{Keeps, KeepsBy, IsKept, IsKeptUnder, keeps, keeps_closed, keeps_singles, keeps_singles_under, keeps_then, keeps_tell, keeps_alter}

abbrev pub GoodSettler : {N : Type 0} → (Vat N → Vat N → Type 0) → (N → Value N → Act N (Unit {0})) → Type 0
GoodSettler {N} R settle = (p : N) (y : Value N) → Keeps R (settle p y)

module _ {N : Type 0} (R : Vat N → Vat N → Type 0) (base : IsKept R) where
  pub keeps_in_refs : InRefs (KeepsBy R)
  keeps_in_refs = refs_of (KeepsBy R) (keeps_closed R base) (keeps_singles R base)

module _ {N W : Type 0} (K : Naming N W) (R : Vat N → Vat N → Type 0) (base : IsKept R) (law : IsKeptUnder K R) where
  pub keeps_in_refs_under : InRefsUnder (KeepsBy R) K
  keeps_in_refs_under = refs_under_of (KeepsBy R) (keeps_closed R base) (keeps_singles R base) K (keeps_singles_under R base K law)

  pub keeps_sending : InSending (KeepsBy R) K
  keeps_sending = sending_of (KeepsBy R) (keeps_closed R base) (keeps_singles R base) K (keeps_singles_under R base K law)

  pub keeps_settling : InSettling (KeepsBy R) K
  keeps_settling = settling_of (KeepsBy R) (keeps_closed R base) (keeps_singles R base) K (keeps_singles_under R base K law)

  pub keeps_pass_all : (x1 : ℕ) → (x2 : List (Value N)) → Keeps R (refs.pass_all K x1 x2)
  keeps_pass_all = walk_pass_all (KeepsBy R) K (keeps_closed R base) (keeps_in_refs R base) keeps_in_refs_under

  pub keeps_address_all : (w : ℕ) (ys : Passeds N) → Keeps R (refs.address_all K w ys)
  keeps_address_all = walk_address_all (KeepsBy R) K (keeps_closed R base) (keeps_in_refs R base) keeps_in_refs_under

  pub keeps_pass_on : (x1 : Message N) → (x2 : ℕ) → (x3 : N) → Keeps R (refs.pass_on K x1 x2 x3)
  keeps_pass_on = walk_pass_on (KeepsBy R) K (keeps_closed R base) (keeps_in_refs R base) keeps_in_refs_under

  pub keeps_inform_of : (x1 : N) → (x2 : ℕ) → (x3 : Value N) → (x4 : Place N) → Keeps R (refs.inform_of K x1 x2 x3 x4)
  keeps_inform_of = walk_inform_of (KeepsBy R) K (keeps_closed R base) (keeps_in_refs R base) keeps_in_refs_under

  pub keeps_send_on : (x1 : N → Value N → Act N (Unit {0})) → GoodSettler R x1 → (x2 : Message N) → Keeps R (refs.send_on K x1 x2)
  keeps_send_on = walk_send_on (KeepsBy R) K (keeps_closed R base) (keeps_in_refs R base) keeps_in_refs_under

  pub keeps_inform : (x1 : N) → (x2 : ℕ) → Keeps R (refs.inform K x1 x2)
  keeps_inform = walk_inform (KeepsBy R) K (keeps_closed R base) (keeps_in_refs R base) keeps_in_refs_under

  pub keeps_settle_at : (x1 : ℕ) → (x2 : N) → (x3 : Value N) → Keeps R (refs.settle_at K x1 x2 x3)
  keeps_settle_at = walk_settle_at (KeepsBy R) K (keeps_closed R base) (keeps_in_refs R base) keeps_in_refs_under keeps_settling

  pub keeps_settle : (x1 : N) → (x2 : Value N) → Keeps R (refs.settle K x1 x2)
  keeps_settle = walk_settle (KeepsBy R) K (keeps_closed R base) (keeps_in_refs R base) keeps_in_refs_under keeps_settling

  pub keeps_resolve : (x1 : N) → (x2 : Value N) → Keeps R (refs.resolve K x1 x2)
  keeps_resolve = walk_resolve (KeepsBy R) K (keeps_closed R base) (keeps_in_refs R base) keeps_in_refs_under keeps_settling

  pub keeps_send : (x1 : ℕ) → (x2 : Value N) → (x3 : Words) → (x4 : List (Value N)) → Keeps R (refs.send K x1 x2 x3 x4)
  keeps_send = walk_send (KeepsBy R) K (keeps_closed R base) (keeps_in_refs R base) keeps_in_refs_under keeps_settling keeps_sending

  pub keeps_send_only : (x1 : ℕ) → (x2 : Value N) → (x3 : Words) → (x4 : List (Value N)) → Keeps R (refs.send_only K x1 x2 x3 x4)
  keeps_send_only = walk_send_only (KeepsBy R) K (keeps_closed R base) (keeps_in_refs R base) keeps_in_refs_under keeps_settling keeps_sending

  pub keeps_react : (x1 : ℕ) → (x2 : Value N) → (x3 : Value N) → (x4 : Value N) → Keeps R (refs.react K x1 x2 x3 x4)
  keeps_react = walk_react (KeepsBy R) K (keeps_closed R base) (keeps_in_refs R base) keeps_in_refs_under keeps_settling keeps_sending

  pub keeps_settle_known : (x1 : N → Value N → Act N (Unit {0})) → GoodSettler R x1 → (x2 : N) → (x3 : Value N) → (x4 : Known N) → Keeps R (refs.settle_known K x1 x2 x3 x4)
  keeps_settle_known = walk_settle_known (KeepsBy R) K (keeps_closed R base) (keeps_in_refs R base) keeps_in_refs_under (λ p y m h. keeps_then R base (keeps_tell R base (Settles p y)) (keeps_then R base (keeps_alter K R law (Settle y) p) h))

  pub keeps_settle_standing : (x1 : N → Value N → Act N (Unit {0})) → GoodSettler R x1 → (x2 : N) → (x3 : Value N) → (x4 : Known N) → (x5 : Standing N) → Keeps R (refs.settle_standing K x1 x2 x3 x4 x5)
  keeps_settle_standing = walk_settle_standing (KeepsBy R) K (keeps_closed R base) (keeps_in_refs R base) keeps_in_refs_under (λ p y m h. keeps_then R base (keeps_tell R base (Settles p y)) (keeps_then R base (keeps_alter K R law (Settle y) p) h))

  pub keeps_settle_entry : (x1 : N → Value N → Act N (Unit {0})) → GoodSettler R x1 → (x2 : N) → (x3 : Value N) → (x4 : Option (Known N)) → Keeps R (refs.settle_entry K x1 x2 x3 x4)
  keeps_settle_entry = walk_settle_entry (KeepsBy R) K (keeps_closed R base) (keeps_in_refs R base) keeps_in_refs_under (λ p y m h. keeps_then R base (keeps_tell R base (Settles p y)) (keeps_then R base (keeps_alter K R law (Settle y) p) h))

  pub keeps_settle_one : (x1 : N → Value N → Act N (Unit {0})) → GoodSettler R x1 → (x2 : N) → (x3 : Value N) → Keeps R (refs.settle_one K x1 x2 x3)
  keeps_settle_one = walk_settle_one (KeepsBy R) K (keeps_closed R base) (keeps_in_refs R base) keeps_in_refs_under (λ p y m h. keeps_then R base (keeps_tell R base (Settles p y)) (keeps_then R base (keeps_alter K R law (Settle y) p) h))

pub ruleset keeps_refs = (keeps, refs_walks, keeps_closed, keeps_in_refs, keeps_in_refs_under, keeps_settling, keeps_sending, keeps_settle_known, keeps_settle_standing, keeps_settle_entry, keeps_settle_one)
