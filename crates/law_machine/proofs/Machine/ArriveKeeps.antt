-- What arrives and what is noticed keep what each single change keeps.
use Rattle.std.proofs.Common.{ℕ, List}
use Rattle.def_machine.specs.Values.{Value, Naming}
use Rattle.def_machine.specs.State.{Standing, Known, Passed, Passeds, Note, GiftEntry, Vat}
use Rattle.def_machine.specs.Refs.{Place}
use Rattle.def_machine.specs.Arrive as arrive
use Rattle.def_machine.specs.Arrive.{Incoming}
use Rattle.def_machine.specs.Receive.{Sight, receive}
use Rattle.law_machine.proofs.Machine.Walks.{InArrive, InArriveUnder}
use Rattle.law_machine.proofs.Machine.Blocks.{arrive_of, arrive_under_of}
use Rattle.law_machine.proofs.Machine.ArriveWalk.{arrive_walks, walk_learn_name, walk_learn, walk_learn_all, walk_make_list, walk_have_gift, walk_break_orphan, walk_tell_asker, walk_arrive_ask, walk_view_there, walk_shorten_to, walk_notice_name, walk_notice_gift, walk_arrive, walk_receive, walk_notice}
use Rattle.law_machine.proofs.Machine.Keeps.{Keeps, KeepsBy, IsKept, IsKeptUnder, keeps_closed, keeps_singles, keeps_singles_under}
use Rattle.law_machine.proofs.Machine.RefsKeeps.{keeps_refs, keeps_in_refs, keeps_in_refs_under, keeps_settling}

module _ {N : Type 0} (R : Vat N → Vat N → Type 0) (base : IsKept R) where
  pub keeps_in_arrive : InArrive (KeepsBy R)
  keeps_in_arrive = arrive_of (KeepsBy R) (keeps_closed R base) (keeps_singles R base)

module _ {N W : Type 0} (K : Naming N W) (R : Vat N → Vat N → Type 0) (base : IsKept R) (law : IsKeptUnder K R) where
  pub keeps_in_arrive_under : InArriveUnder (KeepsBy R) K
  keeps_in_arrive_under = arrive_under_of (KeepsBy R) (keeps_closed R base) (keeps_singles R base) K (keeps_singles_under R base K law)

  pub keeps_learn_name : (x1 : Incoming N W) → Keeps R (arrive.learn_name K x1)
  keeps_learn_name = walk_learn_name (KeepsBy R) K (keeps_closed R base) (keeps_in_refs R base) (keeps_in_refs_under K R base law) (keeps_settling K R base law) (keeps_in_arrive R base) keeps_in_arrive_under

  pub keeps_learn : (p : ℕ) (y : Passed (Incoming N W)) → Keeps R (arrive.learn K p y)
  keeps_learn = walk_learn (KeepsBy R) K (keeps_closed R base) (keeps_in_refs R base) (keeps_in_refs_under K R base law) (keeps_settling K R base law) (keeps_in_arrive R base) keeps_in_arrive_under

  pub keeps_learn_all : (p : ℕ) (ys : Passeds (Incoming N W)) → Keeps R (arrive.learn_all K p ys)
  keeps_learn_all = walk_learn_all (KeepsBy R) K (keeps_closed R base) (keeps_in_refs R base) (keeps_in_refs_under K R base law) (keeps_settling K R base law) (keeps_in_arrive R base) keeps_in_arrive_under

  pub keeps_make_list : (x1 : List (Value N)) → Keeps R (arrive.make_list K x1)
  keeps_make_list = walk_make_list (KeepsBy R) K (keeps_closed R base) (keeps_in_refs R base) (keeps_in_refs_under K R base law) (keeps_settling K R base law) (keeps_in_arrive R base) keeps_in_arrive_under

  pub keeps_have_gift : (x1 : ℕ) → (x2 : ℕ) → Keeps R (arrive.have_gift K x1 x2)
  keeps_have_gift = walk_have_gift (KeepsBy R) K (keeps_closed R base) (keeps_in_refs R base) (keeps_in_refs_under K R base law) (keeps_settling K R base law) (keeps_in_arrive R base) keeps_in_arrive_under

  pub keeps_break_orphan : (x1 : ℕ) → (x2 : ℕ) → (x3 : N) → Keeps R (arrive.break_orphan K x1 x2 x3)
  keeps_break_orphan = walk_break_orphan (KeepsBy R) K (keeps_closed R base) (keeps_in_refs R base) (keeps_in_refs_under K R base law) (keeps_settling K R base law) (keeps_in_arrive R base) keeps_in_arrive_under

  pub keeps_tell_asker : (x1 : N) → (x2 : ℕ) → (x3 : Standing N) → Keeps R (arrive.tell_asker K x1 x2 x3)
  keeps_tell_asker = walk_tell_asker (KeepsBy R) K (keeps_closed R base) (keeps_in_refs R base) (keeps_in_refs_under K R base law) (keeps_settling K R base law) (keeps_in_arrive R base) keeps_in_arrive_under

  pub keeps_arrive_ask : (x1 : ℕ) → (x2 : ℕ) → (x3 : ℕ) → Keeps R (arrive.arrive_ask K x1 x2 x3)
  keeps_arrive_ask = walk_arrive_ask (KeepsBy R) K (keeps_closed R base) (keeps_in_refs R base) (keeps_in_refs_under K R base law) (keeps_settling K R base law) (keeps_in_arrive R base) keeps_in_arrive_under

  pub keeps_view_there : (x1 : N) → (x2 : ℕ) → Keeps R (arrive.view_there K x1 x2)
  keeps_view_there = walk_view_there (KeepsBy R) K (keeps_closed R base) (keeps_in_refs R base) (keeps_in_refs_under K R base law) (keeps_settling K R base law) (keeps_in_arrive R base) keeps_in_arrive_under

  pub keeps_shorten_to : (x1 : ℕ) → (x2 : Place N) → Keeps R (arrive.shorten_to K x1 x2)
  keeps_shorten_to = walk_shorten_to (KeepsBy R) K (keeps_closed R base) (keeps_in_refs R base) (keeps_in_refs_under K R base law) (keeps_settling K R base law) (keeps_in_arrive R base) keeps_in_arrive_under

  pub keeps_notice_name : (x1 : ℕ) → (x2 : Known N) → Keeps R (arrive.notice_name K x1 x2)
  keeps_notice_name = walk_notice_name (KeepsBy R) K (keeps_closed R base) (keeps_in_refs R base) (keeps_in_refs_under K R base law) (keeps_settling K R base law) (keeps_in_arrive R base) keeps_in_arrive_under

  pub keeps_notice_gift : (x1 : ℕ) → (x2 : GiftEntry N) → Keeps R (arrive.notice_gift K x1 x2)
  keeps_notice_gift = walk_notice_gift (KeepsBy R) K (keeps_closed R base) (keeps_in_refs R base) (keeps_in_refs_under K R base law) (keeps_settling K R base law) (keeps_in_arrive R base) keeps_in_arrive_under

  pub keeps_receive : (sight : Sight N) (from : ℕ) (n : Note (Incoming N W)) → Keeps R (receive K sight from n)
  keeps_receive = walk_receive (KeepsBy R) K (keeps_closed R base) (keeps_in_refs R base) (keeps_in_refs_under K R base law) (keeps_settling K R base law) (keeps_in_arrive R base) keeps_in_arrive_under

  pub keeps_arrive : (x1 : ℕ) → (x2 : Note (Incoming N W)) → Keeps R (arrive.arrive K x1 x2)
  keeps_arrive = walk_arrive (KeepsBy R) K (keeps_closed R base) (keeps_in_refs R base) (keeps_in_refs_under K R base law) (keeps_settling K R base law) (keeps_in_arrive R base) keeps_in_arrive_under

  pub keeps_notice : (x1 : ℕ) → Keeps R (arrive.notice K x1)
  keeps_notice = walk_notice (KeepsBy R) K (keeps_closed R base) (keeps_in_refs R base) (keeps_in_refs_under K R base law) (keeps_settling K R base law) (keeps_in_arrive R base) keeps_in_arrive_under

pub ruleset keeps_arrive_all = (keeps_refs, arrive_walks, keeps_in_arrive, keeps_in_arrive_under)
