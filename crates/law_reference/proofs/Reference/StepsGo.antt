-- What arrives, but for the news that a name settled elsewhere and for messages, what a notice breaks, and turns lead as single changes do and as what is done with references.
use Rattle.std.proofs.Common.{ℕ, suc, Bool, true, false, List, [], ◌∷◌, ◌++◌, Option, Some, None}
use Rattle.def_machine.specs.Values.{Words, Value, Broken, Ref, Naming}
use Rattle.def_machine.specs.State.{Change, ToTell, Binding, Cell, Thing, Message, Took, Standing, Viewed, Settled, Known, Passed, Passeds, Plain, AGift, Many, NoMore, More, GiftEntry, Vat, alter, mark, change, dead, holding, new_activation}
use Rattle.def_machine.specs.Refs as refs
use Rattle.def_machine.specs.Refs.{Place, Away}
use Rattle.def_machine.specs.Arrive as arrive
use Rattle.def_machine.specs.Arrive.{Incoming, Old, New}
use Rattle.def_machine.specs.Eval as eval
use Rattle.def_kernel.specs.declared.node.Node.{Node}
use Rattle.law_machine.proofs.Machine.RefsQuiet.{quiet_settle, quiet_resolve, quiet_send, quiet_send_only, quiet_react}
use Rattle.law_fate.proofs.Fates.Leads.{IsLed, IsLedUnder}
use Rattle.law_fate.proofs.Fates.TurnLeads.{good_evaluator, leads_turn_value, leads_closes, leads_opening}
use Rattle.law_reference.proofs.Reference.Gentle.{Gentle, GoesBy, Any, goes, goes_bind, goes_then, goes_tell, gentle_leads, leads_gentle}

-- what is to be shown of what is done with references
pub record Refers {N W : Type 0} (K : Naming N W) (R : Vat N → Vat N → Type 0) : Type 0 where
  pub tells : (w : ℕ) (n : N) → Gentle R (alter K (ToTell w) n)
  pub informs : (p : N) (w : ℕ) → Gentle R (refs.inform K p w)
  pub settles : (p : N) (y : Value N) → Gentle R (refs.settle K p y)
  pub resolves : (p : N) (y : Value N) → Gentle R (refs.resolve K p y)
  pub sends : (act : ℕ) (x : Value N) (verb : Words) (args : List (Value N)) → Gentle R (refs.send K act x verb args)
  pub sends_only : (act : ℕ) (x : Value N) (verb : Words) (args : List (Value N)) → Gentle R (refs.send_only K act x verb args)
  pub reacts : (act : ℕ) (x o near : Value N) → Gentle R (refs.react K act x o near)

-- what is to be shown of the changes that evaluation alone makes
pub record IsFree {N : Type 0} (R : Vat N → Vat N → Type 0) : Type 0 where
  pub activations : (s : Vat N) → R s (record s { activations = suc s.activations })
  pub thing : (s : Vat N) (t : Thing N) → R s (record s { things = s.things ++ t ∷ [] })
  pub killed : (s : Vat N) (n : ℕ) → R s (record s { things = change dead n s.things })
  pub slot : (s : Vat N) (c : Cell N) → R s (record s { slots = s.slots ++ c ∷ [] })
  pub written : (s : Vat N) (n : ℕ) (v : Value N) → R s (record s { slots = change (holding v) n s.slots })

module _ {N W : Type 0} (K : Naming N W) (Can : Change N → Type 0) (R : Vat N → Vat N → Type 0) (law : GoesBy K Can R) (refers : Refers K R) where
  refer_to_tell : (w : ℕ) (n : N) → Gentle R (alter K (ToTell w) n)
  refer_to_tell w n = refers.tells w n

  refer_inform : (p : N) (w : ℕ) → Gentle R (refs.inform K p w)
  refer_inform p w = refers.informs p w

  refer_settle : (p : N) (y : Value N) → Gentle R (refs.settle K p y)
  refer_settle p y = refers.settles p y

  refer_resolve : (p : N) (y : Value N) → Gentle R (refs.resolve K p y)
  refer_resolve p y = refers.resolves p y

  -- ---- what arrives, and what a notice breaks

  pub goes_learn_name : (x1 : Incoming N W) → Gentle R (arrive.learn_name K x1)
  unfolding arrive.learn_name
  goes_learn_name (Old n) = search goes depth 14
  goes_learn_name (New x h) = search goes depth 14

  pub goes_learn_value : (x1 : Value (Incoming N W)) → Gentle R (arrive.learn_value K x1)
  unfolding arrive.learn_value
  goes_learn_value (Ref x) = search (goes, goes_learn_name) depth 14
  goes_learn_value other = search goes depth 14

  pub goes_ask_for : (x1 : ℕ) → (x2 : ℕ) → (x3 : ℕ) → (x4 : N) → Gentle R (arrive.ask_for K x1 x2 x3 x4)
  unfolding arrive.ask_for
  goes_ask_for p h i n = search (goes, refer_settle) depth 14

  pub goes_learn_gift : (x1 : ℕ) → (x2 : ℕ) → (x3 : ℕ) → Gentle R (arrive.learn_gift K x1 x2 x3)
  unfolding arrive.learn_gift
  goes_learn_gift p h i = search (goes, goes_ask_for) depth 14

  pub goes_make_list : (x1 : List (Value N)) → Gentle R (arrive.make_list K x1)
  unfolding arrive.make_list
  goes_make_list vs = search goes depth 14

  mutual
    unfolding arrive.learn arrive.learn_all

    pub goes_learn : (p : ℕ) (y : Passed (Incoming N W)) → Gentle R (arrive.learn K p y)
    goes_learn p (Plain y) = search (goes, goes_learn_value) depth 14
    goes_learn p (AGift h i) = search (goes, goes_learn_gift)
    goes_learn p (Many ys) = let rest = goes_learn_all p ys in search (goes, goes_make_list)

    pub goes_learn_all : (p : ℕ) (ys : Passeds (Incoming N W)) → Gentle R (arrive.learn_all K p ys)
    goes_learn_all p NoMore = search goes
    goes_learn_all p (More y ys) = let one = goes_learn p y in let rest = goes_learn_all p ys in search goes

  pub goes_gift_or_new : (x1 : ℕ) → (x2 : ℕ) → (x3 : ℕ) → (x4 : Option (GiftEntry N)) → Gentle R (arrive.gift_or_new K x1 x2 x3 x4)
  unfolding arrive.gift_or_new
  goes_gift_or_new v p i (Some g) = search goes depth 14
  goes_gift_or_new v p i None = search goes depth 14

  pub goes_have_gift : (x1 : ℕ) → (x2 : ℕ) → Gentle R (arrive.have_gift K x1 x2)
  unfolding arrive.have_gift
  goes_have_gift p i = search (goes, goes_gift_or_new) depth 14

  pub goes_break_at : (x1 : N) → (x2 : Words) → (x3 : Standing N) → Gentle R (arrive.break_at K x1 x2 x3)
  unfolding arrive.break_at
  goes_break_at n p (Settled y) = search goes depth 14
  goes_break_at n p _ = search (goes, refer_settle) depth 14

  pub goes_break_unopened : (x1 : N) → (x2 : Bool) → Gentle R (arrive.break_unopened K x1 x2)
  unfolding arrive.break_unopened
  goes_break_unopened n true = search goes depth 14
  goes_break_unopened n false = search (goes, goes_break_at) depth 14

  pub goes_tell_asker : (x1 : N) → (x2 : ℕ) → (x3 : Standing N) → Gentle R (arrive.tell_asker K x1 x2 x3)
  unfolding arrive.tell_asker
  goes_tell_asker n w (Settled y) = search (goes, refer_inform) depth 14
  goes_tell_asker n w _ = search (goes, refer_to_tell) depth 14

  pub goes_arrive_open : (x1 : ℕ) → (x2 : ℕ) → (x3 : Incoming N W) → Gentle R (arrive.arrive_open K x1 x2 x3)
  unfolding arrive.arrive_open
  goes_arrive_open from i x = search (goes, goes_learn_name, goes_have_gift, refer_resolve) depth 14

  pub goes_break_orphan : (x1 : ℕ) → (x2 : ℕ) → (x3 : N) → Gentle R (arrive.break_orphan K x1 x2 x3)
  unfolding arrive.break_orphan
  goes_break_orphan p i n = search (goes, goes_break_unopened) depth 14

  pub goes_arrive_ask : (x1 : ℕ) → (x2 : ℕ) → (x3 : ℕ) → Gentle R (arrive.arrive_ask K x1 x2 x3)
  unfolding arrive.arrive_ask
  goes_arrive_ask from p i = search (goes, goes_have_gift, goes_break_orphan, goes_tell_asker) depth 14

  pub goes_arrive_settled : (x1 : ℕ) → (x2 : Incoming N W) → (x3 : Passed (Incoming N W)) → Gentle R (arrive.arrive_settled K x1 x2 x3)
  unfolding arrive.arrive_settled
  goes_arrive_settled from x y = search (goes, goes_learn_name, goes_learn, refer_settle) depth 14

  pub goes_gift_there : (x1 : ℕ) → (x2 : ℕ) → (x3 : ℕ) → (x4 : ℕ) → Gentle R (arrive.gift_there K x1 x2 x3 x4)
  unfolding arrive.gift_there
  goes_gift_there v h c i = search (goes, goes_have_gift) depth 14

  pub goes_shorten_to : (x1 : ℕ) → (x2 : Place N) → Gentle R (arrive.shorten_to K x1 x2)
  unfolding arrive.shorten_to
  goes_shorten_to i (Away h n true) = search goes depth 14
  goes_shorten_to i _ = search goes depth 14

  pub goes_arrive_shorten : (x1 : Incoming N W) → (x2 : ℕ) → Gentle R (arrive.arrive_shorten K x1 x2)
  unfolding arrive.arrive_shorten
  goes_arrive_shorten x i = search (goes, goes_learn_name, goes_shorten_to) depth 14

  pub goes_break_hosted : (x1 : ℕ) → (x2 : N) → (x3 : Words) → (x4 : Standing N) → Gentle R (arrive.break_hosted K x1 x2 x3 x4)
  unfolding arrive.break_hosted
  goes_break_hosted w n p (Viewed q) = search goes depth 14
  goes_break_hosted w n p (Settled y) = search goes depth 14
  goes_break_hosted w n p other = search (goes, refer_settle) depth 14

  pub goes_notice_name : (x1 : ℕ) → (x2 : Known N) → Gentle R (arrive.notice_name K x1 x2)
  unfolding arrive.notice_name
  goes_notice_name w k = search (goes, goes_break_hosted) depth 14

  pub goes_notice_gift : (x1 : ℕ) → (x2 : GiftEntry N) → Gentle R (arrive.notice_gift K x1 x2)
  unfolding arrive.notice_gift
  goes_notice_gift w g = search (goes, goes_break_unopened) depth 14

  module _ (marks : (w : ℕ) → Gentle R (mark w)) where
    goes_notice_all : (w : ℕ) → Gentle R (arrive.notice_all K w)
    unfolding arrive.notice_all
    goes_notice_all w = search (goes, marks, goes_notice_name, goes_notice_gift) depth 14

    pub goes_notice : (w : ℕ) → Gentle R (arrive.notice K w)
    unfolding arrive.notice
    goes_notice w = search (goes, goes_notice_all) depth 14

  -- ---- turns

  module _ (free : IsFree R) where
    led : IsLed Any R
    led = record {
      same = law.same;
      trans = law.trans;
      stops = λ s. tt;
      stopped = λ h k. tt;
      fuel = law.fuel;
      told = λ s e h. law.happened s e;
      activations = free.activations;
      thing = free.thing;
      killed = free.killed;
      slot = free.slot;
      written = free.written;
      list = law.list;
    }

    led_under : IsLedUnder K Any R
    led_under = record {
      promised = law.promised;
      breaks = λ p t. leads_gentle R (refs.settle K p (Broken t)) (quiet_settle K p (Broken t)) (refers.settles p (Broken t));
      resolves = λ p y. leads_gentle R (refs.resolve K p y) (quiet_resolve K p y) (refers.resolves p y);
      sends = λ act x verb args. leads_gentle R (refs.send K act x verb args) (quiet_send K act x verb args) (refers.sends act x verb args);
      sends_only = λ act x verb args. leads_gentle R (refs.send_only K act x verb args) (quiet_send_only K act x verb args) (refers.sends_only act x verb args);
      reacts = λ act x o near. leads_gentle R (refs.react K act x o near) (quiet_react K act x o near) (refers.reacts act x o near);
    }

    activation : Gentle R new_activation
    unfolding new_activation
    activation = record { after = free.activations }

    pub goes_taking : (tree : List Node) (depth : ℕ) (m : Message N) → Gentle R (eval.taking K tree depth m)
    unfolding eval.taking
    goes_taking tree depth m = goes_bind K Can R law activation (λ a. goes_then K Can R law (goes_tell K Can R law (Took a m))
        (gentle_leads R _ (leads_closes K Any R led led_under tree a m.answer _ (leads_turn_value K Any R led led_under tree (eval.evaluator K tree depth) (good_evaluator K Any R led led_under tree depth) a m.target m.verb m.args))))

    pub goes_opening : (tree : List Node) (depth : ℕ) (root : N) (given : List (Binding N)) → Gentle R (eval.opening K tree depth root given)
    goes_opening tree depth root given = gentle_leads R _ (leads_opening K Any R led led_under tree depth root given)
