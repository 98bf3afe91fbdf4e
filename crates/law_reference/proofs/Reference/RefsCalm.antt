-- Everything that a vat does with references leads as calm changes lead, as the sending on of a message leads, and as the wait behind the test for a cycle.
use Rattle.std.proofs.Common.{◌≡◌, ℕ, zero, suc, Bool, true, false, List, [], ◌∷◌, Option, Some, None, refl}
use Rattle.def_machine.specs.Values.{Words, Value, Broken, Ref, Naming, Null}
use Rattle.def_machine.specs.State.{Message, Standing, Settled, Known, Passed, Passeds, Plain, AGift, Many, NoMore, More, Vat, Done, Act, Sends, ◌>>=◌, ◌>>◌, and_then, give, look, tell, new_message, new_lone_message}
use Rattle.def_machine.specs.Refs as refs
use Rattle.def_machine.specs.Refs.{Place, Near, Mine, Away, Gone, entry_of, place}
use Rattle.law_fate.specs.Name.Names.{AllOf}
use Rattle.law_reference.proofs.Reference.Gentle.{GivesBy, Gentle, goes_then, goes_give, goes_tell, goes_each, goes_each_of, goes_enqueue, goes_some}
use Rattle.law_reference.proofs.Reference.Calm.{IsCalm, CalmWith, calm, calm_hold, calm_settled}

abbrev pub GoodSettler : {N : Type 0} → (Vat N → Vat N → Type 0) → (N → Value N → Act N (Unit {0})) → Type 0
GoodSettler {N} R settle = (p : N) (y : Value N) → Gentle R (settle p y)

module _ {N W : Type 0} (K : Naming N W) (G : N → Option N → Type 0) (R : Vat N → Vat N → Type 0) (law : IsCalm K G R) where
  pub calm_address_plain : (x1 : ℕ) → (x2 : Value N) → (x3 : Place N) → Gentle R (refs.address_plain K x1 x2 x3)
  unfolding refs.address_plain
  calm_address_plain w y (Away h n o) = search (calm) depth 14
  calm_address_plain w y (Mine n) = search (calm) depth 14
  calm_address_plain w y _ = search (calm) depth 14

  mutual
    unfolding refs.address refs.address_all

    pub calm_address : (w : ℕ) (y : Passed N) → Gentle R (refs.address K w y)
    calm_address w (Plain y) = search (calm, calm_address_plain) depth 14
    calm_address w (AGift h i) = search calm
    calm_address w (Many ys) = let rest = calm_address_all w ys in search calm

    pub calm_address_all : (w : ℕ) (ys : Passeds N) → Gentle R (refs.address_all K w ys)
    calm_address_all w NoMore = search calm
    calm_address_all w (More y ys) = let one = calm_address w y in let rest = calm_address_all w ys in search calm

  pub calm_pass : (x1 : ℕ) → (x2 : Value N) → Gentle R (refs.pass K x1 x2)
  unfolding refs.pass
  calm_pass w x = search (calm, calm_address) depth 14

  pub calm_pass_all : (x1 : ℕ) → (x2 : List (Value N)) → Gentle R (refs.pass_all K x1 x2)
  unfolding refs.pass_all
  calm_pass_all w [] = search calm
  calm_pass_all w (x ∷ xs) = let rest = calm_pass_all w xs in search (calm, calm_pass) depth 14

  pub calm_deliver : (x1 : Message N) → (x2 : ℕ) → (x3 : N) → Gentle R (refs.deliver K x1 x2 x3)
  unfolding refs.deliver
  calm_deliver m h n = search (calm, calm_pass_all) depth 14

  pub calm_inform_of : (x1 : N) → (x2 : ℕ) → (x3 : Value N) → (x4 : Place N) → Gentle R (refs.inform_of K x1 x2 x3 x4)
  unfolding refs.inform_of
  calm_inform_of p w y (Away h n true) = search (calm) depth 14
  calm_inform_of p w y _ = search (calm, calm_pass) depth 14

  pub calm_inform : (x1 : N) → (x2 : ℕ) → Gentle R (refs.inform K x1 x2)
  unfolding refs.inform
  calm_inform p w = search (calm, calm_inform_of) depth 14

-- a message that is sent on to another host
abbrev pub PassesBy : {N W : Type 0} → Naming N W → (N → Option N → Type 0) → (ℕ → Type 0) → (Vat N → Vat N → Type 0) → Type 0
PassesBy {N} K G Far R = (m : Message N) (h : ℕ) (n : N) → G m.id m.answer → Far h → Gentle R (refs.pass_on K m h n)

-- what may be asked of a state: that held messages are good, that what is placed elsewhere is far, and that a new message with its answer here is good
pub record Minds {N W : Type 0} (K : Naming N W) (G : N → Option N → Type 0) (Far : ℕ → Type 0) (R : Vat N → Vat N → Type 0) : Type 0 where
  pub found : (s : Vat N) (p : N) (k : Known N) (d : Done N (Unit {0})) → entry_of K s.known p ≡ Some k → (AllOf (λ (m : Message N). G m.id m.answer) k.held → GivesBy R s d) → GivesBy R s d
  pub far : (s : Vat N) (y : Value N) (h : ℕ) (n : N) (o : Bool) (d : Done N (Unit {0})) → place K s y ≡ Away h n o → (Far h → GivesBy R s d) → GivesBy R s d
  pub sent : (s : Vat N) (f : N × N → Act N (Value N)) → ((id a : N) → G id (Some a) → Gentle R (f (id, a))) → GivesBy R s ((new_message K s.number >>= f) s)
  pub lone : (s : Vat N) (f : N → Act N (Value N)) → ((id : N) → G id None → Gentle R (f id)) → GivesBy R s ((new_lone_message K >>= f) s)

module _ {N W : Type 0} (K : Naming N W) (G : N → Option N → Type 0) (Far : ℕ → Type 0) (R : Vat N → Vat N → Type 0) (law : IsCalm K G R) (minds : Minds K G Far R) (passes : PassesBy K G Far R) where
  -- what is away is far
  abbrev pub IsFarPlace : Place N → Type 0
  IsFarPlace (Away h n o) = Far h
  IsFarPlace other = Unit {0}

  pub calm_send_to : (settle : N → Value N → Act N (Unit {0})) → GoodSettler R settle → (m : Message N) → G m.id m.answer → (y : Value N) (p : Place N) → IsFarPlace p → Gentle R (refs.send_to K settle m y p)
  unfolding refs.send_to
  calm_send_to settle good m g y Near f = goes_enqueue K (CalmWith G) R law _
  calm_send_to settle good m g y (Mine n) f = calm_hold K G R law _ n g
  calm_send_to settle good m g y (Away h n o) f = passes m h n g f
  calm_send_to settle good m g y (Gone p) f = goes_then K (CalmWith G) R law (goes_tell K (CalmWith G) R law _) (goes_some K (CalmWith G) R law m.answer (λ a. good a (Broken p)) (goes_give K (CalmWith G) R law tt))

  send_placed : (settle : N → Value N → Act N (Unit {0})) → GoodSettler R settle → (m : Message N) → G m.id m.answer → (s : Vat N) (y : Value N) (p : Place N) → place K s y ≡ p → GivesBy R s (refs.send_to K settle m y p s)
  send_placed settle good m g s y (Away h n o) e = minds.far s y h n o _ e (λ f. (calm_send_to settle good m g y (Away h n o) f).after s)
  send_placed settle good m g s y Near e = (calm_send_to settle good m g y Near tt).after s
  send_placed settle good m g s y (Mine n) e = (calm_send_to settle good m g y (Mine n) tt).after s
  send_placed settle good m g s y (Gone p) e = (calm_send_to settle good m g y (Gone p) tt).after s

  pub calm_send_on : (settle : N → Value N → Act N (Unit {0})) → GoodSettler R settle → (m : Message N) → G m.id m.answer → Gentle R (refs.send_on K settle m)
  unfolding refs.send_on ◌>>=◌ look and_then
  calm_send_on settle good m g = record { after = λ s. send_placed settle good m g s (refs.follow K s m.target) (place K s (refs.follow K s m.target)) refl }

  abbrev AllHeld : Known N → Type 0
  AllHeld k = AllOf (λ (m : Message N). G m.id m.answer) k.held

  calm_settle_known : (settle : N → Value N → Act N (Unit {0})) → GoodSettler R settle → (p : N) (y : Value N) (k : Known N) → AllHeld k → Gentle R (refs.settle_known K settle p y k)
  unfolding refs.settle_known
  calm_settle_known settle good p y k h = goes_then K (CalmWith G) R law (goes_tell K (CalmWith G) R law _) (goes_then K (CalmWith G) R law (calm_settled K G R law y p) (goes_then K (CalmWith G) R law (goes_each_of K (CalmWith G) R law (λ (m : Message N). G m.id m.answer) k.held h (λ m g. calm_send_on settle good m g))
      (goes_then K (CalmWith G) R law (goes_each K (CalmWith G) R law k.waiting (λ q. good q y)) (goes_then K (CalmWith G) R law (goes_each K (CalmWith G) R law k.reactions (λ m. goes_enqueue K (CalmWith G) R law m)) (goes_each K (CalmWith G) R law k.told (λ w. calm_inform K G R law p w))))))

  calm_settle_standing : (settle : N → Value N → Act N (Unit {0})) → GoodSettler R settle → (p : N) (y : Value N) (k : Known N) (t : Standing N) → AllHeld k → Gentle R (refs.settle_standing K settle p y k t)
  unfolding refs.settle_standing
  calm_settle_standing settle good p y k (Settled z) h = goes_give K (CalmWith G) R law tt
  calm_settle_standing settle good p y k other h = calm_settle_known settle good p y k h

  settle_found : (settle : N → Value N → Act N (Unit {0})) → GoodSettler R settle → (p : N) (y : Value N) (s : Vat N) (o : Option (Known N)) → entry_of K s.known p ≡ o → GivesBy R s (refs.settle_entry K settle p y o s)
  unfolding refs.settle_entry
  settle_found settle good p y s None e = (goes_give K (CalmWith G) R law tt).after s
  settle_found settle good p y s (Some k) e = minds.found s p k _ e (λ h. (calm_settle_standing settle good p y k k.standing h).after s)

  calm_settle_one : (settle : N → Value N → Act N (Unit {0})) → GoodSettler R settle → (p : N) (y : Value N) → Gentle R (refs.settle_one K settle p y)
  unfolding refs.settle_one ◌>>=◌ look and_then
  calm_settle_one settle good p y = record { after = λ s. settle_found settle good p (refs.target_of K s p y) s (entry_of K s.known p) refl }

  calm_settle_at : (d : ℕ) (p : N) (y : Value N) → Gentle R (refs.settle_at K d p y)
  unfolding refs.settle_at
  calm_settle_at zero p y = search calm
  calm_settle_at (suc d) p y = calm_settle_one (λ q z. refs.settle_at K d q z) (λ q z. calm_settle_at d q z) p y

  pub calm_settle : (p : N) (y : Value N) → Gentle R (refs.settle K p y)
  unfolding refs.settle
  calm_settle p y = search (calm, calm_settle_at) depth 14

-- a name that is to wait on another, unless that closes a cycle
abbrev pub WaitsBy : {N W : Type 0} → Naming N W → (Vat N → Vat N → Type 0) → Type 0
WaitsBy {N} K R = (p q : N) → Gentle R (refs.wait_unless_cycle K p q)

module _ {N W : Type 0} (K : Naming N W) (G : N → Option N → Type 0) (Far : ℕ → Type 0) (R : Vat N → Vat N → Type 0) (law : IsCalm K G R) (minds : Minds K G Far R) (passes : PassesBy K G Far R) (waits : WaitsBy K R) where
  pub calm_resolve_to : (x1 : N) → (x2 : Value N) → (x3 : Place N) → Gentle R (refs.resolve_to K x1 x2 x3)
  unfolding refs.resolve_to
  calm_resolve_to p y (Mine q) = search (calm, waits) depth 14
  calm_resolve_to p y (Away h q false) = search (calm, waits) depth 14
  calm_resolve_to p y _ = search (calm, calm_settle) depth 14

  pub calm_resolve : (x1 : N) → (x2 : Value N) → Gentle R (refs.resolve K x1 x2)
  unfolding refs.resolve
  calm_resolve p x = search (calm, calm_resolve_to) depth 14

  -- the message is made and goes out
  abbrev Sending : ℕ → ℕ → Value N → Value N → Words → List (Value N) → Place N → Act N (Value N)
  Sending act v x y verb args p = new_message K (refs.answer_host K v p) >>= (λ new. tell (Sends act (record { id = new.0; target = x; verb = verb; args = args; answer = Some new.1 }))
      >> (refs.send_first K (record { id = new.0; target = y; verb = verb; args = args; answer = Some new.1 }) y p >> give (Ref new.1)))

  calm_sends_away : (h : ℕ) (n : N) (o : Bool) (act v : ℕ) (x y : Value N) (verb : Words) (args : List (Value N)) → Gentle R (Sending act v x y verb args (Away h n o))
  unfolding refs.send_first
  calm_sends_away h n o act v x y verb args = search (calm, calm_deliver) depth 14

  -- a message whose target is not away
  calm_sends_here : (act : ℕ) (x y : Value N) (verb : Words) (args : List (Value N)) (p : Place N) (id : N) (a : Option N) (z : Value N) → G id a → IsFarPlace K G Far R law minds passes p
      → Gentle R (tell (Sends act (record { id = id; target = x; verb = verb; args = args; answer = a })) >> (refs.send_to K (refs.settle K) (record { id = id; target = y; verb = verb; args = args; answer = a }) y p >> give z))
  calm_sends_here act x y verb args p id a z g f = goes_then K (CalmWith G) R law (goes_tell K (CalmWith G) R law _) (goes_then K (CalmWith G) R law (calm_send_to K G Far R law minds passes (refs.settle K) (λ q z. calm_settle K G Far R law minds passes q z) _ g y p f) (goes_give K (CalmWith G) R law _))

  sent_placed : (act : ℕ) (x y : Value N) (verb : Words) (args : List (Value N)) (p : Place N) (s : Vat N) → GivesBy R s (Sending act s.number x y verb args p s)
  unfolding refs.send_first refs.answer_host
  sent_placed act x y verb args (Away h n o) s = (calm_sends_away h n o act s.number x y verb args).after s
  sent_placed act x y verb args Near s = minds.sent s _ (λ id a g. calm_sends_here act x y verb args Near id (Some a) (Ref a) g tt)
  sent_placed act x y verb args (Mine n) s = minds.sent s _ (λ id a g. calm_sends_here act x y verb args (Mine n) id (Some a) (Ref a) g tt)
  sent_placed act x y verb args (Gone t) s = minds.sent s _ (λ id a g. calm_sends_here act x y verb args (Gone t) id (Some a) (Ref a) g tt)

  pub calm_send : (act : ℕ) (x : Value N) (verb : Words) (args : List (Value N)) → Gentle R (refs.send K act x verb args)
  unfolding refs.send ◌>>=◌ look and_then
  calm_send act x verb args = record { after = λ s. sent_placed act x (refs.follow K s x) verb args (place K s (refs.follow K s x)) s }

  abbrev SendingOnly : ℕ → Value N → Value N → Words → List (Value N) → Place N → Act N (Value N)
  SendingOnly act x y verb args p = new_lone_message K >>= (λ id. tell (Sends act (record { id = id; target = x; verb = verb; args = args; answer = None }))
      >> (refs.send_first K (record { id = id; target = y; verb = verb; args = args; answer = None }) y p >> give Null))

  calm_lone_away : (h : ℕ) (n : N) (o : Bool) (act : ℕ) (x y : Value N) (verb : Words) (args : List (Value N)) → Gentle R (SendingOnly act x y verb args (Away h n o))
  unfolding refs.send_first
  calm_lone_away h n o act x y verb args = search (calm, calm_deliver) depth 14

  lone_placed : (act : ℕ) (x y : Value N) (verb : Words) (args : List (Value N)) (p : Place N) (s : Vat N) → GivesBy R s (SendingOnly act x y verb args p s)
  unfolding refs.send_first
  lone_placed act x y verb args (Away h n o) s = (calm_lone_away h n o act x y verb args).after s
  lone_placed act x y verb args Near s = minds.lone s _ (λ id g. calm_sends_here act x y verb args Near id None Null g tt)
  lone_placed act x y verb args (Mine n) s = minds.lone s _ (λ id g. calm_sends_here act x y verb args (Mine n) id None Null g tt)
  lone_placed act x y verb args (Gone t) s = minds.lone s _ (λ id g. calm_sends_here act x y verb args (Gone t) id None Null g tt)

  pub calm_send_only : (act : ℕ) (x : Value N) (verb : Words) (args : List (Value N)) → Gentle R (refs.send_only K act x verb args)
  unfolding refs.send_only ◌>>=◌ look and_then
  calm_send_only act x verb args = record { after = λ s. lone_placed act x (refs.follow K s x) verb args (place K s (refs.follow K s x)) s }

  pub calm_react_at : (x1 : Message N) → (x2 : Place N) → Gentle R (refs.react_at K x1 x2)
  unfolding refs.react_at
  calm_react_at m (Mine n) = search (calm) depth 14
  calm_react_at m (Away h n false) = search (calm) depth 14
  calm_react_at m _ = search (calm) depth 14

  pub calm_react : (x1 : ℕ) → (x2 : Value N) → (x3 : Value N) → (x4 : Value N) → Gentle R (refs.react K x1 x2 x3 x4)
  unfolding refs.react
  calm_react act x o near = search (calm, calm_react_at) depth 14
