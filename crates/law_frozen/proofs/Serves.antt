-- What evaluation does with references and promises, each as one thing: so that evaluation is gone over once for all that is kept.
use Rattle.std.proofs.Common.{◌≡◌, ℕ, List}
use Rattle.def_machine.specs.Values.{Words, Value, Broken, Naming}
use Rattle.def_machine.specs.State.{Unsettled, Vat, new_promise}
use Rattle.def_machine.specs.Refs.{standing_of, settle, resolve, send, send_only, react}
use Rattle.law_frozen.proofs.Fine.{Keeper, Loose, Fact, IsValue, AreValues, nothing, resolvable, Holds, Gets, Ends, Fine, fine_promise, got_broken}
use Rattle.law_frozen.proofs.FineRefs.{loose_tells, fine_settle, fine_resolve, fine_send, fine_send_only, fine_react}

pub record Serves {N W : Type 0} (K : Naming N W) (M : Keeper K) : Type 0 where
  pub promises : (C : Fact N) → Fine K M C (new_promise K) resolvable
  -- a promise of a resolver, that did neither settle nor wait, breaks or is resolved
  pub smashes : (C : Fact N) (p : N) (t : Words) → Gets K C (resolvable p) → (s : Vat N) → M.holds s → Holds K s.things s.lists C → standing_of K s.known p ≡ Unsettled → Ends K M nothing s (settle K p (Broken t) s)
  pub resolves : (C : Fact N) (p : N) (y : Value N) → Gets K C (resolvable p) → Gets K C (IsValue y) → (s : Vat N) → M.holds s → Holds K s.things s.lists C → standing_of K s.known p ≡ Unsettled → Ends K M nothing s (resolve K p y s)
  pub sends : (C : Fact N) (act : ℕ) (x : Value N) → Gets K C (IsValue x) → (verb : Words) (args : List (Value N)) → Gets K C (AreValues args) → Fine K M C (send K act x verb args) IsValue
  pub sends_only : (C : Fact N) (act : ℕ) (x : Value N) → Gets K C (IsValue x) → (verb : Words) (args : List (Value N)) → Gets K C (AreValues args) → Fine K M C (send_only K act x verb args) IsValue
  pub reacts : (C : Fact N) (act : ℕ) (x : Value N) → Gets K C (IsValue x) → (o : Value N) → Gets K C (IsValue o) → (near : Value N) → Gets K C (IsValue near) → Fine K M C (react K act x o near) IsValue

-- a turn ends by resolving that name, or breaks it where it throws
pub record Closing {N W : Type 0} (K : Naming N W) (M : Keeper K) (p : N) : Type 0 where
  pub breaks : (C : Fact N) (t : Words) → Fine K M C (settle K p (Broken t)) nothing
  pub closes : (C : Fact N) (y : Value N) → Gets K C (IsValue y) → Fine K M C (resolve K p y) nothing

module _ {N W : Type 0} (K : Naming N W) (M : Keeper K) (serves : Serves K M) where
  pub serve_promise : {C : Fact N} → Fine K M C (new_promise K) resolvable
  serve_promise {C = C} = serves.promises C

  pub serve_send : {C : Fact N} (act : ℕ) (x : Value N) → Gets K C (IsValue x) → (verb : Words) (args : List (Value N)) → Gets K C (AreValues args) → Fine K M C (send K act x verb args) IsValue
  serve_send {C = C} act x g verb args h = serves.sends C act x g verb args h

  pub serve_send_only : {C : Fact N} (act : ℕ) (x : Value N) → Gets K C (IsValue x) → (verb : Words) (args : List (Value N)) → Gets K C (AreValues args) → Fine K M C (send_only K act x verb args) IsValue
  serve_send_only {C = C} act x g verb args h = serves.sends_only C act x g verb args h

  pub serve_react : {C : Fact N} (act : ℕ) (x : Value N) → Gets K C (IsValue x) → (o : Value N) → Gets K C (IsValue o) → (near : Value N) → Gets K C (IsValue near) → Fine K M C (react K act x o near) IsValue
  serve_react {C = C} act x g o h near k = serves.reacts C act x g o h near k

pub serve_break : {N W : Type 0} (K : Naming N W) (M : Keeper K) (p : N) → Closing K M p → {C : Fact N} (t : Words) → Fine K M C (settle K p (Broken t)) nothing
serve_break K M p closing {C = C} t = closing.breaks C t

pub serve_close : {N W : Type 0} (K : Naming N W) (M : Keeper K) (p : N) → Closing K M p → {C : Fact N} (y : Value N) → Gets K C (IsValue y) → Fine K M C (resolve K p y) nothing
serve_close K M p closing {C = C} y g = closing.closes C y g

pub ruleset served = (serve_promise, serve_send, serve_send_only, serve_react)

-- where every change is kept, so is each of these
pub served_by : {N W : Type 0} (K : Naming N W) (M : Keeper K) → Loose K M → Serves K M
served_by K M law = let told = loose_tells K M law in record {
  promises = λ C. fine_promise K M law;
  smashes = λ C p t own s h c e. (fine_settle K M law told p (Broken t) (got_broken K C t)).after s h c;
  resolves = λ C p y own g s h c e. (fine_resolve K M law told p y g).after s h c;
  sends = λ C act x g verb args h. fine_send K M law told act x g verb args h;
  sends_only = λ C act x g verb args h. fine_send_only K M law told act x g verb args h;
  reacts = λ C act x g o h near k. fine_react K M law told act x g o h near k;
}

pub closing_by : {N W : Type 0} (K : Naming N W) (M : Keeper K) → Loose K M → (p : N) → Closing K M p
closing_by K M law p = let told = loose_tells K M law in record {
  breaks = λ C t. fine_settle K M law told p (Broken t) (got_broken K C t);
  closes = λ C y g. fine_resolve K M law told p y g;
}
