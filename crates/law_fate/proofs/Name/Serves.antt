-- What evaluation does with references and promises, each as one thing: so that evaluation is gone over once for all that is cared for.
use Rattle.std.proofs.Common.{◌≡◌, ℕ, ◌<◌, List, [], ◌∷◌, ◌++◌, Option, Some, None, length, arith}
use Rattle.def_machine.specs.Values.{Words, Value, Broken, Naming}
use Rattle.std.specs.Prelude.{slice_get}
use Rattle.def_machine.specs.State.{Thing, Resolver, Unsettled, Vat, Act, ◌>>=◌, new_thing, new_promise, WhereSome}
use Rattle.def_machine.specs.Refs.{standing_of, settle, resolve, send, send_only, react}
use Rattle.law_fate.specs.Name.Names.{Named}
use Rattle.law_fate.proofs.Name.Facts.{Holds, Fact, Also, IsName, IsThing, IsValue, AreValues, nothing}
use Rattle.law_fate.proofs.Name.Care.{Care, Spots, Under, Makes, Sound, Gets, Ends, Fine, quiet_told, got_entry, fine_bind, fine_thing, fine_promise}
use Rattle.law_fate.proofs.Name.CareRefs.{fine_settle, fine_resolve, fine_send, fine_send_only, fine_react}

-- a resolver of that promise is among its things
abbrev pub HasResolver : {N : Type 0} → Vat N → N → Type 0
HasResolver s p = (i : ℕ) × (slice_get s.things i ≡ Some (Resolver p))

pub record Serves {N W : Type 0} (K : Naming N W) (S : Care N) : Type 0 where
  pub spots : Spots K S
  pub object : (s : Vat N) (i : ℕ) → i < length s.things → S.ok s (Named (K.object i))
  pub promises : (C : Fact N) → Fine S C (new_promise K) IsName
  -- none breaks and is resolved but by a resolver, a name in hand that did neither settle nor wait
  pub smashes : (C : Fact N) (p : N) → Gets S C (IsName p) → (t : Words) (s : Vat N) → Sound S s → Holds (S.ok s) C → HasResolver s p → standing_of K s.known p ≡ Unsettled → Ends S nothing s (settle K p (Broken t) s)
  pub resolves : (C : Fact N) (p : N) → Gets S C (IsName p) → (y : Value N) → Gets S C (IsValue y) → (s : Vat N) → Sound S s → Holds (S.ok s) C → HasResolver s p → standing_of K s.known p ≡ Unsettled → Ends S nothing s (resolve K p y s)
  pub sends : (C : Fact N) (act : ℕ) (x : Value N) → Gets S C (IsValue x) → (verb : Words) (args : List (Value N)) → Gets S C (AreValues args) → Fine S C (send K act x verb args) IsValue
  pub sends_only : (C : Fact N) (act : ℕ) (x : Value N) → Gets S C (IsValue x) → (verb : Words) (args : List (Value N)) → Gets S C (AreValues args) → Fine S C (send_only K act x verb args) IsValue
  pub reacts : (C : Fact N) (act : ℕ) (x : Value N) → Gets S C (IsValue x) → (o : Value N) → Gets S C (IsValue o) → (near : Value N) → Gets S C (IsValue near) → Fine S C (react K act x o near) IsValue

-- a turn ends by resolving that name, which is in hand, or breaks it where it throws
pub record Closing {N W : Type 0} (K : Naming N W) (S : Care N) (p : N) : Type 0 where
  pub breaks : (C : Fact N) → Gets S C (IsName p) → (t : Words) → Fine S C (settle K p (Broken t)) nothing
  pub closes : (C : Fact N) → Gets S C (IsName p) → (y : Value N) → Gets S C (IsValue y) → Fine S C (resolve K p y) nothing

pub below_end : {A : Type 0} (xs : List A) (x : A) → length xs < length (xs ++ x ∷ [])
below_end [] x = omega arith
below_end (y ∷ xs) x = let l : length xs < length (xs ++ x ∷ []) = below_end xs x in omega arith

module _ {N W : Type 0} (K : Naming N W) (S : Care N) (serves : Serves K S) where
  -- a thing that came to be is there, so its number is that of a name in hand
  pub serve_thing : {C : Fact N} (x : Thing N) → Gets S C (IsThing x) → Fine S C (new_thing x) (λ i. IsName (K.object i))
  unfolding new_thing
  serve_thing x g = record { after = λ s h c. let e = (fine_thing S x g).after s h c in (e.0, e.1, serves.object (record s { things = s.things ++ x ∷ [] }) (length s.things) (below_end s.things x)) }

  pub bind_object : {B : Type 0} {C : Fact N} {m : Act N ℕ} {f : ℕ → Act N B} {H : B → Fact N} → Fine S C m (λ i. IsName (K.object i)) → ((i : ℕ) → Fine S (Also C (IsName (K.object i))) (f i) H) → Fine S C (m >>= f) H
  bind_object h k = fine_bind S (λ i. IsName (K.object i)) h k

  pub serve_promise : {C : Fact N} → Fine S C (new_promise K) IsName
  serve_promise {C = C} = serves.promises C

  pub serve_send : {C : Fact N} (act : ℕ) (x : Value N) → Gets S C (IsValue x) → (verb : Words) (args : List (Value N)) → Gets S C (AreValues args) → Fine S C (send K act x verb args) IsValue
  serve_send {C = C} act x g verb args h = serves.sends C act x g verb args h

  pub serve_send_only : {C : Fact N} (act : ℕ) (x : Value N) → Gets S C (IsValue x) → (verb : Words) (args : List (Value N)) → Gets S C (AreValues args) → Fine S C (send_only K act x verb args) IsValue
  serve_send_only {C = C} act x g verb args h = serves.sends_only C act x g verb args h

  pub serve_react : {C : Fact N} (act : ℕ) (x : Value N) → Gets S C (IsValue x) → (o : Value N) → Gets S C (IsValue o) → (near : Value N) → Gets S C (IsValue near) → Fine S C (react K act x o near) IsValue
  serve_react {C = C} act x g o h near k = serves.reacts C act x g o h near k

pub serve_break : {N W : Type 0} (K : Naming N W) (S : Care N) (p : N) → Closing K S p → {C : Fact N} → Gets S C (IsName p) → (t : Words) → Fine S C (settle K p (Broken t)) nothing
serve_break K S p closing {C = C} g t = closing.breaks C g t

pub serve_close : {N W : Type 0} (K : Naming N W) (S : Care N) (p : N) → Closing K S p → {C : Fact N} → Gets S C (IsName p) → (y : Value N) → Gets S C (IsValue y) → Fine S C (resolve K p y) nothing
serve_close K S p closing {C = C} g y h = closing.closes C g y h

-- so with the answer of a message, where each name is resolved and broken well
pub closing_some : {N W : Type 0} (K : Naming N W) (S : Care N) → ((p : N) → Closing K S p) → (o : Option N) → WhereSome (Closing K S) o
closing_some K S f (Some p) = f p
closing_some K S f None = tt

pub ruleset served = (quiet_told, serve_promise, serve_send, serve_send_only, serve_react)

-- where each single change is cared for, so is the end of a turn
pub closing_by : {N W : Type 0} (K : Naming N W) (S : Care N) → Under K S → (p : N) → Closing K S p
closing_by K S law p = record {
  breaks = λ C g t. fine_settle K S law p (got_entry S C p g) (Broken t) (record { at = λ s c. tt });
  closes = λ C g y h. fine_resolve K S law p (got_entry S C p g) y h;
}

-- and each thing that evaluation does
pub served_by : {N W : Type 0} (K : Naming N W) (S : Care N) → Under K S → Makes K S → Serves K S
served_by K S law makes = record {
  spots = law.spots;
  object = λ s i l. law.object s i l;
  promises = λ C. fine_promise K S law makes;
  smashes = λ C p g t s i c r e. let closing = closing_by K S law p in (closing.breaks C g t).after s i c;
  resolves = λ C p g y h s i c r e. let closing = closing_by K S law p in (closing.closes C g y h).after s i c;
  sends = λ C act x g verb args h. fine_send K S law makes act x g verb args h;
  sends_only = λ C act x g verb args h. fine_send_only K S law makes act x g verb args h;
  reacts = λ C act x g o h near k. fine_react K S law makes act x g o h near k;
}
