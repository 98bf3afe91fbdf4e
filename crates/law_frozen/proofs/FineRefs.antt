-- What a vat does with references, from a sound state, ends in a sound state.
use Rattle.std.proofs.Common.{ℕ, zero, suc, Bool, true, false, List, [], ◌∷◌, Option, Some, None}
use Rattle.def_machine.specs.Values.{Words, Value, Naming}
use Rattle.def_machine.specs.State.{Message, Standing, Settled, Known, Passed, Passeds, Plain, AGift, Many, NoMore, More, Deliver, ToTell, Act, alter, send_out, Delivery}
use Rattle.def_machine.specs.Refs as refs
use Rattle.def_machine.specs.Refs.{Place, Mine, Away}
use Rattle.law_frozen.proofs.Fine.{Keeper, Loose, Fact, IsValue, AreValues, IsMessage, AreMessages, IsKnown, MayKnown, DoesPass, DoAllPass, nothing, Gets, Fine, fine, fine_alter, got_to_tell}
use Rattle.law_frozen.proofs.Looks.{looks}

-- what settles a name so, does so from every sound state
abbrev pub GoodSettler : {N W : Type 0} (K : Naming N W) → Keeper K → (N → Value N → Act N (Unit {0})) → Type 0
GoodSettler {N} K M settle = (C : Fact N) (p : N) (y : Value N) → Gets K C (IsValue y) → Fine K M C (settle p y) nothing

-- where another vat is to be told of a name, what is away passes, and the note of a message is put
pub record Tells {N W : Type 0} (K : Naming N W) (M : Keeper K) : Type 0 where
  pub tells : (C : Fact N) (w : ℕ) (n : N) → Fine K M C (alter K (ToTell w) n) nothing
  pub aways : (C : Fact N) (w : ℕ) (y : Value N) → Gets K C (DoesPass (Plain y)) → (h : ℕ) (n : N) (o : Bool) → Fine K M C (refs.address_plain K w y (Away h n o)) DoesPass
  pub delivers : (C : Fact N) (to : ℕ) (m : Delivery N) (n : N) (verb : Words) (ys : Passeds N) → Gets K C (DoAllPass ys) → Fine K M C (send_out to (Deliver m n verb ys)) nothing

module _ {N W : Type 0} (K : Naming N W) (M : Keeper K) (telling : Tells K M) where
  told : {C : Fact N} (w : ℕ) (n : N) → Fine K M C (alter K (ToTell w) n) nothing
  told {C = C} w n = telling.tells C w n

  away_passes : {C : Fact N} (w : ℕ) (y : Value N) → Gets K C (DoesPass (Plain y)) → (h : ℕ) (n : N) (o : Bool) → Fine K M C (refs.address_plain K w y (Away h n o)) DoesPass
  away_passes {C = C} w y g h n o = telling.aways C w y g h n o

  put_message : {C : Fact N} (to : ℕ) (m : Delivery N) (n : N) (verb : Words) (ys : Passeds N) → Gets K C (DoAllPass ys) → Fine K M C (send_out to (Deliver m n verb ys)) nothing
  put_message {C = C} to m n verb ys g = telling.delivers C to m n verb ys g

  pub fine_address_plain : {C : Fact N} → (x1 : ℕ) → (x2 : Value N) → Gets K C (DoesPass (Plain x2)) → (x3 : Place N) → Fine K M C (refs.address_plain K x1 x2 x3) DoesPass
  unfolding refs.address_plain
  fine_address_plain {C = C} w y g1 (Away h n o) = away_passes {C = C} w y g1 h n o
  fine_address_plain {C = C} w y g1 (Mine n) = search (fine, looks, told) depth 30
  fine_address_plain {C = C} w y g1 _ = search (fine, looks) depth 30

  mutual
    unfolding refs.address refs.address_all

    pub fine_address : {C : Fact N} → (w : ℕ) → (y : Passed N) → Gets K C (DoesPass y) → Fine K M C (refs.address K w y) DoesPass
    fine_address {C = C} w (Plain y) g1 = search (fine, looks, fine_address_plain) depth 30
    fine_address {C = C} w (AGift h i) g1 = search (fine, looks) depth 30
    fine_address {C = C} w (Many ys) g1 = let d_g1 : Gets K C (DoAllPass ys) = record { at = λ ts ls h. g1.at ts ls h } in let rest : (D : Fact N) → Gets K D (DoAllPass ys) → Fine K M D (refs.address_all K w ys) DoAllPass = λ D g. fine_address_all {C = D} w ys g in search (fine, looks) depth 30

    pub fine_address_all : {C : Fact N} → (w : ℕ) → (ys : Passeds N) → Gets K C (DoAllPass ys) → Fine K M C (refs.address_all K w ys) DoAllPass
    fine_address_all {C = C} w NoMore g1 = search (fine, looks) depth 30
    fine_address_all {C = C} w (More y ys) g1 = let d0_g1 : Gets K C (DoesPass y) = record { at = λ ts ls h. (g1.at ts ls h).0 } in let d1_g1 : Gets K C (DoAllPass ys) = record { at = λ ts ls h. (g1.at ts ls h).1 } in let one : (D : Fact N) → Gets K D (DoesPass y) → Fine K M D (refs.address K w y) DoesPass = λ D g. fine_address {C = D} w y g in let rest : (D : Fact N) → Gets K D (DoAllPass ys) → Fine K M D (refs.address_all K w ys) DoAllPass = λ D g. fine_address_all {C = D} w ys g in search (fine, looks) depth 30

  pub fine_pass : {C : Fact N} → (x1 : ℕ) → (x2 : Value N) → Gets K C (IsValue x2) → Fine K M C (refs.pass K x1 x2) DoesPass
  unfolding refs.pass
  fine_pass {C = C} w x g1 = search (fine, looks, fine_address) depth 30

  pub fine_pass_all : {C : Fact N} → (x1 : ℕ) → (x2 : List (Value N)) → Gets K C (AreValues x2) → Fine K M C (refs.pass_all K x1 x2) DoAllPass
  unfolding refs.pass_all
  fine_pass_all {C = C} w [] g1 = search (fine, looks) depth 30
  fine_pass_all {C = C} w (x ∷ xs) g1 = let d0_g1 : Gets K C (IsValue x) = record { at = λ ts ls h. (g1.at ts ls h).0 } in let d1_g1 : Gets K C (AreValues xs) = record { at = λ ts ls h. (g1.at ts ls h).1 } in let rest : (D : Fact N) → Gets K D (AreValues xs) → Fine K M D (refs.pass_all K w xs) DoAllPass = λ D g. fine_pass_all {C = D} w xs g in search (fine, looks, fine_pass) depth 30

  pub fine_deliver : {C : Fact N} → (x1 : Message N) → Gets K C (IsMessage x1) → (x2 : ℕ) → (x3 : N) → Fine K M C (refs.deliver K x1 x2 x3) nothing
  unfolding refs.deliver
  fine_deliver {C = C} m g1 h n = let mt_m : Gets K C (IsValue m.target) = record { at = λ ts ls h. (g1.at ts ls h).0 } in let ma_m : Gets K C (AreValues m.args) = record { at = λ ts ls h. (g1.at ts ls h).1 } in search (fine, looks, fine_pass_all, put_message) depth 30

module _ {N W : Type 0} (K : Naming N W) (M : Keeper K) (law : Loose K M) (telling : Tells K M) where
  pub fine_inform_of : {C : Fact N} → (x1 : N) → (x2 : ℕ) → (x3 : Value N) → Gets K C (IsValue x3) → (x4 : Place N) → Fine K M C (refs.inform_of K x1 x2 x3 x4) nothing
  unfolding refs.inform_of
  fine_inform_of {C = C} p w y g1 (Away h n true) = search (fine, looks) depth 30
  fine_inform_of {C = C} p w y g1 _ = search (fine, looks, fine_pass) depth 30

  pub fine_inform : {C : Fact N} → (x1 : N) → (x2 : ℕ) → Fine K M C (refs.inform K x1 x2) nothing
  unfolding refs.inform
  fine_inform {C = C} p w = search (fine, looks, fine_inform_of) depth 30

  pub fine_wait_on : {C : Fact N} → (x1 : N) → (x2 : N) → Fine K M C (refs.wait_on K x1 x2) nothing
  unfolding refs.wait_on
  fine_wait_on {C = C} p q = search (fine, looks) depth 30

  pub fine_pass_on : {C : Fact N} → (x1 : Message N) → Gets K C (IsMessage x1) → (x2 : ℕ) → (x3 : N) → Fine K M C (refs.pass_on K x1 x2 x3) nothing
  unfolding refs.pass_on
  fine_pass_on {C = C} m g1 h n = let mt_m : Gets K C (IsValue m.target) = record { at = λ ts ls h. (g1.at ts ls h).0 } in let ma_m : Gets K C (AreValues m.args) = record { at = λ ts ls h. (g1.at ts ls h).1 } in search (fine, looks, fine_deliver, fine_wait_on) depth 30

  pub fine_send_to : {C : Fact N} → (x1 : N → Value N → Act N (Unit {0})) → GoodSettler K M x1 → (x2 : Message N) → Gets K C (IsMessage x2) → (x3 : Value N) → Gets K C (IsValue x3) → (x4 : Place N) → Fine K M C (refs.send_to K x1 x2 x3 x4) nothing
  unfolding refs.send_to
  fine_send_to {C = C} settle h1 m g1 y g2 (Away h n o) = let mt_m : Gets K C (IsValue m.target) = record { at = λ ts ls h. (g1.at ts ls h).0 } in let ma_m : Gets K C (AreValues m.args) = record { at = λ ts ls h. (g1.at ts ls h).1 } in search (fine, looks, fine_pass_on) depth 30
  fine_send_to {C = C} settle h1 m g1 y g2 other = let mt_m : Gets K C (IsValue m.target) = record { at = λ ts ls h. (g1.at ts ls h).0 } in let ma_m : Gets K C (AreValues m.args) = record { at = λ ts ls h. (g1.at ts ls h).1 } in search (fine, looks) depth 30

  pub fine_send_on : {C : Fact N} → (x1 : N → Value N → Act N (Unit {0})) → GoodSettler K M x1 → (x2 : Message N) → Gets K C (IsMessage x2) → Fine K M C (refs.send_on K x1 x2) nothing
  unfolding refs.send_on
  fine_send_on {C = C} settle h1 m g1 = let mt_m : Gets K C (IsValue m.target) = record { at = λ ts ls h. (g1.at ts ls h).0 } in let ma_m : Gets K C (AreValues m.args) = record { at = λ ts ls h. (g1.at ts ls h).1 } in search (fine, looks, fine_send_to) depth 30

  pub fine_settle_known : {C : Fact N} → (x1 : N → Value N → Act N (Unit {0})) → GoodSettler K M x1 → (x2 : N) → (x3 : Value N) → Gets K C (IsValue x3) → (x4 : Known N) → Gets K C (IsKnown x4) → Fine K M C (refs.settle_known K x1 x2 x3 x4) nothing
  unfolding refs.settle_known
  fine_settle_known {C = C} settle h1 p y g1 k g2 = let kh_k : Gets K C (AreMessages k.held) = record { at = λ ts ls h. (g2.at ts ls h).1 } in let kr_k : Gets K C (AreMessages k.reactions) = record { at = λ ts ls h. (g2.at ts ls h).2 } in search (fine, looks, fine_send_on, fine_inform) depth 30

  pub fine_settle_standing : {C : Fact N} → (x1 : N → Value N → Act N (Unit {0})) → GoodSettler K M x1 → (x2 : N) → (x3 : Value N) → Gets K C (IsValue x3) → (x4 : Known N) → Gets K C (IsKnown x4) → (x5 : Standing N) → Fine K M C (refs.settle_standing K x1 x2 x3 x4 x5) nothing
  unfolding refs.settle_standing
  fine_settle_standing {C = C} settle h1 p y g1 k g2 (Settled z) = let kh_k : Gets K C (AreMessages k.held) = record { at = λ ts ls h. (g2.at ts ls h).1 } in let kr_k : Gets K C (AreMessages k.reactions) = record { at = λ ts ls h. (g2.at ts ls h).2 } in search (fine, looks) depth 30
  fine_settle_standing {C = C} settle h1 p y g1 k g2 _ = let kh_k : Gets K C (AreMessages k.held) = record { at = λ ts ls h. (g2.at ts ls h).1 } in let kr_k : Gets K C (AreMessages k.reactions) = record { at = λ ts ls h. (g2.at ts ls h).2 } in search (fine, looks, fine_settle_known) depth 30

  pub fine_settle_entry : {C : Fact N} → (x1 : N → Value N → Act N (Unit {0})) → GoodSettler K M x1 → (x2 : N) → (x3 : Value N) → Gets K C (IsValue x3) → (x4 : Option (Known N)) → Gets K C (MayKnown x4) → Fine K M C (refs.settle_entry K x1 x2 x3 x4) nothing
  unfolding refs.settle_entry
  fine_settle_entry {C = C} settle h1 p y g1 None g2 = search (fine, looks) depth 30
  fine_settle_entry {C = C} settle h1 p y g1 (Some k) g2 = let d_g2 : Gets K C (IsKnown k) = record { at = λ ts ls h. (g2.at ts ls h) } in search (fine, looks, fine_settle_standing) depth 30

  pub fine_settle_one : {C : Fact N} → (x1 : N → Value N → Act N (Unit {0})) → GoodSettler K M x1 → (x2 : N) → (x3 : Value N) → Gets K C (IsValue x3) → Fine K M C (refs.settle_one K x1 x2 x3) nothing
  unfolding refs.settle_one
  fine_settle_one {C = C} settle h1 p x g1 = search (fine, looks, fine_settle_entry) depth 30

  pub fine_settle_at : {C : Fact N} → (x1 : ℕ) → (x2 : N) → (x3 : Value N) → Gets K C (IsValue x3) → Fine K M C (refs.settle_at K x1 x2 x3) nothing
  unfolding refs.settle_at
  fine_settle_at {C = C} zero p y g1 = search (fine, looks) depth 30
  fine_settle_at {C = C} (suc d) p y g1 = fine_settle_one (λ q z. refs.settle_at K d q z) (λ D q z g. fine_settle_at {C = D} d q z g) p y g1

  pub fine_settle : {C : Fact N} → (x1 : N) → (x2 : Value N) → Gets K C (IsValue x2) → Fine K M C (refs.settle K x1 x2) nothing
  unfolding refs.settle
  fine_settle {C = C} p y g1 = search (fine, looks, fine_settle_at) depth 30

  pub fine_wait_unless_cycle : {C : Fact N} → (x1 : N) → (x2 : N) → Fine K M C (refs.wait_unless_cycle K x1 x2) nothing
  unfolding refs.wait_unless_cycle
  fine_wait_unless_cycle {C = C} p q = search (fine, looks, fine_settle, fine_wait_on) depth 30

  pub fine_resolve_to : {C : Fact N} → (x1 : N) → (x2 : Value N) → Gets K C (IsValue x2) → (x3 : Place N) → Fine K M C (refs.resolve_to K x1 x2 x3) nothing
  unfolding refs.resolve_to
  fine_resolve_to {C = C} p y g1 (Mine q) = search (fine, looks, fine_wait_unless_cycle) depth 30
  fine_resolve_to {C = C} p y g1 (Away h q false) = search (fine, looks, fine_wait_unless_cycle) depth 30
  fine_resolve_to {C = C} p y g1 _ = search (fine, looks, fine_settle) depth 30

  pub fine_resolve : {C : Fact N} → (x1 : N) → (x2 : Value N) → Gets K C (IsValue x2) → Fine K M C (refs.resolve K x1 x2) nothing
  unfolding refs.resolve
  fine_resolve {C = C} p x g1 = search (fine, looks, fine_resolve_to) depth 30

  pub fine_send_first : {C : Fact N} → (x1 : Message N) → Gets K C (IsMessage x1) → (x2 : Value N) → Gets K C (IsValue x2) → (x3 : Place N) → Fine K M C (refs.send_first K x1 x2 x3) nothing
  unfolding refs.send_first
  fine_send_first {C = C} m g1 y g2 (Away h n o) = let mt_m : Gets K C (IsValue m.target) = record { at = λ ts ls h. (g1.at ts ls h).0 } in let ma_m : Gets K C (AreValues m.args) = record { at = λ ts ls h. (g1.at ts ls h).1 } in search (fine, looks, fine_deliver) depth 30
  fine_send_first {C = C} m g1 y g2 p = let mt_m : Gets K C (IsValue m.target) = record { at = λ ts ls h. (g1.at ts ls h).0 } in let ma_m : Gets K C (AreValues m.args) = record { at = λ ts ls h. (g1.at ts ls h).1 } in search (fine, looks, fine_send_to, fine_settle) depth 30

  pub fine_send : {C : Fact N} → (x1 : ℕ) → (x2 : Value N) → Gets K C (IsValue x2) → (x3 : Words) → (x4 : List (Value N)) → Gets K C (AreValues x4) → Fine K M C (refs.send K x1 x2 x3 x4) IsValue
  unfolding refs.send
  fine_send {C = C} act x g1 verb args g2 = search (fine, looks, fine_send_first) depth 30

  pub fine_send_only : {C : Fact N} → (x1 : ℕ) → (x2 : Value N) → Gets K C (IsValue x2) → (x3 : Words) → (x4 : List (Value N)) → Gets K C (AreValues x4) → Fine K M C (refs.send_only K x1 x2 x3 x4) IsValue
  unfolding refs.send_only
  fine_send_only {C = C} act x g1 verb args g2 = search (fine, looks, fine_send_first) depth 30

  pub fine_react_at : {C : Fact N} → (x1 : Message N) → Gets K C (IsMessage x1) → (x2 : Place N) → Fine K M C (refs.react_at K x1 x2) nothing
  unfolding refs.react_at
  fine_react_at {C = C} m g1 (Mine n) = let mt_m : Gets K C (IsValue m.target) = record { at = λ ts ls h. (g1.at ts ls h).0 } in let ma_m : Gets K C (AreValues m.args) = record { at = λ ts ls h. (g1.at ts ls h).1 } in search (fine, looks) depth 30
  fine_react_at {C = C} m g1 (Away h n false) = let mt_m : Gets K C (IsValue m.target) = record { at = λ ts ls h. (g1.at ts ls h).0 } in let ma_m : Gets K C (AreValues m.args) = record { at = λ ts ls h. (g1.at ts ls h).1 } in search (fine, looks) depth 30
  fine_react_at {C = C} m g1 _ = let mt_m : Gets K C (IsValue m.target) = record { at = λ ts ls h. (g1.at ts ls h).0 } in let ma_m : Gets K C (AreValues m.args) = record { at = λ ts ls h. (g1.at ts ls h).1 } in search (fine, looks) depth 30

  pub fine_react : {C : Fact N} → (x1 : ℕ) → (x2 : Value N) → Gets K C (IsValue x2) → (x3 : Value N) → Gets K C (IsValue x3) → (x4 : Value N) → Gets K C (IsValue x4) → Fine K M C (refs.react K x1 x2 x3 x4) IsValue
  unfolding refs.react refs.reaction
  fine_react {C = C} act x g1 o g2 near g3 = search (fine, looks, fine_react_at) depth 30

module _ {N W : Type 0} (K : Naming N W) (M : Keeper K) (law : Loose K M) where
  loose_away : {C : Fact N} (w : ℕ) (y : Value N) → Gets K C (DoesPass (Plain y)) → (h : ℕ) (n : N) (o : Bool) → Fine K M C (refs.address_plain K w y (Away h n o)) DoesPass
  unfolding refs.address_plain
  loose_away {C = C} w y g h n o = search (fine, looks) depth 30

  loose_message : {C : Fact N} (to : ℕ) (m : Delivery N) (n : N) (verb : Words) (ys : Passeds N) → Gets K C (DoAllPass ys) → Fine K M C (send_out to (Deliver m n verb ys)) nothing
  loose_message {C = C} to m n verb ys g = search (fine, looks) depth 30

-- where every change is kept, so is that
pub loose_tells : {N W : Type 0} (K : Naming N W) (M : Keeper K) → Loose K M → Tells K M
loose_tells K M law = record {
  tells = λ C w n. fine_alter K M law (ToTell w) n (got_to_tell K C w);
  aways = λ C w y g h n o. loose_away K M law {C = C} w y g h n o;
  delivers = λ C to m n verb ys g. loose_message K M law {C = C} to m n verb ys g;
}
