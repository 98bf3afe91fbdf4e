-- What a vat does with references, from a sound state, ends in a sound state.
use Rattle.std.proofs.Common.{ℕ, zero, suc, true, false, List, [], ◌∷◌, Option, Some, None}
use Rattle.def_machine.specs.Values.{Words, Value, Ref, Naming, Null}
use Rattle.def_machine.specs.State.{Settles, Sends, Reacts, ◌>>=◌, ◌>>◌, tell, give, look, Message, Standing, Settled, Known, Passed, Passeds, Plain, AGift, Many, NoMore, More, Act}
use Rattle.def_machine.specs.Refs as refs
use Rattle.def_machine.specs.Refs.{Place, Mine, Away}
use Rattle.law_fate.proofs.Name.Facts.{Fact, Also, IsName, IsMail, IsVat, IsOff, IsEntry, AreTold, MayEntry, IsValue, AreValues, IsMessage, IsKnown, IsPlace, DoesPass, DoAllPass, nothing, MayName}
use Rattle.law_fate.proofs.Name.Care.{Care, Under, Makes, Gets, Fine, fine, fine_bind, fine_give, fine_new_message, bind_value, bind_place, fine_tell, fine_enqueue, fine_settles, bind_vat, bind_names, then_unit, got, got_left, got_right, got_itself, got_settle, got_message, got_more, got_none, got_ref, got_some, fine_lone_message}
use Rattle.law_fate.proofs.Name.Looks.{looks, look_number, look_target, look_entry, each_message, each_entry, each_told, got_answer_host, look_follow, look_place, look_place_of}

-- what settles a name so, does so from every sound state
abbrev pub GoodSettler : {N : Type 0} → Care N → (N → Value N → Act N (Unit {0})) → Type 0
GoodSettler {N} S settle = (C : Fact N) (p : N) → Gets S C (IsEntry p) → (y : Value N) → Gets S C (IsValue y) → Fine S C (settle p y) nothing

module _ {N W : Type 0} (K : Naming N W) (S : Care N) (law : Under K S) where
  place_here : {C : Fact N} (y : Value N) → Gets S C (IsValue y) → Fine S C (look (λ s. refs.place K s y)) IsPlace
  place_here y g = look_place K S law.spots y g

  place_of_here : {C : Fact N} (x : Value N) → Gets S C (IsValue x) → Fine S C (look (λ s. refs.place K s (refs.follow K s x))) IsPlace
  place_of_here x g = look_place_of K S law.spots x g

  pub fine_address_plain : {C : Fact N} → (x1 : ℕ) → (x2 : Value N) → Gets S C (DoesPass (Plain x2)) → (x3 : Place N) → Gets S C (IsPlace x3) → Fine S C (refs.address_plain K x1 x2 x3) DoesPass
  unfolding refs.address_plain
  fine_address_plain {C = C} w y g1 (Away h n o) p3 = let pn3 : Gets S C (IsName n) = record { at = λ s h. (p3.at s h).0 } in let po : Gets S C (IsOff h) = record { at = λ s h. (p3.at s h).1 } in search (fine, looks, place_here, place_of_here) depth 30
  fine_address_plain {C = C} w y g1 (Mine n) p3 = let pn3 : Gets S C (IsName n) = record { at = λ s h. p3.at s h } in search (fine, looks, place_here, place_of_here) depth 30
  fine_address_plain {C = C} w y g1 _ p3 = fine_give S (Plain y) g1

  mutual
    unfolding refs.address refs.address_all

    pub fine_address : {C : Fact N} → (w : ℕ) → (y : Passed N) → Gets S C (DoesPass y) → Fine S C (refs.address K w y) DoesPass
    fine_address {C = C} w (Plain y) g1 = let d_g1 : Gets S C (IsValue y) = record { at = λ s h. g1.at s h } in search (fine, looks, place_here, place_of_here, fine_address_plain) depth 30
    fine_address {C = C} w (AGift h i) g1 = fine_give S (AGift h i) g1
    fine_address {C = C} w (Many ys) g1 = let d_g1 : Gets S C (DoAllPass ys) = record { at = λ s h. g1.at s h } in let rest : (D : Fact N) → Gets S D (DoAllPass ys) → Fine S D (refs.address_all K w ys) DoAllPass = λ D g. fine_address_all {C = D} w ys g in search (fine, looks, place_here, place_of_here) depth 30

    pub fine_address_all : {C : Fact N} → (w : ℕ) → (ys : Passeds N) → Gets S C (DoAllPass ys) → Fine S C (refs.address_all K w ys) DoAllPass
    fine_address_all {C = C} w NoMore g1 = search (fine, looks, place_here, place_of_here) depth 30
    fine_address_all {C = C} w (More y ys) g1 = let d0_g1 : Gets S C (DoesPass y) = record { at = λ s h. (g1.at s h).0 } in let d1_g1 : Gets S C (DoAllPass ys) = record { at = λ s h. (g1.at s h).1 } in let one : (D : Fact N) → Gets S D (DoesPass y) → Fine S D (refs.address K w y) DoesPass = λ D g. fine_address {C = D} w y g in let rest : (D : Fact N) → Gets S D (DoAllPass ys) → Fine S D (refs.address_all K w ys) DoAllPass = λ D g. fine_address_all {C = D} w ys g in search (fine, looks, place_here, place_of_here) depth 30

  pub fine_pass : {C : Fact N} → (x1 : ℕ) → (x2 : Value N) → Gets S C (IsValue x2) → Fine S C (refs.pass K x1 x2) DoesPass
  unfolding refs.pass
  fine_pass {C = C} w x g1 = search (fine, looks, place_here, place_of_here, fine_address) depth 30

  pub fine_pass_all : {C : Fact N} → (x1 : ℕ) → (x2 : List (Value N)) → Gets S C (AreValues x2) → Fine S C (refs.pass_all K x1 x2) DoAllPass
  unfolding refs.pass_all
  fine_pass_all {C = C} w [] g1 = search (fine, looks, place_here, place_of_here) depth 30
  fine_pass_all {C = C} w (x ∷ xs) g1 = let d0_g1 : Gets S C (IsValue x) = record { at = λ s h. (g1.at s h).0 } in let d1_g1 : Gets S C (AreValues xs) = record { at = λ s h. (g1.at s h).1 } in let rest : (D : Fact N) → Gets S D (AreValues xs) → Fine S D (refs.pass_all K w xs) DoAllPass = λ D g. fine_pass_all {C = D} w xs g in search (fine, looks, place_here, place_of_here, fine_pass) depth 30

  pub fine_deliver : {C : Fact N} → (x1 : Message N) → Gets S C (IsMessage x1) → (x2 : ℕ) → Gets S C (IsOff x2) → (x3 : N) → Gets S C (IsName x3) → Fine S C (refs.deliver K x1 x2 x3) nothing
  unfolding refs.deliver
  fine_deliver {C = C} m g1 h o2 n n3 = let mi_m : Gets S C (IsMail m.id) = record { at = λ s h. (g1.at s h).0 } in let mt_m : Gets S C (IsValue m.target) = record { at = λ s h. (g1.at s h).1 } in let ma_m : Gets S C (AreValues m.args) = record { at = λ s h. (g1.at s h).2 } in let mr_m : Gets S C (MayName m.answer) = record { at = λ s h. (g1.at s h).3 } in search (fine, looks, place_here, place_of_here, fine_pass_all) depth 30

  pub fine_wait_on : {C : Fact N} → (x1 : N) → Gets S C (IsEntry x1) → (x2 : N) → Gets S C (IsName x2) → Fine S C (refs.wait_on K x1 x2) nothing
  unfolding refs.wait_on
  fine_wait_on {C = C} p n0 q n1 = search (fine, looks, place_here, place_of_here) depth 30

  pub fine_pass_on : {C : Fact N} → (x1 : Message N) → Gets S C (IsMessage x1) → (x2 : ℕ) → Gets S C (IsOff x2) → (x3 : N) → Gets S C (IsName x3) → Fine S C (refs.pass_on K x1 x2 x3) nothing
  unfolding refs.pass_on
  fine_pass_on {C = C} m g1 h o2 n n3 = let mi_m : Gets S C (IsMail m.id) = record { at = λ s h. (g1.at s h).0 } in let mt_m : Gets S C (IsValue m.target) = record { at = λ s h. (g1.at s h).1 } in let ma_m : Gets S C (AreValues m.args) = record { at = λ s h. (g1.at s h).2 } in let mr_m : Gets S C (MayName m.answer) = record { at = λ s h. (g1.at s h).3 } in search (fine, looks, place_here, place_of_here, fine_deliver, fine_wait_on) depth 30

  pub fine_send_to : {C : Fact N} → (x1 : N → Value N → Act N (Unit {0})) → GoodSettler S x1 → (x2 : Message N) → Gets S C (IsMessage x2) → (x3 : Value N) → Gets S C (IsValue x3) → (x4 : Place N) → Gets S C (IsPlace x4) → Fine S C (refs.send_to K x1 x2 x3 x4) nothing
  unfolding refs.send_to
  fine_send_to {C = C} settle h1 m g1 y g2 (Mine n) p6 = let mi_m : Gets S C (IsMail m.id) = record { at = λ s h. (g1.at s h).0 } in let mt_m : Gets S C (IsValue m.target) = record { at = λ s h. (g1.at s h).1 } in let ma_m : Gets S C (AreValues m.args) = record { at = λ s h. (g1.at s h).2 } in let mr_m : Gets S C (MayName m.answer) = record { at = λ s h. (g1.at s h).3 } in let pn6 : Gets S C (IsName n) = record { at = λ s h. p6.at s h } in search (fine, looks, place_here, place_of_here) depth 30
  fine_send_to {C = C} settle h1 m g1 y g2 (Away h n o) p6 = let mi_m : Gets S C (IsMail m.id) = record { at = λ s h. (g1.at s h).0 } in let mt_m : Gets S C (IsValue m.target) = record { at = λ s h. (g1.at s h).1 } in let ma_m : Gets S C (AreValues m.args) = record { at = λ s h. (g1.at s h).2 } in let mr_m : Gets S C (MayName m.answer) = record { at = λ s h. (g1.at s h).3 } in let pn6 : Gets S C (IsName n) = record { at = λ s h. (p6.at s h).0 } in let po : Gets S C (IsOff h) = record { at = λ s h. (p6.at s h).1 } in search (fine, looks, place_here, place_of_here, fine_pass_on) depth 30
  fine_send_to {C = C} settle h1 m g1 y g2 other p6 = let mi_m : Gets S C (IsMail m.id) = record { at = λ s h. (g1.at s h).0 } in let mt_m : Gets S C (IsValue m.target) = record { at = λ s h. (g1.at s h).1 } in let ma_m : Gets S C (AreValues m.args) = record { at = λ s h. (g1.at s h).2 } in let mr_m : Gets S C (MayName m.answer) = record { at = λ s h. (g1.at s h).3 } in search (fine, looks, place_here, place_of_here) depth 30

  pub fine_send_on : {C : Fact N} → (x1 : N → Value N → Act N (Unit {0})) → GoodSettler S x1 → (x2 : Message N) → Gets S C (IsMessage x2) → Fine S C (refs.send_on K x1 x2) nothing
  unfolding refs.send_on
  fine_send_on {C = C} settle h1 m g1 = let mi_m : Gets S C (IsMail m.id) = record { at = λ s h. (g1.at s h).0 } in let mt_m : Gets S C (IsValue m.target) = record { at = λ s h. (g1.at s h).1 } in let ma_m : Gets S C (AreValues m.args) = record { at = λ s h. (g1.at s h).2 } in let mr_m : Gets S C (MayName m.answer) = record { at = λ s h. (g1.at s h).3 } in search (fine, looks, place_here, place_of_here, fine_send_to) depth 30

  pub fine_inform_of : {C : Fact N} → (x1 : N) → Gets S C (IsName x1) → (x2 : ℕ) → (x3 : Value N) → Gets S C (IsValue x3) → (x4 : Place N) → Gets S C (IsPlace x4) → Fine S C (refs.inform_of K x1 x2 x3 x4) nothing
  unfolding refs.inform_of
  fine_inform_of {C = C} p n0 w y g1 (Away h n true) p4 = let pn4 : Gets S C (IsName n) = record { at = λ s h. (p4.at s h).0 } in let po : Gets S C (IsOff h) = record { at = λ s h. (p4.at s h).1 } in search (fine, looks, place_here, place_of_here) depth 30
  fine_inform_of {C = C} p n0 w y g1 _ p4 = search (fine, looks, place_here, place_of_here, fine_pass) depth 30

  pub fine_inform : {C : Fact N} → (x1 : N) → Gets S C (IsName x1) → (x2 : ℕ) → Fine S C (refs.inform K x1 x2) nothing
  unfolding refs.inform
  fine_inform {C = C} p n0 w = search (fine, looks, place_here, place_of_here, fine_inform_of) depth 30

  pub fine_settle_known : {C : Fact N} → (x1 : N → Value N → Act N (Unit {0})) → GoodSettler S x1 → (x2 : N) → Gets S C (IsEntry x2) → (x3 : Value N) → Gets S C (IsValue x3) → (x4 : Known N) → Gets S C (IsKnown x4) → Gets S C (AreTold x2 x4.told) → Fine S C (refs.settle_known K x1 x2 x3 x4) nothing
  unfolding refs.settle_known
  fine_settle_known {C = C} settle h1 p n2 y g1 k g2 g3 = then_unit S (fine_tell K S law (Settles p y)) (then_unit S (fine_settles K S law y p (got_settle S C y g1))
      (then_unit S (each_message S k.held (record { at = λ s h. (g2.at s h).2 }) (λ m. fine_send_on settle h1 m (got S C (IsMessage m))))
      (then_unit S (each_entry S k.waiting (record { at = λ s h. (g2.at s h).3 }) (λ q. h1 (Also C (IsEntry q)) q (got S C (IsEntry q)) y (got_left S C (IsEntry q) (IsValue y) g1)))
      (then_unit S (each_message S k.reactions (record { at = λ s h. (g2.at s h).4 }) (λ m. fine_enqueue K S law m (got S C (IsMessage m))))
      (each_told S p k.told g3 (λ w. fine_inform p (got S C (IsName p)) w))))))

  pub fine_settle_standing : {C : Fact N} → (x1 : N → Value N → Act N (Unit {0})) → GoodSettler S x1 → (x2 : N) → Gets S C (IsEntry x2) → (x3 : Value N) → Gets S C (IsValue x3) → (x4 : Known N) → Gets S C (IsKnown x4) → Gets S C (AreTold x2 x4.told) → (x5 : Standing N) → Fine S C (refs.settle_standing K x1 x2 x3 x4 x5) nothing
  unfolding refs.settle_standing
  fine_settle_standing {C = C} settle h1 p n2 y g1 k g2 g3 (Settled z) = fine_give S tt (record { at = λ s c. tt })
  fine_settle_standing {C = C} settle h1 p n2 y g1 k g2 g3 _ = fine_settle_known settle h1 p n2 y g1 k g2 g3

  pub fine_settle_entry : {C : Fact N} → (x1 : N → Value N → Act N (Unit {0})) → GoodSettler S x1 → (x2 : N) → Gets S C (IsEntry x2) → (x3 : Value N) → Gets S C (IsValue x3) → (x4 : Option (Known N)) → Gets S C (MayEntry x2 x4) → Fine S C (refs.settle_entry K x1 x2 x3 x4) nothing
  unfolding refs.settle_entry
  fine_settle_entry {C = C} settle h1 p n2 y g1 None g2 = fine_give S tt (record { at = λ s c. tt })
  fine_settle_entry {C = C} settle h1 p n2 y g1 (Some k) g2 = fine_settle_standing settle h1 p n2 y g1 k (record { at = λ s h. (g2.at s h).0 }) (record { at = λ s h. (g2.at s h).1 }) k.standing

  pub fine_settle_one : {C : Fact N} → (x1 : N → Value N → Act N (Unit {0})) → GoodSettler S x1 → (x2 : N) → Gets S C (IsEntry x2) → (x3 : Value N) → Gets S C (IsValue x3) → Fine S C (refs.settle_one K x1 x2 x3) nothing
  unfolding refs.settle_one
  fine_settle_one {C = C} settle h1 p n2 x g1 = bind_value S (look_target K S p x g1) (λ y. fine_bind S (MayEntry p) (look_entry K S law.spots p) (λ k. fine_settle_entry settle h1 p (record { at = λ s c. n2.at s c.0.0 }) y (record { at = λ s c. c.0.1 }) k (record { at = λ s c. c.1 })))

  pub fine_settle_at : {C : Fact N} → (x1 : ℕ) → (x2 : N) → Gets S C (IsEntry x2) → (x3 : Value N) → Gets S C (IsValue x3) → Fine S C (refs.settle_at K x1 x2 x3) nothing
  unfolding refs.settle_at
  fine_settle_at {C = C} zero p n1 y g1 = search (fine, looks, place_here, place_of_here) depth 30
  fine_settle_at {C = C} (suc d) p n1 y g1 = fine_settle_one (λ q z. refs.settle_at K d q z) (λ D q n z g. fine_settle_at {C = D} d q n z g) p n1 y g1

  pub fine_settle : {C : Fact N} → (x1 : N) → Gets S C (IsEntry x1) → (x2 : Value N) → Gets S C (IsValue x2) → Fine S C (refs.settle K x1 x2) nothing
  unfolding refs.settle
  fine_settle {C = C} p n0 y g1 = search (fine, looks, place_here, place_of_here, fine_settle_at) depth 30

  pub fine_wait_unless_cycle : {C : Fact N} → (x1 : N) → Gets S C (IsEntry x1) → (x2 : N) → Gets S C (IsName x2) → Fine S C (refs.wait_unless_cycle K x1 x2) nothing
  unfolding refs.wait_unless_cycle
  fine_wait_unless_cycle {C = C} p n0 q n1 = search (fine, looks, place_here, place_of_here, fine_settle, fine_wait_on) depth 30

  pub fine_resolve_to : {C : Fact N} → (x1 : N) → Gets S C (IsEntry x1) → (x2 : Value N) → Gets S C (IsValue x2) → (x3 : Place N) → Gets S C (IsPlace x3) → Fine S C (refs.resolve_to K x1 x2 x3) nothing
  unfolding refs.resolve_to
  fine_resolve_to {C = C} p n0 y g1 (Mine q) p3 = let pn3 : Gets S C (IsName q) = record { at = λ s h. p3.at s h } in search (fine, looks, place_here, place_of_here, fine_wait_unless_cycle) depth 30
  fine_resolve_to {C = C} p n0 y g1 (Away h q false) p3 = let pn3 : Gets S C (IsName q) = record { at = λ s h. (p3.at s h).0 } in let po : Gets S C (IsOff h) = record { at = λ s h. (p3.at s h).1 } in search (fine, looks, place_here, place_of_here, fine_wait_unless_cycle) depth 30
  fine_resolve_to {C = C} p n0 y g1 _ p3 = search (fine, looks, place_here, place_of_here, fine_settle) depth 30

  pub fine_resolve : {C : Fact N} → (x1 : N) → Gets S C (IsEntry x1) → (x2 : Value N) → Gets S C (IsValue x2) → Fine S C (refs.resolve K x1 x2) nothing
  unfolding refs.resolve
  fine_resolve {C = C} p n0 x g1 = search (fine, looks, place_here, place_of_here, fine_resolve_to) depth 30

  pub fine_send_first : {C : Fact N} → (x1 : Message N) → Gets S C (IsMessage x1) → (x2 : Value N) → Gets S C (IsValue x2) → (x3 : Place N) → Gets S C (IsPlace x3) → Fine S C (refs.send_first K x1 x2 x3) nothing
  unfolding refs.send_first
  fine_send_first {C = C} m g1 y g2 (Away h n o) p4 = let mi_m : Gets S C (IsMail m.id) = record { at = λ s h. (g1.at s h).0 } in let mt_m : Gets S C (IsValue m.target) = record { at = λ s h. (g1.at s h).1 } in let ma_m : Gets S C (AreValues m.args) = record { at = λ s h. (g1.at s h).2 } in let mr_m : Gets S C (MayName m.answer) = record { at = λ s h. (g1.at s h).3 } in let pn4 : Gets S C (IsName n) = record { at = λ s h. (p4.at s h).0 } in let po : Gets S C (IsOff h) = record { at = λ s h. (p4.at s h).1 } in search (fine, looks, place_here, place_of_here, fine_deliver) depth 30
  fine_send_first {C = C} m g1 y g2 p p4 = let mi_m : Gets S C (IsMail m.id) = record { at = λ s h. (g1.at s h).0 } in let mt_m : Gets S C (IsValue m.target) = record { at = λ s h. (g1.at s h).1 } in let ma_m : Gets S C (AreValues m.args) = record { at = λ s h. (g1.at s h).2 } in let mr_m : Gets S C (MayName m.answer) = record { at = λ s h. (g1.at s h).3 } in search (fine, looks, place_here, place_of_here, fine_send_to, fine_settle) depth 30

  pub fine_react_at : {C : Fact N} → (x1 : Message N) → Gets S C (IsMessage x1) → (x2 : Place N) → Gets S C (IsPlace x2) → Fine S C (refs.react_at K x1 x2) nothing
  unfolding refs.react_at
  fine_react_at {C = C} m g1 (Mine n) p2 = let mi_m : Gets S C (IsMail m.id) = record { at = λ s h. (g1.at s h).0 } in let mt_m : Gets S C (IsValue m.target) = record { at = λ s h. (g1.at s h).1 } in let ma_m : Gets S C (AreValues m.args) = record { at = λ s h. (g1.at s h).2 } in let mr_m : Gets S C (MayName m.answer) = record { at = λ s h. (g1.at s h).3 } in let pn2 : Gets S C (IsName n) = record { at = λ s h. p2.at s h } in search (fine, looks, place_here, place_of_here) depth 30
  fine_react_at {C = C} m g1 (Away h n false) p2 = let mi_m : Gets S C (IsMail m.id) = record { at = λ s h. (g1.at s h).0 } in let mt_m : Gets S C (IsValue m.target) = record { at = λ s h. (g1.at s h).1 } in let ma_m : Gets S C (AreValues m.args) = record { at = λ s h. (g1.at s h).2 } in let mr_m : Gets S C (MayName m.answer) = record { at = λ s h. (g1.at s h).3 } in let pn2 : Gets S C (IsName n) = record { at = λ s h. (p2.at s h).0 } in let po : Gets S C (IsOff h) = record { at = λ s h. (p2.at s h).1 } in search (fine, looks, place_here, place_of_here) depth 30
  fine_react_at {C = C} m g1 _ p2 = let mi_m : Gets S C (IsMail m.id) = record { at = λ s h. (g1.at s h).0 } in let mt_m : Gets S C (IsValue m.target) = record { at = λ s h. (g1.at s h).1 } in let ma_m : Gets S C (AreValues m.args) = record { at = λ s h. (g1.at s h).2 } in let mr_m : Gets S C (MayName m.answer) = record { at = λ s h. (g1.at s h).3 } in search (fine, looks, place_here, place_of_here) depth 30

module _ {N W : Type 0} (K : Naming N W) (S : Care N) (law : Under K S) (makes : Makes K S) where
  pub fine_send : {C : Fact N} → (x1 : ℕ) → (x2 : Value N) → Gets S C (IsValue x2) → (x3 : Words) → (x4 : List (Value N)) → Gets S C (AreValues x4) → Fine S C (refs.send K x1 x2 x3 x4) IsValue
  unfolding refs.send
  fine_send {C = C} act x g1 verb args g2 = bind_value S (look_follow K S x g1) (λ y. bind_place S (look_place K S law.spots y (got S C (IsValue y))) (λ p. bind_vat S (look_number S) (λ v.
      bind_names S (fine_new_message K S law makes (refs.answer_host K v p) (got_answer_host S K _ v p (got S _ (IsVat v)) (got_left S _ (IsVat v) (IsPlace p) (got S _ (IsPlace p))))) (λ new. sent y p v new.0 new.1))))
    where
      sent : (y : Value N) (p : Place N) (v : ℕ) (id a : N) → Fine S (Also (Also (Also (Also C (IsValue y)) (IsPlace p)) (IsVat v)) (Also (IsMail id) (IsName a))) (tell (Sends act (record { id = id; target = x; verb = verb; args = args; answer = Some a })) >> (refs.send_first K (record { id = id; target = y; verb = verb; args = args; answer = Some a }) y p >> give (Ref a))) IsValue
      sent y p v id a = search (fine, looks, fine_send_first) depth 30

  pub fine_send_only : {C : Fact N} → (x1 : ℕ) → (x2 : Value N) → Gets S C (IsValue x2) → (x3 : Words) → (x4 : List (Value N)) → Gets S C (AreValues x4) → Fine S C (refs.send_only K x1 x2 x3 x4) IsValue
  unfolding refs.send_only
  fine_send_only {C = C} act x g1 verb args g2 = bind_value S (look_follow K S x g1) (λ y. bind_place S (look_place K S law.spots y (got S C (IsValue y))) (λ p. fine_bind S IsMail (fine_lone_message K S law makes) (λ id. sent y p id)))
    where
      sent : (y : Value N) (p : Place N) (id : N) → Fine S (Also (Also (Also C (IsValue y)) (IsPlace p)) (IsMail id)) (tell (Sends act (record { id = id; target = x; verb = verb; args = args; answer = None })) >> (refs.send_first K (record { id = id; target = y; verb = verb; args = args; answer = None }) y p >> give Null)) IsValue
      sent y p id = search (fine, looks, fine_send_first) depth 30

  pub fine_react : {C : Fact N} → (x1 : ℕ) → (x2 : Value N) → Gets S C (IsValue x2) → (x3 : Value N) → Gets S C (IsValue x3) → (x4 : Value N) → Gets S C (IsValue x4) → Fine S C (refs.react K x1 x2 x3 x4) IsValue
  unfolding refs.react refs.reaction
  fine_react {C = C} act x g1 o g2 near g3 = bind_vat S (look_number S) (λ v. bind_names S (fine_new_message K S law makes v (got S C (IsVat v))) (λ new. reacted v new.0 new.1))
    where
      reacted : (v : ℕ) (id a : N) → Fine S (Also (Also C (IsVat v)) (Also (IsMail id) (IsName a))) (tell (Reacts act x o (refs.reaction K id near x a)) >> (look (λ s. refs.place K s (refs.follow K s x)) >>= (λ p. refs.react_at K (refs.reaction K id near x a) p >> give (Ref a)))) IsValue
      reacted v id a = let E : Fact N = Also C (IsVat v) in let M : Fact N = IsMail id in let A : Fact N = IsName a in let D : Fact N = Also E (Also M A) in
          let mail : Gets S D M = got_right S E (Also M A) M (got_left S M A M (got_itself S M)) in
          let name : Gets S D A = got_right S E (Also M A) A (got S M A) in
          let value : Gets S D (IsValue x) = got_left S E (Also M A) (IsValue x) (got_left S C (IsVat v) (IsValue x) g1) in
          let message : Gets S D (IsMessage (refs.reaction K id near x a)) = got_message S D (refs.reaction K id near x a) mail (got_left S E (Also M A) (IsValue near) (got_left S C (IsVat v) (IsValue near) g3)) (got_more S D x [] value (got_none S D)) (got_some S D a name) in
          then_unit S (fine_tell K S law (Reacts act x o (refs.reaction K id near x a))) (bind_place S (look_place_of K S law.spots x value) (λ p.
          then_unit S (fine_react_at K S law (refs.reaction K id near x a) (got_left S D (IsPlace p) (IsMessage (refs.reaction K id near x a)) message) p (got S D (IsPlace p)))
          (fine_give S (Ref a) (got_ref S (Also D (IsPlace p)) a (got_left S D (IsPlace p) A name)))))
