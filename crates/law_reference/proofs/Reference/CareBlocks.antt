-- What a vat does with references, what arrives once it is learnt, and notices, end in a sound state: from how each single change ends,
-- and each block in which something passes to another vat, as a message that goes out with its new answer.
use Rattle.std.proofs.Common.{ℕ, ◌<◌, zero, suc, Bool, true, false, List, [], Option, Some, None, if◌then◌else◌, codes, length}
use Rattle.def_machine.specs.Values.{Words, Value, Broken, Ref, Naming, IsAnswer, IsGift, Null}
use Rattle.def_machine.specs.State.{Happened, Hold, Wait, WaitOn, React, ToTell, Settle, Sends, Reacts, Viewed, Open, Ask, GiftEntry, Vat, ◌>>=◌, ◌>>◌, tell, enqueue, alter, come, new_gift, open_gift, mark, new_message, new_promise, send_out, give, look, is_in, Message, Standing, Settled, Known, Act, new_lone_message}
use Rattle.def_machine.specs.Refs as refs
use Rattle.def_machine.specs.Refs.{Place, Near, Mine, Away, Gone}
use Rattle.def_machine.specs.Arrive as arrive
use Rattle.law_fate.specs.Name.Names.{Named}
use Rattle.law_fate.proofs.Name.Facts.{Fact, Also, IsName, IsMail, IsDraw, IsVat, IsOff, IsEntry, AreEntries, MayEntry, may_map, IsValue, AreValues, IsMessage, AreMessages, IsKnown, IsGiftEntry, IsPlace, IsChange, MayKnown, MayGift, new_names, nothing, MayName}
use Rattle.law_fate.proofs.Name.Care.{Care, Alike, Spots, Gets, Fine, quiet, fine_bind, fine_give, got_entry, bind_name, bind_value, bind_place, bind_names, then_unit, got, got_left, got_right, got_itself, got_message, got_more, got_none, got_ref, got_some}
use Rattle.law_fate.proofs.Name.Looks.{looks, look_follow, look_target, look_entry, look_place, look_place_of}
use Rattle.law_fate.proofs.Name.CareRefs.{GoodSettler}
use Rattle.law_fate.proofs.Name.Serves.{Serves, Closing}
use Rattle.law_reference.proofs.Reference.CareYields.{Fits, fits_fine, bind_yielded}

-- How each single change ends, and each note in which nothing passes. The answer of a message is made where its host is one of these.
pub record Changes {N W : Type 0} (K : Naming N W) (S : Care N) (Here : ℕ → Type 0) : Type 1 where
  pub spots : Spots K S
  pub alike : Alike S
  pub object : (s : Vat N) (i : ℕ) → i < length s.things → S.ok s (Named (K.object i))
  pub tells : (C : Fact N) (e : Happened N) → Fine S C (tell e) nothing
  pub queues : (C : Fact N) (m : Message N) → Gets S C (IsMessage m) → Fine S C (enqueue m) nothing
  pub holds : (C : Fact N) (m : Message N) (n : N) → Gets S C (IsChange (Hold m)) → Fine S C (alter K (Hold m) n) nothing
  pub waits : (C : Fact N) (q n : N) → Gets S C (IsChange (Wait q)) → Fine S C (alter K (Wait q) n) nothing
  pub waits_on : (C : Fact N) (q n : N) → Gets S C (IsChange (WaitOn q)) → Fine S C (alter K (WaitOn q) n) nothing
  pub reacts : (C : Fact N) (m : Message N) (n : N) → Gets S C (IsChange (React m)) → Fine S C (alter K (React m) n) nothing
  pub to_tell : (C : Fact N) (w : ℕ) (n : N) → Gets S C (IsName n) → Fine S C (alter K (ToTell w) n) nothing
  pub settles : (C : Fact N) (y : Value N) (n : N) → Gets S C (IsChange (Settle y)) → Fine S C (alter K (Settle y) n) nothing
  pub answers : (C : Fact N) (h : ℕ) (m : N) → Here h → Gets S C (IsMail m) → Gets S C (IsVat h) → Fine S C (come K (IsAnswer h m) h) IsName
  pub gifts : (C : Fact N) (h i : ℕ) → Gets S C (IsDraw i) → Gets S C (IsVat h) → Fine S C (come K (IsGift h i) h) IsName
  pub gives : (C : Fact N) (n : N) (p i : ℕ) → Gets S C (IsName n) → Gets S C (IsDraw i) → Fine S C (new_gift n p i) nothing
  pub opened : (C : Fact N) (p i : ℕ) → Fine S C (open_gift p i) nothing
  pub marks : (C : Fact N) (w : ℕ) → Fine S C (mark w) nothing
  pub messages : (C : Fact N) (h : ℕ) → Here h → Gets S C (IsVat h) → Fine S C (new_message K h) new_names
  pub lones : (C : Fact N) → Fine S C (new_lone_message K) IsMail
  pub promises : (C : Fact N) → Fine S C (new_promise K) IsName
  -- the vat is at hand
  pub numbers : {A : Type 0} (C : Fact N) (f : ℕ → Act N A) (H : A → Fact N) → ((u : ℕ) → Here u → Fine S (Also C (IsVat u)) (f u) H) → Fine S C (look (λ s. s.number) >>= f) H
  pub asks : (C : Fact N) (to p i : ℕ) (n : N) → Gets S C (IsDraw i) → Gets S C (IsName n) → Fine S C (send_out to (Ask p i n)) nothing
  pub opens : (C : Fact N) (to i : ℕ) (n : N) → Gets S C (IsDraw i) → Gets S C (IsName n) → Fine S C (send_out to (Open i n)) nothing

-- a new message with its answer, or with none, and where it goes
abbrev pub Sending : {N W : Type 0} → Naming N W → (Message N → Act N (Unit {0})) → ℕ → Value N → Value N → Words → List (Value N) → ℕ → Act N (Value N)
Sending K go act x y verb args h = new_message K h >>= (λ new. tell (Sends act (record { id = new.0; target = x; verb = verb; args = args; answer = Some new.1 })) >> (go (record { id = new.0; target = y; verb = verb; args = args; answer = Some new.1 }) >> give (Ref new.1)))

abbrev pub SendingOnly : {N W : Type 0} → Naming N W → (Message N → Act N (Unit {0})) → ℕ → Value N → Value N → Words → List (Value N) → Act N (Value N)
SendingOnly K go act x y verb args = new_lone_message K >>= (λ id. tell (Sends act (record { id = id; target = x; verb = verb; args = args; answer = None })) >> (go (record { id = id; target = y; verb = verb; args = args; answer = None }) >> give Null))

-- How each block ends in which something passes to another vat.
pub record Blocks {N W : Type 0} (K : Naming N W) (S : Care N) : Type 0 where
  pub passes_on : (C : Fact N) (m : Message N) → Gets S C (IsMessage m) → (h : ℕ) → Gets S C (IsOff h) → (n : N) → Gets S C (IsName n) → Fine S C (refs.pass_on K m h n) nothing
  pub sends_away : (C : Fact N) (act : ℕ) (x y : Value N) → Gets S C (IsValue y) → (verb : Words) (args : List (Value N)) → Gets S C (AreValues args) → (h : ℕ) → Gets S C (IsOff h) → (n : N) → Gets S C (IsName n) → Fine S C (Sending K (λ m. refs.deliver K m h n) act x y verb args h) IsValue
  pub lone_away : (C : Fact N) (act : ℕ) (x y : Value N) → Gets S C (IsValue y) → (verb : Words) (args : List (Value N)) → Gets S C (AreValues args) → (h : ℕ) → Gets S C (IsOff h) → (n : N) → Gets S C (IsName n) → Fine S C (SendingOnly K (λ m. refs.deliver K m h n) act x y verb args) IsValue
  pub informs : (C : Fact N) (p : N) → Gets S C (IsName p) → (w : ℕ) (y : Value N) → Gets S C (IsValue y) → (q : Place N) → Gets S C (IsPlace q) → Fine S C (refs.inform_of K p w y q) nothing

-- a new message ends in a sound state where it goes so, by what its name and its answer say of themselves
module _ {N W : Type 0} (K : Naming N W) (S : Care N) (tells : (C : Fact N) (e : Happened N) → Fine S C (tell e) nothing) {C : Fact N} (go : Message N → Act N (Unit {0})) (act : ℕ) (x y : Value N) (g : Gets S C (IsValue y)) (verb : Words) (args : List (Value N)) (k : Gets S C (AreValues args)) where
  pub sent_by : (Q : N → N → Type 0) (h : ℕ) → Fits S C (new_message K h) new_names (λ new. Q new.0 new.1)
      → ((id a : N) → Q id a → let m : Message N = record { id = id; target = y; verb = verb; args = args; answer = Some a } in Gets S (Also C (Also (IsMail id) (IsName a))) (IsMessage m) → Fine S (Also C (Also (IsMail id) (IsName a))) (go m) nothing)
      → Fine S C (Sending K go act x y verb args h) IsValue
  sent_by Q h new goes = bind_yielded S new_names (λ new. Q new.0 new.1) new (λ new q. then_unit S (tells _ _) (then_unit S (goes new.0 new.1 q (record { at = λ s c. (c.1.0, g.at s c.0, k.at s c.0, c.1.1) })) (fine_give S (Ref new.1) (record { at = λ s c. c.1.1 }))))

  pub sent_only_by : Fine S C (new_lone_message K) IsMail
      → ((id : N) → let m : Message N = record { id = id; target = y; verb = verb; args = args; answer = None } in Gets S (Also C (IsMail id)) (IsMessage m) → Fine S (Also C (IsMail id)) (go m) nothing)
      → Fine S C (SendingOnly K go act x y verb args) IsValue
  sent_only_by new goes = fine_bind S IsMail new (λ id. then_unit S (tells _ _) (then_unit S (goes id (record { at = λ s c. (c.1, g.at s c.0, k.at s c.0, tt) })) (fine_give S Null (record { at = λ s c. tt }))))

module _ {N W : Type 0} (K : Naming N W) (S : Care N) (Here : ℕ → Type 0) (changes : Changes K S Here) where
  put_tell : {C : Fact N} (e : Happened N) → Fine S C (tell e) nothing
  put_tell {C = C} e = changes.tells C e

  put_enqueue : {C : Fact N} (m : Message N) → Gets S C (IsMessage m) → Fine S C (enqueue m) nothing
  put_enqueue {C = C} m g = changes.queues C m g

  put_hold : {C : Fact N} (m : Message N) (n : N) → Gets S C (IsChange (Hold m)) → Fine S C (alter K (Hold m) n) nothing
  put_hold {C = C} m n g = changes.holds C m n g

  put_wait : {C : Fact N} (q n : N) → Gets S C (IsChange (Wait q)) → Fine S C (alter K (Wait q) n) nothing
  put_wait {C = C} q n g = changes.waits C q n g

  put_waits_on : {C : Fact N} (q n : N) → Gets S C (IsChange (WaitOn q)) → Fine S C (alter K (WaitOn q) n) nothing
  put_waits_on {C = C} q n g = changes.waits_on C q n g

  put_reacts : {C : Fact N} (m : Message N) (n : N) → Gets S C (IsChange (React m)) → Fine S C (alter K (React m) n) nothing
  put_reacts {C = C} m n g = changes.reacts C m n g

  put_to_tell : {C : Fact N} (w : ℕ) (n : N) → Gets S C (IsName n) → Fine S C (alter K (ToTell w) n) nothing
  put_to_tell {C = C} w n g = changes.to_tell C w n g

  put_settles : {C : Fact N} (y : Value N) (n : N) → Gets S C (IsChange (Settle y)) → Fine S C (alter K (Settle y) n) nothing
  put_settles {C = C} y n g = changes.settles C y n g

  put_gift : {C : Fact N} (h i : ℕ) → Gets S C (IsDraw i) → Gets S C (IsVat h) → Fine S C (come K (IsGift h i) h) IsName
  put_gift {C = C} h i g k = changes.gifts C h i g k

  put_new_gift : {C : Fact N} (n : N) (p i : ℕ) → Gets S C (IsName n) → Gets S C (IsDraw i) → Fine S C (new_gift n p i) nothing
  put_new_gift {C = C} n p i g k = changes.gives C n p i g k

  put_open_gift : {C : Fact N} (p i : ℕ) → Fine S C (open_gift p i) nothing
  put_open_gift {C = C} p i = changes.opened C p i

  put_mark : {C : Fact N} (w : ℕ) → Fine S C (mark w) nothing
  put_mark {C = C} w = changes.marks C w

  put_ask : {C : Fact N} (to p i : ℕ) (n : N) → Gets S C (IsDraw i) → Gets S C (IsName n) → Fine S C (send_out to (Ask p i n)) nothing
  put_ask {C = C} to p i n g k = changes.asks C to p i n g k

  put_open : {C : Fact N} (to i : ℕ) (n : N) → Gets S C (IsDraw i) → Gets S C (IsName n) → Fine S C (send_out to (Open i n)) nothing
  put_open {C = C} to i n g k = changes.opens C to i n g k

  ruleset putting = (quiet, put_tell, put_enqueue, put_hold, put_wait, put_waits_on, put_reacts, put_to_tell, put_settles, put_gift, put_new_gift, put_open_gift, put_mark, put_ask, put_open)

  place_here : {C : Fact N} (y : Value N) → Gets S C (IsValue y) → Fine S C (look (λ s. refs.place K s y)) IsPlace
  place_here y g = look_place K S changes.spots y g

  place_of_here : {C : Fact N} (x : Value N) → Gets S C (IsValue x) → Fine S C (look (λ s. refs.place K s (refs.follow K s x))) IsPlace
  place_of_here x g = look_place_of K S changes.spots x g

  pub put_wait_on : {C : Fact N} → (x1 : N) → Gets S C (IsName x1) → (x2 : N) → Gets S C (IsName x2) → Fine S C (refs.wait_on K x1 x2) nothing
  unfolding refs.wait_on
  put_wait_on {C = C} p n0 q n1 = search (putting, looks) depth 30

  module _ (blocks : Blocks K S) where
    put_pass_on : {C : Fact N} (m : Message N) → Gets S C (IsMessage m) → (h : ℕ) → Gets S C (IsOff h) → (n : N) → Gets S C (IsName n) → Fine S C (refs.pass_on K m h n) nothing
    put_pass_on {C = C} m g h o n k = blocks.passes_on C m g h o n k

    put_inform_of : {C : Fact N} (p : N) → Gets S C (IsName p) → (w : ℕ) (y : Value N) → Gets S C (IsValue y) → (q : Place N) → Gets S C (IsPlace q) → Fine S C (refs.inform_of K p w y q) nothing
    put_inform_of {C = C} p g w y k q l = blocks.informs C p g w y k q l

    pub put_send_to : {C : Fact N} → (x1 : N → Value N → Act N (Unit {0})) → GoodSettler S x1 → (x2 : Message N) → Gets S C (IsMessage x2) → (x3 : Value N) → Gets S C (IsValue x3) → (x4 : Place N) → Gets S C (IsPlace x4) → Fine S C (refs.send_to K x1 x2 x3 x4) nothing
    unfolding refs.send_to
    put_send_to {C = C} settle h1 m g1 y g2 (Mine n) p6 = let mi_m : Gets S C (IsMail m.id) = record { at = λ s h. (g1.at s h).0 } in let mt_m : Gets S C (IsValue m.target) = record { at = λ s h. (g1.at s h).1 } in let ma_m : Gets S C (AreValues m.args) = record { at = λ s h. (g1.at s h).2 } in let mr_m : Gets S C (MayName m.answer) = record { at = λ s h. (g1.at s h).3 } in let pn6 : Gets S C (IsName n) = record { at = λ s h. p6.at s h } in search (putting, looks) depth 30
    put_send_to {C = C} settle h1 m g1 y g2 (Away h n o) p6 = let mi_m : Gets S C (IsMail m.id) = record { at = λ s h. (g1.at s h).0 } in let mt_m : Gets S C (IsValue m.target) = record { at = λ s h. (g1.at s h).1 } in let ma_m : Gets S C (AreValues m.args) = record { at = λ s h. (g1.at s h).2 } in let mr_m : Gets S C (MayName m.answer) = record { at = λ s h. (g1.at s h).3 } in let pn6 : Gets S C (IsName n) = record { at = λ s h. (p6.at s h).0 } in let po : Gets S C (IsOff h) = record { at = λ s h. (p6.at s h).1 } in search (putting, looks, put_pass_on) depth 30
    put_send_to {C = C} settle h1 m g1 y g2 other p6 = let mi_m : Gets S C (IsMail m.id) = record { at = λ s h. (g1.at s h).0 } in let mt_m : Gets S C (IsValue m.target) = record { at = λ s h. (g1.at s h).1 } in let ma_m : Gets S C (AreValues m.args) = record { at = λ s h. (g1.at s h).2 } in let mr_m : Gets S C (MayName m.answer) = record { at = λ s h. (g1.at s h).3 } in search (putting, looks) depth 30

    pub put_send_on : {C : Fact N} → (x1 : N → Value N → Act N (Unit {0})) → GoodSettler S x1 → (x2 : Message N) → Gets S C (IsMessage x2) → Fine S C (refs.send_on K x1 x2) nothing
    unfolding refs.send_on
    put_send_on {C = C} settle h1 m g1 = let mi_m : Gets S C (IsMail m.id) = record { at = λ s h. (g1.at s h).0 } in let mt_m : Gets S C (IsValue m.target) = record { at = λ s h. (g1.at s h).1 } in let ma_m : Gets S C (AreValues m.args) = record { at = λ s h. (g1.at s h).2 } in let mr_m : Gets S C (MayName m.answer) = record { at = λ s h. (g1.at s h).3 } in search (putting, looks, place_here, put_send_to) depth 30

    pub put_inform : {C : Fact N} → (x1 : N) → Gets S C (IsName x1) → (x2 : ℕ) → Fine S C (refs.inform K x1 x2) nothing
    unfolding refs.inform
    put_inform {C = C} p n0 w = search (putting, looks, place_here, put_inform_of) depth 30

    pub put_settle_known : {C : Fact N} → (x1 : N → Value N → Act N (Unit {0})) → GoodSettler S x1 → (x2 : N) → Gets S C (IsEntry x2) → (x3 : Value N) → Gets S C (IsValue x3) → (x4 : Known N) → Gets S C (IsKnown x4) → Fine S C (refs.settle_known K x1 x2 x3 x4) nothing
    unfolding refs.settle_known
    put_settle_known {C = C} settle h1 p n2 y g1 k g2 = let np : Gets S C (IsName p) = record { at = λ s h. changes.alike.named s p (n2.at s h) } in let kh_k : Gets S C (AreMessages k.held) = record { at = λ s h. (g2.at s h).2 } in let kw_k : Gets S C (AreEntries k.waiting) = record { at = λ s h. (g2.at s h).3 } in let kr_k : Gets S C (AreMessages k.reactions) = record { at = λ s h. (g2.at s h).4 } in search (putting, looks, put_send_on, put_inform) depth 30

    pub put_settle_standing : {C : Fact N} → (x1 : N → Value N → Act N (Unit {0})) → GoodSettler S x1 → (x2 : N) → Gets S C (IsEntry x2) → (x3 : Value N) → Gets S C (IsValue x3) → (x4 : Known N) → Gets S C (IsKnown x4) → (x5 : Standing N) → Fine S C (refs.settle_standing K x1 x2 x3 x4 x5) nothing
    unfolding refs.settle_standing
    put_settle_standing {C = C} settle h1 p n2 y g1 k g2 (Settled z) = let kh_k : Gets S C (AreMessages k.held) = record { at = λ s h. (g2.at s h).2 } in let kw_k : Gets S C (AreEntries k.waiting) = record { at = λ s h. (g2.at s h).3 } in let kr_k : Gets S C (AreMessages k.reactions) = record { at = λ s h. (g2.at s h).4 } in search (putting, looks) depth 30
    put_settle_standing {C = C} settle h1 p n2 y g1 k g2 _ = let kh_k : Gets S C (AreMessages k.held) = record { at = λ s h. (g2.at s h).2 } in let kw_k : Gets S C (AreEntries k.waiting) = record { at = λ s h. (g2.at s h).3 } in let kr_k : Gets S C (AreMessages k.reactions) = record { at = λ s h. (g2.at s h).4 } in search (putting, looks, put_settle_known) depth 30

    pub put_settle_entry : {C : Fact N} → (x1 : N → Value N → Act N (Unit {0})) → GoodSettler S x1 → (x2 : N) → Gets S C (IsEntry x2) → (x3 : Value N) → Gets S C (IsValue x3) → (x4 : Option (Known N)) → Gets S C (MayKnown x4) → Fine S C (refs.settle_entry K x1 x2 x3 x4) nothing
    unfolding refs.settle_entry
    put_settle_entry {C = C} settle h1 p n2 y g1 None g2 = search (putting, looks) depth 30
    put_settle_entry {C = C} settle h1 p n2 y g1 (Some k) g2 = let d_g2 : Gets S C (IsKnown k) = record { at = λ s h. (g2.at s h) } in search (putting, looks, put_settle_standing) depth 30

    pub put_settle_one : {C : Fact N} → (x1 : N → Value N → Act N (Unit {0})) → GoodSettler S x1 → (x2 : N) → Gets S C (IsEntry x2) → (x3 : Value N) → Gets S C (IsValue x3) → Fine S C (refs.settle_one K x1 x2 x3) nothing
    unfolding refs.settle_one
    put_settle_one {C = C} settle h1 p n2 x g1 = bind_value S (look_target K S p x g1) (λ y. fine_bind S (MayEntry p) (look_entry K S changes.spots p) (λ k. put_settle_entry settle h1 p (record { at = λ s c. n2.at s c.0.0 }) y (record { at = λ s c. c.0.1 }) k (record { at = λ s c. may_map (λ j h. h.0) k c.1 })))

    pub put_settle_at : {C : Fact N} → (x1 : ℕ) → (x2 : N) → Gets S C (IsEntry x2) → (x3 : Value N) → Gets S C (IsValue x3) → Fine S C (refs.settle_at K x1 x2 x3) nothing
    unfolding refs.settle_at
    put_settle_at {C = C} zero p n1 y g1 = search (putting, looks) depth 30
    put_settle_at {C = C} (suc d) p n1 y g1 = put_settle_one (λ q z. refs.settle_at K d q z) (λ D q n z g. put_settle_at {C = D} d q n z g) p n1 y g1

    pub put_settle : {C : Fact N} → (x1 : N) → Gets S C (IsEntry x1) → (x2 : Value N) → Gets S C (IsValue x2) → Fine S C (refs.settle K x1 x2) nothing
    unfolding refs.settle
    put_settle {C = C} p n0 y g1 = search (putting, looks, put_settle_at) depth 30

    pub put_wait_unless_cycle : {C : Fact N} → (x1 : N) → Gets S C (IsName x1) → (x2 : N) → Gets S C (IsName x2) → Fine S C (refs.wait_unless_cycle K x1 x2) nothing
    unfolding refs.wait_unless_cycle
    put_wait_unless_cycle {C = C} p n0 q n1 = search (putting, looks, put_settle, put_wait_on) depth 30

    pub put_resolve_to : {C : Fact N} → (x1 : N) → Gets S C (IsName x1) → (x2 : Value N) → Gets S C (IsValue x2) → (x3 : Place N) → Gets S C (IsPlace x3) → Fine S C (refs.resolve_to K x1 x2 x3) nothing
    unfolding refs.resolve_to
    put_resolve_to {C = C} p n0 y g1 (Mine q) p3 = let pn3 : Gets S C (IsName q) = record { at = λ s h. p3.at s h } in search (putting, looks, put_wait_unless_cycle) depth 30
    put_resolve_to {C = C} p n0 y g1 (Away h q false) p3 = let pn3 : Gets S C (IsName q) = record { at = λ s h. (p3.at s h).0 } in let po : Gets S C (IsOff h) = record { at = λ s h. (p3.at s h).1 } in search (putting, looks, put_wait_unless_cycle) depth 30
    put_resolve_to {C = C} p n0 y g1 _ p3 = search (putting, looks, put_settle) depth 30

    pub put_resolve : {C : Fact N} → (x1 : N) → Gets S C (IsName x1) → (x2 : Value N) → Gets S C (IsValue x2) → Fine S C (refs.resolve K x1 x2) nothing
    unfolding refs.resolve
    put_resolve {C = C} p n0 x g1 = search (putting, looks, place_here, put_resolve_to) depth 30

    pub put_react_at : {C : Fact N} → (x1 : Message N) → Gets S C (IsMessage x1) → (x2 : Place N) → Gets S C (IsPlace x2) → Fine S C (refs.react_at K x1 x2) nothing
    unfolding refs.react_at
    put_react_at {C = C} m g1 (Mine n) p2 = let mi_m : Gets S C (IsMail m.id) = record { at = λ s h. (g1.at s h).0 } in let mt_m : Gets S C (IsValue m.target) = record { at = λ s h. (g1.at s h).1 } in let ma_m : Gets S C (AreValues m.args) = record { at = λ s h. (g1.at s h).2 } in let mr_m : Gets S C (MayName m.answer) = record { at = λ s h. (g1.at s h).3 } in let pn2 : Gets S C (IsName n) = record { at = λ s h. p2.at s h } in search (putting, looks) depth 30
    put_react_at {C = C} m g1 (Away h n false) p2 = let mi_m : Gets S C (IsMail m.id) = record { at = λ s h. (g1.at s h).0 } in let mt_m : Gets S C (IsValue m.target) = record { at = λ s h. (g1.at s h).1 } in let ma_m : Gets S C (AreValues m.args) = record { at = λ s h. (g1.at s h).2 } in let mr_m : Gets S C (MayName m.answer) = record { at = λ s h. (g1.at s h).3 } in let pn2 : Gets S C (IsName n) = record { at = λ s h. (p2.at s h).0 } in let po : Gets S C (IsOff h) = record { at = λ s h. (p2.at s h).1 } in search (putting, looks) depth 30
    put_react_at {C = C} m g1 _ p2 = let mi_m : Gets S C (IsMail m.id) = record { at = λ s h. (g1.at s h).0 } in let mt_m : Gets S C (IsValue m.target) = record { at = λ s h. (g1.at s h).1 } in let ma_m : Gets S C (AreValues m.args) = record { at = λ s h. (g1.at s h).2 } in let mr_m : Gets S C (MayName m.answer) = record { at = λ s h. (g1.at s h).3 } in search (putting, looks) depth 30

    -- a message whose target is not away goes nowhere at first
    here_sent : {C : Fact N} (act : ℕ) (x y : Value N) (verb : Words) (args : List (Value N)) (p : Place N) → Gets S C (IsValue y) → Gets S C (AreValues args) → Gets S C (IsPlace p)
        → Fine S C (look (λ s. s.number) >>= (λ v. Sending K (λ m. refs.send_to K (refs.settle K) m y p) act x y verb args v)) IsValue
    here_sent {C = C} act x y verb args p g k l = changes.numbers C _ IsValue (λ v here. sent_by K S (λ D e. changes.tells D e) (λ m. refs.send_to K (refs.settle K) m y p) act x y (record { at = λ s c. g.at s c.0 }) verb args (record { at = λ s c. k.at s c.0 }) (λ id a. Unit {0}) v
        (fits_fine S (changes.messages (Also C (IsVat v)) v here (got S C (IsVat v)))) (λ id a q i. put_send_to (refs.settle K) (λ E q i z j. put_settle q i z j) _ i y (record { at = λ s c. g.at s c.0.0 }) p (record { at = λ s c. l.at s c.0.0 })))

    -- and one whose target is away goes out behind its answer
    sent_placed : {C : Fact N} (act : ℕ) (x y : Value N) (verb : Words) (args : List (Value N)) (p : Place N) → Gets S C (IsValue y) → Gets S C (AreValues args) → Gets S C (IsPlace p)
        → Fine S C (look (λ s. s.number) >>= (λ v. Sending K (λ m. refs.send_first K m y p) act x y verb args (refs.answer_host K v p))) IsValue
    unfolding refs.answer_host refs.send_first
    sent_placed {C = C} act x y verb args (Away h n o) g k l = changes.numbers C _ IsValue (λ v here. blocks.sends_away (Also C (IsVat v)) act x y (record { at = λ s c. g.at s c.0 }) verb args (record { at = λ s c. k.at s c.0 }) h (record { at = λ s c. (l.at s c.0).1 }) n (record { at = λ s c. (l.at s c.0).0 }))
    sent_placed act x y verb args Near g k l = here_sent act x y verb args Near g k l
    sent_placed act x y verb args (Mine n) g k l = here_sent act x y verb args (Mine n) g k l
    sent_placed act x y verb args (Gone t) g k l = here_sent act x y verb args (Gone t) g k l

    pub put_send : {C : Fact N} → (x1 : ℕ) → (x2 : Value N) → Gets S C (IsValue x2) → (x3 : Words) → (x4 : List (Value N)) → Gets S C (AreValues x4) → Fine S C (refs.send K x1 x2 x3 x4) IsValue
    unfolding refs.send
    put_send {C = C} act x g1 verb args g2 = bind_value S (look_follow K S x g1) (λ y. bind_place S (look_place K S changes.spots y (got S C (IsValue y))) (λ p.
        sent_placed act x y verb args p (record { at = λ s c. c.0.1 }) (record { at = λ s c. g2.at s c.0.0 }) (record { at = λ s c. c.1 })))

    -- the same without an answer
    here_lone : {C : Fact N} (act : ℕ) (x y : Value N) (verb : Words) (args : List (Value N)) (p : Place N) → Gets S C (IsValue y) → Gets S C (AreValues args) → Gets S C (IsPlace p)
        → Fine S C (SendingOnly K (λ m. refs.send_to K (refs.settle K) m y p) act x y verb args) IsValue
    here_lone {C = C} act x y verb args p g k l = sent_only_by K S (λ D e. changes.tells D e) (λ m. refs.send_to K (refs.settle K) m y p) act x y g verb args k (changes.lones C)
        (λ id i. put_send_to (refs.settle K) (λ E q i z j. put_settle q i z j) _ i y (record { at = λ s c. g.at s c.0 }) p (record { at = λ s c. l.at s c.0 }))

    lone_placed : {C : Fact N} (act : ℕ) (x y : Value N) (verb : Words) (args : List (Value N)) (p : Place N) → Gets S C (IsValue y) → Gets S C (AreValues args) → Gets S C (IsPlace p)
        → Fine S C (SendingOnly K (λ m. refs.send_first K m y p) act x y verb args) IsValue
    unfolding refs.send_first
    lone_placed {C = C} act x y verb args (Away h n o) g k l = blocks.lone_away C act x y g verb args k h (record { at = λ s c. (l.at s c).1 }) n (record { at = λ s c. (l.at s c).0 })
    lone_placed act x y verb args Near g k l = here_lone act x y verb args Near g k l
    lone_placed act x y verb args (Mine n) g k l = here_lone act x y verb args (Mine n) g k l
    lone_placed act x y verb args (Gone t) g k l = here_lone act x y verb args (Gone t) g k l

    pub put_send_only : {C : Fact N} → (x1 : ℕ) → (x2 : Value N) → Gets S C (IsValue x2) → (x3 : Words) → (x4 : List (Value N)) → Gets S C (AreValues x4) → Fine S C (refs.send_only K x1 x2 x3 x4) IsValue
    unfolding refs.send_only
    put_send_only {C = C} act x g1 verb args g2 = bind_value S (look_follow K S x g1) (λ y. bind_place S (look_place K S changes.spots y (got S C (IsValue y))) (λ p.
        lone_placed act x y verb args p (record { at = λ s c. c.0.1 }) (record { at = λ s c. g2.at s c.0.0 }) (record { at = λ s c. c.1 })))

    pub put_react : {C : Fact N} → (x1 : ℕ) → (x2 : Value N) → Gets S C (IsValue x2) → (x3 : Value N) → Gets S C (IsValue x3) → (x4 : Value N) → Gets S C (IsValue x4) → Fine S C (refs.react K x1 x2 x3 x4) IsValue
    unfolding refs.react refs.reaction
    put_react {C = C} act x g1 o g2 near g3 = changes.numbers C _ IsValue (λ v here. bind_names S (changes.messages (Also C (IsVat v)) v here (got S C (IsVat v))) (λ new. reacted v new.0 new.1))
      where
        reacted : (v : ℕ) (id a : N) → Fine S (Also (Also C (IsVat v)) (Also (IsMail id) (IsName a))) (tell (Reacts act x o (refs.reaction K id near x a)) >> (look (λ s. refs.place K s (refs.follow K s x)) >>= (λ p. refs.react_at K (refs.reaction K id near x a) p >> give (Ref a)))) IsValue
        reacted v id a = let E : Fact N = Also C (IsVat v) in let M : Fact N = IsMail id in let A : Fact N = IsName a in let D : Fact N = Also E (Also M A) in
            let mail : Gets S D M = got_right S E (Also M A) M (got_left S M A M (got_itself S M)) in
            let name : Gets S D A = got_right S E (Also M A) A (got S M A) in
            let value : Gets S D (IsValue x) = got_left S E (Also M A) (IsValue x) (got_left S C (IsVat v) (IsValue x) g1) in
            let message : Gets S D (IsMessage (refs.reaction K id near x a)) = got_message S D (refs.reaction K id near x a) mail (got_left S E (Also M A) (IsValue near) (got_left S C (IsVat v) (IsValue near) g3)) (got_more S D x [] value (got_none S D)) (got_some S D a name) in
            then_unit S (put_tell (Reacts act x o (refs.reaction K id near x a))) (bind_place S (look_place_of K S changes.spots x value) (λ p.
            then_unit S (put_react_at (refs.reaction K id near x a) (got_left S D (IsPlace p) (IsMessage (refs.reaction K id near x a)) message) p (got S D (IsPlace p)))
            (fine_give S (Ref a) (got_ref S (Also D (IsPlace p)) a (got_left S D (IsPlace p) A name)))))

    -- ---- gifts, what arrives once it is learnt, and notices

    pub put_ask_for : {C : Fact N} → (p h i : ℕ) → Gets S C (IsDraw i) → (n : N) → Gets S C (IsName n) → Fine S C (arrive.ask_for K p h i n) nothing
    unfolding arrive.ask_for
    put_ask_for {C = C} p h i g1 n g2 = search (putting, looks, put_settle) depth 30

    pub put_learn_gift : {C : Fact N} → (p h i : ℕ) → Gets S C (IsDraw i) → Gets S C (IsVat h) → Fine S C (arrive.learn_gift K p h i) IsValue
    unfolding arrive.learn_gift
    put_learn_gift {C = C} p h i g1 g2 = search (putting, looks, put_ask_for) depth 30

    pub put_make_list : {C : Fact N} → (vs : _) → Gets S C (AreValues vs) → Fine S C (arrive.make_list K vs) IsValue
    unfolding arrive.make_list
    put_make_list {C = C} vs g1 = search (putting, looks) depth 30

    pub put_gift_or_new : {C : Fact N} → (v : ℕ) → Gets S C (IsVat v) → (p i : ℕ) → Gets S C (IsDraw i) → (o : Option (GiftEntry N)) → Gets S C (MayGift o) → Fine S C (arrive.gift_or_new K v p i o) IsName
    unfolding arrive.gift_or_new
    put_gift_or_new {C = C} v g0 p i g1 (Some g) g2 = let gn : Gets S C (IsName g.name) = record { at = λ s h. changes.alike.named s g.name (S.owned s g.name g.number (g2.at s h).0) } in search (putting, looks) depth 30
    put_gift_or_new {C = C} v g0 p i g1 None g2 = search (putting, looks) depth 30

    pub put_have_gift : {C : Fact N} → (p i : ℕ) → Gets S C (IsDraw i) → Fine S C (arrive.have_gift K p i) IsName
    unfolding arrive.have_gift
    put_have_gift {C = C} p i g1 = search (putting, looks, put_gift_or_new) depth 30

    pub put_break_at : {C : Fact N} → (n : N) → Gets S C (IsName n) → (p : Words) → (t : Standing N) → Fine S C (arrive.break_at K n p t) nothing
    unfolding arrive.break_at
    put_break_at {C = C} n g1 p (Settled y) = search (putting, looks) depth 30
    put_break_at {C = C} n g1 p _ = search (putting, looks, put_settle) depth 30

    pub put_break_unopened : {C : Fact N} → (n : N) → Gets S C (IsName n) → (b : Bool) → Fine S C (arrive.break_unopened K n b) nothing
    unfolding arrive.break_unopened
    put_break_unopened {C = C} n g1 true = search (putting, looks) depth 30
    put_break_unopened {C = C} n g1 false = search (putting, looks, put_break_at) depth 30

    pub put_tell_asker : {C : Fact N} → (n : N) → Gets S C (IsName n) → (w : ℕ) → (t : Standing N) → Fine S C (arrive.tell_asker K n w t) nothing
    unfolding arrive.tell_asker
    put_tell_asker {C = C} n g1 w (Settled y) = search (putting, looks, put_inform) depth 30
    put_tell_asker {C = C} n g1 w _ = search (putting, looks) depth 30

    pub put_break_orphan : {C : Fact N} → (p i : ℕ) → (n : N) → Gets S C (IsName n) → Fine S C (arrive.break_orphan K p i n) nothing
    unfolding arrive.break_orphan
    put_break_orphan {C = C} p i n g1 = search (putting, looks, put_break_unopened) depth 30

    pub put_arrive_ask : {C : Fact N} → (from p i : ℕ) → Gets S C (IsDraw i) → Fine S C (arrive.arrive_ask K from p i) nothing
    unfolding arrive.arrive_ask
    put_arrive_ask {C = C} from p i g1 = search (putting, looks, put_have_gift, put_break_orphan, put_tell_asker) depth 30

    pub put_gift_there : {C : Fact N} → (v h c i : ℕ) → Gets S C (IsVat c) → Gets S C (IsDraw i) → Fine S C (arrive.gift_there K v h c i) IsName
    unfolding arrive.gift_there
    put_gift_there {C = C} v h c i g0 g1 = search (putting, looks, put_have_gift) depth 30

    pub put_shorten_to : {C : Fact N} → (i : ℕ) → Gets S C (IsDraw i) → (p : Place N) → Gets S C (IsPlace p) → Fine S C (arrive.shorten_to K i p) nothing
    unfolding arrive.shorten_to
    put_shorten_to {C = C} i g1 (Away h n true) g2 = let gn : Gets S C (IsName n) = record { at = λ s h. (g2.at s h).0 } in search (putting, looks) depth 30
    put_shorten_to {C = C} i g1 _ g2 = search (putting, looks) depth 30

    pub put_break_hosted : {C : Fact N} → (w : ℕ) → (n : N) → Gets S C (IsName n) → (p : Words) → (t : Standing N) → Fine S C (arrive.break_hosted K w n p t) nothing
    unfolding arrive.break_hosted
    put_break_hosted {C = C} w n g1 p (Viewed q) = search (putting, looks) depth 30
    put_break_hosted {C = C} w n g1 p (Settled y) = search (putting, looks) depth 30
    put_break_hosted {C = C} w n g1 p other = search (putting, looks, put_settle) depth 30

    pub put_notice_name : {C : Fact N} → (w : ℕ) → (k : Known N) → Gets S C (IsKnown k) → Fine S C (arrive.notice_name K w k) nothing
    unfolding arrive.notice_name
    put_notice_name {C = C} w k g1 = let gn : Gets S C (IsName k.name) = record { at = λ s h. changes.alike.named s k.name (g1.at s h).0 } in search (putting, looks, put_break_hosted) depth 30

    pub put_notice_gift : {C : Fact N} → (w : ℕ) → (g : GiftEntry N) → Gets S C (IsGiftEntry g) → Fine S C (arrive.notice_gift K w g) nothing
    unfolding arrive.notice_gift
    put_notice_gift {C = C} w g g1 = let gn : Gets S C (IsName g.name) = record { at = λ s h. changes.alike.named s g.name (S.owned s g.name g.number (g1.at s h).0) } in search (putting, looks, put_break_unopened) depth 30

    pub put_notice_all : {C : Fact N} → (w : ℕ) → Fine S C (arrive.notice_all K w) nothing
    unfolding arrive.notice_all
    put_notice_all {C = C} w = search (putting, looks, put_notice_name, put_notice_gift) depth 30

    pub put_notice : {C : Fact N} → (w : ℕ) → Fine S C (arrive.notice K w) nothing
    unfolding arrive.notice
    put_notice {C = C} w = search (putting, looks, put_notice_all) depth 30

    -- ---- what follows once a note is learnt

    put_answered : {C : Fact N} → (from : ℕ) → (id : N) → Gets S C (IsMail id) → (n : N) → Gets S C (IsName n) → (verb : Words) → (args : List (Value N)) → Gets S C (AreValues args)
        → Fine S C (arrive.send_on_asked K from id n verb args) nothing
    unfolding arrive.send_on_asked
    put_answered {C = C} from id g1 n g2 verb args g3 = changes.numbers C _ nothing (λ v here. bind_name S (changes.answers (Also C (IsVat v)) v id here (record { at = λ s c. g1.at s c.0 }) (got S C (IsVat v))) (λ a. answered v a))
      where
        answered : (v : ℕ) (a : N) → Fine S (Also (Also C (IsVat v)) (IsName a)) (alter K (ToTell from) a >> refs.send_on K (refs.settle K) (record { id = id; target = Ref n; verb = verb; args = args; answer = Some a })) nothing
        answered v a = then_unit S (put_to_tell from a (record { at = λ s c. c.1 })) (put_send_on (refs.settle K) (λ E q i z j. put_settle q i z j) (record { id = id; target = Ref n; verb = verb; args = args; answer = Some a }) (record { at = λ s c. (g1.at s c.0.0, g2.at s c.0.0, g3.at s c.0.0, c.1) }))

    pub put_delivered : {C : Fact N} → (from : ℕ) → (id : N) → Gets S C (IsMail id) → (n : N) → Gets S C (IsName n) → (verb : Words) → (args : List (Value N)) → Gets S C (AreValues args)
        → (asks : Bool) → Fine S C (if asks then arrive.send_on_asked K from id n verb args else refs.send_on K (refs.settle K) (record { id = id; target = Ref n; verb = verb; args = args; answer = None })) nothing
    put_delivered from id g1 n g2 verb args g3 true = put_answered from id g1 n g2 verb args g3
    put_delivered from id g1 n g2 verb args g3 false = put_send_on (refs.settle K) (λ E q i z j. put_settle q i z j) (record { id = id; target = Ref n; verb = verb; args = args; answer = None }) (record { at = λ s c. (g1.at s c, g2.at s c, g3.at s c, tt) })

    pub put_opened : {C : Fact N} → (from i : ℕ) → Gets S C (IsDraw i) → (y : N) → Gets S C (IsName y) → Fine S C (arrive.have_gift K from i >>= (λ n. open_gift from i >> refs.resolve K n (Ref y))) nothing
    put_opened {C = C} from i g1 y g2 = search (putting, looks, put_have_gift, put_resolve) depth 30

    -- where a gift comes to be the view of a name, is given
    pub put_went : ((D : Fact N) (n : N) → Gets S D (IsName n) → (c : ℕ) → Gets S D (IsVat c) → Fine S D (arrive.view_there K n c) nothing) → {C : Fact N} → (n : N) → Gets S C (IsName n) → (c : ℕ) → Gets S C (IsVat c) → Fine S C (look (λ s. is_in c s.noticed) >>= (λ gone. if gone then refs.settle K n (Broken (codes "partition")) else arrive.view_there K n c)) nothing
    put_went views {C = C} n g1 c g2 = search (putting, looks, put_settle, views) depth 30

    pub put_shortened : {C : Fact N} → (n : N) → Gets S C (IsName n) → (i : ℕ) → Gets S C (IsDraw i) → Fine S C (look (λ s. refs.place K s (refs.follow K s (Ref n))) >>= (λ p. arrive.shorten_to K i p)) nothing
    put_shortened {C = C} n g1 i g2 = search (putting, looks, place_of_here, put_shorten_to) depth 30

    -- so a turn ends well
    pub closes_by : (p : N) → Closing K S p
    closes_by p = record {
      breaks = λ C g t. put_settle p (got_entry S C p g) (Broken t) (record { at = λ s c. tt });
      closes = λ C g y h. put_resolve p g y h;
    }

    -- and evaluation is served
    pub serves_by : Serves K S
    serves_by = record {
      spots = changes.spots;
      object = λ s i l. changes.object s i l;
      promises = λ C. changes.promises C;
      smashes = λ C p g t s i c r e. let closing = closes_by p in (closing.breaks C g t).after s i c;
      resolves = λ C p g y h s i c r e. let closing = closes_by p in (closing.closes C g y h).after s i c;
      sends = λ C act x g verb args h. put_send act x g verb args h;
      sends_only = λ C act x g verb args h. put_send_only act x g verb args h;
      reacts = λ C act x g o h near k. put_react act x g o h near k;
    }
