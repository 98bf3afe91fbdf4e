-- What a vat does from a sound state whose things carry their captures: it ends in such a state, with what is known of what it gives, or stops. Where it stops astray, the state is a bad one.
use Rattle.std.proofs.Common.{◌≡◌, ℕ, ◌≤◌, ◌<◌, Bool, true, false, List, Option, Some, None, if◌then◌else◌, refl, length, arith}
use Rattle.std.specs.Prelude.{slice_get}
use Rattle.def_machine.specs.Values.{Words, Value}
use Rattle.def_machine.specs.State.{Cell, Thing, Message, Known, Happened, Vat, Stop, Fuel, Astray, Done, Gives, Throws, Ejects, Stops, Standing, Act, ◌>>=◌, ◌>>◌, and_then, for_some, end_by, ending, give, throw, stop, eject, look, tell, spend, new_activation, new_thing, kill, new_slot, write_slot, new_list}
use Rattle.def_machine.specs.Refs.{Place}
use Rattle.def_machine.specs.Native.{Reply}
use Rattle.def_kernel.specs.declared.node.Node.{Node}
use Rattle.law_fate.specs.Name.Names.{ThingOk}
use Rattle.law_fate.proofs.Name.Facts.{Fact, Also, IsName, IsValue, AreValues, IsPlace, IsThing, MayValue, MayCell, MayThing, IsReply, MayName, nothing, Holds}
use Rattle.law_fate.proofs.Name.Care.{Care, Sound, Gets, Ends, Fine, widen, rise, fine_give, fine_throw, fine_eject, fine_look, fine_spend, fine_activation, fine_thing, fine_kill, fine_slot, fine_write, fine_list}
use Rattle.law_fate.proofs.Name.Looks.{get_all}
use Rattle.law_never_astray.specs.Covered.{ThingCarries}
use Rattle.law_never_astray.proofs.Leads as covered
use Rattle.law_never_astray.proofs.Leads.{AtStops, Leads, Kept, Nothing, ends_less, all_at, slot_there, lead_give, lead_gives, lead_throw, lead_eject, lead_look, lead_tell, lead_spend, lead_activation, lead_thing, lead_kill, lead_slot, lead_write, lead_list}
use Rattle.law_never_astray.proofs.Rests.{Quiet, RestsAfter, quiet_give, quiet_throw, quiet_eject, quiet_look, quiet_tell, quiet_spend, quiet_activation, quiet_thing, quiet_kill, quiet_slot, quiet_write, quiet_list}

module _ {N : Type 0} (S : Care N) (tree : List Node) (Bad : Vat N → Type 0) (Rests : List (Message N) → List (Known N) → Type 0) where
  -- where it stops astray, in a bad state
  abbrev pub Off : AtStops N
  Off c t = c ≡ Astray → Bad t

  abbrev pub Goes : {A : Type 0} → (A → Fact N) → (ℕ → A → Type 0) → Vat N → Done N A → Type 0
  Goes H G s d = Ends S H s d × covered.Ends tree Off (length s.slots) G d × RestsAfter Rests d

  -- from each such state with at least so many slots, under facts on what is in hand
  pub record Good (C : Fact N) (many : ℕ) {A : Type 0} (m : Act N A) (H : A → Fact N) (G : ℕ → A → Type 0) : Type 0 where
    pub after : (s : Vat N) → Sound S s → Holds (S.ok s) C → Kept tree many s → Rests s.queue s.known → Goes H G s (m s)

  pub good_leaf : {A : Type 0} {C : Fact N} {n : ℕ} {m : Act N A} {H : A → Fact N} {G : ℕ → A → Type 0} → Fine S C m H → Leads tree Off n G m → Quiet Rests m → Good C n m H G
  good_leaf f l q = record { after = λ s h c k r. (f.after s h c, l.after s k, q.after s r) }

  -- ---- one thing after another

  pub further : {A : Type 0} (H : A → Fact N) (G : ℕ → A → Type 0) (s t : Vat N) (d : Done N A) → S.rel s t → length s.slots ≤ length t.slots → Goes H G t d → Goes H G s d
  further H G s t d r l g = (widen S H s t d r g.0, ends_less tree Off (length s.slots) (length t.slots) l G d g.1, g.2)

  bind_goes : {A B : Type 0} (C : Fact N) (P : A → Fact N) (Q : ℕ → A → Type 0) (H : B → Fact N) (G : ℕ → B → Type 0) (s : Vat N) (d : Done N A) (f : A → Act N B) → Holds (S.ok s) C → Goes P Q s d
      → ((k : ℕ) (a : A) → length s.slots ≤ k → Q k a → Good (Also C (P a)) k (f a) H G) → Goes H G s (and_then d f)
  unfolding and_then
  bind_goes C P Q H G s (Gives a t) f c h k = let e = h.0 in let l = h.1 in
      further H G s t (f a t) e.0 l.0.0 ((k (length t.slots) a l.0.0 l.1).after t e.1 (rise S s t e.0 C c, e.2) (omega arith, l.0.1) h.2)
  bind_goes C P Q H G s other f c h k = h

  pub good_bind : {A B : Type 0} {C : Fact N} {n : ℕ} {m : Act N A} {f : A → Act N B} {H : B → Fact N} {G : ℕ → B → Type 0} (P : A → Fact N) (Q : ℕ → A → Type 0) → Good C n m P Q
      → ((k : ℕ) (a : A) → n ≤ k → Q k a → Good (Also C (P a)) k (f a) H G) → Good C n (m >>= f) H G
  unfolding ◌>>=◌
  good_bind {C = C} {n = n} {m = m} {f = f} {H = H} {G = G} P Q h k = record { after = λ s g c l r. bind_goes C P Q H G s (m s) f c (h.after s g c l r) (λ i a o q. k i a (let e = l.0 in omega arith) q) }

  pub good_less : {A : Type 0} {C : Fact N} {m : Act N A} {H : A → Fact N} {G : ℕ → A → Type 0} (n k : ℕ) → n ≤ k → Good C n m H G → Good C k m H G
  good_less n k l h = record { after = λ s g c o r. h.after s g c (let e = o.0 in (omega arith, o.1)) r }

  pub good_left : {A : Type 0} {C D : Fact N} {n : ℕ} {m : Act N A} {H : A → Fact N} {G : ℕ → A → Type 0} → Good C n m H G → Good (Also C D) n m H G
  good_left h = record { after = λ s g c l r. h.after s g c.0 l r }

  pub good_under : {A : Type 0} {C D : Fact N} {n : ℕ} {m : Act N A} {H : A → Fact N} {G : ℕ → A → Type 0} → Gets S C D → Good D n m H G → Good C n m H G
  good_under i h = record { after = λ s g c l r. h.after s g (i.at s c) l r }

  pub good_next : {A B : Type 0} {C : Fact N} {n : ℕ} {m : Act N A} {f : A → Act N B} {H : B → Fact N} {G : ℕ → B → Type 0} (P : A → Fact N) → Good C n m P Nothing
      → ((a : A) → Good (Also C (P a)) n (f a) H G) → Good C n (m >>= f) H G
  good_next {n = n} P h k = good_bind P Nothing h (λ i a l q. good_less n i l (k a))

  pub good_then : {A B : Type 0} {C : Fact N} {n : ℕ} {m : Act N A} {o : Act N B} {H : B → Fact N} {G : ℕ → B → Type 0} (P : A → Fact N) → Good C n m P Nothing → Good C n o H G → Good C n (m >> o) H G
  unfolding ◌>>=◌ ◌>>◌
  good_then {o = o} P h k = good_next {f = λ _. o} P h (λ _. good_left k)

  end_goes : {A B : Type 0} (C : Fact N) (P : A → Fact N) (Q : ℕ → A → Type 0) (H : B → Fact N) (G : ℕ → B → Type 0) (s : Vat N) (d : Done N A) (f : A → Act N B) (g : Words → Act N B) (h : ℕ → Value N → Act N B) → Holds (S.ok s) C → Goes P Q s d
      → ((k : ℕ) (a : A) → length s.slots ≤ k → Q k a → Good (Also C (P a)) k (f a) H G) → ((p : Words) → Good C (length s.slots) (g p) H G) → ((i : ℕ) (v : Value N) → Good (Also C (IsValue v)) (length s.slots) (h i v) H G) → Goes H G s (end_by f g h d)
  unfolding end_by
  end_goes C P Q H G s (Gives a t) f g h c o x y z = let e = o.0 in let l = o.1 in
      further H G s t (f a t) e.0 l.0.0 ((x (length t.slots) a l.0.0 l.1).after t e.1 (rise S s t e.0 C c, e.2) (omega arith, l.0.1) o.2)
  end_goes C P Q H G s (Throws p t) f g h c o x y z = let e = o.0 in let l = o.1 in further H G s t (g p t) e.0 l.0 ((y p).after t e.1 (rise S s t e.0 C c) l o.2)
  end_goes C P Q H G s (Ejects i v t) f g h c o x y z = let e = o.0 in let l = o.1 in further H G s t (h i v t) e.0 l.0 ((z i v).after t e.1 (rise S s t e.0 C c, e.2) l o.2)
  end_goes C P Q H G s (Stops r t) f g h c o x y z = o

  pub good_ending : {A B : Type 0} {C : Fact N} {n : ℕ} {m : Act N A} {f : A → Act N B} {g : Words → Act N B} {h : ℕ → Value N → Act N B} {H : B → Fact N} {G : ℕ → B → Type 0} (P : A → Fact N) (Q : ℕ → A → Type 0) → Good C n m P Q
      → ((k : ℕ) (a : A) → n ≤ k → Q k a → Good (Also C (P a)) k (f a) H G) → ((p : Words) → Good C n (g p) H G) → ((i : ℕ) (v : Value N) → Good (Also C (IsValue v)) n (h i v) H G) → Good C n (ending f g h m) H G
  unfolding ending
  good_ending {C = C} {n = n} {m = m} {f = f} {g = g} {h = h} {H = H} {G = G} P Q r x y z = record {
    after = λ s i c l q. end_goes C P Q H G s (m s) f g h c (r.after s i c l q) (λ k a o w. x k a (let e = l.0 in omega arith) w) (λ p. good_less n (length s.slots) l.0 (y p)) (λ j v. good_less n (length s.slots) l.0 (z j v));
  }

  pub good_ends : {A B : Type 0} {C : Fact N} {n : ℕ} {m : Act N A} {f : A → Act N B} {g : Words → Act N B} {h : ℕ → Value N → Act N B} {H : B → Fact N} {G : ℕ → B → Type 0} (P : A → Fact N) → Good C n m P Nothing
      → ((a : A) → Good (Also C (P a)) n (f a) H G) → ((p : Words) → Good C n (g p) H G) → ((i : ℕ) (v : Value N) → Good (Also C (IsValue v)) n (h i v) H G) → Good C n (ending f g h m) H G
  good_ends {n = n} P r x y z = good_ending P Nothing r (λ k a l q. good_less n k l (x a)) y z

  more_goes : {A : Type 0} (P H : A → Fact N) (Q G : ℕ → A → Type 0) (s : Vat N) (d : Done N A) → ((a : A) → Gets S (P a) (H a)) → ((k : ℕ) (a : A) → length s.slots ≤ k → Q k a → G k a) → Goes P Q s d → Goes H G s d
  more_goes P H Q G s (Gives a t) g i h = let e = h.0 in let l = h.1 in ((e.0, e.1, (g a).at t e.2), (l.0, i (length t.slots) a l.0.0 l.1), h.2)
  more_goes P H Q G s other g i h = h

  pub good_forget : {A : Type 0} {C : Fact N} {n : ℕ} {m : Act N A} {H : A → Fact N} (G : ℕ → A → Type 0) → Good C n m H G → Good C n m H Nothing
  good_forget {m = m} {H = H} G h = record { after = λ s g c l r. more_goes H H G Nothing s (m s) (λ a. record { at = λ t i. i }) (λ k a o q. tt) (h.after s g c l r) }

  pub good_more : {A : Type 0} {C : Fact N} {n : ℕ} {m : Act N A} {H : A → Fact N} {G : ℕ → A → Type 0} (Q : ℕ → A → Type 0) → ((k : ℕ) (a : A) → n ≤ k → Q k a → G k a) → Good C n m H Q → Good C n m H G
  good_more {n = n} {m = m} {H = H} {G = G} Q f h = record { after = λ s g c l r. more_goes H H Q G s (m s) (λ a. record { at = λ t i. i }) (λ k a o q. f k a (let e = l.0 in omega arith) q) (h.after s g c l r) }

  pub good_some : {B : Type 0} {C : Fact N} {n : ℕ} (o : Option (Value N)) {f : Value N → Act N B} {m : Act N B} {H : B → Fact N} {G : ℕ → B → Type 0} → Gets S C (MayValue o) → ((a : Value N) → Good (Also C (IsValue a)) n (f a) H G) → Good C n m H G → Good C n (for_some o f m) H G
  unfolding for_some
  good_some (Some a) g h k = record { after = λ s i c l r. (h a).after s i (c, g.at s c) l r }
  good_some None g h k = k

  pub good_some_name : {B : Type 0} {C : Fact N} {n : ℕ} (o : Option N) {f : N → Act N B} {m : Act N B} {H : B → Fact N} {G : ℕ → B → Type 0} → Gets S C (MayName o) → ((a : N) → Good (Also C (IsName a)) n (f a) H G) → Good C n m H G → Good C n (for_some o f m) H G
  unfolding for_some
  good_some_name (Some a) g h k = record { after = λ s i c l r. (h a).after s i (c, g.at s c) l r }
  good_some_name None g h k = k

  pub good_if : {A : Type 0} {C : Fact N} {n : ℕ} (b : Bool) {m o : Act N A} {H : A → Fact N} {G : ℕ → A → Type 0} → Good C n m H G → Good C n o H G → Good C n (if b then m else o) H G
  good_if true h k = h
  good_if false h k = k

  -- ---- single changes

  pub good_give : {A : Type 0} {C : Fact N} {n : ℕ} (a : A) {H : A → Fact N} → Gets S C (H a) → Good C n (give a) H Nothing
  good_give a g = good_leaf (fine_give S a g) (lead_give tree Off a) (quiet_give Rests a)

  pub good_gives : {A : Type 0} {C : Fact N} {n : ℕ} (G : ℕ → A → Type 0) (a : A) {H : A → Fact N} → Gets S C (H a) → ((k : ℕ) → n ≤ k → G k a) → Good C n (give a) H G
  good_gives G a g h = good_leaf (fine_give S a g) (lead_gives tree Off G a h) (quiet_give Rests a)

  pub good_throw : {A : Type 0} {C : Fact N} {n : ℕ} (p : Words) {H : A → Fact N} {G : ℕ → A → Type 0} → Good C n (throw {A = A} p) H G
  good_throw p = good_leaf (fine_throw S p) (lead_throw tree Off p) (quiet_throw Rests p)

  pub good_eject : {A : Type 0} {C : Fact N} {n : ℕ} (i : ℕ) (v : Value N) {H : A → Fact N} {G : ℕ → A → Type 0} → Gets S C (IsValue v) → Good C n (eject {A = A} i v) H G
  good_eject i v g = good_leaf (fine_eject S i v g) (lead_eject tree Off i v) (quiet_eject Rests i v)

  pub good_stop : {A : Type 0} {C : Fact N} {n : ℕ} (c : Stop) {H : A → Fact N} {G : ℕ → A → Type 0} → ((s : Vat N) → Off c s) → Good C n (stop {A = A} c) H G
  unfolding stop
  good_stop c f = record { after = λ s h i k r. (tt, f s, tt) }

  pub good_look : {A : Type 0} {C : Fact N} {n : ℕ} (f : Vat N → A) → Good C n (look f) nothing Nothing
  good_look f = good_leaf (fine_look S f) (lead_look tree Off f) (quiet_look Rests f)

  -- what is looked at, with what is known of it
  pub good_seen : {A : Type 0} {C : Fact N} {n : ℕ} (f : Vat N → A) {H : A → Fact N} → Fine S C (look f) H → Good C n (look f) H Nothing
  good_seen f h = good_leaf h (lead_look tree Off f) (quiet_look Rests f)

  -- a line, of which nothing more is asked
  pub good_told : {C : Fact N} {n : ℕ} (e : Happened N) → Fine S C (tell e) nothing → Good C n (tell e) nothing Nothing
  good_told e h = good_leaf h (lead_tell tree Off e) (quiet_tell Rests e)

  pub out_of_fuel : (s : Vat N) → Off Fuel s
  out_of_fuel s e = cc

  pub good_spend : {C : Fact N} {n : ℕ} (i : ℕ) → Good C n (spend i) nothing Nothing
  good_spend i = good_leaf (fine_spend S i) (lead_spend tree Off i out_of_fuel) (quiet_spend Rests i)

  pub good_fuel : {A : Type 0} {C : Fact N} {n : ℕ} {H : A → Fact N} {G : ℕ → A → Type 0} → Good C n (stop {A = A} Fuel) H G
  good_fuel = good_stop Fuel out_of_fuel

  pub good_activation : {C : Fact N} {n : ℕ} → Good C n new_activation nothing Nothing
  good_activation = good_leaf (fine_activation S) (lead_activation tree Off) (quiet_activation Rests)

  pub good_thing : {C : Fact N} {n : ℕ} (t : Thing N) → Gets S C (IsThing t) → ((k : ℕ) → n ≤ k → ThingCarries tree k t) → Good C n (new_thing t) nothing Nothing
  good_thing t g h = good_leaf (fine_thing S t g) (lead_thing tree Off t h) (quiet_thing Rests t)

  pub good_kill : {C : Fact N} {n : ℕ} (i : ℕ) → Good C n (kill i) nothing Nothing
  good_kill i = good_leaf (fine_kill S i) (lead_kill tree Off i) (quiet_kill Rests i)

  pub good_slot : {C : Fact N} {n : ℕ} (g v : Value N) → Gets S C (IsValue g) → Gets S C (IsValue v) → Good C n (new_slot g v) nothing (λ k i. i < k)
  good_slot g v i j = good_leaf (fine_slot S g v i j) (lead_slot tree Off g v) (quiet_slot Rests g v)

  pub good_write : {C : Fact N} {n : ℕ} (i : ℕ) (v : Value N) → Gets S C (IsValue v) → Good C n (write_slot i v) nothing Nothing
  good_write i v g = good_leaf (fine_write S i v g) (lead_write tree Off i v) (quiet_write Rests i v)

  pub good_list : {C : Fact N} {n : ℕ} (vs : List (Value N)) → Gets S C (AreValues vs) → Good C n (new_list vs) nothing Nothing
  good_list vs g = good_leaf (fine_list S vs g) (lead_list tree Off vs) (quiet_list Rests vs)

  -- ---- by what is given

  pub go_unit : {B : Type 0} {C : Fact N} {n : ℕ} {m : Act N (Unit {0})} {o : Act N B} {H : B → Fact N} {G : ℕ → B → Type 0} → Good C n m nothing Nothing → Good C n o H G → Good C n (m >> o) H G
  go_unit h k = good_then nothing h k

  pub go_value : {B : Type 0} {C : Fact N} {n : ℕ} {m : Act N (Value N)} {o : Act N B} {H : B → Fact N} {G : ℕ → B → Type 0} → Good C n m IsValue Nothing → Good C n o H G → Good C n (m >> o) H G
  go_value h k = good_then IsValue h k

  pub on_number : {B : Type 0} {C : Fact N} {n : ℕ} {m : Act N ℕ} {f : ℕ → Act N B} {H : B → Fact N} {G : ℕ → B → Type 0} → Good C n m nothing Nothing → ((a : ℕ) → Good C n (f a) H G) → Good C n (m >>= f) H G
  on_number h k = good_next nothing h (λ a. good_left (k a))

  pub on_flag : {B : Type 0} {C : Fact N} {n : ℕ} {m : Act N Bool} {f : Bool → Act N B} {H : B → Fact N} {G : ℕ → B → Type 0} → Good C n m nothing Nothing → ((a : Bool) → Good C n (f a) H G) → Good C n (m >>= f) H G
  on_flag h k = good_next nothing h (λ a. good_left (k a))

  pub on_standing : {B : Type 0} {C : Fact N} {n : ℕ} {m : Act N (Standing N)} {f : Standing N → Act N B} {H : B → Fact N} {G : ℕ → B → Type 0} → Good C n m nothing Nothing → ((a : Standing N) → Good C n (f a) H G) → Good C n (m >>= f) H G
  on_standing h k = good_next nothing h (λ a. good_left (k a))

  pub on_name : {B : Type 0} {C : Fact N} {n : ℕ} {m : Act N N} {f : N → Act N B} {H : B → Fact N} {G : ℕ → B → Type 0} → Good C n m IsName Nothing → ((a : N) → Good (Also C (IsName a)) n (f a) H G) → Good C n (m >>= f) H G
  on_name h k = good_next IsName h k

  pub on_place : {B : Type 0} {C : Fact N} {n : ℕ} {m : Act N (Place N)} {f : Place N → Act N B} {H : B → Fact N} {G : ℕ → B → Type 0} → Good C n m IsPlace Nothing → ((a : Place N) → Good (Also C (IsPlace a)) n (f a) H G) → Good C n (m >>= f) H G
  on_place h k = good_next IsPlace h k

  pub on_value : {B : Type 0} {C : Fact N} {n : ℕ} {m : Act N (Value N)} {f : Value N → Act N B} {H : B → Fact N} {G : ℕ → B → Type 0} → Good C n m IsValue Nothing → ((a : Value N) → Good (Also C (IsValue a)) n (f a) H G) → Good C n (m >>= f) H G
  on_value h k = good_next IsValue h k

  pub on_values : {B : Type 0} {C : Fact N} {n : ℕ} {m : Act N (List (Value N))} {f : List (Value N) → Act N B} {H : B → Fact N} {G : ℕ → B → Type 0} → Good C n m AreValues Nothing → ((a : List (Value N)) → Good (Also C (AreValues a)) n (f a) H G) → Good C n (m >>= f) H G
  on_values h k = good_next AreValues h k

  pub on_may_value : {B : Type 0} {C : Fact N} {n : ℕ} {m : Act N (Option (Value N))} {f : Option (Value N) → Act N B} {H : B → Fact N} {G : ℕ → B → Type 0} → Good C n m MayValue Nothing → ((a : Option (Value N)) → Good (Also C (MayValue a)) n (f a) H G) → Good C n (m >>= f) H G
  on_may_value h k = good_next MayValue h k

  pub on_reply : {B : Type 0} {C : Fact N} {n : ℕ} {m : Act N (Reply N)} {f : Reply N → Act N B} {H : B → Fact N} {G : ℕ → B → Type 0} → Good C n m IsReply Nothing → ((a : Reply N) → Good (Also C (IsReply a)) n (f a) H G) → Good C n (m >>= f) H G
  on_reply h k = good_next IsReply h k

  pub end_by_value : {B : Type 0} {C : Fact N} {n : ℕ} {m : Act N (Value N)} {f : Value N → Act N B} {g : Words → Act N B} {h : ℕ → Value N → Act N B} {H : B → Fact N} {G : ℕ → B → Type 0} → Good C n m IsValue Nothing
      → ((a : Value N) → Good (Also C (IsValue a)) n (f a) H G) → ((p : Words) → Good C n (g p) H G) → ((i : ℕ) (v : Value N) → Good (Also C (IsValue v)) n (h i v) H G) → Good C n (ending f g h m) H G
  end_by_value r x y z = good_ends IsValue r x y z

  -- ---- what stands under a number

  -- a thing that is there carries its captures
  pub good_look_thing : {B : Type 0} {C : Fact N} {n : ℕ} {H : B → Fact N} {G : ℕ → B → Type 0} (i : ℕ) (f : Option (Thing N) → Act N B) → ((s : Vat N) → Sound S s → Holds (S.ok s) C → slice_get s.things i ≡ None → ⊥)
      → ((k : ℕ) (t : Thing N) → n ≤ k → ThingCarries tree k t → Good (Also C (IsThing t)) k (f (Some t)) H G) → Good C n (look (λ s. slice_get s.things i) >>= f) H G
  unfolding look ◌>>=◌ and_then
  good_look_thing {C = C} {n = n} {H = H} {G = G} i f there y = record { after = λ s h c l r. go s h c l r (slice_get s.things i) refl (get_all (ThingOk (S.ok s)) s.things i h.parts.things) }
    where
      go : (s : Vat N) → Sound S s → Holds (S.ok s) C → Kept tree n s → Rests s.queue s.known → (o : Option (Thing N)) → slice_get s.things i ≡ o → Holds (S.ok s) (MayThing o) → Goes H G s (f o s)
      go s h c l r None e ok = absurd (there s h c e)
      go s h c l r (Some t) e ok = (y (length s.slots) t l.0 (all_at _ s.things i t l.1 e)).after s h (c, ok) (omega arith, l.1) r

  -- a slot whose number is one of so many is there
  pub good_look_slot : {B : Type 0} {C : Fact N} {n : ℕ} {H : B → Fact N} {G : ℕ → B → Type 0} (i : ℕ) (f : Option (Cell N) → Act N B) → i < n → ((c : Cell N) → Good (Also C (Also (IsValue c.guard) (IsValue c.value))) n (f (Some c)) H G)
      → Good C n (look (λ s. slice_get s.slots i) >>= f) H G
  unfolding look ◌>>=◌ and_then
  good_look_slot {C = C} {n = n} {H = H} {G = G} i f l y = record { after = λ s h c k r. go s h c k r (slice_get s.slots i) refl (get_all _ s.slots i h.parts.slots) }
    where
      go : (s : Vat N) → Sound S s → Holds (S.ok s) C → Kept tree n s → Rests s.queue s.known → (o : Option (Cell N)) → slice_get s.slots i ≡ o → Holds (S.ok s) (MayCell o) → Goes H G s (f o s)
      go s h c k r None e ok = absurd (slot_there s.slots i e (let g = k.0 in omega arith))
      go s h c k r (Some x) e ok = (y x).after s h (c, ok) k r

-- what touches no slot, no thing and no name
pub ruleset goods = (go_unit, go_value, on_number, on_flag, on_standing, on_name, on_place, on_value, on_values, on_may_value, on_reply, end_by_value, good_some, good_some_name, good_if, good_give, good_throw, good_eject, good_fuel, good_look, good_seen, good_told, good_spend, good_activation, good_kill, good_write, good_list)
