-- As a note arrives, a note that lets a gift go is put with a draw, or in the place of one that arrived and asked for it.
use Rattle.std.proofs.Common.{◌≡◌, ℕ, true, false, refl, ap, arith}
use Rattle.std.specs.Prelude.{◌==◌}
use Rattle.def_machine.specs.Values.{Name, Naming}
use Rattle.def_machine.specs.State.{Note, Open, Shorten, Vat, Done, Gives, Act, ◌>>=◌, and_then, give, look, send_out}
use Rattle.def_machine.specs.Refs.{Place, Away}
use Rattle.def_machine.specs.Arrive as arrive
use Rattle.def_machine.specs.Arrive.{Incoming}
use Rattle.law_machine.specs.Machine.Steps.{After}
use Rattle.law_order.specs.Cuts.Letting.{lets_go, once}
use Rattle.law_order.specs.Cuts.Opening.{asks_to_open}
use Rattle.law_order.proofs.Cuts.Counts.{more_put}
use Rattle.law_order.proofs.Cuts.Walk.{learning_name, walked_arrive}
use Rattle.law_order.proofs.Cuts.Puts.{Pays, pays_walked}

module _ (i : ℕ) (K : Naming Name Name) where
  abbrev R : Vat Name → Vat Name → Type 0
  R = Pays i 0

  abbrev Anyone : Name → Vat Name → Type 0
  Anyone p s = Unit {0}

  -- ---- a note in the place of the one that arrives

  extra_less : (e : ℕ) {A : Type 0} (s : Vat Name) (d : Done Name A) → After R s d → After (Pays i e) s d
  extra_less e s (Gives a t) h = record { count = let a = h.count in omega arith }
  extra_less e s other h = record { count = let a = h.count in omega arith }

  extra_later : (e : ℕ) {A : Type 0} (s t : Vat Name) → R s t → (d : Done Name A) → After (Pays i e) t d → After (Pays i e) s d
  extra_later e s t h (Gives a u) k = record { count = let x = h.count in let y = k.count in omega arith }
  extra_later e s t h other k = record { count = let x = h.count in let y = k.count in omega arith }

  bind_extra : {A B : Type 0} (e : ℕ) (s : Vat Name) (d : Done Name A) (f : A → Act Name B) → After R s d → ((a : A) (t : Vat Name) → After (Pays i e) t (f a t)) → After (Pays i e) s (and_then d f)
  unfolding and_then
  bind_extra e s (Gives a t) f h k = extra_later e s t h (f a t) (k a t)
  bind_extra e s other f h k = record { count = let a = h.count in omega arith }

  opens_as : (j : ℕ) (n : Name) → lets_go i (Open j n) ≡ (j == i)
  unfolding lets_go
  opens_as j n = refl

  shorten_extra : (j : ℕ) (p : Place Name) (s : Vat Name) → After (Pays i (once (j == i))) s (arrive.shorten_to K j p s)
  unfolding arrive.shorten_to send_out give
  shorten_extra j (Away h n true) s = record { count = let more = more_put i s.outbox (record { to = h; note = Open j n }) in let same : once (lets_go i (Open j n)) ≡ once (j == i) = ap once (opens_as j n) in omega arith }
  shorten_extra j other s = record { count = omega arith }

  arrive_shorten_extra : (z : Incoming Name Name) (j : ℕ) (s : Vat Name) → After (Pays i (once (j == i))) s (arrive.arrive_shorten K z j s)
  unfolding arrive.arrive_shorten ◌>>=◌ and_then look
  arrive_shorten_extra z j s = bind_extra (once (j == i)) s (arrive.learn_name K z s) _ ((learning_name K R Anyone (pays_walked i K) z).after s) (λ n t. shorten_extra j _ t)

  pub pays_arrive : (from : ℕ) (n : Note (Incoming Name Name)) (s : Vat Name) → After (Pays i (once (asks_to_open i n))) s (arrive.arrive K from n s)
  unfolding arrive.arrive asks_to_open
  pays_arrive from (Shorten z c j) s = arrive_shorten_extra z j s
  pays_arrive from other s = extra_less (once false) s _ ((walked_arrive K R Anyone (pays_walked i K) from other tt).after s)
