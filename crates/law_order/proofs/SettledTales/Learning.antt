-- A vat learns the name of a note that tells to what it settled, and then what it settled to: it stays steady, and no message moves.
use Rattle.std.proofs.Common.{◌≡◌, ℕ, ◌+◌, ◌≤◌, Bool, true, false, List, [], ◌∷◌, ap, ◌∙◌, arith, if◌then◌else◌}
use Rattle.std.specs.Prelude.{codes}
use Rattle.def_machine.specs.Values.{Value, Ref, Broken, Name, Promise, Naming, IsLearnt, IsGift}
use Rattle.def_machine.specs.State.{Standing, Settled, Passed, Passeds, Plain, AGift, Many, NoMore, More, Ask, ListCame, Vat, Gives, Act, ◌>>=◌, and_then, give, new_list, send_out}
use Rattle.def_machine.specs.Refs as refs
use Rattle.def_machine.specs.Arrive as arriving
use Rattle.def_machine.specs.Arrive.{Incoming, Old, New}
use Rattle.def_run.specs.Draws.{draw_word}
use Rattle.def_run.specs.World.{Script, World, names}
use Rattle.law_fate.proofs.Fates.ArriveLight.{light_learn_name, light_learn}
use Rattle.law_fate.proofs.Fates.PlacesSteps.{global_names}
use Rattle.law_fate.specs.Fates.Sound.{Sound, HostComes, PassedHosts}
use Rattle.law_fate.specs.Fates.Lasting.{ComesAsNoObject, PassedComes}
use Rattle.law_order.proofs.Ordering.Moves.{Keeps, keeps_give, keeps_look, keeps_tell}
use Rattle.law_order.proofs.Steady.Staying as staying
use Rattle.law_order.proofs.Steady.Steady.{Steady, GoodAt, IsAside, carried, done_at, after_at, light_at, claims_on, At}
use Rattle.law_order.proofs.Waits.Arriving as arrive_costs
use Rattle.law_order.proofs.Waits.Costs as costs
use Rattle.law_order.proofs.Waits.Classes.{owed_at, fit_at}
use Rattle.law_reference.specs.Reference.Knowing.{Knowing, claims, new_name, new_in, new_in_all, new_in_value}
use Rattle.law_reference.specs.Reference.NameTableRuns.{allowed}
use Rattle.law_reference.proofs.Reference.ArriveCosts.{costs_learn_all}

-- ---- it stays good, as it learns

module _ (script : Script) (w : World) (v : ℕ) (q : Name) (Stay : Standing Name → Type 0) (hosts : List ℕ) (least : ℕ) (settled : (y : Value Name) → Stay (Settled y)) where
  abbrev L : Naming Name Name
  L = names script v

  abbrev Moves : Vat Name → Vat Name → Type 0
  Moves s t = staying.Goes script w v q Stay hosts least s t

  abbrev Does : {A : Type 0} → Act Name A → Type 0
  Does m = staying.Does script w v q Stay hosts least m

  keeps_all : {A : Type 0} {m : Act Name A} → Keeps Moves m → Does m
  keeps_all k = staying.doing script w v q Stay hosts least k

  pub do_learn_name : (z : Incoming Name Name) → Does (arriving.learn_name L z)
  unfolding arriving.learn_name
  do_learn_name (Old n) = keeps_all (keeps_give Moves (staying.goes script w v q Stay hosts least) n)
  do_learn_name (New n h) = keeps_all (staying.go_come script w v q Stay hosts least (IsLearnt n) h)

  do_learn_value : (y : Value (Incoming Name Name)) → Does (arriving.learn_value L y)
  unfolding arriving.learn_value
  do_learn_value (Ref z) = staying.do_bind script w v q Stay hosts least (do_learn_name z) (λ n. keeps_all (keeps_give Moves (staying.goes script w v q Stay hosts least) (Ref n)))
  do_learn_value other = keeps_all (keeps_give Moves (staying.goes script w v q Stay hosts least) _)

  do_ask_for : (p h i : ℕ) (n : Name) → Does (arriving.ask_for L p h i n)
  unfolding arriving.ask_for
  do_ask_for p h i n = staying.do_bind script w v q Stay hosts least (keeps_all (keeps_look Moves (staying.goes script w v q Stay hosts least) _)) (λ gone. by gone)
    where
      by : (gone : Bool) → Does (if gone then refs.settle L n (Broken (codes "partition")) else send_out h (Ask p i n))
      by true = staying.do_settle script w v q Stay hosts least settled n (Broken (codes "partition"))
      by false = keeps_all (staying.go_out script w v q Stay hosts least h (Ask p i n) tt)

  do_learn_gift : (p h i : ℕ) → Does (arriving.learn_gift L p h i)
  unfolding arriving.learn_gift
  do_learn_gift p h i = staying.do_bind script w v q Stay hosts least (keeps_all (staying.go_come script w v q Stay hosts least (IsGift h i) h)) (λ n. staying.do_then script w v q Stay hosts least (do_ask_for p h i n) (keeps_all (keeps_give Moves (staying.goes script w v q Stay hosts least) (Ref n))))

  keeps_list : (vs : List (Value Name)) → Keeps Moves (new_list vs)
  unfolding new_list
  keeps_list vs = record { after = λ s. let law = staying.goes script w v q Stay hosts least in law.list s vs }

  do_make_list : (vs : List (Value Name)) → Does (arriving.make_list L vs)
  unfolding arriving.make_list
  do_make_list vs = staying.do_bind script w v q Stay hosts least (keeps_all (keeps_list vs)) (λ k. staying.do_then script w v q Stay hosts least (keeps_all (keeps_tell Moves (staying.goes script w v q Stay hosts least) (ListCame k vs))) (keeps_all (keeps_give Moves (staying.goes script w v q Stay hosts least) _)))

  mutual
    unfolding arriving.learn arriving.learn_all

    pub do_learn : (p : ℕ) (y : Passed (Incoming Name Name)) → Does (arriving.learn L p y)
    do_learn p (Plain y) = do_learn_value y
    do_learn p (AGift h i) = do_learn_gift p h i
    do_learn p (Many ys) = staying.do_bind script w v q Stay hosts least (do_learn_all p ys) (λ vs. do_make_list vs)

    do_learn_all : (p : ℕ) (ys : Passeds (Incoming Name Name)) → Does (arriving.learn_all L p ys)
    do_learn_all p NoMore = keeps_all (keeps_give Moves (staying.goes script w v q Stay hosts least) [])
    do_learn_all p (More y ys) = staying.do_bind script w v q Stay hosts least (do_learn p y) (λ x. staying.do_bind script w v q Stay hosts least (do_learn_all p ys) (λ xs. keeps_all (keeps_give Moves (staying.goes script w v q Stay hosts least) (x ∷ xs))))

-- ---- so it stays steady

-- The name comes first, and then what is told of it.
module _ (script : Script) (w : World) (v from : ℕ) (nn : Incoming Name Name) (zz : Passed (Incoming Name Name)) (s r t : Vat Name) (n : Name) (x : Value Name) (first : arriving.learn_name (names script v) nn s ≡ Gives n r) (last : arriving.learn (names script v) from zz r ≡ Gives x t) where
  abbrev K : Naming Name Name
  K = names script v

  abbrev Both : Act Name (List (Value Name))
  Both = arriving.learn_all K from (More (Plain (Ref nn)) (More zz NoMore))

  pub both : Both s ≡ Gives (Ref n ∷ x ∷ []) t
  unfolding arriving.learn_all arriving.learn arriving.learn_value ◌>>=◌ and_then give
  both = ap (λ d. and_then (and_then d (λ m. give (Ref m))) (λ y. arriving.learn_all K from (More zz NoMore) >>= (λ ys. give (y ∷ ys)))) first
      ∙ ap (λ d. and_then (and_then d (λ y. arriving.learn_all K from NoMore >>= (λ ys. give (y ∷ ys)))) (λ ys. give (Ref n ∷ ys))) last

  abbrev word : ℕ → ℕ
  word = draw_word script.key

  good : (q : Name) (Stay : Standing Name → Type 0) (settled : (y : Value Name) → Stay (Settled y)) → owed_at v q ≡ false → IsAside v q → GoodAt script w v q Stay s s → GoodAt script w v q Stay s t
  good q Stay settled none aside g = let one = done_at (GoodAt script w v q Stay s) (arriving.learn_name K nn s) n r first ((do_learn_name script w v q Stay s.noticed (Rattle.std.specs.Prelude.length s.known) settled nn).after s g) in
      done_at (GoodAt script w v q Stay s) (arriving.learn K from zz r) x t last ((do_learn script w v q Stay s.noticed (Rattle.std.specs.Prelude.length s.known) settled from zz).after r one)

  module _ (comes : ComesAsNoObject nn) (host : HostComes nn) (comes_too : PassedComes zz) (hosts : PassedHosts zz) (c o : Name → ℕ) (h : Steady script w v c o s)
      (room : (y : Name) → claims v y s.known + (new_name y nn + new_in y zz + o y) ≤ allowed v y s s.drawn) where
    sound : Sound v t
    unfolding names
    sound = let g = global_names word v in
        let one = light_at v (Promise 0 0) 0 s (arriving.learn_name K nn s) n r first ((light_learn_name (Promise 0 0) K v g nn comes host).after s h.sound) in
        light_at v (Promise 0 0) 0 r (arriving.learn K from zz r) x t last ((light_learn (Promise 0 0) K v g from zz comes_too hosts).after r one)

    spared : (y : Name) → At script w v y (c y) t
    unfolding names
    spared y = let one = after_at (costs.Spares word v y (owed_at v y)) s (arriving.learn_name K nn s) n r first ((arrive_costs.learn_name word v y (owed_at v y) (fit_at v y) nn).after s) in
        let two = after_at (costs.Spares word v y (owed_at v y)) r (arriving.learn K from zz r) x t last ((arrive_costs.learn word v y (owed_at v y) (fit_at v y) from zz).after r) in two.at (c y) (one.at (c y) (h.room y))

    few : (y : Name) → claims v y t.known + o y ≤ allowed v y t t.drawn
    unfolding names new_in new_in_all new_in_value
    few y = claims_on script w v y (new_name y nn + (new_in y zz + 0)) (o y) s t h.sound.same (after_at (Knowing v y (new_name y nn + (new_in y zz + 0))) s (Both s) (Ref n ∷ x ∷ []) t both ((costs_learn_all v y word from (More (Plain (Ref nn)) (More zz NoMore))).after s)) (let i = room y in omega arith)

    pub learnt_steady : Steady script w v c o t
    learnt_steady = carried script w v c o s t h good c o sound spared few
