-- What all vats of a run made and what it drew is no more than its fuel and its steps pay for.
use Rattle.std.proofs.Common.{◌≡◌, ℕ, zero, suc, ◌+◌, ◌≤◌, Bool, true, false, List, [], ◌∷◌, ◌++◌, Option, Some, None, ◌==◌, refl, ap, subst, length, arith}
use Rattle.std.specs.Prelude.{slice_get}
use Rattle.std.specs.List.{AllByRecursion}
use Rattle.def_kernel.specs.declared.node.Node.{Node}
use Rattle.def_machine.specs.Values.{Value, Name, Root}
use Rattle.def_machine.specs.State.{Message, Passed, Passeds, Many, NoMore, More, Note, Deliver, SettledTo, Put, Vat, Done, Gives, Throws, Act}
use Rattle.def_machine.specs.Arrive.{notice}
use Rattle.def_machine.specs.Eval.{opening}
use Rattle.def_machine.specs.Form.{items_of, form_at}
use Rattle.def_machine.specs.Free.{bound_nouns, bound_at}
use Rattle.def_run.specs.World as world
use Rattle.def_run.specs.World.{Script, Program, Entry, Turn, Carry, CutLink, NoticeLink, Link, Event, Opens, NoticedAt, World, Run, Goes, Stopped, begins, put_at, with_link, with_notes, is_link, link_at}
use Rattle.law_machine.specs.Costs.Sizes.{made, load, loads, note_load}
use Rattle.law_machine.proofs.Costs.Costs.{Prices, paid, paid_more, all_end, Ends, Costs, cost_up}
use Rattle.law_machine.proofs.Costs.Arrive.{cost_arrive, free_notice}
use Rattle.law_machine.proofs.Costs.Calls.{ends_in}
use Rattle.law_machine.proofs.Costs.Eval.{cost_opening, cost_taking}

-- ---- places

all_put : {A : Type 0} (Q : A → Type 0) (n : ℕ) (y : A) (xs : List A) → AllByRecursion Q xs → Q y → AllByRecursion Q (put_at n y xs)
unfolding put_at
all_put Q n y [] h q = tt
all_put Q zero y (x ∷ xs) h q = (q, h.1)
all_put Q (suc n) y (x ∷ xs) h q = (h.0, all_put Q n y xs h.1 q)

all_at : {A : Type 0} (Q : A → Type 0) (xs : List A) (i : ℕ) (x : A) → AllByRecursion Q xs → slice_get xs i ≡ Some x → Q x
all_at Q [] i x h e = cc
all_at Q (y ∷ xs) zero x h e = let same : y ≡ x = cc in subst Q same h.0
all_at Q (y ∷ xs) (suc i) x h e = all_at Q xs i x h.1 e

all_append : {A : Type 0} (Q : A → Type 0) (xs ys : List A) → AllByRecursion Q xs → AllByRecursion Q ys → AllByRecursion Q (xs ++ ys)
all_append Q [] ys h k = k
all_append Q (x ∷ xs) ys h k = (h.0, all_append Q xs ys h.1 k)

either_all : {A : Type 0} (Q : A → Type 0) (b : Bool) (x y : A) → Q x → Q y → Q (elim b [ true ↦ x | false ↦ y ])
either_all Q true x y h k = h
either_all Q false x y h k = k

-- what so many vats have made
abbrev pub total : List (Vat Name) → ℕ
total [] = zero
total (s ∷ ss) = made s + total ss

total_put : (v : ℕ) (s t : Vat Name) (ss : List (Vat Name)) → slice_get ss v ≡ Some s → total (put_at v t ss) + made s ≡ total ss + made t
unfolding put_at
total_put v s t [] e = cc
total_put zero s t (u ∷ ss) e = let same : u ≡ s = cc in let m : made u ≡ made s = ap made same in omega (arith, m)
total_put (suc v) s t (u ∷ ss) e = let h = total_put v s t ss e in omega (arith, h)

pub in_total : (v : ℕ) (s : Vat Name) (ss : List (Vat Name)) → slice_get ss v ≡ Some s → made s ≤ total ss
in_total v s [] e = cc
in_total zero s (u ∷ ss) e = let same : u ≡ s = cc in let m : made u ≡ made s = ap made same in omega (arith, m)
in_total (suc v) s (u ∷ ss) e = let h = in_total v s ss e in omega (arith, h)

-- ---- a note brings as much once it is read

mutual
  unfolding world.read_passed world.read_all world.plain_read world.many_read world.more_read

  read_load : (y : Passed Name) (ks : List Name) → load (world.read_passed y ks).read ≡ load y
  read_load (Many ys) ks = ap suc (read_loads ys ks)
  read_load other ks = refl

  read_loads : (ys : Passeds Name) (ks : List Name) → loads (world.read_all ys ks).read ≡ loads ys
  read_loads NoMore ks = refl
  read_loads (More y ys) ks = let a = read_load y ks in let b = read_loads ys (world.read_passed y ks).known in omega (arith, a, b)

note_read : (ks : List Name) (n : Note Name) → note_load (world.read_note ks n) ≡ note_load n
unfolding world.read_note
note_read ks (Deliver d n verb ys) = read_loads ys ks
note_read ks (SettledTo n y) = read_load y (world.known_after ks n)
note_read ks other = refl

-- what no node of a tree exceeds
abbrev pub IsSmall : Prices → List Node → Type 0
IsSmall P tree = ((id : ℕ) → ends_in (items_of tree id) ≤ P.tree) × ((id : ℕ) → length (bound_nouns tree id) ≤ P.tree)

module _ (P : Prices) where
  abbrev ShortVat : Vat Name → Type 0
  ShortVat s = AllByRecursion (λ (vs : List (Value Name)). length vs ≤ P.fuel) s.lists

  abbrev ShortLink : Link → Type 0
  ShortLink l = AllByRecursion (λ (n : Note Name). note_load n ≤ P.fuel) l.notes

  -- A world that cost so much at most, with what is left to pay with.
  pub record Paid (k : ℕ) (w : World) : Type 0 where
    pub fuel : w.fuel ≤ P.fuel
    pub vats : AllByRecursion ShortVat w.vats
    pub links : AllByRecursion ShortLink w.links
    pub cost : total w.vats + (length w.drawn + paid P.unit w.fuel) ≤ k

  abbrev pub RunPaid : ℕ → Run → Type 0
  RunPaid k (Goes w) = Paid k w
  RunPaid k (Stopped c n w) = Paid k w

  paid_up : (k j : ℕ) (w : World) → k ≤ j → Paid k w → Paid j w
  paid_up k j w l h = let c = h.cost in record { fuel = h.fuel; vats = h.vats; links = h.links; cost = omega (arith, l, c) }

  run_up : (k j : ℕ) (r : Run) → k ≤ j → RunPaid k r → RunPaid j r
  run_up k j (Goes w) l h = paid_up k j w l h
  run_up k j (Stopped c n w) l h = paid_up k j w l h

  -- ---- links

  with_short : (f : Link → Link) → ((l : Link) → ShortLink l → ShortLink (f l)) → (v w : ℕ) (ls : List Link) → AllByRecursion ShortLink ls → AllByRecursion ShortLink (with_link f v w ls)
  unfolding with_link
  with_short f g v w [] h = tt
  with_short f g v w (l ∷ ls) h = either_all (AllByRecursion ShortLink) (is_link v w l) (f l ∷ ls) (l ∷ with_link f v w ls) (g l h.0, h.1) (h.0, with_short f g v w ls h.1)

  pushed_short : (n : Note Name) → note_load n ≤ P.fuel → (l : Link) → ShortLink l → ShortLink (world.pushed n l)
  unfolding world.pushed
  pushed_short n f l h = either_all ShortLink l.cut _ _ h (all_end (λ (m : Note Name). note_load m ≤ P.fuel) l.notes n h f)

  push_short : (v : ℕ) (ps : List (Put Name)) (ls : List Link) → AllByRecursion (λ (p : Put Name). note_load p.note ≤ P.fuel) ps → AllByRecursion ShortLink ls → AllByRecursion ShortLink (world.push_all v ps ls)
  unfolding world.push_all
  push_short v [] ls f h = h
  push_short v (p ∷ ps) ls f h = push_short v ps _ f.1 (with_short (world.pushed p.note) (pushed_short p.note f.0) v p.to ls h)

  found_by : (k l : Link) (o : Option Link) (b : Bool) → elim b [ true ↦ Some k | false ↦ o ] ≡ Some l → ShortLink k → (o ≡ Some l → ShortLink l) → ShortLink l
  found_by k l o true e h later = let same : k ≡ l = cc in subst ShortLink same h
  found_by k l o false e h later = later e

  found : (v w : ℕ) (ls : List Link) (l : Link) → link_at v w ls ≡ Some l → AllByRecursion ShortLink ls → ShortLink l
  unfolding link_at
  found v w [] l e h = cc
  found v w (k ∷ ls) l e h = found_by k l (link_at v w ls) (is_link v w k) e h.0 (λ g. found v w ls l g h.1)

  -- ---- a step of a vat

  put_paid : (k v : ℕ) (w : World) (head : List Event) (n : ℕ) (s : Vat Name) → slice_get w.vats v ≡ Some s → Paid k w → (c : ℕ) → c ≤ P.call + 10 → (d : Done Name (Unit {0})) → Ends P (made s + (length w.drawn + paid P.unit w.fuel)) c c d
      → RunPaid (k + P.call) (world.put_back v w head n d)
  unfolding world.put_back
  put_paid k v w head n s at h c few (Gives u t) e = let e1 = total_put v s t w.vats at in let l = h.cost in let l1 = e.1 in record {
    fuel = e.0.fuel;
    vats = all_put ShortVat v t w.vats h.vats e.0.lists;
    links = push_short v t.outbox w.links e.0.outbox h.links;
    cost = omega (arith, e1, l, l1, few);
  }
  put_paid k v w head n s at h c few (Throws p t) e = paid_up k (k + P.call) w (omega arith) h
  put_paid k v w head n s at h c few other e = paid_up k (k + P.call) w (omega arith) h

  within_paid : (k v : ℕ) (w : World) (head : List Event) (n : ℕ) (m : Act Name (Unit {0})) (s : Vat Name) (ms : List (Message Name)) → slice_get w.vats v ≡ Some s → Paid k w → (c : ℕ) → c ≤ P.call + 10 → Costs P c c m
      → RunPaid (k + P.call) (world.within v w head n m (Some (record s { queue = ms })))
  unfolding world.within world.readied made
  within_paid k v w head n m s ms at h c few costs = let r : Vat Name = world.readied w (record s { queue = ms }) in
      put_paid k v w head n s at h c few (m r) (costs.after r (record { fuel = h.fuel; lists = all_at ShortVat w.vats v s h.vats at; outbox = tt }))

  module _ (script : Script) (trees : AllByRecursion (λ (p : Program). IsSmall P p.tree) script.vats) where
    no_tree : IsSmall P []
    unfolding items_of bound_nouns form_at bound_at
    no_tree = (λ id. omega arith, λ id. omega arith)

    small : (ps : List Program) (v : ℕ) → AllByRecursion (λ (p : Program). IsSmall P p.tree) ps → IsSmall P (world.tree_at ps v)
    unfolding world.tree_at
    small [] v h = no_tree
    small (p ∷ ps) zero h = h.0
    small (p ∷ ps) (suc v) h = small ps v h.1

    idle_paid : (k n : ℕ) (w : World) → Paid k w → RunPaid (k + P.call) (world.idle script n w)
    unfolding world.idle
    idle_paid k n w h = let c = h.cost in record { fuel = h.fuel; vats = h.vats; links = h.links; cost = omega (arith, c) }

    turn_queue : (k n v : ℕ) (w : World) (s : Vat Name) → slice_get w.vats v ≡ Some s → Paid k w → (ms : List (Message Name)) → RunPaid (k + P.call) (world.turn_queue script n v w s ms)
    unfolding world.turn_queue
    turn_queue k n v w s at h [] = idle_paid k n w h
    turn_queue k n v w s at h (m ∷ ms) = let t = small script.vats v trees in within_paid k v w _ _ _ s ms at h (suc P.call) (omega arith) (cost_taking P (world.names script v) (world.tree_at script.vats v) t.0 t.1 script.depth m)

    turn : (k n v : ℕ) (w : World) → Paid k w → (o : Option (Vat Name)) → slice_get w.vats v ≡ o → RunPaid (k + P.call) (world.turn script n v w o)
    unfolding world.turn
    turn k n v w h None e = idle_paid k n w h
    turn k n v w h (Some s) e = turn_queue k n v w s e h s.queue

    arrives : (k n v u : ℕ) (w : World) (x : Note Name) → note_load x ≤ P.fuel → Paid k w → (o : Option (Vat Name)) → slice_get w.vats u ≡ o → RunPaid (k + P.call) (world.arrives script n v u w x o)
    unfolding world.arrives
    arrives k n v u w x l h None e = idle_paid k n w h
    arrives k n v u w x l h (Some s) e = let r = note_read (world.names_of s) x in let c = P.calls in
        within_paid k u w _ _ _ s s.queue e h _ (omega (arith, l, r, c)) (cost_arrive P (world.names script u) v (world.read_note (world.names_of s) x) (omega (arith, l, r)))

    carry_notes : (k n v u : ℕ) (w : World) (ns : List (Note Name)) → AllByRecursion (λ (x : Note Name). note_load x ≤ P.fuel) ns → Paid k w → RunPaid (k + P.call) (world.carry_notes script n v u w ns)
    unfolding world.carry_notes with_notes
    carry_notes k n v u w [] f h = idle_paid k n w h
    carry_notes k n v u w (x ∷ ns) f h = arrives k n v u (record w { links = with_link (with_notes ns) v u w.links }) x f.0
        (record { fuel = h.fuel; vats = h.vats; links = with_short (with_notes ns) (λ l g. f.1) v u w.links h.links; cost = h.cost }) (slice_get w.vats u) refl

    cut_or : (k n v u : ℕ) (w : World) (l : Link) → ShortLink l → Paid k w → (b : Bool) → RunPaid (k + P.call) (elim b [ true ↦ world.idle script n w | false ↦ world.carry_notes script n v u w l.notes ])
    cut_or k n v u w l f h true = idle_paid k n w h
    cut_or k n v u w l f h false = carry_notes k n v u w l.notes f h

    carry_link : (k n v u : ℕ) (w : World) → Paid k w → (o : Option Link) → link_at v u w.links ≡ o → RunPaid (k + P.call) (world.carry_link script n v u w o)
    unfolding world.carry_link
    carry_link k n v u w h None e = idle_paid k n w h
    carry_link k n v u w h (Some l) e = cut_or k n v u w l (found v u w.links l e h.links) h l.cut

    severs : (l : Link) → ShortLink l → ShortLink (world.severed_link l)
    unfolding world.severed_link
    severs l h = tt

    cut : (k n v u : ℕ) (w : World) → Paid k w → RunPaid (k + P.call) (world.cut script n v u w)
    unfolding world.cut
    cut k n v u w h = let c = h.cost in record {
      fuel = h.fuel;
      vats = h.vats;
      links = with_short world.severed_link severs u v _ (with_short world.severed_link severs v u w.links h.links);
      cost = omega (arith, c);
    }

    notices : (k n v u : ℕ) (w : World) → Paid k w → (o : Option (Vat Name)) → slice_get w.vats v ≡ o → RunPaid (k + P.call) (world.within v w (NoticedAt n v u ∷ []) (world.step_number script n) (notice (world.names script v) u) o)
    notices k n v u w h None e = unfold world.within in paid_up k (k + P.call) w (omega arith) h
    notices k n v u w h (Some s) e = within_paid k v w _ _ _ s s.queue e h 10 (omega arith) (cost_up P (omega arith) (omega arith) (free_notice P (world.names script v) u))

    step : (k n : ℕ) (e : Entry) (w : World) → Paid k w → RunPaid (k + P.call) (world.step script e n w)
    unfolding world.step
    step k n (Turn v) w h = turn k n v w h (slice_get w.vats v) refl
    step k n (Carry v u) w h = carry_link k n v u w h (link_at v u w.links) refl
    step k n (CutLink v u) w h = cut k n v u w h
    step k n (NoticeLink v u) w h = notices k n v u w h (slice_get w.vats v) refl

    opens_at : (k v : ℕ) (p : Program) (w : World) → IsSmall P p.tree → Paid k w → (o : Option (Vat Name)) → slice_get w.vats v ≡ o
        → RunPaid (k + P.call) (world.within v w (Opens v ∷ []) v (opening (world.names script v) p.tree script.depth (Root v) (world.given script.vats p.knows)) o)
    opens_at k v p w t h None e = unfold world.within in paid_up k (k + P.call) w (omega arith) h
    opens_at k v p w t h (Some s) e = within_paid k v w _ _ _ s s.queue e h (suc P.call) (omega arith) (cost_opening P (world.names script v) p.tree t.0 t.1 script.depth (Root v) (world.given script.vats p.knows))

    opens : (k v : ℕ) (p : Program) (w : World) → IsSmall P p.tree → Paid k w → RunPaid (k + P.call) (world.open_vat script v p w)
    unfolding world.open_vat
    opens k v p w t h = opens_at k v p w t h (slice_get w.vats v) refl

    -- ---- one step after another

    then_paid : (k j : ℕ) (r : Run) (f : World → Run) → k ≤ j → RunPaid k r → ((w : World) → Paid k w → RunPaid j (f w)) → RunPaid j (world.then_goes r f)
    unfolding world.then_goes
    then_paid k j (Goes w) f l h g = g w h
    then_paid k j (Stopped c n w) f l h g = paid_up k j w l h

    opens_paid : (k v : ℕ) (ps : List Program) (w : World) → AllByRecursion (λ (p : Program). IsSmall P p.tree) ps → Paid k w → RunPaid (k + paid P.call (length ps)) (world.open_from script v ps w)
    unfolding world.open_from
    opens_paid k v [] w t h = paid_up k _ w (omega arith) h
    opens_paid k v (p ∷ ps) w t h = let e = paid_more P.call (length ps) in then_paid (k + P.call) _ _ _ (omega (arith, e)) (opens k v p w t.0 h)
        (λ y g. run_up (k + P.call + paid P.call (length ps)) _ (world.open_from script (suc v) ps y) (omega (arith, e)) (opens_paid (k + P.call) (suc v) ps y t.1 g))

    steps_paid : (k n : ℕ) (es : List Entry) (w : World) → Paid k w → RunPaid (k + paid P.call (length es)) (world.steps_from script es n w)
    unfolding world.steps_from
    steps_paid k n [] w h = paid_up k _ w (omega arith) h
    steps_paid k n (e ∷ es) w h = let m = paid_more P.call (length es) in then_paid (k + P.call) _ _ _ (omega (arith, m)) (step k n e w h)
        (λ y g. run_up (k + P.call + paid P.call (length es)) _ (world.steps_from script es (suc n) y) (omega (arith, m)) (steps_paid (k + P.call) (suc n) es y g))

    close_paid : (k : ℕ) (w : World) → Paid k w → RunPaid k (world.close script w)
    unfolding world.close
    close_paid k w h = record { fuel = h.fuel; vats = h.vats; links = h.links; cost = h.cost }

    -- ---- the start

    none_made : (v : ℕ) (ps : List Program) → total (world.fresh_from script v ps) ≡ zero
    unfolding world.fresh_from world.fresh made
    none_made v [] = refl
    none_made v (p ∷ ps) = let e = none_made (suc v) ps in omega (arith, e)

    fresh_short : (v : ℕ) (ps : List Program) → AllByRecursion ShortVat (world.fresh_from script v ps)
    unfolding world.fresh_from world.fresh
    fresh_short v [] = tt
    fresh_short v (p ∷ ps) = (tt, fresh_short (suc v) ps)

    links_to_short : (v w : ℕ) (ps : List Program) → AllByRecursion ShortLink (world.links_to v w ps)
    unfolding world.links_to
    links_to_short v w [] = tt
    links_to_short v w (p ∷ ps) = either_all (AllByRecursion ShortLink) (v == w) (world.links_to v (suc w) ps) _ (links_to_short v (suc w) ps) (tt, links_to_short v (suc w) ps)

    links_short : (v : ℕ) (ps : List Program) → AllByRecursion ShortLink (world.links_from script.vats v ps)
    unfolding world.links_from
    links_short v [] = tt
    links_short v (p ∷ ps) = all_append ShortLink _ _ (links_to_short v zero script.vats) (links_short (suc v) ps)

    begins_paid : script.fuel ≤ P.fuel → Paid (paid P.unit script.fuel) (begins script)
    unfolding begins
    begins_paid l = let e = none_made zero script.vats in record { fuel = l; vats = fresh_short zero script.vats; links = links_short zero script.vats; cost = omega (arith, e) }

    pub run_paid : script.fuel ≤ P.fuel → RunPaid (paid P.unit script.fuel + paid P.call (length script.vats) + paid P.call (length script.schedule)) (world.run script)
    unfolding world.run
    run_paid l = then_paid _ _ _ _ (omega arith) (opens_paid _ zero script.vats (begins script) trees (begins_paid l))
        (λ y g. then_paid _ _ _ _ (omega arith) (steps_paid _ 1 script.schedule y g) (λ z h. close_paid _ z h))
