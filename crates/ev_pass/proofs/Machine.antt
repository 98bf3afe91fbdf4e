-- Passing in the code's terms is the machine's passing in local numbers.
use Rattle.std.proofs.Common.{◌≡◌, ℕ, zero, suc, ◌+◌, Bool, true, false, List, [], ◌∷◌, Option, Some, None, Ok, Err, map, refl, sym, ap, ◌∙◌, subst, arith}
use Rattle.std.specs.Prelude.{Result, ◌==◌, codes, if◌then◌else◌, slice_get, option_map, length}
use Rattle.ev_base.specs.declared.values.Value.{Value as Held}
use Rattle.ev_base.specs.declared.values.Value.TheVariants as held
use Rattle.ev_heap.specs.Contents.{Contents}
use Rattle.ev_intro.specs.Word.{word}
use Rattle.def_machine.specs.Native.{list_at}
use Rattle.def_machine.specs.Refs as refs
use Rattle.def_machine.specs.Refs.{shape, shapes, shape_by, follow, place}
use Rattle.def_machine.specs.State as machine
use Rattle.def_machine.specs.State.{Vat, Done}
use Rattle.def_machine.specs.Values.{Words, Value, Broken, Items, Local, key as gift_key}
use Rattle.ev_refs.specs.Follow.{led, severed, followed, place_of}
use Rattle.ev_refs.specs.Leading.{lists_in, members_at}
use Rattle.ev_refs.specs.Reading.{text_by, value_by, place_by}
use Rattle.ev_refs.specs.declared.follow.Place.{Place}
use Rattle.ev_refs.specs.declared.follow.Place.TheVariants.{Near, Mine, FarPromise, FarObject, Gone}
use Rattle.ev_refs.proofs.Machine.{follow_is, place_is}
use Rattle.ev_pass.specs.Acts as code
use Rattle.ev_pass.specs.Acts.{Out, Act}
use Rattle.ev_pass.specs.Measuring.{room_after, weighed, weighed_data, weighed_end, weighed_list}
use Rattle.ev_pass.specs.Notes.{Parcel, Plain, Gift, Many, NoMore, More, Noted, Open}
use Rattle.ev_pass.specs.Passing.{provide, introduce, address_plain, packs, pack_at, pack_list, pack_end, pass_weighed, pass_by, pass, wrap}
use Rattle.ev_pass.specs.Reading.{Lines, Reads, StandsFor, around, names_under, passed_by, passeds_by, reference_by, vat_at}
use Rattle.ev_pass.specs.declared.interior.Interior.{Interior}
use Rattle.ev_pass.specs.declared.interior.Stop.{Stop}
use Rattle.ev_pass.specs.declared.interior.Stop.TheVariants as stop
use Rattle.ev_pass.specs.declared.measure.Misfit.{Misfit}
use Rattle.ev_pass.specs.declared.measure.Misfit.TheVariants.{TooHeavy, Missing}
use Rattle.ev_pass.specs.declared.measure.Weighed.{Weighed}
use Rattle.ev_pass.specs.declared.note.Reference.{Reference}
use Rattle.ev_pass.specs.declared.note.Reference.TheVariants as reference
use Rattle.ev_pass.proofs.Rooms.{Agrees, room_is, members_are}
use Rattle.ev_pass.proofs.Stands.{both_then, gives, spend_is, sent_out_is, draw_is, to_tell_is}
use Rattle.ev_pass.proofs.Ways.{same_ways}

abbrev broken : Words → Value Local
broken t = Broken t

-- what passing leaves as it is: the heap, the ways of values, and the text of what is too heavy
pub record Keeps (i j : Interior) : Type 0 where
  pub heap : j.heap ≡ i.heap
  pub ways : (v : Held) → followed j.refs v ≡ followed i.refs v
  pub heavy : j.too_heavy ≡ i.too_heavy

keeps_none : (i : Interior) → Keeps i i
keeps_none i = record { heap = refl; ways = λ v. refl; heavy = refl }

keeps_both : (i j k : Interior) → Keeps i j → Keeps j k → Keeps i k
keeps_both i j k f g = record { heap = g.heap ∙ f.heap; ways = λ v. g.ways v ∙ f.ways v; heavy = g.heavy ∙ f.heavy }

-- where something gives, it keeps that
abbrev KeepsWhere : {A : Type 0} → Interior → Out A → Type 0
KeepsWhere i (Ok a, j) = Keeps i j
KeepsWhere i (Err e, j) = Unit {0}

keeps_from : {A : Type 0} (i j : Interior) (o : Out A) → Keeps i j → KeepsWhere j o → KeepsWhere i o
keeps_from i j (Ok a, k) f g = keeps_both i j k f g
keeps_from i j (Err e, k) f g = tt

keeps_then : {A B : Type 0} (i : Interior) (o : Out A) (f : A → Act B) → KeepsWhere i o → ((a : A) (j : Interior) → KeepsWhere j (f a j)) → KeepsWhere i (code.and_then o f)
unfolding code.and_then
keeps_then i (Ok a, j) f h k = keeps_from i j (f a j) h (k a j)
keeps_then i (Err e, j) f h k = tt

-- what is kept where something gave that
kept_in : {A : Type 0} (i j : Interior) (a : A) (o : Out A) → o ≡ (Ok a, j) → KeepsWhere i o → Keeps i j
kept_in {A} i j a o e h = let all : KeepsWhere {A = A} i (Ok a, j) = subst (λ (x : Out A). KeepsWhere i x) e h in all

draws_keep : (o : Option ℕ) (i : Interior) → KeepsWhere i (code.draws o i)
unfolding code.draws
draws_keep None i = record { heap = refl; ways = λ v. refl; heavy = refl }
draws_keep (Some n) i = tt

draw_keeps : (i : Interior) → KeepsWhere i (code.draw i)
unfolding code.draw
draw_keeps i = draws_keep _ i

put_keeps : (to : ℕ) (n : Noted) (i : Interior) → KeepsWhere i (code.send_out to n i)
unfolding code.send_out
put_keeps to n i = record { heap = refl; ways = λ v. refl; heavy = refl }

tell_keeps : (w n : ℕ) (i : Interior) → KeepsWhere i (code.to_tell w n i)
unfolding code.to_tell
tell_keeps w n i = record { heap = refl; ways = same_ways w n i.refs (slice_get i.refs.known n) refl; heavy = refl }

spent_keeps : (n : ℕ) (b : Bool) (i : Interior) → KeepsWhere i (code.spent n b i)
unfolding code.spent
spent_keeps n true i = record { heap = refl; ways = λ v. refl; heavy = refl }
spent_keeps n false i = tt

spend_keeps : (n : ℕ) (i : Interior) → KeepsWhere i (code.spend n i)
unfolding code.spend
spend_keeps n i = spent_keeps n _ i

give_keeps : {A : Type 0} (a : A) (i : Interior) → KeepsWhere i (code.give a i)
unfolding code.give
give_keeps a i = keeps_none i

provide_keeps : (h : ℕ) (x : Reference) (i : Interior) → KeepsWhere i (provide h x i)
unfolding provide code.◌>>=◌ code.◌>>◌
provide_keeps h x i = keeps_then i (code.draw i) _ (draw_keeps i) (λ w j. let n = gift_key i.refs.me w in keeps_then j (code.send_out h (Open n x) j) _ (put_keeps h (Open n x) j) (λ u k. give_keeps (Gift h n) k))

chosen_keeps : (b : Bool) (y : Held) (h : ℕ) (x : Reference) (i : Interior) → KeepsWhere i ((if b then code.give (Plain y) else provide h x) i)
chosen_keeps true y h x i = give_keeps (Plain y) i
chosen_keeps false y h x i = provide_keeps h x i

plain_keeps : (w : ℕ) (y : Held) (p : Place) (i : Interior) → KeepsWhere i (address_plain w y p i)
unfolding address_plain introduce code.◌>>◌
plain_keeps w y Near i = give_keeps (Plain y) i
plain_keeps w y (Gone t) i = give_keeps (Plain y) i
plain_keeps w y (Mine n) i = keeps_then i (code.to_tell w n i) _ (tell_keeps w n i) (λ u j. give_keeps (Plain y) j)
plain_keeps w y (FarPromise h n) i = chosen_keeps (h == w) y h (reference.Promise n) i
plain_keeps w y (FarObject h p) i = chosen_keeps (h == w) y h (reference.Far h p) i

at_keeps : (inside : ℕ → Act Parcel) → ((k : ℕ) (j : Interior) → KeepsWhere j (inside k j)) → (w : ℕ) (y : Held) (i : Interior) → KeepsWhere i (pack_at inside w y i)
unfolding pack_at
at_keeps inside all w (held.List k) i = all k i
at_keeps inside all w held.Null i = plain_keeps w held.Null _ i
at_keeps inside all w (held.Bool b) i = plain_keeps w (held.Bool b) _ i
at_keeps inside all w (held.Int z) i = plain_keeps w (held.Int z) _ i
at_keeps inside all w (held.Char c) i = plain_keeps w (held.Char c) _ i
at_keeps inside all w (held.Text id) i = plain_keeps w (held.Text id) _ i
at_keeps inside all w (held.Prim n) i = plain_keeps w (held.Prim n) _ i
at_keeps inside all w (held.Obj n) i = plain_keeps w (held.Obj n) _ i
at_keeps inside all w (held.Prom n) i = plain_keeps w (held.Prom n) _ i
at_keeps inside all w (held.Far h p) i = plain_keeps w (held.Far h p) _ i
at_keeps inside all w (held.Broken id) i = plain_keeps w (held.Broken id) _ i

all_keep : (f : Held → Act Parcel) → ((v : Held) (j : Interior) → KeepsWhere j (f v j)) → (vs : List Held) (i : Interior) → KeepsWhere i (packs f vs i)
unfolding packs code.◌>>=◌
all_keep f one [] i = give_keeps NoMore i
all_keep f one (v ∷ vs) i = keeps_then i (f v i) _ (one v i) (λ p j. keeps_then j (packs f vs j) _ (all_keep f one vs j) (λ ps k. give_keeps (More p ps) k))

list_keeps : (d w k : ℕ) (i : Interior) → KeepsWhere i (pack_list d w k i)
unfolding pack_list code.◌>>=◌ wrap
list_keeps zero w k i = give_keeps (Plain (held.Broken i.too_heavy)) i
list_keeps (suc d) w k i =
    keeps_then i (packs (λ v t. pack_at (λ j. pack_list d w j) w (followed t.refs v) t) (members_at (lists_in i.heap) k) i) _
    (all_keep (λ v t. pack_at (λ j. pack_list d w j) w (followed t.refs v) t) (λ v t. at_keeps (λ j. pack_list d w j) (λ j u. list_keeps d w j u) w (followed t.refs v) t) (members_at (lists_in i.heap) k) i)
    (λ ps j. give_keeps (Many ps) j)

module _ (ts : List Words) (key : List ℕ) (line : Lines) (s : Vat Local) where
  abbrev pub at : Interior → Vat Local
  at i = vat_at ts line i s

  abbrev pub Stands : {A B : Type 0} → (A → B) → Out A → Done Local B → Type 0
  Stands read o d = StandsFor ts key line s read o d

  pub followed_at : (i : Interior) (v : Held) → Reads ts key i → follow (names_under key) (at i) (value_by ts v) ≡ value_by ts (followed i.refs v)
  followed_at i v good = follow_is (word key) ts i.refs (around ts line i s) v good.known

  pub placed_at : (i : Interior) (v : Held) → place (names_under key) (at i) (value_by ts v) ≡ place_by ts (place_of i.refs v)
  placed_at i v = place_is (word key) ts i.refs (around ts line i s) v

  -- ---- a followed value

  provide_is : (h : ℕ) (x : Reference) (i : Interior) → Reads ts key i
      → Stands (passed_by ts) (provide h x i) (machine.and_then (machine.draw (names_under key) (at i)) (λ n t. machine.and_then (machine.send_out h (machine.Open n (reference_by x)) t) (λ _. machine.give (machine.AGift h n))))
  unfolding provide code.◌>>=◌ code.◌>>◌ passed_by
  provide_is h x i good =
      both_then ts key line s (λ w. gift_key i.refs.me w) (passed_by ts) (code.draw i) _ _ _ (draw_is ts key line s i good)
      (λ w j e ready. let n = gift_key i.refs.me w in both_then ts key line s (λ u. u) (passed_by ts) (code.send_out h (Open n x) j) _ _ _ (sent_out_is ts key line s h (Open n x) j ready)
      (λ u k g done. gives ts key line s (passed_by ts) (Gift h n) k done))

  chosen_is : (b : Bool) (y : Held) (h : ℕ) (x : Reference) (i : Interior) → Reads ts key i
      → Stands (passed_by ts) ((if b then code.give (Plain y) else provide h x) i)
      ((if b then machine.give (machine.Plain (value_by ts y)) else (λ t. machine.and_then (machine.draw (names_under key) t) (λ n u. machine.and_then (machine.send_out h (machine.Open n (reference_by x)) u) (λ _. machine.give (machine.AGift h n))))) (at i))
  unfolding passed_by
  chosen_is true y h x i good = gives ts key line s (passed_by ts) (Plain y) i good
  chosen_is false y h x i good = provide_is h x i good

  plain_is : (w : ℕ) (y : Held) (p : Place) (i : Interior) → Reads ts key i → Stands (passed_by ts) (address_plain w y p i) (refs.address_plain (names_under key) w (value_by ts y) (place_by ts p) (at i))
  unfolding address_plain introduce refs.address_plain code.◌>>◌ machine.◌>>◌ machine.◌>>=◌ passed_by
  plain_is w y Near i good = gives ts key line s (passed_by ts) (Plain y) i good
  plain_is w y (Gone t) i good = gives ts key line s (passed_by ts) (Plain y) i good
  plain_is w y (Mine n) i good =
      both_then ts key line s (λ u. u) (passed_by ts) (code.to_tell w n i) _ _ _ (to_tell_is ts key line s w n i good) (λ u j e ready. gives ts key line s (passed_by ts) (Plain y) j ready)
  plain_is w y (FarPromise h n) i good = chosen_is (h == w) y h (reference.Promise n) i good
  plain_is w y (FarObject h p) i good = chosen_is (h == w) y h (reference.Far h p) i good

  by_place : (w : ℕ) (y : Held) (i : Interior) → Reads ts key i → Stands (passed_by ts) (address_plain w y (place_of i.refs y) i) (refs.address (names_under key) w (machine.Plain (value_by ts y)) (at i))
  unfolding refs.address machine.◌>>=◌ machine.look machine.and_then
  by_place w y i good =
      subst (λ (p : refs.Place Local). Stands (passed_by ts) (address_plain w y (place_of i.refs y) i) (refs.address_plain (names_under key) w (value_by ts y) p (at i))) (sym (placed_at i y)) (plain_is w y (place_of i.refs y) i good)

  module _ (w : ℕ) (base : Interior) (ready : Reads ts key base) where
    abbrev lists : List (List (Value Local))
    lists = map (map (value_by ts)) (lists_in base.heap)

    -- what the machine makes of the members of a list, in which at most so many lists stand in each other
    abbrev inner : ℕ → List (Value Local) → machine.Passed Local
    inner zero = λ vs. machine.Plain (Broken (codes "too heavy"))
    inner (suc d) = λ vs. machine.Many (shapes (names_under key) (λ v. shape (names_under key) d (at base) v) vs)

    by_inner : (d : ℕ) (x : Value Local) → shape (names_under key) d (at base) x ≡ shape_by (names_under key) (inner d) lists (follow (names_under key) (at base) x)
    unfolding shape
    by_inner zero x = refl
    by_inner (suc d) x = refl

    at_is : (inside : ℕ → Act Parcel) (members : List (Value Local) → machine.Passed Local) (i : Interior) → Reads ts key i
        → ((k : ℕ) → Stands (passed_by ts) (inside k i) (refs.address (names_under key) w (members (list_at lists k)) (at i)))
        → (y : Held) → Stands (passed_by ts) (pack_at inside w y i) (refs.address (names_under key) w (shape_by (names_under key) members lists (value_by ts y)) (at i))
    unfolding pack_at shape_by
    at_is inside members i good same (held.List k) = same k
    at_is inside members i good same held.Null = by_place w held.Null i good
    at_is inside members i good same (held.Bool b) = by_place w (held.Bool b) i good
    at_is inside members i good same (held.Int z) = by_place w (held.Int z) i good
    at_is inside members i good same (held.Char c) = by_place w (held.Char c) i good
    at_is inside members i good same (held.Text id) = by_place w (held.Text id) i good
    at_is inside members i good same (held.Prim n) = by_place w (held.Prim n) i good
    at_is inside members i good same (held.Obj n) = by_place w (held.Obj n) i good
    at_is inside members i good same (held.Prom n) = by_place w (held.Prom n) i good
    at_is inside members i good same (held.Far h p) = by_place w (held.Far h p) i good
    at_is inside members i good same (held.Broken id) = by_place w (held.Broken id) i good

    all_are : (f : Held → Act Parcel) (g : Value Local → machine.Passed Local) → ((v : Held) (i : Interior) → KeepsWhere i (f v i))
        → ((v : Held) (i : Interior) → Keeps base i → Reads ts key i → Stands (passed_by ts) (f v i) (refs.address (names_under key) w (g (value_by ts v)) (at i)))
        → (vs : List Held) (i : Interior) → Keeps base i → Reads ts key i → Stands (passeds_by ts) (packs f vs i) (refs.address_all (names_under key) w (shapes (names_under key) g (map (value_by ts) vs)) (at i))
    unfolding packs shapes refs.address_all passeds_by code.◌>>=◌ machine.◌>>=◌
    all_are f g keeps one [] i same good = gives ts key line s (passeds_by ts) NoMore i good
    all_are f g keeps one (v ∷ vs) i same good =
        both_then ts key line s (passed_by ts) (passeds_by ts) (f v i) _ _ _ (one v i same good)
        (λ p j e next. both_then ts key line s (passeds_by ts) (passeds_by ts) (packs f vs j) _ _ _
        (all_are f g keeps one vs j (keeps_both base i j same (kept_in i j p (f v i) e (keeps v i))) next)
        (λ ps k h done. gives ts key line s (passeds_by ts) (More p ps) k done))

    one_is : (d : ℕ) (v : Held) (i : Interior) → ((k : ℕ) → Stands (passed_by ts) (pack_list d w k i) (refs.address (names_under key) w (inner d (list_at lists k)) (at i)))
        → Keeps base i → Reads ts key i → Stands (passed_by ts) (pack_at (λ k. pack_list d w k) w (followed i.refs v) i) (refs.address (names_under key) w (shape (names_under key) d (at base) (value_by ts v)) (at i))
    one_is d v i inside same good =
        let led : shape (names_under key) d (at base) (value_by ts v) ≡ shape_by (names_under key) (inner d) lists (value_by ts (followed i.refs v)) =
        by_inner d (value_by ts v) ∙ ap (λ (x : Value Local). shape_by (names_under key) (inner d) lists x) (followed_at base v ready) ∙ ap (λ (y : Held). shape_by (names_under key) (inner d) lists (value_by ts y)) (sym (same.ways v)) in
        subst (λ (x : machine.Passed Local). Stands (passed_by ts) (pack_at (λ k. pack_list d w k) w (followed i.refs v) i) (refs.address (names_under key) w x (at i))) (sym led)
        (at_is (λ k. pack_list d w k) (inner d) i good inside (followed i.refs v))

    heavy_is : (i : Interior) → Reads ts key i → Stands (passed_by ts) (code.give (Plain (held.Broken i.too_heavy)) i) (refs.address (names_under key) w (machine.Plain (Broken (codes "too heavy"))) (at i))
    unfolding refs.address machine.◌>>=◌ machine.look machine.and_then refs.place refs.address_plain passed_by
    heavy_is i good =
        subst (λ (t : Words). Stands (passed_by ts) (code.give (Plain (held.Broken i.too_heavy)) i) (machine.give (machine.Plain (broken t)) (at i))) good.heavy
        (gives ts key line s (passed_by ts) (Plain (held.Broken i.too_heavy)) i good)

    list_is : (d k : ℕ) (i : Interior) → Keeps base i → Reads ts key i → Stands (passed_by ts) (pack_list d w k i) (refs.address (names_under key) w (inner d (list_at lists k)) (at i))
    unfolding pack_list refs.address code.◌>>=◌ machine.◌>>=◌ wrap passed_by
    list_is zero k i same good = heavy_is i good
    list_is (suc d) k i same good =
        let there : members_at (lists_in i.heap) k ≡ members_at (lists_in base.heap) k = ap (λ (h : Contents). members_at (lists_in h) k) same.heap in
        let pack_one : Held → Act Parcel = λ v t. pack_at (λ j. pack_list d w j) w (followed t.refs v) t in
        both_then ts key line s (passeds_by ts) (passed_by ts) (packs pack_one (members_at (lists_in i.heap) k) i) _ _ _
        (subst (λ (vs : List (Value Local)). Stands (passeds_by ts) (packs pack_one (members_at (lists_in i.heap) k) i) (refs.address_all (names_under key) w (shapes (names_under key) (λ v. shape (names_under key) d (at base) v) vs) (at i)))
        (ap (map (value_by ts)) there ∙ sym (members_are ts (lists_in base.heap) k))
        (all_are pack_one (λ v. shape (names_under key) d (at base) v) (λ v t. at_keeps (λ j. pack_list d w j) (λ j u. list_keeps d w j u) w (followed t.refs v) t)
        (λ v j kept well. one_is d v j (λ m. list_is d m j kept well) kept well) (members_at (lists_in i.heap) k) i same good))
        (λ ps j e done. gives ts key line s (passed_by ts) (Many ps) j done)

    -- a followed value passes
    pub end_is : (d : ℕ) (y : Held) (i : Interior) → Keeps base i → Reads ts key i → Stands (passed_by ts) (pack_end d w y i) (refs.address (names_under key) w (shape_by (names_under key) (inner d) lists (value_by ts y)) (at i))
    unfolding pack_end
    end_is d y i same good = at_is (λ k. pack_list d w k) (inner d) i good (λ k. list_is d k i same good) y

    -- ---- what passes, and its weight

    -- the machine weighs the same, and passes that
    abbrev Weighs : Result Weighed Stop → refs.Parcel Local → Type 0
    Weighs (Ok x) p = (p.weight ≡ x.weight) × (p.value ≡ shape_by (names_under key) (inner 100) lists (value_by ts x.value))
    Weighs (Err e) p = e ≡ stop.Missing

    list_stays : (k : ℕ) → follow (names_under key) (at base) (Items k) ≡ Items k
    unfolding followed led severed
    list_stays k = followed_at base (held.List k) ready

    list_shape : (k : ℕ) → shape (names_under key) 100 (at base) (Items k) ≡ shape_by (names_under key) (inner 100) lists (Items k)
    list_shape k = by_inner 100 (Items k) ∙ ap (λ (x : Value Local). shape_by (names_under key) (inner 100) lists x) (list_stays k)

    listed_is : (k : ℕ) (r : Result ℕ Misfit) (o : Option ℕ) → Agrees r o → Weighs (weighed_list base k r) (refs.parcel_of_list (names_under key) (at base) (Items k) o)
    unfolding weighed_list refs.parcel_of_list refs.most refs.highest refs.too_heavy shape_by
    listed_is k (Ok left) o h = rw h (refl, list_shape k)
    listed_is k (Err TooHeavy) o h = rw h (refl, ap (λ (t : Words). machine.Plain (broken t)) (sym ready.heavy))
    listed_is k (Err Missing) o h = refl

    text_is : (y : Held) (id : ℕ) (o : Option (List ℕ)) → slice_get base.heap.texts id ≡ o → Weighs (weighed_data y (option_map (λ u. length {A = ℕ} u + 1) o)) (record { weight = 1 + length (text_by ts id); value = shape_by (names_under key) (inner 100) lists (value_by ts y) })
    unfolding weighed_data
    text_is y id None e = refl
    text_is y id (Some u) e = let same : 1 + length (text_by ts id) ≡ length u + 1 = omega (arith, ap length (ready.texts id u e)) in (same, refl)

    ended_is : (y : Held) → Weighs (weighed_end base y) (refs.parcel_at (names_under key) (at base) (value_by ts y))
    unfolding weighed_end weighed_data refs.parcel_at refs.own_weight refs.most refs.highest shape_by
    ended_is (held.List k) = listed_is k (room_after 100 base.refs base.heap (held.List k) 65536) _ (room_is ts base.heap ready.texts base.refs (follow (names_under key) (at base)) (λ v. followed_at base v ready) 100 (held.List k) 65536)
    ended_is (held.Text id) = text_is (held.Text id) id (slice_get base.heap.texts id) refl
    ended_is (held.Broken id) = text_is (held.Broken id) id (slice_get base.heap.texts id) refl
    ended_is held.Null = (refl, refl)
    ended_is (held.Bool b) = (refl, refl)
    ended_is (held.Int z) = (refl, refl)
    ended_is (held.Char c) = (refl, refl)
    ended_is (held.Prim n) = (refl, refl)
    ended_is (held.Obj n) = (refl, refl)
    ended_is (held.Prom n) = (refl, refl)
    ended_is (held.Far h p) = (refl, refl)

    by_weight : (r : Result Weighed Stop) (p : refs.Parcel Local) → Weighs r p → Stands (passed_by ts) (pass_by w r base) (machine.and_then (machine.spend p.weight (at base)) (λ _. refs.address (names_under key) w p.value))
    unfolding pass_by pass_weighed code.◌>>◌ code.fail
    by_weight (Ok x) p h =
        subst (λ (n : ℕ). Stands (passed_by ts) (pass_weighed w x base) (machine.and_then (machine.spend n (at base)) (λ _. refs.address (names_under key) w p.value))) (sym h.0)
        (subst (λ (z : machine.Passed Local). Stands (passed_by ts) (pass_weighed w x base) (machine.and_then (machine.spend x.weight (at base)) (λ _. refs.address (names_under key) w z))) (sym h.1)
        (both_then ts key line s (λ u. u) (passed_by ts) (code.spend x.weight base) _ _ _ (spend_is ts key line s x.weight base ready)
        (λ u j e good. end_is 100 x.value j (kept_in base j u (code.spend x.weight base) e (spend_keeps x.weight base)) good)))
    by_weight (Err e) p h = subst (λ (x : Stop). Stands (passed_by ts) (pass_by w (Err x) base) (machine.and_then (machine.spend p.weight (at base)) (λ _. refs.address (names_under key) w p.value))) (sym h) tt

  pub passes : (w : ℕ) (v : Held) (i : Interior) → Reads ts key i → Stands (passed_by ts) (pass w v i) (refs.pass (names_under key) w (value_by ts v) (at i))
  unfolding pass weighed refs.pass refs.parcel machine.◌>>=◌ machine.◌>>◌ machine.look machine.and_then
  passes w v i good =
      subst (λ (x : Value Local). Stands (passed_by ts) (pass w v i) (machine.and_then (machine.spend (refs.parcel_at (names_under key) (at i) x).weight (at i)) (λ _. refs.address (names_under key) w (refs.parcel_at (names_under key) (at i) x).value)))
      (sym (followed_at i v good)) (by_weight w i good (weighed_end i (followed i.refs v)) _ (ended_is w i good (followed i.refs v)))

  pub passes_all : (w : ℕ) (vs : List Held) (i : Interior) → Reads ts key i → Stands (passeds_by ts) (packs (pass w) vs i) (refs.pass_all (names_under key) w (map (value_by ts) vs) (at i))
  unfolding packs refs.pass_all passeds_by code.◌>>=◌ machine.◌>>=◌
  passes_all w [] i good = gives ts key line s (passeds_by ts) NoMore i good
  passes_all w (v ∷ vs) i good =
      both_then ts key line s (passed_by ts) (passeds_by ts) (pass w v i) _ _ _ (passes w v i good)
      (λ p j e next. both_then ts key line s (passeds_by ts) (passeds_by ts) (packs (pass w) vs j) _ _ _ (passes_all w vs j next)
      (λ ps k h done. gives ts key line s (passeds_by ts) (More p ps) k done))
