-- A heap that grows keeps what stood in it, and each change of evaluation leaves a vat sound.
use Rattle.std.proofs.Common.{◌≡◌, ℕ, zero, suc, ◌+◌, ◌<◌, nat_lt, Bool, true, false, List, [], ◌∷◌, ◌++◌, Option, Some, length, fold, refl, sym, ap, subst, ◌∙◌, arith, append_assoc, append-nil}
use Rattle.std.specs.Prelude.{◌&&◌, if◌then◌else◌, slice_get, slice_set, max}
use Rattle.std.proofs.lemmas.List.{length-append}
use Rattle.ev_base.specs.declared.values.Value.{Value}
use Rattle.ev_base.specs.declared.values.Value.TheVariants as held
use Rattle.ev_heap.specs.Contents.{Contents, size_of, weight_in, height_in, weight_of, height_of, weight_of_all, height_of_all, is_plain, are_plain, plain_in, listed}
use Rattle.ev_heap.specs.declared.kept.AuditView.{AuditView}
use Rattle.ev_heap.specs.declared.kept.Cell.{Cell}
use Rattle.ev_heap.specs.declared.kept.Listed.{Listed}
use Rattle.ev_heap.specs.declared.kept.Shape.{Shape}
use Rattle.ev_heap.specs.declared.kept.Shape.TheVariants.{Made, Ejector, Resolver, Audition}
use Rattle.ev_heap.specs.declared.kept.Thing.{Thing}
use Rattle.ev_refs.specs.References.{References}
use Rattle.ev_refs.specs.declared.known.Known.{Known}
use Rattle.ev_refs.specs.declared.known.Message.{Message}
use Rattle.ev_refs.specs.declared.known.Standing.{Standing}
use Rattle.ev_refs.specs.declared.known.Standing.TheVariants.{Unsettled, WaitsOn, Viewed, Settled}
use Rattle.ev_heap.specs.declared.micro.Micro.{Micro}
use Rattle.ev_pass.specs.declared.interior.Interior.{Interior}
use Rattle.def_machine.specs.Values.{Words}
use Rattle.ev_room.specs.Holding.{Every, IsOf, MessageOf, StandingOf, KnownOf, ReferencesOf}
use Rattle.ev_room.specs.Sound.{Each, Grown, IsSound, KnowsProblems, IsPlainCell, IsPlainShape, IsPlainThing, IsListed, is_there, are_there, is_bound, are_bound, object_thing, problems}
use Rattle.ev_room.specs.declared.object.Object.{Object}
use Rattle.ev_room.specs.declared.scope.Binding.{Binding}
use Rattle.ev_room.specs.declared.scope.Bound.{Bound}
use Rattle.ev_room.specs.declared.scope.Bound.TheVariants.{Fixed, Slot}
use Rattle.ev_room.proofs.There.{both, below, is_below}

-- ---- lists that grow

-- what stands in front stays at its place
pub got_front : {A : Type 0} (xs more : List A) (k : ℕ) → k < length xs → slice_get (xs ++ more) k ≡ slice_get xs k
got_front [] more k h = absurd (omega arith)
got_front (x ∷ xs) more zero h = refl
got_front (x ∷ xs) more (suc k) h = got_front xs more k (omega arith)

pub got_last : {A : Type 0} (xs : List A) (x : A) (more : List A) → slice_get ((xs ++ x ∷ []) ++ more) (length xs) ≡ Some x
got_last [] x more = refl
got_last (y ∷ xs) x more = got_last xs x more

pub each_none : {A : Type 0} (P : A → Type 0) → Each P []
each_none P k x e = absurd (cc)

pub each_more : {A : Type 0} (P : A → Type 0) (xs : List A) (x : A) → Each P xs → P x → Each P (xs ++ x ∷ [])
each_more P [] x h p zero y e = subst P (let f : x ≡ y = cc in f) p
each_more P [] x h p (suc k) y e = absurd (cc)
each_more P (z ∷ xs) x h p zero y e = h zero y e
each_more P (z ∷ xs) x h p (suc k) y e = each_more P xs x (λ j. h (suc j)) p k y e

pub each_set : {A : Type 0} (P : A → Type 0) (xs : List A) (n : ℕ) (x : A) → Each P xs → P x → Each P (slice_set xs n x)
each_set P [] n x h p k y e = absurd (cc)
each_set P (z ∷ xs) zero x h p zero y e = subst P (let f : x ≡ y = cc in f) p
each_set P (z ∷ xs) zero x h p (suc k) y e = h (suc k) y e
each_set P (z ∷ xs) (suc n) x h p zero y e = h zero y e
each_set P (z ∷ xs) (suc n) x h p (suc k) y e = each_set P xs n x (λ j. h (suc j)) p k y e

-- of a list by its members
every_on : {A : Type 0} (P Q : A → Type 0) → ((x : A) → P x → Q x) → (xs : List A) → Every P xs → Every Q xs
every_on P Q f [] h = tt
every_on P Q f (x ∷ xs) h = (f x h.0, every_on P Q f xs h.1)

each_on : {A : Type 0} (P Q : A → Type 0) (xs : List A) → ((x : A) → P x → Q x) → Each P xs → Each Q xs
each_on P Q xs f h k x e = f x (h k x e)

abbrev measured : List Value → ℕ → ℕ → Bool → Listed
measured vs x y p = record { members = vs; weight = x; height = y; plain = p }

-- ---- growing

pub grown_same : (h : Contents) → Grown h h
grown_same h = record { texts = ([], sym (append-nil h.texts)); lists = ([], sym (append-nil h.lists)) }

pub grown_on : {a b c : Contents} → Grown a b → Grown b c → Grown a c
grown_on {a = a} g k = record {
  texts = (g.texts.0 ++ k.texts.0, k.texts.1 ∙ ap (λ (ts : List Words). ts ++ k.texts.0) g.texts.1 ∙ append_assoc a.texts g.texts.0 k.texts.0);
  lists = (g.lists.0 ++ k.lists.0, k.lists.1 ∙ ap (λ (ls : List Listed). ls ++ k.lists.0) g.lists.1 ∙ append_assoc a.lists g.lists.0 k.lists.0);
}

-- texts and lists as they were
pub grown_by : (a b : Contents) → b.texts ≡ a.texts → b.lists ≡ a.lists → Grown a b
grown_by a b t l = record { texts = ([], t ∙ sym (append-nil a.texts)); lists = ([], l ∙ sym (append-nil a.lists)) }

-- a test of two, of one that holds each
pub all_and : (p q : Bool) → p ≡ true → q ≡ true → (if p then q else false) ≡ true
all_and true q h k = k
all_and false q h k = absurd (cc)

longer : {A : Type 0} (xs ys more : List A) (id : ℕ) → ys ≡ xs ++ more → nat_lt id (length xs) ≡ true → nat_lt id (length ys) ≡ true
longer {A = A} xs ys more id e h =
    let l : length ys ≡ length xs + length more = ap (length {A = A}) e ∙ length-append xs more in
    let b : id < length xs = below id (length xs) h in
    is_below id (length ys) (omega arith)

module _ {a b : Contents} (g : Grown a b) where
  pub text_on : (id : ℕ) → nat_lt id (length a.texts) ≡ true → nat_lt id (length b.texts) ≡ true
  text_on id h = longer a.texts b.texts g.texts.0 id g.texts.1 h

  pub list_on : (id : ℕ) → nat_lt id (length a.lists) ≡ true → nat_lt id (length b.lists) ≡ true
  list_on id h = longer a.lists b.lists g.lists.0 id g.lists.1 h

  pub there_on : (v : Value) → is_there a v ≡ true → is_there b v ≡ true
  there_on (held.Text id) h = text_on id h
  there_on (held.Broken id) h = text_on id h
  there_on (held.List id) h = list_on id h
  there_on (held.Prim n) h = h
  there_on _ h = refl

  pub all_on : (vs : List Value) → are_there a vs ≡ true → are_there b vs ≡ true
  all_on [] h = refl
  all_on (v ∷ vs) h =
      let s = both (is_there a v) (are_there a vs) h in
      all_and (is_there b v) (are_there b vs) (there_on v s.0) (all_on vs s.1)

  pub bound_on : (x : Bound) → is_bound a x ≡ true → is_bound b x ≡ true
  bound_on (Fixed v g) h = there_on v h
  bound_on (Slot k) h = refl

  pub scope_on : (bs : List Binding) → are_bound a bs ≡ true → are_bound b bs ≡ true
  scope_on [] h = refl
  scope_on (x ∷ bs) h =
      let s = both (is_bound a x.bound) (are_bound a bs) h in
      all_and (is_bound b x.bound) (are_bound b bs) (bound_on x.bound s.0) (scope_on bs s.1)

  -- ---- weights

  got_text : (id : ℕ) → nat_lt id (length a.texts) ≡ true → slice_get b.texts id ≡ slice_get a.texts id
  got_text id h = ap (λ (ts : List Words). slice_get ts id) g.texts.1 ∙ got_front a.texts g.texts.0 id (below id (length a.texts) h)

  got_list : (id : ℕ) → nat_lt id (length a.lists) ≡ true → slice_get b.lists id ≡ slice_get a.lists id
  got_list id h = ap (λ (ls : List Listed). slice_get ls id) g.lists.1 ∙ got_front a.lists g.lists.0 id (below id (length a.lists) h)

  weight_on : (v : Value) → is_there a v ≡ true → weight_of b v ≡ weight_of a v
  weight_on (held.Text id) h = ap (λ (o : Option Words). size_of o + 1) (got_text id h)
  weight_on (held.Broken id) h = ap (λ (o : Option Words). size_of o + 1) (got_text id h)
  weight_on (held.List id) h = ap weight_in (got_list id h)
  weight_on (held.Prim n) h = refl
  weight_on _ h = refl

  height_on : (v : Value) → is_there a v ≡ true → height_of b v ≡ height_of a v
  height_on (held.List id) h = ap height_in (got_list id h)
  height_on _ h = refl

  sum_on : (n : ℕ) (vs : List Value) → are_there a vs ≡ true → fold (λ x v. x + weight_of b v) n vs ≡ fold (λ x v. x + weight_of a v) n vs
  sum_on n [] h = refl
  sum_on n (v ∷ vs) h =
      let s = both (is_there a v) (are_there a vs) h in
      ap (λ (m : ℕ). fold (λ x v. x + weight_of b v) (n + m) vs) (weight_on v s.0) ∙ sum_on (n + weight_of a v) vs s.1

  most_on : (n : ℕ) (vs : List Value) → are_there a vs ≡ true → fold (λ x v. max x (height_of b v)) n vs ≡ fold (λ x v. max x (height_of a v)) n vs
  most_on n [] h = refl
  most_on n (v ∷ vs) h =
      let s = both (is_there a v) (are_there a vs) h in
      ap (λ (m : ℕ). fold (λ x v. max x (height_of b v)) (max n m) vs) (height_on v s.0) ∙ most_on (max n (height_of a v)) vs s.1

  plain_on : (v : Value) → is_there a v ≡ true → is_plain b v ≡ is_plain a v
  plain_on (held.List id) h = ap plain_in (got_list id h)
  plain_on _ h = refl

  plain_all_on : (vs : List Value) → are_there a vs ≡ true → are_plain b vs ≡ are_plain a vs
  plain_all_on [] h = refl
  plain_all_on (v ∷ vs) h =
      let s = both (is_there a v) (are_there a vs) h in
      ap (λ (p : Bool). p && are_plain b vs) (plain_on v s.0) ∙ ap (λ (p : Bool). is_plain a v && p) (plain_all_on vs s.1)

  listed_on : (vs : List Value) → are_there a vs ≡ true → listed a vs ≡ listed b vs
  listed_on vs h =
      ap (λ (n : ℕ). measured vs (n + 1) (height_of_all a vs) (are_plain a vs)) (sym (sum_on 0 vs h))
      ∙ ap (λ (n : ℕ). measured vs (weight_of_all b vs) (n + 1) (are_plain a vs)) (sym (most_on 0 vs h))
      ∙ ap (λ (p : Bool). measured vs (weight_of_all b vs) (height_of_all b vs) p) (sym (plain_all_on vs h))

  -- ---- what is kept

  pub cells_on : (cs : List Cell) → Each (IsPlainCell a) cs → Each (IsPlainCell b) cs
  cells_on cs h = each_on (IsPlainCell a) (IsPlainCell b) cs (λ c p. there_on c.value p) h

  shape_on : (sh : Shape) → IsPlainShape a sh → IsPlainShape b sh
  shape_on (Made node caught stamps) p = (p.0, (p.1.0, (all_on stamps p.1.1.0, scope_on p.0 p.1.1.1)))
  shape_on other p = tt

  pub things_on : (ts : List Thing) → Each (IsPlainThing a) ts → Each (IsPlainThing b) ts
  things_on ts h = each_on (IsPlainThing a) (IsPlainThing b) ts (λ t p. shape_on t.shape p) h

  pub lists_on : (ls : List Listed) → Each (IsListed a) ls → Each (IsListed b) ls
  lists_on ls h = each_on (IsListed a) (IsListed b) ls (λ l p. (p.0 ∙ listed_on l.members p.1, all_on l.members p.1)) h

  pub problems_on : ((more : List Words) × (a.texts ≡ problems ++ more)) → (more : List Words) × (b.texts ≡ problems ++ more)
  problems_on p = (p.0 ++ g.texts.0, g.texts.1 ∙ ap (λ (ts : List Words). ts ++ g.texts.0) p.1 ∙ append_assoc problems p.0 g.texts.0)

  -- ---- what references hold

  every_there : (vs : List Value) → Every (IsOf (is_there a)) vs → Every (IsOf (is_there b)) vs
  every_there vs h = every_on (IsOf (is_there a)) (IsOf (is_there b)) there_on vs h

  messages_on : (ms : List Message) → Every (MessageOf (is_there a)) ms → Every (MessageOf (is_there b)) ms
  messages_on ms h = every_on (MessageOf (is_there a)) (MessageOf (is_there b)) (λ m p. (there_on m.target p.0, every_there m.args p.1)) ms h

  standing_on : (st : Standing) → StandingOf (is_there a) st → StandingOf (is_there b) st
  standing_on (Settled v) p = there_on v p
  standing_on other p = tt

  known_on : (k : Known) → KnownOf (is_there a) k → KnownOf (is_there b) k
  known_on k p = (standing_on k.standing p.0, (messages_on k.held p.1.0, messages_on k.reactions p.1.1))

  pub refs_on : (r : References) → ReferencesOf (is_there a) r → ReferencesOf (is_there b) r
  refs_on r p = record {
    known = every_on (KnownOf (is_there a)) (KnownOf (is_there b)) known_on r.known p.known;
    queue = messages_on r.queue p.queue;
    partition = there_on (held.Broken r.partition) p.partition;
    cycle = there_on (held.Broken r.cycle) p.cycle;
  }

-- where var slots, objects and lists stay, and the references stand in the heap
pub sound_by : {i j : Interior} → Grown i.heap j.heap → IsSound i → j.heap.slots ≡ i.heap.slots → j.heap.things ≡ i.heap.things → j.heap.lists ≡ i.heap.lists
    → ReferencesOf (is_there j.heap) j.refs → KnowsProblems j → IsSound j
sound_by {i = i} {j = j} g s e f l r k = record {
  slots = subst (Each (IsPlainCell j.heap)) (sym e) (cells_on g i.heap.slots s.slots);
  things = subst (Each (IsPlainThing j.heap)) (sym f) (things_on g i.heap.things s.things);
  lists = subst (Each (IsListed j.heap)) (sym l) (lists_on g i.heap.lists s.lists);
  problems_first = problems_on g s.problems_first;
  refs = r;
  knows = k;
}

-- ---- the changes of evaluation

module _ (i : Interior) (s : IsSound i) where
  abbrev with_heap : Contents → Interior
  with_heap h = record i { heap = h }

  knows_on : (h : Contents) → KnowsProblems (with_heap h)
  knows_on h = record { partition = s.knows.partition; cycle = s.knows.cycle; heavy = s.knows.heavy }

  -- another heap, with its parts
  heap_sound : (h : Contents) → Grown i.heap h → Each (IsPlainCell h) h.slots → Each (IsPlainThing h) h.things → Each (IsListed h) h.lists → IsSound (with_heap h)
  heap_sound h g cs ts ls = record { slots = cs; things = ts; lists = ls; problems_first = problems_on g s.problems_first; refs = refs_on g i.refs s.refs; knows = knows_on h }

  -- fuel, what happened, words and notes may change
  pub beside_sound : (j : Interior) → j.heap ≡ i.heap → j.refs ≡ i.refs → j.too_heavy ≡ i.too_heavy → IsSound j
  beside_sound j h r t =
      let k : KnowsProblems j = record {
        partition = ap (λ (x : References). x.partition) r ∙ s.knows.partition;
        cycle = ap (λ (x : References). x.cycle) r ∙ s.knows.cycle;
        heavy = t ∙ s.knows.heavy;
      } in
      sound_by (grown_by i.heap j.heap (ap (λ (x : Contents). x.texts) h) (ap (λ (x : Contents). x.lists) h)) s
      (ap (λ (x : Contents). x.slots) h) (ap (λ (x : Contents). x.things) h) (ap (λ (x : Contents). x.lists) h)
      (subst (λ (x : Contents). ReferencesOf (is_there x) j.refs) (sym h) (subst (ReferencesOf (is_there i.heap)) (sym r) s.refs)) k

  pub micro_sound : (m : Micro) → IsSound (record i { micro = m })
  micro_sound m = beside_sound (record i { micro = m }) refl refl refl

  abbrev with_text : Words → Contents
  with_text u = record i.heap { texts = i.heap.texts ++ u ∷ [] }

  pub text_grown : (u : Words) → Grown i.heap (with_text u)
  text_grown u = record { texts = (u ∷ [], refl); lists = ([], sym (append-nil i.heap.lists)) }

  pub text_sound : (u : Words) → IsSound (with_heap (with_text u))
  text_sound u =
      let g = text_grown u in
      heap_sound (with_text u) g (cells_on g i.heap.slots s.slots) (things_on g i.heap.things s.things) (lists_on g i.heap.lists s.lists)

  pub last_text : (u : Words) → nat_lt (length i.heap.texts) (length (with_text u).texts) ≡ true
  last_text u =
      let l : length (i.heap.texts ++ u ∷ []) ≡ length i.heap.texts + 1 = length-append i.heap.texts (u ∷ []) in
      is_below (length i.heap.texts) (length (i.heap.texts ++ u ∷ [])) (omega arith)

  abbrev with_list : List Value → Contents
  with_list vs = record i.heap { lists = i.heap.lists ++ listed i.heap vs ∷ [] }

  pub list_grown : (vs : List Value) → Grown i.heap (with_list vs)
  list_grown vs = record { texts = ([], sym (append-nil i.heap.texts)); lists = (listed i.heap vs ∷ [], refl) }

  pub list_sound : (vs : List Value) → are_there i.heap vs ≡ true → IsSound (with_heap (with_list vs))
  list_sound vs t =
      let g = list_grown vs in
      heap_sound (with_list vs) g (cells_on g i.heap.slots s.slots) (things_on g i.heap.things s.things)
      (each_more (IsListed (with_list vs)) i.heap.lists (listed i.heap vs) (lists_on g i.heap.lists s.lists) (listed_on g vs t, all_on g vs t))

  pub last_list : (vs : List Value) → nat_lt (length i.heap.lists) (length (with_list vs).lists) ≡ true
  last_list vs =
      let l : length (i.heap.lists ++ listed i.heap vs ∷ []) ≡ length i.heap.lists + 1 = length-append i.heap.lists (listed i.heap vs ∷ []) in
      is_below (length i.heap.lists) (length (i.heap.lists ++ listed i.heap vs ∷ [])) (omega arith)

  abbrev with_slots : List Cell → Contents
  with_slots cs = record i.heap { slots = cs }

  pub slots_grown : (cs : List Cell) → Grown i.heap (with_slots cs)
  slots_grown cs = grown_by i.heap (with_slots cs) refl refl

  slots_sound : (cs : List Cell) → Each (IsPlainCell (with_slots cs)) cs → IsSound (with_heap (with_slots cs))
  slots_sound cs c =
      let g = slots_grown cs in
      heap_sound (with_slots cs) g c (things_on g i.heap.things s.things) (lists_on g i.heap.lists s.lists)

  pub slot_sound : (c : Cell) → is_there i.heap c.value ≡ true → IsSound (with_heap (with_slots (i.heap.slots ++ c ∷ [])))
  slot_sound c t =
      let cs = i.heap.slots ++ c ∷ [] in
      let g = slots_grown cs in
      slots_sound cs (each_more (IsPlainCell (with_slots cs)) i.heap.slots c (cells_on g i.heap.slots s.slots) (there_on g c.value t))

  pub written_sound : (k : ℕ) (c : Cell) → is_there i.heap c.value ≡ true → IsSound (with_heap (with_slots (slice_set i.heap.slots k c)))
  written_sound k c t =
      let cs = slice_set i.heap.slots k c in
      let g = slots_grown cs in
      slots_sound cs (each_set (IsPlainCell (with_slots cs)) i.heap.slots k c (cells_on g i.heap.slots s.slots) (there_on g c.value t))

  abbrev with_thing : Object → List Value → Contents
  with_thing o stamps = record i.heap { things = i.heap.things ++ object_thing o stamps ∷ [] }

  pub thing_grown : (o : Object) (stamps : List Value) → Grown i.heap (with_thing o stamps)
  thing_grown o stamps = grown_by i.heap (with_thing o stamps) refl refl

  pub thing_sound : (o : Object) (stamps : List Value) → are_bound i.heap o.nouns ≡ true → are_there i.heap stamps ≡ true → IsSound (with_heap (with_thing o stamps))
  thing_sound o stamps t l =
      let g = thing_grown o stamps in
      heap_sound (with_thing o stamps) g (cells_on g i.heap.slots s.slots)
      (each_more (IsPlainThing (with_thing o stamps)) i.heap.things (object_thing o stamps) (things_on g i.heap.things s.things) (o.nouns, (refl, (all_on g stamps l, scope_on g o.nouns t))))
      (lists_on g i.heap.lists s.lists)

  abbrev with_things : List Thing → Contents
  with_things ts = record i.heap { things = ts }

  pub things_grown : (ts : List Thing) → Grown i.heap (with_things ts)
  things_grown ts = grown_by i.heap (with_things ts) refl refl

  things_sound : (ts : List Thing) → Each (IsPlainThing (with_things ts)) ts → IsSound (with_heap (with_things ts))
  things_sound ts c =
      let g = things_grown ts in
      heap_sound (with_things ts) g (cells_on g i.heap.slots s.slots) c (lists_on g i.heap.lists s.lists)

  one_more_sound : (t : Thing) → IsPlainThing (with_things (i.heap.things ++ t ∷ [])) t → IsSound (with_heap (with_things (i.heap.things ++ t ∷ [])))
  one_more_sound t p =
      let ts = i.heap.things ++ t ∷ [] in
      things_sound ts (each_more (IsPlainThing (with_things ts)) i.heap.things t (things_on (things_grown ts) i.heap.things s.things) p)

  -- one more ejector
  pub ejector_sound : IsSound (with_heap (with_things (i.heap.things ++ record { shape = Ejector; alive = true } ∷ [])))
  ejector_sound = one_more_sound (record { shape = Ejector; alive = true }) tt

  -- one more resolver
  pub resolver_sound : (p : ℕ) → IsSound (with_heap (with_things (i.heap.things ++ record { shape = Resolver p; alive = true } ∷ [])))
  resolver_sound p = one_more_sound (record { shape = Resolver p; alive = true }) tt

  -- one more audition
  pub audition_sound : (view : AuditView) → IsSound (with_heap (with_things (i.heap.things ++ record { shape = Audition view; alive = true } ∷ [])))
  audition_sound view = one_more_sound (record { shape = Audition view; alive = true }) tt

  -- one that is dead from here on
  pub killed_sound : (k : ℕ) (t : Thing) → slice_get i.heap.things k ≡ Some t → IsSound (with_heap (with_things (slice_set i.heap.things k (record t { alive = false }))))
  killed_sound k t e =
      let d : Thing = record t { alive = false } in
      let ts = slice_set i.heap.things k d in
      let g = things_grown ts in
      things_sound ts (each_set (IsPlainThing (with_things ts)) i.heap.things k d (things_on g i.heap.things s.things) (shape_on g t.shape (s.things k t e)))

  pub code_grown : (v : Value) → Grown i.heap (record i.heap { codes = i.heap.codes ++ v ∷ [] })
  code_grown v = grown_by i.heap (record i.heap { codes = i.heap.codes ++ v ∷ [] }) refl refl

  pub code_sound : (v : Value) → IsSound (with_heap (record i.heap { codes = i.heap.codes ++ v ∷ [] }))
  code_sound v =
      let g = code_grown v in
      heap_sound (record i.heap { codes = i.heap.codes ++ v ∷ [] }) g (cells_on g i.heap.slots s.slots) (things_on g i.heap.things s.things) (lists_on g i.heap.lists s.lists)
