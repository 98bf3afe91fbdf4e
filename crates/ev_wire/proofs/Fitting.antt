-- What is heard fits the heap that keeps the texts of its frame, and is new.
use Rattle.std.proofs.Common.{◌≡◌, ℕ, zero, suc, ◌+◌, ◌≤◌, nat_lt, Bool, true, false, cond, List, [], ◌∷◌, ◌++◌, length, Option, Some, None, slice_get, refl, sym, ap, subst, ◌∙◌, ◌==◌, append_assoc, append-nil, arith}
use Rattle.std.specs.Prelude.{IfSome}
use Rattle.std.proofs.lemmas.Option.{slice_get_within}
use Rattle.ev_base.specs.declared.values.Value.{Value}
use Rattle.ev_base.specs.declared.values.Value.TheVariants as held
use Rattle.def_machine.specs.Values.{Words}
use Rattle.def_op.specs.declared.op.Plain.{Plain as Fact}
use Rattle.def_op.specs.declared.op.Plain.TheVariants as plain
use Rattle.def_op.specs.Frames as op
use Rattle.def_op.specs.Frames.{AreDescs, Described, IsOp, Members, Operation, Outcome, OutcomeFits, WithinLimits, height, heights, weight, weights}
use Rattle.ev_heap.specs.Contents.{Contents, size_of}
use Rattle.ev_pass.specs.declared.interior.Interior.{Interior}
use Rattle.ev_pass.specs.declared.note.Reference.TheVariants as reference
use Rattle.ev_arrive.specs.declared.host.Carried.TheVariants as carried
use Rattle.ev_arrive.specs.declared.host.Incoming.{Incoming as Came}
use Rattle.ev_arrive.specs.declared.host.Incoming.TheVariants as came
use Rattle.ev_arrive.specs.declared.host.Subject.{Subject}
use Rattle.ev_arrive.specs.Bringing as part
use Rattle.ev_arrive.specs.Bringing.{Part, Parts}
use Rattle.ev_arrive.specs.Fitting.{AllFit, Fits, part_weight, parts_weight}
use Rattle.ev_op.specs.Decoded.{decoded}
use Rattle.ev_tables.specs.Table.{Table, entry}
use Rattle.ev_tables.specs.Standing.{AreReferences, is_reference}
use Rattle.ev_tables.proofs.Kept.{references_push}
use Rattle.ev_wire.specs.Bringing as told
use Rattle.ev_wire.specs.Bringing.{Told}
use Rattle.ev_wire.specs.Fitting.{ToldFits, WhatIsHeardFits, keeping}
use Rattle.ev_wire.specs.Hearing as code
use Rattle.ev_wire.specs.Hearing.{Act, Out, and_then, ◌>>=◌, give, refuse}
use Rattle.ev_wire.specs.Learnt.{LearntGift, LearntGifts, find, put, put_all}
use Rattle.ev_wire.specs.declared.news.News.{News}
use Rattle.ev_wire.proofs.HearingMachine.{among_front, among_more, at_end, find_append, none_of, put_last}
use Rattle.ev_wire.proofs.Positions.{lt_true}

-- ---- what holds of what is read, and of what the frame has brought by then

abbrev Holds : {A : Type 0} → (A → News → Type 0) → Out A → Type 0
Holds P (Some x) = P x.0 x.1
Holds P None = Unit {0}

holds_then : {A B : Type 0} (P : A → News → Type 0) (Q : B → News → Type 0) (o : Out A) (f : A → Act B) → Holds P o → ((x : A) (u : News) → P x u → Holds Q (f x u)) → Holds Q (and_then o f)
unfolding and_then
holds_then P Q (Some x) f h k = k x.0 x.1 h
holds_then P Q None f h k = tt

holds_if : {A : Type 0} (P : A → News → Type 0) (b : Bool) (o : Out A) → Holds P o → Holds P (cond b o None)
holds_if P true o h = h
holds_if P false o h = tt

-- ---- limits

-- a list weighs at most 65,536 and is at most so high
abbrev InLimits : ℕ → Described → Type 0
InLimits n (op.ListOf ds) = (weight (op.ListOf ds) ≤ 65536) × (height (op.ListOf ds) ≤ n)
InLimits n (op.Datum x) = Unit {0}
InLimits n (op.Broken p) = Unit {0}
InLimits n (op.Third h w) = Unit {0}
InLimits n (op.MyExport p) = Unit {0}
InLimits n (op.MyPromise p) = Unit {0}
InLimits n (op.YourExport p) = Unit {0}
InLimits n (op.MyAnswer q) = Unit {0}
InLimits n (op.YourAnswer q) = Unit {0}

abbrev AllInLimits : ℕ → Members → Type 0
AllInLimits n op.none = Unit {0}
AllInLimits n (op.more d ds) = InLimits n d × AllInLimits n ds

in_limits : (n : ℕ) (d : Described) → weight d ≤ 65536 → height d ≤ n → InLimits n d
in_limits n (op.ListOf ds) light low = (light, low)
in_limits n (op.Datum x) light low = tt
in_limits n (op.Broken p) light low = tt
in_limits n (op.Third h w) light low = tt
in_limits n (op.MyExport p) light low = tt
in_limits n (op.MyPromise p) light low = tt
in_limits n (op.YourExport p) light low = tt
in_limits n (op.MyAnswer q) light low = tt
in_limits n (op.YourAnswer q) light low = tt

all_in_limits : (n : ℕ) (ds : Members) → weights ds ≤ 65536 → heights ds ≤ n → AllInLimits n ds
unfolding weights heights
all_in_limits n op.none light low = tt
all_in_limits n (op.more d ds) light low =
    let a : weight d ≤ 65536 = omega (arith, light) in
    let b : weights ds ≤ 65536 = omega (arith, light) in
    let c : height d ≤ n = omega (arith, low) in
    let e : heights ds ≤ n = omega (arith, low) in
    (in_limits n d a c, all_in_limits n ds b e)

spelled_in_limits : (d : Described) → WithinLimits d → InLimits 100 d
unfolding WithinLimits
spelled_in_limits (op.ListOf ds) h = h
spelled_in_limits (op.Datum x) h = tt
spelled_in_limits (op.Broken p) h = tt
spelled_in_limits (op.Third g w) h = tt
spelled_in_limits (op.MyExport p) h = tt
spelled_in_limits (op.MyPromise p) h = tt
spelled_in_limits (op.YourExport p) h = tt
spelled_in_limits (op.MyAnswer q) h = tt
spelled_in_limits (op.YourAnswer q) h = tt

all_spelled : (ds : Members) → AreDescs ds → AllInLimits 100 ds
unfolding AreDescs
all_spelled op.none h = tt
all_spelled (op.more d ds) h = (spelled_in_limits d h.0.1, all_spelled ds h.1)

-- ---- gifts

put_all_last : (gs : LearntGifts) (g : LearntGift) (l : LearntGifts) → put_all (gs ++ g ∷ []) l ≡ put g (put_all gs l)
put_all_last [] g l = refl
put_all_last (k ∷ gs) g l = put_all_last gs g (put k l)

none_first : (o q : Option ℕ) → code.or_else o q ≡ None → o ≡ None
none_first None q e = refl
none_first (Some x) q e = absurd cc

neither : (o q : Option ℕ) → o ≡ None → q ≡ None → code.or_else o q ≡ None
neither None q e f = f
neither (Some x) q e f = absurd cc

module _ (i : Interior) (t : Table) (l : LearntGifts) where
  -- gifts that come behind those that were learnt
  abbrev AreNew : LearntGifts → Type 0
  AreNew gs = put_all gs l ≡ l ++ gs

  one_more : (g : LearntGift) (gs : LearntGifts) → find g.host g.provider g.word l ≡ None → find g.host g.provider g.word gs ≡ None → AreNew gs → AreNew (put g gs)
  one_more g gs e f new =
      let last : put g gs ≡ gs ++ g ∷ [] = put_last g gs f in
      let absent : find g.host g.provider g.word (l ++ gs) ≡ None = find_append g.host g.provider g.word l gs ∙ neither (find g.host g.provider g.word l) (find g.host g.provider g.word gs) e f in
      ap (λ (hs : LearntGifts). put_all hs l) last ∙ put_all_last gs g l ∙ ap (put g) new ∙ put_last g (l ++ gs) absent
      ∙ append_assoc l gs (g ∷ []) ∙ ap (λ (hs : LearntGifts). l ++ hs) (sym last)

  -- ---- what a frame brings

  -- the texts that it brought stay, and what was so stays so
  record Brings (s u : News) : Type 0 where
    stay : (k : ℕ) (x : Words) → slice_get s.texts k ≡ Some x → slice_get u.texts k ≡ Some x
    new : AreNew s.gifts → AreNew u.gifts
    references : AreReferences s.imports → AreReferences u.imports

  brings_same : (s : News) → Brings s s
  brings_same s = record { stay = λ k x e. e; new = λ h. h; references = λ r. r }

  brings_on : (s u w : News) → Brings s u → Brings u w → Brings s w
  brings_on s u w g h = record { stay = λ k x e. h.stay k x (g.stay k x e); new = λ a. h.new (g.new a); references = λ r. h.references (g.references r) }

  -- a heap that has the texts that it brought, with the next numbers
  abbrev HasTexts : Contents → News → Type 0
  HasTexts g s = (k : ℕ) (x : Words) → slice_get s.texts k ≡ Some x → slice_get g.texts (length i.heap.texts + k) ≡ Some x

  earlier : (g : Contents) (s u : News) → Brings s u → HasTexts g u → HasTexts g s
  earlier g s u b h k x e = h k x (b.stay k x e)

  -- ---- names

  abbrev Named : News → Came → News → Type 0
  Named s x u = Brings s u

  value_named : (v : Value) (s : News) → Holds (Named s) (code.known_value v s)
  unfolding code.known_value give refuse
  value_named (held.Obj j) s = brings_same s
  value_named (held.Prom m) s = brings_same s
  value_named (held.Far h p) s = brings_same s
  value_named held.Null s = tt
  value_named (held.Bool b) s = tt
  value_named (held.Int z) s = tt
  value_named (held.Char x) s = tt
  value_named (held.Text x) s = tt
  value_named (held.List x) s = tt
  value_named (held.Prim x) s = tt
  value_named (held.Broken x) s = tt

  known_named : (o : Option Value) (s : News) → Holds (Named s) (code.known o s)
  unfolding code.known refuse
  known_named (Some v) s = value_named v s
  known_named None s = tt

  object_named : (v : Value) (s : News) → Holds (Named s) (code.known_object v s)
  unfolding code.known_object give refuse
  object_named (held.Obj j) s = brings_same s
  object_named (held.Far h p) s = brings_same s
  object_named (held.Prom m) s = tt
  object_named held.Null s = tt
  object_named (held.Bool b) s = tt
  object_named (held.Int z) s = tt
  object_named (held.Char x) s = tt
  object_named (held.Text x) s = tt
  object_named (held.List x) s = tt
  object_named (held.Prim x) s = tt
  object_named (held.Broken x) s = tt

  promise_named : (v : Value) (s : News) → Holds (Named s) (code.known_promise v s)
  unfolding code.known_promise give refuse
  promise_named (held.Prom m) s = brings_same s
  promise_named (held.Obj j) s = tt
  promise_named (held.Far h p) s = tt
  promise_named held.Null s = tt
  promise_named (held.Bool b) s = tt
  promise_named (held.Int z) s = tt
  promise_named (held.Char x) s = tt
  promise_named (held.Text x) s = tt
  promise_named (held.List x) s = tt
  promise_named (held.Prim x) s = tt
  promise_named (held.Broken x) s = tt

  new_object_named : (p : ℕ) (s : News) → Holds (Named s) (code.new_object t p s)
  unfolding code.new_object is_reference
  new_object_named p s = record { stay = λ k x e. e; new = λ h. h; references = λ r. references_push s.imports (held.Far t.peer p) r refl }

  new_promise_named : (s : News) → Holds (Named s) (code.new_promise t s)
  unfolding code.new_promise is_reference
  new_promise_named s = record { stay = λ k x e. e; new = λ h. h; references = λ r. references_push s.imports (held.Prom s.known) r refl }

  object_at_named : (p : ℕ) (o : Option Value) (s : News) → Holds (Named s) (code.object_at t p o s)
  unfolding code.object_at
  object_at_named p (Some v) s = object_named v s
  object_at_named p None s = holds_if (Named s) (code.is_next t p s) (code.new_object t p s) (new_object_named p s)

  promise_at_named : (p : ℕ) (o : Option Value) (s : News) → Holds (Named s) (code.promise_at t p o s)
  unfolding code.promise_at
  promise_at_named p (Some v) s = promise_named v s
  promise_at_named p None s = holds_if (Named s) (code.is_next t p s) (code.new_promise t s) (new_promise_named s)

  named : (d : Described) (s : News) → Holds (Named s) (code.name_heard t d s)
  unfolding code.name_heard refuse
  named (op.MyExport p) s = object_at_named p (code.import_at t p s) s
  named (op.MyPromise p) s = promise_at_named p (code.import_at t p s) s
  named (op.YourExport p) s = known_named (entry (op.YourExport p) t) s
  named (op.MyAnswer q) s = known_named (entry (op.MyAnswer q) t) s
  named (op.YourAnswer q) s = known_named (entry (op.YourAnswer q) t) s
  named (op.Datum x) s = tt
  named (op.ListOf ds) s = tt
  named (op.Broken p) s = tt
  named (op.Third h w) s = tt

  subject_named : (x : Came) (s : News) → Holds (λ y u. Brings s u) (code.subject_of x s)
  unfolding code.subject_of code.subject_at give refuse
  subject_named (came.Known (reference.Promise m)) s = brings_same s
  subject_named (came.Known (reference.Object m)) s = tt
  subject_named (came.Known (reference.Far h p)) s = tt
  subject_named (came.New v) s = brings_same s

  -- ---- values

  -- it weighs what its description does, and fits where that is within the limits
  abbrev PartFits : Described → Part → News → Type 0
  PartFits d p u = (g : Contents) → HasTexts g u → (part_weight g p ≡ weight d) × ((n : ℕ) → InLimits n d → Fits g n p)

  abbrev PartHeard : Described → News → Part → News → Type 0
  PartHeard d s p u = Brings s u × PartFits d p u

  abbrev PartsFit : Members → Parts → News → Type 0
  PartsFit ds ps u = (g : Contents) → HasTexts g u → (parts_weight g ps ≡ weights ds) × ((n : ℕ) → AllInLimits n ds → AllFit g n ps)

  abbrev PartsHeard : Members → News → Parts → News → Type 0
  PartsHeard ds s ps u = Brings s u × PartsFit ds ps u

  came_fits : (d : Described) (x : Came) (u : News) → weight d ≡ 1 → PartFits d (code.part_of x) u
  came_fits d (came.Known (reference.Object j)) u w = λ g has. (sym w, λ n lim. (refl, omega arith))
  came_fits d (came.Known (reference.Promise m)) u w = λ g has. (sym w, λ n lim. (refl, omega arith))
  came_fits d (came.Known (reference.Far h p)) u w = λ g has. (sym w, λ n lim. (refl, omega arith))
  came_fits d (came.New v) u w = λ g has. (sym w, λ n lim. tt)

  reference_fits : (d : Described) (s : News) → weight d ≡ 1 → Holds (PartHeard d s) (code.reference_heard t d s)
  unfolding code.reference_heard ◌>>=◌ give
  reference_fits d s w = holds_then (Named s) (PartHeard d s) (code.name_heard t d s) (λ x. give (code.part_of x)) (named d s) (λ x u b. (b, came_fits d x u w))

  -- a text stands in the heap
  text_there : (g : Contents) (id : ℕ) (x : Words) → slice_get g.texts id ≡ Some x → nat_lt id (length g.texts) ≡ true
  text_there g id x e = lt_true id (length g.texts) (slice_get_within g.texts id x e)

  text_weighs : (g : Contents) (id : ℕ) (x : Words) → slice_get g.texts id ≡ Some x → size_of (slice_get g.texts id) + 1 ≡ 1 + length x
  text_weighs g id x e = let f : size_of (slice_get g.texts id) ≡ length x = ap size_of e in omega (arith, f)

  abbrev with_text : News → Words → News
  with_text s x = record s { texts = s.texts ++ x ∷ [] }

  text_brought : (s : News) (x : Words) → Brings s (with_text s x)
  text_brought s x = record { stay = λ k y e. among_front s.texts (x ∷ []) k y e; new = λ h. h; references = λ r. r }

  last_text : (g : Contents) (s : News) (x : Words) → HasTexts g (with_text s x) → slice_get g.texts (length i.heap.texts + length s.texts) ≡ Some x
  last_text g s x has = has (length s.texts) x (at_end s.texts x)

  words_fit : (x : Words) (s : News) → Holds (PartHeard (op.Datum (plain.Text x)) s) (code.text_heard i held.Text x s)
  unfolding code.text_heard code.text_brought and_then ◌>>=◌ give weight
  words_fit x s =
      let id = length i.heap.texts + length s.texts in
      (text_brought s x, λ g has. let e = last_text g s x has in (text_weighs g id x e, λ n lim. (text_there g id x e, omega arith)))

  broken_fits : (x : Words) (s : News) → Holds (PartHeard (op.Broken x) s) (code.text_heard i held.Broken x s)
  unfolding code.text_heard code.text_brought and_then ◌>>=◌ give weight
  broken_fits x s =
      let id = length i.heap.texts + length s.texts in
      (text_brought s x, λ g has. let e = last_text g s x has in (text_weighs g id x e, λ n lim. (text_there g id x e, omega arith)))

  fact_fits : (x : Fact) (s : News) → Holds (PartHeard (op.Datum x) s) (code.fact_heard i x s)
  unfolding code.fact_heard give weight
  fact_fits plain.Null s = (brings_same s, λ g has. (refl, λ n lim. (refl, omega arith)))
  fact_fits (plain.Bool b) s = (brings_same s, λ g has. (refl, λ n lim. (refl, omega arith)))
  fact_fits (plain.Int z) s = (brings_same s, λ g has. (refl, λ n lim. (refl, omega arith)))
  fact_fits (plain.Char x) s = (brings_same s, λ g has. (refl, λ n lim. (refl, omega arith)))
  fact_fits (plain.Text x) s = words_fit x s
  fact_fits (plain.Prim p) s = (brings_same s, λ g has. (refl, λ n lim. (refl, omega arith)))

  gift_at_fits : (h w : ℕ) (o : Option ℕ) (s : News) → (o ≡ None → (find h t.peer w l ≡ None) × (find h t.peer w s.gifts ≡ None)) → Holds (PartHeard (op.Third h w) s) (code.gift_at t h w o s)
  unfolding code.gift_at give weight
  gift_at_fits h w (Some m) s e = (brings_same s, λ g has. (refl, λ n lim. (refl, omega arith)))
  gift_at_fits h w None s e =
      let k : LearntGift = record { host = h; provider = t.peer; word = w; name = s.known } in
      (record { stay = λ j x f. f; new = λ a. one_more k s.gifts (e refl).0 (e refl).1 a; references = λ r. r }, λ g has. (refl, λ n lim. tt))

  gift_fits : (h w : ℕ) (s : News) → Holds (PartHeard (op.Third h w) s) (code.gift_heard t l h w s)
  unfolding code.gift_heard code.learnt_by
  gift_fits h w s =
      gift_at_fits h w (code.or_else (find h t.peer w l) (find h t.peer w s.gifts)) s
      (λ e. (none_first (find h t.peer w l) (find h t.peer w s.gifts) e, none_of (find h t.peer w l) (find h t.peer w s.gifts) e))

  -- ---- lists

  list_fits : (g : Contents) (n : ℕ) (ds : Members) (ps : Parts) → parts_weight g ps ≡ weights ds → ((k : ℕ) → AllInLimits k ds → AllFit g k ps) → InLimits n (op.ListOf ds) → Fits g n (part.Many ps)
  unfolding weight height
  list_fits g zero ds ps e f lim = let low = lim.1 in absurd (omega (arith, low))
  list_fits g (suc n) ds ps e f lim =
      let light : 1 + weights ds ≤ 65536 = lim.0 in
      let low : 1 + heights ds ≤ suc n = lim.1 in
      let a : parts_weight g ps + 1 ≤ 65536 = omega (arith, light, e) in
      let b : weights ds ≤ 65536 = omega (arith, light) in
      let c : heights ds ≤ n = omega (arith, low) in
      (a, f n (all_in_limits n ds b c))

  many_fit : (ds : Members) (ps : Parts) (u : News) → PartsFit ds ps u → PartFits (op.ListOf ds) (part.Many ps) u
  unfolding weight
  many_fit ds ps u h = λ g has.
      let e = (h g has).0 in
      let w : parts_weight g ps + 1 ≡ 1 + weights ds = omega (arith, e) in
      (w, λ n lim. list_fits g n ds ps e (h g has).1 lim)

  more_fit : (d : Described) (ds : Members) (s u w : News) (p : Part) (ps : Parts) → PartHeard d s p u → PartsHeard ds u ps w → PartsHeard (op.more d ds) s (part.More p ps) w
  unfolding weights
  more_fit d ds s u w p ps h k = (
    brings_on s u w h.0 k.0,
    λ g has.
        let a = h.1 g (earlier g u w k.0 has) in
        let b = k.1 g has in
        let e = a.0 in
        let f = b.0 in
        let both : part_weight g p + parts_weight g ps ≡ weight d + weights ds = omega (arith, e, f) in
        (both, λ n lim. (a.1 n lim.0, b.1 n lim.1)),
  )

  none_fit : (s : News) → PartsHeard op.none s part.NoMore s
  unfolding weights
  none_fit s = (brings_same s, λ g has. (refl, λ n lim. tt))

  weighs_one : (p : ℕ) → (weight (op.MyExport p) ≡ 1) × (weight (op.MyPromise p) ≡ 1) × (weight (op.YourExport p) ≡ 1) × (weight (op.MyAnswer p) ≡ 1) × (weight (op.YourAnswer p) ≡ 1)
  unfolding weight
  weighs_one p = (refl, refl, refl, refl, refl)

  mutual
    unfolding code.part_heard code.parts_heard ◌>>=◌ give

    part_fits : (d : Described) (s : News) → Holds (PartHeard d s) (code.part_heard i t l d s)
    part_fits (op.Datum x) s = fact_fits x s
    part_fits (op.Broken p) s = broken_fits p s
    part_fits (op.ListOf ds) s =
        holds_then (PartsHeard ds s) (PartHeard (op.ListOf ds) s) (code.parts_heard i t l ds s) (λ ps. give (part.Many ps)) (parts_fit ds s) (λ ps u h. (h.0, many_fit ds ps u h.1))
    part_fits (op.Third h w) s = gift_fits h w s
    part_fits (op.MyExport p) s = reference_fits (op.MyExport p) s (weighs_one p).0
    part_fits (op.MyPromise p) s = reference_fits (op.MyPromise p) s (weighs_one p).1
    part_fits (op.YourExport p) s = reference_fits (op.YourExport p) s (weighs_one p).2
    part_fits (op.MyAnswer q) s = reference_fits (op.MyAnswer q) s (weighs_one q).3
    part_fits (op.YourAnswer q) s = reference_fits (op.YourAnswer q) s (weighs_one q).4

    parts_fit : (ds : Members) (s : News) → Holds (PartsHeard ds s) (code.parts_heard i t l ds s)
    parts_fit op.none s = none_fit s
    parts_fit (op.more d ds) s =
        holds_then (PartHeard d s) (PartsHeard (op.more d ds) s) (code.part_heard i t l d s) (λ p. code.parts_heard i t l ds >>= λ ps. give (part.More p ps)) (part_fits d s)
        (λ p u h. holds_then (PartsHeard ds u) (PartsHeard (op.more d ds) s) (code.parts_heard i t l ds u) (λ ps. give (part.More p ps)) (parts_fit ds u) (λ ps w k. more_fit d ds s u w p ps h k))

  -- ---- notes

  abbrev NoteHeard : News → Told → News → Type 0
  NoteHeard s x u = Brings s u × ((g : Contents) → HasTexts g u → ToldFits g x)

  message_fits : (asks : Bool) (d : Described) (verb : Words) (ds : Members) (s : News) → AreDescs ds → Holds (NoteHeard s) (code.message_heard i t l asks d verb ds s)
  unfolding code.message_heard ◌>>=◌ give
  message_fits asks d verb ds s a =
      holds_then (Named s) (NoteHeard s) (code.name_heard t d s) (λ x. code.parts_heard i t l ds >>= λ ps. give (told.Deliver carried.New asks x verb ps)) (named d s)
      (λ x u b. holds_then (PartsHeard ds u) (NoteHeard s) (code.parts_heard i t l ds u) (λ ps. give (told.Deliver carried.New asks x verb ps)) (parts_fit ds u)
      (λ ps w k. (brings_on s u w b k.0, λ g has. (k.1 g has).1 100 (all_spelled ds a))))

  outcome_fits : (x : Subject) (o : Outcome) (s u : News) → Brings s u → OutcomeFits o → Holds (NoteHeard s) (code.outcome_heard i t l x o u)
  unfolding code.outcome_heard ◌>>=◌ give OutcomeFits
  outcome_fits x (op.To d) s u b h =
      holds_then (PartHeard d u) (NoteHeard s) (code.part_heard i t l d u) (λ y. give (told.Settled x y)) (part_fits d u) (λ y w k. (brings_on s u w b k.0, λ g has. (k.1 g has).1 100 (spelled_in_limits d h.1)))
  outcome_fits x (op.Elsewhere c) s u b h = (b, λ g has. tt)

  note_fits : (o : Operation) (s : News) → IsOp o → Holds (NoteHeard s) (code.note_heard i t l o s)
  unfolding code.note_heard code.where_next ◌>>=◌ give IsOp
  note_fits (op.Deliver q d verb ds) s h = holds_if (NoteHeard s) (q == length t.answers) (code.message_heard i t l true d verb ds s) (message_fits true d verb ds s h.4)
  note_fits (op.DeliverOnly d verb ds) s h = message_fits false d verb ds s h.3
  note_fits (op.Provide d w) s h = holds_then (Named s) (NoteHeard s) (code.name_heard t d s) (λ x. give (told.Open w x)) (named d s) (λ x u b. (b, λ g has. tt))
  note_fits (op.Accept q p w) s h = holds_if (NoteHeard s) (q == length t.answers) (give (told.Ask p w) s) (brings_same s, λ g has. tt)
  note_fits (op.Resolve d o) s h =
      holds_then (Named s) (NoteHeard s) (code.name_heard t d s) (λ x. code.subject_of x >>= λ y. code.outcome_heard i t l y o) (named d s)
      (λ x u b. holds_then (λ y w. Brings u w) (NoteHeard s) (code.subject_of x u) (λ y. code.outcome_heard i t l y o) (subject_named x u) (λ y w c. outcome_fits y o s w (brings_on s u w b c) h.1))
  note_fits (op.Shorten d w) s h =
      holds_then (Named s) (NoteHeard s) (code.name_heard t d s) (λ x. give (told.Shorten x (record { provider = i.refs.me; word = w }))) (named d s) (λ x u b. (b, λ g has. tt))

  -- the heap that keeps them has them
  kept_texts : (s : News) → HasTexts (keeping i.heap s) s
  kept_texts s k x e = among_more i.heap.texts s.texts k ∙ e

pub what_is_heard_fits : WhatIsHeardFits
what_is_heard_fits i t l o x s h e =
    let k : NoteHeard i t l (code.no_news i) x s = subst (Holds (NoteHeard i t l (code.no_news i))) e (note_fits i t l o (code.no_news i) h) in
    (k.1 (keeping i.heap s) (kept_texts i t l s), k.0.new (sym (append-nil l)), k.0.references tt)

-- ---- frames

abbrev pub FitsAndIsNew : Interior → LearntGifts → Told → News → Type 0
FitsAndIsNew i l x s = ToldFits (keeping i.heap s) x × (put_all s.gifts l ≡ l ++ s.gifts) × AreReferences s.imports

module _ (i : Interior) (t : Table) (l : LearntGifts) (x : Told) (s : News) where
  whole_fits : (b : Bool) (o : Operation) → IsOp o → cond b (code.note_heard i t l o (code.no_news i)) None ≡ Some (x, s) → FitsAndIsNew i l x s
  whole_fits true o is e = what_is_heard_fits i t l o x s is e
  whole_fits false o is e = absurd cc

  found_fits : (size : ℕ) (o : Option (Operation × ℕ)) → IfSome o (λ (y : Operation × ℕ). IsOp y.0) → code.found_heard i t l size o ≡ Some (x, s) → FitsAndIsNew i l x s
  unfolding code.found_heard code.whole_heard
  found_fits size (Some y) is e = whole_fits (y.1 == size) y.0 is e
  found_fits size None is e = absurd cc

  pub frame_fits : (bytes : List ℕ) → IfSome (decoded bytes) (λ (y : Operation × ℕ). IsOp y.0) → code.frame_heard i t l bytes ≡ Some (x, s) → FitsAndIsNew i l x s
  unfolding code.frame_heard
  frame_fits bytes is e = found_fits (length bytes) (decoded bytes) is e
