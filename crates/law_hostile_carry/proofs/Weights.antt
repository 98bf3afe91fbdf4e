-- What a message weighs on the links of honest vats, and how the doings of a run change that.
use Rattle.std.proofs.Common.{◌≡◌, ℕ, zero, suc, ◌+◌, ◌≤◌, Bool, true, false, not, List, [], ◌∷◌, ◌++◌, Some, refl, sym, ◌∙◌, ap, subst, arith}
use Rattle.std.specs.Prelude.{slice_get, ◌==◌, ◌||◌}
use Rattle.def_machine.specs.Values.{Value, Ref, Name, Root, Object, Promise, Answer, Gift, Sent}
use Rattle.def_machine.specs.State.{Known, Passed, Plain, AGift, Many, Note, Deliver, SettledTo, Put, Vat, is_in}
use Rattle.def_run.specs.Entered as entering
use Rattle.def_run.specs.World as world
use Rattle.def_run.specs.World.{Link, has_name}
use Rattle.law_fate.specs.Fates.Fate.{one, total, at_names, at_vat, of_note, in_note}
use Rattle.law_fate.specs.Fates.Lasting.{NoPromise, NamesObject, PassedLast, NoteWell}
use Rattle.law_fate.specs.Fates.Carry.{fare, weight, held_at, put_weight, vat_weight, link_weight}
use Rattle.law_fate.proofs.Fates.RunCounts.{pick, total_append, ends_of}
use Rattle.law_hostile_fate.specs.Brought.{where_so}

so_more : (b : Bool) (m n c : ℕ) → m ≤ n + c → where_so b m ≤ where_so b n + c
unfolding where_so
so_more true m n c h = h
so_more false m n c h = omega arith

so_first : (b c : Bool) (m n k : ℕ) → b ≡ c → n ≡ k + m → where_so b m + where_so c k ≡ where_so b n
unfolding where_so
so_first true true m n k e h = omega (arith, h)
so_first false false m n k e h = refl
so_first true false m n k e h = cc
so_first false true m n k e h = cc

so_none : (b : Bool) (m n : ℕ) → b ≡ false → where_so b m ≤ where_so b n + 0
unfolding where_so
so_none false m n e = omega arith
so_none true m n e = cc

so_less : (b : Bool) (n : ℕ) → where_so b n ≤ n
unfolding where_so
so_less true n = omega arith
so_less false n = omega arith

not_so : (b : Bool) → b ≡ true → not b ≡ false
not_so true e = refl
not_so false e = cc

module _ (hs : List ℕ) (x : Name) where
  -- on a link of an honest vat; what a hostile vat says has no weight before it comes
  abbrev pub told_weight : Link → ℕ
  told_weight l = where_so (not (is_in l.from hs)) (link_weight x l)

  link_more : (f : Link → Link) (c : ℕ) (v u : ℕ) → ((l : Link) → l.from ≡ v → told_weight (f l) ≤ told_weight l + c) → (ls : List Link) → total told_weight (world.with_link f v u ls) ≤ total told_weight ls + c
  unfolding world.with_link total
  link_more f c v u g [] = omega arith
  link_more f c v u g (l ∷ ls) = either (world.is_link v u l) refl (link_more f c v u g ls)
    where
      either : (b : Bool) → world.is_link v u l ≡ b → total told_weight (world.with_link f v u ls) ≤ total told_weight ls + c
          → total told_weight (pick b (f l ∷ ls) (l ∷ world.with_link f v u ls)) ≤ told_weight l + total told_weight ls + c
      either true e i = let here = g l (ends_of v u l e).0 in omega (arith, here)
      either false e i = omega (arith, i)

  pushed_more : (n : Note Name) (l : Link) → told_weight (world.pushed n l) ≤ told_weight l + weight x n
  unfolding world.pushed link_weight total
  pushed_more n l = either l.cut
    where
      either : (b : Bool) → told_weight (pick b (record l { log = l.log ++ n ∷ [] }) (record l { notes = l.notes ++ n ∷ []; log = l.log ++ n ∷ [] })) ≤ told_weight l + weight x n
      either true = omega arith
      either false = so_more (not (is_in l.from hs)) (total (weight x) (l.notes ++ n ∷ [])) (total (weight x) l.notes) (weight x n) (let a = total_append (weight x) l.notes (n ∷ []) in omega (arith, a))

  pub puts_weigh : (v : ℕ) (ps : List (Put Name)) (ls : List Link) → total told_weight (world.push_all v ps ls) ≤ total told_weight ls + put_weight x ps
  unfolding world.push_all put_weight
  puts_weigh v [] ls = omega arith
  puts_weigh v (p ∷ ps) ls = let rest = puts_weigh v ps (world.with_link (world.pushed p.note) v p.to ls) in let here = link_more (world.pushed p.note) (weight x p.note) v p.to (λ l e. pushed_more p.note l) ls in omega (arith, rest, here)

  pushed_from : (n : Note Name) (l : Link) → (world.pushed n l).from ≡ l.from
  unfolding world.pushed
  pushed_from n l = either l.cut
    where
      either : (b : Bool) → (pick b (record l { log = l.log ++ n ∷ [] }) (record l { notes = l.notes ++ n ∷ []; log = l.log ++ n ∷ [] })).from ≡ l.from
      either true = refl
      either false = refl

  -- by a hostile vat
  said_none : (v : ℕ) (n : Note Name) (l : Link) → is_in v hs ≡ true → l.from ≡ v → told_weight (world.pushed n l) ≤ told_weight l + 0
  said_none v n l bad e = let i : not (is_in l.from hs) ≡ false = not_so (is_in l.from hs) (subst (λ a. is_in a hs ≡ true) (sym e) bad) in
      subst (λ a. where_so (not (is_in a hs)) (link_weight x (world.pushed n l)) ≤ told_weight l + 0) (sym (pushed_from n l)) (so_none (not (is_in l.from hs)) (link_weight x (world.pushed n l)) (link_weight x l) i)

  pub says_weigh : (v : ℕ) → is_in v hs ≡ true → (ps : List (Put Name)) (ls : List Link) → total told_weight (world.push_all v ps ls) ≤ total told_weight ls
  unfolding world.push_all
  says_weigh v bad [] ls = omega arith
  says_weigh v bad (p ∷ ps) ls = let rest = says_weigh v bad ps (world.with_link (world.pushed p.note) v p.to ls) in let here = link_more (world.pushed p.note) 0 v p.to (λ l e. said_none v p.note l bad e) ls in omega (arith, rest, here)

  severed_less : (l : Link) → told_weight (world.severed_link l) ≤ told_weight l + 0
  unfolding world.severed_link link_weight total
  severed_less l = so_more (not (is_in l.from hs)) 0 (total (weight x) l.notes) 0 (omega arith)

  pub cuts_weigh : (v u : ℕ) (ls : List Link) → total told_weight (world.with_link world.severed_link v u ls) ≤ total told_weight ls
  cuts_weigh v u ls = let here = link_more world.severed_link 0 v u (λ l e. severed_less l) ls in omega (arith, here)

  -- the first note of a link, taken from it
  pub first_weighs : (v u : ℕ) (ls : List Link) (k : Link) (n : Note Name) (ns : List (Note Name)) → world.link_at v u ls ≡ Some k → k.notes ≡ n ∷ ns
      → total told_weight (world.with_link (world.with_notes ns) v u ls) + where_so (not (is_in v hs)) (weight x n) ≡ total told_weight ls
  unfolding world.with_link world.link_at world.with_notes total link_weight
  first_weighs v u [] k n ns e i = cc
  first_weighs v u (l ∷ ls) k n ns e i = either (world.is_link v u l) refl e (λ j. first_weighs v u ls k n ns j i)
    where
      either : (b : Bool) → world.is_link v u l ≡ b → pick b (Some l) (world.link_at v u ls) ≡ Some k → (world.link_at v u ls ≡ Some k → total told_weight (world.with_link (world.with_notes ns) v u ls) + where_so (not (is_in v hs)) (weight x n) ≡ total told_weight ls)
          → total told_weight (pick b (world.with_notes ns l ∷ ls) (l ∷ world.with_link (world.with_notes ns) v u ls)) + where_so (not (is_in v hs)) (weight x n) ≡ where_so (not (is_in l.from hs)) (total (weight x) l.notes) + total told_weight ls
      either true f j g = let same : l ≡ k = cc in let all : l.notes ≡ n ∷ ns = ap (λ (l : Link). l.notes) same ∙ i in let sum : total (weight x) l.notes ≡ weight x n + total (weight x) ns = ap (total (weight x)) all in
          let at : not (is_in l.from hs) ≡ not (is_in v hs) = ap (λ a. not (is_in a hs)) (ends_of v u l f).0 in
          let here = so_first (not (is_in l.from hs)) (not (is_in v hs)) (total (weight x) ns) (total (weight x) l.notes) (weight x n) at sum in omega (arith, here)
      either false f j g = let rest = g j in omega (arith, rest)

  pub told_less : (ls : List Link) → total told_weight ls ≤ total (link_weight x) ls
  unfolding total
  told_less [] = omega arith
  told_less (l ∷ ls) = let here = so_less (not (is_in l.from hs)) (link_weight x l) in let rest = told_less ls in omega (arith, here, rest)

-- ---- vats

module _ (x : Name) where
  held_less : (ks : List (Known Name)) → held_at x ks ≤ at_names x ks
  unfolding held_at at_names
  held_less [] = omega arith
  held_less (k ∷ ks) = let rest = held_less ks in omega (arith, rest)

  -- a vat that has no message bears none
  pub bears_none : (s : Vat Name) → at_vat x s ≡ 0 → vat_weight x s ≡ 0
  unfolding at_vat vat_weight
  bears_none s e = let a = held_less s.known in omega (arith, a, e)

  pub one_less : {A : Type 0} (f : A → ℕ) (v : ℕ) (ss : List A) (s : A) → slice_get ss v ≡ Some s → f s ≤ total f ss
  unfolding total
  one_less f v [] s e = cc
  one_less f zero (r ∷ ss) s e = let same : r ≡ s = cc in let a = ap f same in omega (arith, a)
  one_less f (suc v) (r ∷ ss) s e = let rest = one_less f v ss s e in omega (arith, rest)

  -- ---- notes by entries

  fare_twice : (n : Name) (c : ℕ) → (c ≤ fare n c) × (fare n c ≤ c + c)
  unfolding fare
  fare_twice (Object v i) c = (omega arith, omega arith)
  fare_twice other c = (omega arith, omega arith)

  -- a note weighs its message once or twice
  pub weighs : (n : Note Name) → (of_note x n ≤ weight x n) × (weight x n ≤ of_note x n + of_note x n)
  unfolding of_note in_note weight
  weighs (Deliver d n verb ys) = fare_twice n (one d.message x)
  weighs other = (omega arith, omega arith)

  module _ (u v : ℕ) (exports : List Name) where
    fare_by : (h i c : ℕ) (a b : Bool) → fare (entering.entry_by u v exports h i a b) c ≡ c + c
    unfolding entering.entry_by fare
    fare_by h i c true b = refl
    fare_by h i c false true = refl
    fare_by h i c false false = refl

    fare_gift : (h i c : ℕ) (a : Bool) → fare (entering.entry_of_gift u v exports h i a) c ≡ c + c
    unfolding entering.entry_of_gift fare
    fare_gift h i c true = fare_by h i c (h == u) (has_name exports (Gift h i))
    fare_gift h i c false = refl

    fare_name : (n : Name) (c : ℕ) → fare (entering.entry_name u v exports n) c ≡ fare n c
    unfolding entering.entry_name fare
    fare_name (Gift h i) c = fare_gift h i c ((h == u) || (h == v))
    fare_name (Root h) c = refl
    fare_name (Object h i) c = refl
    fare_name (Promise h i) c = refl
    fare_name (Answer h m) c = refl
    fare_name (Sent m) c = refl

    pub entered_weighs : (ks : List Name) (n : Note Name) → weight x (entering.entered u v exports ks n) ≡ weight x n
    unfolding entering.entered weight
    entered_weighs ks (Deliver d n verb ys) = fare_name n (one d.message x)
    entered_weighs ks other = refl

    pub entered_same : (ks : List Name) (n : Note Name) → of_note x (entering.entered u v exports ks n) ≡ of_note x n
    unfolding entering.entered of_note in_note
    entered_same ks (Deliver d n verb ys) = refl
    entered_same ks other = refl

-- what settles a name to no promise does so by entries
module _ (u v : ℕ) (exports : List Name) where
  object_name : (n : Name) → NamesObject n → NamesObject (entering.entry_name u v exports n)
  unfolding entering.entry_name
  object_name (Object h i) g = tt
  object_name other g = absurd g

  last_value : (y : Value Name) → NoPromise y → NoPromise (entering.entry_value u v exports y)
  unfolding entering.entry_value
  last_value (Ref n) g = object_name n g
  last_value other g = tt

  last_passed : (ks : List Name) (y : Passed Name) → PassedLast y → PassedLast (entering.entered_passed u v exports y ks).read
  unfolding entering.entered_passed entering.many_entered
  last_passed ks (Plain y) g = last_value y g
  last_passed ks (AGift h i) g = absurd g
  last_passed ks (Many ys) g = tt

  pub entered_well : (ks : List Name) (n : Note Name) → NoteWell n → NoteWell (entering.entered u v exports ks n)
  unfolding entering.entered
  entered_well ks (SettledTo n y) g = last_passed ks y g
  entered_well ks (Deliver d n verb ys) g = g
  entered_well ks other g = tt
