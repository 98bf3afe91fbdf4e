-- Messages that a vat numbers next are new: of none a line tells, and none stands anywhere.
use Rattle.std.proofs.Common.{◌≡◌, ℕ, zero, suc, ◌+◌, ◌≤◌, Bool, true, false, List, [], ◌∷◌, ◌++◌, Option, Some, None, refl, sym, ap, subst, ◌∙◌, ◌||◌, ◌&&◌, ◌==◌, arith, nat_le}
use Rattle.std.proofs.lemmas.Bool.{eq-eqb, le-leb, leb-true, leb-false}
use Rattle.std.specs.Prelude.{slice_get}
use Rattle.def_machine.specs.Values.{Name, same_name}
use Rattle.def_machine.specs.State.{Deliver, Took, Sends, Posted, Happened, Vat}
use Rattle.def_run.specs.World as world
use Rattle.def_run.specs.World.{Script, Event, Here, Carried, LostCut, Link, World, Run, Goes, Stopped}
use Rattle.law_fate.specs.Fates.Fate.{once, one, total, at_vat, on_link, places, sent_by, sent_here, sent, took_by, took_here, takes, in_note, of_note, gone, sent_in, put_out, account}
use Rattle.law_fate.specs.Fates.FateLaws.{numbered}
use Rattle.law_fate.specs.Fates.FateRuns.{Reached}
use Rattle.law_fate.specs.Fates.Carry.{carried_by, carries, world_weight}
use Rattle.law_fate.proofs.Fates.RunAccount.{Fated, steps_fated, opens_fated}
use Rattle.law_fate.proofs.Fates.RunCounts.{pick, total_append, total_put, all_numbered, numbered_put, numbered_once, push_all_adds, sends_told, ends_told}
use Rattle.law_fate.proofs.Fates.RunFates.{begins_fated, goes_fated}
use Rattle.law_fate.proofs.Fates.RunLight.{carries_and_weight}
use Rattle.law_order.specs.Ordering.Ways.{Lane, Item}
use Rattle.law_order.specs.Ordering.Messages.{StandsAt}
use Rattle.law_order.specs.Ordering.Order.{Coming, comes_in, comes, takes_it}
use Rattle.law_order.specs.Ordering.Places.{item, ways, amid}
use Rattle.law_order.proofs.Ordering.Named.{same_self}
use Rattle.law_order.specs.History.Lines.{sends_it, was_sent, was_taken}
use Rattle.law_order.specs.History.News.{message}
use Rattle.law_order.specs.History.Told.{IsOfRun, opened, entered}
use Rattle.law_order.proofs.Runs.Once.{tally, lane_most}
use Rattle.law_order.specs.Sending.Came.{told_amid}
use Rattle.law_order.specs.Sending.New.{Counted, IsBegun, NextMessagesAreNew}

-- ---- counts and lines

one_true : (b : Bool) → b ≡ true → once b ≡ 1
unfolding once
one_true true e = refl
one_true false e = absurd (cc)

-- a line that sends it, takes it or brings it counts
send_counts : (m : Name) (e : Event) → sends_it m e ≡ true → 1 ≤ sent_by m e
unfolding sends_it sent_by sent_here one
send_counts m (Here v (Sends act x)) e = let is = one_true (same_name x.id m) e in omega arith
send_counts m other e = absurd (cc)

take_counts : (m : Name) (e : Event) → takes_it m e ≡ true → 1 ≤ took_by m e
unfolding takes_it took_by took_here one
take_counts m (Here v (Took act x)) e = let is = one_true (same_name x.id m) e in omega arith
take_counts m other e = absurd (cc)

none_false : (n : ℕ) (b : Bool) → n ≡ 0 → (b ≡ true → 1 ≤ n) → b ≡ false
none_false n true e f = let g = f refl in absurd (omega arith)
none_false n false e f = refl

unsent : (x : Name) (es : List Event) → sent x es ≡ 0 → was_sent x es ≡ false
unfolding was_sent sent total
unsent x [] e = refl
unsent x (f ∷ es) e = let rest = unsent x es (omega arith) in let here = none_false (sent_by x f) (sends_it x f) (omega arith) (send_counts x f) in ap (λ b. b || was_sent x es) here ∙ rest

untaken : (x : Name) (es : List Event) → takes x es ≡ 0 → was_taken x es ≡ false
unfolding was_taken takes total
untaken x [] e = refl
untaken x (f ∷ es) e = let rest = untaken x es (omega arith) in let here = none_false (took_by x f) (takes_it x f) (omega arith) (take_counts x f) in ap (λ b. b || was_taken x es) here ∙ rest

never : (s t : Bool) (c : Coming) → t ≡ false → ◌≡◌ {A = Option Coming} (elim (s && t) [ true ↦ Some c | false ↦ None ]) None
never true t c e = subst (λ b. ◌≡◌ {A = Option Coming} (elim b [ true ↦ Some c | false ↦ None ]) None) (sym e) refl
never false t c e = refl

no_coming : (u : ℕ) (x : Name) (i : ℕ) (e : Event) → sent_by x e ≡ 0 → carried_by x e ≡ 0 → comes_in u x i e ≡ None
unfolding comes_in sent_by sent_here carried_by of_note in_note one
no_coming u x i (Here w (Sends act m)) a b = never (w == u) (same_name m.id x) _ (none_false (once (same_name m.id x)) (same_name m.id x) a (λ f. let g = one_true (same_name m.id x) f in omega arith))
no_coming u x i (Carried k v w (Deliver d n verb ys) bytes) a b = never (w == u) (same_name d.message x) _ (none_false (once (same_name d.message x)) (same_name d.message x) b (λ f. let g = one_true (same_name d.message x) f in omega arith))
no_coming u x i other a b = refl

uncome : (u : ℕ) (x : Name) (i : ℕ) (es : List Event) → sent x es ≡ 0 → carries x es ≡ 0 → comes u x i es ≡ None
unfolding comes sent carries total
uncome u x i [] a b = refl
uncome u x i (e ∷ es) a b = subst (λ o. ◌≡◌ {A = Option Coming} (elim o [ Some d ↦ Some d | None ↦ comes u x (suc i) es ]) None) (sym (no_coming u x i e (omega arith) (omega arith))) (uncome u x (suc i) es (omega arith) (omega arith))

-- ---- a step of a vat carries nothing

lost_uncarried : (x m : Name) (b : Bool) → total (carried_by x) (pick b (LostCut m ∷ []) []) ≡ 0
unfolding total carried_by
lost_uncarried x m true = refl
lost_uncarried x m false = refl

line_uncarried : (ls : List Link) (v : ℕ) (x : Name) (e : Happened Name) → total (carried_by x) (world.event_of ls v e) ≡ 0
unfolding world.event_of total carried_by
line_uncarried ls v x (Posted w m) = lost_uncarried x m (world.is_cut v w ls)
line_uncarried ls v x other = refl

lines_uncarried : (ls : List Link) (v : ℕ) (x : Name) (es : List (Happened Name)) → carries x (world.events_of ls v es) ≡ 0
unfolding world.events_of total carries
lines_uncarried ls v x [] = refl
lines_uncarried ls v x (e ∷ es) = let a = total_append (carried_by x) (world.event_of ls v e) (world.events_of ls v es) in let b = line_uncarried ls v x e in let c = lines_uncarried ls v x es in omega arith

-- ---- in a world

fated_of : (script : Script) (w : World) → IsOfRun script w → (x : Name) → Fated x w
fated_of script w (opened ps rest i e) x = goes_fated x script (world.open_from script zero ps (world.begins script)) w e (opens_fated x script zero ps (world.begins script) (begins_fated x script))
fated_of script w (entered es rest o i a e) x = goes_fated x script (world.steps_from script es 1 o) w e
    (steps_fated x script es 1 o (goes_fated x script (world.open_from script zero script.vats (world.begins script)) o a (opens_fated x script zero script.vats (world.begins script) (begins_fated x script))))

abbrev IsCarried : Name → World → Type 0
IsCarried x w = (carries x w.history + world_weight x w ≤ sent x w.history + sent x w.history) × (sent x w.history ≤ 1)

pub carried_of : (script : Script) (w : World) → IsOfRun script w → (x : Name) → IsCarried x w
carried_of script w (opened ps rest i e) x = subst (λ z. Reached (IsCarried x) z) e ((carries_and_weight x script).0 ps)
carried_of script w (entered es rest o i a e) x = subst (λ z. Reached (IsCarried x) z) e ((carries_and_weight x script).1 o es 1 a)

-- ---- numbers

numbered_below : (v k n : ℕ) → k ≤ n → numbered v k (message v n) ≡ 0
unfolding numbered once
numbered_below v k n l = ap (λ b. elim b [ true ↦ once (nat_le (suc n) k) | false ↦ 0 ]) (eq-eqb v v refl) ∙ go (nat_le (suc n) k) refl
  where
    go : (b : Bool) → nat_le (suc n) k ≡ b → once b ≡ 0
    go true e = let g = leb-true (suc n) k e in absurd (omega arith)
    go false e = refl

numbered_here : (v n : ℕ) → numbered v (suc n) (message v n) ≡ 1
unfolding numbered
numbered_here v n = ap (λ b. elim b [ true ↦ once (nat_le (suc n) (suc n)) | false ↦ 0 ]) (eq-eqb v v refl) ∙ ap (λ b. once b) (le-leb (suc n) (suc n) (omega arith)) ∙ one_true true refl

old_number : (v k n : ℕ) → numbered v k (message v n) ≡ 0 → k ≤ n
unfolding numbered once
old_number v k n e = go (nat_le (suc n) k) refl (sym (ap (λ b. elim b [ true ↦ once (nat_le (suc n) k) | false ↦ 0 ]) (eq-eqb v v refl)) ∙ e)
  where
    go : (b : Bool) → nat_le (suc n) k ≡ b → once b ≡ 0 → k ≤ n
    go true f g = absurd (omega arith)
    go false f g = let h = leb-false (suc n) k f in omega arith

-- of a message of vat v no other vat has the number
all_of_one : (v n : ℕ) (vats : List (Vat Name)) (r : Vat Name) → slice_get vats v ≡ Some r → r.messages ≤ n → all_numbered (message v n) 0 vats ≡ 0
all_of_one v n vats r e l = let t : Vat Name = record r { messages = suc n } in let a = numbered_put (message v n) v vats r t e in let b = numbered_below v r.messages n l in let c = numbered_here v n in
    let d = numbered_once (message v n) 0 (world.put_at v t vats) in omega arith

-- ---- in the middle of a step

module _ (script : Script) (honest : ℕ → Bool) (w : World) (of_run : IsOfRun script w) (v : ℕ) (head : List Event) (came : Name → ℕ) (r q s : Vat Name) (begun : IsBegun w v head came r q) (counted : Counted w v came q s) (n : ℕ) (late : s.messages ≤ n) where
  abbrev X : Name
  X = message v n

  record Nothing : Type 0 where
    pub sends : sent X w.history ≡ 0
    pub sends_now : sent_in X s.happened ≡ 0
    pub vats : total (at_vat X) w.vats ≡ 0
    pub links : total (on_link X) w.links ≡ 0
    pub takes_before : takes X w.history ≡ 0
    pub carries_before : carries X w.history ≡ 0
    pub here : (cut : ℕ → Bool) → account cut X s ≡ 0
    pub at_r : at_vat X r ≡ 0

  least : {A : Type 0} (f : A → ℕ) (xs : List A) (i : ℕ) (x : A) → slice_get xs i ≡ Some x → f x ≤ total f xs
  unfolding total
  least f [] i x e = absurd (cc)
  least f (y ∷ xs) zero x e = let same : y ≡ x = cc in subst (λ z. f z ≤ f y + total f xs) same (omega arith)
  least f (y ∷ xs) (suc i) x e = let rest = least f xs i x e in omega arith

  nothing : Nothing
  unfolding account sent_in put_out gone places world.readied at_vat
  nothing =
      let a = counted (λ u. false) X in let fresh = a.fresh in
      let b = numbered_below v s.messages n late in
      let numbers = begun.numbers in
      let old : q.messages ≤ n = old_number v q.messages n (omega arith) in
      let f = fated_of script w of_run X in let kept = f.kept in let few = f.fresh in
      let none = all_of_one v n w.vats r begun.found (omega arith) in
      let c = (carried_of script w of_run X).0 in
      let at = least (at_vat X) w.vats v r begun.found in
      let came_from = begun.places X in
      record {
        sends = omega arith;
        sends_now = omega arith;
        vats = omega arith;
        links = omega arith;
        takes_before = omega arith;
        carries_before = omega arith;
        here = λ cut. let k = counted cut X in let spent = k.kept in omega arith;
        at_r = omega arith;
      }

  -- ---- what stands where

  standing : places X (amid v s w) ≡ 0
  unfolding places amid account put_out at_vat
  standing = let z = nothing in let a = total_put (at_vat X) v w.vats r s begun.found in let b = push_all_adds X v s.outbox w.links (λ to. world.is_cut v to w.links) (λ to. refl) in
      let c = z.here (λ to. world.is_cut v to w.links) in let d = z.vats in let e = z.links in omega arith

  tallied : (js : List Item) (b : List Item) (m : Name) (behind : List Item) → js ≡ b ++ item X m ∷ behind → 1 ≤ tally X js
  unfolding tally one once
  tallied js [] m behind e = subst (λ is. 1 ≤ tally X is) (sym e) (let is = one_true (same_name X X) (same_self X) in omega arith)
  tallied js (i ∷ b) m behind e = subst (λ is. 1 ≤ tally X is) (sym e) (let rest = tallied (b ++ item X m ∷ behind) b m behind refl in omega arith)

  nowhere : (l : Lane) (b : List Item) (m : Name) → StandsAt (ways script honest (amid v s w)) X l b m → ⊥
  unfolding ways
  nowhere l b m t = let a = standing in let c = lane_most script honest (amid v s w) X l in let d = tallied ((ways script honest (amid v s w)).stands l) b m t.behind t.found in absurd (omega arith)

  -- ---- what lines tell

  abbrev Lines : List Event
  Lines = world.events_of w.links v s.happened

  summed : (f : Event → ℕ) → total f (told_amid w v head s) ≡ total f w.history + total f head + total f Lines
  summed f = let a = total_append f (w.history ++ head) Lines in let b = total_append f w.history head in omega arith

  sends_none : sent X (told_amid w v head s) ≡ 0
  unfolding sent
  sends_none = let z = nothing in let a = summed (sent_by X) in let b = sends_told w.links v X s.happened in let c = z.sends in let d = z.sends_now in let e = begun.sends X in omega arith

  takes_none : takes X (told_amid w v head s) ≡ 0
  unfolding takes account gone
  takes_none = let z = nothing in let a = summed (took_by X) in let b = ends_told w.links v X s.happened in let c = z.takes_before in let d = z.here (λ to. world.is_cut v to w.links) in let e = begun.taking X in omega arith

  carries_none : carries X (told_amid w v head s) ≡ 0
  unfolding carries
  carries_none = let z = nothing in let a = summed (carried_by X) in let b = lines_uncarried w.links v X s.happened in let c = z.carries_before in let e = begun.carrying X in omega arith

pub next_messages_are_new : NextMessagesAreNew
next_messages_are_new script honest w of_run v head came r q s begun counted = record {
  told = record {
    unsent = λ n l. unsent (message v n) (told_amid w v head s) (sends_none script honest w of_run v head came r q s begun counted n l);
    untaken = λ n l. untaken (message v n) (told_amid w v head s) (takes_none script honest w of_run v head came r q s begun counted n l);
    uncome = λ u n l. uncome u (message v n) zero (told_amid w v head s) (sends_none script honest w of_run v head came r q s begun counted n l) (carries_none script honest w of_run v head came r q s begun counted n l);
  };
  nowhere = λ n l. nowhere script honest w of_run v head came r q s begun counted n l;
}
