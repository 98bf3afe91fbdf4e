-- What every step of a vat keeps, every step of a run keeps.
use Rattle.std.proofs.Common.{◌≡◌, ℕ, zero, suc, ◌+◌, Bool, true, false, List, [], ◌∷◌, ◌++◌, Option, Some, None, refl, ap, arith}
use Rattle.std.specs.Prelude.{slice_get}
use Rattle.def_machine.specs.Values.{Name, Root}
use Rattle.def_machine.specs.State.{Vat, Message, Note, Done, Gives}
use Rattle.def_machine.specs.Arrive.{notice}
use Rattle.def_machine.specs.Eval.{opening}
use Rattle.law_machine.specs.Machine.Steps.{Step, Opens as Starts, Takes, Receives, Notices, does, After}
use Rattle.def_run.specs.World.{next_frame, Script, Program, Opens, given, open_vat, open_from, Entry, Turn, Carry, CutLink, NoticeLink, Event, Turned, Idle, Carried, CutAt, NoticedAt, Link, World, Run, Goes, Stopped, then_goes, put_at, put_back, readied, within, names, names_of, read_note, tree_at, step_number, idle, turn_queue, turn, arrives, with_link, with_notes, link_at, carry_notes, carry_link, cut, severed_link, lost_on, step, steps_from}
use Rattle.law_machine.specs.Run.Runs.{EachVat}

-- a vat that begins a step as it was, or with its queue taken from
abbrev pub Begins : Vat Name → Vat Name → Type 0
Begins s q = (ms : List (Message Name)) × (q ≡ record s { queue = ms })

-- What is to be shown of a relation between worlds: of no change, of two in a row, of lines of the history and links that change,
-- and of what a step of a vat makes of the world.
pub record IsKeptByRuns (script : Script) (Q : World → World → Type 0) : Type 0 where
  pub same : (w : World) → Q w w
  pub trans : (w x y : World) → Q w x → Q x y → Q w y
  pub adds : (w : World) (ls : List Link) (es : List Event) → Q w (record w { links = ls; history = w.history ++ es })
  pub links : (w : World) (ls : List Link) → Q w (record w { links = ls })
  pub vat : (v : ℕ) (w x : World) (head : List Event) (n : ℕ) (what : Step Name Name) (s q : Vat Name) → slice_get w.vats v ≡ Some s → Begins s q
      → within v w head n (does (names script v) what) (Some q) ≡ Goes x → Q w x

-- what is to be shown of a relation between the states of vat v: of no change, of two in a row, of each step,
-- of a vat that is made ready for a step, and of one whose queue is taken from
pub record IsKeptInRuns (script : Script) (R : ℕ → Vat Name → Vat Name → Type 0) : Type 0 where
  pub same : (v : ℕ) (s : Vat Name) → R v s s
  pub trans : (v : ℕ) (s t u : Vat Name) → R v s t → R v t u → R v s u
  pub steps : (v : ℕ) (does_what : Step Name Name) (s : Vat Name) → After (R v) s (does (names script v) does_what s)
  pub ready : (v : ℕ) (w : World) (s : Vat Name) → R v s (readied w s)
  pub taken : (v : ℕ) (s : Vat Name) (ms : List (Message Name)) → R v s (record s { queue = ms })

put_leads : (R : ℕ → Vat Name → Vat Name → Type 0) → ((v : ℕ) (s : Vat Name) → R v s s) → (d v : ℕ) (xs : List (Vat Name)) (x y : Vat Name) → slice_get xs v ≡ Some x → R (d + v) x y
    → (u : ℕ) (s : Vat Name) → slice_get xs u ≡ Some s → (t : Vat Name) × (slice_get (put_at v y xs) u ≡ Some t) × R (d + u) s t
unfolding put_at
put_leads R same d v [] x y e r u s h = (s, h, same (d + u) s)
put_leads R same d zero (z ∷ xs) x y e r zero s h = let e1 : x ≡ s = cc in (y, refl, rw e1 at r)
put_leads R same d zero (z ∷ xs) x y e r (suc u) s h = (s, h, same (d + suc u) s)
put_leads R same d (suc v) (z ∷ xs) x y e r zero s h = (s, h, same (d + zero) s)
put_leads R same d (suc v) (z ∷ xs) x y e r (suc u) s h = let i : d + suc v ≡ suc d + v = omega arith in let j : suc d + u ≡ d + suc u = omega arith in let rest = put_leads R same (suc d) v xs x y e (rw i at r) u s h in (rest.0, rest.1, rw j at rest.2)

put_lead : (R : ℕ → Vat Name → Vat Name → Type 0) → ((v : ℕ) (s : Vat Name) → R v s s) → (v : ℕ) (xs : List (Vat Name)) (x y : Vat Name) → slice_get xs v ≡ Some x → R v x y
    → (u : ℕ) (s : Vat Name) → slice_get xs u ≡ Some s → (t : Vat Name) × (slice_get (put_at v y xs) u ≡ Some t) × R u s t
put_lead R same v xs x y e r u s h = let i : v ≡ zero + v = omega arith in let j : zero + u ≡ u = omega arith in let rest = put_leads R same zero v xs x y e (rw i at r) u s h in (rest.0, rest.1, rw j at rest.2)

module _ (script : Script) (R : ℕ → Vat Name → Vat Name → Type 0) (law : IsKeptInRuns script R) where
  each_same : (w : World) → EachVat R w w
  each_same w v s e = (s, e, law.same v s)

  -- a world with the same vats
  each_vats : (w x : World) → x.vats ≡ w.vats → EachVat R w x
  each_vats w x i v s e = (s, rw i e, law.same v s)

  each_trans : (w x y : World) → EachVat R w x → EachVat R x y → EachVat R w y
  each_trans w x y h k v s e = let a = h v s e in let b = k v a.0 a.1 in (b.0, b.1, law.trans v s a.0 b.0 a.2 b.2)

  goes_vats : (w x : World) → Goes w ≡ Goes x → w ≡ x
  goes_vats w x e = cc

  after_gives : (v : ℕ) (s r : Vat Name) (d : Done Name (Unit {0})) → R v s r → After (R v) r d → (a : Unit {0}) (t : Vat Name) → d ≡ Gives a t → R v s t
  after_gives v s r (Gives a t) h k b u e = let i : t ≡ u = cc in law.trans v s r u h (rw i at k)
  after_gives v s r other h k b u e = cc

  -- what a step of vat v makes of the world
  put_back_keeps : (v : ℕ) (w x : World) (head : List Event) (n : ℕ) (s r : Vat Name) (d : Done Name (Unit {0})) → slice_get w.vats v ≡ Some s → R v s r → After (R v) r d → put_back v w head n d ≡ Goes x → EachVat R w x
  unfolding put_back
  put_back_keeps v w x head n s r (Gives a t) e h k i = let same : put_at v t w.vats ≡ x.vats = ap (λ (y : World). y.vats) (goes_vats _ x i) in λ u z f. let here = put_lead R law.same v w.vats s t e (law.trans v s r t h k) u z f in (here.0, rw same at here.1, here.2)
  put_back_keeps v w x head n s r other e h k i = cc

  within_keeps : (v : ℕ) (w x : World) (head : List Event) (n : ℕ) (what : Step Name Name) (s q : Vat Name) → slice_get w.vats v ≡ Some s → R v s q
      → within v w head n (does (names script v) what) (Some q) ≡ Goes x → EachVat R w x
  unfolding within
  within_keeps v w x head n what s q e h i = put_back_keeps v w x head n s (readied w q) (does (names script v) what (readied w q)) e (law.trans v s q (readied w q) h (law.ready v w q)) (law.steps v what (readied w q)) i

  begins_from : (v : ℕ) (s q : Vat Name) → Begins s q → R v s q
  begins_from v s q b = rw b.1 (law.taken v s b.0)

  pub each_kept : IsKeptByRuns script (EachVat R)
  each_kept = record {
    same = each_same;
    trans = each_trans;
    adds = λ w ls es. each_vats w (record w { links = ls; history = w.history ++ es }) refl;
    links = λ w ls. each_vats w (record w { links = ls }) refl;
    vat = λ v w x head n what s q e b i. within_keeps v w x head n what s q e (begins_from v s q b) i;
  }

goes_same : (w x : World) → Goes w ≡ Goes x → w ≡ x
goes_same w x e = cc

module _ (script : Script) (Q : World → World → Type 0) (kept : IsKeptByRuns script Q) where
  moves : (w y x : World) → Q w y → Goes y ≡ Goes x → Q w x
  moves w y x h e = rw (goes_same y x e) at h

  idle_keeps : (k : ℕ) (w x : World) → idle script k w ≡ Goes x → Q w x
  unfolding idle
  idle_keeps k w x e = moves w (record w { history = w.history ++ Idle k ∷ [] }) x (kept.adds w w.links (Idle k ∷ [])) e

  turn_queue_keeps : (k v : ℕ) (w x : World) (s : Vat Name) (ms : List (Message Name)) → slice_get w.vats v ≡ Some s → turn_queue script k v w s ms ≡ Goes x → Q w x
  unfolding turn_queue does
  turn_queue_keeps k v w x s [] e i = idle_keeps k w x i
  turn_queue_keeps k v w x s (m ∷ ms) e i = kept.vat v w x (Turned k v ∷ []) (step_number script k) (Takes (tree_at script.vats v) script.depth m) s (record s { queue = ms }) e (ms, refl) i

  turn_keeps : (k v : ℕ) (w x : World) (o : Option (Vat Name)) → slice_get w.vats v ≡ o → turn script k v w o ≡ Goes x → Q w x
  unfolding turn
  turn_keeps k v w x None e i = idle_keeps k w x i
  turn_keeps k v w x (Some s) e i = turn_queue_keeps k v w x s s.queue e i

  arrives_keeps : (k v to : ℕ) (w x : World) (n : Note Name) (o : Option (Vat Name)) → slice_get w.vats to ≡ o → arrives script k v to w n o ≡ Goes x → Q w x
  unfolding arrives does
  arrives_keeps k v to w x n None e i = idle_keeps k w x i
  arrives_keeps k v to w x n (Some s) e i = kept.vat to w x (Carried k v to n (next_frame v to w.connections) ∷ []) (step_number script k) (Receives v (read_note (names_of s) n)) s s e (s.queue, refl) i

  carry_notes_keeps : (k v to : ℕ) (w x : World) (ns : List (Note Name)) → carry_notes script k v to w ns ≡ Goes x → Q w x
  unfolding carry_notes
  carry_notes_keeps k v to w x [] i = idle_keeps k w x i
  carry_notes_keeps k v to w x (n ∷ ns) i = let y : World = record w { links = with_link (with_notes ns) v to w.links } in kept.trans w y x (kept.links w (with_link (with_notes ns) v to w.links)) (arrives_keeps k v to y x n (slice_get w.vats to) refl i)

  carry_cut_keeps : (k v to : ℕ) (w x : World) (l : Link) (b : Bool) → elim b [ true ↦ idle script k w | false ↦ carry_notes script k v to w l.notes ] ≡ Goes x → Q w x
  carry_cut_keeps k v to w x l true i = idle_keeps k w x i
  carry_cut_keeps k v to w x l false i = carry_notes_keeps k v to w x l.notes i

  carry_link_keeps : (k v to : ℕ) (w x : World) (o : Option Link) → carry_link script k v to w o ≡ Goes x → Q w x
  unfolding carry_link
  carry_link_keeps k v to w x None i = idle_keeps k w x i
  carry_link_keeps k v to w x (Some l) i = carry_cut_keeps k v to w x l l.cut i

  cut_keeps : (k v to : ℕ) (w x : World) → cut script k v to w ≡ Goes x → Q w x
  unfolding cut
  cut_keeps k v to w x e = moves w _ x (kept.adds w (with_link severed_link to v (with_link severed_link v to w.links)) (CutAt k v to ∷ (lost_on script (link_at v to w.links) ++ lost_on script (link_at to v w.links)))) e

  notice_keeps : (k v to : ℕ) (w x : World) (o : Option (Vat Name)) → slice_get w.vats v ≡ o → within v w (NoticedAt k v to ∷ []) (step_number script k) (notice (names script v) to) o ≡ Goes x → Q w x
  unfolding does within
  notice_keeps k v to w x None e i = cc
  notice_keeps k v to w x (Some s) e i = kept.vat v w x (NoticedAt k v to ∷ []) (step_number script k) (Notices to) s s e (s.queue, refl) i

  step_keeps : (entry : Entry) (k : ℕ) (w x : World) → step script entry k w ≡ Goes x → Q w x
  unfolding step
  step_keeps (Turn v) k w x i = turn_keeps k v w x (slice_get w.vats v) refl i
  step_keeps (Carry v to) k w x i = carry_link_keeps k v to w x (link_at v to w.links) i
  step_keeps (CutLink v to) k w x i = cut_keeps k v to w x i
  step_keeps (NoticeLink v to) k w x i = notice_keeps k v to w x (slice_get w.vats v) refl i

  then_keeps : (w x : World) (r : Run) (f : World → Run) → ((y : World) → r ≡ Goes y → Q w y) → ((y : World) → f y ≡ Goes x → Q y x) → then_goes r f ≡ Goes x → Q w x
  unfolding then_goes
  then_keeps w x (Goes y) f h k i = kept.trans w y x (h y refl) (k y i)
  then_keeps w x (Stopped c n y) f h k i = cc

  pub run_keeps : (es : List Entry) (k : ℕ) (w x : World) → steps_from script es k w ≡ Goes x → Q w x
  unfolding steps_from
  run_keeps [] k w x i = moves w w x (kept.same w) i
  run_keeps (e ∷ es) k w x i = then_keeps w x (step script e k w) (steps_from script es (suc k)) (λ y j. step_keeps e k w y j) (λ y j. run_keeps es (suc k) y x j) i

  open_keeps : (v : ℕ) (p : Program) (w x : World) (o : Option (Vat Name)) → slice_get w.vats v ≡ o
      → within v w (Opens v ∷ []) v (opening (names script v) p.tree script.depth (Root v) (given script.vats p.knows)) o ≡ Goes x → Q w x
  unfolding does within
  open_keeps v p w x None e i = cc
  open_keeps v p w x (Some s) e i = kept.vat v w x (Opens v ∷ []) v (Starts p.tree script.depth (Root v) (given script.vats p.knows)) s s e (s.queue, refl) i

  pub opens_keep : (v : ℕ) (ps : List Program) (w x : World) → open_from script v ps w ≡ Goes x → Q w x
  unfolding open_from open_vat
  opens_keep v [] w x i = moves w w x (kept.same w) i
  opens_keep v (p ∷ ps) w x i = then_keeps w x (open_vat script v p w) (open_from script (suc v) ps) (λ y j. open_keeps v p w y (slice_get w.vats v) refl j) (λ y j. opens_keep (suc v) ps y x j) i
