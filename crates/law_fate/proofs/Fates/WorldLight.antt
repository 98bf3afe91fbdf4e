-- What a message weighs in a world, and how what a world is made of changes that.
use Rattle.std.proofs.Common.{◌≡◌, ℕ, zero, suc, ◌+◌, ◌≤◌, Bool, true, false, List, [], ◌∷◌, ◌++◌, Option, Some, refl, sym, ap, ◌∙◌, ◌⊎◌, inl, inr, arith, subst, map}
use Rattle.std.specs.Prelude.{slice_get, ◌==◌}
use Rattle.std.proofs.lemmas.Bool.{eq-eqb}
use Rattle.def_machine.specs.Values.{Value, Ref, Name, Object, host_of}
use Rattle.def_machine.specs.State.{Passed, Passeds, Plain, AGift, Many, NoMore, More, Note, Deliver, Open, Ask, SettledTo, Elsewhere, Shorten, Put, Happened, Posted, Vat, begun}
use Rattle.def_machine.specs.Arrive.{Old, New}
use Rattle.def_run.specs.World as world
use Rattle.def_run.specs.World.{Script, Program, Link, LostCut, read_note}
use Rattle.law_fate.specs.Fates.Fate.{one, total, among, of_note, in_note}
use Rattle.law_fate.specs.Fates.FateLaws.{coming}
use Rattle.law_fate.specs.Fates.Lasting.{Each}
use Rattle.law_fate.proofs.Fates.RunCounts.{pick, total_append, Apart, ends_of}
use Rattle.law_fate.proofs.Fates.RunWell.{some_same, each_append, fresh_well}
use Rattle.law_fate.proofs.Fates.PlacesLast.{each_end}
use Rattle.law_fate.specs.Fates.Carry.{carried_by, fare, weight, held_at, put_weight, vat_weight, link_weight}
use Rattle.law_fate.specs.Fates.Sound.{KnownSound, NoteSound, Parts, name_in, HostComes, ValueHosts, PassedHosts, AllHosts, NoteArrives}
use Rattle.law_fate.specs.Fates.CarryLaws.{further, note_leaves}

-- a link from one vat to another, with notes that go where they should
abbrev pub LinkSound : Link → Type 0
LinkSound l = Apart l × Each (NoteSound l.from l.to) l.notes

-- ---- notes as they are read

either_name : (n : Name) (h : ℕ) (b : Bool) → name_in (pick b (Old n) (New n h)) ≡ n
either_name n h true = refl
either_name n h false = refl

name_read : (n : Name) (ks : List Name) → name_in (world.read_name ks n) ≡ n
unfolding world.read_name
name_read n ks = either_name n (host_of n) (world.is_old ks n)

either_host : (n : Name) (b : Bool) → HostComes (pick b (Old n) (New n (host_of n)))
either_host n true = tt
either_host n false = refl

host_read : (n : Name) (ks : List Name) → HostComes (world.read_name ks n)
unfolding world.read_name
host_read n ks = either_host n (world.is_old ks n)

value_hosts : (y : Value Name) (ks : List Name) → ValueHosts (world.read_value ks y).read
unfolding world.read_value
value_hosts (Ref n) ks = host_read n ks
value_hosts other ks = tt

mutual
  unfolding world.read_passed world.read_all world.plain_read world.many_read world.more_read

  passed_hosts : (y : Passed Name) (ks : List Name) → PassedHosts (world.read_passed y ks).read
  passed_hosts (Plain y) ks = value_hosts y ks
  passed_hosts (AGift p i) ks = tt
  passed_hosts (Many ys) ks = all_hosts ys ks

  all_hosts : (ys : Passeds Name) (ks : List Name) → AllHosts (world.read_all ys ks).read
  all_hosts NoMore ks = tt
  all_hosts (More y ys) ks = (passed_hosts y ks, all_hosts ys (world.read_passed y ks).known)

pub note_arrives : (ks : List Name) (v w : ℕ) (n : Note Name) → (v ≡ w → ⊥) → NoteSound v w n → NoteArrives w (read_note ks n)
unfolding read_note
note_arrives ks v w (Deliver m n verb ys) a h = let at : List Name = (world.read_all ys ks).known in (ap host_of (name_read n at) ∙ h, host_read n at, all_hosts ys ks)
note_arrives ks v w (Open i n) a h = host_read n ks
note_arrives ks v w (Ask p i n) a h = tt
note_arrives ks v w (SettledTo n y) a h = (host_read n ks, passed_hosts y (world.known_after ks n))
note_arrives ks v w (Elsewhere n c) a h = ((λ e. a (sym h ∙ ap host_of (sym (name_read n ks)) ∙ e)), host_read n ks)
note_arrives ks v w (Shorten n c i) a h = host_read n ks

fare_pays : (n : Name) (c : ℕ) → c + further n c ≤ fare n c
unfolding further fare
fare_pays (Object v i) c = omega arith
fare_pays other c = omega arith

-- a carry and what it leaves are no more than the note weighed
pub note_pays : (x : Name) (ks : List Name) (n : Note Name) → of_note x n + note_leaves x (read_note ks n) ≤ weight x n
unfolding read_note of_note in_note note_leaves weight coming
note_pays x ks (Deliver d n verb ys) = rw (name_read n (world.read_all ys ks).known) (fare_pays n (one d.message x))
note_pays x ks other = omega arith

-- ---- links

pub with_link_sound : (f : Link → Link) (v w : ℕ) → ((l : Link) → l.from ≡ v → l.to ≡ w → LinkSound l → LinkSound (f l)) → (ls : List Link) → Each LinkSound ls → Each LinkSound (world.with_link f v w ls)
unfolding world.with_link
with_link_sound f v w g [] h = tt
with_link_sound f v w g (l ∷ ls) h = either (world.is_link v w l) refl (with_link_sound f v w g ls h.1)
  where
    either : (b : Bool) → world.is_link v w l ≡ b → Each LinkSound (world.with_link f v w ls) → Each LinkSound (pick b (f l ∷ ls) (l ∷ world.with_link f v w ls))
    either true e i = let ends = ends_of v w l e in (g l ends.0 ends.1 h.0, h.1)
    either false e i = (h.0, i)

pushed_sound : (n : Note Name) (l : Link) → NoteSound l.from l.to n → LinkSound l → LinkSound (world.pushed n l)
unfolding world.pushed
pushed_sound n l g h = either l.cut
  where
    either : (b : Bool) → LinkSound (pick b (record l { log = l.log ++ n ∷ [] }) (record l { notes = l.notes ++ n ∷ []; log = l.log ++ n ∷ [] }))
    either true = h
    either false = (h.0, each_end (NoteSound l.from l.to) l.notes n h.1 g)

ends_sound : (n : Note Name) (v w : ℕ) (l : Link) → NoteSound v w n → l.from ≡ v → l.to ≡ w → NoteSound l.from l.to n
ends_sound n v w l g e i = subst (λ a. NoteSound a l.to n) (sym e) (subst (λ a. NoteSound v a n) (sym i) g)

pub push_all_sound : (v : ℕ) (ps : List (Put Name)) (ls : List Link) → Each (λ (p : Put Name). NoteSound v p.to p.note) ps → Each LinkSound ls → Each LinkSound (world.push_all v ps ls)
unfolding world.push_all
push_all_sound v [] ls h i = i
push_all_sound v (p ∷ ps) ls h i = push_all_sound v ps (world.with_link (world.pushed p.note) v p.to ls) h.1
    (with_link_sound (world.pushed p.note) v p.to (λ l e f k. pushed_sound p.note l (ends_sound p.note v p.to l h.0 e f) k) ls i)

pub found_sound_link : (v w : ℕ) (ls : List Link) (k : Link) → world.link_at v w ls ≡ Some k → Each LinkSound ls → LinkSound k × (k.from ≡ v) × (k.to ≡ w)
unfolding world.link_at
found_sound_link v w [] k e h = cc
found_sound_link v w (l ∷ ls) k e h = either (world.is_link v w l) refl e (λ i. found_sound_link v w ls k i h.1)
  where
    either : (b : Bool) → world.is_link v w l ≡ b → pick b (Some l) (world.link_at v w ls) ≡ Some k → (world.link_at v w ls ≡ Some k → LinkSound k × (k.from ≡ v) × (k.to ≡ w)) → LinkSound k × (k.from ≡ v) × (k.to ≡ w)
    either true f i g = let same : l ≡ k = cc in let ends = ends_of v w l f in let here : LinkSound l × (l.from ≡ v) × (l.to ≡ w) = (h.0, ends.0, ends.1) in rw same at here
    either false f i g = g i

-- ---- what links weigh

module _ (x : Name) where
  pushed_weighs : (n : Note Name) (l : Link) → link_weight x (world.pushed n l) ≤ link_weight x l + weight x n
  unfolding world.pushed link_weight total
  pushed_weighs n l = either l.cut
    where
      either : (b : Bool) → total (weight x) (pick b (record l { log = l.log ++ n ∷ [] }) (record l { notes = l.notes ++ n ∷ []; log = l.log ++ n ∷ [] })).notes ≤ total (weight x) l.notes + weight x n
      either true = omega arith
      either false = let more = total_append (weight x) l.notes (n ∷ []) in omega arith

  -- a link that is changed weighs so much more at most
  with_link_weighs : (f : Link → Link) (c : ℕ) → ((l : Link) → link_weight x (f l) ≤ link_weight x l + c) → (v w : ℕ) (ls : List Link) → total (link_weight x) (world.with_link f v w ls) ≤ total (link_weight x) ls + c
  unfolding world.with_link total
  with_link_weighs f c g v w [] = omega arith
  with_link_weighs f c g v w (l ∷ ls) = either (world.is_link v w l) (with_link_weighs f c g v w ls)
    where
      either : (b : Bool) → total (link_weight x) (world.with_link f v w ls) ≤ total (link_weight x) ls + c
          → total (link_weight x) (pick b (f l ∷ ls) (l ∷ world.with_link f v w ls)) ≤ link_weight x l + total (link_weight x) ls + c
      either true i = let here = g l in omega arith
      either false i = omega arith

  pub push_all_weighs : (v : ℕ) (ps : List (Put Name)) (ls : List Link) → total (link_weight x) (world.push_all v ps ls) ≤ total (link_weight x) ls + put_weight x ps
  unfolding world.push_all put_weight
  push_all_weighs v [] ls = omega arith
  push_all_weighs v (p ∷ ps) ls = let rest = push_all_weighs v ps (world.with_link (world.pushed p.note) v p.to ls) in let here = with_link_weighs (world.pushed p.note) (weight x p.note) (pushed_weighs p.note) v p.to ls in omega arith

  severed_weighs : (l : Link) → link_weight x (world.severed_link l) ≤ link_weight x l + 0
  unfolding world.severed_link link_weight total
  severed_weighs l = omega arith

  pub sever_weighs : (v w : ℕ) (ls : List Link) → total (link_weight x) (world.with_link world.severed_link v w ls) ≤ total (link_weight x) ls
  sever_weighs v w ls = let here = with_link_weighs world.severed_link 0 severed_weighs v w ls in omega arith

  -- the first note of a link, taken from it
  pub first_weighs : (v w : ℕ) (ls : List Link) (k : Link) (n : Note Name) (ns : List (Note Name)) → world.link_at v w ls ≡ Some k → k.notes ≡ n ∷ ns
      → total (link_weight x) (world.with_link (world.with_notes ns) v w ls) + weight x n ≡ total (link_weight x) ls
  unfolding world.with_link world.link_at world.with_notes total link_weight
  first_weighs v w [] k n ns e i = cc
  first_weighs v w (l ∷ ls) k n ns e i = either (world.is_link v w l) e (λ j. first_weighs v w ls k n ns j i)
    where
      either : (b : Bool) → pick b (Some l) (world.link_at v w ls) ≡ Some k → (world.link_at v w ls ≡ Some k → total (link_weight x) (world.with_link (world.with_notes ns) v w ls) + weight x n ≡ total (link_weight x) ls)
          → total (link_weight x) (pick b (world.with_notes ns l ∷ ls) (l ∷ world.with_link (world.with_notes ns) v w ls)) + weight x n ≡ total (weight x) l.notes + total (link_weight x) ls
      either true j g = let same : l ≡ k = cc in let all : l.notes ≡ n ∷ ns = ap (λ (l : Link). l.notes) same ∙ i in let sum : total (weight x) l.notes ≡ weight x n + total (weight x) ns = rw all refl in omega arith
      either false j g = let rest = g j in omega arith

  -- ---- lines of a step carry nothing

  none_posted : (m : Name) (b : Bool) → total (carried_by x) (pick b (LostCut m ∷ []) []) ≡ 0
  unfolding total carried_by
  none_posted m true = omega arith
  none_posted m false = refl

  none_here : (ls : List Link) (v : ℕ) (e : Happened Name) → total (carried_by x) (world.event_of ls v e) ≡ 0
  unfolding world.event_of carried_by total
  none_here ls v (Posted w m) = none_posted m (world.is_cut v w ls)
  none_here ls v _ = omega arith

  pub none_carried : (ls : List Link) (v : ℕ) (es : List (Happened Name)) → total (carried_by x) (world.events_of ls v es) ≡ 0
  unfolding world.events_of total
  none_carried ls v [] = refl
  none_carried ls v (e ∷ es) = let here = none_here ls v e in let rest = none_carried ls v es in let a = total_append (carried_by x) (world.event_of ls v e) (world.events_of ls v es) in omega arith

  -- ---- the start

  roots_hold_none : (ws : List ℕ) → held_at x (map world.known_root ws) ≡ 0
  unfolding held_at among world.known_root begun
  roots_hold_none [] = refl
  roots_hold_none (w ∷ ws) = let rest = roots_hold_none ws in omega arith

  pub fresh_weighs : (script : Script) (v : ℕ) (ps : List Program) → total (vat_weight x) (world.fresh_from script v ps) ≡ 0
  unfolding total vat_weight world.fresh_from world.fresh among held_at world.known_root begun
  fresh_weighs script v [] = refl
  fresh_weighs script v (p ∷ ps) = let roots = roots_hold_none p.knows in let rest = fresh_weighs script (suc v) ps in omega arith

  links_to_weigh : (v w : ℕ) (ps : List Program) → total (link_weight x) (world.links_to v w ps) ≡ 0
  unfolding world.links_to total link_weight
  links_to_weigh v w [] = refl
  links_to_weigh v w (p ∷ ps) = either (v == w) (links_to_weigh v (suc w) ps)
    where
      either : (b : Bool) → total (link_weight x) (world.links_to v (suc w) ps) ≡ 0
          → total (link_weight x) (pick b (world.links_to v (suc w) ps) (record { from = v; to = w; cut = false; notes = []; roots = world.roots_for v p; log = [] } ∷ world.links_to v (suc w) ps)) ≡ 0
      either true h = h
      either false h = omega arith

  pub links_from_weigh : (all : List Program) (v : ℕ) (ps : List Program) → total (link_weight x) (world.links_from all v ps) ≡ 0
  unfolding world.links_from total
  links_from_weigh all v [] = refl
  links_from_weigh all v (p ∷ ps) = let here = links_to_weigh v zero all in let rest = links_from_weigh all (suc v) ps in
      let a = total_append (link_weight x) (world.links_to v zero all) (world.links_from all (suc v) ps) in omega arith

unequal : (v w : ℕ) → (v == w) ≡ false → v ≡ w → ⊥
unequal v w e h = let i = eq-eqb v w h in cc

links_to_sound : (v w : ℕ) (ps : List Program) → Each LinkSound (world.links_to v w ps)
unfolding world.links_to
links_to_sound v w [] = tt
links_to_sound v w (p ∷ ps) = either (v == w) refl (links_to_sound v (suc w) ps)
  where
    either : (b : Bool) → (v == w) ≡ b → Each LinkSound (world.links_to v (suc w) ps) → Each LinkSound (pick b (world.links_to v (suc w) ps) (record { from = v; to = w; cut = false; notes = []; roots = world.roots_for v p; log = [] } ∷ world.links_to v (suc w) ps))
    either true e h = h
    either false e h = ((unequal v w e, tt), h)

pub links_from_sound : (all : List Program) (v : ℕ) (ps : List Program) → Each LinkSound (world.links_from all v ps)
unfolding world.links_from
links_from_sound all v [] = tt
links_from_sound all v (p ∷ ps) = each_append LinkSound (world.links_to v zero all) (world.links_from all (suc v) ps) (links_to_sound v zero all) (links_from_sound all (suc v) ps)

-- ---- what each vat is

-- at its place, with no note put
abbrev pub VatSound : ℕ → Vat Name → Type 0
VatSound v s = Parts v s.number s.known s.gifts []

pub put_at_or : (v : ℕ) (y : Vat Name) (xs : List (Vat Name)) (u : ℕ) (t : Vat Name) → slice_get (world.put_at v y xs) u ≡ Some t → ((v ≡ u) × (y ≡ t)) ⊎ (slice_get xs u ≡ Some t)
unfolding world.put_at
put_at_or v y [] u t e = inr e
put_at_or zero y (x ∷ xs) zero t e = let same : y ≡ t = cc in inl (refl, same)
put_at_or zero y (x ∷ xs) (suc u) t e = inr e
put_at_or (suc v) y (x ∷ xs) zero t e = inr e
put_at_or (suc v) y (x ∷ xs) (suc u) t e = further_on (put_at_or v y xs u t e)
  where
    further_on : ((v ≡ u) × (y ≡ t)) ⊎ (slice_get xs u ≡ Some t) → ((suc v ≡ suc u) × (y ≡ t)) ⊎ (slice_get (x ∷ xs) (suc u) ≡ Some t)
    further_on (inl h) = inl (ap suc h.0, h.1)
    further_on (inr h) = inr h

pub put_one : (v u : ℕ) (y t : Vat Name) (o : Option (Vat Name)) → VatSound v y → (o ≡ Some t → VatSound u t) → ((v ≡ u) × (y ≡ t)) ⊎ (o ≡ Some t) → VatSound u t
put_one v u y t o h k (inl e) = subst (λ a. VatSound a t) e.0 (subst (λ (s : Vat Name). VatSound v s) e.1 h)
put_one v u y t o h k (inr e) = k e

all_told : (v : ℕ) (ws : List ℕ) → Each (λ (w : ℕ). v ≡ v) ws
all_told v [] = tt
all_told v (w ∷ ws) = (refl, all_told v ws)

roots_sound : (v : ℕ) (ws : List ℕ) → Each (KnownSound v) (map world.known_root ws)
unfolding world.known_root begun host_of
roots_sound v [] = tt
roots_sound v (w ∷ ws) = (record { host = refl; viewed = tt; told = tt; held = tt }, roots_sound v ws)

first_sound : (script : Script) (v : ℕ) (p : Program) → Each (KnownSound v) (world.fresh script v p).known
unfolding world.fresh world.known_root begun host_of
first_sound script v p = (record { host = refl; viewed = tt; told = all_told v (world.knowers v zero script.vats); held = tt }, roots_sound v p.knows)

first_vat : (script : Script) (v : ℕ) (p : Program) → VatSound v (world.fresh script v p)
unfolding world.fresh world.fresh_from
first_vat script v p = record { same = refl; well = fresh_well script v (p ∷ []) zero (world.fresh script v p) refl; names = first_sound script v p; own = tt; notes = tt }

pub fresh_sound : (script : Script) (d : ℕ) (ps : List Program) (u : ℕ) (s : Vat Name) → slice_get (world.fresh_from script d ps) u ≡ Some s → VatSound (d + u) s
unfolding world.fresh_from
fresh_sound script d [] u s e = cc
fresh_sound script d (p ∷ ps) zero s e = let i : d ≡ d + zero = omega arith in subst (λ a. VatSound a s) i (subst (λ (r : Vat Name). VatSound d r) (some_same (world.fresh script d p) s e) (first_vat script d p))
fresh_sound script d (p ∷ ps) (suc u) s e = let i : suc d + u ≡ d + suc u = omega arith in subst (λ a. VatSound a s) i (fresh_sound script (suc d) ps u s e)
