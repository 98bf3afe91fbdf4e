-- From each vat of a run to each other there is a link, and a note that is put on one that is not cut is on it.
use Rattle.std.proofs.Common.{◌≡◌, ℕ, zero, suc, ◌+◌, ◌≤◌, ◌<◌, Bool, true, false, List, [], ◌∷◌, ◌++◌, Option, Some, None, refl, sym, ap, ◌∙◌, inl, inr, length, subst, arith, eqb-true}
use Rattle.std.specs.Prelude.{◌==◌}
use Rattle.std.proofs.lemmas.Bool.{eq-eqb}
use Rattle.def_machine.specs.Values.{Name}
use Rattle.def_machine.specs.State.{Note, Deliver, Open, Ask, SettledTo, Elsewhere, Shorten, Put}
use Rattle.def_run.specs.World as world
use Rattle.def_run.specs.World.{Program, Link}
use Rattle.law_fate.specs.Name.Names.{AllOf, IsAmong}
use Rattle.law_fate.specs.Fates.Fate.{total, of_note, in_note, on_link, put_out, where_cut}
use Rattle.law_fate.proofs.Fates.RunCounts.{pick, total_append, with_link_changes, with_link_absent, push_cut, pushed_link}
use Rattle.law_fate.specs.Fates.WholeFateRuns.{GoesToVat}

-- there is a link from a to b
abbrev pub HasLink : ℕ → ℕ → List Link → Type 0
HasLink a b ls = (l : Link) × (world.link_at a b ls ≡ Some l)

-- between so many vats
abbrev pub AllLinked : ℕ → List Link → Type 0
AllLinked count ls = (a b : ℕ) → a < count → b < count → (a ≡ b → ⊥) → HasLink a b ls

link_either : (o : Option Link) (l : Link) (b : Bool) → ((k : Link) × (o ≡ Some k)) → (k : Link) × (pick b (Some l) o ≡ Some k)
link_either o l true h = (l, refl)
link_either o l false h = h

linked_more : (a b : ℕ) (l : Link) (ls : List Link) → HasLink a b ls → HasLink a b (l ∷ ls)
unfolding world.link_at
linked_more a b l ls h = link_either (world.link_at a b ls) l (world.is_link a b l) h

-- ---- what leaves the ends of links as they are

module _ (f : Link → Link) (ends : (a b : ℕ) (l : Link) → world.is_link a b (f l) ≡ world.is_link a b l) where
  first_or : (a b : ℕ) (k l : Link) (ls : List Link) (o : Option Link) (c d : Bool) → c ≡ d → pick d (Some l) (world.link_at a b ls) ≡ o → ((j : Link) × (o ≡ Some j)) → (j : Link) × (pick c (Some k) (world.link_at a b ls) ≡ Some j)
  first_or a b k l ls o true d e i h = (k, refl)
  first_or a b k l ls o false true e i h = cc
  first_or a b k l ls o false false e i h = (h.0, i ∙ h.1)

  later_or : (a b : ℕ) (l : Link) (ls ms : List Link) (d : Bool) → (j : Link) × (pick d (Some l) (world.link_at a b ls) ≡ Some j) → (HasLink a b ls → HasLink a b ms) → (j : Link) × (pick d (Some l) (world.link_at a b ms) ≡ Some j)
  later_or a b l ls ms true h g = (l, refl)
  later_or a b l ls ms false h g = g h

  changed_or : (a b : ℕ) (l : Link) (ls ms : List Link) (c : Bool) → HasLink a b (l ∷ ls) → (HasLink a b ls → HasLink a b ms) → HasLink a b (pick c (f l ∷ ls) (l ∷ ms))
  unfolding world.link_at
  changed_or a b l ls ms true h g = first_or a b (f l) l ls (world.link_at a b (l ∷ ls)) (world.is_link a b (f l)) (world.is_link a b l) (ends a b l) refl h
  changed_or a b l ls ms false h g = later_or a b l ls ms (world.is_link a b l) h g

  pub linked_changed : (a b v w : ℕ) (ls : List Link) → HasLink a b ls → HasLink a b (world.with_link f v w ls)
  unfolding world.with_link
  linked_changed a b v w [] h = h
  linked_changed a b v w (l ∷ ls) h = changed_or a b l ls (world.with_link f v w ls) (world.is_link v w l) h (linked_changed a b v w ls)

pub linked_pushed : (a b v : ℕ) (ps : List (Put Name)) (ls : List Link) → HasLink a b ls → HasLink a b (world.push_all v ps ls)
unfolding world.push_all
linked_pushed a b v [] ls h = h
linked_pushed a b v (p ∷ ps) ls h = linked_pushed a b v ps (world.with_link (world.pushed p.note) v p.to ls) (linked_changed (world.pushed p.note) (pushed_link p.note) a b v p.to ls h)

-- ---- notes put on links

pushed_exact : (x : Name) (n : Note Name) (l : Link) → on_link x (world.pushed n l) ≡ on_link x l + where_cut l.cut 0 (of_note x n)
unfolding world.pushed on_link where_cut total
pushed_exact x n l = either l.cut
  where
    either : (b : Bool) → total (of_note x) (pick b (record l { log = l.log ++ n ∷ [] }) (record l { notes = l.notes ++ n ∷ []; log = l.log ++ n ∷ [] })).notes ≡ total (of_note x) l.notes + where_cut b 0 (of_note x n)
    either true = omega arith
    either false = let more = total_append (of_note x) l.notes (n ∷ []) in omega arith

cut_of : (v w : ℕ) (ls : List Link) (l : Link) → world.link_at v w ls ≡ Some l → world.is_cut v w ls ≡ l.cut
unfolding world.is_cut world.cut_in
cut_of v w ls l e = ap world.cut_in e

put_there : (x : Name) (v w : ℕ) (n : Note Name) (ls : List Link) (l : Link) → world.link_at v w ls ≡ Some l → total (on_link x) ls + where_cut (world.is_cut v w ls) 0 (of_note x n) ≤ total (on_link x) (world.with_link (world.pushed n) v w ls)
put_there x v w n ls l e = let a = with_link_changes x (world.pushed n) v w ls l e in let b = pushed_exact x n l in let c = ap (λ k. where_cut k 0 (of_note x n)) (cut_of v w ls l e) in omega arith

where_none : (b : Bool) (n : ℕ) → n ≡ 0 → where_cut b 0 n ≡ 0
unfolding where_cut
where_none true n e = refl
where_none false n e = e

put_other : (x : Name) (v w : ℕ) (n : Note Name) (ls : List Link) (o : Option Link) → world.link_at v w ls ≡ o → of_note x n ≡ 0 → total (on_link x) ls + where_cut (world.is_cut v w ls) 0 (of_note x n) ≤ total (on_link x) (world.with_link (world.pushed n) v w ls)
put_other x v w n ls (Some l) e z = put_there x v w n ls l e
put_other x v w n ls None e z = let a = ap (total (on_link x)) (with_link_absent (world.pushed n) v w ls e) in let b = where_none (world.is_cut v w ls) (of_note x n) z in omega arith

put_finds : (x : Name) (count v w : ℕ) (n : Note Name) (ls : List Link) → AllLinked count ls → v < count → GoesToVat count v w n → total (on_link x) ls + where_cut (world.is_cut v w ls) 0 (of_note x n) ≤ total (on_link x) (world.with_link (world.pushed n) v w ls)
unfolding of_note in_note
put_finds x count v w (Deliver m n verb ys) ls h l g = let k = h v w l g.0 g.1 in put_there x v w (Deliver m n verb ys) ls k.0 k.1
put_finds x count v w (Open i n) ls h l g = put_other x v w (Open i n) ls (world.link_at v w ls) refl refl
put_finds x count v w (Ask p i n) ls h l g = put_other x v w (Ask p i n) ls (world.link_at v w ls) refl refl
put_finds x count v w (SettledTo n y) ls h l g = put_other x v w (SettledTo n y) ls (world.link_at v w ls) refl refl
put_finds x count v w (Elsewhere n c) ls h l g = put_other x v w (Elsewhere n c) ls (world.link_at v w ls) refl refl
put_finds x count v w (Shorten n c i) ls h l g = put_other x v w (Shorten n c i) ls (world.link_at v w ls) refl refl

-- the notes that a vat puts on links that are not cut are there
pub push_all_finds : (x : Name) (count v : ℕ) (ps : List (Put Name)) (ls : List Link) (cut : ℕ → Bool) → ((w : ℕ) → world.is_cut v w ls ≡ cut w) → AllLinked count ls → v < count → AllOf (λ (p : Put Name). GoesToVat count v p.to p.note) ps
    → total (on_link x) ls + put_out cut x ps ≤ total (on_link x) (world.push_all v ps ls)
unfolding world.push_all put_out
push_all_finds x count v [] ls cut e h l g = omega arith
push_all_finds x count v (p ∷ ps) ls cut e h l g =
    let rest = push_all_finds x count v ps (world.with_link (world.pushed p.note) v p.to ls) cut (λ w. push_cut v p.to v w p.note ls ∙ e w) (λ a b i j k. linked_changed (world.pushed p.note) (pushed_link p.note) a b v p.to ls (h a b i j k)) l g.1 in
    let here = rw (e p.to) at (put_finds x count v p.to p.note ls h l g.0) in omega arith

-- ---- the links of the start

linked_front : (a b : ℕ) (ls ms : List Link) → HasLink a b ls → HasLink a b (ls ++ ms)
unfolding world.link_at
linked_front a b [] ms h = cc
linked_front a b (l ∷ ls) ms h = either (world.is_link a b l) h (linked_front a b ls ms)
  where
    either : (c : Bool) → (j : Link) × (pick c (Some l) (world.link_at a b ls) ≡ Some j) → (HasLink a b ls → HasLink a b (ls ++ ms)) → (j : Link) × (pick c (Some l) (world.link_at a b (ls ++ ms)) ≡ Some j)
    either true i g = (l, refl)
    either false i g = g i

linked_behind : (a b : ℕ) (ls ms : List Link) → HasLink a b ms → HasLink a b (ls ++ ms)
linked_behind a b [] ms h = h
linked_behind a b (l ∷ ls) ms h = linked_more a b l (ls ++ ms) (linked_behind a b ls ms h)

link_to : (v w : ℕ) (p : Program) → Link
link_to v w p = record { from = v; to = w; cut = false; notes = []; roots = world.roots_for v p; log = [] }

is_that : (v w : ℕ) (p : Program) → world.is_link v w (link_to v w p) ≡ true
unfolding world.is_link link_to
is_that v w p = both (v == v) (w == w) (eq-eqb v v refl) (eq-eqb w w refl)
  where
    both : (b c : Bool) → b ≡ true → c ≡ true → pick b c false ≡ true
    both true c e f = f
    both false c e f = cc

at_first : (v w : ℕ) (p : Program) (ls : List Link) → HasLink v w (link_to v w p ∷ ls)
unfolding world.link_at
at_first v w p ls = either (world.is_link v w (link_to v w p)) (is_that v w p)
  where
    either : (b : Bool) → b ≡ true → (j : Link) × (pick b (Some (link_to v w p)) (world.link_at v w ls) ≡ Some j)
    either true e = (link_to v w p, refl)
    either false e = cc

here_or : (v w : ℕ) (p : Program) (ls : List Link) (b : Bool) → (v == w) ≡ b → (v ≡ w → ⊥) → HasLink v w (pick b ls (link_to v w p ∷ ls))
here_or v w p ls true e f = absurd (f (eqb-true v w e))
here_or v w p ls false e f = at_first v w p ls

there_or : (v w b : ℕ) (p : Program) (ls : List Link) (c : Bool) → HasLink v b ls → HasLink v b (pick c ls (link_to v w p ∷ ls))
there_or v w b p ls true h = h
there_or v w b p ls false h = linked_more v b (link_to v w p) ls h

links_to_each : (v w i : ℕ) (ps : List Program) → i < length ps → (v ≡ w + i → ⊥) → HasLink v (w + i) (world.links_to v w ps)
unfolding world.links_to link_to
links_to_each v w i [] l f = absurd (omega arith)
links_to_each v w zero (p ∷ ps) l f = let e : w + zero ≡ w = omega arith in subst (λ b. HasLink v b (world.links_to v w (p ∷ ps))) (sym e) (here_or v w p (world.links_to v (suc w) ps) (v == w) refl (λ g. f (g ∙ sym e)))
links_to_each v w (suc i) (p ∷ ps) l f = let e : w + suc i ≡ suc w + i = omega arith in subst (λ b. HasLink v b (world.links_to v w (p ∷ ps))) (sym e) (there_or v w (suc w + i) p (world.links_to v (suc w) ps) (v == w) (links_to_each v (suc w) i ps (omega arith) (λ g. f (g ∙ sym e))))

links_from_each : (all : List Program) (v i b : ℕ) (ps : List Program) → i < length ps → b < length all → (v + i ≡ b → ⊥) → HasLink (v + i) b (world.links_from all v ps)
unfolding world.links_from
links_from_each all v i b [] l k f = absurd (omega arith)
links_from_each all v zero b (p ∷ ps) l k f = let e : v + zero ≡ v = omega arith in let g : zero + b ≡ b = omega arith in
    let here : HasLink v b (world.links_to v zero all) = subst (λ c. HasLink v c (world.links_to v zero all)) g (links_to_each v zero b all k (λ j. f (e ∙ (j ∙ g)))) in
    subst (λ a. HasLink a b (world.links_from all v (p ∷ ps))) (sym e) (linked_front v b (world.links_to v zero all) (world.links_from all (suc v) ps) here)
links_from_each all v (suc i) b (p ∷ ps) l k f = let e : v + suc i ≡ suc v + i = omega arith in
    subst (λ a. HasLink a b (world.links_from all v (p ∷ ps))) (sym e) (linked_behind (suc v + i) b (world.links_to v zero all) (world.links_from all (suc v) ps) (links_from_each all (suc v) i b ps (omega arith) k (λ j. f (e ∙ j))))

pub begin_linked : (all : List Program) → AllLinked (length all) (world.links_from all zero all)
begin_linked all a b i j f = let e : zero + a ≡ a = omega arith in subst (λ c. HasLink c b (world.links_from all zero all)) e (links_from_each all zero a b all i j (λ k. f (sym e ∙ k)))

-- ---- each link leads to a vat of the run

abbrev pub AllLead : ℕ → List Link → Type 0
AllLead count ls = AllOf (λ (l : Link). l.to < count) ls

pub lead_changed : (count : ℕ) (f : Link → Link) → ((l : Link) → (f l).to ≡ l.to) → (v w : ℕ) (ls : List Link) → AllLead count ls → AllLead count (world.with_link f v w ls)
unfolding world.with_link
lead_changed count f g v w [] h = tt
lead_changed count f g v w (l ∷ ls) h = either (world.is_link v w l) (lead_changed count f g v w ls h.1)
  where
    either : (b : Bool) → AllLead count (world.with_link f v w ls) → AllLead count (pick b (f l ∷ ls) (l ∷ world.with_link f v w ls))
    either true i = (rw (sym (g l)) at h.0, h.1)
    either false i = (h.0, i)

pushed_to : (n : Note Name) (l : Link) → (world.pushed n l).to ≡ l.to
unfolding world.pushed
pushed_to n l = either l.cut
  where
    either : (b : Bool) → (pick b (record l { log = l.log ++ n ∷ [] }) (record l { notes = l.notes ++ n ∷ []; log = l.log ++ n ∷ [] })).to ≡ l.to
    either true = refl
    either false = refl

pub lead_pushed : (count v : ℕ) (ps : List (Put Name)) (ls : List Link) → AllLead count ls → AllLead count (world.push_all v ps ls)
unfolding world.push_all
lead_pushed count v [] ls h = h
lead_pushed count v (p ∷ ps) ls h = lead_pushed count v ps (world.with_link (world.pushed p.note) v p.to ls) (lead_changed count (world.pushed p.note) (pushed_to p.note) v p.to ls h)

leads_where : (count v w : ℕ) (l k : Link) (b : Bool) → world.is_link v w l ≡ b → b ≡ true → l ≡ k → l.to < count → w < count
unfolding world.is_link
leads_where count v w l k b e t i h = ends (l.from == v) (e ∙ t)
  where
    ends : (c : Bool) → pick c (l.to == w) false ≡ true → w < count
    ends true f = let g : l.to ≡ w = eqb-true l.to w f in rw g at h
    ends false f = cc

-- the link that is found from v to w leads to w, and is one of them
pub found_link : (count v w : ℕ) (ls : List Link) (k : Link) → world.link_at v w ls ≡ Some k → AllLead count ls → (w < count) × IsAmong k ls
unfolding world.link_at
found_link count v w [] k e h = cc
found_link count v w (l ∷ ls) k e h = either (world.is_link v w l) refl e (λ i. found_link count v w ls k i h.1)
  where
    either : (b : Bool) → world.is_link v w l ≡ b → pick b (Some l) (world.link_at v w ls) ≡ Some k → (world.link_at v w ls ≡ Some k → (w < count) × IsAmong k ls) → (w < count) × IsAmong k (l ∷ ls)
    either true i j g = let same : l ≡ k = cc in (leads_where count v w l k true i refl same h.0, inl (sym same))
    either false i j g = let r = g j in (r.0, inr r.1)

to_lead : (count v w : ℕ) (ps : List Program) → w + length ps ≤ count → AllLead count (world.links_to v w ps)
unfolding world.links_to
to_lead count v w [] h = tt
to_lead count v w (p ∷ ps) h = either (v == w) (to_lead count v (suc w) ps (omega arith))
  where
    either : (b : Bool) → AllLead count (world.links_to v (suc w) ps) → AllLead count (pick b (world.links_to v (suc w) ps) (record { from = v; to = w; cut = false; notes = []; roots = world.roots_for v p; log = [] } ∷ world.links_to v (suc w) ps))
    either true i = i
    either false i = ((let j : w + length (p ∷ ps) ≤ count = h in omega arith), i)

lead_append : (count : ℕ) (ls ms : List Link) → AllLead count ls → AllLead count ms → AllLead count (ls ++ ms)
lead_append count [] ms h k = k
lead_append count (l ∷ ls) ms h k = (h.0, lead_append count ls ms h.1 k)

from_lead : (all : List Program) (v : ℕ) (ps : List Program) → AllLead (length all) (world.links_from all v ps)
unfolding world.links_from
from_lead all v [] = tt
from_lead all v (p ∷ ps) = lead_append (length all) (world.links_to v zero all) (world.links_from all (suc v) ps) (to_lead (length all) v zero all (omega arith)) (from_lead all (suc v) ps)

pub begin_lead : (all : List Program) → AllLead (length all) (world.links_from all zero all)
begin_lead all = from_lead all zero all
