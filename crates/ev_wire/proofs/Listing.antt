-- Values that are heard one after the other, as a loop does it.
use Rattle.std.proofs.Common.{◌≡◌, ℕ, ◌+◌, ◌<◌, ◌≤◌, List, [], ◌∷◌, ◌++◌, Some, None, Err, length, drop, get_or, refl, sym, ap, ◌∙◌}
use Rattle.std.proofs.lemmas.List.{drop_all, drop_more}
use Rattle.def_op.specs.declared.op.Desc.{Desc}
use Rattle.def_op.specs.Views.{all_described, described}
use Rattle.ev_pass.specs.declared.interior.Interior.{Interior}
use Rattle.ev_arrive.specs.Bringing.{Part, Parts, NoMore, More, all_parts, part}
use Rattle.ev_arrive.specs.declared.brought.Brought.{Brought}
use Rattle.ev_tables.specs.Table.{Table}
use Rattle.ev_wire.specs.Hearing.{Out, Shows, and_then, ◌>>=◌, give, part_heard, parts_heard}
use Rattle.ev_wire.specs.Learnt.{LearntGifts}
use Rattle.ev_wire.specs.declared.fault.HearFault.{HearFault}
use Rattle.ev_wire.specs.declared.fault.HearFault.TheVariants.{Malformed, Memory}
use Rattle.ev_wire.specs.declared.news.News.{News}

abbrev pub join : Parts → Parts → Parts
join NoMore others = others
join (More p ps) others = More p (join ps others)

join_none : (ps : Parts) → join ps NoMore ≡ ps
join_none NoMore = refl
join_none (More p ps) = ap (More p) (join_none ps)

join_more : (front : Parts) (p : Part) (others : Parts) → join front (More p others) ≡ join (join front (More p NoMore)) others
join_more NoMore p others = refl
join_more (More q front) p others = ap (More q) (join_more front p others)

parts_push : (bs : List Brought) (b : Brought) → all_parts (bs ++ b ∷ []) ≡ join (all_parts bs) (More (part b) NoMore)
parts_push [] b = refl
parts_push (c ∷ bs) b = ap (More (part c)) (parts_push bs b)

-- what was heard before, and what is heard still
abbrev pub with_front : Parts → Out Parts → Out Parts
with_front front (Some x) = Some (join front x.0, x.1)
with_front front None = None

none_before : (o : Out Parts) → with_front NoMore o ≡ o
none_before (Some x) = refl
none_before None = refl

pub starts : (bs : List Brought) (o : Out Parts) → bs ≡ [] → with_front (all_parts bs) o ≡ o
starts bs o h = ap (λ (cs : List Brought). with_front (all_parts cs) o) h ∙ none_before o

regroup : (front : Parts) (p : Part) (o : Out Parts) → with_front front (and_then o (λ ps. give (More p ps))) ≡ with_front (join front (More p NoMore)) o
unfolding and_then give
regroup front p (Some x) = ap (λ (ps : Parts). Some (ps, x.1)) (join_more front p x.0)
regroup front p None = refl

first : (ds : List Desc) (k : ℕ) (d : Desc) → k < length ds → d ≡ get_or ds k d → drop k ds ≡ d ∷ drop (k + 1) ds
first ds k d lt is = drop_more ds k d lt ∙ ap (λ (z : Desc). z ∷ drop (k + 1) ds) (sym is)

module _ (i : Interior) (t : Table) (l : LearntGifts) where
  step : (front : Parts) (d : Desc) (ds : List Desc) (s u : News) (p : Part) → part_heard i t l (described d) s ≡ Some (p, u)
      → with_front front (parts_heard i t l (all_described (d ∷ ds)) s) ≡ with_front (join front (More p NoMore)) (parts_heard i t l (all_described ds) u)
  unfolding parts_heard ◌>>=◌ and_then
  step front d ds s u p h = ap (λ (o : Out Part). with_front front (and_then o (λ x. parts_heard i t l (all_described ds) >>= λ xs. give (More x xs)))) h ∙ regroup front p (parts_heard i t l (all_described ds) u)

  pub goes_on : (front after : List Brought) (ds : List Desc) (k : ℕ) (d : Desc) (s u : News) (b : Brought) (total : Out Parts) → k < length ds → d ≡ get_or ds k d → part_heard i t l (described d) s ≡ Some (part b, u) → after ≡ front ++ b ∷ []
      → with_front (all_parts front) (parts_heard i t l (all_described (drop k ds)) s) ≡ total → with_front (all_parts after) (parts_heard i t l (all_described (drop (k + 1) ds)) u) ≡ total
  goes_on front after ds k d s u b total lt at h grown so_far =
      ap (λ (bs : List Brought). with_front (all_parts bs) (parts_heard i t l (all_described (drop (k + 1) ds)) u)) grown
      ∙ ap (λ (ps : Parts). with_front ps (parts_heard i t l (all_described (drop (k + 1) ds)) u)) (parts_push front b)
      ∙ sym (step (all_parts front) d (drop (k + 1) ds) s u (part b) h)
      ∙ ap (λ (es : List Desc). with_front (all_parts front) (parts_heard i t l (all_described es) s)) (sym (first ds k d lt at))
      ∙ so_far

  ended : (front : Parts) (d : Desc) (ds : List Desc) (s : News) → part_heard i t l (described d) s ≡ None → with_front front (parts_heard i t l (all_described (d ∷ ds)) s) ≡ None
  unfolding parts_heard ◌>>=◌ and_then
  ended front d ds s h = ap (λ (o : Out Part). with_front front (and_then o (λ x. parts_heard i t l (all_described ds) >>= λ xs. give (More x xs)))) h

  pub stops : (front : List Brought) (ds : List Desc) (k : ℕ) (d : Desc) (s u : News) (e : HearFault) (total : Out Parts) → k < length ds → d ≡ get_or ds k d → Shows part (Err e) u (part_heard i t l (described d) s)
      → with_front (all_parts front) (parts_heard i t l (all_described (drop k ds)) s) ≡ total → Shows (λ (bs : List Brought). all_parts bs) (Err e) u total
  stops front ds k d s u Malformed total lt at h so_far =
      sym so_far ∙ ap (λ (es : List Desc). with_front (all_parts front) (parts_heard i t l (all_described es) s)) (first ds k d lt at) ∙ ended (all_parts front) d (drop (k + 1) ds) s h
  stops front ds k d s u Memory total lt at h so_far = tt

  pub is_done : (front : List Brought) (ds : List Desc) (k : ℕ) (s : News) (total : Out Parts) → length ds ≤ k → with_front (all_parts front) (parts_heard i t l (all_described (drop k ds)) s) ≡ total → total ≡ Some (all_parts front, s)
  unfolding parts_heard give
  is_done front ds k s total le so_far =
      sym so_far ∙ ap (λ (es : List Desc). with_front (all_parts front) (parts_heard i t l (all_described es) s)) (drop_all k ds le) ∙ ap (λ (ps : Parts). Some (ps, s)) (join_none (all_parts front))
