-- Values that pass one after the other, as a loop does it.
use Rattle.std.proofs.Common.{◌≡◌, ℕ, suc, ◌+◌, ◌<◌, ◌≤◌, List, [], ◌∷◌, ◌++◌, Bool, false, Ok, Err, length, map, drop, get_or, refl, sym, ap, ◌∙◌, subst, add-one, ◌≢◌, ◌-◌, arith}
use Rattle.std.specs.Prelude.{Result, if◌then◌else◌}
use Rattle.std.proofs.Math.Seq.{drop-cons}
use Rattle.std.proofs.lemmas.List.{drop_all, map_push}
use Rattle.ev_base.specs.declared.values.Value.{Value}
use Rattle.ev_base.specs.declared.values.Value.TheVariants as held
use Rattle.def_machine.specs.State.{is_in}
use Rattle.ev_refs.specs.Follow.{followed, place_of}
use Rattle.ev_refs.specs.Leading.{lists_in, members_at}
use Rattle.ev_refs.specs.declared.follow.Place.{Place}
use Rattle.ev_pass.specs.Acts.{Out, Act, Unless, Gives, Shows, and_then, ◌>>=◌, give, fail}
use Rattle.ev_pass.specs.Notes.{Parcel, Parcels, Plain, Many, NoMore, More, parcels, parcel, all_parcels}
use Rattle.ev_pass.specs.Delivering.{inform, inform_at}
use Rattle.ev_pass.specs.Measuring.{weighed}
use Rattle.ev_pass.specs.Passing.{address_plain, packs, pack, pack_at, pack_end, pack_list, pass, pass_by, wrap}
use Rattle.ev_pass.specs.declared.measure.Weighed.{Weighed}
use Rattle.ev_pass.specs.declared.interior.Interior.{Interior}
use Rattle.ev_pass.specs.declared.interior.Stop.{Stop}
use Rattle.ev_pass.specs.declared.interior.Stop.TheVariants.{Fuel, Repeated, Astray, Missing, Memory}
use Rattle.ev_pass.specs.declared.note.Passed.{Passed}
use Rattle.ev_pass.proofs.Ends.{so}

-- parcels, and others behind them
abbrev join : Parcels → Parcels → Parcels
join NoMore others = others
join (More p ps) others = More p (join ps others)

join-none : (ps : Parcels) → join ps NoMore ≡ ps
join-none NoMore = refl
join-none (More p ps) = ap (More p) (join-none ps)

join-more : (front : Parcels) (p : Parcel) (others : Parcels) → join front (More p others) ≡ join (join front (More p NoMore)) others
join-more NoMore p others = refl
join-more (More q front) p others = ap (More q) (join-more front p others)

parcels-push : (ps : List Parcel) (p : Parcel) → parcels (ps ++ p ∷ []) ≡ join (parcels ps) (More p NoMore)
parcels-push [] p = refl
parcels-push (q ∷ ps) p = ap (More q) (parcels-push ps p)

all-push : (ps : List Passed) (p : Passed) → all_parcels (ps ++ p ∷ []) ≡ join (all_parcels ps) (More (parcel p) NoMore)
all-push ps p = ap parcels (map_push parcel ps p) ∙ parcels-push (map parcel ps) (parcel p)

-- what has passed before, and what passes still
pub with_front : Parcels → Out Parcels → Out Parcels
with_front front (Ok ps, s) = (Ok (join front ps), s)
with_front front (Err e, s) = (Err e, s)

pub none_before : (o : Out Parcels) → with_front NoMore o ≡ o
unfolding with_front
none_before (Ok ps, s) = refl
none_before (Err e, s) = refl

pub starts : (ps : List Passed) (o : Out Parcels) → ps ≡ [] → with_front (all_parcels ps) o ≡ o
starts ps o h = rw h (none_before o)

regroup : (front : Parcels) (p : Parcel) (o : Out Parcels) → with_front front (and_then o (λ ps. give (More p ps))) ≡ with_front (join front (More p NoMore)) o
unfolding with_front and_then give
regroup front p (Ok ps, s) = ap (λ (qs : Parcels). (Ok qs, s)) (join-more front p ps)
regroup front p (Err e, s) = refl

by_stop : (e : Stop) {P Q : Type 0} → (P → Q) → Unless e P → Unless e Q
by_stop Fuel g h = g h
by_stop (Repeated i j) g h = g h
by_stop Astray g h = g h
by_stop Missing g h = g h
by_stop Memory g h = tt

module _ (f : Value → Act Parcel) where
  first : (vs : List Value) (i : ℕ) (v : Value) → i < length vs → v ≡ get_or vs i v → drop i vs ≡ v ∷ drop (i + 1) vs
  first vs i v lt at = rw (add-one) (drop-cons vs i v lt ∙ ap (λ (x : Value). x ∷ drop (suc i) vs) (sym at))

  step : (front : Parcels) (v : Value) (vs : List Value) (s t : Interior) (p : Parcel) → f v s ≡ (Ok p, t) → with_front front (packs f (v ∷ vs) s) ≡ with_front (join front (More p NoMore)) (packs f vs t)
  unfolding packs ◌>>=◌ and_then
  step front v vs s t p h = ap (λ (o : Out Parcel). with_front front (and_then o (λ q. packs f vs >>= λ qs. give (More q qs)))) h ∙ regroup front p (packs f vs t)

  pub goes_on : (front after : List Passed) (vs : List Value) (i : ℕ) (v : Value) (s t : Interior) (p : Passed) (total : Out Parcels) → i < length vs → v ≡ get_or vs i v → f v s ≡ (Ok (parcel p), t) → after ≡ front ++ p ∷ []
      → with_front (all_parcels front) (packs f (drop i vs) s) ≡ total → with_front (all_parcels after) (packs f (drop (i + 1) vs) t) ≡ total
  goes_on front after vs i v s t p total lt at h grown so_far =
      ap (λ (ps : List Passed). with_front (all_parcels ps) (packs f (drop (i + 1) vs) t)) grown
      ∙ ap (λ (ps : Parcels). with_front ps (packs f (drop (i + 1) vs) t)) (all-push front p)
      ∙ sym (step (all_parcels front) v (drop (i + 1) vs) s t (parcel p) h)
      ∙ ap (λ (xs : List Value). with_front (all_parcels front) (packs f xs s)) (sym (first vs i v lt at))
      ∙ so_far

  ended : (front : Parcels) (v : Value) (vs : List Value) (s t : Interior) (e : Stop) → f v s ≡ (Err e, t) → with_front front (packs f (v ∷ vs) s) ≡ (Err e, t)
  unfolding packs ◌>>=◌ and_then with_front
  ended front v vs s t e h = ap (λ (o : Out Parcel). with_front front (and_then o (λ q. packs f vs >>= λ qs. give (More q qs)))) h

  pub stops : (front : List Passed) (vs : List Value) (i : ℕ) (v : Value) (s t : Interior) (e : Stop) (total : Out Parcels) → i < length vs → v ≡ get_or vs i v → Unless e (f v s ≡ (Err e, t))
      → with_front (all_parcels front) (packs f (drop i vs) s) ≡ total → Unless e (total ≡ (Err e, t))
  stops front vs i v s t e total lt at h so_far = by_stop e (λ g. sym so_far ∙ ap (λ (xs : List Value). with_front (all_parcels front) (packs f xs s)) (first vs i v lt at) ∙ ended (all_parcels front) v (drop (i + 1) vs) s t e g) h

  pub is_done : (front : List Passed) (vs : List Value) (i : ℕ) (s : Interior) (total : Out Parcels) → length vs ≤ i → with_front (all_parcels front) (packs f (drop i vs) s) ≡ total → total ≡ (Ok (all_parcels front), s)
  unfolding packs give with_front
  is_done front vs i s total le so_far =
      sym so_far ∙ ap (λ (xs : List Value). with_front (all_parcels front) (packs f xs s)) (drop_all i vs le) ∙ ap (λ (ps : Parcels). (Ok ps, s)) (join-none (all_parcels front))

-- ---- the steps of one passing

module _ (r : Result Passed Stop) (u s : Interior) (d w : ℕ) where
  pub by_end : (v y : Value) → y ≡ followed s.refs v → Shows parcel r u (pack_end d w y s) → Shows parcel r u (pack d w v s)
  unfolding pack pack_end
  by_end v y h g = subst (λ (x : Value). Shows parcel r u (pack_at (λ k. pack_list d w k) w x s)) h g

  pub list_end : (y : Value) (k : ℕ) → y ≡ held.List k → Shows parcel r u (pack_list d w k s) → Shows parcel r u (pack_end d w y s)
  unfolding pack_end pack_at
  list_end y k h g = subst (λ (x : Value). Shows parcel r u (pack_at (λ k. pack_list d w k) w x s)) (sym h) g

  placed : (y : Value) → ((k : ℕ) → y ≡ held.List k → ⊥) → Shows parcel r u (address_plain w y (place_of s.refs y) s) → Shows parcel r u (pack_end d w y s)
  unfolding pack_end pack_at
  placed (held.List k) other g = absurd (other k refl)
  placed held.Null other g = g
  placed (held.Bool b) other g = g
  placed (held.Int z) other g = g
  placed (held.Char c) other g = g
  placed (held.Text id) other g = g
  placed (held.Prim n) other g = g
  placed (held.Obj n) other g = g
  placed (held.Prom n) other g = g
  placed (held.Far h p) other g = g
  placed (held.Broken id) other g = g

  pub plain_end : (y : Value) (p : Place) → ((k : ℕ) → y ≡ held.List k → ⊥) → p ≡ place_of s.refs y → Shows parcel r u (address_plain w y p s) → Shows parcel r u (pack_end d w y s)
  plain_end y p other h g = placed y other (subst (λ (q : Place). Shows parcel r u (address_plain w y q s)) h g)

module _ (d w k : ℕ) (s u : Interior) (members : List Value) where
  pub none_deep : (p : Parcel) → p ≡ Plain (held.Broken s.too_heavy) → d ≡ 0 → pack_list d w k s ≡ (Ok p, s)
  unfolding pack_list give
  none_deep p is h = rw (h, is) refl

  deeper : (e : ℕ) → d ≡ suc e → members ≡ members_at (lists_in s.heap) k → pack_list d w k s ≡ and_then (packs (pack e w) members s) wrap
  unfolding pack_list pack ◌>>=◌
  deeper e h is = rw h (ap (λ (vs : List Value). and_then (packs (λ v t. pack_at (λ j. pack_list e w j) w (followed t.refs v) t) vs s) wrap) (sym is))

  less : d ≢ 0 → d ≡ suc (d - 1)
  less h = omega arith

  pub all_passed : (p : Parcel) (ps : Parcels) → p ≡ Many ps → d ≢ 0 → members ≡ members_at (lists_in s.heap) k → packs (pack (d - 1) w) members s ≡ (Ok ps, u) → pack_list d w k s ≡ (Ok p, u)
  unfolding and_then wrap give
  all_passed p ps it more is h = deeper (d - 1) (less more) is ∙ ap (λ (o : Out Parcels). and_then o wrap) h ∙ ap (λ (q : Parcel). (Ok q, u)) (sym it)

  pub some_stopped : (e : Stop) → d ≢ 0 → members ≡ members_at (lists_in s.heap) k → Unless e (packs (pack (d - 1) w) members s ≡ (Err e, u)) → Unless e (pack_list d w k s ≡ (Err e, u))
  unfolding and_then
  some_stopped e more is h = by_stop e (λ g. deeper (d - 1) (less more) is ∙ ap (λ (o : Out Parcels). and_then o wrap) g) h

pub unweighed : (w : ℕ) (v : Value) (s : Interior) (e : Stop) → Err e ≡ weighed s v → Unless e (pass w v s ≡ (Err e, s))
unfolding pass pass_by fail
unweighed w v s e h = so e _ (ap (λ (r : Result Weighed Stop). pass_by w r s) (sym h))

pub told_on : (p w : ℕ) (b : Bool) (y : Value) (q : Place) (s u : Interior) (r : Result (Unit {0}) Stop) → b ≡ is_in w s.refs.noticed → b ≡ false → y ≡ followed s.refs (held.Prom p) → q ≡ place_of s.refs y
    → Gives r u (inform_at p w y q s) → Gives r u (inform p w s)
unfolding inform
told_on p w b y q s u r hb hf hy hq g =
    let end = followed s.refs (held.Prom p) in
    let e : inform p w s ≡ inform_at p w y q s =
    ap (λ (x : Bool). (if x then give tt else inform_at p w end (place_of s.refs end)) s) (sym hb ∙ hf) ∙ ap (λ (z : Value). inform_at p w z (place_of s.refs z) s) (sym hy) ∙ ap (λ (z : Place). inform_at p w y z s) (sym hq) in
    subst (λ (o : Out (Unit {0})). Gives r u o) (sym e) g
