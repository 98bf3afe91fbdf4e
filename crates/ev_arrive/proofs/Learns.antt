-- Values that come to be here one after the other, as a loop does it.
use Rattle.std.proofs.Common.{◌≡◌, ℕ, suc, ◌+◌, ◌<◌, ◌≤◌, List, [], ◌∷◌, ◌++◌, Ok, Err, length, drop, get_or, refl, sym, ap, ◌∙◌, subst, append_assoc, append-nil, ◌≢◌, ◌-◌, arith}
use Rattle.std.specs.Prelude.{Result}
use Rattle.std.proofs.lemmas.List.{drop_all, drop_more}
use Rattle.ev_base.specs.declared.values.Value.{Value}
use Rattle.ev_pass.specs.Acts.{Unless, fail}
use Rattle.ev_pass.specs.declared.interior.Stop.{Stop}
use Rattle.ev_pass.specs.declared.interior.Stop.TheVariants.{Fuel, Repeated, Astray, Missing, Memory}
use Rattle.ev_arrive.specs.Acts.{Act, Gives, Out, and_then, ◌>>=◌, give, within}
use Rattle.ev_arrive.specs.Bringing.{Part, Parts, all_parts, part}
use Rattle.ev_arrive.specs.Learning.{learn, learn_each, learn_list, make_list}
use Rattle.ev_arrive.specs.declared.brought.Brought.{Brought}
use Rattle.ev_arrive.specs.declared.host.Host.{Host}

-- what came to be before, and what comes to be still
pub with_front : List Value → Out (List Value) → Out (List Value)
with_front front (Ok vs, h) = (Ok (front ++ vs), h)
with_front front (Err e, h) = (Err e, h)

none_before : (o : Out (List Value)) → with_front [] o ≡ o
unfolding with_front
none_before (Ok vs, h) = refl
none_before (Err e, h) = refl

pub starts : (vs : List Value) (o : Out (List Value)) → vs ≡ [] → with_front vs o ≡ o
starts vs o h = rw h (none_before o)

regroup : (front : List Value) (v : Value) (o : Out (List Value)) → with_front front (and_then o (λ vs. give (v ∷ vs))) ≡ with_front (front ++ v ∷ []) o
unfolding with_front and_then give
regroup front v (Ok vs, h) = ap (λ (ws : List Value). (Ok ws, h)) (sym (append_assoc front (v ∷ []) vs))
regroup front v (Err e, h) = refl

by_stop : (e : Stop) {P Q : Type 0} → (P → Q) → Unless e P → Unless e Q
by_stop Fuel g h = g h
by_stop (Repeated i j) g h = g h
by_stop Astray g h = g h
by_stop Missing g h = g h
by_stop Memory g h = tt

module _ (f : Part → Act Value) where
  first : (bs : List Brought) (i : ℕ) (b : Brought) → i < length bs → b ≡ get_or bs i b → drop i bs ≡ b ∷ drop (i + 1) bs
  first bs i b lt is = drop_more bs i b lt ∙ ap (λ (z : Brought). z ∷ drop (i + 1) bs) (sym is)

  step : (front : List Value) (b : Brought) (bs : List Brought) (s t : Host) (v : Value) → f (part b) s ≡ (Ok v, t)
      → with_front front (learn_each f (all_parts (b ∷ bs)) s) ≡ with_front (front ++ v ∷ []) (learn_each f (all_parts bs) t)
  unfolding learn_each ◌>>=◌ and_then
  step front b bs s t v h = ap (λ (o : Out Value). with_front front (and_then o (λ x. learn_each f (all_parts bs) >>= λ xs. give (x ∷ xs)))) h ∙ regroup front v (learn_each f (all_parts bs) t)

  pub goes_on : (front after : List Value) (bs : List Brought) (i : ℕ) (b : Brought) (s t : Host) (v : Value) (total : Out (List Value)) → i < length bs → b ≡ get_or bs i b → f (part b) s ≡ (Ok v, t) → after ≡ front ++ v ∷ []
      → with_front front (learn_each f (all_parts (drop i bs)) s) ≡ total → with_front after (learn_each f (all_parts (drop (i + 1) bs)) t) ≡ total
  goes_on front after bs i b s t v total lt at h grown so_far =
      ap (λ (vs : List Value). with_front vs (learn_each f (all_parts (drop (i + 1) bs)) t)) grown
      ∙ sym (step front b (drop (i + 1) bs) s t v h)
      ∙ ap (λ (xs : List Brought). with_front front (learn_each f (all_parts xs) s)) (sym (first bs i b lt at))
      ∙ so_far

  ended : (front : List Value) (b : Brought) (bs : List Brought) (s t : Host) (e : Stop) → f (part b) s ≡ (Err e, t) → with_front front (learn_each f (all_parts (b ∷ bs)) s) ≡ (Err e, t)
  unfolding learn_each ◌>>=◌ and_then with_front
  ended front b bs s t e h = ap (λ (o : Out Value). with_front front (and_then o (λ x. learn_each f (all_parts bs) >>= λ xs. give (x ∷ xs)))) h

  pub stops : (front : List Value) (bs : List Brought) (i : ℕ) (b : Brought) (s t : Host) (e : Stop) (total : Out (List Value)) → i < length bs → b ≡ get_or bs i b → Unless e (f (part b) s ≡ (Err e, t))
      → with_front front (learn_each f (all_parts (drop i bs)) s) ≡ total → Unless e (total ≡ (Err e, t))
  stops front bs i b s t e total lt at h so_far = by_stop e (λ g. sym so_far ∙ ap (λ (xs : List Brought). with_front front (learn_each f (all_parts xs) s)) (first bs i b lt at) ∙ ended front b (drop (i + 1) bs) s t e g) h

  pub is_done : (front : List Value) (bs : List Brought) (i : ℕ) (s : Host) (total : Out (List Value)) → length bs ≤ i → with_front front (learn_each f (all_parts (drop i bs)) s) ≡ total → total ≡ (Ok front, s)
  unfolding learn_each give with_front
  is_done front bs i s total le so_far =
      sym so_far ∙ ap (λ (xs : List Brought). with_front front (learn_each f (all_parts xs) s)) (drop_all i bs le) ∙ ap (λ (vs : List Value). (Ok vs, s)) (append-nil front)

-- ---- a list

module _ (d from : ℕ) (s u : Host) (ps : Parts) where
  pub none_deep : d ≡ 0 → learn_list d from ps s ≡ (Err Missing, s)
  unfolding learn_list within fail
  none_deep h = rw h refl

  deeper : (e : ℕ) → d ≡ suc e → learn_list d from ps s ≡ and_then (learn_each (learn e from) ps s) (λ vs. within (make_list vs))
  unfolding learn_list learn ◌>>=◌
  deeper e h = rw h refl

  less : d ≢ 0 → d ≡ suc (d - 1)
  less h = omega arith

  pub all_learnt : (r : Result Value Stop) (t : Host) (vs : List Value) → d ≢ 0 → learn_each (learn (d - 1) from) ps s ≡ (Ok vs, t) → Gives r u (within (make_list vs) t) → Gives r u (learn_list d from ps s)
  unfolding and_then
  all_learnt r t vs more h g = subst (λ (o : Out Value). Gives r u o) (sym (deeper (d - 1) (less more) ∙ ap (λ (o : Out (List Value)). and_then o (λ ws. within (make_list ws))) h)) g

  pub some_stopped : (e : Stop) → d ≢ 0 → Unless e (learn_each (learn (d - 1) from) ps s ≡ (Err e, u)) → Unless e (learn_list d from ps s ≡ (Err e, u))
  unfolding and_then
  some_stopped e more h = by_stop e (λ g. deeper (d - 1) (less more) ∙ ap (λ (o : Out (List Value)). and_then o (λ ws. within (make_list ws))) g) h
