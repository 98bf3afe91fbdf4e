-- What descriptions one after the other name, as a loop notes it, and that this vat gave each.
use Rattle.std.proofs.Common.{◌≡◌, ℕ, zero, suc, option_map, ◌+◌, ◌<◌, ◌≤◌, List, [], ◌∷◌, ◌++◌, length, drop, get_or, slice_get, Option, Some, None, inl, inr, refl, sym, ap, ◌∙◌, arith, append_assoc, append-nil}
use Rattle.std.specs.Prelude.{All}
use Rattle.std.proofs.lemmas.List.{drop_all, drop_more}
use Rattle.ev_base.specs.declared.values.Value.{Value}
use Rattle.ev_base.specs.declared.values.Value.TheVariants.{Prom}
use Rattle.def_op.specs.declared.op.Desc.{Desc}
use Rattle.def_op.specs.Frames.{Described, ListOf, YourExport, YourAnswer, Members, none, more, Outcome, To, Elsewhere, Operation, Deliver, Resolve, Provide, Accept, Shorten, DeliverOnly}
use Rattle.def_op.specs.Views.{described, all_described}
use Rattle.ev_tables.specs.Table.{Table}
use Rattle.ev_judge.specs.Named.{found, named_in, named_all, named_outcome, named, WasGiven}

module _ (t : Table) where
  -- one more is noted
  pub goes_on : (ds : List Desc) (k : ℕ) (d : Desc) (front after total : List Value) → k < length ds → d ≡ get_or ds k d → after ≡ front ++ named_in t (described d)
      → front ++ named_all t (all_described (drop k ds)) ≡ total → after ++ named_all t (all_described (drop (k + 1) ds)) ≡ total
  unfolding named_all
  goes_on ds k d front after total lt at is so_far =
      let step : drop k ds ≡ d ∷ drop (k + 1) ds = drop_more ds k d lt ∙ ap (λ (z : Desc). z ∷ drop (k + 1) ds) (sym at) in
      ap (λ (vs : List Value). vs ++ named_all t (all_described (drop (k + 1) ds))) is
      ∙ append_assoc front (named_in t (described d)) (named_all t (all_described (drop (k + 1) ds)))
      ∙ ap (λ (es : List Desc). front ++ named_all t (all_described es)) (sym step)
      ∙ so_far

  -- none is left
  pub is_done : (ds : List Desc) (k : ℕ) (front total : List Value) → length ds ≤ k → front ++ named_all t (all_described (drop k ds)) ≡ total → front ≡ total
  unfolding named_all
  is_done ds k front total le so_far = sym (append-nil front) ∙ ap (λ (es : List Desc). front ++ named_all t (all_described es)) (sym (drop_all k ds le)) ∙ so_far

-- ---- each was given

abbrev Each : (Value → Type 0) → List Value → Type 0
Each P [] = Unit {0}
Each P (v ∷ vs) = P v × Each P vs

each_of : (P : Value → Type 0) (vs : List Value) → Each P vs → All P vs
each_of P [] h k d lt = absurd (omega (arith, lt))
each_of P (v ∷ vs) h zero d lt = h.0
each_of P (v ∷ vs) h (suc k) d lt = each_of P vs h.1 k d (omega (arith, lt))

each_joined : (P : Value → Type 0) (vs ws : List Value) → Each P vs → Each P ws → Each P (vs ++ ws)
each_joined P [] ws h g = g
each_joined P (v ∷ vs) ws h g = (h.0, each_joined P vs ws h.1 g)

module _ (t : Table) where
  export_given : (n : ℕ) (o : Option Value) → slice_get t.exports n ≡ o → Each (WasGiven t) (found o)
  export_given n (Some v) e = (inl (n, e), tt)
  export_given n None e = tt

  answer_given : (n : ℕ) (o : Option ℕ) → slice_get t.answers n ≡ o → Each (WasGiven t) (found (option_map Prom o))
  answer_given n (Some p) e = (inr (n, p, e, refl), tt)
  answer_given n None e = tt

  mutual
    unfolding named_in

    in_given : (d : Described) → Each (WasGiven t) (named_in t d)
    in_given (YourExport n) = export_given n (slice_get t.exports n) refl
    in_given (YourAnswer n) = answer_given n (slice_get t.answers n) refl
    in_given (ListOf ds) = all_given ds
    in_given d = tt

    all_given : (ds : Members) → Each (WasGiven t) (named_all t ds)
    all_given none = tt
    all_given (more d ds) = each_joined (WasGiven t) (named_in t d) (named_all t ds) (in_given d) (all_given ds)

  outcome_given : (to : Outcome) → Each (WasGiven t) (named_outcome t to)
  unfolding named_outcome
  outcome_given (To d) = in_given d
  outcome_given (Elsewhere host) = tt

  op_given : (op : Operation) → Each (WasGiven t) (named t op)
  unfolding named
  op_given (Deliver q target verb args) = each_joined (WasGiven t) (named_in t target) (named_all t args) (in_given target) (all_given args)
  op_given (Resolve subject to) = each_joined (WasGiven t) (named_in t subject) (named_outcome t to) (in_given subject) (outcome_given to)
  op_given (Provide target s) = in_given target
  op_given (Accept q provider s) = tt
  op_given (Shorten subject s) = in_given subject
  op_given (DeliverOnly target verb args) = each_joined (WasGiven t) (named_in t target) (named_all t args) (in_given target) (all_given args)

  pub were_given : (op : Operation) → All (WasGiven t) (named t op)
  were_given op = each_of (WasGiven t) (named t op) (op_given op)
