-- Where the places of a line begin.
use Rattle.std.specs.Prelude.{◌≡◌, ◌+◌, ◌-◌, ◌<◌, ◌≤◌, ℕ, List, [], ◌∷◌, ◌++◌, length, map, take, option_map, Option, Some, None, slice_get}
use Rattle.std.proofs.Common.{arith, sym, ◌∙◌, ap, subst, ⊎_elim, suc, zero, append_assoc}
use Rattle.std.proofs.lemmas.List.{length-append, length-map, take_all}
use Rattle.std.proofs.lemmas.Option.{slice_get-map}
use Rattle.std.proofs.lemmas.Bool.{cases_lt}
use Rattle.def_event.specs.declared.event.Event.{Event}
use Rattle.def_event.specs.declared.shown.Shown.{Shown}
use Rattle.def_event.specs.declared.reference.Reference.{Reference}
use Rattle.def_event.specs.Order.{Sending, Carrying, sending, carrying, taking, vat_behind, vat_after, vat_at, DoesAt}
use Rattle.ev_order.specs.Chains.{reference}
use Rattle.ev_order.specs.Walk.{deed_by, line_references, all_references, sent_references, carried_references}
use Rattle.ev_order.specs.Graph.{start}
use Rattle.ev_order.proofs.Lists.{get_front, get_end}
use Rattle.ev_order.proofs.Walking.{carries_alone}

-- ---- lists

get_behind : {A : Type 0} (xs ys : List A) (i : ℕ) → slice_get (xs ++ ys) (length xs + i) ≡ slice_get ys i
get_behind [] ys i = ap (slice_get ys) (let e : 0 + i ≡ i = omega arith in e)
get_behind (x ∷ xs) ys i = ap (slice_get (x ∷ (xs ++ ys))) (let e : suc (length xs) + i ≡ suc (length xs + i) = omega arith in e) ∙ get_behind xs ys i

-- ---- the references of a line among all

-- what stands before a line, what stands in it, and the rest
parts : (here : Option ℕ) (lines : List Event) (i : ℕ) (e : Event) → slice_get lines i ≡ Some e
    → (rest : List (Option Reference)) × (all_references here lines ≡ all_references here (take i lines) ++ (line_references (vat_after here (take i lines)) e ++ rest))
parts here [] zero e at = cc
parts here [] (suc i) e at = cc
parts here (d ∷ ds) zero e at = let is : d ≡ e = cc in (all_references (vat_behind here d) ds, ap (λ (x : Event). line_references here x ++ all_references (vat_behind here d) ds) is)
parts here (d ∷ ds) (suc i) e at =
    let more = parts (vat_behind here d) ds i e at in (
      more.0,
      ap (λ (rs : List (Option Reference)). line_references here d ++ rs) more.1
          ∙ sym (append_assoc (line_references here d) (all_references (vat_behind here d) (take i ds)) (line_references (vat_after (vat_behind here d) (take i ds)) e ++ more.0)),
    )

-- the next line begins behind them
next_start : (here : Option ℕ) (lines : List Event) (i : ℕ) (e : Event) → slice_get lines i ≡ Some e
    → length (all_references here (take (suc i) lines)) ≡ length (all_references here (take i lines)) + length (line_references (vat_after here (take i lines)) e)
next_start here [] zero e at = cc
next_start here [] (suc i) e at = cc
next_start here (d ∷ ds) zero e at =
    let is : d ≡ e = cc in
    length-append (line_references here d) [] ∙ (let k : length (line_references here d) + 0 ≡ 0 + length (line_references here d) = omega arith in k) ∙ ap (λ (x : Event). 0 + length (line_references here x)) is
next_start here (d ∷ ds) (suc i) e at =
    let more = next_start (vat_behind here d) ds i e at in
    length-append (line_references here d) (all_references (vat_behind here d) (take (suc i) ds))
    ∙ (let k : length (line_references here d) + length (all_references (vat_behind here d) (take (suc i) ds)) ≡ length (line_references here d) + length (all_references (vat_behind here d) (take i ds)) + length (line_references (vat_after (vat_behind here d) (take i ds)) e) = omega (arith, more) in k)
    ∙ ap (λ (n : ℕ). n + length (line_references (vat_after (vat_behind here d) (take i ds)) e)) (sym (length-append (line_references here d) (all_references (vat_behind here d) (take i ds))))

-- later lines begin later
grows_by_one : (here : Option ℕ) (lines : List Event) (i : ℕ) → length (all_references here (take i lines)) ≤ length (all_references here (take (suc i) lines))
grows_by_one here [] zero = omega arith
grows_by_one here [] (suc i) = omega arith
grows_by_one here (d ∷ ds) zero = omega arith
grows_by_one here (d ∷ ds) (suc i) =
    omega (arith, grows_by_one (vat_behind here d) ds i, length-append (line_references here d) (all_references (vat_behind here d) (take i ds)), length-append (line_references here d) (all_references (vat_behind here d) (take (suc i) ds)))

grows_by : (lines : List Event) (i n : ℕ) → start lines i ≤ start lines (i + n)
grows_by lines i zero = let e : i ≡ i + 0 = omega arith in subst (λ (k : ℕ). start lines i ≤ start lines k) e (omega arith)
grows_by lines i (suc n) =
    let e : suc (i + n) ≡ i + suc n = omega arith in
    subst (λ (k : ℕ). start lines i ≤ start lines k) e (omega (arith, grows_by lines i n, grows_by_one None lines (i + n)))

pub grows_with : (lines : List Event) (i j : ℕ) → i ≤ j → start lines i ≤ start lines j
grows_with lines i j le = let e : i + (j - i) ≡ j = omega (arith, le) in subst (λ (k : ℕ). start lines i ≤ start lines k) e (grows_by lines i (j - i))

-- ---- a line that sends, and one that carries

sent_line : (here : Option ℕ) (e : Event) (s : Sending) → sending e ≡ Some s → line_references here e ≡ sent_references here s
sent_line here e s is = ap (λ (o : Option Sending). (deed_by here o (carrying e) (taking e)).references) is

carried_line : (here : Option ℕ) (e : Event) (c : Carrying) → carrying e ≡ Some c → line_references here e ≡ carried_references c
carried_line here e c is =
    ap (λ (o : Option Sending). (deed_by here o (carrying e) (taking e)).references) (carries_alone e c is).0
    ∙ ap (λ (o : Option Carrying). (deed_by here None o (taking e)).references) is

-- what stands in a line stands among all
in_line : (lines : List Event) (i : ℕ) (e : Event) (rs : List (Option Reference)) (k : ℕ) (o : Option Reference) → slice_get lines i ≡ Some e → line_references (vat_at lines i) e ≡ rs → slice_get rs k ≡ Some o → slice_get (all_references None lines) (start lines i + k) ≡ Some o
in_line lines i e rs k o at is there =
    let all = parts None lines i e at in
    ap (λ (ls : List (Option Reference)). slice_get ls (start lines i + k)) all.1
    ∙ get_behind (all_references None (take i lines)) (line_references (vat_at lines i) e ++ all.0) k
    ∙ get_front (line_references (vat_at lines i) e) all.0 k o (ap (λ (ls : List (Option Reference)). slice_get ls k) is ∙ there)

mapped_at : (here : Option ℕ) (args : List Shown) (k : ℕ) (x : Shown) → slice_get args k ≡ Some x → slice_get (map (reference here) args) k ≡ Some (reference here x)
mapped_at here args k x at = slice_get-map (reference here) args k ∙ ap (option_map (reference here)) at

pub argument_at : (lines : List Event) (i : ℕ) (s : Sending) (k : ℕ) (x : Shown) → DoesAt sending lines i s → slice_get s.args k ≡ Some x → slice_get (all_references None lines) (start lines i + k) ≡ Some (reference (vat_at lines i) x)
argument_at lines i s k x does at =
    in_line lines i does.0 (sent_references (vat_at lines i) s) k (reference (vat_at lines i) x) does.1 (sent_line (vat_at lines i) does.0 s does.2)
    (get_front (map (reference (vat_at lines i)) s.args) (reference (vat_at lines i) s.target ∷ []) k (reference (vat_at lines i) x) (mapped_at (vat_at lines i) s.args k x at))

pub target_at : (lines : List Event) (i : ℕ) (s : Sending) → DoesAt sending lines i s → slice_get (all_references None lines) (start lines i + length s.args) ≡ Some (reference (vat_at lines i) s.target)
target_at lines i s does =
    in_line lines i does.0 (sent_references (vat_at lines i) s) (length s.args) (reference (vat_at lines i) s.target) does.1 (sent_line (vat_at lines i) does.0 s does.2)
    (ap (slice_get (sent_references (vat_at lines i) s)) (sym (length-map s.args (reference (vat_at lines i)))) ∙ get_end (map (reference (vat_at lines i)) s.args) (reference (vat_at lines i) s.target))

pub carried_argument_at : (lines : List Event) (i : ℕ) (c : Carrying) (k : ℕ) (x : Shown) → DoesAt carrying lines i c → slice_get c.args k ≡ Some x → slice_get (all_references None lines) (start lines i + k) ≡ Some (reference (Some c.reaches) x)
carried_argument_at lines i c k x does at =
    in_line lines i does.0 (carried_references c) k (reference (Some c.reaches) x) does.1 (carried_line (vat_at lines i) does.0 c does.2) (mapped_at (Some c.reaches) c.args k x at)

-- how many places they take
pub sent_room : (lines : List Event) (i : ℕ) (s : Sending) → DoesAt sending lines i s → start lines (i + 1) ≡ start lines i + length s.args + 1
sent_room lines i s does =
    let e : i + 1 ≡ suc i = omega arith in
    ap (start lines) e ∙ next_start None lines i does.0 does.1
    ∙ ap (λ (rs : List (Option Reference)). start lines i + length rs) (sent_line (vat_at lines i) does.0 s does.2)
    ∙ (let k : start lines i + length (sent_references (vat_at lines i) s) ≡ start lines i + length s.args + 1 = omega (arith, length-append (map (reference (vat_at lines i)) s.args) (reference (vat_at lines i) s.target ∷ []), length-map s.args (reference (vat_at lines i))) in k)

pub carried_room : (lines : List Event) (i : ℕ) (c : Carrying) → DoesAt carrying lines i c → start lines (i + 1) ≡ start lines i + length c.args
carried_room lines i c does =
    let e : i + 1 ≡ suc i = omega arith in
    ap (start lines) e ∙ next_start None lines i does.0 does.1
    ∙ ap (λ (rs : List (Option Reference)). start lines i + length rs) (carried_line (vat_at lines i) does.0 c does.2)
    ∙ ap (λ (n : ℕ). start lines i + n) (length-map c.args (reference (Some c.reaches)))

-- all places stand among all
pub start_within : (lines : List Event) (i : ℕ) → start lines i ≤ length (all_references None lines)
start_within lines i = ⊎_elim
    (λ (less : i < length lines). subst (λ (ls : List Event). start lines i ≤ length (all_references None ls)) (take_all (length lines) lines (omega arith)) (grows_with lines i (length lines) (omega (arith, less))))
    (λ (more : length lines ≤ i). let e = ap (λ (ls : List Event). length (all_references None ls)) (take_all i lines more) in omega (arith, e))
    (cases_lt i (length lines))
