-- Each line of a run stands where the judge of order has its vat.
use Rattle.std.proofs.Common.{◌≡◌, ◌+◌, ℕ, zero, suc, List, [], ◌∷◌, ◌++◌, Option, Some, None, take, refl, sym, ap, ◌∙◌, arith}
use Rattle.std.specs.Prelude.{slice_get}
use Rattle.def_event.specs.declared.event.Event.{Event as ShownEvent}
use Rattle.def_event.specs.declared.event.Event.TheVariants.{Open, Turn, Idle, Carry, Cut, Notice, Raw}
use Rattle.def_event.specs.declared.raw.RawLine.TheVariants.{Inject, InjectCut, Malformed, Bytes, LeftBytes}
use Rattle.def_run.specs.World.{Here, run}
use Rattle.def_run.specs.Text.{shown_events, history_of}
use Rattle.def_event.specs.Order.{vat_behind, vat_after}
use Rattle.def_event.specs.Uses.{Line, place_after, raw_place, place_of, line_after, and_lines}
use Rattle.law_uses.proofs.Uses.Texts.{lines_stand}
use Rattle.law_trace.specs.Told.Told.{LinesAreInPlace}

-- the place of the lines of a vat
abbrev place : Option ℕ → ℕ
place None = 0
place (Some v) = v + 1

behind_same : (here : Option ℕ) (e : ShownEvent) → place_after (place here) e ≡ place (vat_behind here e)
unfolding place_after raw_place
behind_same here (Open v) = refl
behind_same here (Turn k v) = refl
behind_same here (Carry k v w note) = refl
behind_same here (Notice k v w) = refl
behind_same here (Idle k) = refl
behind_same here (Cut k v w) = refl
behind_same here (Raw (Inject k v w bytes)) = refl
behind_same here (Raw (InjectCut k v w)) = refl
behind_same here (Raw (Malformed k v w offset)) = refl
behind_same here (Raw (Bytes k v w bytes)) = refl
behind_same here (Raw (LeftBytes v w bytes)) = refl
behind_same here other = refl

after_same : (here : Option ℕ) (past : List Line) (es : List ShownEvent) → place_of past ≡ place here → place_of (and_lines past es) ≡ place (vat_after here es)
after_same here past [] h = h
after_same here past (e ∷ es) h = after_same (vat_behind here e) (line_after past e ∷ past) es (ap (λ at. place_after at e) h ∙ behind_same here e)

vat_is : (o : Option ℕ) (v : ℕ) → place o ≡ v + 1 → o ≡ Some v
vat_is None v e = absurd (omega arith)
vat_is (Some u) v e = let same : u ≡ v = omega arith in ap Some same

some_is : {A : Type 0} (x y : A) → Some x ≡ Some y → x ≡ y
some_is x y e = cc

-- the lines before a line, and those behind it
pub split_at : {A : Type 0} (es : List A) (i : ℕ) (e : A) → slice_get es i ≡ Some e → (rest : List A) × (es ≡ take i es ++ e ∷ rest)
split_at [] i e q = absurd (cc)
split_at (x ∷ es) zero e q = (es, ap (λ y. y ∷ es) (some_is x e q))
split_at (x ∷ es) (suc i) e q = let r = split_at es i e q in (r.0, ap (λ ys. x ∷ ys) r.1)

pub in_place : LinesAreInPlace
in_place script draws i v e q =
    let es = history_of (run script) in
    let r = split_at es i (Here v e) q in
    let so = shown_events draws (take i es) in
    vat_is (vat_after None so) v (sym (after_same None [] so refl) ∙ lines_stand script draws (take i es) r.0 v e r.1)
