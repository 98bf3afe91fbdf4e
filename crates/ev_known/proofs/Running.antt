-- The table of runs has the object whose code each activation runs.
use Rattle.std.proofs.Common.{◌≡◌, ℕ, Bool, true, false, cond, List, [], ◌∷◌, ◌++◌, Option, Some, None, refl, sym, ap, subst, ◌∙◌, inl, inr}
use Rattle.ev_base.specs.declared.names.Name.{Name}
use Rattle.def_event.specs.declared.event.Called.{Called}
use Rattle.def_event.specs.declared.event.Event.{Event}
use Rattle.def_event.specs.declared.event.Event.TheVariants.{Take, Call}
use Rattle.def_event.specs.Uses as uses
use Rattle.def_event.specs.Uses.{AName, Line, IsAmong, IsTold, IsFollowed, Anew, Running, begins, begun, begun_call, runs, running_call}
use Rattle.ev_known.specs.declared.facts.Activation.{Activation}
use Rattle.ev_links.specs.declared.label.Label.{Label}
use Rattle.ev_known.specs.contracts.facts.ActivationPartialEq.TheImpl.{eq-value}
use Rattle.ev_links.specs.Label.{label}
use Rattle.ev_known.specs.Telling.{activation, is_told, key, StandsFor}
use Rattle.ev_known.specs.declared.facts.Fact.{Fact}
use Rattle.ev_known.specs.declared.facts.Fact.TheVariants as fact
use Rattle.ev_known.specs.Runs.{runner, RunsPut, RunsAs, RunsStand, RunAfter, RunTarget, RunTold}
use Rattle.ev_known.proofs.Keys.{exact_activation}
use Rattle.ev_known.proofs.Told.{told_among, among_is_told}

-- ---- an activation that runs has begun

activation_same : (a b : uses.Activation) → activation a ≡ activation b → a ≡ b
activation_same a b e = ap (λ (x : Activation). record { at = x.at; number = x.number }) e

called_mark : (at : ℕ) (c : Called) (o : Option ℕ) (r : Running) → running_call c o ≡ Some r → (n : Anew) × (begun_call at c o ≡ Some n) × (n.mark ≡ uses.Begun (record { at = at; number = r.activation }))
called_mark at c None r e = absurd cc
called_mark at c (Some b) r e = (
  record { mark = uses.Begun (record { at = at; number = b }); facts = uses.given at b (uses.things c.args) },
  refl,
  ap (λ (n : ℕ). uses.Begun (record { at = at; number = n })) (number_of e),
)
  where
    activation_in : ℕ → Option Running → ℕ
    activation_in d None = d
    activation_in d (Some x) = x.activation

    number_of : running_call c (Some b) ≡ Some r → b ≡ r.activation
    number_of f = ap (activation_in b) f

run_begins : (at : ℕ) (e : Event) (r : Running) → runs e ≡ Some r → (n : Anew) × (begins at e ≡ Some n) × (n.mark ≡ uses.Begun (record { at = at; number = r.activation }))
unfolding runs begins
run_begins at (Take t) r e = (
  record { mark = uses.Begun (record { at = at; number = t.activation }); facts = uses.given at t.activation (uses.lists_of t.target ++ uses.things t.args) },
  refl,
  ap (λ (n : ℕ). uses.Begun (record { at = at; number = n })) (ap (activation_in t.activation) e),
)
  where
    activation_in : ℕ → Option Running → ℕ
    activation_in d None = d
    activation_in d (Some x) = x.activation
run_begins at (Call c) r e = called_mark at c c.begun r e
run_begins at e r f = absurd cc

told_begun : (l : Line) (past : List Line) (r : Running) → runs l.event ≡ Some r → (IsTold past (uses.Begun (record { at = l.at; number = r.activation })) → ⊥)
    → IsTold (l ∷ past) (uses.Begun (record { at = l.at; number = r.activation }))
unfolding IsTold
told_begun l past r e new =
    let n = run_begins l.at l.event r e in
    let told : uses.TellsAnew (IsTold past) (Some n.0) (uses.Begun (record { at = l.at; number = r.activation }))
    = (subst (λ (f : uses.Fact). IsTold past f → ⊥) (sym n.2) new, inl n.2) in
    inr (inr (inl (subst (λ (o : Option Anew). uses.TellsAnew (IsTold past) o (uses.Begun (record { at = l.at; number = r.activation }))) (sym n.1) told)))

pub runs_begun : (past : List Line) (a : uses.Activation) (o : Name) → uses.Runs past a o → IsTold past (uses.Begun a)
unfolding IsTold
runs_begun [] a o h = absurd h
runs_begun (l ∷ past) a o (inl h) = inl (runs_begun past a o h)
runs_begun (l ∷ past) a o (inr h) =
    subst (λ (k : ℕ). IsTold (l ∷ past) (uses.Begun (record { at = k; number = a.number }))) h.0
    (told_begun l past (record { activation = a.number; target = Some h.2 }) h.3 (subst (λ (k : ℕ). IsTold past (uses.Begun (record { at = k; number = a.number })) → ⊥) (sym h.0) h.1))

-- ---- one line more

-- a line that begins nothing for the activation
unchanged : (l : Line) (past : List Line) (a : uses.Activation) (o : Option Label) → ((p : Name) → uses.Runs (l ∷ past) a p → uses.Runs past a p) → RunsAs past a o → RunsAs (l ∷ past) a o
unchanged l past a None back h = λ o r. h o (back o r)
unchanged l past a (Some x) back h = (h.0, h.1, inl h.2, λ p r. h.3 p (back p r))

same_run : (x y : Running) → Some x ≡ Some y → x ≡ y
same_run x y e = cc

-- the line runs no code of an object that is followed
pub no_run : (l : Line) (past : List Line) (es : List (Activation × Label)) → ((a : uses.Activation) (p : Name) → uses.Runs (l ∷ past) a p → uses.Runs past a p) → RunsStand es past → RunsStand es (l ∷ past)
no_run l past es back h = record { each = λ a. unchanged l past a (runner es (activation a)) (back a) (h.each a) }

target_in : Name → Option Running → Option Name
target_in d None = Some d
target_in d (Some x) = x.target

target_same : (d : Name) (x y : Running) → Some x ≡ Some y → x.target ≡ y.target
unfolding target_in
target_same d x y e = ap (target_in d) e

number_in : ℕ → Option Running → ℕ
number_in d None = d
number_in d (Some x) = x.activation

number_same : (x y : Running) → Some x ≡ Some y → x.activation ≡ y.activation
unfolding number_in
number_same x y e = ap (number_in x.activation) e

name_of_some : (m n : Name) → Some m ≡ Some n → m ≡ n
name_of_some m n e = cc

run_if : (b : Bool) (l : Line) (past : List Line) (r : ℕ) (t o : Name) (old new : List (Activation × Label)) (a : uses.Activation)
    → eq-value.it (record { at = l.at; number = r }) (activation a) ≡ b
    → runs l.event ≡ Some (record { activation = r; target = Some t }) → (IsTold past (uses.Begun (record { at = l.at; number = r })) → ⊥)
    → IsFollowed past l.at t o → ((p : Name) → IsFollowed past l.at t p → p ≡ o)
    → RunsPut (record { at = l.at; number = r }) (label (AName o)) old new → RunsAs past a (runner old (activation a)) → RunsAs (l ∷ past) a (runner new (activation a))
run_if true l past r t o old new a e is fresh f one put h =
    let same : record { at = l.at; number = r } ≡ a = activation_same (record { at = l.at; number = r }) a (exact_activation.same (record { at = l.at; number = r }) (activation a) e) in
    let now : runner new (activation a) ≡ Some (label (AName o)) = put (activation a) ∙ ap (λ (c : Bool). cond c (Some (label (AName o))) (runner old (activation a))) e in
    subst (RunsAs (l ∷ past) a) (sym now) (
      o,
      refl,
      inr (
        ap (λ (x : uses.Activation). x.at) same,
        subst (λ (x : uses.Activation). IsTold past (uses.Begun x) → ⊥) same fresh,
        t,
        is ∙ ap (λ (x : uses.Activation). Some (record { activation = x.number; target = Some t })) same,
        f,
      ),
      λ p g. elim g [
        | inl k ↦ absurd (fresh (subst (λ (x : uses.Activation). IsTold past (uses.Begun x)) (sym same) (runs_begun past a p k)))
        | inr k ↦ one p (subst (λ (n : Name). IsFollowed past l.at n p)
            (name_of_some k.2 t (target_same t (record { activation = a.number; target = Some k.2 }) (record { activation = r; target = Some t }) (sym k.3 ∙ is))) k.4)
      ],
    )
run_if false l past r t o old new a e is fresh f one put h =
    let now : runner new (activation a) ≡ runner old (activation a) = put (activation a) ∙ ap (λ (c : Bool). cond c (Some (label (AName o))) (runner old (activation a))) e in
    subst (RunsAs (l ∷ past) a) (sym now)
    (unchanged l past a (runner old (activation a)) (λ p g. elim g [
      | inl k ↦ k
      | inr k ↦ absurd (
          let number : r ≡ a.number = number_same (record { activation = r; target = Some t }) (record { activation = a.number; target = Some k.2 }) (sym is ∙ k.3) in
          let both : eq-value.it (record { at = l.at; number = r }) (activation a) ≡ true
          = subst (λ (x : Activation). eq-value.it (record { at = l.at; number = r }) x ≡ true) (λ i. record { at = k.0 i; number = number i }) (exact_activation.itself (record { at = l.at; number = r })) in
          let bad : true ≡ false = sym both ∙ e in cc)
    ]) h)

-- ---- what the set of facts tells of it

pub told_is : (facts : List Fact) (past : List Line) (f : uses.Fact) → StandsFor facts past → is_told facts (key f) ≡ true → IsTold past f
told_is facts past f h e = (h.each f).0 (told_among facts (key f) e)

pub not_told : (facts : List Fact) (past : List Line) (f : uses.Fact) → StandsFor facts past → is_told facts (key f) ≡ false → IsTold past f → ⊥
not_told facts past f h e t = let is_one = among_is_told facts (key f) ((h.each f).1 t) in let bad : true ≡ false = sym is_one ∙ e in absurd cc

pub begun_key : (a : Activation) → key (uses.Begun (record { at = a.at; number = a.number })) ≡ fact.Begun a
unfolding key
begun_key a = refl

-- ---- a line

activation_of : (l : Line) (r : ℕ) (t u : Name) (a : uses.Activation) → l.at ≡ a.at → runs l.event ≡ Some (record { activation = r; target = Some t })
    → runs l.event ≡ Some (record { activation = a.number; target = Some u }) → record { at = l.at; number = r } ≡ a
activation_of l r t u a here is e =
    let n : r ≡ a.number = number_same (record { activation = r; target = Some t }) (record { activation = a.number; target = Some u }) (sym is ∙ e) in
    λ i. record { at = here i; number = n i }

pub after_stands : (l : Line) (past : List Line) (r : ℕ) (t : Name) (old new : List (Activation × Label)) → runs l.event ≡ Some (record { activation = r; target = Some t })
    → RunAfter past l.at r t old new → RunsStand old past → RunsStand new (l ∷ past)
after_stands l past r t old new is (inl k) h =
    subst (λ (es : List (Activation × Label)). RunsStand es (l ∷ past)) (sym k.1)
    (no_run l past old (λ a p g. elim g [
      | inl x ↦ x
      | inr x ↦ absurd (x.1 (subst (λ (y : uses.Activation). IsTold past (uses.Begun y)) (activation_of l r t x.2 a x.0 is x.3) k.0))
    ]) h)
after_stands l past r t old new is (inr (fresh, None, f, same)) h =
    subst (λ (es : List (Activation × Label)). RunsStand es (l ∷ past)) (sym same)
    (no_run l past old (λ a p g. elim g [
      | inl x ↦ x
      | inr x ↦ absurd (f p (subst (λ (n : Name). IsFollowed past l.at n p)
          (name_of_some x.2 t (target_same t (record { activation = a.number; target = Some x.2 }) (record { activation = r; target = Some t }) (sym x.3 ∙ is))) x.4))
    ]) h)
after_stands l past r t old new is (inr (fresh, Some o, f, put)) h = record {
  each = λ a.
      run_if (eq-value.it (record { at = l.at; number = r }) (activation a)) l past r t f.0 old new a refl is fresh f.2 f.3
      (subst (λ (x : Label). RunsPut (record { at = l.at; number = r }) x old new) (sym f.1) put) (h.each a);
}

target_stands : (o : Option Name) (l : Line) (past : List Line) (r : ℕ) (old new : List (Activation × Label)) → runs l.event ≡ Some (record { activation = r; target = o })
    → RunTarget past l.at r o old new → RunsStand old past → RunsStand new (l ∷ past)
target_stands None l past r old new is same h =
    subst (λ (es : List (Activation × Label)). RunsStand es (l ∷ past)) (sym same)
    (no_run l past old (λ a p g. elim g [
      | inl x ↦ x
      | inr x ↦ absurd (let e = target_same p (record { activation = r; target = None }) (record { activation = a.number; target = Some x.2 }) (sym is ∙ x.3) in none_some x.2 e)
    ]) h)
  where
    none_some : (n : Name) → None ≡ Some n → ⊥
    none_some n e = absurd cc
target_stands (Some t) l past r old new is k h = after_stands l past r t old new is k h

told_stands : (o : Option Running) (l : Line) (past : List Line) (old new : List (Activation × Label)) → runs l.event ≡ o → RunTold past l.at o old new → RunsStand old past → RunsStand new (l ∷ past)
told_stands None l past old new is same h =
    subst (λ (es : List (Activation × Label)). RunsStand es (l ∷ past)) (sym same)
    (no_run l past old (λ a p g. elim g [
      | inl x ↦ x
      | inr x ↦ absurd (let bad : None ≡ Some (record { activation = a.number; target = Some x.2 }) = sym is ∙ x.3 in cc)
    ]) h)
told_stands (Some r) l past old new is k h = target_stands r.target l past r.activation old new is k h

pub line_runs : (at : ℕ) (e : Event) (past : List Line) (old new : List (Activation × Label)) → RunTold past at (runs e) old new → RunsStand old past → RunsStand new (record { at = at; event = e } ∷ past)
line_runs at e past old new k h = told_stands (runs e) (record { at = at; event = e }) past old new refl k h

pub none_run : RunsStand [] []
unfolding runner
none_run = record { each = λ a. λ o r. r }
