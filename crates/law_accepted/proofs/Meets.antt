-- A script that is as the rules say meets what the laws of runs ask.
use Rattle.std.proofs.Common.{◌≡◌, ◌≢◌, ◌<◌, ◌++◌, ◌||◌, ◌⊎◌, inl, inr, ℕ, zero, suc, Bool, true, false, List, [], ◌∷◌, Some, None, All, AllPairs, length, map, take, slice_get, refl, sym, ◌∙◌, ap, subst, arith, append-nil, append_assoc}
use Rattle.std.specs.List.{list_any}
use Rattle.std.proofs.lemmas.Bool.Decides.{nat_tests}
use Rattle.std.proofs.lemmas.List.Elements.{All-head, All-tail}
use Rattle.std.proofs.lemmas.List.Folds.{list_any-append}
use Rattle.def_kernel.specs.declared.node.Node.{Node}
use Rattle.def_run.specs.World as world
use Rattle.def_run.specs.World.{Program}
use Rattle.ev_script.specs.Schedule.{is_pair, cuts}
use Rattle.ev_script.specs.Rules.{IsEntryOf, IsAdmitted}
use Rattle.ev_script.specs.declared.script.Entry.{Entry}
use Rattle.ev_script.specs.declared.script.Entry.TheVariants.{Turn, Carry, Cut, Notice}
use Rattle.ev_script.specs.declared.script.Script.{Script}
use Rattle.ev_script.specs.declared.script.VatScript.{VatScript}
use Rattle.law_fate.specs.Name.Names.{AllOf, IsAmong, Once}
use Rattle.law_reference.specs.Reference.Cuts.{IsCutAmong, NoticesFollow}
use Rattle.law_schedule.specs.Scripts.{machine_entry, machine_vats, machine_script}
use Rattle.law_accepted.specs.Accepted.{MeetsTheLaws, AdmittedScriptsMeetTheLaws}

-- ---- lists without repetition

not_among : (v : ℕ) (ks : List ℕ) → All (λ k. k ≢ v) ks → IsAmong v ks → ⊥
not_among v [] h i = i
not_among v (k ∷ ks) h (inl e) = All-head (λ x. x ≢ v) k ks h (sym e)
not_among v (k ∷ ks) h (inr i) = not_among v ks (All-tail (λ x. x ≢ v) k ks h) i

others_differ : (k : ℕ) (ks : List ℕ) → AllPairs ◌≢◌ (k ∷ ks) → All (λ x. x ≢ k) ks
others_differ k ks h = λ j d lt e. h 0 (suc j) d (omega arith) (omega (arith, lt)) (sym e)

rest_differ : (k : ℕ) (ks : List ℕ) → AllPairs ◌≢◌ (k ∷ ks) → AllPairs ◌≢◌ ks
rest_differ k ks h = λ i j d lt within. h (suc i) (suc j) d (omega (arith, lt)) (omega (arith, within))

once : (ks : List ℕ) → AllPairs ◌≢◌ ks → Once ks
once [] h = tt
once (k ∷ ks) h = (not_among k ks (others_differ k ks h), once ks (rest_differ k ks h))

each_of : {A : Type 0} (P : A → Type 0) (xs : List A) → All P xs → AllOf P xs
each_of P [] h = tt
each_of P (x ∷ xs) h = (All-head P x xs h, each_of P xs (All-tail P x xs h))

-- ---- the vats

pub count_is : (tree : ℕ → List Node) (place : ℕ) (vats : List VatScript) → length (machine_vats tree place vats) ≡ length vats
count_is tree place [] = refl
count_is tree place (v ∷ vats) = ap suc (count_is tree (suc place) vats)

none_some : {A : Type 0} {x : A} → None ≡ Some x → ⊥
none_some e = cc

some_is : {A : Type 0} {x y : A} → Some x ≡ Some y → x ≡ y
some_is e = cc

-- a vat of the machine's script is one of the script, and knows the same
vat_is : (tree : ℕ → List Node) (place : ℕ) (vats : List VatScript) (v : ℕ) (p : Program) → slice_get (machine_vats tree place vats) v ≡ Some p
    → (vat : VatScript) × (slice_get vats v ≡ Some vat) × (vat.knows ≡ p.knows)
vat_is tree place [] v p e = absurd (none_some e)
vat_is tree place (vat ∷ vats) zero p e = (vat, refl, ap (λ (q : Program). q.knows) (some_is e))
vat_is tree place (vat ∷ vats) (suc v) p e = vat_is tree (suc place) vats v p e

knows_once : (count v : ℕ) (knows : List ℕ) → All (λ k. (k < count) × (k ≢ v)) knows → AllPairs ◌≢◌ knows → Once (v ∷ knows)
knows_once count v knows h pairs = (not_among v knows (λ k d lt. (h k d lt).1), once knows pairs)

-- ---- cuts and notices

pair_is : (v w a b : ℕ) → is_pair v w a b ≡ true → ((v ≡ a) × (w ≡ b)) ⊎ ((v ≡ b) × (w ≡ a))
pair_is v w a b h = grind (arith, nat_tests)

here_or_before : (p q : Bool) → (p || (q || false)) ≡ true → (p ≡ true) ⊎ (q ≡ true)
here_or_before true q e = inl refl
here_or_before false true e = inr refl
here_or_before false false e = cc

more_cut : (v w : ℕ) (e : world.Entry) (done : List world.Entry) → IsCutAmong v w done → IsCutAmong v w (e ∷ done)
more_cut v w e done (inl i) = inl (inr i)
more_cut v w e done (inr i) = inr (inr i)

cut_here : (v w : ℕ) (e : Entry) (done : List world.Entry) → cuts v w e ≡ true → IsCutAmong v w (machine_entry e ∷ done)
cut_here v w (Cut a b) done h = by (pair_is v w a b h) where
  by : ((v ≡ a) × (w ≡ b)) ⊎ ((v ≡ b) × (w ≡ a)) → IsCutAmong v w (world.CutLink a b ∷ done)
  by (inl (x, y)) = inl (inl (rw (x, y) refl))
  by (inr (x, y)) = inr (inl (rw (x, y) refl))
cut_here v w other done h = cc

-- what was cut so far is cut among the entries that are done
abbrev AreDone : List Entry → List world.Entry → Type 0
AreDone before done = (v w : ℕ) → list_any (cuts v w) before ≡ true → IsCutAmong v w done

one_more : (before : List Entry) (e : Entry) (done : List world.Entry) → AreDone before done → AreDone (before ++ e ∷ []) (machine_entry e ∷ done)
one_more before e done h = λ v w c. by v w (here_or_before (list_any (cuts v w) before) (cuts v w e) (sym (list_any-append (cuts v w) before (e ∷ [])) ∙ c)) where
  by : (v w : ℕ) → (list_any (cuts v w) before ≡ true) ⊎ (cuts v w e ≡ true) → IsCutAmong v w (machine_entry e ∷ done)
  by v w (inl b) = more_cut v w (machine_entry e) done (h v w b)
  by v w (inr c) = cut_here v w e done c

-- the cuts that come first, where these entries came before
abbrev ComeFirst : List Entry → List Entry → Type 0
ComeFirst before es = (place v w : ℕ) → slice_get es place ≡ Some (Notice v w) → list_any (cuts v w) (before ++ take place es) ≡ true

first_here : (before es : List Entry) (v w : ℕ) → ComeFirst before (Notice v w ∷ es) → list_any (cuts v w) before ≡ true
first_here before es v w h = subst (λ bs. list_any (cuts v w) bs ≡ true) (append-nil before) (h zero v w refl)

first_behind : (before : List Entry) (e : Entry) (es : List Entry) → ComeFirst before (e ∷ es) → ComeFirst (before ++ e ∷ []) es
first_behind before e es h = λ place v w g. subst (λ bs. list_any (cuts v w) bs ≡ true) (sym (append_assoc before (e ∷ []) (take place es))) (h (suc place) v w g)

follow : (count : ℕ) (before es : List Entry) (done : List world.Entry) → All (IsEntryOf count) es → AreDone before done → ComeFirst before es → NoticesFollow done (map machine_entry es)
follow count before [] done all are first = tt
follow count before (Turn v ∷ es) done all are first =
    follow count (before ++ Turn v ∷ []) es (world.Turn v ∷ done) (All-tail (IsEntryOf count) (Turn v) es all) (one_more before (Turn v) done are) (first_behind before (Turn v) es first)
follow count before (Carry v w ∷ es) done all are first =
    follow count (before ++ Carry v w ∷ []) es (world.Carry v w ∷ done) (All-tail (IsEntryOf count) (Carry v w) es all) (one_more before (Carry v w) done are) (first_behind before (Carry v w) es first)
follow count before (Cut v w ∷ es) done all are first =
    follow count (before ++ Cut v w ∷ []) es (world.CutLink v w ∷ done) (All-tail (IsEntryOf count) (Cut v w) es all) (one_more before (Cut v w) done are) (first_behind before (Cut v w) es first)
follow count before (Notice v w ∷ es) done all are first =
    let two = All-head (IsEntryOf count) (Notice v w) es all in (
      two.2,
      are v w (first_here before es v w first),
      follow count (before ++ Notice v w ∷ []) es (world.NoticeLink v w ∷ done) (All-tail (IsEntryOf count) (Notice v w) es all) (one_more before (Notice v w) done are) (first_behind before (Notice v w) es first),
    )

-- ---- the whole

pub meets : AdmittedScriptsMeetTheLaws
meets script h depth tree = (
  λ v p e. let q = vat_is tree zero script.vats v p e in let k = h.knows v q.0 q.1 in
      subst (λ ks. Once (v ∷ ks)) q.2 (knows_once (length script.vats) v q.0.knows k.0 k.1),
  λ v p e. let q = vat_is tree zero script.vats v p e in let k = h.knows v q.0 q.1 in
      subst (λ ks. AllOf (λ (u : ℕ). u < length (machine_vats tree zero script.vats)) ks) q.2
      (subst (λ n. AllOf (λ (u : ℕ). u < n) q.0.knows) (sym (count_is tree zero script.vats)) (each_of (λ (u : ℕ). u < length script.vats) q.0.knows (λ i d lt. (k.0 i d lt).0))),
  follow (length script.vats) [] script.schedule [] h.schedule.1 (λ v w e. cc) (λ place v w g. h.cuts_first place v w g),
)
