-- The two laws: what is read as an operation is spelled so, and what is spelled so is read, whatever follows it.
use Rattle.std.proofs.Common.{◌≡◌, ℕ, ◌^◌, ◌<◌, ◌≤◌, ⊎_elim, true, false, cond, ltb, nat_eq, List, [], ◌∷◌, ◌++◌, length, Some, None, refl, sym, ap, subst, ◌∙◌, append_assoc, arith}
use Rattle.std.proofs.lemmas.Bool.{lt-ltb, ltb-true, ltb-false, le-ltb, eqb-true}
use Rattle.std.proofs.lemmas.List.{length-append}
use Rattle.def_op.specs.declared.op.Plain.TheVariants as plain
use Rattle.def_op.specs.declared.kind.Kind.{Kind}
use Rattle.def_op.specs.declared.kind.Kind.TheVariants as kind
use Rattle.def_op.specs.Numbers.{unsigned, swiss}
use Rattle.def_op.specs.Frames.{Described, Members, Datum, ListOf, Broken, YourExport, YourAnswer, MyExport, MyPromise, Third, MyAnswer, count, text_bytes, plain_bytes, desc_bytes, members_bytes, Outcome, To, Elsewhere, outcome_bytes, Operation, Deliver, DeliverOnly, Resolve, Provide, Accept, Shorten, spelling, IsTarget, IsSubject, OutcomeFits, IsOp}
use Rattle.def_op.specs.Reading.{◌>>=◌, unsigned_at, swiss_at, vat_at, text_at, kind_at, counted_at, members_at, free_at, target_behind, target_at, subject_behind, subject_at, outcome_at, few_at, deliver_at, deliver_only_at, resolve_at, provide_at, accept_at, shorten_at, op_at}
use Rattle.ev_op.proofs.NumberLemmas.{bind_some, else_some, some_is, none_is, chosen, IsBytes, IsBytes-rest, Takes, Takes-then, Takes-cons, unsigned_takes, unsigned_again, low_first_takes, low_first_again}
use Rattle.ev_op.proofs.LeafLemmas.{text_takes, text_again, byte_takes, code, kind_takes}
use Rattle.ev_op.proofs.DescLemmas.{free_takes, args_take}
use Rattle.ev_op.proofs.DescAgain.{free_again, args_again}

-- ---- targets and subjects

counted_takes : (b : ℕ) (bytes : List ℕ) (x : Described × List ℕ) (f : ℕ → Described) (P : Described → Type 0) → IsBytes bytes → counted_at f bytes ≡ Some x
    → ((n : ℕ) → desc_bytes (f n) ≡ b ∷ unsigned n) → ((n : ℕ) → n < 2 ^ 64 → P (f n)) → Takes (b ∷ bytes) (desc_bytes x.0) x.1 × P x.0
counted_takes b bytes x f P fits e spelled good =
    let q = bind_some (unsigned_at bytes) (λ n. Some (f n.0, n.1)) x e in
    let t = unsigned_takes bytes q.0 fits q.1 in
    subst (λ (y : Described × List ℕ). Takes (b ∷ bytes) (desc_bytes y.0) y.1 × P y.0) (some_is (f q.0.0, q.0.1) x q.2)
    (subst (λ (s : List ℕ). Takes (b ∷ bytes) s q.0.1) (sym (spelled q.0.0)) (Takes-cons b bytes (unsigned q.0.0) q.0.1 t.0), good q.0.0 t.1)

abbrev TargetRead : Kind → List ℕ → Described × List ℕ → Type 0
TargetRead k bytes x = Takes (code k ∷ bytes) (desc_bytes x.0) x.1 × IsTarget x.0

target_behind_takes : (k : Kind) (bytes : List ℕ) (x : Described × List ℕ) → IsBytes bytes → target_behind k bytes ≡ Some x → TargetRead k bytes x
unfolding target_behind desc_bytes IsTarget
target_behind_takes kind.YourExport bytes x fits e = counted_takes 9 bytes x YourExport IsTarget fits e (λ n. refl) (λ n lt. lt)
target_behind_takes kind.YourAnswer bytes x fits e = counted_takes 10 bytes x YourAnswer IsTarget fits e (λ n. refl) (λ n lt. lt)
target_behind_takes k bytes x fits e = absurd (none_is x e)

pub target_takes : (bytes : List ℕ) (x : Described × List ℕ) → IsBytes bytes → target_at bytes ≡ Some x → Takes bytes (desc_bytes x.0) x.1 × IsTarget x.0
unfolding target_at
target_takes bytes x fits e =
    let q = bind_some (kind_at bytes) (λ k. target_behind k.0 k.1) x e in
    let first = kind_takes bytes q.0 q.1 in
    let fits' : IsBytes q.0.1 = IsBytes-rest (code q.0.0) q.0.1 (subst IsBytes first fits) in
    subst (λ (bs : List ℕ). Takes bs (desc_bytes x.0) x.1 × IsTarget x.0) (sym first) (target_behind_takes q.0.0 q.0.1 x fits' q.2)

abbrev SubjectRead : Kind → List ℕ → Described × List ℕ → Type 0
SubjectRead k bytes x = Takes (code k ∷ bytes) (desc_bytes x.0) x.1 × IsSubject x.0

subject_behind_takes : (k : Kind) (bytes : List ℕ) (x : Described × List ℕ) → IsBytes bytes → subject_behind k bytes ≡ Some x → SubjectRead k bytes x
unfolding subject_behind desc_bytes IsSubject
subject_behind_takes kind.MyPromise bytes x fits e = counted_takes 12 bytes x MyPromise IsSubject fits e (λ n. refl) (λ n lt. lt)
subject_behind_takes kind.MyAnswer bytes x fits e = counted_takes 14 bytes x MyAnswer IsSubject fits e (λ n. refl) (λ n lt. lt)
subject_behind_takes k bytes x fits e = absurd (none_is x e)

pub subject_takes : (bytes : List ℕ) (x : Described × List ℕ) → IsBytes bytes → subject_at bytes ≡ Some x → Takes bytes (desc_bytes x.0) x.1 × IsSubject x.0
unfolding subject_at
subject_takes bytes x fits e =
    let q = bind_some (kind_at bytes) (λ k. subject_behind k.0 k.1) x e in
    let first = kind_takes bytes q.0 q.1 in
    let fits' : IsBytes q.0.1 = IsBytes-rest (code q.0.0) q.0.1 (subst IsBytes first fits) in
    subst (λ (bs : List ℕ). Takes bs (desc_bytes x.0) x.1 × IsSubject x.0) (sym first) (subject_behind_takes q.0.0 q.0.1 x fits' q.2)

pub target_again : (d : Described) (rest : List ℕ) → IsTarget d → target_at (desc_bytes d ++ rest) ≡ Some (d, rest)
unfolding target_at target_behind desc_bytes IsTarget
target_again (YourExport n) rest is = rw (unsigned_again n rest is) refl
target_again (YourAnswer n) rest is = rw (unsigned_again n rest is) refl
target_again (Datum p) rest is = absurd is
target_again (ListOf ds) rest is = absurd is
target_again (Broken t) rest is = absurd is
target_again (MyExport n) rest is = absurd is
target_again (MyPromise n) rest is = absurd is
target_again (Third v s) rest is = absurd is
target_again (MyAnswer n) rest is = absurd is

pub subject_again : (d : Described) (rest : List ℕ) → IsSubject d → subject_at (desc_bytes d ++ rest) ≡ Some (d, rest)
unfolding subject_at subject_behind desc_bytes IsSubject
subject_again (MyPromise n) rest is = rw (unsigned_again n rest is) refl
subject_again (MyAnswer n) rest is = rw (unsigned_again n rest is) refl
subject_again (Datum p) rest is = absurd is
subject_again (ListOf ds) rest is = absurd is
subject_again (Broken t) rest is = absurd is
subject_again (YourExport n) rest is = absurd is
subject_again (YourAnswer n) rest is = absurd is
subject_again (MyExport n) rest is = absurd is
subject_again (Third v s) rest is = absurd is

-- ---- what a subject came to

pub outcome_takes : (bytes : List ℕ) (x : Outcome × List ℕ) → IsBytes bytes → outcome_at bytes ≡ Some x → Takes bytes (outcome_bytes x.0) x.1 × OutcomeFits x.0
unfolding outcome_at outcome_bytes OutcomeFits
outcome_takes [] x fits e = absurd (none_is x e)
outcome_takes (b ∷ rest) x fits e =
    ⊎_elim
    (λ p. let q = bind_some (vat_at rest) (λ v. Some (Elsewhere v.0, v.1)) x p.1 in
    let t = byte_takes (λ b. ltb b 16) rest q.0 (IsBytes-rest b rest fits) q.1 in
    subst (λ (y : Outcome × List ℕ). Takes (b ∷ rest) (outcome_bytes y.0) y.1 × OutcomeFits y.0) (some_is (Elsewhere q.0.0, q.0.1) x q.2)
    (subst (λ (c : ℕ). Takes (b ∷ rest) (c ∷ q.0.0 ∷ []) q.0.1) (eqb-true b 15 p.0) (Takes-cons b rest (q.0.0 ∷ []) q.0.1 t.0), ltb-true q.0.0 16 t.1))
    (λ p. let q = bind_some (free_at 0 (b ∷ rest)) (λ d. Some (To d.value, d.rest)) x p.1 in
    let t = free_takes 0 (b ∷ rest) q.0 fits q.1 in
    subst (λ (y : Outcome × List ℕ). Takes (b ∷ rest) (outcome_bytes y.0) y.1 × OutcomeFits y.0) (some_is (To q.0.value, q.0.rest) x q.2) (t.takes, t.is))
    (chosen (nat_eq b 15) (vat_at rest >>= λ v. Some (Elsewhere v.0, v.1)) (free_at 0 (b ∷ rest) >>= λ d. Some (To d.value, d.rest)) (Some x) e)

outcome_desc : (d : Described) (rest : List ℕ) → outcome_at (desc_bytes d ++ rest) ≡ (free_at 0 (desc_bytes d ++ rest) >>= λ d. Some (To d.value, d.rest))
unfolding outcome_at desc_bytes plain_bytes
outcome_desc (Datum plain.Null) rest = refl
outcome_desc (Datum (plain.Bool true)) rest = refl
outcome_desc (Datum (plain.Bool false)) rest = refl
outcome_desc (Datum (plain.Int z)) rest = refl
outcome_desc (Datum (plain.Char c)) rest = refl
outcome_desc (Datum (plain.Text t)) rest = refl
outcome_desc (Datum (plain.Prim p)) rest = refl
outcome_desc (ListOf ds) rest = refl
outcome_desc (Broken t) rest = refl
outcome_desc (YourExport n) rest = refl
outcome_desc (YourAnswer n) rest = refl
outcome_desc (MyExport n) rest = refl
outcome_desc (MyPromise n) rest = refl
outcome_desc (Third v s) rest = refl
outcome_desc (MyAnswer n) rest = refl

elsewhere_again : (v : ℕ) (rest : List ℕ) → v < 16 → outcome_at (outcome_bytes (Elsewhere v) ++ rest) ≡ Some (Elsewhere v, rest)
unfolding outcome_at outcome_bytes
elsewhere_again v rest lt = rw (lt-ltb v 16 lt) refl

outcome_again : (to : Outcome) (rest : List ℕ) → OutcomeFits to → outcome_at (outcome_bytes to ++ rest) ≡ Some (to, rest)
unfolding outcome_bytes OutcomeFits
outcome_again (To d) rest fits = outcome_desc d rest ∙ rw (free_again d 0 rest fits) refl
outcome_again (Elsewhere v) rest fits = elsewhere_again v rest fits

-- ---- counts

few_takes : (bytes : List ℕ) (x : ℕ × List ℕ) → IsBytes bytes → few_at bytes ≡ Some x → Takes bytes (unsigned x.0) x.1 × (x.0 ≤ 255)
few_takes bytes x fits e =
    let q = bind_some (unsigned_at bytes) (λ n. cond (ltb 255 n.0) None (Some n)) x e in
    let g = else_some (ltb 255 q.0.0) q.0 x q.2 in
    let t = unsigned_takes bytes q.0 fits q.1 in
    subst (λ (y : ℕ × List ℕ). Takes bytes (unsigned y.0) y.1 × (y.0 ≤ 255)) g.1 (t.0, ltb-false 255 q.0.0 g.0)

few_again : (n : ℕ) (rest : List ℕ) → n ≤ 255 → few_at (unsigned n ++ rest) ≡ Some (n, rest)
few_again n rest le = rw (unsigned_again n rest (omega arith), le-ltb 255 n le) refl

-- ---- operations

abbrev OpRead : ℕ → List ℕ → Operation × List ℕ → Type 0
OpRead b bytes x = Takes (b ∷ bytes) (spelling x.0) x.1 × IsOp x.0

deliver_takes : (bytes : List ℕ) (x : Operation × List ℕ) → IsBytes bytes → deliver_at bytes ≡ Some x → OpRead 1 bytes x
unfolding deliver_at spelling IsOp
deliver_takes bytes x fits e =
    let a = bind_some (unsigned_at bytes) (λ question. target_at question.1 >>= λ target. text_at (length target.1) target.1 >>= λ verb. few_at verb.1 >>= λ count. members_at free_at count.0 0 count.1 >>= λ args. Some (Deliver question.0 target.0 verb.0 args.value, args.rest)) x e in
    let b = bind_some (target_at a.0.1) (λ target. text_at (length target.1) target.1 >>= λ verb. few_at verb.1 >>= λ count. members_at free_at count.0 0 count.1 >>= λ args. Some (Deliver a.0.0 target.0 verb.0 args.value, args.rest)) x a.2 in
    let c = bind_some (text_at (length b.0.1) b.0.1) (λ verb. few_at verb.1 >>= λ count. members_at free_at count.0 0 count.1 >>= λ args. Some (Deliver a.0.0 b.0.0 verb.0 args.value, args.rest)) x b.2 in
    let d = bind_some (few_at c.0.1) (λ count. members_at free_at count.0 0 count.1 >>= λ args. Some (Deliver a.0.0 b.0.0 c.0.0 args.value, args.rest)) x c.2 in
    let f = bind_some (members_at free_at d.0.0 0 d.0.1) (λ args. Some (Deliver a.0.0 b.0.0 c.0.0 args.value, args.rest)) x d.2 in
    let ds = f.0.value in
    let rest = f.0.rest in
    let ta = unsigned_takes bytes a.0 fits a.1 in
    let tb = target_takes a.0.1 b.0 ta.0.fits b.1 in
    let tc = text_takes (length b.0.1) b.0.1 c.0 tb.0.fits c.1 in
    let td = few_takes c.0.1 d.0 tc.takes.fits d.1 in
    let tf = args_take d.0.0 0 d.0.1 f.0 td.0.fits f.1 in
    let counted : Takes c.0.1 (unsigned (count ds)) d.0.1 = subst (λ (k : ℕ). Takes c.0.1 (unsigned k) d.0.1) (sym tf.counts) td.0 in
    let few : count ds ≤ 255 = omega (arith, tf.counts, td.1) in
    let p1 = Takes-then c.0.1 (unsigned (count ds)) d.0.1 (members_bytes ds) rest counted tf.takes in
    let p2 = Takes-then b.0.1 (text_bytes c.0.0) c.0.1 (unsigned (count ds) ++ members_bytes ds) rest tc.takes p1 in
    let p3 = Takes-then a.0.1 (desc_bytes b.0.0) b.0.1 (text_bytes c.0.0 ++ (unsigned (count ds) ++ members_bytes ds)) rest tb.0 p2 in
    let p4 = Takes-then bytes (unsigned a.0.0) a.0.1 (desc_bytes b.0.0 ++ (text_bytes c.0.0 ++ (unsigned (count ds) ++ members_bytes ds))) rest ta.0 p3 in
    subst (OpRead 1 bytes) (some_is (Deliver a.0.0 b.0.0 c.0.0 ds, rest) x f.2) (
      Takes-cons 1 bytes (unsigned a.0.0 ++ (desc_bytes b.0.0 ++ (text_bytes c.0.0 ++ (unsigned (count ds) ++ members_bytes ds)))) rest p4,
      (ta.1, tb.1, tc.fits, few, tf.are),
    )

resolve_takes : (bytes : List ℕ) (x : Operation × List ℕ) → IsBytes bytes → resolve_at bytes ≡ Some x → OpRead 2 bytes x
unfolding resolve_at spelling IsOp
resolve_takes bytes x fits e =
    let a = bind_some (subject_at bytes) (λ subject. outcome_at subject.1 >>= λ to. Some (Resolve subject.0 to.0, to.1)) x e in
    let b = bind_some (outcome_at a.0.1) (λ to. Some (Resolve a.0.0 to.0, to.1)) x a.2 in
    let ta = subject_takes bytes a.0 fits a.1 in
    let tb = outcome_takes a.0.1 b.0 ta.0.fits b.1 in
    let p = Takes-then bytes (desc_bytes a.0.0) a.0.1 (outcome_bytes b.0.0) b.0.1 ta.0 tb.0 in
    subst (OpRead 2 bytes) (some_is (Resolve a.0.0 b.0.0, b.0.1) x b.2) (Takes-cons 2 bytes (desc_bytes a.0.0 ++ outcome_bytes b.0.0) b.0.1 p, (ta.1, tb.1))

provide_takes : (bytes : List ℕ) (x : Operation × List ℕ) → IsBytes bytes → provide_at bytes ≡ Some x → OpRead 3 bytes x
unfolding provide_at spelling IsOp
provide_takes bytes x fits e =
    let a = bind_some (target_at bytes) (λ target. swiss_at target.1 >>= λ s. Some (Provide target.0 s.0, s.1)) x e in
    let b = bind_some (swiss_at a.0.1) (λ s. Some (Provide a.0.0 s.0, s.1)) x a.2 in
    let ta = target_takes bytes a.0 fits a.1 in
    let tb = low_first_takes 16 a.0.1 b.0 ta.0.fits b.1 in
    let p = Takes-then bytes (desc_bytes a.0.0) a.0.1 (swiss b.0.0) b.0.1 ta.0 tb.0 in
    subst (OpRead 3 bytes) (some_is (Provide a.0.0 b.0.0, b.0.1) x b.2) (Takes-cons 3 bytes (desc_bytes a.0.0 ++ swiss b.0.0) b.0.1 p, (ta.1, tb.1))

accept_takes : (bytes : List ℕ) (x : Operation × List ℕ) → IsBytes bytes → accept_at bytes ≡ Some x → OpRead 4 bytes x
unfolding accept_at spelling IsOp
accept_takes bytes x fits e =
    let a = bind_some (unsigned_at bytes) (λ question. vat_at question.1 >>= λ provider. swiss_at provider.1 >>= λ s. Some (Accept question.0 provider.0 s.0, s.1)) x e in
    let b = bind_some (vat_at a.0.1) (λ provider. swiss_at provider.1 >>= λ s. Some (Accept a.0.0 provider.0 s.0, s.1)) x a.2 in
    let c = bind_some (swiss_at b.0.1) (λ s. Some (Accept a.0.0 b.0.0 s.0, s.1)) x b.2 in
    let ta = unsigned_takes bytes a.0 fits a.1 in
    let tb = byte_takes (λ b. ltb b 16) a.0.1 b.0 ta.0.fits b.1 in
    let tc = low_first_takes 16 b.0.1 c.0 tb.0.fits c.1 in
    let p1 = Takes-then a.0.1 (b.0.0 ∷ []) b.0.1 (swiss c.0.0) c.0.1 tb.0 tc.0 in
    let p2 = Takes-then bytes (unsigned a.0.0) a.0.1 (b.0.0 ∷ swiss c.0.0) c.0.1 ta.0 p1 in
    subst (OpRead 4 bytes) (some_is (Accept a.0.0 b.0.0 c.0.0, c.0.1) x c.2) (Takes-cons 4 bytes (unsigned a.0.0 ++ (b.0.0 ∷ swiss c.0.0)) c.0.1 p2, (ta.1, ltb-true b.0.0 16 tb.1, tc.1))

shorten_takes : (bytes : List ℕ) (x : Operation × List ℕ) → IsBytes bytes → shorten_at bytes ≡ Some x → OpRead 5 bytes x
unfolding shorten_at spelling IsOp
shorten_takes bytes x fits e =
    let a = bind_some (target_at bytes) (λ target. swiss_at target.1 >>= λ s. Some (Shorten target.0 s.0, s.1)) x e in
    let b = bind_some (swiss_at a.0.1) (λ s. Some (Shorten a.0.0 s.0, s.1)) x a.2 in
    let ta = target_takes bytes a.0 fits a.1 in
    let tb = low_first_takes 16 a.0.1 b.0 ta.0.fits b.1 in
    let p = Takes-then bytes (desc_bytes a.0.0) a.0.1 (swiss b.0.0) b.0.1 ta.0 tb.0 in
    subst (OpRead 5 bytes) (some_is (Shorten a.0.0 b.0.0, b.0.1) x b.2) (Takes-cons 5 bytes (desc_bytes a.0.0 ++ swiss b.0.0) b.0.1 p, (ta.1, tb.1))

deliver_only_takes : (bytes : List ℕ) (x : Operation × List ℕ) → IsBytes bytes → deliver_only_at bytes ≡ Some x → OpRead 6 bytes x
unfolding deliver_only_at spelling IsOp
deliver_only_takes bytes x fits e =
    let b = bind_some (target_at bytes) (λ target. text_at (length target.1) target.1 >>= λ verb. few_at verb.1 >>= λ count. members_at free_at count.0 0 count.1 >>= λ args. Some (DeliverOnly target.0 verb.0 args.value, args.rest)) x e in
    let c = bind_some (text_at (length b.0.1) b.0.1) (λ verb. few_at verb.1 >>= λ count. members_at free_at count.0 0 count.1 >>= λ args. Some (DeliverOnly b.0.0 verb.0 args.value, args.rest)) x b.2 in
    let d = bind_some (few_at c.0.1) (λ count. members_at free_at count.0 0 count.1 >>= λ args. Some (DeliverOnly b.0.0 c.0.0 args.value, args.rest)) x c.2 in
    let f = bind_some (members_at free_at d.0.0 0 d.0.1) (λ args. Some (DeliverOnly b.0.0 c.0.0 args.value, args.rest)) x d.2 in
    let ds = f.0.value in
    let rest = f.0.rest in
    let tb = target_takes bytes b.0 fits b.1 in
    let tc = text_takes (length b.0.1) b.0.1 c.0 tb.0.fits c.1 in
    let td = few_takes c.0.1 d.0 tc.takes.fits d.1 in
    let tf = args_take d.0.0 0 d.0.1 f.0 td.0.fits f.1 in
    let counted : Takes c.0.1 (unsigned (count ds)) d.0.1 = subst (λ (k : ℕ). Takes c.0.1 (unsigned k) d.0.1) (sym tf.counts) td.0 in
    let few : count ds ≤ 255 = omega (arith, tf.counts, td.1) in
    let p1 = Takes-then c.0.1 (unsigned (count ds)) d.0.1 (members_bytes ds) rest counted tf.takes in
    let p2 = Takes-then b.0.1 (text_bytes c.0.0) c.0.1 (unsigned (count ds) ++ members_bytes ds) rest tc.takes p1 in
    let p3 = Takes-then bytes (desc_bytes b.0.0) b.0.1 (text_bytes c.0.0 ++ (unsigned (count ds) ++ members_bytes ds)) rest tb.0 p2 in
    subst (OpRead 6 bytes) (some_is (DeliverOnly b.0.0 c.0.0 ds, rest) x f.2) (
      Takes-cons 6 bytes (desc_bytes b.0.0 ++ (text_bytes c.0.0 ++ (unsigned (count ds) ++ members_bytes ds))) rest p3,
      (tb.1, tc.fits, few, tf.are),
    )

-- what is read is spelled so
pub op_takes : (bytes : List ℕ) (x : Operation × List ℕ) → IsBytes bytes → op_at bytes ≡ Some x → Takes bytes (spelling x.0) x.1 × IsOp x.0
unfolding op_at
op_takes [] x fits e = absurd (none_is x e)
op_takes (b ∷ rest) x fits e =
    let fits' : IsBytes rest = IsBytes-rest b rest fits in
    let at : (k : ℕ) → nat_eq b k ≡ true → OpRead k rest x → OpRead b rest x = λ k h r. subst (λ (c : ℕ). OpRead c rest x) (sym (eqb-true b k h)) r in
    ⊎_elim (λ p. at 1 p.0 (deliver_takes rest x fits' p.1))
    (λ n1. ⊎_elim (λ p. at 2 p.0 (resolve_takes rest x fits' p.1))
    (λ n2. ⊎_elim (λ p. at 3 p.0 (provide_takes rest x fits' p.1))
    (λ n3. ⊎_elim (λ p. at 4 p.0 (accept_takes rest x fits' p.1))
    (λ n4. ⊎_elim (λ p. at 5 p.0 (shorten_takes rest x fits' p.1))
    (λ n5. ⊎_elim (λ p. at 6 p.0 (deliver_only_takes rest x fits' p.1)) (λ n6. absurd (none_is x n6.1))
    (chosen (nat_eq b 6) (deliver_only_at rest) None (Some x) n5.1))
    (chosen (nat_eq b 5) (shorten_at rest) (cond (nat_eq b 6) (deliver_only_at rest) None) (Some x) n4.1))
    (chosen (nat_eq b 4) (accept_at rest) (cond (nat_eq b 5) (shorten_at rest) (cond (nat_eq b 6) (deliver_only_at rest) None)) (Some x) n3.1))
    (chosen (nat_eq b 3) (provide_at rest) (cond (nat_eq b 4) (accept_at rest) (cond (nat_eq b 5) (shorten_at rest) (cond (nat_eq b 6) (deliver_only_at rest) None))) (Some x) n2.1))
    (chosen (nat_eq b 2) (resolve_at rest) (cond (nat_eq b 3) (provide_at rest) (cond (nat_eq b 4) (accept_at rest) (cond (nat_eq b 5) (shorten_at rest) (cond (nat_eq b 6) (deliver_only_at rest) None)))) (Some x) n1.1))
    (chosen (nat_eq b 1) (deliver_at rest) (cond (nat_eq b 2) (resolve_at rest) (cond (nat_eq b 3) (provide_at rest) (cond (nat_eq b 4) (accept_at rest) (cond (nat_eq b 5) (shorten_at rest) (cond (nat_eq b 6) (deliver_only_at rest) None))))) (Some x) e)

regroup_2 : (a b r : List ℕ) → (a ++ b) ++ r ≡ a ++ (b ++ r)
regroup_2 a b r = append_assoc a b r

regroup_5 : (a b c d e r : List ℕ) → (a ++ (b ++ (c ++ (d ++ e)))) ++ r ≡ a ++ (b ++ (c ++ (d ++ (e ++ r))))
regroup_5 a b c d e r = simp append_assoc

deliver_again : (question : ℕ) (target : Described) (verb : List ℕ) (args : Members) (rest : List ℕ) → IsOp (Deliver question target verb args)
    → deliver_at ((unsigned question ++ (desc_bytes target ++ (text_bytes verb ++ (unsigned (count args) ++ members_bytes args)))) ++ rest) ≡ Some (Deliver question target verb args, rest)
unfolding deliver_at IsOp
deliver_again question target verb args rest is =
    let r1 = members_bytes args ++ rest in
    let r2 = unsigned (count args) ++ r1 in
    let r3 = text_bytes verb ++ r2 in
    let r4 = desc_bytes target ++ r3 in
    let within : length verb ≤ length r3 = omega (arith, length-append (text_bytes verb) r2, length-append (unsigned (length verb)) verb) in
    ap deliver_at (regroup_5 (unsigned question) (desc_bytes target) (text_bytes verb) (unsigned (count args)) (members_bytes args) rest)
    ∙ rw (unsigned_again question r4 is.0, target_again target r3 is.1, text_again (length r3) verb r2 is.2 within, few_again (count args) r1 is.3, args_again args 0 rest is.4) refl

resolve_again : (subject : Described) (to : Outcome) (rest : List ℕ) → IsOp (Resolve subject to) → resolve_at ((desc_bytes subject ++ outcome_bytes to) ++ rest) ≡ Some (Resolve subject to, rest)
unfolding resolve_at IsOp
resolve_again subject to rest is =
    ap resolve_at (append_assoc (desc_bytes subject) (outcome_bytes to) rest)
    ∙ rw (subject_again subject (outcome_bytes to ++ rest) is.0, outcome_again to rest is.1) refl

provide_again : (target : Described) (s : ℕ) (rest : List ℕ) → IsOp (Provide target s) → provide_at ((desc_bytes target ++ swiss s) ++ rest) ≡ Some (Provide target s, rest)
unfolding provide_at IsOp
provide_again target s rest is =
    ap provide_at (append_assoc (desc_bytes target) (swiss s) rest)
    ∙ rw (target_again target (swiss s ++ rest) is.0, low_first_again 16 s rest is.1) refl

accept_again : (question provider s : ℕ) (rest : List ℕ) → IsOp (Accept question provider s) → accept_at ((unsigned question ++ (provider ∷ swiss s)) ++ rest) ≡ Some (Accept question provider s, rest)
unfolding accept_at IsOp
accept_again question provider s rest is =
    ap accept_at (append_assoc (unsigned question) (provider ∷ swiss s) rest)
    ∙ rw (unsigned_again question (provider ∷ (swiss s ++ rest)) is.0, lt-ltb provider 16 is.1, low_first_again 16 s rest is.2) refl

shorten_again : (subject : Described) (s : ℕ) (rest : List ℕ) → IsOp (Shorten subject s) → shorten_at ((desc_bytes subject ++ swiss s) ++ rest) ≡ Some (Shorten subject s, rest)
unfolding shorten_at IsOp
shorten_again subject s rest is =
    ap shorten_at (append_assoc (desc_bytes subject) (swiss s) rest)
    ∙ rw (target_again subject (swiss s ++ rest) is.0, low_first_again 16 s rest is.1) refl

regroup_4 : (a b c d r : List ℕ) → (a ++ (b ++ (c ++ d))) ++ r ≡ a ++ (b ++ (c ++ (d ++ r)))
regroup_4 a b c d r = simp append_assoc

deliver_only_again : (target : Described) (verb : List ℕ) (args : Members) (rest : List ℕ) → IsOp (DeliverOnly target verb args)
    → deliver_only_at ((desc_bytes target ++ (text_bytes verb ++ (unsigned (count args) ++ members_bytes args))) ++ rest) ≡ Some (DeliverOnly target verb args, rest)
unfolding deliver_only_at IsOp
deliver_only_again target verb args rest is =
    let r1 = members_bytes args ++ rest in
    let r2 = unsigned (count args) ++ r1 in
    let r3 = text_bytes verb ++ r2 in
    let within : length verb ≤ length r3 = omega (arith, length-append (text_bytes verb) r2, length-append (unsigned (length verb)) verb) in
    ap deliver_only_at (regroup_4 (desc_bytes target) (text_bytes verb) (unsigned (count args)) (members_bytes args) rest)
    ∙ rw (target_again target r3 is.0, text_again (length r3) verb r2 is.1 within, few_again (count args) r1 is.2, args_again args 0 rest is.3) refl

-- what is spelled so is read, whatever follows it
pub op_again : (op : Operation) (rest : List ℕ) → IsOp op → op_at (spelling op ++ rest) ≡ Some (op, rest)
unfolding op_at spelling
op_again (Deliver question target verb args) rest is = deliver_again question target verb args rest is
op_again (Resolve subject to) rest is = resolve_again subject to rest is
op_again (Provide target s) rest is = provide_again target s rest is
op_again (Accept question provider s) rest is = accept_again question provider s rest is
op_again (Shorten subject s) rest is = shorten_again subject s rest is
op_again (DeliverOnly target verb args) rest is = deliver_only_again target verb args rest is

-- no spelling begins another
pub one_spelling_law : (a b : Operation) (x y : List ℕ) → IsOp a → IsOp b → spelling a ++ x ≡ spelling b ++ y → (a ≡ b) × (x ≡ y)
one_spelling_law a b x y is_a is_b e =
    let both : (a, x) ≡ (b, y) = some_is (a, x) (b, y) (sym (op_again a x is_a) ∙ ap op_at e ∙ op_again b y is_b) in
    (ap (λ (p : Operation × List ℕ). p.0) both, ap (λ (p : Operation × List ℕ). p.1) both)
