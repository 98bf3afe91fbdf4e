-- What is read as a description is spelled so.
use Rattle.std.proofs.Common.{◌≡◌, ℕ, zero, suc, ◌+◌, ◌-◌, ◌^◌, ◌<◌, ◌≤◌, ⊎_elim, true, false, cond, ltb, List, [], ◌∷◌, ◌++◌, length, Option, Some, refl, sym, ap, subst, ◌∙◌, arith}
use Rattle.std.specs.Prelude.{ℤ, pos, negsuc}
use Rattle.std.proofs.lemmas.Bool.{ltb-true}
use Rattle.def_op.specs.declared.op.Plain.TheVariants as plain
use Rattle.def_op.specs.declared.kind.Kind.{Kind}
use Rattle.def_op.specs.declared.kind.Kind.TheVariants as kind
use Rattle.def_op.specs.Numbers.{unsigned, signed, swiss, is_primitive}
use Rattle.def_op.specs.Frames.{Described, Members, Datum, ListOf, Broken, YourExport, YourAnswer, MyExport, MyPromise, Third, MyAnswer, none, more, count, text_bytes, plain_bytes, desc_bytes, members_bytes, weight, weights, height, heights, PlainFits, DescFits, MembersFit, WithinLimits, IsDesc, AreDescs}
use Rattle.def_op.specs.Reading.{◌>>=◌, unsigned_at, signed_at, swiss_at, text_at, character_at, vat_at, primitive_at, kind_at, Read, read, is_list, leaf_at, first_at, members_at, list_at, no_list, desc_at, free_room, free_at}
use Rattle.ev_op.proofs.NumberLemmas.{bind_some, some_is, none_is, chosen, IsBytes, IsBytes-rest, Takes, Takes-then, Takes-cons, IsSigned, unsigned_takes, signed_takes, low_first_takes}
use Rattle.ev_op.proofs.LeafLemmas.{TextRead, text_takes, character_takes, byte_takes, code, kind_takes}

-- what was read as a description in which at most h lists stand in each other, where so much room was left
pub record DescRead (h room : ℕ) (bytes : List ℕ) (d : Read Described) : Type 0 where
  pub takes : Takes bytes (desc_bytes d.value) d.rest
  pub fits : DescFits d.value
  pub weighs : d.room + weight d.value ≡ room
  pub low : height d.value ≤ h

abbrev made : Described → ℕ → List ℕ → Read Described
made v room rest = record { value = v; room = room; rest = rest }

-- a description of one item that weighs 1
light : (h b room : ℕ) (bytes rest text : List ℕ) (v : Described) → Takes bytes text rest → desc_bytes v ≡ b ∷ text → DescFits v → weight v ≡ 1 → height v ≡ 0
    → DescRead h (suc room) (b ∷ bytes) (made v room rest)
light h b room bytes rest text v t spelled fits one flat = record {
  takes = record { parts = ap (λ (s : List ℕ). b ∷ s) t.parts ∙ ap (λ (s : List ℕ). s ++ rest) (sym spelled); fits = t.fits };
  fits = fits;
  weighs = omega (arith, one);
  low = omega (arith, flat);
}

-- a text, or a broken value with its problem
heavy : (h b room : ℕ) (bytes : List ℕ) (x : List ℕ × List ℕ) (v : Described) → TextRead room bytes x → desc_bytes v ≡ b ∷ text_bytes x.0 → DescFits v → weight v ≡ 1 + length x.0 → height v ≡ 0
    → DescRead h (suc room) (b ∷ bytes) (made v (room - length x.0) x.1)
heavy h b room bytes x v t spelled fits much flat = record {
  takes = record { parts = ap (λ (s : List ℕ). b ∷ s) t.takes.parts ∙ ap (λ (s : List ℕ). s ++ x.1) (sym spelled); fits = t.takes.fits };
  fits = fits;
  weighs = omega (arith, much, t.within);
  low = omega (arith, flat);
}

nothing : (bytes : List ℕ) → IsBytes bytes → Takes bytes [] bytes
nothing bytes fits = record { parts = refl; fits = fits }

counted : (h b room : ℕ) (bytes : List ℕ) (d : Read Described) (f : ℕ → Described) → IsBytes bytes → (unsigned_at bytes >>= λ n. read (f n.0) room n.1) ≡ Some d
    → ((n : ℕ) → desc_bytes (f n) ≡ b ∷ unsigned n) → ((n : ℕ) → n < 2 ^ 64 → DescFits (f n)) → ((n : ℕ) → weight (f n) ≡ 1) → ((n : ℕ) → height (f n) ≡ 0)
    → DescRead h (suc room) (b ∷ bytes) d
counted h b room bytes d f fits e spelled fit one flat =
    let q = bind_some (unsigned_at bytes) (λ n. read (f n.0) room n.1) d e in
    let t = unsigned_takes bytes q.0 fits q.1 in
    subst (DescRead h (suc room) (b ∷ bytes)) (some_is (made (f q.0.0) room q.0.1) d q.2)
    (light h b room bytes q.0.1 (unsigned q.0.0) (f q.0.0) t.0 (spelled q.0.0) (fit q.0.0 t.1) (one q.0.0) (flat q.0.0))

signed_fits : (z : ℤ) → IsSigned z → PlainFits (plain.Int z)
unfolding PlainFits
signed_fits (pos n) h = h
signed_fits (negsuc n) h = h

leaf_takes : (h : ℕ) (k : Kind) (room : ℕ) (bytes : List ℕ) (d : Read Described) → IsBytes bytes → leaf_at k room bytes ≡ Some d → DescRead h (suc room) (code k ∷ bytes) d
unfolding leaf_at desc_bytes plain_bytes DescFits PlainFits weight height
leaf_takes h kind.Null room bytes d fits e = subst (DescRead h (suc room) (0 ∷ bytes)) (some_is (made (Datum plain.Null) room bytes) d e) (light h 0 room bytes bytes [] (Datum plain.Null) (nothing bytes fits) refl tt refl refl)
leaf_takes h kind.False room bytes d fits e = subst (DescRead h (suc room) (1 ∷ bytes)) (some_is (made (Datum (plain.Bool false)) room bytes) d e) (light h 1 room bytes bytes [] (Datum (plain.Bool false)) (nothing bytes fits) refl tt refl refl)
leaf_takes h kind.True room bytes d fits e = subst (DescRead h (suc room) (2 ∷ bytes)) (some_is (made (Datum (plain.Bool true)) room bytes) d e) (light h 2 room bytes bytes [] (Datum (plain.Bool true)) (nothing bytes fits) refl tt refl refl)
leaf_takes h kind.Integer room bytes d fits e =
    let q = bind_some (signed_at bytes) (λ z. read (Datum (plain.Int z.0)) room z.1) d e in
    let t = signed_takes bytes q.0 fits q.1 in
    subst (DescRead h (suc room) (3 ∷ bytes)) (some_is (made (Datum (plain.Int q.0.0)) room q.0.1) d q.2)
    (light h 3 room bytes q.0.1 (signed q.0.0) (Datum (plain.Int q.0.0)) t.0 refl (signed_fits q.0.0 t.1) refl refl)
leaf_takes h kind.Character room bytes d fits e =
    let q = bind_some (character_at bytes) (λ c. read (Datum (plain.Char c.0)) room c.1) d e in
    let t = character_takes bytes q.0 fits q.1 in
    subst (DescRead h (suc room) (4 ∷ bytes)) (some_is (made (Datum (plain.Char q.0.0)) room q.0.1) d q.2)
    (light h 4 room bytes q.0.1 (unsigned q.0.0) (Datum (plain.Char q.0.0)) t.0 refl t.1 refl refl)
leaf_takes h kind.Text room bytes d fits e =
    let q = bind_some (text_at room bytes) (λ t. read (Datum (plain.Text t.0)) (room - length t.0) t.1) d e in
    let t = text_takes room bytes q.0 fits q.1 in
    subst (DescRead h (suc room) (5 ∷ bytes)) (some_is (made (Datum (plain.Text q.0.0)) (room - length q.0.0) q.0.1) d q.2)
    (heavy h 5 room bytes q.0 (Datum (plain.Text q.0.0)) t refl t.fits refl refl)
leaf_takes h kind.List room bytes d fits e = absurd (none_is d e)
leaf_takes h kind.Primitive room bytes d fits e =
    let q = bind_some (primitive_at bytes) (λ p. read (Datum (plain.Prim p.0)) room p.1) d e in
    let t = byte_takes is_primitive bytes q.0 fits q.1 in
    subst (DescRead h (suc room) (7 ∷ bytes)) (some_is (made (Datum (plain.Prim q.0.0)) room q.0.1) d q.2)
    (light h 7 room bytes q.0.1 (q.0.0 ∷ []) (Datum (plain.Prim q.0.0)) t.0 refl t.1 refl refl)
leaf_takes h kind.Broken room bytes d fits e =
    let q = bind_some (text_at room bytes) (λ t. read (Broken t.0) (room - length t.0) t.1) d e in
    let t = text_takes room bytes q.0 fits q.1 in
    subst (DescRead h (suc room) (8 ∷ bytes)) (some_is (made (Broken q.0.0) (room - length q.0.0) q.0.1) d q.2)
    (heavy h 8 room bytes q.0 (Broken q.0.0) t refl t.fits refl refl)
leaf_takes h kind.YourExport room bytes d fits e = counted h 9 room bytes d YourExport fits e (λ n. refl) (λ n lt. lt) (λ n. refl) (λ n. refl)
leaf_takes h kind.YourAnswer room bytes d fits e = counted h 10 room bytes d YourAnswer fits e (λ n. refl) (λ n lt. lt) (λ n. refl) (λ n. refl)
leaf_takes h kind.MyExport room bytes d fits e = counted h 11 room bytes d MyExport fits e (λ n. refl) (λ n lt. lt) (λ n. refl) (λ n. refl)
leaf_takes h kind.MyPromise room bytes d fits e = counted h 12 room bytes d MyPromise fits e (λ n. refl) (λ n lt. lt) (λ n. refl) (λ n. refl)
leaf_takes h kind.Third room bytes d fits e =
    let q = bind_some (vat_at bytes) (λ v. swiss_at v.1 >>= λ s. read (Third v.0 s.0) room s.1) d e in
    let r = bind_some (swiss_at q.0.1) (λ s. read (Third q.0.0 s.0) room s.1) d q.2 in
    let t = byte_takes (λ b. ltb b 16) bytes q.0 fits q.1 in
    let u = low_first_takes 16 q.0.1 r.0 t.0.fits r.1 in
    subst (DescRead h (suc room) (13 ∷ bytes)) (some_is (made (Third q.0.0 r.0.0) room r.0.1) d r.2)
    (light h 13 room bytes r.0.1 (q.0.0 ∷ swiss r.0.0) (Third q.0.0 r.0.0) (Takes-then bytes (q.0.0 ∷ []) q.0.1 (swiss r.0.0) r.0.1 t.0 u.0) refl (ltb-true q.0.0 16 t.1, u.1) refl refl)
leaf_takes h kind.MyAnswer room bytes d fits e = counted h 14 room bytes d MyAnswer fits e (λ n. refl) (λ n lt. lt) (λ n. refl) (λ n. refl)

-- ---- lists

pub record MembersRead (h n room : ℕ) (bytes : List ℕ) (ds : Read Members) : Type 0 where
  pub takes : Takes bytes (members_bytes ds.value) ds.rest
  pub fits : MembersFit ds.value
  pub weighs : ds.room + weights ds.value ≡ room
  pub low : heights ds.value ≤ h
  pub counts : count ds.value ≡ n

-- a reader of descriptions is right
abbrev IsRight : ℕ → (ℕ → List ℕ → Option (Read Described)) → Type 0
IsRight h one = (room : ℕ) (bytes : List ℕ) (d : Read Described) → IsBytes bytes → one room bytes ≡ Some d → DescRead h room bytes d

abbrev made_all : Members → ℕ → List ℕ → Read Members
made_all v room rest = record { value = v; room = room; rest = rest }

members_take : (h : ℕ) (one : ℕ → List ℕ → Option (Read Described)) → IsRight h one → (n room : ℕ) (bytes : List ℕ) (ds : Read Members) → IsBytes bytes → members_at one n room bytes ≡ Some ds → MembersRead h n room bytes ds
unfolding members_at members_bytes MembersFit weights heights count
members_take h one right zero room bytes ds fits e =
    subst (MembersRead h zero room bytes) (some_is (made_all none room bytes) ds e)
    (record { takes = nothing bytes fits; fits = tt; weighs = omega arith; low = omega arith; counts = refl })
members_take h one right (suc n) room bytes ds fits e =
    let q = bind_some (one room bytes) (λ d. members_at one n d.room d.rest >>= λ ds. read (more d.value ds.value) ds.room ds.rest) ds e in
    let d = q.0 in
    let r = bind_some (members_at one n d.room d.rest) (λ ds. read (more d.value ds.value) ds.room ds.rest) ds q.2 in
    let others = r.0 in
    let first = right room bytes d fits q.1 in
    let second = members_take h one right n d.room d.rest others first.takes.fits r.1 in
    subst (MembersRead h (suc n) room bytes) (some_is (made_all (more d.value others.value) others.room others.rest) ds r.2) (record {
      takes = Takes-then bytes (desc_bytes d.value) d.rest (members_bytes others.value) others.rest first.takes second.takes;
      fits = (first.fits, second.fits);
      weighs = omega (arith, first.weighs, second.weighs);
      low = omega (arith, first.low, second.low);
      counts = omega (arith, second.counts);
    })

list_takes : (h : ℕ) (one : ℕ → List ℕ → Option (Read Described)) → IsRight h one → (room : ℕ) (bytes : List ℕ) (d : Read Described) → IsBytes bytes → list_at one room bytes ≡ Some d → DescRead (suc h) (suc room) (6 ∷ bytes) d
unfolding list_at desc_bytes DescFits weight height
list_takes h one right room bytes d fits e =
    let q = bind_some (unsigned_at bytes) (λ n. members_at one n.0 room n.1 >>= λ ds. read (ListOf ds.value) ds.room ds.rest) d e in
    let n = q.0.0 in
    let rest = q.0.1 in
    let r = bind_some (members_at one n room rest) (λ ds. read (ListOf ds.value) ds.room ds.rest) d q.2 in
    let ds = r.0 in
    let first = unsigned_takes bytes q.0 fits q.1 in
    let second = members_take h one right n room rest ds first.0.fits r.1 in
    let both = Takes-then bytes (unsigned n) rest (members_bytes ds.value) ds.rest first.0 second.takes in
    let counted = subst (λ (k : ℕ). Takes bytes (unsigned k ++ members_bytes ds.value) ds.rest) (sym second.counts) both in
    subst (DescRead (suc h) (suc room) (6 ∷ bytes)) (some_is (made (ListOf ds.value) ds.room ds.rest) d r.2) (record {
      takes = Takes-cons 6 bytes (unsigned (count ds.value) ++ members_bytes ds.value) ds.rest counted;
      fits = second.fits;
      weighs = omega (arith, second.weighs);
      low = omega (arith, second.low);
    })

-- ---- a description

is_list_code : (k : Kind) → is_list k ≡ true → code k ≡ 6
is_list_code kind.List h = refl
is_list_code kind.Null h = absurd cc
is_list_code kind.False h = absurd cc
is_list_code kind.True h = absurd cc
is_list_code kind.Integer h = absurd cc
is_list_code kind.Character h = absurd cc
is_list_code kind.Text h = absurd cc
is_list_code kind.Primitive h = absurd cc
is_list_code kind.Broken h = absurd cc
is_list_code kind.YourExport h = absurd cc
is_list_code kind.YourAnswer h = absurd cc
is_list_code kind.MyExport h = absurd cc
is_list_code kind.MyPromise h = absurd cc
is_list_code kind.Third h = absurd cc
is_list_code kind.MyAnswer h = absurd cc

first_takes : (h : ℕ) (lists : ℕ → List ℕ → Option (Read Described))
    → ((room : ℕ) (bytes : List ℕ) (d : Read Described) → IsBytes bytes → lists room bytes ≡ Some d → DescRead h (suc room) (6 ∷ bytes) d)
    → IsRight h (first_at lists)
unfolding first_at
first_takes h lists right zero bytes d fits e = absurd (none_is d e)
first_takes h lists right (suc room) bytes d fits e =
    let q = bind_some (kind_at bytes) (λ k. cond (is_list k.0) (lists room k.1) (leaf_at k.0 room k.1)) d e in
    let k = q.0.0 in
    let rest = q.0.1 in
    let first = kind_takes bytes q.0 q.1 in
    let fits' : IsBytes rest = IsBytes-rest (code k) rest (subst IsBytes first fits) in
    subst (λ (bs : List ℕ). DescRead h (suc room) bs d) (sym first)
    (⊎_elim
    (λ p. subst (λ (b : ℕ). DescRead h (suc room) (b ∷ rest) d) (sym (is_list_code k p.0)) (right room rest d fits' p.1))
    (λ p. leaf_takes h k room rest d fits' p.1)
    (chosen (is_list k) (lists room rest) (leaf_at k room rest) (Some d) q.2))

desc_takes : (h : ℕ) → IsRight h (desc_at h)
unfolding desc_at
desc_takes zero = first_takes zero no_list (λ room bytes d fits e. absurd (none_is d e))
desc_takes (suc h) = first_takes (suc h) (list_at (desc_at h)) (list_takes h (desc_at h) (desc_takes h))

-- ---- a description round which no list stands

pub record FreeRead (room : ℕ) (bytes : List ℕ) (d : Read Described) : Type 0 where
  pub takes : Takes bytes (desc_bytes d.value) d.rest
  pub is : IsDesc d.value
  pub same : d.room ≡ room

limits : (v : Described) (bytes rest : List ℕ) (left : ℕ) → bytes ≡ desc_bytes v ++ rest → left + weight v ≡ free_room bytes → height v ≤ 100 → WithinLimits v
unfolding WithinLimits desc_bytes
limits (ListOf ds) bytes rest left parts weighs low =
    let e : free_room bytes ≡ 65536 = ap free_room parts in
    (omega (arith, e, weighs), low)
limits (Datum p) bytes rest left parts weighs low = tt
limits (Broken t) bytes rest left parts weighs low = tt
limits (YourExport n) bytes rest left parts weighs low = tt
limits (YourAnswer n) bytes rest left parts weighs low = tt
limits (MyExport n) bytes rest left parts weighs low = tt
limits (MyPromise n) bytes rest left parts weighs low = tt
limits (Third v s) bytes rest left parts weighs low = tt
limits (MyAnswer n) bytes rest left parts weighs low = tt

pub free_takes : (room : ℕ) (bytes : List ℕ) (d : Read Described) → IsBytes bytes → free_at room bytes ≡ Some d → FreeRead room bytes d
unfolding free_at
free_takes room bytes d fits e =
    let q = bind_some (desc_at 100 (free_room bytes) bytes) (λ d. read d.value room d.rest) d e in
    let found = q.0 in
    let t = desc_takes 100 (free_room bytes) bytes found fits q.1 in
    subst (FreeRead room bytes) (some_is (made found.value room found.rest) d q.2)
    (record { takes = t.takes; is = (t.fits, limits found.value bytes found.rest found.room t.takes.parts t.weighs t.low); same = refl })

pub record ArgsRead (n : ℕ) (bytes : List ℕ) (ds : Read Members) : Type 0 where
  pub takes : Takes bytes (members_bytes ds.value) ds.rest
  pub are : AreDescs ds.value
  pub counts : count ds.value ≡ n

pub args_take : (n room : ℕ) (bytes : List ℕ) (ds : Read Members) → IsBytes bytes → members_at free_at n room bytes ≡ Some ds → ArgsRead n bytes ds
unfolding members_at members_bytes AreDescs count
args_take zero room bytes ds fits e =
    subst (ArgsRead zero bytes) (some_is (made_all none room bytes) ds e) (record { takes = nothing bytes fits; are = tt; counts = refl })
args_take (suc n) room bytes ds fits e =
    let q = bind_some (free_at room bytes) (λ d. members_at free_at n d.room d.rest >>= λ ds. read (more d.value ds.value) ds.room ds.rest) ds e in
    let d = q.0 in
    let r = bind_some (members_at free_at n d.room d.rest) (λ ds. read (more d.value ds.value) ds.room ds.rest) ds q.2 in
    let others = r.0 in
    let first = free_takes room bytes d fits q.1 in
    let second = args_take n d.room d.rest others first.takes.fits r.1 in
    subst (ArgsRead (suc n) bytes) (some_is (made_all (more d.value others.value) others.room others.rest) ds r.2) (record {
      takes = Takes-then bytes (desc_bytes d.value) d.rest (members_bytes others.value) others.rest first.takes second.takes;
      are = (first.is, second.are);
      counts = omega (arith, second.counts);
    })
