-- A description that is spelled is read again, whatever follows it.
use Rattle.std.proofs.Common.{◌≡◌, ℕ, zero, suc, ◌+◌, ◌-◌, ◌^◌, ◌<◌, ◌≤◌, true, false, List, ◌++◌, length, Option, refl, ap, ◌∙◌, append_assoc, arith}
use Rattle.std.specs.Prelude.{pos, negsuc}
use Rattle.std.proofs.lemmas.Bool.{lt-ltb}
use Rattle.std.proofs.lemmas.List.{length-append}
use Rattle.def_op.specs.declared.op.Plain.{Plain}
use Rattle.def_op.specs.declared.op.Plain.TheVariants as plain
use Rattle.def_op.specs.Numbers.{unsigned}
use Rattle.def_op.specs.Frames.{Described, Members, Datum, ListOf, Broken, YourExport, YourAnswer, MyExport, MyPromise, Third, MyAnswer, none, more, count, text_bytes, plain_bytes, desc_bytes, members_bytes, weight, weights, height, heights, PlainFits, DescFits, MembersFit, WithinLimits, IsDesc, AreDescs}
use Rattle.def_op.specs.Reading.{Read, read, leaf_at, first_at, members_at, list_at, no_list, desc_at, free_room, free_at}
use Rattle.ev_op.proofs.NumberLemmas.{unsigned_again, signed_again, low_first_again}
use Rattle.ev_op.proofs.LeafLemmas.{text_again, character_again}

weight_least : (d : Described) → 1 ≤ weight d
unfolding weight
weight_least (Datum (plain.Text t)) = omega arith
weight_least (Datum plain.Null) = omega arith
weight_least (Datum (plain.Bool b)) = omega arith
weight_least (Datum (plain.Int z)) = omega arith
weight_least (Datum (plain.Char c)) = omega arith
weight_least (Datum (plain.Prim p)) = omega arith
weight_least (ListOf ds) = omega arith
weight_least (Broken t) = omega arith
weight_least (YourExport n) = omega arith
weight_least (YourAnswer n) = omega arith
weight_least (MyExport n) = omega arith
weight_least (MyPromise n) = omega arith
weight_least (Third v s) = omega arith
weight_least (MyAnswer n) = omega arith

count_least : (ds : Members) → count ds ≤ weights ds
unfolding count weights weight
count_least none = omega arith
count_least (more d ds) = omega (arith, count_least ds, weight_least d)

abbrev Lists : Type 0
Lists = ℕ → List ℕ → Option (Read Described)

plain_again : (p : Plain) (lists : Lists) (room : ℕ) (rest : List ℕ) → PlainFits p → weight (Datum p) ≤ suc room
    → first_at lists (suc room) (plain_bytes p ++ rest) ≡ read (Datum p) (suc room - weight (Datum p)) rest
unfolding first_at leaf_at plain_bytes PlainFits weight
plain_again plain.Null lists room rest fits le = let e : suc room - 1 ≡ room = omega arith in rw e refl
plain_again (plain.Bool true) lists room rest fits le = let e : suc room - 1 ≡ room = omega arith in rw e refl
plain_again (plain.Bool false) lists room rest fits le = let e : suc room - 1 ≡ room = omega arith in rw e refl
plain_again (plain.Int (pos n)) lists room rest fits le = let e : suc room - 1 ≡ room = omega arith in rw (e, signed_again (pos n) rest fits) refl
plain_again (plain.Int (negsuc n)) lists room rest fits le = let e : suc room - 1 ≡ room = omega arith in rw (e, signed_again (negsuc n) rest fits) refl
plain_again (plain.Char c) lists room rest fits le = let e : suc room - 1 ≡ room = omega arith in rw (e, character_again c rest fits) refl
plain_again (plain.Text t) lists room rest fits le =
    let e : suc room - (1 + length t) ≡ room - length t = omega arith in
    rw (e, text_again room t rest fits (omega arith)) refl
plain_again (plain.Prim p) lists room rest fits le = let e : suc room - 1 ≡ room = omega arith in rw (e, fits) refl

-- what is no list is read whatever lists are
abbrev IsLeaf : Described → Type 0
IsLeaf (ListOf ds) = ⊥
IsLeaf d = Unit {0}

leaf_again : (d : Described) (lists : Lists) (room : ℕ) (rest : List ℕ) → IsLeaf d → DescFits d → weight d ≤ suc room
    → first_at lists (suc room) (desc_bytes d ++ rest) ≡ read d (suc room - weight d) rest
unfolding first_at leaf_at desc_bytes DescFits weight
leaf_again (Datum p) lists room rest leaf fits le = plain_again p lists room rest fits le
leaf_again (ListOf ds) lists room rest leaf fits le = absurd leaf
leaf_again (Broken t) lists room rest leaf fits le =
    let e : suc room - (1 + length t) ≡ room - length t = omega arith in
    rw (e, text_again room t rest fits (omega arith)) refl
leaf_again (YourExport n) lists room rest leaf fits le = let e : suc room - 1 ≡ room = omega arith in rw (e, unsigned_again n rest fits) refl
leaf_again (YourAnswer n) lists room rest leaf fits le = let e : suc room - 1 ≡ room = omega arith in rw (e, unsigned_again n rest fits) refl
leaf_again (MyExport n) lists room rest leaf fits le = let e : suc room - 1 ≡ room = omega arith in rw (e, unsigned_again n rest fits) refl
leaf_again (MyPromise n) lists room rest leaf fits le = let e : suc room - 1 ≡ room = omega arith in rw (e, unsigned_again n rest fits) refl
leaf_again (Third v s) lists room rest leaf fits le =
    let e : suc room - 1 ≡ room = omega arith in
    rw (e, lt-ltb v 16 fits.0, low_first_again 16 s rest fits.1) refl
leaf_again (MyAnswer n) lists room rest leaf fits le = let e : suc room - 1 ≡ room = omega arith in rw (e, unsigned_again n rest fits) refl

-- a list, where its members are read again
list_again : (ds : Members) (one : Lists) (room : ℕ) (rest : List ℕ) → weights ds ≤ room → room < 2 ^ 64
    → members_at one (count ds) room (members_bytes ds ++ rest) ≡ read ds (room - weights ds) rest
    → first_at (list_at one) (suc room) (desc_bytes (ListOf ds) ++ rest) ≡ read (ListOf ds) (suc room - weight (ListOf ds)) rest
unfolding first_at list_at desc_bytes weight
list_again ds one room rest le small again =
    let few : count ds < 2 ^ 64 = omega (arith, count_least ds) in
    let e : suc room - (1 + weights ds) ≡ room - weights ds = omega arith in
    let grouped : (unsigned (count ds) ++ members_bytes ds) ++ rest ≡ unsigned (count ds) ++ (members_bytes ds ++ rest) = append_assoc (unsigned (count ds)) (members_bytes ds) rest in
    ap (λ (bs : List ℕ). list_at one room bs) grouped ∙ rw (e, unsigned_again (count ds) (members_bytes ds ++ rest) few, again) refl

-- one level of a description, whose lists are read so
opened : (h : ℕ) → Lists
opened zero = no_list
opened (suc h) = list_at (desc_at h)

desc_at-opened : (h room : ℕ) (bytes : List ℕ) → desc_at h room bytes ≡ first_at (opened h) room bytes
unfolding desc_at opened
desc_at-opened zero room bytes = refl
desc_at-opened (suc h) room bytes = refl

leaf_read : (d : Described) (h room : ℕ) (rest : List ℕ) → IsLeaf d → DescFits d → weight d ≤ room → desc_at h room (desc_bytes d ++ rest) ≡ read d (room - weight d) rest
leaf_read d h zero rest leaf fits le = absurd (omega (arith, weight_least d))
leaf_read d h (suc room) rest leaf fits le = desc_at-opened h (suc room) (desc_bytes d ++ rest) ∙ leaf_again d (opened h) room rest leaf fits le

list_read : (ds : Members) (h room : ℕ) (rest : List ℕ) → weight (ListOf ds) ≤ room → room < 2 ^ 64 → height (ListOf ds) ≤ h
    → ((g left : ℕ) → heights ds ≤ g → weights ds ≤ left → left < 2 ^ 64 → members_at (desc_at g) (count ds) left (members_bytes ds ++ rest) ≡ read ds (left - weights ds) rest)
    → desc_at h room (desc_bytes (ListOf ds) ++ rest) ≡ read (ListOf ds) (room - weight (ListOf ds)) rest
unfolding weight height opened
list_read ds zero room rest le small low again = absurd (omega arith)
list_read ds (suc h) zero rest le small low again = absurd (omega arith)
list_read ds (suc h) (suc room) rest le small low again =
    desc_at-opened (suc h) (suc room) (desc_bytes (ListOf ds) ++ rest)
    ∙ list_again ds (desc_at h) room rest (omega arith) (omega arith) (again h room (omega arith) (omega arith) (omega arith))

member_step : (h room n : ℕ) (d : Described) (ds : Members) (rest : List ℕ) → weight d + weights ds ≤ room
    → desc_at h room (desc_bytes d ++ (members_bytes ds ++ rest)) ≡ read d (room - weight d) (members_bytes ds ++ rest)
    → members_at (desc_at h) n (room - weight d) (members_bytes ds ++ rest) ≡ read ds ((room - weight d) - weights ds) rest
    → members_at (desc_at h) (1 + n) room ((desc_bytes d ++ members_bytes ds) ++ rest) ≡ read (more d ds) (room - (weight d + weights ds)) rest
unfolding members_at
member_step h room n d ds rest le first others =
    let k : 1 + n ≡ suc n = omega arith in
    let e : room - (weight d + weights ds) ≡ (room - weight d) - weights ds = omega arith in
    ap (members_at (desc_at h) (1 + n) room) (append_assoc (desc_bytes d) (members_bytes ds) rest) ∙ rw (k, e, first, others) refl

none_again : (h room : ℕ) (rest : List ℕ) → members_at (desc_at h) (count none) room (members_bytes none ++ rest) ≡ read none (room - weights none) rest
unfolding members_at count members_bytes weights
none_again h room rest = let e : room - 0 ≡ room = omega arith in rw e refl

mutual
  unfolding DescFits weight height count members_bytes

  pub desc_again : (d : Described) (h room : ℕ) (rest : List ℕ) → DescFits d → weight d ≤ room → room < 2 ^ 64 → height d ≤ h
      → desc_at h room (desc_bytes d ++ rest) ≡ read d (room - weight d) rest
  desc_again (ListOf ds) h room rest fits le small low =
      list_read ds h room rest le small low (λ g left lows les smalls. members_again ds g left rest fits les smalls lows)
  desc_again (Datum p) h room rest fits le small low = leaf_read (Datum p) h room rest tt fits le
  desc_again (Broken t) h room rest fits le small low = leaf_read (Broken t) h room rest tt fits le
  desc_again (YourExport n) h room rest fits le small low = leaf_read (YourExport n) h room rest tt fits le
  desc_again (YourAnswer n) h room rest fits le small low = leaf_read (YourAnswer n) h room rest tt fits le
  desc_again (MyExport n) h room rest fits le small low = leaf_read (MyExport n) h room rest tt fits le
  desc_again (MyPromise n) h room rest fits le small low = leaf_read (MyPromise n) h room rest tt fits le
  desc_again (Third v s) h room rest fits le small low = leaf_read (Third v s) h room rest tt fits le
  desc_again (MyAnswer n) h room rest fits le small low = leaf_read (MyAnswer n) h room rest tt fits le

  pub members_again : (ds : Members) (h room : ℕ) (rest : List ℕ) → MembersFit ds → weights ds ≤ room → room < 2 ^ 64 → heights ds ≤ h
      → members_at (desc_at h) (count ds) room (members_bytes ds ++ rest) ≡ read ds (room - weights ds) rest
  members_again none h room rest fits le small low = none_again h room rest
  members_again (more d ds) h room rest fits le small low =
      member_step h room (count ds) d ds rest le
      (desc_again d h room (members_bytes ds ++ rest) fits.0 (omega arith) small (omega arith))
      (members_again ds h (room - weight d) rest fits.1 (omega arith) (omega arith) (omega arith))

-- ---- a description round which no list stands

text_long : (b : ℕ) (t rest : List ℕ) → 1 + length t ≤ suc (length (text_bytes t ++ rest))
text_long b t rest =
    omega (arith, length-append (text_bytes t) rest, length-append (unsigned (length t)) t)

roomy_at : (d : Described) (rest : List ℕ) → IsLeaf d → weight d ≤ free_room (desc_bytes d ++ rest)
unfolding weight desc_bytes plain_bytes
roomy_at (Datum plain.Null) rest leaf = omega arith
roomy_at (Datum (plain.Bool true)) rest leaf = omega arith
roomy_at (Datum (plain.Bool false)) rest leaf = omega arith
roomy_at (Datum (plain.Int z)) rest leaf = omega arith
roomy_at (Datum (plain.Char c)) rest leaf = omega arith
roomy_at (Datum (plain.Text t)) rest leaf = text_long 5 t rest
roomy_at (Datum (plain.Prim p)) rest leaf = omega arith
roomy_at (ListOf ds) rest leaf = absurd leaf
roomy_at (Broken t) rest leaf = text_long 8 t rest
roomy_at (YourExport n) rest leaf = omega arith
roomy_at (YourAnswer n) rest leaf = omega arith
roomy_at (MyExport n) rest leaf = omega arith
roomy_at (MyPromise n) rest leaf = omega arith
roomy_at (Third v s) rest leaf = omega arith
roomy_at (MyAnswer n) rest leaf = omega arith

leaf_low : (d : Described) → IsLeaf d → height d ≤ 100
unfolding height
leaf_low (Datum p) leaf = omega arith
leaf_low (ListOf ds) leaf = absurd leaf
leaf_low (Broken t) leaf = omega arith
leaf_low (YourExport n) leaf = omega arith
leaf_low (YourAnswer n) leaf = omega arith
leaf_low (MyExport n) leaf = omega arith
leaf_low (MyPromise n) leaf = omega arith
leaf_low (Third v s) leaf = omega arith
leaf_low (MyAnswer n) leaf = omega arith

free_from : (d : Described) (room left : ℕ) (rest : List ℕ) → desc_at 100 (free_room (desc_bytes d ++ rest)) (desc_bytes d ++ rest) ≡ read d left rest
    → free_at room (desc_bytes d ++ rest) ≡ read d room rest
unfolding free_at
free_from d room left rest e = rw e refl

free_leaf : (d : Described) (room : ℕ) (rest : List ℕ) → IsLeaf d → DescFits d → free_at room (desc_bytes d ++ rest) ≡ read d room rest
free_leaf d room rest leaf fits =
    let free = free_room (desc_bytes d ++ rest) in
    free_from d room (free - weight d) rest (leaf_read d 100 free rest leaf fits (roomy_at d rest leaf))

list_room : (ds : Members) (rest : List ℕ) → free_room (desc_bytes (ListOf ds) ++ rest) ≡ 65536
unfolding desc_bytes
list_room ds rest = refl

free_list : (ds : Members) (room : ℕ) (rest : List ℕ) → IsDesc (ListOf ds) → free_at room (desc_bytes (ListOf ds) ++ rest) ≡ read (ListOf ds) room rest
unfolding WithinLimits
free_list ds room rest is =
    let free : free_room (desc_bytes (ListOf ds) ++ rest) ≡ 65536 = list_room ds rest in
    free_from (ListOf ds) room (65536 - weight (ListOf ds)) rest
    (ap (λ (n : ℕ). desc_at 100 n (desc_bytes (ListOf ds) ++ rest)) free ∙ desc_again (ListOf ds) 100 65536 rest is.0 is.1.0 (omega arith) is.1.1)

pub free_again : (d : Described) (room : ℕ) (rest : List ℕ) → IsDesc d → free_at room (desc_bytes d ++ rest) ≡ read d room rest
free_again (ListOf ds) room rest is = free_list ds room rest is
free_again (Datum p) room rest is = free_leaf (Datum p) room rest tt is.0
free_again (Broken t) room rest is = free_leaf (Broken t) room rest tt is.0
free_again (YourExport n) room rest is = free_leaf (YourExport n) room rest tt is.0
free_again (YourAnswer n) room rest is = free_leaf (YourAnswer n) room rest tt is.0
free_again (MyExport n) room rest is = free_leaf (MyExport n) room rest tt is.0
free_again (MyPromise n) room rest is = free_leaf (MyPromise n) room rest tt is.0
free_again (Third v s) room rest is = free_leaf (Third v s) room rest tt is.0
free_again (MyAnswer n) room rest is = free_leaf (MyAnswer n) room rest tt is.0

pub args_again : (ds : Members) (room : ℕ) (rest : List ℕ) → AreDescs ds → members_at free_at (count ds) room (members_bytes ds ++ rest) ≡ read ds room rest
unfolding members_at members_bytes count AreDescs
args_again none room rest are = refl
args_again (more d ds) room rest are =
    let k : 1 + count ds ≡ suc (count ds) = omega arith in
    ap (members_at free_at (1 + count ds) room) (append_assoc (desc_bytes d) (members_bytes ds) rest)
    ∙ rw (k, free_again d room (members_bytes ds ++ rest) are.0, args_again ds room rest are.1) refl
