-- Items that pass say what an operation may.
use Rattle.std.proofs.Common.{◌≡◌, ℕ, suc, ◌≤◌, Bool, true, false, nat_lt, nat_eq, List, [], ◌∷◌, ◌++◌, length, slice_get, Option, Some, None, refl, ap, subst, sym, ◌∙◌, arith}
use Rattle.def_op.specs.declared.op.Plain.{Plain}
use Rattle.def_op.specs.declared.op.Plain.TheVariants as plain
use Rattle.def_op.specs.declared.spots.Part.{Part}
use Rattle.def_op.specs.declared.spots.Part.TheVariants.{Code, Number, Vat, Swiss, Other}
use Rattle.def_op.specs.Frames.{Described, Datum, ListOf, Broken, YourExport, YourAnswer, MyExport, MyPromise, Third, MyAnswer, Members, none, more, count}
use Rattle.def_hostile.specs.Judge.{Counts, Look, Passes, On, Off, passes_where, onward, same_kind, position_passes, numbered_by, is_elsewhere}
use Rattle.law_judge.specs.PartsOf.{plain_code, plain_parts, first_code, parts_behind, parts_all, parts_in}
use Rattle.law_judge.specs.Points.{Gathering, then_gather, allowed, is_third, at_position, in_described, in_members}
use Rattle.law_judge.proofs.Running.{run, same_look, then_look, splits, code_runs, number_runs, other_runs, swiss_runs, vat_runs}

-- what was gathered from one item to another
abbrev pub Gathers : Gathering → Look → Look → Type 0
Gathers f l m = (f l.new ≡ Some m.new) × (m.op ≡ l.op) × (l.index ≤ m.index)

-- where nothing stands behind an item
ends : (f : Gathering) (l m after : Look) → Gathers f l m → On m ≡ On after → Gathers f l after
ends f l m after g e = subst (λ (x : Look). Gathers f l x) (same_look m after e) g

module _ (vats me peer : ℕ) (c : Counts) where
  abbrev pub runs : List Part → Look → Passes
  runs = run vats me peer c

  abbrev pub saying : Described → Gathering
  saying d = in_described vats me peer c d

  -- ---- positions

  pub where_passes : (b : Bool) (l after : Look) → passes_where b (onward None l) ≡ On after → Gathers (allowed b) l after × (after.index ≡ suc l.index)
  unfolding passes_where onward allowed
  where_passes true l after e =
      let is = same_look (onward None l) after e in
      ((ap (λ (m : Look). Some m.new) is, ap (λ (m : Look). m.op) (sym is), omega (arith, ap (λ (m : Look). m.index) is)), ap (λ (m : Look). m.index) (sym is))
  where_passes false l after e = absurd cc

  position_new : (b object : Bool) (l after : Look) → passes_where b (onward None (record l { new = l.new ++ object ∷ [] })) ≡ On after
      → Gathers (λ new. allowed b (new ++ object ∷ [])) l after × (after.index ≡ suc l.index)
  unfolding passes_where onward allowed
  position_new true object l after e =
      let is = same_look (onward None (record l { new = l.new ++ object ∷ [] })) after e in
      ((ap (λ (m : Look). Some m.new) is, ap (λ (m : Look). m.op) (sym is), omega (arith, ap (λ (m : Look). m.index) is)), ap (λ (m : Look). m.index) (sym is))
  position_new false object l after e = absurd cc

  position_gathers : (object : Bool) (n : ℕ) (o : Option Bool) (l after : Look) → position_passes vats me peer c object n l o ≡ On after
      → Gathers (at_position vats me peer c object n o) l after × (after.index ≡ suc l.index)
  unfolding position_passes at_position
  position_gathers object n (Some k) l after e = where_passes (same_kind vats me peer c k object) l after e
  position_gathers object n None l after e = position_new (nat_eq n (length (c.imports ++ l.new))) object l after e

  -- ---- descriptions

  -- an item at the end
  alone : (p : Passes) (after : Look) → then_look (runs []) p ≡ On after → p ≡ On after
  alone (On l) after e = e
  alone Off after e = absurd cc

  -- what a description says, with the first byte in front
  abbrev pub Says : Described → Type 0
  Says d = (l after : Look) → 1 ≤ l.index → runs (parts_in d) l ≡ On after → Gathers (in_described vats me peer c d) l after

  -- behind the first byte
  begun : (f : Gathering) (b : ℕ) (l after : Look) → Gathers f (onward (Some b) l) after → Gathers f l after
  unfolding onward
  begun f b l after g = (g.0, g.1, omega (arith, g.2))

  passed_by : (f : Gathering) (l : Look) → f l.new ≡ Some l.new → (after : Look) → On (onward None l) ≡ On after → Gathers f l after
  unfolding onward
  passed_by f l same after e = ends f l (onward None l) after (same, refl, omega arith) e

  -- a code at the end
  bare : (f : Gathering) (b : ℕ) (l after : Look) → f l.new ≡ Some l.new → 1 ≤ l.index → runs (Code b ∷ []) l ≡ On after → Gathers f l after
  unfolding onward
  bare f b l after same some e = ends f l (onward (Some b) l) after (same, refl, omega arith) (code_runs vats me peer c b [] l after some e).1

  -- a code, and what is not looked at
  with_other : (f : Gathering) (b : ℕ) (l after : Look) → f l.new ≡ Some l.new → 1 ≤ l.index → runs (Code b ∷ Other ∷ []) l ≡ On after → Gathers f l after
  unfolding onward
  with_other f b l after same some e =
      begun f b l after (passed_by f (onward (Some b) l) same after (other_runs vats me peer c [] (onward (Some b) l) after (code_runs vats me peer c b (Other ∷ []) l after some e).1))

  -- a number behind the first byte
  number_behind : (b n : ℕ) (ps : List Part) (l after : Look) → 1 ≤ l.index → runs (Code b ∷ Number n ∷ ps) l ≡ On after → then_look (runs ps) (numbered_by vats me peer c n (Some b) (onward (Some b) l)) ≡ On after
  unfolding onward
  number_behind b n ps l after some e = number_runs vats me peer c n ps (onward (Some b) l) after (omega (arith, some)) (code_runs vats me peer c b (Number n ∷ ps) l after some e).1

  plain_says : (p : Plain) → Says (Datum p)
  unfolding first_code parts_behind plain_code plain_parts in_described numbered_by onward
  plain_says plain.Null l after some e = bare (saying (Datum plain.Null)) 0 l after refl some e
  plain_says (plain.Bool false) l after some e = bare (saying (Datum (plain.Bool false))) 1 l after refl some e
  plain_says (plain.Bool true) l after some e = bare (saying (Datum (plain.Bool true))) 2 l after refl some e
  plain_says (plain.Int z) l after some e = with_other (saying (Datum (plain.Int z))) 3 l after refl some e
  plain_says (plain.Char n) l after some e = begun (saying (Datum (plain.Char n))) 4 l after (passed_by (saying (Datum (plain.Char n))) (onward (Some 4) l) refl after (number_behind 4 n [] l after some e))
  plain_says (plain.Text t) l after some e = with_other (saying (Datum (plain.Text t))) 5 l after refl some e
  plain_says (plain.Prim n) l after some e = begun (saying (Datum (plain.Prim n))) 7 l after (passed_by (saying (Datum (plain.Prim n))) (onward (Some 7) l) refl after (number_behind 7 n [] l after some e))

  -- a name, with the place behind it
  abbrev pub Names : Described → Type 0
  Names d = (l after : Look) → 1 ≤ l.index → runs (parts_in d) l ≡ On after → Gathers (in_described vats me peer c d) l after × (after.index ≡ suc (suc l.index))

  name_says : (d : Described) (b n : ℕ) → ((l after : Look) → numbered_by vats me peer c n (Some b) (onward (Some b) l) ≡ On after → Gathers (in_described vats me peer c d) (onward (Some b) l) after × (after.index ≡ suc (onward (Some b) l).index))
      → (l after : Look) → 1 ≤ l.index → runs (Code b ∷ Number n ∷ []) l ≡ On after → Gathers (in_described vats me peer c d) l after × (after.index ≡ suc (suc l.index))
  unfolding onward
  name_says d b n says l after some e =
      let g = says l after (alone (numbered_by vats me peer c n (Some b) (onward (Some b) l)) after (number_behind b n [] l after some e)) in
      (begun (in_described vats me peer c d) b l after g.0, g.1)

  your_export_says : (n : ℕ) → Names (YourExport n)
  unfolding first_code parts_behind in_described numbered_by
  your_export_says n = name_says (YourExport n) 9 n (λ l after e. where_passes (nat_lt n c.exports) (onward (Some 9) l) after e)

  your_answer_says : (n : ℕ) → Names (YourAnswer n)
  unfolding first_code parts_behind in_described numbered_by
  your_answer_says n = name_says (YourAnswer n) 10 n (λ l after e. where_passes (nat_lt n c.answers) (onward (Some 10) l) after e)

  pub my_answer_says : (n : ℕ) → Names (MyAnswer n)
  unfolding first_code parts_behind in_described numbered_by
  my_answer_says n = name_says (MyAnswer n) 14 n (λ l after e. where_passes (nat_lt n c.questions) (onward (Some 14) l) after e)

  my_export_says : (n : ℕ) → Names (MyExport n)
  unfolding first_code parts_behind in_described numbered_by onward
  my_export_says n = name_says (MyExport n) 11 n (λ l after e. position_gathers true n (slice_get (c.imports ++ l.new) n) (onward (Some 11) l) after e)

  pub my_promise_says : (n : ℕ) → Names (MyPromise n)
  unfolding first_code parts_behind in_described numbered_by onward
  my_promise_says n = name_says (MyPromise n) 12 n (λ l after e. position_gathers false n (slice_get (c.imports ++ l.new) n) (onward (Some 12) l) after e)

  third_says : (host s : ℕ) → Says (Third host s)
  unfolding first_code parts_behind in_described is_third onward is_elsewhere allowed
  third_says host s l after some e =
      let code = (code_runs vats me peer c 13 (Vat host ∷ Swiss s ∷ []) l after some e).1 in
      let vat = vat_runs vats me peer c host (Swiss s ∷ []) (onward (Some 13) l) after code in
      let swiss = swiss_runs vats me peer c s [] (onward None (onward (Some 13) l)) after vat.1 in
      ends (saying (Third host s)) l (onward None (onward None (onward (Some 13) l))) after (rw vat.0 refl, refl, omega arith) swiss

  abbrev pub SayAll : Members → Type 0
  SayAll ds = (l after : Look) → 1 ≤ l.index → runs (parts_all ds) l ≡ On after → Gathers (in_members vats me peer c ds) l after

  list_says : (ds : Members) → SayAll ds → Says (ListOf ds)
  unfolding first_code parts_behind in_described onward numbered_by
  list_says ds all l after some e =
      let g = all (onward None (onward (Some 6) l)) after (omega (arith, some)) (number_behind 6 (count ds) (parts_all ds) l after some e) in
      (g.0, g.1, omega (arith, g.2))

  more_say : (d : Described) (ds : Members) → Says d → SayAll ds → SayAll (more d ds)
  unfolding parts_all in_members then_gather
  more_say d ds first others l after some e =
      let parts = splits vats me peer c (parts_in d) (parts_all ds) l after e in
      let g = first l parts.0 some parts.1 in
      let h = others parts.0 after (omega (arith, some, g.2)) parts.2 in
      (rw g.0 h.0, h.1 ∙ g.1, omega (arith, g.2, h.2))

  none_say : SayAll none
  unfolding parts_all in_members
  none_say l after some e = ends (in_members vats me peer c none) l l after (refl, refl, omega arith) e

  mutual
    unfolding first_code parts_behind in_described

    pub says : (d : Described) → Says d
    says (Datum p) l after some e = plain_says p l after some e
    says (ListOf ds) l after some e = list_says ds (all_say ds) l after some e
    says (Broken t) l after some e = with_other (saying (Broken t)) 8 l after refl some e
    says (YourExport n) l after some e = (your_export_says n l after some e).0
    says (YourAnswer n) l after some e = (your_answer_says n l after some e).0
    says (MyExport n) l after some e = (my_export_says n l after some e).0
    says (MyPromise n) l after some e = (my_promise_says n l after some e).0
    says (Third host s) l after some e = third_says host s l after some e
    says (MyAnswer n) l after some e = (my_answer_says n l after some e).0

    pub all_say : (ds : Members) → SayAll ds
    all_say none = none_say
    all_say (more d ds) = more_say d ds (says d) (all_say ds)
