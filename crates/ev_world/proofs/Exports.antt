-- What a vat exported keeps its position: the lists grow at their ends.
use Rattle.std.proofs.Common.{◌≡◌, ℕ, zero, suc, Bool, true, false, List, [], ◌∷◌, ◌++◌, get_or, length, refl, sym, ap, ◌∙◌, append_assoc, append-nil}
use Rattle.std.specs.Prelude.{drop, slice_set}
use Rattle.def_run.specs.Numbers.{all_written, written_on}
use Rattle.def_run.specs.Vats.{sight_for, unconnected}
use Rattle.def_machine.specs.State.{Passed, Passeds, Plain, AGift, Many, NoMore, More, Note, Deliver, Open, Ask, SettledTo, Elsewhere, Shorten, Put, Vat}
use Rattle.def_machine.specs.Values.{Value, Null, Flag, Number, Letter, Text, Prim, Broken, Items, Ref, Local}
use Rattle.def_run.specs.Connections.{Connection, Sight, exported_all, exported_as, exported_note, exported_passed, exported_value, put_on, stands_in}

-- the later list has more behind the first
abbrev pub Grows : {A : Type 0} → List A → List A → Type 0
Grows {A} xs ys = (zs : List A) × (ys ≡ xs ++ zs)

pub as_it_was : {A : Type 0} (xs : List A) → Grows xs xs
as_it_was xs = ([], sym (append-nil xs))

pub longer : {A : Type 0} (xs ys zs : List A) → Grows xs ys → Grows ys zs → Grows xs zs
longer {A} xs ys zs g h = (g.0 ++ h.0, h.1 ∙ ap (λ (ws : List A). ws ++ h.0) g.1 ∙ append_assoc xs g.0 h.0)

-- what is new behind so many
pub drop_more : {A : Type 0} (xs zs : List A) → drop (length xs) (xs ++ zs) ≡ zs
drop_more [] zs = refl
drop_more (x ∷ xs) zs = drop_more xs zs

-- ---- one note

module _ (S : Sight Local) (asked : List Local) where
  as_grows : (n : Local) (ns : List Local) → Grows ns (exported_as S asked n ns)
  unfolding exported_as
  as_grows n ns = by (S.own n) (stands_in S asked n) (stands_in S ns n)
    where
      by : (a b c : Bool) → Grows ns (elim a [ true ↦ elim b [ true ↦ ns | false ↦ elim c [ true ↦ ns | false ↦ ns ++ n ∷ [] ] ] | false ↦ ns ])
      by true true c = as_it_was ns
      by true false true = as_it_was ns
      by true false false = (n ∷ [], refl)
      by false b c = as_it_was ns

  value_grows : (y : Value Local) (ns : List Local) → Grows ns (exported_value S asked y ns)
  unfolding exported_value
  value_grows (Ref n) ns = as_grows n ns
  value_grows Null ns = as_it_was ns
  value_grows (Flag b) ns = as_it_was ns
  value_grows (Number z) ns = as_it_was ns
  value_grows (Letter x) ns = as_it_was ns
  value_grows (Text t) ns = as_it_was ns
  value_grows (Prim n) ns = as_it_was ns
  value_grows (Broken p) ns = as_it_was ns
  value_grows (Items k) ns = as_it_was ns

  mutual
    unfolding exported_passed exported_all

    passed_grows : (y : Passed Local) (ns : List Local) → Grows ns (exported_passed S asked y ns)
    passed_grows (Plain y) ns = value_grows y ns
    passed_grows (AGift h i) ns = as_it_was ns
    passed_grows (Many ys) ns = all_grows ys ns

    all_grows : (ys : Passeds Local) (ns : List Local) → Grows ns (exported_all S asked ys ns)
    all_grows NoMore ns = as_it_was ns
    all_grows (More y ys) ns = longer ns (exported_passed S asked y ns) (exported_all S asked ys (exported_passed S asked y ns)) (passed_grows y ns) (all_grows ys (exported_passed S asked y ns))

  note_grows : (n : Note Local) (ns : List Local) → Grows ns (exported_note S asked n ns)
  unfolding exported_note
  note_grows (Deliver d n verb ys) ns = longer ns (exported_as S asked n ns) (exported_all S asked ys (exported_as S asked n ns)) (as_grows n ns) (all_grows ys (exported_as S asked n ns))
  note_grows (Open i n) ns = as_grows n ns
  note_grows (Ask p i n) ns = as_it_was ns
  note_grows (SettledTo n y) ns = longer ns (exported_as S asked n ns) (exported_passed S asked y (exported_as S asked n ns)) (as_grows n ns) (passed_grows y (exported_as S asked n ns))
  note_grows (Elsewhere n h) ns = as_grows n ns
  note_grows (Shorten n h i) ns = as_grows n ns

put_grows : (S : Sight Local) (n : Note Local) (c : Connection Local) → Grows c.exports (put_on S n c).exports
unfolding put_on
put_grows S n c = note_grows S c.answers n c.exports

-- ---- all notes of a step

-- what holds of each and of one put in its place
set_holds : {A : Type 0} (P : A → A → Type 0) → ((x : A) → P x x) → (d : A) (xs : List A) (k : ℕ) (y : A) (h : ℕ) → P (get_or xs k d) y → P (get_or xs h d) (get_or (slice_set xs k y) h d)
set_holds P same d [] k y h p = same d
set_holds P same d (x ∷ xs) zero y zero p = p
set_holds P same d (x ∷ xs) zero y (suc h) p = same (get_or xs h d)
set_holds P same d (x ∷ xs) (suc k) y zero p = same x
set_holds P same d (x ∷ xs) (suc k) y (suc h) p = set_holds P same d xs k y h p

abbrev pub ExportsGrow : Connection Local → Connection Local → Type 0
ExportsGrow c e = Grows c.exports e.exports

-- what was exported to that peer stays where it is in a step
pub exports_grow : (s : Vat Local) (ps : List (Put Local)) (cs : List (Connection Local)) (h : ℕ) → ExportsGrow (get_or cs h unconnected) (get_or (all_written s ps cs) h unconnected)
unfolding all_written written_on
exports_grow s [] cs h = as_it_was (get_or cs h unconnected).exports
exports_grow s (p ∷ ps) cs h =
    let next = put_on (sight_for s p.note) p.note (get_or cs p.to unconnected) in
    longer (get_or cs h unconnected).exports (get_or (slice_set cs p.to next) h unconnected).exports (get_or (all_written s ps (slice_set cs p.to next)) h unconnected).exports
    (set_holds ExportsGrow (λ c. as_it_was c.exports) unconnected cs p.to next h (put_grows (sight_for s p.note) p.note (get_or cs p.to unconnected)))
    (exports_grow s ps (slice_set cs p.to next) h)
