-- What a lawful frame says is heard, by names that every vat means the same by.
use Rattle.std.proofs.Common.{◌≡◌, ℕ, zero, suc, Bool, true, false, List, [], ◌∷◌, ◌++◌, map, slice_get, option_map, unwrap_or, Option, Some, None, refl, ap, sym, ◌∙◌, append-nil}
use Rattle.std.proofs.lemmas.List.{map-append}
use Rattle.std.proofs.lemmas.Option.{slice_get-map}
use Rattle.def_machine.specs.Values.{Name, Root}
use Rattle.def_run.specs.Connections.{Connection}
use Rattle.def_run.specs.Wire.{is_object, numbered}
use Rattle.def_run.specs.Vats as vats
use Rattle.def_run.specs.Vats.{Member, connection_for, heard_in, stage_of}
use Rattle.def_hostile.specs.Hostile.{counts, new_names, newcomers, read_op}
use Rattle.law_judge.specs.Statements.{LawfulIsHeard, LawfulIsHeardInNumbers, counts_in}
use Rattle.law_judge.proofs.Spelled.{is_spelled}
use Rattle.law_judge.proofs.Operations.{meets_the_points}
use Rattle.law_judge.proofs.Heard.{Suits, note_hears}

-- the new names are of the kinds that were said
kinds_of_names : (h objects promises : ℕ) (new : List Bool) → map is_object (new_names h objects promises new) ≡ new
unfolding new_names is_object
kinds_of_names h objects promises [] = refl
kinds_of_names h objects promises (true ∷ ks) = ap (λ (bs : List Bool). true ∷ bs) (kinds_of_names h (suc objects) promises ks)
kinds_of_names h objects promises (false ∷ ks) = ap (λ (bs : List Bool). false ∷ bs) (kinds_of_names h objects (suc promises) ks)

-- what stands at a number is of the kind that stands there
kind_at : (h : ℕ) (o : Option Name) (kind : Bool) → option_map is_object o ≡ Some kind → is_object (unwrap_or o (Root h)) ≡ kind
kind_at h (Some n) kind e = the_kind e
  where
    the_one : Option Bool → Bool
    the_one (Some b) = b
    the_one None = true

    the_kind : Some (is_object n) ≡ Some kind → is_object n ≡ kind
    the_kind e = ap the_one e
kind_at h None kind e = absurd cc

module _ (h : ℕ) (c : Connection Name) (objects promises : ℕ) (new : List Bool) (m : Name) where
  abbrev names : List Name
  names = c.imports ++ new_names h objects promises new

  all_kinds : map is_object names ≡ map is_object c.imports ++ new
  all_kinds = map-append is_object c.imports (new_names h objects promises new) ∙ ap (λ (ks : List Bool). map is_object c.imports ++ ks) (kinds_of_names h objects promises new)

  of_kind : (p : ℕ) (kind : Bool) → slice_get (map is_object c.imports ++ new) p ≡ Some kind → is_object (numbered h names p) ≡ kind
  unfolding numbered
  of_kind p kind e = kind_at h (slice_get names p) kind (sym (slice_get-map is_object names p) ∙ ap (λ (ks : List Bool). slice_get ks p) all_kinds ∙ e)

  suits : (u vats : ℕ) → Suits is_object u h (newcomers h names m) c vats new
  unfolding newcomers
  suits u vats = (λ p e. of_kind p true e, λ p k e. of_kind p false e)

pub is_heard : LawfulIsHeard
unfolding read_op counts
is_heard play h u vats c bytes op new objects promises m fits e =
    let spelled = is_spelled vats u h (counts c) bytes op new fits e in
    let meets = meets_the_points vats u h (counts c) bytes op new fits e in
    note_hears is_object u h (newcomers h (c.imports ++ new_names h objects promises new) m) c vats new (suits h c objects promises new m u vats) op spelled.0
    (record { imports = c.imports; learnt = []; known = zero }) [] new (sym (append-nil (map is_object c.imports))) ([], sym (append-nil new)) meets

pub is_heard_in_numbers : LawfulIsHeardInNumbers
unfolding heard_in stage_of vats.newcomers vats.is_object
is_heard_in_numbers peer count s bytes op new fits e =
    let me = s.vat.number in
    let c = connection_for peer s in
    let spelled = is_spelled count me peer (counts_in c) bytes op new fits e in
    let meets = meets_the_points count me peer (counts_in c) bytes op new fits e in
    note_hears vats.is_object me peer (vats.newcomers peer) c count new (λ p h. refl, λ p k h. refl) op spelled.0 (stage_of peer s) [] new (sym (append-nil (map vats.is_object c.imports))) ([], sym (append-nil new)) meets
