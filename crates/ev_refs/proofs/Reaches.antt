-- That members lead back to a name is what the machine finds.
use Rattle.std.proofs.Common.{◌≡◌, ℕ, zero, suc, Bool, true, false, List, [], ◌∷◌, Option, Some, None, map, refl, ap, ◌∙◌}
use Rattle.std.specs.Prelude.{◌==◌, ◌||◌, option_map, slice_get, unwrap_or}
use Rattle.std.specs.List.{list_any}
use Rattle.std.proofs.lemmas.Option.{slice_get-map}
use Rattle.ev_base.specs.declared.values.Value.{Value as Held}
use Rattle.ev_base.specs.declared.values.Value.TheVariants as held
use Rattle.def_machine.specs.Native.{list_at}
use Rattle.def_machine.specs.Refs.{any_of, reached, reaches}
use Rattle.def_machine.specs.State.{Vat}
use Rattle.def_machine.specs.Values.{Words, Value, Local, Prom, numbering, same_local}
use Rattle.ev_refs.specs.Follow.{followed}
use Rattle.ev_refs.specs.Leading.{is_name, list_of, members_at, members_of, leads_back}
use Rattle.ev_refs.specs.Reading.{value_by, vat_by}
use Rattle.ev_refs.specs.References.{References}
use Rattle.ev_refs.specs.Statements.{KnowsTexts}
use Rattle.ev_refs.proofs.Machine.{names, follow_is}

or_is : (a b c d : Bool) → a ≡ b → c ≡ d → elim a [ true ↦ true | false ↦ c ] ≡ (b || d)
or_is a true c d e h = rw e refl
or_is a false c d e h = rw e h

or_none : (b : Bool) → b ≡ (b || false)
or_none true = refl
or_none false = refl

module _ (word : ℕ → ℕ) (ts : List Words) (r : References) (ls : List (List Held)) (p : ℕ) where
  abbrev lists : List (List (Value Local))
  lists = map (map (value_by ts)) ls

  any_is : (f : Value Local → Bool) (g : Held → Bool) → ((v : Held) → f (value_by ts v) ≡ g v) → (vs : List Held) → any_of (names word) f (map (value_by ts) vs) ≡ list_any g vs
  unfolding any_of
  any_is f g h [] = refl
  any_is f g h (v ∷ vs) = or_is (f (value_by ts v)) (g v) (any_of (names word) f (map (value_by ts) vs)) (list_any g vs) (h v) (any_is f g h vs)

  found_is : (o : Option (List Held)) → elim (option_map (map (value_by ts)) o) [ Some vs ↦ vs | None ↦ [] ] ≡ map (value_by ts) (unwrap_or o [])
  found_is None = refl
  found_is (Some vs) = refl

  members_are : (k : ℕ) → list_at lists k ≡ map (value_by ts) (members_at ls k)
  unfolding list_at
  members_are k = ap (λ (o : Option (List (Value Local))). elim o [ Some vs ↦ vs | None ↦ [] ]) (slice_get-map (map (value_by ts)) ls k) ∙ found_is (slice_get ls k)

  reached_is : (f : Value Local → Bool) (g : Held → Bool) → ((v : Held) → f (value_by ts v) ≡ g v) → (y : Held)
      → reached (names word) (any_of (names word) f) lists (Prom p) (value_by ts y) ≡ (is_name p y || list_any g (members_of ls (list_of y)))
  unfolding reached members_of numbering same_local
  reached_is f g h (held.List k) = ap (λ (vs : List (Value Local)). any_of (names word) f vs) (members_are k) ∙ any_is f g h (members_at ls k)
  reached_is f g h (held.Prom n) = or_none (n == p)
  reached_is f g h held.Null = refl
  reached_is f g h (held.Bool b) = refl
  reached_is f g h (held.Int z) = refl
  reached_is f g h (held.Char c) = refl
  reached_is f g h (held.Text id) = refl
  reached_is f g h (held.Prim n) = refl
  reached_is f g h (held.Obj i) = refl
  reached_is f g h (held.Far a q) = refl
  reached_is f g h (held.Broken id) = refl

  pub reaches_is : (s : Vat Local) → KnowsTexts ts r → s.lists ≡ lists → (d : ℕ) (v : Held) → reaches (names word) d (vat_by ts r s) (Prom p) (value_by ts v) ≡ leads_back d r ls p v
  unfolding reaches leads_back
  reaches_is s part is zero v = refl
  reaches_is s part is (suc d) v =
      ap (λ (y : Value Local). reached (names word) (any_of (names word) (λ x. reaches (names word) d (vat_by ts r s) (Prom p) x)) s.lists (Prom p) y) (follow_is word ts r s v part)
      ∙ ap (λ (xs : List (List (Value Local))). reached (names word) (any_of (names word) (λ x. reaches (names word) d (vat_by ts r s) (Prom p) x)) xs (Prom p) (value_by ts (followed r v))) is
      ∙ reached_is (λ x. reaches (names word) d (vat_by ts r s) (Prom p) x) (λ w. leads_back d r ls p w) (reaches_is s part is d) (followed r v)
