-- The tables of a vat's peers, once what it exported in a step came to stand there.
use Rattle.std.proofs.Common.{◌≡◌, ◌⊎◌, inl, inr, ℕ, zero, suc, ◌<◌, List, [], ◌∷◌, ◌++◌, Option, Some, get_or, length, map, refl, sym, ap, subst, ◌∙◌, append_assoc, append-nil, arith}
use Rattle.std.specs.Prelude.{drop, slice_get, slice_set}
use Rattle.std.proofs.lemmas.List.{length-map, length-set, map-append}
use Rattle.def_run.specs.Vats.{Member, connection_for, unconnected}
use Rattle.def_machine.specs.Values.{Local}
use Rattle.def_run.specs.Connections.{Connection}
use Rattle.ev_base.specs.declared.values.Value.{Value}
use Rattle.ev_base.specs.declared.values.Value.TheVariants as held
use Rattle.ev_resident.specs.declared.Member.{Member as Ours}
use Rattle.ev_resident.specs.Names.{Named}
use Rattle.ev_resident.specs.OutcomeStanding.{ObjectsStand, exported_to, object_number}
use Rattle.ev_tables.specs.Standing.{connection_of, local_of}
use Rattle.ev_step_lines.specs.Lines.{with_import}
use Rattle.ev_tables.specs.Table.{fresh}
use Rattle.ev_wire.specs.Putting.{table_for}
use Rattle.ev_world.specs.Exporting.{object_of, objects_for, with_imports}
use Rattle.ev_world.proofs.Exports.{Grows, drop_more}
use Rattle.ev_wire.proofs.Lists.{map_got}
use Rattle.ev_wire.specs.Standing.{connections_of}

-- ---- places

pub same_or_not : (i j : ℕ) → (i ≡ j) ⊎ (i ≡ j → ⊥)
same_or_not zero zero = inl refl
same_or_not zero (suc j) = inr (λ e. absurd (omega (arith, e)))
same_or_not (suc i) zero = inr (λ e. absurd (omega (arith, e)))
same_or_not (suc i) (suc j) = elim (same_or_not i j) as (λ _. (suc i ≡ suc j) ⊎ (suc i ≡ suc j → ⊥)) [ inl e ↦ inl (ap suc e) | inr n ↦ inr (λ e. n (omega (arith, e))) ]

pub set_there : {A : Type 0} (xs : List A) (i : ℕ) (y : A) → i < length xs → slice_get (slice_set xs i y) i ≡ Some y
set_there [] i y h = absurd (omega arith)
set_there (x ∷ xs) zero y h = refl
set_there (x ∷ xs) (suc i) y h = set_there xs i y (omega arith)

pub set_other : {A : Type 0} (xs : List A) (i j : ℕ) (y : A) → (i ≡ j → ⊥) → slice_get (slice_set xs i y) j ≡ slice_get xs j
set_other [] i j y n = refl
set_other (x ∷ xs) zero zero y n = absurd (n refl)
set_other (x ∷ xs) zero (suc j) y n = refl
set_other (x ∷ xs) (suc i) zero y n = refl
set_other (x ∷ xs) (suc i) (suc j) y n = set_other xs i j y (λ e. n (ap suc e))

pub is_within : {A : Type 0} (xs : List A) (i : ℕ) (y : A) → slice_get xs i ≡ Some y → i < length xs
is_within [] i y e = absurd cc
is_within (x ∷ xs) zero y e = omega arith
is_within (x ∷ xs) (suc i) y e = let less : i < length xs = is_within xs i y e in omega arith

got_there : {A : Type 0} (d : A) (xs : List A) (i : ℕ) (y : A) → i < length xs → get_or (slice_set xs i y) i d ≡ y
got_there d [] i y h = absurd (omega arith)
got_there d (x ∷ xs) zero y h = refl
got_there d (x ∷ xs) (suc i) y h = got_there d xs i y (omega arith)

got_other : {A : Type 0} (d : A) (xs : List A) (i j : ℕ) (y : A) → (i ≡ j → ⊥) → get_or (slice_set xs i y) j d ≡ get_or xs j d
got_other d [] i j y n = refl
got_other d (x ∷ xs) zero zero y n = absurd (n refl)
got_other d (x ∷ xs) zero (suc j) y n = refl
got_other d (x ∷ xs) (suc i) zero y n = refl
got_other d (x ∷ xs) (suc i) (suc j) y n = got_other d xs i j y (λ e. n (ap suc e))

-- ---- objects come to stand

-- All but what stands for vat u is as it was.
pub record Imported (u : ℕ) (os : List ℕ) (n m : Named) : Type 0 where
  pub vat : m.naming.vat ≡ n.naming.vat
  pub names : m.naming.names ≡ n.naming.names
  pub mails : m.naming.mails ≡ n.naming.mails
  pub promises : m.promises ≡ n.promises
  pub messages : m.messages ≡ n.messages
  pub gifts : m.gifts ≡ n.gifts
  pub room : length m.naming.objects ≡ length n.naming.objects
  pub other : (h : ℕ) → (u ≡ h → ⊥) → get_or m.naming.objects h [] ≡ get_or n.naming.objects h []
  pub here : u < length n.naming.objects → get_or m.naming.objects u [] ≡ get_or n.naming.objects u [] ++ os

pub imported : (u : ℕ) (os : List ℕ) (n : Named) → Imported u os n (with_imports u os n)
unfolding with_imports
imported u [] n = record { vat = refl; names = refl; mails = refl; promises = refl; messages = refl; gifts = refl; room = refl; other = λ h ne. refl; here = λ less. sym (append-nil (get_or n.naming.objects u [])) }
imported u (o ∷ os) n =
    let next : Named = record n { naming = with_import u o n.naming } in
    let put : List ℕ = get_or n.naming.objects u [] ++ o ∷ [] in
    let is : Imported u os next (with_imports u os next) = imported u os next in
    let long : length (slice_set n.naming.objects u put) ≡ length n.naming.objects = length-set n.naming.objects u put in
    record {
      vat = is.vat;
      names = is.names;
      mails = is.mails;
      promises = is.promises;
      messages = is.messages;
      gifts = is.gifts;
      room = is.room ∙ long;
      other = λ h ne. is.other h ne ∙ got_other [] n.naming.objects u h put ne;
      here = λ less.
          is.here (subst (λ (k : ℕ). u < k) (sym long) less)
          ∙ ap (λ (ks : List ℕ). ks ++ os) (got_there [] n.naming.objects u put less)
          ∙ append_assoc (get_or n.naming.objects u []) (o ∷ []) os;
    }

-- ---- what they are

number_is : (v : Value) → object_of v ≡ object_number (local_of v)
unfolding object_of local_of
number_is (held.Obj i) = refl
number_is (held.Prom k) = refl
number_is (held.Far h p) = refl
number_is held.Null = refl
number_is (held.Bool b) = refl
number_is (held.Int z) = refl
number_is (held.Char c) = refl
number_is (held.Text t) = refl
number_is (held.Broken t) = refl
number_is (held.List t) = refl
number_is (held.Prim t) = refl

numbers_are : (vs : List Value) → map object_of vs ≡ map object_number (map local_of vs)
numbers_are [] = refl
numbers_are (v ∷ vs) = ap (λ (k : ℕ). k ∷ map object_of vs) (number_is v) ∙ ap (λ (ks : List ℕ). object_number (local_of v) ∷ ks) (numbers_are vs)

-- what a member has for a peer
pub table_is : (q : ℕ) (a : Member) (c : Ours) → connections_of c.connections.items ≡ a.connections → connection_for q a ≡ connection_of (table_for q c.connections.items)
unfolding connection_for unconnected
table_is q a c same = ap (λ (cs : List (Connection Local)). get_or cs q unconnected) (sym same) ∙ map_got connection_of c.connections.items q (fresh q)

pub exports_are : (q : ℕ) (a : Member) (c : Ours) → connections_of c.connections.items ≡ a.connections → length (table_for q c.connections.items).exports ≡ length (connection_for q a).exports
exports_are q a c same = sym (length-map (table_for q c.connections.items).exports local_of) ∙ ap (λ (e : Connection Local). length e.exports) (sym (table_is q a c same))

more_behind : (xs ys : List Local) (k : ℕ) → k ≡ length xs → Grows xs ys → map object_number xs ++ drop k (map object_number ys) ≡ map object_number ys
more_behind xs ys k e g =
    let all : map object_number ys ≡ map object_number xs ++ map object_number g.0 = ap (map object_number) g.1 ∙ map-append object_number xs g.0 in
    ap (λ (ks : List ℕ). map object_number xs ++ drop k ks) all
    ∙ ap (λ (j : ℕ). map object_number xs ++ drop j (map object_number xs ++ map object_number g.0)) (e ∙ sym (length-map xs object_number))
    ∙ ap (λ (ks : List ℕ). map object_number xs ++ ks) (drop_more (map object_number xs) (map object_number g.0))
    ∙ sym all

-- Vat u, which was m, came to be a, which is the code's c.
module _ (ms : List Member) (u : ℕ) (m a : Member) (c : Ours) (there : slice_get ms u ≡ Some m) (same : connections_of c.connections.items ≡ a.connections) where
  now_stand : (q : ℕ) (n : Named) (k : ℕ) → ObjectsStand ms q n.naming.objects → u < length n.naming.objects → k ≡ length (connection_for q m).exports → Grows (connection_for q m).exports (connection_for q a).exports
      → get_or (with_imports u (drop k (objects_for q c)) n).naming.objects u [] ≡ map object_number (exported_to q (slice_get (slice_set ms u a) u))
  now_stand q n k stand room many more =
      (imported u (drop k (objects_for q c)) n).here room
      ∙ ap (λ (ks : List ℕ). ks ++ drop k (objects_for q c)) (stand u ∙ ap (λ (o : Option Member). map object_number (exported_to q o)) there)
      ∙ ap (λ (ks : List ℕ). map object_number (connection_for q m).exports ++ drop k ks) (numbers_are (table_for q c.connections.items).exports ∙ ap (λ (e : Connection Local). map object_number e.exports) (sym (table_is q a c same)))
      ∙ more_behind (connection_for q m).exports (connection_for q a).exports k many more
      ∙ ap (λ (o : Option Member). map object_number (exported_to q o)) (sym (set_there ms u a (is_within ms u m there)))

  pub objects_stand : (q : ℕ) (n : Named) (k : ℕ) → ObjectsStand ms q n.naming.objects → u < length n.naming.objects → k ≡ length (connection_for q m).exports → Grows (connection_for q m).exports (connection_for q a).exports
      → ObjectsStand (slice_set ms u a) q (with_imports u (drop k (objects_for q c)) n).naming.objects
  objects_stand q n k stand room many more = λ h. by h (same_or_not u h)
    where
      by : (h : ℕ) → (u ≡ h) ⊎ (u ≡ h → ⊥) → get_or (with_imports u (drop k (objects_for q c)) n).naming.objects h [] ≡ map object_number (exported_to q (slice_get (slice_set ms u a) h))
      by h (inl e) = subst (λ (j : ℕ). get_or (with_imports u (drop k (objects_for q c)) n).naming.objects j [] ≡ map object_number (exported_to q (slice_get (slice_set ms u a) j))) e (now_stand q n k stand room many more)
      by h (inr ne) =
          (imported u (drop k (objects_for q c)) n).other h ne
          ∙ stand h
          ∙ ap (λ (o : Option Member). map object_number (exported_to q o)) (sym (set_other ms u h a ne))
