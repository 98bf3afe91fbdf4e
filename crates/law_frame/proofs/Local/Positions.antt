-- What stands at a position, in the numbers of its exporter.
use Rattle.std.proofs.Common.{◌≡◌, ℕ, zero, suc, ◌<◌, Bool, true, false, List, [], ◌∷◌, Option, Some, None, refl, sym, ap, ◌∙◌, subst, length, map, arith}
use Rattle.std.specs.Prelude.{slice_get, option_map, ◌==◌}
use Rattle.std.proofs.lemmas.Bool.{eq-eqb}
use Rattle.std.proofs.lemmas.Option.{slice_get-map}
use Rattle.def_machine.specs.Values.{Name, Object, Sent, host_of, Spot, Own, Foreign, NoObject, spot_of, Local, Obj, Prom, Far, Mess}
use Rattle.def_run.specs.World.{Link, link_at}
use Rattle.law_fate.specs.Name.Names.{AllOf}
use Rattle.law_fate.proofs.Name.SameNames.{at_all}
use Rattle.law_machine.specs.Renamed.Stands.{Table, Is, found, IsTable}
use Rattle.law_reference.specs.Reference.Logs.{exports, exports_after, questions, log_of, roots_of}
use Rattle.law_reference.specs.Reference.Exports.{exported_at, object_of}
use Rattle.def_run.specs.Vats.{Member, connection_for}
use Rattle.def_run.specs.Numbers.{far_name, exported, object_at}
use Rattle.law_frame.proofs.Local.Sights.{some_name, some_mail, some_far}

object_some : (o : Option Name) (j : ℕ) → object_of o ≡ Some j → (w : ℕ) × (o ≡ Some (Object w j))
unfolding object_of
object_some (Some (Object w i)) j e = let k : i ≡ j = cc in (w, ap (λ x. Some (Object w x)) k)
object_some other j e = cc

none_same : (v h : ℕ) (b : Bool) (o : Option ℕ) (j : ℕ) → (v == h) ≡ b → ◌≡◌ {A = Option ℕ} (elim b [ true ↦ None | false ↦ o ]) (Some j) → (v ≡ h → ⊥) × (o ≡ Some j)
none_same v h true o j e i = cc
none_same v h false o j e i = (λ k. clash (v == h) (eq-eqb v h k) e, i)
  where
    clash : (c : Bool) → c ≡ true → c ≡ false → ⊥
    clash c m n = cc

-- An object at a position is one of its exporter.
pub exported_some : (ls : List Link) (v h q j : ℕ) → AllOf (λ n. host_of n ≡ h) (exports (λ i. i) ls h v) → exported_at ls v h q ≡ Some j → (v ≡ h → ⊥) × (slice_get (exports (λ i. i) ls h v) q ≡ Some (Object h j))
unfolding exported_at host_of
exported_some ls v h q j hosts e =
    let k = none_same v h (v == h) (object_of (slice_get (exports (λ i. i) ls h v) q)) j refl e in
    let o = object_some (slice_get (exports (λ i. i) ls h v) q) j k.1 in
    let w : o.0 ≡ h = at_all (λ n. host_of n ≡ h) (exports (λ i. i) ls h v) q (Object o.0 j) hosts o.1 in
    (k.0, o.1 ∙ ap (λ x. Some (Object x j)) w)

-- where something was exported there is a link
pub link_there : (ls : List Link) (h v q : ℕ) (n : Name) → slice_get (exports (λ i. i) ls h v) q ≡ Some n → (l : Link) × (link_at h v ls ≡ Some l)
unfolding exports exports_after log_of roots_of
link_there ls h v q n e = by (link_at h v ls) refl e
  where
    by : (o : Option Link) → link_at h v ls ≡ o → slice_get (exports_after h (questions (λ i. i) ls v h) (log_of o) (roots_of o)) q ≡ Some n → (l : Link) × (link_at h v ls ≡ Some l)
    by (Some l) i k = (l, i)
    by None i k = absurd (clash k)
      where
        clash : slice_get (exports_after h (questions (λ i. i) ls v h) (log_of None) (roots_of None)) q ≡ Some n → ⊥
        clash k = cc

-- its number at its exporter
module _ (h : ℕ) (t : Table) (good : IsTable h t) where
  own_is : (j : ℕ) → spot_of h (Object h j) ≡ NoObject → ⊥
  unfolding spot_of
  own_is j e = by (h == h) (eq-eqb h h refl) e
    where
      by : (b : Bool) → b ≡ true → ◌≡◌ {A = Spot} (elim b [ true ↦ Own j | false ↦ Foreign h ]) NoObject → ⊥
      by true i k = cc
      by false i k = cc

  own_not : (j : ℕ) → spot_of h (Object h j) ≡ Foreign h → ⊥
  unfolding spot_of
  own_not j e = by (h == h) (eq-eqb h h refl) e
    where
      by : (b : Bool) → b ≡ true → ◌≡◌ {A = Spot} (elim b [ true ↦ Own j | false ↦ Foreign h ]) (Foreign h) → ⊥
      by true i k = cc
      by false i k = cc

  object_number : (a : Local) (j : ℕ) → found h t a ≡ Is (Object h j) → a ≡ Obj j
  unfolding found
  object_number (Obj i) j e = cc
  object_number (Prom k) j e = absurd (own_is j (good.promises k (Object h j) (some_name (slice_get t.names k) k (Object h j) e)))
  object_number (Far g q) j e =
      let f = some_far (t.exports g q) g q (Object h j) e in let same : Object h j ≡ Object g f.0 = f.2 in
      let a : h ≡ g = cc in let i : j ≡ f.0 = cc in
      absurd (own_not f.0 (subst (λ x. spot_of h (Object x f.0) ≡ Foreign x) (sym a) (good.abroad g q f.0 f.1)))
  object_number (Mess k) j e = let m = good.messages k (Object h j) (some_mail (slice_get t.mails k) k (Object h j) e) in absurd (clash m.1)
    where
      clash : {x : _} → Object h j ≡ Sent x → ⊥
      clash i = cc

  number_or : (o : Option Local) (j : ℕ) → option_map (found h t) o ≡ Some (Is (Object h j)) → o ≡ Some (Obj j)
  number_or (Some a) j e = let i : found h t a ≡ Is (Object h j) = cc in ap Some (object_number a j i)
  number_or None j e = cc

  pub number_at : (xs : List Local) (ns : List Name) (q j : ℕ) → map (found h t) xs ≡ map Is ns → slice_get ns q ≡ Some (Object h j) → slice_get xs q ≡ Some (Obj j)
  number_at xs ns q j e i = number_or (slice_get xs q) j (sym (slice_get-map (found h t) xs q) ∙ ap (λ zs. slice_get zs q) e ∙ slice_get-map Is ns q ∙ ap (option_map Is) i)

pub far_is : (ms : List Member) (k : Member) (v h q j : ℕ) → slice_get ms h ≡ Some k → slice_get (connection_for v k).exports q ≡ Some (Obj j) → far_name ms v h q ≡ Object h j
unfolding far_name exported object_at
far_is ms k v h q j e i = ap (λ o. object_at h q (there o)) e ∙ ap (object_at h q) i
  where
    there : Option Member → Option Local
    there o = elim o [ Some m ↦ slice_get (connection_for v m).exports q | None ↦ None ]

pub there_is : {A : Type 0} (xs : List A) (i : ℕ) → i < length xs → (x : A) × (slice_get xs i ≡ Some x)
there_is [] i h = absurd (omega arith)
there_is (x ∷ xs) zero h = (x, refl)
there_is (x ∷ xs) (suc i) h = there_is xs i (omega arith)
