-- What has a number on a connection is the vat's own after a step where it was before.
use Rattle.std.proofs.Common.{◌≡◌, ℕ, zero, suc, ◌<◌, Bool, true, false, List, [], ◌∷◌, ◌⊎◌, inl, inr, refl, sym, ap, ◌∙◌, length, map, get_or, arith, ◌&&◌, ◌==◌}
use Rattle.std.proofs.lemmas.Bool.{eqb-true}
use Rattle.def_machine.specs.Values.{Name, Local, Obj, Prom, Far, same_local, host_of}
use Rattle.def_machine.specs.State.{Vat}
use Rattle.def_run.specs.Connections.{Connection}
use Rattle.def_run.specs.Wire.{connected_at}
use Rattle.def_run.specs.World.{World, readied}
use Rattle.law_fate.specs.Name.Names.{AllOf, IsAmong, HostIsTrue, names_in}
use Rattle.law_fate.proofs.Name.Among.{all_among}
use Rattle.law_machine.specs.Renamed.Stands.{Table, Found, Is, found, IsTable}
use Rattle.law_machine.proofs.Renamed.Stands.{Extends}
use Rattle.law_reference.specs.Reference.Tables.{table_of}
use Rattle.law_frame.specs.Frame.Together.{TablesMay, changed_tables}
use Rattle.law_frame.specs.Frame.OwnFrames.{refers, refers_here}
use Rattle.def_run.specs.Vats.{Member, is_own, unconnected, connection_for}
use Rattle.def_run.specs.Numbers.{Vats, ready}
use Rattle.law_frame.specs.Local.Mirrors.{Mirrors, VatMirrors}
use Rattle.law_frame.specs.Local.Writing.{PutsSo}
use Rattle.law_frame.proofs.Local.Sights.{own_so, found_refers, refers_found, is_refers}
use Rattle.law_frame.proofs.Local.Steps.{more_found}
use Rattle.def_run.specs.Seeing.{among, has_number, SeesAsBefore}

-- ---- what stands on a connection has a name there

both : (a b : Bool) → (a && b) ≡ true → (a ≡ true) × (b ≡ true)
both true true e = (refl, refl)
both true false e = cc
both false b e = cc

pub local_is : (a b : Local) → same_local a b ≡ true → a ≡ b
unfolding same_local
local_is (Obj i) (Obj j) e = ap (λ k. Obj k) (eqb-true i j e)
local_is (Prom i) (Prom j) e = ap (λ k. Prom k) (eqb-true i j e)
local_is (Far h p) (Far g q) e = let i = both (h == g) (p == q) e in ap (λ k. Far k p) (eqb-true h g i.0) ∙ ap (λ k. Far g k) (eqb-true p q i.1)
local_is a b e = cc

-- it is found as a name of these
pub record FoundAmong (f : Local → Found) (ns : List Name) (n : Local) : Type 0 where
  pub name : Name
  pub found : f n ≡ Is name
  pub here : IsAmong name ns

module _ (f : Local → Found) where
  pub among_found : (xs : List Local) (ns : List Name) (n : Local) → map f xs ≡ map Is ns → among xs n ≡ true → FoundAmong f ns n
  unfolding among
  among_found [] ns n e h = absurd (none h)
    where
      none : false ≡ true → ⊥
      none i = cc
  among_found (x ∷ xs) [] n e h = cc
  among_found (x ∷ xs) (y ∷ ys) n e h = let i : f x ≡ Is y = cc in let j : map f xs ≡ map Is ys = cc in by (same_local x n) refl h i (λ k. among_found xs ys n j k)
    where
      by : (b : Bool) → same_local x n ≡ b → elim b [ true ↦ true | false ↦ among xs n ] ≡ true → f x ≡ Is y → (among xs n ≡ true → FoundAmong f ys n) → FoundAmong f (y ∷ ys) n
      by true k l i next = record { name = y; found = ap f (sym (local_is x n k)) ∙ i; here = inl refl }
      by false k l i next = let z = next l in record { name = z.name; found = z.found; here = inr z.here }

  any : (e a q i : Bool) → ◌≡◌ {A = Bool} (elim e [ true ↦ true | false ↦ elim a [ true ↦ true | false ↦ elim q [ true ↦ true | false ↦ i ] ] ]) true → (e ≡ true) ⊎ ((a ≡ true) ⊎ ((q ≡ true) ⊎ (i ≡ true)))
  any true a q i h = inl refl
  any false true q i h = inr (inl refl)
  any false false true i h = inr (inr (inl refl))
  any false false false i h = inr (inr (inr h))

  abbrev Refers : Local → Type 0
  Refers n = (x : Name) × (f n ≡ Is x) × (refers x ≡ true)

  -- and it is no message
  refers_of : (ns : List Name) (n : Local) → AllOf (λ n. refers n ≡ true) ns → FoundAmong f ns n → Refers n
  refers_of ns n h a = (a.name, a.found, all_among (λ n. refers n ≡ true) ns a.name h a.here)

  numbered : (c : Connection Local) (d : Connection Name) (n : Local) → changed_tables f c ≡ changed_tables Is d → TablesMay refers d → has_number c n ≡ true → Refers n
  unfolding has_number
  numbered c d n e may h = by (any (among c.exports n) (among c.answers n) (among c.questions n) (among c.imports n) h)
    where
      by : (among c.exports n ≡ true) ⊎ ((among c.answers n ≡ true) ⊎ ((among c.questions n ≡ true) ⊎ (among c.imports n ≡ true))) → Refers n
      by (inl i) = refers_of d.exports n may.exports (among_found c.exports d.exports n (ap (λ (z : Connection Found). z.exports) e) i)
      by (inr (inl i)) = refers_of d.answers n may.answers (among_found c.answers d.answers n (ap (λ (z : Connection Found). z.answers) e) i)
      by (inr (inr (inl i))) = refers_of d.questions n may.questions (among_found c.questions d.questions n (ap (λ (z : Connection Found). z.questions) e) i)
      by (inr (inr (inr i))) = refers_of d.imports n may.imports (among_found c.imports d.imports n (ap (λ (z : Connection Found). z.imports) e) i)

-- ---- what a vat sees as its own

-- Vat u, in state r, is m in numbers, and knows true hosts.
module _ (x : World) (X : Vats) (u : ℕ) (r : Vat Name) (m : Member) (good : IsTable u (table_of x u r)) (hosts : AllOf HostIsTrue r.known) (was : VatMirrors x X u r m) where
  names_same : (let t : Table = table_of x u r in t.names) ≡ names_in (readied x r).known
  unfolding table_of readied
  names_same = refl

  puts_nothing : PutsSo u (readied x r)
  unfolding readied
  puts_nothing = record { placed = was.placed; hosts = hosts; referring = tt; asking = tt; answers = tt }

  -- its own are those that have it as their host
  pub own_by_host : (n : Local) (a : Name) → found u (table_of x u r) n ≡ Is a → refers a ≡ true → is_own m.vat.number m.vat.known n ≡ (host_of a == u)
  unfolding ready
  own_by_host n a e f =
      let t : Table = table_of x u r in
      let here : refers_here n ≡ true = found_refers u t good n (ap (refers_found u t good) e ∙ is_refers u t good a f) in
      sym (own_so u t good (readied x r) (ready X m.vat) was.stands names_same puts_nothing n a here e)

within_or : {A : Type 0} (xs : List A) (v : ℕ) (d : A) → (v < length xs) ⊎ (get_or xs v d ≡ d)
within_or [] v d = inr refl
within_or (x ∷ xs) zero d = inl (omega arith)
within_or (x ∷ xs) (suc v) d = by (within_or xs v d)
  where
    by : (v < length xs) ⊎ (get_or xs v d ≡ d) → (suc v < suc (length xs)) ⊎ (get_or xs v d ≡ d)
    by (inl i) = inl (omega arith)
    by (inr e) = inr e

unconnected_none : (n : Local) → has_number unconnected n ≡ false
unfolding has_number among unconnected
unconnected_none n = refl

-- From world x to world y vat u came from state s to state r, and from m to k in numbers.
module _ (x y : World) (X Y : Vats) (u : ℕ) (s r : Vat Name) (m k : Member) (good : IsTable u (table_of x u s)) (well : IsTable u (table_of y u r)) (more : Extends (table_of x u s) (table_of y u r))
    (hosts_then : AllOf HostIsTrue s.known) (hosts_now : AllOf HostIsTrue r.known) (h : Mirrors x X) (was : VatMirrors x X u s m) (is : VatMirrors y Y u r k) (here : u < length X.members) where
  own_stays : (n : Local) (a : Name) → found u (table_of x u s) n ≡ Is a → refers a ≡ true → is_own k.vat.number k.vat.known n ≡ is_own m.vat.number m.vat.known n
  own_stays n a e f = own_by_host y Y u r k well hosts_now is n a (more_found u (table_of x u s) (table_of y u r) more n a e) f ∙ sym (own_by_host x X u s m good hosts_then was n a e f)

  pub sees_as_before : SeesAsBefore m.vat k.vat m.connections
  unfolding connection_for
  sees_as_before v n e = by (within_or m.connections v unconnected)
    where
      clash : (b : Bool) → b ≡ false → b ≡ true → ⊥
      clash b i j = cc

      by : (v < length m.connections) ⊎ (get_or m.connections v unconnected ≡ unconnected) → is_own k.vat.number k.vat.known n ≡ is_own m.vat.number m.vat.known n
      by (inl i) =
          let l = was.peers in let j : v < length X.members = omega arith in
          let z = numbered (found u (table_of x u s)) (connection_for v m) (connected_at u v x.connections).tables n (was.connections v j) (h.references u here v j) e in own_stays n z.0 z.1 z.2
      by (inr i) = absurd (clash (has_number (get_or m.connections v unconnected) n) (ap (λ (c : Connection Local). has_number c n) i ∙ unconnected_none n) e)
