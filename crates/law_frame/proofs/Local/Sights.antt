-- A vat sees its numbers as their names are seen.
use Rattle.std.proofs.Common.{◌≡◌, ℕ, zero, suc, Bool, true, false, List, [], ◌∷◌, Option, Some, None, refl, sym, ap, ◌∙◌, map}
use Rattle.std.specs.Prelude.{slice_get, option_map, ◌==◌}
use Rattle.std.proofs.lemmas.Bool.{eqb-true, eq-eqb}
use Rattle.std.proofs.lemmas.Option.{slice_get-map}
use Rattle.def_machine.specs.Values.{Name, Object, host_of, Foreign, Own, NoObject, Spot, spot_of, Local, Obj, Prom, Far, Mess}
use Rattle.def_machine.specs.State.{Known, Note, Vat}
use Rattle.def_run.specs.Wire.{is_object}
use Rattle.law_fate.specs.Name.Names.{AllOf, HostIsTrue, names_in}
use Rattle.def_machine.specs.Maps as maps
use Rattle.law_machine.specs.Renamed.Stands.{Table, Found, Is, Nothing, found, prom_found, mess_found, far_found, IsTable, StandsFor}
use Rattle.law_frame.specs.Frame.OwnFrames.{refers, refers_here, SeesBy}
use Rattle.def_run.specs.Vats as here
use Rattle.def_run.specs.Vats.{sight_for, is_own, is_hosted, host_in}
use Rattle.law_frame.specs.Local.Writing.{PutsSo}

pub some_name : (o : Option Name) (k : ℕ) (n : Name) → prom_found k o ≡ Is n → o ≡ Some n
unfolding prom_found
some_name (Some m) k n e = cc
some_name None k n e = cc

pub some_mail : (o : Option Name) (k : ℕ) (n : Name) → mess_found k o ≡ Is n → o ≡ Some n
unfolding mess_found
some_mail (Some m) k n e = cc
some_mail None k n e = cc

pub some_far : (o : Option ℕ) (h p : ℕ) (n : Name) → far_found h p o ≡ Is n → (j : ℕ) × (o ≡ Some j) × (n ≡ Object h j)
unfolding far_found
some_far (Some j) h p n e = (j, refl, cc)
some_far None h p n e = cc

-- the host that a state has for a known name
pub host_or : (ks : List (Known Name)) (k : ℕ) (n : Name) → AllOf HostIsTrue ks → slice_get (names_in ks) k ≡ Some n → option_map (λ (e : Known Name). e.host) (slice_get ks k) ≡ Some (host_of n)
host_or [] k n h e = cc
host_or (x ∷ ks) zero n h e = let i : x.name ≡ n = cc in ap Some (h.0 ∙ ap host_of i)
host_or (x ∷ ks) (suc k) n h e = host_or ks k n h.1 e

-- the hosts are the same in numbers
pub hosts_of : (u : ℕ) (t : Table) (ks : List (Known Local)) (ls : List (Known Name)) → map (maps.known (found u t)) ks ≡ map (maps.known Is) ls → map (λ (e : Known Local). e.host) ks ≡ map (λ (e : Known Name). e.host) ls
hosts_of u t [] [] e = refl
hosts_of u t (k ∷ ks) (l ∷ ls) e =
    let i : maps.known (found u t) k ≡ maps.known Is l = cc in let j : map (maps.known (found u t)) ks ≡ map (maps.known Is) ls = cc in
    joined (ap (λ (x : Known Found). x.host) i) (hosts_of u t ks ls j)
  where
    joined : {x y : ℕ} {xs ys : List ℕ} → x ≡ y → xs ≡ ys → x ∷ xs ≡ y ∷ ys
    joined e i = cc
hosts_of u t [] (l ∷ ls) e = cc
hosts_of u t (k ∷ ks) [] e = cc

pub host_mapped : (ks : List (Known Local)) (k : ℕ) → host_in ks k ≡ option_map (λ (e : Known Local). e.host) (slice_get ks k)
unfolding host_in
host_mapped [] k = refl
host_mapped (x ∷ ks) zero = refl
host_mapped (x ∷ ks) (suc k) = host_mapped ks k

hosted_some : (u h : ℕ) (o : Option ℕ) → o ≡ Some h → is_hosted u o ≡ (h == u)
unfolding is_hosted
hosted_some u h (Some g) e = let i : g ≡ h = cc in ap (λ x. x == u) i
hosted_some u h None e = cc

no_foreign : (u h j : ℕ) → spot_of u (Object h j) ≡ Foreign h → (h == u) ≡ false
unfolding spot_of
no_foreign u h j e = by (u == h) (h == u) refl refl e
  where
    by : (a b : Bool) → (u == h) ≡ a → (h == u) ≡ b → ◌≡◌ {A = Spot} (elim a [ true ↦ Own j | false ↦ Foreign h ]) (Foreign h) → b ≡ false
    by true b i k l = cc
    by false false i k l = refl
    by false true i k l = clash (u == h) (eq-eqb u h (sym (eqb-true h u k))) i
      where
        clash : (c : Bool) → c ≡ true → c ≡ false → true ≡ false
        clash c m n = cc

pub no_object : (u : ℕ) (n : Name) → spot_of u n ≡ NoObject → is_object n ≡ false
unfolding spot_of is_object
no_object u (Object h j) e = by (u == h) e
  where
    by : (a : Bool) → ◌≡◌ {A = Spot} (elim a [ true ↦ Own j | false ↦ Foreign h ]) NoObject → true ≡ false
    by true l = cc
    by false l = cc
no_object u other e = refl

module _ (u : ℕ) (t : Table) (good : IsTable u t) (r : Vat Name) (p : Vat Local) (stands : StandsFor u t p r) (names : t.names ≡ names_in r.known) (so : PutsSo u r) where
  numbered : p.number ≡ u
  numbered = ap (λ (z : Vat Found). z.number) stands ∙ so.placed

  own_prom : (k : ℕ) (n : Name) → slice_get t.names k ≡ Some n → (host_of n == u) ≡ is_hosted p.number (host_in p.known k)
  own_prom k n e =
      let hosts : map (λ (e : Known Local). e.host) p.known ≡ map (λ (e : Known Name). e.host) r.known = hosts_of u t p.known r.known (ap (λ (z : Vat Found). z.known) stands) in
      let here : host_in p.known k ≡ Some (host_of n) =
      host_mapped p.known k ∙ sym (slice_get-map (λ (e : Known Local). e.host) p.known k) ∙ ap (λ xs. slice_get xs k) hosts ∙ slice_get-map (λ (e : Known Name). e.host) r.known k
      ∙ host_or r.known k n so.hosts (ap (λ xs. slice_get xs k) (sym names) ∙ e) in
      sym (hosted_some p.number (host_of n) (host_in p.known k) here ∙ ap (λ x. host_of n == x) numbered)

  same_self : (v : ℕ) → (v == v) ≡ true
  same_self v = eq-eqb v v refl

  pub own_so : (a : Local) (n : Name) → refers_here a ≡ true → found u t a ≡ Is n → (host_of n == u) ≡ is_own p.number p.known a
  unfolding refers_here found is_own host_of
  own_so (Obj i) n b e = let j : Object u i ≡ n = cc in ap (λ x. host_of x == u) (sym j) ∙ same_self u
  own_so (Prom k) n b e = own_prom k n (some_name (slice_get t.names k) k n e)
  own_so (Far h q) n b e = let f = some_far (t.exports h q) h q n e in ap (λ x. host_of x == u) f.2 ∙ no_foreign u h f.0 (good.abroad h q f.0 f.1)
  own_so (Mess j) n b e = cc

  object_so : (a : Local) (n : Name) → found u t a ≡ Is n → is_object n ≡ here.is_object a
  unfolding found is_object here.is_object
  object_so (Obj i) n e = let j : Object u i ≡ n = cc in ap is_object (sym j)
  object_so (Prom k) n e = no_object u n (good.promises k n (some_name (slice_get t.names k) k n e))
  object_so (Far h q) n e = let f = some_far (t.exports h q) h q n e in ap is_object f.2
  object_so (Mess j) n e = let m = good.messages j n (some_mail (slice_get t.mails j) j n e) in ap is_object m.1

  pub sees : (n : Note Local) → SeesBy u t (sight_for p n)
  unfolding sight_for
  sees n = record { same = λ a b. refl; own = own_so; object = object_so }

-- what stands for a reference is a number of one
module _ (u : ℕ) (t : Table) (good : IsTable u t) where
  pub refers_found : Found → Bool
  refers_found (Is n) = refers n
  refers_found (Nothing a) = refers_here a

  mail_or : (j : ℕ) (o : Option Name) → slice_get t.mails j ≡ o → refers_found (mess_found j o) ≡ true → refers_here (Mess j) ≡ true
  unfolding refers_found mess_found refers refers_here
  mail_or j (Some n) e h = let m = good.messages j n e in clash (refers n) (ap refers m.1) h
    where
      clash : (c : Bool) → c ≡ false → c ≡ true → false ≡ true
      clash c i k = cc
  mail_or j None e h = h

  pub found_refers : (a : Local) → refers_found (found u t a) ≡ true → refers_here a ≡ true
  unfolding found refers_here
  found_refers (Mess j) h = mail_or j (slice_get t.mails j) refl h
  found_refers other h = refl

  pub is_refers : (n : Name) → refers n ≡ true → refers_found (Is n) ≡ true
  unfolding refers_found
  is_refers n h = h
