-- The two namings of a vat: its own numbers, and the names that every vat means the same by.
use Rattle.std.proofs.Common.{◌≡◌, ℕ, zero, suc, Bool, true, false, List, [], ◌∷◌, ◌++◌, Option, Some, None, refl, sym, ap, ◌∙◌, length, map, ◌==◌, ◌&&◌}
use Rattle.std.specs.Prelude.{slice_get, option_map}
use Rattle.def_machine.specs.Values.{Name, Msg, Root, Object, same_name, same_reference, Own, Foreign, NoObject, spot_of, Coming, IsRoot, name_of, Local, Obj, Prom, Far, Mess, Sent, Mailing, IsSent, IsCarried, mail_of, local_spot, same_local, numbering, naming}
use Rattle.def_machine.specs.State.{Vat, Known, Act, Done, Gives, Throws, Ejects, Stops}
use Rattle.std.proofs.lemmas.Bool.{eqb-true, eq-eqb}
use Rattle.def_machine.specs.Maps as maps
use Rattle.law_machine.specs.Renamed.Stands.{Table, Found, Is, Nothing, prom_found, far_found, mess_found, found_answer, found_name, found, finding, found_spot, found_same, IsTable, StandsFor}
use Rattle.law_machine.proofs.Renamed.Sim.{Books, books, Renames, Sim, FitsAfter, names, map_get}
use Rattle.law_machine.proofs.Renamed.MapMaps.{vat_twice}

coming_same : (v : ℕ) (c : Coming Name Name) → found_name v (maps.coming Is (λ (x : Name). x) c) ≡ Is (name_of v c)
unfolding found_name found_answer name_of
coming_same v (IsRoot w) = refl
coming_same v other = refl

mailing_same : (v : ℕ) (c : Mailing Name) → mail_of v (maps.mailing (λ (x : Name). x) c) ≡ mail_of v c
mailing_same v (IsSent i) = refl
mailing_same v (IsCarried x) = refl

-- names as they are
pub is_renames : (word : ℕ → ℕ) (v : ℕ) → Renames Is (λ (n : Name). n) (naming word v) (finding word v) (λ (b : Books _). Unit {0})
unfolding naming finding found_spot found_same
is_renames word v = record {
  object = λ i. refl;
  spot = λ n. refl;
  same = λ a b. refl;
  word = λ i. refl;
  made = λ c ns ms h. coming_same v c;
  mailed = λ c ns ms h. ap Is (mailing_same v c);
  before = record { names = λ ns ns' ms h. tt; mails = λ ns ms ms' h. tt };
}

pub same_number : (i j : ℕ) → (i == j) ≡ true → i ≡ j
same_number i j e = eqb-true i j e

pub number_same : (i j : ℕ) → i ≡ j → (i == j) ≡ true
number_same i j e = eq-eqb i j e

and_false : (a b : Bool) → a ≡ false → (a && b) ≡ false
and_false true b e = cc
and_false false b e = refl

-- two tests that mean the same
pub both : (a b : Bool) → (a ≡ true → b ≡ true) → (b ≡ true → a ≡ true) → a ≡ b
both true true p q = refl
both false false p q = refl
both true false p q = sym (p refl)
both false true p q = q refl

pub not_true : (a : Bool) → (a ≡ true → ⊥) → a ≡ false
not_true true p = absurd (p refl)
not_true false p = refl

flip_number : (i j : ℕ) → (i == j) ≡ (j == i)
flip_number i j = both (i == j) (j == i) (λ e. number_same j i (sym (same_number i j e))) (λ e. number_same i j (sym (same_number j i e)))

object_spot : (b : Bool) (u j : ℕ) → elim b [ true ↦ Own j | false ↦ Foreign u ] ≡ NoObject → ⊥
object_spot true u j e = cc
object_spot false u j e = cc

-- an object is no promise
object_promise : (v w i : ℕ) (n : Name) → spot_of v n ≡ NoObject → same_reference (Object w i) n ≡ false
unfolding spot_of same_name same_reference
object_promise v w i (Object u j) e = absurd (object_spot (v == u) u j e)
object_promise v w i other e = refl

promise_object : (v w i : ℕ) (n : Name) → spot_of v n ≡ NoObject → same_reference n (Object w i) ≡ false
unfolding spot_of same_name same_reference
promise_object v w i (Object u j) e = absurd (object_spot (v == u) u j e)
promise_object v w i other e = refl

abroad_spot : (b : Bool) (h j : ℕ) → elim b [ true ↦ Own j | false ↦ Foreign h ] ≡ Foreign h → b ≡ false
abroad_spot true h j e = cc
abroad_spot false h j e = refl

-- an object of another vat is none of this
home_abroad : (v i h j : ℕ) → spot_of v (Object h j) ≡ Foreign h → same_reference (Object v i) (Object h j) ≡ false
unfolding spot_of same_name same_reference
home_abroad v i h j e = and_false (v == h) (i == j) (abroad_spot (v == h) h j e)

abroad_home : (v i h j : ℕ) → spot_of v (Object h j) ≡ Foreign h → same_reference (Object h j) (Object v i) ≡ false
unfolding spot_of same_name same_reference
abroad_home v i h j e = and_false (h == v) (j == i) (rw (flip_number h v) (abroad_spot (v == h) h j e))

home_home : (v i j : ℕ) → same_reference (Object v i) (Object v j) ≡ (i == j)
unfolding same_name same_reference
home_home v i j = rw (number_same v v refl) refl

no_message : (a : Name) (m : Msg) → same_reference a (Sent m) ≡ false
unfolding same_reference same_name
no_message (Root _) m = refl
no_message other m = refl

no_mess : (a : Local) (k : ℕ) → same_local a (Mess k) ≡ false
unfolding same_local
no_mess (Obj _) k = refl
no_mess other k = refl

own_spot : (v i : ℕ) → found_spot v (Is (Object v i)) ≡ Own i
unfolding found_spot spot_of
own_spot v i = rw (number_same v v refl, spot_of) refl

pub and_both : (a b : Bool) → (a && b) ≡ true → (a ≡ true) × (b ≡ true)
and_both true true e = (refl, refl)
and_both true false e = cc
and_both false b e = cc

-- ---- the laws of a table

module _ (v : ℕ) (t : Table) (good : IsTable v t) where
  prom_spot : (k : ℕ) (o : Option Name) → slice_get t.names k ≡ o → found_spot v (prom_found k o) ≡ NoObject
  unfolding found_spot prom_found local_spot
  prom_spot k (Some n) e = good.promises k n e
  prom_spot k None e = refl

  mess_spot : (k : ℕ) (o : Option Name) → slice_get t.mails k ≡ o → found_spot v (mess_found k o) ≡ NoObject
  unfolding found_spot mess_found local_spot spot_of
  mess_spot k (Some n) e = let m = good.messages k n e in rw (m.1) refl
  mess_spot k None e = refl

  far_spot : (h p : ℕ) (o : Option ℕ) → t.exports h p ≡ o → found_spot v (far_found h p o) ≡ Foreign h
  unfolding found_spot far_found local_spot
  far_spot h p (Some j) e = good.abroad h p j e
  far_spot h p None e = refl

  spots : (a : Local) → found_spot v (found v t a) ≡ local_spot a
  unfolding found local_spot
  spots (Obj i) = own_spot v i
  spots (Prom k) = prom_spot k _ refl
  spots (Mess k) = mess_spot k _ refl
  spots (Far h p) = far_spot h p _ refl

  prom_prom : (i j : ℕ) (o q : Option Name) → slice_get t.names i ≡ o → slice_get t.names j ≡ q → found_same (prom_found i o) (prom_found j q) ≡ (i == j)
  unfolding found_same prom_found same_local
  prom_prom i j (Some a) (Some b) e k = good.distinct i j a b e k
  prom_prom i j None None e k = refl
  prom_prom i j (Some a) None e k = sym (not_true (i == j) (λ h. let x : i ≡ j = same_number i j h in cc))
  prom_prom i j None (Some b) e k = sym (not_true (i == j) (λ h. let x : i ≡ j = same_number i j h in cc))

  obj_prom : (i k : ℕ) (o : Option Name) → slice_get t.names k ≡ o → found_same (Is (Object v i)) (prom_found k o) ≡ false
  unfolding found_same prom_found
  obj_prom i k (Some n) e = object_promise v v i n (good.promises k n e)
  obj_prom i k None e = refl

  prom_obj : (i k : ℕ) (o : Option Name) → slice_get t.names k ≡ o → found_same (prom_found k o) (Is (Object v i)) ≡ false
  unfolding found_same prom_found
  prom_obj i k (Some n) e = promise_object v v i n (good.promises k n e)
  prom_obj i k None e = refl

  obj_far : (i h p : ℕ) (o : Option ℕ) → t.exports h p ≡ o → found_same (Is (Object v i)) (far_found h p o) ≡ false
  unfolding found_same far_found
  obj_far i h p (Some j) e = home_abroad v i h j (good.abroad h p j e)
  obj_far i h p None e = refl

  far_obj : (i h p : ℕ) (o : Option ℕ) → t.exports h p ≡ o → found_same (far_found h p o) (Is (Object v i)) ≡ false
  unfolding found_same far_found
  far_obj i h p (Some j) e = abroad_home v i h j (good.abroad h p j e)
  far_obj i h p None e = refl

  prom_far : (k h p : ℕ) (o : Option Name) (q : Option ℕ) → slice_get t.names k ≡ o → found_same (prom_found k o) (far_found h p q) ≡ false
  unfolding found_same far_found prom_found same_local
  prom_far k h p (Some n) (Some j) e = promise_object v h j n (good.promises k n e)
  prom_far k h p None (Some j) e = refl
  prom_far k h p (Some n) None e = refl
  prom_far k h p None None e = refl

  far_prom : (k h p : ℕ) (o : Option Name) (q : Option ℕ) → slice_get t.names k ≡ o → found_same (far_found h p q) (prom_found k o) ≡ false
  unfolding found_same far_found prom_found same_local
  far_prom k h p (Some n) (Some j) e = object_promise v h j n (good.promises k n e)
  far_prom k h p None (Some j) e = refl
  far_prom k h p (Some n) None e = refl
  far_prom k h p None None e = refl

  far_far : (h p g q : ℕ) (o u : Option ℕ) → t.exports h p ≡ o → t.exports g q ≡ u → found_same (far_found h p o) (far_found g q u) ≡ ((h == g) && (p == q))
  unfolding found_same far_found same_local
  far_far h p g q (Some i) (Some j) e k = good.exports_distinct h p g q i j e k
  far_far h p g q None None e k = refl
  far_far h p g q (Some i) None e k = sym (not_true _ (λ x. let b = and_both (h == g) (p == q) x in let y : h ≡ g = same_number h g b.0 in let z : p ≡ q = same_number p q b.1 in cc))
  far_far h p g q None (Some j) e k = sym (not_true _ (λ x. let b = and_both (h == g) (p == q) x in let y : h ≡ g = same_number h g b.0 in let z : p ≡ q = same_number p q b.1 in cc))

  -- a message is the same as nothing
  mess_first : (k : ℕ) (o : Option Name) (x : Found) → slice_get t.mails k ≡ o → found_same (mess_found k o) x ≡ false
  unfolding found_same mess_found same_local same_reference
  mess_first k (Some n) (Is a) e = let m = good.messages k n e in rw (m.1) refl
  mess_first k (Some n) (Nothing a) e = refl
  mess_first k None (Is a) e = refl
  mess_first k None (Nothing a) e = refl

  mess_last : (k : ℕ) (o : Option Name) (x : Found) → slice_get t.mails k ≡ o → found_same x (mess_found k o) ≡ false
  unfolding found_same mess_found
  mess_last k (Some n) (Is a) e = let m = good.messages k n e in rw (m.1) (no_message a m.0)
  mess_last k (Some n) (Nothing a) e = refl
  mess_last k None (Is a) e = refl
  mess_last k None (Nothing a) e = no_mess a k

  pub sames : (a b : Local) → found_same (found v t a) (found v t b) ≡ same_local a b
  unfolding found same_local found_same
  sames (Obj i) (Obj j) = home_home v i j
  sames (Obj i) (Prom k) = obj_prom i k _ refl
  sames (Obj i) (Far h p) = obj_far i h p _ refl
  sames (Prom k) (Obj i) = prom_obj i k _ refl
  sames (Prom i) (Prom j) = prom_prom i j _ _ refl refl
  sames (Prom k) (Far h p) = prom_far k h p _ _ refl
  sames (Far h p) (Obj i) = far_obj i h p _ refl
  sames (Far h p) (Prom k) = far_prom k h p _ _ refl
  sames (Far h p) (Far g q) = far_far h p g q _ _ refl refl
  sames (Mess k) (Obj i) = mess_first k _ (Is (Object v i)) refl
  sames (Mess k) (Prom i) = mess_first k _ (prom_found i (slice_get t.names i)) refl
  sames (Mess k) (Far h p) = mess_first k _ (far_found h p (t.exports h p)) refl
  sames (Mess i) (Mess j) = mess_first i _ (mess_found j (slice_get t.mails j)) refl
  sames (Obj i) (Mess k) = mess_last k _ (Is (Object v i)) refl
  sames (Prom i) (Mess k) = mess_last k _ (prom_found i (slice_get t.names i)) refl
  sames (Far h p) (Mess k) = mess_last k _ (far_found h p (t.exports h p)) refl

  -- the names known fit a table where each stands at its place
  pub record FitsTable (b : Books Found) : Type 0 where
    pub names : (k : ℕ) (m : Found) → slice_get b.names k ≡ Some m → m ≡ found v t (Prom k)
    pub mails : (k : ℕ) (m : Found) → slice_get b.mails k ≡ Some m → m ≡ found v t (Mess k)

  get_last : {A : Type 0} (xs : List A) (x : A) → slice_get (xs ++ x ∷ []) (length xs) ≡ Some x
  get_last [] x = refl
  get_last (y ∷ xs) x = get_last xs x

  get_front : {A : Type 0} (xs ys : List A) (k : ℕ) (x : A) → slice_get xs k ≡ Some x → slice_get (xs ++ ys) k ≡ Some x
  get_front [] ys k x e = cc
  get_front (y ∷ xs) ys zero x e = e
  get_front (y ∷ xs) ys (suc k) x e = get_front xs ys k x e

  pub found_renames : {W : Type 0} (word : ℕ → ℕ) (w : W → Name) → Renames (found v t) w (numbering word) (finding word v) FitsTable
  unfolding numbering finding
  found_renames word w = record {
    object = λ i. unfold found in refl;
    spot = λ a. spots a;
    same = λ a b. sames a b;
    word = λ i. refl;
    made = λ c ns ms h. h.names (length ns) _ (get_last ns _);
    mailed = λ c ns ms h. h.mails (length ms) _ (get_last ms _);
    before = record {
      names = λ ns ns' ms h. record { names = λ k m e. h.names k m (get_front ns ns' k m e); mails = h.mails };
      mails = λ ns ms ms' h. record { names = h.names; mails = λ k m e. h.mails k m (get_front ms ms' k m e) };
    };
  }

-- ---- one table is the start of another

pub record Extends (t u : Table) : Type 0 where
  pub names : (k : ℕ) (n : Name) → slice_get t.names k ≡ Some n → slice_get u.names k ≡ Some n
  pub mails : (k : ℕ) (n : Name) → slice_get t.mails k ≡ Some n → slice_get u.mails k ≡ Some n
  pub exports : (h p j : ℕ) → t.exports h p ≡ Some j → u.exports h p ≡ Some j

module _ (v : ℕ) (t u : Table) (more : Extends t u) where
  -- what was not found is looked for again
  unfoldable pub again : Found → Found
  again (Is n) = Is n
  again (Nothing a) = found v u a

  prom_again : (k : ℕ) (o : Option Name) → slice_get t.names k ≡ o → again (prom_found k o) ≡ prom_found k (slice_get u.names k)
  unfolding again prom_found found
  prom_again k (Some n) e = rw (more.names k n e) refl
  prom_again k None e = refl

  mess_again : (k : ℕ) (o : Option Name) → slice_get t.mails k ≡ o → again (mess_found k o) ≡ mess_found k (slice_get u.mails k)
  unfolding again mess_found found
  mess_again k (Some n) e = rw (more.mails k n e) refl
  mess_again k None e = refl

  far_again : (h p : ℕ) (o : Option ℕ) → t.exports h p ≡ o → again (far_found h p o) ≡ far_found h p (u.exports h p)
  unfolding again far_found found
  far_again h p (Some j) e = rw (more.exports h p j e) refl
  far_again h p None e = refl

  pub found_again : (a : Local) → again (found v t a) ≡ found v u a
  unfolding found again
  found_again (Obj i) = refl
  found_again (Prom k) = prom_again k _ refl
  found_again (Mess k) = mess_again k _ refl
  found_again (Far h p) = far_again h p _ refl

  -- what stands for a state under a table stands for it under a longer one
  pub still : (s : Vat Local) (r : Vat Name) → StandsFor v t s r → StandsFor v u s r
  unfolding again
  still s r e =
      let same : (λ (a : Local). again (found v t a)) ≡ found v u = λ i a. found_again a i in
      let x : maps.vat again (maps.vat (found v t) s) ≡ maps.vat (λ a. again (found v t a)) s = vat_twice (found v t) again s in
      let y : maps.vat again (maps.vat Is r) ≡ maps.vat Is r = vat_twice Is again r in
      let z : maps.vat again (maps.vat (found v t) s) ≡ maps.vat again (maps.vat Is r) = ap (λ q. maps.vat again q) e in
      sym (ap (λ (g : Local → Found). maps.vat g s) same) ∙ sym x ∙ z ∙ y

-- ---- a step

free : {C : Type 0} (d : Done Found C) → FitsAfter (λ (b : Books Found). Unit {0}) d
free (Gives a u) = tt
free other = tt

abbrev pub books_of : Table → Books Name
books_of t = record { names = t.names; mails = t.mails }

-- the names known and the messages after
abbrev pub books_after : {A : Type 0} → Done Name A → Books Name
books_after (Gives a u) = books u
books_after (Throws p u) = books u
books_after (Ejects n w u) = books u
books_after (Stops c u) = books u

module _ (v : ℕ) (t : Table) (good : IsTable v t) where
  map_found : (ks : List (Known Name)) → names (map (maps.known Is) ks) ≡ map Is (names ks)
  map_found [] = refl
  map_found (k ∷ ks) = ap (λ ns. Is k.name ∷ ns) (map_found ks)

  option_found : (k : ℕ) (m : Found) (o : Option Name) → slice_get t.names k ≡ o → option_map Is o ≡ Some m → m ≡ found v t (Prom k)
  unfolding found prom_found
  option_found k m (Some n) e h = rw e (cc)
  option_found k m None e h = cc

  mail_found : (k : ℕ) (m : Found) (o : Option Name) → slice_get t.mails k ≡ o → option_map Is o ≡ Some m → m ≡ found v t (Mess k)
  unfolding found mess_found
  mail_found k m (Some n) e h = rw e (cc)
  mail_found k m None e h = cc

  table_fits : FitsTable v t good (record { names = map Is t.names; mails = map Is t.mails })
  table_fits = record {
    names = λ k m h. option_found k m (slice_get t.names k) refl (sym (map_get Is t.names k) ∙ h);
    mails = λ k m h. mail_found k m (slice_get t.mails k) refl (sym (map_get Is t.mails k) ∙ h);
  }

  state_fits : (u : Vat Name) → books u ≡ books_of t → FitsTable v t good (books (maps.vat Is u))
  state_fits u e =
      let x : names u.known ≡ t.names = ap (λ b. b.names) e in
      let y : u.mails ≡ t.mails = ap (λ b. b.mails) e in rw (map_found u.known, x, y) table_fits

  outcome_fits : {A B : Type 0} (g : A → B) (d : Done Name A) → books_after d ≡ books_of t → FitsAfter (FitsTable v t good) (maps.done Is g d)
  outcome_fits g (Gives a u) e = state_fits u e
  outcome_fits g (Throws p u) e = state_fits u e
  outcome_fits g (Ejects n w u) e = state_fits u e
  outcome_fits g (Stops c u) e = state_fits u e

  -- A step of the vat under its own numbers stands for the step under names, where the table is the one after the step.
  pub step_stands : {A B C : Type 0} (g : A → C) (l : B → C) (m : Act Local A) (n : Act Name B) (k : Act Found C)
      → Sim (found v t) (FitsTable v t good) g m k → Sim Is (λ (b : Books _). Unit {0}) l n k
      → (s : Vat Local) (r : Vat Name) → StandsFor v t s r → books_after (n r) ≡ books_of t
      → maps.done (found v t) g (m s) ≡ maps.done Is l (n r)
  step_stands g l m n k p q s r e h =
      let x : k (maps.vat Is r) ≡ maps.done Is l (n r) = q.at r (free (k (maps.vat Is r))) in
      let y : k (maps.vat (found v t) s) ≡ maps.done Is l (n r) = ap k e ∙ x in
      let z : FitsAfter (FitsTable v t good) (k (maps.vat (found v t) s)) = rw y (outcome_fits l (n r) h) in
      sym (p.at s z) ∙ y
