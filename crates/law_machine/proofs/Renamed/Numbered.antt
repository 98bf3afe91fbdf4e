-- Where the opening turn under numbers names nothing new, it stands for the turn under names.
use Rattle.std.proofs.Common.{◌≡◌, ℕ, zero, suc, List, [], ◌∷◌, ◌++◌, Option, Some, None, refl, sym, ap, subst, ◌∙◌, length, map, ◌==◌}
use Rattle.std.specs.Prelude.{slice_get}
use Rattle.def_kernel.specs.declared.node.Node.{Node}
use Rattle.def_machine.specs.Values.{Words, Value, Null, Ref, Name, Root, Object, same_name, same_reference, spot_of, NoObject, Naming, Local, Prom, Mess, naming, numbering}
use Rattle.def_machine.specs.State.{Known, Vat, Done, Gives, Throws, Ejects, Stops, begun, is_in}
use Rattle.def_machine.specs.Eval.{opening}
use Rattle.law_machine.specs.Machine.Steps.{Opens, After, does}
use Rattle.law_machine.specs.Machine.Laws.{SameNames}
use Rattle.law_machine.proofs.Machine.StepLaws.{names_stays}
use Rattle.def_machine.specs.Maps as maps
use Rattle.law_machine.specs.Renamed.Stands.{Table, Found, Is, Nothing, prom_found, mess_found, far_found, found, found_spot, found_same, IsTable, finding}
use Rattle.law_machine.proofs.Renamed.Sim.{Books, books, names, Renames, FitsAfter, id}
use Rattle.law_machine.proofs.Renamed.SimEval.{sim_opening}
use Rattle.law_machine.proofs.Renamed.Stands.{found_renames}
use Rattle.law_machine.proofs.Renamed.MapMaps.{vat_twice}
use Rattle.def_run.specs.Draws.{draw_word}
use Rattle.def_run.specs.World.{Run, World, Goes, Stopped, Opens as Started, then_goes, run, open_from, open_vat, steps_from, close, put_back, begins, fresh_from, fresh, known_root, knowers, links_from, links_to, within, readied, given}
use Rattle.def_run.specs.World as world
use Rattle.law_machine.specs.Renamed.Alone.{alone, start, opened_alone, name_of, KnowsRootAlone, NamesNothing, run_of_step, RunsAlone}
use Rattle.law_machine.proofs.Renamed.Same.{value_same, vat_same}

get_last : {A : Type 0} (xs : List A) (x : A) → slice_get (xs ++ x ∷ []) (length xs) ≡ Some x
get_last [] x = refl
get_last (y ∷ xs) x = get_last xs x

get_front : {A : Type 0} (xs ys : List A) (k : ℕ) (x : A) → slice_get xs k ≡ Some x → slice_get (xs ++ ys) k ≡ Some x
get_front [] ys k x e = cc
get_front (y ∷ xs) ys zero x e = e
get_front (y ∷ xs) ys (suc k) x e = get_front xs ys k x e

-- a machine where what is new has a number and no name
unfoldable numbered : (ℕ → ℕ) → ℕ → Naming Found Name
numbered word v = record { object = λ i. Is (Object v i); made = λ c k. Nothing (Prom k); mailed = λ c k. Nothing (Mess k); spot = found_spot v; same = found_same; word = word }

abbrev IsFound : Found → Type 0
IsFound (Is n) = Unit {0}
IsFound (Nothing a) = ⊥

-- each name known, and each message, is found
record AllFound (b : Books Found) : Type 0 where
  pub names : (k : ℕ) (m : Found) → slice_get b.names k ≡ Some m → IsFound m
  pub mails : (k : ℕ) (m : Found) → slice_get b.mails k ≡ Some m → IsFound m

-- each name of the table stands at its place, where a name is known of that number
record StandsIn (t : Table) (b : Books Found) : Type 0 where
  pub names : (k : ℕ) (n : Name) (m : Found) → slice_get t.names k ≡ Some n → slice_get b.names k ≡ Some m → m ≡ Is n
  pub mails : (k : ℕ) (n : Name) (m : Found) → slice_get t.mails k ≡ Some n → slice_get b.mails k ≡ Some m → m ≡ Is n

-- names as they are, where nothing is new
is_renames : (word : ℕ → ℕ) (v : ℕ) → Renames Is (λ (n : Name). n) (naming word v) (numbered word v) AllFound
unfolding naming numbered found_spot found_same
is_renames word v = record {
  object = λ i. refl;
  spot = λ n. refl;
  same = λ a b. refl;
  word = λ i. refl;
  made = λ c ns ms h. absurd (h.names (length ns) _ (get_last ns _));
  mailed = λ c ns ms h. absurd (h.mails (length ms) _ (get_last ms _));
  before = record {
    names = λ ns ns' ms h. record { names = λ k m e. h.names k m (get_front ns ns' k m e); mails = h.mails };
    mails = λ ns ms ms' h. record { names = h.names; mails = λ k m e. h.mails k m (get_front ms ms' k m e) };
  };
}

module _ (v : ℕ) (t : Table) (good : IsTable v t) where
  made_so : (k : ℕ) (o : Option Name) → ((n : Name) → o ≡ Some n → Nothing (Prom k) ≡ Is n) → Nothing (Prom k) ≡ prom_found k o
  unfolding prom_found
  made_so k (Some n) h = h n refl
  made_so k None h = refl

  mailed_so : (k : ℕ) (o : Option Name) → ((n : Name) → o ≡ Some n → Nothing (Mess k) ≡ Is n) → Nothing (Mess k) ≡ mess_found k o
  unfolding mess_found
  mailed_so k (Some n) h = h n refl
  mailed_so k None h = refl

  number_renames : (word : ℕ → ℕ) → Renames (found v t) (λ (x : Local). Root zero) (numbering word) (numbered word v) (StandsIn t)
  unfolding numbering numbered found finding
  number_renames word =
      let before = found_renames v t good word (λ (x : Local). Root zero) in
      record {
        object = λ i. refl;
        spot = before.spot;
        same = before.same;
        word = λ i. refl;
        made = λ c ns ms h. made_so (length ns) (slice_get t.names (length ns)) (λ n e. h.names (length ns) n _ e (get_last ns _));
        mailed = λ c ns ms h. mailed_so (length ms) (slice_get t.mails (length ms)) (λ n e. h.mails (length ms) n _ e (get_last ms _));
        before = record {
          names = λ ns ns' ms h. record { names = λ k n m e i. h.names k n m e (get_front ns ns' k m i); mails = h.mails };
          mails = λ ns ms ms' h. record { names = h.names; mails = λ k n m e i. h.mails k n m e (get_front ms ms' k m i) };
        };
      }

-- ---- a vat that knows its root alone

unfoldable pub root_alone : Table
root_alone = record { names = Root zero ∷ []; mails = []; exports = λ h p. None }

root_is_table : IsTable zero root_alone
unfolding root_alone same_name same_reference spot_of
root_is_table = record {
  promises = promises;
  distinct = distinct;
  messages = λ k n e. cc;
  abroad = λ h p j e. cc;
  exports_distinct = λ h p g q i j e k. cc;
}
  where
    promises : (k : ℕ) (n : Name) → slice_get root_alone.names k ≡ Some n → spot_of zero n ≡ NoObject
    promises zero n e = let i : Root zero ≡ n = cc in rw (sym i) refl
    promises (suc k) n e = cc

    distinct : (i j : ℕ) (a b : Name) → slice_get root_alone.names i ≡ Some a → slice_get root_alone.names j ≡ Some b → same_reference a b ≡ (i == j)
    distinct zero zero a b e h = let i : Root zero ≡ a = cc in let j : Root zero ≡ b = cc in rw (sym i, sym j) refl
    distinct zero (suc j) a b e h = cc
    distinct (suc i) j a b e h = cc

-- that vat at the start, under names
start_named : ℕ → Vat Name
start_named fuel = maps.vat name_of (start fuel)

-- and where what is new has a number and no name
start_found : ℕ → Vat Found
start_found fuel = maps.vat (found zero root_alone) (start fuel)

-- one outcome in each of three ways
pub named_opening : (ℕ → ℕ) → ℕ → ℕ → List Node → Done Name (Unit {0})
named_opening word fuel depth tree = opening (naming word zero) tree depth (Root zero) [] (start_named fuel)

found_opening : (ℕ → ℕ) → ℕ → ℕ → List Node → Done Found (Unit {0})
found_opening word fuel depth tree = opening (numbered word zero) tree depth (Is (Root zero)) [] (start_found fuel)

start_same : (fuel : ℕ) → maps.vat Is (start_named fuel) ≡ start_found fuel
unfolding start_named start_found start begun name_of found prom_found root_alone
start_same fuel = refl

root_known : (fuel : ℕ) (u : Vat Found) → SameNames (start_found fuel) u → (j : Known Found) × (slice_get u.known zero ≡ Some j) × (j.name ≡ Is (Root zero))
unfolding start_found start begun found prom_found root_alone
root_known fuel u h = let a = h zero (begun (Is (Root zero)) zero) refl in (a.0, a.1, a.2)

root_stands : (ks : List (Known Found)) (j : Known Found) (m : Found) → slice_get ks zero ≡ Some j → j.name ≡ Is (Root zero) → slice_get (names ks) zero ≡ Some m → m ≡ Is (Root zero)
root_stands [] j m e h i = cc
root_stands (x ∷ ks) j m e h i =
    let a : x ≡ j = cc in
    let b : x.name ≡ m = cc in
    sym b ∙ ap (λ (k : Known Found). k.name) a ∙ h

stands_in : (fuel : ℕ) (u : Vat Found) → SameNames (start_found fuel) u → StandsIn root_alone (books u)
unfolding root_alone
stands_in fuel u h =
    let a = root_known fuel u h in
    record { names = at a; mails = λ k n m e. cc }
  where
    at : ((j : Known Found) × (slice_get u.known zero ≡ Some j) × (j.name ≡ Is (Root zero))) → (k : ℕ) (n : Name) (m : Found) → slice_get (Root zero ∷ []) k ≡ Some n → slice_get (names u.known) k ≡ Some m → m ≡ Is n
    at a zero n m e i = let j : Root zero ≡ n = cc in root_stands u.known a.0 m a.1 a.2 i ∙ ap Is j
    at a (suc k) n m e i = cc

stands_after : (fuel : ℕ) (d : Done Found (Unit {0})) → After SameNames (start_found fuel) d → FitsAfter (StandsIn root_alone) d
stands_after fuel (Gives a u) h = stands_in fuel u h
stands_after fuel (Throws p u) h = stands_in fuel u h
stands_after fuel (Ejects n x u) h = stands_in fuel u h
stands_after fuel (Stops c u) h = stands_in fuel u h

-- ---- under numbers

found_numbers : (word : ℕ → ℕ) (fuel depth : ℕ) (tree : List Node) → found_opening word fuel depth tree ≡ maps.done (found zero root_alone) id (opened_alone word fuel depth tree)
unfolding found_opening start_found found prom_found root_alone does
found_numbers word fuel depth tree =
    let f = found zero root_alone in
    let law = number_renames zero root_alone root_is_table word in
    let sim = sim_opening f (λ (x : Local). Root zero) (numbering word) (numbered word zero) (StandsIn root_alone) law tree depth (Prom zero) [] in
    sim.at (start fuel) (stands_after fuel _ (names_stays (numbered word zero) (Opens tree depth (Is (Root zero)) []) (start_found fuel)))

root_found : found zero root_alone (Prom zero) ≡ Is (Root zero)
unfolding found prom_found root_alone
root_found = refl

-- where nothing new is named, all that is known is found
all_names : (ks : List (Known Local)) (m : Found) (k : ℕ) → map (λ (x : Known Local). x.name) ks ≡ Prom zero ∷ []
    → slice_get (names (map (maps.known (found zero root_alone)) ks)) k ≡ Some m → IsFound m
all_names [] m k e h = cc
all_names (x ∷ y ∷ ks) m k e h = cc
all_names (x ∷ []) m zero e h =
    let i : x.name ≡ Prom zero = cc in
    let j : found zero root_alone x.name ≡ m = cc in
    subst IsFound (sym (ap (found zero root_alone) i ∙ root_found) ∙ j) tt
all_names (x ∷ []) m (suc k) e h = cc

all_mails : (ms : List Local) (m : Found) (k : ℕ) → ms ≡ [] → slice_get (map (found zero root_alone) ms) k ≡ Some m → IsFound m
all_mails [] m k e h = cc
all_mails (x ∷ ms) m k e h = cc

all_found : (s : Vat Local) → KnowsRootAlone s → AllFound (books (maps.vat (found zero root_alone) s))
all_found s h = record { names = λ k m e. all_names s.known m k h.0 e; mails = λ k m e. all_mails s.mails m k h.1 e }

all_after : (d : Done Local (Unit {0})) → NamesNothing d → FitsAfter AllFound (maps.done (found zero root_alone) id d)
all_after (Gives a s) h = all_found s h
all_after (Throws p s) h = all_found s h
all_after (Ejects n x s) h = all_found s h
all_after (Stops c s) h = all_found s h

-- ---- under names

pub found_names : (word : ℕ → ℕ) (fuel depth : ℕ) (tree : List Node) → NamesNothing (opened_alone word fuel depth tree)
    → maps.done (found zero root_alone) id (opened_alone word fuel depth tree) ≡ maps.done Is id (named_opening word fuel depth tree)
unfolding named_opening found_opening
found_names word fuel depth tree h =
    let sim = sim_opening Is (λ (n : Name). n) (naming word zero) (numbered word zero) AllFound (is_renames word zero) tree depth (Root zero) [] in
    let a : opening (numbered word zero) tree depth (Is (Root zero)) [] (start_found fuel) ≡ maps.done (found zero root_alone) id (opened_alone word fuel depth tree) = found_numbers word fuel depth tree in
    let b : FitsAfter AllFound (opening (numbered word zero) tree depth (Is (Root zero)) [] (maps.vat Is (start_named fuel))) = rw (start_same fuel, a) (all_after (opened_alone word fuel depth tree) h) in
    sym a ∙ ap (opening (numbered word zero) tree depth (Is (Root zero)) []) (sym (start_same fuel)) ∙ sim.at (start_named fuel) b

-- ---- the name in place of what is found

named : Found → Name
named (Is n) = n
named (Nothing a) = name_of a

prom_named : (k : ℕ) → named (prom_found k (slice_get (Root zero ∷ []) k)) ≡ Root zero
unfolding named prom_found name_of
prom_named zero = refl
prom_named (suc k) = refl

named_found : (a : Local) → named (found zero root_alone a) ≡ name_of a
unfolding named found mess_found far_found name_of root_alone
named_found (Prom k) = prom_named k
named_found other = refl

value_twice : {N M P : Type 0} (f : N → M) (g : M → P) (v : Value N) → maps.value g (maps.value f v) ≡ maps.value (λ n. g (f n)) v
value_twice f g Null = refl
value_twice f g (Ref n) = refl
value_twice f g _ = refl

done_twice : {N M P : Type 0} (f : N → M) (g : M → P) (d : Done N (Unit {0})) → maps.done g id (maps.done f id d) ≡ maps.done (λ n. g (f n)) id d
done_twice f g (Gives a s) = ap (Gives a) (vat_twice f g s)
done_twice f g (Throws p s) = ap (Throws p) (vat_twice f g s)
done_twice f g (Ejects n v s) = rw (value_twice f g v, vat_twice f g s) refl
done_twice f g (Stops c s) = ap (Stops c) (vat_twice f g s)

done_same : {N : Type 0} (d : Done N (Unit {0})) → maps.done (λ (n : N). n) id d ≡ d
done_same (Gives a s) = ap (Gives a) (vat_same s)
done_same (Throws p s) = ap (Throws p) (vat_same s)
done_same (Ejects n v s) = rw (value_same v, vat_same s) refl
done_same (Stops c s) = ap (Stops c) (vat_same s)

is_named : (d : Done Name (Unit {0})) → maps.done named id (maps.done Is id d) ≡ d
unfolding named
is_named d = done_twice Is named d ∙ done_same d

opening_named : (word : ℕ → ℕ) (fuel depth : ℕ) (tree : List Node) → NamesNothing (opened_alone word fuel depth tree)
    → named_opening word fuel depth tree ≡ maps.done name_of id (opened_alone word fuel depth tree)
opening_named word fuel depth tree h =
    let same : (λ (a : Local). named (found zero root_alone a)) ≡ name_of = λ i a. named_found a i in
    sym (is_named (named_opening word fuel depth tree))
    ∙ ap (maps.done named id) (sym (found_names word fuel depth tree h))
    ∙ done_twice (found zero root_alone) named (opened_alone word fuel depth tree)
    ∙ ap (λ (g : Local → Name). maps.done g id (opened_alone word fuel depth tree)) same

-- ---- the run

goes_on : (r : Run) (f : World → Run) → then_goes (then_goes r (λ w. Goes w)) (λ w. then_goes (Goes w) f) ≡ then_goes r f
unfolding then_goes
goes_on (Goes w) f = refl
goes_on (Stopped c k w) f = refl

run_is : (key : List ℕ) (fuel depth : ℕ) (name : Words) (tree : List Node) → run (alone key fuel depth name tree) ≡ run_of_step (alone key fuel depth name tree) (named_opening (draw_word key) fuel depth tree)
unfolding run_of_step named_opening start_named start name_of begun run open_from open_vat steps_from begins fresh_from fresh known_root knowers is_in links_from links_to within readied world.names given
run_is key fuel depth name tree =
    let script = alone key fuel depth name tree in
    goes_on (put_back zero (begins script) (Started zero ∷ []) zero (named_opening (draw_word key) fuel depth tree)) (close script)

pub runs_alone : RunsAlone
runs_alone key fuel depth name tree h =
    run_is key fuel depth name tree ∙ ap (run_of_step (alone key fuel depth name tree)) (opening_named (draw_word key) fuel depth tree h)
