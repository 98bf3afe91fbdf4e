-- What a run starts from is the state of the run in numbers at its start.
use Rattle.std.proofs.Common.{◌≡◌, ◌+◌, ◌<◌, ◌≤◌, ℕ, zero, suc, Bool, true, false, List, [], ◌∷◌, Some, None, All, get_or, length, map, nat_eq, slice_get, refl, sym, ap, subst, ◌∙◌, arith}
use Rattle.std.specs.List.{IsDistinct}
use Rattle.std.proofs.lemmas.Bool.Decides.{Decides-eqb}
use Rattle.std.proofs.lemmas.List.{length-map}
use Rattle.std.proofs.lemmas.Map.Made.{IsDistinct-from_AllPairs}
use Rattle.std.proofs.lemmas.Option.{slice_get_within}
use Rattle.def_event.specs.declared.event.Event.{Event as ShownEvent}
use Rattle.def_kernel.specs.declared.node.Node.{Node}
use Rattle.def_run.specs.Names.{Names}
use Rattle.def_run.specs.Numbers.{begins, fresh_from, fresh_member, fresh_vat, ways_from}
use Rattle.def_run.specs.Vats.{Member}
use Rattle.def_machine.specs.State.{is_in}
use Rattle.def_machine.specs.Values.{Root}
use Rattle.def_run.specs.Text.{shown_events, vat_names}
use Rattle.def_run.specs.World.{Program, Script, knowers, name_at}
use Rattle.ev_intro.specs.Word.{Drawn}
use Rattle.ev_resident.specs.MemberStanding.{IsMember}
use Rattle.ev_resident.specs.MemberStarting.{rooted_member}
use Rattle.ev_resident.specs.Names.{Named}
use Rattle.ev_resident.specs.OutcomeStanding.{ObjectsStand}
use Rattle.ev_pass.specs.Acts.{words_by}
use Rattle.ev_resident.specs.Standing.{IsResident}
use Rattle.ev_resident.specs.declared.resident.Resident.{Resident}
use Rattle.ev_reader.specs.declared.accepted.Scoped.{Scoped}
use Rattle.ev_script.specs.Rules.{IsAdmitted, KnowOthers, KnowsOthers}
use Rattle.ev_script.specs.declared.script.Script.{Script as TheirScript}
use Rattle.ev_script.specs.declared.script.VatScript.{VatScript}
use Rattle.ev_resident.specs.Vat.{IsReady}
use Rattle.ev_step_text.specs.Accounts.{IsAccount}
use Rattle.ev_ways.specs.Rows.{Lane, fresh_rows}
use Rattle.ev_ways.specs.Standing.{WaysStand}
use Rattle.ev_ways.proofs.Starts.{start_stands}
use Rattle.ev_world.proofs.StartingKnowers.{absent, knowers_alike, nouns_alike, some_is}
use Rattle.ev_world.proofs.StartingRoots.{first_room, first_roots}
use Rattle.ev_world.proofs.StartingVats.{exports_at, many_fresh, member_at, member_is}
use Rattle.ev_world.proofs.Telling.{stands}
use Rattle.ev_world.proofs.Wholes.{many_are}
use Rattle.ev_world.specs.Running.{script_of, tree_in}
use Rattle.ev_world.specs.Standing.{AreReady, IsWorld, told_so}
use Rattle.ev_world.specs.Starting.{AreStarted, IsStarted, bare}
use Rattle.ev_world.specs.declared.world.World.{World}
use Rattle.law_schedule.specs.Scripts.{machine_vats}

-- ---- programs

-- the program at a place is that of the vat there
program_at : (tree : ℕ → List Node) (k : ℕ) (vats : List VatScript) (u : ℕ) (p : Program) → slice_get (machine_vats tree k vats) u ≡ Some p → (vat : VatScript) × (slice_get vats u ≡ Some vat) × (◌≡◌ {A = Program} (record { name = vat.name; knows = vat.knows; tree = tree (k + u) }) p)
program_at tree k [] u p e = absurd cc
program_at tree k (v ∷ vs) zero p e =
    let at : k + zero ≡ k = omega arith in
    (v, refl, ap (λ (j : ℕ). record { name = v.name; knows = v.knows; tree = tree j }) at ∙ some_is e)
program_at tree k (v ∷ vs) (suc u) p e =
    let at : k + suc u ≡ suc k + u = omega arith in
    let rest = program_at tree (suc k) vs u p e in
    (rest.0, rest.1, ap (λ (j : ℕ). record { name = rest.0.name; knows = rest.0.knows; tree = tree j }) at ∙ rest.2)

-- the trees by their places are those of the programs
trees_from : (tree : ℕ → List Node) (ts : List (List Node)) (k : ℕ) (vats : List VatScript) → length ts ≡ length vats → ((i : ℕ) → tree (k + i) ≡ get_or ts i []) → map (λ (p : Program). p.tree) (machine_vats tree k vats) ≡ ts
trees_from tree [] k [] many at = refl
trees_from tree [] k (v ∷ vs) many at = absurd (omega arith)
trees_from tree (t ∷ ts) k [] many at = absurd (omega arith)
trees_from tree (t ∷ ts) k (v ∷ vs) many at =
    let here : k + zero ≡ k = omega arith in
    let rest : map (λ (p : Program). p.tree) (machine_vats tree (suc k) vs) ≡ ts =
    trees_from tree ts (suc k) vs (omega arith) (λ i. let next : suc k + i ≡ k + suc i = omega arith in ap tree next ∙ at (suc i)) in
    ap (λ (xs : List (List Node)). tree k ∷ xs) rest ∙ ap (λ (x : List Node). x ∷ ts) (sym (ap tree here) ∙ at zero)

-- ---- the vats

-- the places of whom a vat at a place knows are those of others, and each stands once
record Knows (S : Script) (u : ℕ) (ks : List ℕ) : Type 0 where
  alone : is_in u ks ≡ false
  distinct : IsDistinct nat_eq ks
  within : All (λ v. v < length S.vats) ks

none_past : {A : Type 0} (xs : List A) (i : ℕ) → slice_get xs i ≡ None → length xs ≤ i
none_past [] i e = omega arith
none_past (x ∷ xs) zero e = absurd cc
none_past (x ∷ xs) (suc i) e = let most : length xs ≤ i = none_past xs i e in omega arith

none_told : (wire : Bool) → ◌≡◌ {A = List ShownEvent} [] (told_so wire [])
none_told true = refl
none_told false = refl

module _ (script : TheirScript) (programs : List Scoped) (depth : ℕ) where
  abbrev S : Script
  S = script_of script programs depth

  abbrev program : ℕ → VatScript → Program
  program u v = record { name = v.name; knows = v.knows; tree = tree_in programs u }

  abbrev count_is : length script.vats ≡ length S.vats
  count_is = sym (many_are script programs depth)

  knows : (u : ℕ) (vat : VatScript) → KnowsOthers (length script.vats) u vat → Knows S u vat.knows
  knows u vat others = record {
    alone = absent u vat.knows (λ i d less. (others.0 i d less).1);
    distinct = IsDistinct-from_AllPairs Decides-eqb vat.knows others.1;
    within = subst (λ (n : ℕ). All (λ v. v < n) vat.knows) count_is (λ i d less. (others.0 i d less).0);
  }

  member_stands : (u : ℕ) (vat : VatScript) (r : Resident) → IsStarted script u vat r → IsMember (fresh_member S u (program u vat)) r.member
  member_stands u vat r started =
      let names : Names = record { known = Root u ∷ map Root vat.knows; mails = [] } in
      subst (λ (m : Member). IsMember m r.member)
      (ap (λ (ks : List ℕ). rooted_member script.fuel u (length script.vats) vat.knows ks names) (knowers_alike (tree_in programs) u zero zero script.vats)
      ∙ ap (λ (n : ℕ). rooted_member script.fuel u n vat.knows (knowers u zero S.vats) names) count_is
      ∙ member_is S u (program u vat))
      (started.member names)

  objects_stand : (u : ℕ) (vat : VatScript) (r : Resident) → Knows S u vat.knows → slice_get S.vats u ≡ Some (program u vat) → IsStarted script u vat r → ObjectsStand (fresh_from S zero S.vats) u r.names.naming.objects
  objects_stand u vat r known here started = λ h.
      ap (λ (n : Named). get_or n.naming.objects h []) started.objects
      ∙ first_roots u (length script.vats) vat.knows h known.distinct (subst (λ (n : ℕ). All (λ v. v < n) vat.knows) (sym count_is) known.within)
      ∙ sym (exports_at S u (program u vat) here h known.alone (λ e. absent h vat.knows (λ i d less same. let most : length S.vats ≤ h = none_past S.vats h e in omega (arith, known.within i d less, same))))

  resident_stands : (u : ℕ) (vat : VatScript) (r : Resident) → Knows S u vat.knows → slice_get S.vats u ≡ Some (program u vat) → IsStarted script u vat r → IsResident S (begins S) u (fresh_member S u (program u vat)) r
  unfolding begins fresh_member fresh_vat
  resident_stands u vat r known here started = record {
    member = member_stands u vat r started;
    ready = started.ready;
    key = started.key;
    names = started.names [] (fresh_vat S u (program u vat)) refl refl refl;
    objects = objects_stand u vat r known here started;
  }

  residents_stand : (rs : List Resident) → KnowOthers script.vats → AreStarted script (length script.vats) rs → (u : ℕ) (m : Member) (r : Resident) → slice_get (fresh_from S zero S.vats) u ≡ Some m → slice_get rs u ≡ Some r → IsResident S (begins S) u m r
  residents_stand rs others started u m r e f =
      let found = member_at S u m e in
      let stood = program_at (tree_in programs) zero script.vats u found.0 found.1 in
      let is : program u stood.0 ≡ found.0 = ap (λ (k : ℕ). program k stood.0) (omega arith) ∙ stood.2 in
      subst (λ (n : Member). IsResident S (begins S) u n r) (ap (fresh_member S u) is ∙ sym found.2)
      (resident_stands u stood.0 r (knows u stood.0 (others u stood.0 stood.1)) (found.1 ∙ ap Some (sym is)) (started.each u stood.0 r stood.1 f))

  -- what is known of each resident by its vat is known of it
  each_by : (P : ℕ → Resident → Type 0) (rs : List Resident) → AreStarted script (length script.vats) rs → ((u : ℕ) (vat : VatScript) (r : Resident) → IsStarted script u vat r → P u r) → (u : ℕ) (r : Resident) → slice_get rs u ≡ Some r → P u r
  each_by P rs started f u r e =
      let less : u < length script.vats = omega (arith, slice_get_within rs u r e, started.count) in
      let stood = stands script.vats u less in
      f u stood.0 r (started.each u stood.0 r stood.1 e)

  pub are_ready : (rs : List Resident) → AreStarted script (length script.vats) rs → AreReady rs
  are_ready rs started = each_by (λ u r. IsReady r.member.vat) rs started (λ u vat r s. s.ready)

  rooms : (rs : List Resident) → AreStarted script (length script.vats) rs → (u : ℕ) (r : Resident) → slice_get rs u ≡ Some r → length r.names.naming.objects ≡ length S.vats
  rooms rs started = each_by (λ u r. length r.names.naming.objects ≡ length S.vats) rs started
      (λ u vat r s. ap (λ (n : Named). length n.naming.objects) s.objects ∙ first_room u (length script.vats) vat.knows ∙ count_is)

  -- ---- the whole

  trees_are : length programs ≡ length script.vats → map (λ (p : Scoped). p.tree) programs ≡ map (λ (p : Program). p.tree) S.vats
  trees_are many =
      let trees = map (λ (p : Scoped). p.tree) programs in
      sym (trees_from (tree_in programs) trees zero script.vats (length-map programs (λ (p : Scoped). p.tree) ∙ many) (λ i. let at : zero + i ≡ i = omega arith in ap (tree_in programs) at))

  pub begun : (c : World) → IsAdmitted script → length programs ≡ length script.vats → c.programs.items ≡ map (λ (p : Scoped). p.tree) programs → AreStarted script (length script.vats) c.residents.items
      → c.nouns.items ≡ map (λ (v : VatScript). map (name_at (bare script.vats)) v.knows) script.vats → c.ways ≡ fresh_rows (length script.vats) → c.words ≡ record { key = script.key; count = 0 }
      → c.fuel ≡ script.fuel → c.limits.depth ≡ depth → IsAccount (vat_names S) c.history [] → IsWorld S (begins S) c
  unfolding begins words_by shown_events
  begun c admitted many same started nouns ways words fuel deep history = record {
    fuel = fuel;
    key = ap (λ (d : Drawn). d.key) words;
    drawn = ap (λ (d : Drawn). words_by d.key d.count) words;
    depth = deep;
    count = started.count ∙ count_is;
    members = many_fresh S zero S.vats;
    residents = residents_stand c.residents.items admitted.knows started;
    rooms = rooms c.residents.items started;
    programs = same ∙ trees_are many;
    nouns = nouns ∙ nouns_alike (tree_in programs) script.vats zero script.vats;
    ways = subst (λ (rows : List (List Lane)). WaysStand [] (length S.vats) (ways_from S.vats zero S.vats) rows) (sym (ways ∙ ap fresh_rows count_is)) (start_stands [] S.vats);
    history = subst (λ (es : List ShownEvent). IsAccount (vat_names S) c.history es) (none_told c.wire) history;
  }
