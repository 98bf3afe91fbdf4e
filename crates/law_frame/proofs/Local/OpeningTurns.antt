-- An opening turn that goes in names goes in numbers, and one that stops stops so.
use Rattle.std.proofs.Common.{◌≡◌, ℕ, zero, suc, ◌+◌, List, [], ◌∷◌, Some, refl, sym, ap, ◌∙◌, subst, map, arith}
use Rattle.std.specs.Prelude.{slice_get}
use Rattle.def_machine.specs.Values.{Name, Root, Local, Prom, numbering, naming}
use Rattle.def_machine.specs.State.{Vat, Stop, Done, Gives, Stops}
use Rattle.def_machine.specs.Scopes.{any_guard}
use Rattle.def_machine.specs.Eval.{opening}
use Rattle.def_run.specs.Draws.{draw_word}
use Rattle.def_run.specs.World as machine
use Rattle.def_run.specs.World.{Script, Program, Opens, World, readied, within, heard_by}
use Rattle.law_fate.specs.Name.Names.{names_in}
use Rattle.def_machine.specs.Maps as maps
use Rattle.law_machine.specs.Renamed.Stands.{Table, Found, Is, found, finding, IsTable, StandsFor}
use Rattle.law_machine.proofs.Renamed.Sim.{Books, id}
use Rattle.law_machine.proofs.Renamed.SimEval.{sim_opening}
use Rattle.law_machine.proofs.Renamed.Stands.{Extends, still, step_stands, books_of, books_after, FitsTable, found_renames, is_renames}
use Rattle.law_reference.specs.Reference.Tables.{table_of}
use Rattle.def_run.specs.Vats.{Member}
use Rattle.def_run.specs.Numbers as numbers
use Rattle.def_run.specs.Numbers.{Vats, ready, own_step}
use Rattle.law_frame.specs.Local.Mirrors.{Mirrors, RunMirrors}
use Rattle.law_frame.specs.Local.Steps.{OwnStepStands}
use Rattle.law_frame.proofs.Local.OwnSteps.{own_steps_mirror}
use Rattle.law_frame.proofs.Local.Turns.{given, stopped, books_given, books_stopped, own_goes, own_stops}

-- roots have numbers from k on
abbrev pub RootsFrom : (Local → Found) → ℕ → List ℕ → Type 0
RootsFrom f k ws = (i w : ℕ) → slice_get ws i ≡ Some w → f (Prom (i + k)) ≡ Is (Root w)

given_same : (f : Local → Found) (ps : List Program) (k : ℕ) (ws : List ℕ) → RootsFrom f k ws → map (maps.binding f) (numbers.given ps k ws) ≡ map (maps.binding Is) (machine.given ps ws)
unfolding numbers.given machine.given any_guard
given_same f ps k [] h = refl
given_same f ps k (w ∷ ws) h =
    let first : f (Prom k) ≡ Is (Root w) = let j : k ≡ zero + k = omega arith in ap (λ n. f (Prom n)) j ∙ h zero w refl in
    let rest = given_same f ps (suc k) ws (λ i z e. let j : i + suc k ≡ suc i + k = omega arith in ap (λ n. f (Prom n)) j ∙ h (suc i) z e) in
    cc (first, rest)

-- Vat u, in state s, with member m and program p; t is the table of what its opening turn leaves, which goes on from that before and begins with the roots.
module _ (script : Script) (u : ℕ) (p : Program) (x : World) (X : Vats) (s : Vat Name) (m : Member) (r : Vat Name) (h : Mirrors x X) (at : slice_get x.vats u ≡ Some s) (there : slice_get X.members u ≡ Some m)
    (t : Table) (good : IsTable u t) (more : Extends (table_of x u s) t) (known : names_in r.known ≡ t.names) (mails : r.mails ≡ t.mails)
    (root : found u t (Prom zero) ≡ Is (Root u)) (others : RootsFrom (found u t) 1 p.knows) where
  abbrev ours : Done Local (Unit {0})
  ours = opening (numbers.numbers script) p.tree script.depth (Prom zero) (numbers.given script.vats 1 p.knows) (ready X m.vat)

  abbrev theirs : Done Name (Unit {0})
  theirs = opening (machine.names script u) p.tree script.depth (Root u) (machine.given script.vats p.knows) (readied x s)

  pub opening_same : (d : Done Name (Unit {0})) → theirs ≡ d → books_after d ≡ books_of t → maps.done (found u t) id ours ≡ maps.done Is id d
  unfolding machine.names numbers.numbers
  opening_same d i books =
      let word = draw_word script.key in let gives = given_same (found u t) script.vats 1 p.knows others in
      step_stands u t good id id (opening (numbering {W = Local} word) p.tree script.depth (Prom zero) (numbers.given script.vats 1 p.knows)) (opening (naming word u) p.tree script.depth (Root u) (machine.given script.vats p.knows)) (opening (finding word u) p.tree script.depth (found u t (Prom zero)) (map (maps.binding (found u t)) (numbers.given script.vats 1 p.knows)))
      (sim_opening (found u t) (λ (z : Local). Name.Root 0) (numbering word) (finding word u) (FitsTable u t good) (found_renames u t good word (λ (z : Local). Name.Root 0)) p.tree script.depth (Prom zero) (numbers.given script.vats 1 p.knows))
      (rw (root, gives) (sim_opening Is (λ z. z) (naming word u) (finding word u) (λ (b : Books Found). Unit {0}) (is_renames word u) p.tree script.depth (Root u) (machine.given script.vats p.knows)))
      (ready X m.vat) (readied x s) (still u (table_of x u s) t more (ready X m.vat) (readied x s) (h.vats u s m at there).stands) (ap books_after i ∙ books)
      ∙ ap (maps.done Is id) i

  pub opening_mirrors : theirs ≡ Gives tt r → ((q : Vat Local) → StandsFor u t q r → OwnStepStands x X u s m r q (Opens u ∷ [])) → RunMirrors (machine.open_vat script u p x) (numbers.open_member script u p X (slice_get X.members u))
  unfolding machine.open_vat numbers.open_member within own_step heard_by
  opening_mirrors e facts =
      let g = given (found u t) ours r (opening_same (Gives tt r) e (books_given t r tt known mails)) in
      let goes = own_goes x X u m r g.0 (Opens u ∷ []) u theirs ours e g.1 refl (own_steps_mirror x X u s m r g.0 (Opens u ∷ []) h (facts g.0 g.2)) in
      subst (λ z. RunMirrors (machine.within u x (Opens u ∷ []) u (opening (machine.names script u) p.tree script.depth (Root u) (machine.given script.vats p.knows)) z) (numbers.open_member script u p X (slice_get X.members u))) (sym at)
      (subst (λ z. RunMirrors (machine.within u x (Opens u ∷ []) u (opening (machine.names script u) p.tree script.depth (Root u) (machine.given script.vats p.knows)) (Some s)) (numbers.open_member script u p X z)) (sym there) goes)

  pub opening_stops : (c : Stop) → theirs ≡ Stops c r → RunMirrors (machine.open_vat script u p x) (numbers.open_member script u p X (slice_get X.members u))
  unfolding machine.open_vat numbers.open_member within own_step
  opening_stops c e =
      let g = stopped (found u t) ours c r (opening_same (Stops c r) e (books_stopped t c r known mails)) in
      let stops = own_stops x X u m c r g.0 (Opens u ∷ []) u theirs ours e g.1 h in
      subst (λ z. RunMirrors (machine.within u x (Opens u ∷ []) u (opening (machine.names script u) p.tree script.depth (Root u) (machine.given script.vats p.knows)) z) (numbers.open_member script u p X (slice_get X.members u))) (sym at)
      (subst (λ z. RunMirrors (machine.within u x (Opens u ∷ []) u (opening (machine.names script u) p.tree script.depth (Root u) (machine.given script.vats p.knows)) (Some s)) (numbers.open_member script u p X z)) (sym there) stops)
