-- The laws of broken references in runs, from what no step undoes.
use Rattle.std.proofs.Common.{◌≡◌, ℕ, ◌≤◌, Bool, true, false, List, [], ◌∷◌, Option, Some, None, refl, length, map, arith}
use Rattle.def_machine.specs.Values.{Name, Root, Object, Naming, Foreign, naming, spot_of, same_name, same_reference}
use Rattle.def_machine.specs.State.{Known, Unsettled, Viewed, Vat, begun, is_in}
use Rattle.def_machine.specs.Refs.{entry_of, standing_of, standing_in}
use Rattle.law_machine.specs.Machine.Laws.{BrokenStays}
use Rattle.law_machine.specs.Machine.Breaks.{still_waits, SettledBreakStays, SeveredObjectStays, FollowedBreakStays, SeveredStays, AtRest}
use Rattle.law_machine.proofs.Machine.StepLaws.{broken_from}
use Rattle.law_machine.proofs.Machine.BreakLaws.{Firm, firm_stays, settled_break, object_break, followed_break, severed_stays}
use Rattle.def_run.specs.World.{Script, Program, open_from, Entry, World, Goes, readied, names, steps_from, fresh, known_root}
use Rattle.def_run.specs.Draws.{draw_word}
use Rattle.law_machine.specs.Run.Runs.{EachVat}
use Rattle.law_machine.proofs.Run.RunKeeps.{IsKeptInRuns, each_kept, run_keeps, opens_keep}

firm_in_runs : (script : Script) → IsKeptInRuns script (λ v. Firm (names script v))
unfolding readied
firm_in_runs script = record {
  same = λ v s. (λ n k y e h. e, λ w e. e, omega arith);
  trans = λ v s t u h j. let le : length s.known ≤ length u.known = let a = h.2 in let b = j.2 in omega arith in (λ n k y e i. j.0 n k y (h.0 n k y e i) i, λ w e. j.1 w (h.1 w e), le);
  steps = λ v what s. firm_stays (names script v) what s;
  ready = λ v w s. (λ n k y e h. e, λ w e. e, omega arith);
  taken = λ v s ms. (λ n k y e h. e, λ w e. e, omega arith);
}

firm_run : (script : Script) (es : List Entry) (k : ℕ) (w x : World) → steps_from script es k w ≡ Goes x → EachVat (λ v. Firm (names script v)) w x
firm_run script = run_keeps script (EachVat (λ v. Firm (names script v))) (each_kept script (λ v. Firm (names script v)) (firm_in_runs script))

firm_open : (script : Script) (v : ℕ) (ps : List Program) (w x : World) → open_from script v ps w ≡ Goes x → EachVat (λ v. Firm (names script v)) w x
firm_open script = opens_keep script (EachVat (λ v. Firm (names script v))) (each_kept script (λ v. Firm (names script v)) (firm_in_runs script))

each_so : (R Q : ℕ → Vat Name → Vat Name → Type 0) (w x : World) → ((v : ℕ) (s t : Vat Name) → R v s t → Q v s t) → EachVat R w x → EachVat Q w x
each_so R Q w x f h v s e = let a = h v s e in (a.0, a.1, f v s a.0 a.2)

pub breakings_run : (script : Script) (es : List Entry) (k : ℕ) (w x : World) → steps_from script es k w ≡ Goes x → EachVat (λ v. BrokenStays (names script v)) w x
breakings_run script es k w x e = each_so (λ v. Firm (names script v)) (λ v. BrokenStays (names script v)) w x (λ v s t f. broken_from (names script v) s t f.0) (firm_run script es k w x e)

pub breakings_open : (script : Script) (v : ℕ) (ps : List Program) (w x : World) → open_from script v ps w ≡ Goes x → EachVat (λ v. BrokenStays (names script v)) w x
breakings_open script v ps w x e = each_so (λ v. Firm (names script v)) (λ v. BrokenStays (names script v)) w x (λ v s t f. broken_from (names script v) s t f.0) (firm_open script v ps w x e)

pub settled_breaks_run : (script : Script) (es : List Entry) (k : ℕ) (w x : World) → steps_from script es k w ≡ Goes x → EachVat (λ v. SettledBreakStays (names script v)) w x
settled_breaks_run script es k w x e = each_so (λ v. Firm (names script v)) (λ v. SettledBreakStays (names script v)) w x (λ v s t f. settled_break (names script v) s t f) (firm_run script es k w x e)

pub settled_breaks_open : (script : Script) (v : ℕ) (ps : List Program) (w x : World) → open_from script v ps w ≡ Goes x → EachVat (λ v. SettledBreakStays (names script v)) w x
settled_breaks_open script v ps w x e = each_so (λ v. Firm (names script v)) (λ v. SettledBreakStays (names script v)) w x (λ v s t f. settled_break (names script v) s t f) (firm_open script v ps w x e)

pub severed_objects_run : (script : Script) (es : List Entry) (k : ℕ) (w x : World) → steps_from script es k w ≡ Goes x → EachVat (λ v. SeveredObjectStays (names script v)) w x
severed_objects_run script es k w x e = each_so (λ v. Firm (names script v)) (λ v. SeveredObjectStays (names script v)) w x (λ v s t f. object_break (names script v) s t f) (firm_run script es k w x e)

pub severed_objects_open : (script : Script) (v : ℕ) (ps : List Program) (w x : World) → open_from script v ps w ≡ Goes x → EachVat (λ v. SeveredObjectStays (names script v)) w x
severed_objects_open script v ps w x e = each_so (λ v. Firm (names script v)) (λ v. SeveredObjectStays (names script v)) w x (λ v s t f. object_break (names script v) s t f) (firm_open script v ps w x e)

pub followed_breaks_run : (script : Script) (es : List Entry) (k : ℕ) (w x : World) → steps_from script es k w ≡ Goes x → EachVat (λ v. FollowedBreakStays (names script v)) w x
followed_breaks_run script es k w x e = each_so (λ v. Firm (names script v)) (λ v. FollowedBreakStays (names script v)) w x (λ v s t f. followed_break (names script v) s t f) (firm_run script es k w x e)

pub followed_breaks_open : (script : Script) (v : ℕ) (ps : List Program) (w x : World) → open_from script v ps w ≡ Goes x → EachVat (λ v. FollowedBreakStays (names script v)) w x
followed_breaks_open script v ps w x e = each_so (λ v. Firm (names script v)) (λ v. FollowedBreakStays (names script v)) w x (λ v s t f. followed_break (names script v) s t f) (firm_open script v ps w x e)

pub severings_run : (script : Script) (es : List Entry) (k : ℕ) (w x : World) → steps_from script es k w ≡ Goes x → EachVat (λ v. SeveredStays (names script v)) w x
severings_run script es k w x e = each_so (λ v. Firm (names script v)) (λ v. SeveredStays (names script v)) w x (λ v s t f. severed_stays (names script v) s t f) (firm_run script es k w x e)

pub severings_open : (script : Script) (v : ℕ) (ps : List Program) (w x : World) → open_from script v ps w ≡ Goes x → EachVat (λ v. SeveredStays (names script v)) w x
severings_open script v ps w x e = each_so (λ v. Firm (names script v)) (λ v. SeveredStays (names script v)) w x (λ v s t f. severed_stays (names script v) s t f) (firm_open script v ps w x e)

-- ---- the start

module _ (K : Naming Name Name) where
  root_head : (b : Bool) (k : Known Name) (o : Option (Known Name)) → k.standing ≡ Unsettled → standing_in o ≡ Unsettled → standing_in (elim b [ true ↦ Some k | false ↦ o ]) ≡ Unsettled
  unfolding standing_in
  root_head true k o e h = e
  root_head false k o e h = h

  roots_unsettled : (ws : List ℕ) (n : Name) → standing_in (entry_of K (map known_root ws) n) ≡ Unsettled
  unfolding entry_of standing_in known_root begun
  roots_unsettled [] n = refl
  roots_unsettled (w ∷ ws) n = root_head (K.same (Root w) n) (begun (Root w) w) (entry_of K (map known_root ws) n) refl (roots_unsettled ws n)

  all_wait : (ks : List (Known Name)) → ((n : Name) → standing_of K ks n ≡ Unsettled) → (n : Name) → still_waits (standing_of K ks n) ≡ true
  unfolding still_waits
  all_wait ks u n = rw (u n) refl

  no_views : (ks : List (Known Name)) → ((n : Name) → standing_of K ks n ≡ Unsettled) → (n g : Name) → standing_of K ks n ≡ Viewed g → ⊥
  no_views ks u n g e = let i = u n in cc

module _ (word : ℕ → ℕ) (v : ℕ) where
  far_root : (w : ℕ) (m : Name) (h : ℕ) → spot_of v m ≡ Foreign h → same_reference (Root w) m ≡ false
  unfolding spot_of same_name same_reference
  far_root w (Object u i) h e = refl
  far_root w other h e = cc

  far_head : (b : Bool) (k : Known Name) (o : Option (Known Name)) → b ≡ false → o ≡ None → ◌≡◌ {A = Option (Known Name)} (elim b [ true ↦ Some k | false ↦ o ]) None
  far_head b k o e h = rw e h

  roots_apart : (ws : List ℕ) (m : Name) (h : ℕ) → spot_of v m ≡ Foreign h → entry_of (naming word v) (map known_root ws) m ≡ None
  unfolding entry_of known_root begun naming
  roots_apart [] m h e = refl
  roots_apart (w ∷ ws) m h e = far_head (same_reference (Root w) m) (begun (Root w) w) (entry_of (naming word v) (map known_root ws) m) (far_root w m h e) (roots_apart ws m h e)

fresh_unsettled : (script : Script) (v : ℕ) (p : Program) (n : Name) → standing_of (names script v) (fresh script v p).known n ≡ Unsettled
unfolding standing_of entry_of fresh known_root begun
fresh_unsettled script v p n = root_head (names script v) ((names script v).same (Root v) n) _ (entry_of (names script v) (map known_root p.knows) n) refl (roots_unsettled (names script v) p.knows n)

fresh_apart : (script : Script) (v : ℕ) (p : Program) (m : Name) (h : ℕ) → (names script v).spot m ≡ Foreign h → entry_of (names script v) (fresh script v p).known m ≡ None
unfolding entry_of fresh known_root begun names naming
fresh_apart script v p m h e = far_head (draw_word script.key) v (same_reference (Root v) m) _ (entry_of (names script v) (map known_root p.knows) m) (far_root (draw_word script.key) v v m h e) (roots_apart (draw_word script.key) v p.knows m h e)

fresh_near : (script : Script) (v : ℕ) (p : Program) (h : ℕ) → is_in h (fresh script v p).noticed ≡ false
unfolding fresh is_in
fresh_near script v p h = refl

pub begins_at_rest : (script : Script) (v : ℕ) (p : Program) → AtRest (names script v) (fresh script v p)
begins_at_rest script v p = record {
  hosts = λ n w. fresh_near script v p _;
  views = λ n g e. absurd (no_views (names script v) (fresh script v p).known (fresh_unsettled script v p) n g e);
  apart = fresh_apart script v p;
  ends = λ x n e. all_wait (names script v) (fresh script v p).known (fresh_unsettled script v p) n;
}
