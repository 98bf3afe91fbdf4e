-- A text tells the run of its script.
use Rattle.std.proofs.Common.{◌≡◌, ℕ, suc, ◌<◌, ◌^◌, List, [], ◌∷◌, refl, sym, ap, subst, length, map}
use Rattle.def_run.specs.World.{Script, Program, Entry, Turn, Carry, CutLink, NoticeLink, World, Run, Goes, Stopped, begins, run}
use Rattle.def_run.specs.Text.{vat_names, history_of, draws_of}
use Rattle.law_text.specs.Text.Feeds.{AllOf}
use Rattle.law_text.specs.Text.Parts.{IsEventOf}
use Rattle.law_text.specs.Text.Runs.{events_of}
use Rattle.law_text.proofs.Text.Stopped.{texts_tell_runs}
use Rattle.law_text.specs.RunTexts.Fitting.{Limits}
use Rattle.law_text.specs.RunTexts.Worlds.{EventFits, EntryFits, ScriptFits, WorldFits, Small}
use Rattle.law_text.specs.RunTexts.Laws.{IsEntryOf, IsOfVats, world_of, IsBounded, TextsTellRunsOfScripts}
use Rattle.law_text.proofs.RunTexts.Fine.{all_map}
use Rattle.law_text.proofs.RunTexts.Trees.{tree_fits}
use Rattle.law_text.proofs.RunTexts.Worlds.{RunFits, run_fits, begin_fits}
use Rattle.law_text.proofs.RunTexts.Shown.{bounds, events_fit}

-- ---- the run of a script

pub named : (script : Script) → length (vat_names script) ≡ length script.vats
unfolding vat_names
named script = count script.vats
  where
    count : (ps : List Program) → length (map (λ (p : Program). p.name) ps) ≡ length ps
    count [] = refl
    count (p ∷ ps) = ap suc (count ps)

entry_fits : (L : Limits) (n : ℕ) → n ≡ L.many → (e : Entry) → IsEntryOf n e → EntryFits L e
entry_fits L n same (Turn v) h = subst (λ k. v < k) same h
entry_fits L n same (Carry v w) h = (subst (λ k. v < k) same h.0, subst (λ k. w < k) same h.1)
entry_fits L n same (CutLink v w) h = (subst (λ k. v < k) same h.0, subst (λ k. w < k) same h.1)
entry_fits L n same (NoticeLink v w) h = (subst (λ k. v < k) same h.0, subst (λ k. w < k) same h.1)

script_fits : (script : Script) → IsOfVats script → ScriptFits (bounds (vat_names script)) script
script_fits script h = let same = sym (named script) in record {
  knows = all_map (λ p k. all_map (λ v l. subst (λ n. v < n) same l) p.knows k) script.vats h.knows;
  trees = all_map (λ p t. tree_fits p.tree t.0 t.1) script.vats h.trees;
  entries = all_map (entry_fits (bounds (vat_names script)) (length script.vats) same) script.schedule h.entries;
  short = h.short;
}

history_fits : (L : Limits) (w : World) → WorldFits L w → (r : Run) → RunFits L (WorldFits L w) w r → Small L (world_of r) → AllOf (EventFits L) (history_of r)
unfolding history_of
history_fits L w fits (Goes x) h small = (h.2 small fits).history
history_fits L w fits (Stopped c k x) h small = (h.2 small fits).history

pub run_history : (script : Script) → IsOfVats script → Small (bounds (vat_names script)) (world_of (run script)) → AllOf (EventFits (bounds (vat_names script))) (history_of (run script))
run_history script h small = let L = bounds (vat_names script) in let same = sym (named script) in let good = script_fits script h in
    history_fits L (begins script) (begin_fits L script same good) (run script) (run_fits L script same good) small

pub drawn_of : (r : Run) → (world_of r).drawn ≡ draws_of r
unfolding draws_of
drawn_of (Goes w) = refl
drawn_of (Stopped c k w) = refl

-- ---- the law

all_fit : (script : Script) → IsOfVats script → IsBounded (run script) → AllOf (IsEventOf (vat_names script)) (events_of (run script))
all_fit script h b = let r = run script in events_fit (vat_names script) (draws_of r) (subst (λ l. length l < 2 ^ 64) (drawn_of r) b.drawn) (history_of r) (run_history script h b.made)

pub tell_runs : TextsTellRunsOfScripts
tell_runs script other names good h g b c = texts_tell_runs script other names good (run script) (run other) (all_fit script h b) (subst (λ ns. AllOf (IsEventOf ns) (events_of (run other))) (sym names) (all_fit other g c))
