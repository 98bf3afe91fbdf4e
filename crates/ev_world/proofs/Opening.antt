-- What the vats of a run are given for their steps.
use Rattle.std.proofs.Common.{◌≡◌, ℕ, zero, suc, List, [], ◌∷◌, Some, map, refl, sym, ap, ◌∙◌}
use Rattle.std.specs.Prelude.{option_map, slice_get}
use Rattle.std.proofs.lemmas.Option.{slice_get-map}
use Rattle.def_kernel.specs.declared.node.Node.{Node}
use Rattle.def_run.specs.Numbers.{Vats, after_step, given, nothing_brought, notice_by, numbers, open_member, own_step, ready, step, step_number}
use Rattle.def_run.specs.Vats.{Member}
use Rattle.def_machine.specs.Arrive as arriving
use Rattle.def_machine.specs.Eval.{opening}
use Rattle.def_machine.specs.Scopes.{any_guard}
use Rattle.def_machine.specs.State as machine
use Rattle.def_machine.specs.State.{Binding, Done, Fixed, Gives}
use Rattle.def_machine.specs.Values.{Local, Naming, Prom, Ref, Words}
use Rattle.def_run.specs.World.{NoticeLink, NoticedAt, Opens, Program, Script, name_at}
use Rattle.ev_room.specs.Reading.{roots_from}
use Rattle.ev_resident.specs.MemberStanding.{with_draws}
use Rattle.ev_pass.specs.Acts.{words_by}
use Rattle.ev_pass.specs.Reading.{names_under}
use Rattle.ev_world.specs.Standing.{IsWorld}
use Rattle.ev_world.specs.Steadily.{OpensSteadily, StepsSteadily}
use Rattle.ev_world.specs.declared.world.World.{World}
use Rattle.ev_world.proofs.Acting.{numbers_are, ready_is}
use Rattle.ev_world.proofs.Telling.{only}
use Rattle.def_run.specs.Steady.{StepIsSteady}

-- ---- programs and nouns

pub tree_is : (S : Script) (w : Vats) (c : World) (u : ℕ) (x : List Node) (p : Program) → IsWorld S w c → slice_get c.programs.items u ≡ Some x → slice_get S.vats u ≡ Some p → x ≡ p.tree
tree_is S w c u x p at i j =
    only refl (sym i ∙ ap (λ (zs : List (List Node)). slice_get zs u) at.programs ∙ slice_get-map (λ (z : Program). z.tree) S.vats u ∙ ap (option_map (λ (z : Program). z.tree)) j)

nouns_are : (S : Script) (w : Vats) (c : World) (u : ℕ) (ns : List Words) (p : Program) → IsWorld S w c → slice_get c.nouns.items u ≡ Some ns → slice_get S.vats u ≡ Some p → ns ≡ map (name_at S.vats) p.knows
nouns_are S w c u ns p at i j =
    only refl (sym i ∙ ap (λ (zs : List (List Words)). slice_get zs u) at.nouns ∙ slice_get-map (λ (z : Program). map (name_at S.vats) z.knows) S.vats u ∙ ap (option_map (λ (z : Program). map (name_at S.vats) z.knows)) j)

roots_given : (ps : List Program) (k : ℕ) (vs : List ℕ) → roots_from k (map (name_at ps) vs) ≡ given ps k vs
unfolding given
roots_given ps k [] = refl
roots_given ps k (v ∷ vs) = ap (λ (bs : List (Binding Local)). record { noun = name_at ps v; bound = Fixed (Ref (Prom k)) any_guard } ∷ bs) (roots_given ps (suc k) vs)

-- ---- the opening turn

module _ (S : Script) (w : Vats) (u : ℕ) (p : Program) (m : Member) (c : World) (x : List Node) (ns : List Words) (there : slice_get S.vats u ≡ Some p) (at : IsWorld S w c) (here : slice_get w.members u ≡ Some m) (program : slice_get c.programs.items u ≡ Some x)
    (nouns : slice_get c.nouns.items u ≡ Some ns) where
  abbrev pub opened : Done Local (Unit {0})
  opened = opening (names_under c.words.key) x c.limits.depth (Prom 0) (roots_from 1 ns) (with_draws c.fuel (words_by c.words.key c.words.count) m.vat)

  opened_is : opened ≡ opening (numbers S) p.tree S.depth (Prom zero) (given S.vats 1 p.knows) (ready w m.vat)
  opened_is =
      ap (λ (K : Naming Local Local). opening K x c.limits.depth (Prom 0) (roots_from 1 ns) (with_draws c.fuel (words_by c.words.key c.words.count) m.vat)) (numbers_are S c.words.key at.key)
      ∙ ap (λ (t : List Node). opening (numbers S) t c.limits.depth (Prom 0) (roots_from 1 ns) (with_draws c.fuel (words_by c.words.key c.words.count) m.vat)) (tree_is S w c u x p at program there)
      ∙ ap (λ (d : ℕ). opening (numbers S) p.tree d (Prom 0) (roots_from 1 ns) (with_draws c.fuel (words_by c.words.key c.words.count) m.vat)) at.depth
      ∙ ap (λ (bs : List (Binding Local)). opening (numbers S) p.tree S.depth (Prom 0) bs (with_draws c.fuel (words_by c.words.key c.words.count) m.vat)) (ap (roots_from 1) (nouns_are S w c u ns p at nouns there) ∙ roots_given S.vats 1 p.knows)
      ∙ ap (λ (v : machine.Vat Local). opening (numbers S) p.tree S.depth (Prom 0) (given S.vats 1 p.knows) v) (ready_is w c.fuel (words_by c.words.key c.words.count) m.vat at.fuel at.drawn)

  pub opens : open_member S u p w (slice_get w.members u) ≡ after_step w u (Opens u ∷ []) u m (λ s. nothing_brought m) opened
  unfolding open_member own_step
  opens = ap (open_member S u p w) here ∙ ap (λ (d : Done Local (Unit {0})). after_step w u (Opens u ∷ []) u m (λ s. nothing_brought m) d) (sym opened_is)

  pub opens_steady : OpensSteadily S u p w → (s : machine.Vat Local) → opened ≡ Gives tt s → StepIsSteady m m.connections s
  opens_steady steady s e = steady.steady m here s (sym opened_is ∙ e)

-- ---- a vat notices that a link is cut

module _ (S : Script) (w : Vats) (u peer : ℕ) (m : Member) (c : World) (at : IsWorld S w c) (here : slice_get w.members u ≡ Some m) where
  abbrev pub noticed : Done Local (Unit {0})
  noticed = arriving.notice (names_under c.words.key) peer (with_draws c.fuel (words_by c.words.key c.words.count) m.vat)

  noticed_is : noticed ≡ arriving.notice (numbers S) peer (ready w m.vat)
  noticed_is =
      ap (λ (K : Naming Local Local). arriving.notice K peer (with_draws c.fuel (words_by c.words.key c.words.count) m.vat)) (numbers_are S c.words.key at.key)
      ∙ ap (λ (v : machine.Vat Local). arriving.notice (numbers S) peer v) (ready_is w c.fuel (words_by c.words.key c.words.count) m.vat at.fuel at.drawn)

  pub notices : (k : ℕ) → step S (NoticeLink u peer) k w ≡ after_step w u (NoticedAt k u peer ∷ []) (step_number S k) m (λ s. nothing_brought m) noticed
  unfolding step notice_by own_step
  notices k = ap (notice_by S k u peer w) here ∙ ap (λ (d : Done Local (Unit {0})). after_step w u (NoticedAt k u peer ∷ []) (step_number S k) m (λ s. nothing_brought m) d) (sym noticed_is)

  pub notices_steady : (k : ℕ) → StepsSteadily S (NoticeLink u peer) k w → (s : machine.Vat Local) → noticed ≡ Gives tt s → StepIsSteady m m.connections s
  notices_steady k steady s e = steady.steady m here s (sym noticed_is ∙ e)
