use Rattle.std.proofs.Common.{◌≡◌, ◌∙◌, List, ap, arith, length, map, refl}
use Rattle.std.proofs.lemmas.Grind.{common_steps}
use Rattle.def_run.specs.World.{name_at}
use Rattle.ev_script.specs.declared.script.VatScript.{VatScript}
use Rattle.ev_ways.specs.Rows.{fresh_rows}
use Rattle.ev_world.specs.Starting.{bare}
use Rattle.ev_world.proofs.StartingWorld.{are_ready, begun}
use Rattle.ev_world.proofs.world.World.start.Goals as goal

pub returns-clause-begun : goal.returns-clause-begun
returns-clause-begun c = λ fresh.
    let many : c.in-Ok.count ≡ length c.args.script.now.vats = grind (arith, common_steps, c.in-Ok.ensures, ap length c.as_slice-vats.ensures) in
    begun c.args.script.now c.args.programs.items c.args.limits.depth _ c.requires.admitted c.requires.programs c.in_ok-programs.ensures c.in_ok-residents.ensures
    (c.in_ok-nouns.ensures ∙ ap (λ (vs : List VatScript). map (λ (v : VatScript). map (name_at (bare vs)) v.knows) vs) c.as_slice-vats.ensures)
    (c.in_ok-ways.ensures ∙ ap fresh_rows many) c.new-words.ensures refl refl fresh

pub returns-clause-ready : goal.returns-clause-ready
returns-clause-ready c = are_ready c.args.script.now c.args.programs.items c.args.limits.depth c.in_ok-residents.residents.items c.in_ok-residents.ensures
