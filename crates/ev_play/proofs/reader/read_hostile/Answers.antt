use Rattle.std.proofs.Common.{◌∙◌, sym, ap, true, false}
use Rattle.std.specs.List.{list_all}
use Rattle.serde_json.specs.View.{view}
use Rattle.ev_play.specs.Hostile.{has_no_source, may_do}
use Rattle.ev_play.proofs.HostileLemmas.{read_by}
use Rattle.ev_play.proofs.reader.read_hostile.Goals as goal

pub returns-then-not-may_do_all : goal.returns-then-not-may_do_all
returns-then-not-may_do_all c =
    read_by c.args.names.now c.args.vats.now c.args.doings.now (view c.args.value.now) c.in-Some.hostile true false (sym c.in_ok-hostile.ensures ∙ c.in-Some.is)
    (ap (list_all (has_no_source c.args.vats.now)) (sym c.as_slice.ensures) ∙ sym c.have_no_source.ensures ∙ c.if-not-have_no_source.false)
    (ap (λ hs. list_all (may_do hs) c.args.doings.now) (sym c.as_slice-2.ensures) ∙ sym c.may_do_all.ensures ∙ c.if-not-may_do_all.true)

pub returns : goal.returns
returns c =
    read_by c.args.names.now c.args.vats.now c.args.doings.now (view c.args.value.now) c.in-Some.hostile true true (sym c.in_ok-hostile.ensures ∙ c.in-Some.is)
    (ap (list_all (has_no_source c.args.vats.now)) (sym c.as_slice.ensures) ∙ sym c.have_no_source.ensures ∙ c.if-not-have_no_source.false)
    (ap (λ hs. list_all (may_do hs) c.args.doings.now) (sym c.as_slice-2.ensures) ∙ sym c.may_do_all.ensures ∙ c.if-not-may_do_all.false)
