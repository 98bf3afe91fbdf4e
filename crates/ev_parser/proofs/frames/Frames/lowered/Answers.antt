use Rattle.std.proofs.Common.{◌≡◌, ℕ, List, ◌-◌, sym, ap, ◌∙◌, take, arith}
use Rattle.def_syntax.specs.Heights.{low}
use Rattle.ev_parse_table.specs.Table.{capped}
use Rattle.ev_parser.specs.declared.draft.Waiting.{Waiting}
use Rattle.ev_parser.specs.declared.draft.Waiting.TheVariants as waits
use Rattle.ev_parser.specs.Draft.{low_waiting}
use Rattle.ev_parser.specs.Stacks.{lowered}
use Rattle.ev_parser.proofs.Stacks.{lowered_by, lowered_start, lowered_next, lowered_done, lowered_framed}
use Rattle.ev_parser.proofs.frames.Frames.lowered.Goals as goal

pub loop-left-init : goal.loop-left-init
loop-left-init c =
    let e = c.len-left.ensures ∙ c.self.inside.stands.ok.0 in
    (omega (arith, e), lowered_start c.self.inside.stands.items c.len-left.result c.args.height e)

pub loop-left-preserved : goal.loop-left-preserved
loop-left-preserved c =
    let sts = c.self.inside.stands.items in
    let st = c.index-stand.result.now in
    let k : c.low_at-height.result ≡ low_waiting (waits.Inside st) c.loop-left.height = c.low_at-height.ensures ∙ ap (λ (n : ℕ). capped (low st.place n)) c.max.ensures in (
      omega (arith, c.loop-left.invariant.0),
      ap (lowered_by (take (c.loop-left.left - 1) sts)) k
          ∙ sym (lowered_next sts c.loop-left.left st c.loop-left.height c.loop-left-test.true c.loop-left.invariant.0 c.index-stand.ensures)
          ∙ c.loop-left.invariant.1,
    )

pub returns : goal.returns
returns c =
    let sts = c.self.inside.stands.items in
    lowered_done sts c.loop-left.left c.loop-left.height (lowered_by sts c.args.height) c.loop-left-test.false c.loop-left.invariant.1
    ∙ sym (lowered_framed c.self.inside.marks.items sts c.args.height c.self.invariant)
    ∙ ap (λ (ws : List Waiting). lowered ws c.args.height) c.self.view_is
