use Rattle.std.proofs.Common.{[], ◌∷◌, ◌++◌, take, sym, ◌∙◌, append_assoc}
use Rattle.def_op.specs.Numbers.{unsigned}
use Rattle.def_op.specs.Frames.{count, desc_bytes, members_bytes}
use Rattle.def_op.specs.Views.{described, all_described}
use Rattle.ev_op.proofs.InOrder.{count_members, one_more}
use Rattle.ev_op.proofs.writing.+writing.Goals as goal

pub put_list-returns : goal.put_list-returns
unfolding desc_bytes
put_list-returns t c =
    let old = c.args.out.now.items in
    let ds = c.args.members.now in
    let bytes = unsigned (count (all_described ds)) in
    c.in_ok-put_members.ensures
    ∙ rw (c.in_ok-put_unsigned.ensures, c.in_ok-push.ensures.items, sym (count_members ds))
    (append_assoc (old ++ 6 ∷ []) bytes (members_bytes (all_described ds)) ∙ append_assoc old (6 ∷ []) (bytes ++ members_bytes (all_described ds)))

pub put_members-loop-member-preserved : goal.put_members-loop-member-preserved
put_members-loop-member-preserved t c =
    let ds = c.args.members.now in
    let i = c.loop-member.member-index in
    let d = c.member-item.result in
    c.in_ok-put_desc.ensures
    ∙ rw (c.loop-member.invariant, one_more ds i d c.loop-member-test.true c.member-item.is)
    (append_assoc c.args.out.now.items (members_bytes (all_described (take i ds))) (desc_bytes (described d)))
