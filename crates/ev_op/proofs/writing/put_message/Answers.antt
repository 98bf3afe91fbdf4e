use Rattle.std.proofs.Common.{sym, ◌∙◌}
use Rattle.def_op.specs.Numbers.{unsigned}
use Rattle.def_op.specs.Frames.{count, text_bytes, desc_bytes, members_bytes}
use Rattle.def_op.specs.Views.{described, all_described}
use Rattle.ev_op.proofs.InOrder.{count_members, put_four}
use Rattle.ev_op.proofs.writing.put_message.Goals as goal

pub returns : goal.returns
returns c =
    let args = c.args.args.now in
    c.in_ok-put_members.ensures
    ∙ rw (c.in_ok-put_unsigned.ensures, c.in_ok-put_text.ensures, c.in_ok-put_desc.ensures, sym (count_members args))
    (put_four c.args.out.now.items (desc_bytes (described c.args.target.now)) (text_bytes c.args.verb.now) (unsigned (count (all_described args))) (members_bytes (all_described args)))
