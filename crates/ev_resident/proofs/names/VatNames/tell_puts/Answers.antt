use Rattle.std.proofs.Common.{sym, ◌∙◌}
use Rattle.ev_pass.specs.Notes.{sent}
use Rattle.ev_pass.specs.declared.post.Put.{Put}
use Rattle.ev_resident.specs.Names.{put_tells}
use Rattle.ev_resident.proofs.Each.{each_on, each_done, each-map}
use Rattle.ev_resident.proofs.names.VatNames.tell_puts.Goals as goal

pub loop-put-preserved : goal.loop-put-preserved
loop-put-preserved c =
    each_on (λ (p : Put). put_tells c.args.words.now c.args.self.now.naming.mails (sent p)) c.args.puts.now c.loop-put.put-index c.put-item.result c.loop-put.told
    c.tell_put.new.told _ c.loop-put-test.true c.put-item.is c.loop-put.invariant c.in_ok-tell_put.ensures

pub returns : goal.returns
returns c =
    let d = c.args.words.now in
    let ms = c.args.self.now.naming.mails in
    each_done (λ (p : Put). put_tells d ms (sent p)) c.args.puts.now c.loop-put.put-index c.loop-put.told _ c.loop-put-test.false c.loop-put.invariant
    ∙ sym (each-map (put_tells d ms) sent c.args.puts.now c.args.told.now)
