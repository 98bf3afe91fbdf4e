use Rattle.std.proofs.Common.{◌≡◌, ℕ, Bool, true, false, List, Ok, Err, Some, Option, map, sym, ap, subst, ◌∙◌, arith}
use Rattle.std.specs.Prelude.{slice_set}
use Rattle.std.proofs.lemmas.Result.{err_from_is_err_and}
use Rattle.def_hostile.specs.Arrivals.{learnt_after}
use Rattle.def_machine.specs.Values.{Words}
use Rattle.def_run.specs.Vats.{Member as Theirs}
use Rattle.ev_arrive.specs.declared.host.Host.{Host}
use Rattle.ev_pass.specs.Reading.{names_under, put_by}
use Rattle.ev_pass.specs.declared.interior.Interior.{Interior}
use Rattle.ev_reception.proofs.Nothing.{sees_so}
use Rattle.ev_reception.proofs.Received.{comes_idle, comes_none, comes_on, receive_sends, receive_stops}
use Rattle.ev_reception.specs.Receiving.{Receives, brings_nothing}
use Rattle.ev_reception.specs.declared.receiving.Receipt.TheVariants.{Came}
use Rattle.ev_tables.specs.Table.{Table}
use Rattle.ev_vat.proofs.Arriving.{brings}
use Rattle.ev_vat.proofs.Heard.{note_fits}
use Rattle.ev_vat.proofs.MemberSteps.{with_vat}
use Rattle.ev_vat.specs.Hearing.{answer_of, asked_of, frame_heard, heard_view, taken, with_texts}
use Rattle.ev_vat.specs.Sending.{AreSent}
use Rattle.ev_vat.specs.declared.hearing.Arrival.{Arrival}
use Rattle.ev_vat.specs.declared.hearing.Asked.{Asked}
use Rattle.ev_vat.specs.declared.member.Member.{Member}
use Rattle.ev_wire.proofs.Agreement.{found_spelled}
use Rattle.ev_wire.proofs.Fitting.{frame_fits}
use Rattle.ev_wire.specs.Bringing.{told}
use Rattle.ev_wire.specs.Learnt.{LearntGifts, put_all}
use Rattle.ev_wire.specs.Putting as written
use Rattle.ev_wire.specs.Putting.{put_all as all_put, table_for}
use Rattle.ev_wire.specs.Reading.{learnt_of}
use Rattle.ev_reception.proofs.receiving.receive.Goals as goal

pub come_in-requires : goal.come_in-requires
come_in-requires c =
    let q = c.args.member.now in
    let x = c.in-Some.hearing in
    let heard = sym c.in_ok-hearing.ensures ∙ ap heard_view c.in-Some.is in
    record {
      ready = c.requires.ready;
      fits = λ going. note_fits (with_texts x.news.texts q.vat).host.inside.heap x.note
          (frame_fits q.vat.host.inside (table_for c.args.from q.connections.items) q.learnt (told x.note) x.news c.args.frame.now (found_spelled c.args.frame.now (λ i. omega (arith, c.type_inv.frame i))) heard).0;
    }

pub returns-in_default-clause-step : goal.returns-in_default-clause-step
returns-in_default-clause-step c =
    λ fuel drawn m found owns.
    let q = c.args.member.now in
    comes_none fuel drawn m q found c.args.from c.args.frame.now (found_spelled c.args.frame.now (λ i. omega (arith, c.type_inv.frame i))) c.args.alone (sym c.in_ok-hearing.ensures ∙ ap heard_view c.in_default.is)

pub returns-then-brings_nothing-clause-step : goal.returns-then-brings_nothing-clause-step
returns-then-brings_nothing-clause-step c =
    λ fuel drawn m found owns.
    let q = c.args.member.now in
    let x = c.in-Some.hearing in
    let heard = sym c.in_ok-hearing.ensures ∙ ap heard_view c.in-Some.is in
    let spelled = found_spelled c.args.frame.now (λ i. omega (arith, c.type_inv.frame i)) in
    let see = c.in_ok-sight.sight in
    let tested : brings_nothing c.args.from see x.note q.vat.host ≡ true =
    ap (λ (h : Host). brings_nothing c.args.from see x.note h) (sym c.host.ensures) ∙ sym c.brings_nothing.ensures ∙ c.if-brings_nothing.true in
    comes_idle fuel drawn m q q found c.args.from c.args.frame.now spelled x.note x.news heard see (sees_so fuel drawn m q found c.args.from owns x.note see c.in_ok-sight.ensures) c.args.alone tested

pub returns-in_err-come_in-clause-step : goal.returns-in_err-come_in-clause-step
returns-in_err-come_in-clause-step c =
    λ fuel drawn m found owns.
    let q = c.args.member.now in
    let x = c.in-Some.hearing in
    let s : Member = record q { vat = c.come_in.new.vat } in
    let heard = sym c.in_ok-hearing.ensures ∙ ap heard_view c.in-Some.is in
    let spelled = found_spelled c.args.frame.now (λ i. omega (arith, c.type_inv.frame i)) in
    let see = c.in_ok-sight.sight in
    let sight = sees_so fuel drawn m q found c.args.from owns x.note see c.in_ok-sight.ensures in
    let going = found.rest.going in
    let tested : brings_nothing c.args.from see x.note q.vat.host ≡ false =
    ap (λ (h : Host). brings_nothing c.args.from see x.note h) (sym c.host.ensures) ∙ sym c.brings_nothing.ensures ∙ c.if-brings_nothing.false in
    let p = err_from_is_err_and c.from_residual-in_err-come_in.result c.from_residual-in_err-come_in.ensures.1 in
    rw (p.1, p.2) (comes_on fuel drawn m q s found c.args.from c.args.frame.now spelled x.note x.news heard see sight c.args.alone (Err c.in_err-come_in.field-0.0) tested
    (receive_stops fuel drawn m q s found c.args.from c.args.frame.now spelled x.note x.news heard see sight c.args.alone c.in_err-come_in.field-0.0 (c.in_err-come_in.ensures.step going) (c.in_err-come_in.ensures.grown going) (c.in_err-come_in.ensures.stays going)))

pub returns-clause-step : goal.returns-clause-step
returns-clause-step c =
    λ fuel drawn m found owns.
    let q = c.args.member.now in
    let x = c.in-Some.hearing in
    let v = c.come_in.new.vat in
    let s : Member = record c.send.new.self { vat = v } in
    let heard = sym c.in_ok-hearing.ensures ∙ ap heard_view c.in-Some.is in
    let spelled = found_spelled c.args.frame.now (λ i. omega (arith, c.type_inv.frame i)) in
    let see = c.in_ok-sight.sight in
    let sight = sees_so fuel drawn m q found c.args.from owns x.note see c.in_ok-sight.ensures in
    let going = found.rest.going in
    let t = table_for c.args.from q.connections.items in
    let tested : brings_nothing c.args.from see x.note q.vat.host ≡ false =
    ap (λ (h : Host). brings_nothing c.args.from see x.note h) (sym c.host.ensures) ∙ sym c.brings_nothing.ensures ∙ c.if-brings_nothing.false in
    let answer : c.answer_of-answer.result ≡ answer_of (asked_of x.note) x.news.known v.host =
    c.answer_of-answer.ensures ∙ ap (λ (a : Asked). answer_of a x.news.known c.host-2.result.now) c.asked_of-asked.ensures ∙ ap (λ (k : Host). answer_of (asked_of x.note) x.news.known k) c.host-2.ensures in
    let a : Arrival = record { sendings = c.in_ok-send.field-0; news = x.news } in
    let tables : c.take_from.new.connections.items ≡ slice_set q.connections.items c.args.from (taken x.news (answer_of (asked_of x.note) x.news.known v.host) t) =
    c.in_ok-take_from.ensures.connections ∙ ap (λ (o : Option ℕ). slice_set q.connections.items c.args.from (taken x.news o t)) answer in
    let asks : (ts : List Words) → map learnt_of c.send.new.self.learnt ≡ learnt_after c.args.alone (map (put_by ts) v.host.inside.post) (map learnt_of (put_all x.news.gifts q.learnt)) =
    λ ts.
    ap (λ (l : LearntGifts). map learnt_of l) c.send.ensures.learnt ∙ c.in_ok-learn_put.ensures ts
    ∙ ap (λ (i : Interior). learnt_after c.args.alone (map (put_by ts) i.post) (map learnt_of c.take_from.new.learnt)) c.inside.ensures
    ∙ ap (λ (l : LearntGifts). learnt_after c.args.alone (map (put_by ts) v.host.inside.post) (map learnt_of l)) c.in_ok-take_from.ensures.gifts in
    subst (λ (z : Member). Receives (names_under q.vat.host.inside.words.key) c.args.alone fuel drawn c.args.from m (Ok (Came a)) q z (frame_heard c.args.from m c.args.frame.now)) (with_vat c.send.new.self v c.send.ensures.vat)
    (comes_on fuel drawn m q s found c.args.from c.args.frame.now spelled x.note x.news heard see sight c.args.alone (Ok (Came a)) tested
    (receive_sends fuel drawn m q s found c.args.from c.args.frame.now spelled x.note x.news heard see sight c.args.alone a
    (c.in_ok-come_in.ensures.step going) (c.in_ok-come_in.ensures.grown going) (c.in_ok-come_in.ensures.stays going) c.in_ok-come_in.ensures.sound c.in_ok-come_in.ensures.going asks
    (subst (λ (ts : List Table). AreSent (written.all_written v.host.inside v.host.inside.post ts) a.sendings.items) tables c.in_ok-send.ensures.sends)
    (c.in_ok-send.ensures.connections ∙ ap (λ (ts : List Table). all_put v.host.inside v.host.inside.post ts) tables)))

pub returns-clause-news : goal.returns-clause-news
returns-clause-news c =
    λ fuel drawn m found.
    let q = c.args.member.now in
    let x = c.in-Some.hearing in
    let heard = sym c.in_ok-hearing.ensures ∙ ap heard_view c.in-Some.is in
    let spelled = found_spelled c.args.frame.now (λ i. omega (arith, c.type_inv.frame i)) in
    brings fuel drawn m q c.send.new.self found c.args.from c.args.frame.now spelled x.note x.news heard
