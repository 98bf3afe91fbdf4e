use Rattle.std.proofs.Common.{subst, sym, ap, ◌∙◌, map, ◌++◌}
use Rattle.def_run.specs.Names.{names_after}
use Rattle.ev_arrive.specs.Reading.{with_gifts}
use Rattle.ev_room.specs.Reading.{vat_of}
use Rattle.ev_resident.specs.Names.{Named, carried_mails}
use Rattle.ev_resident.specs.NamesStanding.{Counts, Stands, mails_of, new_names, printed}
use Rattle.ev_resident.proofs.NamesHeard.{names_stepped, stands_stepped, counts_stepped, stepped_beside}
use Rattle.ev_resident.proofs.names.VatNames.after_step.Goals as goal

pub returns-clause-names : goal.returns-clause-names
returns-clause-names c = λ w outbox happened brought says.
    let d = c.args.words.now in
    let t = c.args.self.now in
    let i = c.args.host.now.inside in
    let gs = c.args.host.now.gifts in
    ap (λ (u : Named). u.naming.names) c.in_ok-step.ensures
    ∙ names_stepped d w i gs outbox happened c.args.carried c.args.told brought t says
    ∙ ap (λ (u : Named). t.naming.names ++ map (printed d) (new_names t (mails_of u.naming.mails) brought (with_gifts gs (vat_of w i)))) (sym c.in_ok-step.ensures)

pub returns-clause-stands : goal.returns-clause-stands
returns-clause-stands c = λ w outbox happened brought says t stands before counts.
    let d = c.args.words.now in
    let n = c.args.self.now in
    let i = c.args.host.now.inside in
    let gs = c.args.host.now.gifts in
    subst
    (λ (m : Named). Stands d (names_after n.naming.vat t before (mails_of (carried_mails c.args.carried)) brought (with_gifts gs (vat_of w i))) m)
    (sym c.in_ok-step.ensures)
    (stands_stepped d w i gs outbox happened c.args.carried c.args.told brought t n before says stands counts)

pub returns-clause-counts : goal.returns-clause-counts
returns-clause-counts c = λ w.
    subst (λ (m : Named). Counts (with_gifts c.args.host.now.gifts (vat_of w c.args.host.now.inside)) m) (sym c.in_ok-step.ensures)
    (counts_stepped c.args.words.now w c.args.host.now.inside c.args.host.now.gifts c.args.carried c.args.told c.args.self.now)

pub returns-clause-mails : goal.returns-clause-mails
returns-clause-mails c =
    ap (λ (u : Named). u.naming.mails) c.in_ok-step.ensures
    ∙ (stepped_beside c.args.words.now c.args.carried c.args.told c.args.host.now.inside c.args.host.now.gifts c.args.self.now).mails

pub returns-clause-vat : goal.returns-clause-vat
returns-clause-vat c =
    ap (λ (u : Named). u.naming.vat) c.in_ok-step.ensures
    ∙ (stepped_beside c.args.words.now c.args.carried c.args.told c.args.host.now.inside c.args.host.now.gifts c.args.self.now).vat

pub returns-clause-objects : goal.returns-clause-objects
returns-clause-objects c =
    ap (λ (u : Named). u.naming.objects) c.in_ok-step.ensures
    ∙ (stepped_beside c.args.words.now c.args.carried c.args.told c.args.host.now.inside c.args.host.now.gifts c.args.self.now).objects
