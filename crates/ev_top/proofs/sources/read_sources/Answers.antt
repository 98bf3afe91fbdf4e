use Rattle.std.proofs.Common.{◌≡◌, ◌<◌, ◌≤◌, Bool, true, false, if◌then◌else◌, List, Result, Ok, Err, get_or, length, take, refl, sym, ◌∙◌, subst}
use Rattle.std.specs.Result.{is_err, is_ok}
use Rattle.ev_reader.specs.declared.accepted.Scoped.{Scoped}
use Rattle.ev_script.specs.declared.script.VatScript.{VatScript}
use Rattle.ev_top.specs.Programs.{AreRead, IsRead}
use Rattle.ev_top.proofs.ReadLemmas.{few, next_refused, read_next}
use Rattle.ev_top.proofs.sources.read_sources.Goals as goal

ok_of : {A E : Type 0} (r : Result A E) → is_err r ≡ false → is_ok r ≡ true
ok_of (Ok x) e = refl
ok_of (Err x) e = cc

kept : (b : Bool) (next more same : List Scoped) → b ≡ true → next ≡ (if b then more else same) → next ≡ more
kept true next more same is e = e
kept false next more same is e = cc

pub refuse-requires : goal.refuse-requires
refuse-requires c =
    few c.as_slice-vats.result.now c.loop-vat.vat-index c.len.result c.loop-vat.programs.items c.loop-vat.invariant c.loop-vat-test.true
    (subst (λ (vats : List VatScript). length vats ≤ 16) (sym c.as_slice-vats.ensures) c.requires.vats.0) (c.len.ensures ∙ c.loop-vat.programs.ok.0)

pub loop-vat-preserved : goal.loop-vat-preserved
loop-vat-preserved c =
    read_next c.as_slice-vats.result.now c.loop-vat.vat-index c.loop-vat.programs.items c.push.new.self.items c.in-Ok.scoped c.vat-item.result c.loop-vat.invariant
    c.loop-vat-test.true c.vat-item.is c.in-Ok.ensures
    (kept (is_ok c.push.result) c.push.new.self.items _ _ (ok_of c.push.result (sym c.is_err.ensures.value ∙ c.if-is_err.false)) c.push.ensures.items)

pub returns-in-Err-clause-refused : goal.returns-in-Err-clause-refused
returns-in-Err-clause-refused c =
    let vats = c.as_slice-vats.ensures in
    next_refused c.args.script.now c.loop-vat.vat-index c.len.result c.vat-item.result c.loop-vat.programs.items c.in-Err.fault c.refuse.result
    (subst (λ (vs : List VatScript). AreRead vs (take c.loop-vat.vat-index vs) c.loop-vat.programs.items) vats c.loop-vat.invariant)
    (subst (λ (vs : List VatScript). c.loop-vat.vat-index < length vs) vats c.loop-vat-test.true)
    (subst (λ (vs : List VatScript). c.vat-item.result ≡ get_or vs c.loop-vat.vat-index c.vat-item.result) vats c.vat-item.is)
    (subst (λ (vs : List VatScript). IsRead vs c.vat-item.result (Err c.in-Err.fault)) vats c.in-Err.ensures)
    (c.len.ensures ∙ c.loop-vat.programs.ok.0) c.refuse.ensures
