-- What depends on whether a link was noticed as cut.
use Rattle.std.proofs.Common.{◌≡◌, ℕ, Bool, true, sym, ap, ◌∙◌, subst, false}
use Rattle.std.specs.Prelude.{Result, if◌then◌else◌}
use Rattle.def_machine.specs.State.{is_in}
use Rattle.ev_pass.specs.declared.interior.Stop.{Stop}
use Rattle.ev_arrive.specs.Acts.{Gives, Out, give}
use Rattle.ev_arrive.specs.Arriving.{break_orphan, break_unless_opened}
use Rattle.ev_arrive.specs.Hosting.{is_opened}
use Rattle.ev_arrive.specs.Noticing.{notice, notice_all}
use Rattle.ev_arrive.specs.declared.host.Host.{Host}

pub orphan : (p i n : ℕ) (h u : Host) (r : Result (Unit {0}) Stop) (gone opened : Bool) → gone ≡ is_in p h.inside.refs.noticed → gone ≡ true → opened ≡ is_opened p i h.gifts
    → Gives r u (break_unless_opened n opened h) → Gives r u (break_orphan p i n h)
unfolding break_orphan
orphan p i n h u r gone opened is it o g =
    let goes : break_orphan p i n h ≡ break_unless_opened n opened h =
    ap (λ (b : Bool). (if b then break_unless_opened n (is_opened p i h.gifts) else give tt) h) (sym is ∙ it) ∙ ap (λ (b : Bool). break_unless_opened n b h) (sym o) in
    subst (λ (x : Out (Unit {0})). Gives r u x) (sym goes) g

pub first : (w : ℕ) (h u : Host) (r : Result (Unit {0}) Stop) (gone : Bool) → gone ≡ is_in w h.inside.refs.noticed → gone ≡ false → Gives r u (notice_all w h) → Gives r u (notice w h)
unfolding notice
first w h u r gone is it g =
    let goes : notice w h ≡ notice_all w h = ap (λ (b : Bool). (if b then give tt else notice_all w) h) (sym is ∙ it) in
    subst (λ (x : Out (Unit {0})). Gives r u x) (sym goes) g
