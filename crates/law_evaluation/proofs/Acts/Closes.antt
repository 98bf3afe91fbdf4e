-- How calls end: what the code does is what the machine does.
use Rattle.std.proofs.Common.{◌≡◌, ℕ, List, [], ◌∷◌, Option, refl}
use Rattle.ev_base.specs.declared.values.Value.{Value as Held}
use Rattle.ev_base.specs.declared.values.Value.TheVariants as held
use Rattle.ev_heap.specs.declared.happened.Happened.TheVariants as event
use Rattle.def_machine.specs.Values.{Words, Value, Local}
use Rattle.def_machine.specs.State.{Called, Back, Thrown, Left, Vat, Done}
use Rattle.def_machine.specs.State as machine
use Rattle.def_machine.specs.Scopes as scopes
use Rattle.ev_pass.specs.declared.interior.Interior.{Interior as Room}
use Rattle.ev_room.specs.Reading.{World, text_of, value_of, values_of, line_of}
use Rattle.ev_room.specs.Acts.{Out, ◌>>◌, closed_by}
use Rattle.law_evaluation.proofs.Acts.Sounds.{there_on}
use Rattle.law_evaluation.proofs.Acts.Stands.{Met, ended_met, eject_met, a_value, then_met, give_met, throw_met, tell_met}

-- ---- how calls end

back_line : (w : World) (act : ℕ) (v : Held) → line_of w (event.Back act v) ≡ Back act (value_of w v) ∷ []
unfolding line_of
back_line w act v = refl

thrown_line : (w : World) (act id : ℕ) → line_of w (event.Thrown act (held.Text id)) ≡ Thrown act (text_of w id) ∷ []
unfolding line_of
thrown_line w act id = refl

pub called_line : (w : World) (act : ℕ) (x : Held) (verb : Words) (args : List Held) (begun : Option ℕ)
    → line_of w (event.Call act x verb args begun) ≡ Called act (value_of w x) verb (values_of w args) begun ∷ []
unfolding line_of
called_line w act x verb args begun = refl

gone_line : (w : World) (act : ℕ) → line_of w (event.Gone act) ≡ Left act ∷ []
unfolding line_of
gone_line w act = refl

-- how a call ends depends on how its code does
pub closed_met : (w : World) (act : ℕ) (s : Room) (o : Out Held) (d : Done Local (Value Local)) (z : Vat Local) → Met w a_value s o d → Met w a_value s (closed_by act o) (scopes.ended act (λ y. d) z)
unfolding closed_by scopes.ended machine.ending ◌>>◌ machine.◌>>◌
closed_met w act s o d z m =
    ended_met w a_value a_value s o d _ _ _ _ _ _ m
    (λ v t q j g. then_met _ _ (tell_met w (event.Back act v) (Back act (value_of w v)) t q (back_line w act v)) (λ u r p l e. give_met w a_value v r p (there_on e v j)))
    (λ id t q j g. then_met _ _ (tell_met w (event.Thrown act (held.Text id)) (Thrown act (text_of w id)) t q (thrown_line w act id)) (λ u r p l e. throw_met w a_value id r p (there_on e (held.Text id) j)))
    (λ n v t q j g. then_met _ _ (tell_met w (event.Gone act) (Left act) t q (gone_line w act)) (λ u r p l e. eject_met w a_value n v r p (there_on e v j)))
