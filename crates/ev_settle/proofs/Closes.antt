-- A turn ends as in the machine.
use Rattle.std.proofs.Common.{◌≡◌, ℕ, List, [], ◌∷◌, Option, Some, None}
use Rattle.std.specs.Prelude.{option_map}
use Rattle.ev_base.specs.declared.values.Value.{Value as Held}
use Rattle.ev_base.specs.declared.values.Value.TheVariants as held
use Rattle.ev_heap.specs.declared.happened.Happened.TheVariants as event
use Rattle.def_kernel.specs.declared.node.Node.{Node}
use Rattle.def_machine.specs.Eval.{closes}
use Rattle.def_machine.specs.Refs as refs
use Rattle.def_machine.specs.State as machine
use Rattle.def_machine.specs.State.{Vat, Finished, Threw}
use Rattle.def_machine.specs.Values.{Words, Value, Local, Prom}
use Rattle.ev_pass.specs.Acts as code
use Rattle.ev_pass.specs.Reading.{Lines, Reads, StandsFor, names_under, vat_at}
use Rattle.ev_pass.specs.declared.interior.Interior.{Interior}
use Rattle.ev_pass.proofs.Stands.{both_then, gives, told_is}
use Rattle.ev_refs.specs.Reading.{text_by, value_by}
use Rattle.ev_settle.specs.Closing.{resolve_answer, finish, throw}
use Rattle.ev_settle.specs.Performing.{Tells}
use Rattle.ev_settle.specs.Sending.{break_answer}
use Rattle.ev_settle.proofs.Sends.{resolves_is, break_is}

module _ (ts : List Words) (key : List ℕ) (line : Lines) (s : Vat Local) (tells : Tells ts line) where
  abbrev at : Interior → Vat Local
  at i = vat_at ts line i s

  answered_is : (o : Option ℕ) (v : Held) (i : Interior) → Reads ts key i
      → StandsFor ts key line s (λ u. u) (resolve_answer o v i) (machine.for_some (option_map Prom o) (λ p. refs.resolve (names_under key) p (value_by ts v)) (machine.give tt) (at i))
  unfolding resolve_answer machine.for_some
  answered_is None v i good = gives ts key line s (λ u. u) tt i good
  answered_is (Some p) v i good = resolves_is ts key line s tells p v i good

  pub finishes_is : (tree : List Node) (act : ℕ) (o : Option ℕ) (v : Held) (i : Interior) → Reads ts key i
      → StandsFor ts key line s (λ u. u) (finish act o v i) (closes (names_under key) tree act (option_map Prom o) (machine.give (value_by ts v)) (at i))
  unfolding finish closes machine.ending machine.end_by code.◌>>◌ machine.◌>>◌ machine.give
  finishes_is tree act o v i good =
      both_then ts key line s (λ u. u) (λ u. u) (code.tell (event.Done act v) i) _ _ _ (told_is ts key line s (event.Done act v) (Finished act (value_by ts v)) i (tells.finished act v) good)
      (λ u j e next. answered_is o v j next)

  pub throws_is : (tree : List Node) (act : ℕ) (o : Option ℕ) (t : ℕ) (i : Interior) → Reads ts key i
      → StandsFor ts key line s (λ u. u) (throw act o t i) (closes (names_under key) tree act (option_map Prom o) (machine.throw (text_by ts t)) (at i))
  unfolding throw closes machine.ending machine.end_by code.◌>>◌ machine.◌>>◌ machine.throw
  throws_is tree act o t i good =
      both_then ts key line s (λ u. u) (λ u. u) (code.tell (event.Threw act (held.Text t)) i) _ _ _ (told_is ts key line s (event.Threw act (held.Text t)) (Threw act (text_by ts t)) i (tells.threw act t) good)
      (λ u j e next. break_is ts key line s tells o t j next)
