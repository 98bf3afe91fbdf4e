-- How a turn ends, in the code's terms.
use Rattle.std.specs.Prelude.{ℕ, Some, None}
use Rattle.std.specs.declared.option.Option.{Option}
use Rattle.ev_base.specs.declared.values.Value.{Value}
use Rattle.ev_base.specs.declared.values.Value.TheVariants as held
use Rattle.ev_heap.specs.declared.happened.Happened.TheVariants as event
use Rattle.ev_pass.specs.Acts.{Act, ◌>>◌, give, tell}
use Rattle.ev_settle.specs.Resolving.{resolve}
use Rattle.ev_settle.specs.Sending.{break_answer}

-- what is to be answered, if anything is, resolves to the value
unfoldable pub resolve_answer : Option ℕ → Value → Act (Unit {0})
resolve_answer None v = give tt
resolve_answer (Some p) v = resolve p v

-- a turn ends with a value
unfoldable pub finish : ℕ → Option ℕ → Value → Act (Unit {0})
finish act answer v = tell (event.Done act v) >> resolve_answer answer v

-- or with a problem, by which the answer is broken
unfoldable pub throw : ℕ → Option ℕ → ℕ → Act (Unit {0})
throw act answer t = tell (event.Threw act (held.Text t)) >> break_answer answer t
