-- Notes that come in.
use Rattle.std.proofs.Common.{ℕ, Bool, true, false, [], ◌∷◌, ◌++◌, length}
use Rattle.ev_base.specs.declared.values.Value.TheVariants as held
use Rattle.def_machine.specs.Values.{Words}
use Rattle.ev_pass.specs.Acts.{draw}
use Rattle.ev_pass.specs.Notes.{key_of}
use Rattle.ev_settle.specs.Changes.{come, mail}
use Rattle.ev_refs.specs.References.{unsettled_of}
use Rattle.ev_refs.specs.Mailing.{with_mail}
use Rattle.ev_room.specs.Sound.{IsSound}
use Rattle.ev_settle.specs.Settling.{settle}
use Rattle.ev_arrive.specs.Acts.{Act, ◌>>=◌, ◌>>◌, and_then, give, learn_name, learn_subject, value_at, within}
use Rattle.ev_arrive.specs.Delivering.{deliver, learn_message}
use Rattle.ev_arrive.specs.declared.host.Carried.{Carried}
use Rattle.ev_arrive.specs.declared.host.Carried.TheVariants.{Back, New as NewMessage}
use Rattle.ev_arrive.specs.declared.host.Host.{Host}
use Rattle.ev_arrive.specs.declared.host.Incoming.{Incoming}
use Rattle.ev_arrive.specs.declared.host.Subject.{Subject}
use Rattle.ev_arrive.specs.declared.host.Subject.TheVariants as subject
use Rattle.ev_arrive.specs.Bringing.{Part, Parts, all_parts, part}
use Rattle.ev_arrive.specs.Fitting.{AllFit, Fits}
use Rattle.ev_arrive.specs.Learning.{arrive_deliver, arrive_settled, learn, learn_each}
use Rattle.ev_arrive.specs.Noting.{arrive}
use Rattle.ev_arrive.specs.Receiving.{break_back, break_cycle, break_subject, leads_back, receive, receive_by, tells_nothing}
use Rattle.ev_arrive.specs.declared.brought.Heard.{Heard}
use Rattle.ev_arrive.specs.declared.brought.Heard.TheVariants.{Deliver, Open, Ask, Settled, Elsewhere, Shorten}
use Rattle.ev_arrive.specs.declared.receiving.Sight.{Sight}
use Rattle.law_evaluation.proofs.Acts.Sounds.{all_on}
use Rattle.law_evaluation.specs.Acts.Kinds.{StopOf}
use Rattle.law_evaluation.specs.Arrivals.Arrivals.{EndsSound, Leaves, NoteFits, Whatever}
use Rattle.law_evaluation.proofs.Arrivals.Arrives.{arrive_ask_sounds, arrive_elsewhere_sounds, arrive_open_sounds, arrive_shorten_sounds, deliver_ends, draw_sounds, learn_message_sounds, learn_name_sounds, learn_subject_sounds, named_there, settle_ends}
use Rattle.law_evaluation.proofs.Arrivals.Learns.{AllThere, OneThere, learn_each_ends, learn_ends}
use Rattle.law_evaluation.proofs.Arrivals.Leaving.{Sounds, later, more_grown, sounds_and, sounds_give, sounds_then, then_leaves}

-- ---- messages

-- from where its number is known
abbrev args_then : ℕ → ℕ → Bool → Incoming → Words → Parts → Act (Unit {0})
args_then from id asks x verb ps = learn_each (learn 100 from) ps >>= (λ args. learn_name x >>= (λ r. deliver from id asks (value_at r) verb args))

args_ends : (from id : ℕ) (asks : Bool) (x : Incoming) (verb : Words) (ps : Parts) (h : Host) → IsSound h.inside → AllFit h.inside.heap 100 ps → EndsSound h.inside (args_then from id asks x verb ps h)
unfolding ◌>>=◌
args_ends from id asks x verb ps h sound f =
    then_leaves StopOf AllThere Whatever h.inside (learn_each (learn 100 from) ps h) _ (learn_each_ends from ps h sound f)
    (λ args j l is. then_leaves StopOf Whatever Whatever j.inside (learn_name x j) _ (learn_name_sounds x j l.sound)
    (λ r k m u. deliver_ends from id asks (value_at r) verb args k m.sound (named_there k.inside r) (all_on (more_grown m.heap) args is)))

-- that it has a number leaves the heap as it was
message_ends : (from : ℕ) (c : Carried) (asks : Bool) (x : Incoming) (verb : Words) (ps : Parts) (h : Host) → IsSound h.inside → AllFit h.inside.heap 100 ps → EndsSound h.inside (arrive_deliver from c asks x verb ps h)
unfolding arrive_deliver learn_message mail within give ◌>>=◌ and_then
message_ends from (Back m) asks x verb ps h sound f = args_ends from m asks x verb ps h sound f
message_ends from NewMessage asks x verb ps h sound f =
    let k : Host = record h { inside = record h.inside { refs = with_mail h.inside.refs } } in
    let l : Leaves h.inside k.inside = (learn_message_sounds NewMessage h sound).1 in
    later StopOf Whatever h.inside k.inside (args_then from h.inside.refs.mails asks x verb ps k) l (args_ends from h.inside.refs.mails asks x verb ps k l.sound f)

-- ---- names that settled

value_ends : (from n : ℕ) (p : Part) (h : Host) → IsSound h.inside → Fits h.inside.heap 100 p → EndsSound h.inside ((learn 100 from p >>= (λ v. within (settle n v))) h)
unfolding ◌>>=◌
value_ends from n p h sound f =
    then_leaves StopOf OneThere Whatever h.inside (learn 100 from p h) (λ v. within (settle n v)) (learn_ends from p h sound f) (λ v k l i. settle_ends n v k l.sound i)

subject_ends : (from : ℕ) (x : Subject) (p : Part) (h : Host) → IsSound h.inside → Fits h.inside.heap 100 p → EndsSound h.inside (arrive_settled from x p h)
unfolding arrive_settled learn_subject come within give ◌>>=◌ and_then
subject_ends from (subject.Known n) p h sound f = value_ends from n p h sound f
subject_ends from (subject.New v) p h sound f =
    let n = length h.inside.refs.known in
    let k : Host = record h { inside = record h.inside { refs = record h.inside.refs { known = h.inside.refs.known ++ unsettled_of v ∷ [] } } } in
    let l : Leaves h.inside k.inside = (learn_subject_sounds (subject.New v) h sound).1 in
    later StopOf Whatever h.inside k.inside ((learn 100 from p >>= (λ y. within (settle n y))) k) l (value_ends from n p k l.sound f)

-- ---- notes

pub arrive_ends : (from : ℕ) (note : Heard) (h : Host) → IsSound h.inside → NoteFits h.inside.heap note → EndsSound h.inside (arrive from note h)
unfolding arrive
arrive_ends from (Deliver m asks x verb args) h sound f = message_ends from m asks x verb (all_parts args.items) h sound f
arrive_ends from (Open i x) h sound f = arrive_open_sounds from i x h sound
arrive_ends from (Ask p i) h sound f = arrive_ask_sounds from p i h sound
arrive_ends from (Settled x y) h sound f = subject_ends from x (part y) h sound f
arrive_ends from (Elsewhere x c) h sound f = arrive_elsewhere_sounds x c h sound
arrive_ends from (Shorten x i) h sound f = arrive_shorten_sounds x (key_of i) h sound

break_cycle_sounds : (n : ℕ) → Sounds (break_cycle n)
unfolding break_cycle
break_cycle_sounds n h sound = settle_ends n (held.Broken h.inside.refs.cycle) h sound sound.refs.cycle

break_subject_sounds : (x : Subject) → Sounds (break_subject x)
unfolding break_subject
break_subject_sounds x =
    sounds_then (learn_subject x) (λ n. within draw >> break_cycle n) (learn_subject_sounds x) (λ n. sounds_and (within draw) (break_cycle n) draw_sounds (break_cycle_sounds n))

break_back_sounds : (note : Heard) → Sounds (break_back note)
unfolding break_back
break_back_sounds (Elsewhere x c) = break_subject_sounds x
break_back_sounds other = sounds_give tt

by_ends : (nothing back : Bool) (from : ℕ) (note : Heard) (h : Host) → IsSound h.inside → NoteFits h.inside.heap note → EndsSound h.inside (receive_by nothing back from note h)
unfolding receive_by
by_ends true back from note h sound f = sounds_give tt h sound
by_ends false true from note h sound f = break_back_sounds note h sound
by_ends false false from note h sound f = arrive_ends from note h sound f

pub receives : (h : Host) (from : ℕ) (see : Sight) (note : Heard) → IsSound h.inside → NoteFits h.inside.heap note → EndsSound h.inside (receive from see note h)
unfolding receive
receives h from see note sound f = by_ends (tells_nothing from see note h) (leads_back see note h) from note h sound f
