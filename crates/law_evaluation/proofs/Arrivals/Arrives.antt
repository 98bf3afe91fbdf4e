-- Messages and gifts that come to be here, gifts that are opened and asked for, names that settled elsewhere, and links that are cut.
use Rattle.std.proofs.Common.{◌≡◌, ◌==◌, ℕ, Bool, true, false, List, [], ◌∷◌, Option, Some, None, refl}
use Rattle.std.specs.Prelude.{if◌then◌else◌, slice_get}
use Rattle.ev_base.specs.declared.values.Value.{Value}
use Rattle.ev_base.specs.declared.values.Value.TheVariants as held
use Rattle.ev_heap.specs.declared.happened.Happened.TheVariants as event
use Rattle.def_machine.specs.State.{is_in}
use Rattle.def_machine.specs.Values.{Words}
use Rattle.ev_intro.specs.Gift.{find, unopened}
use Rattle.ev_refs.specs.Changes.{seen_as, with_waiting}
use Rattle.ev_refs.specs.Follow.{followed, host_of, place_of}
use Rattle.ev_refs.specs.References.{References}
use Rattle.ev_refs.specs.declared.follow.Place.{Place}
use Rattle.ev_refs.specs.declared.follow.Place.TheVariants.{FarObject}
use Rattle.ev_refs.specs.declared.known.Known.{Known}
use Rattle.ev_refs.specs.declared.known.Message.{Message}
use Rattle.ev_refs.specs.declared.known.Standing.{Standing}
use Rattle.ev_refs.specs.declared.known.Standing.TheVariants.{Unsettled, WaitsOn, Settled}
use Rattle.ev_pass.specs.Acts as inner
use Rattle.ev_pass.specs.Acts.{draw, send_out, tell, to_tell}
use Rattle.ev_pass.specs.Delivering.{inform}
use Rattle.ev_pass.specs.Notes.{Noted}
use Rattle.ev_pass.specs.declared.interior.Interior.{Interior}
use Rattle.ev_pass.specs.declared.note.Reference.{Reference}
use Rattle.ev_pass.specs.declared.note.Reference.TheVariants as reference
use Rattle.ev_room.specs.Holding.{IfThere, KnownOf, MessageOf}
use Rattle.ev_room.specs.Sound.{IsSound, are_there, is_there}
use Rattle.ev_settle.specs.Changes.{awaited_in, begin_view, come, mail, note_wait, see, viewing_in}
use Rattle.ev_settle.specs.Resolving.{resolve}
use Rattle.ev_settle.specs.Settling.{forward, settle}
use Rattle.ev_arrive.specs.Acts.{Act, ◌>>=◌, ◌>>◌, give, learn_name, learn_subject, value_at, within}
use Rattle.ev_arrive.specs.Arriving.{arrive_ask, arrive_open, break_orphan, break_unless_opened, tell_asker, tell_by}
use Rattle.ev_arrive.specs.Breaking.{break_at, break_by, break_hosted, break_hosted_by, break_name, standing_now}
use Rattle.ev_arrive.specs.Delivering.{ask_for, deliver, learn_gift, learn_message, send_on_asked}
use Rattle.ev_arrive.specs.Hosting.{have_by, have_gift, is_opened, keep_gift, new_gift, open_gift}
use Rattle.ev_arrive.specs.Noticing.{break_each, hosted, mark, notice, notice_all}
use Rattle.ev_arrive.specs.Viewing.{arrive_elsewhere, arrive_shorten, ask_there, gift_there, settled_at, shorten_to, shorten_value, view_from, view_there}
use Rattle.ev_arrive.specs.declared.host.Carried.{Carried}
use Rattle.ev_arrive.specs.declared.host.Carried.TheVariants.{Back, New as NewMessage}
use Rattle.ev_arrive.specs.declared.host.Host.{Host}
use Rattle.ev_arrive.specs.declared.host.Incoming.{Incoming}
use Rattle.ev_arrive.specs.declared.host.Incoming.TheVariants.{Known as KnownName, New as NewName}
use Rattle.ev_arrive.specs.declared.host.Subject.{Subject}
use Rattle.ev_arrive.specs.declared.host.Subject.TheVariants as subject
use Rattle.law_evaluation.proofs.Acts.Following.{every_got}
use Rattle.law_evaluation.proofs.Acts.Sounds.{all_on, there_on}
use Rattle.law_evaluation.proofs.Acts.Referring.{base_of, each_of, ground_of, inside_of}
use Rattle.law_evaluation.proofs.Acts.Acts.{draw_of, refer, send_out_of, tell_of, then_of, to_tell_of, unless_of, with_known}
use Rattle.law_evaluation.proofs.Acts.Passes.{inform_of}
use Rattle.law_evaluation.proofs.Acts.Sends.{resolve_of}
use Rattle.law_evaluation.proofs.Acts.Settles.{come_of, forward_of, settle_of}
use Rattle.law_evaluation.specs.Acts.Kinds.{Anything, Base, EndsOf, InsideOf, ReferencesIn, StopOf}
use Rattle.law_evaluation.specs.Arrivals.Arrivals.{EndsSound, Leaves, Whatever}
use Rattle.law_evaluation.proofs.Arrivals.Leaving.{Sounds, leaves_inside, leaves_on, leaves_same, more_grown, sounds_and, sounds_at, sounds_give, sounds_if, sounds_then, sounds_within, then_leaves}

-- ---- acts on references

-- what is known stands in each heap
pub named_there : (s : Interior) (r : Reference) → is_there s.heap (value_at r) ≡ true
named_there s (reference.Object i) = refl
named_there s other = refl

pub come_sounds : (v : ℕ) → Sounds (within (come v))
come_sounds v = sounds_within (come v) (λ s sound. come_of (is_there s.heap) (base_of s) (ground_of s sound) v s (inside_of s sound))

send_sounds : (v : ℕ) (n : Noted) → Sounds (within (send_out v n))
send_sounds v n = sounds_within (send_out v n) (λ s sound. send_out_of (is_there s.heap) (base_of s) v n s (inside_of s sound))

to_tell_sounds : (v n : ℕ) → Sounds (within (to_tell v n))
to_tell_sounds v n = sounds_within (to_tell v n) (λ s sound. to_tell_of (is_there s.heap) (base_of s) v n s (inside_of s sound))

pub draw_sounds : Sounds (within draw)
draw_sounds = sounds_within draw (λ s sound. draw_of (is_there s.heap) (base_of s) s (inside_of s sound))

inform_sounds : (n v : ℕ) → Sounds (within (inform n v))
inform_sounds n v = sounds_within (inform n v) (λ s sound. inform_of (is_there s.heap) (base_of s) (ground_of s sound) n v s (inside_of s sound))

resolve_sounds : (n : ℕ) (r : Reference) → Sounds (within (resolve n (value_at r)))
resolve_sounds n r = sounds_within (resolve n (value_at r)) (λ s sound. resolve_of (is_there s.heap) (base_of s) (ground_of s sound) n (value_at r) s (inside_of s sound) (named_there s r))

-- a name settles to what stands in the heap
pub settle_ends : (n : ℕ) (v : Value) (h : Host) → IsSound h.inside → is_there h.inside.heap v ≡ true → EndsSound h.inside (within (settle n v) h)
settle_ends n v h sound i =
    sounds_at (settle n v) h sound (settle_of (is_there h.inside.heap) (base_of h.inside) (ground_of h.inside sound) n v h.inside (inside_of h.inside sound) i)

forward_ends : (m : Message) (h : Host) → IsSound h.inside → MessageOf (is_there h.inside.heap) m → EndsSound h.inside (within (forward m) h)
forward_ends m h sound i = sounds_at (forward m) h sound (forward_of (is_there h.inside.heap) (base_of h.inside) (ground_of h.inside sound) m h.inside (inside_of h.inside sound) i)

-- ---- views

module _ (kind : Value → Bool) (base : Base) where
  viewing_of : (n g : ℕ) (o : Option Known) (r : References) → IfThere (KnownOf kind) o → ReferencesIn kind base r → ReferencesIn kind base (viewing_in n g o r)
  unfolding viewing_in
  viewing_of n g None r a b = b
  viewing_of n g (Some k) r a b = with_known kind base r n (seen_as g k) b (unless_of kind base k.standing k _ a (tt, a.1))

  awaited_of : (p q : ℕ) (o : Option Known) (r : References) → IfThere (KnownOf kind) o → ReferencesIn kind base r → ReferencesIn kind base (awaited_in p q o r)
  unfolding awaited_in
  awaited_of p q None r a b = b
  awaited_of p q (Some k) r a b = with_known kind base r q (with_waiting p k) b (unless_of kind base k.standing k _ a a)

  begin_view_of : (n g : ℕ) (i : Interior) → InsideOf kind base i → EndsOf kind base Anything (begin_view n g i)
  unfolding begin_view
  begin_view_of n g i good = (tt, refer kind base i _ good (viewing_of n g (slice_get i.refs.known n) i.refs (every_got (KnownOf kind) i.refs.known n good.refs.known) good.refs))

  note_wait_of : (p q : ℕ) (i : Interior) → InsideOf kind base i → EndsOf kind base Anything (note_wait p q i)
  unfolding note_wait
  note_wait_of p q i good = (tt, refer kind base i _ good (awaited_of p q (slice_get i.refs.known q) i.refs (every_got (KnownOf kind) i.refs.known q good.refs.known) good.refs))

  see_of : (n g : ℕ) (i : Interior) → InsideOf kind base i → EndsOf kind base Anything (see n g i)
  unfolding see inner.◌>>◌
  see_of n g i good =
      then_of kind base Anything Anything (tell (event.View n g) i) _ (tell_of kind base (event.View n g) i good)
      (λ u a j next. then_of kind base Anything Anything (begin_view n g j) _ (begin_view_of n g j next) (λ v b k last. note_wait_of n g k last))

  mail_of : (i : Interior) → InsideOf kind base i → EndsOf kind base Anything (mail i)
  unfolding mail
  mail_of i good = (tt, refer kind base i _ good (record { known = good.refs.known; queue = good.refs.queue; partition = good.refs.partition; cycle = good.refs.cycle }))

see_sounds : (n g : ℕ) → Sounds (within (see n g))
see_sounds n g = sounds_within (see n g) (λ s sound. see_of (is_there s.heap) (base_of s) n g s (inside_of s sound))

mail_sounds : Sounds (within mail)
mail_sounds = sounds_within mail (λ s sound. mail_of (is_there s.heap) (base_of s) s (inside_of s sound))

-- ---- names that are heard of

pub learn_name_sounds : (x : Incoming) → Sounds (learn_name x)
unfolding learn_name
learn_name_sounds (KnownName r) = sounds_give r
learn_name_sounds (NewName v) = sounds_then (within (come v)) (λ n. give (reference.Promise n)) (come_sounds v) (λ n. sounds_give (reference.Promise n))

pub learn_subject_sounds : (x : Subject) → Sounds (learn_subject x)
unfolding learn_subject
learn_subject_sounds (subject.Known n) = sounds_give n
learn_subject_sounds (subject.New v) = come_sounds v

pub learn_message_sounds : (x : Carried) → Sounds (learn_message x)
unfolding learn_message
learn_message_sounds (Back m) = sounds_give m
learn_message_sounds NewMessage = mail_sounds

-- ---- messages

-- a message that stood in the heap is sent on from a vat that was left
message_ends : (m : Message) (s : Interior) (h : Host) → Leaves s h.inside → is_there s.heap m.target ≡ true → are_there s.heap m.args ≡ true → EndsSound h.inside (within (forward m) h)
message_ends m s h l i is =
    let g = more_grown l.heap in
    forward_ends m h l.sound (there_on g m.target i, each_of h.inside.heap m.args (all_on g m.args is))

asked_ends : (v id : ℕ) (x : Value) (verb : Words) (args : List Value) (h : Host) → IsSound h.inside → is_there h.inside.heap x ≡ true → are_there h.inside.heap args ≡ true
    → EndsSound h.inside (send_on_asked v id x verb args h)
unfolding send_on_asked ◌>>=◌ ◌>>◌
asked_ends v id x verb args h sound i is =
    then_leaves StopOf Whatever Whatever h.inside (within (come h.inside.refs.me) h) _ (come_sounds h.inside.refs.me h sound)
    (λ a j l u. then_leaves StopOf Whatever Whatever j.inside (within (to_tell v a) j) _ (to_tell_sounds v a j l.sound)
    (λ b k m w. message_ends (record { id = id; target = x; verb = verb; args = args; answer = Some a }) h.inside k (leaves_on l m) i is))

deliver_if : (asks : Bool) (v id : ℕ) (x : Value) (verb : Words) (args : List Value) (h : Host) → IsSound h.inside → is_there h.inside.heap x ≡ true → are_there h.inside.heap args ≡ true
    → EndsSound h.inside ((if asks then send_on_asked v id x verb args else within (forward (record { id = id; target = x; verb = verb; args = args; answer = None }))) h)
deliver_if true v id x verb args h sound i is = asked_ends v id x verb args h sound i is
deliver_if false v id x verb args h sound i is = forward_ends (record { id = id; target = x; verb = verb; args = args; answer = None }) h sound (i, each_of h.inside.heap args is)

pub deliver_ends : (v id : ℕ) (asks : Bool) (x : Value) (verb : Words) (args : List Value) (h : Host) → IsSound h.inside → is_there h.inside.heap x ≡ true → are_there h.inside.heap args ≡ true
    → EndsSound h.inside (deliver v id asks x verb args h)
unfolding deliver
deliver_ends v id asks x verb args h sound i is = deliver_if asks v id x verb args h sound i is

-- ---- names that break

pub break_name_sounds : (n : ℕ) → Sounds (break_name n)
unfolding break_name
break_name_sounds n h sound = settle_ends n (held.Broken h.inside.refs.partition) h sound sound.refs.partition

break_by_sounds : (n : ℕ) (st : Standing) → Sounds (break_by n st)
unfolding break_by
break_by_sounds n (Settled v) = sounds_give tt
break_by_sounds n other = break_name_sounds n

break_at_sounds : (n : ℕ) → Sounds (break_at n)
unfolding break_at
break_at_sounds n h sound = break_by_sounds n (standing_now h.inside.refs n) h sound

break_hosted_by_sounds : (n : ℕ) (st : Standing) → Sounds (break_hosted_by n st)
unfolding break_hosted_by
break_hosted_by_sounds n Unsettled = break_name_sounds n
break_hosted_by_sounds n (WaitsOn q) = break_name_sounds n
break_hosted_by_sounds n other = sounds_give tt

break_hosted_sounds : (n : ℕ) → Sounds (break_hosted n)
unfolding break_hosted
break_hosted_sounds n h sound = break_hosted_by_sounds n (standing_now h.inside.refs n) h sound

-- ---- gifts

ask_for_sounds : (p c i n : ℕ) → Sounds (ask_for p c i n)
unfolding ask_for
ask_for_sounds p c i n h sound = sounds_if (is_in c h.inside.refs.noticed) (break_name n) (within (send_out c _)) (break_name_sounds n) (send_sounds c _) h sound

pub learn_gift_sounds : (p c i : ℕ) → Sounds (learn_gift p c i)
unfolding learn_gift
learn_gift_sounds p c i =
    sounds_then (within (come c)) _ (come_sounds c) (λ n. sounds_and (ask_for p c i n) (give n) (ask_for_sounds p c i n) (sounds_give n))

keep_gift_sounds : (p i n : ℕ) → Sounds (keep_gift p i n)
unfolding keep_gift
keep_gift_sounds p i n h sound = (tt, leaves_same h.inside sound)

new_gift_sounds : (p i : ℕ) → Sounds (new_gift p i)
unfolding new_gift
new_gift_sounds p i h sound =
    sounds_then (within (come h.inside.refs.me)) _ (come_sounds h.inside.refs.me) (λ n. sounds_and (keep_gift p i n) (give n) (keep_gift_sounds p i n) (sounds_give n)) h sound

have_by_sounds : (p i : ℕ) (o : Option (ℕ × Bool)) → Sounds (have_by p i o)
unfolding have_by
have_by_sounds p i (Some g) = sounds_give g.0
have_by_sounds p i None = new_gift_sounds p i

have_gift_sounds : (p i : ℕ) → Sounds (have_gift p i)
unfolding have_gift
have_gift_sounds p i h sound = have_by_sounds p i (find p i h.gifts) h sound

open_gift_sounds : (p i : ℕ) → Sounds (open_gift p i)
unfolding open_gift
open_gift_sounds p i h sound = (tt, leaves_same h.inside sound)

pub arrive_open_sounds : (v i : ℕ) (x : Incoming) → Sounds (arrive_open v i x)
unfolding arrive_open
arrive_open_sounds v i x =
    sounds_then (learn_name x) _ (learn_name_sounds x)
    (λ y. sounds_then (have_gift v i) _ (have_gift_sounds v i)
    (λ n. sounds_and (open_gift v i) (within (resolve n (value_at y))) (open_gift_sounds v i) (resolve_sounds n y)))

break_unless_sounds : (n : ℕ) (b : Bool) → Sounds (break_unless_opened n b)
unfolding break_unless_opened
break_unless_sounds n true = sounds_give tt
break_unless_sounds n false = break_at_sounds n

break_orphan_sounds : (p i n : ℕ) → Sounds (break_orphan p i n)
unfolding break_orphan
break_orphan_sounds p i n h sound =
    sounds_if (is_in p h.inside.refs.noticed) (break_unless_opened n (is_opened p i h.gifts)) (give tt) (break_unless_sounds n (is_opened p i h.gifts)) (sounds_give tt) h sound

tell_by_sounds : (n v : ℕ) (st : Standing) → Sounds (tell_by n v st)
unfolding tell_by
tell_by_sounds n v (Settled x) = inform_sounds n v
tell_by_sounds n v other = to_tell_sounds v n

tell_asker_sounds : (n v : ℕ) → Sounds (tell_asker n v)
unfolding tell_asker
tell_asker_sounds n v h sound = tell_by_sounds n v (standing_now h.inside.refs n) h sound

pub arrive_ask_sounds : (v p i : ℕ) → Sounds (arrive_ask v p i)
unfolding arrive_ask
arrive_ask_sounds v p i =
    sounds_then (have_gift p i) _ (have_gift_sounds p i)
    (λ n. sounds_and (break_orphan p i n) (tell_asker n v) (break_orphan_sounds p i n) (tell_asker_sounds n v))

-- ---- what settled elsewhere

ask_there_sounds : (v c i : ℕ) → Sounds (ask_there v c i)
unfolding ask_there
ask_there_sounds v c i =
    sounds_then (within (come c)) _ (come_sounds c) (λ g. sounds_and (within (send_out c _)) (give g) (send_sounds c _) (sounds_give g))

gift_there_sounds : (v p c i : ℕ) → Sounds (gift_there v p c i)
unfolding gift_there
gift_there_sounds v p c i h sound = sounds_if (c == v) (have_gift p i) (ask_there p c i) (have_gift_sounds p i) (ask_there_sounds p c i) h sound

view_from_sounds : (v n p c : ℕ) → Sounds (view_from v n p c)
unfolding view_from
view_from_sounds v n p c =
    sounds_then (within draw) _ draw_sounds
    (λ i. sounds_and (within (send_out p _)) _ (send_sounds p _)
    (sounds_then (gift_there v p c i) (λ g. within (see n g)) (gift_there_sounds v p c i) (λ g. see_sounds n g)))

view_there_sounds : (n c : ℕ) → Sounds (view_there n c)
unfolding view_there
view_there_sounds n c h sound = view_from_sounds h.inside.refs.me n (host_of h.inside.refs n) c h sound

settled_at_sounds : (n c : ℕ) → Sounds (settled_at n c)
unfolding settled_at
settled_at_sounds n c h sound = sounds_if (is_in c h.inside.refs.noticed) (break_name n) (view_there n c) (break_name_sounds n) (view_there_sounds n c) h sound

pub arrive_elsewhere_sounds : (x : Subject) (c : ℕ) → Sounds (arrive_elsewhere x c)
unfolding arrive_elsewhere
arrive_elsewhere_sounds x c = sounds_then (learn_subject x) (λ n. settled_at n c) (learn_subject_sounds x) (λ n. settled_at_sounds n c)

shorten_to_sounds : (i : ℕ) (p : Place) → Sounds (shorten_to i p)
unfolding shorten_to
shorten_to_sounds i (FarObject v p) = send_sounds v _
shorten_to_sounds i other = sounds_give tt

shorten_value_sounds : (i : ℕ) (v : Value) → Sounds (shorten_value i v)
unfolding shorten_value
shorten_value_sounds i v h sound = shorten_to_sounds i (place_of h.inside.refs (followed h.inside.refs v)) h sound

pub arrive_shorten_sounds : (x : Incoming) (i : ℕ) → Sounds (arrive_shorten x i)
unfolding arrive_shorten
arrive_shorten_sounds x i = sounds_then (learn_name x) (λ r. shorten_value i (value_at r)) (learn_name_sounds x) (λ r. shorten_value_sounds i (value_at r))

-- ---- a link that is cut

mark_sounds : (v : ℕ) → Sounds (mark v)
unfolding mark
mark_sounds v h sound =
    (tt, leaves_inside h.inside sound _ (record { heap = refl; refs = record { known = sound.refs.known; queue = sound.refs.queue; partition = refl; cycle = refl }; heavy = refl; key = refl }))

each_sounds : (f : ℕ → Act (Unit {0})) (ns : List ℕ) → ((n : ℕ) → Sounds (f n)) → Sounds (break_each f ns)
unfolding break_each
each_sounds f [] a = sounds_give tt
each_sounds f (n ∷ ns) a = sounds_and (f n) (break_each f ns) (a n) (each_sounds f ns a)

notice_all_sounds : (v : ℕ) → Sounds (notice_all v)
unfolding notice_all
notice_all_sounds v =
    sounds_and (mark v) _ (mark_sounds v)
    (sounds_and (λ h. break_each break_hosted (hosted v 0 h.inside.refs.known) h) (λ h. break_each break_at (unopened v h.gifts) h)
    (λ h sound. each_sounds break_hosted (hosted v 0 h.inside.refs.known) break_hosted_sounds h sound)
    (λ h sound. each_sounds break_at (unopened v h.gifts) break_at_sounds h sound))

pub notices : (h : Host) (v : ℕ) → IsSound h.inside → EndsSound h.inside (notice v h)
unfolding notice
notices h v sound = sounds_if (is_in v h.inside.refs.noticed) (give tt) (notice_all v) (sounds_give tt) (notice_all_sounds v) h sound
