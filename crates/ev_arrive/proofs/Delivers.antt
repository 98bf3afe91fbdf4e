-- A message that arrives and a gift that is heard of, in the code and as in the machine.
use Rattle.std.proofs.Common.{◌≡◌, ◌∙◌, ℕ, Bool, true, false, List, Some, None, map, sym, ap, subst}
use Rattle.std.specs.Prelude.{Result, codes, if◌then◌else◌}
use Rattle.ev_base.specs.declared.values.Value.{Value as Held}
use Rattle.def_machine.specs.Arrive as arrive
use Rattle.def_machine.specs.Refs as refs
use Rattle.def_machine.specs.State as machine
use Rattle.def_machine.specs.State.{Vat, Done, ToTell, alter, is_in}
use Rattle.def_machine.specs.Values.{Words, Value, Local, Mess, Prom, Ref, Broken, IsAnswer, key as gift_key}
use Rattle.ev_pass.specs.Acts.{send_out, to_tell}
use Rattle.ev_pass.specs.Notes.{Ask}
use Rattle.ev_pass.specs.Reading.{Lines, Reads, names_under, reference_by}
use Rattle.ev_pass.specs.declared.interior.Stop.{Stop}
use Rattle.ev_pass.specs.declared.note.Reference.{Reference}
use Rattle.ev_pass.proofs.Stands.{sent_out_is, to_tell_is}
use Rattle.ev_refs.specs.Reading.{message_by, value_by}
use Rattle.ev_refs.specs.declared.known.Message.{Message}
use Rattle.ev_settle.specs.Changes.{come, mail}
use Rattle.ev_settle.specs.Performing.{Tells}
use Rattle.ev_settle.specs.Settling.{forward}
use Rattle.ev_settle.proofs.Changing.{come_is}
use Rattle.ev_settle.proofs.Performs.{forwards_is}
use Rattle.ev_settle.proofs.Sends.{mail_is}
use Rattle.ev_arrive.specs.Acts.{Gives, Out, ◌>>=◌, ◌>>◌, value_at, within}
use Rattle.ev_arrive.specs.Breaking.{break_name}
use Rattle.ev_arrive.specs.Delivering.{ask_for, deliver, learn_gift, learn_message, send_on_asked}
use Rattle.ev_arrive.specs.Reading.{Stands, carried_by, host_at, with_gifts}
use Rattle.ev_arrive.specs.declared.host.Carried.{Carried}
use Rattle.ev_arrive.specs.declared.host.Carried.TheVariants.{Back, New}
use Rattle.ev_arrive.specs.declared.host.Host.{Host}
use Rattle.ev_arrive.proofs.Opens.{broken_is, value_is}
use Rattle.ev_arrive.proofs.Stands.{both_then, gives, inside_is, gift_comes}

module _ (p a i n : ℕ) (k u : Host) (r : Result (Unit {0}) Stop) (b : Bool) (is : b ≡ is_in a k.inside.refs.noticed) where
  by_notice : (x : Bool) → b ≡ x → ask_for p a i n k ≡ (if x then break_name n else within (send_out a (Ask p (gift_key p i) n))) k
  unfolding ask_for
  by_notice x e = ap (λ (y : Bool). (if y then break_name n else within (send_out a (Ask p (gift_key p i) n))) k) (sym is ∙ e)

  pub gone : b ≡ true → Gives r u (break_name n k) → Gives r u (ask_for p a i n k)
  gone e g = subst (λ (o : Out (Unit {0})). Gives r u o) (sym (by_notice true e)) g

  pub not_gone : b ≡ false → Gives r u (within (send_out a (Ask p (gift_key p i) n)) k) → Gives r u (ask_for p a i n k)
  not_gone e g = subst (λ (o : Out (Unit {0})). Gives r u o) (sym (by_notice false e)) g

module _ (ts : List Words) (key : List ℕ) (line : Lines) (s : Vat Local) where
  abbrev at : Host → Vat Local
  at h = host_at ts line h s

  module _ (tells : Tells ts line) where
    pub message_is : (n : Local) (v : ℕ) (x : Carried) (h : Host) → Reads ts key h.inside → Stands ts key line s Mess (learn_message x h) (arrive.learn_message (names_under key) (carried_by n v x) (at h))
    unfolding learn_message arrive.learn_message
    message_is n v (Back m) h good = gives ts key line s Mess m h good
    message_is n v New h good = inside_is ts key line s Mess mail h _ (mail_is ts key line (with_gifts h.gifts s) tells n h.inside good)

    forward_here : (m : Message) (h : Host) → Reads ts key h.inside → Stands ts key line s (λ u. u) (within (forward m) h) (refs.send_on (names_under key) (refs.settle (names_under key)) (message_by ts m) (at h))
    forward_here m h good = inside_is ts key line s (λ u. u) (forward m) h _ (forwards_is ts key line (with_gifts h.gifts s) tells m h.inside good)

    asked_here : (from id : ℕ) (x : Held) (verb : Words) (args : List Held) (h : Host) → Reads ts key h.inside
        → Stands ts key line s (λ u. u) (send_on_asked from id x verb args h)
        (machine.and_then (machine.come (names_under key) (IsAnswer h.inside.refs.me (Mess id)) h.inside.refs.me (at h)) (λ a. machine.◌>>◌ (alter (names_under key) (ToTell from) a)
        (refs.send_on (names_under key) (refs.settle (names_under key)) (record { id = Mess id; target = value_by ts x; verb = verb; args = map (value_by ts) args; answer = Some a }))))
    unfolding send_on_asked ◌>>=◌ ◌>>◌ machine.◌>>◌
    asked_here from id x verb args h good =
        both_then ts key line s Prom (λ u. u) (within (come h.inside.refs.me) h) _ _ _ (inside_is ts key line s Prom (come h.inside.refs.me) h _ (come_is ts key line (with_gifts h.gifts s) h.inside.refs.me (Mess id) h.inside good))
        (λ a j e first. both_then ts key line s (λ u. u) (λ u. u) (within (to_tell from a) j) _ _ _ (inside_is ts key line s (λ u. u) (to_tell from a) j _ (to_tell_is ts key line (with_gifts j.gifts s) from a j.inside first))
        (λ u k f second. forward_here (record { id = id; target = x; verb = verb; args = args; answer = Some a }) k second))

    asks_here : (from id : ℕ) (r : Reference) (verb : Words) (args : List Held) (h : Host) → Reads ts key h.inside
        → Stands ts key line s (λ u. u) (send_on_asked from id (value_at r) verb args h) (arrive.send_on_asked (names_under key) from (Mess id) (reference_by r) verb (map (value_by ts) args) (at h))
    unfolding arrive.send_on_asked machine.look machine.◌>>=◌ machine.◌>>◌ machine.and_then
    asks_here from id r verb args h good =
        subst (λ (x : Value Local). Stands ts key line s (λ u. u) (send_on_asked from id (value_at r) verb args h)
        (machine.and_then (machine.come (names_under key) (IsAnswer h.inside.refs.me (Mess id)) h.inside.refs.me (at h)) (λ a. machine.◌>>◌ (alter (names_under key) (ToTell from) a)
        (refs.send_on (names_under key) (refs.settle (names_under key)) (record { id = Mess id; target = x; verb = verb; args = map (value_by ts) args; answer = Some a })))))
        (value_is ts r) (asked_here from id (value_at r) verb args h good)

    pub delivers_is : (from id : ℕ) (asks : Bool) (r : Reference) (verb : Words) (args : List Held) (h : Host) → Reads ts key h.inside
        → Stands ts key line s (λ u. u) (deliver from id asks (value_at r) verb args h)
        ((if asks then arrive.send_on_asked (names_under key) from (Mess id) (reference_by r) verb (map (value_by ts) args)
        else refs.send_on (names_under key) (refs.settle (names_under key)) (record { id = Mess id; target = Ref (reference_by r); verb = verb; args = map (value_by ts) args; answer = None })) (at h))
    unfolding deliver
    delivers_is from id true r verb args h good = asks_here from id r verb args h good
    delivers_is from id false r verb args h good =
        subst (λ (x : Value Local). Stands ts key line s (λ u. u) (within (forward (record { id = id; target = value_at r; verb = verb; args = args; answer = None })) h)
        (refs.send_on (names_under key) (refs.settle (names_under key)) (record { id = Mess id; target = x; verb = verb; args = map (value_by ts) args; answer = None }) (at h)))
        (value_is ts r) (forward_here (record { id = id; target = value_at r; verb = verb; args = args; answer = None }) h good)

    asked_by : (p a i n : ℕ) (noticed : Bool) (h : Host) → Reads ts key h.inside
        → Stands ts key line s (λ u. u) ((if noticed then break_name n else within (send_out a (Ask p (gift_key p i) n))) h)
        ((if noticed then refs.settle (names_under key) (Prom n) (Broken (codes "partition")) else machine.send_out a (machine.Ask p (gift_key p i) (Prom n))) (at h))
    asked_by p a i n true h good = broken_is ts key line s tells n h good
    asked_by p a i n false h good = inside_is ts key line s (λ u. u) (send_out a (Ask p (gift_key p i) n)) h _ (sent_out_is ts key line (with_gifts h.gifts s) a (Ask p (gift_key p i) n) h.inside good)

    asked_for : (p a i n : ℕ) (h : Host) → Reads ts key h.inside → Stands ts key line s (λ u. u) (ask_for p a i n h) (arrive.ask_for (names_under key) p a (gift_key p i) (Prom n) (at h))
    unfolding ask_for arrive.ask_for machine.look machine.◌>>=◌ machine.and_then
    asked_for p a i n h good = asked_by p a i n (is_in a h.inside.refs.noticed) h good

    abbrev ref_of : ℕ → Value Local
    ref_of n = Ref (Prom n)

    pub gift_is : (p a i : ℕ) (h : Host) → Reads ts key h.inside → Stands ts key line s ref_of (learn_gift p a i h) (arrive.learn_gift (names_under key) p a (gift_key p i) (at h))
    unfolding learn_gift arrive.learn_gift ◌>>=◌ ◌>>◌ machine.◌>>=◌ machine.◌>>◌
    gift_is p a i h good =
        both_then ts key line s Prom ref_of (within (come a) h) _ _ _ (gift_comes ts key line s a a (gift_key p i) h good)
        (λ n j e first. both_then ts key line s (λ u. u) ref_of (ask_for p a i n j) _ _ _ (asked_for p a i n j first)
        (λ u k f second. gives ts key line s ref_of n k second))
