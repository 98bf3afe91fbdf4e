-- Every note arrives as in the machine.
use Rattle.std.proofs.Common.{ℕ, Bool, List, None, map}
use Rattle.ev_base.specs.declared.values.Value.{Value as Held}
use Rattle.def_machine.specs.Arrive as arrive
use Rattle.def_machine.specs.Refs as refs
use Rattle.def_machine.specs.State as machine
use Rattle.def_machine.specs.State.{Vat}
use Rattle.def_machine.specs.Values.{Words, Local, Mess, Prom}
use Rattle.ev_pass.specs.Notes.{key_of}
use Rattle.ev_pass.specs.Reading.{Lines, Reads, names_under, reference_by}
use Rattle.ev_refs.specs.Reading.{value_by}
use Rattle.ev_settle.specs.Performing.{Tells}
use Rattle.ev_settle.specs.Settling.{settle}
use Rattle.ev_settle.proofs.Performs.{settles_is}
use Rattle.ev_arrive.specs.Acts.{◌>>=◌, learn_name, learn_subject, value_at, within}
use Rattle.ev_arrive.specs.Bringing.{Part, Parts, all_parts, part}
use Rattle.ev_arrive.specs.Delivering.{deliver, learn_message}
use Rattle.ev_arrive.specs.Hearing.{Name, TellsLists, heard_by, part_by, parts_by}
use Rattle.ev_arrive.specs.Learning.{arrive_deliver, arrive_settled, learn, learn_each}
use Rattle.ev_arrive.specs.Noting as noting
use Rattle.ev_arrive.specs.Reading.{Stands, carried_by, host_at, incoming_by, subject_by, with_gifts}
use Rattle.ev_arrive.specs.declared.brought.Heard.{Heard}
use Rattle.ev_arrive.specs.declared.brought.Heard.TheVariants.{Deliver, Open, Ask, Settled, Elsewhere, Shorten}
use Rattle.ev_arrive.specs.declared.host.Carried.{Carried}
use Rattle.ev_arrive.specs.declared.host.Host.{Host}
use Rattle.ev_arrive.specs.declared.host.Incoming.{Incoming}
use Rattle.ev_arrive.specs.declared.host.Subject.{Subject}
use Rattle.ev_arrive.proofs.Delivers.{delivers_is, message_is}
use Rattle.ev_arrive.proofs.Hears.{part_is, parts_are}
use Rattle.ev_arrive.proofs.Opens.{asks_is, opens_is}
use Rattle.ev_arrive.proofs.Stands.{both_then, inside_is, name_is}
use Rattle.ev_arrive.proofs.Viewings.{elsewhere_is, shortens_is, subject_is}

module _ (ts : List Words) (key : List ℕ) (line : Lines) (s : Vat Local) (tells : Tells ts line) (lists : TellsLists ts line) (n : Local) where
  abbrev at : Host → Vat Local
  at h = host_at ts line h s

  pub deliver_is : (from : ℕ) (m : Carried) (asks : Bool) (x : Incoming) (verb : Words) (ps : Parts) (h : Host) → Reads ts key h.inside
      → Stands ts key line s (λ u. u) (arrive_deliver from m asks x verb ps h) (arrive.arrive_deliver (names_under key) from (record { message = carried_by n from m; asks = asks; answer = None }) (incoming_by n x) verb (parts_by ts from n ps) (at h))
  unfolding arrive_deliver arrive.arrive_deliver ◌>>=◌ machine.◌>>=◌
  deliver_is from m asks x verb ps h good =
      both_then ts key line s Mess (λ u. u) (learn_message m h) _ _ _ (message_is ts key line s tells n from m h good)
      (λ id j e first. both_then ts key line s (map (value_by ts)) (λ u. u) (learn_each (learn 100 from) ps j) _ _ _ (parts_are ts key line s tells lists n 100 from ps j first)
      (λ args k f second. both_then ts key line s reference_by (λ u. u) (learn_name x k) _ (λ r. deliver from id asks (value_at r) verb args) _ (name_is ts key line s n x k second)
      (λ r l g third. delivers_is ts key line s tells from id asks r verb args l third)))

  settle_here : (p : ℕ) (v : Held) (h : Host) → Reads ts key h.inside → Stands ts key line s (λ u. u) (within (settle p v) h) (refs.settle (names_under key) (Prom p) (value_by ts v) (at h))
  settle_here p v h good = inside_is ts key line s (λ u. u) (settle p v) h _ (settles_is ts key line (with_gifts h.gifts s) tells p v h.inside good)

  pub settled_is : (from : ℕ) (x : Subject) (b : Part) (h : Host) → Reads ts key h.inside
      → Stands ts key line s (λ u. u) (arrive_settled from x b h) (arrive.arrive_settled (names_under key) from (subject_by n x) (part_by ts from n b) (at h))
  unfolding arrive_settled arrive.arrive_settled ◌>>=◌ machine.◌>>=◌
  settled_is from x b h good =
      both_then ts key line s Prom (λ u. u) (learn_subject x h) _ _ _ (subject_is ts key line s n x h good)
      (λ p j e first. both_then ts key line s (value_by ts) (λ u. u) (learn 100 from b j) _ _ _ (part_is ts key line s tells lists n 100 from b j first)
      (λ v k f second. settle_here p v k second))

  pub arrives_is : (x : Name) (c from : ℕ) (note : Heard) (h : Host) → Reads ts key h.inside
      → Stands ts key line s (λ u. u) (noting.arrive from note h) (arrive.arrive (names_under key) from (heard_by ts n x c from note) (at h))
  unfolding noting.arrive arrive.arrive
  arrives_is x c from (Deliver m asks t verb args) h good = deliver_is from m asks t verb (all_parts args.items) h good
  arrives_is x c from (Open i t) h good = opens_is ts key line s tells from i n t h good
  arrives_is x c from (Ask p i) h good = asks_is ts key line s tells from p i h good
  arrives_is x c from (Settled t y) h good = settled_is from t (part y) h good
  arrives_is x c from (Elsewhere t d) h good = elsewhere_is ts key line s tells n t d h good
  arrives_is x c from (Shorten t i) h good = shortens_is ts key line s n t (key_of i) h good
