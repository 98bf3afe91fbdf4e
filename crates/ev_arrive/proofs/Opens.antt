-- A gift is opened, or asked for, as in the machine.
use Rattle.std.proofs.Common.{◌≡◌, ◌∙◌, ℕ, Bool, true, false, List, Option, Some, None, map, refl, sym, ap, subst}
use Rattle.std.specs.Prelude.{codes, if◌then◌else◌, option_map, slice_get}
use Rattle.ev_base.specs.declared.values.Value.{Value as Held}
use Rattle.ev_base.specs.declared.values.Value.TheVariants as held
use Rattle.ev_intro.specs.Gift.{find}
use Rattle.ev_intro.specs.Word.{word}
use Rattle.def_machine.specs.Arrive as arrive
use Rattle.def_machine.specs.Arrive.{gift_at}
use Rattle.def_machine.specs.Refs as refs
use Rattle.def_machine.specs.State as machine
use Rattle.def_machine.specs.State.{Vat, Done, GiftEntry, ToTell, alter, is_in}
use Rattle.def_machine.specs.Values.{Words, Value, Broken, Local, Prom, Ref, key as gift_key}
use Rattle.ev_pass.specs.Delivering.{inform}
use Rattle.ev_pass.specs.Acts.{to_tell}
use Rattle.ev_pass.specs.Reading.{Lines, Reads, StandsFor, names_under, reference_by}
use Rattle.ev_pass.specs.declared.note.Reference.{Reference}
use Rattle.ev_pass.specs.declared.note.Reference.TheVariants as reference
use Rattle.ev_pass.proofs.Delivers.{informs}
use Rattle.ev_pass.proofs.Stands.{to_tell_is}
use Rattle.ev_refs.specs.Reading.{value_by, known_by, knowns_by, standing_by}
use Rattle.ev_refs.specs.declared.known.Known.{Known as Entry}
use Rattle.ev_refs.specs.declared.known.Standing.{Standing}
use Rattle.ev_refs.specs.declared.known.Standing.TheVariants.{Unsettled, WaitsOn, Viewed, Settled}
use Rattle.ev_refs.proofs.Machine.{entry_is}
use Rattle.ev_settle.specs.Performing.{Tells}
use Rattle.ev_settle.specs.Resolving.{resolve}
use Rattle.ev_settle.specs.Settling.{settle}
use Rattle.ev_settle.proofs.Performs.{settles_is}
use Rattle.ev_settle.proofs.Sends.{resolves_is}
use Rattle.ev_arrive.specs.Acts.{◌>>=◌, ◌>>◌, give, value_at, within}
use Rattle.ev_arrive.specs.Arriving.{arrive_open, break_unless_opened, break_orphan, tell_by, tell_asker, arrive_ask}
use Rattle.ev_arrive.specs.Breaking.{standing_found, standing_now, break_name, break_by, break_at}
use Rattle.ev_arrive.specs.Hosting.{have_gift, is_opened, open_gift, opened_in}
use Rattle.ev_arrive.specs.Reading.{Stands, gift_by, host_at, incoming_by, with_gifts}
use Rattle.ev_arrive.specs.declared.host.Host.{Host}
use Rattle.ev_arrive.specs.declared.host.Incoming.{Incoming}
use Rattle.ev_arrive.proofs.Gifting.{Alike, alike}
use Rattle.ev_arrive.proofs.Stands.{both_then, gives, inside_is, name_is, have_is, open_is}

pub value_is : (ts : List Words) (r : Reference) → value_by ts (value_at r) ≡ Ref (reference_by r)
value_is ts (reference.Object i) = refl
value_is ts (reference.Promise n) = refl
value_is ts (reference.Far h p) = refl

module _ (ts : List Words) (key : List ℕ) (line : Lines) (s : Vat Local) (tells : Tells ts line) where
  abbrev at : Host → Vat Local
  at h = host_at ts line h s

  resolve_is : (n : ℕ) (x : Held) (h : Host) → Reads ts key h.inside → Stands ts key line s (λ u. u) (within (resolve n x) h) (refs.resolve (names_under key) (Prom n) (value_by ts x) (at h))
  resolve_is n x h good = inside_is ts key line s (λ u. u) (resolve n x) h _ (resolves_is ts key line (with_gifts h.gifts s) tells n x h.inside good)

  pub opens_is : (from i : ℕ) (n : Local) (x : Incoming) (h : Host) → Reads ts key h.inside
      → Stands ts key line s (λ u. u) (arrive_open from i x h) (arrive.arrive_open (names_under key) from (gift_key from i) (incoming_by n x) (at h))
  unfolding arrive_open arrive.arrive_open ◌>>=◌ ◌>>◌ machine.◌>>=◌ machine.◌>>◌
  opens_is from i n x h good =
      both_then ts key line s reference_by (λ u. u) _ _ _ _ (name_is ts key line s n x h good)
      (λ y j e first. both_then ts key line s Prom (λ u. u) (have_gift from i j) _ _ _ (have_is ts key line s from i j first)
      (λ m k f second. both_then ts key line s (λ u. u) (λ u. u) (open_gift from i k) _ _ _ (open_is ts key line s from i k second)
      (λ u l g last. subst (λ (v : Value Local). Stands ts key line s (λ u. u) (within (resolve m (value_at y)) l) (refs.resolve (names_under key) (Prom m) v (at l))) (value_is ts y) (resolve_is m (value_at y) l last))))

  -- ---- a gift that is asked for

  entry_stands : (o : Option Entry) (n : ℕ) → standing_by ts (standing_found o) ≡ refs.standing_in (option_map (known_by ts n) o)
  unfolding refs.standing_in
  entry_stands (Some k) n = refl
  entry_stands None n = refl

  pub standing_is : (n : ℕ) (h : Host) → standing_by ts (standing_now h.inside.refs n) ≡ refs.standing_of (names_under key) (knowns_by ts 0 h.inside.refs.known) (Prom n)
  unfolding standing_now refs.standing_of
  standing_is n h = entry_stands (slice_get h.inside.refs.known n) n ∙ ap refs.standing_in (sym (entry_is (word key) ts h.inside.refs.known n))

  pub broken_is : (n : ℕ) (h : Host) → Reads ts key h.inside → Stands ts key line s (λ u. u) (break_name n h) (refs.settle (names_under key) (Prom n) (Broken (codes "partition")) (at h))
  unfolding break_name
  broken_is n h good =
      inside_is ts key line s (λ u. u) (settle n (held.Broken h.inside.refs.partition)) h _
      (subst (λ (p : Words). StandsFor ts key line (with_gifts h.gifts s) (λ u. u) (settle n (held.Broken h.inside.refs.partition) h.inside) (refs.settle (names_under key) (Prom n) (Broken p) (at h))) good.known.0
      (settles_is ts key line (with_gifts h.gifts s) tells n (held.Broken h.inside.refs.partition) h.inside good))

  breaks_by : (n : ℕ) (t : Standing) (h : Host) → Reads ts key h.inside → Stands ts key line s (λ u. u) (break_by n t h) (arrive.break_at (names_under key) (Prom n) (codes "partition") (standing_by ts t) (at h))
  unfolding break_by arrive.break_at
  breaks_by n (Settled v) h good = gives ts key line s (λ u. u) tt h good
  breaks_by n Unsettled h good = broken_is n h good
  breaks_by n (WaitsOn q) h good = broken_is n h good
  breaks_by n (Viewed q) h good = broken_is n h good

  -- a name that did not settle breaks, as it stands now
  pub breaks_is : (n : ℕ) (h : Host) → Reads ts key h.inside
      → Stands ts key line s (λ u. u) (break_at n h) (arrive.break_at (names_under key) (Prom n) (codes "partition") (refs.standing_of (names_under key) (knowns_by ts 0 h.inside.refs.known) (Prom n)) (at h))
  unfolding break_at
  breaks_is n h good =
      subst (λ (t : machine.Standing Local). Stands ts key line s (λ u. u) (break_by n (standing_now h.inside.refs n) h) (arrive.break_at (names_under key) (Prom n) (codes "partition") t (at h))) (standing_is n h)
      (breaks_by n (standing_now h.inside.refs n) h good)

  pub unless_opened : (n : ℕ) (b : Bool) (h : Host) → Reads ts key h.inside → Stands ts key line s (λ u. u) (break_unless_opened n b h) (arrive.break_unopened (names_under key) (Prom n) b (at h))
  unfolding break_unless_opened arrive.break_unopened machine.look machine.◌>>=◌ machine.and_then
  unless_opened n true h good = gives ts key line s (λ u. u) tt h good
  unless_opened n false h good = breaks_is n h good

  pub opened_like : (o : Option (ℕ × Bool)) (q : Option (GiftEntry Local)) → Alike o q → opened_in o ≡ arrive.opened_in q
  unfolding arrive.opened_in
  opened_like (Some x) (Some g) like = sym like.1
  opened_like None None like = refl
  opened_like None (Some g) like = elim like [ ]
  opened_like (Some x) None like = elim like [ ]

  orphan_by : (p i n : ℕ) (gone : Bool) (h : Host) → Reads ts key h.inside
      → Stands ts key line s (λ u. u) ((if gone then break_unless_opened n (is_opened p i h.gifts) else give tt) h)
      ((if gone then arrive.break_unopened (names_under key) (Prom n) (arrive.opened_in (gift_at p (gift_key p i) (map gift_by h.gifts))) else machine.give tt) (at h))
  unfolding is_opened
  orphan_by p i n true h good =
      subst (λ (b : Bool). Stands ts key line s (λ u. u) (break_unless_opened n (is_opened p i h.gifts) h) (arrive.break_unopened (names_under key) (Prom n) b (at h)))
      (opened_like (find p i h.gifts) (gift_at p (gift_key p i) (map gift_by h.gifts)) (alike p i h.gifts)) (unless_opened n (is_opened p i h.gifts) h good)
  orphan_by p i n false h good = gives ts key line s (λ u. u) tt h good

  orphan_is : (p i n : ℕ) (h : Host) → Reads ts key h.inside → Stands ts key line s (λ u. u) (break_orphan p i n h) (arrive.break_orphan (names_under key) p (gift_key p i) (Prom n) (at h))
  unfolding break_orphan arrive.break_orphan machine.look machine.◌>>=◌ machine.and_then
  orphan_is p i n h good = orphan_by p i n (is_in p h.inside.refs.noticed) h good

  to_tell_here : (n w : ℕ) (h : Host) → Reads ts key h.inside → Stands ts key line s (λ u. u) (within (to_tell w n) h) (alter (names_under key) (ToTell w) (Prom n) (at h))
  to_tell_here n w h good = inside_is ts key line s (λ u. u) (to_tell w n) h _ (to_tell_is ts key line (with_gifts h.gifts s) w n h.inside good)

  told_by : (n w : ℕ) (t : Standing) (h : Host) → Reads ts key h.inside → Stands ts key line s (λ u. u) (tell_by n w t h) (arrive.tell_asker (names_under key) (Prom n) w (standing_by ts t) (at h))
  unfolding tell_by arrive.tell_asker
  told_by n w (Settled v) h good = inside_is ts key line s (λ u. u) (inform n w) h _ (informs ts key line (with_gifts h.gifts s) n w h.inside good)
  told_by n w Unsettled h good = to_tell_here n w h good
  told_by n w (WaitsOn q) h good = to_tell_here n w h good
  told_by n w (Viewed q) h good = to_tell_here n w h good

  told_is : (n w : ℕ) (h : Host) → Reads ts key h.inside
      → Stands ts key line s (λ u. u) (tell_asker n w h) (arrive.tell_asker (names_under key) (Prom n) w (refs.standing_of (names_under key) (knowns_by ts 0 h.inside.refs.known) (Prom n)) (at h))
  unfolding tell_asker
  told_is n w h good =
      subst (λ (t : machine.Standing Local). Stands ts key line s (λ u. u) (tell_by n w (standing_now h.inside.refs n) h) (arrive.tell_asker (names_under key) (Prom n) w t (at h))) (standing_is n h)
      (told_by n w (standing_now h.inside.refs n) h good)

  pub asks_is : (w p i : ℕ) (h : Host) → Reads ts key h.inside → Stands ts key line s (λ u. u) (arrive_ask w p i h) (arrive.arrive_ask (names_under key) w p (gift_key p i) (at h))
  unfolding arrive_ask arrive.arrive_ask ◌>>=◌ ◌>>◌ machine.◌>>=◌ machine.◌>>◌ machine.look arrive.tell_asker machine.and_then
  asks_is w p i h good =
      both_then ts key line s Prom (λ u. u) (have_gift p i h) _ _ _ (have_is ts key line s p i h good)
      (λ n j e first. both_then ts key line s (λ u. u) (λ u. u) (break_orphan p i n j) _ _ _ (orphan_is p i n j first)
      (λ u k f second. told_is n w k second))
