-- A link is noticed as cut, as in the machine.
use Rattle.std.proofs.Common.{◌==◌, ◌&&◌, ◌++◌, not, ℕ, suc, Bool, true, false, List, [], ◌∷◌, map, refl, subst}
use Rattle.std.specs.Prelude.{codes, if◌then◌else◌}
use Rattle.ev_intro.specs.Gift.{Gifts, unopened}
use Rattle.def_machine.specs.Arrive as arrive
use Rattle.def_machine.specs.Refs as refs
use Rattle.def_machine.specs.State as machine
use Rattle.def_machine.specs.State.{Vat, Done, is_in}
use Rattle.def_machine.specs.Values.{Words, Local, Prom}
use Rattle.ev_pass.specs.Reading.{Lines, Reads, names_under}
use Rattle.ev_refs.specs.Reading.{knowns_by, standing_by}
use Rattle.ev_refs.specs.declared.known.Known.{Known}
use Rattle.ev_refs.specs.declared.known.Standing.{Standing}
use Rattle.ev_refs.specs.declared.known.Standing.TheVariants.{Unsettled, WaitsOn, Viewed, Settled}
use Rattle.ev_settle.specs.Performing.{Tells}
use Rattle.ev_settle.proofs.Changing.{reads_still}
use Rattle.ev_arrive.specs.Acts.{◌>>◌, give}
use Rattle.ev_arrive.specs.Breaking.{break_at, break_hosted, break_hosted_by, standing_now}
use Rattle.ev_arrive.specs.Noticing.{break_each, hosted, mark, notice, notice_all}
use Rattle.ev_arrive.specs.Reading.{Stands, gift_by, host_at, with_gifts}
use Rattle.ev_arrive.specs.declared.host.Host.{Host}
use Rattle.ev_arrive.proofs.Gifting.{same_eq}
use Rattle.ev_arrive.proofs.Opens.{standing_is, broken_is, breaks_is}
use Rattle.ev_arrive.proofs.Stands.{both_then, gives}

module _ (ts : List Words) (key : List ℕ) (line : Lines) (s : Vat Local) (tells : Tells ts line) where
  abbrev at : Host → Vat Local
  at h = host_at ts line h s

  abbrev stands_at : Host → ℕ → machine.Standing Local
  stands_at h n = refs.standing_of (names_under key) (knowns_by ts 0 h.inside.refs.known) (Prom n)

  marked : (w : ℕ) (h : Host) → Reads ts key h.inside → Stands ts key line s (λ u. u) (mark w h) (machine.mark w (at h))
  unfolding mark machine.mark
  marked w h good = (refl, reads_still ts key line (with_gifts h.gifts s) h.inside (record h.inside.refs { noticed = h.inside.refs.noticed ++ w ∷ [] }) refl refl good)

  -- ---- the names of that host

  hosted_by : (w n : ℕ) (t : Standing) (h : Host) → Reads ts key h.inside
      → Stands ts key line s (λ u. u) (break_hosted_by n t h) (arrive.break_hosted (names_under key) w (Prom n) (codes "partition") (standing_by ts t) (at h))
  unfolding break_hosted_by arrive.break_hosted
  hosted_by w n Unsettled h good = broken_is ts key line s tells n h good
  hosted_by w n (WaitsOn q) h good = broken_is ts key line s tells n h good
  hosted_by w n (Viewed q) h good = gives ts key line s (λ u. u) tt h good
  hosted_by w n (Settled v) h good = gives ts key line s (λ u. u) tt h good

  hosted_is : (w n : ℕ) (h : Host) → Reads ts key h.inside
      → Stands ts key line s (λ u. u) (break_hosted n h) (arrive.break_hosted (names_under key) w (Prom n) (codes "partition") (stands_at h n) (at h))
  unfolding break_hosted
  hosted_is w n h good =
      subst (λ (t : machine.Standing Local). Stands ts key line s (λ u. u) (break_hosted_by n (standing_now h.inside.refs n) h) (arrive.break_hosted (names_under key) w (Prom n) (codes "partition") t (at h)))
      (standing_is ts key line s tells n h) (hosted_by w n (standing_now h.inside.refs n) h good)

  abbrev names_on : ℕ → ℕ → List Known → machine.Act Local (Unit {0})
  names_on w n ks = machine.each (arrive.notice_name (names_under key) w) (knowns_by ts n ks)

  name_by : (w n : ℕ) (ks : List Known) (b : Bool) (h : Host) → Reads ts key h.inside
      → ((j : Host) → Reads ts key j.inside → Stands ts key line s (λ u. u) (break_each break_hosted (hosted w (suc n) ks) j) (names_on w (suc n) ks (at j)))
      → Stands ts key line s (λ u. u) (break_each break_hosted (if b then n ∷ hosted w (suc n) ks else hosted w (suc n) ks) h)
      (machine.and_then ((if b then arrive.break_hosted (names_under key) w (Prom n) (codes "partition") (stands_at h n) else machine.give tt) (at h)) (λ u. names_on w (suc n) ks))
  unfolding break_each ◌>>◌ machine.and_then machine.give
  name_by w n ks true h good on = both_then ts key line s (λ u. u) (λ u. u) (break_hosted n h) _ _ _ (hosted_is w n h good) (λ u j e next. on j next)
  name_by w n ks false h good on = on h good

  names_is : (w n : ℕ) (ks : List Known) (h : Host) → Reads ts key h.inside → Stands ts key line s (λ u. u) (break_each break_hosted (hosted w n ks) h) (names_on w n ks (at h))
  unfolding break_each knowns_by machine.each machine.◌>>◌ arrive.notice_name machine.look machine.◌>>=◌ machine.and_then
  names_is w n [] h good = gives ts key line s (λ u. u) tt h good
  names_is w n (k ∷ ks) h good = name_by w n ks (k.host == w) h good (λ j next. names_is w (suc n) ks j next)

  -- ---- the gifts of that provider

  abbrev gifts_on : ℕ → Gifts → machine.Act Local (Unit {0})
  gifts_on w gs = machine.each (arrive.notice_gift (names_under key) w) (map gift_by gs)

  gift_by_flags : (w n : ℕ) (gs : Gifts) (mine opened : Bool) (h : Host) → Reads ts key h.inside
      → ((j : Host) → Reads ts key j.inside → Stands ts key line s (λ u. u) (break_each break_at (unopened w gs) j) (gifts_on w gs (at j)))
      → Stands ts key line s (λ u. u) (break_each break_at (if mine && not opened then n ∷ unopened w gs else unopened w gs) h)
      (machine.and_then ((if mine then arrive.break_unopened (names_under key) (Prom n) opened else machine.give tt) (at h)) (λ u. gifts_on w gs))
  unfolding break_each ◌>>◌ machine.and_then machine.give arrive.break_unopened machine.look machine.◌>>=◌
  gift_by_flags w n gs true false h good on = both_then ts key line s (λ u. u) (λ u. u) (break_at n h) _ _ _ (breaks_is ts key line s tells n h good) (λ u j e next. on j next)
  gift_by_flags w n gs true true h good on = on h good
  gift_by_flags w n gs false opened h good on = on h good

  gifts_is : (w : ℕ) (gs : Gifts) (h : Host) → Reads ts key h.inside → Stands ts key line s (λ u. u) (break_each break_at (unopened w gs) h) (gifts_on w gs (at h))
  unfolding break_each machine.each machine.◌>>◌ arrive.notice_gift
  gifts_is w [] h good = gives ts key line s (λ u. u) tt h good
  gifts_is w (g ∷ gs) h good =
      subst (λ (b : Bool). Stands ts key line s (λ u. u) (break_each break_at (unopened w (g ∷ gs)) h)
      (machine.and_then ((if b then arrive.break_unopened (names_under key) (Prom g.promise) g.is_opened else machine.give tt) (at h)) (λ u. gifts_on w gs))) (same_eq w g.provider)
      (gift_by_flags w g.promise gs (w == g.provider) g.is_opened h good (λ j next. gifts_is w gs j next))

  -- ---- the notice

  all_is : (w : ℕ) (h : Host) → Reads ts key h.inside → Stands ts key line s (λ u. u) (notice_all w h) (arrive.notice_all (names_under key) w (at h))
  unfolding notice_all arrive.notice_all ◌>>◌ machine.◌>>◌ machine.◌>>=◌ machine.look machine.and_then
  all_is w h good =
      both_then ts key line s (λ u. u) (λ u. u) (mark w h) _ _ _ (marked w h good)
      (λ u j e first. both_then ts key line s (λ u. u) (λ u. u) (break_each break_hosted (hosted w 0 j.inside.refs.known) j) _ _ _ (names_is w 0 j.inside.refs.known j first)
      (λ v k f second. gifts_is w k.gifts k second))

  notice_by : (w : ℕ) (gone : Bool) (h : Host) → Reads ts key h.inside
      → Stands ts key line s (λ u. u) ((if gone then give tt else notice_all w) h) ((if gone then machine.give tt else arrive.notice_all (names_under key) w) (at h))
  notice_by w true h good = gives ts key line s (λ u. u) tt h good
  notice_by w false h good = all_is w h good

  pub notices_is : (w : ℕ) (h : Host) → Reads ts key h.inside → Stands ts key line s (λ u. u) (notice w h) (arrive.notice (names_under key) w (at h))
  unfolding notice arrive.notice machine.look machine.◌>>=◌ machine.and_then
  notices_is w h good = notice_by w (is_in w h.inside.refs.noticed) h good
