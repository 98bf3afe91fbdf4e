-- A name that settled elsewhere, and what is wanted as a gift, as in the machine.
use Rattle.std.proofs.Common.{◌≡◌, ◌∙◌, ◌==◌, ℕ, Bool, true, false, List, Option, Some, None, refl, sym, ap, subst}
use Rattle.std.specs.Prelude.{codes, if◌then◌else◌, option_map, slice_get}
use Rattle.ev_base.specs.declared.values.Value.{Value as Held}
use Rattle.ev_intro.specs.Word.{word}
use Rattle.def_machine.specs.Arrive as arrive
use Rattle.def_machine.specs.Refs as refs
use Rattle.def_machine.specs.State as machine
use Rattle.def_machine.specs.State.{Vat, Done, is_in}
use Rattle.def_machine.specs.Values.{Words, Value, Local, Prom, Ref, IsGift, Broken, key as gift_key, under}
use Rattle.def_machine.proofs.Keys.{word_key}
use Rattle.ev_pass.specs.Acts.{draw, send_out}
use Rattle.ev_pass.specs.Notes.{Noted, Ask, Open, Shorten}
use Rattle.ev_pass.specs.Reading.{Lines, Reads, names_under, note_by, reference_by}
use Rattle.ev_pass.specs.declared.note.Reference.{Reference}
use Rattle.ev_pass.specs.declared.note.Reference.TheVariants as reference
use Rattle.ev_pass.proofs.Machine.{followed_at, placed_at}
use Rattle.ev_pass.proofs.Stands.{draw_is, sent_out_is}
use Rattle.ev_refs.specs.Follow.{followed, host_found, host_of, place_of}
use Rattle.ev_refs.specs.Reading.{known_by, knowns_by, place_by, value_by}
use Rattle.ev_refs.specs.declared.follow.Place.{Place}
use Rattle.ev_refs.specs.declared.follow.Place.TheVariants.{Near, Mine, FarPromise, FarObject, Gone}
use Rattle.ev_refs.specs.declared.known.Known.{Known as Entry}
use Rattle.ev_refs.proofs.Machine.{entry_is}
use Rattle.ev_settle.specs.Changes.{come, see}
use Rattle.ev_settle.specs.Performing.{Tells}
use Rattle.ev_settle.proofs.Changing.{see_is}
use Rattle.ev_arrive.specs.Acts.{Act, ◌>>=◌, ◌>>◌, learn_name, learn_subject, value_at, within}
use Rattle.ev_arrive.specs.Breaking.{break_name}
use Rattle.ev_arrive.specs.Hosting.{have_gift}
use Rattle.ev_arrive.specs.Reading.{Stands, host_at, incoming_by, subject_by, with_gifts}
use Rattle.ev_arrive.specs.Viewing.{ask_there, gift_there, view_from, view_there, settled_at, arrive_elsewhere, shorten_to, shorten_value, arrive_shorten}
use Rattle.ev_arrive.specs.declared.host.Host.{Host}
use Rattle.ev_arrive.specs.declared.host.Incoming.{Incoming}
use Rattle.ev_arrive.specs.declared.host.Subject.{Subject}
use Rattle.ev_arrive.specs.declared.host.Subject.TheVariants as subject
use Rattle.ev_arrive.proofs.Opens.{broken_is, value_is}
use Rattle.ev_arrive.proofs.Stands.{both_then, gives, inside_is, name_is, learnt_is, gift_comes, have_is}

module _ (ts : List Words) (key : List ℕ) (line : Lines) (s : Vat Local) where
  abbrev at : Host → Vat Local
  at h = host_at ts line h s

  sent : (to : ℕ) (n : Noted) (h : Host) → Reads ts key h.inside → Stands ts key line s (λ u. u) (within (send_out to n) h) (machine.send_out to (note_by ts n) (at h))
  sent to n h good = inside_is ts key line s (λ u. u) (send_out to n) h _ (sent_out_is ts key line (with_gifts h.gifts s) to n h.inside good)

  -- ---- what is wanted as a gift

  shorten_by : (i : ℕ) (p : Place) (h : Host) → Reads ts key h.inside → Stands ts key line s (λ u. u) (shorten_to i p h) (arrive.shorten_to (names_under key) i (place_by ts p) (at h))
  unfolding shorten_to arrive.shorten_to
  shorten_by i (FarObject a p) h good = sent a (Open i (reference.Far a p)) h good
  shorten_by i Near h good = gives ts key line s (λ u. u) tt h good
  shorten_by i (Mine n) h good = gives ts key line s (λ u. u) tt h good
  shorten_by i (FarPromise a n) h good = gives ts key line s (λ u. u) tt h good
  shorten_by i (Gone t) h good = gives ts key line s (λ u. u) tt h good

  place_here : (v : Held) (h : Host) → Reads ts key h.inside
      → place_by ts (place_of h.inside.refs (followed h.inside.refs v)) ≡ refs.place (names_under key) (at h) (refs.follow (names_under key) (at h) (value_by ts v))
  place_here v h good =
      sym (placed_at ts key line (with_gifts h.gifts s) h.inside (followed h.inside.refs v))
      ∙ ap (λ (y : Value Local). refs.place (names_under key) (at h) y) (sym (followed_at ts key line (with_gifts h.gifts s) h.inside v good))

  shortens_from : (i : ℕ) (r : Reference) (h : Host) → Reads ts key h.inside
      → Stands ts key line s (λ u. u) (shorten_value i (value_at r) h) (arrive.shorten_to (names_under key) i (refs.place (names_under key) (at h) (refs.follow (names_under key) (at h) (Ref (reference_by r)))) (at h))
  unfolding shorten_value
  shortens_from i r h good =
      let place_is = place_here (value_at r) h good ∙ ap (λ (y : Value Local). refs.place (names_under key) (at h) (refs.follow (names_under key) (at h) y)) (value_is ts r) in
      subst (λ (p : refs.Place Local). Stands ts key line s (λ u. u) (shorten_value i (value_at r) h) (arrive.shorten_to (names_under key) i p (at h))) place_is
      (shorten_by i (place_of h.inside.refs (followed h.inside.refs (value_at r))) h good)

  pub shortens_is : (n : Local) (x : Incoming) (i : ℕ) (h : Host) → Reads ts key h.inside
      → Stands ts key line s (λ u. u) (arrive_shorten x i h) (arrive.arrive_shorten (names_under key) (incoming_by n x) i (at h))
  unfolding arrive_shorten arrive.arrive_shorten ◌>>=◌ machine.◌>>=◌ machine.look machine.and_then
  shortens_is n x i h good =
      both_then ts key line s reference_by (λ u. u) (learn_name x h) _ (λ r. shorten_value i (value_at r)) _ (name_is ts key line s n x h good)
      (λ r j e next. shortens_from i r j next)

  -- ---- a name that settled elsewhere

  pub subject_is : (n : Local) (x : Subject) (h : Host) → Reads ts key h.inside → Stands ts key line s Prom (learn_subject x h) (arrive.learn_name (names_under key) (subject_by n x) (at h))
  unfolding learn_subject arrive.learn_name
  subject_is n (subject.Known m) h good = gives ts key line s Prom m h good
  subject_is n (subject.New v) h good = learnt_is ts key line s n v h good

  entry_host : (me n : ℕ) (o : Option Entry) → host_found me o ≡ refs.host_in me (option_map (known_by ts n) o)
  unfolding host_found refs.host_in
  entry_host me n (Some k) = refl
  entry_host me n None = refl

  pub host_is : (n : ℕ) (h : Host) → host_of h.inside.refs n ≡ refs.host_at (names_under key) h.inside.refs.me (knowns_by ts 0 h.inside.refs.known) (Prom n)
  unfolding host_of refs.host_at
  host_is n h = entry_host h.inside.refs.me n (slice_get h.inside.refs.known n) ∙ ap (refs.host_in h.inside.refs.me) (sym (entry_is (word key) ts h.inside.refs.known n))

  asked : (p c i : ℕ) (h : Host) → Reads ts key h.inside
      → Stands ts key line s Prom (ask_there p c i h) (machine.and_then (machine.come (names_under key) (IsGift c (gift_key p i)) c (at h)) (λ g. machine.◌>>◌ (machine.send_out c (machine.Ask p (gift_key p i) g)) (machine.give g)))
  unfolding ask_there ◌>>=◌ ◌>>◌ machine.◌>>◌
  asked p c i h good =
      both_then ts key line s Prom Prom (within (come c) h) _ _ _ (gift_comes ts key line s c c (gift_key p i) h good)
      (λ g j e first. both_then ts key line s (λ u. u) Prom (within (send_out c (Ask p (gift_key p i) g)) j) _ _ _ (sent c (Ask p (gift_key p i) g) j first)
      (λ u k f second. gives ts key line s Prom g k second))

  there_by : (v p c i : ℕ) (b : Bool) (h : Host) → Reads ts key h.inside
      → Stands ts key line s Prom ((if b then have_gift p i else ask_there p c i) h)
      ((if b then arrive.have_gift (names_under key) p (gift_key p i) else machine.◌>>=◌ (machine.come (names_under key) (IsGift c (gift_key p i)) c) (λ g. machine.◌>>◌ (machine.send_out c (machine.Ask p (gift_key p i) g)) (machine.give g))) (at h))
  unfolding machine.◌>>=◌
  there_by v p c i true h good = have_is ts key line s p i h good
  there_by v p c i false h good = asked p c i h good

  there_is : (v p c i : ℕ) (h : Host) → Reads ts key h.inside → Stands ts key line s Prom (gift_there v p c i h) (arrive.gift_there (names_under key) v p c (gift_key p i) (at h))
  unfolding gift_there arrive.gift_there
  there_is v p c i h good = there_by v p c i (c == v) h good

  module _ (tells : Tells ts line) where
    -- once a word was drawn
    abbrev viewed : ℕ → ℕ → ℕ → ℕ → ℕ → Act (Unit {0})
    viewed v n a c w = within (send_out a (Shorten n c (gift_key a w))) >> (gift_there v a c w >>= (λ g. within (see n g)))

    abbrev asked_then : ℕ → ℕ → ℕ → ℕ → ℕ → machine.Act Local (Unit {0})
    asked_then v n a c x = machine.◌>>◌ (machine.send_out a (machine.Shorten (Prom n) c x)) (machine.◌>>=◌ (arrive.gift_there (names_under key) v a c x) (λ g. arrive.see (names_under key) (Prom n) g))

    viewed_is : (v n a c w : ℕ) (h : Host) → Reads ts key h.inside → Stands ts key line s (λ u. u) (viewed v n a c w h) (asked_then v n a c (gift_key a w) (at h))
    unfolding ◌>>=◌ ◌>>◌ machine.◌>>◌ machine.◌>>=◌
    viewed_is v n a c w h good =
        both_then ts key line s (λ u. u) (λ u. u) (within (send_out a (Shorten n c (gift_key a w))) h) _ _ _ (sent a (Shorten n c (gift_key a w)) h good)
        (λ u k f second. both_then ts key line s Prom (λ u. u) (gift_there v a c w k) _ _ _ (there_is v a c w k second)
        (λ g l m third. inside_is ts key line s (λ u. u) (see n g) l _ (see_is ts key line (with_gifts l.gifts s) tells n g l.inside third)))

    same_under : (a me w : ℕ) → under a (gift_key me w) ≡ gift_key a w
    unfolding under
    same_under a me w = ap (gift_key a) (word_key me w)

    view_is : (v n a c : ℕ) (h : Host) → Reads ts key h.inside
        → Stands ts key line s (λ u. u) (view_from v n a c h)
        (machine.and_then (machine.draw (names_under key) (at h)) (λ i. machine.◌>>◌ (machine.send_out a (machine.Shorten (Prom n) c (under a i))) (machine.◌>>=◌ (arrive.gift_there (names_under key) v a c (under a i)) (λ g. arrive.see (names_under key) (Prom n) g))))
    unfolding view_from ◌>>=◌ ◌>>◌ machine.◌>>◌ machine.◌>>=◌
    view_is v n a c h good =
        both_then ts key line s (λ w. gift_key h.inside.refs.me w) (λ u. u) (within draw h) _ _ _ (inside_is ts key line s (λ w. gift_key h.inside.refs.me w) draw h _ (draw_is ts key line (with_gifts h.gifts s) h.inside good))
        (λ w j e first. subst (λ (x : ℕ). Stands ts key line s (λ u. u) (viewed v n a c w j) (asked_then v n a c x (at j))) (sym (same_under a h.inside.refs.me w)) (viewed_is v n a c w j first))

    views_is : (n c : ℕ) (h : Host) → Reads ts key h.inside → Stands ts key line s (λ u. u) (view_there n c h) (arrive.view_there (names_under key) (Prom n) c (at h))
    unfolding view_there arrive.view_there machine.look machine.◌>>=◌ machine.◌>>◌ machine.and_then
    views_is n c h good =
        subst (λ (a : ℕ). Stands ts key line s (λ u. u) (view_from h.inside.refs.me n (host_of h.inside.refs n) c h)
        (machine.and_then (machine.draw (names_under key) (at h)) (λ i. machine.◌>>◌ (machine.send_out a (machine.Shorten (Prom n) c (under a i))) (machine.◌>>=◌ (arrive.gift_there (names_under key) h.inside.refs.me a c (under a i)) (λ g. arrive.see (names_under key) (Prom n) g)))))
        (host_is n h) (view_is h.inside.refs.me n (host_of h.inside.refs n) c h good)

    settled_by : (n c : ℕ) (gone : Bool) (h : Host) → Reads ts key h.inside
        → Stands ts key line s (λ u. u) ((if gone then break_name n else view_there n c) h) ((if gone then refs.settle (names_under key) (Prom n) (Broken (codes "partition")) else arrive.view_there (names_under key) (Prom n) c) (at h))
    settled_by n c true h good = broken_is ts key line s tells n h good
    settled_by n c false h good = views_is n c h good

    pub elsewhere_is : (n : Local) (x : Subject) (c : ℕ) (h : Host) → Reads ts key h.inside
        → Stands ts key line s (λ u. u) (arrive_elsewhere x c h) (arrive.arrive_elsewhere (names_under key) (subject_by n x) c (at h))
    unfolding arrive_elsewhere arrive.arrive_elsewhere settled_at ◌>>=◌ machine.◌>>=◌ machine.look machine.and_then
    elsewhere_is n x c h good =
        both_then ts key line s Prom (λ u. u) (learn_subject x h) _ (λ m. settled_at m c) _ (subject_is n x h good)
        (λ m j e next. settled_by m c (is_in c j.inside.refs.noticed) j next)
