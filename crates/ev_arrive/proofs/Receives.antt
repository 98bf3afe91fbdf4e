-- Every note is received as in the machine.
use Rattle.std.proofs.Common.{◌≡◌, ◌∙◌, ◌==◌, ◌&&◌, ℕ, Bool, true, false, List, Option, Some, None, map, refl, sym, ap, subst}
use Rattle.std.specs.Prelude.{codes, is_some, not, if◌then◌else◌}
use Rattle.ev_base.specs.declared.values.Value.TheVariants as held
use Rattle.ev_intro.specs.Gift.{find}
use Rattle.ev_intro.specs.Word.{word}
use Rattle.def_machine.specs.Arrive as arrive
use Rattle.def_machine.specs.Arrive.{gift_at}
use Rattle.def_machine.specs.Receive as receive
use Rattle.def_machine.specs.Refs as refs
use Rattle.def_machine.specs.State as machine
use Rattle.def_machine.specs.State.{Vat, GiftEntry, is_in}
use Rattle.def_machine.specs.Values.{Words, Local, Broken, Prom, numbering, key as gift_key}
use Rattle.ev_pass.specs.Acts.{draw}
use Rattle.ev_pass.specs.Reading.{Lines, Reads, StandsFor, names_under}
use Rattle.ev_pass.proofs.Stands.{draw_is, so_many_words}
use Rattle.ev_refs.specs.Reading.{standing_by}
use Rattle.ev_refs.specs.declared.known.Standing.{Standing}
use Rattle.ev_refs.specs.declared.known.Standing.TheVariants as standing
use Rattle.ev_settle.specs.Performing.{Tells}
use Rattle.ev_settle.specs.Settling.{settle}
use Rattle.ev_settle.proofs.Performs.{settles_is}
use Rattle.ev_arrive.specs.Acts.{◌>>=◌, ◌>>◌, learn_subject, within}
use Rattle.ev_arrive.specs.Breaking.{standing_now}
use Rattle.ev_arrive.specs.Hosting.{is_opened}
use Rattle.ev_arrive.specs.Reading.{Stands, gift_by, host_at, subject_by, with_gifts}
use Rattle.ev_arrive.specs.declared.host.Host.{Host}
use Rattle.ev_arrive.specs.declared.host.Subject.{Subject}
use Rattle.ev_arrive.specs.declared.host.Subject.TheVariants as subject
use Rattle.ev_arrive.proofs.Gifting.{Alike, alike}
use Rattle.ev_arrive.proofs.Opens.{opened_like, standing_is}
use Rattle.ev_arrive.proofs.Stands.{both_then, gives, inside_is}
use Rattle.ev_arrive.proofs.Viewings.{host_is, subject_is}
use Rattle.ev_arrive.specs.Hearing.{Name, Sees, TellsLists, heard_by}
use Rattle.ev_arrive.specs.Receiving as code
use Rattle.ev_arrive.specs.declared.brought.Heard.{Heard}
use Rattle.ev_arrive.specs.declared.brought.Heard.TheVariants.{Deliver, Open, Ask, Settled, Elsewhere, Shorten}
use Rattle.ev_arrive.specs.declared.receiving.Sight.{Sight}
use Rattle.ev_arrive.proofs.Arrives.{arrives_is}

-- ---- gifts

hosted_like : (o : Option (ℕ × Bool)) (q : Option (GiftEntry Local)) → Alike o q → is_some o ≡ receive.is_hosted q
unfolding receive.is_hosted
hosted_like (Some x) (Some g) like = refl
hosted_like None None like = refl
hosted_like None (Some g) like = elim like [ ]
hosted_like (Some x) None like = elim like [ ]

-- ---- what is received

module _ (ts : List Words) (key : List ℕ) (line : Lines) (s : Vat Local) (tells : Tells ts line) (lists : TellsLists ts line) (n : Local) where
  abbrev at : Host → Vat Local
  at h = host_at ts line h s

  number_like : (sight : receive.Sight Local) (b : Bool) (o : Option (ℕ × Bool)) (q : Option (GiftEntry Local)) → Alike o q → ((g : ℕ × Bool) → o ≡ Some g → b ≡ sight.numbers (Prom g.0))
      → code.has_number b o ≡ receive.has_number (names_under key) sight q
  unfolding receive.has_number
  number_like sight b (Some x) (Some g) like f = f x refl ∙ ap sight.numbers (sym like.0)
  number_like sight b None None like f = refl
  number_like sight b None (Some g) like f = elim like [ ]
  number_like sight b (Some x) None like f = elim like [ ]

  told_like : (t : Standing) → code.is_told t ≡ receive.is_told (standing_by ts t)
  unfolding receive.is_told
  told_like standing.Unsettled = refl
  told_like (standing.WaitsOn q) = refl
  told_like (standing.Viewed q) = refl
  told_like (standing.Settled v) = refl

  was_is : (x : Subject) (h : Host) → code.was_told x h.inside.refs ≡ receive.was_told (names_under key) (subject_by n x) (at h)
  unfolding code.was_told receive.was_told
  was_is (subject.Known m) h = told_like (standing_now h.inside.refs m) ∙ ap receive.is_told (standing_is ts key line s tells m h)
  was_is (subject.New v) h = refl

  nothing_is : (x : Name) (c : ℕ) (sight : receive.Sight Local) (see : Sight) (from : ℕ) (note : Heard) (h : Host) → Sees sight h note see
      → code.tells_nothing from see note h ≡ receive.tells_nothing (names_under key) sight from (heard_by ts n x c from note) (at h)
  unfolding code.tells_nothing receive.tells_nothing is_opened
  nothing_is x c sight see from (Deliver m asks t verb args) h sees = refl
  nothing_is x c sight see from (Open i t) h sees = opened_like ts key line s tells (find from i h.gifts) (gift_at from (gift_key from i) (map gift_by h.gifts)) (alike from i h.gifts)
  nothing_is x c sight see from (Ask p i) h sees = number_like sight see.numbered (find p i h.gifts) (gift_at p (gift_key p i) (map gift_by h.gifts)) (alike p i h.gifts) sees
  nothing_is x c sight see from (Settled t y) h sees = was_is t h
  nothing_is x c sight see from (Elsewhere t d) h sees = was_is t h
  nothing_is x c sight see from (Shorten t i) h sees = refl

  -- ---- what leads back

  by_host_is : (x : Subject) (h : Host) → code.host_by x h.inside.refs ≡ receive.host_by (names_under key) (subject_by n x) (at h)
  unfolding code.host_by receive.host_by
  by_host_is (subject.Known m) h = host_is ts key line s m h
  by_host_is (subject.New v) h = refl

  next_is : (p : ℕ) (h : Host) → Reads ts key h.inside → receive.next_key (names_under key) p (at h) ≡ gift_key p (word h.inside.words.key h.inside.words.count)
  unfolding receive.next_key numbering
  next_is p h good =
      ap (λ (k : ℕ). gift_key p (word key k)) (so_many_words h.inside.words.key h.inside.words.count)
      ∙ ap (λ (k : List ℕ). gift_key p (word k h.inside.words.count)) (sym good.drawn)

  if_both : {A : Type 0} (b : Bool) (w x y z : A) → w ≡ y → x ≡ z → (if b then w else x) ≡ (if b then y else z)
  if_both true w x y z e f = e
  if_both false w x y z e f = f

  abbrev next_of : ℕ → Host → ℕ
  next_of p h = gift_key p (word h.inside.words.key h.inside.words.count)

  has_is : (sight : receive.Sight Local) (see : Sight) (d : ℕ) (t : Subject) (h : Host) → Reads ts key h.inside → see.known ≡ sight.knows d (code.host_by t h.inside.refs) (next_of (code.host_by t h.inside.refs) h)
      → receive.has_gift (names_under key) sight d (receive.host_by (names_under key) (subject_by n t) (at h)) (at h) ≡ code.has_gift see d (code.host_by t h.inside.refs) h
  unfolding receive.has_gift code.has_gift
  has_is sight see d t h good sees =
      let p = code.host_by t h.inside.refs in
      let w = word h.inside.words.key h.inside.words.count in
      ap (λ (q : ℕ). if d == h.inside.refs.me then receive.is_hosted (gift_at q (receive.next_key (names_under key) q (at h)) (map gift_by h.gifts)) else sight.knows d q (receive.next_key (names_under key) q (at h))) (sym (by_host_is t h))
      ∙ ap (λ (m : ℕ). if d == h.inside.refs.me then receive.is_hosted (gift_at p m (map gift_by h.gifts)) else sight.knows d p m) (next_is p h good)
      ∙ if_both (d == h.inside.refs.me) (receive.is_hosted (gift_at p (next_of p h) (map gift_by h.gifts))) (sight.knows d p (next_of p h)) (is_some (find p w h.gifts)) see.known
      (sym (hosted_like (find p w h.gifts) (gift_at p (next_of p h) (map gift_by h.gifts)) (alike p w h.gifts))) (sym sees)

  by_notice : (sight : receive.Sight Local) (see : Sight) (d : ℕ) (t : Subject) (h : Host) (gone : Bool) → Reads ts key h.inside → see.known ≡ sight.knows d (code.host_by t h.inside.refs) (next_of (code.host_by t h.inside.refs) h)
      → (not gone && receive.has_gift (names_under key) sight d (receive.host_by (names_under key) (subject_by n t) (at h)) (at h)) ≡ (if gone then false else code.has_gift see d (code.host_by t h.inside.refs) h)
  by_notice sight see d t h true good sees = refl
  by_notice sight see d t h false good sees = has_is sight see d t h good sees

  back_same : (x : Name) (c : ℕ) (sight : receive.Sight Local) (see : Sight) (from : ℕ) (note : Heard) (h : Host) → Reads ts key h.inside → Sees sight h note see
      → receive.leads_back (names_under key) sight (heard_by ts n x c from note) (at h) ≡ code.leads_back see note h
  unfolding receive.leads_back code.leads_back
  back_same x c sight see from (Deliver m asks t verb args) h good sees = refl
  back_same x c sight see from (Open i t) h good sees = refl
  back_same x c sight see from (Ask p i) h good sees = refl
  back_same x c sight see from (Settled t y) h good sees = refl
  back_same x c sight see from (Elsewhere t d) h good sees = by_notice sight see d t h (is_in d h.inside.refs.noticed) good sees
  back_same x c sight see from (Shorten t i) h good sees = refl

  cycle_is : (m : ℕ) (h : Host) → Reads ts key h.inside → Stands ts key line s (λ u. u) (code.break_cycle m h) (refs.settle (names_under key) (Prom m) (Broken (codes "cycle")) (at h))
  unfolding code.break_cycle
  cycle_is m h good =
      inside_is ts key line s (λ u. u) (settle m (held.Broken h.inside.refs.cycle)) h _
      (subst (λ (p : Words). StandsFor ts key line (with_gifts h.gifts s) (λ u. u) (settle m (held.Broken h.inside.refs.cycle) h.inside) (refs.settle (names_under key) (Prom m) (Broken p) (at h))) good.known.1
      (settles_is ts key line (with_gifts h.gifts s) tells m (held.Broken h.inside.refs.cycle) h.inside good))

  subject_breaks : (t : Subject) (h : Host) → Reads ts key h.inside
      → Stands ts key line s (λ u. u) (code.break_subject t h)
      (machine.and_then (arrive.learn_name (names_under key) (subject_by n t) (at h)) (λ m. machine.◌>>◌ (machine.draw (names_under key)) (refs.settle (names_under key) m (Broken (codes "cycle")))))
  unfolding code.break_subject ◌>>=◌ ◌>>◌ machine.◌>>◌
  subject_breaks t h good =
      both_then ts key line s Prom (λ u. u) (learn_subject t h) _ _ _ (subject_is ts key line s n t h good)
      (λ m j e first. both_then ts key line s (λ w. gift_key j.inside.refs.me w) (λ u. u) (within draw j) _ (λ _. code.break_cycle m) _ (inside_is ts key line s (λ w. gift_key j.inside.refs.me w) draw j _ (draw_is ts key line (with_gifts j.gifts s) j.inside first))
      (λ i k f second. cycle_is m k second))

  backs_is : (x : Name) (c from : ℕ) (note : Heard) (h : Host) → Reads ts key h.inside → Stands ts key line s (λ u. u) (code.break_back note h) (receive.break_back (names_under key) (heard_by ts n x c from note) (at h))
  unfolding code.break_back receive.break_back machine.◌>>=◌
  backs_is x c from (Deliver m asks t verb args) h good = gives ts key line s (λ u. u) tt h good
  backs_is x c from (Open i t) h good = gives ts key line s (λ u. u) tt h good
  backs_is x c from (Ask p i) h good = gives ts key line s (λ u. u) tt h good
  backs_is x c from (Settled t y) h good = gives ts key line s (λ u. u) tt h good
  backs_is x c from (Elsewhere t d) h good = subject_breaks t h good
  backs_is x c from (Shorten t i) h good = gives ts key line s (λ u. u) tt h good

  -- ---- the whole

  by_tests : (x : Name) (c : ℕ) (nothing back : Bool) (from : ℕ) (note : Heard) (h : Host) → Reads ts key h.inside
      → Stands ts key line s (λ u. u) (code.receive_by nothing back from note h) (receive.receive_by (names_under key) nothing back from (heard_by ts n x c from note) (at h))
  unfolding code.receive_by receive.receive_by
  by_tests x c true back from note h good = gives ts key line s (λ u. u) tt h good
  by_tests x c false true from note h good = backs_is x c from note h good
  by_tests x c false false from note h good = arrives_is ts key line s tells lists n x c from note h good

  pub receives_is : (x : Name) (c : ℕ) (sight : receive.Sight Local) (see : Sight) (from : ℕ) (note : Heard) (h : Host) → Reads ts key h.inside → Sees sight h note see
      → Stands ts key line s (λ u. u) (code.receive from see note h) (receive.receive (names_under key) sight from (heard_by ts n x c from note) (at h))
  unfolding code.receive receive.receive machine.look machine.◌>>=◌ machine.and_then
  receives_is x c sight see from note h good sees =
      let heard = heard_by ts n x c from note in
      let nothing = code.tells_nothing from see note h in
      subst (λ (b : Bool). Stands ts key line s (λ u. u) (code.receive from see note h) (receive.receive_by (names_under key) b (receive.leads_back (names_under key) sight heard (at h)) from heard (at h)))
      (nothing_is x c sight see from note h sees)
      (subst (λ (b : Bool). Stands ts key line s (λ u. u) (code.receive from see note h) (receive.receive_by (names_under key) nothing b from heard (at h))) (sym (back_same x c sight see from note h good sees))
      (by_tests x c nothing (code.leads_back see note h) from note h good))
