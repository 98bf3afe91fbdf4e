-- What is done inside, one thing after another, and with gifts, stands for what the machine does.
use Rattle.std.proofs.Common.{◌≡◌, ◌∙◌, ℕ, zero, Bool, true, false, List, [], ◌∷◌, ◌++◌, Option, Some, None, Ok, Err, map, refl, sym, ap, subst}
use Rattle.std.specs.Prelude.{Result, is_some, if◌then◌else◌}
use Rattle.std.proofs.lemmas.List.{map-append}
use Rattle.ev_intro.specs.Gift.{Gift, Gifts, find, accepted, promise_in, put}
use Rattle.def_machine.specs.Arrive as arrive
use Rattle.def_machine.specs.Arrive.{gift_at}
use Rattle.def_machine.specs.State as machine
use Rattle.def_machine.specs.State.{Vat, Done, GiftEntry, with_opened}
use Rattle.def_machine.specs.Values.{Words, Local, Prom, IsGift, IsLearnt, numbering, key as gift_key}
use Rattle.ev_pass.specs.Acts as inner
use Rattle.ev_pass.specs.Reading.{Lines, Reads, StandsFor, names_under, reference_by}
use Rattle.ev_pass.specs.declared.interior.Stop.TheVariants.{Fuel, Repeated, Astray, Missing, Memory}
use Rattle.ev_pass.specs.declared.note.Reference.TheVariants as reference
use Rattle.ev_settle.specs.Changes.{come}
use Rattle.ev_settle.proofs.Changing.{come_is}
use Rattle.ev_arrive.specs.Acts.{Act, Out, and_then, ◌>>=◌, ◌>>◌, give, learn_name, within}
use Rattle.ev_arrive.specs.Hosting.{keep_gift, new_gift, have_by, have_gift, open_by, open_gift}
use Rattle.ev_arrive.specs.Reading.{Stands, gift_by, host_at, incoming_by, with_gifts}
use Rattle.ev_arrive.specs.declared.host.Host.{Host}
use Rattle.ev_arrive.specs.declared.host.Incoming.{Incoming}
use Rattle.ev_arrive.specs.declared.host.Incoming.TheVariants.{Known, New}
use Rattle.ev_arrive.proofs.Gifting.{Alike, alike, put_last, none_opened, some_opened}

module _ (ts : List Words) (key : List ℕ) (line : Lines) (s : Vat Local) where
  abbrev pub at : Host → Vat Local
  at h = host_at ts line h s

  abbrev pub Meets : {A B : Type 0} → (A → B) → Out A → Done Local B → Type 0
  Meets read o d = Stands ts key line s read o d

  pub both_then : {A B C D : Type 0} (read : A → B) (view : C → D) (o : Out A) (d : Done Local B) (f : A → Act C) (g : B → machine.Act Local D) → Meets read o d
      → ((a : A) (h : Host) → o ≡ (Ok a, h) → Reads ts key h.inside → Meets view (f a h) (g (read a) (at h))) → Meets view (and_then o f) (machine.and_then d g)
  unfolding and_then machine.and_then
  both_then read view (Ok a, h) d f g st k = subst (λ (x : Done Local _). Meets view (f a h) (machine.and_then x g)) (sym st.0) (k a h refl st.1)
  both_then read view (Err Fuel, h) d f g st k = rw st refl
  both_then read view (Err (Repeated m n), h) d f g st k = rw st refl
  both_then read view (Err Astray, h) d f g st k = rw st refl
  both_then read view (Err Missing, h) d f g st k = tt
  both_then read view (Err Memory, h) d f g st k = tt

  pub gives : {A B : Type 0} (read : A → B) (a : A) (h : Host) → Reads ts key h.inside → Meets read (give a h) (machine.give (read a) (at h))
  unfolding give machine.give
  gives read a h good = (refl, good)

  -- what stands for an act of the machine inside does so where gifts are hosted
  pub inside_is : {A B : Type 0} (read : A → B) (m : inner.Act A) (h : Host) (d : Done Local B) → StandsFor ts key line (with_gifts h.gifts s) read (m h.inside) d → Meets read (within m h) d
  unfolding within
  inside_is read m h d is = is

  -- ---- names that come to be

  pub learnt_is : (n : Local) (v : ℕ) (h : Host) → Reads ts key h.inside → Meets Prom (within (come v) h) (machine.come (names_under key) (IsLearnt n) v (at h))
  unfolding within machine.come machine.begun numbering
  learnt_is n v h good = come_is ts key line (with_gifts h.gifts s) v n h.inside good

  pub gift_comes : (c v i : ℕ) (h : Host) → Reads ts key h.inside → Meets Prom (within (come v) h) (machine.come (names_under key) (IsGift c i) v (at h))
  unfolding within machine.come machine.begun numbering
  gift_comes c v i h good = come_is ts key line (with_gifts h.gifts s) v (Prom zero) h.inside good

  named : (o : Out ℕ) (d : Done Local Local) → Meets Prom o d → Meets reference_by (and_then o (λ k. give (reference.Promise k))) d
  unfolding and_then give
  named (Ok a, h) d st = st
  named (Err Fuel, h) d st = st
  named (Err (Repeated m n), h) d st = st
  named (Err Astray, h) d st = st
  named (Err Missing, h) d st = tt
  named (Err Memory, h) d st = tt

  pub name_is : (n : Local) (x : Incoming) (h : Host) → Reads ts key h.inside → Meets reference_by (learn_name x h) (arrive.learn_name (names_under key) (incoming_by n x) (at h))
  unfolding learn_name arrive.learn_name ◌>>=◌
  name_is n (Known r) h good = gives reference_by r h good
  name_is n (New v) h good = named (within (come v) h) (machine.come (names_under key) (IsLearnt n) v (at h)) (learnt_is n v h good)

  -- ---- gifts

  kept : (p i n : ℕ) (gs : Gifts) → find p i gs ≡ None
      → map gift_by gs ++ record { name = Prom n; provider = p; number = gift_key p i; opened = false } ∷ [] ≡ map gift_by (accepted p i n gs)
  kept p i n gs e =
      let new : Gift = record { provider = p; swiss = i; promise = n; is_opened = false } in
      sym (map-append gift_by gs (new ∷ []))
      ∙ ap (λ (z : Gifts). map gift_by z) (sym (put_last new gs e))
      ∙ ap (λ (o : Option (ℕ × Bool)). map gift_by (if is_some o then gs else put new gs)) (sym e)

  keeps_is : (p i n : ℕ) (h : Host) → find p i h.gifts ≡ None → Reads ts key h.inside → Meets (λ u. u) (keep_gift p i n h) (machine.new_gift (Prom n) p (gift_key p i) (at h))
  unfolding keep_gift machine.new_gift
  keeps_is p i n h e good = (ap (λ (z : List (GiftEntry Local)). machine.Gives tt (record (at h) { gifts = z })) (kept p i n h.gifts e), good)

  same_gifts : {A : Type 0} (m : inner.Act A) (h j : Host) (r : Result A _) → within m h ≡ (r, j) → j.gifts ≡ h.gifts
  unfolding within
  same_gifts m h j r e = sym (ap (λ (o : Out _). o.1.gifts) e)

  new_is : (p i : ℕ) (h : Host) → find p i h.gifts ≡ None → Reads ts key h.inside → Meets Prom (new_gift p i h) (arrive.gift_or_new (names_under key) h.inside.refs.me p (gift_key p i) None (at h))
  unfolding new_gift arrive.gift_or_new ◌>>=◌ ◌>>◌ machine.◌>>=◌ machine.◌>>◌
  new_is p i h none good =
      both_then Prom Prom (within (come h.inside.refs.me) h) _ _ _ (gift_comes h.inside.refs.me h.inside.refs.me (gift_key p i) h good)
      (λ n j e next. both_then (λ u. u) Prom (keep_gift p i n j) _ _ _ (keeps_is p i n j (ap (λ (gs : Gifts). find p i gs) (same_gifts (come h.inside.refs.me) h j (Ok n) e) ∙ none) next)
      (λ u k f done. gives Prom n k done))

  have_found : (p i : ℕ) (h : Host) (o : Option (ℕ × Bool)) (q : Option (GiftEntry Local)) → find p i h.gifts ≡ o → Alike o q → Reads ts key h.inside
      → Meets Prom (have_by p i o h) (arrive.gift_or_new (names_under key) h.inside.refs.me p (gift_key p i) q (at h))
  unfolding have_by arrive.gift_or_new give machine.give
  have_found p i h (Some x) (Some g) e like good = (ap (λ (n : Local). machine.Gives n (at h)) like.0, good)
  have_found p i h None None e like good = new_is p i h e good
  have_found p i h None (Some g) e like good = elim like [ ]
  have_found p i h (Some x) None e like good = elim like [ ]

  pub have_is : (p i : ℕ) (h : Host) → Reads ts key h.inside → Meets Prom (have_gift p i h) (arrive.have_gift (names_under key) p (gift_key p i) (at h))
  unfolding have_gift arrive.have_gift machine.look machine.◌>>=◌ machine.and_then
  have_is p i h good = have_found p i h (find p i h.gifts) (gift_at p (gift_key p i) (map gift_by h.gifts)) refl (alike p i h.gifts) good

  opens : (p i : ℕ) (gs : Gifts) (o : Option (ℕ × Bool)) → find p i gs ≡ o → with_opened p (gift_key p i) (map gift_by gs) ≡ map gift_by (open_by p i o gs)
  unfolding open_by
  opens p i gs None e = sym (none_opened p i gs e)
  opens p i gs (Some x) e =
      sym (some_opened p i x gs e) ∙ ap (λ (q : Option (ℕ × Bool)). map gift_by (put (record { provider = p; swiss = i; promise = promise_in q x.0; is_opened = true }) gs)) (sym e)

  pub open_is : (p i : ℕ) (h : Host) → Reads ts key h.inside → Meets (λ u. u) (open_gift p i h) (machine.open_gift p (gift_key p i) (at h))
  unfolding open_gift machine.open_gift
  open_is p i h good = (ap (λ (z : List (GiftEntry Local)). machine.Gives tt (record (at h) { gifts = z })) (opens p i h.gifts (find p i h.gifts) refl), good)
