-- Single acts, and one after another, stand for those of the machine.
use Rattle.std.proofs.Common.{◌≡◌, ℕ, zero, suc, ◌+◌, Bool, true, false, List, [], ◌∷◌, ◌++◌, Option, Some, None, Ok, Err, length, map, nat_le, refl, sym, ap, ◌∙◌, subst, append_assoc, append-nil, length-append, arith}
use Rattle.std.specs.Prelude.{slice_get}
use Rattle.std.proofs.lemmas.List.{map-append}
use Rattle.ev_heap.specs.declared.happened.Happened.{Happened as Event}
use Rattle.ev_intro.specs.Word.{word}
use Rattle.def_machine.specs.Values.{Words, Local, Prom, numbering, key as gift_key}
use Rattle.def_machine.specs.State as machine
use Rattle.def_machine.specs.State.{Vat, Done, Happened, drawn_at, ToTell, alter}
use Rattle.ev_refs.specs.Changes.{with_told}
use Rattle.ev_refs.specs.Reading.{text_by}
use Rattle.ev_refs.specs.declared.known.Known.{Known}
use Rattle.ev_refs.proofs.Changing.{change_is, tell_is, unknown_same}
use Rattle.ev_pass.specs.Acts as code
use Rattle.ev_pass.specs.Acts.{Out, Act, and_then, words_by, told_in}
use Rattle.ev_pass.specs.Notes.{Noted, Sent}
use Rattle.ev_pass.specs.Reading.{Lines, lines_of, Reads, StandsFor, names_under, note_by, put_by, vat_at}
use Rattle.ev_pass.specs.declared.interior.Interior.{Interior}
use Rattle.ev_pass.specs.declared.interior.Stop.TheVariants.{Fuel, Repeated, Astray, Missing, Memory}
use Rattle.ev_pass.proofs.Ways.{same_partition, same_cycle}

pub so_many_words : (key : List ℕ) (n : ℕ) → length (words_by key n) ≡ n
unfolding words_by
so_many_words key zero = refl
so_many_words key (suc n) = omega (arith, so_many_words key n, length-append (words_by key n) (word key n ∷ []))

module _ (ts : List Words) (key : List ℕ) (line : Lines) (s : Vat Local) where
  abbrev pub at : Interior → Vat Local
  at i = vat_at ts line i s

  abbrev pub Stands : {A B : Type 0} → (A → B) → Out A → Done Local B → Type 0
  Stands read o d = StandsFor ts key line s read o d

  -- ---- one thing after another

  pub both_then : {A B C D : Type 0} (read : A → B) (view : C → D) (o : Out A) (d : Done Local B) (f : A → Act C) (g : B → machine.Act Local D) → Stands read o d
      → ((a : A) (i : Interior) → o ≡ (Ok a, i) → Reads ts key i → Stands view (f a i) (g (read a) (at i))) → Stands view (and_then o f) (machine.and_then d g)
  unfolding and_then machine.and_then
  both_then {D = D} read view (Ok a, i) d f g h k = subst (λ (x : Done Local _). Stands view (f a i) (machine.and_then x g)) (sym h.0) (k a i refl h.1)
  both_then read view (Err Fuel, i) d f g h k = rw h refl
  both_then read view (Err (Repeated m n), i) d f g h k = rw h refl
  both_then read view (Err Astray, i) d f g h k = rw h refl
  both_then read view (Err Missing, i) d f g h k = tt
  both_then read view (Err Memory, i) d f g h k = tt

  pub gives : {A B : Type 0} (read : A → B) (a : A) (i : Interior) → Reads ts key i → Stands read (code.give a i) (machine.give (read a) (at i))
  unfolding code.give machine.give
  gives read a i good = (refl, good)

  -- ---- fuel and lines

  spent_is : (n : ℕ) (b : Bool) (i : Interior) → Reads ts key i → Stands (λ u. u) (code.spent n b i) (machine.spent n b (at i))
  unfolding code.spent machine.spent
  spent_is n true i good = (refl, record { known = good.known; heavy = good.heavy; texts = good.texts; drawn = good.drawn })
  spent_is n false i good = refl

  pub spend_is : (n : ℕ) (i : Interior) → Reads ts key i → Stands (λ u. u) (code.spend n i) (machine.spend n (at i))
  unfolding code.spend machine.spend
  spend_is n i good = spent_is n (nat_le n i.micro.fuel) i good

  pub lines_more : (es : List Event) (e : Event) → lines_of line (es ++ e ∷ []) ≡ lines_of line es ++ line e
  unfolding lines_of
  lines_more [] e = append-nil (line e)
  lines_more (x ∷ es) e = rw (lines_more es e) (sym (append_assoc (line x) (lines_of line es) (line e)))

  pub told_is : (e : Event) (h : Happened Local) (i : Interior) → line e ≡ h ∷ [] → Reads ts key i → Stands (λ u. u) (code.tell e i) (machine.tell h (at i))
  unfolding code.tell machine.tell
  told_is e h i is good =
      let more : lines_of line (i.micro.events ++ e ∷ []) ≡ lines_of line i.micro.events ++ h ∷ [] = lines_more i.micro.events e ∙ ap (λ (x : List (Happened Local)). lines_of line i.micro.events ++ x) is in (
        ap (λ (x : List (Happened Local)). machine.Gives tt (record (at i) { happened = x })) (append_assoc s.happened (lines_of line i.micro.events) (h ∷ []) ∙ ap (λ (x : List (Happened Local)). s.happened ++ x) (sym more)),
        record { known = good.known; heavy = good.heavy; texts = good.texts; drawn = good.drawn },
      )

  -- ---- notes and words

  pub sent_out_is : (to : ℕ) (n : Noted) (i : Interior) → Reads ts key i → Stands (λ u. u) (code.send_out to n i) (machine.send_out to (note_by ts n) (at i))
  unfolding code.send_out machine.send_out
  sent_out_is to n i good =
      let one : Sent = record { to = to; note = n } in
      let more : map (put_by ts) (i.post ++ one ∷ []) ≡ map (put_by ts) i.post ++ put_by ts one ∷ [] = map-append (put_by ts) i.post (one ∷ []) in (
        ap (λ (x : List (machine.Put Local)). machine.Gives tt (record (at i) { outbox = x })) (append_assoc s.outbox (map (put_by ts) i.post) (put_by ts one ∷ []) ∙ ap (λ (x : List (machine.Put Local)). s.outbox ++ x) (sym more)),
        record { known = good.known; heavy = good.heavy; texts = good.texts; drawn = good.drawn },
      )

  abbrev drawn_then : Interior → ℕ → ℕ → Done Local ℕ
  drawn_then i n w = machine.draws {N = Local} w (drawn_at zero w (words_by i.words.key n)) (at i)

  draws_is : (o : Option ℕ) (i : Interior) → Reads ts key i → Stands (λ w. gift_key i.refs.me w) (code.draws o i) (machine.draws (word i.words.key i.words.count) o (at i))
  unfolding code.draws machine.draws words_by
  draws_is None i good = (
    let next : suc i.words.count ≡ i.words.count + 1 = omega arith in
        ap (λ (n : ℕ). machine.Gives (gift_key i.refs.me (word i.words.key i.words.count)) (record (at i) { drawn = words_by i.words.key n })) next,
    record { known = good.known; heavy = good.heavy; texts = good.texts; drawn = good.drawn },
  )
  draws_is (Some j) i good = ap (λ (n : ℕ). machine.Stops (machine.Repeated j n) (at i)) (so_many_words i.words.key i.words.count)

  pub draw_is : (i : Interior) → Reads ts key i → Stands (λ w. gift_key i.refs.me w) (code.draw i) (machine.draw (names_under key) (at i))
  unfolding code.draw machine.draw numbering
  draw_is i good =
      let next : word key (length (words_by i.words.key i.words.count)) ≡ word i.words.key i.words.count =
      ap (λ (n : ℕ). word key n) (so_many_words i.words.key i.words.count) ∙ ap (λ (k : List ℕ). word k i.words.count) (sym good.drawn) in
      subst (λ (w : ℕ). Stands (λ x. gift_key i.refs.me x) (code.draw i) (machine.draws w (drawn_at zero w (words_by i.words.key i.words.count)) (at i))) (sym next)
      (draws_is (drawn_at zero (word i.words.key i.words.count) (words_by i.words.key i.words.count)) i good)

  -- ---- a vat that is to be told

  told_good : (w n : ℕ) (i : Interior) → Reads ts key i → Reads ts key (record i { refs = told_in w n (slice_get i.refs.known n) i.refs })
  told_good w n i good =
      let o = slice_get i.refs.known n in
      record {
        known = (
          ap (λ (t : ℕ). text_by ts t) (same_partition w n i.refs o) ∙ good.known.0,
          ap (λ (t : ℕ). text_by ts t) (same_cycle w n i.refs o) ∙ good.known.1,
        );
        heavy = good.heavy;
        texts = good.texts;
        drawn = good.drawn;
      }

  told_found : (w n : ℕ) (i : Interior) (o : Option Known) → slice_get i.refs.known n ≡ o → alter (names_under key) (ToTell w) (Prom n) (at i) ≡ machine.Gives tt (at (record i { refs = told_in w n o i.refs }))
  unfolding alter told_in
  told_found w n i None h = ap (λ (ks : List (machine.Known Local)). machine.Gives tt (record (at i) { known = ks })) (unknown_same (word key) ts (ToTell w) i.refs.known n h)
  told_found w n i (Some k) h =
      ap (λ (ks : List (machine.Known Local)). machine.Gives tt (record (at i) { known = ks })) (change_is (word key) ts (ToTell w) i.refs.known n k (with_told w k) h (tell_is ts n w k))

  pub to_tell_is : (w n : ℕ) (i : Interior) → Reads ts key i → Stands (λ u. u) (code.to_tell w n i) (alter (names_under key) (ToTell w) (Prom n) (at i))
  unfolding code.to_tell
  to_tell_is w n i good = (told_found w n i (slice_get i.refs.known n) refl, told_good w n i good)
