-- Values of a note that come to be here.
use Rattle.std.proofs.Common.{◌≡◌, ℕ, zero, suc, Bool, true, false, List, [], ◌∷◌, ◌++◌, Ok, length, refl, sym, subst}
use Rattle.ev_base.specs.declared.values.Value.{Value}
use Rattle.ev_base.specs.declared.values.Value.TheVariants as held
use Rattle.ev_heap.specs.Contents.{Contents, is_light, listed}
use Rattle.ev_heap.specs.declared.happened.Happened.TheVariants as event
use Rattle.ev_intro.specs.Gift.{Gifts}
use Rattle.ev_pass.specs.Acts as inner
use Rattle.ev_pass.specs.declared.interior.Interior.{Interior}
use Rattle.ev_room.specs.Sound.{Grown, IsSound, are_there, is_there}
use Rattle.ev_arrive.specs.Acts.{Act, Out, around, ◌>>=◌, give, within}
use Rattle.ev_arrive.specs.Delivering.{learn_gift}
use Rattle.ev_arrive.specs.declared.host.Host.{Host}
use Rattle.ev_arrive.specs.Bringing.{Part, Parts, Plain, New, Gift, Many, NoMore, More}
use Rattle.ev_arrive.specs.Fitting.{AllFit, Fits}
use Rattle.ev_arrive.specs.Learning.{are_kept, is_kept, keep_list, learn, learn_each, learn_given, learn_list, learn_new, learn_part, list_if, list_told, make_list, new_list}
use Rattle.ev_arrive.proofs.Fits.{all_fit_learnt, fits_learnt}
use Rattle.ev_settle.specs.Changes.{come}
use Rattle.law_evaluation.proofs.Acts.Sounds.{all_and, grown_on, grown_same, last_list, list_sound, micro_sound, there_on}
use Rattle.law_evaluation.specs.Acts.Kinds.{Anything, StopOf}
use Rattle.law_evaluation.specs.Arrivals.Arrivals.{EndsIn, EndsSound, MoreLists, Whatever}
use Rattle.law_evaluation.proofs.Arrivals.Leaving.{leaves_same, loosened, more_grown, then_leaves}
use Rattle.law_evaluation.proofs.Arrivals.Arrives.{come_sounds, learn_gift_sounds}

-- what is given stands in the heap
abbrev pub OneThere : Contents → Value → Type 0
OneThere h v = is_there h v ≡ true

abbrev pub AllThere : Contents → List Value → Type 0
AllThere h vs = are_there h vs ≡ true

kept_there : (h : Contents) (v : Value) → is_kept h v ≡ true → is_there h v ≡ true
kept_there h (held.Text id) i = i
kept_there h other i = i

-- ---- lists

abbrev with_list : Interior → List Value → Interior
with_list s vs = record s { heap = record s.heap { lists = s.heap.lists ++ listed s.heap vs ∷ [] } }

more_list : (h : Contents) (vs : List Value) → MoreLists h (record h { lists = h.lists ++ listed h vs ∷ [] })
more_list h vs = record { things = refl; slots = refl; texts = refl; codes = refl; lists = (listed h vs ∷ [], refl) }

list_if_ends : (vs : List Value) (a b : Bool) (s : Interior) (gs : Gifts) → IsSound s → are_there s.heap vs ≡ true → EndsIn Anything OneThere s (around gs (inner.and_then (list_if vs a b s) (list_told vs)))
unfolding list_if keep_list list_told inner.fail inner.tell inner.give inner.◌>>◌ inner.and_then
list_if_ends vs true true s gs sound i =
    (last_list s sound vs, record { heap = more_list s.heap vs; stays = refl; sound = micro_sound (with_list s vs) (list_sound s sound vs i) (record s.micro { events = s.micro.events ++ event.Arrived (length s.heap.lists) vs ∷ [] }) })
list_if_ends vs true false s gs sound i = (tt, leaves_same s sound)
list_if_ends vs false b s gs sound i = (tt, leaves_same s sound)

list_ends : (vs : List Value) (h : Host) → IsSound h.inside → are_there h.inside.heap vs ≡ true → EndsIn Anything OneThere h.inside (within (make_list vs) h)
unfolding within make_list new_list inner.◌>>=◌
list_ends vs h sound i = list_if_ends vs (are_kept h.inside.heap vs) (is_light h.inside.heap vs) h.inside h.gifts sound i

-- ---- names

named_ends : (m : Act ℕ) (h : Host) → EndsSound h.inside (m h) → EndsIn Anything OneThere h.inside ((m >>= (λ n. give (held.Prom n))) h)
unfolding ◌>>=◌ give
named_ends m h g = then_leaves Anything Whatever OneThere h.inside (m h) (λ n. give (held.Prom n)) (loosened Whatever h.inside (m h) g) (λ n k l u. (refl, leaves_same k.inside l.sound))

new_ends : (c : ℕ) (h : Host) → IsSound h.inside → EndsIn Anything OneThere h.inside (learn_new c h)
unfolding learn_new
new_ends c h sound = named_ends (within (come c)) h (come_sounds c h sound)

gift_ends : (from c i : ℕ) (h : Host) → IsSound h.inside → EndsIn Anything OneThere h.inside (learn_given from c i h)
unfolding learn_given
gift_ends from c i h sound = named_ends (learn_gift from c i) h (learn_gift_sounds from c i h sound)

-- ---- values

-- one more in front, which stood there before the others came
second : (v : Value) (j : Host) (m : Act (List Value)) → OneThere j.inside.heap v → EndsIn Anything AllThere j.inside (m j) → EndsIn Anything AllThere j.inside ((m >>= (λ vs. give (v ∷ vs))) j)
unfolding ◌>>=◌ give
second v j m i g =
    then_leaves Anything AllThere AllThere j.inside (m j) (λ vs. give (v ∷ vs)) g
    (λ vs k l is. (all_and (is_there k.inside.heap v) (are_there k.inside.heap vs) (there_on (more_grown l.heap) v i) is, leaves_same k.inside l.sound))

mutual
  unfolding learn learn_part learn_list learn_each ◌>>=◌ give

  -- a value that fits a heap, which has grown since
  part_ends : (b : Contents) (d from : ℕ) (p : Part) (h : Host) → IsSound h.inside → Grown b h.inside.heap → Fits b d p → EndsIn Anything OneThere h.inside (learn d from p h)
  part_ends b d from (Plain v) h sound g f = (there_on g v (kept_there b v f.0), leaves_same h.inside sound)
  part_ends b d from (New c) h sound g f = new_ends c h sound
  part_ends b d from (Gift c i) h sound g f = gift_ends from c i h sound
  part_ends b zero from (Many ps) h sound g f = absurd f
  part_ends b (suc d) from (Many ps) h sound g f =
      then_leaves Anything AllThere OneThere h.inside (learn_each (learn d from) ps h) (λ vs. within (make_list vs)) (parts_ends b d from ps h sound g f.1) (λ vs k l is. list_ends vs k l.sound is)

  parts_ends : (b : Contents) (d from : ℕ) (ps : Parts) (h : Host) → IsSound h.inside → Grown b h.inside.heap → AllFit b d ps → EndsIn Anything AllThere h.inside (learn_each (learn d from) ps h)
  parts_ends b d from NoMore h sound g f = (refl, leaves_same h.inside sound)
  parts_ends b d from (More p ps) h sound g f =
      then_leaves Anything OneThere AllThere h.inside (learn d from p h) (λ v. learn_each (learn d from) ps >>= (λ vs. give (v ∷ vs))) (part_ends b d from p h sound g f.0)
      (λ v j l i. second v j (learn_each (learn d from) ps) i (parts_ends b d from ps j l.sound (grown_on g (more_grown l.heap)) f.1))

-- what comes to an end does not stop
came : {A : Type 0} (Q : Contents → A → Type 0) (s : Interior) (o : Out A) (a : A) (k : Host) → o ≡ (Ok a, k) → EndsIn Anything Q s o → EndsIn StopOf Q s o
came Q s o a k e g = subst (EndsIn StopOf Q s) (sym e) (subst (EndsIn Anything Q s) e g)

pub learn_ends : (from : ℕ) (p : Part) (h : Host) → IsSound h.inside → Fits h.inside.heap 100 p → EndsIn StopOf OneThere h.inside (learn 100 from p h)
learn_ends from p h sound f =
    let e = fits_learnt from p h f in
    came OneThere h.inside (learn 100 from p h) e.0 e.1.0 e.1.1 (part_ends h.inside.heap 100 from p h sound (grown_same h.inside.heap) f)

pub learn_each_ends : (from : ℕ) (ps : Parts) (h : Host) → IsSound h.inside → AllFit h.inside.heap 100 ps → EndsIn StopOf AllThere h.inside (learn_each (learn 100 from) ps h)
learn_each_ends from ps h sound f =
    let e = all_fit_learnt from ps h f in
    came AllThere h.inside (learn_each (learn 100 from) ps h) e.0 e.1.0 e.1.1 (parts_ends h.inside.heap 100 from ps h sound (grown_same h.inside.heap) f)
