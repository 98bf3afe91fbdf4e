-- What acts leave of a vat, one after another.
use Rattle.std.proofs.Common.{◌≡◌, Bool, true, false, List, [], ◌++◌, Ok, Err, refl, sym, ap, ◌∙◌, append_assoc, append-nil}
use Rattle.std.specs.Prelude.{if◌then◌else◌}
use Rattle.ev_heap.specs.Contents.{Contents}
use Rattle.ev_heap.specs.declared.kept.Listed.{Listed}
use Rattle.ev_intro.specs.Gift.{Gifts}
use Rattle.ev_pass.specs.Acts as inner
use Rattle.ev_pass.specs.declared.interior.Interior.{Interior}
use Rattle.ev_pass.specs.declared.interior.Stop.{Stop}
use Rattle.ev_room.specs.Sound.{Grown, IsSound, is_there}
use Rattle.ev_arrive.specs.Acts.{Act, Out, and_then, around, ◌>>=◌, ◌>>◌, give, within}
use Rattle.ev_arrive.specs.declared.host.Host.{Host}
use Rattle.law_evaluation.specs.Acts.Kinds.{Anything, EndsOf, InsideOf, StopOf}
use Rattle.law_evaluation.proofs.Acts.Referring.{base_of, sound_after}
use Rattle.law_evaluation.specs.Arrivals.Arrivals.{EndsIn, EndsSound, Leaves, MoreLists, Whatever}

-- ---- lists alone

pub more_same : (a b : Contents) → b ≡ a → MoreLists a b
more_same a b e = record {
  things = ap (λ (h : Contents). h.things) e;
  slots = ap (λ (h : Contents). h.slots) e;
  texts = ap (λ (h : Contents). h.texts) e;
  codes = ap (λ (h : Contents). h.codes) e;
  lists = ([], ap (λ (h : Contents). h.lists) e ∙ sym (append-nil a.lists));
}

pub more_on : {a b c : Contents} → MoreLists a b → MoreLists b c → MoreLists a c
more_on {a = a} g k = record {
  things = k.things ∙ g.things;
  slots = k.slots ∙ g.slots;
  texts = k.texts ∙ g.texts;
  codes = k.codes ∙ g.codes;
  lists = (g.lists.0 ++ k.lists.0, k.lists.1 ∙ ap (λ (ls : List Listed). ls ++ k.lists.0) g.lists.1 ∙ append_assoc a.lists g.lists.0 k.lists.0);
}

pub more_grown : {a b : Contents} → MoreLists a b → Grown a b
more_grown {a = a} g = record { texts = ([], g.texts ∙ sym (append-nil a.texts)); lists = g.lists }

pub leaves_same : (s : Interior) → IsSound s → Leaves s s
leaves_same s sound = record { heap = more_same s.heap s.heap refl; stays = refl; sound = sound }

pub leaves_on : {s t u : Interior} → Leaves s t → Leaves t u → Leaves s u
leaves_on a b = record { heap = more_on a.heap b.heap; stays = b.stays ∙ a.stays; sound = b.sound }

-- what acts on references leave
pub leaves_inside : (s : Interior) → IsSound s → (t : Interior) → InsideOf (is_there s.heap) (base_of s) t → Leaves s t
leaves_inside s sound t g = record { heap = more_same s.heap t.heap g.heap; stays = g.key; sound = sound_after s sound t g }

-- ---- one thing after another

pub later : {A : Type 0} (P : Stop → Type 0) (Q : Contents → A → Type 0) (s t : Interior) (o : Out A) → Leaves s t → EndsIn P Q t o → EndsIn P Q s o
later P Q s t (Ok a, h) l g = (g.0, leaves_on l g.1)
later P Q s t (Err e, h) l g = (g.0, leaves_on l g.1)

pub then_leaves : {A B : Type 0} (P : Stop → Type 0) (Q : Contents → A → Type 0) (R : Contents → B → Type 0) (s : Interior) (o : Out A) (f : A → Act B) → EndsIn P Q s o
    → ((a : A) (h : Host) → Leaves s h.inside → Q h.inside.heap a → EndsIn P R h.inside (f a h)) → EndsIn P R s (and_then o f)
unfolding and_then
then_leaves P Q R s (Ok a, h) f g next = later P R s h.inside (f a h) g.1 (next a h g.1 g.0)
then_leaves P Q R s (Err e, h) f g next = g

-- where any stop will do
pub loosened : {A : Type 0} (Q : Contents → A → Type 0) (s : Interior) (o : Out A) → EndsIn StopOf Q s o → EndsIn Anything Q s o
loosened Q s (Ok a, h) g = g
loosened Q s (Err e, h) g = (tt, g.1)

around_leaves : {A : Type 0} (s : Interior) (gs : Gifts) (o : inner.Out A) → IsSound s → EndsOf (is_there s.heap) (base_of s) Anything o → EndsSound s (around gs o)
around_leaves s gs (Ok a, t) sound g = (tt, leaves_inside s sound t g.1)
around_leaves s gs (Err e, t) sound g = (g.0, leaves_inside s sound t g.1)

-- ---- acts that leave each vat sound

abbrev pub Sounds : {A : Type 0} → Act A → Type 0
Sounds m = (h : Host) → IsSound h.inside → EndsSound h.inside (m h)

-- what is done inside
pub sounds_at : {A : Type 0} (m : inner.Act A) (h : Host) → IsSound h.inside → EndsOf (is_there h.inside.heap) (base_of h.inside) Anything (m h.inside) → EndsSound h.inside (within m h)
unfolding within
sounds_at m h sound g = around_leaves h.inside h.gifts (m h.inside) sound g

pub sounds_within : {A : Type 0} (m : inner.Act A) → ((s : Interior) → IsSound s → EndsOf (is_there s.heap) (base_of s) Anything (m s)) → Sounds (within m)
sounds_within m each h sound = sounds_at m h sound (each h.inside sound)

pub sounds_give : {A : Type 0} (a : A) → Sounds (give a)
unfolding give
sounds_give a h sound = (tt, leaves_same h.inside sound)

pub sounds_then : {A B : Type 0} (m : Act A) (f : A → Act B) → Sounds m → ((a : A) → Sounds (f a)) → Sounds (m >>= f)
unfolding ◌>>=◌
sounds_then m f a b h sound = then_leaves StopOf Whatever Whatever h.inside (m h) f (a h sound) (λ x k l u. b x k l.sound)

pub sounds_and : {A B : Type 0} (m : Act A) (n : Act B) → Sounds m → Sounds n → Sounds (m >> n)
unfolding ◌>>◌
sounds_and m n a b h sound = then_leaves StopOf Whatever Whatever h.inside (m h) (λ _. n) (a h sound) (λ x k l u. b k l.sound)

pub sounds_if : {A : Type 0} (b : Bool) (m n : Act A) → Sounds m → Sounds n → Sounds (if b then m else n)
sounds_if true m n a b = a
sounds_if false m n a b = b
