-- In every world of a run each answer is claimed once at most at each vat, and the notes that arrive bring each name but gifts as new.
use Rattle.std.proofs.Common.{◌≡◌, ℕ, zero, suc, ◌+◌, ◌≤◌, List, [], ◌∷◌, ◌++◌, Option, Some, None, refl, ◌⊎◌, inl, inr, arith, map, subst}
use Rattle.std.specs.Prelude.{slice_get}
use Rattle.std.proofs.lemmas.Bool.{eq-eqb}
use Rattle.def_machine.specs.Values.{Words, Name, Root, Object, Promise, Answer, Gift, Sent, Msg, host_of, same_name}
use Rattle.def_machine.specs.State.{Passeds, Note, Deliver, Vat, Gives, begun, Delivery}
use Rattle.def_machine.specs.Arrive as arrive
use Rattle.def_machine.specs.Arrive.{Incoming, New}
use Rattle.law_machine.specs.Machine.Steps.{Step, Receives, does}
use Rattle.def_run.specs.Draws.{draw_word}
use Rattle.def_run.specs.World as world
use Rattle.def_run.specs.World.{Script, Program, Entry, Link, World, Goes as Going, names, names_of, read_note, read_name, read_all, is_old, readied, put_at, link_at}
use Rattle.law_reference.specs.Reference.Knowing.{one, once, claims, onward_all, numbered, numbered_at, new_in_all, brought, Knowing}
use Rattle.law_reference.specs.Reference.NameTableRuns.{other, allowed, is_own, is_own_name, answer_here, brings_here}
use Rattle.law_reference.proofs.Reference.OwnTargets.{deliver_near}
use Rattle.law_fate.specs.Name.Names.{IsMessageName, NoteOk, names_in}
use Rattle.law_fate.specs.Name.Runs.{KnowsOnce}
use Rattle.law_reference.specs.Reference.Bring.{IsNoGift, NotesBringNewButGifts}
use Rattle.law_reference.proofs.Reference.Moves.{Moved, Still, Severs, Drops, Steps, Arrives, Does, IsAlone, opened_hold, stepped_hold}
use Rattle.law_reference.proofs.Reference.Follow.{put_cases}
use Rattle.law_reference.proofs.Reference.FollowRuns.{after_gives}
use Rattle.law_reference.proofs.Reference.Telling.{tells}
use Rattle.law_reference.proofs.Reference.Neither.{brings_neither}
use Rattle.law_reference.proofs.Reference.Counts.{same_numbers, step_knows}
use Rattle.law_reference.proofs.Reference.LegRuns.{MailBits, Legs, Before, stands_of, first_mails, alone_brings}
use Rattle.law_reference.proofs.Reference.LegMoves.{LegsOf, legs_on, begins_legs, opened_before, stepped_before}
use Rattle.law_reference.proofs.Reference.Single.{Most, Single, OwnTarget, Bound, bound, abroad_none, brings_answer}

-- ---- a message on an object of the receiver

module _ (script : Script) (w : World) (a v : ℕ) (s t : Vat Name) (g : ℕ) (m : Msg) (same : s.number ≡ v) (far : g ≡ v → ⊥) where
  abbrev X : Name
  X = Answer g m

  abbrev Came : Note Name → Type 0
  Came n = does (names script v) (Receives a (read_note (names_of s) n)) (readied w s) ≡ Gives tt t

  abbrev Told : Note Name → Type 0
  Told n = claims v X t.known + numbered_at v X s ≤ claims v X s.known + numbered_at v X t + tells X (read_note (names_in s.known) n)

  -- such an object is not claimed
  abbrev Free : ℕ → Note Name → Type 0
  Free i n = claims v (Object v i) s.known + brings_here v (Object v i) a s.gifts (read_note (names_in s.known) n) ≤ 0

  near_base : (i : ℕ) (id : Delivery Name) (verb : Words) (ys : Passeds Name) → IsMessageName id.message → Free i (Deliver id (Object v i) verb ys) → Came (Deliver id (Object v i) verb ys) → Told (Deliver id (Object v i) verb ys)
  unfolding does names names_of readied arrive.arrive read_note read_name is_old brings_here tells is_own is_own_name answer_here
  near_base i id verb ys mail free came =
      let R : Incoming Name Name = New id.message (host_of id.message) in let P = (read_all ys (names_in s.known)).read in
      let none : claims v (Object v i) s.known + (answer_here v (Object v i) R + new_in_all (Object v i) P) ≤ 0 = rw (eq-eqb v v refl, brings_here) at free in
      let k : Knowing v X (answer_here v X R + new_in_all X P) (readied w s) t = after_gives (λ y z. Knowing v X (answer_here v X R + new_in_all X P) y z) (readied w s) t _ (deliver_near v (draw_word script.key) i X a R id.asks None verb P (readied w s) same none) came in
      let kept = k.kept same in let q = same_numbers v g m s in let r = same_numbers v g m (readied w s) in let z = abroad_none v g m id.message far mail in omega arith

  pub near_told : (n : Note Name) → NoteOk MailBits n → OwnTarget v n → ((i : ℕ) → Free i n) → Came n → Told n
  near_told (Deliver id (Object u i) verb ys) h own free came = subst (λ z. Free i (Deliver id (Object z i) verb ys) → Came (Deliver id (Object z i) verb ys) → Told (Deliver id (Object z i) verb ys)) own (near_base i id verb ys h.0) (free i) came
  near_told other h own free came = absurd own

-- ---- the moves

-- the other vats are as they were
single_put : (vs : List (Vat Name)) (v : ℕ) (t : Vat Name) → Single vs → ((g : ℕ) (m : Msg) → claims v (Answer g m) t.known ≤ Most v g m t) → Single (put_at v t vs)
single_put vs v t h k u r e g m = either (put_cases v t vs u r e)
  where
    either : ((u ≡ v) × (t ≡ r)) ⊎ ((u ≡ v → ⊥) × (slice_get vs u ≡ Some r)) → claims u (Answer g m) r.known ≤ Most u g m r
    either (inl i) = let one : claims u (Answer g m) t.known ≤ Most u g m t = rw i.0 (k g m) in rw i.1 at one
    either (inr i) = h u r i.1 g m

module _ (script : Script) where
  pub record Both (w : World) : Type 0 where
    pub legs : LegsOf w
    pub single : Single w.vats

  alone_single : (w : World) (v : ℕ) (s q t : Vat Name) (what : Step Name Name) → IsAlone what → Does script w v s q t what → Before script w → Single w.vats → Single (put_at v t w.vats)
  alone_single w v s q t what alone d b h = single_put w.vats v t h (λ g m.
      let counted = b.counted in let sound = counted.sound in let a = step_knows script w v s q t what d (sound.vats v s d.there) m g in let c = alone_brings v (Answer g m) s.gifts what alone in
      let e = same_numbers v g m s in let f = same_numbers v g m t in let i = h v s d.there g m in omega arith)

  note_single : (w : World) (a v : ℕ) (s t : Vat Name) (n : Note Name) (ns : List (Note Name)) (l : Link) → link_at a v w.links ≡ Some l → l.notes ≡ n ∷ ns → Does script w v s s t (Receives a (read_note (names_of s) n))
      → Before script w → Legs w.vats w.links → Single w.vats → Single (put_at v t w.vats)
  unfolding names_of brought allowed other numbered
  note_single w a v s t n ns l at notes d b legs h = single_put w.vats v t h (λ g m. either g m (bound script w b legs h a v s n ns l d.there at notes g m))
    where
      free : (i : ℕ) → claims v (Object v i) s.known + brings_here v (Object v i) a s.gifts (read_note (names_in s.known) n) ≤ 0
      free i = brings_neither script w a v l n ns s (stands_of script w b) at notes d.there (Object v i) tt

      either : (g : ℕ) (m : Msg) → Bound script w b legs h a v s n ns l d.there at notes g m → claims v (Answer g m) t.known ≤ Most v g m t
      either g m (inl k) = let counted = b.counted in let sound = counted.sound in let c = step_knows script w v s s t (Receives a (read_note (names_in s.known) n)) d (sound.vats v s d.there) m g in
          let e = same_numbers v g m s in let f = same_numbers v g m t in omega arith
      either g m (inr k) = let counted = b.counted in let sound = counted.sound in let here = sound.vats v s d.there in
          let c = near_told script w a v s t g m here.same k.0 n (first_mails script w a v n ns l b at notes) k.1 free d.gives in let x = k.2 in
          let e = same_numbers v g m s in let f = same_numbers v g m t in omega arith

  both_on : (w y : World) → Before script w → Before script y → Moved script w y → Both w → Both y
  both_on w y p r move h = record { legs = legs_on script w y p r move h.legs; single = vats_on move }
    where
      vats_on : Moved script w y → Single y.vats
      vats_on (Still e f d) = rw e h.single
      vats_on (Severs a b e f d) = rw e h.single
      vats_on (Drops a v n ns l at notes none e f d) = rw e h.single
      vats_on (Steps v s q t what alone does e f d first fresh) = rw e (alone_single w v s q t what alone does p h.single)
      vats_on (Arrives a v s t n ns l at cut notes does e f d first fresh) = rw e (note_single w a v s t n ns l at notes does p h.legs h.single)

  -- ---- the start

  no_claim : (v g : ℕ) (m : Msg) (us : List ℕ) → claims v (Answer g m) (map world.known_root us) ≤ 0
  unfolding claims world.known_root begun onward_all one once same_name
  no_claim v g m [] = omega arith
  no_claim v g m (u ∷ us) = let rest = no_claim v g m us in root_none u rest
    where
      root_none : (u : ℕ) → claims v (Answer g m) (map world.known_root us) ≤ 0 → one (Root u) (Answer g m) + 0 + claims v (Answer g m) (map world.known_root us) ≤ 0
      root_none u r = omega arith

  fresh_single : (d : ℕ) (ps : List Program) (u : ℕ) (s : Vat Name) → slice_get (world.fresh_from script d ps) u ≡ Some s → (v g : ℕ) (m : Msg) → claims v (Answer g m) s.known ≤ 0
  unfolding world.fresh_from world.fresh world.known_root begun world.knowers claims
  fresh_single d [] u s e v g m = cc
  fresh_single d (p ∷ ps) zero s e v g m = of_one (some_is (world.fresh script d p) s e)
    where
      some_is : (x y : Vat Name) → ◌≡◌ {A = Option (Vat Name)} (Some x) (Some y) → x ≡ y
      some_is x y i = cc

      of_one : world.fresh script d p ≡ s → claims v (Answer g m) s.known ≤ 0
      of_one i = subst (λ (z : Vat Name). claims v (Answer g m) z.known ≤ 0) i (no_claim v g m (d ∷ p.knows))
  fresh_single d (p ∷ ps) (suc u) s e v g m = fresh_single (suc d) ps u s e v g m

  begins_both : Both (world.begins script)
  unfolding world.begins
  begins_both = record { legs = begins_legs script; single = λ v s e g m. let a = fresh_single zero script.vats v s e v g m in omega arith }

  module _ (once : KnowsOnce script) where
    pub opened_both : (ps rest : List Program) (w : World) → script.vats ≡ ps ++ rest → world.open_from script zero ps (world.begins script) ≡ Going w → Both w
    opened_both = opened_hold script (Before script) (opened_before script once) (stepped_before script once) (stands_of script) Both both_on begins_both

    pub stepped_both : (w x : World) (es : List Entry) (k : ℕ) → world.open_from script zero script.vats (world.begins script) ≡ Going w → world.steps_from script es k w ≡ Going x → Both x
    stepped_both = stepped_hold script (Before script) (opened_before script once) (stepped_before script once) (stands_of script) Both both_on begins_both

-- ---- all names but gifts

module _ (script : Script) (w : World) (b : Before script w) (h : Both script w) (from to : ℕ) (l : Link) (n : Note Name) (ns : List (Note Name)) (s : Vat Name) (at : link_at from to w.links ≡ Some l) (notes : l.notes ≡ n ∷ ns) (there : slice_get w.vats to ≡ Some s) where
  answer_new : (g : ℕ) (m : Msg) → claims to (Answer g m) s.known + brings_here to (Answer g m) from s.gifts (read_note (names_in s.known) n) ≤ allowed to (Answer g m) s w.drawn
  unfolding allowed numbered numbered_at
  answer_new g m = let a = brings_answer script w b h.legs h.single from to s n ns l there at notes g m in let e = same_numbers to g m s in let f : numbered to (Answer g m) s.promises s.messages w.drawn ≡ numbered_at to (Answer g m) s = numbers_same in omega arith
    where
      numbers_same : numbered to (Answer g m) s.promises s.messages w.drawn ≡ numbered_at to (Answer g m) s
      numbers_same = refl

  pub but_gifts : (x : Name) → IsNoGift x → claims to x s.known + brings_here to x from s.gifts (read_note (names_in s.known) n) ≤ allowed to x s w.drawn
  but_gifts (Root u) k = brings_neither script w from to l n ns s (stands_of script w b) at notes there (Root u) tt
  but_gifts (Object u i) k = brings_neither script w from to l n ns s (stands_of script w b) at notes there (Object u i) tt
  but_gifts (Promise u i) k = brings_neither script w from to l n ns s (stands_of script w b) at notes there (Promise u i) tt
  but_gifts (Answer g m) k = answer_new g m
  but_gifts (Gift u i) k = absurd k
  but_gifts (Sent m) k = brings_neither script w from to l n ns s (stands_of script w b) at notes there (Sent m) tt

pub notes_bring_new_but_gifts : NotesBringNewButGifts
unfolding names_of
notes_bring_new_but_gifts script once = (
  λ ps rest w i e from to l n ns s a b c x k. but_gifts script w (opened_before script once ps rest w i e) (opened_both script once ps rest w i e) from to l n ns s a b c x k,
  λ w y es k o e from to l n ns s a b c x j. but_gifts script y (stepped_before script once w y es k o e) (stepped_both script once w y es k o e) from to l n ns s a b c x j,
)
