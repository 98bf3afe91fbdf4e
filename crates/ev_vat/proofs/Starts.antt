-- A vat at its start.
use Rattle.std.proofs.Common.{◌≡◌, ℕ, zero, suc, ◌+◌, ◌<◌, List, [], ◌∷◌, ◌++◌, get_or, length, map, take, refl, sym, ap, subst, ◌∙◌, append-nil, arith}
use Rattle.std.specs.Prelude.{IfSome, slice_get, slice_set}
use Rattle.std.proofs.lemmas.List.{take_more}
use Rattle.std.proofs.lemmas.List.Sums.{fold-append}
use Rattle.def_machine.specs.State as machine
use Rattle.def_machine.specs.State.{Happened, Known as TheirKnown, Put, Vat}
use Rattle.def_machine.specs.Values.{Words, Local, Prom}
use Rattle.ev_arrive.specs.Reading.{with_gifts}
use Rattle.ev_heap.specs.Contents.{nothing}
use Rattle.ev_intro.specs.Gift.{Gifts}
use Rattle.ev_pass.specs.Acts.{words_by}
use Rattle.ev_pass.specs.Reading as inside
use Rattle.ev_pass.specs.declared.interior.Interior.{Interior}
use Rattle.ev_refs.specs.Changes.{unless_settled, with_told}
use Rattle.ev_refs.specs.Reading.{knowns_by, mails_by}
use Rattle.ev_refs.specs.References.{References, no_references, unsettled_of}
use Rattle.ev_refs.specs.declared.known.Known.{Known}
use Rattle.ev_room.specs.Holding.{Every, KnownOf}
use Rattle.ev_room.specs.Reading.{World, texts_of, vat_of}
use Rattle.ev_room.specs.Sound.{IsSound, cycle_id, is_there, partition_id, problems}
use Rattle.ev_vat.specs.Rooted.{IsRooted, each_once, fresh, root_of, root_references, roots_known}
use Rattle.law_evaluation.proofs.Acts.Referring.{base_of, sound_after}
use Rattle.law_evaluation.specs.Acts.Kinds.{InsideOf}

-- ---- it is sound

module _ (i : Interior) where
  each_root : (vs : List ℕ) → Every (KnownOf (is_there i.heap)) (map unsettled_of vs)
  each_root [] = tt
  each_root (v ∷ vs) = ((tt, (tt, tt)), each_root vs)

  inside_root : (me : ℕ) (knows known_by : List ℕ) → i.refs ≡ no_references me partition_id cycle_id → InsideOf (is_there i.heap) (base_of i) (record i { refs = root_references me knows known_by })
  inside_root me knows known_by e = record {
    heap = refl;
    refs = record {
      known = ((tt, (tt, tt)), each_root knows);
      queue = tt;
      partition = sym (ap (λ (r : References). r.partition) e);
      cycle = sym (ap (λ (r : References). r.cycle) e);
    };
    heavy = refl;
    key = refl;
  }

-- where references came to a vat that had none
pub starts_sound : (i : Interior) (me : ℕ) (knows known_by : List ℕ) (r : References) → IsSound i → i.refs ≡ no_references me partition_id cycle_id → r ≡ root_references me knows known_by → IsSound (record i { refs = r })
starts_sound i me knows known_by r sound e f =
    subst (λ (x : References). IsSound (record i { refs = x })) (sym f) (sound_after i sound (record i { refs = root_references me knows known_by }) (inside_root i me knows known_by e))

-- ---- who is to be told of the root

pub root_there : (r s : References) (k : Known) → r ≡ record s { known = k ∷ [] } → 0 < length r.known
root_there r s k e = subst (λ (x : References). 0 < length x.known) (sym e) (let one : 0 < 1 = omega arith in one)

pub none_told : (r : References) (me : ℕ) → r.known ≡ root_of me [] ∷ [] → r ≡ record r { known = root_of me (each_once []) ∷ [] }
none_told r me e = ap (λ (ks : List Known). record r { known = ks }) e

pub told_on : (r s t : References) (vs : List ℕ) (i v : ℕ) → i < length vs → v ≡ get_or vs i v → r ≡ record s { known = root_of s.me (each_once (take i vs)) ∷ [] }
    → IfSome (slice_get r.known 0) (λ k. t ≡ record r { known = slice_set r.known 0 (with_told v k) }) → t ≡ record s { known = root_of s.me (each_once (take (i + 1) vs)) ∷ [] }
unfolding unless_settled
told_on r s t vs i v lt is at told =
    let said : t ≡ record s { known = root_of s.me (machine.with_vat v (each_once (take i vs))) ∷ [] } =
    subst (λ (x : References). IfSome (slice_get x.known 0) (λ k. t ≡ record x { known = slice_set x.known 0 (with_told v k) })) at told in
    let more : take (i + 1) vs ≡ take i vs ++ v ∷ [] = take_more vs i v lt ∙ ap (λ (z : ℕ). take i vs ++ z ∷ []) (sym is) in
    let next : each_once (take (i + 1) vs) ≡ machine.with_vat v (each_once (take i vs)) = ap each_once more ∙ fold-append (λ (ws : List ℕ) (u : ℕ). machine.with_vat u ws) [] (take i vs) (v ∷ []) in
    said ∙ ap (λ (ws : List ℕ). record s { known = root_of s.me ws ∷ [] }) (sym next)

-- ---- it is the machine's

known_are : (ts : List Words) (n : ℕ) (vs : List ℕ) → knowns_by ts n (map unsettled_of vs) ≡ roots_known n vs
unfolding knowns_by machine.begun
known_are ts n [] = refl
known_are ts n (v ∷ vs) = ap (λ (ks : List (TheirKnown Local)). machine.begun (Prom n) v ∷ ks) (known_are ts (suc n) vs)

module _ (w : World) (i : Interior) (gs : Gifts) (me fuel : ℕ) (knows known_by : List ℕ) (key : List ℕ) where
  abbrev starting : List (TheirKnown Local) → List (Put Local) → List (Happened Local) → Vat Local
  starting ks ps hs = record (fresh me fuel knows known_by) { known = ks; outbox = ps; happened = hs }

  raw : IsRooted me knows known_by key i → i.heap ≡ record nothing { texts = problems } → i.micro ≡ record { fuel = fuel; events = [] } → gs ≡ []
      → with_gifts gs (vat_of w i) ≡ starting (knowns_by (texts_of w) 0 (root_references me knows known_by).known) (w.before.outbox ++ []) (w.before.happened ++ [])
  unfolding vat_of mails_by words_by inside.lines_of
  raw r heap micro gifts = rw (gifts, r.refs, r.drawn, r.post, heap, micro) refl

  known_so : knowns_by (texts_of w) 0 (root_references me knows known_by).known ≡ (fresh me fuel knows known_by).known
  unfolding knowns_by machine.begun
  known_so = ap (λ (ks : List (TheirKnown Local)). record (machine.begun (Prom zero) me) { told = each_once known_by } ∷ ks) (known_are (texts_of w) 1 knows)

  pub starts : IsRooted me knows known_by key i → i.heap ≡ record nothing { texts = problems } → i.micro ≡ record { fuel = fuel; events = [] } → gs ≡ []
      → with_gifts gs (vat_of w i) ≡ record (fresh me fuel knows known_by) { outbox = w.before.outbox; happened = w.before.happened }
  starts r heap micro gifts =
      raw r heap micro gifts
      ∙ ap (λ (ks : List (TheirKnown Local)). starting ks (w.before.outbox ++ []) (w.before.happened ++ [])) known_so
      ∙ ap (λ (ps : List (Put Local)). starting (fresh me fuel knows known_by).known ps (w.before.happened ++ [])) (append-nil w.before.outbox)
      ∙ ap (λ (hs : List (Happened Local)). starting (fresh me fuel knows known_by).known w.before.outbox hs) (append-nil w.before.happened)

-- ---- the steps of the start

pub roots_are : (i a b d : References) (me : ℕ) (knows known_by : List ℕ) → i ≡ no_references me partition_id cycle_id → a ≡ record i { known = i.known ++ unsettled_of me ∷ [] }
    → b ≡ record a { known = root_of a.me (each_once known_by) ∷ [] } → d ≡ record b { known = b.known ++ map unsettled_of knows } → d ≡ root_references me knows known_by
roots_are i a b d me knows known_by e f g h =
    h
    ∙ ap (λ (r : References). record r { known = r.known ++ map unsettled_of knows })
    (g ∙ ap (λ (r : References). record r { known = root_of r.me (each_once known_by) ∷ [] }) (f ∙ ap (λ (r : References). record r { known = r.known ++ unsettled_of me ∷ [] }) e))

pub begins_so : (w : World) (i : Interior) (gs : Gifts) (me fuel : ℕ) (knows known_by key : List ℕ) (d : References) → d ≡ root_references me knows known_by → i.words ≡ record { key = key; count = 0 } → i.post ≡ []
    → i.heap ≡ record nothing { texts = problems } → i.micro ≡ record { fuel = fuel; events = [] } → gs ≡ []
    → with_gifts gs (vat_of w (record i { refs = d })) ≡ record (fresh me fuel knows known_by) { outbox = w.before.outbox; happened = w.before.happened }
begins_so w i gs me fuel knows known_by key d refs words post heap micro gifts =
    starts w (record i { refs = d }) gs me fuel knows known_by key (record { refs = refs; drawn = rw words refl; key = rw words refl; post = post }) heap micro gifts
