-- What a vat asks for it learns as the run has it.
use Rattle.std.proofs.Common.{◌≡◌, ℕ, ◌+◌, ◌<◌, ◌≤◌, Bool, true, false, cond, List, [], ◌∷◌, ◌++◌, map, length, drop, get_or, Option, Some, None, is_some, refl, sym, ap, subst, ◌∙◌}
use Rattle.std.specs.Prelude.{option_map, if◌then◌else◌}
use Rattle.std.proofs.lemmas.List.{drop_all, drop_more, map-append}
use Rattle.def_hostile.specs.Arrivals.{all_learnt, learnt_after, learnt_by}
use Rattle.def_machine.specs.State as machine
use Rattle.def_machine.specs.Values.{Words, Local, Prom}
use Rattle.def_run.specs.Connections.{Learnt, learnt_at}
use Rattle.ev_pass.specs.Notes.{Sent, key_of, noted, sent}
use Rattle.ev_pass.specs.Reading.{note_by, put_by}
use Rattle.ev_pass.specs.declared.note.Note.{Note}
use Rattle.ev_pass.specs.declared.note.Note.TheVariants as note
use Rattle.ev_pass.specs.declared.post.Put.{Put}
use Rattle.ev_reception.specs.Asks.{ask_in, ask_of, learnt_if, puts_learnt}
use Rattle.ev_wire.proofs.HearingMachine.{find_is, put_last}
use Rattle.ev_wire.specs.Learnt.{LearntGift, LearntGifts, find, put}
use Rattle.ev_wire.specs.Reading.{learnt_of}

-- ---- one note after the other, as a loop does it

first : (ps : List Put) (k : ℕ) (p : Put) → k < length ps → p ≡ get_or ps k p → drop k ps ≡ p ∷ drop (k + 1) ps
first ps k p lt is = drop_more ps k p lt ∙ ap (λ (z : Put). z ∷ drop (k + 1) ps) (sym is)

pub learnt_on : (ps : List Put) (k : ℕ) (p : Put) (gs hs whole : LearntGifts) → k < length ps → p ≡ get_or ps k p → hs ≡ learnt_if (ask_in p) gs
    → puts_learnt (drop k ps) gs ≡ whole → puts_learnt (drop (k + 1) ps) hs ≡ whole
unfolding puts_learnt
learnt_on ps k p gs hs whole lt at is so_far = ap (puts_learnt (drop (k + 1) ps)) is ∙ ap (λ (qs : List Put). puts_learnt qs gs) (sym (first ps k p lt at)) ∙ so_far

pub learnt_done : (ps : List Put) (k : ℕ) (gs whole : LearntGifts) → length ps ≤ k → puts_learnt (drop k ps) gs ≡ whole → gs ≡ whole
unfolding puts_learnt
learnt_done ps k gs whole le so_far = ap (λ (qs : List Put). puts_learnt qs gs) (sym (drop_all k ps le)) ∙ so_far

-- ---- in the run

abbrev chosen : {A : Type 0} → Bool → A → A → A
chosen b x y = elim b [ true ↦ x | false ↦ y ]

abbrev theirs : LearntGifts → List (Learnt Local)
theirs gs = map learnt_of gs

one_asked : (g : LearntGift) (gs : LearntGifts) (o : Option ℕ) (q : Option Local) → find g.host g.provider g.word gs ≡ o → q ≡ option_map Prom o
    → chosen (is_some q) (theirs gs) (theirs gs ++ learnt_of g ∷ []) ≡ theirs (if is_some o then gs else put g gs)
one_asked g gs (Some n) q e f = ap (λ (p : Option Local). chosen (is_some p) (theirs gs) (theirs gs ++ learnt_of g ∷ [])) f
one_asked g gs None q e f =
    ap (λ (p : Option Local). chosen (is_some p) (theirs gs) (theirs gs ++ learnt_of g ∷ [])) f
    ∙ sym (map-append learnt_of gs (g ∷ [])) ∙ ap theirs (sym (put_last g gs e))

asked_is : (ts : List Words) (to : ℕ) (n : Note) (gs : LearntGifts) → learnt_by (note_by ts (noted n)) to (theirs gs) ≡ theirs (learnt_if (ask_of to n) gs)
unfolding learnt_by
asked_is ts to (note.Ask p i m) gs =
    one_asked (record { host = to; provider = i.provider; word = i.word; name = m }) gs (find to i.provider i.word gs) (learnt_at to (key_of i) (theirs gs)) refl (find_is to i.provider i.word gs)
asked_is ts to (note.Deliver message answer target verb args) gs = refl
asked_is ts to (note.Open i x) gs = refl
asked_is ts to (note.Settled n p) gs = refl
asked_is ts to (note.Elsewhere n c) gs = refl
asked_is ts to (note.Shorten n c i) gs = refl

all_is : (ts : List Words) (ps : List Put) (gs : LearntGifts) → all_learnt (map (put_by ts) (map sent ps)) (theirs gs) ≡ theirs (puts_learnt ps gs)
unfolding all_learnt puts_learnt
all_is ts [] gs = refl
all_is ts (p ∷ ps) gs = ap (all_learnt (map (put_by ts) (map sent ps))) (asked_is ts p.to p.note gs) ∙ all_is ts ps (learnt_if (ask_in p) gs)

pub none_learnt : (alone : Bool) (ps : List (machine.Put Local)) (gs : List (Learnt Local)) → alone ≡ true → gs ≡ learnt_after alone ps gs
unfolding learnt_after
none_learnt true ps gs e = refl
none_learnt false ps gs e = absurd cc

pub all_asked : (ts : List Words) (alone : Bool) (post : List Sent) (ps : List Put) (l r : LearntGifts) → alone ≡ false → map sent ps ≡ post → l ≡ puts_learnt ps r
    → theirs l ≡ learnt_after alone (map (put_by ts) post) (theirs r)
unfolding learnt_after
all_asked ts true post ps l r e posted is = absurd cc
all_asked ts false post ps l r e posted is = ap theirs is ∙ sym (all_is ts ps r) ∙ ap (λ (ss : List Sent). all_learnt (map (put_by ts) ss) (theirs r)) posted
