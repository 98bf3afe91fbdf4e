-- The gifts of the notes so far, and those of the notes to come.
use Rattle.std.proofs.Common.{◌≡◌, ℕ, suc, ◌+◌, ◌<◌, ◌≤◌, List, [], ◌∷◌, ◌++◌, drop, get_or, length, map, sym, ap, ◌∙◌, arith}
use Rattle.std.proofs.Math.Seq.{drop-cons}
use Rattle.std.proofs.lemmas.List.{append_assoc, append-nil, drop_all, map-append}
use Rattle.def_machine.specs.Values.{Words}
use Rattle.def_hostile.specs.Claims.{Claim}
use Rattle.def_hostile.specs.Made.{made_by, made_in}
use Rattle.ev_claims.specs.Gifts.{claim_of, claims_of}
use Rattle.ev_claims.specs.declared.gift.GiftId.{GiftId}
use Rattle.ev_made_gifts.specs.Made.{with_gift_of}
use Rattle.ev_pass.specs.Notes.{noted, sent}
use Rattle.ev_pass.specs.Reading.{note_by, put_by}
use Rattle.ev_pass.specs.declared.note.Note.{Note}
use Rattle.ev_pass.specs.declared.note.Note.TheVariants as note
use Rattle.ev_pass.specs.declared.post.Put.{Put}

one_more : (ts : List Words) (gs : List GiftId) (to : ℕ) (n : Note) → claims_of (with_gift_of gs to n) ≡ claims_of gs ++ made_in to (note_by ts (noted n))
unfolding with_gift_of made_in
one_more ts gs to (note.Open s x) = map-append claim_of gs (record { host = to; provider = s.provider; word = s.word } ∷ [])
one_more ts gs to (note.Shorten n c s) = map-append claim_of gs (record { host = c; provider = s.provider; word = s.word } ∷ [])
one_more ts gs to (note.Deliver m a x verb args) = sym (append-nil (claims_of gs))
one_more ts gs to (note.Ask p s n) = sym (append-nil (claims_of gs))
one_more ts gs to (note.Settled n p) = sym (append-nil (claims_of gs))
one_more ts gs to (note.Elsewhere n c) = sym (append-nil (claims_of gs))

abbrev pub all_made : List Words → List Put → List Claim
all_made ts ps = made_by (map (put_by ts) (map sent ps))

pub made_next : (ts : List Words) (ps : List Put) (i : ℕ) (p : Put) (gs hs : List GiftId) → i < length ps → p ≡ get_or ps i p → hs ≡ with_gift_of gs p.to p.note
    → claims_of gs ++ all_made ts (drop i ps) ≡ all_made ts ps → claims_of hs ++ all_made ts (drop (i + 1) ps) ≡ all_made ts ps
unfolding made_by
made_next ts ps i p gs hs lt at e h =
    let s : i + 1 ≡ suc i = omega arith in
    let d : drop i ps ≡ p ∷ drop (suc i) ps = drop-cons ps i p lt ∙ ap (λ (x : Put). x ∷ drop (suc i) ps) (sym at) in
    ap (λ (j : ℕ). claims_of hs ++ all_made ts (drop j ps)) s
    ∙ (ap (λ (xs : List GiftId). claims_of xs ++ all_made ts (drop (suc i) ps)) e
    ∙ (ap (λ (cs : List Claim). cs ++ all_made ts (drop (suc i) ps)) (one_more ts gs p.to p.note)
    ∙ (append_assoc (claims_of gs) (made_in p.to (note_by ts (noted p.note))) (all_made ts (drop (suc i) ps))
    ∙ (ap (λ (xs : List Put). claims_of gs ++ all_made ts xs) (sym d) ∙ h))))

pub made_all : (ts : List Words) (ps : List Put) (i : ℕ) (gs : List GiftId) → length ps ≤ i → claims_of gs ++ all_made ts (drop i ps) ≡ all_made ts ps → claims_of gs ≡ all_made ts ps
unfolding made_by
made_all ts ps i gs le h = sym (append-nil (claims_of gs)) ∙ (ap (λ (xs : List Put). claims_of gs ++ all_made ts xs) (sym (drop_all i ps le)) ∙ h)
