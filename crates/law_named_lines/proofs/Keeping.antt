-- A line whose gifts have names keeps its text.
use Rattle.std.proofs.Common.{◌≡◌, inl, inr, ℕ, zero, suc, ◌+◌, ◌<◌, ◌%◌, nat_eq, arith, Bool, true, false, ◌||◌, List, [], ◌∷◌, ◌++◌, refl, sym, ap, subst, ◌∙◌}
use Rattle.std.proofs.lemmas.Bool.{eqb-true}
use Rattle.std.proofs.lemmas.Nat.{mod_below}
use Rattle.def_machine.specs.State.{is_in}
use Rattle.def_machine.specs.Values.{provider_of, word_of}
use Rattle.def_machine.proofs.Keys.{provider_key, word_key}
use Rattle.def_run.specs.Marks.{base, is_spelled_out, spelled_out}
use Rattle.def_run.specs.Shown.{place_of}
use Rattle.def_run.specs.World.{Event}
use Rattle.def_hostile.specs.Claims.{Claim, is_claimed, spelled_if, spelled_key, spelled_event}
use Rattle.def_hostile.specs.Hostile.{Line, Told, Injected, NotInjected, Refused, Unread, LeftFrame}
use Rattle.def_hostile.specs.HostileText.{shown_line, shown_lines}
use Rattle.def_hostile.specs.Made.{claim_all, is_named}
use Rattle.def_hostile.specs.ShownMarks.{gift_by, shown_event, shown_gift}
use Rattle.ev_base.specs.declared.names.Name.TheVariants as name
use Rattle.ev_claims.proofs.Keeping.{claims_keep}
use Rattle.ev_claims.proofs.Same.{alike, equal_is}
use Rattle.ev_claims.proofs.Showing.{spelled_prints}
use Rattle.law_named_lines.specs.Gifts.{InEvent, InLine, InLines}
use Rattle.law_named_lines.specs.Statements.{HasName, LinesKeepTheirText}
use Rattle.law_named_lines.proofs.Alike.{event_alike}
use Rattle.law_named_lines.proofs.Rekeyed.{event_is}

-- ---- words

kept_by : (b c : Bool) (w : ℕ) (ws more : List ℕ) → b ≡ c → (is_in w ws ≡ true → place_of (ws ++ more) w ≡ place_of ws w) → ◌≡◌ {A = Bool} (elim b [ true ↦ true | false ↦ is_in w ws ]) true
    → ◌≡◌ {A = ℕ} (elim c [ true ↦ zero | false ↦ suc (place_of (ws ++ more) w) ]) (elim c [ true ↦ zero | false ↦ suc (place_of ws w) ])
kept_by true true w ws more s f e = refl
kept_by false false w ws more s f e = ap suc (f e)
kept_by true false w ws more s f e = absurd cc
kept_by false true w ws more s f e = absurd cc

either_way : (a b : ℕ) → nat_eq a b ≡ nat_eq b a
either_way a b = alike (nat_eq a b) (nat_eq b a) (λ e. equal_is b a (sym (eqb-true a b e))) (λ e. equal_is a b (sym (eqb-true b a e)))

-- the place of a word among others stays where more come behind
place_stays : (xs ys : List ℕ) (w : ℕ) → is_in w xs ≡ true → place_of (xs ++ ys) w ≡ place_of xs w
unfolding place_of is_in
place_stays [] ys w e = absurd cc
place_stays (x ∷ xs) ys w e = kept_by (nat_eq w x) (nat_eq x w) w xs ys (either_way w x) (place_stays xs ys w) e

-- ---- gifts

spelled_alike : (draws more : List ℕ) (h i : ℕ) → shown_gift (draws ++ more) h (spelled_out i) ≡ shown_gift draws h (spelled_out i)
spelled_alike draws more h i = spelled_prints (draws ++ more) h i ∙ sym (spelled_prints draws h i)

twice_out : (p : ℕ) → (p % 16 + 32) % 16 ≡ p % 16
twice_out p = let h : p % 16 < 16 = mod_below p 16 (omega arith) in omega arith

out_provider : (j : ℕ) → provider_of (spelled_out j) % 16 ≡ provider_of j % 16
unfolding spelled_out
out_provider j = ap (λ (p : ℕ). p % 16) (provider_key (provider_of j % 16 + 32) (word_of j)) ∙ twice_out (provider_of j)

out_word : (j : ℕ) → word_of (spelled_out j) ≡ word_of j
unfolding spelled_out
out_word j = word_key (provider_of j % 16 + 32) (word_of j)

-- what prints by its word does so claimed or not
out_by : (draws : List ℕ) (cs : List Claim) (h j : ℕ) (b : Bool) → shown_gift draws h (spelled_if cs (spelled_out j) b) ≡ name.Claimed h (provider_of j % 16) (word_of j)
unfolding spelled_if
out_by draws cs h j false = spelled_prints draws h j
out_by draws cs h j true =
    spelled_prints draws h (spelled_out j)
    ∙ (ap (λ (p : ℕ). name.Claimed h p (word_of (spelled_out j))) (out_provider j) ∙ ap (λ (w : ℕ). name.Claimed h (provider_of j % 16) w) (out_word j))

word_prints : (draws more : List ℕ) (cs ds : List Claim) (h i j : ℕ) → i ≡ spelled_out j → shown_gift (draws ++ more) h (spelled_key ds h i) ≡ shown_gift draws h (spelled_key cs h i)
unfolding spelled_key
word_prints draws more cs ds h i j e =
    subst (λ (k : ℕ). shown_gift (draws ++ more) h (spelled_if ds k (is_claimed ds h (base k))) ≡ shown_gift draws h (spelled_if cs k (is_claimed cs h (base k)))) (sym e)
    (out_by (draws ++ more) ds h j (is_claimed ds h (base (spelled_out j))) ∙ sym (out_by draws cs h j (is_claimed cs h (base (spelled_out j)))))

place_prints : (draws more : List ℕ) (h i : ℕ) (b : Bool) → is_in (word_of i) draws ≡ true → gift_by (draws ++ more) h i b ≡ gift_by draws h i b
unfolding gift_by
place_prints draws more h i true e = refl
place_prints draws more h i false e = ap (λ (k : ℕ). name.Gift h k) (place_stays draws more (word_of i) e)

claimed_prints : (draws more : List ℕ) (cs ds : List Claim) (h i : ℕ) → is_claimed cs h (base i) ≡ true → is_claimed ds h (base i) ≡ true → shown_gift (draws ++ more) h (spelled_key ds h i) ≡ shown_gift draws h (spelled_key cs h i)
unfolding spelled_key spelled_if
claimed_prints draws more cs ds h i e f =
    ap (λ (b : Bool). shown_gift (draws ++ more) h (spelled_if ds i b)) f ∙ (spelled_alike draws more h i ∙ sym (ap (λ (b : Bool). shown_gift draws h (spelled_if cs i b)) e))

same_prints : (draws more : List ℕ) (cs ds : List Claim) (h i : ℕ) (b : Bool) → is_in (word_of i) draws ≡ true → shown_gift (draws ++ more) h (spelled_if ds i b) ≡ shown_gift draws h (spelled_if cs i b)
unfolding spelled_if shown_gift
same_prints draws more cs ds h i true e = spelled_alike draws more h i
same_prints draws more cs ds h i false e = place_prints draws more h i (is_spelled_out i) e

made_prints : (draws more : List ℕ) (cs ds : List Claim) (h i : ℕ) → is_claimed ds h (base i) ≡ is_claimed cs h (base i) → is_in (word_of i) draws ≡ true → shown_gift (draws ++ more) h (spelled_key ds h i) ≡ shown_gift draws h (spelled_key cs h i)
unfolding spelled_key
made_prints draws more cs ds h i e f = ap (λ (b : Bool). shown_gift (draws ++ more) h (spelled_if ds i b)) e ∙ same_prints draws more cs ds h i (is_claimed cs h (base i)) f

or_left : (a b : Bool) → a ≡ true → (a || b) ≡ true
or_left true b e = refl
or_left false b e = absurd cc

or_right : (a b : Bool) → b ≡ true → (a || b) ≡ true
or_right true b e = refl
or_right false b e = e

gift_stays : (draws more : List ℕ) (made cs gs : List Claim) (h i : ℕ) → HasName draws made cs h i → shown_gift (draws ++ more) h (spelled_key (claim_all made gs cs) h i) ≡ shown_gift draws h (spelled_key cs h i)
unfolding is_named
gift_stays draws more made cs gs h i (inl (j, e)) = word_prints draws more cs (claim_all made gs cs) h i j e
gift_stays draws more made cs gs h i (inr (inl e)) =
    claimed_prints draws more cs (claim_all made gs cs) h i e (claims_keep made gs cs h (base i) (or_left (is_claimed cs h (base i)) (is_claimed made h (base i)) e) ∙ e)
gift_stays draws more made cs gs h i (inr (inr (e, f))) =
    made_prints draws more cs (claim_all made gs cs) h i (claims_keep made gs cs h (base i) (or_right (is_claimed cs h (base i)) (is_claimed made h (base i)) e)) f

event_stays : (draws more : List ℕ) (made cs gs : List Claim) (e : Event) → InEvent (HasName draws made cs) e → shown_event (draws ++ more) (spelled_event (claim_all made gs cs) e) ≡ shown_event draws (spelled_event cs e)
event_stays draws more made cs gs e k =
    let ds = claim_all made gs cs in
    ap (shown_event (draws ++ more)) (event_is ds e)
    ∙ (event_alike (draws ++ more) draws (spelled_key ds) (spelled_key cs) (HasName draws made cs) (gift_stays draws more made cs gs) e k ∙ ap (shown_event draws) (sym (event_is cs e)))

line_stays : (draws more : List ℕ) (made cs gs : List Claim) (l : Line) → InLine (HasName draws made cs) l → shown_line (draws ++ more) (claim_all made gs cs) l ≡ shown_line draws cs l
unfolding shown_line InLine
line_stays draws more made cs gs (Told e) k = event_stays draws more made cs gs e k
line_stays draws more made cs gs (Injected n v w bytes) k = refl
line_stays draws more made cs gs (NotInjected n v w) k = refl
line_stays draws more made cs gs (Refused n v w place) k = refl
line_stays draws more made cs gs (Unread n v w bytes) k = refl
line_stays draws more made cs gs (LeftFrame v w bytes) k = refl

pub lines_keep_their_text : LinesKeepTheirText
unfolding shown_lines InLines
lines_keep_their_text draws more made cs gs [] k = refl
lines_keep_their_text draws more made cs gs (l ∷ ls) k = cc (line_stays draws more made cs gs l k.0, lines_keep_their_text draws more made cs gs ls k.1)
