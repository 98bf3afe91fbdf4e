-- How a gift prints.
use Rattle.std.proofs.Common.{◌≡◌, ℕ, ◌+◌, ◌-◌, ◌<◌, ◌%◌, Bool, true, false, if◌then◌else◌, List, sym, ap, ◌∙◌, arith}
use Rattle.std.specs.Prelude.{nat_le}
use Rattle.std.proofs.Math.Nat.{add-mod_right, mod-eq_of_lt}
use Rattle.std.proofs.lemmas.Nat.{mod_below}
use Rattle.std.proofs.lemmas.Bool.Decides.{nat_tests}
use Rattle.ev_base.specs.declared.names.Name.TheVariants as name
use Rattle.def_machine.specs.Values.{key, provider_of, word_of}
use Rattle.def_machine.proofs.Keys.{provider_key, word_key}
use Rattle.def_run.specs.Marks.{base, is_spelled_out, placed, spelled_out}
use Rattle.def_run.specs.Shown.{place_of}
use Rattle.def_hostile.specs.Claims.{Claim, is_claimed}
use Rattle.def_hostile.specs.ShownMarks.{gift_by, shown_gift}
use Rattle.ev_claims.specs.Gifts.{has_gift, name_by}
use Rattle.ev_claims.specs.Statements.{NamesAreShown, Places}
use Rattle.ev_claims.specs.Telling.{told_if, told_key}
use Rattle.ev_claims.specs.declared.gift.GiftId.{GiftId}

-- ---- marks

within : (p : ℕ) → p % 16 < 16
within p = mod_below p 16 (omega arith)

marked_out : (p : ℕ) → nat_le 32 (p % 16 + 32) ≡ true
marked_out p = grind (arith, nat_tests)

not_out : (p : ℕ) → nat_le 32 (p % 16) ≡ false
not_out p = let h = within p in grind (arith, nat_tests)

twice : (p : ℕ) → (p % 16 + 16) % 16 ≡ p % 16
twice p = add-mod_right (p % 16) 16 ∙ mod-eq_of_lt (within p)

beyond : (p : ℕ) → (p % 16 + 32) - 32 ≡ p % 16
beyond p = omega arith

base_word : (i : ℕ) → word_of (base i) ≡ word_of i
unfolding base
base_word i = word_key (provider_of i % 16) (word_of i)

base_of_key : (p w : ℕ) → base (key p w) ≡ key (p % 16) w
unfolding base
base_of_key p w = ap (λ (q : ℕ). key (q % 16) (word_of (key p w))) (provider_key p w) ∙ ap (λ (v : ℕ). key (p % 16) v) (word_key p w)

pub base_placed : (i : ℕ) → base (placed i) ≡ base i
unfolding base placed
base_placed i =
    ap (λ (q : ℕ). key (q % 16) (word_of (key (provider_of i % 16 + 16) (word_of i)))) (provider_key (provider_of i % 16 + 16) (word_of i))
    ∙ (ap (λ (q : ℕ). key q (word_of (key (provider_of i % 16 + 16) (word_of i)))) (twice (provider_of i))
    ∙ ap (λ (v : ℕ). key (provider_of i % 16) v) (word_key (provider_of i % 16 + 16) (word_of i)))

-- ---- a gift prints by its word, or by the place of its word

by_mark : (draws : List ℕ) (h i : ℕ) (b : Bool) → is_spelled_out i ≡ b → shown_gift draws h i ≡ gift_by draws h i b
unfolding shown_gift
by_mark draws h i b e = ap (gift_by draws h i) e

pub spelled_prints : (draws : List ℕ) (h i : ℕ) → shown_gift draws h (spelled_out i) ≡ name.Claimed h (provider_of i % 16) (word_of i)
unfolding spelled_out gift_by is_spelled_out
spelled_prints draws h i =
    let p = provider_of i % 16 + 32 in
    let k = key p (word_of i) in
    let q : provider_of k ≡ p = provider_key p (word_of i) in
    by_mark draws h k true (ap (nat_le 32) q ∙ marked_out (provider_of i))
    ∙ (ap (λ (x : ℕ). name.Claimed h x (word_of k)) (ap (λ (x : ℕ). x - 32) q ∙ beyond (provider_of i)) ∙ ap (λ (x : ℕ). name.Claimed h (provider_of i % 16) x) (word_key p (word_of i)))

pub base_prints : (draws : List ℕ) (h i : ℕ) → shown_gift draws h (base i) ≡ name.Gift h (place_of draws (word_of i))
unfolding base gift_by is_spelled_out
base_prints draws h i =
    let p = provider_of i % 16 in
    let k = key p (word_of i) in
    let q : provider_of k ≡ p = provider_key p (word_of i) in
    by_mark draws h k false (ap (nat_le 32) q ∙ not_out (provider_of i)) ∙ ap (λ (x : ℕ). name.Gift h (place_of draws x)) (word_key p (word_of i))

prints_by : (draws : List ℕ) (h i : ℕ) (b : Bool) → shown_gift draws h (told_if i b) ≡ (if b then name.Claimed h (provider_of i % 16) (word_of i) else name.Gift h (place_of draws (word_of i)))
unfolding told_if
prints_by draws h i true = spelled_prints draws h i
prints_by draws h i false = base_prints draws h i

pub told_prints : (draws : List ℕ) (cs : List Claim) (h i : ℕ)
    → shown_gift draws h (told_key cs h i) ≡ (if is_claimed cs h (base i) then name.Claimed h (provider_of i % 16) (word_of i) else name.Gift h (place_of draws (word_of i)))
unfolding told_key
told_prints draws cs h i = prints_by draws h i (is_claimed cs h (base i))

-- ---- names

choice : (b : Bool) (h p q w v k : ℕ) → p ≡ q → w ≡ v → (if b then name.Claimed h p w else name.Gift h k) ≡ (if b then name.Claimed h q v else name.Gift h k)
choice b h p q w v k e f = ap (λ (x : ℕ). if b then name.Claimed h x w else name.Gift h k) e ∙ ap (λ (x : ℕ). if b then name.Claimed h q x else name.Gift h k) f

plain_prints : (place : ℕ → ℕ) (draws : List ℕ) (cs : List Claim) (g : GiftId) (i : ℕ) → Places place draws → base i ≡ key (g.provider % 16) g.word → provider_of i % 16 ≡ g.provider % 16 → word_of i ≡ g.word
    → name_by place cs g ≡ shown_gift draws g.host (told_key cs g.host i)
unfolding name_by has_gift
plain_prints place draws cs g i e b p w = sym (
    told_prints draws cs g.host i
    ∙ (ap (λ (k : ℕ). if is_claimed cs g.host k then name.Claimed g.host (provider_of i % 16) (word_of i) else name.Gift g.host (place_of draws (word_of i))) b
    ∙ (choice (is_claimed cs g.host (key (g.provider % 16) g.word)) g.host (provider_of i % 16) (g.provider % 16) (word_of i) g.word (place_of draws (word_of i)) p w
    ∙ ap (λ (k : ℕ). if is_claimed cs g.host (key (g.provider % 16) g.word) then name.Claimed g.host (g.provider % 16) g.word else name.Gift g.host k) (ap (place_of draws) w ∙ sym (e g.word))))
    )

placed_provider : (i : ℕ) → provider_of (placed i) % 16 ≡ provider_of i % 16
unfolding placed
placed_provider i = ap (λ (x : ℕ). x % 16) (provider_key (provider_of i % 16 + 16) (word_of i)) ∙ twice (provider_of i)

placed_word : (i : ℕ) → word_of (placed i) ≡ word_of i
unfolding placed
placed_word i = word_key (provider_of i % 16 + 16) (word_of i)

pub names_are_shown : NamesAreShown
names_are_shown place draws cs g e =
    let i = key g.provider g.word in
    let p : provider_of i % 16 ≡ g.provider % 16 = ap (λ (x : ℕ). x % 16) (provider_key g.provider g.word) in
    let b : base i ≡ key (g.provider % 16) g.word = base_of_key g.provider g.word in
    let w : word_of i ≡ g.word = word_key g.provider g.word in
    record {
      plain = plain_prints place draws cs g i e b p w;
      entry = plain_prints place draws cs g (placed i) e (base_placed i ∙ b) (placed_provider i ∙ p) (placed_word i ∙ w);
    }
