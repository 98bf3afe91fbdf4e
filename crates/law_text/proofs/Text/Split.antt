-- Where lines end with a line feed a text tells what each line tells that is told apart by its line feed.
use Rattle.std.proofs.Common.{◌≡◌, ℕ, zero, eqb, false, Option, Some, None, List, [], ◌∷◌, ◌++◌, map, refl, sym, ◌∙◌, ap, append_assoc}
use Rattle.std.specs.List.{flat_map}
use Rattle.def_event.specs.Lines.{spaced}
use Rattle.law_text.specs.Text.Feeds.{IsOneLine, AllOf}
use Rattle.law_text.specs.Text.Words.{Place, Outside, behind, reads_on, reads, IsWord}
use Rattle.law_text.proofs.Text.Front.{head_is, tail_is, cons_is, two_marks, apart}
use Rattle.law_text.proofs.Text.Plain.{plain}
use Rattle.law_text.proofs.Text.Reading.{Goes}
use Rattle.law_text.proofs.Text.Spelled.{AllSome}

pub one_apart : (xs ys r q : List ℕ) → IsOneLine xs → IsOneLine ys → xs ++ 10 ∷ r ≡ ys ++ 10 ∷ q → (xs ≡ ys) × (r ≡ q)
one_apart xs ys r q h k e = let one = apart plain xs ys r q 10 10 refl refl h k e in (one.0, one.2)

-- ---- words

-- a byte that ends a word
abbrev EndsWord : ℕ → Type 0
EndsWord c = behind (Outside zero) c ≡ None

ends_none : (p : Place) (c x : ℕ) (xs : List ℕ) → p ≡ Outside zero → c ≡ x → EndsWord c → Goes p (x ∷ xs) (Outside zero) → ⊥
ends_none p c x xs e i stop h =
    let none : behind p x ≡ None = ap (λ q. behind q x) e ∙ ap (behind (Outside zero)) (sym i) ∙ stop in
    let ends : ◌≡◌ {A = Option Place} None (Some (Outside zero)) = ap (reads_on (reads xs)) (sym none) ∙ h in cc

place_is : (p : Place) → Goes p [] (Outside zero) → p ≡ Outside zero
place_is p h = cc

further : (o : Option Place) (xs : List ℕ) (q : Place) → reads_on (reads xs) o ≡ Some q → (p : Place) × (o ≡ Some p) × Goes p xs q
further None xs q h = cc
further (Some p) xs q h = (p, refl, h)

word_apart : (p : Place) (xs ys r q : List ℕ) (c d : ℕ) → EndsWord c → EndsWord d → Goes p xs (Outside zero) → Goes p ys (Outside zero) → xs ++ c ∷ r ≡ ys ++ d ∷ q → (xs ≡ ys) × ◌≡◌ {A = List ℕ} (c ∷ r) (d ∷ q)
word_apart p [] [] r q c d m n h k e = (refl, e)
word_apart p [] (y ∷ ys) r q c d m n h k e = absurd (ends_none p c y ys (place_is p h) (head_is c y r (ys ++ d ∷ q) e) m k)
word_apart p (x ∷ xs) [] r q c d m n h k e = absurd (ends_none p d x xs (place_is p k) (sym (head_is x d (xs ++ c ∷ r) q e)) n h)
word_apart p (x ∷ xs) (y ∷ ys) r q c d m n h k e =
    let one = head_is x y (xs ++ c ∷ r) (ys ++ d ∷ q) e in
    let on = further (behind p x) xs (Outside zero) h in
    let there : Goes on.0 ys (Outside zero) = ap (reads_on (reads ys)) (sym (sym (ap (behind p) one) ∙ on.1)) ∙ k in
    let same = word_apart on.0 xs ys r q c d m n on.2 there (tail_is x y (xs ++ c ∷ r) (ys ++ d ∷ q) e) in
    (cons_is x y xs ys one same.0, same.1)

-- each with a space in front of it
abbrev behind_spaces : List (List ℕ) → List ℕ
behind_spaces ws = flat_map (λ v. 32 ∷ v) ws

-- it has a byte
abbrev pub IsFull : List ℕ → Type 0
IsFull w = w ≡ [] → ⊥

-- where the last word is ended by a byte that is no space
module _ (z : ℕ) (ends : EndsWord z) (other : eqb z 32 ≡ false) where
  -- what stands behind a word begins with a byte that ends it
  begins : (ws : List (List ℕ)) (r : List ℕ) → (c : ℕ) × (more : List ℕ) × (behind_spaces ws ++ z ∷ r ≡ c ∷ more) × EndsWord c
  begins [] r = (z, r, refl, ends)
  begins (w ∷ ws) r = (32, (w ++ behind_spaces ws) ++ z ∷ r, refl, refl)

  word_then : (w v : List ℕ) (ws vs : List (List ℕ)) (r q : List ℕ) → IsWord w → IsWord v → w ++ (behind_spaces ws ++ z ∷ r) ≡ v ++ (behind_spaces vs ++ z ∷ q) → (w ≡ v) × (behind_spaces ws ++ z ∷ r ≡ behind_spaces vs ++ z ∷ q)
  word_then w v ws vs r q h k e =
      let a = begins ws r in let b = begins vs q in
      let same = word_apart (Outside zero) w v a.1 b.1 a.0 b.0 a.3 b.3 (h zero) (k zero) (ap (λ t. w ++ t) (sym a.2) ∙ e ∙ ap (λ t. v ++ t) b.2) in
      (same.0, a.2 ∙ same.1 ∙ sym b.2)

  no_space : (r q : List ℕ) → ◌≡◌ {A = List ℕ} (z ∷ r) (32 ∷ q) → ⊥
  no_space r q e = two_marks z 32 other (head_is z 32 r q e)

  spaces_apart : (ws vs : List (List ℕ)) (r q : List ℕ) → AllOf IsWord ws → AllOf IsWord vs → behind_spaces ws ++ z ∷ r ≡ behind_spaces vs ++ z ∷ q → (ws ≡ vs) × (r ≡ q)
  spaces_apart [] [] r q h k e = (refl, tail_is z z r q e)
  spaces_apart [] (v ∷ vs) r q h k e = absurd (no_space r ((v ++ behind_spaces vs) ++ z ∷ q) e)
  spaces_apart (w ∷ ws) [] r q h k e = absurd (no_space q ((w ++ behind_spaces ws) ++ z ∷ r) (sym e))
  spaces_apart (w ∷ ws) (v ∷ vs) r q h k e =
      let one = word_then w v ws vs r q h.0 k.0 (sym (append_assoc w (behind_spaces ws) (z ∷ r)) ∙ tail_is 32 32 ((w ++ behind_spaces ws) ++ z ∷ r) ((v ++ behind_spaces vs) ++ z ∷ q) e ∙ append_assoc v (behind_spaces vs) (z ∷ q)) in
      let more = spaces_apart ws vs r q h.1 k.1 one.1 in
      (cons_is w v ws vs one.0 more.0, more.1)

  one_and_more : (w v : List ℕ) (ws vs : List (List ℕ)) (r q : List ℕ) → AllOf IsWord (w ∷ ws) → AllOf IsWord (v ∷ vs) → spaced (w ∷ ws) ++ z ∷ r ≡ spaced (v ∷ vs) ++ z ∷ q → ◌≡◌ {A = List (List ℕ)} (w ∷ ws) (v ∷ vs) × (r ≡ q)
  one_and_more w v ws vs r q h k e =
      let one = word_then w v ws vs r q h.0 k.0 (sym (append_assoc w (behind_spaces ws) (z ∷ r)) ∙ e ∙ append_assoc v (behind_spaces vs) (z ∷ q)) in
      let more = spaces_apart ws vs r q h.1 k.1 one.1 in
      (cons_is w v ws vs one.0 more.0, more.1)

  no_word : (v : List ℕ) (vs : List (List ℕ)) (r q : List ℕ) → IsWord v → IsFull v → z ∷ r ≡ spaced (v ∷ vs) ++ z ∷ q → ⊥
  no_word v vs r q h full e = full (sym (word_then [] v [] vs r q (λ d. refl) h (e ∙ append_assoc v (behind_spaces vs) (z ∷ q))).0)

  -- words of which there may be none
  full_apart : (ws vs : List (List ℕ)) (r q : List ℕ) → AllOf IsWord ws → AllOf IsWord vs → AllOf IsFull ws → AllOf IsFull vs → spaced ws ++ z ∷ r ≡ spaced vs ++ z ∷ q → ws ≡ vs
  full_apart [] [] r q h k f g e = refl
  full_apart [] (v ∷ vs) r q h k f g e = absurd (no_word v vs r q k.0 g.0 e)
  full_apart (w ∷ ws) [] r q h k f g e = absurd (no_word w ws q r h.0 f.0 (sym e))
  full_apart (w ∷ ws) (v ∷ vs) r q h k f g e = (one_and_more w v ws vs r q h k e).0

pub words_apart : (ws vs : List (List ℕ)) (r q : List ℕ) → AllSome IsWord ws → AllSome IsWord vs → spaced ws ++ 10 ∷ r ≡ spaced vs ++ 10 ∷ q → (ws ≡ vs) × (r ≡ q)
words_apart [] vs r q h k e = absurd h
words_apart (w ∷ ws) [] r q h k e = absurd k
words_apart (w ∷ ws) (v ∷ vs) r q h k e = one_and_more 10 refl refl w v ws vs r q h k e

-- between brackets
pub members_apart : (ws vs : List (List ℕ)) → AllOf IsWord ws → AllOf IsWord vs → AllOf IsFull ws → AllOf IsFull vs → spaced ws ++ 93 ∷ [] ≡ spaced vs ++ 93 ∷ [] → ws ≡ vs
members_apart ws vs h k f g e = full_apart 93 refl refl ws vs [] [] h k f g e

-- ---- texts

module _ {A B : Type 0} (line : A → List ℕ) (seen : A → B) (P : A → Type 0) (apart : (x y : A) (r q : List ℕ) → P x → P y → line x ++ 10 ∷ r ≡ line y ++ 10 ∷ q → (seen x ≡ seen y) × (r ≡ q)) where
  abbrev text : List A → List ℕ
  text xs = flat_map (λ x. line x ++ 10 ∷ []) xs

  starts : (ys r : List ℕ) → ◌≡◌ {A = List ℕ} [] ((ys ++ 10 ∷ []) ++ r) → ⊥
  starts [] r i = cc
  starts (y ∷ ys) r i = cc

  pub texts_apart : (xs ys : List A) → AllOf P xs → AllOf P ys → text xs ≡ text ys → map seen xs ≡ map seen ys
  texts_apart [] [] h k e = refl
  texts_apart [] (y ∷ ys) h k e = absurd (starts (line y) (text ys) e)
  texts_apart (x ∷ xs) [] h k e = absurd (starts (line x) (text xs) (sym e))
  texts_apart (x ∷ xs) (y ∷ ys) h k e =
      let same = apart x y (text xs) (text ys) h.0 k.0 (sym (append_assoc (line x) (10 ∷ []) (text xs)) ∙ e ∙ append_assoc (line y) (10 ∷ []) (text ys)) in
      cons_is (seen x) (seen y) (map seen xs) (map seen ys) same.0 (texts_apart xs ys h.1 k.1 same.1)
