-- On what stands in a description that is no list: what is read is spelled so, and what is spelled so is read.
use Rattle.std.proofs.Common.{◌≡◌, ℕ, zero, suc, ◌+◌, ◌^◌, ◌<◌, ◌≤◌, ⊎_elim, Bool, true, false, true≢false, cond, ltb, leb, ◌&&◌, List, [], ◌∷◌, ◌++◌, length, take, drop, slice_get, Option, Some, None, refl, sym, ap, subst, ◌∙◌, append_assoc, arith}
use Rattle.std.proofs.lemmas.Bool.{ltb-false, le-ltb, cases_lt}
use Rattle.std.proofs.lemmas.List.{take_at, drop_at, take-append-drop, length-append, length-take, get_or-drop}
use Rattle.std.proofs.lemmas.Str.{IsUtf8-from_is_utf8, is_utf8-from_IsUtf8}
use Rattle.std.specs.Str.{is_utf8}
use Rattle.std.specs.Char.{IsScalar}
use lib.Utf8.{scalar}
use Rattle.def_op.specs.declared.kind.Kind.{Kind}
use Rattle.def_op.specs.declared.kind.Kind.TheVariants as kind
use Rattle.def_op.specs.Numbers.{unsigned}
use Rattle.def_op.specs.Frames.{text_bytes, IsText}
use Rattle.def_op.specs.Reading.{unsigned_at, text_at, character_at, byte_where, kinds, kind_at}
use Rattle.ev_op.proofs.NumberLemmas.{bind_some, then_some, some_is, IsBytes, IsBytes-rest, Takes, unsigned_takes, unsigned_again}

IsBytes-drop : (n : ℕ) (bytes : List ℕ) → IsBytes bytes → IsBytes (drop n bytes)
IsBytes-drop n bytes h i = rw get_or-drop (h (n + i))

-- ---- texts

text_tests : ℕ → ℕ × List ℕ → Option (List ℕ × List ℕ)
text_tests room n = cond (ltb (length n.1) n.0) None (cond (ltb room n.0) None (cond (is_utf8 (take n.0 n.1)) (Some (take n.0 n.1, drop n.0 n.1)) None))

pub record TextRead (room : ℕ) (bytes : List ℕ) (x : List ℕ × List ℕ) : Type 0 where
  pub takes : Takes bytes (text_bytes x.0) x.1
  pub fits : IsText x.0
  pub within : length x.0 ≤ room

none_else : {A : Type 0} (b : Bool) (o : Option A) (y : A) → cond b None o ≡ Some y → (b ≡ false) × (o ≡ Some y)
none_else true o y e = absurd cc
none_else false o y e = (refl, e)

pub text_takes : (room : ℕ) (bytes : List ℕ) (x : List ℕ × List ℕ) → IsBytes bytes → text_at room bytes ≡ Some x → TextRead room bytes x
unfolding text_at text_tests
text_takes room bytes x fits e =
    let q = bind_some (unsigned_at bytes) (text_tests room) x e in
    let n = q.0.0 in
    let rest = q.0.1 in
    let t = unsigned_takes bytes q.0 fits q.1 in
    let text = take n rest in
    let behind = drop n rest in
    let g1 = none_else (ltb (length rest) n) (cond (ltb room n) None (cond (is_utf8 text) (Some (text, behind)) None)) x q.2 in
    let g2 = none_else (ltb room n) (cond (is_utf8 text) (Some (text, behind)) None) x g1.1 in
    let g3 = then_some (is_utf8 text) (text, behind) x g2.1 in
    let long : n ≤ length rest = ltb-false (length rest) n g1.0 in
    let len : length text ≡ n = omega (arith, length-take n rest) in
    let whole : rest ≡ text ++ behind = sym (take-append-drop n rest) in
    let parts : bytes ≡ text_bytes text ++ behind =
    t.0.parts ∙ ap (λ (r : List ℕ). unsigned n ++ r) whole ∙ sym (append_assoc (unsigned n) text behind) ∙ ap (λ (k : ℕ). (unsigned k ++ text) ++ behind) (sym len) in
    subst (TextRead room bytes) g3.1 (record {
      takes = record { parts = parts; fits = IsBytes-drop n rest t.0.fits };
      fits = (omega (arith, len, t.1), IsUtf8-from_is_utf8 text g3.0);
      within = omega (arith, len, ltb-false room n g2.0);
    })

pub text_again : (room : ℕ) (text rest : List ℕ) → IsText text → length text ≤ room → text_at room (text_bytes text ++ rest) ≡ Some (text, rest)
unfolding text_at
text_again room text rest fits le =
    let n = length text in
    let long : n ≤ length (text ++ rest) = omega (arith, length-append text rest) in
    let front : take n (text ++ rest) ≡ text = take_at text rest n refl in
    let back : drop n (text ++ rest) ≡ rest = drop_at text rest n refl in
    ap (text_at room) (append_assoc (unsigned n) text rest)
    ∙ rw (unsigned_again n (text ++ rest) fits.0, le-ltb (length (text ++ rest)) n long, le-ltb room n le, front, back, is_utf8-from_IsUtf8 text fits.1) refl

-- ---- characters

pub character_takes : (bytes : List ℕ) (x : ℕ × List ℕ) → IsBytes bytes → character_at bytes ≡ Some x → Takes bytes (unsigned x.0) x.1 × IsScalar x.0
unfolding character_at
character_takes bytes x fits e =
    let q = bind_some (unsigned_at bytes) (λ n. cond (scalar n.0) (Some n) None) x e in
    let g = then_some (scalar q.0.0) q.0 x q.2 in
    let t = unsigned_takes bytes q.0 fits q.1 in
    subst (λ (y : ℕ × List ℕ). Takes bytes (unsigned y.0) y.1 × IsScalar y.0) g.1 (t.0, g.0)

and_false : (b : Bool) → (b && false) ≡ false
and_false true = refl
and_false false = refl

scalar_small : (c : ℕ) → IsScalar c → c < 2 ^ 64
scalar_small c h =
    ⊎_elim
    (λ (lt : c < 1114112). omega arith)
    (λ (le : 1114112 ≤ c). absurd (true≢false (sym h ∙ rw (le-ltb c 55296 (omega arith), le-ltb c 1114112 le) (and_false (leb 57344 c)))))
    (cases_lt c 1114112)

pub character_again : (c : ℕ) (rest : List ℕ) → IsScalar c → character_at (unsigned c ++ rest) ≡ Some (c, rest)
unfolding character_at
character_again c rest h =
    let small : c < 2 ^ 64 = scalar_small c h in
    rw (unsigned_again c rest small, h) refl

-- ---- bytes that pass a test

pub byte_takes : (test : ℕ → Bool) (bytes : List ℕ) (x : ℕ × List ℕ) → IsBytes bytes → byte_where test bytes ≡ Some x → Takes bytes (x.0 ∷ []) x.1 × (test x.0 ≡ true)
byte_takes test [] x fits e = absurd cc
byte_takes test (b ∷ rest) x fits e =
    let g = then_some (test b) (b, rest) x e in
    subst (λ (y : ℕ × List ℕ). Takes (b ∷ rest) (y.0 ∷ []) y.1 × (test y.0 ≡ true)) g.1 (record { parts = refl; fits = IsBytes-rest b rest fits }, g.0)

-- ---- kinds

abbrev pub code : Kind → ℕ
code kind.Null = 0
code kind.False = 1
code kind.True = 2
code kind.Integer = 3
code kind.Character = 4
code kind.Text = 5
code kind.List = 6
code kind.Primitive = 7
code kind.Broken = 8
code kind.YourExport = 9
code kind.YourAnswer = 10
code kind.MyExport = 11
code kind.MyPromise = 12
code kind.Third = 13
code kind.MyAnswer = 14

-- kinds from a place on, each at its code
Coded : ℕ → List Kind → Type 0
Coded at [] = Unit {0}
Coded at (k ∷ ks) = (code k ≡ at) × Coded (suc at) ks

found_code : (at : ℕ) (ks : List Kind) (b : ℕ) (k : Kind) → Coded at ks → slice_get ks b ≡ Some k → code k ≡ at + b
unfolding Coded
found_code at [] b k h e = absurd cc
found_code at (k' ∷ ks) zero k h e = ap code (sym (some_is k' k e)) ∙ h.0 ∙ omega arith
found_code at (k' ∷ ks) (suc b) k h e = found_code (suc at) ks b k h.1 e ∙ omega arith

kinds_coded : Coded 0 kinds
unfolding Coded
kinds_coded = (refl, (refl, (refl, (refl, (refl, (refl, (refl, (refl, (refl, (refl, (refl, (refl, (refl, (refl, (refl, tt)))))))))))))))

pub kind_takes : (bytes : List ℕ) (x : Kind × List ℕ) → kind_at bytes ≡ Some x → bytes ≡ code x.0 ∷ x.1
kind_takes [] x e = absurd cc
kind_takes (b ∷ rest) x e =
    let q = bind_some (slice_get kinds b) (λ k. Some (k, rest)) x e in
    let c : code q.0 ≡ b = found_code 0 kinds b q.0 kinds_coded q.1 ∙ omega arith in
    subst (λ (y : Kind × List ℕ). b ∷ rest ≡ code y.0 ∷ y.1) (some_is (q.0, rest) x q.2) (ap (λ (h : ℕ). h ∷ rest) (sym c))
