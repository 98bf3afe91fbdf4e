-- Names and bare verbs, character by character.
use Rattle.std.proofs.Common.{◌≡◌, ℕ, ◌&&◌, ◌||◌, cond, eqb, Bool, true, false, List, [], ◌∷◌, ◌++◌, length, Option, Some, None, option_and_then, option_map, refl, sym, ◌∙◌, ap, append_assoc}
use Rattle.std.specs.Char.{encode_utf8}
use Rattle.std.specs.Str.{chars, IsUtf8, encode_utf8_all}
use Rattle.std.specs.List.{list_all}
use Rattle.std.proofs.lemmas.Bool.{eqb-true}
use Rattle.std.proofs.lemmas.List.{append-nil}
use Rattle.std.proofs.lemmas.Str.{encodes-chars}
use Rattle.def_text.specs.Keywords.{is_identifier, begins_identifier, continues_identifier, has_identifier_form}
use Rattle.def_kernel.specs.declared.node.Node.{Node}
use Rattle.def_kernel.specs.declared.reader.Item.{Item}
use Rattle.def_kernel.specs.declared.reader.Item.TheVariants.{Word as AWord}
use Rattle.def_kernel.specs.declared.reader.Frame.{Frame}
use Rattle.def_kernel.specs.declared.reader.Mode.{Mode}
use Rattle.def_kernel.specs.declared.reader.Mode.TheVariants.{Before as before, Bare as bare, Exiting as exiting, Whole as whole, Behind as behind}
use Rattle.def_kernel.specs.declared.reader.State.{State}
use Rattle.def_kernel.specs.declared.shape.Head.{Head}
use Rattle.def_kernel.specs.declared.shape.Want.{Want}
use Rattle.def_kernel.specs.declared.shape.Want.TheVariants.{Name}
use Rattle.def_kernel.specs.Reading.{step, add_item, wanted, takes_exit, open_wanted, begin_wanted, ends_word, item_ends}
use Rattle.def_kernel.specs.Trees.{IsName}
use Rattle.law_kernel_form.proofs.Steps.{steps, reads_one, Stops, space, bracket, Goes, item, state, framed, at, space_wanted}
use Rattle.law_kernel_form.proofs.Going.{Going, then_word}

-- a character that passes a test is none that does not
test_is : (c d : ℕ) (p : ℕ → Bool) (b : Bool) → eqb c d ≡ b → p d ≡ false → p c ≡ true → b ≡ false
test_is c d p false e none some = refl
test_is c d p true e none some = let same : p c ≡ p d = ap p (eqb-true c d e) in absurd (cc)

pub differs : (c d : ℕ) (p : ℕ → Bool) → p d ≡ false → p c ≡ true → eqb c d ≡ false
differs c d p none some = test_is c d p (eqb c d) refl none some

-- what happens behind a space with a character that opens no bracket and begins no `exit`
chosen : (opens letter may : Bool) (a b c : Option State) → opens ≡ false → may ≡ false
    → elim opens as (λ _. Option State) [ true ↦ a | false ↦ elim (letter && may) as (λ _. Option State) [ true ↦ b | false ↦ c ] ] ≡ c
chosen false false may a b c e none = refl
chosen false true false a b c e none = refl
chosen false true true a b c e none = absurd (cc)
chosen true letter may a b c e none = absurd (cc)

-- such a character begins what is wanted
pub begins_wanted : (c number : ℕ) (head : Head) (items : List Item) (frames : List Frame) (nodes : List Node) (want : Want) → eqb c 40 ≡ false
    → wanted head (length items) ≡ Some want → takes_exit head (length items) ≡ false
    → step c (state (framed number head items frames) nodes before) ≡ begin_wanted (Some want) c (state (framed number head items frames) nodes whole)
begins_wanted c number head items frames nodes want no_bracket wants no_exit =
    let s = state (framed number head items frames) nodes whole in
    chosen (eqb c 40) (eqb c 101) (takes_exit head (length items)) (open_wanted (wanted head (length items)) s)
    (Some (state (framed number head items frames) nodes (exiting (101 ∷ [])))) (begin_wanted (wanted head (length items)) c s) no_bracket no_exit
    ∙ ap (λ o. begin_wanted o c s) wants

-- one more character of a bare word
goes_further : (ends more : Bool) (a b : Option State) → ends ≡ false → more ≡ true
    → elim ends as (λ _. Option State) [ true ↦ a | false ↦ elim more as (λ _. Option State) [ true ↦ b | false ↦ None ] ] ≡ b
goes_further false true a b e m = refl
goes_further false false a b e m = absurd (cc)
goes_further true more a b e m = absurd (cc)

either_false : (a b : Bool) → a ≡ false → b ≡ false → (a || b) ≡ false
either_false false false d e = refl
either_false false true d e = absurd (cc)
either_false true b d e = absurd (cc)

no_end : (c : ℕ) → continues_identifier c ≡ true → ends_word c ≡ false
no_end c e = either_false (eqb c 32) (eqb c 41) (differs c 32 continues_identifier refl e) (differs c 41 continues_identifier refl e)

one_more : (c : ℕ) (w : List ℕ) (frames : List Frame) (nodes : List Node) → continues_identifier c ≡ true
    → step c (state frames nodes (bare w)) ≡ Some (state frames nodes (bare (w ++ encode_utf8 c)))
one_more c w frames nodes e =
    goes_further (ends_word c) (continues_identifier c) (elim (is_identifier w) as (λ _. Option State) [ true ↦ item_ends (AWord w) c (state frames nodes whole) | false ↦ None ])
    (Some (state frames nodes (bare (w ++ encode_utf8 c)))) (no_end c e) e

both_left : (a b : Bool) → (a && b) ≡ true → a ≡ true
both_left true b e = refl
both_left false b e = absurd (cc)

both_right : (a b : Bool) → (a && b) ≡ true → b ≡ true
both_right true b e = e
both_right false b e = absurd (cc)

-- more of a bare word
bares : (cs w rest : List ℕ) (frames : List Frame) (nodes : List Node) → list_all continues_identifier cs ≡ true
    → steps (cs ++ rest) (state frames nodes (bare w)) ≡ steps rest (state frames nodes (bare (w ++ encode_utf8_all cs)))
bares [] w rest frames nodes e = ap (λ v. steps rest (state frames nodes (bare v))) (sym (append-nil w))
bares (c ∷ cs) w rest frames nodes e =
    reads_one c (cs ++ rest) (state frames nodes (bare w)) (state frames nodes (bare (w ++ encode_utf8 c)))
    (one_more c w frames nodes (both_left (continues_identifier c) (list_all continues_identifier cs) e))
    ∙ bares cs (w ++ encode_utf8 c) rest frames nodes (both_right (continues_identifier c) (list_all continues_identifier cs) e)
    ∙ ap (λ v. steps rest (state frames nodes (bare v))) (append_assoc w (encode_utf8 c) (encode_utf8_all cs))

-- a bare word is an item where it ends
word_ends : (w rest : List ℕ) (frames : List Frame) (nodes : List Node) → is_identifier w ≡ true → Stops rest
    → steps rest (state frames nodes (bare w)) ≡ steps rest (state (add_item (AWord w) frames) nodes behind)
word_ends w _ frames nodes is (space {cs = cs}) =
    ap (λ b. option_and_then (λ n. steps cs n) (elim b as (λ _. Option State) [ true ↦ item_ends (AWord w) 32 (state frames nodes whole) | false ↦ None ])) is
word_ends w _ frames nodes is (bracket {cs = cs}) =
    ap (λ b. option_and_then (λ n. steps cs n) (elim b as (λ _. Option State) [ true ↦ item_ends (AWord w) 41 (state frames nodes whole) | false ↦ None ])) is

-- a whole bare word, by its characters
word_read : (cs w rest : List ℕ) (frames : List Frame) (nodes : List Node) (s : State) → has_identifier_form cs ≡ true → encode_utf8_all cs ≡ w → is_identifier w ≡ true
    → ((c : ℕ) → begins_identifier c ≡ true → step c s ≡ Some (state frames nodes (bare (encode_utf8 c))))
    → Stops rest → steps (cs ++ rest) s ≡ steps rest (state (add_item (AWord w) frames) nodes behind)
word_read [] w rest frames nodes s form spells is begins h = absurd (cc)
word_read (c ∷ cs) w rest frames nodes s form spells is begins h =
    reads_one c (cs ++ rest) s (state frames nodes (bare (encode_utf8 c))) (begins c (both_left (begins_identifier c) (list_all continues_identifier cs) form))
    ∙ bares cs (encode_utf8 c) rest frames nodes (both_right (begins_identifier c) (list_all continues_identifier cs) form)
    ∙ ap (λ v. steps rest (state frames nodes (bare v))) spells
    ∙ word_ends w rest frames nodes is h

first_of_three : (a b c : Bool) → (a && b && c) ≡ true → a ≡ true
first_of_three true b c e = refl
first_of_three false b c e = absurd (cc)

-- a bare word behind a space
pub bare_item : (name : List ℕ) (number : ℕ) (head : Head) (items : List Item) (frames : List Frame) (now : List Node) (want : Want) → IsUtf8 name → is_identifier name ≡ true
    → wanted head (length items) ≡ Some want
    → ((c : ℕ) → begins_identifier c ≡ true → step c (state (framed number head items frames) now before) ≡ Some (state (framed number head items frames) now (bare (encode_utf8 c))))
    → Goes (32 ∷ name) (at number head items frames now) (at number head (items ++ AWord name ∷ []) frames now)
bare_item name number head items frames now want utf8 is wants begins =
    item name (at number head items frames now) (at number head (items ++ AWord name ∷ []) frames now) utf8 (λ rest h.
    reads_one 32 (chars name ++ rest) (at number head items frames now) (state (framed number head items frames) now before) (space_wanted number head items frames now want wants)
    ∙ word_read (chars name) name rest (framed number head items frames) now (state (framed number head items frames) now before)
    (first_of_three (has_identifier_form (chars name)) _ _ is) (encodes-chars name utf8) is begins h)

name_begins : (c number : ℕ) (head : Head) (items : List Item) (frames : List Frame) (nodes : List Node) → wanted head (length items) ≡ Some Name → takes_exit head (length items) ≡ false
    → begins_identifier c ≡ true → step c (state (framed number head items frames) nodes before) ≡ Some (state (framed number head items frames) nodes (bare (encode_utf8 c)))
name_begins c number head items frames nodes wants no_exit e =
    begins_wanted c number head items frames nodes Name (differs c 40 begins_identifier refl e) wants no_exit
    ∙ ap (λ b. option_map (λ (mode : Mode). state (framed number head items frames) nodes mode) (cond b (Some (bare (encode_utf8 c))) None)) e

pub then_name : {nodes : List Node} {n : ℕ} {first head : Head} {texts : ℕ → List (List ℕ)} {items : List Item} {a : ℕ} {name : List ℕ} → Going nodes n first head texts items a
    → IsName name → wanted head (length items) ≡ Some Name → takes_exit head (length items) ≡ false
    → Going nodes n first head (λ height. texts height ++ name ∷ []) (items ++ AWord name ∷ []) a
then_name {n = n} {head = head} {items = items} {name = name} g is wants no_exit =
    then_word g name head (items ++ AWord name ∷ []) (λ frames now.
    bare_item name n head items frames now Name is.utf8 is.is_one wants (λ c e. name_begins c n head items frames now wants no_exit e))
