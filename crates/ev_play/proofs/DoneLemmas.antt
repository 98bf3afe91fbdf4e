-- What steps do, step by step.
use Rattle.std.proofs.Common.{◌≡◌, ◌<◌, ◌≤◌, ◌+◌, ◌++◌, ℕ, zero, suc, List, [], ◌∷◌, length, get_or, drop, take, map, refl, sym, ◌∙◌, ap, append_assoc, append-nil, arith}
use Rattle.std.specs.List.{flat_map, range_with_len}
use Rattle.std.proofs.lemmas.List.{length-append, take_more}
use Rattle.ev_script.specs.Head.{key_byte}
use Rattle.ev_script.specs.declared.script.Entry.{Entry}
use Rattle.ev_script.proofs.EachLemmas.{next_item, nothing_behind}
use Rattle.ev_play.specs.Doings.{done_by, done_by_all, entry_in, entries_in}
use Rattle.ev_play.specs.declared.doings.PlayStep.{PlayStep}
use Rattle.ev_play.specs.declared.play.Doing.{Doing}
use Rattle.ev_play.specs.declared.play.Doing.TheVariants.{Does}

-- one item more at the end
flat_push : {A B : Type 0} (f : A → List B) (xs : List A) (x : A) → flat_map f (xs ++ x ∷ []) ≡ flat_map f xs ++ f x
flat_push f [] x = append-nil (f x)
flat_push f (y ∷ ys) x = ap (λ zs. f y ++ zs) (flat_push f ys x) ∙ sym (append_assoc (f y) (flat_map f ys) (f x))

taken : {A : Type 0} (x : A) (xs : List A) (i : ℕ) → i < length xs → x ≡ get_or xs i x → take (i + 1) xs ≡ take i xs ++ x ∷ []
taken x xs i lt is = take_more xs i x lt ∙ ap (λ z. take i xs ++ z ∷ []) (sym is)

map_push : {A B : Type 0} (f : A → B) (xs : List A) (x : A) → map f (xs ++ x ∷ []) ≡ map f xs ++ f x ∷ []
map_push f [] x = refl
map_push f (y ∷ ys) x = ap (λ zs. f y ∷ zs) (map_push f ys x)

-- ---- the steps that were done

pub done_more : (round : List Entry) (done more : List Doing) (steps : List PlayStep) (x : PlayStep) → done ≡ done_by_all round steps → more ≡ done ++ done_by round x → more ≡ done_by_all round (steps ++ x ∷ [])
done_more round done more steps x d m = m ∙ ap (λ ds. ds ++ done_by round x) d ∙ sym (flat_push (done_by round) steps x)

-- how many this step is and those behind it
pub count_next : (round : List Entry) (x : PlayStep) (xs : List PlayStep) (i : ℕ) → i < length xs → x ≡ get_or xs i x
    → length (done_by_all round (drop i xs)) ≡ length (done_by round x) + length (done_by_all round (drop (i + 1) xs))
count_next round x xs i lt is =
    ap (λ ys. length (done_by_all round ys)) (next_item x xs i lt is) ∙ length-append (done_by round x) (done_by_all round (drop (i + 1) xs))

pub count_end : (round : List Entry) (xs : List PlayStep) (i : ℕ) → length xs ≤ i → length (done_by_all round (drop i xs)) ≡ 0
count_end round xs i le = ap (λ ys. length (done_by_all round ys)) (nothing_behind xs i le)

-- ---- entries

pub does_more : (start out more : List Doing) (es : List Entry) (x : Entry) (i : ℕ) → i < length es → x ≡ get_or es i x
    → out ≡ start ++ map Does (take i es) → more ≡ out ++ Does x ∷ [] → more ≡ start ++ map Does (take (i + 1) es)
does_more start out more es x i lt is o m =
    m ∙ ap (λ ds. ds ++ Does x ∷ []) o ∙ append_assoc start (map Does (take i es)) (Does x ∷ [])
    ∙ ap (λ ds. start ++ ds) (sym (ap (map Does) (taken x es i lt is) ∙ map_push Does (take i es) x))

-- the entries with those of one more
pub entries_more : (entries : List Entry) (ds : List Doing) (x : Doing) (i : ℕ) → i < length ds → x ≡ get_or ds i x
    → entries ≡ entries_in (take i ds) → entries ++ entry_in x ≡ entries_in (take (i + 1) ds)
entries_more entries ds x i lt is e =
    ap (λ es. es ++ entry_in x) e ∙ sym (flat_push entry_in (take i ds) x) ∙ ap entries_in (sym (taken x ds i lt is))

-- ---- bytes

range_push : (from n : ℕ) → range_with_len from (suc n) ≡ range_with_len from n ++ (from + n) ∷ []
range_push from zero = let e : from ≡ from + 0 = omega arith in ap (λ k. k ∷ []) e
range_push from (suc n) =
    let e : (from + 1) + n ≡ from + suc n = omega arith in
    ap (λ ks. from ∷ ks) (range_push (from + 1) n ∙ ap (λ k. range_with_len (from + 1) n ++ k ∷ []) e)

pub byte_more : (digits bytes more : List ℕ) (place byte : ℕ) → bytes ≡ map (key_byte digits) (range_with_len 0 place) → byte ≡ key_byte digits place
    → more ≡ bytes ++ byte ∷ [] → more ≡ map (key_byte digits) (range_with_len 0 (place + 1))
byte_more digits bytes more place byte b k m =
    let e : suc place ≡ place + 1 = omega arith in
    let z : 0 + place ≡ place = omega arith in
    m ∙ ap (λ bs. bs ++ byte ∷ []) b ∙ ap (λ x. map (key_byte digits) (range_with_len 0 place) ++ x ∷ []) (k ∙ ap (key_byte digits) (sym z))
    ∙ sym (ap (map (key_byte digits)) (range_push 0 place) ∙ map_push (key_byte digits) (range_with_len 0 place) (0 + place)) ∙ ap (λ n. map (key_byte digits) (range_with_len 0 n)) e
