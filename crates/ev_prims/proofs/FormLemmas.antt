-- How many arguments a call has.
use Rattle.std.proofs.Common.{◌≡◌, ◌<◌, ◌≤◌, List, [], ◌∷◌, length, get_or, refl, subst, sym, ap, ◌∙◌, arith}
use Rattle.std.specs.Prelude.{All}
use Rattle.ev_base.specs.declared.values.Value.{Value}
use Rattle.ev_heap.specs.Contents.{Contents, IsWeighable}
use Rattle.ev_prims.specs.declared.forms.Form.TheVariants as form
use Rattle.ev_prims.specs.declared.forms.Args.TheVariants as args
use Rattle.ev_prims.specs.Forms.{form_of, args_of}

-- ---- lists by their lengths

pub empty_list : (xs : List Value) → length xs < 1 → xs ≡ []
empty_list [] h = refl
empty_list (x ∷ xs) h = absurd (omega arith)

pub list_of_one : (xs : List Value) (a : Value) → length xs ≡ 1 → a ≡ get_or xs 0 a → xs ≡ a ∷ []
list_of_one [] a l e = absurd (omega arith)
list_of_one (x ∷ []) a l e = ap (λ y. y ∷ []) (sym e)
list_of_one (x ∷ y ∷ xs) a l e = absurd (omega arith)

pub list_of_two : (xs : List Value) (a b : Value) → length xs ≡ 2 → a ≡ get_or xs 0 a → b ≡ get_or xs 1 b → xs ≡ a ∷ b ∷ []
list_of_two [] a b l e f = absurd (omega arith)
list_of_two (x ∷ []) a b l e f = absurd (omega arith)
list_of_two (x ∷ y ∷ []) a b l e f = ap (λ z. z ∷ y ∷ []) (sym e) ∙ ap (λ z. a ∷ z ∷ []) (sym f)
list_of_two (x ∷ y ∷ z ∷ xs) a b l e f = absurd (omega arith)

pub list_of_three : (xs : List Value) (a b c : Value) → length xs ≡ 3 → a ≡ get_or xs 0 a → b ≡ get_or xs 1 b → c ≡ get_or xs 2 c → xs ≡ a ∷ b ∷ c ∷ []
list_of_three [] a b c l e f g = absurd (omega arith)
list_of_three (x ∷ []) a b c l e f g = absurd (omega arith)
list_of_three (x ∷ y ∷ []) a b c l e f g = absurd (omega arith)
list_of_three (x ∷ y ∷ z ∷ []) a b c l e f g = ap (λ w. w ∷ y ∷ z ∷ []) (sym e) ∙ ap (λ w. a ∷ w ∷ z ∷ []) (sym f) ∙ ap (λ w. a ∷ b ∷ w ∷ []) (sym g)
list_of_three (x ∷ y ∷ z ∷ w ∷ xs) a b c l e f g = absurd (omega arith)

-- ---- arguments of primitives

pub args_empty : (xs : List Value) → length xs < 1 → args_of xs ≡ args.Empty
unfolding args_of
args_empty xs h = ap args_of (empty_list xs h)

pub args_one : (xs : List Value) (a : Value) → length xs ≡ 1 → a ≡ get_or xs 0 a → args_of xs ≡ args.One a
unfolding args_of
args_one xs a l e = ap args_of (list_of_one xs a l e)

pub args_two : (xs : List Value) (a b : Value) → length xs ≡ 2 → a ≡ get_or xs 0 a → b ≡ get_or xs 1 b → args_of xs ≡ args.Two a b
unfolding args_of
args_two xs a b l e f = ap args_of (list_of_two xs a b l e f)

pub args_three : (xs : List Value) (a b c : Value) → length xs ≡ 3 → a ≡ get_or xs 0 a → b ≡ get_or xs 1 b → c ≡ get_or xs 2 c → args_of xs ≡ args.Three a b c
unfolding args_of
args_three xs a b c l e f g = ap args_of (list_of_three xs a b c l e f g)

pub args_more : (xs : List Value) → 4 ≤ length xs → args_of xs ≡ args.More
unfolding args_of
args_more [] h = absurd (omega arith)
args_more (a ∷ []) h = absurd (omega arith)
args_more (a ∷ b ∷ []) h = absurd (omega arith)
args_more (a ∷ b ∷ c ∷ []) h = absurd (omega arith)
args_more (a ∷ b ∷ c ∷ d ∷ xs) h = refl

pub none_of_args : (xs : List Value) → args_of xs ≡ args.Empty → xs ≡ []
unfolding args_of
none_of_args [] e = refl
none_of_args (a ∷ []) e = absurd (cc)
none_of_args (a ∷ b ∷ []) e = absurd (cc)
none_of_args (a ∷ b ∷ c ∷ []) e = absurd (cc)
none_of_args (a ∷ b ∷ c ∷ d ∷ xs) e = absurd (cc)

pub one_of_args : (xs : List Value) (x : Value) → args_of xs ≡ args.One x → xs ≡ x ∷ []
unfolding args_of
one_of_args [] x e = absurd (cc)
one_of_args (a ∷ []) x e = cc
one_of_args (a ∷ b ∷ []) x e = absurd (cc)
one_of_args (a ∷ b ∷ c ∷ []) x e = absurd (cc)
one_of_args (a ∷ b ∷ c ∷ d ∷ xs) x e = absurd (cc)

pub two_of_args : (xs : List Value) (x y : Value) → args_of xs ≡ args.Two x y → xs ≡ x ∷ y ∷ []
unfolding args_of
two_of_args [] x y e = absurd (cc)
two_of_args (a ∷ []) x y e = absurd (cc)
two_of_args (a ∷ b ∷ []) x y e = cc
two_of_args (a ∷ b ∷ c ∷ []) x y e = absurd (cc)
two_of_args (a ∷ b ∷ c ∷ d ∷ xs) x y e = absurd (cc)

pub three_of_args : (xs : List Value) (x y z : Value) → args_of xs ≡ args.Three x y z → xs ≡ x ∷ y ∷ z ∷ []
unfolding args_of
three_of_args [] x y z e = absurd (cc)
three_of_args (a ∷ []) x y z e = absurd (cc)
three_of_args (a ∷ b ∷ []) x y z e = absurd (cc)
three_of_args (a ∷ b ∷ c ∷ []) x y z e = cc
three_of_args (a ∷ b ∷ c ∷ d ∷ xs) x y z e = absurd (cc)

-- ---- arguments of texts and lists

pub form_alone : (hs xs : List Value) → length hs < 1 → form_of hs xs ≡ form.Alone
unfolding form_of
form_alone [] xs h = refl
form_alone (a ∷ hs) xs h = absurd (omega arith)

pub form_one : (hs xs : List Value) (a x : Value) → length hs ≡ 1 → a ≡ get_or hs 0 a → length xs ≡ 1 → x ≡ get_or xs 0 x → form_of hs xs ≡ form.One a x
unfolding form_of
form_one hs xs a x l e m f = ap (λ ys. form_of ys xs) (list_of_one hs a l e) ∙ ap (form_of (a ∷ [])) (list_of_one xs x m f)

two_args : (a i j : Value) (hs : List Value) → form_of (a ∷ hs) (i ∷ j ∷ []) ≡ form.Two i j
unfolding form_of
two_args a i j [] = refl
two_args a i j (b ∷ hs) = refl

pub form_two : (hs xs : List Value) (i j : Value) → 1 ≤ length hs → length xs ≡ 2 → i ≡ get_or xs 0 i → j ≡ get_or xs 1 j → form_of hs xs ≡ form.Two i j
unfolding form_of
form_two [] xs i j s l e f = absurd (omega arith)
form_two (a ∷ hs) xs i j s l e f = ap (form_of (a ∷ hs)) (list_of_two xs i j l e f) ∙ two_args a i j hs

pub form_short : (hs xs : List Value) → 1 ≤ length hs → length xs < 1 → form_of hs xs ≡ form.Other
unfolding form_of
form_short [] xs h l = absurd (omega arith)
form_short (a ∷ []) [] h l = refl
form_short (a ∷ b ∷ hs) [] h l = refl
form_short (a ∷ hs) (x ∷ xs) h l = absurd (omega arith)

pub form_long : (hs xs : List Value) → 1 ≤ length hs → 3 ≤ length xs → form_of hs xs ≡ form.Other
unfolding form_of
form_long [] xs h l = absurd (omega arith)
form_long (a ∷ hs) [] h l = absurd (omega arith)
form_long (a ∷ hs) (x ∷ []) h l = absurd (omega arith)
form_long (a ∷ hs) (x ∷ y ∷ []) h l = absurd (omega arith)
form_long (a ∷ []) (x ∷ y ∷ z ∷ xs) h l = refl
form_long (a ∷ b ∷ hs) (x ∷ y ∷ z ∷ xs) h l = refl

pub form_odd : (hs xs : List Value) → 2 ≤ length hs → length xs ≡ 1 → form_of hs xs ≡ form.Other
unfolding form_of
form_odd [] xs h l = absurd (omega arith)
form_odd (a ∷ []) xs h l = absurd (omega arith)
form_odd (a ∷ b ∷ hs) [] h l = absurd (omega arith)
form_odd (a ∷ b ∷ hs) (x ∷ []) h l = refl
form_odd (a ∷ b ∷ hs) (x ∷ y ∷ xs) h l = absurd (omega arith)

-- the one followed argument is among the arguments
pub good_one : (h : Contents) (hs xs : List Value) (a x : Value) → form_of hs xs ≡ form.One a x → All (IsWeighable h) xs → IsWeighable h x
unfolding form_of
good_one h [] xs a x e g = absurd (cc)
good_one h (b ∷ []) [] a x e g = absurd (cc)
good_one h (b ∷ []) (y ∷ []) a x e g = let same : y ≡ x = cc in subst (IsWeighable h) same (g 0 y (omega arith))
good_one h (b ∷ []) (y ∷ z ∷ []) a x e g = absurd (cc)
good_one h (b ∷ []) (y ∷ z ∷ w ∷ xs) a x e g = absurd (cc)
good_one h (b ∷ c ∷ hs) [] a x e g = absurd (cc)
good_one h (b ∷ c ∷ hs) (y ∷ []) a x e g = absurd (cc)
good_one h (b ∷ c ∷ hs) (y ∷ z ∷ []) a x e g = absurd (cc)
good_one h (b ∷ c ∷ hs) (y ∷ z ∷ w ∷ xs) a x e g = absurd (cc)
