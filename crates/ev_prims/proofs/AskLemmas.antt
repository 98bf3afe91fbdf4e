-- What is asked of primitives with many arguments.
use Rattle.std.proofs.Common.{◌≡◌, ◌≢◌, List, [], ◌∷◌, refl, ap, sym, ◌∙◌}
use Rattle.ev_base.specs.declared.values.Value.{Value as Held}
use Rattle.ev_heap.specs.Contents.{Contents}
use Rattle.def_machine.specs.Values.{Words}
use Rattle.def_machine.specs.Native as native
use Rattle.ev_prims.specs.Asking.{asked_in, list_asked}
use Rattle.ev_prims.specs.Forms.{args_of}
use Rattle.ev_prims.specs.Primitives.{primitive_in}
use Rattle.ev_prims.specs.Reading.{values_in}
use Rattle.ev_prims.specs.declared.asking.Asked.{Asked}
use Rattle.ev_prims.specs.declared.forms.Args.TheVariants.{More}
use Rattle.ev_prims.specs.declared.primitives.Primitive.{Primitive}
use Rattle.ev_prims.specs.declared.primitives.Primitive.TheVariants.{MakeList, Equalizer, Comparer, Looper, Sender, References, Thrower, StampReader, Guarding, Judging, NoPrimitive}

pub more_of_list : (h : Contents) (verb : Words) (xs : List Held) → args_of xs ≡ More → native.asked native.MakeList verb (values_in h xs) ≡ list_asked verb (values_in h xs)
unfolding native.asked native.list_ask args_of
more_of_list h verb [] e = absurd (cc)
more_of_list h verb (a ∷ []) e = refl
more_of_list h verb (a ∷ b ∷ []) e = absurd (cc)
more_of_list h verb (a ∷ b ∷ c ∷ xs) e = refl

others : (h : Contents) (verb : Words) (p : Primitive) (a b c d : Held) (xs : List Held) → p ≢ MakeList
    → native.asked (primitive_in p) verb (values_in h (a ∷ b ∷ c ∷ d ∷ xs)) ≡ native.NoMethod
unfolding native.asked native.equalizer_ask native.comparer_ask native.run_ask native.send_ask native.ref_ask native.stamp_ask native.guard_ask
others h verb MakeList a b c d xs n = absurd (n refl)
others h verb Equalizer a b c d xs n = refl
others h verb Comparer a b c d xs n = refl
others h verb Looper a b c d xs n = refl
others h verb Sender a b c d xs n = refl
others h verb References a b c d xs n = refl
others h verb Thrower a b c d xs n = refl
others h verb StampReader a b c d xs n = refl
others h verb (Guarding g) a b c d xs n = refl
others h verb (Judging r) a b c d xs n = refl
others h verb NoPrimitive a b c d xs n = refl

pub more_of_other : (h : Contents) (verb : Words) (p : Primitive) (xs : List Held) → p ≢ MakeList → args_of xs ≡ More → native.asked (primitive_in p) verb (values_in h xs) ≡ native.NoMethod
unfolding args_of
more_of_other h verb p [] n e = absurd (cc)
more_of_other h verb p (a ∷ []) n e = absurd (cc)
more_of_other h verb p (a ∷ b ∷ []) n e = absurd (cc)
more_of_other h verb p (a ∷ b ∷ c ∷ []) n e = absurd (cc)
more_of_other h verb p (a ∷ b ∷ c ∷ d ∷ xs) n e = others h verb p a b c d xs n

pub asked_same : (h : Contents) (r : Asked) (xs ys : List Held) (p q : native.Primitive) (verb : Words) → xs ≡ ys → p ≡ q
    → asked_in h ys r ≡ native.asked p verb (values_in h ys) → asked_in h xs r ≡ native.asked q verb (values_in h xs)
asked_same h r xs ys p q verb e f g =
    ap (λ zs. asked_in h zs r) e ∙ g ∙ ap (λ k. native.asked k verb (values_in h ys)) f ∙ ap (λ zs. native.asked q verb (values_in h zs)) (sym e)
