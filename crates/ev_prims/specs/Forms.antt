-- How many arguments a call has.
use Rattle.std.specs.Prelude.{List, [], ◌∷◌}
use Rattle.ev_base.specs.declared.values.Value.{Value}
use Rattle.ev_prims.specs.declared.forms.Form.{Form}
use Rattle.ev_prims.specs.declared.forms.Form.TheVariants as form
use Rattle.ev_prims.specs.declared.forms.Args.{Args}
use Rattle.ev_prims.specs.declared.forms.Args.TheVariants as args

-- of the arguments as they are held and as they are followed, what texts and lists ask
unfoldable pub form_of : List Value → List Value → Form
form_of [] xs = form.Alone
form_of (a ∷ []) (x ∷ []) = form.One a x
form_of (a ∷ hs) (i ∷ j ∷ []) = form.Two i j
form_of (a ∷ hs) xs = form.Other

unfoldable pub args_of : List Value → Args
args_of [] = args.Empty
args_of (a ∷ []) = args.One a
args_of (a ∷ b ∷ []) = args.Two a b
args_of (a ∷ b ∷ c ∷ []) = args.Three a b c
args_of (a ∷ b ∷ c ∷ d ∷ xs) = args.More
