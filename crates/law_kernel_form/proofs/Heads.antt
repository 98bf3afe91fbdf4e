-- The words behind an opening bracket.
use Rattle.std.proofs.Common.{◌≡◌, ℕ, List, [], ◌∷◌, ◌++◌, length, refl}
use Rattle.std.specs.Prelude.{codes}
use Rattle.std.specs.Char.{encode_utf8}
use Rattle.std.specs.Str.{chars, IsUtf8}
use Rattle.def_kernel.specs.declared.node.Node.{Node}
use Rattle.def_kernel.specs.declared.reader.Frame.{Frame}
use Rattle.def_kernel.specs.declared.reader.Mode.TheVariants.{Heading as heading}
use Rattle.def_kernel.specs.declared.shape.Kind.{Kind}
use Rattle.def_kernel.specs.declared.shape.Kind.TheVariants.{Expression, Pattern, Member, Naming}
use Rattle.def_kernel.specs.declared.shape.Head.{Head}
use Rattle.def_kernel.specs.declared.shape.Head.TheVariants.{Lit, Noun, Set, Def, Call, Seq, If, Escape, Try, Finally, Hide, Match, Object, Method, Matcher, Final, Var, Any, List as ListHead, Via, FinalName, NoName}
use Rattle.def_kernel.specs.Reading.{no_node}
use Rattle.law_kernel_form.proofs.Steps.{steps, state, at, Stops, space, bracket}

-- a form that is begun with these characters, where a space or a bracket comes next
abbrev Begun : Kind → List ℕ → Head → List ℕ → Type 0
Begun kind word head rest = (frames : List Frame) (nodes : List Node)
    → steps (word ++ rest) (state frames nodes (heading kind [])) ≡ steps rest (at (length nodes) head [] frames (nodes ++ no_node ∷ []))

begun : (kind : Kind) (word : List ℕ) (head : Head) → ((cs : List ℕ) → Begun kind word head (32 ∷ cs)) → ((cs : List ℕ) → Begun kind word head (41 ∷ cs))
    → (rest : List ℕ) → Stops rest → Begun kind word head rest
begun kind word head at_space at_bracket _ (space {cs = cs}) = at_space cs
begun kind word head at_space at_bracket _ (bracket {cs = cs}) = at_bracket cs

-- a form of this kind and this shape begins with this word
pub record Begins (kind : Kind) (word : List ℕ) (head : Head) : Type 0 where
  pub utf8 : IsUtf8 word
  pub spelled : chars word ≡ word
  pub reads : (rest : List ℕ) → Stops rest → Begun kind word head rest

pub begins_lit : Begins Expression (codes "lit") Lit
unfolding chars encode_utf8
begins_lit = record {
  utf8 = (codes "lit", (refl, refl));
  spelled = refl;
  reads = begun Expression (codes "lit") Lit (λ cs frames nodes. refl) (λ cs frames nodes. refl);
}

pub begins_noun : Begins Expression (codes "noun") Noun
unfolding chars encode_utf8
begins_noun = record {
  utf8 = (codes "noun", (refl, refl));
  spelled = refl;
  reads = begun Expression (codes "noun") Noun (λ cs frames nodes. refl) (λ cs frames nodes. refl);
}

pub begins_set : Begins Expression (codes "set") Set
unfolding chars encode_utf8
begins_set = record {
  utf8 = (codes "set", (refl, refl));
  spelled = refl;
  reads = begun Expression (codes "set") Set (λ cs frames nodes. refl) (λ cs frames nodes. refl);
}

pub begins_def : Begins Expression (codes "def") Def
unfolding chars encode_utf8
begins_def = record {
  utf8 = (codes "def", (refl, refl));
  spelled = refl;
  reads = begun Expression (codes "def") Def (λ cs frames nodes. refl) (λ cs frames nodes. refl);
}

pub begins_call : Begins Expression (codes "call") Call
unfolding chars encode_utf8
begins_call = record {
  utf8 = (codes "call", (refl, refl));
  spelled = refl;
  reads = begun Expression (codes "call") Call (λ cs frames nodes. refl) (λ cs frames nodes. refl);
}

pub begins_seq : Begins Expression (codes "seq") Seq
unfolding chars encode_utf8
begins_seq = record {
  utf8 = (codes "seq", (refl, refl));
  spelled = refl;
  reads = begun Expression (codes "seq") Seq (λ cs frames nodes. refl) (λ cs frames nodes. refl);
}

pub begins_if : Begins Expression (codes "if") If
unfolding chars encode_utf8
begins_if = record {
  utf8 = (codes "if", (refl, refl));
  spelled = refl;
  reads = begun Expression (codes "if") If (λ cs frames nodes. refl) (λ cs frames nodes. refl);
}

pub begins_escape : Begins Expression (codes "escape") Escape
unfolding chars encode_utf8
begins_escape = record {
  utf8 = (codes "escape", (refl, refl));
  spelled = refl;
  reads = begun Expression (codes "escape") Escape (λ cs frames nodes. refl) (λ cs frames nodes. refl);
}

pub begins_try : Begins Expression (codes "try") Try
unfolding chars encode_utf8
begins_try = record {
  utf8 = (codes "try", (refl, refl));
  spelled = refl;
  reads = begun Expression (codes "try") Try (λ cs frames nodes. refl) (λ cs frames nodes. refl);
}

pub begins_finally : Begins Expression (codes "finally") Finally
unfolding chars encode_utf8
begins_finally = record {
  utf8 = (codes "finally", (refl, refl));
  spelled = refl;
  reads = begun Expression (codes "finally") Finally (λ cs frames nodes. refl) (λ cs frames nodes. refl);
}

pub begins_hide : Begins Expression (codes "hide") Hide
unfolding chars encode_utf8
begins_hide = record {
  utf8 = (codes "hide", (refl, refl));
  spelled = refl;
  reads = begun Expression (codes "hide") Hide (λ cs frames nodes. refl) (λ cs frames nodes. refl);
}

pub begins_match : Begins Expression (codes "match") Match
unfolding chars encode_utf8
begins_match = record {
  utf8 = (codes "match", (refl, refl));
  spelled = refl;
  reads = begun Expression (codes "match") Match (λ cs frames nodes. refl) (λ cs frames nodes. refl);
}

pub begins_object : Begins Expression (codes "object") Object
unfolding chars encode_utf8
begins_object = record {
  utf8 = (codes "object", (refl, refl));
  spelled = refl;
  reads = begun Expression (codes "object") Object (λ cs frames nodes. refl) (λ cs frames nodes. refl);
}

pub begins_final : Begins Pattern (codes "final") Final
unfolding chars encode_utf8
begins_final = record {
  utf8 = (codes "final", (refl, refl));
  spelled = refl;
  reads = begun Pattern (codes "final") Final (λ cs frames nodes. refl) (λ cs frames nodes. refl);
}

pub begins_var : Begins Pattern (codes "var") Var
unfolding chars encode_utf8
begins_var = record {
  utf8 = (codes "var", (refl, refl));
  spelled = refl;
  reads = begun Pattern (codes "var") Var (λ cs frames nodes. refl) (λ cs frames nodes. refl);
}

pub begins_any : Begins Pattern (codes "any") Any
unfolding chars encode_utf8
begins_any = record {
  utf8 = (codes "any", (refl, refl));
  spelled = refl;
  reads = begun Pattern (codes "any") Any (λ cs frames nodes. refl) (λ cs frames nodes. refl);
}

pub begins_list_head : Begins Pattern (codes "list") ListHead
unfolding chars encode_utf8
begins_list_head = record {
  utf8 = (codes "list", (refl, refl));
  spelled = refl;
  reads = begun Pattern (codes "list") ListHead (λ cs frames nodes. refl) (λ cs frames nodes. refl);
}

pub begins_via : Begins Pattern (codes "via") Via
unfolding chars encode_utf8
begins_via = record {
  utf8 = (codes "via", (refl, refl));
  spelled = refl;
  reads = begun Pattern (codes "via") Via (λ cs frames nodes. refl) (λ cs frames nodes. refl);
}

pub begins_method : Begins Member (codes "method") Method
unfolding chars encode_utf8
begins_method = record {
  utf8 = (codes "method", (refl, refl));
  spelled = refl;
  reads = begun Member (codes "method") Method (λ cs frames nodes. refl) (λ cs frames nodes. refl);
}

pub begins_matcher : Begins Member (codes "matcher") Matcher
unfolding chars encode_utf8
begins_matcher = record {
  utf8 = (codes "matcher", (refl, refl));
  spelled = refl;
  reads = begun Member (codes "matcher") Matcher (λ cs frames nodes. refl) (λ cs frames nodes. refl);
}

pub begins_final_name : Begins Naming (codes "final") FinalName
unfolding chars encode_utf8
begins_final_name = record {
  utf8 = (codes "final", (refl, refl));
  spelled = refl;
  reads = begun Naming (codes "final") FinalName (λ cs frames nodes. refl) (λ cs frames nodes. refl);
}

pub begins_no_name : Begins Naming (codes "any") NoName
unfolding chars encode_utf8
begins_no_name = record {
  utf8 = (codes "any", (refl, refl));
  spelled = refl;
  reads = begun Naming (codes "any") NoName (λ cs frames nodes. refl) (λ cs frames nodes. refl);
}
