-- Each place is good.
use Rattle.std.proofs.Common.{◌≡◌, ℕ, zero, suc, true, refl, nat_eq}
use Rattle.def_syntax.specs.declared.syntax.Shape.{Shape}
use Rattle.def_syntax.specs.declared.syntax.Shape.TheVariants as shapes
use Rattle.def_syntax.specs.declared.syntax.Line.{Line}
use Rattle.def_syntax.specs.declared.syntax.Line.TheVariants as lines
use Rattle.def_syntax.specs.declared.place.Place.{Place}
use Rattle.def_syntax.specs.declared.place.Place.TheVariants as places
use Rattle.def_syntax.specs.declared.place.Series.{Series}
use Rattle.def_syntax.specs.declared.place.Series.TheVariants as series
use Rattle.def_syntax.specs.declared.place.Head.{Head}
use Rattle.def_syntax.specs.declared.place.Head.TheVariants as heads
use Rattle.def_syntax.specs.declared.place.Context.{Context}
use Rattle.def_syntax.specs.declared.place.Context.TheVariants.{Plain, BeforeBlock}
use Rattle.def_syntax.specs.declared.place.Named.TheVariants as named
use Rattle.def_syntax.specs.declared.place.Named.{Named}
use Rattle.def_syntax.specs.declared.place.Definition.TheVariants as definitions
use Rattle.def_syntax.specs.declared.place.Definition.{Definition}
use Rattle.def_syntax.specs.declared.place.Role.TheVariants as roles
use Rattle.def_syntax.specs.declared.place.Role.{Role}
use Rattle.def_syntax.specs.declared.place.Caught.TheVariants as caught
use Rattle.def_syntax.specs.declared.place.Caught.{Caught}
use Rattle.def_syntax.specs.Machine.{begin}
use Rattle.def_syntax.specs.Heights.{weight}
use Rattle.def_syntax.proofs.Numbering.{all_kinds, every}
use Rattle.def_syntax.proofs.Checks.{fitting, rising, good, and_both}

pub weight_self : (s : Shape) → nat_eq (weight s) (weight s) ≡ true
weight_self shapes.Program = refl
weight_self _ = refl

good_done : (s : Shape) → good (places.Done s) ≡ true
unfolding good
good_done s = rw (weight_self s) refl

last_fits : (l : Line) (s : Shape) → fitting (places.Last l s) ≡ true
unfolding every all_kinds begin
last_fits lines.Expr s = refl
last_fits lines.ExprBeforeBlock s = refl
last_fits lines.Or s = refl
last_fits lines.And s = refl
last_fits lines.Equality s = refl
last_fits lines.Bits s = refl
last_fits lines.Relation s = refl
last_fits lines.Range s = refl
last_fits lines.Sum s = refl
last_fits lines.Product s = refl
last_fits lines.Power s = refl
last_fits lines.Prefix s = refl
last_fits lines.Postfix s = refl
last_fits lines.Prim s = refl
last_fits lines.Block s = refl
last_fits lines.Branch s = refl
last_fits lines.Pattern s = refl
last_fits lines.OtherPattern s = refl
last_fits lines.Guard s = refl
last_fits lines.Member s = refl

last_rises : (l : Line) (s : Shape) → rising (places.Last l s) ≡ true
last_rises lines.Expr s = rw (weight_self s) refl
last_rises lines.ExprBeforeBlock s = rw (weight_self s) refl
last_rises lines.Or s = rw (weight_self s) refl
last_rises lines.And s = rw (weight_self s) refl
last_rises lines.Equality s = rw (weight_self s) refl
last_rises lines.Bits s = rw (weight_self s) refl
last_rises lines.Relation s = rw (weight_self s) refl
last_rises lines.Range s = rw (weight_self s) refl
last_rises lines.Sum s = rw (weight_self s) refl
last_rises lines.Product s = rw (weight_self s) refl
last_rises lines.Power s = rw (weight_self s) refl
last_rises lines.Prefix s = rw (weight_self s) refl
last_rises lines.Postfix s = rw (weight_self s) refl
last_rises lines.Prim s = rw (weight_self s) refl
last_rises lines.Block s = rw (weight_self s) refl
last_rises lines.Branch s = rw (weight_self s) refl
last_rises lines.Pattern s = rw (weight_self s) refl
last_rises lines.OtherPattern s = rw (weight_self s) refl
last_rises lines.Guard s = rw (weight_self s) refl
last_rises lines.Member s = rw (weight_self s) refl

good_last : (l : Line) (s : Shape) → good (places.Last l s) ≡ true
unfolding good
good_last l s = and_both (fitting (places.Last l s)) (rising (places.Last l s)) (last_fits l s) (last_rises l s)

guard_fits : (s : Shape) → fitting (places.PatternGuard s) ≡ true
unfolding every all_kinds begin
guard_fits s = refl

guard_rises : (s : Shape) → rising (places.PatternGuard s) ≡ true
guard_rises s = rw (weight_self s) refl

good_guard : (s : Shape) → good (places.PatternGuard s) ≡ true
unfolding good
good_guard s = and_both (fitting (places.PatternGuard s)) (rising (places.PatternGuard s)) (guard_fits s) (guard_rises s)

good_program : good places.Program ≡ true
unfolding good every all_kinds begin
good_program = refl

good_programmore : good places.ProgramMore ≡ true
unfolding good every all_kinds begin
good_programmore = refl

good_block : good places.Block ≡ true
unfolding good every all_kinds begin
good_block = refl

good_blockmore : good places.BlockMore ≡ true
unfolding good every all_kinds begin
good_blockmore = refl

good_leave : good places.Leave ≡ true
unfolding good every all_kinds begin
good_leave = refl

good_ifthen : good places.IfThen ≡ true
unfolding good every all_kinds begin
good_ifthen = refl

good_ifelse : good places.IfElse ≡ true
unfolding good every all_kinds begin
good_ifelse = refl

good_whenarrow : good places.WhenArrow ≡ true
unfolding good every all_kinds begin
good_whenarrow = refl

good_whenblock : good places.WhenBlock ≡ true
unfolding good every all_kinds begin
good_whenblock = refl

good_escape : good places.Escape ≡ true
unfolding good every all_kinds begin
good_escape = refl

good_escapeblock : good places.EscapeBlock ≡ true
unfolding good every all_kinds begin
good_escapeblock = refl

good_try : good places.Try ≡ true
unfolding good every all_kinds begin
good_try = refl

good_trymore : good places.TryMore ≡ true
unfolding good every all_kinds begin
good_trymore = refl

good_trypattern : good places.TryPattern ≡ true
unfolding good every all_kinds begin
good_trypattern = refl

good_tryblock : good places.TryBlock ≡ true
unfolding good every all_kinds begin
good_tryblock = refl

good_for : good places.For ≡ true
unfolding good every all_kinds begin
good_for = refl

good_forkey : good places.ForKey ≡ true
unfolding good every all_kinds begin
good_forkey = refl

good_forvalue : good places.ForValue ≡ true
unfolding good every all_kinds begin
good_forvalue = refl

good_forin : good places.ForIn ≡ true
unfolding good every all_kinds begin
good_forin = refl

good_forlist : good places.ForList ≡ true
unfolding good every all_kinds begin
good_forlist = refl

good_verb : good places.Verb ≡ true
unfolding good every all_kinds begin
good_verb = refl

good_verbopen : good places.VerbOpen ≡ true
unfolding good every all_kinds begin
good_verbopen = refl

good_send : good places.Send ≡ true
unfolding good every all_kinds begin
good_send = refl

good_sendopen : good places.SendOpen ≡ true
unfolding good every all_kinds begin
good_sendopen = refl

good_auditor : good places.Auditor ≡ true
unfolding good every all_kinds begin
good_auditor = refl

good_auditormore : good places.AuditorMore ≡ true
unfolding good every all_kinds begin
good_auditormore = refl

good_script : good places.Script ≡ true
unfolding good every all_kinds begin
good_script = refl

good_result : good places.Result ≡ true
unfolding good every all_kinds begin
good_result = refl

good_resultguard : good places.ResultGuard ≡ true
unfolding good every all_kinds begin
good_resultguard = refl

good_resultguarded : good places.ResultGuarded ≡ true
unfolding good every all_kinds begin
good_resultguarded = refl

good_functionauditor : good places.FunctionAuditor ≡ true
unfolding good every all_kinds begin
good_functionauditor = refl

good_functionauditormore : good places.FunctionAuditorMore ≡ true
unfolding good every all_kinds begin
good_functionauditormore = refl

good_matcher : good places.Matcher ≡ true
unfolding good every all_kinds begin
good_matcher = refl

good_varpattern : good places.VarPattern ≡ true
unfolding good every all_kinds begin
good_varpattern = refl

good_nounguard : good places.NounGuard ≡ true
unfolding good every all_kinds begin
good_nounguard = refl

good_first : (x : Series) → good (places.First x) ≡ true
unfolding good every all_kinds begin
good_first series.Arguments = refl
good_first series.Members = refl
good_first series.Index = refl
good_first series.VerbArguments = refl
good_first series.SendArguments = refl
good_first series.GuardArguments = refl
good_first series.Parameters = refl
good_first series.FunctionParameters = refl
good_first series.ToParameters = refl
good_first series.MethodParameters = refl
good_first series.ListPattern = refl

good_item : (n : ℕ) (x : Series) → good (places.Item n x) ≡ true
unfolding good every all_kinds begin
good_item zero series.Arguments = refl
good_item zero series.Members = refl
good_item zero series.Index = refl
good_item zero series.VerbArguments = refl
good_item zero series.SendArguments = refl
good_item zero series.GuardArguments = refl
good_item zero series.Parameters = refl
good_item zero series.FunctionParameters = refl
good_item zero series.ToParameters = refl
good_item zero series.MethodParameters = refl
good_item zero series.ListPattern = refl
good_item (suc n) series.Arguments = refl
good_item (suc n) series.Members = refl
good_item (suc n) series.Index = refl
good_item (suc n) series.VerbArguments = refl
good_item (suc n) series.SendArguments = refl
good_item (suc n) series.GuardArguments = refl
good_item (suc n) series.Parameters = refl
good_item (suc n) series.FunctionParameters = refl
good_item (suc n) series.ToParameters = refl
good_item (suc n) series.MethodParameters = refl
good_item (suc n) series.ListPattern = refl

good_more : (n : ℕ) (x : Series) → good (places.More n x) ≡ true
unfolding good every all_kinds begin
good_more zero series.Arguments = refl
good_more zero series.Members = refl
good_more zero series.Index = refl
good_more zero series.VerbArguments = refl
good_more zero series.SendArguments = refl
good_more zero series.GuardArguments = refl
good_more zero series.Parameters = refl
good_more zero series.FunctionParameters = refl
good_more zero series.ToParameters = refl
good_more zero series.MethodParameters = refl
good_more zero series.ListPattern = refl
good_more (suc n) series.Arguments = refl
good_more (suc n) series.Members = refl
good_more (suc n) series.Index = refl
good_more (suc n) series.VerbArguments = refl
good_more (suc n) series.SendArguments = refl
good_more (suc n) series.GuardArguments = refl
good_more (suc n) series.Parameters = refl
good_more (suc n) series.FunctionParameters = refl
good_more (suc n) series.ToParameters = refl
good_more (suc n) series.MethodParameters = refl
good_more (suc n) series.ListPattern = refl

good_head_open : (h : Head) → good (places.Open h) ≡ true
unfolding good every all_kinds begin
good_head_open heads.If = refl
good_head_open heads.While = refl
good_head_open heads.When = refl
good_head_open heads.Via = refl
good_head_open heads.Group = refl
good_head_open heads.Guard = refl

good_head_test : (h : Head) → good (places.Test h) ≡ true
unfolding good every all_kinds begin
good_head_test heads.If = refl
good_head_test heads.While = refl
good_head_test heads.When = refl
good_head_test heads.Via = refl
good_head_test heads.Group = refl
good_head_test heads.Guard = refl

good_head_close : (h : Head) → good (places.Close h) ≡ true
unfolding good every all_kinds begin
good_head_close heads.If = refl
good_head_close heads.While = refl
good_head_close heads.When = refl
good_head_close heads.Via = refl
good_head_close heads.Group = refl
good_head_close heads.Guard = refl

good_caught : (e : Caught) → good (places.Caught e) ≡ true
unfolding good every all_kinds begin
good_caught caught.Escape = refl
good_caught caught.When = refl

good_catchpattern : (e : Caught) → good (places.CatchPattern e) ≡ true
unfolding good every all_kinds begin
good_catchpattern caught.Escape = refl
good_catchpattern caught.When = refl

good_catchblock : (e : Caught) → good (places.CatchBlock e) ≡ true
unfolding good every all_kinds begin
good_catchblock caught.Escape = refl
good_catchblock caught.When = refl

good_def : (c : Context) → good (places.Def c) ≡ true
unfolding good every all_kinds begin
good_def Plain = refl
good_def BeforeBlock = refl

good_name : (c : Context) (x : Named) → good (places.Name c x) ≡ true
unfolding good every all_kinds begin
good_name Plain named.Noun = refl
good_name Plain named.Ignore = refl
good_name BeforeBlock named.Noun = refl
good_name BeforeBlock named.Ignore = refl

good_nameguard : (c : Context) (x : Named) → good (places.NameGuard c x) ≡ true
unfolding good every all_kinds begin
good_nameguard Plain named.Noun = refl
good_nameguard Plain named.Ignore = refl
good_nameguard BeforeBlock named.Noun = refl
good_nameguard BeforeBlock named.Ignore = refl

good_nameguarded : (c : Context) (x : Named) → good (places.NameGuarded c x) ≡ true
unfolding good every all_kinds begin
good_nameguarded Plain named.Noun = refl
good_nameguarded Plain named.Ignore = refl
good_nameguarded BeforeBlock named.Noun = refl
good_nameguarded BeforeBlock named.Ignore = refl

good_bound : (c : Context) (d : Definition) → good (places.Bound c d) ≡ true
unfolding good every all_kinds begin
good_bound Plain definitions.Def = refl
good_bound Plain definitions.Var = refl
good_bound BeforeBlock definitions.Def = refl
good_bound BeforeBlock definitions.Var = refl

good_exit : (c : Context) (d : Definition) → good (places.Exit c d) ≡ true
unfolding good every all_kinds begin
good_exit Plain definitions.Def = refl
good_exit Plain definitions.Var = refl
good_exit BeforeBlock definitions.Def = refl
good_exit BeforeBlock definitions.Var = refl

good_ejector : (c : Context) (d : Definition) → good (places.Ejector c d) ≡ true
unfolding good every all_kinds begin
good_ejector Plain definitions.Def = refl
good_ejector Plain definitions.Var = refl
good_ejector BeforeBlock definitions.Def = refl
good_ejector BeforeBlock definitions.Var = refl

good_value : (c : Context) (d : Definition) → good (places.Value c d) ≡ true
unfolding good every all_kinds begin
good_value Plain definitions.Def = refl
good_value Plain definitions.Var = refl
good_value BeforeBlock definitions.Def = refl
good_value BeforeBlock definitions.Var = refl

good_var : (c : Context) → good (places.Var c) ≡ true
unfolding good every all_kinds begin
good_var Plain = refl
good_var BeforeBlock = refl

good_varname : (c : Context) → good (places.VarName c) ≡ true
unfolding good every all_kinds begin
good_varname Plain = refl
good_varname BeforeBlock = refl

good_varguard : (c : Context) → good (places.VarGuard c) ≡ true
unfolding good every all_kinds begin
good_varguard Plain = refl
good_varguard BeforeBlock = refl

good_memberverb : (r : Role) → good (places.MemberVerb r) ≡ true
unfolding good every all_kinds begin
good_memberverb roles.To = refl
good_memberverb roles.Method = refl

good_memberopen : (r : Role) → good (places.MemberOpen r) ≡ true
unfolding good every all_kinds begin
good_memberopen roles.To = refl
good_memberopen roles.Method = refl

good_memberresult : (r : Role) → good (places.MemberResult r) ≡ true
unfolding good every all_kinds begin
good_memberresult roles.To = refl
good_memberresult roles.Method = refl

good_memberguard : (r : Role) → good (places.MemberGuard r) ≡ true
unfolding good every all_kinds begin
good_memberguard roles.To = refl
good_memberguard roles.Method = refl

pub all_good : (q : Place) → good q ≡ true
all_good (places.Done s) = good_done s
all_good (places.Last l s) = good_last l s
all_good (places.PatternGuard s) = good_guard s
all_good places.Program = good_program
all_good places.ProgramMore = good_programmore
all_good places.Block = good_block
all_good places.BlockMore = good_blockmore
all_good places.Leave = good_leave
all_good places.IfThen = good_ifthen
all_good places.IfElse = good_ifelse
all_good places.WhenArrow = good_whenarrow
all_good places.WhenBlock = good_whenblock
all_good places.Escape = good_escape
all_good places.EscapeBlock = good_escapeblock
all_good places.Try = good_try
all_good places.TryMore = good_trymore
all_good places.TryPattern = good_trypattern
all_good places.TryBlock = good_tryblock
all_good places.For = good_for
all_good places.ForKey = good_forkey
all_good places.ForValue = good_forvalue
all_good places.ForIn = good_forin
all_good places.ForList = good_forlist
all_good places.Verb = good_verb
all_good places.VerbOpen = good_verbopen
all_good places.Send = good_send
all_good places.SendOpen = good_sendopen
all_good places.Auditor = good_auditor
all_good places.AuditorMore = good_auditormore
all_good places.Script = good_script
all_good places.Result = good_result
all_good places.ResultGuard = good_resultguard
all_good places.ResultGuarded = good_resultguarded
all_good places.FunctionAuditor = good_functionauditor
all_good places.FunctionAuditorMore = good_functionauditormore
all_good places.Matcher = good_matcher
all_good places.VarPattern = good_varpattern
all_good places.NounGuard = good_nounguard
all_good (places.First x) = good_first x
all_good (places.Item n x) = good_item n x
all_good (places.More n x) = good_more n x
all_good (places.Open h) = good_head_open h
all_good (places.Test h) = good_head_test h
all_good (places.Close h) = good_head_close h
all_good (places.Caught e) = good_caught e
all_good (places.CatchPattern e) = good_catchpattern e
all_good (places.CatchBlock e) = good_catchblock e
all_good (places.Def c) = good_def c
all_good (places.Var c) = good_var c
all_good (places.VarName c) = good_varname c
all_good (places.VarGuard c) = good_varguard c
all_good (places.Name c d) = good_name c d
all_good (places.NameGuard c d) = good_nameguard c d
all_good (places.NameGuarded c d) = good_nameguarded c d
all_good (places.Bound c d) = good_bound c d
all_good (places.Exit c d) = good_exit c d
all_good (places.Ejector c d) = good_ejector c d
all_good (places.Value c d) = good_value c d
all_good (places.MemberVerb r) = good_memberverb r
all_good (places.MemberOpen r) = good_memberopen r
all_good (places.MemberResult r) = good_memberresult r
all_good (places.MemberGuard r) = good_memberguard r
