-- The texts of the runs of scripts.
use Rattle.def_kernel.specs.declared.node.Node.TheVariants.{Lit, Noun, Set, Call, Method, Final, Var}
use Rattle.def_kernel.specs.declared.node.Node.{Node}
use Rattle.def_kernel.specs.declared.node.Literal.TheVariants.{Int, Char, Text}
use Rattle.def_kernel.specs.declared.node.Literal.{Literal}
use Rattle.std.specs.Prelude.{◌≡◌, ℕ, ◌+◌, ◌<◌, ◌^◌, Some, filter, length, slice_get}
use Rattle.def_machine.specs.Values.{Name}
use Rattle.def_machine.specs.State.{Vat}
use Rattle.def_event.specs.Lines.{is_no_frame}
use Rattle.def_run.specs.World.{Script, Program, Entry, Turn, Carry, CutLink, NoticeLink, Run, run}
use Rattle.def_run.specs.Text.{vat_names, stop_text, text, wire_text}
use Rattle.def_kernel.specs.Trees.{IsTree}
pub use Rattle.law_machine.specs.Costs.Laws.{comes_to as world_of}
use Rattle.law_text.specs.Text.Feeds.{AllOf}
use Rattle.law_text.specs.Text.Values.{AreVats}
use Rattle.law_text.specs.Text.Parts.{OneForOne, EventsAlike}
use Rattle.law_text.specs.Text.Runs.{events_of}
use Rattle.law_text.specs.RunTexts.Fitting.{size}

-- ---- what is asked of a script

-- its entries are of its vats
abbrev pub IsEntryOf : ℕ → Entry → Type 0
IsEntryOf many (Turn v) = v < many
IsEntryOf many (Carry v w) = (v < many) × (w < many)
IsEntryOf many (CutLink v w) = (v < many) × (w < many)
IsEntryOf many (NoticeLink v w) = (v < many) × (w < many)

-- its texts are shorter than 2 ^ 64
abbrev pub IsShortLiteral : Literal → Type 0
IsShortLiteral (Int z) = Unit {0}
IsShortLiteral (Char c) = Unit {0}
IsShortLiteral (Text t) = length t < 2 ^ 64

abbrev pub IsShort : Node → Type 0
IsShort (Lit l) = IsShortLiteral l
IsShort (Noun x) = length x < 2 ^ 64
IsShort (Set x e) = length x < 2 ^ 64
IsShort (Call r verb args) = length verb < 2 ^ 64
IsShort (Method verb ps b) = length verb < 2 ^ 64
IsShort (Final x g) = length x < 2 ^ 64
IsShort (Var x g) = length x < 2 ^ 64
IsShort _ = Unit {0}

-- Each program is a kernel tree of texts shorter than 2 ^ 64, of a vat that knows vats of the script; and the entries are of these, and fewer than 2 ^ 64.
pub record IsOfVats (script : Script) : Type 0 where
  pub trees : AllOf (λ (p : Program). IsTree p.tree × AllOf IsShort p.tree) script.vats
  pub knows : AllOf (λ (p : Program). AllOf (λ (v : ℕ). v < length script.vats) p.knows) script.vats
  pub entries : AllOf (IsEntryOf (length script.vats)) script.schedule
  pub short : 1 + length script.schedule < 2 ^ 64

-- ---- what is asked of its run

-- No vat made 2 ^ 64 things, var slots, lists with their members, activations, messages and promises together, and fewer words were drawn.
pub record IsBounded (r : Run) : Type 0 where
  pub made : (v : ℕ) (s : Vat Name) → slice_get (world_of r).vats v ≡ Some s → size s < 2 ^ 64
  pub drawn : length (world_of r).drawn < 2 ^ 64

-- ---- the law

-- If these runs have one text, their histories are alike, event by event, and both go to their ends or stop by one line; of texts without frames, all events but these.
abbrev pub TextsTell : Script → Script → Type 0
TextsTell script other = (wire_text script (run script) ≡ wire_text other (run other) → OneForOne EventsAlike (events_of (run script)) (events_of (run other)) × (stop_text (run script) ≡ stop_text (run other)))
    × (text script (run script) ≡ text other (run other)
    → OneForOne EventsAlike (filter is_no_frame (events_of (run script))) (filter is_no_frame (events_of (run other))) × (stop_text (run script) ≡ stop_text (run other)))

-- Of two scripts with the same vats a text tells which run it is of.
abbrev pub TextsTellRunsOfScripts : Type 0
TextsTellRunsOfScripts = (script other : Script) → vat_names script ≡ vat_names other → AreVats (vat_names script) → IsOfVats script → IsOfVats other → IsBounded (run script) → IsBounded (run other) → TextsTell script other
