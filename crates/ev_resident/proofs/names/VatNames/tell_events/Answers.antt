use Rattle.std.proofs.Common.{List, ℕ, sym, ap, ◌∙◌, ◌≡◌, ◌<◌, length}
use Rattle.std.specs.Prelude.{get_or}
use Rattle.std.proofs.lemmas.List.{get_or_default}
use Rattle.ev_heap.specs.declared.happened.Happened.{Happened}
use Rattle.ev_heap.specs.declared.lines.Line.{Line}
use Rattle.ev_heap.specs.declared.lines.Line.TheVariants.{Call}
use Rattle.ev_heap.proofs.Next.{fits_at}
use Rattle.ev_resident.specs.Names.{events_tell, line_tells}
use Rattle.ev_resident.proofs.Each.{each_on, each_done, lines_told}
use Rattle.ev_resident.proofs.names.VatNames.tell_events.Goals as goal

-- the line at a place, whatever would stand where there is none
line_at : List Line → ℕ → Line
line_at lines place = get_or lines place (Call 0 0 0)

is_there : (lines : List Line) (place : ℕ) → place < length lines → line_at lines place ≡ get_or lines place (line_at lines place)
unfolding line_at
is_there lines place lt = get_or_default lines place (Call 0 0 0) (get_or lines place (Call 0 0 0)) lt

pub tell_line-requires : goal.tell_line-requires
unfolding line_at
tell_line-requires c =
    let read = c.skim-read.result.1 in
    let lines = c.skim-read.result.0.now in
    fits_at read.verbs read.rare lines c.loop-line.line-index (line_at lines c.loop-line.line-index) c.loop-line-test.true (is_there lines c.loop-line.line-index c.loop-line-test.true) c.skim-read.ensures.fit

pub loop-line-preserved : goal.loop-line-preserved
unfolding line_at
loop-line-preserved c =
    let lines = c.skim-read.result.0.now in
    each_on (line_tells c.args.refs.now c.args.self.now.naming.mails c.skim-read.result.1.rare) lines c.loop-line.line-index (line_at lines c.loop-line.line-index) c.loop-line.told
    c.tell_line.new.told _ c.loop-line-test.true (is_there lines c.loop-line.line-index c.loop-line-test.true) c.loop-line.invariant c.in_ok-tell_line.ensures

pub returns : goal.returns
returns c =
    let r = c.args.refs.now in
    let ms = c.args.self.now.naming.mails in
    let read = c.skim-read.result.1 in
    let lines = c.skim-read.result.0.now in
    each_done (line_tells r ms read.rare) lines c.loop-line.line-index c.loop-line.told _ c.loop-line-test.false c.loop-line.invariant
    ∙ sym (lines_told r ms read.verbs read.rare lines c.skim-read.ensures.read.0 c.args.told.now)
    ∙ ap (λ (hs : List Happened). events_tell r ms hs c.args.told.now) c.skim-read.ensures.read.1
