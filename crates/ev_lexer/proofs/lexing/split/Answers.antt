use Rattle.std.proofs.Common.{◌≡◌, ◌<◌, ◌+◌, sym, ap, ◌∙◌, arith, length, drop}
use Rattle.std.proofs.lemmas.Bool.Decides.{nat_tests}
use Rattle.ev_lexer.proofs.Boundaries.{Cut, blank_cut, whole_cut, fault_within, shorter}
use Rattle.ev_lexer.proofs.Splitting.{prepended, past_blank, past_token, at_fault, at_end}
use Rattle.ev_lexer.specs.Lexed.{split}
use Rattle.ev_lexer.proofs.lexing.split.Goals as goal

pub overflow_add-place : goal.overflow_add-place
overflow_add-place c = omega (arith, (blank_cut c.loop-rest.rest.now c.in-Blank.length c.loop-rest.invariant.utf8 c.in-Blank.ensures).boundary.0)

pub range_from-rest-requires : goal.range_from-rest-requires
range_from-rest-requires c = λ _. (blank_cut c.loop-rest.rest.now c.in-Blank.length c.loop-rest.invariant.utf8 c.in-Blank.ensures).boundary

pub loop-rest-smaller-in-Blank : goal.loop-rest-smaller-in-Blank
loop-rest-smaller-in-Blank c =
    omega (arith, (blank_cut c.loop-rest.rest.now c.in-Blank.length c.loop-rest.invariant.utf8 c.in-Blank.ensures).some, (blank_cut c.loop-rest.rest.now c.in-Blank.length c.loop-rest.invariant.utf8 c.in-Blank.ensures).boundary.0)

pub loop-rest-preserved-in-Blank : goal.loop-rest-preserved-in-Blank
loop-rest-preserved-in-Blank c =
    let cut : Cut c.loop-rest.rest.now c.in-Blank.length = (blank_cut c.loop-rest.rest.now c.in-Blank.length c.loop-rest.invariant.utf8 c.in-Blank.ensures) in
    let long : length (drop c.in-Blank.length c.loop-rest.rest.now) + c.in-Blank.length ≡ length c.loop-rest.rest.now = shorter c.loop-rest.rest.now c.in-Blank.length cut in
    let some : 0 < length c.loop-rest.rest.now = grind (arith, nat_tests) in
    record {
      utf8 = c.range_from-rest.utf8;
      at = omega (arith, ap length c.range_from-rest.ensures.value);
      read = ap (λ xs. prepended c.loop-rest.tokens.items (split 0 (c.loop-rest.place + c.in-Blank.length) xs)) c.range_from-rest.ensures.value
          ∙ past_blank c.loop-rest.tokens.items c.in-Blank.length c.loop-rest.place c.loop-rest.rest.now _ some cut.some cut.boundary.0 (sym c.in-Blank.ensures) c.loop-rest.invariant.read;
    }

pub overflow_add-end : goal.overflow_add-end
overflow_add-end c = omega (arith, (whole_cut c.loop-rest.rest.now c.in-Whole.kind c.in-Whole.length c.loop-rest.invariant.utf8 c.in-Whole.ensures).boundary.0)

pub range_from-rest-requires-in-Whole : goal.range_from-rest-requires-in-Whole
range_from-rest-requires-in-Whole c = λ _. (whole_cut c.loop-rest.rest.now c.in-Whole.kind c.in-Whole.length c.loop-rest.invariant.utf8 c.in-Whole.ensures).boundary

pub loop-rest-smaller : goal.loop-rest-smaller
loop-rest-smaller c =
    omega (arith, (whole_cut c.loop-rest.rest.now c.in-Whole.kind c.in-Whole.length c.loop-rest.invariant.utf8 c.in-Whole.ensures).some, (whole_cut c.loop-rest.rest.now c.in-Whole.kind c.in-Whole.length c.loop-rest.invariant.utf8 c.in-Whole.ensures).boundary.0)

pub loop-rest-preserved : goal.loop-rest-preserved
loop-rest-preserved c =
    let cut : Cut c.loop-rest.rest.now c.in-Whole.length = (whole_cut c.loop-rest.rest.now c.in-Whole.kind c.in-Whole.length c.loop-rest.invariant.utf8 c.in-Whole.ensures) in
    let long : length (drop c.in-Whole.length c.loop-rest.rest.now) + c.in-Whole.length ≡ length c.loop-rest.rest.now = shorter c.loop-rest.rest.now c.in-Whole.length cut in
    let some : 0 < length c.loop-rest.rest.now = grind (arith, nat_tests) in
    record {
      utf8 = c.range_from-rest-in-Whole.utf8;
      at = omega (arith, ap length c.range_from-rest-in-Whole.ensures.value);
      read = ap (λ xs. prepended c.push.new.self.items (split 0 (c.loop-rest.place + c.in-Whole.length) xs)) c.range_from-rest-in-Whole.ensures.value
          ∙ past_token c.loop-rest.tokens.items c.push.new.self.items c.in-Whole.kind c.in-Whole.length c.loop-rest.place c.loop-rest.rest.now _ some cut.some cut.boundary.0 (sym c.in-Whole.ensures) c.in_ok-push-in-Whole.ensures.items c.loop-rest.invariant.read;
    }

pub overflow_add-offset : goal.overflow_add-offset
overflow_add-offset c = omega (arith, fault_within c.loop-rest.rest.now c.in-Fault.kind c.in-Fault.behind c.loop-rest.invariant.utf8 c.in-Fault.ensures)

pub returns-in-Fault : goal.returns-in-Fault
returns-in-Fault c =
    let some : 0 < length c.loop-rest.rest.now = grind (arith, nat_tests) in
    at_fault c.loop-rest.tokens.items c.in-Fault.kind c.in-Fault.behind c.loop-rest.place c.loop-rest.rest.now _ some (sym c.in-Fault.ensures) c.loop-rest.invariant.read

pub returns : goal.returns
returns c =
    let none : length c.loop-rest.rest.now ≡ 0 = grind (arith, nat_tests) in
    at_end c.loop-rest.tokens.items c.loop-rest.place c.loop-rest.rest.now _ none c.loop-rest.invariant.read
