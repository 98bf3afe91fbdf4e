use Rattle.ev_pass.specs.Notes.{all_parcels}
use Rattle.ev_pass.specs.Passing.{pack, packs}
use Rattle.std.proofs.Common.{[], ◌∙◌}
use Rattle.ev_pass.proofs.Packs.{starts, goes_on, stops, is_done, by_end, list_end, plain_end, none_deep, all_passed, some_stopped}
use Rattle.ev_pass.proofs.interior.Interior.+packing.Goals as goal

pub pack-returns : goal.pack-returns
pack-returns t c = by_end c.pack_end.result c.pack_end.new.self c.args.self.now c.args.depth c.args.to c.args.value c.deref-end.result c.deref-end.ensures c.pack_end.ensures

pub pack_all-loop-value-init : goal.pack_all-loop-value-init
pack_all-loop-value-init t c = starts c.new-parts.result.items (packs (pack c.args.depth c.args.to) c.args.values.now c.args.self.now) c.new-parts.ensures.items

pub pack_all-returns-in-Err : goal.pack_all-returns-in-Err
pack_all-returns-in-Err t c =
    stops (pack c.args.depth c.args.to) c.loop-value.parts.items c.args.values.now c.loop-value.value-index c.value-item.result c.loop-value.self c.pack.new.self c.in-Err.stop (packs (pack c.args.depth c.args.to) c.args.values.now c.args.self.now)
    c.loop-value-test.true c.value-item.is c.in-Err.ensures c.loop-value.invariant

pub pack_all-loop-value-preserved : goal.pack_all-loop-value-preserved
pack_all-loop-value-preserved t c =
    goes_on (pack c.args.depth c.args.to) c.loop-value.parts.items c.add.new.parts.items c.args.values.now c.loop-value.value-index c.value-item.result c.loop-value.self c.pack.new.self c.in-Ok.part
    (packs (pack c.args.depth c.args.to) c.args.values.now c.args.self.now) c.loop-value-test.true c.value-item.is c.in-Ok.ensures c.in_ok-add-in-Ok.ensures c.loop-value.invariant

pub pack_all-returns : goal.pack_all-returns
pack_all-returns t c =
    is_done (pack c.args.depth c.args.to) c.loop-value.parts.items c.args.values.now c.loop-value.value-index c.loop-value.self (packs (pack c.args.depth c.args.to) c.args.values.now c.args.self.now) c.loop-value-test.false c.loop-value.invariant

pub pack_end-returns-in-List : goal.pack_end-returns-in-List
pack_end-returns-in-List t c = list_end c.pack_list.result c.pack_list.new.self c.args.self.now c.args.depth c.args.to c.args.end c.in-List.list c.in-List.is c.pack_list.ensures

pub pack_end-returns-in_default : goal.pack_end-returns-in_default
pack_end-returns-in_default t c =
    plain_end c.address_plain.result c.address_plain.new.self c.args.self.now c.args.depth c.args.to c.args.end c.place-place.result c.in_default.not-List c.place-place.ensures c.address_plain.ensures

pub pack_list-returns-then-depth-eq0 : goal.pack_list-returns-then-depth-eq0
pack_list-returns-then-depth-eq0 t c = none_deep c.args.depth c.args.to c.args.list c.args.self.now c.args.self.now [] _ c.heavy.ensures c.if-depth-eq0.true

pub pack_list-returns-in-Ok-pack_all : goal.pack_list-returns-in-Ok-pack_all
pack_list-returns-in-Ok-pack_all t c =
    all_passed c.args.depth c.args.to c.args.list c.args.self.now c.pack_all.new.self c.deref.result.now _ (all_parcels c.in-Ok-pack_all.parts.items) c.listed.ensures c.if-depth-eq0.false (c.deref.ensures.value ∙ c.in-Ok.ensures.items ∙ c.members_in.ensures) c.in-Ok-pack_all.ensures

pub pack_list-returns : goal.pack_list-returns
pack_list-returns t c =
    some_stopped c.args.depth c.args.to c.args.list c.args.self.now c.pack_all.new.self c.deref.result.now c.in-Err-pack_all.stop c.if-depth-eq0.false (c.deref.ensures.value ∙ c.in-Ok.ensures.items ∙ c.members_in.ensures) c.in-Err-pack_all.ensures
