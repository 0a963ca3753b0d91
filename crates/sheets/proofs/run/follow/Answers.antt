use Rattle.std.proofs.Common.{◌≡◌, ◌<◌, ◌++◌, length, vec_items, Ok, ap, map-id, sym, ◌∙◌, rules}
use Rattle.std.proofs.lemmas.Iterator.Adapters.{fact_from_extend, YieldsList-from_once}
use Rattle.sheets.proofs.SheetLaws.{shorter, done_more, done_all, done_fault}
use Rattle.sheets.proofs.run.follow.Goals as goal

pub loop-rest-smaller : goal.loop-rest-smaller
loop-rest-smaller c = shorter _ _ _ _ _ _ (c.in-Ok.ensures c.loop-rest.invariant.book c.loop-rest.invariant.keeps)

pub loop-rest-preserved : goal.loop-rest-preserved
loop-rest-preserved c =
    let some : 0 < length c.loop-rest.rest.now = search rules in
    let more = fact_from_extend {E = Unit {0}} (λ l. l) (Ok tt) c.in_ok-extend-in-Ok.ensures.ran (λ once b. YieldsList-from_once c.in-Ok.line b.0)
    (λ items all added. added.0 ∙ ap (λ ls. vec_items c.loop-rest.lines ++ ls) (sym (map-id items) ∙ all)) in
    done_more c.args.sheet.now (vec_items c.args.lines.now) (vec_items c.loop-rest.lines) _ c.loop-rest.bench c.step.new.bench c.loop-rest.number
    c.loop-rest.rest.now _ c.in-Ok.line c.loop-rest.invariant some c.in-Ok.ensures more

pub returns-in-Err : goal.returns-in-Err
returns-in-Err c =
    let some : 0 < length c.loop-rest.rest.now = search rules in
    done_fault c.args.sheet.now (vec_items c.args.lines.now) _ c.loop-rest.bench c.loop-rest.number _ _ c.loop-rest.invariant some c.in-Err.ensures

pub returns : goal.returns
returns c =
    let none : length c.loop-rest.rest.now ≡ 0 = search rules in
    done_all c.args.sheet.now (vec_items c.args.lines.now) _ c.loop-rest.bench c.loop-rest.number _ c.loop-rest.invariant none
