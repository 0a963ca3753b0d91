use Rattle.sheets.proofs.SheetLaws.{step_done}
use Rattle.sheets.proofs.run.step.Goals as goal

pub returns : goal.returns
returns c =
    step_done c.args.number c.args.rest.now _ _ _ _ c.args.bench.now c.perform.new.self
    c.in_ok-line.line c.in_ok-kind.ensures c.in_ok-record.ensures c.in_ok-line.ensures
