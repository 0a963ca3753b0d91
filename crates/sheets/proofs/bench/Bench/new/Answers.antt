use Rattle.sheets.proofs.BenchLaws.{keeps_new}
use Rattle.sheets.proofs.bench.Bench.new.Goals as goal

pub returns : goal.returns
returns c = keeps_new c.new.result c.new.ensures
