use Rattle.sheets.proofs.BenchLaws.{clear_performs}
use Rattle.sheets.proofs.bench.Bench.clear.Goals as goal

pub returns : goal.returns
returns c n =
    clear_performs n c.args.register c.in_ok-register.register c.args.self.now c.clear.new.self
    c.in_ok-register.ensures c.clear.ensures
