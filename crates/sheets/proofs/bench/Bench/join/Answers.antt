use Rattle.sheets.proofs.BenchLaws.{join_performs}
use Rattle.sheets.proofs.bench.Bench.join.Goals as goal

pub returns : goal.returns
returns c n =
    join_performs n c.args.register c.args.other c.in_ok-register.register c.in_ok-other.field-0 0
    c.args.self.now _ _ c.join.new.self c.join.result c.placed.result
    c.in_ok-register.ensures c.in_ok-other.ensures c.join.ensures.answers c.placed.ensures
