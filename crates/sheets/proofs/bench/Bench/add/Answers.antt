use Rattle.sheets.proofs.BenchLaws.{add_performs}
use Rattle.sheets.proofs.bench.Bench.add.Goals as goal

pub returns : goal.returns
returns c n =
    add_performs n c.args.register c.args.format c.args.code.now c.in_ok-register.register c.in_ok-code.code
    c.in_ok-format.format c.args.self.now _ c.add.new.self c.add.result c.placed.result
    c.in_ok-register.ensures c.in_ok-format.ensures c.in_ok-code.ensures
    c.add.ensures.answers c.placed.ensures
