use Rattle.std.proofs.Common.{Ok}
use Rattle.sheets.proofs.BenchLaws.{read_performs}
use Rattle.sheets.proofs.bench.Bench.read.Goals as goal

pub returns : goal.returns
returns c =
    read_performs c.args.number c.args.register c.args.format c.args.rule c.args.mode
    c.in_ok-index.index c.in_ok-format.format c.in_ok-rule.rule c.in_ok-mode.mode
    c.args.self.now _ c.read-code.result
    c.in_ok-index.ensures c.in_ok-format.ensures (c.in_ok-rule.ensures.rules 6 c.args.rule (Ok c.in_ok-rule.rule) c.in_ok-rule.ensures.numbered)
    (c.in_ok-mode.ensures.modes 7 c.args.mode (Ok c.in_ok-mode.mode) c.in_ok-mode.ensures.numbered) c.read-code.ensures.reading
