use Rattle.sheets.proofs.BenchLaws.{record_performs}
use Rattle.sheets.proofs.bench.Bench.perform.Goals as goal

pub returns-in-Clear : goal.returns-in-Clear
returns-in-Clear c =
    record_performs c.args.number c.args.record.now _ c.args.self.now c.clear.new.self c.clear.result c.in-Clear.is (c.clear.ensures c.args.number)

pub returns-in-Add : goal.returns-in-Add
returns-in-Add c =
    record_performs c.args.number c.args.record.now _ c.args.self.now c.add.new.self c.add.result c.in-Add.is (c.add.ensures c.args.number)

pub returns-in-Dot : goal.returns-in-Dot
returns-in-Dot c =
    record_performs c.args.number c.args.record.now _ c.args.self.now c.dot.new.self c.dot.result c.in-Dot.is (c.dot.ensures c.args.number)

pub returns-in-Join : goal.returns-in-Join
returns-in-Join c =
    record_performs c.args.number c.args.record.now _ c.args.self.now c.join.new.self c.join.result c.in-Join.is (c.join.ensures c.args.number)

pub returns-in-Read : goal.returns-in-Read
returns-in-Read c =
    record_performs c.args.number c.args.record.now _ c.args.self.now c.read.new.self c.read.result c.in-Read.is c.read.ensures
