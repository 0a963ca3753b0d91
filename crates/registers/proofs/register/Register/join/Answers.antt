use Rattle.registers.proofs.RecordLaws.{recorded_join}
use Rattle.registers.proofs.register.Register.join.Goals as goal

pub returns-clause-recorded : goal.returns-clause-recorded
returns-clause-recorded c = recorded_join c.args.other.now _ _ _ c.bring.ensures
