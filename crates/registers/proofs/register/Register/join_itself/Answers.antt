use Rattle.registers.proofs.RecordLaws.{recorded_join}
use Rattle.registers.proofs.register.Register.join_itself.Goals as goal

pub returns-clause-recorded : goal.returns-clause-recorded
returns-clause-recorded c = recorded_join c.args.self.now _ _ _ c.bring.ensures
