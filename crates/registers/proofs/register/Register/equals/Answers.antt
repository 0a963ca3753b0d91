use Rattle.registers.proofs.RegisterLaws.{equal_exactly}
use Rattle.registers.proofs.register.Register.equals.Goals as goal

pub returns-clause-terms : goal.returns-clause-terms
returns-clause-terms c = equal_exactly c.args.self.now c.args.other.now
