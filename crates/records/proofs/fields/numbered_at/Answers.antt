use Rattle.records.proofs.FieldLaws.{rule_at, mode_at}
use Rattle.records.proofs.fields.numbered_at.Goals as goal

pub returns-clause-rules : goal.returns-clause-rules
returns-clause-rules g c = rule_at

pub returns-clause-modes : goal.returns-clause-modes
returns-clause-modes g c = mode_at
