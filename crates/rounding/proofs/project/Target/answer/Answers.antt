use Rattle.std.proofs.Common.{ap}
use Rattle.sums.specs.Sums.{value}
use Rattle.rounding.proofs.StepLaws.{finite_answers}
use Rattle.rounding.proofs.project.Target.answer.Goals as goal

pub returns-in-Finite : goal.returns-in-Finite
returns-in-Finite g c =
    finite_answers (g.F.Format.meaning c.args.self.now.format.now) (g.R.RoundingRule.table c.args.self.now.rule.now) c.args.self.now.mode (value c.args.sum.now) _ _ _
    (ap value c.in-Finite.is) c.placed.ensures c.of_size.ensures
