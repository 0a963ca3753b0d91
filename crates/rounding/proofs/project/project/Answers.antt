use Rattle.sums.specs.Sums.{value}
use Rattle.rounding.proofs.RoundLaws.{keeps_order, keeps_readings, keeps_nearest}
use Rattle.rounding.proofs.StepLaws.{projected_is}
use Rattle.rounding.proofs.project.project.Goals as goal

pub returns : goal.returns
returns g c =
    let m = g.F.Format.meaning c.args.format.now in
    let laws = g.met.F.Format.lawful c.args.format.now in
    let rule = g.R.RoundingRule.table c.args.rule.now in
    let mode = c.args.mode in
    record {
      projected = projected_is m rule mode (value c.args.sum.now) c.answer-answer.result c.code.result laws c.answer-answer.ensures c.code.ensures;
      order = keeps_order m rule mode laws (g.met.R.RoundingRule.monotone c.args.rule.now);
      readings = keeps_readings m rule mode laws;
      nearest = λ nearest x e most. keeps_nearest m rule mode laws x most (nearest _ _);
    }
