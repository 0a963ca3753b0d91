use Rattle.std.proofs.Common.{ap, ◌∙◌}
use Rattle.registers.proofs.RecordLaws.{recorded_read}
use Rattle.registers.proofs.RegisterLaws.{laws, reads_its_terms, reads_nearest}
use Rattle.registers.proofs.register.Register.read.Goals as goal

pub returns : goal.returns
returns g c =
    let r = c.args.self.now in
    let m = g.F.Format.meaning c.args.format.now in
    let rule = g.R.RoundingRule.table c.args.rule.now in
    let mode = c.args.mode in
    let e = c.project.ensures.projected in
    record {
      reading = ap (λ a. (a, r.count)) e;
      terms = λ ts k. ap (λ a. (a, r.count)) e ∙ reads_its_terms m rule mode r ts k;
      laws = laws;
      nearest = λ near. reads_nearest m rule mode r (c.project.ensures.nearest near);
      recorded = recorded_read m rule mode r;
    }
