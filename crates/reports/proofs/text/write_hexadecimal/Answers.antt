use Rattle.std.proofs.Common.{arith}
use Rattle.std.proofs.lemmas.Grind.{common_steps}
use Rattle.reports.proofs.TextLaws.{hexadecimal_is}
use Rattle.reports.proofs.text.write_hexadecimal.Goals as goal

pub returns : goal.returns
returns c =
    let e = hexadecimal_is c.args.code (omega arith) in
    grind (arith, common_steps, e)
