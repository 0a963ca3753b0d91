use Rattle.std.proofs.Common.{◌-◌, arith}
use Rattle.std.proofs.lemmas.Nat.{one_shl}
use Rattle.formats.specs.OwnFacts.{exists}
use Rattle.formats.specs.P3109Laws.{bias_room}
use Rattle.formats.proofs.p3109.P3109.bias.Goals as goal

pub returns : goal.returns
returns c =
    let f = c.args.self.now in
    let e = one_shl (f.width - f.precision - 1) 8 (omega (arith, f.narrow)) in
    (e, omega (arith, e, bias_room f.width f.precision (exists f)))
