use Rattle.std.proofs.Common.{◌-◌, arith}
use Rattle.std.proofs.lemmas.Nat.{one_shl, pow_below, pow_pos}
use Rattle.layout.proofs.magnitudes.Layout.hidden.Goals as goal

pub returns : goal.returns
returns c =
    let k = c.args.self.now.precision - 1 in
    let e = one_shl k 16 (omega arith) in
    (e, (omega (arith, pow_below k 12 (omega arith)), omega (arith, pow_pos k)))
