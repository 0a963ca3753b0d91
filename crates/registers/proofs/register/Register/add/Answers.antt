use Rattle.terms.specs.Offers.{add_offer}
use Rattle.registers.proofs.EnterLaws.{comes_alone}
use Rattle.registers.proofs.RecordLaws.{recorded_add}
use Rattle.registers.proofs.register.Register.add.Goals as goal

pub returns : goal.returns
returns g c =
    let m = g.F.Format.meaning c.args.format.now in
    let answers = c.enter.ensures (add_offer m c.args.code) (comes_alone _ _ c.single.ensures) in
    record { answers = answers; recorded = recorded_add m c.args.code _ _ _ answers }
