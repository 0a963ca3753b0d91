use Rattle.std.proofs.Common.{w8, subst}
use Rattle.std.proofs.lemmas.Int.{to_z-of_z}
use Rattle.registers.specs.Batches.{Gathers}
use Rattle.registers.specs.Runs.{dot_offer}
use Rattle.registers.proofs.RecordLaws.{recorded_dot}
use Rattle.registers.proofs.register.Register.dot.Goals as goal

pub returns : goal.returns
returns g c =
    let m = g.F.Format.meaning c.args.x_format.now in
    let n = g.G.Format.meaning c.args.y_format.now in
    let answers = c.enter.ensures (dot_offer m n c.args.scale c.args.run.now) (subst (λ s. Gathers (dot_offer m n s c.args.run.now) c.products.result) (to_z-of_z w8 c.args.scale c.ranges.scale) c.products.ensures) in
    record { answers = answers; recorded = recorded_dot m n c.args.scale c.args.run.now _ _ _ answers }
