use Rattle.std.proofs.Common.{w8, subst}
use Rattle.std.proofs.lemmas.Int.{to_z-of_z}
use Rattle.terms.specs.Offers.{product_offer, Offers}
use Rattle.registers.proofs.EnterLaws.{comes_alone}
use Rattle.registers.proofs.RecordLaws.{recorded_product}
use Rattle.registers.proofs.register.Register.product.Goals as goal

pub returns : goal.returns
returns g c =
    let m = g.F.Format.meaning c.args.x_format.now in
    let n = g.G.Format.meaning c.args.y_format.now in
    let answers = c.enter.ensures (product_offer m n c.args.scale c.args.x c.args.y) (comes_alone _ _ (subst (λ s. Offers (product_offer m n s c.args.x c.args.y) c.product.result) (to_z-of_z w8 c.args.scale c.ranges.scale) c.product.ensures)) in
    record { answers = answers; recorded = recorded_product m n c.args.scale c.args.x c.args.y _ _ _ answers }
