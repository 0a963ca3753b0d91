use Rattle.std.proofs.Common.{◌≡◌, ◌-◌, ◌*◌, ◌%◌, ◌^◌, ap, ◌∙◌, arith}
use Rattle.std.proofs.lemmas.Nat.{shl_whole}
use Rattle.std.proofs.lemmas.Bool.{leb-true, leb-false}
use Rattle.layout.proofs.CodeLaws.{lowered}
use Rattle.rounding.proofs.StepLaws.{beyond_place}
use Rattle.rounding.proofs.project.Target.within.Goals as goal

pub returns-then-place-lt128 : goal.returns-then-place-lt128
returns-then-place-lt128 g c =
    let m = g.F.Format.meaning c.args.self.now.format.now in
    let s = c.args.significand in
    let place = c.args.place in
    let whole : c.from.result * 2 ^ (place - 64) % 2 ^ 128 ≡ s * 2 ^ (place - 64) =
    ap (λ x. x * 2 ^ (place - 64) % 2 ^ 128) c.from.ensures ∙ shl_whole s 13 (place - 64) 128 (omega arith) (omega arith) in
    let most = c.from-largest.result in
    let is : most ≡ m.largest = c.from-largest.ensures ∙ c.shape.ensures.largest in
    let units = lowered s place 64 c.requires.0 in
    record {
      within = λ t. (c.if-place-lt128.true, omega (arith, leb-true _ most t));
      beyond = λ t some. omega (arith, leb-false _ most t);
    }

pub returns-else-place-lt128-clause-beyond : goal.returns-else-place-lt128-clause-beyond
returns-else-place-lt128-clause-beyond g c t some =
    let far = c.if-place-lt128.false in
    beyond_place c.args.significand c.args.place _ far (some far) (g.met.F.Format.lawful c.args.self.now.format.now).below
