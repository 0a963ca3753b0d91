use Rattle.std.proofs.Common.{◌≡◌, ◌+◌, ◌*◌, ◌/◌, ◌^◌, pos, ◌+ℤ◌, ◌-ℤ◌, nat_abs, ap, ◌∙◌, arith, w8, to_z, of_z, rules}
use Rattle.std.proofs.lemmas.Int.{ints}
use Rattle.formats.specs.Value.{finite, signed}
use Rattle.rounding.proofs.StepLaws.{end_cut, reads, shifted}
use Rattle.rounding.proofs.project.Target.end.Goals as goal

pub overflow_cast-result-2 : goal.overflow_cast-result-2
overflow_cast-result-2 g c =
    let m = g.F.Format.meaning c.args.self.now.format.now in
    let cut =
    end_cut m (g.met.F.Format.lawful c.args.self.now.format.now) _ _ _ c.shape-shape.ensures.largest (c.from.ensures ∙ c.shape-shape.ensures.precision)
    c.saturating_sub-shift.ensures in
    search rules

pub returns : goal.returns
returns g c =
    let m = g.F.Format.meaning c.args.self.now.format.now in
    let shift = c.saturating_sub-shift.result in
    let s = c.shape-shape.result.largest / 2 ^ shift in
    let (short, whole, low) =
    end_cut m (g.met.F.Format.lawful c.args.self.now.format.now) _ _ _ c.shape-shape.ensures.largest (c.from.ensures ∙ c.shape-shape.ensures.precision)
    c.saturating_sub-shift.ensures in
    let e : nat_abs (to_z w8 (of_z w8 (to_z w8 shift -ℤ pos 32)) +ℤ pos 128) ≡ shift + 96 = omega (arith, ints) in
    ap (λ x. finite (signed c.args.negative (s * 2 ^ x))) e
    ∙ reads c.args.negative s (shift + 96) m.largest 96 (shifted s shift 96 m.largest whole)
