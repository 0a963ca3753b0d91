use Rattle.std.proofs.Common.{◌≡◌, ℕ, ◌+◌, ◌-◌, ◌*◌, ◌^◌, ◌≤◌, pos, ◌+ℤ◌, nat_abs, sym, ap, ◌∙◌, arith, pow_mono, w8, SFits, to_z, of_z, rules}
use Rattle.std.proofs.lemmas.Int.{ints}
use Rattle.layout.specs.Sizes.{bottom, size_at}
use Rattle.layout.specs.Codes.{fine_size}
use Rattle.layout.specs.declared.Size.{Size}
use Rattle.layout.proofs.CodeLaws.{biased_is, packed, whole, one_code}
use Rattle.layout.proofs.SizeLaws.{size_zero}
use Rattle.layout.proofs.magnitudes.Layout.code_of.Goals as goal

-- the size as the code has it
held : (z : Size) (r : ℕ) → SFits w8 z.exponent → r ≡ nat_abs (to_z w8 (of_z w8 z.exponent) +ℤ pos 128) → z.significand * 2 ^ r ≡ fine_size z
held z r fits is = ap (λ x. z.significand * 2 ^ x) (biased_is r z.exponent fits is)

pub returns-then-size-eq0 : goal.returns-then-size-eq0
returns-then-size-eq0 c =
    let l = c.args.self.now in
    let b = bottom l.least_exponent in
    let zero : size_at l.precision b 0 * 2 ^ 96 ≡ fine_size c.args.size =
    rw (c.if-size-eq0.true, size_zero l.precision b (omega (arith, l.precise))) (omega arith) in
    (zero, one_code l.precision b (fine_size c.args.size) 0 l.precise zero)

pub shifted-requires-clause-fits : goal.shifted-requires-clause-fits
shifted-requires-clause-fits c =
    let l = c.args.self.now in
    let same = held c.args.size c.biased.result (search rules) c.biased.ensures.0 in
    let le : l.precision + c.place-place.result ≤ 16 + c.place-place.result = omega (arith, l.short) in
    let m : 2 ^ (l.precision + c.place-place.result) ≤ 2 ^ (16 + c.place-place.result) = pow_mono le in
    omega (arith, same, c.place-place.ensures.0.short)

pub returns-in_err-significand : goal.returns-in_err-significand
returns-in_err-significand c =
    let l = c.args.self.now in
    let same = held c.args.size c.biased.result (search rules) c.biased.ensures.0 in
    rw c.from_residual.ensures
    (λ k e.
    let t = whole l.precision (bottom l.least_exponent) (fine_size c.args.size) c.place-place.result l.precise c.place-place.ensures.0 k e in
    c.in_err-significand.ensures t.0 (t.1 ∙ sym same))

pub returns : goal.returns
returns c =
    let l = c.args.self.now in
    let b = bottom l.least_exponent in
    let same = held c.args.size c.biased.result (search rules) c.biased.ensures.0 in
    let steps : c.place-place.result - c.biased-2.result ≡ c.place-place.result - (b + 96) = omega (arith, ints, c.biased-2.ensures.0, l.deep) in
    let t = c.in_ok-significand.significand in
    let made : size_at l.precision b (c.from.result + (c.place-place.result - c.biased-2.result) * c.from-2.result) * 2 ^ 96 ≡ fine_size c.args.size =
    rw (c.from.ensures, c.from-2.ensures, c.hidden.ensures.0, steps)
    (packed l.precision b (fine_size c.args.size) c.place-place.result l.precise c.place-place.ensures.0 t (c.in_ok-significand.ensures ∙ same)) in
    (made, one_code l.precision b (fine_size c.args.size) _ l.precise made)
