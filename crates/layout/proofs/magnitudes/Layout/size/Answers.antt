use Rattle.std.proofs.Common.{◌≡◌, ℕ, suc, ◌+◌, ◌-◌, ◌/◌, ◌^◌, ◌<◌, ◌≤◌, arith, pow_pos}
use Rattle.std.proofs.lemmas.Nat.{le-div}
use Rattle.std.proofs.lemmas.Int.{ints}
use Rattle.layout.specs.Sizes.{bottom}
use Rattle.layout.specs.declared.magnitudes.Layout.{Layout}
use Rattle.layout.proofs.CodeLaws.{field_top, stands_low, stands_high, in_units}
use Rattle.layout.proofs.magnitudes.Layout.size.Goals as goal

-- from the leading bit up, the exponent field is from 1 up, and at most that of the last code
fields : (l : Layout) (c h : ℕ) → h ≡ 2 ^ (l.precision - 1) → c < l.count → h ≤ c → (1 ≤ c / h) × (bottom l.least_exponent + l.precision + c / h ≤ 65)
fields l c h e known high =
    rw e (
      le-div 1 c (2 ^ (l.precision - 1)) (pow_pos (l.precision - 1)) (omega arith),
      field_top l.precision l.count c (bottom l.least_exponent) known l.top,
    )

pub returns-then-code-hidden : goal.returns-then-code-hidden
returns-then-code-hidden c =
    let l = c.args.self.now in
    let stands = stands_low l.precision c.args.code l.least_exponent _ (omega (arith, ints)) l.precise l.deep (omega (arith, l.top)) (omega (arith, c.hidden-hidden.ensures)) in
    record { stands = stands; small = in_units l.precision l.count c.args.code l.least_exponent _ l.precise l.deep c.requires l.top stands }

pub returns : goal.returns
returns c =
    let l = c.args.self.now in
    let t = fields l c.args.code c.hidden-hidden.result c.hidden-hidden.ensures.0 c.requires c.if-code-hidden.false in
    let e = c.args.code / c.hidden-hidden.result - 1 in
    let is : c.args.code / c.hidden-hidden.result ≡ suc e = omega arith in
    let stands = stands_high l.precision c.hidden-hidden.result c.args.code e l.least_exponent _
    c.hidden-hidden.ensures.0 (omega (arith, ints)) l.precise l.deep (omega arith) is in
    record { stands = stands; small = in_units l.precision l.count c.args.code l.least_exponent _ l.precise l.deep c.requires l.top stands }
