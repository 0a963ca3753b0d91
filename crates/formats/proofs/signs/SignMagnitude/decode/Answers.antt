use Rattle.std.proofs.Common.{◌≡◌, ℕ, ◌*◌, ◌%◌, ◌^◌, ◌<◌, arith}
use Rattle.std.proofs.lemmas.Nat.{one_shl}
use Rattle.std.proofs.lemmas.Bool.Decides.{nat_tests}
use Rattle.formats.specs.declared.signs.SignMagnitude.{SignMagnitude}
use Rattle.formats.proofs.CodingLaws.{reads_nan, reads_past, reads_finite, reads_infinite, reads_negative_infinite}
use Rattle.formats.proofs.signs.SignMagnitude.decode.Goals as goal
use Rattle.formats.proofs.signs.SignMagnitude.decode.Goals.{then-code-self-via-then-code-self, then-code-self-via-else-code-self+then-magnitude-self}

-- a code of no more bits than there are
inside : (s : SignMagnitude) (c r : ℕ) → r ≡ c → r < 1 * 2 ^ s.width % 2 ^ 32 → c < 2 ^ s.width
inside s c r e lt = omega (arith, one_shl s.width 32 (omega (arith, s.narrow)))

pub returns-then-code-self : goal.returns-then-code-self
returns-then-code-self c m means =
    let s = c.args.self.now in
    let lt = inside s c.args.code c.from.result c.from.ensures c.if-from-self.false in
    elim c.then-code-self.branch [
      | then-code-self-via-then-code-self w ↦ reads_nan m s means c.args.code c.sign-sign.result c.sign-sign.ensures.is lt w.if-code-self.true
      | then-code-self-via-else-code-self+then-magnitude-self w ↦ reads_past m s means c.args.code c.sign-sign.result c.sign-sign.ensures.is lt c.sign-sign.ensures.some w.if-magnitude-self.true
    ]

pub returns-in-Some : goal.returns-in-Some
returns-in-Some c m means =
    let s = c.args.self.now in
    let lt = inside s c.args.code c.from.result c.from.ensures c.if-from-self.false in
    reads_finite m s means c.args.code c.sign-sign.result c.sign-sign.ensures.is lt _ c.in-Some.size c.join.result
    (λ e. grind (arith, nat_tests)) (λ e. grind (arith, nat_tests)) c.if-code-self.false c.in-Some.ensures.0 c.in-Some.ensures.1 c.join.ensures

pub returns-in-None : goal.returns-in-None
returns-in-None c m means =
    let s = c.args.self.now in
    let lt = inside s c.args.code c.from.result c.from.ensures c.if-from-self.false in
    reads_negative_infinite m s means c.args.code c.sign-sign.result c.sign-sign.ensures.is lt c.if-code-sign.true (omega (arith, c.in-None.ensures))

pub returns-in-None-2 : goal.returns-in-None-2
returns-in-None-2 c m means =
    let s = c.args.self.now in
    let lt = inside s c.args.code c.from.result c.from.ensures c.if-from-self.false in
    reads_infinite m s means c.args.code c.sign-sign.result c.sign-sign.ensures.is lt c.if-code-sign.false (omega (arith, c.in-None-2.ensures))
