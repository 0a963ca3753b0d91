-- Formats with a sign bit over a layout of magnitudes: what follows from what they show of their meaning.
use Rattle.std.specs.Prelude.{◌≡◌, ℕ, zero, suc, ◌+◌, ◌-◌, ◌*◌, ◌/◌, ◌^◌, ◌<◌, ◌≤◌, Bool, true, false, cond, not, ◌&&◌, ℤ, pos, negsuc, ◌+ℤ◌, ◌*ℤ◌, neg_ℤ, Some, None, Option, Ok, Err, Result, ◌==◌, ◌≢◌, unsigned_abs, refl}
use Rattle.std.proofs.Common.{sym, ap, subst, ◌∙◌, ⊎_elim, zero-mul, arith, pow_mono}
use Rattle.std.proofs.Math.Dec.{eqb-suc-zero}
use Rattle.std.specs.Int.Signed.{non_neg}
use Rattle.std.proofs.lemmas.Bool.{cases_lt}
use Rattle.layout.specs.Codes.{Stands}
use Rattle.layout.specs.Sizes.{bottom, code_of}
use Rattle.layout.specs.declared.Size.{Size}
use Rattle.layout.proofs.SizeLaws.{size_zero, size_shaped, size_below, size_rises, size_code, code_size}
use Rattle.formats.specs.Value.{Value, nan, infinite, finite, signed, finer}
use Rattle.formats.specs.Meaning.{Meaning, Representable, Coded, Lawful}
use Rattle.formats.specs.Readings.{fine, Decodes, Encodes}
use Rattle.formats.specs.Signs.{size_in, IsSignMagnitude, Joined, size_of, SignCoded, LayoutCoded}
use Rattle.formats.specs.declared.fault.Fault.{Fault}
use Rattle.formats.specs.declared.fault.Fault.TheVariants.{ValueNotRepresentable}
use Rattle.layout.specs.declared.magnitudes.Layout.{Layout}
use Rattle.std.specs.Option.{ok_or}
use Rattle.formats.specs.declared.reading.Dyadic.{Dyadic}
use Rattle.formats.specs.declared.reading.Reading.{Reading}
use Rattle.formats.specs.declared.reading.Reading.TheVariants.{Finite}
use Rattle.formats.specs.ValueLaws.{signed-*, abs-*, abs_signed, signed_abs}

-- zero has no sign to lose
signed_kept : (negative : Bool) (s x : ℕ) → signed (negative && not (s == 0)) (s * x) ≡ signed negative (s * x)
signed_kept true zero x = rw (zero-mul x) refl
signed_kept true (suc s) x = rw (eqb-suc-zero s) refl
signed_kept false s x = refl

unsigned_zero : (negative : Bool) (s : ℕ) → s ≡ 0 → (negative && not (s == 0)) ≡ false
unsigned_zero true s e = rw e refl
unsigned_zero false s e = refl

-- c is the code of v both ways
abbrev Reads : Meaning → ℕ → Value → Type 0
Reads m c v = (c ≡ m.encode v) × (c < 2 ^ m.width) × (m.decode c ≡ v)

module _ (m : Meaning) (sign n : ℕ) (laid : IsSignMagnitude m sign n) where
  precise : 1 ≤ m.precision
  precise = omega (arith, laid.precise)

  reads_positive : (k : ℕ) → k < n → Reads m k (finite (pos (size_in m k)))
  reads_positive k lt = (
    omega (arith, laid.answer (pos (size_in m k)), code_size m.precision (bottom m.least) k precise),
    omega (arith, laid.room, laid.double),
    laid.positive k lt,
  )

  signed_code_lem : (k : ℕ) → 0 < k → (s : ℕ) → size_in m k ≡ s → 0 < s → sign + k ≡ m.encode (finite (neg_ℤ (pos s)))
  signed_code_lem k some zero is lt = absurd (omega arith)
  signed_code_lem k some (suc s) is lt =
      let e : code_of m.precision (bottom m.least) (suc s) ≡ k = rw is at (code_size m.precision (bottom m.least) k precise) in
      omega (arith, laid.answer (negsuc s))

  reads_negative : (k : ℕ) → 0 < k → k < n → Reads m (sign + k) (finite (neg_ℤ (pos (size_in m k))))
  reads_negative k some lt = (
    signed_code_lem k some (size_in m k) refl (omega (arith, size_rises m.precision (bottom m.least) 0 k precise some)),
    omega (arith, laid.room, laid.double),
    laid.negative k some lt,
  )

  reads_signed : (negative : Bool) (k : ℕ) → k < n → Reads m (k + cond (negative && not (k == 0)) sign 0) (finite (signed negative (size_in m k)))
  reads_signed true zero lt =
      let z = size_zero m.precision (bottom m.least) precise in
      rw z (rw z at (reads_positive 0 lt))
  reads_signed true (suc k) lt =
      let e : suc k + sign ≡ sign + suc k = omega arith in
      rw (eqb-suc-zero k, e) (reads_negative (suc k) (omega arith) lt)
  reads_signed false k lt = let e : k + 0 ≡ k = omega arith in rw e (reads_positive k lt)

  finite_coded : (z : ℤ) → Representable m (unsigned_abs z) → Coded m (finite z)
  finite_coded z (shaped, most) =
      let k = code_of m.precision (bottom m.least) (unsigned_abs z) in
      let is = size_code m.precision (bottom m.least) (unsigned_abs z) precise shaped in
      let lt : k < n =
      ⊎_elim (λ l. l)
      (λ l. absurd (omega (arith, size_rises m.precision (bottom m.least) (n - 1) k precise (omega (arith, laid.some)), laid.largest_is)))
      (cases_lt k n) in
      let v : finite (signed (not (non_neg z)) (size_in m k)) ≡ finite z = ap finite (ap (signed (not (non_neg z))) is ∙ signed_abs z) in
      let (code, fits, back) = subst (Reads m (k + cond (not (non_neg z) && not (k == 0)) sign 0)) v (reads_signed (not (non_neg z)) k lt) in
      (rw code at fits, rw code at back)

  -- a size among the first n is at most the last
  size_most : (k : ℕ) → k < n → size_in m k ≤ m.largest
  size_most k lt =
      ⊎_elim
      (λ l. omega (arith, size_rises m.precision (bottom m.least) k (n - 1) precise l, laid.largest_is))
      (λ l. let e : k ≡ n - 1 = omega arith in omega (arith, ap (size_in m) e, laid.largest_is))
      (cases_lt k (n - 1))

  size_representable : (k x : ℕ) → k < n → x ≡ size_in m k → Representable m x
  size_representable k x lt e = rw e (size_shaped m.precision (bottom m.least) k precise, size_most k lt)

  only_representable : (c : ℕ) (z : ℤ) → c < 2 ^ m.width → m.decode c ≡ finite z → Representable m (unsigned_abs z)
  only_representable c z lt e = let (k, below, is) = laid.only c z lt e in size_representable k (unsigned_abs z) below is

  pub lawful : m.width ≤ 16 → Coded m nan → ((negative : Bool) → Coded m (infinite negative)) → Lawful m
  lawful narrow not-a-number infinities =
      let last : n - 1 < n = omega (arith, laid.some) in
      let e = bottom m.least + (m.precision - 1) + (n - 1) / 2 ^ (m.precision - 1) in
      let le : e ≤ 64 = omega (arith, laid.top, laid.precise) in
      let p : 2 ^ e ≤ 2 ^ 64 = pow_mono le in
      record {
        narrow = narrow;
        precise = laid.precise;
        short = laid.short;
        deep = laid.deep;
        one = laid.one;
        below = omega (arith, size_below m.precision (bottom m.least) (n - 1) precise, laid.largest_is);
        largest_read = size_representable (n - 1) m.largest last laid.largest_is;
        nan_read = not-a-number;
        infinite_read = infinities;
        finite_read = finite_coded;
        only_those = only_representable;
      }

  -- a value that a code reads as has a size among the first n
  unread : (d : Dyadic) (c : ℕ) (v : Value) → ((k : ℕ) → k < n → size_in m k * 2 ^ 96 ≢ size_of d) → c < 2 ^ m.width → m.decode c ≡ v → finer 96 v ≢ fine (Finite d)
  unread d c nan none lt is e = let x : ◌≡◌ {A = ℕ} 0 1 = cc in omega arith
  unread d c (infinite negative) none lt is e = let x : ◌≡◌ {A = ℕ} 0 1 = cc in omega arith
  unread d c (finite z) none lt is e =
      let (k, below, size) = laid.only c z lt is in
      let same : z *ℤ pos (2 ^ 96) ≡ signed d.negative (size_of d) = cc in
      none k below (ap (λ x. x * 2 ^ 96) (sym size) ∙ sym (abs-* z (2 ^ 96)) ∙ ap unsigned_abs same ∙ abs_signed d.negative (size_of d))

  -- what the code for a value over the magnitudes answers is what the meaning has
  pub encodes : (d : Dyadic) (r : Result ℕ Fault) → SignCoded sign m.precision (bottom m.least) n d r → Encodes m (Finite d) r
  encodes d (Ok c) (k, lt, is, code) =
      let (coded, fits, back) = reads_signed d.negative k lt in (
        finite (signed d.negative (size_in m k)),
        ap finite (signed-* d.negative (size_in m k) (2 ^ 96) ∙ ap (signed d.negative) is),
        code ∙ coded,
        rw code fits,
        rw code back,
      )
  encodes d (Err f) (refused, none) = (refused, λ c lt e. unread d c (m.decode c) none lt refl e)

  -- the same of magnitudes that are known by their numbers
  pub encodes_over : (sign' p : ℕ) (q : ℤ) (n' : ℕ) (d : Dyadic) (r : Result ℕ Fault) → sign' ≡ sign → p ≡ m.precision → q ≡ m.least → n' ≡ n → SignCoded sign' p (bottom q) n' d r → Encodes m (Finite d) r
  encodes_over sign' p q n' d r ss pp qq nn coded = encodes d r (rw (ss, pp, qq, nn) at coded)

  -- and of a layout of them
  pub encodes_layout : (l : Layout) (d : Dyadic) (r : Option ℕ) → l.precision ≡ m.precision → l.least_exponent ≡ m.least → l.count ≡ n → LayoutCoded sign l d r → Encodes m (Finite d) (ok_or r ValueNotRepresentable)
  encodes_layout l d (Some c) pp qq nn coded = encodes_over sign l.precision l.least_exponent l.count d (Ok c) refl pp qq nn coded
  encodes_layout l d None pp qq nn none = encodes_over sign l.precision l.least_exponent l.count d (Err ValueNotRepresentable) refl pp qq nn ((refl, refl), none)

-- a size with its sign is the reading of a code that has it
pub decodes : (m : Meaning) (c k : ℕ) (negative : Bool) (z : Size) (d : Dyadic) → c < 2 ^ m.width → m.decode c ≡ finite (signed negative (size_in m k)) → Stands m.precision m.least k z → Joined negative z d → Decodes m c (Ok (Finite d))
decodes m c k negative z d lt is (size, normal) (s, e, sign) =
    let x = 2 ^ unsigned_abs (z.exponent +ℤ pos 128) in
    let same : signed d.negative (size_of d) ≡ signed negative (size_in m k) *ℤ pos (2 ^ 96) =
    rw (sign, s, e) (signed_kept negative z.significand x ∙ ap (signed negative) size ∙ sym (signed-* negative (size_in m k) (2 ^ 96))) in
    (lt, rw is (ap finite same), (rw (s, e) normal, λ h. sign ∙ unsigned_zero negative z.significand (sym s ∙ h)))

-- a special value is answered by the code that the meaning has for it
pub encodes_special : (m : Meaning) (v : Value) (r : Reading) (c : ℕ) → finer 96 v ≡ fine r → Coded m v → c ≡ m.encode v → Encodes m r (Ok c)
encodes_special m v r c same (lt, back) is = (v, same, is, rw is lt, rw is back)
