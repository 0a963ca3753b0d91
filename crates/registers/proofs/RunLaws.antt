-- The terms of a run of pairs, pair after pair.
use Rattle.std.proofs.Common.{rules, inl, inr, ◌≡◌, ℕ, zero, suc, ◌+◌, ◌-◌, ◌*◌, ◌/◌, ◌^◌, ◌<◌, ◌≤◌, Bool, true, List, [], ◌∷◌, ◌++◌, length, ℤ, pos, Result, IsErrAnd, Ok, Err, sym, refl, ap, ◌∙◌, subst, ap₂, add-mul, add-one, add-zero, add_assoc, take, drop, slice_index, false, arith}
use Rattle.std.proofs.Math.Nat.{div-eq_of_lt-le, zero-mul}
use Rattle.std.proofs.lemmas.Bool.{lt-ltb}
use Rattle.std.proofs.lemmas.Result.{err_from_is_err_and}
use Rattle.std.proofs.lemmas.Nat.{le-div}
use Rattle.std.proofs.lemmas.List.{get_or-drop, get_or-take, take_at, drop_at, drop-drop, length-append}
use Rattle.formats.specs.Meaning.{Meaning}
use Rattle.formats.specs.Value.{Value, finite, signed}
use Rattle.formats.specs.declared.fault.Fault.{Fault}
use Rattle.sums.specs.Exact.{plus}
use Rattle.sums.specs.Sums.{value, size_of, size}
use Rattle.sums.specs.declared.sum.Sum.{Sum}
use Rattle.sums.proofs.SizeBound.{term_size}
use Rattle.terms.specs.Offers.{terms, pair_term, pair_offer, Offers}
use Rattle.terms.specs.Readings.{term_value}
use Rattle.terms.specs.Terms.{exact_sum}
use Rattle.terms.specs.declared.scaled.Scaled.{Scaled}
use Rattle.terms.specs.declared.term.Term.{Term}
use Rattle.terms.specs.declared.term.Term.TheVariants.{Finite}
use Rattle.terms.proofs.SumLaws.{exact_sum_none, exact_sum_last}
use Rattle.registers.specs.Batches.{Gathers}
use Rattle.registers.specs.PairReads.{PairsOf, bytes_of_pair, IsPair, BothFit, OneDoesNot, x_in, y_in, PairRead, whole_offer}
use Rattle.registers.specs.Runs.{code_at, bytes_of, wide_at, x_code, y_code, pair_bytes, term_at, pair_terms, none, at, or_else, bad_pair, bad_code, unless_bad, pairs}
use Rattle.registers.specs.declared.batch.Batch.{Batch}
use Rattle.registers.specs.declared.pairs.Pairs.{Pairs}

-- the sum of the first i pairs, whose codes all fit
pub record SoFar (m n : Meaning) (s : ℤ) (run : List ℕ) (i : ℕ) (t : Sum) : Type 0 where
  pub bound : size t ≤ i * 2 ^ 191
  pub clean : bad_code m n run i ≡ none
  pub summed : value t ≡ exact_sum (pair_terms m n s run i)

-- the sum of the first i pairs, after which the rest of the run lies
pub record Walk (m n : Meaning) (s : ℤ) (run : List ℕ) (p : Pairs) (size : ℕ) (rest : List ℕ) (i : ℕ) (t : Sum) : Type 0 where
  pub size_is : size ≡ bytes_of_pair p
  pub rest_is : rest ≡ drop (i * size) run
  pub left : i * size + length rest ≡ length run
  pub far : SoFar m n s run i t

pub bytes_of_lem : (m n : Meaning) (p : Pairs) → PairsOf m n p → bytes_of_pair p ≡ pair_bytes m n
bytes_of_lem m n p of = ap₂ (λ v w. bytes_of (wide_at v) + bytes_of (wide_at w)) of.x of.y

pair_offered : (m n : Meaning) (s : ℤ) (run : List ℕ) (i x y : ℕ) → BothFit m n run i x y → pair_offer m n s x y ≡ terms (term_at m n s run i ∷ [])
pair_offered m n s run i x y both =
    rw (lt-ltb x (2 ^ m.width) both.x_fits, lt-ltb y (2 ^ n.width) both.y_fits)
    (ap₂ (λ a b. terms (pair_term m n s a b ∷ [])) both.x_is both.y_is)

same_one : (v w : Value) → (v ∷ []) ≡ (w ∷ []) → w ≡ v
same_one v w e = cc

-- the term of a pair whose codes fit, which is not refused
pub product_term : (m n : Meaning) (s : ℤ) (run : List ℕ) (i x y : ℕ) (t : Term) → BothFit m n run i x y → Offers (pair_offer m n s x y) (Ok t) → term_value t ≡ term_at m n s run i
product_term m n s run i x y t both offers =
    same_one (term_at m n s run i) (term_value t) (subst (λ o. Offers o (Ok t)) (pair_offered m n s run i x y both) offers)

pub product_stands : (m n : Meaning) (s : ℤ) (run : List ℕ) (i x y : ℕ) (f : Fault) → BothFit m n run i x y → Offers (pair_offer m n s x y) (Err f) → ⊥
product_stands m n s run i x y f both offers = subst (λ o. Offers o (Err f)) (pair_offered m n s run i x y both) offers

pub so_far_none : (m n : Meaning) (s : ℤ) (run : List ℕ) (t : Sum) → value t ≡ finite (pos 0) → SoFar m n s run 0 t
so_far_none m n s run t e = record { bound = omega (arith, ap size_of e); clean = refl; summed = e ∙ sym exact_sum_none }

-- one pair more
pub so_far_more : (m n : Meaning) (s : ℤ) (run : List ℕ) (i x y : ℕ) (v : Value) (t u : Sum) → SoFar m n s run i t → BothFit m n run i x y → v ≡ term_at m n s run i → value u ≡ plus (value t) v → size u ≤ size t + 2 ^ 191 → SoFar m n s run (i + 1) u
so_far_more m n s run i x y v t u far both is sum bound =
    let fits : bad_pair m n run i ≡ none =
    rw (sym both.x_is, sym both.y_is, lt-ltb x (2 ^ m.width) both.x_fits, lt-ltb y (2 ^ n.width) both.y_fits) refl in
    let b = far.bound in
    rw add-one
    (record {
      bound = omega arith;
      clean = rw far.clean fits;
      summed = sum ∙ ap₂ plus far.summed is ∙ sym (exact_sum_last (pair_terms m n s run i) (term_at m n s run i));
    })

byte_in : (run : List ℕ) (place n k : ℕ) → k < n → slice_index (take n (drop place run)) k ≡ slice_index run (place + k)
byte_in run place n k lt = get_or-take n (drop place run) k 0 lt ∙ get_or-drop place run k 0

first_code : (w : Bool) (run : List ℕ) (place n : ℕ) → bytes_of w ≤ n → code_at w (take (bytes_of w) (take n (drop place run))) 0 ≡ code_at w run place
first_code true run place n le =
    let whole = take n (drop place run) in
    rw (get_or-take 2 whole 0 0 (omega arith), get_or-take 2 whole 1 0 (omega arith), byte_in run place n 0 (omega (arith, le)), byte_in run place n 1 (omega (arith, le)), add-zero place) refl
first_code false run place n le =
    let whole = take n (drop place run) in
    rw (get_or-take 1 whole 0 0 (omega arith), byte_in run place n 0 (omega (arith, le)), add-zero place) refl

code_after : (w : Bool) (run : List ℕ) (place b n : ℕ) → b + bytes_of w ≤ n → code_at w (drop b (take n (drop place run))) 0 ≡ code_at w run (place + b)
code_after true run place b n le =
    let whole = take n (drop place run) in
    rw (get_or-drop b whole 0 0, get_or-drop b whole 1 0, byte_in run place n (b + 0) (omega (arith, le)), byte_in run place n (b + 1) (omega (arith, le)), add-zero b, add_assoc place b 1) refl
code_after false run place b n le =
    let whole = take n (drop place run) in
    rw (get_or-drop b whole 0 0, byte_in run place n (b + 0) (omega (arith, le)), add-zero b) refl

-- the codes of a pair's bytes are those of the run
pub pair_codes : (m n : Meaning) (p : Pairs) (run : List ℕ) (i place : ℕ) (bytes : List ℕ) → PairsOf m n p → IsPair p run i place bytes →
    (x_in p bytes ≡ x_code m n run i) × (y_in p bytes ≡ y_code m n run i)
pair_codes m n p run i place bytes of is =
    let w = wide_at p.x.width in
    let v = wide_at p.y.width in
    let size = bytes_of w + bytes_of v in
    rw (is.bytes_are)
    (rw (first_code w run place size (omega arith), code_after v run place (bytes_of w) size (omega arith), is.place_is, of.x, of.y) (refl, refl))

pub pair_fits : (m n : Meaning) (p : Pairs) (run : List ℕ) (i place : ℕ) (bytes : List ℕ) (x y : ℕ) → PairsOf m n p → IsPair p run i place bytes → PairRead p bytes place (Ok (x, y)) → BothFit m n run i x y
pair_fits m n p run i place bytes x y of is read =
    let codes = pair_codes m n p run i place bytes of is in
    record { x_is = read.0 ∙ codes.0; y_is = read.1 ∙ codes.1; x_fits = rw of.x at read.2; y_fits = rw of.y at read.3 }

pub pair_does_not : (m n : Meaning) (p : Pairs) (run : List ℕ) (i place : ℕ) (bytes : List ℕ) (f : Fault) → PairsOf m n p → IsPair p run i place bytes → PairRead p bytes place (Err f) → OneDoesNot m n run i f
pair_does_not m n p run i place bytes f of is (inl bad) =
    let codes = pair_codes m n p run i place bytes of is in
    search (rules, codes)
pair_does_not m n p run i place bytes f of is (inr bad) =
    let codes = pair_codes m n p run i place bytes of is in
    search (rules, codes)

-- a finite term below 2^191 raises the size by no more
pub finite_grows : (old new : Sum) (n : ℕ) (negative : Bool) → value new ≡ plus (value old) (finite (signed negative n)) → n < 2 ^ 191 → size new ≤ size old + 2 ^ 191
finite_grows old new n negative is small = omega (arith, term_size old new n negative is)

pub walk_start : {m n : Meaning} {s : ℤ} {run : List ℕ} {p : Pairs} {each : ℕ} {rest : List ℕ} {i : ℕ} {t : Sum} → each ≡ bytes_of_pair p → rest ≡ run → i ≡ 0 → value t ≡ finite (pos 0) → Walk m n s run p each rest i t
walk_start {m} {n} {s} {run} {p} {each} {rest} {i} {t} is-each is start-is e =
    let start : i * each ≡ 0 = ap (λ j. j * each) start-is ∙ zero-mul each in
    record {
      size_is = is-each;
      rest_is = is ∙ ap (λ k. drop k run) (sym start);
      left = omega (arith, start, ap length is);
      far = subst (λ j. SoFar m n s run j t) (sym start-is) (so_far_none m n s run t e);
    }

-- the bytes that come next are those of the i-th pair
pub walk_pair : (m n : Meaning) (s : ℤ) (run : List ℕ) (p : Pairs) (each : ℕ) (rest pair rest' : List ℕ) (i : ℕ) (t : Sum) → Walk m n s run p each rest i t → rest ≡ pair ++ rest' → length pair ≡ each → IsPair p run i (i * bytes_of_pair p) pair
walk_pair m n s run p each rest pair rest' i t walk is long =
    let here : pair ++ rest' ≡ drop (i * bytes_of_pair p) run = sym is ∙ subst (λ b. rest ≡ drop (i * b) run) walk.size_is walk.rest_is in
    record {
      place_is = refl;
      bytes_are = sym (take_at pair rest' (bytes_of_pair p) (long ∙ walk.size_is)) ∙ ap (take (bytes_of_pair p)) here;
    }

-- and lie in the run
pub walk_inside : (m n : Meaning) (s : ℤ) (run : List ℕ) (p : Pairs) (each : ℕ) (rest pair rest' : List ℕ) (i : ℕ) (t : Sum) → Walk m n s run p each rest i t → rest ≡ pair ++ rest' → length pair ≡ each → (i + 1) * bytes_of_pair p ≤ length run
walk_inside m n s run p each rest pair rest' i t walk is long =
    subst (λ b. (i + 1) * b ≤ length run) walk.size_is (omega (arith, walk.left, long, ap length is, length-append pair rest', add-mul i 1 each))

pub walk_next : (m n : Meaning) (s : ℤ) (run : List ℕ) (p : Pairs) (each : ℕ) (rest pair rest' : List ℕ) (i : ℕ) (t u : Sum) → Walk m n s run p each rest i t → rest ≡ pair ++ rest' → length pair ≡ each → SoFar m n s run (i + 1) u → Walk m n s run p each rest' (i + 1) u
walk_next m n s run p each rest pair rest' i t u walk is long far = record {
  size_is = walk.size_is;
  rest_is = sym (drop_at pair rest' each long) ∙ ap (drop each) (sym is ∙ walk.rest_is) ∙ drop-drop each (i * each) run ∙ ap (λ k. drop k run) (omega (arith, add-mul i 1 each));
  left = omega (arith, walk.left, long, ap length is, length-append pair rest', add-mul i 1 each);
  far = far;
}

-- where no whole pair is left, all have come
pub walk_end : (m n : Meaning) (s : ℤ) (run : List ℕ) (p : Pairs) (each : ℕ) (rest : List ℕ) (i : ℕ) (t : Sum) → Walk m n s run p each rest i t → length rest < each → length run / bytes_of_pair p ≡ i
walk_end m n s run p each rest i t walk short =
    subst (λ b. length run / b ≡ i) walk.size_is
    (div-eq_of_lt-le each (omega (arith, walk.left)) (omega (arith, walk.left, short, add-mul i 1 each)))

-- the first code that is too large stays the first
stays : (m n : Meaning) (run : List ℕ) (i more place : ℕ) → bad_code m n run i ≡ at place → bad_code m n run (more + i) ≡ at place
stays m n run i zero place e = let z : i ≡ 0 + i = omega arith in subst (λ j. bad_code m n run j ≡ at place) z e
stays m n run i (suc more) place e =
    let z : suc (more + i) ≡ suc more + i = omega arith in
    subst (λ j. bad_code m n run j ≡ at place) z (ap (λ x. or_else x (bad_pair m n run (more + i))) (stays m n run i more place e))

below : (i k : ℕ) → i < k → (more : ℕ) × (more + suc i ≡ k)
below i k lt = (k - (i + 1), omega arith)

-- a pair with a code that is too large
pub pair_refused : (m n : Meaning) (s : ℤ) (run : List ℕ) (p : Pairs) (i : ℕ) (f : Fault) → PairsOf m n p → bad_code m n run i ≡ none → (i + 1) * bytes_of_pair p ≤ length run → OneDoesNot m n run i f → Gathers (whole_offer m n s run) (Err f)
pair_refused m n s run p i f of clean inside bad =
    let two : 0 < pair_bytes m n = grind arith in
    let lt : i + 1 ≤ pairs m n run = le-div (i + 1) (length run) (pair_bytes m n) two (subst (λ b. (i + 1) * b ≤ length run) (bytes_of_lem m n p of) inside) in
    let here : bad_code m n run (suc i) ≡ at bad.place = rw clean bad.found in
    let (more, is) = below i (pairs m n run) (omega (arith, lt)) in
    let found : bad_code m n run (pairs m n run) ≡ at bad.place =
    subst (λ k. bad_code m n run k ≡ at bad.place) is (stays m n run (suc i) more bad.place here) in
    subst (λ x. Gathers (unless_bad x (terms (pair_terms m n s run (pairs m n run)))) (Err f)) (sym found) bad.refuses

length_one_more : (ts : List Value) (t : Value) → length (ts ++ (t ∷ [])) ≡ suc (length ts)
length_one_more [] t = refl
length_one_more (u ∷ ts) t = ap suc (length_one_more ts t)

pairs_count : (m n : Meaning) (s : ℤ) (run : List ℕ) (i : ℕ) → length (pair_terms m n s run i) ≡ i
pairs_count m n s run zero = refl
pairs_count m n s run (suc i) = length_one_more (pair_terms m n s run i) (term_at m n s run i) ∙ ap suc (pairs_count m n s run i)

-- all pairs
pub all_gathered : (m n : Meaning) (s : ℤ) (run : List ℕ) (b : Batch) → SoFar m n s run (pairs m n run) b.sum → b.count ≡ pairs m n run → Gathers (whole_offer m n s run) (Ok b)
all_gathered m n s run b far count =
    subst (λ x. Gathers (unless_bad x (terms (pair_terms m n s run (pairs m n run)))) (Ok b)) (sym far.clean)
    (count ∙ sym (pairs_count m n s run (pairs m n run)), far.summed)

-- the refusal of the pair that comes next is the run's
pub walk_refused : {m n : Meaning} {s : ℤ} {run : List ℕ} {p : Pairs} {each : ℕ} {rest : List ℕ} (pair rest' : List ℕ) {i j b : ℕ} {t : Sum} {q : Result (ℕ × ℕ) Fault} {f : Fault} (r : Result Batch Fault) →
    Walk m n s run p each rest i t → PairsOf m n p → PairRead p pair (j * b) q → length pair ≡ each → j ≡ i → b ≡ bytes_of_pair p → rest ≡ pair ++ rest' → q ≡ Err f → IsErrAnd r (λ g. g ≡ f) → Gathers (whole_offer m n s run) r
walk_refused {m} {n} {s} {run} {p} {each} {rest} pair rest' {i} {j} {b} {t} {q} {f} r walk of read long turn size-is is bad err =
    let (same, failed, is-f) = err_from_is_err_and {Q = λ g. g ≡ f} r err in
    let here : IsPair p run i (j * b) pair = rw (turn, size-is) (walk_pair m n s run p each rest pair rest' i t walk is long) in
    rw (failed, is-f) (pair_refused m n s run p i f of walk.far.clean (walk_inside m n s run p each rest pair rest' i t walk is long) (pair_does_not m n p run i (j * b) pair f of here (rw bad at read)))

-- the term of the pair that comes next goes to the sum
pub walk_on : {m n : Meaning} {s : ℤ} {run : List ℕ} {p : Pairs} {each each' : ℕ} {rest : List ℕ} (pair : List ℕ) {rest' : List ℕ} {i i' j b x y : ℕ} {t u : Sum} {q : Result (ℕ × ℕ) Fault} {o : Result Term Fault} {v : Term} →
    Walk m n s run p each rest i t → PairsOf m n p → PairRead p pair (j * b) q → Offers (pair_offer m n s x y) o → length pair ≡ each → j ≡ i → b ≡ bytes_of_pair p → rest ≡ pair ++ rest' → each' ≡ each → i' ≡ i + 1 → q ≡ Ok (x, y) → o ≡ Ok v → value u ≡ plus (value t) (term_value v) → size u ≤ size t + 2 ^ 191 → Walk m n s run p each' rest' i' u
walk_on {m} {n} {s} {run} {p} {each} {each'} {rest} pair {rest'} {i} {i'} {j} {b} {x} {y} {t} {u} {q} {o} {v} walk of read offers long turn size-is is same next good term sum bound =
    let here : IsPair p run i (j * b) pair = rw (turn, size-is) (walk_pair m n s run p each rest pair rest' i t walk is long) in
    let both = pair_fits m n p run i (j * b) pair x y of here (rw good at read) in
    let far = so_far_more m n s run i x y (term_value v) t u walk.far both (product_term m n s run i x y v both (rw term at offers)) sum bound in
    rw (same, next) (walk_next m n s run p each rest pair rest' i t u walk is long far)

pub walk_on_finite : {m n : Meaning} {s : ℤ} {run : List ℕ} {p : Pairs} {each each' : ℕ} {rest : List ℕ} (pair : List ℕ) {rest' : List ℕ} {i i' j b x y : ℕ} {t u : Sum} {q : Result (ℕ × ℕ) Fault} {o : Result Term Fault} {v : Term} {w : Scaled} →
    Walk m n s run p each rest i t → PairsOf m n p → PairRead p pair (j * b) q → Offers (pair_offer m n s x y) o → length pair ≡ each → j ≡ i → b ≡ bytes_of_pair p → rest ≡ pair ++ rest' → each' ≡ each → i' ≡ i + 1 → q ≡ Ok (x, y) → o ≡ Ok v → v ≡ Finite w → value u ≡ plus (value t) (finite (signed w.negative (w.digits * 2 ^ w.place))) → Walk m n s run p each' rest' i' u
walk_on_finite {m} {n} {s} {run} {p} {each} {each'} {rest} pair {rest'} {i} {i'} {j} {b} {x} {y} {t} {u} {q} {o} {v} {w} walk of read offers long turn size-is is same next good term which sum =
    walk_on pair walk of read offers long turn size-is is same next good term (rw which sum) (finite_grows t u _ _ sum w.small)

-- which is not refused
pub walk_stands : (m n : Meaning) (s : ℤ) (run : List ℕ) (p : Pairs) (each : ℕ) (rest pair rest' : List ℕ) (i j b x y : ℕ) (t : Sum) (q : Result (ℕ × ℕ) Fault) (o : Result Term Fault) (f : Fault) →
    Walk m n s run p each rest i t → PairsOf m n p → PairRead p pair (j * b) q → Offers (pair_offer m n s x y) o → length pair ≡ each → j ≡ i → b ≡ bytes_of_pair p → rest ≡ pair ++ rest' → q ≡ Ok (x, y) → o ≡ Err f → ⊥
walk_stands m n s run p each rest pair rest' i j b x y t q o f walk of read offers long turn size-is is good term =
    let here : IsPair p run i (j * b) pair = rw (turn, size-is) (walk_pair m n s run p each rest pair rest' i t walk is long) in
    let both = pair_fits m n p run i (j * b) pair x y of here (rw good at read) in
    product_stands m n s run i x y f both (rw term at offers)

pub walk_all : (m n : Meaning) (s : ℤ) (run : List ℕ) (p : Pairs) (each : ℕ) (rest : List ℕ) (i : ℕ) (b : Batch) → Walk m n s run p each rest i b.sum → PairsOf m n p → length rest < each → b.count ≡ length run / bytes_of_pair p → Gathers (whole_offer m n s run) (Ok b)
walk_all m n s run p each rest i b walk of short count =
    let all = ap (λ k. length run / k) (bytes_of_lem m n p of) in
    let end : i ≡ pairs m n run = sym (walk_end m n s run p each rest i b.sum walk short) ∙ all in
    all_gathered m n s run b (subst (λ j. SoFar m n s run j b.sum) end walk.far) (count ∙ all)
