-- Integers: sums, products and steps.
use Rattle.std.proofs.Common.{◌≡◌, ◌+◌, ℤ, ◌+ℤ◌, arith, suc, pos, negsuc, ◌*ℤ◌, refl, ◌≤◌, ◌≤ℤ◌, nat_abs, ℕ, ◌<◌, ◌<ℤ◌, ◌-ℤ◌, ◌-◌, ◌≢◌, zero, ◌*◌}
use Rattle.std.proofs.lemmas.Int.{ints}
use Rattle.pybuf_lemmas.proofs.Numbers.{zero_if_integer_zero, zero_if_negation_zero, product_is_not_none}

pub last_terms_swap : (a b c : ℤ) → a +ℤ b +ℤ c ≡ a +ℤ (c +ℤ b)
last_terms_swap a b c = omega (arith, ints)

pub product_of_sum : (z x y t : ℤ) → z ≡ x +ℤ y → z *ℤ t ≡ x *ℤ t +ℤ y *ℤ t
product_of_sum (pos c) (pos a) (pos b) (pos t) e = let f : c ≡ a + b = omega (arith, ints, e) in rw f (omega (arith, ints))
product_of_sum (pos c) (pos a) (negsuc b) (pos t) e = let f : a ≡ c + suc b = omega (arith, ints, e) in rw f (omega (arith, ints))
product_of_sum (pos c) (negsuc a) (pos b) (pos t) e = let f : b ≡ c + suc a = omega (arith, ints, e) in rw f (omega (arith, ints))
product_of_sum (pos c) (negsuc a) (negsuc b) (pos t) e = absurd (omega (arith, ints, e))
product_of_sum (negsuc c) (pos a) (pos b) (pos t) e = absurd (omega (arith, ints, e))
product_of_sum (negsuc c) (pos a) (negsuc b) (pos t) e = let f : b ≡ a + c = omega (arith, ints, e) in rw f (omega (arith, ints))
product_of_sum (negsuc c) (negsuc a) (pos b) (pos t) e = let f : a ≡ b + c = omega (arith, ints, e) in rw f (omega (arith, ints))
product_of_sum (negsuc c) (negsuc a) (negsuc b) (pos t) e = let f : c ≡ a + b + 1 = omega (arith, ints, e) in rw f (omega (arith, ints))
product_of_sum (pos c) (pos a) (pos b) (negsuc t) e = let f : c ≡ a + b = omega (arith, ints, e) in rw f (omega (arith, ints))
product_of_sum (pos c) (pos a) (negsuc b) (negsuc t) e = let f : a ≡ c + suc b = omega (arith, ints, e) in rw f (omega (arith, ints))
product_of_sum (pos c) (negsuc a) (pos b) (negsuc t) e = let f : b ≡ c + suc a = omega (arith, ints, e) in rw f (omega (arith, ints))
product_of_sum (pos c) (negsuc a) (negsuc b) (negsuc t) e = absurd (omega (arith, ints, e))
product_of_sum (negsuc c) (pos a) (pos b) (negsuc t) e = absurd (omega (arith, ints, e))
product_of_sum (negsuc c) (pos a) (negsuc b) (negsuc t) e = let f : b ≡ a + c = omega (arith, ints, e) in rw f (omega (arith, ints))
product_of_sum (negsuc c) (negsuc a) (pos b) (negsuc t) e = let f : a ≡ b + c = omega (arith, ints, e) in rw f (omega (arith, ints))
product_of_sum (negsuc c) (negsuc a) (negsuc b) (negsuc t) e = let f : c ≡ a + b + 1 = omega (arith, ints, e) in rw f (omega (arith, ints))

pub sum_times : (a b t : ℤ) → (a +ℤ b) *ℤ t ≡ a *ℤ t +ℤ b *ℤ t
sum_times a b t = product_of_sum (a +ℤ b) a b t refl

pub size_of_nonnegative : (z : ℤ) → pos 0 ≤ℤ z → pos (nat_abs z) ≡ z
size_of_nonnegative (pos n) h = refl
size_of_nonnegative (negsuc n) h = absurd (omega (arith, ints))

pub size_below : (z : ℤ) (n : ℕ) → pos 0 ≤ℤ z → z <ℤ pos n → nat_abs z < n
size_below (pos m) n h g = omega (arith, ints)
size_below (negsuc m) n h g = absurd (omega (arith, ints))

pub upward_stays_nonnegative : (s : ℕ) (z : ℤ) → pos 0 ≤ℤ z → pos 0 ≤ℤ (z +ℤ pos s)
upward_stays_nonnegative s z h = omega (arith, ints)

pub downward_stays_below : (n s : ℕ) (z : ℤ) → z <ℤ pos n → (z +ℤ negsuc s) <ℤ pos n
downward_stays_below n s z h = omega (arith, ints)

pub back_and_forth : (a b : ℤ) → a -ℤ b +ℤ b ≡ a
back_and_forth a b = omega (arith, ints)

pub sum_associates : (a b c : ℤ) → a +ℤ b +ℤ c ≡ a +ℤ (b +ℤ c)
sum_associates a b c = omega (arith, ints)

pub product_is_nonzero : (t s : ℤ) → t ≢ pos 0 → s ≢ pos 0 → t *ℤ s ≢ pos 0
product_is_nonzero (pos zero) s h g e = h refl
product_is_nonzero (pos (suc a)) (pos zero) h g e = g refl
product_is_nonzero (pos (suc a)) (pos (suc b)) h g e = product_is_not_none a b (suc a * suc b) refl (zero_if_integer_zero (suc a * suc b) e)
product_is_nonzero (pos (suc a)) (negsuc b) h g e = product_is_not_none a b (suc a * suc b) refl (zero_if_negation_zero (suc a * suc b) e)
product_is_nonzero (negsuc a) (pos zero) h g e = g refl
product_is_nonzero (negsuc a) (pos (suc b)) h g e = product_is_not_none a b (suc a * suc b) refl (zero_if_negation_zero (suc a * suc b) e)
product_is_nonzero (negsuc a) (negsuc b) h g e = product_is_not_none a b (suc a * suc b) refl (zero_if_integer_zero (suc a * suc b) e)

pub next_multiple : (i : ℕ) (t : ℤ) → pos (i + 1) *ℤ t ≡ pos i *ℤ t +ℤ t
next_multiple i (pos n) = omega (arith, ints)
next_multiple i (negsuc n) = omega (arith, ints)

pub next_place : (p : ℤ) (i : ℕ) (t : ℤ) → p +ℤ pos (i + 1) *ℤ t ≡ (p +ℤ pos i *ℤ t) +ℤ t
next_place p i t = rw next_multiple (omega (arith, ints))

pub zeroth_place : (p t : ℤ) → p +ℤ pos 0 *ℤ t ≡ p
zeroth_place p (pos n) = omega (arith, ints)
zeroth_place p (negsuc n) = omega (arith, ints)

pub successor_times : (i : ℕ) (t : ℤ) → pos (suc i) *ℤ t ≡ pos i *ℤ t +ℤ t
successor_times i (pos n) = omega (arith, ints)
successor_times i (negsuc n) = omega (arith, ints)
