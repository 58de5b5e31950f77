-- Bytes as words.
use Rattle.std.proofs.Common.{◌≡◌, ℕ, suc, ◌+◌, ◌*◌, ◌^◌, ◌<◌, List, [], ◌∷◌, length, take, drop, ap, ap₂, sym, ◌∙◌, refl, arith}
use Rattle.std.proofs.Math.Nat.{pow-suc}
use Rattle.std.specs.Prelude.{◌==◌, bytes_eq}
use Rattle.std.proofs.lemmas.Bool.{eq-eqb, eqb-true}
use Rattle.std.proofs.lemmas.Slice.Eq.{bytes_eq-Decides}
use Rattle.std.proofs.lemmas.List.Elements.{All-head, All-tail, All-take, All-drop}
use Rattle.pybuf_struct.specs.Digits.{little_endian}
use Rattle.pybuf_equality.proofs.Apart.{AreBytes}
use Rattle.pybuf_equality.proofs.Bools.{alike}

-- A digit that comes later counts 256 times as much.
later : (i : ℕ) (xs : List ℕ) → little_endian (suc i) xs ≡ 256 * little_endian i xs
later i [] = refl
later i (x ∷ xs) =
    let more : 256 ^ suc i ≡ 256 ^ i * 256 = pow-suc 256 i in
    let here : x * 256 ^ suc i ≡ 256 * (x * 256 ^ i) = ap (λ (p : ℕ). x * p) more ∙ grind arith in
    ap₂ (λ (m n : ℕ). m + n) here (later (suc i) xs) ∙ (let sum : 256 * (x * 256 ^ i) + 256 * little_endian (suc i) xs ≡ 256 * (x * 256 ^ i + little_endian (suc i) xs) = grind arith in sum)

-- As many bytes that spell the same number are the same bytes.
pub spelled_apart : (xs ys : List ℕ) → AreBytes xs → AreBytes ys → length xs ≡ length ys → little_endian 0 xs ≡ little_endian 0 ys → xs ≡ ys
spelled_apart [] [] small others_small long same = refl
spelled_apart [] (y ∷ ys) small others_small long same = absurd (omega (arith, long))
spelled_apart (x ∷ xs) [] small others_small long same = absurd (omega (arith, long))
spelled_apart (x ∷ xs) (y ∷ ys) small others_small long same =
    let here : x < 256 = All-head (λ b. b < 256) x xs small in
    let there : y < 256 = All-head (λ b. b < 256) y ys others_small in
    let rest = later 0 xs in
    let other_rest = later 0 ys in
    let fewer : length xs ≡ length ys = omega (arith, long) in
    let first : x ≡ y = omega (arith, here, there, rest, other_rest, same) in
    let others : little_endian 0 xs ≡ little_endian 0 ys = omega (arith, here, there, rest, other_rest, same) in
    ap₂ (λ (z : ℕ) (zs : List ℕ). z ∷ zs) first
    (spelled_apart xs ys (All-tail (λ b. b < 256) x xs small) (All-tail (λ b. b < 256) y ys others_small) fewer others)

-- The words of as many bytes are equal exactly if the bytes are.
pub words_as_bytes : (a b : ℕ) (xs ys : List ℕ) → a ≡ little_endian 0 xs → b ≡ little_endian 0 ys → AreBytes xs → AreBytes ys → length xs ≡ length ys → (a == b) ≡ bytes_eq xs ys
words_as_bytes a b xs ys one other small others_small long =
    alike (a == b) (bytes_eq xs ys)
    (λ e. (bytes_eq-Decides xs ys).1 (spelled_apart xs ys small others_small long (sym one ∙ eqb-true a b e ∙ other)))
    (λ e. eq-eqb a b (one ∙ ap (little_endian 0) ((bytes_eq-Decides xs ys).0 e) ∙ sym other))

pub piece_small : (bytes : List ℕ) (at size : ℕ) → AreBytes bytes → AreBytes (take size (drop at bytes))
piece_small bytes at size small = All-take (λ b. b < 256) size (drop at bytes) (All-drop (λ b. b < 256) at bytes small)
