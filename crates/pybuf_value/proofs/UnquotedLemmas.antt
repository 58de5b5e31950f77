-- A text between quotes is read back.
use Rattle.std.proofs.Common.{◌≡◌, ℕ, ◌<◌, ◌+◌, ◌*◌, ◌/◌, ◌%◌, zero, suc, List, [], ◌∷◌, ◌++◌, slice_index, Bool, true, false, cond, ◌==◌, ◌&&◌, not, refl, ◌∙◌, ap, sym, subst, arith, append_assoc}
use Rattle.std.specs.Prelude.{Some, None, nat_lt, nat_le}
use Rattle.std.specs.List.{flat_map, list_any, All}
use Rattle.std.specs.Char.{digit_value}
use Rattle.std.proofs.lemmas.List.Elements.{All-head, All-rest}
use Rattle.std.proofs.lemmas.Bool.{eqb-true}
use Rattle.std.proofs.lemmas.Bool.Decides.{nat_tests}
use Rattle.std.proofs.lemmas.Nat.{div-add-mod'}
use Rattle.pybuf_lemmas.proofs.Lists.{by_condition}
use Rattle.hex.specs.Hex.{lower_digits}
use Rattle.pybuf_value.specs.Quotes.{escaped_byte}
use Rattle.pybuf_value.specs.Unquoted.{before, backslash, hexadecimal, digit, with_byte, closed, read_from, unquoted}
use Rattle.pybuf_value.specs.Laws.{ReadBack}

-- the value of each of the sixteen digits
digit_read : (k : ℕ) → k < 16 → digit_value (slice_index lower_digits k) ≡ k
digit_read zero h = refl
digit_read (suc zero) h = refl
digit_read (suc (suc zero)) h = refl
digit_read (suc (suc (suc zero))) h = refl
digit_read (suc (suc (suc (suc zero)))) h = refl
digit_read (suc (suc (suc (suc (suc zero))))) h = refl
digit_read (suc (suc (suc (suc (suc (suc zero)))))) h = refl
digit_read (suc (suc (suc (suc (suc (suc (suc zero))))))) h = refl
digit_read (suc (suc (suc (suc (suc (suc (suc (suc zero)))))))) h = refl
digit_read (suc (suc (suc (suc (suc (suc (suc (suc (suc zero))))))))) h = refl
digit_read (suc (suc (suc (suc (suc (suc (suc (suc (suc (suc zero)))))))))) h = refl
digit_read (suc (suc (suc (suc (suc (suc (suc (suc (suc (suc (suc zero))))))))))) h = refl
digit_read (suc (suc (suc (suc (suc (suc (suc (suc (suc (suc (suc (suc zero)))))))))))) h = refl
digit_read (suc (suc (suc (suc (suc (suc (suc (suc (suc (suc (suc (suc (suc zero))))))))))))) h = refl
digit_read (suc (suc (suc (suc (suc (suc (suc (suc (suc (suc (suc (suc (suc (suc zero)))))))))))))) h = refl
digit_read (suc (suc (suc (suc (suc (suc (suc (suc (suc (suc (suc (suc (suc (suc (suc zero))))))))))))))) h = refl
digit_read (suc (suc (suc (suc (suc (suc (suc (suc (suc (suc (suc (suc (suc (suc (suc (suc k)))))))))))))))) h = absurd (omega (arith, h))

-- Two tests fail.
third : {A : Type 0} (x y : Bool) (a b c : A) → x ≡ false → y ≡ false → cond x a (cond y b c) ≡ c
third x y a b c h k = ap (λ t. cond t a (cond y b c)) h ∙ ap (λ t. cond t b c) k

chosen : {A : Type 0} (x : Bool) (a b : A) → x ≡ true → cond x a b ≡ a
chosen x a b h = ap (λ t. cond t a b) h

-- A byte stands for itself.
plain_read : (q b : ℕ) (text : List ℕ) → (b == q) ≡ false → (b == 92) ≡ false → read_from q before (b ∷ text) ≡ with_byte b (read_from q before text)
plain_read q b text h k = third (b == q) (b == 92) (closed text) (read_from q backslash text) (with_byte b (read_from q before text)) h k

-- Two digits stand behind `\x`, and their values are known.
digits_read : (q h l b : ℕ) (text : List ℕ) → digit_value h ≡ b / 16 → digit_value l ≡ b % 16 → b < 256 →
    read_from q hexadecimal (h ∷ l ∷ text) ≡ with_byte b (read_from q before text)
digits_read q h l b text high low small =
    chosen (nat_lt (digit_value h) 16) (read_from q (digit (digit_value h)) (l ∷ text)) None (grind (arith, nat_tests))
    ∙ (chosen (nat_lt (digit_value l) 16) (with_byte (digit_value h * 16 + digit_value l) (read_from q before text)) None (grind (arith, nat_tests))
    ∙ ap (λ n. with_byte n (read_from q before text)) (ap (λ n. n * 16 + digit_value l) high ∙ (ap (λ n. b / 16 * 16 + n) low ∙ div-add-mod' b 16)))

byte_read : (q b : ℕ) (text : List ℕ) → b < 256 →
    read_from q hexadecimal (slice_index lower_digits (b / 16) ∷ slice_index lower_digits (b % 16) ∷ text) ≡ with_byte b (read_from q before text)
byte_read q b text small =
    digits_read q (slice_index lower_digits (b / 16)) (slice_index lower_digits (b % 16)) b text
    (digit_read (b / 16) (omega arith)) (digit_read (b % 16) (omega arith)) small

-- the last choices of `escaped_byte`
abbrev in_digits : ℕ → List ℕ
in_digits b = 92 ∷ 120 ∷ slice_index lower_digits (b / 16) ∷ slice_index lower_digits (b % 16) ∷ []

abbrev from_printed : ℕ → List ℕ
from_printed b = cond (nat_le 32 b && nat_le b 126) (b ∷ []) (in_digits b)

abbrev from_return : ℕ → List ℕ
from_return b = cond (b == 13) (92 ∷ 114 ∷ []) (from_printed b)

abbrev from_feed : ℕ → List ℕ
from_feed b = cond (b == 10) (92 ∷ 110 ∷ []) (from_return b)

abbrev from_tab : ℕ → List ℕ
from_tab b = cond (b == 9) (92 ∷ 116 ∷ []) (from_feed b)

abbrev from_backslash : ℕ → ℕ → List ℕ
from_backslash q b = cond (b == 92) (92 ∷ 92 ∷ []) (from_tab b)

single_read : (b : ℕ) (text : List ℕ) → b < 256 → read_from 39 before (escaped_byte 39 b ++ text) ≡ with_byte b (read_from 39 before text)
single_read b text small =
    let G : List ℕ → Type 0 = λ s. read_from 39 before (s ++ text) ≡ with_byte b (read_from 39 before text) in
    by_condition (b == 39) (92 ∷ b ∷ []) (from_backslash 39 b) G
    (λ same. subst (λ n. read_from 39 before (92 ∷ n ∷ text) ≡ with_byte n (read_from 39 before text)) (sym (eqb-true b 39 same)) refl)
    (λ quote. by_condition (b == 92) (92 ∷ 92 ∷ []) (from_tab b) G
    (λ same. ap (λ n. with_byte n (read_from 39 before text)) (sym (eqb-true b 92 same)))
    (λ slash. by_condition (b == 9) (92 ∷ 116 ∷ []) (from_feed b) G
    (λ same. ap (λ n. with_byte n (read_from 39 before text)) (sym (eqb-true b 9 same)))
    (λ tab. by_condition (b == 10) (92 ∷ 110 ∷ []) (from_return b) G
    (λ same. ap (λ n. with_byte n (read_from 39 before text)) (sym (eqb-true b 10 same)))
    (λ feed. by_condition (b == 13) (92 ∷ 114 ∷ []) (from_printed b) G
    (λ same. ap (λ n. with_byte n (read_from 39 before text)) (sym (eqb-true b 13 same)))
    (λ carriage. by_condition (nat_le 32 b && nat_le b 126) (b ∷ []) (in_digits b) G
    (λ printed. plain_read 39 b text quote slash)
    (λ unprinted. byte_read 39 b text small))))))

double_read : (b : ℕ) (text : List ℕ) → b < 256 → read_from 34 before (escaped_byte 34 b ++ text) ≡ with_byte b (read_from 34 before text)
double_read b text small =
    let G : List ℕ → Type 0 = λ s. read_from 34 before (s ++ text) ≡ with_byte b (read_from 34 before text) in
    by_condition (b == 34) (92 ∷ b ∷ []) (from_backslash 34 b) G
    (λ same. subst (λ n. read_from 34 before (92 ∷ n ∷ text) ≡ with_byte n (read_from 34 before text)) (sym (eqb-true b 34 same)) refl)
    (λ quote. by_condition (b == 92) (92 ∷ 92 ∷ []) (from_tab b) G
    (λ same. ap (λ n. with_byte n (read_from 34 before text)) (sym (eqb-true b 92 same)))
    (λ slash. by_condition (b == 9) (92 ∷ 116 ∷ []) (from_feed b) G
    (λ same. ap (λ n. with_byte n (read_from 34 before text)) (sym (eqb-true b 9 same)))
    (λ tab. by_condition (b == 10) (92 ∷ 110 ∷ []) (from_return b) G
    (λ same. ap (λ n. with_byte n (read_from 34 before text)) (sym (eqb-true b 10 same)))
    (λ feed. by_condition (b == 13) (92 ∷ 114 ∷ []) (from_printed b) G
    (λ same. ap (λ n. with_byte n (read_from 34 before text)) (sym (eqb-true b 13 same)))
    (λ carriage. by_condition (nat_le 32 b && nat_le b 126) (b ∷ []) (in_digits b) G
    (λ printed. plain_read 34 b text quote slash)
    (λ unprinted. byte_read 34 b text small))))))

all_read : (q : ℕ) → ((b : ℕ) (text : List ℕ) → b < 256 → read_from q before (escaped_byte q b ++ text) ≡ with_byte b (read_from q before text)) →
    read_from q before (q ∷ []) ≡ Some [] → (bytes : List ℕ) → All (λ b. b < 256) bytes →
    read_from q before (flat_map (escaped_byte q) bytes ++ q ∷ []) ≡ Some bytes
all_read q one_read end [] all = end
all_read q one_read end (b ∷ bytes) all =
    let rest : List ℕ = flat_map (escaped_byte q) bytes ++ q ∷ [] in
    ap (read_from q before) (append_assoc (escaped_byte q b) (flat_map (escaped_byte q) bytes) (q ∷ []))
    ∙ (one_read b rest (All-head (λ b. b < 256) b bytes all)
    ∙ ap (with_byte b) (all_read q one_read end bytes (All-rest (λ b. b < 256) b bytes (b ∷ bytes) refl all)))

by_quote : (double : Bool) (bytes : List ℕ) → All (λ b. b < 256) bytes →
    unquoted (cond double 34 39 ∷ flat_map (escaped_byte (cond double 34 39)) bytes ++ cond double 34 39 ∷ []) ≡ Some bytes
by_quote true bytes all = all_read 34 double_read refl bytes all
by_quote false bytes all = all_read 39 single_read refl bytes all

pub read_back : (bytes : List ℕ) → ReadBack bytes
read_back bytes all = by_quote (list_any (λ b. b == 39) bytes && not (list_any (λ b. b == 34) bytes)) bytes all
