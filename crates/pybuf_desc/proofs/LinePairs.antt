-- Lines of two walks side by side.
use Rattle.std.proofs.Common.{◌≡◌, ℕ, suc, List, [], ◌∷◌, ◌++◌, length, ap, ap₂, sym, ◌∙◌, refl, arith}
use Rattle.std.specs.Prelude.{Option, None, Some, MatchOption, IfSome}
use Rattle.std.specs.List.{zip}
use Rattle.std.specs.declared.ops.Range.{Range}
use Rattle.pybuf_desc.specs.Facts.{length-line}
use Rattle.pybuf_desc.specs.declared.line.SegmentLine.{SegmentLine}
use Rattle.pybuf_desc.specs.SegmentLines.{ranges_of_line}

zip_both : (xs ys us vs : List (Range ℕ)) → length xs ≡ length ys → zip (xs ++ us) (ys ++ vs) ≡ zip xs ys ++ zip us vs
zip_both [] [] us vs e = refl
zip_both [] (y ∷ ys) us vs e = absurd (let wrong : 0 ≡ suc (length ys) = e in omega (arith, wrong))
zip_both (x ∷ xs) [] us vs e = absurd (let wrong : suc (length xs) ≡ 0 = e in omega (arith, wrong))
zip_both (x ∷ xs) (y ∷ ys) us vs e = ap (λ ps. (x, y) ∷ ps) (zip_both xs ys us vs (let fewer : length xs ≡ length ys = omega (arith, e) in fewer))

pub lines_zipped : (r : Option (SegmentLine × SegmentLine)) (one other new_one new_other : List (Range ℕ))
    → MatchOption r (new_one ≡ one) (λ lines. one ≡ ranges_of_line lines.0 ++ new_one) → MatchOption r (new_other ≡ other) (λ lines. other ≡ ranges_of_line lines.1 ++ new_other)
    → IfSome r (λ lines. lines.0.count ≡ lines.1.count)
    → MatchOption r (zip new_one new_other ≡ zip one other) (λ lines. zip one other ≡ zip (ranges_of_line lines.0) (ranges_of_line lines.1) ++ zip new_one new_other)
lines_zipped None one other new_one new_other first second as_many = ap₂ zip first second
lines_zipped (Some lines) one other new_one new_other first second as_many =
    ap₂ zip first second
    ∙ zip_both (ranges_of_line lines.0) (ranges_of_line lines.1) new_one new_other (length-line lines.0 ∙ as_many ∙ sym (length-line lines.1))
